-- Words that are an order to play name one worker or more.
--
-- - `by_count`, `by_words`, `by_command`: for a word of digits, the matches of `play`, and those of
--   a command;
-- - `has_workers`: the law; `read_workers`: the order that is read.
use Rattle.std.proofs.Common.{◌≡◌, ◌<◌, ◌≤◌, ℕ, Bool, true, false, List, [], ◌∷◌, Option, Some, None, refl, subst, arith, leb-true}
use Rattle.std.specs.Prelude.{◌&&◌, if◌then◌else◌, codes, nat_le, option_map, option_and_then}
use Rattle.std.specs.Str.{bytes_eq}
use Rattle.std.proofs.lemmas.Bool.{and_parts}
use Rattle.clap.specs.Words.{Row, Text, fault_of, first_of, subcommand_of}
use Rattle.clap.specs.Walk.{is_empty}
use Rattle.cilk_syntax.specs.Lexing.{all_digits, value_of}
use Rattle.cilk_types.specs.declared.limits.TheConstants.{MAX_WORKERS}
use Rattle.cilk_commands.specs.Serving.{HasWorkers}
use Rattle.cilk_messages.specs.Words as words
use Rattle.cilk_messages.specs.Words.{Certify, Check, Judge, Play, Requested, Run, Settle, certify_with, check_with, cilk_app, is_set, judge_with, manner_in, order_by, order_in, paths_in, play_with, run_with, script_with, settle_with, workers_in}

counted : (n : ℕ) (b : Bool) → (b ≡ true → 1 ≤ n) → (workers : ℕ) → (if b then Some n else None) ≡ Some workers → 0 < workers
counted n true some workers e = let z : Some n ≡ Some workers = e in let q : n ≡ workers = cc in let l = some refl in omega (arith, q, l)
counted n false some workers e = let z : None ≡ Some workers = e in let f : ⊥ = cc in absurd f

by_count : (digits : Option Text) (workers : ℕ) → workers_in digits ≡ Some workers → 0 < workers
by_count None workers e = let z : Some 2 ≡ Some workers = e in let q : 2 ≡ workers = cc in omega (arith, q)
by_count (Some digits) workers e =
    counted (value_of digits) (all_digits digits && (nat_le 1 (value_of digits) && nat_le (value_of digits) MAX_WORKERS))
    (λ h. let a = and_parts (all_digits digits) (nat_le 1 (value_of digits) && nat_le (value_of digits) MAX_WORKERS) h in let b = and_parts (nat_le 1 (value_of digits)) (nat_le (value_of digits) MAX_WORKERS) a.1 in leb-true 1 (value_of digits) b.0)
    workers e

manned : (strict : Bool) (program script : Text) (input : Option Text) (o : Option ℕ) → ((workers : ℕ) → o ≡ Some workers → 0 < workers)
    → HasWorkers (option_map (λ manner. Play program script manner input) (option_map (λ workers. record { workers = workers; is_strict = strict }) o))
manned strict program script input None h = tt
manned strict program script input (Some workers) h = h workers refl

by_words : (rows : List Row) (script : Text) → HasWorkers (script_with rows script)
by_words rows script = by (paths_in rows)
  where
    by : (o : Option (Text × Option Text)) → HasWorkers (option_and_then (λ paths. option_map (λ manner. Play paths.0 script manner paths.1) (manner_in rows)) o)
    by None = tt
    by (Some paths) = manned (is_set (first_of (codes "strict") rows)) paths.0 script paths.1 (workers_in (first_of (codes "workers") rows)) (by_count (first_of (codes "workers") rows))

by_play : (rows : List Row) → HasWorkers (play_with rows)
by_play rows = by (first_of (codes "script") rows)
  where
    by : (o : Option Text) → HasWorkers (option_and_then (script_with rows) o)
    by None = tt
    by (Some script) = by_words rows script

by_run : (rows : List Row) → HasWorkers (run_with rows)
by_run rows = by (paths_in rows)
  where
    by : (o : Option (Text × Option Text)) → HasWorkers (option_map (λ paths. Run (words.File paths.0) paths.1) o)
    by None = tt
    by (Some paths) = tt

by_certify : (rows : List Row) → HasWorkers (certify_with rows)
by_certify rows = by (paths_in rows)
  where
    by : (o : Option (Text × Option Text)) → HasWorkers (option_map (λ paths. Certify paths.0 paths.1) o)
    by None = tt
    by (Some paths) = tt

by_settle : (rows : List Row) → HasWorkers (settle_with rows)
by_settle rows = by (paths_in rows)
  where
    by : (o : Option (Text × Option Text)) → HasWorkers (option_map (λ paths. Settle paths.0 paths.1) o)
    by None = tt
    by (Some paths) = tt

by_judge : (rows : List Row) → HasWorkers (judge_with rows)
by_judge rows = by (first_of (codes "trace") rows)
  where
    by : (o : Option Text) → HasWorkers (option_map (λ trace. Judge trace (first_of (codes "sites") rows)) o)
    by None = tt
    by (Some trace) = tt

by_check : (rows : List Row) → HasWorkers (check_with rows)
by_check rows = by (first_of (codes "certificate") rows)
  where
    given : (certificate : Text) (o : Option (Text × Option Text)) → HasWorkers (option_map (λ paths. Check paths.0 certificate paths.1) o)
    given certificate None = tt
    given certificate (Some paths) = tt

    by : (o : Option Text) → HasWorkers (option_and_then (λ certificate. option_map (λ paths. Check paths.0 certificate paths.1) (paths_in rows)) o)
    by None = tt
    by (Some certificate) = given certificate (paths_in rows)

chosen : (b : Bool) (x y : Option Requested) → HasWorkers x → HasWorkers y → HasWorkers (if b then x else y)
chosen true x y h k = h
chosen false x y h k = k

by_command : (entered : Option (Text × List Row)) → HasWorkers (order_by entered)
by_command None = tt
by_command (Some p) =
    let j = chosen (bytes_eq p.0 (codes "judge")) (judge_with p.1) None (by_judge p.1) tt in
    let s = chosen (bytes_eq p.0 (codes "settle")) (settle_with p.1) _ (by_settle p.1) j in
    let a = chosen (bytes_eq p.0 (codes "play")) (play_with p.1) _ (by_play p.1) s in
    let b = chosen (bytes_eq p.0 (codes "check")) (check_with p.1) _ (by_check p.1) a in
    let c = chosen (bytes_eq p.0 (codes "certify")) (certify_with p.1) _ (by_certify p.1) b in
    chosen (bytes_eq p.0 (codes "run")) (run_with p.1) _ (by_run p.1) c

pub has_workers : (line : List Text) → HasWorkers (order_in line)
unfolding order_in
has_workers [] = tt
has_workers (w ∷ line) = chosen (is_empty (fault_of cilk_app (w ∷ line))) (order_by (subcommand_of cilk_app (w ∷ line))) None (by_command (subcommand_of cilk_app (w ∷ line))) tt

pub read_workers : (line : List Text) (asked : Requested) → order_in line ≡ Some asked → HasWorkers (Some asked)
read_workers line asked is = subst HasWorkers is (has_workers line)
