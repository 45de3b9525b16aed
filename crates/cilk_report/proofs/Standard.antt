-- Standard input is read only where no words are left.
--
-- - `named_file`: each command names a file;
-- - `some_words`: words that aren't empty have no order that reads standard input;
-- - `some_left`: where a word is left without those that add a text, there was one;
-- - `measured_file`: the program of a run to measure is a file; `some_check`: the words of a check aren't empty.
use Rattle.std.proofs.Common.{◌≡◌, Bool, true, false, List, [], ◌∷◌, Option, Some, None, refl, ap, subst}
use Rattle.std.specs.Prelude.{◌≢◌, if◌then◌else◌, codes, option_map, option_and_then}
use Rattle.std.specs.Str.{bytes_eq}
use Rattle.clap.specs.Words.{Row, fault_of, first_of, subcommand_of}
use Rattle.clap.specs.Walk.{is_empty}
use Rattle.cilk_commands.specs.Replies.{Text}
use Rattle.cilk_commands.specs.Serving.{IsStandard, ReadsStandard}
use Rattle.cilk_messages.specs.Asked.{measured_run, run_of, unflagged, words_of_check, words_of_run}
use Rattle.cilk_messages.specs.declared.words.Manner.{Manner}
use Rattle.cilk_messages.specs.Words.{Certify, Check, File, Judge, Origin, Play, Requested, Run, Settle, certify_with, check_with, cilk_app, judge_with, manner_in, named, order_by, order_in, paths_in, play_with, run_with, script_with, settle_with}

mapped : (A : Type 0) (f : A → Requested) → ((a : A) → ReadsStandard (Some (f a)) → ⊥) → (o : Option A) → ReadsStandard (option_map f o) → ⊥
mapped A f never None h = h
mapped A f never (Some a) h = never a h

chained : (A : Type 0) (f : A → Option Requested) → ((a : A) → ReadsStandard (f a) → ⊥) → (o : Option A) → ReadsStandard (option_and_then f o) → ⊥
chained A f never None h = h
chained A f never (Some a) h = never a h

chosen : (b : Bool) (x y : Option Requested) → (ReadsStandard x → ⊥) → (ReadsStandard y → ⊥) → ReadsStandard (if b then x else y) → ⊥
chosen true x y left right h = left h
chosen false x y left right h = right h

named_file : (p : Text × List Row) → ReadsStandard (named p) → ⊥
named_file p =
    let judged = mapped Text (λ trace. Judge trace (first_of (codes "sites") p.1)) (λ a h. h) (first_of (codes "trace") p.1) in
    let settled = mapped (Text × Option Text) (λ paths. Settle paths.0 paths.1) (λ a h. h) (paths_in p.1) in
    let played =
    chained Text (script_with p.1) (λ script. chained (Text × Option Text) (λ paths. option_map (λ manner. Play paths.0 script manner paths.1) (manner_in p.1))
    (λ paths. mapped Manner (λ manner. Play paths.0 script manner paths.1) (λ a h. h) (manner_in p.1)) (paths_in p.1)) (first_of (codes "script") p.1) in
    let checked =
    chained Text (λ certificate. option_map (λ paths. Check paths.0 certificate paths.1) (paths_in p.1))
    (λ certificate. mapped (Text × Option Text) (λ paths. Check paths.0 certificate paths.1) (λ a h. h) (paths_in p.1)) (first_of (codes "certificate") p.1) in
    let certified = mapped (Text × Option Text) (λ paths. Certify paths.0 paths.1) (λ a h. h) (paths_in p.1) in
    let run = mapped (Text × Option Text) (λ paths. Run (File paths.0) paths.1) (λ a h. h) (paths_in p.1) in
    let j = chosen (bytes_eq p.0 (codes "judge")) (judge_with p.1) None judged (λ h. h) in
    let s = chosen (bytes_eq p.0 (codes "settle")) (settle_with p.1) _ settled j in
    let a = chosen (bytes_eq p.0 (codes "play")) (play_with p.1) _ played s in
    let b = chosen (bytes_eq p.0 (codes "check")) (check_with p.1) _ checked a in
    let c = chosen (bytes_eq p.0 (codes "certify")) (certify_with p.1) _ certified b in
    chosen (bytes_eq p.0 (codes "run")) (run_with p.1) _ run c

pub some_words : (words : List Text) → words ≢ [] → ReadsStandard (order_in words) → ⊥
unfolding order_in
some_words [] some h = some refl
some_words (w ∷ words) some h =
    chosen (is_empty (fault_of cilk_app (w ∷ words))) (order_by (subcommand_of cilk_app (w ∷ words))) None
    (chained _ named named_file (subcommand_of cilk_app (w ∷ words))) (λ h. h) h

pub some_left : (words : List Text) → unflagged words ≢ [] → words ≢ []
some_left words some none = some (ap unflagged none)

file_run : (o : Option Requested) (run : Origin × Option Text) → (ReadsStandard o → ⊥) → run_of o ≡ Some run → IsStandard run.0 → ⊥
file_run (Some (Run program input)) run never same h = let q : run.0 ≡ program = cc in never (subst IsStandard q h)
file_run (Some (Certify program input)) run never same h = let f : ⊥ = cc in f
file_run (Some (Check program certificate input)) run never same h = let f : ⊥ = cc in f
file_run (Some (Play program script manner input)) run never same h = let f : ⊥ = cc in f
file_run (Some (Settle program input)) run never same h = let f : ⊥ = cc in f
file_run (Some (Judge trace sites)) run never same h = let f : ⊥ = cc in f
file_run None run never same h = let f : ⊥ = cc in f

pub measured_file : (words : List Text) (run : Origin × Option Text) → measured_run words ≡ Some run → IsStandard run.0 → ⊥
measured_file words run same h = file_run (order_in (words_of_run words)) run (some_words (words_of_run words) (λ none. let f : ⊥ = cc in f)) same h

pub some_check : (words : List Text) → words_of_check words ≢ []
some_check words none = let f : ⊥ = cc in f
