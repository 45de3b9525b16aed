-- From clap's matches to orders.
use Rattle.std.proofs.Common.{◌≡◌, ℕ, Bool, List, [], ◌∷◌, Option, Some, None, option_map, option_and_then, refl, sym, ap, ap₂, ◌∙◌, subst, codes, true, false, length, inl, inr, arith, rules}
use Rattle.std.specs.Prelude.{if◌then◌else◌, ◌||◌, Result, Ok, Err, IfOk}
use Rattle.std.specs.Borrow.{Bor}
use Rattle.clap.specs.Words.{AddsSubcommand, App, HasMatchesOf, Row, Text, app_of, fault_of, first_of, first_value, is_simple, is_simple_and_free, kind_of, rows_of, subcommand_of, subcommand_rows_of, with_subcommand}
use Rattle.clap.specs.Kinds.{HasKind, IsAmong, Kinds}
use Rattle.clap.specs.Walk.{is_empty}
use Rattle.clap.specs.declared.builder.command.Command.{Command}
use Rattle.clap.specs.declared.error.Error.{Error}
use Rattle.clap.specs.declared.error.kind.ErrorKind.{ErrorKind}
use Rattle.clap.specs.declared.parser.matches.ArgMatches.{ArgMatches}
use Rattle.clap.specs.declared.parser.matches.Found.{Found}
use Rattle.clap.proofs.OnLiterals.{clap_on_literals}
use Rattle.clap.proofs.WalkLemmas.{first_value-rows}
use Rattle.cilk_messages.specs.declared.words.Manner.{Manner}
use Rattle.cilk_messages.specs.declared.words.Order.{Order}
use Rattle.cilk_messages.specs.Words.{order_view, Requested, HasShape, Check, IsRefusal, IsWordsFault, Judge, Play, Run, Standard, check_with, cilk_app, is_set, judge_with, manner_in, order_by, order_in, paths_in, paths_view, play_with, script_with, texts, workers_in}
use Rattle.cilk_messages.specs.declared.words.WordsFault.{WordsFault}
use Rattle.cilk_messages.specs.declared.words.WordsFault.TheVariants.{Usage, Memory}

-- matches with no program
pub no_paths : (f : Found) (o : Option (Bor Text)) → option_map (λ s. s.now) o ≡ first_value f (codes "program") → o ≡ None
    → paths_in (rows_of f) ≡ None
no_paths f o h e =
    let none : first_of (codes "program") (rows_of f) ≡ None =
    sym (first_value-rows f (codes "program")) ∙ sym h ∙ ap (option_map (λ (s : Bor Text). s.now)) e in
    ap (option_map (λ (program : Text). (program, first_of (codes "input") (rows_of f)))) none

-- matches with a program
pub some_paths : (f : Found) (o i : Option (Bor Text)) (p : Bor Text)
    → option_map (λ s. s.now) o ≡ first_value f (codes "program") → o ≡ Some p
    → option_map (λ s. s.now) i ≡ first_value f (codes "input") → paths_in (rows_of f) ≡ Some (p.now, option_map (λ s. s.now) i)
some_paths f o i p h e k =
    let some : first_of (codes "program") (rows_of f) ≡ Some p.now =
    sym (first_value-rows f (codes "program")) ∙ sym h ∙ ap (option_map (λ (s : Bor Text). s.now)) e in
    let input : first_of (codes "input") (rows_of f) ≡ option_map (λ (s : Bor Text). s.now) i =
    sym (first_value-rows f (codes "input")) ∙ sym k in
    ap (option_map (λ (program : Text). (program, first_of (codes "input") (rows_of f)))) some
    ∙ ap (λ (x : Option Text). Some (p.now, x)) input

-- the order of the paths that were found
pub asked_by : (order : Text × Option Text → Requested) (rows : List Row) (o o' : Option (Bor Text × Option (Bor Text)))
    → option_map paths_view o ≡ paths_in rows → o ≡ o' → option_map order (option_map paths_view o') ≡ option_map order (paths_in rows)
asked_by order rows o o' h e = ap (option_map order) (ap (option_map paths_view) (sym e) ∙ h)

-- the order with a certificate and these paths
abbrev pub asked_of : List Row → Option Text → Option Requested
asked_of rows path = option_and_then (λ certificate. option_map (λ paths. Check paths.0 certificate paths.1) (paths_in rows)) path

-- matches with no certificate
pub no_certificate : (f : Found) (o : Option (Bor Text)) → option_map (λ s. s.now) o ≡ first_value f (codes "certificate")
    → o ≡ None → check_with (rows_of f) ≡ None
no_certificate f o h e =
    ap (asked_of (rows_of f)) (sym (first_value-rows f (codes "certificate")) ∙ sym h ∙ ap (option_map (λ (s : Bor Text). s.now)) e)

-- matches with a certificate
pub some_certificate : (f : Found) (o : Option (Bor Text)) (c : Bor Text)
    → option_map (λ s. s.now) o ≡ first_value f (codes "certificate") → o ≡ Some c
    → check_with (rows_of f) ≡ option_map (λ paths. Check paths.0 c.now paths.1) (paths_in (rows_of f))
some_certificate f o c h e =
    ap (asked_of (rows_of f)) (sym (first_value-rows f (codes "certificate")) ∙ sym h ∙ ap (option_map (λ (s : Bor Text). s.now)) e)

-- matches with no trace
pub no_trace : (f : Found) (o : Option (Bor Text)) → option_map (λ s. s.now) o ≡ first_value f (codes "trace") → o ≡ None
    → judge_with (rows_of f) ≡ None
no_trace f o h e =
    ap (option_map (λ (trace : Text). Judge trace (first_of (codes "sites") (rows_of f))))
    (sym (first_value-rows f (codes "trace")) ∙ sym h ∙ ap (option_map (λ (s : Bor Text). s.now)) e)

-- matches with a trace
pub some_trace : (f : Found) (o i : Option (Bor Text)) (p : Bor Text)
    → option_map (λ s. s.now) o ≡ first_value f (codes "trace") → o ≡ Some p
    → option_map (λ s. s.now) i ≡ first_value f (codes "sites") → judge_with (rows_of f) ≡ Some (Judge p.now (option_map (λ s. s.now) i))
some_trace f o i p h e k =
    let some : first_of (codes "trace") (rows_of f) ≡ Some p.now =
    sym (first_value-rows f (codes "trace")) ∙ sym h ∙ ap (option_map (λ (s : Bor Text). s.now)) e in
    let sites : first_of (codes "sites") (rows_of f) ≡ option_map (λ (s : Bor Text). s.now) i =
    sym (first_value-rows f (codes "sites")) ∙ sym k in
    ap (option_map (λ (trace : Text). Judge trace (first_of (codes "sites") (rows_of f)))) some
    ∙ ap (λ (x : Option Text). Some (Judge p.now x)) sites

-- matches with no script
pub no_script : (f : Found) (o : Option (Bor Text)) → option_map (λ s. s.now) o ≡ first_value f (codes "script") → o ≡ None
    → play_with (rows_of f) ≡ None
no_script f o h e =
    ap (option_and_then (script_with (rows_of f))) (sym (first_value-rows f (codes "script")) ∙ sym h ∙ ap (option_map (λ (s : Bor Text). s.now)) e)

-- matches with a script
pub some_script : (f : Found) (o : Option (Bor Text)) (s : Bor Text) → option_map (λ s. s.now) o ≡ first_value f (codes "script") → o ≡ Some s
    → play_with (rows_of f) ≡ script_with (rows_of f) s.now
some_script f o s h e =
    ap (option_and_then (script_with (rows_of f))) (sym (first_value-rows f (codes "script")) ∙ sym h ∙ ap (option_map (λ (s : Bor Text). s.now)) e)

-- the order with a script, these paths and this manner
abbrev pub played_by : Text → Option Manner → Text × Option Text → Option Requested
played_by script manner paths = option_map (λ m. Play paths.0 script m paths.1) manner

-- a script without a program
pub no_script_paths : (rows : List Row) (script : Text) (o : Option (Bor Text × Option (Bor Text))) → option_map paths_view o ≡ paths_in rows → o ≡ None
    → script_with rows script ≡ None
no_script_paths rows script o h e = ap (option_and_then (played_by script (manner_in rows))) (sym h ∙ ap (option_map paths_view) e)

-- a script with a program and a manner
pub some_script_paths : (rows : List Row) (script : Text) (o : Option (Bor Text × Option (Bor Text))) (p : Bor Text × Option (Bor Text))
    (manner manner' : Option Manner) → option_map paths_view o ≡ paths_in rows → o ≡ Some p → manner ≡ manner_in rows → manner ≡ manner'
    → script_with rows script ≡ played_by script manner' (paths_view p)
some_script_paths rows script o p manner manner' h e k d =
    ap (option_and_then (played_by script (manner_in rows))) (sym h ∙ ap (option_map paths_view) e)
    ∙ ap (λ (m : Option Manner). played_by script m (paths_view p)) (sym k ∙ d)

-- the manner that two words say, if the number of workers is one
pub manner_of : (f : Found) (flag word : Option (Bor Text)) (strict : Bool) (workers workers' : Option ℕ) → option_map (λ s. s.now) flag ≡ first_value f (codes "strict")
    → strict ≡ is_set (option_map (λ s. s.now) flag) → option_map (λ s. s.now) word ≡ first_value f (codes "workers")
    → workers ≡ workers_in (option_map (λ s. s.now) word) → workers ≡ workers'
    → manner_in (rows_of f) ≡ option_map (λ n. record { workers = n; is_strict = strict }) workers'
manner_of f flag word strict workers workers' h k e l d =
    ap₂ (λ (n : Option ℕ) (b : Bool). option_map (λ n. record { workers = n; is_strict = b }) n)
    (ap workers_in (sym (first_value-rows f (codes "workers")) ∙ sym e) ∙ sym l ∙ d)
    (ap is_set (sym (first_value-rows f (codes "strict")) ∙ sym h) ∙ sym k)

-- a program of commands with one more
pub with_one : (c s r : Command) (a b : App) → HasShape c a → HasShape s b → AddsSubcommand c s r
    → HasShape r (with_subcommand a b.top)
with_one c s r a b h k add =
    (add.shape k.1 ∙ ap₂ (λ (x y : App). with_subcommand x y.top) h.0 k.0, add.globals ∙ ap₂ (λ x y. x || y) h.1 k.1)

pub with_last : {E : Type 0} (c s : Command) (x : Result Command E) (a b : App) → HasShape c a → HasShape s b
    → IfOk x (λ r. AddsSubcommand c s r) → IfOk x (λ r. HasShape r (with_subcommand a b.top))
with_last c s (Ok r) a b h k add = with_one c s r a b h k add
with_last c s (Err e) a b h k add = tt

simple : is_simple cilk_app ≡ true
unfolding clap_on_literals
simple = refl

free : is_simple_and_free cilk_app ≡ true
unfolding clap_on_literals
free = refl

pub free_shape : (c : Command) → app_of c ≡ cilk_app → is_simple_and_free (app_of c) ≡ true
free_shape c shape = ap is_simple_and_free shape ∙ free

-- no words
pub order_of_none : (words : List (Bor Text)) → length words ≡ 0 → order_in (texts words) ≡ Some (Run Standard None)
unfolding order_in
order_of_none [] h = refl
order_of_none (w ∷ words) h = absurd (omega (arith, h))

-- words that clap matches
pub order_of_matches : (c : Command) (words : List (Bor Text)) (m : ArgMatches) → app_of c ≡ cilk_app → (length words ≡ 0 → ⊥)
    → fault_of (app_of c) (texts words) ≡ [] → HasMatchesOf (app_of c) (texts words) m → order_in (texts words) ≡ order_by (subcommand_rows_of m)
unfolding order_in
order_of_matches c [] m shape some fault met = absurd (some refl)
order_of_matches c (w ∷ words) m shape some fault met =
    let right : fault_of cilk_app (texts (w ∷ words)) ≡ [] = subst (λ (a : App). fault_of a (texts (w ∷ words)) ≡ []) shape fault in
    let rows : subcommand_rows_of m ≡ subcommand_of cilk_app (texts (w ∷ words)) = (subst (λ (a : App). HasMatchesOf a (texts (w ∷ words)) m) shape met simple).1 in
    ap (λ (kinds : Kinds). if is_empty kinds then order_by (subcommand_of cilk_app (texts (w ∷ words))) else None) right ∙ ap order_by (sym rows)

among : (k : ErrorKind) (kinds : Kinds) → IsAmong k kinds → is_empty kinds ≡ false
among k [] h = absurd h
among k (x ∷ kinds) h = search rules

-- words that clap refuses
pub order_of_refused : (c : Command) (words : List (Bor Text)) (e : Error) → app_of c ≡ cilk_app → (length words ≡ 0 → ⊥)
    → HasKind (fault_of (app_of c) (texts words)) e → (f : WordsFault) → IsRefusal (kind_of e) f → IsWordsFault (texts words) f
unfolding order_in
order_of_refused c [] e shape some kinds f r = absurd (some refl)
order_of_refused c (w ∷ words) e shape some kinds Memory r = tt
order_of_refused c (w ∷ words) e shape some kinds (Usage text) r =
    elim (subst (λ (a : App). HasKind (fault_of a (texts (w ∷ words))) e) shape kinds) [
      | inl h ↦ absurd (r h)
      | inr h ↦ rw (among _ _ h) refl
    ]

-- the order that was found
pub order_found : (o : Option Order) (p : Order) (words : List Text) → order_in words ≡ option_map order_view o → o ≡ Some p → order_in words ≡ Some (order_view p)
order_found o p words h e = h ∙ ap (option_map order_view) e

-- there is no order
pub order_lost : (o : Option Order) (words : List Text) → order_in words ≡ option_map order_view o → o ≡ None → order_in words ≡ None
order_lost o words h e = h ∙ ap (option_map order_view) e

-- each fault is one of words that are no order
pub no_order : (words : List Text) (f : WordsFault) → order_in words ≡ None → IsWordsFault words f
no_order words (Usage text) h = h
no_order words Memory h = tt
