-- From clap's matches to an order.
--
-- - `no_program`, `no_certificate`, `both_texts`: the texts in the matches;
-- - `no_texts`, `all_there`: the order of these texts;
-- - `free_shape`, `order_of_matches`, `order_of_refused`, `order_found`, `order_lost`: the order
--   of words that clap matches or refuses.
use Rattle.std.proofs.Common.{◌≡◌, ℕ, List, [], ◌∷◌, Option, Some, None, option_map, option_and_then, refl, sym, ap, ap₂, ◌∙◌, subst, codes, true, false, inl, inr, rules}
use Rattle.std.specs.Prelude.{if◌then◌else◌}
use Rattle.std.specs.Borrow.{Bor}
use Rattle.clap.specs.Words.{App, HasMatchesOf, Row, Text, app_of, fault_of, first_of, first_value, is_simple, is_simple_and_free, kind_of, rows_of, subcommand_of, subcommand_rows_of}
use Rattle.clap.specs.Kinds.{HasKind, IsAmong, Kinds}
use Rattle.clap.specs.Walk.{is_empty}
use Rattle.clap.specs.declared.builder.command.Command.{Command}
use Rattle.clap.specs.declared.error.Error.{Error}
use Rattle.clap.specs.declared.error.kind.ErrorKind.{ErrorKind}
use Rattle.clap.specs.declared.parser.matches.ArgMatches.{ArgMatches}
use Rattle.clap.specs.declared.parser.matches.Found.{Found}
use Rattle.clap.proofs.OnLiterals.{clap_on_literals}
use Rattle.clap.proofs.WalkLemmas.{first_value-rows}
use Rattle.cilk_messages.specs.Words.{IsRefusal, texts, workers_in}
use Rattle.cilk_messages.specs.declared.words.WordsFault.{WordsFault}
use Rattle.cilk_messages.specs.declared.words.WordsFault.TheVariants.{Usage, Memory}
use Rattle.cilk_messages.specs.ThreadsWords.{IsWordsFault, Requested, order_by, order_in, order_view, parallel_app, requested, texts_in, texts_view, threads_with}
use Rattle.cilk_messages.specs.declared.threads_words.Order.{Order}

-- the text of a name in the matches
pub named : (f : Found) (name : Text) (o : Option (Bor Text)) → option_map (λ s. s.now) o ≡ first_value f name → first_of name (rows_of f) ≡ option_map (λ s. s.now) o
named f name o h = sym (first_value-rows f name) ∙ sym h

abbrev pub with_program : List Row → Option Text → Option (Text × Text)
with_program rows path = option_and_then (λ program. option_map (λ certificate. (program, certificate)) (first_of (codes "certificate") rows)) path

pub no_program : (f : Found) (o : Option (Bor Text)) → option_map (λ s. s.now) o ≡ first_value f (codes "program") → o ≡ None → texts_in (rows_of f) ≡ None
no_program f o h e = ap (with_program (rows_of f)) (named f (codes "program") o h ∙ ap (option_map (λ (s : Bor Text). s.now)) e)

pub no_certificate : (f : Found) (o i : Option (Bor Text)) (p : Bor Text) → option_map (λ s. s.now) o ≡ first_value f (codes "program") → o ≡ Some p
    → option_map (λ s. s.now) i ≡ first_value f (codes "certificate") → i ≡ None → texts_in (rows_of f) ≡ None
no_certificate f o i p h e k d =
    ap (with_program (rows_of f)) (named f (codes "program") o h ∙ ap (option_map (λ (s : Bor Text). s.now)) e)
    ∙ ap (option_map (λ (certificate : Text). (p.now, certificate))) (named f (codes "certificate") i k ∙ ap (option_map (λ (s : Bor Text). s.now)) d)

pub both_texts : (f : Found) (o i : Option (Bor Text)) (p q : Bor Text) → option_map (λ s. s.now) o ≡ first_value f (codes "program") → o ≡ Some p
    → option_map (λ s. s.now) i ≡ first_value f (codes "certificate") → i ≡ Some q → texts_in (rows_of f) ≡ Some (p.now, q.now)
both_texts f o i p q h e k d =
    ap (with_program (rows_of f)) (named f (codes "program") o h ∙ ap (option_map (λ (s : Bor Text). s.now)) e)
    ∙ ap (option_map (λ (certificate : Text). (p.now, certificate))) (named f (codes "certificate") i k ∙ ap (option_map (λ (s : Bor Text). s.now)) d)

-- the order of these texts
abbrev pub with_texts : List Row → Option ℕ → Option (Text × Text) → Option Requested
with_texts rows workers t =
    option_and_then (λ t. option_map (λ workers. requested t workers (first_of (codes "input") rows) (first_of (codes "on") rows)) workers) t

pub no_texts : (rows : List Row) (o : Option (Bor Text × Bor Text)) → option_map texts_view o ≡ texts_in rows → o ≡ None → threads_with rows ≡ None
no_texts rows o h e = ap (with_texts rows (workers_in (first_of (codes "workers") rows))) (sym h ∙ ap (option_map texts_view) e)

pub by_workers : (f : Found) (o : Option (Bor Text × Bor Text)) (t : Bor Text × Bor Text) (word : Option (Bor Text)) (workers workers' : Option ℕ)
    → option_map texts_view o ≡ texts_in (rows_of f) → o ≡ Some t → option_map (λ s. s.now) word ≡ first_value f (codes "workers")
    → workers ≡ workers_in (option_map (λ s. s.now) word) → workers ≡ workers'
    → threads_with (rows_of f) ≡ with_texts (rows_of f) workers' (Some (texts_view t))
by_workers f o t word workers workers' h e k l d =
    ap (with_texts (rows_of f) (workers_in (first_of (codes "workers") (rows_of f)))) (sym h ∙ ap (option_map texts_view) e)
    ∙ ap (λ (n : Option ℕ). with_texts (rows_of f) n (Some (texts_view t))) (ap workers_in (named f (codes "workers") word k) ∙ sym l ∙ d)

pub by_files : (f : Found) (t : Text × Text) (workers : ℕ) (input on : Option (Bor Text)) → option_map (λ s. s.now) input ≡ first_value f (codes "input")
    → option_map (λ s. s.now) on ≡ first_value f (codes "on")
    → with_texts (rows_of f) (Some workers) (Some t) ≡ Some (requested t workers (option_map (λ s. s.now) input) (option_map (λ s. s.now) on))
by_files f t workers input on h k =
    ap₂ (λ (i j : Option Text). Some (requested t workers i j)) (named f (codes "input") input h) (named f (codes "on") on k)

simple : is_simple parallel_app ≡ true
unfolding clap_on_literals
simple = refl

free : is_simple_and_free parallel_app ≡ true
unfolding clap_on_literals
free = refl

pub free_shape : (c : Command) → app_of c ≡ parallel_app → is_simple_and_free (app_of c) ≡ true
free_shape c shape = ap is_simple_and_free shape ∙ free

-- words that clap matches
pub order_of_matches : (c : Command) (words : List (Bor Text)) (m : ArgMatches) → app_of c ≡ parallel_app → fault_of (app_of c) (texts words) ≡ []
    → HasMatchesOf (app_of c) (texts words) m → order_in (texts words) ≡ order_by (subcommand_rows_of m)
unfolding order_in
order_of_matches c words m shape fault met =
    let right : fault_of parallel_app (texts words) ≡ [] = subst (λ (a : App). fault_of a (texts words) ≡ []) shape fault in
    let rows : subcommand_rows_of m ≡ subcommand_of parallel_app (texts words) = (subst (λ (a : App). HasMatchesOf a (texts words) m) shape met simple).1 in
    ap (λ (kinds : Kinds). if is_empty kinds then order_by (subcommand_of parallel_app (texts words)) else None) right ∙ ap order_by (sym rows)

pub among : (k : ErrorKind) (kinds : Kinds) → IsAmong k kinds → is_empty kinds ≡ false
among k [] h = absurd h
among k (x ∷ kinds) h = search rules

-- words that clap refuses
pub order_of_refused : (c : Command) (words : List (Bor Text)) (e : Error) → app_of c ≡ parallel_app → HasKind (fault_of (app_of c) (texts words)) e
    → (f : WordsFault) → IsRefusal (kind_of e) f → IsWordsFault (texts words) f
unfolding order_in
order_of_refused c words e shape kinds Memory r = tt
order_of_refused c words e shape kinds (Usage text) r =
    elim (subst (λ (a : App). HasKind (fault_of a (texts words)) e) shape kinds) [
      | inl h ↦ absurd (r h)
      | inr h ↦ rw (among _ _ h) refl
    ]

-- the order that was found
pub order_found : (o : Option Order) (p : Order) (words : List Text) → order_in words ≡ option_map order_view o → o ≡ Some p → order_in words ≡ Some (order_view p)
order_found o p words h e = h ∙ ap (option_map order_view) e

-- there is no order
pub order_lost : (o : Option Order) (words : List Text) → order_in words ≡ option_map order_view o → o ≡ None → order_in words ≡ None
order_lost o words h e = h ∙ ap (option_map order_view) e

-- the fault of words that are no order
pub no_order : (words : List Text) (f : WordsFault) → order_in words ≡ None → IsWordsFault words f
no_order words (Usage text) h = h
no_order words Memory h = tt
