-- From clap's matches to an order of `check` with helpers.
--
-- - `no_texts`, `by_helpers`, `by_file`: the order in the matches;
-- - `free_shape`, `order_of_matches`, `order_of_refused`, `order_found`, `order_lost`: the order
--   of words that clap matches or refuses.
use Rattle.std.proofs.Common.{◌≡◌, ℕ, List, [], Option, Some, None, option_map, option_and_then, refl, sym, ap, ◌∙◌, subst, codes, true, inl, inr}
use Rattle.std.specs.Prelude.{if◌then◌else◌}
use Rattle.std.specs.Borrow.{Bor}
use Rattle.clap.specs.Words.{App, HasMatchesOf, Row, Text, app_of, fault_of, first_of, first_value, is_simple, is_simple_and_free, kind_of, rows_of, subcommand_of, subcommand_rows_of}
use Rattle.clap.specs.Kinds.{HasKind, Kinds}
use Rattle.clap.specs.Walk.{is_empty}
use Rattle.clap.specs.declared.builder.command.Command.{Command}
use Rattle.clap.specs.declared.error.Error.{Error}
use Rattle.clap.specs.declared.parser.matches.ArgMatches.{ArgMatches}
use Rattle.clap.specs.declared.parser.matches.Found.{Found}
use Rattle.clap.proofs.OnLiterals.{clap_on_literals}
use Rattle.cilk_messages.specs.Words.{IsRefusal, texts}
use Rattle.cilk_messages.specs.declared.words.WordsFault.{WordsFault}
use Rattle.cilk_messages.specs.declared.words.WordsFault.TheVariants.{Usage, Memory}
use Rattle.cilk_messages.proofs.ThreadsEntered.{among, named}
use Rattle.cilk_messages.specs.CheckWords.{Helped, IsWordsFault, check_by, check_in, check_view, checked_with, commands_app, helped, helpers_in}
use Rattle.cilk_messages.specs.ThreadsWords.{texts_in, texts_view}
use Rattle.cilk_messages.specs.declared.check_words.CheckOrder.{CheckOrder}

-- the order of these texts
abbrev pub with_texts : List Row → Option ℕ → Option (Text × Text) → Option Helped
with_texts rows helpers t = option_and_then (λ t. option_map (λ helpers. helped t (first_of (codes "input") rows) helpers) helpers) t

pub no_texts : (rows : List Row) (o : Option (Bor Text × Bor Text)) → option_map texts_view o ≡ texts_in rows → o ≡ None → checked_with rows ≡ None
no_texts rows o h e = ap (with_texts rows (helpers_in (first_of (codes "helpers") rows))) (sym h ∙ ap (option_map texts_view) e)

pub by_helpers : (f : Found) (o : Option (Bor Text × Bor Text)) (t : Bor Text × Bor Text) (word : Option (Bor Text)) (helpers helpers' : Option ℕ)
    → option_map texts_view o ≡ texts_in (rows_of f) → o ≡ Some t → option_map (λ s. s.now) word ≡ first_value f (codes "helpers")
    → helpers ≡ helpers_in (option_map (λ s. s.now) word) → helpers ≡ helpers'
    → checked_with (rows_of f) ≡ with_texts (rows_of f) helpers' (Some (texts_view t))
by_helpers f o t word helpers helpers' h e k l d =
    ap (with_texts (rows_of f) (helpers_in (first_of (codes "helpers") (rows_of f)))) (sym h ∙ ap (option_map texts_view) e)
    ∙ ap (λ (n : Option ℕ). with_texts (rows_of f) n (Some (texts_view t))) (ap helpers_in (named f (codes "helpers") word k) ∙ sym l ∙ d)

pub by_file : (f : Found) (t : Text × Text) (helpers : ℕ) (input : Option (Bor Text)) → option_map (λ s. s.now) input ≡ first_value f (codes "input")
    → with_texts (rows_of f) (Some helpers) (Some t) ≡ Some (helped t (option_map (λ s. s.now) input) helpers)
by_file f t helpers input h = ap (λ (i : Option Text). Some (helped t i helpers)) (named f (codes "input") input h)

simple : is_simple commands_app ≡ true
unfolding clap_on_literals
simple = refl

free : is_simple_and_free commands_app ≡ true
unfolding clap_on_literals
free = refl

pub free_shape : (c : Command) → app_of c ≡ commands_app → is_simple_and_free (app_of c) ≡ true
free_shape c shape = ap is_simple_and_free shape ∙ free

-- words that clap matches
pub order_of_matches : (c : Command) (words : List (Bor Text)) (m : ArgMatches) → app_of c ≡ commands_app → fault_of (app_of c) (texts words) ≡ []
    → HasMatchesOf (app_of c) (texts words) m → check_in (texts words) ≡ check_by (subcommand_rows_of m)
unfolding check_in
order_of_matches c words m shape fault met =
    let right : fault_of commands_app (texts words) ≡ [] = subst (λ (a : App). fault_of a (texts words) ≡ []) shape fault in
    let rows : subcommand_rows_of m ≡ subcommand_of commands_app (texts words) = (subst (λ (a : App). HasMatchesOf a (texts words) m) shape met simple).1 in
    ap (λ (kinds : Kinds). if is_empty kinds then check_by (subcommand_of commands_app (texts words)) else None) right ∙ ap check_by (sym rows)

-- words that clap refuses
pub order_of_refused : (c : Command) (words : List (Bor Text)) (e : Error) → app_of c ≡ commands_app → HasKind (fault_of (app_of c) (texts words)) e
    → (f : WordsFault) → IsRefusal (kind_of e) f → IsWordsFault (texts words) f
unfolding check_in
order_of_refused c words e shape kinds Memory r = tt
order_of_refused c words e shape kinds (Usage text) r =
    elim (subst (λ (a : App). HasKind (fault_of a (texts words)) e) shape kinds) [
      | inl h ↦ absurd (r h)
      | inr h ↦ rw (among _ _ h) refl
    ]

-- the order that was found
pub order_found : (o : Option CheckOrder) (p : CheckOrder) (words : List Text) → check_in words ≡ option_map check_view o → o ≡ Some p
    → check_in words ≡ Some (check_view p)
order_found o p words h e = h ∙ ap (option_map check_view) e

-- there is no order
pub order_lost : (o : Option CheckOrder) (words : List Text) → check_in words ≡ option_map check_view o → o ≡ None → check_in words ≡ None
order_lost o words h e = h ∙ ap (option_map check_view) e

-- the fault of words that are no order
pub no_order : (words : List Text) (f : WordsFault) → check_in words ≡ None → IsWordsFault words f
no_order words (Usage text) h = h
no_order words Memory h = tt
