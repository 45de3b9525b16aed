-- The arguments of a call, in order.
use Rattle.std.proofs.Common.{◌≡◌, ℕ, zero, suc, ◌+◌, ◌<◌, ◌≤◌, List, [], ◌∷◌, ◌++◌, length, drop, get_or, map, Option, unwrap_or, slice_get, refl, sym, ap, ◌∙◌, append_assoc, add-one}
use Rattle.std.proofs.lemmas.List.{append-nil, drop_all}
use Rattle.std.proofs.Math.Seq.{drop-cons}
use Rattle.cilk_syntax.specs.declared.tree.Argument as code
use Rattle.cilk_syntax.specs.Trees as trees
use Rattle.cilk_syntax.specs.Trees.{arguments_of}
use Rattle.cilk_program.specs.declared.syntax.Expr as exprs
use Rattle.cilk_program.specs.declared.syntax.Reducer.{Reducer}
use Rattle.cilk_program.specs.Programs.{expression}
use Rattle.cilk_names.specs.declared.kind.Misnaming.{Misnaming}
use Rattle.cilk_names.specs.declared.signature.ParameterKind.{ParameterKind}
use Rattle.cilk_names.specs.declared.signature.ParameterKind.TheVariants as kinds
use Rattle.cilk_names.specs.Names.{Names}
use Rattle.cilk_names.specs.Calls.{first_of, rest_of}
use Rattle.cilk_names.specs.Faults.{earliest}
use Rattle.cilk_names.specs.Misnamings.{argument_faults, arguments_faults}
use Rattle.cilk_names.specs.Pass.{word_of_argument, words_of, reducer_of_argument, reducers_of}
use Rattle.cilk_names.proofs.Earliest.{earliest_append}

pub length_arguments : (list : List code.Argument) → length (arguments_of list) ≡ length list
length_arguments [] = refl
length_arguments (a ∷ list) = ap suc (length_arguments list)

first_drop : (ks : List ParameterKind) (i : ℕ) → first_of (drop i ks) ≡ unwrap_or (slice_get ks i) kinds.Word
first_drop [] zero = refl
first_drop [] (suc i) = refl
first_drop (k ∷ ks) zero = refl
first_drop (k ∷ ks) (suc i) = first_drop ks i

rest_drop : (ks : List ParameterKind) (i : ℕ) → rest_of (drop i ks) ≡ drop (suc i) ks
rest_drop [] zero = refl
rest_drop [] (suc i) = refl
rest_drop (k ∷ ks) zero = refl
rest_drop (k ∷ ks) (suc i) = rest_drop ks i

-- the arguments that are left, if there is one
left_arguments : (list : List code.Argument) (i : ℕ) (a : code.Argument) → i < length list → a ≡ get_or list i a
    → arguments_of (drop i list) ≡ trees.argument a ∷ arguments_of (drop (suc i) list)
left_arguments list i a h e = ap arguments_of (drop-cons list i a h ∙ ap (λ y. y ∷ drop (suc i) list) (sym e))

module _ (names : Names) (ks : List ParameterKind) (list : List code.Argument) (i : ℕ) (k : ParameterKind) (a : code.Argument) (lt : i < length list) (at : a ≡ get_or list i a) (is : k ≡ unwrap_or (slice_get ks i) kinds.Word) where
  pub faults_step : (start before now : Option Misnaming)
      → earliest before (arguments_faults names (drop i ks) (arguments_of (drop i list))) ≡ earliest start (arguments_faults names ks (arguments_of list))
      → now ≡ earliest before (argument_faults names k (trees.argument a))
      → earliest now (arguments_faults names (drop (i + 1) ks) (arguments_of (drop (i + 1) list))) ≡ earliest start (arguments_faults names ks (arguments_of list))
  faults_step start before now h n =
      rw add-one (
      ap (λ x. earliest x (arguments_faults names (drop (suc i) ks) (arguments_of (drop (suc i) list)))) n
      ∙ sym (earliest_append before (argument_faults names k (trees.argument a)) (arguments_faults names (drop (suc i) ks) (arguments_of (drop (suc i) list))))
      ∙ ap (λ x. earliest before (argument_faults names x (trees.argument a) ++ arguments_faults names (drop (suc i) ks) (arguments_of (drop (suc i) list)))) (is ∙ sym (first_drop ks i))
      ∙ ap (λ x. earliest before (argument_faults names (first_of (drop i ks)) (trees.argument a) ++ arguments_faults names x (arguments_of (drop (suc i) list)))) (sym (rest_drop ks i))
      ∙ ap (λ x. earliest before (arguments_faults names (drop i ks) x)) (sym (left_arguments list i a lt at))
      ∙ h)

  pub words_step : (before now : List exprs.Expr)
      → map expression before ++ words_of names (drop i ks) (arguments_of (drop i list)) ≡ words_of names ks (arguments_of list)
      → map expression now ≡ map expression before ++ word_of_argument names k (trees.argument a)
      → map expression now ++ words_of names (drop (i + 1) ks) (arguments_of (drop (i + 1) list)) ≡ words_of names ks (arguments_of list)
  words_step before now h n =
      rw add-one (
      ap (λ x. x ++ words_of names (drop (suc i) ks) (arguments_of (drop (suc i) list))) n
      ∙ append_assoc (map expression before) (word_of_argument names k (trees.argument a)) (words_of names (drop (suc i) ks) (arguments_of (drop (suc i) list)))
      ∙ ap (λ x. map expression before ++ (word_of_argument names x (trees.argument a) ++ words_of names (drop (suc i) ks) (arguments_of (drop (suc i) list)))) (is ∙ sym (first_drop ks i))
      ∙ ap (λ x. map expression before ++ (word_of_argument names (first_of (drop i ks)) (trees.argument a) ++ words_of names x (arguments_of (drop (suc i) list)))) (sym (rest_drop ks i))
      ∙ ap (λ x. map expression before ++ words_of names (drop i ks) x) (sym (left_arguments list i a lt at))
      ∙ h)

  pub reducers_step : (before now : List Reducer)
      → before ++ reducers_of names (drop i ks) (arguments_of (drop i list)) ≡ reducers_of names ks (arguments_of list)
      → now ≡ before ++ reducer_of_argument names k (trees.argument a)
      → now ++ reducers_of names (drop (i + 1) ks) (arguments_of (drop (i + 1) list)) ≡ reducers_of names ks (arguments_of list)
  reducers_step before now h n =
      rw add-one (
      ap (λ x. x ++ reducers_of names (drop (suc i) ks) (arguments_of (drop (suc i) list))) n
      ∙ append_assoc before (reducer_of_argument names k (trees.argument a)) (reducers_of names (drop (suc i) ks) (arguments_of (drop (suc i) list)))
      ∙ ap (λ x. before ++ (reducer_of_argument names x (trees.argument a) ++ reducers_of names (drop (suc i) ks) (arguments_of (drop (suc i) list)))) (is ∙ sym (first_drop ks i))
      ∙ ap (λ x. before ++ (reducer_of_argument names (first_of (drop i ks)) (trees.argument a) ++ reducers_of names x (arguments_of (drop (suc i) list)))) (sym (rest_drop ks i))
      ∙ ap (λ x. before ++ reducers_of names (drop i ks) x) (sym (left_arguments list i a lt at))
      ∙ h)

-- past the last argument
left_none : (list : List code.Argument) (i : ℕ) → length list ≤ i → arguments_of (drop i list) ≡ []
left_none list i h = ap arguments_of (drop_all i list h)

pub faults_end : (names : Names) (ks : List ParameterKind) (list : List code.Argument) (i : ℕ) (start now : Option Misnaming) → length list ≤ i
    → earliest now (arguments_faults names (drop i ks) (arguments_of (drop i list))) ≡ earliest start (arguments_faults names ks (arguments_of list))
    → now ≡ earliest start (arguments_faults names ks (arguments_of list))
faults_end names ks list i start now le h = ap (λ x. earliest now (arguments_faults names (drop i ks) x)) (sym (left_none list i le)) ∙ h

pub words_end : (names : Names) (ks : List ParameterKind) (list : List code.Argument) (i : ℕ) (now : List exprs.Expr) → length list ≤ i
    → map expression now ++ words_of names (drop i ks) (arguments_of (drop i list)) ≡ words_of names ks (arguments_of list)
    → map expression now ≡ words_of names ks (arguments_of list)
words_end names ks list i now le h = sym (append-nil (map expression now)) ∙ ap (λ x. map expression now ++ words_of names (drop i ks) x) (sym (left_none list i le)) ∙ h

pub reducers_end : (names : Names) (ks : List ParameterKind) (list : List code.Argument) (i : ℕ) (now : List Reducer) → length list ≤ i
    → now ++ reducers_of names (drop i ks) (arguments_of (drop i list)) ≡ reducers_of names ks (arguments_of list)
    → now ≡ reducers_of names ks (arguments_of list)
reducers_end names ks list i now le h = sym (append-nil now) ∙ ap (λ x. now ++ reducers_of names (drop i ks) x) (sym (left_none list i le)) ∙ h
