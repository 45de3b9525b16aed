-- The variables of a declaration and the parameters of a function, in order.
use Rattle.std.proofs.Common.{◌≡◌, ℕ, zero, suc, ◌+◌, ◌<◌, ◌≤◌, List, [], ◌∷◌, ◌++◌, length, drop, get_or, map, Option, refl, sym, ap, ◌∙◌, append_assoc, add-one, arith}
use Rattle.std.proofs.lemmas.List.{append-nil, drop_all}
use Rattle.std.proofs.Math.Seq.{drop-cons}
use Rattle.cilk_syntax.specs.declared.tree.Local as code
use Rattle.cilk_syntax.specs.declared.tree.Parameter.{Parameter}
use Rattle.cilk_syntax.specs.Trees as trees
use Rattle.cilk_syntax.specs.Trees.{locals_of}
use Rattle.cilk_program.specs.declared.syntax.Declaration as declared
use Rattle.cilk_program.specs.Programs.{declaration}
use Rattle.cilk_names.specs.declared.kind.Misnaming.{Misnaming}
use Rattle.cilk_names.specs.Contexts.{Context, with_variable, behind_locals, with_parameter, with_parameters}
use Rattle.cilk_names.specs.Faults.{earliest}
use Rattle.cilk_names.specs.Misnamings.{local_faults, locals_faults, parameter_faults, parameters_faults}
use Rattle.cilk_names.specs.Pass.{declarations_of}
use Rattle.cilk_names.proofs.Earliest.{earliest_append}
use Rattle.cilk_names.proofs.Tables.{map_append}

-- an element of a list, for each default past its end
pub get_any : {A : Type 0} (list : List A) (i : ℕ) (d e : A) → i < length list → get_or list i d ≡ get_or list i e
get_any [] i d e h = absurd (omega arith)
get_any (x ∷ list) zero d e h = refl
get_any (x ∷ list) (suc i) d e h = get_any list i d e (omega arith)

-- the variables that are left, if there is one
left_locals : (list : List code.Local) (i : ℕ) (l : code.Local) → i < length list → l ≡ get_or list i l → locals_of (drop i list) ≡ trees.local l ∷ locals_of (drop (suc i) list)
left_locals list i l h e = ap locals_of (drop-cons list i l h ∙ ap (λ y. y ∷ drop (suc i) list) (sym e))

pub left_parameters : (list : List Parameter) (i : ℕ) (p : Parameter) → i < length list → p ≡ get_or list i p → drop i list ≡ p ∷ drop (suc i) list
left_parameters list i p h e = drop-cons list i p h ∙ ap (λ y. y ∷ drop (suc i) list) (sym e)

module _ (start before now : Context) (list : List code.Local) (i : ℕ) (l : code.Local) (lt : i < length list) (at : l ≡ get_or list i l) (is : now ≡ with_variable before l.name) where
  pub locals_context : behind_locals before (locals_of (drop i list)) ≡ behind_locals start (locals_of list)
      → behind_locals now (locals_of (drop (i + 1) list)) ≡ behind_locals start (locals_of list)
  locals_context h =
      rw add-one (
      ap (λ c. behind_locals c (locals_of (drop (suc i) list))) is
      ∙ ap (λ x. behind_locals before x) (sym (left_locals list i l lt at)) ∙ h)

  pub locals_step : (from first next : Option Misnaming)
      → earliest first (locals_faults before (locals_of (drop i list))) ≡ earliest from (locals_faults start (locals_of list))
      → next ≡ earliest first (local_faults before (trees.local l))
      → earliest next (locals_faults now (locals_of (drop (i + 1) list))) ≡ earliest from (locals_faults start (locals_of list))
  locals_step from first next h n =
      rw add-one (
      ap (λ c. earliest next (locals_faults c (locals_of (drop (suc i) list)))) is
      ∙ ap (λ x. earliest x (locals_faults (with_variable before l.name) (locals_of (drop (suc i) list)))) n
      ∙ sym (earliest_append first (local_faults before (trees.local l)) (locals_faults (with_variable before l.name) (locals_of (drop (suc i) list))))
      ∙ ap (λ x. earliest first (locals_faults before x)) (sym (left_locals list i l lt at))
      ∙ h)

  pub declarations_step : (done more : List declared.Declaration) (d : declared.Declaration)
      → map declaration done ++ declarations_of before (locals_of (drop i list)) ≡ declarations_of start (locals_of list)
      → map declaration (d ∷ []) ≡ declarations_of before (trees.local l ∷ [])
      → more ≡ done ++ d ∷ []
      → map declaration more ++ declarations_of now (locals_of (drop (i + 1) list)) ≡ declarations_of start (locals_of list)
  declarations_step done more d h n e =
      rw add-one (
      ap (λ c. map declaration more ++ declarations_of c (locals_of (drop (suc i) list))) is
      ∙ ap (λ x. map declaration x ++ declarations_of (with_variable before l.name) (locals_of (drop (suc i) list))) e
      ∙ ap (λ x. x ++ declarations_of (with_variable before l.name) (locals_of (drop (suc i) list))) (map_append declaration done (d ∷ []) ∙ ap (λ x. map declaration done ++ x) n)
      ∙ append_assoc (map declaration done) (declarations_of before (trees.local l ∷ [])) (declarations_of (with_variable before l.name) (locals_of (drop (suc i) list)))
      ∙ ap (λ x. map declaration done ++ declarations_of before x) (sym (left_locals list i l lt at))
      ∙ h)

-- past the last variable
left_none : (list : List code.Local) (i : ℕ) → length list ≤ i → locals_of (drop i list) ≡ []
left_none list i h = ap locals_of (drop_all i list h)

module _ (start now : Context) (list : List code.Local) (i : ℕ) (le : length list ≤ i) where
  pub locals_context_end : behind_locals now (locals_of (drop i list)) ≡ behind_locals start (locals_of list) → now ≡ behind_locals start (locals_of list)
  locals_context_end h = ap (λ x. behind_locals now x) (sym (left_none list i le)) ∙ h

  pub locals_end : (from first : Option Misnaming) → earliest first (locals_faults now (locals_of (drop i list))) ≡ earliest from (locals_faults start (locals_of list))
      → first ≡ earliest from (locals_faults start (locals_of list))
  locals_end from first h = ap (λ x. earliest first (locals_faults now x)) (sym (left_none list i le)) ∙ h

  pub declarations_end : (done : List declared.Declaration) → map declaration done ++ declarations_of now (locals_of (drop i list)) ≡ declarations_of start (locals_of list)
      → map declaration done ≡ declarations_of start (locals_of list)
  declarations_end done h = sym (append-nil (map declaration done)) ∙ ap (λ x. map declaration done ++ declarations_of now x) (sym (left_none list i le)) ∙ h

module _ (start before now : Context) (list : List Parameter) (i : ℕ) (p : Parameter) (lt : i < length list) (at : p ≡ get_or list i p) (is : now ≡ with_parameter before p) where
  pub parameters_context : with_parameters before (drop i list) ≡ with_parameters start list → with_parameters now (drop (i + 1) list) ≡ with_parameters start list
  parameters_context h =
      rw add-one (ap (λ c. with_parameters c (drop (suc i) list)) is ∙ ap (λ x. with_parameters before x) (sym (left_parameters list i p lt at)) ∙ h)

  pub parameters_step : (from first next : Option Misnaming)
      → earliest first (parameters_faults before (drop i list)) ≡ earliest from (parameters_faults start list)
      → next ≡ earliest first (parameter_faults before p)
      → earliest next (parameters_faults now (drop (i + 1) list)) ≡ earliest from (parameters_faults start list)
  parameters_step from first next h n =
      rw add-one (
      ap (λ c. earliest next (parameters_faults c (drop (suc i) list))) is
      ∙ ap (λ x. earliest x (parameters_faults (with_parameter before p) (drop (suc i) list))) n
      ∙ sym (earliest_append first (parameter_faults before p) (parameters_faults (with_parameter before p) (drop (suc i) list)))
      ∙ ap (λ x. earliest first (parameters_faults before x)) (sym (left_parameters list i p lt at))
      ∙ h)

module _ (start now : Context) (list : List Parameter) (i : ℕ) (le : length list ≤ i) where
  pub parameters_context_end : with_parameters now (drop i list) ≡ with_parameters start list → now ≡ with_parameters start list
  parameters_context_end h = ap (λ x. with_parameters now x) (sym (drop_all i list le)) ∙ h

  pub parameters_end : (from first : Option Misnaming) → earliest first (parameters_faults now (drop i list)) ≡ earliest from (parameters_faults start list)
      → first ≡ earliest from (parameters_faults start list)
  parameters_end from first h = ap (λ x. earliest first (parameters_faults now x)) (sym (drop_all i list le)) ∙ h
