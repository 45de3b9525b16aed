-- Three texts have at most one verdict.
use Rattle.std.specs.Prelude.{◌≡◌, ◌≢◌, ◌⊎◌, ℕ, List, Result, Some, IfErr, MatchResult}
use Rattle.cilk_checker.specs.Texts.{IsAcceptable, IsTrueRefusal}
use Rattle.cilk_checker.specs.declared.refusal.Refusal.{Refusal}
use Rattle.cilk_checker.specs.declared.refusal.Refusal.TheVariants.{Memory}
use Rattle.cilk_checker.specs.declared.refusal.Unaccepted.{Unaccepted}
use Rattle.cilk_checker.specs.declared.refusal.Unaccepted.TheVariants as unaccepted

-- two acceptances have the same program, input and run
pub record AreSame (program input certificate : List ℕ)
    (a b : IsAcceptable program input (Some certificate)) : Type 0 where
  pub meant : a.meant ≡ b.meant
  pub inputs : a.inputs ≡ b.inputs
  pub events : a.events ≡ b.events
  pub outcome : a.outcome ≡ b.outcome

-- All acceptances of three texts are the same, all true refusals are the same, and there are not
-- both.
pub record HasOneVerdict (program input certificate : List ℕ) : Type 0 where
  pub acceptances : (a b : IsAcceptable program input (Some certificate)) → AreSame program input certificate a b
  pub refusals : (r r' : Refusal) → r ≢ Memory → r' ≢ Memory → IsTrueRefusal program input (Some certificate) r
      → IsTrueRefusal program input (Some certificate) r' → r ≡ r'
  pub apart : (r : Refusal) → r ≢ Memory → IsAcceptable program input (Some certificate)
      → IsTrueRefusal program input (Some certificate) r → ⊥

-- memory ran out or the source's device failed, which says nothing about the texts
abbrev pub IsNoVerdict : Unaccepted → Type 0
IsNoVerdict (unaccepted.Refusal Memory) = Unit {0}
IsNoVerdict (unaccepted.Refusal r) = ⊥
IsNoVerdict unaccepted.Unread = Unit {0}

-- The result of a check of three texts. `SaysNothing` holds of the errors that say nothing about
-- the texts.
module _ (program input certificate : List ℕ) where
  -- texts that are to be accepted are accepted, unless the error says nothing
  abbrev pub AnswersOnly : {A E : Type 0} → Result A E → (E → Type 0) → Type 0
  AnswersOnly answer SaysNothing = IsAcceptable program input (Some certificate) → IfErr answer SaysNothing

  -- a refusal that is true of the texts is the result, unless the error says nothing
  abbrev pub AnswersOne : {A E : Type 0} → Result A E → (Refusal → E) → (E → Type 0) → Type 0
  AnswersOne answer told SaysNothing =
      (r : Refusal) → r ≢ Memory → IsTrueRefusal program input (Some certificate) r
      → MatchResult answer (λ _. ⊥) (λ e. SaysNothing e ⊎ (e ≡ told r))
