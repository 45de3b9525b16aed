-- The possible results of a check, for the texts of a program and an input.
use Rattle.std.specs.Prelude.{ℕ, ◌<◌, ℤ, List, Option}
use Rattle.cilk_parser.specs.Inputs.{IsInput, IsInputFault}
use Rattle.cilk_parser.specs.declared.fault.TextFault.TheVariants as text_faults
use Rattle.cilk_checker.specs.Judging.{IsProgramFault, IsProgramText, Meant}
use Rattle.cilk_checker.specs.declared.fault.ProgramFault.TheVariants as program_faults
use Rattle.cilk_types.specs.declared.event.Event.{Event}
use Rattle.cilk_types.specs.declared.outcome.Outcome.{Outcome}
use Rattle.cilk_tree.specs.Shape.{Shape}
use Rattle.cilk_checker.specs.Answers.{IsRefusedText}
use Rattle.cilk_checker.specs.Refusals.{Ended, IsClean}
use Rattle.cilk_checker.specs.Stops.{GivesCertificate}
use Rattle.cilk_checker.specs.declared.refusal.Refusal.{Refusal}
use Rattle.cilk_checker.specs.declared.refusal.Refusal.TheVariants as refusals
use Rattle.cilk_checker.specs.declared.refusal.Unaccepted.{Unaccepted}
use Rattle.cilk_checker.specs.declared.refusal.Unaccepted.TheVariants as unaccepted

-- the program and the numbers that two texts mean
pub record AreTexts (program input : List ℕ) (m : Meant) (inputs : List ℤ) : Type 0 where
  pub program_is : IsProgramText program m
  pub input_is : IsInput input inputs

module _ (program input : List ℕ) where
  -- The first fault of the program text or, if it has none, of the input text; or a true refusal of
  -- the certificate.
  abbrev pub IsTrueRefusal : Option (List ℕ) → Refusal → Type 0
  IsTrueRefusal known (refusals.Program fault place) = IsProgramFault (program_faults.Text fault place) program
  IsTrueRefusal known (refusals.Name fault place) = IsProgramFault (program_faults.Name fault place) program
  IsTrueRefusal known (refusals.Input fault place) =
      (m : Meant) × IsProgramText program m × IsInputFault (text_faults.At fault place) input
  IsTrueRefusal known refusals.Memory = Unit {0}
  IsTrueRefusal known r =
      (m : Meant) × (inputs : List ℤ) × AreTexts program input m inputs × IsRefusedText m.source inputs known r

  -- A true refusal. Or the source's device failed, which is answered only for texts without a fault.
  abbrev pub IsTrueAnswer : Option (List ℕ) → ℕ → ℕ → Unaccepted → Type 0
  IsTrueAnswer known failed failed' (unaccepted.Refusal r) = IsTrueRefusal known r
  IsTrueAnswer known failed failed' unaccepted.Unread =
      ((m : Meant) × (inputs : List ℤ) × AreTexts program input m inputs) × (failed < failed')

-- the error is a fault of the program text or of the input text
abbrev pub IsOfTexts : Unaccepted → Type 0
IsOfTexts (unaccepted.Refusal (refusals.Program fault place)) = Unit {0}
IsOfTexts (unaccepted.Refusal (refusals.Name fault place)) = Unit {0}
IsOfTexts (unaccepted.Refusal (refusals.Input fault place)) = Unit {0}
IsOfTexts _ = ⊥

-- the refusal is a fault of the program text or of the input text, or memory ran out
abbrev pub IsJudgement : Refusal → Type 0
IsJudgement (refusals.Program fault place) = Unit {0}
IsJudgement (refusals.Name fault place) = Unit {0}
IsJudgement (refusals.Input fault place) = Unit {0}
IsJudgement refusals.Memory = Unit {0}
IsJudgement _ = ⊥

-- The texts have no fault, the serial run ends without one, no two positions of it race, and the
-- source gives its right certificate.
pub record IsAcceptable (program input : List ℕ) (known : Option (List ℕ)) : Type 0 where
  pub meant : Meant
  pub inputs : List ℤ
  pub texts : AreTexts program input meant inputs
  pub shape : Shape
  pub events : List Event
  pub outcome : Outcome
  pub ended : Ended meant.source inputs shape events outcome
  pub certificate : GivesCertificate known (IsClean shape events outcome.result)
