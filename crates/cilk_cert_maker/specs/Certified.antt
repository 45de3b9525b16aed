-- The right certificate of a program's run.
use Rattle.std.specs.Prelude.{◌≡◌, ℤ, IsTrue, List}
use Rattle.cilk_types.specs.declared.event.Event.{Event}
use Rattle.cilk_types.specs.declared.outcome.Outcome.{Outcome}
use Rattle.cilk_program.specs.Syntax.{Source}
use Rattle.cilk_program.specs.WellNamed.{is_well_named}
use Rattle.cilk_serial.specs.Ran.{Ran}
use Rattle.cilk_tree.specs.Shape.{Shape, Spells}
use Rattle.cilk_cert_text.specs.Certificates.{Contents, IsCertificate}
use Rattle.cilk_cert_maker.specs.Right.{IsRight}

-- The serial run ends without a fault, and this is its right certificate.
pub record IsCertificateOf (p : Source) (inputs : List ℤ) (c : Contents) : Type 0 where
  pub shape : Shape
  pub events : List Event
  pub outcome : Outcome
  pub ran : Ran p inputs outcome events
  pub spells : Spells shape events
  pub right : IsRight shape events outcome.result c

-- Two right certificates of one version of a well-named program's run are equal.
abbrev pub RunsHaveOneCertificate : Source → List ℤ → Type 0
RunsHaveOneCertificate p inputs =
    (c d : Contents) → IsTrue (is_well_named p) → IsCertificate c → IsCertificate d → c.version ≡ d.version → IsCertificateOf p inputs c → IsCertificateOf p inputs d → c ≡ d
