-- The possible results of a check of a certificate.
use Rattle.std.specs.Prelude.{◌≡◌, ℕ, ◌<◌, ℤ, List, Option}
use Rattle.cilk_types.specs.declared.event.Event.{Event}
use Rattle.cilk_types.specs.declared.outcome.Outcome.{Outcome}
use Rattle.cilk_program.specs.Syntax.{Source}
use Rattle.cilk_cert_text.specs.declared.fault.CertFault.TheVariants as cert_faults
use Rattle.cilk_tree.specs.Shape.{Shape}
use Rattle.cilk_cert_maker.specs.Right.{IsRight}
use Rattle.cilk_checker.specs.Determinate.{IsDeterminateRun}
use Rattle.cilk_checker.specs.Refusals.{IsRefused}
use Rattle.cilk_checker.specs.Stops.{GivesCertificate, HasTextFault}
use Rattle.cilk_checker.specs.declared.refusal.Refusal.{Refusal}
use Rattle.cilk_checker.specs.declared.refusal.Refusal.TheVariants as refusals
use Rattle.cilk_checker.specs.declared.refusal.Unaccepted.{Unaccepted}
use Rattle.cilk_checker.specs.declared.refusal.Unaccepted.TheVariants as unaccepted

-- Of a program and an input. `known` is the text that the source will give, if it is known.
module _ (p : Source) (inputs : List ℤ) where
  -- The run with these events and this outcome is determinate, and the source gives its right
  -- certificate.
  abbrev pub IsCertified : Option (List ℕ) → List Event → Outcome → Type 0
  IsCertified known es o = (s : Shape) × IsDeterminateRun p inputs s es o × GivesCertificate known (IsRight s es o.result)

  -- the refusal is true, and it is the first failing check
  abbrev pub IsRefusedText : Option (List ℕ) → Refusal → Type 0
  IsRefusedText known (refusals.Malformed line) = HasTextFault known (cert_faults.Malformed line)
  IsRefusedText known (refusals.Truncated line) = HasTextFault known (cert_faults.Truncated line)
  IsRefusedText known refusals.Memory = Unit {0}
  IsRefusedText known r = GivesCertificate known (λ c. IsRefused p inputs c r)

  -- the refusal is true, or the source's device failed
  abbrev pub IsUnaccepted : Option (List ℕ) → ℕ → ℕ → Unaccepted → Type 0
  IsUnaccepted known failed failed' (unaccepted.Refusal r) = IsRefusedText known r
  IsUnaccepted known failed failed' unaccepted.Unread = failed < failed'

-- a check that ends with a refusal met no failing device, also where it is out of memory
abbrev pub IsUncounted : ℕ → ℕ → Unaccepted → Type 0
IsUncounted failed failed' (unaccepted.Refusal r) = failed' ≡ failed
IsUncounted failed failed' unaccepted.Unread = Unit {0}
