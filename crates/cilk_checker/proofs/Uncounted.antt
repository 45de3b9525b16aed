-- Where a pull may have failed.
--
-- `by_fault`: no pull failed, and the check ends with a fault of the text. `refused_by`: a check that ends with a refusal met no
-- failing device.
use Rattle.std.proofs.Common.{◌≡◌, ℕ, subst}
use Rattle.cilk_cert_text.specs.declared.fault.CertFault.{CertFault}
use Rattle.cilk_cert_text.specs.declared.fault.CertFault.TheVariants as cert_faults
use Rattle.cilk_checker.specs.Answers.{IsUncounted}
use Rattle.cilk_checker.specs.Told.{told}
use Rattle.cilk_checker.specs.declared.hearing.Stop.TheVariants.{Fault}
use Rattle.cilk_checker.specs.declared.refusal.Refusal.{Refusal}
use Rattle.cilk_checker.specs.declared.refusal.Unaccepted.{Unaccepted}
use Rattle.cilk_checker.specs.declared.refusal.Unaccepted.TheVariants as unaccepted

pub by_fault : (a b : ℕ) (f : CertFault) → b ≡ a → IsUncounted a b (told (Fault f))
by_fault a b (cert_faults.Malformed line) e = e
by_fault a b (cert_faults.Truncated line) e = e
by_fault a b cert_faults.Memory e = e

pub refused_by : (a b : ℕ) (u : Unaccepted) (r : Refusal) → u ≡ unaccepted.Refusal r → IsUncounted a b u → b ≡ a
refused_by a b u r is h = subst (λ (x : Unaccepted). IsUncounted a b x) is h
