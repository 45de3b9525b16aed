-- The error of a check whose text wasn't read to its end.
use Rattle.cilk_cert_text.specs.declared.fault.CertFault.TheVariants as cert_faults
use Rattle.cilk_checker.specs.declared.hearing.Stop.{Stop}
use Rattle.cilk_checker.specs.declared.hearing.Stop.TheVariants as stops
use Rattle.cilk_checker.specs.declared.refusal.Refusal.TheVariants as refusals
use Rattle.cilk_checker.specs.declared.refusal.Unaccepted.{Unaccepted}
use Rattle.cilk_checker.specs.declared.refusal.Unaccepted.TheVariants as unaccepted

abbrev pub told : Stop → Unaccepted
told (stops.Fault (cert_faults.Malformed line)) = unaccepted.Refusal (refusals.Malformed line)
told (stops.Fault (cert_faults.Truncated line)) = unaccepted.Refusal (refusals.Truncated line)
told (stops.Fault cert_faults.Memory) = unaccepted.Refusal refusals.Memory
told stops.Unread = unaccepted.Unread
