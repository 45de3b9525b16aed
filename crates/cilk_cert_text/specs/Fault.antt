-- The numbers by which the faults of a certificate's text are reported.
use Rattle.std.specs.Prelude.{ℕ}
use Rattle.cilk_cert_text.specs.declared.fault.CertFault.{CertFault}
use Rattle.cilk_cert_text.specs.declared.fault.CertFault.TheVariants.{Malformed, Truncated, Memory}

abbrev pub number_of : CertFault → ℕ
number_of (Malformed line) = 301
number_of (Truncated line) = 302
number_of Memory = 401
