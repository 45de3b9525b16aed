-- The bytes that a check takes from the source of a certificate.
use Rattle.std.specs.Prelude.{◌≡◌, ◌≢◌, ℕ, ◌≤◌, List, [], ◌++◌, length, Option, Some}
use Rattle.std.specs.Io.KnownBytes.{Consumes, IsAtEnd}
use Rattle.cilk_cert_text.specs.declared.fault.CertFault.{CertFault}
use Rattle.cilk_cert_text.specs.declared.fault.CertFault.TheVariants as cert_faults
use Rattle.cilk_cert_text.specs.Reading.{reading_of}
use Rattle.cilk_checker.specs.declared.refusal.Refusal.TheVariants as refusals
use Rattle.cilk_checker.specs.declared.refusal.Unaccepted.{Unaccepted}
use Rattle.cilk_checker.specs.declared.refusal.Unaccepted.TheVariants as unaccepted

-- no line of the text is malformed
abbrev pub HasNoMalformedLine : List ℕ → Type 0
HasNoMalformedLine text = (line : ℕ) → (reading_of text).fault ≡ Some (cert_faults.Malformed line) → ⊥

-- a fault that is certain before the text has ended
abbrev pub IsEarly : CertFault → Type 0
IsEarly (cert_faults.Malformed line) = Unit {0}
IsEarly (cert_faults.Truncated line) = ⊥
IsEarly cert_faults.Memory = Unit {0}

-- These bytes have no malformed line, and aren't more than a certificate can have.
pub record IsFaultlessSoFar (bytes : List ℕ) : Type 0 where
  pub formed : HasNoMalformedLine bytes
  pub within : length bytes ≤ 134217728

-- These bytes are faultless so far, except for `piece` at their end: what the last pull gave, or nothing.
pub record EndsWithPull (last : ℕ) (bytes : List ℕ) : Type 0 where
  pub before : List ℕ
  pub piece : List ℕ
  pub parts : bytes ≡ before ++ piece
  pub all : piece ≢ [] → length piece ≡ last
  pub faultless : IsFaultlessSoFar before
  pub short : length piece ≤ 32768

-- The last pull gave the malformed line: the bytes before have none. So nothing is pulled after it.
pub record EndsWithFault (line last : ℕ) (bytes : List ℕ) : Type 0 where
  pub pull : EndsWithPull last bytes
  pub malformed : (reading_of bytes).fault ≡ Some (cert_faults.Malformed line)

-- Of a source: the text that it would give before and after a check, if it is known.
module _ (known left : Option (List ℕ)) where
  -- bytes with this property were taken
  abbrev pub Takes : (List ℕ → Type 0) → Type 0
  Takes P = (bytes : List ℕ) × Consumes known left bytes × P bytes

  -- all bytes were taken, and no line is malformed
  abbrev pub TakesAll : Type 0
  TakesAll = IsAtEnd left × Takes IsFaultlessSoFar

  -- The bytes that were taken where a certificate isn't accepted, if the last pull gave this many. It is the one that
  -- has a malformed line, or after which memory ran out.
  abbrev pub TakesUntil : ℕ → Unaccepted → Type 0
  TakesUntil last (unaccepted.Refusal (refusals.Malformed line)) = Takes (EndsWithFault line last)
  TakesUntil last (unaccepted.Refusal refusals.Memory) = Takes (EndsWithPull last)
  TakesUntil last (unaccepted.Refusal r) = TakesAll
  TakesUntil last unaccepted.Unread = Takes IsFaultlessSoFar
