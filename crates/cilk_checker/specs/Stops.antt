-- The text that a source gives.
use Rattle.std.specs.Prelude.{◌≡◌, ℕ, ◌<◌, List, Option, Some, IfSome}
use Rattle.cilk_cert_text.specs.declared.fault.CertFault.{CertFault}
use Rattle.cilk_cert_text.specs.declared.fault.CertFault.TheVariants.{Malformed, Truncated, Memory}
use Rattle.cilk_cert_text.specs.Certificates.{Contents, IsCertificate, text_of}
use Rattle.cilk_cert_text.specs.Reading.{reading_of}
use Rattle.cilk_checker.specs.declared.hearing.Stop.{Stop}
use Rattle.cilk_checker.specs.declared.hearing.Stop.TheVariants.{Fault, Unread}
use Rattle.cilk_checker.specs.declared.right.Right.{Right}
use Rattle.cilk_checker.specs.declared.tally.Tally.{Tally}
use Rattle.cilk_checker.specs.Tallies.{Tallied}

-- the source gives this text, as far as it is known
abbrev pub Gives : Option (List ℕ) → List ℕ → Type 0
Gives known text = IfSome known (λ all. text ≡ all)

-- the source gives the text of a certificate with this property
pub record GivesCertificate (known : Option (List ℕ)) (P : Contents → Type 0) : Type 0 where
  pub text : List ℕ
  pub gives : Gives known text
  pub certificate : Contents
  pub fits : IsCertificate certificate
  pub text_is : text ≡ text_of certificate
  pub holds : P certificate

-- the source gives a certificate whose lines were compared
abbrev pub IsHeard : Right → Option (List ℕ) → Tally → Type 0
IsHeard r known t = GivesCertificate known (λ c. Tallied r c t)

-- the source gives a text that has this fault
abbrev pub HasTextFault : Option (List ℕ) → CertFault → Type 0
HasTextFault known f = (text : List ℕ) × Gives known text × ((reading_of text).fault ≡ Some f)

-- the text has this fault, memory ran out, or the count of failures rose
abbrev pub IsStop : Option (List ℕ) → ℕ → ℕ → Stop → Type 0
IsStop known failed failed' (Fault (Malformed n)) = HasTextFault known (Malformed n)
IsStop known failed failed' (Fault (Truncated n)) = HasTextFault known (Truncated n)
IsStop known failed failed' (Fault Memory) = Unit {0}
IsStop known failed failed' Unread = failed < failed'
