-- The answer for a certificate whose whole text was read.
--
-- - `certified_held`, `refused_held`: the text that was read is certified, or refused: so are the
--   contents of its file, as far as they are known;
-- - `refused_text`: the same, by the answer of a check;
-- - `unread_file`: the file isn't read.
use Rattle.std.proofs.Common.{◌≡◌, ℕ, List, Option, Some, None, arith, subst, ◌∙◌}
use Rattle.std.specs.Prelude.{ℤ}
use Rattle.cilk_cert_text.specs.Certificates.{Contents}
use Rattle.cilk_cert_text.specs.declared.fault.CertFault.{CertFault}
use Rattle.cilk_program.specs.Syntax.{Source}
use Rattle.cilk_checker.specs.Answers.{IsCertified, IsRefusedText, IsUnaccepted}
use Rattle.cilk_checker.specs.Pulls.{IsFaultlessSoFar}
use Rattle.cilk_checker.specs.Stops.{Gives, GivesCertificate, HasTextFault}
use Rattle.cilk_checker.specs.declared.refusal.Refusal.{Refusal}
use Rattle.cilk_checker.specs.declared.refusal.Refusal.TheVariants as refusals
use Rattle.cilk_checker.specs.declared.refusal.Unaccepted.{Unaccepted}
use Rattle.cilk_checker.specs.declared.refusal.Unaccepted.TheVariants as unaccepted
use Rattle.cilk_types.specs.declared.event.Event.{Event}
use Rattle.cilk_types.specs.declared.outcome.Outcome.{Outcome}
use Rattle.cilk_checker.specs.Judging.{Meant}
use Rattle.cilk_commands.specs.Files.{Failures, HoldsTo, IsHeld}
use Rattle.cilk_commands.specs.Replies.{NoMemory, Reply, Text, Unreadable}
use Rattle.cilk_commands.specs.Serving.{FileFails}
use Rattle.cilk_commands.specs.Shown.{CheckShows}
use Rattle.cilk_commands.proofs.Replying.{none_failed}
use Rattle.cilk_commands.proofs.Unread.{none_faultless}

-- what the text gives, the known contents give
gives_held : (known : Option Text) (text given : Text) → IsHeld known text → Gives (Some text) given → Gives known given
gives_held None text given held gives = tt
gives_held (Some all) text given held gives = gives ∙ held

certificate_held : (known : Option Text) (text : Text) (P : Contents → Type 0) → IsHeld known text → GivesCertificate (Some text) P → GivesCertificate known P
certificate_held known text P held g = record {
  text = g.text;
  gives = gives_held known text g.text held g.gives;
  certificate = g.certificate;
  fits = g.fits;
  text_is = g.text_is;
  holds = g.holds;
}

fault_held : (known : Option Text) (text : Text) (f : CertFault) → IsHeld known text → HasTextFault (Some text) f → HasTextFault known f
fault_held known text f held h = (h.0, gives_held known text h.0 held h.1, h.2)

pub certified_held : (p : Source) (inputs : List ℤ) (known : Option Text) (text : Text) (es : List Event) (o : Outcome)
    → IsHeld known text → IsCertified p inputs (Some text) es o → IsCertified p inputs known es o
certified_held p inputs known text es o held h = (h.0, h.1, certificate_held known text _ held h.2)

pub refused_held : (p : Source) (inputs : List ℤ) (known : Option Text) (text : Text) (r : Refusal)
    → IsHeld known text → IsRefusedText p inputs (Some text) r → IsRefusedText p inputs known r
refused_held p inputs known text (refusals.Malformed line) held h = fault_held known text _ held h
refused_held p inputs known text (refusals.Truncated line) held h = fault_held known text _ held h
refused_held p inputs known text refusals.Memory held h = tt
refused_held p inputs known text r held h = certificate_held known text _ held h

-- the check of the text that was read refuses the file's
pub refused_text : (p : Source) (inputs : List ℤ) (known : Option Text) (text rest : Text) (n m : ℕ) (u : Unaccepted) (r : Refusal)
    → IsHeld known text → rest ≡ text → u ≡ unaccepted.Refusal r → IsUnaccepted p inputs (Some rest) n m u → IsRefusedText p inputs known r
refused_text p inputs known text rest n m u r held same is h =
    refused_held p inputs known text r held
    (subst (λ (x : Unaccepted). IsUnaccepted p inputs (Some text) n m x) is (subst (λ (t : Text). IsUnaccepted p inputs (Some t) n m u) same h))

-- nothing was given of a file that can't be read from its first byte on
from_zero : (known : Option Text) (at : ℕ) → at ≡ 0 → HoldsTo known at IsFaultlessSoFar
from_zero None at first = tt
from_zero (Some all) at first = (0, omega (arith, first), none_faultless)

pub unread_file : (path : Text) (known : Option Text) (failed failed' : Failures) (m : Meant) (inputs : List ℤ) (r : Reply) → FileFails failed failed' path r
    → CheckShows path known failed failed' m inputs r
unread_file path known failed failed' m inputs (Unreadable name) h = (h.0, h.1, from_zero known failed'.at h.2)
unread_file path known failed failed' m inputs NoMemory h = none_failed failed failed' path h
unread_file path known failed failed' m inputs _ h = absurd h
