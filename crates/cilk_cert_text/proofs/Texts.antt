-- The contents of a text without a fault.
use Rattle.std.proofs.Common.{◌≡◌, ◌≢◌, ℕ, List, [], ◌∷◌, ◌++◌, Option, Some, None, refl, sym, ap, subst, ◌∙◌}
use Rattle.cilk_cert_text.specs.declared.fault.CertFault.{CertFault}
use Rattle.cilk_cert_text.specs.declared.fault.CertFault.TheVariants.{Malformed, Truncated, Memory}
use Rattle.cilk_cert_text.specs.declared.line.Line.{Line}
use Rattle.cilk_cert_text.specs.Certificates.{Contents, lines_of, text_of, IsCertificate}
use Rattle.cilk_cert_text.specs.Reading.{Reading, reading_of}
use Rattle.cilk_cert_text.specs.Gathering.{nothing, gathered}
use Rattle.cilk_cert_text.proofs.Wholes.{certificate_sound, certificate_again, certificate_over, gathered_lines}

same_reading : (r : Reading) (ls : List Line) → r.lines ≡ ls → r.fault ≡ None → r ≡ record { lines = ls; fault = None }
same_reading r ls e f = rw (← e, ← f) refl

-- the contents are those of the certificate whose text it is
pub record IsRead (text : List ℕ) (p : Contents) : Type 0 where
  pub fits : IsCertificate p
  pub text_is : text ≡ text_of p
  pub lines : reading_of text ≡ record { lines = lines_of p; fault = None }

pub is_read : (text : List ℕ) (p : Contents) → p ≡ gathered nothing (reading_of text).lines → (reading_of text).fault ≡ None → IsRead text p
is_read text p e clean =
    let t = certificate_sound text (reading_of text) refl clean in
    let same : t.certificate ≡ p = sym (gathered_lines t.certificate) ∙ ap (gathered nothing) (sym t.lines) ∙ sym e in
    subst (λ (c : Contents). IsRead text c) same (record {
      fits = t.fits;
      text_is = t.text;
      lines = same_reading (reading_of text) (lines_of t.certificate) t.lines clean;
    })

pub only_ok : (text : List ℕ) (p c : Contents) → p ≡ gathered nothing (reading_of text).lines → IsCertificate c → text ≡ text_of c → p ≡ c
only_ok text p c e fits is =
    let r = ap reading_of is ∙ certificate_again c fits in
    e ∙ ap (λ (x : Reading). gathered nothing x.lines) r ∙ gathered_lines c

none_some : (f : CertFault) → ◌≡◌ {A = Option CertFault} None (Some f) → ⊥
none_some f e = absurd cc

malformed : (n : ℕ) → ◌≡◌ {A = CertFault} (Malformed n) Memory → ⊥
malformed n e = absurd cc

truncated : (n : ℕ) → ◌≡◌ {A = CertFault} (Truncated n) Memory → ⊥
truncated n e = absurd cc

clean_of : (text : List ℕ) (c : Contents) → IsCertificate c → text ≡ text_of c → (reading_of text).fault ≡ None
clean_of text c fits is = ap (λ (x : Reading). x.fault) (ap reading_of is ∙ certificate_again c fits)

pub only_err : (text : List ℕ) (f : CertFault) → (f ≢ Memory → (reading_of text).fault ≡ Some f) → (c : Contents) → IsCertificate c → text ≡ text_of c → f ≡ Memory
only_err text (Malformed n) h c fits is = absurd (none_some (Malformed n) (sym (clean_of text c fits is) ∙ h (malformed n)))
only_err text (Truncated n) h c fits is = absurd (none_some (Truncated n) (sym (clean_of text c fits is) ∙ h (truncated n)))
only_err text Memory h c fits is = refl

-- ---- from the reader's beginning to its end

-- ---- one text, one certificate

pub one_certificate : (c d : Contents) → IsCertificate c → IsCertificate d → text_of c ≡ text_of d → c ≡ d
one_certificate c d h k e =
    let same = sym (certificate_again c h) ∙ ap reading_of e ∙ certificate_again d k in
    sym (gathered_lines c) ∙ ap (λ (x : Reading). gathered nothing x.lines) same ∙ gathered_lines d

pub from_text : (text : List ℕ) → (reading_of text).fault ≡ None → (c : Contents) × IsCertificate c × ((reading_of text).lines ≡ lines_of c) × (text ≡ text_of c)
from_text text clean = let t = certificate_sound text (reading_of text) refl clean in (t.certificate, t.fits, t.lines, t.text)

pub no_beginning : (c d : Contents) (rest : List ℕ) → IsCertificate c → IsCertificate d → text_of c ++ rest ≡ text_of d → rest ≡ []
no_beginning c d [] h k e = refl
no_beginning c d (b ∷ rest) h k e =
    let o = certificate_over c h b rest in
    let clean = ap (λ (x : Reading). x.fault) (ap reading_of e ∙ certificate_again d k) in
    absurd (none_some o.0 (sym clean ∙ o.1))
