-- Lines of a text that comes in pieces.
use Rattle.std.proofs.Common.{◌≡◌, ◌≢◌, ℕ, List, [], ◌∷◌, ◌++◌, Option, Some, None, refl, sym, ap, ◌∙◌, append_assoc, append-nil}
use Rattle.std.specs.Io.KnownBytes.{Consumes, IsAtEnd}
use Rattle.cilk_cert_text.specs.declared.fault.CertFault.{CertFault}
use Rattle.cilk_cert_text.specs.declared.fault.CertFault.TheVariants.{Malformed, Truncated, Memory}
use Rattle.cilk_cert_text.specs.declared.line.Line.{Line}
use Rattle.cilk_cert_text.specs.declared.reader.LineReader.{LineReader}
use Rattle.cilk_cert_text.specs.Certificates.{Contents}
use Rattle.cilk_cert_text.specs.Reading.{Reading, reading_of, stops, whole}
use Rattle.cilk_cert_text.specs.Readers.{ahead, fault_of, with_lines}
use Rattle.cilk_cert_text.specs.Gathering.{nothing, gathered, with_said}
use Rattle.cilk_checker.specs.declared.right.Right.{Right}
use Rattle.cilk_checker.specs.declared.tally.Tally.{Tally}
use Rattle.cilk_cert_text.proofs.Texts.{is_read}
use Rattle.cilk_checker.specs.declared.hearing.Stop.TheVariants.{Fault}
use Rattle.cilk_checker.specs.Stops.{Gives, IsHeard, IsStop, HasTextFault}
use Rattle.cilk_checker.specs.Tallies.{Tallied, behind_lines, Heard}

pub gathered_last : (c : Contents) (xs : List Line) (x : Line) → gathered c (xs ++ x ∷ []) ≡ with_said (gathered c xs) x
gathered_last c [] x = refl
gathered_last c (y ∷ xs) x = gathered_last (with_said c y) xs x

-- a line became whole
pub heard_line : (r : Right) (text rest rest' : List ℕ) (reader reader' : LineReader) (t t' : Tally) (line : Line)
    → ((more : List ℕ) → ahead reader (rest ++ more) ≡ with_lines (Some line) (ahead reader' (rest' ++ more)))
    → ((c : Contents) → Tallied r c t → Tallied r (with_said c line) t') → fault_of reader' ≡ None → Heard r text rest reader t
    → Heard r text rest' reader' t'
heard_line r text rest rest' reader reader' t t' line law next silent h = record {
  lines = h.lines ++ line ∷ [];
  ahead_is = λ more.
      h.ahead_is more ∙ ap (behind_lines h.lines) (law more)
      ∙ ap (λ (ls : List Line). record { lines = ls; fault = (ahead reader' (rest' ++ more)).fault }) (sym (append_assoc h.lines (line ∷ []) (ahead reader' (rest' ++ more)).lines));
  tallied = rw (gathered_last nothing h.lines line) (next (gathered nothing h.lines) h.tallied);
  silent = silent;
}

-- ---- a source

pub heard_fault_end : (r : Right) (text : List ℕ) (reader : LineReader) (t : Tally) (f : CertFault) → Heard r text [] reader t → ahead reader [] ≡ stops f → (reading_of (text ++ [])).fault ≡ Some f
heard_fault_end r text reader t f h e = ap (λ (x : Reading). x.fault) (h.ahead_is [] ∙ ap (behind_lines h.lines) e)

-- the text has ended whole
pub heard_end : (r : Right) (text : List ℕ) (reader : LineReader) (t : Tally) (known : Option (List ℕ)) → Gives known text → Heard r text [] reader t → ahead reader [] ≡ whole → IsHeard r known t
heard_end r text reader t known gives h e =
    let read : reading_of text ≡ behind_lines h.lines whole = ap reading_of (sym (append-nil text)) ∙ h.ahead_is [] ∙ ap (behind_lines h.lines) e in
    let all : (reading_of text).lines ≡ h.lines = ap (λ (x : Reading). x.lines) read ∙ append-nil h.lines in
    let is = is_read text (gathered nothing h.lines) (ap (gathered nothing) (sym all)) (ap (λ (x : Reading). x.fault) read) in
    record { text = text; gives = gives; certificate = gathered nothing h.lines; fits = is.fits; text_is = is.text_is; holds = h.tallied }

-- a fault of every text that begins like this is a fault of the source's text
pub fault_given : (known known' : Option (List ℕ)) (text : List ℕ) (f : CertFault) → Consumes known known' text → ((more : List ℕ) → (reading_of (text ++ more)).fault ≡ Some f) → HasTextFault known f
fault_given None known' text f c h = (text ++ [], tt, h [])
fault_given (Some all) None text f c h = absurd c
fault_given (Some all) (Some rest) text f c h = (text ++ rest, sym c, h rest)

not_memory : (n : ℕ) → ◌≡◌ {A = CertFault} (Malformed n) Memory → ⊥
not_memory n e = absurd cc

not_memory_either : (n : ℕ) → ◌≡◌ {A = CertFault} (Truncated n) Memory → ⊥
not_memory_either n e = absurd cc

pub stopped : (known known' : Option (List ℕ)) (text : List ℕ) (f : CertFault) (a b : ℕ) → Consumes known known' text → (f ≢ Memory → (more : List ℕ) → (reading_of (text ++ more)).fault ≡ Some f) → IsStop known a b (Fault f)
stopped known known' text (Malformed n) a b c h = fault_given known known' text (Malformed n) c (h (not_memory n))
stopped known known' text (Truncated n) a b c h = fault_given known known' text (Truncated n) c (h (not_memory_either n))
stopped known known' text Memory a b c h = tt

-- the source is at its end
pub gives_all : (known known' : Option (List ℕ)) (text : List ℕ) → Consumes known known' text → IsAtEnd known' → Gives known text
gives_all None known' text c e = tt
gives_all (Some all) None text c e = absurd c
gives_all (Some all) (Some rest) text c e = sym (c ∙ ap (λ (l : List ℕ). text ++ l) e ∙ append-nil text)

-- and its text ends with a fault
pub ended : (r : Right) (known : Option (List ℕ)) (text : List ℕ) (reader : LineReader) (t : Tally) (f : CertFault) (a b : ℕ) → Gives known text → Heard r text [] reader t → ahead reader [] ≡ stops f → IsStop known a b (Fault f)
ended r known text reader t (Malformed n) a b g h e = (text, g, ap (λ (l : List ℕ). (reading_of l).fault) (sym (append-nil text)) ∙ heard_fault_end r text reader t (Malformed n) h e)
ended r known text reader t (Truncated n) a b g h e = (text, g, ap (λ (l : List ℕ). (reading_of l).fault) (sym (append-nil text)) ∙ heard_fault_end r text reader t (Truncated n) h e)
ended r known text reader t Memory a b g h e = tt
