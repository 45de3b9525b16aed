-- Texts without a malformed line.
--
-- - `formed_within`: such a text has at most 134,217,728 bytes;
-- - `heard_formed`: a text that was read so far without a fault is such a text.
use Rattle.std.proofs.Common.{◌≡◌, ◌⊎◌, inl, inr, ℕ, ◌+◌, ◌≤◌, Bool, true, false, cond, List, [], ◌∷◌, ◌++◌, length, Option, Some, None, refl, sym, ap, ◌∙◌, ltb, arith, append-nil, length-append}
use Rattle.std.proofs.lemmas.Bool.{ltb-true}
use Rattle.cilk_cert_text.specs.declared.fault.CertFault.{CertFault}
use Rattle.cilk_cert_text.specs.declared.fault.CertFault.TheVariants.{Malformed, Truncated}
use Rattle.cilk_cert_text.specs.declared.reader.LineReader.{LineReader}
use Rattle.cilk_cert_text.specs.declared.line.Line.{Line}
use Rattle.cilk_cert_text.specs.declared.line.Line.TheVariants as lines
use Rattle.cilk_cert_text.specs.declared.line.Form.{Form}
use Rattle.cilk_cert_text.specs.declared.line.Version.{Version}
use Rattle.cilk_cert_text.specs.Words.{words, joined}
use Rattle.cilk_cert_text.specs.Lines.{line_words, spelled, line_of, version_line, size_line}
use Rattle.cilk_cert_text.specs.Certificates.{text_of_lines}
use Rattle.cilk_cert_text.specs.Reading.{Reading, Due, Opening, Sizing, Lines, stops, with_line, first_line, taken, step, forms_of, reading_lines, reading_size, reading, reading_of}
use Rattle.cilk_cert_text.specs.Places.{due_of, number_at}
use Rattle.cilk_cert_text.specs.Readers.{ahead, fault_of}
use Rattle.cilk_cert_text.proofs.Bounds.{within_limit}
use Rattle.cilk_cert_text.proofs.Entries.{line_sound}
use Rattle.cilk_cert_text.proofs.Readings.{end_cut, end_whole}
use Rattle.cilk_cert_text.proofs.Spellings.{joined_words, size_sound, version_sound}
use Rattle.cilk_cert_text.proofs.Wholes.{front_is}
use Rattle.cilk_checker.specs.declared.right.Right.{Right}
use Rattle.cilk_checker.specs.declared.tally.Tally.{Tally}
use Rattle.cilk_checker.specs.Pulls.{HasNoMalformedLine}
use Rattle.cilk_checker.specs.Tallies.{Heard}

-- the same of a reading
abbrev IsFormed : Reading → Type 0
IsFormed r = (line : ℕ) → r.fault ≡ Some (Malformed line) → ⊥

abbrev size_of : Reading → ℕ
size_of r = length (text_of_lines r.lines)

-- a line that was read is as long as its spelling
line_size : (x : Line) (r : Reading) (front rest : List ℕ) → front ≡ spelled x → length rest ≤ size_of r + 96
    → length front + 1 + length rest ≤ size_of (with_line x r) + 96
line_size x r front rest e h = rw e (omega (
  arith,
  h,
  length-append (spelled x) (10 ∷ []),
  length-append (spelled x ++ 10 ∷ []) (text_of_lines r.lines),
))

-- what follows a line is short, if its lines are well-formed
abbrev IsShort : {A : Type 0} → (List ℕ → Option A) → (A → List ℕ → Reading) → Type 0
IsShort {A} line next = (l rest : List ℕ) (a : A) → line l ≡ Some a → IsFormed (next a rest)
    → length l + 1 + length rest ≤ size_of (next a rest) + 96

taken_size : {A : Type 0} (n : ℕ) (line : List ℕ → Option A) (next : A → List ℕ → Reading) (l rest : List ℕ) (o : Option A)
    → IsShort line next → line l ≡ o → IsFormed (taken n next rest o) → length l + 1 + length rest ≤ size_of (taken n next rest o) + 96
taken_size n line next l rest None each e h = absurd (h n refl)
taken_size n line next l rest (Some a) each e h = each l rest a e h

front_size : {A : Type 0} (n : ℕ) (line : List ℕ → Option A) (next : A → List ℕ → Reading) (l rest : List ℕ) (t : Bool)
    → IsShort line next → IsFormed (cond t (taken n next rest (line l)) (stops (Malformed n)))
    → length l + 1 + length rest ≤ size_of (cond t (taken n next rest (line l)) (stops (Malformed n))) + 96
front_size n line next l rest true each h = taken_size n line next l rest (line l) each refl h
front_size n line next l rest false each h = absurd (h n refl)

none_size : (n k : ℕ) (t : Bool) → ltb k 97 ≡ t → IsFormed (cond t (stops (Truncated n)) (stops (Malformed n)))
    → k ≤ size_of (cond t (stops (Truncated n)) (stops (Malformed n))) + 96
none_size n k true e h = omega (arith, ltb-true k 97 e)
none_size n k false e h = absurd (h n refl)

step_size : {A : Type 0} (n : ℕ) (line : List ℕ → Option A) (next : A → List ℕ → Reading) (bytes : List ℕ) (o : Option (List ℕ × List ℕ))
    → IsShort line next → first_line bytes ≡ o → IsFormed (step n line next bytes o) → length bytes ≤ size_of (step n line next bytes o) + 96
step_size n line next bytes None each e h = none_size n (length bytes) (ltb (length bytes) 97) refl h
step_size n line next bytes (Some p) each e h =
    let f = front_size n line next p.0 p.1 (ltb (length p.0) 97) each h in
    omega (arith, f, ap (λ (l : List ℕ). length l) (front_is bytes p e), length-append p.0 (10 ∷ p.1))

lines_size : (n : ℕ) (fs : List Form) (bytes : List ℕ) → IsFormed (reading_lines n fs bytes)
    → length bytes ≤ size_of (reading_lines n fs bytes) + 96
lines_size n [] [] h = omega arith
lines_size n [] (b ∷ bs) h = absurd (h n refl)
lines_size n (f ∷ fs) bytes h =
    let later = lines_size (n + 1) fs in
    step_size n (line_of f) (λ line rest. with_line line (reading_lines (n + 1) fs rest)) bytes (first_line bytes)
    (λ l rest x e formed. line_size x (reading_lines (n + 1) fs rest) l rest (line_sound f l x e).1 (later rest formed)) refl h

words_spelled : (l : List ℕ) (x : Line) → words l ≡ line_words x → l ≡ spelled x
unfolding spelled
words_spelled l x e = sym (joined_words l) ∙ ap joined e

version_size : (v : Version) (n : ℕ) (bytes : List ℕ) → IsFormed (reading_size v n bytes) → length bytes ≤ size_of (reading_size v n bytes) + 96
version_size v n bytes h =
    step_size n (λ l. size_line (words l)) (λ size rest. with_line (lines.Size size) (reading_lines (n + 1) (forms_of v size) rest)) bytes (first_line bytes)
    (λ l rest s e formed. line_size (lines.Size s) (reading_lines (n + 1) (forms_of v s) rest) l rest
    (words_spelled l (lines.Size s) (size_sound (words l) s e).words) (lines_size (n + 1) (forms_of v s) rest formed)) refl h

text_size : (text : List ℕ) → HasNoMalformedLine text → length text ≤ size_of (reading_of text) + 96
unfolding reading
text_size text h =
    step_size 1 (λ l. version_line (words l)) (λ version rest. with_line (lines.Version version) (reading_size version 2 rest)) text (first_line text)
    (λ l rest v e formed. line_size (lines.Version v) (reading_size v 2 rest) l rest
    (words_spelled l (lines.Version v) (version_sound (words l) v e)) (version_size v 2 rest formed)) refl h

pub formed_within : (text : List ℕ) → HasNoMalformedLine text → length text ≤ 134217728
formed_within text h = omega (arith, text_size text h, within_limit text)

-- ---- a reader

some_lines : (x : Form) (xs : List Form) → Lines (x ∷ xs) ≡ Lines [] → ⊥
some_lines x xs e = absurd cc

finished_or_not : (due : Due) → (due ≡ Lines []) ⊎ (due ≡ Lines [] → ⊥)
finished_or_not Opening = inr (λ e. absurd cc)
finished_or_not (Sizing v) = inr (λ e. absurd cc)
finished_or_not (Lines []) = inl refl
finished_or_not (Lines (x ∷ xs)) = inr (λ e. some_lines x xs e)

fault_at : (r r' : Reading) (line : ℕ) → r ≡ r' → r.fault ≡ Some (Malformed line) → r'.fault ≡ Some (Malformed line)
fault_at r r' line same e = rw same at e

none_some : (f : CertFault) → ◌≡◌ {A = Option CertFault} None (Some f) → ⊥
none_some f e = absurd cc

cut_apart : (n line : ℕ) → ◌≡◌ {A = Option CertFault} (Some (Truncated n)) (Some (Malformed line)) → ⊥
cut_apart n line e = absurd cc

-- what a reader without a fault has read may be the whole text: it isn't malformed
reader_formed : (r : LineReader) → fault_of r ≡ None → IsFormed (ahead r [])
reader_formed r silent line e =
    let due = due_of r.place in
    let n = number_at r.place in
    elim (finished_or_not due) [
      | inl d ↦ none_some (Malformed line) (fault_at _ _ line (end_whole r.fault due n r.length r.bytes silent d (r.at_end d)) e)
      | inr unread ↦ cut_apart n line (fault_at _ _ line (end_cut r.fault due n n r.length r.bytes silent unread r.no_lf r.room refl) e)
    ]

pub heard_formed : (r : Right) (text : List ℕ) (reader : LineReader) (t : Tally) → Heard r text [] reader t → HasNoMalformedLine text
heard_formed r text reader t h line e =
    reader_formed reader h.silent line
    (sym (ap (λ (x : Reading). x.fault) (h.ahead_is [])) ∙ ap (λ (l : List ℕ). (reading_of l).fault) (append-nil text) ∙ e)
