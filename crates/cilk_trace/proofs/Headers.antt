-- The first bytes of a trace: `matched_law` and `whole_header` read on in the header of a binary form, `other_byte` and `cut_header` say
-- that the trace is text; `no_lf_header`: a part of the header has no LF.
use Rattle.std.proofs.Common.{◌≡◌, ℕ, suc, zero, ◌+◌, ◌<◌, Bool, true, false, cond, List, [], ◌∷◌, ◌++◌, length, get_or, take, drop, refl, sym, ap, subst, ◌∙◌, eqb, arith, append_assoc, append-nil, length-take}
use Rattle.std.specs.Prelude.{codes}
use Rattle.std.specs.Str.{bytes_eq}
use Rattle.std.proofs.lemmas.List.{take_more, take-append-le}
use Rattle.std.proofs.lemmas.Slice.Eq.{bytes_eq-Decides}
use Rattle.cilk_trace.specs.declared.fault.TraceFault.{TraceFault}
use Rattle.cilk_trace.specs.declared.reader.Form.{Form}
use Rattle.cilk_trace.specs.declared.reader.Form.TheVariants.{Text, Unknown}
use Rattle.cilk_trace.specs.declared.reader.TraceReader.{TraceReader}
use Rattle.cilk_trace.specs.Binary.{binary_reading}
use Rattle.cilk_trace.specs.Forms.{binary_header, reading_of}
use Rattle.cilk_trace.specs.Readers.{ahead, ahead_by}
use Rattle.cilk_trace.specs.Reading.{HasNoLf, stops, text_lines, text_reading, with_front}
use Rattle.cilk_trace.specs.TextReaders as text
use Rattle.cilk_trace.proofs.Readings.{split}

-- the header so far, and its next byte
one_more : (m : ℕ) (more : List ℕ) → m < 16 → take m binary_header ++ get_or binary_header m 0 ∷ more ≡ take (m + 1) binary_header ++ more
one_more m more h =
    sym (append_assoc (take m binary_header) (get_or binary_header m 0 ∷ []) more)
    ∙ ap (λ (l : List ℕ). l ++ more) (sym (take_more binary_header m 0 h))

pub matched_law : (m b : ℕ) (more : List ℕ) → m < 16 → b ≡ get_or binary_header m 0
    → reading_of (take m binary_header ++ b ∷ more) ≡ reading_of (take (m + 1) binary_header ++ more)
matched_law m b more h e =
    ap reading_of (ap (λ (x : ℕ). take m binary_header ++ x ∷ more) e ∙ one_more m more h)

binary_again : (more : List ℕ) → reading_of (binary_header ++ more) ≡ binary_reading more
binary_again more = refl

pub whole_header : (m b : ℕ) (more : List ℕ) → m + 1 ≡ 16 → b ≡ get_or binary_header m 0
    → reading_of (take m binary_header ++ b ∷ more) ≡ binary_reading more
whole_header m b more last e =
    matched_law m b more (omega (arith, last)) e
    ∙ (ap (λ (n : ℕ). reading_of (take n binary_header ++ more)) last ∙ binary_again more)

-- ---- text

as_text : (t : Bool) (text : List ℕ) → bytes_eq (take 16 text) binary_header ≡ t → (t ≡ true → ⊥)
    → cond t (binary_reading (drop 16 text)) (text_reading text) ≡ text_reading text
as_text true text e other = absurd (other refl)
as_text false text e other = refl

text_by : (text : List ℕ) → (take 16 text ≡ binary_header → ⊥) → reading_of text ≡ text_reading text
text_by text other =
    as_text (bytes_eq (take 16 text) binary_header) text refl (λ e. other ((bytes_eq-Decides (take 16 text) binary_header).0 e))

same_byte : (m k : ℕ) (xs more : List ℕ) (b : ℕ) → m < k → m < length xs → take k (take m xs ++ b ∷ more) ≡ xs → b ≡ get_or xs m 0
same_byte m zero xs more b h l e = absurd (omega (arith, h))
same_byte m (suc k) [] more b h l e = absurd (omega (arith, l))
same_byte zero (suc k) (x ∷ xs) more b h l e = cc e
same_byte (suc m) (suc k) (x ∷ xs) more b h l e =
    let rest : take k (take m xs ++ b ∷ more) ≡ xs = cc e in
    same_byte m k xs more b (omega (arith, h)) (omega (arith, l)) rest

pub other_byte : (m b : ℕ) (more : List ℕ) → m < 16 → (b ≡ get_or binary_header m 0 → ⊥)
    → reading_of (take m binary_header ++ b ∷ more) ≡ text_reading (take m binary_header ++ b ∷ more)
other_byte m b more h other = text_by (take m binary_header ++ b ∷ more) (λ e. other (same_byte m 16 binary_header more b h h e))

pub cut_header : (m : ℕ) → m < 16 → reading_of (take m binary_header ++ []) ≡ text_reading (take m binary_header ++ [])
cut_header m h =
    text_by (take m binary_header ++ []) (λ e. let size = ap length e in
    absurd (omega (arith, h, size, length-take 16 (take m binary_header ++ []), ap length (append-nil (take m binary_header)), length-take m binary_header)))

-- ---- no LF

no_lf_take : (m : ℕ) (xs : List ℕ) → HasNoLf xs → HasNoLf (take m xs)
no_lf_take zero xs h = refl
no_lf_take (suc m) [] h = refl
no_lf_take (suc m) (x ∷ xs) h =
    let s = split (eqb x 10) x xs (text_lines xs) h in
    rw s.0 (ap (with_front (x ∷ [])) (no_lf_take m xs s.1))

pub no_lf_header : (m : ℕ) → m < 16 → HasNoLf (take m binary_header)
no_lf_header m h =
    subst HasNoLf (sym (take-append-le m (codes "cilktrace-bin 1") (10 ∷ []) (omega (arith, h)))) (no_lf_take m (codes "cilktrace-bin 1") refl)

-- ---- a reader

pub next_matched : (r s : TraceReader) (b : ℕ) (more : List ℕ) → r.form ≡ Unknown → s.form ≡ Unknown → s.matched ≡ r.matched + 1 → r.matched < 16
    → b ≡ get_or binary_header r.matched 0 → ahead r (b ∷ more) ≡ ahead s more
next_matched r s b more e d next h is =
    ap (λ (f : Form). ahead_by f r (b ∷ more)) e
    ∙ (matched_law r.matched b more h is
    ∙ (ap (λ (n : ℕ). reading_of (take n binary_header ++ more)) (sym next) ∙ ap (λ (f : Form). ahead_by f s more) (sym d)))

pub cut_in_header : (r s : TraceReader) (fault : TraceFault) → r.form ≡ Unknown → r.matched < 16 → s.form ≡ Text
    → ((more : List ℕ) → ahead s more ≡ text_reading (take r.matched binary_header ++ more)) → text.ahead s.text [] ≡ stops fault
    → ahead r [] ≡ stops fault
cut_in_header r s fault e h d law cut =
    ap (λ (f : Form). ahead_by f r []) e
    ∙ (cut_header r.matched h ∙ (sym (law []) ∙ (ap (λ (f : Form). ahead_by f s []) d ∙ cut)))
