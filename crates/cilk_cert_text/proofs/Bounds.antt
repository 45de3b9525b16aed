-- The lines before a fault are short.
use Rattle.std.proofs.Common.{◌≡◌, ℕ, zero, suc, ◌+◌, ◌*◌, ◌≤◌, Bool, true, false, cond, List, [], ◌∷◌, ◌++◌, length, Option, Some, None, refl, arith, length-append, ltb}
use Rattle.cilk_cert_text.specs.declared.fault.CertFault.TheVariants.{Malformed, Truncated}
use Rattle.cilk_cert_text.specs.declared.line.Version.{Version}
use Rattle.cilk_cert_text.specs.declared.line.Size.{Size}
use Rattle.cilk_cert_text.specs.declared.line.Line.{Line}
use Rattle.cilk_cert_text.specs.declared.line.Line.TheVariants as lines
use Rattle.cilk_cert_text.specs.declared.line.Form.{Form}
use Rattle.cilk_cert_text.specs.declared.line.Form.TheVariants as forms
use Rattle.cilk_cert_text.specs.Words.{words}
use Rattle.cilk_cert_text.specs.Lines.{line_words, spelled, line_of, is_size, version_line, size_line}
use Rattle.cilk_cert_text.specs.Certificates.{text_of_lines}
use Rattle.cilk_cert_text.specs.Reading.{Reading, stops, with_line, first_line, taken, step, frame_forms, strand_forms, event_forms, forms_of, reading_lines, reading_size, reading, reading_of}
use Rattle.cilk_cert_text.proofs.Spellings.{size_sound, size_within}
use Rattle.cilk_cert_text.proofs.Entries.{line_sound}
use Rattle.cilk_cert_text.proofs.Shown.{Shown, shown_line, shown_version, shown_size, short}

abbrev size_of_lines : Reading → ℕ
size_of_lines r = length (text_of_lines r.lines)

stops_cond : (t : Bool) (n k : ℕ) → size_of_lines (cond t (stops (Truncated n)) (stops (Malformed n))) ≤ k
stops_cond true n k = omega arith
stops_cond false n k = omega arith

taken_bound : {A : Type 0} (n k : ℕ) (line : List ℕ → Option A) (next : A → List ℕ → Reading) (l rest : List ℕ) (o : Option A) → line l ≡ o → ((l : List ℕ) (a : A) (rest : List ℕ) → line l ≡ Some a → size_of_lines (next a rest) ≤ k) → size_of_lines (taken n next rest o) ≤ k
taken_bound n k line next l rest None e h = omega arith
taken_bound n k line next l rest (Some a) e h = h l a rest e

front_cond : {A : Type 0} (t : Bool) (n k : ℕ) (line : List ℕ → Option A) (next : A → List ℕ → Reading) (l rest : List ℕ) → ((l : List ℕ) (a : A) (rest : List ℕ) → line l ≡ Some a → size_of_lines (next a rest) ≤ k) → size_of_lines (cond t (taken n next rest (line l)) (stops (Malformed n))) ≤ k
front_cond true n k line next l rest h = taken_bound n k line next l rest (line l) refl h
front_cond false n k line next l rest h = omega arith

step_bound : {A : Type 0} (n k : ℕ) (line : List ℕ → Option A) (next : A → List ℕ → Reading) (bytes : List ℕ) (o : Option (List ℕ × List ℕ)) → ((l : List ℕ) (a : A) (rest : List ℕ) → line l ≡ Some a → size_of_lines (next a rest) ≤ k) → size_of_lines (step n line next bytes o) ≤ k
step_bound n k line next bytes None h = stops_cond (ltb (length bytes) 97) n k
step_bound n k line next bytes (Some p) h = front_cond (ltb (length p.0) 97) n k line next p.0 p.1 h

one_more : (x : Line) (r : Reading) (k : ℕ) → Shown (line_words x) → size_of_lines r ≤ k → size_of_lines (with_line x r) ≤ 53 + k
one_more x r k s h =
    omega (arith, short x s, length-append (spelled x) (10 ∷ []), length-append (spelled x ++ 10 ∷ []) (text_of_lines r.lines))

lines_bound : (n : ℕ) (fs : List Form) (bytes : List ℕ) → size_of_lines (reading_lines n fs bytes) ≤ 53 * length fs
lines_bound n [] [] = omega arith
lines_bound n [] (b ∷ bs) = omega arith
lines_bound n (f ∷ fs) bytes =
    let later = lines_bound (n + 1) fs in
    let each = step_bound n (53 + 53 * length fs) (line_of f) (λ line rest. with_line line (reading_lines (n + 1) fs rest)) bytes (first_line bytes)
    (λ l x rest e. one_more x (reading_lines (n + 1) fs rest) (53 * length fs) (shown_line f x (line_sound f l x e).0) (later rest)) in
    omega (arith, each)

pub frame_count : (k n : ℕ) → length (frame_forms k n) ≡ n
frame_count k zero = refl
frame_count k (suc n) = omega (arith, frame_count (k + 1) n)

pub strand_count : (k n : ℕ) → length (strand_forms k n) ≡ n
strand_count k zero = refl
strand_count k (suc n) = omega (arith, strand_count (k + 1) n)

pub event_count : (v : Version) (n : ℕ) → length (event_forms v n) ≡ n
event_count v zero = refl
event_count v (suc n) = omega (arith, event_count v n)

count : (v : Version) (s : Size) → is_size s ≡ true → length (forms_of v s) ≤ 2065538
count v s few =
    let b = size_within s few in
    let last : List Form = forms.Result ∷ forms.End ∷ [] in
    omega (
      arith,
      frame_count 1 s.frames,
      strand_count 1 s.strands,
      event_count v s.events,
      length-append (event_forms v s.events) last,
      length-append (strand_forms 1 s.strands) (event_forms v s.events ++ last),
      length-append (frame_forms 1 s.frames) (strand_forms 1 s.strands ++ (event_forms v s.events ++ last)),
    )

size_bound : (v : Version) (n : ℕ) (bytes : List ℕ) → size_of_lines (reading_size v n bytes) ≤ 109473567
size_bound v n bytes =
    step_bound n 109473567 (λ l. size_line (words l)) (λ size rest. with_line (lines.Size size) (reading_lines (n + 1) (forms_of v size) rest)) bytes (first_line bytes)
    (λ l s rest e.
    let few = (size_sound (words l) s e).few in
    let lines_of_size : size_of_lines (reading_lines (n + 1) (forms_of v s) rest) ≤ 109473514 = omega (arith, lines_bound (n + 1) (forms_of v s) rest, count v s few) in
    one_more (lines.Size s) (reading_lines (n + 1) (forms_of v s) rest) 109473514 (shown_size s few) lines_of_size)

-- all lines that are read and 97 more bytes are within 134,217,728 bytes
pub within_limit : (text : List ℕ) → length (text_of_lines (reading_of text).lines) + 97 ≤ 134217728
unfolding reading
within_limit text =
    let all = step_bound 1 109473620 (λ l. version_line (words l)) (λ version rest. with_line (lines.Version version) (reading_size version 2 rest)) text (first_line text)
    (λ l v rest e. one_more (lines.Version v) (reading_size v 2 rest) 109473567 (shown_version v) (size_bound v 2 rest)) in
    omega (arith, all)
