-- The line at an index, and the lines after it.
--
-- `get_front`, `get_back`: an element of the first or the second of two lists. `frame_at`,
-- `strand_at`: a line of a column. `frames_counted`, `strands_counted`: the lengths of the columns.
-- `column_frame`, `column_strand`, `column_late`: the lines after the first two. `line_frame`,
-- `line_strand`, `line_event`: the line at an index of all lines. `left_some`,
-- `left_none`: the list after an element, and after all.
use Rattle.std.proofs.Common.{◌≡◌, ℕ, zero, suc, ◌+◌, ◌-◌, ◌<◌, ◌≤◌, List, [], ◌∷◌, ◌++◌, length, drop, get_or, Option, Some, None, option_map, refl, ap, subst, sym, ◌∙◌, arith}
use Rattle.std.specs.Prelude.{slice_get}
use Rattle.std.proofs.lemmas.Option.{get_or_from_slice_get, slice_get_read, slice_get_within}
use Rattle.std.proofs.lemmas.List.{drop_all, drop_more}
use Rattle.cilk_cert_text.specs.declared.line.Frame.{Frame}
use Rattle.cilk_cert_text.specs.declared.line.Strand.{Strand}
use Rattle.cilk_cert_text.specs.declared.line.Entry.{Entry}
use Rattle.cilk_cert_text.specs.declared.line.Line.{Line}
use Rattle.cilk_cert_text.specs.declared.line.Line.TheVariants as lines
use Rattle.cilk_cert_text.specs.Certificates.{Contents, column_lines, event_lines, frame_lines, late_lines, lines_of, strand_lines}

module _ {X : Type 0} where
  -- the result of looking one of these elements up
  found : (xs ys : List X) (i : ℕ) (x : X) → xs ≡ ys → i < length xs → x ≡ get_or xs i x → slice_get ys i ≡ Some x
  found xs ys i x e h k = subst (λ (zs : List X). slice_get zs i ≡ Some x) e (slice_get_read xs (length xs) i x refl h k)

  pub get_front : (xs ys : List X) (i : ℕ) (x : X) → slice_get xs i ≡ Some x → slice_get (xs ++ ys) i ≡ Some x
  get_front [] ys i x h = absurd (omega (arith, slice_get_within [] i x h))
  get_front (y ∷ xs) ys zero x h = h
  get_front (y ∷ xs) ys (suc i) x h = get_front xs ys i x h

  pub get_back : (xs ys : List X) (i : ℕ) → length xs ≤ i → slice_get (xs ++ ys) i ≡ slice_get ys (i - length xs)
  get_back [] ys i h = ap (λ n. slice_get ys n) (omega arith)
  get_back (y ∷ xs) ys zero h = absurd (omega (arith, h))
  get_back (y ∷ xs) ys (suc i) h = get_back xs ys i (omega (arith, h)) ∙ ap (λ n. slice_get ys n) (omega arith)

  pub left_some : (xs : List X) (i : ℕ) (x : X) → slice_get xs i ≡ Some x → drop i xs ≡ x ∷ drop (i + 1) xs
  left_some xs i x h = drop_more xs i x (slice_get_within xs i x h) ∙ ap (λ y. y ∷ drop (i + 1) xs) (get_or_from_slice_get xs i x x h)

  none_past : (xs : List X) (i : ℕ) → slice_get xs i ≡ None → length xs ≤ i
  none_past [] i h = omega arith
  none_past (y ∷ xs) zero h = absurd (subst (λ (o : Option X). elim o as (λ _. Type 0) [ Some x ↦ Unit {0} | None ↦ ⊥ ]) h tt)
  none_past (y ∷ xs) (suc i) h = omega (arith, none_past xs i h)

  pub left_none : (xs : List X) (i : ℕ) → slice_get xs i ≡ None → drop i xs ≡ []
  left_none xs i h = drop_all i xs (none_past xs i h)

pub frame_at : (k : ℕ) (fs : List Frame) (i : ℕ) (f : Frame) → slice_get fs i ≡ Some f → slice_get (frame_lines k fs) i ≡ Some (lines.Frame (k + i) f)
frame_at k [] i f h = absurd (omega (arith, slice_get_within [] i f h))
frame_at k (g ∷ fs) zero f h = ap (λ (o : Option Frame). option_map (λ x. lines.Frame k x) o) h ∙ ap (λ n. Some (lines.Frame n f)) (omega arith)
frame_at k (g ∷ fs) (suc i) f h = frame_at (k + 1) fs i f h ∙ ap (λ n. Some (lines.Frame n f)) (omega arith)

pub strand_at : (k : ℕ) (ss : List Strand) (i : ℕ) (s : Strand) → slice_get ss i ≡ Some s → slice_get (strand_lines k ss) i ≡ Some (lines.Strand (k + i) s)
strand_at k [] i s h = absurd (omega (arith, slice_get_within [] i s h))
strand_at k (t ∷ ss) zero s h = ap (λ (o : Option Strand). option_map (λ x. lines.Strand k x) o) h ∙ ap (λ n. Some (lines.Strand n s)) (omega arith)
strand_at k (t ∷ ss) (suc i) s h = strand_at (k + 1) ss i s h ∙ ap (λ n. Some (lines.Strand n s)) (omega arith)

pub frames_counted : (k : ℕ) (fs : List Frame) → length (frame_lines k fs) ≡ length fs
frames_counted k [] = refl
frames_counted k (f ∷ fs) = ap suc (frames_counted (k + 1) fs)

pub strands_counted : (k : ℕ) (ss : List Strand) → length (strand_lines k ss) ≡ length ss
strands_counted k [] = refl
strands_counted k (s ∷ ss) = ap suc (strands_counted (k + 1) ss)

pub column_frame : (c : Contents) (fs : List Frame) (i : ℕ) (f : Frame) → fs ≡ c.frames → i < length fs → f ≡ get_or fs i f
    → Some (lines.Frame (i + 1) f) ≡ slice_get (column_lines c) i
column_frame c fs i f e h k =
    sym (get_front (frame_lines 1 c.frames) (strand_lines 1 c.strands ++ late_lines c) i (lines.Frame (1 + i) f)
    (frame_at 1 c.frames i f (found fs c.frames i f e h k)) ∙ ap (λ n. Some (lines.Frame n f)) (omega arith))

behind_frames : (c : Contents) (n i : ℕ) → n ≡ length c.frames → n ≤ i
    → slice_get (column_lines c) i ≡ slice_get (strand_lines 1 c.strands ++ late_lines c) (i - n)
behind_frames c n i e h =
    let few = frames_counted 1 c.frames in
    get_back (frame_lines 1 c.frames) (strand_lines 1 c.strands ++ late_lines c) i (omega (arith, few, e, h))
    ∙ ap (λ n. slice_get (strand_lines 1 c.strands ++ late_lines c) (i - n)) (few ∙ sym e)

pub column_strand : (c : Contents) (fs : List Frame) (ss : List Strand) (i : ℕ) (s : Strand) → fs ≡ c.frames → ss ≡ c.strands
    → length fs ≤ i → i - length fs < length ss → s ≡ get_or ss (i - length fs) s
    → Some (lines.Strand (i - length fs + 1) s) ≡ slice_get (column_lines c) i
column_strand c fs ss i s e d h l k =
    let j : ℕ = i - length fs in
    sym (behind_frames c (length fs) i (ap length e) h
    ∙ get_front (strand_lines 1 c.strands) (late_lines c) j (lines.Strand (1 + j) s) (strand_at 1 c.strands j s (found ss c.strands j s d l k))
    ∙ ap (λ n. Some (lines.Strand n s)) (omega arith))

pub column_late : (c : Contents) (fs : List Frame) (ss : List Strand) (i : ℕ) → fs ≡ c.frames → ss ≡ c.strands
    → length fs ≤ i → length ss ≤ i - length fs → slice_get (late_lines c) (i - length fs - length ss) ≡ slice_get (column_lines c) i
column_late c fs ss i e d h k =
    let j : ℕ = i - length fs in
    let few = strands_counted 1 c.strands ∙ sym (ap length d) in
    sym (behind_frames c (length fs) i (ap length e) h
    ∙ get_back (strand_lines 1 c.strands) (late_lines c) j (omega (arith, few, k))
    ∙ ap (λ n. slice_get (late_lines c) (j - n)) few)

event_at : (es : List Entry) (i : ℕ) (e : Entry) → slice_get es i ≡ Some e → slice_get (event_lines es) i ≡ Some (lines.Event e)
event_at [] i e h = absurd (omega (arith, slice_get_within [] i e h))
event_at (f ∷ es) zero e h = ap (λ (o : Option Entry). option_map (λ x. lines.Event x) o) h
event_at (f ∷ es) (suc i) e h = event_at es i e h

-- the same among all lines
at_two : (c : Contents) (i j : ℕ) (x : Line) → j ≡ i + 2 → Some x ≡ slice_get (column_lines c) i → slice_get (lines_of c) j ≡ Some x
at_two c i j x e h = let next : j ≡ suc (suc i) = omega (arith, e) in rw next (sym h)

pub line_frame : (c : Contents) (fs : List Frame) (i j : ℕ) (f : Frame) → fs ≡ c.frames → j ≡ i + 2 → i < length fs → f ≡ get_or fs i f
    → slice_get (lines_of c) j ≡ Some (lines.Frame (i + 1) f)
line_frame c fs i j f e n h k = at_two c i j (lines.Frame (i + 1) f) n (column_frame c fs i f e h k)

pub line_strand : (c : Contents) (fs : List Frame) (ss : List Strand) (i j : ℕ) (s : Strand) → fs ≡ c.frames → ss ≡ c.strands
    → j ≡ 2 + length fs + i → i < length ss → s ≡ get_or ss i s → slice_get (lines_of c) j ≡ Some (lines.Strand (i + 1) s)
line_strand c fs ss i j s e d n h k =
    let k' : ℕ = i + length fs in
    let here : k' - length fs ≡ i = omega arith in
    at_two c k' j (lines.Strand (i + 1) s) (omega (arith, n))
    (ap (λ (m : ℕ). Some (lines.Strand (m + 1) s)) (sym here)
    ∙ column_strand c fs ss k' s e d (omega arith) (omega (arith, h)) (k ∙ ap (λ (m : ℕ). get_or ss m s) (sym here)))

pub line_event : (c : Contents) (fs : List Frame) (ss : List Strand) (es : List Entry) (i j : ℕ) (x : Entry) → fs ≡ c.frames → ss ≡ c.strands → es ≡ c.events
    → j ≡ 2 + length fs + length ss + i → i < length es → x ≡ get_or es i x → slice_get (lines_of c) j ≡ Some (lines.Event x)
line_event c fs ss es i j x e d b n h k =
    let k' : ℕ = i + length ss + length fs in
    let here : k' - length fs - length ss ≡ i = omega arith in
    let found_at : slice_get (event_lines c.events) i ≡ Some (lines.Event x) = event_at c.events i x (found es c.events i x b h k) in
    at_two c k' j (lines.Event x) (omega (arith, n))
    (sym (get_front (event_lines c.events) (lines.Result c.result ∷ lines.End ∷ []) i (lines.Event x) found_at)
    ∙ ap (λ (m : ℕ). slice_get (late_lines c) m) (sym here)
    ∙ column_late c fs ss k' e d (omega arith) (omega arith))
