-- The numbers and the cells of a serial run's frames, in the order in which they begin.
--
-- - `begun_after`, `frames_after`, `InOrder`: events that begin frames in the order of their
--   numbers; `order_at`, `after_append`, `after_grows`: at an event, and for the parts of a list;
--   `none_after`: for events that begin no frame;
-- - `cells_after`, `CellsFit`, `fits_at`: the cells of frames that begin one after the other;
-- - `run_in_order`, `run_fits`: the same for a serial run.
use Rattle.std.proofs.Common.{◌≡◌, nat_eq, nat_lt, Bool, true, false, if◌then◌else◌, ℕ, zero, suc, ◌+◌, ◌≤◌, ℤ, List, [], ◌∷◌, ◌++◌, length, take, All, Some, None, slice_get, refl, sym, ap, ◌∙◌, subst, arith, length-append}
use Rattle.std.proofs.lemmas.Bool.{ltb-false}
use Rattle.std.proofs.lemmas.List.Elements.{All-head, All-tail}
use Rattle.cilk_types.specs.declared.event.Event.{Event}
use Rattle.cilk_types.specs.declared.event.Event.TheVariants as events
use Rattle.cilk_types.specs.declared.fault.Fault.TheVariants.{TooManyEvents, TooManyFrames, TooManyCells}
use Rattle.cilk_types.specs.declared.invocation.Invocation.{Invocation}
use Rattle.cilk_types.specs.declared.invocation.Invocation.TheVariants.{Call, Spawn}
use Rattle.cilk_types.specs.declared.limits.TheConstants.{MAX_CELLS, MAX_FRAMES}
use Rattle.cilk_program.specs.declared.ask.Callee.{Callee}
use Rattle.cilk_program.specs.declared.ask.Callee.TheVariants.{Root}
use Rattle.cilk_program.specs.Outcomes.{Conclusion}
use Rattle.cilk_program.specs.SerialRun.{Transcript, stop, act, child, Memory, Frame, event_of, invocation, cells_of, crowded, Ending, Serial, Made, Ended, Went, Broke, Refused, IsSerialRun}
use Rattle.cilk_program.specs.Syntax.{Source}
use Rattle.cilk_program.specs.Numbering.{Counts, counts_of, entered, counts_after}
use Rattle.cilk_program.proofs.Numbers.{serial_counts}
use Rattle.cilk_serial.specs.SoFar.{BeginsNoFrame, begun_in}
use Rattle.cilk_serial.proofs.Driving.{inner_begins_no_frame}

-- how many frames have begun after an event, given how many had begun before it
abbrev pub begun_after : ℕ → Event → ℕ
begun_after k (events.Spawn n) = suc k
begun_after k (events.Call n) = suc k
begun_after k e = k

abbrev pub frames_after : ℕ → List Event → ℕ
frames_after k [] = k
frames_after k (e ∷ es) = frames_after (begun_after k e) es

-- the frame that the event begins, if it begins one, has the next number
abbrev pub IsNext : ℕ → Event → Type 0
IsNext k (events.Spawn n) = n ≡ suc k
IsNext k (events.Call n) = n ≡ suc k
IsNext k e = Unit {0}

abbrev pub InOrder : ℕ → List Event → Type 0
InOrder k [] = Unit {0}
InOrder k (e ∷ es) = IsNext k e × InOrder (begun_after k e) es

pub after_append : (k : ℕ) (xs ys : List Event) → frames_after k (xs ++ ys) ≡ frames_after (frames_after k xs) ys
after_append k [] ys = refl
after_append k (x ∷ xs) ys = after_append (begun_after k x) xs ys

order_append : (k : ℕ) (xs ys : List Event) → InOrder k xs → InOrder (frames_after k xs) ys → InOrder k (xs ++ ys)
order_append k [] ys a b = b
order_append k (x ∷ xs) ys a b = (a.0, order_append (begun_after k x) xs ys a.1 b)

same_event : (x y : Event) → Some x ≡ Some y → x ≡ y
same_event x y h = cc h

pub order_at : (k : ℕ) (es : List Event) (i : ℕ) (e : Event) → InOrder k es → slice_get es i ≡ Some e → IsNext (frames_after k (take i es)) e
order_at k [] i e h is = absurd (let z : None ≡ Some e = is in cc z)
order_at k (x ∷ es) zero e h is = subst (IsNext k) (same_event x e is) h.0
order_at k (x ∷ es) (suc i) e h is = order_at (begun_after k x) es i e h.1 is

one_grows : (k : ℕ) (e : Event) → k ≤ begun_after k e
one_grows k (events.Spawn n) = omega arith
one_grows k (events.Call n) = omega arith
one_grows k e = omega arith

pub after_grows : (k : ℕ) (es : List Event) → k ≤ frames_after k es
after_grows k [] = omega arith
after_grows k (e ∷ es) = let h = after_grows (begun_after k e) es in let g = one_grows k e in omega (arith, h, g)

-- ---- cells

abbrev pub cells_after : Source → ℕ → List Callee → ℕ
cells_after p n [] = n
cells_after p n (c ∷ cs) = cells_after p (n + cells_of p c) cs

-- the cells fit after each of the frames has begun
abbrev pub CellsFit : Source → ℕ → List Callee → Type 0
CellsFit p n [] = Unit {0}
CellsFit p n (c ∷ cs) = (n + cells_of p c ≤ MAX_CELLS) × CellsFit p (n + cells_of p c) cs

pub cells_append : (p : Source) (n : ℕ) (xs ys : List Callee) → cells_after p n (xs ++ ys) ≡ cells_after p (cells_after p n xs) ys
cells_append p n [] ys = refl
cells_append p n (x ∷ xs) ys = cells_append p (n + cells_of p x) xs ys

fit_append : (p : Source) (n : ℕ) (xs ys : List Callee) → CellsFit p n xs → CellsFit p (cells_after p n xs) ys → CellsFit p n (xs ++ ys)
fit_append p n [] ys a b = b
fit_append p n (x ∷ xs) ys a b = (a.0, fit_append p (n + cells_of p x) xs ys a.1 b)

pub fits_at : (p : Source) (n : ℕ) (cs : List Callee) (k : ℕ) (c : Callee) → CellsFit p n cs → slice_get cs k ≡ Some c → cells_after p n (take k cs) + cells_of p c ≤ MAX_CELLS
fits_at p n [] k c h is = absurd (let z : None ≡ Some c = is in cc z)
fits_at p n (x ∷ cs) zero c h is = let z : Some x ≡ Some c = is in let same : x ≡ c = cc z in subst (λ (y : Callee). n + cells_of p y ≤ MAX_CELLS) same h.0
fits_at p n (x ∷ cs) (suc k) c h is = fits_at p (n + cells_of p x) cs k c h.1 is

-- ---- of a serial run

pub counted_frames : (p : Source) (r : Transcript) (n : Counts) → (counts_after p r n).frames ≡ n.frames + length (begun_in r)
counted_frames p stop n = omega arith
counted_frames p (act k a r) n = counted_frames p r n
counted_frames p (child how callee u r) n =
    let inner = counted_frames p u (entered p callee n) in
    let rest = counted_frames p r (counts_after p u (entered p callee n)) in
    let long = length-append (begun_in u) (begun_in r) in
    omega (arith, inner, rest, long)

pub counted_cells : (p : Source) (r : Transcript) (n : Counts) → (counts_after p r n).cells ≡ cells_after p n.cells (begun_in r)
counted_cells p stop n = refl
counted_cells p (act k a r) n = counted_cells p r n
counted_cells p (child how callee u r) n =
    counted_cells p r (counts_after p u (entered p callee n))
    ∙ (ap (λ (k : ℕ). cells_after p k (begun_in r)) (counted_cells p u (entered p callee n)) ∙ sym (cells_append p (n.cells + cells_of p callee) (begun_in u) (begun_in r)))

-- no frame begins with these events

none_next : (k : ℕ) (e : Event) → BeginsNoFrame e → IsNext k e × (begun_after k e ≡ k)
none_next k (events.Spawn n) h = absurd h
none_next k (events.Call n) h = absurd h
none_next k e h = (tt, refl)

pub none_after : (k : ℕ) (es : List Event) → All BeginsNoFrame es → frames_after k es ≡ k
none_after k [] h = refl
none_after k (e ∷ es) h =
    let here = none_next k e (All-head BeginsNoFrame e es h) in
    ap (λ (j : ℕ). frames_after j es) here.1 ∙ none_after k es (All-tail BeginsNoFrame e es h)

-- the events begin these frames, in the order of their numbers, after the first n
pub record Begins (k : ℕ) (es : List Event) (cs : List Callee) : Type 0 where
  pub order : InOrder k es
  pub all : frames_after k es ≡ k + length cs

invoked : (k : ℕ) (how : Invocation) → IsNext k (invocation how (suc k)) × (begun_after k (invocation how (suc k)) ≡ suc k)
invoked k Call = (refl, refl)
invoked k Spawn = (refl, refl)

with_one : (k : ℕ) (e : Event) (es : List Event) (cs : List Callee) → IsNext k e × (begun_after k e ≡ k) → Begins k es cs → Begins k (e ∷ es) cs
with_one k e es cs h b = record {
  order = (h.0, subst (λ (j : ℕ). InOrder j es) (sym h.1) b.order);
  all = ap (λ (j : ℕ). frames_after j es) h.1 ∙ b.all;
}

with_child : (k : ℕ) (how : Invocation) (callee : Callee) (es : List Event) (cs : List Callee) → Begins (suc k) es cs → Begins k (invocation how (suc k) ∷ es) (callee ∷ cs)
with_child k how callee es cs b =
    let h = invoked k how in
    let all : frames_after k (invocation how (suc k) ∷ es) ≡ suc k + length cs = ap (λ (j : ℕ). frames_after j es) h.1 ∙ b.all in
    record {
      order = (h.0, subst (λ (j : ℕ). InOrder j es) (sym h.1) b.order);
      all = omega (arith, all);
    }

both : (k j : ℕ) (xs ys : List Event) (cs ds : List Callee) → j ≡ k + length cs → Begins k xs cs → Begins j ys ds → Begins k (xs ++ ys) (cs ++ ds)
both k j xs ys cs ds at a b =
    let here : frames_after k xs ≡ j = a.all ∙ sym at in
    let long = length-append cs ds in
    let all : frames_after k (xs ++ ys) ≡ j + length ds = after_append k xs ys ∙ (ap (λ (i : ℕ). frames_after i ys) here ∙ b.all) in
    record {
      order = order_append k xs ys a.order (subst (λ (i : ℕ). InOrder i ys) (sym here) b.order);
      all = omega (arith, all, long, at);
    }

pub serial_begins : {p : Source} {inputs : List ℤ} {fr : Frame} {start : ℕ} {history : List ℤ} {m : Memory} {r : Transcript} {es : List Event} {end : Ending} → Serial p inputs fr start history m r es end
    → Begins m.frames es (begun_in r)
serial_begins (Made {fr = fr} {m = m} {r = r} {es = es} k left q inner ok rest) = with_one m.frames (event_of fr m k) es (begun_in r) (none_next m.frames (event_of fr m k) (inner_begins_no_frame fr m k inner)) (serial_begins rest)
serial_begins (Ended v left q ok) = record { order = (tt, tt); all = omega arith }
serial_begins {p = p} (Went {m = m} {u = u} {r = r} {es = es} {es' = es'} how callee left v left' m' q ok inner rest) =
    let after : m'.frames ≡ suc m.frames + length (begun_in u) = ap (λ (n : Counts). n.frames) (serial_counts inner) ∙ counted_frames p u (entered p callee (counts_of m)) in
    with_child m.frames how callee (es ++ es') (begun_in u ++ begun_in r) (both (suc m.frames) m'.frames es es' (begun_in u) (begun_in r) after (serial_begins inner) (serial_begins rest))
serial_begins (Broke {m = m} {u = u} {es = es} how callee left f q ok inner) =
    let none : begun_in u ≡ begun_in u ++ [] = sym (append_nil (begun_in u)) in
    with_child m.frames how callee es (begun_in u ++ []) (subst (Begins (suc m.frames) es) none (serial_begins inner))
  where
    append_nil : (l : List Callee) → l ++ [] ≡ l
    append_nil [] = refl
    append_nil (x ∷ l) = ap (λ (z : List Callee). x ∷ z) (append_nil l)
serial_begins {m = m} (Refused k left f q bad) = record { order = tt; all = omega arith }

few : (a b c : Bool) → (if a then Some TooManyEvents else (if b then (if c then Some TooManyCells else None) else Some TooManyFrames)) ≡ None → c ≡ false
few true b c h = absurd (let z : Some TooManyEvents ≡ None = h in cc z)
few false false c h = absurd (let z : Some TooManyFrames ≡ None = h in cc z)
few false true true h = absurd (let z : Some TooManyCells ≡ None = h in cc z)
few false true false h = refl

fits : (p : Source) (callee : Callee) (m : Memory) → crowded p callee m ≡ None → m.cells + cells_of p callee ≤ MAX_CELLS
fits p callee m h = ltb-false MAX_CELLS (m.cells + cells_of p callee) (few (nat_eq m.room 0) (nat_lt m.frames MAX_FRAMES) (nat_lt MAX_CELLS (m.cells + cells_of p callee)) h)

pub serial_fits : {p : Source} {inputs : List ℤ} {fr : Frame} {start : ℕ} {history : List ℤ} {m : Memory} {r : Transcript} {es : List Event} {end : Ending} → Serial p inputs fr start history m r es end
    → CellsFit p m.cells (begun_in r)
serial_fits (Made k left q inner ok rest) = serial_fits rest
serial_fits (Ended v left q ok) = tt
serial_fits {p = p} (Went {m = m} {u = u} {r = r} how callee left v left' m' q ok inner rest) =
    let after : m'.cells ≡ cells_after p (m.cells + cells_of p callee) (begun_in u) = ap (λ (n : Counts). n.cells) (serial_counts inner) ∙ counted_cells p u (entered p callee (counts_of m)) in (
      fits p callee m ok,
      fit_append p (m.cells + cells_of p callee) (begun_in u) (begun_in r) (serial_fits inner) (subst (λ (n : ℕ). CellsFit p n (begun_in r)) after (serial_fits rest)),
    )
serial_fits {p = p} (Broke {m = m} {u = u} how callee left f q ok inner) = (fits p callee m ok, fit_append p (m.cells + cells_of p callee) (begun_in u) [] (serial_fits inner) tt)
serial_fits (Refused k left f q bad) = tt

pub run_in_order : (p : Source) (inputs : List ℤ) (r : Transcript) (es : List Event) (c : Conclusion) → IsSerialRun p inputs r es c → Begins 1 es (begun_in r)
run_in_order p inputs r es c (end, d, e) = serial_begins d

pub run_fits : (p : Source) (inputs : List ℤ) (r : Transcript) (es : List Event) (c : Conclusion) → IsSerialRun p inputs r es c → CellsFit p (length p.openings + cells_of p Root) (begun_in r)
run_fits p inputs r es c (end, d, e) = serial_fits d
