-- The list of a run's events has the frames of the run's shape, and the frames of its strands.
--
-- - `Along`, `along_both`, `along_at`: what holds at each mark of a list, of the marks up to it;
-- - `open_behind`, `begun_behind`, `strands_behind`, `made_behind`: the open frame and the counts
--   after a whole frame;
-- - `frames_along`, `owners_along`: from some point of a frame on;
-- - `frames_invoked`: the law.
use Rattle.std.proofs.Common.{◌≡◌, ℕ, zero, suc, ◌+◌, ◌-◌, ◌<◌, ◌≤◌, Bool, true, false, List, [], ◌∷◌, ◌++◌, length, map, take, Option, Some, None, slice_get, refl, sym, ap, ◌∙◌, subst, arith, append_assoc, append-nil, length-append}
use Rattle.std.specs.Prelude.{nat_eq, if◌then◌else◌}
use Rattle.std.proofs.lemmas.Bool.Decides.{nat_tests}
use Rattle.std.proofs.lemmas.List.{length-map, take_all}
use Rattle.std.proofs.lemmas.Option.{slice_get_within}
use Rattle.cilk_types.specs.declared.event.Event.{Event}
use Rattle.cilk_types.specs.declared.invocation.Invocation.{Invocation}
use Rattle.cilk_types.specs.declared.invocation.Invocation.TheVariants as invocations
use Rattle.cilk_tree.specs.declared.mark.Mark.{Mark}
use Rattle.cilk_tree.specs.declared.mark.Mark.TheVariants.{Begin, End, Sync, Resume, Spawn, Call, Plain}
use Rattle.cilk_tree.specs.Before.{IsPosition}
use Rattle.cilk_tree.specs.Marks.{mark_of, begun_by}
use Rattle.cilk_tree.specs.Races.{event_at, strand_at}
use Rattle.cilk_tree.specs.Shape.{Shape, finish, act, sync, child, start_of, marks, Spells}
use Rattle.cilk_cert_text.specs.declared.line.Frame.{Frame}
use Rattle.cilk_cert_maker.specs.Frames.{frames_in, frames_from, frames_of, owners_from, owners_of}
use Rattle.cilk_cert_maker.specs.Nesting.{turned, upto, frames_begun, open_frame, frame_of_last, made_in, invoked, Begins, FramesAreInvoked}
use Rattle.cilk_cert_maker.specs.Right.{IsAt}
use Rattle.cilk_cert_maker.proofs.Spelling.{count_frames}

-- ---- marks, one by one

-- P of the marks so far, at each mark of a list
abbrev Along : (List Mark → Type 0) → List Mark → List Mark → Type 0
Along P past [] = Unit {0}
Along P past (m ∷ ms) = P (m ∷ past) × Along P (m ∷ past) ms

turned_both : (ms ns past : List Mark) → turned (ms ++ ns) past ≡ turned ns (turned ms past)
turned_both [] ns past = refl
turned_both (m ∷ ms) ns past = turned_both ms ns (m ∷ past)

along_both : (P : List Mark → Type 0) (ms ns past : List Mark) → Along P past ms → Along P (turned ms past) ns → Along P past (ms ++ ns)
along_both P [] ns past h g = g
along_both P (m ∷ ms) ns past h g = (h.0, along_both P ms ns (m ∷ past) h.1 g)

along_at : (P : List Mark → Type 0) (ms past : List Mark) (n : ℕ) → Along P past ms → n < length ms → P (turned (take (suc n) ms) past)
along_at P [] past n h l = absurd (omega (arith, l))
along_at P (m ∷ ms) past zero h l = h.0
along_at P (m ∷ ms) past (suc n) h l = along_at P ms (m ∷ past) n h.1 (omega (arith, l))

-- ---- the mark that starts a child

open_started : (k : Invocation) (past : List Mark) (inner : ℕ) → open_frame (start_of k ∷ past) inner ≡ open_frame past inner
open_started invocations.Call past inner = refl
open_started invocations.Spawn past inner = refl

begun_started : (k : Invocation) (past : List Mark) → frames_begun (start_of k ∷ past) ≡ frames_begun past
begun_started invocations.Call past = refl
begun_started invocations.Spawn past = refl

last_started : (k : Invocation) (past : List Mark) → frame_of_last (start_of k ∷ past) ≡ open_frame past 0
last_started invocations.Call past = refl
last_started invocations.Spawn past = refl

nat_eq_same : (n : ℕ) → nat_eq n n ≡ true
nat_eq_same n = grind (arith, nat_tests)

nat_eq_less : (n m : ℕ) → m < n → nat_eq n m ≡ false
nat_eq_less n m l = grind (arith, nat_tests)

nat_eq_more : (n m : ℕ) → n < m → nat_eq n m ≡ false
nat_eq_more n m l = grind (arith, nat_tests)

made_one : (k : Invocation) (past : List Mark) (f : ℕ) → made_in f (start_of k ∷ past) ≡ if nat_eq (open_frame past 0) f then suc (made_in f past) else made_in f past
made_one invocations.Call past f = refl
made_one invocations.Spawn past f = refl

-- by the frame itself, and by one with a greater number
made_own : (k : Invocation) (past : List Mark) (f : ℕ) → open_frame past 0 ≡ f → made_in f (start_of k ∷ past) ≡ suc (made_in f past)
made_own k past f e =
    let t : nat_eq (open_frame past 0) f ≡ true = subst (λ (n : ℕ). nat_eq n f ≡ true) (sym e) (nat_eq_same f) in
    made_one k past f ∙ ap (λ (b : Bool). if b then suc (made_in f past) else made_in f past) t

made_other : (k : Invocation) (past : List Mark) (f : ℕ) → f < open_frame past 0 → made_in f (start_of k ∷ past) ≡ made_in f past
made_other k past f l =
    made_one k past f ∙ ap (λ (b : Bool). if b then suc (made_in f past) else made_in f past) (nat_eq_less (open_frame past 0) f l)

-- ---- after a whole frame

-- the marks of a child and of the rest after it, reversed
abbrev inside : Invocation → List Mark → List Mark
inside k past = Begin ∷ start_of k ∷ past

abbrev resumed : Invocation → Shape → List Mark → List Mark
resumed k u past = Resume ∷ turned (marks u) (inside k past)

turned_child : (k : Invocation) (u r : Shape) (past : List Mark) → turned (marks (child k u r)) past ≡ turned (marks r) (resumed k u past)
turned_child k u r past = turned_both (marks u) (Resume ∷ marks r) (inside k past)

-- after a frame's end the frame is closed
open_behind : (s : Shape) (past : List Mark) (inner : ℕ) → open_frame (turned (marks s) past) inner ≡ open_frame past (suc inner)
open_behind finish past inner = refl
open_behind (act r) past inner = open_behind r (Plain ∷ past) inner
open_behind (sync r) past inner = open_behind r (Sync ∷ past) inner
open_behind (child k u r) past inner =
    ap (λ (ms : List Mark). open_frame ms inner) (turned_child k u r past)
    ∙ (open_behind r (resumed k u past) inner ∙ (open_behind u (inside k past) (suc inner) ∙ open_started k past (suc inner)))

begun_behind : (s : Shape) (past : List Mark) → frames_begun (turned (marks s) past) ≡ frames_in s + frames_begun past
begun_behind finish past = omega arith
begun_behind (act r) past = begun_behind r (Plain ∷ past)
begun_behind (sync r) past = begun_behind r (Sync ∷ past)
begun_behind (child k u r) past =
    let a = begun_behind r (resumed k u past) in
    let b = begun_behind u (inside k past) in
    let c = begun_started k past in
    ap frames_begun (turned_child k u r past) ∙ omega (arith, a, b, c)

-- how many strands have begun
abbrev strands : List Mark → ℕ
strands [] = 0
strands (Begin ∷ past) = suc (strands past)
strands (Sync ∷ past) = suc (strands past)
strands (Resume ∷ past) = suc (strands past)
strands (m ∷ past) = strands past

strands_one : (m : Mark) (past : List Mark) → strands (m ∷ past) ≡ begun_by m + strands past
strands_one Begin past = omega arith
strands_one End past = omega arith
strands_one Sync past = omega arith
strands_one Resume past = omega arith
strands_one Spawn past = omega arith
strands_one Call past = omega arith
strands_one Plain past = omega arith

strands_started : (k : Invocation) (past : List Mark) → strands (start_of k ∷ past) ≡ strands past
strands_started invocations.Call past = refl
strands_started invocations.Spawn past = refl

strands_behind : (s : Shape) (past : List Mark) (me begun : ℕ) → strands (turned (marks s) past) ≡ length (owners_from s me begun) + strands past
strands_behind finish past me begun = omega arith
strands_behind (act r) past me begun = strands_behind r (Plain ∷ past) me begun
strands_behind (sync r) past me begun = let h = strands_behind r (Sync ∷ past) me begun in omega (arith, h)
strands_behind (child k u r) past me begun =
    let rest : List ℕ = owners_from r me (begun + 1 + frames_in u) in
    let a = strands_behind r (resumed k u past) me (begun + 1 + frames_in u) in
    let b = strands_behind u (inside k past) (begun + 1) (begun + 1) in
    let c = strands_started k past in
    let d = length-append (owners_from u (begun + 1) (begun + 1)) (me ∷ rest) in
    ap strands (turned_child k u r past) ∙ omega (arith, a, b, c, d)

-- the open frame after a child and its `resume`
open_resumed : (k : Invocation) (u : Shape) (past : List Mark) → open_frame (resumed k u past) 0 ≡ open_frame past 0
open_resumed k u past = open_behind u (inside k past) 0 ∙ open_started k past 0

begun_resumed : (k : Invocation) (u : Shape) (past : List Mark) → frames_begun (resumed k u past) ≡ frames_begun past + 1 + frames_in u
begun_resumed k u past = let a = begun_behind u (inside k past) in let b = begun_started k past in omega (arith, a, b)

-- inside frames that began later a frame makes nothing
made_behind : (s : Shape) (past : List Mark) (f : ℕ) → f < open_frame past 0 → f ≤ frames_begun past → made_in f (turned (marks s) past) ≡ made_in f past
made_behind finish past f l g = refl
made_behind (act r) past f l g = made_behind r (Plain ∷ past) f l g
made_behind (sync r) past f l g = made_behind r (Sync ∷ past) f l g
made_behind (child k u r) past f l g =
    let a = open_resumed k u past in
    let b = begun_resumed k u past in
    let c = begun_started k past in
    ap (made_in f) (turned_child k u r past)
    ∙ (made_behind r (resumed k u past) f (omega (arith, l, a)) (omega (arith, g, b))
    ∙ (made_behind u (inside k past) f (omega (arith, g, c)) (omega (arith, g, c)) ∙ made_other k past f l))

made_resumed : (k : Invocation) (u : Shape) (past : List Mark) (f : ℕ) → open_frame past 0 ≡ f → f ≤ frames_begun past → made_in f (resumed k u past) ≡ suc (made_in f past)
made_resumed k u past f e g =
    let c = begun_started k past in
    made_behind u (inside k past) f (omega (arith, g, c)) (omega (arith, g, c)) ∙ made_own k past f e

-- ---- a frame that hasn't begun

open_few : (past : List Mark) (inner : ℕ) → open_frame past inner ≤ frames_begun past
open_few [] inner = omega arith
open_few (Begin ∷ past) zero = omega arith
open_few (Begin ∷ past) (suc inner) = let h = open_few past inner in omega (arith, h)
open_few (End ∷ past) inner = open_few past (suc inner)
open_few (Sync ∷ past) inner = open_few past inner
open_few (Resume ∷ past) inner = open_few past inner
open_few (Spawn ∷ past) inner = open_few past inner
open_few (Call ∷ past) inner = open_few past inner
open_few (Plain ∷ past) inner = open_few past inner

made_later : (past : List Mark) (f : ℕ) → frames_begun past < f
    → (if nat_eq (open_frame past 0) f then suc (made_in f past) else made_in f past) ≡ made_in f past
made_later past f l =
    let few = open_few past 0 in
    ap (λ (b : Bool). if b then suc (made_in f past) else made_in f past) (nat_eq_more (open_frame past 0) f (omega (arith, l, few)))

made_none : (past : List Mark) (f : ℕ) → frames_begun past < f → made_in f past ≡ 0
made_none [] f l = refl
made_none (Begin ∷ past) f l = made_none past f (omega (arith, l))
made_none (End ∷ past) f l = made_none past f l
made_none (Sync ∷ past) f l = made_none past f l
made_none (Resume ∷ past) f l = made_none past f l
made_none (Spawn ∷ past) f l = made_later past f l ∙ made_none past f l
made_none (Call ∷ past) f l = made_later past f l ∙ made_none past f l
made_none (Plain ∷ past) f l = made_none past f l

none_started : (k : Invocation) (past : List Mark) (f : ℕ) → frames_begun past < f → made_in f (start_of k ∷ past) ≡ 0
none_started invocations.Call past f l = made_later past f l ∙ made_none past f l
none_started invocations.Spawn past f l = made_later past f l ∙ made_none past f l

-- ---- the frames

get_here : {A : Type 0} (front : List A) (x : A) (later : List A) → slice_get (front ++ x ∷ later) (length front) ≡ Some x
get_here [] x later = refl
get_here (y ∷ front) x later = get_here front x later

-- a frame's line, right after its `begin`
abbrev Framed : List Frame → List Mark → Type 0
Framed fs (Begin ∷ past) = slice_get fs (frames_begun past) ≡ Some (invoked past)
Framed fs _ = Unit {0}

framed_started : (fs : List Frame) (k : Invocation) (past : List Mark) → Framed fs (start_of k ∷ past)
framed_started fs invocations.Call past = tt
framed_started fs invocations.Spawn past = tt

invoked_started : (k : Invocation) (past : List Mark) (me made : ℕ) → open_frame past 0 ≡ me → made_in me past ≡ made
    → invoked (start_of k ∷ past) ≡ record { parent = me; ordinal = made + 1 }
invoked_started k past me made e h =
    let last : frame_of_last (start_of k ∷ past) ≡ me = last_started k past ∙ e in
    let count : made_in me (start_of k ∷ past) ≡ made + 1 = let o = made_own k past me e in omega (arith, o, h) in
    let P : ℕ → ℕ → Frame = λ n m. record { parent = n; ordinal = m } in
    ap (λ (n : ℕ). P n (made_in n (start_of k ∷ past))) last ∙ ap (P me) count

frames_along : (fs : List Frame) (s : Shape) (past : List Mark) (me made begun : ℕ) (front later : List Frame)
    → open_frame past 0 ≡ me → made_in me past ≡ made → frames_begun past ≡ begun → me ≤ begun → length front ≡ begun
    → fs ≡ front ++ (frames_from s me made begun ++ later) → Along (Framed fs) past (marks s)
frames_along fs finish past me made begun front later o m b l n e = (tt, tt)
frames_along fs (act r) past me made begun front later o m b l n e = (tt, frames_along fs r (Plain ∷ past) me made begun front later o m b l n e)
frames_along fs (sync r) past me made begun front later o m b l n e = (tt, frames_along fs r (Sync ∷ past) me made begun front later o m b l n e)
frames_along fs (child k u r) past me made begun front later o m b l n e =
    let f : Frame = record { parent = me; ordinal = made + 1 } in
    let us : List Frame = frames_from u (begun + 1) 0 (begun + 1) in
    let rs : List Frame = frames_from r me (made + 1) (begun + 1 + frames_in u) in
    let started = begun_started k past in
    let here : length front ≡ frames_begun (start_of k ∷ past) = omega (arith, n, b, started) in
    let whole : fs ≡ front ++ (f ∷ (us ++ (rs ++ later))) = e ∙ ap (λ (l : List Frame). front ++ (f ∷ l)) (append_assoc us rs later) in
    let line : slice_get fs (frames_begun (start_of k ∷ past)) ≡ Some (invoked (start_of k ∷ past)) =
    ap (λ (l : List Frame). slice_get l (frames_begun (start_of k ∷ past))) whole
    ∙ (ap (slice_get (front ++ (f ∷ (us ++ (rs ++ later))))) (sym here)
    ∙ (get_here front f (us ++ (rs ++ later)) ∙ ap (λ (g : Frame). Some g) (sym (invoked_started k past me made o m)))) in
    let front' : List Frame = front ++ f ∷ [] in
    let long : length front' ≡ begun + 1 = let a = length-append front (f ∷ []) in omega (arith, a, n) in
    let longer : length (front' ++ us) ≡ begun + 1 + frames_in u =
    let a = length-append front' us in let c = count_frames u (begun + 1) 0 (begun + 1) in omega (arith, a, c, long) in
    let after : fs ≡ front' ++ (us ++ (rs ++ later)) = whole ∙ sym (append_assoc front (f ∷ []) (us ++ (rs ++ later))) in
    let last : fs ≡ (front' ++ us) ++ (rs ++ later) = after ∙ sym (append_assoc front' us (rs ++ later)) in
    let opened : open_frame (inside k past) 0 ≡ begun + 1 = omega (arith, b, started) in
    let none : made_in (begun + 1) (inside k past) ≡ 0 = none_started k past (begun + 1) (omega (arith, b)) in (
      framed_started fs k past,
      (
        line,
        along_both (Framed fs) (marks u) (Resume ∷ marks r) (inside k past)
            (frames_along fs u (inside k past) (begun + 1) 0 (begun + 1) front' (rs ++ later) opened none (omega (arith, b, started)) (omega arith) long after) (
              tt,
              frames_along fs r (resumed k u past) me (made + 1) (begun + 1 + frames_in u) (front' ++ us) later
                  (open_resumed k u past ∙ o)
                  (let h = made_resumed k u past me o (omega (arith, l, b)) in omega (arith, h, m))
                  (let h = begun_resumed k u past in omega (arith, h, b))
                  (omega (arith, l)) longer last,
            ),
      ),
    )

-- ---- the frames of strands

-- the frame of the last event is that of the last strand
abbrev Owned : List ℕ → List Mark → Type 0
Owned ws past = slice_get ws (strands past - 1) ≡ Some (frame_of_last past)

-- these strands have begun, and the last one is in this frame
owned : (ws : List ℕ) (past : List Mark) (me : ℕ) (front later : List ℕ)
    → strands past ≡ suc (length front) → frame_of_last past ≡ me → ws ≡ front ++ (me ∷ later) → Owned ws past
owned ws past me front later n o e =
    let at : length front ≡ strands past - 1 = omega (arith, n) in
    ap (λ (l : List ℕ). slice_get l (strands past - 1)) e
    ∙ (ap (slice_get (front ++ (me ∷ later))) (sym at) ∙ (get_here front me later ∙ ap (λ (x : ℕ). Some x) (sym o)))

owners_along : (ws : List ℕ) (s : Shape) (past : List Mark) (me begun : ℕ) (front later : List ℕ)
    → open_frame past 0 ≡ me → frames_begun past ≡ begun → strands past ≡ suc (length front)
    → ws ≡ front ++ (me ∷ (owners_from s me begun ++ later)) → Along (Owned ws) past (marks s)
owners_along ws finish past me begun front later o b n e = (owned ws (End ∷ past) me front later n o e, tt)
owners_along ws (act r) past me begun front later o b n e =
    (owned ws (Plain ∷ past) me front (owners_from r me begun ++ later) n o e, owners_along ws r (Plain ∷ past) me begun front later o b n e)
owners_along ws (sync r) past me begun front later o b n e =
    let front' : List ℕ = front ++ me ∷ [] in
    let long : strands (Sync ∷ past) ≡ suc (length front') = let a = length-append front (me ∷ []) in omega (arith, a, n) in
    let whole : ws ≡ front' ++ (me ∷ (owners_from r me begun ++ later)) = e ∙ sym (append_assoc front (me ∷ []) (me ∷ (owners_from r me begun ++ later))) in
    (owned ws (Sync ∷ past) me front' (owners_from r me begun ++ later) long o whole, owners_along ws r (Sync ∷ past) me begun front' later o b long whole)
owners_along ws (child k u r) past me begun front later o b n e =
    let us : List ℕ = owners_from u (begun + 1) (begun + 1) in
    let rs : List ℕ = owners_from r me (begun + 1 + frames_in u) in
    let started = begun_started k past in
    let counted = strands_started k past in
    let first : ws ≡ front ++ (me ∷ ((begun + 1) ∷ (us ++ (me ∷ (rs ++ later))))) =
    e ∙ ap (λ (l : List ℕ). front ++ (me ∷ ((begun + 1) ∷ l))) (append_assoc us (me ∷ rs) later) in
    let front' : List ℕ = front ++ me ∷ [] in
    let inner : ws ≡ front' ++ ((begun + 1) ∷ (us ++ (me ∷ (rs ++ later)))) =
    first ∙ sym (append_assoc front (me ∷ []) ((begun + 1) ∷ (us ++ (me ∷ (rs ++ later))))) in
    let opened : open_frame (inside k past) 0 ≡ begun + 1 = omega (arith, b, started) in
    let long : strands (inside k past) ≡ suc (length front') = let a = length-append front (me ∷ []) in omega (arith, a, n, counted) in
    let front'' : List ℕ = front' ++ ((begun + 1) ∷ us) in
    let longer : strands (resumed k u past) ≡ suc (length front'') =
    let a = length-append front' ((begun + 1) ∷ us) in
    let c = strands_behind u (inside k past) (begun + 1) (begun + 1) in
    omega (arith, a, c, long) in
    let last : ws ≡ front'' ++ (me ∷ (rs ++ later)) = inner ∙ sym (append_assoc front' ((begun + 1) ∷ us) (me ∷ (rs ++ later))) in
    let open' : open_frame (resumed k u past) 0 ≡ me = open_resumed k u past ∙ o in
    let begun' : frames_begun (resumed k u past) ≡ begun + 1 + frames_in u = let h = begun_resumed k u past in omega (arith, h, b) in (
      owned ws (start_of k ∷ past) me front ((begun + 1) ∷ (us ++ (me ∷ (rs ++ later)))) (counted ∙ n) (last_started k past ∙ o) first,
      (
        owned ws (inside k past) (begun + 1) front' (us ++ (me ∷ (rs ++ later))) long opened inner,
        along_both (Owned ws) (marks u) (Resume ∷ marks r) (inside k past)
            (owners_along ws u (inside k past) (begun + 1) (begun + 1) front' (me ∷ (rs ++ later)) opened (omega (arith, b, started)) long inner) (
              owned ws (resumed k u past) me front'' (rs ++ later) longer open' last,
              owners_along ws r (resumed k u past) me (begun + 1 + frames_in u) front'' later open' begun' longer last,
            ),
      ),
    )

-- ---- the whole list

frames_of_all : (s : Shape) → Along (Framed (frames_of s)) [] (Begin ∷ marks s)
frames_of_all s =
    let root : Frame = record { parent = 0; ordinal = 0 } in
    let e : frames_of s ≡ (root ∷ []) ++ (frames_from s 1 0 1 ++ []) = ap (λ (l : List Frame). root ∷ l) (sym (append-nil (frames_from s 1 0 1))) in
    (refl, frames_along (frames_of s) s (Begin ∷ []) 1 0 1 (root ∷ []) [] refl refl refl (omega arith) refl e)

owners_of_all : (s : Shape) → Along (Owned (owners_of s)) [] (Begin ∷ marks s)
owners_of_all s =
    let e : owners_of s ≡ 1 ∷ (owners_from s 1 1 ++ []) = ap (λ (l : List ℕ). 1 ∷ l) (sym (append-nil (owners_from s 1 1))) in
    (refl, owners_along (owners_of s) s (Begin ∷ []) 1 1 [] [] refl refl refl e)

-- ---- positions

upto_next : (es : List Event) (n : ℕ) (e : Event) (past : List Mark) → slice_get es n ≡ Some e
    → turned (take (suc n) (map mark_of es)) past ≡ mark_of e ∷ turned (take n (map mark_of es)) past
upto_next [] n e past is = absurd (let t : ◌≡◌ {A = Option Event} None (Some e) = is in cc)
upto_next (d ∷ es) zero e past is = ap (λ (x : Event). mark_of x ∷ past) (let t : ◌≡◌ {A = Option Event} (Some d) (Some e) = is in cc)
upto_next (d ∷ es) (suc n) e past is = upto_next es n e (mark_of d ∷ past) is

none_upto : (p : ℕ) (past : List Mark) → turned (take p (map mark_of [])) past ≡ past
none_upto zero past = refl
none_upto (suc p) past = refl

strands_upto : (es : List Event) (p : ℕ) (past : List Mark) → strands (turned (take p (map mark_of es)) past) ≡ strand_at es p + strands past
strands_upto [] p past = let e : turned (take p (map mark_of [])) past ≡ past = none_upto p past in ap strands e ∙ omega arith
strands_upto (e ∷ es) zero past = omega arith
strands_upto (e ∷ es) (suc p) past = let h = strands_upto es p (mark_of e ∷ past) in let o = strands_one (mark_of e) past in omega (arith, h, o)

module _ (s : Shape) (es : List Event) (spells : Spells s es) where
  all_along : (P : List Mark → Type 0) (n : ℕ) → Along P [] (Begin ∷ marks s) → n < length es → P (upto es (suc n))
  all_along P n h l =
      let long : length (map mark_of es) ≡ length es = length-map es mark_of in
      along_at P (map mark_of es) [] n (subst (λ (ms : List Mark). Along P [] ms) (sym spells) h) (omega (arith, l, long))

  many_frames : frames_begun (upto es (length es)) ≡ length (frames_of s)
  many_frames =
      let long : length (map mark_of es) ≡ length es = length-map es mark_of in
      let whole : take (length es) (map mark_of es) ≡ Begin ∷ marks s = take_all (length es) (map mark_of es) (omega (arith, long)) ∙ spells in
      let a = begun_behind s (Begin ∷ []) in
      let b = count_frames s 1 0 1 in
      ap (λ (ms : List Mark). frames_begun (turned ms [])) whole ∙ omega (arith, a, b)

  framed_here : (n : ℕ) (o : Option Event) → slice_get es n ≡ o → Begins o
      → IsAt (frames_of s) (frames_begun (upto es (suc n)) - 1) (invoked (upto es n))
  framed_here n None is h = absurd h
  framed_here n (Some e) is h =
      let next : upto es (suc n) ≡ Begin ∷ upto es n = upto_next es n e [] is ∙ ap (λ (m : Mark). m ∷ upto es n) h in
      let line : Framed (frames_of s) (Begin ∷ upto es n) =
      subst (Framed (frames_of s)) next (all_along (Framed (frames_of s)) n (frames_of_all s) (slice_get_within es n e is)) in
      ap (λ (ms : List Mark). slice_get (frames_of s) (frames_begun ms - 1)) next
      ∙ (ap (slice_get (frames_of s)) (let z : suc (frames_begun (upto es n)) - 1 ≡ frames_begun (upto es n) = omega arith in z) ∙ line)

  frame_here : (n : ℕ) → Begins (slice_get es n) → IsAt (frames_of s) (frames_begun (upto es (suc n)) - 1) (invoked (upto es n))
  frame_here n h = framed_here n (slice_get es n) refl h

  owner_here : (n : ℕ) → n < length es → IsAt (owners_of s) (strand_at es (suc n) - 1) (frame_of_last (upto es (suc n)))
  owner_here n l =
      let h = all_along (Owned (owners_of s)) n (owners_of_all s) l in
      let c : strands (upto es (suc n)) ≡ strand_at es (suc n) = let a = strands_upto es (suc n) [] in omega (arith, a) in
      ap (λ (k : ℕ). slice_get (owners_of s) (k - 1)) (sym c) ∙ h

frames_at : (s : Shape) (es : List Event) → Spells s es → (p : ℕ) → 1 ≤ p → Begins (event_at es p)
    → IsAt (frames_of s) (frames_begun (upto es p) - 1) (invoked (upto es (p - 1)))
frames_at s es spells zero at h = absurd (omega (arith, at))
frames_at s es spells (suc n) at h =
    let e : suc n - 1 ≡ n = omega arith in
    let here : Begins (slice_get es n) = subst (λ (k : ℕ). Begins (slice_get es k)) e h in
    subst (λ (k : ℕ). IsAt (frames_of s) (frames_begun (upto es (suc n)) - 1) (invoked (upto es k))) (sym e) (frame_here s es spells n here)

owners_at : (s : Shape) (es : List Event) → Spells s es → (p : ℕ) → IsPosition es p → IsAt (owners_of s) (strand_at es p - 1) (frame_of_last (upto es p))
owners_at s es spells zero at = let l = at.0 in absurd (omega (arith, l))
owners_at s es spells (suc n) at = let l = at.1 in owner_here s es spells n (omega (arith, l))

pub frames_invoked : (s : Shape) (es : List Event) → Spells s es → FramesAreInvoked s es
frames_invoked s es spells = record {
  many = many_frames s es spells;
  frames = frames_at s es spells;
  owners = owners_at s es spells;
}
