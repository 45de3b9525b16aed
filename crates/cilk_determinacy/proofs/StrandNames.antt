-- Strands by names.
--
-- - `written_split`, `strand_left`, `strand_right`, `strand_grows`: lists of events that follow one
--   another;
-- - `begin_first`, `resume_first`: a frame's begin and a resume begin strands;
-- - `count_from_point`, `many_events`, `named_at`: from any point of a frame on;
-- - `Within`, `all_within`, `all_apart`: names are different;
-- - `strands_have_names`: the law.
use Rattle.std.proofs.Common.{◌≡◌, ◌≤◌, ◌<◌, ◌+◌, ◌-◌, ℕ, zero, suc, ℤ, Bool, true, false, cond, List, [], ◌∷◌, ◌++◌, length, Some, slice_get, ◌⊎◌, inl, inr, ⊎_elim, refl, sym, ap, ap₂, ◌∙◌, subst, arith, append_assoc, length-append, zero-add, suc-add}
use Rattle.cilk_types.specs.declared.invocation.Invocation.TheVariants.{Call, Spawn}
use Rattle.cilk_types.specs.declared.invocation.Invocation.{Invocation}
use Rattle.std.proofs.lemmas.Bool.{cases_lt}
use Rattle.cilk_types.specs.declared.event.Event as numbers
use Rattle.cilk_types.specs.declared.event.Instance as numbered
use Rattle.cilk_program.specs.SerialRun as serial
use Rattle.cilk_program.specs.Syntax.{Source}
use Rattle.cilk_determinacy.specs.Runs.{Name, Cell, Instance, Event, Reads, Writes, Syncs, Ends, Passes, Begins, Resumes, Creates, Updates, Sets, Values, Prints, Deed, Invokes, Run, stop, act, child}
use Rattle.cilk_determinacy.specs.Traces.{trace}
use Rattle.cilk_tree.specs.Marks.{mark_of, begun_by}
use Rattle.cilk_tree.specs.Races.{strand_at}
use Rattle.cilk_determinacy.specs.Traces.{Due, begin_due, resume_due, neither_due, IsFramed, IsWrittenEvent, IsWritten, AreWritten}
use Rattle.cilk_determinacy.specs.FrameEnvs.{FrameEnv, first_env, child_env}
use Rattle.cilk_determinacy.specs.Nested.{named, named_from, named_event}
use Rattle.cilk_determinacy.specs.Numbers.{cell_number, instance_number}
use Rattle.cilk_determinacy.specs.Machine.{begins_strand}
use Rattle.cilk_determinacy.specs.StrandNames.{StrandName, strand, strands_from, strand_of_each, strand_names, StrandsHaveNames}
use Rattle.cilk_determinacy.proofs.Determinate.{serial_numbered}

-- ---- lists

get_left : {A : Type 0} (xs ys : List A) (p : ℕ) → p < length xs → slice_get (xs ++ ys) p ≡ slice_get xs p
get_left [] ys p h = absurd (omega arith)
get_left (x ∷ xs) ys zero h = refl
get_left (x ∷ xs) ys (suc p) h = get_left xs ys p (omega arith)

get_right : {A : Type 0} (xs ys : List A) (q : ℕ) → slice_get (xs ++ ys) (length xs + q) ≡ slice_get ys q
get_right [] ys q = ap (slice_get ys) (zero-add q)
get_right (x ∷ xs) ys q = ap (slice_get (x ∷ (xs ++ ys))) (suc-add (length xs) q) ∙ get_right xs ys q

zero_at : (es : List numbers.Event) → strand_at es 0 ≡ 0
zero_at [] = refl
zero_at (e ∷ es) = refl

strand_left : (front back : List numbers.Event) (m : ℕ) → m ≤ length front → strand_at (front ++ back) m ≡ strand_at front m
strand_left [] back zero h = zero_at back
strand_left [] back (suc m) h = absurd (omega arith)
strand_left (e ∷ front) back zero h = refl
strand_left (e ∷ front) back (suc m) h = ap (λ n. begun_by (mark_of e) + n) (strand_left front back m (omega arith))

strand_right : (front back : List numbers.Event) (m : ℕ) → strand_at (front ++ back) (length front + m) ≡ strand_at front (length front) + strand_at back m
strand_right [] back m = ap (strand_at back) (zero-add m) ∙ sym (zero-add (strand_at back m))
strand_right (e ∷ front) back m =
    let ih = strand_right front back m in
    let next : strand_at (e ∷ (front ++ back)) (suc (length front) + m) ≡ begun_by (mark_of e) + strand_at (front ++ back) (length front + m) = ap (strand_at (e ∷ (front ++ back))) (suc-add (length front) m) in
    next ∙ omega (arith, ih)

strand_grows : (front : List numbers.Event) (a b : ℕ) → a ≤ b → strand_at front a ≤ strand_at front b
strand_grows [] a b h = omega arith
strand_grows (e ∷ front) zero b h = omega arith
strand_grows (e ∷ front) (suc a) zero h = absurd (omega arith)
strand_grows (e ∷ front) (suc a) (suc b) h = let ih = strand_grows front a b (omega arith) in omega (arith, ih)

-- the strand that an event begins
abbrev bit : Event → ℕ
bit e = cond (begins_strand e) 1 0

length_bit : (b : Bool) (x : StrandName) → length (cond b (x ∷ []) []) ≡ cond b 1 0
length_bit true x = refl
length_bit false x = refl

module _ (cell : Cell → ℕ) (instance : Instance → numbered.Instance) where
  written_split : (xs ys : List (Deed FrameEnv)) (es : List numbers.Event) → AreWritten cell instance (xs ++ ys) es
      → (front : List numbers.Event) × (back : List numbers.Event) × (es ≡ front ++ back) × AreWritten cell instance xs front × AreWritten cell instance ys back
  written_split [] ys es w = ([], es, refl, tt, w)
  written_split (x ∷ xs) ys [] w = absurd w
  written_split (x ∷ xs) ys (e ∷ es) w = let (front, back, q, u, v) = written_split xs ys es w.1 in (e ∷ front, back, ap (λ l. e ∷ l) q, (w.0, u), v)

  event_begins : (e : Event) (e' : numbers.Event) → IsWrittenEvent cell instance e e' → begun_by (mark_of e') ≡ bit e
  event_begins (Reads c v) e' w = ap (λ x. begun_by (mark_of x)) w
  event_begins (Writes c v) e' w = ap (λ x. begun_by (mark_of x)) w
  event_begins Syncs e' w = ap (λ x. begun_by (mark_of x)) w
  event_begins (Ends v gone) e' w = ap (λ x. begun_by (mark_of x)) w
  event_begins (Passes Begins) e' (f, w) = ap (λ x. begun_by (mark_of x)) w
  event_begins (Passes Resumes) e' (f, w) = ap (λ x. begun_by (mark_of x)) w
  event_begins (Passes (Creates i)) e' w = ap (λ x. begun_by (mark_of x)) w
  event_begins (Passes (Updates i v)) e' w = ap (λ x. begun_by (mark_of x)) w
  event_begins (Passes (Sets i v)) e' w = ap (λ x. begun_by (mark_of x)) w
  event_begins (Passes (Values i v)) e' w = ap (λ x. begun_by (mark_of x)) w
  event_begins (Passes (Prints v)) e' w = ap (λ x. begun_by (mark_of x)) w

  start_begins : (i : Invocation) (w : FrameEnv) (e' : numbers.Event) → IsWritten cell instance (Invokes i w) e' → begun_by (mark_of e') ≡ 0
  start_begins Call w e' (f, q) = ap (λ x. begun_by (mark_of x)) q
  start_begins Spawn w e' (f, q) = ap (λ x. begun_by (mark_of x)) q

  -- a strand has begun with the first event
  some_begun : (e : Event) (t : Run FrameEnv) (es : List numbers.Event) (m : ℕ) → bit e ≡ 1 → AreWritten cell instance (trace (act e t)) es → m < length es → 1 ≤ strand_at es (suc m)
  some_begun e t [] m one w h = absurd w
  some_begun e t (e' ∷ es) m one w h = let b = event_begins e e' w.0 in omega (arith, b, one)

  begin_first : (t : Run FrameEnv) (es : List numbers.Event) (m : ℕ) → IsFramed begin_due t → AreWritten cell instance (trace t) es → m < length es → 1 ≤ strand_at es (suc m)
  begin_first (act (Passes Begins) t) es m framed w h = some_begun (Passes Begins) t es m refl w h
  begin_first _ es m framed w h = absurd framed

  resume_first : (t : Run FrameEnv) (es : List numbers.Event) (m : ℕ) → IsFramed resume_due t → AreWritten cell instance (trace t) es → m < length es → 1 ≤ strand_at es (suc m)
  resume_first (act (Passes Resumes) t) es m framed w h = some_begun (Passes Resumes) t es m refl w h
  resume_first _ es m framed w h = absurd framed

  -- a frame continues: the event due then
  after_act : (d : Due) (e : Event) (t : Run FrameEnv) → IsFramed d (act e t) → ((d' : Due) × IsFramed d' t) ⊎ (t ≡ stop)
  after_act begin_due (Passes Begins) t h = inl (neither_due, h)
  after_act resume_due (Passes Resumes) t h = inl (neither_due, h)
  after_act neither_due (Reads c v) t h = inl (neither_due, h)
  after_act neither_due (Writes c v) t h = inl (neither_due, h)
  after_act neither_due Syncs t h = inl (neither_due, h)
  after_act neither_due (Ends v gone) t h = inr h
  after_act neither_due (Passes (Creates i)) t h = inl (neither_due, h)
  after_act neither_due (Passes (Updates i v)) t h = inl (neither_due, h)
  after_act neither_due (Passes (Sets i v)) t h = inl (neither_due, h)
  after_act neither_due (Passes (Values i v)) t h = inl (neither_due, h)
  after_act neither_due (Passes (Prints v)) t h = inl (neither_due, h)
  after_act _ _ t h = absurd h

  -- the children of a framed run, and what follows them
  after_child : (d : Due) (i : Invocation) (w : FrameEnv) (u t : Run FrameEnv) → IsFramed d (child i w u t) → IsFramed begin_due u × IsFramed resume_due t
  after_child neither_due i w u t h = h
  after_child begin_due i w u t h = absurd h
  after_child resume_due i w u t h = absurd h

  count_from_point : (n : Name) (k : ℕ) (t : Run FrameEnv) (es : List numbers.Event) → AreWritten cell instance (trace t) es → strand_at es (length es) ≡ length (strands_from n k t)
  count_from_point n k stop [] w = refl
  count_from_point n k stop (e ∷ es) w = absurd w
  count_from_point n k (act e t) [] w = absurd w
  count_from_point n k (act e t) (e' ∷ es) w =
      let ih = count_from_point n (cond (begins_strand e) (suc k) k) t es w.1 in
      let b = event_begins e e' w.0 in
      let l = length_bit (begins_strand e) (strand n (suc k)) in
      let both = length-append (cond (begins_strand e) (strand n (suc k) ∷ []) []) (strands_from n (cond (begins_strand e) (suc k) k) t) in
      omega (arith, ih, b, l, both)
  count_from_point n k (child i v u t) [] w = absurd w
  count_from_point n k (child i v u t) (e' ∷ es) w =
      let (front, back, q, wu, wt) = written_split (trace u) (trace t) es w.1 in
      let iu = count_from_point v.name 0 u front wu in
      let it = count_from_point n k t back wt in
      let b = start_begins i v e' w.0 in
      let both = length-append (strands_from v.name 0 u) (strands_from n k t) in
      let whole : strand_at es (length es) ≡ strand_at front (length front) + strand_at back (length back) = ap (λ l. strand_at l (length l)) q ∙ ap (strand_at (front ++ back)) (length-append front back) ∙ strand_right front back (length back) in
      omega (arith, iu, it, b, both, whole)

  many_events : (n : Name) (k : ℕ) (t : Run FrameEnv) (es : List numbers.Event) → AreWritten cell instance (trace t) es → length (strand_of_each n k t) ≡ length es
  many_events n k stop [] w = refl
  many_events n k stop (e ∷ es) w = absurd w
  many_events n k (act e t) [] w = absurd w
  many_events n k (act e t) (e' ∷ es) w = ap suc (many_events n (cond (begins_strand e) (suc k) k) t es w.1)
  many_events n k (child i v u t) [] w = absurd w
  many_events n k (child i v u t) (e' ∷ es) w =
      let (front, back, q, wu, wt) = written_split (trace u) (trace t) es w.1 in
      let iu = many_events v.name 0 u front wu in
      let it = many_events n k t back wt in
      let both = length-append (strand_of_each v.name 0 u) (strand_of_each n k t) in
      let parts : length es ≡ length front + length back = ap length q ∙ length-append front back in
      let sum : length (strand_of_each v.name 0 u ++ strand_of_each n k t) ≡ length es = omega (arith, iu, it, both, parts) in
      ap suc sum

  -- one event, where the rest is named
  act_named : (b : Bool) (n : Name) (k : ℕ) (names each : ℕ → List StrandName) (es : List numbers.Event) (x m : ℕ) → x ≡ cond b 1 0
      → ((m' : ℕ) → m ≡ suc m' → slice_get (strand n (cond b (suc k) k) ∷ names (cond b (suc k) k)) (strand_at es (suc m')) ≡ slice_get (each (cond b (suc k) k)) m')
      → slice_get (strand n k ∷ (cond b (strand n (suc k) ∷ []) [] ++ names (cond b (suc k) k))) (x + strand_at es m) ≡ slice_get (strand n (cond b (suc k) k) ∷ each (cond b (suc k) k)) m
  act_named true n k names each es x zero q ih =
      let z = zero_at es in
      let e : x + strand_at es 0 ≡ suc 0 = omega (arith, q, z) in
      ap (slice_get (strand n k ∷ strand n (suc k) ∷ names (suc k))) e
  act_named true n k names each es x (suc m) q ih =
      let e : x + strand_at es (suc m) ≡ suc (strand_at es (suc m)) = omega (arith, q) in
      ap (slice_get (strand n k ∷ strand n (suc k) ∷ names (suc k))) e ∙ ih m refl
  act_named false n k names each es x zero q ih =
      let z = zero_at es in
      let e : x + strand_at es 0 ≡ 0 = omega (arith, q, z) in
      ap (slice_get (strand n k ∷ names k)) e
  act_named false n k names each es x (suc m) q ih =
      let e : x + strand_at es (suc m) ≡ strand_at es (suc m) = omega (arith, q) in
      ap (slice_get (strand n k ∷ names k)) e ∙ ih m refl

  -- the event at a place is of the strand that began last
  named_at : (d : Due) (n : Name) (k : ℕ) (t : Run FrameEnv) (es : List numbers.Event) → IsFramed d t ⊎ (t ≡ stop) → AreWritten cell instance (trace t) es → (m : ℕ) → m < length es
      → slice_get (strand n k ∷ strands_from n k t) (strand_at es (suc m)) ≡ slice_get (strand_of_each n k t) m
  named_at d n k stop [] framed w m h = absurd (omega arith)
  named_at d n k stop (e ∷ es) framed w m h = absurd w
  named_at d n k (act e t) [] framed w m h = absurd w
  named_at d n k (act e t) (e' ∷ es) framed w m h =
      let b = event_begins e e' w.0 in
      act_named (begins_strand e) n k (λ k. strands_from n k t) (λ k. strand_of_each n k t) es (begun_by (mark_of e')) m b
      (λ m' q. ⊎_elim
      (λ framed. ⊎_elim
      (λ next. named_at next.0 n (cond (begins_strand e) (suc k) k) t es (inl next.1) w.1 m' (omega (arith, q, h)))
      (λ last. named_at neither_due n (cond (begins_strand e) (suc k) k) t es (inr last) w.1 m' (omega (arith, q, h)))
      (after_act d e t framed))
      (λ none. absurd (cc))
      framed)
  named_at d n k (child i v u t) [] framed w m h = absurd w
  named_at d n k (child i v u t) (e' ∷ es) framed w zero h =
      let b = start_begins i v e' w.0 in
      let z = zero_at es in
      let e : begun_by (mark_of e') + strand_at es 0 ≡ 0 = omega (arith, b, z) in
      ap (slice_get (strand n k ∷ (strands_from v.name 0 u ++ strands_from n k t))) e
  named_at d n k (child i v u t) (e' ∷ es) framed w (suc m) h =
      let (front, back, q, wu, wt) = written_split (trace u) (trace t) es w.1 in
      let b = start_begins i v e' w.0 in
      let parts : IsFramed begin_due u × IsFramed resume_due t = ⊎_elim (λ f. after_child d i v u t f) (λ none. absurd (cc)) framed in
      let lu = many_events v.name 0 u front wu in
      let whole : length es ≡ length front + length back = ap length q ∙ length-append front back in
      let U = strands_from v.name 0 u in
      let T = strands_from n k t in
      ⊎_elim
      (λ inner. let y = strand_at front (suc m) in
      let low = begin_first u front m parts.0 wu inner in
      let high = strand_grows front (suc m) (length front) (omega (arith, inner)) in
      let count = count_from_point v.name 0 u front wu in
      let e : begun_by (mark_of e') + strand_at es (suc m) ≡ suc (y - 1) =
      (let at : strand_at es (suc m) ≡ y = ap (λ l. strand_at l (suc m)) q ∙ strand_left front back (suc m) (omega (arith, inner)) in omega (arith, at, b, low)) in
      let here : suc (y - 1) ≡ y = omega (arith, low) in
      ap (slice_get (strand n k ∷ (U ++ T))) e ∙ get_left U T (y - 1) (omega (arith, low, high, count))
      ∙ ap (slice_get (strand v.name 0 ∷ U)) here ∙ named_at begin_due v.name 0 u front (inl parts.0) wu m inner
      ∙ sym (get_left (strand_of_each v.name 0 u) (strand_of_each n k t) m (omega (arith, lu, inner))))
      (λ past. let m' = m - length front in
      let inside : m' < length back = omega (arith, past, h, whole) in
      let y = strand_at back (suc m') in
      let low = resume_first t back m' parts.1 wt inside in
      let count = count_from_point v.name 0 u front wu in
      let place : suc m ≡ length front + suc m' = omega (arith, past) in
      let e : begun_by (mark_of e') + strand_at es (suc m) ≡ suc (length U + (y - 1)) =
      (let at : strand_at es (suc m) ≡ strand_at front (length front) + y = ap₂ strand_at q place ∙ strand_right front back (suc m') in omega (arith, at, b, low, count)) in
      let here : suc (y - 1) ≡ y = omega (arith, low) in
      let there : m ≡ length (strand_of_each v.name 0 u) + m' = omega (arith, past, lu) in
      ap (slice_get (strand n k ∷ (U ++ T))) e ∙ get_right U T (y - 1)
      ∙ ap (slice_get (strand n k ∷ T)) here ∙ named_at resume_due n k t back (inl parts.1) wt m' inside
      ∙ sym (ap (slice_get (strand_of_each v.name 0 u ++ strand_of_each n k t)) there ∙ get_right (strand_of_each v.name 0 u) (strand_of_each n k t) m'))
      (cases_lt m (length front))

-- ---- names are different

-- the name of a strand of frame n past its k-th, or of a frame below its j-th child or a later one
abbrev Within : Name → ℕ → ℕ → StrandName → Type 0
Within n k j x = ((x.frame ≡ n) × (k < x.place)) ⊎ ((c : ℕ) × (rest : Name) × (x.frame ≡ n ++ c ∷ rest) × (j ≤ c))

abbrev AllWithin : Name → ℕ → ℕ → List StrandName → Type 0
AllWithin n k j [] = Unit {0}
AllWithin n k j (x ∷ xs) = Within n k j x × AllWithin n k j xs

one_weaker : (n : Name) (k k' j j' : ℕ) (x : StrandName) → k ≤ k' → j ≤ j' → Within n k' j' x → Within n k j x
one_weaker n k k' j j' x low low' (inl (q, h)) = inl (q, omega (arith, low, h))
one_weaker n k k' j j' x low low' (inr (c, rest, q, h)) = inr (c, rest, q, omega (arith, low', h))

all_weaker : (n : Name) (k k' j j' : ℕ) (xs : List StrandName) → k ≤ k' → j ≤ j' → AllWithin n k' j' xs → AllWithin n k j xs
all_weaker n k k' j j' [] low low' h = tt
all_weaker n k k' j j' (x ∷ xs) low low' h = (one_weaker n k k' j j' x low low' h.0, all_weaker n k k' j j' xs low low' h.1)

both_within : (n : Name) (k j : ℕ) (xs ys : List StrandName) → AllWithin n k j xs → AllWithin n k j ys → AllWithin n k j (xs ++ ys)
both_within n k j [] ys h g = g
both_within n k j (x ∷ xs) ys h g = (h.0, both_within n k j xs ys h.1 g)

-- a strand of the j-th child, or below it
below_child : (n : Name) (j : ℕ) (x : StrandName) → Within (n ++ j ∷ []) 0 1 x → (rest : Name) × (x.frame ≡ n ++ j ∷ rest)
below_child n j x (inl (q, h)) = ([], q)
below_child n j x (inr (c, rest, q, h)) = (c ∷ rest, q ∙ append_assoc n (j ∷ []) (c ∷ rest))

child_within : (n : Name) (k j : ℕ) (xs : List StrandName) → AllWithin (n ++ j ∷ []) 0 1 xs → AllWithin n k j xs
child_within n k j [] h = tt
child_within n k j (x ∷ xs) h = (let (rest, q) = below_child n j x h.0 in inr (j, rest, q, omega arith), child_within n k j xs h.1)

act_within : (b : Bool) (n : Name) (k j : ℕ) (xs : List StrandName) → AllWithin n (cond b (suc k) k) j xs → AllWithin n k j (cond b (strand n (suc k) ∷ []) [] ++ xs)
act_within true n k j xs h = (inl (refl, omega arith), all_weaker n k (suc k) j j xs (omega arith) (omega arith) h)
act_within false n k j xs h = h

module _ (p : Source) where
  all_within : (w : FrameEnv) (j k : ℕ) (r : serial.Transcript) → AllWithin w.name k j (strands_from w.name k (named_from p w j r))
  all_within w j k serial.stop = tt
  all_within w j k (serial.act a v r) =
      let b = begins_strand (named_event p w a v) in
      act_within b w.name k j (strands_from w.name (cond b (suc k) k) (named_from p w j r)) (all_within w j (cond b (suc k) k) r)
  all_within w j k (serial.child how callee u r) =
      let c = child_env p w j callee in
      let T = strands_from w.name k (named_from p w (suc j) r) in
      both_within w.name k j (strands_from c.name 0 (named_from p c 1 u)) T
      (child_within w.name k j (strands_from c.name 0 (named_from p c 1 u)) (all_within c 1 0 u)) (all_weaker w.name k k j (suc j) T (omega arith) (omega arith) (all_within w (suc j) k r))

abbrev In : StrandName → List StrandName → Type 0
In x [] = ⊥
In x (y ∷ ys) = (y ≡ x) ⊎ In x ys

abbrev Apart : List StrandName → Type 0
Apart [] = Unit {0}
Apart (x ∷ xs) = ¬ (In x xs) × Apart xs

in_either : (x : StrandName) (xs ys : List StrandName) → In x (xs ++ ys) → In x xs ⊎ In x ys
in_either x [] ys h = inr h
in_either x (y ∷ xs) ys (inl q) = inl (inl q)
in_either x (y ∷ xs) ys (inr h) = ⊎_elim (λ i. inl (inr i)) inr (in_either x xs ys h)

both_apart : (xs ys : List StrandName) → Apart xs → Apart ys → ((x : StrandName) → In x xs → In x ys → ⊥) → Apart (xs ++ ys)
both_apart [] ys h g never = g
both_apart (x ∷ xs) ys h g never = ((λ i. ⊎_elim h.0 (never x (inl refl)) (in_either x xs ys i)), both_apart xs ys h.1 g (λ y i. never y (inr i)))

in_within : (n : Name) (k j : ℕ) (x : StrandName) (xs : List StrandName) → In x xs → AllWithin n k j xs → Within n k j x
in_within n k j x [] h all = absurd h
in_within n k j x (y ∷ ys) (inl q) all = subst (Within n k j) q all.0
in_within n k j x (y ∷ ys) (inr h) all = in_within n k j x ys h all.1

no_longer : (n : Name) (c : ℕ) (rest : Name) → n ≡ n ++ c ∷ rest → ⊥
no_longer n c rest q = let l : length n ≡ length (n ++ c ∷ rest) = ap length q in let m = length-append n (c ∷ rest) in omega (arith, l, m)

same_head : (n : Name) (a b : ℕ) (xs ys : Name) → n ++ a ∷ xs ≡ n ++ b ∷ ys → a ≡ b
same_head [] a b xs ys q = cc
same_head (k ∷ n) a b xs ys q = let z : n ++ a ∷ xs ≡ n ++ b ∷ ys = cc in same_head n a b xs ys z

-- a strand isn't among those that begin after it
not_later : (n : Name) (k j : ℕ) (xs : List StrandName) → AllWithin n (suc k) j xs → In (strand n (suc k)) xs → ⊥
not_later n k j xs all i = by (in_within n (suc k) j (strand n (suc k)) xs i all)
  where
    by : Within n (suc k) j (strand n (suc k)) → ⊥
    by (inl (q, h)) = omega (arith, h)
    by (inr (c, rest, q, h)) = no_longer n c rest q

act_apart : (b : Bool) (n : Name) (k j : ℕ) (xs : List StrandName) → AllWithin n (cond b (suc k) k) j xs → Apart xs → Apart (cond b (strand n (suc k) ∷ []) [] ++ xs)
act_apart true n k j xs all h = (not_later n k j xs all, h)
act_apart false n k j xs all h = h

-- nothing is both below a child and past it
never_both : (n : Name) (k j : ℕ) (x : StrandName) → Within (n ++ j ∷ []) 0 1 x → Within n k (suc j) x → ⊥
never_both n k j x h (inl (q, g)) = let (rest, e) = below_child n j x h in no_longer n j rest (sym q ∙ e)
never_both n k j x h (inr (c, other, q, g)) = let (rest, e) = below_child n j x h in let same = same_head n j c rest other (sym e ∙ q) in omega (arith, same, g)

module _ (p : Source) where
  all_apart : (w : FrameEnv) (j k : ℕ) (r : serial.Transcript) → Apart (strands_from w.name k (named_from p w j r))
  all_apart w j k serial.stop = tt
  all_apart w j k (serial.act a v r) =
      let b = begins_strand (named_event p w a v) in
      act_apart b w.name k j (strands_from w.name (cond b (suc k) k) (named_from p w j r)) (all_within p w j (cond b (suc k) k) r) (all_apart w j (cond b (suc k) k) r)
  all_apart w j k (serial.child how callee u r) =
      let c = child_env p w j callee in
      let U = strands_from c.name 0 (named_from p c 1 u) in
      let T = strands_from w.name k (named_from p w (suc j) r) in
      both_apart U T (all_apart c 1 0 u) (all_apart w (suc j) k r)
      (λ x h g. never_both w.name k j x (in_within (w.name ++ j ∷ []) 0 1 x U h (all_within p c 1 0 u)) (in_within w.name k (suc j) x T g (all_within p w (suc j) k r)))

get_in : (xs : List StrandName) (j : ℕ) (x : StrandName) → slice_get xs j ≡ Some x → In x xs
get_in [] j x q = absurd (cc)
get_in (y ∷ xs) zero x q = let s : Some y ≡ Some x = q in let e : y ≡ x = cc in inl e
get_in (y ∷ xs) (suc j) x q = inr (get_in xs j x q)

apart_get : (xs : List StrandName) → Apart xs → (j j' : ℕ) (x : StrandName) → slice_get xs j ≡ Some x → slice_get xs j' ≡ Some x → j ≡ j'
apart_get [] h j j' x q q' = absurd (cc)
apart_get (y ∷ xs) h zero zero x q q' = refl
apart_get (y ∷ xs) h zero (suc j') x q q' = let s : Some y ≡ Some x = q in let e : y ≡ x = cc in absurd (h.0 (subst (λ z. In z xs) (sym e) (get_in xs j' x q')))
apart_get (y ∷ xs) h (suc j) zero x q q' = let s : Some y ≡ Some x = q' in let e : y ≡ x = cc in absurd (h.0 (subst (λ z. In z xs) (sym e) (get_in xs j x q)))
apart_get (y ∷ xs) h (suc j) (suc j') x q q' = ap suc (apart_get xs h.1 j j' x q q')

some_at : (xs : List StrandName) (m : ℕ) → m < length xs → (x : StrandName) × (slice_get xs m ≡ Some x)
some_at [] m h = absurd (omega arith)
some_at (x ∷ xs) zero h = (x, refl)
some_at (x ∷ xs) (suc m) h = some_at xs m (omega arith)

pub strands_have_names : (p : Source) (inputs : List ℤ) → StrandsHaveNames p inputs
strands_have_names p inputs r es outcome well runs =
    let n = serial_numbered p inputs r es outcome well runs in
    let cell = cell_number p r in
    let instance = instance_number p r in
    let t = named p r in
    record {
      many = count_from_point cell instance [] 0 t es n.written;
      apart = apart_get (strand_names p r) (all_apart p (first_env p) 1 0 r);
      at = λ q i.
          let k = q - 1 in
          let e : suc k ≡ q = omega (arith, i) in
          let inside : k < length es = omega (arith, i) in
          let low = begin_first cell instance t es k n.framed n.written inside in
          let many = many_events cell instance [] 0 t es n.written in
          let (x, there) = some_at (strand_of_each [] 0 t) k (omega (arith, many, inside)) in
          let j = strand_at es (suc k) - 1 in
          let here : suc j ≡ strand_at es (suc k) = omega (arith, low) in
          (j, x, sym (ap (strand_at es) e) ∙ sym here, ap (slice_get (strand [] 0 ∷ strand_names p r)) here ∙ named_at cell instance begin_due [] 0 t es (inl n.framed) n.written k inside ∙ there, there);
    }
