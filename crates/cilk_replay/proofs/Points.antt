-- The positions of a course: `asked_by_positions`.
--
-- - `Laid`: a list of points has those of a course from a position on; `laid`: so has a course's
--   own list;
-- - `walk`: the law of each point;
-- - `written_at`: the event order at each point.
use Rattle.std.proofs.Common.{◌≡◌, ◌≢◌, ◌≤◌, ◌<◌, ◌⊎◌, inl, inr, ⊎_elim, ℕ, zero, suc, ◌+◌, ◌-◌, ℤ, Bool, true, false, cond, List, [], ◌∷◌, ◌++◌, map, length, Option, Some, None, slice_get, slice_index_or, refl, sym, ap, ap₂, ◌∙◌, subst, arith, append_assoc, append-nil, length-append}
use Rattle.std.specs.Option.{option_map}
use Rattle.std.proofs.lemmas.Bool.{and_parts}
use Rattle.std.proofs.lemmas.Option.{slice_get-map, slice_get_within}
use mathlib.Core.Logic.{dite}
use native.Mathlib.Decide.{ℕ_discrete, dec_lt}
use Rattle.cilk_types.specs.declared.event.Event as numbers
use Rattle.cilk_types.specs.declared.event.Event.TheVariants as events
use Rattle.cilk_types.specs.declared.event.Instance as numbered
use Rattle.cilk_types.specs.declared.invocation.Invocation.{Invocation}
use Rattle.cilk_types.specs.declared.invocation.Invocation.TheVariants.{Call, Spawn}
use Rattle.cilk_monoid.specs.Laws.{MonoidStructure}
use Rattle.cilk_program.specs.declared.ask.Ask as language
use Rattle.cilk_program.specs.declared.ask.Ask.TheVariants as asks
use Rattle.cilk_program.specs.SerialRun.{Transcript}
use Rattle.cilk_program.specs.Syntax.{Source}
use Rattle.cilk_determinacy.specs.Machine.{put, started}
use Rattle.cilk_determinacy.specs.Monoids.{on_view, unit_of}
use Rattle.cilk_determinacy.specs.Runs.{Name, same_name, Cell, Instance, Ask, Invoke, Event, Reads, Writes, Syncs, Ends, Passes, Begins, Resumes, Creates, Updates, Sets, Values, Prints, Deed, Does, Invokes, Run}
use Rattle.cilk_determinacy.specs.Runs as runs
use Rattle.cilk_determinacy.specs.Serial.{value_after}
use Rattle.cilk_determinacy.specs.Views.{view_after}
use Rattle.cilk_determinacy.specs.Traces.{trace, Due, begin_due, resume_due, neither_due, IsFramed, IsWritten, AreWritten}
use Rattle.cilk_determinacy.proofs.Basics.{same_name-eq}
use Rattle.cilk_tree.specs.declared.event_order.EventOrder.{EventOrder}
use Rattle.cilk_determinacy.specs.FrameEnvMachine.{named_ask, answer_of, has_ended, asked_after, next, opening_values}
use Rattle.cilk_determinacy.specs.Reducers.{View, monoid_of}
use Rattle.cilk_determinacy.specs.FrameEnvs.{FrameEnv, first_env, child_env, cell_seen, reducer_seen, result_cell}
use Rattle.cilk_determinacy.specs.Nested.{named}
use Rattle.cilk_determinacy.specs.Numbers.{cell_number, instance_number}
use Rattle.cilk_determinacy.proofs.Determinate.{serial_numbered}
use Rattle.cilk_replay.specs.InputCourses.{Course, stop, act, child, run_of, asked_in, IsMadeFor, IsStartedFor, IsCourse}
use Rattle.cilk_replay.specs.Frames.{same_frame, course_on}
use Rattle.cilk_replay.specs.Lists.{with_values}
use Rattle.cilk_replay.specs.Owned.{makers}
use Rattle.cilk_replay.specs.Points.{Point, points, asked_for, IsLikeDeed, Continues, IsLater, IsReturn, IsPoint, points_on, answer_in, IsEventOf, IsAskedBy, IsTold, EventOrdersAreAskedByPositions}
use Rattle.cilk_replay.specs.EventOrders.{event_order_on, IsPlannedRun}
use Rattle.cilk_replay.proofs.AskedEventOrders.{long, written_long}
use Rattle.cilk_replay.proofs.CourseFrames.{programs_have_one}
use Rattle.cilk_replay.proofs.CourseLists.{course_written}
use Rattle.cilk_replay.proofs.NoFault.{failed}
use Rattle.cilk_replay.proofs.OneRun.{invoked}

abbrev size : {W : Type 0} → Course W → ℕ
size c = length (asked_in c)

-- ---- frames that are framed

-- the event is the frame's end, and nothing follows; or the frame continues
framed_on : {W : Type 0} (due : Due) (e : Event) (r : Run W) → IsFramed due (runs.act e r)
    → ((Continues e → ⊥) × (r ≡ runs.stop)) ⊎ (Continues e × IsFramed neither_due r)
framed_on begin_due (Passes Begins) r f = inr (tt, f)
framed_on resume_due (Passes Resumes) r f = inr (tt, f)
framed_on neither_due (Reads c v) r f = inr (tt, f)
framed_on neither_due (Writes c v) r f = inr (tt, f)
framed_on neither_due Syncs r f = inr (tt, f)
framed_on neither_due (Ends v gone) r f = inl (λ h. h, f)
framed_on neither_due (Passes (Creates i)) r f = inr (tt, f)
framed_on neither_due (Passes (Updates i x)) r f = inr (tt, f)
framed_on neither_due (Passes (Sets i x)) r f = inr (tt, f)
framed_on neither_due (Passes (Values i x)) r f = inr (tt, f)
framed_on neither_due (Passes (Prints x)) r f = inr (tt, f)
framed_on due e r f = absurd f

framed_child : {W : Type 0} (due : Due) (k : Invocation) (w : W) (u r : Run W) → IsFramed due (runs.child k w u r) → IsFramed begin_due u × IsFramed resume_due r
framed_child neither_due k w u r f = f
framed_child begin_due k w u r f = absurd f
framed_child resume_due k w u r f = absurd f

framed_none : (W : Type 0) (due : Due) → IsFramed {W = W} due runs.stop → ⊥
framed_none W begin_due f = f
framed_none W resume_due f = f
framed_none W neither_due f = f

-- ---- a list that has the points of a course from a position on
abbrev Laid : {W : Type 0} → (ℕ → Option (Point W)) → W → List (Deed W) → ℕ → ℕ → Run W → Course W → Type 0
Laid at w past b o runs.stop stop = Unit {0}
Laid at w past b o (runs.act e r) (act a e' r') =
    (at o ≡ Some (record { frame = w; past = past; since = b; planned = Does e; deed = Does e'; asked = a }))
    × Laid at w (past ++ Does e' ∷ []) b (suc o) r r'
Laid at w past b o (runs.child k v u r) (child a k' v' u' r') =
    (at o ≡ Some (record { frame = w; past = past; since = b; planned = Invokes k v; deed = Invokes k' v'; asked = a }))
    × Laid at v' [] (suc o) (suc o) u u'
    × Laid at w (past ++ Invokes k' v' ∷ []) b (suc o + size u') r r'
Laid at w past b o t c = ⊥

some_inner : {A : Type 0} (x y : A) → Some x ≡ Some y → x ≡ y
some_inner x y h = cc

-- a point of the current frame that has done this
record IsHere {W : Type 0} (w : W) (done : List (Deed W)) (b : ℕ) (y : Point W) : Type 0 where
  frame : y.frame ≡ w
  past : y.past ≡ done
  since : y.since ≡ b

here_by : {W : Type 0} (w : W) (past : List (Deed W)) (b : ℕ) (x y : Point W) → x.frame ≡ w → x.past ≡ past → x.since ≡ b → x ≡ y → IsHere w past b y
here_by w past b x y f g h e = subst (IsHere w past b) e (record { frame = f; past = g; since = h })

head : {W : Type 0} (at : ℕ → Option (Point W)) (due : Due) (w : W) (past : List (Deed W)) (b o : ℕ) (t : Run W) (c : Course W) → IsFramed due t → Laid at w past b o t c
    → (y : Point W) → at o ≡ Some y → IsHere w past b y
head {W = W} at due w past b o runs.stop stop f l y is = absurd (framed_none W due f)
head at due w past b o (runs.act e r) (act a e' r') f l y is = here_by w past b _ y refl refl refl (some_inner _ y (sym l.0 ∙ is))
head at due w past b o (runs.child k v u r) (child a k' v' u' r') f l y is = here_by w past b _ y refl refl refl (some_inner _ y (sym l.0 ∙ is))
head at due w past b o t c f l y is = absurd l

stop_size : {W : Type 0} (at : ℕ → Option (Point W)) (w : W) (past : List (Deed W)) (b o : ℕ) (t : Run W) (c : Course W) → Laid at w past b o t c → t ≡ runs.stop → size c ≡ 0
stop_size at w past b o runs.stop stop l q = refl
stop_size at w past b o (runs.act e r) c l q = absurd (cc q)
stop_size at w past b o (runs.child k v u r) c l q = absurd (cc q)
stop_size at w past b o t c l q = absurd l

module _ (W V : Type 0) (M : Instance → MonoidStructure V) (next : W → List (Deed W) → Option (Ask W)) (same : W → W → Bool) (at : ℕ → Option (Point W)) where
  -- at the end of the frame that began at b, its caller continues
  abbrev Behind : ℕ → ℕ → W → Type 0
  Behind n b w = (y : Point W) → at n ≡ Some y → (x : Point W) → x.since ≡ b → x.frame ≡ w → IsReturn at x y

  abbrev act_point : W → List (Deed W) → ℕ → Event → Event → Bool → Point W
  act_point w past b e e' a = record { frame = w; past = past; since = b; planned = Does e; deed = Does e'; asked = a }

  abbrev child_point : W → List (Deed W) → ℕ → Invocation → W → Invocation → W → Bool → Point W
  child_point w past b k v k' v' a = record { frame = w; past = past; since = b; planned = Invokes k v; deed = Invokes k' v'; asked = a }

  only_act : (w : W) (past : List (Deed W)) (memory : Cell → ℤ) (views : Instance → V) (e e' : Event) (a : Bool) → IsMadeFor W V M next same w past memory views e e' a
      → (d : Deed W) → IsLikeDeed same (Does e) d → next w past ≡ Some (asked_for d) → a ≡ true
  only_act w past memory views e e' a h (Does x) l q = h.only x l q
  only_act w past memory views e e' a h (Invokes j x) l q = absurd l

  only_child : (w : W) (past : List (Deed W)) (k k' : Invocation) (v v' : W) (a : Bool) → IsStartedFor W V M next same w past k k' v v' a
      → (d : Deed W) → IsLikeDeed same (Invokes k v) d → next w past ≡ Some (asked_for d) → a ≡ true
  only_child w past k k' v v' a h (Does x) l q = absurd l
  only_child w past k k' v v' a h (Invokes j x) l q = h.only x l.1 (subst (λ (i : Invocation). next w past ≡ Some (Invoke i x)) (sym l.0) q)

  end_not : (v : ℤ) (gone : List Instance) (e : Event) → ◌≡◌ {A = Deed W} (Does e) (Does (Ends v gone)) → Continues e → ⊥
  end_not v gone e q h = let same_one : e ≡ Ends v gone = cc q in subst Continues same_one h

  later : (x y : Point W) → IsHere x.frame (x.past ++ x.deed ∷ []) x.since y → IsLater x y
  later x y h = record { frame = h.frame; past = h.past; since = h.since }

  act_is : (due : Due) (w : W) (past : List (Deed W)) (memory : Cell → ℤ) (views : Instance → V) (b o : ℕ) (e e' : Event) (a : Bool) (r : Run W) (r' : Course W)
      → IsFramed due (runs.act e r) → IsMadeFor W V M next same w past memory views e e' a
      → Laid at w (past ++ Does e' ∷ []) b (suc o) r r' → (r ≡ runs.stop → size r' ≡ 0) → Behind (suc o + size r') b w
      → IsPoint next same at o (act_point w past b e e' a)
  act_is due w past memory views b o e e' a r r' f made rest empty behind = record {
    asks = λ yes. (made.made yes).0;
    only = only_act w past memory views e e' a made;
    goes = λ x is on y there. later (act_point w past b e e' a) y (⊎_elim
        (λ (over : (Continues e → ⊥) × (r ≡ runs.stop)). absurd (over.0 (subst Continues (inner x e (sym is)) on)))
        (λ (more : Continues e × IsFramed neither_due r). head at neither_due w (past ++ Does e' ∷ []) b (suc o) r r' more.1 rest y there)
        (framed_on due e r f));
    starts = λ k v is y there. absurd (cc is);
    returns = λ v gone is y there. ⊎_elim
        (λ (over : (Continues e → ⊥) × (r ≡ runs.stop)).
        let none = empty over.1 in
        let place : suc o + size r' ≡ suc o = omega (arith, none) in
        behind y (ap at place ∙ there) (act_point w past b e e' a) refl refl)
        (λ (more : Continues e × IsFramed neither_due r). absurd (end_not v gone e is more.0))
        (framed_on due e r f);
  }
    where
      inner : (x z : Event) → ◌≡◌ {A = Deed W} (Does x) (Does z) → x ≡ z
      inner x z q = cc q

  child_is : (w : W) (past : List (Deed W)) (b o : ℕ) (k k' : Invocation) (v v' : W) (a : Bool) (u : Run W) (u' : Course W)
      → IsStartedFor W V M next same w past k k' v v' a → IsFramed begin_due u → Laid at v' [] (suc o) (suc o) u u'
      → IsPoint next same at o (child_point w past b k v k' v' a)
  child_is w past b o k k' v v' a u u' made f inner = record {
    asks = λ yes. made.made yes;
    only = only_child w past k k' v v' a made;
    goes = λ x is on y there. absurd (cc is);
    starts = λ j x is y there.
        let h = head at begin_due v' [] (suc o) (suc o) u u' f inner y there in
        let how : k' ≡ j = sym made.how ∙ kinds j x is in
        record { started = ap (λ (i : Invocation). Invokes i v') how ∙ ap (Invokes j) (sym h.frame); past = h.past; since = h.since };
    returns = λ x gone is y there. absurd (cc is);
  }
    where
      kinds : (j : Invocation) (x : W) → Invokes k v ≡ Invokes j x → k ≡ j
      kinds j x q = cc q

  walk : (due : Due) (w : W) (past : List (Deed W)) (memory : Cell → ℤ) (views : Instance → V) (b o : ℕ) (t : Run W) (c : Course W) → IsFramed due t
      → IsCourse W V M next same w past memory views t c → Laid at w past b o t c → Behind (o + size c) b w
      → (i : ℕ) (x : Point W) → o ≤ i → i < o + size c → at i ≡ Some x → IsPoint next same at i x
  walk due w past memory views b o runs.stop stop f h l behind i x low less is = absurd (omega (arith, low, less))
  walk due w past memory views b o (runs.act e r) (act a e' r') f h l behind i x low less is = dite (ℕ_discrete i o)
      (λ (same_place : i ≡ o).
      let point : act_point w past b e e' a ≡ x = some_inner _ x (sym l.0 ∙ ap at (sym same_place) ∙ is) in
      subst (λ (j : ℕ). IsPoint next same at j x) (sym same_place) (subst (IsPoint next same at o) point
      (act_is due w past memory views b o e e' a r r' f h.0 l.1 (stop_size at w (past ++ Does e' ∷ []) b (suc o) r r' l.1) (subst (λ (n : ℕ). Behind n b w) onward behind))))
      (λ (other : i ≢ o). ⊎_elim
      (λ (over : (Continues e → ⊥) × (r ≡ runs.stop)). let empty = stop_size at w (past ++ Does e' ∷ []) b (suc o) r r' l.1 over.1 in absurd (omega (arith, low, less, other, empty)))
      (λ (more : Continues e × IsFramed neither_due r).
      walk neither_due w (past ++ Does e' ∷ []) (λ y. put e' y (memory y)) (λ j. on_view (M j) j e' (views j)) b (suc o) r r' more.1 h.1 l.1
      (subst (λ (n : ℕ). Behind n b w) onward behind) i x (omega (arith, low, other)) (omega (arith, less)) is)
      (framed_on due e r f))
    where
      onward : o + suc (size r') ≡ suc o + size r'
      onward = omega arith
  walk due w past memory views b o (runs.child k v u r) (child a k' v' u' r') f h l behind i x low less is = dite (ℕ_discrete i o)
      (λ (same_place : i ≡ o).
      let point : child_point w past b k v k' v' a ≡ x = some_inner _ x (sym l.0 ∙ ap at (sym same_place) ∙ is) in
      subst (λ (j : ℕ). IsPoint next same at j x) (sym same_place) (subst (IsPoint next same at o) point
      (child_is w past b o k k' v v' a u u' h.0 framed.0 l.1)))
      (λ (other : i ≢ o). dite (dec_lt i (suc o + size u'))
      (λ (inside : i < suc o + size u').
      walk begin_due v' [] memory views (suc o) (suc o) u u' framed.0 h.1 l.1 returned i x (omega (arith, low, other)) inside is)
      (λ outside.
      walk resume_due w (past ++ Invokes k' v' ∷ []) (λ y. value_after (run_of u') y (memory y)) (λ j. view_after (M j) j (run_of u') (views j)) b (suc o + size u') r r' framed.1 h.2 l.2
      (subst (λ (n : ℕ). Behind n b w) onward behind) i x (omega (arith, outside)) (omega (arith, less, onward)) is))
    where
      framed : IsFramed begin_due u × IsFramed resume_due r
      framed = framed_child due k v u r f

      onward : o + suc (length (asked_in u' ++ asked_in r')) ≡ suc o + size u' + size r'
      onward = let both = length-append (asked_in u') (asked_in r') in omega (arith, both)

      returned : Behind (suc o + size u') (suc o) v'
      returned y there x since frame =
          let rest = head at resume_due w (past ++ Invokes k' v' ∷ []) b (suc o + size u') r r' framed.1 l.2 y there in
          record {
            place = o;
            caller = child_point w past b k v k' v' a;
            is = l.0;
            before = sym since;
            how = k';
            started = ap (Invokes k') (sym frame);
            goes_on = record { frame = rest.frame; past = rest.past; since = rest.since };
          }
  walk due w past memory views b o t c f h l behind i x low less is = absurd l

-- ---- the list has its own points

at_end : {A : Type 0} (pre : List A) (x : A) (post : List A) → slice_get (pre ++ x ∷ post) (length pre) ≡ Some x
at_end [] x post = refl
at_end (y ∷ pre) x post = at_end pre x post

record IsPart {A : Type 0} (list : List A) (o : ℕ) (part : List A) : Type 0 where
  pre : List A
  post : List A
  place : o ≡ length pre
  is : list ≡ pre ++ (part ++ post)

part_head : {A : Type 0} (list : List A) (o : ℕ) (x : A) (part : List A) → IsPart list o (x ∷ part) → slice_get list o ≡ Some x
part_head list o x part h =
    ap (slice_get list) h.place ∙ ap (λ l. slice_get l (length h.pre)) h.is ∙ at_end h.pre x (part ++ h.post)

part_left : {A : Type 0} (list : List A) (o : ℕ) (x : A) (l m : List A) → IsPart list o (x ∷ (l ++ m)) → IsPart list (suc o) l
part_left list o x l m h =
    let long_pre = length-append h.pre (x ∷ []) in
    let at = h.place in
    record {
      pre = h.pre ++ x ∷ [];
      post = m ++ h.post;
      place = omega (arith, at, long_pre);
      is = h.is ∙ ap (λ (z : List _). h.pre ++ x ∷ z) (append_assoc l m h.post) ∙ sym (append_assoc h.pre (x ∷ []) (l ++ (m ++ h.post)));
    }

part_right : {A : Type 0} (list : List A) (o : ℕ) (x : A) (l m : List A) → IsPart list o (x ∷ (l ++ m)) → IsPart list (suc o + length l) m
part_right list o x l m h =
    let long_pre = length-append h.pre (x ∷ l) in
    let at = h.place in
    record {
      pre = h.pre ++ x ∷ l;
      post = h.post;
      place = omega (arith, at, long_pre);
      is = h.is ∙ ap (λ (z : List _). h.pre ++ x ∷ z) (append_assoc l m h.post) ∙ sym (append_assoc h.pre (x ∷ l) (m ++ h.post));
    }

part_tail : {A : Type 0} (list : List A) (o : ℕ) (x : A) (l : List A) → IsPart list o (x ∷ l) → IsPart list (suc o) l
part_tail list o x l h =
    let long_pre = length-append h.pre (x ∷ []) in
    let at = h.place in
    record { pre = h.pre ++ x ∷ []; post = h.post; place = omega (arith, at, long_pre); is = h.is ∙ sym (append_assoc h.pre (x ∷ []) (l ++ h.post)) }

-- the column of two parts
two : {A B : Type 0} (f : A → B) (l m : List A) (x y : List B) → map f l ≡ x → map f m ≡ y → map f (l ++ m) ≡ x ++ y
two f l m x y g h = both l ∙ ap (λ z. z ++ map f m) g ∙ ap (λ z. x ++ z) h
  where
    both : (k : List _) → map f (k ++ m) ≡ map f k ++ map f m
    both [] = refl
    both (a ∷ k) = ap (λ z. f a ∷ z) (both k)

module _ (W V : Type 0) (M : Instance → MonoidStructure V) (next : W → List (Deed W) → Option (Ask W)) (same : W → W → Bool) where
  points_long : (w : W) (past : List (Deed W)) (memory : Cell → ℤ) (views : Instance → V) (b o : ℕ) (t : Run W) (c : Course W)
      → IsCourse W V M next same w past memory views t c → length (points w past b o t c) ≡ size c
  points_long w past memory views b o runs.stop stop h = refl
  points_long w past memory views b o (runs.act e r) (act a e' r') h =
      ap suc (points_long w (past ++ Does e' ∷ []) (λ y. put e' y (memory y)) (λ j. on_view (M j) j e' (views j)) b (suc o) r r' h.1)
  points_long w past memory views b o (runs.child k v u r) (child a k' v' u' r') h =
      let inner = points_long v' [] memory views (suc o) (suc o) u u' h.1 in
      let rest = points_long w (past ++ Invokes k' v' ∷ []) (λ y. value_after (run_of u') y (memory y)) (λ j. view_after (M j) j (run_of u') (views j)) b (suc o + size u') r r' h.2 in
      let both = length-append (asked_in u') (asked_in r') in
      let both' = length-append (points v' [] (suc o) (suc o) u u') (points w (past ++ Invokes k' v' ∷ []) b (suc o + size u') r r') in
      omega (arith, inner, rest, both, both')
  points_long w past memory views b o t c h = absurd h

  laid : (list : List (Point W)) (w : W) (past : List (Deed W)) (memory : Cell → ℤ) (views : Instance → V) (b o : ℕ) (t : Run W) (c : Course W)
      → IsCourse W V M next same w past memory views t c → IsPart list o (points w past b o t c) → Laid (slice_get list) w past b o t c
  laid list w past memory views b o runs.stop stop h part = tt
  laid list w past memory views b o (runs.act e r) (act a e' r') h part = (
    part_head list o _ _ part,
    laid list w (past ++ Does e' ∷ []) (λ y. put e' y (memory y)) (λ j. on_view (M j) j e' (views j)) b (suc o) r r' h.1 (part_tail list o _ _ part),
  )
  laid list w past memory views b o (runs.child k v u r) (child a k' v' u' r') h part =
      let inner = points v' [] (suc o) (suc o) u u' in
      let rest = points w (past ++ Invokes k' v' ∷ []) b (suc o + size u') r r' in
      let long_inner = points_long v' [] memory views (suc o) (suc o) u u' h.1 in (
        part_head list o _ _ part,
        laid list v' [] memory views (suc o) (suc o) u u' h.1 (part_left list o _ inner rest part),
        laid list w (past ++ Invokes k' v' ∷ []) (λ y. value_after (run_of u') y (memory y)) (λ j. view_after (M j) j (run_of u') (views j)) b (suc o + size u') r r' h.2
            (subst (λ (n : ℕ). IsPart list (suc o + n) rest) long_inner (part_right list o _ inner rest part)),
      )
  laid list w past memory views b o t c h part = absurd h

  -- the columns of the points: the course's deeds, what is requested, and the plan's deeds
  record HasColumns (list : List (Point W)) (t : Run W) (c : Course W) : Type 0 where
    deeds : map (λ (x : Point W). x.deed) list ≡ trace (run_of c)
    asked : map (λ (x : Point W). x.asked) list ≡ asked_in c
    planned : map (λ (x : Point W). x.planned) list ≡ trace t

  columns : (w : W) (past : List (Deed W)) (memory : Cell → ℤ) (views : Instance → V) (b o : ℕ) (t : Run W) (c : Course W)
      → IsCourse W V M next same w past memory views t c → HasColumns (points w past b o t c) t c
  columns w past memory views b o runs.stop stop h = record { deeds = refl; asked = refl; planned = refl }
  columns w past memory views b o (runs.act e r) (act a e' r') h =
      let rest = columns w (past ++ Does e' ∷ []) (λ y. put e' y (memory y)) (λ j. on_view (M j) j e' (views j)) b (suc o) r r' h.1 in
      record {
        deeds = ap (λ (l : List (Deed W)). Does e' ∷ l) rest.deeds;
        asked = ap (λ (l : List Bool). a ∷ l) rest.asked;
        planned = ap (λ (l : List (Deed W)). Does e ∷ l) rest.planned;
      }
  columns w past memory views b o (runs.child k v u r) (child a k' v' u' r') h =
      let first = points v' [] (suc o) (suc o) u u' in
      let second = points w (past ++ Invokes k' v' ∷ []) b (suc o + size u') r r' in
      let inner = columns v' [] memory views (suc o) (suc o) u u' h.1 in
      let rest = columns w (past ++ Invokes k' v' ∷ []) (λ y. value_after (run_of u') y (memory y)) (λ j. view_after (M j) j (run_of u') (views j)) b (suc o + size u') r r' h.2 in
      record {
        deeds = ap (λ (l : List (Deed W)). Invokes k' v' ∷ l) (two (λ (x : Point W). x.deed) first second _ _ inner.deeds rest.deeds);
        asked = ap (λ (l : List Bool). a ∷ l) (two (λ (x : Point W). x.asked) first second _ _ inner.asked rest.asked);
        planned = ap (λ (l : List (Deed W)). Invokes k v ∷ l) (two (λ (x : Point W). x.planned) first second _ _ inner.planned rest.planned);
      }
  columns w past memory views b o t c h = absurd h

-- ---- the events of the event order

record IsWrittenAt (cell : Cell → ℕ) (instance : Instance → numbered.Instance) {W : Type 0} (d : Deed W) (es : List numbers.Event) (i : ℕ) : Type 0 where
  here : numbers.Event
  is : slice_get es i ≡ Some here
  written : IsWritten cell instance d here

written_at : (cell : Cell → ℕ) (instance : Instance → numbered.Instance) {W : Type 0} (ds : List (Deed W)) (es : List numbers.Event) (i : ℕ) (d : Deed W)
    → AreWritten cell instance ds es → slice_get ds i ≡ Some d → IsWrittenAt cell instance d es i
written_at cell instance [] es i d h is = absurd (let z : None ≡ Some d = is in cc z)
written_at cell instance (x ∷ ds) [] i d h is = absurd h
written_at cell instance (x ∷ ds) (e ∷ es) zero d h is =
    let same_deed : x ≡ d = some_inner x d is in record { here = e; is = refl; written = subst (λ z. IsWritten cell instance z e) same_deed h.0 }
written_at cell instance (x ∷ ds) (e ∷ es) (suc i) d h is =
    let rest = written_at cell instance ds es i d h.1 is in record { here = rest.here; is = rest.is; written = rest.written }

asked_at : (bs : List Bool) (i : ℕ) (b : Bool) → slice_get bs i ≡ Some b → slice_index_or bs i false ≡ b
asked_at [] i b is = absurd (let z : None ≡ Some b = is in cc z)
asked_at (x ∷ bs) zero b is = some_inner x b is
asked_at (x ∷ bs) (suc i) b is = asked_at bs i b is

-- ---- for the language

-- the points of a run are in the frames that make its events
owners : (p : Source) (V : Type 0) (M : Instance → MonoidStructure V) (next : FrameEnv → List (Deed FrameEnv) → Option (Ask FrameEnv)) (w : FrameEnv) (past : List (Deed FrameEnv))
    (memory : Cell → ℤ) (views : Instance → V) (b o : ℕ) (t : Run FrameEnv) (c : Course FrameEnv) (name : Name)
    → IsCourse FrameEnv V M next (same_frame p) w past memory views t c → w.name ≡ name → map (λ (x : Point FrameEnv). x.frame.name) (points w past b o t c) ≡ makers name t
owners p V M next w past memory views b o runs.stop stop name h is = refl
owners p V M next w past memory views b o (runs.act e r) (act a e' r') name h is =
    let rest = owners p V M next w (past ++ Does e' ∷ []) (λ y. put e' y (memory y)) (λ j. on_view (M j) j e' (views j)) b (suc o) r r' name h.1 is in
    ap₂ (λ (n : Name) (l : List Name). n ∷ l) is rest
owners p V M next w past memory views b o (runs.child k v u r) (child a k' v' u' r') name h is =
    let inner = owners p V M next v' [] memory views (suc o) (suc o) u u' v.name h.1 (sym (same_name-eq v.name v'.name (and_parts (same_name v.name v'.name) _ h.0.fits).0)) in
    let rest = owners p V M next w (past ++ Invokes k' v' ∷ []) (λ y. value_after (run_of u') y (memory y)) (λ j. view_after (M j) j (run_of u') (views j)) b (suc o + size u') r r' name h.2 is in
    ap₂ (λ (n : Name) (l : List Name). n ∷ l) is
    (two (λ (x : Point FrameEnv). x.frame.name) (points v' [] (suc o) (suc o) u u') (points w (past ++ Invokes k' v' ∷ []) b (suc o + size u') r r') _ _ inner rest)
owners p V M next w past memory views b o t c name h is = absurd h

unended : (b : Bool) (a a' : Ask FrameEnv) → cond b None (Some a) ≡ Some a' → (b ≡ false) × (a ≡ a')
unended true a a' h = absurd (cc h)
unended false a a' h = (refl, some_inner a a' h)

started_is : (d : Deed FrameEnv) (how : Invocation) (v : FrameEnv) → Invoke how v ≡ asked_for d → d ≡ Invokes how v
started_is (Does e) how v q = absurd (invoked e how v (sym q))
started_is (Invokes j x) how v q =
    let h : j ≡ how = cc q in
    let k : x ≡ v = cc q in
    ap (λ i. Invokes i x) h ∙ ap (Invokes how) k

answer_written : (cell : Cell → ℕ) (instance : Instance → numbered.Instance) (d : Deed FrameEnv) (e : numbers.Event) → IsWritten cell instance d e → answer_of d ≡ answer_in e
answer_written cell instance (Does (Reads c v)) e h = sym (ap answer_in h)
answer_written cell instance (Does (Writes c v)) e h = sym (ap answer_in h)
answer_written cell instance (Does Syncs) e h = sym (ap answer_in h)
answer_written cell instance (Does (Ends v gone)) e h = sym (ap answer_in h)
answer_written cell instance (Does (Passes Begins)) e h = sym (ap answer_in h.1)
answer_written cell instance (Does (Passes Resumes)) e h = sym (ap answer_in h.1)
answer_written cell instance (Does (Passes (Creates i))) e h = sym (ap answer_in h)
answer_written cell instance (Does (Passes (Updates i x))) e h = sym (ap answer_in h)
answer_written cell instance (Does (Passes (Sets i x))) e h = sym (ap answer_in h)
answer_written cell instance (Does (Passes (Values i v))) e h = sym (ap answer_in h)
answer_written cell instance (Does (Passes (Prints x))) e h = sym (ap answer_in h)
answer_written cell instance (Invokes Call w) e h = sym (ap answer_in h.1)
answer_written cell instance (Invokes Spawn w) e h = sym (ap answer_in h.1)

module _ (p : Source) (r : Transcript) where
  event_of : (w : FrameEnv) (k : ℕ) (a : language.Ask) (d : Deed FrameEnv) (e : numbers.Event) → named_ask p w k a ≡ asked_for d
      → IsWritten (cell_number p r) (instance_number p r) d e → IsEventOf p r w a e
  event_of w k asks.Begin (Does (Passes Begins)) e q h = h
  event_of w k (asks.Read x) (Does (Reads c v)) e q h = let s : c ≡ cell_seen w x = cc q in (v, h ∙ ap (λ (z : Cell). events.Read (cell_number p r z) v) s)
  event_of w k (asks.Write x y) (Does (Writes c v)) e q h =
      let s : c ≡ cell_seen w x = cc q in
      let z : v ≡ y = cc q in
      h ∙ ap (λ (z : Cell). events.Write (cell_number p r z) v) s ∙ ap (events.Write (cell_number p r (cell_seen w x))) z
  event_of w k (asks.Create x) (Does (Passes (Creates i))) e q h =
      let s : i ≡ reducer_seen w x = cc q in h ∙ ap (λ (z : Instance). events.Create (instance_number p r z)) s
  event_of w k (asks.Update x y) (Does (Passes (Updates i v))) e q h =
      let s : i ≡ reducer_seen w x = cc q in
      let z : v ≡ y = cc q in
      h ∙ ap (λ (z : Instance). events.Update (instance_number p r z) v) s ∙ ap (events.Update (instance_number p r (reducer_seen w x))) z
  event_of w k (asks.Set x y) (Does (Passes (Sets i v))) e q h =
      let s : i ≡ reducer_seen w x = cc q in
      let z : v ≡ y = cc q in
      h ∙ ap (λ (z : Instance). events.Set (instance_number p r z) v) s ∙ ap (events.Set (instance_number p r (reducer_seen w x))) z
  event_of w k (asks.Value x) (Does (Passes (Values i v))) e q h =
      let s : i ≡ reducer_seen w x = cc q in (v, h ∙ ap (λ (z : Instance). events.Value (instance_number p r z) v) s)
  event_of w k (asks.Print y) (Does (Passes (Prints v))) e q h = let z : v ≡ y = cc q in h ∙ ap events.Print z
  event_of w k (asks.Invoke Call callee) (Invokes Call v) e q h = h
  event_of w k (asks.Invoke Spawn callee) (Invokes Spawn v) e q h = h
  event_of w k (asks.Invoke how callee) (Does x) e q h = absurd (invoked x how (child_env p w k callee) (sym q))
  event_of w k asks.Resume (Does (Passes Resumes)) e q h = h
  event_of w k (asks.Fault f) (Does x) e q h = failed x f (runs.Fail f) refl q
  event_of w k (asks.Fault f) (Invokes j v) e q h = absurd (cc q)
  event_of w k asks.Sync (Does Syncs) e q h = h
  event_of w k (asks.Result y) (Does (Writes c v)) e q h =
      let s : c ≡ result_cell w = cc q in
      let z : v ≡ y = cc q in
      h ∙ ap (λ (z : Cell). events.Write (cell_number p r z) v) s ∙ ap (events.Write (cell_number p r (result_cell w))) z
  event_of w k (asks.End y) (Does (Ends v gone)) e q h = h
  event_of w k a d e q h = absurd (cc q)

  asked_by : (inputs : List ℤ) (x : Point FrameEnv) (e : numbers.Event) → next p inputs x.frame x.past ≡ Some (asked_for x.deed)
      → IsWritten (cell_number p r) (instance_number p r) x.deed e → IsAskedBy p r inputs x e
  asked_by inputs x e asks written =
      let k = suc (started x.past) in
      let a = (asked_after p inputs x.frame x.past).ask in
      let on = unended (has_ended x.past) (named_ask p x.frame k a) (asked_for x.deed) asks in
      record {
        goes_on = on.0;
        event = event_of x.frame k a x.deed e on.1 written;
        starts = λ how callee is. started_is x.deed how (child_env p x.frame k callee) (sym (ap (named_ask p x.frame k) is) ∙ on.1);
      }

module _ (p : Source) (inputs others : List ℤ) (r : Transcript) (es : List numbers.Event) (opening : List ℤ) (is : IsPlannedRun p inputs r es opening) where
  abbrev t : Run FrameEnv
  t = named p r

  abbrev c : Course FrameEnv
  c = course_on p others t

  abbrev list : List (Point FrameEnv)
  list = points_on p others r

  abbrev event_order : EventOrder
  event_order = event_order_on p others r es opening

  abbrev values : Cell → ℤ
  values = opening_values p others

  abbrev units : Instance → View
  units = unit_of monoid_of

  course : IsCourse FrameEnv View monoid_of (next p others) (same_frame p) (first_env p) [] values units t c
  course = (programs_have_one p others t).0

  framed : IsFramed begin_due t
  framed = (serial_numbered p inputs r es is.outcome is.named is.runs).framed

  planned : AreWritten (cell_number p r) (instance_number p r) (trace t) es
  planned = (serial_numbered p inputs r es is.outcome is.named is.runs).written

  written : AreWritten (cell_number p r) (instance_number p r) (trace (run_of c)) event_order.events
  written = course_written FrameEnv View monoid_of (next p others) (same_frame p) (cell_number p r) (instance_number p r) (first_env p) [] values units t c es course planned

  many : length list ≡ size c
  many = points_long FrameEnv View monoid_of (next p others) (same_frame p) (first_env p) [] values units 0 0 t c course

  in_place : Laid (slice_get list) (first_env p) [] 0 0 t c
  in_place = laid FrameEnv View monoid_of (next p others) (same_frame p) list (first_env p) [] values units 0 0 t c course
      (record { pre = []; post = []; place = refl; is = sym (append-nil list) })

  behind : Behind FrameEnv View monoid_of (next p others) (same_frame p) (slice_get list) (0 + size c) 0 (first_env p)
  behind y there x since frame =
      let less = slice_get_within list (0 + size c) y there in
      let e = many in
      absurd (omega (arith, less, e))

  within : (i : ℕ) (x : Point FrameEnv) → slice_get list i ≡ Some x → i < 0 + size c
  within i x there = let less = slice_get_within list i x there in let e = many in omega (arith, less, e)

  point : (i : ℕ) (x : Point FrameEnv) → slice_get list i ≡ Some x → IsPoint (next p others) (same_frame p) (slice_get list) i x
  point i x there =
      walk FrameEnv View monoid_of (next p others) (same_frame p) (slice_get list) begin_due (first_env p) [] values units 0 0 t c framed course in_place behind i x (omega arith) (within i x there) there

  -- a column of the points at a place
  at_place : {B : Type 0} (f : Point FrameEnv → B) (l : List B) (i : ℕ) (x : Point FrameEnv) → map f list ≡ l → slice_get list i ≡ Some x → slice_get l i ≡ Some (f x)
  at_place f l i x q there = ap (λ z. slice_get z i) (sym q) ∙ slice_get-map f list i ∙ ap (option_map f) there

  told : (i : ℕ) (x : Point FrameEnv) → slice_get list i ≡ Some x → IsTold p r others es event_order i x
  told i x there =
      let cols = columns FrameEnv View monoid_of (next p others) (same_frame p) (first_env p) [] values units 0 0 t c course in
      let at = written_at (cell_number p r) (instance_number p r) (trace (run_of c)) event_order.events i x.deed written (at_place (λ (y : Point FrameEnv). y.deed) (trace (run_of c)) i x cols.deeds there) in
      let from = written_at (cell_number p r) (instance_number p r) (trace t) es i x.planned planned (at_place (λ (y : Point FrameEnv). y.planned) (trace t) i x cols.planned there) in
      let back : suc i - 1 ≡ i = omega arith in
      let here : slice_index_or event_order.asked (suc i - 1) false ≡ x.asked =
      ap (λ (n : ℕ). slice_index_or event_order.asked n false) back ∙ asked_at (asked_in c) i x.asked (at_place (λ (y : Point FrameEnv). y.asked) (asked_in c) i x cols.asked there) in
      record {
        plan = λ e e_is. subst (IsWritten (cell_number p r) (instance_number p r) x.planned) (some_inner from.here e (sym from.is ∙ e_is)) from.written;
        owner = at_place (λ (y : Point FrameEnv). y.frame.name) (makers [] t) i x
            (owners p View monoid_of (next p others) (first_env p) [] values units 0 0 t c [] course refl) there;
        here = at.here;
        is = ap (slice_get event_order.events) back ∙ at.is;
        answers = answer_written (cell_number p r) (instance_number p r) x.deed at.here at.written;
        asked = (λ yes. sym here ∙ yes, λ yes. here ∙ yes);
        asks = λ yes. asked_by p r others x at.here ((point i x there).asks (sym here ∙ yes)) at.written;
      }

  begun : (x : Point FrameEnv) → slice_get list 0 ≡ Some x → (x.frame ≡ first_env p) × (x.past ≡ []) × (x.since ≡ 0)
  begun x there = let h = head (slice_get list) begin_due (first_env p) [] 0 0 t c framed in_place x there in (h.frame, h.past, h.since)

pub asked_by_positions : EventOrdersAreAskedByPositions
asked_by_positions p inputs others r es opening is = record {
  all = many p inputs others r es opening is ∙ sym (long (course_on p others (named p r)))
      ∙ sym (written_long (cell_number p r) (instance_number p r) (trace (run_of (course_on p others (named p r)))) (with_values es (trace (run_of (course_on p others (named p r))))) (written p inputs others r es opening is));
  begins = begun p inputs others r es opening is;
  each = λ i x there. (point p inputs others r es opening is i x there, told p inputs others r es opening is i x there);
}
