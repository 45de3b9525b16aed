-- The root's last ask has the run's result: `ended_with`.
--
-- - `deeds`: the deeds at a course's points are those of its run, in order;
-- - `deed_last`: if the last event is requested, the course's last deed is the root's end, with the
--   result of that request;
-- - `result_is`: so each run with this plan has a course that ends with that, since there is one
--   such run.
use Rattle.std.proofs.Common.{◌≡◌, ℕ, zero, suc, ◌+◌, ℤ, Bool, List, [], ◌∷◌, ◌++◌, map, length, reverse, Option, None, Some, slice_get, sym, refl, ap, ◌∙◌, subst, arith}
use Rattle.std.specs.Option.{option_map}
use Rattle.std.proofs.lemmas.List.{length-map}
use Rattle.std.proofs.lemmas.Option.{slice_get-map}
use Rattle.cilk_types.specs.declared.event.Event as numbers
use Rattle.cilk_types.specs.declared.limits.TheConstants.{MAX_EVENTS, MAX_TICKS}
use Rattle.cilk_monoid.specs.Laws.{MonoidStructure}
use Rattle.cilk_program.specs.declared.ask.Ask.TheVariants as asks
use Rattle.cilk_program.specs.Outcomes.{Leaves}
use Rattle.cilk_program.specs.SerialRun.{Transcript}
use Rattle.cilk_program.proofs.Uniqueness.{serial_run_is_one}
use Rattle.cilk_determinacy.specs.Machine.{put, started}
use Rattle.cilk_determinacy.specs.Monoids.{on_view, unit_of}
use Rattle.cilk_determinacy.specs.Runs.{Cell, Instance, Ask, End, Ends, Deed, Does, Invokes, Run}
use Rattle.cilk_determinacy.specs.Runs as runs
use Rattle.cilk_determinacy.specs.Serial.{value_after}
use Rattle.cilk_determinacy.specs.Traces.{trace}
use Rattle.cilk_determinacy.specs.Views.{view_after}
use Rattle.cilk_tree.specs.declared.event_order.EventOrder.{EventOrder}
use Rattle.cilk_tree.specs.Runs.{IsAsked}
use Rattle.cilk_determinacy.specs.FrameEnvMachine.{asked_after, has_ended, named_ask, next, opening_values, retired_by}
use Rattle.cilk_determinacy.specs.Reducers.{View, monoid_of}
use Rattle.cilk_determinacy.specs.Steps.{result_in}
use Rattle.cilk_determinacy.specs.FrameEnvs.{FrameEnv, first_env}
use Rattle.cilk_determinacy.specs.Nested.{named}
use Rattle.cilk_replay.specs.InputCourses.{run_of, asked_in, course_of, event_for, frame_for}
use Rattle.cilk_replay.specs.Frames.{same_frame, course_on}
use Rattle.cilk_replay.specs.Points.{Point, points, points_on, asked_for}
use Rattle.cilk_replay.specs.EventOrders.{IsPlannedRun}
use Rattle.cilk_replay.proofs.LastEnds.{IsLast, result_of}
use Rattle.cilk_replay.proofs.Points.{asked_by_positions}
use Rattle.cilk_workers.specs.Rows.{yard_of}
use Rattle.cilk_replay.specs.Asking.{IsNextAsk}
use Rattle.cilk_replay.specs.Chains.{ChainValue, standing}
use Rattle.cilk_replay.specs.Replays.{ReplayValue, IsOfProgram, Setting, setting_of, point_at}
use Rattle.cilk_replay.proofs.Along.{event_order_of}
use Rattle.cilk_replay.proofs.Going as going
use Rattle.cilk_replay.proofs.Unended.{unended}
use Rattle.cilk_shared.specs.Values.{YardValue}
use Rattle.cilk_workers.specs.Shared.{SharedValue, event_order_in}
use Rattle.cilk_workers.specs.Turns.{IsResult}

-- ---- the deeds of a course

both : {A B : Type 0} (f : A → B) (l m : List A) (x y : List B) → map f l ≡ x → map f m ≡ y → map f (l ++ m) ≡ x ++ y
both f l m x y g h = over l ∙ ap (λ z. z ++ map f m) g ∙ ap (λ z. x ++ z) h
  where
    over : (k : List _) → map f (k ++ m) ≡ map f k ++ map f m
    over [] = refl
    over (a ∷ k) = ap (λ z. f a ∷ z) (over k)

module _ (W V : Type 0) (M : Instance → MonoidStructure V) (asks_next : W → List (Deed W) → Option (Ask W)) (same : W → W → Bool) where
  deeds : (w : W) (past : List (Deed W)) (memory : Cell → ℤ) (views : Instance → V) (b o : ℕ) (t : Run W)
      → map (λ (x : Point W). x.deed) (points w past b o t (course_of W V M asks_next same w past memory views t)) ≡ trace (run_of (course_of W V M asks_next same w past memory views t))
  deeds w past memory views b o runs.stop = refl
  deeds w past memory views b o (runs.act e r) =
      let e' = event_for W V M asks_next same w past memory views e in
      ap (λ (l : List (Deed W)). Does e' ∷ l) (deeds w (past ++ Does e' ∷ []) (λ y. put e' y (memory y)) (λ j. on_view (M j) j e' (views j)) b (suc o) r)
  deeds w past memory views b o (runs.child k v u r) =
      let v' = frame_for W V M asks_next same w past k v in
      let u' = course_of W V M asks_next same v' [] memory views u in
      let r' = course_of W V M asks_next same w (past ++ Invokes k v' ∷ []) (λ y. value_after (run_of u') y (memory y)) (λ j. view_after (M j) j (run_of u') (views j)) r in
      let o' = suc o + length (asked_in u') in
      ap (λ (l : List (Deed W)). Invokes k v' ∷ l)
      (both (λ (x : Point W). x.deed) (points v' [] (suc o) (suc o) u u') (points w (past ++ Invokes k v' ∷ []) b o' r r') _ _ (deeds v' [] memory views (suc o) (suc o) u)
      (deeds w (past ++ Invokes k v' ∷ []) (λ y. value_after (run_of u') y (memory y)) (λ j. view_after (M j) j (run_of u') (views j)) b o' r))

-- ---- the root's last ask

-- an element after all others
last_there : {A : Type 0} (xs : List A) (n : ℕ) (x : A) → slice_get xs n ≡ Some x → suc n ≡ length xs → (front : List A) × (xs ≡ front ++ x ∷ [])
last_there [] n x there long = absurd (let z : None ≡ Some x = there in cc z)
last_there (y ∷ []) zero x there long = ([], ap (λ z. z ∷ []) (let z : y ≡ x = cc there in z))
last_there (y ∷ z ∷ xs) zero x there long = absurd (omega (arith, long))
last_there (y ∷ xs) (suc n) x there long =
    let rest = last_there xs n x there (omega (arith, long)) in
    (y ∷ rest.0, ap (λ l. y ∷ l) rest.1)

-- the deed of a frame that requests its end
end_is : (d : Deed FrameEnv) (v : ℤ) (gone : List Instance) → End v gone ≡ asked_for d → d ≡ Does (Ends v gone)
end_is (Does (Ends x gone')) v gone q =
    let a : x ≡ v = cc q in
    let b : gone' ≡ gone = cc q in
    ap (λ z. Does (Ends z gone')) a ∙ ap (λ l. Does (Ends v l)) b
end_is d v gone q = absurd (cc q)

module _ (u : ReplayValue) (at : ℕ) (value : ℤ) (ask : IsNextAsk u at (asks.End value)) (asked : IsAsked (event_order_of u) at) (last : at ≡ length (let y = event_order_of u in y.events)) where
  abbrev s : Setting
  s = setting_of u ask.run

  abbrev h : IsOfProgram s
  h = ask.of_program

  abbrev event_order : EventOrder
  event_order = s.event_order

  abbrev list : List (Point FrameEnv)
  list = points_on s.program s.inputs s.run

  abbrev course_deeds : Transcript → List (Deed FrameEnv)
  course_deeds run = trace (run_of (course_on s.program s.inputs (named s.program run)))

  many : length list ≡ length event_order.events
  many = (asked_by_positions s.program s.own s.inputs s.run h.events event_order.opening h.is).all ∙ ap (λ (z : EventOrder). length z.events) (sym h.told)

  deeds_are : map (λ (x : Point FrameEnv). x.deed) list ≡ course_deeds s.run
  deeds_are = deeds FrameEnv View monoid_of (next s.program s.inputs) (same_frame s.program) (first_env s.program) [] (opening_values s.program s.inputs) (unit_of monoid_of) 0 0 (named s.program s.run)

  there : slice_get list ask.behind ≡ Some ask.point
  unfolding point_at
  there = ask.is

  abbrev gone : List Instance
  gone = let x = ask.point in retired_by s.program x.frame

  -- the frame's deed there
  deed_is : (let x = ask.point in x.deed) ≡ Does (Ends value gone)
  deed_is =
      let x = ask.point in
      let here = going.here s h ask.behind x ask.is in
      let yes = here.1.asked.0 (subst (λ (m : ℕ). IsAsked event_order m) (sym ask.place) asked) in
      let n = suc (started x.past) in
      let on = unended (has_ended x.past) (named_ask s.program x.frame n (asked_after s.program s.inputs x.frame x.past).ask) (asked_for x.deed) (here.0.asks yes) in
      end_is x.deed value gone (ap (named_ask s.program x.frame n) ask.asks ∙ on.1)

  -- it is the course's last
  deed_last : IsLast (course_deeds s.run) value
  deed_last =
      let found : slice_get (course_deeds s.run) ask.behind ≡ Some (Does (Ends value gone)) =
      ap (λ (l : List (Deed FrameEnv)). slice_get l ask.behind) (sym deeds_are) ∙ slice_get-map (λ (x : Point FrameEnv). x.deed) list ask.behind
      ∙ ap (option_map (λ (x : Point FrameEnv). x.deed)) there ∙ ap (λ (d : Deed FrameEnv). Some d) deed_is in
      let long = ap (λ (l : List (Deed FrameEnv)). length l) deeds_are in
      let one = length-map list (λ (x : Point FrameEnv). x.deed) in
      let sum = many in
      let place = ask.place in
      let end = last_there (course_deeds s.run) ask.behind (Does (Ends value gone)) found (omega (arith, long, one, sum, place, last)) in
      (end.0, gone, end.1)

  pub result_is : (run : Transcript) (es : List numbers.Event) (opening : List ℤ) → IsPlannedRun s.program s.own run es opening → result_in (reverse (course_deeds run)) ≡ value
  result_is run es opening is =
      let one = serial_run_is_one s.program s.own MAX_TICKS MAX_EVENTS s.run run h.events es (Leaves (let x = h.is in x.outcome)) (Leaves is.outcome) (let x = h.is in x.runs) is.runs in
      subst (λ (r : Transcript). result_in (reverse (course_deeds r)) ≡ value) one.0 (result_of (course_deeds s.run) value deed_last)

-- of a chain at the run's last event
pub ended_with : (y : SharedValue) (k : ChainValue) (at : ℕ) (value : ℤ) → k ≡ standing y.replay at → (let c = y.replay in c.yard ≡ yard_of y.run) → IsNextAsk k.of k.at (asks.End value)
    → IsAsked (event_order_in y) at → at ≡ length (let s = event_order_in y in s.events) → IsResult y value
ended_with y k at value stands same ask asked last =
    let event_orders = ap (λ (z : YardValue). z.event_order) same in
    result_is y.replay at value (subst (λ (c : ChainValue). IsNextAsk c.of c.at (asks.End value)) stands ask)
    (subst (λ (z : EventOrder). IsAsked z at) (sym event_orders) asked) (subst (λ (z : EventOrder). at ≡ length z.events) (sym event_orders) last)
