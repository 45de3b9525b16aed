-- A serial run is the course of each plan's run that it is like: `like_courses`. So an input on which
-- there is one departs nowhere: `like_departs_nowhere`. Where an input departs nowhere, its runs are
-- like the plan's: `along_are_like`.
use Rattle.std.proofs.Common.{◌≡◌, ℕ, zero, suc, ◌-◌, ◌<◌, ◌≤◌, ℤ, Bool, true, false, List, [], ◌∷◌, ◌++◌, length, Option, slice_index_or, refl, sym, ◌∙◌, subst, arith}
use Rattle.cilk_monoid.specs.Laws.{MonoidStructure}
use Rattle.cilk_determinacy.specs.Machine.{put}
use Rattle.cilk_determinacy.specs.MachineTheorem.{follows}
use Rattle.cilk_determinacy.specs.Monoids.{on_view, unit_of}
use Rattle.cilk_determinacy.specs.Nested.{named}
use Rattle.cilk_determinacy.specs.Numbers.{cell_number, instance_number}
use Rattle.cilk_determinacy.specs.Reducers.{View, monoid_of}
use Rattle.cilk_determinacy.specs.Runs.{Cell, Instance, Ask, Deed, Does, Invokes, Run}
use Rattle.cilk_determinacy.specs.Runs as runs
use Rattle.cilk_determinacy.specs.Serial.{value_after, IsSerial, Behaves}
use Rattle.cilk_determinacy.specs.Traces.{trace}
use Rattle.cilk_determinacy.specs.FrameEnvMachine.{next, opening_values}
use Rattle.cilk_determinacy.specs.FrameEnvs.{FrameEnv, first_env}
use Rattle.cilk_determinacy.specs.Views.{view_after, IsSerialViews}
use Rattle.cilk_replay.specs.InputCourses.{Course, stop, act, child, run_of, all_asked, asked_in, IsCourse, IsSerialRunFrom}
use Rattle.cilk_replay.specs.Frames.{same_frame, course_on}
use Rattle.cilk_replay.specs.Lists.{with_values}
use Rattle.cilk_replay.specs.LikeRuns.{IsLikeRun, LikeRunsDepartNowhere, RunsAlongAreLike}
use Rattle.cilk_replay.proofs.AskedEventOrders.{long, written_long}
use Rattle.cilk_replay.proofs.CourseFrames.{programs_have_one}
use Rattle.cilk_replay.proofs.CourseRuns.{run_all}
use Rattle.cilk_replay.proofs.EventOrderValues.{written}
use Rattle.cilk_replay.proofs.OneRun.{named_runs_are_serial}
use Rattle.cilk_replay.proofs.RunsEnd.{inputs_run_along}

-- ---- marks of requests

abbrev AllTrue : List Bool → Type 0
AllTrue [] = Unit {0}
AllTrue (b ∷ bs) = (b ≡ true) × AllTrue bs

true_both : (bs cs : List Bool) → AllTrue bs → AllTrue cs → AllTrue (bs ++ cs)
true_both [] cs h g = g
true_both (b ∷ bs) cs h g = (h.0, true_both bs cs h.1 g)

true_at : (bs : List Bool) (n : ℕ) → AllTrue bs → n < length bs → slice_index_or bs n false ≡ true
true_at [] n h less = absurd (omega (arith, less))
true_at (b ∷ bs) zero h less = h.0
true_at (b ∷ bs) (suc n) h less = true_at bs n h.1 (omega (arith, less))

-- each mark of a run that is all requested
all_true : {W : Type 0} (t : Run W) → AllTrue (asked_in (all_asked t))
all_true runs.stop = tt
all_true (runs.act e r) = (refl, all_true r)
all_true (runs.child k v u r) = (refl, true_both (asked_in (all_asked u)) (asked_in (all_asked r)) (all_true u) (all_true r))

-- ---- the course of a plan that the run is like

module _ (W V : Type 0) (M : Instance → MonoidStructure V) (next : W → List (Deed W) → Option (Ask W)) (same : W → W → Bool) where
  from : (w : W) (past : List (Deed W)) (memory : Cell → ℤ) (views : Instance → V) (t u : Run W) → IsLikeRun same t u
      → Behaves W (follows next) w past u → IsSerial u memory → IsSerialViews M u views → IsCourse W V M next same w past memory views t (all_asked u)
  from w past memory views runs.stop runs.stop h b s v = tt
  from w past memory views runs.stop (runs.act e r) h b s v = absurd h
  from w past memory views runs.stop (runs.child k x d r) h b s v = absurd h
  from w past memory views (runs.act e r) runs.stop h b s v = absurd h
  from w past memory views (runs.act e r) (runs.child k x d q) h b s v = absurd h
  from w past memory views (runs.act e r) (runs.act x q) h b s v = (
    record { like = h.0; made = λ _. (b.0, s.0, v.0); kept = λ z. absurd (cc z); only = λ _ _ _. refl },
    from w (past ++ Does x ∷ []) (λ c. put x c (memory c)) (λ i. on_view (M i) i x (views i)) r q h.1 b.1 s.1 v.1,
  )
  from w past memory views (runs.child k z d r) runs.stop h b s v = absurd h
  from w past memory views (runs.child k z d r) (runs.act e q) h b s v = absurd h
  from w past memory views (runs.child k z d r) (runs.child j y u q) h b s v = (
    record { how = h.0; fits = h.1; made = λ _. b.0; kept = λ z. absurd (cc z); only = λ _ _ _. refl },
    from y [] memory views d u h.2 b.1 s.0 v.0,
    subst (λ (x : Run W). IsCourse W V M next same w (past ++ Invokes j y ∷ []) (λ c. value_after x c (memory c)) (λ i. view_after (M i) i x (views i)) r (all_asked q)) (sym (run_all u))
        (from w (past ++ Invokes j y ∷ []) (λ c. value_after u c (memory c)) (λ i. view_after (M i) i u (views i)) r q h.3 b.2 s.1 v.1),
  )

  like_courses : (w : W) (memory : Cell → ℤ) (views : Instance → V) (t u : Run W) → IsLikeRun same t u → IsSerialRunFrom W V M next same w memory views u
      → IsCourse W V M next same w [] memory views t (all_asked u)
  like_courses w memory views t u like h = from w [] memory views t u like h.behaves h.reads h.values

  -- a course is like its plan's run, whatever is requested
  course_like : (w : W) (past : List (Deed W)) (memory : Cell → ℤ) (views : Instance → V) (t : Run W) (c : Course W)
      → IsCourse W V M next same w past memory views t c → IsLikeRun same t (run_of c)
  course_like w past memory views runs.stop stop h = tt
  course_like w past memory views runs.stop (act b e c) h = absurd h
  course_like w past memory views runs.stop (child b k v u c) h = absurd h
  course_like w past memory views (runs.act e r) stop h = absurd h
  course_like w past memory views (runs.act e r) (child b k v u c) h = absurd h
  course_like w past memory views (runs.act e r) (act b x c) h =
      let m = h.0 in
      (m.like, course_like w (past ++ Does x ∷ []) (λ i. put x i (memory i)) (λ i. on_view (M i) i x (views i)) r c h.1)
  course_like w past memory views (runs.child k v u r) stop h = absurd h
  course_like w past memory views (runs.child k v u r) (act b e c) h = absurd h
  course_like w past memory views (runs.child k v u r) (child b j y d c) h =
      let m = h.0 in (
        m.how,
        m.fits,
        course_like y [] memory views u d h.1,
        course_like w (past ++ Invokes j y ∷ []) (λ i. value_after (run_of d) i (memory i)) (λ i. view_after (M i) i (run_of d) (views i)) r c h.2,
      )

-- ---- for the language

pub like_departs_nowhere : LikeRunsDepartNowhere
like_departs_nowhere p inputs others r es opening is are r' es' outcome made like q departs =
    let t = named p r in
    let u = named p r' in
    let serial = named_runs_are_serial p others r' es' outcome is.named is.words are made in
    let course = like_courses FrameEnv View monoid_of (next p others) (same_frame p) (first_env p) (opening_values p others) (unit_of monoid_of) t u like serial in
    let same : all_asked u ≡ course_on p others t = (programs_have_one p others t).1 (all_asked u) course in
    let marks : AllTrue (asked_in (course_on p others t)) = subst (λ (c : Course FrameEnv). AllTrue (asked_in c)) same (all_true u) in
    let many = written_long (cell_number p r) (instance_number p r) (trace (run_of (course_on p others t))) _ (written p inputs r es opening is others are) ∙ long (course_on p others t) in
    let place = departs.place in
    let low = place.0 in
    let high : q ≤ length (with_values es (trace (run_of (course_on p others t)))) = place.1 in
    departs.differs (true_at (asked_in (course_on p others t)) (q - 1) marks (omega (arith, low, high, many)))

pub along_are_like : RunsAlongAreLike
along_are_like p inputs others r es opening is are orderly nowhere r' es' outcome serial =
    let t = named p r in
    let c = course_on p others t in
    let ran = inputs_run_along p inputs others r es opening is are orderly nowhere in
    let only = ran.only r' es' outcome serial in
    let like = course_like FrameEnv View monoid_of (next p others) (same_frame p) (first_env p) [] (opening_values p others) (unit_of monoid_of) t c (programs_have_one p others t).0 in
    subst (IsLikeRun (same_frame p) t) (sym only.0) like
