-- Along a course the views by names are those by numbers, and each requested value is its view's
-- number: `course_numbers`.
--
-- - `AtActivity`: at each `end` of a plan's run its own frame is the current one, and retires its
--   own reducers;
-- - `IsSameFrame`: a frame of the course and the plan's have one name and one list of own reducers;
-- - `valued_numbers`: the plan's list with the course's values is the course by numbers;
-- - `felt_tied`: what an event makes of the views by names and by numbers.
use Rattle.std.proofs.Common.{◌≡◌, ◌⊎◌, inl, inr, ℕ, suc, ◌+◌, ℤ, eqb, Bool, true, false, cond, IsTrue, List, [], ◌∷◌, ◌++◌, length, slice_get, Option, Some, None, refl, sym, ap, ap₂, ◌∙◌, subst, arith, eqb-true, length-append}
use Rattle.std.proofs.lemmas.Bool.{and_parts, cases_Bool, false≢true}
use Rattle.cilk_types.specs.Word.{IsWord}
use Rattle.cilk_types.specs.declared.event.Event as numbers
use Rattle.cilk_types.specs.declared.event.Event.TheVariants as events
use Rattle.cilk_types.specs.declared.invocation.Invocation.{Invocation}
use Rattle.cilk_types.specs.declared.invocation.Invocation.TheVariants.{Call, Spawn}
use Rattle.cilk_types.specs.declared.limits.TheConstants.{MAX_TICKS}
use Rattle.cilk_monoid.specs.declared.kind.MonoidKind.{MonoidKind}
use Rattle.cilk_monoid.specs.Kinds.{structure_of}
use Rattle.cilk_monoid.specs.Lawful.{lawful}
use Rattle.cilk_monoid.specs.Ranges as ranges
use Rattle.cilk_monoid.specs.Values.{ViewValue}
use Rattle.cilk_monoid.proofs.RangeLaws.{same_from_true, true_from_same}
use Rattle.cilk_monoid.proofs.SameKinds.{kind_itself}
use Rattle.cilk_program.specs.declared.ask.Ask as language
use Rattle.cilk_program.specs.declared.ask.Ask.TheVariants as asks
use Rattle.cilk_program.specs.declared.ask.Callee.{Callee}
use Rattle.cilk_program.specs.declared.ask.Callee.TheVariants as callees
use Rattle.cilk_program.specs.declared.program.Body.{Body}
use Rattle.cilk_program.specs.Inside.{body_of, CalleeIsFit, CalleeIsThere, AskIsThere}
use Rattle.cilk_program.specs.SerialRun as serial
use Rattle.cilk_program.specs.SerialRun.{own_reducers}
use Rattle.cilk_program.specs.Syntax.{Source, function_at}
use Rattle.cilk_program.specs.WellNamed.{is_kind, is_well_named}
use Rattle.cilk_program.proofs.Asked.{asks_there}
use Rattle.cilk_shared.specs.declared.reducers.Reducers.{Reducers}
use Rattle.cilk_shared.specs.Reducers.{own, kind_in, ends_from, retired, entered}
use Rattle.cilk_determinacy.specs.Runs.{Name, same_name, Instance, Output, Reducer, same_instance, has_instance, Ask, Invoke, End, Event, Reads, Writes, Syncs, Ends, Passes, Begins, Resumes, Creates, Updates, Sets, Values, Prints, Cell, Deed, Does, Invokes, Run}
use Rattle.cilk_determinacy.specs.Runs as runs
use Rattle.cilk_determinacy.specs.Machine.{started, put}
use Rattle.cilk_determinacy.specs.Monoids.{on_view}
use Rattle.cilk_determinacy.specs.Serial.{value_after}
use Rattle.cilk_determinacy.specs.Traces.{trace, Due, begin_due, resume_due, neither_due, IsFramed}
use Rattle.cilk_determinacy.specs.Views.{view_after, IsViewRight}
use Rattle.cilk_determinacy.proofs.Basics.{same_name-eq, same_instance-refl, same_instance-eq}
use Rattle.cilk_determinacy.specs.FrameEnvMachine.{named_ask, answers_of, has_ended, asked_after, next, retired_from, retired_by}
use Rattle.cilk_determinacy.specs.Reducers.{View, value_of, kind_of, monoid_of}
use Rattle.cilk_determinacy.specs.FrameEnvs.{FrameEnv, child_env, before_own}
use Rattle.cilk_determinacy.specs.Numbers.{all_reducers, frame_number, instance_number, start_event, numbered_event, numbered_events, HasCell, HasInstance, EventIsHere, AreHere, cell_number}
use Rattle.cilk_determinacy.proofs.Numbers.{one_to_one}
use Rattle.cilk_replay.specs.InputCourses.{Course, stop, act, child, run_of, asked_in, IsLike, IsMadeFor, IsStartedFor, IsCourse}
use Rattle.cilk_replay.specs.Frames.{same_body, same_frame}
use Rattle.cilk_replay.specs.Lists.{with_value, with_values}
use Rattle.cilk_replay.proofs.CourseWords.{EventWords, RunWords}
use Rattle.cilk_threads.specs.Tables.{AreReducersOf, HaveTheirKinds}
use Rattle.cilk_threads.proofs.AskedNumbers.{Held, felt, held_after, held_both, IsNumberOf, AreAskedNumbers, numbers_both}
use Rattle.cilk_threads.proofs.Lasting.{last_from, RetiresOwn, of_frame, many_own, own_in_all}
use Rattle.cilk_threads.proofs.Opened.{IsFrameOf, AllFrames, there_fit, there_no_root}
use Rattle.cilk_threads.proofs.Tabled.{no_output}

-- ---- the requests of a frame
record IsInvoked (a : language.Ask) (x : FrameEnv) : Type 0 where
  how : Invocation
  callee : Callee
  invokes : a ≡ asks.Invoke how callee
  started_as : x.callee ≡ callee

module _ (p : Source) (w : FrameEnv) (k : ℕ) where
  ends_with : (a : language.Ask) (v : ℤ) (gone : List Instance) → named_ask p w k a ≡ End v gone → gone ≡ retired_by p w
  ends_with (asks.End x) v gone e = let z : retired_by p w ≡ gone = cc e in sym z
  ends_with a v gone e = absurd (cc e)

  starts_with : (a : language.Ask) (how : Invocation) (x : FrameEnv) → named_ask p w k a ≡ Invoke how x → IsInvoked a x
  starts_with (asks.Invoke j c) how x e =
      let z : child_env p w k c ≡ x = cc e in
      record { how = j; callee = c; invokes = refl; started_as = ap (λ (y : FrameEnv). y.callee) (sym z) }
  starts_with a how x e = absurd (cc e)

picked : (b : Bool) (x y : Ask FrameEnv) → cond b None (Some x) ≡ Some y → x ≡ y
picked true x y e = absurd (cc e)
picked false x y e = cc e

-- ---- frames of a course and of the plan
abbrev pub IsThere : Source → Callee → Type 0
IsThere p c = (b : Body) × CalleeIsThere p b c

abbrev pub StartsThere : Source → Run FrameEnv → Type 0
StartsThere p runs.stop = Unit {0}
StartsThere p (runs.act e t) = StartsThere p t
StartsThere p (runs.child k w u t) = IsThere p w.callee × StartsThere p u × StartsThere p t

pub record IsSameFrame (p : Source) (v w : FrameEnv) : Type 0 where
  pub name : w.name ≡ v.name
  pub own : own_reducers p w.callee ≡ own_reducers p v.callee
  pub before : before_own p w.callee ≡ before_own p v.callee
  pub fit : CalleeIsFit p w.callee

same_own : (p : Source) (c d : Callee) → (c ≡ callees.Root → ⊥) → (d ≡ callees.Root → ⊥) → same_body (body_of p c) (body_of p d) ≡ true
    → (own_reducers p d ≡ own_reducers p c) × (before_own p d ≡ before_own p c)
same_own p callees.Root d h g e = absurd (h refl)
same_own p c callees.Root h g e = absurd (g refl)
same_own p (callees.Function c) (callees.Function d) h g e =
    let same : c.function ≡ d.function = eqb-true c.function d.function e in
    (ap (λ (n : ℕ). let f = function_at p n in f.reducers) (sym same), refl)
same_own p (callees.Loop l) (callees.Loop m) h g e = (refl, refl)
same_own p (callees.Function c) (callees.Loop m) h g e = absurd (false≢true e)
same_own p (callees.Loop l) (callees.Function d) h g e = absurd (false≢true e)

-- the same function or loop, under one name
alike_frames : (p : Source) (v w : FrameEnv) → IsThere p v.callee → IsThere p w.callee → same_frame p v w ≡ true → IsSameFrame p v w
alike_frames p v w here there same =
    let both = and_parts (same_name v.name w.name) (same_body (body_of p v.callee) (body_of p w.callee)) same in
    let own = same_own p v.callee w.callee (there_no_root p here.0 v.callee here.1) (there_no_root p there.0 w.callee there.1) both.1 in
    record { name = sym (same_name-eq v.name w.name both.0); own = own.0; before = own.1; fit = there_fit p there.0 w.callee there.1 }

retired_alike : (p : Source) (v w : FrameEnv) → IsSameFrame p v w → retired_by p w ≡ retired_by p v
retired_alike p v w h =
    let from = λ (b : ℕ) (name : Name) (ks : List MonoidKind). retired_from (λ (n : ℕ) (k : MonoidKind). Reducer name (b + n) k) 0 ks in
    ap (λ (b : ℕ). from b w.name (own_reducers p w.callee)) h.before
    ∙ ap (λ (name : Name). from (before_own p v.callee) name (own_reducers p w.callee)) h.name
    ∙ ap (from (before_own p v.callee) v.name) h.own

module _ (p : Source) (inputs : List ℤ) (well : IsTrue (is_well_named p)) where
  child_there : (w : FrameEnv) (past : List (Deed FrameEnv)) (k k' : Invocation) (v v' : FrameEnv) (b : Bool)
      → IsStartedFor FrameEnv View monoid_of (next p inputs) (same_frame p) w past k k' v v' b → CalleeIsFit p w.callee → IsThere p v.callee → IsThere p v'.callee
  child_there w past k k' v v' false h fit there = subst (λ (x : FrameEnv). IsThere p x.callee) (sym (h.kept refl)) there
  child_there w past k k' v v' true h fit there =
      let a = (asked_after p inputs w past).ask in
      let is = starts_with p w (suc (started past)) a k' v' (picked (has_ended past) (named_ask p w (suc (started past)) a) (Invoke k' v') (h.made refl)) in
      let asked = subst (AskIsThere p w.callee) is.invokes (asks_there p well w.callee fit inputs (answers_of past) MAX_TICKS) in
      (body_of p w.callee, subst (CalleeIsThere p (body_of p w.callee)) (sym is.started_as) asked)

  child_alike : (w : FrameEnv) (past : List (Deed FrameEnv)) (k k' : Invocation) (v v' : FrameEnv) (b : Bool)
      → IsStartedFor FrameEnv View monoid_of (next p inputs) (same_frame p) w past k k' v v' b → CalleeIsFit p w.callee → IsThere p v.callee → IsSameFrame p v v'
  child_alike w past k k' v v' b h fit there = alike_frames p v v' there (child_there w past k k' v v' b h fit there) h.fits

module _ (p : Source) (run : serial.Transcript) where
  -- an `end` is of the current frame, and retires what it created for itself
  abbrev pub IsEndedIn : ℕ → FrameEnv → Event → Type 0
  IsEndedIn g w (Reads c v) = Unit {0}
  IsEndedIn g w (Writes c v) = Unit {0}
  IsEndedIn g w Syncs = Unit {0}
  IsEndedIn g w (Ends v gone) = (g ≡ frame_number p run w.name) × (gone ≡ retired_by p w)
  IsEndedIn g w (Passes m) = Unit {0}

  abbrev pub AtActivity : ℕ → FrameEnv → Run FrameEnv → Type 0
  AtActivity g w runs.stop = Unit {0}
  AtActivity g w (runs.act e t) = IsEndedIn g w e × AtActivity (entered (numbered_event p run w.name e) g) w t
  AtActivity g w (runs.child k x u t) = ((f : ℕ) → AtActivity f x u) × ((f : ℕ) → AtActivity f w t)

  abbrev pub Since : Due → ℕ → FrameEnv → Type 0
  Since begin_due g w = Unit {0}
  Since resume_due g w = Unit {0}
  Since neither_due g w = g ≡ frame_number p run w.name

  pub at_hand : (due : Due) (g : ℕ) (w : FrameEnv) (t : Run FrameEnv) → IsFramed due t → RetiresOwn p w t → Since due g w → AtActivity g w t
  at_hand begin_due g w (runs.act (Passes Begins) t) f x h = (tt, at_hand neither_due (frame_number p run w.name) w t f x refl)
  at_hand resume_due g w (runs.act (Passes Resumes) t) f x h = (tt, at_hand neither_due (frame_number p run w.name) w t f x refl)
  at_hand neither_due g w (runs.act (Reads c v) t) f x h = (tt, at_hand neither_due g w t f x h)
  at_hand neither_due g w (runs.act (Writes c v) t) f x h = (tt, at_hand neither_due g w t f x h)
  at_hand neither_due g w (runs.act Syncs t) f x h = (tt, at_hand neither_due g w t f x h)
  at_hand neither_due g w (runs.act (Ends v gone) t) f x h = ((h, x.0), subst (AtActivity g w) (sym f) tt)
  at_hand neither_due g w (runs.act (Passes (Creates i)) t) f x h = (tt, at_hand neither_due g w t f x h)
  at_hand neither_due g w (runs.act (Passes (Updates i v)) t) f x h = (tt, at_hand neither_due g w t f x h)
  at_hand neither_due g w (runs.act (Passes (Sets i v)) t) f x h = (tt, at_hand neither_due g w t f x h)
  at_hand neither_due g w (runs.act (Passes (Values i v)) t) f x h = (tt, at_hand neither_due g w t f x h)
  at_hand neither_due g w (runs.act (Passes (Prints v)) t) f x h = (tt, at_hand neither_due g w t f x h)
  at_hand neither_due g w (runs.child k c u t) f x h = (λ g'. at_hand begin_due g' c u f.0 x.0 tt, λ g'. at_hand resume_due g' w t f.1 x.1 tt)
  at_hand due g w t f x h = absurd f

  -- ---- a course's event is like the plan's
  here_like : (e x : Event) → IsLike e x → EventIsHere p run e → EventIsHere p run x
  here_like (Reads c v) (Reads d w) h k = subst (HasCell p run) h k
  here_like (Writes c v) (Writes d w) h k = subst (HasCell p run) h k
  here_like Syncs Syncs h k = tt
  here_like (Ends v gone) (Ends w gone') h k = tt
  here_like (Passes Begins) (Passes Begins) h k = tt
  here_like (Passes Resumes) (Passes Resumes) h k = tt
  here_like (Passes (Creates i)) (Passes (Creates j)) h k = subst (HasInstance p run) h k
  here_like (Passes (Updates i x)) (Passes (Updates j y)) h k = subst (HasInstance p run) h k
  here_like (Passes (Sets i x)) (Passes (Sets j y)) h k = subst (HasInstance p run) h k
  here_like (Passes (Values i x)) (Passes (Values j y)) h k = subst (HasInstance p run) h k
  here_like (Passes (Prints x)) (Passes (Prints y)) h k = tt
  here_like e x h k = absurd h

  entered_like : (name named : Name) → name ≡ named → (g : ℕ) (e x : Event) → IsLike e x → entered (numbered_event p run named e) g ≡ entered (numbered_event p run name x) g
  entered_like name named same g (Reads c v) (Reads d w) h = refl
  entered_like name named same g (Writes c v) (Writes d w) h = refl
  entered_like name named same g Syncs Syncs h = refl
  entered_like name named same g (Ends v gone) (Ends w gone') h = refl
  entered_like name named same g (Passes Begins) (Passes Begins) h = ap (frame_number p run) (sym same)
  entered_like name named same g (Passes Resumes) (Passes Resumes) h = ap (frame_number p run) (sym same)
  entered_like name named same g (Passes (Creates i)) (Passes (Creates j)) h = refl
  entered_like name named same g (Passes (Updates i x)) (Passes (Updates j y)) h = refl
  entered_like name named same g (Passes (Sets i x)) (Passes (Sets j y)) h = refl
  entered_like name named same g (Passes (Values i x)) (Passes (Values j y)) h = refl
  entered_like name named same g (Passes (Prints x)) (Passes (Prints y)) h = refl
  entered_like name named same g e x h = absurd h

  valued : (name named : Name) → name ≡ named → (e x : Event) → IsLike e x → with_value {W = FrameEnv} (numbered_event p run named e) (Does x) ≡ numbered_event p run name x
  valued name named same (Reads c v) (Reads d w) h = ap (λ (k : Cell). events.Read (cell_number p run k) w) h
  valued name named same (Writes c v) (Writes d w) h = ap (λ (k : Cell). events.Write (cell_number p run k) w) h
  valued name named same Syncs Syncs h = refl
  valued name named same (Ends v gone) (Ends w gone') h = refl
  valued name named same (Passes Begins) (Passes Begins) h = ap (λ (n : Name). events.Begin (frame_number p run n)) (sym same)
  valued name named same (Passes Resumes) (Passes Resumes) h = ap (λ (n : Name). events.Resume (frame_number p run n)) (sym same)
  valued name named same (Passes (Creates i)) (Passes (Creates j)) h = ap (λ (k : Instance). events.Create (instance_number p run k)) h
  valued name named same (Passes (Updates i x)) (Passes (Updates j y)) h = ap (λ (k : Instance). events.Update (instance_number p run k) y) h
  valued name named same (Passes (Sets i x)) (Passes (Sets j y)) h = ap (λ (k : Instance). events.Set (instance_number p run k) y) h
  valued name named same (Passes (Values i x)) (Passes (Values j y)) h = ap (λ (k : Instance). events.Value (instance_number p run k) y) h
  valued name named same (Passes (Prints x)) (Passes (Prints y)) h = refl
  valued name named same e x h = absurd h

  started_valued : (k k' : Invocation) (f f' : ℕ) (v : FrameEnv) → k ≡ k' → f' ≡ f → with_value (start_event k f) (Invokes k' v) ≡ start_event k' f'
  started_valued Call Call f f' v e same = ap events.Call (sym same)
  started_valued Spawn Spawn f f' v e same = ap events.Spawn (sym same)
  started_valued Call Spawn f f' v e same = absurd (cc e)
  started_valued Spawn Call f f' v e same = absurd (cc e)

with_both : (es xs : List numbers.Event) (ds ms : List (Deed FrameEnv)) → length es ≡ length ds → with_values (es ++ xs) (ds ++ ms) ≡ with_values es ds ++ with_values xs ms
with_both [] xs [] ms e = refl
with_both [] xs (d ∷ ds) ms e = absurd (omega (arith, e))
with_both (x ∷ es) xs [] ms e = absurd (omega (arith, e))
with_both (x ∷ es) xs (d ∷ ds) ms e = let less : length es ≡ length ds = omega (arith, e) in ap (λ (l : List numbers.Event). with_value x d ∷ l) (with_both es xs ds ms less)

module _ (p : Source) (run : serial.Transcript) (r : Reducers) (table : AreReducersOf p run r) (kinds : HaveTheirKinds p run r) where
  -- views by names and by numbers are the same
  abbrev pub Tied : (Instance → View) → Held → Type 0
  Tied views h = (i : Instance) → HasInstance p run i → value_of (kind_of i) (views i) ≡ h (instance_number p run i)

  apart : (i j : Instance) → HasInstance p run i → HasInstance p run j → same_instance i j ≡ ranges.same_instance (instance_number p run i) (instance_number p run j)
  apart i j h g = by (cases_Bool (ranges.same_instance (instance_number p run i) (instance_number p run j)))
    where
      differ : ranges.same_instance (instance_number p run i) (instance_number p run j) ≡ false → (same_instance i j ≡ true) ⊎ (same_instance i j ≡ false) → same_instance i j ≡ false
      differ fails (inl holds) =
          absurd (false≢true (sym fails ∙ true_from_same (instance_number p run i) (instance_number p run j) (ap (instance_number p run) (same_instance-eq i j holds))))
      differ fails (inr other) = other

      by : (ranges.same_instance (instance_number p run i) (instance_number p run j) ≡ true) ⊎ (ranges.same_instance (instance_number p run i) (instance_number p run j) ≡ false)
          → same_instance i j ≡ ranges.same_instance (instance_number p run i) (instance_number p run j)
      by (inl holds) =
          let one = one_to_one p run in
          let e : i ≡ j = one.reducers i j h g (same_from_true (instance_number p run i) (instance_number p run j) holds) in
          subst (λ (j : Instance). same_instance i j ≡ true) e (same_instance-refl i) ∙ sym holds
      by (inr fails) = differ fails (cases_Bool (same_instance i j)) ∙ sym fails

  chosen : (k : MonoidKind) (b c : Bool) → b ≡ c → (x y : View) (x' y' : ViewValue) → value_of k x ≡ x' → value_of k y ≡ y' → value_of k (cond b x y) ≡ cond c x' y'
  chosen k true true e x y x' y' h g = h
  chosen k false false e x y x' y' h g = g
  chosen k true false e x y x' y' h g = absurd (cc e)
  chosen k false true e x y x' y' h g = absurd (cc e)

  gone_first : (b c : Bool) (u x : View) → cond (cond b true c) u x ≡ cond c u (cond b u x)
  gone_first true true u x = refl
  gone_first true false u x = refl
  gone_first false true u x = refl
  gone_first false false u x = refl

  unit_is : (i : Instance) → HasInstance p run i → value_of (kind_of i) ((monoid_of i).unit) ≡ (structure_of (kind_in r (instance_number p run i))).unit
  unit_is i known = ap (λ (k : MonoidKind). (structure_of k).unit) (sym (kinds i known))

  -- a frame's own reducers from one on are retired
  ends_tied : (name : Name) (b : ℕ) (i : Instance) → HasInstance p run i → (n : ℕ) (ks : List MonoidKind)
      → ((m : ℕ) (k : MonoidKind) → slice_get ks m ≡ Some k → HasInstance p run (Reducer name (b + (n + m)) k)) → (x : View) (y : ViewValue) → value_of (kind_of i) x ≡ y
      → value_of (kind_of i) (cond (has_instance (retired_from (λ (n : ℕ) (k : MonoidKind). Reducer name (b + n) k) n ks) i) ((monoid_of i).unit) x)
      ≡ ranges.view_after (structure_of (kind_in r (instance_number p run i))) (instance_number p run i) (ends_from (frame_number p run name) (suc (b + n)) (length ks)) y
  ends_tied name b i known n [] each x y e = e
  ends_tied name b i known n (k ∷ ks) each x y e =
      let j = instance_number p run i in
      let S = structure_of (kind_in r j) in
      let f = frame_number p run name in
      let one : Instance = Reducer name (b + n) k in
      let others = retired_from (λ (n : ℕ) (k : MonoidKind). Reducer name (b + n) k) (suc n) ks in
      let z : b + (n + 0) ≡ b + n = omega arith in
      let s : suc (b + suc n) ≡ suc (suc (b + n)) = omega arith in
      let here : HasInstance p run one = subst (λ (m : ℕ). HasInstance p run (Reducer name m k)) z (each 0 k refl) in
      let y' : ViewValue = cond (ranges.same_instance (instance_number p run one) j) S.unit y in
      let x' : View = cond (same_instance one i) ((monoid_of i).unit) x in
      let first : value_of (kind_of i) x' ≡ y' =
      chosen (kind_of i) (same_instance one i) (ranges.same_instance (instance_number p run one) j) (apart one i here known) ((monoid_of i).unit) x S.unit y (unit_is i known) e in
      let rest = ends_tied name b i known (suc n) ks (λ m q at. let t : b + (n + suc m) ≡ b + (suc n + m) = omega arith in subst (λ (a : ℕ). HasInstance p run (Reducer name a q)) t (each (suc m) q at)) x' y' first in
      ap (value_of (kind_of i)) (gone_first (same_instance one i) (has_instance others i) ((monoid_of i).unit) x)
      ∙ rest
      ∙ ap (λ (a : ℕ). ranges.view_after S j (ends_from f a (length ks)) y') s

  frame_tied : (v : FrameEnv) (u : Run FrameEnv) → IsFrameOf p run v u → (g : ℕ) → g ≡ frame_number p run v.name → (gone : List Instance) → gone ≡ retired_by p v
      → (i : Instance) → HasInstance p run i → (x : View) (y : ViewValue) → value_of (kind_of i) x ≡ y
      → value_of (kind_of i) (cond (has_instance gone i) ((monoid_of i).unit) x)
      ≡ ranges.view_after (structure_of (kind_in r (instance_number p run i))) (instance_number p run i) (retired g (own r g)) y
  frame_tied v u frame g at gone is i known x y e =
      let f = frame_number p run v.name in
      let b = before_own p v.callee in
      let j = instance_number p run i in
      let S = structure_of (kind_in r j) in
      let told = of_frame p run r table kinds v u frame in
      let z : b + 0 ≡ b = omega arith in
      let ends : retired f (own r f) ≡ ends_from f (suc (b + 0)) (length (own_reducers p v.callee)) =
      ap (retired f) told.table_is ∙ ap (ends_from f (suc b)) (many_own p run r table kinds v) ∙ ap (λ (n : ℕ). ends_from f (suc n) (length (own_reducers p v.callee))) (sym z) in
      ap (λ (l : List Instance). value_of (kind_of i) (cond (has_instance l i) ((monoid_of i).unit) x)) is
      ∙ ends_tied v.name b i known 0 (own_reducers p v.callee) (λ m k get. mine m k get) x y e
      ∙ ap (λ l. ranges.view_after S j l y) (sym ends)
      ∙ ap (λ (n : ℕ). ranges.view_after S j (retired n (own r n)) y) (sym at)
    where
      mine : (m : ℕ) (k : MonoidKind) → slice_get (own_reducers p v.callee) m ≡ Some k → HasInstance p run (Reducer v.name (before_own p v.callee + (0 + m)) k)
      mine m k get =
          let t : before_own p v.callee + m ≡ before_own p v.callee + (0 + m) = omega arith in
          record {
            here = frame.here;
            callee = v.callee;
            runs = frame.runs;
            declared = subst (λ (o : Option MonoidKind). IsTrue (is_kind o k)) (sym (ap (slice_get (all_reducers p v.callee)) (sym t) ∙ own_in_all p run r table kinds v m k get)) (kind_itself k);
          }

  -- after a set the view is that of one word
  set_is : (k : MonoidKind) (x : ℤ) → IsWord x → (structure_of k).combine ((structure_of k).unit) ((structure_of k).single x) ≡ (structure_of k).single x
  set_is k x w = let l = lawful k in l.left_neutral ((structure_of k).single x) (l.single_member x w)

  felt_tied : (v : FrameEnv) (u : Run FrameEnv) → IsFrameOf p run v u → (g : ℕ) (name : Name) (e : Event) (views : Instance → View) (h : Held)
      → IsEndedIn p run g v e → EventIsHere p run e → EventWords e → Tied views h
      → (let n = numbered_event p run name e in Tied (λ i. on_view (monoid_of i) i e (views i)) (felt r (entered n g) n h))
  felt_tied v u frame g name (Reads c x) views h ended here w tied = tied
  felt_tied v u frame g name (Writes c x) views h ended here w tied = tied
  felt_tied v u frame g name Syncs views h ended here w tied = tied
  felt_tied v u frame g name (Ends x gone) views h ended here w tied =
      λ i known. frame_tied v u frame g ended.0 gone ended.1 i known (views i) (h (instance_number p run i)) (tied i known)
  felt_tied v u frame g name (Passes Begins) views h ended here w tied = tied
  felt_tied v u frame g name (Passes Resumes) views h ended here w tied = tied
  felt_tied v u frame g name (Passes (Creates d)) views h ended here w tied =
      λ i known.
      let j = instance_number p run i in
      let S = structure_of (kind_in r j) in
      chosen (kind_of i) (same_instance d i) (ranges.same_instance (instance_number p run d) j) (apart d i here known) ((monoid_of i).unit) (views i) S.unit (h j) (unit_is i known) (tied i known)
  felt_tied v u frame g name (Passes (Updates d x)) views h ended here w tied =
      λ i known.
      let j = instance_number p run i in
      let S = structure_of (kind_in r j) in
      let M = monoid_of i in
      let more = ap₂ (λ (k : MonoidKind) (y : ViewValue). (structure_of k).combine y ((structure_of k).single x)) (sym (kinds i known)) (tied i known) in
      chosen (kind_of i) (same_instance d i) (ranges.same_instance (instance_number p run d) j) (apart d i here known) (M.combine (views i) (M.single x)) (views i) (S.combine (h j) (S.single x)) (h j) more (tied i known)
  felt_tied v u frame g name (Passes (Sets d x)) views h ended here w tied =
      λ i known.
      let j = instance_number p run i in
      let S = structure_of (kind_in r j) in
      let M = monoid_of i in
      let one = set_is (kind_of i) x w ∙ ap (λ (k : MonoidKind). (structure_of k).single x) (sym (kinds i known)) in
      chosen (kind_of i) (same_instance d i) (ranges.same_instance (instance_number p run d) j) (apart d i here known) (M.single x) (views i) (S.single x) (h j) one (tied i known)
  felt_tied v u frame g name (Passes (Values d x)) views h ended here w tied = tied
  felt_tied v u frame g name (Passes (Prints x)) views h ended here w tied = λ i known. by i known
    where
      by : (i : Instance) → HasInstance p run i
          → value_of (kind_of i) (on_view (monoid_of i) i (Passes (Prints x)) (views i)) ≡ felt r g (events.Print x) h (instance_number p run i)
      by Output known = absurd known
      by (Reducer m n k) known =
          let j = instance_number p run (Reducer m n k) in
          let S = structure_of (kind_in r j) in
          tied (Reducer m n k) known ∙ ap (λ (b : Bool). cond b (S.combine (h j) (S.single x)) (h j)) (sym (no_output (eqb 0 (frame_number p run m)) n))

  number_is : (name : Name) (e : Event) (views : Instance → View) (h : Held) → EventIsHere p run e → IsViewRight monoid_of e views → Tied views h → IsNumberOf r (numbered_event p run name e) h
  number_is name (Reads c x) views h here right tied = tt
  number_is name (Writes c x) views h here right tied = tt
  number_is name Syncs views h here right tied = tt
  number_is name (Ends x gone) views h here right tied = tt
  number_is name (Passes Begins) views h here right tied = tt
  number_is name (Passes Resumes) views h here right tied = tt
  number_is name (Passes (Creates d)) views h here right tied = tt
  number_is name (Passes (Updates d x)) views h here right tied = tt
  number_is name (Passes (Sets d x)) views h here right tied = tt
  number_is name (Passes (Prints x)) views h here right tied = tt
  number_is name (Passes (Values d x)) views h here right tied =
      let S = structure_of (kind_of d) in
      let same = ap (λ (k : MonoidKind). (structure_of k).number (h (instance_number p run d))) (sym (kinds d here)) in
      right ∙ ap S.number (tied d here) ∙ same

  module _ (inputs : List ℤ) (well : IsTrue (is_well_named p)) where
    abbrev pub IsCourseOf : FrameEnv → List (Deed FrameEnv) → (Cell → ℤ) → (Instance → View) → Run FrameEnv → Course FrameEnv → Type 0
    IsCourseOf = IsCourse FrameEnv View monoid_of (next p inputs) (same_frame p)

    abbrev IsMadeOf : FrameEnv → List (Deed FrameEnv) → (Cell → ℤ) → (Instance → View) → Event → Event → Bool → Type 0
    IsMadeOf = IsMadeFor FrameEnv View monoid_of (next p inputs) (same_frame p)

    ended_too : (v w : FrameEnv) → IsSameFrame p v w → (past : List (Deed FrameEnv)) (memory : Cell → ℤ) (views : Instance → View) (g : ℕ) (e x : Event) (b : Bool)
        → IsMadeOf w past memory views e x b → IsEndedIn p run g v e → IsEndedIn p run g v x
    ended_too v w same past memory views g e (Reads c y) b h ended = tt
    ended_too v w same past memory views g e (Writes c y) b h ended = tt
    ended_too v w same past memory views g e Syncs b h ended = tt
    ended_too v w same past memory views g e (Passes m) b h ended = tt
    ended_too v w same past memory views g (Ends n gone) (Ends y left) true h ended =
        let a = (asked_after p inputs w past).ask in
        let made = h.made refl in
        let asking = picked (has_ended past) (named_ask p w (suc (started past)) a) (End y left) made.0 in
        (ended.0, ends_with p w (suc (started past)) a y left asking ∙ retired_alike p v w same)
    ended_too v w same past memory views g (Ends n gone) (Ends y left) false h ended =
        let kept : Ends y left ≡ Ends n gone = h.kept refl in
        let one : left ≡ gone = cc kept in
        (ended.0, one ∙ ended.1)
    ended_too v w same past memory views g e (Ends y left) b h ended = absurd h.like

    as_many : (name : Name) (w : FrameEnv) (past : List (Deed FrameEnv)) (memory : Cell → ℤ) (views : Instance → View) (t : Run FrameEnv) (c : Course FrameEnv) → IsCourseOf w past memory views t c
        → length (numbered_events p run name t) ≡ length (trace (run_of c))
    as_many name w past memory views runs.stop stop h = refl
    as_many name w past memory views runs.stop (act b x c) h = absurd h
    as_many name w past memory views runs.stop (child b j v d c) h = absurd h
    as_many name w past memory views (runs.act e t) stop h = absurd h
    as_many name w past memory views (runs.act e t) (child b j v d c) h = absurd h
    as_many name w past memory views (runs.act e t) (act b x c) h = ap suc (as_many name w (past ++ Does x ∷ []) (λ i. put x i (memory i)) (λ i. on_view (monoid_of i) i x (views i)) t c h.1)
    as_many name w past memory views (runs.child k v u t) stop h = absurd h
    as_many name w past memory views (runs.child k v u t) (act b x c) h = absurd h
    as_many name w past memory views (runs.child k v u t) (child b j x d c) h =
        let inner = as_many v.name x [] memory views u d h.1 in
        let rest = as_many name w (past ++ Invokes j x ∷ []) (λ i. value_after (run_of d) i (memory i)) (λ i. view_after (monoid_of i) i (run_of d) (views i)) t c h.2 in
        let one = length-append (numbered_events p run v.name u) (numbered_events p run name t) in
        let other = length-append (trace (run_of d)) (trace (run_of c)) in
        omega (arith, inner, rest, one, other)

    pub valued_numbers : (v w : FrameEnv) → w.name ≡ v.name → (past : List (Deed FrameEnv)) (memory : Cell → ℤ) (views : Instance → View) (t : Run FrameEnv) (c : Course FrameEnv) → IsCourseOf w past memory views t c
        → with_values (numbered_events p run v.name t) (trace (run_of c)) ≡ numbered_events p run w.name (run_of c)
    valued_numbers v w same past memory views runs.stop stop h = refl
    valued_numbers v w same past memory views runs.stop (act b x c) h = absurd h
    valued_numbers v w same past memory views runs.stop (child b j y d c) h = absurd h
    valued_numbers v w same past memory views (runs.act e t) stop h = absurd h
    valued_numbers v w same past memory views (runs.act e t) (child b j y d c) h = absurd h
    valued_numbers v w same past memory views (runs.act e t) (act b x c) h =
        ap₂ (λ (n : numbers.Event) (l : List numbers.Event). n ∷ l) (valued p run w.name v.name same e x h.0.like)
        (valued_numbers v w same (past ++ Does x ∷ []) (λ i. put x i (memory i)) (λ i. on_view (monoid_of i) i x (views i)) t c h.1)
    valued_numbers v w same past memory views (runs.child k y u t) stop h = absurd h
    valued_numbers v w same past memory views (runs.child k y u t) (act b x c) h = absurd h
    valued_numbers v w same past memory views (runs.child k y u t) (child b j x d c) h =
        let alike = and_parts (same_name y.name x.name) (same_body (body_of p y.callee) (body_of p x.callee)) h.0.fits in
        let name : x.name ≡ y.name = sym (same_name-eq y.name x.name alike.0) in
        let inner = valued_numbers y x name [] memory views u d h.1 in
        let rest = valued_numbers v w same (past ++ Invokes j x ∷ []) (λ i. value_after (run_of d) i (memory i)) (λ i. view_after (monoid_of i) i (run_of d) (views i)) t c h.2 in
        ap₂ (λ (n : numbers.Event) (l : List numbers.Event). n ∷ l) (started_valued p run k j (frame_number p run y.name) (frame_number p run x.name) x h.0.how (ap (frame_number p run) name))
        (with_both (numbered_events p run y.name u) (numbered_events p run v.name t) (trace (run_of d)) (trace (run_of c)) (as_many y.name x [] memory views u d h.1)
        ∙ ap₂ (λ (l m : List numbers.Event). l ++ m) inner rest)

    -- as many events as requests
    asked_many : (name : Name) (c : Course FrameEnv) → length (numbered_events p run name (run_of c)) ≡ length (asked_in c)
    asked_many name stop = refl
    asked_many name (act b x c) = ap suc (asked_many name c)
    asked_many name (child b j x d c) =
        let inner = asked_many x.name d in
        let rest = asked_many name c in
        let one = length-append (numbered_events p run x.name (run_of d)) (numbered_events p run name (run_of c)) in
        let other = length-append (asked_in d) (asked_in c) in
        omega (arith, inner, rest, one, other)

    -- each requested value is right, and the views at the end are the same
    abbrev pub Along : ℕ → Name → (Instance → View) → Held → Course FrameEnv → Type 0
    Along g name views h c =
        AreAskedNumbers r g h (numbered_events p run name (run_of c)) (asked_in c)
        × Tied (λ i. view_after (monoid_of i) i (run_of c) (views i)) (held_after r g (numbered_events p run name (run_of c)) h)

    child_along : (g : ℕ) (name : Name) (views : Instance → View) (h : Held) (b : Bool) (k : Invocation) (x : FrameEnv) (d c : Course FrameEnv)
        → AreAskedNumbers r g h (numbered_events p run x.name (run_of d) ++ numbered_events p run name (run_of c)) (asked_in d ++ asked_in c)
        → Tied (λ i. view_after (monoid_of i) i (run_of c) (view_after (monoid_of i) i (run_of d) (views i))) (held_after r g (numbered_events p run x.name (run_of d) ++ numbered_events p run name (run_of c)) h)
        → Along g name views h (child b k x d c)
    child_along g name views h b Call x d c are tied = ((λ yes. tt, are), tied)
    child_along g name views h b Spawn x d c are tied = ((λ yes. tt, are), tied)

    pub course_numbers : (v w : FrameEnv) (u0 : Run FrameEnv) → IsFrameOf p run v u0 → IsSameFrame p v w → (past : List (Deed FrameEnv)) (memory : Cell → ℤ) (views : Instance → View) (h : Held) (g : ℕ)
        → (t : Run FrameEnv) (c : Course FrameEnv) → IsCourseOf w past memory views t c → AtActivity p run g v t → StartsThere p t → AllFrames p run t → AreHere p run t → RunWords (run_of c)
        → Tied views h → Along g w.name views h c
    course_numbers v w u0 frame same past memory views h g runs.stop stop is at there all here words tied = (tt, tied)
    course_numbers v w u0 frame same past memory views h g runs.stop (act b x c) is at there all here words tied = absurd is
    course_numbers v w u0 frame same past memory views h g runs.stop (child b j y d c) is at there all here words tied = absurd is
    course_numbers v w u0 frame same past memory views h g (runs.act e t) stop is at there all here words tied = absurd is
    course_numbers v w u0 frame same past memory views h g (runs.act e t) (child b j y d c) is at there all here words tied = absurd is
    course_numbers v w u0 frame same past memory views h g (runs.act e t) (act b x c) is at there all here words tied =
        let n = numbered_event p run w.name x in
        let known = here_like p run e x is.0.like here.0 in
        let ended = ended_too v w same past memory views g e x b is.0 at.0 in
        let next_tied = felt_tied v u0 frame g w.name x views h ended known words.0 tied in
        let at_next = subst (λ (f : ℕ). AtActivity p run f v t) (entered_like p run w.name v.name same.name g e x is.0.like) at.1 in
        let rest = course_numbers v w u0 frame same (past ++ Does x ∷ []) (λ i. put x i (memory i)) (λ i. on_view (monoid_of i) i x (views i)) (felt r (entered n g) n h) (entered n g)
        t c is.1 at_next there all here.1 words.1 next_tied in
        ((λ yes. number_is w.name x views h known (is.0.made yes).2 tied, rest.0), rest.1)
    course_numbers v w u0 frame same past memory views h g (runs.child k y u t) stop is at there all here words tied = absurd is
    course_numbers v w u0 frame same past memory views h g (runs.child k y u t) (act b x c) is at there all here words tied = absurd is
    course_numbers v w u0 frame same past memory views h g (runs.child k y u t) (child b j x d c) is at there all here words tied =
        let alike = child_alike p inputs well w past k j y x b is.0 same.fit there.0 in
        let ones = numbered_events p run x.name (run_of d) in
        let others = numbered_events p run w.name (run_of c) in
        let inner = course_numbers y x u all.0 alike [] memory views h g u d is.1 (at.0 g) there.1 all.1 here.1 words.1 tied in
        let rest = course_numbers v w u0 frame same (past ++ Invokes j x ∷ []) (λ i. value_after (run_of d) i (memory i)) (λ i. view_after (monoid_of i) i (run_of d) (views i)) (held_after r g ones h) (last_from g ones)
        t c is.2 (at.1 (last_from g ones)) there.2 all.2 here.2 words.2 inner.1 in
        child_along g w.name views h b j x d c
        (numbers_both r g h ones others (asked_in d) (asked_in c) (asked_many x.name d) inner.0 rest.0)
        (subst (Tied (λ i. view_after (monoid_of i) i (run_of c) (view_after (monoid_of i) i (run_of d) (views i)))) (sym (held_both r g ones others h)) rest.1)
