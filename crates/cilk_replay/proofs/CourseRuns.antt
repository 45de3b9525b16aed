-- On its own input a run is its own course: `own_course`. A course in which each event is requested
-- is a serial run: `asked_is_serial`.
use Rattle.std.proofs.Common.{◌≡◌, ℤ, Bool, true, false, List, [], ◌∷◌, ◌++◌, Option, Some, None, refl, sym, ap, ◌∙◌, subst}
use Rattle.cilk_monoid.specs.Laws.{MonoidStructure}
use Rattle.cilk_determinacy.specs.Runs.{Cell, Instance, Ask, Granted, Begins, Resumes, Creates, Updates, Sets, Values, Prints, Event, Reads, Writes, Syncs, Ends, Passes, Deed, Does, Invokes, Run}
use Rattle.cilk_determinacy.specs.Runs as runs
use Rattle.cilk_determinacy.specs.Machine.{put}
use Rattle.cilk_determinacy.specs.Monoids.{on_view}
use Rattle.cilk_determinacy.specs.Serial.{value_after, IsSerial, Behaves}
use Rattle.cilk_determinacy.specs.Traces.{Due, begin_due, resume_due, neither_due, IsFramed}
use Rattle.cilk_determinacy.specs.Views.{view_after, IsSerialViews}
use Rattle.cilk_determinacy.specs.MachineTheorem.{follows}
use Rattle.cilk_replay.specs.InputCourses.{Course, stop, act, child, run_of, all_asked, IsAskedThroughout, IsMarkLike, IsLike, IsMadeFor, IsCourse, OwnCourse, IsOverWithItsEnd, AskedCourseIsSerial}

mark_like : (m : Granted) → IsMarkLike m m
mark_like Begins = tt
mark_like Resumes = tt
mark_like (Creates i) = refl
mark_like (Updates i x) = refl
mark_like (Sets i x) = refl
mark_like (Values i x) = refl
mark_like (Prints x) = tt

pub like : (e : Event) → IsLike e e
like (Reads c v) = refl
like (Writes c v) = refl
like Syncs = tt
like (Ends v gone) = tt
like (Passes m) = mark_like m

-- ---- what is due at an event, and whether it ends its frame
abbrev due_of : Event → Due
due_of (Reads c v) = neither_due
due_of (Writes c v) = neither_due
due_of Syncs = neither_due
due_of (Ends v gone) = neither_due
due_of (Passes Begins) = begin_due
due_of (Passes Resumes) = resume_due
due_of (Passes (Creates i)) = neither_due
due_of (Passes (Updates i x)) = neither_due
due_of (Passes (Sets i x)) = neither_due
due_of (Passes (Values i x)) = neither_due
due_of (Passes (Prints x)) = neither_due

abbrev is_end : Event → Bool
is_end (Reads c v) = false
is_end (Writes c v) = false
is_end Syncs = false
is_end (Ends v gone) = true
is_end (Passes m) = false

like_due : (e e' : Event) → IsLike e e' → due_of e ≡ due_of e'
like_due (Reads c v) (Reads d x) h = refl
like_due (Writes c v) (Writes d x) h = refl
like_due Syncs Syncs h = refl
like_due (Ends v gone) (Ends x gone') h = refl
like_due (Passes Begins) (Passes Begins) h = refl
like_due (Passes Resumes) (Passes Resumes) h = refl
like_due (Passes (Creates i)) (Passes (Creates j)) h = refl
like_due (Passes (Updates i v)) (Passes (Updates j x)) h = refl
like_due (Passes (Sets i v)) (Passes (Sets j x)) h = refl
like_due (Passes (Values i v)) (Passes (Values j x)) h = refl
like_due (Passes (Prints v)) (Passes (Prints x)) h = refl
like_due e e' h = absurd h

like_end : (e e' : Event) → IsLike e e' → is_end e ≡ is_end e'
like_end (Reads c v) (Reads d x) h = refl
like_end (Writes c v) (Writes d x) h = refl
like_end Syncs Syncs h = refl
like_end (Ends v gone) (Ends x gone') h = refl
like_end (Passes m) (Passes n) h = refl
like_end e e' h = absurd h

framed_of : {W : Type 0} (due : Due) (e : Event) (r : Run W) → IsFramed due (runs.act e r) → is_end e ≡ false → (due ≡ due_of e) × IsFramed neither_due r
framed_of begin_due (Passes Begins) r f n = (refl, f)
framed_of resume_due (Passes Resumes) r f n = (refl, f)
framed_of neither_due (Reads c v) r f n = (refl, f)
framed_of neither_due (Writes c v) r f n = (refl, f)
framed_of neither_due Syncs r f n = (refl, f)
framed_of neither_due (Passes (Creates i)) r f n = (refl, f)
framed_of neither_due (Passes (Updates i x)) r f n = (refl, f)
framed_of neither_due (Passes (Sets i x)) r f n = (refl, f)
framed_of neither_due (Passes (Values i x)) r f n = (refl, f)
framed_of neither_due (Passes (Prints x)) r f n = (refl, f)
framed_of neither_due (Ends v gone) r f n = absurd (cc n)
framed_of due e r f n = absurd f

framed_to : {W : Type 0} (e : Event) (r : Run W) → is_end e ≡ false → IsFramed neither_due r → IsFramed (due_of e) (runs.act e r)
framed_to (Reads c v) r n f = f
framed_to (Writes c v) r n f = f
framed_to Syncs r n f = f
framed_to (Ends v gone) r n f = absurd (cc n)
framed_to (Passes Begins) r n f = f
framed_to (Passes Resumes) r n f = f
framed_to (Passes (Creates i)) r n f = f
framed_to (Passes (Updates i x)) r n f = f
framed_to (Passes (Sets i x)) r n f = f
framed_to (Passes (Values i x)) r n f = f
framed_to (Passes (Prints x)) r n f = f

pub run_all : {W : Type 0} (t : Run W) → run_of (all_asked t) ≡ t
run_all runs.stop = refl
run_all (runs.act e r) = ap (λ (z : Run _). runs.act e z) (run_all r)
run_all (runs.child k w u r) = ap (λ (z : Run _). runs.child k w z (run_of (all_asked r))) (run_all u) ∙ ap (λ (z : Run _). runs.child k w u z) (run_all r)

asked_all : {W : Type 0} (t : Run W) → IsAskedThroughout (all_asked t)
asked_all runs.stop = tt
asked_all (runs.act e r) = (refl, asked_all r)
asked_all (runs.child k w u r) = (refl, asked_all u, asked_all r)

module _ (W V : Type 0) (M : Instance → MonoidStructure V) (next : W → List (Deed W) → Option (Ask W)) (same : W → W → Bool) where
  own : ((v : W) → same v v ≡ true) → (w : W) (past : List (Deed W)) (memory : Cell → ℤ) (views : Instance → V) (t : Run W)
      → Behaves W (follows next) w past t → IsSerial t memory → IsSerialViews M t views → IsCourse W V M next same w past memory views t (all_asked t)
  own known w past memory views runs.stop b s v = tt
  own known w past memory views (runs.act e r) b s v = (
    record { like = like e; made = λ _. (b.0, s.0, v.0); kept = λ _. refl; only = λ _ _ _. refl },
    own known w (past ++ Does e ∷ []) (λ c. put e c (memory c)) (λ i. on_view (M i) i e (views i)) r b.1 s.1 v.1,
  )
  own known w past memory views (runs.child k z u r) b s v = (
    record { how = refl; fits = known z; made = λ _. b.0; kept = λ _. refl; only = λ _ _ _. refl },
    own known z [] memory views u b.1 s.0 v.0,
    subst (λ (x : Run W). IsCourse W V M next same w (past ++ Invokes k z ∷ []) (λ c. value_after x c (memory c)) (λ i. view_after (M i) i x (views i)) r (all_asked r)) (sym (run_all u))
        (own known w (past ++ Invokes k z ∷ []) (λ c. value_after u c (memory c)) (λ i. view_after (M i) i u (views i)) r b.2 s.1 v.1),
  )

  pub own_course : OwnCourse W V M next same
  own_course known w memory views t h = (own known w [] memory views t h.behaves h.reads h.values, asked_all t, run_all t)

  -- ---- a run from a point of a frame on, where this is due
  record IsFrom (w : W) (past : List (Deed W)) (memory : Cell → ℤ) (views : Instance → V) (due : Due) (t : Run W) : Type 0 where
    behaves : Behaves W (follows next) w past t
    framed : IsFramed due t
    reads : IsSerial t memory
    values : IsSerialViews M t views

  -- the frame continues after an event that doesn't end it
  goes_on : (w : W) (past : List (Deed W)) (memory : Cell → ℤ) (views : Instance → V) (due : Due) (e e' : Event) (b : Bool) (t : Run W)
      → IsMadeFor W V M next same w past memory views e e' b → b ≡ true → due ≡ due_of e → is_end e ≡ false
      → IsFrom (w) (past ++ Does e' ∷ []) (λ c. put e' c (memory c)) (λ i. on_view (M i) i e' (views i)) neither_due t
      → IsFrom w past memory views due (runs.act e' t)
  goes_on w past memory views due e e' b t made is here no_end rest =
      let m = made.made is in
      let wanted : due_of e' ≡ due = sym (here ∙ like_due e e' made.like) in
      record {
        behaves = (m.0, rest.behaves);
        framed = subst (λ (d : Due). IsFramed d (runs.act e' t)) wanted (framed_to e' t (sym (like_end e e' made.like) ∙ no_end) rest.framed);
        reads = (m.1, rest.reads);
        values = (m.2, rest.values);
      }

  module _ (over : IsOverWithItsEnd W V M next same) where
    ends : (w : W) (past : List (Deed W)) (memory : Cell → ℤ) (views : Instance → V) (v x : ℤ) (gone gone' : List Instance) (b : Bool) (c : Course W)
        → IsMadeFor W V M next same w past memory views (Ends v gone) (Ends x gone') b → b ≡ true
        → IsCourse W V M next same w (past ++ Does (Ends x gone') ∷ []) memory (λ i. on_view (M i) i (Ends x gone') (views i)) runs.stop c
        → IsFrom w past memory views neither_due (runs.act (Ends x gone') (run_of c))
    ends w past memory views v x gone gone' b stop made is rest =
        let m = made.made is in
        record {
          behaves = (m.0, λ a h. (let z : None ≡ Some a = sym (over w past x gone') ∙ h in cc z));
          framed = refl;
          reads = (m.1, tt);
          values = (m.2, tt);
        }
    ends w past memory views v x gone gone' b (act d e r) made is rest = absurd rest
    ends w past memory views v x gone gone' b (child d k u q r) made is rest = absurd rest

    last : (w : W) (past : List (Deed W)) (memory : Cell → ℤ) (views : Instance → V) (due : Due) (e e' : Event) (b : Bool) (r : Run W) (c : Course W)
        → is_end e ≡ true
        → IsFramed due (runs.act e r) → IsMadeFor W V M next same w past memory views e e' b → b ≡ true
        → IsCourse W V M next same w (past ++ Does e' ∷ []) (λ c. put e' c (memory c)) (λ i. on_view (M i) i e' (views i)) r c
        → IsFrom w past memory views due (runs.act e' (run_of c))
    last w past memory views begin_due (Ends v gone) e' b r c end f made is rest = absurd f
    last w past memory views resume_due (Ends v gone) e' b r c end f made is rest = absurd f
    last w past memory views neither_due (Ends v gone) (Ends x gone') b r c end f made is rest =
        ends w past memory views v x gone gone' b c made is
        (subst (λ (t : Run W). IsCourse W V M next same w (past ++ Does (Ends x gone') ∷ []) memory (λ i. on_view (M i) i (Ends x gone') (views i)) t c) f rest)
    last w past memory views neither_due (Ends v gone) e' b r c end f made is rest = absurd made.like
    last w past memory views due e e' b r c end f made is rest = absurd (cc end)

    from : (due : Due) (w : W) (past : List (Deed W)) (memory : Cell → ℤ) (views : Instance → V) (t : Run W) (c : Course W) → IsFramed due t
        → IsCourse W V M next same w past memory views t c → IsAskedThroughout c → IsFrom w past memory views due (run_of c)
    from begin_due w past memory views runs.stop c f k a = absurd f
    from resume_due w past memory views runs.stop c f k a = absurd f
    from neither_due w past memory views runs.stop c f k a = absurd f
    from due w past memory views (runs.act e r) stop f k a = absurd k
    from due w past memory views (runs.act e r) (child b x v u q) f k a = absurd k
    from due w past memory views (runs.act e r) (act b e' c) f k a = by (is_end e) refl
        (λ framed. from neither_due w (past ++ Does e' ∷ []) (λ x. put e' x (memory x)) (λ i. on_view (M i) i e' (views i)) r c framed k.1 a.1)
      where
        by : (t : Bool) → is_end e ≡ t
            → (IsFramed neither_due r → IsFrom w (past ++ Does e' ∷ []) (λ x. put e' x (memory x)) (λ i. on_view (M i) i e' (views i)) neither_due (run_of c))
            → IsFrom w past memory views due (runs.act e' (run_of c))
        by true end rest = last w past memory views due e e' b r c end f k.0 a.0 k.1
        by false no_end rest =
            let here = framed_of due e r f no_end in
            goes_on w past memory views due e e' b (run_of c) k.0 a.0 here.0 no_end (rest here.1)
    from due w past memory views (runs.child x v u r) stop f k a = absurd k
    from due w past memory views (runs.child x v u r) (act b e c) f k a = absurd k
    from begin_due w past memory views (runs.child x v u r) (child b y z d c) f k a = absurd f
    from resume_due w past memory views (runs.child x v u r) (child b y z d c) f k a = absurd f
    from neither_due w past memory views (runs.child x v u r) (child b y z d c) f k a =
        let inner = from begin_due z [] memory views u d f.0 k.1 a.1 in
        let rest = from resume_due w (past ++ Invokes y z ∷ []) (λ i. value_after (run_of d) i (memory i)) (λ i. view_after (M i) i (run_of d) (views i)) r c f.1 k.2 a.2 in
        record {
          behaves = (k.0.made a.0, inner.behaves, rest.behaves);
          framed = (inner.framed, rest.framed);
          reads = (inner.reads, rest.reads);
          values = (inner.values, rest.values);
        }

pub asked_is_serial : (W V : Type 0) (M : Instance → MonoidStructure V) (next : W → List (Deed W) → Option (Ask W)) (same : W → W → Bool)
    → AskedCourseIsSerial W V M next same
asked_is_serial W V M next same over w memory views t c framed course asked =
    let r = from W V M next same over begin_due w [] memory views t c framed course asked in
    record { behaves = r.behaves; framed = r.framed; reads = r.reads; values = r.values }
