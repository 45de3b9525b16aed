-- The frames, cells and reducers of a plan's run by names, by their numbers.
--
-- - `maker_here`: the frame that makes an event;
-- - `begun_by`: a frame begins with its number;
-- - `known_at`: the plan's deed at a point is the run's, and the course's deed there is of its
--   kind;
-- - `start_at`: the event that starts a child has its number.
use Rattle.std.proofs.Common.{◌≡◌, ℕ, zero, suc, ◌+◌, ℤ, true, List, [], ◌∷◌, ◌++◌, length, Option, Some, None, slice_get, refl, sym, ap, ◌∙◌, subst}
use Rattle.std.proofs.lemmas.Bool.{and_parts}
use Rattle.cilk_types.specs.declared.event.Event.{Event}
use Rattle.cilk_types.specs.declared.event.Event.TheVariants as events
use Rattle.cilk_types.specs.declared.invocation.Invocation.{Invocation}
use Rattle.cilk_types.specs.declared.invocation.Invocation.TheVariants.{Call, Spawn}
use Rattle.cilk_monoid.specs.Laws.{MonoidStructure}
use Rattle.cilk_program.specs.Inside.{body_of}
use Rattle.cilk_program.specs.SerialRun.{Transcript}
use Rattle.cilk_program.specs.Syntax.{Source}
use Rattle.cilk_determinacy.specs.Machine.{put, started}
use Rattle.cilk_determinacy.specs.Monoids.{on_view}
use Rattle.cilk_determinacy.specs.Runs.{Name, same_name, Cell, Instance, Ask, Reads, Writes, Syncs, Ends, Passes, Begins, Resumes, Creates, Updates, Sets, Values, Prints, Deed, Does, Invokes, Run}
use Rattle.cilk_determinacy.specs.Runs as runs
use Rattle.cilk_determinacy.specs.Serial.{value_after}
use Rattle.cilk_determinacy.specs.Views.{view_after}
use Rattle.cilk_determinacy.proofs.Basics.{same_name-eq}
use Rattle.cilk_determinacy.proofs.Started.{started_does, started_invokes}
use Rattle.cilk_determinacy.specs.FrameEnvs.{FrameEnv}
use Rattle.cilk_determinacy.specs.Numbers.{frame_number, start_event, numbered_event, numbered_events, IsHere, EventIsHere, AreHere}
use Rattle.cilk_replay.specs.InputCourses.{Course, stop, act, child, run_of, asked_in, IsCourse}
use Rattle.cilk_replay.specs.Frames.{same_body, same_frame}
use Rattle.cilk_replay.specs.Owned.{makers}
use Rattle.cilk_replay.specs.Points.{Point, points, IsLikeDeed}
use Rattle.cilk_replay.proofs.Children.{AreChildren, IsStarted, StartsAs}

some_inner : {A : Type 0} (x y : A) → Some x ≡ Some y → x ≡ y
some_inner x y h = cc

-- frames that are alike have one name, and run one body
pub like_name : (p : Source) (v w : FrameEnv) → same_frame p v w ≡ true → v.name ≡ w.name
like_name p v w h = same_name-eq v.name w.name (and_parts (same_name v.name w.name) (same_body (body_of p v.callee) (body_of p w.callee)) h).0

pub like_body : (p : Source) (v w : FrameEnv) → same_frame p v w ≡ true → same_body (body_of p v.callee) (body_of p w.callee) ≡ true
like_body p v w h = (and_parts (same_name v.name w.name) (same_body (body_of p v.callee) (body_of p w.callee)) h).1

module _ (p : Source) (r : Transcript) where
  -- ---- the frames that make events

  abbrev AllHere : List Name → Type 0
  AllHere [] = Unit {0}
  AllHere (n ∷ ns) = IsHere p r n × AllHere ns

  here_append : (ns ms : List Name) → AllHere ns → AllHere ms → AllHere (ns ++ ms)
  here_append [] ms a b = b
  here_append (n ∷ ns) ms a b = (a.0, here_append ns ms a.1 b)

  here_at : (ns : List Name) (i : ℕ) (n : Name) → AllHere ns → slice_get ns i ≡ Some n → IsHere p r n
  here_at [] i n a is = absurd (let z : None ≡ Some n = is in cc z)
  here_at (m ∷ ns) zero n a is = subst (IsHere p r) (some_inner m n is) a.0
  here_at (m ∷ ns) (suc i) n a is = here_at ns i n a.1 is

  makers_here : (name : Name) (t : Run FrameEnv) → IsHere p r name → AreHere p r t → AllHere (makers name t)
  makers_here name runs.stop n h = tt
  makers_here name (runs.act e t) n h = (n, makers_here name t n h.1)
  makers_here name (runs.child k w u t) n h = (n, here_append (makers w.name u) (makers name t) (makers_here w.name u h.0 h.1) (makers_here name t n h.2))

  pub maker_here : (name : Name) (t : Run FrameEnv) (i : ℕ) (n : Name) → IsHere p r name → AreHere p r t → slice_get (makers name t) i ≡ Some n → IsHere p r n
  maker_here name t i n here h is = here_at (makers name t) i n (makers_here name t here h) is

  -- ---- frames begin with their numbers

  abbrev BeginsAs : Event → Name → Type 0
  BeginsAs e n = (f : ℕ) → e ≡ events.Begin f → f ≡ frame_number p r n

  abbrev Both : List Event → List Name → Type 0
  Both [] [] = Unit {0}
  Both (e ∷ es) (n ∷ ns) = BeginsAs e n × Both es ns
  Both _ _ = ⊥

  both_append : (es es' : List Event) (ns ns' : List Name) → Both es ns → Both es' ns' → Both (es ++ es') (ns ++ ns')
  both_append [] es' [] ns' a b = b
  both_append [] es' (n ∷ ns) ns' a b = absurd a
  both_append (e ∷ es) es' [] ns' a b = absurd a
  both_append (e ∷ es) es' (n ∷ ns) ns' a b = (a.0, both_append es es' ns ns' a.1 b)

  both_at : (es : List Event) (ns : List Name) (i : ℕ) (e : Event) (n : Name) → Both es ns → slice_get es i ≡ Some e → slice_get ns i ≡ Some n → BeginsAs e n
  both_at [] ns i e n b p q f begins = absurd (let z : None ≡ Some e = p in cc z)
  both_at (x ∷ es) [] i e n b p q f begins = absurd b
  both_at (x ∷ es) (m ∷ ns) zero e n b is at f begins = b.0 f (some_inner x e is ∙ begins) ∙ ap (frame_number p r) (some_inner m n at)
  both_at (x ∷ es) (m ∷ ns) (suc i) e n b is at f begins = both_at es ns i e n b.1 is at f begins

  event_begins : (name : Name) (e : runs.Event) → BeginsAs (numbered_event p r name e) name
  event_begins name (Reads c v) f q = absurd (cc q)
  event_begins name (Writes c v) f q = absurd (cc q)
  event_begins name Syncs f q = absurd (cc q)
  event_begins name (Ends v gone) f q = absurd (cc q)
  event_begins name (Passes Begins) f q = let z : frame_number p r name ≡ f = cc q in sym z
  event_begins name (Passes Resumes) f q = absurd (cc q)
  event_begins name (Passes (Creates i)) f q = absurd (cc q)
  event_begins name (Passes (Updates i x)) f q = absurd (cc q)
  event_begins name (Passes (Sets i x)) f q = absurd (cc q)
  event_begins name (Passes (Values i v)) f q = absurd (cc q)
  event_begins name (Passes (Prints x)) f q = absurd (cc q)

  start_begins : (name : Name) (k : Invocation) (n : ℕ) → BeginsAs (start_event k n) name
  start_begins name Call n f q = absurd (cc q)
  start_begins name Spawn n f q = absurd (cc q)

  all_begin : (name : Name) (t : Run FrameEnv) → Both (numbered_events p r name t) (makers name t)
  all_begin name runs.stop = tt
  all_begin name (runs.act e t) = (event_begins name e, all_begin name t)
  all_begin name (runs.child k w u t) =
      (start_begins name k (frame_number p r w.name), both_append (numbered_events p r w.name u) (numbered_events p r name t) (makers w.name u) (makers name t) (all_begin w.name u) (all_begin name t))

  pub begun_by : (name : Name) (t : Run FrameEnv) (i : ℕ) (e : Event) (n : Name) (f : ℕ) → slice_get (numbered_events p r name t) i ≡ Some e → slice_get (makers name t) i ≡ Some n
      → e ≡ events.Begin f → f ≡ frame_number p r n
  begun_by name t i e n f is at begins = both_at (numbered_events p r name t) (makers name t) i e n (all_begin name t) is at f begins

  -- ---- points

  abbrev pub DeedIsHere : Deed FrameEnv → Type 0
  DeedIsHere (Does e) = EventIsHere p r e
  DeedIsHere (Invokes k w) = IsHere p r w.name

  pub record IsKnown (x : Point FrameEnv) : Type 0 where
    pub here : DeedIsHere x.planned
    pub like : IsLikeDeed (same_frame p) x.planned x.deed
    pub starts : let w = x.frame in IsStarted p r w.name (suc (started x.past)) x.planned

  abbrev AllKnown : List (Point FrameEnv) → Type 0
  AllKnown [] = Unit {0}
  AllKnown (x ∷ xs) = IsKnown x × AllKnown xs

  known_append : (xs ys : List (Point FrameEnv)) → AllKnown xs → AllKnown ys → AllKnown (xs ++ ys)
  known_append [] ys a b = b
  known_append (x ∷ xs) ys a b = (a.0, known_append xs ys a.1 b)

  pub known_at : (xs : List (Point FrameEnv)) (i : ℕ) (x : Point FrameEnv) → AllKnown xs → slice_get xs i ≡ Some x → IsKnown x
  known_at [] i x a is = absurd (let z : None ≡ Some x = is in cc z)
  known_at (y ∷ xs) zero x a is = subst IsKnown (some_inner y x is) a.0
  known_at (y ∷ xs) (suc i) x a is = known_at xs i x a.1 is

  module _ (V : Type 0) (M : Instance → MonoidStructure V) (next : FrameEnv → List (Deed FrameEnv) → Option (Ask FrameEnv)) where
    pub all_known : (w : FrameEnv) (past : List (Deed FrameEnv)) (memory : Cell → ℤ) (views : Instance → V) (b o : ℕ) (t : Run FrameEnv) (c : Course FrameEnv) → AreHere p r t
        → AreChildren p r w.name (suc (started past)) t → IsCourse FrameEnv V M next (same_frame p) w past memory views t c → AllKnown (points w past b o t c)
    all_known w past memory views b o runs.stop stop here kids h = tt
    all_known w past memory views b o (runs.act e t) (act a e' t') here kids h = (
      record { here = here.0; like = h.0.like; starts = tt },
      all_known w (past ++ Does e' ∷ []) (λ y. put e' y (memory y)) (λ j. on_view (M j) j e' (views j)) b (suc o) t t' here.1
          (subst (λ n. AreChildren p r w.name (suc n) t) (sym (started_does past e')) kids) h.1,
    )
    all_known w past memory views b o (runs.child k v u t) (child a k' v' u' t') here kids h = (
      record { here = here.0; like = (h.0.how, h.0.fits); starts = kids.0 },
      known_append (points v' [] (suc o) (suc o) u u') (points w (past ++ Invokes k' v' ∷ []) b (suc o + length (asked_in u')) t t')
          (all_known v' [] memory views (suc o) (suc o) u u' here.1 (subst (λ n. AreChildren p r n 1 u) (like_name p v v' h.0.fits) kids.1) h.1)
          (all_known w (past ++ Invokes k' v' ∷ []) (λ y. value_after (run_of u') y (memory y)) (λ j. view_after (M j) j (run_of u') (views j)) b (suc o + length (asked_in u')) t t' here.2
          (subst (λ n. AreChildren p r w.name (suc n) t) (sym (started_invokes past k' v')) kids.2) h.2),
    )
    all_known w past memory views b o t c here kids h = absurd h

    -- ---- the events that start children

    abbrev AllStart : List Event → List (Point FrameEnv) → Type 0
    AllStart [] [] = Unit {0}
    AllStart (e ∷ es) (x ∷ xs) = StartsAs p r e x.planned × AllStart es xs
    AllStart _ _ = ⊥

    start_append : (es es' : List Event) (xs xs' : List (Point FrameEnv)) → AllStart es xs → AllStart es' xs' → AllStart (es ++ es') (xs ++ xs')
    start_append [] es' [] xs' a b = b
    start_append [] es' (x ∷ xs) xs' a b = absurd a
    start_append (e ∷ es) es' [] xs' a b = absurd a
    start_append (e ∷ es) es' (x ∷ xs) xs' a b = (a.0, start_append es es' xs xs' a.1 b)

    pub start_at : (es : List Event) (xs : List (Point FrameEnv)) (i : ℕ) (e : Event) (x : Point FrameEnv) → AllStart es xs → slice_get es i ≡ Some e → slice_get xs i ≡ Some x → StartsAs p r e x.planned
    start_at [] xs i e x a p q = absurd (let z : None ≡ Some e = p in cc z)
    start_at (d ∷ es) [] i e x a p q = absurd a
    start_at (d ∷ es) (y ∷ xs) zero e x a is at = subst (λ (z : Event). StartsAs p r z x.planned) (some_inner d e is) (subst (λ (z : Point FrameEnv). StartsAs p r d z.planned) (some_inner y x at) a.0)
    start_at (d ∷ es) (y ∷ xs) (suc i) e x a is at = start_at es xs i e x a.1 is at

    pub all_start : (name : Name) (w : FrameEnv) (past : List (Deed FrameEnv)) (memory : Cell → ℤ) (views : Instance → V) (b o : ℕ) (t : Run FrameEnv) (c : Course FrameEnv)
        → IsCourse FrameEnv V M next (same_frame p) w past memory views t c → AllStart (numbered_events p r name t) (points w past b o t c)
    all_start name w past memory views b o runs.stop stop h = tt
    all_start name w past memory views b o (runs.act e t) (act a e' t') h = (
      tt,
      all_start name w (past ++ Does e' ∷ []) (λ y. put e' y (memory y)) (λ j. on_view (M j) j e' (views j)) b (suc o) t t' h.1,
    )
    all_start name w past memory views b o (runs.child k v u t) (child a k' v' u' t') h = (
      refl,
      start_append (numbered_events p r v.name u) (numbered_events p r name t) (points v' [] (suc o) (suc o) u u') (points w (past ++ Invokes k' v' ∷ []) b (suc o + length (asked_in u')) t t')
          (all_start v.name v' [] memory views (suc o) (suc o) u u' h.1)
          (all_start name w (past ++ Invokes k' v' ∷ []) (λ y. value_after (run_of u') y (memory y)) (λ j. view_after (M j) j (run_of u') (views j)) b (suc o + length (asked_in u')) t t' h.2),
    )
    all_start name w past memory views b o t c h = absurd h
