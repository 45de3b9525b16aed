-- The events of a course are of the kinds of its plan's: `courses_along`.
use Rattle.std.proofs.Common.{◌≡◌, ℕ, ℤ, Bool, List, [], ◌∷◌, ◌++◌, map, Option, refl, ap, ap₂, ◌∙◌, subst}
use Rattle.cilk_types.specs.declared.event.Event as numbers
use Rattle.cilk_types.specs.declared.event.Event.TheVariants as events
use Rattle.cilk_types.specs.declared.event.Instance as numbered
use Rattle.cilk_types.specs.declared.invocation.Invocation.{Invocation}
use Rattle.cilk_types.specs.declared.invocation.Invocation.TheVariants.{Call, Spawn}
use Rattle.cilk_monoid.specs.Laws.{MonoidStructure}
use Rattle.cilk_determinacy.specs.Runs.{Cell, Instance, Ask, Begins, Resumes, Creates, Updates, Sets, Values, Prints, Event, Reads, Writes, Syncs, Ends, Passes, Deed, Does, Invokes, Run}
use Rattle.cilk_determinacy.specs.Runs as runs
use Rattle.cilk_determinacy.specs.Machine.{put}
use Rattle.cilk_determinacy.specs.Monoids.{on_view}
use Rattle.cilk_determinacy.specs.Serial.{value_after}
use Rattle.cilk_determinacy.specs.Traces.{trace, IsWrittenEvent, IsWritten, AreWritten}
use Rattle.cilk_determinacy.specs.Views.{view_after}
use Rattle.cilk_tree.specs.declared.kind.Kind.{Kind}
use Rattle.cilk_tree.specs.Kinds.{kind_of}
use Rattle.cilk_replay.specs.InputCourses.{Course, stop, act, child, run_of, IsLike, IsCourse}
use Rattle.cilk_replay.specs.Lists.{with_value, with_values, CoursesAreAlongPlans}

-- ---- the kinds stay
kept_kind : {W : Type 0} (e : numbers.Event) (d : Deed W) → kind_of (with_value e d) ≡ kind_of e
kept_kind (events.Read c v) (Does (Reads d x)) = refl
kept_kind (events.Write c v) (Does (Writes d x)) = refl
kept_kind (events.Update i v) (Does (Passes (Updates j x))) = refl
kept_kind (events.Set i v) (Does (Passes (Sets j x))) = refl
kept_kind (events.Value i v) (Does (Passes (Values j x))) = refl
kept_kind (events.Print v) (Does (Passes (Prints x))) = refl
kept_kind e d = refl

pub kept_kinds : {W : Type 0} (es : List numbers.Event) (ds : List (Deed W)) → map kind_of (with_values es ds) ≡ map kind_of es
kept_kinds [] ds = refl
kept_kinds (e ∷ es) [] = refl
kept_kinds (e ∷ es) (d ∷ ds) = ap₂ (λ (k : Kind) ks. k ∷ ks) (kept_kind e d) (kept_kinds es ds)

-- ---- lists of deeds that are alike, one by one
abbrev IsAlike : {W : Type 0} → Deed W → Deed W → Type 0
IsAlike (Does e) (Does x) = IsLike e x
IsAlike (Invokes j v) (Invokes k w) = j ≡ k
IsAlike _ _ = ⊥

abbrev AreAlike : {W : Type 0} → List (Deed W) → List (Deed W) → Type 0
AreAlike [] [] = Unit {0}
AreAlike (d ∷ ds) (x ∷ xs) = IsAlike d x × AreAlike ds xs
AreAlike _ _ = ⊥

alike_both : {W : Type 0} (ds xs ms ys : List (Deed W)) → AreAlike ds xs → AreAlike ms ys → AreAlike (ds ++ ms) (xs ++ ys)
alike_both [] [] ms ys h g = g
alike_both [] (x ∷ xs) ms ys h g = absurd h
alike_both (d ∷ ds) [] ms ys h g = absurd h
alike_both (d ∷ ds) (x ∷ xs) ms ys h g = (h.0, alike_both ds xs ms ys h.1 g)

module _ (W : Type 0) (cell : Cell → ℕ) (instance : Instance → numbered.Instance) where
  one : (e x : Event) (n : numbers.Event) → IsLike e x → IsWrittenEvent cell instance e n → IsWrittenEvent cell instance x (with_value {W = W} n (Does x))
  one (Reads c v) (Reads d x) n h is = ap (λ n. with_value {W = W} n (Does (Reads d x))) is ∙ ap (λ (k : Cell). events.Read (cell k) x) h
  one (Writes c v) (Writes d x) n h is = ap (λ n. with_value {W = W} n (Does (Writes d x))) is ∙ ap (λ (k : Cell). events.Write (cell k) x) h
  one Syncs Syncs n h is = ap (λ n. with_value {W = W} n (Does Syncs)) is
  one (Ends v gone) (Ends x gone') n h is = ap (λ n. with_value {W = W} n (Does (Ends x gone'))) is
  one (Passes Begins) (Passes Begins) n h is = (is.0, ap (λ n. with_value {W = W} n (Does (Passes Begins))) is.1)
  one (Passes Resumes) (Passes Resumes) n h is = (is.0, ap (λ n. with_value {W = W} n (Does (Passes Resumes))) is.1)
  one (Passes (Creates i)) (Passes (Creates j)) n h is = ap (λ n. with_value {W = W} n (Does (Passes (Creates j)))) is ∙ ap (λ (k : Instance). events.Create (instance k)) h
  one (Passes (Updates i v)) (Passes (Updates j x)) n h is = ap (λ n. with_value {W = W} n (Does (Passes (Updates j x)))) is ∙ ap (λ (k : Instance). events.Update (instance k) x) h
  one (Passes (Sets i v)) (Passes (Sets j x)) n h is = ap (λ n. with_value {W = W} n (Does (Passes (Sets j x)))) is ∙ ap (λ (k : Instance). events.Set (instance k) x) h
  one (Passes (Values i v)) (Passes (Values j x)) n h is = ap (λ n. with_value {W = W} n (Does (Passes (Values j x)))) is ∙ ap (λ (k : Instance). events.Value (instance k) x) h
  one (Passes (Prints v)) (Passes (Prints x)) n h is = ap (λ n. with_value {W = W} n (Does (Passes (Prints x)))) is
  one e x n h is = absurd h

  started : (k : Invocation) (v w : W) (n : numbers.Event) → IsWritten cell instance (Invokes k v) n
      → IsWritten cell instance (Invokes k w) (with_value n (Invokes k w))
  started Call v w n is = (is.0, ap (λ n. with_value n (Invokes Call w)) is.1)
  started Spawn v w n is = (is.0, ap (λ n. with_value n (Invokes Spawn w)) is.1)

  one_deed : (d x : Deed W) (n : numbers.Event) → IsAlike d x → IsWritten cell instance d n → IsWritten cell instance x (with_value n x)
  one_deed (Does e) (Does x) n h is = one e x n h is
  one_deed (Does e) (Invokes k w) n h is = absurd h
  one_deed (Invokes j v) (Does x) n h is = absurd h
  one_deed (Invokes j v) (Invokes k w) n h is = subst (λ (i : Invocation). IsWritten cell instance (Invokes i w) (with_value n (Invokes i w))) h (started j v w n is)

  -- the list of alike deeds, with their values
  valued : (ds xs : List (Deed W)) (es : List numbers.Event) → AreAlike ds xs → AreWritten cell instance ds es → AreWritten cell instance xs (with_values es xs)
  valued [] [] [] h g = tt
  valued [] [] (e ∷ es) h g = absurd g
  valued [] (x ∷ xs) es h g = absurd h
  valued (d ∷ ds) [] es h g = absurd h
  valued (d ∷ ds) (x ∷ xs) [] h g = absurd g
  valued (d ∷ ds) (x ∷ xs) (e ∷ es) h g = (one_deed d x e h.0 g.0, valued ds xs es h.1 g.1)

module _ (W V : Type 0) (M : Instance → MonoidStructure V) (next : W → List (Deed W) → Option (Ask W)) (same : W → W → Bool) where
  alike : (w : W) (past : List (Deed W)) (memory : Cell → ℤ) (views : Instance → V) (t : Run W) (c : Course W)
      → IsCourse W V M next same w past memory views t c → AreAlike (trace t) (trace (run_of c))
  alike w past memory views runs.stop stop k = tt
  alike w past memory views runs.stop (act b e c) k = absurd k
  alike w past memory views runs.stop (child b x v u c) k = absurd k
  alike w past memory views (runs.act e r) stop k = absurd k
  alike w past memory views (runs.act e r) (child b x v u c) k = absurd k
  alike w past memory views (runs.act e r) (act b x c) k = (k.0.like, alike w (past ++ Does x ∷ []) (λ i. put x i (memory i)) (λ i. on_view (M i) i x (views i)) r c k.1)
  alike w past memory views (runs.child x v u r) stop k = absurd k
  alike w past memory views (runs.child x v u r) (act b e c) k = absurd k
  alike w past memory views (runs.child x v u r) (child b y z d c) k =
      let inner = alike z [] memory views u d k.1 in
      let rest = alike w (past ++ Invokes y z ∷ []) (λ i. value_after (run_of d) i (memory i)) (λ i. view_after (M i) i (run_of d) (views i)) r c k.2 in
      (k.0.how, alike_both (trace u) (trace (run_of d)) (trace r) (trace (run_of c)) inner rest)

  -- the list of a course, with its values
  pub course_written : (cell : Cell → ℕ) (instance : Instance → numbered.Instance) (w : W) (past : List (Deed W)) (memory : Cell → ℤ) (views : Instance → V) (t : Run W) (c : Course W) (es : List numbers.Event)
      → IsCourse W V M next same w past memory views t c → AreWritten cell instance (trace t) es
      → AreWritten cell instance (trace (run_of c)) (with_values es (trace (run_of c)))
  course_written cell instance w past memory views t c es course written = valued W cell instance (trace t) (trace (run_of c)) es (alike w past memory views t c course) written

pub courses_along : (W V : Type 0) (M : Instance → MonoidStructure V) (next : W → List (Deed W) → Option (Ask W)) (same : W → W → Bool)
    → CoursesAreAlongPlans W V M next same
courses_along W V M next same cell instance w memory views t c es opening course written = (
  course_written W V M next same cell instance w [] memory views t c es course written,
  record { kinds = kept_kinds es (trace (run_of c)); preceding = refl; opening = refl },
)
