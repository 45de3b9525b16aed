-- If all of an event order is requested, all of its course is: `asked_throughout`. A course that
-- departs nowhere is a serial run: `departs_nowhere`.
use Rattle.std.proofs.Common.{◌≡◌, ℕ, suc, ◌+◌, ◌-◌, ◌<◌, true, false, List, [], ◌∷◌, length, slice_index_or, refl, sym, ap, ◌∙◌, subst, arith, inl}
use Rattle.std.proofs.lemmas.List.{length-append, get_or_append_left, get_or-append-add}
use Rattle.cilk_types.specs.declared.event.Event as numbers
use Rattle.cilk_types.specs.declared.event.Instance as numbered
use Rattle.cilk_determinacy.specs.Runs.{Cell, Instance, Deed}
use Rattle.cilk_determinacy.specs.Traces.{trace, AreWritten}
use Rattle.cilk_tree.proofs.AlongPlans.{along_orderly, follows_all}
use Rattle.cilk_tree.specs.Planned.{planned}
use Rattle.cilk_replay.specs.InputCourses.{Course, stop, act, child, run_of, asked_in, IsAskedThroughout}
use Rattle.cilk_replay.specs.Lists.{event_order_of, AskedEventOrdersAreOfAskedCourses, InputsThatDepartNowhere}
use Rattle.cilk_replay.proofs.CourseFrames.{courses_are_runs}

throughout : {W : Type 0} (c : Course W) → ((n : ℕ) → n < length (asked_in c) → slice_index_or (asked_in c) n false ≡ true) → IsAskedThroughout c
throughout stop h = tt
throughout (act b e r) h = (h 0 (omega arith), throughout r (λ n less. h (suc n) (omega (arith, less))))
throughout (child b k w u r) h =
    let both = length-append (asked_in u) (asked_in r) in (
      h 0 (omega arith),
      throughout u (λ n less. sym (get_or_append_left (asked_in u) (asked_in r) false n less) ∙ h (suc n) (omega (arith, less, both))),
      throughout r (λ n less. sym (get_or-append-add (asked_in u) (asked_in r) n false) ∙ h (suc (length (asked_in u) + n)) (omega (arith, less, both))),
    )

-- ---- as many events as marks of requests
pub long : {W : Type 0} (c : Course W) → length (trace (run_of c)) ≡ length (asked_in c)
long stop = refl
long (act b e r) = ap suc (long r)
long (child b k w u r) =
    let inner = long u in
    let rest = long r in
    let deeds = length-append (trace (run_of u)) (trace (run_of r)) in
    let both = length-append (asked_in u) (asked_in r) in
    omega (arith, inner, rest, deeds, both)

module _ (cell : Cell → ℕ) (instance : Instance → numbered.Instance) where
  pub written_long : {W : Type 0} (ds : List (Deed W)) (es : List numbers.Event) → AreWritten cell instance ds es → length es ≡ length ds
  written_long [] [] h = refl
  written_long [] (e ∷ es) h = absurd h
  written_long (d ∷ ds) [] h = absurd h
  written_long (d ∷ ds) (e ∷ es) h = ap suc (written_long ds es h.1)

pub asked_throughout : (W : Type 0) → AskedEventOrdersAreOfAskedCourses W
asked_throughout W cell instance c es es' opening written asked =
    let many = written_long cell instance (trace (run_of c)) es' written ∙ long c in
    throughout c (λ n less.
    let back : suc n - 1 ≡ n = omega arith in
    subst (λ (k : ℕ). slice_index_or (asked_in c) k false ≡ true) back (asked (suc n) (omega arith, omega (arith, less, many))))

-- ---- along an orderly plan
pub departs_nowhere : InputsThatDepartNowhere
departs_nowhere p inputs others t c cell instance es es' opening run course written orderly along begins nowhere =
    let s = event_order_of es opening es' c in
    let asked = asked_throughout _ cell instance c es es' opening written
    (λ q i. follows_all s (along_orderly (planned es opening) s orderly along) begins nowhere q i q (inl refl)) in
    courses_are_runs p inputs others t c run course asked
