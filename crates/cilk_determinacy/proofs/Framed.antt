-- Runs whose frames have their begin, resumes and end in their places: a resume follows each child,
-- and each child has an event.
use Rattle.std.proofs.Common.{◌≡◌, ◌<◌, Bool, true, false, List, [], ◌∷◌, ◌++◌, length, Option, Some, None, sym, ap, ◌∙◌, subst, arith}
use Rattle.cilk_types.specs.declared.invocation.Invocation.{Invocation}
use Rattle.cilk_types.specs.declared.invocation.Invocation.TheVariants.{Call, Spawn}
use Rattle.cilk_determinacy.specs.Runs.{Reads, Writes, Syncs, Ends, Passes, Begins, Resumes, Creates, Updates, Sets, Values, Prints, Deed, Does, Run, stop, act, child}
use Rattle.cilk_determinacy.specs.Traces.{trace, Due, begin_due, resume_due, neither_due, IsFramed}
use Rattle.cilk_determinacy.proofs.Blocks.{IsResumed}
use Rattle.cilk_determinacy.proofs.Layouts.{Layout, in_order, child_layout, layouts, layout, size, IsInhabited}
use Rattle.cilk_determinacy.proofs.Races.{tree_events, tree_size}

abbrev is_due : Due → Bool
is_due begin_due = false
is_due resume_due = true
is_due neither_due = false

pub resumed : {W : Type 0} (d : Due) (t : Run W) → IsFramed d t → IsResumed (is_due d) t
resumed begin_due (act (Passes Begins) r) h = ((λ x. x), resumed neither_due r h)
resumed resume_due (act (Passes Resumes) r) h = (tt, resumed neither_due r h)
resumed neither_due (act (Reads c v) r) h = ((λ x. x), resumed neither_due r h)
resumed neither_due (act (Writes c v) r) h = ((λ x. x), resumed neither_due r h)
resumed neither_due (act Syncs r) h = ((λ x. x), resumed neither_due r h)
resumed neither_due (act (Ends v gone) r) h = ((λ x. x), subst (IsResumed false) (sym h) tt)
resumed neither_due (act (Passes (Creates i)) r) h = ((λ x. x), resumed neither_due r h)
resumed neither_due (act (Passes (Updates i x)) r) h = ((λ x. x), resumed neither_due r h)
resumed neither_due (act (Passes (Sets i x)) r) h = ((λ x. x), resumed neither_due r h)
resumed neither_due (act (Passes (Values i x)) r) h = ((λ x. x), resumed neither_due r h)
resumed neither_due (act (Passes (Prints x)) r) h = ((λ x. x), resumed neither_due r h)
resumed neither_due (child k w u r) h = (resumed begin_due u h.0, resumed resume_due r h.1)
resumed _ _ h = absurd h

-- each child makes an event
abbrev AreInhabited : {W : Type 0} → Run W → Type 0
AreInhabited stop = Unit {0}
AreInhabited (act e t) = AreInhabited t
AreInhabited (child k w u t) = (0 < length (trace u)) × AreInhabited u × AreInhabited t

begun_inhabited : {W : Type 0} (t : Run W) → IsFramed begin_due t → 0 < length (trace t)
begun_inhabited (act e t) h = omega arith
begun_inhabited stop h = absurd h
begun_inhabited (child k w u t) h = absurd h

are_inhabited : {W : Type 0} (d : Due) (t : Run W) → IsFramed d t → AreInhabited t
are_inhabited begin_due (act (Passes Begins) r) h = are_inhabited neither_due r h
are_inhabited resume_due (act (Passes Resumes) r) h = are_inhabited neither_due r h
are_inhabited neither_due (act (Reads c v) r) h = are_inhabited neither_due r h
are_inhabited neither_due (act (Writes c v) r) h = are_inhabited neither_due r h
are_inhabited neither_due (act Syncs r) h = are_inhabited neither_due r h
are_inhabited neither_due (act (Ends v gone) r) h = subst AreInhabited (sym h) tt
are_inhabited neither_due (act (Passes (Creates i)) r) h = are_inhabited neither_due r h
are_inhabited neither_due (act (Passes (Updates i x)) r) h = are_inhabited neither_due r h
are_inhabited neither_due (act (Passes (Sets i x)) r) h = are_inhabited neither_due r h
are_inhabited neither_due (act (Passes (Values i x)) r) h = are_inhabited neither_due r h
are_inhabited neither_due (act (Passes (Prints x)) r) h = are_inhabited neither_due r h
are_inhabited neither_due (child k w u r) h = (begun_inhabited u h.0, are_inhabited begin_due u h.0, are_inhabited resume_due r h.1)
are_inhabited _ _ h = absurd h

abbrev LaterHasChildren : {W : Type 0} → Option (Layout W) → Type 0
LaterHasChildren None = Unit {0}
LaterHasChildren (Some t) = IsInhabited t

series_children : {W : Type 0} (a : Layout W) (o : Option (Layout W)) → IsInhabited a → LaterHasChildren o → IsInhabited (in_order a o)
series_children a None h g = h
series_children a (Some b) h g = (h, g)

child_children : {W : Type 0} (k : Invocation) (a b : Layout W) → 0 < size a → IsInhabited a → IsInhabited b → IsInhabited (child_layout k a b)
child_children Call a b s h g = (h, g)
child_children Spawn a b s h g = (s, h, g)

blocks_children : {W : Type 0} (t : Run W) (s : List (Deed W)) → AreInhabited t → IsInhabited (layouts t s).0 × LaterHasChildren (layouts t s).1
blocks_children stop s h = (tt, tt)
blocks_children (act (Reads c v) t) s h = blocks_children t (s ++ Does (Reads c v) ∷ []) h
blocks_children (act (Writes c v) t) s h = blocks_children t (s ++ Does (Writes c v) ∷ []) h
blocks_children (act Syncs t) s h = let g = blocks_children t (Does Syncs ∷ []) h in (tt, series_children (layouts t (Does Syncs ∷ [])).0 (layouts t (Does Syncs ∷ [])).1 g.0 g.1)
blocks_children (act (Ends v gone) t) s h = blocks_children t (s ++ Does (Ends v gone) ∷ []) h
blocks_children (act (Passes m) t) s h = blocks_children t (s ++ Does (Passes m) ∷ []) h
blocks_children (child k w u t) s h =
    let inner = blocks_children u [] h.1 in
    let rest = blocks_children t [] h.2 in
    let some : size (layout u) ≡ length (trace u) = tree_size (layout u) ∙ ap length (tree_events u) in
    let many = h.0 in
    ((tt, child_children k (layout u) (layouts t []).0 (omega (arith, some, many)) (series_children (layouts u []).0 (layouts u []).1 inner.0 inner.1) rest.0), rest.1)

pub inhabited : {W : Type 0} (t : Run W) → IsFramed begin_due t → IsInhabited (layout t)
inhabited t h = let g = blocks_children t [] (are_inhabited begin_due t h) in series_children (layouts t []).0 (layouts t []).1 g.0 g.1
