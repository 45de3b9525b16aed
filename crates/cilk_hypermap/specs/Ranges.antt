-- Hypermaps that hold the views of a range of a run's events.
use Rattle.std.specs.Prelude.{◌≡◌, List, ◌++◌}
use Rattle.cilk_types.specs.declared.event.Instance.{Instance}
use Rattle.cilk_monoid.specs.declared.kind.MonoidKind.{MonoidKind}
use Rattle.cilk_monoid.specs.Kinds.{structure_of}
use Rattle.cilk_monoid.specs.Ranges.{ReducerEvent, HaveWords, Mentions, Resets, view_of}
use Rattle.cilk_hypermap.specs.declared.hypermap.Hypermap.{Hypermap}
use Rattle.cilk_hypermap.specs.Hypermap.{value_in}

-- each reducer's view is that of the range, where an absent view counts as the unit; `kinds` gives
-- each reducer's monoid
abbrev pub ShowsRange : (Instance → MonoidKind) → Hypermap → List ReducerEvent → Type 0
ShowsRange kinds h es = (i : Instance) → value_in h (kinds i) i ≡ view_of (structure_of (kinds i)) i es

-- the right range resets no reducer that has an event in the left one
abbrev pub ResetsNone : List ReducerEvent → List ReducerEvent → Type 0
ResetsNone left right = (i : Instance) → Mentions i left → ¬ (Resets i right)

-- if the two hypermaps show two adjoining ranges, the third shows the joined range
abbrev pub JoinsRanges : Hypermap → Hypermap → Hypermap → Type 0
JoinsRanges l r h = (kinds : Instance → MonoidKind) (left right : List ReducerEvent) → HaveWords left → HaveWords right → ResetsNone left right
    → ShowsRange kinds l left → ShowsRange kinds r right → ShowsRange kinds h (left ++ right)
