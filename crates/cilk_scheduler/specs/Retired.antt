-- The views after the end of a frame.
use Rattle.std.specs.Prelude.{◌&&◌, ℕ, suc, cond, List, [], ◌∷◌, Option, None}
use Rattle.cilk_types.specs.declared.event.Instance.{Instance}
use Rattle.cilk_monoid.specs.declared.kind.MonoidKind.{MonoidKind}
use Rattle.cilk_monoid.specs.Kinds.{same_kind}
use Rattle.cilk_monoid.specs.Ranges.{same_instance}
use Rattle.cilk_monoid.specs.Values.{ViewValue}

-- this view of reducer j, or none if j is among the frame's own reducers: those with these monoids,
-- at consecutive places from this one on
abbrev pub without_own : ℕ → ℕ → List MonoidKind → MonoidKind → Instance → Option ViewValue → Option ViewValue
without_own frame place [] k j v = v
without_own frame place (own ∷ ks) k j v = without_own frame (suc place) ks k j (cond (same_kind own k && same_instance (record { frame = frame; place = place }) j) None v)
