use Rattle.std.proofs.Common.{◌≡◌, ◌+◌, ◌≤◌, IsSome, length}
use Rattle.cilk_types.specs.declared.event.Instance.{Instance}
use Rattle.cilk_hypermap.specs.Views.{entries, merged, view_at, room_at, size_at}
use Rattle.cilk_hypermap.proofs.views.Views.absorb.Given as goal

-- the views that remain on the right have their room, and the products with them equal those of the
-- start
abbrev pub invariant-loop-instance : goal.invariant-loop-instance
invariant-loop-instance g l =
    let m = g.M.Monoid in
    record {
      present : (j : Instance) → IsSome (view_at m.value l.right j) → IsSome (view_at m.value l.self j);
      room : (j : Instance) → size_at m.structure m.value l.right j ≤ room_at m.reserved l.self j;
      views : (j : Instance) → merged m.structure (view_at m.value l.self j) (view_at m.value l.right j) ≡ merged m.structure (view_at m.value l.initial.self j) (view_at m.value l.initial.right j);
      spent : (j : Instance) → room_at m.reserved l.initial.self j + size_at m.structure m.value l.right j ≤ room_at m.reserved l.self j + size_at m.structure m.value l.initial.right j;
    }

abbrev pub decreases-loop-instance : goal.decreases-loop-instance
decreases-loop-instance g l = length (entries l.right)
