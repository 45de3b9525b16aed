use Rattle.std.proofs.Common.{◌≡◌, ℕ, ◌+◌, ◌<◌, ◌≤◌, Some, IsSome, slice_get}
use Rattle.std.specs.Map.{keys_of}
use Rattle.cilk_types.specs.declared.event.Instance.{Instance}
use Rattle.cilk_hypermap.specs.Views.{entries, view_at, room_at, size_at, FillsIn}
use Rattle.cilk_hypermap.proofs.views.Views.fit.Given as goal

-- the first instances have their room, and none has lost any
abbrev pub invariant-loop-i : goal.invariant-loop-i
invariant-loop-i g l =
    let m = g.M.Monoid in
    record {
      views : FillsIn m.structure m.value (λ j. IsSome (view_at m.value l.middle j)) l.initial.self l.self;
      kept : (j : Instance) → room_at m.reserved l.initial.self j ≤ room_at m.reserved l.self j;
      present : (k : ℕ) (q : Instance) → k < l.i → slice_get (keys_of (entries l.middle)) k ≡ Some q → IsSome (view_at m.value l.self q);
      room : (k : ℕ) (q : Instance) → k < l.i → slice_get (keys_of (entries l.middle)) k ≡ Some q → size_at m.structure m.value l.middle q + size_at m.structure m.value l.right q ≤ room_at m.reserved l.self q;
    }
