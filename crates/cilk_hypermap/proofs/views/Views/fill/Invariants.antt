use Rattle.std.proofs.Common.{◌≡◌, ℕ, ◌<◌, Some, IsSome, slice_get}
use Rattle.std.specs.Map.{keys_of}
use Rattle.cilk_types.specs.declared.event.Instance.{Instance}
use Rattle.cilk_hypermap.specs.Views.{entries, view_at, FillsIn}
use Rattle.cilk_hypermap.proofs.views.Views.fill.Given as goal

-- the first views have been filled in, at their instances
abbrev pub invariant-loop-i : goal.invariant-loop-i
invariant-loop-i g l =
    let m = g.M.Monoid in
    record {
      views : FillsIn m.structure m.value (λ j. IsSome (view_at m.value l.later j)) l.initial.self l.self;
      present : (k : ℕ) (q : Instance) → k < l.i → slice_get (keys_of (entries l.later)) k ≡ Some q → IsSome (view_at m.value l.self q);
    }
