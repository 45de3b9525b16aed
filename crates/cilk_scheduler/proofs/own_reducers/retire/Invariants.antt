use Rattle.std.proofs.Common.{◌≡◌, take}
use Rattle.cilk_types.specs.declared.event.Instance.{Instance}
use Rattle.cilk_monoid.specs.declared.kind.MonoidKind.{MonoidKind}
use Rattle.cilk_hypermap.specs.Hypermap.{view_in}
use Rattle.cilk_scheduler.specs.Retired.{without_own}
use Rattle.cilk_scheduler.proofs.own_reducers.retire.Given as goal

abbrev pub invariant-each : goal.invariant-each
invariant-each l = (k : MonoidKind) (j : Instance) → view_in l.views k j ≡ without_own l.frame l.first (take l.number l.kinds) k j (view_in l.fn.views k j)
