use Rattle.std.proofs.Common.{◌≡◌, ◌-◌, suc, length}
use Rattle.cilk_types.specs.declared.event.Instance.{Instance}
use Rattle.cilk_monoid.specs.declared.kind.MonoidKind.{MonoidKind}
use Rattle.cilk_monoid.specs.Kinds.{structure_of}
use Rattle.cilk_monoid.specs.Ranges.{view_after}
use Rattle.cilk_hypermap.specs.Hypermap.{value_in}
use Rattle.cilk_shared.specs.Reducers.{ends_from, retired}
use Rattle.cilk_shared.proofs.views.retire.Given as goal

abbrev pub invariant-each : goal.invariant-each
invariant-each l = (k : MonoidKind) (i : Instance)
    → view_after (structure_of k) i (ends_from l.frame (suc l.place) (length l.own.kinds - l.place)) (value_in l.views k i) ≡ view_after (structure_of k) i (retired l.frame l.own) (value_in l.initial.views k i)
