use Rattle.cilk_helpers.specs.declared.whole.Replay.{Replay}
use Rattle.cilk_helpers.specs.Whole.{IsKept}
use Rattle.cilk_helpers.proofs.Blank.{blank}
use Rattle.cilk_helpers.proofs.More.{more}
use Rattle.cilk_helpers.proofs.depths.blanks.Goals as goal

pub each-preserved : goal.each-preserved
each-preserved c = λ code p inputs.
    let made : Replay = record { callee = c.nothing.result; notes = c.new.result } in
    more (IsKept code p inputs) c.each.list.items c.push.new.self.items made c.in_ok-push.ensures.items (c.each.invariant code p inputs)
    (blank code p inputs made c.nothing.ensures c.new.ensures.items)
