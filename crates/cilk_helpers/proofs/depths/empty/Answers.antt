use Rattle.std.proofs.Common.{◌+◌, arith}
use Rattle.cilk_helpers.specs.declared.rounds.Share.{Share}
use Rattle.cilk_helpers.specs.Replayed.{AreFitting, IsOwn}
use Rattle.cilk_helpers.proofs.Blank.{idle}
use Rattle.cilk_helpers.proofs.More.{more}
use Rattle.cilk_helpers.proofs.Shares.{numbered_more, unowned}
use Rattle.cilk_helpers.proofs.depths.empty.Goals as goal

pub each-preserved : goal.each-preserved
each-preserved c =
    let made : Share = record { helper = c.each.place + 1; frames = c.new.result; spent = c.args.spent } in
    let n = c.each.invariant.count in
    record {
      count = let len = c.in_ok-push.ensures.len in omega (arith, n, len);
      numbers = numbered_more c.each.shares.items c.push.new.self.items made c.in_ok-push.ensures.items c.each.invariant.numbers (omega (arith, n));
      none = more (IsOwn c.args.helpers) c.each.shares.items c.push.new.self.items made c.in_ok-push.ensures.items c.each.invariant.none
          (unowned c.args.helpers made c.new.ensures.items);
      fits = λ p.
          more (AreFitting p) c.each.shares.items c.push.new.self.items made c.in_ok-push.ensures.items (c.each.invariant.fits p) (idle p made c.new.ensures.items);
    }
