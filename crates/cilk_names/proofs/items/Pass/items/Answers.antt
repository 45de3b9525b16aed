-- One more item, and the end.
use Rattle.std.proofs.Common.{map}
use Rattle.cilk_program.specs.Programs.{function, loop}
use Rattle.cilk_names.specs.States.{known_of}
use Rattle.cilk_names.proofs.AllItems.{items_known, items_step, functions_step, loops_step, items_known_end, items_end, functions_end, loops_end}
use Rattle.cilk_names.proofs.items.Pass.items.Goals as goal

pub each-preserved : goal.each-preserved
each-preserved c = record {
  known = items_known (known_of c.args.self.now) (known_of c.each.self) (known_of c.item.new.self) c.args.items.now c.each.item-index c.item-item.result c.each-test.true c.item-item.is
      c.in_ok-item.ensures.known c.each.invariant.known;
  faults = items_step (known_of c.args.self.now) (known_of c.each.self) (known_of c.item.new.self) c.args.items.now c.each.item-index c.item-item.result c.each-test.true c.item-item.is
      c.in_ok-item.ensures.known c.args.self.now.scene.first c.each.self.scene.first c.item.new.self.scene.first c.each.invariant.faults c.in_ok-item.ensures.faults;
  functions = functions_step (known_of c.args.self.now) (known_of c.each.self) (known_of c.item.new.self) c.args.items.now c.each.item-index c.item-item.result c.each-test.true c.item-item.is
      c.in_ok-item.ensures.known (map function c.args.self.now.functions.items) (map function c.each.self.functions.items) (map function c.item.new.self.functions.items)
      c.each.invariant.functions c.in_ok-item.ensures.functions;
  loops = loops_step (known_of c.args.self.now) (known_of c.each.self) (known_of c.item.new.self) c.args.items.now c.each.item-index c.item-item.result c.each-test.true c.item-item.is
      c.in_ok-item.ensures.known (map loop c.args.self.now.scene.loops.items) (map loop c.each.self.scene.loops.items) (map loop c.item.new.self.scene.loops.items)
      c.each.invariant.loops c.in_ok-item.ensures.loops;
}

pub returns-clause-known : goal.returns-clause-known
returns-clause-known c = items_known_end (known_of c.args.self.now) (known_of c.each.self) c.args.items.now c.each.item-index c.each-test.false c.each.invariant.known

pub returns-clause-faults : goal.returns-clause-faults
returns-clause-faults c =
    items_end (known_of c.args.self.now) (known_of c.each.self) c.args.items.now c.each.item-index c.each-test.false c.args.self.now.scene.first c.each.self.scene.first c.each.invariant.faults

pub returns-clause-functions : goal.returns-clause-functions
returns-clause-functions c =
    functions_end (known_of c.args.self.now) (known_of c.each.self) c.args.items.now c.each.item-index c.each-test.false (map function c.args.self.now.functions.items) (map function c.each.self.functions.items) c.each.invariant.functions

pub returns-clause-loops : goal.returns-clause-loops
returns-clause-loops c =
    loops_end (known_of c.args.self.now) (known_of c.each.self) c.args.items.now c.each.item-index c.each-test.false (map loop c.args.self.now.scene.loops.items) (map loop c.each.self.scene.loops.items) c.each.invariant.loops
