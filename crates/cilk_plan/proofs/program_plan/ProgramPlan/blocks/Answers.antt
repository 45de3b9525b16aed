use Rattle.cilk_tree.specs.Columns.{AreBlocks}
use Rattle.cilk_plan.proofs.Whole.{told_by_blocks}
use Rattle.cilk_plan.proofs.program_plan.ProgramPlan.blocks.Goals as goal

pub returns : goal.returns
returns c =
    let inside = c.self.inside in
    told_by_blocks AreBlocks c.args.self.now inside.accepted.value inside.events inside.syncs.items inside.blocks.items c.as_slice.result.now c.self.view_is c.self.invariant.6
    c.self.invariant.9 c.as_slice.ensures.value
