use Rattle.cilk_tree.specs.Columns.{AreFirstSpawns}
use Rattle.cilk_plan.proofs.Whole.{told_by_blocks}
use Rattle.cilk_plan.proofs.program_plan.ProgramPlan.firsts.Goals as goal

pub returns : goal.returns
returns c =
    let inside = c.self.inside in
    told_by_blocks AreFirstSpawns c.args.self.now inside.accepted.value inside.events inside.syncs.items inside.firsts.items c.as_slice.result.now c.self.view_is c.self.invariant.6
    c.self.invariant.10 c.as_slice.ensures.value
