use Rattle.cilk_plan.proofs.Whole.{syncs_told}
use Rattle.cilk_plan.proofs.program_plan.ProgramPlan.syncs.Goals as goal

pub returns : goal.returns
returns c =
    let inside = c.self.inside in
    syncs_told c.args.self.now inside.accepted.value inside.events inside.syncs.items c.as_slice.result.now c.self.view_is c.self.invariant.6 c.as_slice.ensures.value
