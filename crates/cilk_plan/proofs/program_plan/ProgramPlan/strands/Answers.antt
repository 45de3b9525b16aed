use Rattle.cilk_plan.proofs.Whole.{strands_told}
use Rattle.cilk_plan.proofs.program_plan.ProgramPlan.strands.Goals as goal

pub returns : goal.returns
returns c =
    let inside = c.self.inside in
    strands_told c.args.self.now inside.accepted.value inside.events inside.strands.items c.as_slice.result.now c.self.view_is c.self.invariant.4 c.self.invariant.7 c.as_slice.ensures.value
