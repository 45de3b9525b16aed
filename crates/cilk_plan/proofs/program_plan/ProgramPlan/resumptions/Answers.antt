use Rattle.cilk_plan.proofs.Whole.{resumptions_told}
use Rattle.cilk_plan.proofs.program_plan.ProgramPlan.resumptions.Goals as goal

pub returns : goal.returns
returns c =
    let inside = c.self.inside in
    resumptions_told c.args.self.now inside.accepted.value inside.events inside.resumptions.items c.as_slice.result.now c.self.view_is c.self.invariant.8 c.as_slice.ensures.value
