use Rattle.std.proofs.Common.{None, Some, refl, ap, ◌∙◌}
use Rattle.cilk_program.specs.Scopes.{instances_in}
use Rattle.cilk_program.specs.SerialRun.{global_reducer}
use Rattle.cilk_frames.specs.declared.activation.Activation.{Activation}
use Rattle.cilk_frames.proofs.Links.{sees_function}
use Rattle.cilk_frames.proofs.beginnings.function.Goals as goal

pub returns-clause-sees : goal.returns-clause-sees
returns-clause-sees g c = λ p scope more sees.
    let made : Activation g.row.C.Denot = record { cursor = c.args.cursor; number = c.args.number; base = c.args.base; first = 1; given = c.in_ok-given.given; outer = None; result = c.result_cell.result; creator = Some c.args.call.now.function } in
    sees_function p more made c.args.number c.args.base c.args.call.now scope refl refl refl (c.in_ok-given.ensures scope sees ∙ ap (instances_in global_reducer scope) c.as_slice.ensures) refl

pub returns-clause-given : goal.returns-clause-given
returns-clause-given g c = λ scope sees. c.in_ok-given.ensures scope sees ∙ ap (instances_in global_reducer scope) c.as_slice.ensures
