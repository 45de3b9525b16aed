-- The loop is put in its reserved place.
use Rattle.std.proofs.Common.{◌≡◌, [], ◌∷◌, rules}
use Rattle.cilk_program.specs.declared.program.Loop.{Loop}
use Rattle.cilk_names.proofs.Loops.{loop_left}
use Rattle.cilk_names.proofs.scene.Resolver.leave.Goals as goal

pub returns-clause-loops : goal.returns-clause-loops
returns-clause-loops c =
    let made : Loop = record { at = c.args.outside.at; within = c.args.outside.frame.body; cells = c.args.self.now.frame.cells; body = c.in_ok-row.row } in
    let one : c.in_ok-row.row.items ≡ c.args.body.value ∷ [] = search rules in
    loop_left c.args.self.now.loops.items c.args.outside.number made c.args.body.value one
