use Rattle.std.proofs.Common.{◌≡◌, suc, ◌+◌, length, map, ◌∙◌, arith}
use Rattle.std.proofs.lemmas.List.{length-map}
use Rattle.cilk_program.specs.declared.program.GlobalReducer.{GlobalReducer}
use Rattle.cilk_program.specs.Sources.{source}
use Rattle.cilk_serial.proofs.Beginnings.{root_scoped}
use Rattle.cilk_serial.proofs.frames.root.Goals as goal

pub returns-clause-scoped : goal.returns-clause-scoped
returns-clause-scoped c = λ inputs.
    let p = c.args.program.now in
    let made = c.root-2.ensures in
    let many : length (map (λ (r : GlobalReducer). r.kind) p.reducers.items) ≡ length p.reducers.items = length-map p.reducers.items (λ (r : GlobalReducer). r.kind) in
    let first : c.len-reducers.result + 1 ≡ suc (length (map (λ (r : GlobalReducer). r.kind) p.reducers.items)) = omega (arith, many, c.len-reducers.ensures) in
    root_scoped (source p) p.well_named inputs c.root-2.result made.number (made.base ∙ c.len-globals.ensures) made.given made.outer made.result (made.first ∙ first) made.creator
