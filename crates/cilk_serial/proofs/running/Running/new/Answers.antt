use Rattle.std.proofs.Common.{refl, ap, sym, subst, ◌∙◌}
use Rattle.cilk_types.specs.declared.limits.TheConstants.{MAX_TICKS}
use Rattle.cilk_program.specs.Sources.{source}
use Rattle.cilk_program.specs.declared.ask.Ask.{Ask}
use Rattle.cilk_program.proofs.Naming.{well_named_parts}
use Rattle.cilk_serial.specs.declared.state.State.{State}
use Rattle.cilk_serial.specs.Going.{Going}
use Rattle.cilk_serial.proofs.Driving.{first_shows, goes_first}
use Rattle.cilk_serial.proofs.running.Running.new.Goals as goal

pub function_cells-requires : goal.function_cells-requires
function_cells-requires c =
    let p = c.args.program.now in
    let named = well_named_parts (source p) p.well_named in
    named.main

pub returns-clause-going : goal.returns-clause-going
returns-clause-going c = λ inputs.
    let p = c.args.program.now in
    let s0 : State = record { cells = c.in_ok-from_slice.field-0; views = c.new.result; output = c.new-2.result; events = c.in_ok-with_capacity.field-0; frames = 1 } in
    let more = c.in_ok-extend.ensures in
    let root = c.in_ok-frame.ensures in
    let shows = first_shows (source p) inputs s0 c.extend.new.self c.function_cells.result (c.in_ok-from_slice.ensures.items ∙ c.as_slice.ensures) c.new.ensures c.new-2.ensures.items c.in_ok-with_capacity.ensures.items refl more c.function_cells.ensures in
    subst (λ (k : Ask). Going c.args.code.now (source p) inputs (record { state = c.extend.new.self; frames = c.new-3.result; ask = k; left = MAX_TICKS })) (sym c.new-4.ensures)
    (goes_first c.args.code.now (source p) inputs c.extend.new.self c.new-3.result c.in_ok-frame.frame p.well_named c.requires shows (ap (λ v. v.items) more.events ∙ c.in_ok-with_capacity.ensures.items)
    (root.stands inputs c.requires) root.owes (root.scoped inputs) c.new-3.ensures.top c.new-3.ensures.below)

pub returns-clause-unbegun : goal.returns-clause-unbegun
returns-clause-unbegun c = let more = c.in_ok-extend.ensures in ap (λ v. v.items) more.events ∙ c.in_ok-with_capacity.ensures.items
