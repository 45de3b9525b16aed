use Rattle.std.proofs.Common.{◌≡◌, suc, ◌+◌, [], length, map, reverse, refl, ap, sym, subst, ◌∙◌, arith}
use Rattle.std.proofs.lemmas.List.{length-map}
use Rattle.cilk_types.specs.declared.limits.TheConstants.{MAX_TICKS}
use Rattle.cilk_program.specs.declared.program.GlobalReducer.{GlobalReducer}
use Rattle.cilk_program.specs.SerialRun.{root_frame}
use Rattle.cilk_frames.specs.declared.activation.Activation.{Activation}
use Rattle.cilk_frames.specs.declared.small_ask.SmallAsk.TheVariants as small_ask
use Rattle.cilk_helpers.specs.declared.note.Asked.TheVariants.{SmallAsk}
use Rattle.cilk_serial.specs.Scoped.{Scoped}
use Rattle.cilk_helpers.specs.declared.rest.Rest.{Rest}
use Rattle.cilk_helpers.specs.Telling.{held_of}
use Rattle.cilk_program.specs.Sources.{source}
use Rattle.cilk_program.proofs.Naming.{well_named_parts}
use Rattle.cilk_serial.specs.declared.state.State.{State}
use Rattle.cilk_serial.proofs.Beginnings.{root_scoped}
use Rattle.cilk_serial.proofs.Driving.{first_shows}
use Rattle.cilk_helpers.proofs.Beginning.{tells_first, with_cursor}
use Rattle.cilk_helpers.proofs.retelling.Retelling.new.Goals as goal

pub function_cells-requires : goal.function_cells-requires
function_cells-requires c =
    let p = c.args.program.now in
    let named = well_named_parts (source p) p.well_named in
    named.main

pub returns-clause-tells : goal.returns-clause-tells
returns-clause-tells c = λ code inputs behaves replay.
    let prog = c.args.program.now in
    let p = source prog in
    let s0 : State = record { cells = c.in_ok-from_slice.field-0; views = c.new.result; output = c.new-2.result; events = c.in_ok-with_capacity.field-0; frames = 1 } in
    let more = c.in_ok-extend.ensures in
    let made = c.root-frame.ensures in
    let t = c.new-3.result in
    let top = c.new-3.ensures.top in
    let shows = first_shows p inputs s0 c.extend.new.self c.function_cells.result (c.in_ok-from_slice.ensures.items ∙ c.as_slice.ensures) c.new.ensures c.new-2.ensures.items c.in_ok-with_capacity.ensures.items refl more c.function_cells.ensures in
    let many : length (map (λ (r : GlobalReducer). r.kind) prog.reducers.items) ≡ length prog.reducers.items = length-map prog.reducers.items (λ (r : GlobalReducer). r.kind) in
    let first : c.len-reducers.result + 1 ≡ suc (length (map (λ (r : GlobalReducer). r.kind) prog.reducers.items)) = omega (arith, many, c.len-reducers.ensures) in
    let scoped = root_scoped p prog.well_named inputs (with_cursor c.root-frame.result replay.cursor) made.number
    (made.base ∙ c.len-globals.ensures) made.given made.outer made.result (made.first ∙ first) made.creator in
    tells_first code p inputs (record { state = c.extend.new.self; frames = t; asked = SmallAsk small_ask.Begin; left = MAX_TICKS }) (reverse c.args.notes.items) prog.well_named behaves replay shows
    (ap (λ v. v.items) more.events ∙ c.in_ok-with_capacity.ensures.items)
    (subst (λ (a : Activation Rest). Scoped p (with_cursor a replay.cursor) (root_frame p inputs) []) (sym top) scoped) c.new-3.ensures.below
    (ap (λ (a : Activation Rest). held_of a.cursor) top ∙ ap held_of made.cursor) refl refl

pub returns-clause-first : goal.returns-clause-first
returns-clause-first c = ap (λ v. v.items) c.in_ok-extend.ensures.events ∙ c.in_ok-with_capacity.ensures.items
