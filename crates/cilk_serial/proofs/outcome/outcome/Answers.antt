use Rattle.std.proofs.Common.{length, map, take, ap, ◌∙◌, arith, w64}
use Rattle.std.proofs.lemmas.Int.{to_z-of_z}
use Rattle.std.proofs.lemmas.List.{length-map}
use Rattle.cilk_program.specs.declared.program.GlobalReducer.{GlobalReducer}
use Rattle.cilk_program.specs.Sources.{source}
use Rattle.cilk_program.proofs.Naming.{well_named_parts}
use Rattle.cilk_frames.specs.Leaving.{finals_of}
use Rattle.cilk_serial.proofs.Endings.{leaves}
use Rattle.cilk_serial.proofs.Finals.{finals_shown}
use Rattle.cilk_serial.proofs.outcome.outcome.Goals as goal

pub finals-requires : goal.finals-requires
finals-requires c =
    let p = c.args.program.now in
    let named = well_named_parts (source p) p.well_named in
    let few = named.reducers in
    let many = length-map p.reducers.items (λ (r : GlobalReducer). r.kind) in
    let same = ap length (c.as_slice.ensures ∙ c.in_ok-kinds.ensures ∙ ap (λ rs. map (λ (r : GlobalReducer). r.kind) rs) c.deref.ensures.value) in
    omega (arith, few, many, same)

pub new-requires-4 : goal.new-requires-4
new-requires-4 c = c.requires.1.counted

pub returns-clause-ran : goal.returns-clause-ran
returns-clause-ran c = λ inputs h.
    let p = c.args.program.now in
    let s = c.args.state in
    let sh = h.shows in
    let m = h.memory in
    leaves (source p) p.well_named inputs s c.args.value _ c.new.result c.new-2.result c.new-3.result c.new-4.result h (to_z-of_z w64 c.args.value c.ranges.value)
    (c.new.ensures ∙ c.truncate.ensures.items ∙ ap (λ n. take n s.cells.items) c.len.ensures)
    c.new-2.ensures
    (c.new-3.ensures ∙ c.in_ok-reducers.ensures ∙ ap (finals_of s.views 0) (c.as_slice.ensures ∙ c.in_ok-kinds.ensures ∙ ap (λ rs. map (λ (r : GlobalReducer). r.kind) rs) c.deref.ensures.value) ∙ finals_shown s.views m.store sh.view 0 (source p).reducers)
    c.new-4.ensures
