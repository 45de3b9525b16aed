use Rattle.std.proofs.Common.{◌≡◌, ℕ, length, sym, ap, ◌∙◌, subst, arith, to_z, of_z, w64}
use Rattle.std.proofs.lemmas.Int.{to_z-of_z}
use Rattle.cilk_program.specs.Sources.{source}
use Rattle.cilk_program.proofs.Naming.{well_named_parts}
use Rattle.cilk_shared.specs.Values.{AreLastValues}
use Rattle.cilk_plan.proofs.Telling.{for_ok}
use Rattle.cilk_frames.specs.Leaving.{outcome_of}
use Rattle.cilk_threads.specs.Finals.{IsMadeOf}
use Rattle.cilk_threads.proofs.Leaving.{piece_made}
use Rattle.cilk_threads.proofs.outcome.outcome.Goals as goal

pub outcome-requires-clause-few : goal.outcome-requires-clause-few
outcome-requires-clause-few c =
    let laid = c.requires.layout in
    let same = ap length laid.reducers in
    let parts = well_named_parts (source c.args.program.now) c.args.program.now.well_named in
    let few = parts.reducers in
    omega (arith, same, few)

pub returns : goal.returns
returns c =
    let left = outcome_of c.args.layout.now c.as_slice.result.now c.parted-views.result.views in
    let this = IsMadeOf (source c.args.program.now) c.args.piece.event_order c.args.piece.reducers c.args.value in
    let whole = piece_made (source c.args.program.now) c.args.yard.event_order c.args.piece.event_order c.requires.yard.1 c.args.piece.reducers c.args.layout.now
    c.as_slice.result.now c.parted-views.result.views c.args.value c.requires.layout c.requires.globals c.requires.opens
    (subst (AreLastValues c.args.yard.event_order (length (source c.args.program.now).openings)) (sym c.as_slice.ensures.value)
    (subst (λ (n : ℕ). AreLastValues c.args.yard.event_order n c.in-Ok.globals.items) c.len.ensures c.in-Ok.ensures.ok))
    c.args.piece.from c.args.piece.upto c.requires.all.0 c.requires.all.1 c.parted-views.ensures.views in
    for_ok (λ o. o ≡ left (to_z w64 (of_z w64 c.args.value))) this c.outcome.result
    (λ o is. subst this (sym (is ∙ ap left (to_z-of_z w64 c.args.value c.ranges.value))) whole)
    c.outcome.ensures
