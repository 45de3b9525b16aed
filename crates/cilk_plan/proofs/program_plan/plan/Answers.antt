use Rattle.std.proofs.Common.{◌≡◌, List, sym, subst}
use Rattle.cilk_types.specs.declared.event.Event.{Event}
use Rattle.cilk_lower.specs.Lowered.{IsLowered}
use Rattle.cilk_tree.specs.Resumptions.{AreResumptions}
use Rattle.cilk_program.specs.Sources.{source}
use Rattle.cilk_checker.specs.Determinate.{AcceptedRun, AreFramesOf, HasDeterminateRun}
use Rattle.cilk_tree.specs.Columns.{AreBlockEnds, AreBlocks, AreFirstSpawns, AreStrands}
use Rattle.cilk_plan.specs.Plans.{IsPlanOf}
use Rattle.cilk_plan.proofs.program_plan.plan.Goals as goal

pub blocks_of-requires : goal.blocks_of-requires
blocks_of-requires c = λ k spawned.
    let h = c.plans_have_continuations.ensures c.args.accepted.now c.in_ok-events.events c.program-program.ensures.determinate c.in_ok-events.ensures c.laws.ensures.order k spawned in
    (h.continuation.sync, h.is.ends)

pub invariant_of-result : goal.invariant_of-result
invariant_of-result c =
    let a = c.args.accepted.now in
    let same = c.program-program.ensures.value in
    let code = c.code.result.now in
    let Goal : AcceptedRun → Type 0 = λ r. HasDeterminateRun r × (c.program-program.result.now ≡ r.program) × (c.input.result.now ≡ r.input) × IsLowered (source r.program) code × IsPlanOf r c.in_ok-events.events × AreFramesOf r c.frames.result.now × AreBlockEnds c.in_ok-events.events c.in_ok-syncs.field-0.syncs.items × AreStrands r.trace c.in_ok-strands.strands.items × AreResumptions c.in_ok-events.events c.in_ok-syncs.field-0.resumptions.items × AreBlocks c.in_ok-events.events c.in_ok-syncs.field-0.syncs.items c.in_ok-syncs.field-0.blocks.items × AreFirstSpawns c.in_ok-events.events c.in_ok-syncs.field-0.syncs.items c.in_ok-syncs.field-0.firsts.items in
    let h : Goal a = (
      c.program-program.ensures.determinate,
      same,
      c.input.ensures.value,
      (c.code.ensures.asks, c.code.ensures.rooms, c.code.ensures.layout),
      c.in_ok-events.ensures,
      c.frames.ensures,
      c.in_ok-syncs.ensures.syncs,
      subst (λ (es : List Event). AreStrands es c.in_ok-strands.strands.items) c.trace.ensures.value c.in_ok-strands.ensures,
      c.in_ok-syncs.ensures.resumptions,
      c.in_ok-syncs.ensures.blocks,
      c.in_ok-syncs.ensures.firsts,
    ) in
    subst Goal (sym c.of.ensures) h
