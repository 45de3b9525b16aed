use Rattle.std.proofs.Common.{◌+◌, ℕ, List, sym, ap, ◌∙◌, subst, arith, refl}
use Rattle.cilk_tree.specs.declared.event_order.EventOrder.{EventOrder}
use Rattle.cilk_tree.specs.Placing.{HasMet, Met}
use Rattle.cilk_tree.proofs.Placing.{blocks_last, ends_last, firsts_last, met_first, met_plain, next_plain, next_resume, next_spawn, next_sync, resumed_last}
use Rattle.cilk_tree.proofs.blocks.blocks_of.Goals as goal
use Rattle.cilk_tree.proofs.blocks.blocks_of.Goals.{in-Spawn+in_ok-spawn-in-Spawn, in-Resume, in-Sync, in_default}

pub each-init : goal.each-init
each-init c =
    let s : EventOrder = c.args.plan.now in
    let p = c.in_ok-pass.pass in
    let h = c.in_ok-pass.ensures in
    let many = ap (λ (n : ℕ). n + 1) c.count-count.ensures.events in
    subst (λ (l : List ℕ). HasMet s 0 l p.firsts.items p.blocks.items p.resumptions.items p.pending.items) (sym h.syncs)
    (subst (λ (l : List ℕ). HasMet s 0 _ l p.blocks.items p.resumptions.items p.pending.items) (sym h.firsts)
    (subst (λ (l : List ℕ). HasMet s 0 _ _ p.blocks.items p.resumptions.items l) (sym h.pending)
    (met_first s c.laws.ensures.order p.blocks.items p.resumptions.items h.blocks.0 (h.blocks.1 ∙ many) h.resumptions.0 (h.resumptions.1 ∙ many))))

pub spawn-requires-clause-there : goal.spawn-requires-clause-there
spawn-requires-clause-there c = (next_spawn c.args.plan.now c.each.met _ c.kind_behind.result c.kind_behind.ensures c.in-Spawn.is, c.frame_behind.ensures)

pub resume-requires-clause-plain : goal.resume-requires-clause-plain
resume-requires-clause-plain c = next_resume c.args.plan.now c.each.met _ c.kind_behind.result c.kind_behind.ensures c.in-Resume.is

pub sync-requires-clause-there : goal.sync-requires-clause-there
sync-requires-clause-there c = (next_sync c.args.plan.now c.each.met c.kind_behind.result c.kind_behind.ensures c.in-Sync.is, c.frame_behind-in-Sync.ensures)

pub each-preserved : goal.each-preserved
each-preserved c =
    let s : EventOrder = c.args.plan.now in
    let i : ℕ = c.each.met in
    let events = c.count-count.ensures.events in
    let test = c.each-test.true in
    elim c.match-kind_behind.branch [
      | in-Spawn+in_ok-spawn-in-Spawn w ↦ subst (Met s (i + 1)) (sym w.pass-is) w.in_ok-spawn-in-Spawn.ensures
      | in-Resume w ↦ subst (Met s (i + 1)) (sym w.pass-is) w.resume.ensures
      | in-Sync w ↦ subst (Met s (i + 1)) (sym w.pass-is) w.sync.ensures
      | in_default w ↦ (
          let plain = next_plain s i c.kind_behind.result c.kind_behind.ensures w.in_default.not-Spawn w.in_default.not-Resume w.in_default.not-Sync in
          subst (Met s (i + 1)) (sym w.pass-is)
          (met_plain s c.laws.ensures.order i (i + 1) refl (omega (arith, events, test)) _ _ _ _ _ c.each.invariant plain.0 plain.1 plain.2))
    ]

pub returns-clause-syncs : goal.returns-clause-syncs
returns-clause-syncs c =
    let events = c.count-count.ensures.events in
    let past = c.each-test.false in
    ends_last c.args.plan.now c.laws.ensures.order c.each.met (omega (arith, events, past)) (let most = c.each.auto.met-end in omega (arith, most, events)) _ _ _ _ _ c.each.invariant

pub returns-clause-firsts : goal.returns-clause-firsts
returns-clause-firsts c =
    let events = c.count-count.ensures.events in
    let past = c.each-test.false in
    firsts_last c.args.plan.now c.laws.ensures.order c.each.met (omega (arith, events, past)) (let most = c.each.auto.met-end in omega (arith, most, events)) _ _ _ _ _ c.each.invariant

pub returns-clause-blocks : goal.returns-clause-blocks
returns-clause-blocks c =
    let events = c.count-count.ensures.events in
    let past = c.each-test.false in
    blocks_last c.args.plan.now c.laws.ensures.order c.each.met (omega (arith, events, past)) (let most = c.each.auto.met-end in omega (arith, most, events)) _ _ _ _ _ c.each.invariant

pub returns-clause-resumptions : goal.returns-clause-resumptions
returns-clause-resumptions c =
    let events = c.count-count.ensures.events in
    let past = c.each-test.false in
    resumed_last c.args.plan.now c.laws.ensures.order c.each.met (omega (arith, events, past)) (let most = c.each.auto.met-end in omega (arith, most, events)) _ _ _ _ _ c.each.invariant
