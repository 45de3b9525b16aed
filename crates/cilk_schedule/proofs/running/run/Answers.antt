use Rattle.std.proofs.Common.{◌-◌, refl, sym, ap, ◌∙◌, arith, slice_get}
use Rattle.cilk_schedule.proofs.Started.{told_starts}
use Rattle.cilk_schedule.proofs.Stepping.{told_steps}
use Rattle.cilk_scheduler.specs.declared.choice.Choice.TheVariants as choices
use Rattle.cilk_scheduler.proofs.Placed.{get_some}
use Rattle.cilk_schedule.proofs.running.run.Goals as goal
use Rattle.cilk_schedule.proofs.Syncing.{syncs_are_steps, waits_are_steps}
use Rattle.cilk_schedule.proofs.Departing.{told_ends}
use Rattle.cilk_schedule.proofs.Faults.{memory_stops, refused_stops}
use Rattle.cilk_schedule.proofs.Standing.{if_err_always, if_err_gone, kept_by, kept_gone, stand_same}

pub act-requires-clause-accepted : goal.act-requires-clause-accepted
act-requires-clause-accepted g c =
    let t = c.come.ensures.asked in
    let it = get_some c.come.new.scheduler.frames.items c.in-Some.frame t.here in
    record { frame_state = it.0; sits = it.1; accepted = sym (c.refused.ensures it.0 it.1) ∙ c.in_default-refused.is }

pub returns-clause-steps : goal.returns-clause-steps
returns-clause-steps g c =
    let t = c.come.ensures.asked in
    let it = get_some c.come.new.scheduler.frames.items c.in-Some.frame t.here in
    let ready = c.in-Some.ensures in
    let first = ready.first in
    told_steps c.args.code.now c.args.input.now c.args.scheduler.now c.come.new.scheduler c.act.new.scheduler c.args.worker (c.args.worker - 1) c.in-Some.frame (omega (arith, first)) ready c.come.ensures.went
    (record { frame_state = it.0; sits = it.1; accepted = sym (c.refused.ensures it.0 it.1) ∙ c.in_default-refused.is }) c.act.result c.act.ensures.wrote

pub returns-clause-starts : goal.returns-clause-starts
returns-clause-starts g c =
    let t = c.come.ensures.asked in
    let it = get_some c.come.new.scheduler.frames.items c.in-Some.frame t.here in
    let ready = c.in-Some.ensures in
    let first = ready.first in
    told_starts c.args.code.now c.args.input.now c.args.scheduler.now c.come.new.scheduler c.act.new.scheduler c.args.worker (c.args.worker - 1) c.in-Some.frame (omega (arith, first)) ready c.come.ensures.went
    (record { frame_state = it.0; sits = it.1; accepted = sym (c.refused.ensures it.0 it.1) ∙ c.in_default-refused.is }) c.act.result c.act.ensures.starts

pub returns-then-stays_behind-clause-waits : goal.returns-then-stays_behind-clause-waits
returns-then-stays_behind-clause-waits g c = λ still.
    let ready = c.in-Some.ensures in
    let first = ready.first in
    let y = c.stays_behind.ensures.waits c.if-stays_behind.true in
    waits_are_steps c.args.code.now c.args.input.now c.args.scheduler.now c.come.new.scheduler _ c.args.worker (c.args.worker - 1) c.in-Some.frame (omega (arith, first)) ready c.come.ensures.went y.0 y.1 c.in_ok-wait_at.ensures.stays still

pub returns-clause-syncs : goal.returns-clause-syncs
returns-clause-syncs g c =
    let t = c.come.ensures.asked in
    let it = get_some c.come.new.scheduler.frames.items c.in-Some.frame t.here in
    let ready = c.in-Some.ensures in
    let first = ready.first in
    syncs_are_steps c.args.code.now c.args.input.now c.args.scheduler.now c.come.new.scheduler c.act.new.scheduler c.args.worker (c.args.worker - 1) c.in-Some.frame (omega (arith, first)) ready c.come.ensures.went
    (record { frame_state = it.0; sits = it.1; accepted = sym (c.refused.ensures it.0 it.1) ∙ c.in_default-refused.is }) (c.stays_behind.ensures.passes c.if-stays_behind.false) c.act.result c.act.ensures.synced

pub returns-clause-ends : goal.returns-clause-ends
returns-clause-ends g c =
    let t = c.come.ensures.asked in
    let it = get_some c.come.new.scheduler.frames.items c.in-Some.frame t.here in
    let ready = c.in-Some.ensures in
    let first = ready.first in
    told_ends c.args.code.now c.args.input.now c.args.scheduler.now c.come.new.scheduler c.act.new.scheduler c.args.worker (c.args.worker - 1) c.in-Some.frame (omega (arith, first)) ready c.come.ensures.went
    (record { frame_state = it.0; sits = it.1; accepted = sym (c.refused.ensures it.0 it.1) ∙ c.in_default-refused.is }) c.act.result c.act.ensures.ends

pub returns-in-Some-refused-clause-faults : goal.returns-in-Some-refused-clause-faults
returns-in-Some-refused-clause-faults g c =
    let ready = c.in-Some.ensures in
    let first = ready.first in
    refused_stops c.args.code.now c.args.input.now c.args.scheduler.now c.come.new.scheduler c.args.worker (c.args.worker - 1) c.in-Some.frame (omega (arith, first)) ready c.come.ensures.went c.in-Some-refused.fault
    (λ a at. sym (c.refused.ensures a at) ∙ c.in-Some-refused.is) (c.stays_behind.ensures.passes c.if-stays_behind.false) c.stop_at.result
    (λ a at. c.stop_at.ensures a (ap (λ l. slice_get l c.in-Some.frame) c.as_slice.ensures.value ∙ at))

pub returns-clause-faults : goal.returns-clause-faults
returns-clause-faults g c = memory_stops c.args.code.now c.args.input.now c.args.scheduler.now c.act.new.scheduler (choices.Run c.args.worker) c.act.result c.act.ensures.memory

pub returns-clause-kept : goal.returns-clause-kept
returns-clause-kept g c = if_err_gone c.args.code.now c.args.input.now c.args.scheduler.now c.come.new.scheduler c.act.new.scheduler c.in-Some.frame c.act.result c.come.ensures.went c.act.ensures.kept

pub returns-in_err-wait_at-clause-kept : goal.returns-in_err-wait_at-clause-kept
returns-in_err-wait_at-clause-kept g c =
    let mid = c.come.new.scheduler in
    if_err_always _ _
    (kept_gone c.args.code.now c.args.input.now c.args.scheduler.now mid c.wait_at.new.scheduler c.in-Some.frame c.come.ensures.went
    (kept_by mid c.wait_at.new.scheduler c.in_err-wait_at.ensures.stands (ap (λ z. z.items) c.wait_at.ensures.rest.journal) c.wait_at.ensures.outcome))

pub returns-in-Some-refused-clause-kept : goal.returns-in-Some-refused-clause-kept
returns-in-Some-refused-clause-kept g c =
    let mid = c.come.new.scheduler in
    kept_gone c.args.code.now c.args.input.now c.args.scheduler.now mid mid c.in-Some.frame c.come.ensures.went (kept_by mid mid (stand_same _ _ refl) refl refl)
