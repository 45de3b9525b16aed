use Rattle.std.proofs.Common.{◌≡◌, ◌+◌, suc, refl, sym, ap, ◌∙◌, subst, arith, slice_get}
use Rattle.std.specs.Prelude.{Result, Ok, Err, IfOk}
use Rattle.cilk_scheduler.specs.declared.choice.Act.{Act}
use Rattle.cilk_scheduler.specs.declared.choice.Choice.TheVariants as choices
use Rattle.cilk_scheduler.specs.declared.choice.Stop.{Stop}
use Rattle.cilk_scheduler.specs.declared.choice.Told.{Told}
use Rattle.cilk_scheduler.specs.declared.choice.Told.TheVariants as told
use Rattle.cilk_scheduler.proofs.Placed.{get_some}
use Rattle.cilk_schedule.specs.Passing.{StealsAreSteps, WaitsAreSteps, SkipsAreSteps}
use Rattle.cilk_schedule.specs.Sound.{IsAccepted}
use Rattle.cilk_schedule.proofs.Departing.{told_ends}
use Rattle.cilk_schedule.proofs.Faults.{memory_stops, refused_stops}
use Rattle.cilk_schedule.proofs.Leading.{choices_reach, if_ok_reaches}
use Rattle.cilk_schedule.proofs.Standing.{if_err_always, if_err_gone, kept_by, kept_gone, stand_same}
use Rattle.cilk_schedule.proofs.Started.{told_starts}
use Rattle.cilk_schedule.proofs.Stepping.{if_ok, told_steps}
use Rattle.cilk_schedule.proofs.Syncing.{syncs_are_steps, waits_are_steps}
use Rattle.cilk_schedule.proofs.repeating.settle.Goals as goal

-- what holds of each event holds of a result that is one
of_events : (P : Told → Type 0) → ((a : Act) → P (told.Did a)) → (r : Result Told Stop) → IfOk r (λ t. (a : Act) × (t ≡ told.Did a)) → IfOk r P
of_events P f (Ok t) h = subst P (sym h.1) (f h.0)
of_events P f (Err stop) h = tt

pub act-requires-clause-accepted : goal.act-requires-clause-accepted
act-requires-clause-accepted c =
    let it = get_some c.args.scheduler.now.frames.items c.args.frame c.requires.asked.1.here in
    record { frame_state = it.0; sits = it.1; accepted = sym (c.refused.ensures it.0 it.1) ∙ c.in_default.is }

pub returns-clause-leads : goal.returns-clause-leads
returns-clause-leads c = λ inputs b ready went still.
    let code = c.args.code.now in
    let w = c.args.worker in
    let k = c.args.frame in
    let mid = c.args.scheduler.now in
    let now = c.act.new.scheduler in
    let it = get_some mid.frames.items k c.requires.asked.1.here in
    let one : w + 1 ≡ suc w = omega arith in
    let ok : IsAccepted code mid k = record { frame_state = it.0; sits = it.1; accepted = sym (c.refused.ensures it.0 it.1) ∙ c.in_default.is } in
    let r = c.act.result in
    let n = w + 1 in
    if_ok_reaches code inputs b now (choices.Run n) r
    (if_ok r (told_steps code inputs b mid now n w k one ready went ok r c.act.ensures.wrote) (λ t h. h still))
    (if_ok r (told_starts code inputs b mid now n w k one ready went ok r c.act.ensures.starts) (λ t h. h still))
    (if_ok r (syncs_are_steps code inputs b mid now n w k one ready went ok (c.stays_behind.ensures.passes c.if-stays_behind.false) r c.act.ensures.synced) (λ t h. h still))
    (if_ok r (told_ends code inputs b mid now n w k one ready went ok r c.act.ensures.ends) (λ t h. h still))
    (of_events (λ t. StealsAreSteps code inputs b now (choices.Run n) t) (λ a. tt) r c.act.ensures.did)
    (of_events (λ t. WaitsAreSteps code inputs b now (choices.Run n) t) (λ a. tt) r c.act.ensures.did)
    (of_events (λ t. SkipsAreSteps code inputs b now (choices.Run n) t) (λ a. tt) r c.act.ensures.did)

pub returns-clause-faults : goal.returns-clause-faults
returns-clause-faults c = λ inputs b ready went.
    memory_stops c.args.code.now inputs b c.act.new.scheduler (choices.Run (c.args.worker + 1)) c.act.result c.act.ensures.memory

pub returns-clause-kept : goal.returns-clause-kept
returns-clause-kept c = λ inputs b went. if_err_gone c.args.code.now inputs b c.args.scheduler.now c.act.new.scheduler c.args.frame c.act.result went c.act.ensures.kept

pub returns-then-stays_behind-clause-leads : goal.returns-then-stays_behind-clause-leads
returns-then-stays_behind-clause-leads c = λ inputs b ready went still p is h.
    let code = c.args.code.now in
    let w = c.args.worker in
    let one : w + 1 ≡ suc w = omega arith in
    let y = c.stays_behind.ensures.waits c.if-stays_behind.true in
    choices_reach code inputs b c.wait_at.new.scheduler (choices.Run (w + 1)) p is h told.Waits tt tt tt tt tt
    (waits_are_steps code inputs b c.args.scheduler.now _ (w + 1) w c.args.frame one ready went y.0 y.1 c.in_ok-wait_at.ensures.stays still) tt

pub returns-in-Some-clause-faults : goal.returns-in-Some-clause-faults
returns-in-Some-clause-faults c = λ inputs b ready went.
    let w = c.args.worker in
    let one : w + 1 ≡ suc w = omega arith in
    refused_stops c.args.code.now inputs b c.args.scheduler.now (w + 1) w c.args.frame one ready went c.in-Some.fault
    (λ a at. sym (c.refused.ensures a at) ∙ c.in-Some.is) (c.stays_behind.ensures.passes c.if-stays_behind.false) c.stop_at.result
    (λ a at. c.stop_at.ensures a (ap (λ l. slice_get l c.args.frame) c.as_slice.ensures.value ∙ at))

pub returns-in_err-wait_at-clause-kept : goal.returns-in_err-wait_at-clause-kept
returns-in_err-wait_at-clause-kept c = λ inputs b went.
    let mid = c.args.scheduler.now in
    if_err_always _ _
    (kept_gone c.args.code.now inputs b mid c.wait_at.new.scheduler c.args.frame went
    (kept_by mid c.wait_at.new.scheduler c.in_err-wait_at.ensures.stands (ap (λ z. z.items) c.wait_at.ensures.rest.journal) c.wait_at.ensures.outcome))

pub returns-in-Some-clause-kept : goal.returns-in-Some-clause-kept
returns-in-Some-clause-kept c = λ inputs b went.
    let mid = c.args.scheduler.now in
    kept_gone c.args.code.now inputs b mid mid c.args.frame went (kept_by mid mid (stand_same _ _ refl) refl refl)
