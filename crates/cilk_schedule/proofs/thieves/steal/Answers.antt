use Rattle.std.proofs.Common.{◌≡◌, ◌-◌, ◌<◌, ℕ, suc, length, refl, sym, subst, arith}
use Rattle.cilk_scheduler.specs.declared.frame_state.Worker.{Worker}
use Rattle.cilk_scheduler.specs.declared.choice.Choice.TheVariants as choices
use Rattle.cilk_scheduler.specs.declared.choice.Told.TheVariants as told
use Rattle.cilk_schedule.specs.Choices.{CanSteal}
use Rattle.cilk_schedule.specs.Passing.{StealsAreSteps}
use Rattle.cilk_schedule.proofs.Stealing.{steals_are_steps, takes}
use Rattle.cilk_schedule.proofs.Sounds.{quiet_twice}
use Rattle.cilk_schedule.proofs.Standing.{if_err_always, kept_by}
use Rattle.cilk_schedule.proofs.Onward.{runs_quiet}
use Rattle.cilk_schedule.proofs.Workers.{inside, is_there, same_at}
use Rattle.cilk_schedule.proofs.thieves.steal.Goals as goal

pub returns-clause-runs : goal.returns-clause-runs
returns-clause-runs c = λ code inputs r.
    runs_quiet code inputs c.args.scheduler.now r _ (quiet_twice c.args.scheduler.now.frames.items c.rob_at.new.frames.items c.hold.new.frames.items c.in_ok-rob_at.ensures.quiet c.hold.ensures.quiet) refl refl refl (omega arith)

pub returns-in_default-clause-made : goal.returns-in_default-clause-made
returns-in_default-clause-made c = λ k can _. c.in_default.ensures.can k can

pub rob_at-requires-clause-here : goal.rob_at-requires-clause-here
rob_at-requires-clause-here c = let can = c.in-Some.ensures.can in inside c.args.scheduler.now.frames.items c.in-Some.found.frame can.frame_state can.sits

pub withdraw_at-requires-clause-here : goal.withdraw_at-requires-clause-here
withdraw_at-requires-clause-here c = let g = c.in-Some.ensures.stands.0 in inside c.args.scheduler.now.workers.items c.in-Some.found.victim g.0 g.2

pub withdraw_at-requires-clause-stands : goal.withdraw_at-requires-clause-stands
withdraw_at-requires-clause-stands c = λ u at.
    let g = c.in-Some.ensures.stands.0 in
    let same : g.0 ≡ u = same_at c.args.scheduler.now.workers.items c.in-Some.found.victim g.0 u g.2 at in
    subst (λ (u : Worker). let o = u.offered in c.in-Some.found.index < length o.items) same (let u = g.0 in let o = u.offered in inside o.items c.in-Some.found.index g.1 g.3)

pub clear-requires : goal.clear-requires
clear-requires c =
    let there = is_there c.args.scheduler.now.workers.items c.args.worker c.in-Some.ensures.can.idle in
    let some = there.0 in
    let within = there.1 in
    omega (arith, some, within, c.withdraw_at.ensures.count)

pub hold-requires-clause-works : goal.hold-requires-clause-works
hold-requires-clause-works c =
    let there = is_there c.args.scheduler.now.workers.items c.args.worker c.in-Some.ensures.can.idle in
    let some = there.0 in
    let within = there.1 in
    omega (arith, some, within, c.withdraw_at.ensures.count, c.clear.ensures.count)

pub hold-requires-clause-here : goal.hold-requires-clause-here
hold-requires-clause-here c =
    let can = c.in-Some.ensures.can in
    let here = inside c.args.scheduler.now.frames.items c.in-Some.found.frame can.frame_state can.sits in
    let q = c.in_ok-rob_at.ensures.quiet in
    let same = q.2 in
    omega (arith, here, same)

pub returns-clause-thieves : goal.returns-clause-thieves
returns-clause-thieves c = λ still code inputs.
    let b = c.args.scheduler.now in
    let w : ℕ = c.args.worker - 1 in
    let found = c.in-Some.found in
    let b' = record b { frames = c.hold.new.frames; workers = c.hold.new.workers; offered = b.offered - 1 } in
    let q = c.in-Some.ensures in
    let first = is_there b.workers.items c.args.worker q.can.idle in
    let some = first.0 in
    let one : c.args.worker ≡ suc w = omega (arith, some) in
    subst (λ z. StealsAreSteps code inputs b b' (choices.Steal z c.args.place) told.Stole) (sym one)
    (steals_are_steps code inputs b b' w c.args.place found.frame
    (takes b b' w c.args.place found.victim found.index found.frame (subst (λ z. CanSteal b z c.args.place found.frame) one q.can) still q.stands.0 q.stands.1 c.rob_at.new.frames.items c.withdraw_at.new.workers.items c.clear.new.workers.items
    c.in_ok-rob_at.ensures.robs c.withdraw_at.ensures.less c.clear.ensures.views c.hold.ensures.held c.hold.ensures.has refl refl refl refl refl))

pub returns-in_err-rob_at-clause-kept : goal.returns-in_err-rob_at-clause-kept
returns-in_err-rob_at-clause-kept c = if_err_always _ _ (kept_by c.args.scheduler.now _ c.in_err-rob_at.ensures.stands refl refl)
