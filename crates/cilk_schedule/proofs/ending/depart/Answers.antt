use Rattle.std.proofs.Common.{rules, ◌≡◌, ℤ, sym, ap, ◌∙◌, subst, to_z, of_z, w64}
use Rattle.cilk_frames.specs.declared.activation.Activation.{Activation}
use Rattle.cilk_scheduler.specs.declared.frame_state.FrameState.{FrameState}
use Rattle.cilk_scheduler.proofs.Placed.{get_there}
use Rattle.cilk_schedule.specs.Ends.{PartsTo}
use Rattle.cilk_schedule.specs.Sound.{IsQuiet}
use Rattle.cilk_schedule.proofs.Answering.{always, on_ok}
use Rattle.cilk_schedule.proofs.Sounds.{quiet_none}
use Rattle.cilk_schedule.proofs.Standing.{on_err_stand, stand_same}
use Rattle.cilk_schedule.proofs.Workers.{same_at}
use Rattle.cilk_schedule.proofs.ending.depart.Goals as goal

pub returns-then-frame-eq0-clause-quiet : goal.returns-then-frame-eq0-clause-quiet
returns-then-frame-eq0-clause-quiet c =
    let f = c.args.scheduler.now.frames in
    always c.leave_run.result (subst (λ g. IsQuiet f.items g.items) (sym c.leave_run.ensures.frames) (quiet_none f.items))

pub returns-then-frame-eq0-clause-departs : goal.returns-then-frame-eq0-clause-departs
returns-then-frame-eq0-clause-departs c =
    let w : ℤ = to_z w64 (of_z w64 c.args.value) in
    let same : w ≡ c.args.value = search rules in
    on_ok c.leave_run.result c.leave_run.ensures.departs
    (λ h. subst (λ k. PartsTo c.args.code.now c.args.scheduler.now c.leave_run.new.scheduler c.args.worker k c.args.value) (sym c.if-frame-eq0.true)
    (subst (λ v. PartsTo c.args.code.now c.args.scheduler.now c.leave_run.new.scheduler c.args.worker 0 v) same h))

pub hand_in-requires-clause-stolen : goal.hand_in-requires-clause-stolen
hand_in-requires-clause-stolen c = λ a at.
    let f = c.args.scheduler.now.frames.items in
    let one = same_at f c.args.frame a c.index.result.now at (get_there f c.args.frame c.index.result.now c.index.ensures c.requires.here) in
    ap (λ (z : Activation FrameState). let x = z.cursor in x.stolen) one ∙ c.if-index.true

pub returns-then-index-clause-departs : goal.returns-then-index-clause-departs
returns-then-index-clause-departs c = on_ok c.hand_in.result c.hand_in.ensures.departs (λ h. h c.args.code.now c.args.value)

pub go_back-requires-clause-kept : goal.go_back-requires-clause-kept
go_back-requires-clause-kept c = λ a at.
    let f = c.args.scheduler.now.frames.items in
    let one = same_at f c.args.frame a c.index.result.now at (get_there f c.args.frame c.index.result.now c.index.ensures c.requires.here) in
    ap (λ (z : Activation FrameState). let x = z.cursor in x.stolen) one ∙ c.if-index.false

pub returns-clause-departs : goal.returns-clause-departs
returns-clause-departs c = c.go_back.ensures.departs c.args.code.now c.args.value

pub returns-then-frame-eq0-clause-stands : goal.returns-then-frame-eq0-clause-stands
returns-then-frame-eq0-clause-stands c = on_err_stand c.leave_run.result c.args.scheduler.now.frames.items _ (stand_same _ _ (ap (λ v. v.items) c.leave_run.ensures.frames))
