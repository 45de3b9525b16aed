use Rattle.std.proofs.Common.{◌∙◌, true, false, length, refl, ap, subst, arith}
use Rattle.std.proofs.lemmas.List.{length-set}
use Rattle.cilk_scheduler.specs.EndParts.{Brings}
use Rattle.cilk_scheduler.specs.FrameStates.{changed, moved_to, passed}
use Rattle.cilk_scheduler.specs.declared.frame_state.Status.TheVariants.{Held}
use Rattle.cilk_scheduler.proofs.Changing.{changed_at, changed_length}
use Rattle.cilk_scheduler.proofs.Placed.{get_there}
use Rattle.cilk_schedule.proofs.Parting.{arrives_by}
use Rattle.cilk_schedule.proofs.Quieting.{joins, marked}
use Rattle.cilk_schedule.proofs.Sounds.{quiet_twice}
use Rattle.cilk_schedule.proofs.Standing.{on_err_stand, stand_joined}
use Rattle.cilk_schedule.proofs.ending.hand_in.Goals as goal

pub hold-requires-clause-here : goal.hold-requires-clause-here
hold-requires-clause-here c =
    let f = c.args.scheduler.now.frames.items in
    let a = c.index.result.now in
    let low = c.requires.parent a (get_there f c.args.frame a c.index.ensures c.requires.here) in
    let more = length-set f a.cursor.parent (record c.index_mut.result.now { cursor = c.bring_awaited.new.frame_state }) in
    let e = ap length c.pass.ensures ∙ changed_length passed _ a.cursor.parent in
    omega (arith, low, more, e)

pub returns-then-branch-clause-quiet : goal.returns-then-branch-clause-quiet
returns-then-branch-clause-quiet c =
    let f = c.args.scheduler.now.frames.items in
    let a = c.index.result.now in
    let low = c.requires.parent a (get_there f c.args.frame a c.index.ensures c.requires.here) in
    let still = joins c.bring_awaited.new.frame_state f _ a.cursor.parent c.index_mut.result.now c.index_mut.ensures.value low c.bring_awaited.ensures.same refl in
    let more = length-set f a.cursor.parent (record c.index_mut.result.now { cursor = c.bring_awaited.new.frame_state }) in
    quiet_twice f c.pass.new.frames.items c.hold.new.frames.items (quiet_twice f _ c.pass.new.frames.items still (marked _ c.pass.new.frames.items a.cursor.parent (omega (arith, low, more)) c.pass.ensures)) c.hold.ensures.quiet

pub returns-then-branch-clause-departs : goal.returns-then-branch-clause-departs
returns-then-branch-clause-departs c = λ code v.
    let b = c.args.scheduler.now in
    let f = b.frames.items in
    let a = c.index.result.now in
    let above = c.index_mut.result.now in
    let m = c.index_mut-2.result.now in
    let x = a.cursor in
    let here = get_there f c.args.frame a c.index.ensures c.requires.here in
    let low = c.requires.parent a here in
    let up = get_there f x.parent above c.index_mut.ensures.value low in
    arrives_by code b _ c.args.worker c.args.frame v a above m c.bring_awaited.new.frame_state c.bring_awaited.new.views true _ c.requires.child here (c.requires.stolen a here) up c.index_mut-2.ensures.value c.requires.works
    (λ may. subst (λ z. Brings above.cursor x.ordinal m.views z c.bring_awaited.new.frame_state c.bring_awaited.new.views) c.if-branch.true (c.in_ok-bring_awaited.ensures.brings may))
    (changed_at (λ _. c.bring_awaited.new.frame_state) f x.parent above c.index_mut.ensures.value low) (c.hold.ensures.held ∙ ap (λ l. changed (moved_to (Held c.args.worker)) l x.parent) c.pass.ensures) c.hold.ensures.has refl refl

pub returns-else-branch-clause-quiet : goal.returns-else-branch-clause-quiet
returns-else-branch-clause-quiet c =
    let f = c.args.scheduler.now.frames.items in
    let a = c.index.result.now in
    let low = c.requires.parent a (get_there f c.args.frame a c.index.ensures c.requires.here) in
    joins c.bring_awaited.new.frame_state f _ a.cursor.parent c.index_mut.result.now c.index_mut.ensures.value low c.bring_awaited.ensures.same refl

pub returns-else-branch-clause-departs : goal.returns-else-branch-clause-departs
returns-else-branch-clause-departs c = λ code v.
    let b = c.args.scheduler.now in
    let f = b.frames.items in
    let a = c.index.result.now in
    let above = c.index_mut.result.now in
    let m = c.index_mut-2.result.now in
    let x = a.cursor in
    let here = get_there f c.args.frame a c.index.ensures c.requires.here in
    let low = c.requires.parent a here in
    let up = get_there f x.parent above c.index_mut.ensures.value low in
    arrives_by code b _ c.args.worker c.args.frame v a above m c.bring_awaited.new.frame_state c.bring_awaited.new.views false _ c.requires.child here (c.requires.stolen a here) up c.index_mut-2.ensures.value c.requires.works
    (λ may. subst (λ z. Brings above.cursor x.ordinal m.views z c.bring_awaited.new.frame_state c.bring_awaited.new.views) c.if-branch.false (c.in_ok-bring_awaited.ensures.brings may))
    (changed_at (λ _. c.bring_awaited.new.frame_state) f x.parent above c.index_mut.ensures.value low) refl c.leave.ensures.has refl refl

pub returns-in_err-bring_awaited-clause-stands : goal.returns-in_err-bring_awaited-clause-stands
returns-in_err-bring_awaited-clause-stands c =
    let f = c.args.scheduler.now.frames.items in
    let a = c.index.result.now in
    let low = c.requires.parent a (get_there f c.args.frame a c.index.ensures c.requires.here) in
    on_err_stand _ f _ (stand_joined c.bring_awaited.new.frame_state f _ a.cursor.parent c.index_mut.result.now c.index_mut.ensures.value low c.bring_awaited.ensures.same refl)
