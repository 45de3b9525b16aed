use Rattle.std.proofs.Common.{◌≡◌, refl, subst}
use Rattle.cilk_schedule.proofs.Onward.{is_asked, is_ready}
use Rattle.cilk_schedule.proofs.Workers.{same_at}
use Rattle.cilk_scheduler.specs.Asking.{IsReady}
use Rattle.cilk_frames.specs.declared.activation.Activation.{Activation}
use Rattle.cilk_scheduler.specs.declared.frame_state.FrameState.{FrameState}
use Rattle.cilk_schedule.proofs.running.come.Goals as goal

pub go_on-requires-clause-ready : goal.go_on-requires-clause-ready
go_on-requires-clause-ready g c = λ a at.
    let q = c.requires.ready in
    let r = q.1 in
    let same : r.frame_state ≡ a = same_at c.args.scheduler.now.frames.items c.args.frame r.frame_state a r.sits at in
    subst (λ (z : Activation FrameState). let x = z.cursor in IsReady c.args.code.now c.args.input.now x) same
    (is_ready c.args.code.now c.args.input.now c.args.scheduler.now c.requires.runs c.args.frame r.frame_state r.cursor r.sits r.has)

pub returns-clause-asked : goal.returns-clause-asked
returns-clause-asked g c =
    let q = c.requires.ready in
    let r = q.1 in
    let went = c.go_on.ensures r.frame_state r.sits in
    is_asked c.args.code.now c.args.input.now c.args.scheduler.now c.requires.runs c.args.frame r.frame_state r.cursor r.sits r.has went.0 c.go_on.new.asked went.1 _ went.2 refl refl refl refl refl

pub returns-clause-went : goal.returns-clause-went
returns-clause-went g c =
    let q = c.requires.ready in
    let r = q.1 in
    let went = c.go_on.ensures r.frame_state r.sits in
    record { frame_state = r.frame_state; came = went.0; sits = r.sits; went = went.1; frames = went.2; cells = refl; workers = refl; journal = refl; ticks = refl; offered = refl; outcome = refl }
