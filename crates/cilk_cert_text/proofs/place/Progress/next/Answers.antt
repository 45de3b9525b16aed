use Rattle.std.proofs.Common.{◌+◌, refl}
use Rattle.cilk_cert_text.specs.Places.{forms_left}
use Rattle.cilk_cert_text.proofs.Dues.{no_frames, no_strands, no_events, next_frame, next_strand, next_event}
use Rattle.cilk_cert_text.proofs.place.Progress.next.Goals as goal

pub returns-then-self-clause-form : goal.returns-then-self-clause-form
unfolding forms_left
returns-then-self-clause-form c = next_frame c.args.self.frames c.args.self.size.frames _ c.if-self.true

pub returns-then-self-2-clause-form : goal.returns-then-self-2-clause-form
unfolding forms_left
returns-then-self-2-clause-form c =
    rw (no_frames (c.args.self.frames + 1) c.args.self.frames c.args.self.size.frames c.if-self.false)
    (next_strand c.args.self.strands c.args.self.size.strands _ c.if-self-2.true)

pub returns-then-self-3-clause-form : goal.returns-then-self-3-clause-form
unfolding forms_left
returns-then-self-3-clause-form c =
    rw (no_frames (c.args.self.frames + 1) c.args.self.frames c.args.self.size.frames c.if-self.false, no_strands (c.args.self.strands + 1) c.args.self.strands c.args.self.size.strands c.if-self-2.false)
    (next_event c.args.self.version c.args.self.events c.args.self.size.events _ c.if-self-3.true)

pub returns-in-Result-clause-form : goal.returns-in-Result-clause-form
unfolding forms_left
returns-in-Result-clause-form c =
    rw (no_frames (c.args.self.frames + 1) c.args.self.frames c.args.self.size.frames c.if-self.false, no_strands (c.args.self.strands + 1) c.args.self.strands c.args.self.size.strands c.if-self-2.false, no_events c.args.self.version c.args.self.events c.args.self.size.events c.if-self-3.false, c.in-Result.is) refl

pub returns-in-End-clause-form : goal.returns-in-End-clause-form
unfolding forms_left
returns-in-End-clause-form c =
    rw (no_frames (c.args.self.frames + 1) c.args.self.frames c.args.self.size.frames c.if-self.false, no_strands (c.args.self.strands + 1) c.args.self.strands c.args.self.size.strands c.if-self-2.false, no_events c.args.self.version c.args.self.events c.args.self.size.events c.if-self-3.false, c.in-End.is) refl

pub returns-in-Nothing-clause-none : goal.returns-in-Nothing-clause-none
unfolding forms_left
returns-in-Nothing-clause-none c =
    rw (no_frames (c.args.self.frames + 1) c.args.self.frames c.args.self.size.frames c.if-self.false, no_strands (c.args.self.strands + 1) c.args.self.strands c.args.self.size.strands c.if-self-2.false, no_events c.args.self.version c.args.self.events c.args.self.size.events c.if-self-3.false, c.in-Nothing.is) refl
