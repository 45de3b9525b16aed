use Rattle.std.proofs.Common.{◌≡◌, ◌≤◌, Some, None, MatchOption, length, slice_get, sym, ap, ◌∙◌, subst, arith}
use Rattle.std.proofs.lemmas.Bool.{ltb-false}
use Rattle.cilk_determinacy.specs.Machine.{Frame}
use Rattle.cilk_determinacy.specs.FrameEnvs.{FrameEnv}
use Rattle.cilk_schedule.specs.Showing.{AreShown}
use Rattle.cilk_scheduler.proofs.Placed.{there_at}
use Rattle.cilk_schedule.proofs.showing.Shown.events.Goals as goal

pub returns-in_err-place : goal.returns-in_err-place
returns-in_err-place c = λ p name s run.
    subst (λ o. MatchOption o (s.frames c.args.path.now ≡ None) (λ events. (x : Frame FrameEnv) × (s.frames c.args.path.now ≡ Some x) × AreShown name (length c.args.self.now.frames.items) c.args.path.now 1 x.deeds events.now)) (sym c.from_residual.ensures)
    (run.absent c.args.path.now (c.in_err-place.ensures name run.linked))

pub returns-in_err-frame : goal.returns-in_err-frame
returns-in_err-frame c = λ p name s run.
    let list = c.args.self.now.frames.items in
    let g = c.in_ok-place.ensures name run.linked in
    let low = g.0 in
    let l = c.in_err-frame.ensures.lookup in
    let far = subst (λ z. length z ≤ c.in_ok-place.place) c.deref.ensures.value (ltb-false c.in_ok-place.place (length c.deref.result.now) (sym l.0)) in
    absurd (omega (arith, low, far))

pub returns : goal.returns
returns c = λ p name s run.
    let list = c.args.self.now.frames.items in
    let g = c.in_ok-place.ensures name run.linked in
    let f = c.in_ok-frame.frame.now in
    let l = c.in_ok-frame.ensures.lookup in
    let r = run.events c.in_ok-place.place f (ap (λ z. slice_get z c.in_ok-place.place) (sym c.deref.ensures.value) ∙ there_at c.deref.result.now c.in_ok-place.place f l.0 l.1) in
    let here = ap s.frames (sym g.1) ∙ r.1 in
    (r.0, here, subst (λ n. AreShown name (length list) n 1 (let x = r.0 in x.deeds) c.as_slice.result.now) g.1 (subst (λ es. AreShown name (length list) (name c.in_ok-place.place) 1 (let x = r.0 in x.deeds) es) (sym c.as_slice.ensures.value) r.2))
