use Rattle.std.proofs.Common.{◌≡◌, ◌≤◌, ◌+◌, ◌-◌, arith}
use Rattle.cilk_cert_text.specs.Places.{forms_left}
use Rattle.cilk_cert_text.proofs.Dues.{no_frames, after_strands}
use Rattle.cilk_cert_text.proofs.place.Progress.after_strands.Goals as goal

pub returns-clause-form : goal.returns-clause-form
unfolding forms_left
returns-clause-form c =
    let first : c.args.first ≡ c.args.self.strands + 1 = omega arith in
    let within : c.args.count ≤ c.args.self.size.strands - c.args.self.strands = omega arith in
    let all : c.args.self.size.frames ≤ c.args.self.frames = omega arith in
    rw (first, no_frames (c.args.self.frames + 1) c.args.self.frames c.args.self.size.frames all)
    (after_strands c.args.self.strands c.args.self.size.strands c.args.count _ within)
