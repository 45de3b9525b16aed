use Rattle.std.proofs.Common.{◌≡◌, ◌≤◌, ◌+◌, ◌-◌, arith}
use Rattle.cilk_cert_text.specs.Places.{forms_left}
use Rattle.cilk_cert_text.proofs.Dues.{after_frames}
use Rattle.cilk_cert_text.proofs.place.Progress.after_frames.Goals as goal

pub returns-clause-form : goal.returns-clause-form
unfolding forms_left
returns-clause-form c =
    let first : c.args.first ≡ c.args.self.frames + 1 = omega arith in
    let within : c.args.count ≤ c.args.self.size.frames - c.args.self.frames = omega arith in
    rw first (after_frames c.args.self.frames c.args.self.size.frames c.args.count _ within)
