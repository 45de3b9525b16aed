use Rattle.std.proofs.Common.{◌≡◌, ◌≤◌, ◌+◌, ◌-◌, arith, rules}
use Rattle.cilk_cert_text.specs.declared.line.Version.TheVariants.{Two}
use Rattle.cilk_cert_text.specs.Places.{forms_left}
use Rattle.cilk_cert_text.proofs.Dues.{no_frames, no_strands, after_events}
use Rattle.cilk_cert_text.proofs.place.Progress.after_events.Goals as goal

pub returns-clause-form : goal.returns-clause-form
unfolding forms_left
returns-clause-form c =
    let within : c.args.count ≤ c.args.self.size.events - c.args.self.events = omega arith in
    let frames : c.args.self.size.frames ≤ c.args.self.frames = omega arith in
    let strands : c.args.self.size.strands ≤ c.args.self.strands = omega arith in
    let two : c.args.self.version ≡ Two = search rules in
    rw (two, no_frames (c.args.self.frames + 1) c.args.self.frames c.args.self.size.frames frames, no_strands (c.args.self.strands + 1) c.args.self.strands c.args.self.size.strands strands)
    (after_events Two c.args.self.events c.args.self.size.events c.args.count _ within)
