use Rattle.std.proofs.Common.{refl}
use Rattle.cilk_trace.proofs.Readings.{end_whole}
use Rattle.cilk_trace.proofs.text.TextReader.end.Goals as goal

pub returns-then-is_over-clause-whole : goal.returns-then-is_over-clause-whole
returns-then-is_over-clause-whole c =
    let due = c.is_over.ensures.yes c.if-is_over.true in (
      end_whole c.args.self.now.fault c.args.self.now.place c.args.self.now.number c.args.self.now.length c.args.self.now.bytes c.in_default.is due (c.args.self.now.at_end due),
      refl,
    )
