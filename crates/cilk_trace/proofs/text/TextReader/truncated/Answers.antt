use Rattle.std.proofs.Common.{refl}
use Rattle.cilk_trace.proofs.Readings.{end_truncated}
use Rattle.cilk_trace.proofs.text.TextReader.truncated.Goals as goal

pub returns-clause-ahead : goal.returns-clause-ahead
returns-clause-ahead c =
    end_truncated c.args.self.now.fault c.args.self.now.place c.args.self.now.number c.args.self.now.number c.args.self.now.length c.args.self.now.bytes
    c.requires.fault c.requires.due c.args.self.now.no_lf c.args.self.now.room refl
