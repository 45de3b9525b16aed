use Rattle.std.proofs.Common.{refl}
use Rattle.cilk_trace.proofs.Headers.{next_matched}
use Rattle.cilk_trace.proofs.reader.TraceReader.matches.Goals as goal

pub returns-else-self-eq16-clause-yes : goal.returns-else-self-eq16-clause-yes
returns-else-self-eq16-clause-yes c = λ yes more.
    next_matched c.args.self.now _ c.args.byte more c.requires c.requires refl (c.args.self.now.begun c.requires) c.if-byte-self.false
