use Rattle.std.proofs.Common.{refl, take, arith}
use Rattle.cilk_commands.proofs.TraceCuts.{cut_short}
use Rattle.cilk_commands.proofs.TraceReread.{refilled}
use Rattle.cilk_commands.proofs.trace_pieces.Pieces.fill.Goals as goal

pub returns-in-Ok-clause-reading : goal.returns-in-Ok-clause-reading
returns-in-Ok-clause-reading g c = λ known ls r.
    let unclosed = c.if-self.false in
    refilled known (g.S.Source.remaining c.args.source.now) (g.S.Source.remaining c.pull.new.self) ls c.args.self.now _ (take c.in-Ok.count c.pull.new.into)
    (omega (arith, unclosed)) refl refl c.in-Ok.ensures.taken r

pub returns-in-Err-Device-clause-part : goal.returns-in-Err-Device-clause-part
returns-in-Err-Device-clause-part g c = λ known ls r _.
    let unclosed = c.if-self.false in
    cut_short known (g.S.Source.remaining c.args.source.now) (g.S.Source.remaining c.pull.new.self) ls c.args.self.now (omega (arith, unclosed))
    c.in-Err-Device.ensures.untaken r
