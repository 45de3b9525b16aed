use Rattle.std.proofs.Common.{◌≡◌, List}
use Rattle.cilk_trace.specs.declared.line.Line.{Line}
use Rattle.cilk_trace.specs.Judging.{IsJudging}
use Rattle.cilk_commands.specs.TracePieces.{IsReading, room_in}
use Rattle.cilk_commands.proofs.trace_texts.judge_text.Given as goal

-- the lines so far were judged
abbrev pub invariant-lines : goal.invariant-lines
invariant-lines g l =
    (ls : List Line) × IsReading (g.S.Source.remaining l.fn.source) (g.S.Source.remaining l.source) ls l.pieces × IsJudging ls l.judge
    × (g.S.Source.failed l.source ≡ g.S.Source.failed l.fn.source) × (g.S.Source.lender l.source ≡ g.S.Source.lender l.fn.source)
    × (g.S.Source.kept l.source ≡ g.S.Source.kept l.fn.source)

abbrev pub decreases-lines : goal.decreases-lines
decreases-lines g l = room_in l.pieces
