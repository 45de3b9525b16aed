use Rattle.std.proofs.Common.{◌≡◌, ◌≤◌, List, Option, ℕ}
use Rattle.cilk_trace.specs.declared.line.Line.{Line}
use Rattle.cilk_commands.specs.TracePieces.{IsReading, room_in}
use Rattle.cilk_commands.proofs.trace_pieces.Pieces.next.Given as goal

-- the lines so far are those of the call
abbrev pub invariant-steps : goal.invariant-steps
invariant-steps g l =
    ((known : Option (List ℕ)) (ls : List Line) → IsReading known (g.S.Source.remaining l.fn.source) ls l.fn.self → IsReading known (g.S.Source.remaining l.source) ls l.self)
    × (room_in l.self ≤ room_in l.fn.self) × (g.S.Source.failed l.source ≡ g.S.Source.failed l.fn.source) × (g.S.Source.lender l.source ≡ g.S.Source.lender l.fn.source)
    × (g.S.Source.kept l.source ≡ g.S.Source.kept l.fn.source)

abbrev pub decreases-steps : goal.decreases-steps
decreases-steps g l = room_in l.self
