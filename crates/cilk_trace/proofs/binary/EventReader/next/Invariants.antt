use Rattle.std.proofs.Common.{◌≡◌, ◌+◌, ◌-◌, ◌≤◌, ℕ, List, ◌++◌, drop, None}
use Rattle.std.proofs.Common.{length as len_of}
use Rattle.cilk_trace.specs.EventReaders.{ahead, fault_of, line_number, room_of, HasSlot}
use Rattle.cilk_trace.proofs.binary.EventReader.next.Given as goal

-- no line is complete yet
abbrev pub invariant-bytes : goal.invariant-bytes
invariant-bytes l =
    ((more : List ℕ) → ahead l.fn.self (l.fn.piece ++ more) ≡ ahead l.self (drop l.taken l.fn.piece ++ more)) × (l.taken ≤ len_of l.fn.piece)
    × (line_number l.self ≡ line_number l.fn.self) × (room_of l.self + l.taken ≤ room_of l.fn.self) × (fault_of l.self ≡ None) × HasSlot l.self

abbrev pub decreases-bytes : goal.decreases-bytes
decreases-bytes l = len_of l.piece - l.taken
