use Rattle.std.proofs.Common.{◌≡◌, ◌+◌, ◌≤◌, ℤ, List, [], length}
use Rattle.cilk_lower.specs.Machine.{Move, on_words}
use Rattle.cilk_frames.proofs.operands.Operands.gather.Given as goal

abbrev pub invariant-each : goal.invariant-each
invariant-each l =
    (length l.words + l.more ≡ l.fn.count) × (l.more ≤ length l.self.stack) × (l.self.room ≡ l.fn.self.room) × (l.self.words ≡ l.fn.self.words)
    × ((go : List ℤ → List ℤ → Move) → on_words l.fn.count [] l.fn.self.stack go ≡ on_words l.more l.words l.self.stack go)

abbrev pub decreases-each : goal.decreases-each
decreases-each l = l.more
