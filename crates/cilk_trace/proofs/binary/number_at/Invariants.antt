use Rattle.std.proofs.Common.{◌≡◌, ◌+◌, ◌-◌, ◌<◌, ◌≤◌, ℕ, List, ◌++◌, length, drop}
use Rattle.cilk_trace.specs.Numbers.{numbers, numbers_from}
use Rattle.cilk_trace.proofs.binary.number_at.Given as goal

abbrev pub invariant-bytes : goal.invariant-bytes
invariant-bytes l = record {
  read : (more : List ℕ) → numbers (drop l.fn.at l.fn.piece ++ more) ≡ numbers_from l.value l.unit (drop l.end l.fn.piece ++ more);
  begun : l.fn.at ≤ l.end;
  below : l.value < l.unit;
  some : 1 ≤ l.unit;
  few : l.unit ≤ 268435456;
  short : l.end + 1 ≤ l.fn.at + l.unit;
}

abbrev pub decreases-bytes : goal.decreases-bytes
decreases-bytes l = length l.fn.piece - l.end
