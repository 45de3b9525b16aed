use Rattle.std.proofs.Common.{◌≡◌, take}
use Rattle.cilk_helpers.proofs.callee.same_words.Given as goal

abbrev pub invariant-each : goal.invariant-each
invariant-each l = take l.number l.one ≡ take l.number l.other
