use Rattle.std.proofs.Common.{◌≡◌, ◌++◌}
use Rattle.cilk_lower.specs.Code.{words_code}
use Rattle.cilk_lower.proofs.bodies.put_words.Given as goal

abbrev pub invariant-each : goal.invariant-each
invariant-each l = l.code.items ≡ l.fn.code.items ++ words_code 0 l.n
