use Rattle.std.proofs.Common.{take}
use Rattle.std.specs.List.{All}
use Rattle.cilk_tree.specs.Kinds.{IsOfWords}
use Rattle.cilk_tree.proofs.kind.events_of_words.Given as goal

abbrev pub invariant-each : goal.invariant-each
invariant-each l = All IsOfWords (take l.event-index l.event-items)
