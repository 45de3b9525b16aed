use Rattle.std.proofs.Common.{◌≡◌, map, take}
use Rattle.cilk_tree.specs.Word.{word}
use Rattle.cilk_tree.proofs.opening.first_words.Given as goal

abbrev pub invariant-loop-value : goal.invariant-loop-value
invariant-loop-value l = l.words.items ≡ map word (take l.value-index l.opening)
