use Rattle.std.proofs.Common.{subst}
use Rattle.cilk_types.specs.Word.{IsWord}
use Rattle.cilk_determinacy.proofs.Literals.{numbers_are}
use Rattle.cilk_determinacy.proofs.words.inputs_are_words.Goals as goal

pub returns : goal.returns
returns c = record {
  inputs_are = numbers_are c.args.input.now c.are_words.ensures;
  count = subst IsWord c.count-count.ensures (record { sfits = c.count-count.type_inv });
}
