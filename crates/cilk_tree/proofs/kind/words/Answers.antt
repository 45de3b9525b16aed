use Rattle.std.proofs.Common.{pos, sym, take}
use Rattle.std.proofs.lemmas.List.{take_all}
use Rattle.std.proofs.lemmas.List.Elements.{All-more, All-same}
use Rattle.std.specs.Prelude.{FitsSigned}
use Rattle.std.specs.Int.{w64}
use Rattle.cilk_tree.proofs.kind.words.Goals as goal

pub each-preserved : goal.each-preserved
each-preserved c = All-more (FitsSigned w64) c.args.values.now c.each.value-index (pos 0) c.each-test.true c.each.invariant c.word.ensures

pub returns : goal.returns
returns c = All-same (FitsSigned w64) c.args.values.now (take c.each.value-index c.args.values.now) (sym (take_all c.each.value-index c.args.values.now c.each-test.false)) c.each.invariant
