use Rattle.std.proofs.Common.{rules, sym, subst, w64, SFits}
use Rattle.std.proofs.lemmas.Int.{to_z-of_z}
use Rattle.cilk_tree.specs.Word.{event}
use Rattle.cilk_workers.specs.Asks.{Carries}
use Rattle.cilk_workers.proofs.Numbered.{number_is, number_there}
use Rattle.cilk_workers.proofs.asking.number_asked.Goals as goal

pub unreachable-requires : goal.unreachable-requires
unreachable-requires c =
    let k = c.args.chain.now in
    c.in_default.not-Some _ (number_is k.of k.at c.ask.result.now c.ask.ensures c.number_in.result c.requires.asked c.number_in.ensures c.requires.number)

pub returns : goal.returns
returns c =
    let k = c.args.chain.now in
    let fits : SFits w64 c.in-Some.number = search rules in
    subst (λ v. Carries (event k.of.yard.event_order k.at) v) (sym (to_z-of_z w64 c.in-Some.number fits))
    (number_there k.of k.at c.ask.result.now c.ask.ensures c.number_in.result c.requires.asked c.number_in.ensures c.requires.number c.in-Some.number c.in-Some.is)
