use Rattle.std.proofs.Common.{rules, sym, subst, w64, SFits}
use Rattle.std.proofs.lemmas.Int.{to_z-of_z}
use Rattle.cilk_program.specs.declared.ask.Ask.TheVariants as asks
use Rattle.cilk_replay.specs.Asking.{IsNextAsk}
use Rattle.cilk_workers.proofs.Numbered.{end_some, end_there}
use Rattle.cilk_workers.proofs.asking.result_asked.Goals as goal

pub unreachable-requires : goal.unreachable-requires
unreachable-requires c =
    let k = c.args.chain.now in
    c.in_default.not-Some _ (end_some k.of k.at c.ask.result.now c.ask.ensures c.number_in.result c.requires.asked c.number_in.ensures c.requires.end)

pub returns : goal.returns
returns c =
    let k = c.args.chain.now in
    let fits : SFits w64 c.in-Some.number = search rules in
    subst (λ v. IsNextAsk k.of k.at (asks.End v)) (sym (to_z-of_z w64 c.in-Some.number fits))
    (end_there k.of k.at c.ask.result.now c.ask.ensures c.number_in.result c.requires.asked c.number_in.ensures c.requires.end c.in-Some.number c.in-Some.is)
