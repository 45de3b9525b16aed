use Rattle.std.proofs.Common.{sym, subst, take, All}
use Rattle.std.proofs.lemmas.List.{take_all}
use Rattle.std.proofs.lemmas.List.Elements.{All-more, All-same}
use Rattle.cilk_tree.specs.Kinds.{IsOfWords}
use Rattle.cilk_tree.proofs.kind.events_of_words.Goals as goal

pub each-preserved : goal.each-preserved
each-preserved c = All-more IsOfWords c.as_slice-event-items.result.now c.each.event-index _ c.each-test.true c.each.invariant c.of_words.ensures

pub returns : goal.returns
returns c =
    let es = c.as_slice-event-items.result.now in
    subst (All IsOfWords) c.as_slice-event-items.ensures.events (All-same IsOfWords es (take c.each.event-index es) (sym (take_all c.each.event-index es c.each-test.false)) c.each.invariant)
