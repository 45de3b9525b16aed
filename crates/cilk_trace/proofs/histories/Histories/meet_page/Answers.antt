use Rattle.std.proofs.Common.{length, refl}
use Rattle.std.proofs.lemmas.Option.{slice_get_read}
use Rattle.cilk_trace.proofs.Pages.{met_in_page, race_in_page}
use Rattle.cilk_trace.proofs.Results.{if_ok}
use Rattle.cilk_trace.proofs.histories.Histories.meet_page.Goals as goal

pub returns-clause-met : goal.returns-clause-met
returns-clause-met c =
    let mid = c.reach.new.self.pages.items in
    let t = c.in_ok-reach.ensures in
    if_ok c.meet.result c.meet.ensures.met
    (λ raced h r z. met_in_page c.args.intervals.now c.args.kind c.args.here c.args.self.now.pages.items mid _ c.args.from c.args.to c.index_mut.result.now c.meet.new.self t.same
    (slice_get_read mid (length mid) _ c.index_mut.result.now refl t.page c.index_mut.ensures.value) t.page refl c.requires.order c.requires.one (h r z))

pub returns-clause-race : goal.returns-clause-race
returns-clause-race c =
    let mid = c.reach.new.self.pages.items in
    let t = c.in_ok-reach.ensures in
    if_ok c.meet.result c.meet.ensures.race
    (λ raced h r. race_in_page c.args.intervals.now c.args.kind c.args.self.now.pages.items mid _ c.args.from c.args.to c.index_mut.result.now c.meet.new.self raced t.same
    (slice_get_read mid (length mid) _ c.index_mut.result.now refl t.page c.index_mut.ensures.value) t.page refl c.requires.order c.requires.one (h r))
