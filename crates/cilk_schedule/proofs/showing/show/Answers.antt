use Rattle.std.proofs.Common.{◌≡◌, ◌+◌, ◌<◌, subst, length, slice_index_or, arith}
use Rattle.std.specs.Prelude.{take}
use Rattle.std.proofs.lemmas.List.{take_all, take_more}
use Rattle.cilk_types.specs.declared.event.Event.TheVariants as events
use Rattle.cilk_scheduler.specs.declared.frame_state.JournalEntry.{JournalEntry}
use Rattle.cilk_schedule.specs.Gathering.{AreGathered, Gathers}
use Rattle.cilk_schedule.proofs.Linked.{gathered_more}
use Rattle.cilk_schedule.proofs.Shows.{shows_run}
use Rattle.cilk_schedule.proofs.showing.show.Goals as goal

pub each-preserved : goal.each-preserved
each-preserved c =
    let b = c.args.scheduler.now in
    let frames = b.frames.items in
    let journal = b.journal.items in
    let i = c.each.entry-index in
    let written = c.as_slice-entry-items.ensures.value in
    let first : JournalEntry = record { frame = 0; event = events.Begin 0 } in
    let entry = slice_index_or journal i first in
    let less = subst (λ l. i < length l) written c.each-test.true in
    let by_slice = subst (λ l. Gathers c.as_slice-in-each.result.now c.args.globals c.each.frames.items c.place.new.list.items (slice_index_or l i first)) written c.in_ok-place.ensures in
    let placed = subst (λ l. Gathers l c.args.globals c.each.frames.items c.place.new.list.items entry) c.as_slice-in-each.ensures.value by_slice in
    gathered_more frames c.args.globals (take i journal) (take (i + 1) journal) entry c.each.frames.items c.place.new.list.items (take_more journal i first less) c.each.invariant placed

pub returns-clause-run : goal.returns-clause-run
returns-clause-run c = λ code p inputs name s same named tells.
    let b = c.args.scheduler.now in
    let journal = b.journal.items in
    let far = c.each-test.false in
    let all : take c.each.entry-index journal ≡ journal = take_all c.each.entry-index journal (omega (arith, far)) in
    let gathered = subst (λ l. AreGathered b.frames.items c.args.globals l c.each.frames.items) all c.each.invariant in
    shows_run code p inputs name b s tells c.args.globals same (record { frames = c.each.frames; outcome = c.in_ok-outcome.outcome }) named gathered c.in_ok-outcome.ensures
