use Rattle.std.proofs.Common.{◌≡◌, ◌∙◌, ◌-◌, ◌<◌, ℕ, ap, rules, sym, subst}
use Rattle.cilk_replay.specs.Replays.{ReplayValue}
use Rattle.cilk_replay.specs.Resumes.{ResumesAreAsked}
use Rattle.cilk_shared.specs.Values.{SegmentValue, YardValue}
use Rattle.cilk_tree.specs.declared.event_order.EventOrder.{EventOrder}
use Rattle.cilk_tree.specs.Runs.{IsFollowed}
use Rattle.cilk_tree.specs.Word.{resume, word_step}
use Rattle.cilk_workers.specs.Shared.{event_order_in}
use Rattle.cilk_workers.proofs.Due.{off_segment}
use Rattle.cilk_workers.proofs.turn.departed.Goals as goal

pub has_followed-requires : goal.has_followed-requires
has_followed-requires c = let works = c.requires.works in subst (λ (g : SegmentValue). g.from < g.upto) (sym c.segment-segment.ensures) works.good.1

pub departs-requires-clause-next : goal.departs-requires-clause-next
departs-requires-clause-next c =
    let y = c.args.shared.now in
    let works = c.requires.works in
    let p = c.args.work.now.piece in
    let replay : ResumesAreAsked (let u = y.replay in let z = u.yard in z.event_order) =
    subst (λ (u : ReplayValue). let z = u.yard in ResumesAreAsked z.event_order) c.replay.ensures.replay c.resumes.ensures in
    let law : ResumesAreAsked (event_order_in y) = subst (λ (z : YardValue). ResumesAreAsked z.event_order) c.replay.ensures.yard replay in
    let followed : IsFollowed (event_order_in y) (p.upto - 1) =
    off_segment (λ (s : EventOrder) (n : ℕ). IsFollowed s (n - 1)) y p _ c.segment-segment.ensures works.good.0 c.has_followed.ensures in (
      subst (λ (g : SegmentValue). g.from < g.upto) (sym c.segment-segment.ensures) works.good.1,
      λ k is. c.requires.differs
          (law.ended k p.upto (off_segment (λ (s : EventOrder) (n : ℕ). word_step s n ≡ resume k) y p _ c.segment-segment.ensures works.good.0 is) followed),
    )

pub returns-clause-turned : goal.returns-clause-turned
returns-clause-turned c = (search rules, c.departs.ensures.place ∙ ap (λ (g : SegmentValue). g.upto) c.segment-segment.ensures)
