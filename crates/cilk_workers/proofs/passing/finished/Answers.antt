use Rattle.std.proofs.Common.{◌≡◌, ◌<◌, ◌∙◌, ◌+◌, ℕ, Some, length, sym, ap, subst, w64}
use Rattle.std.proofs.lemmas.Int.{to_z-of_z}
use Rattle.cilk_workers.specs.Turns.{IsResult}
use Rattle.cilk_types.specs.declared.event.Event.TheVariants as events
use Rattle.cilk_shared.specs.Pieces.{PieceValue}
use Rattle.cilk_tree.specs.declared.event_order.EventOrder.{EventOrder}
use Rattle.cilk_tree.specs.Runs.{IsAsked, IsFollowed}
use Rattle.cilk_tree.specs.Word.{predecessors_of, event, finish, resume, word_step}
use Rattle.cilk_tree.specs.Orders.{IsOrderly}
use Rattle.cilk_workers.specs.Shared.{event_order_in}
use Rattle.cilk_workers.proofs.Bursts.{no_end}
use Rattle.cilk_workers.proofs.Due.{ahead, grown_good, in_segment, in_yard, off_segment, on_chain}
use Rattle.cilk_workers.proofs.Ending.{ended_with}
use Rattle.cilk_workers.proofs.OfKind.{finish_event}
use Rattle.cilk_workers.proofs.passing.finished.Goals as goal

finishes : (s : EventOrder) (at : ℕ) → IsOrderly s → at ≡ length s.events → word_step s at ≡ finish
finishes s at order last = ap (word_step s) last ∙ order.last

ends : (s : EventOrder) (at : ℕ) → IsOrderly s → at ≡ length s.events → event s at ≡ Some events.End
ends s at order last = finish_event s.events at (event s at) (predecessors_of s at) (finishes s at order last)

no_sync : (s : EventOrder) (at : ℕ) → IsOrderly s → at ≡ length s.events → event s at ≡ Some events.Sync → ⊥
no_sync s at order last q = let z : Some events.End ≡ Some events.Sync = sym (ends s at order last) ∙ q in cc z

no_resume : (s : EventOrder) (at : ℕ) → IsOrderly s → at ≡ length s.events → (k : ℕ) → word_step s at ≡ resume k → ⊥
no_resume s at order last k q = let z : finish ≡ resume k = sym (finishes s at order last) ∙ q in cc z

pub follows-requires-clause-next : goal.follows-requires-clause-next
follows-requires-clause-next c =
    let y = c.args.shared.now in
    let p = c.args.work.now.piece in
    let works = c.requires.works in
    ahead y p _ c.segment.ensures works.good (no_resume (event_order_in y) p.upto c.laws.ensures.order c.requires.last)

pub follows-requires-clause-sync : goal.follows-requires-clause-sync
follows-requires-clause-sync c =
    let y = c.args.shared.now in
    let p = c.args.work.now.piece in
    let works = c.requires.works in
    in_segment (λ s at. event s at ≡ Some events.Sync → ⊥) y p _ c.segment.ensures works.good.0 (no_sync (event_order_in y) p.upto c.laws.ensures.order c.requires.last)

pub follows-requires-clause-asked : goal.follows-requires-clause-asked
follows-requires-clause-asked c =
    let works = c.requires.works in
    in_segment (λ s at. IsAsked s at) c.args.shared.now c.args.work.now.piece _ c.segment.ensures works.good.0 c.requires.asked

pub result_asked-value-requires-clause-asked : goal.result_asked-value-requires-clause-asked
result_asked-value-requires-clause-asked c = on_chain (λ s at. IsAsked s at) c.args.shared.now c.args.work.now c.requires.works c.laws.ensures.same c.requires.asked

pub result_asked-value-requires-clause-end : goal.result_asked-value-requires-clause-end
result_asked-value-requires-clause-end c =
    let y = c.args.shared.now in
    let p = c.args.work.now.piece in
    on_chain (λ s at. event s at ≡ Some events.End) y c.args.work.now c.requires.works c.laws.ensures.same (ends (event_order_in y) p.upto c.laws.ensures.order c.requires.last)

pub finish-requires-clause-next : goal.finish-requires-clause-next
finish-requires-clause-next c =
    let y = c.args.shared.now in
    let p = c.args.work.now.piece in
    let works = c.requires.works in
    in_yard (λ s. (p.from < p.upto × IsAsked s p.upto) × (word_step s p.upto ≡ finish)) y _ c.yard-2.ensures ((works.good.1, c.requires.asked), finishes (event_order_in y) p.upto c.laws.ensures.order c.requires.last)

pub returns-clause-turned : goal.returns-clause-turned
returns-clause-turned c =
    let y = c.args.shared.now in
    let p = c.args.work.now.piece in
    let works = c.requires.works in
    let g = grown_good y p _ works.good c.finish.ensures.piece in
    let last = c.requires.last in
    let followed = subst (λ (n : ℕ). IsFollowed (event_order_in y) n) last (off_segment (λ s at. IsFollowed s at) y p _ c.segment.ensures works.good.0 c.follows.ensures) in (
      record {
        good = g.0;
        begins = ap (λ (z : PieceValue). z.from) c.finish.ensures.piece ∙ c.finish.ensures.begins;
        last = g.2 ∙ ap (λ (n : ℕ). n + 1) last;
        followed = followed;
        result = subst (λ v. IsResult y v) (sym (to_z-of_z w64 c.result_asked-value.result (record { sfits = c.result_asked-value.type_inv })))
            (ended_with y c.args.work.now.chain p.upto c.result_asked-value.result works.stands c.laws.ensures.same c.result_asked-value.ensures c.requires.asked last);
      },
      c.finish.ensures.piece,
    )

pub returns-clause-spawn : goal.returns-clause-spawn
returns-clause-spawn c =
    let y = c.args.shared.now in
    let p = c.args.work.now.piece in
    no_end (event_order_in y) p.upto (ends (event_order_in y) p.upto c.laws.ensures.order c.requires.last)
