use Rattle.std.proofs.Common.{◌≡◌, ◌+◌, ◌++◌, ◌∷◌, ℕ, [], List, length, map, sym, ap, ◌∙◌, subst, arith, length-append}
use Rattle.std.proofs.lemmas.Grind.{common_steps}
use Rattle.cilk_types.specs.declared.event.Event.{Event}
use Rattle.cilk_tree.specs.declared.kind.Kind.{Kind}
use Rattle.cilk_tree.specs.Earliest.{all_earliest, number_of}
use Rattle.cilk_tree.specs.Frames.{BeginsAFrame}
use Rattle.cilk_tree.proofs.Framed.{frames_next}
use Rattle.cilk_tree.proofs.Numbered.{numbers_last, numbers_next}
use Rattle.cilk_tree.proofs.event_columns.event_columns.Goals as goal

longer : (xs ys : List Kind) (x : Kind) (n : ℕ) → ys ≡ xs ++ x ∷ [] → length xs ≡ n → length ys ≡ n + 1
longer xs ys x n pushed long = let all = ap (λ (l : List Kind). length l) pushed in let more = length-append xs (x ∷ []) in omega (arith, all, more, long)

pub loop-event-preserved : goal.loop-event-preserved
loop-event-preserved c =
    let es : List Event = c.as_slice-event-items.result.now in
    let n : ℕ = c.loop-event.event-index in
    let h = c.loop-event.invariant in
    let place = h.place in
    let kinds_fit = h.kinds_fit in
    let frames_fit = h.frames_fit in
    let earliest_fit = h.earliest_fit in
    let kinds_room = c.push_reserved-in-loop-event-2.ensures.capacity in
    let frames_room = c.push_reserved-in-loop-event.ensures.capacity in
    let earliest_room = c.push_reserved.ensures.capacity in
    record {
      place = omega (arith, place);
      kinds = grind (arith, common_steps);
      many = longer _ _ _ n c.push_reserved-in-loop-event-2.ensures.items h.many;
      frames = frames_next _ _ _ _ _ _ _ (subst BeginsAFrame (sym c.as_slice-event-items.ensures.events) c.requires) h.frames c.loop-event-test.true c.entered-frame.ensures c.push_reserved-in-loop-event.ensures.items;
      earliest = numbers_next es n _ _ _ _ _ _ (c.loop-event.at + 1) _ h.earliest c.loop-event-test.true c.of.ensures (omega (arith, place)) c.in_ok-first.ensures.earliest c.in_ok-first.ensures.met (c.push_reserved.ensures.items ∙ ap (λ (x : ℕ). c.loop-event.earliest.items ++ x ∷ []) c.number.ensures);
      kinds_fit = omega (arith, kinds_fit, kinds_room);
      frames_fit = omega (arith, frames_fit, frames_room);
      earliest_fit = omega (arith, earliest_fit, earliest_room);
    }

pub returns-clause-earliest : goal.returns-clause-earliest
returns-clause-earliest c = numbers_last _ _ _ _ c.loop-event.invariant.earliest c.loop-event-test.false ∙ ap (λ (es : List Event). map number_of (all_earliest es)) c.as_slice-event-items.ensures.events
