use Rattle.std.proofs.Common.{◌≡◌, ◌-◌, ◌∙◌, List, length, slice_get, Some, take, ap, subst}
use Rattle.cilk_scheduler.specs.Slots.{IsTallied, standing}
use Rattle.cilk_scheduler.specs.declared.offer_list.Slot.{Slot}
use Rattle.cilk_scheduler.proofs.Slots.{trimmed, trimmed_tally}
use Rattle.cilk_scheduler.proofs.offer_list.trim.Goals as goal

pub newest-preserved : goal.newest-preserved
newest-preserved c =
    let old = c.newest.slots.items in
    let s = c.in-Some.newest.now in
    let last : Some s ≡ slice_get old (length old - 1) = subst (λ (l : List Slot). Some s ≡ slice_get l (length l - 1)) c.deref.ensures.value c.in-Some.ensures.value in
    let rest : c.pop-slot.new.self.items ≡ take (length old - 1) old = c.pop-slot.ensures.rest ∙ ap (λ n. take (n - 1) old) c.newest.slots.ok.0 in
    record {
      stand = ap standing rest ∙ trimmed old s last c.if-newest.false ∙ c.newest.invariant.stand;
      tallied = λ tally t. rw rest (trimmed_tally old s tally last c.if-newest.false (c.newest.invariant.tallied tally t));
    }
