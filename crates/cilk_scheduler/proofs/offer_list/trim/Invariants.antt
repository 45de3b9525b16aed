use Rattle.std.proofs.Common.{◌≡◌, ℕ, List, length}
use Rattle.cilk_scheduler.specs.Slots.{IsTallied, standing}
use Rattle.cilk_scheduler.proofs.offer_list.trim.Given as goal

abbrev pub invariant-newest : goal.invariant-newest
invariant-newest l = record {
  stand : standing l.slots.items ≡ standing l.fn.slots.items;
  tallied : (tally : List ℕ) → IsTallied l.fn.slots.items tally → IsTallied l.slots.items tally;
}

abbrev pub decreases-newest : goal.decreases-newest
decreases-newest l = length l.slots.items
