use Rattle.std.proofs.Common.{◌<◌, length, take}
use Rattle.cilk_scheduler.specs.Slots.{IsTallied}
use Rattle.cilk_scheduler.proofs.offer_list.grown.Given as goal

abbrev pub invariant-each : goal.invariant-each
invariant-each l = record {
  tallied : IsTallied (take l.at l.slots.items) l.wider;
  room : length l.slots.items < length l.wider;
}
