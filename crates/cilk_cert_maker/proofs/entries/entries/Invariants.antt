use Rattle.std.proofs.Common.{◌≤◌, length}
use Rattle.std.specs.Vec.{vec_capacity}
use Rattle.cilk_cert_maker.proofs.Listing.{Lists}
use Rattle.cilk_cert_maker.proofs.entries.entries.Given as goal

abbrev pub invariant-loop-index : goal.invariant-loop-index
invariant-loop-index l = record {
  lists : Lists l.events l.index l.entries.items l.writes.positions.items;
  room : length l.events ≤ vec_capacity l.entries;
}
