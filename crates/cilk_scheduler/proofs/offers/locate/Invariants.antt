use Rattle.std.proofs.Common.{◌≡◌, drop, slice_get}
use Rattle.cilk_scheduler.specs.Workers.{offers}
use Rattle.cilk_scheduler.proofs.offers.locate.Given as goal

abbrev pub invariant-each : goal.invariant-each
invariant-each l = slice_get (offers (drop l.victim l.workers)) l.rest ≡ slice_get (offers l.workers) l.place
