use Rattle.cilk_schedule.specs.Gathering.{HaveLinks}
use Rattle.cilk_schedule.proofs.showing.links.Given as goal

abbrev pub invariant-each : goal.invariant-each
invariant-each l = HaveLinks l.frames l.frame-index l.list.items
