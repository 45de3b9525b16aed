use Rattle.std.proofs.Common.{◌≡◌, length}
use Rattle.cilk_report.specs.Settling.{SettlesEach, State, state}
use Rattle.cilk_messages.specs.Batches.{batch_view}
use Rattle.cilk_messages.specs.Words.{texts}
use Rattle.cilk_report.proofs.settling.settle_each.Given as goal

abbrev pub invariant-each : goal.invariant-each
invariant-each g l = record {
  same : g.F.Files.holds l.files ≡ g.F.Files.holds l.initial.files;
  untouched : l.input ≡ l.initial.input;
  onward :
      let b = batch_view l.batch in (end : State)
      → SettlesEach b.every b.form (g.F.Files.holds l.initial.files) (g.R.CountedRead.remaining l.initial.input) b.input (texts l.rest)
      (state l.status (g.F.Files.failed l.files) (g.O.Write.contents l.out) (g.E.Write.contents l.err)) end
      → SettlesEach b.every b.form (g.F.Files.holds l.initial.files) (g.R.CountedRead.remaining l.initial.input) b.input (texts l.initial.rest)
      (state l.initial.status (g.F.Files.failed l.initial.files) (g.O.Write.contents l.initial.out) (g.E.Write.contents l.initial.err)) end;
}

abbrev pub decreases-each : goal.decreases-each
decreases-each g l = length l.rest
