use Rattle.std.proofs.Common.{sym}
use Rattle.cilk_cells.proofs.Firsts.{kept_present, kept_absent}
use Rattle.cilk_cells.proofs.first_reads.FirstReads.meet.Goals as goal

pub returns-in-Some-clause-kept : goal.returns-in-Some-clause-kept
returns-in-Some-clause-kept c = kept_present c.args.self.now c.args.instance c.args.here c.in-Some.first.now (sym c.in-Some.ensures.value)

pub returns-clause-kept : goal.returns-clause-kept
returns-clause-kept c = kept_absent c.args.self.now _ c.args.instance c.args.here (sym c.in_default.ensures.value) c.in_ok-insert.ensures.updates.0
