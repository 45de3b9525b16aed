use Rattle.std.proofs.Common.{refl}
use Rattle.cilk_trace.proofs.Judgements.{judging_next}
use Rattle.cilk_trace.proofs.judge.Judge.meet.Goals as goal

pub returns-clause-fits : goal.returns-clause-fits
returns-clause-fits c = λ is done j.
    judging_next done c.args.line.now c.args.self.now (record c.args.self.now { survey = c.meet.new.self; unseen = c.counted-self.result }) c.access.new.self j
    (c.in_ok-meet.ensures.fits c.in-Fits.is done j.survey) refl refl c.counted-self.ensures c.in_ok-access.ensures.accessed
