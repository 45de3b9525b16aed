use Rattle.cilk_plan.proofs.Departures.{oblivious_departs_nowhere}
use Rattle.cilk_plan.proofs.laws.oblivious_runs_depart_nowhere.Goals as goal

pub returns : goal.returns
returns c = oblivious_departs_nowhere c.oblivious_runs_have_twins.ensures c.like_runs_depart_nowhere.ensures
