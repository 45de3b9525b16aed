use Rattle.cilk_program.proofs.ReducerRows.{changed_runs, hundred_runs, ordered_runs, read_early_runs, apart_runs, wrapped_runs, untouched_runs, lent_runs, peeked_runs, digits_run, nines_run, again_runs}
use Rattle.cilk_program.proofs.worked.worked_reducers.Goals as goal

pub returns : goal.returns
returns c = record {
  changed = changed_runs;
  hundred = hundred_runs;
  ordered = ordered_runs;
  read_early = read_early_runs;
  apart = apart_runs;
  wrapped = wrapped_runs;
  untouched = untouched_runs;
  lent = lent_runs;
  peeked = peeked_runs;
  digits = digits_run;
  nines = nines_run;
  again = again_runs;
}
