use Rattle.cilk_program.proofs.FrameRows.{one_runs, get_runs, put_runs, filled_by_none, filled_by_one, filled_by_all, filled_too_far, filled_without_input, total_runs, nested_runs, divided_stops, prints_run, fib_runs, linked_runs, deep_stops, limits_in_order}
use Rattle.cilk_program.proofs.worked.worked_frames.Goals as goal

pub returns : goal.returns
returns c = record {
  one = one_runs;
  get = get_runs;
  put = put_runs;
  filled_by_none = filled_by_none;
  filled_by_one = filled_by_one;
  filled_by_all = filled_by_all;
  filled_too_far = filled_too_far;
  filled_without_input = filled_without_input;
  total = total_runs;
  nested = nested_runs;
  divided = divided_stops;
  prints = prints_run;
  fib = fib_runs;
  linked = linked_runs;
  deep = deep_stops;
  limits = limits_in_order;
}
