use Rattle.cilk_program.proofs.Rows.{nothing_runs, countdown_runs, endless_stops, edges_run, local_edges_run, division_by_zero_stops, skipped_division_runs, short_input_stops, operators_run, branches_run, no_return_runs, sums_run, index_outside_stops, change_outside_stops, read_outside_stops, redeclared_runs, ticks_count, faults_in_order}
use Rattle.cilk_program.proofs.worked.worked_statements.Goals as goal

pub returns : goal.returns
returns c = record {
  nothing = nothing_runs;
  countdown = countdown_runs;
  endless = endless_stops;
  edges = edges_run;
  local_edges = local_edges_run;
  division_by_zero = division_by_zero_stops;
  skipped_division = skipped_division_runs;
  short_input = short_input_stops;
  operators = operators_run;
  branches = branches_run;
  no_return = no_return_runs;
  sums = sums_run;
  index_outside = index_outside_stops;
  change_outside = change_outside_stops;
  read_outside = read_outside_stops;
  redeclared = redeclared_runs;
  ticks = ticks_count;
  order = faults_in_order;
}
