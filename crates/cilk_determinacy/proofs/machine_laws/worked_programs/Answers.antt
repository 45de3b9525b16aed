use Rattle.cilk_determinacy.proofs.Rows.{early_read_races, two_reads_do_not_race, two_writes_race, both_read_runs, both_read_is_determinate, early_value_races}
use Rattle.cilk_determinacy.proofs.machine_laws.worked_programs.Goals as goal

pub returns : goal.returns
returns c =
    record {
      early_read = early_read_races;
      two_reads = two_reads_do_not_race;
      two_writes = two_writes_race;
      both_read = both_read_runs;
      both_read_whole = both_read_is_determinate;
      early_value = early_value_races;
    }
