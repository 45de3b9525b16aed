-- The name of no run.
use Rattle.std.specs.Prelude.{[]}
use Rattle.cilk_workers.specs.Rows.{RunValue}
use Rattle.cilk_replay.specs.Replays.{ReplayValue}
use Rattle.cilk_replay.specs.declared.chain.Task.{Task}

abbrev pub no_run : RunValue
no_run = record {
  of = record { words = 0; slots = 0; views_name = 0; atom = 0; block = 0; offset = 0; slot_names = [] };
  event_order = record { events = []; preceding = []; opening = []; asked = [] };
  reducers = record { frames = [] };
}

abbrev pub no_replay : ReplayValue → Type 0
no_replay c = ⊥

abbrev pub no_taken : Task → Type 0
no_taken t = ⊥
