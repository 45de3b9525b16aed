-- The state of the machine at the end of a strand.
use Rattle.std.specs.Prelude.{◌≡◌, []}
use Rattle.cilk_program.specs.declared.ask.Ask.{Ask}
use Rattle.cilk_program.specs.declared.ask.Ask.TheVariants as asks
use Rattle.cilk_lower.specs.Machine.{Move, Goes, Waits, Stops, Stuck}

-- a spawn, a call or a sync, after which the frame may continue on another worker
abbrev pub EndsStrand : Ask → Type 0
EndsStrand asks.Begin = ⊥
EndsStrand (asks.Read x) = ⊥
EndsStrand (asks.Write x v) = ⊥
EndsStrand (asks.Create r) = ⊥
EndsStrand (asks.Update r v) = ⊥
EndsStrand (asks.Set r v) = ⊥
EndsStrand (asks.Value r) = ⊥
EndsStrand (asks.Print v) = ⊥
EndsStrand (asks.Invoke how callee) = Unit {0}
EndsStrand asks.Resume = ⊥
EndsStrand asks.Sync = Unit {0}
EndsStrand (asks.Result v) = ⊥
EndsStrand (asks.End v) = ⊥
EndsStrand (asks.Fault f) = ⊥

-- the operand stack is empty at the end of a strand
abbrev pub IsClear : Move → Type 0
IsClear (Goes place stack held left) = Unit {0}
IsClear (Waits k owed place stack held left) = EndsStrand k → stack ≡ []
IsClear (Stops k left) = Unit {0}
IsClear Stuck = Unit {0}
