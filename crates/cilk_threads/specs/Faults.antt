-- The faults of a run on threads.
use Rattle.std.specs.Prelude.{◌≤◌, ℕ}
use Rattle.cilk_tree.specs.declared.event_order.EventOrder.{EventOrder}
use Rattle.cilk_tree.specs.Runs.{Departs}
use Rattle.cilk_threads.specs.declared.run.ThreadFault.{ThreadFault}
use Rattle.cilk_threads.specs.declared.run.ThreadFault.TheVariants as faults

-- n is an allowed number of workers
abbrev pub IsPool : ℕ → Type 0
IsPool n = (1 ≤ n) × (n ≤ 64)

-- a fault is true: the run departs where it says so, and the number of workers is a fault exactly
-- if it isn't allowed
abbrev pub IsTrueFault : EventOrder → ℕ → ThreadFault → Type 0
IsTrueFault s n faults.Memory = IsPool n
IsTrueFault s n faults.Workers = IsPool n → ⊥
IsTrueFault s n (faults.Departs p) = IsPool n × Departs s p

-- the number of a fault
abbrev pub number_of : ThreadFault → ℕ
number_of faults.Memory = 401
number_of faults.Workers = 501
number_of (faults.Departs p) = 502
