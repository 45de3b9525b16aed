-- What one serial run tells of its own input, and of every input that agrees with it where numbers
-- decide.
use Rattle.std.specs.Prelude.{◌≡◌, ℕ, ◌+◌, ℤ, Bool, true, List, length, Some, None}
use Rattle.cilk_types.specs.declared.event.Event.{Event}
use Rattle.cilk_types.specs.declared.outcome.Outcome.{Outcome}
use Rattle.cilk_program.specs.Syntax.{Source}
use Rattle.cilk_serial.specs.Ran.{Ran, Stops, StopsAfter}
use Rattle.cilk_tree.specs.Shape.{Shape, Spells}
use Rattle.cilk_tree.specs.Tree.{tree}
use Rattle.cilk_determinacy.specs.Settled.{IsSettled}
use Rattle.cilk_oblivious.specs.Every.{OnEvery}
use Rattle.cilk_checker.specs.Settled.{IsFirstOf, RacesAt}
use Rattle.cilk_checker.specs.declared.every.Every.{Every}
use Rattle.cilk_checker.specs.declared.every.Finding.{Finding}
use Rattle.cilk_checker.specs.declared.every.Finding.TheVariants.{Settled, Race, Fault}

module _ (p : Source) (inputs : List ℤ) where
  -- what a serial run tells: its outcome is that of each parallel run, its first race, or its fault
  abbrev pub IsFinding : Finding → Type 0
  IsFinding (Settled outcome) = IsSettled p inputs outcome
  IsFinding (Race first) = RacesAt p inputs first
  IsFinding (Fault fault at) = Stops p inputs fault at

  -- the same, with any outcome
  abbrev pub IsSuchFinding : Finding → Type 0
  IsSuchFinding (Settled outcome) = (own : Outcome) × IsSettled p inputs own
  IsSuchFinding (Race first) = RacesAt p inputs first
  IsSuchFinding (Fault fault at) = Stops p inputs fault at

module _ (p : Source) (inputs : List ℤ) where
  -- The finding is that of this input. If it is on every input, it is such a finding of each input of
  -- words that has as many numbers and agrees with this one wherever `hidden` is false.
  pub record IsVerdictOnEvery (hidden : ℕ → Bool) (e : Every) : Type 0 where
    pub this : IsFinding p inputs e.finding
    pub every : e.is_on_every ≡ true → OnEvery inputs hidden (λ others. IsSuchFinding p others e.finding)

  -- the finding is of the serial run that makes these events
  abbrev pub IsFoundIn : List Event → Finding → Type 0
  IsFoundIn es (Settled outcome) = Ran p inputs outcome es × ((s : Shape) → Spells s es → IsFirstOf (tree s) es None)
  IsFoundIn es (Race first) = (outcome : Outcome) × Ran p inputs outcome es × ((s : Shape) → Spells s es → IsFirstOf (tree s) es (Some first))
  IsFoundIn es (Fault fault at) = StopsAfter p inputs es fault × (at ≡ length es + 1)
