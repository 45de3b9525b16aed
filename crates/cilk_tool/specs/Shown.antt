-- The answers of `threads`: a program is checked, and run by workers if it is accepted.
use Rattle.std.specs.Prelude.{◌≡◌, ◌≢◌, ◌⊎◌, ℕ, ℤ, List, [], ◌∷◌, Option, Some, None}
use Rattle.cilk_parser.specs.Inputs.{IsInput}
use Rattle.cilk_checker.specs.Judging.{Meant, meant}
use Rattle.cilk_checker.specs.Answers.{IsCertified}
use Rattle.cilk_checker.specs.Determinate.{AcceptedRun}
use Rattle.cilk_threads.specs.Faults.{IsPool}
use Rattle.cilk_plan.specs.Plans.{IsPlanOf}
use Rattle.cilk_tree.specs.declared.event_order.EventOrder.{EventOrder}
use Rattle.cilk_threads.specs.Outcomes.{DepartsNowhereOn, DepartsOn, IsOutcomeOn}
use Rattle.cilk_commands.specs.Files.{Failures, IsHeld}
use Rattle.cilk_commands.specs.Replies.{Accepted, Ended, NoMemory, Refused, Reply, Text}
use Rattle.cilk_commands.specs.Serving.{InputFileFails}
use Rattle.cilk_commands.specs.Shown.{CheckShows, InputFails}
use Rattle.cilk_messages.specs.ThreadsWords.{Requested}

-- the refusal for a number of workers that isn't 1 to 64
abbrev pub no_pool : ℕ
no_pool = 501

-- the refusal for a departure
abbrev pub departed : ℕ
departed = 502

-- the accepted run of a program on these inputs; `known` is what is known of the certificate's text
pub record IsAcceptedRun (m : Meant) (inputs : List ℤ) (known : Option Text) (a : AcceptedRun) : Type 0 where
  pub program : meant a.program ≡ m
  pub input : a.input ≡ inputs
  pub certified : IsCertified m.source inputs known a.trace a.outcome

-- the numbers of the run: its own, or those of a file
abbrev pub GivesNumbers : (Text → Option Text) → Option Text → List ℤ → List ℤ → Type 0
GivesNumbers files None own numbers = numbers ≡ own
GivesNumbers files (Some path) own numbers = (text : Text) × IsHeld (files path) text × IsInput text numbers

-- these numbers depart from the plan of the accepted run at a position
abbrev pub DepartsFrom : AcceptedRun → List ℤ → ℕ → Type 0
DepartsFrom a numbers at = (event_order : EventOrder) × IsPlanOf a event_order × DepartsOn (record { run = a; event_order = event_order }) numbers at

-- no run is made: the number of workers isn't 1 to 64, or the numbers are other than its own and
-- depart
abbrev pub IsUnrun : AcceptedRun → List ℤ → ℕ → ℕ → List ℕ → Type 0
IsUnrun a numbers workers number places =
    ((number ≡ no_pool) × (places ≡ []) × (IsPool workers → ⊥))
    ⊎ ((number ≡ departed) × (numbers ≢ a.input) × ((at : ℕ) × (places ≡ at ∷ []) × DepartsFrom a numbers at))

-- The answer for an accepted program that workers run on these numbers: the program's outcome on
-- them, which is the certified run's on its own numbers, if they depart nowhere from the plan; or
-- why there is no run.
abbrev pub RunShows : AcceptedRun → Meant → List ℤ → ℕ → Reply → Type 0
RunShows a m numbers workers (Ended names o) =
    (names ≡ m.names) × IsPool workers × IsOutcomeOn m.source numbers o × (numbers ≡ a.input → o ≡ a.outcome) × DepartsNowhereOn a numbers
RunShows a m numbers workers (Refused number places) = IsUnrun a numbers workers number places
RunShows a m numbers workers NoMemory = Unit {0}
RunShows a m numbers workers _ = ⊥

-- The answer for an accepted run. Either the file of other numbers is the first that can't be read;
-- or its text is refused, or the answer is that of the run, and no read of a file failed.
pub data AcceptedShow (files : Text → Option Text) (failed failed' : Failures) (on : Option Text) (workers : ℕ) (a : AcceptedRun) (m : Meant)
    (r : Reply) : Type 0 where
  NumbersUnread : InputFileFails failed failed' on r → AcceptedShow files failed failed' on workers a m r
  NumbersRefused : (path text : Text) → on ≡ Some path → IsHeld (files path) text → InputFails text r → failed' ≡ failed
      → AcceptedShow files failed failed' on workers a m r
  Ran : (numbers : List ℤ) → GivesNumbers files on a.input numbers → RunShows a m numbers workers r → failed' ≡ failed
      → AcceptedShow files failed failed' on workers a m r

-- The answer for a program and its input: that of the check, if it doesn't accept; otherwise that
-- of the accepted run. No read failed up to that.
pub data ThreadsShow (files : Text → Option Text) (failed failed' : Failures) (asked : Requested) (m : Meant) (inputs : List ℤ)
    (r : Reply) : Type 0 where
  Unaccepted : r ≢ Accepted → CheckShows asked.certificate (files asked.certificate) failed failed' m inputs r
      → ThreadsShow files failed failed' asked m inputs r
  WithRun : (a : AcceptedRun) → IsAcceptedRun m inputs (files asked.certificate) a → AcceptedShow files failed failed' asked.on asked.workers a m r
      → ThreadsShow files failed failed' asked m inputs r
