-- The worked programs of one frame have the stated events and outcomes.
use Rattle.std.proofs.Common.{◌≡◌, ℕ, zero, suc, ◌-◌, ℤ, pos, List, [], ◌∷◌, length, Some, false, refl, ap, subst, subst₂}
use Rattle.std.specs.Int.{int_wrap}
use Rattle.cilk_types.specs.declared.fault.Fault.TheVariants.{TooManyEvents}
use Rattle.cilk_types.specs.declared.limits.TheConstants.{MAX_EVENTS, MAX_TICKS}
use Rattle.cilk_types.specs.declared.event.Event.{Event}
use Rattle.cilk_types.specs.declared.outcome.Outcome.{Outcome}
use Rattle.cilk_program.specs.declared.ask.Ask.TheVariants as asks
use Rattle.cilk_program.specs.declared.ask.Callee.TheVariants as callees
use Rattle.cilk_program.specs.Syntax.{Source, Number, Empty, Return, Nothing, Then}
use Rattle.cilk_program.specs.Behaviour.{Asks, ◌>>=◌, asks_for, condition, turns, does, all_do, unless_returned, finishes, ended, frame_asks}
use Rattle.cilk_program.specs.Outcomes.{Conclusion, Leaves, StopsBy}
use Rattle.cilk_program.specs.SerialRun.{Transcript, act, stop, Stopped, Made, Refused, begun, with_store, stored, before_root, root_frame, conclusion_of, IsSerialRunWithin}
use Rattle.cilk_program.specs.Numbering.{counts_after, entered, unbegun}
use Rattle.cilk_program.specs.Worked.{MakesWithin, Takes, nothing, NothingRuns, countdown, CountdownRuns, edges, EdgesRun, local_edges, LocalEdgesRun, division_by_zero, DivisionByZeroStops, skipped_division, SkippedDivisionRuns, short_input, ShortInputStops, operators, OperatorsRun, branches, BranchesRun, no_return, NoReturnRuns, sums, SumsRun, index_outside, IndexOutsideStops, change_outside, ChangeOutsideStops, read_outside, ReadOutsideStops, redeclared, RedeclaredRuns, endless, EndlessStops, TicksCount, FaultsInOrder}
use Rattle.cilk_program.proofs.Computed.{ran_within}
use Rattle.cilk_program.proofs.Uniqueness.{run_within}

-- a program makes the events that are computed, and ends as is computed
pub within : (ticks room : ℕ) (p : Source) (inputs : List ℤ) (es : List Event) (c : Conclusion) → (ran_within p inputs ticks room).events ≡ es → conclusion_of p inputs (ran_within p inputs ticks room).ending ≡ c → MakesWithin ticks room p inputs es c
within ticks room p inputs es c events ending =
    let w = ran_within p inputs ticks room in
    (w.run, subst₂ (λ es c. IsSerialRunWithin p inputs ticks room w.run es c) events ending (run_within p inputs ticks room))

pub nothing_runs : NothingRuns
nothing_runs = within MAX_TICKS MAX_EVENTS nothing [] _ _ refl refl

pub countdown_runs : CountdownRuns
unfolding int_wrap
countdown_runs = within MAX_TICKS MAX_EVENTS countdown [] _ _ refl refl

pub edges_run : EdgesRun
unfolding int_wrap
edges_run = within MAX_TICKS MAX_EVENTS edges [] _ _ refl refl

-- the events that a program makes and their frames, counted
pub counted : (n frames ticks room : ℕ) (p : Source) (inputs : List ℤ) (c : Conclusion) → length (ran_within p inputs ticks room).events ≡ n
    → (counts_after p (ran_within p inputs ticks room).run (entered p callees.Root (unbegun p))).frames ≡ frames
    → conclusion_of p inputs (ran_within p inputs ticks room).ending ≡ c
    → (r : Transcript) × (es : List Event) × (length es ≡ n) × ((counts_after p r (entered p callees.Root (unbegun p))).frames ≡ frames) × IsSerialRunWithin p inputs ticks room r es c
counted n frames ticks room p inputs c many begun ending =
    let w = ran_within p inputs ticks room in
    (w.run, w.events, many, begun, subst (λ c. IsSerialRunWithin p inputs ticks room w.run w.events c) ending (run_within p inputs ticks room))

pub local_edges_run : LocalEdgesRun
unfolding int_wrap
local_edges_run = counted 11 1 MAX_TICKS MAX_EVENTS local_edges [] _ refl refl refl

pub division_by_zero_stops : DivisionByZeroStops
unfolding int_wrap
division_by_zero_stops = within MAX_TICKS MAX_EVENTS division_by_zero [] _ _ refl refl

pub skipped_division_runs : SkippedDivisionRuns
unfolding int_wrap
skipped_division_runs = within MAX_TICKS MAX_EVENTS skipped_division [] _ _ refl refl

pub short_input_stops : ShortInputStops
short_input_stops = within MAX_TICKS MAX_EVENTS short_input (pos 5 ∷ []) _ _ refl refl

pub operators_run : OperatorsRun
unfolding int_wrap
operators_run = within MAX_TICKS MAX_EVENTS operators (pos 5 ∷ pos 6 ∷ []) _ _ refl refl

pub branches_run : BranchesRun
unfolding int_wrap
branches_run = within MAX_TICKS MAX_EVENTS branches [] _ _ refl refl

pub no_return_runs : NoReturnRuns
no_return_runs = within MAX_TICKS MAX_EVENTS no_return [] _ _ refl refl

pub sums_run : SumsRun
unfolding int_wrap
sums_run = within MAX_TICKS MAX_EVENTS sums [] _ _ refl refl

pub index_outside_stops : IndexOutsideStops
unfolding int_wrap
index_outside_stops = within MAX_TICKS MAX_EVENTS index_outside [] _ _ refl refl

pub change_outside_stops : ChangeOutsideStops
unfolding int_wrap
change_outside_stops = within MAX_TICKS MAX_EVENTS change_outside [] _ _ refl refl

pub read_outside_stops : ReadOutsideStops
read_outside_stops = within MAX_TICKS MAX_EVENTS read_outside [] _ _ refl refl

pub redeclared_runs : RedeclaredRuns
unfolding int_wrap
redeclared_runs = within MAX_TICKS MAX_EVENTS redeclared [] _ _ refl refl

-- a loop that never ends uses all ticks, however many there are
turns_on : (n left : ℕ) (inputs answers : List ℤ) → turns n (condition inputs (Some (Number (pos 1)))) (does inputs Empty) (all_do inputs Nothing) answers left ≡ Asks (asks_for (asks.Fault TooManyEvents) 0)
turns_on zero left inputs answers = refl
turns_on (suc n) zero inputs answers = refl
turns_on (suc n) (suc zero) inputs answers = refl
turns_on (suc n) (suc (suc left)) inputs answers = turns_on n left inputs answers

endless_asks : (ticks : ℕ) (a : ℤ) (answers : List ℤ) → frame_asks endless [] callees.Root (a ∷ answers) ticks ≡ asks_for (asks.Fault TooManyEvents) 0
endless_asks zero a answers = refl
endless_asks (suc left) a answers =
    ap (λ g. ended ((g >>= λ f. unless_returned f (all_do [] (Then (Return (Some (Number (pos 0)))) Nothing))) >>= finishes false)) (turns_on (suc left) left [] answers)

pub endless_stops : EndlessStops
endless_stops =
    let m = begun endless callees.Root (before_root endless [] MAX_EVENTS) in
    let fr = root_frame endless [] in (
      act asks.Begin (pos 0) stop,
      (
        Stopped TooManyEvents,
        Made {fr = fr} {start = MAX_TICKS} {history = []} {m = m} asks.Begin MAX_TICKS refl tt refl
            (Refused {fr = fr} {start = MAX_TICKS} {history = pos 0 ∷ []} {m = with_store m (stored endless fr m asks.Begin)} (asks.Fault TooManyEvents) 0 TooManyEvents (endless_asks MAX_TICKS (pos 0) []) refl),
        refl,
      ),
    )

-- the computed run ends within these limits, but not within lower ones
takes : (ticks room : ℕ) (p : Source) (inputs : List ℤ) (outcome : Outcome)
    → conclusion_of p inputs (ran_within p inputs ticks room).ending ≡ Leaves outcome
    → conclusion_of p inputs (ran_within p inputs (ticks - 1) room).ending ≡ StopsBy TooManyEvents
    → conclusion_of p inputs (ran_within p inputs ticks (room - 1)).ending ≡ StopsBy TooManyEvents → Takes ticks room p inputs
takes ticks room p inputs outcome ends short_of_ticks short_of_room = record {
  ends = ((ran_within p inputs ticks room).events, outcome, within ticks room p inputs _ _ refl ends);
  takes_ticks = ((ran_within p inputs (ticks - 1) room).events, within (ticks - 1) room p inputs _ _ refl short_of_ticks);
  takes_events = ((ran_within p inputs ticks (room - 1)).events, within ticks (room - 1) p inputs _ _ refl short_of_room);
}

pub ticks_count : TicksCount
unfolding int_wrap
ticks_count = (
  takes 2 3 nothing [] _ refl refl refl,
  takes 28 20 countdown [] _ refl refl refl,
  takes 24 10 branches [] _ refl refl refl,
  takes 114 32 operators (pos 5 ∷ pos 6 ∷ []) _ refl refl refl,
  takes 42 30 sums [] _ refl refl refl,
)

pub faults_in_order : FaultsInOrder
unfolding int_wrap
faults_in_order = (
  within 1 20 countdown [] _ _ refl refl,
  within 2 20 countdown [] _ _ refl refl,
  within 2 1 division_by_zero [] _ _ refl refl,
  within 3 1 division_by_zero [] _ _ refl refl,
)
