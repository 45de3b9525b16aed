-- The worked programs whose frames begin others have the stated events and outcomes.
use Rattle.std.proofs.Common.{pos, [], ◌∷◌, refl}
use Rattle.std.specs.Int.{int_wrap}
use Rattle.cilk_types.specs.declared.limits.TheConstants.{MAX_EVENTS, MAX_TICKS}
use Rattle.cilk_program.specs.WorkedFrames.{one, OneRuns, get, GetRuns, put, PutRuns, filled, FilledByNone, FilledByOne, FilledByAll, FilledTooFar, FilledWithoutInput, total, TotalRuns, nested, NestedRuns, divided, DividedStops, prints, PrintsRun, fib, FibRuns, linked, LinkedRuns, deep, DeepStops, LimitsInOrder}
use Rattle.cilk_program.proofs.Rows.{within, counted}

pub one_runs : OneRuns
one_runs = within MAX_TICKS MAX_EVENTS one [] _ _ refl refl

pub get_runs : GetRuns
unfolding int_wrap
get_runs = within MAX_TICKS MAX_EVENTS get [] _ _ refl refl

pub put_runs : PutRuns
put_runs = within MAX_TICKS MAX_EVENTS put [] _ _ refl refl

pub filled_by_none : FilledByNone
filled_by_none = within MAX_TICKS MAX_EVENTS filled (pos 0 ∷ []) _ _ refl refl

pub filled_by_one : FilledByOne
filled_by_one = within MAX_TICKS MAX_EVENTS filled (pos 1 ∷ []) _ _ refl refl

pub filled_by_all : FilledByAll
filled_by_all = counted 99 14 MAX_TICKS MAX_EVENTS filled (pos 7 ∷ []) _ refl refl refl

pub filled_too_far : FilledTooFar
filled_too_far = counted 97 16 MAX_TICKS MAX_EVENTS filled (pos 8 ∷ []) _ refl refl refl

pub filled_without_input : FilledWithoutInput
filled_without_input = within MAX_TICKS MAX_EVENTS filled [] _ _ refl refl

pub total_runs : TotalRuns
unfolding int_wrap
total_runs = within MAX_TICKS MAX_EVENTS total [] _ _ refl refl

pub nested_runs : NestedRuns
unfolding int_wrap
nested_runs = counted 75 10 MAX_TICKS MAX_EVENTS nested [] _ refl refl refl

pub divided_stops : DividedStops
unfolding int_wrap
divided_stops = within MAX_TICKS MAX_EVENTS divided [] _ _ refl refl

pub prints_run : PrintsRun
prints_run = within MAX_TICKS MAX_EVENTS prints [] _ _ refl refl

pub fib_runs : FibRuns
unfolding int_wrap
fib_runs = counted 2126 178 MAX_TICKS MAX_EVENTS fib [] _ refl refl refl

pub linked_runs : LinkedRuns
linked_runs = within MAX_TICKS MAX_EVENTS linked [] _ _ refl refl

pub deep_stops : DeepStops
deep_stops = within 100 6 deep [] _ _ refl refl

pub limits_in_order : LimitsInOrder
limits_in_order = (refl, refl, refl, refl)
