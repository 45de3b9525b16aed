-- The worked programs with reducers have the stated events and outcomes.
use Rattle.std.proofs.Common.{[], refl}
use Rattle.std.specs.Int.{int_wrap}
use Rattle.cilk_types.specs.declared.limits.TheConstants.{MAX_EVENTS, MAX_TICKS}
use Rattle.cilk_program.specs.WorkedReducers.{changed, ChangedRuns, hundred, HundredRuns, ordered, OrderedRuns, read_early, ReadEarlyRuns, apart, ApartRuns, wrapped, WrappedRuns, untouched, UntouchedRuns, lent, LentRuns, peeked, PeekedRuns, digits, DigitsRun, nines, NinesRun, again, AgainRuns}
use Rattle.cilk_program.proofs.Rows.{within, counted}

pub changed_runs : ChangedRuns
changed_runs = within MAX_TICKS MAX_EVENTS changed [] _ _ refl refl

pub hundred_runs : HundredRuns
unfolding int_wrap
hundred_runs = counted 1300 200 MAX_TICKS MAX_EVENTS hundred [] _ refl refl refl

pub ordered_runs : OrderedRuns
ordered_runs = counted 65 10 MAX_TICKS MAX_EVENTS ordered [] _ refl refl refl

pub read_early_runs : ReadEarlyRuns
unfolding int_wrap
read_early_runs = within MAX_TICKS MAX_EVENTS read_early [] _ _ refl refl

pub apart_runs : ApartRuns
unfolding int_wrap
apart_runs = counted 135 19 MAX_TICKS MAX_EVENTS apart [] _ refl refl refl

pub wrapped_runs : WrappedRuns
unfolding int_wrap
wrapped_runs = counted 30 4 MAX_TICKS MAX_EVENTS wrapped [] _ refl refl refl

pub untouched_runs : UntouchedRuns
untouched_runs = within MAX_TICKS MAX_EVENTS untouched [] _ _ refl refl

pub lent_runs : LentRuns
lent_runs = within MAX_TICKS MAX_EVENTS lent [] _ _ refl refl

pub peeked_runs : PeekedRuns
peeked_runs = within MAX_TICKS MAX_EVENTS peeked [] _ _ refl refl

pub digits_run : DigitsRun
unfolding int_wrap
digits_run = counted 52 8 MAX_TICKS MAX_EVENTS digits [] _ refl refl refl

pub nines_run : NinesRun
unfolding int_wrap
nines_run = counted 240 40 MAX_TICKS MAX_EVENTS nines [] _ refl refl refl

pub again_runs : AgainRuns
unfolding int_wrap
again_runs = within MAX_TICKS MAX_EVENTS again [] _ _ refl refl
