-- The reducers that a frame sees, by their numbers in a plan's run.
use Rattle.std.specs.Prelude.{◌≡◌, ◌+◌, ℕ, nat_eq, if◌then◌else◌, List, [], ◌∷◌, drop, length, map, Option, Some, None, slice_get, unwrap_or}
use Rattle.cilk_types.specs.declared.event.Instance as numbered
use Rattle.cilk_program.specs.declared.ask.Ask.{Ask}
use Rattle.cilk_program.specs.declared.ask.Ask.TheVariants as asks
use Rattle.cilk_program.specs.declared.ask.Callee.{Callee}
use Rattle.cilk_program.specs.declared.ask.Callee.TheVariants as callees
use Rattle.cilk_program.specs.declared.syntax.Reducer.{Reducer}
use Rattle.cilk_program.specs.declared.syntax.ReducerPlace.{ReducerPlace}
use Rattle.cilk_program.specs.declared.syntax.ReducerPlace.TheVariants as reducers
use Rattle.cilk_replay.specs.declared.frame_layout.FrameLayout.{FrameLayout}
use Rattle.cilk_replay.specs.declared.frame_layout.ReducerNumber.{ReducerNumber}
use Rattle.cilk_replay.specs.declared.plan_match.PlanMatch.{PlanMatch}
use Rattle.cilk_replay.specs.declared.plan_match.PlanMatch.TheVariants as matches

-- the same as an instance
abbrev pub as_instance : ReducerNumber → numbered.Instance
as_instance r = record { frame = r.frame; place = r.place }

-- a global reducer, which the root's frame creates
abbrev pub global_reducer : ℕ → ReducerNumber
global_reducer n = record { frame = 1; place = n + 1 }

abbrev pub own_reducer : FrameLayout → ℕ → ReducerNumber
own_reducer h n = record { frame = h.frame; place = h.before + n + 1 }

abbrev pub own_there : Option FrameLayout → ℕ → ReducerNumber
own_there None n = global_reducer n
own_there (Some h) n = own_reducer h n

-- The reducer that a place means in a frame. The outermost frame in sight runs a function, to
-- which reducers may be passed. The others run turns of loops, to which none are passed.
abbrev pub reducer_in : List FrameLayout → List ReducerNumber → ReducerPlace → ReducerNumber
reducer_in layouts given (reducers.Global n) = global_reducer n
reducer_in layouts given (reducers.Own up n) = own_there (slice_get layouts up) n
reducer_in layouts given (reducers.Given up n) =
    if nat_eq (up + 1) (length layouts) then unwrap_or (slice_get given n) (global_reducer n) else global_reducer n

-- the reducer that a frame requests, if it sees these
abbrev pub reducer_asked : List FrameLayout → List ReducerNumber → Ask → ReducerNumber
reducer_asked layouts given (asks.Create r) = reducer_in layouts given r.place
reducer_asked layouts given (asks.Update r v) = reducer_in layouts given r.place
reducer_asked layouts given (asks.Set r v) = reducer_in layouts given r.place
reducer_asked layouts given (asks.Value r) = reducer_in layouts given r.place
reducer_asked layouts given k = global_reducer 0

-- the reducers that were passed to the function around a loop
abbrev pub outer_given : List FrameLayout → List ReducerNumber → List ReducerNumber
outer_given [] given = []
outer_given (h ∷ hs) given = given

-- the passed reducers that a child sees
abbrev pub given_seen : Callee → List FrameLayout → List ReducerNumber → List ReducerNumber
given_seen callees.Root layouts given = []
given_seen (callees.Function c) layouts given = map (λ (r : Reducer). reducer_in layouts given r.place) c.reducers
given_seen (callees.Loop l) layouts given = outer_given (drop l.up layouts) given

-- the comparison with the plan's reducer
abbrev pub MatchesReducer : ReducerNumber → numbered.Instance → PlanMatch → Type 0
MatchesReducer found i matches.Follows = as_instance found ≡ i
MatchesReducer found i matches.Departs = as_instance found ≡ i → ⊥
