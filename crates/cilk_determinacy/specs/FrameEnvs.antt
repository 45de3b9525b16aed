-- Frame environments: what a frame is started as, by names that no schedule changes.
use Rattle.std.specs.Prelude.{ℕ, ◌+◌, List, [], ◌∷◌, ◌++◌, length, drop, Option, None, unwrap_or}
use Rattle.std.specs.Option.{option_map}
use Rattle.cilk_monoid.specs.declared.kind.MonoidKind.{MonoidKind}
use Rattle.cilk_program.specs.declared.ask.Callee.{Callee}
use Rattle.cilk_program.specs.declared.ask.Callee.TheVariants as callees
use Rattle.cilk_program.specs.declared.syntax.Place.{Place}
use Rattle.cilk_program.specs.declared.syntax.Reducer as syntax
use Rattle.cilk_program.specs.Syntax.{Source}
use Rattle.cilk_program.specs.Scopes.{Home, Scope, cell_in, instance_in, instances_in}
use Rattle.cilk_determinacy.specs.Runs.{Name, Cell, Global, Own, Instance, Reducer}

-- the place of a reducer; with a monoid it gives the reducer
abbrev pub Reducers : Type 0
Reducers = MonoidKind → Instance

-- the cells and reducers that a frame sees, by names
abbrev pub Sight : Type 0
Sight = Scope Cell Reducers

-- a global reducer; they are created by the first frame
abbrev pub global_named : ℕ → Reducers
global_named n = Reducer [] n

-- the number of reducers that a frame creates before its own: the first frame creates the global
-- ones
abbrev pub before_own : Source → Callee → ℕ
before_own p callees.Root = length p.reducers
before_own p (callees.Function c) = 0
before_own p (callees.Loop l) = 0

-- a frame's own reducer
abbrev pub own_named : Source → Callee → Name → ℕ → Reducers
own_named p callee name n = Reducer name (before_own p callee + n)

abbrev pub home_named : Source → Callee → Name → List Reducers → Home Cell Reducers
home_named p callee name given = record { cells = Own name; own = own_named p callee name; given = given }

-- the frames around a frame's body, by static links
abbrev pub outer_named : Callee → Sight → Sight
outer_named callees.Root sight = []
outer_named (callees.Function c) sight = []
outer_named (callees.Loop l) sight = drop l.up sight

abbrev pub given_named : Callee → Sight → List Reducers
given_named callees.Root sight = []
given_named (callees.Function c) sight = instances_in global_named sight c.reducers
given_named (callees.Loop l) sight = []

abbrev pub result_named : Callee → Sight → Option Cell
result_named callees.Root sight = None
result_named (callees.Function c) sight = option_map (cell_in Global sight) c.result
result_named (callees.Loop l) sight = None

-- the code that a frame runs, its name, what it sees, and the cell of its result
pub record FrameEnv : Type 0 where
  pub callee : Callee
  pub name : Name
  pub sight : Sight
  pub result : Option Cell

-- the environment of the frame of this name, started by one with this sight
abbrev pub env_of : Source → Name → Sight → Callee → FrameEnv
env_of p name sight callee = record {
  callee = callee;
  name = name;
  sight = home_named p callee name (given_named callee sight) ∷ outer_named callee sight;
  result = result_named callee sight;
}

-- the environment of the first frame
abbrev pub first_env : Source → FrameEnv
first_env p = env_of p [] [] callees.Root

-- the environment of the child of this ordinal
abbrev pub child_env : Source → FrameEnv → ℕ → Callee → FrameEnv
child_env p w k callee = env_of p (w.name ++ k ∷ []) w.sight callee

abbrev pub cell_seen : FrameEnv → Place → Cell
cell_seen w x = cell_in Global w.sight x

abbrev pub reducer_seen : FrameEnv → syntax.Reducer → Instance
reducer_seen w r = instance_in global_named w.sight r.place r.kind

-- the cell of the frame's result
abbrev pub result_cell : FrameEnv → Cell
result_cell w = unwrap_or w.result (Global 0)
