-- What the places that a frame names mean. A frame sees its own cells and reducers and, by static
-- links, those of the frames around its body.
use Rattle.std.specs.Prelude.{ℕ, List, [], ◌∷◌, map, slice_get, Option, Some, None, unwrap_or}
use Rattle.cilk_program.specs.declared.syntax.Place.{Place}
use Rattle.cilk_program.specs.declared.syntax.Place.TheVariants as places
use Rattle.cilk_program.specs.declared.syntax.Reducer.{Reducer}
use Rattle.cilk_program.specs.declared.syntax.ReducerPlace.{ReducerPlace}
use Rattle.cilk_program.specs.declared.syntax.ReducerPlace.TheVariants as reducers

-- A frame's cells, the reducers that it created and those that it was given. C is the type of
-- cells, I that of reducers.
pub record Home (C I : Type 0) : Type 0 where
  pub cells : ℕ → C
  pub own : ℕ → I
  pub given : List I

-- the frame itself, then the frames around it, by static links
abbrev pub Scope : Type 0 → Type 0 → Type 0
Scope C I = List (Home C I)

-- a property of a home, if there is one
abbrev pub at_home : {C I A : Type 0} → Option (Home C I) → A → (Home C I → A) → A
at_home None other f = other
at_home (Some h) other f = f h

-- the cell that a place means
abbrev pub cell_in : {C I : Type 0} → (ℕ → C) → Scope C I → Place → C
cell_in globals scope (places.Global n) = globals n
cell_in globals scope (places.Local up n) = at_home (slice_get scope up) (globals n) (λ h. h.cells n)

-- the reducer that a place means
abbrev pub instance_in : {C I : Type 0} → (ℕ → I) → Scope C I → ReducerPlace → I
instance_in globals scope (reducers.Global n) = globals n
instance_in globals scope (reducers.Own up n) = at_home (slice_get scope up) (globals n) (λ h. h.own n)
instance_in globals scope (reducers.Given up n) = at_home (slice_get scope up) (globals n) (λ h. unwrap_or (slice_get h.given n) (globals n))

-- the reducers that several places mean
abbrev pub instances_in : {C I : Type 0} → (ℕ → I) → Scope C I → List Reducer → List I
instances_in globals scope rs = map (λ r. instance_in globals scope r.place) rs
