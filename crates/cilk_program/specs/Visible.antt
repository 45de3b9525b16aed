-- Everything that a frame sees exists. The identity of cells and reducers, and the meaning of
-- existence, are parameters: numbers below a count, for example, or names of frames that have
-- begun.
use Rattle.std.specs.Prelude.{◌≡◌, ◌<◌, ◌⊎◌, ℕ, Bool, IsTrue, [], ◌∷◌, length, drop, slice_get, Option, Some, None}
use Rattle.std.specs.Prelude.{unwrap_or}
use Rattle.std.specs.Option.{option_map}
use Rattle.cilk_monoid.specs.declared.kind.MonoidKind.{MonoidKind}
use Rattle.cilk_program.specs.declared.ask.Callee.{Callee}
use Rattle.cilk_program.specs.declared.ask.Callee.TheVariants as callees
use Rattle.cilk_program.specs.declared.ask.FunctionCall.{FunctionCall}
use Rattle.cilk_program.specs.declared.ask.LoopPart.{LoopPart}
use Rattle.cilk_program.specs.declared.program.Body.{Body}
use Rattle.cilk_program.specs.declared.syntax.Place.{Place}
use Rattle.cilk_program.specs.declared.syntax.ReducerPlace.{ReducerPlace}
use Rattle.cilk_program.specs.Syntax.{Source, function_at, main_of, loop_at}
use Rattle.cilk_program.specs.Scopes.{Home, Scope, cell_in, instance_in, instances_in}
use Rattle.cilk_program.specs.WellNamed.{is_kind, place_is_there, reducer_is_there}
use Rattle.cilk_program.specs.Inside.{body_of, is_whole, CalleeIsFit, CalleeIsThere, IsTaken}

-- half of the turns that the parent halves: its frame has the same static link as the parent's
abbrev pub IsHalf : Callee → Type 0
IsHalf callees.Root = ⊥
IsHalf (callees.Function c) = ⊥
IsHalf (callees.Loop l) = l.up ≡ 1

-- a frame that halves turns begins only halves
abbrev pub CanInvoke : Callee → Callee → Type 0
CanInvoke parent callee = IsTrue (is_whole parent) ⊎ IsHalf callee

module _ {C I : Type 0} (p : Source) (global_cell : ℕ → C) (global_instance : ℕ → I)
    (HasCell : C → Type 0) (HasReducer : I → MonoidKind → Type 0) where
  pub record GlobalsAreThere : Type 0 where
    pub cells : (n : ℕ) → n < length p.openings → HasCell (global_cell n)
    pub reducers : (n : ℕ) (k : MonoidKind) → IsTrue (is_kind (slice_get p.reducers n) k)
        → HasReducer (global_instance n) k

  -- the places that body b names mean cells and reducers that exist
  pub record Sees (b : Body) (scope : Scope C I) : Type 0 where
    pub cells : (x : Place) → IsTrue (place_is_there p b x) → HasCell (cell_in global_cell scope x)
    pub reducers : (r : ReducerPlace) (k : MonoidKind) → IsTrue (reducer_is_there p b r k)
        → HasReducer (instance_in global_instance scope r) k

  -- a loop's frame sees, by its static link, everything around the loop
  abbrev pub SeesOuter : Callee → Scope C I → Type 0
  SeesOuter callees.Root scope = Unit {0}
  SeesOuter (callees.Function c) scope = Unit {0}
  SeesOuter (callees.Loop l) scope = let body = loop_at p l.number in Sees body.within (drop 1 scope)

  -- a frame with this callee and scope sees only what exists, and the cell that receives its result
  -- exists
  pub record FrameSees (callee : Callee) (scope : Scope C I) (target : Option C) : Type 0 where
    pub fit : CalleeIsFit p callee
    pub own : IsTrue (is_whole callee) → Sees (body_of p callee) scope
    pub outer : SeesOuter callee scope
    pub result : IsTaken callee → (c : C) × (target ≡ Some c) × HasCell c

  -- the first frame has this property, if its own cells and reducers and those that it is given
  -- exist
  abbrev pub RootSees : Type 0
  RootSees =
      (home : Home C I) → let f = main_of p in GlobalsAreThere → ((n : ℕ) → n < f.cells → HasCell (home.cells n))
      → ((n : ℕ) (k : MonoidKind) → IsTrue (is_kind (slice_get f.reducers n) k) → HasReducer (home.own n) k)
      → ((n : ℕ) (k : MonoidKind) → IsTrue (is_kind (slice_get f.given n) k)
      → HasReducer (unwrap_or (slice_get home.given n) (global_instance n)) k)
      → FrameSees callees.Root (home ∷ []) None

  -- so does the frame of a called function, if its own cells and reducers exist
  abbrev pub CalledSees : Type 0
  CalledSees =
      (parent : Callee) (scope : Scope C I) (target : Option C) (c : FunctionCall) (cells : ℕ → C) (own : ℕ → I)
      → let f = function_at p c.function in
      let home : Home C I = record { cells = cells; own = own; given = instances_in global_instance scope c.reducers } in
      GlobalsAreThere → FrameSees parent scope target → CalleeIsThere p (body_of p parent) (callees.Function c)
      → CanInvoke parent (callees.Function c)
      → ((n : ℕ) → n < f.cells → HasCell (cells n))
      → ((n : ℕ) (k : MonoidKind) → IsTrue (is_kind (slice_get f.reducers n) k) → HasReducer (own n) k)
      → FrameSees (callees.Function c) (home ∷ []) (option_map (cell_in global_cell scope) c.result)

  -- so does a frame of a loop's turns, if its own cells exist in the case of a single turn
  abbrev pub PartSees : Type 0
  PartSees =
      (parent : Callee) (scope : Scope C I) (target : Option C) (l : LoopPart) (home : Home C I)
      → let body = loop_at p l.number in
      FrameSees parent scope target → CalleeIsThere p (body_of p parent) (callees.Loop l)
      → CanInvoke parent (callees.Loop l)
      → (IsTrue (is_whole (callees.Loop l)) → (n : ℕ) → n < body.cells → HasCell (home.cells n))
      → FrameSees (callees.Loop l) (home ∷ drop l.up scope) None

-- Frames of a well-named program see only what exists, however cells and reducers are numbered, and
-- whichever of them exist. The lemmas hold for any names in place of numbers.
module _ (p : Source) (global_cell global_instance : ℕ → ℕ)
    (has_cell : ℕ → Bool) (has_reducer : ℕ → MonoidKind → Bool) where
  pub record FramesSee : Type 0 where
    pub root : RootSees p global_cell global_instance (λ c. IsTrue (has_cell c)) (λ i k. IsTrue (has_reducer i k))
    pub called : CalledSees p global_cell global_instance (λ c. IsTrue (has_cell c)) (λ i k. IsTrue (has_reducer i k))
    pub parts : PartSees p global_cell global_instance (λ c. IsTrue (has_cell c)) (λ i k. IsTrue (has_reducer i k))
