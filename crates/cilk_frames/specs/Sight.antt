-- The scope of a frame, found in a list of activations: its own cells and reducers and, by static
-- links, those of the frames around its body.
use Rattle.std.specs.Prelude.{◌≡◌, ◌+◌, ◌<◌, ◌^◌, ℕ, List, [], ◌∷◌, Option, Some, None, slice_get}
use Rattle.cilk_types.specs.declared.event.Instance.{Instance}
use Rattle.cilk_program.specs.declared.syntax.Place.{Place}
use Rattle.cilk_program.specs.declared.syntax.Reducer.{Reducer}
use Rattle.cilk_program.specs.Scopes.{Home, Scope, cell_in}
use Rattle.cilk_program.specs.SerialRun.{itself}
use Rattle.cilk_frames.specs.declared.activation.Activation.{Activation}
pub use Rattle.cilk_program.specs.Syntax.{number_in}

-- an activation's own cells and reducers
abbrev pub home_at : {C : Type 0} → Activation C → Home ℕ Instance
home_at a = record { cells = λ n. a.base + n; own = λ n. record { frame = a.number; place = a.first + n }; given = a.given.items }

-- following a static link gives these homes, in order
abbrev pub LinksTo : {C : Type 0} → List (Activation C) → Option ℕ → Scope ℕ Instance → Type 0
LinksTo frames None [] = Unit {0}
LinksTo frames None (h ∷ scope) = ⊥
LinksTo frames (Some n) [] = ⊥
LinksTo {C} frames (Some n) (h ∷ scope) = (a : Activation C) × (slice_get frames n ≡ Some a) × (h ≡ home_at a) × (a.first < 65536) × LinksTo frames a.outer scope

-- this is the activation's scope
pub record HasScope {C : Type 0} (frames : List (Activation C)) (a : Activation C) (scope : Scope ℕ Instance) : Type 0 where
  pub outer : Scope ℕ Instance
  pub scope_is : scope ≡ home_at a ∷ outer
  pub low : a.first < 65536
  pub links : LinksTo frames a.outer outer

abbrev pub AreSmall : List Reducer → Type 0
AreSmall [] = Unit {0}
AreSmall (r ∷ rs) = (number_in r.place < 65536) × AreSmall rs

-- the cell that receives a result fits in 32 bits
abbrev pub ResultFits : Scope ℕ Instance → Option Place → Type 0
ResultFits scope None = Unit {0}
ResultFits scope (Some x) = cell_in itself scope x < 2 ^ 32
