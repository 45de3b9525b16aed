-- The meaning of a name, seen from a frame in a number of loop bodies.
use Rattle.std.specs.Prelude.{ℕ, ◌-◌, Bool, true, false, [], Option, Some, None, slice_get, unwrap_or}
use Rattle.cilk_monoid.specs.declared.kind.MonoidKind.{MonoidKind}
use Rattle.cilk_monoid.specs.Kinds.{same_kind}
use Rattle.cilk_syntax.specs.declared.tree.Name.{Name}
use Rattle.cilk_syntax.specs.declared.tree.ReturnType.TheVariants.{Int}
use Rattle.cilk_program.specs.declared.syntax.Array.{Array}
use Rattle.cilk_program.specs.declared.syntax.Place.{Place}
use Rattle.cilk_program.specs.declared.syntax.Place.TheVariants as places
use Rattle.cilk_program.specs.declared.syntax.Reducer.{Reducer}
use Rattle.cilk_program.specs.declared.syntax.ReducerPlace.{ReducerPlace}
use Rattle.cilk_program.specs.declared.syntax.ReducerPlace.TheVariants as reducers
use Rattle.cilk_names.specs.declared.table.Meaning.{Meaning}
use Rattle.cilk_names.specs.declared.table.Meaning.TheVariants as meanings
use Rattle.cilk_names.specs.declared.table.Home.{Home}
use Rattle.cilk_names.specs.declared.table.Home.TheVariants as homes
use Rattle.cilk_names.specs.declared.signature.Signature.{Signature}
use Rattle.cilk_names.specs.Names.{Names, meaning, kind_or_sum}

-- where a variable is: the number of static links up is the number of loop bodies between
abbrev pub place_of : ℕ → Meaning → Option Place
place_of level (meanings.Global n) = Some (places.Global n)
place_of level (meanings.Array a) = None
place_of level (meanings.Local l n) = Some (places.Local (level - l) n)
place_of level (meanings.Turn l) = Some (places.Local (level - l) 0)
place_of level (meanings.Reducer home kind) = None
place_of level (meanings.Function n) = None

-- the variable of a parallel loop
abbrev pub is_turn : Meaning → Bool
is_turn (meanings.Global n) = false
is_turn (meanings.Array a) = false
is_turn (meanings.Local l n) = false
is_turn (meanings.Turn l) = true
is_turn (meanings.Reducer home kind) = false
is_turn (meanings.Function n) = false

abbrev pub array_of : Meaning → Option Array
array_of (meanings.Global n) = None
array_of (meanings.Array a) = Some a
array_of (meanings.Local l n) = None
array_of (meanings.Turn l) = None
array_of (meanings.Reducer home kind) = None
array_of (meanings.Function n) = None

-- a function's frame holds its reducers
abbrev pub reducer_place : ℕ → Home → ReducerPlace
reducer_place level (homes.Global n) = reducers.Global n
reducer_place level (homes.Own n) = reducers.Own level n
reducer_place level (homes.Given n) = reducers.Given level n

abbrev pub reducer_of : ℕ → Meaning → Option Reducer
reducer_of level (meanings.Global n) = None
reducer_of level (meanings.Array a) = None
reducer_of level (meanings.Local l n) = None
reducer_of level (meanings.Turn l) = None
reducer_of level (meanings.Reducer home kind) = Some (record { place = reducer_place level home; kind = kind_or_sum kind })
reducer_of level (meanings.Function n) = None

abbrev pub is_same : Option MonoidKind → Option MonoidKind → Bool
is_same (Some j) (Some k) = same_kind j k
is_same (Some j) None = false
is_same None k = false

-- a reducer of this monoid; an unknown monoid equals none
abbrev pub is_reducer_of : Option MonoidKind → Meaning → Bool
is_reducer_of k (meanings.Global n) = false
is_reducer_of k (meanings.Array a) = false
is_reducer_of k (meanings.Local l n) = false
is_reducer_of k (meanings.Turn l) = false
is_reducer_of k (meanings.Reducer home kind) = is_same kind k
is_reducer_of k (meanings.Function n) = false

abbrev pub function_of : Meaning → Option ℕ
function_of (meanings.Global n) = None
function_of (meanings.Array a) = None
function_of (meanings.Local l n) = None
function_of (meanings.Turn l) = None
function_of (meanings.Reducer home kind) = None
function_of (meanings.Function n) = Some n

-- a look-up in the meaning of a name, if it is known
abbrev pub seen : {A : Type 0} → (Meaning → Option A) → Option Meaning → Option A
seen f None = None
seen f (Some m) = f m

abbrev pub variable : Names → Name → Option Place
variable names x = seen (place_of names.level) (meaning names x)

abbrev pub array : Names → Name → Option Array
array names x = seen array_of (meaning names x)

abbrev pub reducer : Names → Name → Option Reducer
reducer names x = seen (reducer_of names.level) (meaning names x)

abbrev pub called : Names → Name → Option ℕ
called names x = seen function_of (meaning names x)

-- the signature of a function without parameters
abbrev pub plain : Signature
plain = record { returns = Int; parameters = [] }

-- the signature of the function with a name
abbrev pub signature_of : Names → Option ℕ → Signature
signature_of names None = plain
signature_of names (Some n) = unwrap_or (slice_get names.signatures n) plain
