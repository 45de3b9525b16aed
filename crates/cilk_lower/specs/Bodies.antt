-- The places of bodies in code.
use Rattle.std.specs.Prelude.{◌≡◌, ◌+◌, ◌≤◌, ℕ, List, [], ◌∷◌, ◌++◌, length, Some, slice_get}
use Rattle.cilk_program.specs.declared.program.Function as declared_functions
use Rattle.cilk_program.specs.declared.program.Loop as declared_loops
use Rattle.cilk_program.specs.Programs.{function, loop}
use Rattle.cilk_program.specs.Syntax.{Statements}
use Rattle.cilk_lower.specs.declared.code.EntryPoint.{EntryPoint}
use Rattle.cilk_lower.specs.declared.code.Instr.{Instr}
use Rattle.cilk_lower.specs.declared.code.Site.{Site}
use Rattle.cilk_lower.specs.Code.{function_code, loop_code, all_sites, ArraysFit, JumpsLand, SitesFit}
use Rattle.cilk_lower.specs.Rooms.{deepest_of_all}

-- the list has these items from this place on
abbrev pub HasAt : {A : Type 0} → List A → ℕ → List A → Type 0
HasAt list place [] = Unit {0}
HasAt list place (i ∷ is) = (slice_get list place ≡ Some i) × HasAt list (place + 1) is

-- The body's instructions are at the entry's place, its call sites in the table, and it needs
-- exactly the entry's room.
pub record BodyAt (instrs : List Instr) (sites : List Site) (e : EntryPoint) (code : ℕ → List Instr) (body : Statements) : Type 0 where
  pub count : ℕ
  pub at : HasAt instrs e.place (code count)
  pub called : HasAt sites count (all_sites body)
  pub room : e.room ≡ deepest_of_all body

abbrev pub FunctionAt : List Instr → List Site → EntryPoint → declared_functions.Function → Type 0
FunctionAt instrs sites e f = let f = function f in BodyAt instrs sites e (λ k. function_code k f) f.body

abbrev pub LoopAt : List Instr → List Site → EntryPoint → declared_loops.Loop → Type 0
LoopAt instrs sites e l = let l = loop l in BodyAt instrs sites e (λ k. loop_code k l) l.body

-- each has an entry of its own, in order
abbrev pub EachAt : {A : Type 0} → (EntryPoint → A → Type 0) → List EntryPoint → List A → Type 0
EachAt P [] [] = Unit {0}
EachAt P [] (x ∷ xs) = ⊥
EachAt P (e ∷ es) [] = ⊥
EachAt P (e ∷ es) (x ∷ xs) = P e x × EachAt P es xs

-- the invariants of code: jumps, arrays and call sites are valid
pub record IsSound (instrs : List Instr) (sites : List Site) : Type 0 where
  pub jumps : JumpsLand instrs
  pub arrays : ArraysFit instrs
  pub sites_fit : SitesFit sites

-- the old code and call sites are a prefix of the new ones
pub record Grows (instrs : List Instr) (sites : List Site) (instrs' : List Instr) (sites' : List Site) : Type 0 where
  pub code : List Instr
  pub calls : List Site
  pub instrs_are : instrs' ≡ instrs ++ code
  pub sites_are : sites' ≡ sites ++ calls

-- Each call in the function has few enough arguments, array cells fit in 32 bits, and it declares
-- at most 64 reducers.
pub record FunctionFits (f : declared_functions.Function) : Type 0 where
  pub sites : let f = function f in SitesFit (all_sites f.body)
  pub arrays : let f = function f in (k : ℕ) → ArraysFit (function_code k f)
  pub reducers : let f = function f in length f.reducers ≤ 64

pub record LoopFits (l : declared_loops.Loop) : Type 0 where
  pub sites : let l = loop l in SitesFit (all_sites l.body)
  pub arrays : let l = loop l in (k : ℕ) → ArraysFit (loop_code k l)

abbrev pub EachFits : {A : Type 0} → (A → Type 0) → List A → Type 0
EachFits P xs = (k : ℕ) (x : _) → slice_get xs k ≡ Some x → P x
