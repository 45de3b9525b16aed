-- The meaning of names in lexical scopes. A function is known in the whole text, another name from
-- its declaration to the end of its scope. An inner name hides an outer one.
use Rattle.std.specs.Prelude.{ℕ, Bool, true, false, if◌then◌else◌, List, [], ◌∷◌, ◌++◌, Option, Some, None, option_map, unwrap_or, bytes_eq}
use Rattle.std.specs.Option.{is_some, option_map_or, option_or}
use Rattle.cilk_monoid.specs.declared.kind.MonoidKind.{MonoidKind}
use Rattle.cilk_monoid.specs.declared.kind.MonoidKind.TheVariants as monoids
use Rattle.cilk_monoid.specs.Kinds.{kind_named}
use Rattle.cilk_syntax.specs.declared.tree.Name.{Name}
use Rattle.cilk_syntax.specs.declared.tree.Reducer.{Reducer}
use Rattle.cilk_syntax.specs.Trees.{bytes_of}
use Rattle.cilk_names.specs.declared.table.Meaning.{Meaning}
use Rattle.cilk_names.specs.declared.table.Meaning.TheVariants as meanings
use Rattle.cilk_names.specs.declared.table.Binding.{Binding}
use Rattle.cilk_names.specs.declared.signature.Signature.{Signature}

-- a scope: for each name its meaning, and whether it is declared already
abbrev pub Scope : Type 0
Scope = List ℕ → Option Binding

-- The names at a place of the text: the innermost scope, the outer ones from the outermost in, and
-- the number of enclosing bodies of parallel loops.
pub record Names : Type 0 where
  pub text : List ℕ
  pub signatures : List Signature
  pub inner : Scope
  pub outer : List Scope
  pub level : ℕ

-- an inner scope hides an outer one
abbrev pub found_in : List Scope → List ℕ → Option Binding
found_in [] name = None
found_in (s ∷ scopes) name = option_or (found_in scopes name) (s name)

abbrev pub found : Names → List ℕ → Option Binding
found names name = option_or (names.inner name) (found_in names.outer name)

abbrev pub meaning : Names → Name → Option Meaning
meaning names x = option_map (λ e. e.meaning) (found names (bytes_of names.text x))

-- a name is declared in this scope
abbrev pub is_declared : Scope → List ℕ → Bool
is_declared s name = option_map_or (λ e. e.declared) (s name) false

abbrev pub with_entry : Scope → List ℕ → Binding → Scope
with_entry s name e q = if bytes_eq name q then Some e else s q

-- with another declaration; the first declaration of a name is the one that counts
abbrev pub with_name : Scope → List ℕ → Meaning → Scope
with_name s name m = if is_declared s name then s else with_entry s name (record { meaning = m; declared = true })

abbrev pub declare : Names → Name → Meaning → Names
declare names x m = record names { inner = with_name names.inner (bytes_of names.text x) m }

-- nothing is declared yet
abbrev pub empty : Scope
empty name = None

-- in a new scope
abbrev pub opened : Names → Names
opened names = record names { inner = empty; outer = names.outer ++ names.inner ∷ [] }

abbrev pub monoid_at : Names → Reducer → Option MonoidKind
monoid_at names r = kind_named (bytes_of names.text r.monoid)

-- the monoid of a reducer; an unknown one counts as a sum
abbrev pub kind_or_sum : Option MonoidKind → MonoidKind
kind_or_sum kind = unwrap_or kind monoids.Add

-- with a known function, unless its name is known already
abbrev pub with_function : Scope → List ℕ → ℕ → Scope
with_function s name n = if is_some (s name) then s else with_entry s name (record { meaning = meanings.Function n; declared = false })
