-- The faults of names, and their order.
use Rattle.std.specs.Prelude.{ℕ, nat_lt, nat_eq, Bool, not, ◌&&◌, ◌||◌, if◌then◌else◌, List, [], ◌∷◌, ◌++◌, Option, Some, None}
use Rattle.std.specs.Option.{is_some}
use Rattle.cilk_syntax.specs.declared.tree.Name.{Name}
use Rattle.cilk_syntax.specs.declared.tree.Reducer.{Reducer}
use Rattle.cilk_syntax.specs.Trees.{bytes_of}
use Rattle.cilk_names.specs.declared.table.Meaning.{Meaning}
use Rattle.cilk_names.specs.declared.kind.NameErrorKind.{NameErrorKind}
use Rattle.cilk_names.specs.declared.kind.NameErrorKind.TheVariants.{Unknown, DeclaredTwice, WrongCount, WrongKind, NoMain, ReturnInLoop, LoopVariable, ReducerNotFirst, OverLimit}
use Rattle.cilk_names.specs.declared.kind.Misnaming.{Misnaming}
use Rattle.cilk_names.specs.Names.{Names, meaning, is_declared, monoid_at}
use Rattle.cilk_names.specs.Sights.{place_of, is_turn, array_of, reducer_of, function_of}

-- the number by which a fault is reported
abbrev pub number_of : NameErrorKind → ℕ
number_of Unknown = 111
number_of DeclaredTwice = 112
number_of WrongCount = 113
number_of WrongKind = 114
number_of NoMain = 115
number_of ReturnInLoop = 116
number_of LoopVariable = 117
number_of ReducerNotFirst = 118
number_of OverLimit = 119

-- one fault at a place
abbrev pub at : NameErrorKind → ℕ → List Misnaming
at number place = record { number = number; place = place } ∷ []

abbrev pub unless : Bool → NameErrorKind → ℕ → List Misnaming
unless right number place = if right then [] else at number place

-- a name must be known and of the right kind
abbrev pub name_faults : (Meaning → Bool) → Option Meaning → ℕ → List Misnaming
name_faults right None place = at Unknown place
name_faults right (Some m) place = unless (right m) WrongKind place

abbrev pub variable_faults : Names → Name → List Misnaming
variable_faults names x = name_faults (λ m. is_some (place_of names.level m)) (meaning names x) x.at

abbrev pub array_faults : Names → Name → List Misnaming
array_faults names x = name_faults (λ m. is_some (array_of m)) (meaning names x) x.at

abbrev pub reducer_faults : Names → Name → List Misnaming
reducer_faults names x = name_faults (λ m. is_some (reducer_of names.level m)) (meaning names x) x.at

abbrev pub function_faults : Names → Name → List Misnaming
function_faults names x = name_faults (λ m. is_some (function_of m)) (meaning names x) x.at

abbrev pub turn_faults : Option Meaning → ℕ → List Misnaming
turn_faults None place = []
turn_faults (Some m) place = unless (not (is_turn m)) LoopVariable place

-- a written variable isn't that of a parallel loop
abbrev pub written_faults : Names → Name → List Misnaming
written_faults names x = variable_faults names x ++ turn_faults (meaning names x) x.at

-- a name is declared at most once in a scope
abbrev pub again_faults : Names → Name → List Misnaming
again_faults names x = unless (not (is_declared names.inner (bytes_of names.text x))) DeclaredTwice x.at

abbrev pub monoid_faults : Names → Reducer → List Misnaming
monoid_faults names r = unless (is_some (monoid_at names r)) Unknown r.monoid.at

-- by place, and at one place by number
abbrev pub is_before : Misnaming → Misnaming → Bool
is_before f g = nat_lt f.place g.place || (nat_eq f.place g.place && nat_lt (number_of f.number) (number_of g.number))

-- the earlier of two faults
abbrev pub earlier : Option Misnaming → Misnaming → Option Misnaming
earlier None f = Some f
earlier (Some g) f = if is_before f g then Some f else Some g

-- the earliest of these faults and one found before
abbrev pub earliest : Option Misnaming → List Misnaming → Option Misnaming
earliest first [] = first
earliest first (f ∷ fs) = earliest (earlier first f) fs
