-- The five monoids that programs name.
use Rattle.std.specs.Prelude.{Bool, true, false, if◌then◌else◌, ℕ, ℤ, pos, negsuc, ◌+ℤ◌, ◌*ℤ◌, List, [], ◌∷◌, ◌++◌, Option, Some, None, bytes_eq, codes, length, All}
use Rattle.std.specs.Int.{int_max, int_min}
use Rattle.cilk_types.specs.Word.{word_of, IsWord}
use Rattle.cilk_types.specs.declared.outcome.Final.{Final}
use Rattle.cilk_types.specs.declared.outcome.Final.TheVariants as final
use Rattle.cilk_monoid.specs.declared.kind.MonoidKind.{MonoidKind}
use Rattle.cilk_monoid.specs.declared.kind.MonoidKind.TheVariants.{Add, Least, Greatest, Append, Affine}
use Rattle.cilk_monoid.specs.Laws.{MonoidStructure}
use Rattle.cilk_monoid.specs.Values.{ViewValue, Number, Elements, Map}

-- the monoid with this name in a program
abbrev pub kind_named : List ℕ → Option MonoidKind
kind_named name =
    if bytes_eq name (codes "add") then Some Add
    else (if bytes_eq name (codes "min") then Some Least
    else (if bytes_eq name (codes "max") then Some Greatest
    else (if bytes_eq name (codes "append") then Some Append
    else (if bytes_eq name (codes "affine") then Some Affine else None))))

-- an operation on numbers, lifted to values of views
abbrev pub on_numbers : (ℤ → ℤ → ℤ) → ViewValue → ViewValue → ViewValue
on_numbers f (Number a) (Number b) = Number (f a b)
on_numbers f (Number a) v = Number a
on_numbers f u v = u

-- the left list followed by the right one
abbrev pub appended : ViewValue → ViewValue → ViewValue
appended (Elements xs) (Elements ys) = Elements (xs ++ ys)
appended (Elements xs) v = Elements xs
appended u v = u

-- two maps on words composed, the left one first
abbrev pub composed : ViewValue → ViewValue → ViewValue
composed (Map a b) (Map c d) = Map (word_of (a *ℤ c)) (word_of (c *ℤ b +ℤ d))
composed (Map a b) v = Map a b
composed u v = u

-- the number that a program reads: the number itself, the length of a list, or a map's value at 0
abbrev pub number_of : ViewValue → ℤ
number_of (Number z) = z
number_of (Elements zs) = pos (length zs)
number_of (Map a b) = b

-- the room that a value needs when it is appended
abbrev pub size_of : ViewValue → ℕ
size_of (Elements zs) = length zs
size_of v = 0

-- the monoid of a kind
abbrev pub structure_of : MonoidKind → MonoidStructure ViewValue
structure_of Add = record { unit = Number (pos 0); combine = on_numbers (λ a b. word_of (a +ℤ b)); single = Number; number = number_of; size = size_of }
structure_of Least = record { unit = Number (pos 9223372036854775807); combine = on_numbers int_min; single = Number; number = number_of; size = size_of }
structure_of Greatest = record { unit = Number (negsuc 9223372036854775807); combine = on_numbers int_max; single = Number; number = number_of; size = size_of }
structure_of Append = record { unit = Elements []; combine = appended; single = λ x. Elements (x ∷ []); number = number_of; size = size_of }
structure_of Affine = record { unit = Map (pos 1) (pos 0); combine = composed; single = λ x. Map (pos 10) x; number = number_of; size = size_of }

-- a number that is a word
abbrev pub IsNumber : ViewValue → Type 0
IsNumber (Number z) = IsWord z
IsNumber v = ⊥

-- a list of words
abbrev pub IsList : ViewValue → Type 0
IsList (Elements zs) = All IsWord zs
IsList v = ⊥

-- a map whose factor and offset are words
abbrev pub IsMap : ViewValue → Type 0
IsMap (Map a b) = IsWord a × IsWord b
IsMap v = ⊥

-- the values of a kind's views
abbrev pub IsMember : MonoidKind → ViewValue → Type 0
IsMember Add v = IsNumber v
IsMember Least v = IsNumber v
IsMember Greatest v = IsNumber v
IsMember Append v = IsList v
IsMember Affine v = IsMap v

-- whether two kinds are the same
abbrev pub same_kind : MonoidKind → MonoidKind → Bool
same_kind Add Add = true
same_kind Least Least = true
same_kind Greatest Greatest = true
same_kind Append Append = true
same_kind Affine Affine = true
same_kind j k = false

-- the last value of a reducer when the run ends: a list, or the number that a program reads
abbrev pub final_of : ViewValue → Final
final_of (Number z) = final.Number z
final_of (Elements zs) = final.List zs
final_of (Map a b) = final.Number b
