-- What is said of every input that agrees with a program's own at some positions.
use Rattle.std.specs.Prelude.{ℕ, zero, suc, ℤ, ◌==◌, List, [], ◌∷◌, ◌++◌, length, codes, decimal, flat_map, if◌then◌else◌, Option, Some, None}
use Rattle.std.specs.Fmt.{signed_decimal}
use Rattle.json.specs.Token.{Token, begin_array, begin_object, end_array, end_object, key, number}
use Rattle.cilk_messages.specs.Asked.{Text}
use Rattle.cilk_messages.specs.declared.claim.Claim.{Claim}

-- how many numbers
abbrev pub numbers_text : ℕ → Text
numbers_text count = if count == 1 then codes "1 number" else decimal count ++ codes " numbers"

-- ` P is V`
abbrev pub fixed_text : ℕ × ℤ → Text
fixed_text p = 32 ∷ (decimal p.0 ++ codes " is " ++ signed_decimal p.1)

-- at most so many positions, the first one after this mark and the others after commas, and how many
-- more there are
abbrev pub list_text : ℕ → ℕ → List (ℕ × ℤ) → Text
list_text mark most [] = []
list_text mark zero (p ∷ ps) = codes " .. and " ++ decimal (suc (length ps)) ++ codes " more"
list_text mark (suc most) (p ∷ ps) = mark ∷ (fixed_text p ++ list_text 44 most ps)

-- the positions that are fixed: at most twenty of them, and how many more there are
abbrev pub with_text : List (ℕ × ℤ) → Text
with_text ps = if length ps == 0 then [] else codes " with these" ++ list_text 58 20 ps

-- `every input of N numbers`, and which of them are fixed
abbrev pub every_text : Claim → Text
every_text c = codes "every input of " ++ (numbers_text c.count ++ with_text (let f = c.fixed in f.items))

-- a position and its number in JSON
abbrev pub fixed_tokens : ℕ × ℤ → List Token
fixed_tokens p = begin_array ∷ number (decimal p.0) ∷ number (signed_decimal p.1) ∷ end_array ∷ []

-- an array of these
abbrev pub list_tokens : List (ℕ × ℤ) → List Token
list_tokens ps = begin_array ∷ (flat_map fixed_tokens ps ++ end_array ∷ [])

-- what it begins with
abbrev pub claim_tokens : List Token
claim_tokens = key (codes "every") ∷ begin_object ∷ key (codes "numbers") ∷ []

-- what comes before that array
abbrev pub count_tokens : ℕ → List Token
count_tokens count = claim_tokens ++ (number (decimal count) ∷ key (codes "fixed") ∷ [])

-- the same in JSON
abbrev pub every_tokens : Option Claim → List Token
every_tokens None = []
every_tokens (Some c) = count_tokens c.count ++ (list_tokens (let f = c.fixed in f.items) ++ end_object ∷ [])
