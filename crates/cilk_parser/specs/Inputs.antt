-- The numbers of an input text, and its faults.
use Rattle.std.specs.Prelude.{◌≡◌, ℕ, ◌+◌, ◌≤◌, ◌<◌, nat_le, Bool, true, false, ◌&&◌, ◌==◌, if◌then◌else◌, ℤ, pos, neg_ℤ, List, [], ◌∷◌, length, Option, Some, None}
use Rattle.cilk_syntax.specs.declared.lexer.Class.TheVariants.{Solid}
use Rattle.cilk_syntax.specs.Lexing.{belongs, front_of, behind, value_of, all_digits}
use Rattle.cilk_parser.specs.declared.fault.SyntaxErrorKind.{SyntaxErrorKind}
use Rattle.cilk_parser.specs.declared.fault.SyntaxErrorKind.TheVariants.{BadNumber, TooManyNumbers}
use Rattle.cilk_parser.specs.declared.fault.TextFault.{TextFault}
use Rattle.cilk_parser.specs.declared.fault.TextFault.TheVariants.{Memory, At}

-- a word is a maximal run of bytes other than space, tab, LF and CR
abbrev pub starts_word : List ℕ → Bool
starts_word [] = false
starts_word (b ∷ bytes) = belongs Solid b

abbrev pub word_of : List ℕ → List ℕ
word_of bytes = front_of Solid bytes

abbrev pub behind_word : List ℕ → List ℕ
behind_word bytes = behind Solid bytes

abbrev pub are_digits : List ℕ → Bool
are_digits [] = false
are_digits (d ∷ ds) = all_digits (d ∷ ds)

-- the number with these digits, up to 2^63 - 1
abbrev pub positive : List ℕ → Option ℤ
positive digits = if are_digits digits && nat_le (value_of digits) 9223372036854775807 then Some (pos (value_of digits)) else None

-- the negative of the number with these digits, down to -2^63
abbrev pub negative : List ℕ → Option ℤ
negative digits = if are_digits digits && nat_le (value_of digits) 9223372036854775808 then Some (neg_ℤ (pos (value_of digits))) else None

-- the number that a word spells: digits, with a plus, a minus or nothing before them
abbrev pub number_in : List ℕ → Option ℤ
number_in [] = None
number_in (b ∷ digits) = if b == 45 then negative digits else if b == 43 then positive digits else positive (b ∷ digits)

-- the first byte is between words
abbrev pub IsGap : List ℕ → List ℕ → Type 0
IsGap bytes rest = (b : ℕ) × (bytes ≡ b ∷ rest) × (belongs Solid b ≡ false)

-- the bytes before rest are a word that spells this number
abbrev pub IsNumber : ℤ → List ℕ → List ℕ → Type 0
IsNumber n bytes rest = (starts_word bytes ≡ true) × (number_in (word_of bytes) ≡ Some n) × (rest ≡ behind_word bytes)

-- the first word spells no number
abbrev pub IsBadWord : List ℕ → Type 0
IsBadWord bytes = (starts_word bytes ≡ true) × (number_in (word_of bytes) ≡ None)

-- the bytes contain these numbers, one word each
pub data Holds : List ℕ → List ℤ → Type 0 where
  Ended : Holds [] []
  Skipped : {bytes rest : List ℕ} {ns : List ℤ} → IsGap bytes rest → Holds rest ns → Holds bytes ns
  Found : {bytes rest : List ℕ} {ns : List ℤ} (n : ℤ) → IsNumber n bytes rest → Holds rest ns → Holds bytes (n ∷ ns)

-- After count numbers, the words before the place are numbers, and not too many. total is the
-- length of the whole text.
pub data Fails (total : ℕ) : ℕ → List ℕ → SyntaxErrorKind → ℕ → Type 0 where
  NoNumber : {count : ℕ} {bytes : List ℕ} {place : ℕ} → IsBadWord bytes → place + length bytes ≡ total → Fails total count bytes BadNumber place
  OneTooMany : {count : ℕ} {bytes rest : List ℕ} {place : ℕ} (n : ℤ) → IsNumber n bytes rest → count ≡ 65536 → place + length bytes ≡ total → Fails total count bytes TooManyNumbers place
  Behind : {count : ℕ} {bytes rest : List ℕ} {fault : SyntaxErrorKind} {place : ℕ} → IsGap bytes rest → Fails total count rest fault place → Fails total count bytes fault place
  Beyond : {count : ℕ} {bytes rest : List ℕ} {fault : SyntaxErrorKind} {place : ℕ} (n : ℤ) → IsNumber n bytes rest → count < 65536 → Fails total (count + 1) rest fault place → Fails total count bytes fault place

-- the numbers of an input text
pub record IsInput (bytes : List ℕ) (ns : List ℤ) : Type 0 where
  pub few : length ns ≤ 65536
  pub numbers : Holds bytes ns

-- the place of the first word that isn't a number, or is one too many
abbrev pub IsInputFault : TextFault → List ℕ → Type 0
IsInputFault Memory bytes = Unit {0}
IsInputFault (At n place) bytes = Fails (length bytes) 0 bytes n place
