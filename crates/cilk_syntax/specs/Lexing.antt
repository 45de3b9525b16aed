-- How the bytes of a text are cut into tokens, and where they can't be.
use Rattle.std.specs.Prelude.{◌≡◌, ◌≢◌, ℕ, ◌+◌, ◌-◌, ◌*◌, ◌≤◌, ◌<◌, Bool, true, false, ◌&&◌, ◌||◌, ◌==◌, nat_lt, if◌then◌else◌, List, [], ◌∷◌, ◌++◌, length, drop, Option, Some, None, pos, ◌⊎◌}
use Rattle.cilk_syntax.specs.declared.token.Kind.{Kind}
use Rattle.cilk_syntax.specs.declared.token.Kind.TheVariants as kinds
use Rattle.cilk_syntax.specs.declared.token.Token.{Token}
use Rattle.cilk_syntax.specs.declared.lexer.Class.{Class}
use Rattle.cilk_syntax.specs.declared.lexer.Class.TheVariants as classes
use Rattle.cilk_syntax.specs.Gaps.{Gap}
use Rattle.cilk_syntax.specs.Gaps as gaps
use Rattle.cilk_syntax.specs.declared.lexer.LexErrorKind.{LexErrorKind}
use Rattle.cilk_syntax.specs.declared.lexer.LexErrorKind.TheVariants as bads
use Rattle.cilk_syntax.specs.Kinds.{is_reserved, is_mark, spelling}

-- space, and tab to carriage return
abbrev pub is_blank : ℕ → Bool
is_blank b = b == 32 || (nat_lt 8 b && nat_lt b 14)

abbrev pub is_digit : ℕ → Bool
is_digit b = nat_lt 47 b && nat_lt b 58

abbrev pub is_letter : ℕ → Bool
is_letter b = (nat_lt 64 b && nat_lt b 91) || (nat_lt 96 b && nat_lt b 123) || b == 95

-- letters, digits and `_`; all but LF; the blanks but LF; all but space, tab, LF and CR
abbrev pub belongs : Class → ℕ → Bool
belongs classes.Word b = is_letter b || is_digit b
belongs classes.Line b = if b == 10 then false else true
belongs classes.Inline b = if b == 10 then false else is_blank b
belongs classes.Solid b = if b == 32 || b == 9 || b == 10 || b == 13 then false else true

-- the bytes up to the first that isn't of the class
abbrev pub front_of : Class → List ℕ → List ℕ
front_of c [] = []
front_of c (b ∷ bs) = if belongs c b then b ∷ front_of c bs else []

-- the bytes from the first that isn't of the class on
abbrev pub behind : Class → List ℕ → List ℕ
behind c [] = []
behind c (b ∷ bs) = if belongs c b then behind c bs else b ∷ bs

abbrev pub begins_with : ℕ → List ℕ → Bool
begins_with a [] = false
begins_with a (b ∷ bs) = b == a

-- the bytes after the first `*/`
abbrev pub after_close : List ℕ → Option (List ℕ)
after_close [] = None
after_close (b ∷ bs) = if b == 42 && begins_with 47 bs then Some (drop 1 bs) else after_close bs

-- `include` or `pragma`
abbrev pub Directs : List ℕ → Type 0
Directs word = (word ≡ 105 ∷ 110 ∷ 99 ∷ 108 ∷ 117 ∷ 100 ∷ 101 ∷ []) ⊎ (word ≡ 112 ∷ 114 ∷ 97 ∷ 103 ∷ 109 ∷ 97 ∷ [])

-- the word after the `#` of a line
abbrev pub directive_of : List ℕ → List ℕ
directive_of tail = front_of classes.Word (behind classes.Inline tail)

-- The bytes before rest are a gap. The flags tell whether a `#` line may begin before and after it.
abbrev pub Passes : Gap → Bool → List ℕ → Bool → List ℕ → Type 0
Passes gaps.Blank fresh bytes fresh' rest =
    (b : ℕ) × (bytes ≡ b ∷ rest) × (is_blank b ≡ true) × (fresh' ≡ (fresh || b == 10))
Passes gaps.LineComment fresh bytes fresh' rest =
    (tail : List ℕ) × (bytes ≡ 47 ∷ 47 ∷ tail) × (rest ≡ behind classes.Line tail) × (fresh' ≡ false)
Passes gaps.BlockComment fresh bytes fresh' rest =
    (tail : List ℕ) × (bytes ≡ 47 ∷ 42 ∷ tail) × (after_close tail ≡ Some rest) × (fresh' ≡ false)
Passes gaps.Directive fresh bytes fresh' rest =
    (tail : List ℕ) × (bytes ≡ 35 ∷ tail) × (fresh ≡ true) × Directs (directive_of tail) × (rest ≡ behind classes.Line tail) × (fresh' ≡ false)

abbrev pub value_from : ℕ → List ℕ → ℕ
value_from n [] = n
value_from n (d ∷ ds) = value_from (10 * n + (d - 48)) ds

abbrev pub value_of : List ℕ → ℕ
value_of digits = value_from 0 digits

abbrev pub all_digits : List ℕ → Bool
all_digits [] = true
all_digits (d ∷ ds) = is_digit d && all_digits ds

-- `0`, or digits that don't begin with 0
abbrev pub is_numeral : List ℕ → Bool
is_numeral [] = false
is_numeral (d ∷ []) = is_digit d
is_numeral (d ∷ e ∷ ds) = nat_lt 48 d && all_digits (d ∷ e ∷ ds)

abbrev pub starts_digit : List ℕ → Bool
starts_digit [] = false
starts_digit (b ∷ bs) = is_digit b

abbrev pub starts_letter : List ℕ → Bool
starts_letter [] = false
starts_letter (b ∷ bs) = is_letter b

abbrev pub NotNext : ℕ → List ℕ → Type 0
NotNext a bytes = begins_with a bytes ≡ false

-- the mark before rest isn't part of a longer mark or of the beginning of a comment
abbrev pub NoLonger : Kind → List ℕ → Type 0
NoLonger kinds.Less rest = NotNext 61 rest
NoLonger kinds.Greater rest = NotNext 61 rest
NoLonger kinds.Assign rest = NotNext 61 rest
NoLonger kinds.Not rest = NotNext 61 rest
NoLonger kinds.Star rest = NotNext 61 rest
NoLonger kinds.Plus rest = NotNext 61 rest × NotNext 43 rest
NoLonger kinds.Minus rest = NotNext 61 rest × NotNext 45 rest
NoLonger kinds.Slash rest = NotNext 47 rest × NotNext 42 rest
NoLonger _ rest = Unit {0}

abbrev pub Reads : Bool → Kind → List ℕ → List ℕ → Type 0
Reads true k bytes rest = (front_of classes.Word bytes ≡ spelling k) × (rest ≡ behind classes.Word bytes)
Reads false k bytes rest = (bytes ≡ spelling k ++ rest) × NoLonger k rest

-- The bytes before rest are a token of this kind.
abbrev pub Spells : Kind → List ℕ → List ℕ → Type 0
Spells (kinds.Number n) bytes rest =
    (starts_digit bytes ≡ true) × (rest ≡ behind classes.Word bytes) × (is_numeral (front_of classes.Word bytes) ≡ true) × (value_of (front_of classes.Word bytes) ≤ 9223372036854775807) × (n ≡ pos (value_of (front_of classes.Word bytes)))
Spells kinds.Name bytes rest =
    (starts_letter bytes ≡ true) × (rest ≡ behind classes.Word bytes) × ((k : Kind) → is_reserved k ≡ true → front_of classes.Word bytes ≢ spelling k)
Spells k bytes rest = Reads (is_reserved k) k bytes rest

-- No mark, blank, word or skipped line begins with the byte.
abbrev pub BeginsNone : ℕ → List ℕ → Type 0
BeginsNone b tail =
    (is_blank b ≡ false) × (belongs classes.Word b ≡ false) × (b ≢ 35) × ((k : Kind) (rest : List ℕ) → is_mark k ≡ true → b ∷ tail ≢ spelling k ++ rest)

-- Why neither a token nor a gap begins here.
abbrev pub IsBad : Bool → LexErrorKind → List ℕ → Type 0
IsBad fresh bads.NotAscii bytes = (b : ℕ) × (tail : List ℕ) × (bytes ≡ b ∷ tail) × (127 < b)
IsBad fresh bads.Unclosed bytes = (tail : List ℕ) × (bytes ≡ 47 ∷ 42 ∷ tail) × (after_close tail ≡ None)
IsBad fresh bads.Directive bytes =
    (tail : List ℕ) × (bytes ≡ 35 ∷ tail) × (fresh ≡ true → Directs (directive_of tail) → ⊥)
IsBad fresh bads.Numeral bytes = (starts_digit bytes ≡ true) × (is_numeral (front_of classes.Word bytes) ≡ false)
IsBad fresh bads.TooLarge bytes =
    (starts_digit bytes ≡ true) × (is_numeral (front_of classes.Word bytes) ≡ true) × (9223372036854775807 < value_of (front_of classes.Word bytes))
IsBad fresh bads.NoToken bytes =
    (b : ℕ) × (tail : List ℕ) × (bytes ≡ b ∷ tail) × (b ≤ 127) × BeginsNone b tail

-- The bytes are these tokens; total is the length of the whole text.
pub data Lexes (total : ℕ) : Bool → List ℕ → List Token → Type 0 where
  Ended : {fresh : Bool} → Lexes total fresh [] []
  Skipped : {fresh fresh' : Bool} {bytes rest : List ℕ} {ts : List Token} (gap : Gap) → Passes gap fresh bytes fresh' rest → Lexes total fresh' rest ts → Lexes total fresh bytes ts
  Found : {fresh : Bool} {bytes rest : List ℕ} {ts : List Token} (t : Token) → Spells t.kind bytes rest → t.at + length bytes ≡ total → t.end + length rest ≡ total → Lexes total false rest ts → Lexes total fresh bytes (t ∷ ts)

-- The bytes before the place are tokens and gaps, and at the place neither begins.
pub data Faults (total : ℕ) : Bool → List ℕ → LexErrorKind → ℕ → Type 0 where
  Here : {fresh : Bool} {bytes : List ℕ} {bad : LexErrorKind} {place : ℕ} → IsBad fresh bad bytes → place + length bytes ≡ total → Faults total fresh bytes bad place
  Behind : {fresh fresh' : Bool} {bytes rest : List ℕ} {bad : LexErrorKind} {place : ℕ} (gap : Gap) → Passes gap fresh bytes fresh' rest → Faults total fresh' rest bad place → Faults total fresh bytes bad place
  Beyond : {fresh : Bool} {bytes rest : List ℕ} {bad : LexErrorKind} {place : ℕ} (kind : Kind) → Spells kind bytes rest → Faults total false rest bad place → Faults total fresh bytes bad place

abbrev pub AreTokens : List ℕ → List Token → Type 0
AreTokens text ts = Lexes (length text) true text ts

abbrev pub IsFirstFault : List ℕ → LexErrorKind → ℕ → Type 0
IsFirstFault text bad place = Faults (length text) true text bad place
