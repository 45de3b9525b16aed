-- The tree of a program text, and its faults.
use Rattle.std.specs.Prelude.{◌≡◌, ℕ, ◌≤◌, ◌<◌, List, [], ◌∷◌, length}
use Rattle.cilk_syntax.specs.declared.token.Token.{Token}
use Rattle.cilk_syntax.specs.declared.lexer.LexErrorKind.{LexErrorKind}
use Rattle.cilk_syntax.specs.declared.lexer.LexErrorKind.TheVariants as bads
use Rattle.cilk_syntax.specs.Lexing.{AreTokens, IsFirstFault}
use Rattle.cilk_syntax.specs.declared.tree.Tree.{Tree}
use Rattle.cilk_parser.specs.declared.fault.SyntaxErrorKind.{SyntaxErrorKind}
use Rattle.cilk_parser.specs.declared.fault.SyntaxErrorKind.TheVariants.{NotAscii, BadToken, Unexpected, TooDeep, TooLarge, TooLong, BadNumber, TooManyNumbers}
use Rattle.cilk_parser.specs.declared.fault.TextFault.{TextFault}
use Rattle.cilk_parser.specs.declared.fault.TextFault.TheVariants.{Memory, At}
use Rattle.cilk_syntax.specs.Grammar.{SpellsProgram}
use Rattle.cilk_syntax.specs.Limits.{Within, excess_items}
use Rattle.cilk_parser.specs.Refused.{IsRefusal, IsPastLimit}
use Rattle.cilk_syntax.specs.Trees.{program}

-- the numbers by which faults of texts are reported
abbrev pub number : SyntaxErrorKind → ℕ
number NotAscii = 101
number BadToken = 102
number Unexpected = 103
number TooDeep = 104
number TooLarge = 105
number TooLong = 106
number BadNumber = 121
number TooManyNumbers = 122

abbrev pub number_of : LexErrorKind → SyntaxErrorKind
number_of bads.NotAscii = NotAscii
number_of bads.TooLarge = TooLarge
number_of _ = BadToken

-- the place of the first token, or of the end of the text
abbrev pub place_of : ℕ → List Token → ℕ
place_of end [] = end
place_of end (t ∷ ts) = t.at

-- the bytes are tokens that spell the tree's program, within the limits
pub record IsText (bytes : List ℕ) (t : Tree) : Type 0 where
  pub length : length bytes ≤ 262144
  pub text : t.text.items ≡ bytes
  pub tokens : (ts : List Token) × AreTokens bytes ts × SpellsProgram (program t) ts × Within ts (excess_items (program t) ts)

-- a fault of the tokens is the first one
abbrev pub LexicalFault : SyntaxErrorKind → List ℕ → ℕ → Type 0
LexicalFault n bytes place = (bad : LexErrorKind) × (number_of bad ≡ n) × IsFirstFault bytes bad place

-- the fault of a text that isn't too long
abbrev pub IsFault : SyntaxErrorKind → List ℕ → ℕ → Type 0
IsFault Unexpected bytes place =
    (ts used rest : List Token) × AreTokens bytes ts × IsRefusal ts used rest × (place ≡ place_of (length bytes) rest)
IsFault TooDeep bytes place =
    (ts used : List Token) × (x : Token) × (rest : List Token) × AreTokens bytes ts × IsPastLimit ts used x rest × (place ≡ x.at)
IsFault TooLong bytes place = ⊥
IsFault BadNumber bytes place = ⊥
IsFault TooManyNumbers bytes place = ⊥
IsFault n bytes place = LexicalFault n bytes place

-- the length is tested first, then the tokens; or memory ran out
abbrev pub IsTextFault : TextFault → List ℕ → Type 0
IsTextFault Memory bytes = Unit {0}
IsTextFault (At TooLong place) bytes = (262144 < length bytes) × (place ≡ 262144)
IsTextFault (At n place) bytes = (length bytes ≤ 262144) × IsFault n bytes place
