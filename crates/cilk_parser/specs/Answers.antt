-- Tokens have one tree, and a text has one answer.
use Rattle.std.specs.Prelude.{◌≡◌, ℕ, ℤ, List}
use Rattle.cilk_syntax.specs.declared.token.Token.{Token}
use Rattle.cilk_syntax.specs.declared.lexer.LexErrorKind.{LexErrorKind}
use Rattle.cilk_syntax.specs.Lexing.{AreTokens, IsFirstFault}
use Rattle.cilk_syntax.specs.declared.tree.Tree.{Tree}
use Rattle.cilk_syntax.specs.Trees.{Item, program}
use Rattle.cilk_syntax.specs.Grammar.{SpellsProgram}
use Rattle.cilk_syntax.specs.Limits.{Within, excess_items}
use Rattle.cilk_parser.specs.declared.fault.SyntaxErrorKind.{SyntaxErrorKind}
use Rattle.cilk_parser.specs.declared.fault.TextFault.TheVariants.{At}
use Rattle.cilk_parser.specs.Inputs.{IsInput, IsInputFault}
use Rattle.cilk_parser.specs.Refused.{IsRefusal, IsPastLimit}
use Rattle.cilk_parser.specs.Texts.{IsText, IsTextFault}

-- the tokens spell at most one program
abbrev pub HasOneTree : List Token → Type 0
HasOneTree ts = (p q : List Item) → SpellsProgram p ts → SpellsProgram q ts → p ≡ q

-- tokens are refused at one place at most and for one reason, and nowhere if they spell a program
-- within the limits
pub record StopsOnce (ts : List Token) : Type 0 where
  pub refusals : (used rest used' rest' : List Token) → IsRefusal ts used rest → IsRefusal ts used' rest'
      → (used ≡ used') × (rest ≡ rest')
  pub limits : (used : List Token) (x : Token) (rest used' : List Token) (x' : Token) (rest' : List Token)
      → IsPastLimit ts used x rest → IsPastLimit ts used' x' rest' → (used ≡ used') × (x ≡ x') × (rest ≡ rest')
  pub apart : (used rest used' : List Token) (x : Token) (rest' : List Token) → IsRefusal ts used rest
      → IsPastLimit ts used' x rest' → ⊥
  pub spelled : (used rest : List Token) (p : List Item) → SpellsProgram p ts → IsRefusal ts used rest → ⊥
  pub within : (used : List Token) (x : Token) (rest : List Token) (p : List Item) → SpellsProgram p ts
      → Within ts (excess_items p ts) → IsPastLimit ts used x rest → ⊥

-- a text has at most one list of tokens or one first byte where no token fits, and not both
pub record IsCutOnce (bytes : List ℕ) : Type 0 where
  pub tokens : (ts us : List Token) → AreTokens bytes ts → AreTokens bytes us → ts ≡ us
  pub faults : (x y : LexErrorKind) (p q : ℕ) → IsFirstFault bytes x p → IsFirstFault bytes y q → (x ≡ y) × (p ≡ q)
  pub apart : (ts : List Token) (x : LexErrorKind) (p : ℕ) → AreTokens bytes ts → IsFirstFault bytes x p → ⊥

-- the trees of a text have the same program and hold the same bytes
abbrev pub HasOneProgram : List ℕ → Type 0
HasOneProgram bytes = (t u : Tree) → IsText bytes t → IsText bytes u
    → (program t ≡ program u) × (t.text.items ≡ u.text.items)

-- a text has at most one program or one first fault, and not both
pub record HasOneAnswer (bytes : List ℕ) : Type 0 where
  pub programs : HasOneProgram bytes
  pub faults : (n m : SyntaxErrorKind) (p q : ℕ) → IsTextFault (At n p) bytes → IsTextFault (At m q) bytes
      → (n ≡ m) × (p ≡ q)
  pub apart : (t : Tree) (n : SyntaxErrorKind) (p : ℕ) → IsText bytes t → IsTextFault (At n p) bytes → ⊥

-- an input text has at most one list of numbers or one first fault, and not both
pub record HasOneInput (bytes : List ℕ) : Type 0 where
  pub numbers : (ns ms : List ℤ) → IsInput bytes ns → IsInput bytes ms → ns ≡ ms
  pub faults : (n m : SyntaxErrorKind) (p q : ℕ) → IsInputFault (At n p) bytes → IsInputFault (At m q) bytes
      → (n ≡ m) × (p ≡ q)
  pub apart : (ns : List ℤ) (n : SyntaxErrorKind) (p : ℕ) → IsInput bytes ns → IsInputFault (At n p) bytes → ⊥
