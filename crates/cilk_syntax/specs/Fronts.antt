-- The results of the lexer's functions on the bytes that they read.
use Rattle.std.specs.Prelude.{ℕ, ◌<◌, Bool, List, length}
use Rattle.cilk_syntax.specs.declared.lexer.Front.{Front}
use Rattle.cilk_syntax.specs.declared.lexer.Front.TheVariants.{Skip, Word, Fault}
use Rattle.cilk_syntax.specs.Gaps.{Gap}
use Rattle.cilk_syntax.specs.Lexing.{Passes, Spells, IsBad, IsFirstFault}
use Rattle.cilk_syntax.specs.declared.lexer.LexFault.{LexFault}
use Rattle.cilk_syntax.specs.declared.lexer.LexFault.TheVariants.{Memory, At}

abbrev pub IsFront : Bool → List ℕ → Front → Type 0
IsFront fresh bytes (Skip fresh' rest) = (gap : Gap) × Passes gap fresh bytes fresh' rest.now
IsFront fresh bytes (Word kind rest) = Spells kind bytes rest.now
IsFront fresh bytes (Fault bad) = IsBad fresh bad bytes

-- the rest is shorter than this
abbrev pub IsBefore : ℕ → Front → Type 0
IsBefore n (Skip fresh' rest) = length rest.now < n
IsBefore n (Word kind rest) = length rest.now < n
IsBefore n (Fault bad) = Unit {0}

-- a fault is the first of the text, unless memory ran out
abbrev pub IsLexFault : LexFault → List ℕ → Type 0
IsLexFault Memory text = Unit {0}
IsLexFault (At bad place) text = IsFirstFault text bad place
