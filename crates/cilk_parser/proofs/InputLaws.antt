-- Words of an input text.
use Rattle.std.proofs.Common.{◌≡◌, ℕ, ◌<◌, Bool, true, false, cond, List, [], ◌∷◌, length, arith}
use Rattle.cilk_syntax.specs.declared.lexer.Class.TheVariants.{Solid}
use Rattle.cilk_syntax.specs.Lexing.{belongs, behind}
use Rattle.cilk_syntax.proofs.Words.{behind_shorter}
use Rattle.cilk_parser.specs.Inputs.{Holds, Ended, starts_word, behind_word}

word_shorter : (t : Bool) (b : ℕ) (bs rest : List ℕ) → t ≡ true → length rest < length (b ∷ bs) → length (cond t rest (b ∷ bs)) < length (b ∷ bs)
word_shorter true b bs rest h k = k
word_shorter false b bs rest h k = cc

-- a word has at least one byte
pub word_behind : (bytes : List ℕ) → starts_word bytes ≡ true → length (behind_word bytes) < length bytes
word_behind [] h = cc
word_behind (b ∷ bs) h = word_shorter (belongs Solid b) b bs (behind Solid bs) h (omega (arith, behind_shorter Solid bs))

-- where no byte is left, the numbers end
pub nothing_left : (rest : List ℕ) → length rest < 1 → Holds rest []
nothing_left [] h = Ended
nothing_left (b ∷ rest) h = absurd (omega (arith, h))
