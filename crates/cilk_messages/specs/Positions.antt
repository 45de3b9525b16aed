-- Lists of positions in the words: `0,3..5`.
use Rattle.std.specs.Prelude.{ℕ, ◌==◌, Bool, true, false, List, [], ◌∷◌, cond}
use Rattle.cilk_syntax.specs.Lexing.{is_digit}
use Rattle.cilk_messages.specs.declared.positions.Listed.{Listed}
use Rattle.cilk_messages.specs.declared.positions.Listed.TheVariants.{Open, First, Dot, Dots, Last, Wrong}

-- where a list stands after a byte
abbrev pub after : Listed → ℕ → Listed
after Open byte = cond (is_digit byte) First Wrong
after First byte = cond (is_digit byte) First (cond (byte == 44) Open (cond (byte == 46) Dot Wrong))
after Dot byte = cond (byte == 46) Dots Wrong
after Dots byte = cond (is_digit byte) Last Wrong
after Last byte = cond (is_digit byte) Last (cond (byte == 44) Open Wrong)
after Wrong byte = Wrong

-- it can end there
abbrev pub ends : Listed → Bool
ends First = true
ends Last = true
ends _ = false

-- the rest of a list
abbrev pub goes_on : Listed → List ℕ → Bool
goes_on at [] = ends at
goes_on at (byte ∷ bytes) = goes_on (after at byte) bytes

-- positions and ranges `FIRST..LAST`, with commas between them
abbrev pub is_list : List ℕ → Bool
is_list bytes = goes_on Open bytes
