-- The first piece of an input text.
use Rattle.std.specs.Prelude.{ℕ, ◌<◌, List, length}
use Rattle.cilk_parser.specs.Inputs.{IsBadWord, IsGap, IsNumber}
use Rattle.cilk_parser.specs.declared.input.Front.{Front}
use Rattle.cilk_parser.specs.declared.input.Front.TheVariants as fronts

-- a byte between words, a word that is a number, or a word that isn't
abbrev pub IsFront : List ℕ → Front → Type 0
IsFront bytes (fronts.Gap rest) = IsGap bytes rest.now × (length rest.now < length bytes)
IsFront bytes (fronts.Number n rest) = IsNumber n bytes rest.now × (length rest.now < length bytes)
IsFront bytes fronts.BadWord = IsBadWord bytes
