-- The contents of readers and writers after reads and writes.
use Rattle.std.specs.Prelude.{◌≡◌, ℕ, ◌<◌, ◌≤◌, ◌++◌, Bool, true, false, List, length, take, Option}
use Rattle.std.specs.Io.KnownBytes.{Appends, Consumes, IsAtEnd}

-- a beginning of the text was written, less than all of it
abbrev pub AppendsPart : Option (List ℕ) → Option (List ℕ) → List ℕ → Type 0
AppendsPart old new text = (n : ℕ) × (n < length text) × Appends old new (take n text)

-- all of the text was written; or `is_whole` is false, and a beginning of it was written
abbrev pub AppendsFront : (is_whole : Bool) → Option (List ℕ) → Option (List ℕ) → List ℕ → Type 0
AppendsFront true old new text = Appends old new text
AppendsFront false old new text = AppendsPart old new text

-- this many bytes were taken from a reader, or fewer
abbrev pub TakesAtMost : ℕ → Option (List ℕ) → Option (List ℕ) → Type 0
TakesAtMost most old new = (bytes : List ℕ) × Consumes old new bytes × (length bytes ≤ most)

-- n bytes were read and appended to the text; 0 bytes only at the end of the input
pub record ReadsOn (old new : Option (List ℕ)) (text text' : List ℕ) (n : ℕ) : Type 0 where
  pub some : (bytes : List ℕ) × (text' ≡ text ++ bytes) × (length bytes ≡ n) × Consumes old new bytes
  pub last : n ≡ 0 → IsAtEnd new
