-- The reading of a trace in either form.
use Rattle.std.specs.Prelude.{ℕ, List, [], ◌∷◌, ◌++◌, take, drop, if◌then◌else◌, codes}
use Rattle.std.specs.Str.{bytes_eq}
use Rattle.cilk_trace.specs.Binary.{binary_reading}
use Rattle.cilk_trace.specs.Reading.{Reading, text_reading}

-- the first 16 bytes of a binary form
abbrev pub binary_header : List ℕ
binary_header = codes "cilktrace-bin 1" ++ 10 ∷ []

-- the reading of a trace: what doesn't begin as a binary form is read as text
abbrev pub reading_of : List ℕ → Reading
reading_of text = if bytes_eq (take 16 text) binary_header then binary_reading (drop 16 text) else text_reading text
