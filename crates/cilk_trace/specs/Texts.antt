-- The texts of traces, by the grammar: how the lines of a trace are spelled in the text form; and the binary form.
use Rattle.std.specs.Prelude.{⊤, ◌≡◌, ◌⊎◌, ◌↔◌, ℕ, ◌+◌, ◌-◌, ◌<◌, ◌^◌, List, [], ◌∷◌, ◌++◌, length, take, drop, None, codes}
use Rattle.cilk_trace.specs.declared.line.Line.{Line}
use Rattle.cilk_trace.specs.declared.line.Line.TheVariants as lines
use Rattle.cilk_trace.specs.Binary.{binary_reading}
use Rattle.cilk_trace.specs.Forms.{binary_header, reading_of}
use Rattle.cilk_trace.specs.Lines.{spelled, IsWithin}

-- each line and an LF
abbrev pub lines_text : List Line → List ℕ
lines_text [] = []
lines_text (l ∷ ls) = spelled l ++ 10 ∷ lines_text ls

-- the header, and the lines
abbrev pub text_of : List Line → List ℕ
text_of ls = codes "cilktrace 1" ++ 10 ∷ lines_text ls

abbrev pub AreWithin : List Line → Type 0
AreWithin [] = ⊤
AreWithin (l ∷ ls) = IsWithin l × AreWithin ls

-- `end` is the last line, and no other one is
abbrev pub EndsOnce : List Line → Type 0
EndsOnce [] = ⊥
EndsOnce (lines.End ∷ []) = ⊤
EndsOnce (lines.End ∷ (l ∷ ls)) = ⊥
EndsOnce (_ ∷ ls) = EndsOnce ls

-- The text is the text form of these lines.
abbrev pub IsText : List ℕ → List Line → Type 0
IsText text ls = text ≡ text_of ls

-- The text is a binary form of these lines: they are read from the bytes after its header, without a fault.
pub record IsBinary (text : List ℕ) (ls : List Line) : Type 0 where
  pub header : take 16 text ≡ binary_header
  pub reads : binary_reading (drop 16 text) ≡ record { lines = ls; fault = None }

-- The text is that of a trace with these lines, in either form. The header is line 1.
pub record IsTraceText (text : List ℕ) (ls : List Line) : Type 0 where
  pub spells : IsText text ls ⊎ IsBinary text ls
  pub within : AreWithin ls
  pub ends : EndsOnce ls
  pub few : length ls + 1 < 2 ^ 32 - 1

-- a text is read as these lines without a fault exactly where it is that of a trace with these lines
abbrev pub ReadsTraces : Type 0
ReadsTraces = (text : List ℕ) (ls : List Line) → (reading_of text ≡ record { lines = ls; fault = None }) ↔ IsTraceText text ls
