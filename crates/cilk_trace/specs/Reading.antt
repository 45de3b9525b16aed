-- The reading of a trace's text: its lines up to its first fault.
use Rattle.std.specs.Prelude.{◌≡◌, ℕ, ◌+◌, ◌-◌, ◌^◌, ◌&&◌, List, [], ◌∷◌, ◌++◌, length, Option, Some, None, option_map, nat_lt, ◌==◌, if◌then◌else◌, codes}
use Rattle.std.specs.Str.{bytes_eq}
use Rattle.cilk_trace.specs.declared.line.Line.{Line}
use Rattle.cilk_trace.specs.declared.line.Line.TheVariants as lines
use Rattle.cilk_trace.specs.declared.fault.TraceFault.{TraceFault}
use Rattle.cilk_trace.specs.declared.fault.TraceFault.TheVariants.{Malformed, Truncated}
use Rattle.cilk_trace.specs.declared.place.Place.{Place}
use Rattle.cilk_trace.specs.declared.place.Place.TheVariants.{Header, Lines, Over}
use Rattle.cilk_trace.specs.Lines.{line_of}

-- the lines of a text that end with an LF, without it, and the bytes after the last LF
pub record TextLines : Type 0 where
  pub each : List (List ℕ)
  pub last : List ℕ

abbrev pub lines_after : List ℕ → List (List ℕ) → List ℕ → TextLines
lines_after bs [] last = record { each = []; last = bs ++ last }
lines_after bs (l ∷ ls) last = record { each = (bs ++ l) ∷ ls; last = last }

-- with these bytes before the others
abbrev pub with_front : List ℕ → TextLines → TextLines
with_front bs c = lines_after bs c.each c.last

-- with an LF before the others
abbrev pub with_lf : TextLines → TextLines
with_lf c = record { each = [] ∷ c.each; last = c.last }

abbrev pub text_lines : List ℕ → TextLines
text_lines [] = record { each = []; last = [] }
text_lines (b ∷ bs) = if b == 10 then with_lf (text_lines bs) else with_front (b ∷ []) (text_lines bs)

-- bytes without an LF
abbrev pub HasNoLf : List ℕ → Type 0
HasNoLf bytes = text_lines bytes ≡ record { each = []; last = bytes }

-- the lines up to the first fault, and that fault, or none if the text is whole
pub record Reading : Type 0 where
  pub lines : List Line
  pub fault : Option TraceFault

abbrev pub whole : Reading
whole = record { lines = []; fault = None }

abbrev pub stops : TraceFault → Reading
stops fault = record { lines = []; fault = Some fault }

abbrev pub with_lines : Option Line → Reading → Reading
with_lines None reading = reading
with_lines (Some line) reading = record { lines = line ∷ reading.lines; fault = reading.fault }

-- what is due after a line
abbrev pub after_line : Line → Place
after_line lines.End = Over
after_line _ = Lines

-- the line with these bytes, and what is due after it: the header, which is none of the lines, or a line
abbrev pub line_at : Place → List ℕ → Option (Option Line × Place)
line_at Header bytes = if bytes_eq bytes (codes "cilktrace 1") then Some (None, Lines) else None
line_at Lines bytes = option_map (λ l. (Some l, after_line l)) (line_of bytes)
line_at Over bytes = None

-- a line has at most 64 bytes, and a number below 2^32 - 1
abbrev pub numbered : Place → ℕ → List ℕ → Option (Option Line × Place)
numbered place number bytes = if nat_lt (length bytes) 65 && nat_lt number (2 ^ 32 - 1) then line_at place bytes else None

-- the fault of a text that ends with these bytes after its last LF
abbrev pub ending : Place → ℕ → List ℕ → Reading
ending Over number [] = whole
ending Over number (b ∷ bs) = stops (Malformed number)
ending place number bytes = if nat_lt (length bytes) 65 then stops (Truncated number) else stops (Malformed number)

-- how many lines these are
abbrev pub count_of : Option Line → ℕ
count_of None = 0
count_of (Some line) = 1

-- a line that may not be here is malformed
abbrev pub taken : {A : Type 0} → ℕ → (A → Reading) → Option A → Reading
taken number next None = stops (Malformed number)
taken number next (Some p) = next p

-- the reading from the line with this number on, where this is due
abbrev pub reading : List (List ℕ) → Place → ℕ → List ℕ → Reading
reading [] place number last = ending place number last
reading (l ∷ ls) place number last =
    taken number (λ p. with_lines p.0 (reading ls p.1 (number + 1) last)) (numbered place number l)

-- the reading of a text form
abbrev pub text_reading : List ℕ → Reading
text_reading text = let c = text_lines text in reading c.each Header 1 c.last
