-- How far a trace's text has been read.
use Rattle.std.specs.Prelude.{◌≡◌, ℕ, List, [], ◌∷◌, ◌++◌, length, take, drop, Option, Some, None}
use Rattle.std.specs.Io.KnownBytes.{Consumes}
use Rattle.cilk_trace.specs.declared.line.Line.{Line}
use Rattle.cilk_trace.specs.declared.fault.TraceFault.{TraceFault}
use Rattle.cilk_trace.specs.Forms.{reading_of}
use Rattle.cilk_trace.specs.Reading.{Reading}
use Rattle.cilk_trace.specs.Readers.{ahead, fault_of, returned, room_of}
use Rattle.cilk_commands.specs.declared.trace_pieces.Found.{Found}
use Rattle.cilk_commands.specs.declared.trace_pieces.Pieces.{Pieces}
use Rattle.cilk_commands.specs.TraceTexts.{HasFormedLines}

-- the bytes of the piece that the reader hasn't been given
abbrev pub unread : Pieces → List ℕ
unread p = drop p.at (take p.end p.buffer)

-- a reading that begins with these lines
abbrev pub after_lines : List Line → Reading → Reading
after_lines ls r = record { lines = ls ++ r.lines; fault = r.fault }

-- the line that was found, if any
abbrev pub line_in : Option Found → List Line
line_in None = []
line_in (Some found) = found.line ∷ []

-- These lines were found in this text, except for its bytes that the reader hasn't been given.
pub record HasRead (text : List ℕ) (ls : List Line) (p : Pieces) : Type 0 where
  pub ahead_is : (more : List ℕ) → reading_of (text ++ more) ≡ after_lines ls (ahead p.reader (unread p ++ more))
  pub silent : fault_of p.reader ≡ None
  pub count : returned p.reader ≡ length ls

-- these lines were found in the text that was pulled from a source with these known texts, before and now
pub record IsReading (known left : Option (List ℕ)) (ls : List Line) (p : Pieces) : Type 0 where
  pub pulled : List ℕ
  pub taken : Consumes known left pulled
  pub read : HasRead pulled ls p

-- the reader can't be given more bytes than this
abbrev pub room_in : Pieces → ℕ
room_in p = room_of p.reader

-- every text that begins with these bytes has these lines and this fault
abbrev pub StopsAt : List ℕ → List Line → TraceFault → Type 0
StopsAt text ls fault = (more : List ℕ) → reading_of (text ++ more) ≡ record { lines = ls; fault = Some fault }

-- the text has these lines, and none that is malformed by itself
pub record HasLines (text : List ℕ) (ls : List Line) : Type 0 where
  pub lines : (reading_of text).lines ≡ ls
  pub formed : HasFormedLines text
