-- The state of a reader in the middle of a text.
use Rattle.std.specs.Prelude.{◌≡◌, ℕ, ◌*◌, ◌-◌, List, ◌++◌, take, Option, Some, None}
use Rattle.cilk_cert_text.specs.declared.fault.CertFault.{CertFault}
use Rattle.cilk_cert_text.specs.declared.line.Line.{Line}
use Rattle.cilk_cert_text.specs.declared.reader.LineReader.{LineReader}
use Rattle.cilk_cert_text.specs.declared.line.Form.{Form}
use Rattle.cilk_cert_text.specs.Certificates.{IsAt}
use Rattle.cilk_cert_text.specs.Places.{due_of, number_at, IsAwaited}
use Rattle.cilk_cert_text.specs.Reading.{Reading, Due, Lines, stops, with_line, reading}

-- the fault that it has returned
abbrev pub fault_of : LineReader → Option CertFault
fault_of r = r.fault

-- the number of the current line
abbrev pub line_number : LineReader → ℕ
line_number r = number_at r.place

abbrev pub rest_of : Option CertFault → Due → ℕ → List ℕ → Reading
rest_of (Some fault) due number bytes = stops fault
rest_of None due number bytes = reading due number bytes

-- The reading if these bytes follow and then the text ends.
abbrev pub ahead : LineReader → List ℕ → Reading
ahead r more = rest_of r.fault (due_of r.place) (number_at r.place) (take r.length r.bytes ++ more)

-- a reading that begins with these lines
abbrev pub with_all : List Line → Reading → Reading
with_all lines reading = record { lines = lines ++ reading.lines; fault = reading.fault }

abbrev pub with_lines : Option Line → Reading → Reading
with_lines None reading = reading
with_lines (Some line) reading = with_line line reading

-- the fault is returned whatever bytes follow
abbrev pub IsCertain : LineReader → CertFault → Type 0
IsCertain r fault = (more : List ℕ) → ahead r more ≡ stops fault

-- The most bytes that can still be read without a fault. A text has at most 2,065,540 lines of at
-- most 97 bytes, and one line more is allowed for what follows.
abbrev pub room_of : LineReader → ℕ
room_of r = 97 * (2065542 - number_at r.place) - r.length

-- it is at the beginning of a line after the size line, and this line may be there
pub record Awaits (r : LineReader) (line : Line) : Type 0 where
  pub silent : r.fault ≡ None
  pub begins : r.length ≡ 0
  pub form : Form
  pub due : IsAwaited form (due_of r.place)
  pub fits : IsAt form line

-- it is at the beginning of a line, and lines of these forms are due
pub record AwaitsAll (r : LineReader) (forms : List Form) : Type 0 where
  pub silent : r.fault ≡ None
  pub begins : r.length ≡ 0
  pub later : List Form
  pub due : due_of r.place ≡ Lines (forms ++ later)
