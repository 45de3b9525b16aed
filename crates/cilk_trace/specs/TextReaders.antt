-- The state of a reader in the middle of a text form.
use Rattle.std.specs.Prelude.{ℕ, ◌+◌, ◌-◌, ◌*◌, ◌^◌, List, ◌++◌, take, Option, Some, None}
use Rattle.cilk_trace.specs.declared.fault.TraceFault.{TraceFault}
use Rattle.cilk_trace.specs.declared.place.Place.{Place}
use Rattle.cilk_trace.specs.declared.text.TextReader.{TextReader}
use Rattle.cilk_trace.specs.Reading.{TextLines, text_lines, Reading, stops, reading}

-- the fault that it has returned
abbrev pub fault_of : TextReader → Option TraceFault
fault_of r = r.fault

-- the number of the current line
abbrev pub line_number : TextReader → ℕ
line_number r = r.number

-- the number of lines that it has returned: those before the current one, without the header
abbrev pub returned : TextReader → ℕ
returned r = r.number - 2

-- it reads no more bytes than this
abbrev pub room_of : TextReader → ℕ
room_of r = 65 * (2 ^ 32 - r.number) + (64 - r.length)

abbrev pub reading_lines : Place → ℕ → TextLines → Reading
reading_lines place number c = reading c.each place number c.last

abbrev pub rest_of : Option TraceFault → Place → ℕ → List ℕ → Reading
rest_of (Some fault) place number bytes = stops fault
rest_of None place number bytes = reading_lines place number (text_lines bytes)

-- The reading if these bytes follow and then the text ends.
abbrev pub ahead : TextReader → List ℕ → Reading
ahead r more = rest_of r.fault r.place r.number (take r.length r.bytes ++ more)
