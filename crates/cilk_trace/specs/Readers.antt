-- The state of a reader in the middle of a trace.
use Rattle.std.specs.Prelude.{⊤, ℕ, ◌-◌, ◌^◌, List, ◌++◌, take, Option, None}
use Rattle.cilk_trace.specs.declared.fault.TraceFault.{TraceFault}
use Rattle.cilk_trace.specs.declared.reader.Form.{Form}
use Rattle.cilk_trace.specs.declared.reader.Form.TheVariants.{Unknown, Text, Binary}
use Rattle.cilk_trace.specs.declared.reader.TraceReader.{TraceReader}
use Rattle.cilk_trace.specs.EventReaders as events
use Rattle.cilk_trace.specs.Forms.{binary_header, reading_of}
use Rattle.cilk_trace.specs.Reading.{Reading}
use Rattle.cilk_trace.specs.TextReaders as text

abbrev pub fault_by : Form → TraceReader → Option TraceFault
fault_by Unknown r = None
fault_by Text r = text.fault_of r.text
fault_by Binary r = events.fault_of r.events

-- the fault that it has returned
abbrev pub fault_of : TraceReader → Option TraceFault
fault_of r = fault_by r.form r

abbrev pub number_by : Form → TraceReader → ℕ
number_by Unknown r = 1
number_by Text r = text.line_number r.text
number_by Binary r = events.line_number r.events

-- the number of the current line
abbrev pub line_number : TraceReader → ℕ
line_number r = number_by r.form r

-- the number of lines that it has returned: those before the current one, without the header
abbrev pub returned : TraceReader → ℕ
returned r = line_number r - 2

abbrev pub room_by : Form → TraceReader → ℕ
room_by Unknown r = 2 ^ 71 - r.matched
room_by Text r = text.room_of r.text
room_by Binary r = events.room_of r.events

-- it reads no more bytes than this
abbrev pub room_of : TraceReader → ℕ
room_of r = room_by r.form r

abbrev pub slot_by : Form → TraceReader → Type 0
slot_by Binary r = events.HasSlot r.events
slot_by _ r = ⊤

-- there is room for what the next call may keep
abbrev pub HasSlot : TraceReader → Type 0
HasSlot r = slot_by r.form r

abbrev pub ahead_by : Form → TraceReader → List ℕ → Reading
ahead_by Unknown r more = reading_of (take r.matched binary_header ++ more)
ahead_by Text r more = text.ahead r.text more
ahead_by Binary r more = events.ahead r.events more

-- The reading if these bytes follow and then the trace ends.
abbrev pub ahead : TraceReader → List ℕ → Reading
ahead r more = ahead_by r.form r more
