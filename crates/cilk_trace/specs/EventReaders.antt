-- The state of a reader in the middle of a binary form.
use Rattle.std.specs.Prelude.{ℕ, ◌+◌, ◌-◌, ◌*◌, ◌^◌, ◌<◌, List, length, Option, Some, None, vec_len, vec_capacity}
use Rattle.cilk_trace.specs.declared.binary.EventReader.{EventReader}
use Rattle.cilk_trace.specs.declared.event.Due.{Due}
use Rattle.cilk_trace.specs.declared.fault.TraceFault.{TraceFault}
use Rattle.cilk_trace.specs.Binary.{Events, events_reading}
use Rattle.cilk_trace.specs.Events.{numbers_left}
use Rattle.cilk_trace.specs.Numbers.{Numbers, numbers_from}
use Rattle.cilk_trace.specs.Reading.{Reading, stops}

-- the fault that it has returned
abbrev pub fault_of : EventReader → Option TraceFault
fault_of r = r.fault

-- the number of the current line
abbrev pub line_number : EventReader → ℕ
line_number r = r.number

-- the number of lines that it has returned: those before the current one, without the header
abbrev pub returned : EventReader → ℕ
returned r = r.number - 2

-- It reads no more bytes than this: a number counts for more than its bytes, and an event for four numbers.
abbrev pub room_for : ℕ → ℕ → Due → ℕ → ℕ
room_for kinds number d unit = 2 ^ 37 * ((16777216 - kinds) + (2 ^ 32 - number)) + 2 ^ 35 * numbers_left d + (2 ^ 34 - unit)

abbrev pub room_of : EventReader → ℕ
room_of r = room_for (length r.kinds.items) r.number r.due r.unit

-- there is room for one more kind
abbrev pub HasSlot : EventReader → Type 0
HasSlot r = vec_len r.kinds < vec_capacity r.kinds

abbrev pub events_in : EventReader → Events
events_in r = record { kinds = r.kinds.items; last = r.last; place = r.place; due = r.due }

abbrev pub rest_of : Option TraceFault → Events → ℕ → Numbers → Reading
rest_of (Some fault) s number ns = stops fault
rest_of None s number ns = events_reading s number ns

-- The reading if these bytes follow and then the trace ends.
abbrev pub ahead : EventReader → List ℕ → Reading
ahead r more = rest_of r.fault (events_in r) r.number (numbers_from r.value r.unit more)
