-- The reading of a trace's binary form, after its header: its lines up to its first fault.
use Rattle.std.specs.Prelude.{ℕ, ◌+◌, ◌-◌, ◌^◌, List, [], ◌∷◌, ◌++◌, length, Option, Some, None, nat_lt, if◌then◌else◌, option_map, set, slice_get}
use Rattle.cilk_trace.specs.declared.line.Cells.{Cells}
use Rattle.cilk_trace.specs.declared.line.Line.{Line}
use Rattle.cilk_trace.specs.declared.event.Due.{Due}
use Rattle.cilk_trace.specs.declared.event.Due.TheVariants as due
use Rattle.cilk_trace.specs.declared.event.Kind.{Kind}
use Rattle.cilk_trace.specs.declared.event.Step.{Step}
use Rattle.cilk_trace.specs.declared.event.Step.TheVariants.{More, Declares, Says, Uses}
use Rattle.cilk_trace.specs.declared.fault.TraceFault.TheVariants.{Malformed, Truncated}
use Rattle.cilk_trace.specs.declared.place.Place.{Place}
use Rattle.cilk_trace.specs.declared.place.Place.TheVariants.{Lines, Over}
use Rattle.cilk_trace.specs.Events.{access_line, step_of}
use Rattle.cilk_trace.specs.Numbers.{Numbers, NoMore, Cut, Wrong, Next, numbers}
use Rattle.cilk_trace.specs.Reading.{Reading, after_line, count_of, stops, taken, whole, with_lines}
use Rattle.cilk_cert_text.specs.Words.{◌>>=◌}

-- the kinds of lines that are declared, the first cell of the last line that has cells, what is due, and which number of an event
pub record Events : Type 0 where
  pub kinds : List Kind
  pub last : ℕ
  pub place : Place
  pub due : Due

-- `last` is 0 where no line had cells
abbrev pub no_events : Events
no_events = record { kinds = []; last = 0; place = Lines; due = due.Tag }

-- a line of the kind with this number
abbrev pub used : Events → ℕ → Cells → Kind → Option Line × Events
used s i cells k =
    (Some (access_line k.touch cells k.site), record s { kinds = set s.kinds i (record k { last = cells }); last = cells.first; due = due.Tag })

-- Where a step leads, from the line with this number: at most 2^24 kinds are declared, and a line has a number below 2^32 - 1.
abbrev pub after_step : Events → ℕ → Step → Option (Option Line × Events)
after_step s number (More d) = Some (None, record s { due = d })
after_step s number (Declares k) = if nat_lt (length s.kinds) 16777216 then Some (None, record s { kinds = s.kinds ++ k ∷ []; due = due.Tag }) else None
after_step s number (Says l) = if nat_lt number (2 ^ 32 - 1) then Some (Some l, record s { place = after_line l; due = due.Tag }) else None
after_step s number (Uses i cells) = if nat_lt number (2 ^ 32 - 1) then option_map (used s i cells) (slice_get s.kinds i) else None

-- nothing may follow `end`
abbrev pub unless_over : {A : Type 0} → Place → Option A → Option A
unless_over Over o = None
unless_over _ o = o

-- the line that the next number completes, if it does, and what follows
abbrev pub after_number : Events → ℕ → ℕ → Option (Option Line × Events)
after_number s number n = unless_over s.place (step_of s.kinds s.last s.due n >>= after_step s number)

-- the fault of bytes that end here, or in a number
abbrev pub ended : Place → ℕ → Reading
ended Over number = whole
ended _ number = stops (Truncated number)

abbrev pub cut_off : Place → ℕ → Reading
cut_off Over number = stops (Malformed number)
cut_off _ number = stops (Truncated number)

-- the reading from the line with this number on
abbrev pub events_reading : Events → ℕ → Numbers → Reading
events_reading s number NoMore = ended s.place number
events_reading s number Cut = cut_off s.place number
events_reading s number Wrong = stops (Malformed number)
events_reading s number (Next n ns) =
    taken number (λ p. with_lines p.0 (events_reading p.1 (number + count_of p.0) ns)) (after_number s number n)

-- the reading of a binary form after its header, which is line 1
abbrev pub binary_reading : List ℕ → Reading
binary_reading bytes = events_reading no_events 2 (numbers bytes)
