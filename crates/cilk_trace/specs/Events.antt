-- The events of the binary form, by their numbers.
use Rattle.std.specs.Prelude.{⊤, ◌<◌, ℕ, ◌+◌, ◌-◌, ◌/◌, ◌%◌, ◌^◌, List, Option, Some, None, nat_lt, ◌==◌, if◌then◌else◌, length, slice_get}
use Rattle.cilk_trace.specs.declared.line.Cells.{Cells}
use Rattle.cilk_trace.specs.declared.line.Line.{Line}
use Rattle.cilk_trace.specs.declared.line.Line.TheVariants as lines
use Rattle.cilk_trace.specs.declared.event.Deed.{Deed}
use Rattle.cilk_trace.specs.declared.event.Deed.TheVariants as deeds
use Rattle.cilk_trace.specs.declared.event.Due.{Due}
use Rattle.cilk_trace.specs.declared.event.Due.TheVariants as due
use Rattle.cilk_trace.specs.declared.event.Kind.{Kind}
use Rattle.cilk_trace.specs.declared.event.Step.{Step}
use Rattle.cilk_trace.specs.declared.event.Step.TheVariants.{More, Declares, Says, Uses}
use Rattle.cilk_trace.specs.declared.event.Touch.{Touch}
use Rattle.cilk_trace.specs.declared.event.Touch.TheVariants as touches
use Rattle.cilk_trace.specs.Lines.{are_cells}
use Rattle.cilk_cert_text.specs.Words.{◌>>=◌}

-- a number below 2^32
abbrev pub small : ℕ → Option ℕ
small n = if nat_lt n (2 ^ 32) then Some n else None

abbrev pub touch_of : ℕ → Option Touch
touch_of n = if n == 0 then Some touches.Read else if n == 1 then Some touches.Write else if n == 2 then Some touches.Clear else None

abbrev pub deed_of : ℕ → Option Deed
deed_of n =
    if n == 0 then Some deeds.Create else if n == 1 then Some deeds.Update else if n == 2 then Some deeds.Value else if n == 3 then Some deeds.Retire else None

-- what the tag of an event says, where this many kinds of lines are declared
abbrev pub tag_step : ℕ → ℕ → Option Step
tag_step count n =
    if n == 0 then Some (More due.Kind)
    else if n == 1 then Some (More due.Site)
    else if n == 2 then Some (Says lines.Spawned)
    else if n == 3 then Some (Says lines.Called)
    else if n == 4 then Some (Says lines.Sync)
    else if n == 5 then Some (Says lines.End)
    else if n == 6 then Some (More due.Deed)
    else if n == 7 then Some (More due.Unseen)
    else if nat_lt (n - 8) count then Some (More (due.Moved (n - 8)))
    else None

-- the cell at this distance from where the last use ended: 2 x is x cells on, and 2 x - 1 is x cells back
abbrev pub moved : ℕ → ℕ → Option ℕ
moved end n = if n % 2 == 0 then small (end + n / 2) else if nat_lt (n / 2) end then small (end - n / 2 - 1) else None

abbrev pub uses : ℕ → ℕ → ℕ → Option Step
uses kind first count = if are_cells first count then Some (Uses kind (record { first = first; count = count })) else None

abbrev pub reducer_line : Deed → ℕ → ℕ → Line
reducer_line deeds.Create r site = lines.Create r site
reducer_line deeds.Update r site = lines.Update r site
reducer_line deeds.Value r site = lines.Value r site
reducer_line deeds.Retire r site = lines.Retire r site

-- the line of a kind with these cells
abbrev pub access_line : Touch → Cells → ℕ → Line
access_line touches.Read cells site = lines.Read cells site
access_line touches.Write cells site = lines.Write cells site
access_line touches.Clear cells site = lines.Clear cells

abbrev pub moved_step : ℕ → ℕ → Kind → Option Step
moved_step kind n k = do
  first ← moved (k.last.first + k.last.count) n
  if k.count == 0 then Some (More (due.UsedCount kind first)) else uses kind first k.count

-- What the next number of an event says, if it may be there: the earlier ones are those after which it is due. `last` is the first cell of
-- the last line that has cells.
unfoldable pub step_of : List Kind → ℕ → Due → ℕ → Option Step
step_of kinds last due.Tag n = tag_step (length kinds) n
step_of kinds last due.Kind n = do
  touch ← touch_of n
  Some (More (due.KindCount touch))
step_of kinds last (due.KindCount touch) n = do
  count ← small n
  Some (More (due.KindSite touch count))
step_of kinds last (due.KindSite touch count) n = do
  site ← small n
  Some (Declares (record { touch = touch; count = count; site = site; last = record { first = last; count = 0 } }))
step_of kinds last due.Site n = do
  site ← small n
  Some (Says (lines.Enter site))
step_of kinds last due.Unseen n = do
  site ← small n
  Some (Says (lines.Unseen site))
step_of kinds last due.Deed n = do
  deed ← deed_of n
  Some (More (due.Reducer deed))
step_of kinds last (due.Reducer deed) n = do
  reducer ← small n
  Some (More (due.ReducerSite deed reducer))
step_of kinds last (due.ReducerSite deed reducer) n = do
  site ← small n
  Some (Says (reducer_line deed reducer site))
step_of kinds last (due.Moved kind) n = slice_get kinds kind >>= moved_step kind n
step_of kinds last (due.UsedCount kind first) n = do
  count ← small n
  uses kind first count

-- ---- how far an event goes

-- how many numbers can follow the one that is due
abbrev pub numbers_left : Due → ℕ
numbers_left due.Tag = 3
numbers_left due.Kind = 2
numbers_left (due.KindCount touch) = 1
numbers_left due.Deed = 2
numbers_left (due.Reducer deed) = 1
numbers_left (due.Moved kind) = 1
numbers_left _ = 0

-- fewer numbers can follow the next one that is due
abbrev pub LeavesFewer : Due → Step → Type 0
LeavesFewer d (More next) = numbers_left next < numbers_left d
LeavesFewer d _ = ⊤
