-- The number that a frame's request gives to its event.
use Rattle.std.specs.Prelude.{◌≡◌, ℤ, Option, Some, None}
use Rattle.cilk_types.specs.declared.event.Event.{Event}
use Rattle.cilk_types.specs.declared.event.Event.TheVariants as events
use Rattle.cilk_program.specs.declared.ask.Ask.{Ask}
use Rattle.cilk_program.specs.declared.ask.Ask.TheVariants as asks

-- the number that is written, updates or sets a reducer, is printed, or ends the frame
abbrev pub number_in : Ask → Option ℤ
number_in asks.Begin = None
number_in (asks.Read x) = None
number_in (asks.Write x v) = Some v
number_in (asks.Create r) = None
number_in (asks.Update r v) = Some v
number_in (asks.Set r v) = Some v
number_in (asks.Value r) = None
number_in (asks.Print v) = Some v
number_in (asks.Invoke how callee) = None
number_in asks.Resume = None
number_in asks.Sync = None
number_in (asks.Result v) = Some v
number_in (asks.End v) = Some v
number_in (asks.Fault f) = None

-- the event has this number from its request
abbrev pub Carries : Option Event → ℤ → Type 0
Carries (Some (events.Write c w)) v = w ≡ v
Carries (Some (events.Update i w)) v = w ≡ v
Carries (Some (events.Set i w)) v = w ≡ v
Carries (Some (events.Print w)) v = w ≡ v
Carries o v = ⊥

-- there is an event, and it has a number from its request
abbrev pub HasNumber : Option Event → Type 0
HasNumber o = (v : ℤ) × Carries o v
