-- The events that start a child.
use Rattle.std.specs.Prelude.{Option, Some}
use Rattle.cilk_types.specs.declared.event.Event.{Event}
use Rattle.cilk_types.specs.declared.event.Event.TheVariants.{Call, Spawn}

-- a spawn or a call
abbrev pub IsStart : Option Event → Type 0
IsStart (Some (Spawn f)) = Unit {0}
IsStart (Some (Call f)) = Unit {0}
IsStart o = ⊥
