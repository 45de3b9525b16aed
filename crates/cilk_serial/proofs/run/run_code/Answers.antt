use Rattle.std.proofs.Common.{◌≤◌, length, Option, List, sym, subst}
use Rattle.cilk_types.specs.declared.event.Event.{Event}
use Rattle.cilk_types.specs.declared.fault.Fault.{Fault}
use Rattle.cilk_types.specs.declared.limits.TheConstants.{MAX_EVENTS}
use Rattle.cilk_program.specs.Outcomes.{StopsBy}
use Rattle.cilk_program.specs.Sources.{source}
use Rattle.cilk_program.proofs.Existence.{serial_run_is_short}
use Rattle.cilk_serial.specs.SoFar.{HaltsHere}
use Rattle.cilk_serial.proofs.run.run_code.Goals as goal

pub next_position-at-requires : goal.next_position-at-requires
next_position-at-requires c =
    let v = c.complete.new.self in
    let made = c.in_ok-complete.ensures.ok in
    let halts = subst (λ (o : Option Fault). HaltsHere v o) c.in-Some.is made.halts in
    let stops = halts.stops in
    subst (λ (l : List Event). length l ≤ MAX_EVENTS) (sym c.events.ensures.events) (serial_run_is_short (source v.program) v.inputs stops.run v.events (StopsBy c.in-Some.fault) stops.serial)
