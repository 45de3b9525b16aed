use Rattle.std.proofs.Common.{refl}
use Rattle.cilk_types.specs.declared.event.Event.TheVariants as events
use Rattle.cilk_monoid.specs.Kinds.{structure_of}
use Rattle.cilk_serial.specs.declared.state.State.{State}
use Rattle.cilk_serial.proofs.Shows.{view_changes}
use Rattle.cilk_serial.proofs.state.State.create.Goals as goal

pub returns-clause-makes : goal.returns-clause-makes
returns-clause-makes c =
    let old = c.args.self.now in
    let new : State = record { cells = old.cells; views = c.create.new.self; output = old.output; events = c.add_event.new.events; frames = old.frames } in
    λ m h. (refl, view_changes old new (events.Create c.args.instance) c.args.kind c.args.instance ((structure_of c.args.kind).unit) m h refl refl refl c.in_ok-add_event.ensures.items c.in_ok-create.ensures.ok)
