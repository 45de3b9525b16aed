use Rattle.std.proofs.Common.{refl, ap, w64, to_z, of_z}
use Rattle.std.proofs.lemmas.Int.{to_z-of_z}
use Rattle.cilk_types.specs.declared.event.Event.TheVariants as events
use Rattle.cilk_serial.specs.declared.state.State.{State}
use Rattle.cilk_serial.proofs.Shows.{updates, event_is}
use Rattle.cilk_serial.proofs.state.State.update.Goals as goal

pub returns-clause-makes : goal.returns-clause-makes
returns-clause-makes c =
    let old = c.args.self.now in
    let new : State = record { cells = old.cells; views = c.update.new.self; output = old.output; events = c.add_event.new.events; frames = old.frames } in
    let same = to_z-of_z w64 c.args.value c.ranges.value in
    λ m h. (
      refl,
      event_is old new (events.Update c.args.instance (to_z w64 (of_z w64 c.args.value))) (events.Update c.args.instance c.args.value) _ (ap (events.Update c.args.instance) same)
          (updates old new (events.Update c.args.instance (to_z w64 (of_z w64 c.args.value))) c.args.kind c.args.instance (to_z w64 (of_z w64 c.args.value)) c.args.value m h refl refl refl c.in_ok-add_event.ensures.items same c.in_ok-update.ensures.ok),
    )
