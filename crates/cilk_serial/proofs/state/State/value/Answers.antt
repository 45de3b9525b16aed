use Rattle.std.proofs.Common.{◌++◌, ◌∷◌, [], ◌∙◌, ap, refl, w64, to_z, of_z, SFits, rules}
use Rattle.std.proofs.lemmas.Int.{to_z-of_z}
use Rattle.cilk_types.specs.declared.event.Event.TheVariants as events
use Rattle.cilk_serial.specs.declared.state.State.{State}
use Rattle.cilk_serial.proofs.Shows.{view_tells}
use Rattle.cilk_serial.proofs.state.State.value.Goals as goal

pub returns-clause-makes : goal.returns-clause-makes
returns-clause-makes c =
    let old = c.args.self.now in
    let new : State = record { cells = old.cells; views = c.value.new.self; output = old.output; events = c.push_reserved.new.self; frames = old.frames } in
    let v = c.in_ok-value.value in
    let fits : SFits w64 v = search rules in
    let same = to_z-of_z w64 v fits in
    λ m h. view_tells old new c.args.kind c.args.instance v (to_z w64 (of_z w64 v)) m h refl refl refl same c.in_ok-value.ensures.number (c.push_reserved.ensures.items ∙ ap (λ l. l ++ events.Value c.args.instance (to_z w64 (of_z w64 v)) ∷ []) c.make_room.ensures.items) c.in_ok-value.ensures.ok
