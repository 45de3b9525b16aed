use Rattle.std.proofs.Common.{◌<◌, ◌≤◌, length, take, sym, ◌∙◌, subst, arith}
use Rattle.std.proofs.lemmas.List.{take_all}
use Rattle.cilk_types.specs.declared.event.Instance.{Instance}
use Rattle.cilk_monoid.specs.declared.kind.MonoidKind.TheVariants.{Add}
use Rattle.cilk_monoid.specs.Ranges.{same_instance}
use Rattle.cilk_program.specs.Store.{Store, clear_all}
use Rattle.cilk_program.specs.SerialRun.{Memory}
use Rattle.cilk_serial.specs.Scoped.{own_of}
use Rattle.cilk_serial.specs.States.{Shows}
use Rattle.cilk_serial.proofs.Shows.{cleared_next}
use Rattle.cilk_serial.proofs.frames.retire_all.Goals as goal

pub each-preserved : goal.each-preserved
each-preserved g c = record {
  events = c.retire.ensures.events ∙ c.each.invariant.events;
  shows = λ m shows.
      let low : c.each.number < length c.args.kinds.now = omega (arith, c.each-test.true) in
      let own = own_of c.args.top.now in
      let now : Memory = record { store = clear_all same_instance own 0 (take c.each.number c.args.kinds.now) m.store; frames = m.frames; cells = m.cells; room = m.room } in
      subst (λ (s : Store Instance). Shows c.retire.new.self (record { store = s; frames = m.frames; cells = m.cells; room = m.room })) (sym (cleared_next own c.args.kinds.now c.each.number Add m.store low))
      (c.retire.ensures.shows now (c.each.invariant.shows m shows));
}

pub returns-clause-shows : goal.returns-clause-shows
returns-clause-shows g c = λ m shows.
    let all : length c.args.kinds.now ≤ c.each.number = omega (arith, c.each-test.false) in
    subst (λ ks. Shows c.each.state (record { store = clear_all same_instance (own_of c.args.top.now) 0 ks m.store; frames = m.frames; cells = m.cells; room = m.room })) (take_all c.each.number c.args.kinds.now all) (c.each.invariant.shows m shows)
