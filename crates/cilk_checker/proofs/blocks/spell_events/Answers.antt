use Rattle.std.proofs.Common.{refl, ap, ◌∙◌, arith, subst, sym}
use Rattle.std.proofs.lemmas.Option.{slice_get_within}
use Rattle.cilk_cert_maker.specs.Sources.{AllFit}
use Rattle.cilk_cert_text.specs.declared.line.Version.TheVariants.{Two}
use Rattle.cilk_cert_text.proofs.Dues.{no_events}
use Rattle.cilk_checker.specs.declared.first.First.{First}
use Rattle.cilk_checker.specs.declared.tally.Tally.{Tally}
use Rattle.cilk_checker.proofs.Expected.{spells_none, events_step}
use Rattle.cilk_checker.proofs.Firsts.{met_on}
use Rattle.cilk_checker.proofs.blocks.spell_events.Goals as goal

pub events-init : goal.events-init
events-init c =
    let n = c.args.tally.now.events.agreed in
    record {
      spells = spells_none c.args.right.now _ c.args.tally.now _ (no_events Two n n (omega arith)) refl;
      within = omega arith;
      more = omega arith;
      agree = c.requires.agree;
      sources = c.requires.sources;
      rest = record { is = refl; cells = refl };
    }

pub meet-requires-in-events : goal.meet-requires-in-events
meet-requires-in-events c = λ _ _.
    let within = slice_get_within _ c.events.tally.events.agreed c.in-Some.event (rw c.as_slice.ensures.events at c.in-Some.ensures) in
    omega (arith, within, c.requires.few.events)

pub meet-requires-in-events-2 : goal.meet-requires-in-events-2
meet-requires-in-events-2 c =
    let fit = subst (λ n. AllFit n c.args.right.now.trace) (sym c.events.invariant.rest.cells) c.requires.fit in
    fit c.events.tally.events.agreed c.in-Some.event (rw c.as_slice.ensures.events at c.in-Some.ensures)

pub events-preserved : goal.events-preserved
events-preserved c =
    let next = c.meet-in-events.ensures ∙ met_on c.events.tally.events c.events.invariant.agree in
    let rest = c.events.invariant.rest in
    record {
      spells =
          events_step c.args.right.now c.args.tally.now c.events.tally _ _ c.entry.result c.in-Some.event c.meet-in-events.new.self c.meet-in-events-2.new.self c.meet.new.self c.meet-in-events.ensures
          c.events.invariant.sources c.events.invariant.agree c.events.invariant.more (rw c.as_slice.ensures.events at c.in-Some.ensures)
          c.in_ok-meet.ensures.made c.entry.ensures.event c.entry.ensures.source c.meet-in-events-2.ensures.last c.meet-in-events-2.ensures.cells c.entry.ensures.small
          c.put_event-done.ensures.text c.events.invariant.spells;
      within = omega (arith, c.put_event-done.ensures.within, c.put_event-done.auto.room);
      more = omega (arith, c.events.invariant.more, ap (λ (f : First). f.agreed) next);
      agree = ap (λ (f : First). f.differs) next;
      sources = refl;
      rest = record {
        is = ap (λ (u : Tally). record u { events = c.meet-in-events.new.self; sources = c.meet-in-events.new.self; writes = c.meet-in-events-2.new.self; made = c.meet.new.self }) rest.is;
        cells = c.meet-in-events-2.ensures.cells ∙ rest.cells;
      };
    }
