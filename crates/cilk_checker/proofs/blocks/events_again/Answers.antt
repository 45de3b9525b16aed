use Rattle.std.proofs.Common.{◌≡◌, ◌+◌, ◌++◌, ℕ, List, Some, refl, ap, ◌∙◌, arith, subst, sym, suc, length, take, slice_get, get_or}
use Rattle.cilk_types.specs.declared.event.Event.{Event}
use Rattle.cilk_types.specs.declared.event.Event.TheVariants.{Begin}
use Rattle.cilk_types.specs.declared.event.Instance.{Instance}
use Rattle.cilk_cert_maker.specs.Sources.{AllFit}
use Rattle.cilk_cert_maker.specs.Listed.{creations, created_by}
use Rattle.cilk_checker.proofs.Expected.{event_at, tallied_again}
use Rattle.cilk_checker.proofs.Tallying.{creations_next}
use Rattle.cilk_checker.proofs.blocks.events_again.Goals as goal

pub events-init : goal.events-init
events-init c = record {
  within = omega arith;
  last = c.in_ok-writes.ensures.none c.args.right.now.trace;
  cells = c.in_ok-writes.ensures.cells ∙ ap length c.as_slice-cells.ensures.value;
  made = c.new-made.ensures c.args.right.now.trace;
}

pub meet-requires-in-events : goal.meet-requires-in-events
meet-requires-in-events c =
    let found = event_at c.as_slice-events.result.now c.args.right.now.trace c.events.at (Begin 0) c.as_slice-events.ensures.events (omega (arith, c.events-test.true, c.requires.within)) in
    subst (λ n. AllFit n c.args.right.now.trace) (sym c.events.invariant.cells) c.requires.fit c.events.at _ found

pub events-preserved : goal.events-preserved
events-preserved c =
    let es : List Event = c.args.right.now.trace in
    let at : ℕ = c.events.at in
    let i = c.events.invariant in
    let event : Event = get_or c.as_slice-events.result.now at (Begin 0) in
    let found : slice_get es at ≡ Some event = event_at c.as_slice-events.result.now es at (Begin 0) c.as_slice-events.ensures.events (omega (arith, c.events-test.true, c.requires.within)) in
    let next : suc at ≡ at + 1 = omega arith in
    record {
      within = omega (arith, c.events-test.true);
      last = c.meet-in-events.ensures.last es at i.last found refl;
      cells = c.meet-in-events.ensures.cells ∙ i.cells;
      made =
          c.in_ok-meet.ensures.made ∙ ap (λ (l : List Instance). l ++ created_by event) i.made ∙ sym (creations_next es at event found)
          ∙ ap (λ (n : ℕ). creations (take n es)) next;
    }

pub returns : goal.returns
returns c = λ d t same events sources h.
    let i = c.events.invariant in
    let all : c.events.at ≡ c.args.first.agreed = omega (arith, i.within, c.events-test.false) in
    tallied_again c.args.right.now d t c.args.tally.now c.args.first c.events.writes c.events.made same events sources (rw all at i.last) (rw all at i.made) i.cells h
