use Rattle.std.proofs.Common.{List, length, ap, refl, subst, arith}
use Rattle.cilk_types.specs.declared.event.Event.{Event}
use Rattle.cilk_cert_maker.specs.Listed.{ListsEvent, HasSource}
use Rattle.cilk_cert_maker.specs.Right.{EachAt}
use Rattle.cilk_cert_maker.proofs.Listing.{lists_first, lists_next, fits_here}
use Rattle.cilk_cert_maker.proofs.entries.entries.Goals as goal

pub loop-index-init : goal.loop-index-init
loop-index-init c =
    let room = c.in_ok-entries.ensures.capacity in
    record {
      lists = lists_first _ _ _ _ c.in_ok-entries.ensures.items (c.in_ok-writes.ensures.none c.as_slice-events.result.now) c.in_ok-writes.ensures.cells c.cells_written.ensures.fit;
      room = omega (arith, room);
    }

pub meet-requires : goal.meet-requires
meet-requires c = fits_here _ _ _ _ _ c.loop-index.invariant.lists c.loop-index-test.true

pub loop-index-preserved : goal.loop-index-preserved
loop-index-preserved c =
    let room = c.loop-index.invariant.room in
    let kept = c.push_reserved.ensures.capacity in
    record {
      lists = lists_next _ _ _ _ _ _ _ _ _ c.loop-index.invariant.lists c.loop-index-test.true c.entry.ensures.event c.entry.ensures.source c.entry.ensures.small
          c.push_reserved.ensures.items refl c.meet.ensures.last c.meet.ensures.cells;
      room = omega (arith, room, kept);
    }

pub returns-clause-many : goal.returns-clause-many
returns-clause-many c =
    let many = c.loop-index.invariant.lists.many in
    let near = c.loop-index.invariant.lists.within in
    let far = c.loop-index-test.false in
    let long = ap (λ (l : List Event). length l) c.as_slice-events.ensures.events in
    omega (arith, many, near, far, long)

pub returns-clause-events : goal.returns-clause-events
returns-clause-events c = subst (λ (l : List Event). EachAt (ListsEvent l) c.loop-index.entries.items) c.as_slice-events.ensures.events c.loop-index.invariant.lists.events

pub returns-clause-sources : goal.returns-clause-sources
returns-clause-sources c = subst (λ (l : List Event). EachAt (HasSource l) c.loop-index.entries.items) c.as_slice-events.ensures.events c.loop-index.invariant.lists.sources

pub returns-clause-few : goal.returns-clause-few
returns-clause-few c =
    let many = c.loop-index.invariant.lists.many in
    let near = c.loop-index.invariant.lists.within in
    let long = ap (λ (l : List Event). length l) c.as_slice-events.ensures.events in
    let few = c.as_slice-events.ensures.within in
    omega (arith, many, near, long, few)
