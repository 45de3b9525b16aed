use Rattle.std.proofs.lemmas.Bool.{iff_false}
use Rattle.cilk_checker.proofs.Tallying.{event_apart, event_met, no_event, not_listed}
use Rattle.cilk_checker.proofs.tally.Tally.meet_event.Goals as goal

pub returns-in_default : goal.returns-in_default
returns-in_default c = λ d h.
    rw c.meet.ensures
    (event_apart c.args.right.now c.args.entry d c.args.self.now c.args.self.now.made c.if-self.false
    (no_event c.args.right.now.trace c.args.self.now.events.agreed c.args.entry (rw c.as_slice.ensures.events at c.in_default.ensures)) h)

pub returns-then-not-is_listed : goal.returns-then-not-is_listed
returns-then-not-is_listed c = λ d h.
    rw c.meet-then-not-is_listed.ensures
    (event_apart c.args.right.now c.args.entry d c.args.self.now c.meet-2.new.self c.if-self.false
    (not_listed c.args.right.now.trace c.args.self.now.events.agreed c.args.entry c.in-Some.event c.meet-2.new.self c.args.self.now.made
    (rw c.as_slice.ensures.events at c.in-Some.ensures) (h.made c.if-self.false) c.in_ok-meet.ensures.made (iff_false c.lists-is_listed.ensures c.if-not-is_listed.true)) h)

pub meet-requires-4 : goal.meet-requires-4
meet-requires-4 c = let h = c.requires.heard.1 in h.fit c.args.self.now.events.agreed c.in-Some.event (rw c.as_slice.ensures.events at c.in-Some.ensures)

pub returns : goal.returns
returns c = λ d h.
    rw (c.meet-3.ensures, c.meet-5.ensures)
    (event_met c.args.right.now c.args.entry c.in-Some.event c.has_source-is_right.result d c.args.self.now c.meet-4.new.self c.meet-2.new.self
    c.if-self.false (rw c.as_slice.ensures.events at c.in-Some.ensures) c.in_ok-meet.ensures.made (c.lists-is_listed.ensures.0 c.if-not-is_listed.false) c.has_source-is_right.ensures c.meet-4.ensures.last c.meet-4.ensures.cells h)
