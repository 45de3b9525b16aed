use Rattle.std.proofs.Common.{nat_lt, sym, subst, refl, arith}
use Rattle.std.proofs.lemmas.Bool.{ltb-true}
use Rattle.cilk_join.specs.Joins.{IsOpen}
use Rattle.cilk_join.specs.Waits.{shown}
use Rattle.cilk_scheduler.specs.Events.{block_in}
use Rattle.cilk_scheduler.proofs.Placed.{there_at}
use Rattle.cilk_schedule.proofs.Workers.{holds_true}
use Rattle.cilk_schedule.proofs.thieves.may_steal.Goals as goal

pub returns-in-Some-join-clause-yes : goal.returns-in-Some-join-clause-yes
returns-in-Some-join-clause-yes c = λ t.
    let at = c.in-Some.ensures.lookup in
    let n = c.in-Some.frame_state.now.cursor.children in (
      c.in-Some.frame_state.now,
      there_at c.args.frames.now c.args.frame c.in-Some.frame_state.now at.0 at.1,
      subst (λ j. IsOpen (block_in j) n) (sym c.in-Some-join.is) (subst (λ q. IsOpen (shown q) n) c.deref.ensures (c.open.ensures.0 (holds_true c.open.result t))),
    )

pub returns-in-None-clause-yes : goal.returns-in-None-clause-yes
returns-in-None-clause-yes c = λ t.
    let at = c.in-Some.ensures.lookup in
    let n = c.in-Some.frame_state.now.cursor.children in
    let some = ltb-true 0 n (holds_true (nat_lt 0 n) t) in (
      c.in-Some.frame_state.now,
      there_at c.args.frames.now c.args.frame c.in-Some.frame_state.now at.0 at.1,
      subst (λ j. IsOpen (block_in j) n) (sym c.in-None.is) (refl, some, omega arith),
    )
