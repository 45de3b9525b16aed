use Rattle.std.proofs.Common.{◌≡◌, ◌+◌, suc, sym, ◌∙◌, subst, arith}
use Rattle.cilk_schedule.specs.Stretches.{ComesBehind, GoesAlong}
use Rattle.cilk_schedule.proofs.stretch.along.Goals as goal

pub act_alone-requires-clause-accepted : goal.act_alone-requires-clause-accepted
act_alone-requires-clause-accepted c = c.may_make.ensures.accepted c.if-not-may_make.false

pub returns-then-not-act_alone-clause-asks : goal.returns-then-not-act_alone-clause-asks
returns-then-not-act_alone-clause-asks c =
    let i = c.events.invariant in
    let code = c.args.code.now in
    let inputs = c.args.input.now in
    let same = c.act_alone.ensures.none c.if-not-act_alone.true in
    subst (λ b. ComesBehind code inputs c.args.worker c.events.made c.args.scheduler.now b c.in-Some.frame) (sym same)
    (record { between = c.events.scheduler; along = i.along; runs = i.runs; ready = c.in-Some.ensures; went = c.come.ensures.went; asked = c.come.ensures.asked })

pub events-preserved : goal.events-preserved
events-preserved c =
    let i = c.events.invariant in
    let code = c.args.code.now in
    let inputs = c.args.input.now in
    let one : c.events.made + 1 ≡ suc c.events.made = omega arith in
    let acted = c.if-not-act_alone.false in
    let wrote = c.act_alone.ensures.wrote acted in
    record {
      runs = c.act_alone.ensures.runs acted inputs c.come.ensures.asked;
      few = omega arith;
      stopped = c.act_alone.ensures.stopped ∙ c.come.ensures.same.stopped ∙ i.stopped;
      outcome = c.act_alone.ensures.outcome ∙ c.come.ensures.same.outcome ∙ i.outcome;
      along = subst (λ n. GoesAlong code inputs c.args.worker n c.args.scheduler.now c.act_alone.new.scheduler) (sym one) (
        c.events.scheduler,
        i.along,
        record {
          place = c.in-Some.frame;
          ready = c.in-Some.ensures;
          asked = c.come.new.scheduler;
          went = c.come.ensures.went;
          accepted = c.may_make.ensures.accepted c.if-not-may_make.false;
          event = wrote.0;
          wrote = wrote.1;
        },
      );
    }
