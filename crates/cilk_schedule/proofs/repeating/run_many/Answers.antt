use Rattle.std.proofs.Common.{◌≡◌, ◌+◌, ◌-◌, ◌<◌, suc, false, Option, Some, None, length, IfSome, refl, sym, ap, ◌∙◌, subst, arith}
use Rattle.std.specs.Option.{is_some}
use Rattle.cilk_scheduler.specs.declared.choice.Choice.TheVariants as choices
use Rattle.cilk_schedule.specs.Choices.{IsReadyAt}
use Rattle.cilk_schedule.specs.Faults.{FaultsAreStops}
use Rattle.cilk_schedule.specs.Reached.{LeadsOn}
use Rattle.cilk_schedule.specs.Repeating.{RunsOn}
use Rattle.cilk_schedule.specs.Stretches.{ComesBehind}
use Rattle.cilk_schedule.proofs.Repeated.{all_more, along_runs, none_made, one_more}
use Rattle.cilk_schedule.proofs.repeating.run_many.Goals as goal

open_yet : {A : Type 0} (o : Option A) → is_some o ≡ false → o ≡ None
open_yet None h = refl
open_yet (Some x) h = cc

pub choices-init : goal.choices-init
choices-init c = record { runs = c.requires; few = omega arith; stopped = refl; led = none_made c.args.code.now c.args.input.now c.args.worker c.args.scheduler.now }

pub choices-preserved : goal.choices-preserved
choices-preserved c =
    let code = c.args.code.now in
    let inputs = c.args.input.now in
    let w = c.args.worker in
    let i = c.choices.invariant in
    let n = c.choices.made in
    let first = c.args.scheduler.now in
    let b = c.choices.scheduler in
    let k = c.along-count.result.0 in
    let still = open_yet b.outcome (sym c.is_some.ensures ∙ c.if-is_some.false) in
    let q = subst (λ o. IfSome o (λ f. ComesBehind code inputs w k b c.along-count.new.scheduler f)) c.in-Some.is c.along-count.ensures.asks in
    let a = along_runs code inputs w k b q.between still q.along in
    let low = q.ready.first in
    let one : (w - 1) + 1 ≡ w = omega (arith, low) in
    let suc_is : (n + k) + 1 ≡ suc (n + k) = omega arith in
    record {
      runs = c.in-Ok.ensures.runs inputs q.asked;
      few = (let more = subst (λ o. IfSome o (λ f. k < c.args.most - n)) c.in-Some.is c.along-count.ensures.more in omega (arith, more));
      stopped = c.settle.ensures.stopped ∙ c.along-count.ensures.stopped ∙ i.stopped;
      led = subst (λ j. RunsOn code inputs w j first c.settle.new.scheduler) (sym suc_is)
          (one_more code inputs w (n + k) c.in-Some.frame first q.between c.settle.new.scheduler (all_more code inputs w n k first b q.between i.led a.0) a.1 q.ready
          (λ p is. (c.in-Ok._told, subst (λ z. LeadsOn code p inputs q.between c.settle.new.scheduler (choices.Run z) c.in-Ok._told) one (c.in-Ok.ensures.leads inputs q.between (subst (λ z. IsReadyAt q.between z c.in-Some.frame) (sym one) q.ready) q.went a.1 p is))));
    }

pub settle-requires-clause-asked : goal.settle-requires-clause-asked
settle-requires-clause-asked c =
    let code = c.args.code.now in
    let inputs = c.args.input.now in
    let q = subst (λ o. IfSome o (λ f. ComesBehind code inputs c.args.worker c.along-count.result.0 c.choices.scheduler c.along-count.new.scheduler f)) c.in-Some.is c.along-count.ensures.asks in
    (inputs, q.asked)

pub settle-requires-clause-works : goal.settle-requires-clause-works
settle-requires-clause-works c =
    let code = c.args.code.now in
    let inputs = c.args.input.now in
    let q = subst (λ o. IfSome o (λ f. ComesBehind code inputs c.args.worker c.along-count.result.0 c.choices.scheduler c.along-count.new.scheduler f)) c.in-Some.is c.along-count.ensures.asks in
    let low = q.ready.first in
    let last = q.ready.last in
    let same = ap (λ z. length z.items) q.went.workers in
    omega (arith, low, last, same)

pub returns-in-Err-clause-halted : goal.returns-in-Err-clause-halted
returns-in-Err-clause-halted c =
    let code = c.args.code.now in
    let inputs = c.args.input.now in
    let w = c.args.worker in
    let i = c.choices.invariant in
    let n = c.choices.made in
    let first = c.args.scheduler.now in
    let b = c.choices.scheduler in
    let k = c.along-count.result.0 in
    let still = open_yet b.outcome (sym c.is_some.ensures ∙ c.if-is_some.false) in
    let q = subst (λ o. IfSome o (λ f. ComesBehind code inputs w k b c.along-count.new.scheduler f)) c.in-Some.is c.along-count.ensures.asks in
    let a = along_runs code inputs w k b q.between still q.along in
    let low = q.ready.first in
    let one : (w - 1) + 1 ≡ w = omega (arith, low) in
    record {
      count = n + k;
      few = (let more = subst (λ o. IfSome o (λ f. k < c.args.most - n)) c.in-Some.is c.along-count.ensures.more in omega (arith, more));
      between = q.between;
      led = all_more code inputs w n k first b q.between i.led a.0;
      going = a.1;
      busy = ap is_some q.ready.held;
      faults = subst (λ z. FaultsAreStops code inputs q.between c.settle.new.scheduler (choices.Run z) c.in-Err.stop) one (c.in-Err.ensures.faults inputs q.between (subst (λ z. IsReadyAt q.between z c.in-Some.frame) (sym one) q.ready) q.went);
      kept = c.in-Err.ensures.kept inputs q.between q.went;
    }

pub returns-in_default-clause-led : goal.returns-in_default-clause-led
returns-in_default-clause-led c =
    let code = c.args.code.now in
    let inputs = c.args.input.now in
    let b = c.choices.scheduler in
    let k = c.along-count.result.0 in
    let still = open_yet b.outcome (sym c.is_some.ensures ∙ c.if-is_some.false) in
    let e = c.along-count.ensures.along c.in_default.is in
    let a = along_runs code inputs c.args.worker k b c.along-count.new.scheduler still e.1 in
    all_more code inputs c.args.worker c.choices.made k c.args.scheduler.now b c.along-count.new.scheduler c.choices.invariant.led a.0
