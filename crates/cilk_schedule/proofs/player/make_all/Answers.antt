use Rattle.std.proofs.Common.{◌∷◌, [], subst, sym}
use Rattle.std.specs.Prelude.{map}
use Rattle.cilk_parser.specs.ScriptChoices.{choices_left}
use Rattle.cilk_schedule.specs.Playing.{ComesToFault, Leads, task_of, tasks_of}
use Rattle.cilk_schedule.proofs.Following.{handed}
use Rattle.cilk_schedule.proofs.Keeping.{comes_ahead, comes_later, leads_ahead, leads_on, leads_same}
use Rattle.cilk_schedule.proofs.player.make_all.Goals as goal

pub returns-in_err-make-clause-fault : goal.returns-in_err-make-clause-fault
returns-in_err-make-clause-fault c =
    let w = c.args.workers in
    let tasks = tasks_of c.args.steps.now in
    let behind = map task_of (choices_left c.next.new.self) in
    let first = c.args.machine.now in
    let m = c.choices.machine in
    let f = c.in_err-make.field-0.0 in
    handed c.from_residual.result f (λ f. ComesToFault w tasks first f) c.from_residual.ensures.1
    (comes_later w tasks (map task_of (choices_left c.choices.choices)) first m c.choices.invariant.led f
    (subst (λ ns. ComesToFault w (map task_of ns) m f) (sym c.in-Some.ensures) (comes_ahead w (task_of c.in-Some.next ∷ []) behind m f c.in_err-make.ensures.fault)))

pub returns-clause-made : goal.returns-clause-made
returns-clause-made c =
    let w = c.args.workers in
    let tasks = tasks_of c.args.steps.now in
    subst (λ ns. Leads w tasks c.args.machine.now (map task_of ns) c.choices.machine) c.in_default.ensures.0 c.choices.invariant.led

pub choices-preserved : goal.choices-preserved
choices-preserved c =
    let w = c.args.workers in
    let tasks = tasks_of c.args.steps.now in
    let behind = map task_of (choices_left c.next.new.self) in
    let i = c.choices.invariant in
    let m = c.choices.machine in
    record {
      going = c.in_ok-make.ensures.going;
      led = leads_on w tasks (map task_of (choices_left c.choices.choices)) c.args.machine.now m i.led behind c.make.new.machine
          (subst (λ ns. Leads w (map task_of ns) m behind c.make.new.machine) (sym c.in-Some.ensures) (leads_ahead w (task_of c.in-Some.next ∷ []) behind m c.make.new.machine c.in_ok-make.ensures.made));
    }

pub choices-init : goal.choices-init
choices-init c =
    let w = c.args.workers in
    let tasks = tasks_of c.args.steps.now in
    record {
      going = c.requires;
      led = subst (λ ns. Leads w tasks c.args.machine.now (map task_of ns) c.args.machine.now) (sym c.new-choices.ensures) (leads_same w tasks c.args.machine.now);
    }
