use Rattle.std.proofs.Common.{◌≡◌, ◌+◌, ◌≤◌, ◌-◌, ◌++◌, [], drop, refl, sym, ap, ◌∙◌, subst, append_assoc, arith}
use Rattle.std.proofs.lemmas.Bool.{le-ltb, lt-ltb}
use Rattle.std.proofs.lemmas.List.{append-nil, drop_all}
use Rattle.cilk_schedule.specs.Playing.{Pass}
use Rattle.cilk_schedule.specs.Strict.{FailsStrictly, HasMade, LineTask, line_tasks, tasks_within}
use Rattle.cilk_schedule.specs.declared.fault.PlayFault.TheVariants as play_faults
use Rattle.cilk_schedule.specs.declared.unmade.StrictFault.TheVariants as faults
use Rattle.cilk_schedule.proofs.Following.{handed}
use Rattle.cilk_schedule.proofs.Keeping.{passes}
use Rattle.cilk_schedule.proofs.Strictly.{fault_found, first_at, none_made, step_at, steps_more, steps_past}
use Rattle.cilk_schedule.proofs.strict.make_all.Goals as goal

pub steps-init : goal.steps-init
steps-init c = record { going = c.requires; made = ([], refl, none_made c.args.workers c.args.machine.now) }

pub returns-then-room-count-clause-fault : goal.returns-then-room-count-clause-fault
returns-then-room-count-clause-fault c =
    let s = step_at c.args.steps.now c.steps.step-index in
    let x : LineTask = record { line = s.line; task = Pass s.line } in
    let all = tasks_within 16000000 c.args.steps.now in
    let m = c.steps.invariant.made in
    let is =
    steps_past c.args.steps.now c.steps.step-index (c.steps.step-index + 1) c.steps.room c.count_of-count.result s.line s.order all m.0 (first_at c.args.steps.now c.steps.step-index c.steps-test.true) c.count_of-count.ensures m.1
    (lt-ltb c.steps.room c.count_of-count.result c.if-room-count.true)
    in
    subst (λ ts. FailsStrictly c.args.workers c.args.machine.now ts (faults.Play (play_faults.Line s.line))) (sym is)
    (fault_found c.args.workers c.args.machine.now c.steps.machine m.0 m.2 x (play_faults.Line s.line) [] (passes c.args.workers s.line c.steps.machine))

pub returns-in_err-make_step-clause-fault : goal.returns-in_err-make_step-clause-fault
returns-in_err-make_step-clause-fault c =
    let s = step_at c.args.steps.now c.steps.step-index in
    let all = tasks_within 16000000 c.args.steps.now in
    let m = c.steps.invariant.made in
    let j = c.steps.step-index + 1 in
    let few : c.count_of-count.result ≤ c.steps.room = omega arith in
    let is = steps_more c.args.steps.now c.steps.step-index j c.steps.room c.count_of-count.result s.line s.order all m.0 (first_at c.args.steps.now c.steps.step-index c.steps-test.true) c.count_of-count.ensures m.1 (le-ltb c.steps.room c.count_of-count.result few) in
    let rest = tasks_within (c.steps.room - c.count_of-count.result) (drop j c.args.steps.now) in
    handed c.from_residual.result c.in_err-make_step.field-0.0 (λ f. FailsStrictly c.args.workers c.args.machine.now all f) c.from_residual.ensures.1
    (subst (λ ts. FailsStrictly c.args.workers c.args.machine.now ts c.in_err-make_step.field-0.0) (sym (append_assoc m.0 (line_tasks s.line s.order) rest) ∙ sym is)
    (c.in_err-make_step.ensures.fault c.args.machine.now m.0 rest m.2))

pub steps-preserved : goal.steps-preserved
steps-preserved c =
    let s = step_at c.args.steps.now c.steps.step-index in
    let all = tasks_within 16000000 c.args.steps.now in
    let m = c.steps.invariant.made in
    let j = c.steps.step-index + 1 in
    let few : c.count_of-count.result ≤ c.steps.room = omega arith in
    let is = steps_more c.args.steps.now c.steps.step-index j c.steps.room c.count_of-count.result s.line s.order all m.0 (first_at c.args.steps.now c.steps.step-index c.steps-test.true) c.count_of-count.ensures m.1 (le-ltb c.steps.room c.count_of-count.result few) in
    record { going = c.in_ok-make_step.ensures.going; made = (m.0 ++ line_tasks s.line s.order, is, c.in_ok-make_step.ensures.made c.args.machine.now m.0 m.2) }

pub returns-clause-made : goal.returns-clause-made
returns-clause-made c =
    let m = c.steps.invariant.made in
    let none : drop c.steps.step-index c.args.steps.now ≡ [] = drop_all c.steps.step-index c.args.steps.now c.steps-test.false in
    subst (λ ts. HasMade c.args.workers c.args.machine.now ts c.steps.machine) (sym (m.1 ∙ ap (λ ss. m.0 ++ tasks_within c.steps.room ss) none ∙ append-nil m.0)) m.2
