use Rattle.std.proofs.Common.{◌≡◌, true, false, refl}
use Rattle.cilk_schedule.specs.Playing.{Choose}
use Rattle.cilk_schedule.proofs.Keeping.{leads_chosen, refused_at}
use Rattle.cilk_schedule.proofs.Strictly.{can_be_made, can_not_be_made, fault_found, more_made, one_choice, skip_found}
use Rattle.cilk_schedule.proofs.strict.make.Goals as goal

pub returns-then-is_skip-clause-fault : goal.returns-then-is_skip-clause-fault
returns-then-is_skip-clause-fault c = λ workers first done behind h.
    let m = c.args.machine.now in
    let e = c.in-Ok.ensures in
    let is = c.if-is_skip.ensures.yes refl in
    skip_found workers first m done h c.args.line c.args.choice c.reason_of-reason.result behind
    (can_not_be_made m c.choose.new.self c.args.choice c.reason_of-reason.result c.in-Ok.told is (e.skipped is) e.reached c.reason_of-reason.ensures)

pub returns-else-is_skip-clause-made : goal.returns-else-is_skip-clause-made
returns-else-is_skip-clause-made c = λ workers first done h.
    let m = c.args.machine.now in
    let e = c.in-Ok.ensures in
    let can = can_be_made m c.choose.new.self.scheduler c.args.choice c.in-Ok.told (λ is. let z : false ≡ true = c.if-is_skip.ensures.no is in cc) e.reached in
    more_made workers first m done h (record { line = c.args.line; task = Choose c.args.choice }) c.choose.new.self
    (leads_chosen workers m c.choose.new.self c.args.choice c.in-Ok.told e.same.0 e.same.1 e.reached) (one_choice m c.args.choice can)

pub returns-in-Err-clause-fault : goal.returns-in-Err-clause-fault
returns-in-Err-clause-fault c = λ workers first done behind h.
    let m = c.args.machine.now in
    let e = c.in-Err.ensures in
    fault_found workers first m done h (record { line = c.args.line; task = Choose c.args.choice }) c.stopped.result behind
    (refused_at workers m c.choose.new.self c.args.choice c.in-Err.stop c.stopped.result (e.faults c.requires.0) c.stopped.ensures)
