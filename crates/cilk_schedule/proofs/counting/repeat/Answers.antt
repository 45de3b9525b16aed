use Rattle.std.proofs.Common.{◌≡◌, ◌+◌, ◌-◌, ◌++◌, ◌∷◌, [], ℕ, sym, ap, ◌∙◌, subst, append_assoc, arith}
use Rattle.std.specs.Prelude.{map, replicate}
use Rattle.std.proofs.lemmas.List.{append-nil}
use Rattle.std.proofs.lemmas.Grind.{replicate_next}
use Rattle.cilk_schedule.specs.Playing.{Choose, ComesToFault}
use Rattle.cilk_schedule.specs.Strict.{FailsBehind, HasPlayed, LineTask, task_in}
use Rattle.cilk_schedule.proofs.Following.{handed}
use Rattle.cilk_schedule.proofs.Strictly.{replicate_around}
use Rattle.cilk_schedule.proofs.counting.repeat.Goals as goal

pub times-init : goal.times-init
times-init c = record {
  going = c.requires.going;
  few = omega arith;
  made = λ workers first done h. subst (λ ts. HasPlayed workers first ts c.args.machine.now c.args.skips.now) (sym (append-nil done)) h;
}

pub times-preserved : goal.times-preserved
times-preserved c =
    let x : LineTask = record { line = c.args.line; task = Choose c.args.choice } in
    let e = c.in_ok-make.ensures in
    let before = c.times.invariant.few in
    let one = e.few in
    record {
      going = e.going;
      few = omega (arith, before, one);
      made = λ workers first done h.
          subst (λ ts. HasPlayed workers first ts c.make.new.machine c.make.new.skips) (append_assoc done (replicate c.times._made x) (x ∷ []) ∙ ap (λ ts. done ++ ts) (sym (replicate_next c.times._made x)))
          (e.made workers first (done ++ replicate c.times._made x) (c.times.invariant.made workers first done h));
    }

pub returns-in_err-make-clause-fault : goal.returns-in_err-make-clause-fault
returns-in_err-make-clause-fault c =
    let x : LineTask = record { line = c.args.line; task = Choose c.args.choice } in
    let n = c.times._made in
    let left = c.args.count - (n + 1) in
    handed c.from_residual.result c.in_err-make.field-0.0 (λ f. (workers : ℕ) → FailsBehind workers (replicate c.args.count x) c.args.machine.now c.args.skips.now f) c.from_residual.ensures.1
    (λ workers first done behind h.
    subst (λ ts. ComesToFault workers (map task_in ts) first c.in_err-make.field-0.0) (replicate_around done n left c.args.count x behind (omega arith))
    (c.in_err-make.ensures.fault workers first (done ++ replicate n x) (replicate left x ++ behind) (c.times.invariant.made workers first done h)))

pub returns-clause-made : goal.returns-clause-made
returns-clause-made c = λ workers first done h.
    let x : LineTask = record { line = c.args.line; task = Choose c.args.choice } in
    let all : c.times._made ≡ c.args.count = omega arith in
    subst (λ n. HasPlayed workers first (done ++ replicate n x) c.times.machine c.times.skips) all (c.times.invariant.made workers first done h)
