use Rattle.std.proofs.Common.{List, ap, subst, ◌∙◌}
use Rattle.std.proofs.lemmas.Bool.{not-false, not-true}
use Rattle.std.specs.Borrow.{Bor}
use Rattle.cilk_commands.specs.Replies.{Text}
use Rattle.cilk_report.specs.Settling.{SettlesEach, state}
use Rattle.cilk_messages.specs.Batches.{batch_view}
use Rattle.cilk_messages.specs.Words.{texts}
use Rattle.cilk_report.proofs.Batches.{greatest, last, next, nothing_left}
use Rattle.cilk_report.proofs.settling.settle_each.Goals as goal

pub each-preserved : goal.each-preserved
each-preserved g c = record {
  same = c.settle_one-step.ensures.same ∙ c.each.invariant.same;
  untouched = c.settle_one-step.ensures.untouched ∙ c.each.invariant.untouched;
  onward = λ end rest.
      c.each.invariant.onward end (next _ _ _ _ _ _ _ c.each.invariant.same (ap g.R.CountedRead.remaining c.each.invariant.untouched) _ _ _ _ _ _ c.in-len1-up.len_at_least
      (c.settle_one-step.ensures.goes_on (not-false _ c.if-not-step.false)) (greatest _ _ _ c.max-status.ensures) rest);
}

pub returns-then-not-step-clause-shown : goal.returns-then-not-step-clause-shown
returns-then-not-step-clause-shown g c =
    let shown = c.each.invariant.onward _ (last _ _ _ _ _ _ _ c.each.invariant.same (ap g.R.CountedRead.remaining c.each.invariant.untouched) _ _ _ _ _ c.in-len1-up.len_at_least
    (c.settle_one-step.ensures.ends (not-true _ c.if-not-step.true)) (greatest _ _ _ c.max-status.ensures)) in
    subst
    (λ (ws : List (Bor Text)). SettlesEach c.args.batch.now.every c.args.batch.now.form (g.F.Files.holds c.args.files.now) (g.R.CountedRead.remaining c.args.input.now)
    (let b = batch_view c.args.batch.now in b.input) (texts ws) (state 0 (g.F.Files.failed c.args.files.now) (g.O.Write.contents c.args.out.now) (g.E.Write.contents c.args.err.now)) (state c.max-status.result (g.F.Files.failed c.settle_one-step.new.files) (g.O.Write.contents c.settle_one-step.new.out) (g.E.Write.contents c.settle_one-step.new.err)))
    c.as_slice-rest.ensures.value shown

pub returns-clause-shown : goal.returns-clause-shown
returns-clause-shown g c =
    let shown = c.each.invariant.onward _ (nothing_left _ _ _ _ _ _ _ c.each.invariant.same (ap g.R.CountedRead.remaining c.each.invariant.untouched) _ _ c.in_default.len_below) in
    subst
    (λ (ws : List (Bor Text)). SettlesEach c.args.batch.now.every c.args.batch.now.form (g.F.Files.holds c.args.files.now) (g.R.CountedRead.remaining c.args.input.now)
    (let b = batch_view c.args.batch.now in b.input) (texts ws) (state 0 (g.F.Files.failed c.args.files.now) (g.O.Write.contents c.args.out.now) (g.E.Write.contents c.args.err.now)) (state c.each.status (g.F.Files.failed c.each.files) (g.O.Write.contents c.each.out) (g.E.Write.contents c.each.err)))
    c.as_slice-rest.ensures.value shown
