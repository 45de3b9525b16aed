use Rattle.std.proofs.Common.{◌≡◌, MatchOption, Some, None, rules}
use Rattle.cilk_schedule.proofs.Shows.{outcome_left}
use Rattle.cilk_schedule.proofs.showing.Shown.outcome.Goals as goal

pub returns-clause-left : goal.returns-clause-left
returns-clause-left c = λ p name s run.
    let shown = c.args.self.now in
    let kept : MatchOption c.as_ref.result (shown.outcome ≡ None) (λ left. shown.outcome ≡ Some left.now) = search rules in
    outcome_left p name s shown run c.as_ref.result kept
