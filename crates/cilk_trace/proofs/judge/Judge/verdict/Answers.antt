use Rattle.std.proofs.Common.{Option, subst}
use Rattle.cilk_trace.specs.declared.views.ViewRace.{ViewRace}
use Rattle.cilk_trace.specs.Judging.{IsJudged}
use Rattle.cilk_trace.proofs.Judgements.{race_judged, verdict_by, views_judged}
use Rattle.cilk_trace.proofs.judge.Judge.verdict.Goals as goal

pub returns-in-Some : goal.returns-in-Some
returns-in-Some c = λ done j ended. race_judged done c.args.self.now c.in-Some.race j ended c.in-Some.is

pub returns-in-Some-2 : goal.returns-in-Some-2
returns-in-Some-2 c = λ done j ended.
    subst (λ (o : Option ViewRace). IsJudged done (verdict_by c.args.self.now.unseen o)) c.in-Some-2.is
    (views_judged done c.args.self.now c.in_ok-race.field-0 j ended c.in_default.is c.in_ok-race.ensures)

pub returns-in-None : goal.returns-in-None
returns-in-None c = λ done j ended.
    subst (λ (o : Option ViewRace). IsJudged done (verdict_by c.args.self.now.unseen o)) c.in-None.is
    (views_judged done c.args.self.now c.in_ok-race.field-0 j ended c.in_default.is c.in_ok-race.ensures)
