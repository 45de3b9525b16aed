use Rattle.std.proofs.Common.{ℕ, List, Option, ap, subst, sym, ◌∙◌}
use Rattle.std.proofs.lemmas.Bool.{true≢false}
use Rattle.cilk_commands.proofs.Reading.{takes_same}
use Rattle.cilk_commands.specs.Streams.{TakesAtMost}
use Rattle.cilk_commands.specs.declared.streams.TheConstants.{MAX_READ}
use Rattle.cilk_report.specs.Explained.{Scheduling, SettlingEach}
use Rattle.cilk_report.proofs.serving.serve_unmeasured.Goals as goal

pub returns-then-is_schedule-clause-served : goal.returns-then-is_schedule-clause-served
returns-then-is_schedule-clause-served g c = Scheduling c.requires.other (sym c.is_schedule.ensures ∙ c.if-is_schedule.true) c.serve_schedule.ensures.shown

pub returns-then-is_schedule-clause-scheduled : goal.returns-then-is_schedule-clause-scheduled
returns-then-is_schedule-clause-scheduled g c = λ _. c.serve_schedule.ensures.shown

pub returns-then-is_schedule-clause-settles : goal.returns-then-is_schedule-clause-settles
returns-then-is_schedule-clause-settles g c = λ isnt _. absurd (true≢false (sym c.if-is_schedule.true ∙ c.is_schedule.ensures ∙ isnt))

pub returns-then-is_schedule-clause-explained : goal.returns-then-is_schedule-clause-explained
returns-then-is_schedule-clause-explained g c =
    λ isnt _ _ _. absurd (true≢false (sym c.if-is_schedule.true ∙ c.is_schedule.ensures ∙ isnt))

pub returns-then-is_settling-clause-served : goal.returns-then-is_settling-clause-served
returns-then-is_settling-clause-served g c = SettlingEach c.requires.other (sym c.is_settling.ensures ∙ c.if-is_settling.true) c.serve_settling.ensures.shown

pub returns-then-is_settling-clause-scheduled : goal.returns-then-is_settling-clause-scheduled
returns-then-is_settling-clause-scheduled g c =
    λ held. absurd (true≢false (sym held ∙ sym c.is_schedule.ensures ∙ c.if-is_schedule.false))

pub returns-then-is_settling-clause-settles : goal.returns-then-is_settling-clause-settles
returns-then-is_settling-clause-settles g c = λ _ _. c.serve_settling.ensures.shown

pub returns-then-is_settling-clause-explained : goal.returns-then-is_settling-clause-explained
returns-then-is_settling-clause-explained g c =
    λ _ isnt _ _. absurd (true≢false (sym c.if-is_settling.true ∙ c.is_settling.ensures ∙ isnt))

pub returns-else-is_settling-clause-served : goal.returns-else-is_settling-clause-served
returns-else-is_settling-clause-served g c = c.serve_unscheduled.ensures.served

pub returns-else-is_settling-clause-scheduled : goal.returns-else-is_settling-clause-scheduled
returns-else-is_settling-clause-scheduled g c =
    λ held. absurd (true≢false (sym held ∙ sym c.is_schedule.ensures ∙ c.if-is_schedule.false))

pub returns-else-is_settling-clause-settles : goal.returns-else-is_settling-clause-settles
returns-else-is_settling-clause-settles g c =
    λ _ held. absurd (true≢false (sym held ∙ sym c.is_settling.ensures ∙ c.if-is_settling.false))

pub returns-else-is_settling-clause-explained : goal.returns-else-is_settling-clause-explained
returns-else-is_settling-clause-explained g c = λ _ _. c.serve_unscheduled.ensures.explained

pub returns-then-is_schedule-clause-about : goal.returns-then-is_schedule-clause-about
returns-then-is_schedule-clause-about g c =
    λ isnt _ _. absurd (true≢false (sym c.if-is_schedule.true ∙ c.is_schedule.ensures ∙ isnt))

pub returns-then-is_settling-clause-about : goal.returns-then-is_settling-clause-about
returns-then-is_settling-clause-about g c =
    λ _ isnt _. absurd (true≢false (sym c.if-is_settling.true ∙ c.is_settling.ensures ∙ isnt))

pub returns-else-is_settling-clause-about : goal.returns-else-is_settling-clause-about
returns-else-is_settling-clause-about g c = λ _ _. c.serve_unscheduled.ensures.about

pub returns-then-is_schedule-clause-most : goal.returns-then-is_schedule-clause-most
returns-then-is_schedule-clause-most g c =
    subst (λ (o : Option (List ℕ)). TakesAtMost MAX_READ (g.R.CountedRead.remaining c.args.input.now) o) (sym (ap g.R.CountedRead.remaining c.serve_schedule.ensures.untouched))
    (takes_same MAX_READ (g.R.CountedRead.remaining c.args.input.now))
