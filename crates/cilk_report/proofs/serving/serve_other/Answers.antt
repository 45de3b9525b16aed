use Rattle.std.proofs.Common.{ℕ, List, Option, ap, subst, sym, ◌∙◌}
use Rattle.std.proofs.lemmas.Bool.{true≢false}
use Rattle.cilk_commands.proofs.Reading.{takes_same}
use Rattle.cilk_commands.specs.Streams.{TakesAtMost}
use Rattle.cilk_commands.specs.declared.streams.TheConstants.{MAX_READ}
use Rattle.cilk_report.specs.Explained.{Measuring}
use Rattle.cilk_report.proofs.serving.serve_other.Goals as goal

pub returns-then-is_measure-clause-served : goal.returns-then-is_measure-clause-served
returns-then-is_measure-clause-served g c = Measuring c.requires.other (sym c.is_measure.ensures ∙ c.if-is_measure.true) c.serve_measure.ensures.shown

pub returns-then-is_measure-clause-measured : goal.returns-then-is_measure-clause-measured
returns-then-is_measure-clause-measured g c = λ _. c.serve_measure.ensures.shown

pub returns-else-is_measure-clause-served : goal.returns-else-is_measure-clause-served
returns-else-is_measure-clause-served g c = c.serve_unmeasured.ensures.served

pub returns-else-is_measure-clause-measured : goal.returns-else-is_measure-clause-measured
returns-else-is_measure-clause-measured g c =
    λ held. absurd (true≢false (sym held ∙ sym c.is_measure.ensures ∙ c.if-is_measure.false))

pub returns-then-is_measure-clause-explained : goal.returns-then-is_measure-clause-explained
returns-then-is_measure-clause-explained g c =
    λ isnt _ _ _ _. absurd (true≢false (sym c.if-is_measure.true ∙ c.is_measure.ensures ∙ isnt))

pub returns-else-is_measure-clause-explained : goal.returns-else-is_measure-clause-explained
returns-else-is_measure-clause-explained g c = λ _. c.serve_unmeasured.ensures.explained

pub returns-then-is_measure-clause-scheduled : goal.returns-then-is_measure-clause-scheduled
returns-then-is_measure-clause-scheduled g c =
    λ isnt _. absurd (true≢false (sym c.if-is_measure.true ∙ c.is_measure.ensures ∙ isnt))

pub returns-else-is_measure-clause-scheduled : goal.returns-else-is_measure-clause-scheduled
returns-else-is_measure-clause-scheduled g c = λ _. c.serve_unmeasured.ensures.scheduled

pub returns-then-is_measure-clause-settles : goal.returns-then-is_measure-clause-settles
returns-then-is_measure-clause-settles g c =
    λ isnt _ _. absurd (true≢false (sym c.if-is_measure.true ∙ c.is_measure.ensures ∙ isnt))

pub returns-else-is_measure-clause-settles : goal.returns-else-is_measure-clause-settles
returns-else-is_measure-clause-settles g c = λ _. c.serve_unmeasured.ensures.settles

pub returns-then-is_measure-clause-most : goal.returns-then-is_measure-clause-most
returns-then-is_measure-clause-most g c =
    subst (λ (o : Option (List ℕ)). TakesAtMost MAX_READ (g.R.CountedRead.remaining c.args.input.now) o) (sym (ap g.R.CountedRead.remaining c.serve_measure.ensures.untouched))
    (takes_same MAX_READ (g.R.CountedRead.remaining c.args.input.now))

pub returns-then-is_measure-clause-about : goal.returns-then-is_measure-clause-about
returns-then-is_measure-clause-about g c =
    λ isnt _ _ _. absurd (true≢false (sym c.if-is_measure.true ∙ c.is_measure.ensures ∙ isnt))

pub returns-else-is_measure-clause-about : goal.returns-else-is_measure-clause-about
returns-else-is_measure-clause-about g c = λ _. c.serve_unmeasured.ensures.about
