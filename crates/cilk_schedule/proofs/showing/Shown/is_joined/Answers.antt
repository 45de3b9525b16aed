use Rattle.std.proofs.Common.{cond, Option, sym, ap, ◌∙◌}
use Rattle.cilk_determinacy.specs.Cuts.{joined_at, times}
use Rattle.cilk_determinacy.specs.Machine.{Frame, deeds_at}
use Rattle.cilk_determinacy.specs.FrameEnvs.{FrameEnv}
use Rattle.cilk_scheduler.proofs.Thieves.{snoc_name}
use Rattle.cilk_schedule.specs.Showing.{joins_child}
use Rattle.cilk_schedule.proofs.Joined.{joins_shown}
use Rattle.cilk_schedule.proofs.showing.Shown.is_joined.Goals as goal

pub returns-in-Some-events-clause-joined : goal.returns-in-Some-events-clause-joined
returns-in-Some-events-clause-joined c = λ p name s n q run is.
    let split = c.in-Some.ensures.cases in
    let g = snoc_name n c.in-Some.parent.now q c.in-Some.ordinal.now (sym is ∙ split.0) in
    let r = c.in-Some-events.ensures p name s run in
    let x = r.0 in
    ap (λ l. times l s.joins) is ∙ run.joins n q ∙ ap (λ (o : Option (Frame FrameEnv)). joined_at 1 q (deeds_at o)) (ap s.frames g.0 ∙ r.1)
    ∙ joins_shown name _ c.in-Some.parent.now q 1 x.deeds c.in-Some-events.events.now r.2 ∙ ap (λ k. cond (joins_child k c.in-Some-events.events.now) 1 0) g.1 ∙ ap (λ t. cond t 1 0) (sym c.joins_child.ensures)

pub returns-in-None-clause-joined : goal.returns-in-None-clause-joined
returns-in-None-clause-joined c = λ p name s n q run is.
    let split = c.in-Some.ensures.cases in
    let g = snoc_name n c.in-Some.parent.now q c.in-Some.ordinal.now (sym is ∙ split.0) in
    ap (λ l. times l s.joins) is ∙ run.joins n q ∙ ap (λ (o : Option (Frame FrameEnv)). joined_at 1 q (deeds_at o)) (ap s.frames g.0 ∙ c.in-None.ensures p name s run)
