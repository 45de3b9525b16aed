use Rattle.std.proofs.Common.{◌≡◌, ◌+◌, ◌-◌, ◌<◌, ◌≤◌, suc, Option, MatchOption, ⊎_elim, length, sym, ap, ◌∙◌, subst, arith}
use Rattle.std.specs.Prelude.{take}
use Rattle.cilk_determinacy.specs.Machine.{Frame, deeds_at, strands}
use Rattle.cilk_determinacy.specs.FrameEnvs.{FrameEnv}
use Rattle.cilk_schedule.specs.Showing.{strands_shown}
use Rattle.cilk_schedule.proofs.Strands.{many_shown, strands_to}
use Rattle.cilk_schedule.proofs.showing.Shown.strand.Goals as goal

pub returns-in_err-events : goal.returns-in_err-events
returns-in_err-events c = λ p name s run.
    let ds = deeds_at (s.frames c.args.path.now) in
    let none = ap (λ (o : Option (Frame FrameEnv)). length (deeds_at o)) (c.in_err-events.ensures p name s run) in
    subst (λ o. MatchOption o (length ds ≤ c.args.index) (λ number. (c.args.index < length ds) × (number ≡ strands (take (suc c.args.index) ds)))) (sym c.from_residual.ensures) (omega (arith, none))

pub returns-in_err-upto : goal.returns-in_err-upto
returns-in_err-upto c = λ p name s run.
    let ds = deeds_at (s.frames c.args.path.now) in
    let r = c.in_ok-events.ensures p name s run in
    let is = ap (λ (o : Option (Frame FrameEnv)). length (deeds_at o)) r.1 in
    let many = many_shown name _ c.args.path.now 1 _ c.in_ok-events.field-0.now r.2 in
    let l = c.in_err-upto.ensures.lookup in
    subst (λ o. MatchOption o (length ds ≤ c.args.index) (λ number. (c.args.index < length ds) × (number ≡ strands (take (suc c.args.index) ds)))) (sym c.from_residual-in_err-upto.ensures)
    (⊎_elim (λ less. absurd (omega (arith, less))) (λ far. omega (arith, far, is, many)) l.0)

pub returns : goal.returns
returns c = λ p name s run.
    let es = c.in_ok-events.field-0.now in
    let r = c.in_ok-events.ensures p name s run in
    let deeds = ap (λ (o : Option (Frame FrameEnv)). deeds_at o) r.1 in
    let is = ap (λ (o : Option (Frame FrameEnv)). length (deeds_at o)) r.1 in
    let many = many_shown name _ c.args.path.now 1 _ es r.2 in
    let l = c.in_ok-upto.ensures.lookup in
    let h = l.0 in
    let low = h.1 in
    let e : c.args.index + 1 - 0 ≡ suc c.args.index = omega arith in (
      omega (arith, low, is, many),
      c.strands.ensures ∙ ap strands_shown (h.2 ∙ ap (λ k. take k es) e) ∙ strands_to name _ c.args.path.now (suc c.args.index) 1 _ es r.2 ∙ ap (λ ds. strands (take (suc c.args.index) ds)) (sym deeds),
    )
