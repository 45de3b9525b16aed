use Rattle.std.proofs.Common.{ℕ, [], ◌∷◌, ◌++◌, ◌+◌, ◌≡◌, length, Option, ap, refl, subst, sym, ◌∙◌}
use Rattle.std.specs.Prelude.{Err, IfNone, IfSome}
use Rattle.std.proofs.lemmas.Result.{err_from_is_err_and}
use Rattle.cilk_trace.specs.Texts.{IsTraceText}
use Rattle.cilk_commands.specs.declared.trace_pieces.Found.{Found}
use Rattle.cilk_commands.specs.TraceFaults.{IsUnreadAfter}
use Rattle.cilk_commands.specs.TracePieces.{IsReading}
use Rattle.cilk_commands.specs.TraceTexts.{GivesText}
use Rattle.cilk_commands.specs.declared.trace_fault.Unjudged.TheVariants.{Unread}
use Rattle.cilk_commands.proofs.TraceBeginnings.{begins_trace}
use Rattle.cilk_commands.proofs.TraceCuts.{begun_formed}
use Rattle.cilk_commands.proofs.TraceJudged.{misplaced_given, unjudged, verdict_given}
use Rattle.cilk_commands.proofs.trace_texts.judge_text.Goals as goal

pub lines-init : goal.lines-init
lines-init g c = ([], c.new-pieces.ensures (g.S.Source.remaining c.args.source.now), c.in_ok-judge.ensures, refl, refl, refl)

pub returns-in_err-found-clause-fault : goal.returns-in_err-found-clause-fault
returns-in_err-found-clause-fault g c =
    let i = c.lines.invariant in
    let known = g.S.Source.remaining c.args.source.now in
    let p = err_from_is_err_and c.from_residual-in_err-found.result c.from_residual-in_err-found.ensures.1 in
    rw (p.1, p.2) (unjudged known i.0 c.lines.judge.survey _ _ c.in_err-found.field-0.0 i.2.survey
    (subst (λ (n : ℕ). IsUnreadAfter known i.0 n (g.S.Source.failed c.next.new.source) c.in_err-found.field-0.0) i.3 (c.in_err-found.ensures.fault known i.0 i.1)))

pub lines-preserved : goal.lines-preserved
lines-preserved g c =
    let i = c.lines.invariant in
    let known = g.S.Source.remaining c.args.source.now in
    let n = subst (λ (o : Option Found). IfSome o (λ f. IsReading known (g.S.Source.remaining c.next.new.source) (i.0 ++ f.line ∷ []) c.next.new.self × (f.number ≡ length i.0 + 2)))
    c.in-Some.is (c.in_ok-found.ensures.line known i.0 i.1) in (
      i.0 ++ c.in-Some.found.line ∷ [],
      n.0,
      c.in_ok-meet.ensures.fits c.in-Fits.is i.0 i.2,
      c.in_ok-found.ensures.uncounted ∙ i.3,
      c.next.ensures.lender ∙ i.4,
      c.next.ensures.kept ∙ i.5,
    )

pub returns-in-Misplaced-clause-fault : goal.returns-in-Misplaced-clause-fault
returns-in-Misplaced-clause-fault g c =
    let i = c.lines.invariant in
    let known = g.S.Source.remaining c.args.source.now in
    let left = g.S.Source.remaining c.next.new.source in
    let n = subst (λ (o : Option Found). IfSome o (λ f. IsReading known left (i.0 ++ f.line ∷ []) c.next.new.self × (f.number ≡ length i.0 + 2)))
    c.in-Some.is (c.in_ok-found.ensures.line known i.0 i.1) in (
      c.in_ok-found.ensures.uncounted ∙ i.3,
      misplaced_given known left i.0 c.in-Some.found.line c.next.new.self c.lines.judge.survey c.in-Some.found.number n.0 n.1 i.2.survey
          (λ more k t. c.in_ok-meet.ensures.misplaced c.in-Misplaced.is i.0 more i.2 k t),
    )

pub returns-clause-verdict : goal.returns-clause-verdict
returns-clause-verdict g c =
    let i = c.lines.invariant in
    let known = g.S.Source.remaining c.args.source.now in
    let whole = subst (λ (o : Option Found). IfNone o (GivesText known (λ text. IsTraceText text i.0))) c.in_default.is (c.in_ok-found.ensures.whole known i.0 i.1) in
    verdict_given known i.0 c.lines.judge _ i.2 whole c.in_ok-verdict.ensures

pub returns-in_err-found-clause-part : goal.returns-in_err-found-clause-part
returns-in_err-found-clause-part g c = λ e.
    let i = c.lines.invariant in
    let p = err_from_is_err_and c.from_residual-in_err-found.result c.from_residual-in_err-found.ensures.1 in
    let is : Err p.0 ≡ Err Unread = sym p.1 ∙ e in
    let same : p.0 ≡ Unread = cc is in
    let t = c.in_err-found.ensures.part (g.S.Source.remaining c.args.source.now) i.0 i.1 (ap Err (sym p.2 ∙ same)) in
    (t.0, t.1, begun_formed t.0 i.0 t.2 (begins_trace i.0 c.lines.judge.survey i.2.survey))
