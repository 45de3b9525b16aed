-- What a reading says of a text: `unjudged` where no line follows, `misplaced_given` at a misplaced line, `verdict_given` at the end.
use Rattle.std.proofs.Common.{◌≡◌, ℕ, ◌+◌, List, [], ◌∷◌, ◌++◌, length, true, inl, inr, Option, Some, sym, ◌∙◌, ap, subst, append_assoc}
use Rattle.cilk_trace.specs.declared.line.Line.{Line}
use Rattle.cilk_trace.specs.declared.judge.Verdict.{Verdict}
use Rattle.cilk_trace.specs.declared.survey.Survey.{Survey}
use Rattle.cilk_trace.specs.declared.judge.Judge.{Judge}
use Rattle.cilk_trace.specs.Judging.{IsJudged, IsJudging}
use Rattle.cilk_trace.specs.Surveys.{IsSurvey, IsTrace, KeepsLimits}
use Rattle.cilk_trace.specs.declared.fault.TraceFault.{TraceFault}
use Rattle.cilk_trace.specs.Forms.{reading_of}
use Rattle.cilk_trace.specs.Reading.{Reading}
use Rattle.cilk_trace.specs.Readers.{ahead}
use Rattle.cilk_trace.specs.Texts.{IsTraceText}
use Rattle.cilk_commands.specs.declared.trace_fault.Unjudged.{Unjudged}
use Rattle.cilk_commands.specs.declared.trace_fault.Unjudged.TheVariants as faults
use Rattle.cilk_commands.specs.declared.trace_pieces.Pieces.{Pieces}
use Rattle.cilk_commands.specs.TraceFaults.{IsUnjudged, IsUnreadAfter}
use Rattle.cilk_commands.specs.TracePieces.{IsReading, unread}
use Rattle.cilk_commands.specs.TraceTexts.{BeginsTrace, GivesText, HasVerdict, IsMalformedAt}
use Rattle.cilk_commands.proofs.TraceBeginnings.{begins_trace, ends_noted}
use Rattle.cilk_commands.proofs.TraceReread.{gives_more}

begins_read : (text : List ℕ) (ls : List Line) (fault : TraceFault) → reading_of text ≡ record { lines = ls; fault = Some fault } → BeginsTrace ls
    → BeginsTrace (reading_of text).lines
begins_read text ls fault e b = subst BeginsTrace (sym (ap (λ (r : Reading). r.lines) e)) b

pub unjudged : (known : Option (List ℕ)) (ls : List Line) (v : Survey) (a b : ℕ) (e : Unjudged) → IsSurvey ls v → IsUnreadAfter known ls a b e
    → IsUnjudged known a b e
unjudged known ls v a b (faults.Malformed line) s h =
    let t = h.1 in (h.0, (t.0, t.1, inl (ap (λ (r : Reading). r.fault) t.2, begins_read t.0 ls _ t.2 (begins_trace ls v s))))
unjudged known ls v a b (faults.Truncated line) s h =
    let t = h.1 in (h.0, (t.0, t.1, record { cut = ap (λ (r : Reading). r.fault) t.2; begins = begins_read t.0 ls _ t.2 (begins_trace ls v s) }))
unjudged known ls v a b faults.Unread s h = h
unjudged known ls v a b faults.Memory s h = h

-- the lines of each text that begins with the bytes that were taken
lines_given : (left known : Option (List ℕ)) (ls : List Line) (p : Pieces) (r : IsReading known left ls p) (rest : List ℕ)
    → (more : List Line) × ((reading_of (r.pulled ++ rest)).lines ≡ ls ++ more)
lines_given left known ls p r rest =
    ((ahead p.reader (unread p ++ rest)).lines, ap (λ (x : Reading). x.lines) (r.read.ahead_is rest))

pub misplaced_given : (known left : Option (List ℕ)) (ls : List Line) (l : Line) (p : Pieces) (v : Survey) (n : ℕ) → IsReading known left (ls ++ l ∷ []) p
    → n ≡ length ls + 2 → IsSurvey ls v → ((more : List Line) → KeepsLimits (ls ++ l ∷ []) → IsTrace (ls ++ l ∷ more) → ⊥) → GivesText known (λ text. IsMalformedAt text n)
misplaced_given known left ls l p v n r number s wrong =
    let g = gives_more known left r.pulled r.taken in
    let m = lines_given left known (ls ++ l ∷ []) p r g.0 in (
      r.pulled ++ g.0,
      g.1,
      inr (record {
        before = ls;
        wrong = l;
        after = m.0;
        lines = m.1 ∙ append_assoc ls (l ∷ []) m.0;
        begins = begins_trace ls v s;
        ends = λ b. wrong b.0 b.2 (subst IsTrace (append_assoc ls (l ∷ []) b.0) b.1);
        number = number;
      }),
    )

pub verdict_given : (known : Option (List ℕ)) (ls : List Line) (j : Judge) (v : Verdict) → IsJudging ls j → GivesText known (λ text. IsTraceText text ls)
    → ((ks : List Line) → IsJudging ks j → j.survey.structure.ended ≡ true → IsJudged ks v) → GivesText known (λ text. HasVerdict text v)
verdict_given known ls j v g t law = (
  t.0,
  t.1,
  record { lines = ls; spells = t.2; limits = g.survey.limits; judged = law ls g (ends_noted ls j.survey.structure t.2.ends g.survey.structure) },
)
