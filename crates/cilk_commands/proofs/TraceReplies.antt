-- The replies of `judge`, by the reading of a trace's file.
--
-- - `numbered`: the lines at a verdict's positions have numbers;
-- - `verdict_shown`: the reply that shows a verdict;
-- - `fault_shown`: that of a reading that fails.
use Rattle.std.proofs.Common.{◌≡◌, ℕ, ◌+◌, ◌-◌, ◌<◌, ◌^◌, List, length, Option, Some, None, option_map, drop, inl, inr, refl, sym, subst, arith}
use Rattle.std.specs.Prelude.{slice_get}
use Rattle.std.proofs.lemmas.Option.{slice_get_within}
use Rattle.cilk_trace.specs.declared.line.Line.{Line}
use Rattle.cilk_trace.specs.declared.judge.Verdict.{Verdict}
use Rattle.cilk_trace.specs.declared.judge.Verdict.TheVariants as verdicts
use Rattle.cilk_trace.specs.Accesses.{AccessesCell, WritesCell}
use Rattle.cilk_trace.specs.Judging.{IsJudged, Says}
use Rattle.cilk_trace.specs.Reducers.{ReadsView}
use Rattle.cilk_tree.specs.Tree.{Tree, tree}
use Rattle.cilk_commands.specs.declared.trace_fault.Unjudged.{Unjudged}
use Rattle.cilk_commands.specs.declared.trace_fault.Unjudged.TheVariants as faults
use Rattle.cilk_commands.specs.TraceFaults.{IsUnjudged}
use Rattle.cilk_commands.specs.TraceTexts.{GivesText, HasNoMalformedLine, HasVerdict}
use Rattle.cilk_commands.specs.Files.{Failures, HasFailed, HoldsTo, IsUnfailed}
use Rattle.cilk_commands.specs.Replies.{Reply, Text}
use Rattle.cilk_commands.specs.Traces.{IsNumbered, JudgeShows, unjudged_view, verdict_view}

-- ---- the lines of a verdict

-- an access, or a read of a view, is of a line that is there
accesses_line : (o : Option Line) (c : ℕ) → AccessesCell o c → (l : Line) × (o ≡ Some l)
accesses_line (Some l) c h = (l, refl)
accesses_line None c h = absurd h

writes_line : (o : Option Line) (c : ℕ) → WritesCell o c → (l : Line) × (o ≡ Some l)
writes_line (Some l) c h = (l, refl)
writes_line None c h = absurd h

reads_line : (o : Option Line) (r : ℕ) → ReadsView o r → (l : Line) × (o ≡ Some l)
reads_line (Some l) r h = (l, refl)
reads_line None r h = absurd h

-- two lines that are there have numbers
both_numbered : (ls : List Line) (p q : ℕ) → length ls + 1 < 2 ^ 32 - 1 → p < q → (l : Line) × (slice_get ls (q - 1) ≡ Some l)
    → (p + 1 < 2 ^ 32) × (q + 1 < 2 ^ 32)
both_numbered ls p q few less at =
    let within = slice_get_within ls (q - 1) at.0 at.1 in
    (omega (arith, few, less, within), omega (arith, few, less, within))

said_numbered : (t : Tree) (ls : List Line) (v : Verdict) → length ls + 1 < 2 ^ 32 - 1 → Says t ls v → IsNumbered v
said_numbered t ls (verdicts.RaceFree n) few h = tt
said_numbered t ls (verdicts.Race p q) few h =
    let race = h.first.race in
    both_numbered ls p q few race.earlier (elim race.clash [
      | inl w ↦ accesses_line (slice_get ls (q - 1)) h.cell w.1.0
      | inr w ↦ writes_line (slice_get ls (q - 1)) h.cell w.1.0
    ])
said_numbered t ls (verdicts.ViewRace p q) few h =
    let race = h.1.race in
    both_numbered ls p q few race.earlier (reads_line (slice_get ls (q - 1)) race.instance.reducer race.other.0)

pub numbered : (known : Option Text) (v : Verdict) → GivesText known (λ text. HasVerdict text v) → IsNumbered v
numbered known v h =
    let is = h.2 in
    let judged : IsJudged is.lines v = is.judged in
    said_numbered (tree judged.shape) is.lines v is.spells.few judged.says

-- ---- the replies

-- a file is read from its first byte on
whole : (known : Option Text) → option_map (drop 0) known ≡ known
whole None = refl
whole (Some all) = refl

pub from_first : (P : Option Text → Type 0) (known known' : Option Text) (at : ℕ) → known' ≡ known → at ≡ 0 → P (option_map (drop at) known') → P known
from_first P known known' at e d h = let same : option_map (drop at) known' ≡ known = rw (e, d) (whole known) in subst P same h

judged_shown : (path : Text) (known : Option Text) (failed failed' : Failures) (v : Verdict) → IsUnfailed failed failed' path
    → GivesText known (λ text. HasVerdict text v) → JudgeShows path known failed failed' (verdict_view v)
judged_shown path known failed failed' (verdicts.RaceFree n) none h = (none, h)
judged_shown path known failed failed' (verdicts.Race p q) none h = (none, p, q, refl, (h.0, h.1, inl (refl, h.2)))
judged_shown path known failed failed' (verdicts.ViewRace p q) none h = (none, p, q, refl, (h.0, h.1, inr (refl, h.2)))

pub verdict_shown : {F : Type 0} (path : Text) (known : Option Text) (failed : F → Failures) (old new : F) (v : Verdict) (r : Reply) → r ≡ verdict_view v
    → IsUnfailed (failed old) (failed new) path → GivesText known (λ text. HasVerdict text v) → JudgeShows path known (failed old) (failed new) r
verdict_shown path known failed old new v r e none h =
    subst (λ (x : Reply). JudgeShows path known (failed old) (failed new) x) (sym e) (judged_shown path known (failed old) (failed new) v none h)

fault_view : (path : Text) (known : Option Text) (failed failed' : Failures) (a b : ℕ) (e : Unjudged) → (b ≡ a → IsUnfailed failed failed' path)
    → (a < b → HasFailed path failed failed') → (e ≡ faults.Unread → a < b → HoldsTo known failed'.at HasNoMalformedLine) → IsUnjudged known a b e
    → JudgeShows path known failed failed' (unjudged_view path e)
fault_view path known failed failed' a b (faults.Malformed line) stays fails up h = let t = h.1 in (stays h.0, (t.0, t.1, inl (refl, t.2)))
fault_view path known failed failed' a b (faults.Truncated line) stays fails up h = let t = h.1 in (stays h.0, (t.0, t.1, inr (refl, t.2)))
fault_view path known failed failed' a b faults.Unread stays fails up h = (refl, fails h, up refl h)
fault_view path known failed failed' a b faults.Memory stays fails up h = stays h

pub fault_shown : {F : Type 0} (path : Text) (known known' : Option Text) (at : ℕ) (failed : F → Failures) (old new : F) (a b : ℕ) (e : Unjudged)
    (r : Reply) → known' ≡ known → at ≡ 0 → r ≡ unjudged_view path e → (b ≡ a → IsUnfailed (failed old) (failed new) path)
    → (a < b → HasFailed path (failed old) (failed new)) → (e ≡ faults.Unread → a < b → HoldsTo known (let f = failed new in f.at) HasNoMalformedLine)
    → IsUnjudged (option_map (drop at) known') a b e → JudgeShows path known (failed old) (failed new) r
fault_shown path known known' at failed old new a b e r same first is stays fails up h =
    subst (λ (x : Reply). JudgeShows path known (failed old) (failed new) x) (sym is)
    (fault_view path known (failed old) (failed new) a b e stays fails up
    (from_first (λ k. IsUnjudged k a b e) known known' at same first h))
