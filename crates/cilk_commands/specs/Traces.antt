-- The replies to traces.
use Rattle.std.specs.Prelude.{◌≡◌, ◌⊎◌, ℕ, ◌+◌, ◌<◌, ◌^◌, List, [], ◌∷◌, Option}
use Rattle.cilk_trace.specs.declared.judge.Verdict.{Verdict}
use Rattle.cilk_trace.specs.declared.judge.Verdict.TheVariants as verdicts
use Rattle.cilk_commands.specs.declared.trace_fault.Unjudged.{Unjudged}
use Rattle.cilk_commands.specs.declared.trace_fault.Unjudged.TheVariants as faults
use Rattle.cilk_commands.specs.TraceTexts.{GivesText, HasNoMalformedLine, HasVerdict, IsMalformedAt, IsTruncatedAt}
use Rattle.cilk_commands.specs.Files.{Failures, HasFailed, HoldsTo, IsUnfailed}
use Rattle.cilk_commands.specs.Replies.{BadTrace, NoMemory, RaceFree, Refused, Reply, Text, Unreadable}

-- The lines of the file at two positions of its trace. Line 1 is the header, which no position counts.
abbrev pub lines_at : ℕ → ℕ → List ℕ
lines_at p q = (p + 1) ∷ (q + 1) ∷ []

-- the lines of the verdict's positions have numbers
abbrev pub IsNumbered : Verdict → Type 0
IsNumbered (verdicts.RaceFree n) = Unit {0}
IsNumbered (verdicts.Race p q) = (p + 1 < 2 ^ 32) × (q + 1 < 2 ^ 32)
IsNumbered (verdicts.ViewRace p q) = (p + 1 < 2 ^ 32) × (q + 1 < 2 ^ 32)

abbrev pub verdict_view : Verdict → Reply
verdict_view (verdicts.RaceFree n) = RaceFree n
verdict_view (verdicts.Race p q) = Refused 311 (lines_at p q)
verdict_view (verdicts.ViewRace p q) = Refused 312 (lines_at p q)

abbrev pub unjudged_view : Text → Unjudged → Reply
unjudged_view path (faults.Malformed line) = BadTrace 301 line
unjudged_view path (faults.Truncated line) = BadTrace 302 line
unjudged_view path faults.Unread = Unreadable path
unjudged_view path faults.Memory = NoMemory

-- the text is a trace's, and this is its first race: of accesses (311), or else of reads of a view (312)
abbrev pub RacesAs : ℕ → ℕ → ℕ → Text → Type 0
RacesAs number p q text =
    ((number ≡ 311) × HasVerdict text (verdicts.Race p q)) ⊎ ((number ≡ 312) × HasVerdict text (verdicts.ViewRace p q))

-- the text isn't a trace's, and this is its first fault: a malformed line (301), or its end (302)
abbrev pub IsBadAs : ℕ → ℕ → Text → Type 0
IsBadAs number line text = ((number ≡ 301) × IsMalformedAt text line) ⊎ ((number ≡ 302) × IsTruncatedAt text line)

-- The reply to the trace in the file of this path: it has no race, and this many lines `unseen`, or a first race, or its text isn't a trace's, or there
-- is no memory, and no read failed; or it can't be read from a byte on, and up to there no line is malformed. `known` are the contents of the file, if they are known; `failed`
-- and `failed'` are the failed reads before and after.
abbrev pub JudgeShows : Text → Option Text → Failures → Failures → Reply → Type 0
JudgeShows path known failed failed' (RaceFree n) = IsUnfailed failed failed' path × GivesText known (λ text. HasVerdict text (verdicts.RaceFree n))
JudgeShows path known failed failed' (Refused number places) =
    IsUnfailed failed failed' path × (p : ℕ) × (q : ℕ) × (places ≡ lines_at p q) × GivesText known (λ text. RacesAs number p q text)
JudgeShows path known failed failed' (BadTrace number at) = IsUnfailed failed failed' path × GivesText known (λ text. IsBadAs number at text)
JudgeShows path known failed failed' (Unreadable name) = (name ≡ path) × HasFailed path failed failed' × HoldsTo known failed'.at HasNoMalformedLine
JudgeShows path known failed failed' NoMemory = IsUnfailed failed failed' path
JudgeShows path known failed failed' _ = ⊥
