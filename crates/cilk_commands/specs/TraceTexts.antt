-- The judgement of a text that is to be a trace: its verdict, or its first line that is wrong. docs/TRACES.md has the grammar and its meaning.
use Rattle.std.specs.Prelude.{◌≡◌, ◌⊎◌, ℕ, ◌+◌, List, [], ◌∷◌, ◌++◌, length, Option, Some, IfSome}
use Rattle.cilk_trace.specs.declared.line.Line.{Line}
use Rattle.cilk_trace.specs.declared.judge.Verdict.{Verdict}
use Rattle.cilk_trace.specs.Surveys.{IsTrace, KeepsLimits}
use Rattle.cilk_trace.specs.Judging.{IsJudged}
use Rattle.cilk_trace.specs.declared.fault.TraceFault.TheVariants.{Malformed, Truncated}
use Rattle.cilk_trace.specs.Forms.{reading_of}
use Rattle.cilk_trace.specs.Texts.{IsTraceText}

-- some trace begins with these lines, and they keep the limits
abbrev pub BeginsTrace : List Line → Type 0
BeginsTrace ls = (more : List Line) × IsTrace (ls ++ more) × KeepsLimits ls

-- Some trace begins with the lines before this one, and none within the limits continues with it. The header is line 1.
pub record IsMisplacedAt (text : List ℕ) (line : ℕ) : Type 0 where
  pub before : List Line
  pub wrong : Line
  pub after : List Line
  pub lines : (reading_of text).lines ≡ before ++ wrong ∷ after
  pub begins : BeginsTrace before
  pub ends : BeginsTrace (before ++ wrong ∷ []) → ⊥
  pub number : line ≡ length before + 2

-- the first malformed line: it has none of the forms, may not come where it is, or breaks a limit
abbrev pub IsMalformedAt : List ℕ → ℕ → Type 0
IsMalformedAt text line =
    (((reading_of text).fault ≡ Some (Malformed line)) × BeginsTrace (reading_of text).lines) ⊎ IsMisplacedAt text line

-- no line of the text is malformed
abbrev pub HasNoMalformedLine : List ℕ → Type 0
HasNoMalformedLine text = (line : ℕ) → IsMalformedAt text line → ⊥

-- no line of the text is malformed by itself: whether it may come where it is isn't asked
abbrev pub HasFormedLines : List ℕ → Type 0
HasFormedLines text = (line : ℕ) → (reading_of text).fault ≡ Some (Malformed line) → ⊥

-- the text ends in this line, or before it, and some trace begins with its lines
pub record IsTruncatedAt (text : List ℕ) (line : ℕ) : Type 0 where
  pub cut : (reading_of text).fault ≡ Some (Truncated line)
  pub begins : BeginsTrace (reading_of text).lines

-- the text is that of a trace with this verdict
pub record HasVerdict (text : List ℕ) (v : Verdict) : Type 0 where
  pub lines : List Line
  pub spells : IsTraceText text lines
  pub limits : KeepsLimits lines
  pub judged : IsJudged lines v

-- a source gives a text with this property: the known one, if it is known
abbrev pub GivesText : Option (List ℕ) → (List ℕ → Type 0) → Type 0
GivesText known P = (text : List ℕ) × IfSome known (λ all. text ≡ all) × P text
