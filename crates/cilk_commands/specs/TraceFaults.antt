-- Why a trace isn't judged.
use Rattle.std.specs.Prelude.{◌≡◌, ℕ, ◌<◌, List, Option, Some}
use Rattle.cilk_trace.specs.declared.line.Line.{Line}
use Rattle.cilk_trace.specs.declared.fault.TraceFault.{TraceFault}
use Rattle.cilk_trace.specs.declared.fault.TraceFault.TheVariants as text_faults
use Rattle.cilk_trace.specs.Forms.{reading_of}
use Rattle.cilk_commands.specs.declared.trace_fault.Unjudged.{Unjudged}
use Rattle.cilk_commands.specs.declared.trace_fault.Unjudged.TheVariants as faults
use Rattle.cilk_commands.specs.TraceTexts.{GivesText, IsMalformedAt, IsTruncatedAt}

abbrev pub told : TraceFault → Unjudged
told (text_faults.Malformed line) = faults.Malformed line
told (text_faults.Truncated line) = faults.Truncated line

-- a fault of the text, where it has these lines before it
abbrev pub IsTextFault : Option (List ℕ) → List Line → TraceFault → Type 0
IsTextFault known ls fault = GivesText known (λ text. reading_of text ≡ record { lines = ls; fault = Some fault })

-- Why no next line was read after these; `failed` and `failed'` are the failed pulls before and after. At a fault of the text, and without memory, none failed.
abbrev pub IsUnreadAfter : Option (List ℕ) → List Line → ℕ → ℕ → Unjudged → Type 0
IsUnreadAfter known ls failed failed' (faults.Malformed line) = (failed' ≡ failed) × IsTextFault known ls (text_faults.Malformed line)
IsUnreadAfter known ls failed failed' (faults.Truncated line) = (failed' ≡ failed) × IsTextFault known ls (text_faults.Truncated line)
IsUnreadAfter known ls failed failed' faults.Unread = failed < failed'
IsUnreadAfter known ls failed failed' faults.Memory = failed' ≡ failed

-- Why a text isn't judged: its first fault, or memory, where no pull failed; or a pull that failed.
abbrev pub IsUnjudged : Option (List ℕ) → ℕ → ℕ → Unjudged → Type 0
IsUnjudged known failed failed' (faults.Malformed line) = (failed' ≡ failed) × GivesText known (λ text. IsMalformedAt text line)
IsUnjudged known failed failed' (faults.Truncated line) = (failed' ≡ failed) × GivesText known (λ text. IsTruncatedAt text line)
IsUnjudged known failed failed' faults.Unread = failed < failed'
IsUnjudged known failed failed' faults.Memory = failed' ≡ failed
