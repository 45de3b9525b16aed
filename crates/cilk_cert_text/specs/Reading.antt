-- The reading of a text: its lines up to its first fault.
use Rattle.std.specs.Prelude.{ℕ, zero, suc, ◌+◌, List, [], ◌∷◌, ◌++◌, length, Option, Some, None, option_map, nat_lt, ◌==◌, if◌then◌else◌}
use Rattle.cilk_cert_text.specs.declared.fault.CertFault.{CertFault}
use Rattle.cilk_cert_text.specs.declared.fault.CertFault.TheVariants.{Malformed, Truncated}
use Rattle.cilk_cert_text.specs.declared.line.Version.{Version}
use Rattle.cilk_cert_text.specs.declared.line.Size.{Size}
use Rattle.cilk_cert_text.specs.declared.line.Line.{Line}
use Rattle.cilk_cert_text.specs.declared.line.Line.TheVariants as lines
use Rattle.cilk_cert_text.specs.declared.line.Form.{Form}
use Rattle.cilk_cert_text.specs.declared.line.Form.TheVariants as forms
use Rattle.cilk_cert_text.specs.Words.{words}
use Rattle.cilk_cert_text.specs.Lines.{version_line, size_line, line_of}

-- the lines up to the first fault, and that fault, or none if the text is whole
pub record Reading : Type 0 where
  pub lines : List Line
  pub fault : Option CertFault

abbrev pub whole : Reading
whole = record { lines = []; fault = None }

abbrev pub stops : CertFault → Reading
stops fault = record { lines = []; fault = Some fault }

abbrev pub with_line : Line → Reading → Reading
with_line line reading = record { lines = line ∷ reading.lines; fault = reading.fault }

-- the bytes before the first LF and those after it, or none if there is no LF
abbrev pub first_line : List ℕ → Option (List ℕ × List ℕ)
first_line [] = None
first_line (b ∷ bs) = if b == 10 then Some ([], bs) else option_map (λ s. (b ∷ s.0, s.1)) (first_line bs)

-- a line that may not be here is malformed
abbrev pub taken : {A : Type 0} → ℕ → (A → List ℕ → Reading) → List ℕ → Option A → Reading
taken number next rest None = stops (Malformed number)
taken number next rest (Some x) = next x rest

-- One line: it is malformed if it has 97 bytes or more, and truncated if it has no LF.
abbrev pub step : {A : Type 0} → ℕ → (List ℕ → Option A) → (A → List ℕ → Reading) → List ℕ → Option (List ℕ × List ℕ) → Reading
step number line next bytes None = if nat_lt (length bytes) 97 then stops (Truncated number) else stops (Malformed number)
step number line next bytes (Some parts) =
    if nat_lt (length parts.0) 97 then taken number next parts.1 (line parts.0) else stops (Malformed number)

abbrev pub frame_forms : ℕ → ℕ → List Form
frame_forms k zero = []
frame_forms k (suc n) = forms.Frame k ∷ frame_forms (k + 1) n

abbrev pub strand_forms : ℕ → ℕ → List Form
strand_forms k zero = []
strand_forms k (suc n) = forms.Strand k ∷ strand_forms (k + 1) n

abbrev pub event_forms : Version → ℕ → List Form
event_forms version zero = []
event_forms version (suc n) = forms.Event version ∷ event_forms version n

-- the forms of the lines after the size line, in order
abbrev pub forms_of : Version → Size → List Form
forms_of version size =
    frame_forms 1 size.frames ++ (strand_forms 1 size.strands ++ (event_forms version size.events ++ forms.Result ∷ forms.End ∷ []))

-- the lines that are still due
pub data Due : Type 0 where
  Opening : Due
  Sizing : Version → Due
  Lines : List Form → Due

-- The reading of bytes if lines of these forms are due. A byte after the last line is a fault of
-- the line after it.
abbrev pub reading_lines : ℕ → List Form → List ℕ → Reading
reading_lines number [] [] = whole
reading_lines number [] (b ∷ bs) = stops (Malformed number)
reading_lines number (form ∷ forms) bytes =
    step number (line_of form) (λ line rest. with_line line (reading_lines (number + 1) forms rest)) bytes (first_line bytes)

abbrev pub reading_size : Version → ℕ → List ℕ → Reading
reading_size version number bytes =
    step number (λ l. size_line (words l)) (λ size rest. with_line (lines.Size size) (reading_lines (number + 1) (forms_of version size) rest)) bytes (first_line bytes)

-- the same from the line with this number on
unfoldable pub reading : Due → ℕ → List ℕ → Reading
reading Opening number bytes =
    step number (λ l. version_line (words l)) (λ version rest. with_line (lines.Version version) (reading_size version (number + 1) rest)) bytes (first_line bytes)
reading (Sizing version) number bytes = reading_size version number bytes
reading (Lines forms) number bytes = reading_lines number forms bytes

-- the reading of a text
abbrev pub reading_of : List ℕ → Reading
reading_of text = reading Opening 1 text
