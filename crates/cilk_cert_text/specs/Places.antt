-- Which lines are due at a place, and the number of the first.
use Rattle.std.specs.Prelude.{◌≡◌, ℕ, ◌+◌, ◌-◌, List, [], ◌∷◌, ◌++◌, Option, None, option_map}
use Rattle.cilk_cert_text.specs.declared.line.Line.{Line}
use Rattle.cilk_cert_text.specs.declared.line.Line.TheVariants as lines
use Rattle.cilk_cert_text.specs.declared.line.Form.{Form}
use Rattle.cilk_cert_text.specs.declared.line.Form.TheVariants as forms
use Rattle.cilk_cert_text.specs.declared.line.Version.TheVariants.{Two}
use Rattle.cilk_cert_text.specs.declared.line.Column.{Column}
use Rattle.cilk_cert_text.specs.declared.line.Column.TheVariants as columns
use Rattle.cilk_cert_text.specs.declared.place.Tail.{Tail}
use Rattle.cilk_cert_text.specs.declared.place.Tail.TheVariants as tails
use Rattle.cilk_cert_text.specs.declared.place.Progress.{Progress}
use Rattle.cilk_cert_text.specs.declared.place.ReaderPlace.{ReaderPlace}
use Rattle.cilk_cert_text.specs.declared.place.ReaderPlace.TheVariants as places
use Rattle.cilk_cert_text.specs.Words.{words}
use Rattle.cilk_cert_text.specs.Lines.{version_line, size_line, line_of}
use Rattle.cilk_cert_text.specs.Reading.{Due, Opening, Sizing, Lines, frame_forms, strand_forms, event_forms, forms_of}

abbrev pub tail_forms : Tail → List Form
tail_forms tails.Result = forms.Result ∷ forms.End ∷ []
tail_forms tails.End = forms.End ∷ []
tail_forms tails.Nothing = []

abbrev pub tail_lines : Tail → ℕ
tail_lines tails.Result = 0
tail_lines tails.End = 1
tail_lines tails.Nothing = 2

unfoldable pub forms_left : Progress → List Form
forms_left p =
    frame_forms (p.frames + 1) (p.size.frames - p.frames) ++ (strand_forms (p.strands + 1) (p.size.strands - p.strands) ++ (event_forms p.version (p.size.events - p.events) ++ tail_forms p.tail))

abbrev pub number_left : Progress → ℕ
number_left p = 3 + p.frames + p.strands + p.events + tail_lines p.tail

abbrev pub due_of : ReaderPlace → Due
due_of places.Version = Opening
due_of (places.Size version) = Sizing version
due_of (places.Lines p) = Lines (forms_left p)

abbrev pub number_at : ReaderPlace → ℕ
number_at places.Version = 1
number_at (places.Size version) = 2
number_at (places.Lines p) = number_left p

-- the line with these bytes, and the lines due after it
abbrev pub line_at : Due → List ℕ → Option (Line × Due)
line_at Opening l = option_map (λ v. (lines.Version v, Sizing v)) (version_line (words l))
line_at (Sizing version) l = option_map (λ s. (lines.Size s, Lines (forms_of version s))) (size_line (words l))
line_at (Lines []) l = None
line_at (Lines (form ∷ forms)) l = option_map (λ x. (x, Lines forms)) (line_of form l)

-- a line of this form is due, and these after it
abbrev pub IsDue : Form → Due → Due → Type 0
IsDue form later due = (forms : List Form) × (due ≡ Lines (form ∷ forms)) × (later ≡ Lines forms)

-- lines of these forms are due, and these after them
abbrev pub AreDue : List Form → Due → Due → Type 0
AreDue forms later due = (rest : List Form) × (due ≡ Lines (forms ++ rest)) × (later ≡ Lines rest)

-- the forms of a column's lines
abbrev pub column_forms : Column → List Form
column_forms (columns.Frames first count) = frame_forms first count
column_forms (columns.Strands first count) = strand_forms first count
column_forms (columns.Events count) = event_forms Two count

-- how many lines a column has
abbrev pub count_of : Column → ℕ
count_of (columns.Frames first count) = count
count_of (columns.Strands first count) = count
count_of (columns.Events count) = count

-- a line of this form is due
abbrev pub IsAwaited : Form → Due → Type 0
IsAwaited form due = (forms : List Form) × (due ≡ Lines (form ∷ forms))
