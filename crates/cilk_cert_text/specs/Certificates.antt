-- Certificates as plain data, their lines and their text.
use Rattle.std.specs.Prelude.{◌≡◌, ℕ, ◌+◌, ◌^◌, ◌<◌, ◌≤◌, List, [], ◌∷◌, ◌++◌, length, ℤ, map}
use Rattle.std.specs.List.{flat_map, AllByRecursion}
use lib.Signed.{mag}
use Rattle.cilk_cert_text.specs.declared.line.Version.{Version}
use Rattle.cilk_cert_text.specs.declared.line.Version.TheVariants.{One, Two}
use Rattle.cilk_cert_text.specs.declared.line.Reducer.{Reducer}
use Rattle.cilk_cert_text.specs.declared.line.Reducer.TheVariants.{Number, Place}
use Rattle.cilk_cert_text.specs.declared.line.Entry.{Entry}
use Rattle.cilk_cert_text.specs.declared.line.Entry.TheVariants as entries
use Rattle.cilk_cert_text.specs.declared.line.Size.{Size}
use Rattle.cilk_cert_text.specs.declared.line.Frame.{Frame}
use Rattle.cilk_cert_text.specs.declared.line.Strand.{Strand}
use Rattle.cilk_cert_text.specs.declared.line.Line.{Line}
use Rattle.cilk_cert_text.specs.declared.line.Line.TheVariants as lines
use Rattle.cilk_cert_text.specs.declared.line.Form.{Form}
use Rattle.cilk_cert_text.specs.declared.line.Form.TheVariants as forms
use Rattle.cilk_cert_text.specs.Lines.{spelled}

-- the contents of a certificate: frame k and strand k are at place k of their lists, from 1
pub record Contents : Type 0 where
  pub version : Version
  pub frames : List Frame
  pub strands : List Strand
  pub events : List Entry
  pub result : ℤ

abbrev pub frame_lines : ℕ → List Frame → List Line
frame_lines k [] = []
frame_lines k (f ∷ fs) = lines.Frame k f ∷ frame_lines (k + 1) fs

abbrev pub strand_lines : ℕ → List Strand → List Line
strand_lines k [] = []
strand_lines k (s ∷ ss) = lines.Strand k s ∷ strand_lines (k + 1) ss

abbrev pub event_lines : List Entry → List Line
event_lines es = map (λ e. lines.Event e) es

abbrev pub size_of : Contents → Size
size_of c = record { events = length c.events; frames = length c.frames; strands = length c.strands }

-- the lines of events and the result, and the last line
abbrev pub late_lines : Contents → List Line
late_lines c = event_lines c.events ++ lines.Result c.result ∷ lines.End ∷ []

-- the lines after the first two
abbrev pub column_lines : Contents → List Line
column_lines c = frame_lines 1 c.frames ++ (strand_lines 1 c.strands ++ late_lines c)

abbrev pub lines_of : Contents → List Line
lines_of c = lines.Version c.version ∷ lines.Size (size_of c) ∷ column_lines c

-- the lines, each with its LF
abbrev pub text_of_lines : List Line → List ℕ
text_of_lines ls = flat_map (λ line. spelled line ++ 10 ∷ []) ls

-- the text of a certificate
abbrev pub text_of : Contents → List ℕ
text_of c = text_of_lines (lines_of c)

-- ---- the limits

abbrev pub IsNumber : ℕ → Type 0
IsNumber n = n < 2 ^ 32

-- -2^63 to 2^63 - 1
abbrev pub IsValue : ℤ → Type 0
IsValue z = mag z < 2 ^ 63

-- the version names reducers in this way
abbrev pub NamesReducer : Version → Reducer → Type 0
NamesReducer One (Number n) = IsNumber n
NamesReducer One (Place i) = ⊥
NamesReducer Two (Number n) = ⊥
NamesReducer Two (Place i) = IsNumber i.frame × IsNumber i.place

-- the version can write this event
abbrev pub IsEntry : Version → Entry → Type 0
IsEntry v (entries.Begin frame) = IsNumber frame
IsEntry v (entries.Spawn child) = IsNumber child
IsEntry v (entries.Call child) = IsNumber child
IsEntry v (entries.Resume parent) = IsNumber parent
IsEntry v entries.Sync = Unit {0}
IsEntry v entries.End = Unit {0}
IsEntry v (entries.Read cell value source) = IsNumber cell × IsValue value × IsNumber source
IsEntry v (entries.Write cell value) = IsNumber cell × IsValue value
IsEntry v (entries.Create r) = NamesReducer v r
IsEntry v (entries.Update r value) = NamesReducer v r × IsValue value
IsEntry v (entries.Set r value) = NamesReducer v r × IsValue value
IsEntry v (entries.Value r value) = NamesReducer v r × IsValue value
IsEntry v (entries.Print value) = IsValue value

abbrev pub IsFrame : Frame → Type 0
IsFrame f = IsNumber f.parent × IsNumber f.ordinal

abbrev pub IsStrand : Strand → Type 0
IsStrand s = IsNumber s.frame × IsNumber s.hebrew × IsNumber s.class

-- a line of this form
abbrev pub IsAt : Form → Line → Type 0
IsAt (forms.Frame k) (lines.Frame n f) = IsNumber n × (n ≡ k) × IsFrame f
IsAt (forms.Strand k) (lines.Strand n s) = IsNumber n × (n ≡ k) × IsStrand s
IsAt (forms.Event v) (lines.Event e) = IsEntry v e
IsAt forms.Result (lines.Result z) = IsValue z
IsAt forms.End lines.End = Unit {0}
IsAt form line = ⊥

-- lines of these forms, one of each
abbrev pub AllAt : List Form → List Line → Type 0
AllAt [] [] = Unit {0}
AllAt [] (x ∷ xs) = ⊥
AllAt (f ∷ fs) [] = ⊥
AllAt (f ∷ fs) (x ∷ xs) = IsAt f x × AllAt fs xs

-- contents within the limits, which have a text
pub record IsCertificate (c : Contents) : Type 0 where
  pub few_events : length c.events ≤ 1000000
  pub few_frames : length c.frames ≤ 65536
  pub few_strands : length c.strands ≤ 1000000
  pub frames : AllByRecursion IsFrame c.frames
  pub strands : AllByRecursion IsStrand c.strands
  pub events : AllByRecursion (IsEntry c.version) c.events
  pub result : IsValue c.result
