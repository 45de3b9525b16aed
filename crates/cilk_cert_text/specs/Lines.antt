-- How a line is spelled, and which line a text spells at a place.
use Rattle.std.specs.Prelude.{ℕ, Bool, ◌&&◌, List, [], ◌∷◌, ◌++◌, ℤ, Option, Some, None, nat_lt, ◌==◌, if◌then◌else◌, codes}
use Rattle.std.specs.Fmt.{decimal, signed_decimal}
use Rattle.std.specs.Str.{bytes_eq}
use Rattle.cilk_cert_text.specs.declared.line.Version.{Version}
use Rattle.cilk_cert_text.specs.declared.line.Version.TheVariants.{One, Two}
use Rattle.cilk_cert_text.specs.declared.line.Reducer.{Reducer}
use Rattle.cilk_cert_text.specs.declared.line.Reducer.TheVariants.{Number, Place}
use Rattle.cilk_cert_text.specs.declared.line.Entry.{Entry}
use Rattle.cilk_cert_text.specs.declared.line.Entry.TheVariants as entries
use Rattle.cilk_cert_text.specs.declared.line.Size.{Size}
use Rattle.cilk_cert_text.specs.declared.line.Line.{Line}
use Rattle.cilk_cert_text.specs.declared.line.Line.TheVariants as lines
use Rattle.cilk_cert_text.specs.declared.line.Form.{Form}
use Rattle.cilk_cert_text.specs.declared.line.Form.TheVariants as forms
use Rattle.cilk_cert_text.specs.declared.line.Keyword.{Keyword}
use Rattle.cilk_cert_text.specs.declared.line.Keyword.TheVariants as keywords
use Rattle.cilk_cert_text.specs.Words.{◌>>=◌, joined, words, number_at, value_at, first_of, behind, ended}

abbrev pub spelling : Keyword → List ℕ
spelling keywords.Begin = codes "begin"
spelling keywords.Spawn = codes "spawn"
spelling keywords.Call = codes "call"
spelling keywords.Resume = codes "resume"
spelling keywords.Sync = codes "sync"
spelling keywords.End = codes "end"
spelling keywords.Read = codes "read"
spelling keywords.Write = codes "write"
spelling keywords.Create = codes "create"
spelling keywords.Update = codes "update"
spelling keywords.Set = codes "set"
spelling keywords.Value = codes "value"
spelling keywords.Print = codes "print"

abbrev pub reducer_words : Reducer → List (List ℕ)
reducer_words (Number n) = decimal n ∷ []
reducer_words (Place i) = decimal i.frame ∷ decimal i.place ∷ []

abbrev pub entry_words : Entry → List (List ℕ)
entry_words (entries.Begin frame) = codes "begin" ∷ decimal frame ∷ []
entry_words (entries.Spawn child) = codes "spawn" ∷ decimal child ∷ []
entry_words (entries.Call child) = codes "call" ∷ decimal child ∷ []
entry_words (entries.Resume parent) = codes "resume" ∷ decimal parent ∷ []
entry_words entries.Sync = codes "sync" ∷ []
entry_words entries.End = codes "end" ∷ []
entry_words (entries.Read cell value source) = codes "read" ∷ decimal cell ∷ signed_decimal value ∷ decimal source ∷ []
entry_words (entries.Write cell value) = codes "write" ∷ decimal cell ∷ signed_decimal value ∷ []
entry_words (entries.Create r) = codes "create" ∷ reducer_words r
entry_words (entries.Update r value) = codes "update" ∷ reducer_words r ++ signed_decimal value ∷ []
entry_words (entries.Set r value) = codes "set" ∷ reducer_words r ++ signed_decimal value ∷ []
entry_words (entries.Value r value) = codes "value" ∷ reducer_words r ++ signed_decimal value ∷ []
entry_words (entries.Print value) = codes "print" ∷ signed_decimal value ∷ []

abbrev pub version_word : Version → List ℕ
version_word One = codes "1"
version_word Two = codes "2"

abbrev pub line_words : Line → List (List ℕ)
line_words (lines.Version v) = codes "cilkcert" ∷ version_word v ∷ []
line_words (lines.Size s) = codes "size" ∷ decimal s.events ∷ decimal s.frames ∷ decimal s.strands ∷ []
line_words (lines.Frame n f) = codes "frame" ∷ decimal n ∷ decimal f.parent ∷ decimal f.ordinal ∷ []
line_words (lines.Strand n s) = codes "strand" ∷ decimal n ∷ decimal s.frame ∷ decimal s.hebrew ∷ decimal s.class ∷ []
line_words (lines.Event e) = entry_words e
line_words (lines.Result value) = codes "result" ∷ signed_decimal value ∷ []
line_words lines.End = codes "end" ∷ []

-- the spelling of a line, without its LF
unfoldable pub spelled : Line → List ℕ
spelled line = joined (line_words line)

-- ---- parsing a line from its words

abbrev pub first_spelled : List Keyword → List ℕ → Option Keyword
first_spelled [] word = None
first_spelled (k ∷ ks) word = if bytes_eq word (spelling k) then Some k else first_spelled ks word

abbrev pub all_keywords : List Keyword
all_keywords = keywords.Begin ∷ keywords.Spawn ∷ keywords.Call ∷ keywords.Resume ∷ keywords.Sync ∷ keywords.End ∷ keywords.Read ∷ keywords.Write ∷ keywords.Create ∷ keywords.Update ∷ keywords.Set ∷ keywords.Value ∷ keywords.Print ∷ []

-- the keyword with this spelling
unfoldable pub keyword_of : List ℕ → Option Keyword
keyword_of word = first_spelled all_keywords word

-- a reducer's name, in the form of the version
unfoldable pub reducer_at : Version → List (List ℕ) → Option (Reducer × List (List ℕ))
reducer_at One ws = do
  n ← number_at ws
  Some (Number n.0, n.1)
reducer_at Two ws = do
  f ← number_at ws
  p ← number_at f.1
  Some (Place (record { frame = f.0; place = p.0 }), p.1)

-- a reducer's name and a value
unfoldable pub reducer_value_at : Version → List (List ℕ) → Option ((Reducer × ℤ) × List (List ℕ))
reducer_value_at version ws = do
  r ← reducer_at version ws
  v ← value_at r.1
  Some ((r.0, v.0), v.1)

-- the rest of an event after its keyword
unfoldable pub entry_at : Version → Keyword → List (List ℕ) → Option (Entry × List (List ℕ))
entry_at version keywords.Begin ws = do
  n ← number_at ws
  Some (entries.Begin n.0, n.1)
entry_at version keywords.Spawn ws = do
  n ← number_at ws
  Some (entries.Spawn n.0, n.1)
entry_at version keywords.Call ws = do
  n ← number_at ws
  Some (entries.Call n.0, n.1)
entry_at version keywords.Resume ws = do
  n ← number_at ws
  Some (entries.Resume n.0, n.1)
entry_at version keywords.Sync ws = Some (entries.Sync, ws)
entry_at version keywords.End ws = Some (entries.End, ws)
entry_at version keywords.Read ws = do
  n ← number_at ws
  v ← value_at n.1
  s ← number_at v.1
  Some (entries.Read n.0 v.0 s.0, s.1)
entry_at version keywords.Write ws = do
  n ← number_at ws
  v ← value_at n.1
  Some (entries.Write n.0 v.0, v.1)
entry_at version keywords.Create ws = do
  r ← reducer_at version ws
  Some (entries.Create r.0, r.1)
entry_at version keywords.Update ws = do
  r ← reducer_value_at version ws
  Some (entries.Update r.0.0 r.0.1, r.1)
entry_at version keywords.Set ws = do
  r ← reducer_value_at version ws
  Some (entries.Set r.0.0 r.0.1, r.1)
entry_at version keywords.Value ws = do
  r ← reducer_value_at version ws
  Some (entries.Value r.0.0 r.0.1, r.1)
entry_at version keywords.Print ws = do
  v ← value_at ws
  Some (entries.Print v.0, v.1)

unfoldable pub event_line : Version → List (List ℕ) → Option Line
event_line version [] = None
event_line version (w ∷ ws) = do
  k ← keyword_of w
  e ← entry_at version k ws
  ended (lines.Event e.0) e.1

abbrev pub version_of : List ℕ → Option Version
version_of word = if bytes_eq word (codes "1") then Some One else (if bytes_eq word (codes "2") then Some Two else None)

unfoldable pub version_line : List (List ℕ) → Option Version
version_line ws = do
  rest ← behind (codes "cilkcert") ws
  w ← first_of rest
  v ← version_of w.0
  ended v w.1

-- the limits of the format
abbrev pub is_size : Size → Bool
is_size s = nat_lt s.events 1000001 && (nat_lt s.frames 65537 && nat_lt s.strands 1000001)

unfoldable pub size_line : List (List ℕ) → Option Size
size_line ws = do
  rest ← behind (codes "size") ws
  e ← number_at rest
  f ← number_at e.1
  s ← number_at f.1
  size ← ended (record { events = e.0; frames = f.0; strands = s.0 }) s.1
  if is_size size then Some size else None

unfoldable pub frame_line : ℕ → List (List ℕ) → Option Line
frame_line number ws = do
  rest ← behind (codes "frame") ws
  n ← number_at rest
  p ← number_at n.1
  o ← number_at p.1
  if n.0 == number then ended (lines.Frame n.0 (record { parent = p.0; ordinal = o.0 })) o.1 else None

unfoldable pub strand_line : ℕ → List (List ℕ) → Option Line
strand_line number ws = do
  rest ← behind (codes "strand") ws
  n ← number_at rest
  f ← number_at n.1
  h ← number_at f.1
  c ← number_at h.1
  if n.0 == number then ended (lines.Strand n.0 (record { frame = f.0; hebrew = h.0; class = c.0 })) c.1 else None

unfoldable pub result_line : List (List ℕ) → Option Line
result_line ws = do
  rest ← behind (codes "result") ws
  v ← value_at rest
  ended (lines.Result v.0) v.1

unfoldable pub end_line : List (List ℕ) → Option Line
end_line ws = do
  rest ← behind (codes "end") ws
  ended lines.End rest

-- the line of this form with these words
abbrev pub words_line : Form → List (List ℕ) → Option Line
words_line (forms.Frame number) ws = frame_line number ws
words_line (forms.Strand number) ws = strand_line number ws
words_line (forms.Event version) ws = event_line version ws
words_line forms.Result ws = result_line ws
words_line forms.End ws = end_line ws

-- the line of this form with this spelling
unfoldable pub line_of : Form → List ℕ → Option Line
line_of form bytes = words_line form (words bytes)
