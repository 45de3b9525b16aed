-- How a line of a trace is spelled, and which line some bytes spell.
use Rattle.std.specs.Prelude.{⊤, ℕ, ◌+◌, ◌<◌, ◌≤◌, ◌^◌, Bool, ◌&&◌, List, [], ◌∷◌, Option, Some, None, nat_lt, if◌then◌else◌, codes}
use Rattle.std.specs.Fmt.{decimal}
use Rattle.std.specs.Str.{bytes_eq}
use Rattle.cilk_trace.specs.declared.line.Cells.{Cells}
use Rattle.cilk_trace.specs.declared.line.Line.{Line}
use Rattle.cilk_trace.specs.declared.line.Line.TheVariants as lines
use Rattle.cilk_trace.specs.declared.keyword.Keyword.{Keyword}
use Rattle.cilk_trace.specs.declared.keyword.Keyword.TheVariants as keywords
use Rattle.cilk_cert_text.specs.Words.{◌>>=◌, joined, words, number_at, ended}

-- the words of a line
abbrev pub line_words : Line → List (List ℕ)
line_words (lines.Enter site) = codes "enter" ∷ decimal site ∷ []
line_words lines.Spawned = codes "spawned" ∷ []
line_words lines.Called = codes "called" ∷ []
line_words lines.Sync = codes "sync" ∷ []
line_words (lines.Read k site) = codes "read" ∷ decimal k.first ∷ decimal k.count ∷ decimal site ∷ []
line_words (lines.Write k site) = codes "write" ∷ decimal k.first ∷ decimal k.count ∷ decimal site ∷ []
line_words (lines.Clear k) = codes "clear" ∷ decimal k.first ∷ decimal k.count ∷ []
line_words (lines.Create r site) = codes "create" ∷ decimal r ∷ decimal site ∷ []
line_words (lines.Update r site) = codes "update" ∷ decimal r ∷ decimal site ∷ []
line_words (lines.Value r site) = codes "value" ∷ decimal r ∷ decimal site ∷ []
line_words (lines.Retire r site) = codes "retire" ∷ decimal r ∷ decimal site ∷ []
line_words (lines.Unseen site) = codes "unseen" ∷ decimal site ∷ []
line_words lines.End = codes "end" ∷ []

-- the spelling of a line, without its LF
abbrev pub spelled : Line → List ℕ
spelled line = joined (line_words line)

-- ---- the limits

abbrev pub IsNumber : ℕ → Type 0
IsNumber n = n < 2 ^ 32

-- 1 to 4,096 cells below 2^32
pub record AreCells (k : Cells) : Type 0 where
  pub first : IsNumber k.first
  pub some : 1 ≤ k.count
  pub few : k.count ≤ 4096
  pub within : k.first + k.count ≤ 2 ^ 32

-- a line whose numbers are within the limits
abbrev pub IsWithin : Line → Type 0
IsWithin (lines.Enter site) = IsNumber site
IsWithin (lines.Read k site) = AreCells k × IsNumber site
IsWithin (lines.Write k site) = AreCells k × IsNumber site
IsWithin (lines.Clear k) = AreCells k
IsWithin (lines.Create r site) = IsNumber r × IsNumber site
IsWithin (lines.Update r site) = IsNumber r × IsNumber site
IsWithin (lines.Value r site) = IsNumber r × IsNumber site
IsWithin (lines.Retire r site) = IsNumber r × IsNumber site
IsWithin (lines.Unseen site) = IsNumber site
IsWithin _ = ⊤

-- ---- reading a line

abbrev pub spelling : Keyword → List ℕ
spelling keywords.Read = codes "read"
spelling keywords.Write = codes "write"
spelling keywords.Enter = codes "enter"
spelling keywords.Spawned = codes "spawned"
spelling keywords.Called = codes "called"
spelling keywords.Sync = codes "sync"
spelling keywords.Clear = codes "clear"
spelling keywords.Create = codes "create"
spelling keywords.Update = codes "update"
spelling keywords.Value = codes "value"
spelling keywords.Retire = codes "retire"
spelling keywords.Unseen = codes "unseen"
spelling keywords.End = codes "end"

abbrev pub first_spelled : List Keyword → List ℕ → Option Keyword
first_spelled [] word = None
first_spelled (k ∷ ks) word = if bytes_eq word (spelling k) then Some k else first_spelled ks word

abbrev pub all_keywords : List Keyword
all_keywords = keywords.Read ∷ keywords.Write ∷ keywords.Enter ∷ keywords.Spawned ∷ keywords.Called ∷ keywords.Sync ∷ keywords.Clear ∷ keywords.Create ∷ keywords.Update ∷ keywords.Value ∷ keywords.Retire ∷ keywords.Unseen ∷ keywords.End ∷ []

-- the keyword with this spelling
unfoldable pub keyword_of : List ℕ → Option Keyword
keyword_of word = first_spelled all_keywords word

abbrev pub are_cells : ℕ → ℕ → Bool
are_cells first count = nat_lt 0 count && (nat_lt count 4097 && nat_lt (first + count) (2 ^ 32 + 1))

-- two numbers that are cells
unfoldable pub cells_at : List (List ℕ) → Option (Cells × List (List ℕ))
cells_at ws = do
  f ← number_at ws
  n ← number_at f.1
  if are_cells f.0 n.0 then Some (record { first = f.0; count = n.0 }, n.1) else None

-- the rest of a line after its keyword
unfoldable pub rest_at : Keyword → List (List ℕ) → Option (Line × List (List ℕ))
rest_at keywords.Read ws = do
  k ← cells_at ws
  s ← number_at k.1
  Some (lines.Read k.0 s.0, s.1)
rest_at keywords.Write ws = do
  k ← cells_at ws
  s ← number_at k.1
  Some (lines.Write k.0 s.0, s.1)
rest_at keywords.Enter ws = do
  s ← number_at ws
  Some (lines.Enter s.0, s.1)
rest_at keywords.Spawned ws = Some (lines.Spawned, ws)
rest_at keywords.Called ws = Some (lines.Called, ws)
rest_at keywords.Sync ws = Some (lines.Sync, ws)
rest_at keywords.Clear ws = do
  k ← cells_at ws
  Some (lines.Clear k.0, k.1)
rest_at keywords.Create ws = do
  r ← number_at ws
  s ← number_at r.1
  Some (lines.Create r.0 s.0, s.1)
rest_at keywords.Update ws = do
  r ← number_at ws
  s ← number_at r.1
  Some (lines.Update r.0 s.0, s.1)
rest_at keywords.Value ws = do
  r ← number_at ws
  s ← number_at r.1
  Some (lines.Value r.0 s.0, s.1)
rest_at keywords.Retire ws = do
  r ← number_at ws
  s ← number_at r.1
  Some (lines.Retire r.0 s.0, s.1)
rest_at keywords.Unseen ws = do
  s ← number_at ws
  Some (lines.Unseen s.0, s.1)
rest_at keywords.End ws = Some (lines.End, ws)

unfoldable pub words_line : List (List ℕ) → Option Line
words_line [] = None
words_line (w ∷ ws) = do
  k ← keyword_of w
  l ← rest_at k ws
  ended l.0 l.1

-- the line with these bytes
abbrev pub line_of : List ℕ → Option Line
line_of bytes = words_line (words bytes)
