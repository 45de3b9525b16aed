-- The binary form of a trace's lines, by an encoder. Each line with cells is of a kind of its own, whose declaration tells its COUNT and its SITE.
use Rattle.std.specs.Prelude.{ℕ, ◌+◌, ◌-◌, ◌*◌, ◌<◌, ◌≤◌, ◌^◌, List, [], ◌∷◌, ◌++◌, length, nat_lt, if◌then◌else◌}
use Rattle.cilk_trace.specs.declared.line.Cells.{Cells}
use Rattle.cilk_trace.specs.declared.line.Line.{Line}
use Rattle.cilk_trace.specs.declared.line.Line.TheVariants as lines
use Rattle.cilk_trace.specs.Forms.{binary_header}
use Rattle.cilk_trace.specs.Numbers.{leb128}
use Rattle.cilk_trace.specs.Texts.{AreWithin, EndsOnce, IsTraceText}

-- the way from one cell to another, without a sign: 2 x for x cells on, and 2 x - 1 for x cells back
abbrev pub moved_by : ℕ → ℕ → ℕ
moved_by from to = if nat_lt to from then 2 * (from - to) - 1 else 2 * (to - from)

-- The declaration of the kind with this number, and its use. KIND is 0 for a read, 1 for a write, 2 for a clear.
abbrev pub use_of : ℕ → ℕ → ℕ → Cells → ℕ → List ℕ
use_of kinds last kind k site = 0 ∷ kind ∷ k.count ∷ site ∷ (8 + kinds) ∷ moved_by last k.first ∷ []

-- the numbers of a line, where this many kinds are declared before, and this is the first cell of the last line with cells
abbrev pub numbers_of : ℕ → ℕ → Line → List ℕ
numbers_of kinds last (lines.Enter site) = 1 ∷ site ∷ []
numbers_of kinds last lines.Spawned = 2 ∷ []
numbers_of kinds last lines.Called = 3 ∷ []
numbers_of kinds last lines.Sync = 4 ∷ []
numbers_of kinds last (lines.Read k site) = use_of kinds last 0 k site
numbers_of kinds last (lines.Write k site) = use_of kinds last 1 k site
numbers_of kinds last (lines.Clear k) = use_of kinds last 2 k 0
numbers_of kinds last (lines.Create r site) = 6 ∷ 0 ∷ r ∷ site ∷ []
numbers_of kinds last (lines.Update r site) = 6 ∷ 1 ∷ r ∷ site ∷ []
numbers_of kinds last (lines.Value r site) = 6 ∷ 2 ∷ r ∷ site ∷ []
numbers_of kinds last (lines.Retire r site) = 6 ∷ 3 ∷ r ∷ site ∷ []
numbers_of kinds last (lines.Unseen site) = 7 ∷ site ∷ []
numbers_of kinds last lines.End = 5 ∷ []

-- how many kinds a line declares
abbrev pub declared_by : Line → ℕ
declared_by (lines.Read k site) = 1
declared_by (lines.Write k site) = 1
declared_by (lines.Clear k) = 1
declared_by _ = 0

-- the first cell of the last line with cells
abbrev pub cell_after : ℕ → Line → ℕ
cell_after last (lines.Read k site) = k.first
cell_after last (lines.Write k site) = k.first
cell_after last (lines.Clear k) = k.first
cell_after last _ = last

abbrev pub all_numbers : ℕ → ℕ → List Line → List ℕ
all_numbers kinds last [] = []
all_numbers kinds last (l ∷ ls) = numbers_of kinds last l ++ all_numbers (kinds + declared_by l) (cell_after last l) ls

abbrev pub bytes_of : List ℕ → List ℕ
bytes_of [] = []
bytes_of (n ∷ ns) = leb128 n ++ bytes_of ns

-- the binary form of these lines
abbrev pub binary_of : List Line → List ℕ
binary_of ls = binary_header ++ bytes_of (all_numbers 0 0 ls)

-- The lines of a trace's text have a binary form, and it is read as these lines: where no more kinds are declared than there may be.
abbrev pub HasBinaryForms : Type 0
HasBinaryForms = (ls : List Line) → AreWithin ls → EndsOnce ls → length ls + 1 < 2 ^ 32 - 1 → length ls ≤ 2 ^ 24 → IsTraceText (binary_of ls) ls
