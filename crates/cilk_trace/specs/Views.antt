-- The reads of reducers' views in a trace, line by line, and the first view-read race among them.
use Rattle.std.specs.Prelude.{⊤, ◌≡◌, ℕ, ◌+◌, ◌-◌, ◌<◌, ◌≤◌, ◌==◌, List, [], ◌∷◌, Option, Some, None, is_some, if◌then◌else◌, slice_index}
use Rattle.cilk_tree.specs.Tree.{Tree}
use Rattle.cilk_peers.specs.Peers.{class}
use Rattle.cilk_trace.specs.declared.line.Line.{Line}
use Rattle.cilk_trace.specs.Accesses.{strand_of}
use Rattle.cilk_trace.specs.Reducers.{is_alive, retirements, ReadsViewAt, IsTraceViewRace, IsFirstTraceViewRace}
use Rattle.cilk_trace.specs.declared.births.Birth.{Birth}
use Rattle.cilk_trace.specs.declared.views.ViewRace.{ViewRace}
use Rattle.cilk_trace.specs.declared.views.ViewRead.{ViewRead}

-- the peer class of the strand of the line with index i
abbrev pub class_at : Tree → List Line → ℕ → ℕ
class_at t ls i = class t (strand_of ls i)

-- Of the indices below i that have P, this is the first, and all are of its class. A position is an index plus one.
pub record IsFirstRead (P : ℕ → Type 0) (S K : ℕ → ℕ) (i : ℕ) (b : Birth) : Type 0 where
  pub held : (1 ≤ b.at) × (b.at ≤ i) × P (b.at - 1)
  pub strand : b.strand ≡ S (b.at - 1)
  pub first : (j : ℕ) → j < i → P j → b.at ≤ j + 1
  pub same : (j : ℕ) → j < i → P j → K (S j) ≡ K b.strand

-- the same, or no index below i has P
abbrev pub AreReads : (ℕ → Type 0) → (ℕ → ℕ) → (ℕ → ℕ) → ℕ → Option Birth → Type 0
AreReads P S K i None = (j : ℕ) → j < i → P j → ⊥
AreReads P S K i (Some b) = IsFirstRead P S K i b

-- a strand of the trace
abbrev pub IsStrand : List Line → ℕ → Type 0
IsStrand ls u = (j : ℕ) × (u ≡ strand_of ls j)

abbrev pub IsBorn : List Line → Option Birth → Type 0
IsBorn ls None = ⊤
IsBorn ls (Some b) = IsStrand ls b.strand

-- The state before the line with index i: the current strand; where each reducer that is alive was created; and the first view-read
-- race among the lines so far. Without one, all reads of a lifetime so far are of one class.
pub record Viewing (t : Tree) (ls : List Line) (i strand : ℕ) (births : ℕ → Option Birth) (found : Option ViewRace) : Type 0 where
  pub here : strand ≡ strand_of ls i
  pub alive : (r : ℕ) → is_some (births r) ≡ is_alive ls i r
  pub born : (r : ℕ) → IsBorn ls (births r)
  pub reads : found ≡ None → (r : ℕ) → AreReads (ReadsViewAt ls r (retirements ls r i)) (strand_of ls) (class t) i (births r)
  pub clean : found ≡ None → (p q : ℕ) → q ≤ i → IsTraceViewRace t ls p q → ⊥
  pub race : (v : ViewRace) → found ≡ Some v → IsFirstTraceViewRace t ls v.earlier v.later

-- the read of a line at `here`, of a view that was set at `set`, unless that is of the same strand
abbrev pub reads_by : Birth → Birth → List ViewRead
reads_by set here = if set.strand == here.strand then [] else (record { set = set; here = here } ∷ [])

-- the first of these reads by a strand of another class than the creator's
abbrev pub view_race : Tree → List ViewRead → Option ViewRace
view_race t [] = None
view_race t (r ∷ rs) = if class t r.set.strand == class t r.here.strand then view_race t rs else Some (record { earlier = r.set.at; later = r.here.at })

-- the same, by the classes of strands 1, 2, ..
abbrev pub view_race_by : List ℕ → List ViewRead → Option ViewRace
view_race_by cs [] = None
view_race_by cs (r ∷ rs) =
    if slice_index cs (r.set.strand - 1) == slice_index cs (r.here.strand - 1) then view_race_by cs rs else Some (record { earlier = r.set.at; later = r.here.at })

-- the strands of these reads are among the first n
abbrev pub AreHeld : ℕ → List ViewRead → Type 0
AreHeld n [] = ⊤
AreHeld n (r ∷ rs) = ((1 ≤ r.set.strand) × (r.set.strand ≤ n)) × ((1 ≤ r.here.strand) × (r.here.strand ≤ n)) × AreHeld n rs

-- the strands of these reads are the trace's
abbrev pub AreStrands : List Line → List ViewRead → Type 0
AreStrands ls [] = ⊤
AreStrands ls (r ∷ rs) = IsStrand ls r.set.strand × IsStrand ls r.here.strand × AreStrands ls rs
