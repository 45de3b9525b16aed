-- Reducers' lifetimes, which lines read a reducer's view, and which two of them race (Lee and Schardl 2015, section 3).
use Rattle.std.specs.Prelude.{⊤, ◌≡◌, ℕ, zero, suc, ◌+◌, ◌-◌, List, [], ◌∷◌, Bool, true, false, ◌==◌, Option, Some, slice_get, if◌then◌else◌}
use Rattle.cilk_tree.specs.Tree.{Tree}
use Rattle.cilk_peers.specs.ViewRaces.{ViewClash, IsFirstViewClash}
use Rattle.cilk_trace.specs.declared.line.Line.{Line}
use Rattle.cilk_trace.specs.declared.line.Line.TheVariants as lines
use Rattle.cilk_trace.specs.Accesses.{strand_at}

-- whether a reducer is alive after a line, by whether it was before
abbrev pub lives : Line → ℕ → Bool → Bool
lives (lines.Create q s) r b = if q == r then true else b
lives (lines.Retire q s) r b = if q == r then false else b
lives _ r b = b

-- the same after the first i lines
abbrev pub lives_on : List Line → ℕ → ℕ → Bool → Bool
lives_on ls r zero b = b
lives_on [] r (suc i) b = b
lives_on (l ∷ ls) r (suc i) b = lives_on ls r i (lives l r b)

-- whether a reducer is alive before the line with index i: it was created, and not retired since
abbrev pub is_alive : List Line → ℕ → ℕ → Bool
is_alive ls i r = lives_on ls r i false

-- Whether a line may come where these reducers are alive: none of them is created, and no other is used.
abbrev pub Suits : Line → (ℕ → Bool) → Type 0
Suits (lines.Create r s) alive = alive r ≡ false
Suits (lines.Update r s) alive = alive r ≡ true
Suits (lines.Value r s) alive = alive r ≡ true
Suits (lines.Retire r s) alive = alive r ≡ true
Suits _ alive = ⊤

-- no reducer that is alive is created, and no other is used
abbrev pub KeepsReducers : List Line → Type 0
KeepsReducers ls = (i : ℕ) (l : Line) → slice_get ls i ≡ Some l → Suits l (is_alive ls i)

abbrev pub retired_in : Line → ℕ → ℕ
retired_in (lines.Retire q s) r = if q == r then 1 else 0
retired_in _ r = 0

-- how many of the first i lines retire the reducer
abbrev pub retirements : List Line → ℕ → ℕ → ℕ
retirements ls r zero = 0
retirements [] r (suc i) = 0
retirements (l ∷ ls) r (suc i) = retired_in l r + retirements ls r i

-- A lifetime: a reducer, between two lines that retire it.
pub record Lifetime : Type 0 where
  pub reducer : ℕ
  pub age : ℕ

-- A line that reads the reducer's view: the view is set or shown there. An update only multiplies a view.
abbrev pub ReadsView : Option Line → ℕ → Type 0
ReadsView (Some (lines.Create q s)) r = q ≡ r
ReadsView (Some (lines.Value q s)) r = q ≡ r
ReadsView _ r = ⊥

-- the line with index i reads the view of this reducer at this age
abbrev pub ReadsViewAt : List Line → ℕ → ℕ → ℕ → Type 0
ReadsViewAt ls r age i = ReadsView (slice_get ls i) r × (retirements ls r i ≡ age)

abbrev pub ReadsLifetime : List Line → ℕ → Lifetime → Type 0
ReadsLifetime ls p o = ReadsViewAt ls o.reducer o.age (p - 1)

-- two reads of one reducer's view, within one lifetime, by strands whose peers differ
abbrev pub IsTraceViewRace : Tree → List Line → ℕ → ℕ → Type 0
IsTraceViewRace t ls = ViewClash Lifetime t (strand_at ls) (ReadsLifetime ls)

-- the first view-read race of a trace
abbrev pub IsFirstTraceViewRace : Tree → List Line → ℕ → ℕ → Type 0
IsFirstTraceViewRace t ls = IsFirstViewClash Lifetime t (strand_at ls) (ReadsLifetime ls)

-- no two lines have a view-read race
abbrev pub HasNoTraceViewRace : Tree → List Line → Type 0
HasNoTraceViewRace t ls = (p q : ℕ) → IsTraceViewRace t ls p q → ⊥
