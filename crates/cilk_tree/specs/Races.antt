-- Determinacy races, over all pairs of positions (Feng and Leiserson 1997, section 2).
use Rattle.std.specs.Prelude.{◌≡◌, ℕ, zero, suc, ◌+◌, ◌-◌, ◌<◌, ◌≤◌, ◌⊎◌, List, [], ◌∷◌, Option, Some, slice_get}
use Rattle.cilk_types.specs.declared.event.Event.{Event}
use Rattle.cilk_types.specs.declared.event.Event.TheVariants.{Read, Write}
use Rattle.cilk_tree.specs.Marks.{mark_of, begun_by}
use Rattle.cilk_tree.specs.Tree.{Tree}
use Rattle.cilk_tree.specs.Parallel.{Parallel}
use Rattle.cilk_tree.specs.Hebrew.{hebrew}

-- the strand of a position: the number of strands begun by the events up to it
abbrev pub strand_at : List Event → ℕ → ℕ
strand_at [] p = 0
strand_at (e ∷ es) zero = 0
strand_at (e ∷ es) (suc p) = begun_by (mark_of e) + strand_at es p

-- the event at a position, from 1
abbrev pub event_at : List Event → ℕ → Option Event
event_at events p = slice_get events (p - 1)

-- an event that reads or writes the cell
abbrev pub Accesses : Option Event → ℕ → Type 0
Accesses (Some (Read d v)) c = d ≡ c
Accesses (Some (Write d v)) c = d ≡ c
Accesses _ c = ⊥

-- an event that writes the cell
abbrev pub Writes : Option Event → ℕ → Type 0
Writes (Some (Write d v)) c = d ≡ c
Writes _ c = ⊥

-- Two accesses of one location, at least one of them a write, by parallel strands. A position is any
-- number that lies in a strand.
pub record Clash (L : Type 0) (t : Tree) (strand : ℕ → ℕ) (accesses writes : ℕ → L → Type 0) (p q : ℕ) : Type 0 where
  pub first : 1 ≤ p
  pub earlier : p < q
  pub cell : L
  pub clash : (writes p cell × accesses q cell) ⊎ (accesses p cell × writes q cell)
  pub parallel : Parallel t 1 (strand p) (strand q)

-- The least position that an earlier access clashes with. Of those accesses, the one of greatest
-- Hebrew number; at equal numbers the earliest.
pub record IsFirstClash (L : Type 0) (t : Tree) (strand : ℕ → ℕ) (accesses writes : ℕ → L → Type 0) (p q : ℕ) : Type 0 where
  pub race : Clash L t strand accesses writes p q
  pub least : (p' q' : ℕ) → Clash L t strand accesses writes p' q' → q ≤ q'
  pub greatest : (p' : ℕ) → Clash L t strand accesses writes p' q
      → (hebrew t (strand p') < hebrew t (strand p))
      ⊎ ((hebrew t (strand p') ≡ hebrew t (strand p)) × (p ≤ p'))

-- two accesses of one cell, at least one of them a write, by parallel strands
abbrev pub IsRace : Tree → List Event → ℕ → ℕ → Type 0
IsRace t events = Clash ℕ t (strand_at events) (λ p. Accesses (event_at events p)) (λ p. Writes (event_at events p))

-- the first race of a run
abbrev pub IsFirstRace : Tree → List Event → ℕ → ℕ → Type 0
IsFirstRace t events = IsFirstClash ℕ t (strand_at events) (λ p. Accesses (event_at events p)) (λ p. Writes (event_at events p))

-- no two positions race
abbrev pub HasNoRace : Tree → List Event → Type 0
HasNoRace t events = (p q : ℕ) → IsRace t events p q → ⊥
