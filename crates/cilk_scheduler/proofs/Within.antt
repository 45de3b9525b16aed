-- A request without a fault in its place keeps each total within its limit.
--
-- - `no_fault_then`: both.
use Rattle.std.proofs.Common.{◌≡◌, ◌+◌, ◌≤◌, ℕ, Bool, true, false, cond, List, Option, Some, None, refl}
use Rattle.std.proofs.lemmas.Bool.{ltb-false}
use Rattle.cilk_types.specs.declared.fault.Fault.{Fault}
use Rattle.cilk_determinacy.specs.Costs.{Costs, Total, TickTotal, EventTotal, FrameTotal, CellTotal, cost, is_over, own_fault, fault_of}
use Rattle.cilk_determinacy.specs.Runs.{Ask, Read, Write, Invoke, Sync, End, Pass, Fail, Deed}

-- no fault here, so none there either
off : (b : Bool) (x : Fault) (o : Option Fault) → cond b (Some x) o ≡ None → (b ≡ false) × (o ≡ None)
off true x o h = let no : Some x ≡ None = h in let z : ⊥ = cc in absurd z
off false x o h = (refl, h)

module _ {W : Type 0} where
  own_off : (a : Ask W) (o : Option Fault) → own_fault a o ≡ None → (o ≡ None) × ((f : Fault) → a ≡ Fail f → ⊥)
  own_off (Read c) o h = (h, λ f e. cc)
  own_off (Write c v) o h = (h, λ f e. cc)
  own_off (Invoke k v) o h = (h, λ f e. cc)
  own_off Sync o h = (h, λ f e. cc)
  own_off (End v gone) o h = (h, λ f e. cc)
  own_off (Pass m) o h = (h, λ f e. cc)
  own_off (Fail x) o h = let no : Some x ≡ None = h in let z : ⊥ = cc in absurd z

  pub no_fault_then : (C : Costs W) (totals : Total → ℕ) (w : W) (past : List (Deed W)) (a : Ask W) → fault_of C totals w past a ≡ None
      → ((f : Fault) → a ≡ Fail f → ⊥) × ((total : Total) → totals total + cost C total w past a ≤ C.limit total)
  no_fault_then C totals w past a h =
      let ticks = off (is_over C TickTotal totals w past a) _ _ h in
      let own = own_off a _ ticks.1 in
      let events = off (is_over C EventTotal totals w past a) _ _ own.0 in
      let frames = off (is_over C FrameTotal totals w past a) _ _ events.1 in
      let cells = off (is_over C CellTotal totals w past a) _ _ frames.1 in
      (own.1, by ticks.0 events.0 frames.0 cells.0)
    where
      low : (total : Total) → is_over C total totals w past a ≡ false → totals total + cost C total w past a ≤ C.limit total
      low total q = ltb-false (C.limit total) (totals total + cost C total w past a) q

      by : is_over C TickTotal totals w past a ≡ false → is_over C EventTotal totals w past a ≡ false → is_over C FrameTotal totals w past a ≡ false → is_over C CellTotal totals w past a ≡ false
          → (total : Total) → totals total + cost C total w past a ≤ C.limit total
      by t e f c TickTotal = low TickTotal t
      by t e f c EventTotal = low EventTotal e
      by t e f c FrameTotal = low FrameTotal f
      by t e f c CellTotal = low CellTotal c
