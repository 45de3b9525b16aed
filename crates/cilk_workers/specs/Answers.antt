-- The answers to arrivals at a join box.
use Rattle.std.specs.Prelude.{◌≡◌, ℕ, true, false, Option, Some}
use Rattle.cilk_tree.specs.declared.event_order.EventOrder.{EventOrder}
use Rattle.cilk_shared.specs.Pieces.{PieceValue}
use Rattle.cilk_replay.specs.Chains.{ChainValue}
use Rattle.cilk_workers.specs.Rows.{IsGood}
use Rattle.cilk_workers.specs.Boxes.{BoxValue, HoldsBlock, IsOpen, MayArrive, passes, passed}
use Rattle.cilk_workers.specs.declared.join.Boxed.{Boxed}
use Rattle.cilk_workers.specs.declared.join.Boxed.TheVariants.{Waits, Passes}

-- the block passes with the whole piece and its chain, or waits
abbrev pub Answers : BoxValue → Boxed → BoxValue → Type 0
Answers j Waits j' = (passes j ≡ false) × (j' ≡ j)
Answers j (Passes p c) j' = (passes j ≡ true) × (let r = j.rows in let w = r.row in (w.run ≡ Some p) × IsGood r.of p × (c.of ≡ j.replay)) × (p.upto ≡ j.sync) × (c.at ≡ j.sync) × (j' ≡ passed j)

-- what passes has the whole block that ends with the `sync` at q
abbrev pub PassesWhole : EventOrder → ℕ → Boxed → Type 0
PassesWhole s q Waits = Unit {0}
PassesWhole s q (Passes p c) = HoldsBlock s q p

-- after a block has passed, nothing is stolen and nothing arrives
abbrev pub PassesOnce : Type 0
PassesOnce =
    (j j' : BoxValue) (p : PieceValue) (c : ChainValue) → Answers j (Passes p c) j'
    → ((k a : ℕ) → IsOpen j' k a → ⊥) × ((k : ℕ) (x : PieceValue) (d : Option ChainValue) → MayArrive j' k x d → ⊥)
