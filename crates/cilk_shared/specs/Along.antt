-- The frames of events, along a plan.
use Rattle.std.specs.Prelude.{ℕ}
use Rattle.cilk_tree.specs.Along.{IsAlong}
use Rattle.cilk_tree.specs.Frames.{IsInFrame}
use Rattle.cilk_tree.specs.declared.event_order.EventOrder.{EventOrder}

-- An event order along a plan has each event in the frame that the plan gives.
abbrev pub FramesAreAlong : Type 0
FramesAreAlong = (plan s : EventOrder) → IsAlong plan s → (p f : ℕ) → IsInFrame plan.events p f → IsInFrame s.events p f
