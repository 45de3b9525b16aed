-- The assumptions of a test's steps.
use Rattle.std.specs.Prelude.{◌≡◌, Bool, List}
use Rattle.cilk_types.specs.declared.event.Event.{Event}
use Rattle.cilk_tree.specs.declared.event_order.EventOrder.{EventOrder}
use Rattle.cilk_tree.specs.Along.{IsAlong}

-- a yard's event order follows a plan and has the events es; its run makes those in asked
pub record AreOf (s plan : EventOrder) (es : List Event) (asked : List Bool) : Type 0 where
  pub along : IsAlong plan s
  pub events : es ≡ s.events
  pub asks : asked ≡ s.asked
