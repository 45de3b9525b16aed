-- The event orders along one plan: its runs on several inputs. They differ in values, and in which
-- events the frames request.
use Rattle.std.specs.Prelude.{◌≡◌, ℕ, map}
use Rattle.cilk_tree.specs.Before.{IsPosition}
use Rattle.cilk_tree.specs.declared.event_order.EventOrder.{EventOrder}
use Rattle.cilk_tree.specs.Orders.{IsOrderly}
use Rattle.cilk_tree.specs.Runs.{IsAsked, IsFollowed, Departs}
use Rattle.cilk_tree.specs.Kinds.{kind_of}

-- the same kinds of events with the same immediate predecessors and opening values
pub record IsAlong (plan s : EventOrder) : Type 0 where
  pub kinds : map kind_of s.events ≡ map kind_of plan.events
  pub preceding : s.preceding ≡ plan.preceding
  pub opening : s.opening ≡ plan.opening

-- Every event order along an orderly plan is orderly, whatever its values.
abbrev pub EventOrdersAlongAreOrderly : Type 0
EventOrdersAlongAreOrderly = (plan s : EventOrder) → IsOrderly plan → IsAlong plan s → IsOrderly s

-- the run departs from the event order at no position
abbrev pub DepartsNowhere : EventOrder → Type 0
DepartsNowhere s = (p : ℕ) → Departs s p → ⊥

-- A run that departs nowhere follows its event order at each position.
abbrev pub FollowsWhereItDepartsNowhere : Type 0
FollowsWhereItDepartsNowhere = (s : EventOrder) → IsOrderly s → IsAsked s 1 → DepartsNowhere s → (p : ℕ) → IsPosition s.events p → IsFollowed s p
