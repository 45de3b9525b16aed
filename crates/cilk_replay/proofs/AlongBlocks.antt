-- Blocks along a plan.
--
-- - `same_kind_at`, `sync_along`: events by their kinds;
-- - `back`: of two event orders, each along the other;
-- - `block_ends`, `spawns`, `spawn_of`: from one of them to the other.
use Rattle.std.proofs.Common.{◌≡◌, ℕ, zero, suc, ◌-◌, List, [], ◌∷◌, map, slice_get, Option, Some, refl, sym, ap, ◌∙◌}
use Rattle.cilk_types.specs.declared.event.Event.{Event}
use Rattle.cilk_types.specs.declared.event.Event.TheVariants as events
use Rattle.cilk_shared.proofs.Along.{frames_along}
use Rattle.cilk_tree.specs.Along.{IsAlong}
use Rattle.cilk_tree.specs.Blocks.{EndsBlockOf}
use Rattle.cilk_tree.specs.Columns.{IsSpawnOf}
use Rattle.cilk_tree.specs.Races.{event_at}
use Rattle.cilk_tree.specs.declared.event_order.EventOrder.{EventOrder}
use Rattle.cilk_tree.specs.declared.kind.Kind.{Kind}
use Rattle.cilk_tree.specs.declared.kind.Kind.TheVariants as kinds
use Rattle.cilk_tree.specs.Kinds.{kind_of, kind_of_event}
use Rattle.cilk_tree.specs.Orders.{IsOrderly}
use Rattle.cilk_tree.specs.Word.{spawn, word_step}
use Rattle.cilk_tree.proofs.AlongPlans.{same_resume}

kind_at : (es : List Event) (n : ℕ) → kind_of_event (slice_get es n) ≡ slice_get (map kind_of es) n
kind_at [] zero = refl
kind_at [] (suc n) = refl
kind_at (e ∷ es) zero = refl
kind_at (e ∷ es) (suc n) = kind_at es n

-- events of the same kinds
pub same_kind_at : (es fs : List Event) → map kind_of es ≡ map kind_of fs → (p : ℕ) → kind_of_event (event_at es p) ≡ kind_of_event (event_at fs p)
same_kind_at es fs same p = kind_at es (p - 1) ∙ ap (λ (ks : List Kind). slice_get ks (p - 1)) same ∙ sym (kind_at fs (p - 1))

is_sync : (o : Option Event) → kind_of_event o ≡ Some kinds.Sync → o ≡ Some events.Sync
is_sync (Some events.Sync) h = refl
is_sync o h = absurd (cc h)

pub sync_along : (es fs : List Event) → map kind_of es ≡ map kind_of fs → (p : ℕ) → event_at fs p ≡ Some events.Sync → event_at es p ≡ Some events.Sync
sync_along es fs same p h = is_sync (event_at es p) (same_kind_at es fs same p ∙ ap kind_of_event h)

pub back : (plan s : EventOrder) → IsAlong plan s → IsAlong s plan
back plan s along = record {
  kinds = sym along.kinds;
  preceding = sym along.preceding;
  opening = sym along.opening;
}

pub block_ends : (plan s : EventOrder) → IsAlong plan s → (k q : ℕ) → EndsBlockOf plan.events k q → EndsBlockOf s.events k q
block_ends plan s along k q h =
    let next = h.2 in
    let at = next.syncs in (
      h.0,
      frames_along plan s along k h.0 h.1,
      record {
        later = next.later;
        syncs = (sync_along s.events plan.events along.kinds q at.0, frames_along plan s along q h.0 at.1);
        first = λ p low less is. next.first p low less (
          sync_along plan.events s.events (sym along.kinds) p is.0,
          frames_along s plan (back plan s along) p h.0 is.1,
        );
      },
    )

pub spawns : (plan s : EventOrder) → IsAlong plan s → IsOrderly plan → IsOrderly s → (k : ℕ) → word_step plan k ≡ spawn → word_step s k ≡ spawn
spawns plan s along order order' k is =
    let next = order.returns k is in
    (order'.resumed next.0 k ((same_resume plan s along next.0 k).1 next.1)).0

pub spawn_of : (plan s : EventOrder) → IsAlong plan s → IsOrderly plan → IsOrderly s → (q k : ℕ) → IsSpawnOf plan q k → IsSpawnOf s q k
spawn_of plan s along order order' q k h = record {
  spawns = spawns plan s along order order' k h.spawns;
  ends = block_ends plan s along k q h.ends;
}
