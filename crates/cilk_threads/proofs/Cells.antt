-- The cells named in an event order along a plan open with values: `cells_along`.
use Rattle.std.proofs.Common.{◌≡◌, ◌⊎◌, inl, inr, ℕ, ℤ, ◌-◌, ◌<◌, List, length, Option, Some, refl, sym, ap, ◌∙◌, subst}
use Rattle.cilk_types.specs.declared.event.Event.{Event}
use Rattle.cilk_types.specs.declared.event.Event.TheVariants as events
use Rattle.cilk_tree.specs.Races.{event_at}
use Rattle.cilk_tree.specs.declared.event_order.EventOrder.{EventOrder}
use Rattle.cilk_tree.specs.Word.{event}
use Rattle.cilk_tree.specs.declared.kind.Kind.TheVariants as kinds
use Rattle.cilk_tree.specs.Along.{IsAlong}
use Rattle.cilk_tree.specs.Kinds.{kind_of_event}
use Rattle.cilk_checker.specs.Determinate.{AcceptedRun}
use Rattle.cilk_plan.specs.Plans.{IsPlanOf, Names}
use Rattle.cilk_workers.specs.Shared.{HasCells}
use Rattle.cilk_replay.proofs.AlongBlocks.{same_kind_at}

same_cell : (c d : ℕ) → Some (kinds.Read c) ≡ Some (kinds.Read d) → c ≡ d
same_cell c d h = cc h

same_written : (c d : ℕ) → Some (kinds.Write c) ≡ Some (kinds.Write d) → c ≡ d
same_written c d h = cc h

-- an event of this kind names the cell
read_named : (n c : ℕ) (o : Option Event) → kind_of_event o ≡ Some (kinds.Read c) → ((e : Event) → o ≡ Some e → Names n e) → c < n
read_named n c (Some (events.Read d v)) is named = subst (λ (k : ℕ). k < n) (same_cell d c is) (named (events.Read d v) refl)
read_named n c o is named = absurd (cc is)

write_named : (n c : ℕ) (o : Option Event) → kind_of_event o ≡ Some (kinds.Write c) → ((e : Event) → o ≡ Some e → Names n e) → c < n
write_named n c (Some (events.Write d v)) is named = subst (λ (k : ℕ). k < n) (same_written d c is) (named (events.Write d v) refl)
write_named n c o is named = absurd (cc is)

pub cells_along : (a : AcceptedRun) (plan s : EventOrder) → IsPlanOf a plan → IsAlong plan s → HasCells s
cells_along a plan s is along p c h = subst (λ (o : List ℤ). c < length o) (sym along.opening) (by h)
  where
    events_are : plan.events ≡ a.trace
    events_are = ap (λ (t : EventOrder). t.events) is.event_order

    same : kind_of_event (event s p) ≡ kind_of_event (event_at a.trace p)
    same = same_kind_at s.events plan.events along.kinds p ∙ ap (λ (es : List Event). kind_of_event (event_at es p)) events_are

    by : (kind_of_event (event s p) ≡ Some (kinds.Read c)) ⊎ (kind_of_event (event s p) ≡ Some (kinds.Write c)) → c < length plan.opening
    by (inl k) = read_named (length plan.opening) c (event_at a.trace p) (sym same ∙ k) (λ e there. is.cells (p - 1) e there)
    by (inr k) = write_named (length plan.opening) c (event_at a.trace p) (sym same ∙ k) (λ e there. is.cells (p - 1) e there)
