-- The plan's event at a position is that of the event order: `next_is`.
use Rattle.std.proofs.Common.{◌≡◌, ◌≤◌, inr, ℕ, ◌+◌, ◌-◌, List, length, map, Option, Some, None, slice_get, refl, sym, ap, ◌∙◌, subst, arith}
use Rattle.std.specs.Option.{option_map}
use Rattle.std.proofs.lemmas.List.{length-map}
use Rattle.std.proofs.lemmas.Option.{slice_get-map, slice_get_within}
use Rattle.cilk_types.specs.declared.event.Event.{Event}
use Rattle.cilk_shared.specs.Along.{FramesAreAlong}
use Rattle.cilk_tree.specs.Along.{IsAlong}
use Rattle.cilk_tree.specs.Frames.{IsInFrame}
use Rattle.cilk_tree.specs.Kinds.{IsBehind, kind_of, kind_of_event}
use Rattle.cilk_tree.specs.declared.kind.Asked.{Asked}
use Rattle.cilk_tree.specs.declared.kind.Asked.TheVariants.{Next, Nothing}
use Rattle.cilk_tree.specs.declared.kind.Kind.{Kind}
use Rattle.cilk_tree.specs.declared.event_order.EventOrder.{EventOrder}
use Rattle.cilk_workers.specs.Shared.{IsNext}

mapped : (o : Option Event) → kind_of_event o ≡ option_map kind_of o
mapped (Some e) = refl
mapped None = refl

pub next_is : (plan s : EventOrder) (at : ℕ) (a : Asked) → IsAlong plan s → FramesAreAlong → 1 ≤ at → IsBehind plan (at - 1) a → IsNext s at a
next_is plan s at Nothing along frames some h =
    let long = ap (λ (l : List Kind). length l) along.kinds in
    let one = length-map s.events kind_of in
    let two = length-map plan.events kind_of in
    inr (omega (arith, h, long, one, two, some))
next_is plan s at (Next frame kind) along frames some h =
    let there : slice_get (map kind_of s.events) (at - 1) ≡ Some kind = ap (λ (l : List Kind). slice_get l (at - 1)) along.kinds ∙ h.0 in
    let less = slice_get_within (map kind_of s.events) (at - 1) kind there in
    let one = length-map s.events kind_of in
    let place : at - 1 + 1 ≡ at = omega (arith, some) in (
      mapped (slice_get s.events (at - 1)) ∙ sym (slice_get-map kind_of s.events (at - 1)) ∙ there,
      frames plan s along at frame (subst (λ (n : ℕ). IsInFrame plan.events n frame) place h.1),
      some,
      omega (arith, less, one, some),
    )
