use Rattle.std.proofs.Common.{◌≡◌, ℕ, ◌+◌, sym, ap, subst, arith}
use Rattle.cilk_tree.specs.declared.event_order.EventOrder.{EventOrder}
use Rattle.cilk_tree.specs.Word.{resume, word_step}
use Rattle.cilk_shared.specs.Rule.{Sits}
use Rattle.cilk_shared.specs.Values.{YardValue, OfYard, CanTake}
use Rattle.cilk_shared.proofs.Steps.{both, spawn_within, take_at, sits_taken}
use Rattle.cilk_shared.proofs.yard.Yard.take.Goals as goal

pub overflow_add-self-inside : goal.overflow_add-self-inside
overflow_add-self-inside c =
    let i = c.self.invariant in
    let s : EventOrder = c.self.inside.table.shared.key.event_order in
    let k : ℕ = c.args.ticket in
    let at : ℕ = c.in-Some.at in
    let same : s ≡ c.args.self.now.event_order = ap (λ (y : YardValue). y.event_order) c.self.view_is in
    let is : word_step s at ≡ resume k = subst (λ (z : EventOrder). word_step z at ≡ resume k) (sym same) ((c.resumption.ensures at).0 c.in-Some.is) in
    let low = spawn_within s i.0 k at is in
    omega (arith, low, i.5)

pub compare_exchange-found-requires : goal.compare_exchange-found-requires
compare_exchange-found-requires c =
    let i = c.self.invariant in
    let j = c.segment.invariant in
    let s : EventOrder = c.self.inside.table.shared.key.event_order in
    let k : ℕ = c.args.ticket in
    let at : ℕ = c.in-Some.at in
    let of = both OfYard c.self.view_is c.segment.view_is c.requires.yard in
    let same : s ≡ c.args.self.now.event_order = ap (λ (y : YardValue). y.event_order) c.self.view_is in
    let is : word_step s at ≡ resume k = subst (λ (z : EventOrder). word_step z at ≡ resume k) (sym same) ((c.resumption.ensures at).0 c.in-Some.is) in
    let next = both (λ y g. CanTake y g k) c.self.view_is c.segment.view_is c.requires.next at is in
    let low = spawn_within s i.0 k at is in (
      of.0,
      omega (arith, low, i.3, i.4),
      take_at s i.0 c.segment.inside.seat.me j.0 of.1 c.segment.inside.from c.segment.inside.upto j.1 k at is (i.8 k at is) next c.self.inside.table.shared.table_id.slots c.segment.inside.seat.id _ (ap (λ n. n + k) i.4),
    )

pub invariant_of-segment-2 : goal.invariant_of-segment-2
invariant_of-segment-2 c =
    let i = c.self.invariant in
    let j = c.segment.invariant in
    let s : EventOrder = c.self.inside.table.shared.key.event_order in
    let k : ℕ = c.args.ticket in
    let at : ℕ = c.in-Some.at in
    let of = both OfYard c.self.view_is c.segment.view_is c.requires.yard in
    let same : s ≡ c.args.self.now.event_order = ap (λ (y : YardValue). y.event_order) c.self.view_is in
    let is : word_step s at ≡ resume k = subst (λ (z : EventOrder). word_step z at ≡ resume k) (sym same) ((c.resumption.ensures at).0 c.in-Some.is) in
    let next = both (λ y g. CanTake y g k) c.self.view_is c.segment.view_is c.requires.next at is in
    let m = c.compare_exchange-found.new.seat.me in
    let told = sits_taken s i.0 c.segment.inside.seat.me j.0 of.1 c.segment.inside.from c.segment.inside.upto j.1 k at is (i.8 k at is) next c.self.inside.table.shared.table_id.slots _ (ap (λ n. n + k) i.4) m c.compare_exchange-found.result c.if-found-ne1.false c.compare_exchange-found.ensures.2 in
    (told.0, subst (λ n. Sits m.0.event_order m.0 n (at + 1)) (sym c.start-segment-inside.ensures) told.2)
