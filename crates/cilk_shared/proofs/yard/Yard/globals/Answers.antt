use Rattle.std.proofs.Common.{◌≡◌, ◌≤◌, ◌+◌, ℕ, ℤ, length, get_or, sym, ap, ◌∙◌, subst, arith}
use Rattle.std.specs.Int.{cast_signed, w64}
use Rattle.cilk_tree.specs.declared.event_order.EventOrder.{EventOrder}
use Rattle.cilk_tree.specs.Values.{HasValue}
use Rattle.cilk_shared.specs.Rule.{Sits}
use Rattle.cilk_shared.specs.Values.{AreLastValues, OfYard, YardValue}
use Rattle.cilk_shared.proofs.Steps.{both}
use Rattle.cilk_shared.proofs.Seats.{whole_run}
use Rattle.cilk_shared.proofs.Values.{final_value}
use Rattle.cilk_shared.proofs.yard.Yard.globals.Goals as goal

pub returns-clause-ok : goal.returns-clause-ok
returns-clause-ok c =
    let i = c.self.invariant in
    let j = c.segment.invariant in
    let of = both OfYard c.self.view_is c.segment.view_is c.requires.yard in
    let all = both (λ y g. (g.from ≡ 1) × (g.upto ≡ length y.event_order.events + 1)) c.self.view_is c.segment.view_is c.requires.all in
    let key : EventOrder = c.self.inside.table.shared.key.event_order in
    let final = c.close_with-closed.ensures.values.2 in
    let found = c.last_values-values.ensures in
    let root = i.0.root in
    let me = c.segment.inside.seat.me in
    let n : ℕ = c.segment.inside.upto in
    let sits : Sits me.0.event_order me.0 1 n = subst (λ k. Sits me.0.event_order me.0 k n) all.0 j.1 in
    let same : key ≡ c.args.self.event_order = ap (λ (y : YardValue). y.event_order) c.self.view_is in
    let few : c.args.count ≤ length key.opening = subst (λ (z : EventOrder). c.args.count ≤ length z.opening) (sym same) c.requires.count in
    let at_key : AreLastValues key c.args.count c.last_values-values.result.items = record {
      all = sym c.last_values-values.result.ok.0 ∙ found.count;
      each = λ k lt. subst (λ (v : ℤ). HasValue key k (length key.events) v)
          (sym (found.each k lt ∙ ap (λ ws. cast_signed w64 (get_or ws k 0)) (sym final.2)))
          (final_value key i.0 i.6 k _ (whole_run key i.0 me of.1 n sits all.1 (omega (arith, root.1, all.1)) c.segment.inside.seat.id final.0 final.1.0 final.1.1 k (omega (arith, lt, few))));
    } in
    subst (λ (z : EventOrder). AreLastValues z c.args.count c.last_values-values.result.items) same at_key
