use Rattle.std.proofs.Common.{◌≡◌, ℕ, ◌+◌, ◌^◌, ◌<◌, ℤ, List, [], ◌++◌, length, map, replicate, sym, ap, ◌∙◌, subst, arith, length-append}
use Rattle.std.proofs.lemmas.List.{length-replicate, length-map}
use Rattle.cilk_tree.specs.declared.event_order.EventOrder.{EventOrder}
use Rattle.cilk_tree.specs.Word.{word}
use Rattle.cilk_tree.specs.Orders.{IsOrderly}
use Rattle.cilk_tree.specs.Values.{HasValues}
use Rattle.atomic_table.specs.Table.{opening}
use Rattle.cilk_tree.specs.Along.{IsAlong}
use Rattle.cilk_tree.specs.Resumptions.{AreResumptions}
use Rattle.cilk_tree.proofs.AlongPlans.{along_orderly, many, same_resume}
use Rattle.cilk_shared.specs.declared.key.EventOrderKey.{EventOrderKey}
use Rattle.cilk_shared.specs.declared.view.View.{View}
use Rattle.cilk_shared.specs.Rule.{view, Kept, Sits}
use Rattle.cilk_shared.specs.Values.{SpawnsResume}
use Rattle.cilk_shared.proofs.Seats.{starts, first_sits}
use Rattle.cilk_shared.proofs.yard.Yard.with_resumptions.Goals as goal

-- what an event order along a plan has in common with it
orderly : (plan s : EventOrder) → IsOrderly plan → IsAlong plan s → IsOrderly s
orderly plan s law along = along_orderly plan s law along

resumptions : (plan s : EventOrder) → IsAlong plan s → (column : List ℕ) → AreResumptions plan column → AreResumptions s column
resumptions plan s along column h k p =
    let r = same_resume plan s along p k in (λ e. r.1 ((h k p).0 e), λ w. (h k p).1 (r.0 w))

words_of : (plan s : EventOrder) → IsAlong plan s → (words : List ℕ) → words ≡ map word plan.opening ++ replicate (length plan.events + 1) 0 → words ≡ map word s.opening ++ replicate (length s.events + 1) 0
words_of plan s along words is =
    is ∙ ap (λ (values : List ℤ). map word values ++ replicate (length plan.events + 1) 0) (sym along.opening)
    ∙ ap (λ (n : ℕ). map word s.opening ++ replicate (n + 1) 0) (sym (many plan s along))

pub of_words-requires : goal.of_words-requires
of_words-requires g c =
    let plan : EventOrder = c.args.plan.now in
    let s : EventOrder = g.along c.args.input.now in
    let ws : List ℕ = c.first_words.result.now in
    let at : ws ≡ map word s.opening ++ replicate (length s.events + 1) 0 = words_of plan s c.requires.0 ws c.first_words.ensures in
    subst (λ (z : EventOrder). Kept z (opening ws [] (view z 1 2))) (sym c.of-key.ensures) (starts s (orderly plan s c.laws.ensures.order c.requires.0) ws at)

pub invariant_of-yard : goal.invariant_of-yard
invariant_of-yard g c =
    let t = c.in_ok-table.ensures in
    let plan : EventOrder = c.args.plan.now in
    let s : EventOrder = g.along c.args.input.now in
    let law = orderly plan s c.laws.ensures.order c.requires.0 in
    let ws : List ℕ = c.first_words.result.now in
    let at : ws ≡ map word s.opening ++ replicate (length s.events + 1) 0 = words_of plan s c.requires.0 ws c.first_words.ensures in
    let all = ap length at ∙ length-append (map word s.opening) (replicate (length s.events + 1) 0) in
    let one = length-map s.opening word in
    let two = length-replicate {A = ℕ} (length s.events + 1) 0 in
    let wide : c.in_ok-table.table.shared.table_id.words ≡ length s.opening + (length s.events + 1) = omega (arith, t.0, all, one, two) in
    let Goal : EventOrder → Type 0 = λ k. IsOrderly k × (0 < c.in_ok-table.table.shared.table_id.words) × (c.in_ok-table.table.shared.table_id.slots ≡ 0) × (c.in_ok-table.table.shared.table_id.words ≡ length k.opening + (length k.events + 1)) × (length c.opening-cells.result.now ≡ length k.opening) × (length c.opening-cells.result.now + length k.events + 1 < 2 ^ 34) × HasValues k × AreResumptions k c.args.column.items × SpawnsResume k in
    let count : length c.opening-cells.result.now ≡ length s.opening = ap length (c.opening-cells.ensures ∙ sym c.requires.0.opening) in
    let h : Goal s = (law, omega (arith, wide), t.1, wide, count, omega (arith, law.small, count), c.requires.1.0, resumptions plan s c.requires.0 c.args.column.items c.requires.1.1.1, c.requires.1.1.0) in
    let key : c.in_ok-table.table.shared.key.event_order ≡ s = ap (λ (k : EventOrderKey). k.event_order) t.5 ∙ c.of-key.ensures in
    subst Goal (sym key) h

pub invariant_of-segment : goal.invariant_of-segment
invariant_of-segment g c =
    let t = c.in_ok-table.ensures in
    let plan : EventOrder = c.args.plan.now in
    let s : EventOrder = g.along c.args.input.now in
    let first : Sits s (view s 1 2) 1 2 = first_sits s (orderly plan s c.laws.ensures.order c.requires.0) c.requires.1.0 in
    let at : c.of-key.result.event_order ≡ s = c.of-key.ensures in
    let mine : Sits c.of-key.result.event_order (view c.of-key.result.event_order 1 2) 1 2 = subst (λ (z : EventOrder). Sits z (view z 1 2) 1 2) (sym at) first in
    (ap (λ m. m.1) t.4, subst (λ (v : View). Sits v.event_order v 1 2) (sym (ap (λ m. m.0) t.4)) mine)
