use Rattle.std.proofs.Common.{◌≡◌, ℕ, inl, inr}
use Rattle.cilk_tree.specs.declared.event_order.EventOrder.{EventOrder}
use Rattle.cilk_tree.specs.Word.{resume, word_step}
use Rattle.cilk_shared.specs.Rule.{Cont}
use Rattle.cilk_shared.proofs.laws.untaken_is_open.Goals as goal

open_at : (s : EventOrder) (D : ℕ → Type 0) (k p n : ℕ) → Cont s D k n → word_step s p ≡ resume k → D k → (D p → ⊥) → n ≡ 1
open_at s D k p n (inl a) is offered untaken = absurd (a.1 offered)
open_at s D k p n (inr (inl a)) is offered untaken = a.0
open_at s D k p n (inr (inr a)) is offered untaken = absurd (untaken (a.2 p is))

pub returns : goal.returns
returns c s t k p kept is_spawn is offered untaken = open_at s _ k p _ (kept.told.each_spawn k is_spawn) is offered untaken
