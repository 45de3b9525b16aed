-- A range that begins where a continuation is resumed resets and reads only the reducers that it
-- creates.
--
-- - `resets_none`: of ranges that adjoin, the right one resets nothing that the left one mentions;
-- - `view_ahead`: the view that an event of a range reads is that of all events before it;
-- - `begins_first`: a range up to the root's `end` begins at the run's first event.
use Rattle.std.proofs.Common.{◌≡◌, ⊎_elim, ℕ, ◌+◌, ◌-◌, ◌<◌, ◌≤◌, inr, sym, ap, ◌∙◌, subst, arith}
use mathlib.Core.Logic.{dite}
use native.Mathlib.Decide.{dec_le}
use Rattle.cilk_types.specs.declared.event.Instance.{Instance}
use Rattle.cilk_monoid.specs.Laws.{MonoidStructure}
use Rattle.cilk_monoid.specs.Ranges.{Mentions, view_after, view_of}
use Rattle.cilk_monoid.specs.Values.{ViewValue}
use Rattle.cilk_monoid.proofs.RangeLaws.{view_after-append, view_after-unmentioned}
use Rattle.cilk_hypermap.specs.Ranges.{ResetsNone}
use Rattle.cilk_shared.specs.Rule.{IsStart, Whole}
use Rattle.cilk_shared.proofs.Sets.{word_of_resume}
use Rattle.cilk_tree.specs.Reach.{Among, direct, through}
use Rattle.cilk_tree.specs.declared.event_order.EventOrder.{EventOrder}
use Rattle.cilk_tree.specs.Orders.{IsOrderly}
use Rattle.cilk_tree.specs.Word.{predecessors_of, word_step, Before, IsLine, IsWord, finish, plain, resume, WordEvent}
use Rattle.cilk_shared.specs.declared.reducers.Reducers.{Reducers}
use Rattle.cilk_shared.specs.Reducers.{events_at, events_over}
use Rattle.cilk_shared.specs.Settled.{AreSettled, Settles}
use Rattle.cilk_shared.proofs.Ranges.{mention_in, reset_in, over_both}

later : (s : EventOrder) (law : IsOrderly s) {q p : ℕ} → Before s q p → q < p
later s law {q} {p} (direct there) = law.earlier p q there
later s law {q} {p} (through {e = e} b there) = let h = later s law b in let g = law.earlier p e there in omega (arith, h, g)

module _ (s : EventOrder) (law : IsOrderly s) (r : Reducers) (settled : AreSettled s r) (b k : ℕ) (begins : word_step s b ≡ resume k) where
  low : 1 ≤ b
  low = (law.inside b (word_of_resume (word_step s b) k begins)).0

  no_spawn : (j : ℕ) → word_step s (b - 1) ≡ WordEvent.spawn → ⊥
  no_spawn j is =
      let l = low in
      let at : b - 1 + 1 ≡ b = omega (arith, l) in
      let none : plain ≡ resume k = sym (settled.begins (b - 1) is) ∙ ap (word_step s) at ∙ begins in
      cc none

  -- no event of such a range comes after the event right before the range
  ahead : (d : ℕ) → Whole s b d → {q : ℕ} → b ≤ q → q < d → Before s (b - 1) q → ⊥
  ahead d whole {q} le lt (direct there) = ⊎_elim
      (λ (h : (j : ℕ) × (word_step s q ≡ resume j)).
      let n = law.resumed q h.0 h.1 in
      no_spawn q (ap (word_step s) (n.2 (b - 1) there) ∙ n.0))
      (λ (inner : (e : ℕ) → Among e (predecessors_of s q) → b ≤ e). let l = low in let i = inner (b - 1) there in omega (arith, i, l))
      (whole q le lt)
  ahead d whole {q} le lt (through {e = e} h there) = dite (dec_le b e)
      (λ (inside : b ≤ e). ahead d whole inside (let g = law.earlier q e there in omega (arith, g, lt)) h)
      (λ out. ⊎_elim
      (λ (x : (j : ℕ) × (word_step s q ≡ resume j)). let g = later s law h in let l = low in omega (arith, g, l, out))
      (λ (inner : (e' : ℕ) → Among e' (predecessors_of s q) → b ≤ e'). out (inner e there))
      (whole q le lt))

  -- so such a range doesn't reach the root's `end`, which comes after all events
  not_last : (d : ℕ) → Whole s b d → b < d → word_step s d ≡ finish → ⊥
  not_last d whole some is =
      let line : IsLine (word_step s d) = subst IsLine (sym is) tt in
      let n = law.resumed b k begins in
      let lower = law.earlier b k n.1 in
      let first = (law.inside k (subst IsWord (sym n.0) tt)).0 in
      let end = law.finished d is in
      by (subst (Before s (b - 1)) (sym end) (law.all (b - 1) (omega (arith, lower, first)) (omega (arith, some, end, low)))) line
    where
      by : Before s (b - 1) d → IsLine (word_step s d) → ⊥
      by (direct there) line = let near = law.line d line (b - 1) there in let l = low in omega (arith, near, some, l)
      by (through {e = e} h there) line = let near = law.line d line e there in ahead d whole (omega (arith, near, some)) (omega (arith, near)) h

  pub alone : (d : ℕ) → Whole s b d → (i : Instance) (p q : ℕ) → Mentions i (events_at s r p) → Settles s r q i → p < b → b ≤ q → q < d → ⊥
  alone d whole i p q m st lt le lt' = let l = low in ahead d whole le lt' (settled.settled p (b - 1) q i m st (omega (arith, lt)) (omega (arith, le, l)))

  pub resets_none : (a d : ℕ) → Whole s b d → ResetsNone (events_over s r a b) (events_over s r b d)
  resets_none a d whole i m n =
      let p = mention_in s r i a (b - a) m in
      let q = reset_in s r i b (d - b) n in
      let p0 = p.1 in let p1 = p.2 in let q0 = q.1 in let q1 = q.2 in
      alone d whole i p.0 q.0 p.3 (inr q.3) (omega (arith, p0, p1)) q0 (omega (arith, q0, q1))

  none_ahead : (d : ℕ) → Whole s b (d + 1) → b ≤ d → (i : Instance) → Settles s r d i → Mentions i (events_over s r 1 b) → ⊥
  none_ahead d whole le i st m =
      let p = mention_in s r i 1 (b - 1) m in
      let p1 = p.2 in let l = low in
      alone (d + 1) whole i p.0 d p.3 st (omega (arith, p1, l)) le (omega arith)

pub begins_first : (s : EventOrder) (law : IsOrderly s) (r : Reducers) (settled : AreSettled s r) (a d : ℕ) → IsStart s a → Whole s a d → a < d → word_step s d ≡ finish → a ≡ 1
begins_first s law r settled a d start whole some is = ⊎_elim
    (λ (z : a ≡ 1). z)
    (λ (h : (k : ℕ) × (word_step s a ≡ resume k)). absurd (not_last s law r settled a h.0 h.1 d whole some is))
    start.1

pub view_ahead : (s : EventOrder) (law : IsOrderly s) (r : Reducers) (settled : AreSettled s r) (a d : ℕ) → IsStart s a → a ≤ d → Whole s a (d + 1) → (i : Instance) → Settles s r d i → (S : MonoidStructure ViewValue)
    → view_of S i (events_over s r a d) ≡ view_of S i (events_over s r 1 d)
view_ahead s law r settled a d start le whole i st S = ⊎_elim
    (λ (z : a ≡ 1). ap (λ (n : ℕ). view_of S i (events_over s r n d)) z)
    (λ (h : (k : ℕ) × (word_step s a ≡ resume k)).
    let none = view_after-unmentioned S i (events_over s r 1 a) S.unit (none_ahead s law r settled a h.0 h.1 d whole le i st) in
    ap (view_after S i (events_over s r a d)) (sym none)
    ∙ sym (view_after-append S i (events_over s r 1 a) (events_over s r a d) S.unit)
    ∙ ap (view_of S i) (sym (over_both s r 1 a d start.0 le)))
    start.1
