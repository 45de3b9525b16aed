-- The reducers of a small run are settled, by its positions one by one.
use Rattle.std.proofs.Common.{◌≡◌, ◌⊎◌, ⊎_elim, inl, inr, ℕ, zero, suc, ◌+◌, ◌-◌, ◌<◌, ◌≤◌, [], Option, Some, None, slice_get, refl, sym, ap, ◌∙◌, subst, arith}
use Rattle.cilk_types.specs.declared.event.Event.{Event}
use Rattle.cilk_types.specs.declared.event.Event.TheVariants as events
use Rattle.cilk_types.specs.declared.event.Instance.{Instance}
use Rattle.cilk_monoid.specs.Ranges.{Mentions, Resets}
use Rattle.cilk_tree.specs.Planned.{planned}
use Rattle.cilk_tree.specs.Reach.{Among, direct, through}
use Rattle.cilk_tree.specs.declared.event_order.EventOrder.{EventOrder}
use Rattle.cilk_tree.specs.Word.{predecessors_of, event, word_step, Before, plain, spawn, word_event}
use Rattle.cilk_shared.specs.Reducers.{events_at, frame_in, of_event}
use Rattle.cilk_shared.specs.Settled.{Settles}
use Rattle.cilk_shared.specs.Worked.{two_updates, one_sum, TwoUpdatesAreSettled}

abbrev s : EventOrder
s = planned two_updates []

-- there is no event past the last position
past : (n : ℕ) → event s (suc (suc (suc (suc (suc (suc (suc (suc (suc (suc (suc (suc (suc (suc n)))))))))))))) ≡ None
past n = let e : (suc (suc (suc (suc (suc (suc (suc (suc (suc (suc (suc (suc (suc (suc n)))))))))))))) - 1 ≡ (suc (suc (suc (suc (suc (suc (suc (suc (suc (suc (suc (suc (suc n))))))))))))) = omega arith in ap (λ (k : ℕ). slice_get two_updates k) e

settles_where : (i : Instance) (q : ℕ) → Settles s one_sum q i → (q ≡ 2) ⊎ (q ≡ 11) ⊎ (q ≡ 13)
settles_where i zero (inl h) = absurd (cc h.1)
settles_where i zero (inr h) = absurd h
settles_where i (suc zero) (inl h) = absurd (cc h.1)
settles_where i (suc zero) (inr h) = absurd h
settles_where i (suc (suc zero)) h = inl refl
settles_where i (suc (suc (suc zero))) (inl h) = absurd (cc h.1)
settles_where i (suc (suc (suc zero))) (inr h) = absurd h
settles_where i (suc (suc (suc (suc zero)))) (inl h) = absurd (cc h.1)
settles_where i (suc (suc (suc (suc zero)))) (inr h) = absurd h
settles_where i (suc (suc (suc (suc (suc zero))))) (inl h) = absurd (cc h.1)
settles_where i (suc (suc (suc (suc (suc zero))))) (inr h) = absurd (⊎_elim (λ x. x.1) (λ (x : ⊥). x) h)
settles_where i (suc (suc (suc (suc (suc (suc zero)))))) (inl h) = absurd (cc h.1)
settles_where i (suc (suc (suc (suc (suc (suc zero)))))) (inr h) = absurd h
settles_where i (suc (suc (suc (suc (suc (suc (suc zero))))))) (inl h) = absurd (cc h.1)
settles_where i (suc (suc (suc (suc (suc (suc (suc zero))))))) (inr h) = absurd h
settles_where i (suc (suc (suc (suc (suc (suc (suc (suc zero)))))))) (inl h) = absurd (cc h.1)
settles_where i (suc (suc (suc (suc (suc (suc (suc (suc zero)))))))) (inr h) = absurd h
settles_where i (suc (suc (suc (suc (suc (suc (suc (suc (suc zero))))))))) (inl h) = absurd (cc h.1)
settles_where i (suc (suc (suc (suc (suc (suc (suc (suc (suc zero))))))))) (inr h) = absurd (⊎_elim (λ x. x.1) (λ (x : ⊥). x) h)
settles_where i (suc (suc (suc (suc (suc (suc (suc (suc (suc (suc zero)))))))))) (inl h) = absurd (cc h.1)
settles_where i (suc (suc (suc (suc (suc (suc (suc (suc (suc (suc zero)))))))))) (inr h) = absurd h
settles_where i (suc (suc (suc (suc (suc (suc (suc (suc (suc (suc (suc zero))))))))))) h = inr (inl refl)
settles_where i (suc (suc (suc (suc (suc (suc (suc (suc (suc (suc (suc (suc zero)))))))))))) (inl h) = absurd (cc h.1)
settles_where i (suc (suc (suc (suc (suc (suc (suc (suc (suc (suc (suc (suc zero)))))))))))) (inr h) = absurd h
settles_where i (suc (suc (suc (suc (suc (suc (suc (suc (suc (suc (suc (suc (suc zero))))))))))))) h = inr (inr refl)
settles_where i (suc (suc (suc (suc (suc (suc (suc (suc (suc (suc (suc (suc (suc (suc n)))))))))))))) (inl h) = let no_event : None ≡ Some (events.Value i h.0) = sym (past n) ∙ h.1 in absurd (cc no_event)
settles_where i (suc (suc (suc (suc (suc (suc (suc (suc (suc (suc (suc (suc (suc (suc n)))))))))))))) (inr h) = absurd (subst (λ (o : Option Event). Resets i (of_event one_sum (frame_in two_updates (suc (suc (suc (suc (suc (suc (suc (suc (suc (suc (suc (suc (suc (suc n))))))))))))))) o)) (past n) h)

-- the reducer is first met at 2
mention_low : (i : Instance) (p : ℕ) → Mentions i (events_at s one_sum p) → 2 ≤ p
mention_low i zero h = absurd h
mention_low i (suc zero) h = absurd h
mention_low i (suc (suc n)) h = omega arith

one : {q p : ℕ} → Among q (predecessors_of s p) → Before s q p
one h = direct h

before_11 : (x : ℕ) → 2 ≤ x → x < 11 → Before s x 11
before_11 zero low lt = absurd (omega (arith, low))
before_11 (suc zero) low lt = absurd (omega (arith, low))
before_11 (suc (suc zero)) low lt = through (through (through (through (through (through (direct (record { place = 0; is = refl })) (record { place = 0; is = refl })) (record { place = 0; is = refl })) (record { place = 0; is = refl })) (record { place = 0; is = refl })) (record { place = 1; is = refl })) (record { place = 0; is = refl })
before_11 (suc (suc (suc zero))) low lt = through (through (through (through (through (direct (record { place = 0; is = refl })) (record { place = 0; is = refl })) (record { place = 0; is = refl })) (record { place = 0; is = refl })) (record { place = 1; is = refl })) (record { place = 0; is = refl })
before_11 (suc (suc (suc (suc zero)))) low lt = through (through (through (through (direct (record { place = 0; is = refl })) (record { place = 0; is = refl })) (record { place = 0; is = refl })) (record { place = 1; is = refl })) (record { place = 0; is = refl })
before_11 (suc (suc (suc (suc (suc zero))))) low lt = through (through (through (direct (record { place = 0; is = refl })) (record { place = 0; is = refl })) (record { place = 1; is = refl })) (record { place = 0; is = refl })
before_11 (suc (suc (suc (suc (suc (suc zero)))))) low lt = through (through (direct (record { place = 0; is = refl })) (record { place = 1; is = refl })) (record { place = 0; is = refl })
before_11 (suc (suc (suc (suc (suc (suc (suc zero))))))) low lt = through (direct (record { place = 1; is = refl })) (record { place = 0; is = refl })
before_11 (suc (suc (suc (suc (suc (suc (suc (suc zero)))))))) low lt = through (through (direct (record { place = 0; is = refl })) (record { place = 0; is = refl })) (record { place = 0; is = refl })
before_11 (suc (suc (suc (suc (suc (suc (suc (suc (suc zero))))))))) low lt = through (direct (record { place = 0; is = refl })) (record { place = 0; is = refl })
before_11 (suc (suc (suc (suc (suc (suc (suc (suc (suc (suc zero)))))))))) low lt = direct (record { place = 0; is = refl })
before_11 (suc (suc (suc (suc (suc (suc (suc (suc (suc (suc (suc n))))))))))) low lt = absurd (omega (arith, lt))

before_13 : (x : ℕ) → 2 ≤ x → x < 13 → Before s x 13
before_13 zero low lt = absurd (omega (arith, low))
before_13 (suc zero) low lt = absurd (omega (arith, low))
before_13 (suc (suc zero)) low lt = through (through (through (through (through (through (through (through (direct (record { place = 0; is = refl })) (record { place = 0; is = refl })) (record { place = 0; is = refl })) (record { place = 0; is = refl })) (record { place = 0; is = refl })) (record { place = 1; is = refl })) (record { place = 0; is = refl })) (record { place = 0; is = refl })) (record { place = 0; is = refl })
before_13 (suc (suc (suc zero))) low lt = through (through (through (through (through (through (through (direct (record { place = 0; is = refl })) (record { place = 0; is = refl })) (record { place = 0; is = refl })) (record { place = 0; is = refl })) (record { place = 1; is = refl })) (record { place = 0; is = refl })) (record { place = 0; is = refl })) (record { place = 0; is = refl })
before_13 (suc (suc (suc (suc zero)))) low lt = through (through (through (through (through (through (direct (record { place = 0; is = refl })) (record { place = 0; is = refl })) (record { place = 0; is = refl })) (record { place = 1; is = refl })) (record { place = 0; is = refl })) (record { place = 0; is = refl })) (record { place = 0; is = refl })
before_13 (suc (suc (suc (suc (suc zero))))) low lt = through (through (through (through (through (direct (record { place = 0; is = refl })) (record { place = 0; is = refl })) (record { place = 1; is = refl })) (record { place = 0; is = refl })) (record { place = 0; is = refl })) (record { place = 0; is = refl })
before_13 (suc (suc (suc (suc (suc (suc zero)))))) low lt = through (through (through (through (direct (record { place = 0; is = refl })) (record { place = 1; is = refl })) (record { place = 0; is = refl })) (record { place = 0; is = refl })) (record { place = 0; is = refl })
before_13 (suc (suc (suc (suc (suc (suc (suc zero))))))) low lt = through (through (through (direct (record { place = 1; is = refl })) (record { place = 0; is = refl })) (record { place = 0; is = refl })) (record { place = 0; is = refl })
before_13 (suc (suc (suc (suc (suc (suc (suc (suc zero)))))))) low lt = through (through (through (through (direct (record { place = 0; is = refl })) (record { place = 0; is = refl })) (record { place = 0; is = refl })) (record { place = 0; is = refl })) (record { place = 0; is = refl })
before_13 (suc (suc (suc (suc (suc (suc (suc (suc (suc zero))))))))) low lt = through (through (through (direct (record { place = 0; is = refl })) (record { place = 0; is = refl })) (record { place = 0; is = refl })) (record { place = 0; is = refl })
before_13 (suc (suc (suc (suc (suc (suc (suc (suc (suc (suc zero)))))))))) low lt = through (through (direct (record { place = 0; is = refl })) (record { place = 0; is = refl })) (record { place = 0; is = refl })
before_13 (suc (suc (suc (suc (suc (suc (suc (suc (suc (suc (suc zero))))))))))) low lt = through (direct (record { place = 0; is = refl })) (record { place = 0; is = refl })
before_13 (suc (suc (suc (suc (suc (suc (suc (suc (suc (suc (suc (suc zero)))))))))))) low lt = direct (record { place = 0; is = refl })
before_13 (suc (suc (suc (suc (suc (suc (suc (suc (suc (suc (suc (suc (suc n))))))))))))) low lt = absurd (omega (arith, lt))

settled_at : (p x q : ℕ) (i : Instance) → Mentions i (events_at s one_sum p) → Settles s one_sum q i → p ≤ x → x < q → Before s x q
settled_at p x q i m st le lt =
    let low = mention_low i p m in
    ⊎_elim
    (λ (e : q ≡ 2). absurd (omega (arith, low, le, lt, e)))
    (λ (e : (q ≡ 11) ⊎ (q ≡ 13)). ⊎_elim
    (λ (e : q ≡ 11). subst (λ (n : ℕ). Before s x n) (sym e) (before_11 x (omega (arith, low, le)) (omega (arith, lt, e))))
    (λ (e : q ≡ 13). subst (λ (n : ℕ). Before s x n) (sym e) (before_13 x (omega (arith, low, le)) (omega (arith, lt, e))))
    e)
    (settles_where i q st)

begins_at : (k : ℕ) → word_step s k ≡ spawn → word_step s (k + 1) ≡ plain
begins_at zero e = absurd (cc e)
begins_at (suc zero) e = absurd (cc e)
begins_at (suc (suc zero)) e = absurd (cc e)
begins_at (suc (suc (suc zero))) e = refl
begins_at (suc (suc (suc (suc zero)))) e = absurd (cc e)
begins_at (suc (suc (suc (suc (suc zero))))) e = absurd (cc e)
begins_at (suc (suc (suc (suc (suc (suc zero)))))) e = absurd (cc e)
begins_at (suc (suc (suc (suc (suc (suc (suc zero))))))) e = absurd (cc e)
begins_at (suc (suc (suc (suc (suc (suc (suc (suc zero)))))))) e = absurd (cc e)
begins_at (suc (suc (suc (suc (suc (suc (suc (suc (suc zero))))))))) e = absurd (cc e)
begins_at (suc (suc (suc (suc (suc (suc (suc (suc (suc (suc zero)))))))))) e = absurd (cc e)
begins_at (suc (suc (suc (suc (suc (suc (suc (suc (suc (suc (suc zero))))))))))) e = absurd (cc e)
begins_at (suc (suc (suc (suc (suc (suc (suc (suc (suc (suc (suc (suc zero)))))))))))) e = absurd (cc e)
begins_at (suc (suc (suc (suc (suc (suc (suc (suc (suc (suc (suc (suc (suc zero))))))))))))) e = absurd (cc e)
begins_at (suc (suc (suc (suc (suc (suc (suc (suc (suc (suc (suc (suc (suc (suc n)))))))))))))) e = let none_there : plain ≡ spawn = ap (λ (o : Option Event). word_event two_updates (suc (suc (suc (suc (suc (suc (suc (suc (suc (suc (suc (suc (suc (suc n)))))))))))))) o (predecessors_of s (suc (suc (suc (suc (suc (suc (suc (suc (suc (suc (suc (suc (suc (suc n)))))))))))))))) (sym (past n)) ∙ e in absurd (cc none_there)

pub two_updates_are_settled : TwoUpdatesAreSettled
two_updates_are_settled = record { settled = settled_at; begins = begins_at }
