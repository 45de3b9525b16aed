-- The columns of a plan: `one_list`: the ends of blocks make one list.
use Rattle.std.proofs.Common.{◌≡◌, ℕ, zero, suc, ◌+◌, ◌-◌, ◌<◌, List, [], ◌∷◌, get_or, Option, Some, None, slice_get, refl, sym, ap, ◌∙◌, subst, arith}
use Rattle.std.proofs.lemmas.Option.{slice_get_within, slice_get-get_or}
use mathlib.Core.Logic.{dite}
use native.Mathlib.Decide.{dec_lt}
use Rattle.cilk_tree.specs.declared.event_order.EventOrder.{EventOrder}
use Rattle.cilk_tree.specs.Columns.{IsSpawnOf, AreBlockEnds}

-- ---- one list

-- if each of two blocks has a spawn before each spawn of the other, neither has a spawn
no_circle : (s : EventOrder) (q q' : ℕ) → ((k' : ℕ) → IsSpawnOf s q' k' → (k : ℕ) × (k < k') × IsSpawnOf s q k) → ((k' : ℕ) → IsSpawnOf s q k' → (k : ℕ) × (k < k') × IsSpawnOf s q' k)
    → (n k : ℕ) → k < n → IsSpawnOf s q' k → ⊥
no_circle s q q' one two zero k less h = omega (arith, less)
no_circle s q q' one two (suc n) k less h =
    let a = one k h in
    let b = two a.0 a.2 in
    no_circle s q q' one two n b.0 (let l = a.1 in let m = b.1 in omega (arith, less, l, m)) b.2

-- an entry of the first list, after entries that are the same
same_entry : (s : EventOrder) (xs ys : List ℕ) → AreBlockEnds s xs → AreBlockEnds s ys → (i q : ℕ) → ((j : ℕ) → j < i → slice_get xs j ≡ slice_get ys j)
    → slice_get xs i ≡ Some q → slice_get ys i ≡ Some q
same_entry s xs ys are are' i q before is = dite (dec_lt j i)
    (λ (less : j < i). absurd (let same = are.once j i q (before j less ∙ there) is in omega (arith, less, same)))
    (λ past. dite (dec_lt i j)
    (λ (less : i < j). beyond less)
    (λ past'. subst (λ (x : ℕ). slice_get ys x ≡ Some q) (let same : j ≡ i = omega (arith, past, past') in same) there))
  where
    found : (b : ℕ) × (slice_get ys b ≡ Some q)
    found = (are'.all q).0 ((are.all q).1 (i, is))

    j : ℕ
    j = found.0

    there : slice_get ys j ≡ Some q
    there = found.1

    q' : ℕ
    q' = get_or ys i 0

    beyond : i < j → slice_get ys i ≡ Some q
    beyond less = dite (dec_lt m i)
        (λ (low : m < i). absurd (let same = are'.once m i q' (sym (before m low) ∙ back.1) here in omega (arith, low, same)))
        (λ past. dite (dec_lt i m)
        (λ (high : i < m). absurd (no_circle s q q' (λ k w. are.order i m q q' k high is back.1 w) (λ k w. are'.order i j q' q k less here there w)
        (spawned.0 + 1) spawned.0 (omega arith) spawned.1))
        (λ past'.
        let at : m ≡ i = omega (arith, past, past') in
        let two : Some q ≡ Some q' = sym is ∙ (ap (slice_get xs) (sym at) ∙ back.1) in
        let same : q ≡ q' = cc two in
        here ∙ ap Some (sym same)))
      where
        here : slice_get ys i ≡ Some q'
        here = let within = slice_get_within ys j q there in slice_get-get_or ys i 0 (omega (arith, within, less))

        spawned : (k : ℕ) × IsSpawnOf s q' k
        spawned = (are'.all q').1 (i, here)

        back : (b : ℕ) × (slice_get xs b ≡ Some q')
        back = (are.all q').0 spawned

        m : ℕ
        m = back.0

entry_by : (s : EventOrder) (xs ys : List ℕ) → AreBlockEnds s xs → AreBlockEnds s ys → (i : ℕ) → ((j : ℕ) → j < i → slice_get xs j ≡ slice_get ys j) → (o o' : Option ℕ)
    → slice_get xs i ≡ o → slice_get ys i ≡ o' → slice_get xs i ≡ slice_get ys i
entry_by s xs ys are are' i before (Some q) o' is is' = is ∙ sym (same_entry s xs ys are are' i q before is)
entry_by s xs ys are are' i before None (Some q) is is' = same_entry s ys xs are' are i q (λ j low. sym (before j low)) is' ∙ sym is'
entry_by s xs ys are are' i before None None is is' = is ∙ sym is'

same_entries : (s : EventOrder) (xs ys : List ℕ) → AreBlockEnds s xs → AreBlockEnds s ys → (n i : ℕ) → i < n → slice_get xs i ≡ slice_get ys i
same_entries s xs ys are are' zero i less = absurd (omega (arith, less))
same_entries s xs ys are are' (suc n) i less =
    entry_by s xs ys are are' i (λ j low. same_entries s xs ys are are' n j (omega (arith, less, low))) (slice_get xs i) (slice_get ys i) refl refl

same_lists : (xs ys : List ℕ) → ((i : ℕ) → slice_get xs i ≡ slice_get ys i) → xs ≡ ys
same_lists [] [] same = refl
same_lists [] (y ∷ ys) same = absurd (let c : None ≡ Some y = same 0 in cc c)
same_lists (x ∷ xs) [] same = absurd (let c : Some x ≡ None = same 0 in cc c)
same_lists (x ∷ xs) (y ∷ ys) same =
    let head : Some x ≡ Some y = same 0 in
    let first : x ≡ y = cc head in
    let rest : xs ≡ ys = same_lists xs ys (λ i. same (suc i)) in
    cc

pub one_list : (s : EventOrder) (xs ys : List ℕ) → AreBlockEnds s xs → AreBlockEnds s ys → xs ≡ ys
one_list s xs ys are are' = same_lists xs ys (λ i. same_entries s xs ys are are' (i + 1) i (omega arith))
