use Rattle.std.proofs.Common.{◌≡◌, ◌+◌, ℕ, List, [], ◌∷◌, ◌++◌, length, ap, arith, length-append}
use Rattle.cilk_workers.proofs.Keys.{locks_more}
use Rattle.cilk_threads.proofs.seeds.locks.Goals as goal

one_longer : {A : Type 0} (xs ys : List A) (x : A) (n : ℕ) → ys ≡ xs ++ x ∷ [] → length xs ≡ n → length ys ≡ n + 1
one_longer {A} xs ys x n is count = let e = ap (λ (zs : List A). length zs) is in let long = length-append xs (x ∷ []) in omega (arith, e, long, count)

pub each-preserved : goal.each-preserved
each-preserved g c = (
  locks_more _ _ _ _ _ _ _ _ _ c.each.invariant.0 c.each.invariant.1 c.in_ok-shelf_lock.ensures c.new-first.ensures.place c.in_ok-push.ensures.items c.in_ok-push-2.ensures.items,
  one_longer _ _ _ _ c.in_ok-push.ensures.items c.each.invariant.1,
)
