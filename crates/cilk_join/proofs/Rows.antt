-- A row where a block passes has a run.
use Rattle.std.proofs.Common.{◌≡◌, ℕ, nat_eq, Bool, true, false, List, [], ◌∷◌, Option, Some, None, refl}
use Rattle.cilk_join.specs.Products.{Product, nothing, times}
use Rattle.cilk_join.specs.Joins.{JoinView, arrived_at, arrived_row, passes}
use Rattle.cilk_join.specs.Rows as rows
use Rattle.cilk_join.specs.Rows.{Wait, is_empty, wait, placed}

module _ {V : Type 0} (unit : V) (times : V → V → V) where
  -- a row without awaited keys has a run, once a piece has come
  some_step : (run : Option V) (w : Wait V) (ws : List (Wait V)) (k : ℕ) (x : V) (b : Bool) → nat_eq w.key k ≡ b → (let r = placed unit times run (w ∷ ws) k x in r.waits ≡ []) → (p : V) × (let r = placed unit times run (w ∷ ws) k x in r.run ≡ Some p)
  some_step run w ws k x true e h = rw e (rows.between unit times run x w.run, refl)
  some_step run w ws k x false e h = let q : wait w.key (let r = placed unit times w.run ws k x in r.run) ∷ (let r = placed unit times w.run ws k x in r.waits) ≡ [] = rw e at h in let f : ⊥ = cc in absurd f

  pub placed_some : (run : Option V) (ws : List (Wait V)) (k : ℕ) (x : V) → (let r = placed unit times run ws k x in r.waits ≡ []) → (p : V) × (let r = placed unit times run ws k x in r.run ≡ Some p)
  placed_some run [] k x h = (rows.between unit times run x None, refl)
  placed_some run (w ∷ ws) k x h = some_step run w ws k x (nat_eq w.key k) refl h

-- ---- a whole arrival

empty_from : {A : Type 0} (xs : List A) → is_empty xs ≡ true → xs ≡ []
empty_from [] h = refl
empty_from (x ∷ xs) h = let f : ⊥ = cc in absurd f

-- where it passes there is a run
pub passes_some : (j : JoinView) (k : ℕ) (last : Bool) (x : Product) → passes (arrived_at j k last x) ≡ true → (p : Product) × (let a = arrived_at j k last x in let r = a.row in r.run ≡ Some p)
passes_some j k last x h = by (let a = arrived_at j k last x in a.closed) refl
  where
    by : (b : Bool) → (let a = arrived_at j k last x in a.closed ≡ b) → (p : Product) × (let a = arrived_at j k last x in let r = a.row in r.run ≡ Some p)
    by true q = let e : (let r = arrived_row j k x in is_empty r.waits ≡ true) = rw q at h in let r = j.row in placed_some nothing times r.run r.waits k x (empty_from (let s = arrived_row j k x in s.waits) e)
    by false q = let e : false ≡ true = rw q at h in let f : ⊥ = cc in absurd f
