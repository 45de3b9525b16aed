-- The number of children that a history has started.
--
-- - `started_does`, `started_invokes`: with one more deed.
use Rattle.std.proofs.Common.{◌≡◌, suc, List, [], ◌∷◌, ◌++◌, refl, ap}
use Rattle.cilk_types.specs.declared.invocation.Invocation.{Invocation}
use Rattle.cilk_determinacy.specs.Runs.{Event, Deed, Does, Invokes}
use Rattle.cilk_determinacy.specs.Machine.{started}

module _ {W : Type 0} where
  pub started_does : (past : List (Deed W)) (e : Event) → started (past ++ Does e ∷ []) ≡ started past
  started_does [] e = refl
  started_does (Does c ∷ past) e = started_does past e
  started_does (Invokes k w ∷ past) e = ap suc (started_does past e)

  pub started_invokes : (past : List (Deed W)) (k : Invocation) (w : W) → started (past ++ Invokes k w ∷ []) ≡ suc (started past)
  started_invokes [] k w = refl
  started_invokes (Does c ∷ past) k w = started_invokes past k w
  started_invokes (Invokes j v ∷ past) k w = ap suc (started_invokes past k w)
