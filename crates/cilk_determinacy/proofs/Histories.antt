-- A history with one more deed.
use Rattle.std.proofs.Common.{◌≡◌, Bool, true, false, true≢false, cond, List, [], ◌∷◌, ◌++◌, refl, ap}
use Rattle.std.proofs.lemmas.List.{map-append}
use Rattle.cilk_determinacy.specs.Runs.{Deed}
use Rattle.cilk_determinacy.specs.FrameEnvs.{FrameEnv}
use Rattle.cilk_determinacy.specs.FrameEnvMachine.{answer_of, answers_of, is_end, has_ended, but_last}

pub but_last_more : {A : Type 0} (xs : List A) (x : A) → but_last (xs ++ x ∷ []) ≡ xs
but_last_more [] x = refl
but_last_more (y ∷ []) x = refl
but_last_more (y ∷ z ∷ xs) x = ap (λ l. y ∷ l) (but_last_more (z ∷ xs) x)

pub answers_more : (past : List (Deed FrameEnv)) (d : Deed FrameEnv) → answers_of (past ++ d ∷ []) ≡ answers_of past ++ answer_of d ∷ []
answers_more past d = map-append answer_of past (d ∷ [])

pub ended_more : (past : List (Deed FrameEnv)) (d : Deed FrameEnv) → has_ended past ≡ false → has_ended (past ++ d ∷ []) ≡ is_end d
ended_more [] d h = only (is_end d)
  where
    only : (t : Bool) → cond t true false ≡ t
    only true = refl
    only false = refl
ended_more (c ∷ past) d h = head (is_end c) (ended_more past d) h
  where
    head : (t : Bool) → (has_ended past ≡ false → has_ended (past ++ d ∷ []) ≡ is_end d) → cond t true (has_ended past) ≡ false → cond t true (has_ended (past ++ d ∷ [])) ≡ is_end d
    head true g h = absurd (true≢false h)
    head false g h = g h
