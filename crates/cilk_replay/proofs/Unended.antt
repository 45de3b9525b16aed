-- A frame that was answered has not ended: `ended_more`, `not_end`.
use Rattle.std.proofs.Common.{◌≡◌, ℕ, ℤ, Bool, true, false, cond, List, [], ◌∷◌, ◌++◌, None, Some, refl, ap, ap₂}
use Rattle.cilk_program.specs.declared.ask.Ask as language
use Rattle.cilk_program.specs.declared.ask.Ask.TheVariants as asks
use Rattle.cilk_program.specs.Syntax.{Source}
use Rattle.cilk_frames.specs.Following.{HasAnswer}
use Rattle.cilk_replay.specs.Points.{asked_for}
use Rattle.cilk_determinacy.specs.Runs.{Ask, End, Instance, Deed, Does, Ends}
use Rattle.cilk_determinacy.specs.FrameEnvMachine.{has_ended, is_end, named_ask}
use Rattle.cilk_determinacy.specs.FrameEnvs.{FrameEnv}

pub ended_more : (past : List (Deed FrameEnv)) (d : Deed FrameEnv) → has_ended past ≡ false → is_end d ≡ false → has_ended (past ++ d ∷ []) ≡ false
ended_more [] d h e = ap (λ (b : Bool). cond b true false) e
ended_more (x ∷ past) d h e = let q = parts (is_end x) (has_ended past) h in ap₂ (λ (b c : Bool). cond b true c) q.0 (ended_more past d q.1 e)
  where
    parts : (b c : Bool) → cond b true c ≡ false → (b ≡ false) × (c ≡ false)
    parts true c h = absurd (cc h)
    parts false c h = (refl, h)

pub unended : (b : Bool) (a a' : Ask FrameEnv) → cond b None (Some a) ≡ Some a' → (b ≡ false) × (a ≡ a')
unended true a a' h = absurd (cc h)
unended false a a' h = (refl, cc h)

module _ (p : Source) (w : FrameEnv) where
  no_end : (n : ℕ) (k : language.Ask) (v : ℤ) (gone : List Instance) → named_ask p w n k ≡ End v gone → HasAnswer k → ⊥
  no_end n (asks.End x) v gone q h = h
  no_end n (asks.Fault f) v gone q h = h
  no_end n k v gone q h = cc q

  pub not_end : (n : ℕ) (k : language.Ask) (d : Deed FrameEnv) → named_ask p w n k ≡ asked_for d → HasAnswer k → is_end d ≡ false
  not_end n k (Does (Ends v gone)) q h = absurd (no_end n k v gone q h)
  not_end n k d q h = refl
