-- A frame in a stretch of events: its cursor and its ticks are local values.
--
-- - `frame_of`: the frame with these; `as_it_was`: as the stretch begins;
-- - `Between`: its event is made, and it hasn't continued with the answer; `runs`, `fits`: it can; `continued`: it does.
use Rattle.std.proofs.Common.{◌≡◌, ◌<◌, ◌≤◌, ◌-◌, ◌+◌, ℕ, ℤ, List, [], ◌∷◌, ◌++◌, refl, sym, ap, ap₂, ◌∙◌, subst, arith}
use Rattle.cilk_types.specs.declared.limits.TheConstants.{MAX_TICKS}
use Rattle.cilk_program.specs.declared.ask.Ask.{Ask}
use Rattle.cilk_program.specs.declared.ask.Callee.{Callee}
use Rattle.cilk_program.specs.Syntax.{Source}
use Rattle.cilk_frames.specs.Cursor.{CursorView}
use Rattle.cilk_frames.specs.Following.{Fits, Runs, Stands, word_in}
use Rattle.cilk_frames.specs.declared.cursor.Answer.{Answer}
use Rattle.cilk_replay.specs.Asking.{HasAsked, IsAnswered}
use Rattle.cilk_replay.specs.Replays.{ReplayValue}
use Rattle.cilk_replay.specs.Standing.{Stand}
use Rattle.cilk_replay.specs.declared.replay_frame.ReplayFrame.{ReplayFrame}
use Rattle.cilk_replay.specs.declared.sight.Sight.{Sight}
use Rattle.cilk_replay.proofs.Along as along
use Rattle.cilk_replay.proofs.Along.{event_order_of}

abbrev pub frame_with : CursorView → ℕ → Sight → ReplayFrame
frame_with c took s = record { cursor = c; took = took; sight = s }

abbrev pub frame_of : CursorView → ℕ → Sight → ReplayFrame
frame_of c left s = frame_with c (MAX_TICKS - left) s

back : (m a : ℕ) → a ≤ m → m - (m - a) ≡ a
back m a less = omega (arith, less)

pub small : (u : ReplayValue) (at : ℕ) (k : Ask) (l : ReplayFrame) (below : List ReplayFrame) → Stand u at k l below → l.took ≤ MAX_TICKS
small u at k l below S = let t = S.2 in let A = t.asks in A.asked.small

pub as_it_was : (l : ReplayFrame) (c : CursorView) (left : ℕ) → l.took ≤ MAX_TICKS → c ≡ l.cursor → left ≡ MAX_TICKS - l.took → frame_of c left l.sight ≡ l
as_it_was l c left few same is =
    ap₂ (λ (x : CursorView) (n : ℕ). frame_with x n l.sight) same (ap (λ (n : ℕ). MAX_TICKS - n) is ∙ back MAX_TICKS l.took few)

pub fewer : (n a b : ℕ) → a < n → b ≡ a + 1 → n + 1 - b < n + 1 - a
fewer n a b less is = omega (arith, less, is)

-- since the frame was at `from`, and requested `first`
pub record Between (u : ReplayValue) (from : ℕ) (first : Ask) (was : ReplayFrame) (upto : ℕ) (k : Ask) (l : ReplayFrame) (a : Answer) : Type 0 where
  pub at : ℕ
  pub place : upto ≡ at + 1
  pub answered : IsAnswered (event_order_of u) at a
  pub stands : (below : List ReplayFrame) → Stand u from first was below → Stand u at k l below

module _ (u : ReplayValue) (from : ℕ) (first : Ask) (was : ReplayFrame) (upto : ℕ) (k : Ask) (c : CursorView) (left : ℕ) (s : Sight) (a : Answer) (b : Between u from first was upto k (frame_of c left s) a) where
  pub runs : (below : List ReplayFrame) → Stand u from first was below → Runs u.code u.inputs c
  runs below S = along.runs u u refl b.at k (frame_of c left s) below (b.stands below S) a b.answered

  pub fits : (below : List ReplayFrame) → Stand u from first was below → Fits c.owed a
  fits below S = along.owes_fit u u refl b.at k (frame_of c left s) below (b.stands below S) a b.answered

  pub continued : (k' : Ask) (c' : CursorView) (left' : ℕ) → ((p : Source) (callee : Callee) (history : List ℤ) (t : Sight) → Stands u.code u.inputs p callee c history (MAX_TICKS - left) → HasAsked u.code u.inputs p callee (history ++ word_in a ∷ []) k' (frame_of c' left' t))
      → (below : List ReplayFrame) → Stand u from first was below → Stand u upto k' (frame_of c' left' s) below
  continued k' c' left' asks below S =
      subst (λ (n : ℕ). Stand u n k' (frame_of c' left' s) below) (sym b.place)
      (along.answered u u refl b.at k (frame_of c left s) below (b.stands below S) a k' (frame_of c' left' s) b.answered refl (λ p callee history stands. asks p callee history s stands))
