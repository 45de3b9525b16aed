-- Frames hold views of the language.
use Rattle.std.specs.Prelude.{◌≡◌, ◌≤◌, ℕ, ℤ, List, [], ◌∷◌, ◌++◌, Some}
use Rattle.cilk_monoid.specs.Values.{ViewValue}
use Rattle.cilk_types.specs.Word.{IsWord}
use Rattle.cilk_program.specs.Syntax.{Source}
use Rattle.cilk_determinacy.specs.Runs.{Name, Instance, Wish, Begin, Resume, Create, Update, Set, Value, Print, Ask, Read, Write, Invoke, Sync, End, Pass, Fail, Deed}
use Rattle.cilk_determinacy.specs.Machine.{Frame, State, started, IsAsking}
use Rattle.cilk_determinacy.specs.FrameEnvMachine.{costs}
use Rattle.cilk_determinacy.specs.Reducers.{View, kind_of, monoid_of}
use Rattle.cilk_determinacy.specs.Steps.{Next, IsFirst, OneStep}
use Rattle.cilk_determinacy.specs.FrameEnvViews.{IsViewOf}
use Rattle.cilk_determinacy.specs.FrameEnvs.{FrameEnv}

-- Each view in the piece of each frame is a view of the language, of its reducer's monoid. The
-- children that a frame has started exist.
pub record HoldsViews (s : State FrameEnv View) : Type 0 where
  pub views : (n : Name) (f : Frame FrameEnv) (i : Instance) → s.frames n ≡ Some f → (x : ViewValue) × IsViewOf (kind_of i) (s.piece n i) x
  pub children : (n : Name) (f : Frame FrameEnv) (k : ℕ) → s.frames n ≡ Some f → 1 ≤ k → k ≤ started f.deeds → (g : Frame FrameEnv) × (s.frames (n ++ k ∷ []) ≡ Some g)

-- A value put into a view is a word, and a resume comes only after a child; k children were
-- started.
abbrev pub WishIsSound : Wish → ℕ → Type 0
WishIsSound Begin k = Unit {0}
WishIsSound Resume k = 1 ≤ k
WishIsSound (Create i) k = Unit {0}
WishIsSound (Update i v) k = IsWord v
WishIsSound (Set i v) k = IsWord v
WishIsSound (Value i) k = Unit {0}
WishIsSound (Print v) k = IsWord v

-- the same for the ask of a frame with this history
abbrev pub AskIsSound : Ask FrameEnv → List (Deed FrameEnv) → Type 0
AskIsSound (Read c) past = Unit {0}
AskIsSound (Write c v) past = Unit {0}
AskIsSound (Invoke k w) past = Unit {0}
AskIsSound Sync past = Unit {0}
AskIsSound (End v gone) past = Unit {0}
AskIsSound (Pass a) past = WishIsSound a (started past)
AskIsSound (Fail f) past = Unit {0}

-- frames hold views in the opening state, and after each step whose ask is sound
pub record StepsKeepViews (p : Source) (inputs : List ℤ) : Type 0 where
  pub opens : (s : State FrameEnv View) → IsFirst p inputs s → HoldsViews s
  pub keeps : (s s' : State FrameEnv View) (n : Name) → HoldsViews s → ((f : Frame FrameEnv) (a : Ask FrameEnv) → IsAsking FrameEnv View monoid_of (Next p inputs) (costs p inputs) s n f a → AskIsSound a f.deeds)
      → OneStep p inputs s n s' → HoldsViews s'
