-- No list view has more elements than events were made, so each length that a frame reads is a
-- word.
use Rattle.std.specs.Prelude.{◌≡◌, ◌≤◌, ℤ, List, Some}
use Rattle.cilk_types.specs.declared.limits.TheConstants.{MAX_EVENTS}
use Rattle.cilk_monoid.specs.Kinds.{size_of}
use Rattle.cilk_program.specs.Syntax.{Source}
use Rattle.cilk_determinacy.specs.Costs.{EventTotal}
use Rattle.cilk_determinacy.specs.Runs.{Name, Instance}
use Rattle.cilk_determinacy.specs.Machine.{Frame, State}
use Rattle.cilk_determinacy.specs.Reducers.{View, kind_of, value_of}
use Rattle.cilk_determinacy.specs.Steps.{Reaches}
use Rattle.cilk_determinacy.specs.FrameEnvs.{FrameEnv}
use Rattle.cilk_determinacy.specs.Held.{LengthsAreWords}
use Rattle.cilk_determinacy.specs.Words.{HasWords, InputsAreWords}

-- the number of events is within its limit, each view in a piece has at most as many elements, and
-- each list length that a frame has read is a word
pub record HasShortLists (s : State FrameEnv View) : Type 0 where
  pub events : s.totals EventTotal ≤ MAX_EVENTS
  pub sizes : (n : Name) (f : Frame FrameEnv) (i : Instance) → s.frames n ≡ Some f → size_of (value_of (kind_of i) (s.piece n i)) ≤ s.totals EventTotal
  pub lengths : (n : Name) (f : Frame FrameEnv) → s.frames n ≡ Some f → LengthsAreWords f.deeds

-- this holds whatever steps are made
abbrev pub ListsAreShort : Source → List ℤ → Type 0
ListsAreShort p inputs = HasWords p → InputsAreWords inputs → (ns : List Name) (s : State FrameEnv View) → Reaches p inputs ns s → HasShortLists s
