-- Frames hold views of the language in each state that steps of the free machine lead to.
use Rattle.std.specs.Prelude.{◌≡◌, ℤ, List, [], ◌∷◌}
use Rattle.cilk_monoid.specs.declared.kind.MonoidKind.TheVariants.{Append}
use Rattle.cilk_types.specs.Word.{IsWord}
use Rattle.cilk_program.specs.Syntax.{Source}
use Rattle.cilk_determinacy.specs.Runs.{Name, Reads, Writes, Syncs, Ends, Passes, Begins, Resumes, Creates, Updates, Sets, Values, Prints, Deed, Does, Invokes}
use Rattle.cilk_determinacy.specs.Machine.{State}
use Rattle.cilk_determinacy.specs.KeptViews.{HoldsViews}
use Rattle.cilk_determinacy.specs.Reducers.{View, kind_of}
use Rattle.cilk_determinacy.specs.Steps.{Reaches}
use Rattle.cilk_determinacy.specs.FrameEnvs.{FrameEnv}
use Rattle.cilk_determinacy.specs.Words.{HasWords, InputsAreWords}

-- a list length that is read is a word
abbrev pub LengthIsWord : Deed FrameEnv → Type 0
LengthIsWord (Does (Reads c v)) = Unit {0}
LengthIsWord (Does (Writes c v)) = Unit {0}
LengthIsWord (Does Syncs) = Unit {0}
LengthIsWord (Does (Ends v gone)) = Unit {0}
LengthIsWord (Does (Passes Begins)) = Unit {0}
LengthIsWord (Does (Passes Resumes)) = Unit {0}
LengthIsWord (Does (Passes (Creates i))) = Unit {0}
LengthIsWord (Does (Passes (Updates i v))) = Unit {0}
LengthIsWord (Does (Passes (Sets i v))) = Unit {0}
LengthIsWord (Does (Passes (Values i v))) = kind_of i ≡ Append → IsWord v
LengthIsWord (Does (Passes (Prints v))) = Unit {0}
LengthIsWord (Invokes k w) = Unit {0}

abbrev pub LengthsAreWords : List (Deed FrameEnv) → Type 0
LengthsAreWords [] = Unit {0}
LengthsAreWords (d ∷ ds) = LengthIsWord d × LengthsAreWords ds

-- whatever steps are made, each view in each frame's piece is a view of the language
abbrev pub ViewsAreHeld : Source → List ℤ → Type 0
ViewsAreHeld p inputs = HasWords p → InputsAreWords inputs → (ns : List Name) (s : State FrameEnv View) → Reaches p inputs ns s → HoldsViews s
