-- The frames that helpers replay.
use Rattle.std.specs.Prelude.{◌≡◌, ℕ, ◌+◌, ◌-◌, ◌%◌, ◌<◌, ℤ, List, [], ◌∷◌, All, IfOk, Result, length, map}
use Rattle.std.specs.List.{range_with_len, sum_by}
use Rattle.std.specs.declared.alloc.AllocError.{AllocError}
use Rattle.std.specs.Prelude.{Vec}
use Rattle.std.specs.declared.alloc.Global.{Global}
use Rattle.cilk_types.specs.declared.limits.TheConstants.{MAX_TICKS}
use Rattle.cilk_program.specs.Inside.{CalleeIsFit}
use Rattle.cilk_program.specs.Syntax.{Source}
use Rattle.cilk_lower.specs.Code.{CodeView}
use Rattle.cilk_helpers.specs.Asked.{NoteView}
use Rattle.cilk_helpers.specs.Whole.{IsKept}
use Rattle.cilk_helpers.specs.declared.replayed.Due.{Due}
use Rattle.cilk_helpers.specs.declared.replayed.Replayed.{Replayed}
use Rattle.cilk_helpers.specs.declared.rounds.Share.{Share}

-- the notes are those of a frame of its callee
abbrev pub IsReplayed : CodeView → Source → List ℤ → Replayed → Type 0
IsReplayed code p inputs r = IsKept code p inputs r.replay

-- the ticks that a replay cost up to its last note, which stands first
abbrev pub ticks_of : List NoteView → ℕ
ticks_of [] = 0
ticks_of (last ∷ before) = MAX_TICKS - last.left

-- the ticks of these replays
abbrev pub ticks_in : List Replayed → ℕ
ticks_in list = sum_by (λ r. r.ticks) list

-- the program has the callee of the frame
abbrev pub IsFitting : Source → Due → Type 0
IsFitting p d = CalleeIsFit p d.callee

-- the program has the callees of a share
abbrev pub AreFitting : Source → Share → Type 0
AreFitting p s = All (IsFitting p) s.frames.items

-- the helpers, from 1, take turns by the frames' numbers, from 1: this frame is this helper's
abbrev pub IsTurnOf : ℕ → ℕ → Due → Type 0
IsTurnOf helpers helper d = 0 < d.frame → 1 + (d.frame - 1) % helpers ≡ helper

-- the frames of a share are its helper's
abbrev pub IsOwn : ℕ → Share → Type 0
IsOwn helpers s = All (IsTurnOf helpers s.helper) s.frames.items

-- the shares are those of helpers 1, 2, 3 and so on
abbrev pub AreNumbered : List Share → Type 0
AreNumbered shares = map (λ s. s.helper) shares ≡ map (λ k. k + 1) (range_with_len 0 (length shares))

-- the result of a helper, unless memory runs out
abbrev pub AreReplayed : CodeView → Source → List ℤ → Result (Vec Replayed Global) AllocError → Type 0
AreReplayed code p inputs r = IfOk r (λ list. All (IsReplayed code p inputs) list.items)
