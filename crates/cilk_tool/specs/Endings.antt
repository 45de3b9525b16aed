-- The results of the parts of `threads`.
use Rattle.std.specs.Prelude.{◌≡◌, ◌≢◌, ◌⊎◌, ℕ, ℤ, List, [], ◌∷◌, Option, Some, None}
use Rattle.cilk_checker.specs.Judging.{Meant}
use Rattle.cilk_commands.specs.Files.{Failures, IsHeld}
use Rattle.cilk_commands.specs.Replies.{Accepted, Refused, Reply, Text, answer_view}
use Rattle.cilk_commands.specs.Serving.{FileFails}
use Rattle.cilk_commands.specs.Shown.{CheckShows, InputFails}
use Rattle.cilk_tool.specs.Shown.{IsAcceptedRun, departed, no_pool}
use Rattle.cilk_tool.specs.declared.running.Ending.{Ending}
use Rattle.cilk_tool.specs.declared.running.Ending.TheVariants as endings
use Rattle.cilk_tool.specs.declared.running.Verdict.{Verdict}
use Rattle.cilk_tool.specs.declared.running.Verdict.TheVariants as verdicts

abbrev pub ending_view : Ending → Reply
ending_view (endings.Answer answer) = answer_view answer
ending_view endings.Workers = Refused no_pool []
ending_view (endings.Departed at) = Refused departed (at ∷ [])

-- the certificate is accepted, with its run; or the check shows why it is refused
abbrev pub IsVerdict : Text → Option Text → Failures → Failures → Meant → List ℤ → Verdict → Type 0
IsVerdict path known failed failed' m inputs (verdicts.Accepted a) = IsAcceptedRun m inputs known a
IsVerdict path known failed failed' m inputs (verdicts.Refused answer) =
    (answer_view answer ≢ Accepted) × CheckShows path known failed failed' m inputs (answer_view answer)

-- if the certificate is accepted, no read failed, and the contents of the other file are still
-- known
abbrev pub StaysBeside : Failures → Failures → Option Text → Option Text → Verdict → Type 0
StaysBeside failed failed' known known' (verdicts.Accepted a) = (failed' ≡ failed) × (known' ≡ known)
StaysBeside failed failed' known known' (verdicts.Refused answer) = Unit {0}

-- the file of other numbers can't be read; or its text is refused, and no read failed
abbrev pub AreNotGiven : (Text → Option Text) → Failures → Failures → Text → Reply → Type 0
AreNotGiven files failed failed' path r =
    FileFails failed failed' path r ⊎ ((text : Text) × IsHeld (files path) text × InputFails text r × (failed' ≡ failed))

-- the places of a refusal: one or none
abbrev pub place_of : Option ℕ → List ℕ
place_of None = []
place_of (Some at) = at ∷ []
