-- The choices of a script's steps.
use Rattle.std.specs.Prelude.{◌≡◌, ◌-◌, ℕ, nat_lt, if◌then◌else◌, List, [], ◌∷◌, ◌++◌, replicate, Option, Some, None}
use Rattle.cilk_parser.specs.declared.script_choices.Choices.{Choices}
use Rattle.cilk_parser.specs.declared.script_choices.Next.{Next}
use Rattle.cilk_parser.specs.declared.script_choices.Next.TheVariants as nexts
use Rattle.cilk_parser.specs.declared.script.LineOrder.{LineOrder}
use Rattle.cilk_parser.specs.declared.script.LineOrder.TheVariants.{Run, Steal, All}
use Rattle.cilk_parser.specs.declared.script.Step.{Step}

-- the number of choices of an order; those of `all` don't count
abbrev pub count_of : LineOrder → ℕ
count_of (Run w n) = n
count_of (Steal w k) = 1
count_of All = 0

-- the choices of an order, one by one
abbrev pub choices_of : LineOrder → List Next
choices_of (Run w n) = replicate n (nexts.Run w)
choices_of (Steal w k) = nexts.Steal w k ∷ []
choices_of All = nexts.Rounds ∷ []

-- The choices of steps. At most `room` are allowed, and the first line with too many ends the
-- script.
abbrev pub choices_within : ℕ → List Step → List Next
choices_within room [] = []
choices_within room (s ∷ ss) =
    if nat_lt room (count_of s.order) then nexts.Past s.line ∷ [] else choices_of s.order ++ choices_within (room - count_of s.order) ss

-- the remaining choices: those of the current `run`, then those of the steps after it
abbrev pub choices_left : Choices → List Next
choices_left c = replicate c.left (nexts.Run c.worker) ++ choices_within c.room c.steps.now

-- `next` is the first of the choices `before`, and `after` has the others
abbrev pub IsNextChoice : List Next → Option Next → List Next → Type 0
IsNextChoice before None after = (before ≡ []) × (after ≡ [])
IsNextChoice before (Some next) after = before ≡ next ∷ after
