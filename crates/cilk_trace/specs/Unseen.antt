-- The lines of a trace at which code runs whose accesses it lacks.
use Rattle.std.specs.Prelude.{ℕ, ◌+◌, List, [], ◌∷◌}
use Rattle.cilk_trace.specs.declared.line.Line.{Line}
use Rattle.cilk_trace.specs.declared.line.Line.TheVariants as lines

abbrev pub unseen_by : Line → ℕ
unseen_by (lines.Unseen s) = 1
unseen_by _ = 0

-- how many lines `unseen` a trace has
abbrev pub unseen_in : List Line → ℕ
unseen_in [] = 0
unseen_in (l ∷ ls) = unseen_by l + unseen_in ls
