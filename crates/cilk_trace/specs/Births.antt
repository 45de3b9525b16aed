-- The reducers of a trace: where each that is alive was created.
use Rattle.std.specs.Prelude.{ℕ, Bool, nat_eq, ◌==◌, Option, Some, None, is_some, unwrap_or, if◌then◌else◌}
use Rattle.std.specs.HashMap.{get}
use Rattle.cilk_trace.specs.declared.line.Line.{Line}
use Rattle.cilk_trace.specs.declared.line.Line.TheVariants as lines
use Rattle.cilk_trace.specs.declared.births.Birth.{Birth}
use Rattle.cilk_trace.specs.declared.births.Births.{Births}

-- where a reducer was created, if it is alive
abbrev pub birth_of : Births → ℕ → Option Birth
birth_of m r = get nat_eq m.births r

abbrev pub alive_in : Births → ℕ → Bool
alive_in m r = is_some (birth_of m r)

-- what is kept of a reducer after a line at `here`, by what was kept before
abbrev pub kept_of : Line → ℕ → Birth → Option Birth → Option Birth
kept_of (lines.Create q s) r here o = if q == r then Some here else o
kept_of (lines.Retire q s) r here o = if q == r then None else o
kept_of _ r here o = o

-- Where the view was set that a line at `here` reads: for a `value` at the reducer's creation, and for other lines at `here`.
abbrev pub set_at : Line → Birth → (ℕ → Option Birth) → Birth
set_at (lines.Value r s) here births = unwrap_or (births r) here
set_at _ here births = here
