-- The totals of a run as lines of text: a name, a separator, a number and LF.
use Rattle.std.specs.Prelude.{ℕ, ◌*◌, ◌/◌, ◌%◌, List, [], ◌∷◌, ◌++◌, Option, Some, None, codes, decimal}
use Rattle.cilk_profile.specs.declared.totals.Totals.{Totals}

-- `NAME MARK NUMBER`
abbrev pub total_line : List ℕ → ℕ → ℕ → List ℕ
total_line name mark number = name ++ mark ∷ decimal number ++ 10 ∷ []

-- a line for a known number, and nothing for an unknown one
abbrev pub known_line : List ℕ → ℕ → Option ℕ → List ℕ
known_line name mark None = []
known_line name mark (Some number) = total_line name mark number

-- work over a span in hundredths, rounded down
abbrev pub hundredths : ℕ → ℕ → ℕ
hundredths work span = work * 100 / span

-- a number of hundredths, with a point before the last two digits
abbrev pub decimal_point : ℕ → List ℕ
decimal_point n = decimal (n / 100) ++ 46 ∷ decimal (n / 10 % 10) ++ decimal (n % 10)

-- a parallelism: work over a span, with two digits after the point
abbrev pub parallelism_line : List ℕ → ℕ → ℕ → ℕ → List ℕ
parallelism_line name mark work span = name ++ mark ∷ decimal_point (hundredths work span) ++ 10 ∷ []

-- The totals, one to a line. The work is the number of events. Ticks aren't among the totals: they
-- are shown if they are known.
abbrev pub totals_text : ℕ → Totals → Option ℕ → List ℕ
totals_text mark t ticks =
    total_line (codes "events") mark t.work ++ known_line (codes "ticks") mark ticks ++ total_line (codes "frames") mark t.frames
    ++ total_line (codes "strands") mark t.strands ++ total_line (codes "work") mark t.work ++ total_line (codes "span") mark t.span
    ++ parallelism_line (codes "parallelism") mark t.work t.span ++ total_line (codes "burdened span") mark t.burdened_span
    ++ parallelism_line (codes "burdened parallelism") mark t.work t.burdened_span
