-- The measures of a program's run.
use Rattle.std.specs.Prelude.{◌≡◌, ℤ, List, length}
use Rattle.cilk_types.specs.declared.event.Event.{Event}
use Rattle.cilk_types.specs.declared.outcome.Outcome.{Outcome}
use Rattle.cilk_program.specs.Syntax.{Source}
use Rattle.cilk_serial.specs.Ran.{Ran}
use Rattle.cilk_tree.specs.Shape.{Shape, Spells}
use Rattle.cilk_tree.specs.Tree.{tree}
use Rattle.cilk_tree.specs.Span.{IsSpan}
use Rattle.cilk_cert_maker.specs.Frames.{frames_of, owners_of}
use Rattle.cilk_profile.specs.Burdened.{IsBurdenedSpan}
use Rattle.cilk_profile.specs.declared.burdened.TheConstants.{BURDEN}
use Rattle.cilk_profile.specs.declared.totals.Totals.{Totals}

-- Totals of a list of events: work is its length, and span the length of its longest chain (Frigo,
-- Leiserson and Randall 1998, section 1). The burdened span is the weight of its heaviest path (He,
-- Leiserson and Leiserson 2010). Frames and strands are counted.
pub record AreTotals (events : List Event) (t : Totals) : Type 0 where
  pub work : t.work ≡ length events
  pub span : (s : Shape) → Spells s events → IsSpan (tree s) events t.span
  pub burdened : (s : Shape) → Spells s events → IsBurdenedSpan BURDEN (tree s) t.burdened_span
  pub frames : (s : Shape) → Spells s events → t.frames ≡ length (frames_of s)
  pub strands : (s : Shape) → Spells s events → t.strands ≡ length (owners_of s)

-- The totals and events of the program's serial run on its input.
pub record AreMeasures (p : Source) (inputs : List ℤ) (t : Totals) (events : List Event) : Type 0 where
  pub outcome : Outcome
  pub ran : Ran p inputs outcome events
  pub totals : AreTotals events t
