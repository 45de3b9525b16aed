-- What a line does to its cells, one cell after another.
use Rattle.std.proofs.Common.{◌≡◌, ℕ, ◌≤◌}
use Rattle.cilk_trace.specs.declared.histories.Kind.{Kind}
use Rattle.cilk_trace.specs.declared.positions.Positions.{Positions}
use Rattle.cilk_trace.specs.Accesses.{Covers}
use Rattle.cilk_trace.specs.IntervalStacks.{IntervalStack}
use Rattle.cilk_trace.specs.Pages.{part, AreMet}
use Rattle.cilk_trace.specs.Positions.{raced_in}

-- The cells from the first on, up to `place`, are done, and nothing races: by what was kept before the first one and is now.
pub record At (o : IntervalStack) (kind : Kind) (here first : ℕ) (old now : ℕ → Positions) (place : ℕ) : Type 0 where
  pub begun : first ≤ place
  pub met : AreMet o kind here (part first place) old now
  pub clean : (c : ℕ) → Covers (part first place) c → raced_in o kind (old c) ≡ 0
