-- The events that hints list.
use Rattle.std.specs.Prelude.{ℕ, ℤ, ◌≤◌, List, length}
use Rattle.std.specs.List.{sum_by}
use Rattle.cilk_types.specs.declared.limits.TheConstants.{MAX_EVENTS}
use Rattle.cilk_helpers.specs.declared.listing.FrameHint.{FrameHint}

-- how many events these frames list, each after its `begin`
abbrev pub events_in : List FrameHint → ℕ
events_in hints = sum_by (λ h. h.events) hints

-- The hints list no more words that frames read, and no more events, than a run may have.
pub record AreFew (told : List ℤ) (hints : List FrameHint) : Type 0 where
  pub words : length told ≤ MAX_EVENTS
  pub events : events_in hints ≤ MAX_EVENTS
