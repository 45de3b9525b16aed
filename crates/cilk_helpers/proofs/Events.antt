-- The events that hints list.
--
-- - `replaced`: a changed hint; `unchanged`: one with as many events.
use Rattle.std.proofs.Common.{◌≡◌, ℕ, ◌+◌, ◌<◌, List, get_or, length, set, arith}
use Rattle.std.proofs.lemmas.List.Sums.{sum_by-set}
use Rattle.cilk_helpers.specs.Listed.{events_in}
use Rattle.cilk_helpers.specs.declared.listing.FrameHint.{FrameHint}

abbrev events_of : FrameHint → ℕ
events_of h = h.events

replaced : (xs : List FrameHint) (i : ℕ) (y d : FrameHint) → i < length xs → events_in (set xs i y) + (get_or xs i d).events ≡ events_in xs + y.events
replaced xs i y d lt = sum_by-set events_of xs i y d lt

pub unchanged : (xs : List FrameHint) (i : ℕ) (y d : FrameHint) → i < length xs → y.events ≡ (get_or xs i d).events → events_in (set xs i y) ≡ events_in xs
unchanged xs i y d lt e = let r = replaced xs i y d lt in omega (arith, r, e)
