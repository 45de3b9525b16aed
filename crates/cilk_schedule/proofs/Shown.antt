-- The run that a machine shows.
--
-- - `shows_reached`: it is right for every reachable state that its scheduler records.
use Rattle.std.proofs.Common.{◌≡◌, ℕ, ℤ, List, length, ap, ◌∙◌}
use Rattle.cilk_lower.specs.Code.{CodeView}
use Rattle.cilk_scheduler.specs.declared.scheduler.Scheduler.{Scheduler}
use Rattle.cilk_scheduler.proofs.Histories.{does_as_asked}
use Rattle.cilk_scheduler.proofs.Parents.{names_are_kept}
use Rattle.cilk_schedule.specs.Showing.{ShowsScheduler}
use Rattle.cilk_schedule.specs.declared.showing.Shown.{Shown}
use Rattle.cilk_schedule.specs.Shown.{ShowsReached}

pub shows_reached : (code : CodeView) (inputs : List ℤ) (b : Scheduler) (globals : ℕ) (shown : Shown) → (globals ≡ (let l = code.layout in length l.openings)) → ShowsScheduler globals b shown → ShowsReached code inputs b shown
shows_reached code inputs b globals shown many h = λ p steps name s is reaches tells.
    let lays = is.lays in
    let orders = does_as_asked p inputs in
    let names = names_are_kept p inputs in
    h code p inputs name s (many ∙ ap (λ (l : List ℤ). length l) lays.openings) (names.children s (orders.reached steps s reaches) (names.reached steps s reaches)) tells
