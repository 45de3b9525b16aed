-- The fault that the code finds in place of an event is the free machine's.
--
-- - `nothing_begun`: where no frame begins, frames and cells stay within their limits;
-- - `refused_is`: the law.
use Rattle.std.proofs.Common.{◌≡◌, ◌+◌, ◌≤◌, ℕ, suc, nat_lt, false, cond, ℤ, List, Option, Some, None, refl, sym, ap, arith}
use Rattle.std.proofs.lemmas.Bool.{le-ltb}
use Rattle.cilk_types.specs.declared.fault.Fault.{Fault}
use Rattle.cilk_types.specs.declared.fault.Fault.TheVariants.{TooManyEvents, TooManyFrames, TooManyCells}
use Rattle.cilk_types.specs.declared.limits.TheConstants.{MAX_CELLS, MAX_EVENTS, MAX_FRAMES, MAX_TICKS}
use Rattle.cilk_program.specs.declared.ask.Ask.{Ask}
use Rattle.cilk_program.specs.declared.ask.Ask.TheVariants as asks
use Rattle.cilk_program.specs.Syntax.{Source}
use Rattle.cilk_lower.specs.declared.layout.Layout.{Layout}
use Rattle.cilk_determinacy.specs.Costs.{TickTotal, EventTotal, FrameTotal, CellTotal, fault_of}
use Rattle.cilk_determinacy.specs.Machine.{started}
use Rattle.cilk_determinacy.specs.FrameEnvMachine.{costs, named_ask}
use Rattle.cilk_scheduler.specs.Asking.{RefusalsAreFaults, refusal}

nothing_begun : (frames cells : ℕ) → frames ≤ MAX_FRAMES → cells ≤ MAX_CELLS → cond (nat_lt MAX_FRAMES (frames + 0)) (Some TooManyFrames) (cond (nat_lt MAX_CELLS (cells + 0)) (Some TooManyCells) None) ≡ None
nothing_begun frames cells low low' =
    let f : nat_lt MAX_FRAMES (frames + 0) ≡ false = le-ltb MAX_FRAMES (frames + 0) (omega (arith, low)) in
    let g : nat_lt MAX_CELLS (cells + 0) ≡ false = le-ltb MAX_CELLS (cells + 0) (omega (arith, low')) in
    rw (f, g) refl

pub refused_is : (p : Source) (inputs : List ℤ) (l : Layout) → RefusalsAreFaults p inputs l
refused_is p inputs l w deeds k totals ticks e low low' cells = rw e (by k)
  where
    quiet : cond (nat_lt MAX_EVENTS (totals EventTotal + 1)) (Some TooManyEvents) None
        ≡ cond (nat_lt MAX_EVENTS (totals EventTotal + 1)) (Some TooManyEvents) (cond (nat_lt MAX_FRAMES (totals FrameTotal + 0)) (Some TooManyFrames) (cond (nat_lt MAX_CELLS (totals CellTotal + 0)) (Some TooManyCells) None))
    quiet = ap (λ o. cond (nat_lt MAX_EVENTS (totals EventTotal + 1)) (Some TooManyEvents) o) (sym (nothing_begun (totals FrameTotal) (totals CellTotal) low low'))

    by : (k : Ask) → refusal (let C = costs p inputs in totals TickTotal + C.ticks w deeds) (totals EventTotal) (totals FrameTotal) (totals CellTotal) l k ≡ fault_of (costs p inputs) totals w deeds (named_ask p w (suc (started deeds)) k)
    by asks.Begin = ap (λ (o : Option Fault). cond (let C = costs p inputs in nat_lt MAX_TICKS (totals TickTotal + C.ticks w deeds)) (Some TooManyEvents) o) quiet
    by (asks.Read x) = ap (λ (o : Option Fault). cond (let C = costs p inputs in nat_lt MAX_TICKS (totals TickTotal + C.ticks w deeds)) (Some TooManyEvents) o) quiet
    by (asks.Write x v) = ap (λ (o : Option Fault). cond (let C = costs p inputs in nat_lt MAX_TICKS (totals TickTotal + C.ticks w deeds)) (Some TooManyEvents) o) quiet
    by (asks.Create r) = ap (λ (o : Option Fault). cond (let C = costs p inputs in nat_lt MAX_TICKS (totals TickTotal + C.ticks w deeds)) (Some TooManyEvents) o) quiet
    by (asks.Update r v) = ap (λ (o : Option Fault). cond (let C = costs p inputs in nat_lt MAX_TICKS (totals TickTotal + C.ticks w deeds)) (Some TooManyEvents) o) quiet
    by (asks.Set r v) = ap (λ (o : Option Fault). cond (let C = costs p inputs in nat_lt MAX_TICKS (totals TickTotal + C.ticks w deeds)) (Some TooManyEvents) o) quiet
    by (asks.Value r) = ap (λ (o : Option Fault). cond (let C = costs p inputs in nat_lt MAX_TICKS (totals TickTotal + C.ticks w deeds)) (Some TooManyEvents) o) quiet
    by (asks.Print v) = ap (λ (o : Option Fault). cond (let C = costs p inputs in nat_lt MAX_TICKS (totals TickTotal + C.ticks w deeds)) (Some TooManyEvents) o) quiet
    by (asks.Invoke how callee) =
        ap (λ n. (λ (o : Option Fault). cond (let C = costs p inputs in nat_lt MAX_TICKS (totals TickTotal + C.ticks w deeds)) (Some TooManyEvents) o) (cond (nat_lt MAX_EVENTS (totals EventTotal + 1)) (Some TooManyEvents) (cond (nat_lt MAX_FRAMES (totals FrameTotal + 1)) (Some TooManyFrames) (cond (nat_lt MAX_CELLS (totals CellTotal + n)) (Some TooManyCells) None)))) (cells callee)
    by asks.Resume = ap (λ (o : Option Fault). cond (let C = costs p inputs in nat_lt MAX_TICKS (totals TickTotal + C.ticks w deeds)) (Some TooManyEvents) o) quiet
    by asks.Sync = ap (λ (o : Option Fault). cond (let C = costs p inputs in nat_lt MAX_TICKS (totals TickTotal + C.ticks w deeds)) (Some TooManyEvents) o) quiet
    by (asks.Result v) = ap (λ (o : Option Fault). cond (let C = costs p inputs in nat_lt MAX_TICKS (totals TickTotal + C.ticks w deeds)) (Some TooManyEvents) o) quiet
    by (asks.End v) = ap (λ (o : Option Fault). cond (let C = costs p inputs in nat_lt MAX_TICKS (totals TickTotal + C.ticks w deeds)) (Some TooManyEvents) o) quiet
    by (asks.Fault f) = refl
