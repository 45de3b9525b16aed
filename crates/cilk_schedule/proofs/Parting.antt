-- A worker leaves its frame, which ends.
--
-- - `altered_length`, `seeks_length`: the number of workers stays the same;
-- - `leaves_by`, `arrives_by`: from what the functions change, by numbers.
use Rattle.std.proofs.Common.{◌≡◌, ◌<◌, ℕ, zero, suc, Bool, true, cond, ℤ, List, [], ◌∷◌, length, slice_get, slice_index_or, slice_set, Some, refl, ap, ◌∙◌, subst}
use Rattle.cilk_lower.specs.Code.{CodeView}
use Rattle.cilk_frames.specs.declared.activation.Activation.{Activation}
use Rattle.cilk_hypermap.specs.declared.hypermap.Hypermap.{Hypermap}
use Rattle.cilk_scheduler.specs.EndParts.{Brings, NotOffered, OfferedBy, Seeks}
use Rattle.cilk_frames.specs.Leaving.{outcome_of}
use Rattle.cilk_scheduler.specs.Parts.{freed, working}
use Rattle.cilk_scheduler.specs.FrameStates.{changed, moved_to, passed}
use Rattle.cilk_scheduler.specs.Workers.{altered}
use Rattle.cilk_scheduler.specs.declared.scheduler.Scheduler.{Scheduler}
use Rattle.cilk_scheduler.specs.declared.frame_state.FrameState.{FrameState}
use Rattle.cilk_scheduler.specs.declared.frame_state.Status.{Status}
use Rattle.cilk_scheduler.specs.declared.frame_state.Status.TheVariants.{Held}
use Rattle.cilk_scheduler.specs.declared.frame_state.Worker.{Worker}
use Rattle.cilk_scheduler.proofs.Placed.{get_there}
use Rattle.cilk_scheduler.proofs.Viewing.{viewing_at}
use Rattle.cilk_schedule.specs.Ends.{BringsPiece, PartsTo, LeavesRun, MayBring}
use Rattle.cilk_schedule.proofs.Workers.{same_at}

pub altered_length : (f : Worker → Worker) (ws : List Worker) (w : ℕ) → length (altered f ws w) ≡ length ws
altered_length f [] w = refl
altered_length f (u ∷ ws) zero = refl
altered_length f (u ∷ ws) (suc w) = ap suc (altered_length f ws w)

pub seeks_length : (k : ℕ) (status : Status) (workers after : List Worker) (before offered : ℕ) → Seeks k status workers after before offered → length after ≡ length workers
seeks_length k status workers after before offered (NotOffered none is offered_is) = ap length is
seeks_length k status workers after before offered (OfferedBy v owner without found e at same gone is offered_is) = ap length is ∙ altered_length (λ _. without) workers v

pub leaves_by : (code : CodeView) (b b' : Scheduler) (w : ℕ) (v : ℤ) (m : Worker) (left : Hypermap) → (let l = b.workers in m ≡ slice_index_or l.items w m) → (let l = b.workers in w < length l.items)
    → (let c = b.cells in b'.outcome ≡ Some (outcome_of code.layout c.items m.views v)) → (let f = b.frames in let g = b'.frames in g.items ≡ f.items)
    → (let l = b.workers in let n = b'.workers in n.items ≡ altered freed (slice_set l.items w (record m { views = left })) w) → b'.offered ≡ b.offered → PartsTo code b b' w 0 v
leaves_by code b b' w v m left is low outcome frames workers offered = λ u finds at.
    let l = b.workers in
    let c = b.cells in
    let same : m ≡ u = same_at l.items w m u (get_there l.items w m is low) at in
    LeavesRun refl left (subst (λ (z : Worker). b'.outcome ≡ Some (outcome_of code.layout c.items z.views v)) same outcome) frames (workers ∙ ap (λ ws. altered freed ws w) (viewing_at left l.items w m is low)) offered

pub arrives_by : (code : CodeView) (b b' : Scheduler) (w k : ℕ) (v : ℤ) (a above : Activation FrameState) (m : Worker) (joined : FrameState) (left : Hypermap) (passes : Bool) (brought : List (Activation FrameState)) → 0 < k → (let f = b.frames in slice_get f.items k ≡ Some a)
    → (let x = a.cursor in x.stolen ≡ true) → (let x = a.cursor in let f = b.frames in slice_get f.items x.parent ≡ Some above) → (let l = b.workers in m ≡ slice_index_or l.items w m) → (let l = b.workers in w < length l.items)
    → (let x = a.cursor in MayBring above.cursor x.ordinal → Brings above.cursor x.ordinal m.views passes joined left) → (let x = a.cursor in let f = b.frames in brought ≡ changed (λ _. joined) f.items x.parent)
    → (let x = a.cursor in let g = b'.frames in g.items ≡ cond passes (changed (moved_to (Held w)) (changed passed brought x.parent) x.parent) brought)
    → (let x = a.cursor in let l = b.workers in let n = b'.workers in n.items ≡ altered (cond passes (working x.parent) freed) (slice_set l.items w (record m { views = left })) w) → b'.offered ≡ b.offered → b'.outcome ≡ b.outcome → PartsTo code b b' w k v
arrives_by code b b' w k v a above m joined left passes brought child here stolen up is low brings brought_is frames workers offered outcome = λ u finds at.
    let l = b.workers in
    let x = a.cursor in
    let same : m ≡ u = same_at l.items w m u (get_there l.items w m is low) at in
    let q = finds child a above here up in
    BringsPiece child a above joined left passes brought here stolen up (subst (λ (z : Worker). Brings above.cursor x.ordinal z.views passes joined left) same (brings (q.1 stolen))) brought_is frames
    (workers ∙ ap (λ ws. altered (cond passes (working x.parent) freed) ws w) (viewing_at left l.items w m is low)) offered outcome
