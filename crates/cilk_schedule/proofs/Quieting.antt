-- Quiet changes of one frame.
--
-- - `moved`, `marked`, `robs`: where it is, its block has passed, the continuation beside it was
--   stolen;
-- - `joins`: what lies at its block.
use Rattle.std.proofs.Common.{◌≡◌, ◌<◌, ℕ, List, length, slice_index_or, slice_set, refl, sym, ◌∙◌, subst}
use Rattle.cilk_frames.specs.declared.activation.Activation.{Activation}
use Rattle.cilk_scheduler.specs.FrameStates.{changed, moved_to, passed, robbed}
use Rattle.cilk_scheduler.specs.declared.frame_state.FrameState.{FrameState}
use Rattle.cilk_scheduler.specs.declared.frame_state.Status.{Status}
use Rattle.cilk_scheduler.proofs.Changing.{changed_at, changed_known}
use Rattle.cilk_scheduler.proofs.Placed.{get_there}
use Rattle.cilk_schedule.specs.Sound.{IsQuiet}
use Rattle.cilk_schedule.proofs.Sounds.{quiet}

pub moved : (t : Status) (frames frames' : List (Activation FrameState)) (k : ℕ) → k < length frames → frames' ≡ changed (moved_to t) frames k → IsQuiet frames frames'
moved t frames frames' k there is = subst (λ l. IsQuiet frames l) (sym is) (quiet (moved_to t) (record {
  parent = λ x. refl;
  last = λ x. refl;
  children = λ x. refl;
  strands = λ x. refl;
  took = λ x. refl;
  counted = λ x h. h;
  due = λ x. refl;
  cursor = λ x. refl;
}) (λ x. refl) frames k there)

pub marked : (frames frames' : List (Activation FrameState)) (k : ℕ) → k < length frames → frames' ≡ changed passed frames k → IsQuiet frames frames'
marked frames frames' k there is = subst (λ l. IsQuiet frames l) (sym is) (quiet passed (record {
  parent = λ x. refl;
  last = λ x. refl;
  children = λ x. refl;
  strands = λ x. refl;
  took = λ x. refl;
  counted = λ x h. h;
  due = λ x. refl;
  cursor = λ x. refl;
}) (λ x. refl) frames k there)

pub robs : (frames frames' : List (Activation FrameState)) (k : ℕ) → k < length frames → frames' ≡ changed robbed frames k → IsQuiet frames frames'
robs frames frames' k there is = subst (λ l. IsQuiet frames l) (sym is) (quiet robbed (record {
  parent = λ x. refl;
  last = λ x. refl;
  children = λ x. refl;
  strands = λ x. refl;
  took = λ x. refl;
  counted = λ x h. h;
  due = λ x. refl;
  cursor = λ x. refl;
}) (λ x. refl) frames k there)

pub joins : (y : FrameState) (frames frames' : List (Activation FrameState)) (k : ℕ) (a : Activation FrameState) → a ≡ slice_index_or frames k a → k < length frames → (let x = a.cursor in y ≡ record x { join = y.join })
    → frames' ≡ slice_set frames k (record a { cursor = y }) → IsQuiet frames frames'
joins y frames frames' k a is there same now =
    let f = λ (x : FrameState). record x { join = y.join } in
    let e = now ∙ changed_at (λ (x : FrameState). y) frames k a is there ∙ changed_known (λ (x : FrameState). y) f frames k a (get_there frames k a is there) same in
    subst (λ l. IsQuiet frames l) (sym e) (quiet f (record {
      parent = λ x. refl;
      last = λ x. refl;
      children = λ x. refl;
      strands = λ x. refl;
      took = λ x. refl;
      counted = λ x h. h;
      due = λ x. refl;
      cursor = λ x. refl;
    }) (λ x. refl) frames k there)
