use Rattle.std.proofs.Common.{◌≡◌, ◌-◌, leb, slice_get, Some, sym, ap, ap₂, ◌∙◌, arith, rules}
use Rattle.std.proofs.lemmas.List.Sorted.{IsPartitionPoint-from_clause}
use Rattle.cilk_frames.specs.declared.activation.Activation.{Activation}
use Rattle.cilk_scheduler.specs.declared.frame_state.FrameState.{FrameState}
use Rattle.cilk_schedule.specs.declared.naming.CellName.TheVariants as cells
use Rattle.cilk_schedule.proofs.Owners.{parted, past_is}
use Rattle.cilk_scheduler.proofs.Placed.{there_at}
use Rattle.cilk_schedule.proofs.naming.named_cell.Goals as goal

pub returns-in-Some : goal.returns-in-Some
returns-in-Some c = (
  λ low. let f = c.if-cell-globals.false in absurd (omega (arith, low, f)),
  λ k x far owner.
      let frames = c.args.frames.now in
      let point = IsPartitionPoint-from_clause (λ y. leb y.base c.args.cell) _ _ c.partition_point-past.ensures.partitioned (parted frames k x c.args.cell owner) (λ a r q z. search rules) in
      let past = past_is frames k x c.args.cell owner c.partition_point-past.result point c.partition_point-past.ensures.bound in
      let e = c.saturating_sub-frame.ensures in
      let frame_is : c.saturating_sub-frame.result ≡ k = omega (arith, e, past) in
      let at = c.in-Some.ensures.lookup in
      let here = there_at frames c.saturating_sub-frame.result c.in-Some.owner.now at.0 at.1 in
      let q : Some c.in-Some.owner.now ≡ Some x = sym here ∙ ap (λ i. slice_get frames i) frame_is ∙ owner.here in
      let same : c.in-Some.owner.now ≡ x = cc in
      ap₂ (λ n m. cells.Own n m) frame_is (c.saturating_sub.ensures ∙ ap (λ (a : Activation FrameState). c.args.cell - a.base) same),
)
