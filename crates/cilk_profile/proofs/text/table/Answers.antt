use Rattle.std.proofs.Common.{◌++◌, ap, ◌∙◌}
use Rattle.cilk_profile.specs.Table.{totals_text}
use Rattle.cilk_profile.proofs.text.table.Goals as goal

pub returns : goal.returns
returns c = (
  c.in_ok-ticks.ticks,
  c.as_bytes.result.now,
  c.in_ok-extend_from_slice.ensures.items
      ∙ ap (λ t. t ++ c.as_bytes.result.now)
      (c.in_ok-text.ensures ∙ ap (λ m. totals_text m c.args.totals.now c.in_ok-ticks.ticks) c.mark_in.ensures),
)
