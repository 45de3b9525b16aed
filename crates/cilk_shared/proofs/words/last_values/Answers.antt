use Rattle.std.proofs.Common.{rules, slice_index_or, pos, ap, ◌∙◌, arith}
use Rattle.std.specs.Int.{cast_signed, cast_unsigned, w64}
use Rattle.std.proofs.lemmas.Int.{of_z-to_z}
use Rattle.std.specs.Slots.{slots_items}
use Rattle.cilk_shared.proofs.Values.{copied}
use Rattle.cilk_shared.proofs.words.last_values.Goals as goal

pub loop-cell-preserved : goal.loop-cell-preserved
loop-cell-preserved c =
    let i = c.loop-cell.invariant in
    let p = c.push_reserved.ensures in (
      omega (arith, p.len, i.0),
      omega (arith, p.capacity, i.1),
      λ k lt. ap (λ l. slice_index_or l k (pos 0)) p.items ∙ copied c.loop-cell.values.items (slots_items c.args.closed.now.words) c.loop-cell.cell c.word-word.result _ (search rules) i.2 c.word-word.ensures (ap (λ x. cast_signed w64 (cast_unsigned w64 x)) c.cast_signed.ensures ∙ ap (cast_signed w64) (of_z-to_z w64 c.word-word.result c.word-word.type_inv)) k lt,
    )
