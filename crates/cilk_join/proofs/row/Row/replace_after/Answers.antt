use Rattle.std.proofs.Common.{suc, ap, sym, ◌∙◌, arith}
use Rattle.cilk_join.specs.AwaitedRows.{RowValue, replaced, run_at, with_run}
use Rattle.cilk_join.proofs.AwaitedRows.{run_there, set_there, run_past, with_past}
use Rattle.cilk_join.proofs.row.Row.replace_after.Goals as goal

pub returns-then-place-len-clause-out : goal.returns-then-place-len-clause-out
returns-then-place-len-clause-out g c =
    c.replace.ensures.value ∙ run_there c.self.inside.first c.self.inside.awaited.items c.args.place c.index_mut.result.now c.index_mut.ensures.value (omega (arith, c.if-place-len.true))
    ∙ ap (λ (r : RowValue _ _). run_at r.run r.waits (suc c.args.place)) c.self.view_is

pub returns-then-place-len-clause-new : goal.returns-then-place-len-clause-new
returns-then-place-len-clause-new g c =
    set_there c.self.inside.first c.self.inside.awaited.items c.args.place c.index_mut.result.now c.replace.new.dest c.index_mut.ensures.value (omega (arith, c.if-place-len.true))
    ∙ ap (λ h. with_run c.self.inside.first c.self.inside.awaited.items (suc c.args.place) h) c.replace.ensures.after
    ∙ ap (λ (r : RowValue _ _). replaced r (suc c.args.place) c.args.run) c.self.view_is

pub returns-else-place-len-clause-out : goal.returns-else-place-len-clause-out
returns-else-place-len-clause-out g c =
    sym (run_past c.self.inside.first c.self.inside.awaited.items c.args.place (omega (arith, c.if-place-len.false)))
    ∙ ap (λ (r : RowValue _ _). run_at r.run r.waits (suc c.args.place)) c.self.view_is

pub returns-else-place-len-clause-new : goal.returns-else-place-len-clause-new
returns-else-place-len-clause-new g c =
    sym c.self.view_is ∙ sym (with_past c.self.inside.first c.self.inside.awaited.items c.args.place c.args.run (omega (arith, c.if-place-len.false)))
    ∙ ap (λ (r : RowValue _ _). replaced r (suc c.args.place) c.args.run) c.self.view_is
