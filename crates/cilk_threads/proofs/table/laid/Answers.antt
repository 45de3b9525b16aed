use Rattle.std.proofs.Common.{◌≤◌, ◌<◌, List, [], ◌∷◌, ◌++◌, length, sym, ap, ◌∙◌, subst, arith}
use Rattle.cilk_program.specs.Sources.{source}
use Rattle.cilk_shared.specs.declared.reducers.FrameReducers.{FrameReducers}
use Rattle.cilk_shared.specs.Reducers.{HasFew}
use Rattle.cilk_threads.specs.Accepted.{IsTableOf}
use Rattle.cilk_threads.proofs.Tabled.{bodies_in, laid_begin, laid_step, laid_whole, few_each, table_of}
use Rattle.cilk_threads.proofs.table.laid.Goals as goal

pub each-init : goal.each-init
each-init c =
    let p = c.args.run.now.value.program in
    let same = c.requires.program in (
      laid_begin c.args.program.now p same p.well_named (bodies_in c.args.planned.now) c.push.new.self.items c.in_ok-of_root.field-0
          (c.in_ok-push.ensures.items ∙ ap (λ (l : List FrameReducers). l ++ c.in_ok-of_root.field-0 ∷ []) c.in_ok-frames.ensures.items) c.in_ok-of_root.ensures,
      same,
    )

pub each-preserved : goal.each-preserved
each-preserved c =
    let p = c.args.run.now.value.program in
    let inv = c.each.invariant in
    let low : c.each.place < length c.args.planned.now = omega (arith, c.each-test.true) in (
      laid_step c.args.program.now p inv.1 p.well_named c.args.planned.now c.each.place c.each.frames.items c.push-in-each.new.self.items c.in_ok-of_body.field-0 _ inv.0 low
          c.in_ok-of_body.ensures c.in_ok-push-2.ensures.items,
      inv.1,
    )

pub returns-clause-table : goal.returns-clause-table
returns-clause-table c =
    let a = c.args.run.now.value in
    let all : length c.args.planned.now ≤ c.each.place = omega (arith, c.each-test.false) in
    subst (λ (l : List FrameReducers). IsTableOf a (record { frames = l })) (sym c.new.ensures)
    (table_of a c.requires.determinate a.program.well_named c.args.planned.now c.each.frames.items c.requires.frames
    (laid_whole (source a.program) c.args.planned.now c.each.place c.each.frames.items c.each.invariant.0 all))

pub returns-clause-few : goal.returns-clause-few
returns-clause-few c =
    let a = c.args.run.now.value in
    let all : length c.args.planned.now ≤ c.each.place = omega (arith, c.each-test.false) in
    subst (λ (l : List FrameReducers). HasFew (record { frames = l })) (sym c.new.ensures)
    (few_each (source a.program) (bodies_in c.args.planned.now) c.each.frames.items (laid_whole (source a.program) c.args.planned.now c.each.place c.each.frames.items c.each.invariant.0 all))
