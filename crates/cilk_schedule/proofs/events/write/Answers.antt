use Rattle.std.proofs.Common.{◌≡◌, ◌<◌, length, sym, ap, ◌∙◌, subst}
use Rattle.std.proofs.Common.{ℤ, to_z, of_z, w64, rules}
use Rattle.std.proofs.lemmas.List.{length-set}
use Rattle.cilk_program.specs.declared.ask.Ask.TheVariants as asks
use Rattle.cilk_frames.specs.declared.cursor.Answer.TheVariants as answers
use Rattle.cilk_scheduler.specs.Events.{SeesAt}
use Rattle.cilk_scheduler.specs.FrameStates.{answered}
use Rattle.cilk_schedule.proofs.Answering.{settles, ticks}
use Rattle.cilk_schedule.proofs.Coming.{cell_there}
use Rattle.cilk_types.specs.declared.event.Event.TheVariants as numbered
use Rattle.cilk_schedule.specs.Acts as does
use Rattle.cilk_schedule.specs.Acts.{Acts, MakesEvent}
use Rattle.cilk_schedule.proofs.events.write.Goals as goal

pub cell_at-cell-requires-clause-sees : goal.cell_at-cell-requires-clause-sees
cell_at-cell-requires-clause-sees c =
    let t = cell_there c.args.frames.now.items (length c.args.cells.now.items) c.args.frame c.args.place (asks.Write c.args.place c.args.word) (λ p fr h. h) c.requires.here c.requires.comes in
    (t.0, subst (λ l. SeesAt l c.args.frame t.0) (sym c.as_slice.ensures.value) t.1, t.2)

pub write-requires-clause-there : goal.write-requires-clause-there
write-requires-clause-there c =
    let t = cell_there c.args.frames.now.items (length c.args.cells.now.items) c.args.frame c.args.place (asks.Write c.args.place c.args.word) (λ p fr h. h) c.requires.here c.requires.comes in
    let is = c.cell_at-cell.ensures t.0 (subst (λ l. SeesAt l c.args.frame t.0) (sym c.as_slice.ensures.value) t.1) in
    subst (λ n. n < length c.args.cells.now.items) (sym is) t.3

pub returns-clause-settles : goal.returns-clause-settles
returns-clause-settles c =
    settles answers.Done c.args.frames.now.items c.write.new.frames.items (length c.args.cells.now.items) (length c.write.new.cells.items) c.args.frame (asks.Write c.args.place c.args.word) tt tt c.requires.here c.write.ensures.frames
    (ap length c.write.ensures.cells ∙ length-set c.args.cells.now.items _ _)

pub returns-clause-ticks : goal.returns-clause-ticks
returns-clause-ticks c = ticks answers.Done c.args.frames.now.items c.write.new.frames.items c.args.frame c.write.ensures.frames

pub returns-clause-makes : goal.returns-clause-makes
returns-clause-makes c = λ views.
    let x : ℤ = to_z w64 (of_z w64 c.args.word) in
    let same : x ≡ c.args.word = search rules in
    let n = c.cell_at-cell.result in
    let f = c.args.frames.now.items in
    let l = c.args.cells.now.items in
    let m = c.write.new.cells.items in
    subst (λ v. MakesEvent f c.write.new.frames.items l m views views c.args.frame (asks.Write c.args.place v) c.write.result) same (
      answered answers.Done,
      subst (λ e. Acts f l views c.args.frame (asks.Write c.args.place x) (answered answers.Done) e m views) (sym c.write.ensures.event)
          (subst (λ z. Acts f l views c.args.frame (asks.Write c.args.place x) (answered answers.Done) (numbered.Write n x) z views) (sym c.write.ensures.cells)
          (does.writes c.args.place n x (λ scope sees. c.cell_at-cell.ensures scope (subst (λ z. SeesAt z c.args.frame scope) (sym c.as_slice.ensures.value) sees)))),
      c.write.ensures.frames,
    )
