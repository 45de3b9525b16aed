use Rattle.std.proofs.Common.{◌<◌, length, sym, subst, refl}
use Rattle.cilk_program.specs.declared.ask.Ask.TheVariants as asks
use Rattle.cilk_frames.specs.declared.cursor.Answer.TheVariants as answers
use Rattle.cilk_scheduler.specs.Events.{SeesAt}
use Rattle.cilk_scheduler.specs.FrameStates.{answered}
use Rattle.cilk_schedule.proofs.Answering.{settles, ticks}
use Rattle.cilk_schedule.proofs.Coming.{cell_there}
use Rattle.cilk_schedule.specs.Acts as does
use Rattle.cilk_schedule.specs.Acts.{Acts, MakesEvent}
use Rattle.cilk_schedule.proofs.events.read.Goals as goal

pub cell_at-cell-requires-clause-sees : goal.cell_at-cell-requires-clause-sees
cell_at-cell-requires-clause-sees c =
    let t = cell_there c.args.frames.now.items (length c.args.cells.now) c.args.frame c.args.place (asks.Read c.args.place) (λ p fr h. h) c.requires.here c.requires.comes in
    (t.0, subst (λ l. SeesAt l c.args.frame t.0) (sym c.as_slice.ensures.value) t.1, t.2)

pub read-requires-clause-there : goal.read-requires-clause-there
read-requires-clause-there c =
    let t = cell_there c.args.frames.now.items (length c.args.cells.now) c.args.frame c.args.place (asks.Read c.args.place) (λ p fr h. h) c.requires.here c.requires.comes in
    let is = c.cell_at-cell.ensures t.0 (subst (λ l. SeesAt l c.args.frame t.0) (sym c.as_slice.ensures.value) t.1) in
    subst (λ n. n < length c.args.cells.now) (sym is) t.3

pub returns-clause-settles : goal.returns-clause-settles
returns-clause-settles c =
    let is = c.read.ensures in
    settles (answers.Value is.0) c.args.frames.now.items c.read.new.frames.items (length c.args.cells.now) (length c.args.cells.now) c.args.frame (asks.Read c.args.place) tt tt c.requires.here is.3 refl

pub returns-clause-ticks : goal.returns-clause-ticks
returns-clause-ticks c = let is = c.read.ensures in ticks (answers.Value is.0) c.args.frames.now.items c.read.new.frames.items c.args.frame is.3

pub returns-clause-makes : goal.returns-clause-makes
returns-clause-makes c = λ views.
    let is = c.read.ensures in
    let n = c.cell_at-cell.result in
    let f = c.args.frames.now.items in
    let l = c.args.cells.now in (
      answered (answers.Value is.0),
      subst (λ e. Acts f l views c.args.frame (asks.Read c.args.place) (answered (answers.Value is.0)) e l views) (sym is.2)
          (does.reads c.args.place n is.0 (λ scope sees. c.cell_at-cell.ensures scope (subst (λ z. SeesAt z c.args.frame scope) (sym c.as_slice.ensures.value) sees)) is.1),
      is.3,
    )
