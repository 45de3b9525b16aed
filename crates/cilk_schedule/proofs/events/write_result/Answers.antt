use Rattle.std.proofs.Common.{◌≡◌, ◌<◌, length, sym, ap, ◌∙◌, subst}
use Rattle.std.proofs.Common.{ℤ, to_z, of_z, w64, rules}
use Rattle.std.proofs.lemmas.List.{length-set}
use Rattle.cilk_program.specs.declared.ask.Ask.TheVariants as asks
use Rattle.cilk_frames.specs.declared.cursor.Answer.TheVariants as answers
use Rattle.cilk_scheduler.specs.FrameStates.{answered}
use Rattle.cilk_schedule.proofs.Answering.{settles, ticks}
use Rattle.cilk_schedule.proofs.Coming.{result_there, some_is}
use Rattle.cilk_scheduler.proofs.Placed.{get_there}
use Rattle.cilk_types.specs.declared.event.Event.TheVariants as numbered
use Rattle.cilk_schedule.specs.Acts as does
use Rattle.cilk_schedule.specs.Acts.{Acts, MakesEvent}
use Rattle.cilk_schedule.proofs.events.write_result.Goals as goal

pub write-requires-clause-there : goal.write-requires-clause-there
write-requires-clause-there c =
    let t = result_there c.args.frames.now.items (length c.args.cells.now.items) c.args.frame c.args.word c.requires.here c.requires.comes c.index.result.now
    (get_there c.args.frames.now.items c.args.frame c.index.result.now c.index.ensures c.requires.here) in
    subst (λ n. n < length c.args.cells.now.items) (some_is t.0 c.in-Some.cell (sym t.1 ∙ c.in-Some.is)) t.2

pub returns-clause-settles : goal.returns-clause-settles
returns-clause-settles c =
    settles answers.Done c.args.frames.now.items c.write.new.frames.items (length c.args.cells.now.items) (length c.write.new.cells.items) c.args.frame (asks.Result c.args.word) tt tt c.requires.here c.write.ensures.frames
    (ap length c.write.ensures.cells ∙ length-set c.args.cells.now.items _ _)

pub returns-clause-ticks : goal.returns-clause-ticks
returns-clause-ticks c = ticks answers.Done c.args.frames.now.items c.write.new.frames.items c.args.frame c.write.ensures.frames

pub unreachable-requires : goal.unreachable-requires
unreachable-requires c =
    let t = result_there c.args.frames.now.items (length c.args.cells.now.items) c.args.frame c.args.word c.requires.here c.requires.comes c.index.result.now
    (get_there c.args.frames.now.items c.args.frame c.index.result.now c.index.ensures c.requires.here) in
    c.in_default.not-Some t.0 t.1

pub returns-clause-makes : goal.returns-clause-makes
returns-clause-makes c = λ views.
    let x : ℤ = to_z w64 (of_z w64 c.args.word) in
    let same : x ≡ c.args.word = search rules in
    let n = c.in-Some.cell in
    let f = c.args.frames.now.items in
    let l = c.args.cells.now.items in
    let m = c.write.new.cells.items in
    let at = get_there f c.args.frame c.index.result.now c.index.ensures c.requires.here in
    subst (λ v. MakesEvent f c.write.new.frames.items l m views views c.args.frame (asks.Result v) c.write.result) same (
      answered answers.Done,
      subst (λ e. Acts f l views c.args.frame (asks.Result x) (answered answers.Done) e m views) (sym c.write.ensures.event)
          (subst (λ z. Acts f l views c.args.frame (asks.Result x) (answered answers.Done) (numbered.Write n x) z views) (sym c.write.ensures.cells)
          (does.gives n x c.index.result.now at c.in-Some.is)),
      c.write.ensures.frames,
    )
