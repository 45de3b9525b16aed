use Rattle.std.proofs.Common.{◌≡◌, ◌+◌, ℤ, length, refl, sym, ap, ◌∙◌, subst, rules, to_z, of_z, w64}
use Rattle.cilk_program.specs.declared.ask.Ask.TheVariants as asks
use Rattle.cilk_frames.specs.AskSlot.{in_full}
use Rattle.cilk_schedule.specs.Sound.{HasCome, Settles}
use Rattle.cilk_schedule.proofs.Turns.{comes, settles_made, strand_settles, strand_ticks}
use Rattle.cilk_types.specs.declared.event.Event.TheVariants as events
use Rattle.cilk_scheduler.specs.FrameStates.{stranded}
use Rattle.cilk_schedule.specs.Acts as does
use Rattle.cilk_schedule.specs.Acts.{Acts, MakesEvent}
use Rattle.cilk_schedule.proofs.Stepping.{touched_still}
use Rattle.cilk_schedule.proofs.stretch.make_alone.Goals as goal

pub write-requires-clause-comes : goal.write-requires-clause-comes
write-requires-clause-comes c =
    let q = c.requires.turn in
    let w : ℤ = to_z w64 (of_z w64 c.in-Write.word) in
    let same : w ≡ c.in-Write.word = search rules in
    subst (λ k. HasCome c.args.scheduler.now.frames.items (length c.args.scheduler.now.cells.items) c.args.place k) (c.in-Some.ensures ∙ ap in_full c.in-Write.is ∙ ap (λ v. asks.Write c.in-Write.cell v) (sym same)) (comes c.args._code.now q.0 c.args.scheduler.now c.args.place q.1)

pub write_result-requires-clause-comes : goal.write_result-requires-clause-comes
write_result-requires-clause-comes c =
    let q = c.requires.turn in
    let w : ℤ = to_z w64 (of_z w64 c.in-Result.word) in
    let same : w ≡ c.in-Result.word = search rules in
    subst (λ k. HasCome c.args.scheduler.now.frames.items (length c.args.scheduler.now.cells.items) c.args.place k) (c.in-Some.ensures ∙ ap in_full c.in-Result.is ∙ ap (λ v. asks.Result v) (sym same)) (comes c.args._code.now q.0 c.args.scheduler.now c.args.place q.1)

pub returns-in-Begin-clause-made : goal.returns-in-Begin-clause-made
returns-in-Begin-clause-made c =
    let is : c.args.scheduler.now.asked ≡ asks.Begin = c.in-Some.ensures ∙ ap in_full c.in-Begin.is in (
      λ inputs t. let a = t.asked in settles_made c.args._code.now inputs c.args.scheduler.now c.args.place t asks.Begin is _ (strand_settles _ _ _ c.args.place asks.Begin tt tt a.here c.begin_strand.ensures) refl refl,
      strand_ticks _ _ c.args.place c.begin_strand.ensures,
    )

pub returns-in-Resume-clause-made : goal.returns-in-Resume-clause-made
returns-in-Resume-clause-made c =
    let is : c.args.scheduler.now.asked ≡ asks.Resume = c.in-Some.ensures ∙ ap in_full c.in-Resume.is in (
      λ inputs t. let a = t.asked in settles_made c.args._code.now inputs c.args.scheduler.now c.args.place t asks.Resume is _ (strand_settles _ _ _ c.args.place asks.Resume tt tt a.here c.begin_strand-in-Resume.ensures) refl refl,
      strand_ticks _ _ c.args.place c.begin_strand-in-Resume.ensures,
    )

pub returns-in-Read-clause-made : goal.returns-in-Read-clause-made
returns-in-Read-clause-made c =
    let is : c.args.scheduler.now.asked ≡ asks.Read c.in-Read.cell = c.in-Some.ensures ∙ ap in_full c.in-Read.is in (
      λ inputs t. settles_made c.args._code.now inputs c.args.scheduler.now c.args.place t (asks.Read c.in-Read.cell) is (record c.args.scheduler.now { frames = c.read.new.frames }) (subst (λ l. Settles c.args.scheduler.now.frames.items c.read.new.frames.items (length l) (length l) c.args.place (asks.Read c.in-Read.cell)) c.as_slice-cells.ensures.value c.read.ensures.settles) refl refl,
      c.read.ensures.ticks,
    )

pub returns-in-Write-clause-made : goal.returns-in-Write-clause-made
returns-in-Write-clause-made c =
    let w : ℤ = to_z w64 (of_z w64 c.in-Write.word) in
    let same : w ≡ c.in-Write.word = search rules in
    let is : c.args.scheduler.now.asked ≡ asks.Write c.in-Write.cell w = c.in-Some.ensures ∙ ap in_full c.in-Write.is ∙ ap (λ v. asks.Write c.in-Write.cell v) (sym same) in (
      λ inputs t. settles_made c.args._code.now inputs c.args.scheduler.now c.args.place t (asks.Write c.in-Write.cell w) is (record c.args.scheduler.now { frames = c.write.new.frames; cells = c.write.new.cells }) c.write.ensures.settles refl refl,
      c.write.ensures.ticks,
    )

pub returns-in-Result-clause-made : goal.returns-in-Result-clause-made
returns-in-Result-clause-made c =
    let w : ℤ = to_z w64 (of_z w64 c.in-Result.word) in
    let same : w ≡ c.in-Result.word = search rules in
    let is : c.args.scheduler.now.asked ≡ asks.Result w = c.in-Some.ensures ∙ ap in_full c.in-Result.is ∙ ap (λ v. asks.Result v) (sym same) in (
      λ inputs t. settles_made c.args._code.now inputs c.args.scheduler.now c.args.place t (asks.Result w) is (record c.args.scheduler.now { frames = c.write_result.new.frames; cells = c.write_result.new.cells }) c.write_result.ensures.settles refl refl,
      c.write_result.ensures.ticks,
    )

pub returns-in-Begin-clause-touched : goal.returns-in-Begin-clause-touched
returns-in-Begin-clause-touched c =
    let is : c.args.scheduler.now.asked ≡ asks.Begin = c.in-Some.ensures ∙ ap in_full c.in-Begin.is in
    let b = c.args.scheduler.now in
    let new = record b { frames = c.begin_strand.new.frames } in
    λ w low. touched_still b new w c.args.place (events.Begin (c.args.place + 1)) low refl refl refl
    (λ views. (stranded, subst (λ k. Acts b.frames.items b.cells.items views c.args.place k stranded (events.Begin (c.args.place + 1)) b.cells.items views) (sym is) does.begins, c.begin_strand.ensures))

pub returns-in-Resume-clause-touched : goal.returns-in-Resume-clause-touched
returns-in-Resume-clause-touched c =
    let is : c.args.scheduler.now.asked ≡ asks.Resume = c.in-Some.ensures ∙ ap in_full c.in-Resume.is in
    let b = c.args.scheduler.now in
    let new = record b { frames = c.begin_strand-in-Resume.new.frames } in
    λ w low. touched_still b new w c.args.place (events.Resume (c.args.place + 1)) low refl refl refl
    (λ views. (stranded, subst (λ k. Acts b.frames.items b.cells.items views c.args.place k stranded (events.Resume (c.args.place + 1)) b.cells.items views) (sym is) does.resumes, c.begin_strand-in-Resume.ensures))

pub returns-in-Read-clause-touched : goal.returns-in-Read-clause-touched
returns-in-Read-clause-touched c =
    let is : c.args.scheduler.now.asked ≡ asks.Read c.in-Read.cell = c.in-Some.ensures ∙ ap in_full c.in-Read.is in
    let b = c.args.scheduler.now in
    let new = record b { frames = c.read.new.frames } in
    λ w low. touched_still b new w c.args.place c.read.result low refl refl refl
    (λ views. subst (λ k. MakesEvent b.frames.items c.read.new.frames.items b.cells.items b.cells.items views views c.args.place k c.read.result) (sym is)
    (subst (λ l. MakesEvent b.frames.items c.read.new.frames.items l l views views c.args.place (asks.Read c.in-Read.cell) c.read.result) c.as_slice-cells.ensures.value (c.read.ensures.makes views)))

pub returns-in-Write-clause-touched : goal.returns-in-Write-clause-touched
returns-in-Write-clause-touched c =
    let word : ℤ = to_z w64 (of_z w64 c.in-Write.word) in
    let same : word ≡ c.in-Write.word = search rules in
    let is : c.args.scheduler.now.asked ≡ asks.Write c.in-Write.cell word = c.in-Some.ensures ∙ ap in_full c.in-Write.is ∙ ap (λ v. asks.Write c.in-Write.cell v) (sym same) in
    let b = c.args.scheduler.now in
    let new = record b { frames = c.write.new.frames; cells = c.write.new.cells } in
    λ w low. touched_still b new w c.args.place c.write.result low refl refl refl
    (λ views. subst (λ k. MakesEvent b.frames.items c.write.new.frames.items b.cells.items c.write.new.cells.items views views c.args.place k c.write.result) (sym is) (c.write.ensures.makes views))

pub returns-in-Result-clause-touched : goal.returns-in-Result-clause-touched
returns-in-Result-clause-touched c =
    let word : ℤ = to_z w64 (of_z w64 c.in-Result.word) in
    let same : word ≡ c.in-Result.word = search rules in
    let is : c.args.scheduler.now.asked ≡ asks.Result word = c.in-Some.ensures ∙ ap in_full c.in-Result.is ∙ ap (λ v. asks.Result v) (sym same) in
    let b = c.args.scheduler.now in
    let new = record b { frames = c.write_result.new.frames; cells = c.write_result.new.cells } in
    λ w low. touched_still b new w c.args.place c.write_result.result low refl refl refl
    (λ views. subst (λ k. MakesEvent b.frames.items c.write_result.new.frames.items b.cells.items c.write_result.new.cells.items views views c.args.place k c.write_result.result) (sym is) (c.write_result.ensures.makes views))
