use Rattle.std.proofs.Common.{◌≡◌, ◌+◌, ℤ, length, refl, sym, ap, ◌∙◌, subst, rules, to_z, of_z, w64}
use Rattle.cilk_program.specs.declared.ask.Ask.TheVariants as asks
use Rattle.cilk_frames.specs.AskSlot.{in_full}
use Rattle.cilk_schedule.specs.Sound.{HasCome, Settles}
use Rattle.cilk_schedule.proofs.Answering.{both, on_ok}
use Rattle.cilk_schedule.proofs.Turns.{comes, settles_made, strand_settles, strand_ticks}
use Rattle.cilk_types.specs.declared.event.Event.TheVariants as events
use Rattle.cilk_scheduler.specs.FrameStates.{stranded}
use Rattle.cilk_schedule.specs.Acts as does
use Rattle.cilk_schedule.specs.Acts.{Acts, MakesEvent}
use Rattle.cilk_schedule.proofs.Started.{makes_start, if_both}
use Rattle.cilk_schedule.proofs.Stepping.{if_ok, touched_still, touched_views}
use Rattle.cilk_scheduler.proofs.Placed.{get_some, get_there}
use Rattle.cilk_schedule.proofs.making.make.Goals as goal
use Rattle.cilk_schedule.proofs.Syncing.{none_of}
use Rattle.cilk_schedule.proofs.Departing.{makes_end}
use Rattle.cilk_schedule.proofs.Standing.{on_err_same}

pub write-requires-clause-comes : goal.write-requires-clause-comes
write-requires-clause-comes g c =
    let q = c.requires.turn in
    let w : ℤ = to_z w64 (of_z w64 c.in-Write.word) in
    let same : w ≡ c.in-Write.word = search rules in
    subst (λ k. HasCome c.args.scheduler.now.frames.items (length c.args.scheduler.now.cells.items) c.args.place k) (c.in-Some.ensures ∙ ap in_full c.in-Write.is ∙ ap (λ v. asks.Write c.in-Write.cell v) (sym same)) (comes c.args.code.now q.0 c.args.scheduler.now c.args.place q.1)

pub write_result-requires-clause-comes : goal.write_result-requires-clause-comes
write_result-requires-clause-comes g c =
    let q = c.requires.turn in
    let w : ℤ = to_z w64 (of_z w64 c.in-Result.word) in
    let same : w ≡ c.in-Result.word = search rules in
    subst (λ k. HasCome c.args.scheduler.now.frames.items (length c.args.scheduler.now.cells.items) c.args.place k) (c.in-Some.ensures ∙ ap in_full c.in-Result.is ∙ ap (λ v. asks.Result v) (sym same)) (comes c.args.code.now q.0 c.args.scheduler.now c.args.place q.1)

pub update-requires-clause-comes : goal.update-requires-clause-comes
update-requires-clause-comes g c =
    let q = c.requires.turn in
    let w : ℤ = to_z w64 (of_z w64 c.in-Update.word) in
    let same : w ≡ c.in-Update.word = search rules in
    (length c.args.scheduler.now.cells.items, subst (λ k. HasCome c.args.scheduler.now.frames.items (length c.args.scheduler.now.cells.items) c.args.place k) (c.in-Some.ensures ∙ ap in_full c.in-Update.is ∙ ap (λ v. asks.Update c.in-Update.reducer v) (sym same)) (comes c.args.code.now q.0 c.args.scheduler.now c.args.place q.1))

pub set-requires-clause-comes : goal.set-requires-clause-comes
set-requires-clause-comes g c =
    let q = c.requires.turn in
    let w : ℤ = to_z w64 (of_z w64 c.in-Set.word) in
    let same : w ≡ c.in-Set.word = search rules in
    (length c.args.scheduler.now.cells.items, subst (λ k. HasCome c.args.scheduler.now.frames.items (length c.args.scheduler.now.cells.items) c.args.place k) (c.in-Some.ensures ∙ ap in_full c.in-Set.is ∙ ap (λ v. asks.Set c.in-Set.reducer v) (sym same)) (comes c.args.code.now q.0 c.args.scheduler.now c.args.place q.1))

pub returns-in-Begin-clause-made : goal.returns-in-Begin-clause-made
returns-in-Begin-clause-made g c =
    let is : c.args.scheduler.now.asked ≡ asks.Begin = c.in-Some.ensures ∙ ap in_full c.in-Begin.is in (
      λ inputs t. let a = t.asked in settles_made c.args.code.now inputs c.args.scheduler.now c.args.place t asks.Begin is _ (strand_settles _ _ _ c.args.place asks.Begin tt tt a.here c.begin_strand.ensures) refl refl,
      strand_ticks _ _ c.args.place c.begin_strand.ensures,
    )

pub returns-in-Resume-clause-made : goal.returns-in-Resume-clause-made
returns-in-Resume-clause-made g c =
    let is : c.args.scheduler.now.asked ≡ asks.Resume = c.in-Some.ensures ∙ ap in_full c.in-Resume.is in (
      λ inputs t. let a = t.asked in settles_made c.args.code.now inputs c.args.scheduler.now c.args.place t asks.Resume is _ (strand_settles _ _ _ c.args.place asks.Resume tt tt a.here c.begin_strand-in-Resume.ensures) refl refl,
      strand_ticks _ _ c.args.place c.begin_strand-in-Resume.ensures,
    )

pub returns-in-Read-clause-made : goal.returns-in-Read-clause-made
returns-in-Read-clause-made g c =
    let is : c.args.scheduler.now.asked ≡ asks.Read c.in-Read.cell = c.in-Some.ensures ∙ ap in_full c.in-Read.is in (
      λ inputs t. settles_made c.args.code.now inputs c.args.scheduler.now c.args.place t (asks.Read c.in-Read.cell) is (record c.args.scheduler.now { frames = c.read.new.frames }) (subst (λ l. Settles c.args.scheduler.now.frames.items c.read.new.frames.items (length l) (length l) c.args.place (asks.Read c.in-Read.cell)) c.as_slice-cells.ensures.value c.read.ensures.settles) refl refl,
      c.read.ensures.ticks,
    )

pub returns-in-Write-clause-made : goal.returns-in-Write-clause-made
returns-in-Write-clause-made g c =
    let w : ℤ = to_z w64 (of_z w64 c.in-Write.word) in
    let same : w ≡ c.in-Write.word = search rules in
    let is : c.args.scheduler.now.asked ≡ asks.Write c.in-Write.cell w = c.in-Some.ensures ∙ ap in_full c.in-Write.is ∙ ap (λ v. asks.Write c.in-Write.cell v) (sym same) in (
      λ inputs t. settles_made c.args.code.now inputs c.args.scheduler.now c.args.place t (asks.Write c.in-Write.cell w) is (record c.args.scheduler.now { frames = c.write.new.frames; cells = c.write.new.cells }) c.write.ensures.settles refl refl,
      c.write.ensures.ticks,
    )

pub returns-in-Result-clause-made : goal.returns-in-Result-clause-made
returns-in-Result-clause-made g c =
    let w : ℤ = to_z w64 (of_z w64 c.in-Result.word) in
    let same : w ≡ c.in-Result.word = search rules in
    let is : c.args.scheduler.now.asked ≡ asks.Result w = c.in-Some.ensures ∙ ap in_full c.in-Result.is ∙ ap (λ v. asks.Result v) (sym same) in (
      λ inputs t. settles_made c.args.code.now inputs c.args.scheduler.now c.args.place t (asks.Result w) is (record c.args.scheduler.now { frames = c.write_result.new.frames; cells = c.write_result.new.cells }) c.write_result.ensures.settles refl refl,
      c.write_result.ensures.ticks,
    )

pub returns-in-Sync-clause-made : goal.returns-in-Sync-clause-made
returns-in-Sync-clause-made g c = on_ok c.sync.result c.sync.ensures.made (λ h. h c.args.code.now)

pub returns-in-Create-clause-made : goal.returns-in-Create-clause-made
returns-in-Create-clause-made g c =
    let is : c.args.scheduler.now.asked ≡ asks.Create c.in-Create.reducer = c.in-Some.ensures ∙ ap in_full c.in-Create.is in
    on_ok c.create.result (both _ _ c.create.result c.create.ensures.settles c.create.ensures.ticks)
    (λ h. (λ inputs t. settles_made c.args.code.now inputs c.args.scheduler.now c.args.place t (asks.Create c.in-Create.reducer) is _ (h.0 _) refl refl, h.1))

pub returns-in-Value-clause-made : goal.returns-in-Value-clause-made
returns-in-Value-clause-made g c =
    let is : c.args.scheduler.now.asked ≡ asks.Value c.in-Value.reducer = c.in-Some.ensures ∙ ap in_full c.in-Value.is in
    on_ok c.value.result (both _ _ c.value.result c.value.ensures.settles c.value.ensures.ticks)
    (λ h. (λ inputs t. settles_made c.args.code.now inputs c.args.scheduler.now c.args.place t (asks.Value c.in-Value.reducer) is _ (h.0 _) refl refl, h.1))

pub returns-in-Update-clause-made : goal.returns-in-Update-clause-made
returns-in-Update-clause-made g c =
    let w : ℤ = to_z w64 (of_z w64 c.in-Update.word) in
    let same : w ≡ c.in-Update.word = search rules in
    let is : c.args.scheduler.now.asked ≡ asks.Update c.in-Update.reducer w = c.in-Some.ensures ∙ ap in_full c.in-Update.is ∙ ap (λ v. asks.Update c.in-Update.reducer v) (sym same) in
    on_ok c.update.result (both _ _ c.update.result c.update.ensures.settles c.update.ensures.ticks)
    (λ h. (λ inputs t. settles_made c.args.code.now inputs c.args.scheduler.now c.args.place t (asks.Update c.in-Update.reducer w) is _ (h.0 _) refl refl, h.1))

pub returns-in-Set-clause-made : goal.returns-in-Set-clause-made
returns-in-Set-clause-made g c =
    let w : ℤ = to_z w64 (of_z w64 c.in-Set.word) in
    let same : w ≡ c.in-Set.word = search rules in
    let is : c.args.scheduler.now.asked ≡ asks.Set c.in-Set.reducer w = c.in-Some.ensures ∙ ap in_full c.in-Set.is ∙ ap (λ v. asks.Set c.in-Set.reducer v) (sym same) in
    on_ok c.set.result (both _ _ c.set.result c.set.ensures.settles c.set.ensures.ticks)
    (λ h. (λ inputs t. settles_made c.args.code.now inputs c.args.scheduler.now c.args.place t (asks.Set c.in-Set.reducer w) is _ (h.0 _) refl refl, h.1))

pub returns-in-Print-clause-made : goal.returns-in-Print-clause-made
returns-in-Print-clause-made g c =
    let w : ℤ = to_z w64 (of_z w64 c.in-Print.word) in
    let same : w ≡ c.in-Print.word = search rules in
    let is : c.args.scheduler.now.asked ≡ asks.Print w = c.in-Some.ensures ∙ ap in_full c.in-Print.is ∙ ap (λ v. asks.Print v) (sym same) in
    on_ok c.print.result (both _ _ c.print.result c.print.ensures.settles c.print.ensures.ticks)
    (λ h. (λ inputs t. settles_made c.args.code.now inputs c.args.scheduler.now c.args.place t (asks.Print w) is _ (h.0 _) refl refl, h.1))

pub returns-in-Begin-clause-touched : goal.returns-in-Begin-clause-touched
returns-in-Begin-clause-touched g c = λ it.
    let is : c.args.scheduler.now.asked ≡ asks.Begin = c.in-Some.ensures ∙ ap in_full c.in-Begin.is in
    let b = c.args.scheduler.now in
    let new = record b { frames = c.begin_strand.new.frames } in
    touched_still b new c.args.worker c.args.place (events.Begin (c.args.place + 1)) c.requires.works refl refl refl
    (λ views. (stranded, subst (λ k. Acts b.frames.items b.cells.items views c.args.place k stranded (events.Begin (c.args.place + 1)) b.cells.items views) (sym is) does.begins, c.begin_strand.ensures))

pub returns-in-Resume-clause-touched : goal.returns-in-Resume-clause-touched
returns-in-Resume-clause-touched g c = λ it.
    let is : c.args.scheduler.now.asked ≡ asks.Resume = c.in-Some.ensures ∙ ap in_full c.in-Resume.is in
    let b = c.args.scheduler.now in
    let new = record b { frames = c.begin_strand-in-Resume.new.frames } in
    touched_still b new c.args.worker c.args.place (events.Resume (c.args.place + 1)) c.requires.works refl refl refl
    (λ views. (stranded, subst (λ k. Acts b.frames.items b.cells.items views c.args.place k stranded (events.Resume (c.args.place + 1)) b.cells.items views) (sym is) does.resumes, c.begin_strand-in-Resume.ensures))

pub returns-in-Read-clause-touched : goal.returns-in-Read-clause-touched
returns-in-Read-clause-touched g c = λ it.
    let is : c.args.scheduler.now.asked ≡ asks.Read c.in-Read.cell = c.in-Some.ensures ∙ ap in_full c.in-Read.is in
    let b = c.args.scheduler.now in
    let new = record b { frames = c.read.new.frames } in
    touched_still b new c.args.worker c.args.place c.read.result c.requires.works refl refl refl
    (λ views. subst (λ k. MakesEvent b.frames.items c.read.new.frames.items b.cells.items b.cells.items views views c.args.place k c.read.result) (sym is)
    (subst (λ l. MakesEvent b.frames.items c.read.new.frames.items l l views views c.args.place (asks.Read c.in-Read.cell) c.read.result) c.as_slice-cells.ensures.value (c.read.ensures.makes views)))

pub returns-in-Write-clause-touched : goal.returns-in-Write-clause-touched
returns-in-Write-clause-touched g c = λ it.
    let w : ℤ = to_z w64 (of_z w64 c.in-Write.word) in
    let same : w ≡ c.in-Write.word = search rules in
    let is : c.args.scheduler.now.asked ≡ asks.Write c.in-Write.cell w = c.in-Some.ensures ∙ ap in_full c.in-Write.is ∙ ap (λ v. asks.Write c.in-Write.cell v) (sym same) in
    let b = c.args.scheduler.now in
    let new = record b { frames = c.write.new.frames; cells = c.write.new.cells } in
    touched_still b new c.args.worker c.args.place c.write.result c.requires.works refl refl refl
    (λ views. subst (λ k. MakesEvent b.frames.items c.write.new.frames.items b.cells.items c.write.new.cells.items views views c.args.place k c.write.result) (sym is) (c.write.ensures.makes views))

pub returns-in-Result-clause-touched : goal.returns-in-Result-clause-touched
returns-in-Result-clause-touched g c = λ it.
    let w : ℤ = to_z w64 (of_z w64 c.in-Result.word) in
    let same : w ≡ c.in-Result.word = search rules in
    let is : c.args.scheduler.now.asked ≡ asks.Result w = c.in-Some.ensures ∙ ap in_full c.in-Result.is ∙ ap (λ v. asks.Result v) (sym same) in
    let b = c.args.scheduler.now in
    let new = record b { frames = c.write_result.new.frames; cells = c.write_result.new.cells } in
    touched_still b new c.args.worker c.args.place c.write_result.result c.requires.works refl refl refl
    (λ views. subst (λ k. MakesEvent b.frames.items c.write_result.new.frames.items b.cells.items c.write_result.new.cells.items views views c.args.place k c.write_result.result) (sym is) (c.write_result.ensures.makes views))

pub returns-in-Create-clause-touched : goal.returns-in-Create-clause-touched
returns-in-Create-clause-touched g c =
    let is : c.args.scheduler.now.asked ≡ asks.Create c.in-Create.reducer = c.in-Some.ensures ∙ ap in_full c.in-Create.is in
    let b = c.args.scheduler.now in
    let u = c.index_mut.result.now in
    let at = get_there b.workers.items c.args.worker u c.index_mut.ensures.value c.requires.works in
    if_ok c.create.result c.create.ensures.makes
    (λ e h it. touched_views b _ c.args.worker c.args.place e u c.create.new.views at refl refl refl
    (subst (λ k. MakesEvent b.frames.items c.create.new.frames.items b.cells.items b.cells.items u.views c.create.new.views c.args.place k e) (sym is) (h b.cells.items)))

pub returns-in-Update-clause-touched : goal.returns-in-Update-clause-touched
returns-in-Update-clause-touched g c =
    let w : ℤ = to_z w64 (of_z w64 c.in-Update.word) in
    let same : w ≡ c.in-Update.word = search rules in
    let is : c.args.scheduler.now.asked ≡ asks.Update c.in-Update.reducer w = c.in-Some.ensures ∙ ap in_full c.in-Update.is ∙ ap (λ v. asks.Update c.in-Update.reducer v) (sym same) in
    let b = c.args.scheduler.now in
    let u = c.index_mut-in-Update.result.now in
    let at = get_there b.workers.items c.args.worker u c.index_mut-in-Update.ensures.value c.requires.works in
    if_ok c.update.result c.update.ensures.makes
    (λ e h it. touched_views b _ c.args.worker c.args.place e u c.update.new.views at refl refl refl
    (subst (λ k. MakesEvent b.frames.items c.update.new.frames.items b.cells.items b.cells.items u.views c.update.new.views c.args.place k e) (sym is) (h b.cells.items)))

pub returns-in-Set-clause-touched : goal.returns-in-Set-clause-touched
returns-in-Set-clause-touched g c =
    let w : ℤ = to_z w64 (of_z w64 c.in-Set.word) in
    let same : w ≡ c.in-Set.word = search rules in
    let is : c.args.scheduler.now.asked ≡ asks.Set c.in-Set.reducer w = c.in-Some.ensures ∙ ap in_full c.in-Set.is ∙ ap (λ v. asks.Set c.in-Set.reducer v) (sym same) in
    let b = c.args.scheduler.now in
    let u = c.index_mut-in-Set.result.now in
    let at = get_there b.workers.items c.args.worker u c.index_mut-in-Set.ensures.value c.requires.works in
    if_ok c.set.result c.set.ensures.makes
    (λ e h it. touched_views b _ c.args.worker c.args.place e u c.set.new.views at refl refl refl
    (subst (λ k. MakesEvent b.frames.items c.set.new.frames.items b.cells.items b.cells.items u.views c.set.new.views c.args.place k e) (sym is) (h b.cells.items)))

pub returns-in-Value-clause-touched : goal.returns-in-Value-clause-touched
returns-in-Value-clause-touched g c =
    let is : c.args.scheduler.now.asked ≡ asks.Value c.in-Value.reducer = c.in-Some.ensures ∙ ap in_full c.in-Value.is in
    let b = c.args.scheduler.now in
    let u = c.index_mut-in-Value.result.now in
    let at = get_there b.workers.items c.args.worker u c.index_mut-in-Value.ensures.value c.requires.works in
    if_ok c.value.result c.value.ensures.makes
    (λ e h it. touched_views b _ c.args.worker c.args.place e u c.value.new.views at refl refl refl
    (subst (λ k. MakesEvent b.frames.items c.value.new.frames.items b.cells.items b.cells.items u.views c.value.new.views c.args.place k e) (sym is) (h b.cells.items)))

pub returns-in-Print-clause-touched : goal.returns-in-Print-clause-touched
returns-in-Print-clause-touched g c =
    let w : ℤ = to_z w64 (of_z w64 c.in-Print.word) in
    let same : w ≡ c.in-Print.word = search rules in
    let is : c.args.scheduler.now.asked ≡ asks.Print w = c.in-Some.ensures ∙ ap in_full c.in-Print.is ∙ ap (λ v. asks.Print v) (sym same) in
    let b = c.args.scheduler.now in
    let u = c.index_mut-in-Print.result.now in
    let at = get_there b.workers.items c.args.worker u c.index_mut-in-Print.ensures.value c.requires.works in
    if_ok c.print.result c.print.ensures.makes
    (λ e h it. touched_views b _ c.args.worker c.args.place e u c.print.new.views at refl refl refl
    (subst (λ k. MakesEvent b.frames.items c.print.new.frames.items b.cells.items b.cells.items u.views c.print.new.views c.args.place k e) (sym is) (h b.cells.items)))

pub returns-in-Read-clause-starts : goal.returns-in-Read-clause-starts
returns-in-Read-clause-starts g c = λ it. let u = get_some c.args.scheduler.now.workers.items c.args.worker c.requires.works in absurd (makes_start _ _ _ _ _ _ _ _ _ (c.read.ensures.makes (let x = u.0 in x.views)) it)

pub returns-in-Write-clause-starts : goal.returns-in-Write-clause-starts
returns-in-Write-clause-starts g c = λ it. let u = get_some c.args.scheduler.now.workers.items c.args.worker c.requires.works in absurd (makes_start _ _ _ _ _ _ _ _ _ (c.write.ensures.makes (let x = u.0 in x.views)) it)

pub returns-in-Result-clause-starts : goal.returns-in-Result-clause-starts
returns-in-Result-clause-starts g c = λ it. let u = get_some c.args.scheduler.now.workers.items c.args.worker c.requires.works in absurd (makes_start _ _ _ _ _ _ _ _ _ (c.write_result.ensures.makes (let x = u.0 in x.views)) it)

pub returns-in-Create-clause-starts : goal.returns-in-Create-clause-starts
returns-in-Create-clause-starts g c = if_ok c.create.result c.create.ensures.makes (λ e h it. absurd (makes_start _ _ _ _ _ _ _ _ _ (h c.args.scheduler.now.cells.items) it))

pub returns-in-Update-clause-starts : goal.returns-in-Update-clause-starts
returns-in-Update-clause-starts g c = if_ok c.update.result c.update.ensures.makes (λ e h it. absurd (makes_start _ _ _ _ _ _ _ _ _ (h c.args.scheduler.now.cells.items) it))

pub returns-in-Set-clause-starts : goal.returns-in-Set-clause-starts
returns-in-Set-clause-starts g c = if_ok c.set.result c.set.ensures.makes (λ e h it. absurd (makes_start _ _ _ _ _ _ _ _ _ (h c.args.scheduler.now.cells.items) it))

pub returns-in-Value-clause-starts : goal.returns-in-Value-clause-starts
returns-in-Value-clause-starts g c = if_ok c.value.result c.value.ensures.makes (λ e h it. absurd (makes_start _ _ _ _ _ _ _ _ _ (h c.args.scheduler.now.cells.items) it))

pub returns-in-Print-clause-starts : goal.returns-in-Print-clause-starts
returns-in-Print-clause-starts g c = if_ok c.print.result c.print.ensures.makes (λ e h it. absurd (makes_start _ _ _ _ _ _ _ _ _ (h c.args.scheduler.now.cells.items) it))

pub returns-in-Read-clause-syncs : goal.returns-in-Read-clause-syncs
returns-in-Read-clause-syncs g c = λ it.
    let u = get_some c.args.scheduler.now.workers.items c.args.worker c.requires.works in
    absurd (none_of _ _ _ _ _ _ c.args.place (asks.Read c.in-Read.cell) c.read.result (c.read.ensures.makes (let w = u.0 in w.views)) it)

pub returns-in-Write-clause-syncs : goal.returns-in-Write-clause-syncs
returns-in-Write-clause-syncs g c = λ it.
    let u = get_some c.args.scheduler.now.workers.items c.args.worker c.requires.works in
    absurd (none_of _ _ _ _ _ _ c.args.place (asks.Write c.in-Write.cell _) c.write.result (c.write.ensures.makes (let w = u.0 in w.views)) it)

pub returns-in-Result-clause-syncs : goal.returns-in-Result-clause-syncs
returns-in-Result-clause-syncs g c = λ it.
    let u = get_some c.args.scheduler.now.workers.items c.args.worker c.requires.works in
    absurd (none_of _ _ _ _ _ _ c.args.place (asks.Result _) c.write_result.result (c.write_result.ensures.makes (let w = u.0 in w.views)) it)

pub returns-in-Create-clause-syncs : goal.returns-in-Create-clause-syncs
returns-in-Create-clause-syncs g c = if_ok c.create.result c.create.ensures.makes (λ e h it. absurd (none_of _ _ _ _ _ _ c.args.place (asks.Create c.in-Create.reducer) e (h c.args.scheduler.now.cells.items) it))

pub returns-in-Update-clause-syncs : goal.returns-in-Update-clause-syncs
returns-in-Update-clause-syncs g c = if_ok c.update.result c.update.ensures.makes (λ e h it. absurd (none_of _ _ _ _ _ _ c.args.place (asks.Update c.in-Update.reducer _) e (h c.args.scheduler.now.cells.items) it))

pub returns-in-Set-clause-syncs : goal.returns-in-Set-clause-syncs
returns-in-Set-clause-syncs g c = if_ok c.set.result c.set.ensures.makes (λ e h it. absurd (none_of _ _ _ _ _ _ c.args.place (asks.Set c.in-Set.reducer _) e (h c.args.scheduler.now.cells.items) it))

pub returns-in-Value-clause-syncs : goal.returns-in-Value-clause-syncs
returns-in-Value-clause-syncs g c = if_ok c.value.result c.value.ensures.makes (λ e h it. absurd (none_of _ _ _ _ _ _ c.args.place (asks.Value c.in-Value.reducer) e (h c.args.scheduler.now.cells.items) it))

pub returns-in-Print-clause-syncs : goal.returns-in-Print-clause-syncs
returns-in-Print-clause-syncs g c = if_ok c.print.result c.print.ensures.makes (λ e h it. absurd (none_of _ _ _ _ _ _ c.args.place (asks.Print _) e (h c.args.scheduler.now.cells.items) it))

pub returns-in-Read-clause-ends : goal.returns-in-Read-clause-ends
returns-in-Read-clause-ends g c = λ is. let u = get_some c.args.scheduler.now.workers.items c.args.worker c.requires.works in absurd (makes_end _ _ _ _ _ _ _ _ _ (c.read.ensures.makes (let x = u.0 in x.views)) is)

pub returns-in-Write-clause-ends : goal.returns-in-Write-clause-ends
returns-in-Write-clause-ends g c = λ is. let u = get_some c.args.scheduler.now.workers.items c.args.worker c.requires.works in absurd (makes_end _ _ _ _ _ _ _ _ _ (c.write.ensures.makes (let x = u.0 in x.views)) is)

pub returns-in-Result-clause-ends : goal.returns-in-Result-clause-ends
returns-in-Result-clause-ends g c = λ is. let u = get_some c.args.scheduler.now.workers.items c.args.worker c.requires.works in absurd (makes_end _ _ _ _ _ _ _ _ _ (c.write_result.ensures.makes (let x = u.0 in x.views)) is)

pub returns-in-Create-clause-ends : goal.returns-in-Create-clause-ends
returns-in-Create-clause-ends g c = if_ok c.create.result c.create.ensures.makes (λ e h is. absurd (makes_end _ _ _ _ _ _ _ _ _ (h c.args.scheduler.now.cells.items) is))

pub returns-in-Update-clause-ends : goal.returns-in-Update-clause-ends
returns-in-Update-clause-ends g c = if_ok c.update.result c.update.ensures.makes (λ e h is. absurd (makes_end _ _ _ _ _ _ _ _ _ (h c.args.scheduler.now.cells.items) is))

pub returns-in-Set-clause-ends : goal.returns-in-Set-clause-ends
returns-in-Set-clause-ends g c = if_ok c.set.result c.set.ensures.makes (λ e h is. absurd (makes_end _ _ _ _ _ _ _ _ _ (h c.args.scheduler.now.cells.items) is))

pub returns-in-Value-clause-ends : goal.returns-in-Value-clause-ends
returns-in-Value-clause-ends g c = if_ok c.value.result c.value.ensures.makes (λ e h is. absurd (makes_end _ _ _ _ _ _ _ _ _ (h c.args.scheduler.now.cells.items) is))

pub returns-in-Print-clause-ends : goal.returns-in-Print-clause-ends
returns-in-Print-clause-ends g c = if_ok c.print.result c.print.ensures.makes (λ e h is. absurd (makes_end _ _ _ _ _ _ _ _ _ (h c.args.scheduler.now.cells.items) is))

pub returns-in-End-clause-ends : goal.returns-in-End-clause-ends
returns-in-End-clause-ends g c = if_both _ _ _ c.end.result c.end.ensures.kind c.end.ensures.ends (λ e is h it. h)

pub returns-in-Create-clause-stands : goal.returns-in-Create-clause-stands
returns-in-Create-clause-stands g c = on_err_same c.create.result _ _ c.create.ensures.same

pub returns-in-Update-clause-stands : goal.returns-in-Update-clause-stands
returns-in-Update-clause-stands g c = on_err_same c.update.result _ _ c.update.ensures.same

pub returns-in-Set-clause-stands : goal.returns-in-Set-clause-stands
returns-in-Set-clause-stands g c = on_err_same c.set.result _ _ c.set.ensures.same

pub returns-in-Value-clause-stands : goal.returns-in-Value-clause-stands
returns-in-Value-clause-stands g c = on_err_same c.value.result _ _ c.value.ensures.same

pub returns-in-Print-clause-stands : goal.returns-in-Print-clause-stands
returns-in-Print-clause-stands g c = on_err_same c.print.result _ _ c.print.ensures.same

pub returns-in-Turns-clause-stands : goal.returns-in-Turns-clause-stands
returns-in-Turns-clause-stands g c = on_err_same c.start_turns.result _ _ c.start_turns.ensures.same

pub returns-in_default-clause-stands : goal.returns-in_default-clause-stands
returns-in_default-clause-stands g c = on_err_same c.start_function.result _ _ c.start_function.ensures.same
