use Rattle.std.proofs.Common.{rules, ◌≡◌, ℤ, to_z, of_z, w64, slice_get, slice_set, refl, sym, ap, ◌∙◌, subst}
use Rattle.std.proofs.lemmas.List.{length-set}
use Rattle.cilk_program.specs.declared.ask.Ask.TheVariants as asks
use Rattle.cilk_scheduler.proofs.CellEvents.{written_here}
use Rattle.cilk_scheduler.proofs.Placed.{get_some, get_there}
use Rattle.cilk_scheduler.proofs.Viewing.{viewing_at}
use Rattle.cilk_schedule.specs.Ends.{PartsFrom, FindsParent}
use Rattle.cilk_schedule.proofs.Turns.{end_ticks, ends_made}
use Rattle.cilk_schedule.proofs.ending.end.Goals as goal

pub returns-clause-made : goal.returns-clause-made
returns-clause-made c =
    let f = c.args.scheduler.now.frames.items in
    let q = c.depart.new.scheduler.frames.items in
    let g = c.finish-cursor.new.frames.items in
    let still = c.in_ok-depart.ensures.quiet in (
      λ inputs t. ends_made c.args.code.now inputs c.args.scheduler.now c.args.frame t (asks.End c.args.value) c.requires.ends _ q still c.finish-cursor.ensures c.depart.ensures.cells c.depart.ensures.rest.journal c.depart.ensures.fewer,
      end_ticks f q g c.args.frame still c.finish-cursor.ensures,
    )

pub returns-clause-ends : goal.returns-clause-ends
returns-clause-ends c = (
  c.args.value,
  c.requires.ends,
  λ finds.
      let b = c.args.scheduler.now in
      let f = b.frames.items in
      let l = b.workers.items in
      let u = c.index_mut.result.now in
      let views = c.retire_at.new.views in
      let v = record u { views = views } in
      let q = c.requires.turn in
      let t = q.1.asked in
      let top = get_some f c.args.frame t.here in
      let seen = slice_set l c.args.worker v in
      let more = length-set l c.args.worker v in
      let w : ℤ = to_z w64 (of_z w64 c.args.value) in
      let same : w ≡ c.args.value = search rules in
      let departs = c.in_ok-depart.ensures.departs v (subst (λ n. FindsParent f n c.args.frame) (sym more) finds) (written_here l c.args.worker v c.requires.works) in
      record {
        worker = u;
        top = top.0;
        views = views;
        departed = c.depart.new.scheduler;
        at = get_there l c.args.worker u c.index_mut.ensures.value c.requires.works;
        sits = top.1;
        retires = c.retire_at.ensures top.0 (ap (λ z. slice_get z c.args.frame) c.as_slice.ensures.value ∙ top.1);
        departs = subst (λ ws. PartsFrom c.args.code.now f b.cells.items ws b.offered b.outcome views c.depart.new.scheduler c.args.worker c.args.frame c.args.value) (viewing_at views l c.args.worker u c.index_mut.ensures.value c.requires.works)
            (subst (λ z. PartsFrom c.args.code.now f b.cells.items seen b.offered b.outcome views c.depart.new.scheduler c.args.worker c.args.frame z) same departs);
        frames = c.finish-cursor.ensures;
        workers = refl;
        offered = refl;
        outcome = refl;
        cells = c.depart.ensures.cells;
        journal = ap (λ z. z.items) c.depart.ensures.rest.journal;
        ticks = c.depart.ensures.rest.ticks;
      },
)
