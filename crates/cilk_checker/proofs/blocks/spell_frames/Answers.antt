use Rattle.std.proofs.Common.{◌+◌, refl, ap, ◌∙◌, arith}
use Rattle.std.proofs.lemmas.Option.{slice_get_within}
use Rattle.cilk_cert_text.proofs.Dues.{no_frames}
use Rattle.cilk_checker.specs.declared.first.First.{First}
use Rattle.cilk_checker.specs.declared.tally.Tally.{Tally}
use Rattle.cilk_checker.proofs.Expected.{spells_none, frames_step}
use Rattle.cilk_checker.proofs.Firsts.{met_on}
use Rattle.cilk_checker.proofs.blocks.spell_frames.Goals as goal

pub frames-init : goal.frames-init
frames-init c =
    let n = c.args.tally.now.frames.agreed in
    record {
      spells = spells_none c.args.right.now _ c.args.tally.now _ (no_frames (n + 1) n n (omega arith)) refl;
      within = omega arith;
      more = omega arith;
      agree = c.requires.agree;
      same = refl;
    }

pub meet-requires : goal.meet-requires
meet-requires c = λ _ _.
    let within = slice_get_within _ c.frames.tally.frames.agreed c.in-Some.frame (rw c.as_slice.ensures.value at c.in-Some.ensures) in
    omega (arith, within, c.requires.few.frames)

pub frames-preserved : goal.frames-preserved
frames-preserved c =
    let next = c.meet.ensures ∙ met_on c.frames.tally.frames c.frames.invariant.agree in
    let line = c.frame_line-line.ensures.line in
    record {
      spells =
          frames_step c.args.right.now c.args.tally.now c.frames.tally _ _ c.in-Some.frame c.meet.new.self c.meet.ensures c.frames.invariant.agree c.frames.invariant.more
          (rw c.as_slice.ensures.value at c.in-Some.ensures) (rw line at c.frame_line-line.ensures.fits) (rw line at c.put_line-done.ensures.text) c.frames.invariant.spells;
      within = omega (arith, c.put_line-done.ensures.within, c.put_line-done.auto.room);
      more = omega (arith, c.frames.invariant.more, ap (λ (f : First). f.agreed) next);
      agree = ap (λ (f : First). f.differs) next;
      same = ap (λ (u : Tally). record u { frames = c.meet.new.self }) c.frames.invariant.same;
    }
