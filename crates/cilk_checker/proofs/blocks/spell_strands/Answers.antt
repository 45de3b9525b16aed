use Rattle.std.proofs.Common.{◌+◌, refl, ap, ◌∙◌, arith}
use Rattle.std.proofs.lemmas.Option.{slice_get_within}
use Rattle.cilk_cert_text.proofs.Dues.{no_strands}
use Rattle.cilk_checker.specs.declared.first.First.{First}
use Rattle.cilk_checker.specs.declared.tally.Tally.{Tally}
use Rattle.cilk_checker.proofs.Expected.{spells_none, strands_step, strands_same}
use Rattle.cilk_checker.proofs.Firsts.{met_on}
use Rattle.cilk_checker.proofs.blocks.spell_strands.Goals as goal

pub strands-init : goal.strands-init
strands-init c =
    let n = c.args.tally.now.owners.agreed in
    record {
      spells = spells_none c.args.right.now _ c.args.tally.now _ (no_strands (n + 1) n n (omega arith)) refl;
      within = omega arith;
      more = omega arith;
      agree = c.requires.agree;
      hebrews = c.requires.hebrews;
      classes = c.requires.classes;
      same = strands_same c.args.tally.now c.requires.hebrews c.requires.classes;
    }

pub meet-requires : goal.meet-requires
meet-requires c = λ _ _.
    let within = slice_get_within _ c.strands.tally.owners.agreed _ c.in-Some.ensures.owner in
    omega (arith, within, c.requires.few.owners)

pub strands-preserved : goal.strands-preserved
strands-preserved c =
    let next = c.meet.ensures ∙ met_on c.strands.tally.owners c.strands.invariant.agree in
    let line = c.strand_line-line.ensures.line in
    record {
      spells =
          strands_step c.args.right.now c.args.tally.now c.strands.tally _ _ c.in-Some.strand c.meet.new.self c.meet.ensures c.strands.invariant.hebrews c.strands.invariant.classes
          c.strands.invariant.agree c.strands.invariant.more c.in-Some.ensures.owner c.in-Some.ensures.hebrew c.in-Some.ensures.class
          (rw line at c.strand_line-line.ensures.fits) (rw line at c.put_line-done.ensures.text) c.strands.invariant.spells;
      within = omega (arith, c.put_line-done.ensures.within, c.put_line-done.auto.room);
      more = omega (arith, c.strands.invariant.more, ap (λ (f : First). f.agreed) next);
      agree = ap (λ (f : First). f.differs) next;
      hebrews = refl;
      classes = refl;
      same = ap (λ (u : Tally). record u { owners = c.meet.new.self; hebrews = c.meet.new.self; classes = c.meet.new.self }) c.strands.invariant.same;
    }
