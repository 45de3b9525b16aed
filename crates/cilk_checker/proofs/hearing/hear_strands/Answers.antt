use Rattle.std.proofs.Common.{rules, ◌≡◌, take, ap, sym, subst, ◌∙◌, arith, length-take}
use Rattle.cilk_checker.specs.declared.tally.Tally.{Tally}
use Rattle.cilk_checker.specs.Tallies.{Tallied}
use Rattle.cilk_checker.proofs.Expected.{heard_again, heard_spelled, strands_same}
use Rattle.cilk_checker.proofs.hearing.hear_strands.Goals as goal

pub returns-then-pass_all-clause-lines : goal.returns-then-pass_all-clause-lines
returns-then-pass_all-clause-lines c = λ text h.
    let end = c.spell_strands-end.result in
    let room = c.spell_strands-end.new.room in
    heard_spelled c.args.right.now _ text c.args.piece.now end (take end room) c.args.reader.now c.pass_all.new.self c.args.tally.now c.spell_strands-end.new.tally
    c.spell_strands-end.ensures.spells (omega (arith, length-take end room, c.spell_strands-end.ensures.within, c.spell_strands-end.auto.room))
    (c.pass_all.ensures.lines c.if-pass_all.true) (c.pass_all.ensures.silent c.if-pass_all.true) h

pub returns-clause-lines : goal.returns-clause-lines
returns-clause-lines c = λ text h.
    let t : Tally = c.args.tally.now in
    let hebrews : t.hebrews ≡ t.owners = search rules in
    let classes : t.classes ≡ t.owners = search rules in
    let after : Tally = record c.spell_strands-end.new.tally { owners = t.owners; hebrews = t.owners; classes = t.owners } in
    let same : after ≡ t =
    ap (λ (u : Tally). record u { owners = t.owners; hebrews = t.owners; classes = t.owners }) c.spell_strands-end.ensures.same ∙ sym (strands_same t hebrews classes) in
    heard_again c.args.right.now text c.args.piece.now c.args.reader.now c.pass_all.new.self t after (c.pass_all.ensures.same c.if-pass_all.false)
    (λ d k. subst (λ (u : Tally). Tallied c.args.right.now d u) (sym same) k) h
