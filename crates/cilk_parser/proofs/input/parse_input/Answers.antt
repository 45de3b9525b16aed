use Rattle.std.proofs.Common.{◌≡◌, ◌+◌, [], length, arith, rules, append_assoc, append-nil, subst, w64, SFits}
use Rattle.std.proofs.lemmas.Grind.{common_steps}
use Rattle.std.proofs.lemmas.Int.{to_z-of_z}
use Rattle.cilk_parser.specs.Inputs.{Skipped, Found, NoNumber, OneTooMany, Behind, Beyond, Fails}
use Rattle.cilk_parser.proofs.InputLaws.{nothing_left}
use Rattle.cilk_parser.proofs.input.parse_input.Goals as goal

pub each-preserved-in-Gap : goal.each-preserved-in-Gap
each-preserved-in-Gap c = record {
  numbers = λ ns h. c.each.invariant.numbers ns (Skipped c.in-Gap.ensures.0 h);
  fault = λ n place h. c.each.invariant.fault n place (Behind c.in-Gap.ensures.0 h);
  few = c.each.invariant.few;
  shorter = grind (arith, common_steps);
}

pub each-preserved : goal.each-preserved
each-preserved c =
    let fits : SFits w64 c.in-Number.number = search rules in
    let more : length c.push.new.self ≡ length c.each.numbers + 1 = grind (arith, common_steps) in
    record {
      numbers = λ ns h. rw (c.in_ok-push-in-Number.ensures, append_assoc, to_z-of_z w64 c.in-Number.number fits) (c.each.invariant.numbers _ (Found c.in-Number.number c.in-Number.ensures.0 h));
      fault = λ n place h. c.each.invariant.fault n place (Beyond c.in-Number.number c.in-Number.ensures.0 (grind (arith, common_steps)) (subst (λ k. Fails (length c.args.text.now) k c.in-Number.after.now n place) more h));
      few = grind (arith, common_steps);
      shorter = grind (arith, common_steps);
    }

pub returns-then-len-eq-MAX_INPUTS-clause-fault : goal.returns-then-len-eq-MAX_INPUTS-clause-fault
returns-then-len-eq-MAX_INPUTS-clause-fault c =
    c.each.invariant.fault _ _ (OneTooMany c.in-Number.number c.in-Number.ensures.0 (grind (arith, common_steps)) (omega (arith, c.each.invariant.shorter)))

pub returns-in-BadWord-clause-fault : goal.returns-in-BadWord-clause-fault
returns-in-BadWord-clause-fault c =
    c.each.invariant.fault _ _ (NoNumber c.in-BadWord.ensures (omega (arith, c.each.invariant.shorter)))

pub returns-clause-numbers : goal.returns-clause-numbers
returns-clause-numbers c =
    rw c.new.ensures (record { few = c.each.invariant.few; numbers = simp append-nil at (c.each.invariant.numbers [] (nothing_left _ c.in_default.len_below)) })
