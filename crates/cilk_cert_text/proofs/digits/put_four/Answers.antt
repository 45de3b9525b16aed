use Rattle.std.proofs.Common.{◌≡◌, ◌+◌, take, ap, ◌∙◌, refl, arith}
use Rattle.cilk_cert_text.proofs.Pairs.{joined}
use Rattle.cilk_cert_text.proofs.digits.put_four.Goals as goal

pub returns : goal.returns
returns c =
    let end : c.args.at + 4 ≡ c.args.at + 2 + 2 = omega arith in
    joined _ _ _ _ _ _ (ap (λ n. take n c.put_pair-2.new.room) end ∙ c.put_pair-2.ensures) c.put_pair.ensures refl
