use Rattle.std.proofs.lemmas.Bool.{eqb-true, eq-eqb}
use Rattle.cilk_peers.proofs.Same.{one_class}
use Rattle.cilk_peers.proofs.class.Classes.same_peers.Goals as goal

pub returns : goal.returns
returns c = λ s e.
    let h = one_class s c.args.self.now c.args.one c.args.other _ _ e c.requires.one_first c.requires.one_last c.requires.other_first c.requires.other_last c.class.ensures c.class-2.ensures in
    ((λ b. h.0 (eqb-true _ _ b)), λ p. eq-eqb _ _ (h.1 p))
