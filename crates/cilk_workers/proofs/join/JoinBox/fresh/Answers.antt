use Rattle.std.proofs.Common.{◌≡◌, ◌<◌, false, ap, sym, subst, arith}
use Rattle.std.proofs.lemmas.Bool.{ltb-true, lt-ltb}
use Rattle.std.proofs.lemmas.Grind.{common_steps}
use Rattle.cilk_workers.specs.Boxes.{BoxValue}
use Rattle.cilk_workers.proofs.join.JoinBox.fresh.Goals as goal

pub returns-then-self-key : goal.returns-then-self-key
returns-then-self-key c =
    let k = c.args.key in
    let arrived = ap (λ (j : BoxValue). j.arrived) c.self.view_is in
    let above : (c.args.self.now.closed ≡ false) × (c.args.self.now.stolen < k) = grind (arith, common_steps) in (
      λ yes. (above.0, above.1, subst (λ n. n < k) arrived (ltb-true c.self.inside.arrived k yes)),
      λ fresh. lt-ltb c.self.inside.arrived k (subst (λ n. n < k) (sym arrived) fresh.2),
    )
