use Rattle.std.proofs.Common.{◌≡◌, ◌<◌, length, arith, subst, sym, ap, ◌∙◌}
use Rattle.std.proofs.lemmas.Bool.{ltb-true, lt-ltb}
use Rattle.cilk_join.specs.AwaitedRows.{RowValue}
use Rattle.cilk_join.proofs.AwaitedRows.{there_stands, stands_there}
use Rattle.cilk_join.proofs.row.Row.awaits.Goals as goal

pub returns : goal.returns
returns g c =
    let ws = c.args.self.now.waits in
    let k = c.args.key in
    let p = c.place.ensures in
    let l = (let e : c.len.result ≡ length c.self.inside.awaited.items = omega (arith, c.len.ensures) in e) ∙ ap (λ (r : RowValue _ _). length r.waits) c.self.view_is in (
      λ e. there_stands ws k (subst (λ n. n < length ws) p (subst (λ n. c.place.result < n) l (ltb-true c.place.result c.len.result e))),
      λ h. lt-ltb c.place.result c.len.result (subst (λ n. c.place.result < n) (sym l) (subst (λ n. n < length ws) (sym p) (stands_there ws k h))),
    )
