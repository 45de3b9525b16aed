use Rattle.std.proofs.Common.{◌≡◌, ◌<◌, ◌≤◌, false, ap, sym, ◌∙◌, subst, arith}
use Rattle.std.proofs.lemmas.Bool.{leb-true, le-leb}
use Rattle.std.proofs.lemmas.Grind.{common_steps}
use Rattle.cilk_workers.specs.Rows.{end_in}
use Rattle.cilk_workers.specs.Boxes.{BoxValue}
use Rattle.cilk_workers.proofs.join.JoinBox.open.Goals as goal

pub returns-then-self-key-2 : goal.returns-then-self-key-2
returns-then-self-key-2 c =
    let k = c.args.key in
    let at = c.args.goes_on in
    let end = c.end.ensures ∙ ap (λ (j : BoxValue). end_in j.rows) c.self.view_is in
    let above : (c.args.self.now.closed ≡ false) × (c.args.self.now.stolen < k) × (c.args.self.now.arrived ≤ k) = grind (arith, common_steps) in (
      λ yes. (above.0, above.1, above.2, subst (λ n. n ≤ at) end (leb-true c.end.result at yes)),
      λ may. le-leb c.end.result at (subst (λ n. n ≤ at) (sym end) may.3),
    )
