use Rattle.std.proofs.Common.{◌≡◌, ◌++◌, ◌∷◌, [], length, refl, sym, ap, ◌∙◌, arith, rules}
use Rattle.std.proofs.lemmas.Bool.{ltb-false}
use Rattle.cilk_schedule.proofs.Linked.{child_added, child_nowhere}
use Rattle.cilk_scheduler.proofs.Placed.{there_at}
use Rattle.cilk_schedule.proofs.showing.add_child.Goals as goal

pub returns-in_ok-push : goal.returns-in_ok-push
returns-in_ok-push c =
    let at = c.in-Some.ensures.item in
    let list = c.args.list.now.items in
    let f = c.in-Some.parent.now in
    let f' = record f { children = c.push.new.self } in
    child_added list c.args.parent f f' (there_at list c.args.parent f at.0 at.1) refl refl (let same : c.len-place.result ≡ length list = search rules in c.in_ok-push.ensures.items ∙ ap (λ n. f.children.items ++ n ∷ []) same)

pub returns-in_default : goal.returns-in_default
returns-in_default c = child_nowhere c.args.list.now.items c.args.parent (λ low. let l = c.in_default.ensures.item in let far = ltb-false c.args.parent (length c.args.list.now.items) (sym l.0) in absurd (omega (arith, low, far)))
