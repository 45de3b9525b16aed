use Rattle.std.proofs.Common.{◌≡◌, ◌+◌, ◌≤◌, length, slice_get, sym, ap, ◌∙◌, subst, arith, reverse, rules}
use Rattle.std.proofs.lemmas.Bool.{ltb-false}
use Rattle.cilk_scheduler.proofs.Placed.{there_at}
use Rattle.cilk_schedule.proofs.Paths.{IsOnWay, ended, onward}
use Rattle.cilk_schedule.proofs.Shows.{link_named}
use Rattle.cilk_schedule.proofs.showing.Shown.path.Goals.{else-each-test, then-each-test+then-at-eq0, then-each-test+else-at-eq0+in_default}
use Rattle.cilk_schedule.proofs.showing.Shown.path.Goals as goal

pub each-preserved : goal.each-preserved
each-preserved c = λ name linked low.
    let list = c.args.self.now.frames.items in
    let f = c.in-Some.frame.now in
    let at = c.in-Some.ensures.lookup in
    let here = ap (λ z. slice_get z c.each.at) (sym c.deref.ensures.value) ∙ there_at c.deref.result.now c.each.at f at.0 at.1 in
    let ne = c.if-at-eq0.false in
    let step = link_named list name linked c.each.at f here (omega (arith, ne)) in
    subst (λ l. IsOnWay name c.args.place l f.link.parent (c.each.counter + 1)) (sym c.in_ok-push.ensures.items)
    (onward name c.args.place c.each.path.items c.each.at c.each.counter f.link.parent f.link.ordinal (c.each.invariant name linked low) step)

pub returns : goal.returns
returns c = λ name linked low.
    let list = c.args.self.now.frames.items in
    let h = c.each.invariant name linked low in
    let near = h.near in
    let count : c.len-end.result ≡ length list = search rules in
    let told : reverse c.each.path.items ≡ name c.args.place = elim c.each-test.branch [
      | else-each-test w ↦ let q = w.each-test in absurd (omega (arith, q, near, low, count))
      | then-each-test+then-at-eq0 w ↦ ended name c.args.place c.each.path.items c.each.at c.each.counter h (let q = w.if-at-eq0 in omega (arith, q)) linked.root
      | then-each-test+else-at-eq0+in_default w ↦
          let q = w.in_default in
          let e = q.ensures in
          let l = e.lookup in
          let d = w.deref in
          let far = subst (λ z. length z ≤ c.each.at) (let v = d.ensures in v.value) (ltb-false c.each.at (length (let r = d.result in r.now)) (sym l.0)) in
          absurd (omega (arith, near, low, far))
    ] in
    c.reverse.ensures.items ∙ told
