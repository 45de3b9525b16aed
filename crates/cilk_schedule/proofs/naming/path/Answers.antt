use Rattle.std.proofs.Common.{◌≡◌, ◌+◌, ◌<◌, [], length, sym, ◌∙◌, subst, arith, reverse, rules}
use Rattle.std.proofs.lemmas.Bool.{ltb-false}
use Rattle.cilk_schedule.proofs.Paths.{IsOnWay, begins, ended, named_step, onward}
use Rattle.cilk_scheduler.proofs.Placed.{there_at}
use Rattle.cilk_schedule.proofs.naming.path.Goals.{else-each-test, then-each-test+then-place-eq0, then-each-test+else-place-eq0+in_default}
use Rattle.cilk_schedule.proofs.naming.path.Goals as goal

pub each-init : goal.each-init
each-init c = λ name named low. let none : c.new-path.result.items ≡ [] = search rules in subst (λ l. IsOnWay name c.args.frame l c.args.frame 0) (sym none) (begins name c.args.frame)

pub each-preserved : goal.each-preserved
each-preserved c = λ name named low.
    let frame_state = c.in-Some.frame_state.now in
    let at = c.in-Some.ensures.lookup in
    let here = there_at c.args.frames.now c.each.place frame_state at.0 at.1 in
    let ne = c.if-place-eq0.false in
    let some : 0 < c.each.place = omega (arith, ne) in
    subst (λ l. IsOnWay name c.args.frame l frame_state.cursor.parent (c.each.counter + 1)) (sym c.in_ok-push.ensures.items)
    (onward name c.args.frame c.each.path.items c.each.place c.each.counter frame_state.cursor.parent frame_state.cursor.ordinal (c.each.invariant name named low) (named_step c.args.frames.now name named c.each.place some frame_state here))

pub returns : goal.returns
returns c = λ name named low.
    let h = c.each.invariant name named low in
    let near = h.near in
    let told : reverse c.each.path.items ≡ name c.args.frame = elim c.each-test.branch [
      | else-each-test w ↦ let q = w.each-test in absurd (omega (arith, q, near, low))
      | then-each-test+then-place-eq0 w ↦ ended name c.args.frame c.each.path.items c.each.place c.each.counter h (let q = w.if-place-eq0 in omega (arith, q)) named.root
      | then-each-test+else-place-eq0+in_default w ↦ let q = w.in_default in let e = q.ensures in let l = e.lookup in let far = ltb-false c.each.place (length c.args.frames.now) (sym l.0) in absurd (omega (arith, near, low, far))
    ] in
    c.reverse.ensures.items ∙ told
