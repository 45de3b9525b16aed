use Rattle.std.proofs.Common.{◌≡◌, ◌≤◌, ℕ, Option, drop, sym, subst, arith}
use Rattle.cilk_frames.specs.Sight.{LinksTo}
use Rattle.cilk_frames.proofs.Links.{links_first, links_on, links_nowhere, links_past}
use Rattle.cilk_frames.proofs.places.outer_place.Goals as goal

pub each-init : goal.each-init
each-init g c = λ scope sees. links_first c.args.frames.now c.args.top.now scope sees

pub returns-in_err-place : goal.returns-in_err-place
returns-in_err-place g c = λ scope sees.
    let frames = c.args.frames.now in
    let low : c.each.counter ≤ c.args.up = omega (arith, c.each-test.true) in
    let nowhere = subst (λ (o : Option ℕ). LinksTo frames o (drop c.each.counter scope)) c.in_err-place.was (c.each.invariant scope sees) in
    subst (λ (o : Option ℕ). LinksTo frames o (drop c.args.up scope)) (sym c.from_residual.ensures) (links_nowhere frames scope c.each.counter c.args.up low nowhere)

pub returns-in_err-frame : goal.returns-in_err-frame
returns-in_err-frame g c = λ scope sees.
    let frames = c.args.frames.now in
    links_past frames c.in_ok-place.field-0 (drop c.each.counter scope) (subst (λ (o : Option ℕ). LinksTo frames o (drop c.each.counter scope)) c.in_ok-place.was (c.each.invariant scope sees)) c.in_err-frame.ensures

pub each-preserved : goal.each-preserved
each-preserved g c = λ scope sees.
    let frames = c.args.frames.now in
    links_on frames scope c.in_ok-place.field-0 c.each.counter c.in_ok-frame.frame.now (subst (λ (o : Option ℕ). LinksTo frames o (drop c.each.counter scope)) c.in_ok-place.was (c.each.invariant scope sees)) c.in_ok-frame.ensures

pub returns : goal.returns
returns g c = λ scope sees.
    let same : c.each.counter ≡ c.args.up = omega (arith, c.requires, c.each.auto.counter-end, c.each-test.false) in
    subst (λ n. LinksTo c.args.frames.now c.each.place (drop n scope)) same (c.each.invariant scope sees)
