use Rattle.std.proofs.Common.{◌≡◌, ◌≤◌, ◌<◌, ◌+◌, ◌-◌, get_or, sum, sym, subst, arith}
use Rattle.std.proofs.lemmas.List.{get_or_read}
use Rattle.cilk_scheduler.proofs.Trees.{Found, at_top, goes_left, goes_right, arrives}
use Rattle.cilk_scheduler.proofs.tally.Tally.find.Goals as goal

pub down-init : goal.down-init
down-init c = at_top c.self.inside.nodes.items c.self.inside.count c.args.rest c.self.invariant (subst (λ l. c.args.rest < sum l) (sym c.self.view_is) c.requires)

pub down-preserved-then-rest-left : goal.down-preserved-then-rest-left
down-preserved-then-rest-left c =
    let nodes = c.self.inside.nodes.items in
    let node = c.down.node in
    let long = c.self.invariant.long in
    let left : c.index-left.result.now ≡ get_or nodes (node + node) 0 = get_or_read nodes (node + node) _ (let low = c.down-test.true in omega (arith, long, low)) c.index-left.ensures 0 in
    let more : get_or nodes (node + node) 0 ≤ c.down.rest = let h = c.if-rest-left.true in omega (arith, left, h) in
    rw left (goes_right nodes c.self.inside.count c.args.rest node c.down.rest c.self.invariant c.down.invariant c.down-test.true more)

pub down-preserved : goal.down-preserved
down-preserved c =
    let nodes = c.self.inside.nodes.items in
    let node = c.down.node in
    let long = c.self.invariant.long in
    let left : c.index-left.result.now ≡ get_or nodes (node + node) 0 = get_or_read nodes (node + node) _ (let low = c.down-test.true in omega (arith, long, low)) c.index-left.ensures 0 in
    let less : c.down.rest < get_or nodes (node + node) 0 = let h = c.if-rest-left.false in omega (arith, left, h) in
    goes_left nodes c.self.inside.count c.args.rest node c.down.rest c.self.invariant c.down.invariant c.down-test.true less

pub returns-clause-here : goal.returns-clause-here
returns-clause-here c =
    let f = arrives c.self.inside.nodes.items c.self.inside.count c.args.rest c.down.node c.down.rest c.self.invariant c.down.invariant c.down-test.false in
    let g = subst (λ l. Found l c.args.rest (c.down.node - c.self.inside.count)) c.self.view_is f in
    g.here

pub returns-clause-before : goal.returns-clause-before
returns-clause-before c =
    let f = arrives c.self.inside.nodes.items c.self.inside.count c.args.rest c.down.node c.down.rest c.self.invariant c.down.invariant c.down-test.false in
    let g = subst (λ l. Found l c.args.rest (c.down.node - c.self.inside.count)) c.self.view_is f in
    g.before

pub returns-clause-above : goal.returns-clause-above
returns-clause-above c =
    let f = arrives c.self.inside.nodes.items c.self.inside.count c.args.rest c.down.node c.down.rest c.self.invariant c.down.invariant c.down-test.false in
    let g = subst (λ l. Found l c.args.rest (c.down.node - c.self.inside.count)) c.self.view_is f in
    g.above
