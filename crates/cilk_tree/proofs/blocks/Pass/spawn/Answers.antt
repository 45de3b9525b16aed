use Rattle.std.proofs.Common.{◌-◌, set, sym, ap, ◌∙◌, arith}
use Rattle.cilk_tree.proofs.Placing.{met_known, met_new, spawn_place}
use Rattle.cilk_tree.proofs.blocks.Pass.spawn.Goals as goal

pub returns-then-known : goal.returns-then-known
returns-then-known c =
    let at = spawn_place c.args.plan.now c.laws.ensures.order c.args.at c.requires.there.0 in
    let known = c.block_of-known.ensures in
    met_known c.args.plan.now c.laws.ensures.order (c.args.at - 1) c.args.at (omega (arith, at)) at.1 c.args.self.now.syncs.items c.args.self.now.firsts.items c.args.self.now.blocks.items
    c.args.self.now.resumptions.items _ c.args.self.now.pending.items c.args.frame c.requires.met c.requires.there.0 c.requires.there.1 c.requires.ended
    (λ none. c.if-known.true (known ∙ none)) (c.put.ensures ∙ ap (set c.args.self.now.resumptions.items c.args.at) known)

pub returns : goal.returns
returns c =
    let at = spawn_place c.args.plan.now c.laws.ensures.order c.args.at c.requires.there.0 in
    let known = c.block_of-known.ensures in
    met_new c.args.plan.now c.laws.ensures.order (c.args.at - 1) c.args.at (omega (arith, at)) at.1 c.args.self.now.syncs.items _ c.args.self.now.firsts.items _ c.args.self.now.blocks.items
    c.args.self.now.resumptions.items _ c.args.self.now.pending.items _ c.args.frame c.len-block.result c.requires.met c.requires.there.0 c.requires.there.1 c.requires.ended
    (sym known ∙ c.if-known.false) (c.len-block.ensures ∙ c.args.self.now.syncs.ok.0) c.in_ok-push.ensures.items c.in_ok-push-2.ensures.items c.in_ok-set_block.ensures c.put-2.ensures
