use Rattle.std.proofs.Common.{◌-◌, ℕ, set, sym, ap, ◌∙◌, arith}
use Rattle.cilk_tree.proofs.Placing.{end_within, met_end, met_sync}
use Rattle.cilk_tree.proofs.blocks.Pass.sync.Goals as goal

pub put-requires : goal.put-requires
put-requires c =
    let at = c.requires.within in
    let block = c.block_of-ended.ensures in
    let within = (end_within c.args.plan.now c.laws.ensures.order (c.args.at - 1) c.args.at (omega (arith, at)) at.1 c.args.self.now.syncs.items c.args.self.now.firsts.items c.args.self.now.blocks.items
    c.args.self.now.resumptions.items c.args.self.now.pending.items c.args.frame c.requires.met c.requires.there (λ none. c.if-ended.true (block ∙ none))).0 in
    omega (arith, within, block)

pub returns-then-ended : goal.returns-then-ended
returns-then-ended c =
    let at = c.requires.within in
    let block = c.block_of-ended.ensures in
    met_end c.args.plan.now c.laws.ensures.order (c.args.at - 1) c.args.at (omega (arith, at)) at.1 c.args.self.now.syncs.items _ c.args.self.now.firsts.items c.args.self.now.blocks.items _
    c.args.self.now.resumptions.items c.args.self.now.pending.items _ c.args.frame c.requires.met c.requires.there (λ none. c.if-ended.true (block ∙ none))
    (c.put.ensures ∙ ap (λ (b : ℕ). set c.args.self.now.syncs.items b c.args.at) block)
    (c.put-then-ended.ensures ∙ ap (set c.args.self.now.blocks.items c.args.at) block) c.put-then-ended-2.ensures

pub returns-else-ended : goal.returns-else-ended
returns-else-ended c =
    let at = c.requires.within in
    met_sync c.args.plan.now c.laws.ensures.order (c.args.at - 1) c.args.at (omega (arith, at)) at.1 _ _ _ _ _ c.args.frame c.requires.met c.requires.there
    (sym c.block_of-ended.ensures ∙ c.if-ended.false)
