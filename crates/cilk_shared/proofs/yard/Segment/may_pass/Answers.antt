use Rattle.std.proofs.Common.{◌≡◌, ℕ, true, false, sym, ap, ◌∙◌, subst, arith}
use Rattle.cilk_tree.specs.Word.{word_step, IsWord}
use Rattle.cilk_shared.specs.Values.{SegmentValue}
use Rattle.cilk_shared.proofs.Preceding.{refused, has_no_next, is_past, is_step, is_passed}
use Rattle.cilk_shared.proofs.yard.Segment.may_pass.Goals as goal

pub returns-then-self : goal.returns-then-self
returns-then-self c =
    let from = ap (λ (x : SegmentValue). x.from) c.self.view_is in
    let upto = ap (λ (x : SegmentValue). x.upto) c.self.view_is in
    refused c.args.self.now (has_no_next c.args.self.now (omega arith))

pub returns-then-self-count : goal.returns-then-self-count
returns-then-self-count c =
    let upto = ap (λ (x : SegmentValue). x.upto) c.self.view_is in
    refused c.args.self.now (is_past c.args.self.now c.args.plan.now c.count.result c.requires c.count.ensures.events (omega arith))

pub returns-then-is_word : goal.returns-then-is_word
returns-then-is_word c =
    let upto = ap (λ (x : SegmentValue). x.upto) c.self.view_is in
    refused c.args.self.now (is_step c.args.self.now c.args.plan.now c.requires (subst (λ (n : ℕ). IsWord (word_step c.args.plan.now n)) upto (c.is_word.ensures.0 c.if-is_word.true)))

pub returns : goal.returns
returns c =
    let from = ap (λ (x : SegmentValue). x.from) c.self.view_is in
    let upto = ap (λ (x : SegmentValue). x.upto) c.self.view_is in
    is_passed c.args.self.now c.args.plan.now c.count.result c.holds_preceding.result c.requires c.count.ensures.events (omega arith) (omega arith)
    (λ word. (let t = c.is_word.ensures.1 (subst (λ (n : ℕ). IsWord (word_step c.args.plan.now n)) (sym upto) word) in let z : false ≡ true = sym c.if-is_word.false ∙ t in cc z))
    c.holds_preceding.ensures
