use Rattle.std.proofs.Common.{◌≡◌, ◌+◌, max, length, replicate, ℕ, sym, ap, ◌∙◌, arith}
use Rattle.std.proofs.lemmas.List.{length-drop}
use Rattle.cilk_scheduler.proofs.Trees.{zeros_are_tree, zeros_are}
use Rattle.cilk_scheduler.proofs.tally.Tally.zeros_of_twice.Goals as goal

pub invariant_of-result : goal.invariant_of-result
invariant_of-result c =
    let long = c.len.ensures in
    let ok = c.self.inside.nodes.ok.0 in
    let most = c.max-count.ensures in
    let all = c.self.invariant.long in
    let twice = c.in-Some.ensures.1 in
    let both : c.in-Some.length ≡ c.max-count.result + c.max-count.result = omega (arith, twice) in
    let zeros = c.in_ok-nodes.ensures.items_if_clones_equal (λ y e. e) ∙ ap (λ n. replicate {A = ℕ} n 0) both in
    zeros_are_tree c.self.inside.nodes.items c.in_ok-nodes.nodes.items c.self.inside.count c.max-count.result c.self.invariant (omega (arith, long, ok, most, all)) zeros

pub returns : goal.returns
returns c =
    let long = c.len.ensures in
    let ok = c.self.inside.nodes.ok.0 in
    let most = c.max-count.ensures in
    let all = c.self.invariant.long in
    let twice = c.in-Some.ensures.1 in
    let both : c.in-Some.length ≡ c.max-count.result + c.max-count.result = omega (arith, twice) in
    let zeros = c.in_ok-nodes.ensures.items_if_clones_equal (λ y e. e) ∙ ap (λ n. replicate {A = ℕ} n 0) both in
    let count = ap length (sym c.self.view_is) ∙ length-drop c.self.inside.count c.self.inside.nodes.items in
    let is : c.max-count.result ≡ max 1 (length c.args.self.now + length c.args.self.now) = omega (arith, long, ok, most, all, count) in
    zeros_are c.in_ok-nodes.nodes.items c.max-count.result zeros ∙ ap (λ n. replicate {A = ℕ} n 0) is
