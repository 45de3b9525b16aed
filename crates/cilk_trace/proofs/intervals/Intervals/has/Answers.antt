use Rattle.std.proofs.Common.{◌≡◌, ℕ, ◌+◌, ◌-◌, ◌/◌, ◌<◌, List, length, ◌∙◌, ap, arith, slice_index_or}
use Rattle.cilk_trace.specs.declared.intervals.Child.{Child}
use Rattle.cilk_trace.specs.IntervalStacks.{IntervalStack}
use Rattle.cilk_trace.proofs.BinarySearch.{child_read, searched_first, searched_left, searched_right, found_at, found_past}
use Rattle.cilk_trace.proofs.intervals.Intervals.has.Goals as goal

pub loop-low-init : goal.loop-low-init
loop-low-init c =
    let same : c.self.inside.children.items ≡ c.args.self.now.children = ap (λ (s : IntervalStack). s.children) c.self.view_is in
    let size = c.len-high.ensures ∙ (c.self.inside.children.ok.0 ∙ ap (λ (l : List Child). length l) same) in
    record { within = omega (arith, size); ordered = omega arith; searched = λ r. searched_first c.args.self.now.children c.args.line c.len-high.result size }

pub loop-low-preserved-then-line-index : goal.loop-low-preserved-then-line-index
loop-low-preserved-then-line-index c =
    let same : c.self.inside.children.items ≡ c.args.self.now.children = ap (λ (s : IntervalStack). s.children) c.self.view_is in
    let low : ℕ = c.loop-low.low in
    let high : ℕ = c.loop-low.high in
    let i : ℕ = low + (high - low) / 2 in
    let w = c.loop-low.invariant.within in
    let m = c.loop-low-test.true in
    let less : i < high = omega (arith, m) in
    record {
      within = omega (arith, w, less);
      ordered = omega arith;
      searched = λ r.
          searched_left c.args.self.now.children c.args.line low high i c.index.result.now r (c.loop-low.invariant.searched r) (omega arith) less
          (child_read c.args.self.now.children i c.index.result.now (omega (arith, less, w))
          (c.index.ensures ∙ ap (λ (l : List Child). slice_index_or l i c.index.result.now) same))
          c.if-line-index.true;
    }

pub loop-low-preserved : goal.loop-low-preserved
loop-low-preserved c =
    let same : c.self.inside.children.items ≡ c.args.self.now.children = ap (λ (s : IntervalStack). s.children) c.self.view_is in
    let low : ℕ = c.loop-low.low in
    let high : ℕ = c.loop-low.high in
    let i : ℕ = low + (high - low) / 2 in
    let w = c.loop-low.invariant.within in
    let m = c.loop-low-test.true in
    let less : i < high = omega (arith, m) in
    let f = c.if-line-index.false in
    record {
      within = w;
      ordered = omega (arith, less);
      searched = λ r.
          searched_right c.args.self.now.children c.args.line low high i c.index.result.now r (c.loop-low.invariant.searched r) (omega arith) less
          (child_read c.args.self.now.children i c.index.result.now (omega (arith, less, w))
          (c.index.ensures ∙ ap (λ (l : List Child). slice_index_or l i c.index.result.now) same))
          (omega (arith, f));
    }

pub returns-then-low-len : goal.returns-then-low-len
returns-then-low-len c = λ r.
    let same : c.self.inside.children.items ≡ c.args.self.now.children = ap (λ (s : IntervalStack). s.children) c.self.view_is in
    let size = c.len.ensures ∙ (c.self.inside.children.ok.0 ∙ ap (λ (l : List Child). length l) same) in
    let low : ℕ = c.loop-low.low in
    let high : ℕ = c.loop-low.high in
    let f = c.loop-low-test.false in
    let t = c.if-low-len.true in
    let m : low < length c.args.self.now.children = omega (arith, t, size) in
    found_at c.args.self.now.children c.args.line low high c.index-then-low-len.result.now r (c.loop-low.invariant.searched r) (omega (arith, f)) m
    (child_read c.args.self.now.children low c.index-then-low-len.result.now m
    (c.index-then-low-len.ensures ∙ ap (λ (l : List Child). slice_index_or l low c.index-then-low-len.result.now) same))

pub returns-else-low-len : goal.returns-else-low-len
returns-else-low-len c = λ r.
    let same : c.self.inside.children.items ≡ c.args.self.now.children = ap (λ (s : IntervalStack). s.children) c.self.view_is in
    let f = c.if-low-len.false in
    found_past c.args.self.now.children c.args.line c.loop-low.low c.loop-low.high c.len.result
    (c.len.ensures ∙ (c.self.inside.children.ok.0 ∙ ap (λ (l : List Child). length l) same)) (c.loop-low.invariant.searched r) (omega (arith, f))
