use Rattle.std.proofs.Common.{◌≡◌, ◌+◌, ◌-◌, ◌<◌, ◌%◌, ℕ, ap, ap₂, length, sym, subst, ◌∙◌, arith}
use native.Mathlib.Nat.{mod-lt}
use Rattle.cilk_helpers.specs.declared.rounds.Share.{Share}
use Rattle.cilk_helpers.specs.Replayed.{AreFitting, IsFitting, IsOwn, IsTurnOf}
use Rattle.cilk_helpers.proofs.Lists.{changed, one_of, picked, rest_of}
use Rattle.cilk_helpers.proofs.More.{more}
use Rattle.cilk_helpers.proofs.Shares.{helper_at, numbered_set}
use Rattle.cilk_helpers.proofs.depths.dealt.Goals as goal

pub dues-init : goal.dues-init
dues-init c = record {
  some = let n = c.in_ok-shares.ensures.count in let s = c.requires.some in omega (arith, n, s);
  count = c.in_ok-shares.ensures.count;
  numbers = c.in_ok-shares.ensures.numbers;
  own = c.in_ok-shares.ensures.none;
  rest = λ p h. h;
  fits = λ p h. c.in_ok-shares.ensures.fits p;
}

pub dues-preserved : goal.dues-preserved
dues-preserved c =
    let inv = c.dues.invariant in
    let helpers = c.args.helpers in
    let due = c.in-Some.due in
    let share = c.index_mut.result.now in
    let at : ℕ = c.place_of.result % c.len.result in
    let n = c.len.ensures in
    let some : 0 < c.len.result = let s = inv.some in omega (arith, n, s) in
    let lt : at < length c.dues.shares.items = let m = mod-lt c.place_of.result some in omega (arith, n, m) in
    let many : c.len.result ≡ helpers = let m = inv.count in omega (arith, n, m) in
    let whose : share.helper ≡ at + 1 = ap (λ (s : Share). s.helper) c.index_mut.ensures.value ∙ helper_at c.dues.shares.items at share lt inv.numbers in
    let turn : IsTurnOf helpers share.helper due = λ pos.
    let before : due.frame - 1 ≡ c.place_of.result = let e = c.place_of.ensures pos in omega (arith, e) in
    ap (λ (k : ℕ). 1 + k) (ap₂ (λ (a b : ℕ). a % b) before (sym many)) ∙ let w : 1 + at ≡ share.helper = omega (arith, whose) in w in
    record {
      some = inv.some;
      count = inv.count;
      numbers = numbered_set c.dues.shares.items at _ share (ap (λ (s : Share). s.helper) c.index_mut.ensures.value) inv.numbers;
      own = changed (IsOwn helpers) c.dues.shares.items _ _
          (more (IsTurnOf helpers share.helper) share.frames.items c.push.new.self.items due c.in_ok-push.ensures.items
          (subst (λ (s : Share). IsOwn helpers s) (sym c.index_mut.ensures.value) (inv.own _ share lt)) turn)
          inv.own;
      rest = λ p h. rest_of (IsFitting p) c.dues.dues.items c.pop.new.self.items c.in-Some.due c.in-Some.ensures.items (inv.rest p h);
      fits = λ p h. changed (AreFitting p) c.dues.shares.items _ _
          (more (IsFitting p) share.frames.items c.push.new.self.items c.in-Some.due c.in_ok-push.ensures.items
          (subst (λ (s : Share). AreFitting p s) (sym c.index_mut.ensures.value) (inv.fits p h _ share lt))
          (one_of (IsFitting p) c.dues.dues.items c.pop.new.self.items c.in-Some.due c.in-Some.ensures.items (inv.rest p h)))
          (inv.fits p h);
    }

pub returns-clause-fits : goal.returns-clause-fits
returns-clause-fits c = λ p h.
    let f = c.retain.ensures.filtered in
    picked (AreFitting p) f.0 c.dues.shares.items c.retain.new.self.items f.4 (c.dues.invariant.fits p h)

pub returns-clause-own : goal.returns-clause-own
returns-clause-own c =
    let f = c.retain.ensures.filtered in
    picked (IsOwn c.args.helpers) f.0 c.dues.shares.items c.retain.new.self.items f.4 c.dues.invariant.own
