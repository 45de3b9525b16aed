use Rattle.std.proofs.Common.{◌≡◌, Some, IsSome, sym, ap, ◌∙◌, refl, subst, arith}
use Rattle.std.specs.Option.{option_map}
use Rattle.std.specs.Map.{keys_of}
use Rattle.cilk_types.specs.declared.event.Instance.{Instance}
use Rattle.cilk_hypermap.specs.Views.{entries, found, view_at}
use Rattle.cilk_hypermap.proofs.Entries.{key_at, every_key, each_so_far, is_some-option_map}
use Rattle.cilk_hypermap.proofs.Fills.{fills_some, fills_trans, fills_weaker}
use Rattle.cilk_hypermap.proofs.views.Views.fill.Goals as goal

pub loop-i-preserved : goal.loop-i-preserved
loop-i-preserved g c =
    let m = g.M.Monoid in
    let later = c.args.later.now in
    let key = c.unwrap.result.0.now in
    let view = c.unwrap.result.1.now in
    let at : found later key ≡ Some view = rw c.unwrap.ensures at c.entry.ensures.value in
    let entry = rw c.unwrap.ensures at c.entry.ensures.entry in
    let place = key_at (entries later) c.loop-i.i key view (sym entry) in
    let needed : IsSome (view_at m.value later key) = subst IsSome (sym (ap (option_map m.value) at)) refl in
    let IsThere : Instance → Type 0 = λ j. IsSome (view_at m.value c.reserve.new.self j) in
    record {
      views = λ j. fills_trans (view_at m.value c.args.self.now j) (view_at m.value c.loop-i.self j) (view_at m.value c.reserve.new.self j) (c.loop-i.invariant.views j)
          (fills_weaker (view_at m.value c.loop-i.self j) (view_at m.value c.reserve.new.self j) (λ e. subst (λ (q : Instance). IsSome (view_at m.value later q)) e needed) (c.reserve.ensures.views j));
      present = each_so_far (keys_of (entries later)) c.loop-i.i key IsThere place c.in_ok-reserve.ensures.present
          (λ k q below at. fills_some (view_at m.value c.loop-i.self q) (view_at m.value c.reserve.new.self q) (c.reserve.ensures.views q) (c.loop-i.invariant.present k q below at));
    }

pub returns-clause-present : goal.returns-clause-present
returns-clause-present g c j h =
    let m = g.M.Monoid in
    let later = c.args.later.now in
    let IsThere : Instance → Type 0 = λ q. IsSome (view_at m.value c.loop-i.self q) in
    every_key IsThere (entries later) (λ k q below at. c.loop-i.invariant.present k q (omega (arith, below, c.len-i-end.ensures)) at) j (sym (is_some-option_map m.value (found later j)) ∙ h)
