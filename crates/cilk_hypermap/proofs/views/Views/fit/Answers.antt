use Rattle.std.proofs.Common.{◌≡◌, ◌+◌, ◌≤◌, Some, IsSome, sym, ap, ◌∙◌, refl, subst, arith}
use Rattle.std.specs.Option.{option_map, unwrap_or}
use Rattle.std.specs.Map.{keys_of}
use Rattle.cilk_types.specs.declared.event.Instance.{Instance}
use Rattle.cilk_hypermap.specs.Views.{entries, found, view_at, size_at, room_at}
use Rattle.cilk_hypermap.proofs.Entries.{key_at, every_key, each_so_far, is_some-option_map}
use Rattle.cilk_hypermap.proofs.Fills.{fills_some, fills_trans, fills_weaker}
use Rattle.cilk_hypermap.proofs.views.Views.fit.Goals as goal

pub loop-i-preserved : goal.loop-i-preserved
loop-i-preserved g c =
    let m = g.M.Monoid in
    let middle = c.args.middle.now in
    let right = c.args.right.now in
    let new = c.reserve.new.self in
    let key = c.unwrap.result.0.now in
    let view = c.unwrap.result.1.now in
    let at : found middle key ≡ Some view = rw c.unwrap.ensures at c.entry.ensures.value in
    let entry = rw c.unwrap.ensures at c.entry.ensures.entry in
    let place = key_at (entries middle) c.loop-i.i key view (sym entry) in
    let needed : IsSome (view_at m.value middle key) = subst IsSome (sym (ap (option_map m.value) at)) refl in
    let size : size_at m.structure m.value middle key ≡ m.structure.size (m.value view) = ap (λ o. unwrap_or (option_map m.structure.size (option_map m.value o)) 0) at in
    let fits : size_at m.structure m.value middle key + size_at m.structure m.value right key ≤ room_at m.reserved new key = omega (arith, size, c.size.ensures.value, c.size_of.ensures.value, c.in_ok-reserve.ensures.room) in
    let IsThere : Instance → Type 0 = λ j. IsSome (view_at m.value new j) in
    let Fits : Instance → Type 0 = λ j. size_at m.structure m.value middle j + size_at m.structure m.value right j ≤ room_at m.reserved new j in
    record {
      views = λ j. fills_trans (view_at m.value c.args.self.now j) (view_at m.value c.loop-i.self j) (view_at m.value new j) (c.loop-i.invariant.views j)
          (fills_weaker (view_at m.value c.loop-i.self j) (view_at m.value new j) (λ e. subst (λ (q : Instance). IsSome (view_at m.value middle q)) e needed) (c.reserve.ensures.views j));
      kept = λ j. omega (arith, c.loop-i.invariant.kept j, c.reserve.ensures.kept j);
      present = each_so_far (keys_of (entries middle)) c.loop-i.i key IsThere place c.in_ok-reserve.ensures.present
          (λ k q below at. fills_some (view_at m.value c.loop-i.self q) (view_at m.value new q) (c.reserve.ensures.views q) (c.loop-i.invariant.present k q below at));
      room = each_so_far (keys_of (entries middle)) c.loop-i.i key Fits place fits
          (λ k q below at. omega (arith, c.loop-i.invariant.room k q below at, c.reserve.ensures.kept q));
    }

pub returns-clause-present : goal.returns-clause-present
returns-clause-present g c j h =
    let m = g.M.Monoid in
    let middle = c.args.middle.now in
    let IsThere : Instance → Type 0 = λ q. IsSome (view_at m.value c.loop-i.self q) in
    every_key IsThere (entries middle) (λ k q below at. c.loop-i.invariant.present k q (omega (arith, below, c.len-i-end.ensures)) at) j (sym (is_some-option_map m.value (found middle j)) ∙ h)

pub returns-clause-room : goal.returns-clause-room
returns-clause-room g c j h =
    let m = g.M.Monoid in
    let middle = c.args.middle.now in
    let right = c.args.right.now in
    let Fits : Instance → Type 0 = λ q. size_at m.structure m.value middle q + size_at m.structure m.value right q ≤ room_at m.reserved c.loop-i.self q in
    every_key Fits (entries middle) (λ k q below at. c.loop-i.invariant.room k q (omega (arith, below, c.len-i-end.ensures)) at) j (sym (is_some-option_map m.value (found middle j)) ∙ h)
