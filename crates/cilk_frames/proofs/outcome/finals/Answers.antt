use Rattle.std.proofs.Common.{◌≡◌, ◌+◌, ◌<◌, ◌≤◌, ℕ, suc, false, length, get_or, refl, ap, ◌∙◌, ◌∷◌, [], ◌++◌, arith}
use Rattle.std.proofs.lemmas.Bool.{ne_eqb}
use Rattle.std.proofs.lemmas.List.{take_all}
use Rattle.cilk_monoid.specs.Kinds.{final_of}
use Rattle.cilk_monoid.specs.Ranges.{same_instance}
use Rattle.cilk_monoid.specs.declared.kind.MonoidKind.TheVariants.{Add}
use Rattle.cilk_hypermap.specs.Hypermap.{value_in}
use Rattle.cilk_program.specs.SerialRun.{global_reducer}
use Rattle.cilk_frames.specs.Leaving.{finals_of}
use Rattle.cilk_frames.proofs.Finals.{finals_next}
use Rattle.cilk_frames.proofs.outcome.finals.Goals as goal

apart : (n j : ℕ) → n + 1 ≤ j → same_instance (record { frame = 1; place = n + 1 }) (global_reducer j) ≡ false
apart n j low = ne_eqb (n + 1) (suc j) (λ e. omega (arith, low, e))

pub each-preserved : goal.each-preserved
each-preserved c =
    let n = c.each.number in
    let kind = get_or c.args.kinds.now n Add in
    let so_far = c.each.invariant in
    let low : n < length c.args.kinds.now = omega (arith, c.each-test.true) in
    let here : n + 1 ≡ suc n = omega arith in
    let value = c.in_ok-last.ensures.value ∙ ap (λ p. final_of (value_in c.each.views kind (record { frame = 1; place = p }))) here ∙ ap final_of (so_far.1 n kind (omega arith)) in (
      finals_next c.args.views.now c.args.kinds.now n kind Add c.each.list.items c.push.new.self.items low refl so_far.0 (c.in_ok-push.ensures.items ∙ ap (λ x. c.each.list.items ++ x ∷ []) value),
      λ j k past. c.in_ok-last.ensures.others k (global_reducer j) (apart n j past) ∙ so_far.1 j k (omega (arith, past)),
    )

pub returns : goal.returns
returns c =
    let all : length c.args.kinds.now ≤ c.each.number = omega (arith, c.each-test.false) in
    c.each.invariant.0 ∙ ap (finals_of c.args.views.now 0) (take_all c.each.number c.args.kinds.now all)
