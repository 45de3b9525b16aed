use Rattle.std.proofs.Common.{ℤ, subst, w64, to_z, of_z, SFits, rules}
use Rattle.std.proofs.lemmas.Int.{to_z-of_z}
use Rattle.cilk_program.specs.Sources.{source}
use Rattle.cilk_helpers.specs.declared.retelling.Parting.{Parting}
use Rattle.cilk_helpers.specs.Telling.{Parts}
use Rattle.cilk_helpers.proofs.whole.end.Goals as goal

pub returns-in-GoesOn : goal.returns-in-GoesOn
returns-in-GoesOn c =
    let code = c.args.code.now in
    let p = source c.args.program.now in
    let inputs = c.args.input.now in
    let fits : SFits w64 c.args.value = search rules in
    subst (λ (g : Parting). Parts code p inputs c.args.run.now c.args.value g c.end.new.self) c.in-GoesOn.is
    (subst (λ (v : ℤ). Parts code p inputs c.args.run.now v c.in_ok-end.field-0 c.end.new.self) (to_z-of_z w64 c.args.value fits) (c.in_ok-end.ensures code inputs c.requires.tells))

pub returns-in-WasLast : goal.returns-in-WasLast
returns-in-WasLast c =
    let code = c.args.code.now in
    let p = source c.args.program.now in
    let inputs = c.args.input.now in
    subst (λ (g : Parting). Parts code p inputs c.args.run.now (to_z w64 (of_z w64 c.args.value)) g c.end.new.self) c.in-WasLast.is (c.in_ok-end.ensures code inputs c.requires.tells)
