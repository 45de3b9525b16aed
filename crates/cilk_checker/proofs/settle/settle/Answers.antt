use Rattle.std.proofs.Common.{Option, subst}
use Rattle.cilk_program.specs.Sources.{source}
use Rattle.cilk_tree.specs.Shape.{Shape, Spells}
use Rattle.cilk_tree.specs.Tree.{tree}
use Rattle.cilk_checker.specs.declared.settle.FirstRace.{FirstRace}
use Rattle.cilk_checker.specs.Settled.{IsFirstOf}
use Rattle.cilk_checker.proofs.Settled.{settled_by, races_by}
use Rattle.cilk_checker.proofs.settle.settle.Goals as goal

pub returns-in-Some-clause-verdict : goal.returns-in-Some-clause-verdict
returns-in-Some-clause-verdict c =
    let events = c.in_ok-outcome.trace in
    races_by (source c.args.program.now) c.args.input.now c.args.program.now.well_named c.programs_are_of_words.ensures c.inputs_are_words.ensures c.in_ok-outcome.outcome events c.in_ok-outcome.ensures.ok c.in-Some.race
    (subst (λ (x : Option FirstRace). (s : Shape) → Spells s events → IsFirstOf (tree s) events x) c.in-Some.is c.in_ok-race.ensures)

pub returns-in-None-clause-verdict : goal.returns-in-None-clause-verdict
returns-in-None-clause-verdict c =
    let events = c.in_ok-outcome.trace in
    settled_by (source c.args.program.now) c.args.input.now c.args.program.now.well_named c.programs_are_of_words.ensures c.inputs_are_words.ensures c.in_ok-outcome.outcome events c.in_ok-outcome.ensures.ok
    (subst (λ (x : Option FirstRace). (s : Shape) → Spells s events → IsFirstOf (tree s) events x) c.in-None.is c.in_ok-race.ensures)
