use Rattle.cilk_tree.specs.Tree.{tree}
use Rattle.cilk_checker.proofs.compare.first_view_race.Goals as goal

pub returns-in-Some : goal.returns-in-Some
returns-in-Some c = λ s value d columns creations right races.
    let first = rw c.in-Some.is at (c.in_ok-created.ensures s columns.spells columns.classes) in
    (right, races, first, creations.first (tree s) c.in-Some.created c.in-Some.used first)

pub returns-in-None : goal.returns-in-None
returns-in-None c = λ s value d columns creations right races. record {
  right = right;
  races = races;
  view_races = rw c.in-None.is at (c.in_ok-created.ensures s columns.spells columns.classes);
}
