-- The verdict of a serial run: from the contracts of the run and of the race tests.
use Rattle.std.proofs.Common.{ℤ, List, IsTrue, Some, None}
use Rattle.cilk_types.specs.declared.event.Event.{Event}
use Rattle.cilk_types.specs.declared.outcome.Outcome.{Outcome}
use Rattle.cilk_program.specs.Syntax.{Source}
use Rattle.cilk_program.specs.WellNamed.{is_well_named}
use Rattle.cilk_serial.specs.Ran.{Ran}
use Rattle.cilk_tree.specs.Shape.{Shape, Spells}
use Rattle.cilk_program.specs.Outcomes.{Leaves}
use Rattle.cilk_tree.specs.Tree.{Tree, tree}
use Rattle.cilk_determinacy.specs.Traces.{shape_of}
use Rattle.cilk_determinacy.specs.Nested.{named}
use Rattle.cilk_determinacy.specs.Settled.{IsSettled}
use Rattle.cilk_checker.specs.Settled.{AreOfRace, IsFirstOf, RacesAt}
use Rattle.cilk_checker.specs.declared.settle.FirstRace.{FirstRace}
use Rattle.cilk_checker.specs.declared.settle.FirstRace.TheVariants.{Determinacy, ViewRead}
use Rattle.cilk_peers.specs.RaceFree.{IsRaceFree}
use Rattle.cilk_determinacy.specs.Words.{HasWords, InputsAreWords}
use Rattle.cilk_determinacy.proofs.Creations.{have_creations}
use Rattle.cilk_determinacy.proofs.Determinate.{serial_numbered}
use Rattle.cilk_determinacy.proofs.Settled.{serial_settles}

module _ (p : Source) (inputs : List ℤ) (well : IsTrue (is_well_named p)) (has : HasWords p) (words : InputsAreWords inputs) where
  module _ (o : Outcome) (es : List Event) (ran : Ran p inputs o es) where
    -- the list of the serial run spells a shape, so that it can be judged
    pub spelled : Spells (shape_of (named p ran.run)) es
    spelled = let n = serial_numbered p inputs ran.run es o well ran.serial in n.spells

    pub settled_by : ((s : Shape) → Spells s es → IsFirstOf (tree s) es None) → IsSettled p inputs o
    settled_by judged =
        let none : IsFirstOf (tree (shape_of (named p ran.run))) es None = judged (shape_of (named p ran.run)) spelled in
        let free : IsRaceFree es = record { shape = shape_of (named p ran.run); spells = spelled; races = none.0; view_races = none.1 } in
        record { run = ran.run; events = es; elision = ran.elision; serial = ran.serial; free = free; parallel = serial_settles p inputs well has words ran.run es o ran.serial free }

    -- a view-read race is of a creation and a use
    pub of_race : (t : Tree) (first : FirstRace) → IsFirstOf t es (Some first) → AreOfRace t es first
    of_race t (Determinacy earlier later) h = tt
    of_race t (ViewRead created used) h = let c = have_creations p inputs ran.run es (Leaves o) well ran.serial in c.first t created used h.1

    pub races_by : (first : FirstRace) → ((s : Shape) → Spells s es → IsFirstOf (tree s) es (Some first)) → RacesAt p inputs first
    races_by first judged =
        let s = shape_of (named p ran.run) in
        let is_first : IsFirstOf (tree s) es (Some first) = judged s spelled in
        record {
          run = ran.run;
          events = es;
          outcome = o;
          serial = ran.serial;
          shape = s;
          spells = spelled;
          is_first = is_first;
          events_of = of_race (tree s) first is_first;
        }
