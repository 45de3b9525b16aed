-- What one serial run tells of every input that agrees with its own where numbers decide.
use Rattle.std.proofs.Common.{◌≡◌, ◌⊎◌, ◌+◌, ℕ, ℤ, Bool, List, IsTrue, Option, Some, None, length, sym, ap, ◌∙◌, subst}
use Rattle.std.specs.Prelude.{MatchOption}
use Rattle.std.proofs.lemmas.List.{length-map}
use Rattle.cilk_types.specs.declared.event.Event.{Event}
use Rattle.cilk_types.specs.declared.limits.TheConstants.{MAX_EVENTS, MAX_TICKS}
use Rattle.cilk_types.specs.declared.outcome.Outcome.{Outcome}
use Rattle.cilk_program.specs.Agreement.{IsCutOff}
use Rattle.cilk_program.specs.Elision.{IsElision}
use Rattle.cilk_program.specs.Outcomes.{Conclusion, Leaves, StopsBy}
use Rattle.cilk_program.specs.SerialRun.{Transcript, IsSerialRun}
use Rattle.cilk_program.specs.Syntax.{Source}
use Rattle.cilk_program.specs.WellNamed.{is_well_named}
use Rattle.cilk_program.proofs.Roots.{run_ends}
use Rattle.cilk_serial.specs.Ran.{Ran}
use Rattle.cilk_tree.specs.declared.kind.Kind.{Kind}
use Rattle.cilk_tree.specs.Kinds.{kind_of}
use Rattle.cilk_tree.specs.Shape.{Shape, Spells}
use Rattle.cilk_tree.specs.Tree.{tree}
use Rattle.cilk_peers.specs.RaceFree.{IsRaceFree}
use Rattle.cilk_determinacy.specs.Nested.{named}
use Rattle.cilk_determinacy.specs.Traces.{shape_of}
use Rattle.cilk_determinacy.specs.Words.{HasWords, InputsAreWords}
use Rattle.cilk_oblivious.specs.Every.{OnEvery}
use Rattle.cilk_oblivious.specs.Open.{IsObliviousRun}
use Rattle.cilk_oblivious.proofs.Every.{settle_every, race_on_every, view_race_on_every, stop_on_every}
use Rattle.cilk_checker.specs.Every.{IsFinding, IsFoundIn, IsSuchFinding}
use Rattle.cilk_checker.specs.Settled.{AreOfRace, IsFirstOf, RacesAt}
use Rattle.cilk_checker.specs.declared.every.Finding.{Finding}
use Rattle.cilk_checker.specs.declared.every.Finding.TheVariants.{Settled, Race, Fault}
use Rattle.cilk_checker.specs.declared.settle.FirstRace.{FirstRace}
use Rattle.cilk_checker.specs.declared.settle.FirstRace.TheVariants.{Determinacy, ViewRead}
use Rattle.cilk_checker.proofs.Settled.{settled_by, races_by, spelled, of_race}

module _ (p : Source) (inputs : List ℤ) where
  -- the serial run that a finding is of
  pub run_of : (es : List Event) (f : Finding) → IsFoundIn p inputs es f → (run : Transcript) × (c : Conclusion) × IsSerialRun p inputs run es c
  run_of es (Settled o) h = (h.0.run, Leaves o, h.0.serial)
  run_of es (Race first) h = (h.1.run, Leaves h.0, h.1.serial)
  run_of es (Fault fault at) h = (h.0.run, StopsBy fault, h.0.serial)

  module _ (well : IsTrue (is_well_named p)) (has : HasWords p) (words : InputsAreWords inputs) where
    pub found_here : (es : List Event) (f : Finding) → IsFoundIn p inputs es f → IsFinding p inputs f
    found_here es (Settled o) h = settled_by p inputs well has words o es h.0 h.1
    found_here es (Race first) h = races_by p inputs well has words h.0 es h.1 first h.2
    found_here es (Fault fault at) h = record { events = es; stops = h.0; place = h.1 }

    module _ (hidden : ℕ → Bool) where
      race_everywhere : (es : List Event) (o : Outcome) (s : Shape) → Spells s es → (first : FirstRace) → IsFirstOf (tree s) es (Some first) → AreOfRace (tree s) es first → IsObliviousRun p inputs hidden es (Leaves o)
          → OnEvery inputs hidden (λ others. RacesAt p others first)
      race_everywhere es o s spells (Determinacy earlier later) first pair oblivious others are alike =
          let t = race_on_every p inputs hidden es o oblivious s spells earlier later first others are alike in
          record { run = t.0; events = t.1; outcome = t.2; serial = t.3; shape = s; spells = t.4; is_first = t.5; events_of = tt }
      race_everywhere es o s spells (ViewRead created used) first pair oblivious others are alike =
          let t = view_race_on_every p inputs hidden es o oblivious s spells created used first.0 first.1 pair others are alike in
          record { run = t.0; events = t.1; outcome = t.2; serial = t.3; shape = s; spells = t.4; is_first = (t.5, t.6); events_of = t.7 }

      pub found_everywhere : (es : List Event) (f : Finding) → IsFoundIn p inputs es f → ((run : Transcript) (c : Conclusion) → IsSerialRun p inputs run es c → IsObliviousRun p inputs hidden es c)
          → OnEvery inputs hidden (λ others. IsSuchFinding p others f)
      found_everywhere es (Settled o) h oblivious =
          let s = shape_of (named p h.0.run) in
          let spells : Spells s es = spelled p inputs well has words o es h.0 in
          let none = h.1 s spells in
          let free : IsRaceFree es = record { shape = s; spells = spells; races = none.0; view_races = none.1 } in
          settle_every p inputs hidden es o well has (oblivious h.0.run (Leaves o) h.0.serial) free
      found_everywhere es (Race race) h oblivious =
          let s = shape_of (named p h.1.run) in
          let spells : Spells s es = spelled p inputs well has words h.0 es h.1 in
          let first : IsFirstOf (tree s) es (Some race) = h.2 s spells in
          race_everywhere es h.0 s spells race first (of_race p inputs well has words h.0 es h.1 (tree s) race first) (oblivious h.1.run (Leaves h.0) h.1.serial)
      found_everywhere es (Fault fault at) h oblivious = λ others are alike.
          let t = stop_on_every p inputs hidden es fault (oblivious h.0.run (StopsBy fault) h.0.serial) others are alike in
          let run : IsSerialRun p others t.0 t.1 (StopsBy fault) = t.2 in
          let long : length t.1 ≡ length es = sym (length-map t.1 kind_of) ∙ (ap (λ (l : List Kind). length l) t.3 ∙ length-map es kind_of) in
          record {
            events = t.1;
            stops = record { run = t.0; serial = run; elision = subst (λ c. IsElision p others c ⊎ IsCutOff c) (sym run.2) (run_ends p well others run.0 MAX_TICKS MAX_EVENTS t.0 t.1 run.1) };
            place = h.1 ∙ ap (λ n. n + 1) (sym long);
          }

-- a run without a fault tells its outcome, or its first race
pub judged_is : (p : Source) (inputs : List ℤ) (es : List Event) (o : Outcome) (race : Option FirstRace) (f : Finding) → Ran p inputs o es → ((s : Shape) → Spells s es → IsFirstOf (tree s) es race)
    → MatchOption race (f ≡ Settled o) (λ first. f ≡ Race first) → IsFoundIn p inputs es f
judged_is p inputs es o None f ran first is = subst (λ (f : Finding). IsFoundIn p inputs es f) (sym is) (ran, first)
judged_is p inputs es o (Some race) f ran first is = subst (λ (f : Finding). IsFoundIn p inputs es f) (sym is) (o, ran, first)
