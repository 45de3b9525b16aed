-- The refusals of a certificate.
use Rattle.std.specs.Prelude.{◌≡◌, ◌≢◌, ◌⊎◌, ℕ, ◌+◌, ◌≤◌, ℤ, List, length}
use Rattle.cilk_types.specs.declared.event.Event.{Event}
use Rattle.cilk_types.specs.declared.fault.Fault.{Fault}
use Rattle.cilk_types.specs.declared.outcome.Outcome.{Outcome}
use Rattle.cilk_program.specs.Syntax.{Source}
use Rattle.cilk_serial.specs.Ran.{Ran, StopsAfter}
use Rattle.cilk_tree.specs.Shape.{Shape, Spells}
use Rattle.cilk_tree.specs.Tree.{tree}
use Rattle.cilk_tree.specs.Races.{HasNoRace, IsFirstRace}
use Rattle.cilk_peers.specs.ViewRaces.{HasNoViewRace, IsFirstViewRace, IsCreationAndUse}
use Rattle.cilk_cert_text.specs.Certificates.{Contents}
use Rattle.cilk_cert_maker.specs.Right.{EventIsWrong, FrameIsWrong, OwnerIsWrong, HebrewIsWrong, ClassIsWrong, SourceIsWrong, IsNowhere, IsLeast, IsRight}
use Rattle.cilk_checker.specs.declared.refusal.Refusal.{Refusal}
use Rattle.cilk_checker.specs.declared.refusal.Refusal.TheVariants as refusals

-- the certificate is right, and no two positions race
pub record IsClean (s : Shape) (es : List Event) (value : ℤ) (c : Contents) : Type 0 where
  pub right : IsRight s es value c
  pub races : HasNoRace (tree s) es
  pub view_races : HasNoViewRace (tree s) es

-- The first failing check for a run that ends without a fault. The order is: events, frames, the
-- frames of strands, Hebrew numbers, peer classes, the sources of reads, the result, races.
module _ (s : Shape) (es : List Event) (value : ℤ) (c : Contents) where
  abbrev pub IsFound : Refusal → Type 0
  IsFound (refusals.Event at) = IsLeast (EventIsWrong es c) at
  IsFound (refusals.Frame k) = IsNowhere (EventIsWrong es c) × IsLeast (FrameIsWrong s c) k
  IsFound (refusals.Strand k) = IsNowhere (EventIsWrong es c) × IsNowhere (FrameIsWrong s c) × IsLeast (OwnerIsWrong s c) k
  IsFound (refusals.Hebrew k) = IsNowhere (EventIsWrong es c) × IsNowhere (FrameIsWrong s c) × IsNowhere (OwnerIsWrong s c) × IsLeast (HebrewIsWrong s c) k
  IsFound (refusals.Class k) =
      IsNowhere (EventIsWrong es c) × IsNowhere (FrameIsWrong s c) × IsNowhere (OwnerIsWrong s c) × IsNowhere (HebrewIsWrong s c) × IsLeast (ClassIsWrong s c) k
  IsFound (refusals.ReadSource at) =
      IsNowhere (EventIsWrong es c) × IsNowhere (FrameIsWrong s c) × IsNowhere (OwnerIsWrong s c) × IsNowhere (HebrewIsWrong s c) × IsNowhere (ClassIsWrong s c)
      × IsLeast (SourceIsWrong es c) at
  IsFound refusals.Result =
      IsNowhere (EventIsWrong es c) × IsNowhere (FrameIsWrong s c) × IsNowhere (OwnerIsWrong s c) × IsNowhere (HebrewIsWrong s c) × IsNowhere (ClassIsWrong s c)
      × IsNowhere (SourceIsWrong es c) × (c.result ≢ value)
  IsFound (refusals.Race earlier later) = IsRight s es value c × IsFirstRace (tree s) es earlier later
  IsFound (refusals.ViewRace created used) =
      IsRight s es value c × HasNoRace (tree s) es × IsFirstViewRace (tree s) es created used × IsCreationAndUse (tree s) es created used
  IsFound other = ⊥

-- the first failing check for a run that a fault stops after these events; only events are compared
module _ (es : List Event) (c : Contents) where
  abbrev pub IsFoundBefore : Refusal → Type 0
  IsFoundBefore (refusals.Event at) = IsLeast (EventIsWrong es c) at × (at ≤ length es)
  IsFoundBefore (refusals.Stops at) = ((k : ℕ) → k ≤ length es → ¬ (EventIsWrong es c k)) × (at ≡ length es + 1)
  IsFoundBefore other = ⊥

module _ (p : Source) (inputs : List ℤ) where
  -- the serial run ends without a fault, with these events of this shape and this outcome
  pub record Ended (s : Shape) (es : List Event) (o : Outcome) : Type 0 where
    pub ran : Ran p inputs o es
    pub spells : Spells s es

  -- this is the first failing check for a certificate of the program's run
  abbrev pub IsRefused : Contents → Refusal → Type 0
  IsRefused c r =
      ((s : Shape) × (es : List Event) × (o : Outcome) × Ended s es o × IsFound s es o.result c r)
      ⊎ ((es : List Event) × (f : Fault) × StopsAfter p inputs es f × IsFoundBefore es c r)
