-- A choice is one step of the free machine or none.
--
-- - `one_step`: which;
-- - `more_steps`: steps after steps;
-- - `choices_are_steps`: the law.
use Rattle.std.proofs.Common.{◌≡◌, inl, inr, ℤ, List, [], ◌∷◌, ◌++◌, None, refl, sym, subst}
use Rattle.cilk_program.specs.Syntax.{Source}
use Rattle.cilk_determinacy.specs.Machine.{State, Steps}
use Rattle.cilk_determinacy.specs.Runs.{Name}
use Rattle.cilk_determinacy.specs.FrameEnvMachine.{costs}
use Rattle.cilk_determinacy.specs.Reducers.{View, monoid_of}
use Rattle.cilk_determinacy.specs.Steps.{Next}
use Rattle.cilk_determinacy.specs.FrameEnvs.{FrameEnv}
use Rattle.cilk_scheduler.specs.declared.choice.Choice.{Choice}
use Rattle.cilk_scheduler.specs.WorkerTables.{WorkerTable, Chooses, Comes, does, skips, steals, waits}
use Rattle.cilk_scheduler.specs.Histories.{AreWithin, ChoicesAreSteps, DidAsAsked}
use Rattle.cilk_scheduler.proofs.Histories.{does_as_asked}
use Rattle.cilk_scheduler.proofs.Limits.{totals_within}

module _ (p : Source) (inputs : List ℤ) where
  abbrev Lead : List Name → State FrameEnv View → State FrameEnv View → Type 0
  Lead ns s s' = Steps FrameEnv View monoid_of (Next p inputs) (costs p inputs) ns s s'

  pub one_step : (s s' : State FrameEnv View) (d d' : WorkerTable) (c : Choice) (t : Comes) → s.stopped ≡ None → Chooses p inputs s d c t s' d' → (ns : List Name) × Lead ns s s'
  one_step s s' d d' c t going (does w n _ _ hand m settles) = (n ∷ [], (s', (going, inl m), refl))
  one_step s s' d d' c t going (waits w n f hand stands open_yet) = ([], refl)
  one_step s s' d d' c t going (steals w k n _ hand on offered m) = (n ∷ [], (s', (going, inr (inl m)), refl))
  one_step s s' d d' c t going (skips _ skipped) = ([], refl)

  more_steps : (ns ms : List Name) (s mid s' : State FrameEnv View) → Lead ns s mid → Lead ms mid s' → Lead (ns ++ ms) s s'
  more_steps [] ms s mid s' e rest = subst (λ z. Lead ms z s') e rest
  more_steps (n ∷ ns) ms s mid s' (z, one, more) rest = (z, one, more_steps ns ms z mid s' more rest)

  asked_on : (ns : List Name) (s s' : State FrameEnv View) → DidAsAsked p inputs s → Lead ns s s' → DidAsAsked p inputs s'
  asked_on [] s s' h e = subst (DidAsAsked p inputs) (sym e) h
  asked_on (n ∷ ns) s s' h (mid, one, rest) = let law = does_as_asked p inputs in asked_on ns mid s' (law.keeps s mid n h one) rest

  within_on : (ns : List Name) (s s' : State FrameEnv View) → AreWithin p inputs s → Lead ns s s' → AreWithin p inputs s'
  within_on [] s s' h e = subst (AreWithin p inputs) (sym e) h
  within_on (n ∷ ns) s s' h (mid, one, rest) = let law = totals_within p inputs in within_on ns mid s' (law.keeps s mid n h one) rest

  pub choices_are_steps : ChoicesAreSteps p inputs
  choices_are_steps = record {
    steps = one_step;
    reached = λ ns s s' d d' c t going r chosen. let o = one_step s s' d d' c t going chosen in (ns ++ o.0, (r.0, r.1, more_steps ns o.0 r.0 s s' r.2 o.1));
    asked = λ s s' d d' c t going h chosen. let o = one_step s s' d d' c t going chosen in asked_on o.0 s s' h o.1;
    within = λ s s' d d' c t going h chosen. let o = one_step s s' d d' c t going chosen in within_on o.0 s s' h o.1;
  }
