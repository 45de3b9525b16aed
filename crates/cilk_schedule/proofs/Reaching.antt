-- A choice keeps what holds of each reachable state.
--
-- - `outlive_on`, `started_on`: after steps;
-- - `choices_lead_on`: after a choice, for the scheduler that shows the next state.
use Rattle.std.proofs.Common.{ℤ, List, [], ◌∷◌, sym, subst}
use Rattle.cilk_program.specs.Syntax.{Source}
use Rattle.cilk_lower.specs.Code.{CodeView}
use Rattle.cilk_determinacy.specs.Machine.{State, Steps}
use Rattle.cilk_determinacy.specs.Runs.{Name}
use Rattle.cilk_determinacy.specs.FrameEnvMachine.{costs}
use Rattle.cilk_determinacy.specs.Reducers.{View, monoid_of}
use Rattle.cilk_determinacy.specs.Steps.{Next}
use Rattle.cilk_determinacy.specs.FrameEnvs.{FrameEnv}
use Rattle.cilk_scheduler.specs.Histories.{DidAsAsked}
use Rattle.cilk_scheduler.specs.Parents.{AreStarted, OutliveChildren}
use Rattle.cilk_scheduler.proofs.Choosing.{choices_are_steps}
use Rattle.cilk_scheduler.proofs.GoneOn.{gone_on_behind}
use Rattle.cilk_scheduler.proofs.Histories.{does_as_asked}
use Rattle.cilk_scheduler.proofs.Parents.{names_are_kept, parents_outlive}
use Rattle.cilk_schedule.specs.Reached.{ChoicesLeadOn}

module _ (p : Source) (inputs : List ℤ) where
  abbrev Lead : List Name → State FrameEnv View → State FrameEnv View → Type 0
  Lead ns s s' = Steps FrameEnv View monoid_of (Next p inputs) (costs p inputs) ns s s'

  outlive_on : (ns : List Name) (s s' : State FrameEnv View) → DidAsAsked p inputs s → OutliveChildren s → Lead ns s s' → OutliveChildren s'
  outlive_on [] s s' asked h e = subst (λ x. OutliveChildren x) (sym e) h
  outlive_on (n ∷ ns) s s' asked h (mid, one, rest) =
      let orders = does_as_asked p inputs in let law = parents_outlive p inputs in outlive_on ns mid s' (orders.keeps s mid n asked one) (law.keeps s mid n asked h one) rest

  started_on : (ns : List Name) (s s' : State FrameEnv View) → AreStarted p s → Lead ns s s' → AreStarted p s'
  started_on [] s s' h e = subst (λ x. AreStarted p x) (sym e) h
  started_on (n ∷ ns) s s' h (mid, one, rest) = let law = names_are_kept p inputs in started_on ns mid s' (law.keeps s mid n h one) rest

pub choices_lead_on : (code : CodeView) (p : Source) (inputs : List ℤ) → ChoicesLeadOn code p inputs
choices_lead_on code p inputs name name' b b' d d' s s' c t r chosen shows =
    let x = r.shown in
    let sh = x.shows in
    let law = choices_are_steps p inputs in
    let behind = gone_on_behind p inputs in
    let steps = law.steps s s' d d' c t sh.running chosen in
    record {
      behaves = r.behaves;
      shown = record { well = x.well; lays = x.lays; shows = shows; asked = law.asked s s' d d' c t sh.running x.asked chosen };
      outlive = outlive_on p inputs steps.0 s s' x.asked r.outlive steps.1;
      behind = behind.chosen s s' d d' c t sh.running r.behind chosen;
      started = started_on p inputs steps.0 s s' r.started steps.1;
    }
