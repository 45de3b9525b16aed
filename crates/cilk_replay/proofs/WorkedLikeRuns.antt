-- The worked runs of equal kinds, computed.
use Rattle.std.proofs.Common.{◌≡◌, ℤ, pos, List, [], ◌∷◌, refl, subst}
use Rattle.cilk_types.specs.declared.event.Event.{Event}
use Rattle.cilk_types.specs.declared.limits.TheConstants.{MAX_EVENTS, MAX_TICKS}
use Rattle.cilk_program.specs.Outcomes.{Conclusion}
use Rattle.cilk_program.specs.SerialRun.{Transcript, IsSerialRun, conclusion_of}
use Rattle.cilk_program.specs.Syntax.{Source}
use Rattle.cilk_program.proofs.Computed.{ran_within}
use Rattle.cilk_program.proofs.Uniqueness.{run_within}
use Rattle.cilk_replay.specs.WorkedLikeRuns.{chosen, WorkedLikeRuns}

exact : (p : Source) (inputs : List ℤ) (r : Transcript) (es : List Event) (c : Conclusion) → let w = ran_within p inputs MAX_TICKS MAX_EVENTS in
    w.run ≡ r → w.events ≡ es → conclusion_of p inputs w.ending ≡ c → IsSerialRun p inputs r es c
exact p inputs r es c same list ends =
    let w = ran_within p inputs MAX_TICKS MAX_EVENTS in
    subst (λ r. IsSerialRun p inputs r es c) same
    (subst (λ es. IsSerialRun p inputs w.run es c) list (subst (λ c. IsSerialRun p inputs w.run w.events c) ends (run_within p inputs MAX_TICKS MAX_EVENTS)))

pub worked_like_runs : WorkedLikeRuns
worked_like_runs = record {
  one = exact chosen (pos 1 ∷ []) _ _ _ refl refl refl;
  zero = exact chosen (pos 0 ∷ []) _ _ _ refl refl refl;
  kinds = refl;
  departs = refl;
}
