use Rattle.std.proofs.Common.{subst}
use Rattle.cilk_program.specs.Sources.{source}
use Rattle.cilk_determinacy.specs.Words.{HasWords, InputsAreWords}
use Rattle.cilk_checker.proofs.ConsistentCuts.{all_cuts}
use Rattle.cilk_checker.proofs.laws.accepted_runs_have_consistent_cuts.Goals as goal

pub returns : goal.returns
returns c =
    all_cuts c.args.accepted.now c.program.ensures.determinate (subst (λ p. HasWords (source p)) c.program.ensures.value c.programs_are_of_words.ensures) (subst InputsAreWords c.input.ensures.value c.inputs_are_words.ensures)
    c.words_make_words.ensures c.serial_run_is_numbered.ensures c.cuts_are_closed.ensures c.pieces_cover_stretches.ensures
