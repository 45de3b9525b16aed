use Rattle.std.proofs.Common.{subst}
use Rattle.cilk_checker.specs.Judging.{meant}
use Rattle.cilk_program.specs.Sources.{source}
use Rattle.cilk_parser.specs.declared.script_choices.TheConstants.{MAX_CHOICES}
use Rattle.cilk_schedule.specs.Strict.{AreSkips, tasks_within}
use Rattle.cilk_commands.proofs.programs.skips.Goals as goal

pub returns-in-Ok : goal.returns-in-Ok
returns-in-Ok c =
    let skipped =
    subst (λ steps. AreSkips (source c.in_ok-program.program) c.in_ok-input.input c.args.workers (tasks_within MAX_CHOICES steps) c.in-Ok.played.skips)
    c.as_slice.ensures.value c.in-Ok.ensures.skips in (
      meant c.in_ok-program.program,
      c.in_ok-program.ensures.ok,
      (c.in_ok-input.input, c.in_ok-input.ensures.ok, (c.in_ok-steps.steps.items, c.in_ok-steps.ensures.ok, skipped)),
    )
