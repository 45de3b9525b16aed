use Rattle.std.proofs.Common.{arith}
use Rattle.cilk_program.specs.Sources.{source}
use Rattle.cilk_determinacy.proofs.Strands.{spell_one_shape}
use Rattle.cilk_cert_maker.proofs.Begun.{few_columns}
use Rattle.cilk_cert_maker.proofs.make.make.Goals as goal

pub certificate-requires : goal.certificate-requires
certificate-requires c =
    let p = source c.args.program.now in
    let ran = c.in_ok-outcome.ensures.ok in
    let one = spell_one_shape p c.args.input.now ran.run c.in_ok-outcome.trace c.in_ok-outcome.outcome ran.serial in
    let few = few_columns p c.args.input.now ran.run c.in_ok-outcome.trace c.in_ok-outcome.outcome one.shape c.args.program.now.well_named ran.serial one.spells in
    let frames = few.frames in
    (one.shape, one.spells, omega (arith, frames))

pub returns-clause-right : goal.returns-clause-right
returns-clause-right c =
    let p = source c.args.program.now in
    let ran = c.in_ok-outcome.ensures.ok in
    let one = spell_one_shape p c.args.input.now ran.run c.in_ok-outcome.trace c.in_ok-outcome.outcome ran.serial in
    record {
      shape = one.shape;
      events = c.in_ok-outcome.trace;
      outcome = c.in_ok-outcome.outcome;
      ran = ran;
      spells = one.spells;
      right = c.in_ok-certificate.ensures.right one.shape one.spells;
    }
