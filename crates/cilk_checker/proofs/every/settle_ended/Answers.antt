use Rattle.std.proofs.Common.{List, sym, subst}
use Rattle.cilk_types.specs.declared.event.Event.{Event}
use Rattle.cilk_program.specs.Outcomes.{Conclusion}
use Rattle.cilk_program.specs.SerialRun.{Transcript, IsSerialRun}
use Rattle.cilk_program.specs.Sources.{source}
use Rattle.cilk_oblivious.specs.Cursors.{hidden_of}
use Rattle.cilk_oblivious.specs.Open.{IsObliviousRun}
use Rattle.cilk_checker.proofs.OnEvery.{run_of, found_here, found_everywhere}
use Rattle.cilk_checker.proofs.every.settle_ended.Goals as goal

pub is_oblivious-requires-clause-behaves : goal.is_oblivious-requires-clause-behaves
is_oblivious-requires-clause-behaves c = (c.in_ok-finding.ensures (source c.args.program.now) c.args.input.now c.requires).1.0

pub is_oblivious-requires-clause-run : goal.is_oblivious-requires-clause-run
is_oblivious-requires-clause-run c =
    let p = source c.args.program.now in
    let found = (c.in_ok-finding.ensures p c.args.input.now c.requires).0 in
    let r = run_of p c.args.input.now c.args.trace.now c.in_ok-finding.finding found in
    (r.0, r.1, subst (λ (es : List Event). IsSerialRun p c.args.input.now r.0 es r.1) (sym c.as_slice.ensures.events) r.2)

pub returns : goal.returns
returns c =
    let p = source c.args.program.now in
    let well = c.args.program.now.well_named in
    let has = c.programs_are_of_words.ensures in
    let words = c.inputs_are_words.ensures in
    let found = (c.in_ok-finding.ensures p c.args.input.now c.requires).0 in
    let hidden = hidden_of c.args.hidden.now in
    record {
      this = found_here p c.args.input.now well has words c.args.trace.now c.in_ok-finding.finding found;
      every = λ yes. found_everywhere p c.args.input.now well has words hidden c.args.trace.now c.in_ok-finding.finding found
          (subst (λ (es : List Event). (run : Transcript) (e : Conclusion) → IsSerialRun p c.args.input.now run es e → IsObliviousRun p c.args.input.now hidden es e) c.as_slice.ensures.events (c.in_ok-is_on_every.ensures yes));
    }
