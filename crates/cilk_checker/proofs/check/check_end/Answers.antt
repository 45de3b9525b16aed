use Rattle.std.proofs.Common.{List, refl, subst}
use Rattle.std.proofs.lemmas.Result.{err_from_is_err_and}
use Rattle.cilk_types.specs.declared.event.Event.{Event}
use Rattle.cilk_program.specs.Sources.{source}
use Rattle.cilk_tree.specs.Shape.{Spells}
use Rattle.cilk_checker.proofs.Checked.{certified, code_at, frames_at, ran_at, refused_before, run_creates, run_spelled, stops_at}
use Rattle.cilk_checker.proofs.Taking.{untaken, until_before}
use Rattle.cilk_checker.proofs.check.check_end.Goals as goal

pub returns-in_err-refusal-in-Stopped-clause-unaccepted : goal.returns-in_err-refusal-in-Stopped-clause-unaccepted
returns-in_err-refusal-in-Stopped-clause-unaccepted g c =
    let q = err_from_is_err_and c.from_residual-in_err-refusal-in-Stopped.result c.from_residual-in_err-refusal-in-Stopped.ensures.1 in
    rw (q.1, q.2) (c.in_err-refusal-in-Stopped.ensures.unaccepted (source c.args.program) c.args.input)

pub returns-in_ok-refusal-in-Stopped-clause-unaccepted : goal.returns-in_ok-refusal-in-Stopped-clause-unaccepted
returns-in_ok-refusal-in-Stopped-clause-unaccepted g c =
    let p = source c.args.program in
    refused_before p c.args.input (g.S.Source.remaining c.args.source.now) c.in_ok-right-in-Stopped.right.trace c.in-Stopped.field-0 c.in_ok-refusal-in-Stopped.refusal
    (stops_at p c.args.input c.args.end c.in-Stopped.field-0 c.in-Stopped.field-1 c.in-Stopped.field-2 c.args.trace c.in_ok-right-in-Stopped.right.trace c.in-Stopped.is c.requires.ends c.in_ok-right-in-Stopped.ensures.trace)
    c.in_ok-refusal-in-Stopped.ensures.refused

pub right_of-requires : goal.right_of-requires
right_of-requires g c =
    let p = source c.args.program in
    let ran = ran_at p c.args.input c.args.end c.in-Left.outcome c.in-Left.frames c.in-Left.code c.args.trace c.args.trace c.in-Left.is c.requires.ends refl in
    let e = run_spelled p c.args.input c.args.program.well_named c.in-Left.outcome c.args.trace ran in
    (e.0, e.1.spells)

pub returns-in_err-ended-in-Left-clause-unaccepted : goal.returns-in_err-ended-in-Left-clause-unaccepted
returns-in_err-ended-in-Left-clause-unaccepted g c =
    let p = source c.args.program in
    let es = c.in_ok-right-in-Left.right.trace in
    let same = c.in_ok-right-in-Left.ensures.trace in
    let ran = ran_at p c.args.input c.args.end c.in-Left.outcome c.in-Left.frames c.in-Left.code c.args.trace es c.in-Left.is c.requires.ends same in
    let e = run_spelled p c.args.input c.args.program.well_named c.in-Left.outcome es ran in
    let columns = c.in_ok-right-in-Left.ensures.columns e.0 (subst (λ (l : List Event). Spells e.0 l) same e.1.spells) in
    let q = err_from_is_err_and c.from_residual-in_err-ended-in-Left.result c.from_residual-in_err-ended-in-Left.ensures.1 in
    rw (q.1, q.2) (c.in_err-ended-in-Left.ensures.refused p c.args.input e.0 columns e.1 (run_creates p c.args.input c.args.program.well_named c.in-Left.outcome es ran))

pub new-requires-clause-determinate : goal.new-requires-clause-determinate
new-requires-clause-determinate g c =
    let p = source c.args.program in
    let es = c.in_ok-right-in-Left.right.trace in
    let same = c.in_ok-right-in-Left.ensures.trace in
    let ran = ran_at p c.args.input c.args.end c.in-Left.outcome c.in-Left.frames c.in-Left.code c.args.trace es c.in-Left.is c.requires.ends same in
    let x = certified p c.args.input (g.S.Source.remaining c.args.source.now) c.args.program.well_named c.serial_runs_settle.ensures c.in-Left.outcome es ran
    (λ s spells created. c.in_ok-ended-in-Left.ensures.clean s (c.in_ok-right-in-Left.ensures.columns s (subst (λ (l : List Event). Spells s l) same spells)) created) in
    rw c.into_trace-trace.ensures (x.0, x.1)

pub new-requires-clause-frames : goal.new-requires-clause-frames
new-requires-clause-frames g c =
    let p = source c.args.program in
    rw c.into_trace-trace.ensures
    (frames_at p c.args.input c.args.end c.in-Left.outcome c.in-Left.frames c.in-Left.code c.args.trace c.in_ok-right-in-Left.right.trace c.in-Left.is c.requires.ends c.in_ok-right-in-Left.ensures.trace)

pub new-requires-clause-code : goal.new-requires-clause-code
new-requires-clause-code g c = code_at (source c.args.program) c.args.input c.args.end c.in-Left.outcome c.in-Left.frames c.in-Left.code c.args.trace c.in-Left.is c.requires.ends

pub returns-in_ok-ended-in-Left-clause-accepted : goal.returns-in_ok-ended-in-Left-clause-accepted
returns-in_ok-ended-in-Left-clause-accepted g c =
    let p = source c.args.program in
    let es = c.in_ok-right-in-Left.right.trace in
    let same = c.in_ok-right-in-Left.ensures.trace in
    let ran = ran_at p c.args.input c.args.end c.in-Left.outcome c.in-Left.frames c.in-Left.code c.args.trace es c.in-Left.is c.requires.ends same in
    rw (c.new.ensures, c.into_trace-trace.ensures)
    (certified p c.args.input (g.S.Source.remaining c.args.source.now) c.args.program.well_named c.serial_runs_settle.ensures c.in-Left.outcome es ran
    (λ s spells created. c.in_ok-ended-in-Left.ensures.clean s (c.in_ok-right-in-Left.ensures.columns s (subst (λ (l : List Event). Spells s l) same spells)) created))

pub returns-in_err-right-in-Stopped-clause-part : goal.returns-in_err-right-in-Stopped-clause-part
returns-in_err-right-in-Stopped-clause-part g c =
    let q = err_from_is_err_and c.from_residual.result c.from_residual.ensures.1 in
    rw (q.1, q.2) (untaken (g.S.Source.remaining c.args.source.now) (g.S.Source.last c.args.source.now))

pub returns-in_err-right-in-Left-clause-part : goal.returns-in_err-right-in-Left-clause-part
returns-in_err-right-in-Left-clause-part g c =
    let q = err_from_is_err_and c.from_residual-in_err-right-in-Left.result c.from_residual-in_err-right-in-Left.ensures.1 in
    rw (q.1, q.2) (untaken (g.S.Source.remaining c.args.source.now) (g.S.Source.last c.args.source.now))

pub returns-in_err-refusal-in-Stopped-clause-part : goal.returns-in_err-refusal-in-Stopped-clause-part
returns-in_err-refusal-in-Stopped-clause-part g c =
    let q = err_from_is_err_and c.from_residual-in_err-refusal-in-Stopped.result c.from_residual-in_err-refusal-in-Stopped.ensures.1 in
    rw (q.1, q.2) c.in_err-refusal-in-Stopped.ensures.part

pub returns-in_ok-refusal-in-Stopped-clause-part : goal.returns-in_ok-refusal-in-Stopped-clause-part
returns-in_ok-refusal-in-Stopped-clause-part g c =
    let found = c.in_ok-refusal-in-Stopped.ensures.refused in
    until_before (g.S.Source.remaining c.args.source.now) (g.S.Source.remaining c.stopped.new.source) (g.S.Source.last c.stopped.new.source)
    c.in_ok-right-in-Stopped.right.trace found.certificate c.in_ok-refusal-in-Stopped.refusal found.holds c.in_ok-refusal-in-Stopped.ensures.whole

pub returns-in_err-ended-in-Left-clause-part : goal.returns-in_err-ended-in-Left-clause-part
returns-in_err-ended-in-Left-clause-part g c =
    let p = source c.args.program in
    let es = c.in_ok-right-in-Left.right.trace in
    let same = c.in_ok-right-in-Left.ensures.trace in
    let ran = ran_at p c.args.input c.args.end c.in-Left.outcome c.in-Left.frames c.in-Left.code c.args.trace es c.in-Left.is c.requires.ends same in
    let e = run_spelled p c.args.input c.args.program.well_named c.in-Left.outcome es ran in
    let columns = c.in_ok-right-in-Left.ensures.columns e.0 (subst (λ (l : List Event). Spells e.0 l) same e.1.spells) in
    let q = err_from_is_err_and c.from_residual-in_err-ended-in-Left.result c.from_residual-in_err-ended-in-Left.ensures.1 in
    rw (q.1, q.2) (c.in_err-ended-in-Left.ensures.part e.0 columns (run_creates p c.args.input c.args.program.well_named c.in-Left.outcome es ran))

pub returns-in_err-refusal-in-Stopped-clause-unfailed : goal.returns-in_err-refusal-in-Stopped-clause-unfailed
returns-in_err-refusal-in-Stopped-clause-unfailed g c =
    let q = err_from_is_err_and c.from_residual-in_err-refusal-in-Stopped.result c.from_residual-in_err-refusal-in-Stopped.ensures.1 in
    rw (q.1, q.2) c.in_err-refusal-in-Stopped.ensures.unfailed

pub returns-in_ok-refusal-in-Stopped-clause-unfailed : goal.returns-in_ok-refusal-in-Stopped-clause-unfailed
returns-in_ok-refusal-in-Stopped-clause-unfailed g c = c.in_ok-refusal-in-Stopped.ensures.uncounted

pub returns-in_err-ended-in-Left-clause-unfailed : goal.returns-in_err-ended-in-Left-clause-unfailed
returns-in_err-ended-in-Left-clause-unfailed g c =
    let q = err_from_is_err_and c.from_residual-in_err-ended-in-Left.result c.from_residual-in_err-ended-in-Left.ensures.1 in
    rw (q.1, q.2) c.in_err-ended-in-Left.ensures.unfailed
