use Rattle.std.proofs.Common.{◌≡◌, ◌-◌, length, refl, arith}
use Rattle.cilk_trace.proofs.Results.{if_ok}
use Rattle.cilk_trace.proofs.Touching.{ascends, idle, raced, touched}
use Rattle.cilk_trace.proofs.pass.Pass.meet.Goals as goal

pub returns-in-Some-clause-clean : goal.returns-in-Some-clause-clean
returns-in-Some-clause-clean c =
    if_ok c.touch.result c.touch.ensures.clean
    (λ m t clean s done more here b. let w = t clean (ascends s done _ _ _ b) in
    touched s done more c.args.line.now _ _ _ _ c.in-Some.kind c.in-Some.cells c.args.here here c.in-Some.ensures.does c.touch.ensures.same w.0 w.1 b)

pub returns-in-Some-clause-race : goal.returns-in-Some-clause-race
returns-in-Some-clause-race c =
    if_ok c.touch.result c.touch.ensures.race
    (λ m t p is s done more here b. let w = t p is in
    raced s done more c.args.line.now _ _ c.in-Some.kind c.in-Some.cells c.args.here p here c.in-Some.ensures.does w.0 (w.1 (ascends s done _ _ _ b)) b)

pub returns-in_ok-meet-in-None-clause-clean : goal.returns-in_ok-meet-in-None-clause-clean
returns-in_ok-meet-in-None-clause-clean c = λ clean s done more here b.
    let at : length done ≡ c.args.here - 1 = omega (arith, here) in
    idle s done more c.args.line.now _ _ _ _ c.in-None.ensures.idle (c.in_ok-meet-in-None.ensures done at b.intervals) refl b
