use Rattle.cilk_frames.specs.Moving.{effort}
use Rattle.cilk_frames.proofs.Following.{Loop}
use Rattle.cilk_frames.proofs.stepping.go_on.Given as goal

abbrev pub invariant-each : goal.invariant-each
invariant-each l = Loop l.code l.input l.fn.cursor l.fn.answer l.fn.left l.cursor l.left

abbrev pub decreases-each : goal.decreases-each
decreases-each l = effort l.code.instrs l.cursor.place l.left
