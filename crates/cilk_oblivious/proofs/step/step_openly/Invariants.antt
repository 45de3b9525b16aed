use Rattle.cilk_frames.specs.Moving.{effort}
use Rattle.cilk_oblivious.specs.Cursors.{hidden_of}
use Rattle.cilk_oblivious.proofs.Steps.{Both}
use Rattle.cilk_oblivious.proofs.step.step_openly.Given as goal

abbrev pub invariant-each : goal.invariant-each
invariant-each l = Both (hidden_of l.hidden) l.code l.input l.fn.frame.cursor l.fn.frame.marks l.fn.told.answer l.fn.told.mark l.fn.request.left l.frame.cursor l.frame.marks l.request.left

abbrev pub decreases-each : goal.decreases-each
decreases-each l = effort l.code.instrs l.frame.cursor.place l.request.left
