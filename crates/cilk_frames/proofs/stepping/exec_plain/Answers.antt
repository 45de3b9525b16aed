use Rattle.std.proofs.Common.{ap, refl, arith}
use Rattle.cilk_frames.specs.Cursor.{CursorView}
use Rattle.cilk_frames.proofs.Effort.{found, effort_ticked, effort_onward}
use Rattle.cilk_frames.proofs.stepping.exec_plain.Goals as goal

pub returns-in-Tick-clause-falls : goal.returns-in-Tick-clause-falls
returns-in-Tick-clause-falls c = λ done. effort_ticked c.args.code.now.instrs c.args.cursor.now.place c.args.left.now _ _ (omega (arith, c.if-left-gt0.true))

pub returns-in-Push-clause-falls : goal.returns-in-Push-clause-falls
returns-in-Push-clause-falls c = λ done. effort_ticked c.args.code.now.instrs c.args.cursor.now.place c.args.left.now _ _ (omega (arith, c.put_counted.ensures.left))

pub returns-in-Some-clause-falls : goal.returns-in-Some-clause-falls
returns-in-Some-clause-falls c = λ done. effort_ticked c.args.code.now.instrs c.args.cursor.now.place c.args.left.now _ _ (omega (arith, c.put_counted-in-Apply.ensures.left))

pub returns-in-Some-apply-clause-falls : goal.returns-in-Some-apply-clause-falls
returns-in-Some-apply-clause-falls c = λ done. effort_ticked c.args.code.now.instrs c.args.cursor.now.place c.args.left.now _ _ (omega (arith, c.put_past_next.ensures.left))

pub returns-in-0-clause-falls : goal.returns-in-0-clause-falls
returns-in-0-clause-falls c = λ done. effort_onward c.args.code.now.instrs c.args.cursor.now.place c.skip.new.self.place c.args.left.now _ (found c.args.code.now.instrs c.place.result c.args.cursor.now.place c.at.result.now _ c.place.ensures c.at.ensures.value c.in-JumpIfZero.is) refl (omega (arith, ap (λ (v : CursorView). v.place) c.skip.ensures, c.pop.ensures.place))

pub returns-in_default-pop-clause-falls : goal.returns-in_default-pop-clause-falls
returns-in_default-pop-clause-falls c = λ done. effort_onward c.args.code.now.instrs c.args.cursor.now.place c.next-in_default-pop.new.self.place c.args.left.now _ (found c.args.code.now.instrs c.place.result c.args.cursor.now.place c.at.result.now _ c.place.ensures c.at.ensures.value c.in-JumpIfZero.is) refl (omega (arith, ap (λ (v : CursorView). v.place) c.next-in_default-pop.ensures, c.pop.ensures.place))

pub returns-in-0-pop-clause-falls : goal.returns-in-0-pop-clause-falls
returns-in-0-pop-clause-falls c = λ done. effort_onward c.args.code.now.instrs c.args.cursor.now.place c.next-in-0-pop.new.self.place c.args.left.now _ (found c.args.code.now.instrs c.place.result c.args.cursor.now.place c.at.result.now _ c.place.ensures c.at.ensures.value c.in-JumpBackUnlessZero.is) refl (omega (arith, ap (λ (v : CursorView). v.place) c.next-in-0-pop.ensures, c.pop-in-JumpBackUnlessZero.ensures.place))
