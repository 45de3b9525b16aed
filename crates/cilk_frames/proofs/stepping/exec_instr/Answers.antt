use Rattle.std.proofs.Common.{◌≡◌, ℕ, ℤ, List, Some, ap, sym, ◌∙◌, refl, arith}
use Rattle.std.specs.Prelude.{slice_get}
use Rattle.cilk_lower.specs.declared.code.Instr.{Instr}
use Rattle.cilk_lower.specs.Code.{CodeView}
use Rattle.cilk_lower.specs.Machine.{move}
use Rattle.cilk_frames.specs.Cursor.{CursorView}
use Rattle.cilk_frames.specs.Following.{setting_at}
use Rattle.cilk_frames.specs.Moving.{move_at}
use Rattle.cilk_frames.proofs.Effort.{found, effort_ticked, effort_onward}
use Rattle.cilk_frames.proofs.stepping.exec_instr.Goals as goal

-- the machine's move at the cursor, by that instruction
moves_by : (code : CodeView) (inputs : List ℤ) (v : CursorView) (left at : ℕ) (i j : Instr) → at ≡ v.place → slice_get code.instrs at ≡ Some i → i ≡ j → move_at code inputs v left ≡ move (setting_at inputs code v) (Some j) v.place v.stack v.held left
moves_by code inputs v left at i j here is same = ap (λ o. move (setting_at inputs code v) o v.place v.stack v.held left) (found code.instrs at v.place i j here is same)

pub returns-in-Tick-clause-falls : goal.returns-in-Tick-clause-falls
returns-in-Tick-clause-falls c = λ going. effort_ticked c.args.code.now.instrs c.args.cursor.now.place c.args.left.now c.tick.new.cursor.place c.tick.new.left (omega (arith, c.tick.ensures.falls going))

pub returns-in-Push-clause-falls : goal.returns-in-Push-clause-falls
returns-in-Push-clause-falls c = λ going. effort_ticked c.args.code.now.instrs c.args.cursor.now.place c.args.left.now c.give.new.cursor.place c.give.new.left (omega (arith, c.give.ensures.falls going))

pub returns-in-Negate-clause-falls : goal.returns-in-Negate-clause-falls
returns-in-Negate-clause-falls c = λ going. effort_ticked c.args.code.now.instrs c.args.cursor.now.place c.args.left.now c.give-in-Negate.new.cursor.place c.give-in-Negate.new.left (omega (arith, c.give-in-Negate.ensures.falls going))

pub returns-in-Not-clause-falls : goal.returns-in-Not-clause-falls
returns-in-Not-clause-falls c = λ going. effort_ticked c.args.code.now.instrs c.args.cursor.now.place c.args.left.now c.give-in-Not.new.cursor.place c.give-in-Not.new.left (omega (arith, c.give-in-Not.ensures.falls going))

pub returns-in-Apply-clause-falls : goal.returns-in-Apply-clause-falls
returns-in-Apply-clause-falls c = λ going. effort_ticked c.args.code.now.instrs c.args.cursor.now.place c.args.left.now c.give_checked.new.cursor.place c.give_checked.new.left (omega (arith, c.give_checked.ensures.falls going))

pub returns-in-ApplyNumber-clause-falls : goal.returns-in-ApplyNumber-clause-falls
returns-in-ApplyNumber-clause-falls c = λ going. effort_ticked c.args.code.now.instrs c.args.cursor.now.place c.args.left.now c.apply_number.new.cursor.place c.apply_number.new.left (omega (arith, c.apply_number.ensures.falls going))

pub returns-in-Truth-clause-falls : goal.returns-in-Truth-clause-falls
returns-in-Truth-clause-falls c = λ going. effort_ticked c.args.code.now.instrs c.args.cursor.now.place c.args.left.now c.give-in-Truth.new.cursor.place c.give-in-Truth.new.left (omega (arith, c.give-in-Truth.ensures.falls going))

pub returns-in-Input-clause-falls : goal.returns-in-Input-clause-falls
returns-in-Input-clause-falls c = λ going. effort_ticked c.args.code.now.instrs c.args.cursor.now.place c.args.left.now c.give_checked-in-Input.new.cursor.place c.give_checked-in-Input.new.left (omega (arith, c.give_checked-in-Input.ensures.falls going))

pub returns-in-InputCount-clause-falls : goal.returns-in-InputCount-clause-falls
returns-in-InputCount-clause-falls c = λ going. effort_ticked c.args.code.now.instrs c.args.cursor.now.place c.args.left.now c.give-in-InputCount.new.cursor.place c.give-in-InputCount.new.left (omega (arith, c.give-in-InputCount.ensures.falls going))

pub returns-in-Tick-clause-moves : goal.returns-in-Tick-clause-moves
returns-in-Tick-clause-moves c = moves_by c.args.code.now c.args.input.now c.args.cursor.now c.args.left.now c.place.result c.at.result.now _ c.place.ensures c.at.ensures.value c.in-Tick.is ∙ c.tick.ensures.moves c.args.code.now

pub returns-in-Load-clause-moves : goal.returns-in-Load-clause-moves
returns-in-Load-clause-moves c = moves_by c.args.code.now c.args.input.now c.args.cursor.now c.args.left.now c.place.result c.at.result.now _ c.place.ensures c.at.ensures.value c.in-Load.is ∙ c.load.ensures.moves c.args.code.now

pub returns-in-Value-clause-moves : goal.returns-in-Value-clause-moves
returns-in-Value-clause-moves c = moves_by c.args.code.now c.args.input.now c.args.cursor.now c.args.left.now c.place.result c.at.result.now _ c.place.ensures c.at.ensures.value c.in-Value.is ∙ c.load-in-Value.ensures.moves c.args.code.now

pub returns-in-LoadElement-clause-moves : goal.returns-in-LoadElement-clause-moves
returns-in-LoadElement-clause-moves c = moves_by c.args.code.now c.args.input.now c.args.cursor.now c.args.left.now c.place.result c.at.result.now _ c.place.ensures c.at.ensures.value c.in-LoadElement.is ∙ c.load_element.ensures.moves c.args.code.now

pub returns-in-FetchElement-clause-moves : goal.returns-in-FetchElement-clause-moves
returns-in-FetchElement-clause-moves c = moves_by c.args.code.now c.args.input.now c.args.cursor.now c.args.left.now c.place.result c.at.result.now _ c.place.ensures c.at.ensures.value c.in-FetchElement.is ∙ c.fetch_element.ensures.moves c.args.code.now c.args.left.now

pub returns-in-StoreElement-clause-moves : goal.returns-in-StoreElement-clause-moves
returns-in-StoreElement-clause-moves c = moves_by c.args.code.now c.args.input.now c.args.cursor.now c.args.left.now c.place.result c.at.result.now _ c.place.ensures c.at.ensures.value c.in-StoreElement.is ∙ c.store_element.ensures.moves c.args.code.now c.args.left.now

pub returns-in-CallLoop-clause-moves : goal.returns-in-CallLoop-clause-moves
returns-in-CallLoop-clause-moves c = moves_by c.args.code.now c.args.input.now c.args.cursor.now c.args.left.now c.place.result c.at.result.now _ c.place.ensures c.at.ensures.value c.in-CallLoop.is ∙ c.call_loop.ensures.moves c.args.code.now c.args.left.now

pub returns-in-GiveResult-clause-moves : goal.returns-in-GiveResult-clause-moves
returns-in-GiveResult-clause-moves c = moves_by c.args.code.now c.args.input.now c.args.cursor.now c.args.left.now c.place.result c.at.result.now _ c.place.ensures c.at.ensures.value c.in-GiveResult.is ∙ c.give_result.ensures.moves c.args.code.now c.args.left.now

pub returns-in-GiveResult-clause-falls : goal.returns-in-GiveResult-clause-falls
returns-in-GiveResult-clause-falls c = λ going. effort_onward c.args.code.now.instrs c.args.cursor.now.place c.give_result.new.cursor.place c.args.left.now _ (found c.args.code.now.instrs c.place.result c.args.cursor.now.place c.at.result.now _ c.place.ensures c.at.ensures.value c.in-GiveResult.is) refl (omega (arith, c.give_result.ensures.onward))

pub returns-in-CallLoop-clause-falls : goal.returns-in-CallLoop-clause-falls
returns-in-CallLoop-clause-falls c = λ going. effort_onward c.args.code.now.instrs c.args.cursor.now.place c.call_loop.new.cursor.place c.args.left.now _ (found c.args.code.now.instrs c.place.result c.args.cursor.now.place c.at.result.now _ c.place.ensures c.at.ensures.value c.in-CallLoop.is) refl (omega (arith, c.call_loop.ensures.onward))

pub returns-in-Combine-clause-falls : goal.returns-in-Combine-clause-falls
returns-in-Combine-clause-falls c = λ going. effort_onward c.args.code.now.instrs c.args.cursor.now.place c.put.new.cursor.place c.args.left.now _ (found c.args.code.now.instrs c.place.result c.args.cursor.now.place c.at.result.now _ c.place.ensures c.at.ensures.value c.in-Combine.is) refl (omega (arith, ap (λ (v : CursorView). v.place) c.put.ensures.cursor, c.pop-x.ensures.place, c.pop-y.ensures.place))

pub returns-in-AddNumber-clause-falls : goal.returns-in-AddNumber-clause-falls
returns-in-AddNumber-clause-falls c = λ going. effort_onward c.args.code.now.instrs c.args.cursor.now.place c.put-in-AddNumber.new.cursor.place c.args.left.now _ (found c.args.code.now.instrs c.place.result c.args.cursor.now.place c.at.result.now _ c.place.ensures c.at.ensures.value c.in-AddNumber.is) refl (omega (arith, ap (λ (v : CursorView). v.place) c.put-in-AddNumber.ensures.cursor, c.pop-x-in-AddNumber.ensures.place))

pub returns-in-Jump-clause-falls : goal.returns-in-Jump-clause-falls
returns-in-Jump-clause-falls c = λ going. effort_onward c.args.code.now.instrs c.args.cursor.now.place c.skip_if-in-Jump.new.cursor.place c.args.left.now _ (found c.args.code.now.instrs c.place.result c.args.cursor.now.place c.at.result.now _ c.place.ensures c.at.ensures.value c.in-Jump.is) refl (omega (arith, ap (λ (v : CursorView). v.place) c.skip_if-in-Jump.ensures.cursor))

pub returns-in-SetResult-clause-falls : goal.returns-in-SetResult-clause-falls
returns-in-SetResult-clause-falls c = λ going. effort_onward c.args.code.now.instrs c.args.cursor.now.place c.next-in-SetResult.new.self.place c.args.left.now _ (found c.args.code.now.instrs c.place.result c.args.cursor.now.place c.at.result.now _ c.place.ensures c.at.ensures.value c.in-SetResult.is) refl (omega (arith, ap (λ (v : CursorView). v.place) c.next-in-SetResult.ensures, ap (λ (v : CursorView). v.place) c.hold.ensures, c.pop-word-in-SetResult.ensures.place))
