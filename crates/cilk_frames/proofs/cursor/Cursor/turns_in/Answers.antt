use Rattle.std.proofs.Common.{[], Some, false, ap, ◌∙◌}
use Rattle.cilk_program.specs.declared.ask.Callee.TheVariants.{Loop}
use Rattle.cilk_lower.specs.declared.code.EntryPoint.{EntryPoint}
use Rattle.cilk_frames.specs.Cursor.{CursorView, begins_at}
use Rattle.cilk_frames.proofs.Following.{stands_as}
use Rattle.cilk_frames.proofs.cursor.Cursor.turns_in.Goals as goal

pub returns-clause-stands : goal.returns-clause-stands
returns-clause-stands g c = λ p inputs h fit.
    let part = c.args.part.now in
    let same = ap (λ (e : EntryPoint). begins_at e (record { words = []; part = Some part; takes = false })) c.loop_entry-entry.ensures in
    let runs = c.run_turns.ensures ∙ ap (λ (v : CursorView). record v { given = record v.given { part = Some part } }) c.in_ok-cursor.ensures in
    stands_as p c.args.code.now inputs (Loop part) c.run_turns.new.self _ runs same h fit

pub returns-clause-first : goal.returns-clause-first
returns-clause-first g c =
    let part = c.args.part.now in
    let same = ap (λ (e : EntryPoint). begins_at e (record { words = []; part = Some part; takes = false })) c.loop_entry-entry.ensures in
    let runs = c.run_turns.ensures ∙ ap (λ (v : CursorView). record v { given = record v.given { part = Some part } }) c.in_ok-cursor.ensures in
    runs ∙ same
