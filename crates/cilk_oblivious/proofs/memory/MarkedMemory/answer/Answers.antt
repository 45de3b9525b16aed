use Rattle.std.proofs.Common.{ap}
use Rattle.cilk_oblivious.proofs.Marked.{set_shown, update_shown}
use Rattle.cilk_oblivious.proofs.memory.MarkedMemory.answer.Goals as goal

pub returns-in_ok-mark_view-in-Update-Update : goal.returns-in_ok-mark_view-in-Update-Update
returns-in_ok-mark_view-in-Update-Update c =
    let m = c.in_ok-mark_view-in-Update-Update.ensures in
    let a = c.in-Update-Update in
    update_shown c.args.self.now c.mark_view.new.self c.args.sent.now c.args.ask.now c.args.event.now c.done-in-Update-Update.result c.first-in-Update-Update.result
    a.field-0-0 a.field-1-0 a.instance _ c.done-in-Update-Update.ensures c.first-in-Update-Update.ensures (record { cells = ap (λ v. v.items) m.cells; views = m.views }) a.is-0 a.is-1

pub returns-in_ok-mark_view-in-Set-Set : goal.returns-in_ok-mark_view-in-Set-Set
returns-in_ok-mark_view-in-Set-Set c =
    let m = c.in_ok-mark_view-in-Set-Set.ensures in
    let a = c.in-Set-Set in
    set_shown c.args.self.now c.mark_view-in-Set-Set.new.self c.args.sent.now c.args.ask.now c.args.event.now c.done-in-Set-Set.result c.first-in-Set-Set.result
    a.field-0-0 a.field-1-0 a.instance _ c.done-in-Set-Set.ensures c.first-in-Set-Set.ensures (record { cells = ap (λ v. v.items) m.cells; views = m.views }) a.is-0 a.is-1
