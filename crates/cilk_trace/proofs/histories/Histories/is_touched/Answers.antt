use Rattle.std.proofs.Common.{arith}
use Rattle.cilk_trace.proofs.Pages.{none_by, untouched_page, untouched_past}
use Rattle.cilk_trace.proofs.histories.Histories.is_touched.Goals as goal

pub returns-then-number-len : goal.returns-then-number-len
returns-then-number-len c = λ e. untouched_past c.args.self.now.pages.items c.args.number (omega arith)

pub returns : goal.returns
returns c = λ e.
    let none = none_by _ _ c.is_empty.ensures e in
    untouched_page c.args.self.now.pages.items c.args.number c.index.result.now (omega arith) c.index.ensures (omega (arith, none))
