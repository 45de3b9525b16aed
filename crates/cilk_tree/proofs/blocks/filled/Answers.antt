use Rattle.std.proofs.Common.{◌≡◌, ℕ, ◌<◌, List, length, sym, ◌∙◌, refl, arith}
use Rattle.std.proofs.lemmas.List.{get_or_past}
use mathlib.Core.Logic.{dite}
use native.Mathlib.Decide.{dec_lt}
use Rattle.cilk_tree.proofs.blocks.filled.Goals as goal

pub returns-clause-each : goal.returns-clause-each
returns-clause-each c =
    let column : List ℕ = c.resize.new.self.items in
    let n : ℕ = c.args.count in
    let h = c.in_ok-resize.ensures in
    let long : length column ≡ n = sym c.resize.new.self.ok.0 ∙ h.len in
    let none = c.in_ok-column.ensures.len in
    λ k. dite (dec_lt k n) (λ (lt : k < n). h.by_index.1 k c.args.number refl (omega (arith, none)) lt) (λ past. get_or_past column k c.args.number (omega (arith, long, past)))
