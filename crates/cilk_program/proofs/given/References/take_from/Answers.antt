use Rattle.std.proofs.Common.{sym, ◌∙◌, arith}
use Rattle.std.proofs.lemmas.List.{drop_all}
use Rattle.cilk_program.proofs.given.References.take_from.Goals as goal

pub each-init : goal.each-init
each-init c =
    let none = drop_all 16 c.self.inside.items (omega (arith, c.self.invariant)) in
    let others = drop_all 16 c.other.inside.items (omega (arith, c.other.invariant)) in
    (c.other.invariant.0, (omega arith), c.self.invariant.1, none ∙ sym others)
