use Rattle.std.proofs.Common.{◌∷◌, ap, arith, length, length-append, string_bytes, ◌∙◌}
use Rattle.std.specs.Prelude.{decimal}
use Rattle.cilk_messages.proofs.report.of_number.Goals as goal

pub returns-clause-page : goal.returns-clause-page
returns-clause-page c = (string_bytes c.push_meaning.new.text, c.in_ok-format.ensures.ok)

pub returns-clause-longer : goal.returns-clause-longer
returns-clause-longer c =
    let text = string_bytes c.push_meaning.new.text in
    omega (arith, ap length c.in_ok-format.ensures.ok ∙ length-append (decimal c.args.number) (58 ∷ 32 ∷ text), c.in_ok-push_meaning.ensures)
