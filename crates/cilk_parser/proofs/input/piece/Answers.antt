use Rattle.std.proofs.Common.{◌≡◌, true, rules, sym, ap, ◌∙◌, w64, SFits}
use Rattle.std.proofs.lemmas.Int.{to_z-of_z}
use Rattle.cilk_parser.specs.Inputs.{starts_word, number_in}
use Rattle.cilk_parser.proofs.InputLaws.{word_behind}
use Rattle.cilk_parser.proofs.input.piece.Goals as goal

pub returns-in-Some : goal.returns-in-Some
returns-in-Some c =
    let fits : SFits w64 c.in-Some.number = search rules in
    let starts : starts_word c.args.bytes.now ≡ true = search rules in
    ((starts, rw (to_z-of_z w64 c.in-Some.number fits) (ap number_in (sym c.split.ensures.front) ∙ (sym c.number_in.ensures ∙ c.in-Some.is)), c.split.ensures.rest), rw c.split.ensures.rest (word_behind c.args.bytes.now starts))
