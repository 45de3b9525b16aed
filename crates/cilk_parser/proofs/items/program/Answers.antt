use Rattle.std.proofs.Common.{◌≡◌, ◌≤◌, List, [], ◌∷◌, length, refl, arith, ◌∙◌}
use Rattle.cilk_syntax.specs.declared.token.Token.{Token}
use Rattle.cilk_syntax.specs.Expected.{Unexpected, run}
use Rattle.cilk_parser.proofs.items.program.Goals as goal

-- where nothing is expected, the tokens that are left are refused
left_over : (rest : List Token) → 1 ≤ length rest → run rest [] 0 ≡ Unexpected rest
left_over [] h = absurd (omega (arith, h))
left_over (t ∷ rest) h = refl

pub returns-in_default-clause-stops : goal.returns-in_default-clause-stops
returns-in_default-clause-stops c = c.in_ok-list.ensures.reads ∙ left_over c.in_ok-list.rest.now c.in_default.len_at_least
