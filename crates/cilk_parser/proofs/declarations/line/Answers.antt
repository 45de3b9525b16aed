use Rattle.std.proofs.Common.{◌≡◌, pos, ◌∷◌, ◌∙◌, refl, rules, slice_index_or}
use Rattle.cilk_syntax.specs.declared.token.Kind.TheVariants as kinds
use Rattle.cilk_syntax.specs.declared.token.Token.{Token}
use Rattle.cilk_syntax.specs.Expected.{Locals}
use Rattle.cilk_syntax.specs.Grammar.{SpellsLocalLine}
use Rattle.cilk_syntax.proofs.Runs.{takes}
use Rattle.cilk_syntax.proofs.Stopping.{first_is, handed}
use Rattle.cilk_parser.proofs.declarations.line.Goals as goal

pub returns-in_err-list-clause-stops : goal.returns-in_err-list-clause-stops
returns-in_err-list-clause-stops c =
    handed c.from_residual.result c.in_err-list.field-0.0 _ c.from_residual.ensures.1 c.in_err-list.ensures.stops

pub returns-in-Semicolon-clause-tree : goal.returns-in-Semicolon-clause-tree
unfolding SpellsLocalLine
returns-in-Semicolon-clause-tree c =
    let t0 : Token = record { kind = kinds.Number (pos 0); at = 0; end = 0 } in
    let kind : (slice_index_or c.in_ok-list.rest.now 0 t0).kind ≡ kinds.Semicolon = search rules in
    (c.in_ok-list.rest.now, c.in_ok-list.ensures.tree, first_is _ t0 kinds.Semicolon c.in-Semicolon.len_at_least kind)

pub returns-in-Semicolon-clause-reads : goal.returns-in-Semicolon-clause-reads
returns-in-Semicolon-clause-reads c =
    let t0 : Token = record { kind = kinds.Number (pos 0); at = 0; end = 0 } in
    let kind : (slice_index_or c.in_ok-list.rest.now 0 t0).kind ≡ kinds.Semicolon = search rules in
    let is = first_is _ t0 kinds.Semicolon c.in-Semicolon.len_at_least kind in
    λ stack. c.in_ok-list.ensures.reads stack ∙ takes kinds.Semicolon _ _ (Locals c.args.depth ∷ stack) stack 0 0 is refl
