use Rattle.std.proofs.Common.{◌≡◌, pos, ◌∷◌, ◌∙◌, refl, rules, slice_index_or}
use Rattle.cilk_syntax.specs.declared.token.Kind.TheVariants as kinds
use Rattle.cilk_syntax.specs.declared.token.Token.{Token}
use Rattle.cilk_syntax.specs.Expected.{MoreArguments}
use Rattle.cilk_syntax.proofs.Lists.{spells_arguments}
use Rattle.cilk_syntax.proofs.Runs.{some_argument, takes}
use Rattle.cilk_syntax.proofs.Stopping.{first_is}
use Rattle.cilk_parser.proofs.calls.arguments.Goals as goal

pub returns-in-Close-clause-tree : goal.returns-in-Close-clause-tree
returns-in-Close-clause-tree c =
    let t0 : Token = record { kind = kinds.Number (pos 0); at = 0; end = 0 } in
    let kind : (slice_index_or c.in_ok-list.rest.now 0 t0).kind ≡ kinds.Close = search rules in
    spells_arguments _ _ _ _ c.in_ok-list.ensures.tree (first_is _ t0 kinds.Close c.in-Close.len_at_least kind)

pub returns-in-Close-clause-reads : goal.returns-in-Close-clause-reads
returns-in-Close-clause-reads c =
    let t0 : Token = record { kind = kinds.Number (pos 0); at = 0; end = 0 } in
    let kind : (slice_index_or c.in_ok-list.rest.now 0 t0).kind ≡ kinds.Close = search rules in
    λ stack. some_argument c.args.tokens.now c.args.depth stack 0 c.in_default.ensures.none
    ∙ (c.in_ok-list.ensures.reads stack ∙ takes kinds.Close _ _ (MoreArguments c.args.depth ∷ stack) stack 0 0 (first_is _ t0 kinds.Close c.in-Close.len_at_least kind) refl)
