use Rattle.std.proofs.Common.{◌≡◌, ℕ, List, ◌∷◌, refl, sym, subst, ◌∙◌}
use Rattle.cilk_syntax.specs.declared.token.Kind.TheVariants as kinds
use Rattle.cilk_syntax.specs.declared.token.Token.{Token}
use Rattle.cilk_syntax.specs.declared.marks.Punct.TheVariants as marks
use Rattle.cilk_syntax.specs.Expected.{Symbol, One, Named, Declaration, run}
use Rattle.cilk_syntax.specs.Grammar.{Is}
use Rattle.cilk_syntax.specs.Stops.{IsStop}
use Rattle.cilk_syntax.proofs.Lists.{spells_reducer}
use Rattle.cilk_syntax.proofs.Runs.{takes}
use Rattle.cilk_syntax.proofs.Stopping.{handed}
use Rattle.cilk_parser.proofs.declarations.declaration.Goals as goal

-- the symbols expected after a `cilk_reducer`
abbrev reduces : List Symbol → List Symbol
reduces stack = One marks.Open ∷ Named ∷ One marks.Close ∷ Named ∷ stack

begins : (ts ts1 : List Token) (d : ℕ) (stack : List Symbol) → Is kinds.CilkReducer ts ts1 → run ts (Declaration d ∷ stack) 0 ≡ run ts1 (reduces (One marks.Semicolon ∷ stack)) 0
begins ts ts1 d stack is = takes kinds.CilkReducer ts ts1 (Declaration d ∷ stack) (reduces (One marks.Semicolon ∷ stack)) 0 0 is refl

pub returns-in-Some-clause-tree : goal.returns-in-Some-clause-tree
returns-in-Some-clause-tree c =
    λ t is. (c.args.tokens.now, c.in_ok-declared.rest.now, (t, refl, is), spells_reducer _ _ _ _ c.in-Some.ensures.found c.in_ok-declared.ensures.tree, c.in_ok-rest.ensures.token)

pub returns-in-Some-clause-reads : goal.returns-in-Some-clause-reads
returns-in-Some-clause-reads c =
    λ stack. begins _ _ c.args.depth stack c.in-Some.ensures.found
    ∙ (c.in_ok-declared.ensures.reads (One marks.Semicolon ∷ stack) ∙ c.in_ok-rest.ensures.reads stack 0)

pub returns-in_err-declared-clause-stops : goal.returns-in_err-declared-clause-stops
returns-in_err-declared-clause-stops c =
    handed c.from_residual.result c.in_err-declared.field-0.0 _ c.from_residual.ensures.1
    (λ stack. subst (IsStop c.in_err-declared.field-0.0) (sym (begins _ _ c.args.depth stack c.in-Some.ensures.found))
    (c.in_err-declared.ensures.stops (One marks.Semicolon ∷ stack)))

pub returns-in_err-rest-clause-stops : goal.returns-in_err-rest-clause-stops
returns-in_err-rest-clause-stops c =
    handed c.from_residual-in_err-rest.result c.in_err-rest.field-0.0 _ c.from_residual-in_err-rest.ensures.1
    (λ stack. subst (IsStop c.in_err-rest.field-0.0)
    (sym (begins _ _ c.args.depth stack c.in-Some.ensures.found ∙ c.in_ok-declared.ensures.reads (One marks.Semicolon ∷ stack)))
    (c.in_err-rest.ensures.stops stack 0))
