use Rattle.std.proofs.Common.{◌≡◌, ℕ, List, ◌∷◌, ◌∙◌, refl, sym, subst}
use Rattle.cilk_syntax.specs.declared.token.Kind.TheVariants as kinds
use Rattle.cilk_syntax.specs.declared.token.Token.{Token}
use Rattle.cilk_syntax.specs.declared.marks.Punct.TheVariants as marks
use Rattle.cilk_syntax.specs.Expected.{Symbol, One, Named, Operand, Tail, Anew, Beginning, run}
use Rattle.cilk_syntax.specs.Grammar.{Is, SpellsBeginning, SpellsDefined}
use Rattle.cilk_syntax.specs.Stops.{IsStop}
use Rattle.cilk_syntax.proofs.Runs.{begins_assigning, takes}
use Rattle.cilk_syntax.proofs.Stopping.{handed}
use Rattle.cilk_parser.proofs.loops.beginning.Goals as goal

-- the symbols expected after an `int`
abbrev defines : ℕ → List Symbol → List Symbol
defines d stack = Named ∷ One marks.Assign ∷ Operand d ∷ Tail d ∷ Anew ∷ One marks.Semicolon ∷ stack

begins : (ts ts1 : List Token) (d : ℕ) (stack : List Symbol) → Is kinds.Int ts ts1 → run ts (Beginning d ∷ stack) 0 ≡ run ts1 (defines d stack) 0
begins ts ts1 d stack is = takes kinds.Int ts ts1 (Beginning d ∷ stack) (defines d stack) 0 0 is refl

pub returns-in-Some-clause-tree : goal.returns-in-Some-clause-tree
unfolding SpellsBeginning
returns-in-Some-clause-tree c = c.in-Some.ensures.found

pub returns-in-Some-clause-reads : goal.returns-in-Some-clause-reads
returns-in-Some-clause-reads c =
    λ stack. takes kinds.Semicolon _ _ (Beginning c.args.depth ∷ stack) stack 0 0 c.in-Some.ensures.found refl

pub returns-in_err-variable-clause-stops : goal.returns-in_err-variable-clause-stops
returns-in_err-variable-clause-stops c =
    handed c.from_residual.result c.in_err-variable.field-0.0 _ c.from_residual.ensures.1
    (λ stack. subst (IsStop c.in_err-variable.field-0.0) (sym (begins _ _ c.args.depth stack c.in-Some-behind.ensures.found)) (c.in_err-variable.ensures.stops stack))

pub returns-in-Some-behind-clause-tree : goal.returns-in-Some-behind-clause-tree
unfolding SpellsBeginning SpellsDefined
returns-in-Some-behind-clause-tree c = (c.in-Some-behind.after.now, c.in-Some-behind.ensures.found, c.in_ok-variable.ensures.tree)

pub returns-in-Some-behind-clause-reads : goal.returns-in-Some-behind-clause-reads
returns-in-Some-behind-clause-reads c =
    λ stack. begins _ _ c.args.depth stack c.in-Some-behind.ensures.found ∙ c.in_ok-variable.ensures.reads stack

pub returns-in_err-first-clause-stops : goal.returns-in_err-first-clause-stops
returns-in_err-first-clause-stops c =
    handed c.from_residual-in_err-first.result c.in_err-first.field-0.0 _ c.from_residual-in_err-first.ensures.1
    (λ stack. subst (IsStop c.in_err-first.field-0.0)
    (sym (begins_assigning c.args.tokens.now c.args.depth stack 0 c.in_default.ensures.none c.in_default-behind.ensures.none))
    (c.in_err-first.ensures.stops stack))

pub returns-clause-tree : goal.returns-clause-tree
unfolding SpellsBeginning
returns-clause-tree c = c.in_ok-first.ensures.tree

pub returns-clause-reads : goal.returns-clause-reads
returns-clause-reads c =
    λ stack. begins_assigning c.args.tokens.now c.args.depth stack 0 c.in_default.ensures.none c.in_default-behind.ensures.none
    ∙ c.in_ok-first.ensures.reads stack
