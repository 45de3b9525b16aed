use Rattle.std.proofs.Common.{ℕ, List, ◌∷◌, ◌∙◌}
use Rattle.cilk_syntax.specs.declared.marks.Punct.TheVariants as marks
use Rattle.cilk_syntax.specs.Expected.{Symbol, One, Named, Operand, Tail, Anew, UnitStep}
use Rattle.cilk_syntax.specs.Grammar.{SpellsBounds, SpellsDefined, SpellsTested}
use Rattle.cilk_syntax.proofs.Stopping.{handed, along}
use Rattle.cilk_parser.proofs.loops.bounds.Goals as goal

-- the symbols expected after the first part of the head
abbrev second : ℕ → List Symbol → List Symbol
second d stack = Named ∷ One marks.Less ∷ Operand d ∷ Tail d ∷ Anew ∷ One marks.Semicolon ∷ UnitStep ∷ One marks.Close ∷ stack

-- and those before it
abbrev first : ℕ → List Symbol → List Symbol
first d stack = Named ∷ One marks.Assign ∷ Operand d ∷ Tail d ∷ Anew ∷ One marks.Semicolon ∷ second d stack

pub returns-clause-reads : goal.returns-clause-reads
returns-clause-reads c =
    let d = c.args.depth in
    λ stack. c.in_ok-rest.ensures.reads (One marks.Int ∷ first d stack) 0
    ∙ (c.in_ok-rest-2.ensures.reads (first d stack) 0
    ∙ (c.in_ok-variable.ensures.reads (second d stack)
    ∙ (c.in_ok-tested.ensures.reads (UnitStep ∷ One marks.Close ∷ stack) ∙ c.in_ok-stepped.ensures.reads stack)))

pub returns-in_err-variable-clause-stops : goal.returns-in_err-variable-clause-stops
returns-in_err-variable-clause-stops c =
    let d = c.args.depth in
    handed c.from_residual-in_err-variable.result c.in_err-variable.field-0.0 _ c.from_residual-in_err-variable.ensures.1
    (λ stack. along _ c.args.tokens.now c.in_ok-rest-2.rest.now (One marks.Open ∷ One marks.Int ∷ first d stack) (first d stack)
    (c.in_ok-rest.ensures.reads (One marks.Int ∷ first d stack) 0 ∙ c.in_ok-rest-2.ensures.reads (first d stack) 0)
    (c.in_err-variable.ensures.stops (second d stack)))

pub returns-in_err-tested-clause-stops : goal.returns-in_err-tested-clause-stops
returns-in_err-tested-clause-stops c =
    let d = c.args.depth in
    handed c.from_residual-in_err-tested.result c.in_err-tested.field-0.0 _ c.from_residual-in_err-tested.ensures.1
    (λ stack. along _ c.args.tokens.now c.in_ok-variable.rest.now (One marks.Open ∷ One marks.Int ∷ first d stack) (second d stack)
    (c.in_ok-rest.ensures.reads (One marks.Int ∷ first d stack) 0 ∙ (c.in_ok-rest-2.ensures.reads (first d stack) 0 ∙ c.in_ok-variable.ensures.reads (second d stack)))
    (c.in_err-tested.ensures.stops (UnitStep ∷ One marks.Close ∷ stack)))

pub returns-in_err-stepped-clause-stops : goal.returns-in_err-stepped-clause-stops
returns-in_err-stepped-clause-stops c =
    let d = c.args.depth in
    handed c.from_residual-in_err-stepped.result c.in_err-stepped.field-0.0 _ c.from_residual-in_err-stepped.ensures.1
    (λ stack. along _ c.args.tokens.now c.in_ok-tested.rest.now (One marks.Open ∷ One marks.Int ∷ first d stack) (UnitStep ∷ One marks.Close ∷ stack)
    (c.in_ok-rest.ensures.reads (One marks.Int ∷ first d stack) 0 ∙ (c.in_ok-rest-2.ensures.reads (first d stack) 0 ∙ (c.in_ok-variable.ensures.reads (second d stack) ∙ c.in_ok-tested.ensures.reads (UnitStep ∷ One marks.Close ∷ stack))))
    (c.in_err-stepped.ensures.stops stack))

pub returns-clause-tree : goal.returns-clause-tree
unfolding SpellsBounds SpellsDefined SpellsTested
returns-clause-tree c =
    let step = c.in_ok-stepped.ensures.tree in (
      c.in_ok-rest.rest.now,
      c.in_ok-rest-2.rest.now,
      c.in_ok-variable.rest.now,
      c.in_ok-tested.rest.now,
      step.0,
      c.in_ok-rest.ensures.token,
      c.in_ok-rest-2.ensures.token,
      c.in_ok-variable.ensures.tree,
      c.in_ok-tested.ensures.tree,
      step.1,
      step.2,
    )
