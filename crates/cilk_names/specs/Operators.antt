-- The operators of a tree, resolved.
use Rattle.cilk_syntax.specs.declared.tree.UnaryOperator.{UnaryOperator}
use Rattle.cilk_syntax.specs.declared.tree.UnaryOperator.TheVariants as unary
use Rattle.cilk_syntax.specs.declared.tree.BinaryOperator.{BinaryOperator}
use Rattle.cilk_syntax.specs.declared.tree.BinaryOperator.TheVariants as binary
use Rattle.cilk_program.specs.declared.syntax.Operator.TheVariants as operators
use Rattle.cilk_program.specs.Syntax.{Expression, Negate, Not, Binary, And, Or}

-- a unary operator
abbrev pub prefixed : UnaryOperator → Expression → Expression
prefixed unary.Negate e = Negate e
prefixed unary.Not e = Not e

-- a binary operator
abbrev pub joined : BinaryOperator → Expression → Expression → Expression
joined binary.Or a b = Or a b
joined binary.And a b = And a b
joined binary.Equal a b = Binary operators.Equal a b
joined binary.NotEqual a b = Binary operators.NotEqual a b
joined binary.Less a b = Binary operators.Less a b
joined binary.LessEqual a b = Binary operators.LessEqual a b
joined binary.Greater a b = Binary operators.Greater a b
joined binary.GreaterEqual a b = Binary operators.GreaterEqual a b
joined binary.Add a b = Binary operators.Add a b
joined binary.Subtract a b = Binary operators.Subtract a b
joined binary.Multiply a b = Binary operators.Multiply a b
joined binary.Divide a b = Binary operators.Divide a b
joined binary.Remainder a b = Binary operators.Remainder a b
