-- The arguments of a call, matched with its parameters.
use Rattle.std.specs.Prelude.{List, [], ◌∷◌, Option, Some, None}
use Rattle.cilk_syntax.specs.declared.tree.Name.{Name}
use Rattle.cilk_syntax.specs.Trees as trees
use Rattle.cilk_syntax.specs.Trees.{Expression}
use Rattle.cilk_names.specs.declared.signature.ParameterKind.{ParameterKind}
use Rattle.cilk_names.specs.declared.signature.ParameterKind.TheVariants as kinds

-- the first of the parameters, or a word if a call has more arguments; and the rest
abbrev pub first_of : List ParameterKind → ParameterKind
first_of [] = kinds.Word
first_of (k ∷ ks) = k

abbrev pub rest_of : List ParameterKind → List ParameterKind
rest_of [] = []
rest_of (k ∷ ks) = ks

-- the name in an argument that is a bare name
abbrev pub bare_name : Expression → Option Name
bare_name (trees.Number n) = None
bare_name (Expression.Variable x) = Some x
bare_name (Expression.Element x e) = None
bare_name (trees.Group e) = None
bare_name (trees.Unary op e) = None
bare_name (trees.Binary op a b) = None
bare_name (Expression.Value x) = None
bare_name (trees.Input e) = None
bare_name trees.InputCount = None
