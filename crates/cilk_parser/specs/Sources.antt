-- The right side of an assignment as plain data.
use Rattle.cilk_parser.specs.declared.calls.Source as sources
use Rattle.cilk_parser.specs.declared.calls.Source.TheVariants as variants
use Rattle.cilk_syntax.specs.Trees.{LocalInitializer, expression, call}

abbrev pub source : sources.Source → LocalInitializer
source (variants.Value e) = LocalInitializer.Value (expression e.value)
source (variants.Invoke how c) = LocalInitializer.Invoke how (call c.value)
