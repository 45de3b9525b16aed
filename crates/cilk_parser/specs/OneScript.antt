-- A script's text has one meaning.
use Rattle.std.specs.Prelude.{◌≡◌, ℕ, List}
use Rattle.cilk_parser.specs.Scripts.{IsNoScript, IsScript}
use Rattle.cilk_parser.specs.declared.script.Step.{Step}

-- A text has at most one list of steps, fails at most at one line, and never both.
pub record ScriptIsOne : Type 0 where
  pub steps : (text : List ℕ) (steps steps' : List Step) → IsScript text steps → IsScript text steps' → steps' ≡ steps
  pub lines : (text : List ℕ) (at at' : ℕ) → IsNoScript text at → IsNoScript text at' → at' ≡ at
  pub apart : (text : List ℕ) (steps : List Step) (at : ℕ) → IsScript text steps → IsNoScript text at → ⊥
