-- Where the parser's functions stop, and facts about the tokens that are left.
use Rattle.std.specs.Prelude.{◌≡◌, ◌≢◌, ℕ, ◌+◌, ◌≤◌, List, [], ◌∷◌, Option, Some, None}
use Rattle.cilk_syntax.specs.declared.token.Kind.{Kind}
use Rattle.cilk_syntax.specs.declared.token.Token.{Token}
use Rattle.cilk_syntax.specs.declared.stop.Stop.{Stop}
use Rattle.cilk_syntax.specs.declared.stop.Stop.TheVariants as stops
use Rattle.cilk_syntax.specs.Expected.{Verdict, Unexpected, PastLimit, level_of}

-- the code stops where the verdict says, unless memory ran out
abbrev pub IsStop : Stop → Verdict → Type 0
IsStop stops.Memory v = Unit {0}
IsStop (stops.Unexpected rest) v = v ≡ Unexpected rest.now
IsStop (stops.PastLimit rest) v = v ≡ PastLimit rest.now

abbrev pub Loose : ℕ → Option ℕ → Type 0
Loose l None = Unit {0}
Loose l (Some k) = k + 1 ≤ l

-- the first token is no operator of this level or a tighter one
abbrev pub NoOperator : ℕ → List Token → Type 0
NoOperator l [] = Unit {0}
NoOperator l (t ∷ ts) = Loose l (level_of t.kind)

-- the first token isn't an operator of this level
abbrev pub NotOfLevel : ℕ → List Token → Type 0
NotOfLevel l [] = Unit {0}
NotOfLevel l (t ∷ ts) = level_of t.kind ≢ Some l

-- the first token is of another kind
abbrev pub NotFirst : Kind → List Token → Type 0
NotFirst kind [] = Unit {0}
NotFirst kind (t ∷ ts) = t.kind ≢ kind
