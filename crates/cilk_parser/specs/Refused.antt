-- Which tokens begin a program, which don't, and which are within the limits.
use Rattle.std.specs.Prelude.{◌≡◌, List, [], ◌∷◌, ◌++◌}
use Rattle.cilk_syntax.specs.declared.token.Token.{Token}
use Rattle.cilk_syntax.specs.Trees.{Item}
use Rattle.cilk_syntax.specs.Grammar.{SpellsProgram}
use Rattle.cilk_syntax.specs.Limits.{Within, IsFirstPast, excess_items}

-- some program is spelled by these tokens and more
abbrev pub Begins : List Token → Type 0
Begins ts = (w : List Token) × (p : List Item) × SpellsProgram p (ts ++ w)

-- no program continues used with the first token of rest, or ends there if rest is empty
abbrev pub Refused : List Token → List Token → Type 0
Refused used [] = (p : List Item) → SpellsProgram p used → ⊥
Refused used (x ∷ rest) = Begins (used ++ x ∷ []) → ⊥

-- in each program that begins with these tokens, they are within the limits
abbrev pub KeepsLimits : List Token → Type 0
KeepsLimits used = (w : List Token) (p : List Item) → SpellsProgram p (used ++ w) → Within used (excess_items p (used ++ w))

-- in each program that begins with used and x, x is the first token past a limit
abbrev pub GoesPast : List Token → Token → Type 0
GoesPast used x = (w : List Token) (p : List Item) → SpellsProgram p ((used ++ x ∷ []) ++ w) → IsFirstPast used (excess_items p ((used ++ x ∷ []) ++ w))

-- used begins a program and is within the limits, and the token that follows isn't in the grammar
pub record IsRefusal (ts used rest : List Token) : Type 0 where
  pub parts : ts ≡ used ++ rest
  pub begins : Begins used
  pub within : KeepsLimits used
  pub refused : Refused used rest

-- used and x begin a program, and x is the first token past a limit
pub record IsPastLimit (ts used : List Token) (x : Token) (rest : List Token) : Type 0 where
  pub parts : ts ≡ used ++ x ∷ rest
  pub begins : Begins (used ++ x ∷ [])
  pub past : GoesPast used x
