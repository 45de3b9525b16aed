-- The earliest fault of a list, from its parts.
-- earliest_append   of two lists, appended
use Rattle.std.proofs.Common.{◌≡◌, List, [], ◌∷◌, ◌++◌, Option, refl}
use Rattle.cilk_names.specs.declared.kind.Misnaming.{Misnaming}
use Rattle.cilk_names.specs.Faults.{earlier, earliest}

pub earliest_append : (first : Option Misnaming) (fs gs : List Misnaming) → earliest first (fs ++ gs) ≡ earliest (earliest first fs) gs
earliest_append first [] gs = refl
earliest_append first (f ∷ fs) gs = earliest_append (earlier first f) fs gs
