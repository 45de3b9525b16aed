-- The earliest fault after two parts of a text.
use Rattle.std.proofs.Common.{◌≡◌, List, ◌++◌, Option, sym, ap, ◌∙◌}
use Rattle.cilk_names.specs.declared.kind.Misnaming.{Misnaming}
use Rattle.cilk_names.specs.Faults.{earliest}
use Rattle.cilk_names.proofs.Earliest.{earliest_append}

-- the faults of two parts, one after the other
pub both_faults : (f g h : Option Misnaming) (fs gs : List Misnaming) → g ≡ earliest f fs → h ≡ earliest g gs → h ≡ earliest f (fs ++ gs)
both_faults f g h fs gs p q = q ∙ ap (λ x. earliest x gs) p ∙ sym (earliest_append f fs gs)
