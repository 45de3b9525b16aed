-- Lists.
use Rattle.std.proofs.Common.{◌≡◌, List, [], ◌++◌, sym}
use Rattle.std.proofs.lemmas.List.{append-nil}

pub append_nothing : {A : Type 0} (xs : List A) → xs ≡ xs ++ []
append_nothing xs = sym (append-nil xs)
