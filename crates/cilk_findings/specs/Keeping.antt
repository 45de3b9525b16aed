-- Copies of texts that were read.
use Rattle.std.specs.Prelude.{◌≡◌, ◌++◌, ℕ, List, [], ◌∷◌, map, Option, Some, None, IfSome, option_map, slice_get, if◌then◌else◌}
use Rattle.cilk_findings.specs.declared.kept.Kept.{Kept}

abbrev pub Text : Type 0
Text = List ℕ

-- the copies, in order; none is known where there was no memory for one
abbrev pub copies_in : Kept → Option (List Text)
copies_in kept = if kept.lacks then None else Some (map (λ t. t.items) kept.texts.items)

-- the copies that are known now are those from before
abbrev pub KeepsCopies : Kept → Kept → Type 0
KeepsCopies old new = IfSome (copies_in new) (λ texts. copies_in old ≡ Some texts)

-- the copies that are known now are those from before, and then this text
abbrev pub AddsCopy : Kept → Kept → Text → Type 0
AddsCopy old new text = IfSome (copies_in new) (λ texts. option_map (λ ts. ts ++ text ∷ []) (copies_in old) ≡ Some texts)

-- the text is the copy of this number, from 0
abbrev pub IsCopy : Kept → ℕ → Text → Type 0
IsCopy kept number text = IfSome (copies_in kept) (λ texts. slice_get texts number ≡ Some text)

-- a program is the first text that was read, and its input the second one; it is empty where no file is named
abbrev pub AreCopies : Kept → Option Text → (program input : Text) → Type 0
AreCopies kept (Some path) program input = IsCopy kept 0 program × IsCopy kept 1 input
AreCopies kept None program input = IsCopy kept 0 program × (input ≡ [])
