-- A list that a loop maps element by element.
use Rattle.std.proofs.Common.{◌≡◌, ℕ, ◌+◌, ◌<◌, List, [], ◌∷◌, ◌++◌, length, map, get_or, take, refl, sym, ap, ◌∙◌}
use Rattle.std.proofs.lemmas.List.{take_more}

map_push : {A B : Type 0} (f : A → B) (l : List A) (x : A) → map f (l ++ x ∷ []) ≡ map f l ++ f x ∷ []
map_push f [] x = refl
map_push f (y ∷ l) x = ap (λ k. f y ∷ k) (map_push f l x)

pub mapped_more : {A B : Type 0} (f : A → B) (xs : List A) (i : ℕ) (x : A) (out out' : List B) → i < length xs → x ≡ get_or xs i x → out ≡ map f (take i xs) → out' ≡ out ++ f x ∷ [] → out' ≡ map f (take (i + 1) xs)
mapped_more f xs i x out out' low is e e' =
    let more = take_more xs i x low ∙ ap (λ y. take i xs ++ y ∷ []) (sym is) in
    e' ∙ ap (λ l. l ++ f x ∷ []) e ∙ sym (ap (map f) more ∙ map_push f (take i xs) x)
