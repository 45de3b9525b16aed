-- Texts that grow by one piece at a time.
use Rattle.std.proofs.Common.{◌≡◌, ℕ, zero, suc, ◌+◌, ◌<◌, List, [], ◌∷◌, ◌++◌, length, take, get_or, sym, ap, ap₂, inl, inr, ◌⊎◌, ◌∙◌, add-one, append_assoc, arith}
use Rattle.std.specs.Prelude.{Result, Ok, Err, OnOk, flat_map, if◌then◌else◌, is_ok}
use Rattle.cilk_types.specs.declared.outcome.Final.{Final}
use Rattle.cilk_commands.specs.Replies.{Text, reducer_line, reducer_lines}
use Rattle.std.proofs.lemmas.List.{append-nil}

module _ {X : Type 0} where
  one_more : (f : X → List ℕ) (xs : List X) (i : ℕ) (d : X) → i < length xs → flat_map f (take (suc i) xs) ≡ flat_map f (take i xs) ++ f (get_or xs i d)
  one_more f [] i d h = absurd (omega (arith, h))
  one_more f (x ∷ xs) zero d h = append-nil (f x)
  one_more f (x ∷ xs) (suc i) d h =
      ap (λ t. f x ++ t) (one_more f xs i d (omega (arith, h))) ∙ sym (append_assoc (f x) (flat_map f (take i xs)) (f (get_or xs i d)))

  -- after one more piece
  pub grown : (f : X → List ℕ) (xs : List X) (i : ℕ) (d : X) (old text text' : List ℕ) → i < length xs → text ≡ old ++ flat_map f (take i xs)
      → text' ≡ text ++ f (get_or xs i d) → text' ≡ old ++ flat_map f (take (i + 1) xs)
  grown f xs i d old text text' h e k =
      k ∙ ap (λ t. t ++ f (get_or xs i d)) e ∙ append_assoc old (flat_map f (take i xs)) (f (get_or xs i d))
      ∙ ap (λ t. old ++ t) (sym (rw add-one (one_more f xs i d h)))

-- one more reducer's line of the remaining ones
pub reducer_more : (ks ks' : List Text) (vs vs' : List Final) (k : Text) (v : Final) (text text' all : Text) → ks ≡ k ∷ ks' → vs ≡ v ∷ vs'
    → text ++ reducer_lines ks vs ≡ all → text' ≡ text ++ reducer_line k v → text' ++ reducer_lines ks' vs' ≡ all
reducer_more ks ks' vs vs' k v text text' all ek ev h e =
    ap (λ t. t ++ reducer_lines ks' vs') e ∙ append_assoc text (reducer_line k v) (reducer_lines ks' vs')
    ∙ ap (λ t. text ++ t) (sym (ap₂ reducer_lines ek ev)) ∙ h

-- no name, or no reducer, is left
pub reducer_end : (ks : List Text) (vs : List Final) (text all : Text) → (length ks ≡ 0) ⊎ (length vs ≡ 0) → text ++ reducer_lines ks vs ≡ all → text ≡ all
reducer_end [] vs text all e h = sym (append-nil text) ∙ h
reducer_end (k ∷ ks) [] text all e h = sym (append-nil text) ∙ h
reducer_end (k ∷ ks) (v ∷ vs) text all e h = elim e [ inl i ↦ absurd (omega (arith, i)) | inr i ↦ absurd (omega (arith, i)) ]

-- what was added behind a front, after the front was
pub on_more : {A E : Type 0} (x : Result A E) (new front old added more : List ℕ) → OnOk x (new ≡ front ++ more) → front ≡ old ++ added
    → OnOk x (new ≡ old ++ (added ++ more))
on_more (Ok a) new front old added more h e = h ∙ ap (λ z. z ++ more) e ∙ append_assoc old added more
on_more (Err e) new front old added more h k = tt

-- what stands there if nothing failed
pub when_ok : {A E : Type 0} (x : Result A E) (new old wanted : List ℕ) → new ≡ (if is_ok x then wanted else old) → OnOk x (new ≡ wanted)
when_ok (Ok a) new old wanted e = e
when_ok (Err e) new old wanted h = tt
