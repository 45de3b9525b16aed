-- Programs without reducers and without a `print`, as loops over their lists find out.
-- `all_false`, `all_done`                  for any test of each item
-- `of_map`                                 for a mapped list
-- `row_is`, `block_silent`, `for_silent`   for statements in order
-- `both`, `neither`                        for three tests
use Rattle.std.proofs.Common.{◌≡◌, ℕ, zero, suc, ◌<◌, ◌≤◌, Bool, true, false, ◌&&◌, map, List, [], ◌∷◌, length, get_or, take, refl, sym, ap, ◌∙◌, arith, Vec}
use Rattle.std.specs.List.{list_all}
use Rattle.std.proofs.lemmas.List.{take_all}
use Rattle.std.specs.declared.alloc.Global.{Global}
use Rattle.cilk_program.specs.declared.syntax.Stmt.{Stmt}
use Rattle.cilk_program.specs.declared.syntax.Stmt as stmts
use Rattle.cilk_program.specs.Programs.{statement, statements}
use Rattle.cilk_lower.specs.Plain.{is_silent, row_is_silent}
use Rattle.cilk_lower.proofs.Rows.{block_is, for_is}

and_false : (b : Bool) → (b && false) ≡ false
and_false true = refl
and_false false = refl

module _ {A : Type 0} (f : A → Bool) where
  pub all_false : (xs : List A) (i : ℕ) (x : A) → i < length xs → x ≡ get_or xs i x → f x ≡ false → list_all f xs ≡ false
  all_false [] i x low is h = absurd (omega (arith, low))
  all_false (y ∷ xs) zero x low is h = ap (λ b. b && list_all f xs) (sym (ap f is) ∙ h)
  all_false (y ∷ xs) (suc i) x low is h = ap (λ b. f y && b) (all_false xs i x (omega (arith, low)) is h) ∙ and_false (f y)

  pub all_done : (xs : List A) (i : ℕ) → length xs ≤ i → list_all f (take i xs) ≡ true → list_all f xs ≡ true
  all_done xs i high h = ap (list_all f) (sym (take_all i xs high)) ∙ h

pub of_map : {A B : Type 0} (f : B → Bool) (g : A → B) (xs : List A) → list_all f (map g xs) ≡ list_all (λ x. f (g x)) xs
of_map f g [] = refl
of_map f g (x ∷ xs) = ap (λ b. f (g x) && b) (of_map f g xs)

pub row_is : (list : List Stmt) → row_is_silent (statements list) ≡ list_all (λ s. is_silent (statement s)) list
row_is [] = refl
row_is (s ∷ list) = ap (λ b. is_silent (statement s) && b) (row_is list)

pub block_silent : (at : ℕ) (v : Vec Stmt Global) → is_silent (statement (stmts.Block at v)) ≡ row_is_silent (statements v.items)
block_silent at v = ap is_silent (block_is at v)

pub for_silent : (at : ℕ) (f : Stmt) (v w : Vec Stmt Global) (test : _) (b : _) → f ≡ stmts.For at v test w b → is_silent (statement f) ≡ (row_is_silent (statements v.items) && (is_silent (statement b.value) && row_is_silent (statements w.items)))
for_silent at f v w test b is = ap is_silent (ap statement is ∙ for_is at v w test b)

pub both : (a b c : Bool) → (a && b) ≡ true → (a && (b && c)) ≡ c
both true true c h = refl
both true false c h = cc
both false b c h = cc

pub neither : (a b c : Bool) → (a && b) ≡ false → (a && (b && c)) ≡ false
neither true true c h = cc
neither true false c h = refl
neither false b c h = refl
