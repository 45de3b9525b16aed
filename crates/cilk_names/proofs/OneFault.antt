-- A tree has at most one first fault: `one_fault`, `none_where_resolved`.
use Rattle.std.proofs.Common.{◌≡◌, ℕ, false, ◌||◌, ◌&&◌, [], refl, subst, arith, nat_lt, nat_eq}
use Rattle.std.proofs.lemmas.Bool.Decides.{nat_tests}
use Rattle.cilk_syntax.specs.declared.tree.Tree.{Tree}
use Rattle.cilk_program.specs.Syntax.{Source}
use Rattle.cilk_names.specs.declared.kind.NameErrorKind.{NameErrorKind}
use Rattle.cilk_names.specs.declared.kind.NameErrorKind.TheVariants as numbers
use Rattle.cilk_names.specs.declared.fault.NameFault.TheVariants.{At}
use Rattle.cilk_names.specs.declared.kind.Misnaming.{Misnaming}
use Rattle.cilk_names.specs.Faults.{number_of, is_before}
use Rattle.cilk_names.specs.Misnamings.{IsFirst, IsNameFault}
use Rattle.cilk_names.specs.Resolution.{Resolves}

-- neither of two is lower
same_place : (p n q m : ℕ) → (nat_lt p q || (nat_eq p q && nat_lt n m)) ≡ false
    → (nat_lt q p || (nat_eq q p && nat_lt m n)) ≡ false → p ≡ q
same_place p n q m a b = grind (arith, nat_tests)

same_rank : (p n q m : ℕ) → (nat_lt p q || (nat_eq p q && nat_lt n m)) ≡ false
    → (nat_lt q p || (nat_eq q p && nat_lt m n)) ≡ false → n ≡ m
same_rank p n q m a b = grind (arith, nat_tests)

-- different kinds of faults have different numbers
same_number : (n m : NameErrorKind) → number_of n ≡ number_of m → n ≡ m
same_number numbers.Unknown numbers.Unknown e = refl
same_number numbers.DeclaredTwice numbers.DeclaredTwice e = refl
same_number numbers.WrongCount numbers.WrongCount e = refl
same_number numbers.WrongKind numbers.WrongKind e = refl
same_number numbers.NoMain numbers.NoMain e = refl
same_number numbers.ReturnInLoop numbers.ReturnInLoop e = refl
same_number numbers.LoopVariable numbers.LoopVariable e = refl
same_number numbers.ReducerNotFirst numbers.ReducerNotFirst e = refl
same_number numbers.OverLimit numbers.OverLimit e = refl
same_number _ _ e = absurd (omega arith)

-- neither of two first faults is before the other
pub one_fault : (t : Tree) (n m : NameErrorKind) (p q : ℕ) → IsNameFault (At n p) t → IsNameFault (At m q) t
    → (n ≡ m) × (p ≡ q)
one_fault t n m p q h k =
    let f : Misnaming = record { number = n; place = p } in
    let g : Misnaming = record { number = m; place = q } in
    let a : is_before g f ≡ false = subst (λ (x : Misnaming). is_before x f ≡ false) k.0.2 (h.1 k.0.0 g k.0.1) in
    let b : is_before f g ≡ false = subst (λ (x : Misnaming). is_before x g ≡ false) h.0.2 (k.1 h.0.0 f h.0.1) in
    (same_number n m (same_rank p (number_of n) q (number_of m) b a), same_place p (number_of n) q (number_of m) b a)

-- an empty list has no first
pub none_where_resolved : (t : Tree) (s : Source) (n : NameErrorKind) (p : ℕ) → Resolves t s → IsNameFault (At n p) t → ⊥
none_where_resolved t s n p r h =
    let f : Misnaming = record { number = n; place = p } in
    let k : IsFirst f [] = subst (IsFirst f) r.right h in absurd (omega (arith, k.0.1))
