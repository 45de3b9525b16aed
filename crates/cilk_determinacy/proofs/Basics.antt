-- Names, cells and lists of deeds.
use Rattle.std.proofs.Common.{◌≡◌, true, List, [], ◌∷◌, ◌++◌, refl, ap, ap₂, arith, ◌⊎◌, inl, inr, eq-eqb, eqb-true}
use Rattle.std.specs.Prelude.{◌&&◌, nat_eq}
use Rattle.std.proofs.lemmas.Bool.{and_parts, and_from}
use Rattle.cilk_monoid.specs.Kinds.{same_kind}
use Rattle.cilk_monoid.proofs.SameKinds.{kind_itself, same_kind-eq}
use Rattle.cilk_determinacy.specs.Runs.{Name, same_name, Cell, Global, Own, same_cell, Instance, Output, Reducer, same_instance, Reads, Writes, Syncs, Ends, Passes, Deed, Does, Invokes}
use Rattle.cilk_determinacy.specs.Machine.{HasSync}

pub same_name-refl : (n : Name) → same_name n n ≡ true
same_name-refl [] = refl
same_name-refl (k ∷ n) = and_from (nat_eq k k) (same_name n n) (eq-eqb k k refl) (same_name-refl n)

pub same_name-eq : (n m : Name) → same_name n m ≡ true → n ≡ m
same_name-eq [] [] h = refl
same_name-eq [] (j ∷ m) h = grind arith
same_name-eq (k ∷ n) [] h = grind arith
same_name-eq (k ∷ n) (j ∷ m) h =
    let p = and_parts (nat_eq k j) (same_name n m) h in
    let a : k ≡ j = eqb-true k j p.0 in
    let b : n ≡ m = same_name-eq n m p.1 in
    cc

pub same_cell-refl : (c : Cell) → same_cell c c ≡ true
same_cell-refl (Global a) = eq-eqb a a refl
same_cell-refl (Own n a) = and_from (same_name n n) (nat_eq a a) (same_name-refl n) (eq-eqb a a refl)

pub same_cell-eq : (c d : Cell) → same_cell c d ≡ true → c ≡ d
same_cell-eq (Global a) (Global b) h = ap Global (eqb-true a b h)
same_cell-eq (Global a) (Own n b) h = grind arith
same_cell-eq (Own n a) (Global b) h = grind arith
same_cell-eq (Own n a) (Own m b) h =
    let p = and_parts (same_name n m) (nat_eq a b) h in
    let x : n ≡ m = same_name-eq n m p.0 in
    let y : a ≡ b = eqb-true a b p.1 in
    cc

pub same_instance-refl : (i : Instance) → same_instance i i ≡ true
same_instance-refl Output = refl
same_instance-refl (Reducer n a k) = and_from (same_name n n && nat_eq a a) (same_kind k k) (and_from (same_name n n) (nat_eq a a) (same_name-refl n) (eq-eqb a a refl)) (kind_itself k)

pub same_instance-eq : (i j : Instance) → same_instance i j ≡ true → i ≡ j
same_instance-eq Output Output h = refl
same_instance-eq Output (Reducer m b k) h = grind arith
same_instance-eq (Reducer n a j) Output h = grind arith
same_instance-eq (Reducer n a j) (Reducer m b k) h =
    let q = and_parts (same_name n m && nat_eq a b) (same_kind j k) h in
    let p = and_parts (same_name n m) (nat_eq a b) q.0 in
    let x : n ≡ m = same_name-eq n m p.0 in
    let y : a ≡ b = eqb-true a b p.1 in
    let z : j ≡ k = same_kind-eq j k q.1 in
    cc

-- a sync among the deeds or none
pub has_sync : {W : Type 0} (ds : List (Deed W)) → HasSync ds ⊎ (¬ (HasSync ds))
has_sync [] = inr (λ h. h)
has_sync (Does (Reads c v) ∷ ds) = has_sync ds
has_sync (Does (Writes c v) ∷ ds) = has_sync ds
has_sync (Does Syncs ∷ ds) = inl tt
has_sync (Does (Ends val gone) ∷ ds) = has_sync ds
has_sync (Does (Passes m) ∷ ds) = has_sync ds
has_sync (Invokes k w ∷ ds) = has_sync ds

abbrev pub IsSyncDeed : {W : Type 0} → Deed W → Type 0
IsSyncDeed (Does (Reads c v)) = ⊥
IsSyncDeed (Does (Writes c v)) = ⊥
IsSyncDeed (Does Syncs) = Unit {0}
IsSyncDeed (Does (Ends val gone)) = ⊥
IsSyncDeed (Does (Passes m)) = ⊥
IsSyncDeed (Invokes k w) = ⊥

pub last_sync : {W : Type 0} (ds : List (Deed W)) (d : Deed W) → HasSync (ds ++ d ∷ []) → HasSync ds ⊎ IsSyncDeed d
last_sync [] (Does (Reads c v)) h = inl h
last_sync [] (Does (Writes c v)) h = inl h
last_sync [] (Does Syncs) h = inr tt
last_sync [] (Does (Ends val gone)) h = inl h
last_sync [] (Does (Passes m)) h = inl h
last_sync [] (Invokes k w) h = inl h
last_sync (Does (Reads c v) ∷ ds) d h = last_sync ds d h
last_sync (Does (Writes c v) ∷ ds) d h = last_sync ds d h
last_sync (Does Syncs ∷ ds) d h = inl tt
last_sync (Does (Ends val gone) ∷ ds) d h = last_sync ds d h
last_sync (Does (Passes m) ∷ ds) d h = last_sync ds d h
last_sync (Invokes k w ∷ ds) d h = last_sync ds d h

pub more_sync : {W : Type 0} (ds : List (Deed W)) (d : Deed W) → HasSync ds → HasSync (ds ++ d ∷ [])
more_sync [] d h = absurd h
more_sync (Does (Reads c v) ∷ ds) d h = more_sync ds d h
more_sync (Does (Writes c v) ∷ ds) d h = more_sync ds d h
more_sync (Does Syncs ∷ ds) d h = tt
more_sync (Does (Ends val gone) ∷ ds) d h = more_sync ds d h
more_sync (Does (Passes m) ∷ ds) d h = more_sync ds d h
more_sync (Invokes k w ∷ ds) d h = more_sync ds d h

pub nil_snoc : {W : Type 0} (before : List (Deed W)) (d : Deed W) {X : Type 0} → [] ≡ before ++ d ∷ [] → X
nil_snoc [] d q = absurd (cc)
nil_snoc (e ∷ before) d q = absurd (cc)

pub snoc_one : {W : Type 0} (xs ys : List (Deed W)) (x y : Deed W) → xs ++ x ∷ [] ≡ ys ++ y ∷ [] → (xs ≡ ys) × (x ≡ y)
snoc_one [] [] x y q = (refl, cc)
snoc_one [] (b ∷ ys) x y q = let z : [] ≡ ys ++ y ∷ [] = cc in nil_snoc ys y z
snoc_one (a ∷ xs) [] x y q = let z : [] ≡ xs ++ x ∷ [] = cc in nil_snoc xs x z
snoc_one (a ∷ xs) (b ∷ ys) x y q =
    let h : a ≡ b = cc in
    let z : xs ++ x ∷ [] ≡ ys ++ y ∷ [] = cc in
    let ih = snoc_one xs ys x y z in
    (ap₂ (λ c l. c ∷ l) h ih.0, ih.1)
