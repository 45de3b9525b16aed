-- Keys that ascend, and pieces by ascending key.
--
-- - `all_stand`, `from_stand`, `in_both`, `in_left`, `in_right`: keys of a list;
-- - `dropped_stands`, `dropped_other`, `dropped_gone`, `dropped_rises`, `rises_snoc`: of keys that
--   ascend, less one, and one more;
-- - `stands_sorted`, `sorted`, `keys_increase`: pieces by key.
use Rattle.std.proofs.Common.{◌≡◌, ◌<◌, ◌⊎◌, inl, inr, ⊎_elim, ℕ, nat_eq, eq-eqb, eqb-true, Bool, true, false, List, [], ◌∷◌, ◌++◌, refl, sym, ap, ap₂, ◌∙◌, subst, arith}
use Rattle.std.specs.List.{AllByRecursion, filter}
use Rattle.std.specs.List.Sorted.{IsPermutation, IsStrictlyIncreasing, IsStrictlySortedBy}
use Rattle.std.specs.Ordering.{nat_cmp}
use Rattle.std.specs.Cmp.{nat_cmp_is}
use Rattle.std.specs.declared.cmp.Ordering.TheVariants.{Less}
use Rattle.std.proofs.lemmas.List.Sorted.{IsPermutation-refl, IsPermutation-sym, IsPermutation-trans, IsPermutation-cons, IsPermutation-middle}
use Rattle.std.proofs.lemmas.Map.Keys.{IsStrictlyIncreasing-from_sorted}
use Rattle.cilk_join.specs.Rows.{Stands}
use Rattle.cilk_join.specs.Histories.{Piece, keys_of, below, above, by_key}
use Rattle.cilk_join.proofs.Cuts.{AllBelow, AllAbove, Rises, dropped, dropped_here, dropped_later, or_not, below_one, below_less_one, above_one, above_less_one, below_none, above_all, above_less, are_below, are_above}

-- ---- keys of a list

pub all_stand : (P : ℕ → Type 0) (ks : List ℕ) (k : ℕ) → AllByRecursion P ks → Stands ks k → P k
all_stand P [] k h s = absurd s
all_stand P (j ∷ js) k h s = ⊎_elim (λ e. subst P e h.0) (λ t. all_stand P js k h.1 t) s

pub from_stand : (P : ℕ → Type 0) (ks : List ℕ) → ((k : ℕ) → Stands ks k → P k) → AllByRecursion P ks
from_stand P [] h = tt
from_stand P (j ∷ js) h = (h j (inl refl), from_stand P js (λ k s. h k (inr s)))

pub in_both : (js ks : List ℕ) (i : ℕ) → Stands (js ++ ks) i → Stands js i ⊎ Stands ks i
in_both [] ks i h = inr h
in_both (j ∷ js) ks i h = ⊎_elim (λ e. inl (inl e)) (λ t. ⊎_elim (λ a. inl (inr a)) (λ b. inr b) (in_both js ks i t)) h

pub in_left : (js ks : List ℕ) (i : ℕ) → Stands js i → Stands (js ++ ks) i
in_left [] ks i h = absurd h
in_left (j ∷ js) ks i h = ⊎_elim (λ e. inl e) (λ t. inr (in_left js ks i t)) h

pub in_right : (js ks : List ℕ) (i : ℕ) → Stands ks i → Stands (js ++ ks) i
in_right [] ks i h = h
in_right (j ∷ js) ks i h = inr (in_right js ks i h)

-- ---- keys that ascend

pub same_or_not : (j k : ℕ) → (j ≡ k) ⊎ (nat_eq j k ≡ false)
same_or_not j k = by (nat_eq j k) refl
  where
    by : (b : Bool) → nat_eq j k ≡ b → (j ≡ k) ⊎ (nat_eq j k ≡ false)
    by true e = inl (eqb-true j k e)
    by false e = inr e

pub dropped_stands : (k : ℕ) (ks : List ℕ) (i : ℕ) → Stands (dropped k ks) i → Stands ks i
dropped_stands k [] i h = h
dropped_stands k (j ∷ js) i h = ⊎_elim
    (λ e. inr (subst (λ ks. Stands ks i) (dropped_here k j js e) h))
    (λ n. ⊎_elim (λ e. inl e) (λ t. inr (dropped_stands k js i t)) (subst (λ ks. Stands ks i) (dropped_later k j js n) h)) (same_or_not j k)

pub dropped_other : (k : ℕ) (ks : List ℕ) (i : ℕ) → Stands ks i → (¬ (i ≡ k)) → Stands (dropped k ks) i
dropped_other k [] i h ne = h
dropped_other k (j ∷ js) i h ne = ⊎_elim
    (λ e. subst (λ ks. Stands ks i) (sym (dropped_here k j js e)) (⊎_elim (λ q. absurd (ne (sym q ∙ e))) (λ t. t) h))
    (λ n. subst (λ ks. Stands ks i) (sym (dropped_later k j js n)) (⊎_elim (λ q. inl q) (λ t. inr (dropped_other k js i t ne)) h)) (same_or_not j k)

pub dropped_gone : (k : ℕ) (ks : List ℕ) → Rises ks → ¬ (Stands (dropped k ks) k)
dropped_gone k [] up = λ s. s
dropped_gone k (j ∷ js) up = λ s. ⊎_elim
    (λ e. let l : j < k = all_stand (λ i. j < i) js k up.0 (subst (λ ks. Stands ks k) (dropped_here k j js e) s) in let f : ⊥ = omega (arith, l, e) in f)
    (λ n. ⊎_elim (λ e. let q : nat_eq j k ≡ true = eq-eqb j k e in let f : ⊥ = cc in f) (λ t. dropped_gone k js up.1 t) (subst (λ ks. Stands ks k) (dropped_later k j js n) s)) (same_or_not j k)

pub dropped_rises : (k : ℕ) (ks : List ℕ) → Rises ks → Rises (dropped k ks)
dropped_rises k [] up = tt
dropped_rises k (j ∷ js) up = ⊎_elim
    (λ e. subst Rises (sym (dropped_here k j js e)) up.1)
    (λ n. subst Rises (sym (dropped_later k j js n)) (from_stand (λ i. j < i) (dropped k js) (λ i s. all_stand (λ i. j < i) js i up.0 (dropped_stands k js i s)), dropped_rises k js up.1)) (same_or_not j k)

pub rises_snoc : (ks : List ℕ) (k : ℕ) → Rises ks → ((i : ℕ) → Stands ks i → i < k) → Rises (ks ++ k ∷ [])
rises_snoc [] k up low = (tt, tt)
rises_snoc (j ∷ js) k up low = (
  from_stand (λ i. j < i) (js ++ k ∷ []) (λ i s. ⊎_elim (λ a. all_stand (λ i. j < i) js i up.0 a) (λ b. ⊎_elim (λ e. subst (λ i. j < i) e (low j (inl refl))) (λ n. absurd n) b) (in_both js (k ∷ []) i s)),
  rises_snoc js k up.1 (λ i s. low i (inr s)),
)

is_sorted : (ks : List ℕ) → Rises ks → IsStrictlySortedBy nat_cmp ks
unfolding IsStrictlySortedBy
is_sorted [] up = tt
is_sorted (k ∷ ks) up = (all_less ks up.0, is_sorted ks up.1)
  where
    all_less : (js : List ℕ) → AllByRecursion (λ j. k < j) js → AllByRecursion (λ j. nat_cmp k j ≡ Less) js
    all_less [] h = tt
    all_less (j ∷ js) h = (sym (nat_cmp_is k j Less h.0), all_less js h.1)

pub keys_increase : (ks : List ℕ) → Rises ks → IsStrictlyIncreasing ks
keys_increase ks up = IsStrictlyIncreasing-from_sorted ks (is_sorted ks up)

-- ---- pieces

-- the keys of pieces ascend
abbrev pub Up : List Piece → Type 0
Up [] = Unit {0}
Up (p ∷ ps) = AllAbove p.key ps × Up ps

-- no key twice
abbrev pub Once : List Piece → Type 0
Once [] = Unit {0}
Once (p ∷ ps) = (¬ (Stands (keys_of ps) p.key)) × Once ps

pub up_rises : (ps : List Piece) → Up ps → Rises (keys_of ps)
up_rises [] up = tt
up_rises (p ∷ ps) up = (all_above ps up.0, up_rises ps up.1)
  where
    all_above : (qs : List Piece) → AllAbove p.key qs → AllByRecursion (λ j. p.key < j) (keys_of qs)
    all_above [] h = tt
    all_above (q ∷ qs) h = (h.0, all_above qs h.1)

pub from_keys : (k : ℕ) (ps : List Piece) → ((j : ℕ) → Stands (keys_of ps) j → j < k) → AllBelow k ps
from_keys k [] h = tt
from_keys k (p ∷ ps) h = (h p.key (inl refl), from_keys k ps (λ j s. h j (inr s)))

pub all_filter : (P : Piece → Type 0) (t : Piece → Bool) (ps : List Piece) → AllByRecursion P ps → AllByRecursion P (filter t ps)
all_filter P t [] h = tt
all_filter P t (p ∷ ps) h = by (t p) refl (all_filter P t ps h.1)
  where
    by : (b : Bool) → t p ≡ b → AllByRecursion P (filter t ps) → AllByRecursion P (filter t (p ∷ ps))
    by true e r = rw e (h.0, r)
    by false e r = rw e r

up_filter : (t : Piece → Bool) (ps : List Piece) → Up ps → Up (filter t ps)
up_filter t [] up = tt
up_filter t (p ∷ ps) up = by (t p) refl (up_filter t ps up.1)
  where
    by : (b : Bool) → t p ≡ b → Up (filter t ps) → Up (filter t (p ∷ ps))
    by true e r = rw e (all_filter (λ q. p.key < q.key) t ps up.0, r)
    by false e r = rw e r

stands_filter : (t : Piece → Bool) (ps : List Piece) (k : ℕ) → Stands (keys_of (filter t ps)) k → Stands (keys_of ps) k
stands_filter t [] k s = s
stands_filter t (p ∷ ps) k s = by (t p) refl (stands_filter t ps k)
  where
    by : (b : Bool) → t p ≡ b → (Stands (keys_of (filter t ps)) k → Stands (keys_of ps) k) → Stands (keys_of (p ∷ ps)) k
    by true e r = let q : (p.key ≡ k) ⊎ Stands (keys_of (filter t ps)) k = rw e at s in ⊎_elim (λ e. inl e) (λ t. inr (r t)) q
    by false e r = let q : Stands (keys_of (filter t ps)) k = rw e at s in inr (r q)

pieces_both : (xs ys : List Piece) (k : ℕ) → Stands (keys_of (xs ++ ys)) k → Stands (keys_of xs) k ⊎ Stands (keys_of ys) k
pieces_both [] ys k s = inr s
pieces_both (x ∷ xs) ys k s = ⊎_elim (λ e. inl (inl e)) (λ t. ⊎_elim (λ a. inl (inr a)) (λ b. inr b) (pieces_both xs ys k t)) s

-- pieces by key are those of the list
pub stands_sorted : (ps : List Piece) (k : ℕ) → Stands (keys_of (by_key ps)) k → Stands (keys_of ps) k
stands_sorted [] k s = s
stands_sorted (p ∷ ps) k s = ⊎_elim
    (λ a. inr (stands_sorted ps k (stands_filter _ (by_key ps) k a)))
    (λ b. ⊎_elim (λ e. inl e) (λ t. inr (stands_sorted ps k (stands_filter _ (by_key ps) k t))) b)
    (pieces_both (below p.key (by_key ps)) (p ∷ above p.key (by_key ps)) k s)

all_append : (P : Piece → Type 0) (xs ys : List Piece) → AllByRecursion P xs → AllByRecursion P ys → AllByRecursion P (xs ++ ys)
all_append P [] ys h g = g
all_append P (x ∷ xs) ys h g = (h.0, all_append P xs ys h.1 g)

up_join : (xs : List Piece) (p : Piece) (ys : List Piece) → Up xs → AllBelow p.key xs → AllAbove p.key ys → Up ys → Up (xs ++ p ∷ ys)
up_join [] p ys up low high up' = (high, up')
up_join (x ∷ xs) p ys up low high up' =
    let l : x.key < p.key = low.0 in
    (all_append (λ q. x.key < q.key) xs (p ∷ ys) up.0 (l, above_less x.key p.key ys (omega (arith, l)) high), up_join xs p ys up.1 low.1 high up')

-- the pieces below a key that isn't there, and those above it, are all
split : (k : ℕ) (ps : List Piece) → Up ps → (¬ (Stands (keys_of ps) k)) → below k ps ++ above k ps ≡ ps
split k [] up out = refl
split k (p ∷ ps) up out = ⊎_elim
    (λ l. ap₂ (λ xs ys. xs ++ ys) (below_one k p ps l) (above_less_one k p ps (omega (arith, l))) ∙ ap (λ qs. p ∷ qs) (split k ps up.1 (λ s. out (inr s))))
    (λ g. ⊎_elim
    (λ m. let high : AllAbove k ps = above_less k p.key ps g up.0 in
    ap₂ (λ xs ys. xs ++ ys) (below_less_one k p ps g ∙ below_none k ps high) (above_one k p ps m ∙ ap (λ qs. p ∷ qs) (above_all k ps high)))
    (λ m. let e : p.key ≡ k = omega (arith, g, m) in absurd (out (inl e))) (or_not k p.key)) (or_not p.key k)

pub sorted : (ps : List Piece) → Once ps → Up (by_key ps) × IsPermutation ps (by_key ps)
sorted [] once = (tt, IsPermutation-refl [])
sorted (p ∷ ps) once =
    let qs = by_key ps in
    let low = below p.key qs in
    let high = above p.key qs in
    let h : Up qs × IsPermutation ps qs = sorted ps once.1 in
    let all : low ++ high ≡ qs = split p.key qs h.0 (λ s. once.0 (stands_sorted ps p.key s)) in (
      up_join low p high (up_filter _ qs h.0) (are_below p.key qs) (are_above p.key qs) (up_filter _ qs h.0),
      IsPermutation-trans (p ∷ ps) (p ∷ (low ++ high)) (low ++ p ∷ high)
          (subst (λ rs. IsPermutation (p ∷ ps) (p ∷ rs)) (sym all) (IsPermutation-cons p ps qs h.1))
          (IsPermutation-sym (low ++ p ∷ high) (p ∷ (low ++ high)) (IsPermutation-middle low p high)),
    )
