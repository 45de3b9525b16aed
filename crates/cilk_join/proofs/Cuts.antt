-- Pieces by key, and the row that they give, cut at keys.
--
-- - `between_is`, `cut_beside`: the product of a piece and those beside it;
-- - `below_all`, `above_none`, `below_none`, `above_all`, `below_more`, ..: pieces
--   below a key, and above it;
-- - `keys_cut`, `placed_cut`: a piece comes to its place in the row as it does among the pieces;
-- - `parts_are_few`: the runs of any row.
use Rattle.std.proofs.Common.{◌≡◌, ◌<◌, ◌≤◌, ◌+◌, ◌⊎◌, inl, inr, ⊎_elim, ℕ, suc, nat_eq, nat_lt, eq-eqb, eqb-true, Bool, true, false, List, [], ◌∷◌, ◌++◌, map, length, Option, Some, None, refl, sym, ap, ap₂, ◌∙◌, subst, arith, if◌then◌else◌}
use Rattle.std.specs.List.{AllByRecursion}
use Rattle.std.proofs.lemmas.Bool.{lt-ltb, le-ltb, ltb-true, ltb-false}
use Rattle.std.proofs.lemmas.List.{map-append}
use Rattle.std.proofs.lemmas.List.Elements.{filter-append}
use Rattle.cilk_types.specs.declared.event.Instance.{Instance}
use Rattle.cilk_monoid.specs.declared.kind.MonoidKind.{MonoidKind}
use Rattle.cilk_monoid.specs.Kinds.{structure_of, IsMember}
use Rattle.cilk_monoid.specs.Lawful.{lawful}
use Rattle.cilk_monoid.specs.Products as monoid
use Rattle.cilk_monoid.specs.Values.{ViewValue}
use Rattle.cilk_monoid.proofs.ProductLaws.{product-append, product_member, members_of}
use Rattle.cilk_hypermap.specs.Hypermap.{value_in}
use Rattle.cilk_join.specs.Products.{Product, nothing, product, times, between}
use Rattle.cilk_join.specs.Rows.{Wait, Row, row, wait, ahead, keys, count, runs_in, placed, or_unit}
use Rattle.cilk_join.specs.Histories.{Piece, below, above, product_of, run_over, cut}
use Rattle.cilk_join.proofs.Products.{same_product, member}

-- ---- products of pieces

are_members : (k : MonoidKind) (i : Instance) (ps : List Piece) → AllByRecursion (IsMember k) (map (λ (p : Piece). value_in p.views k i) ps)
are_members k i ps = members_of (structure_of k) (IsMember k) (lawful k) (λ (p : Piece). value_in p.views k i) (λ p. member p.views k i) ps

-- a piece between others, left first
beside : (xs : List Piece) (p : Piece) (ys : List Piece) → times (times (product_of xs) (product p.views)) (product_of ys) ≡ product_of (xs ++ p ∷ ys)
beside xs p ys = same_product _ _ (λ k i.
    let value : Piece → ViewValue = λ p. value_in p.views k i in
    let M = structure_of k in
    let laws = lawful k in
    laws.associative (monoid.product M (map value xs)) (value p) (monoid.product M (map value ys)) (product_member M (IsMember k) laws (map value xs) (are_members k i xs)) (member p.views k i) (product_member M (IsMember k) laws (map value ys) (are_members k i ys))
    ∙ sym (product-append M (IsMember k) laws (map value xs) (map value (p ∷ ys)) (are_members k i xs) (are_members k i (p ∷ ys)))
    ∙ ap (monoid.product M) (sym (map-append value xs (p ∷ ys))))

pub over_unit : (ps : List Piece) → or_unit nothing times (run_over ps) ≡ product_of ps
over_unit [] = refl
over_unit (p ∷ ps) = refl

over_some : (xs : List Piece) (p : Piece) (ys : List Piece) → run_over (xs ++ p ∷ ys) ≡ Some (product_of (xs ++ p ∷ ys))
over_some [] p ys = refl
over_some (a ∷ xs) p ys = refl

between_is : (xs : List Piece) (p : Piece) (ys : List Piece) → Some (between (run_over xs) (product p.views) (run_over ys)) ≡ run_over (xs ++ p ∷ ys)
between_is xs p ys = ap Some (ap₂ (λ a b. times (times a (product p.views)) b) (over_unit xs) (over_unit ys) ∙ beside xs p ys) ∙ sym (over_some xs p ys)

-- ---- pieces below a key, and above it

abbrev pub AllBelow : ℕ → List Piece → Type 0
AllBelow k ps = AllByRecursion (λ (p : Piece). p.key < k) ps

abbrev pub AllAbove : ℕ → List Piece → Type 0
AllAbove k ps = AllByRecursion (λ (p : Piece). k < p.key) ps

pub below_one : (k : ℕ) (p : Piece) (ps : List Piece) → p.key < k → below k (p ∷ ps) ≡ p ∷ below k ps
below_one k p ps h = rw (lt-ltb p.key k h) refl

pub below_less_one : (k : ℕ) (p : Piece) (ps : List Piece) → k ≤ p.key → below k (p ∷ ps) ≡ below k ps
below_less_one k p ps h = rw (le-ltb p.key k h) refl

pub above_one : (k : ℕ) (p : Piece) (ps : List Piece) → k < p.key → above k (p ∷ ps) ≡ p ∷ above k ps
above_one k p ps h = rw (lt-ltb k p.key h) refl

pub above_less_one : (k : ℕ) (p : Piece) (ps : List Piece) → p.key ≤ k → above k (p ∷ ps) ≡ above k ps
above_less_one k p ps h = rw (le-ltb k p.key h) refl

pub below_all : (k : ℕ) (ps : List Piece) → AllBelow k ps → below k ps ≡ ps
below_all k [] h = refl
below_all k (p ∷ ps) h = below_one k p ps h.0 ∙ ap (λ qs. p ∷ qs) (below_all k ps h.1)

pub above_none : (k : ℕ) (ps : List Piece) → AllBelow k ps → above k ps ≡ []
above_none k [] h = refl
above_none k (p ∷ ps) h = above_less_one k p ps (let l : p.key < k = h.0 in omega (arith, l)) ∙ above_none k ps h.1

pub below_none : (k : ℕ) (ps : List Piece) → AllAbove k ps → below k ps ≡ []
below_none k [] h = refl
below_none k (p ∷ ps) h = below_less_one k p ps (let l : k < p.key = h.0 in omega (arith, l)) ∙ below_none k ps h.1

pub above_all : (k : ℕ) (ps : List Piece) → AllAbove k ps → above k ps ≡ ps
above_all k [] h = refl
above_all k (p ∷ ps) h = above_one k p ps h.0 ∙ ap (λ qs. p ∷ qs) (above_all k ps h.1)

-- each piece is below a key, or not
pub or_not : (a b : ℕ) → (a < b) ⊎ (b ≤ a)
or_not a b = by (nat_lt a b) refl
  where
    by : (t : Bool) → nat_lt a b ≡ t → (a < b) ⊎ (b ≤ a)
    by true e = inl (ltb-true a b e)
    by false e = inr (ltb-false a b e)

pub are_below : (k : ℕ) (ps : List Piece) → AllBelow k (below k ps)
are_below k [] = tt
are_below k (p ∷ ps) = ⊎_elim
    (λ h. subst (AllBelow k) (sym (below_one k p ps h)) (h, are_below k ps))
    (λ h. subst (AllBelow k) (sym (below_less_one k p ps h)) (are_below k ps)) (or_not p.key k)

pub are_above : (k : ℕ) (ps : List Piece) → AllAbove k (above k ps)
are_above k [] = tt
are_above k (p ∷ ps) = ⊎_elim
    (λ h. subst (AllAbove k) (sym (above_one k p ps h)) (h, are_above k ps))
    (λ h. subst (AllAbove k) (sym (above_less_one k p ps h)) (are_above k ps)) (or_not k p.key)

pub below_more : (j k : ℕ) (ps : List Piece) → j ≤ k → AllBelow j ps → AllBelow k ps
below_more j k [] le h = tt
below_more j k (p ∷ ps) le h = ((let l : p.key < j = h.0 in omega (arith, l, le)), below_more j k ps le h.1)

pub above_less : (j k : ℕ) (ps : List Piece) → j ≤ k → AllAbove k ps → AllAbove j ps
above_less j k [] le h = tt
above_less j k (p ∷ ps) le h = ((let l : k < p.key = h.0 in omega (arith, l, le)), above_less j k ps le h.1)

-- those below the lower of two keys
below_below : (j k : ℕ) (ps : List Piece) → j < k → below j (below k ps) ≡ below j ps
below_below j k [] h = refl
below_below j k (p ∷ ps) h = ⊎_elim
    (λ l. ap (below j) (below_one k p ps l) ∙ by (below_below j k ps h) (or_not p.key j))
    (λ g. ap (below j) (below_less_one k p ps g) ∙ below_below j k ps h ∙ sym (below_less_one j p ps (omega (arith, g, h)))) (or_not p.key k)
  where
    by : below j (below k ps) ≡ below j ps → (p.key < j) ⊎ (j ≤ p.key) → below j (p ∷ below k ps) ≡ below j (p ∷ ps)
    by same o = ⊎_elim
        (λ l. below_one j p (below k ps) l ∙ ap (λ qs. p ∷ qs) same ∙ sym (below_one j p ps l))
        (λ g. below_less_one j p (below k ps) g ∙ same ∙ sym (below_less_one j p ps g)) o

-- those above the greater of two keys
above_above : (j k : ℕ) (ps : List Piece) → j < k → above j (above k ps) ≡ above k (above j ps)
above_above j k [] h = refl
above_above j k (p ∷ ps) h = ⊎_elim
    (λ l. let m : j < p.key = omega (arith, l, h) in
    ap (above j) (above_one k p ps l) ∙ above_one j p (above k ps) m ∙ ap (λ qs. p ∷ qs) (above_above j k ps h) ∙ sym (above_one k p (above j ps) l) ∙ ap (above k) (sym (above_one j p ps m)))
    (λ g. ap (above j) (above_less_one k p ps g) ∙ above_above j k ps h ∙ by (or_not j p.key) g) (or_not k p.key)
  where
    by : (j < p.key) ⊎ (p.key ≤ j) → p.key ≤ k → above k (above j ps) ≡ above k (above j (p ∷ ps))
    by o g = ⊎_elim
        (λ l. sym (above_less_one k p (above j ps) g) ∙ ap (above k) (sym (above_one j p ps l)))
        (λ m. ap (above k) (sym (above_less_one j p ps m))) o

-- those between two keys
above_below : (j k : ℕ) (ps : List Piece) → j < k → above j (below k ps) ≡ below k (above j ps)
above_below j k [] h = refl
above_below j k (p ∷ ps) h = ⊎_elim
    (λ l. ap (above j) (below_one k p ps l) ∙ by (above_below j k ps h) (or_not j p.key) l)
    (λ g. let m : j < p.key = omega (arith, g, h) in
    ap (above j) (below_less_one k p ps g) ∙ above_below j k ps h ∙ sym (below_less_one k p (above j ps) g) ∙ ap (below k) (sym (above_one j p ps m))) (or_not p.key k)
  where
    by : above j (below k ps) ≡ below k (above j ps) → (j < p.key) ⊎ (p.key ≤ j) → p.key < k → above j (p ∷ below k ps) ≡ below k (above j (p ∷ ps))
    by same o l = ⊎_elim
        (λ m. above_one j p (below k ps) m ∙ ap (λ qs. p ∷ qs) same ∙ sym (below_one k p (above j ps) l) ∙ ap (below k) (sym (above_one j p ps m)))
        (λ g. above_less_one j p (below k ps) g ∙ same ∙ ap (below k) (sym (above_less_one j p ps g))) o

-- ---- a piece among the others

abbrev pub among : Piece → List Piece → List Piece
among p ps = below p.key ps ++ p ∷ above p.key ps

pub below_append : (k : ℕ) (xs ys : List Piece) → below k (xs ++ ys) ≡ below k xs ++ below k ys
below_append k xs ys = filter-append (λ (p : Piece). nat_lt p.key k) xs ys

pub above_append : (k : ℕ) (xs ys : List Piece) → above k (xs ++ ys) ≡ above k xs ++ above k ys
above_append k xs ys = filter-append (λ (p : Piece). nat_lt k p.key) xs ys

pub append_none : (xs : List Piece) → xs ++ [] ≡ xs
append_none [] = refl
append_none (a ∷ xs) = ap (λ ys. a ∷ ys) (append_none xs)

-- a lower key parts the others alone
below_among : (j : ℕ) (p : Piece) (ps : List Piece) → j < p.key → below j (among p ps) ≡ below j ps
below_among j p ps h =
    below_append j (below p.key ps) (p ∷ above p.key ps)
    ∙ ap₂ (λ xs ys. xs ++ ys) (below_below j p.key ps h) (below_less_one j p (above p.key ps) (omega (arith, h)) ∙ below_none j (above p.key ps) (above_less j p.key (above p.key ps) (omega (arith, h)) (are_above p.key ps)))
    ∙ append_none (below j ps)

above_among : (j : ℕ) (p : Piece) (ps : List Piece) → j < p.key → above j (among p ps) ≡ among p (above j ps)
above_among j p ps h =
    above_append j (below p.key ps) (p ∷ above p.key ps)
    ∙ ap₂ (λ xs ys. xs ++ ys) (above_below j p.key ps h) (above_one j p (above p.key ps) h ∙ ap (λ qs. p ∷ qs) (above_above j p.key ps h))

-- ---- rows

pub keys_cut : (ks : List ℕ) (ps : List Piece) → (let r = cut ks ps in keys r.waits) ≡ ks
keys_cut [] ps = refl
keys_cut (k ∷ ks) ps = ap (λ js. k ∷ js) (keys_cut ks (above k ps))

-- the keys ascend
abbrev pub Rises : List ℕ → Type 0
Rises [] = Unit {0}
Rises (k ∷ ks) = AllByRecursion (λ j. k < j) ks × Rises ks

-- without a key
abbrev pub dropped : ℕ → List ℕ → List ℕ
dropped k [] = []
dropped k (j ∷ js) = if nat_eq j k then js else j ∷ dropped k js

abbrev runs_ahead : Option Product → Product → Row Product → Row Product
runs_ahead left x r = row (Some (between left x r.run)) r.waits

-- pieces below all keys, before the others
cut_beside : (xs : List Piece) (p : Piece) (ks : List ℕ) (ys : List Piece) → AllBelow p.key xs → AllByRecursion (λ j. p.key < j) ks
    → runs_ahead (run_over xs) (product p.views) (cut ks ys) ≡ cut ks (xs ++ p ∷ ys)
cut_beside xs p [] ys low high = ap (λ r. row r []) (between_is xs p ys)
cut_beside xs p (k ∷ ks) ys low high =
    let h : p.key < k = high.0 in
    let low' : AllBelow k xs = below_more p.key k xs (omega (arith, h)) low in
    let below_is : below k (xs ++ p ∷ ys) ≡ xs ++ p ∷ below k ys = below_append k xs (p ∷ ys) ∙ ap₂ (λ xs ys. xs ++ ys) (below_all k xs low') (below_one k p ys h) in
    let above_is : above k (xs ++ p ∷ ys) ≡ above k ys = above_append k xs (p ∷ ys) ∙ ap₂ (λ xs ys. xs ++ ys) (above_none k xs low') (above_less_one k p ys (omega (arith, h))) in
    ap₂ (λ r ps. ahead r k (cut ks ps)) (between_is xs p (below k ys) ∙ ap run_over (sym below_is)) (sym above_is)

-- a key that is among these, or after all of them and all pieces
abbrev pub Comes : ℕ → List ℕ → List Piece → Type 0
Comes k [] ps = AllBelow k ps
Comes k (j ∷ js) ps = (j ≡ k) ⊎ ((j < k) × Comes k js (above j ps))

pub dropped_here : (k j : ℕ) (js : List ℕ) → j ≡ k → dropped k (j ∷ js) ≡ js
dropped_here k j js e = rw (eq-eqb j k e) refl

pub dropped_later : (k j : ℕ) (js : List ℕ) → nat_eq j k ≡ false → dropped k (j ∷ js) ≡ j ∷ dropped k js
dropped_later k j js e = rw e refl

pub differs : (j k : ℕ) → j < k → nat_eq j k ≡ false
differs j k h = by (nat_eq j k) refl
  where
    by : (b : Bool) → nat_eq j k ≡ b → nat_eq j k ≡ false
    by true e = let q : j ≡ k = eqb-true j k e in let f : ⊥ = omega (arith, h, q) in absurd f
    by false e = e

placed_here : (run : Option Product) (w : Wait Product) (ws : List (Wait Product)) (k : ℕ) (x : Product) → nat_eq w.key k ≡ true → placed nothing times run (w ∷ ws) k x ≡ row (Some (between run x w.run)) ws
placed_here run w ws k x e = rw e refl

placed_later : (run : Option Product) (w : Wait Product) (ws : List (Wait Product)) (k : ℕ) (x : Product) → nat_eq w.key k ≡ false → placed nothing times run (w ∷ ws) k x ≡ ahead run w.key (placed nothing times w.run ws k x)
placed_later run w ws k x e = rw e refl

abbrev pub placed_in : Row Product → ℕ → Product → Row Product
placed_in r k x = placed nothing times r.run r.waits k x

pub placed_cut : (p : Piece) (ks : List ℕ) (ps : List Piece) → Rises ks → Comes p.key ks ps → placed_in (cut ks ps) p.key (product p.views) ≡ cut (dropped p.key ks) (among p ps)
placed_cut p [] ps up h =
    between_last
  where
    parts : among p ps ≡ ps ++ p ∷ []
    parts = ap₂ (λ xs ys. xs ++ p ∷ ys) (below_all p.key ps h) (above_none p.key ps h)

    between_last : placed_in (cut [] ps) p.key (product p.views) ≡ cut [] (among p ps)
    between_last = ap (λ r. row r []) (between_is ps p []) ∙ ap (cut []) (sym parts)
placed_cut p (j ∷ js) ps up h = ⊎_elim
    (λ e. let low : AllByRecursion (λ i. p.key < i) js = subst (λ k. AllByRecursion (λ i. k < i) js) e up.0 in
    placed_here (run_over (below j ps)) (let r = cut js (above j ps) in wait j r.run) (let r = cut js (above j ps) in r.waits) p.key (product p.views) (eq-eqb j p.key e)
    ∙ ap (λ k. runs_ahead (run_over (below k ps)) (product p.views) (cut js (above k ps))) e
    ∙ cut_beside (below p.key ps) p js (above p.key ps) (are_below p.key ps) low
    ∙ ap (λ ks. cut ks (among p ps)) (sym (dropped_here p.key j js e)))
    (λ g. let l : j < p.key = g.0 in
    placed_later (run_over (below j ps)) (let r = cut js (above j ps) in wait j r.run) (let r = cut js (above j ps) in r.waits) p.key (product p.views) (differs j p.key l)
    ∙ ap (ahead (run_over (below j ps)) j) (placed_cut p js (above j ps) up.1 g.1)
    ∙ ap₂ (λ xs ys. ahead (run_over xs) j (cut (dropped p.key js) ys)) (sym (below_among j p ps l)) (sym (above_among j p ps l))
    ∙ ap (λ ks. cut ks (among p ps)) (sym (dropped_later p.key j js (differs j p.key l)))) h

-- ---- runs

one_at_most : {V : Type 0} (run : Option V) → count run ≤ 1
one_at_most None = omega arith
one_at_most (Some v) = omega arith

runs_are_few : {V : Type 0} (ws : List (Wait V)) → runs_in ws ≤ length ws
runs_are_few [] = omega arith
runs_are_few (w ∷ ws) = let a : count w.run ≤ 1 = one_at_most w.run in let b : runs_in ws ≤ length ws = runs_are_few ws in omega (arith, a, b)

pub parts_are_few : {V : Type 0} (run : Option V) (ws : List (Wait V)) → count run + runs_in ws ≤ suc (length ws)
parts_are_few run ws = let a : count run ≤ 1 = one_at_most run in let b : runs_in ws ≤ length ws = runs_are_few ws in omega (arith, a, b)
