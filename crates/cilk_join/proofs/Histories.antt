-- The invariant of a join, after every history.
--
-- - `Holds`: its row is that of the pieces that have arrived, and its keys are those of what was
--   stolen and has arrived;
-- - `opens`, `steals`, `arrives`: of an opening join, and after a steal and an arrival; `holds`:
--   after every history;
-- - `all_arrived`, `answers`: where it passes, and with what.
use Rattle.std.proofs.Common.{◌≡◌, ◌<◌, ◌≤◌, ◌⊎◌, inl, inr, ⊎_elim, ℕ, nat_eq, nat_lt, eq-eqb, Bool, true, false, List, [], ◌∷◌, ◌++◌, Some, None, refl, sym, ap, ap₂, ◌∙◌, subst, arith, append_assoc, if◌then◌else◌}
use Rattle.std.proofs.lemmas.Bool.{ltb-true, ltb-false}
use Rattle.cilk_join.specs.declared.join.Arrival.{Arrival}
use Rattle.cilk_join.specs.declared.join.Arrival.TheVariants.{Waits, Passes}
use Rattle.cilk_join.specs.Products.{Product, nothing, product, times}
use Rattle.cilk_join.specs.Rows.{Wait, Row, row, wait, ahead, keys, Stands, is_empty, or_unit}
use Rattle.cilk_join.specs.Joins.{JoinView, Answers, opening, IsFresh, IsOpen, MayArrive, arrived_at, passes, stolen_at}
use Rattle.cilk_join.specs.Histories.{Piece, JoinStep, Steals, Arrives, joined, IsHistory, stolen_keys, pieces_in, keys_of, IsOwn, HaveAllArrived, below, above, by_key, product_of, run_over, cut, IsAnswer}
use Rattle.cilk_join.proofs.Cuts.{AllBelow, Rises, dropped, Comes, among, placed_in, keys_cut, placed_cut, or_not, over_unit, append_none, below_all, above_none, below_less_one, above_one, below_append, above_append}
use Rattle.cilk_join.proofs.ByKey.{Once, all_stand, in_both, in_left, in_right, same_or_not, dropped_stands, dropped_other, dropped_gone, dropped_rises, rises_snoc, from_keys, all_filter, stands_sorted}

abbrev pub waits_of : JoinView → List (Wait Product)
waits_of j = let r = j.row in r.waits

abbrev pub keys_in : JoinView → List ℕ
keys_in j = keys (waits_of j)

-- these keys were stolen at the join, these pieces have arrived, and this one is the sync's own
pub record Holds (j : JoinView) (stolen : List ℕ) (ps : List Piece) (Own : Piece → Type 0) : Type 0 where
  pub row_is : j.row ≡ cut (keys_in j) (by_key ps)
  pub rises : Rises (keys_in j)
  pub stolen_low : (k : ℕ) → Stands stolen k → k ≤ j.stolen
  pub arrived_low : (k : ℕ) → Stands (keys_of ps) k → k ≤ j.arrived
  pub arrived_is : (j.arrived ≡ 0) ⊎ Stands (keys_of ps) j.arrived
  pub awaited : (k : ℕ) → Stands (keys_in j) k → Stands stolen k × (¬ (Stands (keys_of ps) k))
  pub there : (k : ℕ) → Stands stolen k → Stands (keys_in j) k ⊎ Stands (keys_of ps) k
  pub own : (p : Piece) → Own p → (j.closed ≡ true) × (j.stolen < p.key) × ((xs : List Piece) × (by_key ps ≡ xs ++ p ∷ []))
  pub closed : j.closed ≡ true → (p : Piece) × Own p
  pub once : Once ps

pub opens : Holds opening [] [] (λ p. ⊥)
opens = record {
  row_is = refl;
  rises = tt;
  stolen_low = λ k s. absurd s;
  arrived_low = λ k s. absurd s;
  arrived_is = inl refl;
  awaited = λ k s. absurd s;
  there = λ k s. absurd s;
  own = λ p o. absurd o;
  closed = λ q. let f : ⊥ = cc in absurd f;
  once = tt;
}

-- ---- a steal

keys_snoc : (ws : List (Wait Product)) (k : ℕ) → keys (ws ++ wait k None ∷ []) ≡ keys ws ++ k ∷ []
keys_snoc [] k = refl
keys_snoc (w ∷ ws) k = ap (λ ks. w.key ∷ ks) (keys_snoc ws k)

waits_none : (ws : List (Wait Product)) → ws ++ [] ≡ ws
waits_none [] = refl
waits_none (w ∷ ws) = ap (λ vs. w ∷ vs) (waits_none ws)

-- one more key, above all pieces
cut_snoc : (ks : List ℕ) (ps : List Piece) (k : ℕ) → AllBelow k ps → (let r = cut ks ps in row r.run (r.waits ++ wait k None ∷ [])) ≡ cut (ks ++ k ∷ []) ps
cut_snoc [] ps k low = ap₂ (λ xs ys. row (run_over xs) (wait k (run_over ys) ∷ [])) (sym (below_all k ps low)) (sym (above_none k ps low))
cut_snoc (j ∷ js) ps k low = ap (ahead (run_over (below j ps)) j) (cut_snoc js (above j ps) k (all_filter (λ p. p.key < k) _ ps low))

module _ (j : JoinView) (stolen : List ℕ) (ps : List Piece) (Own : Piece → Type 0) (h : Holds j stolen ps Own) where
  -- the awaited keys, and those that have arrived
  low_awaited : (k : ℕ) → Stands (keys_in j) k → k ≤ j.stolen
  low_awaited k s = let a = h.awaited k s in h.stolen_low k a.0

  low_pieces : (k : ℕ) → j.arrived < k → AllBelow k (by_key ps)
  low_pieces k l = from_keys k (by_key ps) (λ i s. let a : i ≤ j.arrived = h.arrived_low i (stands_sorted ps i s) in omega (arith, a, l))

  module _ (k : ℕ) (may : IsOpen j k) where
    not_closed : {X : Type 0} → j.closed ≡ true → X
    not_closed q = let o : j.closed ≡ false = may.0 in let f : ⊥ = cc in absurd f

    low_stolen : (i : ℕ) → Stands (k ∷ stolen) i → i ≤ k
    low_stolen i s = let l : j.stolen < k = may.1 in ⊎_elim (λ e. omega (arith, e)) (λ t. let a : i ≤ j.stolen = h.stolen_low i t in omega (arith, a, l)) s

    -- its piece has arrived
    steals_there : j.arrived ≡ k → Holds (record j { stolen = k }) (k ∷ stolen) ps Own
    steals_there e = record {
      row_is = h.row_is;
      rises = h.rises;
      stolen_low = low_stolen;
      arrived_low = h.arrived_low;
      arrived_is = h.arrived_is;
      awaited = λ i s. let a = h.awaited i s in (inr a.0, a.1);
      there = λ i s. ⊎_elim (λ q. inr (subst (Stands (keys_of ps)) (e ∙ q) arrived_there)) (λ t. h.there i t) s;
      own = λ p o. let a = h.own p o in not_closed a.0;
      closed = h.closed;
      once = h.once;
    }
      where
        arrived_there : Stands (keys_of ps) j.arrived
        arrived_there = let l : j.stolen < k = may.1 in ⊎_elim (λ z. let f : ⊥ = omega (arith, z, e, l) in absurd f) (λ s. s) h.arrived_is

    -- it is awaited
    steals_awaited : j.arrived < k → Holds (let r = j.row in record j { row = row r.run (r.waits ++ wait k None ∷ []); stolen = k }) (k ∷ stolen) ps Own
    steals_awaited l = record {
      row_is = ap (λ (r : Row Product). row r.run (r.waits ++ wait k None ∷ [])) h.row_is ∙ cut_snoc (keys_in j) (by_key ps) k (low_pieces k l) ∙ ap (λ ks. cut ks (by_key ps)) (sym (keys_snoc (waits_of j) k));
      rises = subst Rises (sym (keys_snoc (waits_of j) k)) (rises_snoc (keys_in j) k h.rises (λ i s. let a : i ≤ j.stolen = low_awaited i s in let b : j.stolen < k = may.1 in omega (arith, a, b)));
      stolen_low = low_stolen;
      arrived_low = h.arrived_low;
      arrived_is = h.arrived_is;
      awaited = λ i s. ⊎_elim
          (λ t. let a = h.awaited i t in (inr a.0, a.1))
          (λ t. ⊎_elim (λ q. (inl q, λ u. let a : i ≤ j.arrived = h.arrived_low i u in let f : ⊥ = omega (arith, a, l, q) in f)) (λ n. absurd n) t)
          (in_both (keys_in j) (k ∷ []) i (subst (λ ks. Stands ks i) (keys_snoc (waits_of j) k) s));
      there = λ i s. ⊎_elim
          (λ q. inl (subst (λ ks. Stands ks i) (sym (keys_snoc (waits_of j) k)) (in_right (keys_in j) (k ∷ []) i (inl q))))
          (λ t. ⊎_elim (λ a. inl (subst (λ ks. Stands ks i) (sym (keys_snoc (waits_of j) k)) (in_left (keys_in j) (k ∷ []) i a))) (λ b. inr b) (h.there i t)) s;
      own = λ p o. let a = h.own p o in not_closed a.0;
      closed = h.closed;
      once = h.once;
    }

    same_view : (b : Bool) → nat_eq j.arrived k ≡ b → stolen_at j k ≡ (let r = j.row in record j { row = row r.run (r.waits ++ (if b then [] else wait k None ∷ [])); stolen = k })
    same_view b e = ap (λ (b : Bool). let r = j.row in record j { row = row r.run (r.waits ++ (if b then [] else wait k None ∷ [])); stolen = k }) e

    pub steals : Holds (stolen_at j k) (k ∷ stolen) ps Own
    steals = ⊎_elim
        (λ e. subst (λ v. Holds v (k ∷ stolen) ps Own) (sym (same_view true (eq-eqb j.arrived k e) ∙ ap (λ ws. let r = j.row in record j { row = row r.run ws; stolen = k }) (waits_none (waits_of j)))) (steals_there e))
        (λ n. subst (λ v. Holds v (k ∷ stolen) ps Own) (sym (same_view false n)) (steals_awaited (less n))) (same_or_not j.arrived k)
      where
        less : nat_eq j.arrived k ≡ false → j.arrived < k
        less n = ⊎_elim (λ l. l) (λ g. let low : j.arrived ≤ k = may.2 in let e : j.arrived ≡ k = omega (arith, g, low) in let t : nat_eq j.arrived k ≡ true = eq-eqb j.arrived k e in let f : ⊥ = cc in absurd f) (or_not j.arrived k)

  -- ---- an arrival

  abbrev greatest : ℕ → ℕ → ℕ
  greatest a k = if nat_lt a k then k else a

  greatest_is : (a k : ℕ) → ((greatest a k ≡ k) × (a < k)) ⊎ ((greatest a k ≡ a) × (k ≤ a))
  greatest_is a k = by (nat_lt a k) refl
    where
      by : (b : Bool) → nat_lt a k ≡ b → ((greatest a k ≡ k) × (a < k)) ⊎ ((greatest a k ≡ a) × (k ≤ a))
      by true e = inl (rw e refl, ltb-true a k e)
      by false e = inr (rw e refl, ltb-false a k e)

  stays_closed : (last closed : Bool) → closed ≡ true → (if last then true else closed) ≡ true
  stays_closed true closed q = refl
  stays_closed false closed q = q

  module _ (p : Piece) (last : Bool) (may : MayArrive j p.key last) where
    not_yet : ¬ (Stands (keys_of ps) p.key)
    not_yet = ⊎_elim
        (λ a. let w = h.awaited p.key a.1 in w.1)
        (λ f. λ s. let l : j.arrived < p.key = f.2 in let g : p.key ≤ j.arrived = h.arrived_low p.key s in let f : ⊥ = omega (arith, l, g) in f) may

    comes_awaited : (ks : List ℕ) (qs : List Piece) → Rises ks → Stands ks p.key → Comes p.key ks qs
    comes_awaited [] qs up s = absurd s
    comes_awaited (i ∷ more) qs up s = ⊎_elim (λ e. inl e) (λ t. inr (all_stand (λ m. i < m) more p.key up.0 t, comes_awaited more (above i qs) up.1 t)) s

    comes_fresh : (ks : List ℕ) (qs : List Piece) → ((i : ℕ) → Stands ks i → i < p.key) → AllBelow p.key qs → Comes p.key ks qs
    comes_fresh [] qs low all = all
    comes_fresh (i ∷ more) qs low all = inr (low i (inl refl), comes_fresh more (above i qs) (λ m s. low m (inr s)) (all_filter (λ q. q.key < p.key) _ qs all))

    comes : Comes p.key (keys_in j) (by_key ps)
    comes = ⊎_elim
        (λ a. comes_awaited (keys_in j) (by_key ps) h.rises a.1)
        (λ f. comes_fresh (keys_in j) (by_key ps) (λ i s. let a : i ≤ j.stolen = low_awaited i s in let l : j.stolen < p.key = f.1 in omega (arith, a, l)) (low_pieces p.key f.2)) may

    abbrev after : JoinView
    after = arrived_at j p.key last (product p.views)

    placed_is : (let a = after in a.row) ≡ cut (dropped p.key (keys_in j)) (by_key (p ∷ ps))
    placed_is = ap (λ (r : Row Product). placed_in r p.key (product p.views)) h.row_is ∙ placed_cut p (keys_in j) (by_key ps) h.rises comes

    keys_are : keys_in after ≡ dropped p.key (keys_in j)
    keys_are = ap (λ (r : Row Product). keys r.waits) placed_is ∙ keys_cut (dropped p.key (keys_in j)) (by_key (p ∷ ps))

    -- the sync's own comes last of all
    is_last : IsFresh j p.key → by_key (p ∷ ps) ≡ by_key ps ++ p ∷ []
    is_last f = let low = low_pieces p.key f.2 in ap₂ (λ xs ys. xs ++ p ∷ ys) (below_all p.key (by_key ps) low) (above_none p.key (by_key ps) low)

    -- and stays there
    stays_last : (q : Piece) (xs : List Piece) → p.key < q.key → by_key ps ≡ xs ++ q ∷ [] → by_key (p ∷ ps) ≡ (below p.key xs ++ p ∷ above p.key xs) ++ q ∷ []
    stays_last q xs l e =
        ap (among p) e
        ∙ ap₂ (λ ys zs. ys ++ p ∷ zs)
        (below_append p.key xs (q ∷ []) ∙ ap (λ ys. below p.key xs ++ ys) (below_less_one p.key q [] (omega (arith, l))) ∙ append_none (below p.key xs))
        (above_append p.key xs (q ∷ []) ∙ ap (λ ys. above p.key xs ++ ys) (above_one p.key q [] l))
        ∙ sym (append_assoc (below p.key xs) (p ∷ above p.key xs) (q ∷ []))

    abbrev OwnNow : Piece → Type 0
    OwnNow q = ((p ≡ q) × (last ≡ true)) ⊎ Own q

    own_here : (q : Piece) → p ≡ q → last ≡ true → (let a = after in (a.closed ≡ true) × (a.stolen < q.key) × ((xs : List Piece) × (by_key (p ∷ ps) ≡ xs ++ q ∷ [])))
    own_here q e l = ⊎_elim
        (λ a. let o : last ≡ false = a.0 in let f : ⊥ = cc in absurd f)
        (λ f. (rw l refl, subst (λ (q : Piece). j.stolen < q.key) e f.1, (by_key ps, subst (λ (q : Piece). by_key (p ∷ ps) ≡ by_key ps ++ q ∷ []) e (is_last f)))) may

    own_before : (q : Piece) → Own q → (let a = after in (a.closed ≡ true) × (a.stolen < q.key) × ((xs : List Piece) × (by_key (p ∷ ps) ≡ xs ++ q ∷ [])))
    own_before q o =
        let w = h.own q o in
        let c : j.closed ≡ true = w.0 in
        let l : j.stolen < q.key = w.1 in
        ⊎_elim
        (λ a. let m : p.key ≤ j.stolen = low_awaited p.key a.1 in
        (stays_closed last j.closed c, l, (below p.key w.2.0 ++ p ∷ above p.key w.2.0, stays_last q w.2.0 (omega (arith, l, m)) w.2.1)))
        (λ f. let o : j.closed ≡ false = f.0 in let f : ⊥ = cc in absurd f) may

    closed_now : (b : Bool) → last ≡ b → (let a = after in a.closed ≡ true) → (q : Piece) × OwnNow q
    closed_now true e c = (p, inl (refl, e))
    closed_now false e c = let d : j.closed ≡ true = rw e at c in let w = h.closed d in (w.0, inr w.1)

    pub arrives : Holds after stolen (p ∷ ps) OwnNow
    arrives = record {
      row_is = placed_is ∙ ap (λ ks. cut ks (by_key (p ∷ ps))) (sym keys_are);
      rises = subst Rises (sym keys_are) (dropped_rises p.key (keys_in j) h.rises);
      stolen_low = h.stolen_low;
      arrived_low = λ i s. ⊎_elim
          (λ g. let a : greatest j.arrived p.key ≡ p.key = g.0 in let b : j.arrived < p.key = g.1 in ⊎_elim (λ e. omega (arith, a, e)) (λ t. let c : i ≤ j.arrived = h.arrived_low i t in omega (arith, a, b, c)) s)
          (λ g. let a : greatest j.arrived p.key ≡ j.arrived = g.0 in let b : p.key ≤ j.arrived = g.1 in ⊎_elim (λ e. omega (arith, a, b, e)) (λ t. let c : i ≤ j.arrived = h.arrived_low i t in omega (arith, a, c)) s)
          (greatest_is j.arrived p.key);
      arrived_is = ⊎_elim
          (λ g. inr (inl (sym g.0)))
          (λ g. ⊎_elim (λ z. inl (g.0 ∙ z)) (λ s. inr (inr (subst (Stands (keys_of ps)) (sym g.0) s))) h.arrived_is)
          (greatest_is j.arrived p.key);
      awaited = λ i s. let d : Stands (dropped p.key (keys_in j)) i = subst (λ ks. Stands ks i) keys_are s in
          let a = h.awaited i (dropped_stands p.key (keys_in j) i d) in
          (a.0, λ t. ⊎_elim (λ e. dropped_gone p.key (keys_in j) h.rises (subst (Stands (dropped p.key (keys_in j))) (sym e) d)) (λ u. a.1 u) t);
      there = λ i s. ⊎_elim
          (λ a. ⊎_elim
          (λ e. inr (inl (sym e)))
          (λ n. inl (subst (λ ks. Stands ks i) (sym keys_are) (dropped_other p.key (keys_in j) i a (λ e. let q : nat_eq i p.key ≡ true = eq-eqb i p.key e in let f : ⊥ = cc in f))))
          (same_or_not i p.key))
          (λ b. inr (inr b)) (h.there i s);
      own = λ q o. ⊎_elim (λ e. own_here q e.0 e.1) (λ b. own_before q b) o;
      closed = closed_now last refl;
      once = (not_yet, h.once);
    }

  -- ---- where it passes

  abbrev AllHere : Type 0
  AllHere = ((p : Piece) × Own p) × ((k : ℕ) → Stands stolen k → Stands (keys_of ps) k)

  passes_here : (ws : List (Wait Product)) (c : Bool) → waits_of j ≡ ws → j.closed ≡ c → (if c then is_empty ws else false) ≡ true → (j.closed ≡ true) × (waits_of j ≡ [])
  passes_here [] true e q h = (q, e)
  passes_here (w ∷ ws) true e q h = let f : ⊥ = cc in absurd f
  passes_here ws false e q h = let f : ⊥ = cc in absurd f

  passes_parts : passes j ≡ true → (j.closed ≡ true) × (waits_of j ≡ [])
  passes_parts q = passes_here (waits_of j) j.closed refl refl q

  pub passes_then : passes j ≡ true → AllHere
  passes_then q =
      let w = passes_parts q in
      (h.closed w.0, λ k s. ⊎_elim (λ a. absurd (subst (λ (ws : List (Wait Product)). Stands (keys ws) k) w.1 a)) (λ b. b) (h.there k s))

  none_there : AllHere → (ws : List (Wait Product)) → waits_of j ≡ ws → is_empty ws ≡ true
  none_there all [] e = refl
  none_there all (w ∷ ws) e =
      let a = h.awaited w.key (subst (λ (ws : List (Wait Product)). Stands (keys ws) w.key) (sym e) (inl refl)) in
      absurd (a.1 (all.1 w.key a.0))

  pub then_passes : AllHere → passes j ≡ true
  then_passes all =
      let w = h.own all.0.0 all.0.1 in
      let c : j.closed ≡ true = w.0 in
      rw c (none_there all (waits_of j) refl)

  pub whole : passes j ≡ true → (x : Product) → (let r = j.row in r.run ≡ Some x) → x ≡ product_of (by_key ps)
  whole q x e =
      let w = passes_parts q in
      let row_is : j.row ≡ cut [] (by_key ps) = h.row_is ∙ ap (λ (ws : List (Wait Product)). cut (keys ws) (by_key ps)) w.1 in
      let run_is : Some x ≡ run_over (by_key ps) = sym e ∙ ap (λ (r : Row Product). r.run) row_is in
      ap (or_unit nothing times) run_is ∙ over_unit (by_key ps)

-- ---- after every history

pub holds : (steps : List JoinStep) → IsHistory steps → Holds (joined steps) (stolen_keys steps) (pieces_in steps) (IsOwn steps)
holds [] h = opens
holds (Steals k ∷ steps) h = steals (joined steps) (stolen_keys steps) (pieces_in steps) (IsOwn steps) (holds steps h.0) k h.1
holds (Arrives p last ∷ steps) h = arrives (joined steps) (stolen_keys steps) (pieces_in steps) (IsOwn steps) (holds steps h.0) p last h.1

pub all_arrived : (steps : List JoinStep) → IsHistory steps → (passes (joined steps) ≡ true → HaveAllArrived steps) × (HaveAllArrived steps → passes (joined steps) ≡ true)
all_arrived steps h =
    let state = holds steps h in
    (passes_then (joined steps) (stolen_keys steps) (pieces_in steps) (IsOwn steps) state, then_passes (joined steps) (stolen_keys steps) (pieces_in steps) (IsOwn steps) state)

pub answers : (steps : List JoinStep) → IsHistory steps → (answer : Arrival) (left : JoinView) → Answers (joined steps) answer left → IsAnswer steps answer
answers steps h Waits left a = λ all. let w = all_arrived steps h in let q : passes (joined steps) ≡ true = w.1 all in let n : passes (joined steps) ≡ false = a.0 in let f : ⊥ = cc in f
answers steps h (Passes views) left a =
    let w = all_arrived steps h in
    (w.0 a.0, whole (joined steps) (stolen_keys steps) (pieces_in steps) (IsOwn steps) (holds steps h) a.0 (product views) a.1)
