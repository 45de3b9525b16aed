-- The stolen children of a block, and what lies there where pieces of others change.
--
-- - `lays_among`: what lies there is known by these children alone;
-- - `stolen_among`: the continuations beside them were stolen;
-- - `stolen_apart`, `among_low`: none is listed twice, and the last is the greatest;
-- - `in_less`, `in_rest`, `not_in`: names without one.
use Rattle.std.proofs.Common.{◌≡◌, inl, inr, ⊎_elim, ◌<◌, ◌≤◌, ℕ, suc, nat_eq, eqb-true, Bool, true, false, true≢false, cond, List, [], ◌∷◌, ◌++◌, Option, refl, sym, ap, ◌∙◌, subst, arith}
use Rattle.std.proofs.lemmas.Bool.{cases_Bool}
use Rattle.cilk_types.specs.declared.invocation.Invocation.TheVariants.{Call, Spawn}
use Rattle.cilk_monoid.specs.Values.{ViewValue}
use Rattle.cilk_monoid.specs.declared.kind.MonoidKind.{MonoidKind}
use Rattle.cilk_join.specs.Rows.{Wait, Stands}
use Rattle.cilk_determinacy.specs.Runs.{Name, same_name, Reads, Writes, Syncs, Ends, Passes, Deed, Does, Invokes}
use Rattle.cilk_determinacy.proofs.Basics.{same_name-refl, same_name-eq}
use Rattle.cilk_determinacy.specs.Reducers.{View, views_of}
use Rattle.cilk_determinacy.specs.FrameEnvs.{FrameEnv}
use Rattle.cilk_scheduler.specs.Blocks.{Apart, IsRun, Lays, NotIn, stolen_in}
use Rattle.cilk_scheduler.specs.Schedulers.{greatest}
use Rattle.cilk_scheduler.specs.WorkerTables.{IsIn, without}
use Rattle.cilk_scheduler.proofs.Spawned.{greatest_more}

module _ (kind : MonoidKind) (kid kid' : ℕ → View) (there there' : ℕ → Bool) (own own' : View) (owns : own' ≡ own) where
  pub lays_among : (acc : View) (ks : List ℕ) (run : Option ViewValue) (waits : List (Wait ViewValue)) → ((q : ℕ) → Stands ks q → there' q ≡ there q) → ((q : ℕ) → Stands ks q → there q ≡ true → kid' q ≡ kid q)
      → Lays kind kid there own acc ks run waits → Lays kind kid' there' own' acc ks run waits
  lays_among acc [] run waits same kids h = (subst (λ o. IsRun kind ((views_of kind).combine acc o) run) (sym owns) h.0, h.1)
  lays_among acc (k ∷ ks) run waits same kids h = by (λ a r w g. lays_among a ks r w (λ q at. same q (inr at)) (λ q at. kids q (inr at)) g) h
    where
      by : ((a : View) (r : Option ViewValue) (w : List (Wait ViewValue)) → Lays kind kid there own a ks r w → Lays kind kid' there' own' a ks r w) → Lays kind kid there own acc (k ∷ ks) run waits → Lays kind kid' there' own' acc (k ∷ ks) run waits
      by next (inl g) = inl (same k (inl refl) ∙ g.0, subst (λ v. Lays kind kid' there' own' ((views_of kind).combine acc v) ks run waits) (sym (kids k (inl refl) g.0)) (next ((views_of kind).combine acc (kid k)) run waits g.1))
      by next (inr g) = inr (same k (inl refl) ∙ g.0, g.1, g.2, g.3, g.4, next ((views_of kind).unit) g.1 g.2 g.5)

among_last : (ks : List ℕ) (k q : ℕ) (loose : ℕ → Bool) → loose k ≡ true → ((z : ℕ) → Stands ks z → loose z ≡ true) → Stands (ks ++ k ∷ []) q → loose q ≡ true
among_last [] k q loose is all (inl e) = ap loose (sym e) ∙ is
among_last [] k q loose is all (inr h) = absurd h
among_last (j ∷ ks) k q loose is all (inl e) = all q (inl e)
among_last (j ∷ ks) k q loose is all (inr h) = among_last ks k q loose is (λ z at. all z (inr at)) h

-- the continuations beside a block's stolen children were stolen
pub stolen_among : (loose : ℕ → Bool) (k : ℕ) (ks : List ℕ) (ds : List (Deed FrameEnv)) (q : ℕ) → ((z : ℕ) → Stands ks z → loose z ≡ true) → Stands (stolen_in loose k ks ds) q → loose q ≡ true
stolen_among loose k ks [] q all h = all q h
stolen_among loose k ks (Does (Reads c v) ∷ ds) q all h = stolen_among loose k ks ds q all h
stolen_among loose k ks (Does (Writes c v) ∷ ds) q all h = stolen_among loose k ks ds q all h
stolen_among loose k ks (Does Syncs ∷ ds) q all h = stolen_among loose k [] ds q (λ z no. absurd no) h
stolen_among loose k ks (Does (Ends v gone) ∷ ds) q all h = stolen_among loose k ks ds q all h
stolen_among loose k ks (Does (Passes m) ∷ ds) q all h = stolen_among loose k ks ds q all h
stolen_among loose k ks (Invokes Call w ∷ ds) q all h = stolen_among loose (suc k) ks ds q all h
stolen_among loose k ks (Invokes Spawn w ∷ ds) q all h = stolen_among loose (suc k) (cond (loose k) (ks ++ k ∷ []) ks) ds q (by (loose k) refl) h
  where
    by : (t : Bool) → loose k ≡ t → (z : ℕ) → Stands (cond t (ks ++ k ∷ []) ks) z → loose z ≡ true
    by true e z at = among_last ks k z loose e all at
    by false e z at = all z at

-- ---- each is listed once, and the last is the greatest

-- all of these are below
abbrev pub Below : ℕ → List ℕ → Type 0
Below k ks = (z : ℕ) → Stands ks z → z < k

not_below : (k : ℕ) (ks : List ℕ) → Below k ks → NotIn k ks
not_below k [] h = tt
not_below k (j ∷ ks) h = (⊎_elim (λ q. let low = h j (inl refl) in let e : j ≡ k = eqb-true j k q in absurd (omega (arith, low, e))) (λ f. f) (cases_Bool (nat_eq j k)), not_below k ks (λ z at. h z (inr at)))

out_more : (k z : ℕ) (ks : List ℕ) → z < k → NotIn z ks → NotIn z (ks ++ k ∷ [])
out_more k z [] low h = (⊎_elim (λ q. let e : k ≡ z = eqb-true k z q in absurd (omega (arith, low, e))) (λ f. f) (cases_Bool (nat_eq k z)), tt)
out_more k z (j ∷ ks) low h = (h.0, out_more k z ks low h.1)

apart_more : (k : ℕ) (ks : List ℕ) → Below k ks → Apart ks → Apart (ks ++ k ∷ [])
apart_more k [] low h = (tt, tt)
apart_more k (j ∷ ks) low h = (out_more k j ks (low j (inl refl)) h.0, apart_more k ks (λ z at. low z (inr at)) h.1)

below_more : (k : ℕ) (ks : List ℕ) → Below k ks → Below (suc k) (ks ++ k ∷ [])
below_more k [] h z (inl e) = omega (arith, e)
below_more k [] h z (inr at) = absurd at
below_more k (j ∷ ks) h z (inl e) = let low = h j (inl refl) in omega (arith, e, low)
below_more k (j ∷ ks) h z (inr at) = below_more k ks (λ y a. h y (inr a)) z at

below_suc : (k : ℕ) (ks : List ℕ) → Below k ks → Below (suc k) ks
below_suc k ks h z at = let low = h z at in omega (arith, low)

below_cond : (t : Bool) (k : ℕ) (ks : List ℕ) → Below k ks → Below (suc k) (cond t (ks ++ k ∷ []) ks)
below_cond true k ks h = below_more k ks h
below_cond false k ks h = below_suc k ks h

apart_cond : (t : Bool) (k : ℕ) (ks : List ℕ) → Below k ks → Apart ks → Apart (cond t (ks ++ k ∷ []) ks)
apart_cond true k ks low h = apart_more k ks low h
apart_cond false k ks low h = h

pub stolen_apart : (loose : ℕ → Bool) (k : ℕ) (ks : List ℕ) (ds : List (Deed FrameEnv)) → Below k ks → Apart ks → Apart (stolen_in loose k ks ds)
stolen_apart loose k ks [] low h = h
stolen_apart loose k ks (Does (Reads c v) ∷ ds) low h = stolen_apart loose k ks ds low h
stolen_apart loose k ks (Does (Writes c v) ∷ ds) low h = stolen_apart loose k ks ds low h
stolen_apart loose k ks (Does Syncs ∷ ds) low h = stolen_apart loose k [] ds (λ z no_one. absurd no_one) tt
stolen_apart loose k ks (Does (Ends v gone) ∷ ds) low h = stolen_apart loose k ks ds low h
stolen_apart loose k ks (Does (Passes m) ∷ ds) low h = stolen_apart loose k ks ds low h
stolen_apart loose k ks (Invokes Call w ∷ ds) low h = stolen_apart loose (suc k) ks ds (below_suc k ks low) h
stolen_apart loose k ks (Invokes Spawn w ∷ ds) low h = stolen_apart loose (suc k) (cond (loose k) (ks ++ k ∷ []) ks) ds (below_cond (loose k) k ks low) (apart_cond (loose k) k ks low h)

-- none is above the last
abbrev pub IsTop : List ℕ → Type 0
IsTop ks = (z : ℕ) → Stands ks z → z ≤ greatest ks

top_more : (k : ℕ) (ks : List ℕ) → Below k ks → IsTop (ks ++ k ∷ [])
top_more k ks h z at = let low = below_more k ks h z at in let e = greatest_more ks k in omega (arith, low, e)

top_cond : (t : Bool) (k : ℕ) (ks : List ℕ) → Below k ks → IsTop ks → IsTop (cond t (ks ++ k ∷ []) ks)
top_cond true k ks low h = top_more k ks low
top_cond false k ks low h = h

pub among_low : (loose : ℕ → Bool) (k : ℕ) (ks : List ℕ) (ds : List (Deed FrameEnv)) → Below k ks → IsTop ks → IsTop (stolen_in loose k ks ds)
among_low loose k ks [] low h = h
among_low loose k ks (Does (Reads c v) ∷ ds) low h = among_low loose k ks ds low h
among_low loose k ks (Does (Writes c v) ∷ ds) low h = among_low loose k ks ds low h
among_low loose k ks (Does Syncs ∷ ds) low h = among_low loose k [] ds (λ z no_one. absurd no_one) (λ z no_one. absurd no_one)
among_low loose k ks (Does (Ends v gone) ∷ ds) low h = among_low loose k ks ds low h
among_low loose k ks (Does (Passes m) ∷ ds) low h = among_low loose k ks ds low h
among_low loose k ks (Invokes Call w ∷ ds) low h = among_low loose (suc k) ks ds (below_suc k ks low) h
among_low loose k ks (Invokes Spawn w ∷ ds) low h = among_low loose (suc k) (cond (loose k) (ks ++ k ∷ []) ks) ds (below_cond (loose k) k ks low) (top_cond (loose k) k ks low h)

-- ---- names without one

pub in_less : (ms : List Name) (n m : Name) → IsIn m (without ms n) → IsIn m ms
in_less [] n m h = h
in_less (x ∷ ms) n m h = by (same_name x n) (λ g. in_less ms n m g) h
  where
    by : (t : Bool) → (IsIn m (without ms n) → IsIn m ms) → IsIn m (cond t (without ms n) (x ∷ without ms n)) → IsIn m (x ∷ ms)
    by true next g = inr (next g)
    by false next (inl e) = inl e
    by false next (inr g) = inr (next g)

pub in_rest : (ms : List Name) (n m : Name) → (n ≡ m → ⊥) → IsIn m ms → IsIn m (without ms n)
in_rest [] n m ne h = h
in_rest (x ∷ ms) n m ne h = by (same_name x n) refl (λ g. in_rest ms n m ne g) h
  where
    by : (t : Bool) → same_name x n ≡ t → (IsIn m ms → IsIn m (without ms n)) → IsIn m (x ∷ ms) → IsIn m (cond t (without ms n) (x ∷ without ms n))
    by true e next (inl is) = absurd (ne (sym (same_name-eq x n e) ∙ is))
    by true e next (inr g) = next g
    by false e next (inl is) = inl is
    by false e next (inr g) = inr (next g)

pub not_in : (ms : List Name) (n : Name) → IsIn n (without ms n) → ⊥
not_in [] n h = h
not_in (x ∷ ms) n h = by (same_name x n) refl (λ g. not_in ms n g) h
  where
    by : (t : Bool) → same_name x n ≡ t → (IsIn n (without ms n) → ⊥) → IsIn n (cond t (without ms n) (x ∷ without ms n)) → ⊥
    by true e next g = next g
    by false e next (inl is) = true≢false (sym (same_name-refl n) ∙ ap (λ y. same_name y n) (sym is) ∙ e)
    by false e next (inr g) = next g
