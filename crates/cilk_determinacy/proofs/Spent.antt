-- The totals of the events made.
use Rattle.std.proofs.Common.{◌≡◌, false, ℕ, suc, ◌+◌, ◌≤◌, List, [], ◌∷◌, ◌++◌, Option, Some, None, refl, ap, ◌∙◌, subst, arith, append_assoc, append-nil, le_refl, le-ltb, ℤ}
use Rattle.std.proofs.lemmas.Bool.{cond-false}
use Rattle.cilk_types.specs.declared.fault.Fault.{Fault}
use Rattle.cilk_determinacy.specs.Runs.{Name, Cell, Ask, Invoke, Reads, Writes, Syncs, Ends, Passes, Deed, Does, Invokes, Run, stop, act, child, ask_of}
use Rattle.cilk_determinacy.specs.Costs.{Costs, Total, TickTotal, EventTotal, FrameTotal, CellTotal, cost, is_over, own_fault, fault_of, weight}
use Rattle.cilk_determinacy.specs.Machine.{Frame, Frames, deeds_at, started, begun}
use Rattle.cilk_determinacy.specs.Cuts.{below, IsStarted, IsFull, IsCut, spent}
use Rattle.cilk_determinacy.proofs.Front.{Front, here_act, here_child, past_act, past_child, inside, grown}
use Rattle.cilk_determinacy.proofs.Find.{ask_by}
use Rattle.cilk_determinacy.proofs.Grows.{Grows, unmoved, front_from}

module _ {W : Type 0} (C : Costs W) (total : Total) where
  pub spent_nil : (w : W) (past : List (Deed W)) (r : Run W) (k : ℕ) (kids : ℕ → Frames W) → spent C total w past r k [] kids ≡ 0
  spent_nil w past stop k kids = refl
  spent_nil w past (act e r) k kids = refl
  spent_nil w past (child i v u r) k kids = refl

  -- the events made add no more than the whole run
  pub spent_le : (w : W) (past : List (Deed W)) (r : Run W) (k : ℕ) (ds : List (Deed W)) (kids : ℕ → Frames W) → spent C total w past r k ds kids ≤ weight C total w past r
  spent_le w past stop k ds kids = omega arith
  spent_le w past (act e r) k [] kids = omega arith
  spent_le w past (act e r) k (d ∷ ds) kids = omega (arith, spent_le w (past ++ Does e ∷ []) r k ds kids)
  spent_le w past (child i v u r) k [] kids = omega arith
  spent_le w past (child i v u r) k (d ∷ ds) kids =
      omega (arith, spent_le v [] u 1 (deeds_at (kids k [])) (below (kids k)), spent_le w (past ++ Invokes i v ∷ []) r (suc k) ds kids)

  -- once all is made they are equal
  pub spent_full : (w : W) (past : List (Deed W)) (r : Run W) (k : ℕ) (ds : List (Deed W)) (kids : ℕ → Frames W) → IsFull r k ds kids → spent C total w past r k ds kids ≡ weight C total w past r
  spent_full w past stop k ds kids full = refl
  spent_full w past (act e r) k [] kids full = absurd full
  spent_full w past (act e r) k (d ∷ ds) kids full = ap (λ z. cost C total w past (ask_of e) + z) (spent_full w (past ++ Does e ∷ []) r k ds kids full)
  spent_full w past (child i v u r) k [] kids full = absurd full
  spent_full w past (child i v u r) k (d ∷ ds) kids full =
      omega (arith, spent_full v [] u 1 (deeds_at (kids k [])) (below (kids k)) full.0, spent_full w (past ++ Invokes i v ∷ []) r (suc k) ds kids full.1)

  -- only the children from an ordinal on count
  spent_ext : (w : W) (past : List (Deed W)) (r : Run W) (k : ℕ) (ds : List (Deed W)) (kids kids' : ℕ → Frames W) → ((j : ℕ) → k ≤ j → kids' j ≡ kids j) → spent C total w past r k ds kids' ≡ spent C total w past r k ds kids
  spent_ext w past stop k ds kids kids' e = refl
  spent_ext w past (act a r) k [] kids kids' e = refl
  spent_ext w past (act a r) k (d ∷ ds) kids kids' e = ap (λ z. cost C total w past (ask_of a) + z) (spent_ext w (past ++ Does a ∷ []) r k ds kids kids' e)
  spent_ext w past (child i v u r) k [] kids kids' e = refl
  spent_ext w past (child i v u r) k (d ∷ ds) kids kids' e =
      let inner = ap (λ t. spent C total v [] u 1 (deeds_at (t [])) (below t)) (e k (le_refl k)) in
      let rest = spent_ext w (past ++ Invokes i v ∷ []) r (suc k) ds kids kids' (λ j le. e j (omega arith)) in
      omega (arith, inner, rest)

  -- what the deed a of frame n adds
  abbrev pub CostsAt : W → List (Deed W) → List (Deed W) → (ℕ → Frames W) → Name → Deed W → ℕ → Type 0
  CostsAt w past ds kids [] a q = q ≡ cost C total w (past ++ ds) (ask_by a)
  CostsAt w past ds kids (j ∷ m) a q = (f : Frame W) × (kids j m ≡ Some f) × (q ≡ cost C total f.what f.deeds (ask_by a))

  costs_past : (w : W) (past ds : List (Deed W)) (d e : Deed W) (kids : ℕ → Frames W) (n : Name) (a : Deed W) (q : ℕ) → d ≡ e → CostsAt w past (d ∷ ds) kids n a q → CostsAt w (past ++ e ∷ []) ds kids n a q
  costs_past w past ds d e kids [] a q is h = rw (append_assoc past (e ∷ []) ds) (rw is at h)
  costs_past w past ds d e kids (j ∷ m) a q is h = h

  costs_inside : (w v : W) (past ds : List (Deed W)) (k : ℕ) (kids : ℕ → Frames W) (m : Name) (a : Deed W) (q : ℕ) → IsStarted v (kids k) → CostsAt w past ds kids (k ∷ m) a q → CostsAt v [] (deeds_at (kids k [])) (below (kids k)) m a q
  costs_inside w v past ds k kids [] a q s (f, is, h) =
      let e : f.what ≡ v = rw is at s.0 in
      rw is (h ∙ ap (λ z. cost C total z f.deeds (ask_by a)) e)
  costs_inside w v past ds k kids (j ∷ m) a q s h = h

  module _ {c : Cell} where
    -- the deed at the front adds its cost
    pub spent_step : {r : Run W} {k : ℕ} {ds : List (Deed W)} {kids : ℕ → Frames W} {n : Name} {a : Deed W} {x y : ℤ} → Front W c r k ds kids n a x y → IsCut r k ds kids → (w : W) (past : List (Deed W)) (q : ℕ) → CostsAt w past ds kids n a q → (K : ℕ) (kids' : ℕ → Frames W) → K ≡ k + started ds → Grows n a K kids kids' → spent C total w past r k (grown n ds a) kids' ≡ spent C total w past r k ds kids + q
    spent_step (here_act {e = e} {r = r} {k = k}) cut w past q h K kids' at g =
        let z : q ≡ cost C total w past (ask_of e) = rw append-nil at h in
        omega (arith, z, spent_nil w (past ++ Does e ∷ []) r k kids')
    spent_step (here_child {i = i} {w = v} {u = u} {r = r} {k = k}) cut w past q h K kids' at g =
        let z : q ≡ cost C total w past (Invoke i v) = rw append-nil at h in
        let here : K ≡ k = omega arith in
        let root : kids' k [] ≡ Some (begun v) = subst (λ t. kids' t [] ≡ Some (begun v)) here g.1 in
        let inner : spent C total v [] u 1 (deeds_at (kids' k [])) (below (kids' k)) ≡ 0 = rw root (spent_nil v [] u 1 (below (kids' k))) in
        omega (arith, z, inner, spent_nil w (past ++ Invokes i v ∷ []) r (suc k) kids')
    spent_step (past_act {e = e} {d = d} {ds = ds} {kids = kids} {n = []} {a = a} f) cut w past q h K kids' at g =
        omega (arith, spent_step f cut.1 w (past ++ Does e ∷ []) q (costs_past w past ds d (Does e) kids [] a q cut.0 h) K kids' (rw cut.0 at at) g)
    spent_step (past_act {e = e} {d = d} {ds = ds} {kids = kids} {n = j ∷ m} {a = a} f) cut w past q h K kids' at g =
        omega (arith, spent_step f cut.1 w (past ++ Does e ∷ []) q (costs_past w past ds d (Does e) kids (j ∷ m) a q cut.0 h) K kids' (rw cut.0 at at) g)
    spent_step (past_child {i = i} {w = v} {u = u} {k = k} {d = d} {ds = ds} {kids = kids} {n = []} {a = a} p f) cut w past q h K kids' at g =
        let at' : K ≡ k + suc (started ds) = rw cut.0 at at in
        let same = ap (λ t. spent C total v [] u 1 (deeds_at (t [])) (below t)) (unmoved [] a k K kids kids' (front_from f) (omega arith) g) in
        omega (arith, same, spent_step f cut.4 w (past ++ Invokes i v ∷ []) q (costs_past w past ds d (Invokes i v) kids [] a q cut.0 h) K kids' (omega arith) g)
    spent_step (past_child {i = i} {w = v} {u = u} {k = k} {d = d} {ds = ds} {kids = kids} {n = j ∷ m} {a = a} p f) cut w past q h K kids' at g =
        let at' : K ≡ k + suc (started ds) = rw cut.0 at at in
        let same = ap (λ t. spent C total v [] u 1 (deeds_at (t [])) (below t)) (unmoved (j ∷ m) a k K kids kids' (front_from f) (omega arith) g) in
        omega (arith, same, spent_step f cut.4 w (past ++ Invokes i v ∷ []) q (costs_past w past ds d (Invokes i v) kids (j ∷ m) a q cut.0 h) K kids' (omega arith) g)
    spent_step (inside {i = i} {w = v} {u = u} {r = r} {k = k} {d = d} {ds = ds} {kids = kids} {m = m} {a = a} f) cut w past q h K kids' at g =
        let inner : spent C total v [] u 1 (deeds_at (kids' k [])) (below (kids' k)) ≡ spent C total v [] u 1 (deeds_at (kids k [])) (below (kids k)) + q =
        rw g.2 (spent_step f cut.2 v [] q (costs_inside w v past (d ∷ ds) k kids m a q cut.1 h) (suc (started (deeds_at (kids k [])))) (below (kids' k)) (omega arith) g.3) in
        let rest = spent_ext w (past ++ Invokes i v ∷ []) r (suc k) ds kids kids' (λ j le. g.0 j (λ z. omega arith)) in
        omega (arith, inner, rest)

-- as each event counts, all is made once as many events are made as there are
pub all_made : {W : Type 0} (C : Costs W) (w : W) (past : List (Deed W)) (r : Run W) (k : ℕ) (ds : List (Deed W)) (kids : ℕ → Frames W) → IsCut r k ds kids → spent C EventTotal w past r k ds kids ≡ weight C EventTotal w past r → IsFull r k ds kids
all_made C w past stop k [] kids cut q = tt
all_made C w past stop k (d ∷ ds) kids cut q = absurd cut
all_made C w past (act e r) k [] kids cut q = omega (arith, q)
all_made C w past (act e r) k (d ∷ ds) kids cut q = all_made C w (past ++ Does e ∷ []) r k ds kids cut.1 (omega (arith, q))
all_made C w past (child i v u r) k [] kids cut q = omega (arith, q)
all_made C w past (child i v u r) k (d ∷ ds) kids cut q =
    let a = spent_le C EventTotal v [] u 1 (deeds_at (kids k [])) (below (kids k)) in
    let b = spent_le C EventTotal w (past ++ Invokes i v ∷ []) r (suc k) ds kids in (
      all_made C v [] u 1 (deeds_at (kids k [])) (below (kids k)) cut.2 (omega (arith, q, a, b)),
      all_made C w (past ++ Invokes i v ∷ []) r (suc k) ds kids cut.4 (omega (arith, q, a, b)),
    )

module _ {W : Type 0} where
  own_none : (e : Deed W) (a : Ask W) (other : Option Fault) → a ≡ ask_by e → own_fault a other ≡ other
  own_none (Does (Reads c v)) a other q = rw q refl
  own_none (Does (Writes c v)) a other q = rw q refl
  own_none (Does Syncs) a other q = rw q refl
  own_none (Does (Ends val gone)) a other q = rw q refl
  own_none (Does (Passes m)) a other q = rw q refl
  own_none (Invokes i w) a other q = rw q refl

  -- an event that keeps each total within its limit stops nothing
  pub no_fault : (C : Costs W) (totals : Total → ℕ) (w : W) (past : List (Deed W)) (e : Deed W) (a : Ask W) → a ≡ ask_by e → ((total : Total) → totals total + cost C total w past a ≤ C.limit total) → fault_of C totals w past a ≡ None
  no_fault C totals w past e a q fits =
      let off : (total : Total) → is_over C total totals w past a ≡ false = λ total. le-ltb _ _ (fits total) in
      cond-false (is_over C TickTotal totals w past a) _ _ (off TickTotal)
      ∙ own_none e a _ q
      ∙ cond-false (is_over C EventTotal totals w past a) _ _ (off EventTotal)
      ∙ cond-false (is_over C FrameTotal totals w past a) _ _ (off FrameTotal)
      ∙ cond-false (is_over C CellTotal totals w past a) _ _ (off CellTotal)
