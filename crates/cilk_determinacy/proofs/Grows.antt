-- The effect of one more deed on a cut.
use Rattle.std.proofs.Common.{◌≡◌, ℕ, suc, ◌+◌, ◌≤◌, cond, ◌&&◌, List, [], ◌∷◌, ◌++◌, Some, refl, sym, ap, ◌∙◌, subst, arith, ⊎_elim, eq-eqb, le_refl, ℤ, None}
use mathlib.Core.Path.{fun_ext}
use Rattle.std.proofs.lemmas.Bool.{cond-true, cond-false, cases_Bool}
use Rattle.cilk_types.specs.declared.invocation.Invocation.{Invocation}
use Rattle.cilk_types.specs.declared.invocation.Invocation.TheVariants.{Call, Spawn}
use Rattle.cilk_determinacy.specs.Runs.{Name, same_name, Cell, same_cell, Event, Writes, Deed, Does, Invokes, Run, stop, act, child}
use Rattle.cilk_determinacy.specs.Machine.{Frame, Frames, deeds_at, started, put, effect, with_frame, begun, after_deed}
use Rattle.cilk_determinacy.proofs.Blocks.{RaceFree}
use Rattle.cilk_determinacy.specs.Cuts.{below, IsStarted, IsFull, IsPast, NoneFrom, IsCut, made}
use Rattle.cilk_determinacy.proofs.Basics.{same_name-refl, same_name-eq, same_cell-refl}
use Rattle.cilk_determinacy.proofs.Find.{counts_from}
use Rattle.cilk_determinacy.proofs.Front.{Front, here_act, here_child, past_act, past_child, inside, grown, full_stuck, after_child, made_nil}

abbrev pub KeepsWhat : {W : Type 0} → Frames W → Frames W → Type 0
KeepsWhat {W = W} t t' = (w : W) → IsStarted w t → IsStarted w t'

-- Below a frame of K children kids turns to kids' by one more deed of frame n.
abbrev pub Grows : {W : Type 0} → Name → Deed W → ℕ → (ℕ → Frames W) → (ℕ → Frames W) → Type 0
Grows [] (Does e) K kids kids' = (j : ℕ) → kids' j ≡ kids j
Grows [] (Invokes i w) K kids kids' =
    ((j : ℕ) → (j ≡ K → ⊥) → kids' j ≡ kids j) × (kids' K [] ≡ Some (begun w)) × ((j : ℕ) (m : Name) → kids' K (j ∷ m) ≡ kids K (j ∷ m))
Grows (j ∷ m) d K kids kids' =
    ((i : ℕ) → (i ≡ j → ⊥) → kids' i ≡ kids i)
    × KeepsWhat (kids j) (kids' j)
    × (deeds_at (kids' j []) ≡ grown m (deeds_at (kids j [])) d)
    × Grows m d (suc (started (deeds_at (kids j [])))) (below (kids j)) (below (kids' j))

-- the name leads to this child or a later one
abbrev pub From : ℕ → Name → Type 0
From k [] = Unit {0}
From k (j ∷ m) = k ≤ j

from_suc : (k : ℕ) (n : Name) → From (suc k) n → From k n
from_suc k [] h = tt
from_suc k (j ∷ m) h = omega arith

pub unmoved : {W : Type 0} (n : Name) (d : Deed W) (i K : ℕ) (kids kids' : ℕ → Frames W) → From (suc i) n → suc i ≤ K → Grows n d K kids kids' → kids' i ≡ kids i
unmoved [] (Does e) i K kids kids' from le g = g i
unmoved [] (Invokes a w) i K kids kids' from le g = g.0 i (λ q. omega arith)
unmoved (j ∷ m) d i K kids kids' from le g = g.0 i (λ q. omega arith)

module _ {W : Type 0} where
  pub cut_none : (r : Run W) (k : ℕ) (kids : ℕ → Frames W) → IsCut r k [] kids → NoneFrom k kids
  cut_none stop k kids cut = cut
  cut_none (act e r) k kids cut = cut
  cut_none (child i w u r) k kids cut = cut

  pub cut_nil : (r : Run W) (k : ℕ) (kids : ℕ → Frames W) → NoneFrom k kids → IsCut r k [] kids
  cut_nil stop k kids cut = cut
  cut_nil (act e r) k kids cut = cut
  cut_nil (child i w u r) k kids cut = cut

  -- only the children from an ordinal on count
  none_ext : (k : ℕ) (kids kids' : ℕ → Frames W) → ((j : ℕ) → k ≤ j → kids' j ≡ kids j) → NoneFrom k kids → NoneFrom k kids'
  none_ext k kids kids' e h j le n = ap (λ t. t n) (e j le) ∙ h j le n

  cut_ext : (r : Run W) (k : ℕ) (ds : List (Deed W)) (kids kids' : ℕ → Frames W) → ((j : ℕ) → k ≤ j → kids' j ≡ kids j) → IsCut r k ds kids → IsCut r k ds kids'
  cut_ext stop k [] kids kids' e cut = none_ext k kids kids' e cut
  cut_ext stop k (d ∷ ds) kids kids' e cut = cut
  cut_ext (act a r) k [] kids kids' e cut = none_ext k kids kids' e cut
  cut_ext (act a r) k (d ∷ ds) kids kids' e cut = (cut.0, cut_ext r k ds kids kids' e cut.1)
  cut_ext (child i w u r) k [] kids kids' e cut = none_ext k kids kids' e cut
  cut_ext (child i w u r) k (d ∷ ds) kids kids' e cut =
      let same = sym (e k (le_refl k)) in (
        cut.0,
        subst (IsStarted w) same cut.1,
        subst (λ t. IsCut u 1 (deeds_at (t [])) (below t)) same cut.2,
        subst (λ t. IsPast i ds → IsFull u 1 (deeds_at (t [])) (below t)) same cut.3,
        cut_ext r (suc k) ds kids kids' (λ j le. e j (omega arith)) cut.4,
      )

  made_ext : (r : Run W) (k : ℕ) (ds : List (Deed W)) (kids kids' : ℕ → Frames W) (c : Cell) (x : ℤ) → ((j : ℕ) → k ≤ j → kids' j ≡ kids j) → made r k ds kids' c x ≡ made r k ds kids c x
  made_ext stop k ds kids kids' c x e = refl
  made_ext (act a r) k [] kids kids' c x e = refl
  made_ext (act a r) k (d ∷ ds) kids kids' c x e = made_ext r k ds kids kids' c (put a c x) e
  made_ext (child i w u r) k [] kids kids' c x e = refl
  made_ext (child i w u r) k (d ∷ ds) kids kids' c x e =
      ap (λ t. made r (suc k) ds kids' c (made u 1 (deeds_at (t [])) (below t) c x)) (e k (le_refl k)) ∙ made_ext r (suc k) ds kids kids' c _ (λ j le. e j (omega arith))

module _ {W : Type 0} {c : Cell} where
  pub front_from : {r : Run W} {k : ℕ} {ds : List (Deed W)} {kids : ℕ → Frames W} {n : Name} {a : Deed W} {x y : ℤ} → Front W c r k ds kids n a x y → From k n
  front_from here_act = tt
  front_from here_child = tt
  front_from (past_act f) = front_from f
  front_from (past_child {k = k} {n = n} p f) = from_suc k n (front_from f)
  front_from (inside {k = k} f) = le_refl k

  -- the cut with the deed at the front is a cut
  pub cut_step : {r : Run W} {k : ℕ} {ds : List (Deed W)} {kids : ℕ → Frames W} {n : Name} {a : Deed W} {x y : ℤ} → Front W c r k ds kids n a x y → IsCut r k ds kids → (K : ℕ) (kids' : ℕ → Frames W) → K ≡ k + started ds → Grows n a K kids kids' → IsCut r k (grown n ds a) kids'
  cut_step (here_act {e = e} {r = r} {k = k} {kids = kids}) cut K kids' at g = (refl, cut_nil r k kids' (none_ext k kids kids' (λ j le. g j) cut))
  cut_step (here_child {i = i} {w = w} {u = u} {r = r} {k = k} {kids = kids}) cut K kids' at g =
      let here : K ≡ k = omega arith in
      let root : kids' k [] ≡ Some (begun w) = subst (λ t. kids' t [] ≡ Some (begun w)) here g.1 in
      let under : NoneFrom 0 (below (kids' k)) = λ j le m. (subst (λ t. kids' t (j ∷ m) ≡ kids t (j ∷ m)) here (g.2 j m)) ∙ cut k (le_refl k) (j ∷ m) in (
        refl,
        (rw root refl, λ n. under 0 (omega arith) n),
        rw root (cut_nil u 1 (below (kids' k)) (λ j le m. under j (omega arith) m)),
        nothing_past i,
        cut_nil r (suc k) kids' (λ j le m. ap (λ t. t m) (g.0 j (λ q. omega arith)) ∙ cut j (omega arith) m),
      )
    where
      nothing_past : (i : Invocation) → {X : Type 0} → IsPast {W = W} i [] → X
      nothing_past Call h = absurd h
      nothing_past Spawn h = absurd h
  cut_step (past_act {e = e} {n = []} f) cut K kids' at g = (cut.0, cut_step f cut.1 K kids' (rw cut.0 at at) g)
  cut_step (past_act {e = e} {n = j ∷ m} f) cut K kids' at g = (cut.0, cut_step f cut.1 K kids' (rw cut.0 at at) g)
  cut_step (past_child {i = i} {w = w} {u = u} {r = r} {k = k} {d = d} {ds = ds} {kids = kids} {n = []} {a = a} p f) cut K kids' at g =
      let at' : K ≡ k + suc (started ds) = rw cut.0 at at in
      let same = sym (unmoved [] a k K kids kids' (front_from f) (omega arith) g) in (
        cut.0,
        subst (IsStarted w) same cut.1,
        subst (λ t. IsCut u 1 (deeds_at (t [])) (below t)) same cut.2,
        subst (λ t. IsPast i (ds ++ a ∷ []) → IsFull u 1 (deeds_at (t [])) (below t)) same p,
        cut_step f cut.4 K kids' (omega arith) g,
      )
  cut_step (past_child {i = i} {w = w} {u = u} {r = r} {k = k} {d = d} {ds = ds} {kids = kids} {n = j ∷ m} {a = a} p f) cut K kids' at g =
      let at' : K ≡ k + suc (started ds) = rw cut.0 at at in
      let same = sym (unmoved (j ∷ m) a k K kids kids' (front_from f) (omega arith) g) in (
        cut.0,
        subst (IsStarted w) same cut.1,
        subst (λ t. IsCut u 1 (deeds_at (t [])) (below t)) same cut.2,
        subst (λ t. IsPast i ds → IsFull u 1 (deeds_at (t [])) (below t)) same p,
        cut_step f cut.4 K kids' (omega arith) g,
      )
  cut_step (inside {i = i} {w = w} {u = u} {r = r} {k = k} {d = d} {ds = ds} {kids = kids} {m = m} {a = a} f) cut K kids' at g =
      let inner = cut_step f cut.2 (suc (started (deeds_at (kids k [])))) (below (kids' k)) (omega arith) g.3 in (
        cut.0,
        g.1 w cut.1,
        rw g.2 inner,
        (λ h. absurd (full_stuck f (cut.3 h))),
        cut_ext r (suc k) ds kids kids' (λ j le. g.0 j (λ q. omega arith)) cut.4,
      )

  -- a deed that leaves the cell leaves what was made in it
  pub made_other : {r : Run W} {k : ℕ} {ds : List (Deed W)} {kids : ℕ → Frames W} {n : Name} {a : Deed W} {x y : ℤ} → Front W c r k ds kids n a x y → ((z : ℤ) → effect a c z ≡ z) → IsCut r k ds kids → (K : ℕ) (kids' : ℕ → Frames W) → K ≡ k + started ds → Grows n a K kids kids' → (z : ℤ) → made r k (grown n ds a) kids' c z ≡ made r k ds kids c z
  made_other (here_act {e = e} {r = r} {k = k}) still cut K kids' at g z = made_nil c r k kids' (put e c z) ∙ still z
  made_other (here_child {i = i} {w = w} {u = u} {r = r} {k = k} {kids = kids}) still cut K kids' at g z =
      let here : K ≡ k = omega arith in
      let root : kids' k [] ≡ Some (begun w) = subst (λ t. kids' t [] ≡ Some (begun w)) here g.1 in
      made_nil c r (suc k) kids' _ ∙ rw root (made_nil c u 1 (below (kids' k)) z)
  made_other (past_act {e = e} {n = []} f) still cut K kids' at g z = made_other f still cut.1 K kids' (rw cut.0 at at) g (put e c z)
  made_other (past_act {e = e} {n = j ∷ m} f) still cut K kids' at g z = made_other f still cut.1 K kids' (rw cut.0 at at) g (put e c z)
  made_other (past_child {u = u} {r = r} {k = k} {ds = ds} {kids = kids} {n = []} {a = a} p f) still cut K kids' at g z =
      let at' : K ≡ k + suc (started ds) = rw cut.0 at at in
      ap (λ t. made r (suc k) (ds ++ a ∷ []) kids' c (made u 1 (deeds_at (t [])) (below t) c z)) (unmoved [] a k K kids kids' (front_from f) (omega arith) g)
      ∙ made_other f still cut.4 K kids' (omega arith) g _
  made_other (past_child {u = u} {r = r} {k = k} {ds = ds} {kids = kids} {n = j ∷ m} {a = a} p f) still cut K kids' at g z =
      let at' : K ≡ k + suc (started ds) = rw cut.0 at at in
      ap (λ t. made r (suc k) ds kids' c (made u 1 (deeds_at (t [])) (below t) c z)) (unmoved (j ∷ m) a k K kids kids' (front_from f) (omega arith) g)
      ∙ made_other f still cut.4 K kids' (omega arith) g _
  made_other (inside {u = u} {r = r} {k = k} {ds = ds} {kids = kids} f) still cut K kids' at g z =
      made_ext r (suc k) ds kids kids' c _ (λ j le. g.0 j (λ q. omega arith))
      ∙ ap (made r (suc k) ds kids c) (rw g.2 (made_other f still cut.2 (suc (started (deeds_at (kids k [])))) (below (kids' k)) (omega arith) g.3 z))

  -- a write at the front is the last in the cell
  pub made_write : {r : Run W} {k : ℕ} {ds : List (Deed W)} {kids : ℕ → Frames W} {n : Name} {e : Event} {x y : ℤ} → Front W c r k ds kids n (Does e) x y → (v : ℤ) → e ≡ Writes c v → IsCut r k ds kids → RaceFree r → (K : ℕ) (kids' : ℕ → Frames W) → K ≡ k + started ds → Grows n (Does e) K kids kids' → (z : ℤ) → made r k (grown n ds (Does e)) kids' c z ≡ v
  made_write (here_act {e = e} {r = r} {k = k}) v is cut free K kids' at g z =
      made_nil c r k kids' (put e c z) ∙ rw is (cond-true (same_cell c c) v z (same_cell-refl c))
  made_write (past_act {e = e} {n = []} f) v is cut free K kids' at g z = made_write f v is cut.1 free K kids' (rw cut.0 at at) g (put e c z)
  made_write (past_act {e = e} {n = j ∷ m} f) v is cut free K kids' at g z = made_write f v is cut.1 free K kids' (rw cut.0 at at) g (put e c z)
  made_write (past_child {k = k} {ds = ds} {n = []} p f) v is cut free K kids' at g z =
      let at' : K ≡ k + suc (started ds) = rw cut.0 at at in
      made_write f v is cut.4 free.2 K kids' (omega arith) g _
  made_write (past_child {k = k} {ds = ds} {n = j ∷ m} p f) v is cut free K kids' at g z =
      let at' : K ≡ k + suc (started ds) = rw cut.0 at at in
      made_write f v is cut.4 free.2 K kids' (omega arith) g _
  made_write (inside {i = i} {u = u} {r = r} {k = k} {ds = ds} {kids = kids} f) v is cut free K kids' at g z =
      made_ext r (suc k) ds kids kids' c _ (λ j le. g.0 j (λ q. omega arith))
      ∙ (ap (made r (suc k) ds kids c) (rw g.2 (made_write f v is cut.2 free.1 (suc (started (deeds_at (kids k [])))) (below (kids' k)) (omega arith) g.3 z))
      ∙ after_child i u r k ds kids v f cut.3 cut.4 free.0 (rw is refl))

-- one more deed of frame n, by whole names
module _ {W : Type 0} where
  abbrev pub GrowsTree : Name → Deed W → Frames W → Frames W → Type 0
  GrowsTree n d t t' =
      KeepsWhat t t' × (deeds_at (t' []) ≡ grown n (deeds_at (t [])) d) × Grows n d (suc (started (deeds_at (t [])))) (below t) (below t')

  pub with_same : (t : Frames W) (n : Name) (f : Frame W) → with_frame t n f n ≡ Some f
  with_same t n f = cond-true (same_name n n) (Some f) (t n) (same_name-refl n)

  with_other : (t : Frames W) (n m : Name) (f : Frame W) → (n ≡ m → ⊥) → with_frame t n f m ≡ t m
  with_other t n m f ne = ⊎_elim (λ e. absurd (ne (same_name-eq n m e))) (λ e. cond-false (same_name n m) (Some f) (t m) e) (cases_Bool (same_name n m))

  frame_grows : (t : Frames W) (f : Frame W) (d : Deed W) → t [] ≡ Some f → GrowsTree [] d t (after_deed t [] f d)
  frame_grows t f (Does e) q = (λ w s. (rw q at s.0, s.1), rw q refl, λ j. refl)
  frame_grows t f (Invokes i w) q =
      let K = suc (started f.deeds) in
      let K' = suc (started (deeds_at (t []))) in
      let same : K' ≡ K = rw q refl in
      let t1 = with_frame t [] (record f { deeds = f.deeds ++ Invokes i w ∷ [] }) in (
        λ v s. (rw q at s.0, λ n. with_other t1 (K ∷ []) (0 ∷ n) (begun w) (λ e. let h : K ≡ 0 = cc in absurd (omega arith)) ∙ s.1 n),
        rw q refl,
        (
          λ j ne. fun_ext (λ n. with_other t1 (K ∷ []) (j ∷ n) (begun w) (λ e. ne (let h : K ≡ j = cc in sym h ∙ sym same))),
          ap (λ z. with_frame t1 (K ∷ []) (begun w) (z ∷ [])) same ∙ with_same t1 (K ∷ []) (begun w),
          λ j m. with_other t1 (K ∷ []) (K' ∷ j ∷ m) (begun w) (λ e. cc),
        ),
      )

  pub root_same : (j : ℕ) (m : Name) (t : Frames W) (f : Frame W) (d : Deed W) → after_deed t (j ∷ m) f d [] ≡ t []
  root_same j m t f (Does e) = refl
  root_same j m t f (Invokes i w) = refl

  pub other_same : (j : ℕ) (m : Name) (t : Frames W) (f : Frame W) (d : Deed W) (i : ℕ) → (i ≡ j → ⊥) → below (after_deed t (j ∷ m) f d) i ≡ below t i
  other_same j m t f (Does e) i ne = fun_ext (λ n. with_other t (j ∷ m) (i ∷ n) _ (λ q. ne (let h : i ≡ j = cc in h)))
  other_same j m t f (Invokes a w) i ne =
      fun_ext (λ n. with_other (with_frame t (j ∷ m) (record f { deeds = f.deeds ++ Invokes a w ∷ [] })) (j ∷ (m ++ suc (started f.deeds) ∷ [])) (i ∷ n) (begun w) (λ q. ne (let h : i ≡ j = cc in h))
      ∙ with_other t (j ∷ m) (i ∷ n) _ (λ q. ne (let h : i ≡ j = cc in h)))

  under_same : (j : ℕ) (m : Name) (t : Frames W) (f : Frame W) → below (with_frame t (j ∷ m) f) j ≡ with_frame (below t j) m f
  under_same j m t f = fun_ext (λ n. ap (λ b. cond (b && same_name m n) (Some f) (t (j ∷ n))) (eq-eqb j j refl))

  pub shift : (j : ℕ) (m : Name) (t : Frames W) (f : Frame W) (d : Deed W) → below (after_deed t (j ∷ m) f d) j ≡ after_deed (below t j) m f d
  shift j m t f (Does e) = under_same j m t _
  shift j m t f (Invokes i w) =
      under_same j (m ++ suc (started f.deeds) ∷ []) (with_frame t (j ∷ m) (record f { deeds = f.deeds ++ Invokes i w ∷ [] })) (begun w)
      ∙ ap (λ t'. with_frame t' (m ++ suc (started f.deeds) ∷ []) (begun w)) (under_same j m t (record f { deeds = f.deeds ++ Invokes i w ∷ [] }))

  still_none : (j : ℕ) (m : Name) (t : Frames W) (f : Frame W) (d : Deed W) (n : Name) → ((n : Name) → t (0 ∷ n) ≡ None) → t (j ∷ m) ≡ Some f → after_deed t (j ∷ m) f d (0 ∷ n) ≡ None
  still_none j m t f d n none q =
      let le = counts_from t j m f none q in
      ap (λ z. z n) (other_same j m t f d 0 (λ e. omega arith)) ∙ none n

  pub tree_grows : (n : Name) (t : Frames W) (f : Frame W) (d : Deed W) → t n ≡ Some f → GrowsTree n d t (after_deed t n f d)
  tree_grows [] t f d q = frame_grows t f d q
  tree_grows (j ∷ m) t f d q =
      let ih : GrowsTree m d (below t j) (below (after_deed t (j ∷ m) f d) j) = subst (λ z. GrowsTree m d (below t j) z) (sym (shift j m t f d)) (tree_grows m (below t j) f d q) in
      let root = root_same j m t f d in
      (λ w s. (rw root s.0, λ n. still_none j m t f d n s.1 q), rw root refl, (other_same j m t f d, ih.0, ih.1, ih.2))
