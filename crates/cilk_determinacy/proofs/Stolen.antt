-- The effect of a steal on the pieces.
use Rattle.std.proofs.Common.{◌≡◌, ℕ, suc, ◌+◌, ◌≤◌, Bool, true, false, List, [], ◌∷◌, ◌++◌, Some, None, refl, sym, ap, ◌∙◌, subst, arith, ⊎_elim, le_refl, ℤ}
use mathlib.Core.Path.{fun_ext}
use Rattle.std.proofs.lemmas.Bool.{cases_eq}
use Rattle.cilk_types.specs.declared.invocation.Invocation.{Invocation}
use Rattle.cilk_types.specs.declared.invocation.Invocation.TheVariants.{Call, Spawn}
use Rattle.cilk_determinacy.specs.Runs.{Name, Cell, Event, Passes, Resumes, Deed, Does, Invokes, Run, stop, act, child, Instance}
use Rattle.cilk_monoid.specs.Laws.{MonoidStructure}
use Rattle.cilk_determinacy.proofs.Blocks.{IsResumed}
use Rattle.cilk_determinacy.specs.Machine.{Frame, Frames, deeds_at, started, put}
use Rattle.cilk_determinacy.specs.Serial.{value_after}
use Rattle.cilk_determinacy.specs.Cuts.{below, IsFull, IsPast, NoneFrom, IsCut, NoneStolen, WhenResumed, block_after, own_after, Lies}
use Rattle.cilk_determinacy.proofs.Basics.{last_sync, nil_snoc}
use Rattle.cilk_determinacy.proofs.Front.{Front, here_act, here_child, past_act, past_child, inside, full_stuck}
use Rattle.cilk_determinacy.proofs.Find.{counts_from}
use Rattle.cilk_determinacy.proofs.Grows.{From, front_from}
use Rattle.cilk_determinacy.proofs.RunPieces.{under, NotFirst, front_nonempty, is_resume, lies_nil, lies_acc, when_stolen_map}

module _ {W : Type 0} where
  -- the last deed of frame n, by its name below the frame at the top, spawned its child K
  abbrev pub At : ℕ → ℕ → List (Deed W) → (ℕ → Frames W) → Name → Type 0
  At K k ds kids [] = (bef : List (Deed W)) × (v : W) × (ds ≡ bef ++ Invokes Spawn v ∷ []) × (K ≡ k + started bef)
  At K k ds kids (j ∷ m) = (k ≤ j) × (f : Frame W) × (bef : List (Deed W)) × (v : W) × (kids j m ≡ Some f) × (f.deeds ≡ bef ++ Invokes Spawn v ∷ []) × (K ≡ suc (started bef))

  at_none : (K k : ℕ) (kids : ℕ → Frames W) (n : Name) {X : Type 0} → NoneFrom k kids → At K k [] kids n → X
  at_none K k kids [] none (bef, v, q, e) = nil_snoc bef _ q
  at_none K k kids (j ∷ m) none (le, f, bef, v, q, e, g) = let z : None ≡ Some f = sym (none j le m) ∙ q in absurd (cc)

  at_act : (K k : ℕ) (d : Deed W) (ds : List (Deed W)) (e : Event) (kids : ℕ → Frames W) (n : Name) → d ≡ Does e → At K k (d ∷ ds) kids n → At K k ds kids n
  at_act K k d ds e kids [] is ([], v, q, g) = let z : d ≡ Invokes Spawn v = cc in let y : Does e ≡ Invokes Spawn v = sym is ∙ z in absurd (cc)
  at_act K k d ds e kids [] is (b ∷ bef, v, q, g) =
      let z : b ≡ Does e = (let y : d ≡ b = cc in sym y ∙ is) in
      let rest : ds ≡ bef ++ Invokes Spawn v ∷ [] = cc in
      (bef, v, rest, rw z at g)
  at_act K k d ds e kids (j ∷ m) is h = h

  -- the frame isn't the one at the top, or there are further deeds
  at_child : (K k : ℕ) (d : Deed W) (ds : List (Deed W)) (b : Invocation) (w : W) (kids : ℕ → Frames W) (n : Name) → d ≡ Invokes b w → From (suc k) n → (ds ≡ [] → n ≡ [] → ⊥) → At K k (d ∷ ds) kids n → At K (suc k) ds kids n
  at_child K k d ds b w kids [] is from more ([], v, q, g) = let z : ds ≡ [] = cc in absurd (more z refl)
  at_child K k d ds b w kids [] is from more (e ∷ bef, v, q, g) =
      let z : e ≡ Invokes b w = (let y : d ≡ e = cc in sym y ∙ is) in
      let rest : ds ≡ bef ++ Invokes Spawn v ∷ [] = cc in
      let g' : K ≡ k + suc (started bef) = rw z at g in
      (bef, v, rest, omega arith)
  at_child K k d ds b w kids (j ∷ m) is from more (le, f, bef, v, q, e, g) = (from, f, bef, v, q, e, g)

  at_inside : (K k : ℕ) (ds : List (Deed W)) (kids : ℕ → Frames W) (m : Name) → ((n : Name) → kids k (0 ∷ n) ≡ None) → At K k ds kids (k ∷ m) → At K 1 (deeds_at (kids k [])) (below (kids k)) m
  at_inside K k ds kids [] none (le, f, bef, v, q, e, g) = (bef, v, rw q e, omega arith)
  at_inside K k ds kids (j ∷ m) none (le, f, bef, v, q, e, g) = (counts_from (kids k) j m f none q, f, bef, v, q, e, g)

  resumed_rest_of : (b : Bool) (e : Event) (r : Run W) → IsResumed b (act e r) → IsResumed false r
  resumed_rest_of true e r h = h.1
  resumed_rest_of false e r h = h.1

  resumed_parts_of : (b : Bool) (h : Invocation) (w : W) (u r : Run W) → IsResumed b (child h w u r) → IsResumed false u × IsResumed true r
  resumed_parts_of true h w u r res = absurd res
  resumed_parts_of false h w u r res = res

  only_spawned : (i : Invocation) (d : Deed W) (w : W) (K k : ℕ) (kids : ℕ → Frames W) {X : Type 0} → At K k (d ∷ []) kids [] → d ≡ Invokes i w → IsPast {W = W} i (Does (Passes Resumes) ∷ []) → X
  only_spawned Call d w K k kids ([], v, q, g) is h = let z : Invokes Call w ≡ Invokes Spawn v = (let y : d ≡ Invokes Spawn v = cc in sym is ∙ y) in absurd (cc)
  only_spawned Call d w K k kids (b ∷ bef, v, q, g) is h = let z : [] ≡ bef ++ Invokes Spawn v ∷ [] = cc in nil_snoc bef _ z
  only_spawned Spawn d w K k kids at is h = absurd h

  still_past : (i : Invocation) (e : Deed W) (ds : List (Deed W)) → IsPast i ((e ∷ ds) ++ Does (Passes Resumes) ∷ []) → IsPast i (e ∷ ds)
  still_past Call e ds h = tt
  still_past Spawn e ds h = ⊎_elim (λ z. z) (λ z. absurd z) (last_sync (e ∷ ds) (Does (Passes Resumes)) h)

  module _ (c : Cell) where
    abbrev Met : Run W → ℕ → List (Deed W) → (ℕ → Frames W) → Name → ℤ → Type 0
    Met r k ds kids n x = (y : ℤ) × Front W c r k ds kids n (Does (Passes Resumes)) x y

    resume_here : (r : Run W) (k : ℕ) (kids : ℕ → Frames W) (x : ℤ) → IsResumed true r → Met r k [] kids [] x
    resume_here stop k kids x res = absurd res
    resume_here (act e r) k kids x res = (x, subst (λ z. Front W c (act e r) k [] kids [] (Does z) x x) (is_resume e res.0) here_act)
    resume_here (child b w u r) k kids x res = absurd res

    -- if a frame's continuation can be stolen, the frame is before the resume
    pub find_stolen : (r : Run W) (k : ℕ) (ds : List (Deed W)) (kids : ℕ → Frames W) (n : Name) (x : ℤ) (K : ℕ) (b : Bool) → IsResumed b r → IsCut r k ds kids → At K k ds kids n → (y : ℤ) × Front W c r k ds kids n (Does (Passes Resumes)) x y
    find_stolen stop k [] kids n x K b res cut at = at_none K k kids n cut at
    find_stolen stop k (d ∷ ds) kids n x K b res cut at = absurd cut
    find_stolen (act e r) k [] kids n x K b res cut at = at_none K k kids n cut at
    find_stolen (act e r) k (d ∷ ds) kids n x K b res cut at =
        let g = find_stolen r k ds kids n (put e c x) K false (resumed_rest_of b e r res) cut.1 (at_act K k d ds e kids n cut.0 at) in
        (g.0, past_act g.1)
    find_stolen (child i w u r) k [] kids n x K b res cut at = at_none K k kids n cut at
    find_stolen (child i w u r) k (d ∷ []) kids [] x K b res cut at =
        let parts = resumed_parts_of b i w u r res in
        let g = resume_here r (suc k) kids (value_after u c x) parts.1 in
        (g.0, past_child (only_spawned i d w K k kids at cut.0) g.1)
    find_stolen (child i w u r) k (d ∷ e ∷ ds) kids [] x K b res cut at =
        let parts = resumed_parts_of b i w u r res in
        let g = find_stolen r (suc k) (e ∷ ds) kids [] (value_after u c x) K true parts.1 cut.4 (at_child K k d (e ∷ ds) i w kids [] cut.0 tt (λ q z. cc) at) in
        (g.0, past_child (λ h. cut.3 (still_past i e ds h)) g.1)
    find_stolen (child i w u r) k (d ∷ ds) kids (j ∷ m) x K b res cut at =
        let parts = resumed_parts_of b i w u r res in
        ⊎_elim
        (λ same. subst (λ t. (y : ℤ) × Front W c (child i w u r) k (d ∷ ds) kids (t ∷ m) (Does (Passes Resumes)) x y) same
        (let g = find_stolen u 1 (deeds_at (kids k [])) (below (kids k)) m x K false parts.0 cut.2 (at_inside K k (d ∷ ds) kids m cut.1.1 (subst (λ t. At K k (d ∷ ds) kids (t ∷ m)) (sym same) at)) in
        (g.0, inside g.1)))
        (λ other. let g = find_stolen r (suc k) ds kids (j ∷ m) (value_after u c x) K true parts.1 cut.4 (at_child K k d ds i w kids (j ∷ m) cut.0 (omega arith) (λ q z. cc) at) in
        (g.0, past_child cut.3 g.1))
        (cases_eq k j)

-- flags and views after the continuation beside child K of frame n was stolen
abbrev pub Taken : {V : Type 0} → MonoidStructure V → Name → ℕ → (Name → Bool) → (Name → Bool) → (Name → V) → V → (Name → V) → V → Type 0
Taken M [] K loose loose' pcs root pcs' root' =
    (loose (K ∷ []) ≡ false) × (loose' (K ∷ []) ≡ true) × ((j : ℕ) (m : Name) → (j ∷ m ≡ K ∷ [] → ⊥) → loose' (j ∷ m) ≡ loose (j ∷ m)) × (root' ≡ M.unit) × ((j : ℕ) (m : Name) → pcs' (j ∷ m) ≡ pcs (j ∷ m))
Taken M (j ∷ m) K loose loose' pcs root pcs' root' =
    (loose' (j ∷ []) ≡ loose (j ∷ []))
    × ((h : ℕ) (n : Name) → (h ≡ j → ⊥) → loose' (h ∷ n) ≡ loose (h ∷ n))
    × (root' ≡ root)
    × ((h : ℕ) (n : Name) → (h ≡ j → ⊥) → pcs' (h ∷ n) ≡ pcs (h ∷ n))
    × Taken M m K (λ n. loose (j ∷ n)) (λ n. loose' (j ∷ n)) (λ n. pcs (j ∷ n)) (pcs (j ∷ [])) (λ n. pcs' (j ∷ n)) (pcs' (j ∷ []))

abbrev Beyond : ℕ → ℕ → Name → Type 0
Beyond K k [] = suc k ≤ K
Beyond K k (j ∷ m) = suc k ≤ j

beyond : {W : Type 0} (K k : ℕ) (ds : List (Deed W)) (kids : ℕ → Frames W) (n : Name) → At K (suc k) ds kids n → Beyond K k n
beyond K k ds kids [] (bef, v, q, g) = omega arith
beyond K k ds kids (j ∷ m) (le, f, bef, v, q, e, g) = le

kept_flags : {V : Type 0} (M : MonoidStructure V) (n : Name) (K k : ℕ) (loose loose' : Name → Bool) (pcs pcs' : Name → V) (root root' : V) → Beyond K k n → Taken M n K loose loose' pcs root pcs' root' → (under loose k ≡ under loose' k) × (under pcs k ≡ under pcs' k)
kept_flags M [] K k loose loose' pcs pcs' root root' le tk =
    (fun_ext (λ m. sym (tk.2 k m (λ q. let z : k ≡ K = cc in omega arith))), fun_ext (λ m. sym (tk.4 k m)))
kept_flags M (j ∷ l) K k loose loose' pcs pcs' root root' le tk = (fun_ext (λ m. sym (tk.1 k m (λ q. omega arith))), fun_ext (λ m. sym (tk.3 k m (λ q. omega arith))))

only_last : {W : Type 0} (K k : ℕ) (d : Deed W) (kids : ℕ → Frames W) → At K k (d ∷ []) kids [] → K ≡ k
only_last K k d kids ([], v, q, g) = omega arith
only_last K k d kids (b ∷ bef, v, q, g) = let z : [] ≡ bef ++ Invokes Spawn v ∷ [] = cc in nil_snoc bef _ z

module _ {W V : Type 0} (M : MonoidStructure V) (i : Instance) where
  child_same : (u : Run W) (k : ℕ) (kids : ℕ → Frames W) (loose loose' : Name → Bool) (pcs pcs' : Name → V) (p : V) → under loose k ≡ under loose' k → under pcs k ≡ under pcs' k → Lies M i u 1 (deeds_at (kids k [])) (below (kids k)) (λ n. loose (k ∷ n)) (λ n. pcs (k ∷ n)) M.unit p (pcs (k ∷ [])) → Lies M i u 1 (deeds_at (kids k [])) (below (kids k)) (λ n. loose' (k ∷ n)) (λ n. pcs' (k ∷ n)) M.unit p (pcs' (k ∷ []))
  child_same u k kids loose loose' pcs pcs' p f v h =
      subst (λ (z : Name → V). Lies M i u 1 (deeds_at (kids k [])) (below (kids k)) (λ n. loose' (k ∷ n)) z M.unit p (z [])) v
      (subst (λ (z : Name → Bool). Lies M i u 1 (deeds_at (kids k [])) (below (kids k)) z (λ n. pcs (k ∷ n)) M.unit p (pcs (k ∷ []))) f h)

  resumed_flags : (k : ℕ) (loose loose' : Name → Bool) (ds : List (Deed W)) (X Y : Type 0) → ((j : ℕ) → suc k ≤ j → (n : Name) → loose' (j ∷ n) ≡ loose (j ∷ n)) → (X → Y) → WhenResumed (suc k) loose ds X → WhenResumed (suc k) loose' ds Y
  resumed_flags k loose loose' [] X Y fl g h = λ j le n. fl j le n ∙ h j le n
  resumed_flags k loose loose' (d ∷ ds) X Y fl g h = g h

  -- the same flags from an ordinal on
  lies_flags : (r : Run W) (k : ℕ) (ds : List (Deed W)) (kids : ℕ → Frames W) (loose loose' : Name → Bool) (pcs pcs' : Name → V) (acc p root : V) → ((j : ℕ) → k ≤ j → (m : Name) → loose' (j ∷ m) ≡ loose (j ∷ m)) → ((j : ℕ) → k ≤ j → (m : Name) → pcs' (j ∷ m) ≡ pcs (j ∷ m)) → Lies M i r k ds kids loose pcs acc p root → Lies M i r k ds kids loose' pcs' acc p root
  lies_flags stop k [] kids loose loose' pcs pcs' acc p root fl q h = (h.0, λ j le n. fl j le n ∙ h.1 j le n)
  lies_flags stop k (d ∷ ds) kids loose loose' pcs pcs' acc p root fl q h = h
  lies_flags (act e r) k [] kids loose loose' pcs pcs' acc p root fl q h = (h.0, λ j le n. fl j le n ∙ h.1 j le n)
  lies_flags (act e r) k (d ∷ ds) kids loose loose' pcs pcs' acc p root fl q h = lies_flags r k ds kids loose loose' pcs pcs' _ _ root fl q h
  lies_flags (child b w u r) k [] kids loose loose' pcs pcs' acc p root fl q h = (h.0, λ j le n. fl j le n ∙ h.1 j le n)
  lies_flags (child Call w u r) k (d ∷ ds) kids loose loose' pcs pcs' acc p root fl q h =
      let f = fun_ext {A = Name} {B = λ n. Bool} (λ n. sym (fl k (le_refl k) n)) in
      let v = fun_ext {A = Name} {B = λ n. V} (λ n. sym (q k (le_refl k) n)) in (
        fl k (le_refl k) [] ∙ h.0,
        child_same u k kids loose loose' pcs pcs' p f v h.1,
        resumed_flags k loose loose' ds _ _ (λ j le n. fl j (omega arith) n) (λ x. subst (λ (z : Name → V). Lies M i r (suc k) ds kids loose' pcs' acc (z []) root) v (lies_flags r (suc k) ds kids loose loose' pcs pcs' acc (pcs (k ∷ [])) root (λ j le. fl j (omega arith)) (λ j le. q j (omega arith)) x)) h.2,
      )
  lies_flags (child Spawn w u r) k (d ∷ ds) kids loose loose' pcs pcs' acc p root fl q h =
      let f = fun_ext {A = Name} {B = λ n. Bool} (λ n. sym (fl k (le_refl k) n)) in
      let v = fun_ext {A = Name} {B = λ n. V} (λ n. sym (q k (le_refl k) n)) in (
        child_same u k kids loose loose' pcs pcs' p f v h.0,
        rw (fl k (le_refl k) [])
            (when_stolen_map (loose (k ∷ [])) _ _ _ _
            (λ x. subst (λ (z : Name → V). Lies M i r (suc k) ds kids loose' pcs' (M.combine acc (z [])) M.unit root) v (lies_flags r (suc k) ds kids loose loose' pcs pcs' _ _ root (λ j le. fl j (omega arith)) (λ j le. q j (omega arith)) x))
            (resumed_flags k loose loose' ds _ _ (λ j le n. fl j (omega arith) n) (λ x. (x.0, subst (λ (z : Name → V). Lies M i r (suc k) ds kids loose' pcs' acc (z []) root) v (lies_flags r (suc k) ds kids loose loose' pcs pcs' acc (pcs (k ∷ [])) root (λ j le. fl j (omega arith)) (λ j le. q j (omega arith)) x.1))))
            h.1),
      )

  module _ {c : Cell} where
    -- nothing is made beside a child that isn't complete, unless the continuation was stolen
    stuck_resumed : (u : Run W) (kids : ℕ → Frames W) {m : Name} {a : Deed W} {x y : ℤ} (X Y : Type 0) (k : ℕ) (loose loose' : Name → Bool) (ds : List (Deed W)) → Front W c u 1 (deeds_at (kids k [])) (below (kids k)) m a x y → ((j : ℕ) → suc k ≤ j → (n : Name) → loose' (j ∷ n) ≡ loose (j ∷ n)) → WhenResumed (suc k) loose ds (IsFull u 1 (deeds_at (kids k [])) (below (kids k)) × X) → WhenResumed (suc k) loose' ds (IsFull u 1 (deeds_at (kids k [])) (below (kids k)) × Y)
    stuck_resumed u kids X Y k loose loose' [] f fl h = λ j le n. fl j le n ∙ h j le n
    stuck_resumed u kids X Y k loose loose' (d ∷ ds) f fl h = absurd (full_stuck f h.0)

    pub lies_steal : {r : Run W} {k : ℕ} {ds : List (Deed W)} {kids : ℕ → Frames W} {n : Name} {a : Deed W} {x y : ℤ} → Front W c r k ds kids n a x y → a ≡ Does (Passes Resumes) → IsCut r k ds kids → (b : Bool) → NotFirst {W = W} M i b ds → IsResumed b r → (K : ℕ) → At K k ds kids n → (loose loose' : Name → Bool) (acc p : V) (pcs pcs' : Name → V) (root root' : V) → Lies M i r k ds kids loose pcs acc p root → Taken M n K loose loose' pcs root pcs' root' → Lies M i r k ds kids loose' pcs' acc p root'
    lies_steal (here_act {e = e}) is cut true not res K at loose loose' acc p pcs pcs' root root' lies tk = absurd not
    lies_steal (here_act {e = e}) is cut false not res K at loose loose' acc p pcs pcs' root root' lies tk = let z : e ≡ Passes Resumes = cc in absurd (res.0 (rw z tt))
    lies_steal here_child is cut b not res K at loose loose' acc p pcs pcs' root root' lies tk = absurd (cc)
    lies_steal (past_act {e = e} {r = r} {k = k} {d = d} {ds = ds} {kids = kids} {n = n} f) is cut b not res K at loose loose' acc p pcs pcs' root root' lies tk =
        lies_steal f is cut.1 false tt (resumed_rest_of b e r res) K (at_act K k d ds e kids n cut.0 at) loose loose' (block_after M e acc) (own_after M i e acc p) pcs pcs' root root' lies tk
    lies_steal (past_child {i = Call} {w = w} {k = k} {d = d} {ds = []} {kids = kids} {n = []} q f) is cut b not res K at loose loose' acc p pcs pcs' root root' lies tk = only_spawned Call d w K k kids at cut.0 tt
    lies_steal (past_child {i = Call} {ds = []} {n = j ∷ m} q f) is cut b not res K at loose loose' acc p pcs pcs' root root' lies tk = front_nonempty f refl refl
    lies_steal (past_child {i = Call} {w = w} {u = u} {r = r} {k = k} {d = d} {ds = e ∷ ds} {kids = kids} {n = n} {a = a} q f) is cut b not res K at loose loose' acc p pcs pcs' root root' lies tk =
        let parts = resumed_parts_of b Call w u r res in
        let at' = at_child K k d (e ∷ ds) Call w kids n cut.0 (front_from f) (λ q z. cc) at in
        let kept = kept_flags M n K k loose loose' pcs pcs' root root' (beyond K k (e ∷ ds) kids n at') tk in (
          sym (ap (λ (z : Name → Bool). z []) kept.0) ∙ lies.0,
          child_same u k kids loose loose' pcs pcs' p kept.0 kept.1 lies.1,
          subst (λ (z : Name → V). Lies M i r (suc k) (e ∷ ds) kids loose' pcs' acc (z []) root') kept.1 (lies_steal f is cut.4 true tt parts.1 K at' loose loose' acc (pcs (k ∷ [])) pcs pcs' root root' lies.2 tk),
        )
    lies_steal (past_child {i = Spawn} {w = w} {u = u} {r = r} {k = k} {d = d} {ds = []} {kids = kids} {n = []} {a = a} q f) is cut b not res K at loose loose' acc p pcs pcs' root root' lies tk =
        let here = only_last K k d kids at in
        let off : loose (k ∷ []) ≡ false = subst (λ z. loose (z ∷ []) ≡ false) here tk.0 in
        let on : loose' (k ∷ []) ≡ true = subst (λ z. loose' (z ∷ []) ≡ true) here tk.1 in
        let old : NoneStolen (suc k) loose = rw off at lies.1 in (
          subst (λ z. Lies M i u 1 (deeds_at (kids k [])) (below (kids k)) (λ n. loose' (k ∷ n)) (λ n. pcs' (k ∷ n)) M.unit p z) (sym (tk.4 k []))
              (lies_flags u 1 (deeds_at (kids k [])) (below (kids k)) (λ n. loose (k ∷ n)) (λ n. loose' (k ∷ n)) (λ n. pcs (k ∷ n)) (λ n. pcs' (k ∷ n)) M.unit p (pcs (k ∷ [])) (λ j le m. tk.2 k (j ∷ m) (λ q. cc)) (λ j le m. tk.4 k (j ∷ m)) lies.0),
          rw on (lies_nil M i r (suc k) kids loose' pcs' _ M.unit root' tk.3 (λ j le n. tk.2 j n (λ q. let z : j ≡ K = cc in omega arith) ∙ old j le n)),
        )
    lies_steal (past_child {i = Spawn} {ds = []} {n = j ∷ m} q f) is cut b not res K at loose loose' acc p pcs pcs' root root' lies tk = front_nonempty f refl refl
    lies_steal (past_child {i = Spawn} {w = w} {u = u} {r = r} {k = k} {d = d} {ds = e ∷ ds} {kids = kids} {n = n} {a = a} q f) is cut b not res K at loose loose' acc p pcs pcs' root root' lies tk =
        let parts = resumed_parts_of b Spawn w u r res in
        let at' = at_child K k d (e ∷ ds) Spawn w kids n cut.0 (front_from f) (λ q z. cc) at in
        let kept = kept_flags M n K k loose loose' pcs pcs' root root' (beyond K k (e ∷ ds) kids n at') tk in
        let flag : loose' (k ∷ []) ≡ loose (k ∷ []) = sym (ap (λ (z : Name → Bool). z []) kept.0) in (
          child_same u k kids loose loose' pcs pcs' p kept.0 kept.1 lies.0,
          rw flag
              (when_stolen_map (loose (k ∷ [])) _ _ _ _
              (λ h. subst (λ (z : Name → V). Lies M i r (suc k) (e ∷ ds) kids loose' pcs' (M.combine acc (z [])) M.unit root') kept.1 (lies_steal f is cut.4 true tt parts.1 K at' loose loose' (M.combine acc (pcs (k ∷ []))) M.unit pcs pcs' root root' h tk))
              (λ h. (h.0, subst (λ (z : Name → V). Lies M i r (suc k) (e ∷ ds) kids loose' pcs' acc (z []) root') kept.1 (lies_steal f is cut.4 true tt parts.1 K at' loose loose' acc (pcs (k ∷ [])) pcs pcs' root root' h.1 tk)))
              lies.1),
        )
    lies_steal (inside {i = Call} {w = w} {u = u} {r = r} {k = k} {d = d} {ds = e ∷ ds} {kids = kids} {m = m} {a = a} f) is cut b not res K at loose loose' acc p pcs pcs' root root' lies tk = absurd (full_stuck f (cut.3 tt))
    lies_steal (inside {i = Call} {w = w} {u = u} {r = r} {k = k} {d = d} {ds = []} {kids = kids} {m = m} {a = a} f) is cut b not res K at loose loose' acc p pcs pcs' root root' lies tk =
        let inner = lies_steal f is cut.2 false tt (resumed_parts_of b Call w u r res).0 K (at_inside K k (d ∷ []) kids m cut.1.1 at) (λ n. loose (k ∷ n)) (λ n. loose' (k ∷ n)) M.unit p (λ n. pcs (k ∷ n)) (λ n. pcs' (k ∷ n)) (pcs (k ∷ [])) (pcs' (k ∷ [])) lies.1 tk.4 in
        (tk.0 ∙ lies.0, inner, λ j le n. tk.1 j n (λ q. omega arith) ∙ lies.2 j le n)
    lies_steal (inside {i = Spawn} {w = w} {u = u} {r = r} {k = k} {d = d} {ds = ds} {kids = kids} {m = m} {a = a} f) is cut b not res K at loose loose' acc p pcs pcs' root root' lies tk =
        let inner = lies_steal f is cut.2 false tt (resumed_parts_of b Spawn w u r res).0 K (at_inside K k (d ∷ ds) kids m cut.1.1 at) (λ n. loose (k ∷ n)) (λ n. loose' (k ∷ n)) M.unit p (λ n. pcs (k ∷ n)) (λ n. pcs' (k ∷ n)) (pcs (k ∷ [])) (pcs' (k ∷ [])) lies.0 tk.4 in (
          inner,
          rw tk.0
              (when_stolen_map (loose (k ∷ [])) _ _ _ _
              (λ h. subst (λ z. Lies M i r (suc k) ds kids loose' pcs' (M.combine acc (pcs' (k ∷ []))) M.unit z) (sym tk.2)
              (lies_flags r (suc k) ds kids loose loose' pcs pcs' _ M.unit root (λ j le n. tk.1 j n (λ q. omega arith)) (λ j le n. tk.3 j n (λ q. omega arith))
              (lies_acc M i r (suc k) ds kids loose pcs _ _ M.unit root cut.4 (λ s. full_stuck f (cut.3 s)) h)))
              (stuck_resumed u kids _ _ k loose loose' ds f (λ j le n. tk.1 j n (λ q. omega arith)))
              lies.1),
        )
