-- The pieces at a block: an arrival, a steal, the whole product.
--
-- - `product_snoc`, `block_product`: the block's product is that of its stolen children's pieces;
-- - `all_there`, `passes`: with nothing awaited, the one run is the whole product;
-- - `steals`, `closes`, `arrives`: after a steal, after the arrival of the own piece, of a child's;
-- - `awaited`, `none_awaited`: which keys are awaited.
use Rattle.std.proofs.Common.{◌≡◌, inl, inr, ⊎_elim, ℕ, suc, nat_eq, eq-eqb, eqb-true, Bool, true, false, cond, List, [], ◌∷◌, ◌++◌, Option, Some, None, refl, sym, ap, ◌∙◌, subst}
use Rattle.cilk_types.specs.declared.invocation.Invocation.TheVariants.{Call, Spawn}
use Rattle.cilk_monoid.specs.Kinds.{structure_of}
use Rattle.cilk_monoid.specs.Laws.{MonoidStructure}
use Rattle.cilk_monoid.specs.Values.{ViewValue}
use Rattle.cilk_monoid.specs.declared.kind.MonoidKind.{MonoidKind}
use Rattle.cilk_determinacy.specs.Machine.{block_view}
use Rattle.cilk_determinacy.specs.Runs.{Reads, Writes, Syncs, Ends, Passes, Deed, Does, Invokes}
use Rattle.cilk_join.specs.Rows.{Wait, Row, row, wait, ahead, keys, Stands, or_unit, between, placed}
use Rattle.cilk_determinacy.specs.Reducers.{View, views_of}
use Rattle.cilk_determinacy.specs.FrameEnvViews.{IsViewOf}
use Rattle.cilk_determinacy.proofs.FrameEnvViews.{are_multiplied}
use Rattle.cilk_scheduler.specs.Blocks.{stolen_in, IsRun, Lays, with_one, NotIn, Apart}

-- the product of these pieces, after another
abbrev pub product : {V : Type 0} → MonoidStructure V → (ℕ → V) → V → List ℕ → V
product M kid acc [] = acc
product M kid acc (k ∷ ks) = product M kid (M.combine acc (kid k)) ks

with_true : (there : ℕ → Bool) (j k : ℕ) → nat_eq j k ≡ true → with_one there k j ≡ true
with_true there j k q = rw q refl

module _ {V : Type 0} (M : MonoidStructure V) where
  product_snoc : (kid : ℕ → V) (acc : V) (ks : List ℕ) (k : ℕ) → product M kid acc (ks ++ k ∷ []) ≡ M.combine (product M kid acc ks) (kid k)
  product_snoc kid acc [] k = refl
  product_snoc kid acc (j ∷ js) k = product_snoc kid (M.combine acc (kid j)) js k

  pub block_product : {W : Type 0} (kid : ℕ → V) (loose : ℕ → Bool) (ks : List ℕ) (k : ℕ) (ds : List (Deed W)) → block_view M kid loose (product M kid M.unit ks) k ds ≡ product M kid M.unit (stolen_in loose k ks ds)
  block_product kid loose ks k [] = refl
  block_product kid loose ks k (Does (Reads c v) ∷ ds) = block_product kid loose ks k ds
  block_product kid loose ks k (Does (Writes c v) ∷ ds) = block_product kid loose ks k ds
  block_product kid loose ks k (Does Syncs ∷ ds) = block_product kid loose [] k ds
  block_product kid loose ks k (Does (Ends v gone) ∷ ds) = block_product kid loose ks k ds
  block_product kid loose ks k (Does (Passes m) ∷ ds) = block_product kid loose ks k ds
  block_product kid loose ks k (Invokes Call w ∷ ds) = block_product kid loose ks (suc k) ds
  block_product kid loose ks k (Invokes Spawn w ∷ ds) = go (loose k) refl (block_product kid loose (ks ++ k ∷ []) (suc k) ds) (block_product kid loose ks (suc k) ds)
    where
      go : (b : Bool) → loose k ≡ b → block_view M kid loose (product M kid M.unit (ks ++ k ∷ [])) (suc k) ds ≡ product M kid M.unit (stolen_in loose (suc k) (ks ++ k ∷ []) ds) → block_view M kid loose (product M kid M.unit ks) (suc k) ds ≡ product M kid M.unit (stolen_in loose (suc k) ks ds)
          → block_view M kid loose (cond (loose k) (M.combine (product M kid M.unit ks) (kid k)) (product M kid M.unit ks)) (suc k) ds ≡ product M kid M.unit (stolen_in loose (suc k) (cond (loose k) (ks ++ k ∷ []) ks) ds)
      go true e yes_is no_is = rw e (ap (λ p. block_view M kid loose p (suc k) ds) (sym (product_snoc kid M.unit ks k)) ∙ yes_is)
      go false e yes_is no_is = rw e no_is

module _ (kind : MonoidKind) where
  abbrev unit : ViewValue
  unit = (structure_of kind).unit

  abbrev times : ViewValue → ViewValue → ViewValue
  times = (structure_of kind).combine

  abbrev M : MonoidStructure View
  M = views_of kind

  -- ---- runs

  is_join : (v w : View) (x y : ViewValue) → IsViewOf kind v x → IsViewOf kind w y → IsViewOf kind (M.combine v w) (times x y)
  is_join v w x y h g = let m = are_multiplied in m.join kind v w x y h g

  is_unit : IsViewOf kind M.unit unit
  is_unit = let m = are_multiplied in m.unit kind

  -- a piece between two runs
  is_between : (a v b : View) (left : Option ViewValue) (x : ViewValue) (right : Option ViewValue) → IsRun kind a left → IsViewOf kind v x → IsRun kind b right → IsViewOf kind (M.combine (M.combine a v) b) (between unit times left x right)
  is_between a v b left x right h g f = is_join (M.combine a v) b (times (or_unit unit times left) x) (or_unit unit times right) (is_join a v (or_unit unit times left) x h g) f

  placed_here : (run : Option ViewValue) (j k : ℕ) (after : Option ViewValue) (rest : List (Wait ViewValue)) (x : ViewValue) → nat_eq j k ≡ true → placed unit times run (wait j after ∷ rest) k x ≡ row (Some (between unit times run x after)) rest
  placed_here run j k after rest x q = rw q refl

  placed_later : (run : Option ViewValue) (j k : ℕ) (after : Option ViewValue) (rest : List (Wait ViewValue)) (x : ViewValue) → nat_eq j k ≡ false → placed unit times run (wait j after ∷ rest) k x ≡ ahead run j (placed unit times after rest k x)
  placed_later run j k after rest x q = rw q refl

  -- once all have arrived, the one run is the whole product
  pub all_there : (kid : ℕ → View) (there : ℕ → Bool) (own acc : View) (ks : List ℕ) (run : Option ViewValue) → Lays kind kid there own acc ks run [] → IsRun kind (M.combine (product M kid acc ks) own) run
  all_there kid there own acc [] run h = h.0
  all_there kid there own acc (k ∷ ks) run h = ⊎_elim (λ a. all_there kid there own (M.combine acc (kid k)) ks run a.1) (λ b. none b.1 b.2 b.3) h
    where
      none : {X : Type 0} (after : Option ViewValue) (rest : List (Wait ViewValue)) → [] ≡ wait k after ∷ rest → X
      none after rest q = let f : ⊥ = cc in absurd f

  -- which is the free machine's
  pub passes : {W : Type 0} (kid : ℕ → View) (loose there : ℕ → Bool) (own : View) (ds : List (Deed W)) (run : Option ViewValue) → Lays kind kid there own M.unit (stolen_in loose 1 [] ds) run []
      → IsRun kind (M.combine (block_view M kid loose M.unit 1 ds) own) run
  passes kid loose there own ds run h = subst (λ v. IsRun kind (M.combine v own) run) (sym (block_product M kid loose [] 1 ds)) (all_there kid there own M.unit (stolen_in loose 1 [] ds) run h)

  -- a continuation is stolen, as long as the own piece hasn't arrived
  pub steals : (kid : ℕ → View) (there : ℕ → Bool) (acc : View) (ks : List ℕ) (run : Option ViewValue) (waits : List (Wait ViewValue)) (k : ℕ) → there k ≡ false → Lays kind kid there M.unit acc ks run waits → Lays kind kid there M.unit acc (ks ++ k ∷ []) run (waits ++ wait k None ∷ [])
  steals kid there acc [] run waits k new h = inr (new, None, [], ap (λ ws. ws ++ wait k None ∷ []) h.1, h.0, (is_unit, refl))
  steals kid there acc (j ∷ js) run waits k new h = ⊎_elim
      (λ a. inl (a.0, steals kid there (M.combine acc (kid j)) js run waits k new a.1))
      (λ b. inr (b.0, b.1, b.2 ++ wait k None ∷ [], ap (λ ws. ws ++ wait k None ∷ []) b.3, b.4, steals kid there M.unit js b.1 b.2 k new b.5)) h

  -- the own piece arrives, with a key that isn't awaited
  pub closes : (kid : ℕ → View) (there : ℕ → Bool) (acc : View) (ks : List ℕ) (run : Option ViewValue) (waits : List (Wait ViewValue)) (k : ℕ) (v : View) (x : ViewValue) → IsViewOf kind v x → NotIn k ks → Lays kind kid there M.unit acc ks run waits
      → Lays kind kid there v acc ks (let r = placed unit times run waits k x in r.run) (let r = placed unit times run waits k x in r.waits)
  closes kid there acc [] run waits k v x is out h =
      let row_is : placed unit times run waits k x ≡ row (Some (between unit times run x None)) [] = ap (λ w. placed unit times run w k x) h.1 in
      subst (λ (r : Row ViewValue). Lays kind kid there v acc [] r.run r.waits) (sym row_is) (is_between acc v M.unit run x None h.0 is is_unit, refl)
  closes kid there acc (j ∷ js) run waits k v x is out h = ⊎_elim
      (λ a. inl (a.0, closes kid there (M.combine acc (kid j)) js run waits k v x is out.1 a.1))
      (λ b. subst (λ (r : Row ViewValue). Lays kind kid there v acc (j ∷ js) r.run r.waits) (sym (ap (λ w. placed unit times run w k x) b.3 ∙ placed_later run j k b.1 b.2 x out.0))
      (inr (b.0, (let r = placed unit times b.1 b.2 k x in r.run), (let r = placed unit times b.1 b.2 k x in r.waits), refl, b.4, closes kid there M.unit js b.1 b.2 k v x is out.1 b.5))) h

  -- exactly the keys of those that aren't there are awaited
  pub awaited : (kid : ℕ → View) (there : ℕ → Bool) (own acc : View) (ks : List ℕ) (run : Option ViewValue) (waits : List (Wait ViewValue)) (k : ℕ) → Stands ks k → there k ≡ false → Lays kind kid there own acc ks run waits → Stands (keys waits) k
  awaited kid there own acc [] run waits k among new h = absurd among
  awaited kid there own acc (j ∷ js) run waits k among new h = ⊎_elim
      (λ a. ⊎_elim (λ is. let z : true ≡ false = sym a.0 ∙ ap there is ∙ new in let f : ⊥ = cc in absurd f) (λ later. awaited kid there own (M.combine acc (kid j)) js run waits k later new a.1) among)
      (λ b. subst (λ ws. Stands (keys ws) k) (sym b.3) (⊎_elim (λ is. inl is) (λ later. inr (awaited kid there own M.unit js b.1 b.2 k later new b.5)) among)) h

  pub none_awaited : (kid : ℕ → View) (there : ℕ → Bool) (own acc : View) (ks : List ℕ) (run : Option ViewValue) → Lays kind kid there own acc ks run [] → (k : ℕ) → Stands ks k → there k ≡ true
  none_awaited kid there own acc [] run h k among = absurd among
  none_awaited kid there own acc (j ∷ js) run h k among = ⊎_elim
      (λ a. ⊎_elim (λ is. ap there (sym is) ∙ a.0) (λ later. none_awaited kid there own (M.combine acc (kid j)) js run a.1 k later) among)
      (λ b. none b.1 b.2 b.3) h
    where
      none : {X : Type 0} (after : Option ViewValue) (rest : List (Wait ViewValue)) → [] ≡ wait j after ∷ rest → X
      none after rest q = let f : ⊥ = cc in absurd f

  module _ (kid kid' : ℕ → View) (there : ℕ → Bool) (own : View) (k : ℕ) (same : (j : ℕ) → nat_eq j k ≡ false → kid' j ≡ kid j) where
    other : (j : ℕ) (b : Bool) → nat_eq j k ≡ false → there j ≡ b → with_one there k j ≡ b
    other j b ne q = rw ne q

    lays_same : (acc : View) (js : List ℕ) (run : Option ViewValue) (waits : List (Wait ViewValue)) → NotIn k js → Lays kind kid there own acc js run waits → Lays kind kid' (with_one there k) own acc js run waits
    lays_same acc [] run waits out h = h
    lays_same acc (j ∷ js) run waits out h = ⊎_elim
        (λ a. inl (other j true out.0 a.0, rw (same j out.0) (lays_same (M.combine acc (kid j)) js run waits out.1 a.1)))
        (λ b. inr (other j false out.0 b.0, b.1, b.2, b.3, b.4, lays_same M.unit js b.1 b.2 out.1 b.5)) h

    -- the product of pieces further on the left
    lays_on : (a b : View) (x : ViewValue) (js : List ℕ) (run : Option ViewValue) (waits : List (Wait ViewValue)) → IsViewOf kind a x → NotIn k js → Lays kind kid there own b js run waits → Lays kind kid' (with_one there k) own (M.combine a b) js (Some (times x (or_unit unit times run))) waits
    lays_on a b x [] run waits is out h = (is_join a (M.combine b own) x (or_unit unit times run) is h.0, h.1)
    lays_on a b x (j ∷ js) run waits is out h = ⊎_elim
        (λ c. inl (other j true out.0 c.0, rw (same j out.0) (lays_on a (M.combine b (kid j)) x js run waits is out.1 c.1)))
        (λ y. inr (other j false out.0 y.0, y.1, y.2, y.3, is_join a b x (or_unit unit times run) is y.4, lays_same M.unit js y.1 y.2 out.1 y.5)) h

    -- a stolen child arrives, with its piece
    module _ (x : ViewValue) (is : IsViewOf kind (kid' k) x) where
      pub arrives : (acc : View) (js : List ℕ) (run : Option ViewValue) (waits : List (Wait ViewValue)) → Apart js → Stands js k → there k ≡ false → Lays kind kid there own acc js run waits
          → Lays kind kid' (with_one there k) own acc js (let r = placed unit times run waits k x in r.run) (let r = placed unit times run waits k x in r.waits)
      arrives acc [] run waits apart among new h = absurd among
      arrives acc (j ∷ js) run waits apart among new h = by (nat_eq j k) refl (λ acc run waits among h. arrives acc js run waits apart.1 among new h)
        where
          Goal : Type 0
          Goal = Lays kind kid' (with_one there k) own acc (j ∷ js) (let r = placed unit times run waits k x in r.run) (let r = placed unit times run waits k x in r.waits)

          -- it is this one: the piece makes one run of those beside it
          here : nat_eq j k ≡ true → Goal
          here q =
              let at : j ≡ k = eqb-true j k q in
              let new' : there j ≡ false = rw at new in
              ⊎_elim (λ a. let z : true ≡ false = sym a.0 ∙ new' in let f : ⊥ = cc in absurd f) (λ b. put b.1 b.2 b.3 b.4 b.5) h
            where
              put : (after : Option ViewValue) (rest : List (Wait ViewValue)) → waits ≡ wait j after ∷ rest → IsRun kind acc run → Lays kind kid there own M.unit js after rest → Goal
              put after rest at run_is lays =
                  let same_key : j ≡ k = eqb-true j k q in
                  let out : NotIn k js = subst (λ z. NotIn z js) same_key apart.0 in
                  let left : IsViewOf kind (M.combine acc (kid' k)) (times (or_unit unit times run) x) = is_join acc (kid' k) (or_unit unit times run) x run_is is in
                  let on : Lays kind kid' (with_one there k) own (M.combine (M.combine acc (kid' k)) M.unit) js (Some (between unit times run x after)) rest = lays_on (M.combine acc (kid' k)) M.unit (times (or_unit unit times run) x) js after rest left out lays in
                  let acc_is : M.combine (M.combine acc (kid' k)) M.unit ≡ M.combine acc (kid' j) = ap (λ z. M.combine acc (kid' z)) (sym same_key) in
                  let row_is : placed unit times run waits k x ≡ row (Some (between unit times run x after)) rest = ap (λ w. placed unit times run w k x) at ∙ placed_here run j k after rest x q in
                  subst (λ (r : Row ViewValue). Lays kind kid' (with_one there k) own acc (j ∷ js) r.run r.waits) (sym row_is) (inl (with_true there j k q, subst (λ z. Lays kind kid' (with_one there k) own z js (Some (between unit times run x after)) rest) acc_is on))

          Rest : Type 0
          Rest = (acc : View) (run : Option ViewValue) (waits : List (Wait ViewValue)) → Stands js k → Lays kind kid there own acc js run waits → Lays kind kid' (with_one there k) own acc js (let r = placed unit times run waits k x in r.run) (let r = placed unit times run waits k x in r.waits)

          -- it is a later one
          later : nat_eq j k ≡ false → Rest → Goal
          later q rest = ⊎_elim arrived waiting h
            where
              among' : Stands js k
              among' = ⊎_elim (λ at. let z : true ≡ false = sym (eq-eqb j k at) ∙ q in let f : ⊥ = cc in absurd f) (λ z. z) among

              rw_row : (after : Option ViewValue) (more : List (Wait ViewValue)) → waits ≡ wait j after ∷ more → Lays kind kid' (with_one there k) own acc (j ∷ js) (let r = ahead run j (placed unit times after more k x) in r.run) (let r = ahead run j (placed unit times after more k x) in r.waits) → Goal
              rw_row after more at z = subst (λ (r : Row ViewValue). Lays kind kid' (with_one there k) own acc (j ∷ js) r.run r.waits) (sym (ap (λ w. placed unit times run w k x) at ∙ placed_later run j k after more x q)) z

              arrived : (there j ≡ true) × Lays kind kid there own (M.combine acc (kid j)) js run waits → Goal
              arrived a = inl (other j true q a.0, rw (same j q) (rest (M.combine acc (kid j)) run waits among' a.1))

              waiting : (there j ≡ false) × (after : Option ViewValue) × (rest : List (Wait ViewValue)) × (waits ≡ wait j after ∷ rest) × IsRun kind acc run × Lays kind kid there own M.unit js after rest → Goal
              waiting b = rw_row b.1 b.2 b.3 (inr (other j false q b.0, (let r = placed unit times b.1 b.2 k x in r.run), (let r = placed unit times b.1 b.2 k x in r.waits), refl, b.4, rest M.unit b.1 b.2 among' b.5))

          by : (b : Bool) → nat_eq j k ≡ b → Rest → Goal
          by true q rest = here q
          by false q rest = later q rest
