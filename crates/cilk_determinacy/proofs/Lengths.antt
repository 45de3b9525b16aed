-- Views have no more elements than events were made, whatever steps are made.
--
-- - `Small`, `small_unit`, `small_single`, `small_join`, `block_small`: views with at most n
--   elements;
-- - `Sized`: the invariant of each state; `ask_sized`, `steals_sized`: its steps;
-- - `number_word`: the length of such a view is a word.
use Rattle.std.proofs.Common.{◌≡◌, ◌≤◌, ◌<◌, ◌+◌, ℕ, suc, ℤ, Bool, true, false, true≢false, cond, List, [], ◌∷◌, ◌++◌, length, length-append, Option, Some, None, refl, sym, ap, ap₂, ◌∙◌, subst, arith}
use Rattle.std.proofs.lemmas.Bool.{cond-true, cond-false}
use Rattle.cilk_types.specs.declared.invocation.Invocation.{Invocation}
use Rattle.cilk_types.specs.declared.invocation.Invocation.TheVariants.{Call, Spawn}
use Rattle.cilk_monoid.specs.declared.kind.MonoidKind.{MonoidKind}
use Rattle.cilk_monoid.specs.declared.kind.MonoidKind.TheVariants.{Add, Least, Greatest, Append, Affine}
use Rattle.cilk_monoid.specs.Kinds.{structure_of, size_of, IsMember}
use Rattle.cilk_monoid.specs.Values.{ViewValue, Number, Elements, Map}
use Rattle.cilk_types.specs.Word.{IsWord}
use Rattle.cilk_determinacy.specs.Runs.{Name, same_name, Cell, Instance, Output, same_instance, has_instance, Wish, Begin, Resume, Create, Update, Set, Value, Print, Ask, Read, Write, Invoke, Sync, End, Pass, Fail, Event, Reads, Writes, Syncs, Ends, Passes, Begins, Resumes, Deed, Does, Invokes}
use Rattle.cilk_determinacy.specs.Machine.{Frame, Frames, deeds_at, started, mark_of, deed_of, begun, after_deed, block_view, own_view, with_view, after_views}
use Rattle.cilk_determinacy.proofs.Basics.{same_name-refl, same_name-eq}
use Rattle.cilk_determinacy.proofs.Started.{started_does, started_invokes}
use Rattle.cilk_determinacy.specs.KeptViews.{WishIsSound, AskIsSound}
use Rattle.cilk_determinacy.specs.Reducers.{View, views_of, kind_of, monoid_of}
use Rattle.cilk_determinacy.specs.FrameEnvViews.{IsViewOf}
use Rattle.cilk_determinacy.specs.FrameEnvs.{FrameEnv}
use Rattle.cilk_determinacy.proofs.FrameEnvViews.{are_multiplied}
use Rattle.cilk_determinacy.proofs.Wordy.{length_word}
use Rattle.cilk_determinacy.proofs.Owed.{waiting, lies, onward, onward_does, onward_invokes, onward_settled, onward_waiting, lies_does, lies_sync, lies_invokes, lies_least, grown_most, same_lies, same_onward, under, under_self, under_child, under_least, way, under_way}

-- ---- views

-- a view of the language with at most n elements
abbrev pub Small : MonoidKind → ℕ → View → Type 0
Small k b v = (x : ViewValue) × IsViewOf k v x × (size_of x ≤ b)

joined_size : (k : MonoidKind) (x y : ViewValue) → size_of ((structure_of k).combine x y) ≤ size_of x + size_of y
joined_size Add (Number a) (Number b) = omega arith
joined_size Add (Number a) (Elements b) = omega arith
joined_size Add (Number a) (Map b c) = omega arith
joined_size Add (Elements a) y = omega arith
joined_size Add (Map a b) y = omega arith
joined_size Least (Number a) (Number b) = omega arith
joined_size Least (Number a) (Elements b) = omega arith
joined_size Least (Number a) (Map b c) = omega arith
joined_size Least (Elements a) y = omega arith
joined_size Least (Map a b) y = omega arith
joined_size Greatest (Number a) (Number b) = omega arith
joined_size Greatest (Number a) (Elements b) = omega arith
joined_size Greatest (Number a) (Map b c) = omega arith
joined_size Greatest (Elements a) y = omega arith
joined_size Greatest (Map a b) y = omega arith
joined_size Append (Elements a) (Elements b) = omega (arith, length-append a b)
joined_size Append (Elements a) (Number b) = omega arith
joined_size Append (Elements a) (Map b c) = omega arith
joined_size Append (Number a) y = omega arith
joined_size Append (Map a b) y = omega arith
joined_size Affine (Map a b) (Map c d) = omega arith
joined_size Affine (Map a b) (Number c) = omega arith
joined_size Affine (Map a b) (Elements c) = omega arith
joined_size Affine (Number a) y = omega arith
joined_size Affine (Elements a) y = omega arith

unit_size : (k : MonoidKind) → size_of ((structure_of k).unit) ≤ 0
unit_size Add = omega arith
unit_size Least = omega arith
unit_size Greatest = omega arith
unit_size Append = omega arith
unit_size Affine = omega arith

single_size : (k : MonoidKind) (z : ℤ) → size_of ((structure_of k).single z) ≤ 1
single_size Add z = omega arith
single_size Least z = omega arith
single_size Greatest z = omega arith
single_size Append z = omega arith
single_size Affine z = omega arith

module _ (k : MonoidKind) where
  pub small_unit : (b : ℕ) → Small k b ((views_of k).unit)
  small_unit b = let m = are_multiplied in let e = unit_size k in ((structure_of k).unit, m.unit k, omega (arith, e))

  small_single : (b : ℕ) (z : ℤ) → IsWord z → Small k (suc b) ((views_of k).single z)
  small_single b z word = let m = are_multiplied in let e = single_size k z in ((structure_of k).single z, m.single k z word, omega (arith, e))

  small_join : (a b c : ℕ) (v w : View) → Small k a v → Small k b w → a + b ≤ c → Small k c ((views_of k).combine v w)
  small_join a b c v w (x, h, l) (y, g, r) low = let m = are_multiplied in let e = joined_size k x y in ((structure_of k).combine x y, m.join k v w x y h g, omega (arith, e, l, r, low))

  small_cond : (b : Bool) (c : ℕ) (v w : View) → Small k c v → Small k c w → Small k c (cond b v w)
  small_cond true c v w h g = h
  small_cond false c v w h g = g

  small_more : (a b : ℕ) (v : View) → a ≤ b → Small k a v → Small k b v
  small_more a b v low (x, h, l) = (x, h, omega (arith, low, l))

  module _ (kid : ℕ → View) (loose : ℕ → Bool) (t : ℕ → ℕ) where
    block_small : (acc : View) (a j : ℕ) (ds : List (Deed FrameEnv)) → Small k a acc → ((h : ℕ) → j ≤ h → h < j + started ds → Small k (t h) (kid h)) → Small k (lies loose t a j ds) (block_view (views_of k) kid loose acc j ds)
    block_small acc a j [] s g = s
    block_small acc a j (Does (Reads c v) ∷ ds) s g = block_small acc a j ds s g
    block_small acc a j (Does (Writes c v) ∷ ds) s g = block_small acc a j ds s g
    block_small acc a j (Does Syncs ∷ ds) s g = block_small ((views_of k).unit) 0 j ds (small_unit 0) g
    block_small acc a j (Does (Ends v gone) ∷ ds) s g = block_small acc a j ds s g
    block_small acc a j (Does (Passes m) ∷ ds) s g = block_small acc a j ds s g
    block_small acc a j (Invokes Call w ∷ ds) s g = block_small acc a (suc j) ds s (λ h low high. g h (omega (arith, low)) (omega (arith, high)))
    block_small acc a j (Invokes Spawn w ∷ ds) s g =
        block_small (cond (loose j) ((views_of k).combine acc (kid j)) acc) (cond (loose j) (a + t j) a) (suc j) ds (by (loose j)) (λ h low high. g h (omega (arith, low)) (omega (arith, high)))
      where
        by : (b : Bool) → Small k (cond b (a + t j) a) (cond b ((views_of k).combine acc (kid j)) acc)
        by true = small_join a (t j) (a + t j) acc (kid j) s (g j (omega arith) (omega arith)) (omega arith)
        by false = s

-- the child's number differs from another's
snoc_name : (n m : Name) (q r : ℕ) → n ++ q ∷ [] ≡ m ++ r ∷ [] → (n ≡ m) × (q ≡ r)
snoc_name [] [] q r h = let z : q ∷ [] ≡ r ∷ [] = h in (refl, cc)
snoc_name [] (j ∷ []) q r h = let z : q ∷ [] ≡ j ∷ r ∷ [] = h in absurd (let f : ⊥ = cc in f)
snoc_name [] (j ∷ i ∷ m) q r h = let z : q ∷ [] ≡ j ∷ i ∷ (m ++ r ∷ []) = h in absurd (let f : ⊥ = cc in f)
snoc_name (j ∷ []) [] q r h = let z : j ∷ q ∷ [] ≡ r ∷ [] = h in absurd (let f : ⊥ = cc in f)
snoc_name (j ∷ i ∷ n) [] q r h = let z : j ∷ i ∷ (n ++ q ∷ []) ≡ r ∷ [] = h in absurd (let f : ⊥ = cc in f)
snoc_name (j ∷ n) (i ∷ m) q r h =
    let z : j ∷ (n ++ q ∷ []) ≡ i ∷ (m ++ r ∷ []) = h in
    let a : j ≡ i = cc in
    let g : n ++ q ∷ [] ≡ m ++ r ∷ [] = cc in
    let t = snoc_name n m q r g in
    (ap₂ (λ x y. x ∷ y) a t.0, t.1)

not_same : (n m : Name) → (n ≡ m → ⊥) → same_name n m ≡ false
not_same n m h = by (same_name n m) refl
  where
    by : (b : Bool) → same_name n m ≡ b → b ≡ false
    by true e = absurd (h (same_name-eq n m e))
    by false e = refl

there_not : {A : Type 0} (x : A) (y : Option A) → y ≡ Some x → y ≡ None → ⊥
there_not x y h g = let z : Some x ≡ None = sym h ∙ g in cc

-- ---- states

-- A bound for each piece, and one for all pieces together that the frame and those below it still
-- hand on.
pub record Sized (frames : Frames FrameEnv) (piece : Name → Instance → View) (stolen : Name → Bool) (events : ℕ) : Type 0 where
  pub own : Name → ℕ
  pub total : Name → ℕ
  pub small : (n : Name) (f : Frame FrameEnv) (i : Instance) → frames n ≡ Some f → Small (kind_of i) (own n) (piece n i)
  pub within : (n : Name) → own n ≤ total n
  pub below : (n : Name) → total n ≤ events
  pub paid : (n : Name) (f : Frame FrameEnv) → frames n ≡ Some f → lies (λ k. stolen (n ++ k ∷ [])) (λ k. total (n ++ k ∷ [])) 0 1 f.deeds + onward (λ k. stolen (n ++ k ∷ [])) (λ k. total (n ++ k ∷ [])) (own n) (own n) 1 f.deeds ≤ total n
  pub fresh : (n : Name) → frames n ≡ None → stolen n ≡ false
  pub late : (n : Name) (k : ℕ) → started (deeds_at (frames n)) < k → frames (n ++ k ∷ []) ≡ None

abbrev pub is_resume : Ask FrameEnv → Bool
is_resume (Pass Resume) = true
is_resume a = false

module _ (frames : Frames FrameEnv) (piece : Name → Instance → View) (stolen : Name → Bool) (events : ℕ) (sized : Sized frames piece stolen events) (n : Name) (f : Frame FrameEnv) (here : frames n ≡ Some f)
    (children : (k : ℕ) → 1 ≤ k → k ≤ started f.deeds → (h : Frame FrameEnv) × (frames (n ++ k ∷ []) ≡ Some h)) where
  abbrev loose : ℕ → Bool
  loose k = stolen (n ++ k ∷ [])

  abbrev kids : ℕ → ℕ
  kids k = let s = sized in s.total (n ++ k ∷ [])

  abbrev mine : ℕ
  mine = let s = sized in s.own n

  abbrev all : ℕ
  all = let s = sized in s.total n

  paid_here : lies loose kids 0 1 f.deeds + onward loose kids mine mine 1 f.deeds ≤ all
  paid_here = let s = sized in s.paid n f here

  module _ (e : Event) (g : ℕ) (view : Instance → View) (fits : (i : Instance) → Small (kind_of i) (suc g) (view i)) (pays : lies loose kids 0 1 (f.deeds ++ Does e ∷ []) + g ≤ all) where
    abbrev after_does : Frame FrameEnv
    after_does = record f { deeds = f.deeds ++ Does e ∷ [] }

    abbrev own_does : Name → ℕ
    own_does m = let s = sized in cond (same_name n m) (suc g) (s.own m)

    abbrev total_does : Name → ℕ
    total_does m = let s = sized in s.total m + under m n

    does_small : (m : Name) (b : Bool) (x : Frame FrameEnv) (i : Instance) → cond b (Some after_does) (frames m) ≡ Some x → Small (kind_of i) (let s = sized in cond b (suc g) (s.own m)) (cond b (view i) (piece m i))
    does_small m true x i q = fits i
    does_small m false x i q = let s = sized in s.small m x i q

    does_within : (m : Name) (b : Bool) → same_name n m ≡ b → (let s = sized in cond b (suc g) (s.own m)) ≤ total_does m
    does_within m true q =
        let u = under_self n in
        subst (λ z. suc g ≤ total_does z) (same_name-eq n m q) (omega (arith, u, pays))
    does_within m false q = let s = sized in let w = s.within m in omega (arith, w)

    does_paid : (m : Name) (b : Bool) (x : Frame FrameEnv) → same_name n m ≡ b → cond b (Some after_does) (frames m) ≡ Some x
        → lies (λ k. stolen (m ++ k ∷ [])) (λ k. total_does (m ++ k ∷ [])) 0 1 x.deeds + onward (λ k. stolen (m ++ k ∷ [])) (λ k. total_does (m ++ k ∷ [])) (let s = sized in cond b (suc g) (s.own m)) (let s = sized in cond b (suc g) (s.own m)) 1 x.deeds ≤ total_does m
    does_paid m true x q r =
        let is : f.deeds ++ Does e ∷ [] ≡ x.deeds = ap deeds_at r in
        let u = under_self n in
        let old = same_lies loose loose kids (λ k. total_does (n ++ k ∷ [])) 0 1 (f.deeds ++ Does e ∷ []) (λ h low. (refl, let z = under_child n h in omega (arith, z))) in
        let on = onward_does loose (λ k. total_does (n ++ k ∷ [])) (suc g) (suc g) 1 f.deeds e in
        subst (λ z. lies (λ k. stolen (z ++ k ∷ [])) (λ k. total_does (z ++ k ∷ [])) 0 1 x.deeds + onward (λ k. stolen (z ++ k ∷ [])) (λ k. total_does (z ++ k ∷ [])) (suc g) (suc g) 1 x.deeds ≤ total_does z) (same_name-eq n m q)
        (subst (λ d. lies loose (λ k. total_does (n ++ k ∷ [])) 0 1 d + onward loose (λ k. total_does (n ++ k ∷ [])) (suc g) (suc g) 1 d ≤ total_does n) is (omega (arith, u, old, on, pays)))
    does_paid m false x q r =
        let s = sized in
        let w = s.paid m x r in
        let most = grown_most (λ k. stolen (m ++ k ∷ [])) (λ k. s.total (m ++ k ∷ [])) (λ k. total_does (m ++ k ∷ [])) (s.own m) (way m n) (under m n) (λ h. let z = under_way m n h in omega (arith, z)) x.deeds in
        omega (arith, w, most)

    does_fresh : (m : Name) (b : Bool) → cond b (Some after_does) (frames m) ≡ None → stolen m ≡ false
    does_fresh m true q = let z : Some after_does ≡ None = q in absurd (let w : ⊥ = cc in w)
    does_fresh m false q = let s = sized in s.fresh m q

    does_started : (m : Name) (b : Bool) → same_name n m ≡ b → started (deeds_at (frames m)) ≤ started (deeds_at (cond b (Some after_does) (frames m)))
    does_started m true q =
        let a = started_does f.deeds e in
        let z : started (deeds_at (frames n)) ≡ started f.deeds = ap (λ o. started (deeds_at o)) here in
        subst (λ y. started (deeds_at (frames y)) ≤ started (f.deeds ++ Does e ∷ [])) (same_name-eq n m q) (omega (arith, a, z))
    does_started m false q = omega arith

    does_none : (m : Name) (b : Bool) → same_name n m ≡ b → frames m ≡ None → cond b (Some after_does) (frames m) ≡ None
    does_none m true q none = absurd (there_not f (frames n) here (subst (λ y. frames y ≡ None) (sym (same_name-eq n m q)) none))
    does_none m false q none = none

    pub does_sized : (piece' : Name → Instance → View) → ((i : Instance) (m : Name) → piece' m i ≡ with_view (λ z. piece z i) n (view i) m) → Sized (after_deed frames n f (Does e)) piece' stolen (suc events)
    does_sized piece' is = record {
      own = own_does;
      total = total_does;
      small = λ m x i q. subst (Small (kind_of i) (own_does m)) (sym (is i m)) (does_small m (same_name n m) x i q);
      within = λ m. does_within m (same_name n m) refl;
      below = λ m. let s = sized in let a = s.below m in let u = under_least m n in omega (arith, a, u);
      paid = λ m x q. does_paid m (same_name n m) x refl q;
      fresh = λ m q. does_fresh m (same_name n m) q;
      late = λ m k low.
          let s = sized in
          let more = does_started m (same_name n m) refl in
          does_none (m ++ k ∷ []) (same_name n (m ++ k ∷ [])) refl (s.late m k (omega (arith, more, low)));
    }

  -- a frame that isn't waiting starts another
  module _ (settled : waiting false f.deeds ≡ false) (i' : Invocation) (w : FrameEnv) where
    abbrev kid_name : Name
    kid_name = n ++ suc (started f.deeds) ∷ []

    abbrev after_invokes : Frame FrameEnv
    after_invokes = record f { deeds = f.deeds ++ Invokes i' w ∷ [] }

    abbrev own_invokes : Name → ℕ
    own_invokes m = let s = sized in cond (same_name kid_name m) mine (s.own m)

    abbrev total_invokes : Name → ℕ
    total_invokes m = let s = sized in cond (same_name kid_name m) mine (s.total m + under m n)

    no_kid : frames kid_name ≡ None
    no_kid = let s = sized in s.late n (suc (started f.deeds)) (let z : started (deeds_at (frames n)) ≡ started f.deeds = ap (λ o. started (deeds_at o)) here in omega (arith, z))

    not_kid : (m : Name) → n ≡ m → kid_name ≡ m → ⊥
    not_kid m a b = let u = under_child n (suc (started f.deeds)) in let v = under_self n in let e : under kid_name n ≡ under n n = ap (λ z. under z n) (b ∙ sym a) in omega (arith, u, v, e)

    invokes_small : (m : Name) (c b : Bool) (x : Frame FrameEnv) (i : Instance) → same_name n m ≡ b → cond c (Some (begun w)) (cond b (Some after_invokes) (frames m)) ≡ Some x
        → Small (kind_of i) (let s = sized in cond c mine (s.own m)) (cond c (piece n i) (piece m i))
    invokes_small m true b x i e q = let s = sized in s.small n f i here
    invokes_small m false true x i e q = let s = sized in subst (λ z. Small (kind_of i) (s.own z) (piece z i)) (same_name-eq n m e) (s.small n f i here)
    invokes_small m false false x i e q = let s = sized in s.small m x i q

    invokes_within : (m : Name) (c : Bool) → (let s = sized in cond c mine (s.own m)) ≤ (let s = sized in cond c mine (s.total m + under m n))
    invokes_within m true = omega arith
    invokes_within m false = let s = sized in let a = s.within m in omega (arith, a)

    invokes_below : (m : Name) (c : Bool) → (let s = sized in cond c mine (s.total m + under m n)) ≤ suc events
    invokes_below m true = let s = sized in let a = s.within n in let b = s.below n in omega (arith, a, b)
    invokes_below m false = let s = sized in let a = s.below m in let u = under_least m n in omega (arith, a, u)

    other_kid : (m : Name) (k : ℕ) → (n ≡ m → suc (started f.deeds) ≡ k → ⊥) → (let s = sized in total_invokes (m ++ k ∷ []) ≡ s.total (m ++ k ∷ []) + under (m ++ k ∷ []) n)
    other_kid m k h = cond-false (same_name kid_name (m ++ k ∷ [])) _ _ (not_same kid_name (m ++ k ∷ []) (λ e. let t = snoc_name n m (suc (started f.deeds)) k e in h t.0 t.1))

    settled_pays : lies loose kids 0 1 f.deeds + mine ≤ all
    settled_pays = let on = onward_settled loose kids false mine mine 1 f.deeds (λ z. refl) settled in let h = paid_here in omega (arith, on, h)

    -- at the frame itself
    paid_mine : lies loose (λ k. total_invokes (n ++ k ∷ [])) 0 1 (f.deeds ++ Invokes i' w ∷ []) + onward loose (λ k. total_invokes (n ++ k ∷ [])) mine mine 1 (f.deeds ++ Invokes i' w ∷ []) ≤ all + under n n
    paid_mine =
        let s = sized in
        let j = suc (started f.deeds) in
        let off : loose j ≡ false = s.fresh kid_name no_kid in
        let now : total_invokes kid_name ≡ mine = cond-true (same_name kid_name kid_name) mine _ (same_name-refl kid_name) in
        let old = same_lies loose loose kids (λ k. total_invokes (n ++ k ∷ [])) 0 1 f.deeds (λ h low. (refl, let o = other_kid n h (λ a b. omega (arith, low, b)) in let u = under_child n h in omega (arith, o, u))) in
        let more = lies_invokes loose (λ k. total_invokes (n ++ k ∷ [])) 0 1 j f.deeds i' w (omega arith) in
        let none : cond (loose j) (total_invokes kid_name) 0 ≡ 0 = cond-false (loose j) _ _ off in
        let on = onward_invokes loose (λ k. total_invokes (n ++ k ∷ [])) mine mine 1 j f.deeds i' w (omega arith) in
        let onto : cond (loose j) mine (total_invokes kid_name) ≡ total_invokes kid_name = cond-false (loose j) _ _ off in
        let h = settled_pays in
        omega (arith, now, old, more, none, on, onto, h)

    invokes_paid : (m : Name) (c b : Bool) (x : Frame FrameEnv) → same_name kid_name m ≡ c → same_name n m ≡ b → cond c (Some (begun w)) (cond b (Some after_invokes) (frames m)) ≡ Some x
        → lies (λ k. stolen (m ++ k ∷ [])) (λ k. total_invokes (m ++ k ∷ [])) 0 1 x.deeds
        + onward (λ k. stolen (m ++ k ∷ [])) (λ k. total_invokes (m ++ k ∷ [])) (let s = sized in cond c mine (s.own m)) (let s = sized in cond c mine (s.own m)) 1 x.deeds ≤ (let s = sized in cond c mine (s.total m + under m n))
    invokes_paid m true b x p e q =
        let none : [] ≡ x.deeds = ap deeds_at q in
        subst (λ d. lies (λ k. stolen (m ++ k ∷ [])) (λ k. total_invokes (m ++ k ∷ [])) 0 1 d + onward (λ k. stolen (m ++ k ∷ [])) (λ k. total_invokes (m ++ k ∷ [])) mine mine 1 d ≤ mine) none (omega arith)
    invokes_paid m false true x p e q =
        let s = sized in
        let is : f.deeds ++ Invokes i' w ∷ [] ≡ x.deeds = ap deeds_at q in
        subst (λ z. lies (λ k. stolen (z ++ k ∷ [])) (λ k. total_invokes (z ++ k ∷ [])) 0 1 x.deeds + onward (λ k. stolen (z ++ k ∷ [])) (λ k. total_invokes (z ++ k ∷ [])) (s.own z) (s.own z) 1 x.deeds ≤ s.total z + under z n) (same_name-eq n m e)
        (subst (λ d. lies loose (λ k. total_invokes (n ++ k ∷ [])) 0 1 d + onward loose (λ k. total_invokes (n ++ k ∷ [])) mine mine 1 d ≤ all + under n n) is paid_mine)
    invokes_paid m false false x p e q =
        let s = sized in
        let paid = s.paid m x q in
        let most = grown_most (λ k. stolen (m ++ k ∷ [])) (λ k. s.total (m ++ k ∷ [])) (λ k. total_invokes (m ++ k ∷ [])) (s.own m) (way m n) (under m n)
        (λ h. let z = under_way m n h in let o = other_kid m h (λ a b. true≢false (sym (ap (same_name n) (sym a) ∙ same_name-refl n) ∙ e)) in omega (arith, z, o)) x.deeds in
        omega (arith, paid, most)

    invokes_fresh : (m : Name) (c b : Bool) → cond c (Some (begun w)) (cond b (Some after_invokes) (frames m)) ≡ None → stolen m ≡ false
    invokes_fresh m true b q = let z : Some (begun w) ≡ None = q in absurd (let w : ⊥ = cc in w)
    invokes_fresh m false true q = let z : Some after_invokes ≡ None = q in absurd (let w : ⊥ = cc in w)
    invokes_fresh m false false q = let s = sized in s.fresh m q

    invokes_started : (m : Name) (c b : Bool) → same_name kid_name m ≡ c → same_name n m ≡ b
        → (started (deeds_at (frames m)) ≤ started (deeds_at (cond c (Some (begun w)) (cond b (Some after_invokes) (frames m))))) × (n ≡ m → started (deeds_at (cond c (Some (begun w)) (cond b (Some after_invokes) (frames m)))) ≡ suc (started f.deeds))
    invokes_started m true b p e =
        let z : started (deeds_at (frames m)) ≡ 0 = ap (λ o. started (deeds_at o)) (ap frames (sym (same_name-eq kid_name m p)) ∙ no_kid) in
        (omega (arith, z), λ a. absurd (not_kid m a (same_name-eq kid_name m p)))
    invokes_started m false true p e =
        let a = started_invokes f.deeds i' w in
        let z : started (deeds_at (frames m)) ≡ started f.deeds = ap (λ o. started (deeds_at o)) (ap frames (sym (same_name-eq n m e)) ∙ here) in
        (omega (arith, a, z), λ q. a)
    invokes_started m false false p e = (omega arith, λ a. absurd (true≢false (sym (ap (same_name n) (sym a) ∙ same_name-refl n) ∙ e)))

    invokes_none : (m : Name) (c b : Bool) → same_name kid_name m ≡ c → same_name n m ≡ b → (kid_name ≡ m → ⊥) → frames m ≡ None → cond c (Some (begun w)) (cond b (Some after_invokes) (frames m)) ≡ None
    invokes_none m true b p e not none = absurd (not (same_name-eq kid_name m p))
    invokes_none m false true p e not none = absurd (there_not f (frames n) here (subst (λ y. frames y ≡ None) (sym (same_name-eq n m e)) none))
    invokes_none m false false p e not none = none

    pub invokes_sized : (piece' : Name → Instance → View) → ((i : Instance) (m : Name) → piece' m i ≡ with_view (λ z. piece z i) kid_name (piece n i) m) → Sized (after_deed frames n f (Invokes i' w)) piece' stolen (suc events)
    invokes_sized piece' is = record {
      own = own_invokes;
      total = total_invokes;
      small = λ m x i q. subst (Small (kind_of i) (own_invokes m)) (sym (is i m)) (invokes_small m (same_name kid_name m) (same_name n m) x i refl q);
      within = λ m. invokes_within m (same_name kid_name m);
      below = λ m. invokes_below m (same_name kid_name m);
      paid = λ m x q. invokes_paid m (same_name kid_name m) (same_name n m) x refl refl q;
      fresh = λ m q. invokes_fresh m (same_name kid_name m) (same_name n m) q;
      late = λ m k low.
          let s = sized in
          let more = invokes_started m (same_name kid_name m) (same_name n m) refl refl in
          invokes_none (m ++ k ∷ []) (same_name kid_name (m ++ k ∷ [])) (same_name n (m ++ k ∷ [])) refl refl
          (λ e. let t = snoc_name n m (suc (started f.deeds)) k e in let y = more.1 t.0 in let z = t.1 in omega (arith, y, z, low))
          (s.late m k (let y = more.0 in omega (arith, y, low)));
    }

  -- a thief steals the continuation beside the last child
  module _ (before : List (Deed FrameEnv)) (what : FrameEnv) (spawned : f.deeds ≡ before ++ Invokes Spawn what ∷ []) (not_yet : stolen (n ++ suc (started before) ∷ []) ≡ false) where
    abbrev taken_name : Name
    taken_name = n ++ suc (started before) ∷ []

    abbrev pub stolen_now : Name → Bool
    stolen_now m = cond (same_name taken_name m) true (stolen m)

    abbrev own_steals : Name → ℕ
    own_steals m = let s = sized in cond (same_name n m) 0 (s.own m)

    steals_small : (m : Name) (b : Bool) (x : Frame FrameEnv) (i : Instance) → frames m ≡ Some x → Small (kind_of i) (let s = sized in cond b 0 (s.own m)) (cond b ((views_of (kind_of i)).unit) (piece m i))
    steals_small m true x i q = small_unit (kind_of i) 0
    steals_small m false x i q = let s = sized in s.small m x i q

    steals_within : (m : Name) (b : Bool) → (let s = sized in cond b 0 (s.own m)) ≤ (let s = sized in s.total m)
    steals_within m true = omega arith
    steals_within m false = let s = sized in s.within m

    kept : (m : Name) (k : ℕ) → (n ≡ m → suc (started before) ≡ k → ⊥) → stolen_now (m ++ k ∷ []) ≡ stolen (m ++ k ∷ [])
    kept m k h = cond-false (same_name taken_name (m ++ k ∷ [])) _ _ (not_same taken_name (m ++ k ∷ []) (λ e. let t = snoc_name n m (suc (started before)) k e in h t.0 t.1))

    paid_taken : lies (λ k. stolen_now (n ++ k ∷ [])) kids 0 1 (before ++ Invokes Spawn what ∷ []) + onward (λ k. stolen_now (n ++ k ∷ [])) kids 0 0 1 (before ++ Invokes Spawn what ∷ []) ≤ all
    paid_taken =
        let j = suc (started before) in
        let gone : stolen_now taken_name ≡ true = cond-true (same_name taken_name taken_name) true _ (same_name-refl taken_name) in
        let old = same_lies loose (λ k. stolen_now (n ++ k ∷ [])) kids kids 0 1 before (λ h low. (kept n h (λ a b. omega (arith, low, b)), refl)) in
        let more = lies_invokes (λ k. stolen_now (n ++ k ∷ [])) kids 0 1 j before Spawn what (omega arith) in
        let add : cond (stolen_now taken_name) (kids j) 0 ≡ kids j = cond-true (stolen_now taken_name) _ _ gone in
        let on = onward_invokes (λ k. stolen_now (n ++ k ∷ [])) kids 0 0 1 j before Spawn what (omega arith) in
        let none : cond (stolen_now taken_name) 0 (kids j) ≡ 0 = cond-true (stolen_now taken_name) _ _ gone in
        let was = onward_invokes loose kids mine mine 1 j before Spawn what (omega arith) in
        let so : cond (loose j) mine (kids j) ≡ kids j = cond-false (loose j) _ _ not_yet in
        let least = lies_least loose kids 0 1 before Spawn what in
        let h = subst (λ d. lies loose kids 0 1 d + onward loose kids mine mine 1 d ≤ all) spawned paid_here in
        omega (arith, old, more, add, on, none, was, so, least, h)

    steals_paid : (m : Name) (b : Bool) (x : Frame FrameEnv) → same_name n m ≡ b → frames m ≡ Some x
        → lies (λ k. stolen_now (m ++ k ∷ [])) (λ k. let s = sized in s.total (m ++ k ∷ [])) 0 1 x.deeds
        + onward (λ k. stolen_now (m ++ k ∷ [])) (λ k. let s = sized in s.total (m ++ k ∷ [])) (let s = sized in cond b 0 (s.own m)) (let s = sized in cond b 0 (s.own m)) 1 x.deeds ≤ (let s = sized in s.total m)
    steals_paid m true x e q =
        let s = sized in
        let same : f.deeds ≡ x.deeds = ap deeds_at (sym here ∙ ap frames (same_name-eq n m e) ∙ q) in
        let is : before ++ Invokes Spawn what ∷ [] ≡ x.deeds = sym spawned ∙ same in
        subst (λ z. lies (λ k. stolen_now (z ++ k ∷ [])) (λ k. s.total (z ++ k ∷ [])) 0 1 x.deeds + onward (λ k. stolen_now (z ++ k ∷ [])) (λ k. s.total (z ++ k ∷ [])) 0 0 1 x.deeds ≤ s.total z) (same_name-eq n m e)
        (subst (λ d. lies (λ k. stolen_now (n ++ k ∷ [])) kids 0 1 d + onward (λ k. stolen_now (n ++ k ∷ [])) kids 0 0 1 d ≤ all) is paid_taken)
    steals_paid m false x e q =
        let s = sized in
        let paid = s.paid m x q in
        let kept_all : (h : ℕ) → h < 1 + started x.deeds → (stolen_now (m ++ h ∷ []) ≡ stolen (m ++ h ∷ [])) × (s.total (m ++ h ∷ []) ≡ s.total (m ++ h ∷ [])) =
        λ h low. (kept m h (λ a b. true≢false (sym (ap (same_name n) (sym a) ∙ same_name-refl n) ∙ e)), refl) in
        let one = same_lies (λ k. stolen (m ++ k ∷ [])) (λ k. stolen_now (m ++ k ∷ [])) (λ k. s.total (m ++ k ∷ [])) (λ k. s.total (m ++ k ∷ [])) 0 1 x.deeds kept_all in
        let two = same_onward (λ k. stolen (m ++ k ∷ [])) (λ k. stolen_now (m ++ k ∷ [])) (λ k. s.total (m ++ k ∷ [])) (λ k. s.total (m ++ k ∷ [])) (s.own m) (s.own m) 1 x.deeds kept_all in
        omega (arith, paid, one, two)

    steals_fresh : (m : Name) → frames m ≡ None → stolen_now m ≡ false
    steals_fresh m q =
        let s = sized in
        let few : started f.deeds ≡ suc (started before) = ap started spawned ∙ started_invokes before Spawn what in
        let kid = children (suc (started before)) (omega arith) (omega (arith, few)) in
        cond-false (same_name taken_name m) _ _ (not_same taken_name m (λ e. there_not kid.0 (frames taken_name) kid.1 (ap frames e ∙ q))) ∙ s.fresh m q

    pub steals_sized : (piece' : Name → Instance → View) → ((i : Instance) (m : Name) → piece' m i ≡ with_view (λ z. piece z i) n ((views_of (kind_of i)).unit) m) → Sized frames piece' stolen_now events
    steals_sized piece' is = let s = sized in record {
      own = own_steals;
      total = s.total;
      small = λ m x i q. subst (Small (kind_of i) (own_steals m)) (sym (is i m)) (steals_small m (same_name n m) x i q);
      within = λ m. steals_within m (same_name n m);
      below = s.below;
      paid = λ m x q. steals_paid m (same_name n m) x refl q;
      fresh = steals_fresh;
      late = s.late;
    }

  -- ---- one more deed, by the frame's ask
  kid_small : (i : Instance) (k : ℕ) → 1 ≤ k → k ≤ started f.deeds → Small (kind_of i) (kids k) (piece (n ++ k ∷ []) i)
  kid_small i k low high =
      let s = sized in
      let c = children k low high in
      small_more (kind_of i) (s.own (n ++ k ∷ [])) (kids k) (piece (n ++ k ∷ []) i) (s.within (n ++ k ∷ [])) (s.small (n ++ k ∷ []) c.0 i c.1)

  own_small : (i : Instance) → Small (kind_of i) mine (piece n i)
  own_small i = let s = sized in s.small n f i here

  abbrev block : Instance → View
  block i = block_view (monoid_of i) (λ k. piece (n ++ k ∷ []) i) loose ((views_of (kind_of i)).unit) 1 f.deeds

  abbrev viewed : Event → Instance → View
  viewed e i = own_view (monoid_of i) i (block i) (loose (started f.deeds)) (piece (n ++ started f.deeds ∷ []) i) e (piece n i)

  abbrev AfterDeed : Deed FrameEnv → Type 0
  AfterDeed d = (piece' : Name → Instance → View) → ((i : Instance) (m : Name) → piece' m i ≡ after_views (monoid_of i) i stolen n f.deeds d (λ z. piece z i) m) → Sized (after_deed frames n f d) piece' stolen (suc events)

  plain_sized : waiting false f.deeds ≡ false → (e : Event) → ((i : Instance) → Small (kind_of i) (suc mine) (viewed e i)) → AfterDeed (Does e)
  plain_sized settled e fits = does_sized e mine (viewed e) fits (let h = settled_pays settled Spawn f.what in let l = lies_does loose kids 0 1 f.deeds e in omega (arith, h, l))

  more_small : (i : Instance) → Small (kind_of i) (suc mine) (piece n i)
  more_small i = small_more (kind_of i) mine (suc mine) (piece n i) (omega arith) (own_small i)

  more_joined : (i : Instance) (x : ℤ) → IsWord x → Small (kind_of i) (suc mine) ((views_of (kind_of i)).combine (piece n i) ((views_of (kind_of i)).single x))
  more_joined i x word = small_join (kind_of i) mine 1 (suc mine) (piece n i) ((views_of (kind_of i)).single x) (own_small i) (small_single (kind_of i) 0 x word) (omega arith)

  wish_sized : (number : Instance → ℤ) (a : Wish) → WishIsSound a (started f.deeds) → is_resume (Pass a) ≡ waiting false f.deeds → AfterDeed (Does (Passes (mark_of number a)))
  wish_sized number Begin s q = plain_sized (sym q) (Passes (mark_of number Begin)) more_small
  wish_sized number (Create j) s q = plain_sized (sym q) (Passes (mark_of number (Create j))) (λ i. small_cond (kind_of i) (same_instance j i) (suc mine) ((views_of (kind_of i)).unit) (piece n i) (small_unit (kind_of i) (suc mine)) (more_small i))
  wish_sized number (Update j x) s q =
      plain_sized (sym q) (Passes (mark_of number (Update j x))) (λ i. small_cond (kind_of i) (same_instance j i) (suc mine) ((views_of (kind_of i)).combine (piece n i) ((views_of (kind_of i)).single x)) (piece n i) (more_joined i x s) (more_small i))
  wish_sized number (Set j x) s q =
      plain_sized (sym q) (Passes (mark_of number (Set j x))) (λ i. small_cond (kind_of i) (same_instance j i) (suc mine) ((views_of (kind_of i)).single x) (piece n i) (small_single (kind_of i) mine x s) (more_small i))
  wish_sized number (Value j) s q = plain_sized (sym q) (Passes (mark_of number (Value j))) more_small
  wish_sized number (Print x) s q =
      plain_sized (sym q) (Passes (mark_of number (Print x))) (λ i. small_cond (kind_of i) (same_instance Output i) (suc mine) ((views_of (kind_of i)).combine (piece n i) ((views_of (kind_of i)).single x)) (piece n i) (more_joined i x s) (more_small i))
  wish_sized number Resume s q = does_sized (Passes Resumes) (cond (loose j) mine (kids j)) (viewed (Passes Resumes)) (λ i. by i (loose j)) pays
    where
      j : ℕ
      j = started f.deeds

      by : (i : Instance) (b : Bool) → Small (kind_of i) (suc (cond b mine (kids j))) (cond b (piece n i) (piece (n ++ j ∷ []) i))
      by i true = more_small i
      by i false = small_more (kind_of i) (kids j) (suc (kids j)) (piece (n ++ j ∷ []) i) (omega arith) (kid_small i j s (omega arith))

      pays : lies loose kids 0 1 (f.deeds ++ Does (Passes Resumes) ∷ []) + cond (loose j) mine (kids j) ≤ all
      pays =
          let on = onward_waiting loose kids false mine mine 1 j f.deeds (λ z. absurd (true≢false (sym z))) (omega arith) (sym q) in
          let l = lies_does loose kids 0 1 f.deeds (Passes Resumes) in
          let h = paid_here in
          omega (arith, on, l, h)

  pub ask_sized : (memory : Cell → ℤ) (number : Instance → ℤ) (a : Ask FrameEnv) → AskIsSound a f.deeds → is_resume a ≡ waiting false f.deeds → AfterDeed (deed_of memory number a)
  ask_sized memory number (Read c) s q = plain_sized (sym q) (Reads c (memory c)) more_small
  ask_sized memory number (Write c v) s q = plain_sized (sym q) (Writes c v) more_small
  ask_sized memory number (Invoke k w) s q = invokes_sized (sym q) k w
  ask_sized memory number Sync s q =
      does_sized Syncs (lies loose kids 0 1 f.deeds + mine) (viewed Syncs)
      (λ i. small_join (kind_of i) (lies loose kids 0 1 f.deeds) mine (suc (lies loose kids 0 1 f.deeds + mine)) (block i) (piece n i)
      (block_small (kind_of i) (λ k. piece (n ++ k ∷ []) i) loose kids ((views_of (kind_of i)).unit) 0 1 f.deeds (small_unit (kind_of i) 0) (λ h low high. kid_small i h low (omega (arith, high))))
      (own_small i) (omega arith))
      (let h = settled_pays (sym q) Spawn f.what in let l = lies_sync loose kids 0 1 f.deeds in omega (arith, h, l))
  ask_sized memory number (End v gone) s q =
      plain_sized (sym q) (Ends v gone) (λ i. small_cond (kind_of i) (has_instance gone i) (suc mine) ((views_of (kind_of i)).unit) (piece n i) (small_unit (kind_of i) (suc mine)) (more_small i))
  ask_sized memory number (Pass a) s q = wish_sized number a s q
  ask_sized memory number (Fail x) s q = plain_sized (sym q) (Passes Begins) more_small

-- ---- words

number_small : (x : ViewValue) (b : ℕ) → IsMember Append x → size_of x ≤ b → b ≤ 1000000 → IsWord ((structure_of Append).number x)
number_small (Elements zs) b h low few = length_word (length zs) (omega (arith, low, few))
number_small (Number z) b h low few = absurd h
number_small (Map c d) b h low few = absurd h

-- the length of a list with so few elements is a word
pub number_word : (i : Instance) (b : ℕ) (v : View) → Small (kind_of i) b v → b ≤ 1000000 → kind_of i ≡ Append → IsWord ((monoid_of i).number v)
number_word i b v (x, h, low) few list =
    let m = are_multiplied in
    let same : (monoid_of i).number v ≡ (structure_of (kind_of i)).number x = m.number (kind_of i) v x h in
    subst IsWord (sym same) (subst (λ k. IsWord ((structure_of k).number x)) (sym list) (number_small x b (subst (λ k. IsMember k x) list h.member) low few))
