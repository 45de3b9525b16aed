-- The bounds that a frame passes on: those of the pieces at its open block, and that of the piece
-- it continues with.
--
-- - `lies`, `onward`: the two bounds, from bounds of the children's pieces and the frame's own;
-- - `grown_most`: how far they grow where one child's bound grows by one;
-- - `same_lies`, `lies_does`, `lies_sync`, `lies_invokes`, `onward_does`, `onward_invokes`,
--   `onward_settled`, `onward_waiting`: with one more deed;
-- - `under`: where an event of one frame is below another.
use Rattle.std.proofs.Common.{◌≡◌, ◌≤◌, ◌<◌, ◌+◌, ℕ, suc, Bool, true, false, true≢false, cond, List, [], ◌∷◌, ◌++◌, nat_eq, refl, sym, ap, ◌∙◌, subst, arith, eq-eqb, eqb-true}
use Rattle.cilk_types.specs.declared.invocation.Invocation.{Invocation}
use Rattle.cilk_types.specs.declared.invocation.Invocation.TheVariants.{Call, Spawn}
use Rattle.cilk_determinacy.specs.Runs.{Name, Event, Reads, Writes, Syncs, Ends, Passes, Deed, Does, Invokes}
use Rattle.cilk_determinacy.specs.Machine.{started}
use Rattle.cilk_determinacy.specs.FrameEnvs.{FrameEnv}

-- the last deed started a frame
abbrev pub waiting : Bool → List (Deed FrameEnv) → Bool
waiting b [] = b
waiting b (Does e ∷ ds) = waiting false ds
waiting b (Invokes i w ∷ ds) = waiting true ds

pub waiting_does : (b : Bool) (ds : List (Deed FrameEnv)) (e : Event) → waiting b (ds ++ Does e ∷ []) ≡ false
waiting_does b [] e = refl
waiting_does b (Does x ∷ ds) e = waiting_does false ds e
waiting_does b (Invokes i w ∷ ds) e = waiting_does true ds e

pub waiting_invokes : (b : Bool) (ds : List (Deed FrameEnv)) (i : Invocation) (w : FrameEnv) → waiting b (ds ++ Invokes i w ∷ []) ≡ true
waiting_invokes b [] i w = refl
waiting_invokes b (Does x ∷ ds) i w = waiting_invokes false ds i w
waiting_invokes b (Invokes j v ∷ ds) i w = waiting_invokes true ds i w

module _ (loose : ℕ → Bool) (t : ℕ → ℕ) where
  -- bounds of the pieces at the open block
  abbrev pub lies : ℕ → ℕ → List (Deed FrameEnv) → ℕ
  lies acc k [] = acc
  lies acc k (Does (Reads c v) ∷ ds) = lies acc k ds
  lies acc k (Does (Writes c v) ∷ ds) = lies acc k ds
  lies acc k (Does Syncs ∷ ds) = lies 0 k ds
  lies acc k (Does (Ends v gone) ∷ ds) = lies acc k ds
  lies acc k (Does (Passes m) ∷ ds) = lies acc k ds
  lies acc k (Invokes Call w ∷ ds) = lies acc (suc k) ds
  lies acc k (Invokes Spawn w ∷ ds) = lies (cond (loose k) (acc + t k) acc) (suc k) ds

  -- a bound of the piece that the frame continues with: its own, or that of a child that it waits
  -- for
  abbrev pub onward : ℕ → ℕ → ℕ → List (Deed FrameEnv) → ℕ
  onward c now k [] = now
  onward c now k (Does e ∷ ds) = onward c c k ds
  onward c now k (Invokes i w ∷ ds) = onward c (cond (loose k) c (t k)) (suc k) ds

  pub onward_does : (c now k : ℕ) (ds : List (Deed FrameEnv)) (e : Event) → onward c now k (ds ++ Does e ∷ []) ≡ c
  onward_does c now k [] e = refl
  onward_does c now k (Does x ∷ ds) e = onward_does c c k ds e
  onward_does c now k (Invokes i w ∷ ds) e = onward_does c (cond (loose k) c (t k)) (suc k) ds e

  pub onward_invokes : (c now k j : ℕ) (ds : List (Deed FrameEnv)) (i : Invocation) (w : FrameEnv) → k + started ds ≡ j → onward c now k (ds ++ Invokes i w ∷ []) ≡ cond (loose j) c (t j)
  onward_invokes c now k j [] i w q = let e : k ≡ j = omega (arith, q) in ap (λ k. cond (loose k) c (t k)) e
  onward_invokes c now k j (Does x ∷ ds) i w q = onward_invokes c c k j ds i w q
  onward_invokes c now k j (Invokes h v ∷ ds) i w q = onward_invokes c (cond (loose k) c (t k)) (suc k) j ds i w (omega (arith, q))

  pub onward_settled : (b : Bool) (c now k : ℕ) (ds : List (Deed FrameEnv)) → (b ≡ false → now ≡ c) → waiting b ds ≡ false → onward c now k ds ≡ c
  onward_settled b c now k [] g h = g h
  onward_settled b c now k (Does x ∷ ds) g h = onward_settled false c c k ds (λ z. refl) h
  onward_settled b c now k (Invokes i v ∷ ds) g h = onward_settled true c (cond (loose k) c (t k)) (suc k) ds (λ z. absurd (true≢false z)) h

  pub onward_waiting : (b : Bool) (c now k j : ℕ) (ds : List (Deed FrameEnv)) → (b ≡ true → (last : ℕ) → suc last ≡ k → now ≡ cond (loose last) c (t last)) → suc j ≡ k + started ds → waiting b ds ≡ true
      → onward c now k ds ≡ cond (loose j) c (t j)
  onward_waiting b c now k j [] g q h = g h j (omega (arith, q))
  onward_waiting b c now k j (Does x ∷ ds) g q h = onward_waiting false c c k j ds (λ z. absurd (true≢false (sym z))) q h
  onward_waiting b c now k j (Invokes i v ∷ ds) g q h =
      onward_waiting true c (cond (loose k) c (t k)) (suc k) j ds (λ z last r. let e : k ≡ last = omega (arith, r) in ap (λ k. cond (loose k) c (t k)) e) (omega (arith, q)) h

  pub lies_does : (acc k : ℕ) (ds : List (Deed FrameEnv)) (e : Event) → lies acc k (ds ++ Does e ∷ []) ≤ lies acc k ds
  lies_does acc k [] (Reads c v) = omega arith
  lies_does acc k [] (Writes c v) = omega arith
  lies_does acc k [] Syncs = omega arith
  lies_does acc k [] (Ends v gone) = omega arith
  lies_does acc k [] (Passes m) = omega arith
  lies_does acc k (Does (Reads c v) ∷ ds) e = lies_does acc k ds e
  lies_does acc k (Does (Writes c v) ∷ ds) e = lies_does acc k ds e
  lies_does acc k (Does Syncs ∷ ds) e = lies_does 0 k ds e
  lies_does acc k (Does (Ends v gone) ∷ ds) e = lies_does acc k ds e
  lies_does acc k (Does (Passes m) ∷ ds) e = lies_does acc k ds e
  lies_does acc k (Invokes Call w ∷ ds) e = lies_does acc (suc k) ds e
  lies_does acc k (Invokes Spawn w ∷ ds) e = lies_does (cond (loose k) (acc + t k) acc) (suc k) ds e

  pub lies_sync : (acc k : ℕ) (ds : List (Deed FrameEnv)) → lies acc k (ds ++ Does Syncs ∷ []) ≡ 0
  lies_sync acc k [] = refl
  lies_sync acc k (Does (Reads c v) ∷ ds) = lies_sync acc k ds
  lies_sync acc k (Does (Writes c v) ∷ ds) = lies_sync acc k ds
  lies_sync acc k (Does Syncs ∷ ds) = lies_sync 0 k ds
  lies_sync acc k (Does (Ends v gone) ∷ ds) = lies_sync acc k ds
  lies_sync acc k (Does (Passes m) ∷ ds) = lies_sync acc k ds
  lies_sync acc k (Invokes Call w ∷ ds) = lies_sync acc (suc k) ds
  lies_sync acc k (Invokes Spawn w ∷ ds) = lies_sync (cond (loose k) (acc + t k) acc) (suc k) ds

  pub lies_invokes : (acc k j : ℕ) (ds : List (Deed FrameEnv)) (i : Invocation) (w : FrameEnv) → k + started ds ≡ j → lies acc k (ds ++ Invokes i w ∷ []) ≤ lies acc k ds + cond (loose j) (t j) 0
  lies_invokes acc k j [] Call w q = omega arith
  lies_invokes acc k j [] Spawn w q = let e : k ≡ j = omega (arith, q) in subst (λ j. cond (loose k) (acc + t k) acc ≤ acc + cond (loose j) (t j) 0) e (by (loose k))
    where
      by : (b : Bool) → cond b (acc + t k) acc ≤ acc + cond b (t k) 0
      by true = omega arith
      by false = omega arith
  lies_invokes acc k j (Does (Reads c v) ∷ ds) i w q = lies_invokes acc k j ds i w q
  lies_invokes acc k j (Does (Writes c v) ∷ ds) i w q = lies_invokes acc k j ds i w q
  lies_invokes acc k j (Does Syncs ∷ ds) i w q = lies_invokes 0 k j ds i w q
  lies_invokes acc k j (Does (Ends v gone) ∷ ds) i w q = lies_invokes acc k j ds i w q
  lies_invokes acc k j (Does (Passes m) ∷ ds) i w q = lies_invokes acc k j ds i w q
  lies_invokes acc k j (Invokes Call v ∷ ds) i w q = lies_invokes acc (suc k) j ds i w (omega (arith, q))
  lies_invokes acc k j (Invokes Spawn v ∷ ds) i w q = lies_invokes (cond (loose k) (acc + t k) acc) (suc k) j ds i w (omega (arith, q))

  pub lies_least : (acc k : ℕ) (ds : List (Deed FrameEnv)) (i : Invocation) (w : FrameEnv) → lies acc k ds ≤ lies acc k (ds ++ Invokes i w ∷ [])
  lies_least acc k [] Call w = omega arith
  lies_least acc k [] Spawn w = by (loose k)
    where
      by : (b : Bool) → acc ≤ cond b (acc + t k) acc
      by true = omega arith
      by false = omega arith
  lies_least acc k (Does (Reads c v) ∷ ds) i w = lies_least acc k ds i w
  lies_least acc k (Does (Writes c v) ∷ ds) i w = lies_least acc k ds i w
  lies_least acc k (Does Syncs ∷ ds) i w = lies_least 0 k ds i w
  lies_least acc k (Does (Ends v gone) ∷ ds) i w = lies_least acc k ds i w
  lies_least acc k (Does (Passes m) ∷ ds) i w = lies_least acc k ds i w
  lies_least acc k (Invokes Call v ∷ ds) i w = lies_least acc (suc k) ds i w
  lies_least acc k (Invokes Spawn v ∷ ds) i w = lies_least (cond (loose k) (acc + t k) acc) (suc k) ds i w

-- with more bounds, and the same continuations stolen
module _ (loose : ℕ → Bool) (t t' : ℕ → ℕ) (c j u : ℕ) where
  most_added : (b : Bool) (a a' x x' n : ℕ) → a' ≤ a + n → x' ≤ x → cond b (a' + x') a' ≤ cond b (a + x) a + n
  most_added true a a' x x' n h g = omega (arith, h, g)
  most_added false a a' x x' n h g = omega (arith, h)

  both_added : (b : Bool) (a a' x x' n : ℕ) → a' ≤ a + n → x' ≤ x → cond b (a' + x') a' + cond b c x' ≤ cond b (a + x) a + cond b c x + n
  both_added true a a' x x' n h g = omega (arith, h, g)
  both_added false a a' x x' n h g = omega (arith, h, g)

  alone_added : (b : Bool) (a a' x x' n : ℕ) → a' ≤ a + n → x' ≤ x → a' + cond b c x' ≤ a + cond b c x + n
  alone_added true a a' x x' n h g = omega (arith, h, g)
  alone_added false a a' x x' n h g = omega (arith, h, g)

  past_most : (acc acc' now now' k : ℕ) (ds : List (Deed FrameEnv)) → ((h : ℕ) → k ≤ h → t' h ≤ t h) → acc' ≤ acc + u → acc' + now' ≤ acc + now + u
      → lies loose t' acc' k ds + onward loose t' c now' k ds ≤ lies loose t acc k ds + onward loose t c now k ds + u
  past_most acc acc' now now' k [] g a b = b
  past_most acc acc' now now' k (Does (Reads x v) ∷ ds) g a b = past_most acc acc' c c k ds g a (omega (arith, a))
  past_most acc acc' now now' k (Does (Writes x v) ∷ ds) g a b = past_most acc acc' c c k ds g a (omega (arith, a))
  past_most acc acc' now now' k (Does Syncs ∷ ds) g a b = past_most 0 0 c c k ds g (omega arith) (omega arith)
  past_most acc acc' now now' k (Does (Ends v gone) ∷ ds) g a b = past_most acc acc' c c k ds g a (omega (arith, a))
  past_most acc acc' now now' k (Does (Passes m) ∷ ds) g a b = past_most acc acc' c c k ds g a (omega (arith, a))
  past_most acc acc' now now' k (Invokes Call w ∷ ds) g a b =
      past_most acc acc' (cond (loose k) c (t k)) (cond (loose k) c (t' k)) (suc k) ds (λ h low. g h (omega (arith, low))) a (alone_added (loose k) acc acc' (t k) (t' k) u a (g k (omega arith)))
  past_most acc acc' now now' k (Invokes Spawn w ∷ ds) g a b =
      past_most (cond (loose k) (acc + t k) acc) (cond (loose k) (acc' + t' k) acc') (cond (loose k) c (t k)) (cond (loose k) c (t' k)) (suc k) ds (λ h low. g h (omega (arith, low)))
      (most_added (loose k) acc acc' (t k) (t' k) u a (g k (omega arith))) (both_added (loose k) acc acc' (t k) (t' k) u a (g k (omega arith)))

  here_alone : (b : Bool) (a x x' : ℕ) → x' ≤ x + u → a + cond b c x' ≤ a + cond b c x + u
  here_alone true a x x' g = omega (arith, g)
  here_alone false a x x' g = omega (arith, g)

  module _ (most : (h : ℕ) → t' h ≤ t h + cond (nat_eq h j) u 0) where
    other : (h : ℕ) → nat_eq h j ≡ false → t' h ≤ t h
    other h q = let m : t' h ≤ t h + 0 = subst (λ b. t' h ≤ t h + cond b u 0) q (most h) in omega (arith, m)

    here : (h : ℕ) → t' h ≤ t h + u
    here h = by (nat_eq h j) (most h)
      where
        by : (b : Bool) → t' h ≤ t h + cond b u 0 → t' h ≤ t h + u
        by true m = m
        by false m = omega (arith, m)

    later : (k h : ℕ) → nat_eq k j ≡ true → suc k ≤ h → t' h ≤ t h
    later k h q low = by (nat_eq h j) refl
      where
        by : (b : Bool) → nat_eq h j ≡ b → t' h ≤ t h
        by true e = let x : k ≡ j = eqb-true k j q in let y : h ≡ j = eqb-true h j e in absurd (omega (arith, x, y, low))
        by false e = other h e

    same_cond : (b : Bool) (x x' : ℕ) → x' ≤ x → cond b c x' ≤ cond b c x
    same_cond true x x' h = omega arith
    same_cond false x x' h = h

    same_added : (b : Bool) (a a' x x' : ℕ) → a' ≤ a → x' ≤ x → cond b (a' + x') a' ≤ cond b (a + x) a
    same_added true a a' x x' h g = omega (arith, h, g)
    same_added false a a' x x' h g = h

    grown_from : (acc acc' now now' k : ℕ) (ds : List (Deed FrameEnv)) → acc' ≤ acc → now' ≤ now → lies loose t' acc' k ds + onward loose t' c now' k ds ≤ lies loose t acc k ds + onward loose t c now k ds + u
    grown_from acc acc' now now' k [] a b = omega (arith, a, b)
    grown_from acc acc' now now' k (Does (Reads x v) ∷ ds) a b = grown_from acc acc' c c k ds a (omega arith)
    grown_from acc acc' now now' k (Does (Writes x v) ∷ ds) a b = grown_from acc acc' c c k ds a (omega arith)
    grown_from acc acc' now now' k (Does Syncs ∷ ds) a b = grown_from 0 0 c c k ds (omega arith) (omega arith)
    grown_from acc acc' now now' k (Does (Ends v gone) ∷ ds) a b = grown_from acc acc' c c k ds a (omega arith)
    grown_from acc acc' now now' k (Does (Passes m) ∷ ds) a b = grown_from acc acc' c c k ds a (omega arith)
    grown_from acc acc' now now' k (Invokes Call w ∷ ds) a b = by (nat_eq k j) refl (λ q. grown_from acc acc' (cond (loose k) c (t k)) (cond (loose k) c (t' k)) (suc k) ds a (same_cond (loose k) (t k) (t' k) (other k q)))
      where
        by : (b : Bool) → nat_eq k j ≡ b → (nat_eq k j ≡ false → lies loose t' acc' (suc k) ds + onward loose t' c (cond (loose k) c (t' k)) (suc k) ds ≤ lies loose t acc (suc k) ds + onward loose t c (cond (loose k) c (t k)) (suc k) ds + u) → lies loose t' acc' (suc k) ds + onward loose t' c (cond (loose k) c (t' k)) (suc k) ds ≤ lies loose t acc (suc k) ds + onward loose t c (cond (loose k) c (t k)) (suc k) ds + u
        by true q rest = past_most acc acc' (cond (loose k) c (t k)) (cond (loose k) c (t' k)) (suc k) ds (λ h low. later k h q low) (omega (arith, a)) (let e = here_alone (loose k) acc (t k) (t' k) (here k) in omega (arith, a, e))
        by false q rest = rest q
    grown_from acc acc' now now' k (Invokes Spawn w ∷ ds) a b =
        by (nat_eq k j) refl
        (λ q. grown_from (cond (loose k) (acc + t k) acc) (cond (loose k) (acc' + t' k) acc') (cond (loose k) c (t k)) (cond (loose k) c (t' k)) (suc k) ds
        (same_added (loose k) acc acc' (t k) (t' k) a (other k q)) (same_cond (loose k) (t k) (t' k) (other k q)))
      where
        whole : (b : Bool) → cond b (acc' + t' k) acc' + cond b c (t' k) ≤ cond b (acc + t k) acc + cond b c (t k) + u
        whole true = let e = here k in omega (arith, a, e)
        whole false = let e = here k in omega (arith, a, e)

        first : (b : Bool) → cond b (acc' + t' k) acc' ≤ cond b (acc + t k) acc + u
        first true = let e = here k in omega (arith, a, e)
        first false = omega (arith, a)

        by : (b : Bool) → nat_eq k j ≡ b → (nat_eq k j ≡ false → lies loose t' (cond (loose k) (acc' + t' k) acc') (suc k) ds + onward loose t' c (cond (loose k) c (t' k)) (suc k) ds ≤ lies loose t (cond (loose k) (acc + t k) acc) (suc k) ds + onward loose t c (cond (loose k) c (t k)) (suc k) ds + u) → lies loose t' (cond (loose k) (acc' + t' k) acc') (suc k) ds + onward loose t' c (cond (loose k) c (t' k)) (suc k) ds ≤ lies loose t (cond (loose k) (acc + t k) acc) (suc k) ds + onward loose t c (cond (loose k) c (t k)) (suc k) ds + u
        by true q rest =
            past_most (cond (loose k) (acc + t k) acc) (cond (loose k) (acc' + t' k) acc') (cond (loose k) c (t k)) (cond (loose k) c (t' k)) (suc k) ds (λ h low. later k h q low) (first (loose k)) (whole (loose k))
        by false q rest = rest q

    pub grown_most : (ds : List (Deed FrameEnv)) → lies loose t' 0 1 ds + onward loose t' c c 1 ds ≤ lies loose t 0 1 ds + onward loose t c c 1 ds + u
    grown_most ds = grown_from 0 0 c c 1 ds (omega arith) (omega arith)

-- the same continuations stolen below, and the same bounds
module _ (loose loose' : ℕ → Bool) (t t' : ℕ → ℕ) where
  pub same_lies : (acc k : ℕ) (ds : List (Deed FrameEnv)) → ((h : ℕ) → h < k + started ds → (loose' h ≡ loose h) × (t' h ≡ t h)) → lies loose' t' acc k ds ≡ lies loose t acc k ds
  same_lies acc k [] g = refl
  same_lies acc k (Does (Reads c v) ∷ ds) g = same_lies acc k ds g
  same_lies acc k (Does (Writes c v) ∷ ds) g = same_lies acc k ds g
  same_lies acc k (Does Syncs ∷ ds) g = same_lies 0 k ds g
  same_lies acc k (Does (Ends v gone) ∷ ds) g = same_lies acc k ds g
  same_lies acc k (Does (Passes m) ∷ ds) g = same_lies acc k ds g
  same_lies acc k (Invokes Call w ∷ ds) g = same_lies acc (suc k) ds (λ h low. g h (omega (arith, low)))
  same_lies acc k (Invokes Spawn w ∷ ds) g =
      let now = g k (omega arith) in
      ap (λ a. lies loose' t' a (suc k) ds) (ap (λ b. cond b (acc + t' k) acc) now.0 ∙ ap (λ x. cond (loose k) (acc + x) acc) now.1)
      ∙ same_lies (cond (loose k) (acc + t k) acc) (suc k) ds (λ h low. g h (omega (arith, low)))

  pub same_onward : (c now k : ℕ) (ds : List (Deed FrameEnv)) → ((h : ℕ) → h < k + started ds → (loose' h ≡ loose h) × (t' h ≡ t h)) → onward loose' t' c now k ds ≡ onward loose t c now k ds
  same_onward c now k [] g = refl
  same_onward c now k (Does e ∷ ds) g = same_onward c c k ds g
  same_onward c now k (Invokes i w ∷ ds) g =
      let one = g k (omega arith) in
      ap (λ a. onward loose' t' c a (suc k) ds) (ap (λ b. cond b c (t' k)) one.0 ∙ ap (λ x. cond (loose k) c x) one.1)
      ∙ same_onward c (cond (loose k) c (t k)) (suc k) ds (λ h low. g h (omega (arith, low)))

-- 1 where the event of the second frame is one of the first or of a frame below it, and else 0
abbrev pub under : Name → Name → ℕ
under [] n = 1
under (j ∷ m) [] = 0
under (j ∷ m) (k ∷ n) = cond (nat_eq j k) (under m n) 0

pub under_self : (n : Name) → under n n ≡ 1
under_self [] = refl
under_self (k ∷ n) = ap (λ b. cond b (under n n) 0) (eq-eqb k k refl) ∙ under_self n

pub under_child : (n : Name) (k : ℕ) → under (n ++ k ∷ []) n ≡ 0
under_child [] k = refl
under_child (j ∷ n) k = ap (λ b. cond b (under (n ++ k ∷ []) n) 0) (eq-eqb j j refl) ∙ under_child n k

pub under_least : (m n : Name) → under m n ≤ 1
under_least [] n = omega arith
under_least (j ∷ m) [] = omega arith
under_least (j ∷ m) (k ∷ n) = by (nat_eq j k) (under_least m n)
  where
    by : (b : Bool) → under m n ≤ 1 → cond b (under m n) 0 ≤ 1
    by true h = h
    by false h = omega arith

-- one child at most is on the way
abbrev pub way : Name → Name → ℕ
way [] [] = 0
way [] (h ∷ n) = h
way (j ∷ m) [] = 0
way (j ∷ m) (k ∷ n) = way m n

pub under_way : (m n : Name) (k : ℕ) → under (m ++ k ∷ []) n ≤ cond (nat_eq k (way m n)) (under m n) 0
under_way [] [] k = by (nat_eq k 0)
  where
    by : (b : Bool) → 0 ≤ cond b 1 0
    by b = omega arith
under_way [] (h ∷ n) k = by (nat_eq k h)
  where
    by : (b : Bool) → cond b 1 0 ≤ cond b 1 0
    by b = omega arith
under_way (j ∷ m) [] k = omega arith
under_way (j ∷ m) (h ∷ n) k = by (nat_eq j h) (under_way m n k)
  where
    by : (b : Bool) → under (m ++ k ∷ []) n ≤ cond (nat_eq k (way m n)) (under m n) 0 → cond b (under (m ++ k ∷ []) n) 0 ≤ cond (nat_eq k (way m n)) (cond b (under m n) 0) 0
    by true h = h
    by false h = omega arith
