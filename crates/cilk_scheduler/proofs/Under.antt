-- A frame's parent, by its deeds.
--
-- - `split_at`: the deed that started a child of an ordinal;
-- - `IsUnder`, `under_of`: a child that hasn't ended, and its parent;
-- - `last_of`, `more_started`, `none_after`: deeds after another.
use Rattle.std.proofs.Common.{◌≡◌, ◌⊎◌, inl, inr, ⊎_elim, ◌<◌, ◌≤◌, ℕ, zero, suc, nat_eq, eqb-true, Bool, true, false, true≢false, List, [], ◌∷◌, ◌++◌, Option, Some, None, refl, sym, ap, ◌∙◌, arith}
use Rattle.cilk_types.specs.declared.invocation.Invocation.{Invocation}
use Rattle.cilk_types.specs.declared.invocation.Invocation.TheVariants.{Spawn}
use Rattle.cilk_determinacy.specs.Machine.{Frame, State, deeds_at, started}
use Rattle.cilk_determinacy.specs.Progress.{HasNoSync, child_after}
use Rattle.cilk_determinacy.specs.Runs.{Name, Syncs, Deed, Does, Invokes}
use Rattle.cilk_determinacy.specs.FrameEnvMachine.{has_ended}
use Rattle.cilk_determinacy.specs.Reducers.{View}
use Rattle.cilk_determinacy.specs.FrameEnvs.{FrameEnv}
use Rattle.cilk_scheduler.specs.Parents.{OutliveChildren}
use Rattle.cilk_scheduler.proofs.Onward.{has_end}

-- the deed that started the child of this ordinal
pub record Split (ds : List (Deed FrameEnv)) (q : ℕ) : Type 0 where
  pub before : List (Deed FrameEnv)
  pub how : Invocation
  pub what : FrameEnv
  pub after : List (Deed FrameEnv)
  pub starts : ds ≡ before ++ Invokes how what ∷ after
  pub ordinal : q ≡ suc (started before)

pub split_at : (ds : List (Deed FrameEnv)) (q : ℕ) → 0 < q → q ≤ started ds → Split ds q
split_at [] q low most = absurd (omega (arith, low, most))
split_at (Does e ∷ ds) q low most = let r = split_at ds q low most in record { before = Does e ∷ r.before; how = r.how; what = r.what; after = r.after; starts = ap (λ l. Does e ∷ l) r.starts; ordinal = r.ordinal }
split_at (Invokes how w ∷ ds) q low most = by (nat_eq q 1) refl (λ z a b. split_at ds z a b)
  where
    by : (t : Bool) → nat_eq q 1 ≡ t → ((z : ℕ) → 0 < z → z ≤ started ds → Split ds z) → Split (Invokes how w ∷ ds) q
    by true e next = record { before = []; how = how; what = w; after = ds; starts = refl; ordinal = eqb-true q 1 e }
    by false e next =
        let two = two_or_more q low e in
        let z = two.0 in
        let is = two.1 in
        let pos = two.2 in
        let r = next z pos (omega (arith, is, most)) in
        record { before = Invokes how w ∷ r.before; how = r.how; what = r.what; after = r.after; starts = ap (λ l. Invokes how w ∷ l) r.starts; ordinal = is ∙ ap suc r.ordinal }
      where
        two_or_more : (q : ℕ) → 0 < q → nat_eq q 1 ≡ false → (z : ℕ) × (q ≡ suc z) × (0 < z)
        two_or_more zero l n = absurd (omega (arith, l))
        two_or_more (suc zero) l n = absurd (true≢false n)
        two_or_more (suc (suc z)) l n = (suc z, refl, omega arith)

-- a child that hasn't ended
pub record IsUnder (s : State FrameEnv View) (m : Name) (q : ℕ) : Type 0 where
  pub parent : Frame FrameEnv
  pub here : s.frames m ≡ Some parent
  pub goes : has_ended parent.deeds ≡ false
  pub before : List (Deed FrameEnv)
  pub how : Invocation
  pub what : FrameEnv
  pub after : List (Deed FrameEnv)
  pub starts : parent.deeds ≡ before ++ Invokes how what ∷ after
  pub ordinal : q ≡ suc (started before)
  pub spawned : s.stolen (m ++ q ∷ []) ≡ true → how ≡ Spawn
  pub since : (after ≡ []) ⊎ ((how ≡ Spawn) × HasNoSync after × (s.stolen (m ++ q ∷ []) ≡ true))

pub under_of : (s : State FrameEnv View) → OutliveChildren s → (m : Name) (q : ℕ) (f : Frame FrameEnv) → s.frames (m ++ q ∷ []) ≡ Some f → has_ended f.deeds ≡ false → IsUnder s m q
under_of s o m q f here going = by (s.frames m) refl
  where
    by : (found : Option (Frame FrameEnv)) → s.frames m ≡ found → IsUnder s m q
    by None e = let c = o.counted m q f here in let most = c.1 in let none : started (deeds_at (s.frames m)) ≡ 0 = ap (λ x. started (deeds_at x)) e in let low = c.0 in absurd (omega (arith, low, most, none))
    by (Some g) e =
        let c = o.counted m q f here in
        let most = c.1 in
        let same : started (deeds_at (s.frames m)) ≡ started g.deeds = ap (λ x. started (deeds_at x)) e in
        let r = split_at g.deeds q c.0 (omega (arith, most, same)) in
        let at : child_after m r.before ≡ m ++ q ∷ [] = ap (λ n. m ++ n ∷ []) (sym r.ordinal) in
        ⊎_elim
        (λ x. absurd (true≢false (sym (has_end s (child_after m r.before) x) ∙ ap (λ n. has_ended (deeds_at (s.frames n))) at ∙ ap (λ y. has_ended (deeds_at y)) here ∙ going)))
        (λ x. record {
          parent = g;
          here = e;
          goes = x.goes;
          before = r.before;
          how = r.how;
          what = r.what;
          after = r.after;
          starts = r.starts;
          ordinal = r.ordinal;
          spawned = λ y. o.spawned m g r.before r.how r.what r.after e r.starts (ap s.stolen at ∙ y);
          since = ⊎_elim (λ y. inl y) (λ y. inr (y.0, y.1, ap s.stolen (sym at) ∙ y.2)) x.since;
        }) (o.outlive m g r.before r.how r.what r.after e r.starts)

-- ---- deeds after another

pub none_after : HasNoSync {W = FrameEnv} []
none_after [] after e = let z : [] ≡ Does Syncs ∷ after = e in cc
none_after (b ∷ before) after e = let z : [] ≡ b ∷ (before ++ Does Syncs ∷ after) = e in cc

pub last_of : (ds : List (Deed FrameEnv)) → (ds ≡ []) ⊎ ((xs : List (Deed FrameEnv)) × (x : Deed FrameEnv) × (ds ≡ xs ++ x ∷ []))
last_of [] = inl refl
last_of (d ∷ ds) = ⊎_elim (λ e. inr ([], d, ap (λ l. d ∷ l) e)) (λ r. inr (d ∷ r.0, r.1, ap (λ l. d ∷ l) r.2)) (last_of ds)

pub more_started : (before : List (Deed FrameEnv)) (how : Invocation) (what : FrameEnv) (after : List (Deed FrameEnv)) → suc (started before) ≤ started (before ++ Invokes how what ∷ after)
more_started [] how what after = omega arith
more_started (Does e ∷ before) how what after = more_started before how what after
more_started (Invokes h w ∷ before) how what after = let r = more_started before how what after in omega (arith, r)
