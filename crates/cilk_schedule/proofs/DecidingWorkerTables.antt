-- The worker table after a frame's event is decided by the event.
--
-- - `settled_else`, `settled_call`, `settled_spawn`, `settled_end`: by what the frame requested;
-- - `worker_table_once`: one worker table, in states that agree.
use Rattle.std.proofs.Common.{◌≡◌, ℕ, suc, ℤ, true, false, true≢false, List, [], ◌∷◌, ◌++◌, refl, sym, ap, ◌∙◌, subst}
use Rattle.cilk_types.specs.declared.invocation.Invocation.TheVariants.{Call, Spawn}
use Rattle.cilk_determinacy.specs.Machine.{State, started}
use Rattle.cilk_determinacy.specs.Runs.{Name, Instance, Ask, Read, Write, Invoke, Sync, End, Pass, Fail, Deed}
use Rattle.cilk_determinacy.specs.Reducers.{View}
use Rattle.cilk_determinacy.specs.FrameEnvs.{FrameEnv}
use Rattle.cilk_scheduler.specs.WorkerTables.{BlockIsOver, WorkerTable, IsIn, Settles, calls, ends_all, goes_on, holds, idle, leaves, newest_of, passes, returns, spawns, without, withdrawn}
use Rattle.cilk_scheduler.proofs.Thieves.{snoc_name}
use Rattle.cilk_schedule.specs.Deciding.{Agree}
use Rattle.cilk_schedule.proofs.DecidingSteps.{block_moves}

no_child : (m : Name) (k : ℕ) → [] ≡ m ++ k ∷ [] → ⊥
no_child [] k h = cc
no_child (j ∷ m) k h = cc

module _ (s : State FrameEnv View) (d : WorkerTable) (w : ℕ) (n : Name) (before : List (Deed FrameEnv)) where
  settled_else : (a : Ask FrameEnv) (x : WorkerTable) → ((v : FrameEnv) → a ≡ Invoke Call v → ⊥) → ((v : FrameEnv) → a ≡ Invoke Spawn v → ⊥) → ((v : ℤ) (gone : List Instance) → a ≡ End v gone → ⊥) → Settles s d w n before a x → x ≡ d
  settled_else a x no_call no_spawn no_end (goes_on _ c g e) = refl
  settled_else a x no_call no_spawn no_end (calls v) = absurd (no_call v refl)
  settled_else a x no_call no_spawn no_end (spawns v) = absurd (no_spawn v refl)
  settled_else a x no_call no_spawn no_end (ends_all v gone is) = absurd (no_end v gone refl)
  settled_else a x no_call no_spawn no_end (returns v gone m k is flag) = absurd (no_end v gone refl)
  settled_else a x no_call no_spawn no_end (passes v gone m k is flag in_it over) = absurd (no_end v gone refl)
  settled_else a x no_call no_spawn no_end (leaves v gone m k is flag not_both) = absurd (no_end v gone refl)

  settled_call : (a : Ask FrameEnv) (x : WorkerTable) (u : FrameEnv) → a ≡ Invoke Call u → Settles s d w n before a x → x ≡ holds d w (n ++ suc (started before) ∷ [])
  settled_call a x u q (goes_on _ c g e) = absurd (c u q)
  settled_call a x u q (calls v) = refl
  settled_call a x u q (spawns v) = let f : ⊥ = cc in absurd f
  settled_call a x u q (ends_all v gone is) = let f : ⊥ = cc in absurd f
  settled_call a x u q (returns v gone m k is flag) = let f : ⊥ = cc in absurd f
  settled_call a x u q (passes v gone m k is flag in_it over) = let f : ⊥ = cc in absurd f
  settled_call a x u q (leaves v gone m k is flag not_both) = let f : ⊥ = cc in absurd f

  settled_spawn : (a : Ask FrameEnv) (x : WorkerTable) (u : FrameEnv) → a ≡ Invoke Spawn u → Settles s d w n before a x → x ≡ holds (record d { offered = newest_of d.offered w n }) w (n ++ suc (started before) ∷ [])
  settled_spawn a x u q (goes_on _ c g e) = absurd (g u q)
  settled_spawn a x u q (calls v) = let f : ⊥ = cc in absurd f
  settled_spawn a x u q (spawns v) = refl
  settled_spawn a x u q (ends_all v gone is) = let f : ⊥ = cc in absurd f
  settled_spawn a x u q (returns v gone m k is flag) = let f : ⊥ = cc in absurd f
  settled_spawn a x u q (passes v gone m k is flag in_it over) = let f : ⊥ = cc in absurd f
  settled_spawn a x u q (leaves v gone m k is flag not_both) = let f : ⊥ = cc in absurd f

  -- where a worker is after its frame's end
  data EndsAt : WorkerTable → Type 0 where
    all_over : n ≡ [] → EndsAt (idle d w)
    back : (m : Name) (k : ℕ) → n ≡ m ++ k ∷ [] → s.stolen n ≡ false → EndsAt (holds (record d { offered = withdrawn d.offered m }) w m)
    past : (m : Name) (k : ℕ) → n ≡ m ++ k ∷ [] → s.stolen n ≡ true → IsIn m d.waiting → BlockIsOver s m → EndsAt (holds (record d { waiting = without d.waiting m }) w m)
    gone_off : (m : Name) (k : ℕ) → n ≡ m ++ k ∷ [] → s.stolen n ≡ true → ¬ (IsIn m d.waiting × BlockIsOver s m) → EndsAt (idle d w)

  settled_end : (a : Ask FrameEnv) (x : WorkerTable) (u : ℤ) (lost : List Instance) → a ≡ End u lost → Settles s d w n before a x → EndsAt x
  settled_end a x u lost q (goes_on _ c g e) = absurd (e u lost q)
  settled_end a x u lost q (calls v) = let f : ⊥ = cc in absurd f
  settled_end a x u lost q (spawns v) = let f : ⊥ = cc in absurd f
  settled_end a x u lost q (ends_all v gone is) = all_over is
  settled_end a x u lost q (returns v gone m k is flag) = back m k is flag
  settled_end a x u lost q (passes v gone m k is flag in_it over) = past m k is flag in_it over
  settled_end a x u lost q (leaves v gone m k is flag not_both) = gone_off m k is flag not_both

module _ (s t : State FrameEnv View) (agree : Agree s t) (d : WorkerTable) (w : ℕ) (n : Name) (before : List (Deed FrameEnv)) where
  one_parent : (m m' : Name) (k k' : ℕ) → n ≡ m ++ k ∷ [] → n ≡ m' ++ k' ∷ [] → m' ≡ m
  one_parent m m' k k' e e' = let r = snoc_name m' m k' k (sym e' ∙ e) in r.0

  both_flags : s.stolen n ≡ true → t.stolen n ≡ false → ⊥
  both_flags e f = true≢false (sym e ∙ sym (ap (λ (z : Name → _). z n) agree.stolen) ∙ f)

  both_flags_so : s.stolen n ≡ false → t.stolen n ≡ true → ⊥
  both_flags_so e f = true≢false (sym f ∙ ap (λ (z : Name → _). z n) agree.stolen ∙ e)

  ends_once : (x y : WorkerTable) → EndsAt s d w n before x → EndsAt t d w n before y → y ≡ x
  ends_once x y (all_over is) (all_over is') = refl
  ends_once x y (all_over is) (back m k is' flag) = absurd (no_child m k (sym is ∙ is'))
  ends_once x y (all_over is) (past m k is' flag in_it over) = absurd (no_child m k (sym is ∙ is'))
  ends_once x y (all_over is) (gone_off m k is' flag not_both) = refl
  ends_once x y (back m k is flag) (all_over is') = absurd (no_child m k (sym is' ∙ is))
  ends_once x y (back m k is flag) (back m' k' is' flag') = ap (λ z. holds (record d { offered = withdrawn d.offered z }) w z) (one_parent m m' k k' is is')
  ends_once x y (back m k is flag) (past m' k' is' flag' in_it over) = absurd (both_flags_so flag flag')
  ends_once x y (back m k is flag) (gone_off m' k' is' flag' not_both) = absurd (both_flags_so flag flag')
  ends_once x y (past m k is flag in_it over) (all_over is') = absurd (no_child m k (sym is' ∙ is))
  ends_once x y (past m k is flag in_it over) (back m' k' is' flag') = absurd (both_flags flag flag')
  ends_once x y (past m k is flag in_it over) (past m' k' is' flag' in_it' over') = ap (λ z. holds (record d { waiting = without d.waiting z }) w z) (one_parent m m' k k' is is')
  ends_once x y (past m k is flag in_it over) (gone_off m' k' is' flag' not_both) =
      let e = sym (one_parent m m' k k' is is') in
      absurd (not_both (subst (λ z. IsIn z d.waiting) e in_it, subst (λ z. BlockIsOver t z) e (block_moves s t agree.frames m over)))
  ends_once x y (gone_off m k is flag not_both) (all_over is') = refl
  ends_once x y (gone_off m k is flag not_both) (back m' k' is' flag') = absurd (both_flags flag flag')
  ends_once x y (gone_off m k is flag not_both) (past m' k' is' flag' in_it over) =
      let e = one_parent m m' k k' is is' in
      absurd (not_both (subst (λ z. IsIn z d.waiting) e in_it, subst (λ z. BlockIsOver s z) e (block_moves t s (sym agree.frames) m' over)))
  ends_once x y (gone_off m k is flag not_both) (gone_off m' k' is' flag' not_both') = refl

  -- a request that starts and ends nothing
  plainly : (a : Ask FrameEnv) (x y : WorkerTable) → ((v : FrameEnv) → a ≡ Invoke Call v → ⊥) → ((v : FrameEnv) → a ≡ Invoke Spawn v → ⊥) → ((v : ℤ) (gone : List Instance) → a ≡ End v gone → ⊥) → Settles s d w n before a x → Settles t d w n before a y → y ≡ x
  plainly a x y c g e h k = settled_else t d w n before a y c g e k ∙ sym (settled_else s d w n before a x c g e h)

  pub worker_table_once : (a : Ask FrameEnv) (x y : WorkerTable) → Settles s d w n before a x → Settles t d w n before a y → y ≡ x
  worker_table_once (Read c) x y h k = plainly (Read c) x y (λ v q. let f : ⊥ = cc in f) (λ v q. let f : ⊥ = cc in f) (λ v gone q. let f : ⊥ = cc in f) h k
  worker_table_once (Write c z) x y h k = plainly (Write c z) x y (λ v q. let f : ⊥ = cc in f) (λ v q. let f : ⊥ = cc in f) (λ v gone q. let f : ⊥ = cc in f) h k
  worker_table_once (Invoke Call u) x y h k = settled_call t d w n before (Invoke Call u) y u refl k ∙ sym (settled_call s d w n before (Invoke Call u) x u refl h)
  worker_table_once (Invoke Spawn u) x y h k = settled_spawn t d w n before (Invoke Spawn u) y u refl k ∙ sym (settled_spawn s d w n before (Invoke Spawn u) x u refl h)
  worker_table_once Sync x y h k = plainly Sync x y (λ v q. let f : ⊥ = cc in f) (λ v q. let f : ⊥ = cc in f) (λ v gone q. let f : ⊥ = cc in f) h k
  worker_table_once (End u gone) x y h k = ends_once x y (settled_end s d w n before (End u gone) x u gone refl h) (settled_end t d w n before (End u gone) y u gone refl k)
  worker_table_once (Pass z) x y h k = plainly (Pass z) x y (λ v q. let f : ⊥ = cc in f) (λ v q. let f : ⊥ = cc in f) (λ v gone q. let f : ⊥ = cc in f) h k
  worker_table_once (Fail z) x y h k = plainly (Fail z) x y (λ v q. let f : ⊥ = cc in f) (λ v q. let f : ⊥ = cc in f) (λ v gone q. let f : ⊥ = cc in f) h k
