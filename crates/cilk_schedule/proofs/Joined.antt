-- Children that were joined, by the events that their parent shows.
--
-- - `joins_past`: an event that starts no child;
-- - `none_later`, `sync_shown`: from a child on, and a sync;
-- - `joins_shown`: whether a child was joined.
use Rattle.std.proofs.Common.{◌≡◌, ◌<◌, ℕ, suc, nat_eq, eqb-true, Bool, true, false, cond, List, [], ◌∷◌, refl, sym, ap, ◌∙◌, arith}
use Rattle.std.proofs.lemmas.Bool.{ne_eqb}
use Rattle.cilk_types.specs.declared.invocation.Invocation.TheVariants.{Call, Spawn}
use Rattle.cilk_determinacy.specs.Cuts.{joined_at, sync_bit}
use Rattle.cilk_determinacy.specs.Runs.{Name, Granted, Begins, Resumes, Creates, Updates, Sets, Values, Prints, Deed, Does, Invokes, Reads, Writes, Syncs, Ends, Passes}
use Rattle.cilk_determinacy.specs.Runs.{Event as Done}
use Rattle.cilk_determinacy.specs.FrameEnvs.{FrameEnv}
use Rattle.cilk_schedule.specs.Showing.{AreShown, IsEventShown, IsMarkShown, has_sync, joins_child}
use Rattle.cilk_schedule.specs.declared.naming.ShownEvent.{ShownEvent}

module _ (name : ℕ → Name) (count : ℕ) where
  marks_past : (m : Granted) (e : ShownEvent) → IsMarkShown name count m e → (k : ℕ) (es : List ShownEvent) → (joins_child k (e ∷ es) ≡ joins_child k es) × (has_sync (e ∷ es) ≡ has_sync es)
  marks_past Begins e h k es = (ap (λ x. joins_child k (x ∷ es)) h, ap (λ x. has_sync (x ∷ es)) h)
  marks_past Resumes e h k es = (ap (λ x. joins_child k (x ∷ es)) h, ap (λ x. has_sync (x ∷ es)) h)
  marks_past (Creates i) e h k es = (ap (λ x. joins_child k (x ∷ es)) h.2, ap (λ x. has_sync (x ∷ es)) h.2)
  marks_past (Updates i x) e h k es = (ap (λ x. joins_child k (x ∷ es)) h.2, ap (λ x. has_sync (x ∷ es)) h.2)
  marks_past (Sets i x) e h k es = (ap (λ x. joins_child k (x ∷ es)) h.2, ap (λ x. has_sync (x ∷ es)) h.2)
  marks_past (Values i v) e h k es = (ap (λ x. joins_child k (x ∷ es)) h.2, ap (λ x. has_sync (x ∷ es)) h.2)
  marks_past (Prints x) e h k es = (ap (λ x. joins_child k (x ∷ es)) h, ap (λ x. has_sync (x ∷ es)) h)

  joins_past : (d : Done) (e : ShownEvent) → IsEventShown name count d e → (k : ℕ) (es : List ShownEvent) → joins_child k (e ∷ es) ≡ joins_child k es
  joins_past (Reads c v) e h k es = ap (λ x. joins_child k (x ∷ es)) h.2
  joins_past (Writes c v) e h k es = ap (λ x. joins_child k (x ∷ es)) h.2
  joins_past Syncs e h k es = ap (λ x. joins_child k (x ∷ es)) h
  joins_past (Ends v gone) e h k es = ap (λ x. joins_child k (x ∷ es)) h
  joins_past (Passes m) e h k es = let r = marks_past m e h k es in r.0

  -- a sync is shown as one, and nothing else is
  sync_shown : (n : Name) (z : ℕ) (ds : List (Deed FrameEnv)) (es : List ShownEvent) → AreShown name count n z ds es → sync_bit ds ≡ cond (has_sync es) 1 0
  sync_shown n z [] [] h = refl
  sync_shown n z [] (e ∷ es) h = absurd h
  sync_shown n z (Does (Reads c v) ∷ ds) [] h = absurd h
  sync_shown n z (Does (Writes c v) ∷ ds) [] h = absurd h
  sync_shown n z (Does Syncs ∷ ds) [] h = absurd h
  sync_shown n z (Does (Ends v gone) ∷ ds) [] h = absurd h
  sync_shown n z (Does (Passes m) ∷ ds) [] h = absurd h
  sync_shown n z (Invokes k w ∷ ds) [] h = absurd h
  sync_shown n z (Does (Reads c v) ∷ ds) (e ∷ es) h = sync_shown n z ds es h.1 ∙ ap (λ x. cond (has_sync (x ∷ es)) 1 0) (sym (let r = h.0 in r.2))
  sync_shown n z (Does (Writes c v) ∷ ds) (e ∷ es) h = sync_shown n z ds es h.1 ∙ ap (λ x. cond (has_sync (x ∷ es)) 1 0) (sym (let r = h.0 in r.2))
  sync_shown n z (Does Syncs ∷ ds) (e ∷ es) h = ap (λ x. cond (has_sync (x ∷ es)) 1 0) (sym h.0)
  sync_shown n z (Does (Ends v gone) ∷ ds) (e ∷ es) h = sync_shown n z ds es h.1 ∙ ap (λ x. cond (has_sync (x ∷ es)) 1 0) (sym h.0)
  sync_shown n z (Does (Passes m) ∷ ds) (e ∷ es) h = sync_shown n z ds es h.1 ∙ ap (λ t. cond t 1 0) (sym (let r = marks_past m e h.0 0 es in r.1))
  sync_shown n z (Invokes Call w ∷ ds) (e ∷ es) h = sync_shown n (suc z) ds es h.2 ∙ ap (λ x. cond (has_sync (x ∷ es)) 1 0) (sym h.1)
  sync_shown n z (Invokes Spawn w ∷ ds) (e ∷ es) h = sync_shown n (suc z) ds es h.2 ∙ ap (λ x. cond (has_sync (x ∷ es)) 1 0) (sym h.1)

  -- no child is started again
  none_later : (n : Name) (k z : ℕ) (ds : List (Deed FrameEnv)) (es : List ShownEvent) → k < z → AreShown name count n z ds es → joins_child k es ≡ false
  none_later n k z [] [] less h = refl
  none_later n k z [] (e ∷ es) less h = absurd h
  none_later n k z (Does d ∷ ds) [] less h = absurd h
  none_later n k z (Invokes how w ∷ ds) [] less h = absurd h
  none_later n k z (Does d ∷ ds) (e ∷ es) less h = joins_past d e h.0 k es ∙ none_later n k z ds es less h.1
  none_later n k z (Invokes Call w ∷ ds) (e ∷ es) less h = ap (λ x. joins_child k (x ∷ es)) h.1 ∙ none_later n k (suc z) ds es (omega (arith, less)) h.2
  none_later n k z (Invokes Spawn w ∷ ds) (e ∷ es) less h =
      ap (λ x. joins_child k (x ∷ es)) h.1 ∙ ap (λ t. cond t (has_sync es) (joins_child k es)) (ne_eqb z k (λ q. absurd (omega (arith, less, q)))) ∙ none_later n k (suc z) ds es (omega (arith, less)) h.2

  pub joins_shown : (n : Name) (k z : ℕ) (ds : List (Deed FrameEnv)) (es : List ShownEvent) → AreShown name count n z ds es → joined_at z k ds ≡ cond (joins_child k es) 1 0
  joins_shown n k z [] [] h = refl
  joins_shown n k z [] (e ∷ es) h = absurd h
  joins_shown n k z (Does d ∷ ds) [] h = absurd h
  joins_shown n k z (Invokes how w ∷ ds) [] h = absurd h
  joins_shown n k z (Does d ∷ ds) (e ∷ es) h = joins_shown n k z ds es h.1 ∙ ap (λ t. cond t 1 0) (sym (joins_past d e h.0 k es))
  joins_shown n k z (Invokes Call w ∷ ds) (e ∷ es) h = by (nat_eq z k) refl (joins_shown n k (suc z) ds es h.2) ∙ ap (λ x. cond (joins_child k (x ∷ es)) 1 0) (sym h.1)
    where
      by : (t : Bool) → nat_eq z k ≡ t → joined_at (suc z) k ds ≡ cond (joins_child k es) 1 0 → cond (nat_eq z k) 0 (joined_at (suc z) k ds) ≡ cond (joins_child k es) 1 0
      by true e later = let same = eqb-true z k e in ap (λ t. cond t 0 (joined_at (suc z) k ds)) e ∙ sym (ap (λ t. cond t 1 0) (none_later n k (suc z) ds es (omega (arith, same)) h.2))
      by false e later = ap (λ t. cond t 0 (joined_at (suc z) k ds)) e ∙ later
  joins_shown n k z (Invokes Spawn w ∷ ds) (e ∷ es) h = by (nat_eq z k) refl (joins_shown n k (suc z) ds es h.2) ∙ ap (λ x. cond (joins_child k (x ∷ es)) 1 0) (sym h.1)
    where
      by : (t : Bool) → nat_eq z k ≡ t → joined_at (suc z) k ds ≡ cond (joins_child k es) 1 0 → cond (nat_eq z k) (sync_bit ds) (joined_at (suc z) k ds) ≡ cond (cond (nat_eq z k) (has_sync es) (joins_child k es)) 1 0
      by true e later = ap (λ t. cond t (sync_bit ds) (joined_at (suc z) k ds)) e ∙ sync_shown n (suc z) ds es h.2 ∙ ap (λ t. cond (cond t (has_sync es) (joins_child k es)) 1 0) (sym e)
      by false e later = ap (λ t. cond t (sync_bit ds) (joined_at (suc z) k ds)) e ∙ later ∙ ap (λ t. cond (cond t (has_sync es) (joins_child k es)) 1 0) (sym e)
