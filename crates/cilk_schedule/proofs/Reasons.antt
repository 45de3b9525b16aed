-- Why a choice can't be made, by the scheduler and by the worker table that it shows.
--
-- - `hand_is`: the frame that a worker holds;
-- - `idle_is`, `busy_is_hand`, `nobody`, `idle_not_busy`: an idle worker, one with a frame, and none;
-- - `count_offers`, `many_offered`, `none_past`: the continuations that are offered;
-- - `over_why`, `no_frame_why`, `no_worker_runs`, `has_frame_why`, `no_worker_steals`, `offers_why`:
--   the reason.
use Rattle.std.proofs.Common.{◌≡◌, ◌⊎◌, inl, inr, ◌<◌, ◌≤◌, ℕ, zero, suc, true, false, true≢false, ℤ, List, [], ◌∷◌, length, slice_get, get_or, Option, Some, None, refl, sym, ap, ◌∙◌, subst, arith}
use Rattle.std.specs.Prelude.{if◌then◌else◌, map, sum}
use Rattle.std.specs.Option.{is_some, option_map}
use Rattle.std.proofs.lemmas.List.{length-append, length-map}
use Rattle.std.proofs.lemmas.List.Sums.{sum_by-cons}
use Rattle.std.proofs.lemmas.Option.{slice_get-map, slice_get_cases}
use Rattle.cilk_program.specs.Syntax.{Source}
use Rattle.cilk_lower.specs.Code.{CodeView}
use Rattle.cilk_determinacy.specs.Runs.{Name}
use Rattle.cilk_scheduler.specs.Schedulers.{hand_of, offers_of}
use Rattle.cilk_scheduler.specs.WorkerTables.{IsSkipped, all_offered}
use Rattle.cilk_scheduler.specs.Workers.{frame_in, held_by, is_free, is_idle}
use Rattle.cilk_scheduler.specs.declared.scheduler.Scheduler.{Scheduler}
use Rattle.cilk_scheduler.specs.declared.choice.Choice.{Choice}
use Rattle.cilk_scheduler.specs.declared.choice.Choice.TheVariants as choices
use Rattle.cilk_scheduler.specs.declared.frame_state.Worker.{Worker}
use Rattle.cilk_schedule.specs.Reached.{HasReached}
use Rattle.cilk_schedule.specs.Strict.{IsWhy, hand_at}
use Rattle.cilk_schedule.specs.declared.unmade.Reason.TheVariants as reasons
use Rattle.cilk_schedule.proofs.Keeping.{is_not_over, is_over}

module _ (code : CodeView) (p : Source) (inputs : List ℤ) (b : Scheduler) (h : HasReached code p inputs b) where
  -- the frame that a worker holds, by the scheduler
  hand_is : (v : ℕ) → hand_at h.worker_table (suc v) ≡ option_map (hand_of h.name) (let ws = b.workers in slice_get ws.items v)
  hand_is v =
      let ws = b.workers in
      let x = h.shows in
      let o = x.worker_table in
      ap (λ l. slice_get l v) o.hands ∙ slice_get-map (hand_of h.name) ws.items v

  -- an idle worker holds no frame
  idle_is : (worker : ℕ) → (let ws = b.workers in is_idle ws.items worker ≡ true) → hand_at h.worker_table worker ≡ Some None
  idle_is zero e = let z : false ≡ true = e in cc
  idle_is (suc v) e = hand_is v ∙ by (let ws = b.workers in slice_get ws.items v) e
    where
      frame : (f : Option ℕ) → (if is_some f then false else true) ≡ true → option_map h.name f ≡ None
      frame None q = refl
      frame (Some k) q = let z : false ≡ true = q in cc

      by : (u : Option Worker) → is_free u ≡ true → option_map (hand_of h.name) u ≡ Some None
      by None q = let z : false ≡ true = q in cc
      by (Some u) q = ap Some (frame u.frame q)

  -- a worker that holds a frame
  busy_is_hand : (worker : ℕ) → (let ws = b.workers in is_some (held_by ws.items worker) ≡ true) → (n : Name) × (hand_at h.worker_table worker ≡ Some (Some n))
  busy_is_hand zero e = let z : false ≡ true = e in absurd (true≢false (sym z))
  busy_is_hand (suc v) e = let r = by (let ws = b.workers in slice_get ws.items v) e in (r.0, hand_is v ∙ r.1)
    where
      frame : (f : Option ℕ) → is_some f ≡ true → (n : Name) × (option_map h.name f ≡ Some n)
      frame None q = let z : false ≡ true = q in absurd (true≢false (sym z))
      frame (Some k) q = (h.name k, refl)

      by : (u : Option Worker) → is_some (frame_in u) ≡ true → (n : Name) × (option_map (hand_of h.name) u ≡ Some (Some n))
      by None q = let z : false ≡ true = q in absurd (true≢false (sym z))
      by (Some u) q = let r = frame u.frame q in (r.0, ap Some r.1)

  -- there is no such worker: it isn't idle, and holds no frame
  nobody : (worker : ℕ) → (let ws = b.workers in is_idle ws.items worker ≡ false) → ((n : Name) → hand_at h.worker_table worker ≡ Some (Some n) → ⊥) → hand_at h.worker_table worker ≡ None
  nobody zero e empty = refl
  nobody (suc v) e empty = hand_is v ∙ by (let ws = b.workers in slice_get ws.items v) e (λ n q. empty n (hand_is v ∙ q))
    where
      frame : (f : Option ℕ) → (if is_some f then false else true) ≡ false → (n : Name) × (option_map h.name f ≡ Some n)
      frame None q = let z : true ≡ false = q in absurd (true≢false z)
      frame (Some k) q = (h.name k, refl)

      by : (u : Option Worker) → is_free u ≡ false → ((n : Name) → option_map (hand_of h.name) u ≡ Some (Some n) → ⊥) → option_map (hand_of h.name) u ≡ None
      by None q empty = refl
      by (Some u) q empty = let r = frame u.frame q in absurd (empty r.0 (ap Some r.1))

  idle_not_busy : (worker : ℕ) → (let ws = b.workers in is_some (held_by ws.items worker) ≡ false) → (n : Name) → hand_at h.worker_table worker ≡ Some (Some n) → ⊥
  idle_not_busy zero e n q = let z : None ≡ Some (Some n) = q in cc
  idle_not_busy (suc v) e n q = by (let ws = b.workers in slice_get ws.items v) e (sym (hand_is v) ∙ q)
    where
      frame : (f : Option ℕ) → is_some f ≡ false → Some (option_map h.name f) ≡ Some (Some n) → ⊥
      frame None w r = let z : Some None ≡ Some (Some n) = r in cc
      frame (Some k) w r = true≢false w

      by : (u : Option Worker) → is_some (frame_in u) ≡ false → option_map (hand_of h.name) u ≡ Some (Some n) → ⊥
      by None w r = let z : None ≡ Some (Some n) = r in cc
      by (Some u) w r = frame u.frame w r

  -- ---- the continuations that are offered

  count_offers : (ws : List Worker) → length (all_offered (map (offers_of h.name) ws)) ≡ sum (map (λ (u : Worker). let o = u.offered in length o.items) ws)
  count_offers [] = refl
  count_offers (u ∷ us) =
      let o = u.offered in
      let front = length-map o.items h.name in
      let both = length-append (offers_of h.name u) (all_offered (map (offers_of h.name) us)) in
      let behind = count_offers us in
      let all = sum_by-cons {X = ℕ} (λ a. a) (length o.items) (map (λ (u : Worker). let o = u.offered in length o.items) us) in
      omega (arith, front, both, behind, all)

  many_offered : b.offered ≡ length (all_offered (let d = h.worker_table in d.offered))
  many_offered =
      let ws = b.workers in
      let x = h.shows in
      let o = x.worker_table in
      o.total ∙ sym (count_offers ws.items) ∙ ap (λ l. length (all_offered l)) (sym o.offered)

  none_past : {A : Type 0} (xs : List A) (k : ℕ) → slice_get xs k ≡ None → length xs ≤ k
  none_past {A = A} xs k e = by (let r = slice_get_cases xs k in r.1)
    where
      by : ((x : A) × (k < length xs) × (slice_get xs k ≡ Some x) × (get_or xs k x ≡ x)) ⊎ ((length xs ≤ k) × (slice_get xs k ≡ None)) → length xs ≤ k
      by (inl r) = let z : None ≡ Some r.0 = sym e ∙ r.2 in cc
      by (inr r) = r.0

  -- ---- the reason

  pub over_why : (choice : Choice) → is_some b.outcome ≡ true → IsWhy h.state h.worker_table choice reasons.Ended
  over_why (choices.Run worker) e = is_over code p inputs b h e
  over_why (choices.Steal worker place) e = is_over code p inputs b h e

  pub no_frame_why : (worker : ℕ) → is_some b.outcome ≡ false → (let ws = b.workers in is_idle ws.items worker ≡ true) → IsWhy h.state h.worker_table (choices.Run worker) reasons.NoFrame
  no_frame_why worker on e = (is_not_over code p inputs b h on, idle_is worker e)

  pub no_worker_runs : (worker : ℕ) → is_some b.outcome ≡ false → (let ws = b.workers in is_idle ws.items worker ≡ false) → IsSkipped h.state h.worker_table (choices.Run worker) → IsWhy h.state h.worker_table (choices.Run worker) reasons.NoWorker
  no_worker_runs zero on e skipped = (is_not_over code p inputs b h on, refl)
  no_worker_runs (suc v) on e (inl empty) = (is_not_over code p inputs b h on, nobody (suc v) e empty)
  no_worker_runs (suc v) on e (inr over) = absurd (is_not_over code p inputs b h on over)

  pub has_frame_why : (worker place : ℕ) → is_some b.outcome ≡ false → (let ws = b.workers in is_some (held_by ws.items worker) ≡ true) → IsWhy h.state h.worker_table (choices.Steal worker place) reasons.HasFrame
  has_frame_why worker place on e = (is_not_over code p inputs b h on, busy_is_hand worker e)

  pub no_worker_steals : (worker place : ℕ) → is_some b.outcome ≡ false → (let ws = b.workers in is_some (held_by ws.items worker) ≡ false) → (let ws = b.workers in is_idle ws.items worker ≡ false) → IsWhy h.state h.worker_table (choices.Steal worker place) reasons.NoWorker
  no_worker_steals worker place on free e = (is_not_over code p inputs b h on, nobody worker e (idle_not_busy worker free))

  pub offers_why : (worker place : ℕ) → is_some b.outcome ≡ false → (let ws = b.workers in is_idle ws.items worker ≡ true) → IsSkipped h.state h.worker_table (choices.Steal worker place)
      → IsWhy h.state h.worker_table (choices.Steal worker place) (reasons.Offers b.offered)
  offers_why zero place on e skipped = let z : false ≡ true = e in absurd (true≢false (sym z))
  offers_why (suc v) place on e (inl busy) = absurd (busy (idle_is (suc v) e))
  offers_why (suc v) place on e (inr (inr over)) = absurd (is_not_over code p inputs b h on over)
  offers_why (suc v) place on e (inr (inl none)) =
      let d = h.worker_table in
      (is_not_over code p inputs b h on, idle_is (suc v) e, many_offered, subst (λ n. n ≤ place) (sym many_offered) (none_past (all_offered d.offered) place none))
