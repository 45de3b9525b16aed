-- A choice is deterministic.
--
-- - `some_is`, `hand_is`: a list has only one element at a place;
-- - `Did`, `did`, `did_same`: a worker's event;
-- - `leads_by`, `stops_by`, `apart_by`: choices from two states that differ in views;
-- - `choices_decide`: the law.
use Rattle.std.proofs.Common.{◌≡◌, ◌⊎◌, inl, inr, ⊎_elim, ℕ, zero, suc, ℤ, List, [], ◌∷◌, ◌++◌, slice_get, length, Option, Some, None, refl, sym, ap, ◌∙◌, subst}
use mathlib.Core.Path.{fun_ext}
use Rattle.cilk_types.specs.declared.invocation.Invocation.TheVariants.{Spawn}
use Rattle.cilk_monoid.specs.declared.kind.MonoidKind.TheVariants.{Append}
use Rattle.cilk_program.specs.Outcomes.{cells_from}
use Rattle.cilk_program.specs.Syntax.{Source}
use Rattle.cilk_determinacy.specs.Costs.{Total, fault_of}
use Rattle.cilk_determinacy.specs.Machine.{Frame, Frames, State, IsAsking, Makes, Steals, Steps, Stops, deeds_at, strand_of}
use Rattle.cilk_determinacy.specs.Progress.{MayAsk}
use Rattle.cilk_determinacy.specs.Runs.{Name, Global, Instance, Output, Ask, Sync, Invokes}
use Rattle.cilk_determinacy.proofs.Basics.{snoc_one}
use Rattle.cilk_determinacy.proofs.Progress.{progress}
use Rattle.cilk_determinacy.specs.FrameEnvMachine.{costs, next}
use Rattle.cilk_determinacy.specs.Reducers.{View, elements_of, monoid_of, value_of}
use Rattle.cilk_determinacy.specs.Steps.{IsFirst, Next, OneStep, Reaches, finals_in, outcome_in, result_in}
use Rattle.cilk_determinacy.specs.FrameEnvs.{FrameEnv}
use Rattle.cilk_scheduler.specs.WorkerTables.{BlockIsOver, Chooses, Comes, WorkerTable, IsOver, IsSkipped, Settles, Skipped, Stands, StopsAt, Stole, Waited, all_offered, does, holds, idle, skips, steals, waits, withdrawn}
use Rattle.cilk_scheduler.specs.WorkerTables as worker_tables
use Rattle.cilk_scheduler.specs.Histories.{DidAsAsked}
use Rattle.cilk_scheduler.specs.Parents.{OutliveChildren}
use Rattle.cilk_scheduler.specs.declared.choice.Choice.{Choice}
use Rattle.cilk_scheduler.specs.declared.choice.Choice.TheVariants as choices
use Rattle.cilk_scheduler.proofs.Choosing.{choices_are_steps}
use Rattle.cilk_scheduler.proofs.Histories.{does_as_asked}
use Rattle.cilk_scheduler.proofs.Parents.{parents_outlive}
use Rattle.cilk_schedule.specs.Deciding.{Agree, ChoicesDecide, IsGoing}
use Rattle.cilk_schedule.proofs.DecidingWorkerTables.{worker_table_once}
use Rattle.cilk_schedule.proofs.DecidingSteps.{MadeBy, StolenBy, agreed, asks_no_more, block_moves, made_by, made_same, stolen_by, stolen_same, with_pieces}

some_is : {A : Type 0} (x y : A) → Some x ≡ Some y → x ≡ y
some_is x y e = cc

-- the frame that a worker has is one
hand_is : (d : WorkerTable) (w w' : ℕ) (n n' : Name) → w ≡ w' → slice_get d.hands w ≡ Some (Some n) → slice_get d.hands w' ≡ Some (Some n') → n' ≡ n
hand_is d w w' n n' e h k =
    let z : Some (Some n) ≡ Some (Some n') = sym h ∙ ap (λ v. slice_get d.hands v) e ∙ k in
    sym (some_is n n' (some_is (Some n) (Some n') z))

module _ (p : Source) (inputs : List ℤ) where
  -- a worker's frame makes its event
  record Did (s : State FrameEnv View) (d : WorkerTable) (w : ℕ) (n : Name) (f : Frame FrameEnv) (a : Ask FrameEnv) (s' : State FrameEnv View) (d' : WorkerTable) : Type 0 where
    pub hand : slice_get d.hands w ≡ Some (Some n)
    pub here : s.frames n ≡ Some f
    pub next : next p inputs f.what f.deeds ≡ Some a
    pub within : fault_of (costs p inputs) s.totals f.what f.deeds a ≡ None
    pub block : a ≡ Sync → BlockIsOver s n
    pub made : MadeBy p inputs s n f a s'
    pub settles : Settles s' d w n f.deeds a d'

  may : (s : State FrameEnv View) (n : Name) (f : Frame FrameEnv) (a : Ask FrameEnv) → IsAsking FrameEnv View monoid_of (Next p inputs) (costs p inputs) s n f a → MayAsk FrameEnv View monoid_of (Next p inputs) (costs p inputs) s n f a
  may s n f a q = let law = progress FrameEnv View monoid_of (Next p inputs) (costs p inputs) in law.exact s n f a q

  block_of : (s : State FrameEnv View) (n : Name) (f : Frame FrameEnv) (a : Ask FrameEnv) → IsAsking FrameEnv View monoid_of (Next p inputs) (costs p inputs) s n f a → a ≡ Sync → BlockIsOver s n
  block_of s n f a q is =
      let m = may s n f a q in
      λ before after what at none. m.block is before after what (sym (ap (λ o. deeds_at o) m.here) ∙ at) none

  did : (s : State FrameEnv View) (d : WorkerTable) (w : ℕ) (n : Name) (s' : State FrameEnv View) (d' : WorkerTable) → slice_get d.hands w ≡ Some (Some n) → (m : Makes FrameEnv View monoid_of (Next p inputs) (costs p inputs) s n s')
      → (let f = m.frame in Settles s' d w n f.deeds m.ask d') → Did s d w n m.frame m.ask s' d'
  did s d w n s' d' hand m settles =
      let q = m.asking in
      record { hand = hand; here = q.here; next = q.next; within = m.within; block = block_of s n m.frame m.ask q; made = made_by p inputs s n s' m; settles = settles }

  module _ (s : State FrameEnv View) (q : Name → Instance → View) (same : (n : Name) (f : Frame FrameEnv) → s.frames n ≡ Some f → q n ≡ s.piece n) (asked : DidAsAsked p inputs s) (kids : OutliveChildren s) where
    abbrev t : State FrameEnv View
    t = with_pieces s q

    one_frame : (n n' : Name) (f f' : Frame FrameEnv) → n' ≡ n → s.frames n ≡ Some f → s.frames n' ≡ Some f' → f' ≡ f
    one_frame n n' f f' e h k = some_is f' f (sym k ∙ ap s.frames e ∙ h)

    one_ask : (f f' : Frame FrameEnv) (a a' : Ask FrameEnv) → f' ≡ f → next p inputs f.what f.deeds ≡ Some a → next p inputs f'.what f'.deeds ≡ Some a' → a' ≡ a
    one_ask f f' a a' e h k = some_is a' a (sym k ∙ ap (λ (z : Frame FrameEnv). next p inputs z.what z.deeds) e ∙ h)

    -- the results of a choice from the one state and from the other
    abbrev IsOnce : Comes → Comes → WorkerTable → WorkerTable → State FrameEnv View → State FrameEnv View → Type 0
    IsOnce x y d' d'' s' t' = (y ≡ x) × (d'' ≡ d') × Agree s' t'

    alike : Agree s t
    alike = record { frames = refl; stolen = refl; memory = refl; piece = same; joins = refl; totals = refl; stopped = refl }

    did_once : (d d' d'' : WorkerTable) (w : ℕ) (n : Name) (f : Frame FrameEnv) (a : Ask FrameEnv) (s' t' : State FrameEnv View) → Did s d w n f a s' d' → Did t d w n f a t' d'' → (d'' ≡ d') × Agree s' t'
    did_once d d' d'' w n f a s' t' h k =
        let agree = made_same p inputs s q same kids asked n f a h.here h.next s' t' h.made k.made in
        (worker_table_once s' t' agree d w n f.deeds a d' d'' h.settles k.settles, agree)

    did_same : (d d' d'' : WorkerTable) (w w' : ℕ) (n n' : Name) (f f' : Frame FrameEnv) (a a' : Ask FrameEnv) (s' t' : State FrameEnv View) → w ≡ w' → Did s d w n f a s' d' → Did t d w' n' f' a' t' d'' → (d'' ≡ d') × Agree s' t'
    did_same d d' d'' w w' n n' f f' a a' s' t' e h k =
        let en = hand_is d w w' n n' e h.hand k.hand in
        let ef = one_frame n n' f f' en h.here k.here in
        let ea = one_ask f f' a a' ef h.next k.next in
        did_once d d' d'' w n f a s' t' h
        (subst (λ z. Did t d w n f z t' d'') ea (subst (λ z. Did t d w n z a' t' d'') ef (subst (λ z. Did t d w z f' a' t' d'') en (subst (λ z. Did t d z n' f' a' t' d'') (sym e) k))))

    -- a frame that makes its event at a sync waits for nothing
    no_wait : (d d' : WorkerTable) (w w' : ℕ) (n n' : Name) (f f' : Frame FrameEnv) (a : Ask FrameEnv) (u u' : State FrameEnv View) → w ≡ w' → u.frames ≡ s.frames → Did u d w n f a u' d' → slice_get d.hands w' ≡ Some (Some n') → s.frames n' ≡ Some f' → next p inputs f'.what f'.deeds ≡ Some Sync → BlockIsOver s n'
    no_wait d d' w w' n n' f f' a u u' e eu h hand here is =
        let en = hand_is d w w' n n' e h.hand hand in
        let ef = one_frame n n' f f' en (sym (ap (λ (z : Frames FrameEnv). z n) eu) ∙ h.here) here in
        let ea : Sync ≡ a = one_ask f f' a Sync ef h.next is in
        block_moves u s (sym eu) n' (subst (λ z. BlockIsOver u z) (sym en) (h.block (sym ea)))

    -- a frame that makes a request isn't skipped
    asks_on : (d : WorkerTable) (w : ℕ) (n : Name) (f : Frame FrameEnv) (a : Ask FrameEnv) → slice_get d.hands w ≡ Some (Some n) → s.frames n ≡ Some f → next p inputs f.what f.deeds ≡ Some a → IsSkipped s d (choices.Run (suc w)) → ⊥
    asks_on d w n f a hand here is skipped = ⊎_elim (λ none. none n hand) (λ over. asks_no_more s kids over p inputs n f a here is) skipped

    steals_once : (d : WorkerTable) (w w' k k' : ℕ) (n n' : Name) (s' t' : State FrameEnv View) → w ≡ w' → k ≡ k' → slice_get (all_offered d.offered) k ≡ Some n → slice_get (all_offered d.offered) k' ≡ Some n' → Steals FrameEnv View monoid_of (Next p inputs) (costs p inputs) s n s' → Steals FrameEnv View monoid_of (Next p inputs) (costs p inputs) t n' t'
        → (holds (record d { offered = withdrawn d.offered n' }) w' n' ≡ holds (record d { offered = withdrawn d.offered n }) w n) × Agree s' t'
    steals_once d w w' k k' n n' s' t' e g at at' h m =
        let en : n' ≡ n = some_is n' n (sym at' ∙ ap (λ z. slice_get (all_offered d.offered) z) (sym g) ∙ at) in
        let ef = one_frame n n' h.frame m.frame en h.here m.here in
        let eb = snoc_one m.before h.before (Invokes Spawn m.what) (Invokes Spawn h.what) (sym m.spawned ∙ ap (λ (z : Frame FrameEnv). z.deeds) ef ∙ h.spawned) in
        let by : StolenBy p inputs t n' m.before t' = stolen_by p inputs t n' t' m in (
          ap (λ z. holds (record d { offered = withdrawn d.offered z }) w' z) en ∙ ap (λ z. holds (record d { offered = withdrawn d.offered n }) z n) (sym e),
          stolen_same p inputs s q same n h.before s' t' (stolen_by p inputs s n s' h) (subst (λ z. StolenBy p inputs t n z t') eb.0 (subst (λ z. StolenBy p inputs t z m.before t') en by)),
        )

    -- nor is a thief with a continuation to steal
    no_skip : (d : WorkerTable) (w k : ℕ) (n : Name) → slice_get d.hands w ≡ Some None → ¬ (IsOver s) → slice_get (all_offered d.offered) k ≡ Some n → IsSkipped s d (choices.Steal (suc w) k) → ⊥
    no_skip d w k n hand on at skipped = ⊎_elim (λ busy. busy hand) (λ rest. ⊎_elim (λ none. let z : None ≡ Some n = sym none ∙ at in let f : ⊥ = cc in f) on rest) skipped

    leads_by : (c c' : Choice) → c ≡ c' → (s' t' : State FrameEnv View) (d d' d'' : WorkerTable) (x y : Comes) → Chooses p inputs s d c x s' d' → Chooses p inputs t d c' y t' d'' → IsOnce x y d' d'' s' t'
    leads_by c c' e s' t' d d' d'' x y (does w n _ _ hand m st) (does w' n' _ _ hand' m' st') =
        let r = did_same d d' d'' w w' n n' m.frame m'.frame m.ask m'.ask s' t' (let z : choices.Run (suc w) ≡ choices.Run (suc w') = e in cc) (did s d w n s' d' hand m st) (did t d w' n' t' d'' hand' m' st') in
        (refl, r.0, r.1)
    leads_by c c' e s' t' d d' d'' x y (does w n _ _ hand m st) (waits w' n' f' hand' stands open_yet) =
        absurd (open_yet (block_moves s t refl n' (no_wait d d' w w' n n' m.frame f' m.ask s s' (let z : choices.Run (suc w) ≡ choices.Run (suc w') = e in cc) refl (did s d w n s' d' hand m st) hand' stands.here stands.next)))
    leads_by c c' e s' t' d d' d'' x y (does w n _ _ hand m st) (steals w' k' n' _ hand' on at m') = let f : ⊥ = cc in absurd f
    leads_by c c' e s' t' d d' d'' x y (does w n _ _ hand m st) (skips _ skipped) =
        let o = did s d w n s' d' hand m st in
        absurd (asks_on d w n m.frame m.ask hand o.here o.next (subst (λ z. IsSkipped s d z) (sym e) skipped))
    leads_by c c' e s' t' d d' d'' x y (waits w n f hand stands open_yet) (does w' n' _ _ hand' m' st') =
        absurd (open_yet (no_wait d d'' w' w n' n m'.frame f m'.ask t t' (let z : choices.Run (suc w) ≡ choices.Run (suc w') = e in cc) refl (did t d w' n' t' d'' hand' m' st') hand stands.here stands.next))
    leads_by c c' e s' t' d d' d'' x y (waits w n f hand stands open_yet) (waits w' n' f' hand' stands' open_yet') =
        let ew : w ≡ w' = (let z : choices.Run (suc w) ≡ choices.Run (suc w') = e in cc) in
        let en = hand_is d w w' n n' ew hand hand' in
        (refl, ap (λ z. idle (record d { waiting = n' ∷ d.waiting }) z) (sym ew) ∙ ap (λ z. idle (record d { waiting = z ∷ d.waiting }) w) en, alike)
    leads_by c c' e s' t' d d' d'' x y (waits w n f hand stands open_yet) (steals w' k' n' _ hand' on at m') = let f : ⊥ = cc in absurd f
    leads_by c c' e s' t' d d' d'' x y (waits w n f hand stands open_yet) (skips _ skipped) = absurd (asks_on d w n f Sync hand stands.here stands.next (subst (λ z. IsSkipped s d z) (sym e) skipped))
    leads_by c c' e s' t' d d' d'' x y (steals w k n _ hand on at m) (does w' n' _ _ hand' m' st') = let f : ⊥ = cc in absurd f
    leads_by c c' e s' t' d d' d'' x y (steals w k n _ hand on at m) (waits w' n' f' hand' stands open_yet) = let f : ⊥ = cc in absurd f
    leads_by c c' e s' t' d d' d'' x y (steals w k n _ hand on at m) (steals w' k' n' _ hand' on' at' m') =
        let ew : w ≡ w' = (let z : choices.Steal (suc w) k ≡ choices.Steal (suc w') k' = e in cc) in
        let ek : k ≡ k' = (let z : choices.Steal (suc w) k ≡ choices.Steal (suc w') k' = e in cc) in
        let r = steals_once d w w' k k' n n' s' t' ew ek at at' m m' in
        (refl, r.0, r.1)
    leads_by c c' e s' t' d d' d'' x y (steals w k n _ hand on at m) (skips _ skipped) = absurd (no_skip d w k n hand on at (subst (λ z. IsSkipped s d z) (sym e) skipped))
    leads_by c c' e s' t' d d' d'' x y (skips _ skipped) (does w' n' _ _ hand' m' st') =
        let o = did t d w' n' t' d'' hand' m' st' in
        absurd (asks_on d w' n' m'.frame m'.ask hand' o.here o.next (subst (λ z. IsSkipped s d z) e skipped))
    leads_by c c' e s' t' d d' d'' x y (skips _ skipped) (waits w' n' f' hand' stands open_yet) = absurd (asks_on d w' n' f' Sync hand' stands.here stands.next (subst (λ z. IsSkipped s d z) e skipped))
    leads_by c c' e s' t' d d' d'' x y (skips _ skipped) (steals w' k' n' _ hand' on at m') = absurd (no_skip d w' k' n' hand' on at (subst (λ z. IsSkipped s d z) e skipped))
    leads_by c c' e s' t' d d' d'' x y (skips _ skipped) (skips _ skipped') = (refl, refl, alike)

    -- the frame that stops the run makes no event and waits for nothing
    not_stopped : (d : WorkerTable) (w w' : ℕ) (n n' : Name) (s' : State FrameEnv View) → w' ≡ w → slice_get d.hands w ≡ Some (Some n) → slice_get d.hands w' ≡ Some (Some n') → (m : Stops FrameEnv View monoid_of (Next p inputs) (costs p inputs) s n s') → (f : Frame FrameEnv) (a : Ask FrameEnv) → s.frames n' ≡ Some f → next p inputs f.what f.deeds ≡ Some a
        → (fault_of (costs p inputs) s.totals f.what f.deeds a ≡ None) ⊎ ((a ≡ Sync) × ¬ (BlockIsOver s n')) → ⊥
    not_stopped d w w' n n' s' e hand hand' m f a here is why =
        let k = m.asking in
        let en = hand_is d w w' n n' (sym e) hand hand' in
        let ef = one_frame n n' m.frame f en k.here here in
        let ea = one_ask m.frame f m.ask a ef k.next is in
        ⊎_elim
        (λ none.
        let z : None ≡ Some m.fault = sym none ∙ ap (λ v. fault_of (costs p inputs) s.totals f.what f.deeds v) ea ∙ ap (λ (v : Frame FrameEnv). fault_of (costs p inputs) s.totals v.what v.deeds m.ask) ef ∙ m.why in
        let b : ⊥ = cc in
        b)
        (λ r. r.1 (subst (λ z. BlockIsOver s z) (sym en) (block_of s n m.frame m.ask k (sym ea ∙ r.0))))
        why

    apart_by : (c c' : Choice) → c ≡ c' → (s' t' : State FrameEnv View) (d d' : WorkerTable) (x : Comes) → StopsAt p inputs s d c s' → Chooses p inputs t d c' x t' d' → ⊥
    apart_by (choices.Run zero) c' e s' t' d d' x h k = h
    apart_by (choices.Steal v place) c' e s' t' d d' x h k = h
    apart_by (choices.Run (suc v)) c' e s' t' d d' x h (does w n _ _ hand m st) =
        let o = did t d w n t' d' hand m st in
        not_stopped d v w h.0 n s' (let z : choices.Run (suc v) ≡ choices.Run (suc w) = e in cc) h.1 hand h.2 m.frame m.ask o.here o.next (inl o.within)
    apart_by (choices.Run (suc v)) c' e s' t' d d' x h (waits w n f hand stands open_yet) =
        not_stopped d v w h.0 n s' (let z : choices.Run (suc v) ≡ choices.Run (suc w) = e in cc) h.1 hand h.2 f Sync stands.here stands.next (inr (refl, λ over. open_yet (block_moves s t refl n over)))
    apart_by (choices.Run (suc v)) c' e s' t' d d' x h (steals w k n _ hand on at m) = let f : ⊥ = cc in f
    apart_by (choices.Run (suc v)) c' e s' t' d d' x h (skips _ skipped) =
        let m = h.2 in
        let k = m.asking in
        asks_on d v h.0 m.frame m.ask h.1 k.here k.next (subst (λ z. IsSkipped s d z) (sym e) skipped)

    stops_by : (c : Choice) (s' t' : State FrameEnv View) (d : WorkerTable) → StopsAt p inputs s d c s' → StopsAt p inputs t d c t' → t'.stopped ≡ s'.stopped
    stops_by (choices.Run zero) s' t' d h k = absurd h
    stops_by (choices.Steal v place) s' t' d h k = absurd h
    stops_by (choices.Run (suc v)) s' t' d h k =
        let m = h.2 in
        let o = k.2 in
        let x = m.asking in
        let y = o.asking in
        let en = hand_is d v v h.0 k.0 refl h.1 k.1 in
        let ef = one_frame h.0 k.0 m.frame o.frame en x.here y.here in
        let ea = one_ask m.frame o.frame m.ask o.ask ef x.next y.next in
        let why : Some o.fault ≡ Some m.fault = sym o.why ∙ ap (λ z. let g = o.frame in fault_of (costs p inputs) s.totals g.what g.deeds z) ea ∙ ap (λ (z : Frame FrameEnv). fault_of (costs p inputs) s.totals z.what z.deeds m.ask) ef ∙ m.why in
        ap (λ (z : State FrameEnv View). z.stopped) o.after
        ∙ ap (λ z. let g = o.frame in Some (record { frame = z; strand = strand_of g.deeds; fault = o.fault })) en
        ∙ ap (λ (z : Frame FrameEnv). Some (record { frame = h.0; strand = strand_of z.deeds; fault = o.fault })) ef
        ∙ ap (λ z. let g = m.frame in Some (record { frame = h.0; strand = strand_of g.deeds; fault = z })) (some_is o.fault m.fault why)
        ∙ sym (ap (λ (z : State FrameEnv View). z.stopped) m.after)

    outcome_by : IsOver s → outcome_in p t ≡ outcome_in p s
    outcome_by over = by (s.frames []) refl
      where
        by : (o : Option (Frame FrameEnv)) → s.frames [] ≡ o → outcome_in p t ≡ outcome_in p s
        by None e = let h : ⊥ = subst (λ o. worker_tables.IsOver (record s { frames = λ z. o })) e over in absurd h
        by (Some f) e =
            ap (λ (v : Instance → View).
            record {
              result = result_in (deeds_at (s.frames []));
              globals = cells_from 0 (length p.openings) (λ g. s.memory (Global g));
              output = elements_of (value_of Append (v Output));
              reducers = finals_in v 0 p.reducers;
            }) (same [] f e)

  -- a choice that stops the one state stops the other
  stop_moves : (s : State FrameEnv View) (q : Name → Instance → View) (c : Choice) (t' : State FrameEnv View) (d : WorkerTable) → StopsAt p inputs (with_pieces s q) d c t' → (s' : State FrameEnv View) × StopsAt p inputs s d c s'
  stop_moves s q (choices.Run zero) t' d h = absurd h
  stop_moves s q (choices.Steal v place) t' d h = absurd h
  stop_moves s q (choices.Run (suc v)) t' d h =
      let m = h.2 in
      let k = m.asking in
      let f = m.frame in
      let after = record s { stopped = Some (record { frame = h.0; strand = strand_of f.deeds; fault = m.fault }) } in
      (after, (h.0, h.1, record { frame = m.frame; ask = m.ask; fault = m.fault; asking = record { here = k.here; next = k.next; ready = k.ready }; why = m.why; after = refl }))

  opens_alike : (s t : State FrameEnv View) → IsFirst p inputs s → IsFirst p inputs t → Agree s t
  opens_alike s t h k = record {
    frames = fun_ext {A = Name} {B = λ n. Option (Frame FrameEnv)} (λ n. k.0 n ∙ sym (h.0 n));
    stolen = fun_ext {A = Name} {B = λ n. _} (λ n. k.4 n ∙ sym (h.4 n));
    memory = k.1 ∙ sym h.1;
    piece = first_piece;
    joins = k.2 ∙ sym h.2;
    totals = fun_ext {A = Total} {B = λ z. ℕ} (λ z. k.6 z ∙ sym (h.6 z));
    stopped = k.3 ∙ sym h.3;
  }
    where
      first_piece : (n : Name) (f : Frame FrameEnv) → s.frames n ≡ Some f → t.piece n ≡ s.piece n
      first_piece [] f at = fun_ext {A = Instance} {B = λ i. View} (λ i. k.5 i ∙ sym (h.5 i))
      first_piece (j ∷ n) f at = let z : None ≡ Some f = sym (h.0 (j ∷ n)) ∙ at in let b : ⊥ = cc in absurd b

  still_going : (s s' : State FrameEnv View) (d d' : WorkerTable) (c : Choice) (x : Comes) → s.stopped ≡ None → Chooses p inputs s d c x s' d' → s'.stopped ≡ None
  still_going s s' d d' c x on (does w n _ _ hand m st) = m.stopped ∙ on
  still_going s s' d d' c x on (waits w n f hand stands open_yet) = on
  still_going s s' d d' c x on (steals w k n _ hand still at m) = m.stopped ∙ on
  still_going s s' d d' c x on (skips _ skipped) = on

  one_after : (ns : List Name) (n : Name) (s mid s' : State FrameEnv View) → Steps FrameEnv View monoid_of (Next p inputs) (costs p inputs) ns s mid → OneStep p inputs mid n s' → Steps FrameEnv View monoid_of (Next p inputs) (costs p inputs) (ns ++ n ∷ []) s s'
  one_after [] n s mid s' e one = (s', subst (λ z. OneStep p inputs z n s') e one, refl)
  one_after (m ∷ ns) n s mid s' (z, first, more) one = (z, first, one_after ns n z mid s' more one)

  halted : (s s' : State FrameEnv View) (d : WorkerTable) (c : Choice) → IsGoing p inputs s → StopsAt p inputs s d c s' → (ns : List Name) × Reaches p inputs ns s'
  halted s s' d (choices.Run zero) going h = absurd h
  halted s s' d (choices.Steal v place) going h = absurd h
  halted s s' d (choices.Run (suc v)) going h = let r = going.reaches in (going.steps ++ h.0 ∷ [], (r.0, r.1, one_after going.steps h.0 r.0 s s' r.2 (going.running, inr (inr h.2))))

  abbrev Kept : State FrameEnv View → Type 0
  Kept s = DidAsAsked p inputs s × OutliveChildren s

  kept : (s : State FrameEnv View) → IsGoing p inputs s → Kept s
  kept s h =
      let asked = does_as_asked p inputs in
      let kids = parents_outlive p inputs in
      (asked.reached h.steps s h.reaches, kids.reached h.steps s h.reaches)

  back : (s t : State FrameEnv View) → Agree s t → Agree t s
  back s t h = record {
    frames = sym h.frames;
    stolen = sym h.stolen;
    memory = sym h.memory;
    piece = λ n f at. sym (h.piece n f (sym (ap (λ (z : Frames FrameEnv). z n) h.frames) ∙ at));
    joins = sym h.joins;
    totals = sym h.totals;
    stopped = sym h.stopped;
  }

  pub choices_decide : ChoicesDecide p inputs
  choices_decide = record {
    opens = opens_alike;
    first = λ s h. record { steps = []; reaches = (s, h, refl); running = h.3 };
    goes_on = λ s s' d d' c x going h.
        let law = choices_are_steps p inputs in
        let r = law.reached going.steps s s' d d' c x going.running going.reaches h in
        record { steps = r.0; reaches = r.1; running = still_going s s' d d' c x going.running h };
    halts = halted;
    leads = λ s t s' t' d d' d'' c x y going agree h k.
        let g = kept s going in
        leads_by s t.piece agree.piece g.0 g.1 c c refl s' t' d d' d'' x y h (subst (λ z. Chooses p inputs z d c y t' d'') (agreed s t agree) k);
    stops = λ s t s' t' d c going agree h k.
        let g = kept s going in
        stops_by s t.piece agree.piece g.0 g.1 c s' t' d h (subst (λ z. StopsAt p inputs z d c t') (agreed s t agree) k);
    apart = λ s t s' t' d d' c x going agree h k.
        let g = kept s going in
        apart_by s t.piece agree.piece g.0 g.1 c c refl s' t' d d' x h (subst (λ z. Chooses p inputs z d c x t' d') (agreed s t agree) k);
    leads_apart = λ s t s' t' d d' c x going agree h k.
        let g = kept s going in
        let m = stop_moves s t.piece c t' d (subst (λ z. StopsAt p inputs z d c t') (agreed s t agree) k) in
        apart_by s s.piece (λ n f at. refl) g.0 g.1 c c refl m.0 s' d d' x m.1 h;
    outcome = λ s t going agree over.
        let g = kept s going in
        ap (λ z. outcome_in p z) (agreed s t agree) ∙ outcome_by s t.piece agree.piece g.0 g.1 over;
  }
