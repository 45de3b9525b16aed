-- The end of a worker's frame is a step of the free machine.
--
-- - `acts_end`, `makes_end`: which events end a frame;
-- - `viewing_twice`: one worker gets other views, twice;
-- - `finds_parent`: the parent of a frame that ends;
-- - `retired`, `is_finished`: its reducers are gone, and it is finished;
-- - `leaves_run`, `leaves_parent`: the laws of ends, the first frame's and another's;
-- - `told_ends`: from what the functions change, by numbers.
use Rattle.std.proofs.Common.{◌≡◌, ◌+◌, ◌-◌, ℕ, zero, suc, cond, ℤ, List, [], ◌∷◌, ◌++◌, length, slice_get, Some, None, Result, Ok, Err, IfOk, refl, sym, ap, ◌∙◌, subst, arith}
use Rattle.cilk_types.specs.declared.event.Event as numbered
use Rattle.cilk_types.specs.declared.event.Event.TheVariants as events
use Rattle.cilk_program.specs.Syntax.{Source}
use Rattle.cilk_program.specs.declared.ask.Ask.{Ask}
use Rattle.cilk_program.specs.declared.ask.Ask.TheVariants as asks
use Rattle.cilk_lower.specs.Code.{CodeView}
use Rattle.cilk_frames.specs.declared.activation.Activation.{Activation}
use Rattle.cilk_hypermap.specs.declared.hypermap.Hypermap.{Hypermap}
use Rattle.cilk_determinacy.specs.Machine.{State}
use Rattle.cilk_determinacy.specs.Runs.{Name}
use Rattle.cilk_determinacy.specs.Reducers.{View}
use Rattle.cilk_determinacy.specs.FrameEnvs.{FrameEnv}
use Rattle.cilk_scheduler.specs.Acting.{IsShown}
use Rattle.cilk_scheduler.specs.Schedulers.{IsWhere}
use Rattle.cilk_scheduler.specs.WorkerTables.{WorkerTable, Chooses, Did}
use Rattle.cilk_scheduler.specs.EndParts.{Brings, HasRetired, IsFinished, Seeks}
use Rattle.cilk_scheduler.specs.Ending.{IsEnded, RetiresOwn}
use Rattle.cilk_scheduler.specs.Invocations.{HasGoneOn, IsNoted}
use Rattle.cilk_frames.specs.Leaving.{outcome_of}
use Rattle.cilk_scheduler.specs.Parents.{AreStarted, OutliveChildren}
use Rattle.cilk_scheduler.specs.Parts.{freed, working}
use Rattle.cilk_scheduler.specs.FrameStates.{changed, finished, moved_to, passed}
use Rattle.cilk_scheduler.specs.Steps.{HasCome}
use Rattle.cilk_scheduler.specs.Workers.{altered, held_by, viewing}
use Rattle.cilk_scheduler.specs.declared.scheduler.Scheduler.{Scheduler}
use Rattle.cilk_scheduler.specs.declared.choice.Choice.TheVariants as choices
use Rattle.cilk_scheduler.specs.declared.choice.Stop.{Stop}
use Rattle.cilk_scheduler.specs.declared.choice.Told.{Told}
use Rattle.cilk_scheduler.specs.declared.frame_state.FrameState.{FrameState}
use Rattle.cilk_scheduler.specs.declared.frame_state.Status.{Status}
use Rattle.cilk_scheduler.specs.declared.frame_state.Status.TheVariants.{Held, Offered}
use Rattle.cilk_scheduler.specs.declared.frame_state.Worker.{Worker}
use Rattle.cilk_scheduler.proofs.Awaited.{may_arrive}
use Rattle.cilk_scheduler.proofs.Changing.{changed_here, changed_off}
use Rattle.cilk_scheduler.proofs.EndParts.{go_back, handed_in, runs_left}
use Rattle.cilk_scheduler.proofs.HandingIn.{arrivals_are_shown}
use Rattle.cilk_scheduler.proofs.Returning.{returns_are_shown}
use Rattle.cilk_scheduler.proofs.RunsEnd.{runs_end}
use Rattle.cilk_scheduler.proofs.Stepped.{kept_by}
use Rattle.cilk_schedule.specs.Acts.{Acts, MakesEvent, WentTo, begins, resumes, reads, writes, gives, creates, updates, sets, values, prints}
use Rattle.cilk_schedule.specs.Choices.{IsReadyAt}
use Rattle.cilk_schedule.specs.Ends.{BringsPiece, PartsFrom, Ended, EndsAreSteps, FindsParent, IsOfferedAmong, LeavesRun, MayBring, ReturnsUp, TellsEnd, WroteEnd}
use Rattle.cilk_schedule.specs.Reached.{IsReached}
use Rattle.cilk_schedule.specs.Sound.{IsAccepted}
use Rattle.cilk_schedule.proofs.Reaching.{choices_lead_on}
use Rattle.cilk_schedule.proofs.Started.{has_come}
use Rattle.cilk_schedule.proofs.Stepping.{held_place}
use Rattle.cilk_schedule.proofs.Workers.{inside, same_at}

-- ---- which events end a frame

pub acts_end : (frames : List (Activation FrameState)) (cells : List ℤ) (views : Hypermap) (k : ℕ) (ask : Ask) (act : FrameState → FrameState) (event : numbered.Event) (cells' : List ℤ) (views' : Hypermap) → Acts frames cells views k ask act event cells' views' → event ≡ events.End → ⊥
acts_end frames cells views k ask act event cells' views' begins e = cc
acts_end frames cells views k ask act event cells' views' resumes e = cc
acts_end frames cells views k ask act event cells' views' (reads place n v means at) e = cc
acts_end frames cells views k ask act event cells' views' (writes place n v means) e = cc
acts_end frames cells views k ask act event cells' views' (gives n v a at is) e = cc
acts_end frames cells views k ask act event cells' views' (creates r j vs means is) e = cc
acts_end frames cells views k ask act event cells' views' (updates r v j vs word means is) e = cc
acts_end frames cells views k ask act event cells' views' (sets r v j vs word means is) e = cc
acts_end frames cells views k ask act event cells' views' (values r v j vs means num is) e = cc
acts_end frames cells views k ask act event cells' views' (prints v vs word is) e = cc

pub makes_end : (frames frames' : List (Activation FrameState)) (cells cells' : List ℤ) (views views' : Hypermap) (k : ℕ) (ask : Ask) (event : numbered.Event) → MakesEvent frames frames' cells cells' views views' k ask event → event ≡ events.End → ⊥
makes_end frames frames' cells cells' views views' k ask event m = acts_end frames cells views k ask m.0 event cells' views' m.1

viewing_twice : (h g : Hypermap) (ws : List Worker) (w : ℕ) → viewing g (viewing h ws w) w ≡ viewing g ws w
viewing_twice h g [] w = refl
viewing_twice h g (u ∷ ws) zero = refl
viewing_twice h g (u ∷ ws) (suc w) = ap (λ l. u ∷ l) (viewing_twice h g ws w)

module _ (code : CodeView) (p : Source) (inputs : List ℤ) (name : ℕ → Name) (b : Scheduler) (d : WorkerTable) (s : State FrameEnv View) (w : ℕ) (v : ℤ) (sh : IsShown code p inputs name b d s) where
  -- ---- the parent of a frame that ends

  module _ (outlive : OutliveChildren s) (j : ℕ) (h : HasCome code p inputs b w (suc j) (asks.End v)) (went : List (Activation FrameState)) (is : let f = b.frames in went ≡ changed (λ _. h.came) f.items (suc j)) where
    abbrev frame_states : List (Activation FrameState)
    frame_states = let f = b.frames in f.items

    abbrev own : FrameState
    own = let a = h.frame_state in a.cursor

    -- its state once it has stepped to its end
    own_is : (a : Activation FrameState) → slice_get went (suc j) ≡ Some a → a.cursor ≡ record own { cursor = (let y = h.came in y.cursor); took = (let y = h.came in y.took) }
    own_is a at =
        ap (λ (z : Activation FrameState). z.cursor) (same_at went (suc j) a (record h.frame_state { cursor = h.came }) at (ap (λ l. slice_get l (suc j)) is ∙ changed_here (λ _. h.came) frame_states (suc j) h.frame_state h.sits))
        ∙ kept_by code p inputs own h.came (asks.End v) own.due h.went

    apart : own.parent ≡ suc j → ⊥
    apart e = let y = sh.shows in let t = y.tells in let n = t.named in let c = n.child j h.frame_state h.sits in let low = c.0 in omega (arith, e, low)

    -- its parent stays where it was
    above_is : (above : Activation FrameState) → slice_get went own.parent ≡ Some above → slice_get frame_states own.parent ≡ Some above
    above_is above up = sym (changed_off (λ _. h.came) frame_states (suc j) own.parent (λ e. apart (sym e))) ∙ ap (λ l. slice_get l own.parent) (sym is) ∙ up

    offered_among : (above : Activation FrameState) → slice_get frame_states own.parent ≡ Some above → let y = above.cursor in let l = b.workers in IsOfferedAmong y.status (length l.items)
    offered_among above up victim e =
        let shows = sh.shows in
        let l = b.workers in
        let y = above.cursor in
        let o = shows.sits own.parent above up in
        let f = o.frame in
        let at : IsWhere code p inputs name b s own.parent (name own.parent) f.deeds y (Offered victim) = subst (λ (t : Status). IsWhere code p inputs name b s own.parent (name own.parent) f.deeds y t) e o.is_where in
        inside l.items victim at.6 at.7

    pub finds_parent : (count : ℕ) → (let l = b.workers in length l.items ≡ count) → FindsParent went count (suc j)
    finds_parent count many child a above at up =
        let l = b.workers in
        let y = above.cursor in
        let mine = own_is a at in
        let parent = ap (λ (x : FrameState). x.parent) mine in
        let there = above_is above (ap (λ n. slice_get went n) (sym parent) ∙ up) in
        let law = may_arrive code p inputs name b d s w j v sh outlive h in
        let same : law.0 ≡ above = same_at frame_states own.parent law.0 above law.1 there in (
          subst (λ n. IsOfferedAmong y.status n) many (offered_among above there),
          λ stolen.
              subst (λ n. MayBring y n) (sym (ap (λ (x : FrameState). x.ordinal) mine))
              (subst (λ (z : Activation FrameState). MayBring z.cursor own.ordinal) same (law.2 (sym (ap (λ (x : FrameState). x.stolen) mine) ∙ stolen))),
        )

  -- ---- from what the functions change

  module _ (k : ℕ) (h : HasCome code p inputs b w k (asks.End v)) (b1 made b2 : Scheduler) (gone : HasGoneOn b b1 k h.came) (t : Ended code b1 made w k v) (noted : IsNoted made b2 k events.End) where
    abbrev went_frame_states : List (Activation FrameState)
    went_frame_states = let f = b1.frames in f.items

    retired : HasRetired code p inputs b w k v h went_frame_states t.views
    retired =
        let l = b.workers in
        let mine : t.worker ≡ h.worker = same_at l.items w t.worker h.worker (ap (λ ws. slice_get ws w) (sym gone.workers) ∙ t.at) h.at in record {
          goes = gone.frames;
          retires = λ a at.
              subst (λ (u : Worker). RetiresOwn code.layout a u.views t.views) mine (subst (λ (z : Activation FrameState). let u = t.worker in RetiresOwn code.layout z u.views t.views) (same_at went_frame_states k t.top a t.sits at) t.retires);
        }

    is_finished : (frames : List (Activation FrameState)) → (let m = t.departed in let f = m.frames in f.items ≡ frames) → IsFinished b b2 k frames
    is_finished frames same = record {
      acted = (let f = made.frames in f.items);
      finishes = t.frames ∙ ap (λ l. changed finished l k) same;
      counts = noted.frames;
      ticks = λ a at. noted.ticks a at ∙ ap (λ n. n + (let x = a.cursor in x.took - x.counted)) (t.ticks ∙ gone.ticks);
      journal = noted.journal ∙ ap (λ l. l ++ (record { frame = k; event = events.End }) ∷ []) (t.journal ∙ gone.journal);
      cells = noted.cells ∙ ap (λ z. z.items) t.cells ∙ gone.cells;
    }

    outcome_is : b2.outcome ≡ (let m = t.departed in m.outcome)
    outcome_is = noted.outcome ∙ t.outcome

    offered_is : b2.offered ≡ (let m = t.departed in m.offered)
    offered_is = noted.offered ∙ t.offered

    workers_are : (let l = b2.workers in let m = t.departed in let n = m.workers in l.items ≡ n.items)
    workers_are = noted.workers ∙ ap (λ z. z.items) t.workers

    viewed_are : (let l = b1.workers in let m = b.workers in viewing t.views l.items w ≡ viewing t.views m.items w)
    viewed_are = ap (λ ws. viewing t.views ws w) gone.workers

    viewed_again : (left : Hypermap) → (let l = b1.workers in let m = b.workers in viewing left (viewing t.views l.items w) w ≡ viewing left m.items w)
    viewed_again left = let l = b1.workers in viewing_twice t.views left l.items w ∙ ap (λ ws. viewing left ws w) gone.workers

  abbrev Parts : Scheduler → Scheduler → ℕ → Hypermap → Type 0
  Parts b1 departed k views = let f = b1.frames in let c = b1.cells in let l = b1.workers in PartsFrom code f.items c.items (viewing views l.items w) b1.offered b1.outcome views departed w k v

  -- ---- the first frame

  leaves_run : AreStarted p s → (h : HasCome code p inputs b w 0 (asks.End v)) (b1 made b2 : Scheduler) → HasGoneOn b b1 0 h.came → (t : Ended code b1 made w 0 v) → IsNoted made b2 0 events.End → Parts b1 t.departed 0 t.views → IsEnded code p inputs name b2 d s w
  leaves_run started h b1 made b2 gone t noted (LeavesRun z left outcome frames workers offered) =
      let f1 = b1.frames in
      let l = b.workers in
      runs_end code p inputs name b b2 d s w v sh started h
      (runs_left code p inputs b b2 w v h f1.items t.views left (viewing left l.items w) (retired 0 h b1 made b2 gone t noted)
      (outcome_is 0 h b1 made b2 gone t noted ∙ outcome ∙ ap (λ c. Some (outcome_of code.layout c t.views v)) gone.cells) refl
      (workers_are 0 h b1 made b2 gone t noted ∙ workers ∙ ap (λ ws. altered freed ws w) (viewed_again 0 h b1 made b2 gone t noted left))
      (offered_is 0 h b1 made b2 gone t noted ∙ offered ∙ gone.offered) (is_finished 0 h b1 made b2 gone t noted f1.items frames))
  leaves_run started h b1 made b2 gone t noted (ReturnsUp child a above others here kept up seeks frames workers outcome) = absurd (omega (arith, child))
  leaves_run started h b1 made b2 gone t noted (BringsPiece child a above joined left passes brought here stolen up brings brought_is frames workers offered outcome) = absurd (omega (arith, child))

  -- ---- a frame that has a parent

  leaves_parent : AreStarted p s → OutliveChildren s → (j : ℕ) (h : HasCome code p inputs b w (suc j) (asks.End v)) (b1 made b2 : Scheduler) → HasGoneOn b b1 (suc j) h.came → (t : Ended code b1 made w (suc j) v) → IsNoted made b2 (suc j) events.End
      → Parts b1 t.departed (suc j) t.views → IsEnded code p inputs name b2 d s w
  leaves_parent started outlive j h b1 made b2 gone t noted (LeavesRun z left outcome frames workers offered) = absurd (omega (arith, z))
  leaves_parent started outlive j h b1 made b2 gone t noted (ReturnsUp child a above others here kept up seeks frames workers outcome) =
      let f1 = b1.frames in
      let l = b.workers in
      let m = t.departed in
      let fd = m.frames in
      let x = (let q = h.frame_state in q.cursor) in
      let y = above.cursor in
      let mine = own_is outlive j h f1.items gone.frames a here in
      let parent = ap (λ (z : FrameState). z.parent) mine in
      let sought : Seeks x.parent y.status (viewing t.views l.items w) others b.offered b2.offered =
      subst (λ n. Seeks n y.status (viewing t.views l.items w) others b.offered b2.offered) parent
      (subst (λ ws. let z = a.cursor in Seeks z.parent y.status ws others b.offered b2.offered) (viewed_are (suc j) h b1 made b2 gone t noted)
      (subst (λ n. let l1 = b1.workers in let z = a.cursor in Seeks z.parent y.status (viewing t.views l1.items w) others n b2.offered) gone.offered
      (subst (λ n. let l1 = b1.workers in let z = a.cursor in Seeks z.parent y.status (viewing t.views l1.items w) others b1.offered n) (sym (offered_is (suc j) h b1 made b2 gone t noted)) seeks))) in
      returns_are_shown code p inputs name b b2 d s w j v sh started outlive h
      (go_back code p inputs name b b2 d s w j v sh.shows h f1.items fd.items t.views (viewing t.views l.items w) others above (retired (suc j) h b1 made b2 gone t noted)
      (sym (ap (λ (z : FrameState). z.stolen) mine) ∙ kept) (ap (λ n. slice_get f1.items n) (sym parent) ∙ up) refl sought (frames ∙ ap (λ n. changed (moved_to (Held w)) f1.items n) parent)
      (workers_are (suc j) h b1 made b2 gone t noted ∙ workers ∙ ap (λ n. altered (working n) others w) parent) (outcome_is (suc j) h b1 made b2 gone t noted ∙ outcome ∙ gone.outcome)
      (is_finished (suc j) h b1 made b2 gone t noted fd.items refl))
  leaves_parent started outlive j h b1 made b2 gone t noted (BringsPiece child a above joined left passes brought here stolen up brings brought_is frames workers offered outcome) =
      let f1 = b1.frames in
      let l = b.workers in
      let m = t.departed in
      let fd = m.frames in
      let x = (let q = h.frame_state in q.cursor) in
      let y = above.cursor in
      let mine = own_is outlive j h f1.items gone.frames a here in
      let parent = ap (λ (z : FrameState). z.parent) mine in
      arrivals_are_shown code p inputs name b b2 d s w j v sh started outlive h
      (handed_in code p inputs name b b2 d s w j v sh.shows h f1.items brought fd.items t.views left (viewing left l.items w) above joined passes (retired (suc j) h b1 made b2 gone t noted)
      (sym (ap (λ (z : FrameState). z.stolen) mine) ∙ stolen) (ap (λ n. slice_get f1.items n) (sym parent) ∙ up) (subst (λ n. Brings y n t.views passes joined left) (ap (λ (z : FrameState). z.ordinal) mine) brings)
      (brought_is ∙ ap (λ n. changed (λ _. joined) f1.items n) parent) (frames ∙ ap (λ n. cond passes (changed (moved_to (Held w)) (changed passed brought n) n) brought) parent) refl
      (workers_are (suc j) h b1 made b2 gone t noted ∙ workers ∙ ap (λ n. (let l1 = b1.workers in altered (cond passes (working n) freed) (viewing left (viewing t.views l1.items w) w) w)) parent
      ∙ ap (λ ws. altered (cond passes (working x.parent) freed) ws w) (viewed_again (suc j) h b1 made b2 gone t noted left))
      (offered_is (suc j) h b1 made b2 gone t noted ∙ offered ∙ gone.offered) (outcome_is (suc j) h b1 made b2 gone t noted ∙ outcome ∙ gone.outcome)
      (is_finished (suc j) h b1 made b2 gone t noted fd.items refl))

-- ---- the law

abbrev EndsAs : CodeView → Source → List ℤ → (ℕ → Name) → Scheduler → WorkerTable → State FrameEnv View → ℕ → Type 0
EndsAs code p inputs name b' d s w = (s' : State FrameEnv View) × (d' : WorkerTable) × Chooses p inputs s d (choices.Run w) Did s' d' × IsReached code p inputs name b' d' s'

module _ (code : CodeView) (p : Source) (inputs : List ℤ) (name : ℕ → Name) (b b1 b2 : Scheduler) (d : WorkerTable) (s : State FrameEnv View) (w : ℕ) (u : Worker) (r : IsReached code p inputs name b d s) (still : b.outcome ≡ None) (at : let l = b.workers in slice_get l.items w ≡ Some u) where
  end_at : (k : ℕ) → u.frame ≡ Some k → WentTo code inputs b b1 k → IsAccepted code b1 k → WroteEnd code b1 b2 w k → IsEnded code p inputs name b2 d s w
  end_at zero has go ok wrote =
      let e = wrote.ends in
      let v = e.0 in
      let come = has_come code p inputs b b1 w 0 u (asks.End v) still at has go ok e.1 in
      let t = e.2 (λ child. absurd (omega (arith, child))) in
      leaves_run code p inputs name b d s w v r.shown r.started come.0 b1 wrote.made b2 come.1 t wrote.noted t.departs
  end_at (suc j) has go ok wrote =
      let e = wrote.ends in
      let v = e.0 in
      let f1 = b1.frames in
      let l1 = b1.workers in
      let come = has_come code p inputs b b1 w (suc j) u (asks.End v) still at has go ok e.1 in
      let gone = come.1 in
      let t = e.2 (finds_parent code p inputs name b d s w v r.shown r.outlive j come.0 f1.items gone.frames (length l1.items) (ap (λ (ws : List Worker). length ws) (sym gone.workers))) in
      leaves_parent code p inputs name b d s w v r.shown r.started r.outlive j come.0 b1 wrote.made b2 gone t wrote.noted t.departs

  end_is_step : (k : ℕ) → u.frame ≡ Some k → WentTo code inputs b b1 k → IsAccepted code b1 k → WroteEnd code b1 b2 w k → EndsAs code p inputs name b2 d s (suc w)
  end_is_step k has go ok wrote =
      let law = end_at k has go ok wrote in
      (law.0, law.1, law.2, choices_lead_on code p inputs name name b b2 d law.1 s law.0 (choices.Run (suc w)) Did r law.2 law.3)

pub told_ends : (code : CodeView) (inputs : List ℤ) (b b1 b2 : Scheduler) (worker v k : ℕ) → worker ≡ suc v → IsReadyAt b worker k → WentTo code inputs b b1 k → IsAccepted code b1 k → (r : Result Told Stop)
    → IfOk r (λ t. TellsEnd code b1 b2 v k t) → IfOk r (λ t. b.outcome ≡ None → EndsAreSteps code inputs b b2 (choices.Run worker) t)
told_ends code inputs b b1 b2 worker v k is ready went ok (Ok t) q = λ still.
    subst (λ t. EndsAreSteps code inputs b b2 (choices.Run worker) t) (sym q.1)
    (λ ended p name d s r.
    let ws = b.workers in
    let u = held_place ws.items v k (subst (λ z. held_by ws.items z ≡ Some k) is ready.held) in
    subst (λ z. EndsAs code p inputs name b2 d s z) (sym is) (end_is_step code p inputs name b b1 b2 d s v u.0 r still u.1 k u.2 went ok (q.2 ended)))
told_ends code inputs b b1 b2 worker v k is ready went ok (Err x) q = tt
