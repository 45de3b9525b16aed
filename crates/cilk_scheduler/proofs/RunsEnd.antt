-- The first frame ends.
--
-- - `no_snoc`, `result_end`: names, and what an end gives;
-- - `outcome_is`: what the run leaves;
-- - `runs_end`: the law.
use Rattle.std.proofs.Common.{◌≡◌, ⊎_elim, ℕ, suc, false, true≢false, ℤ, List, [], ◌∷◌, ◌++◌, length, slice_get, Some, None, refl, sym, ap, ◌∙◌, subst}
use Rattle.cilk_types.specs.declared.event.Instance as numbered
use Rattle.cilk_program.specs.declared.ask.Ask.TheVariants as asks
use Rattle.cilk_program.specs.SerialRun.{global_reducer}
use Rattle.cilk_program.specs.Syntax.{Source}
use Rattle.cilk_lower.specs.Code.{CodeView}
use Rattle.cilk_frames.specs.declared.activation.Activation.{Activation}
use Rattle.cilk_hypermap.specs.Hypermap.{value_in}
use Rattle.cilk_determinacy.specs.Machine.{State, HasEnd, Makes, deeds_at}
use Rattle.cilk_determinacy.specs.Runs.{Name, Global, Instance, Output, Reads, Writes, Syncs, Ends, Passes, Deed, Does, Invokes}
use Rattle.cilk_determinacy.specs.FrameEnvMachine.{costs, has_ended, retired_by}
use Rattle.cilk_determinacy.specs.Reducers.{View, kind_of, monoid_of}
use Rattle.cilk_determinacy.specs.Steps.{Next, outcome_in, result_in}
use Rattle.cilk_determinacy.specs.FrameEnvViews.{IsViewOf}
use Rattle.cilk_determinacy.specs.FrameEnvs.{FrameEnv, global_named}
use Rattle.cilk_scheduler.specs.declared.scheduler.Scheduler.{Scheduler}
use Rattle.cilk_scheduler.specs.declared.choice.Choice.TheVariants.{Run}
use Rattle.cilk_scheduler.specs.declared.frame_state.FrameState.{FrameState}
use Rattle.cilk_scheduler.specs.declared.frame_state.Status.TheVariants.{Held, Offered}
use Rattle.cilk_scheduler.specs.declared.frame_state.Worker.{Worker}
use Rattle.cilk_scheduler.specs.Acting.{IsShown}
use Rattle.cilk_scheduler.specs.WorkerTables.{WorkerTable, Did, Chooses, Settles, does, ends_all, idle}
use Rattle.cilk_scheduler.specs.Ending.{EndsRun, IsEnded, RunsEnd}
use Rattle.cilk_frames.specs.Leaving.{outcome_of}
use Rattle.cilk_scheduler.specs.Numbered.{AreNamed, IsInstance}
use Rattle.cilk_scheduler.specs.Parents.{AreStarted}
use Rattle.cilk_scheduler.specs.FrameStates.{counted, finished}
use Rattle.cilk_scheduler.specs.Steps.{HasCome}
use Rattle.cilk_scheduler.specs.Waiting.{idling}
use Rattle.cilk_scheduler.proofs.Altered as altering
use Rattle.cilk_scheduler.proofs.Carries as carries
use Rattle.cilk_scheduler.proofs.Changing.{changed_here, changed_off, changed_length}
use Rattle.cilk_scheduler.proofs.Ended as ended
use Rattle.cilk_scheduler.proofs.Outcomes.{left_is}
use Rattle.cilk_scheduler.proofs.Plain.{get_low}

pub no_snoc : (n : Name) (z : ℕ) → [] ≡ n ++ z ∷ [] → ⊥
no_snoc [] z e = let f : [] ≡ z ∷ [] = e in cc
no_snoc (j ∷ n) z e = let f : [] ≡ j ∷ (n ++ z ∷ []) = e in cc

-- the result of an end
result_end : (ds : List (Deed FrameEnv)) (v : ℤ) (gone : List Instance) → has_ended ds ≡ false → result_in (ds ++ Does (Ends v gone) ∷ []) ≡ v
result_end [] v gone h = refl
result_end (Does (Reads c x) ∷ ds) v gone h = result_end ds v gone h
result_end (Does (Writes c x) ∷ ds) v gone h = result_end ds v gone h
result_end (Does Syncs ∷ ds) v gone h = result_end ds v gone h
result_end (Does (Ends x y) ∷ ds) v gone h = absurd (true≢false h)
result_end (Does (Passes m) ∷ ds) v gone h = result_end ds v gone h
result_end (Invokes b w ∷ ds) v gone h = result_end ds v gone h

module _ (code : CodeView) (p : Source) (inputs : List ℤ) (name : ℕ → Name) (b b' : Scheduler) (d : WorkerTable) (s : State FrameEnv View) (w : ℕ) (v : ℤ) (is_shown : IsShown code p inputs name b d s) (started_as : AreStarted p s) (h : HasCome code p inputs b w 0 (asks.End v)) (e : EndsRun code p inputs b b' w v h) where
  abbrev old_frame_states : List (Activation FrameState)
  old_frame_states = let f = b.frames in f.items

  abbrev old_workers : List Worker
  old_workers = let l = b.workers in l.items

  root : name 0 ≡ []
  root = let y = is_shown.shows in let o = y.tells in let n = o.named in n.root

  module _ (s' : State FrameEnv View) (m : Makes FrameEnv View monoid_of (Next p inputs) (costs p inputs) s (name 0) s') where
    moved : ended.Moved code p inputs name b d s w 0 v is_shown started_as h b' e.views e.closes s' m 0
    moved = record {
      on = subst (λ l. carries.Carries old_frame_states l) (sym e.frames) (carries.carries_changed (λ _. counted (finished h.came)) old_frame_states 0);
      same_length = ap (λ (l : List (Activation FrameState)). length l) e.frames ∙ changed_length (λ _. counted (finished h.came)) old_frame_states 0;
      else_at = λ j ne ne'. ap (λ l. slice_get l j) e.frames ∙ changed_off (λ _. counted (finished h.came)) old_frame_states 0 j ne;
      now_at = ap (λ l. slice_get l 0) e.frames ∙ changed_here (λ _. counted (finished h.came)) old_frame_states 0 h.frame_state h.sits;
      named = subst (λ l. AreNamed l name) (sym e.frames) (ended.named_ended code p inputs name b d s w 0 v is_shown started_as h b' e.views e.closes s' m);
      above = get_low old_frame_states 0 h.frame_state h.sits;
      kin = λ n z q. absurd (no_snoc n z (sym root ∙ q));
      worker_on = λ at u is.
          let r = altering.altered_on (idling e.left) old_workers w at u is in
          (r.0, ap (λ l. slice_get l at) e.workers ∙ r.1, ended.had_by code p inputs name b d s w 0 v is_shown started_as h b' e.views e.closes s' m 0 at (idling e.left) u r.0 (λ x. refl) r.2);
      worker_was = λ at u' is.
          let r = altering.altered_from (idling e.left) old_workers w at u' (sym (ap (λ l. slice_get l at) e.workers) ∙ is) in
          (r.0, r.1, ended.had_by code p inputs name b d s w 0 v is_shown started_as h b' e.views e.closes s' m 0 at (idling e.left) r.0 u' (λ x. refl) r.2);
    }

    -- the first frame's view of a reducer is the worker's
    view_is : (i : Instance) (j : numbered.Instance) → IsInstance p old_frame_states name i j → IsViewOf (kind_of i) (s'.piece [] i) (value_in e.views (kind_of i) j)
    view_is i j is = subst (λ n. IsViewOf (kind_of i) (s'.piece n i) (value_in e.views (kind_of i) j)) root (ended.left_views code p inputs name b d s w 0 v is_shown started_as h b' e.views e.closes s' m i j is)

    frame_now : s'.frames [] ≡ Some (let y = is_shown.shows in let o = y.sits 0 h.frame_state h.sits in let f = o.frame in record f { deeds = f.deeds ++ Does (Ends v (retired_by p f.what)) ∷ [] })
    frame_now = ap s'.frames (sym root) ∙ ended.frame_here code p inputs name b d s w 0 v is_shown started_as h b' e.views e.closes s' m

    ended_now : HasEnd (deeds_at (s'.frames []))
    ended_now = subst (λ f. HasEnd (deeds_at f)) (sym frame_now) (ended.end_last (let y = is_shown.shows in let o = y.sits 0 h.frame_state h.sits in let f = o.frame in f.deeds) v (let y = is_shown.shows in let o = y.sits 0 h.frame_state h.sits in let f = o.frame in retired_by p f.what))

    outcome_is : (let c = b.cells in outcome_of code.layout c.items e.views v) ≡ outcome_in p s'
    outcome_is =
        let y = is_shown.shows in
        let c = b.cells in
        let low = get_low old_frame_states 0 h.frame_state h.sits in
        left_is e.views (λ i. s'.piece [] i) (λ n k. view_is (global_named n k) (global_reducer n) (0, low, root, refl, refl)) p code.layout c.items v s' is_shown.lays (λ i. refl)
        (ap (λ f. result_in (deeds_at f)) frame_now ∙ result_end (let o = y.sits 0 h.frame_state h.sits in let f = o.frame in f.deeds) v _ (ended.goes code p inputs name b d s w 0 v is_shown started_as h))
        (λ n lt. y.memory (Global n) n (refl, lt) ∙ ap (λ x. Some x) (sym (ended.memory_at code p inputs name b d s w 0 v is_shown started_as h b' e.views e.closes s' m (Global n))))
        (view_is Output (record { frame = 0; place = 0 }) (refl, refl))

    settled : ended.Settled code p inputs name b d s w 0 v is_shown started_as h b' e.views e.closes s' m 0 moved (idle d w)
    settled = record {
      parent = λ a ne. absurd (ne refl);
      mine = λ j u is has.
          let r = altering.altered_from (idling e.left) old_workers w w u (sym (ap (λ l. slice_get l w) e.workers) ∙ is) in
          ⊎_elim (λ g. let no : None ≡ Some j = ap (λ (z : Worker). z.frame) (sym g.1) ∙ has in let f : ⊥ = cc in absurd f) (λ g. absurd (g.0 refl)) r.2;
      held = λ at u ne off. absurd (off refl);
      worker_table = ended.worker_table_kept code p inputs name b d s w 0 v is_shown started_as h b' e.views e.closes s' m 0 moved (idling e.left) None (λ u. refl) (λ u. refl) e.workers e.offered d.waiting (λ n is. is)
          (λ at x is status.
          let same : h.frame_state ≡ x = (let q : Some h.frame_state ≡ Some x = sym h.sits ∙ is in cc) in
          let z = sym (ended.status_was code p inputs name b d s w 0 v is_shown started_as h) ∙ ap (λ (a : Activation FrameState). let y = a.cursor in y.status) same ∙ status in
          absurd (not_both w at z))
          (ended.waits_as code p inputs name b d s w 0 v is_shown started_as h b' e.views e.closes s' m 0 moved d.waiting (λ j low ne. ((λ x. x), (λ x. x))) (λ a ne. absurd (ne refl)) (λ x. x));
      going = λ none. let no : None ≡ Some _ = sym none ∙ e.outcome in let f : ⊥ = cc in absurd f;
      over = λ o at. (ended_now, (let q : Some o ≡ Some _ = sym at ∙ e.outcome in let same : o ≡ (let c = b.cells in outcome_of code.layout c.items e.views v) = cc in same ∙ outcome_is));
    }
      where
        not_both : (w at : ℕ) → Held w ≡ Offered at → ⊥
        not_both w at q = cc

    chooses : Chooses p inputs s d (Run (suc w)) Did s' (idle d w)
    chooses =
        let f = m.frame in
        does w (name 0) s' (idle d w) (ended.hand_is code p inputs name b d s w 0 v is_shown started_as h) m
        (subst (λ a. Settles s' d w (name 0) f.deeds a (idle d w)) (sym (ended.ask_is code p inputs name b d s w 0 v is_shown started_as h b' e.views e.closes s' m)) (ends_all v _ root))

  pub run_ended : IsEnded code p inputs name b' d s w
  run_ended =
      let n = ended.makes code p inputs name b d s w 0 v is_shown started_as h in
      (n.after, idle d w, chooses n.after n.makes, ended.shown_after code p inputs name b d s w 0 v is_shown started_as h b' e.views e.closes n.after n.makes 0 (moved n.after n.makes) (idle d w) (settled n.after n.makes))

pub runs_end : (code : CodeView) (p : Source) (inputs : List ℤ) → RunsEnd code p inputs
runs_end code p inputs name b b' d s w v is_shown started_as h e = run_ended code p inputs name b b' d s w v is_shown started_as h e
