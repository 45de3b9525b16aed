-- A frame ends beside which no continuation was stolen: its worker continues with the parent.
--
-- - `end_true`: an end among deeds;
-- - `child_is`, `last_deed`, `awaits`: the parent waits for this frame;
-- - `Had`, `moved`: the changes of workers and frame states;
-- - `parent_sits`, `holds_parent`: the parent's state, and the worker that has it;
-- - `worker_table_called`, `worker_table_offered`: the worker table;
-- - `returns_are_shown`: the law.
use Rattle.std.proofs.Common.{◌≡◌, ◌⊎◌, inl, inr, ⊎_elim, ◌+◌, ◌-◌, ◌<◌, ℕ, suc, Bool, true, false, true≢false, cond, ℤ, List, [], ◌∷◌, ◌++◌, length, map, set, slice_get, sum, Some, None, refl, sym, ap, ◌∙◌, subst, arith}
use Rattle.std.specs.Prelude.{remove}
use Rattle.std.specs.Option.{option_map}
use Rattle.std.proofs.lemmas.List.Edits.{length-remove}
use Rattle.cilk_types.specs.declared.invocation.Invocation.{Invocation}
use Rattle.cilk_monoid.specs.Laws.{MonoidStructure}
use Rattle.cilk_program.specs.declared.ask.Ask.TheVariants as asks
use Rattle.cilk_program.specs.Syntax.{Source}
use Rattle.cilk_lower.specs.Code.{CodeView}
use Rattle.cilk_frames.specs.declared.activation.Activation.{Activation}
use Rattle.cilk_hypermap.specs.Hypermap.{value_in}
use Rattle.cilk_determinacy.specs.Machine.{Frame, State, HasEnd, Makes, deeds_at, started}
use Rattle.cilk_determinacy.specs.Progress.{AfterChild, AfterEvent, AfterSteal, AtBegin, GoesOn, child_after}
use Rattle.cilk_determinacy.specs.Runs.{Name, Instance, Reads, Writes, Syncs, Ends, Passes, Deed, Does, Invokes}
use Rattle.cilk_determinacy.proofs.Basics.{nil_snoc, same_name-refl, snoc_one}
use Rattle.cilk_determinacy.proofs.Started.{started_invokes}
use Rattle.cilk_determinacy.specs.FrameEnvMachine.{costs, has_ended}
use Rattle.cilk_determinacy.specs.Reducers.{View, kind_of, monoid_of}
use Rattle.cilk_determinacy.specs.Steps.{Next}
use Rattle.cilk_determinacy.specs.FrameEnvViews.{IsViewOf}
use Rattle.cilk_determinacy.specs.FrameEnvs.{FrameEnv}
use Rattle.cilk_scheduler.specs.declared.scheduler.Scheduler.{Scheduler}
use Rattle.cilk_scheduler.specs.declared.choice.Choice.TheVariants.{Run}
use Rattle.cilk_scheduler.specs.declared.frame_state.Due.TheVariants as due
use Rattle.cilk_scheduler.specs.declared.frame_state.FrameState.{FrameState}
use Rattle.cilk_scheduler.specs.declared.frame_state.Status.{Status}
use Rattle.cilk_scheduler.specs.declared.frame_state.Status.TheVariants.{Held, Calling, Offered, Waiting, Finished}
use Rattle.cilk_scheduler.specs.declared.frame_state.Worker.{Worker}
use Rattle.cilk_scheduler.specs.Acting.{IsShown}
use Rattle.cilk_scheduler.specs.Schedulers.{carried, hand_of, offers_of, is_resuming, is_there, IsBare, IsUsed, HasBlock, Holds, IsWorkerTable, IsWhere, Sits, ShowsBy}
use Rattle.cilk_scheduler.specs.WorkerTables.{WorkerTable, Did, Chooses, IsIn, Settles, does, holds, returns, withdrawn, without}
use Rattle.cilk_scheduler.specs.Ending.{GoesBack, IsEnded, ReturnsAreShown, TakesBack, WasNotOffered, WasOffered}
use Rattle.cilk_scheduler.specs.Numbered.{AreNamed}
use Rattle.cilk_scheduler.specs.Parents.{AreStarted, OutliveChildren}
use Rattle.cilk_scheduler.specs.FrameStates.{changed, counted, finished, moved_to}
use Rattle.cilk_scheduler.specs.Steps.{HasCome}
use Rattle.cilk_scheduler.specs.Workers.{altered, holding}
use Rattle.cilk_scheduler.specs.OfferLists.{Withdraws}
use Rattle.cilk_scheduler.proofs.Altered as altering
use Rattle.cilk_scheduler.proofs.Carried.{resuming_child}
use Rattle.cilk_scheduler.proofs.Carries as carries
use Rattle.cilk_scheduler.proofs.Changing.{changed_here, changed_off, changed_length}
use Rattle.cilk_scheduler.proofs.Ended as ended
use Rattle.cilk_scheduler.proofs.Kept.{named_changed}
use Rattle.cilk_scheduler.proofs.Onward.{end_of, has_end, name_off}
use Rattle.cilk_scheduler.proofs.Plain.{get_low}
use Rattle.cilk_scheduler.proofs.RunsEnd.{no_snoc}
use Rattle.cilk_scheduler.proofs.Thieves.{snoc_name}
use Rattle.cilk_scheduler.proofs.Under.{IsUnder, under_of}

pub end_true : (ds : List (Deed FrameEnv)) → HasEnd ds → has_ended ds ≡ true
end_true [] h = absurd h
end_true (Does (Reads c v) ∷ ds) h = end_true ds h
end_true (Does (Writes c v) ∷ ds) h = end_true ds h
end_true (Does Syncs ∷ ds) h = end_true ds h
end_true (Does (Ends v gone) ∷ ds) h = refl
end_true (Does (Passes m) ∷ ds) h = end_true ds h
end_true (Invokes how w ∷ ds) h = end_true ds h

-- a worker continues with the piece of the child that it has just run
taken_on : {V : Type 0} (S : MonoidStructure V) (piece : Name → V) (stolen : Name → Bool) (n : Name) (ds : List (Deed FrameEnv)) (merged : Bool) → merged ≡ false → is_resuming ds ≡ true → stolen (n ++ started ds ∷ []) ≡ false
    → carried S piece stolen n ds merged ≡ piece (n ++ started ds ∷ [])
taken_on S piece stolen n ds merged a b c = rw (a, b, c) refl

module _ (code : CodeView) (p : Source) (inputs : List ℤ) (name : ℕ → Name) (b b' : Scheduler) (d : WorkerTable) (s : State FrameEnv View) (w k : ℕ) (v : ℤ) (is_shown : IsShown code p inputs name b d s) (started_as : AreStarted p s) (outlive : OutliveChildren s)
    (h : HasCome code p inputs b w (suc k) (asks.End v)) (g : GoesBack code p inputs b b' w (suc k) v h) where
  abbrev sh : ShowsBy code p inputs name b d s
  sh = is_shown.shows

  abbrev old_frame_states : List (Activation FrameState)
  old_frame_states = let f = b.frames in f.items

  abbrev new_frame_states : List (Activation FrameState)
  new_frame_states = let f = b'.frames in f.items

  abbrev old_workers : List Worker
  old_workers = let l = b.workers in l.items

  abbrev new_workers : List Worker
  new_workers = let l = b'.workers in l.items

  abbrev frame_state : FrameState
  frame_state = let a = h.frame_state in a.cursor

  abbrev up : ℕ
  up = let a = h.frame_state in let x = a.cursor in x.parent

  abbrev parent : FrameState
  parent = let a = g.above in a.cursor

  abbrev sitting : Sits code p inputs name b s up g.above
  sitting = let y = is_shown.shows in y.sits (let a = h.frame_state in let x = a.cursor in x.parent) g.above g.sits

  abbrev deeds : List (Deed FrameEnv)
  deeds = let o = (let y = is_shown.shows in y.sits (let a = h.frame_state in let x = a.cursor in x.parent) g.above g.sits) in let f = o.frame in f.deeds

  named : AreNamed old_frame_states name
  named = let y = is_shown.shows in let o = y.tells in o.named

  child_is : (up < suc k) × (name (suc k) ≡ name up ++ frame_state.ordinal ∷ [])
  child_is = let n = named in n.child k h.frame_state h.sits

  apart : suc k ≡ up → ⊥
  apart e = let c = child_is in let low = c.0 in omega (arith, e, low)

  low : up < length old_frame_states
  low = get_low old_frame_states up g.above g.sits

  under : IsUnder s (name up) frame_state.ordinal
  under =
      let y = is_shown.shows in
      let o = y.sits (suc k) h.frame_state h.sits in
      let c = child_is in
      under_of s outlive (name up) frame_state.ordinal o.frame (ap s.frames (sym c.1) ∙ o.here) (ended.goes code p inputs name b d s w (suc k) v is_shown started_as h)

  not_stolen : s.stolen (name up ++ frame_state.ordinal ∷ []) ≡ false
  not_stolen =
      let y = is_shown.shows in
      let o = y.sits (suc k) h.frame_state h.sits in
      let c = child_is in
      ap s.stolen (sym c.1) ∙ o.stolen ∙ g.was_kept

  -- the parent's last deed started this frame
  last_deed : (before : List (Deed FrameEnv)) × (how : Invocation) × (what : FrameEnv) × (deeds ≡ before ++ Invokes how what ∷ []) × (frame_state.ordinal ≡ suc (started before))
  last_deed =
      let u = under in
      let o = sitting in
      let same : o.frame ≡ u.parent = (let q : Some o.frame ≡ Some u.parent = sym o.here ∙ u.here in cc) in
      ⊎_elim (λ e. (u.before, u.how, u.what, ap (λ (f : Frame FrameEnv). f.deeds) same ∙ u.starts ∙ ap (λ l. u.before ++ Invokes u.how u.what ∷ l) e, u.ordinal)) (λ e. absurd (true≢false (sym e.2 ∙ not_stolen))) u.since

  going : has_ended deeds ≡ false
  going =
      let u = under in
      let o = sitting in
      let same : o.frame ≡ u.parent = (let q : Some o.frame ≡ Some u.parent = sym o.here ∙ u.here in cc) in
      ap (λ (f : Frame FrameEnv). has_ended f.deeds) same ∙ u.goes

  starts : started deeds ≡ frame_state.ordinal
  starts = let l = last_deed in ap (λ ds. started ds) l.3 ∙ started_invokes l.0 l.1 l.2 ∙ sym l.4

  -- so the parent doesn't continue
  no_goes : GoesOn FrameEnv View s (name up) deeds → ⊥
  no_goes (AtBegin q) = let l = last_deed in nil_snoc l.0 (Invokes l.1 l.2) (sym q ∙ l.3)
  no_goes (AfterEvent before e q) =
      let l = last_deed in
      let r = snoc_one l.0 before (Invokes l.1 l.2) (Does e) (sym l.3 ∙ q) in
      let z : Invokes l.1 l.2 ≡ Does e = r.1 in
      cc
  no_goes (AfterChild before kind what q e) =
      let l = last_deed in
      let r = snoc_one l.0 before (Invokes l.1 l.2) (Invokes kind what) (sym l.3 ∙ q) in
      let c = child_is in
      let at : child_after (name up) before ≡ name (suc k) = ap (λ ds. name up ++ suc (started ds) ∷ []) (sym r.0) ∙ ap (λ n. name up ++ n ∷ []) (sym l.4) ∙ sym c.1 in
      true≢false (sym (has_end s (child_after (name up) before) e) ∙ ap (λ n. has_ended (deeds_at (s.frames n))) at ∙ ended.going code p inputs name b d s w (suc k) v is_shown started_as h)
  no_goes (AfterSteal before what q e) =
      let l = last_deed in
      let r = snoc_one l.0 before (Invokes l.1 l.2) (Invokes _ what) (sym l.3 ∙ q) in
      let at : child_after (name up) before ≡ name up ++ frame_state.ordinal ∷ [] = ap (λ ds. name up ++ suc (started ds) ∷ []) (sym r.0) ∙ ap (λ n. name up ++ n ∷ []) (sym l.4) in
      true≢false (sym e ∙ ap s.stolen at ∙ not_stolen)

  -- it waits for this frame
  pub data Awaits : Type 0 where
    called : parent.status ≡ Calling → Awaits
    offers : (at : ℕ) (u : Worker) (place : ℕ) → parent.status ≡ Offered at → slice_get old_workers at ≡ Some u → (let o = u.offered in slice_get o.items place ≡ Some up) → Awaits

  pub record Waits : Type 0 where
    pub awaits : Awaits
    pub unmerged : parent.merged ≡ false
    pub not_due : parent.due ≡ due.Sync → ⊥

  waits : Waits
  waits = by parent.status refl (let o = sitting in o.is_where)
    where
      by : (z : Status) → parent.status ≡ z → IsWhere code p inputs name b s up (name up) deeds parent z → Waits
      by (Held at) e i = absurd (no_goes i.3)
      by Calling e i = record { awaits = called e; unmerged = i.4; not_due = i.6 }
      by (Offered at) e i = record { awaits = offers at i.6 i.8 e i.7 i.9; unmerged = i.5; not_due = i.11 }
      by Waiting e i = absurd (no_goes i.5)
      by Finished e i = absurd (true≢false (sym (end_true deeds i) ∙ going))

  not_waiting : parent.status ≡ Waiting → ⊥
  not_waiting q = by (let z = waits in z.awaits)
    where
      by : Awaits → ⊥
      by (called e) = let z : Calling ≡ Waiting = sym e ∙ q in cc
      by (offers at u place e i j) = let z : Offered at ≡ Waiting = sym e ∙ q in cc

  not_held : (at : ℕ) → parent.status ≡ Held at → ⊥
  not_held at q = by (let z = waits in z.awaits)
    where
      by : Awaits → ⊥
      by (called e) = let z : Calling ≡ Held at = sym e ∙ q in cc
      by (offers v u place e i j) = let z : Offered v ≡ Held at = sym e ∙ q in cc

  -- ---- how its continuation is taken back

  -- nobody offers it, or this worker did, at this place
  pub data Taken : Type 0 where
    kept : ((at : ℕ) → parent.status ≡ Offered at → ⊥) → g.others ≡ old_workers → b'.offered ≡ b.offered → Taken
    freed : (victim place : ℕ) (owner free : Worker) → parent.status ≡ Offered victim → slice_get old_workers victim ≡ Some owner → (let o = owner.offered in slice_get o.items place ≡ Some up) → free.frame ≡ owner.frame → free.views ≡ owner.views
        → (let o = owner.offered in let l = free.offered in l.items ≡ remove o.items place) → g.others ≡ altered (λ _. free) old_workers victim → b'.offered ≡ b.offered - 1 → Taken

  taken : Taken
  taken = by g.back
    where
      found_by : (victim : ℕ) (owner free : Worker) (found : Bool) → parent.status ≡ Offered victim → slice_get old_workers victim ≡ Some owner → free.frame ≡ owner.frame → free.views ≡ owner.views
          → (let o = owner.offered in let l = free.offered in Withdraws o.items up found l.items) → g.others ≡ altered (λ _. free) old_workers victim → b'.offered ≡ cond found (b.offered - 1) b.offered → Taken
      found_by victim owner free true e at f x (place, is, gone) o n = freed victim place owner free e at is f x gone o n
      found_by victim owner free false e at f x (none, same) o n = by (let z = waits in z.awaits)
        where
          by : Awaits → Taken
          by (called q) = let z : Calling ≡ Offered victim = sym q ∙ e in let f : ⊥ = cc in absurd f
          by (offers v u place q i j) =
              let z : Offered victim ≡ Offered v = sym e ∙ q in
              let y : victim ≡ v = cc in
              let is : owner ≡ u = (let r : Some owner ≡ Some u = sym at ∙ ap (λ n. slice_get old_workers n) y ∙ i in cc) in
              absurd (none place (subst (λ (a : Worker). let o = a.offered in slice_get o.items place ≡ Some up) (sym is) j))

      by : TakesBack b up parent.status g.others b'.offered → Taken
      by (WasNotOffered never o n) = kept never o n
      by (WasOffered victim owner free found e at f x z o n) = found_by victim owner free found e at f x z o n

  module _ (s' : State FrameEnv View) (m : Makes FrameEnv View monoid_of (Next p inputs) (costs p inputs) s (name (suc k)) s') where
    -- ---- frame states

    abbrev mid : List (Activation FrameState)
    mid = changed (λ _. counted (finished h.came)) (let f = b.frames in f.items) (suc k)

    -- a worker while the continuation is withdrawn
    pub record Mid (at : ℕ) (u x : Worker) : Type 0 where
      pub frame_is : x.frame ≡ u.frame
      pub views_are : x.views ≡ u.views
      pub offers_on : (q j : ℕ) → (up ≡ j → ⊥) → (let o = u.offered in slice_get o.items q ≡ Some j) → (r : ℕ) × (let o = x.offered in slice_get o.items r ≡ Some j)

    same_mid : (at : ℕ) (u x : Worker) → x ≡ u → Mid at u x
    same_mid at u x e = record {
      frame_is = ap (λ (y : Worker). y.frame) e;
      views_are = ap (λ (y : Worker). y.views) e;
      offers_on = λ q j ne has. (q, subst (λ (y : Worker). let o = y.offered in slice_get o.items q ≡ Some j) (sym e) has);
    }

    freed_mid : (victim place : ℕ) (owner free : Worker) → slice_get old_workers victim ≡ Some owner → (let o = owner.offered in slice_get o.items place ≡ Some up) → free.frame ≡ owner.frame → free.views ≡ owner.views
        → (let o = owner.offered in let l = free.offered in l.items ≡ remove o.items place) → (at : ℕ) (u x : Worker) → slice_get old_workers at ≡ Some u → altering.Then (λ _. free) victim at u x → Mid at u x
    freed_mid victim place owner free owns stands frame views left at u x is (inr e) = same_mid at u x e.1
    freed_mid victim place owner free owns stands frame views left at u x is (inl e) =
        let mine : u ≡ owner = (let q : Some u ≡ Some owner = sym is ∙ ap (λ i. slice_get old_workers i) (sym e.0) ∙ owns in cc) in record {
          frame_is = ap (λ (y : Worker). y.frame) e.1 ∙ frame ∙ ap (λ (y : Worker). y.frame) (sym mine);
          views_are = ap (λ (y : Worker). y.views) e.1 ∙ views ∙ ap (λ (y : Worker). y.views) (sym mine);
          offers_on = λ q j ne has.
              let o = owner.offered in
              let r = altering.remove_back o.items place q j (subst (λ (y : Worker). let o = y.offered in slice_get o.items q ≡ Some j) mine has)
              (λ z. ne (let y : Some up ≡ Some j = sym stands ∙ ap (λ i. slice_get o.items i) z ∙ subst (λ (y : Worker). let o = y.offered in slice_get o.items q ≡ Some j) mine has in cc)) in
              (r.0, ap (λ (y : Worker). let o = y.offered in slice_get o.items r.0) e.1 ∙ ap (λ l. slice_get l r.0) left ∙ r.1);
        }

    mid_on : Taken → (at : ℕ) (u : Worker) → slice_get old_workers at ≡ Some u → (x : Worker) × (slice_get g.others at ≡ Some x) × Mid at u x
    mid_on (kept never o n) at u is = (u, ap (λ l. slice_get l at) o ∙ is, same_mid at u u refl)
    mid_on (freed victim place owner free e owns stands f y left o n) at u is =
        let r = altering.altered_on (λ _. free) old_workers victim at u is in
        (r.0, ap (λ l. slice_get l at) o ∙ r.1, freed_mid victim place owner free owns stands f y left at u r.0 is r.2)

    mid_was : Taken → (at : ℕ) (x : Worker) → slice_get g.others at ≡ Some x → (u : Worker) × (slice_get old_workers at ≡ Some u) × Mid at u x
    mid_was (kept never o n) at x is = (x, sym (ap (λ l. slice_get l at) o) ∙ is, same_mid at x x refl)
    mid_was (freed victim place owner free e owns stands f y left o n) at x is =
        let r = altering.altered_from (λ _. free) old_workers victim at x (sym (ap (λ l. slice_get l at) o) ∙ is) in
        (r.0, r.1, freed_mid victim place owner free owns stands f y left at r.0 x r.1 r.2)

    abbrev Had : ℕ → Worker → Worker → Type 0
    Had at u u' = ended.Had code p inputs name b d s w (suc k) v is_shown started_as h b' g.views g.closes s' m up at u u'

    had_of : (at : ℕ) (u x u' : Worker) → Mid at u x → altering.Then (holding up g.views) w at x u' → Had at u u'
    had_of at u x u' y z = record {
      frame_is = λ ne. ⊎_elim (λ e. absurd (ne e.0)) (λ e. ap (λ (a : Worker). a.frame) e.1 ∙ y.frame_is) z;
      views_are = λ ne. ⊎_elim (λ e. absurd (ne e.0)) (λ e. ap (λ (a : Worker). a.views) e.1 ∙ y.views_are) z;
      offers_on = λ q j ne has.
          let r = y.offers_on q j ne has in
          (r.0, subst (λ o. slice_get o.items r.0 ≡ Some j) (sym (⊎_elim (λ e. ap (λ (a : Worker). a.offered) e.1) (λ e. ap (λ (a : Worker). a.offered) e.1) z)) r.1);
    }

    moved : ended.Moved code p inputs name b d s w (suc k) v is_shown started_as h b' g.views g.closes s' m up
    moved = record {
      on = subst (λ l. carries.Carries old_frame_states l) (sym g.frames) (carries.carries_then old_frame_states mid (changed (moved_to (Held w)) mid up) (carries.carries_changed (λ _. counted (finished h.came)) old_frame_states (suc k)) (carries.carries_changed (moved_to (Held w)) mid up));
      same_length = ap (λ (l : List (Activation FrameState)). length l) g.frames ∙ changed_length (moved_to (Held w)) mid up ∙ changed_length (λ _. counted (finished h.came)) old_frame_states (suc k);
      else_at = λ j ne ne'. ap (λ l. slice_get l j) g.frames ∙ changed_off (moved_to (Held w)) mid up j ne' ∙ changed_off (λ _. counted (finished h.came)) old_frame_states (suc k) j ne;
      now_at = ap (λ l. slice_get l (suc k)) g.frames ∙ changed_off (moved_to (Held w)) mid up (suc k) (λ e. apart (sym e)) ∙ changed_here (λ _. counted (finished h.came)) old_frame_states (suc k) h.frame_state h.sits;
      named = subst (λ l. AreNamed l name) (sym g.frames) (named_changed (moved_to (Held w)) mid up name (λ x. (refl, refl)) (ended.named_ended code p inputs name b d s w (suc k) v is_shown started_as h b' g.views g.closes s' m));
      above = low;
      kin = λ n z q. let c = child_is in let r = snoc_name (name up) n frame_state.ordinal z (sym c.1 ∙ q) in sym r.0;
      worker_on = λ at u is.
          let x = mid_on taken at u is in
          let r = altering.altered_on (holding up g.views) g.others w at x.0 x.1 in
          (r.0, ap (λ l. slice_get l at) g.workers ∙ r.1, had_of at u x.0 r.0 x.2 r.2);
      worker_was = λ at u' is.
          let r = altering.altered_from (holding up g.views) g.others w at u' (sym (ap (λ l. slice_get l at) g.workers) ∙ is) in
          let x = mid_was taken at r.0 r.1 in
          (x.0, x.1, had_of at x.0 r.0 u' x.2 r.2);
    }

    abbrev parent_now : FrameState
    parent_now = let a = g.above in let y = a.cursor in record y { status = Held w }

    up_at : slice_get new_frame_states up ≡ Some (let a = g.above in record a { cursor = parent_now })
    up_at = ap (λ l. slice_get l up) g.frames ∙ changed_here (moved_to (Held w)) mid up g.above (changed_off (λ _. counted (finished h.came)) old_frame_states (suc k) up apart ∙ g.sits)

    -- the worker has the parent then
    own_now : (u : Worker) → slice_get new_workers w ≡ Some u → (u.frame ≡ Some up) × (u.views ≡ g.views)
    own_now u is =
        let r = altering.altered_from (holding up g.views) g.others w w u (sym (ap (λ l. slice_get l w) g.workers) ∙ is) in
        ⊎_elim (λ e. (ap (λ (z : Worker). z.frame) e.1, ap (λ (z : Worker). z.views) e.1)) (λ e. absurd (e.0 refl)) r.2

    own_there : (u : Worker) × (slice_get new_workers w ≡ Some u)
    own_there =
        let x = mid_on taken w h.worker h.at in
        let r = altering.altered_on (holding up g.views) g.others w w x.0 x.1 in
        (r.0, ap (λ l. slice_get l w) g.workers ∙ r.1)

    child_ended : has_ended (deeds_at (s'.frames (name up ++ frame_state.ordinal ∷ []))) ≡ true
    child_ended = let c = child_is in ap (λ n. has_ended (deeds_at (s'.frames n))) (sym c.1) ∙ ended.ended_here code p inputs name b d s w (suc k) v is_shown started_as h b' g.views g.closes s' m

    -- ---- the parent's state

    where_parent : IsWhere code p inputs name b' s' up (name up) deeds parent_now (Held w)
    where_parent =
        let u = own_there in
        let x = own_now u.0 u.1 in
        let l = last_deed in
        let z = waits in
        let at : frame_state.ordinal ≡ suc (started l.0) = l.4 in (
          u.0,
          u.1,
          x.0,
          AfterChild l.0 l.1 l.2 l.3 (end_of s' (child_after (name up) l.0) (s'.frames (child_after (name up) l.0)) refl (ap (λ n. has_ended (deeds_at (s'.frames (name up ++ n ∷ [])))) (sym at) ∙ child_ended)),
          going,
          (λ q. absurd (true≢false (sym q ∙ z.unmerged))),
          (λ q. z.not_due),
        )

    block_parent : HasBlock code p inputs name b s (name up) deeds parent → HasBlock code p inputs name b' s' (name up) deeds parent_now
    block_parent o =
        ⊎_elim (λ x. inl x) (λ x. inr (x.0, x.1, ⊎_elim (λ y. inl y) (λ y. inr (y.0, (λ c. absurd (not_waiting (y.1 c))))) x.2))
        (ended.block_stays code p inputs name b d s w (suc k) v is_shown started_as h b' g.views g.closes s' m up moved (name up) deeds parent (λ e. let n = named in apart (n.apart (suc k) up (get_low old_frame_states (suc k) h.frame_state h.sits) low e))
        (λ z is e. let c = child_is in let r = snoc_name (name up) (name up) frame_state.ordinal z (sym c.1 ∙ e) in true≢false (sym is ∙ ap (λ n. s.stolen (name up ++ n ∷ [])) (sym r.1) ∙ not_stolen)) o)

    parent_sits : Sits code p inputs name b' s' up (let a = g.above in record a { cursor = parent_now })
    parent_sits = let o = sitting in ended.stays_with code p inputs name b d s w (suc k) v is_shown started_as h b' g.views g.closes s' m up moved up g.above parent_now apart g.sits refl o where_parent (λ q. block_parent (o.block q))

    -- ---- the worker that has it

    parent_frame : s'.frames (name up) ≡ Some (let o = sitting in o.frame)
    parent_frame = let o = sitting in ended.frame_else code p inputs name b d s w (suc k) v is_shown started_as h b' g.views g.closes s' m (name up) (λ e. let n = named in apart (n.apart (suc k) up (get_low old_frame_states (suc k) h.frame_state h.sits) low e)) ∙ o.here

    flag_now : s'.stolen (name up ++ started deeds ∷ []) ≡ false
    flag_now = ended.stolen_at code p inputs name b d s w (suc k) v is_shown started_as h b' g.views g.closes s' m (name up ++ started deeds ∷ []) ∙ ap (λ n. s.stolen (name up ++ n ∷ [])) starts ∙ not_stolen

    carried_now : (i : Instance) → carried (monoid_of i) (λ n. s'.piece n i) s'.stolen (name up) (deeds_at (s'.frames (name up))) parent_now.merged ≡ s'.piece (name (suc k)) i
    carried_now i =
        let z = waits in
        let l = last_deed in
        let c = child_is in
        ap (λ f. carried (monoid_of i) (λ n. s'.piece n i) s'.stolen (name up) (deeds_at f) parent_now.merged) parent_frame
        ∙ taken_on (monoid_of i) (λ n. s'.piece n i) s'.stolen (name up) deeds parent_now.merged z.unmerged (ap (λ ds. is_resuming ds) l.3 ∙ resuming_child l.0 l.1 l.2) flag_now
        ∙ ap (λ q. s'.piece (name up ++ q ∷ []) i) starts ∙ ap (λ n. s'.piece n i) (sym c.1)

    holds_parent : (u : Worker) → u.views ≡ g.views → Holds code p inputs name b' s' w u up
    holds_parent u views = record {
      frame_state = (let a = g.above in record a { cursor = parent_now });
      here = up_at;
      held = refl;
      views = λ i j is.
          subst (λ x. IsViewOf (kind_of i) x (value_in u.views (kind_of i) j)) (sym (carried_now i))
          (subst (λ x. IsViewOf (kind_of i) (s'.piece (name (suc k)) i) (value_in x (kind_of i) j)) (sym views) (ended.left_views code p inputs name b d s w (suc k) v is_shown started_as h b' g.views g.closes s' m i j (ended.instance_back code p inputs name b d s w (suc k) v is_shown started_as h b' g.views g.closes s' m up moved i j is)));
      used = λ q is. used_now q is;
      bare = subst (λ n. IsBare n (value_in u.views)) (sym moved.same_length) (subst (λ x. IsBare (length old_frame_states) (value_in x)) (sym views) (ended.left_bare code p inputs name b d s w (suc k) v is_shown started_as h b' g.views g.closes s' m));
    }
      where
        used_now : (q : ℕ) → IsUsed s'.stolen (name up) (deeds_at (s'.frames (name up))) parent_now.merged q → is_there code p inputs name b' s' (name up) q ≡ true
        used_now q is =
            let z = waits in
            ⊎_elim (λ a. absurd (true≢false (sym a.0 ∙ z.unmerged)))
            (λ a. let e : q ≡ frame_state.ordinal = a.2 ∙ ap (λ f. started (deeds_at f)) parent_frame ∙ starts in ap (λ n. has_ended (deeds_at (s'.frames (name up ++ n ∷ [])))) e ∙ child_ended) is

    -- ---- the worker table

    abbrev worker_table_now : WorkerTable
    worker_table_now = holds (record d { offered = withdrawn d.offered (name up) }) w (name up)

    same_place : (j : ℕ) → j < length old_frame_states → name j ≡ name up → j ≡ up
    same_place j at e = let n = named in n.apart j up at low e

    waiting_now : (j : ℕ) (a : Activation FrameState) → slice_get new_frame_states j ≡ Some a → ((let x = a.cursor in x.status ≡ Waiting) → IsIn (name j) d.waiting) × (IsIn (name j) d.waiting → let x = a.cursor in x.status ≡ Waiting)
    waiting_now =
        ended.waits_as code p inputs name b d s w (suc k) v is_shown started_as h b' g.views g.closes s' m up moved d.waiting (λ j there ne. ((λ x. x), (λ x. x)))
        (λ a ne is.
        let same : (let y = g.above in record y { cursor = parent_now }) ≡ a = (let q : Some (let y = g.above in record y { cursor = parent_now }) ≡ Some a = sym up_at ∙ is in cc) in
        let y = sh in
        let o = y.worker_table in
        let old = o.waiting up g.above g.sits in (
          (λ f. let z : Held w ≡ Waiting = ap (λ (y : Activation FrameState). let x = y.cursor in x.status) same ∙ f in let n : ⊥ = cc in absurd n),
          (λ f. absurd (not_waiting (old.1 f))),
        ))
        (λ x. x)

    offering : (at q : ℕ) (u : Worker) → slice_get old_workers at ≡ Some u → (let o = u.offered in slice_get o.items q ≡ Some up) → parent.status ≡ Offered at
    offering at q u is has =
        let y = sh in
        let o = y.worker_table in
        let r = o.places at q up u is has in
        let same : r.0 ≡ g.above = (let z : Some r.0 ≡ Some g.above = sym r.1 ∙ g.sits in cc) in
        ap (λ (a : Activation FrameState). let x = a.cursor in x.status) (sym same) ∙ r.2

    offerer : (at q j : ℕ) (u : Worker) → slice_get old_workers at ≡ Some u → (let o = u.offered in slice_get o.items q ≡ Some j) → j < length old_frame_states
    offerer at q j u is has = let y = sh in let o = y.worker_table in let r = o.places at q j u is has in get_low old_frame_states j r.0 r.1

    worker_table_called : ((at : ℕ) → parent.status ≡ Offered at → ⊥) → g.others ≡ old_workers → b'.offered ≡ b.offered → IsWorkerTable code p inputs name b' worker_table_now
    worker_table_called never o n =
        let y = sh in
        let k0 = y.worker_table in
        subst (λ l. IsWorkerTable code p inputs name b' (record d { hands = set d.hands w (Some (name up)); offered = l })) (sym none_goes)
        (ended.worker_table_kept code p inputs name b d s w (suc k) v is_shown started_as h b' g.views g.closes s' m up moved (holding up g.views) (Some (name up)) (λ u. refl) (λ u. refl) (g.workers ∙ ap (λ l. altered (holding up g.views) l w) o) n d.waiting (λ n is. is)
        (λ at x is status. let same : g.above ≡ x = (let q : Some g.above ≡ Some x = sym g.sits ∙ is in cc) in absurd (never at (ap (λ (a : Activation FrameState). let z = a.cursor in z.status) same ∙ status))) waiting_now)
      where
        none_goes : withdrawn d.offered (name up) ≡ d.offered
        none_goes =
            let y = sh in
            let k0 = y.worker_table in
            let each : (at : ℕ) (u : Worker) → slice_get old_workers at ≡ Some u → without (offers_of name u) (name up) ≡ offers_of name u =
            (λ at u is. let l = u.offered in altering.without_none name (name up) l.items (λ q j has. name_off (name j) (name up) (λ z. never at (offering at q u is (has ∙ ap (λ i. Some i) (same_place j (offerer at q j u is has) z)))))) in
            ap (λ l. withdrawn l (name up)) k0.offered ∙ altering.withdrawn_is name (name up) (λ u. u) old_workers 0 (λ at u is. ((λ e. each at u is), (λ e. each at u is)))
            ∙ altering.altered_map (λ u. u) (offers_of name) old_workers 0 (λ u. refl) ∙ sym k0.offered

    module _ (victim place : ℕ) (owner free : Worker) (status : parent.status ≡ Offered victim) (owns : slice_get old_workers victim ≡ Some owner) (stands : let o = owner.offered in slice_get o.items place ≡ Some up) (frame_is : free.frame ≡ owner.frame)
        (left : let o = owner.offered in let l = free.offered in l.items ≡ remove o.items place) (others_are : g.others ≡ altered (λ _. free) old_workers victim) (fewer : b'.offered ≡ b.offered - 1) where
      -- only its worker offers the parent, and only there
      only_there : (at q : ℕ) (u : Worker) → slice_get old_workers at ≡ Some u → (let o = u.offered in slice_get o.items q ≡ Some up) → victim ≡ at
      only_there at q u is has = let z : Offered victim ≡ Offered at = sym status ∙ offering at q u is has in cc

      owner_is : (at : ℕ) (u : Worker) → slice_get old_workers at ≡ Some u → victim ≡ at → u ≡ owner
      owner_is at u is e = let q : Some u ≡ Some owner = sym is ∙ ap (λ i. slice_get old_workers i) (sym e) ∙ owns in cc

      -- what a worker offers after and before
      abbrev Offers : ℕ → Worker → Worker → Type 0
      Offers at u u' = ((victim ≡ at → ⊥) × ((let o = u'.offered in o.items) ≡ (let o = u.offered in o.items))) ⊎ ((victim ≡ at) × (u ≡ owner) × ((let o = u'.offered in o.items) ≡ remove (let o = u.offered in o.items) place))

      offers_was : (at : ℕ) (u' : Worker) → slice_get new_workers at ≡ Some u' → (u : Worker) × (slice_get old_workers at ≡ Some u) × Offers at u u'
      offers_was at u' is =
          let q = altering.altered_from (holding up g.views) g.others w at u' (sym (ap (λ l. slice_get l at) g.workers) ∙ is) in
          let r = altering.altered_from (λ _. free) old_workers victim at q.0 (sym (ap (λ l. slice_get l at) others_are) ∙ q.1) in
          let same : (let o = u'.offered in o.items) ≡ (let x = q.0 in let o = x.offered in o.items) = ⊎_elim (λ e. ap (λ (z : Worker). let o = z.offered in o.items) e.1) (λ e. ap (λ (z : Worker). let o = z.offered in o.items) e.1) q.2 in (
            r.0,
            r.1,
            ⊎_elim (λ e. inr (e.0, owner_is at r.0 r.1 e.0, same ∙ ap (λ (z : Worker). let o = z.offered in o.items) e.1 ∙ left ∙ ap (λ (z : Worker). remove (let o = z.offered in o.items) place) (sym (owner_is at r.0 r.1 e.0))))
                (λ e. inl (e.0, same ∙ ap (λ (z : Worker). let o = z.offered in o.items) e.1)) r.2,
          )

      offers_now : (at : ℕ) (u : Worker) → slice_get old_workers at ≡ Some u → (victim ≡ at → without (offers_of name u) (name up) ≡ offers_of name free) × ((victim ≡ at → ⊥) → without (offers_of name u) (name up) ≡ offers_of name u)
      offers_now at u is = (
        (λ e.
            let l = owner.offered in
            ap (λ (z : Worker). without (offers_of name z) (name up)) (owner_is at u is e)
            ∙ altering.without_one name (name up) l.items place up stands (same_name-refl (name up))
            (λ q j here ne. name_off (name j) (name up) (λ z. ne (let x = sh in let y = x.worker_table in y.once victim place q up owner owns stands (here ∙ ap (λ i. Some i) (same_place j (offerer victim q j owner owns here) z)))))
            ∙ ap (λ (ns : List ℕ). map name ns) (sym left)),
        (λ ne.
            let l = u.offered in
            altering.without_none name (name up) l.items (λ q j here. name_off (name j) (name up) (λ z. ne (only_there at q u is (here ∙ ap (λ i. Some i) (same_place j (offerer at q j u is here) z)))))),
      )

      total_now : b'.offered ≡ sum (map (λ (u : Worker). let o = u.offered in length o.items) new_workers)
      total_now =
          let x = sh in
          let y = x.worker_table in
          let o = owner.offered in
          let one : (let l = free.offered in length l.items) + 1 ≡ (let l = owner.offered in length l.items) = ap (λ (ns : List ℕ). length ns + 1) left ∙ length-remove o.items place (get_low o.items place up stands) in
          let a = altering.altered_sum (λ _. free) (λ (u : Worker). let o = u.offered in length o.items) old_workers victim owner owns one in
          let c = ap (λ ws. sum (map (λ (u : Worker). let o = u.offered in length o.items) ws)) g.workers ∙ ap (λ ns. sum ns) (altering.altered_map (holding up g.views) (λ (u : Worker). let o = u.offered in length o.items) g.others w (λ u. refl))
          ∙ ap (λ ws. sum (map (λ (u : Worker). let o = u.offered in length o.items) ws)) others_are in
          let e = y.total in
          let f = fewer in
          omega (arith, a, c, e, f)

      inside : (at : ℕ) (u : Worker) → u ≡ owner → (let l = u.offered in place < length l.items)
      inside at u e = let z = owner.offered in subst (λ (a : Worker). let l = a.offered in place < length l.items) (sym e) (get_low z.items place up stands)

      -- where a worker offered it before
      place_was : (at q j : ℕ) (u u' : Worker) → ((victim ≡ at → ⊥) × ((let o = u'.offered in o.items) ≡ (let o = u.offered in o.items))) ⊎ ((victim ≡ at) × (u ≡ owner) × ((let o = u'.offered in o.items) ≡ remove (let o = u.offered in o.items) place))
          → (let o = u'.offered in slice_get o.items q ≡ Some j) → (r : ℕ) × (let o = u.offered in slice_get o.items r ≡ Some j) × (victim ≡ at → r ≡ place → ⊥)
      place_was at q j u u' (inl e) has = (q, ap (λ l. slice_get l q) (sym e.1) ∙ has, (λ x. absurd (e.0 x)))
      place_was at q j u u' (inr e) has =
          let l = u.offered in
          (altering.skip place q, sym (altering.remove_get l.items place q (inside at u e.1)) ∙ ap (λ l. slice_get l q) (sym e.2) ∙ has, (λ x y. altering.skip_off place q y))

      once_now : (at q r j : ℕ) (u u' : Worker) → slice_get old_workers at ≡ Some u → ((victim ≡ at → ⊥) × ((let o = u'.offered in o.items) ≡ (let o = u.offered in o.items))) ⊎ ((victim ≡ at) × (u ≡ owner) × ((let o = u'.offered in o.items) ≡ remove (let o = u.offered in o.items) place))
          → (let o = u'.offered in slice_get o.items q ≡ Some j) → (let o = u'.offered in slice_get o.items r ≡ Some j) → q ≡ r
      once_now at q r j u u' is (inl e) has also = let x = sh in let y = x.worker_table in y.once at q r j u is (ap (λ l. slice_get l q) (sym e.1) ∙ has) (ap (λ l. slice_get l r) (sym e.1) ∙ also)
      once_now at q r j u u' is (inr e) has also =
          let x = sh in
          let y = x.worker_table in
          let l = u.offered in
          altering.skip_one place q r (y.once at (altering.skip place q) (altering.skip place r) j u is (sym (altering.remove_get l.items place q (inside at u e.1)) ∙ ap (λ l. slice_get l q) (sym e.2) ∙ has)
          (sym (altering.remove_get l.items place r (inside at u e.1)) ∙ ap (λ l. slice_get l r) (sym e.2) ∙ also))

      worker_table_offered : IsWorkerTable code p inputs name b' worker_table_now
      worker_table_offered =
          let x = sh in
          let o = x.worker_table in record {
            hands = ap (λ hs. set hs w (Some (name up))) (o.hands ∙ sym (altering.altered_map_at (λ _. free) (hand_of name) old_workers victim owner owns (ap (λ f. option_map name f) frame_is)) ∙ ap (λ ws. map (hand_of name) ws) (sym others_are))
                ∙ sym (altering.altered_set (holding up g.views) (hand_of name) (Some (name up)) g.others w (λ u. refl)) ∙ ap (λ ws. map (hand_of name) ws) (sym g.workers);
            offered = ap (λ l. withdrawn l (name up)) o.offered ∙ altering.withdrawn_is name (name up) (λ _. free) old_workers victim offers_now ∙ ap (λ ws. map (offers_of name) ws) (sym others_are)
                ∙ sym (altering.altered_map (holding up g.views) (offers_of name) g.others w (λ u. refl)) ∙ ap (λ ws. map (offers_of name) ws) (sym g.workers);
            total = total_now;
            places = λ at q j u is has.
                let r = offers_was at u is in
                let z = place_was at q j r.0 u r.2 has in
                let y = o.places at z.0 j r.0 r.1 z.1 in
                let ne : up ≡ j → ⊥ = (λ e.
                let mine : victim ≡ at = only_there at z.0 r.0 r.1 (z.1 ∙ ap (λ i. Some i) (sym e)) in
                let same : r.0 ≡ owner = owner_is at r.0 r.1 mine in
                z.2 mine (o.once victim z.0 place up owner owns (ap (λ (y : Worker). let l = y.offered in slice_get l.items z.0) (sym same) ∙ z.1 ∙ ap (λ i. Some i) (sym e)) stands)) in
                (y.0, moved.else_at j (ended.offered_off code p inputs name b d s w (suc k) v is_shown started_as h b' g.views g.closes s' m up moved at z.0 j r.0 r.1 z.1) ne ∙ y.1, y.2);
            once = λ at q r j u is has also. let z = offers_was at u is in once_now at q r j z.0 u z.1 z.2 has also;
            waiting = waiting_now;
            present = λ n is none. o.present n is (ended.absent_back code p inputs name b d s w (suc k) v is_shown started_as h b' g.views g.closes s' m up moved n none);
          }

    worker_table_by : Taken → IsWorkerTable code p inputs name b' worker_table_now
    worker_table_by (kept never o n) = worker_table_called never o n
    worker_table_by (freed victim place owner free e owns stands f y left o n) = worker_table_offered victim place owner free e owns stands f left o n

    settled : ended.Settled code p inputs name b d s w (suc k) v is_shown started_as h b' g.views g.closes s' m up moved worker_table_now
    settled = record {
      parent = λ a ne is.
          let same : (let y = g.above in record y { cursor = parent_now }) ≡ a = (let q : Some (let y = g.above in record y { cursor = parent_now }) ≡ Some a = sym up_at ∙ is in cc) in
          subst (λ z. Sits code p inputs name b' s' up z) same parent_sits;
      mine = λ j u is has.
          let x = own_now u is in
          let e : up ≡ j = (let z : Some up ≡ Some j = sym x.0 ∙ has in cc) in
          subst (λ i. Holds code p inputs name b' s' w u i) e (holds_parent u x.1);
      held = λ at u ne off y.
          let same : y.frame_state ≡ g.above = (let z : Some y.frame_state ≡ Some g.above = sym y.here ∙ g.sits in cc) in
          absurd (not_held at (ap (λ (a : Activation FrameState). let x = a.cursor in x.status) (sym same) ∙ y.held));
      worker_table = worker_table_by taken;
      going = λ none f.
          let y = sh in
          let o = y.tells in
          let c = child_is in
          o.going h.was_open (subst (λ f. HasEnd (deeds_at f)) (ended.frame_else code p inputs name b d s w (suc k) v is_shown started_as h b' g.views g.closes s' m [] (λ e. no_snoc (name up) frame_state.ordinal (sym e ∙ c.1))) f);
      over = λ o at. let no : None ≡ Some o = sym h.was_open ∙ sym g.outcome ∙ at in let f : ⊥ = cc in absurd f;
    }

    chooses : Chooses p inputs s d (Run (suc w)) Did s' worker_table_now
    chooses =
        let f = m.frame in
        let c = child_is in
        does w (name (suc k)) s' worker_table_now (ended.hand_is code p inputs name b d s w (suc k) v is_shown started_as h) m
        (subst (λ a. Settles s' d w (name (suc k)) f.deeds a worker_table_now) (sym (ended.ask_is code p inputs name b d s w (suc k) v is_shown started_as h b' g.views g.closes s' m))
        (returns v _ (name up) frame_state.ordinal c.1 (ended.stolen_at code p inputs name b d s w (suc k) v is_shown started_as h b' g.views g.closes s' m (name (suc k)) ∙ ap s.stolen c.1 ∙ not_stolen)))

  pub returned : IsEnded code p inputs name b' d s w
  returned =
      let n = ended.makes code p inputs name b d s w (suc k) v is_shown started_as h in
      let t = moved n.after n.makes in (
        n.after,
        holds (record d { offered = withdrawn d.offered (name up) }) w (name up),
        chooses n.after n.makes,
        ended.shown_after code p inputs name b d s w (suc k) v is_shown started_as h b' g.views g.closes n.after n.makes up (moved n.after n.makes) (holds (record d { offered = withdrawn d.offered (name up) }) w (name up)) (settled n.after n.makes),
      )

pub returns_are_shown : (code : CodeView) (p : Source) (inputs : List ℤ) → ReturnsAreShown code p inputs
returns_are_shown code p inputs name b b' d s w k v is_shown started_as outlive h g = returned code p inputs name b b' d s w k v is_shown started_as outlive h g
