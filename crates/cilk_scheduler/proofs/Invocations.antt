-- A frame starts another: the scheduler shows a state before and the next one after.
--
-- - `renamed_low`: the names of frames that were there;
-- - `invocations_are_shown`: the law.
use Rattle.std.proofs.Common.{◌≡◌, ⊎_elim, ◌<◌, ℕ, suc, ℤ, List, [], ◌∷◌, ◌++◌, length, slice_get, Some, None, refl, sym, ap, ap₂, ◌∙◌, subst, arith}
use Rattle.cilk_types.specs.declared.invocation.Invocation.{Invocation}
use Rattle.cilk_program.specs.declared.ask.Ask.TheVariants as asks
use Rattle.cilk_program.specs.declared.ask.Callee.{Callee}
use Rattle.cilk_program.specs.Syntax.{Source}
use Rattle.cilk_lower.specs.Behaves.{Behaves}
use Rattle.cilk_lower.specs.Code.{CodeView}
use Rattle.cilk_determinacy.specs.Machine.{Frame, State, Makes, after_deed, deed_of, deeds_at, started}
use Rattle.cilk_determinacy.specs.Monoids.{numbers_of}
use Rattle.cilk_determinacy.specs.Runs.{Name, Invoke, Invokes}
use Rattle.cilk_determinacy.specs.FrameEnvMachine.{costs, next}
use Rattle.cilk_determinacy.specs.Reducers.{View, monoid_of}
use Rattle.cilk_determinacy.specs.Steps.{Next}
use Rattle.cilk_determinacy.specs.FrameEnvs.{FrameEnv, child_env}
use Rattle.cilk_scheduler.specs.declared.scheduler.Scheduler.{Scheduler}
use Rattle.cilk_scheduler.specs.declared.choice.Choice.TheVariants.{Run}
use Rattle.cilk_scheduler.specs.Acting.{IsShown}
use Rattle.cilk_scheduler.specs.Schedulers.{Sits, ShowsBy}
use Rattle.cilk_scheduler.specs.WorkerTables.{WorkerTable, Did, Chooses}
use Rattle.cilk_scheduler.specs.Invocations.{GoesToChild, InvocationsAreShown, left_at}
use Rattle.cilk_scheduler.specs.Ordinals.{AreCounted}
use Rattle.cilk_scheduler.specs.Starting.{Starts, TakesTurn, named_at}
use Rattle.cilk_scheduler.specs.Steps.{HasCome}
use Rattle.cilk_scheduler.proofs.Altered as altering
use Rattle.cilk_scheduler.proofs.Invoked as invoked
use Rattle.cilk_scheduler.proofs.Ordinals.{next_is_none}
use Rattle.cilk_scheduler.proofs.Plain.{get_low}
use Rattle.cilk_scheduler.proofs.Renaming.{shown_as}
use Rattle.cilk_scheduler.proofs.Starting.{children_sit, named_else, named_here}
use Rattle.cilk_scheduler.proofs.Stepped as stepped

module _ (code : CodeView) (p : Source) (inputs : List ℤ) (name : ℕ → Name) (b b' : Scheduler) (d : WorkerTable) (s : State FrameEnv View) (w k : ℕ) (how : Invocation) (callee : Callee) (behaves : Behaves p code)
    (x : IsShown code p inputs name b d s) (counted : AreCounted s.frames) (h : HasCome code p inputs b w k (asks.Invoke how callee)) (t : GoesToChild code p inputs b b' w k how callee h) where
  abbrev last : ℕ
  last = let f = b.frames in length f.items

  abbrev kid : Name
  kid = name k ++ suc (started (deeds_at (s.frames (name k)))) ∷ []

  abbrev renamed : ℕ → Name
  renamed = named_at name (let f = b.frames in length f.items) (name k ++ suc (started (deeds_at (s.frames (name k)))) ∷ [])

  low : k < last
  low = let f = b.frames in get_low f.items k h.frame_state h.sits

  renamed_low : (j : ℕ) → j < last → renamed j ≡ name j
  renamed_low j less = named_else name last kid j less

  shows : ShowsBy code p inputs renamed b d s
  shows = shown_as code p inputs b s name renamed renamed_low d x.shows (let l = low in omega (arith, l))

  no_sync : asks.Invoke how callee ≡ asks.Sync → ⊥
  no_sync q = cc

  abbrev frame : Frame FrameEnv
  frame = let o = shows.sits k h.frame_state h.sits in o.frame

  here : s.frames (name k) ≡ Some frame
  here = let o = shows.sits k h.frame_state h.sits in ap s.frames (sym (renamed_low k low)) ∙ o.here

  kid_is : kid ≡ name k ++ suc (started frame.deeds) ∷ []
  kid_is = ap (λ f. name k ++ suc (started (deeds_at f)) ∷ []) here

  fresh : s.frames (name k ++ suc (started frame.deeds) ∷ []) ≡ None
  fresh = next_is_none s.frames (name k) frame counted here

  last_name : renamed last ≡ renamed k ++ suc (started frame.deeds) ∷ []
  last_name = named_here name last kid ∙ kid_is ∙ ap (λ n. n ++ suc (started frame.deeds) ∷ []) (sym (renamed_low k low))

  module _ (s' : State FrameEnv View) (m : Makes FrameEnv View monoid_of (Next p inputs) (costs p inputs) s (renamed k) s') where
    abbrev child_is : FrameEnv
    child_is = child_env p (let f = (let o = shows.sits k h.frame_state h.sits in o.frame) in f.what) (suc (started (let f = (let o = shows.sits k h.frame_state h.sits in o.frame) in f.deeds))) callee

    frame_is : m.frame ≡ frame
    frame_is = let a = m.asking in let o = shows.sits k h.frame_state h.sits in let q : Some m.frame ≡ Some frame = sym a.here ∙ o.here in cc

    ask_is : m.ask ≡ Invoke how child_is
    ask_is =
        let a = m.asking in
        let f = frame in
        let g = stepped.named_as code p inputs renamed b d s w k (asks.Invoke how callee) x.lays shows h no_sync in
        let n : next p inputs f.what f.deeds ≡ Some m.ask = subst (λ (f : Frame FrameEnv). next p inputs f.what f.deeds ≡ Some m.ask) frame_is a.next in
        let q : Some m.ask ≡ Some (Invoke how child_is) = sym n ∙ g.0 in
        cc

    made : s'.frames ≡ after_deed s.frames (name k) frame (Invokes how child_is)
    made =
        m.frames ∙ ap₂ (λ f a. after_deed s.frames (renamed k) f a) frame_is (ap (λ a. deed_of s.memory (numbers_of monoid_of (s.piece (renamed k))) a) ask_is)
        ∙ ap (λ n. after_deed s.frames n frame (Invokes how child_is)) (renamed_low k low)

    starts : Starts code p inputs name b b' s s' w k how callee
    starts = record { comes = h; frame = frame; child = t.child; status = left_at how w; here = here; fresh = fresh; made = made; is_child = t.is_child; frame_states_are = t.frames }

    turn : TakesTurn code p inputs b b' s s' w k how
    turn = record { worker = t.worker; at = worker_now; has = t.has; stolen = m.stolen; written = t.journal }
      where
        worker_now : (let l = b'.workers in slice_get l.items w ≡ Some t.worker)
        worker_now =
            let l = b.workers in
            let r = altering.altered_on (λ _. t.worker) l.items w w h.worker h.at in
            ap (λ ws. slice_get ws w) t.workers ∙ r.1 ∙ ⊎_elim (λ g. ap (λ u. Some u) g.1) (λ g. absurd (g.0 refl)) r.2

    child_sits : Sits code p inputs renamed b' s' last t.child
    unfolding starts
    child_sits = subst (λ n. Sits code p inputs (named_at name last n) b' s' last t.child) (sym kid_is) (children_sit code p inputs name b b' d s s' w k how callee behaves x starts turn)

    fresh_now : s.frames (renamed k ++ suc (started frame.deeds) ∷ []) ≡ None
    fresh_now = ap (λ n. s.frames (n ++ suc (started frame.deeds) ∷ [])) (renamed_low k low) ∙ fresh

    abbrev worker_table : WorkerTable
    worker_table = invoked.worker_table_now code p inputs renamed b b' d s s' w k how callee x.lays shows x.asked h t m last_name fresh_now counted child_sits

    chosen : Chooses p inputs s d (Run (suc w)) Did s' worker_table
    chosen = invoked.settles code p inputs renamed b b' d s s' w k how callee x.lays shows x.asked h t m last_name fresh_now counted child_sits

    shown_after : ShowsBy code p inputs renamed b' worker_table s'
    shown_after = invoked.shown_then code p inputs renamed b b' d s s' w k how callee x.lays shows x.asked h t m last_name fresh_now counted child_sits

  pub goes_to_child : (s' : State FrameEnv View) × (d' : WorkerTable) × Chooses p inputs s d (Run (suc w)) Did s' d' × ShowsBy code p inputs renamed b' d' s'
  goes_to_child =
      let n = stepped.makes code p inputs renamed b d s w k (asks.Invoke how callee) x.lays shows h no_sync (λ q. cc) in
      (n.after, worker_table n.after n.makes, chosen n.after n.makes, shown_after n.after n.makes)

pub invocations_are_shown : (code : CodeView) (p : Source) (inputs : List ℤ) → InvocationsAreShown code p inputs
invocations_are_shown code p inputs name b b' d s w k how callee behaves x counted h t = goes_to_child code p inputs name b b' d s w k how callee behaves x counted h t
