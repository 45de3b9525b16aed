-- The block of a frame that has come to its sync is over, where the sync need not wait.
--
-- - `ended_by`: each child that was spawned in the block has ended, once the stolen ones have;
-- - `blocks_are_over`: the law.
use Rattle.std.proofs.Common.{◌≡◌, ⊎_elim, ◌+◌, ℕ, suc, Bool, true, false, true≢false, cond, if◌then◌else◌, ℤ, List, [], ◌∷◌, ◌++◌, Some, refl, sym, ap, ◌∙◌, subst, arith}
use Rattle.cilk_types.specs.declared.event.Instance as numbered
use Rattle.cilk_types.specs.declared.invocation.Invocation.TheVariants.{Spawn}
use Rattle.cilk_program.specs.declared.ask.Ask.TheVariants as asks
use Rattle.cilk_program.specs.Syntax.{Source}
use Rattle.cilk_lower.specs.Code.{CodeView}
use Rattle.cilk_frames.specs.declared.activation.Activation.{Activation}
use Rattle.cilk_join.specs.Joins.{JoinView, has_awaited}
use Rattle.cilk_join.specs.Rows.{Stands, is_empty}
use Rattle.cilk_determinacy.specs.Machine.{State, deeds_at, started}
use Rattle.cilk_determinacy.specs.Monoids.{unit_of}
use Rattle.cilk_determinacy.specs.Progress.{GoesOn, HasEnded, child_after}
use Rattle.cilk_determinacy.specs.Runs.{Name, Output, Deed, Invokes}
use Rattle.cilk_determinacy.specs.FrameEnvMachine.{has_ended}
use Rattle.cilk_determinacy.specs.Reducers.{View, kind_of, monoid_of}
use Rattle.cilk_determinacy.specs.FrameEnvs.{FrameEnv}
use Rattle.cilk_scheduler.specs.declared.scheduler.Scheduler.{Scheduler}
use Rattle.cilk_scheduler.specs.declared.frame_state.FrameState.{FrameState}
use Rattle.cilk_scheduler.specs.declared.frame_state.Status.TheVariants.{Held, Waiting}
use Rattle.cilk_scheduler.specs.Asking.{WentOn}
use Rattle.cilk_scheduler.specs.Blocks.{Lays, stolen_in}
use Rattle.cilk_scheduler.specs.Schedulers.{IsWhere, ShowsBy, is_there, run_at, stolen_at_block, waits_at}
use Rattle.cilk_scheduler.specs.WorkerTables.{BlockIsOver, WorkerTable}
use Rattle.cilk_scheduler.specs.Events.{block_in}
use Rattle.cilk_scheduler.specs.GoneOn.{HaveGoneOn, WentOnBehind}
use Rattle.cilk_scheduler.specs.Noting.{HasFrame}
use Rattle.cilk_scheduler.specs.Parts.{must_wait}
use Rattle.cilk_scheduler.specs.Stopping.{BlocksAreOver}
use Rattle.cilk_scheduler.proofs.Blocks as blocks
use Rattle.cilk_scheduler.proofs.GoneOn.{gone_on_behind}
use Rattle.cilk_scheduler.proofs.Onward.{end_of}
use Rattle.cilk_scheduler.proofs.OpenBlocks.{kept}
use Rattle.cilk_scheduler.proofs.Parts.{must_await}
use Rattle.cilk_scheduler.proofs.Stepped.{kept_by}
use Rattle.cilk_scheduler.proofs.Synced.{empty_list, stands_in}

-- each spawned child has ended, once the stolen ones have
ended_by : (s : State FrameEnv View) (n : Name) → WentOnBehind s n (deeds_at (s.frames n)) → ((q : ℕ) → Stands (stolen_in (λ q. s.stolen (n ++ q ∷ [])) 1 [] (deeds_at (s.frames n))) q → has_ended (deeds_at (s.frames (n ++ q ∷ []))) ≡ true) → BlockIsOver s n
ended_by s n behind there before after child e none = ⊎_elim (λ g. g) stolen (behind before after child e)
  where
    loose : ℕ → Bool
    loose q = s.stolen (n ++ q ∷ [])

    one : 1 + started before ≡ suc (started before)
    one = omega arith

    stolen : s.stolen (child_after n before) ≡ true → HasEnded FrameEnv View s (child_after n before)
    stolen t =
        end_of s (child_after n before) (s.frames (child_after n before)) refl
        (there (suc (started before))
        (subst (λ ds. Stands (stolen_in (λ q. s.stolen (n ++ q ∷ [])) 1 [] ds) (suc (started before))) (sym e)
        (subst (λ q. Stands (stolen_in (λ q. s.stolen (n ++ q ∷ [])) 1 [] (before ++ Invokes Spawn child ∷ after)) q) one (stands_in (λ q. s.stolen (n ++ q ∷ [])) 1 [] before after child none (ap (λ q. s.stolen (n ++ q ∷ [])) one ∙ t)))))

none_waits : (t : Bool) → (if t then false else true) ≡ false → t ≡ true
none_waits true h = refl
none_waits false h = absurd (true≢false h)

module _ (code : CodeView) (p : Source) (inputs : List ℤ) (name : ℕ → Name) (b : Scheduler) (d : WorkerTable) (s : State FrameEnv View) (w k : ℕ) (came : FrameState) (sh : ShowsBy code p inputs name b d s) (gone : HaveGoneOn s) (f : HasFrame b w k)
    (went : (let a = f.frame_state in WentOn code inputs a.cursor asks.Sync came)) (must : must_wait came ≡ false) where
  abbrev x : FrameState
  x = let a = f.frame_state in a.cursor

  abbrev past : List (Deed FrameEnv)
  past = let g = (let o = sh.sits k f.frame_state f.sits in o.frame) in g.deeds

  status_is : x.status ≡ Held w
  status_is =
      let g = sh.holds w k f.worker f.at f.has in
      let same : g.frame_state ≡ f.frame_state = (let q : Some g.frame_state ≡ Some f.frame_state = sym g.here ∙ f.sits in cc) in
      ap (λ (a : Activation FrameState). let y = a.cursor in y.status) (sym same) ∙ g.held

  held : IsWhere code p inputs name b s k (name k) past x (Held w)
  held = let o = sh.sits k f.frame_state f.sits in subst (λ z. IsWhere code p inputs name b s k (name k) past x z) status_is o.is_where

  kept_as : came ≡ record x { cursor = came.cursor; took = came.took }
  kept_as = kept_by code p inputs x came asks.Sync x.due went

  behind : WentOnBehind s (name k) (deeds_at (s.frames (name k)))
  behind = let o = sh.sits k f.frame_state f.sits in let law = gone_on_behind p inputs in law.behind s (name k) gone (subst (λ q. GoesOn FrameEnv View s (name k) (deeds_at q)) (sym o.here) held.3)

  abbrev block : JoinView
  block = let a = f.frame_state in let x = a.cursor in block_in x.join

  none_left : x.merged ≡ false → (let r = block.row in r.waits) ≡ []
  none_left q =
      let r = block.row in
      let open_yet : came.merged ≡ false = ap (λ (y : FrameState). y.merged) kept_as ∙ q in
      empty_list r.waits (none_waits (is_empty r.waits) (ap (λ (y : FrameState). has_awaited (block_in y.join)) (sym kept_as) ∙ sym (must_await code p inputs came open_yet) ∙ must))

  there_all : x.merged ≡ false → (q : ℕ) → Stands (stolen_in (λ q. s.stolen (name k ++ q ∷ [])) 1 [] past) q → has_ended (deeds_at (s.frames (name k ++ q ∷ []))) ≡ true
  there_all open_yet q among =
      let o = sh.sits k f.frame_state f.sits in
      let kb = kept code p inputs name b s k f.frame_state o held.4 open_yet (λ z. let y : Held w ≡ Waiting = sym status_is ∙ z in let n : ⊥ = cc in n) in
      let K = kb.0 in
      let r = block.row in
      let i : numbered.Instance = record { frame = 0; place = 0 } in
      let kind = kind_of Output in
      let own = cond block.closed (s.piece (name k) Output) (unit_of monoid_of Output) in
      let h = subst (λ ws. Lays kind (λ z. s.piece (name k ++ z ∷ []) Output) (is_there code p inputs name b s (name k)) own (unit_of monoid_of Output) (stolen_at_block code p inputs name b s (name k) past) (run_at kind i r.run) (waits_at kind i ws)) (none_left open_yet) (K.lays Output i (refl, refl)) in
      blocks.none_awaited kind (λ z. s.piece (name k ++ z ∷ []) Output) (is_there code p inputs name b s (name k)) own (unit_of monoid_of Output) (stolen_at_block code p inputs name b s (name k) past) (run_at kind i r.run) h q among

  over_now : (t : Bool) → x.merged ≡ t → BlockIsOver s (name k)
  over_now true q = let g = held.5 q in g.1
  over_now false q =
      let o = sh.sits k f.frame_state f.sits in
      ended_by s (name k) behind (λ z among. there_all q z (subst (λ ds. Stands (stolen_in (λ q. s.stolen (name k ++ q ∷ [])) 1 [] ds) z) (ap (λ y. deeds_at y) o.here) among))

pub blocks_are_over : (code : CodeView) (p : Source) (inputs : List ℤ) → BlocksAreOver code p inputs
blocks_are_over code p inputs name b d s w k came sh gone f went must = over_now code p inputs name b d s w k came sh gone f went must (let a = f.frame_state in let x = a.cursor in x.merged) refl
