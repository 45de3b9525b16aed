-- The piece of a stolen child that ends is awaited at its parent's block.
--
-- - `keys_at`: the keys of one reducer's row;
-- - `spawn`, `among`: the child among the block's stolen children;
-- - `may_arrive`: the law.
use Rattle.std.proofs.Common.{◌≡◌, inl, inr, ⊎_elim, ◌+◌, ◌<◌, ℕ, suc, Bool, true, false, true≢false, cond, ℤ, List, [], ◌∷◌, ◌++◌, length, slice_get, Some, refl, sym, ap, ◌∙◌, subst, arith}
use Rattle.std.proofs.lemmas.Bool.{cases_Bool}
use Rattle.cilk_types.specs.declared.event.Instance as numbered
use Rattle.cilk_types.specs.declared.invocation.Invocation.TheVariants.{Spawn}
use Rattle.cilk_monoid.specs.declared.kind.MonoidKind.{MonoidKind}
use Rattle.cilk_program.specs.declared.ask.Ask.TheVariants as asks
use Rattle.cilk_program.specs.Syntax.{Source}
use Rattle.cilk_lower.specs.Code.{CodeView}
use Rattle.cilk_frames.specs.declared.activation.Activation.{Activation}
use Rattle.cilk_join.specs.Joins.{JoinView, MayArrive}
use Rattle.cilk_join.specs.Products.{Product}
use Rattle.cilk_join.specs.Rows.{Stands, Wait, keys}
use Rattle.cilk_join.specs.Waits.{shown}
use Rattle.cilk_determinacy.specs.Machine.{Frame, State, deeds_at, started}
use Rattle.cilk_determinacy.specs.Monoids.{unit_of}
use Rattle.cilk_determinacy.specs.Progress.{HasNoSync, child_after}
use Rattle.cilk_determinacy.specs.Runs.{Name, Output, Deed, Invokes}
use Rattle.cilk_determinacy.specs.FrameEnvMachine.{has_ended}
use Rattle.cilk_determinacy.specs.Reducers.{View, kind_of, monoid_of}
use Rattle.cilk_determinacy.specs.FrameEnvs.{FrameEnv}
use Rattle.cilk_scheduler.specs.declared.scheduler.Scheduler.{Scheduler}
use Rattle.cilk_scheduler.specs.declared.frame_state.FrameState.{FrameState}
use Rattle.cilk_scheduler.specs.declared.frame_state.Status.{Status}
use Rattle.cilk_scheduler.specs.declared.frame_state.Status.TheVariants.{Held, Calling, Offered, Waiting, Finished}
use Rattle.cilk_scheduler.specs.Acting.{IsShown}
use Rattle.cilk_scheduler.specs.Blocks.{stolen_in}
use Rattle.cilk_scheduler.specs.Schedulers.{is_there, run_at, waits_at, HasBlock, IsWhere, Keeps, Sits, ShowsBy}
use Rattle.cilk_scheduler.specs.WorkerTables.{BlockIsOver, WorkerTable}
use Rattle.cilk_scheduler.specs.EndParts.{PiecesMayArrive}
use Rattle.cilk_scheduler.specs.Parents.{OutliveChildren}
use Rattle.cilk_scheduler.specs.Steps.{HasCome}
use Rattle.cilk_scheduler.proofs.Blocks as blocks
use Rattle.cilk_scheduler.proofs.Onward.{has_end}
use Rattle.cilk_scheduler.proofs.Placed.{get_some}
use Rattle.cilk_scheduler.proofs.Plain.{get_low}
use Rattle.cilk_scheduler.proofs.Returning.{end_true}
use Rattle.cilk_scheduler.proofs.Stepped as stepped
use Rattle.cilk_scheduler.proofs.Synced.{stands_in}
use Rattle.cilk_scheduler.proofs.Under.{IsUnder, none_after, under_of}

keys_at : (kind : MonoidKind) (i : numbered.Instance) (ws : List (Wait Product)) → keys (waits_at kind i ws) ≡ keys ws
keys_at kind i [] = refl
keys_at kind i (w ∷ ws) = ap (λ l. w.key ∷ l) (keys_at kind i ws)

module _ (code : CodeView) (p : Source) (inputs : List ℤ) (name : ℕ → Name) (b : Scheduler) (d : WorkerTable) (s : State FrameEnv View) (w k : ℕ) (v : ℤ) (is_shown : IsShown code p inputs name b d s) (outlive : OutliveChildren s) (h : HasCome code p inputs b w (suc k) (asks.End v)) where
  abbrev sh : ShowsBy code p inputs name b d s
  sh = is_shown.shows

  abbrev frame_states : List (Activation FrameState)
  frame_states = let f = b.frames in f.items

  abbrev frame_state : FrameState
  frame_state = let a = h.frame_state in a.cursor

  abbrev up : ℕ
  up = let a = h.frame_state in let x = a.cursor in x.parent

  abbrev ordinal : ℕ
  ordinal = let a = h.frame_state in let x = a.cursor in x.ordinal

  child_is : (up < suc k) × (name (suc k) ≡ name up ++ ordinal ∷ [])
  child_is = let y = sh in let t = y.tells in let n = t.named in n.child k h.frame_state h.sits

  low : up < length frame_states
  low = let c = child_is in let first = c.0 in let last = get_low frame_states (suc k) h.frame_state h.sits in omega (arith, first, last)

  above_at : (a : Activation FrameState) × (slice_get frame_states up ≡ Some a)
  above_at = get_some frame_states up low

  no_sync : asks.End v ≡ asks.Sync → ⊥
  no_sync q = cc

  here : (f : Frame FrameEnv) × (s.frames (name (suc k)) ≡ Some f) × (has_ended f.deeds ≡ false)
  here =
      let y = sh in
      let o = y.sits (suc k) h.frame_state h.sits in
      (o.frame, o.here, stepped.goes code p inputs name b d s w (suc k) (asks.End v) is_shown.lays sh h no_sync)

  under : IsUnder s (name up) ordinal
  under = let c = child_is in let f = here in under_of s outlive (name up) ordinal f.0 (ap s.frames (sym c.1) ∙ f.1) f.2

  not_ended : has_ended (deeds_at (s.frames (name up ++ ordinal ∷ []))) ≡ false
  not_ended = let c = child_is in let f = here in ap (λ n. has_ended (deeds_at (s.frames n))) (sym c.1) ∙ ap (λ x. has_ended (deeds_at x)) f.1 ∙ f.2

  module _ (stolen : frame_state.stolen ≡ true) (a : Activation FrameState) (at : slice_get frame_states up ≡ Some a) where
    abbrev parent : FrameState
    parent = a.cursor

    abbrev sitting : Sits code p inputs name b s up a
    sitting = let y = is_shown.shows in y.sits (let c = h.frame_state in let x = c.cursor in x.parent) a at

    abbrev deeds : List (Deed FrameEnv)
    deeds = let o = (let y = is_shown.shows in y.sits (let c = h.frame_state in let x = c.cursor in x.parent) a at) in let f = o.frame in f.deeds

    flag : s.stolen (name up ++ ordinal ∷ []) ≡ true
    flag = let y = sh in let o = y.sits (suc k) h.frame_state h.sits in let c = child_is in ap s.stolen (sym c.1) ∙ o.stolen ∙ stolen

    parent_is : (let o = sitting in o.frame) ≡ (let u = under in u.parent)
    parent_is = let u = under in let o = sitting in let q : Some o.frame ≡ Some u.parent = sym o.here ∙ u.here in cc

    going : has_ended deeds ≡ false
    going = let u = under in ap (λ (f : Frame FrameEnv). has_ended f.deeds) parent_is ∙ u.goes

    starts : deeds ≡ (let u = under in u.before ++ Invokes Spawn u.what ∷ u.after)
    starts = let u = under in ap (λ (f : Frame FrameEnv). f.deeds) parent_is ∙ u.starts ∙ ap (λ z. u.before ++ Invokes z u.what ∷ u.after) (u.spawned flag)

    none : HasNoSync (let u = under in u.after)
    none = let u = under in ⊎_elim (λ e. subst (λ l. HasNoSync l) (sym e) none_after) (λ e. e.1) u.since

    abbrev loose : ℕ → Bool
    loose = λ q. s.stolen (name up ++ q ∷ [])

    abbrev listed : List ℕ
    listed = stolen_in (λ q. s.stolen (name up ++ q ∷ [])) 1 [] deeds

    among : Stands listed ordinal
    among =
        let u = under in
        let one : 1 + started u.before ≡ ordinal = (let e = u.ordinal in omega (arith, e)) in
        subst (λ ds. Stands (stolen_in loose 1 [] ds) ordinal) (sym starts)
        (subst (λ q. Stands (stolen_in loose 1 [] (u.before ++ Invokes Spawn u.what ∷ u.after)) q) one (stands_in loose 1 [] u.before u.after u.what none (ap loose one ∙ flag)))

    not_over : BlockIsOver s (name up) → ⊥
    not_over over =
        let u = under in
        let o = sitting in
        let e = over u.before u.after u.what (ap (λ f. deeds_at f) o.here ∙ starts) none in
        true≢false (sym (has_end s (child_after (name up) u.before) e) ∙ ap (λ q. has_ended (deeds_at (s.frames (name up ++ q ∷ [])))) (sym u.ordinal) ∙ not_ended)

    unmerged : parent.merged ≡ false
    unmerged = by parent.status (let o = sitting in o.is_where)
      where
        by : (z : Status) → IsWhere code p inputs name b s up (name up) deeds parent z → parent.merged ≡ false
        by (Held v1) i = ⊎_elim (λ q. let y = i.5 q in absurd (not_over y.1)) (λ f. f) (cases_Bool parent.merged)
        by Calling i = i.4
        by (Offered v1) i = i.5
        by Waiting i = i.7
        by Finished i = absurd (true≢false (sym (end_true deeds i) ∙ going))

    awaits : (j : JoinView) → Keeps code p inputs name b s (name up) deeds j → MayArrive j ordinal false
    awaits j kept =
        let r = j.row in
        let q : numbered.Instance = record { frame = 0; place = 0 } in
        inl (
          refl,
          subst (λ l. Stands l ordinal) (keys_at (kind_of Output) q r.waits)
              (blocks.awaited (kind_of Output) (λ z. s.piece (name up ++ z ∷ []) Output) (is_there code p inputs name b s (name up)) (cond j.closed (s.piece (name up) Output) (unit_of monoid_of Output)) (unit_of monoid_of Output) listed (run_at (kind_of Output) q r.run) (waits_at (kind_of Output) q r.waits) ordinal among not_ended (kept.lays Output q (refl, refl))),
        )

    arrives_at : HasBlock code p inputs name b s (name up) deeds parent → (l : _) × (parent.join ≡ Some l) × MayArrive (shown l.value) ordinal false
    arrives_at (inl z) = absurd (subst (λ ks. Stands ks ordinal) z.1 among)
    arrives_at (inr z) = let l = z.0 in (z.0, z.1, ⊎_elim (λ q. absurd (true≢false (sym q ∙ unmerged))) (λ y. awaits (shown l.value) y.0) z.2)

pub may_arrive : (code : CodeView) (p : Source) (inputs : List ℤ) → PiecesMayArrive code p inputs
may_arrive code p inputs name b d s w k v is_shown outlive h =
    let r = above_at code p inputs name b d s w k v is_shown outlive h in (
      r.0,
      r.1,
      (λ stolen.
          let y = is_shown.shows in
          let a = h.frame_state in
          let x = a.cursor in
          let o = y.sits x.parent r.0 r.1 in
          arrives_at code p inputs name b d s w k v is_shown outlive h stolen r.0 r.1 (o.block (going code p inputs name b d s w k v is_shown outlive h stolen r.0 r.1))),
    )
