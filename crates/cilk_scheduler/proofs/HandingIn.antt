-- A frame ends beside which the continuation was stolen: its piece arrives at its parent's block.
--
-- - `child_is`, `spawn`, `among`: the parent, and this frame among its block's stolen children;
-- - `kept_before`, `lays_now`, `kept_now`: what lies at the block before and after the arrival;
-- - `unfinished`, `over_now`: whether the block is complete;
-- - `moved`, `parent_sits`, `holds_parent`, `worker_table_is`: workers, the parent's state, who holds it,
--   and the worker table;
-- - `arrivals_are_shown`: the law.
use Rattle.std.proofs.Common.{◌≡◌, ◌⊎◌, inl, inr, ⊎_elim, ◌+◌, ◌<◌, ◌≤◌, ℕ, suc, nat_eq, eq-eqb, eqb-true, Bool, true, false, true≢false, cond, ℤ, List, [], ◌∷◌, ◌++◌, length, set, slice_get, Option, Some, None, refl, sym, ap, ap₂, ◌∙◌, subst, append_assoc, arith}
use Rattle.std.specs.Prelude.{if◌then◌else◌, nat_lt}
use Rattle.std.proofs.lemmas.Bool.{cases_Bool}
use Rattle.cilk_types.specs.declared.event.Instance as numbered
use Rattle.cilk_types.specs.declared.invocation.Invocation.TheVariants.{Call, Spawn}
use Rattle.cilk_monoid.specs.Values.{ViewValue}
use Rattle.cilk_program.specs.declared.ask.Ask.TheVariants as asks
use Rattle.cilk_program.specs.Syntax.{Source}
use Rattle.cilk_lower.specs.Code.{CodeView}
use Rattle.cilk_frames.specs.declared.activation.Activation.{Activation}
use Rattle.cilk_hypermap.specs.Hypermap.{value_in}
use Rattle.cilk_join.specs.Joins.{JoinView, arrived_at, passed as passed_block}
use Rattle.cilk_join.specs.Products.{Product, product}
use Rattle.cilk_join.specs.Rows.{Row, Stands, Wait, is_empty}
use Rattle.cilk_join.specs.Waits.{shown}
use Rattle.cilk_determinacy.specs.Machine.{Frame, State, HasEnd, Makes, block_view, deeds_at, started}
use Rattle.cilk_determinacy.specs.Monoids.{unit_of}
use Rattle.cilk_determinacy.specs.Progress.{AfterChild, AfterEvent, AfterSteal, AtBegin, GoesOn, HasEnded, HasNoSync, child_after}
use Rattle.cilk_determinacy.specs.Runs.{Name, Instance, Output, End, Deed, Does, Invokes}
use Rattle.cilk_determinacy.proofs.Basics.{nil_snoc, snoc_one}
use Rattle.cilk_determinacy.proofs.Started.{started_invokes}
use Rattle.cilk_determinacy.specs.FrameEnvMachine.{costs, has_ended}
use Rattle.cilk_determinacy.specs.Reducers.{View, kind_of, monoid_of}
use Rattle.cilk_determinacy.specs.Steps.{Next}
use Rattle.cilk_determinacy.specs.FrameEnvViews.{IsViewOf}
use Rattle.cilk_determinacy.specs.FrameEnvs.{FrameEnv}
use Rattle.cilk_scheduler.specs.declared.scheduler.Scheduler.{Scheduler}
use Rattle.cilk_scheduler.specs.declared.choice.Choice.TheVariants.{Run}
use Rattle.cilk_scheduler.specs.declared.frame_state.Due.TheVariants as due
use Rattle.cilk_scheduler.specs.declared.frame_state.FrameState.{FrameState}
use Rattle.cilk_scheduler.specs.declared.frame_state.Status.{Status}
use Rattle.cilk_scheduler.specs.declared.frame_state.Status.TheVariants.{Held, Calling, Offered, Waiting, Finished}
use Rattle.cilk_scheduler.specs.declared.frame_state.Worker.{Worker}
use Rattle.cilk_scheduler.specs.Acting.{IsShown}
use Rattle.cilk_scheduler.specs.Blocks.{Lays, stolen_in, with_one}
use Rattle.cilk_scheduler.specs.Schedulers.{carried, greatest, hand_of, is_there, run_at, stolen_at_block, waits_at, HasBlock, Holds, IsBare, IsWorkerTable, IsUsed, IsWhere, Keeps, Sits, ShowsBy}
use Rattle.cilk_scheduler.specs.WorkerTables.{BlockIsOver, WorkerTable, Did, Chooses, IsIn, Settles, does, leaves, passes as passes_now, without}
use Rattle.cilk_scheduler.specs.Ending.{ArrivalsAreShown, HandsIn, IsEnded}
use Rattle.cilk_scheduler.specs.Events.{Arrives, block_in}
use Rattle.cilk_scheduler.specs.Numbered.{AreNamed, IsInstance}
use Rattle.cilk_scheduler.specs.Parents.{AreStarted, OutliveChildren}
use Rattle.cilk_scheduler.specs.FrameStates.{changed, counted, finished, moved_to, passed}
use Rattle.cilk_scheduler.specs.Steps.{HasCome}
use Rattle.cilk_scheduler.specs.Waiting.{idling}
use Rattle.cilk_scheduler.specs.Workers.{holding}
use Rattle.cilk_scheduler.proofs.Altered as altering
use Rattle.cilk_scheduler.proofs.Among.{among_low, in_less, in_rest, lays_among, not_in, stolen_apart}
use Rattle.cilk_scheduler.proofs.Blocks as blocks
use Rattle.cilk_scheduler.proofs.Carries as carries
use Rattle.cilk_scheduler.proofs.Changing.{changed_here, changed_known, changed_off, changed_length}
use Rattle.cilk_scheduler.proofs.Ended as ended
use Rattle.cilk_scheduler.proofs.Kept.{named_changed}
use Rattle.cilk_scheduler.proofs.Onward.{end_of, has_end}
use Rattle.cilk_scheduler.proofs.Plain.{get_low}
use Rattle.cilk_scheduler.proofs.Returning.{end_true}
use Rattle.cilk_scheduler.proofs.RunsEnd.{no_snoc}
use Rattle.cilk_scheduler.proofs.Synced.{stands_in}
use Rattle.cilk_scheduler.proofs.Thieves.{block_of, snoc_name, some_join}
use Rattle.cilk_scheduler.proofs.Under.{IsUnder, last_of, more_started, none_after, under_of}
use Rattle.cilk_scheduler.proofs.Waiting.{awaited_one, empty_at, placed_bare, placed_row, split}

-- both parts of a block that passes, or the second that is missing
both_pass : (c e : Bool) → (if c then e else false) ≡ true → (c ≡ true) × (e ≡ true)
both_pass true e h = (refl, h)
both_pass false e h = absurd (true≢false (sym h))

some_left : (c e : Bool) → (if c then e else false) ≡ false → c ≡ true → e ≡ false
some_left true e h q = h
some_left false e h q = absurd (true≢false (sym q))

no_waits : {A : Type 0} (ws : List A) → is_empty ws ≡ true → ws ≡ []
no_waits [] h = refl
no_waits (x ∷ ws) h = absurd (true≢false (sym h))

module _ (code : CodeView) (p : Source) (inputs : List ℤ) (name : ℕ → Name) (b b' : Scheduler) (d : WorkerTable) (s : State FrameEnv View) (w k : ℕ) (v : ℤ) (is_shown : IsShown code p inputs name b d s) (started_as : AreStarted p s) (outlive : OutliveChildren s)
    (h : HasCome code p inputs b w (suc k) (asks.End v)) (g : HandsIn code p inputs b b' w (suc k) v h) where
  abbrev sh : ShowsBy code p inputs name b d s
  sh = is_shown.shows

  abbrev old_frame_states : List (Activation FrameState)
  old_frame_states = let f = b.frames in f.items

  abbrev new_frame_states : List (Activation FrameState)
  new_frame_states = let f = b'.frames in f.items

  abbrev old_workers : List Worker
  old_workers = let l = b.workers in l.items

  abbrev new_workers : List Worker
  new_workers = let l = b'.workers in l.items

  abbrev frame_state : FrameState
  frame_state = let a = h.frame_state in a.cursor

  abbrev ordinal : ℕ
  ordinal = let a = h.frame_state in let x = a.cursor in x.ordinal

  abbrev up : ℕ
  up = let a = h.frame_state in let x = a.cursor in x.parent

  abbrev parent : FrameState
  parent = let a = g.above in a.cursor

  abbrev sitting : Sits code p inputs name b s up g.above
  sitting = let y = is_shown.shows in y.sits (let a = h.frame_state in let x = a.cursor in x.parent) g.above g.sits

  abbrev deeds : List (Deed FrameEnv)
  deeds = let o = (let y = is_shown.shows in y.sits (let a = h.frame_state in let x = a.cursor in x.parent) g.above g.sits) in let f = o.frame in f.deeds

  named : AreNamed old_frame_states name
  named = let y = is_shown.shows in let o = y.tells in o.named

  child_is : (up < suc k) × (name (suc k) ≡ name up ++ ordinal ∷ [])
  child_is = let n = named in n.child k h.frame_state h.sits

  apart : suc k ≡ up → ⊥
  apart e = let c = child_is in let low = c.0 in omega (arith, e, low)

  low : up < length old_frame_states
  low = get_low old_frame_states up g.above g.sits

  names_apart : name (suc k) ≡ name up → ⊥
  names_apart e = let n = named in apart (n.apart (suc k) up (get_low old_frame_states (suc k) h.frame_state h.sits) low e)

  -- another child of the parent's
  child_ne : (z : ℕ) → (ordinal ≡ z → ⊥) → name (suc k) ≡ name up ++ z ∷ [] → ⊥
  child_ne z ne e = let c = child_is in let r = snoc_name (name up) (name up) ordinal z (sym c.1 ∙ e) in ne r.1

  flag : s.stolen (name up ++ ordinal ∷ []) ≡ true
  flag =
      let y = is_shown.shows in
      let o = y.sits (suc k) h.frame_state h.sits in
      let c = child_is in
      ap s.stolen (sym c.1) ∙ o.stolen ∙ g.was_stolen

  not_ended : has_ended (deeds_at (s.frames (name up ++ ordinal ∷ []))) ≡ false
  not_ended = let c = child_is in ap (λ n. has_ended (deeds_at (s.frames n))) (sym c.1) ∙ ended.going code p inputs name b d s w (suc k) v is_shown started_as h

  under : IsUnder s (name up) ordinal
  under =
      let y = is_shown.shows in
      let o = y.sits (suc k) h.frame_state h.sits in
      let c = child_is in
      under_of s outlive (name up) ordinal o.frame (ap s.frames (sym c.1) ∙ o.here) (ended.goes code p inputs name b d s w (suc k) v is_shown started_as h)

  parent_is : (let o = sitting in o.frame) ≡ (let u = under in u.parent)
  parent_is = let u = under in let o = sitting in let q : Some o.frame ≡ Some u.parent = sym o.here ∙ u.here in cc

  going : has_ended deeds ≡ false
  going = let u = under in ap (λ (f : Frame FrameEnv). has_ended f.deeds) parent_is ∙ u.goes

  parent_here : deeds_at (s.frames (name up)) ≡ deeds
  parent_here = let o = sitting in ap (λ f. deeds_at f) o.here

  -- the parent spawned this frame, and has made no sync since
  pub record Spawned : Type 0 where
    pub before : List (Deed FrameEnv)
    pub what : FrameEnv
    pub after : List (Deed FrameEnv)
    pub starts : deeds ≡ before ++ Invokes Spawn what ∷ after
    pub ordinal_is : ordinal ≡ suc (started before)
    pub none : HasNoSync after

  spawn : Spawned
  spawn =
      let u = under in record {
        before = u.before;
        what = u.what;
        after = u.after;
        starts = ap (λ (f : Frame FrameEnv). f.deeds) parent_is ∙ u.starts ∙ ap (λ z. u.before ++ Invokes z u.what ∷ u.after) (u.spawned flag);
        ordinal_is = u.ordinal;
        none = ⊎_elim (λ e. subst (λ l. HasNoSync l) (sym e) none_after) (λ e. e.1) u.since;
      }

  abbrev loose : ℕ → Bool
  loose = λ q. s.stolen (name up ++ q ∷ [])

  abbrev listed : List ℕ
  listed = stolen_in (λ q. s.stolen (name up ++ q ∷ [])) 1 [] deeds

  -- a stolen child with no sync since
  listed_one : (before : List (Deed FrameEnv)) (what : FrameEnv) (after : List (Deed FrameEnv)) → deeds ≡ before ++ Invokes Spawn what ∷ after → HasNoSync after → s.stolen (name up ++ suc (started before) ∷ []) ≡ true → Stands listed (suc (started before))
  listed_one before what after e none is =
      let one : 1 + started before ≡ suc (started before) = omega arith in
      subst (λ ds. Stands (stolen_in loose 1 [] ds) (suc (started before))) (sym e)
      (subst (λ q. Stands (stolen_in loose 1 [] (before ++ Invokes Spawn what ∷ after)) q) one (stands_in loose 1 [] before after what none (ap loose one ∙ is)))

  among : Stands listed ordinal
  among =
      let x = spawn in
      subst (λ q. Stands listed q) (sym x.ordinal_is) (listed_one x.before x.what x.after x.starts x.none (ap loose (sym x.ordinal_is) ∙ flag))

  not_over : BlockIsOver s (name up) → ⊥
  not_over over =
      let x = spawn in
      let e = over x.before x.after x.what (parent_here ∙ x.starts) x.none in
      true≢false (sym (has_end s (child_after (name up) x.before) e) ∙ ap (λ q. has_ended (deeds_at (s.frames (name up ++ q ∷ [])))) (sym x.ordinal_is) ∙ not_ended)

  unmerged : parent.merged ≡ false
  unmerged = by parent.status (let o = sitting in o.is_where)
    where
      by : (z : Status) → IsWhere code p inputs name b s up (name up) deeds parent z → parent.merged ≡ false
      by (Held at) i = ⊎_elim (λ q. let y = i.5 q in absurd (not_over y.1)) (λ f. f) (cases_Bool parent.merged)
      by Calling i = i.4
      by (Offered at) i = i.5
      by Waiting i = i.7
      by Finished i = absurd (true≢false (sym (end_true deeds i) ∙ going))

  -- ---- the block before

  abbrev block : JoinView
  block = let a = g.above in let y = a.cursor in block_in y.join

  abbrev piece : Product
  piece = product g.views

  abbrev block_now : JoinView
  block_now = arrived_at (let a = g.above in let y = a.cursor in block_in y.join) (let a = h.frame_state in let x = a.cursor in x.ordinal) false (product g.views)

  kept_before : Keeps code p inputs name b s (name up) deeds block × (block.closed ≡ true → parent.status ≡ Waiting)
  kept_before =
      let o = sitting in
      ⊎_elim (λ z. absurd (subst (λ ks. Stands ks ordinal) z.1 among))
      (λ z.
      let l = z.0 in
      let e : block ≡ shown l.value = block_of parent.join z.0 z.1 in
      ⊎_elim (λ q. absurd (true≢false (sym q ∙ unmerged))) (λ y. (subst (λ j. Keeps code p inputs name b s (name up) deeds j) (sym e) y.0, (λ c. y.1 (sym (ap (λ (j : JoinView). j.closed) e) ∙ c)))) z.2)
      (o.block going)

  least : ordinal ≤ block.stolen
  least =
      let K = kept_before in
      let kb = K.0 in
      let e = kb.stolen in
      let r = among_low loose 1 [] deeds (λ z q. absurd q) (λ z q. absurd q) ordinal among in
      omega (arith, e, r)

  some_stolen : 0 < block.stolen
  some_stolen = let l = least in let x = spawn in let e = x.ordinal_is in omega (arith, l, e)

  goes_where : parent.status ≡ Waiting → GoesOn FrameEnv View s (name up) deeds × (parent.due ≡ due.Sync)
  goes_where q = let o = sitting in let i = subst (λ z. IsWhere code p inputs name b s up (name up) deeds parent z) q o.is_where in (i.5, i.0)

  module _ (s' : State FrameEnv View) (m : Makes FrameEnv View monoid_of (Next p inputs) (costs p inputs) s (name (suc k)) s') where
    -- ---- workers and frame states

    abbrev mid : List (Activation FrameState)
    mid = changed (λ _. counted (finished h.came)) (let f = b.frames in f.items) (suc k)

    abbrev with_frame : Bool → Worker → Worker
    with_frame t = cond t (holding up g.left) (idling g.left)

    offers_same : (t : Bool) (u : Worker) → (let x = with_frame t u in x.offered) ≡ u.offered
    offers_same true u = refl
    offers_same false u = refl

    hands_same : (t : Bool) (u : Worker) → hand_of name (with_frame t u) ≡ cond t (Some (name up)) None
    hands_same true u = refl
    hands_same false u = refl

    abbrev parent_with : Bool → FrameState
    parent_with t = let a = g.above in let y = a.cursor in let j = g.joined in record y { status = cond t (Held w) y.status; join = j.join; merged = cond t true y.merged }

    parent_is_now : (t : Bool) → cond t (moved_to (Held w) (passed g.joined)) g.joined ≡ parent_with t
    parent_is_now true = ap (λ (y : FrameState). moved_to (Held w) (passed y)) g.joined_is
    parent_is_now false = g.joined_is

    abbrev change : FrameState → FrameState
    change = λ _. cond g.passes (moved_to (Held w) (passed g.joined)) g.joined

    up_at : slice_get new_frame_states up ≡ Some (let a = g.above in record a { cursor = parent_with g.passes })
    up_at =
        let a = g.above in
        let B : FrameState → Option (Activation FrameState) = (λ y. Some (record a { cursor = y })) in
        ap (λ l. slice_get l up) g.frames ∙ changed_here change mid up g.above (changed_off (λ _. counted (finished h.came)) old_frame_states (suc k) up apart ∙ g.sits) ∙ ap B (parent_is_now g.passes)

    named_now : AreNamed new_frame_states name
    named_now =
        let J : FrameState → FrameState = (λ y. let x = parent_with g.passes in record y { status = x.status; join = x.join; merged = x.merged }) in
        subst (λ l. AreNamed l name) (sym g.frames)
        (subst (λ l. AreNamed l name) (changed_known J change mid up g.above (changed_off (λ _. counted (finished h.came)) old_frame_states (suc k) up apart ∙ g.sits) (sym (parent_is_now g.passes)))
        (named_changed J mid up name (λ x. (refl, refl)) (ended.named_ended code p inputs name b d s w (suc k) v is_shown started_as h b' g.views g.closes s' m)))

    moved : ended.Moved code p inputs name b d s w (suc k) v is_shown started_as h b' g.views g.closes s' m up
    moved = record {
      on = subst (λ l. carries.Carries old_frame_states l) (sym g.frames) (carries.carries_then old_frame_states mid (changed change mid up) (carries.carries_changed (λ _. counted (finished h.came)) old_frame_states (suc k)) (carries.carries_changed change mid up));
      same_length = ap (λ (l : List (Activation FrameState)). length l) g.frames ∙ changed_length change mid up ∙ changed_length (λ _. counted (finished h.came)) old_frame_states (suc k);
      else_at = λ j ne ne'. ap (λ l. slice_get l j) g.frames ∙ changed_off change mid up j ne' ∙ changed_off (λ _. counted (finished h.came)) old_frame_states (suc k) j ne;
      now_at = ap (λ l. slice_get l (suc k)) g.frames ∙ changed_off change mid up (suc k) (λ e. apart (sym e)) ∙ changed_here (λ _. counted (finished h.came)) old_frame_states (suc k) h.frame_state h.sits;
      named = named_now;
      above = low;
      kin = λ n z q. let c = child_is in let r = snoc_name (name up) n ordinal z (sym c.1 ∙ q) in sym r.0;
      worker_on = λ at u is.
          let r = altering.altered_on (with_frame g.passes) old_workers w at u is in
          (r.0, ap (λ l. slice_get l at) g.workers ∙ r.1, ended.had_by code p inputs name b d s w (suc k) v is_shown started_as h b' g.views g.closes s' m up at (with_frame g.passes) u r.0 (offers_same g.passes) r.2);
      worker_was = λ at u' is.
          let r = altering.altered_from (with_frame g.passes) old_workers w at u' (sym (ap (λ l. slice_get l at) g.workers) ∙ is) in
          (r.0, r.1, ended.had_by code p inputs name b d s w (suc k) v is_shown started_as h b' g.views g.closes s' m up at (with_frame g.passes) r.0 u' (offers_same g.passes) r.2);
    }

    own_there : (u : Worker) × (slice_get new_workers w ≡ Some u) × (u ≡ with_frame g.passes h.worker)
    own_there =
        let r = altering.altered_on (with_frame g.passes) old_workers w w h.worker h.at in
        (r.0, ap (λ l. slice_get l w) g.workers ∙ r.1, ⊎_elim (λ e. e.1) (λ e. absurd (e.0 refl)) r.2)

    own_now : (u : Worker) → slice_get new_workers w ≡ Some u → u ≡ with_frame g.passes h.worker
    own_now u is = let r = own_there in let q : Some u ≡ Some r.0 = sym is ∙ r.1 in let e : u ≡ r.0 = cc in e ∙ r.2

    -- ---- the block after

    child_ended : has_ended (deeds_at (s'.frames (name up ++ ordinal ∷ []))) ≡ true
    child_ended = let c = child_is in ap (λ n. has_ended (deeds_at (s'.frames n))) (sym c.1) ∙ ended.ended_here code p inputs name b d s w (suc k) v is_shown started_as h b' g.views g.closes s' m

    abbrev there : ℕ → Bool
    there = is_there code p inputs name b s (name up)

    abbrev there_now : ℕ → Bool
    there_now = is_there code p inputs name b' s' (name up)

    there_as : (z : ℕ) → there_now z ≡ with_one there ordinal z
    there_as z = by (nat_eq z ordinal) refl
      where
        by : (t : Bool) → nat_eq z ordinal ≡ t → there_now z ≡ cond (nat_eq z ordinal) true (there z)
        by true e = ap (λ q. has_ended (deeds_at (s'.frames (name up ++ q ∷ [])))) (eqb-true z ordinal e) ∙ child_ended ∙ sym (ap (λ t. cond t true (there z)) e)
        by false e = ended.ends_else code p inputs name b d s w (suc k) v is_shown started_as h b' g.views g.closes s' m (name up ++ z ∷ []) (child_ne z (λ q. true≢false (sym (eq-eqb z ordinal (sym q)) ∙ e))) ∙ sym (ap (λ t. cond t true (there z)) e)

    flags : (ds : List (Deed FrameEnv)) → stolen_at_block code p inputs name b' s' (name up) ds ≡ stolen_in loose 1 [] ds
    flags ds = ap (λ (l : Name → Bool). stolen_in (λ q. l (name up ++ q ∷ [])) 1 [] ds) m.stolen

    own_same : (i : Instance) → cond block.closed (s'.piece (name up) i) (unit_of monoid_of i) ≡ cond block.closed (s.piece (name up) i) (unit_of monoid_of i)
    own_same i = ap (λ x. cond block.closed x (unit_of monoid_of i)) (ended.piece_off code p inputs name b d s w (suc k) v is_shown started_as h b' g.views g.closes s' m i (name up) names_apart)

    lays_now : (i : Instance) (q : numbered.Instance) → IsInstance p old_frame_states name i q → let r = block_now.row in
        Lays (kind_of i) (λ z. s'.piece (name up ++ z ∷ []) i) there_now (cond block.closed (s'.piece (name up) i) (unit_of monoid_of i)) (unit_of monoid_of i) (stolen_at_block code p inputs name b' s' (name up) deeds) (run_at (kind_of i) q r.run) (waits_at (kind_of i) q r.waits)
    lays_now i q is =
        let K = kept_before in
        let kb = K.0 in
        let r = block.row in
        let rn = block_now.row in
        let c = child_is in
        let kind = kind_of i in
        let kid : ℕ → View = (λ z. s.piece (name up ++ z ∷ []) i) in
        let kid' : ℕ → View = (λ z. s'.piece (name up ++ z ∷ []) i) in
        let own = cond block.closed (s.piece (name up) i) (unit_of monoid_of i) in
        let own' = cond block.closed (s'.piece (name up) i) (unit_of monoid_of i) in
        let view : IsViewOf kind (kid' ordinal) (piece kind q) = subst (λ n. IsViewOf kind (s'.piece n i) (value_in g.views kind q)) c.1 (ended.left_views code p inputs name b d s w (suc k) v is_shown started_as h b' g.views g.closes s' m i q is) in
        let one = blocks.arrives kind kid kid' there own ordinal (λ j e. ended.piece_off code p inputs name b d s w (suc k) v is_shown started_as h b' g.views g.closes s' m i (name up ++ j ∷ []) (child_ne j (λ x. true≢false (sym (eq-eqb j ordinal (sym x)) ∙ e)))) (piece kind q) view
        (unit_of monoid_of i) listed (run_at kind q r.run) (waits_at kind q r.waits) (stolen_apart loose 1 [] deeds (λ z x. absurd x) tt) among not_ended (kb.lays i q is) in
        let two = subst (λ (y : Row ViewValue). Lays kind kid' (with_one there ordinal) own (unit_of monoid_of i) listed y.run y.waits) (placed_row kind q r.run r.waits ordinal piece) one in
        let three = lays_among kind kid' kid' (with_one there ordinal) there_now own own' (own_same i) (unit_of monoid_of i) listed (run_at kind q rn.run) (waits_at kind q rn.waits) (λ z at. there_as z) (λ z at x. refl) two in
        subst (λ ks. Lays kind kid' there_now own' (unit_of monoid_of i) ks (run_at kind q rn.run) (waits_at kind q rn.waits)) (sym (flags deeds)) three

    bare_now : let r = block_now.row in ((run : Product) → r.run ≡ Some run → IsBare (length old_frame_states) run) × ((q : ℕ) (a : Wait Product) (run : Product) → slice_get r.waits q ≡ Some a → a.run ≡ Some run → IsBare (length old_frame_states) run)
    bare_now =
        let K = kept_before in
        let kb = K.0 in
        let r = block.row in
        placed_bare (length old_frame_states) r.run r.waits ordinal piece kb.bare kb.bare_later (ended.left_bare code p inputs name b d s w (suc k) v is_shown started_as h b' g.views g.closes s' m)

    kept_now : Keeps code p inputs name b' s' (name up) deeds block_now
    kept_now =
        let K = kept_before in
        let kb = K.0 in
        let z = bare_now in record {
          lays = λ i q is. lays_now i q (ended.instance_back code p inputs name b d s w (suc k) v is_shown started_as h b' g.views g.closes s' m up moved i q is);
          stolen = kb.stolen ∙ ap greatest (sym (flags deeds));
          arrived = λ c. arrived_low (nat_lt block.arrived ordinal) (kb.arrived c);
          bare = λ run at. subst (λ n. IsBare n run) (sym moved.same_length) (z.0 run at);
          bare_later = λ q a run at has. subst (λ n. IsBare n run) (sym moved.same_length) (z.1 q a run at has);
        }
      where
        arrived_low : (t : Bool) → block.arrived ≤ block.stolen → (if t then ordinal else block.arrived) ≤ block.stolen
        arrived_low true e = least
        arrived_low false e = e

    -- ---- whether the block is complete

    abbrev at_output : numbered.Instance
    at_output = record { frame = 0; place = 0 }

    parent_frame : s'.frames (name up) ≡ Some (let o = sitting in o.frame)
    parent_frame = let o = sitting in ended.frame_else code p inputs name b d s w (suc k) v is_shown started_as h b' g.views g.closes s' m (name up) names_apart ∙ o.here

    -- one of the stolen children is still to come
    unfinished : (let r = block_now.row in is_empty r.waits) ≡ false → ¬ (BlockIsOver s' (name up))
    unfinished left over =
        let r = block_now.row in
        let some : is_empty (waits_at (kind_of Output) at_output r.waits) ≡ false = empty_at (kind_of Output) at_output r.waits ∙ left in
        let q = awaited_one (kind_of Output) (λ z. s'.piece (name up ++ z ∷ []) Output) there_now (cond block.closed (s'.piece (name up) Output) (unit_of monoid_of Output)) (unit_of monoid_of Output) (stolen_at_block code p inputs name b' s' (name up) deeds)
        (run_at (kind_of Output) at_output r.run) (waits_at (kind_of Output) at_output r.waits) (lays_now Output at_output (refl, refl)) some in
        let y = ⊎_elim (λ a. absurd a.0) (λ a. a) (split (λ z. s'.stolen (name up ++ z ∷ [])) 1 [] deeds q.0 q.1) in
        let e = over y.0 y.1 y.2 (ap (λ f. deeds_at f) parent_frame ∙ y.3) y.4 in
        let at : q.0 ≡ suc (started y.0) = (let n = y.5 in omega (arith, n)) in
        true≢false (sym (has_end s' (name up ++ suc (started y.0) ∷ []) e) ∙ ap (λ z. there_now z) (sym at) ∙ q.2)

    -- all stolen children are there
    all_there : (let r = block_now.row in is_empty r.waits) ≡ true → (q : ℕ) → Stands listed q → there_now q ≡ true
    all_there none q at =
        let r = block_now.row in
        blocks.none_awaited (kind_of Output) (λ z. s'.piece (name up ++ z ∷ []) Output) there_now (cond block.closed (s'.piece (name up) Output) (unit_of monoid_of Output)) (unit_of monoid_of Output) (stolen_at_block code p inputs name b' s' (name up) deeds) (run_at (kind_of Output) at_output r.run)
        (subst (λ ws. Lays (kind_of Output) (λ z. s'.piece (name up ++ z ∷ []) Output) there_now (cond block.closed (s'.piece (name up) Output) (unit_of monoid_of Output)) (unit_of monoid_of Output) (stolen_at_block code p inputs name b' s' (name up) deeds) (run_at (kind_of Output) at_output r.run) (waits_at (kind_of Output) at_output ws)) (no_waits r.waits none) (lays_now Output at_output (refl, refl))) q (subst (λ ks. Stands ks q) (sym (flags deeds)) at)

    ended_at : (q : ℕ) → there_now q ≡ true → HasEnded FrameEnv View s' (name up ++ q ∷ [])
    ended_at q is = end_of s' (name up ++ q ∷ []) (s'.frames (name up ++ q ∷ [])) refl is

    -- a child that went on beside it was stolen
    over_now : (let r = block_now.row in is_empty r.waits) ≡ true → GoesOn FrameEnv View s (name up) deeds → BlockIsOver s' (name up)
    over_now none goes_on before after child e no_sync =
        let o = sitting in
        let at : deeds ≡ before ++ Invokes Spawn child ∷ after = sym (ap (λ f. deeds_at f) parent_frame) ∙ e in
        ⊎_elim (λ x. carries.ended_on s s' (ended.ends_more code p inputs name b d s w (suc k) v is_shown started_as h b' g.views g.closes s' m) (child_after (name up) before) x) (λ x. ⊎_elim (λ y. last y goes_on) (λ y. stolen (y.2)) x.since)
        (outlive.outlive (name up) o.frame before Spawn child after o.here at)
      where
        at : deeds ≡ before ++ Invokes Spawn child ∷ after
        at = sym (ap (λ f. deeds_at f) parent_frame) ∙ e

        stolen : s.stolen (child_after (name up) before) ≡ true → HasEnded FrameEnv View s' (child_after (name up) before)
        stolen is = ended_at (suc (started before)) (all_there none (suc (started before)) (listed_one before child after at no_sync is))

        last : after ≡ [] → GoesOn FrameEnv View s (name up) deeds → HasEnded FrameEnv View s' (child_after (name up) before)
        last y (AtBegin q) = nil_snoc before (Invokes Spawn child) (sym q ∙ at ∙ ap (λ l. before ++ Invokes Spawn child ∷ l) y)
        last y (AfterEvent b1 x q) =
            let r = snoc_one before b1 (Invokes Spawn child) (Does x) (sym (at ∙ ap (λ l. before ++ Invokes Spawn child ∷ l) y) ∙ q) in
            let z : Invokes Spawn child ≡ Does x = r.1 in
            let f : ⊥ = cc in
            absurd f
        last y (AfterChild b1 kind what q x) =
            let r = snoc_one before b1 (Invokes Spawn child) (Invokes kind what) (sym (at ∙ ap (λ l. before ++ Invokes Spawn child ∷ l) y) ∙ q) in
            carries.ended_on s s' (ended.ends_more code p inputs name b d s w (suc k) v is_shown started_as h b' g.views g.closes s' m) (child_after (name up) before) (subst (λ l. HasEnded FrameEnv View s (child_after (name up) l)) (sym r.0) x)
        last y (AfterSteal b1 what q x) =
            let r = snoc_one before b1 (Invokes Spawn child) (Invokes Spawn what) (sym (at ∙ ap (λ l. before ++ Invokes Spawn child ∷ l) y) ∙ q) in
            stolen (subst (λ l. s.stolen (child_after (name up) l) ≡ true) (sym r.0) x)

    -- ---- the parent's state

    abbrev Comes : Bool → Type 0
    Comes t = let j = g.joined in Arrives (let a = g.above in let y = a.cursor in block_in y.join) (let a = h.frame_state in let x = a.cursor in x.ordinal) false (product g.views) t (block_in j.join) g.left

    -- where it passes, the parent waits at its sync, and no key is awaited
    passes_then : Comes true → (parent.status ≡ Waiting) × (block.closed ≡ true) × ((let r = block_now.row in is_empty r.waits) ≡ true)
    passes_then a = let r = block_now.row in let z = both_pass block.closed (is_empty r.waits) a.0 in let K = kept_before in (K.1 z.0, z.0, z.1)

    waits_then : Comes false → block.closed ≡ true → (let r = block_now.row in is_empty r.waits) ≡ false
    waits_then a c = let r = block_now.row in some_left block.closed (is_empty r.waits) a.0 c

    block_parent : (t : Bool) → Comes t → HasBlock code p inputs name b' s' (name up) deeds (parent_with t)
    block_parent true a =
        let l = some_join (let j = g.joined in j.join) (passed_block block_now) a.2 some_stolen in
        inr (l.0, l.1, inl refl)
    block_parent false a =
        let l = some_join (let j = g.joined in j.join) block_now a.1 some_stolen in
        let K = kept_before in
        inr (l.0, l.1, inr (subst (λ j. Keeps code p inputs name b' s' (name up) deeds j) (sym l.2) kept_now, (λ c. K.1 (sym (ap (λ (j : JoinView). j.closed) l.2) ∙ c))))

    where_passes : g.passes ≡ true → Comes true → IsWhere code p inputs name b' s' up (name up) deeds (parent_with true) (Held w)
    where_passes e a =
        let z = passes_then a in
        let y = goes_where z.0 in
        let u = own_there in
        let has : (let x = u.0 in x.frame) ≡ Some up = ap (λ (x : Worker). x.frame) u.2 ∙ ap (λ t. let x = with_frame t h.worker in x.frame) e in
        (u.0, u.1, has, ended.goes_on code p inputs name b d s w (suc k) v is_shown started_as h b' g.views g.closes s' m up moved (name up) deeds y.0, going, (λ q. (y.1, over_now z.2 y.0)), (λ q. absurd (true≢false q)))

    -- another child of the parent's hasn't ended yet
    still_out : (q : ℕ) → (ordinal ≡ q → ⊥) → has_ended (deeds_at (s.frames (name up ++ q ∷ []))) ≡ false → has_ended (deeds_at (s'.frames (name up ++ q ∷ []))) ≡ false
    still_out q ne is = ended.ends_else code p inputs name b d s w (suc k) v is_shown started_as h b' g.views g.closes s' m (name up ++ q ∷ []) (child_ne q ne) ∙ is

    -- the child that the parent called last isn't this one
    not_called : (before : List (Deed FrameEnv)) (x : FrameEnv) → deeds ≡ before ++ Invokes Call x ∷ [] → ordinal ≡ started deeds → ⊥
    not_called before x e q = by (last_of after0)
      where
        after0 : List (Deed FrameEnv)
        after0 = let z = spawn in z.after

        by : (after0 ≡ []) ⊎ ((xs : List (Deed FrameEnv)) × (y : Deed FrameEnv) × (after0 ≡ xs ++ y ∷ [])) → ⊥
        by (inl none) =
            let z = spawn in
            let r = snoc_one z.before before (Invokes Spawn z.what) (Invokes Call x) (sym (z.starts ∙ ap (λ l. z.before ++ Invokes Spawn z.what ∷ l) none) ∙ e) in
            let n : Invokes Spawn z.what ≡ Invokes Call x = r.1 in
            cc
        by (inr y) =
            let z = spawn in
            let whole : deeds ≡ (z.before ++ Invokes Spawn z.what ∷ y.0) ++ y.1 ∷ [] = z.starts ∙ ap (λ l. z.before ++ Invokes Spawn z.what ∷ l) y.2 ∙ sym (append_assoc z.before (Invokes Spawn z.what ∷ y.0) (y.1 ∷ [])) in
            let r = snoc_one (z.before ++ Invokes Spawn z.what ∷ y.0) before y.1 (Invokes Call x) (sym whole ∙ e) in
            let n : started deeds ≡ suc (started before) = ap (λ l. started l) e ∙ started_invokes before Call x in
            let more : suc (started z.before) ≤ started before = subst (λ l. suc (started z.before) ≤ started l) r.0 (more_started z.before Spawn z.what y.0) in
            let o = z.ordinal_is in
            omega (arith, q, n, more, o)

    where_waits : g.passes ≡ false → Comes false → (z : Status) → parent.status ≡ z → IsWhere code p inputs name b s up (name up) deeds parent z → IsWhere code p inputs name b' s' up (name up) deeds (parent_with false) z
    where_waits e a (Held at) is i =
        let r = moved.worker_on at i.0 i.1 in
        let o = r.2 in
        (r.0, r.1, o.frame_is (λ q. apart (ended.own_worker code p inputs name b d s w (suc k) v is_shown started_as h b' g.views g.closes s' m up moved at up i.0 i.1 i.2 q)) ∙ i.2, ended.goes_on code p inputs name b d s w (suc k) v is_shown started_as h b' g.views g.closes s' m up moved (name up) deeds i.3, i.4, (λ q. absurd (true≢false (sym q ∙ unmerged))), i.6)
    where_waits e a Calling is i = (i.0, i.1, i.2, still_out (started deeds) (not_called i.0 i.1 i.2) i.3, i.4, i.5, i.6)
    where_waits e a (Offered at) is i =
        let r = altering.altered_on (with_frame g.passes) old_workers w at i.6 i.7 in
        let same : (let x = r.0 in x.offered) ≡ (let x = i.6 in x.offered) = ⊎_elim (λ q. ap (λ (y : Worker). y.offered) q.1 ∙ offers_same g.passes i.6) (λ q. ap (λ (y : Worker). y.offered) q.1) r.2 in (
          i.0,
          i.1,
          i.2,
          still_out (started deeds) (λ q. true≢false (sym flag ∙ ap (λ z. s.stolen (name up ++ z ∷ [])) q ∙ i.4)) i.3,
          ended.stolen_at code p inputs name b d s w (suc k) v is_shown started_as h b' g.views g.closes s' m (name up ++ started deeds ∷ []) ∙ i.4,
          i.5,
          r.0,
          ap (λ l. slice_get l at) g.workers ∙ r.1,
          i.8,
          subst (λ o. slice_get o.items i.8 ≡ Some up) (sym same) i.9,
          i.10,
          i.11,
        )
    where_waits e a Waiting is i =
        let l = some_join (let j = g.joined in j.join) block_now a.1 some_stolen in
        let closed : block.closed ≡ true = ap (λ (j : JoinView). j.closed) (block_of parent.join i.1 i.2) ∙ i.3 in
        (i.0, l.0, l.1, ap (λ (j : JoinView). j.closed) l.2 ∙ closed, unfinished (waits_then a closed), ended.goes_on code p inputs name b d s w (suc k) v is_shown started_as h b' g.views g.closes s' m up moved (name up) deeds i.5, i.6, i.7)
    where_waits e a Finished is i = i

    parent_sits : (t : Bool) → g.passes ≡ t → Comes t → Sits code p inputs name b' s' up (let a = g.above in record a { cursor = parent_with t })
    parent_sits true e a = let o = sitting in ended.stays_with code p inputs name b d s w (suc k) v is_shown started_as h b' g.views g.closes s' m up moved up g.above (parent_with true) apart g.sits refl o (where_passes e a) (λ q. block_parent true a)
    parent_sits false e a = let o = sitting in ended.stays_with code p inputs name b d s w (suc k) v is_shown started_as h b' g.views g.closes s' m up moved up g.above (parent_with false) apart g.sits refl o (where_waits e a parent.status refl o.is_where) (λ q. block_parent false a)

    -- ---- the worker that continues with it

    lays_whole : Comes true → (i : Instance) (q : numbered.Instance) → IsInstance p old_frame_states name i q
        → Lays (kind_of i) (λ z. s'.piece (name up ++ z ∷ []) i) there_now (s'.piece (name up) i) (unit_of monoid_of i) (stolen_at_block code p inputs name b' s' (name up) deeds) (Some (product g.left (kind_of i) q)) []
    lays_whole a i q is =
        let r = block_now.row in
        let z = passes_then a in
        let kind = kind_of i in
        let L : View → Option Product → List (Wait Product) → Type 0 = (λ own run ws. Lays kind (λ z. s'.piece (name up ++ z ∷ []) i) there_now own (unit_of monoid_of i) (stolen_at_block code p inputs name b' s' (name up) deeds) (run_at kind q run) (waits_at kind q ws)) in
        subst (λ run. L (s'.piece (name up) i) run []) a.1 (subst (λ ws. L (s'.piece (name up) i) r.run ws) (no_waits r.waits z.2) (subst (λ c. L (cond c (s'.piece (name up) i) (unit_of monoid_of i)) r.run r.waits) z.1 (lays_now i q is)))

    -- a stolen child has ended
    stolen_ended : Comes true → (q : ℕ) → s.stolen (name up ++ q ∷ []) ≡ true → there_now q ≡ true
    stolen_ended a q is = by (has_ended (deeds_at (s.frames (name up ++ q ∷ [])))) refl (s.frames (name up ++ q ∷ [])) refl
      where
        by : (t : Bool) → has_ended (deeds_at (s.frames (name up ++ q ∷ []))) ≡ t → (found : Option (Frame FrameEnv)) → s.frames (name up ++ q ∷ []) ≡ found → there_now q ≡ true
        by true e found x = ended.ends_more code p inputs name b d s w (suc k) v is_shown started_as h b' g.views g.closes s' m (name up ++ q ∷ []) e
        by false e None x = absurd (true≢false (sym is ∙ outlive.unstolen (name up ++ q ∷ []) x))
        by false e (Some f) x =
            let z = passes_then a in
            let u = under_of s outlive (name up) q f x (ap (λ y. has_ended (deeds_at y)) (sym x) ∙ e) in
            let o = sitting in
            let same : o.frame ≡ u.parent = (let y : Some o.frame ≡ Some u.parent = sym o.here ∙ u.here in cc) in
            let at : deeds ≡ u.before ++ Invokes Spawn u.what ∷ u.after = ap (λ (f : Frame FrameEnv). f.deeds) same ∙ u.starts ∙ ap (λ z. u.before ++ Invokes z u.what ∷ u.after) (u.spawned is) in
            let none : HasNoSync u.after = ⊎_elim (λ e. subst (λ l. HasNoSync l) (sym e) none_after) (λ e. e.1) u.since in
            all_there z.2 q (subst (λ n. Stands listed n) (sym u.ordinal) (listed_one u.before u.what u.after at none (ap loose (sym u.ordinal) ∙ is)))

    holds_parent : (u : Worker) → u.views ≡ g.left → g.passes ≡ true → Comes true → Holds code p inputs name b' s' w u up
    holds_parent u views e a =
        let z = bare_now in record {
          frame_state = (let a = g.above in record a { cursor = parent_with g.passes });
          here = up_at;
          held = ap (λ t. cond t (Held w) parent.status) e;
          views = λ i j is.
              let whole = blocks.passes (kind_of i) (λ z. s'.piece (name up ++ z ∷ []) i) (λ z. s'.stolen (name up ++ z ∷ [])) there_now (s'.piece (name up) i) deeds (Some (product g.left (kind_of i) j)) (lays_whole a i j (ended.instance_back code p inputs name b d s w (suc k) v is_shown started_as h b' g.views g.closes s' m up moved i j is)) in
              subst (λ x. IsViewOf (kind_of i) x (value_in u.views (kind_of i) j))
              (sym (ap₂ (λ f t. carried (monoid_of i) (λ n. s'.piece n i) s'.stolen (name up) (deeds_at f) t) parent_frame (ap (λ t. cond t true parent.merged) e)))
              (subst (λ x. IsViewOf (kind_of i) ((monoid_of i).combine (block_view (monoid_of i) (λ z. s'.piece (name up ++ z ∷ []) i) (λ z. s'.stolen (name up ++ z ∷ [])) ((monoid_of i).unit) 1 deeds) (s'.piece (name up) i)) (value_in x (kind_of i) j)) (sym views) whole);
          used = λ q is. used_now q (subst (λ t. IsUsed s'.stolen (name up) (deeds_at (s'.frames (name up))) t q) (ap (λ t. cond t true parent.merged) e) is);
          bare = subst (λ n. IsBare n (value_in u.views)) (sym moved.same_length) (subst (λ x. IsBare (length old_frame_states) (value_in x)) (sym views) (z.0 (product g.left) a.1));
        }
      where
        used_now : (q : ℕ) → IsUsed s'.stolen (name up) (deeds_at (s'.frames (name up))) true q → there_now q ≡ true
        used_now q is = ⊎_elim (λ x. stolen_ended a q (sym (ended.stolen_at code p inputs name b d s w (suc k) v is_shown started_as h b' g.views g.closes s' m (name up ++ q ∷ [])) ∙ x.1)) (λ x. absurd (true≢false x.0)) is

    -- ---- the worker table

    abbrev waiting_with : Bool → List Name
    waiting_with t = cond t (without d.waiting (name up)) d.waiting

    abbrev worker_table_with : Bool → WorkerTable
    worker_table_with t = record d { hands = set d.hands w (cond t (Some (name up)) None); waiting = cond t (without d.waiting (name up)) d.waiting }

    fewer : (t : Bool) (n : Name) → IsIn n (waiting_with t) → IsIn n d.waiting
    fewer true n is = in_less d.waiting (name up) n is
    fewer false n is = is

    rest : (t : Bool) (j : ℕ) → j < length old_frame_states → (up ≡ j → ⊥) → IsIn (name j) d.waiting → IsIn (name j) (waiting_with t)
    rest true j at ne is = in_rest d.waiting (name up) (name j) (λ e. let n = named in ne (n.apart up j low at e)) is
    rest false j at ne is = is

    parent_status : (t : Bool) → Comes t → ((cond t (Held w) parent.status) ≡ Waiting → IsIn (name up) (waiting_with t)) × (IsIn (name up) (waiting_with t) → (cond t (Held w) parent.status) ≡ Waiting)
    parent_status true a = ((λ q. let z : Held w ≡ Waiting = q in let f : ⊥ = cc in absurd f), (λ q. absurd (not_in d.waiting (name up) q)))
    parent_status false a = let y = sh in let o = y.worker_table in o.waiting up g.above g.sits

    not_offered : (at : ℕ) → parent.status ≡ Waiting → parent.status ≡ Offered at → ⊥
    not_offered at q e = let z : Waiting ≡ Offered at = sym q ∙ e in cc

    still_offered : (t : Bool) → Comes t → (at : ℕ) → parent.status ≡ Offered at → (cond t (Held w) parent.status) ≡ Offered at
    still_offered true a at q = let z = passes_then a in absurd (not_offered at z.0 q)
    still_offered false a at q = q

    worker_table_is : IsWorkerTable code p inputs name b' (worker_table_with g.passes)
    worker_table_is =
        ended.worker_table_kept code p inputs name b d s w (suc k) v is_shown started_as h b' g.views g.closes s' m up moved (with_frame g.passes) (cond g.passes (Some (name up)) None) (offers_same g.passes) (hands_same g.passes) g.workers g.offered (waiting_with g.passes) (fewer g.passes)
        (λ at x is status.
        let same : g.above ≡ x = (let q : Some g.above ≡ Some x = sym g.sits ∙ is in cc) in
        ((let a = g.above in record a { cursor = parent_with g.passes }), up_at, still_offered g.passes g.arrives at (ap (λ (a : Activation FrameState). let z = a.cursor in z.status) same ∙ status)))
        (ended.waits_as code p inputs name b d s w (suc k) v is_shown started_as h b' g.views g.closes s' m up moved (waiting_with g.passes) (λ j at ne. (fewer g.passes (name j), rest g.passes j at ne))
        (λ a ne is.
        let same : (let y = g.above in record y { cursor = parent_with g.passes }) ≡ a = (let q : Some (let y = g.above in record y { cursor = parent_with g.passes }) ≡ Some a = sym up_at ∙ is in cc) in
        let e : (let x = a.cursor in x.status) ≡ cond g.passes (Held w) parent.status = ap (λ (y : Activation FrameState). let x = y.cursor in x.status) (sym same) in
        let r = parent_status g.passes g.arrives in
        ((λ q. r.0 (sym e ∙ q)), (λ q. e ∙ r.1 q)))
        (fewer g.passes (name (suc k))))

    held_by : (t : Bool) → Comes t → (at : ℕ) → parent.status ≡ Held at → ((cond t (Held w) parent.status) ≡ Held at) × ((cond t true parent.merged) ≡ parent.merged)
    held_by true a at q = let z = passes_then a in let n : Waiting ≡ Held at = sym z.0 ∙ q in let f : ⊥ = cc in absurd f
    held_by false a at q = (q, refl)

    settled : ended.Settled code p inputs name b d s w (suc k) v is_shown started_as h b' g.views g.closes s' m up moved (worker_table_with g.passes)
    settled = record {
      parent = λ a ne is.
          let same : (let y = g.above in record y { cursor = parent_with g.passes }) ≡ a = (let q : Some (let y = g.above in record y { cursor = parent_with g.passes }) ≡ Some a = sym up_at ∙ is in cc) in
          subst (λ z. Sits code p inputs name b' s' up z) same (parent_sits g.passes refl g.arrives);
      mine = λ j u is has. mine_by g.passes refl g.arrives j u (own_now u is) has;
      held = λ at u ne off y.
          let same : y.frame_state ≡ g.above = (let z : Some y.frame_state ≡ Some g.above = sym y.here ∙ g.sits in cc) in
          let r = held_by g.passes g.arrives at (ap (λ (a : Activation FrameState). let x = a.cursor in x.status) (sym same) ∙ y.held) in
          ((let a = g.above in record a { cursor = parent_with g.passes }), up_at, r.0, r.1 ∙ ap (λ (a : Activation FrameState). let x = a.cursor in x.merged) (sym same));
      worker_table = worker_table_is;
      going = λ none f.
          let y = sh in
          let o = y.tells in
          let c = child_is in
          o.going h.was_open (subst (λ f. HasEnd (deeds_at f)) (ended.frame_else code p inputs name b d s w (suc k) v is_shown started_as h b' g.views g.closes s' m [] (λ e. no_snoc (name up) ordinal (sym e ∙ c.1))) f);
      over = λ o at. let no : None ≡ Some o = sym h.was_open ∙ sym g.outcome ∙ at in let f : ⊥ = cc in absurd f;
    }
      where
        mine_by : (t : Bool) → g.passes ≡ t → Comes t → (j : ℕ) (u : Worker) → u ≡ with_frame g.passes h.worker → u.frame ≡ Some j → Holds code p inputs name b' s' w u j
        mine_by true e a j u is has =
            let x : u ≡ holding up g.left h.worker = is ∙ ap (λ t. with_frame t h.worker) e in
            let at : up ≡ j = (let z : Some up ≡ Some j = sym (ap (λ (y : Worker). y.frame) x) ∙ has in cc) in
            subst (λ i. Holds code p inputs name b' s' w u i) at (holds_parent u (ap (λ (y : Worker). y.views) x) e a)
        mine_by false e a j u is has =
            let x : u ≡ idling g.left h.worker = is ∙ ap (λ t. with_frame t h.worker) e in
            let z : None ≡ Some j = sym (ap (λ (y : Worker). y.frame) x) ∙ has in
            let f : ⊥ = cc in
            absurd f

    settles : (t : Bool) → Comes t → (before : List (Deed FrameEnv)) (gone : List Instance) → Settles s' d w (name (suc k)) before (End v gone) (worker_table_with t)
    settles true a before gone =
        let c = child_is in
        let z = passes_then a in
        let y = goes_where z.0 in
        let x = sh in
        let o = x.worker_table in
        let in_is = o.waiting up g.above g.sits in
        passes_now v gone (name up) ordinal c.1 (ended.stolen_at code p inputs name b d s w (suc k) v is_shown started_as h b' g.views g.closes s' m (name (suc k)) ∙ ap s.stolen c.1 ∙ flag) (in_is.0 z.0) (over_now z.2 y.0)
    settles false a before gone =
        let c = child_is in
        let x = sh in
        let o = x.worker_table in
        let in_is = o.waiting up g.above g.sits in
        leaves v gone (name up) ordinal c.1 (ended.stolen_at code p inputs name b d s w (suc k) v is_shown started_as h b' g.views g.closes s' m (name (suc k)) ∙ ap s.stolen c.1 ∙ flag) (λ both. not_both (in_is.1 both.0) both.1)
      where
        not_both : parent.status ≡ Waiting → BlockIsOver s' (name up) → ⊥
        not_both q over =
            let o = sitting in
            let i = subst (λ z. IsWhere code p inputs name b s up (name up) deeds parent z) q o.is_where in
            let closed : block.closed ≡ true = ap (λ (j : JoinView). j.closed) (block_of parent.join i.1 i.2) ∙ i.3 in
            unfinished (waits_then a closed) over

    chooses : Chooses p inputs s d (Run (suc w)) Did s' (worker_table_with g.passes)
    chooses =
        let f = m.frame in
        does w (name (suc k)) s' (worker_table_with g.passes) (ended.hand_is code p inputs name b d s w (suc k) v is_shown started_as h) m
        (subst (λ a. Settles s' d w (name (suc k)) f.deeds a (worker_table_with g.passes)) (sym (ended.ask_is code p inputs name b d s w (suc k) v is_shown started_as h b' g.views g.closes s' m)) (settles g.passes g.arrives f.deeds _))

  pub arrived : IsEnded code p inputs name b' d s w
  arrived =
      let n = ended.makes code p inputs name b d s w (suc k) v is_shown started_as h in (
        n.after,
        worker_table_with n.after n.makes g.passes,
        chooses n.after n.makes,
        ended.shown_after code p inputs name b d s w (suc k) v is_shown started_as h b' g.views g.closes n.after n.makes up (moved n.after n.makes) (worker_table_with n.after n.makes g.passes) (settled n.after n.makes),
      )

pub arrivals_are_shown : (code : CodeView) (p : Source) (inputs : List ℤ) → ArrivalsAreShown code p inputs
arrivals_are_shown code p inputs name b b' d s w k v is_shown started_as outlive h g = arrived code p inputs name b b' d s w k v is_shown started_as outlive h g
