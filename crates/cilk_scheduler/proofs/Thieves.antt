-- A steal: the scheduler shows the next state.
--
-- - `snoc_name`, `some_join`, `block_of`, `opening_keeps`: names, and what lies at a block;
-- - `other`, `itself`: the states of other frames, and of the stolen one;
-- - `still_holds`, `tells_is`: what workers hold, and what is shown;
-- - `steals_are_shown`: the law.
use Rattle.std.proofs.Common.{◌≡◌, ◌⊎◌, inl, inr, ⊎_elim, ◌+◌, ◌<◌, ◌≤◌, Box, ℕ, zero, suc, nat_eq, eq-eqb, eqb-true, Bool, true, false, true≢false, cond, ℤ, List, [], ◌∷◌, ◌++◌, length, slice_get, Option, Some, None, refl, sym, ap, ap₂, ◌∙◌, subst, arith}
use Rattle.std.proofs.lemmas.Bool.{cases_Bool}
use Rattle.std.proofs.lemmas.List.{map-append}
use Rattle.cilk_types.specs.declared.event.Instance as numbered
use Rattle.cilk_types.specs.declared.invocation.Invocation.TheVariants.{Spawn}
use Rattle.cilk_types.specs.declared.limits.TheConstants.{MAX_CELLS, MAX_FRAMES}
use Rattle.cilk_monoid.specs.Kinds.{structure_of}
use Rattle.cilk_monoid.specs.Laws.{MonoidStructure}
use Rattle.cilk_monoid.specs.declared.kind.MonoidKind.{MonoidKind}
use Rattle.cilk_program.specs.Syntax.{Source}
use Rattle.cilk_lower.specs.Code.{CodeView}
use Rattle.cilk_frames.specs.declared.activation.Activation.{Activation}
use Rattle.cilk_hypermap.specs.Hypermap.{view_in, value_in}
use Rattle.cilk_hypermap.specs.Views.{or_unit}
use Rattle.cilk_hypermap.proofs.Merges.{each_kind}
use Rattle.cilk_join.specs.Joins.{JoinView, opening, stolen_at}
use Rattle.cilk_join.specs.Products.{Product}
use Rattle.cilk_join.specs.Rows.{Wait, wait}
use Rattle.cilk_join.specs.Waits.{shown}
use Rattle.cilk_join.specs.declared.join.Join.{Join}
use Rattle.cilk_determinacy.specs.Cuts.{times, joined_at}
use Rattle.cilk_determinacy.specs.Costs.{TickTotal, EventTotal, FrameTotal, CellTotal}
use Rattle.cilk_determinacy.specs.Machine.{Frame, State, HasEnd, Steals, deeds_at, started}
use Rattle.cilk_determinacy.specs.Monoids.{unit_of}
use Rattle.cilk_determinacy.specs.Progress.{AfterSteal, BlockHasEnded, child_after, HasThief}
use Rattle.cilk_determinacy.specs.Runs.{Name, same_name, Cell, Global, Own, Instance, Output, Reducer, Deed, Invokes}
use Rattle.cilk_determinacy.proofs.Basics.{same_name-refl, same_name-eq, snoc_one}
use Rattle.cilk_determinacy.specs.FrameEnvMachine.{costs, has_ended}
use Rattle.cilk_determinacy.specs.Reducers.{View, kind_of, monoid_of}
use Rattle.cilk_determinacy.specs.Steps.{Next}
use Rattle.cilk_determinacy.specs.FrameEnvViews.{IsViewOf}
use Rattle.cilk_determinacy.specs.FrameEnvs.{FrameEnv}
use Rattle.cilk_determinacy.proofs.FrameEnvViews.{are_multiplied}
use Rattle.cilk_scheduler.specs.declared.scheduler.Scheduler.{Scheduler}
use Rattle.cilk_scheduler.specs.declared.choice.Choice.TheVariants.{Steal}
use Rattle.cilk_scheduler.specs.declared.frame_state.JournalEntry.{JournalEntry}
use Rattle.cilk_scheduler.specs.declared.frame_state.FrameState.{FrameState}
use Rattle.cilk_scheduler.specs.declared.frame_state.Status.{Status}
use Rattle.cilk_scheduler.specs.declared.frame_state.Status.TheVariants.{Held, Calling, Offered, Waiting, Finished}
use Rattle.cilk_scheduler.specs.declared.frame_state.Worker.{Worker}
use Rattle.cilk_scheduler.specs.Blocks.{stolen_in, Lays}
use Rattle.cilk_scheduler.specs.Schedulers.{carried, IsUsed, greatest, IsBare, is_resuming, is_there, stolen_at_block, run_at, waits_at, Keeps, HasBlock, IsWhere, Sits, Holds, IsWorkerTable, Tells, ShowsBy}
use Rattle.cilk_scheduler.specs.WorkerTables.{WorkerTable, BlockIsOver, Stole, Chooses, steals, withdrawn, all_offered, holds}
use Rattle.cilk_scheduler.specs.Events.{block_in}
use Rattle.cilk_scheduler.specs.Numbered.{AreNamed, IsAbsent, size_of, IsCell, IsInstance, AreDeeds, events_of}
use Rattle.cilk_scheduler.specs.Thieves.{IsOffered, TakesOver, StealsAreShown}
use Rattle.cilk_scheduler.proofs.Altered as altering
use Rattle.cilk_scheduler.proofs.Blocks as blocks
use Rattle.cilk_scheduler.proofs.Carried.{resuming_child, carried_ext}
use Rattle.cilk_scheduler.proofs.Carries as carries
use Rattle.cilk_scheduler.proofs.Onward.{name_off, longer}
use Rattle.cilk_scheduler.proofs.Plain.{get_low, lays_same}
use Rattle.cilk_scheduler.proofs.Spawned.{stolen_ext, stolen_spawn, stolen_low, greatest_more}
use Rattle.cilk_scheduler.proofs.Taking as taking
use Rattle.cilk_scheduler.proofs.Taking.{taken_over, marked, stays}

-- ---- names

pub snoc_name : (n m : Name) (q r : ℕ) → n ++ q ∷ [] ≡ m ++ r ∷ [] → (n ≡ m) × (q ≡ r)
snoc_name [] [] q r h = let z : q ∷ [] ≡ r ∷ [] = h in (refl, cc)
snoc_name [] (j ∷ []) q r h = let z : q ∷ [] ≡ j ∷ r ∷ [] = h in absurd (let f : ⊥ = cc in f)
snoc_name [] (j ∷ i ∷ m) q r h = let z : q ∷ [] ≡ j ∷ i ∷ (m ++ r ∷ []) = h in absurd (let f : ⊥ = cc in f)
snoc_name (j ∷ []) [] q r h = let z : j ∷ q ∷ [] ≡ r ∷ [] = h in absurd (let f : ⊥ = cc in f)
snoc_name (j ∷ i ∷ n) [] q r h = let z : j ∷ i ∷ (n ++ q ∷ []) ≡ r ∷ [] = h in absurd (let f : ⊥ = cc in f)
snoc_name (j ∷ n) (i ∷ m) q r h =
    let z : j ∷ (n ++ q ∷ []) ≡ i ∷ (m ++ r ∷ []) = h in
    let a : j ≡ i = cc in
    let g : n ++ q ∷ [] ≡ m ++ r ∷ [] = cc in
    let t = snoc_name n m q r g in
    (ap₂ (λ x y. x ∷ y) a t.0, t.1)

-- ---- blocks

-- a join whose greatest stolen key isn't 0 is there
pub some_join : {Z : Type 0} (o : Option (Box Join Z)) (j : JoinView) → block_in o ≡ j → 0 < j.stolen → (l : Box Join Z) × (o ≡ Some l) × (shown l.value ≡ j)
some_join None j e low = let z : 0 ≡ j.stolen = ap (λ (y : JoinView). y.stolen) e in absurd (omega (arith, z, low))
some_join (Some l) j e low = (l, refl, e)

-- the open block of a join is the one that is shown
pub block_of : {Z : Type 0} (o : Option (Box Join Z)) (l : Box Join Z) → o ≡ Some l → block_in o ≡ shown l.value
block_of o l e = ap (λ z. block_in z) e

pub waits_more : (kind : MonoidKind) (k : numbered.Instance) (ws : List (Wait Product)) (q : ℕ) → waits_at kind k (ws ++ wait q None ∷ []) ≡ waits_at kind k ws ++ wait q None ∷ []
waits_more kind k ws q = map-append (λ (w : Wait Product). wait w.key (run_at kind k w.run)) ws (wait q None ∷ [])

pub at_more : {A : Type 0} (ws : List A) (x a : A) (q : ℕ) → slice_get (ws ++ x ∷ []) q ≡ Some a → (slice_get ws q ≡ Some a) ⊎ (a ≡ x)
at_more [] x a zero h = let e : x ≡ a = (let g : Some x ≡ Some a = h in cc) in inr (sym e)
at_more [] x a (suc q) h = let no : None ≡ Some a = h in let z : ⊥ = cc in absurd z
at_more (w ∷ ws) x a zero h = inl h
at_more (w ∷ ws) x a (suc q) h = at_more ws x a q h

module _ (code : CodeView) (p : Source) (inputs : List ℤ) (name : ℕ → Name) (b : Scheduler) (s : State FrameEnv View) where
  -- nothing lies at a block without stolen children
  pub opening_keeps : (n : Name) (ds : List (Deed FrameEnv)) → stolen_at_block code p inputs name b s n ds ≡ [] → Keeps code p inputs name b s n ds opening
  opening_keeps n ds none = record {
    lays = λ i q is.
        let m = are_multiplied in
        subst (λ ks. Lays (kind_of i) (λ z. s.piece (n ++ z ∷ []) i) (is_there code p inputs name b s n) (unit_of monoid_of i) (unit_of monoid_of i) ks None []) (sym none) (m.unit (kind_of i), refl);
    stolen = ap greatest (sym none);
    arrived = λ c. omega arith;
    bare = λ run at. let no : None ≡ Some run = at in let z : ⊥ = cc in absurd z;
    bare_later = λ q a run at has. let no : None ≡ Some a = at in let z : ⊥ = cc in absurd z;
  }

-- a thief continues with the frame's own piece
taken_up : {V : Type 0} (S : MonoidStructure V) (piece : Name → V) (stolen : Name → Bool) (n : Name) (ds : List (Deed FrameEnv)) (merged : Bool) → merged ≡ false → is_resuming ds ≡ true → stolen (n ++ started ds ∷ []) ≡ true → carried S piece stolen n ds merged ≡ piece n
taken_up S piece stolen n ds merged a b c = rw (a, b, c) refl

if_one : (t u : Bool) → u ≡ true → cond t true u ≡ true
if_one true u h = refl
if_one false u h = h

module _ (code : CodeView) (p : Source) (inputs : List ℤ) (name : ℕ → Name) (b b' : Scheduler) (d : WorkerTable) (s : State FrameEnv View) (w place k : ℕ) (sh : ShowsBy code p inputs name b d s) (h : IsOffered b w place k) (t : TakesOver b b' w place k h) where
  abbrev old_frame_states : List (Activation FrameState)
  old_frame_states = taking.old_frame_states code p inputs name b b' d s w place k sh h t

  abbrev new_frame_states : List (Activation FrameState)
  new_frame_states = taking.new_frame_states code p inputs name b b' d s w place k sh h t

  abbrev old_workers : List Worker
  old_workers = taking.old_workers code p inputs name b b' d s w place k sh h t

  abbrev new_workers : List Worker
  new_workers = taking.new_workers code p inputs name b b' d s w place k sh h t

  abbrev frame_state : FrameState
  frame_state = taking.frame_state code p inputs name b b' d s w place k sh h t

  abbrev frame : Frame FrameEnv
  frame = taking.frame code p inputs name b b' d s w place k sh h t

  abbrev past : List (Deed FrameEnv)
  past = taking.past code p inputs name b b' d s w place k sh h t

  named : AreNamed old_frame_states name
  named = taking.named code p inputs name b b' d s w place k sh h t

  low : k < length old_frame_states
  low = taking.low code p inputs name b b' d s w place k sh h t

  status_was : frame_state.status ≡ Offered h.victim
  status_was = taking.status_was code p inputs name b b' d s w place k sh h t

  abbrev was : IsWhere code p inputs name b s k (name k) past frame_state (Offered h.victim)
  was = taking.was code p inputs name b b' d s w place k sh h t

  abbrev before : List (Deed FrameEnv)
  before = taking.before code p inputs name b b' d s w place k sh h t

  abbrev ordinal : ℕ
  ordinal = taking.ordinal code p inputs name b b' d s w place k sh h t

  abbrev child : Name
  child = taking.child code p inputs name b b' d s w place k sh h t

  starts : started past ≡ ordinal
  starts = taking.starts code p inputs name b b' d s w place k sh h t

  children_are : frame_state.children ≡ ordinal
  children_are = taking.children_are code p inputs name b b' d s w place k sh h t

  last_is : (frame_state.last < length old_frame_states) × (name frame_state.last ≡ child)
  last_is = taking.last_is code p inputs name b b' d s w place k sh h t

  going : has_ended (deeds_at (s.frames (name k))) ≡ false
  going = taking.going code p inputs name b b' d s w place k sh h t

  not_yet : s.stolen child ≡ false
  not_yet = taking.not_yet code p inputs name b b' d s w place k sh h t

  thief_goes : HasThief FrameEnv View monoid_of (Next p inputs) (costs p inputs) s (name k) (child_after (name k) was.0)
  thief_goes = taking.thief_goes code p inputs name b b' d s w place k sh h t

  names_differ : (i j : ℕ) → i < length old_frame_states → j < length old_frame_states → (i ≡ j → ⊥) → name i ≡ name j → ⊥
  names_differ = taking.names_differ code p inputs name b b' d s w place k sh h t

  abbrev taken : FrameState
  taken = taking.taken code p inputs name b b' d s w place k sh h t

  abbrev now : Activation FrameState
  now = taking.now code p inputs name b b' d s w place k sh h t

  now_at : slice_get new_frame_states k ≡ Some now
  now_at = taking.now_at code p inputs name b b' d s w place k sh h t

  same_length : length new_frame_states ≡ length old_frame_states
  same_length = taking.same_length code p inputs name b b' d s w place k sh h t

  on : carries.Carries old_frame_states new_frame_states
  on = taking.on code p inputs name b b' d s w place k sh h t

  abbrev Had : ℕ → Worker → Worker → Type 0
  Had = taking.Had code p inputs name b b' d s w place k sh h t

  abbrev Which : ℕ → Activation FrameState → Type 0
  Which = taking.Which code p inputs name b b' d s w place k sh h t

  which : (j : ℕ) (a : Activation FrameState) → slice_get new_frame_states j ≡ Some a → Which j a
  which = taking.which code p inputs name b b' d s w place k sh h t

  worker_on : (v : ℕ) (u : Worker) → slice_get old_workers v ≡ Some u → (u' : Worker) × (slice_get new_workers v ≡ Some u') × Had v u u'
  worker_on = taking.worker_on code p inputs name b b' d s w place k sh h t

  worker_was : (v : ℕ) (u' : Worker) → slice_get new_workers v ≡ Some u' → (u : Worker) × (slice_get old_workers v ≡ Some u) × Had v u u'
  worker_was = taking.worker_was code p inputs name b b' d s w place k sh h t

  not_thief : (v j : ℕ) (u : Worker) → slice_get old_workers v ≡ Some u → u.frame ≡ Some j → w ≡ v → ⊥
  not_thief = taking.not_thief code p inputs name b b' d s w place k sh h t

  frame_state_later : (j : ℕ) (a : Activation FrameState) → (k ≡ j → ⊥) → slice_get old_frame_states j ≡ Some a
      → (z : Activation FrameState) × (slice_get new_frame_states j ≡ Some z) × ((let y = z.cursor in y.status) ≡ (let x = a.cursor in x.status)) × ((let y = z.cursor in y.merged) ≡ (let x = a.cursor in x.merged))
  frame_state_later = taking.frame_state_later code p inputs name b b' d s w place k sh h t

  abbrev worker_table_now : WorkerTable
  worker_table_now = taking.worker_table_now code p inputs name b b' d s w place k sh h t

  worker_table_is : IsWorkerTable code p inputs name b' worker_table_now
  worker_table_is = taking.worker_table_is code p inputs name b b' d s w place k sh h t

  named_now : AreNamed new_frame_states name
  named_now = taking.named_now code p inputs name b b' d s w place k sh h t

  hand_is : slice_get d.hands w ≡ Some None
  hand_is = taking.hand_is code p inputs name b b' d s w place k sh h t

  offered_is : slice_get (all_offered d.offered) place ≡ Some (name k)
  offered_is = taking.offered_is code p inputs name b b' d s w place k sh h t

  module _ (s' : State FrameEnv View) (st : Steals FrameEnv View monoid_of (Next p inputs) (costs p inputs) s (name k) s') where
    before_is : st.before ≡ was.0
    before_is =
        let o = sh.sits k h.frame_state h.sits in
        let same : st.frame ≡ frame = (let q : Some st.frame ≡ Some frame = sym st.here ∙ o.here in cc) in
        let r = snoc_one st.before was.0 (Invokes Spawn st.what) (Invokes Spawn was.1) (sym st.spawned ∙ ap (λ (f : Frame FrameEnv). f.deeds) same ∙ was.2) in
        r.0

    flag_at : (m : Name) → s'.stolen m ≡ cond (same_name child m) true (s.stolen m)
    flag_at m = ap (λ l. l m) st.stolen ∙ ap (λ (z : List (Deed FrameEnv)). cond (same_name (name k ++ suc (started z) ∷ []) m) true (s.stolen m)) before_is

    stolen_child : s'.stolen child ≡ true
    stolen_child = flag_at child ∙ rw (same_name-refl child) refl

    stolen_off : (m : Name) → (child ≡ m → ⊥) → s'.stolen m ≡ s.stolen m
    stolen_off m ne = flag_at m ∙ rw (name_off child m ne) refl

    stolen_on : (m : Name) → s.stolen m ≡ true → s'.stolen m ≡ true
    stolen_on m is = flag_at m ∙ if_one (same_name child m) (s.stolen m) is

    frame_same : (m : Name) → s'.frames m ≡ s.frames m
    frame_same m = ap (λ l. l m) st.frames

    ends_same : (m : Name) → has_ended (deeds_at (s'.frames m)) ≡ has_ended (deeds_at (s.frames m))
    ends_same m = ap (λ f. has_ended (deeds_at f)) (frame_same m)

    sizes : (m : Name) → size_of p (s'.frames m) ≡ size_of p (s.frames m)
    sizes m = ap (λ f. size_of p f) (frame_same m)

    piece_here : (i : Instance) → s'.piece (name k) i ≡ unit_of monoid_of i
    piece_here i = st.piece i (name k) ∙ rw (same_name-refl (name k)) refl

    piece_off : (i : Instance) (m : Name) → (name k ≡ m → ⊥) → s'.piece m i ≡ s.piece m i
    piece_off i m ne = st.piece i m ∙ rw (name_off (name k) m ne) refl

    kid_same : (i : Instance) (m : Name) → has_ended (deeds_at (s.frames m)) ≡ true → s'.piece m i ≡ s.piece m i
    kid_same i m there = piece_off i m (λ q. true≢false (sym there ∙ ap (λ z. has_ended (deeds_at (s.frames z))) (sym q) ∙ going))

    -- another frame's children
    flags_else : (n : Name) → (name k ≡ n → ⊥) → (q : ℕ) → s'.stolen (n ++ q ∷ []) ≡ s.stolen (n ++ q ∷ [])
    flags_else n ne q = stolen_off (n ++ q ∷ []) (λ e. let r = snoc_name (name k) n ordinal q e in ne r.0)

    -- ---- numbers

    more : (m : Name) (q : ℕ) → q < size_of p (s.frames m) → q < size_of p (s'.frames m)
    more m q lt = subst (λ n. q < n) (sym (sizes m)) lt

    instance_back : (i : Instance) (j : numbered.Instance) → IsInstance p new_frame_states name i j → IsInstance p old_frame_states name i j
    instance_back Output j g = g
    instance_back (Reducer m q kind) j g = (g.0, subst (λ z. g.0 < z) same_length g.1, g.2, g.3, g.4)

    cell_back : (c : Cell) (n : ℕ) → IsCell p new_frame_states name s' c n → IsCell p old_frame_states name s c n
    cell_back (Global g) n it = it
    cell_back (Own m q) n it =
        let r = carries.carried_back old_frame_states new_frame_states on same_length it.0 it.1 it.2 in
        (it.0, r.0, r.1, it.3, it.4 ∙ ap (λ (a : Activation FrameState). a.base + q) r.2, subst (λ z. q < z) (sizes m) it.5)

    absent_back : (n : Name) → IsAbsent new_frame_states name n → IsAbsent old_frame_states name n
    absent_back n none = λ j at. none j (subst (λ z. j < z) (sym same_length) at)

    absent_on : (n : Name) → IsAbsent old_frame_states name n → IsAbsent new_frame_states name n
    absent_on n none = λ j at. none j (subst (λ z. j < z) same_length at)

    -- ---- blocks

    abbrev M : Instance → MonoidStructure View
    M = monoid_of

    block_else : (n : Name) (ds : List (Deed FrameEnv)) (x : FrameState) → (name k ≡ n → ⊥) → HasBlock code p inputs name b s n ds x → HasBlock code p inputs name b' s' n ds x
    block_else n ds x ne (inl g) = inl (g.0, stolen_ext (λ q. s.stolen (n ++ q ∷ [])) (λ q. s'.stolen (n ++ q ∷ [])) (flags_else n ne) 1 [] ds ∙ g.1, g.2)
    block_else n ds x ne (inr g) =
        let l = g.0 in
        let j = shown l.value in
        inr (
          g.0,
          g.1,
          ⊎_elim (λ m. inl m) (λ z. inr (
            carries.keeps_on code p inputs name b b' s s' same_length instance_back n ds ds j (stolen_ext (λ q. s.stolen (n ++ q ∷ [])) (λ q. s'.stolen (n ++ q ∷ [])) (flags_else n ne) 1 [] ds) (λ q. ends_same (n ++ q ∷ []))
                (λ i q there. kid_same i (n ++ q ∷ []) there) (λ i. ap (λ v. cond j.closed v (unit_of monoid_of i)) (piece_off i n ne)) z.0,
            z.1,
          )) g.2,
        )

    -- ---- where frames are

    over_on : (n : Name) → BlockIsOver s n → BlockIsOver s' n
    over_on n g = subst (λ f. BlockHasEnded FrameEnv View s' n (deeds_at f)) (sym (frame_same n)) (carries.block_on s s' (λ m e. ends_same m ∙ e) n (deeds_at (s.frames n)) g)

    over_back : (n : Name) → BlockIsOver s' n → BlockIsOver s n
    over_back n g = carries.block_on s' s (λ m e. sym (ends_same m) ∙ e) n (deeds_at (s.frames n)) (subst (λ f. BlockHasEnded FrameEnv View s' n (deeds_at f)) (frame_same n) g)

    where_else : (j : ℕ) (n : Name) (ds : List (Deed FrameEnv)) (x : FrameState) (z : Status) → (k ≡ j → ⊥) → (name k ≡ n → ⊥) → IsWhere code p inputs name b s j n ds x z → IsWhere code p inputs name b' s' j n ds x z
    where_else j n ds x (Held v) off ne g =
        let r = worker_on v g.0 g.1 in
        let o = r.2 in
        (r.0, r.1, o.frame_is (not_thief v j g.0 g.1 g.2) ∙ g.2, carries.goes_on s s' (λ m e. ends_same m ∙ e) n (λ q is. stolen_on (n ++ q ∷ []) is) ds g.3, g.4, (λ m. let y = g.5 m in (y.0, over_on n y.1)), g.6)
    where_else j n ds x Calling off ne g = (g.0, g.1, g.2, ends_same (n ++ started ds ∷ []) ∙ g.3, g.4, g.5, g.6)
    where_else j n ds x (Offered v) off ne g =
        let r = worker_on v g.6 g.7 in
        let o = r.2 in
        let still : (place' : ℕ) × (let l = (let y = r.0 in y.offered) in slice_get l.items place' ≡ Some j) =
        ⊎_elim (λ y. (g.8, ap (λ l. slice_get l g.8) y.1 ∙ g.9))
        (λ y. let u = g.6 in let q = altering.remove_back (let l = u.offered in l.items) h.at g.8 j g.9 (λ e. off (let z : Some k ≡ Some j = sym h.stands ∙ ap (λ (a : Worker). let l = a.offered in slice_get l.items h.at) (sym y.1) ∙ ap (λ i. let l = u.offered in slice_get l.items i) e ∙ g.9 in cc)) in (q.0, ap (λ l. slice_get l q.0) y.2 ∙ q.1)) o.offers_are in
        (g.0, g.1, g.2, ends_same (n ++ started ds ∷ []) ∙ g.3, flags_else n ne (started ds) ∙ g.4, g.5, r.0, r.1, still.0, still.1, g.10, g.11)
    where_else j n ds x Waiting off ne g =
        (g.0, g.1, g.2, g.3, (λ y. g.4 (over_back n y)), carries.goes_on s s' (λ m e. ends_same m ∙ e) n (λ q is. stolen_on (n ++ q ∷ []) is) ds g.5, g.6, g.7)
    where_else j n ds x Finished off ne g = g

    abbrev written_now : (j : ℕ) → (let e = b'.journal in events_of j e.items) ≡ (let e = b.journal in events_of j e.items)
    written_now j = ap (λ l. events_of j l) t.journal

    -- ---- frame states

    other : (j : ℕ) (a : Activation FrameState) (flag : Bool) → (k ≡ j → ⊥) → slice_get old_frame_states j ≡ Some a → s'.stolen (name j) ≡ flag → Sits code p inputs name b s j a
        → Sits code p inputs name b' s' j (let x = a.cursor in record a { cursor = record x { stolen = flag } })
    other j a flag off at mark o =
        let x = a.cursor in
        let f = o.frame in
        let e = b.journal in
        let apart = names_differ k j low (get_low old_frame_states j a at) off in record {
          frame = o.frame;
          here = frame_same (name j) ∙ o.here;
          named = o.named;
          number = o.number;
          seen = carries.seen_on code p inputs name b b' s s' on more a (record x { stolen = flag }) f.what o.seen;
          creates = o.creates;
          creates_none = o.creates_none;
          stolen = mark;
          children = o.children;
          last = λ some. let r = o.last some in (subst (λ z. x.last < z) (sym same_length) r.0, r.1);
          strands_are = o.strands_are;
          counted = o.counted;
          due = o.due;
          is_where = where_else j (name j) f.deeds x x.status off apart o.is_where;
          block = λ going. block_else (name j) f.deeds x apart (o.block going);
          written = subst (λ es. AreDeeds p new_frame_states name s' j f.deeds es) (sym (written_now j)) (carries.deeds_on old_frame_states new_frame_states on name p s s' more j f.deeds (events_of j e.items) o.written);
        }

    -- ---- the frame that is taken over

    abbrev was_stolen : ℕ → Bool
    was_stolen q = s.stolen (name k ++ q ∷ [])

    abbrev is_stolen : ℕ → Bool
    is_stolen q = s'.stolen (name k ++ q ∷ [])

    abbrev earlier : List ℕ
    earlier = stolen_in (λ q. s.stolen (name k ++ q ∷ [])) 1 [] was.0

    old_list : stolen_at_block code p inputs name b s (name k) past ≡ earlier
    old_list =
        ap (λ ds. stolen_in was_stolen 1 [] ds) was.2 ∙ stolen_spawn was_stolen was_stolen ordinal (λ q lt. refl) 1 [] was.0 was.1 (omega arith)
        ∙ ap (λ t. cond t (earlier ++ ordinal ∷ []) earlier) not_yet

    new_list : stolen_at_block code p inputs name b' s' (name k) past ≡ earlier ++ ordinal ∷ []
    new_list =
        ap (λ ds. stolen_in is_stolen 1 [] ds) was.2
        ∙ stolen_spawn was_stolen is_stolen ordinal (λ q lt. stolen_off (name k ++ q ∷ []) (λ e. let r = snoc_name (name k) (name k) ordinal q e in let z : ordinal ≡ q = r.1 in absurd (omega (arith, z, lt)))) 1 [] was.0 was.1 (omega arith)
        ∙ ap (λ t. cond t (earlier ++ ordinal ∷ []) earlier) stolen_child

    abbrev block : JoinView
    block = let a = h.frame_state in let x = a.cursor in block_in x.join

    kept_before : Keeps code p inputs name b s (name k) past block × (block.closed ≡ false)
    kept_before =
        let o = sh.sits k h.frame_state h.sits in
        ⊎_elim (λ g. let e : block ≡ opening = ap (λ z. block_in z) g.0 in (subst (λ j. Keeps code p inputs name b s (name k) past j) (sym e) (opening_keeps code p inputs name b s (name k) past g.1), ap (λ (j : JoinView). j.closed) e))
        (λ g. let l = g.0 in let e : block ≡ shown l.value = block_of frame_state.join g.0 g.1 in
        ⊎_elim (λ m. absurd (true≢false (sym m ∙ was.5)))
        (λ z. (subst (λ j. Keeps code p inputs name b s (name k) past j) (sym e) z.0, ap (λ (j : JoinView). j.closed) e ∙ open_one (shown l.value) z.1)) g.2)
        (o.block was.10)
      where
        open_one : (j : JoinView) → (j.closed ≡ true → frame_state.status ≡ Waiting) → j.closed ≡ false
        open_one j g = ⊎_elim (λ q. let z : Offered h.victim ≡ Waiting = sym status_was ∙ g q in let f : ⊥ = cc in absurd f) (λ f. f) (cases_Bool j.closed)

    less : block.stolen < ordinal
    less =
        let kb = kept_before in
        let K = kb.0 in
        let e = K.stolen ∙ ap greatest old_list in
        let l = stolen_low was_stolen 1 [] was.0 ordinal (omega arith) (omega arith) in
        omega (arith, e, l)

    not_arrived : nat_eq block.arrived frame_state.children ≡ false
    not_arrived =
        ⊎_elim (λ q. let kb = kept_before in let K = kb.0 in let z : block.arrived ≡ frame_state.children = eqb-true block.arrived frame_state.children q in let y = K.arrived kb.1 in let u = less in let v = children_are in absurd (omega (arith, z, y, u, v))) (λ f. f)
        (cases_Bool (nat_eq block.arrived frame_state.children))

    waits_now : (let j = stolen_at block frame_state.children in let r = j.row in r.waits) ≡ (let r = block.row in r.waits ++ wait ordinal None ∷ [])
    waits_now =
        let r = block.row in
        ap (λ t. r.waits ++ cond t [] (wait frame_state.children None ∷ [])) not_arrived ∙ ap (λ q. r.waits ++ wait q None ∷ []) children_are

    kept_after : Keeps code p inputs name b' s' (name k) past (stolen_at block frame_state.children)
    kept_after =
        let kb = kept_before in
        let K = kb.0 in
        let r = block.row in record {
          lays = λ i q is.
              let kind = kind_of i in
              let open_own : cond block.closed (s.piece (name k) i) (unit_of monoid_of i) ≡ unit_of monoid_of i = ap (λ c. cond c (s.piece (name k) i) (unit_of monoid_of i)) kb.1 in
              let open_now : cond block.closed (s'.piece (name k) i) (unit_of monoid_of i) ≡ unit_of monoid_of i = ap (λ c. cond c (s'.piece (name k) i) (unit_of monoid_of i)) kb.1 in
              let one = subst (λ v. Lays kind (λ z. s.piece (name k ++ z ∷ []) i) (is_there code p inputs name b s (name k)) v (unit_of monoid_of i) (stolen_at_block code p inputs name b s (name k) past) (run_at kind q r.run) (waits_at kind q r.waits)) open_own (K.lays i q (instance_back i q is)) in
              let two = subst (λ l. Lays kind (λ z. s.piece (name k ++ z ∷ []) i) (is_there code p inputs name b s (name k)) (unit_of monoid_of i) (unit_of monoid_of i) l (run_at kind q r.run) (waits_at kind q r.waits)) old_list one in
              let three = blocks.steals kind (λ z. s.piece (name k ++ z ∷ []) i) (is_there code p inputs name b s (name k)) (unit_of monoid_of i) earlier (run_at kind q r.run) (waits_at kind q r.waits) ordinal (ap (λ z. is_there code p inputs name b s (name k) z) (sym starts) ∙ was.3) two in
              let four = lays_same kind (λ z. s.piece (name k ++ z ∷ []) i) (λ z. s'.piece (name k ++ z ∷ []) i) (is_there code p inputs name b s (name k)) (is_there code p inputs name b' s' (name k)) (unit_of monoid_of i) (cond block.closed (s'.piece (name k) i) (unit_of monoid_of i))
              (λ z. ends_same (name k ++ z ∷ [])) (λ z there. kid_same i (name k ++ z ∷ []) there) open_now (unit_of monoid_of i) (earlier ++ ordinal ∷ []) (run_at kind q r.run) (waits_at kind q r.waits ++ wait ordinal None ∷ []) three in
              let five = subst (λ l. Lays kind (λ z. s'.piece (name k ++ z ∷ []) i) (is_there code p inputs name b' s' (name k)) (cond block.closed (s'.piece (name k) i) (unit_of monoid_of i)) (unit_of monoid_of i) l (run_at kind q r.run) (waits_at kind q r.waits ++ wait ordinal None ∷ [])) (sym new_list) four in
              subst (λ ws. Lays kind (λ z. s'.piece (name k ++ z ∷ []) i) (is_there code p inputs name b' s' (name k)) (cond block.closed (s'.piece (name k) i) (unit_of monoid_of i)) (unit_of monoid_of i) (stolen_at_block code p inputs name b' s' (name k) past) (run_at kind q r.run) ws)
              (sym (ap (λ ws. waits_at kind q ws) waits_now ∙ waits_more kind q r.waits ordinal)) five;
          stolen = children_are ∙ sym (ap greatest new_list ∙ greatest_more earlier ordinal);
          arrived = λ c. let y = K.arrived kb.1 in let u = less in let v = children_are in omega (arith, y, u, v);
          bare = λ run at. subst (λ z. IsBare z run) (sym same_length) (K.bare run at);
          bare_later = λ q a run at has.
              subst (λ z. IsBare z run) (sym same_length)
              (⊎_elim (λ old. K.bare_later q a run old has) (λ e. let no : None ≡ Some run = ap (λ (x : Wait Product). x.run) (sym e) ∙ has in let z : ⊥ = cc in absurd z)
              (at_more r.waits (wait ordinal None) a q (ap (λ ws. slice_get ws q) (sym waits_now) ∙ at)));
        }

    block_here : HasBlock code p inputs name b' s' (name k) past taken
    block_here =
        let kb = kept_before in
        let g = t.awaits in
        let j = some_join (let y = t.awaiting in y.join) (stolen_at block frame_state.children) g.0 (let e = children_are in omega (arith, e)) in
        inr (
          j.0,
          j.1,
          inr (
            subst (λ z. Keeps code p inputs name b' s' (name k) past z) (sym j.2) kept_after,
            (λ c. absurd (true≢false (sym c ∙ ap (λ (z : JoinView). z.closed) j.2 ∙ kb.1))),
          ),
        )

    where_here : IsWhere code p inputs name b' s' k (name k) past taken (Held w)
    where_here =
        let r = worker_on w h.thief h.idles in
        let o = r.2 in
        let m = o.mine refl in
        (r.0, r.1, m.0, AfterSteal was.0 was.1 was.2 stolen_child, was.10, (λ q. absurd (true≢false (sym q ∙ was.5))), (λ q. was.11))

    itself : Sits code p inputs name b' s' k now
    itself =
        let o = sh.sits k h.frame_state h.sits in
        let f = o.frame in
        let e = b.journal in record {
          frame = o.frame;
          here = frame_same (name k) ∙ o.here;
          named = o.named;
          number = o.number;
          seen = carries.seen_on code p inputs name b b' s s' on more h.frame_state taken f.what o.seen;
          creates = o.creates;
          creates_none = o.creates_none;
          stolen = stolen_off (name k) (λ z. longer (name k) ordinal z) ∙ o.stolen;
          children = o.children;
          last = λ some. let r = o.last some in (subst (λ z. frame_state.last < z) (sym same_length) r.0, r.1);
          strands_are = o.strands_are;
          counted = o.counted;
          due = o.due;
          is_where = where_here;
          block = λ q. block_here;
          written = subst (λ es. AreDeeds p new_frame_states name s' k f.deeds es) (sym (written_now k)) (carries.deeds_on old_frame_states new_frame_states on name p s s' more k f.deeds (events_of k e.items) o.written);
        }

    frame_states_sit : (j : ℕ) (a : Activation FrameState) → slice_get new_frame_states j ≡ Some a → Sits code p inputs name b' s' j a
    frame_states_sit j a at = by (which j a at)
      where
        by : Which j a → Sits code p inputs name b' s' j a
        by (taken_over same is) = subst (λ i. Sits code p inputs name b' s' i a) same (subst (λ z. Sits code p inputs name b' s' k z) is itself)
        by (marked x ne at' same is) =
            subst (λ z. Sits code p inputs name b' s' j z) (sym is) (other j x true ne at' (ap (λ i. s'.stolen (name i)) (sym same) ∙ ap (λ m. s'.stolen m) last_is.1 ∙ stolen_child) (sh.sits j x at'))
        by (stays ne at' ne') =
            let o = sh.sits j a at' in
            let x = a.cursor in
            other j a x.stolen ne at' (stolen_off (name j) (λ e. ne' (named.apart frame_state.last j last_is.0 (get_low old_frame_states j a at') (last_is.1 ∙ e))) ∙ o.stolen) o

    -- ---- workers

    own_piece : (i : Instance) → carried (monoid_of i) (λ m. s'.piece m i) s'.stolen (name k) (deeds_at (s'.frames (name k))) frame_state.merged ≡ unit_of monoid_of i
    own_piece i =
        let o = sh.sits k h.frame_state h.sits in
        ap (λ f. carried (monoid_of i) (λ m. s'.piece m i) s'.stolen (name k) (deeds_at f) frame_state.merged) (frame_same (name k) ∙ o.here)
        ∙ taken_up (monoid_of i) (λ m. s'.piece m i) s'.stolen (name k) past frame_state.merged was.5 (ap (λ ds. is_resuming ds) was.2 ∙ resuming_child was.0 Spawn was.1) (ap (λ q. s'.stolen (name k ++ q ∷ [])) starts ∙ stolen_child)
        ∙ piece_here i

    holds_here : (u : Worker) → u.views ≡ t.views → Holds code p inputs name b' s' w u k
    holds_here u views = record {
      frame_state = now;
      here = now_at;
      held = refl;
      views = λ i j is. subst (λ v. IsViewOf (kind_of i) v (value_in u.views (kind_of i) j)) (sym (own_piece i)) (subst (λ z. IsViewOf (kind_of i) (unit_of monoid_of i) z) (sym (value_is (kind_of i) j)) (let m = are_multiplied in m.unit (kind_of i)));
      used = λ q g. unused q g;
      bare = λ kind j lt. value_is kind j;
    }
      where
        value_is : (kind : MonoidKind) (j : numbered.Instance) → value_in u.views kind j ≡ (structure_of kind).unit
        value_is kind j = ap (λ z. value_in z kind j) views ∙ ap (or_unit (structure_of kind)) (each_kind (λ q. (i : numbered.Instance) → view_in t.views q i ≡ None) t.empty kind j)

        deeds_now : deeds_at (s'.frames (name k)) ≡ past
        deeds_now = let o = sh.sits k h.frame_state h.sits in ap (λ f. deeds_at f) (frame_same (name k) ∙ o.here)

        unused : (q : ℕ) → IsUsed s'.stolen (name k) (deeds_at (s'.frames (name k))) frame_state.merged q → is_there code p inputs name b' s' (name k) q ≡ true
        unused q g = ⊎_elim (λ a. absurd (true≢false (sym a.0 ∙ was.5)))
            (λ a. let e : q ≡ ordinal = a.2 ∙ ap (λ ds. started ds) deeds_now ∙ starts in absurd (true≢false (sym stolen_child ∙ ap (λ z. s'.stolen (name k ++ z ∷ [])) (sym e) ∙ a.3))) g

    holds_else : (v j : ℕ) (u u' : Worker) → (k ≡ j → ⊥) → u'.views ≡ u.views → Holds code p inputs name b s v u j → Holds code p inputs name b' s' v u' j
    holds_else v j u u' ne views g =
        let x = (let a = g.frame_state in a.cursor) in
        let apart = names_differ k j low (get_low old_frame_states j g.frame_state g.here) ne in
        let z = frame_state_later j g.frame_state ne g.here in
        let y = (let a = z.0 in a.cursor) in record {
          frame_state = z.0;
          here = z.1;
          held = z.2 ∙ g.held;
          views = λ i q is.
              let same : carried (monoid_of i) (λ m. s'.piece m i) s'.stolen (name j) (deeds_at (s'.frames (name j))) y.merged ≡ carried (monoid_of i) (λ m. s.piece m i) s.stolen (name j) (deeds_at (s.frames (name j))) x.merged =
              ap₂ (λ f m. carried (monoid_of i) (λ m. s'.piece m i) s'.stolen (name j) (deeds_at f) m) (frame_same (name j)) z.3
              ∙ carried_ext (monoid_of i) (λ m. s.piece m i) (λ m. s'.piece m i) s.stolen s'.stolen (name j) (deeds_at (s.frames (name j))) x.merged (piece_off i (name j) apart) (flags_else (name j) apart)
              (λ q is. kid_same i (name j ++ q ∷ []) (g.used q is)) in
              subst (λ z. IsViewOf (kind_of i) (carried (monoid_of i) (λ m. s'.piece m i) s'.stolen (name j) (deeds_at (s'.frames (name j))) y.merged) (value_in z (kind_of i) q)) (sym views)
              (subst (λ z. IsViewOf (kind_of i) z (value_in u.views (kind_of i) q)) (sym same) (g.views i q (instance_back i q is)));
          used = λ q is. ends_same (name j ++ q ∷ []) ∙ g.used q (used_by x.merged y.merged z.3 apart q is);
          bare = subst (λ n. IsBare n (value_in u'.views)) (sym same_length) (subst (λ z. IsBare (length old_frame_states) (value_in z)) (sym views) g.bare);
        }
      where
        used_by : (m m' : Bool) → m' ≡ m → (name k ≡ name j → ⊥) → (q : ℕ) → IsUsed s'.stolen (name j) (deeds_at (s'.frames (name j))) m' q → IsUsed s.stolen (name j) (deeds_at (s.frames (name j))) m q
        used_by m m' e apart q is =
            let flag = flags_else (name j) apart q in
            ⊎_elim (λ a. inl (sym e ∙ a.0, sym flag ∙ a.1))
            (λ a. inr (sym e ∙ a.0, ap (λ f. is_resuming (deeds_at f)) (sym (frame_same (name j))) ∙ a.1, a.2 ∙ ap (λ f. started (deeds_at f)) (frame_same (name j)), sym flag ∙ a.3)) is

    still_holds : (v j : ℕ) (u : Worker) → slice_get new_workers v ≡ Some u → u.frame ≡ Some j → Holds code p inputs name b' s' v u j
    still_holds v j u at has = by (nat_eq w v) refl
      where
        by : (c : Bool) → nat_eq w v ≡ c → Holds code p inputs name b' s' v u j
        by true q =
            let same : w ≡ v = eqb-true w v q in
            let r = worker_was v u at in
            let o = r.2 in
            let m = o.mine same in
            let is : k ≡ j = (let z : Some k ≡ Some j = sym m.0 ∙ has in cc) in
            subst (λ i. Holds code p inputs name b' s' v u i) is (subst (λ i. Holds code p inputs name b' s' i u k) same (holds_here u m.1))
        by false q =
            let ne : w ≡ v → ⊥ = (λ z. true≢false (sym (eq-eqb w v z) ∙ q)) in
            let r = worker_was v u at in
            let o = r.2 in
            let g = sh.holds v j r.0 r.1 (sym (o.frame_is ne) ∙ has) in
            let off : k ≡ j → ⊥ = (λ e. let y : Some h.frame_state ≡ Some g.frame_state = sym h.sits ∙ ap (λ i. slice_get old_frame_states i) e ∙ g.here in let x : h.frame_state ≡ g.frame_state = cc in
            let z : Offered h.victim ≡ Held v = sym status_was ∙ ap (λ (a : Activation FrameState). let c = a.cursor in c.status) x ∙ g.held in let f : ⊥ = cc in f) in
            holds_else v j r.0 u off (o.views_are ne) g

    -- ---- what is shown

    base_was : (j : ℕ) (a : Activation FrameState) → slice_get new_frame_states j ≡ Some a → (z : Activation FrameState) × (slice_get old_frame_states j ≡ Some z) × (a.base ≡ z.base)
    base_was j a at = let r = carries.carried_back old_frame_states new_frame_states on same_length j a at in (r.0, r.1, ap (λ (z : Activation FrameState). z.base) r.2)

    tells_is : Tells code p inputs name b' s'
    tells_is =
        let o = sh.tells in record {
          named = named_now;
          here = λ j a at. let z = frame_states_sit j a at in (z.frame, z.here, z.written);
          absent = λ n none. frame_same n ∙ o.absent n (absent_back n none);
          joins = λ n q. ap (λ l. times (n ++ q ∷ []) l) st.joins ∙ o.joins n q ∙ ap (λ f. joined_at 1 q (deeds_at f)) (sym (frame_same n));
          going = λ z g. o.going h.was_open (subst (λ f. HasEnd (deeds_at f)) (frame_same []) g);
          over = λ z at. let no : None ≡ Some z = sym h.was_open ∙ sym t.outcome ∙ at in let f : ⊥ = cc in absurd f;
          first = λ a at. let r = base_was 0 a at in subst (λ z. length p.openings ≤ z) (sym r.2) (o.first r.0 r.1);
          ascend = λ i j x y at at' less.
              let f = base_was i x at in
              let g = base_was j y at' in
              let old = o.ascend i j f.0 g.0 f.1 g.1 less in
              let e = sizes (name i) in
              let u = f.2 in
              let v = g.2 in
              omega (arith, old, e, u, v);
        }

    -- ---- the whole

    shown_after : ShowsBy code p inputs name b' worker_table_now s'
    shown_after = record {
      tells = tells_is;
      running = st.stopped ∙ sh.running;
      sits = frame_states_sit;
      unstolen = λ n none. stolen_off n (λ e. absent_back n none frame_state.last last_is.0 (last_is.1 ∙ e)) ∙ sh.unstolen n (absent_back n none);
      unwritten = λ n q none. ap (λ m. m (Own n q)) st.memory ∙ sh.unwritten n q (absent_back n none);
      bare = λ n m q kind none there. bare_by n m q kind (absent_back n none) (λ g. there (absent_on m g)) (same_name (name k) m) refl;
      memory = λ c n is. ap (λ l. slice_get l n) t.cells ∙ sh.memory c n (cell_back c n is) ∙ ap (λ m. Some (m c)) (sym st.memory);
      within = λ j x at.
          let f = base_was j x at in
          let old = sh.within j f.0 f.1 in
          let e = sizes (name j) in
          let u = f.2 in
          let v = ap (λ (l : List ℤ). length l) t.cells in
          omega (arith, old, e, u, v);
      holds = still_holds;
      worker_table = worker_table_is;
      ticks = ap (λ z. z TickTotal) st.totals ∙ sh.ticks ∙ sym t.ticks;
      events = ap (λ z. z EventTotal) st.totals ∙ sh.events ∙ sym (ap (λ (l : List JournalEntry). length l) t.journal);
      frames = ap (λ z. z FrameTotal) st.totals ∙ sh.frames ∙ sym same_length;
      cells = ap (λ z. z CellTotal) st.totals ∙ sh.cells ∙ sym (ap (λ (l : List ℤ). length l) t.cells);
      few_frames = subst (λ n. n ≤ MAX_FRAMES) (ap (λ z. z FrameTotal) (sym st.totals)) sh.few_frames;
      few_cells = subst (λ n. n ≤ MAX_CELLS) (ap (λ z. z CellTotal) (sym st.totals)) sh.few_cells;
      eventless = λ j far. let e = same_length in written_now j ∙ sh.eventless j (omega (arith, e, far));
    }
      where
        bare_by : (n m : Name) (q : ℕ) (kind : MonoidKind) → IsAbsent old_frame_states name n → (IsAbsent old_frame_states name m → ⊥) → (c : Bool) → same_name (name k) m ≡ c → s'.piece m (Reducer n q kind) ≡ unit_of monoid_of (Reducer n q kind)
        bare_by n m q kind none there true is = ap (λ z. s'.piece z (Reducer n q kind)) (sym (same_name-eq (name k) m is)) ∙ piece_here (Reducer n q kind)
        bare_by n m q kind none there false is = piece_off (Reducer n q kind) m (λ e. true≢false (sym (same_name-refl (name k)) ∙ ap (λ z. same_name (name k) z) e ∙ is)) ∙ sh.bare n m q kind none there

  pub taken_is : (s' : State FrameEnv View) × (d' : WorkerTable) × Chooses p inputs s d (Steal (suc w) place) Stole s' d' × ShowsBy code p inputs name b' d' s'
  taken_is =
      let g = thief_goes in
      let o = sh.tells in (
        g.after,
        holds (record d { offered = withdrawn d.offered (name k) }) w (name k),
        steals w place (name k) g.after hand_is (λ e. o.going h.was_open e) offered_is g.steals,
        shown_after g.after g.steals,
      )

pub steals_are_shown : (code : CodeView) (p : Source) (inputs : List ℤ) → StealsAreShown code p inputs
steals_are_shown code p inputs name b b' d s w place k sh h t = taken_is code p inputs name b b' d s w place k sh h t
