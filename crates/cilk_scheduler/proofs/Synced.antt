-- A frame makes its sync.
--
-- - `stays_in`, `stands_in`: the stolen children of a block, by the deeds that started them;
-- - `block_unit`: a block whose pieces are units;
-- - `had_passed`, `nothing_stolen`, `all_arrived`: the views after it, in the three ways in which a
--   block passes;
-- - `syncs_are_shown`: the law.
use Rattle.std.proofs.Common.{◌≡◌, inl, inr, ⊎_elim, ◌+◌, ◌-◌, ◌<◌, ℕ, suc, Bool, true, false, true≢false, cond, ℤ, List, [], ◌∷◌, ◌++◌, length, slice_get, Option, Some, None, refl, sym, ap, ap₂, ◌∙◌, subst, arith}
use Rattle.std.specs.Option.{option_map}
use Rattle.std.proofs.lemmas.Bool.{cases_Bool}
use Rattle.std.proofs.lemmas.Option.{slice_get-map}
use Rattle.cilk_types.specs.declared.event.Event.TheVariants as events
use Rattle.cilk_types.specs.declared.event.Instance as numbered
use Rattle.cilk_types.specs.declared.invocation.Invocation.TheVariants.{Call, Spawn}
use Rattle.cilk_monoid.specs.Values.{ViewValue}
use Rattle.cilk_monoid.specs.declared.kind.MonoidKind.{MonoidKind}
use Rattle.cilk_program.specs.declared.ask.Ask.TheVariants as asks
use Rattle.cilk_program.specs.Syntax.{Source}
use Rattle.cilk_lower.specs.Code.{CodeView}
use Rattle.cilk_lower.specs.Layout.{LaysOut}
use Rattle.cilk_frames.specs.Cursor.{CursorView}
use Rattle.cilk_frames.specs.Following.{Fits}
use Rattle.cilk_frames.specs.declared.cursor.Answer.TheVariants.{Done}
use Rattle.cilk_frames.specs.declared.activation.Activation.{Activation}
use Rattle.cilk_hypermap.specs.Hypermap.{value_in}
use Rattle.cilk_hypermap.specs.declared.hypermap.Hypermap.{Hypermap}
use Rattle.cilk_join.specs.Joins.{JoinView, opening, arrived_at}
use Rattle.cilk_join.specs.Products.{Product, product}
use Rattle.cilk_join.specs.Rows.{Row, Stands, is_empty}
use Rattle.cilk_join.specs.Waits.{shown}
use Rattle.cilk_determinacy.specs.Costs.{Total, TickTotal, EventTotal, FrameTotal, CellTotal, cost, fault_of}
use Rattle.cilk_determinacy.specs.Machine.{Frame, State, begins_strand, started, strands, block_view, after_views, after_deed, deed_of, deeds_at, effect, joined_by, Makes}
use Rattle.cilk_determinacy.specs.Monoids.{numbers_of, unit_of}
use Rattle.cilk_determinacy.specs.Progress.{BlockHasEnded, GoesOn, HasEnded, HasNext, HasNoSync, child_after}
use Rattle.cilk_determinacy.specs.Runs.{Name, same_name, Cell, Own, Instance, Output, Reducer, Reads, Writes, Syncs, Ends, Passes, Ask, Invoke, Pass, Resume, Sync, End, Deed, Does, Invokes}
use Rattle.cilk_determinacy.proofs.Basics.{same_name-refl}
use Rattle.cilk_determinacy.proofs.Progress.{progress}
use Rattle.cilk_determinacy.specs.FrameEnvMachine.{costs, has_ended, next, taken}
use Rattle.cilk_determinacy.specs.Reducers.{View, kind_of, monoid_of, views_of}
use Rattle.cilk_determinacy.specs.Steps.{Next}
use Rattle.cilk_determinacy.specs.FrameEnvViews.{IsViewOf}
use Rattle.cilk_determinacy.specs.FrameEnvs.{FrameEnv}
use Rattle.cilk_scheduler.specs.declared.scheduler.Scheduler.{Scheduler}
use Rattle.cilk_scheduler.specs.declared.choice.Choice.TheVariants.{Run}
use Rattle.cilk_scheduler.specs.declared.frame_state.Due.TheVariants as due
use Rattle.cilk_scheduler.specs.declared.frame_state.FrameState.{FrameState}
use Rattle.cilk_scheduler.specs.declared.frame_state.Status.TheVariants.{Held, Waiting}
use Rattle.cilk_scheduler.specs.Asking.{refusal}
use Rattle.cilk_scheduler.specs.Blocks.{stolen_in, Lays}
use Rattle.cilk_scheduler.specs.Schedulers.{carried, IsBare, hand_of, is_resuming, is_there, run_at, waits_at, IsDue, Keeps, IsWhere, ShowsBy}
use Rattle.cilk_scheduler.specs.WorkerTables.{WorkerTable, BlockIsOver, Did, Chooses, does, goes_on}
use Rattle.cilk_scheduler.specs.Events.{block_in}
use Rattle.cilk_scheduler.specs.GoneOn.{HaveGoneOn, WentOnBehind}
use Rattle.cilk_scheduler.specs.Histories.{DidAsAsked}
use Rattle.cilk_scheduler.specs.Numbered.{IsAbsent, IsInstance}
use Rattle.cilk_scheduler.specs.FrameStates.{counted, synced}
use Rattle.cilk_scheduler.specs.Steps.{HasCome, IsDone, Notes}
use Rattle.cilk_scheduler.specs.Syncing.{PassesWith, HadPassed, NothingStolen, AllArrived, SyncsAreShown}
use Rattle.cilk_scheduler.specs.Touching.{Touches, touched}
use Rattle.cilk_scheduler.proofs.Blocks as blocks
use Rattle.cilk_scheduler.proofs.Carried.{plain}
use Rattle.cilk_scheduler.proofs.Changing.{changed_known}
use Rattle.cilk_scheduler.proofs.GoneOn.{gone_on_behind}
use Rattle.cilk_scheduler.proofs.Histories.{does_as_asked}
use Rattle.cilk_scheduler.proofs.Nexts.{named_next}
use Rattle.cilk_scheduler.proofs.Onward.{end_of}
use Rattle.cilk_scheduler.proofs.Plain.{get_low}
use Rattle.cilk_scheduler.proofs.Refused.{refused_is}
use Rattle.cilk_scheduler.proofs.Stepped.{Standing, kept_by, standing}
use Rattle.cilk_scheduler.proofs.Thieves.{block_of, opening_keeps}
use Rattle.cilk_scheduler.proofs.Touched.{shown_after}
use Rattle.cilk_scheduler.proofs.Waiting.{not_among, placed_bare, placed_row}
use Rattle.cilk_scheduler.proofs.Within.{no_fault_then}

-- ---- the stolen children of a block

sync_none : (d : Deed FrameEnv) (ds : List (Deed FrameEnv)) → HasNoSync (d ∷ ds) → HasNoSync ds
sync_none d ds h before after e = h (d ∷ before) after (ap (λ l. d ∷ l) e)

stands_more : (ks : List ℕ) (k q : ℕ) → Stands ks q → Stands (ks ++ k ∷ []) q
stands_more [] k q h = absurd h
stands_more (j ∷ ks) k q (inl e) = inl e
stands_more (j ∷ ks) k q (inr h) = inr (stands_more ks k q h)

stands_last : (ks : List ℕ) (k : ℕ) → Stands (ks ++ k ∷ []) k
stands_last [] k = inl refl
stands_last (j ∷ ks) k = inr (stands_last ks k)

stands_cond : (c : Bool) (ks : List ℕ) (k q : ℕ) → Stands ks q → Stands (cond c (ks ++ k ∷ []) ks) q
stands_cond true ks k q h = stands_more ks k q h
stands_cond false ks k q h = h

stays_in : (loose : ℕ → Bool) (k : ℕ) (ks : List ℕ) (ds : List (Deed FrameEnv)) (q : ℕ) → HasNoSync ds → Stands ks q → Stands (stolen_in loose k ks ds) q
stays_in loose k ks [] q none h = h
stays_in loose k ks (Does (Reads c v) ∷ ds) q none h = stays_in loose k ks ds q (sync_none (Does (Reads c v)) ds none) h
stays_in loose k ks (Does (Writes c v) ∷ ds) q none h = stays_in loose k ks ds q (sync_none (Does (Writes c v)) ds none) h
stays_in loose k ks (Does Syncs ∷ ds) q none h = absurd (none [] ds refl)
stays_in loose k ks (Does (Ends v gone) ∷ ds) q none h = stays_in loose k ks ds q (sync_none (Does (Ends v gone)) ds none) h
stays_in loose k ks (Does (Passes m) ∷ ds) q none h = stays_in loose k ks ds q (sync_none (Does (Passes m)) ds none) h
stays_in loose k ks (Invokes Call w ∷ ds) q none h = stays_in loose (suc k) ks ds q (sync_none (Invokes Call w) ds none) h
stays_in loose k ks (Invokes Spawn w ∷ ds) q none h = stays_in loose (suc k) (cond (loose k) (ks ++ k ∷ []) ks) ds q (sync_none (Invokes Spawn w) ds none) (stands_cond (loose k) ks k q h)

pub stands_in : (loose : ℕ → Bool) (k : ℕ) (ks : List ℕ) (before after : List (Deed FrameEnv)) (what : FrameEnv) → HasNoSync after → loose (k + started before) ≡ true → Stands (stolen_in loose k ks (before ++ Invokes Spawn what ∷ after)) (k + started before)
stands_in loose k ks [] after what none h =
    let is : k + 0 ≡ k = omega arith in
    let at : loose k ≡ true = ap loose (sym is) ∙ h in
    subst (λ q. Stands (stolen_in loose (suc k) (cond (loose k) (ks ++ k ∷ []) ks) after) q) (sym is)
    (stays_in loose (suc k) (cond (loose k) (ks ++ k ∷ []) ks) after k none (subst (λ c. Stands (cond c (ks ++ k ∷ []) ks) k) (sym at) (stands_last ks k)))
stands_in loose k ks (Does (Reads c v) ∷ ds) after what none h = stands_in loose k ks ds after what none h
stands_in loose k ks (Does (Writes c v) ∷ ds) after what none h = stands_in loose k ks ds after what none h
stands_in loose k ks (Does Syncs ∷ ds) after what none h = stands_in loose k [] ds after what none h
stands_in loose k ks (Does (Ends v gone) ∷ ds) after what none h = stands_in loose k ks ds after what none h
stands_in loose k ks (Does (Passes m) ∷ ds) after what none h = stands_in loose k ks ds after what none h
stands_in loose k ks (Invokes Call w ∷ ds) after what none h =
    let is : suc k + started ds ≡ k + suc (started ds) = omega arith in
    subst (λ q. Stands (stolen_in loose (suc k) ks (ds ++ Invokes Spawn what ∷ after)) q) is (stands_in loose (suc k) ks ds after what none (ap loose is ∙ h))
stands_in loose k ks (Invokes Spawn w ∷ ds) after what none h =
    let is : suc k + started ds ≡ k + suc (started ds) = omega arith in
    subst (λ q. Stands (stolen_in loose (suc k) (cond (loose k) (ks ++ k ∷ []) ks) (ds ++ Invokes Spawn what ∷ after)) q) is (stands_in loose (suc k) (cond (loose k) (ks ++ k ∷ []) ks) ds after what none (ap loose is ∙ h))

-- a block whose pieces are units is one
pub block_unit : (kind : MonoidKind) (kid : ℕ → View) (loose : ℕ → Bool) → ((q : ℕ) → loose q ≡ true → kid q ≡ (views_of kind).unit) → (k : ℕ) (ds : List (Deed FrameEnv)) → block_view (views_of kind) kid loose ((views_of kind).unit) k ds ≡ (views_of kind).unit
block_unit kind kid loose h k [] = refl
block_unit kind kid loose h k (Does (Reads c v) ∷ ds) = block_unit kind kid loose h k ds
block_unit kind kid loose h k (Does (Writes c v) ∷ ds) = block_unit kind kid loose h k ds
block_unit kind kid loose h k (Does Syncs ∷ ds) = block_unit kind kid loose h k ds
block_unit kind kid loose h k (Does (Ends v gone) ∷ ds) = block_unit kind kid loose h k ds
block_unit kind kid loose h k (Does (Passes m) ∷ ds) = block_unit kind kid loose h k ds
block_unit kind kid loose h k (Invokes Call w ∷ ds) = block_unit kind kid loose h (suc k) ds
block_unit kind kid loose h k (Invokes Spawn w ∷ ds) = ap (λ a. block_view (views_of kind) kid loose a (suc k) ds) (same (loose k) refl) ∙ block_unit kind kid loose h (suc k) ds
  where
    same : (c : Bool) → loose k ≡ c → cond (loose k) ((views_of kind).combine ((views_of kind).unit) (kid k)) ((views_of kind).unit) ≡ (views_of kind).unit
    same true e = rw e (h k e)
    same false e = rw e refl

in_turn : (c : Bool) (n z : ℕ) → n ≡ z + 1 → cond c (suc n) n ≡ cond c (suc z) z + 1
in_turn true n z h = omega (arith, h)
in_turn false n z h = h

strands_sync : (ds : List (Deed FrameEnv)) → strands (ds ++ Does Syncs ∷ []) ≡ strands ds + 1
strands_sync [] = refl
strands_sync (Does (Reads c v) ∷ ds) = strands_sync ds
strands_sync (Does (Writes c v) ∷ ds) = strands_sync ds
strands_sync (Does Syncs ∷ ds) = let h = strands_sync ds in omega (arith, h)
strands_sync (Does (Ends v gone) ∷ ds) = strands_sync ds
strands_sync (Does (Passes m) ∷ ds) = in_turn (begins_strand (Passes m)) (strands (ds ++ Does Syncs ∷ [])) (strands ds) (strands_sync ds)
strands_sync (Invokes how w ∷ ds) = strands_sync ds

pub empty_list : {A : Type 0} (ws : List A) → is_empty ws ≡ true → ws ≡ []
empty_list [] h = refl
empty_list (v ∷ ws) h = absurd (true≢false (sym h))

module _ (code : CodeView) (p : Source) (inputs : List ℤ) (name : ℕ → Name) (b : Scheduler) (d : WorkerTable) (s : State FrameEnv View) (w k : ℕ) (lays : LaysOut p code.layout) (sh : ShowsBy code p inputs name b d s) (asked : DidAsAsked p inputs s) (gone : HaveGoneOn s)
    (h : HasCome code p inputs b w k asks.Sync) where
  abbrev frame_states : List (Activation FrameState)
  frame_states = let f = b.frames in f.items

  abbrev x : FrameState
  x = let a = h.frame_state in a.cursor

  abbrev frame : Frame FrameEnv
  frame = let o = sh.sits k h.frame_state h.sits in o.frame

  abbrev what : FrameEnv
  what = let f = (let o = sh.sits k h.frame_state h.sits in o.frame) in f.what

  abbrev past : List (Deed FrameEnv)
  past = let f = (let o = sh.sits k h.frame_state h.sits in o.frame) in f.deeds

  abbrev loose : ℕ → Bool
  loose = λ q. s.stolen (name k ++ q ∷ [])

  here : s.frames (name k) ≡ Some frame
  here = let o = sh.sits k h.frame_state h.sits in o.here

  status_is : x.status ≡ Held w
  status_is =
      let g = sh.holds w k h.worker h.at h.has in
      let same : g.frame_state ≡ h.frame_state = (let q : Some g.frame_state ≡ Some h.frame_state = sym g.here ∙ h.sits in cc) in
      ap (λ (a : Activation FrameState). let y = a.cursor in y.status) (sym same) ∙ g.held

  held : IsWhere code p inputs name b s k (name k) past x (Held w)
  held = let o = sh.sits k h.frame_state h.sits in subst (λ z. IsWhere code p inputs name b s k (name k) past x z) status_is o.is_where

  goes : has_ended past ≡ false
  goes = held.4

  behind : WentOnBehind s (name k) (deeds_at (s.frames (name k)))
  behind = let law = gone_on_behind p inputs in law.behind s (name k) gone (subst (λ f. GoesOn FrameEnv View s (name k) (deeds_at f)) (sym here) held.3)

  dues : (c : CursorView) × (x.cursor ≡ Some c) × IsDue code p inputs what past x.due c x.took
  dues = let o = sh.sits k h.frame_state h.sits in o.due goes

  named_as : (next p inputs what past ≡ Some Sync) × ((let y = h.came in y.took) ≡ taken p inputs what past)
  named_as = named_next code p inputs what past x h.came dues.0 asks.Sync goes dues.1 dues.2 h.went

  stands_at : Standing code p inputs what past h.came asks.Sync
  stands_at = standing code p inputs what past x h.came dues.0 asks.Sync x.due goes dues.1 dues.2 h.went

  kept : h.came ≡ (let y = h.came in record x { cursor = y.cursor; took = y.took })
  kept = kept_by code p inputs x h.came asks.Sync x.due h.went

  abbrev ask : Ask FrameEnv
  ask = Sync

  abbrev spent : ℕ
  spent = let y = h.came in b.ticks + (y.took - y.counted)

  spent_is : spent ≡ (let C = costs p inputs in s.totals TickTotal + C.ticks what past)
  spent_is =
      let o = sh.sits k h.frame_state h.sits in
      ap₂ (λ n m. n + m) (sym sh.ticks) (ap₂ (λ n m. n - m) named_as.1 (ap (λ (y : FrameState). y.counted) kept ∙ o.counted))

  no_fault : fault_of (costs p inputs) s.totals what past ask ≡ None
  no_fault =
      let e = b.journal in
      let f = b.frames in
      let c = b.cells in
      sym (refused_is p inputs code.layout what past asks.Sync s.totals spent spent_is sh.few_frames sh.few_cells lays.cells)
      ∙ subst (λ n. refusal spent n (s.totals FrameTotal) (s.totals CellTotal) code.layout asks.Sync ≡ None) (sym sh.events)
      (subst (λ n. refusal spent (length e.items) n (s.totals CellTotal) code.layout asks.Sync ≡ None) (sym sh.frames) (subst (λ n. refusal spent (length e.items) (length f.items) n code.layout asks.Sync ≡ None) (sym sh.cells) h.accepted))

  calm : is_resuming past ≡ false
  calm = by (is_resuming past) refl
    where
      by : (t : Bool) → is_resuming past ≡ t → is_resuming past ≡ false
      by true e =
          let fine = no_fault_then (costs p inputs) s.totals what past ask no_fault in
          let law = does_as_asked p inputs in
          let it = law.order s (name k) frame ask asked here named_as.0 fine.0 in
          let no : ask ≡ Pass Resume = it.resumes_there e in
          let z : ⊥ = cc in
          absurd z
      by false e = e

  -- ---- the views after it, and that each child has ended

  pub record Merges (views : Hypermap) : Type 0 where
    pub views_are : (i : Instance) (j : numbered.Instance) → IsInstance p frame_states name i j
        → IsViewOf (kind_of i) ((monoid_of i).combine (block_view (monoid_of i) (λ q. s.piece (name k ++ q ∷ []) i) (λ q. s.stolen (name k ++ q ∷ [])) ((monoid_of i).unit) 1 past) (s.piece (name k) i)) (value_in views (kind_of i) j)
    pub over : BlockIsOver s (name k)
    pub bare : IsBare (length frame_states) (value_in views)

  -- the worker's views, by whether the block has passed
  holds_views : (t : Bool) → x.merged ≡ t → (i : Instance) (j : numbered.Instance) → IsInstance p frame_states name i j → IsViewOf (kind_of i) (carried (monoid_of i) (λ m. s.piece m i) s.stolen (name k) past t) (let u = h.worker in value_in u.views (kind_of i) j)
  holds_views t q i j is =
      let g = sh.holds w k h.worker h.at h.has in
      let u = h.worker in
      let same : g.frame_state ≡ h.frame_state = (let e : Some g.frame_state ≡ Some h.frame_state = sym g.here ∙ h.sits in cc) in
      let merged : (let a = g.frame_state in let y = a.cursor in y.merged) ≡ t = ap (λ (a : Activation FrameState). let y = a.cursor in y.merged) same ∙ q in
      subst (λ f. IsViewOf (kind_of i) (carried (monoid_of i) (λ m. s.piece m i) s.stolen (name k) (deeds_at f) t) (value_in u.views (kind_of i) j)) here
      (subst (λ t. IsViewOf (kind_of i) (carried (monoid_of i) (λ m. s.piece m i) s.stolen (name k) (deeds_at (s.frames (name k))) t) (value_in u.views (kind_of i) j)) merged (g.views i j is))

  piece_is : x.merged ≡ false → (i : Instance) (j : numbered.Instance) → IsInstance p frame_states name i j → IsViewOf (kind_of i) (s.piece (name k) i) (let u = h.worker in value_in u.views (kind_of i) j)
  piece_is q i j is =
      let u = h.worker in
      subst (λ v. IsViewOf (kind_of i) v (value_in u.views (kind_of i) j)) (plain (monoid_of i) (λ m. s.piece m i) s.stolen (name k) past false refl calm) (holds_views false q i j is)

  bare_now : let u = h.worker in IsBare (length frame_states) (value_in u.views)
  bare_now = let g = sh.holds w k h.worker h.at h.has in g.bare

  -- each spawned child has ended, once the stolen ones have
  over_by : ((q : ℕ) → Stands (stolen_in loose 1 [] past) q → has_ended (deeds_at (s.frames (name k ++ q ∷ []))) ≡ true) → BlockIsOver s (name k)
  over_by there before after child e none = ⊎_elim (λ g. g) stolen (behind before after child e)
    where
      at : past ≡ before ++ Invokes Spawn child ∷ after
      at = sym (ap (λ f. deeds_at f) here) ∙ e

      one : 1 + started before ≡ suc (started before)
      one = omega arith

      stolen : s.stolen (child_after (name k) before) ≡ true → HasEnded FrameEnv View s (child_after (name k) before)
      stolen t =
          end_of s (child_after (name k) before) (s.frames (child_after (name k) before)) refl
          (there (suc (started before)) (subst (λ ds. Stands (stolen_in loose 1 [] ds) (suc (started before))) (sym at) (subst (λ q. Stands (stolen_in loose 1 [] (before ++ Invokes Spawn child ∷ after)) q) one (stands_in loose 1 [] before after child none (ap loose one ∙ t)))))

  had_passed : x.merged ≡ true → (let u = h.worker in Merges u.views)
  had_passed q = record { views_are = λ i j is. holds_views true q i j is; over = (let g = held.5 q in g.1); bare = bare_now }

  nothing_stolen : x.merged ≡ false → x.join ≡ None → (let u = h.worker in Merges u.views)
  nothing_stolen q none =
      let u = h.worker in record {
        views_are = λ i j is. subst (λ v. IsViewOf (kind_of i) ((monoid_of i).combine v (s.piece (name k) i)) (value_in u.views (kind_of i) j)) (sym (empty i)) (piece_is q i j is);
        over = over_by (λ z among. absurd (subst (λ ks. Stands ks z) listed among));
        bare = bare_now;
      }
    where
      listed : stolen_in loose 1 [] past ≡ []
      listed = let o = sh.sits k h.frame_state h.sits in ⊎_elim (λ g. g.1) (λ g. no g.0 g.1) (o.block goes)
        where
          no : (l : _) → x.join ≡ Some l → stolen_in loose 1 [] past ≡ []
          no l at = let e : None ≡ Some l = sym none ∙ at in let z : ⊥ = cc in absurd z

      empty : (i : Instance) → block_view (monoid_of i) (λ q. s.piece (name k ++ q ∷ []) i) (λ q. s.stolen (name k ++ q ∷ [])) ((monoid_of i).unit) 1 past ≡ (monoid_of i).unit
      empty i = blocks.block_product (monoid_of i) (λ q. s.piece (name k ++ q ∷ []) i) loose [] 1 past ∙ ap (λ ks. blocks.product (monoid_of i) (λ q. s.piece (name k ++ q ∷ []) i) ((monoid_of i).unit) ks) listed

  -- ---- all pieces have arrived

  module _ (unmerged : x.merged ≡ false) (views : Hypermap) where
    abbrev block : JoinView
    block = block_in x.join

    abbrev key : ℕ
    key = x.children + 1

    abbrev piece : Product
    piece = let u = h.worker in product u.views

    abbrev block_now : JoinView
    block_now = arrived_at (block_in x.join) (x.children + 1) true (let u = h.worker in product u.views)

    abbrev there : ℕ → Bool
    there = is_there code p inputs name b s (name k)

    before : Keeps code p inputs name b s (name k) past block × (block.closed ≡ false)
    before =
        let o = sh.sits k h.frame_state h.sits in
        ⊎_elim (λ g. let e : block ≡ opening = ap (λ z. block_in z) g.0 in (subst (λ j. Keeps code p inputs name b s (name k) past j) (sym e) (opening_keeps code p inputs name b s (name k) past g.1), ap (λ (j : JoinView). j.closed) e))
        (λ g. let l = g.0 in let e : block ≡ shown l.value = block_of x.join g.0 g.1 in
        ⊎_elim (λ m. absurd (true≢false (sym m ∙ unmerged)))
        (λ z. (subst (λ j. Keeps code p inputs name b s (name k) past j) (sym e) z.0, ap (λ (j : JoinView). j.closed) e ∙ open_one (shown l.value) z.1)) g.2)
        (o.block goes)
      where
        open_one : (j : JoinView) → (j.closed ≡ true → x.status ≡ Waiting) → j.closed ≡ false
        open_one j g = ⊎_elim (λ q. let z : Held w ≡ Waiting = sym status_is ∙ g q in let f : ⊥ = cc in absurd f) (λ f. f) (cases_Bool j.closed)

    lays_now : (i : Instance) (q : numbered.Instance) → IsInstance p frame_states name i q → let r = block_now.row in
        Lays (kind_of i) (λ z. s.piece (name k ++ z ∷ []) i) there (s.piece (name k) i) (unit_of monoid_of i) (stolen_in loose 1 [] past) (run_at (kind_of i) q r.run) (waits_at (kind_of i) q r.waits)
    lays_now i q is =
        let kb = before.0 in
        let r = block.row in
        let kind = kind_of i in
        let o = sh.sits k h.frame_state h.sits in
        let n : x.children ≡ started past = sym o.children in
        let one = subst (λ c. Lays kind (λ z. s.piece (name k ++ z ∷ []) i) there (cond c (s.piece (name k) i) (unit_of monoid_of i)) (unit_of monoid_of i) (stolen_in loose 1 [] past) (run_at kind q r.run) (waits_at kind q r.waits)) before.1 (kb.lays i q is) in
        let two = blocks.closes kind (λ z. s.piece (name k ++ z ∷ []) i) there (unit_of monoid_of i) (stolen_in loose 1 [] past) (run_at kind q r.run) (waits_at kind q r.waits) key (s.piece (name k) i) (piece kind q) (piece_is unmerged i q is)
        (not_among loose 1 [] past key (omega (arith, n)) tt) one in
        subst (λ (y : Row ViewValue). Lays kind (λ z. s.piece (name k ++ z ∷ []) i) there (s.piece (name k) i) (unit_of monoid_of i) (stolen_in loose 1 [] past) y.run y.waits) (placed_row kind q r.run r.waits key piece) two

    module _ (none : (let r = block_now.row in is_empty r.waits) ≡ true) (whole : (let r = block_now.row in r.run) ≡ Some (product views)) where
      lays_whole : (i : Instance) (q : numbered.Instance) → IsInstance p frame_states name i q
          → Lays (kind_of i) (λ z. s.piece (name k ++ z ∷ []) i) there (s.piece (name k) i) (unit_of monoid_of i) (stolen_in loose 1 [] past) (Some (product views (kind_of i) q)) []
      lays_whole i q is =
          let r = block_now.row in
          subst (λ run. Lays (kind_of i) (λ z. s.piece (name k ++ z ∷ []) i) there (s.piece (name k) i) (unit_of monoid_of i) (stolen_in loose 1 [] past) (run_at (kind_of i) q run) []) whole
          (subst (λ ws. Lays (kind_of i) (λ z. s.piece (name k ++ z ∷ []) i) there (s.piece (name k) i) (unit_of monoid_of i) (stolen_in loose 1 [] past) (run_at (kind_of i) q r.run) (waits_at (kind_of i) q ws)) (empty_list r.waits none) (lays_now i q is))

      all_arrived : Merges views
      all_arrived =
          let kb = before.0 in
          let r = block.row in
          let z = placed_bare (length frame_states) r.run r.waits key piece kb.bare kb.bare_later bare_now in record {
            views_are = λ i j is. blocks.passes (kind_of i) (λ z. s.piece (name k ++ z ∷ []) i) loose there (s.piece (name k) i) past (Some (product views (kind_of i) j)) (lays_whole i j is);
            over = over_by (λ q among. blocks.none_awaited (kind_of Output) (λ z. s.piece (name k ++ z ∷ []) Output) there (s.piece (name k) Output) (unit_of monoid_of Output) (stolen_in loose 1 [] past) (Some (product views (kind_of Output) (record { frame = 0; place = 0 })))
                (lays_whole Output (record { frame = 0; place = 0 }) (refl, refl)) q among);
            bare = z.0 (product views) whole;
          }

  merges : (views : Hypermap) → (let u = h.worker in PassesWith x u.views views) → Merges views
  merges views (HadPassed q same) = subst (λ v. Merges v) (sym same) (had_passed q)
  merges views (NothingStolen q none same) = subst (λ v. Merges v) (sym same) (nothing_stolen q none)
  merges views (AllArrived q after arrives) = all_arrived q views arrives.0 arrives.1

  -- ---- the step

  hand_is : slice_get d.hands w ≡ Some (Some (name k))
  hand_is =
      let o = sh.worker_table in
      let l = b.workers in
      ap (λ hs. slice_get hs w) o.hands ∙ slice_get-map (hand_of name) l.items w ∙ ap (λ u. option_map (hand_of name) u) h.at ∙ ap (λ f. Some (option_map name f)) h.has

  low : k < length frame_states
  low = get_low frame_states k h.frame_state h.sits

  -- a stolen child is there
  child_there : (q : ℕ) → loose q ≡ true → IsAbsent frame_states name (name k ++ q ∷ []) → ⊥
  child_there q t none = true≢false (sym t ∙ sh.unstolen (name k ++ q ∷ []) none)

  module _ (b' : Scheduler) (views : Hypermap) (merge : Merges views) (notes : (let c = b.cells in Notes code p inputs b b' w k h.came (synced h.came) events.Sync c.items views)) where
    next_step : HasNext FrameEnv View monoid_of (Next p inputs) (costs p inputs) s (name k) frame ask
    next_step =
        let P = progress FrameEnv View monoid_of (Next p inputs) (costs p inputs) in
        let fine = no_fault_then (costs p inputs) s.totals what past ask no_fault in
        P.goes_on s (name k) frame ask sh.running (record { here = here; next = named_as.0; goes_on = held.3; block = λ q. subst (λ f. BlockHasEnded FrameEnv View s (name k) (deeds_at f)) here merge.over }) fine.0 fine.1

    module _ (s' : State FrameEnv View) (m : Makes FrameEnv View monoid_of (Next p inputs) (costs p inputs) s (name k) s') where
      frame_is : m.frame ≡ frame
      frame_is = let a = m.asking in let q : Some m.frame ≡ Some frame = sym a.here ∙ here in cc

      ask_is : m.ask ≡ ask
      ask_is =
          let a = m.asking in
          let n : next p inputs what past ≡ Some m.ask = subst (λ (f : Frame FrameEnv). next p inputs f.what f.deeds ≡ Some m.ask) frame_is a.next in
          let q : Some m.ask ≡ Some ask = sym n ∙ named_as.0 in
          cc

      deed : deed_of s.memory (numbers_of monoid_of (s.piece (name k))) m.ask ≡ Does Syncs
      deed = ap (λ a. deed_of s.memory (numbers_of monoid_of (s.piece (name k))) a) ask_is

      piece_at : (i : Instance) (z : Name) → s'.piece z i ≡ after_views (monoid_of i) i s.stolen (name k) past (Does Syncs) (λ y. s.piece y i) z
      piece_at i z = m.piece i z ∙ ap₂ (λ (f : Frame FrameEnv) a. after_views (monoid_of i) i s.stolen (name k) f.deeds a (λ y. s.piece y i) z) frame_is deed

      total_at : (total : Total) → s'.totals total ≡ s.totals total + cost (costs p inputs) total what past ask
      total_at total = m.totals total ∙ ap₂ (λ (f : Frame FrameEnv) a. s.totals total + cost (costs p inputs) total f.what f.deeds a) frame_is ask_is

      next_now : counted (synced h.came) ≡ touched false (let y = h.came in y.strands + 1) (let y = h.came in y.took) (let z = stands_at in z.cursor) Done x
      next_now =
          let z = stands_at in
          let y = h.came in
          ap (λ (a : FrameState). counted (record a { join = None; merged = false; strands = y.strands + 1; due = due.Answer Done })) kept ∙ ap (λ o. touched_by o) z.is
        where
          touched_by : Option CursorView → FrameState
          touched_by o = let y = h.came in record x { strands = y.strands + 1; took = y.took; counted = y.took; due = due.Answer Done; cursor = o; join = None; merged = false }

      memory_at : (c : Cell) → s'.memory c ≡ s.memory c
      memory_at c = ap (λ t. t c) m.memory ∙ ap (λ a. effect a c (s.memory c)) deed

      piece_here : (i : Instance) → s'.piece (name k) i ≡ (monoid_of i).combine (block_view (monoid_of i) (λ q. s.piece (name k ++ q ∷ []) i) (λ q. s.stolen (name k ++ q ∷ [])) ((monoid_of i).unit) 1 past) (s.piece (name k) i)
      piece_here i = piece_at i (name k) ∙ at_name (same_name (name k) (name k)) (same_name-refl (name k)) _ _
        where
          at_name : (t : Bool) → t ≡ true → (u v : View) → cond t u v ≡ u
          at_name t q u v = rw q refl

      touches : Touches code p inputs name b b' s s' w k Syncs (record { frame = k; event = events.Sync })
      touches =
          let z = stands_at in
          let y = h.came in
          let o = sh.sits k h.frame_state h.sits in record {
            worker = h.worker;
            frame_state = h.frame_state;
            frame = frame;
            at = h.at;
            has = h.has;
            sits = h.sits;
            here = here;
            same_block = false;
            unmerged = λ q. absurd (true≢false (sym q));
            goes = goes;
            is_plain = refl;
            frames = m.frames ∙ ap₂ (λ f a. after_deed s.frames (name k) f a) frame_is deed;
            stolen = m.stolen;
            joins = m.joins ∙ ap₂ (λ a (f : Frame FrameEnv). joined_by a (name k) f.deeds ++ s.joins) ask_is frame_is;
            running = m.stopped;
            others = λ i n off. piece_at i n ∙ rw off refl;
            begun = y.strands + 1;
            took = y.took;
            cursor = z.cursor;
            answer = Done;
            frame_states_are = notes.frames ∙ changed_known (λ _. counted (synced h.came)) (touched false (y.strands + 1) y.took z.cursor Done) frame_states k h.frame_state h.sits next_now;
            told = record { past = past; last = Does Syncs; deeds_are = refl; stands = z.stands tt; fits = subst (λ owed. Fits owed Done) (sym (z.owes tt)) tt; answers = refl; took_is = named_as.1; small = z.small };
            took_is = named_as.1;
            strands_are = strands_sync past ∙ ap (λ n. n + 1) (o.strands_are ∙ sym (ap (λ (a : FrameState). a.strands) kept));
            written = notes.journal;
            by_frame = refl;
            means = refl;
            cells = ap (λ (l : List ℤ). length l) notes.cells_are;
            memory = λ c n is. ap (λ l. slice_get l n) notes.cells_are ∙ sh.memory c n is ∙ ap (λ v. Some v) (sym (memory_at c));
            unwritten = λ n q none. memory_at (Own n q);
            views = views;
            workers_are = notes.workers;
            views_are = λ i j is. subst (λ v. IsViewOf (kind_of i) v (value_in views (kind_of i) j)) (sym (piece_here i)) (merge.views_are i j is);
            bare_views = merge.bare;
            bare = λ n q kind none. piece_here (Reducer n q kind) ∙ ap₂ (λ u v. (monoid_of (Reducer n q kind)).combine u v)
                (block_unit kind (λ z. s.piece (name k ++ z ∷ []) (Reducer n q kind)) loose (λ z t. sh.bare n (name k ++ z ∷ []) q kind none (child_there z t)) 1 past)
                (sh.bare n (name k) q kind none (λ g. g k low refl));
            offered = notes.offered;
            was_open = h.was_open;
            is_open = notes.outcome ∙ h.was_open;
            ticks = total_at TickTotal ∙ sym spent_is ∙ sym notes.ticks;
            events = total_at EventTotal;
            frame_total = total_at FrameTotal ∙ omega arith;
            cell_total = total_at CellTotal ∙ omega arith;
          }

      settles : Chooses p inputs s d (Run (suc w)) Did s' d
      settles =
          does w (name k) s' d hand_is m
          (goes_on m.ask (λ v q. let e : ask ≡ Invoke Call v = sym ask_is ∙ q in cc) (λ v q. let e : ask ≡ Invoke Spawn v = sym ask_is ∙ q in cc) (λ v gone q. let e : ask ≡ End v gone = sym ask_is ∙ q in cc))

    synced_then : IsDone code p inputs name b' d s w
    synced_then = let n = next_step in (n.after, settles n.after n.makes, shown_after code p inputs name b b' d s n.after w k Syncs (record { frame = k; event = events.Sync }) sh (touches n.after n.makes))

pub syncs_are_shown : (code : CodeView) (p : Source) (inputs : List ℤ) → SyncsAreShown code p inputs
syncs_are_shown code p inputs name b b' d s w k lays sh asked gone h views passes notes =
    synced_then code p inputs name b d s w k lays sh asked gone h b' views (merges code p inputs name b d s w k lays sh asked gone h views passes) notes
