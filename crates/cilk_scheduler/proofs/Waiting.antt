-- A frame waits at its sync.
--
-- - `placed_row`, `placed_bare`, `awaited_one`: a piece's place in a row of all reducers;
-- - `split`, `not_among`: the stolen children of a block, and the deeds that started them;
-- - `itself`, `worker_table_is`, `tells_is`: the frame's state, the worker table, what is shown;
-- - `waits_are_shown`: the law.
use Rattle.std.proofs.Common.{◌≡◌, ◌⊎◌, inl, inr, ⊎_elim, ◌+◌, ◌<◌, ◌≤◌, Box, ℕ, zero, suc, nat_eq, eq-eqb, eqb-true, Bool, true, false, true≢false, cond, ℤ, List, [], ◌∷◌, ◌++◌, length, map, set, slice_get, sum, Option, Some, None, refl, sym, ap, ap₂, ◌∙◌, subst, arith}
use Rattle.std.specs.Option.{option_map}
use Rattle.std.proofs.lemmas.Bool.{cases_Bool}
use Rattle.std.proofs.lemmas.Option.{slice_get-map}
use Rattle.cilk_types.specs.declared.event.Instance as numbered
use Rattle.cilk_types.specs.declared.invocation.Invocation.TheVariants.{Call, Spawn}
use Rattle.cilk_monoid.specs.Kinds.{structure_of}
use Rattle.cilk_monoid.specs.Lawful.{lawful}
use Rattle.cilk_monoid.specs.Values.{ViewValue}
use Rattle.cilk_monoid.specs.declared.kind.MonoidKind.{MonoidKind}
use Rattle.cilk_program.specs.declared.ask.Ask.TheVariants as asks
use Rattle.cilk_program.specs.Syntax.{Source}
use Rattle.cilk_lower.specs.Code.{CodeView}
use Rattle.cilk_frames.specs.Cursor.{CursorView}
use Rattle.cilk_frames.specs.declared.activation.Activation.{Activation}
use Rattle.cilk_hypermap.specs.Hypermap.{value_in}
use Rattle.cilk_join.specs.Joins.{JoinView, opening, arrived_at}
use Rattle.cilk_join.specs.Products.{Product, nothing, product, times}
use Rattle.cilk_join.specs.Rows as rows
use Rattle.cilk_join.specs.Rows.{Wait, Row, row, wait, ahead, is_empty, Stands}
use Rattle.cilk_join.specs.Waits.{shown}
use Rattle.cilk_join.specs.declared.join.Join.{Join}
use Rattle.cilk_determinacy.specs.Machine.{Frame, State, deeds_at, started}
use Rattle.cilk_determinacy.specs.Monoids.{unit_of}
use Rattle.cilk_determinacy.specs.Progress.{HasNoSync}
use Rattle.cilk_determinacy.specs.Runs.{Name, Cell, Global, Own, Instance, Output, Reducer, Reads, Writes, Syncs, Ends, Passes, Deed, Does, Invokes}
use Rattle.cilk_determinacy.specs.Reducers.{View, kind_of, monoid_of, views_of}
use Rattle.cilk_determinacy.specs.FrameEnvViews.{IsViewOf}
use Rattle.cilk_determinacy.specs.FrameEnvs.{FrameEnv}
use Rattle.cilk_determinacy.proofs.FrameEnvViews.{are_multiplied}
use Rattle.cilk_scheduler.specs.declared.scheduler.Scheduler.{Scheduler}
use Rattle.cilk_scheduler.specs.declared.choice.Choice.TheVariants.{Run}
use Rattle.cilk_scheduler.specs.declared.frame_state.Due.TheVariants as due
use Rattle.cilk_scheduler.specs.declared.frame_state.JournalEntry.{JournalEntry}
use Rattle.cilk_scheduler.specs.declared.frame_state.FrameState.{FrameState}
use Rattle.cilk_scheduler.specs.declared.frame_state.Status.{Status}
use Rattle.cilk_scheduler.specs.declared.frame_state.Status.TheVariants.{Held, Calling, Offered, Waiting, Finished}
use Rattle.cilk_scheduler.specs.declared.frame_state.Worker.{Worker}
use Rattle.cilk_scheduler.specs.Blocks.{stolen_in, Lays, NotIn}
use Rattle.cilk_scheduler.specs.Schedulers.{IsBare, hand_of, offers_of, is_resuming, is_there, stolen_at_block, run_at, waits_at, IsDue, Keeps, HasBlock, IsWhere, Sits, Holds, IsWorkerTable, Tells, ShowsBy}
use Rattle.cilk_scheduler.specs.WorkerTables.{WorkerTable, BlockIsOver, IsIn, Waited, Chooses, waits, idle}
use Rattle.cilk_scheduler.specs.Events.{block_in}
use Rattle.cilk_scheduler.specs.Numbered.{AreNamed, IsAbsent, size_of, IsCell, IsInstance, AreDeeds, events_of}
use Rattle.cilk_scheduler.specs.Waiting.{StaysBehind, WaitsAreShown, idling}
use Rattle.cilk_scheduler.proofs.Altered as altering
use Rattle.cilk_scheduler.proofs.Blocks as blocks
use Rattle.cilk_scheduler.proofs.Carried.{plain}
use Rattle.cilk_scheduler.proofs.Carries as carries
use Rattle.cilk_scheduler.proofs.Changing.{changed_here, changed_off, changed_length, changed_known}
use Rattle.cilk_scheduler.proofs.Kept.{named_changed}
use Rattle.cilk_scheduler.proofs.Nexts.{named_next}
use Rattle.cilk_scheduler.proofs.Onward.{has_end}
use Rattle.cilk_scheduler.proofs.Plain.{get_low}
use Rattle.cilk_scheduler.proofs.Stepped.{kept_by, standing}
use Rattle.cilk_scheduler.proofs.Thieves.{block_of, opening_keeps}

-- ---- rows

module _ (kind : MonoidKind) (i : numbered.Instance) where
  abbrev unit : ViewValue
  unit = (structure_of kind).unit

  abbrev combine : ViewValue → ViewValue → ViewValue
  combine = (structure_of kind).combine

  between_at : (run after : Option Product) (x : Product) → run_at kind i (Some (rows.between nothing times run x after)) ≡ Some (rows.between unit combine (run_at kind i run) (x kind i) (run_at kind i after))
  between_at None None x = refl
  between_at None (Some a) x = refl
  between_at (Some r) None x = refl
  between_at (Some r) (Some a) x = refl

  -- one reducer's row after a piece
  pub placed_row : (run : Option Product) (ws : List (Wait Product)) (key : ℕ) (x : Product)
      → rows.placed unit combine (run_at kind i run) (waits_at kind i ws) key (x kind i) ≡ row (run_at kind i (let r = rows.placed nothing times run ws key x in r.run)) (waits_at kind i (let r = rows.placed nothing times run ws key x in r.waits))
  placed_row run [] key x = ap (λ o. row o []) (sym (between_at run None x))
  placed_row run (w ∷ ws) key x = by (nat_eq w.key key) refl (placed_row w.run ws key x)
    where
      by : (c : Bool) → nat_eq w.key key ≡ c
          → rows.placed unit combine (run_at kind i w.run) (waits_at kind i ws) key (x kind i) ≡ row (run_at kind i (let r = rows.placed nothing times w.run ws key x in r.run)) (waits_at kind i (let r = rows.placed nothing times w.run ws key x in r.waits))
          → rows.placed unit combine (run_at kind i run) (waits_at kind i (w ∷ ws)) key (x kind i)
          ≡ row (run_at kind i (let r = rows.placed nothing times run (w ∷ ws) key x in r.run)) (waits_at kind i (let r = rows.placed nothing times run (w ∷ ws) key x in r.waits))
      by true q rest = rw q (ap (λ o. row o (waits_at kind i ws)) (sym (between_at run w.run x)))
      by false q rest = rw q (ap (λ (r : Row ViewValue). ahead (run_at kind i run) w.key r) rest)

  pub empty_at : (ws : List (Wait Product)) → is_empty (waits_at kind i ws) ≡ is_empty ws
  empty_at [] = refl
  empty_at (w ∷ ws) = refl

-- no view of a frame that hasn't begun, in a product either
units : (kind : MonoidKind) → (structure_of kind).combine ((structure_of kind).unit) ((structure_of kind).unit) ≡ (structure_of kind).unit
units kind = let l = lawful kind in let m = (let a = are_multiplied in a.unit kind) in l.left_neutral ((structure_of kind).unit) m.member

module _ (n : ℕ) where
  abbrev BareRun : Option Product → Type 0
  BareRun run = (v : Product) → run ≡ Some v → IsBare n v

  abbrev BareWaits : List (Wait Product) → Type 0
  BareWaits ws = (q : ℕ) (a : Wait Product) (v : Product) → slice_get ws q ≡ Some a → a.run ≡ Some v → IsBare n v

  or_bare : (run : Option Product) → BareRun run → IsBare n (rows.or_unit nothing times run)
  or_bare None h = λ kind j lt. refl
  or_bare (Some v) h = h v refl

  times_bare : (x y : Product) → IsBare n x → IsBare n y → IsBare n (times x y)
  times_bare x y f g = λ kind j lt. ap₂ (λ a c. (structure_of kind).combine a c) (f kind j lt) (g kind j lt) ∙ units kind

  between_bare : (run after : Option Product) (x : Product) → BareRun run → IsBare n x → BareRun after → BareRun (Some (rows.between nothing times run x after))
  between_bare run after x f g h v e =
      let same : rows.between nothing times run x after ≡ v = cc in
      subst (λ z. IsBare n z) same (times_bare (times (rows.or_unit nothing times run) x) (rows.or_unit nothing times after) (times_bare (rows.or_unit nothing times run) x (or_bare run f) g) (or_bare after h))

  pub placed_bare : (run : Option Product) (ws : List (Wait Product)) (key : ℕ) (x : Product) → BareRun run → BareWaits ws → IsBare n x → BareRun (let r = rows.placed nothing times run ws key x in r.run) × BareWaits (let r = rows.placed nothing times run ws key x in r.waits)
  placed_bare run [] key x f g h = (between_bare run None x f h (λ v e. let no : None ≡ Some v = e in let z : ⊥ = cc in absurd z), g)
  placed_bare run (w ∷ ws) key x f g h = by (nat_eq w.key key) refl (placed_bare w.run ws key x (λ v e. g 0 w v refl e) (λ q a v at e. g (suc q) a v at e) h)
    where
      by : (c : Bool) → nat_eq w.key key ≡ c → BareRun (let r = rows.placed nothing times w.run ws key x in r.run) × BareWaits (let r = rows.placed nothing times w.run ws key x in r.waits)
          → BareRun (let r = rows.placed nothing times run (w ∷ ws) key x in r.run) × BareWaits (let r = rows.placed nothing times run (w ∷ ws) key x in r.waits)
      by true e rest = rw e (between_bare run w.run x f h (λ v e. g 0 w v refl e), (λ q a v at e. g (suc q) a v at e))
      by false e rest = rw e (f, later)
        where
          later : BareWaits (wait w.key (let r = rows.placed nothing times w.run ws key x in r.run) ∷ (let r = rows.placed nothing times w.run ws key x in r.waits))
          later zero a v at has = let same : wait w.key (let r = rows.placed nothing times w.run ws key x in r.run) ≡ a = cc in rest.0 v (ap (λ (y : Wait Product). y.run) same ∙ has)
          later (suc q) a v at has = rest.1 q a v at has

-- a child that isn't there is awaited
pub awaited_one : (kind : MonoidKind) (kid : ℕ → View) (there : ℕ → Bool) (own acc : View) (ks : List ℕ) (run : Option ViewValue) (ws : List (Wait ViewValue)) → Lays kind kid there own acc ks run ws → is_empty ws ≡ false → (q : ℕ) × Stands ks q × (there q ≡ false)
awaited_one kind kid there own acc [] run ws h some = absurd (true≢false (sym (ap (λ l. is_empty l) h.1) ∙ some))
awaited_one kind kid there own acc (k ∷ ks) run ws (inl a) some = let r = awaited_one kind kid there own ((views_of kind).combine acc (kid k)) ks run ws a.1 some in (r.0, inr r.1, r.2)
awaited_one kind kid there own acc (k ∷ ks) run ws (inr a) some = (k, inl refl, a.0)

-- ---- the stolen children of a block

sync_later : (d : Deed FrameEnv) (ds : List (Deed FrameEnv)) → (d ≡ Does Syncs → ⊥) → HasNoSync ds → HasNoSync (d ∷ ds)
sync_later d ds off none [] after q = let e : d ≡ Does Syncs = cc in off e
sync_later d ds off none (b ∷ before) after q = let e : ds ≡ before ++ Does Syncs ∷ after = cc in none before after e

-- the spawn of this child, with no sync after it
abbrev pub Spawns : ℕ → List (Deed FrameEnv) → ℕ → Type 0
Spawns k ds q = (before : List (Deed FrameEnv)) × (after : List (Deed FrameEnv)) × (what : FrameEnv) × (ds ≡ before ++ Invokes Spawn what ∷ after) × HasNoSync after × (q ≡ k + started before)

spawns_later : (d : Deed FrameEnv) (z k : ℕ) (ds : List (Deed FrameEnv)) (q : ℕ) → ((b : List (Deed FrameEnv)) → z + started b ≡ k + started (d ∷ b)) → Spawns z ds q → Spawns k (d ∷ ds) q
spawns_later d z k ds q e h = (d ∷ h.0, h.1, h.2, ap (λ l. d ∷ l) h.3, h.4, h.5 ∙ e h.0)

among_more : (ks : List ℕ) (k q : ℕ) → Stands (ks ++ k ∷ []) q → Stands ks q ⊎ (q ≡ k)
among_more [] k q (inl e) = inr (sym e)
among_more [] k q (inr h) = absurd h
among_more (j ∷ ks) k q (inl e) = inl (inl e)
among_more (j ∷ ks) k q (inr h) = ⊎_elim (λ a. inl (inr a)) (λ e. inr e) (among_more ks k q h)

among_cond : (c : Bool) (ks : List ℕ) (k q : ℕ) → Stands (cond c (ks ++ k ∷ []) ks) q → Stands ks q ⊎ (q ≡ k)
among_cond true ks k q h = among_more ks k q h
among_cond false ks k q h = inl h

pub split : (loose : ℕ → Bool) (k : ℕ) (ks : List ℕ) (ds : List (Deed FrameEnv)) (q : ℕ) → Stands (stolen_in loose k ks ds) q → (Stands ks q × HasNoSync ds) ⊎ Spawns k ds q
split loose k ks [] q h = inl (h, none)
  where
    none : HasNoSync {W = FrameEnv} []
    none [] after e = let z : [] ≡ Does Syncs ∷ after = e in cc
    none (b ∷ before) after e = let z : [] ≡ b ∷ (before ++ Does Syncs ∷ after) = e in cc
split loose k ks (Does (Reads c v) ∷ ds) q h = ⊎_elim (λ a. inl (a.0, sync_later (Does (Reads c v)) ds (λ e. cc) a.1)) (λ a. inr (spawns_later (Does (Reads c v)) k k ds q (λ b. refl) a)) (split loose k ks ds q h)
split loose k ks (Does (Writes c v) ∷ ds) q h = ⊎_elim (λ a. inl (a.0, sync_later (Does (Writes c v)) ds (λ e. cc) a.1)) (λ a. inr (spawns_later (Does (Writes c v)) k k ds q (λ b. refl) a)) (split loose k ks ds q h)
split loose k ks (Does Syncs ∷ ds) q h = ⊎_elim (λ a. absurd a.0) (λ a. inr (spawns_later (Does Syncs) k k ds q (λ b. refl) a)) (split loose k [] ds q h)
split loose k ks (Does (Ends v gone) ∷ ds) q h = ⊎_elim (λ a. inl (a.0, sync_later (Does (Ends v gone)) ds (λ e. cc) a.1)) (λ a. inr (spawns_later (Does (Ends v gone)) k k ds q (λ b. refl) a)) (split loose k ks ds q h)
split loose k ks (Does (Passes m) ∷ ds) q h = ⊎_elim (λ a. inl (a.0, sync_later (Does (Passes m)) ds (λ e. cc) a.1)) (λ a. inr (spawns_later (Does (Passes m)) k k ds q (λ b. refl) a)) (split loose k ks ds q h)
split loose k ks (Invokes Call w ∷ ds) q h = ⊎_elim (λ a. inl (a.0, sync_later (Invokes Call w) ds (λ e. cc) a.1)) (λ a. inr (spawns_later (Invokes Call w) (suc k) k ds q (λ b. omega arith) a)) (split loose (suc k) ks ds q h)
split loose k ks (Invokes Spawn w ∷ ds) q h = ⊎_elim
    (λ a. ⊎_elim (λ y. inl (y, sync_later (Invokes Spawn w) ds (λ e. cc) a.1)) (λ y. inr ([], ds, w, refl, a.1, y ∙ omega arith)) (among_cond (loose k) ks k q a.0))
    (λ a. inr (spawns_later (Invokes Spawn w) (suc k) k ds q (λ b. omega arith) a)) (split loose (suc k) (cond (loose k) (ks ++ k ∷ []) ks) ds q h)

off_more : (ks : List ℕ) (k z : ℕ) → NotIn z ks → nat_eq k z ≡ false → NotIn z (ks ++ k ∷ [])
off_more [] k z h e = (e, tt)
off_more (j ∷ ks) k z h e = (h.0, off_more ks k z h.1 e)

off_cond : (c : Bool) (ks : List ℕ) (k z : ℕ) → NotIn z ks → nat_eq k z ≡ false → NotIn z (cond c (ks ++ k ∷ []) ks)
off_cond true ks k z h e = off_more ks k z h e
off_cond false ks k z h e = h

below_off : (k z : ℕ) → k < z → nat_eq k z ≡ false
below_off k z lt = ⊎_elim (λ q. let e : k ≡ z = eqb-true k z q in absurd (omega (arith, e, lt))) (λ f. f) (cases_Bool (nat_eq k z))

-- a key above all that were started isn't among them
pub not_among : (loose : ℕ → Bool) (k : ℕ) (ks : List ℕ) (ds : List (Deed FrameEnv)) (z : ℕ) → k + started ds ≤ z → NotIn z ks → NotIn z (stolen_in loose k ks ds)
not_among loose k ks [] z le h = h
not_among loose k ks (Does (Reads c v) ∷ ds) z le h = not_among loose k ks ds z le h
not_among loose k ks (Does (Writes c v) ∷ ds) z le h = not_among loose k ks ds z le h
not_among loose k ks (Does Syncs ∷ ds) z le h = not_among loose k [] ds z le tt
not_among loose k ks (Does (Ends v gone) ∷ ds) z le h = not_among loose k ks ds z le h
not_among loose k ks (Does (Passes m) ∷ ds) z le h = not_among loose k ks ds z le h
not_among loose k ks (Invokes Call w ∷ ds) z le h = not_among loose (suc k) ks ds z (omega (arith, le)) h
not_among loose k ks (Invokes Spawn w ∷ ds) z le h = not_among loose (suc k) (cond (loose k) (ks ++ k ∷ []) ks) ds z (omega (arith, le)) (off_cond (loose k) ks k z h (below_off k z (omega (arith, le))))

module _ (code : CodeView) (p : Source) (inputs : List ℤ) (name : ℕ → Name) (b b' : Scheduler) (d : WorkerTable) (s : State FrameEnv View) (w k : ℕ) (sh : ShowsBy code p inputs name b d s) (quiet : is_resuming (deeds_at (s.frames (name k))) ≡ false) (h : StaysBehind code p inputs b b' w k) where
  abbrev old_frame_states : List (Activation FrameState)
  old_frame_states = let f = b.frames in f.items

  abbrev new_frame_states : List (Activation FrameState)
  new_frame_states = let f = b'.frames in f.items

  abbrev old_workers : List Worker
  old_workers = let l = b.workers in l.items

  abbrev new_workers : List Worker
  new_workers = let l = b'.workers in l.items

  abbrev frame_state : FrameState
  frame_state = let a = h.frame_state in a.cursor

  abbrev frame : Frame FrameEnv
  frame = let o = sh.sits k h.frame_state h.sits in o.frame

  abbrev what : FrameEnv
  what = let f = (let o = sh.sits k h.frame_state h.sits in o.frame) in f.what

  abbrev past : List (Deed FrameEnv)
  past = let f = (let o = sh.sits k h.frame_state h.sits in o.frame) in f.deeds

  low : k < length old_frame_states
  low = get_low old_frame_states k h.frame_state h.sits

  here : s.frames (name k) ≡ Some frame
  here = let o = sh.sits k h.frame_state h.sits in o.here

  status_was : frame_state.status ≡ Held w
  status_was =
      let g = sh.holds w k h.worker h.at h.has in
      let same : g.frame_state ≡ h.frame_state = (let q : Some g.frame_state ≡ Some h.frame_state = sym g.here ∙ h.sits in cc) in
      ap (λ (a : Activation FrameState). let x = a.cursor in x.status) (sym same) ∙ g.held

  was : IsWhere code p inputs name b s k (name k) past frame_state (Held w)
  was = let o = sh.sits k h.frame_state h.sits in subst (λ z. IsWhere code p inputs name b s k (name k) past frame_state z) status_was o.is_where

  -- ---- the frame's request

  dues : (c : CursorView) × (frame_state.cursor ≡ Some c) × IsDue code p inputs what past frame_state.due c frame_state.took
  dues = let o = sh.sits k h.frame_state h.sits in o.due was.4

  kept : h.came ≡ (let y = h.came in record frame_state { cursor = y.cursor; took = y.took })
  kept = kept_by code p inputs frame_state h.came asks.Sync frame_state.due h.went

  now_due : (c : CursorView) × ((let y = h.came in y.cursor) ≡ Some c) × IsDue code p inputs what past due.Sync c (let y = h.came in y.took)
  now_due =
      let z = standing code p inputs what past frame_state h.came dues.0 asks.Sync frame_state.due was.4 dues.1 dues.2 h.went in
      let n = named_next code p inputs what past frame_state h.came dues.0 asks.Sync was.4 dues.1 dues.2 h.went in
      (z.cursor, z.is, (z.stands tt, z.owes tt, n.0, n.1, z.small))

  -- ---- where frames are

  abbrev behind : FrameState
  behind = let y = h.came in let z = h.after in record frame_state { status = Waiting; due = due.Sync; cursor = y.cursor; took = y.took; join = z.join }

  abbrev now : Activation FrameState
  now = let a = h.frame_state in record a { cursor = behind }

  after_as : h.after ≡ behind
  after_as = let z = h.after in h.after_is ∙ ap (λ (y : FrameState). record y { status = Waiting; due = due.Sync; join = z.join }) kept

  now_at : slice_get new_frame_states k ≡ Some now
  now_at =
      let a = h.frame_state in
      let B : FrameState → Option (Activation FrameState) = (λ y. Some (record a { cursor = y })) in
      ap (λ l. slice_get l k) h.frames ∙ changed_here (λ _. h.after) old_frame_states k h.frame_state h.sits ∙ ap B after_as

  else_at : (j : ℕ) → (k ≡ j → ⊥) → slice_get new_frame_states j ≡ slice_get old_frame_states j
  else_at j ne = ap (λ l. slice_get l j) h.frames ∙ changed_off (λ _. h.after) old_frame_states k j ne

  same_length : length new_frame_states ≡ length old_frame_states
  same_length = ap (λ (l : List (Activation FrameState)). length l) h.frames ∙ changed_length (λ _. h.after) old_frame_states k

  on : carries.Carries old_frame_states new_frame_states
  on = subst (λ l. carries.Carries old_frame_states l) (sym h.frames) (carries.carries_changed (λ _. h.after) old_frame_states k)

  pub data Which (j : ℕ) (a : Activation FrameState) : Type 0 where
    behind_is : k ≡ j → now ≡ a → Which j a
    stays : (k ≡ j → ⊥) → slice_get old_frame_states j ≡ Some a → Which j a

  which : (j : ℕ) (a : Activation FrameState) → slice_get new_frame_states j ≡ Some a → Which j a
  which j a at = by (nat_eq k j) refl
    where
      by : (c : Bool) → nat_eq k j ≡ c → Which j a
      by true q = let same : k ≡ j = eqb-true k j q in behind_is same (let z : Some now ≡ Some a = sym now_at ∙ ap (λ i. slice_get new_frame_states i) same ∙ at in cc)
      by false q = let ne : k ≡ j → ⊥ = (λ z. true≢false (sym (eq-eqb k j z) ∙ q)) in stays ne (sym (else_at j ne) ∙ at)

  -- ---- workers

  worker_on : (v : ℕ) (u : Worker) → slice_get old_workers v ≡ Some u → (u' : Worker) × (slice_get new_workers v ≡ Some u') × altering.Then (idling h.views) w v u u'
  worker_on v u at = let q = altering.altered_on (idling h.views) old_workers w v u at in (q.0, ap (λ l. slice_get l v) h.workers ∙ q.1, q.2)

  worker_was : (v : ℕ) (u' : Worker) → slice_get new_workers v ≡ Some u' → (u : Worker) × (slice_get old_workers v ≡ Some u) × altering.Then (idling h.views) w v u u'
  worker_was v u' at = altering.altered_from (idling h.views) old_workers w v u' (sym (ap (λ l. slice_get l v) h.workers) ∙ at)

  -- its worker has this frame alone
  own_worker : (v j : ℕ) (u : Worker) → slice_get old_workers v ≡ Some u → u.frame ≡ Some j → w ≡ v → k ≡ j
  own_worker v j u at has e =
      let same : h.worker ≡ u = (let q : Some h.worker ≡ Some u = sym h.at ∙ ap (λ i. slice_get old_workers i) e ∙ at in cc) in
      let z : Some k ≡ Some j = sym h.has ∙ ap (λ (y : Worker). y.frame) same ∙ has in
      cc

  offers_same : (v : ℕ) (u u' : Worker) → altering.Then (idling h.views) w v u u' → u'.offered ≡ u.offered
  offers_same v u u' t = ⊎_elim (λ g. ap (λ (y : Worker). y.offered) g.1) (λ g. ap (λ (y : Worker). y.offered) g.1) t

  -- ---- numbers

  more : (m : Name) (q : ℕ) → q < size_of p (s.frames m) → q < size_of p (s.frames m)
  more m q lt = lt

  instance_back : (i : Instance) (j : numbered.Instance) → IsInstance p new_frame_states name i j → IsInstance p old_frame_states name i j
  instance_back Output j g = g
  instance_back (Reducer m q kind) j g = (g.0, subst (λ z. g.0 < z) same_length g.1, g.2, g.3, g.4)

  cell_back : (c : Cell) (n : ℕ) → IsCell p new_frame_states name s c n → IsCell p old_frame_states name s c n
  cell_back (Global g) n it = it
  cell_back (Own m q) n it =
      let r = carries.carried_back old_frame_states new_frame_states on same_length it.0 it.1 it.2 in
      (it.0, r.0, r.1, it.3, it.4 ∙ ap (λ (a : Activation FrameState). a.base + q) r.2, it.5)

  absent_back : (n : Name) → IsAbsent new_frame_states name n → IsAbsent old_frame_states name n
  absent_back n none = λ j at. none j (subst (λ z. j < z) (sym same_length) at)

  absent_on : (n : Name) → IsAbsent old_frame_states name n → IsAbsent new_frame_states name n
  absent_on n none = λ j at. none j (subst (λ z. j < z) same_length at)

  -- ---- blocks

  keeps_same : (n : Name) (ds : List (Deed FrameEnv)) (j : JoinView) → Keeps code p inputs name b s n ds j → Keeps code p inputs name b' s n ds j
  keeps_same n ds j g = carries.keeps_on code p inputs name b b' s s same_length instance_back n ds ds j refl (λ q. refl) (λ i q there. refl) (λ i. refl) g

  block_else : (n : Name) (ds : List (Deed FrameEnv)) (x : FrameState) → HasBlock code p inputs name b s n ds x → HasBlock code p inputs name b' s n ds x
  block_else n ds x (inl g) = inl g
  block_else n ds x (inr g) = let l = g.0 in inr (g.0, g.1, ⊎_elim (λ m. inl m) (λ z. inr (keeps_same n ds (shown l.value) z.0, z.1)) g.2)

  where_else : (j : ℕ) (n : Name) (ds : List (Deed FrameEnv)) (x : FrameState) (z : Status) → (k ≡ j → ⊥) → IsWhere code p inputs name b s j n ds x z → IsWhere code p inputs name b' s j n ds x z
  where_else j n ds x (Held v) off g =
      let r = worker_on v g.0 g.1 in
      (r.0, r.1, ⊎_elim (λ y. absurd (off (own_worker v j g.0 g.1 g.2 y.0))) (λ y. ap (λ (u : Worker). u.frame) y.1 ∙ g.2) r.2, g.3, g.4, g.5, g.6)
  where_else j n ds x Calling off g = g
  where_else j n ds x (Offered v) off g =
      let r = worker_on v g.6 g.7 in
      (g.0, g.1, g.2, g.3, g.4, g.5, r.0, r.1, g.8, subst (λ o. slice_get o.items g.8 ≡ Some j) (sym (offers_same v g.6 r.0 r.2)) g.9, g.10, g.11)
  where_else j n ds x Waiting off g = g
  where_else j n ds x Finished off g = g

  written_now : (j : ℕ) → (let e = b'.journal in events_of j e.items) ≡ (let e = b.journal in events_of j e.items)
  written_now j = ap (λ l. events_of j l) h.journal

  other : (j : ℕ) (a : Activation FrameState) → (k ≡ j → ⊥) → Sits code p inputs name b s j a → Sits code p inputs name b' s j a
  other j a off o =
      let x = a.cursor in
      let f = o.frame in
      let e = b.journal in record {
        frame = o.frame;
        here = o.here;
        named = o.named;
        number = o.number;
        seen = carries.seen_on code p inputs name b b' s s on more a x f.what o.seen;
        creates = o.creates;
        creates_none = o.creates_none;
        stolen = o.stolen;
        children = o.children;
        last = λ some. let r = o.last some in (subst (λ z. x.last < z) (sym same_length) r.0, r.1);
        strands_are = o.strands_are;
        counted = o.counted;
        due = o.due;
        is_where = where_else j (name j) f.deeds x x.status off o.is_where;
        block = λ going. block_else (name j) f.deeds x (o.block going);
        written = subst (λ es. AreDeeds p new_frame_states name s j f.deeds es) (sym (written_now j)) (carries.deeds_on old_frame_states new_frame_states on name p s s more j f.deeds (events_of j e.items) o.written);
      }

  -- ---- the frame's block

  abbrev block : JoinView
  block = let y = h.came in block_in y.join

  abbrev key : ℕ
  key = let y = h.came in y.children + 1

  abbrev piece : Product
  piece = let u = h.worker in product u.views

  abbrev block_now : JoinView
  block_now = arrived_at (let y = h.came in block_in y.join) (let y = h.came in y.children + 1) true (let u = h.worker in product u.views)

  block_is : block ≡ block_in frame_state.join
  block_is = ap (λ (y : FrameState). block_in y.join) kept

  key_is : key ≡ started past + 1
  key_is = let o = sh.sits k h.frame_state h.sits in ap (λ (y : FrameState). y.children + 1) kept ∙ ap (λ n. n + 1) (sym o.children)

  kept_before : Keeps code p inputs name b s (name k) past block
  kept_before =
      let o = sh.sits k h.frame_state h.sits in
      ⊎_elim (λ g. let e : block ≡ opening = block_is ∙ ap (λ z. block_in z) g.0 in subst (λ j. Keeps code p inputs name b s (name k) past j) (sym e) (opening_keeps code p inputs name b s (name k) past g.1))
      (λ g. let l = g.0 in let e : block ≡ shown l.value = block_is ∙ block_of frame_state.join g.0 g.1 in
      ⊎_elim (λ m. absurd (true≢false (sym m ∙ h.unmerged))) (λ z. subst (λ j. Keeps code p inputs name b s (name k) past j) (sym e) z.0) g.2)
      (o.block was.4)

  open_before : block.closed ≡ false
  open_before =
      let o = sh.sits k h.frame_state h.sits in
      ⊎_elim (λ g. let e : block ≡ opening = block_is ∙ ap (λ z. block_in z) g.0 in ap (λ (j : JoinView). j.closed) e)
      (λ g. let l = g.0 in let e : block ≡ shown l.value = block_is ∙ block_of frame_state.join g.0 g.1 in
      ⊎_elim (λ m. absurd (true≢false (sym m ∙ h.unmerged))) (λ z. ap (λ (j : JoinView). j.closed) e ∙ open_one (shown l.value) z.1) g.2)
      (o.block was.4)
    where
      open_one : (j : JoinView) → (j.closed ≡ true → frame_state.status ≡ Waiting) → j.closed ≡ false
      open_one j g = ⊎_elim (λ q. let z : Held w ≡ Waiting = sym status_was ∙ g q in let f : ⊥ = cc in absurd f) (λ f. f) (cases_Bool j.closed)

  -- the worker's views are the frame's own piece
  piece_is : (i : Instance) (j : numbered.Instance) → IsInstance p old_frame_states name i j → IsViewOf (kind_of i) (s.piece (name k) i) (piece (kind_of i) j)
  piece_is i j is =
      let g = sh.holds w k h.worker h.at h.has in
      let u = h.worker in
      let same : g.frame_state ≡ h.frame_state = (let q : Some g.frame_state ≡ Some h.frame_state = sym g.here ∙ h.sits in cc) in
      let merged : (let a = g.frame_state in let y = a.cursor in y.merged) ≡ false = ap (λ (a : Activation FrameState). let y = a.cursor in y.merged) same ∙ h.unmerged in
      subst (λ v. IsViewOf (kind_of i) v (value_in u.views (kind_of i) j)) (plain (monoid_of i) (λ m. s.piece m i) s.stolen (name k) (deeds_at (s.frames (name k))) (let a = g.frame_state in let y = a.cursor in y.merged) merged quiet) (g.views i j is)

  abbrev listed : List ℕ
  listed = stolen_at_block code p inputs name b s (name k) (let f = (let o = sh.sits k h.frame_state h.sits in o.frame) in f.deeds)

  lays_now : (i : Instance) (q : numbered.Instance) → IsInstance p old_frame_states name i q → let r = block_now.row in
      Lays (kind_of i) (λ z. s.piece (name k ++ z ∷ []) i) (is_there code p inputs name b s (name k)) (s.piece (name k) i) (unit_of monoid_of i) listed (run_at (kind_of i) q r.run) (waits_at (kind_of i) q r.waits)
  lays_now i q is =
      let kb = kept_before in
      let r = block.row in
      let kind = kind_of i in
      let one = subst (λ c. Lays kind (λ z. s.piece (name k ++ z ∷ []) i) (is_there code p inputs name b s (name k)) (cond c (s.piece (name k) i) (unit_of monoid_of i)) (unit_of monoid_of i) listed (run_at kind q r.run) (waits_at kind q r.waits)) open_before (kb.lays i q is) in
      let two = blocks.closes kind (λ z. s.piece (name k ++ z ∷ []) i) (is_there code p inputs name b s (name k)) (unit_of monoid_of i) listed (run_at kind q r.run) (waits_at kind q r.waits) key (s.piece (name k) i) (piece kind q) (piece_is i q is)
      (not_among (λ z. s.stolen (name k ++ z ∷ [])) 1 [] past key (let e = key_is in omega (arith, e)) tt) one in
      subst (λ (y : Row ViewValue). Lays kind (λ z. s.piece (name k ++ z ∷ []) i) (is_there code p inputs name b s (name k)) (s.piece (name k) i) (unit_of monoid_of i) listed y.run y.waits) (placed_row kind q r.run r.waits key piece) two

  kept_now : Keeps code p inputs name b s (name k) past block_now
  kept_now =
      let kb = kept_before in
      let r = block.row in
      let g = sh.holds w k h.worker h.at h.has in
      let z = placed_bare (length old_frame_states) r.run r.waits key piece kb.bare kb.bare_later g.bare in record {
        lays = lays_now;
        stolen = kb.stolen;
        arrived = λ c. absurd (true≢false c);
        bare = z.0;
        bare_later = z.1;
      }

  -- one of the stolen children is still to come
  unfinished : ¬ (BlockIsOver s (name k))
  unfinished over =
      let r = block_now.row in
      let some : is_empty (waits_at (kind_of Output) (record { frame = 0; place = 0 }) r.waits) ≡ false = empty_at (kind_of Output) (record { frame = 0; place = 0 }) r.waits ∙ (let a = h.arrives in a.0) in
      let q = awaited_one (kind_of Output) (λ z. s.piece (name k ++ z ∷ []) Output) (is_there code p inputs name b s (name k)) (s.piece (name k) Output) (unit_of monoid_of Output) listed (run_at (kind_of Output) (record { frame = 0; place = 0 }) r.run) (waits_at (kind_of Output) (record { frame = 0; place = 0 }) r.waits)
      (lays_now Output (record { frame = 0; place = 0 }) (refl, refl)) some in
      let y = ⊎_elim (λ a. absurd a.0) (λ a. a) (split (λ z. s.stolen (name k ++ z ∷ [])) 1 [] past q.0 q.1) in
      let e = over y.0 y.1 y.2 (ap (λ f. deeds_at f) here ∙ y.3) y.4 in
      let at : q.0 ≡ suc (started y.0) = (let n = y.5 in omega (arith, n)) in
      true≢false (sym (has_end s (name k ++ suc (started y.0) ∷ []) e) ∙ ap (λ z. is_there code p inputs name b s (name k) z) (sym at) ∙ q.2)

  shut : {Z : Type 0} (o : Option (Box Join Z)) (j : JoinView) → block_in o ≡ j → j.closed ≡ true → (l : Box Join Z) × (o ≡ Some l) × (shown l.value ≡ j)
  shut None j e c = absurd (true≢false (sym c ∙ sym (ap (λ (y : JoinView). y.closed) e)))
  shut (Some l) j e c = (l, refl, e)

  itself : Sits code p inputs name b' s k now
  itself =
      let o = sh.sits k h.frame_state h.sits in
      let f = o.frame in
      let e = b.journal in
      let a = h.arrives in
      let l = shut (let z = h.after in z.join) block_now a.1 refl in
      let c : (let y = shown (let x = l.0 in x.value) in y.closed) ≡ true = ap (λ (y : JoinView). y.closed) l.2 in record {
        frame = o.frame;
        here = o.here;
        named = o.named;
        number = o.number;
        seen = carries.seen_on code p inputs name b b' s s on more h.frame_state behind f.what o.seen;
        creates = o.creates;
        creates_none = o.creates_none;
        stolen = o.stolen;
        children = o.children;
        last = λ some. let r = o.last some in (subst (λ z. frame_state.last < z) (sym same_length) r.0, r.1);
        strands_are = o.strands_are;
        counted = o.counted;
        due = λ going. now_due;
        is_where = (refl, l.0, l.1, c, unfinished, was.3, was.4, h.unmerged);
        block = λ going. inr (l.0, l.1, inr (keeps_same (name k) past (shown (let x = l.0 in x.value)) (subst (λ z. Keeps code p inputs name b s (name k) past z) (sym l.2) kept_now), (λ q. refl)));
        written = subst (λ es. AreDeeds p new_frame_states name s k f.deeds es) (sym (written_now k)) (carries.deeds_on old_frame_states new_frame_states on name p s s more k f.deeds (events_of k e.items) o.written);
      }

  frame_states_sit : (j : ℕ) (a : Activation FrameState) → slice_get new_frame_states j ≡ Some a → Sits code p inputs name b' s j a
  frame_states_sit j a at = by (which j a at)
    where
      by : Which j a → Sits code p inputs name b' s j a
      by (behind_is same is) = subst (λ i. Sits code p inputs name b' s i a) same (subst (λ z. Sits code p inputs name b' s k z) is itself)
      by (stays ne at') = other j a ne (sh.sits j a at')

  -- a frame that a worker holds is another
  still_holds : (v j : ℕ) (u : Worker) → slice_get new_workers v ≡ Some u → u.frame ≡ Some j → Holds code p inputs name b' s v u j
  still_holds v j u at has =
      let r = worker_was v u at in
      ⊎_elim (λ y. let no : None ≡ Some j = ap (λ (z : Worker). z.frame) (sym y.1) ∙ has in let f : ⊥ = cc in absurd f)
      (λ y. subst (λ z. Holds code p inputs name b' s v z j) (sym y.1) (held r.0 y.0 (sh.holds v j r.0 r.1 (ap (λ (z : Worker). z.frame) (sym y.1) ∙ has)))) r.2
    where
      held : (z : Worker) → (w ≡ v → ⊥) → Holds code p inputs name b s v z j → Holds code p inputs name b' s v z j
      held z ne g =
          let off : k ≡ j → ⊥ = (λ e. let y : Some h.frame_state ≡ Some g.frame_state = sym h.sits ∙ ap (λ i. slice_get old_frame_states i) e ∙ g.here in let x : h.frame_state ≡ g.frame_state = cc in
          let z : Held w ≡ Held v = sym status_was ∙ ap (λ (a : Activation FrameState). let c = a.cursor in c.status) x ∙ g.held in ne (cc)) in record {
            frame_state = g.frame_state;
            here = else_at j off ∙ g.here;
            held = g.held;
            views = λ i q is. g.views i q (instance_back i q is);
            used = g.used;
            bare = subst (λ n. IsBare n (value_in z.views)) (sym same_length) g.bare;
          }

  -- ---- the worker table

  abbrev worker_table_now : WorkerTable
  worker_table_now = idle (record d { waiting = name k ∷ d.waiting }) w

  worker_table_is : IsWorkerTable code p inputs name b' worker_table_now
  worker_table_is =
      let o = sh.worker_table in record {
        hands = ap (λ hs. set hs w None) o.hands ∙ sym (altering.altered_set (idling h.views) (hand_of name) None old_workers w (λ u. refl)) ∙ ap (λ ws. map (hand_of name) ws) (sym h.workers);
        offered = o.offered ∙ sym (altering.altered_map (idling h.views) (offers_of name) old_workers w (λ u. refl)) ∙ ap (λ ws. map (offers_of name) ws) (sym h.workers);
        total = h.offered ∙ o.total ∙ ap (λ ns. sum ns) (sym (ap (λ ws. map (λ (u : Worker). let f = u.offered in length f.items) ws) h.workers ∙ altering.altered_map (idling h.views) (λ (u : Worker). let f = u.offered in length f.items) old_workers w (λ u. refl)));
        places = λ v q j u at has.
            let r = worker_was v u at in
            let g = o.places v q j r.0 r.1 (subst (λ f. slice_get f.items q ≡ Some j) (offers_same v r.0 u r.2) has) in
            let ne : k ≡ j → ⊥ = (λ e. let y : Some h.frame_state ≡ Some g.0 = sym h.sits ∙ ap (λ i. slice_get old_frame_states i) e ∙ g.1 in let x : h.frame_state ≡ g.0 = cc in
            let z : Held w ≡ Offered v = sym status_was ∙ ap (λ (a : Activation FrameState). let c = a.cursor in c.status) x ∙ g.2 in let f : ⊥ = cc in f) in
            (g.0, else_at j ne ∙ g.1, g.2);
        once = λ v q i j u at has also.
            let r = worker_was v u at in
            o.once v q i j r.0 r.1 (subst (λ f. slice_get f.items q ≡ Some j) (offers_same v r.0 u r.2) has) (subst (λ f. slice_get f.items i ≡ Some j) (offers_same v r.0 u r.2) also);
        waiting = waits_as;
        present = λ n is none. ⊎_elim (λ e. absent_back n none k low e) (λ y. o.present n y (absent_back n none)) is;
      }
    where
      waits_as : (j : ℕ) (a : Activation FrameState) → slice_get new_frame_states j ≡ Some a → ((let x = a.cursor in x.status ≡ Waiting) → IsIn (name j) (name k ∷ d.waiting)) × (IsIn (name j) (name k ∷ d.waiting) → let x = a.cursor in x.status ≡ Waiting)
      waits_as j a at = by (which j a at)
        where
          by : Which j a → ((let x = a.cursor in x.status ≡ Waiting) → IsIn (name j) (name k ∷ d.waiting)) × (IsIn (name j) (name k ∷ d.waiting) → let x = a.cursor in x.status ≡ Waiting)
          by (behind_is same is) = ((λ q. inl (ap name same)), (λ q. ap (λ (y : Activation FrameState). let x = y.cursor in x.status) (sym is)))
          by (stays ne at') =
              let o = sh.worker_table in
              let g = o.waiting j a at' in
              let t = sh.tells in
              let n = t.named in
              ((λ q. inr (g.0 q)), (λ q. ⊎_elim (λ e. absurd (ne (n.apart k j low (get_low old_frame_states j a at') e))) (λ y. g.1 y) q))

  -- ---- what is shown

  base_was : (j : ℕ) (a : Activation FrameState) → slice_get new_frame_states j ≡ Some a → (z : Activation FrameState) × (slice_get old_frame_states j ≡ Some z) × (a.base ≡ z.base)
  base_was j a at = let r = carries.carried_back old_frame_states new_frame_states on same_length j a at in (r.0, r.1, ap (λ (z : Activation FrameState). z.base) r.2)

  tells_is : Tells code p inputs name b' s
  tells_is =
      let o = sh.tells in
      let J : FrameState → FrameState = (λ y. let x = h.after in record y { status = x.status; due = x.due; cursor = x.cursor; took = x.took; join = x.join }) in
      let same : J frame_state ≡ h.after = sym (after_as ∙ ap (λ (x : FrameState). record frame_state { status = x.status; due = x.due; cursor = x.cursor; took = x.took; join = x.join }) (sym after_as)) in
      record {
        named = subst (λ l. AreNamed l name) (sym h.frames) (subst (λ l. AreNamed l name) (changed_known J (λ _. h.after) old_frame_states k h.frame_state h.sits same) (named_changed J old_frame_states k name (λ x. (refl, refl)) o.named));
        here = λ j a at. let z = frame_states_sit j a at in (z.frame, z.here, z.written);
        absent = λ n none. o.absent n (absent_back n none);
        joins = o.joins;
        going = λ z. o.going h.was_open;
        over = λ z at. let no : None ≡ Some z = sym h.was_open ∙ sym h.outcome ∙ at in let f : ⊥ = cc in absurd f;
        first = λ a at. let r = base_was 0 a at in subst (λ z. length p.openings ≤ z) (sym r.2) (o.first r.0 r.1);
        ascend = λ i j x y at at' less.
            let f = base_was i x at in
            let g = base_was j y at' in
            let old = o.ascend i j f.0 g.0 f.1 g.1 less in
            let u = f.2 in
            let v = g.2 in
            omega (arith, old, u, v);
      }

  shown_after : ShowsBy code p inputs name b' worker_table_now s
  shown_after = record {
    tells = tells_is;
    running = sh.running;
    sits = frame_states_sit;
    unstolen = λ n none. sh.unstolen n (absent_back n none);
    unwritten = λ n q none. sh.unwritten n q (absent_back n none);
    bare = λ n m q kind none there. sh.bare n m q kind (absent_back n none) (λ g. there (absent_on m g));
    memory = λ c n is. ap (λ l. slice_get l n) h.cells ∙ sh.memory c n (cell_back c n is);
    within = λ j x at.
        let f = base_was j x at in
        let old = sh.within j f.0 f.1 in
        let u = f.2 in
        let v = ap (λ (l : List ℤ). length l) h.cells in
        omega (arith, old, u, v);
    holds = still_holds;
    worker_table = worker_table_is;
    ticks = sh.ticks ∙ sym h.ticks;
    events = sh.events ∙ sym (ap (λ (l : List JournalEntry). length l) h.journal);
    frames = sh.frames ∙ sym same_length;
    cells = sh.cells ∙ sym (ap (λ (l : List ℤ). length l) h.cells);
    few_frames = sh.few_frames;
    few_cells = sh.few_cells;
    eventless = λ j far. let e = same_length in written_now j ∙ sh.eventless j (omega (arith, e, far));
  }

  hand_is : slice_get d.hands w ≡ Some (Some (name k))
  hand_is =
      let o = sh.worker_table in
      ap (λ hs. slice_get hs w) o.hands ∙ slice_get-map (hand_of name) old_workers w ∙ ap (λ u. option_map (hand_of name) u) h.at ∙ ap (λ f. Some (option_map name f)) h.has

  pub waited : (d' : WorkerTable) × Chooses p inputs s d (Run (suc w)) Waited s d' × ShowsBy code p inputs name b' d' s
  waited =
      let n = now_due in
      (worker_table_now, waits w (name k) frame hand_is (record { here = here; next = (let y = n.2 in y.2); goes_on = was.3 }) unfinished, shown_after)

pub waits_are_shown : (code : CodeView) (p : Source) (inputs : List ℤ) → WaitsAreShown code p inputs
waits_are_shown code p inputs name b b' d s w k sh quiet h = waited code p inputs name b b' d s w k sh quiet h
