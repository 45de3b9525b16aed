-- A request that starts and ends no frame and no block is a step of the free machine.
--
-- - `kept_by`, `standing`: the frame's state after it continues, and the place of its cursor;
-- - `named_as`, `no_fault`, `makes`: the step of the free machine;
-- - `done`: the choice, and that the scheduler shows the result.
use Rattle.std.proofs.Common.{◌≡◌, ⊎_elim, ◌+◌, ◌-◌, ◌<◌, ◌≤◌, ℕ, zero, suc, Bool, true, false, cond, ℤ, List, [], ◌∷◌, ◌++◌, length, map, slice_get, Option, Some, None, refl, sym, ap, ap₂, ◌∙◌, subst, arith}
use Rattle.std.proofs.lemmas.Bool.{cases_Bool}
use Rattle.std.specs.Option.{option_map}
use Rattle.cilk_types.specs.declared.event.Event as numbered_event
use Rattle.cilk_types.specs.declared.event.Instance as numbered
use Rattle.cilk_types.specs.declared.invocation.Invocation.TheVariants.{Call, Spawn}
use Rattle.cilk_types.specs.declared.limits.TheConstants.{MAX_TICKS}
use Rattle.cilk_monoid.specs.declared.kind.MonoidKind.{MonoidKind}
use Rattle.cilk_program.specs.declared.ask.Ask as language
use Rattle.cilk_program.specs.declared.ask.Ask.TheVariants as asks
use Rattle.cilk_program.specs.Syntax.{Source}
use Rattle.cilk_lower.specs.Code.{CodeView}
use Rattle.cilk_lower.specs.Layout.{LaysOut}
use Rattle.cilk_frames.specs.Cursor.{CursorView}
use Rattle.cilk_frames.specs.Following.{Fits, HasAnswer, Stands, owed_for, word_in}
use Rattle.cilk_frames.specs.declared.cursor.Answer.{Answer}
use Rattle.cilk_frames.specs.declared.activation.Activation.{Activation}
use Rattle.cilk_hypermap.specs.Hypermap.{value_in}
use Rattle.cilk_hypermap.specs.declared.hypermap.Hypermap.{Hypermap}
use Rattle.cilk_determinacy.specs.Costs.{Total, TickTotal, EventTotal, FrameTotal, CellTotal, cost, fault_of, frame_cost, cells_of}
use Rattle.cilk_determinacy.specs.Machine.{Frame, State, started, strands, block_view, own_view, after_views, after_deed, deed_of, deeds_at, effect, joined_by, Makes}
use Rattle.cilk_determinacy.specs.Monoids.{numbers_of, unit_of}
use Rattle.cilk_determinacy.specs.Progress.{HasNext}
use Rattle.cilk_determinacy.specs.Runs.{Name, same_name, Cell, Own, Instance, Reducer, Ask, Invoke, Sync, End, Event, Deed, Does}
use Rattle.cilk_determinacy.proofs.Basics.{same_name-refl}
use Rattle.cilk_determinacy.proofs.Progress.{progress}
use Rattle.cilk_scheduler.specs.KeptCursors.{IsTold}
use Rattle.cilk_determinacy.specs.FrameEnvMachine.{answer_of, answers_of, costs, has_ended, named_ask, next, taken}
use Rattle.cilk_determinacy.specs.Reducers.{View, kind_of, monoid_of}
use Rattle.cilk_determinacy.specs.Steps.{Next}
use Rattle.cilk_determinacy.specs.FrameEnvViews.{IsViewOf}
use Rattle.cilk_determinacy.specs.FrameEnvs.{FrameEnv}
use Rattle.cilk_scheduler.proofs.KeptCursors.{next_is_named}
use Rattle.cilk_scheduler.specs.declared.scheduler.Scheduler.{Scheduler}
use Rattle.cilk_scheduler.specs.declared.choice.Choice.TheVariants.{Run}
use Rattle.cilk_scheduler.specs.declared.frame_state.Due.{Due}
use Rattle.cilk_scheduler.specs.declared.frame_state.Due.TheVariants as due
use Rattle.cilk_scheduler.specs.declared.frame_state.FrameState.{FrameState}
use Rattle.cilk_scheduler.specs.declared.frame_state.Status.TheVariants.{Held}
use Rattle.cilk_scheduler.specs.declared.frame_state.Worker.{Worker}
use Rattle.cilk_scheduler.specs.Asking.{WentOnFrom, refusal}
use Rattle.cilk_scheduler.specs.Schedulers.{carried, IsBare, IsDue, IsWhere, Sits, ShowsBy, hand_of}
use Rattle.cilk_scheduler.specs.WorkerTables.{WorkerTable, Did, Chooses, does, goes_on}
use Rattle.cilk_scheduler.specs.Numbered.{IsAbsent, IsCell, IsDeed, IsInstance}
use Rattle.cilk_scheduler.specs.FrameStates.{changed, counted}
use Rattle.cilk_scheduler.specs.Steps.{HasCome, IsDone, Notes}
use Rattle.cilk_scheduler.specs.Touching.{IsPlain, Touches, touched}
use Rattle.cilk_scheduler.proofs.Nexts.{named_next}
use Rattle.cilk_scheduler.proofs.Plain.{get_low}
use Rattle.cilk_scheduler.proofs.Refused.{refused_is}
use Rattle.cilk_scheduler.proofs.Touched.{shown_after}
use Rattle.cilk_scheduler.proofs.Within.{no_fault_then}

module _ (code : CodeView) (p : Source) (inputs : List ℤ) where
  pub kept_by : (x came : FrameState) (k : language.Ask) (d : Due) → WentOnFrom code inputs d x k came → came ≡ record x { cursor = came.cursor; took = came.took }
  kept_by x came k due.Begin h = subst (λ (z : FrameState). z ≡ record x { cursor = z.cursor; took = z.took }) (sym h.1) refl
  kept_by x came k (due.Answer a) h = subst (λ (z : FrameState). z ≡ record x { cursor = z.cursor; took = z.took }) (sym h.now) refl
  kept_by x came k due.Sync h = subst (λ (z : FrameState). z ≡ record x { cursor = z.cursor; took = z.took }) (sym h.1) refl

  -- the place of the cursor of a frame that has reached a request
  pub record Standing (w : FrameEnv) (past : List (Deed FrameEnv)) (came : FrameState) (k : language.Ask) : Type 0 where
    pub cursor : CursorView
    pub is : came.cursor ≡ Some cursor
    pub small : came.took ≤ MAX_TICKS
    pub stands : HasAnswer k → Stands code inputs p w.callee cursor (answers_of past) came.took
    pub owes : HasAnswer k → cursor.owed ≡ owed_for k

  pub standing : (w : FrameEnv) (past : List (Deed FrameEnv)) (x came : FrameState) (c : CursorView) (k : language.Ask) (d : Due) → has_ended past ≡ false → x.cursor ≡ Some c → IsDue code p inputs w past d c x.took → WentOnFrom code inputs d x k came → Standing w past came k
  standing w past x came c k due.Begin going at is h =
      let took : came.took ≡ 0 = ap (λ (y : FrameState). y.took) h.1 ∙ is.3 in record {
        cursor = c;
        is = ap (λ (y : FrameState). y.cursor) h.1 ∙ at;
        small = subst (λ n. n ≤ MAX_TICKS) (sym took) (omega arith);
        stands = λ has. subst (λ (ds : List (Deed FrameEnv)). Stands code inputs p w.callee c (answers_of ds) came.took) (sym is.0) (subst (λ n. Stands code inputs p w.callee c [] n) (sym took) is.1);
        owes = λ has. is.2 ∙ sym (ap owed_for h.0);
      }
  standing w past x came c k (due.Answer a) going at told h =
      let same : h.before ≡ c = (let q : Some h.before ≡ Some c = sym h.was ∙ at in cc) in
      let told' : IsTold code p inputs w past h.before a x.took = subst (λ b. IsTold code p inputs w past b a x.took) (sym same) told in
      let goes = h.goes_on p w.callee (answers_of told'.past) x.took told'.stands in
      let n = next_is_named p inputs code w past h.before h.after a x.took h.left k told' going goes in
      let total : MAX_TICKS - h.left ≡ x.took + ((MAX_TICKS - x.took) - h.left) = (let small = told.small in let less = h.less in omega (arith, small, less)) in
      let took : came.took ≡ MAX_TICKS - h.left = ap (λ (y : FrameState). y.took) h.now in record {
        cursor = h.after;
        is = ap (λ (y : FrameState). y.cursor) h.now;
        small = omega (arith, took);
        stands = λ has. subst (λ n. Stands code inputs p w.callee h.after (answers_of past) n) (sym (took ∙ total)) (n.stands has);
        owes = λ has. goes.owes has;
      }
  standing w past x came c k due.Sync going at is h = record {
    cursor = c;
    is = ap (λ (y : FrameState). y.cursor) h.1 ∙ at;
    small = subst (λ n. n ≤ MAX_TICKS) (sym (ap (λ (y : FrameState). y.took) h.1)) is.4;
    stands = λ has. subst (λ n. Stands code inputs p w.callee c (answers_of past) n) (sym (ap (λ (y : FrameState). y.took) h.1)) is.0;
    owes = λ has. is.1 ∙ sym (ap owed_for h.0);
  }

  module _ (name : ℕ → Name) (b : Scheduler) (d : WorkerTable) (s : State FrameEnv View) (w k : ℕ) (ask : language.Ask) (lays : LaysOut p code.layout) (sh : ShowsBy code p inputs name b d s) (h : HasCome code p inputs b w k ask) (no_sync : ask ≡ asks.Sync → ⊥) where
    abbrev x : FrameState
    x = let a = h.frame_state in a.cursor

    abbrev frame : Frame FrameEnv
    frame = let o = sh.sits k h.frame_state h.sits in o.frame

    abbrev what : FrameEnv
    what = let f = (let o = sh.sits k h.frame_state h.sits in o.frame) in f.what

    abbrev past : List (Deed FrameEnv)
    past = let f = (let o = sh.sits k h.frame_state h.sits in o.frame) in f.deeds

    abbrev named : Ask FrameEnv
    named = named_ask p what (suc (started past)) ask

    sits : Sits code p inputs name b s k h.frame_state
    sits = sh.sits k h.frame_state h.sits

    pub here : s.frames (name k) ≡ Some frame
    here = let o = sh.sits k h.frame_state h.sits in o.here

    status_is : x.status ≡ Held w
    status_is =
        let g = sh.holds w k h.worker h.at h.has in
        let same : g.frame_state ≡ h.frame_state = (let q : Some g.frame_state ≡ Some h.frame_state = sym g.here ∙ h.sits in cc) in
        ap (λ (a : Activation FrameState). let y = a.cursor in y.status) (sym same) ∙ g.held

    held : IsWhere code p inputs name b s k (name k) past x (Held w)
    held = let o = sh.sits k h.frame_state h.sits in subst (λ z. IsWhere code p inputs name b s k (name k) past x z) status_is o.is_where

    pub goes : has_ended past ≡ false
    goes = held.4

    pub unmerged : x.merged ≡ false
    unmerged = ⊎_elim (λ m. let g = held.5 m in absurd (no_sync (subst (λ z. WentOnFrom code inputs z x ask h.came) g.0 h.went).0)) (λ f. f) (cases_Bool x.merged)

    dues : (c : CursorView) × (x.cursor ≡ Some c) × IsDue code p inputs what past x.due c x.took
    dues = let o = sh.sits k h.frame_state h.sits in o.due goes

    pub named_as : (next p inputs what past ≡ Some named) × ((let y = h.came in y.took) ≡ taken p inputs what past)
    named_as = named_next code p inputs what past x h.came dues.0 ask goes dues.1 dues.2 h.went

    pub stands_at : Standing what past h.came ask
    stands_at = standing what past x h.came dues.0 ask x.due goes dues.1 dues.2 h.went

    pub kept : h.came ≡ (let y = h.came in record x { cursor = y.cursor; took = y.took })
    kept = kept_by x h.came ask x.due h.went

    abbrev spent : ℕ
    spent = let y = h.came in b.ticks + (y.took - y.counted)

    pub spent_is : spent ≡ (let C = costs p inputs in s.totals TickTotal + C.ticks what past)
    spent_is =
        let o = sh.sits k h.frame_state h.sits in
        ap₂ (λ n m. n + m) (sym sh.ticks) (ap₂ (λ n m. n - m) named_as.1 (ap (λ (y : FrameState). y.counted) kept ∙ o.counted))

    pub no_fault : fault_of (costs p inputs) s.totals what past named ≡ None
    no_fault =
        let e = b.journal in
        let f = b.frames in
        let c = b.cells in
        sym (refused_is p inputs code.layout what past ask s.totals spent spent_is sh.few_frames sh.few_cells lays.cells)
        ∙ subst (λ n. refusal spent n (s.totals FrameTotal) (s.totals CellTotal) code.layout ask ≡ None) (sym sh.events)
        (subst (λ n. refusal spent (length e.items) n (s.totals CellTotal) code.layout ask ≡ None) (sym sh.frames) (subst (λ n. refusal spent (length e.items) (length f.items) n code.layout ask ≡ None) (sym sh.cells) h.accepted))

    -- the free machine's step, where the request is no sync by name either
    pub makes : (named ≡ Sync → ⊥) → HasNext FrameEnv View monoid_of (Next p inputs) (costs p inputs) s (name k) frame named
    makes other =
        let P = progress FrameEnv View monoid_of (Next p inputs) (costs p inputs) in
        let fine = no_fault_then (costs p inputs) s.totals what past named no_fault in
        P.goes_on s (name k) frame named sh.running (record { here = here; next = named_as.0; goes_on = held.3; block = λ q. absurd (other q) }) fine.0 fine.1

    pub hand_is : slice_get d.hands w ≡ Some (Some (name k))
    hand_is =
        let o = sh.worker_table in
        let l = b.workers in
        ap (λ hs. slice_get hs w) o.hands ∙ mapped l.items w h.at
      where
        mapped : (ws : List Worker) (v : ℕ) → slice_get ws v ≡ Some h.worker → slice_get (map (hand_of name) ws) v ≡ Some (Some (name k))
        mapped [] v q = let no : None ≡ Some h.worker = q in let z : ⊥ = cc in absurd z
        mapped (u ∷ ws) zero q = let same : u ≡ h.worker = (let z : Some u ≡ Some h.worker = q in cc) in ap (λ (y : Worker). Some (option_map name y.frame)) same ∙ ap (λ o. Some (option_map name o)) h.has
        mapped (u ∷ ws) (suc v) q = mapped ws v q

    -- the view that the frame continues with is the worker's
    pub carries : (i : Instance) (j : numbered.Instance) → (let f = b.frames in IsInstance p f.items name i j) → IsViewOf (kind_of i) (carried (monoid_of i) (λ m. s.piece m i) s.stolen (name k) past false) (let u = h.worker in value_in u.views (kind_of i) j)
    carries i j is =
        let g = sh.holds w k h.worker h.at h.has in
        let u = h.worker in
        let same : g.frame_state ≡ h.frame_state = (let q : Some g.frame_state ≡ Some h.frame_state = sym g.here ∙ h.sits in cc) in
        let merged : (let a = g.frame_state in let y = a.cursor in y.merged) ≡ false = ap (λ (a : Activation FrameState). let y = a.cursor in y.merged) same ∙ unmerged in
        subst (λ f. IsViewOf (kind_of i) (carried (monoid_of i) (λ m. s.piece m i) s.stolen (name k) (deeds_at f) false) (value_in u.views (kind_of i) j)) here
        (subst (λ t. IsViewOf (kind_of i) (carried (monoid_of i) (λ m. s.piece m i) s.stolen (name k) (deeds_at (s.frames (name k))) t) (value_in u.views (kind_of i) j)) merged (g.views i j is))

    pub bare_now : (let f = b.frames in let u = h.worker in IsBare (length f.items) (value_in u.views))
    bare_now = let g = sh.holds w k h.worker h.at h.has in g.bare

    pub strands_now : strands past ≡ (let y = h.came in y.strands)
    strands_now = let o = sh.sits k h.frame_state h.sits in o.strands_are ∙ sym (ap (λ (y : FrameState). y.strands) kept)

    pub low : (let f = b.frames in k < length f.items)
    low = let f = b.frames in get_low f.items k h.frame_state h.sits

    -- The event, and the scheduler after it.
    module _ (b' : Scheduler) (e : Event) (begun : ℕ) (answer : Answer) (next_frame_state : FrameState) (event : numbered_event.Event) (cells : List ℤ) (views : Hypermap) (notes : Notes code p inputs b b' w k h.came next_frame_state event cells views)
        (deed_is : deed_of s.memory (numbers_of monoid_of (s.piece (name k))) named ≡ Does e) (is_plain : IsPlain e) (no_joins : joined_by named (name k) past ≡ []) (no_frame : frame_cost named ≡ 0) (no_cells : (let C = costs p inputs in cells_of C.cells named) ≡ 0)
        (not_sync : named ≡ Sync → ⊥) (not_call : (v : FrameEnv) → named ≡ Invoke Call v → ⊥) (not_spawn : (v : FrameEnv) → named ≡ Invoke Spawn v → ⊥) (not_end : (v : ℤ) (gone : List Instance) → named ≡ End v gone → ⊥)
        (next_is : next_frame_state ≡ (let y = h.came in record y { strands = begun; due = due.Answer answer })) (has_answer : HasAnswer ask) (fits : Fits (owed_for ask) answer) (answers : word_in answer ≡ answer_of (Does e))
        (strands_are : strands (past ++ Does e ∷ []) ≡ begun) (means : (let f = b.frames in IsDeed p f.items name s k (Does e) event))
        (same_cells : (let c = b.cells in length cells ≡ length c.items)) (memory_is : (c : Cell) (n : ℕ) → (let f = b.frames in IsCell p f.items name s c n) → slice_get cells n ≡ Some (effect {W = FrameEnv} (Does e) c (s.memory c)))
        (blank : (n : Name) (q : ℕ) → (let f = b.frames in IsAbsent f.items name n) → effect {W = FrameEnv} (Does e) (Own n q) (s.memory (Own n q)) ≡ s.memory (Own n q))
        (piece : Instance → View) (piece_is : (i : Instance) → own_view (monoid_of i) i (block_view (monoid_of i) (λ q. s.piece (name k ++ q ∷ []) i) (λ q. s.stolen (name k ++ q ∷ [])) ((monoid_of i).unit) 1 past) (s.stolen (name k ++ started past ∷ [])) (s.piece (name k ++ started past ∷ []) i) e (s.piece (name k) i) ≡ piece i)
        (views_are : (i : Instance) (j : numbered.Instance) → (let f = b.frames in IsInstance p f.items name i j) → IsViewOf (kind_of i) (piece i) (value_in views (kind_of i) j))
        (bare_views : (let f = b.frames in IsBare (length f.items) (value_in views)))
        (bare : (n : Name) (q : ℕ) (kind : MonoidKind) → (let f = b.frames in IsAbsent f.items name n) → piece (Reducer n q kind) ≡ unit_of monoid_of (Reducer n q kind)) where
      module _ (s' : State FrameEnv View) (m : Makes FrameEnv View monoid_of (Next p inputs) (costs p inputs) s (name k) s') where
        frame_is : m.frame ≡ frame
        frame_is = let a = m.asking in let q : Some m.frame ≡ Some frame = sym a.here ∙ here in cc

        ask_is : m.ask ≡ named
        ask_is =
            let a = m.asking in
            let n : next p inputs what past ≡ Some m.ask = subst (λ (f : Frame FrameEnv). next p inputs f.what f.deeds ≡ Some m.ask) frame_is a.next in
            let q : Some m.ask ≡ Some named = sym n ∙ named_as.0 in
            cc

        deed : deed_of s.memory (numbers_of monoid_of (s.piece (name k))) m.ask ≡ Does e
        deed = ap (λ a. deed_of s.memory (numbers_of monoid_of (s.piece (name k))) a) ask_is ∙ deed_is

        piece_at : (i : Instance) (z : Name) → s'.piece z i ≡ after_views (monoid_of i) i s.stolen (name k) past (Does e) (λ y. s.piece y i) z
        piece_at i z = m.piece i z ∙ ap₂ (λ (f : Frame FrameEnv) x. after_views (monoid_of i) i s.stolen (name k) f.deeds x (λ y. s.piece y i) z) frame_is deed

        total_at : (total : Total) → s'.totals total ≡ s.totals total + cost (costs p inputs) total what past named
        total_at total = m.totals total ∙ ap₂ (λ (f : Frame FrameEnv) a. s.totals total + cost (costs p inputs) total f.what f.deeds a) frame_is ask_is

        next_now : counted next_frame_state ≡ touched true begun (let y = h.came in y.took) (let z = stands_at in z.cursor) answer x
        next_now =
            let z = stands_at in
            let y = h.came in
            ap counted next_is ∙ ap (λ (a : FrameState). counted (record a { strands = begun; due = due.Answer answer })) kept ∙ ap (λ o. touched_by o) z.is
          where
            touched_by : Option CursorView → FrameState
            touched_by o = let y = h.came in record x { strands = begun; took = y.took; counted = y.took; due = due.Answer answer; cursor = o }

        touches : Touches code p inputs name b b' s s' w k e (record { frame = k; event = event })
        touches =
            let z = stands_at in
            let y = h.came in record {
              worker = h.worker;
              frame_state = h.frame_state;
              frame = frame;
              at = h.at;
              has = h.has;
              sits = h.sits;
              here = here;
              same_block = true;
              unmerged = λ _. unmerged;
              goes = goes;
              is_plain = is_plain;
              frames = m.frames ∙ ap₂ (λ f a. after_deed s.frames (name k) f a) frame_is deed;
              stolen = m.stolen;
              joins = m.joins ∙ ap₂ (λ a (f : Frame FrameEnv). joined_by a (name k) f.deeds ++ s.joins) ask_is frame_is ∙ ap (λ l. l ++ s.joins) no_joins;
              running = m.stopped;
              others = λ i n off. piece_at i n ∙ rw off refl;
              begun = begun;
              took = y.took;
              cursor = z.cursor;
              answer = answer;
              frame_states_are = notes.frames ∙ same_change;
              told = record { past = past; last = Does e; deeds_are = refl; stands = z.stands has_answer; fits = subst (λ o. Fits o answer) (sym (z.owes has_answer)) fits; answers = answers; took_is = named_as.1; small = z.small };
              took_is = named_as.1;
              strands_are = strands_are;
              written = notes.journal;
              by_frame = refl;
              means = means;
              cells = ap (λ (l : List ℤ). length l) notes.cells_are ∙ same_cells;
              memory = λ c n is. ap (λ l. slice_get l n) notes.cells_are ∙ memory_is c n is ∙ ap (λ v. Some v) (sym (memory_at c));
              unwritten = λ n q none. memory_at (Own n q) ∙ blank n q none;
              views = views;
              workers_are = notes.workers;
              views_are = λ i j is. subst (λ v. IsViewOf (kind_of i) v (value_in views (kind_of i) j)) (sym (piece_here i)) (views_are i j is);
              bare_views = bare_views;
              bare = λ n q kind none. piece_here (Reducer n q kind) ∙ bare n q kind none;
              offered = notes.offered;
              was_open = h.was_open;
              is_open = notes.outcome ∙ h.was_open;
              ticks = total_at TickTotal ∙ sym spent_is ∙ sym notes.ticks;
              events = total_at EventTotal;
              frame_total = total_at FrameTotal ∙ ap (λ n. s.totals FrameTotal + n) no_frame ∙ omega arith;
              cell_total = total_at CellTotal ∙ ap (λ n. s.totals CellTotal + n) no_cells ∙ omega arith;
            }
          where
            memory_at : (c : Cell) → s'.memory c ≡ effect {W = FrameEnv} (Does e) c (s.memory c)
            memory_at c = ap (λ t. t c) m.memory ∙ ap (λ a. effect a c (s.memory c)) deed

            piece_here : (i : Instance) → s'.piece (name k) i ≡ piece i
            piece_here i = piece_at i (name k) ∙ at_name (same_name (name k) (name k)) (same_name-refl (name k)) _ _ ∙ piece_is i
              where
                at_name : (t : Bool) → t ≡ true → (u v : View) → cond t u v ≡ u
                at_name t q u v = rw q refl

            same_change : (let f = b.frames in changed (λ _. counted next_frame_state) f.items k ≡ changed (touched true begun (let y = h.came in y.took) (let z = stands_at in z.cursor) answer) f.items k)
            same_change = let f = b.frames in by f.items k h.sits
              where
                by : (list : List (Activation FrameState)) (j : ℕ) → slice_get list j ≡ Some h.frame_state → changed (λ _. counted next_frame_state) list j ≡ changed (touched true begun (let y = h.came in y.took) (let z = stands_at in z.cursor) answer) list j
                by [] j q = refl
                by (a ∷ list) zero q =
                    let same : h.frame_state ≡ a = (let g : Some a ≡ Some h.frame_state = q in cc) in
                    let C : FrameState → Activation FrameState = (λ y. record a { cursor = y }) in
                    ap (λ y. C y ∷ list) (next_now ∙ ap (λ (g : Activation FrameState). touched true begun (let y = h.came in y.took) (let z = stands_at in z.cursor) answer g.cursor) same)
                by (a ∷ list) (suc j) q = ap (λ l. a ∷ l) (by list j q)

        shown_then : ShowsBy code p inputs name b' d s'
        shown_then = shown_after code p inputs name b b' d s s' w k e (record { frame = k; event = event }) sh touches

        settles : Chooses p inputs s d (Run (suc w)) Did s' d
        settles =
            does w (name k) s' d hand_is m
            (goes_on m.ask (λ v q. not_call v (sym ask_is ∙ q)) (λ v q. not_spawn v (sym ask_is ∙ q)) (λ v gone q. not_end v gone (sym ask_is ∙ q)))

      pub done : IsDone code p inputs name b' d s w
      done = let n = makes not_sync in (n.after, settles n.after n.makes, shown_then n.after n.makes)
