-- A scheduler shows a state by other names too, where those of its frames are the same.
--
-- - `cell_as`, `instance_as`, `deeds_as`, `seen_as`: what names and numbers say;
-- - `keeps_as`, `block_as`, `sits_as`, `holds_as`: frames and workers;
-- - `shown_as`: the whole.
use Rattle.std.proofs.Common.{◌≡◌, inl, inr, ⊎_elim, ◌+◌, ◌<◌, ◌≤◌, ℕ, suc, true, ℤ, List, [], ◌∷◌, ◌++◌, length, map, slice_get, Option, Some, None, refl, sym, ap, ap₂, ◌∙◌, subst, arith}
use Rattle.std.specs.Option.{option_map}
use Rattle.cilk_types.specs.declared.event.Event.{Event}
use Rattle.cilk_types.specs.declared.event.Instance as numbered
use Rattle.cilk_types.specs.declared.invocation.Invocation.TheVariants.{Call, Spawn}
use Rattle.cilk_monoid.specs.declared.kind.MonoidKind.{MonoidKind}
use Rattle.cilk_program.proofs.Visible.{frame_more}
use Rattle.cilk_program.specs.Syntax.{Source}
use Rattle.cilk_lower.specs.Code.{CodeView}
use Rattle.cilk_frames.specs.declared.activation.Activation.{Activation}
use Rattle.cilk_hypermap.specs.Hypermap.{value_in}
use Rattle.cilk_join.specs.Joins.{JoinView}
use Rattle.cilk_join.specs.Waits.{shown}
use Rattle.cilk_determinacy.specs.Machine.{State, deeds_at}
use Rattle.cilk_determinacy.specs.Runs.{Name, Cell, Global, Own, Instance, Output, Reducer, Granted, Begins, Resumes, Creates, Updates, Sets, Values, Prints, Deed, Does, Invokes, Reads, Writes, Syncs, Ends, Passes}
use Rattle.cilk_determinacy.specs.Reducers.{View, kind_of, monoid_of}
use Rattle.cilk_determinacy.specs.FrameEnvViews.{IsViewOf}
use Rattle.cilk_determinacy.specs.FrameEnvs.{FrameEnv}
use Rattle.cilk_scheduler.specs.declared.scheduler.Scheduler.{Scheduler}
use Rattle.cilk_scheduler.specs.declared.frame_state.FrameState.{FrameState}
use Rattle.cilk_scheduler.specs.declared.frame_state.Worker.{Worker}
use Rattle.cilk_scheduler.specs.Schedulers.{carried, IsUsed, hand_of, is_there, offers_of, Seen, Keeps, HasBlock, IsWhere, Sits, Holds, IsWorkerTable, Tells, ShowsBy}
use Rattle.cilk_scheduler.specs.WorkerTables.{WorkerTable, IsIn}
use Rattle.cilk_scheduler.specs.Numbered.{AreNamed, IsAbsent, size_of, IsCell, IsInstance, IsMarked, IsDeed, AreDeeds, CellBoth, ReducerBoth, global_cell, global_both}
use Rattle.cilk_scheduler.proofs.Plain.{get_low}

map_same : {A : Type 0} (f g : Worker → A) (ws : List Worker) → ((v : ℕ) (u : Worker) → slice_get ws v ≡ Some u → f u ≡ g u) → map f ws ≡ map g ws
map_same f g [] each = refl
map_same f g (u ∷ ws) each = ap₂ (λ a l. a ∷ l) (each 0 u refl) (map_same f g ws (λ v y at. each (suc v) y at))

map_as : (f g : ℕ → Name) (ns : List ℕ) → ((q j : ℕ) → slice_get ns q ≡ Some j → f j ≡ g j) → map f ns ≡ map g ns
map_as f g [] each = refl
map_as f g (n ∷ ns) each = ap₂ (λ a l. a ∷ l) (each 0 n refl) (map_as f g ns (λ q j at. each (suc q) j at))

module _ (p : Source) (frames : List (Activation FrameState)) (s : State FrameEnv View) (name name' : ℕ → Name) (same : (j : ℕ) → j < length frames → name' j ≡ name j) where
  cell_as : (c : Cell) (n : ℕ) → IsCell p frames name s c n → IsCell p frames name' s c n
  cell_as (Global g) n h = h
  cell_as (Own m q) n h = (h.0, h.1, h.2, same h.0 (get_low frames h.0 h.1 h.2) ∙ h.3, h.4, h.5)

  instance_as : (i : Instance) (j : numbered.Instance) → IsInstance p frames name i j → IsInstance p frames name' i j
  instance_as Output j h = h
  instance_as (Reducer m q kind) j h = (h.0, h.1, same h.0 h.1 ∙ h.2, h.3, h.4)

  mark_as : (t : ℕ) (m : Granted) (e : Event) → IsMarked p frames name t m e → IsMarked p frames name' t m e
  mark_as t Begins e h = h
  mark_as t Resumes e h = h
  mark_as t (Creates i) e h = (h.0, instance_as i h.0 h.1, h.2)
  mark_as t (Updates i x) e h = (h.0, instance_as i h.0 h.1, h.2)
  mark_as t (Sets i x) e h = (h.0, instance_as i h.0 h.1, h.2)
  mark_as t (Values i v) e h = (h.0, instance_as i h.0 h.1, h.2)
  mark_as t (Prints x) e h = h

  deed_as : (t : ℕ) (d : Deed FrameEnv) (e : Event) → IsDeed p frames name s t d e → IsDeed p frames name' s t d e
  deed_as t (Does (Reads c v)) e h = (h.0, cell_as c h.0 h.1, h.2)
  deed_as t (Does (Writes c v)) e h = (h.0, cell_as c h.0 h.1, h.2)
  deed_as t (Does Syncs) e h = h
  deed_as t (Does (Ends v gone)) e h = h
  deed_as t (Does (Passes m)) e h = mark_as t m e h
  deed_as t (Invokes Call w) e h = (h.0, h.1, same h.0 h.1 ∙ h.2, h.3)
  deed_as t (Invokes Spawn w) e h = (h.0, h.1, same h.0 h.1 ∙ h.2, h.3)

  deeds_as : (t : ℕ) (ds : List (Deed FrameEnv)) (es : List Event) → AreDeeds p frames name s t ds es → AreDeeds p frames name' s t ds es
  deeds_as t [] [] h = tt
  deeds_as t [] (e ∷ es) h = absurd h
  deeds_as t (d ∷ ds) [] h = absurd h
  deeds_as t (d ∷ ds) (e ∷ es) h = (deed_as t d e h.0, deeds_as t ds es h.1)

  absent_as : (n : Name) → IsAbsent frames name n → IsAbsent frames name' n
  absent_as n none j low e = none j low (sym (same j low) ∙ e)

module _ (code : CodeView) (p : Source) (inputs : List ℤ) (b : Scheduler) (s : State FrameEnv View) (name name' : ℕ → Name) (same : (j : ℕ) → (let f = b.frames in j < length f.items) → name' j ≡ name j) where
  abbrev frame_states : List (Activation FrameState)
  frame_states = let f = b.frames in f.items

  abbrev also : (j : ℕ) → (let f = b.frames in j < length f.items) → name j ≡ name' j
  also j low = sym (same j low)

  instance_back : (i : Instance) (j : numbered.Instance) → IsInstance p frame_states name' i j → IsInstance p frame_states name i j
  instance_back = instance_as p frame_states s name' name also

  absent_back : (n : Name) → IsAbsent frame_states name' n → IsAbsent frame_states name n
  absent_back = absent_as p frame_states s name' name also

  seen_as : (a : Activation FrameState) (v : FrameEnv) → Seen code p inputs name b s a v → Seen code p inputs name' b s a v
  seen_as a v h = record {
    scope = h.scope;
    target = h.target;
    names = h.names;
    numbers = h.numbers;
    goes_to = h.goes_to;
    lies_at = h.lies_at;
    sees = frame_more p global_cell global_both (λ (c : CellBoth). IsCell p frame_states name s c.0 c.1) (λ (c : CellBoth). IsCell p frame_states name' s c.0 c.1)
        (λ (r : ReducerBoth) (q : MonoidKind). (kind_of (r.0 q) ≡ q) × IsInstance p frame_states name (r.0 q) r.1) (λ (r : ReducerBoth) (q : MonoidKind). (kind_of (r.0 q) ≡ q) × IsInstance p frame_states name' (r.0 q) r.1)
        (λ c g. cell_as p frame_states s name name' same c.0 c.1 g) (λ r q g. (g.0, instance_as p frame_states s name name' same (r.0 q) r.1 g.1)) v.callee h.scope h.target h.sees;
  }

  keeps_as : (n : Name) (ds : List (Deed FrameEnv)) (j : JoinView) → Keeps code p inputs name b s n ds j → Keeps code p inputs name' b s n ds j
  keeps_as n ds j h = record { lays = λ i q is. h.lays i q (instance_back i q is); stolen = h.stolen; arrived = h.arrived; bare = h.bare; bare_later = h.bare_later }

  block_as : (n : Name) (ds : List (Deed FrameEnv)) (x : FrameState) → HasBlock code p inputs name b s n ds x → HasBlock code p inputs name' b s n ds x
  block_as n ds x (inl h) = inl h
  block_as n ds x (inr h) = let l = h.0 in inr (h.0, h.1, ⊎_elim (λ m. inl m) (λ g. inr (keeps_as n ds (shown l.value) g.0, g.1)) h.2)

  sits_as : (k : ℕ) (x : Activation FrameState) → slice_get frame_states k ≡ Some x → Sits code p inputs name b s k x → Sits code p inputs name' b s k x
  sits_as k x at o =
      let y = x.cursor in
      let f = o.frame in
      let e = b.journal in
      let is = same k (get_low frame_states k x at) in record {
        frame = o.frame;
        here = ap s.frames is ∙ o.here;
        named = o.named ∙ sym is;
        number = o.number;
        seen = seen_as x f.what o.seen;
        creates = o.creates;
        creates_none = o.creates_none;
        stolen = ap s.stolen is ∙ o.stolen;
        children = o.children;
        last = λ some. let r = o.last some in (r.0, same y.last r.0 ∙ r.1 ∙ ap (λ n. n ++ y.children ∷ []) (sym is));
        strands_are = o.strands_are;
        counted = o.counted;
        due = o.due;
        is_where = subst (λ n. IsWhere code p inputs name b s k n f.deeds y y.status) (sym is) o.is_where;
        block = λ going. subst (λ n. HasBlock code p inputs name' b s n f.deeds y) (sym is) (block_as (name k) f.deeds y (o.block going));
        written = deeds_as p frame_states s name name' same k f.deeds _ o.written;
      }

  holds_as : (w k : ℕ) (u : Worker) → Holds code p inputs name b s w u k → Holds code p inputs name' b s w u k
  holds_as w k u h =
      let a = h.frame_state in
      let y = a.cursor in
      let is = same k (get_low frame_states k h.frame_state h.here) in record {
        frame_state = h.frame_state;
        here = h.here;
        held = h.held;
        views = λ i j at.
            subst (λ n. IsViewOf (kind_of i) (carried (monoid_of i) (λ m. s.piece m i) s.stolen n (deeds_at (s.frames n)) y.merged) (value_in u.views (kind_of i) j)) (sym is) (h.views i j (instance_back i j at));
        used = subst (λ n. (q : ℕ) → IsUsed s.stolen n (deeds_at (s.frames n)) y.merged q → is_there code p inputs name b s n q ≡ true) (sym is) h.used;
        bare = h.bare;
      }

  module _ (d : WorkerTable) (sh : ShowsBy code p inputs name b d s) where
    abbrev workers : List Worker
    workers = let l = b.workers in l.items

    low_of : (k : ℕ) (x : Activation FrameState) → slice_get frame_states k ≡ Some x → k < length frame_states
    low_of k x at = get_low frame_states k x at

    hand_as : (v : ℕ) (u : Worker) → slice_get workers v ≡ Some u → hand_of name u ≡ hand_of name' u
    hand_as v u at = by u.frame refl
      where
        by : (o : Option ℕ) → u.frame ≡ o → option_map name o ≡ option_map name' o
        by None e = refl
        by (Some j) e = let g = sh.holds v j u at e in ap Some (also j (low_of j g.frame_state g.here))

    offers_as : (v : ℕ) (u : Worker) → slice_get workers v ≡ Some u → offers_of name u ≡ offers_of name' u
    offers_as v u at = let o = u.offered in map_as name name' o.items (λ q j has. let z = sh.worker_table in let g = z.places v q j u at has in also j (low_of j g.0 g.1))

    worker_table_as : IsWorkerTable code p inputs name' b d
    worker_table_as =
        let o = sh.worker_table in record {
          hands = o.hands ∙ map_same (hand_of name) (hand_of name') workers hand_as;
          offered = o.offered ∙ map_same (offers_of name) (offers_of name') workers offers_as;
          total = o.total;
          places = o.places;
          once = o.once;
          waiting = λ k x at.
              let g = o.waiting k x at in
              let is = same k (low_of k x at) in
              ((λ q. subst (λ n. IsIn n d.waiting) (sym is) (g.0 q)), (λ q. g.1 (subst (λ n. IsIn n d.waiting) is q)));
          present = λ n is none. o.present n is (absent_back n none);
        }

    named_as : AreNamed frame_states name → 0 < length frame_states → AreNamed frame_states name'
    named_as n some = record {
      root = same 0 some ∙ n.root;
      child = λ k x at.
          let r = n.child k x at in
          let y = x.cursor in
          let low = low_of (suc k) x at in
          let less = r.0 in
          (r.0, same (suc k) low ∙ r.1 ∙ ap (λ m. m ++ y.ordinal ∷ []) (also y.parent (omega (arith, low, less))));
      ordinal = n.ordinal;
      apart = λ j k lj lk e. n.apart j k lj lk (sym (same j lj) ∙ e ∙ same k lk);
    }

    tells_as : 0 < length frame_states → Tells code p inputs name' b s
    tells_as some =
        let o = sh.tells in record {
          named = named_as o.named some;
          here = λ k x at. let r = o.here k x at in (r.0, ap s.frames (same k (low_of k x at)) ∙ r.1, deeds_as p frame_states s name name' same k (let f = r.0 in f.deeds) _ r.2);
          absent = λ n none. o.absent n (absent_back n none);
          joins = o.joins;
          going = o.going;
          over = o.over;
          first = o.first;
          ascend = λ j k x y at at' less. subst (λ n. x.base + size_of p (s.frames n) ≤ y.base) (also j (low_of j x at)) (o.ascend j k x y at at' less);
        }

    pub shown_as : 0 < length frame_states → ShowsBy code p inputs name' b d s
    shown_as some = record {
      tells = tells_as some;
      running = sh.running;
      sits = λ k x at. sits_as k x at (sh.sits k x at);
      unstolen = λ n none. sh.unstolen n (absent_back n none);
      unwritten = λ n q none. sh.unwritten n q (absent_back n none);
      bare = λ n m q kind none there. sh.bare n m q kind (absent_back n none) (λ g. there (absent_as p frame_states s name name' same m g));
      memory = λ c n is. sh.memory c n (cell_as p frame_states s name' name also c n is);
      within = λ k x at. subst (λ n. let l = b.cells in x.base + size_of p (s.frames n) ≤ length l.items) (also k (low_of k x at)) (sh.within k x at);
      holds = λ w k u at has. holds_as w k u (sh.holds w k u at has);
      worker_table = worker_table_as;
      ticks = sh.ticks;
      events = sh.events;
      frames = sh.frames;
      cells = sh.cells;
      few_frames = sh.few_frames;
      few_cells = sh.few_cells;
      eventless = sh.eventless;
    }
