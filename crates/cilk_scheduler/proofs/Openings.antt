-- A new scheduler shows the first state.
--
-- - `openings_fit`: what is used before the first event;
-- - `openings_are_shown`: the law.
use Rattle.std.proofs.Common.{◌≡◌, inl, inr, ◌+◌, ◌<◌, ◌≤◌, IsTrue, ℕ, zero, suc, Bool, true, false, true≢false, ℤ, pos, List, [], ◌∷◌, ◌++◌, length, map, replicate, slice_get, sum, unwrap_or, Option, Some, None, refl, sym, ap, ap₂, ◌∙◌, subst, arith}
use Rattle.std.proofs.lemmas.List.Sums.{sum_by-cons}
use Rattle.cilk_types.specs.declared.event.Instance as numbered
use Rattle.cilk_types.specs.declared.limits.TheConstants.{MAX_CELLS, MAX_FRAMES}
use Rattle.cilk_monoid.specs.Kinds.{structure_of}
use Rattle.cilk_monoid.specs.declared.kind.MonoidKind.{MonoidKind}
use Rattle.cilk_program.proofs.Naming.{well_named_parts}
use Rattle.cilk_program.proofs.Visible.{root_sees}
use Rattle.cilk_program.specs.declared.ask.Callee.TheVariants as callees
use Rattle.cilk_program.specs.Scopes.{Home}
use Rattle.cilk_program.specs.SerialRun.{cells_of, first_place}
use Rattle.cilk_program.specs.Syntax.{Source, main_of}
use Rattle.cilk_program.specs.WellNamed.{is_kind, is_well_named}
use Rattle.cilk_lower.specs.Code.{CodeView}
use Rattle.cilk_lower.specs.Layout.{LaysOut, function_frame}
use Rattle.cilk_frames.specs.declared.activation.Activation.{Activation}
use Rattle.cilk_hypermap.specs.Hypermap.{view_in, value_in}
use Rattle.cilk_hypermap.specs.Views.{or_unit}
use Rattle.cilk_hypermap.proofs.Merges.{each_kind}
use Rattle.cilk_determinacy.specs.Cuts.{times, joined_at}
use Rattle.cilk_determinacy.specs.Costs.{TickTotal, EventTotal, FrameTotal, CellTotal}
use Rattle.cilk_determinacy.specs.Machine.{Frame, State, HasEnd, IsOpening, begun, deeds_at}
use Rattle.cilk_determinacy.specs.Monoids.{unit_of}
use Rattle.cilk_determinacy.specs.Progress.{AtBegin}
use Rattle.cilk_determinacy.specs.Runs.{Name, same_name, Cell, Global, Own, Instance, Reducer, Deed}
use Rattle.cilk_determinacy.proofs.Basics.{same_name-refl, same_name-eq}
use Rattle.cilk_determinacy.proofs.Progress.{progress}
use Rattle.cilk_determinacy.specs.FrameEnvMachine.{costs, opening_values}
use Rattle.cilk_determinacy.specs.Reducers.{View, kind_of, monoid_of}
use Rattle.cilk_determinacy.specs.Steps.{Next}
use Rattle.cilk_determinacy.specs.FrameEnvViews.{IsViewOf}
use Rattle.cilk_determinacy.specs.FrameEnvs.{FrameEnv, first_env, own_named}
use Rattle.cilk_determinacy.proofs.FrameEnvViews.{are_multiplied}
use Rattle.cilk_scheduler.specs.declared.scheduler.Scheduler.{Scheduler}
use Rattle.cilk_scheduler.specs.declared.frame_state.Due.TheVariants as due
use Rattle.cilk_scheduler.specs.declared.frame_state.JournalEntry.{JournalEntry}
use Rattle.cilk_scheduler.specs.declared.frame_state.FrameState.{FrameState}
use Rattle.cilk_scheduler.specs.declared.frame_state.Status.TheVariants.{Held, Waiting}
use Rattle.cilk_scheduler.specs.declared.frame_state.Worker.{Worker}
use Rattle.cilk_scheduler.specs.Schedulers.{carried, IsUsed, hand_of, offers_of, is_there, Seen, Sits, Holds, IsWorkerTable, Tells, ShowsBy}
use Rattle.cilk_scheduler.specs.Numbered.{IsAbsent, size_of, IsCell, IsInstance, AreDeeds, CellBoth, ReducerBoth, events_of, global_both, global_cell}
use Rattle.cilk_scheduler.specs.Openings.{IsNew, OpeningsAreShown, OpeningsFit, first_worker_table, first_frame_state}
use Rattle.cilk_scheduler.proofs.Onward.{name_off}

pub openings_fit : (p : Source) (inputs : List ℤ) → OpeningsFit p inputs
openings_fit p inputs well TickTotal = omega arith
openings_fit p inputs well EventTotal = omega arith
openings_fit p inputs well FrameTotal = omega arith
openings_fit p inputs well CellTotal =
    let n = well_named_parts p well in
    let f = n.functions p.main n.main in
    let a = n.openings in
    let c : (let g = main_of p in g.cells) ≤ 256 = f.cells in
    omega (arith, a, c)

module _ (code : CodeView) (p : Source) (inputs : List ℤ) (well : IsTrue (is_well_named p)) (lays : LaysOut p code.layout) (b : Scheduler) (h : IsNew code p inputs b) (s : State FrameEnv View)
    (o : IsOpening FrameEnv View monoid_of (Next p inputs) (costs p inputs) (first_env p) (opening_values p inputs) s) where
  abbrev name : ℕ → Name
  name n = []

  abbrev frame_states : List (Activation FrameState)
  frame_states = let f = b.frames in f.items

  abbrev root : Activation FrameState
  root = first_frame_state code p h.cursor h.root

  abbrev frame : Frame FrameEnv
  frame = begun (first_env p)

  here : s.frames [] ≡ Some frame
  here = o.0 []

  no_deeds : deeds_at (s.frames []) ≡ []
  no_deeds = ap (λ f. deeds_at f) here

  one : length frame_states ≡ 1
  one = ap (λ (l : List (Activation FrameState)). length l) h.frames

  low : 0 < length frame_states
  low = subst (λ n. 0 < n) (sym one) (omega arith)

  root_at : slice_get frame_states 0 ≡ Some root
  root_at = ap (λ l. slice_get l 0) h.frames

  only : (j : ℕ) (a : Activation FrameState) → slice_get frame_states j ≡ Some a → (0 ≡ j) × (root ≡ a)
  only j a at = by j (ap (λ l. slice_get l j) (sym h.frames) ∙ at)
    where
      by : (j : ℕ) → slice_get (root ∷ []) j ≡ Some a → (0 ≡ j) × (root ≡ a)
      by zero q = let z : Some root ≡ Some a = q in (refl, cc)
      by (suc j) q = let no : None ≡ Some a = q in let f : ⊥ = cc in absurd f

  below_one : (j : ℕ) → j < length frame_states → j ≡ 0
  below_one j lt = let e = one in omega (arith, lt, e)

  size_is : size_of p (s.frames []) ≡ cells_of p callees.Root
  size_is = ap (λ f. size_of p f) here

  -- ---- what the first frame sees

  abbrev home : Home CellBoth ReducerBoth
  home = record { cells = λ n. (Own [] n, length p.openings + n); own = λ n. (own_named p callees.Root [] n, record { frame = 1; place = first_place p callees.Root + n }); given = [] }

  abbrev HasCell : CellBoth → Type 0
  HasCell c = IsCell p (let f = b.frames in f.items) (λ n. []) s c.0 c.1

  abbrev HasReducer : ReducerBoth → MonoidKind → Type 0
  HasReducer r q = (kind_of (r.0 q) ≡ q) × IsInstance p (let f = b.frames in f.items) (λ n. []) (r.0 q) r.1

  no_given : {A : Type 0} (l : List A) → length l ≡ 0 → l ≡ []
  no_given [] e = refl
  no_given (x ∷ l) e = absurd (omega (arith, e))

  seen : Seen code p inputs name b s root (first_env p)
  seen = record {
    scope = home ∷ [];
    target = None;
    names = refl;
    numbers = h.sees;
    goes_to = refl;
    lies_at = refl;
    sees = root_sees p global_cell global_both HasCell HasReducer home (record { cells = λ n lt. (refl, lt); reducers = λ n k is. (refl, (0, low, refl, refl, refl)) })
        (λ n lt. (0, root, root_at, refl, refl, subst (λ z. n < z) (sym size_is) lt))
        (λ n k is. (refl, (0, low, refl, refl, omega arith)))
        (λ n k is. let parts = well_named_parts p well in let e = no_given (let f = main_of p in f.given) parts.takes_no_reducers in let z : false ≡ true = ap (λ l. is_kind (slice_get l n) k) (sym e) ∙ is in absurd (true≢false (sym z)));
  }

  first_at : (let l = b.workers in slice_get l.items 0) ≡ Some h.first
  first_at = ap (λ l. slice_get l 0) h.workers

  sits : Sits code p inputs name b s 0 root
  sits = record {
    frame = frame;
    here = here;
    named = refl;
    number = refl;
    seen = seen;
    creates = λ function is. let l = code.layout in let e : l.main ≡ function = (let z : Some l.main ≡ Some function = is in cc) in ap (λ n. let f = function_frame code.layout n in f.reducers) (sym e) ∙ lays.own callees.Root;
    creates_none = λ is. let l = code.layout in let z : Some l.main ≡ None = is in let f : ⊥ = cc in absurd f;
    stolen = o.4 [];
    children = refl;
    last = λ some. absurd (omega (arith, some));
    strands_are = refl;
    counted = refl;
    due = λ going. (h.cursor, refl, (refl, h.stands, h.owes, refl));
    is_where = (h.first, first_at, h.has, AtBegin refl, refl, (λ m. absurd (true≢false (sym m))), (λ m q. let z : due.Begin ≡ due.Sync = q in cc));
    block = λ going. inl (refl, refl, refl);
    written = subst (λ es. AreDeeds p frame_states name s 0 [] es) (sym (ap (λ l. events_of 0 l) h.journal)) tt;
  }

  -- ---- workers

  worker_is : (v : ℕ) (u : Worker) → (let l = b.workers in slice_get l.items v ≡ Some u) → slice_get (h.first ∷ h.others) v ≡ Some u
  worker_is v u at = ap (λ l. slice_get l v) (sym h.workers) ∙ at

  holds : (v k : ℕ) (u : Worker) → (let l = b.workers in slice_get l.items v ≡ Some u) → u.frame ≡ Some k → Holds code p inputs name b s v u k
  holds v k u at has = by v (worker_is v u at)
    where
      value_is : (kind : MonoidKind) (j : numbered.Instance) → h.first ≡ u → value_in u.views kind j ≡ (structure_of kind).unit
      value_is kind j e = ap (λ (z : Worker). value_in z.views kind j) (sym e) ∙ ap (or_unit (structure_of kind)) (each_kind (λ q. (i : numbered.Instance) → (let z = h.first in view_in z.views q i ≡ None)) h.empty kind j)

      unused : (q : ℕ) → IsUsed {W = FrameEnv} s.stolen [] (deeds_at (s.frames [])) false q → is_there code p inputs name b s [] q ≡ true
      unused q (inl g) = absurd (true≢false (sym g.0))
      unused q (inr g) = let z : IsUsed {W = FrameEnv} s.stolen [] [] false q = subst (λ ds. IsUsed {W = FrameEnv} s.stolen [] ds false q) no_deeds (inr g) in by_none z
        where
          by_none : IsUsed {W = FrameEnv} s.stolen [] [] false q → is_there code p inputs name b s [] q ≡ true
          by_none (inl y) = absurd (true≢false (sym y.0))
          by_none (inr y) = absurd (true≢false (sym y.1))

      mine : h.first ≡ u → Holds code p inputs name b s 0 u 0
      mine e = record {
        frame_state = root;
        here = root_at;
        held = refl;
        views = λ i j is. subst (λ f. IsViewOf (kind_of i) (let ds = deeds_at f in carried_by i ds) (value_in u.views (kind_of i) j)) (sym here)
            (subst (λ v. IsViewOf (kind_of i) v (value_in u.views (kind_of i) j)) (sym (o.5 i)) (subst (λ z. IsViewOf (kind_of i) (unit_of monoid_of i) z) (sym (value_is (kind_of i) j e)) (let m = are_multiplied in m.unit (kind_of i))));
        used = unused;
        bare = λ kind j lt. value_is kind j e;
      }
        where
          carried_by : (i : Instance) → List (Deed FrameEnv) → View
          carried_by i ds = carried (monoid_of i) (λ m. s.piece m i) s.stolen [] ds false

      by : (v : ℕ) → slice_get (h.first ∷ h.others) v ≡ Some u → Holds code p inputs name b s v u k
      by zero q =
          let e : h.first ≡ u = (let z : Some h.first ≡ Some u = q in cc) in
          let c : 0 ≡ k = (let z : Some 0 ≡ Some k = sym h.has ∙ ap (λ (y : Worker). y.frame) e ∙ has in cc) in
          subst (λ i. Holds code p inputs name b s 0 u i) c (mine e)
      by (suc v) q = let no : None ≡ Some k = sym (h.idles v u q) ∙ has in let f : ⊥ = cc in absurd f

  -- ---- the worker table

  no_offer : (v q j : ℕ) (u : Worker) → (let l = b.workers in slice_get l.items v ≡ Some u) → (let f = u.offered in slice_get f.items q ≡ Some j) → ⊥
  no_offer v q j u at has = let no : None ≡ Some j = ap (λ l. slice_get l q) (sym (h.offers v u (worker_is v u at))) ∙ has in cc

  all_idle : (us : List Worker) → ((v : ℕ) (u : Worker) → slice_get us v ≡ Some u → u.frame ≡ None) → replicate (length us) None ≡ map (hand_of name) us
  all_idle [] each = refl
  all_idle (u ∷ us) each = ap₂ (λ a l. a ∷ l) (ap (λ f. hand f) (sym (each 0 u refl))) (all_idle us (λ v y at. each (suc v) y at))
    where
      hand : Option ℕ → Option Name
      hand f = hand_of name (record u { frame = f })

  none_offered : (us : List Worker) → ((v : ℕ) (u : Worker) → slice_get us v ≡ Some u → let f = u.offered in f.items ≡ []) → replicate (length us) [] ≡ map (offers_of name) us
  none_offered [] each = refl
  none_offered (u ∷ us) each = ap₂ (λ a l. a ∷ l) (ap (λ (ns : List ℕ). map name ns) (sym (each 0 u refl))) (none_offered us (λ v y at. each (suc v) y at))

  no_total : (us : List Worker) → ((v : ℕ) (u : Worker) → slice_get us v ≡ Some u → let f = u.offered in f.items ≡ []) → sum (map (λ (u : Worker). let f = u.offered in length f.items) us) ≡ 0
  no_total [] each = refl
  no_total (u ∷ us) each =
      let g = sum_by-cons {X = ℕ} (λ a. a) (let f = u.offered in length f.items) (map (λ (u : Worker). let f = u.offered in length f.items) us) in
      let e = ap (λ (ns : List ℕ). length ns) (each 0 u refl) in
      let r = no_total us (λ v y at. each (suc v) y at) in
      omega (arith, g, e, r)

  worker_table : IsWorkerTable code p inputs name b (let l = h.others in first_worker_table (length l))
  worker_table = record {
    hands = ap₂ (λ a l. a ∷ l) (ap (λ f. hand f) (sym h.has)) (all_idle h.others h.idles) ∙ ap (λ ws. map (hand_of name) ws) (sym h.workers);
    offered = none_offered (h.first ∷ h.others) h.offers ∙ ap (λ ws. map (offers_of name) ws) (sym h.workers);
    total = h.offered ∙ sym (ap (λ ws. sum (map (λ (u : Worker). let f = u.offered in length f.items) ws)) h.workers ∙ no_total (h.first ∷ h.others) h.offers);
    places = λ v q j u at has. absurd (no_offer v q j u at has);
    once = λ v q r j u at has also. absurd (no_offer v q j u at has);
    waiting = λ j a at. let r = only j a at in ((λ q. let z : Held 0 ≡ Waiting = ap (λ (y : Activation FrameState). let x = y.cursor in x.status) r.1 ∙ q in let f : ⊥ = cc in absurd f), (λ q. absurd q));
    present = λ n is none. is;
  }
    where
      hand : Option ℕ → Option Name
      hand f = let u = h.first in hand_of name (record u { frame = f })

  absent_root : (n : Name) → IsAbsent frame_states name n → [] ≡ n → ⊥
  absent_root n none e = none 0 low e

  no_frame : (n : Name) → IsAbsent frame_states name n → s.frames n ≡ None
  no_frame n none = o.0 n ∙ rw (name_off [] n (absent_root n none)) refl

  nothing_joined : (n : Name) (q : ℕ) → times (n ++ q ∷ []) s.joins ≡ joined_at 1 q (deeds_at (s.frames n))
  nothing_joined n q = ap (λ l. times (n ++ q ∷ []) l) o.2 ∙ by n
    where
      by : (n : Name) → 0 ≡ joined_at 1 q (deeds_at (s.frames n))
      by [] = ap (λ ds. joined_at 1 q ds) (sym no_deeds)
      by (j ∷ n) = ap (λ f. joined_at 1 q (deeds_at f)) (sym (o.0 (j ∷ n)))

  tells : Tells code p inputs name b s
  tells = record {
    named = record {
      root = refl;
      child = λ k x at. let r = only (suc k) x at in let z = r.0 in absurd (omega (arith, z));
      ordinal = λ k x at. let r = only (suc k) x at in let z = r.0 in absurd (omega (arith, z));
      apart = λ j k lt lt' e. below_one j lt ∙ sym (below_one k lt');
    };
    here = λ k x at. (frame, here, subst (λ es. AreDeeds p frame_states name s k [] es) (sym (ap (λ l. events_of k l) h.journal)) tt);
    absent = no_frame;
    joins = nothing_joined;
    going = λ z g. subst (λ ds. HasEnd ds) no_deeds g;
    over = λ z at. let no : None ≡ Some z = sym h.outcome ∙ at in let f : ⊥ = cc in absurd f;
    first = λ x at. let r = only 0 x at in subst (λ (a : Activation FrameState). length p.openings ≤ a.base) r.1 (omega arith);
    ascend = λ i j x y at at' less. let f = only i x at in let g = only j y at' in let u = f.0 in let v = g.0 in absurd (omega (arith, u, v, less));
  }

  memory : (c : Cell) (n : ℕ) → IsCell p frame_states name s c n → (let l = b.cells in slice_get l.items n ≡ Some (s.memory c))
  memory (Global g) n is = ap (λ m. let l = b.cells in slice_get l.items m) is.0 ∙ h.globals g is.1 ∙ there p.openings g is.1 ∙ ap (λ m. Some (m (Global g))) (sym o.1)
    where
      there : (l : List ℤ) (g : ℕ) → g < length l → slice_get l g ≡ Some (unwrap_or (slice_get l g) (pos 0))
      there [] g lt = absurd (omega (arith, lt))
      there (x ∷ l) zero lt = refl
      there (x ∷ l) (suc g) lt = there l g (omega (arith, lt))
  memory (Own m q) n is =
      let r = only is.0 is.1 is.2 in
      ap (λ m. let l = b.cells in slice_get l.items m) (is.4 ∙ ap (λ (a : Activation FrameState). a.base + q) (sym r.1)) ∙ h.own q (subst (λ z. q < z) (ap (λ z. size_of p (s.frames z)) (sym is.3) ∙ size_is) is.5) ∙ ap (λ f. Some (f (Own m q))) (sym o.1)

  shows : ShowsBy code p inputs name b (let l = h.others in first_worker_table (length l)) s
  shows = record {
    tells = tells;
    running = o.3;
    sits = λ k x at. let r = only k x at in subst (λ i. Sits code p inputs name b s i x) r.0 (subst (λ z. Sits code p inputs name b s 0 z) r.1 sits);
    unstolen = λ n none. o.4 n;
    unwritten = λ n q none. ap (λ m. m (Own n q)) o.1;
    bare = λ n m q kind none there. bare_at m q kind n there (same_name [] m) refl;
    memory = memory;
    within = λ k x at. let r = only k x at in let l = b.cells in subst (λ (a : Activation FrameState). a.base + size_of p (s.frames []) ≤ length l.items) r.1 (let e = size_is in let c = h.count in omega (arith, e, c));
    holds = holds;
    worker_table = worker_table;
    ticks = o.6 TickTotal ∙ sym h.ticks;
    events = o.6 EventTotal ∙ sym (ap (λ (l : List JournalEntry). length l) h.journal);
    frames = o.6 FrameTotal ∙ sym one;
    cells = o.6 CellTotal ∙ sym h.count;
    few_frames = subst (λ n. n ≤ MAX_FRAMES) (sym (o.6 FrameTotal)) (openings_fit p inputs well FrameTotal);
    few_cells = subst (λ n. n ≤ MAX_CELLS) (sym (o.6 CellTotal)) (openings_fit p inputs well CellTotal);
    eventless = λ j far. ap (λ l. events_of j l) h.journal;
  }
    where
      bare_at : (m : Name) (q : ℕ) (kind : MonoidKind) (n : Name) → (IsAbsent frame_states name m → ⊥) → (c : Bool) → same_name [] m ≡ c → s.piece m (Reducer n q kind) ≡ unit_of monoid_of (Reducer n q kind)
      bare_at m q kind n there true is = ap (λ z. s.piece z (Reducer n q kind)) (sym (same_name-eq [] m is)) ∙ o.5 (Reducer n q kind)
      bare_at m q kind n there false is = absurd (there (λ j lt e. true≢false (sym (same_name-refl []) ∙ ap (λ z. same_name [] z) e ∙ is)))

pub openings_are_shown : (code : CodeView) (p : Source) (inputs : List ℤ) → OpeningsAreShown code p inputs
openings_are_shown code p inputs well lays b h =
    let P = progress FrameEnv View monoid_of (Next p inputs) (costs p inputs) in
    let q = P.opens (first_env p) (opening_values p inputs) in
    (q.0, q.1, shows code p inputs well lays b h q.0 q.1)
