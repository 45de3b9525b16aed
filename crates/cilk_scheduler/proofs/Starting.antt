-- The scope of a new frame.
--
-- - `carries_more`, `last_there`, `more_length`: a list with one frame more keeps what it had; that
--   frame;
-- - `named_else`, `named_here`: names, where one place has a new one;
-- - `sizes_more`: frames have the cells that they had;
-- - `drop_named`, `drop_numbered`, `given_names`, `given_numbers`, `result_named_as`,
--   `result_numbered_as`: names and numbers at once;
-- - `children_see`, `children_sit`, `names_stay_apart`: the laws.
use Rattle.std.proofs.Common.{◌≡◌, inl, ⊎_elim, ◌+◌, ◌-◌, ◌<◌, ◌≤◌, ℕ, zero, suc, nat_eq, eq-eqb, eqb-true, Bool, true, false, true≢false, cond, ℤ, List, [], ◌∷◌, ◌++◌, length, drop, map, slice_get, Option, Some, None, refl, sym, ap, ap₂, ◌∙◌, subst, arith}
use Rattle.std.specs.Option.{option_map}
use Rattle.std.proofs.lemmas.Bool.{cases_Bool, cases_lt}
use Rattle.cilk_types.specs.declared.event.Instance as numbered
use Rattle.cilk_types.specs.declared.invocation.Invocation.{Invocation}
use Rattle.cilk_types.specs.declared.limits.TheConstants.{MAX_TICKS}
use Rattle.cilk_monoid.specs.declared.kind.MonoidKind.{MonoidKind}
use Rattle.cilk_program.specs.declared.ask.Ask.TheVariants as asks
use Rattle.cilk_program.specs.declared.ask.Callee.{Callee}
use Rattle.cilk_program.specs.declared.ask.Callee.TheVariants as callees
use Rattle.cilk_program.specs.declared.ask.FunctionCall.{FunctionCall}
use Rattle.cilk_program.specs.declared.ask.LoopPart.{LoopPart}
use Rattle.cilk_program.specs.declared.program.Body.{Body}
use Rattle.cilk_program.specs.declared.syntax.Place.{Place}
use Rattle.cilk_program.specs.declared.syntax.Reducer as syntax
use Rattle.cilk_program.specs.Inside.{CalleeIsThere, body_of}
use Rattle.cilk_program.specs.Scopes.{Home, Scope, cell_in, instances_in}
use Rattle.cilk_program.specs.SerialRun.{cells_of, first_place, global_reducer, home_of, invocation, itself, own_reducers}
use Rattle.cilk_program.specs.Syntax.{Source}
use Rattle.cilk_program.specs.Visible.{CanInvoke, FrameSees, GlobalsAreThere}
use Rattle.cilk_program.proofs.Visible.{called_sees, can_invoke, frame_more, part_sees}
use Rattle.cilk_lower.specs.Code.{CodeView}
use Rattle.cilk_lower.specs.Layout.{LaysOut, function_frame}
use Rattle.cilk_frames.specs.Cursor.{CursorView}
use Rattle.cilk_frames.specs.Following.{word_in}
use Rattle.cilk_frames.specs.Sight.{HasScope}
use Rattle.cilk_frames.specs.declared.activation.Activation.{Activation}
use Rattle.cilk_determinacy.specs.Machine.{Frame, State, after_deed, begun, started}
use Rattle.cilk_determinacy.specs.Progress.{AtBegin}
use Rattle.cilk_determinacy.specs.Runs.{Name, same_name, Cell, Global, Own, Instance, Output, Reducer, Deed, Invokes}
use Rattle.cilk_determinacy.proofs.Basics.{same_name-refl, same_name-eq}
use Rattle.cilk_scheduler.specs.KeptCursors.{IsTold}
use Rattle.cilk_determinacy.specs.FrameEnvMachine.{answers_of}
use Rattle.cilk_determinacy.specs.Reducers.{View, kind_of}
use Rattle.cilk_determinacy.specs.FrameEnvs.{FrameEnv, child_env, global_named, home_named, own_named}
use Rattle.cilk_scheduler.specs.declared.scheduler.Scheduler.{Scheduler}
use Rattle.cilk_scheduler.specs.declared.frame_state.Due.{Due}
use Rattle.cilk_scheduler.specs.declared.frame_state.Due.TheVariants as due
use Rattle.cilk_scheduler.specs.declared.frame_state.FrameState.{FrameState}
use Rattle.cilk_scheduler.specs.Acting.{IsShown}
use Rattle.cilk_scheduler.specs.Asking.{WentOnFrom}
use Rattle.cilk_scheduler.specs.Schedulers.{IsDue, Seen, Sits, ShowsBy}
use Rattle.cilk_scheduler.specs.WorkerTables.{WorkerTable}
use Rattle.cilk_scheduler.specs.Events.{SeesAt}
use Rattle.cilk_scheduler.specs.Invoking.{creator_of}
use Rattle.cilk_scheduler.specs.Numbered.{IsAbsent, AreDeeds, size_of, events_of, IsCell, IsInstance, CellBoth, ReducerBoth, names_in, numbers_in, global_cell, global_both}
use Rattle.cilk_scheduler.specs.FrameStates.{changed, counted, seated, started_at}
use Rattle.cilk_scheduler.specs.Starting.{Starts, ChildrenSee, ChildrenSit, NamesStayApart, named_at}
use Rattle.cilk_scheduler.proofs.Carries.{Carries, carries_changed, carries_then, scope_on}
use Rattle.cilk_scheduler.proofs.Changing.{changed_here, changed_length, changed_twice}
use Rattle.cilk_scheduler.proofs.Kept.{events_more, sees_changed}
use Rattle.cilk_scheduler.proofs.Placed.{get_some}
use Rattle.cilk_scheduler.proofs.Plain.{get_low}
use Rattle.cilk_scheduler.proofs.Ready.{there}
use Rattle.cilk_scheduler.proofs.Seeing.{cell_named, cell_numbered, reducer_named, reducer_numbered}
use Rattle.cilk_scheduler.proofs.Stepped.{goes}

-- ---- one frame more

pub carries_more : (l : List (Activation FrameState)) (a : Activation FrameState) → Carries l (l ++ a ∷ [])
carries_more l a j x at = (x.cursor, kept l j at)
  where
    kept : (l : List (Activation FrameState)) (j : ℕ) → slice_get l j ≡ Some x → slice_get (l ++ a ∷ []) j ≡ Some x
    kept [] j at = let no : None ≡ Some x = at in let z : ⊥ = cc in absurd z
    kept (y ∷ l) zero at = at
    kept (y ∷ l) (suc j) at = kept l j at

pub last_there : {A : Type 0} (l : List A) (a : A) → slice_get (l ++ a ∷ []) (length l) ≡ Some a
last_there [] a = refl
last_there (x ∷ l) a = last_there l a

pub more_length : {A : Type 0} (l : List A) (a : A) → length (l ++ a ∷ []) ≡ suc (length l)
more_length [] a = refl
more_length (x ∷ l) a = ap suc (more_length l a)

unlike : (j k : ℕ) → (j ≡ k → ⊥) → nat_eq j k ≡ false
unlike j k ne = ⊎_elim (λ t. absurd (ne (eqb-true j k t))) (λ f. f) (cases_Bool (nat_eq j k))

pub named_else : (name : ℕ → Name) (k : ℕ) (n : Name) (j : ℕ) → j < k → named_at name k n j ≡ name j
named_else name k n j low = ap (λ c. cond c n (name j)) (unlike k j (λ same. omega (arith, same, low)))

pub named_here : (name : ℕ → Name) (k : ℕ) (n : Name) → named_at name k n k ≡ n
named_here name k n = ap (λ c. cond c n (name k)) (eq-eqb k k refl)

module _ (p : Source) (s s' : State FrameEnv View) (n : Name) (f : Frame FrameEnv) (how : Invocation) (v : FrameEnv) (here : s.frames n ≡ Some f) (fresh : s.frames (n ++ suc (started f.deeds) ∷ []) ≡ None) (made : s'.frames ≡ after_deed s.frames n f (Invokes how v)) where
  abbrev kid : Name
  kid = n ++ suc (started f.deeds) ∷ []

  pub sizes_more : (m : Name) (q : ℕ) → q < size_of p (s.frames m) → q < size_of p (s'.frames m)
  sizes_more m q low = subst (λ z. q < size_of p z) (sym (ap (λ t. t m) made)) (by (same_name kid m) refl (same_name n m) refl)
    where
      by : (c : Bool) → same_name kid m ≡ c → (e : Bool) → same_name n m ≡ e → q < size_of p (after_deed s.frames n f (Invokes how v) m)
      by true c e is = let none : s.frames m ≡ None = ap s.frames (sym (same_name-eq kid m c)) ∙ fresh in let no : q < 0 = subst (λ z. q < size_of p z) none low in absurd (omega (arith, no))
      by false c true e = rw (c, e) (subst (λ z. q < size_of p z) (ap s.frames (sym (same_name-eq n m e)) ∙ here) low)
      by false c false e = rw (c, e) low

  pub size_kid : size_of p (s'.frames kid) ≡ cells_of p v.callee
  size_kid = ap (λ t. size_of p (t kid)) made ∙ rw (same_name-refl kid) refl

-- ---- names and numbers at once

pub drop_named : (up : ℕ) (scope : Scope CellBoth ReducerBoth) → drop up (names_in scope) ≡ names_in (drop up scope)
drop_named zero scope = refl
drop_named (suc up) [] = refl
drop_named (suc up) (h ∷ scope) = drop_named up scope

pub drop_numbered : (up : ℕ) (scope : Scope CellBoth ReducerBoth) → drop up (numbers_in scope) ≡ numbers_in (drop up scope)
drop_numbered zero scope = refl
drop_numbered (suc up) [] = refl
drop_numbered (suc up) (h ∷ scope) = drop_numbered up scope

pub given_names : (scope : Scope CellBoth ReducerBoth) (rs : List syntax.Reducer) → instances_in global_named (names_in scope) rs ≡ map (λ (r : ReducerBoth). r.0) (instances_in global_both scope rs)
given_names scope [] = refl
given_names scope (r ∷ rs) = ap₂ (λ x xs. x ∷ xs) (sym (reducer_named scope r.place)) (given_names scope rs)

pub given_numbers : (scope : Scope CellBoth ReducerBoth) (rs : List syntax.Reducer) → instances_in global_reducer (numbers_in scope) rs ≡ map (λ (r : ReducerBoth). r.1) (instances_in global_both scope rs)
given_numbers scope [] = refl
given_numbers scope (r ∷ rs) = ap₂ (λ x xs. x ∷ xs) (sym (reducer_numbered scope r.place)) (given_numbers scope rs)

pub result_named_as : (scope : Scope CellBoth ReducerBoth) (o : Option Place) → option_map (cell_in Global (names_in scope)) o ≡ option_map (λ (c : CellBoth). c.0) (option_map (cell_in global_cell scope) o)
result_named_as scope None = refl
result_named_as scope (Some x) = ap Some (sym (cell_named scope x))

pub result_numbered_as : (scope : Scope CellBoth ReducerBoth) (o : Option Place) → option_map (cell_in itself (numbers_in scope)) o ≡ option_map (λ (c : CellBoth). c.1) (option_map (cell_in global_cell scope) o)
result_numbered_as scope None = refl
result_numbered_as scope (Some x) = ap Some (sym (cell_numbered scope x))

-- ---- the laws

module _ (code : CodeView) (p : Source) (inputs : List ℤ) where
  -- a frame requests only a child that it can invoke
  may_invoke : (w : FrameEnv) (past : List (Deed FrameEnv)) (x came : FrameState) (c : CursorView) (how : Invocation) (callee : Callee) (d : Due) → x.cursor ≡ Some c → IsDue code p inputs w past d c x.took
      → WentOnFrom code inputs d x (asks.Invoke how callee) came → CanInvoke w.callee callee
  may_invoke w past x came c how callee due.Begin at is h = let no : asks.Invoke how callee ≡ asks.Begin = h.0 in let z : ⊥ = cc in absurd z
  may_invoke w past x came c how callee (due.Answer a) at told h =
      let same : h.before ≡ c = (let q : Some h.before ≡ Some c = sym h.was ∙ at in cc) in
      let told' : IsTold code p inputs w past h.before a x.took = subst (λ b. IsTold code p inputs w past b a x.took) (sym same) told in
      let goes = h.goes_on p w.callee (answers_of told'.past) x.took told'.stands in
      can_invoke p inputs w.callee (answers_of told'.past ++ word_in a ∷ []) (x.took + (MAX_TICKS - x.took)) h.left how callee goes.asks
  may_invoke w past x came c how callee due.Sync at is h = let no : asks.Invoke how callee ≡ asks.Sync = h.0 in let z : ⊥ = cc in absurd z

  module _ (name : ℕ → Name) (b b' : Scheduler) (d : WorkerTable) (s s' : State FrameEnv View) (w k : ℕ) (how : Invocation) (callee : Callee) (x : IsShown code p inputs name b d s) (t : Starts code p inputs name b b' s s' w k how callee) where
    abbrev old : List (Activation FrameState)
    old = let f = b.frames in f.items

    abbrev new : List (Activation FrameState)
    new = let f = b'.frames in f.items

    abbrev came : FrameState
    came = let h = t.comes in h.came

    abbrev frame_state : Activation FrameState
    frame_state = let h = t.comes in h.frame_state

    abbrev went : List (Activation FrameState)
    went = changed (λ _. came) old k

    abbrev child_name : Name
    child_name = name k ++ suc (started (let f = t.frame in f.deeds)) ∷ []

    abbrev renamed : ℕ → Name
    renamed = named_at name (length old) child_name

    abbrev parent : FrameEnv
    parent = let f = t.frame in f.what

    abbrev child_is : FrameEnv
    child_is = child_env p parent (suc (started (let f = t.frame in f.deeds))) callee

    abbrev after : FrameState → FrameState
    after _ = counted (started_at t.status (length old) came)

    abbrev shows : ShowsBy code p inputs name b d s
    shows = x.shows

    abbrev sits : Sits code p inputs name b s k frame_state
    sits = let h = t.comes in shows.sits k frame_state h.sits

    frame_is : (let o = sits in o.frame) ≡ t.frame
    frame_is = let o = sits in let q : Some o.frame ≡ Some t.frame = sym o.here ∙ t.here in cc

    from_went : new ≡ changed after went k ++ t.child ∷ []
    from_went = t.frame_states_are ∙ ap (λ l. l ++ t.child ∷ []) (sym (changed_twice after (λ _. came) old k))

    on_went : Carries went new
    on_went = subst (λ l. Carries went l) (sym from_went) (carries_then went (changed after went k) (changed after went k ++ t.child ∷ []) (carries_changed after went k) (carries_more (changed after went k) t.child))

    on : Carries old new
    on = carries_then old went new (carries_changed (λ _. came) old k) on_went

    one_more : length new ≡ suc (length old)
    one_more = ap (λ (l : List (Activation FrameState)). length l) t.frame_states_are ∙ more_length (changed after old k) t.child ∙ ap suc (changed_length after old k)

    child_at : slice_get new (length old) ≡ Some t.child
    child_at = ap (λ l. slice_get l (length old)) t.frame_states_are ∙ subst (λ n. slice_get (changed after old k ++ t.child ∷ []) n ≡ Some t.child) (changed_length after old k) (last_there (changed after old k) t.child)

    low : k < length old
    low = let h = t.comes in get_low old k frame_state h.sits

    sizes : (m : Name) (q : ℕ) → q < size_of p (s.frames m) → q < size_of p (s'.frames m)
    sizes = sizes_more p s s' (name k) t.frame how child_is t.here t.fresh t.made

    cell_on : (c : Cell) (n : ℕ) → IsCell p old name s c n → IsCell p new renamed s' c n
    cell_on (Global g) n h = h
    cell_on (Own m q) n h =
        let g = on h.0 h.1 h.2 in (h.0, record h.1 { cursor = g.0 }, g.1, named_else name (length old) child_name h.0 (get_low old h.0 h.1 h.2) ∙ h.3, h.4, sizes m q h.5)

    instance_on : (i : Instance) (j : numbered.Instance) → IsInstance p old name i j → IsInstance p new renamed i j
    instance_on Output j h = h
    instance_on (Reducer m q kind) j h = let less = h.1 in let e = one_more in (h.0, omega (arith, less, e), named_else name (length old) child_name h.0 h.1 ∙ h.2, h.3, h.4)

    abbrev HasCell : CellBoth → Type 0
    HasCell c = IsCell p new renamed s' c.0 c.1

    abbrev HasReducer : ReducerBoth → MonoidKind → Type 0
    HasReducer r q = (kind_of (r.0 q) ≡ q) × IsInstance p new renamed (r.0 q) r.1

    root_named : renamed 0 ≡ []
    root_named = let l = low in let g = shows.tells in let n = g.named in named_else name (length old) child_name 0 (omega (arith, l)) ∙ n.root

    globals : GlobalsAreThere p global_cell global_both HasCell HasReducer
    globals = record { cells = λ n lt. (refl, lt); reducers = λ n q is. (refl, (0, (let e = one_more in omega (arith, e)), root_named, refl, refl)) }

    seen : Seen code p inputs name b s frame_state parent
    seen = subst (λ (f : Frame FrameEnv). Seen code p inputs name b s frame_state f.what) frame_is (let o = sits in o.seen)

    parent_sees : (let e = seen in FrameSees p global_cell global_both HasCell HasReducer parent.callee e.scope e.target)
    parent_sees =
        let e = seen in
        frame_more p global_cell global_both (λ (c : CellBoth). IsCell p old name s c.0 c.1) HasCell (λ (r : ReducerBoth) (q : MonoidKind). (kind_of (r.0 q) ≡ q) × IsInstance p old name (r.0 q) r.1) HasReducer
        (λ c g. cell_on c.0 c.1 g) (λ r q g. (g.0, instance_on (r.0 q) r.1 g.1)) parent.callee e.scope e.target e.sees

    named_parent : parent.name ≡ name k
    named_parent = let o = sits in ap (λ (f : Frame FrameEnv). let v = f.what in v.name) (sym frame_is) ∙ o.named

    callee_there : CalleeIsThere p (body_of p parent.callee) callee
    callee_there = subst (λ (f : Frame FrameEnv). let v = f.what in CalleeIsThere p (body_of p v.callee) callee) frame_is (there code p inputs name b d s w k (asks.Invoke how callee) x.lays shows t.comes (λ q. cc) x.well)

    callee_can : CanInvoke parent.callee callee
    callee_can =
        let o = sits in
        let h = t.comes in
        let y = (let a = frame_state in a.cursor) in
        let c = o.due (goes code p inputs name b d s w k (asks.Invoke how callee) x.lays shows h (λ q. cc)) in
        subst (λ (f : Frame FrameEnv). let v = f.what in CanInvoke v.callee callee) frame_is (let f = o.frame in may_invoke f.what f.deeds y came c.0 how callee y.due c.1 c.2 h.went)

    sees_went : (let e = seen in SeesAt went k (numbers_in e.scope))
    sees_went = let h = t.comes in let e = seen in sees_changed (λ _. came) old k k (numbers_in e.scope) (frame_state, h.sits, e.numbers)

    child_cell : (q : ℕ) → q < cells_of p callee → (let c = b.cells in HasCell (Own child_name q, length c.items + q))
    child_cell q less =
        let i = t.is_child in
        (length old, t.child, child_at, named_here name (length old) child_name, ap (λ n. n + q) (sym i.base_is), subst (λ n. q < n) (sym (size_kid p s s' (name k) t.frame how child_is t.here t.fresh t.made)) less)

    -- the new frame's own cells and reducers, and those that it is given
    abbrev pub home : List ReducerBoth → Home CellBoth ReducerBoth
    home given = let c = b.cells in record {
      cells = λ n. (Own child_name n, length c.items + n);
      own = λ n. (own_named p callee child_name n, record { frame = length went + 1; place = first_place p callee + n });
      given = given;
    }

    number_is : length went + 1 ≡ suc (length old)
    number_is = let e : length went ≡ length old = changed_length (λ _. came) old k in omega (arith, e)

    below_new : length old < length new
    below_new = let e = one_more in omega (arith, e)

    scope_is : (scope : Scope ℕ numbered.Instance) → HasScope went t.child scope → HasScope new t.child scope
    scope_is scope h = let a = t.child in scope_on went new on_went a a.cursor scope h

    -- no frame of the scheduler has the new one's name
    absent : IsAbsent old name child_name
    absent j less same =
        let r = get_some old j less in
        let o = shows.sits j r.0 r.1 in
        let no : None ≡ Some o.frame = sym t.fresh ∙ ap s.frames (sym same) ∙ o.here in
        cc

    kid_here : s'.frames child_name ≡ Some (begun child_is)
    kid_here = ap (λ z. z child_name) t.made ∙ rw (same_name-refl child_name) refl

    cursor_is : (let i = t.is_child in (o : ℕ) × ((let a = t.child in a.cursor) ≡ seated k o how w i.cursor))
    cursor_is =
        let i = t.is_child in
        let h = t.comes in
        let top = record frame_state { cursor = came } in
        (came.children + 1, i.frame_state top (changed_here (λ _. came) old k frame_state h.sits))

    -- two frames have two names
    is_last : (m : ℕ) → m < length new → length old ≤ m → m ≡ length old
    is_last m less least = let e = one_more in omega (arith, less, least, e)

    mixed : (l m : ℕ) → l < length old → m ≡ length old → renamed l ≡ renamed m → ⊥
    mixed l m less last q = absent l less (sym (named_else name (length old) child_name l less) ∙ q ∙ ap renamed last ∙ named_here name (length old) child_name)

    both_old : (i j : ℕ) → i < length old → j < length old → renamed i ≡ renamed j → i ≡ j
    both_old i j a c q = let g = shows.tells in let r = g.named in r.apart i j a c (sym (named_else name (length old) child_name i a) ∙ q ∙ named_else name (length old) child_name j c)

    apart_now : (i j : ℕ) → i < length new → j < length new → renamed i ≡ renamed j → i ≡ j
    apart_now i j li lj q = ⊎_elim (λ a. ⊎_elim (λ c. both_old i j a c q) (λ c. absurd (mixed i j a (is_last j lj c) q)) (cases_lt j (length old)))
        (λ a. ⊎_elim (λ c. absurd (mixed j i c (is_last i li a) (sym q))) (λ c. is_last i li a ∙ sym (is_last j lj c)) (cases_lt j (length old))) (cases_lt i (length old))

  -- the frame of a function
  function_seen : (name : ℕ → Name) (b b' : Scheduler) (d : WorkerTable) (s s' : State FrameEnv View) (w k : ℕ) (how : Invocation) (c : FunctionCall) (x : IsShown code p inputs name b d s) (t : Starts code p inputs name b b' s s' w k how (callees.Function c))
      → let f = b.frames in
      let g = t.frame in
      let n = name k ++ suc (started g.deeds) ∷ [] in
      Seen code p inputs (named_at name (length f.items) n) b' s' t.child (child_env p g.what (suc (started g.deeds)) (callees.Function c))
  function_seen name b b' d s s' w k how c x t =
      let f = b.frames in
      let l = b.cells in
      let g = t.frame in
      let i = t.is_child in
      let e = seen name b b' d s s' w k how (callees.Function c) x t in
      let sees = sees_went name b b' d s s' w k how (callees.Function c) x t in
      let new = (let q = b'.frames in q.items) in
      let own = home name b b' d s s' w k how (callees.Function c) x t (instances_in global_both e.scope c.reducers) in
      let number = length (changed (λ _. (let h = t.comes in h.came)) f.items k) + 1 in
      record {
        scope = own ∷ [];
        target = option_map (cell_in global_cell e.scope) c.result;
        names = ap₂ (λ n rs. home_named p (callees.Function c) (n ++ suc (started g.deeds) ∷ []) rs ∷ []) (named_parent name b b' d s s' w k how (callees.Function c) x t)
            (ap (λ v. instances_in global_named v c.reducers) e.names ∙ given_names e.scope c.reducers);
        numbers = subst (λ rs. HasScope new t.child (home_of p (callees.Function c) number (length l.items) rs ∷ [])) (given_numbers e.scope c.reducers)
            (scope_is name b b' d s s' w k how (callees.Function c) x t (home_of p (callees.Function c) number (length l.items) (instances_in global_reducer (numbers_in e.scope) c.reducers) ∷ []) (i.sees p (numbers_in e.scope) sees));
        goes_to = ap (λ v. option_map (cell_in Global v) c.result) e.names ∙ result_named_as e.scope c.result;
        lies_at = i.result (numbers_in e.scope) sees ∙ result_numbered_as e.scope c.result;
        sees = called_sees p global_cell global_both (HasCell name b b' d s s' w k how (callees.Function c) x t) (HasReducer name b b' d s s' w k how (callees.Function c) x t) (let v = g.what in v.callee) e.scope e.target c own.cells own.own
            (globals name b b' d s s' w k how (callees.Function c) x t) (parent_sees name b b' d s s' w k how (callees.Function c) x t) (callee_there name b b' d s s' w k how (callees.Function c) x t)
            (callee_can name b b' d s s' w k how (callees.Function c) x t) (child_cell name b b' d s s' w k how (callees.Function c) x t)
            (λ n q is. (refl, (length f.items, below_new name b b' d s s' w k how (callees.Function c) x t, named_here name (length f.items) (name k ++ suc (started g.deeds) ∷ []), number_is name b b' d s s' w k how (callees.Function c) x t, (let z : 1 + n ≡ suc (0 + n) = omega arith in z))));
      }

  -- the frame of some turns of a loop
  turns_seen : (name : ℕ → Name) (b b' : Scheduler) (d : WorkerTable) (s s' : State FrameEnv View) (w k : ℕ) (how : Invocation) (c : LoopPart) (x : IsShown code p inputs name b d s) (t : Starts code p inputs name b b' s s' w k how (callees.Loop c))
      → let f = b.frames in
      let g = t.frame in
      let n = name k ++ suc (started g.deeds) ∷ [] in
      Seen code p inputs (named_at name (length f.items) n) b' s' t.child (child_env p g.what (suc (started g.deeds)) (callees.Loop c))
  turns_seen name b b' d s s' w k how c x t =
      let f = b.frames in
      let l = b.cells in
      let g = t.frame in
      let i = t.is_child in
      let e = seen name b b' d s s' w k how (callees.Loop c) x t in
      let sees = sees_went name b b' d s s' w k how (callees.Loop c) x t in
      let new = (let q = b'.frames in q.items) in
      let own = home name b b' d s s' w k how (callees.Loop c) x t [] in
      let number = length (changed (λ _. (let h = t.comes in h.came)) f.items k) + 1 in
      record {
        scope = own ∷ drop c.up e.scope;
        target = None;
        names = ap₂ (λ n v. home_named p (callees.Loop c) (n ++ suc (started g.deeds) ∷ []) [] ∷ v) (named_parent name b b' d s s' w k how (callees.Loop c) x t) (ap (λ v. drop c.up v) e.names ∙ drop_named c.up e.scope);
        numbers = subst (λ v. HasScope new t.child (home_of p (callees.Loop c) number (length l.items) [] ∷ v)) (drop_numbered c.up e.scope)
            (scope_is name b b' d s s' w k how (callees.Loop c) x t (home_of p (callees.Loop c) number (length l.items) [] ∷ drop c.up (numbers_in e.scope)) (i.sees p (numbers_in e.scope) sees));
        goes_to = refl;
        lies_at = i.result (numbers_in e.scope) sees;
        sees = part_sees p global_cell global_both (HasCell name b b' d s s' w k how (callees.Loop c) x t) (HasReducer name b b' d s s' w k how (callees.Loop c) x t) x.well (let v = g.what in v.callee) e.scope e.target c own
            (parent_sees name b b' d s s' w k how (callees.Loop c) x t) (callee_there name b b' d s s' w k how (callees.Loop c) x t) (callee_can name b b' d s s' w k how (callees.Loop c) x t)
            (λ whole q less. child_cell name b b' d s s' w k how (callees.Loop c) x t q (rw whole less));
      }

pub children_see : (code : CodeView) (p : Source) (inputs : List ℤ) → ChildrenSee code p inputs
children_see code p inputs name b b' d s s' w k how callees.Root x t = absurd (callee_there code p inputs name b b' d s s' w k how callees.Root x t)
children_see code p inputs name b b' d s s' w k how (callees.Function c) x t = function_seen code p inputs name b b' d s s' w k how c x t
children_see code p inputs name b b' d s s' w k how (callees.Loop c) x t = turns_seen code p inputs name b b' d s s' w k how c x t

-- the reducers that a frame creates
creates_as : (code : CodeView) (p : Source) (lays : LaysOut p code.layout) (callee : Callee) (o : Option ℕ) → o ≡ creator_of callee → (function : ℕ) → o ≡ Some function → (let f = function_frame code.layout function in f.reducers) ≡ own_reducers p callee
creates_as code p lays callees.Root o is function at = let no : None ≡ Some function = sym is ∙ at in let z : ⊥ = cc in absurd z
creates_as code p lays (callees.Function c) o is function at = let e : c.function ≡ function = (let z : Some c.function ≡ Some function = sym is ∙ at in cc) in ap (λ n. let f = function_frame code.layout n in f.reducers) (sym e) ∙ lays.own (callees.Function c)
creates_as code p lays (callees.Loop l) o is function at = let no : None ≡ Some function = sym is ∙ at in let z : ⊥ = cc in absurd z

creates_nothing : (p : Source) (b : Body) (callee : Callee) (o : Option ℕ) → CalleeIsThere p b callee → o ≡ creator_of callee → o ≡ None → own_reducers p callee ≡ []
creates_nothing p b callees.Root o there is at = absurd there
creates_nothing p b (callees.Function c) o there is at = let no : Some c.function ≡ None = sym is ∙ at in let z : ⊥ = cc in absurd z
creates_nothing p b (callees.Loop l) o there is at = refl

pub children_sit : (code : CodeView) (p : Source) (inputs : List ℤ) → ChildrenSit code p inputs
children_sit code p inputs name b b' d s s' w k how callee behaves x t u =
    let f = b.frames in
    let g = t.frame in
    let i = t.is_child in
    let a = t.child in
    let n = name k ++ suc (started g.deeds) ∷ [] in
    let renamed = named_at name (length f.items) n in
    let env = child_env p g.what (suc (started g.deeds)) callee in
    let seen = children_see code p inputs name b b' d s s' w k how callee x t in
    let sees = seen.sees in
    let here = named_here name (length f.items) n in
    let it = cursor_is code p inputs name b b' d s s' w k how callee x t in
    let is_there = callee_there code p inputs name b b' d s s' w k how callee x t in
    let shown = x.shows in
    let less = low code p inputs name b b' d s s' w k how callee x t in
    subst (λ y. Sits code p inputs renamed b' s' (length f.items) (record a { cursor = y })) (sym it.1) (record {
      frame = begun env;
      here = ap s'.frames here ∙ kid_here code p inputs name b b' d s s' w k how callee x t;
      named = ap (λ m. m ++ suc (started g.deeds) ∷ []) (named_parent code p inputs name b b' d s s' w k how callee x t) ∙ sym here;
      number = i.number ∙ number_is code p inputs name b b' d s s' w k how callee x t;
      seen = record { scope = seen.scope; target = seen.target; names = seen.names; numbers = let z = seen.numbers in record { outer = z.outer; scope_is = z.scope_is; low = z.low; links = z.links }; goes_to = seen.goes_to; lies_at = seen.lies_at; sees = seen.sees };
      creates = creates_as code p x.lays callee a.creator i.creator;
      creates_none = creates_nothing p (body_of p (let v = g.what in v.callee)) callee a.creator is_there i.creator;
      stolen = ap s'.stolen here ∙ ap (λ z. z n) u.stolen ∙ shown.unstolen n (absent code p inputs name b b' d s s' w k how callee x t);
      children = refl;
      last = λ some. absurd (omega (arith, some));
      strands_are = refl;
      counted = refl;
      due = λ going. (i.cursor, refl, (refl, i.stands p inputs behaves sees.fit, i.owes, refl));
      is_where = (u.worker, u.at, u.has, AtBegin refl, refl, (λ m. absurd (true≢false (sym m))), (λ m q. let z : due.Begin ≡ due.Sync = q in cc));
      block = λ going. inl (refl, refl, refl);
      written = subst (λ es. AreDeeds p (let q = b'.frames in q.items) renamed s' (length f.items) [] es) (sym (
          ap (λ l. events_of (length f.items) l) u.written ∙ events_more (length f.items) (let e = b.journal in e.items) (record { frame = k; event = invocation how (suc (length f.items)) })
          ∙ ap (λ c. cond c (events_of (length f.items) (let e = b.journal in e.items) ++ invocation how (suc (length f.items)) ∷ []) (events_of (length f.items) (let e = b.journal in e.items))) (unlike k (length f.items) (λ same. omega (arith, same, less))) ∙ shown.eventless (length f.items) (omega arith))) tt;
    })

pub names_stay_apart : (code : CodeView) (p : Source) (inputs : List ℤ) → NamesStayApart code p inputs
names_stay_apart code p inputs name b b' d s s' w k how callee x t i j li lj same = apart_now code p inputs name b b' d s s' w k how callee x t i j li lj same
