-- A frame of a well-named program sees only what exists, for any names of cells and reducers.
-- can_invoke     a frame requests only children that it can invoke
-- sees_more      a scope that exists still does when more exists; frame_more, for a frame
-- given_there    a given reducer exists
-- function_sees  a function's frame sees its own cells and reducers, and those that it is given
-- turn_sees      a turn's frame sees its own cells, and everything around its loop
-- loop_sees      a loop's frame sees everything around the loop, by its static links
-- result_there   the cell that receives a result exists
-- none_given     a function without reducer parameters is given none
-- root_sees      the first frame sees only what exists
-- called_sees    so does the frame of a called function
-- part_sees      so does a frame that runs turns of a loop
-- frames_see     all three for numbers and tests, as the law says it
use Rattle.std.proofs.Common.{◌≡◌, inl, inr, ⊎_elim, ℕ, zero, suc, ◌<◌, ℤ, pos, ◌-ℤ◌, int_eq, Bool, IsTrue, List, []}
use Rattle.std.proofs.Common.{◌∷◌, length, drop, slice_get, unwrap_or, Option, Some, option_map, sym, ap, ◌∙◌}
use Rattle.std.proofs.Common.{subst, refl, arith}
use Rattle.std.proofs.lemmas.Bool.{ltb-true, and_parts, false≢true, cases_Bool}
use Rattle.cilk_monoid.specs.declared.kind.MonoidKind.{MonoidKind}
use Rattle.cilk_monoid.proofs.SameKinds.{same_kind-eq}
use Rattle.cilk_program.specs.declared.ask.Ask.TheVariants as asks
use Rattle.cilk_program.specs.declared.ask.Callee.{Callee}
use Rattle.cilk_program.specs.declared.ask.Callee.TheVariants as callees
use Rattle.cilk_program.specs.declared.ask.LoopPart.{LoopPart}
use Rattle.cilk_program.specs.declared.program.Body.{Body}
use Rattle.cilk_program.specs.declared.program.Body.TheVariants as bodies
use Rattle.cilk_types.specs.declared.invocation.Invocation.{Invocation}
use Rattle.cilk_program.specs.declared.syntax.Place.{Place}
use Rattle.cilk_program.specs.declared.syntax.Place.TheVariants as places
use Rattle.cilk_program.specs.declared.syntax.Reducer.{Reducer}
use Rattle.cilk_program.specs.declared.syntax.ReducerPlace.{ReducerPlace}
use Rattle.cilk_program.specs.declared.syntax.ReducerPlace.TheVariants as reducers
use Rattle.cilk_program.specs.Behaviour.{OpenAsk, asks_for, frame_asks}
use Rattle.cilk_program.specs.Syntax.{Source, function_at, loop_at}
use Rattle.cilk_program.specs.Scopes.{Home, Scope, cell_in, instance_in, instances_in}
use Rattle.cilk_program.specs.WellNamed.{loop_level, levels_of, has_cell, has_own, has_given, is_kind, have_kinds}
use Rattle.cilk_program.specs.WellNamed.{place_is_there, reducer_is_there, reducers_are_there, result_is_there}
use Rattle.cilk_program.specs.WellNamed.{is_well_named}
use Rattle.cilk_program.specs.Inside.{body_of, CalleeIsThere}
use Rattle.cilk_program.specs.Visible.{IsHalf, CanInvoke, GlobalsAreThere, Sees, SeesOuter, FrameSees, RootSees}
use Rattle.cilk_program.specs.Visible.{CalledSees, PartSees, FramesSee}
use Rattle.cilk_program.proofs.Asked.{IsPart, parts_asked}
use Rattle.cilk_program.proofs.Naming.{loop_levels}

-- ---- the children that a frame requests

half_of : (how : Invocation) (callee : Callee) → IsPart (asks.Invoke how callee) → IsHalf callee
half_of how callees.Root h = h
half_of how (callees.Function c) h = h
half_of how (callees.Loop l) h = h

pub can_invoke : (p : Source) (inputs : List ℤ) (parent : Callee) (history : List ℤ) (start left : ℕ) (how : Invocation) (callee : Callee)
    → frame_asks p inputs parent history start ≡ asks_for (asks.Invoke how callee) left → CanInvoke parent callee
can_invoke p inputs callees.Root history start left how callee e = inl refl
can_invoke p inputs (callees.Function c) history start left how callee e = inl refl
can_invoke p inputs (callees.Loop l) history start left how callee e =
    ⊎_elim (λ one. inl one) (λ several. inr (half_of how callee (subst (λ (q : OpenAsk). IsPart q.ask) e (parts_asked p l several inputs history start))))
    (cases_Bool (int_eq (l.high -ℤ l.low) (pos 1)))

-- ---- more exists

module _ {C I : Type 0} (p : Source) (global_cell : ℕ → C) (global_instance : ℕ → I)
    (HasCell HasCell' : C → Type 0) (HasReducer HasReducer' : I → MonoidKind → Type 0)
    (cell : (c : C) → HasCell c → HasCell' c) (reducer : (i : I) (k : MonoidKind) → HasReducer i k → HasReducer' i k) where
  pub globals_more : GlobalsAreThere p global_cell global_instance HasCell HasReducer
      → GlobalsAreThere p global_cell global_instance HasCell' HasReducer'
  globals_more h = record {
    cells = λ n low. cell (global_cell n) (h.cells n low);
    reducers = λ n k is. reducer (global_instance n) k (h.reducers n k is);
  }

  pub sees_more : (b : Body) (scope : Scope C I) → Sees p global_cell global_instance HasCell HasReducer b scope
      → Sees p global_cell global_instance HasCell' HasReducer' b scope
  sees_more b scope h = record {
    cells = λ x there. cell (cell_in global_cell scope x) (h.cells x there);
    reducers = λ r k there. reducer (instance_in global_instance scope r) k (h.reducers r k there);
  }

  outer_more : (callee : Callee) (scope : Scope C I)
      → SeesOuter p global_cell global_instance HasCell HasReducer callee scope
      → SeesOuter p global_cell global_instance HasCell' HasReducer' callee scope
  outer_more callees.Root scope h = tt
  outer_more (callees.Function c) scope h = tt
  outer_more (callees.Loop l) scope h = sees_more (loop_at p l.number).within (drop 1 scope) h

  pub frame_more : (callee : Callee) (scope : Scope C I) (target : Option C)
      → FrameSees p global_cell global_instance HasCell HasReducer callee scope target
      → FrameSees p global_cell global_instance HasCell' HasReducer' callee scope target
  frame_more callee scope target h = record {
    fit = h.fit;
    own = λ whole. sees_more (body_of p callee) scope (h.own whole);
    outer = outer_more callee scope h.outer;
    result = λ taken. let r = h.result taken in (r.0, r.1, cell r.0 r.2);
  }

-- ---- lists of monoids

-- a list without monoids has none at any place
pub none_given : (ks : List MonoidKind) (n : ℕ) (k : MonoidKind) {X : Type 0} → length ks ≡ 0
    → IsTrue (is_kind (slice_get ks n) k) → X
none_given [] n k e h = absurd (false≢true h)
none_given (j ∷ ks) n k e h = absurd (omega (arith, e))

-- ---- everything in a frame's scope exists

-- the number of a loop's body
abbrev body_loop : Body → ℕ
body_loop (bodies.Function k) = 0
body_loop (bodies.Loop k) = k

abbrev is_loop : Body → Type 0
is_loop (bodies.Function k) = ⊥
is_loop (bodies.Loop k) = Unit {0}

-- no number is both 0 and 1
absurd_step : {X : Type 0} (n : ℕ) → n ≡ 0 → n ≡ 1 → X
absurd_step n zero_is one_is = absurd (omega (arith, zero_is, one_is))

module _ {C I : Type 0} (p : Source) (global_cell : ℕ → C) (global_instance : ℕ → I)
    (HasCell : C → Type 0) (HasReducer : I → MonoidKind → Type 0) where
  abbrev See : Body → Scope C I → Type 0
  See = Sees p global_cell global_instance HasCell HasReducer

  abbrev SeeOuter : Callee → Scope C I → Type 0
  SeeOuter = SeesOuter p global_cell global_instance HasCell HasReducer

  abbrev FrameSee : Callee → Scope C I → Option C → Type 0
  FrameSee = FrameSees p global_cell global_instance HasCell HasReducer

  -- ---- bodies

  given_there : (b : Body) (scope : Scope C I) → See b scope → (rs : List Reducer) → IsTrue (reducers_are_there p b rs)
      → (kinds : List MonoidKind) → IsTrue (have_kinds rs kinds)
      → (n : ℕ) (k : MonoidKind) → IsTrue (is_kind (slice_get kinds n) k) → (other : I)
      → HasReducer (unwrap_or (slice_get (instances_in global_instance scope rs) n) other) k
  given_there b scope sees [] there [] have n k h other = absurd (false≢true h)
  given_there b scope sees [] there (j ∷ kinds) have n k h other = absurd (false≢true have)
  given_there b scope sees (r ∷ rs) there [] have n k h other = absurd (false≢true have)
  given_there b scope sees (r ∷ rs) there (j ∷ kinds) have zero k h other =
      let e = same_kind-eq r.kind j (and_parts _ (have_kinds rs kinds) have).0 ∙ same_kind-eq j k h in
      subst (λ k. HasReducer (instance_in global_instance scope r.place) k) e
      (sees.reducers r.place r.kind (and_parts (reducer_is_there p b r.place r.kind) (reducers_are_there p b rs) there).0)
  given_there b scope sees (r ∷ rs) there (j ∷ kinds) have (suc n) k h other =
      given_there b scope sees rs (and_parts (reducer_is_there p b r.place r.kind) (reducers_are_there p b rs) there).1 kinds (and_parts _ (have_kinds rs kinds) have).1 n k h other

  function_sees : GlobalsAreThere p global_cell global_instance HasCell HasReducer → (f : ℕ) (home : Home C I)
      → (let g = function_at p f in (n : ℕ) → n < g.cells → HasCell (home.cells n))
      → (let g = function_at p f in (n : ℕ) (k : MonoidKind) → IsTrue (is_kind (slice_get g.reducers n) k) → HasReducer (home.own n) k)
      → (let g = function_at p f in (n : ℕ) (k : MonoidKind) → IsTrue (is_kind (slice_get g.given n) k) → HasReducer (unwrap_or (slice_get home.given n) (global_instance n)) k)
      → See (bodies.Function f) (home ∷ [])
  function_sees globals f home has_cells own_are given_are = record { cells = see_cells; reducers = see_reducers }
    where
      see_cells : (x : Place) → IsTrue (place_is_there p (bodies.Function f) x)
          → HasCell (cell_in global_cell (home ∷ []) x)
      see_cells (places.Global n) h = globals.cells n (ltb-true n (length p.openings) h)
      see_cells (places.Local zero n) h = let g = function_at p f in has_cells n (ltb-true n g.cells h)
      see_cells (places.Local (suc up) n) h = absurd (false≢true h)

      see_reducers : (r : ReducerPlace) (k : MonoidKind) → IsTrue (reducer_is_there p (bodies.Function f) r k)
          → HasReducer (instance_in global_instance (home ∷ []) r) k
      see_reducers (reducers.Global n) k h = globals.reducers n k h
      see_reducers (reducers.Own zero n) k h = own_are n k h
      see_reducers (reducers.Own (suc up) n) k h = absurd (false≢true h)
      see_reducers (reducers.Given zero n) k h = given_are n k h
      see_reducers (reducers.Given (suc up) n) k h = absurd (false≢true h)

  turn_sees : IsTrue (is_well_named p) → (l : ℕ) → l < length p.loops → (home : Home C I) (outer : Scope C I)
      → (let body = loop_at p l in (n : ℕ) → n < body.cells → HasCell (home.cells n))
      → (let body = loop_at p l in See body.within outer) → See (bodies.Loop l) (home ∷ outer)
  turn_sees well l low home outer has_cells sees = record { cells = see_cells; reducers = see_reducers }
    where
      levels : levels_of p (bodies.Loop l) ≡ loop_level (loop_at p l) ∷ levels_of p (loop_at p l).within
      levels = loop_levels p well l low

      see_cells : (x : Place) → IsTrue (place_is_there p (bodies.Loop l) x)
          → HasCell (cell_in global_cell (home ∷ outer) x)
      see_cells (places.Global n) h = sees.cells (places.Global n) h
      see_cells (places.Local zero n) h = let body = loop_at p l in has_cells n (ltb-true n body.cells h)
      see_cells (places.Local (suc up) n) h = sees.cells (places.Local up n) (subst (λ ls. IsTrue (has_cell (slice_get ls (suc up)) n)) levels h)

      see_reducers : (r : ReducerPlace) (k : MonoidKind) → IsTrue (reducer_is_there p (bodies.Loop l) r k)
          → HasReducer (instance_in global_instance (home ∷ outer) r) k
      see_reducers (reducers.Global n) k h = sees.reducers (reducers.Global n) k h
      see_reducers (reducers.Own zero n) k h = absurd (false≢true h)
      see_reducers (reducers.Own (suc up) n) k h = sees.reducers (reducers.Own up n) k (subst (λ ls. IsTrue (has_own (slice_get ls (suc up)) n k)) levels h)
      see_reducers (reducers.Given zero n) k h = absurd (false≢true h)
      see_reducers (reducers.Given (suc up) n) k h = sees.reducers (reducers.Given up n) k (subst (λ ls. IsTrue (has_given (slice_get ls (suc up)) n k)) levels h)

  -- ---- static links and results

  of_loop : (parent : Callee) (scope : Scope C I) (n : ℕ) → SeeOuter parent scope → body_of p parent ≡ bodies.Loop n
      → (let body = loop_at p n in See body.within (drop 1 scope))
  of_loop callees.Root scope n outer same = absurd (subst is_loop (sym same) tt)
  of_loop (callees.Function c) scope n outer same = absurd (subst is_loop (sym same) tt)
  of_loop (callees.Loop l) scope n outer same = subst (λ n. See (loop_at p n).within (drop 1 scope)) (ap body_loop same) outer

  loop_sees : (parent : Callee) (scope : Scope C I) (target : Option C) (l : LoopPart) → FrameSee parent scope target
      → CalleeIsThere p (body_of p parent) (callees.Loop l) → CanInvoke parent (callees.Loop l)
      → (let body = loop_at p l.number in See body.within (drop l.up scope))
  loop_sees parent scope target l sees (fit, inl (up, same)) (inl whole) =
      subst (λ u. See (loop_at p l.number).within (drop u scope)) (sym up) (subst (λ b. See b scope) (sym same) (sees.own whole))
  loop_sees parent scope target l sees (fit, inl (up, same)) (inr one) = absurd_step l.up up one
  loop_sees parent scope target l sees (fit, inr (up, same)) can =
      subst (λ u. See (loop_at p l.number).within (drop u scope)) (sym up) (of_loop parent scope l.number sees.outer same)

  result_there : (b : Body) (scope : Scope C I) → See b scope → (o : Option Place) → IsTrue (result_is_there p b o)
      → (x : Place) → o ≡ Some x
      → (c : C) × (option_map (cell_in global_cell scope) o ≡ Some c) × HasCell c
  result_there b scope sees o there x e =
      (cell_in global_cell scope x, ap (option_map (cell_in global_cell scope)) e, sees.cells x (subst (λ o. IsTrue (result_is_there p b o)) e there))

  -- ---- frames

  pub root_sees : RootSees p global_cell global_instance HasCell HasReducer
  root_sees home globals has_cells own_are given_are = record {
    fit = tt;
    own = λ _. function_sees globals p.main home has_cells own_are given_are;
    outer = tt;
    result = λ taken. absurd taken;
  }

  pub called_sees : CalledSees p global_cell global_instance HasCell HasReducer
  called_sees parent scope target c cells own globals sees there (inr half) has_cells own_are = absurd half
  called_sees parent scope target c cells own globals sees there (inl whole) has_cells own_are =
      let f = function_at p c.function in
      let body = body_of p parent in
      let home : Home C I = record { cells = cells; own = own; given = instances_in global_instance scope c.reducers } in
      record {
        fit = there.0;
        own = λ _. function_sees globals c.function home has_cells own_are
            (λ n k is. given_there body scope (sees.own whole) c.reducers there.1 f.given there.0.1 n k is (global_instance n));
        outer = tt;
        result = λ taken. result_there body scope (sees.own whole) c.result there.2 taken.0 taken.1;
      }

  pub part_sees : IsTrue (is_well_named p) → PartSees p global_cell global_instance HasCell HasReducer
  part_sees well parent scope target l home sees there can has_cells =
      let outer = loop_sees parent scope target l sees there can in
      record {
        fit = there.0;
        own = λ whole. turn_sees well l.number there.0.0 home (drop l.up scope) (has_cells whole) outer;
        outer = outer;
        result = λ taken. absurd taken;
      }

pub frames_see : (p : Source) → IsTrue (is_well_named p)
    → (global_cell global_instance : ℕ → ℕ) (has_cell : ℕ → Bool) (has_reducer : ℕ → MonoidKind → Bool)
    → FramesSee p global_cell global_instance has_cell has_reducer
frames_see p well global_cell global_instance has_cell has_reducer = record {
  root = root_sees p global_cell global_instance (λ c. IsTrue (has_cell c)) (λ i k. IsTrue (has_reducer i k));
  called = called_sees p global_cell global_instance (λ c. IsTrue (has_cell c)) (λ i k. IsTrue (has_reducer i k));
  parts = part_sees p global_cell global_instance (λ c. IsTrue (has_cell c)) (λ i k. IsTrue (has_reducer i k)) well;
}
