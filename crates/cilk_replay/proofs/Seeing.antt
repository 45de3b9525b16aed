-- Facts about the cells and reducers that a frame sees.
--
-- - `seen`: a place that the frame names; `cell_found`: the cell that is requested;
-- - `reducer_found`: the same of reducers;
-- - `root_sees`, `child_sees`: frames as they begin;
-- - `lies_at`: a frame by its number; `block_in`, `body_in`: its cells and its body.
use Rattle.std.proofs.Common.{◌≡◌, ◌≢◌, ℕ, zero, suc, ◌+◌, ◌-◌, nat_eq, nat_lt, if◌then◌else◌, Bool, true, false, IsTrue, List, [], ◌∷◌, ◌++◌, drop, length, map, Option, Some, None, slice_get, unwrap_or, option_map, refl, sym, ap, ◌∙◌, subst, arith, ltb-false, ltb-true, eqb-true, eq-eqb}
use Rattle.std.proofs.lemmas.Bool.{false≢true}
use Rattle.cilk_types.specs.declared.event.Instance as numbered
use Rattle.cilk_monoid.specs.declared.kind.MonoidKind.{MonoidKind}
use Rattle.cilk_program.specs.declared.ask.Ask.{Ask}
use Rattle.cilk_program.specs.declared.ask.Ask.TheVariants as asks
use Rattle.cilk_program.specs.declared.ask.Callee.{Callee}
use Rattle.cilk_program.specs.declared.ask.Callee.TheVariants as callees
use Rattle.cilk_program.specs.declared.program.Body.TheVariants as bodies
use Rattle.cilk_program.specs.declared.syntax.Place.{Place}
use Rattle.cilk_program.specs.declared.syntax.Place.TheVariants as places
use Rattle.cilk_program.specs.declared.syntax.Reducer.{Reducer}
use Rattle.cilk_program.specs.declared.syntax.ReducerPlace.{ReducerPlace}
use Rattle.cilk_program.specs.declared.syntax.ReducerPlace.TheVariants as reducers
use Rattle.cilk_program.specs.Inside.{AskIsThere, CalleeIsThere, body_of}
use Rattle.cilk_program.specs.Scopes.{Home as SeenHome, at_home, cell_in, instance_in, instances_in}
use Rattle.cilk_program.specs.SerialRun.{Transcript, own_reducers}
use Rattle.cilk_program.specs.Sources.{source}
use Rattle.cilk_program.specs.Syntax.{Source, function_at, main_of}
use Rattle.cilk_program.specs.WellNamed.{is_kind, is_well_named}
use Rattle.cilk_program.specs.Numbering.{Block, frame_at}
use Rattle.cilk_program.specs.Visible.{CanInvoke, FrameSees, GlobalsAreThere}
use Rattle.cilk_program.proofs.Naming.{well_named_parts}
use Rattle.cilk_program.proofs.Visible.{root_sees as first_sees, called_sees, none_given, part_sees}
use Rattle.cilk_determinacy.specs.Runs.{Name, Cell, Global, Own, Instance, Output}
use Rattle.cilk_determinacy.specs.FrameEnvs.{FrameEnv, Reducers, Sight as Seen, before_own, child_env, first_env, given_named, global_named, home_named, outer_named, own_named, result_named, cell_seen, reducer_seen, result_cell}
use Rattle.cilk_determinacy.specs.Numbers.{up, down, instance_number, IsHere, HasInstance, HasReducer}
use Rattle.cilk_determinacy.proofs.Numbers.{cell_is, down_up, number_is}
use Rattle.cilk_determinacy.proofs.Sights.{global_here, own_here, root_here}
use Rattle.cilk_replay.specs.Frames.{same_body}
use Rattle.cilk_replay.specs.Replays.{AreFramesAlong, ReplayValue, IsBlockOf, IsBodyOf, IsFrameOf}
use Rattle.cilk_lower.specs.Layout.{planned_frame}
use Rattle.cilk_lower.specs.declared.layout.PlannedFrame.{PlannedFrame}
use Rattle.cilk_replay.specs.declared.frame_layout.CellBlock.{CellBlock}
use Rattle.cilk_replay.specs.declared.frame_layout.FrameLayout.{FrameLayout}
use Rattle.cilk_replay.specs.declared.frame_layout.ReducerNumber.{ReducerNumber}
use Rattle.cilk_replay.specs.declared.sight.Sight.{Sight}
use Rattle.cilk_replay.specs.Reducing.{as_instance, given_seen, global_reducer, outer_given, own_reducer, own_there, reducer_asked, reducer_in}
use Rattle.cilk_replay.specs.Sights.{found_global, found_inside, found_there, found_in, number_taking, cell_asked, cells_of_block, layouts_of, outer_layouts, result_number, IsSightOf, IsNumberOf, IsReducer, AreReducers, HasLayout, HaveLayouts, HaveGiven, Sees}
use Rattle.cilk_replay.proofs.Children.{IsChild, runs_there}

module _ (p : Source) (r : Transcript) where
  abbrev Is : Cell → Option ℕ → Type 0
  Is = IsNumberOf p r

  global_found : (n : ℕ) → Is (Global n) (found_global (length p.openings) n)
  global_found n = by (nat_lt n (length p.openings)) refl
    where
      by : (b : Bool) → nat_lt n (length p.openings) ≡ b → Is (Global n) (if b then Some n else None)
      by true q = (ltb-true n (length p.openings) q, refl)
      by false q = λ less. let low = ltb-false n (length p.openings) q in omega (arith, low, less)

  pub seen : (hs : Seen) (bs : List FrameLayout) → HaveLayouts p r hs bs → (x : Place) → Is (cell_in Global hs x) (found_in (length p.openings) bs x)
  seen hs bs h (places.Global n) = global_found n
  seen hs bs h (places.Local up n) = by hs bs h up
    where
      by : (hs : Seen) (bs : List FrameLayout) → HaveLayouts p r hs bs → (up : ℕ) → Is (cell_in Global hs (places.Local up n)) (found_there (length p.openings) (slice_get bs up) n)
      by [] [] h up = global_found n
      by [] (b ∷ bs) h up = absurd h
      by (x ∷ hs) [] h up = absurd h
      by (x ∷ hs) (b ∷ bs) h zero = h.0.cells n
      by (x ∷ hs) (b ∷ bs) h (suc up) = by hs bs h.1 up

  dropped : (n : ℕ) (hs : Seen) (bs : List FrameLayout) → HaveLayouts p r hs bs → HaveLayouts p r (drop n hs) (drop n bs)
  dropped zero hs bs h = h
  dropped (suc n) [] [] h = tt
  dropped (suc n) [] (b ∷ bs) h = absurd h
  dropped (suc n) (x ∷ hs) [] h = absurd h
  dropped (suc n) (x ∷ hs) (b ∷ bs) h = dropped n hs bs h.1

  one_block : (name : Name) (a b : IsHere p r name) → a.block ≡ b.block
  one_block name a b =
      let paths : a.path ≡ b.path = sym (down_up a.path) ∙ ap down (sym a.named ∙ b.named) ∙ down_up b.path in
      inner a.block b.block (sym a.found ∙ ap (frame_at p r) paths ∙ b.found)
    where
      inner : (x y : Block) → Some x ≡ Some y → x ≡ y
      inner x y q = cc

  own_found : (name : Name) (here : IsHere p r name) (b : CellBlock) → b ≡ cells_of_block here.block → (n : ℕ) → Is (Own name n) (found_inside b n)
  own_found name here b is n = subst (λ (z : CellBlock). Is (Own name n) (found_inside z n)) (sym is) (by (nat_lt n here.block.cells) refl)
    where
      by : (t : Bool) → nat_lt n here.block.cells ≡ t → Is (Own name n) (if t then Some (here.block.first + n) else None)
      by true q = ((here, ltb-true n here.block.cells q), cell_is p r name n here)
      by false q = λ has.
          let low = ltb-false n here.block.cells q in
          let less = has.1 in
          let same : has.0.block.cells ≡ here.block.cells = ap (λ (b : Block). b.cells) (one_block name has.0 here) in
          omega (arith, low, less, same)

  -- ---- reducers

  abbrev numbered_as : ℕ → ℕ → numbered.Instance
  numbered_as f n = record { frame = f; place = n }

  one_more : (n : ℕ) → suc n ≡ n + 1
  one_more n = omega arith

  global_is : (n : ℕ) → IsReducer p r (global_named n) (global_reducer n)
  global_is n k = ap (numbered_as 1) (one_more n)

  -- a frame's own
  own_is : (callee : Callee) (name : Name) (here : IsHere p r name) (layout : FrameLayout) → here.block.number ≡ layout.frame → layout.before ≡ before_own p callee → (n : ℕ) → IsReducer p r (own_named p callee name n) (own_reducer layout n)
  own_is callee name here layout frame before n k =
      number_is p r name (before_own p callee + n) k here
      ∙ (ap (λ m. numbered_as m (suc (before_own p callee + n))) frame
      ∙ ap (numbered_as layout.frame) (let q = before in let e : suc (before_own p callee + n) ≡ layout.before + n + 1 = omega (arith, q) in e))

  given_at : (is : List Reducers) (ns : List ReducerNumber) → AreReducers p r is ns → (n : ℕ) (i : Reducers) (m : ReducerNumber) → IsReducer p r i m → IsReducer p r (unwrap_or (slice_get is n) i) (unwrap_or (slice_get ns n) m)
  given_at [] [] h n i m e = e
  given_at [] (y ∷ ns) h n i m e = absurd h
  given_at (x ∷ is) [] h n i m e = absurd h
  given_at (x ∷ is) (y ∷ ns) h zero i m e = h.0
  given_at (x ∷ is) (y ∷ ns) h (suc n) i m e = given_at is ns h.1 n i m e

  -- the reducers passed to the frame `up` links out
  abbrev given_there : Seen → ℕ → ℕ → Reducers
  given_there hs up n = at_home (slice_get hs up) (global_named n) (λ h. unwrap_or (slice_get h.given n) (global_named n))

  given_last : (hs : Seen) (bs : List FrameLayout) (given : List ReducerNumber) → HaveLayouts p r hs bs → HaveGiven p r hs given → (up n : ℕ) → up + 1 ≡ length bs
      → IsReducer p r (given_there hs up n) (unwrap_or (slice_get given n) (global_reducer n))
  given_last [] [] given h g up n last = absurd (omega (arith, last))
  given_last [] (b ∷ bs) given h g up n last = absurd h
  given_last (x ∷ hs) [] given h g up n last = absurd h
  given_last (x ∷ []) (b ∷ []) given h g zero n last = given_at x.given given g n (global_named n) (global_reducer n) (global_is n)
  given_last (x ∷ []) (b ∷ []) given h g (suc up) n last = absurd (omega (arith, last))
  given_last (x ∷ []) (b ∷ b' ∷ bs) given h g up n last = absurd h.1
  given_last (x ∷ x' ∷ hs) (b ∷ []) given h g up n last = absurd h.1
  given_last (x ∷ x' ∷ hs) (b ∷ b' ∷ bs) given h g zero n last = absurd (omega (arith, last))
  given_last (x ∷ x' ∷ hs) (b ∷ b' ∷ bs) given h g (suc up) n last = given_last (x' ∷ hs) (b' ∷ bs) given h.1 g.1 up n (omega (arith, last))

  given_other : (hs : Seen) (bs : List FrameLayout) (given : List ReducerNumber) → HaveLayouts p r hs bs → HaveGiven p r hs given → (up n : ℕ) → (up + 1 ≡ length bs → ⊥)
      → IsReducer p r (given_there hs up n) (global_reducer n)
  given_other [] [] given h g up n other = global_is n
  given_other [] (b ∷ bs) given h g up n other = absurd h
  given_other (x ∷ hs) [] given h g up n other = absurd h
  given_other (x ∷ []) (b ∷ []) given h g zero n other = absurd (other (omega arith))
  given_other (x ∷ []) (b ∷ []) given h g (suc up) n other = global_is n
  given_other (x ∷ []) (b ∷ b' ∷ bs) given h g up n other = absurd h.1
  given_other (x ∷ x' ∷ hs) (b ∷ []) given h g up n other = absurd h.1
  given_other (x ∷ x' ∷ hs) (b ∷ b' ∷ bs) given h g zero n other =
      subst (λ (is : List Reducers). IsReducer p r (unwrap_or (slice_get is n) (global_named n)) (global_reducer n)) (sym g.0) (global_is n)
  given_other (x ∷ x' ∷ hs) (b ∷ b' ∷ bs) given h g (suc up) n other = given_other (x' ∷ hs) (b' ∷ bs) given h.1 g.1 up n (λ last. other (omega (arith, last)))

  -- the reducer that a place means
  pub reducer_is : (hs : Seen) (bs : List FrameLayout) (given : List ReducerNumber) → HaveLayouts p r hs bs → HaveGiven p r hs given → (x : ReducerPlace) → IsReducer p r (instance_in global_named hs x) (reducer_in bs given x)
  reducer_is hs bs given h g (reducers.Global n) = global_is n
  reducer_is hs bs given h g (reducers.Own up n) = by hs bs h up
    where
      by : (hs : Seen) (bs : List FrameLayout) → HaveLayouts p r hs bs → (up : ℕ) → IsReducer p r (instance_in global_named hs (reducers.Own up n)) (own_there (slice_get bs up) n)
      by [] [] h up = global_is n
      by [] (b ∷ bs) h up = absurd h
      by (x ∷ hs) [] h up = absurd h
      by (x ∷ hs) (b ∷ bs) h zero = h.0.own n
      by (x ∷ hs) (b ∷ bs) h (suc up) = by hs bs h.1 up
  reducer_is hs bs given h g (reducers.Given up n) = by (nat_eq (up + 1) (length bs)) refl
    where
      by : (t : Bool) → nat_eq (up + 1) (length bs) ≡ t → IsReducer p r (given_there hs up n) (if t then unwrap_or (slice_get given n) (global_reducer n) else global_reducer n)
      by true q = given_last hs bs given h g up n (eqb-true (up + 1) (length bs) q)
      by false q = given_other hs bs given h g up n (λ last. false≢true (sym q ∙ eq-eqb (up + 1) (length bs) last))

  all_given : (hs : Seen) (bs : List FrameLayout) (given : List ReducerNumber) → HaveLayouts p r hs bs → HaveGiven p r hs given → (rs : List Reducer) → AreReducers p r (instances_in global_named hs rs) (map (λ (x : Reducer). reducer_in bs given x.place) rs)
  all_given hs bs given h g [] = tt
  all_given hs bs given h g (x ∷ rs) = (reducer_is hs bs given h g x.place, all_given hs bs given h g rs)

  none_left : (n : ℕ) (given : List ReducerNumber) → HaveGiven p r (drop n []) given
  none_left zero given = tt
  none_left (suc n) given = tt

  given_dropped : (n : ℕ) (hs : Seen) (given : List ReducerNumber) → HaveGiven p r hs given → HaveGiven p r (drop n hs) given
  given_dropped zero hs given g = g
  given_dropped (suc n) [] given g = tt
  given_dropped (suc n) (x ∷ []) given g = none_left n given
  given_dropped (suc n) (x ∷ x' ∷ hs) given g = given_dropped n (x' ∷ hs) given g.1

  -- a frame that is given none, before others
  none_given_to : (x : SeenHome Cell Reducers) (hs : Seen) (bs : List FrameLayout) (given : List ReducerNumber) → x.given ≡ [] → HaveLayouts p r hs bs → HaveGiven p r hs given → HaveGiven p r (x ∷ hs) (outer_given bs given)
  none_given_to x [] [] given none h g = subst (λ (is : List Reducers). AreReducers p r is []) (sym none) tt
  none_given_to x [] (b ∷ bs) given none h g = absurd h
  none_given_to x (y ∷ hs) [] given none h g = absurd h
  none_given_to x (y ∷ hs) (b ∷ bs) given none h g = (none, g)

  -- a frame's own layout
  layout_is : (callee : Callee) (name : Name) (is : List Reducers) (here : IsHere p r name) (layout : FrameLayout) → layout.block ≡ cells_of_block here.block → here.block.number ≡ layout.frame → layout.before ≡ before_own p callee
      → HasLayout p r (home_named p callee name is) layout
  layout_is callee name is here layout block frame before = record { cells = own_found name here layout.block block; own = own_is callee name here layout frame before }

  -- ---- reducers exist

  abbrev HasOne : Reducers → MonoidKind → Type 0
  HasOne i k = HasInstance p r (i k)

  abbrev See : Callee → Seen → Option Cell → Type 0
  See = FrameSees p Global global_named (λ c. Unit {0}) HasOne

  globals_are_there : GlobalsAreThere p Global global_named (λ c. Unit {0}) HasOne
  globals_are_there = record { cells = λ n less. tt; reducers = global_here p r }

  -- those of a child that runs what the plan's child does
  same_function : (f g : ℕ) → same_body (bodies.Function f) (bodies.Function g) ≡ true → f ≡ g
  same_function f g h = eqb-true f g h

  child_own : (name : Name) (k : ℕ) (v : FrameEnv) → IsChild p r name k v → (callee : Callee) → callee ≢ callees.Root → same_body (body_of p v.callee) (body_of p callee) ≡ true
      → (n : ℕ) (kind : MonoidKind) → IsTrue (is_kind (slice_get (own_reducers p callee) n) kind) → HasInstance p r (own_named p callee (name ++ k ∷ []) n kind)
  child_own name k v c callees.Root other same n kind is = absurd (other refl)
  child_own name k v c (callees.Loop l) other same n kind is = absurd (false≢true is)
  child_own name k v c (callees.Function g) other same n kind is = by v.callee refl
    where
      by : (planned : Callee) → v.callee ≡ planned → HasInstance p r (own_named p (callees.Function g) (name ++ k ∷ []) n kind)
      by callees.Root q = absurd (c.callee q)
      by (callees.Loop l) q = absurd (false≢true (subst (λ (z : Callee). same_body (body_of p z) (bodies.Function g.function) ≡ true) q same))
      by (callees.Function f) q =
          let one : f.function ≡ g.function = same_function f.function g.function (subst (λ (z : Callee). same_body (body_of p z) (bodies.Function g.function) ≡ true) q same) in
          let there = subst (λ (m : ℕ). let z = function_at p m in IsTrue (is_kind (slice_get z.reducers n) kind)) (sym one) is in
          let has : HasReducer p r v.name n kind = record { here = c.here; callee = callees.Function f; runs = c.runs ∙ ap Some q; declared = there } in
          let e : n ≡ 0 + n = omega arith in
          subst (λ m. HasReducer p r (name ++ k ∷ []) m kind) e (subst (λ z. HasReducer p r z n kind) c.named has)

  -- ---- frames as they begin

  pub root_sees : IsTrue (is_well_named p) → (here : IsHere p r []) (layout : FrameLayout) (s : Sight) → layout.block ≡ cells_of_block here.block → here.block.number ≡ layout.frame → layout.before ≡ length p.reducers
      → layouts_of s ≡ layout ∷ [] → s.given.items ≡ [] → s.result ≡ found_global (length p.openings) 0 → Sees p r (first_env p) s
  root_sees well here layout s block frame before layouts given none =
      let parts = well_named_parts p well in
      let f = main_of p in
      record {
        layouts = subst (λ (bs : List FrameLayout). HaveLayouts p r (first_env p).sight bs) (sym layouts) (layout_is callees.Root [] [] here layout block frame before, tt);
        given = subst (λ (ns : List ReducerNumber). AreReducers p r [] ns) (sym given) tt;
        result = subst (Is (Global 0)) (sym none) (global_found 0);
        reducers = first_sees p Global global_named (λ c. Unit {0}) HasOne (home_named p callees.Root [] []) globals_are_there (λ n less. tt)
            (λ n k is. own_here p r callees.Root [] (root_here p r) refl n k is) (λ n k is. none_given f.given n k parts.takes_no_reducers is);
      }

  outer_have : (callee : Callee) (hs : Seen) (bs : List FrameLayout) → HaveLayouts p r hs bs → HaveLayouts p r (outer_named callee hs) (outer_layouts callee bs)
  outer_have callees.Root hs bs h = tt
  outer_have (callees.Function c) hs bs h = tt
  outer_have (callees.Loop l) hs bs h = dropped l.up hs bs h

  result_have : (callee : Callee) (hs : Seen) (bs : List FrameLayout) → HaveLayouts p r hs bs → Is (unwrap_or (result_named callee hs) (Global 0)) (result_number (length p.openings) callee bs)
  result_have callees.Root hs bs h = global_found 0
  result_have (callees.Function f) hs bs h = by f.result
    where
      by : (o : Option Place) → Is (unwrap_or (option_map (cell_in Global hs) o) (Global 0)) (number_taking (length p.openings) bs o)
      by None = global_found 0
      by (Some x) = seen hs bs h x
  result_have (callees.Loop l) hs bs h = global_found 0

  given_have : (callee : Callee) (name : Name) (hs : Seen) (bs : List FrameLayout) (given : List ReducerNumber) → HaveLayouts p r hs bs → HaveGiven p r hs given
      → HaveGiven p r (home_named p callee name (given_named callee hs) ∷ outer_named callee hs) (given_seen callee bs given)
  given_have callees.Root name hs bs given h g = tt
  given_have (callees.Function c) name hs bs given h g = all_given hs bs given h g c.reducers
  given_have (callees.Loop l) name hs bs given h g = none_given_to (home_named p (callees.Loop l) name []) (drop l.up hs) (drop l.up bs) given refl (dropped l.up hs bs h) (given_dropped l.up hs given g)

  -- facts about a child: its body exists, the plan's child has the same body, and its own layout
  pub record Begins (w : FrameEnv) (k : ℕ) (callee : Callee) (layout : FrameLayout) : Type 0 where
    pub well : IsTrue (is_well_named p)
    pub other : callee ≢ callees.Root
    pub there : CalleeIsThere p (body_of p w.callee) callee
    pub can : CanInvoke w.callee callee
    pub planned : FrameEnv
    pub child : IsChild p r w.name k planned
    pub same : same_body (body_of p planned.callee) (body_of p callee) ≡ true
    pub here : IsHere p r (w.name ++ k ∷ [])
    pub block : layout.block ≡ cells_of_block here.block
    pub frame : here.block.number ≡ layout.frame
    pub before : layout.before ≡ 0

  none_before : (callee : Callee) → callee ≢ callees.Root → before_own p callee ≡ 0
  none_before callees.Root other = absurd (other refl)
  none_before (callees.Function c) other = refl
  none_before (callees.Loop l) other = refl

  child_see : (w : FrameEnv) (k : ℕ) (callee : Callee) (layout : FrameLayout) → Begins w k callee layout → See w.callee w.sight w.result → (let c = child_env p w k callee in See c.callee c.sight c.result)
  child_see w k callees.Root layout b see = absurd (b.other refl)
  child_see w k (callees.Function c) layout b see =
      called_sees p Global global_named (λ c. Unit {0}) HasOne w.callee w.sight w.result c (Own (w.name ++ k ∷ [])) (own_named p (callees.Function c) (w.name ++ k ∷ [])) globals_are_there see b.there b.can
      (λ n less. tt) (child_own w.name k b.planned b.child (callees.Function c) b.other b.same)
  child_see w k (callees.Loop l) layout b see =
      part_sees p Global global_named (λ c. Unit {0}) HasOne b.well w.callee w.sight w.result l (home_named p (callees.Loop l) (w.name ++ k ∷ []) []) see b.there b.can (λ whole n less. tt)

  pub child_sees : (w : FrameEnv) (caller : Sight) → Sees p r w caller → (k : ℕ) (callee : Callee) (layout : FrameLayout) (s : Sight) → Begins w k callee layout
      → IsSightOf (length p.openings) callee layout caller s → Sees p r (child_env p w k callee) s
  child_sees w caller sees k callee layout s b of = record {
    layouts = subst (λ (bs : List FrameLayout). HaveLayouts p r (child_env p w k callee).sight bs) (sym of.0)
        (layout_is callee (w.name ++ k ∷ []) (given_named callee w.sight) b.here layout b.block b.frame (b.before ∙ sym (none_before callee b.other)), outer_have callee w.sight (layouts_of caller) sees.layouts);
    given = subst (HaveGiven p r (child_env p w k callee).sight) (sym of.1) (given_have callee (w.name ++ k ∷ []) w.sight (layouts_of caller) caller.given.items sees.layouts sees.given);
    result = subst (Is (unwrap_or (result_named callee w.sight) (Global 0))) (sym of.2) (result_have callee w.sight (layouts_of caller) sees.layouts);
    reducers = child_see w k callee layout b sees.reducers;
  }

  -- the cell that a frame requests
  abbrev pub asked_cell : FrameEnv → Ask → Cell
  asked_cell w (asks.Read x) = cell_seen w x
  asked_cell w (asks.Write x v) = cell_seen w x
  asked_cell w (asks.Result v) = result_cell w
  asked_cell w k = Global 0

  abbrev pub AsksForCell : Ask → Type 0
  AsksForCell (asks.Read x) = Unit {0}
  AsksForCell (asks.Write x v) = Unit {0}
  AsksForCell (asks.Result v) = Unit {0}
  AsksForCell k = ⊥

  pub cell_found : (w : FrameEnv) (s : Sight) → Sees p r w s → (k : Ask) → AsksForCell k → Is (asked_cell w k) (cell_asked (length p.openings) s k)
  cell_found w s h (asks.Read x) u = seen w.sight (layouts_of s) h.layouts x
  cell_found w s h (asks.Write x v) u = seen w.sight (layouts_of s) h.layouts x
  cell_found w s h (asks.Result v) u = h.result
  cell_found w s h k u = absurd u

-- the reducer that a frame requests
module _ (p : Source) (r : Transcript) where
  abbrev pub asked_instance : FrameEnv → Ask → Instance
  asked_instance w (asks.Create x) = reducer_seen w x
  asked_instance w (asks.Update x v) = reducer_seen w x
  asked_instance w (asks.Set x v) = reducer_seen w x
  asked_instance w (asks.Value x) = reducer_seen w x
  asked_instance w k = Output

  abbrev pub AsksForReducer : Ask → Type 0
  AsksForReducer (asks.Create x) = Unit {0}
  AsksForReducer (asks.Update x v) = Unit {0}
  AsksForReducer (asks.Set x v) = Unit {0}
  AsksForReducer (asks.Value x) = Unit {0}
  AsksForReducer k = ⊥

  -- it is the run's, and has this number
  pub record IsFound (w : FrameEnv) (s : Sight) (k : Ask) : Type 0 where
    pub has : HasInstance p r (asked_instance w k)
    pub number : instance_number p r (asked_instance w k) ≡ as_instance (reducer_asked (layouts_of s) s.given.items k)

  pub reducer_found : (w : FrameEnv) (s : Sight) → Sees p r w s → (k : Ask) → AsksForReducer k → AskIsThere p w.callee k → IsFound w s k
  reducer_found w s h (asks.Create x) u there = record { has = (h.reducers.own there.0).reducers x.place x.kind there.1; number = reducer_is p r w.sight (layouts_of s) s.given.items h.layouts h.given x.place x.kind }
  reducer_found w s h (asks.Update x v) u there = record { has = (h.reducers.own there.0).reducers x.place x.kind there.1; number = reducer_is p r w.sight (layouts_of s) s.given.items h.layouts h.given x.place x.kind }
  reducer_found w s h (asks.Set x v) u there = record { has = (h.reducers.own there.0).reducers x.place x.kind there.1; number = reducer_is p r w.sight (layouts_of s) s.given.items h.layouts h.given x.place x.kind }
  reducer_found w s h (asks.Value x) u there = record { has = (h.reducers.own there.0).reducers x.place x.kind there.1; number = reducer_is p r w.sight (layouts_of s) s.given.items h.layouts h.given x.place x.kind }
  reducer_found w s h k u there = absurd u

inner_frame : (o : Option PlannedFrame) (a other : PlannedFrame) → o ≡ Some a → unwrap_or o other ≡ a
inner_frame None a other q = absurd (let z : None ≡ Some a = q in cc z)
inner_frame (Some b) a other q = cc q

-- where a course's list has a frame
pub lies_at : (u v : ReplayValue) (frames : List PlannedFrame) (number place : ℕ) (other found : PlannedFrame) → u ≡ v → AreFramesAlong u frames → place ≡ number - 1
    → found ≡ unwrap_or (slice_get frames place) other → IsFrameOf v number found
lies_at u v frames number place other found same are at is run path b callee prog frame runs q =
    let here = subst (λ (z : ReplayValue). AreFramesAlong z frames) same are run prog path b callee frame runs in
    let spot : place ≡ b.number - 1 = omega (arith, at, q) in
    is ∙ inner_frame (slice_get frames place) (planned_frame (source v.program) callee b) other (ap (slice_get frames) spot ∙ here)

-- the frame there
pub block_in : (u : ReplayValue) (number : ℕ) (f : PlannedFrame) → IsFrameOf u number f → IsBlockOf u number (record { first = f.first_cell; cells = f.cells })
block_in u number f h run path b prog frame q =
    let runs = runs_there (source u.program) run path b frame in
    let Of : PlannedFrame → CellBlock = λ z. record { first = z.first_cell; cells = z.cells } in
    ap Of (h run path b runs.0 prog frame runs.1 q)

pub body_in : (u : ReplayValue) (number : ℕ) (f : PlannedFrame) → IsFrameOf u number f → IsBodyOf u number f.body
body_in u number f h run path b callee prog frame runs q = ap (λ (z : PlannedFrame). z.body) (h run path b callee prog frame runs q)
