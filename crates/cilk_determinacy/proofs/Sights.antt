-- The cells and reducers that frames see by names exist, and their numbers are those that the
-- serial run's frames see.
use Rattle.std.proofs.Common.{◌≡◌, ℕ, zero, suc, ◌+◌, IsTrue, List, [], ◌∷◌, ◌++◌, length, drop, slice_get, unwrap_or, Option, Some, None, option_map, refl, ap, ◌∙◌, subst, arith}
use Rattle.std.proofs.lemmas.Bool.{false≢true}
use Rattle.cilk_types.specs.declared.event.Instance as numbered
use Rattle.cilk_monoid.specs.declared.kind.MonoidKind.{MonoidKind}
use Rattle.cilk_program.specs.declared.ask.Callee.{Callee}
use Rattle.cilk_program.specs.declared.ask.Callee.TheVariants as callees
use Rattle.cilk_program.specs.declared.syntax.Place.{Place}
use Rattle.cilk_program.specs.declared.syntax.Place.TheVariants as places
use Rattle.cilk_program.specs.declared.syntax.Reducer as syntax
use Rattle.cilk_program.specs.declared.syntax.ReducerPlace.{ReducerPlace}
use Rattle.cilk_program.specs.declared.syntax.ReducerPlace.TheVariants as reducers
use Rattle.cilk_program.specs.Syntax.{Source, function_at, main_of}
use Rattle.cilk_program.specs.Scopes.{Home, Scope, cell_in, instance_in, instances_in}
use Rattle.cilk_program.specs.WellNamed.{is_kind}
use Rattle.cilk_program.specs.SerialRun.{Transcript, Frame, itself, global_reducer, own_reducers, first_place, home_of, outer_of, given_to, result_of}
use Rattle.cilk_program.specs.Numbering.{Counts, unbegun, block_of, child_at, frame_at}
use Rattle.cilk_program.specs.Visible.{GlobalsAreThere, FrameSees}
use Rattle.cilk_determinacy.specs.Runs.{Name, Cell, Global}
use Rattle.cilk_determinacy.specs.Reducers.{kind_of}
use Rattle.cilk_determinacy.specs.FrameEnvs.{Reducers, Sight, global_named, before_own, own_named, home_named, outer_named, given_named, result_named, FrameEnv}
use Rattle.cilk_determinacy.specs.Numbers.{up, child_runs, frame_runs, all_reducers, cell_number, instance_number, IsHere, HasCell, HasReducer, HasInstance}
use Rattle.cilk_determinacy.proofs.Numbers.{cell_is, number_is}

-- ---- lists of monoids

kind_ahead : (ks more : List MonoidKind) (n : ℕ) (k : MonoidKind) → IsTrue (is_kind (slice_get ks n) k) → IsTrue (is_kind (slice_get (ks ++ more) n) k)
kind_ahead [] more n k h = absurd (false≢true h)
kind_ahead (j ∷ ks) more zero k h = h
kind_ahead (j ∷ ks) more (suc n) k h = kind_ahead ks more n k h

kind_behind : (ks more : List MonoidKind) (n : ℕ) (k : MonoidKind) → IsTrue (is_kind (slice_get more n) k) → IsTrue (is_kind (slice_get (ks ++ more) (length ks + n)) k)
kind_behind [] more n k h = let e : n ≡ 0 + n = omega arith in subst (λ n. IsTrue (is_kind (slice_get more n) k)) e h
kind_behind (j ∷ ks) more n k h =
    let e : suc (length ks + n) ≡ suc (length ks) + n = omega arith in
    subst (λ n. IsTrue (is_kind (slice_get (j ∷ (ks ++ more)) n) k)) e (kind_behind ks more n k h)

own_declared : (p : Source) (callee : Callee) (n : ℕ) (k : MonoidKind) → IsTrue (is_kind (slice_get (own_reducers p callee) n) k) → IsTrue (is_kind (slice_get (all_reducers p callee) (before_own p callee + n)) k)
own_declared p callees.Root n k h = let f = main_of p in kind_behind p.reducers f.reducers n k h
own_declared p (callees.Function c) n k h = let f = function_at p c.function in let e : n ≡ 0 + n = omega arith in subst (λ n. IsTrue (is_kind (slice_get f.reducers n) k)) e h
own_declared p (callees.Loop l) n k h = absurd (false≢true h)

own_place : (p : Source) (callee : Callee) (n : ℕ) → suc (before_own p callee + n) ≡ first_place p callee + n
own_place p callees.Root n = omega arith
own_place p (callees.Function c) n = omega arith
own_place p (callees.Loop l) n = omega arith

module _ (p : Source) (r : Transcript) where
  -- ---- numbers

  -- a reducer has this number, and its monoids are its own
  abbrev pub IsNumbered : Reducers → numbered.Instance → Type 0
  IsNumbered i j = (k : MonoidKind) → (instance_number p r (i k) ≡ j) × (kind_of (i k) ≡ k)

  abbrev pub AllTied : List Reducers → List numbered.Instance → Type 0
  AllTied [] [] = Unit {0}
  AllTied [] (j ∷ js) = ⊥
  AllTied (i ∷ is) [] = ⊥
  AllTied (i ∷ is) (j ∷ js) = IsNumbered i j × AllTied is js

  pub record TiedHome (h : Home Cell Reducers) (h' : Home ℕ numbered.Instance) : Type 0 where
    pub cells : (n : ℕ) → cell_number p r (h.cells n) ≡ h'.cells n
    pub own : (n : ℕ) → IsNumbered (h.own n) (h'.own n)
    pub given : AllTied h.given h'.given

  -- a sight's numbers are those of a scope
  abbrev pub Tied : Sight → Scope ℕ numbered.Instance → Type 0
  Tied [] [] = Unit {0}
  Tied [] (h ∷ s) = ⊥
  Tied (h ∷ s) [] = ⊥
  Tied (h ∷ s) (h' ∷ s') = TiedHome h h' × Tied s s'

  pub global_tied : (n : ℕ) → IsNumbered (global_named n) (global_reducer n)
  global_tied n k = (refl, refl)

  pub tied_cell : (s : Sight) (s' : Scope ℕ numbered.Instance) → Tied s s' → (x : Place) → cell_number p r (cell_in Global s x) ≡ cell_in itself s' x
  tied_cell s s' t (places.Global n) = refl
  tied_cell [] [] t (places.Local up n) = refl
  tied_cell [] (h ∷ s') t (places.Local up n) = absurd t
  tied_cell (h ∷ s) [] t (places.Local up n) = absurd t
  tied_cell (h ∷ s) (h' ∷ s') t (places.Local zero n) = t.0.cells n
  tied_cell (h ∷ s) (h' ∷ s') t (places.Local (suc up) n) = tied_cell s s' t.1 (places.Local up n)

  tied_given : (is : List Reducers) (js : List numbered.Instance) → AllTied is js → (n : ℕ) (i : Reducers) (j : numbered.Instance) → IsNumbered i j → IsNumbered (unwrap_or (slice_get is n) i) (unwrap_or (slice_get js n) j)
  tied_given [] [] t n i j e = e
  tied_given [] (y ∷ js) t n i j e = absurd t
  tied_given (x ∷ is) [] t n i j e = absurd t
  tied_given (x ∷ is) (y ∷ js) t zero i j e = t.0
  tied_given (x ∷ is) (y ∷ js) t (suc n) i j e = tied_given is js t.1 n i j e

  pub tied_reducer : (s : Sight) (s' : Scope ℕ numbered.Instance) → Tied s s' → (x : ReducerPlace) → IsNumbered (instance_in global_named s x) (instance_in global_reducer s' x)
  tied_reducer s s' t (reducers.Global n) = global_tied n
  tied_reducer [] [] t (reducers.Own up n) = global_tied n
  tied_reducer [] (h ∷ s') t (reducers.Own up n) = absurd t
  tied_reducer (h ∷ s) [] t (reducers.Own up n) = absurd t
  tied_reducer (h ∷ s) (h' ∷ s') t (reducers.Own zero n) = t.0.own n
  tied_reducer (h ∷ s) (h' ∷ s') t (reducers.Own (suc up) n) = tied_reducer s s' t.1 (reducers.Own up n)
  tied_reducer [] [] t (reducers.Given up n) = global_tied n
  tied_reducer [] (h ∷ s') t (reducers.Given up n) = absurd t
  tied_reducer (h ∷ s) [] t (reducers.Given up n) = absurd t
  tied_reducer (h ∷ s) (h' ∷ s') t (reducers.Given zero n) = tied_given h.given h'.given t.0.given n (global_named n) (global_reducer n) (global_tied n)
  tied_reducer (h ∷ s) (h' ∷ s') t (reducers.Given (suc up) n) = tied_reducer s s' t.1 (reducers.Given up n)

  tied_instances : (s : Sight) (s' : Scope ℕ numbered.Instance) → Tied s s' → (rs : List syntax.Reducer) → AllTied (instances_in global_named s rs) (instances_in global_reducer s' rs)
  tied_instances s s' t [] = tt
  tied_instances s s' t (x ∷ rs) = (tied_reducer s s' t x.place, tied_instances s s' t rs)

  tied_drop : (n : ℕ) (s : Sight) (s' : Scope ℕ numbered.Instance) → Tied s s' → Tied (drop n s) (drop n s')
  tied_drop zero s s' t = t
  tied_drop (suc n) [] [] t = tt
  tied_drop (suc n) [] (h ∷ s') t = absurd t
  tied_drop (suc n) (h ∷ s) [] t = absurd t
  tied_drop (suc n) (h ∷ s) (h' ∷ s') t = tied_drop n s s' t.1

  pub tied_outer : (callee : Callee) (s : Sight) (s' : Scope ℕ numbered.Instance) → Tied s s' → Tied (outer_named callee s) (outer_of callee s')
  tied_outer callees.Root s s' t = tt
  tied_outer (callees.Function c) s s' t = tt
  tied_outer (callees.Loop l) s s' t = tied_drop l.up s s' t

  pub tied_to : (callee : Callee) (s : Sight) (s' : Scope ℕ numbered.Instance) → Tied s s' → AllTied (given_named callee s) (given_to callee s')
  tied_to callees.Root s s' t = tt
  tied_to (callees.Function c) s s' t = tied_instances s s' t c.reducers
  tied_to (callees.Loop l) s s' t = tt

  pub tied_result : (callee : Callee) (s : Sight) (s' : Scope ℕ numbered.Instance) → Tied s s' → option_map (cell_number p r) (result_named callee s) ≡ result_of callee s'
  tied_result callees.Root s s' t = refl
  tied_result (callees.Function c) s s' t = by c.result
    where
      by : (o : Option Place) → option_map (cell_number p r) (option_map (cell_in Global s) o) ≡ option_map (cell_in itself s') o
      by None = refl
      by (Some x) = ap Some (tied_cell s s' t x)
  tied_result (callees.Loop l) s s' t = refl

  -- a frame's own reducers
  pub own_tied : (callee : Callee) (name : Name) (here : IsHere p r name) (number : ℕ) → here.block.number ≡ number → (n : ℕ) → IsNumbered (own_named p callee name n) (record { frame = number; place = first_place p callee + n })
  own_tied callee name here number same n k = (
    number_is p r name (before_own p callee + n) k here
        ∙ ap (λ n. record { frame = here.block.number; place = n }) (own_place p callee n)
        ∙ ap (λ number. record { frame = number; place = first_place p callee + n }) same,
    refl,
  )

  pub tied_home : (callee : Callee) (name : Name) (here : IsHere p r name) (number base : ℕ) → here.block.number ≡ number → here.block.first ≡ base → (is : List Reducers) (js : List numbered.Instance) → AllTied is js
      → TiedHome (home_named p callee name is) (home_of p callee number base js)
  tied_home callee name here number base same first is js t = record {
    cells = λ n. cell_is p r name n here ∙ ap (λ base. base + n) first;
    own = λ n. own_tied callee name here number same n;
    given = t;
  }

  -- ---- names that exist

  -- of the reducers at a place, the one of this monoid is there
  abbrev pub HasOne : Reducers → MonoidKind → Type 0
  HasOne i k = HasInstance p r (i k)

  has_reducer : (name : Name) (here : IsHere p r name) (callee : Callee) → frame_runs r here.path ≡ Some callee → (n : ℕ) (k : MonoidKind) → IsTrue (is_kind (slice_get (all_reducers p callee) n) k) → HasReducer p r name n k
  has_reducer name here callee runs n k declared = record { here = here; callee = callee; runs = runs; declared = declared }

  abbrev pub root_here : IsHere p r []
  root_here = record { path = []; named = refl; block = block_of p callees.Root (unbegun p); found = refl }

  pub global_here : (n : ℕ) (k : MonoidKind) → IsTrue (is_kind (slice_get p.reducers n) k) → HasInstance p r (global_named n k)
  global_here n k h = let f = main_of p in has_reducer [] root_here callees.Root refl n k (kind_ahead p.reducers f.reducers n k h)

  pub own_here : (callee : Callee) (name : Name) (here : IsHere p r name) → frame_runs r here.path ≡ Some callee → (n : ℕ) (k : MonoidKind) → IsTrue (is_kind (slice_get (own_reducers p callee) n) k) → HasInstance p r (own_named p callee name n k)
  own_here callee name here runs n k h = has_reducer name here callee runs (before_own p callee + n) k (own_declared p callee n k h)

  pub globals_here : GlobalsAreThere p Global global_named (HasCell p r) HasOne
  globals_here = record { cells = λ n less. less; reducers = global_here }

  -- ---- frames

  -- a frame by names is this frame of the serial run, and sees what is there
  pub record Stands (w : FrameEnv) (fr : Frame) : Type 0 where
    pub here : IsHere p r w.name
    pub number : here.block.number ≡ fr.number
    pub runs : frame_runs r here.path ≡ Some w.callee
    pub callee : w.callee ≡ fr.callee
    pub tied : Tied w.sight fr.scope
    pub result_tied : option_map (cell_number p r) w.result ≡ fr.result
    pub sees : FrameSees p Global global_named (HasCell p r) HasOne w.callee w.sight w.result

  -- the rest of the run of the frame at a path, where j of its children have begun
  pub record Ahead (path : List ℕ) (j : ℕ) (rest : Transcript) (n : Counts) : Type 0 where
    pub blocks : (i : ℕ) (more : List ℕ) → frame_at p r (path ++ (j + i) ∷ more) ≡ child_at p rest n i more
    pub runs : (i : ℕ) (more : List ℕ) → frame_runs r (path ++ (j + i) ∷ more) ≡ child_runs rest i more
