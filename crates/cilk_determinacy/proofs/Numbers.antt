-- The numbers of names in a run. Names that the run has are numbered one to one.
--
-- - `frame_is`, `cell_is`, `number_is`: numbers by the frame's block;
-- - `one_frame`, `cells_one`, `instances_one`, `declared_one`: names with one number are equal,
--   `same_cells` and `same_instances` by comparison;
-- - `one_to_one`: the law.
use Rattle.std.proofs.Common.{◌≡◌, ◌⊎◌, inl, inr, ℕ, suc, ◌+◌, ◌≤◌, nat_eq, Bool, true, false, ◌&&◌, IsTrue, List, [], ◌∷◌, ◌++◌, slice_get, Option, Some, None, refl, sym, ap, ap₂, ◌∙◌, subst, arith, eq-eqb, eqb-true}
use Rattle.std.proofs.lemmas.Bool.{and_parts, and_from, false≢true, cases_Bool}
use Rattle.cilk_types.specs.declared.event.Instance as numbered
use Rattle.cilk_monoid.specs.declared.kind.MonoidKind.{MonoidKind}
use Rattle.cilk_monoid.proofs.SameKinds.{kind_itself, same_kind-eq}
use Rattle.cilk_monoid.specs.Kinds.{same_kind}
use Rattle.cilk_monoid.specs.Ranges as ranges
use Rattle.cilk_monoid.proofs.RangeLaws.{same_from_true, same_self}
use Rattle.cilk_program.specs.declared.ask.Callee.{Callee}
use Rattle.cilk_program.specs.declared.ask.Callee.TheVariants as callees
use Rattle.cilk_program.specs.Syntax.{Source}
use Rattle.cilk_program.specs.WellNamed.{is_kind}
use Rattle.cilk_program.specs.SerialRun.{Transcript}
use Rattle.cilk_program.specs.Numbering.{Block, Apart, frame_at}
use Rattle.cilk_program.proofs.Numbers.{one_name, past_globals}
use Rattle.cilk_determinacy.specs.Runs.{Name, Cell, Global, Own, same_cell, Instance, Output, Reducer, same_instance}
use Rattle.cilk_determinacy.proofs.Basics.{same_cell-refl, same_cell-eq, same_instance-refl, same_instance-eq}
use Rattle.cilk_determinacy.specs.Numbers.{up, down, frame_runs, all_reducers, first_cell, number_of, frame_number, cell_number, instance_number, IsHere, HasCell, HasReducer, HasInstance, AreOneToOne}
use Rattle.cilk_determinacy.specs.Reducers.{kind_of}

pub down_up : (path : List ℕ) → down (up path) ≡ path
down_up [] = refl
down_up (k ∷ path) = ap (λ l. k ∷ l) (down_up path)

pub up_more : (path : List ℕ) (k : ℕ) → up (path ++ k ∷ []) ≡ up path ++ suc k ∷ []
up_more [] k = refl
up_more (j ∷ path) k = ap (λ l. suc j ∷ l) (up_more path k)

pub one_reducer : {name name' : Name} {n n' : ℕ} {k k' : MonoidKind} → name ≡ name' → n ≡ n' → k ≡ k' → Reducer name n k ≡ Reducer name' n' k'
one_reducer a b c = cc

abbrev block_is : Option Block → Block → Block
block_is None b = b
block_is (Some c) b = c

module _ (p : Source) (r : Transcript) where
  found_at : (name : Name) (here : IsHere p r name) → frame_at p r (down name) ≡ Some here.block
  found_at name here = ap (frame_at p r) (ap down here.named ∙ down_up here.path) ∙ here.found

  pub frame_is : (name : Name) (here : IsHere p r name) → frame_number p r name ≡ here.block.number
  frame_is name here = ap number_of (found_at name here)

  pub cell_is : (name : Name) (n : ℕ) (here : IsHere p r name) → cell_number p r (Own name n) ≡ here.block.first + n
  cell_is name n here = ap (λ o. first_cell o + n) (found_at name here)

  pub number_is : (name : Name) (n : ℕ) (k : MonoidKind) (here : IsHere p r name) → instance_number p r (Reducer name n k) ≡ record { frame = here.block.number; place = suc n }
  number_is name n k here = ap (λ o. record { frame = number_of o; place = suc n }) (found_at name here)

  some_block : (b c : Block) → Some b ≡ Some c → b ≡ c
  some_block b c e = ap (λ o. block_is o b) e

  -- two frames of the run are equal, or their blocks are apart
  one_frame : (name name' : Name) (here : IsHere p r name) (here' : IsHere p r name') → ((name ≡ name') × (here.block ≡ here'.block)) ⊎ Apart here.block here'.block
  one_frame name name' here here' = by (one_name p r here.path here'.path here.block here'.block here.found here'.found)
    where
      by : (here.path ≡ here'.path) ⊎ Apart here.block here'.block → ((name ≡ name') × (here.block ≡ here'.block)) ⊎ Apart here.block here'.block
      by (inl e) = inl (here.named ∙ ap up e ∙ sym here'.named, some_block here.block here'.block (sym here.found ∙ ap (frame_at p r) e ∙ here'.found))
      by (inr apart) = inr apart

  pub cells_one : (c d : Cell) → HasCell p r c → HasCell p r d → cell_number p r c ≡ cell_number p r d → c ≡ d
  cells_one (Global a) (Global b) h g e = ap Global e
  cells_one (Global a) (Own name n) h (here, less) e =
      let low = past_globals p r here.path here.block here.found in
      let is = cell_is name n here in
      absurd (omega (arith, h, low, is, e))
  cells_one (Own name n) (Global a) (here, less) g e =
      let low = past_globals p r here.path here.block here.found in
      let is = cell_is name n here in
      absurd (omega (arith, g, low, is, e))
  cells_one (Own name n) (Own name' n') (here, less) (here', less') e = by (one_frame name name' here here')
    where
      is : cell_number p r (Own name n) ≡ here.block.first + n
      is = cell_is name n here

      is' : cell_number p r (Own name' n') ≡ here'.block.first + n'
      is' = cell_is name' n' here'

      disjoint : {X : Type 0} → (here.block.first + here.block.cells ≤ here'.block.first) ⊎ (here'.block.first + here'.block.cells ≤ here.block.first) → X
      disjoint (inl low) = let a = is in let b = is' in absurd (omega (arith, low, less, less', a, b, e))
      disjoint (inr low) = let a = is in let b = is' in absurd (omega (arith, low, less, less', a, b, e))

      by : ((name ≡ name') × (here.block ≡ here'.block)) ⊎ Apart here.block here'.block → Own name n ≡ Own name' n'
      by (inl (same, block)) =
          let first : here.block.first ≡ here'.block.first = ap (λ (b : Block). b.first) block in
          let a = is in let b = is' in
          let place : n ≡ n' = omega (arith, a, b, e, first) in
          ap₂ Own same place
      by (inr apart) = disjoint apart.cells

  -- the same by comparison
  pub same_cells : (c d : Cell) → HasCell p r c → HasCell p r d → same_cell c d ≡ nat_eq (cell_number p r c) (cell_number p r d)
  same_cells c d h g = by (cases_Bool (nat_eq (cell_number p r c) (cell_number p r d)))
    where
      other : (t : Bool) → same_cell c d ≡ t → t ≡ nat_eq (cell_number p r c) (cell_number p r d) → same_cell c d ≡ nat_eq (cell_number p r c) (cell_number p r d)
      other t e f = e ∙ f

      differ : nat_eq (cell_number p r c) (cell_number p r d) ≡ false → same_cell c d ≡ false
      differ fails = not_same (cases_Bool (same_cell c d))
        where
          not_same : (same_cell c d ≡ true) ⊎ (same_cell c d ≡ false) → same_cell c d ≡ false
          not_same (inl holds) = absurd (false≢true (sym fails ∙ eq-eqb (cell_number p r c) (cell_number p r d) (ap (cell_number p r) (same_cell-eq c d holds))))
          not_same (inr fails) = fails

      by : (nat_eq (cell_number p r c) (cell_number p r d) ≡ true) ⊎ (nat_eq (cell_number p r c) (cell_number p r d) ≡ false) → same_cell c d ≡ nat_eq (cell_number p r c) (cell_number p r d)
      by (inl holds) = subst (λ d. same_cell c d ≡ true) (cells_one c d h g (eqb-true (cell_number p r c) (cell_number p r d) holds)) (same_cell-refl c) ∙ sym holds
      by (inr fails) = differ fails ∙ sym fails

  pub instances_one : (i j : Instance) → HasInstance p r i → HasInstance p r j → instance_number p r i ≡ instance_number p r j → kind_of i ≡ kind_of j → i ≡ j
  instances_one Output j h g e f = absurd h
  instances_one (Reducer name n k) Output h g e f = absurd g
  instances_one (Reducer name n k) (Reducer name' n' k') h g e f = by (one_frame name name' h.here g.here)
    where
      numbers : h.here.block.number ≡ g.here.block.number
      numbers = ap (λ (i : numbered.Instance). i.frame) (sym (number_is name n k h.here) ∙ e ∙ number_is name' n' k' g.here)

      places : n ≡ n'
      places = let q : suc n ≡ suc n' = ap (λ (i : numbered.Instance). i.place) e in omega (arith, q)

      by : ((name ≡ name') × (h.here.block ≡ g.here.block)) ⊎ Apart h.here.block g.here.block → Reducer name n k ≡ Reducer name' n' k'
      by (inl (same, block)) = one_reducer same places f
      by (inr apart) = absurd (apart.numbers numbers)

  pub same_instances : (i j : Instance) → HasInstance p r i → HasInstance p r j → same_instance i j ≡ (same_kind (kind_of i) (kind_of j) && ranges.same_instance (instance_number p r i) (instance_number p r j))
  same_instances i j h g = by (cases_Bool (same_kind (kind_of i) (kind_of j) && ranges.same_instance (instance_number p r i) (instance_number p r j)))
    where
      differ : (same_kind (kind_of i) (kind_of j) && ranges.same_instance (instance_number p r i) (instance_number p r j)) ≡ false → same_instance i j ≡ false
      differ fails = not_same (cases_Bool (same_instance i j))
        where
          not_same : (same_instance i j ≡ true) ⊎ (same_instance i j ≡ false) → same_instance i j ≡ false
          not_same (inl holds) =
              let e : i ≡ j = same_instance-eq i j holds in
              let both = and_from (same_kind (kind_of i) (kind_of i)) (ranges.same_instance (instance_number p r i) (instance_number p r i)) (kind_itself (kind_of i)) (same_self (instance_number p r i)) in
              absurd (false≢true (sym fails ∙ subst (λ j. (same_kind (kind_of i) (kind_of j) && ranges.same_instance (instance_number p r i) (instance_number p r j)) ≡ true) e both))
          not_same (inr fails) = fails

      by : ((same_kind (kind_of i) (kind_of j) && ranges.same_instance (instance_number p r i) (instance_number p r j)) ≡ true) ⊎ ((same_kind (kind_of i) (kind_of j) && ranges.same_instance (instance_number p r i) (instance_number p r j)) ≡ false)
          → same_instance i j ≡ (same_kind (kind_of i) (kind_of j) && ranges.same_instance (instance_number p r i) (instance_number p r j))
      by (inl holds) =
          let both = and_parts (same_kind (kind_of i) (kind_of j)) (ranges.same_instance (instance_number p r i) (instance_number p r j)) holds in
          subst (λ j. same_instance i j ≡ true) (instances_one i j h g (same_from_true (instance_number p r i) (instance_number p r j) both.1) (same_kind-eq (kind_of i) (kind_of j) both.0)) (same_instance-refl i) ∙ sym holds
      by (inr fails) = differ fails ∙ sym fails

  -- a number and its declaration determine the monoid
  pub declared_one : (name name' : Name) (n n' : ℕ) (k k' : MonoidKind) → HasReducer p r name n k → HasReducer p r name' n' k' → instance_number p r (Reducer name n k) ≡ instance_number p r (Reducer name' n' k') → Reducer name n k ≡ Reducer name' n' k'
  declared_one name name' n n' k k' h g e = by (one_name p r h.here.path g.here.path h.here.block g.here.block h.here.found g.here.found)
    where
      numbers : h.here.block.number ≡ g.here.block.number
      numbers = ap (λ (i : numbered.Instance). i.frame) (sym (number_is name n k h.here) ∙ e ∙ number_is name' n' k' g.here)

      places : n ≡ n'
      places = let q : suc n ≡ suc n' = ap (λ (i : numbered.Instance). i.place) e in omega (arith, q)

      callee_is : Option Callee → Callee
      callee_is None = callees.Root
      callee_is (Some x) = x

      one_kind : (o : Option MonoidKind) (k k' : MonoidKind) → IsTrue (is_kind o k) → IsTrue (is_kind o k') → k ≡ k'
      one_kind None k k' a b = absurd (false≢true a)
      one_kind (Some j) k k' a b = sym (same_kind-eq j k a) ∙ same_kind-eq j k' b

      by : (h.here.path ≡ g.here.path) ⊎ Apart h.here.block g.here.block → Reducer name n k ≡ Reducer name' n' k'
      by (inl same) =
          let runs : h.callee ≡ g.callee = ap callee_is (sym h.runs ∙ ap (frame_runs r) same ∙ g.runs) in
          let there = subst (λ callee. IsTrue (is_kind (slice_get (all_reducers p callee) n') k')) (sym runs) g.declared in
          let here = subst (λ n. IsTrue (is_kind (slice_get (all_reducers p h.callee) n) k)) places h.declared in
          one_reducer (h.here.named ∙ ap up same ∙ sym g.here.named) places (one_kind (slice_get (all_reducers p h.callee) n') k k' here there)
      by (inr apart) = absurd (apart.numbers numbers)

  frames_one : (name name' : Name) → IsHere p r name → IsHere p r name' → frame_number p r name ≡ frame_number p r name' → name ≡ name'
  frames_one name name' here here' e = by (one_frame name name' here here')
    where
      by : ((name ≡ name') × (here.block ≡ here'.block)) ⊎ Apart here.block here'.block → name ≡ name'
      by (inl (same, block)) = same
      by (inr apart) = absurd (apart.numbers (sym (frame_is name here) ∙ e ∙ frame_is name' here'))

  reducers_one : (i j : Instance) → HasInstance p r i → HasInstance p r j → instance_number p r i ≡ instance_number p r j → i ≡ j
  reducers_one Output j h g e = absurd h
  reducers_one (Reducer name n k) Output h g e = absurd g
  reducers_one (Reducer name n k) (Reducer name' n' k') h g e = declared_one name name' n n' k k' h g e

  pub one_to_one : AreOneToOne p r
  one_to_one = record { frames = frames_one; cells = cells_one; reducers = reducers_one }
