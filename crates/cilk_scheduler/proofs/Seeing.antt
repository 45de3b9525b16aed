-- The meaning of places to a frame, by names and by numbers.
--
-- - `cell_named`, `cell_numbered`, `reducer_named`, `reducer_numbered`: what a place means by names
--   and by numbers at once;
-- - `asked_there`: what a frame requests exists;
-- - `one_cell_number`, `one_cell`: a cell has one number, and a number one cell;
-- - `no_absent_cell`, `no_absent_reducer`: what has a number isn't of a frame that hasn't begun.
use Rattle.std.proofs.Common.{◌≡◌, ⊎_elim, ◌+◌, ◌-◌, ◌<◌, ◌≤◌, ℕ, zero, suc, Bool, true, false, IsTrue, ℤ, List, [], ◌∷◌, ◌++◌, length, map, slice_get, unwrap_or, Some, None, refl, sym, ap, ◌∙◌, subst, arith}
use Rattle.std.proofs.lemmas.Bool.{cases_lt}
use Rattle.cilk_types.specs.declared.event.Instance as numbered
use Rattle.cilk_types.specs.declared.limits.TheConstants.{MAX_TICKS}
use Rattle.cilk_program.specs.declared.ask.Ask as language
use Rattle.cilk_program.specs.declared.syntax.Place.{Place}
use Rattle.cilk_program.specs.declared.syntax.Place.TheVariants as places
use Rattle.cilk_program.specs.declared.syntax.ReducerPlace.{ReducerPlace}
use Rattle.cilk_program.specs.declared.syntax.ReducerPlace.TheVariants as reducers
use Rattle.cilk_program.specs.Behaviour.{OpenAsk}
use Rattle.cilk_program.specs.Inside.{AskIsThere, CalleeIsFit}
use Rattle.cilk_program.specs.Scopes.{Scope, cell_in, instance_in}
use Rattle.cilk_program.specs.SerialRun.{global_reducer, itself}
use Rattle.cilk_program.specs.Syntax.{Source}
use Rattle.cilk_program.specs.WellNamed.{is_well_named}
use Rattle.cilk_program.proofs.Asked.{asks_there}
use Rattle.cilk_lower.specs.Code.{CodeView}
use Rattle.cilk_frames.specs.Cursor.{CursorView}
use Rattle.cilk_frames.specs.Following.{word_in}
use Rattle.cilk_frames.specs.declared.activation.Activation.{Activation}
use Rattle.cilk_determinacy.specs.Machine.{State}
use Rattle.cilk_determinacy.specs.Runs.{Name, Cell, Global, Own, Instance, Reducer, same_instance, Deed}
use Rattle.cilk_determinacy.proofs.Basics.{same_instance-eq}
use Rattle.cilk_scheduler.specs.KeptCursors.{IsTold}
use Rattle.cilk_determinacy.specs.FrameEnvMachine.{answers_of}
use Rattle.cilk_determinacy.specs.Reducers.{View}
use Rattle.cilk_determinacy.specs.FrameEnvs.{FrameEnv, global_named}
use Rattle.cilk_scheduler.specs.declared.scheduler.Scheduler.{Scheduler}
use Rattle.cilk_scheduler.specs.declared.frame_state.Due.{Due}
use Rattle.cilk_scheduler.specs.declared.frame_state.Due.TheVariants as due
use Rattle.cilk_scheduler.specs.declared.frame_state.FrameState.{FrameState}
use Rattle.cilk_scheduler.specs.Asking.{WentOnFrom}
use Rattle.cilk_scheduler.specs.Schedulers.{IsDue, ShowsBy}
use Rattle.cilk_scheduler.specs.WorkerTables.{WorkerTable}
use Rattle.cilk_scheduler.specs.Numbered.{AreNamed, IsAbsent, size_of, IsCell, IsInstance, CellBoth, ReducerBoth, names_in, numbers_in, global_cell, global_both}
use Rattle.cilk_scheduler.proofs.Plain.{get_low}

-- ---- by names and by numbers at once

pub cell_named : (scope : Scope CellBoth ReducerBoth) (x : Place) → (let c = cell_in global_cell scope x in c.0) ≡ cell_in Global (names_in scope) x
cell_named scope (places.Global n) = refl
cell_named [] (places.Local up n) = refl
cell_named (h ∷ scope) (places.Local zero n) = refl
cell_named (h ∷ scope) (places.Local (suc up) n) = cell_named scope (places.Local up n)

pub cell_numbered : (scope : Scope CellBoth ReducerBoth) (x : Place) → (let c = cell_in global_cell scope x in c.1) ≡ cell_in itself (numbers_in scope) x
cell_numbered scope (places.Global n) = refl
cell_numbered [] (places.Local up n) = refl
cell_numbered (h ∷ scope) (places.Local zero n) = refl
cell_numbered (h ∷ scope) (places.Local (suc up) n) = cell_numbered scope (places.Local up n)

given_named : (list : List ReducerBoth) (n m : ℕ) → (let r = unwrap_or (slice_get list n) (global_both m) in r.0) ≡ unwrap_or (slice_get (map (λ (r : ReducerBoth). r.0) list) n) (global_named m)
given_named [] n m = refl
given_named (r ∷ list) zero m = refl
given_named (r ∷ list) (suc n) m = given_named list n m

given_numbered : (list : List ReducerBoth) (n m : ℕ) → (let r = unwrap_or (slice_get list n) (global_both m) in r.1) ≡ unwrap_or (slice_get (map (λ (r : ReducerBoth). r.1) list) n) (global_reducer m)
given_numbered [] n m = refl
given_numbered (r ∷ list) zero m = refl
given_numbered (r ∷ list) (suc n) m = given_numbered list n m

pub reducer_named : (scope : Scope CellBoth ReducerBoth) (x : ReducerPlace) → (let r = instance_in global_both scope x in r.0) ≡ instance_in global_named (names_in scope) x
reducer_named scope (reducers.Global n) = refl
reducer_named [] (reducers.Own up n) = refl
reducer_named (h ∷ scope) (reducers.Own zero n) = refl
reducer_named (h ∷ scope) (reducers.Own (suc up) n) = reducer_named scope (reducers.Own up n)
reducer_named [] (reducers.Given up n) = refl
reducer_named (h ∷ scope) (reducers.Given zero n) = given_named h.given n n
reducer_named (h ∷ scope) (reducers.Given (suc up) n) = reducer_named scope (reducers.Given up n)

pub reducer_numbered : (scope : Scope CellBoth ReducerBoth) (x : ReducerPlace) → (let r = instance_in global_both scope x in r.1) ≡ instance_in global_reducer (numbers_in scope) x
reducer_numbered scope (reducers.Global n) = refl
reducer_numbered [] (reducers.Own up n) = refl
reducer_numbered (h ∷ scope) (reducers.Own zero n) = refl
reducer_numbered (h ∷ scope) (reducers.Own (suc up) n) = reducer_numbered scope (reducers.Own up n)
reducer_numbered [] (reducers.Given up n) = refl
reducer_numbered (h ∷ scope) (reducers.Given zero n) = given_numbered h.given n n
reducer_numbered (h ∷ scope) (reducers.Given (suc up) n) = reducer_numbered scope (reducers.Given up n)

-- ---- what is requested exists

module _ (code : CodeView) (p : Source) (inputs : List ℤ) where
  pub asked_there : (w : FrameEnv) (past : List (Deed FrameEnv)) (x came : FrameState) (c : CursorView) (k : language.Ask) (d : Due) → IsTrue (is_well_named p) → CalleeIsFit p w.callee
      → x.cursor ≡ Some c → IsDue code p inputs w past d c x.took → WentOnFrom code inputs d x k came → AskIsThere p w.callee k
  asked_there w past x came c k due.Begin well fit at is h = subst (AskIsThere p w.callee) (sym h.0) tt
  asked_there w past x came c k (due.Answer a) well fit at told h =
      let same : h.before ≡ c = (let q : Some h.before ≡ Some c = sym h.was ∙ at in cc) in
      let told' : IsTold code p inputs w past h.before a x.took = subst (λ b. IsTold code p inputs w past b a x.took) (sym same) told in
      let goes = h.goes_on p w.callee (answers_of told'.past) x.took told'.stands in
      subst (λ (q : OpenAsk). AskIsThere p w.callee q.ask) goes.asks (asks_there p well w.callee fit inputs (answers_of told'.past ++ word_in a ∷ []) (x.took + (MAX_TICKS - x.took)))
  asked_there w past x came c k due.Sync well fit at is h = subst (AskIsThere p w.callee) (sym h.0) tt

-- ---- numbers of cells

module _ (code : CodeView) (p : Source) (inputs : List ℤ) (name : ℕ → Name) (b : Scheduler) (d : WorkerTable) (s : State FrameEnv View) (sh : ShowsBy code p inputs name b d s) where
  abbrev frames : List (Activation FrameState)
  frames = let f = b.frames in f.items

  abbrev Has : Cell → ℕ → Type 0
  Has c n = IsCell p frames name s c n

  named : AreNamed frames name
  named = let t = sh.tells in t.named

  frame_state_same : (k : ℕ) (x y : Activation FrameState) → slice_get frames k ≡ Some x → slice_get frames k ≡ Some y → x ≡ y
  frame_state_same k x y h g = let q : Some x ≡ Some y = sym h ∙ g in cc

  -- a frame has one place
  place_same : (m : Name) (j k : ℕ) (x y : Activation FrameState) → slice_get frames j ≡ Some x → slice_get frames k ≡ Some y → name j ≡ m → name k ≡ m → j ≡ k
  place_same m j k x y h g e f = let t = named in t.apart j k (get_low frames j x h) (get_low frames k y g) (e ∙ sym f)

  -- a cell has one number
  pub one_cell_number : (c : Cell) (n m : ℕ) → Has c n → Has c m → n ≡ m
  one_cell_number (Global g) n m h h' = h.0 ∙ sym h'.0
  one_cell_number (Own z q) n m h h' =
      let at = place_same z h.0 h'.0 h.1 h'.1 h.2 h'.2 h.3 h'.3 in
      let same = frame_state_same h'.0 h.1 h'.1 (subst (λ j. slice_get frames j ≡ Some h.1) at h.2) h'.2 in
      h.4 ∙ ap (λ (x : Activation FrameState). x.base + q) same ∙ sym h'.4

  -- frames' cells lie past the global ones
  past_globals : (k : ℕ) (x : Activation FrameState) → slice_get frames k ≡ Some x → length p.openings ≤ x.base
  past_globals zero x h = let t = sh.tells in t.first x h
  past_globals (suc k) x h =
      let first = first_there frames k x h in
      let t = sh.tells in
      let low = t.first first.0 first.1 in
      let up = t.ascend 0 (suc k) first.0 x first.1 h (omega arith) in
      omega (arith, low, up)
    where
      first_there : (list : List (Activation FrameState)) (j : ℕ) (y : Activation FrameState) → slice_get list (suc j) ≡ Some y → (z : Activation FrameState) × (slice_get list 0 ≡ Some z)
      first_there [] j y h = let no : None ≡ Some y = h in let z : ⊥ = cc in absurd z
      first_there (z ∷ list) j y h = (z, refl)

  -- two frames' cells have different numbers
  blocks_apart : (j k : ℕ) (x y : Activation FrameState) (q r n : ℕ) → slice_get frames j ≡ Some x → slice_get frames k ≡ Some y → n ≡ x.base + q → q < size_of p (s.frames (name j)) → n ≡ y.base + r → j < k → ⊥
  blocks_apart j k x y q r n h g e low e' less = let t = sh.tells in let up = t.ascend j k x y h g less in omega (arith, up, e, e', low)

  -- and a number one cell
  pub one_cell : (c c' : Cell) (n : ℕ) → Has c n → Has c' n → c ≡ c'
  one_cell (Global g) (Global g') n h h' = ap Global (sym h.0 ∙ h'.0)
  one_cell (Global g) (Own z q) n h h' = let past = past_globals h'.0 h'.1 h'.2 in let e = h.0 in let low = h.1 in let e' = h'.4 in absurd (omega (arith, past, e, low, e'))
  one_cell (Own z q) (Global g) n h h' = let past = past_globals h.0 h.1 h.2 in let e = h'.0 in let low = h'.1 in let e' = h.4 in absurd (omega (arith, past, e, low, e'))
  one_cell (Own z q) (Own z' q') n h h' =
      let small : q < size_of p (s.frames (name h.0)) = subst (λ m. q < size_of p (s.frames m)) (sym h.3) h.5 in
      let small' : q' < size_of p (s.frames (name h'.0)) = subst (λ m. q' < size_of p (s.frames m)) (sym h'.3) h'.5 in
      ⊎_elim (λ less. absurd (blocks_apart h.0 h'.0 h.1 h'.1 q q' n h.2 h'.2 h.4 small h'.4 less))
      (λ least. ⊎_elim (λ less. absurd (blocks_apart h'.0 h.0 h'.1 h.1 q' q n h'.2 h.2 h'.4 small' h.4 less))
      (λ most.
      let at : h.0 ≡ h'.0 = omega (arith, least, most) in
      let same = frame_state_same h'.0 h.1 h'.1 (subst (λ j. slice_get frames j ≡ Some h.1) at h.2) h'.2 in
      let bases : (let x = h.1 in x.base) ≡ (let y = h'.1 in y.base) = ap (λ (x : Activation FrameState). x.base) same in
      let e = h.4 in
      let e' = h'.4 in
      let qs : q ≡ q' = omega (arith, bases, e, e') in
      ap (λ m. Own m q) (sym h.3 ∙ ap name at ∙ h'.3) ∙ ap (λ r. Own z' r) qs)
      (cases_lt h'.0 h.0)) (cases_lt h.0 h'.0)

-- ---- what has a number is of a frame that has begun

module _ (p : Source) (frames : List (Activation FrameState)) (name : ℕ → Name) where
  pub no_absent_cell : (s : State FrameEnv View) (n m : Name) (q : ℕ) (i : ℕ) → IsAbsent frames name n → IsCell p frames name s (Own n q) i → ⊥
  no_absent_cell s n m q i none h = none h.0 (get_low frames h.0 h.1 h.2) h.3

  pub no_absent_reducer : (n : Name) (q : ℕ) (kind : _) (i : Instance) (j : numbered.Instance) → IsAbsent frames name n → IsInstance p frames name i j → (t : Bool) → same_instance i (Reducer n q kind) ≡ t → same_instance i (Reducer n q kind) ≡ false
  no_absent_reducer n q kind i j none is true e =
      let it = subst (λ x. IsInstance p frames name x j) (same_instance-eq i (Reducer n q kind) e) is in
      absurd (none it.0 it.1 it.2)
  no_absent_reducer n q kind i j none is false e = e
