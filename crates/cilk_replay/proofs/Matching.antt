-- Whether a frame requests the plan's next event.
--
-- - `asked_there`, `differs_there`: by the event's sort;
-- - `cell_there`, `cell_differs`: by the cell read or written;
-- - `child_there`, `child_differs`: by the body of the child;
-- - `reducer_there`, `reducer_differs`: by the reducer.
use Rattle.std.proofs.Common.{◌≡◌, ◌≢◌, ℕ, suc, ℤ, Bool, true, false, cond, List, [], ◌∷◌, ◌++◌, length, Option, None, Some, refl, sym, ap, ap₂, ◌∙◌, subst}
use Rattle.std.proofs.lemmas.Bool.{and_from, false≢true}
use Rattle.cilk_types.specs.declared.event.Event.{Event}
use Rattle.cilk_types.specs.declared.event.Event.TheVariants as events
use Rattle.cilk_program.specs.declared.syntax.Place.{Place}
use Rattle.cilk_program.specs.declared.syntax.Reducer.{Reducer}
use Rattle.cilk_tree.specs.declared.kind.Kind.TheVariants as kinds
use Rattle.cilk_types.specs.declared.event.Instance as numbered
use Rattle.cilk_types.specs.declared.invocation.Invocation.{Invocation}
use Rattle.cilk_types.specs.declared.invocation.Invocation.TheVariants as invocations
use Rattle.cilk_program.specs.declared.ask.Ask as language
use Rattle.cilk_program.specs.declared.ask.Ask.TheVariants as asks
use Rattle.cilk_program.specs.declared.ask.Callee.{Callee}
use Rattle.cilk_program.specs.declared.ask.Callee.TheVariants as callees
use Rattle.cilk_program.specs.declared.program.Body.{Body}
use Rattle.cilk_program.specs.Inside.{body_of}
use Rattle.cilk_program.specs.SerialRun.{Transcript}
use Rattle.cilk_program.specs.Syntax.{Source}
use Rattle.cilk_tree.specs.declared.kind.Kind.{Kind}
use Rattle.cilk_tree.specs.Kinds.{kind_of, kind_of_event}
use Rattle.cilk_program.specs.Numbering.{Block, frame_at}
use Rattle.cilk_determinacy.specs.Machine.{started}
use Rattle.cilk_determinacy.proofs.Basics.{same_name-refl}
use Rattle.cilk_determinacy.specs.Runs.{Name, same_name, Cell, Instance, Ask, Write, Deed, Does, Invokes, Reads, Writes, Syncs, Ends, Passes, Begins, Resumes, Creates, Updates, Sets, Values, Prints}
use Rattle.cilk_determinacy.specs.Traces.{IsWritten}
use Rattle.cilk_tree.specs.Runs.{IsAsked}
use Rattle.cilk_tree.specs.Word.{event}
use Rattle.cilk_determinacy.specs.FrameEnvMachine.{asked_after, has_ended, named_ask, next, retired_by}
use Rattle.cilk_determinacy.specs.FrameEnvs.{FrameEnv, cell_seen, child_env, reducer_seen}
use Rattle.cilk_determinacy.specs.Numbers.{HasCell, HasInstance, cell_number, frame_number, frame_runs, instance_number, start_event}
use Rattle.cilk_determinacy.proofs.Numbers.{cells_one, frame_is, one_to_one}
use Rattle.cilk_replay.specs.Frames.{same_body, same_frame}
use Rattle.cilk_replay.specs.Points.{Point, IsEventOf, IsLikeDeed, asked_for}
use Rattle.cilk_replay.specs.declared.replay_frame.ReplayFrame.{ReplayFrame}
use Rattle.cilk_replay.specs.declared.sort.Sort.{Sort}
use Rattle.cilk_replay.specs.declared.sort.Sort.TheVariants as sorts
use Rattle.cilk_replay.specs.Children.{body_asked}
use Rattle.cilk_replay.specs.Replays.{Setting, IsOfProgram}
use Rattle.cilk_replay.specs.Sorts.{NamesNothing, sort_asked, sort_of, sort_started}
use Rattle.cilk_replay.specs.Standing.{Asks}
use Rattle.cilk_replay.specs.Sights.{IsNumberOf, cell_asked, layouts_of}
use Rattle.cilk_replay.proofs.Children.{IsChild, IsStarted, StartsAs}
use Rattle.cilk_replay.proofs.Going.{here, known, plan_event, starts_as, asked_ask, asked_by, ask_there, tell, there, event_is}
use Rattle.cilk_replay.proofs.Named.{DeedIsHere, like_body}
use Rattle.cilk_replay.specs.Reducing.{as_instance, reducer_asked}
use Rattle.cilk_replay.proofs.Seeing.{AsksForCell, AsksForReducer, IsFound, asked_cell, asked_instance, cell_found, reducer_found}
use Rattle.cilk_replay.proofs.Unended.{unended}

kind_inside : (o : Option Event) (k : Kind) → kind_of_event o ≡ Some k → (e : Event) × (o ≡ Some e) × (kind_of e ≡ k)
kind_inside None k q = absurd (cc q)
kind_inside (Some e) k q = (e, refl, cc q)

-- ---- sorts of the plan's deeds

abbrev sort_done : Deed FrameEnv → Sort
sort_done (Does (Reads c v)) = sorts.Read
sort_done (Does (Writes c v)) = sorts.Write
sort_done (Does Syncs) = sorts.Sync
sort_done (Does (Ends v gone)) = sorts.End
sort_done (Does (Passes Begins)) = sorts.Begin
sort_done (Does (Passes Resumes)) = sorts.Resume
sort_done (Does (Passes (Creates i))) = sorts.Create
sort_done (Does (Passes (Updates i x))) = sorts.Update
sort_done (Does (Passes (Sets i x))) = sorts.Set
sort_done (Does (Passes (Values i x))) = sorts.Value
sort_done (Does (Passes (Prints x))) = sorts.Print
sort_done (Invokes invocations.Call w) = sorts.Call
sort_done (Invokes invocations.Spawn w) = sorts.Spawn

module _ (cell : Cell → ℕ) (instance : Instance → numbered.Instance) where
  written_sort : (d : Deed FrameEnv) (e : Event) → IsWritten cell instance d e → sort_of (kind_of e) ≡ sort_done d
  written_sort (Does (Reads c v)) e h = ap (λ (z : Event). sort_of (kind_of z)) h
  written_sort (Does (Writes c v)) e h = ap (λ (z : Event). sort_of (kind_of z)) h
  written_sort (Does Syncs) e h = ap (λ (z : Event). sort_of (kind_of z)) h
  written_sort (Does (Ends v gone)) e h = ap (λ (z : Event). sort_of (kind_of z)) h
  written_sort (Does (Passes Begins)) e h = ap (λ (z : Event). sort_of (kind_of z)) h.1
  written_sort (Does (Passes Resumes)) e h = ap (λ (z : Event). sort_of (kind_of z)) h.1
  written_sort (Does (Passes (Creates i))) e h = ap (λ (z : Event). sort_of (kind_of z)) h
  written_sort (Does (Passes (Updates i x))) e h = ap (λ (z : Event). sort_of (kind_of z)) h
  written_sort (Does (Passes (Sets i x))) e h = ap (λ (z : Event). sort_of (kind_of z)) h
  written_sort (Does (Passes (Values i x))) e h = ap (λ (z : Event). sort_of (kind_of z)) h
  written_sort (Does (Passes (Prints x))) e h = ap (λ (z : Event). sort_of (kind_of z)) h
  written_sort (Invokes invocations.Call w) e h = ap (λ (z : Event). sort_of (kind_of z)) h.1
  written_sort (Invokes invocations.Spawn w) e h = ap (λ (z : Event). sort_of (kind_of z)) h.1

-- ---- what is requested is of the event's sort

module _ (p : Source) (r : Transcript) (w : FrameEnv) where
  event_sort : (k : language.Ask) (e : Event) → IsEventOf p r w k e → sort_of (kind_of e) ≡ sort_asked k
  event_sort asks.Begin e h = ap (λ (z : Event). sort_of (kind_of z)) h.1
  event_sort (asks.Read x) e h = ap (λ (z : Event). sort_of (kind_of z)) h.1
  event_sort (asks.Write x v) e h = ap (λ (z : Event). sort_of (kind_of z)) h
  event_sort (asks.Create q) e h = ap (λ (z : Event). sort_of (kind_of z)) h
  event_sort (asks.Update q v) e h = ap (λ (z : Event). sort_of (kind_of z)) h
  event_sort (asks.Set q v) e h = ap (λ (z : Event). sort_of (kind_of z)) h
  event_sort (asks.Value q) e h = ap (λ (z : Event). sort_of (kind_of z)) h.1
  event_sort (asks.Print v) e h = ap (λ (z : Event). sort_of (kind_of z)) h
  event_sort (asks.Invoke invocations.Call callee) e h = ap (λ (z : Event). sort_of (kind_of z)) h.1
  event_sort (asks.Invoke invocations.Spawn callee) e h = ap (λ (z : Event). sort_of (kind_of z)) h.1
  event_sort asks.Resume e h = ap (λ (z : Event). sort_of (kind_of z)) h.1
  event_sort asks.Sync e h = ap (λ (z : Event). sort_of (kind_of z)) h
  event_sort (asks.Result v) e h = ap (λ (z : Event). sort_of (kind_of z)) h
  event_sort (asks.End v) e h = ap (λ (z : Event). sort_of (kind_of z)) h
  event_sort (asks.Fault f) e h = absurd h

-- ---- a request without cell, reducer or child is decided by its sort

is_begin : (d : Deed FrameEnv) → sort_done d ≡ sorts.Begin → d ≡ Does (Passes Begins)
is_begin (Does (Passes Begins)) q = refl
is_begin (Invokes invocations.Call w) q = absurd (cc q)
is_begin (Invokes invocations.Spawn w) q = absurd (cc q)
is_begin d q = absurd (cc q)

is_resume : (d : Deed FrameEnv) → sort_done d ≡ sorts.Resume → d ≡ Does (Passes Resumes)
is_resume (Does (Passes Resumes)) q = refl
is_resume (Invokes invocations.Call w) q = absurd (cc q)
is_resume (Invokes invocations.Spawn w) q = absurd (cc q)
is_resume d q = absurd (cc q)

is_sync : (d : Deed FrameEnv) → sort_done d ≡ sorts.Sync → d ≡ Does Syncs
is_sync (Does Syncs) q = refl
is_sync (Does (Passes Begins)) q = absurd (cc q)
is_sync (Invokes invocations.Call w) q = absurd (cc q)
is_sync (Invokes invocations.Spawn w) q = absurd (cc q)
is_sync d q = absurd (cc q)

is_ended : (d : Deed FrameEnv) → sort_done d ≡ sorts.End → (v : ℤ) × (gone : List Instance) × (d ≡ Does (Ends v gone))
is_ended (Does (Ends v gone)) q = (v, gone, refl)
is_ended (Does (Passes Begins)) q = absurd (cc q)
is_ended (Invokes invocations.Call w) q = absurd (cc q)
is_ended (Invokes invocations.Spawn w) q = absurd (cc q)
is_ended d q = absurd (cc q)

is_print : (d : Deed FrameEnv) → sort_done d ≡ sorts.Print → (v : ℤ) × (d ≡ Does (Passes (Prints v)))
is_print (Does (Passes (Prints v))) q = (v, refl)
is_print (Invokes invocations.Call w) q = absurd (cc q)
is_print (Invokes invocations.Spawn w) q = absurd (cc q)
is_print d q = absurd (cc q)

module _ (p : Source) (w : FrameEnv) where
  -- a deed of the plan's kind that the request makes
  abbrev IsMade : ℕ → language.Ask → Deed FrameEnv → Type 0
  IsMade n k d = (m : Deed FrameEnv) × IsLikeDeed (same_frame p) d m × (named_ask p w n k ≡ asked_for m)

  made_like : (n : ℕ) (k : language.Ask) (d d' : Deed FrameEnv) → d ≡ d' → IsMade n k d' → IsMade n k d
  made_like n k d d' q h = subst (IsMade n k) (sym q) h

  makes : (n : ℕ) (k : language.Ask) (d : Deed FrameEnv) → NamesNothing (sort_asked k) → sort_done d ≡ sort_asked k → IsMade n k d
  makes n asks.Begin d sure q = made_like n asks.Begin d (Does (Passes Begins)) (is_begin d q) (Does (Passes Begins), tt, refl)
  makes n asks.Resume d sure q = made_like n asks.Resume d (Does (Passes Resumes)) (is_resume d q) (Does (Passes Resumes), tt, refl)
  makes n asks.Sync d sure q = made_like n asks.Sync d (Does Syncs) (is_sync d q) (Does Syncs, tt, refl)
  makes n (asks.End v) d sure q = let e = is_ended d q in made_like n (asks.End v) d (Does (Ends e.0 e.1)) e.2 (Does (Ends v (retired_by p w)), tt, refl)
  makes n (asks.Print v) d sure q = let e = is_print d q in made_like n (asks.Print v) d (Does (Passes (Prints e.0))) e.1 (Does (Passes (Prints v)), tt, refl)
  makes n (asks.Invoke invocations.Call callee) d sure q = absurd sure
  makes n (asks.Invoke invocations.Spawn callee) d sure q = absurd sure
  makes n k d sure q = absurd sure

-- ---- events of cells

-- an event of this cell
abbrev pub IsOfCell : ℕ → Kind → Type 0
IsOfCell c (kinds.Read d) = d ≡ c
IsOfCell c (kinds.Write d) = d ≡ c
IsOfCell c k = ⊥

is_read : (d : Deed FrameEnv) → sort_done d ≡ sorts.Read → (c : Cell) × (v : ℤ) × (d ≡ Does (Reads c v))
is_read (Does (Reads c v)) q = (c, v, refl)
is_read (Does (Passes Begins)) q = absurd (cc q)
is_read (Invokes invocations.Call w) q = absurd (cc q)
is_read (Invokes invocations.Spawn w) q = absurd (cc q)
is_read d q = absurd (cc q)

is_write : (d : Deed FrameEnv) → sort_done d ≡ sorts.Write → (c : Cell) × (v : ℤ) × (d ≡ Does (Writes c v))
is_write (Does (Writes c v)) q = (c, v, refl)
is_write (Does (Passes Begins)) q = absurd (cc q)
is_write (Invokes invocations.Call w) q = absurd (cc q)
is_write (Invokes invocations.Spawn w) q = absurd (cc q)
is_write d q = absurd (cc q)

module _ (p : Source) (r : Transcript) (w : FrameEnv) (n : ℕ) where
  -- The plan's deed and a request of its sort: the deed's cell is the run's, and the request makes
  -- the deed exactly if it names that cell.
  record OfCell (k : language.Ask) (d : Deed FrameEnv) (c : ℕ) : Type 0 where
    there : Cell
    has : HasCell p r there
    number : cell_number p r there ≡ c
    makes : there ≡ asked_cell p r w k → IsMade p w n k d
    meets : (m : Deed FrameEnv) → IsLikeDeed (same_frame p) d m → named_ask p w n k ≡ asked_for m → asked_cell p r w k ≡ there

  of_read : (x : Place) (a : Cell) (v : ℤ) (e : Event) (c : ℕ) → e ≡ events.Read (cell_number p r a) v → HasCell p r a → IsOfCell c (kind_of e) → OfCell (asks.Read x) (Does (Reads a v)) c
  of_read x a v e c written has cell = record {
    there = a;
    has = has;
    number = subst (λ (z : Event). IsOfCell c (kind_of z)) written cell;
    makes = λ q. (Does (Reads (cell_seen w x) v), q, refl);
    meets = met;
  }
    where
      met : (m : Deed FrameEnv) → IsLikeDeed (same_frame p) (Does (Reads a v)) m → named_ask p w n (asks.Read x) ≡ asked_for m → cell_seen w x ≡ a
      met (Does (Reads b u)) like q = let z : cell_seen w x ≡ b = cc q in z ∙ sym like
      met (Invokes j u) like q = absurd like
      met m like q = absurd like

  of_write : (k : language.Ask) (y : ℤ) → named_ask p w n k ≡ Write (asked_cell p r w k) y → (a : Cell) (v : ℤ) (e : Event) (c : ℕ) → e ≡ events.Write (cell_number p r a) v → HasCell p r a → IsOfCell c (kind_of e)
      → OfCell k (Does (Writes a v)) c
  of_write k y names a v e c written has cell = record {
    there = a;
    has = has;
    number = subst (λ (z : Event). IsOfCell c (kind_of z)) written cell;
    makes = λ q. (Does (Writes (asked_cell p r w k) y), q, names);
    meets = met;
  }
    where
      met : (m : Deed FrameEnv) → IsLikeDeed (same_frame p) (Does (Writes a v)) m → named_ask p w n k ≡ asked_for m → asked_cell p r w k ≡ a
      met (Does (Writes b u)) like q = let f : Write (asked_cell p r w k) y ≡ Write b u = sym names ∙ q in let z : asked_cell p r w k ≡ b = cc f in z ∙ sym like
      met (Invokes j u) like q = absurd like
      met m like q = absurd like

  abbrev Written : Deed FrameEnv → Event → Type 0
  Written = IsWritten (cell_number p r) (instance_number p r)

  of_cell : (k : language.Ask) (d : Deed FrameEnv) (e : Event) (c : ℕ) → AsksForCell p r k → sort_done d ≡ sort_asked k → Written d e → DeedIsHere p r d → IsOfCell c (kind_of e) → OfCell k d c
  of_cell (asks.Read x) d e c u q written here cell =
      let f = is_read d q in
      subst (λ (z : Deed FrameEnv). OfCell (asks.Read x) z c) (sym f.2) (of_read x f.0 f.1 e c (subst (λ (z : Deed FrameEnv). Written z e) f.2 written) (subst (DeedIsHere p r) f.2 here) cell)
  of_cell (asks.Write x v) d e c u q written here cell =
      let f = is_write d q in
      subst (λ (z : Deed FrameEnv). OfCell (asks.Write x v) z c) (sym f.2)
      (of_write (asks.Write x v) v refl f.0 f.1 e c (subst (λ (z : Deed FrameEnv). Written z e) f.2 written) (subst (DeedIsHere p r) f.2 here) cell)
  of_cell (asks.Result v) d e c u q written here cell =
      let f = is_write d q in
      subst (λ (z : Deed FrameEnv). OfCell (asks.Result v) z c) (sym f.2)
      (of_write (asks.Result v) v refl f.0 f.1 e c (subst (λ (z : Deed FrameEnv). Written z e) f.2 written) (subst (DeedIsHere p r) f.2 here) cell)
  of_cell k d e c u q written here cell = absurd u

  -- a request of the sort of an event of a cell names a cell
  names_cell : (k : language.Ask) (kind : Kind) (c : ℕ) → IsOfCell c kind → sort_asked k ≡ sort_of kind → AsksForCell p r k
  names_cell k (kinds.Read d) c of q = by k q
    where
      by : (k : language.Ask) → sort_asked k ≡ sorts.Read → AsksForCell p r k
      by (asks.Read x) q = tt
      by (asks.Write x v) q = tt
      by (asks.Result v) q = tt
      by (asks.Invoke invocations.Call callee) q = absurd (cc q)
      by (asks.Invoke invocations.Spawn callee) q = absurd (cc q)
      by k q = absurd (cc q)
  names_cell k (kinds.Write d) c of q = by k q
    where
      by : (k : language.Ask) → sort_asked k ≡ sorts.Write → AsksForCell p r k
      by (asks.Read x) q = tt
      by (asks.Write x v) q = tt
      by (asks.Result v) q = tt
      by (asks.Invoke invocations.Call callee) q = absurd (cc q)
      by (asks.Invoke invocations.Spawn callee) q = absurd (cc q)
      by k q = absurd (cc q)
  names_cell k kind c of q = absurd of

-- ---- events that start children

-- an event that starts the frame with this number
abbrev pub IsOfChild : ℕ → Kind → Type 0
IsOfChild f (kinds.Spawn g) = g ≡ f
IsOfChild f (kinds.Call g) = g ≡ f
IsOfChild f k = ⊥

is_start : (how : Invocation) (d : Deed FrameEnv) → sort_done d ≡ sort_started how → (w : FrameEnv) × (d ≡ Invokes how w)
is_start invocations.Call (Invokes invocations.Call w) q = (w, refl)
is_start invocations.Call (Invokes invocations.Spawn w) q = absurd (cc q)
is_start invocations.Call (Does (Passes Begins)) q = absurd (cc q)
is_start invocations.Call d q = absurd (cc q)
is_start invocations.Spawn (Invokes invocations.Spawn w) q = (w, refl)
is_start invocations.Spawn (Invokes invocations.Call w) q = absurd (cc q)
is_start invocations.Spawn (Does (Passes Begins)) q = absurd (cc q)
is_start invocations.Spawn d q = absurd (cc q)

asks_start : (how : Invocation) (k : language.Ask) → sort_asked k ≡ sort_started how → (callee : Callee) × (k ≡ asks.Invoke how callee)
asks_start invocations.Call (asks.Invoke invocations.Call callee) q = (callee, refl)
asks_start invocations.Call (asks.Invoke invocations.Spawn callee) q = absurd (cc q)
asks_start invocations.Call k q = absurd (cc q)
asks_start invocations.Spawn (asks.Invoke invocations.Spawn callee) q = (callee, refl)
asks_start invocations.Spawn (asks.Invoke invocations.Call callee) q = absurd (cc q)
asks_start invocations.Spawn k q = absurd (cc q)

-- a kind of that sort
how_of : (f : ℕ) (kind : Kind) → IsOfChild f kind → (how : Invocation) × (sort_of kind ≡ sort_started how)
how_of f (kinds.Spawn g) of = (invocations.Spawn, refl)
how_of f (kinds.Call g) of = (invocations.Call, refl)
how_of f kind of = absurd of

started_number : (how : Invocation) (n f : ℕ) → IsOfChild f (kind_of (start_event how n)) → n ≡ f
started_number invocations.Call n f of = of
started_number invocations.Spawn n f of = of

asked_body : (p : Source) (how : Invocation) (callee : Callee) → callee ≢ callees.Root → body_asked (asks.Invoke how callee) ≡ body_of p callee
asked_body p how callees.Root other = absurd (other refl)
asked_body p how (callees.Function c) other = refl
asked_body p how (callees.Loop l) other = refl

-- ---- events of reducers

-- an event of this reducer
abbrev pub IsOfReducer : numbered.Instance → Kind → Type 0
IsOfReducer i (kinds.Create j) = j ≡ i
IsOfReducer i (kinds.Update j) = j ≡ i
IsOfReducer i (kinds.Set j) = j ≡ i
IsOfReducer i (kinds.Value j) = j ≡ i
IsOfReducer i k = ⊥

is_create : (d : Deed FrameEnv) → sort_done d ≡ sorts.Create → (i : Instance) × (d ≡ Does (Passes (Creates i)))
is_create (Does (Passes (Creates i))) q = (i, refl)
is_create (Invokes invocations.Call w) q = absurd (cc q)
is_create (Invokes invocations.Spawn w) q = absurd (cc q)
is_create d q = absurd (cc q)

is_update : (d : Deed FrameEnv) → sort_done d ≡ sorts.Update → (i : Instance) × (x : ℤ) × (d ≡ Does (Passes (Updates i x)))
is_update (Does (Passes (Updates i x))) q = (i, x, refl)
is_update (Invokes invocations.Call w) q = absurd (cc q)
is_update (Invokes invocations.Spawn w) q = absurd (cc q)
is_update d q = absurd (cc q)

is_set : (d : Deed FrameEnv) → sort_done d ≡ sorts.Set → (i : Instance) × (x : ℤ) × (d ≡ Does (Passes (Sets i x)))
is_set (Does (Passes (Sets i x))) q = (i, x, refl)
is_set (Invokes invocations.Call w) q = absurd (cc q)
is_set (Invokes invocations.Spawn w) q = absurd (cc q)
is_set d q = absurd (cc q)

is_value : (d : Deed FrameEnv) → sort_done d ≡ sorts.Value → (i : Instance) × (x : ℤ) × (d ≡ Does (Passes (Values i x)))
is_value (Does (Passes (Values i x))) q = (i, x, refl)
is_value (Invokes invocations.Call w) q = absurd (cc q)
is_value (Invokes invocations.Spawn w) q = absurd (cc q)
is_value d q = absurd (cc q)

module _ (p : Source) (r : Transcript) (w : FrameEnv) (n : ℕ) where
  -- The plan's deed and a request of its sort: the deed's reducer is the run's, and the request
  -- makes the deed exactly if it names that reducer.
  record OfReducer (k : language.Ask) (d : Deed FrameEnv) (i : numbered.Instance) : Type 0 where
    there : Instance
    has : HasInstance p r there
    number : instance_number p r there ≡ i
    makes : there ≡ asked_instance p r w k → IsMade p w n k d
    meets : (m : Deed FrameEnv) → IsLikeDeed (same_frame p) d m → named_ask p w n k ≡ asked_for m → asked_instance p r w k ≡ there

  of_create : (q : Reducer) (j : Instance) (e : Event) (i : numbered.Instance) → e ≡ events.Create (instance_number p r j) → HasInstance p r j → IsOfReducer i (kind_of e) → OfReducer (asks.Create q) (Does (Passes (Creates j))) i
  of_create q j e i written has of = record {
    there = j;
    has = has;
    number = subst (λ (z : Event). IsOfReducer i (kind_of z)) written of;
    makes = λ f. (Does (Passes (Creates (reducer_seen w q))), f, refl);
    meets = met;
  }
    where
      met : (m : Deed FrameEnv) → IsLikeDeed (same_frame p) (Does (Passes (Creates j))) m → named_ask p w n (asks.Create q) ≡ asked_for m → reducer_seen w q ≡ j
      met (Does (Passes (Creates b))) like f = let z : reducer_seen w q ≡ b = cc f in z ∙ sym like
      met (Invokes a u) like f = absurd like
      met m like f = absurd like

  of_update : (q : Reducer) (v : ℤ) (j : Instance) (x : ℤ) (e : Event) (i : numbered.Instance) → e ≡ events.Update (instance_number p r j) x → HasInstance p r j → IsOfReducer i (kind_of e)
      → OfReducer (asks.Update q v) (Does (Passes (Updates j x))) i
  of_update q v j x e i written has of = record {
    there = j;
    has = has;
    number = subst (λ (z : Event). IsOfReducer i (kind_of z)) written of;
    makes = λ f. (Does (Passes (Updates (reducer_seen w q) v)), f, refl);
    meets = met;
  }
    where
      met : (m : Deed FrameEnv) → IsLikeDeed (same_frame p) (Does (Passes (Updates j x))) m → named_ask p w n (asks.Update q v) ≡ asked_for m → reducer_seen w q ≡ j
      met (Does (Passes (Updates b y))) like f = let z : reducer_seen w q ≡ b = cc f in z ∙ sym like
      met (Invokes a u) like f = absurd like
      met m like f = absurd like

  of_set : (q : Reducer) (v : ℤ) (j : Instance) (x : ℤ) (e : Event) (i : numbered.Instance) → e ≡ events.Set (instance_number p r j) x → HasInstance p r j → IsOfReducer i (kind_of e)
      → OfReducer (asks.Set q v) (Does (Passes (Sets j x))) i
  of_set q v j x e i written has of = record {
    there = j;
    has = has;
    number = subst (λ (z : Event). IsOfReducer i (kind_of z)) written of;
    makes = λ f. (Does (Passes (Sets (reducer_seen w q) v)), f, refl);
    meets = met;
  }
    where
      met : (m : Deed FrameEnv) → IsLikeDeed (same_frame p) (Does (Passes (Sets j x))) m → named_ask p w n (asks.Set q v) ≡ asked_for m → reducer_seen w q ≡ j
      met (Does (Passes (Sets b y))) like f = let z : reducer_seen w q ≡ b = cc f in z ∙ sym like
      met (Invokes a u) like f = absurd like
      met m like f = absurd like

  of_value : (q : Reducer) (j : Instance) (x : ℤ) (e : Event) (i : numbered.Instance) → e ≡ events.Value (instance_number p r j) x → HasInstance p r j → IsOfReducer i (kind_of e)
      → OfReducer (asks.Value q) (Does (Passes (Values j x))) i
  of_value q j x e i written has of = record {
    there = j;
    has = has;
    number = subst (λ (z : Event). IsOfReducer i (kind_of z)) written of;
    makes = λ f. (Does (Passes (Values (reducer_seen w q) x)), f, refl);
    meets = met;
  }
    where
      met : (m : Deed FrameEnv) → IsLikeDeed (same_frame p) (Does (Passes (Values j x))) m → named_ask p w n (asks.Value q) ≡ asked_for m → reducer_seen w q ≡ j
      met (Does (Passes (Values b y))) like f = let z : reducer_seen w q ≡ b = cc f in z ∙ sym like
      met (Invokes a u) like f = absurd like
      met m like f = absurd like

  abbrev WrittenSo : Deed FrameEnv → Event → Type 0
  WrittenSo = IsWritten (cell_number p r) (instance_number p r)

  of_reducer : (k : language.Ask) (d : Deed FrameEnv) (e : Event) (i : numbered.Instance) → AsksForReducer p r k → sort_done d ≡ sort_asked k → WrittenSo d e → DeedIsHere p r d → IsOfReducer i (kind_of e) → OfReducer k d i
  of_reducer (asks.Create q) d e i u same written here of =
      let f = is_create d same in
      subst (λ (z : Deed FrameEnv). OfReducer (asks.Create q) z i) (sym f.1)
      (of_create q f.0 e i (subst (λ (z : Deed FrameEnv). WrittenSo z e) f.1 written) (subst (DeedIsHere p r) f.1 here) of)
  of_reducer (asks.Update q v) d e i u same written here of =
      let f = is_update d same in
      subst (λ (z : Deed FrameEnv). OfReducer (asks.Update q v) z i) (sym f.2)
      (of_update q v f.0 f.1 e i (subst (λ (z : Deed FrameEnv). WrittenSo z e) f.2 written) (subst (DeedIsHere p r) f.2 here) of)
  of_reducer (asks.Set q v) d e i u same written here of =
      let f = is_set d same in
      subst (λ (z : Deed FrameEnv). OfReducer (asks.Set q v) z i) (sym f.2)
      (of_set q v f.0 f.1 e i (subst (λ (z : Deed FrameEnv). WrittenSo z e) f.2 written) (subst (DeedIsHere p r) f.2 here) of)
  of_reducer (asks.Value q) d e i u same written here of =
      let f = is_value d same in
      subst (λ (z : Deed FrameEnv). OfReducer (asks.Value q) z i) (sym f.2)
      (of_value q f.0 f.1 e i (subst (λ (z : Deed FrameEnv). WrittenSo z e) f.2 written) (subst (DeedIsHere p r) f.2 here) of)
  of_reducer k d e i u same written here of = absurd u

  -- a request of the sort of an event of a reducer names a reducer
  names_reducer : (k : language.Ask) (kind : Kind) (i : numbered.Instance) → IsOfReducer i kind → sort_asked k ≡ sort_of kind → AsksForReducer p r k
  names_reducer k (kinds.Create j) i of same = by k same
    where
      by : (k : language.Ask) → sort_asked k ≡ sorts.Create → AsksForReducer p r k
      by (asks.Create q) same = tt
      by (asks.Invoke invocations.Call callee) same = absurd (cc same)
      by (asks.Invoke invocations.Spawn callee) same = absurd (cc same)
      by k same = absurd (cc same)
  names_reducer k (kinds.Update j) i of same = by k same
    where
      by : (k : language.Ask) → sort_asked k ≡ sorts.Update → AsksForReducer p r k
      by (asks.Update q v) same = tt
      by (asks.Invoke invocations.Call callee) same = absurd (cc same)
      by (asks.Invoke invocations.Spawn callee) same = absurd (cc same)
      by k same = absurd (cc same)
  names_reducer k (kinds.Set j) i of same = by k same
    where
      by : (k : language.Ask) → sort_asked k ≡ sorts.Set → AsksForReducer p r k
      by (asks.Set q v) same = tt
      by (asks.Invoke invocations.Call callee) same = absurd (cc same)
      by (asks.Invoke invocations.Spawn callee) same = absurd (cc same)
      by k same = absurd (cc same)
  names_reducer k (kinds.Value j) i of same = by k same
    where
      by : (k : language.Ask) → sort_asked k ≡ sorts.Value → AsksForReducer p r k
      by (asks.Value q) same = tt
      by (asks.Invoke invocations.Call callee) same = absurd (cc same)
      by (asks.Invoke invocations.Spawn callee) same = absurd (cc same)
      by k same = absurd (cc same)
  names_reducer k kind i of same = absurd of

module _ (s : Setting) (h : IsOfProgram s) (at : ℕ) (k : language.Ask) (l : ReplayFrame) (A : Asks s at k l) where
  abbrev x : Point FrameEnv
  x = A.point

  -- the frame's request makes this deed, of the plan's kind
  pub asked_by_deed : IsMade s.program x.frame (suc (started x.past)) k x.planned → IsAsked s.event_order at
  asked_by_deed m =
      let n = suc (started x.past) in
      let w = x.frame in
      let asks_next : next s.program s.inputs w x.past ≡ Some (named_ask s.program w n k) =
      ap (λ (b : Bool). cond b None (Some (named_ask s.program w n (asked_after s.program s.inputs w x.past).ask))) A.goes_on
      ∙ ap (λ (a : language.Ask). Some (named_ask s.program w n a)) (asked_ask s h at k l A) in
      let t = tell s h at k l A in
      subst (IsAsked s.event_order) A.place (t.asked.1 ((here s h A.behind x A.is).0.only m.0 m.1 (asks_next ∙ ap (λ (a : Ask FrameEnv). Some a) m.2)))

  module _ (kind : Kind) (is : kind_of_event (event s.event_order at) ≡ Some kind) where
    planned_sort : sort_done x.planned ≡ sort_of kind
    planned_sort =
        let e = kind_inside (event s.event_order at) kind is in
        let found = plan_event s h A.behind e.0 (ap (event s.event_order) A.place ∙ e.1) in
        let t = tell s h at k l A in
        sym (written_sort (cell_number s.program s.run) (instance_number s.program s.run) x.planned found.0 (t.plan found.0 found.1))
        ∙ ap sort_of (found.2 ∙ e.2)

    pub asked_there : sort_asked k ≡ sort_of kind → NamesNothing (sort_asked k) → IsAsked s.event_order at
    asked_there same sure = asked_by_deed (makes s.program x.frame (suc (started x.past)) k x.planned sure (planned_sort ∙ sym same))

    pub differs_there : (sort_asked k ≡ sort_of kind → ⊥) → IsAsked s.event_order at → ⊥
    differs_there other asked =
        let e = kind_inside (event s.event_order at) kind is in
        other (sym (event_sort s.program s.run x.frame k e.0 (event_is s h at k l A e.0 asked e.1)) ∙ ap sort_of e.2)

    module _ (c : ℕ) (of : IsOfCell c kind) (alike : sort_asked k ≡ sort_of kind) where
      cells_deed : OfCell s.program s.run x.frame (suc (started x.past)) k x.planned c
      cells_deed =
          let e = kind_inside (event s.event_order at) kind is in
          let found = plan_event s h A.behind e.0 (ap (event s.event_order) A.place ∙ e.1) in
          let t = tell s h at k l A in
          of_cell s.program s.run x.frame (suc (started x.past)) k x.planned found.0 c (names_cell s.program s.run x.frame (suc (started x.past)) k kind c of alike) (planned_sort ∙ sym alike)
          (t.plan found.0 found.1) (let z = known s h A.behind x A.is in z.here) (subst (IsOfCell c) (sym (found.2 ∙ e.2)) of)

      number_is : IsNumberOf s.program s.run (asked_cell s.program s.run x.frame k) (let p = s.program in cell_asked (length p.openings) l.sight k)
      number_is = cell_found s.program s.run x.frame l.sight A.sees k (names_cell s.program s.run x.frame (suc (started x.past)) k kind c of alike)

      pub cell_there : (let p = s.program in cell_asked (length p.openings) l.sight k ≡ Some c) → IsAsked s.event_order at
      cell_there q =
          let D = cells_deed in
          let N = subst (IsNumberOf s.program s.run (asked_cell s.program s.run x.frame k)) q number_is in
          asked_by_deed (D.makes (cells_one s.program s.run D.there (asked_cell s.program s.run x.frame k) D.has N.0 (D.number ∙ sym N.1)))

      -- the cell that is requested is the plan's
      met : IsAsked s.event_order at → (let D = cells_deed in asked_cell s.program s.run x.frame k ≡ D.there)
      met asked =
          let n = suc (started x.past) in
          let t = tell s h at k l A in
          let yes = t.asked.0 (subst (IsAsked s.event_order) (sym A.place) asked) in
          let on = unended (has_ended x.past) (named_ask s.program x.frame n (asked_after s.program s.inputs x.frame x.past).ask) _ ((here s h A.behind x A.is).0.asks yes) in
          let D = cells_deed in
          D.meets x.deed (let z = known s h A.behind x A.is in z.like) (ap (named_ask s.program x.frame n) (sym (asked_ask s h at k l A)) ∙ on.1)

      pub cell_differs : ((let p = s.program in cell_asked (length p.openings) l.sight k ≡ Some c) → ⊥) → IsAsked s.event_order at → ⊥
      cell_differs other asked = by (let p = s.program in cell_asked (length p.openings) l.sight k) refl number_is
        where
          by : (o : Option ℕ) → (let p = s.program in cell_asked (length p.openings) l.sight k ≡ o) → IsNumberOf s.program s.run (asked_cell s.program s.run x.frame k) o → ⊥
          by None q N = let D = cells_deed in N (subst (HasCell s.program s.run) (sym (met asked)) D.has)
          by (Some m) q N = let D = cells_deed in other (q ∙ ap Some (sym N.1 ∙ ap (cell_number s.program s.run) (met asked) ∙ D.number))

    module _ (f : ℕ) (of : IsOfChild f kind) (alike : sort_asked k ≡ sort_of kind) (body : Body)
        (lies : (path : List ℕ) (b : Block) (callee : Callee) → frame_at s.program s.run path ≡ Some b → frame_runs s.run path ≡ Some callee → b.number ≡ f → body ≡ body_of s.program callee) where
      -- the plan's child, and the one that is requested
      record Starts : Type 0 where
        how : Invocation
        planned : FrameEnv
        does : x.planned ≡ Invokes how planned
        runs : body ≡ body_of s.program planned.callee
        child : IsChild s.program s.run (let w = x.frame in w.name) (suc (started x.past)) planned
        callee : Callee
        asks : k ≡ asks.Invoke how callee
        other : callee ≢ callees.Root

      starts : Starts
      starts =
          let e = kind_inside (event s.event_order at) kind is in
          let found = plan_event s h A.behind e.0 (ap (event s.event_order) A.place ∙ e.1) in
          let how = how_of f kind of in
          let d = is_start how.0 x.planned (planned_sort ∙ how.1) in
          let a = asks_start how.0 k (alike ∙ how.1) in
          let start = subst (StartsAs s.program s.run found.0) d.1 (starts_as s h A.behind x found.0 A.is found.1) in
          let v = d.0 in
          let number = started_number how.0 (frame_number s.program s.run v.name) f (subst (λ (z : Event). IsOfChild f (kind_of z)) start (subst (IsOfChild f) (sym (found.2 ∙ e.2)) of)) in
          let child = subst (IsStarted s.program s.run (let w = x.frame in w.name) (suc (started x.past))) d.1 (let z = known s h A.behind x A.is in z.starts) in
          record {
            how = how.0;
            planned = v;
            does = d.1;
            runs = lies child.here.path child.here.block v.callee child.here.found child.runs (sym (frame_is s.program s.run v.name child.here) ∙ number);
            child = child;
            callee = a.0;
            asks = a.1;
            other = (there s h at k l A how.0 a.0 a.1).0;
          }

      -- the deed of the request
      abbrev asked_for_child : FrameEnv
      asked_for_child = let S = starts in child_env s.program x.frame (suc (started x.past)) S.callee

      bodies : (let S = starts in let v = S.planned in same_body body (body_asked k) ≡ same_body (body_of s.program v.callee) (body_of s.program S.callee))
      bodies = let S = starts in ap₂ same_body S.runs (ap body_asked S.asks ∙ asked_body s.program S.how S.callee S.other)

      pub child_there : same_body body (body_asked k) ≡ true → IsAsked s.event_order at
      child_there same =
          let S = starts in
          let v = S.planned in
          let w = x.frame in
          let n = suc (started x.past) in
          let name : same_name v.name (w.name ++ n ∷ []) ≡ true = ap (λ (m : Name). same_name m (w.name ++ n ∷ [])) (let c = S.child in c.named) ∙ same_name-refl (w.name ++ n ∷ []) in
          let fits = and_from (same_name v.name (w.name ++ n ∷ [])) (same_body (body_of s.program v.callee) (body_of s.program S.callee)) name (sym bodies ∙ same) in
          asked_by_deed (
            Invokes S.how asked_for_child,
            subst (λ (d : Deed FrameEnv). IsLikeDeed (same_frame s.program) d (Invokes S.how asked_for_child)) (sym S.does) (refl, fits),
            ap (named_ask s.program w n) S.asks,
          )

      pub child_differs : same_body body (body_asked k) ≡ false → IsAsked s.event_order at → ⊥
      child_differs other asked =
          let S = starts in
          let e = kind_inside (event s.event_order at) kind is in
          let by = asked_by s h at k l A e.0 asked e.1 in
          let deed = by.starts S.how S.callee (asked_ask s h at k l A ∙ S.asks) in
          let like = subst (IsLikeDeed (same_frame s.program) (Invokes S.how S.planned)) deed (subst (λ (d : Deed FrameEnv). IsLikeDeed (same_frame s.program) d x.deed) S.does (let z = known s h A.behind x A.is in z.like)) in
          false≢true (sym other ∙ bodies ∙ like_body s.program S.planned asked_for_child like.1)

    module _ (i : numbered.Instance) (of : IsOfReducer i kind) (alike : sort_asked k ≡ sort_of kind) where
      names : AsksForReducer s.program s.run k
      names = names_reducer s.program s.run x.frame (suc (started x.past)) k kind i of alike

      reducers_deed : OfReducer s.program s.run x.frame (suc (started x.past)) k x.planned i
      reducers_deed =
          let e = kind_inside (event s.event_order at) kind is in
          let found = plan_event s h A.behind e.0 (ap (event s.event_order) A.place ∙ e.1) in
          let t = tell s h at k l A in
          of_reducer s.program s.run x.frame (suc (started x.past)) k x.planned found.0 i names (planned_sort ∙ sym alike)
          (t.plan found.0 found.1) (let z = known s h A.behind x A.is in z.here) (subst (IsOfReducer i) (sym (found.2 ∙ e.2)) of)

      its_number : IsFound s.program s.run x.frame l.sight k
      its_number = reducer_found s.program s.run x.frame l.sight A.sees k names (ask_there s h at k l A)

      pub reducer_there : as_instance (reducer_asked (layouts_of l.sight) l.sight.given.items k) ≡ i → IsAsked s.event_order at
      reducer_there q =
          let D = reducers_deed in
          let N = its_number in
          let one = one_to_one s.program s.run in
          asked_by_deed (D.makes (one.reducers D.there (asked_instance s.program s.run x.frame k) D.has N.has (D.number ∙ sym q ∙ sym N.number)))

      pub reducer_differs : (as_instance (reducer_asked (layouts_of l.sight) l.sight.given.items k) ≡ i → ⊥) → IsAsked s.event_order at → ⊥
      reducer_differs other asked =
          let n = suc (started x.past) in
          let t = tell s h at k l A in
          let yes = t.asked.0 (subst (IsAsked s.event_order) (sym A.place) asked) in
          let on = unended (has_ended x.past) (named_ask s.program x.frame n (asked_after s.program s.inputs x.frame x.past).ask) _ ((here s h A.behind x A.is).0.asks yes) in
          let D = reducers_deed in
          let N = its_number in
          let same = D.meets x.deed (let z = known s h A.behind x A.is in z.like) (ap (named_ask s.program x.frame n) (sym (asked_ask s h at k l A)) ∙ on.1) in
          other (sym N.number ∙ ap (instance_number s.program s.run) same ∙ D.number)
