-- The cells that an accepted run names.
--
-- - `end_last`, `end_none`: where the cells of frames end, by the last frame; `frames_end`: those
--   of a run's frames;
-- - `none_named`, `one_named`, `both_named`: lists of events;
-- - `frame_below`, `globals_below`, `cell_below`: each cell of a run is below the number of cells
--   at its end;
-- - `event_named`, `run_named`: so the events of a run by names name cells below it;
-- - `run_holds`: and those of an accepted run name cells below the end of its frames.
use Rattle.std.proofs.Common.{◌≡◌, ℕ, zero, suc, ◌+◌, ◌-◌, ◌<◌, ◌≤◌, List, [], ◌∷◌, ◌++◌, length, Some, None, slice_get, refl, sym, ap, ◌∙◌, subst, arith}
use Rattle.cilk_types.specs.declared.event.Event.{Event}
use Rattle.cilk_types.specs.declared.invocation.Invocation.{Invocation}
use Rattle.cilk_types.specs.declared.invocation.Invocation.TheVariants.{Call, Spawn}
use Rattle.cilk_types.specs.declared.limits.TheConstants.{MAX_CELLS}
use Rattle.cilk_program.specs.declared.ask.Callee.{Callee}
use Rattle.cilk_program.specs.declared.ask.Callee.TheVariants.{Root}
use Rattle.cilk_program.specs.Outcomes.{Leaves}
use Rattle.cilk_program.specs.SerialRun.{Transcript, stop, act, child, cells_of, IsSerialRun}
use Rattle.cilk_program.specs.Sources.{source}
use Rattle.cilk_program.specs.Syntax.{Source}
use Rattle.cilk_program.specs.Numbering.{Counts, unbegun, entered, counts_after, Block, block_of, child_at, frame_at}
use Rattle.cilk_program.proofs.Numbers.{cells_grow}
use Rattle.cilk_program.proofs.Remembered.{runs_small}
use Rattle.cilk_determinacy.specs.Runs as runs
use Rattle.cilk_determinacy.specs.Runs.{Name, Run, Cell, Global, Own, Reads, Writes, Syncs, Ends, Passes, Begins, Resumes, Creates, Updates, Sets, Values, Prints}
use Rattle.cilk_serial.specs.SoFar.{callees_of}
use Rattle.cilk_determinacy.specs.FrameEnvs.{FrameEnv}
use Rattle.cilk_determinacy.specs.Nested.{named}
use Rattle.cilk_determinacy.specs.Numbers.{frame_number, cell_number, numbered_event, numbered_events, start_event, HasCell, EventIsHere, AreHere, AreNumbered}
use Rattle.cilk_determinacy.proofs.Numbered.{events_numbered}
use Rattle.cilk_determinacy.proofs.Numbers.{cell_is}
use Rattle.cilk_lower.specs.declared.layout.PlannedFrame.{PlannedFrame}
use Rattle.cilk_checker.specs.Frames.{frames_from}
use Rattle.cilk_checker.proofs.Beginning.{cells_after, counted_cells}
use Rattle.cilk_checker.specs.Determinate.{AcceptedRun, AreFramesOf, HasDeterminateRun}
use Rattle.cilk_plan.specs.Frames.{end_from}
use Rattle.cilk_plan.specs.Plans.{AllNamed, Names}

-- ---- where the cells of frames end

pub end_last : (n : ℕ) (frames : List PlannedFrame) (f : PlannedFrame) → slice_get frames (length frames - 1) ≡ Some f → end_from n frames ≡ f.first_cell + f.cells
end_last n [] f is = absurd (let z : None ≡ Some f = is in cc z)
end_last n (x ∷ []) f is =
    let z : Some x ≡ Some f = is in
    let same : x ≡ f = cc z in
    ap (λ (y : PlannedFrame). y.first_cell + y.cells) same
end_last n (x ∷ y ∷ frames) f is = end_last (x.first_cell + x.cells) (y ∷ frames) f (ap (slice_get (x ∷ y ∷ frames)) (sym one_less) ∙ is)
  where
    one_less : length (x ∷ y ∷ frames) - 1 ≡ suc (length (y ∷ frames) - 1)
    one_less = omega arith

there : (frames : List PlannedFrame) (k : ℕ) → k < length frames → slice_get frames k ≡ None → ⊥
there [] k less is = omega (arith, less)
there (x ∷ frames) zero less is = let z : Some x ≡ None = is in cc z
there (x ∷ frames) (suc k) less is = there frames k (omega (arith, less)) is

pub end_none : (n : ℕ) (frames : List PlannedFrame) → slice_get frames (length frames - 1) ≡ None → end_from n frames ≡ n
end_none n [] is = refl
end_none n (x ∷ frames) is = absurd (there (x ∷ frames) (length (x ∷ frames) - 1) (omega arith) is)

frames_end : (p : Source) (n : ℕ) (cs : List Callee) → end_from n (frames_from p n cs) ≡ cells_after p n cs
frames_end p n [] = refl
frames_end p n (c ∷ cs) = frames_end p (n + cells_of p c) cs

-- ---- lists of events

none_named : (n : ℕ) → AllNamed n []
none_named n k e is = absurd (let z : None ≡ Some e = is in cc z)

one_named : (n : ℕ) (x : Event) (es : List Event) → Names n x → AllNamed n es → AllNamed n (x ∷ es)
one_named n x es h more zero e is =
    let z : Some x ≡ Some e = is in
    let same : x ≡ e = cc z in
    subst (Names n) same h
one_named n x es h more (suc k) e is = more k e is

both_named : (n : ℕ) (xs ys : List Event) → AllNamed n xs → AllNamed n ys → AllNamed n (xs ++ ys)
both_named n [] ys a b = b
both_named n (x ∷ xs) ys a b = one_named n x (xs ++ ys) (a 0 x refl) (both_named n xs ys (λ k e is. a (suc k) e is) b)

-- ---- cells of a run

module _ (p : Source) where
  child_below : (r : Transcript) (n : Counts) (k : ℕ) (path : List ℕ) (b : Block) → child_at p r n k path ≡ Some b → b.first + b.cells ≤ (counts_after p r n).cells
  child_below stop n k path b is = absurd (let z : None ≡ Some b = is in cc z)
  child_below (act a v r) n k path b is = child_below r n k path b is
  child_below (child how callee u r) n zero [] b is =
      let inner = cells_grow p u (entered p callee n) in
      let rest = cells_grow p r (counts_after p u (entered p callee n)) in
      let z : Some (block_of p callee n) ≡ Some b = is in
      let same : block_of p callee n ≡ b = cc z in
      subst (λ (x : Block). x.first + x.cells ≤ (counts_after p (child how callee u r) n).cells) same (omega (arith, inner, rest))
  child_below (child how callee u r) n zero (j ∷ path) b is =
      let inner = child_below u (entered p callee n) j path b is in
      let rest = cells_grow p r (counts_after p u (entered p callee n)) in
      omega (arith, inner, rest)
  child_below (child how callee u r) n (suc k) path b is = child_below r (counts_after p u (entered p callee n)) k path b is

  module _ (r : Transcript) where
    -- the number of cells at the run's end
    abbrev pub all_cells : ℕ
    all_cells = (counts_after p r (entered p Root (unbegun p))).cells

    frame_below : (path : List ℕ) (b : Block) → frame_at p r path ≡ Some b → b.first + b.cells ≤ all_cells
    frame_below [] b is =
        let rest = cells_grow p r (entered p Root (unbegun p)) in
        let z : Some (block_of p Root (unbegun p)) ≡ Some b = is in
        let same : block_of p Root (unbegun p) ≡ b = cc z in
        subst (λ (x : Block). x.first + x.cells ≤ all_cells) same (omega (arith, rest))
    frame_below (k ∷ path) b is = child_below r (entered p Root (unbegun p)) k path b is

    globals_below : length p.openings ≤ all_cells
    globals_below = let rest = cells_grow p r (entered p Root (unbegun p)) in omega (arith, rest)

    cell_below : (c : Cell) → HasCell p r c → cell_number p r c < all_cells
    cell_below (Global n) h = let low = globals_below in omega (arith, h, low)
    cell_below (Own name n) (here, less) =
        let is = cell_is p r name n here in
        let low = frame_below here.path here.block here.found in
        omega (arith, is, less, low)

    -- ---- events

    event_named : (name : Name) (e : runs.Event) → EventIsHere p r e → Names all_cells (numbered_event p r name e)
    event_named name (Reads c v) h = cell_below c h
    event_named name (Writes c v) h = cell_below c h
    event_named name Syncs h = tt
    event_named name (Ends v gone) h = tt
    event_named name (Passes Begins) h = tt
    event_named name (Passes Resumes) h = tt
    event_named name (Passes (Creates i)) h = tt
    event_named name (Passes (Updates i x)) h = tt
    event_named name (Passes (Sets i x)) h = tt
    event_named name (Passes (Values i v)) h = tt
    event_named name (Passes (Prints x)) h = tt

    start_named : (how : Invocation) (n : ℕ) → Names all_cells (start_event how n)
    start_named Call n = tt
    start_named Spawn n = tt

    run_named : (name : Name) (t : Run FrameEnv) → AreHere p r t → AllNamed all_cells (numbered_events p r name t)
    run_named name runs.stop h = none_named all_cells
    run_named name (runs.act e t) h = one_named all_cells (numbered_event p r name e) (numbered_events p r name t) (event_named name e h.0) (run_named name t h.1)
    run_named name (runs.child k w u t) h =
        let began = start_event k (frame_number p r w.name) in
        let inner = numbered_events p r w.name u in
        let rest = numbered_events p r name t in
        one_named all_cells began (inner ++ rest) (start_named k (frame_number p r w.name))
        (both_named all_cells inner rest (run_named w.name u h.1) (run_named name t h.2))

-- ---- of an accepted run

-- these cells are the globals and all that the run names
pub record Holds (a : AcceptedRun) (n : ℕ) : Type 0 where
  pub globals : length (source a.program).openings ≤ n
  pub named : AllNamed n a.trace
  pub few : n ≤ MAX_CELLS

pub run_holds : (a : AcceptedRun) → HasDeterminateRun a → (frames : List PlannedFrame) → AreFramesOf a frames
    → (n : ℕ) → n ≡ end_from (length (source a.program).openings) frames → Holds a n
run_holds a run frames are n is = subst (Holds a) (sym end) (record {
  globals = globals_below p r;
  named = subst (AllNamed (all_cells p r)) (sym numbers.events) (run_named p r [] (named p r) numbers.here);
  few = (runs_small p a.program.well_named a.input r a.trace (Leaves a.outcome) serial).cells;
})
  where
    p : Source
    p = source a.program

    r : Transcript
    r = run.1.ended.ran.run

    serial : IsSerialRun p a.input r a.trace (Leaves a.outcome)
    serial = run.1.ended.ran.serial

    numbers : AreNumbered p r a.trace
    numbers = events_numbered p a.input r a.trace (Leaves a.outcome) a.program.well_named serial

    end : n ≡ all_cells p r
    end = is ∙ (ap (end_from (length p.openings)) (are r serial)
        ∙ (frames_end p (length p.openings) (callees_of r) ∙ sym (counted_cells p r (entered p Root (unbegun p)))))
