-- The events of the serial run on another input are those of the event order, if that departs
-- nowhere: `events_are`.
--
-- - `IsShaped`, `same_frames`: transcripts with the same children number their frames, cells and
--   reducers alike;
-- - `valued`: the events of a course by the plan's numbers are the plan's with the values of the
--   course.
use Rattle.std.proofs.Common.{◌≡◌, ℕ, zero, suc, ◌+◌, ℤ, List, [], ◌∷◌, ◌++◌, length, Option, Some, refl, sym, ap, ap₂, ◌∙◌, subst, arith}
use Rattle.std.proofs.lemmas.Bool.{and_parts}
use Rattle.cilk_types.specs.declared.event.Event as numbers
use Rattle.cilk_types.specs.declared.event.Event.TheVariants as events
use Rattle.cilk_types.specs.declared.event.Instance as numbered
use Rattle.cilk_types.specs.declared.invocation.Invocation.{Invocation}
use Rattle.cilk_types.specs.declared.invocation.Invocation.TheVariants.{Call, Spawn}
use Rattle.cilk_program.specs.declared.ask.Callee.{Callee}
use Rattle.cilk_program.specs.declared.ask.Callee.TheVariants as callees
use Rattle.cilk_program.specs.Syntax.{Source}
use Rattle.cilk_program.specs.SerialRun as serial
use Rattle.cilk_program.specs.SerialRun.{Transcript, cells_of}
use Rattle.cilk_program.specs.Numbering.{Counts, Block, entered, counts_after, child_at, frame_at, unbegun}
use Rattle.cilk_determinacy.specs.Machine.{put}
use Rattle.cilk_determinacy.specs.Monoids.{on_view}
use Rattle.cilk_determinacy.specs.Runs.{Name, Cell, Global, Own, Instance, Output, Reducer, Begins, Resumes, Creates, Updates, Sets, Values, Prints, Event, Reads, Writes, Syncs, Ends, Passes, Deed, Does, Invokes, Run}
use Rattle.cilk_determinacy.specs.Runs as runs
use Rattle.cilk_determinacy.specs.Serial.{value_after}
use Rattle.cilk_determinacy.specs.Traces.{trace}
use Rattle.cilk_determinacy.specs.Views.{view_after}
use Rattle.cilk_determinacy.proofs.Basics.{same_name-eq}
use Rattle.cilk_determinacy.specs.FrameEnvMachine.{next}
use Rattle.cilk_determinacy.specs.Reducers.{View, monoid_of}
use Rattle.cilk_determinacy.specs.FrameEnvs.{FrameEnv, child_env}
use Rattle.cilk_determinacy.specs.Nested.{named_from}
use Rattle.cilk_determinacy.specs.Numbers.{down, number_of, first_cell, frame_number, cell_number, instance_number, start_event, numbered_event, numbered_events}
use Rattle.cilk_determinacy.proofs.Numbered.{are_written}
use Rattle.cilk_determinacy.proofs.Weights.{written_length}
use Rattle.cilk_replay.specs.InputCourses.{Course, stop, act, child, run_of, IsLike, IsCourse}
use Rattle.cilk_replay.specs.Frames.{same_frame}
use Rattle.cilk_replay.specs.Lists.{with_value, with_values}
use Rattle.cilk_replay.proofs.CourseLimits.{AreLike}

-- ---- transcripts with the same children, of as many cells

abbrev IsShaped : Source → Transcript → Transcript → Type 0
IsShaped p serial.stop serial.stop = Unit {0}
IsShaped p (serial.act a v r) (serial.act b x s) = IsShaped p r s
IsShaped p (serial.child k c u r) (serial.child j d v s) = (cells_of p c ≡ cells_of p d) × IsShaped p u v × IsShaped p r s
IsShaped p _ _ = ⊥

shaped : (p : Source) (w x : FrameEnv) (i j : ℕ) (r s : Transcript) → AreLike p (named_from p w i r) (named_from p x j s) → IsShaped p r s
shaped p w x i j serial.stop serial.stop h = tt
shaped p w x i j serial.stop (serial.act b y s) h = absurd h
shaped p w x i j serial.stop (serial.child k d v s) h = absurd h
shaped p w x i j (serial.act a v r) serial.stop h = absurd h
shaped p w x i j (serial.act a v r) (serial.act b y s) h = shaped p w x i j r s h
shaped p w x i j (serial.act a v r) (serial.child k d y s) h = absurd h
shaped p w x i j (serial.child k c u r) serial.stop h = absurd h
shaped p w x i j (serial.child k c u r) (serial.act b y s) h = absurd h
shaped p w x i j (serial.child k c u r) (serial.child l d v s) h =
    (h.0, shaped p (child_env p w i c) (child_env p x j d) 1 1 u v h.1, shaped p w x (suc i) (suc j) r s h.2)

more_entered : (p : Source) (c d : Callee) (n : Counts) → cells_of p c ≡ cells_of p d → entered p c n ≡ entered p d n
more_entered p c d n e = ap (cells_more n) e
  where
    cells_more : Counts → ℕ → Counts
    cells_more n k = record { frames = suc n.frames; cells = n.cells + k }

same_after : (p : Source) (r s : Transcript) → IsShaped p r s → (n : Counts) → counts_after p r n ≡ counts_after p s n
same_after p serial.stop serial.stop h n = refl
same_after p serial.stop (serial.act b y s) h n = absurd h
same_after p serial.stop (serial.child k d v s) h n = absurd h
same_after p (serial.act a v r) serial.stop h n = absurd h
same_after p (serial.act a v r) (serial.act b y s) h n = same_after p r s h n
same_after p (serial.act a v r) (serial.child k d y s) h n = absurd h
same_after p (serial.child k c u r) serial.stop h n = absurd h
same_after p (serial.child k c u r) (serial.act b y s) h n = absurd h
same_after p (serial.child k c u r) (serial.child l d v s) h n =
    same_after p r s h.2 (counts_after p u (entered p c n)) ∙ ap (counts_after p s) (same_after p u v h.1 (entered p c n) ∙ ap (counts_after p v) (more_entered p c d n h.0))

same_block : (p : Source) (r s : Transcript) → IsShaped p r s → (n : Counts) (k : ℕ) (path : List ℕ) → child_at p r n k path ≡ child_at p s n k path
same_block p serial.stop serial.stop h n k path = refl
same_block p serial.stop (serial.act b y s) h n k path = absurd h
same_block p serial.stop (serial.child l d v s) h n k path = absurd h
same_block p (serial.act a v r) serial.stop h n k path = absurd h
same_block p (serial.act a v r) (serial.act b y s) h n k path = same_block p r s h n k path
same_block p (serial.act a v r) (serial.child l d y s) h n k path = absurd h
same_block p (serial.child m c u r) serial.stop h n k path = absurd h
same_block p (serial.child m c u r) (serial.act b y s) h n k path = absurd h
same_block p (serial.child m c u r) (serial.child l d v s) h n zero [] = ap (λ (k : ℕ). Some (block k)) h.0
  where
    block : ℕ → Block
    block k = record { number = suc n.frames; first = n.cells; cells = k }
same_block p (serial.child m c u r) (serial.child l d v s) h n zero (j ∷ path) =
    same_block p u v h.1 (entered p c n) j path ∙ ap (λ (n : Counts). child_at p v n j path) (more_entered p c d n h.0)
same_block p (serial.child m c u r) (serial.child l d v s) h n (suc k) path =
    same_block p r s h.2 (counts_after p u (entered p c n)) k path
    ∙ ap (λ (n : Counts). child_at p s n k path) (same_after p u v h.1 (entered p c n) ∙ ap (counts_after p v) (more_entered p c d n h.0))

module _ (p : Source) (r s : Transcript) (alike : IsShaped p r s) where
  same_at : (path : List ℕ) → frame_at p r path ≡ frame_at p s path
  same_at [] = refl
  same_at (k ∷ path) = same_block p r s alike (entered p callees.Root (unbegun p)) k path

  same_frames : (name : Name) → frame_number p r name ≡ frame_number p s name
  same_frames name = ap number_of (same_at (down name))

  same_cell_numbers : (c : Cell) → cell_number p r c ≡ cell_number p s c
  same_cell_numbers (Global n) = refl
  same_cell_numbers (Own name n) = ap (λ (b : Option Block). first_cell b + n) (same_at (down name))

  same_reducers : (i : Instance) → instance_number p r i ≡ instance_number p s i
  same_reducers Output = refl
  same_reducers (Reducer name n k) = ap of_frame (same_frames name)
    where
      of_frame : ℕ → numbered.Instance
      of_frame f = record { frame = f; place = suc n }

  same_event_number : (name : Name) (e : Event) → numbered_event p r name e ≡ numbered_event p s name e
  same_event_number name (Reads c v) = ap (λ n. events.Read n v) (same_cell_numbers c)
  same_event_number name (Writes c v) = ap (λ n. events.Write n v) (same_cell_numbers c)
  same_event_number name Syncs = refl
  same_event_number name (Ends v gone) = refl
  same_event_number name (Passes Begins) = ap events.Begin (same_frames name)
  same_event_number name (Passes Resumes) = ap events.Resume (same_frames name)
  same_event_number name (Passes (Creates i)) = ap events.Create (same_reducers i)
  same_event_number name (Passes (Updates i v)) = ap (λ j. events.Update j v) (same_reducers i)
  same_event_number name (Passes (Sets i v)) = ap (λ j. events.Set j v) (same_reducers i)
  same_event_number name (Passes (Values i v)) = ap (λ j. events.Value j v) (same_reducers i)
  same_event_number name (Passes (Prints v)) = refl

  same_events : (name : Name) (t : Run FrameEnv) → numbered_events p r name t ≡ numbered_events p s name t
  same_events name runs.stop = refl
  same_events name (runs.act e t) = ap₂ (λ (n : numbers.Event) l. n ∷ l) (same_event_number name e) (same_events name t)
  same_events name (runs.child k w u t) =
      ap₂ (λ (n : numbers.Event) l. n ∷ l) (ap (start_event k) (same_frames w.name)) (ap₂ (λ (l m : List numbers.Event). l ++ m) (same_events w.name u) (same_events name t))

-- ---- the values of a course

started_value : (k : Invocation) (n : ℕ) (d : Deed FrameEnv) → with_value (start_event k n) d ≡ start_event k n
started_value Call n d = refl
started_value Spawn n d = refl

values_long : (es : List numbers.Event) (ds : List (Deed FrameEnv)) → length (with_values es ds) ≡ length es
values_long [] ds = refl
values_long (e ∷ es) [] = refl
values_long (e ∷ es) (d ∷ ds) = ap suc (values_long es ds)

values_both : (es xs : List numbers.Event) (ds ms : List (Deed FrameEnv)) → length es ≡ length ds
    → with_values (es ++ xs) (ds ++ ms) ≡ with_values es ds ++ with_values xs ms
values_both [] xs [] ms h = refl
values_both [] xs (d ∷ ds) ms h = absurd (omega (arith, h))
values_both (e ∷ es) xs [] ms h = absurd (omega (arith, h))
values_both (e ∷ es) xs (d ∷ ds) ms h = let less : length es ≡ length ds = omega (arith, h) in ap (λ (l : List numbers.Event). with_value e d ∷ l) (values_both es xs ds ms less)

module _ (p : Source) (r : Transcript) (others : List ℤ) where
  long : (name : Name) (t : Run FrameEnv) → length (trace t) ≡ length (numbered_events p r name t)
  long name t = written_length (cell_number p r) (instance_number p r) (trace t) (numbered_events p r name t) (are_written p r name t)

  one_value : (name : Name) (e x : Event) → IsLike e x → numbered_event p r name x ≡ with_value {W = FrameEnv} (numbered_event p r name e) (Does x)
  one_value name (Reads c v) (Reads d w) h = ap (λ (c : Cell). events.Read (cell_number p r c) w) (sym h)
  one_value name (Writes c v) (Writes d w) h = ap (λ (c : Cell). events.Write (cell_number p r c) w) (sym h)
  one_value name Syncs Syncs h = refl
  one_value name (Ends v gone) (Ends w gone') h = refl
  one_value name (Passes Begins) (Passes Begins) h = refl
  one_value name (Passes Resumes) (Passes Resumes) h = refl
  one_value name (Passes (Creates i)) (Passes (Creates j)) h = ap (λ (i : Instance). events.Create (instance_number p r i)) (sym h)
  one_value name (Passes (Updates i v)) (Passes (Updates j w)) h = ap (λ (i : Instance). events.Update (instance_number p r i) w) (sym h)
  one_value name (Passes (Sets i v)) (Passes (Sets j w)) h = ap (λ (i : Instance). events.Set (instance_number p r i) w) (sym h)
  one_value name (Passes (Values i v)) (Passes (Values j w)) h = ap (λ (i : Instance). events.Value (instance_number p r i) w) (sym h)
  one_value name (Passes (Prints v)) (Passes (Prints w)) h = refl
  one_value name e x h = absurd h

  valued : (name : Name) (w : FrameEnv) (past : List (Deed FrameEnv)) (memory : Cell → ℤ) (views : Instance → View) (t : Run FrameEnv) (c : Course FrameEnv)
      → IsCourse FrameEnv View monoid_of (next p others) (same_frame p) w past memory views t c
      → numbered_events p r name (run_of c) ≡ with_values (numbered_events p r name t) (trace (run_of c))
  valued name w past memory views runs.stop stop h = refl
  valued name w past memory views runs.stop (act b x c) h = absurd h
  valued name w past memory views runs.stop (child b j x d c) h = absurd h
  valued name w past memory views (runs.act e t) stop h = absurd h
  valued name w past memory views (runs.act e t) (child b j x d c) h = absurd h
  valued name w past memory views (runs.act e t) (act b x c) h =
      ap₂ (λ (n : numbers.Event) l. n ∷ l) (one_value name e x h.0.like) (valued name w (past ++ Does x ∷ []) (λ i. put x i (memory i)) (λ i. on_view (monoid_of i) i x (views i)) t c h.1)
  valued name w past memory views (runs.child k v u t) stop h = absurd h
  valued name w past memory views (runs.child k v u t) (act b x c) h = absurd h
  valued name w past memory views (runs.child k v u t) (child b j x d c) h =
      let names : v.name ≡ x.name = same_name-eq v.name x.name (and_parts _ _ h.0.fits).0 in
      let inner = valued v.name x [] memory views u d h.1 in
      let rest = valued name w (past ++ Invokes j x ∷ []) (λ i. value_after (run_of d) i (memory i)) (λ i. view_after (monoid_of i) i (run_of d) (views i)) t c h.2 in
      let first : start_event j (frame_number p r x.name) ≡ with_value (start_event k (frame_number p r v.name)) (Invokes j x) =
      ap (λ (n : Name). start_event j (frame_number p r n)) (sym names) ∙ ap (λ (i : Invocation). start_event i (frame_number p r v.name)) (sym h.0.how)
      ∙ sym (started_value k (frame_number p r v.name) (Invokes j x)) in
      let many : length (numbered_events p r v.name u) ≡ length (trace (run_of d)) = sym (values_long (numbered_events p r v.name u) (trace (run_of d))) ∙ ap length (sym inner) ∙ sym (long v.name (run_of d)) in
      ap₂ (λ (n : numbers.Event) l. n ∷ l) first
      (ap (λ (n : Name). numbered_events p r n (run_of d) ++ numbered_events p r name (run_of c)) (sym names)
      ∙ ap₂ (λ (l m : List numbers.Event). l ++ m) inner rest
      ∙ sym (values_both (numbered_events p r v.name u) (numbered_events p r name t) (trace (run_of d)) (trace (run_of c)) many))

-- ---- a run whose named run is a course

pub events_are : (p : Source) (others : List ℤ) (r s : Transcript) (w : FrameEnv) (memory : Cell → ℤ) (views : Instance → View) (c : Course FrameEnv)
    → AreLike p (named_from p w 1 r) (run_of c) → named_from p w 1 s ≡ run_of c
    → IsCourse FrameEnv View monoid_of (next p others) (same_frame p) w [] memory views (named_from p w 1 r) c
    → numbered_events p s [] (named_from p w 1 s) ≡ with_values (numbered_events p r [] (named_from p w 1 r)) (trace (run_of c))
events_are p others r s w memory views c like is course =
    let alike = shaped p w w 1 1 r s (subst (AreLike p (named_from p w 1 r)) (sym is) like) in
    ap (numbered_events p s []) is ∙ sym (same_events p r s alike [] (run_of c)) ∙ valued p r others [] w [] memory views (named_from p w 1 r) c course
