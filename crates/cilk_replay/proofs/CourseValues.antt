-- Each requested read of a course gives its cell's value by the course's own list: `course_right`.
-- After a run, cells by names and by numbers have the same values: `tied_after`.
use Rattle.std.proofs.Common.{◌≡◌, ℕ, ℤ, nat_eq, Bool, true, false, cond, if◌then◌else◌, List, [], ◌∷◌, ◌++◌, length, Option, refl, sym, ap, ◌∙◌, subst}
use Rattle.cilk_types.specs.declared.event.Event as numbers
use Rattle.cilk_types.specs.declared.event.Instance as numbered
use Rattle.cilk_types.specs.declared.invocation.Invocation.{Invocation}
use Rattle.cilk_types.specs.declared.invocation.Invocation.TheVariants.{Call, Spawn}
use Rattle.cilk_monoid.specs.Laws.{MonoidStructure}
use Rattle.cilk_program.specs.Answered.{written, IsRightRead, cells_after}
use Rattle.cilk_determinacy.specs.Runs.{Cell, same_cell, Instance, Ask, Begins, Resumes, Creates, Updates, Sets, Values, Prints, Event, Reads, Writes, Syncs, Ends, Passes, Deed, Does, Invokes, Run}
use Rattle.cilk_determinacy.specs.Runs as runs
use Rattle.cilk_determinacy.specs.Machine.{put}
use Rattle.cilk_determinacy.specs.Monoids.{on_view}
use Rattle.cilk_determinacy.specs.Serial.{value_after, IsReadRight}
use Rattle.cilk_determinacy.specs.Traces.{trace, IsWrittenEvent, IsWritten, AreWritten}
use Rattle.cilk_determinacy.specs.Views.{view_after}
use Rattle.cilk_replay.specs.InputCourses.{Course, stop, act, child, run_of, asked_in, IsLike, IsCourse}
use Rattle.cilk_replay.proofs.AskedEventOrders.{long, written_long}
use Rattle.cilk_replay.proofs.LastWrites.{Cells, cells_after_both, AreAskedRight, right_both}

chosen : (b d : Bool) (v x y : ℤ) → b ≡ d → x ≡ y → cond b v x ≡ (if d then v else y)
chosen true true v x y e h = refl
chosen true false v x y e h = absurd (cc e)
chosen false true v x y e h = absurd (cc e)
chosen false false v x y e h = h

record IsSplit {W : Type 0} (cell : Cell → ℕ) (instance : Instance → numbered.Instance) (ds ms : List (Deed W)) (es : List numbers.Event) : Type 0 where
  first : List numbers.Event
  second : List numbers.Event
  both : es ≡ first ++ second
  first_written : AreWritten cell instance ds first
  second_written : AreWritten cell instance ms second

split : {W : Type 0} (cell : Cell → ℕ) (instance : Instance → numbered.Instance) (ds ms : List (Deed W)) (es : List numbers.Event)
    → AreWritten cell instance (ds ++ ms) es → IsSplit cell instance ds ms es
split cell instance [] ms es h = record { first = []; second = es; both = refl; first_written = tt; second_written = h }
split cell instance (d ∷ ds) ms [] h = absurd h
split cell instance (d ∷ ds) ms (e ∷ es) h =
    let r = split cell instance ds ms es h.1 in
    record {
      first = e ∷ r.first;
      second = r.second;
      both = ap (λ (l : List numbers.Event). e ∷ l) r.both;
      first_written = (h.0, r.first_written);
      second_written = r.second_written;
    }

-- the cells that a run reads and writes
abbrev pub EventKnown : (Cell → Type 0) → Event → Type 0
EventKnown Known (Reads c v) = Known c
EventKnown Known (Writes c v) = Known c
EventKnown Known Syncs = Unit {0}
EventKnown Known (Ends v gone) = Unit {0}
EventKnown Known (Passes m) = Unit {0}

abbrev pub IsKnown : {W : Type 0} → (Cell → Type 0) → Run W → Type 0
IsKnown Known runs.stop = Unit {0}
IsKnown Known (runs.act e r) = EventKnown Known e × IsKnown Known r
IsKnown Known (runs.child k v u r) = IsKnown Known u × IsKnown Known r

known_like : (Known : Cell → Type 0) (e x : Event) → IsLike e x → EventKnown Known e → EventKnown Known x
known_like Known (Reads c v) (Reads d w) h k = subst Known h k
known_like Known (Writes c v) (Writes d w) h k = subst Known h k
known_like Known Syncs Syncs h k = tt
known_like Known (Ends v gone) (Ends w gone') h k = tt
known_like Known (Passes m) (Passes n) h k = tt
known_like Known e x h k = absurd h

-- Known cells have numbers of their own.
module _ (cell : Cell → ℕ) (instance : Instance → numbered.Instance) (Known : Cell → Type 0) (apart : (c d : Cell) → Known c → Known d → same_cell c d ≡ nat_eq (cell c) (cell d)) where
  -- cells by names and by numbers hold the same
  abbrev pub Tied : (Cell → ℤ) → Cells → Type 0
  Tied memory cells = (c : Cell) → Known c → memory c ≡ cells (cell c)

  put_tied : (memory : Cell → ℤ) (cells : Cells) (e : Event) (n : numbers.Event) → IsWrittenEvent cell instance e n → EventKnown Known e
      → Tied memory cells → Tied (λ c. put e c (memory c)) (written n cells)
  put_tied memory cells (Reads d v) n is k h c known = h c known ∙ ap (λ n. written n cells (cell c)) (sym is)
  put_tied memory cells (Writes d v) n is k h c known =
      chosen (same_cell d c) (nat_eq (cell d) (cell c)) v (memory c) (cells (cell c)) (apart d c k known) (h c known) ∙ ap (λ n. written n cells (cell c)) (sym is)
  put_tied memory cells Syncs n is k h c known = h c known ∙ ap (λ n. written n cells (cell c)) (sym is)
  put_tied memory cells (Ends v gone) n is k h c known = h c known ∙ ap (λ n. written n cells (cell c)) (sym is)
  put_tied memory cells (Passes Begins) n is k h c known = h c known ∙ ap (λ n. written n cells (cell c)) (sym is.1)
  put_tied memory cells (Passes Resumes) n is k h c known = h c known ∙ ap (λ n. written n cells (cell c)) (sym is.1)
  put_tied memory cells (Passes (Creates i)) n is k h c known = h c known ∙ ap (λ n. written n cells (cell c)) (sym is)
  put_tied memory cells (Passes (Updates i v)) n is k h c known = h c known ∙ ap (λ n. written n cells (cell c)) (sym is)
  put_tied memory cells (Passes (Sets i v)) n is k h c known = h c known ∙ ap (λ n. written n cells (cell c)) (sym is)
  put_tied memory cells (Passes (Values i v)) n is k h c known = h c known ∙ ap (λ n. written n cells (cell c)) (sym is)
  put_tied memory cells (Passes (Prints v)) n is k h c known = h c known ∙ ap (λ n. written n cells (cell c)) (sym is)

  module _ (W : Type 0) where
    start_tied : (memory : Cell → ℤ) (cells : Cells) (k : Invocation) (v : W) (n : numbers.Event) → IsWritten cell instance (Invokes k v) n
        → Tied memory cells → Tied memory (written n cells)
    start_tied memory cells Call v n is h c known = h c known ∙ ap (λ n. written n cells (cell c)) (sym is.1)
    start_tied memory cells Spawn v n is h c known = h c known ∙ ap (λ n. written n cells (cell c)) (sym is.1)

    pub tied_after : (memory : Cell → ℤ) (cells : Cells) (t : Run W) (es : List numbers.Event) → AreWritten cell instance (trace t) es → IsKnown Known t
        → Tied memory cells
        → Tied (λ c. value_after t c (memory c)) (cells_after es cells)
    tied_after memory cells runs.stop [] h k tied = tied
    tied_after memory cells runs.stop (n ∷ es) h k tied = absurd h
    tied_after memory cells (runs.act e r) [] h k tied = absurd h
    tied_after memory cells (runs.act e r) (n ∷ es) h k tied =
        tied_after (λ c. put e c (memory c)) (written n cells) r es h.1 k.1 (put_tied memory cells e n h.0 k.0 tied)
    tied_after memory cells (runs.child j v u r) [] h k tied = absurd h
    tied_after memory cells (runs.child j v u r) (n ∷ es) h k tied =
        let parts = split cell instance (trace u) (trace r) es h.1 in
        let inner = tied_after memory (written n cells) u parts.first parts.first_written k.0 (start_tied memory cells j v n h.0 tied) in
        let rest = tied_after (λ c. value_after u c (memory c)) (cells_after parts.first (written n cells)) r parts.second parts.second_written k.1 inner in
        subst (λ (f : Cells). Tied (λ c. value_after r c (value_after u c (memory c))) f)
        (sym (ap (λ l. cells_after l (written n cells)) parts.both ∙ cells_after_both parts.first parts.second (written n cells))) rest

    read_right : (memory : Cell → ℤ) (cells : Cells) (e : Event) (n : numbers.Event) → IsWrittenEvent cell instance e n → EventKnown Known e
        → Tied memory cells → IsReadRight e memory → IsRightRead n cells
    read_right memory cells (Reads d v) n is k h r = subst (λ n. IsRightRead n cells) (sym is) (r ∙ h d k)
    read_right memory cells (Writes d v) n is k h r = subst (λ n. IsRightRead n cells) (sym is) tt
    read_right memory cells Syncs n is k h r = subst (λ n. IsRightRead n cells) (sym is) tt
    read_right memory cells (Ends v gone) n is k h r = subst (λ n. IsRightRead n cells) (sym is) tt
    read_right memory cells (Passes Begins) n is k h r = subst (λ n. IsRightRead n cells) (sym is.1) tt
    read_right memory cells (Passes Resumes) n is k h r = subst (λ n. IsRightRead n cells) (sym is.1) tt
    read_right memory cells (Passes (Creates i)) n is k h r = subst (λ n. IsRightRead n cells) (sym is) tt
    read_right memory cells (Passes (Updates i v)) n is k h r = subst (λ n. IsRightRead n cells) (sym is) tt
    read_right memory cells (Passes (Sets i v)) n is k h r = subst (λ n. IsRightRead n cells) (sym is) tt
    read_right memory cells (Passes (Values i v)) n is k h r = subst (λ n. IsRightRead n cells) (sym is) tt
    read_right memory cells (Passes (Prints v)) n is k h r = subst (λ n. IsRightRead n cells) (sym is) tt

    start_right : (cells : Cells) (k : Invocation) (v : W) (n : numbers.Event) → IsWritten cell instance (Invokes k v) n → IsRightRead n cells
    start_right cells Call v n is = subst (λ n. IsRightRead n cells) (sym is.1) tt
    start_right cells Spawn v n is = subst (λ n. IsRightRead n cells) (sym is.1) tt

    module _ (V : Type 0) (M : Instance → MonoidStructure V) (next : W → List (Deed W) → Option (Ask W)) (same : W → W → Bool) where
      pub course_known : (w : W) (past : List (Deed W)) (memory : Cell → ℤ) (views : Instance → V) (t : Run W) (c : Course W)
          → IsCourse W V M next same w past memory views t c
          → IsKnown Known t → IsKnown Known (run_of c)
      course_known w past memory views runs.stop stop h k = tt
      course_known w past memory views runs.stop (act b x c) h k = absurd h
      course_known w past memory views runs.stop (child b j v u c) h k = absurd h
      course_known w past memory views (runs.act e r) stop h k = absurd h
      course_known w past memory views (runs.act e r) (child b j v u c) h k = absurd h
      course_known w past memory views (runs.act e r) (act b x c) h k =
          (known_like Known e x h.0.like k.0, course_known w (past ++ Does x ∷ []) (λ i. put x i (memory i)) (λ i. on_view (M i) i x (views i)) r c h.1 k.1)
      course_known w past memory views (runs.child j v u r) stop h k = absurd h
      course_known w past memory views (runs.child j v u r) (act b x c) h k = absurd h
      course_known w past memory views (runs.child j v u r) (child b i x d c) h k = (
        course_known x [] memory views u d h.1 k.0,
        course_known w (past ++ Invokes i x ∷ []) (λ i. value_after (run_of d) i (memory i)) (λ i. view_after (M i) i (run_of d) (views i)) r c h.2 k.1,
      )

      pub course_right : (w : W) (past : List (Deed W)) (memory : Cell → ℤ) (views : Instance → V) (cells : Cells) (t : Run W) (c : Course W) (es : List numbers.Event)
          → IsCourse W V M next same w past memory views t c → IsKnown Known t → AreWritten cell instance (trace (run_of c)) es → Tied memory cells
          → AreAskedRight cells es (asked_in c)
      course_right w past memory views cells runs.stop stop [] h k is tied = tt
      course_right w past memory views cells runs.stop stop (n ∷ es) h k is tied = absurd is
      course_right w past memory views cells runs.stop (act b x c) es h k is tied = absurd h
      course_right w past memory views cells runs.stop (child b j v u c) es h k is tied = absurd h
      course_right w past memory views cells (runs.act e r) stop es h k is tied = absurd h
      course_right w past memory views cells (runs.act e r) (child b j v u c) es h k is tied = absurd h
      course_right w past memory views cells (runs.act e r) (act b x c) [] h k is tied = absurd is
      course_right w past memory views cells (runs.act e r) (act b x c) (n ∷ es) h k is tied =
          let known = known_like Known e x h.0.like k.0 in (
            λ yes. read_right memory cells x n is.0 known tied (h.0.made yes).1,
            course_right w (past ++ Does x ∷ []) (λ i. put x i (memory i)) (λ i. on_view (M i) i x (views i)) (written n cells) r c es h.1 k.1 is.1 (put_tied memory cells x n is.0 known tied),
          )
      course_right w past memory views cells (runs.child j v u r) stop es h k is tied = absurd h
      course_right w past memory views cells (runs.child j v u r) (act b x c) es h k is tied = absurd h
      course_right w past memory views cells (runs.child j v u r) (child b i x d c) [] h k is tied = absurd is
      course_right w past memory views cells (runs.child j v u r) (child b i x d c) (n ∷ es) h k is tied =
          let parts = split cell instance (trace (run_of d)) (trace (run_of c)) es is.1 in
          let started = start_tied memory cells i x n is.0 tied in
          let inner = course_right x [] memory views (written n cells) u d parts.first h.1 k.0 parts.first_written started in
          let after = tied_after memory (written n cells) (run_of d) parts.first parts.first_written (course_known x [] memory views u d h.1 k.0) started in
          let rest = course_right w (past ++ Invokes i x ∷ []) (λ i. value_after (run_of d) i (memory i)) (λ i. view_after (M i) i (run_of d) (views i)) (cells_after parts.first (written n cells)) r c parts.second h.2 k.1 parts.second_written after in
          let as_many : length parts.first ≡ length (asked_in d) = written_long cell instance (trace (run_of d)) parts.first parts.first_written ∙ long d in (
            λ yes. start_right cells i x n is.0,
            subst (λ l. AreAskedRight (written n cells) l (asked_in d ++ asked_in c)) (sym parts.both)
                (right_both (written n cells) parts.first parts.second (asked_in d) (asked_in c) as_many inner rest),
          )
