-- A course uses as many events, frames and cells as the plan's run: `as_much`.
--
-- - `head_is`: the first event of a part of a loop says whether it is one turn, and so whether it
--   has cells;
-- - `IsOpened`: each frame begins and continues;
-- - `are_like`: a course starts frames with as many cells as the plan's run; `as_much`: so it has
--   the same cost.
use Rattle.std.proofs.Common.{◌≡◌, ℕ, ℤ, pos, ◌-ℤ◌, int_eq, Bool, true, false, if◌then◌else◌, List, [], ◌∷◌, ◌++◌, Option, Some, refl, sym, ap, ap₂, ◌∙◌, subst, arith, eqb-true}
use Rattle.std.proofs.lemmas.Bool.{and_parts}
use Rattle.cilk_types.specs.declared.invocation.Invocation.{Invocation}
use Rattle.cilk_types.specs.declared.invocation.Invocation.TheVariants.{Spawn}
use Rattle.cilk_types.specs.declared.limits.TheConstants.{MAX_TICKS}
use Rattle.cilk_program.specs.declared.ask.Ask as language
use Rattle.cilk_program.specs.declared.ask.Ask.TheVariants as asks
use Rattle.cilk_program.specs.declared.ask.Callee.{Callee}
use Rattle.cilk_program.specs.declared.ask.Callee.TheVariants as callees
use Rattle.cilk_program.specs.declared.ask.LoopPart.{LoopPart}
use Rattle.cilk_program.specs.declared.syntax.Place.TheVariants as places
use Rattle.cilk_program.specs.Behaviour.{◌>>=◌, ask, invokes, all_do, finishes, part, middle, ended, frame_asks}
use Rattle.cilk_types.specs.declared.invocation.Invocation.TheVariants as invocations
use Rattle.cilk_program.specs.Inside.{body_of}
use Rattle.cilk_program.specs.SerialRun.{cells_of}
use Rattle.cilk_program.specs.Syntax.{Source, function_at, loop_at}
use Rattle.cilk_determinacy.specs.Costs.{EventTotal, FrameTotal, CellTotal, frame_cost, cells_of as cells_begun, weight}
use Rattle.cilk_determinacy.specs.Machine.{put}
use Rattle.cilk_determinacy.specs.Monoids.{on_view}
use Rattle.cilk_determinacy.specs.Runs.{Cell, Instance, Ask, Write, Invoke, Begins, Resumes, Creates, Updates, Sets, Values, Prints, Event, Reads, Writes, Syncs, Ends, Passes, Deed, Does, Invokes, Run, ask_of}
use Rattle.cilk_determinacy.specs.Runs as runs
use Rattle.cilk_determinacy.specs.Serial.{value_after, Behaves}
use Rattle.cilk_determinacy.specs.MachineTheorem.{follows}
use Rattle.cilk_determinacy.specs.Traces.{Due, begin_due, resume_due, neither_due, IsFramed}
use Rattle.cilk_determinacy.specs.Views.{view_after}
use Rattle.cilk_determinacy.specs.FrameEnvMachine.{named_ask, next, costs}
use Rattle.cilk_determinacy.specs.Reducers.{View, monoid_of}
use Rattle.cilk_determinacy.specs.FrameEnvs.{FrameEnv}
use Rattle.cilk_replay.specs.InputCourses.{Course, stop, act, child, run_of, IsCourse}
use Rattle.cilk_replay.specs.Frames.{same_body, same_frame}
use Rattle.cilk_replay.proofs.OneRun.{invoked}

-- ---- parts of loops

-- one turn
abbrev single : LoopPart → Bool
single l = int_eq (l.high -ℤ l.low) (pos 1)

abbrev opposite : Bool → Bool
opposite b = if b then false else true

opposites : (a b : Bool) → opposite a ≡ opposite b → a ≡ b
opposites true true h = refl
opposites true false h = absurd (cc h)
opposites false true h = absurd (cc h)
opposites false false h = refl

abbrev loop_ask : LoopPart → Bool → language.Ask
loop_ask l b = if b then asks.Write (places.Local 0 0) l.low else asks.Invoke Spawn (part l l.low (middle l.low l.high))

asked_first : (p : Source) (inputs : List ℤ) (l : LoopPart) → (frame_asks p inputs (callees.Loop l) (pos 0 ∷ []) MAX_TICKS).ask ≡ loop_ask l (single l)
asked_first p inputs l = by (single l)
  where
    by : (b : Bool)
        → (ended (if b then (ask (asks.Write (places.Local 0 0) l.low) [] MAX_TICKS >>= λ _ answers left. (let body = loop_at p l.number in all_do inputs body.body answers left) >>= finishes false)
        else (invokes Spawn (part l l.low (middle l.low l.high)) [] MAX_TICKS >>= λ _ answers left. invokes invocations.Call (part l (middle l.low l.high) l.high) answers left >>= finishes false))).ask ≡ loop_ask l b
    by true = refl
    by false = refl

-- after its `begin` the frame starts another
abbrev child_first : Run FrameEnv → Bool
child_first runs.stop = false
child_first (runs.act e runs.stop) = false
child_first (runs.act e (runs.act x r)) = false
child_first (runs.act e (runs.child k v u r)) = true
child_first (runs.child k v u r) = false

abbrev BeginsOn : Run FrameEnv → Type 0
BeginsOn (runs.act (Passes Begins) (runs.act e r)) = Unit {0}
BeginsOn (runs.act (Passes Begins) (runs.child k v u r)) = Unit {0}
BeginsOn _ = ⊥

write_invoke : (W : Type 0) (o : Option (Ask W)) (c : Cell) (x : ℤ) (k : Invocation) (v : W) → o ≡ Some (Write c x) → o ≡ Some (Invoke k v) → ⊥
write_invoke W o c x k v g h = cc

both_asks : (W : Type 0) (o : Option (Ask W)) (a b : Ask W) → o ≡ Some a → o ≡ Some b → a ≡ b
both_asks W o a b g h = cc

module _ (p : Source) (inputs : List ℤ) where
  loop_next : (w : FrameEnv) (l : LoopPart) → w.callee ≡ callees.Loop l → (b : Bool) → single l ≡ b
      → next p inputs w (Does (Passes Begins) ∷ []) ≡ Some (named_ask p w 1 (loop_ask l b))
  loop_next w l is b e =
      ap (λ (c : Callee). Some (named_ask p w 1 (frame_asks p inputs c (pos 0 ∷ []) MAX_TICKS).ask)) is
      ∙ ap (λ (a : language.Ask). Some (named_ask p w 1 a)) (asked_first p inputs l)
      ∙ ap (λ (b : Bool). Some (named_ask p w 1 (loop_ask l b))) e

  head_is : (w : FrameEnv) (l : LoopPart) → w.callee ≡ callees.Loop l → (d : Run FrameEnv) → BeginsOn d → Behaves FrameEnv (follows (next p inputs)) w [] d
      → child_first d ≡ opposite (single l)
  head_is w l is (runs.act (Passes Begins) (runs.act x r)) on b = by (single l) refl
    where
      by : (s : Bool) → single l ≡ s → false ≡ opposite s
      by true e = refl
      by false e = absurd (invoked x Spawn _ (both_asks FrameEnv _ _ _ b.1.0 (loop_next w l is false e)))
  head_is w l is (runs.act (Passes Begins) (runs.child k v u r)) on b = by (single l) refl
    where
      by : (s : Bool) → single l ≡ s → true ≡ opposite s
      by true e = absurd (write_invoke FrameEnv _ _ _ k v (loop_next w l is true e) b.1.0)
      by false e = refl
  head_is w l is d on b = absurd on

-- ---- one body

same_cells : (p : Source) (a b : Callee) → same_body (body_of p a) (body_of p b) ≡ true
    → ((l m : LoopPart) → a ≡ callees.Loop l → b ≡ callees.Loop m → single l ≡ single m) → cells_of p a ≡ cells_of p b
same_cells p callees.Root callees.Root h loops = refl
same_cells p callees.Root (callees.Function c) h loops = ap (λ n. let f = function_at p n in f.cells) (eqb-true p.main c.function h)
same_cells p callees.Root (callees.Loop m) h loops = absurd (cc h)
same_cells p (callees.Function c) callees.Root h loops = ap (λ n. let f = function_at p n in f.cells) (eqb-true c.function p.main h)
same_cells p (callees.Function c) (callees.Function d) h loops = ap (λ n. let f = function_at p n in f.cells) (eqb-true c.function d.function h)
same_cells p (callees.Function c) (callees.Loop m) h loops = absurd (cc h)
same_cells p (callees.Loop l) callees.Root h loops = absurd (cc h)
same_cells p (callees.Loop l) (callees.Function c) h loops = absurd (cc h)
same_cells p (callees.Loop l) (callees.Loop m) h loops =
    ap₂ (λ (b : Bool) (n : ℕ). let body = loop_at p n in if b then body.cells else 0) (loops l m refl refl) (eqb-true l.number m.number h)

-- ---- each frame begins and continues

abbrev pub IsOpened : Run FrameEnv → Type 0
IsOpened runs.stop = Unit {0}
IsOpened (runs.act e r) = IsOpened r
IsOpened (runs.child k v u r) = BeginsOn u × IsOpened u × IsOpened r

begins_on : (u : Run FrameEnv) → IsFramed begin_due u → BeginsOn u
begins_on (runs.act (Passes Begins) runs.stop) f = f
begins_on (runs.act (Passes Begins) (runs.act e r)) f = tt
begins_on (runs.act (Passes Begins) (runs.child k v u r)) f = tt
begins_on u f = absurd f

pub opened : (due : Due) (t : Run FrameEnv) → IsFramed due t → IsOpened t
opened begin_due (runs.act (Passes Begins) r) f = opened neither_due r f
opened resume_due (runs.act (Passes Resumes) r) f = opened neither_due r f
opened neither_due (runs.act (Reads c v) r) f = opened neither_due r f
opened neither_due (runs.act (Writes c v) r) f = opened neither_due r f
opened neither_due (runs.act Syncs r) f = opened neither_due r f
opened neither_due (runs.act (Ends v gone) r) f = subst IsOpened (sym f) tt
opened neither_due (runs.act (Passes (Creates i)) r) f = opened neither_due r f
opened neither_due (runs.act (Passes (Updates i x)) r) f = opened neither_due r f
opened neither_due (runs.act (Passes (Sets i x)) r) f = opened neither_due r f
opened neither_due (runs.act (Passes (Values i n)) r) f = opened neither_due r f
opened neither_due (runs.act (Passes (Prints x)) r) f = opened neither_due r f
opened neither_due (runs.child k v u r) f = (begins_on u f.0, opened begin_due u f.0, opened resume_due r f.1)
opened due t f = absurd f

-- ---- the cost of a course

no_frames : (e : Event) → frame_cost {W = FrameEnv} (ask_of e) ≡ 0
no_frames (Reads c v) = refl
no_frames (Writes c v) = refl
no_frames Syncs = refl
no_frames (Ends v gone) = refl
no_frames (Passes m) = refl

no_cells : (cells : FrameEnv → ℕ) (e : Event) → cells_begun cells (ask_of e) ≡ 0
no_cells cells (Reads c v) = refl
no_cells cells (Writes c v) = refl
no_cells cells Syncs = refl
no_cells cells (Ends v gone) = refl
no_cells cells (Passes m) = refl

-- each run has the other's children, with as many cells
abbrev pub AreLike : Source → Run FrameEnv → Run FrameEnv → Type 0
AreLike p runs.stop runs.stop = Unit {0}
AreLike p (runs.act e r) (runs.act x s) = AreLike p r s
AreLike p (runs.child k v u r) (runs.child j y d s) = (cells_of p v.callee ≡ cells_of p y.callee) × AreLike p u d × AreLike p r s
AreLike p _ _ = ⊥

module _ (p : Source) (inputs others : List ℤ) where
  -- the run from a point on uses as much as the other
  pub record IsAsMuch (w x : FrameEnv) (past past' : List (Deed FrameEnv)) (t u : Run FrameEnv) : Type 0 where
    pub events : weight (costs p inputs) EventTotal w past t ≡ weight (costs p others) EventTotal x past' u
    pub frames : weight (costs p inputs) FrameTotal w past t ≡ weight (costs p others) FrameTotal x past' u
    pub cells : weight (costs p inputs) CellTotal w past t ≡ weight (costs p others) CellTotal x past' u

  pub as_much : (w x : FrameEnv) (past past' : List (Deed FrameEnv)) (t u : Run FrameEnv) → AreLike p t u → IsAsMuch w x past past' t u
  as_much w x past past' runs.stop runs.stop h = record { events = refl; frames = refl; cells = refl }
  as_much w x past past' runs.stop (runs.act y s) h = absurd h
  as_much w x past past' runs.stop (runs.child j y d s) h = absurd h
  as_much w x past past' (runs.act e r) runs.stop h = absurd h
  as_much w x past past' (runs.act e r) (runs.child j y d s) h = absurd h
  as_much w x past past' (runs.act e r) (runs.act y s) h =
      let rest = as_much w x (past ++ Does e ∷ []) (past' ++ Does y ∷ []) r s h in
      let f = no_frames e in
      let f' = no_frames y in
      let n = no_cells (λ (w : FrameEnv). cells_of p w.callee) e in
      let n' = no_cells (λ (w : FrameEnv). cells_of p w.callee) y in
      let re = rest.events in
      let rf = rest.frames in
      let rc = rest.cells in
      record { events = omega (arith, re); frames = omega (arith, f, f', rf); cells = omega (arith, n, n', rc) }
  as_much w x past past' (runs.child k v u r) runs.stop h = absurd h
  as_much w x past past' (runs.child k v u r) (runs.act y s) h = absurd h
  as_much w x past past' (runs.child k v u r) (runs.child j y d s) h =
      let inner = as_much v y [] [] u d h.1 in
      let rest = as_much w x (past ++ Invokes k v ∷ []) (past' ++ Invokes j y ∷ []) r s h.2 in
      let cells = h.0 in
      let ie = inner.events in
      let re = rest.events in
      let jf = inner.frames in
      let rf = rest.frames in
      let ic = inner.cells in
      let rc = rest.cells in
      record { events = omega (arith, ie, re); frames = omega (arith, jf, rf); cells = omega (arith, cells, ic, rc) }

  first_same : (w : FrameEnv) (past : List (Deed FrameEnv)) (memory : Cell → ℤ) (views : Instance → View) (t : Run FrameEnv) (c : Course FrameEnv)
      → IsCourse FrameEnv View monoid_of (next p others) (same_frame p) w past memory views t c → child_first t ≡ child_first (run_of c)
  first_same w past memory views runs.stop stop h = refl
  first_same w past memory views runs.stop (act b x c) h = absurd h
  first_same w past memory views runs.stop (child b j x d c) h = absurd h
  first_same w past memory views (runs.act e r) stop h = absurd h
  first_same w past memory views (runs.act e runs.stop) (act b x stop) h = refl
  first_same w past memory views (runs.act e runs.stop) (act b x (act b' y c)) h = absurd h.1
  first_same w past memory views (runs.act e runs.stop) (act b x (child b' j y d c)) h = absurd h.1
  first_same w past memory views (runs.act e (runs.act e' r)) (act b x stop) h = absurd h.1
  first_same w past memory views (runs.act e (runs.act e' r)) (act b x (act b' y c)) h = refl
  first_same w past memory views (runs.act e (runs.act e' r)) (act b x (child b' j y d c)) h = absurd h.1
  first_same w past memory views (runs.act e (runs.child k v u r)) (act b x stop) h = absurd h.1
  first_same w past memory views (runs.act e (runs.child k v u r)) (act b x (act b' y c)) h = absurd h.1
  first_same w past memory views (runs.act e (runs.child k v u r)) (act b x (child b' j y d c)) h = refl
  first_same w past memory views (runs.act e r) (child b j x d c) h = absurd h
  first_same w past memory views (runs.child k v u r) stop h = absurd h
  first_same w past memory views (runs.child k v u r) (act b x c) h = absurd h
  first_same w past memory views (runs.child k v u r) (child b j x d c) h = refl

  -- a course is like the plan's run
  pub are_like : (w x : FrameEnv) (past past' : List (Deed FrameEnv)) (memory : Cell → ℤ) (views : Instance → View) (t : Run FrameEnv) (c : Course FrameEnv)
      → IsCourse FrameEnv View monoid_of (next p others) (same_frame p) x past' memory views t c
      → Behaves FrameEnv (follows (next p inputs)) w past t → IsOpened t → Behaves FrameEnv (follows (next p others)) x past' (run_of c)
      → IsOpened (run_of c) → AreLike p t (run_of c)
  are_like w x past past' memory views runs.stop stop h b o b' o' = tt
  are_like w x past past' memory views runs.stop (act z y c) h b o b' o' = absurd h
  are_like w x past past' memory views runs.stop (child z j y d c) h b o b' o' = absurd h
  are_like w x past past' memory views (runs.act e r) stop h b o b' o' = absurd h
  are_like w x past past' memory views (runs.act e r) (child z j y d c) h b o b' o' = absurd h
  are_like w x past past' memory views (runs.act e r) (act z y c) h b o b' o' =
      are_like w x (past ++ Does e ∷ []) (past' ++ Does y ∷ []) (λ i. put y i (memory i)) (λ i. on_view (monoid_of i) i y (views i)) r c h.1 b.1 o b'.1 o'
  are_like w x past past' memory views (runs.child k v u r) stop h b o b' o' = absurd h
  are_like w x past past' memory views (runs.child k v u r) (act z y c) h b o b' o' = absurd h
  are_like w x past past' memory views (runs.child k v u r) (child z j y d c) h b o b' o' =
      let bodies = and_parts _ _ h.0.fits in (
        same_cells p v.callee y.callee bodies.1
            (λ l m at_v at_y. opposites (single l) (single m) (sym (head_is p inputs v l at_v u o.0 b.1) ∙ first_same y [] memory views u d h.1 ∙ head_is p others y m at_y (run_of d) o'.0 b'.1)),
        are_like v y [] [] memory views u d h.1 b.1 o.1 b'.1 o'.1,
        are_like w x (past ++ Invokes k v ∷ []) (past' ++ Invokes j y ∷ []) (λ i. value_after (run_of d) i (memory i)) (λ i. view_after (monoid_of i) i (run_of d) (views i)) r c h.2 b.2 o.2 b'.2 o'.2,
      )
