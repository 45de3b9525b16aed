-- A frame reads a cell, writes one, and gives its result.
--
-- - `written_here`, `written_off`: the cells after a write;
-- - `reads`, `writes`, `results`: the laws.
use Rattle.std.proofs.Common.{◌≡◌, ◌<◌, ℕ, zero, suc, Bool, true, false, true≢false, cond, ℤ, List, [], ◌∷◌, length, slice_get, slice_set, Some, refl, sym, ap, ◌∙◌, subst, arith}
use Rattle.cilk_types.specs.declared.event.Event.TheVariants as events
use Rattle.cilk_program.specs.declared.ask.Ask.TheVariants as asks
use Rattle.cilk_program.specs.Syntax.{Source}
use Rattle.cilk_lower.specs.Code.{CodeView}
use Rattle.cilk_frames.specs.declared.cursor.Answer.TheVariants.{Done, Value}
use Rattle.cilk_determinacy.specs.Machine.{State}
use Rattle.cilk_determinacy.specs.Runs.{Name, Cell, Own, same_cell, Reads, Writes, Does}
use Rattle.cilk_determinacy.proofs.Basics.{same_cell-refl, same_cell-eq}
use Rattle.cilk_determinacy.specs.Reducers.{View}
use Rattle.cilk_determinacy.specs.FrameEnvs.{FrameEnv, cell_seen, result_cell}
use Rattle.cilk_scheduler.specs.declared.scheduler.Scheduler.{Scheduler}
use Rattle.cilk_scheduler.specs.Acting.{ReadsAreShown, ResultsAreShown, WritesAreShown}
use Rattle.cilk_scheduler.specs.Schedulers.{ShowsBy}
use Rattle.cilk_scheduler.specs.WorkerTables.{WorkerTable}
use Rattle.cilk_scheduler.specs.Numbered.{IsAbsent, IsCell}
use Rattle.cilk_scheduler.specs.FrameStates.{answered}
use Rattle.cilk_scheduler.proofs.Plain.{get_low}
use Rattle.cilk_scheduler.proofs.Ready.{strands_stay, quiet, own_views, own_bare, there, means_cell, result_lies}
use Rattle.cilk_scheduler.proofs.Seeing.{no_absent_cell, one_cell, one_cell_number}
use Rattle.cilk_scheduler.proofs.Stepped.{bare_now, strands_now, done}

module _ {A : Type 0} where
  pub written_length : (xs : List A) (n : ℕ) (v : A) → length (slice_set xs n v) ≡ length xs
  written_length [] n v = refl
  written_length (x ∷ xs) zero v = refl
  written_length (x ∷ xs) (suc n) v = ap suc (written_length xs n v)

  pub written_here : (xs : List A) (n : ℕ) (v : A) → n < length xs → slice_get (slice_set xs n v) n ≡ Some v
  written_here [] n v low = absurd (omega (arith, low))
  written_here (x ∷ xs) zero v low = refl
  written_here (x ∷ xs) (suc n) v low = written_here xs n v (omega (arith, low))

  pub written_off : (xs : List A) (n m : ℕ) (v : A) → (n ≡ m → ⊥) → slice_get (slice_set xs n v) m ≡ slice_get xs m
  written_off [] n m v off = refl
  written_off (x ∷ xs) zero zero v off = absurd (off refl)
  written_off (x ∷ xs) zero (suc m) v off = refl
  written_off (x ∷ xs) (suc n) zero v off = refl
  written_off (x ∷ xs) (suc n) (suc m) v off = written_off xs n m v (λ e. off (ap suc e))

module _ (code : CodeView) (p : Source) (inputs : List ℤ) where
  pub reads : ReadsAreShown code p inputs
  reads name b b' d s w k x n v t h means at notes =
      let sh = t.shows in
      let o = sh.sits k h.frame_state h.sits in
      let f = o.frame in
      let u = h.worker in
      let y = h.came in
      let c = b.cells in
      let ask = asks.Read x in
      let cell = cell_seen f.what x in
      let is = means_cell code p inputs name b d s w k ask t.lays sh h (λ q. cc) x n (there code p inputs name b d s w k ask t.lays sh h (λ q. cc) t.well) means in
      let value : s.memory cell ≡ v = (let q : Some (s.memory cell) ≡ Some v = sym (sh.memory cell n is) ∙ at in cc) in
      let calm = quiet code p inputs name b d s w k ask t.lays sh h (λ q. cc) t.asked (λ q. cc) in
      done code p inputs name b d s w k ask t.lays sh h (λ q. cc) b' (Reads cell v) y.strands (Value v) (answered (Value v) y) (events.Read n v) c.items u.views notes
      (ap (λ z. Does (Reads cell z)) value) tt refl refl refl (λ q. cc) (λ z q. cc) (λ z q. cc) (λ z gone q. cc) refl tt tt refl
      (strands_stay (Reads cell v) refl f.deeds ∙ strands_now code p inputs name b d s w k ask t.lays sh h (λ q. cc)) (n, is, refl)
      refl (λ a m it. sh.memory a m it) (λ m q none. refl)
      (λ i. s.piece (name k) i) (λ i. refl)
      (own_views code p inputs name b d s w k ask t.lays sh h (λ q. cc) calm)
      (bare_now code p inputs name b d s w k ask t.lays sh h (λ q. cc))
      (own_bare code p inputs name b d s w k ask t.lays sh h (λ q. cc))

  -- the cells after a write
  module _ (name : ℕ → Name) (b : Scheduler) (d : WorkerTable) (s : State FrameEnv View) (sh : ShowsBy code p inputs name b d s) (cell : Cell) (n : ℕ) (v : ℤ) (is : let f = b.frames in IsCell p f.items name s cell n) where
    memory_then : (a : Cell) (m : ℕ) → (let f = b.frames in IsCell p f.items name s a m) → (let c = b.cells in slice_get (slice_set c.items n v) m ≡ Some (cond (same_cell cell a) v (s.memory a)))
    memory_then a m it = let c = b.cells in by c.items (sh.memory a m it) (same_cell cell a) refl
      where
        by : (list : List ℤ) → slice_get list m ≡ Some (s.memory a) → (t : Bool) → same_cell cell a ≡ t → slice_get (slice_set list n v) m ≡ Some (cond (same_cell cell a) v (s.memory a))
        by list at true e =
            let same : cell ≡ a = same_cell-eq cell a e in
            let one : n ≡ m = one_cell_number code p inputs name b d s sh a n m (subst (λ z. let f = b.frames in IsCell p f.items name s z n) same is) it in
            ap (λ j. slice_get (slice_set list j v) m) one ∙ written_here list m v (get_low list m (s.memory a) at) ∙ ap (λ z. Some (cond z v (s.memory a))) (sym e)
        by list at false e =
            let off : n ≡ m → ⊥ = (λ q.
            let same : cell ≡ a = one_cell code p inputs name b d s sh cell a m (subst (λ j. let f = b.frames in IsCell p f.items name s cell j) q is) it in
            true≢false (sym (subst (λ z. same_cell cell z ≡ true) same (same_cell-refl cell)) ∙ e)) in
            written_off list n m v off ∙ at ∙ ap (λ z. Some (cond z v (s.memory a))) (sym e)

    blank_then : (m : Name) (q : ℕ) → (let f = b.frames in IsAbsent f.items name m) → cond (same_cell cell (Own m q)) v (s.memory (Own m q)) ≡ s.memory (Own m q)
    blank_then m q none = by (same_cell cell (Own m q)) refl
      where
        by : (t : Bool) → same_cell cell (Own m q) ≡ t → cond (same_cell cell (Own m q)) v (s.memory (Own m q)) ≡ s.memory (Own m q)
        by true e = let f = b.frames in absurd (no_absent_cell p f.items name s m m q n none (subst (λ z. IsCell p f.items name s z n) (same_cell-eq cell (Own m q) e) is))
        by false e = rw e refl

  pub writes : WritesAreShown code p inputs
  writes name b b' d s w k x n v t h means notes =
      let sh = t.shows in
      let o = sh.sits k h.frame_state h.sits in
      let f = o.frame in
      let u = h.worker in
      let y = h.came in
      let c = b.cells in
      let ask = asks.Write x v in
      let cell = cell_seen f.what x in
      let is = means_cell code p inputs name b d s w k ask t.lays sh h (λ q. cc) x n (there code p inputs name b d s w k ask t.lays sh h (λ q. cc) t.well) means in
      let calm = quiet code p inputs name b d s w k ask t.lays sh h (λ q. cc) t.asked (λ q. cc) in
      done code p inputs name b d s w k ask t.lays sh h (λ q. cc) b' (Writes cell v) y.strands Done (answered Done y) (events.Write n v) (slice_set c.items n v) u.views notes
      refl tt refl refl refl (λ q. cc) (λ z q. cc) (λ z q. cc) (λ z gone q. cc) refl tt tt refl
      (strands_stay (Writes cell v) refl f.deeds ∙ strands_now code p inputs name b d s w k ask t.lays sh h (λ q. cc)) (n, is, refl)
      (written_length c.items n v) (memory_then name b d s sh cell n v is) (blank_then name b d s sh cell n v is)
      (λ i. s.piece (name k) i) (λ i. refl)
      (own_views code p inputs name b d s w k ask t.lays sh h (λ q. cc) calm)
      (bare_now code p inputs name b d s w k ask t.lays sh h (λ q. cc))
      (own_bare code p inputs name b d s w k ask t.lays sh h (λ q. cc))

  pub results : ResultsAreShown code p inputs
  results name b b' d s w k n v t h lies notes =
      let sh = t.shows in
      let o = sh.sits k h.frame_state h.sits in
      let f = o.frame in
      let u = h.worker in
      let y = h.came in
      let c = b.cells in
      let ask = asks.Result v in
      let cell = result_cell f.what in
      let is = result_lies code p inputs name b d s w k ask t.lays sh h (λ q. cc) n (there code p inputs name b d s w k ask t.lays sh h (λ q. cc) t.well) lies in
      let calm = quiet code p inputs name b d s w k ask t.lays sh h (λ q. cc) t.asked (λ q. cc) in
      done code p inputs name b d s w k ask t.lays sh h (λ q. cc) b' (Writes cell v) y.strands Done (answered Done y) (events.Write n v) (slice_set c.items n v) u.views notes
      refl tt refl refl refl (λ q. cc) (λ z q. cc) (λ z q. cc) (λ z gone q. cc) refl tt tt refl
      (strands_stay (Writes cell v) refl f.deeds ∙ strands_now code p inputs name b d s w k ask t.lays sh h (λ q. cc)) (n, is, refl)
      (written_length c.items n v) (memory_then name b d s sh cell n v is) (blank_then name b d s sh cell n v is)
      (λ i. s.piece (name k) i) (λ i. refl)
      (own_views code p inputs name b d s w k ask t.lays sh h (λ q. cc) calm)
      (bare_now code p inputs name b d s w k ask t.lays sh h (λ q. cc))
      (own_bare code p inputs name b d s w k ask t.lays sh h (λ q. cc))
