-- The totals of the serial run by names.
use Rattle.std.proofs.Common.{◌≡◌, ℕ, suc, ◌+◌, ℤ, List, [], ◌∷◌, ◌++◌, length, refl, ap, arith, length-append}
use Rattle.cilk_types.specs.declared.event.Event as numbers
use Rattle.cilk_program.specs.Syntax.{Source}
use Rattle.cilk_program.specs.SerialRun as serial
use Rattle.cilk_program.specs.SerialRun.{cells_of}
use Rattle.cilk_program.specs.Numbering.{Counts, counts_after, entered}
use Rattle.cilk_determinacy.specs.Runs.{Event, Reads, Writes, Syncs, Ends, Passes, Deed, Does, Invokes, Run, stop, act, child, ask_of}
use Rattle.cilk_determinacy.specs.Costs.{EventTotal, FrameTotal, CellTotal, frame_cost, cells_of as cells_begun, weight}
use Rattle.cilk_determinacy.specs.Traces.{trace, AreWritten}
use Rattle.cilk_determinacy.specs.FrameEnvs.{FrameEnv, child_env}
use Rattle.cilk_determinacy.specs.FrameEnvMachine.{costs}
use Rattle.cilk_determinacy.specs.Nested.{named_event, named_from}

no_frames : (W : Type 0) (e : Event) → frame_cost {W = W} (ask_of e) ≡ 0
no_frames W (Reads c v) = refl
no_frames W (Writes c v) = refl
no_frames W Syncs = refl
no_frames W (Ends v gone) = refl
no_frames W (Passes m) = refl

no_cells : {W : Type 0} (cells : W → ℕ) (e : Event) → cells_begun cells (ask_of e) ≡ 0
no_cells cells (Reads c v) = refl
no_cells cells (Writes c v) = refl
no_cells cells Syncs = refl
no_cells cells (Ends v gone) = refl
no_cells cells (Passes m) = refl

pub written_length : {W : Type 0} (cell : _) (instance : _) (ds : List (Deed W)) (es : List numbers.Event) → AreWritten cell instance ds es → length ds ≡ length es
written_length cell instance [] [] h = refl
written_length cell instance [] (e ∷ es) h = absurd h
written_length cell instance (d ∷ ds) [] h = absurd h
written_length cell instance (d ∷ ds) (e ∷ es) h = ap suc (written_length cell instance ds es h.1)

module _ (p : Source) (inputs : List ℤ) where
  pub events_weigh : (w : FrameEnv) (past : List (Deed FrameEnv)) (t : Run FrameEnv) → weight (costs p inputs) EventTotal w past t ≡ length (trace t)
  events_weigh w past stop = refl
  events_weigh w past (act e t) = let h = events_weigh w (past ++ Does e ∷ []) t in omega (arith, h)
  events_weigh w past (child k v u t) =
      let h = events_weigh v [] u in
      let g = events_weigh w (past ++ Invokes k v ∷ []) t in
      let both = length-append (trace u) (trace t) in
      omega (arith, h, g, both)

  pub frames_weigh : (w : FrameEnv) (past : List (Deed FrameEnv)) (n : ℕ) (r : serial.Transcript) (c : Counts) → c.frames + weight (costs p inputs) FrameTotal w past (named_from p w n r) ≡ (counts_after p r c).frames
  frames_weigh w past n serial.stop c = omega arith
  frames_weigh w past n (serial.act a v r) c =
      let none = no_frames FrameEnv (named_event p w a v) in
      let h = frames_weigh w (past ++ Does (named_event p w a v) ∷ []) n r c in
      omega (arith, none, h)
  frames_weigh w past n (serial.child how callee u r) c =
      let v = child_env p w n callee in
      let h = frames_weigh v [] 1 u (entered p callee c) in
      let g = frames_weigh w (past ++ Invokes how v ∷ []) (suc n) r (counts_after p u (entered p callee c)) in
      omega (arith, h, g)

  pub cells_weigh : (w : FrameEnv) (past : List (Deed FrameEnv)) (n : ℕ) (r : serial.Transcript) (c : Counts) → c.cells + weight (costs p inputs) CellTotal w past (named_from p w n r) ≡ (counts_after p r c).cells
  cells_weigh w past n serial.stop c = omega arith
  cells_weigh w past n (serial.act a v r) c =
      let none = no_cells (λ (w : FrameEnv). cells_of p w.callee) (named_event p w a v) in
      let h = cells_weigh w (past ++ Does (named_event p w a v) ∷ []) n r c in
      omega (arith, none, h)
  cells_weigh w past n (serial.child how callee u r) c =
      let v = child_env p w n callee in
      let h = cells_weigh v [] 1 u (entered p callee c) in
      let g = cells_weigh w (past ++ Invokes how v ∷ []) (suc n) r (counts_after p u (entered p callee c)) in
      omega (arith, h, g)
