-- The children that a plan's run starts: their names and numbers, and what they run.
--
-- - `serial_children`: of a whole run;
-- - `runs_there`: each frame of a run runs something.
use Rattle.std.proofs.Common.{◌≡◌, ◌≢◌, ℕ, zero, suc, ℤ, IsTrue, List, [], ◌∷◌, ◌++◌, Some, None, refl, sym, ◌∙◌}
use Rattle.cilk_types.specs.declared.event.Event.{Event}
use Rattle.cilk_program.specs.declared.ask.Ask.TheVariants as asks
use Rattle.cilk_program.specs.declared.ask.Callee.{Callee}
use Rattle.cilk_program.specs.declared.ask.Callee.TheVariants as callees
use Rattle.cilk_program.specs.declared.program.Body.{Body}
use Rattle.cilk_program.specs.Inside.{CalleeIsThere, body_of}
use Rattle.cilk_program.specs.SerialRun as serial
use Rattle.cilk_program.specs.SerialRun.{Memory, Frame, Ending, Serial, Made, Ended, Went, Broke, Refused, answer_to, next_frame}
use Rattle.cilk_program.specs.Syntax.{Source}
use Rattle.cilk_program.specs.WellNamed.{is_well_named}
use Rattle.cilk_program.specs.Numbering.{Block, Counts, child_at, counts_after, counts_of, entered, frame_at, unbegun}
use Rattle.cilk_program.proofs.Numbers.{serial_counts}
use Rattle.cilk_determinacy.specs.Runs.{Name, Run, Deed, Does, Invokes}
use Rattle.cilk_determinacy.specs.Runs as runs
use Rattle.cilk_determinacy.specs.FrameEnvs.{FrameEnv, child_env}
use Rattle.cilk_determinacy.specs.Nested.{named_from}
use Rattle.cilk_determinacy.specs.Numbers.{IsHere, child_runs, frame_number, frame_runs, start_event}
use Rattle.cilk_determinacy.proofs.Sights.{Stands}
use Rattle.cilk_determinacy.proofs.Standing.{Standing, asked_there, standing_act, standing_child, standing_past}

pub not_root : (p : Source) (b : Body) (callee : Callee) → CalleeIsThere p b callee → callee ≢ callees.Root
not_root p b callees.Root h = absurd h
not_root p b (callees.Function c) h = λ q. cc q
not_root p b (callees.Loop l) h = λ q. cc q

module _ (p : Source) (r : serial.Transcript) where
  -- the frame of this name starts it as this child, and the run has it
  pub record IsChild (name : Name) (k : ℕ) (w : FrameEnv) : Type 0 where
    pub named : w.name ≡ name ++ k ∷ []
    pub here : IsHere p r w.name
    pub runs : frame_runs r here.path ≡ Some w.callee
    pub callee : w.callee ≢ callees.Root

  -- each child that a frame starts from this one on, and those that these start
  abbrev pub AreChildren : Name → ℕ → Run FrameEnv → Type 0
  AreChildren name k runs.stop = Unit {0}
  AreChildren name k (runs.act e t) = AreChildren name k t
  AreChildren name k (runs.child how w u t) = IsChild name k w × AreChildren w.name 1 u × AreChildren name (suc k) t

  -- a deed that starts a child starts the next one
  abbrev pub IsStarted : Name → ℕ → Deed FrameEnv → Type 0
  IsStarted name k (Does e) = Unit {0}
  IsStarted name k (Invokes how w) = IsChild name k w

  -- the event that starts a child has its number
  abbrev pub StartsAs : Event → Deed FrameEnv → Type 0
  StartsAs e (Does d) = Unit {0}
  StartsAs e (Invokes how w) = e ≡ start_event how (frame_number p r w.name)

  is_child : (name : Name) (k : ℕ) (callee : Callee) (w : FrameEnv) (fr : Frame) → callee ≢ callees.Root → w.callee ≡ callee → w.name ≡ name ++ k ∷ [] → Stands p r w fr → IsChild name k w
  is_child name k callee w fr other is at h = record { named = at; here = h.here; runs = h.runs; callee = λ q. other (sym is ∙ q) }

  module _ (inputs : List ℤ) (well : IsTrue (is_well_named p)) where
    pub serial_children : {fr : Frame} {start : ℕ} {history : List ℤ} {m : Memory} {rest : serial.Transcript} {es : List Event} {end : Ending} → Serial p inputs fr start history m rest es end
        → (w : FrameEnv) (j : ℕ) → Standing p inputs well r w fr j rest (counts_of m) → AreChildren w.name (suc j) (named_from p w (suc j) rest)
    serial_children (Made {fr = fr} {m = m} {r = more} a left q inner ok rest) w j standing =
        serial_children rest w j (standing_act p inputs well r w fr j a (answer_to fr m a) more (counts_of m) standing)
    serial_children (Ended v left q ok) w j standing = tt
    serial_children (Went {fr = fr} {start = start} {history = history} {m = m} {u = u} {r = more} how callee left v left' m' q ok inner rest) w j standing =
        let c = child_env p w (suc j) callee in
        let after : counts_of m' ≡ counts_after p u (entered p callee (counts_of m)) = serial_counts inner in
        let below = standing_child p inputs well r w fr j how callee u more m history start left standing q in
        let there = asked_there p inputs well r w fr history start left (asks.Invoke how callee) standing.stands q in (
          is_child w.name (suc j) callee c (next_frame p fr.scope m callee) (not_root p (body_of p w.callee) callee there) refl refl below.stands,
          serial_children inner c 0 below,
          serial_children rest w (suc j) (standing_past p inputs well r w fr j how callee u more (counts_of m) (counts_of m') after standing),
        )
    serial_children (Broke {fr = fr} {start = start} {history = history} {m = m} {u = u} how callee left f q ok inner) w j standing =
        let c = child_env p w (suc j) callee in
        let below = standing_child p inputs well r w fr j how callee u serial.stop m history start left standing q in
        let there = asked_there p inputs well r w fr history start left (asks.Invoke how callee) standing.stands q in (
          is_child w.name (suc j) callee c (next_frame p fr.scope m callee) (not_root p (body_of p w.callee) callee there) refl refl below.stands,
          serial_children inner c 0 below,
          tt,
        )
    serial_children (Refused k left f q bad) w j standing = tt

-- ---- what frames run

child_runs_there : (p : Source) (r : serial.Transcript) (n : Counts) (k : ℕ) (path : List ℕ) (b : Block) → child_at p r n k path ≡ Some b → (callee : Callee) × (child_runs r k path ≡ Some callee)
child_runs_there p serial.stop n k path b is = absurd (let z : None ≡ Some b = is in cc z)
child_runs_there p (serial.act a v r) n k path b is = child_runs_there p r n k path b is
child_runs_there p (serial.child how c u r) n zero [] b is = (c, refl)
child_runs_there p (serial.child how c u r) n zero (j ∷ path) b is = child_runs_there p u (entered p c n) j path b is
child_runs_there p (serial.child how c u r) n (suc k) path b is = child_runs_there p r (counts_after p u (entered p c n)) k path b is

pub runs_there : (p : Source) (r : serial.Transcript) (path : List ℕ) (b : Block) → frame_at p r path ≡ Some b → (callee : Callee) × (frame_runs r path ≡ Some callee)
runs_there p r [] b is = (callees.Root, refl)
runs_there p r (k ∷ path) b is = child_runs_there p r (entered p callees.Root (unbegun p)) k path b is
