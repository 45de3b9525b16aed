-- The events of a serial run that ends spell one shape, in which each frame syncs after it spawned.
--
-- - `spelled`: from any point of a frame, the events of the run spell the shape of the run by
--   names;
-- - `has_sync`, `synced_shape`: where each child of a run by names is awaited, so it is in its
--   shape;
-- - `spell_one_shape`: both for a whole run, with the uniqueness of the shape.
use Rattle.std.proofs.Common.{◌≡◌, ℕ, suc, ℤ, List, [], ◌∷◌, ◌++◌, map, Option, Some, None, refl, sym, ap, ◌∙◌, subst}
use Rattle.std.proofs.lemmas.List.{map-append}
use Rattle.cilk_types.specs.declared.event.Event.{Event}
use Rattle.cilk_program.specs.declared.ask.Ask.{Ask}
use Rattle.cilk_program.specs.declared.ask.Ask.TheVariants as asks
use Rattle.cilk_program.specs.declared.ask.Callee.TheVariants as callees
use Rattle.cilk_types.specs.declared.invocation.Invocation.{Invocation}
use Rattle.cilk_types.specs.declared.invocation.Invocation.TheVariants as ways
use Rattle.cilk_program.specs.Outcomes.{Leaves}
use Rattle.cilk_program.specs.Syntax.{Source}
use Rattle.cilk_program.specs.SerialRun as serial
use Rattle.cilk_program.specs.SerialRun.{Frame, invocation, result_written}
use Rattle.cilk_program.specs.Numbering.{Counts, unbegun, entered, counts_after, frame_of, events_of}
use Rattle.cilk_program.proofs.Closings.{runs_begin, runs_resume, runs_end}
use Rattle.cilk_program.proofs.Numbers.{run_events}
use Rattle.cilk_determinacy.specs.Runs.{Reads, Writes, Syncs, Ends, Passes, Begins, Resumes, Creates, Updates, Sets, Values, Prints, Run, act, child}
use Rattle.cilk_determinacy.specs.Serial.{SyncAhead}
use Rattle.cilk_tree.specs.declared.mark.Mark.{Mark}
use Rattle.cilk_tree.specs.declared.mark.Mark.TheVariants as mark
use Rattle.cilk_tree.specs.Marks.{mark_of}
use Rattle.cilk_tree.specs.Reach as reach
use Rattle.cilk_tree.specs.Shape.{Shape, marks, start_of, Spells}
use Rattle.cilk_tree.proofs.Spelled.{spells_one}
use Rattle.cilk_determinacy.specs.Traces.{Due, begin_due, resume_due, neither_due, IsFramed, shape_of}
use Rattle.cilk_determinacy.proofs.Spells.{ahead}
use Rattle.cilk_determinacy.specs.Nested.{named_from, named}
use Rattle.cilk_determinacy.specs.Strands.{SpellOneShape}
use Rattle.cilk_determinacy.specs.FrameEnvs.{FrameEnv, first_env, child_env}
use Rattle.cilk_determinacy.proofs.Assembled.{is_framed}
use Rattle.cilk_determinacy.proofs.Determinate.{ran}
use Rattle.cilk_determinacy.proofs.Shapes.{IsProper, ProperAt, Stage, IsSynced, serial_proper, synced}

-- ---- the events spell the shape

how_starts : (how : Invocation) (n : ℕ) → mark_of (invocation how n) ≡ start_of how
how_starts ways.Call n = refl
how_starts ways.Spawn n = refl

module _ (p : Source) where
  -- the claim for the rest of a frame's run
  abbrev Spelled : Due → FrameEnv → ℕ → Frame → Counts → serial.Transcript → Type 0
  Spelled d w k fr n r = map mark_of (events_of p fr n r) ≡ ahead d ++ marks (shape_of (named_from p w k r))

  -- an event of a mark that begins no child, and the rest
  next_mark : (m : Mark) {xs ys : List Mark} → xs ≡ ys → m ∷ xs ≡ m ∷ ys
  next_mark m e = ap (λ l. m ∷ l) e

  result_next : (o : Option ℕ) (v : ℤ) {xs ys : List Mark} → xs ≡ ys → mark_of (result_written o v) ∷ xs ≡ mark.Plain ∷ ys
  result_next None v e = next_mark mark.Plain e
  result_next (Some c) v e = next_mark mark.Plain e

  ended : (w : FrameEnv) (k : ℕ) (fr : Frame) (n : Counts) (y v : ℤ) (r : serial.Transcript) → r ≡ serial.stop
      → Spelled neither_due w k fr n (serial.act (asks.End y) v r)
  ended w k fr n y v r e = ap (λ (r : serial.Transcript). mark.End ∷ map mark_of (events_of p fr n r)) e

  children : (how : Invocation) (m : ℕ) (u r : List Event) (a b : List Mark) → map mark_of u ≡ mark.Begin ∷ a → map mark_of r ≡ mark.Resume ∷ b
      → map mark_of (invocation how m ∷ (u ++ r)) ≡ start_of how ∷ mark.Begin ∷ a ++ mark.Resume ∷ b
  children how m u r a b e f =
      ap (λ (x : Mark). x ∷ map mark_of (u ++ r)) (how_starts how m)
      ∙ next_mark (start_of how)
      (map-append mark_of u r ∙ (ap (λ l. l ++ map mark_of r) e ∙ ap (λ l. mark.Begin ∷ (a ++ l)) f))

  spelled : (d : Due) (w : FrameEnv) (k : ℕ) (fr : Frame) (n : Counts) (r : serial.Transcript) → IsProper r → Stage d r → Spelled d w k fr n r
  spelled d w k fr n serial.stop h g = absurd h
  spelled begin_due w k fr n (serial.act a v r) h g =
      subst (λ (a : Ask). Spelled begin_due w k fr n (serial.act a v r)) (sym g.0.0)
      (next_mark mark.Begin (spelled neither_due w k fr n r (subst (λ (a : Ask). ProperAt a (IsProper r) r) g.0.0 h) (g.0.1, g.1.1)))
  spelled begin_due w k fr n (serial.child how callee u r) h g = absurd g.0
  spelled resume_due w k fr n (serial.act a v r) h g =
      subst (λ (a : Ask). Spelled resume_due w k fr n (serial.act a v r)) (sym g.1.0)
      (next_mark mark.Resume (spelled neither_due w k fr n r (subst (λ (a : Ask). ProperAt a (IsProper r) r) g.1.0 h) (g.0.1, g.1.1)))
  spelled resume_due w k fr n (serial.child how callee u r) h g = absurd g.1
  spelled neither_due w k fr n (serial.act asks.Begin v r) h g = absurd g.0.0
  spelled neither_due w k fr n (serial.act (asks.Read x) v r) h g = next_mark mark.Plain (spelled neither_due w k fr n r h (g.0.1, g.1.1))
  spelled neither_due w k fr n (serial.act (asks.Write x y) v r) h g = next_mark mark.Plain (spelled neither_due w k fr n r h (g.0.1, g.1.1))
  spelled neither_due w k fr n (serial.act (asks.Create c) v r) h g = next_mark mark.Plain (spelled neither_due w k fr n r h (g.0.1, g.1.1))
  spelled neither_due w k fr n (serial.act (asks.Update c y) v r) h g = next_mark mark.Plain (spelled neither_due w k fr n r h (g.0.1, g.1.1))
  spelled neither_due w k fr n (serial.act (asks.Set c y) v r) h g = next_mark mark.Plain (spelled neither_due w k fr n r h (g.0.1, g.1.1))
  spelled neither_due w k fr n (serial.act (asks.Value c) v r) h g = next_mark mark.Plain (spelled neither_due w k fr n r h (g.0.1, g.1.1))
  spelled neither_due w k fr n (serial.act (asks.Print y) v r) h g = next_mark mark.Plain (spelled neither_due w k fr n r h (g.0.1, g.1.1))
  spelled neither_due w k fr n (serial.act (asks.Invoke how callee) v r) h g = absurd h
  spelled neither_due w k fr n (serial.act asks.Resume v r) h g = absurd g.1.0
  spelled neither_due w k fr n (serial.act asks.Sync v r) h g = next_mark mark.Sync (spelled neither_due w k fr n r h (g.0.1, g.1.1))
  spelled neither_due w k fr n (serial.act (asks.Result y) v r) h g = result_next fr.result y (spelled neither_due w k fr n r h (g.0.1, g.1.1))
  spelled neither_due w k fr n (serial.act (asks.End y) v r) h g = ended w k fr n y v r h
  spelled neither_due w k fr n (serial.act (asks.Fault f) v r) h g = absurd h
  spelled neither_due w k fr n (serial.child how callee u r) h g =
      children how (suc n.frames)
      (events_of p (frame_of p fr.scope n callee) (entered p callee n) u) (events_of p fr (counts_after p u (entered p callee n)) r) _ _
      (spelled begin_due (child_env p w k callee) 1 (frame_of p fr.scope n callee) (entered p callee n) u h.0 (g.0.0, g.1.0))
      (spelled resume_due w (suc k) fr (counts_after p u (entered p callee n)) r h.1 (g.0.1, g.1.1))

-- ---- each frame syncs after it spawned

has_sync : (d : Due) (t : Run FrameEnv) → IsFramed d t → SyncAhead t → reach.HasSync (shape_of t)
has_sync begin_due (act (Passes Begins) r) h g = has_sync neither_due r h g
has_sync resume_due (act (Passes Resumes) r) h g = has_sync neither_due r h g
has_sync neither_due (act (Reads c v) r) h g = has_sync neither_due r h g
has_sync neither_due (act (Writes c v) r) h g = has_sync neither_due r h g
has_sync neither_due (act Syncs r) h g = tt
has_sync neither_due (act (Ends v gone) r) h g = absurd (subst SyncAhead h g)
has_sync neither_due (act (Passes (Creates i)) r) h g = has_sync neither_due r h g
has_sync neither_due (act (Passes (Updates i x)) r) h g = has_sync neither_due r h g
has_sync neither_due (act (Passes (Sets i x)) r) h g = has_sync neither_due r h g
has_sync neither_due (act (Passes (Values i x)) r) h g = has_sync neither_due r h g
has_sync neither_due (act (Passes (Prints x)) r) h g = has_sync neither_due r h g
has_sync neither_due (child k w u r) h g = has_sync resume_due r h.1 g
has_sync _ _ h g = absurd h

sync_if : (k : Invocation) (s : Shape) → reach.HasSync s → reach.HasSyncIf k s
sync_if ways.Call s h = tt
sync_if ways.Spawn s h = h

synced_shape : (d : Due) (t : Run FrameEnv) → IsFramed d t → IsSynced t → reach.IsSynced (shape_of t)
synced_shape begin_due (act (Passes Begins) r) h g = synced_shape neither_due r h g
synced_shape resume_due (act (Passes Resumes) r) h g = synced_shape neither_due r h g
synced_shape neither_due (act (Reads c v) r) h g = synced_shape neither_due r h g
synced_shape neither_due (act (Writes c v) r) h g = synced_shape neither_due r h g
synced_shape neither_due (act Syncs r) h g = synced_shape neither_due r h g
synced_shape neither_due (act (Ends v gone) r) h g = tt
synced_shape neither_due (act (Passes (Creates i)) r) h g = synced_shape neither_due r h g
synced_shape neither_due (act (Passes (Updates i x)) r) h g = synced_shape neither_due r h g
synced_shape neither_due (act (Passes (Sets i x)) r) h g = synced_shape neither_due r h g
synced_shape neither_due (act (Passes (Values i x)) r) h g = synced_shape neither_due r h g
synced_shape neither_due (act (Passes (Prints x)) r) h g = synced_shape neither_due r h g
synced_shape neither_due (child k w u r) h g =
    (sync_if k (shape_of r) (has_sync resume_due r h.1 g.0), synced_shape begin_due u h.0 g.1, synced_shape resume_due r h.1 g.2)
synced_shape _ _ h g = absurd h

-- ---- a whole run

pub spell_one_shape : (p : Source) (inputs : List ℤ) → SpellOneShape p inputs
spell_one_shape p inputs r es outcome run =
    let proper : IsProper r = let h = ran p inputs r es outcome run in serial_proper h.derivation in
    let stage : Stage begin_due r = (runs_begin p inputs r es (Leaves outcome) run, runs_resume p inputs r es (Leaves outcome) run) in
    let fr = frame_of p [] (unbegun p) callees.Root in
    let n = entered p callees.Root (unbegun p) in
    let spells : Spells (shape_of (named p r)) es =
    ap (map mark_of) (run_events p inputs r es (Leaves outcome) run) ∙ spelled p begin_due (first_env p) 1 fr n r proper stage in
    record {
      shape = shape_of (named p r);
      spells = spells;
      synced = synced_shape begin_due (named p r) (is_framed p inputs r es (Leaves outcome) proper run)
          (synced p (first_env p) 1 r (runs_end p inputs r es (Leaves outcome) run));
      one = λ s other. spells_one s (shape_of (named p r)) es other spells;
    }
