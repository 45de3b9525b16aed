-- The shape of the serial run by names: frames have their begin, resumes and end in their places,
-- and await the children that they spawned.
use Rattle.std.proofs.Common.{◌≡◌, ℕ, suc, ℤ, true, false, List, refl, sym, ap, subst}
use Rattle.cilk_types.specs.declared.event.Event as numbers
use Rattle.cilk_program.specs.declared.ask.Ask.{Ask}
use Rattle.cilk_program.specs.declared.ask.Ask.TheVariants as asks
use Rattle.cilk_program.specs.Syntax.{Source}
use Rattle.cilk_program.specs.SerialRun as serial
use Rattle.cilk_program.specs.SerialRun.{answer_to, IsInner, Ending, Finished, Serial, Made, Ended, Went}
use Rattle.cilk_program.specs.Closed as language
use Rattle.cilk_types.specs.declared.invocation.Invocation.{Invocation}
use Rattle.cilk_types.specs.declared.invocation.Invocation.TheVariants.{Call, Spawn}
use Rattle.cilk_determinacy.specs.Runs.{Reads, Writes, Syncs, Ends, Passes, Begins, Resumes, Creates, Updates, Sets, Values, Prints, Run, stop, act, child}
use Rattle.cilk_determinacy.specs.Serial.{SyncAhead, GoesOn, ComesAfter, IsClosed}
use Rattle.cilk_determinacy.specs.Traces.{Due, begin_due, resume_due, neither_due, IsFramed}
use Rattle.cilk_determinacy.specs.FrameEnvs.{FrameEnv, child_env}
use Rattle.cilk_determinacy.specs.Nested.{named_from}

-- ---- from the language's run

-- an event of a frame is one of its asks but a child or a fault, and its end comes last
abbrev pub ProperAt : Ask → Type 0 → serial.Transcript → Type 0
ProperAt (asks.Invoke how callee) P r = ⊥
ProperAt (asks.Fault f) P r = ⊥
ProperAt (asks.End v) P r = r ≡ serial.stop
ProperAt k P r = P

abbrev pub IsProper : serial.Transcript → Type 0
IsProper serial.stop = ⊥
IsProper (serial.act k v r) = ProperAt k (IsProper r) r
IsProper (serial.child how callee u r) = IsProper u × IsProper r

inner_proper : (k : Ask) (P : Type 0) (r : serial.Transcript) → IsInner k → P → ProperAt k P r
inner_proper asks.Begin P r i h = h
inner_proper (asks.Read x) P r i h = h
inner_proper (asks.Write x y) P r i h = h
inner_proper (asks.Create c) P r i h = h
inner_proper (asks.Update c y) P r i h = h
inner_proper (asks.Set c y) P r i h = h
inner_proper (asks.Value c) P r i h = h
inner_proper (asks.Print y) P r i h = h
inner_proper (asks.Invoke how callee) P r i h = absurd i
inner_proper asks.Resume P r i h = h
inner_proper asks.Sync P r i h = h
inner_proper (asks.Result y) P r i h = h
inner_proper (asks.End y) P r i h = absurd i
inner_proper (asks.Fault f) P r i h = absurd i

abbrev pub ProperIf : Ending → serial.Transcript → Type 0
ProperIf (Finished v left m) r = IsProper r
ProperIf (serial.Stopped f) r = Unit {0}

pub serial_proper : {p : Source} {inputs : List ℤ} {fr : _} {start : ℕ} {history : List ℤ} {m : _} {r : serial.Transcript} {es : List numbers.Event} {end : Ending} → Serial p inputs fr start history m r es end → ProperIf end r
serial_proper (Made {fr = fr} {m = m} {r = r} {end = end} k left q inner ok rest) = by end (serial_proper rest)
  where
    by : (end : Ending) → ProperIf end r → ProperIf end (serial.act k (answer_to fr m k) r)
    by (Finished v left m') h = inner_proper k (IsProper r) r inner h
    by (serial.Stopped f) h = tt
serial_proper (Ended v left q ok) = refl
serial_proper (Went {u = u} {r = r} {end = end} how callee left v left' m' q ok inner rest) = by end (serial_proper inner) (serial_proper rest)
  where
    by : (end : Ending) → IsProper u → ProperIf end r → ProperIf end (serial.child how callee u r)
    by (Finished v left m) h g = (h, g)
    by (serial.Stopped f) h g = tt
serial_proper (serial.Broke how callee left f q ok inner) = tt
serial_proper (serial.Refused k left f q bad) = tt

-- what a frame makes next is due as its events say
abbrev pub Stage : Due → serial.Transcript → Type 0
Stage begin_due r = language.BeginsOnce false r × language.IsResumed false r
Stage resume_due r = language.BeginsOnce true r × language.IsResumed true r
Stage neither_due r = language.BeginsOnce true r × language.IsResumed false r

abbrev is_begin : Ask → Type 0
is_begin asks.Begin = Unit {0}
is_begin k = ⊥

not_begin : {k : Ask} → k ≡ asks.Begin → is_begin k
not_begin {k} e = subst is_begin (sym e) tt

abbrev is_resume : Ask → Type 0
is_resume asks.Resume = Unit {0}
is_resume k = ⊥

not_resume : {k : Ask} → k ≡ asks.Resume → is_resume k
not_resume {k} e = subst is_resume (sym e) tt

module _ (p : Source) where
  pub framed : (d : Due) (w : FrameEnv) (n : ℕ) (r : serial.Transcript) → IsProper r → Stage d r → IsFramed d (named_from p w n r)
  framed d w n serial.stop h g = absurd h
  framed begin_due w n (serial.act asks.Begin v r) h g = framed neither_due w n r h (g.0.1, g.1.1)
  framed begin_due w n (serial.act (asks.Read x) v r) h g = absurd (not_begin g.0.0)
  framed begin_due w n (serial.act (asks.Write x y) v r) h g = absurd (not_begin g.0.0)
  framed begin_due w n (serial.act (asks.Create c) v r) h g = absurd (not_begin g.0.0)
  framed begin_due w n (serial.act (asks.Update c y) v r) h g = absurd (not_begin g.0.0)
  framed begin_due w n (serial.act (asks.Set c y) v r) h g = absurd (not_begin g.0.0)
  framed begin_due w n (serial.act (asks.Value c) v r) h g = absurd (not_begin g.0.0)
  framed begin_due w n (serial.act (asks.Print y) v r) h g = absurd (not_begin g.0.0)
  framed begin_due w n (serial.act (asks.Invoke how callee) v r) h g = absurd (not_begin g.0.0)
  framed begin_due w n (serial.act asks.Resume v r) h g = absurd (not_begin g.0.0)
  framed begin_due w n (serial.act asks.Sync v r) h g = absurd (not_begin g.0.0)
  framed begin_due w n (serial.act (asks.Result y) v r) h g = absurd (not_begin g.0.0)
  framed begin_due w n (serial.act (asks.End y) v r) h g = absurd (not_begin g.0.0)
  framed begin_due w n (serial.act (asks.Fault f) v r) h g = absurd (not_begin g.0.0)
  framed begin_due w n (serial.child how callee u r) h g = absurd g.0
  framed resume_due w n (serial.act asks.Begin v r) h g = absurd (not_resume g.1.0)
  framed resume_due w n (serial.act (asks.Read x) v r) h g = absurd (not_resume g.1.0)
  framed resume_due w n (serial.act (asks.Write x y) v r) h g = absurd (not_resume g.1.0)
  framed resume_due w n (serial.act (asks.Create c) v r) h g = absurd (not_resume g.1.0)
  framed resume_due w n (serial.act (asks.Update c y) v r) h g = absurd (not_resume g.1.0)
  framed resume_due w n (serial.act (asks.Set c y) v r) h g = absurd (not_resume g.1.0)
  framed resume_due w n (serial.act (asks.Value c) v r) h g = absurd (not_resume g.1.0)
  framed resume_due w n (serial.act (asks.Print y) v r) h g = absurd (not_resume g.1.0)
  framed resume_due w n (serial.act (asks.Invoke how callee) v r) h g = absurd (not_resume g.1.0)
  framed resume_due w n (serial.act asks.Resume v r) h g = framed neither_due w n r h (g.0.1, g.1.1)
  framed resume_due w n (serial.act asks.Sync v r) h g = absurd (not_resume g.1.0)
  framed resume_due w n (serial.act (asks.Result y) v r) h g = absurd (not_resume g.1.0)
  framed resume_due w n (serial.act (asks.End y) v r) h g = absurd (not_resume g.1.0)
  framed resume_due w n (serial.act (asks.Fault f) v r) h g = absurd (not_resume g.1.0)
  framed resume_due w n (serial.child how callee u r) h g = absurd g.1
  framed neither_due w n (serial.act asks.Begin v r) h g = absurd g.0.0
  framed neither_due w n (serial.act (asks.Read x) v r) h g = framed neither_due w n r h (g.0.1, g.1.1)
  framed neither_due w n (serial.act (asks.Write x y) v r) h g = framed neither_due w n r h (g.0.1, g.1.1)
  framed neither_due w n (serial.act (asks.Create c) v r) h g = framed neither_due w n r h (g.0.1, g.1.1)
  framed neither_due w n (serial.act (asks.Update c y) v r) h g = framed neither_due w n r h (g.0.1, g.1.1)
  framed neither_due w n (serial.act (asks.Set c y) v r) h g = framed neither_due w n r h (g.0.1, g.1.1)
  framed neither_due w n (serial.act (asks.Value c) v r) h g = framed neither_due w n r h (g.0.1, g.1.1)
  framed neither_due w n (serial.act (asks.Print y) v r) h g = framed neither_due w n r h (g.0.1, g.1.1)
  framed neither_due w n (serial.act (asks.Invoke how callee) v r) h g = absurd h
  framed neither_due w n (serial.act asks.Resume v r) h g = absurd g.1.0
  framed neither_due w n (serial.act asks.Sync v r) h g = framed neither_due w n r h (g.0.1, g.1.1)
  framed neither_due w n (serial.act (asks.Result y) v r) h g = framed neither_due w n r h (g.0.1, g.1.1)
  framed neither_due w n (serial.act (asks.End y) v r) h g = ap (named_from p w n) h
  framed neither_due w n (serial.act (asks.Fault f) v r) h g = absurd h
  framed neither_due w n (serial.child how callee u r) h g = (framed begin_due (child_env p w n callee) 1 u h.0 (g.0.0, g.1.0), framed resume_due w (suc n) r h.1 (g.0.1, g.1.1))

-- each spawned child is waited for
abbrev pub IsSynced : Run FrameEnv → Type 0
IsSynced stop = Unit {0}
IsSynced (act e t) = IsSynced t
IsSynced (child k w u t) = SyncAhead t × IsSynced u × IsSynced t

module _ (p : Source) where
  sync_ahead : (w : FrameEnv) (n : ℕ) (r : serial.Transcript) → language.HasSync r → SyncAhead (named_from p w n r)
  sync_ahead w n serial.stop h = absurd h
  sync_ahead w n (serial.act asks.Begin v r) h = sync_ahead w n r h
  sync_ahead w n (serial.act (asks.Read x) v r) h = sync_ahead w n r h
  sync_ahead w n (serial.act (asks.Write x y) v r) h = sync_ahead w n r h
  sync_ahead w n (serial.act (asks.Create c) v r) h = sync_ahead w n r h
  sync_ahead w n (serial.act (asks.Update c y) v r) h = sync_ahead w n r h
  sync_ahead w n (serial.act (asks.Set c y) v r) h = sync_ahead w n r h
  sync_ahead w n (serial.act (asks.Value c) v r) h = sync_ahead w n r h
  sync_ahead w n (serial.act (asks.Print y) v r) h = sync_ahead w n r h
  sync_ahead w n (serial.act (asks.Invoke how callee) v r) h = sync_ahead w n r h
  sync_ahead w n (serial.act asks.Resume v r) h = sync_ahead w n r h
  sync_ahead w n (serial.act asks.Sync v r) h = tt
  sync_ahead w n (serial.act (asks.Result y) v r) h = sync_ahead w n r h
  sync_ahead w n (serial.act (asks.End y) v r) h = sync_ahead w n r h
  sync_ahead w n (serial.act (asks.Fault f) v r) h = sync_ahead w n r h
  sync_ahead w n (serial.child how callee u r) h = sync_ahead w (suc n) r h

  pub synced : (w : FrameEnv) (n : ℕ) (r : serial.Transcript) → language.IsClosed r → IsSynced (named_from p w n r)
  synced w n serial.stop h = absurd h
  synced w n (serial.act asks.Begin v r) h = synced w n r h
  synced w n (serial.act (asks.Read x) v r) h = synced w n r h
  synced w n (serial.act (asks.Write x y) v r) h = synced w n r h
  synced w n (serial.act (asks.Create c) v r) h = synced w n r h
  synced w n (serial.act (asks.Update c y) v r) h = synced w n r h
  synced w n (serial.act (asks.Set c y) v r) h = synced w n r h
  synced w n (serial.act (asks.Value c) v r) h = synced w n r h
  synced w n (serial.act (asks.Print y) v r) h = synced w n r h
  synced w n (serial.act (asks.Invoke how callee) v r) h = synced w n r h
  synced w n (serial.act asks.Resume v r) h = synced w n r h
  synced w n (serial.act asks.Sync v r) h = synced w n r h
  synced w n (serial.act (asks.Result y) v r) h = synced w n r h
  synced w n (serial.act (asks.End y) v r) h = subst (λ r. IsSynced (named_from p w n r)) (sym h) tt
  synced w n (serial.act (asks.Fault f) v r) h = synced w n r h
  synced w n (serial.child how callee u r) h = (sync_ahead w (suc n) r h.1, synced (child_env p w n callee) 1 u h.0, synced w (suc n) r h.2)

-- ---- of framed runs

goes_on : {W : Type 0} (t : Run W) → SyncAhead t → GoesOn t
goes_on stop h = absurd h
goes_on (act e t) h = tt
goes_on (child k w u t) h = tt

comes_after : {W : Type 0} (k : Invocation) (t : Run W) → SyncAhead t → ComesAfter k t
comes_after Call t h = goes_on t h
comes_after Spawn t h = h

pub closed : (d : Due) (t : Run FrameEnv) → IsFramed d t → IsSynced t → IsClosed t
closed begin_due (act (Passes Begins) r) h g = closed neither_due r h g
closed resume_due (act (Passes Resumes) r) h g = closed neither_due r h g
closed neither_due (act (Reads c v) r) h g = closed neither_due r h g
closed neither_due (act (Writes c v) r) h g = closed neither_due r h g
closed neither_due (act Syncs r) h g = closed neither_due r h g
closed neither_due (act (Ends v gone) r) h g = h
closed neither_due (act (Passes (Creates i)) r) h g = closed neither_due r h g
closed neither_due (act (Passes (Updates i x)) r) h g = closed neither_due r h g
closed neither_due (act (Passes (Sets i x)) r) h g = closed neither_due r h g
closed neither_due (act (Passes (Values i x)) r) h g = closed neither_due r h g
closed neither_due (act (Passes (Prints x)) r) h g = closed neither_due r h g
closed neither_due (child k w u r) h g = (comes_after k r g.0, closed begin_due u h.0 g.1, closed resume_due r h.1 g.2)
closed _ _ h g = absurd h
