-- How orderly runs begin, continue and end.
use Rattle.std.proofs.Common.{◌≡◌, inl, inr, ℕ, suc, ℤ, pos, int_eq, ◌-ℤ◌, Bool, true, false, if◌then◌else◌, List, [], ◌∷◌, ◌++◌, refl, sym, subst}
use Rattle.cilk_types.specs.declared.event.Event.{Event}
use Rattle.cilk_monoid.specs.declared.kind.MonoidKind.{MonoidKind}
use Rattle.cilk_program.specs.declared.ask.Ask.{Ask}
use Rattle.cilk_program.specs.declared.ask.Ask.TheVariants as asks
use Rattle.cilk_program.specs.declared.ask.Callee.{Callee}
use Rattle.cilk_program.specs.declared.ask.Callee.TheVariants as callees
use Rattle.cilk_types.specs.declared.invocation.Invocation.{Invocation}
use Rattle.cilk_types.specs.declared.invocation.Invocation.TheVariants.{Call, Spawn}
use Rattle.cilk_program.specs.declared.syntax.Place.TheVariants as places
use Rattle.cilk_program.specs.declared.syntax.ReducerPlace.{ReducerPlace}
use Rattle.cilk_program.specs.declared.syntax.ReducerPlace.TheVariants as reducers
use Rattle.cilk_program.specs.Syntax.{Source, function_at, main_of}
use Rattle.cilk_program.specs.Outcomes.{Conclusion}
use Rattle.cilk_program.specs.SerialRun.{Transcript, stop, act, child, Memory, Frame, answer_to, IsInner, Ending, Finished, Stopped, Serial, Made, Ended, Went, Broke, Refused, conclusion_of, IsSerialRun}
use Rattle.cilk_program.specs.Order.{writings, creations, opening_asks, Stage, Fresh, Due, Going, Resuming, Synced, Closing, opened, goes_on, closes, follows, IsOwnAt, IsOrderly}
use Rattle.cilk_program.specs.Closed.{IsNoBegin, IsNoResume, BeginsOnce, IsResumed, at_sync, at_end, HasSync, IsClosed, IsCutShort, EndsSo}
use Rattle.cilk_program.proofs.Legal.{IsPlain}
use Rattle.cilk_program.proofs.Orderly.{runs_orderly}

-- the requests that may come at a stage, by cases
pub data View (G : Stage → Type 0) : Stage → Ask → Type 0 where
  Begins : {due : List Ask} → G (opened due) → View G (Fresh due) asks.Begin
  Opens : {k : Ask} {due : List Ask} → G (opened due) → View G (Due k due) k
  Goes : {w : Bool} {k : Ask} → IsPlain k → G (Going w) → View G (Going w) k
  Calls : {w : Bool} {callee : Callee} → G (Resuming w) → View G (Going w) (asks.Invoke Call callee)
  Spawns : {w : Bool} {callee : Callee} → G (Resuming true) → View G (Going w) (asks.Invoke Spawn callee)
  Syncs : {w : Bool} → G Synced → View G (Going w) asks.Sync
  Resumes : {w : Bool} → G (Going w) → View G (Resuming w) asks.Resume
  Again : {k : Ask} → View G (Going false) k → View G Synced k
  Gives : {v : ℤ} → G Closing → View G Synced (asks.Result v)
  Ends : {v : ℤ} → View G Synced (asks.End v)
  EndsThen : {v : ℤ} → View G Closing (asks.End v)

view_goes : (w : Bool) (k : Ask) (G : Stage → Type 0) → goes_on w k G → View G (Going w) k
view_goes w asks.Begin G h = absurd h
view_goes w (asks.Read x) G h = Goes tt h
view_goes w (asks.Write x v) G h = Goes tt h
view_goes w (asks.Create r) G h = absurd h
view_goes w (asks.Update r v) G h = Goes tt h
view_goes w (asks.Set r v) G h = Goes tt h
view_goes w (asks.Value r) G h = Goes tt h
view_goes w (asks.Print v) G h = Goes tt h
view_goes w (asks.Invoke Call callee) G h = Calls h
view_goes w (asks.Invoke Spawn callee) G h = Spawns h
view_goes w asks.Resume G h = absurd h
view_goes w asks.Sync G h = Syncs h
view_goes w (asks.Result v) G h = absurd h
view_goes w (asks.End v) G h = absurd h
view_goes w (asks.Fault f) G h = absurd h

view_closes : (k : Ask) (G : Stage → Type 0) → closes k G → View G Synced k
view_closes asks.Begin G h = absurd h
view_closes (asks.Read x) G h = Again (Goes tt h)
view_closes (asks.Write x v) G h = Again (Goes tt h)
view_closes (asks.Create r) G h = absurd h
view_closes (asks.Update r v) G h = Again (Goes tt h)
view_closes (asks.Set r v) G h = Again (Goes tt h)
view_closes (asks.Value r) G h = Again (Goes tt h)
view_closes (asks.Print v) G h = Again (Goes tt h)
view_closes (asks.Invoke Call callee) G h = Again (Calls h)
view_closes (asks.Invoke Spawn callee) G h = Again (Spawns h)
view_closes asks.Resume G h = absurd h
view_closes asks.Sync G h = Again (Syncs h)
view_closes (asks.Result v) G h = Gives h
view_closes (asks.End v) G h = Ends
view_closes (asks.Fault f) G h = absurd h

pub view : (s : Stage) (k : Ask) (G : Stage → Type 0) → follows s k G → View G s k
view (Fresh due) k G h = subst (λ k. View G (Fresh due) k) (sym h.0) (Begins h.1)
view (Due first due) k G h = subst (λ k. View G (Due first due) k) (sym h.0) (Opens h.1)
view (Going w) k G h = view_goes w k G h
view (Resuming w) k G h = subst (λ k. View G (Resuming w) k) (sym h.0) (Resumes h.1)
view Synced k G h = view_closes k G h
view Closing k G h = subst (λ k. View G Closing k) (sym h.1) EndsThen

-- a frame's opening requests write cells and create reducers
abbrev pub IsOpening : Ask → Type 0
IsOpening (asks.Write x v) = Unit {0}
IsOpening (asks.Create r) = Unit {0}
IsOpening k = ⊥

abbrev pub AreOpening : List Ask → Type 0
AreOpening [] = Unit {0}
AreOpening (k ∷ ks) = IsOpening k × AreOpening ks

both_opening : (ks js : List Ask) → AreOpening ks → AreOpening js → AreOpening (ks ++ js)
both_opening [] js h g = g
both_opening (k ∷ ks) js h g = (h.0, both_opening ks js h.1 g)

writings_opening : (n : ℕ) (vs : List ℤ) → AreOpening (writings n vs)
writings_opening n [] = tt
writings_opening n (v ∷ vs) = (tt, writings_opening (suc n) vs)

creations_opening : (place : ℕ → ReducerPlace) (n : ℕ) (ks : List MonoidKind) → AreOpening (creations place n ks)
creations_opening place n [] = tt
creations_opening place n (k ∷ ks) = (tt, creations_opening place (suc n) ks)

turn_opening : (one : Bool) (x : _) (v : ℤ) → AreOpening (if one then asks.Write x v ∷ [] else [])
turn_opening true x v = (tt, tt)
turn_opening false x v = tt

pub opening_asks_open : (p : Source) (callee : Callee) → AreOpening (opening_asks p callee)
opening_asks_open p callees.Root =
    let f = main_of p in
    both_opening (creations reducers.Global 0 p.reducers) (creations (reducers.Own 0) 0 f.reducers) (creations_opening reducers.Global 0 p.reducers) (creations_opening (reducers.Own 0) 0 f.reducers)
opening_asks_open p (callees.Function c) =
    let f = function_at p c.function in
    both_opening (writings 0 c.words) (creations (reducers.Own 0) 0 f.reducers) (writings_opening 0 c.words) (creations_opening (reducers.Own 0) 0 f.reducers)
opening_asks_open p (callees.Loop l) = turn_opening (int_eq (l.high -ℤ l.low) (pos 1)) (places.Local 0 0) l.low

-- a stage whose due requests are opening requests
abbrev pub IsSound : Stage → Type 0
IsSound (Fresh due) = AreOpening due
IsSound (Due first due) = AreOpening (first ∷ due)
IsSound (Going w) = Unit {0}
IsSound (Resuming w) = Unit {0}
IsSound Synced = Unit {0}
IsSound Closing = Unit {0}

pub opened_sound : (due : List Ask) → AreOpening due → IsSound (opened due)
opened_sound [] h = tt
opened_sound (k ∷ due) h = h

-- ---- begins

-- whether a frame has begun at a stage
abbrev has_begun : Stage → Bool
has_begun (Fresh due) = false
has_begun (Due first due) = true
has_begun (Going w) = true
has_begun (Resuming w) = true
has_begun Synced = true
has_begun Closing = true

opened_begun : (due : List Ask) (r : Transcript) → BeginsOnce (has_begun (opened due)) r → BeginsOnce true r
opened_begun [] r h = h
opened_begun (k ∷ due) r h = h

plain_no_begin : (k : Ask) → IsPlain k → IsNoBegin k
plain_no_begin asks.Begin h = absurd h
plain_no_begin (asks.Read x) h = tt
plain_no_begin (asks.Write x v) h = tt
plain_no_begin (asks.Create r) h = tt
plain_no_begin (asks.Update r v) h = tt
plain_no_begin (asks.Set r v) h = tt
plain_no_begin (asks.Value r) h = tt
plain_no_begin (asks.Print v) h = tt
plain_no_begin (asks.Invoke how callee) h = tt
plain_no_begin asks.Resume h = tt
plain_no_begin asks.Sync h = tt
plain_no_begin (asks.Result v) h = tt
plain_no_begin (asks.End v) h = tt
plain_no_begin (asks.Fault f) h = tt

pub plain_no_resume : (k : Ask) → IsPlain k → IsNoResume k
plain_no_resume asks.Begin h = tt
plain_no_resume (asks.Read x) h = tt
plain_no_resume (asks.Write x v) h = tt
plain_no_resume (asks.Create r) h = tt
plain_no_resume (asks.Update r v) h = tt
plain_no_resume (asks.Set r v) h = tt
plain_no_resume (asks.Value r) h = tt
plain_no_resume (asks.Print v) h = tt
plain_no_resume (asks.Invoke how callee) h = tt
plain_no_resume asks.Resume h = absurd h
plain_no_resume asks.Sync h = tt
plain_no_resume (asks.Result v) h = tt
plain_no_resume (asks.End v) h = tt
plain_no_resume (asks.Fault f) h = tt

opening_no_begin : (k : Ask) → IsOpening k → IsNoBegin k
opening_no_begin asks.Begin h = absurd h
opening_no_begin (asks.Read x) h = tt
opening_no_begin (asks.Write x v) h = tt
opening_no_begin (asks.Create r) h = tt
opening_no_begin (asks.Update r v) h = tt
opening_no_begin (asks.Set r v) h = tt
opening_no_begin (asks.Value r) h = tt
opening_no_begin (asks.Print v) h = tt
opening_no_begin (asks.Invoke how callee) h = tt
opening_no_begin asks.Resume h = tt
opening_no_begin asks.Sync h = tt
opening_no_begin (asks.Result v) h = tt
opening_no_begin (asks.End v) h = tt
opening_no_begin (asks.Fault f) h = tt

pub opening_no_resume : (k : Ask) → IsOpening k → IsNoResume k
opening_no_resume asks.Begin h = tt
opening_no_resume (asks.Read x) h = tt
opening_no_resume (asks.Write x v) h = tt
opening_no_resume (asks.Create r) h = tt
opening_no_resume (asks.Update r v) h = tt
opening_no_resume (asks.Set r v) h = tt
opening_no_resume (asks.Value r) h = tt
opening_no_resume (asks.Print v) h = tt
opening_no_resume (asks.Invoke how callee) h = tt
opening_no_resume asks.Resume h = absurd h
opening_no_resume asks.Sync h = tt
opening_no_resume (asks.Result v) h = tt
opening_no_resume (asks.End v) h = tt
opening_no_resume (asks.Fault f) h = tt

-- nothing follows the last event of a frame
last_begins : (b : Bool) (r : Transcript) → r ≡ stop → BeginsOnce b r
last_begins b r e = subst (λ r. BeginsOnce b r) (sym e) tt

module _ (p : Source) where
  begins_step : (r : Transcript) → ((s : Stage) → IsSound s → IsOrderly p s r → BeginsOnce (has_begun s) r) → (s : Stage) (k : Ask) (a : ℤ) → IsSound s → View (λ s'. IsOrderly p s' r) s k → IsOwnAt k r
      → BeginsOnce (has_begun s) (act k a r)
  begins_step r ih (Fresh due) k a sound (Begins h) last = (refl, opened_begun due r (ih (opened due) (opened_sound due sound) h))
  begins_step r ih (Due k due) k' a sound (Opens h) last = (opening_no_begin k sound.0, opened_begun due r (ih (opened due) (opened_sound due sound.1) h))
  begins_step r ih (Going w) k a sound (Goes plain h) last = (plain_no_begin k plain, ih (Going w) tt h)
  begins_step r ih (Going w) k a sound (Calls h) last = absurd last
  begins_step r ih (Going w) k a sound (Spawns h) last = absurd last
  begins_step r ih (Going w) k a sound (Syncs h) last = (tt, ih Synced tt h)
  begins_step r ih (Resuming w) k a sound (Resumes h) last = (tt, ih (Going w) tt h)
  begins_step r ih Synced k a sound (Again h) last = begins_step r ih (Going false) k a tt h last
  begins_step r ih Synced k a sound (Gives h) last = (tt, ih Closing tt h)
  begins_step r ih Synced k a sound Ends last = (tt, last_begins true r last)
  begins_step r ih Closing k a sound EndsThen last = (tt, last_begins true r last)

  -- a child, and then the rest
  begins_past : (r : Transcript) → ((s : Stage) → IsSound s → IsOrderly p s r → BeginsOnce (has_begun s) r) → (s : Stage) (how : Invocation) (callee : Callee) (u : Transcript) → BeginsOnce false u → View (λ s'. IsOrderly p s' r) s (asks.Invoke how callee)
      → IsSound s → BeginsOnce (has_begun s) (child how callee u r)
  begins_past r ih (Fresh due) how callee u inner h sound = elim h [ ]
  begins_past r ih (Resuming w) how callee u inner h sound = elim h [ ]
  begins_past r ih Closing how callee u inner h sound = elim h [ ]
  begins_past r ih (Due k due) how callee u inner (Opens h) sound = absurd sound.0
  begins_past r ih (Going w) how callee u inner (Goes plain h) sound = absurd plain
  begins_past r ih (Going w) how callee u inner (Calls h) sound = (inner, ih (Resuming w) tt h)
  begins_past r ih (Going w) how callee u inner (Spawns h) sound = (inner, ih (Resuming true) tt h)
  begins_past r ih Synced how callee u inner (Again h) sound = begins_past r ih (Going false) how callee u inner h tt

  begins : (r : Transcript) (s : Stage) → IsSound s → IsOrderly p s r → BeginsOnce (has_begun s) r
  begins stop s sound h = tt
  begins (act k a r) s sound h = begins_step r (begins r) s k a sound (view s k (λ s'. IsOrderly p s' r) h.0) h.1
  begins (child how callee u r) s sound h =
      begins_past r (begins r) s how callee u (begins u (Fresh (opening_asks p callee)) (opening_asks_open p callee) h.0) (view s (asks.Invoke how callee) (λ s'. IsOrderly p s' r) h.1) sound

  -- ---- resumes

  -- whether a resume is due at a stage
  abbrev resume_due : Stage → Bool
  resume_due (Fresh due) = false
  resume_due (Due first due) = false
  resume_due (Going w) = false
  resume_due (Resuming w) = true
  resume_due Synced = false
  resume_due Closing = false

  opened_resumed : (due : List Ask) (r : Transcript) → IsResumed (resume_due (opened due)) r → IsResumed false r
  opened_resumed [] r h = h
  opened_resumed (k ∷ due) r h = h

  last_resumed : (r : Transcript) → r ≡ stop → IsResumed false r
  last_resumed r e = subst (λ r. IsResumed false r) (sym e) tt

  resumed_step : (r : Transcript) → ((s : Stage) → IsSound s → IsOrderly p s r → IsResumed (resume_due s) r) → (s : Stage) (k : Ask) (a : ℤ) → IsSound s → View (λ s'. IsOrderly p s' r) s k → IsOwnAt k r
      → IsResumed (resume_due s) (act k a r)
  resumed_step r ih (Fresh due) k a sound (Begins h) last = (tt, opened_resumed due r (ih (opened due) (opened_sound due sound) h))
  resumed_step r ih (Due k due) k' a sound (Opens h) last = (opening_no_resume k sound.0, opened_resumed due r (ih (opened due) (opened_sound due sound.1) h))
  resumed_step r ih (Going w) k a sound (Goes plain h) last = (plain_no_resume k plain, ih (Going w) tt h)
  resumed_step r ih (Going w) k a sound (Calls h) last = absurd last
  resumed_step r ih (Going w) k a sound (Spawns h) last = absurd last
  resumed_step r ih (Going w) k a sound (Syncs h) last = (tt, ih Synced tt h)
  resumed_step r ih (Resuming w) k a sound (Resumes h) last = (refl, ih (Going w) tt h)
  resumed_step r ih Synced k a sound (Again h) last = resumed_step r ih (Going false) k a tt h last
  resumed_step r ih Synced k a sound (Gives h) last = (tt, ih Closing tt h)
  resumed_step r ih Synced k a sound Ends last = (tt, last_resumed r last)
  resumed_step r ih Closing k a sound EndsThen last = (tt, last_resumed r last)

  resumed_past : (r : Transcript) → ((s : Stage) → IsSound s → IsOrderly p s r → IsResumed (resume_due s) r) → (s : Stage) (how : Invocation) (callee : Callee) (u : Transcript) → IsResumed false u → View (λ s'. IsOrderly p s' r) s (asks.Invoke how callee)
      → IsSound s → IsResumed (resume_due s) (child how callee u r)
  resumed_past r ih (Fresh due) how callee u inner h sound = elim h [ ]
  resumed_past r ih (Resuming w) how callee u inner h sound = elim h [ ]
  resumed_past r ih Closing how callee u inner h sound = elim h [ ]
  resumed_past r ih (Due k due) how callee u inner (Opens h) sound = absurd sound.0
  resumed_past r ih (Going w) how callee u inner (Goes plain h) sound = absurd plain
  resumed_past r ih (Going w) how callee u inner (Calls h) sound = (inner, ih (Resuming w) tt h)
  resumed_past r ih (Going w) how callee u inner (Spawns h) sound = (inner, ih (Resuming true) tt h)
  resumed_past r ih Synced how callee u inner (Again h) sound = resumed_past r ih (Going false) how callee u inner h tt

  resumed : (r : Transcript) (s : Stage) → IsSound s → IsOrderly p s r → IsResumed (resume_due s) r
  resumed stop s sound h = tt
  resumed (act k a r) s sound h = resumed_step r (resumed r) s k a sound (view s k (λ s'. IsOrderly p s' r) h.0) h.1
  resumed (child how callee u r) s sound h =
      resumed_past r (resumed r) s how callee u (resumed u (Fresh (opening_asks p callee)) (opening_asks_open p callee) h.0) (view s (asks.Invoke how callee) (λ s'. IsOrderly p s' r) h.1) sound

  -- ---- closings

  -- a frame that ends has a sync before it, unless it has just waited
  abbrev Awaits : Stage → Transcript → Type 0
  Awaits Synced r = Unit {0}
  Awaits Closing r = Unit {0}
  Awaits s r = HasSync r

  opened_awaits : (due : List Ask) (r : Transcript) → Awaits (opened due) r → HasSync r
  opened_awaits [] r h = h
  opened_awaits (k ∷ due) r h = h

  passes_sync : (k : Ask) (P : Type 0) → P → at_sync k (Unit {0}) P
  passes_sync asks.Begin P h = h
  passes_sync (asks.Read x) P h = h
  passes_sync (asks.Write x v) P h = h
  passes_sync (asks.Create r) P h = h
  passes_sync (asks.Update r v) P h = h
  passes_sync (asks.Set r v) P h = h
  passes_sync (asks.Value r) P h = h
  passes_sync (asks.Print v) P h = h
  passes_sync (asks.Invoke how callee) P h = h
  passes_sync asks.Resume P h = h
  passes_sync asks.Sync P h = tt
  passes_sync (asks.Result v) P h = h
  passes_sync (asks.End v) P h = h
  passes_sync (asks.Fault f) P h = h

  awaits_step : (r : Transcript) → ((s : Stage) → IsSound s → IsOrderly p s r → Awaits s r) → (s : Stage) (k : Ask) (a : ℤ) → IsSound s → View (λ s'. IsOrderly p s' r) s k → Awaits s (act k a r)
  awaits_step r ih (Fresh due) k a sound (Begins h) = opened_awaits due r (ih (opened due) (opened_sound due sound) h)
  awaits_step r ih (Due k due) k' a sound (Opens h) = passes_sync k (HasSync r) (opened_awaits due r (ih (opened due) (opened_sound due sound.1) h))
  awaits_step r ih (Going w) k a sound (Goes plain h) = passes_sync k (HasSync r) (ih (Going w) tt h)
  awaits_step r ih (Going w) k a sound (Calls h) = ih (Resuming w) tt h
  awaits_step r ih (Going w) k a sound (Spawns h) = ih (Resuming true) tt h
  awaits_step r ih (Going w) k a sound (Syncs h) = tt
  awaits_step r ih (Resuming w) k a sound (Resumes h) = ih (Going w) tt h
  awaits_step r ih Synced k a sound h = tt
  awaits_step r ih Closing k a sound h = tt

  -- after a child there is a sync
  awaits_past : (r : Transcript) → ((s : Stage) → IsSound s → IsOrderly p s r → Awaits s r) → (s : Stage) (how : Invocation) (callee : Callee) → IsSound s → View (λ s'. IsOrderly p s' r) s (asks.Invoke how callee) → HasSync r
  awaits_past r ih (Fresh due) how callee sound h = elim h [ ]
  awaits_past r ih (Resuming w) how callee sound h = elim h [ ]
  awaits_past r ih Closing how callee sound h = elim h [ ]
  awaits_past r ih (Due k due) how callee sound (Opens h) = absurd sound.0
  awaits_past r ih (Going w) how callee sound (Goes plain h) = absurd plain
  awaits_past r ih (Going w) how callee sound (Calls h) = ih (Resuming w) tt h
  awaits_past r ih (Going w) how callee sound (Spawns h) = ih (Resuming true) tt h
  awaits_past r ih Synced how callee sound (Again h) = awaits_past r ih (Going false) how callee tt h

  awaits_after_child : (s : Stage) (how : Invocation) (callee : Callee) (u r : Transcript) → HasSync r → Awaits s (child how callee u r)
  awaits_after_child (Fresh due) how callee u r h = h
  awaits_after_child (Due k due) how callee u r h = h
  awaits_after_child (Going w) how callee u r h = h
  awaits_after_child (Resuming w) how callee u r h = h
  awaits_after_child Synced how callee u r h = tt
  awaits_after_child Closing how callee u r h = tt

  -- a frame ends right after a sync, or after its result
  ends_awaits : (s : Stage) (v a : ℤ) → IsSound s → View (λ s'. IsOrderly p s' stop) s (asks.End v) → Awaits s (act (asks.End v) a stop)
  ends_awaits (Fresh due) v a sound h = elim h [ ]
  ends_awaits (Due k due) v a sound (Opens h) = absurd sound.0
  ends_awaits (Going w) v a sound (Goes plain h) = absurd plain
  ends_awaits (Resuming w) v a sound h = elim h [ ]
  ends_awaits Synced v a sound h = tt
  ends_awaits Closing v a sound h = tt

  -- the stage of a frame after an event that isn't its end, or after a child
  next_stage : (r : Transcript) (s : Stage) (k : Ask) → IsSound s → (at_end k ⊥ (Unit {0})) → View (λ s'. IsOrderly p s' r) s k → (s' : Stage) × IsSound s' × IsOrderly p s' r
  next_stage r (Fresh due) k sound more (Begins h) = (opened due, opened_sound due sound, h)
  next_stage r (Due k due) k' sound more (Opens h) = (opened due, opened_sound due sound.1, h)
  next_stage r (Going w) k sound more (Goes plain h) = (Going w, tt, h)
  next_stage r (Going w) k sound more (Calls h) = (Resuming w, tt, h)
  next_stage r (Going w) k sound more (Spawns h) = (Resuming true, tt, h)
  next_stage r (Going w) k sound more (Syncs h) = (Synced, tt, h)
  next_stage r (Resuming w) k sound more (Resumes h) = (Going w, tt, h)
  next_stage r Synced k sound more (Again h) = next_stage r (Going false) k tt more h
  next_stage r Synced k sound more (Gives h) = (Closing, tt, h)
  next_stage r Synced k sound more Ends = absurd more
  next_stage r Closing k sound more EndsThen = absurd more

  -- how a run ends, by its ending
  abbrev EndsAs : Transcript → Ending → Type 0
  EndsAs r (Finished v left m) = IsClosed r
  EndsAs r (Stopped f) = IsCutShort r

  abbrev AwaitsAs : Stage → Transcript → Ending → Type 0
  AwaitsAs s r (Finished v left m) = Awaits s r
  AwaitsAs s r (Stopped f) = Unit {0}

  inner_more : (k : Ask) (P Q : Type 0) → IsInner k → Q → at_end k P Q
  inner_more asks.Begin P Q inner h = h
  inner_more (asks.Read x) P Q inner h = h
  inner_more (asks.Write x v) P Q inner h = h
  inner_more (asks.Create c) P Q inner h = h
  inner_more (asks.Update c v) P Q inner h = h
  inner_more (asks.Set c v) P Q inner h = h
  inner_more (asks.Value c) P Q inner h = h
  inner_more (asks.Print v) P Q inner h = h
  inner_more (asks.Invoke how callee) P Q inner h = h
  inner_more asks.Resume P Q inner h = h
  inner_more asks.Sync P Q inner h = h
  inner_more (asks.Result v) P Q inner h = h
  inner_more (asks.End v) P Q inner h = absurd inner
  inner_more (asks.Fault f) P Q inner h = h

  act_ends : (k : Ask) (a : ℤ) (r : Transcript) (end : Ending) → IsInner k → EndsAs r end → EndsAs (act k a r) end
  act_ends k a r (Finished v left m) inner h = inner_more k (r ≡ stop) (IsClosed r) inner h
  act_ends k a r (Stopped f) inner h = inner_more k ⊥ (IsCutShort r) inner h

  act_awaits : (s : Stage) (k : Ask) (a : ℤ) (r : Transcript) (end : Ending) → IsSound s → ((s : Stage) → IsSound s → IsOrderly p s r → AwaitsAs s r end) → View (λ s'. IsOrderly p s' r) s k → AwaitsAs s (act k a r) end
  act_awaits s k a r (Finished v left m) sound ih h = awaits_step r ih s k a sound h
  act_awaits s k a r (Stopped f) sound ih h = tt

  child_ends : (s : Stage) (how : Invocation) (callee : Callee) (u r : Transcript) (end : Ending) → IsSound s → ((s : Stage) → IsSound s → IsOrderly p s r → AwaitsAs s r end) → View (λ s'. IsOrderly p s' r) s (asks.Invoke how callee)
      → IsClosed u → EndsAs r end → EndsAs (child how callee u r) end × AwaitsAs s (child how callee u r) end
  child_ends s how callee u r (Finished v left m) sound ih h closed ends =
      let waits = awaits_past r ih s how callee sound h in
      ((closed, waits, ends), awaits_after_child s how callee u r waits)
  child_ends s how callee u r (Stopped f) sound ih h closed ends = (inl (closed, ends), tt)

serial_ends : {p : Source} {inputs : List ℤ} {fr : Frame} {start : ℕ} {history : List ℤ} {m : Memory} {r : Transcript} {es : List Event} {end : Ending} → Serial p inputs fr start history m r es end
    → (s : Stage) → IsSound s → IsOrderly p s r → EndsAs p r end × AwaitsAs p s r end
serial_ends {p = p} (Made {fr = fr} {m = m} {r = r} {end = end} k left q inner ok rest) s sound h =
    let seen = view s k (λ s'. IsOrderly p s' r) h.0 in
    let next = next_stage p r s k sound (inner_more p k ⊥ (Unit {0}) inner tt) seen in
    (act_ends p k (answer_to fr m k) r end inner (serial_ends rest next.0 next.1 next.2).0, act_awaits p s k (answer_to fr m k) r end sound (λ s sound h. (serial_ends rest s sound h).1) seen)
serial_ends {p = p} (Ended v left q ok) s sound h = (refl, ends_awaits p s v (pos 0) sound (view s (asks.End v) (λ s'. IsOrderly p s' stop) h.0))
serial_ends {p = p} (Went {u = u} {r = r} {end = end} how callee left v left' m' q ok inner rest) s sound h =
    let seen = view s (asks.Invoke how callee) (λ s'. IsOrderly p s' r) h.1 in
    let next = next_stage p r s (asks.Invoke how callee) sound tt seen in
    child_ends p s how callee u r end sound (λ s sound h. (serial_ends rest s sound h).1) seen (serial_ends inner (Fresh (opening_asks p callee)) (opening_asks_open p callee) h.0).0 (serial_ends rest next.0 next.1 next.2).0
serial_ends {p = p} (Broke how callee left f q ok inner) s sound h =
    (inr ((serial_ends inner (Fresh (opening_asks p callee)) (opening_asks_open p callee) h.0).0, refl), tt)
serial_ends (Refused k left f q bad) s sound h = (tt, tt)

concludes : (p : Source) (inputs : List ℤ) (r : Transcript) (end : Ending) → EndsAs p r end → EndsSo r (conclusion_of p inputs end)
concludes p inputs r (Finished v left m) h = h
concludes p inputs r (Stopped f) h = h

pub runs_begin : (p : Source) (inputs : List ℤ) (r : Transcript) (es : List Event) (c : Conclusion) → IsSerialRun p inputs r es c → BeginsOnce false r
runs_begin p inputs r es c d = begins p r (Fresh (opening_asks p callees.Root)) (opening_asks_open p callees.Root) (runs_orderly p inputs r es c d)

pub runs_resume : (p : Source) (inputs : List ℤ) (r : Transcript) (es : List Event) (c : Conclusion) → IsSerialRun p inputs r es c → IsResumed false r
runs_resume p inputs r es c d = resumed p r (Fresh (opening_asks p callees.Root)) (opening_asks_open p callees.Root) (runs_orderly p inputs r es c d)

pub runs_end : (p : Source) (inputs : List ℤ) (r : Transcript) (es : List Event) (c : Conclusion) → IsSerialRun p inputs r es c → EndsSo r c
runs_end p inputs r es c (end, d, e) =
    let orderly = runs_orderly p inputs r es c (end, d, e) in
    subst (EndsSo r) (sym e) (concludes p inputs r end (serial_ends d (Fresh (opening_asks p callees.Root)) (opening_asks_open p callees.Root) orderly).0)
