-- Serial runs are orderly.
use Rattle.std.proofs.Common.{◌≡◌, ℕ, zero, suc, ◌≤◌, max, ℤ, pos, Bool, true, false, List, [], ◌∷◌, ◌++◌, refl, sym, ap, ◌∙◌, subst, append_assoc, append-nil, arith}
use Rattle.cilk_types.specs.declared.event.Event.{Event}
use Rattle.cilk_program.specs.declared.ask.Ask.{Ask}
use Rattle.cilk_program.specs.declared.ask.Ask.TheVariants as asks
use Rattle.cilk_program.specs.declared.ask.Callee.{Callee}
use Rattle.cilk_program.specs.declared.ask.Callee.TheVariants as callees
use Rattle.cilk_types.specs.declared.invocation.Invocation.TheVariants.{Call, Spawn}
use Rattle.cilk_program.specs.Syntax.{Source}
use Rattle.cilk_program.specs.Behaviour.{OpenAsk, asks_for, frame_asks}
use Rattle.cilk_program.specs.Outcomes.{Conclusion}
use Rattle.cilk_program.specs.SerialRun.{Transcript, stop, act, child, Memory, Frame, answer_to, IsInner, Ending, Serial, Made, Ended, Went, Broke, Refused, IsSerialRun}
use Rattle.cilk_program.specs.Order.{opening_asks, Stage, Fresh, Due, Going, Resuming, Synced, Closing, goes_on, closes, follows, IsOwnAt, IsOrderly}
use Rattle.cilk_program.proofs.Legal.{Rest, after, unless_fault, IsLegal, fresh_fine}

-- the continuation may be stated in another form
goes_map : (w : Bool) (k : Ask) (G H : Stage → Type 0) → ((s : Stage) → G s → H s) → goes_on w k G → goes_on w k H
goes_map w asks.Begin G H f h = h
goes_map w (asks.Read x) G H f h = f (Going w) h
goes_map w (asks.Write x v) G H f h = f (Going w) h
goes_map w (asks.Create r) G H f h = h
goes_map w (asks.Update r v) G H f h = f (Going w) h
goes_map w (asks.Set r v) G H f h = f (Going w) h
goes_map w (asks.Value r) G H f h = f (Going w) h
goes_map w (asks.Print v) G H f h = f (Going w) h
goes_map w (asks.Invoke Call callee) G H f h = f (Resuming w) h
goes_map w (asks.Invoke Spawn callee) G H f h = f (Resuming true) h
goes_map w asks.Resume G H f h = h
goes_map w asks.Sync G H f h = f Synced h
goes_map w (asks.Result v) G H f h = h
goes_map w (asks.End v) G H f h = h
goes_map w (asks.Fault g) G H f h = h

closes_map : (k : Ask) (G H : Stage → Type 0) → ((s : Stage) → G s → H s) → closes k G → closes k H
closes_map asks.Begin G H f h = h
closes_map (asks.Read x) G H f h = f (Going false) h
closes_map (asks.Write x v) G H f h = f (Going false) h
closes_map (asks.Create r) G H f h = h
closes_map (asks.Update r v) G H f h = f (Going false) h
closes_map (asks.Set r v) G H f h = f (Going false) h
closes_map (asks.Value r) G H f h = f (Going false) h
closes_map (asks.Print v) G H f h = f (Going false) h
closes_map (asks.Invoke Call callee) G H f h = f (Resuming false) h
closes_map (asks.Invoke Spawn callee) G H f h = f (Resuming true) h
closes_map asks.Resume G H f h = h
closes_map asks.Sync G H f h = f Synced h
closes_map (asks.Result v) G H f h = f Closing h
closes_map (asks.End v) G H f h = tt
closes_map (asks.Fault g) G H f h = h

follows_map : (s : Stage) (k : Ask) (G H : Stage → Type 0) → ((s : Stage) → G s → H s) → follows s k G → follows s k H
follows_map (Fresh due) k G H f h = (h.0, f _ h.1)
follows_map (Due first due) k G H f h = (h.0, f _ h.1)
follows_map (Going w) k G H f h = goes_map w k G H f h
follows_map (Resuming w) k G H f h = (h.0, f (Going w) h.1)
follows_map Synced k G H f h = closes_map k G H f h
follows_map Closing k G H f h = h

inner_follows : (k : Ask) (P : Type 0) → IsInner k → unless_fault k P → P
inner_follows asks.Begin P inner h = h
inner_follows (asks.Read x) P inner h = h
inner_follows (asks.Write x v) P inner h = h
inner_follows (asks.Create r) P inner h = h
inner_follows (asks.Update r v) P inner h = h
inner_follows (asks.Set r v) P inner h = h
inner_follows (asks.Value r) P inner h = h
inner_follows (asks.Print v) P inner h = h
inner_follows (asks.Invoke how callee) P inner h = h
inner_follows asks.Resume P inner h = h
inner_follows asks.Sync P inner h = h
inner_follows (asks.Result v) P inner h = h
inner_follows (asks.End v) P inner h = h
inner_follows (asks.Fault f) P inner h = absurd inner

inner_own : (k : Ask) (r : Transcript) → IsInner k → IsOwnAt k r
inner_own asks.Begin r inner = tt
inner_own (asks.Read x) r inner = tt
inner_own (asks.Write x v) r inner = tt
inner_own (asks.Create c) r inner = tt
inner_own (asks.Update c v) r inner = tt
inner_own (asks.Set c v) r inner = tt
inner_own (asks.Value c) r inner = tt
inner_own (asks.Print v) r inner = tt
inner_own (asks.Invoke how callee) r inner = absurd inner
inner_own asks.Resume r inner = tt
inner_own asks.Sync r inner = tt
inner_own (asks.Result v) r inner = tt
inner_own (asks.End v) r inner = absurd inner
inner_own (asks.Fault f) r inner = absurd inner

-- the number of events and children of a frame
abbrev long : Transcript → ℕ
long stop = zero
long (act k a r) = suc (long r)
long (child how callee u r) = suc (long r)

-- the most ticks that a frame had, counted from its beginning
pub most : {p : Source} {inputs : List ℤ} {fr : Frame} {start : ℕ} {history : List ℤ} {m : Memory} {r : Transcript} {es : List Event} {end : Ending} → Serial p inputs fr start history m r es end → ℕ
most (Made {start = start} k left q inner ok rest) = max start (most rest)
most (Ended {start = start} v left q ok) = start
most (Went {start = start} how callee left v left' m' q ok inner rest) = max start (most rest)
most (Broke {start = start} how callee left f q ok inner) = start
most (Refused {start = start} k left f q bad) = start

-- the requests after a history are those of the rest
abbrev IsRest : Source → List ℤ → Callee → List ℤ → Rest → Type 0
IsRest p inputs callee history c = (answers : List ℤ) (start : ℕ) → frame_asks p inputs callee (history ++ answers) start ≡ c answers start

rest_after : (p : Source) (inputs : List ℤ) (callee : Callee) (history : List ℤ) (c : Rest) (a : ℤ) → IsRest p inputs callee history c → IsRest p inputs callee (history ++ a ∷ []) (after a c)
rest_after p inputs callee history c a h = λ answers start. ap (λ l. frame_asks p inputs callee l start) (append_assoc history (a ∷ []) answers) ∙ h (a ∷ answers) start

now_asks : (p : Source) (inputs : List ℤ) (callee : Callee) (history : List ℤ) (c : Rest) (start left : ℕ) (k : Ask) → IsRest p inputs callee history c → frame_asks p inputs callee history start ≡ asks_for k left → (c [] start).ask ≡ k
now_asks p inputs callee history c start left k h q = ap (λ (q : OpenAsk). q.ask) (sym (h [] start) ∙ ap (λ l. frame_asks p inputs callee l start) (append-nil history) ∙ q)

pub serial_orderly : {p : Source} {inputs : List ℤ} {fr : Frame} {start : ℕ} {history : List ℤ} {m : Memory} {r : Transcript} {es : List Event} {end : Ending} → (d : Serial p inputs fr start history m r es end)
    → (top : ℕ) → most d ≤ top → (s : Stage) (c : Rest) → IsRest p inputs fr.callee history c → IsLegal top s c (long r) → IsOrderly p s r
unfolding most
serial_orderly {p = p} {inputs = inputs} (Made {fr = fr} {start = start} {history = history} {m = m} {r = r} k left q inner ok rest) top low s c same legal =
    let is = now_asks p inputs fr.callee history c start left k same q in
    let here = subst (λ k. unless_fault k (follows s k (λ s'. (a : ℤ) → IsLegal top s' (after a c) (long r)))) is (legal start (omega (arith, low))) in
    let a = answer_to fr m k in (
      follows_map s k (λ s'. (a : ℤ) → IsLegal top s' (after a c) (long r)) (λ s'. IsOrderly p s' r) (λ s' h. serial_orderly rest top (omega (arith, low)) s' (after a c) (rest_after p inputs fr.callee history c a same) (h a))
          (inner_follows k (follows s k (λ s'. (a : ℤ) → IsLegal top s' (after a c) (long r))) inner here),
      inner_own k r inner,
    )
serial_orderly {p = p} {inputs = inputs} (Ended {fr = fr} {start = start} {history = history} v left q ok) top low s c same legal =
    let is = now_asks p inputs fr.callee history c start left (asks.End v) same q in
    let here = subst (λ k. unless_fault k (follows s k (λ s'. (a : ℤ) → Unit {0}))) is (legal start low) in
    (follows_map s (asks.End v) (λ s'. (a : ℤ) → Unit {0}) (λ s'. Unit {0}) (λ s' h. tt) here, refl)
serial_orderly {p = p} {inputs = inputs} (Went {fr = fr} {start = start} {history = history} {r = r} how callee left v left' m' q ok inner rest) top low s c same legal =
    let is = now_asks p inputs fr.callee history c start left (asks.Invoke how callee) same q in
    let here = subst (λ k. unless_fault k (follows s k (λ s'. (a : ℤ) → IsLegal top s' (after a c) (long r)))) is (legal start (omega (arith, low))) in (
      serial_orderly inner (most inner) (omega arith) (Fresh (opening_asks p callee)) (frame_asks p inputs callee) (λ answers start. refl) (fresh_fine (most inner) p inputs callee _),
      follows_map s (asks.Invoke how callee) (λ s'. (a : ℤ) → IsLegal top s' (after a c) (long r)) (λ s'. IsOrderly p s' r) (λ s' h. serial_orderly rest top (omega (arith, low)) s' (after (pos 0) c) (rest_after p inputs fr.callee history c (pos 0) same) (h (pos 0))) here,
    )
serial_orderly {p = p} {inputs = inputs} (Broke {fr = fr} {start = start} {history = history} how callee left f q ok inner) top low s c same legal =
    let is = now_asks p inputs fr.callee history c start left (asks.Invoke how callee) same q in
    let here = subst (λ k. unless_fault k (follows s k (λ s'. (a : ℤ) → Unit {0}))) is (legal start low) in (
      serial_orderly inner (most inner) (omega arith) (Fresh (opening_asks p callee)) (frame_asks p inputs callee) (λ answers start. refl) (fresh_fine (most inner) p inputs callee _),
      follows_map s (asks.Invoke how callee) (λ s'. (a : ℤ) → Unit {0}) (λ s'. Unit {0}) (λ s' h. tt) here,
    )
serial_orderly (Refused k left f q bad) top low s c same legal = tt

pub runs_orderly : (p : Source) (inputs : List ℤ) (r : Transcript) (es : List Event) (c : Conclusion) → IsSerialRun p inputs r es c → IsOrderly p (Fresh (opening_asks p callees.Root)) r
runs_orderly p inputs r es c (end, d, e) = serial_orderly d (most d) (omega arith) (Fresh (opening_asks p callees.Root)) (frame_asks p inputs callees.Root) (λ answers start. refl) (fresh_fine (most d) p inputs callees.Root (long r))
