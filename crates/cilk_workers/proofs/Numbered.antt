-- The requests of frames, and the numbers of their events.
--
-- - `number_is`, `number_there`: the number of an ask is that of its event;
-- - `end_some`, `end_there`: that with which the frame ends;
-- - `within`: if a frame requests an event, the event order has its position.
use Rattle.std.proofs.Common.{◌≡◌, ◌≤◌, ℕ, ℤ, length, Option, Some, refl, sym, ap, ◌∙◌, subst, arith}
use Rattle.cilk_types.specs.declared.event.Event.{Event}
use Rattle.cilk_types.specs.declared.event.Event.TheVariants as events
use Rattle.cilk_types.specs.declared.invocation.Invocation.TheVariants.{Call, Spawn}
use Rattle.cilk_program.specs.declared.ask.Ask.{Ask}
use Rattle.cilk_program.specs.declared.ask.Ask.TheVariants as asks
use Rattle.cilk_program.specs.SerialRun.{Transcript}
use Rattle.cilk_program.specs.Sources.{source}
use Rattle.cilk_program.specs.Syntax.{Source}
use Rattle.cilk_tree.specs.Runs.{IsAsked}
use Rattle.cilk_tree.specs.Word.{event}
use Rattle.cilk_determinacy.specs.FrameEnvs.{FrameEnv}
use Rattle.cilk_replay.specs.Points.{IsEventOf}
use Rattle.cilk_replay.specs.Asking.{IsNextAsk}
use Rattle.cilk_replay.specs.Replays.{ReplayValue, setting_of}
use Rattle.cilk_replay.proofs.Along.{event_order_of}
use Rattle.cilk_replay.proofs.Going as going
use Rattle.cilk_workers.specs.Asks.{Carries, HasNumber, number_in}

module _ (p : Source) (r : Transcript) (w : FrameEnv) where
  moved : (e e' : Event) (v : ℤ) → e ≡ e' → Carries (Some e) v → Carries (Some e') v
  moved e e' v q h = subst (λ (z : Event). Carries (Some z) v) q h

  carried : (k : Ask) (e : Event) (v : ℤ) → IsEventOf p r w k e → Carries (Some e) v → number_in k ≡ Some v
  carried asks.Begin e v h c = absurd (moved e _ v h.1 c)
  carried (asks.Read x) e v h c = absurd (moved e _ v h.1 c)
  carried (asks.Write x n) e v h c = ap (λ (z : ℤ). Some z) (moved e _ v h c)
  carried (asks.Create q) e v h c = absurd (moved e _ v h c)
  carried (asks.Update q n) e v h c = ap (λ (z : ℤ). Some z) (moved e _ v h c)
  carried (asks.Set q n) e v h c = ap (λ (z : ℤ). Some z) (moved e _ v h c)
  carried (asks.Value q) e v h c = absurd (moved e _ v h.1 c)
  carried (asks.Print n) e v h c = ap (λ (z : ℤ). Some z) (moved e _ v h c)
  carried (asks.Invoke Call callee) e v h c = absurd (moved e _ v h.1 c)
  carried (asks.Invoke Spawn callee) e v h c = absurd (moved e _ v h.1 c)
  carried asks.Resume e v h c = absurd (moved e _ v h.1 c)
  carried asks.Sync e v h c = absurd (moved e _ v h c)
  carried (asks.Result n) e v h c = ap (λ (z : ℤ). Some z) (moved e _ v h c)
  carried (asks.End n) e v h c = absurd (moved e _ v h c)
  carried (asks.Fault f) e v h c = absurd h

  no_end : {A : Type 0} (e e' : Event) → e ≡ e' → e ≡ events.End → (e' ≡ events.End → ⊥) → A
  no_end e e' q is other = absurd (other (sym q ∙ is))

  ends : (k : Ask) (e : Event) → IsEventOf p r w k e → e ≡ events.End → (v : ℤ) × (k ≡ asks.End v)
  ends asks.Begin e h q = no_end e _ h.1 q (λ z. cc z)
  ends (asks.Read x) e h q = no_end e _ h.1 q (λ z. cc z)
  ends (asks.Write x n) e h q = no_end e _ h q (λ z. cc z)
  ends (asks.Create x) e h q = no_end e _ h q (λ z. cc z)
  ends (asks.Update x n) e h q = no_end e _ h q (λ z. cc z)
  ends (asks.Set x n) e h q = no_end e _ h q (λ z. cc z)
  ends (asks.Value x) e h q = no_end e _ h.1 q (λ z. cc z)
  ends (asks.Print n) e h q = no_end e _ h q (λ z. cc z)
  ends (asks.Invoke Call callee) e h q = no_end e _ h.1 q (λ z. cc z)
  ends (asks.Invoke Spawn callee) e h q = no_end e _ h.1 q (λ z. cc z)
  ends asks.Resume e h q = no_end e _ h.1 q (λ z. cc z)
  ends asks.Sync e h q = no_end e _ h q (λ z. cc z)
  ends (asks.Result n) e h q = no_end e _ h q (λ z. cc z)
  ends (asks.End n) e h q = (n, refl)
  ends (asks.Fault f) e h q = absurd h

module _ (u : ReplayValue) (at : ℕ) (k : Ask) (next : IsNextAsk u at k) where
  pub within : (1 ≤ at) × (at ≤ length (let y = event_order_of u in y.events))
  within =
      let less = going.within (setting_of u next.run) next.of_program next.behind next.point next.is in
      let place = next.place in
      (omega (arith, place), omega (arith, place, less))

  module _ (o : Option ℤ) (asked : IsAsked (event_order_of u) at) (is : o ≡ number_in k) where
    pub number_is : (has : HasNumber (event (event_order_of u) at)) → o ≡ Some has.0
    number_is has =
        let m = next.made asked in
        is ∙ carried (source u.program) next.run (let x = next.point in x.frame) k m.0 has.0 m.2 (subst (λ (z : Option Event). Carries z has.0) m.1 has.1)

    pub number_there : HasNumber (event (event_order_of u) at) → (n : ℤ) → o ≡ Some n → Carries (event (event_order_of u) at) n
    number_there has n q =
        let both : Some has.0 ≡ Some n = sym (number_is has) ∙ q in
        let z : has.0 ≡ n = cc both in
        subst (λ (v : ℤ). Carries (event (event_order_of u) at) v) z has.1

    pub end_is : event (event_order_of u) at ≡ Some events.End → (v : ℤ) × (k ≡ asks.End v)
    end_is end =
        let m = next.made asked in
        let both : Some m.0 ≡ Some events.End = sym m.1 ∙ end in
        ends (source u.program) next.run (let x = next.point in x.frame) k m.0 m.2 (cc both)

    pub end_there : event (event_order_of u) at ≡ Some events.End → (n : ℤ) → o ≡ Some n → IsNextAsk u at (asks.End n)
    end_there end n q =
        let e = end_is end in
        let both : Some e.0 ≡ Some n = sym (is ∙ ap number_in e.1) ∙ q in
        let z : e.0 ≡ n = cc both in
        subst (λ (j : Ask). IsNextAsk u at j) (e.1 ∙ ap (λ (v : ℤ). asks.End v) z) next

    pub end_some : (end : event (event_order_of u) at ≡ Some events.End) → o ≡ Some (end_is end).0
    end_some end = is ∙ ap number_in (end_is end).1
