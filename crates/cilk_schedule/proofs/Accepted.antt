-- Facts about a request that causes no fault.
--
-- - `few_ticks`, `few_events`, `few_frames`: the limits aren't exceeded;
-- - `no_fault`: it is no fault.
use Rattle.std.proofs.Common.{◌≡◌, ◌+◌, ◌≤◌, ℕ, nat_lt, Bool, true, false, if◌then◌else◌, Option, Some, None, refl}
use Rattle.std.proofs.lemmas.Bool.{ltb-false}
use Rattle.cilk_types.specs.declared.fault.Fault.{Fault}
use Rattle.cilk_types.specs.declared.limits.TheConstants.{MAX_CELLS, MAX_EVENTS, MAX_FRAMES, MAX_TICKS}
use Rattle.cilk_types.specs.declared.invocation.Invocation.{Invocation}
use Rattle.cilk_program.specs.declared.ask.Ask.{Ask}
use Rattle.cilk_program.specs.declared.ask.Ask.TheVariants as asks
use Rattle.cilk_program.specs.declared.ask.Callee.{Callee}
use Rattle.cilk_lower.specs.Layout.{cells_in}
use Rattle.cilk_lower.specs.declared.layout.Layout.{Layout}
use Rattle.cilk_scheduler.specs.Asking.{cells_asked, crowded, own_fault, refusal}

passed : (b : Bool) (x : Fault) (o : Option Fault) → (if b then Some x else o) ≡ None → (b ≡ false) × (o ≡ None)
passed true x o e = let no : Some x ≡ None = e in cc
passed false x o e = (refl, e)

behind : (k : Ask) (o : Option Fault) → own_fault k o ≡ None → o ≡ None
behind asks.Begin o e = e
behind (asks.Read x) o e = e
behind (asks.Write x v) o e = e
behind (asks.Create r) o e = e
behind (asks.Update r v) o e = e
behind (asks.Set r v) o e = e
behind (asks.Value r) o e = e
behind (asks.Print v) o e = e
behind (asks.Invoke how callee) o e = e
behind asks.Resume o e = e
behind asks.Sync o e = e
behind (asks.Result v) o e = e
behind (asks.End v) o e = e
behind (asks.Fault f) o e = let no : Some f ≡ None = e in cc

module _ (ticks events frames cells : ℕ) (l : Layout) where
  pub few_ticks : (k : Ask) → refusal ticks events frames cells l k ≡ None → ticks ≤ MAX_TICKS
  few_ticks k h = ltb-false MAX_TICKS ticks (passed (nat_lt MAX_TICKS ticks) _ _ h).0

  rest : (k : Ask) → refusal ticks events frames cells l k ≡ None → (nat_lt MAX_EVENTS (events + 1) ≡ false) × (crowded frames cells (cells_asked l k) ≡ None)
  rest k h = passed (nat_lt MAX_EVENTS (events + 1)) _ _ (behind k _ (passed (nat_lt MAX_TICKS ticks) _ _ h).1)

  pub few_events : (k : Ask) → refusal ticks events frames cells l k ≡ None → events + 1 ≤ MAX_EVENTS
  few_events k h = ltb-false MAX_EVENTS (events + 1) (rest k h).0

  pub few_frames : (how : Invocation) (callee : Callee) → refusal ticks events frames cells l (asks.Invoke how callee) ≡ None → (frames + 1 ≤ MAX_FRAMES) × (cells + cells_in l callee ≤ MAX_CELLS)
  few_frames how callee h =
      let r = (rest (asks.Invoke how callee) h).1 in
      let f = passed (nat_lt MAX_FRAMES (frames + 1)) _ _ r in
      let c = passed (nat_lt MAX_CELLS (cells + cells_in l callee)) _ _ f.1 in
      (ltb-false MAX_FRAMES (frames + 1) f.0, ltb-false MAX_CELLS (cells + cells_in l callee) c.0)

  pub no_fault : (f : Fault) → refusal ticks events frames cells l (asks.Fault f) ≡ None → {A : Type 0} → A
  no_fault f h = let no : Some f ≡ None = (passed (nat_lt MAX_TICKS ticks) _ _ h).1 in cc
