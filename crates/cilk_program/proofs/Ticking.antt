-- A frame makes the same request with more ticks, and gives no ticks back; and its request with
-- fewer ticks.
--
-- - `frame_more`, `frame_low`, `frame_further`, `at_full`: with more ticks, and after one more
-- answer;
-- - `frame_short`: if the ticks had run out;
-- - `not_out`, `runs_short`: the law.
use Rattle.std.proofs.Common.{◌≡◌, ℕ, ◌+◌, ◌-◌, ◌≤◌, ◌<◌, ℤ, true, false, true≢false, List, [], ◌∷◌, ◌++◌, ⊎_elim, refl, sym, ap, ◌∙◌, subst, arith}
use Rattle.std.proofs.lemmas.Bool.{cases_Bool}
use Rattle.cilk_types.specs.declared.fault.Fault.TheVariants.{DivisionByZero, IndexOutside, InputOutside, TooManyEvents, TooManyFrames, TooManyCells}
use Rattle.cilk_program.specs.declared.ask.Ask.{Ask}
use Rattle.cilk_program.specs.declared.ask.Ask.TheVariants as asks
use Rattle.cilk_program.specs.declared.ask.Callee.{Callee}
use Rattle.cilk_program.specs.Syntax.{Source}
use Rattle.cilk_program.specs.Behaviour.{OpenAsk, asks_for, Got, Gives, Asks, frame_gives, ended, frame_asks}
use Rattle.cilk_program.specs.Ticks.{IsWithin, TicksRunShort}
use Rattle.cilk_program.proofs.Parts.{is_out, More, Low, Further, Fewer, Short, frame_steady}

ended_more : (d : ℕ) (x y : Got ℤ) → More d x y → is_out (ended x).ask ≡ false → ended y ≡ asks_for (ended x).ask ((ended x).left + d)
ended_more d (Gives v a l) y h out = ap ended h
ended_more d (Asks k) y h out = ap ended (h out)

ended_low : (n : ℕ) (x : Got ℤ) → Low n x → (ended x).left ≤ n
ended_low n (Gives v a l) h = h
ended_low n (Asks k) h = h

ended_further : (z : ℤ) (x y : Got ℤ) → Further z x y → (ended y).left ≤ (ended x).left
ended_further z (Gives v a l) y h = subst (λ y. (ended y).left ≤ l) (sym h) (omega arith)
ended_further z (Asks k) y h = ended_low k.left y h

ended_fewer : (n : ℕ) (x : Got ℤ) → Fewer n x → is_out (ended x).ask ≡ false → (ended x).left < n
ended_fewer n (Gives v a l) h within = h
ended_fewer n (Asks k) h within = h within

ended_short : (d : ℕ) (x y : Got ℤ) → Short d x y → is_out (ended x).ask ≡ true → is_out (ended y).ask ≡ false → (ended y).left < d
ended_short d (Gives v a l) y h out within = absurd (true≢false (sym out))
ended_short d (Asks k) y h out within = ended_fewer d y (h out) within

pub not_out : (k : Ask) → IsWithin k → is_out k ≡ false
not_out asks.Begin h = refl
not_out (asks.Read x) h = refl
not_out (asks.Write x v) h = refl
not_out (asks.Create r) h = refl
not_out (asks.Update r v) h = refl
not_out (asks.Set r v) h = refl
not_out (asks.Value r) h = refl
not_out (asks.Print v) h = refl
not_out (asks.Invoke how callee) h = refl
not_out asks.Resume h = refl
not_out asks.Sync h = refl
not_out (asks.Result v) h = refl
not_out (asks.End v) h = refl
not_out (asks.Fault DivisionByZero) h = refl
not_out (asks.Fault IndexOutside) h = refl
not_out (asks.Fault InputOutside) h = refl
not_out (asks.Fault TooManyEvents) h = absurd h
not_out (asks.Fault TooManyFrames) h = refl
not_out (asks.Fault TooManyCells) h = refl

module _ (p : Source) (inputs : List ℤ) (callee : Callee) where
  pub frame_more : (d : ℕ) (history : List ℤ) (start : ℕ) → is_out (frame_asks p inputs callee history start).ask ≡ false
      → frame_asks p inputs callee history (start + d) ≡ asks_for (frame_asks p inputs callee history start).ask ((frame_asks p inputs callee history start).left + d)
  frame_more d [] start out = refl
  frame_more d (a ∷ history) start out =
      ended_more d (frame_gives p inputs callee history start) (frame_gives p inputs callee history (start + d)) ((frame_steady inputs p callee).more d history start) out

  pub frame_low : (history : List ℤ) (start : ℕ) → (frame_asks p inputs callee history start).left ≤ start
  frame_low [] start = omega arith
  frame_low (a ∷ history) start = ended_low start (frame_gives p inputs callee history start) ((frame_steady inputs p callee).low history start)

  pub frame_further : (z : ℤ) (history : List ℤ) (start : ℕ) → (frame_asks p inputs callee (history ++ z ∷ []) start).left ≤ (frame_asks p inputs callee history start).left
  frame_further z [] start = ended_low start (frame_gives p inputs callee [] start) ((frame_steady inputs p callee).low [] start)
  frame_further z (a ∷ history) start =
      ended_further z (frame_gives p inputs callee history start) (frame_gives p inputs callee (history ++ z ∷ []) start) ((frame_steady inputs p callee).further z history start)

  -- with the ticks of a whole run
  pub at_full : (full : ℕ) (history : List ℤ) (start left : ℕ) (k : Ask) → frame_asks p inputs callee history start ≡ asks_for k left → is_out k ≡ false → start ≤ full
      → (frame_asks p inputs callee history full ≡ asks_for k (left + (full - start))) × (left ≤ start)
  at_full full history start left k q out low =
      let same : start + (full - start) ≡ full = omega (arith, low) in
      let asked = frame_more (full - start) history start (subst (λ (q : OpenAsk). is_out q.ask ≡ false) (sym q) out) in (
        subst (λ n. frame_asks p inputs callee history n ≡ asks_for k (left + (full - start))) same (asked ∙ ap (λ (q : OpenAsk). asks_for q.ask (q.left + (full - start))) q),
        subst (λ (q : OpenAsk). q.left ≤ start) q (frame_low history start),
      )

  frame_short : (d : ℕ) (history : List ℤ) (start : ℕ) → is_out (frame_asks p inputs callee history start).ask ≡ true → is_out (frame_asks p inputs callee history (start + d)).ask ≡ false
      → (frame_asks p inputs callee history (start + d)).left < d
  frame_short d [] start out within = absurd (true≢false (sym out))
  frame_short d (a ∷ history) start out within =
      ended_short d (frame_gives p inputs callee history start) (frame_gives p inputs callee history (start + d)) ((frame_steady inputs p callee).short d history start) out within

  short_left : (start d left : ℕ) (history : List ℤ) (k : Ask) → is_out (frame_asks p inputs callee history start).ask ≡ true → frame_asks p inputs callee history (start + d) ≡ asks_for k left → is_out k ≡ false → left < d
  short_left start d left history k out q within =
      subst (λ (q : OpenAsk). q.left < d) q (frame_short d history start out (subst (λ (q : OpenAsk). is_out q.ask ≡ false) (sym q) within))

  -- after removing at most as many ticks as the other request has left
  same_before : (start spare left : ℕ) (history : List ℤ) (k : Ask) → frame_asks p inputs callee history (start + spare) ≡ asks_for k (left + spare) → is_out k ≡ false → frame_asks p inputs callee history start ≡ asks_for k left
  same_before start spare left history k q within =
      let now = frame_asks p inputs callee history start in
      ⊎_elim
      (λ out. absurd (let bad : left + spare < spare = short_left start spare (left + spare) history k out q within in omega (arith, bad)))
      (λ inside. let e : asks_for k (left + spare) ≡ asks_for now.ask (now.left + spare) = sym q ∙ frame_more spare history start inside in
      let same : k ≡ now.ask = ap (λ (q : OpenAsk). q.ask) e in
      let much : left + spare ≡ now.left + spare = ap (λ (q : OpenAsk). q.left) e in
      let few : left ≡ now.left = omega (arith, much) in
      λ i. asks_for (sym same i) (sym few i))
      (cases_Bool (is_out now.ask))

pub runs_short : (p : Source) (inputs : List ℤ) → TicksRunShort p inputs
runs_short p inputs = record {
  missing = λ callee history start more left k out q within. short_left p inputs callee start more left history k (ap is_out out) q (not_out k within);
  fewer = λ callee history start spare left k q within. same_before p inputs callee start spare left history k q (not_out k within);
}
