-- The answer to a frame, from the effect on the store.
use Rattle.std.proofs.Common.{◌≡◌, ℤ, pos, Result, Ok, Err, IfOk, OnOk, refl, sym, ap, ◌∙◌, subst}
use Rattle.cilk_types.specs.declared.event.Event.{Event}
use Rattle.cilk_types.specs.declared.event.Instance.{Instance}
use Rattle.cilk_program.specs.declared.ask.Ask.{Ask}
use Rattle.cilk_program.specs.Store.{Store}
use Rattle.cilk_program.specs.Syntax.{Source}
use Rattle.cilk_program.specs.SerialRun.{Frame, IsInner, Memory, answer_to, event_of, stored, with_store}
use Rattle.cilk_frames.specs.declared.small_ask.SmallAsk.{SmallAsk}
use Rattle.cilk_frames.specs.declared.cursor.Answer.{Answer}
use Rattle.cilk_frames.specs.declared.cursor.Answer.TheVariants.{Done, Value}
use Rattle.cilk_frames.specs.AskSlot.{in_full}
use Rattle.cilk_frames.specs.Following.{Fits, owed_for, word_in}
use Rattle.cilk_serial.specs.declared.answer.Told.{Told}
use Rattle.cilk_serial.specs.declared.answer.Told.TheVariants.{Goes, Turns, Ends, Stops, Full}
use Rattle.cilk_serial.specs.declared.state.Refused.{Refused}
use Rattle.cilk_serial.specs.declared.state.Refused.TheVariants as refuseds
use Rattle.cilk_serial.specs.declared.state.State.{State}
use Rattle.cilk_serial.specs.States.{EventMade, Makes, Answers, Fills, Passes, Tells}

module _ (p : Source) (fr : Frame) (s s' : State) (k : Ask) (word : Memory → ℤ) (event : Memory → Event) (store : Memory → Store Instance)
    (words : (m : Memory) → word m ≡ answer_to fr m k) (events : (m : Memory) → event m ≡ event_of fr m k) (stores : (m : Memory) → store m ≡ stored p fr m k) where
  makes_so : (told : ℤ) → Makes s s' word told event store → Makes s s' (λ m. answer_to fr m k) told (λ m. event_of fr m k) (λ m. stored p fr m k)
  makes_so told makes m h =
      let d = makes m h in
      (d.0 ∙ words m, subst (λ (x : Store Instance). EventMade s s' (event_of fr m k) (with_store m x)) (stores m) (subst (λ (e : Event). EventMade s s' e (with_store m (store m))) (events m) d.1))

  -- an answer without a word
  pub tells_nothing : {E : Type 0} (r : Result Answer E) → Fits (owed_for k) Done → IfOk r (λ a. a ≡ Done) → OnOk r (Makes s s' word (pos 0) event store) → IfOk r (λ a. Answers p fr s s' k a)
  tells_nothing (Ok a) fits done makes = record {
    fits = subst (λ (a : Answer). Fits (owed_for k) a) (sym done) fits;
    makes = makes_so (word_in a) (subst (λ v. Makes s s' word v event store) (sym (ap word_in done)) makes);
  }
  tells_nothing (Err e) fits done makes = tt

  -- an answer with a word
  pub tells_word : {E : Type 0} (r : Result Answer E) → ((v : ℤ) → Fits (owed_for k) (Value v)) → IfOk r (λ a. a ≡ Value (word_in a)) → IfOk r (λ a. Makes s s' word (word_in a) event store) → IfOk r (λ a. Answers p fr s s' k a)
  tells_word (Ok a) fits value makes = record {
    fits = subst (λ (a : Answer). Fits (owed_for k) a) (sym value) (fits (word_in a));
    makes = makes_so (word_in a) makes;
  }
  tells_word (Err e) fits value makes = tt

-- the frame continues with the answer of its store
pub told : {E : Type 0} (p : Source) (fr : Frame) (s s' : State) (b : SmallAsk) (k : Ask) (r : Result Answer Refused) (r' : Result Told E) → k ≡ in_full b → IsInner k → Passes r r' → Fills r s.events.items s s' → IfOk r (λ a. Answers p fr s s' k a)
    → IfOk r' (λ t. Tells p fr s s' (in_full b) t)
told {E} p fr s s' b k (Ok a) r' same inner is room h = subst (λ (k : Ask). IfOk r' (λ t. Tells p fr s s' k t)) same (subst (λ (x : Result Told E). IfOk x (λ t. Tells p fr s s' k t)) (sym is) (inner, room, h))
told {E} p fr s s' b k (Err refuseds.Full) r' same inner is room h = subst (λ (k : Ask). IfOk r' (λ t. Tells p fr s s' k t)) same (subst (λ (x : Result Told E). IfOk x (λ t. Tells p fr s s' k t)) (sym is) (room.0, inner, room.1))
told {E} p fr s s' b k (Err refuseds.Memory) (Ok t) same inner is room h = cc
told {E} p fr s s' b k (Err refuseds.Memory) (Err e) same inner is room h = tt

-- a request after which the frame doesn't continue at once changes nothing
pub unchanged : (p : Source) (fr : Frame) (s s' : State) (k : Ask) (t : Told) → ((a : Answer) → t ≡ Goes a → ⊥) → Tells p fr s s' k t → s' ≡ s
unchanged p fr s s' k (Goes a) other h = absurd (other a refl)
unchanged p fr s s' k (Turns how part) other h = h.0
unchanged p fr s s' k (Ends v) other h = h.0
unchanged p fr s s' k (Stops f) other h = h.0
unchanged p fr s s' k Full other h = h.0
