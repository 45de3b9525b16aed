-- An event after which its frame continues with an answer.
--
-- - `settles`: the scheduler is sound after it;
-- - `ticks`: no ticks are used or counted.
use Rattle.std.proofs.Common.{◌≡◌, ◌+◌, ◌<◌, ℕ, List, length, None, Result, Ok, Err, OnOk, refl, sym, subst, arith}
use Rattle.cilk_program.specs.declared.ask.Ask.{Ask}
use Rattle.cilk_program.specs.declared.ask.Ask.TheVariants as asks
use Rattle.cilk_frames.specs.Following.{Fits, HasAnswer, owed_for}
use Rattle.cilk_frames.specs.declared.cursor.Answer.{Answer}
use Rattle.cilk_frames.specs.declared.activation.Activation.{Activation}
use Rattle.cilk_scheduler.specs.FrameStates.{answered, changed}
use Rattle.cilk_scheduler.specs.declared.frame_state.Due.TheVariants as due
use Rattle.cilk_scheduler.specs.declared.frame_state.FrameState.{FrameState}
use Rattle.cilk_schedule.specs.Sound.{SameTicks, Settles, Sound}
use Rattle.cilk_schedule.proofs.Sounds.{IsStep, same_ticks, settled}

step : (a : Answer) → IsStep 1 (answered a) (due.Answer a)
step a = record {
  parent = λ x. refl;
  last = λ x. refl;
  children = λ x. refl;
  strands = λ x. omega arith;
  took = λ x. refl;
  counted = λ x. refl;
  due = λ x. refl;
  cursor = λ x. refl;
}

pub settles : (a : Answer) (frames frames' : List (Activation FrameState)) (cells cells' k : ℕ) (ask : Ask) → HasAnswer ask → Fits (owed_for ask) a → k < length frames → frames' ≡ changed (answered a) frames k → cells' ≡ cells
    → Settles frames frames' cells cells' k ask
settles a frames frames' cells cells' k ask has fits there is same = λ code p inputs events many s.
    subst (λ n. Sound code p inputs frames' n (events + 1) None asks.Begin) (sym same)
    (subst (λ l. Sound code p inputs l cells (events + 1) None asks.Begin) (sym is)
    (settled 1 (answered a) (due.Answer a) (step a) code p inputs frames cells events k ask has fits there many s))

pub ticks : (a : Answer) (frames frames' : List (Activation FrameState)) (k : ℕ) → frames' ≡ changed (answered a) frames k → SameTicks frames frames'
ticks a frames frames' k is = subst (λ l. SameTicks frames l) (sym is) (same_ticks (answered a) (λ x. (refl, refl)) frames k)

pub on_ok : {A E : Type 0} {P Q : Type 0} (r : Result A E) → OnOk r P → (P → Q) → OnOk r Q
on_ok (Ok x) h f = f h
on_ok (Err e) h f = tt

pub always : {A E : Type 0} {P : Type 0} (r : Result A E) → P → OnOk r P
always (Ok x) h = h
always (Err e) h = tt

pub both : {A E : Type 0} (P Q : Type 0) (r : Result A E) → OnOk r P → OnOk r Q → OnOk r (P × Q)
both P Q (Ok x) h g = (h, g)
both P Q (Err e) h g = tt
