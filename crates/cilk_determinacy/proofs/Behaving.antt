-- The serial run by names: each frame makes the asks of its behaviour, and the ticks of all frames
-- add up.
use Rattle.std.proofs.Common.{◌≡◌, ◌⊎◌, inl, inr, ℕ, suc, ◌+◌, ◌-◌, ◌≤◌, ℤ, pos, false, cond, List, [], ◌∷◌, ◌++◌, Some, None, refl, sym, ap, ap₂, ◌∙◌, subst, arith}
use Rattle.cilk_types.specs.declared.limits.TheConstants.{MAX_TICKS}
use Rattle.cilk_types.specs.declared.event.Event.{Event}
use Rattle.cilk_program.specs.declared.ask.Ask as language
use Rattle.cilk_program.specs.declared.ask.Ask.TheVariants as asks
use Rattle.cilk_program.specs.declared.ask.Callee.{Callee}
use Rattle.cilk_program.specs.Syntax.{Source}
use Rattle.cilk_program.specs.Behaviour.{OpenAsk, asks_for, frame_asks}
use Rattle.cilk_program.specs.SerialRun as serial
use Rattle.cilk_program.specs.SerialRun.{Memory, Frame, answer_to, IsInner, Ending, Finished, Serial, Made, Ended, Went}
use Rattle.cilk_determinacy.specs.Runs.{Ask, Invoke, Event as Happens, Ends, Deed, Does, Invokes, Run, stop, act, child, ask_of}
use Rattle.cilk_determinacy.specs.Machine.{started}
use Rattle.cilk_determinacy.specs.Costs.{TickTotal, weight}
use Rattle.cilk_determinacy.specs.Serial.{Behaves}
use Rattle.cilk_determinacy.specs.MachineTheorem.{follows}
use Rattle.cilk_determinacy.proofs.Started.{started_does, started_invokes}
use Rattle.cilk_determinacy.specs.FrameEnvs.{FrameEnv, child_env}
use Rattle.cilk_determinacy.specs.FrameEnvMachine.{retired_by, named_ask, answer_of, answers_of, is_end, has_ended, but_last, asked_after, next, taken, costs}
use Rattle.cilk_determinacy.proofs.Histories.{but_last_more, answers_more, ended_more}
use Rattle.cilk_determinacy.specs.Nested.{named_event, named_from}
use Rattle.cilk_program.proofs.Parts.{is_out}
use Rattle.cilk_program.proofs.Ticking.{at_full, frame_further}

-- ---- lists of deeds

-- a history is empty or has a last deed
last_of : (past : List (Deed FrameEnv)) → (past ≡ []) ⊎ ((d : Deed FrameEnv) × (past ≡ but_last past ++ d ∷ []))
last_of [] = inl refl
last_of (d ∷ []) = inr (d, refl)
last_of (d ∷ e ∷ past) = longer (last_of (e ∷ past))
  where
    longer : ((e ∷ past) ≡ []) ⊎ ((c : Deed FrameEnv) × ((e ∷ past) ≡ but_last (e ∷ past) ++ c ∷ [])) → ((d ∷ e ∷ past) ≡ []) ⊎ ((c : Deed FrameEnv) × ((d ∷ e ∷ past) ≡ but_last (d ∷ e ∷ past) ++ c ∷ []))
    longer (inl h) = absurd (no_nil h)
      where
        no_nil : ¬ ((e ∷ past) ≡ [])
        no_nil h = grind arith
    longer (inr (c, h)) = inr (c, ap (λ l. d ∷ l) h)

-- ---- events

pub inner_asks : (p : Source) (w : FrameEnv) (k : ℕ) (a : language.Ask) (v : ℤ) → IsInner a → ask_of (named_event p w a v) ≡ named_ask p w k a
inner_asks p w k asks.Begin v i = refl
inner_asks p w k (asks.Read x) v i = refl
inner_asks p w k (asks.Write x y) v i = refl
inner_asks p w k (asks.Create r) v i = refl
inner_asks p w k (asks.Update r y) v i = refl
inner_asks p w k (asks.Set r y) v i = refl
inner_asks p w k (asks.Value r) v i = refl
inner_asks p w k (asks.Print y) v i = refl
inner_asks p w k (asks.Invoke how callee) v i = absurd i
inner_asks p w k asks.Resume v i = refl
inner_asks p w k asks.Sync v i = refl
inner_asks p w k (asks.Result y) v i = refl
inner_asks p w k (asks.End y) v i = absurd i
inner_asks p w k (asks.Fault f) v i = absurd i

pub inner_answers : (p : Source) (w : FrameEnv) (fr : Frame) (m : Memory) (a : language.Ask) → answer_of (Does (named_event p w a (answer_to fr m a))) ≡ answer_to fr m a
inner_answers p w fr m asks.Begin = refl
inner_answers p w fr m (asks.Read x) = refl
inner_answers p w fr m (asks.Write x y) = refl
inner_answers p w fr m (asks.Create r) = refl
inner_answers p w fr m (asks.Update r y) = refl
inner_answers p w fr m (asks.Set r y) = refl
inner_answers p w fr m (asks.Value r) = refl
inner_answers p w fr m (asks.Print y) = refl
inner_answers p w fr m (asks.Invoke how callee) = refl
inner_answers p w fr m asks.Resume = refl
inner_answers p w fr m asks.Sync = refl
inner_answers p w fr m (asks.Result y) = refl
inner_answers p w fr m (asks.End y) = refl
inner_answers p w fr m (asks.Fault f) = refl

inner_ends : (p : Source) (w : FrameEnv) (a : language.Ask) (v : ℤ) → IsInner a → is_end (Does (named_event p w a v)) ≡ false
inner_ends p w asks.Begin v i = refl
inner_ends p w (asks.Read x) v i = refl
inner_ends p w (asks.Write x y) v i = refl
inner_ends p w (asks.Create r) v i = refl
inner_ends p w (asks.Update r y) v i = refl
inner_ends p w (asks.Set r y) v i = refl
inner_ends p w (asks.Value r) v i = refl
inner_ends p w (asks.Print y) v i = refl
inner_ends p w (asks.Invoke how callee) v i = absurd i
inner_ends p w asks.Resume v i = refl
inner_ends p w asks.Sync v i = refl
inner_ends p w (asks.Result y) v i = refl
inner_ends p w (asks.End y) v i = absurd i
inner_ends p w (asks.Fault f) v i = absurd i

pub inner_goes : (a : language.Ask) → IsInner a → is_out a ≡ false
inner_goes asks.Begin i = refl
inner_goes (asks.Read x) i = refl
inner_goes (asks.Write x y) i = refl
inner_goes (asks.Create r) i = refl
inner_goes (asks.Update r y) i = refl
inner_goes (asks.Set r y) i = refl
inner_goes (asks.Value r) i = refl
inner_goes (asks.Print y) i = refl
inner_goes (asks.Invoke how callee) i = refl
inner_goes asks.Resume i = refl
inner_goes asks.Sync i = refl
inner_goes (asks.Result y) i = refl
inner_goes (asks.End y) i = refl
inner_goes (asks.Fault f) i = absurd i

-- ---- runs

module _ (p : Source) (inputs : List ℤ) where
  -- the point of a frame by names at this history of answers
  pub record At (w : FrameEnv) (fr : Frame) (past : List (Deed FrameEnv)) (history : List ℤ) (k : ℕ) : Type 0 where
    pub callee : w.callee ≡ fr.callee
    pub answers : answers_of past ≡ history
    pub going : has_ended past ≡ false
    pub ordinal : suc (started past) ≡ k

  -- the ask there, and the ticks used by then
  record Asking (w : FrameEnv) (past : List (Deed FrameEnv)) (k : ℕ) (a : language.Ask) (start left : ℕ) : Type 0 where
    asks : next p inputs w past ≡ Some (named_ask p w k a)
    took : taken p inputs w past ≡ start - left
    low : left ≤ start
    before : taken p inputs w (but_last past) ≤ taken p inputs w past

  before_taken : (w : FrameEnv) (past : List (Deed FrameEnv)) → taken p inputs w (but_last past) ≤ taken p inputs w past
  before_taken w past = by (last_of past)
    where
      by : (past ≡ []) ⊎ ((d : Deed FrameEnv) × (past ≡ but_last past ++ d ∷ [])) → taken p inputs w (but_last past) ≤ taken p inputs w past
      by (inl h) = subst (λ past. taken p inputs w (but_last past) ≤ taken p inputs w past) (sym h) (omega arith)
      by (inr (d, h)) =
          let less = frame_further p inputs w.callee (answer_of d) (answers_of (but_last past)) MAX_TICKS in
          let more = subst (λ hs. (frame_asks p inputs w.callee hs MAX_TICKS).left ≤ (asked_after p inputs w (but_last past)).left) (sym (answers_more (but_last past) d)) less in
          subst (λ other. taken p inputs w (but_last past) ≤ taken p inputs w other) (sym h) (omega (arith, more))

  asking : (w : FrameEnv) (fr : Frame) (past : List (Deed FrameEnv)) (history : List ℤ) (k : ℕ) (a : language.Ask) (start left : ℕ) → At w fr past history k → frame_asks p inputs fr.callee history start ≡ asks_for a left → is_out a ≡ false → start ≤ MAX_TICKS
      → Asking w past k a start left
  asking w fr past history k a start left at q out low =
      let full = at_full p inputs fr.callee MAX_TICKS history start left a q out low in
      let asked : asked_after p inputs w past ≡ asks_for a (left + (MAX_TICKS - start)) =
      ap (λ callee. frame_asks p inputs callee (answers_of past) MAX_TICKS) at.callee ∙ ap (λ hs. frame_asks p inputs fr.callee hs MAX_TICKS) at.answers ∙ full.0 in
      let left_is : (asked_after p inputs w past).left ≡ left + (MAX_TICKS - start) = ap (λ (q : OpenAsk). q.left) asked in
      let left_low = full.1 in
      record {
        asks = ap (λ t. cond t None (Some (named_ask p w (suc (started past)) (asked_after p inputs w past).ask))) at.going ∙ ap (λ k. Some (named_ask p w k (asked_after p inputs w past).ask)) at.ordinal ∙ ap (λ (q : OpenAsk). Some (named_ask p w k q.ask)) asked;
        took = omega (arith, left_is, left_low, low);
        low = left_low;
        before = before_taken w past;
      }

  at_act : (w : FrameEnv) (fr : Frame) (past : List (Deed FrameEnv)) (history : List ℤ) (k : ℕ) (m : Memory) (a : language.Ask) → IsInner a → At w fr past history k
      → At w fr (past ++ Does (named_event p w a (answer_to fr m a)) ∷ []) (history ++ answer_to fr m a ∷ []) k
  at_act w fr past history k m a inner at =
      let e = named_event p w a (answer_to fr m a) in
      record {
        callee = at.callee;
        answers = answers_more past (Does e) ∙ ap₂ (λ hs v. hs ++ v ∷ []) at.answers (inner_answers p w fr m a);
        going = ended_more past (Does e) at.going ∙ inner_ends p w a (answer_to fr m a) inner;
        ordinal = ap suc (started_does past e) ∙ at.ordinal;
      }

  at_child : (w : FrameEnv) (fr : Frame) (past : List (Deed FrameEnv)) (history : List ℤ) (k : ℕ) (kind : _) (v : FrameEnv) → At w fr past history k → At w fr (past ++ Invokes kind v ∷ []) (history ++ pos 0 ∷ []) (suc k)
  at_child w fr past history k kind v at = record {
    callee = at.callee;
    answers = answers_more past (Invokes kind v) ∙ ap (λ hs. hs ++ pos 0 ∷ []) at.answers;
    going = ended_more past (Invokes kind v) at.going;
    ordinal = ap suc (started_invokes past kind v ∙ at.ordinal);
  }

  -- the claim for a run, with the ticks left after it
  abbrev pub Holds : Ending → FrameEnv → List (Deed FrameEnv) → Run FrameEnv → ℕ → Type 0
  Holds (Finished v left m) w past t start =
      Behaves FrameEnv (follows (next p inputs)) w past t × (weight (costs p inputs) TickTotal w past t + left + taken p inputs w (but_last past) ≡ start)
  Holds (serial.Stopped f) w past t start = Unit {0}

  act_holds : (end : Ending) (w : FrameEnv) (past : List (Deed FrameEnv)) (k : ℕ) (a : language.Ask) (e : Happens) (t : Run FrameEnv) (start left : ℕ) → ask_of e ≡ named_ask p w k a → Asking w past k a start left
      → Holds end w (past ++ Does e ∷ []) t start → Holds end w past (act e t) start
  act_holds (Finished v left' m) w past k a e t start left same asked (behaves, adds) =
      let last : taken p inputs w (but_last (past ++ Does e ∷ [])) ≡ taken p inputs w past = ap (taken p inputs w) (but_last_more past (Does e)) in
      let before = asked.before in (
        (subst (λ x. next p inputs w past ≡ Some x) (sym same) asked.asks, behaves),
        omega (arith, last, adds, before),
      )
  act_holds (serial.Stopped f) w past k a e t start left same asked h = tt

  child_holds : (end : Ending) (w v : FrameEnv) (past : List (Deed FrameEnv)) (k : ℕ) (how : _) (callee : Callee) (u t : Run FrameEnv) (start left left' : ℕ) (x : ℤ) (m' : Memory) → v ≡ child_env p w k callee → Asking w past k (asks.Invoke how callee) start left → left' ≤ left
      → Holds (Finished x left' m') v [] u left → Holds end w (past ++ Invokes how v ∷ []) t (left' + (start - left)) → Holds end w past (child how v u t) start
  child_holds (Finished y left'' m) w v past k how callee u t start left left' x m' same asked less (behaves, adds) (goes_on, adds') =
      let last : taken p inputs w (but_last (past ++ Invokes how v ∷ [])) ≡ taken p inputs w past = ap (taken p inputs w) (but_last_more past (Invokes how v)) in
      let before = asked.before in
      let took = asked.took in
      let low = asked.low in
      let nothing : taken p inputs v (but_last []) ≡ 0 = omega arith in (
        (subst (λ v. next p inputs w past ≡ Some (Invoke how v)) (sym same) asked.asks, behaves, goes_on),
        omega (arith, last, adds, adds', before, took, low, less, nothing),
      )
  child_holds (serial.Stopped f) w v past k how callee u t start left left' x m' same asked less inner rest = tt

  end_asks_nothing : (w : FrameEnv) (past : List (Deed FrameEnv)) (v : ℤ) → has_ended past ≡ false → (a : Ask FrameEnv) → next p inputs w (past ++ Does (Ends v (retired_by p w)) ∷ []) ≡ Some a → ⊥
  end_asks_nothing w past v going a h =
      let nothing : None ≡ Some a = sym (ap (λ t. cond t None (Some (named_ask p w (suc (started (past ++ Does (Ends v (retired_by p w)) ∷ []))) (asked_after p inputs w (past ++ Does (Ends v (retired_by p w)) ∷ [])).ask))) (ended_more past (Does (Ends v (retired_by p w))) going)) ∙ h in
      grind arith

  end_holds : (w : FrameEnv) (fr : Frame) (past : List (Deed FrameEnv)) (history : List ℤ) (k : ℕ) (v : ℤ) (start left : ℕ) (m : Memory) → At w fr past history k → Asking w past k (asks.End v) start left
      → Holds (Finished v left m) w past (act (Ends v (retired_by p w)) stop) start
  end_holds w fr past history k v start left m at asked =
      let before = asked.before in
      let took = asked.took in
      let low = asked.low in ((asked.asks, end_asks_nothing w past v at.going), omega (arith, before, took, low))

  holds_lower : (v : ℤ) (left : ℕ) (m : Memory) (w : FrameEnv) (past : List (Deed FrameEnv)) (t : Run FrameEnv) (start : ℕ) → Holds (Finished v left m) w past t start → left ≤ start
  holds_lower v left m w past t start (behaves, adds) = omega (arith, adds)

  pub run_holds : {fr : Frame} {start : ℕ} {history : List ℤ} {m : Memory} {r : serial.Transcript} {es : List Event} {end : Ending} → Serial p inputs fr start history m r es end
      → (w : FrameEnv) (past : List (Deed FrameEnv)) (k : ℕ) → At w fr past history k → start ≤ MAX_TICKS → Holds end w past (named_from p w k r) start
  run_holds (Made {fr = fr} {start = start} {history = history} {m = m} {r = r} {end = end} a left q inner ok rest) w past k at low =
      act_holds end w past k a (named_event p w a (answer_to fr m a)) (named_from p w k r) start left (inner_asks p w k a (answer_to fr m a) inner) (asking w fr past history k a start left at q (inner_goes a inner) low)
      (run_holds rest w (past ++ Does (named_event p w a (answer_to fr m a)) ∷ []) k (at_act w fr past history k m a inner at) low)
  run_holds (Ended {fr = fr} {start = start} {history = history} {m = m} v left q ok) w past k at low =
      end_holds w fr past history k v start left m at (asking w fr past history k (asks.End v) start left at q refl low)
  run_holds (Went {fr = fr} {start = start} {history = history} {m = m} {u = u} {r = r} {end = end} how callee left v left' m' q ok inner rest) w past k at low =
      let asked = asking w fr past history k (asks.Invoke how callee) start left at q refl low in
      let less = asked.low in
      let c = child_env p w k callee in
      let one = run_holds inner c [] 1 (record { callee = refl; answers = refl; going = refl; ordinal = refl }) (omega (arith, less, low)) in
      let left_less = holds_lower v left' m' c [] (named_from p c 1 u) left one in
      child_holds end w c past k how callee (named_from p c 1 u) (named_from p w (suc k) r) start left left' v m' refl asked left_less one
      (run_holds rest w (past ++ Invokes how c ∷ []) (suc k) (at_child w fr past history k how c at) (omega (arith, less, low, left_less)))
  run_holds (serial.Broke how callee left f q ok inner) w past k at low = tt
  run_holds (serial.Refused k' left f q bad) w past k at low = tt
