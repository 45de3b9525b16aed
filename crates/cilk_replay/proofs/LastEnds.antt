-- The last deed of a run that finishes is its first frame's end: `ends_last`. So its last end gives
-- the result of its outcome: `serial_result`.
use Rattle.std.proofs.Common.{◌≡◌, ℕ, suc, ℤ, List, [], ◌∷◌, ◌++◌, reverse, sym, refl, ap, ◌∙◌, subst}
use Rattle.std.proofs.lemmas.List.{reverse-append}
use Rattle.cilk_types.specs.declared.event.Event as numbers
use Rattle.cilk_types.specs.declared.outcome.Outcome.{Outcome}
use Rattle.cilk_program.specs.Outcomes.{Leaves, outcome_of}
use Rattle.cilk_program.specs.SerialRun.{Transcript, Memory, Frame, Ending, Finished, Stopped, Serial, Made, Ended, Went, Broke, Refused, answer_to, conclusion_of, global_reducer, IsSerialRun}
use Rattle.cilk_program.specs.SerialRun as serial
use Rattle.cilk_program.specs.Syntax.{Source}
use Rattle.cilk_determinacy.specs.Runs.{Instance, Ends, Deed, Does, Invokes}
use Rattle.cilk_determinacy.specs.Traces.{trace}
use Rattle.cilk_determinacy.specs.Steps.{result_in}
use Rattle.cilk_determinacy.specs.FrameEnvs.{FrameEnv, first_env, child_env}
use Rattle.cilk_determinacy.specs.Nested.{named, named_event, named_from}

-- the last deed is an end with this value
abbrev pub IsLast : List (Deed FrameEnv) → ℤ → Type 0
IsLast ds v = (front : List (Deed FrameEnv)) × (gone : List Instance) × (ds ≡ front ++ Does (Ends v gone) ∷ [])

-- the property holds of each value with which a frame ends
abbrev pub AtEnd : Ending → (ℤ → Type 0) → Type 0
AtEnd (Finished v left m) P = P v
AtEnd (Stopped f) P = Unit {0}

at_end : (end : Ending) (P Q : ℤ → Type 0) → ((v : ℤ) → P v → Q v) → AtEnd end P → AtEnd end Q
at_end (Finished v left m) P Q f h = f v h
at_end (Stopped f') P Q f h = tt

one_more : (d : Deed FrameEnv) (ds : List (Deed FrameEnv)) (v : ℤ) → IsLast ds v → IsLast (d ∷ ds) v
one_more d ds v (front, gone, is) = (d ∷ front, gone, ap (λ (l : List (Deed FrameEnv)). d ∷ l) is)

many_more : (xs ds : List (Deed FrameEnv)) (v : ℤ) → IsLast ds v → IsLast (xs ++ ds) v
many_more [] ds v h = h
many_more (x ∷ xs) ds v h = one_more x (xs ++ ds) v (many_more xs ds v h)

module _ (p : Source) (inputs : List ℤ) where
  pub ends_last : {fr : Frame} {start : ℕ} {history : List ℤ} {m : Memory} {r : Transcript} {es : List numbers.Event} {end : Ending} → Serial p inputs fr start history m r es end
      → (w : FrameEnv) (k : ℕ) → AtEnd end (IsLast (trace (named_from p w k r)))
  ends_last (Made {fr = fr} {m = m} {r = r} {end = end} a left q inner ok rest) w k =
      at_end end (IsLast (trace (named_from p w k r))) (IsLast (trace (named_from p w k (serial.act a (answer_to fr m a) r))))
      (λ v h. one_more (Does (named_event p w a (answer_to fr m a))) (trace (named_from p w k r)) v h) (ends_last rest w k)
  ends_last (Ended v left q ok) w k = ([], _, refl)
  ends_last (Went {u = u} {r = r} {end = end} how callee left v left' m' q ok inner rest) w k =
      at_end end (IsLast (trace (named_from p w (suc k) r))) (IsLast (trace (named_from p w k (serial.child how callee u r))))
      (λ v h. one_more (Invokes how (child_env p w k callee)) (trace (named_from p (child_env p w k callee) 1 u) ++ trace (named_from p w (suc k) r)) v
      (many_more (trace (named_from p (child_env p w k callee) 1 u)) (trace (named_from p w (suc k) r)) v h)) (ends_last rest w (suc k))
  ends_last (Broke how callee left f q ok inner) w k = tt
  ends_last (Refused a left f q is) w k = tt

  result_last : (r : Transcript) (es : List numbers.Event) (outcome : Outcome) → IsSerialRun p inputs r es (Leaves outcome) → IsLast (trace (named p r)) outcome.result
  result_last r es outcome (end, d, e) = by end (ends_last d (first_env p) 1) e
    where
      by : (end : Ending) → AtEnd end (IsLast (trace (named p r))) → Leaves outcome ≡ conclusion_of p inputs end → IsLast (trace (named p r)) outcome.result
      by (Finished v left m) h e =
          let z : outcome ≡ outcome_of global_reducer p v m.store = cc e in
          subst (IsLast (trace (named p r))) (sym (ap (λ (o : Outcome). o.result) z)) h
      by (Stopped f) h e = absurd (cc e)

-- the result in such deeds
pub result_of : (ds : List (Deed FrameEnv)) (v : ℤ) → IsLast ds v → result_in (reverse ds) ≡ v
result_of ds v (front, gone, is) = ap (λ (l : List (Deed FrameEnv)). result_in (reverse l)) is ∙ ap result_in (reverse-append front (Does (Ends v gone) ∷ []))

-- the outcome of a serial run has the result of its last end
pub serial_result : (p : Source) (inputs : List ℤ) (r : Transcript) (es : List numbers.Event) (o : Outcome) → IsSerialRun p inputs r es (Leaves o) → result_in (reverse (trace (named p r))) ≡ o.result
serial_result p inputs r es o runs = result_of (trace (named p r)) o.result (result_last p inputs r es o runs)
