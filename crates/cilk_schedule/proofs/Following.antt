-- To do the tasks of a script is to do others.
--
-- - `follows_on`, `ahead`, `all_ahead`: one after the other; with further tasks after them;
-- - `handed`, `on_ok`, `if_err`: an error that is passed on, and what follows for a result;
-- - `fault_of`, `fails_later`, `all_fail_ahead`: an error of other ends, of the tasks that are
--   left, and of the first tasks;
-- - `chosen`, `refused`: a choice is made, or stops the run;
-- - `turned`, `turn_fails`, `turns_more`: a turn is its choice;
-- - `round_begins`, `rounds_ended`, `rounds_enough`: rounds;
-- - `led`, `led_to_fault`: all of a script.
use Rattle.std.proofs.Common.{◌≡◌, ℕ, zero, suc, ◌+◌, arith, ℤ, List, [], ◌∷◌, ◌++◌, Some, sym, ap, subst, ◌∙◌, append_assoc}
use Rattle.std.specs.Prelude.{IfErr, IsErrAnd, OnOk, Result, Ok, Err}
use Rattle.std.proofs.lemmas.List.{append-nil}
use Rattle.cilk_program.specs.Syntax.{Source}
use Rattle.cilk_determinacy.specs.Machine.{State, Stop}
use Rattle.cilk_determinacy.specs.Reducers.{View}
use Rattle.cilk_determinacy.specs.FrameEnvs.{FrameEnv}
use Rattle.cilk_scheduler.specs.WorkerTables.{Chooses, Comes, WorkerTable, IsOver, StopsAt}
use Rattle.cilk_scheduler.specs.declared.choice.Choice.{Choice}
use Rattle.cilk_schedule.specs.Playing.{Chosen, Choose, Done, End, Ended, Enough, Finished, Follows, IsFault, Passed, Plays, Round, Rounds, Stopped, Stops, Task, Turn, Turns, turn_of, turns}
use Rattle.cilk_schedule.specs.declared.fault.PlayFault.{PlayFault}
use Rattle.cilk_schedule.specs.declared.fault.PlayFault.TheVariants as faults

-- an error that was passed on
pub handed : {T F : Type 0} (x : Result T F) (f : F) (P : F → Type 0) → IsErrAnd x (λ e. e ≡ f) → P f → IfErr x P
handed (Ok v) f P h p = absurd h
handed (Err e) f P h p = subst P (sym h) p

pub on_ok : {T F : Type 0} (x : Result T F) (P Q : Type 0) → (P → Q) → OnOk x P → OnOk x Q
on_ok (Ok v) P Q h p = h p
on_ok (Err e) P Q h p = tt

pub if_err : {T F : Type 0} (x : Result T F) (P Q : F → Type 0) → ((f : F) → P f → Q f) → IfErr x P → IfErr x Q
if_err (Ok v) P Q h p = tt
if_err (Err e) P Q h p = h e p

-- an error of these ends is one of other ends, if these are among them
pub fault_of : (P Q : End → Type 0) (f : PlayFault) → ((e : End) → P e → Q e) → IsFault P f → IsFault Q f
fault_of P Q (faults.Line line) h k = h (Passed line) k
fault_of P Q (faults.Stop fault name) h k = (k.0, h (Stopped k.0) k.1, k.2, k.3)
fault_of P Q faults.Memory h k = tt

pub turns_more : (worker n k : ℕ) → n ≡ suc k → turns worker n ≡ Turn worker ∷ turns (worker + 1) k
turns_more worker n k e =
    let next : worker + 1 ≡ suc worker = omega arith in
    ap (turns worker) e ∙ ap (λ v. Turn worker ∷ turns v k) (sym next)

module _ (p : Source) (inputs : List ℤ) (workers : ℕ) where
  -- tasks with any others after them end with this error
  abbrev pub Fails : List Task → State FrameEnv View → WorkerTable → PlayFault → Type 0
  Fails tasks s d f = (rest : List Task) → IsFault (λ e. Plays p inputs workers (tasks ++ rest) s d e) f

  pub follows_on : (tasks left more : List Task) (s t u : State FrameEnv View) (d d' d'' : WorkerTable) → Follows p inputs workers tasks s d left t d' → Follows p inputs workers left t d' more u d'' → Follows p inputs workers tasks s d more u d''
  follows_on tasks left more s t u d d' d'' h k = λ rest e q. h rest e (k rest e q)

  pub fails_later : (tasks left : List Task) (s t : State FrameEnv View) (d d' : WorkerTable) (f : PlayFault) → Follows p inputs workers tasks s d left t d' → Fails left t d' f → Fails tasks s d f
  fails_later tasks left s t d d' f h k = λ rest. fault_of (λ e. Plays p inputs workers (left ++ rest) t d' e) (λ e. Plays p inputs workers (tasks ++ rest) s d e) f (λ e q. h rest e q) (k rest)

  -- tasks are done, and others are left
  pub all_ahead : (tasks behind : List Task) (s t : State FrameEnv View) (d d' : WorkerTable) → Follows p inputs workers tasks s d [] t d' → Follows p inputs workers (tasks ++ behind) s d behind t d'
  all_ahead tasks behind s t d d' h = λ rest e q. subst (λ ts. Plays p inputs workers ts s d e) (sym (append_assoc tasks behind rest)) (h (behind ++ rest) e q)

  -- they fail, whatever comes after them
  pub all_fail_ahead : (tasks behind : List Task) (s : State FrameEnv View) (d : WorkerTable) (f : PlayFault) → Fails tasks s d f → Fails (tasks ++ behind) s d f
  all_fail_ahead tasks behind s d f h = λ rest. subst (λ ts. IsFault (λ e. Plays p inputs workers ts s d e) f) (sym (append_assoc tasks behind rest)) (h (behind ++ rest))

  pub chosen : (choice : Choice) (told : Comes) (s s' : State FrameEnv View) (d d' : WorkerTable) → Chooses p inputs s d choice told s' d' → Follows p inputs workers (Choose choice ∷ []) s d [] s' d'
  chosen choice told s s' d d' h = λ rest e q. Chosen choice told rest s s' d d' e h q

  -- a stop that is reported
  pub refused : (choice : Choice) (stop : Stop) (s s' : State FrameEnv View) (d : WorkerTable) → StopsAt p inputs s d choice s' → s'.stopped ≡ Some stop → (rest : List Task) → Plays p inputs workers ((Choose choice ∷ []) ++ rest) s d (Stopped stop)
  refused choice stop s s' d h is = λ rest. Stops choice stop rest s s' d h is

  pub turned : (worker : ℕ) (choice : Choice) (s t : State FrameEnv View) (d d' : WorkerTable) → choice ≡ turn_of d worker → Follows p inputs workers (Choose choice ∷ []) s d [] t d' → Follows p inputs workers (Turn worker ∷ []) s d [] t d'
  turned worker choice s t d d' e h = λ rest end q. Turns worker rest s d end (subst (λ x. Plays p inputs workers (Choose x ∷ rest) s d end) e (h rest end q))

  pub turn_fails : (worker : ℕ) (choice : Choice) (s : State FrameEnv View) (d : WorkerTable) (f : PlayFault) → choice ≡ turn_of d worker → Fails (Choose choice ∷ []) s d f → Fails (Turn worker ∷ []) s d f
  turn_fails worker choice s d f e h = λ rest.
      fault_of (λ end. Plays p inputs workers (Choose choice ∷ rest) s d end) (λ end. Plays p inputs workers (Turn worker ∷ rest) s d end) f
      (λ end q. Turns worker rest s d end (subst (λ x. Plays p inputs workers (Choose x ∷ rest) s d end) e q)) (h rest)

  pub rounds_ended : (count : ℕ) (s : State FrameEnv View) (d : WorkerTable) → IsOver s → Follows p inputs workers (Rounds count ∷ []) s d [] s d
  rounds_ended count s d h = λ rest e q. Ended count rest s d e h q

  pub rounds_enough : (s : State FrameEnv View) (d : WorkerTable) → Follows p inputs workers (Rounds zero ∷ []) s d [] s d
  rounds_enough s d = λ rest e q. Enough rest s d e q

  pub round_begins : (count : ℕ) (s : State FrameEnv View) (d : WorkerTable) → ¬ (IsOver s) → Follows p inputs workers (Rounds (suc count) ∷ []) s d (turns 1 workers ++ (Rounds count ∷ [])) s d
  round_begins count s d h = λ rest e q. Round count rest s d e h (subst (λ ts. Plays p inputs workers ts s d e) (append_assoc (turns 1 workers) (Rounds count ∷ []) rest) q)

  -- all of a script is done
  pub led : (tasks : List Task) (s t : State FrameEnv View) (d d' : WorkerTable) → Follows p inputs workers tasks s d [] t d' → Plays p inputs workers tasks s d (Done t d')
  led tasks s t d d' h = subst (λ ts. Plays p inputs workers ts s d (Done t d')) (append-nil tasks) (h [] (Done t d') (Finished t d'))

  -- it ends with an error
  pub led_to_fault : (tasks : List Task) (s : State FrameEnv View) (d : WorkerTable) (f : PlayFault) → Fails tasks s d f → IsFault (Plays p inputs workers tasks s d) f
  led_to_fault tasks s d f h = subst (λ ts. IsFault (λ e. Plays p inputs workers ts s d e) f) (append-nil tasks) (h [])
