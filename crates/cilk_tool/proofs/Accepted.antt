-- The answer for an accepted program that workers run.
--
-- - `departs`: numbers depart from the plan of its run;
-- - `ran`, `starved`: the workers' outcome, or out of memory;
-- - `own_numbers`, `named_numbers`: the numbers of the run; `ungiven`: their file is at fault;
-- - `runs`, `fails`: the answer of the run on given numbers;
-- - `with_run_ok`, `with_run_err`, `beside`: the same, over unchanged files;
-- - `accepts`: an accepting verdict;
-- - `earlier_ok`, `earlier_err`: the same by what was known before its texts were read;
-- - `judged_ok`: the answer to the command.
use Rattle.std.proofs.Common.{◌≡◌, ℕ, List, [], ◌∷◌, Option, Some, None, option_map, refl, sym, ap, subst, inl, inr, ◌∙◌}
use Rattle.std.specs.Prelude.{◌≢◌, ℤ, Result, Ok, Err, IfOk, IfErr}
use Rattle.std.specs.Borrow.{Bor}
use Rattle.std.specs.Option.{unwrap_or}
use Rattle.cilk_checker.specs.Answers.{IsCertified}
use Rattle.cilk_checker.specs.Determinate.{AcceptedRun}
use Rattle.cilk_threads.specs.Faults.{IsPool}
use Rattle.cilk_checker.specs.Judging.{Meant, meant}
use Rattle.cilk_plan.specs.Plans.{IsPlanOf, WholePlan}
use Rattle.cilk_program.specs.Sources.{source}
use Rattle.cilk_threads.specs.Outcomes.{DepartsNowhereOn, DepartsOn, IsFaultOn, IsOutcomeOn, NamesNoPosition}
use Rattle.cilk_threads.specs.declared.run.ThreadFault.{ThreadFault}
use Rattle.cilk_threads.specs.declared.run.ThreadFault.TheVariants as faults
use Rattle.cilk_types.specs.declared.outcome.Outcome.{Outcome}
use Rattle.cilk_commands.specs.Files.{Failures, IsHeld}
use Rattle.cilk_commands.specs.Replies.{Ended, NoMemory, Refused, Reply, Text, failure_view}
use Rattle.cilk_commands.specs.Serving.{AreGiven, InputFileFails, Judged, JudgedReply, Surroundings}
use Rattle.cilk_commands.specs.Shown.{CheckShows}
use Rattle.cilk_messages.specs.Words.{Origin}
use Rattle.cilk_commands.specs.declared.reply.Failure.{Failure}
use Rattle.cilk_tool.specs.Endings.{AreNotGiven, IsVerdict, StaysBeside, ending_view}
use Rattle.cilk_tool.specs.declared.running.Verdict.{Verdict}
use Rattle.cilk_tool.specs.declared.running.Verdict.TheVariants as verdicts
use Rattle.cilk_tool.specs.Shown.{AcceptedShow, DepartsFrom, GivesNumbers, IsAcceptedRun, NumbersRefused, NumbersUnread, Ran, RunShows, ThreadsShow, Unaccepted, WithRun, departed}
use Rattle.cilk_messages.specs.ThreadsWords.{Requested}
use Rattle.cilk_tool.specs.declared.running.Ending.{Ending}

-- numbers that depart from the plan of an accepted run depart from the run
pub departs : (w : WholePlan) (a : AcceptedRun) (numbers : List ℤ) (workers : ℕ) (f : ThreadFault) (at place : ℕ) → w.run ≡ a
    → f ≡ faults.Departs at → at ≡ place → IsPlanOf w.run w.event_order → IsFaultOn w numbers workers f → (numbers ≡ w.run.input → NamesNoPosition f)
    → RunShows a (meant a.program) numbers workers (Refused departed (place ∷ []))
departs w a numbers workers f at place of is same plan h stays =
    let there : IsPool workers × DepartsOn w numbers at = subst (λ (x : ThreadFault). IsFaultOn w numbers workers x) is h in
    let other : numbers ≢ w.run.input = λ e. subst (λ (x : ThreadFault). NamesNoPosition x) is (stays e) in
    inr (
      refl,
      subst (λ (b : AcceptedRun). numbers ≢ b.input) of other,
      (at, ap (λ (p : ℕ). p ∷ []) (sym same), subst (λ (b : AcceptedRun). DepartsFrom b numbers at) of (w.event_order, plan, there.1)),
    )

-- the outcome of the workers
pub ran : {T : Type 0} (w : WholePlan) (a : AcceptedRun) (numbers : List ℤ) (workers : ℕ) (o : Outcome) (x : Result Ending T) → w.run ≡ a
    → IsPool workers × IsOutcomeOn (source w.run.program) numbers o → (numbers ≡ w.run.input → o ≡ w.run.outcome) → DepartsNowhereOn w.run numbers
    → IfOk x (λ e. let m = meant a.program in ending_view e ≡ Ended m.names o)
    → IfOk x (λ e. RunShows a (meant a.program) numbers workers (ending_view e))
ran w a numbers workers o (Err f) of ok own follows is = tt
ran w a numbers workers o (Ok e) of ok own follows is =
    let shown : RunShows a (meant a.program) numbers workers (let m = meant a.program in Ended m.names o) = (
      refl,
      ok.0,
      subst (λ (b : AcceptedRun). IsOutcomeOn (source b.program) numbers o) of ok.1,
      subst (λ (b : AcceptedRun). numbers ≡ b.input → o ≡ b.outcome) of own,
      subst (λ (b : AcceptedRun). DepartsNowhereOn b numbers) of follows,
    ) in
    subst (λ (r : Reply). RunShows a (meant a.program) numbers workers r) (sym is) shown

-- out of memory
pub starved : {T : Type 0} (a : AcceptedRun) (numbers : List ℤ) (workers : ℕ) (x : Result T Failure) → IfErr x (λ f. failure_view f ≡ NoMemory)
    → IfErr x (λ f. RunShows a (meant a.program) numbers workers (failure_view f))
starved a numbers workers (Ok e) h = tt
starved a numbers workers (Err f) h = subst (λ (r : Reply). RunShows a (meant a.program) numbers workers r) (sym h) tt

-- the accepted run's own numbers, if no file is given
pub own_numbers : (files : Text → Option Text) (on : Option (Bor Text)) (own numbers : List ℤ) → on ≡ None → numbers ≡ own
    → GivesNumbers files (option_map (λ p. p.now) on) own numbers
own_numbers files on own numbers e same =
    subst (λ (o : Option (Bor Text)). GivesNumbers files (option_map (λ p. p.now) o) own numbers) (sym e) same

-- those of a given file
pub named_numbers : (files : Text → Option Text) (on : Option (Bor Text)) (path : Bor Text) (own numbers : List ℤ) → on ≡ Some path
    → GivesNumbers files (Some path.now) [] numbers → GivesNumbers files (option_map (λ p. p.now) on) own numbers
named_numbers files on path own numbers e given =
    subst (λ (o : Option (Bor Text)). GivesNumbers files (option_map (λ p. p.now) o) own numbers) (sym e) given

-- the numbers of a file
module _ (files : Text → Option Text) (failed failed' : Failures) where
  -- the answer if their file is at fault
  pub ungiven : (path : Bor Text) (on : Option (Bor Text)) (workers : ℕ) (a : AcceptedRun) (m : Meant) (r : Reply) → on ≡ Some path
      → AreNotGiven files failed failed' path.now r → AcceptedShow files failed failed' (option_map (λ p. p.now) on) workers a m r
  ungiven path on workers a m r e (inl h) =
      NumbersUnread (subst (λ (o : Option (Bor Text)). InputFileFails failed failed' (option_map (λ p. p.now) o) r) (sym e) h)
  ungiven path on workers a m r e (inr h) = NumbersRefused path.now h.0 (ap (option_map (λ (p : Bor Text). p.now)) e) h.1 h.2 h.3

  -- the answer of the run on given numbers
  pub runs : {T : Type 0} (x : Result Ending T) (on : Option Text) (numbers : List ℤ) (workers : ℕ) (a : AcceptedRun) (m : Meant)
      → failed' ≡ failed → GivesNumbers files on a.input numbers → IfOk x (λ e. RunShows a m numbers workers (ending_view e))
      → IfOk x (λ e. AcceptedShow files failed failed' on workers a m (ending_view e))
  runs (Ok e) on numbers workers a m none given h = Ran numbers given h none
  runs (Err f) on numbers workers a m none given h = tt

  pub fails : {T : Type 0} (x : Result T Failure) (on : Option Text) (numbers : List ℤ) (workers : ℕ) (a : AcceptedRun) (m : Meant)
      → failed' ≡ failed → GivesNumbers files on a.input numbers → IfErr x (λ f. RunShows a m numbers workers (failure_view f))
      → IfErr x (λ f. AcceptedShow files failed failed' on workers a m (failure_view f))
  fails (Ok e) on numbers workers a m none given h = tt
  fails (Err f) on numbers workers a m none given h = Ran numbers given h none

-- numbers that the same files give
same_numbers : (files files' : Text → Option Text) (on : Option Text) (own numbers : List ℤ)
    → ((path : Text) → on ≡ Some path → files' path ≡ files path) → GivesNumbers files' on own numbers → GivesNumbers files on own numbers
same_numbers files files' None own numbers same h = h
same_numbers files files' (Some path) own numbers same h = (h.0, subst (λ (k : Option Text). IsHeld k h.0) (same path refl) h.1, h.2)

same_accepted : (files files' : Text → Option Text) (failed failed' : Failures) (on : Option Text) (workers : ℕ) (a : AcceptedRun) (m : Meant) (r : Reply)
    → ((path : Text) → on ≡ Some path → files' path ≡ files path) → AcceptedShow files' failed failed' on workers a m r
    → AcceptedShow files failed failed' on workers a m r
same_accepted files files' failed failed' on workers a m r same (NumbersUnread h) = NumbersUnread h
same_accepted files files' failed failed' on workers a m r same (NumbersRefused path text e held h none) =
    NumbersRefused path text e (subst (λ (k : Option Text). IsHeld k text) (same path e) held) h none
same_accepted files files' failed failed' on workers a m r same (Ran numbers given h none) =
    Ran numbers (same_numbers files files' on a.input numbers same given) h none

-- the answer for an accepted program
module _ (files files' : Text → Option Text) (failed accepted failed' : Failures) (asked : Requested) (m : Meant) (inputs : List ℤ) (a : AcceptedRun)
    (is : IsAcceptedRun m inputs (files asked.certificate) a) (unfailed : accepted ≡ failed)
    (same : (path : Text) → asked.on ≡ Some path → files' path ≡ files path) where
  with_run : (r : Reply) → AcceptedShow files' accepted failed' asked.on asked.workers a (meant a.program) r → ThreadsShow files failed failed' asked m inputs r
  with_run r h =
      WithRun a is (subst (λ (n : Meant). AcceptedShow files failed failed' asked.on asked.workers a n r) is.program
      (same_accepted files files' failed failed' asked.on asked.workers a (meant a.program) r same
      (subst (λ (f : Failures). AcceptedShow files' f failed' asked.on asked.workers a (meant a.program) r) unfailed h)))

  pub with_run_ok : {T : Type 0} (x : Result Ending T) → IfOk x (λ e. AcceptedShow files' accepted failed' asked.on asked.workers a (meant a.program) (ending_view e))
      → IfOk x (λ e. ThreadsShow files failed failed' asked m inputs (ending_view e))
  with_run_ok (Ok e) h = with_run (ending_view e) h
  with_run_ok (Err f) h = tt

  pub with_run_err : {T : Type 0} (x : Result T Failure) → IfErr x (λ f. AcceptedShow files' accepted failed' asked.on asked.workers a (meant a.program) (failure_view f))
      → IfErr x (λ f. ThreadsShow files failed failed' asked m inputs (failure_view f))
  with_run_err (Ok e) h = tt
  with_run_err (Err f) h = with_run (failure_view f) h

-- an accepting verdict
pub accepts : (m : Meant) (inputs : List ℤ) (path : Text) (known other other' : Option Text) (failed accepted : Failures) (v : Verdict) (a : AcceptedRun)
    → v ≡ verdicts.Accepted a → IsVerdict path known failed accepted m inputs v → StaysBeside failed accepted other other' v
    → IsAcceptedRun m inputs known a × (accepted ≡ failed) × (other' ≡ other)
accepts m inputs path known other other' failed accepted v a e is stays =
    let left : (accepted ≡ failed) × (other' ≡ other) = subst (λ (x : Verdict). StaysBeside failed accepted other other' x) e stays in
    (subst (λ (x : Verdict). IsVerdict path known failed accepted m inputs x) e is, left.0, left.1)

-- the other file's contents are the same
pub beside : (files files' : Text → Option Text) (on : Option (Bor Text)) (certificate other : Bor Text) → other ≡ unwrap_or on certificate
    → files' other.now ≡ files other.now → (path : Text) → option_map (λ p. p.now) on ≡ Some path → files' path ≡ files path
beside files files' None certificate other e same path h = absurd (cc h)
beside files files' (Some b) certificate other e same path h =
    let named : b.now ≡ path = cc h in
    subst (λ (p : Text). files' p ≡ files p) (ap (λ (p : Bor Text). p.now) e ∙ named) same

-- the same by what was known before the texts of program and input were read
module _ (files files' : Text → Option Text) (failed before failed' : Failures) (same : (path : Text) → files' path ≡ files path) (unfailed : before ≡ failed) where
  pub earlier : (asked : Requested) (m : Meant) (inputs : List ℤ) (r : Reply) → ThreadsShow files' before failed' asked m inputs r
      → ThreadsShow files failed failed' asked m inputs r
  earlier asked m inputs r (Unaccepted n h) =
      Unaccepted n (subst (λ (k : Option Text). CheckShows asked.certificate k failed failed' m inputs r) (same asked.certificate)
      (subst (λ (f : Failures). CheckShows asked.certificate (files' asked.certificate) f failed' m inputs r) unfailed h))
  earlier asked m inputs r (WithRun a is h) =
      WithRun a
      (record { program = is.program; input = is.input; certified = subst (λ (k : Option Text). IsCertified m.source inputs k a.trace a.outcome) (same asked.certificate) is.certified })
      (same_accepted files files' failed failed' asked.on asked.workers a m r (λ path _. same path)
      (subst (λ (f : Failures). AcceptedShow files' f failed' asked.on asked.workers a m r) unfailed h))

  pub earlier_ok : {T : Type 0} (x : Result Ending T) (asked : Requested) (m : Meant) (inputs : List ℤ)
      → IfOk x (λ e. ThreadsShow files' before failed' asked m inputs (ending_view e)) → IfOk x (λ e. ThreadsShow files failed failed' asked m inputs (ending_view e))
  earlier_ok (Ok e) asked m inputs h = earlier asked m inputs (ending_view e) h
  earlier_ok (Err f) asked m inputs h = tt

  pub earlier_err : {T : Type 0} (x : Result T Failure) (asked : Requested) (m : Meant) (inputs : List ℤ)
      → IfErr x (λ f. ThreadsShow files' before failed' asked m inputs (failure_view f)) → IfErr x (λ f. ThreadsShow files failed failed' asked m inputs (failure_view f))
  earlier_err (Ok e) asked m inputs h = tt
  earlier_err (Err f) asked m inputs h = earlier asked m inputs (failure_view f) h

-- the answer to a command over a program and its input
pub judged_ok : {T : Type 0} (IsShown : Meant → List ℤ → Reply → Type 0) (x : Result Ending T) (w : Surroundings) (p : Origin)
    (i : Option Text) (q : Meant) (inputs : List ℤ)
    → AreGiven w p i q inputs → IfOk x (λ e. IsShown q inputs (ending_view e)) → IfOk x (λ e. JudgedReply IsShown w p i (ending_view e))
judged_ok IsShown (Ok e) w p i q inputs given h = Judged q inputs given h
judged_ok IsShown (Err f) w p i q inputs given h = tt
