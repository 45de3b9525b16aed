-- The replies of commands.
--
-- `front_of`: the bytes sent are a text, or a part of it. `keeps`: nothing was written.
-- `no_memory`: if no read failed, out of memory may be the reply to anything. `fails`, `ends`: a
-- failure, or an answer, is served. `none_failed`: the failed reads are the same. `handed`: an error that was passed on. `program_refused`, `input_unread`,
-- `input_refused`: no program and input are given. `both_given`: both are. `judged_ok`,
-- `judged_err`: the answer to a command on both, and its failure. `alone_ok`, `alone_err`: the same
-- for a command that reads no other file. `given_later`: they are given whatever is read
-- afterwards. `checked_ok`, `checked_err`: the answer to a check, and its failure. `refused_ok`,
-- `refused_err`: a refusal that is shown, or out of memory. `refused_whole`: a refusal of a file's
-- text. `left_ok`, `left_err`, `fault_shown`: what a script leaves, and a fault of its steps; `strict_left_ok`,
-- `strict_left_err`, `strict_fault_shown`: the same, played strictly; `manner_ok`, `manner_err`: both. `steps_shown`, `steps_fail`: the reply to the
-- steps of a script's text. `script_unread`, `text_played`: a script that isn't read, and the reply
-- to its text. `played_ok`, `played_err`: the answer to `play`, and its failure.
use Rattle.std.proofs.Common.{◌≡◌, ℕ, List, [], Bool, true, false, Option, Some, None, option_map, drop, refl, sym, ap, subst, inl, inr, ◌∙◌}
use Rattle.std.specs.Prelude.{◌≢◌, ◌<◌, IsTrue, IsFalse, Result, Ok, Err, IfOk, IfErr, IsErrAnd, ℤ}
use Rattle.std.specs.Io.KnownBytes.{Appends}
use Rattle.std.proofs.lemmas.List.{append-nil}
use Rattle.cilk_types.specs.declared.event.Event.{Event}
use Rattle.cilk_types.specs.declared.outcome.Outcome.{Outcome}
use Rattle.cilk_checker.specs.Answers.{IsCertified, IsRefusedText, IsUnaccepted}
use Rattle.cilk_checker.specs.Numbers.{fields_of, number_of}
use Rattle.cilk_checker.specs.declared.refusal.Refusal.{Refusal}
use Rattle.cilk_checker.specs.declared.refusal.Refusal.TheVariants as refusals
use Rattle.cilk_checker.specs.declared.refusal.Unaccepted.{Unaccepted}
use Rattle.cilk_checker.specs.declared.refusal.Unaccepted.TheVariants as unaccepted
use Rattle.cilk_program.specs.Syntax.{Source}
use Rattle.cilk_commands.specs.Replies as replies
use Rattle.cilk_commands.specs.Replies.{NoMemory, Refused, Reply, Text, Unreadable, answer_view, failure_view, out_text, places_of, status_of}
use Rattle.cilk_parser.specs.Inputs.{IsInput}
use Rattle.cilk_checker.specs.Judging.{IsProgramText, Meant}
use Rattle.cilk_commands.specs.Files.{Failures, IsHeld, IsUnfailed}
use Rattle.cilk_commands.specs.Serving.{Answers, AreGiven, FileFails, GivesInput, GivesProgram, InputFileFails, InputRefused, InputUnread, IsOrNoMemory, Judged, JudgedReply, NoneFailed, NoneGiven, ProgramRefused, ProgramUnread, Serves, Shows, ShowsError, Unjudged, Surroundings, world}
use Rattle.cilk_parser.specs.Scripts.{IsScript}
use Rattle.cilk_parser.specs.declared.script.Step.{Step}
use Rattle.cilk_commands.specs.Shown.{CheckShows, InputFails, MannerShows, PlayShows, PlayedShow, ProgramFails, StepsShow, StrictlyShow, TextShows, left_view, strict_fault_view, play_fault_view}
use Rattle.cilk_schedule.specs.Playing.{Ends, FailsAsSettled, IsFault, IsLeft, LeavesAsSettled}
use Rattle.cilk_schedule.specs.declared.fault.PlayFault.{PlayFault}
use Rattle.cilk_schedule.specs.declared.fault.PlayFault.TheVariants as play_faults
use Rattle.cilk_commands.specs.Streams.{AppendsFront, AppendsPart}
use Rattle.cilk_messages.specs.declared.words.Manner.{Manner}
use Rattle.cilk_schedule.specs.Strict.{FailsStrictlyAsSettled, IsStrict, IsStrictFault}
use Rattle.cilk_schedule.specs.declared.unmade.StrictFault.{StrictFault}
use Rattle.cilk_schedule.specs.declared.unmade.StrictFault.TheVariants as strict_faults
use Rattle.cilk_messages.specs.Words.{Requested, Certify, Check, File, Judge, Play, Run, Settle, Origin, Standard, order_in}
use Rattle.cilk_commands.specs.declared.reply.Answer.{Answer}
use Rattle.cilk_commands.specs.declared.reply.Failure.{Failure}
use Rattle.cilk_commands.specs.declared.reply.Failure.TheVariants as failures

-- all of a text, or a part of it, is a beginning of it
pub front_of : (sent : Bool) (o n : Option Text) (text : Text) → (IsTrue sent → Appends o n text) → (IsFalse sent → AppendsPart o n text)
    → AppendsFront sent o n text
front_of true o n text all part = all refl
front_of false o n text all part = part refl

pub keeps : (o : Option Text) → Appends o o []
keeps None = tt
keeps (Some bytes) = sym (append-nil bytes)

pub none_failed : (failed failed' : Failures) (path : Text) → failed' ≡ failed → IsUnfailed failed failed' path
none_failed failed failed' path e = record { count = ap (λ (f : Failures). f.count) e; elsewhere = ap (λ (f : Failures). f.elsewhere path) e }

-- if no read failed, out of memory may be the reply to anything
pub no_memory : (w : Surroundings) (asked : Option Requested) → w.failed' ≡ w.failed → Answers w asked NoMemory
no_memory w None e = (e, tt)
no_memory w (Some (Run Standard input)) e = Unjudged (ProgramUnread (e, tt))
no_memory w (Some (Run (File path) input)) e = Unjudged (ProgramUnread e)
no_memory w (Some (Certify path input)) e = Unjudged (ProgramUnread e)
no_memory w (Some (Check path certificate input)) e = Unjudged (ProgramUnread e)
no_memory w (Some (Play path script manner input)) e = Unjudged (ProgramUnread e)
no_memory w (Some (Settle path input)) e = Unjudged (ProgramUnread e)
no_memory w (Some (Judge trace sites)) e = none_failed w.failed w.failed' trace e

-- a failure has nothing for standard output
silent : (f : Failure) → out_text (failure_view f) ≡ []
silent (failures.Words text) = refl
silent (failures.Unreadable name) = refl
silent (failures.Program number place) = refl
silent (failures.Input number place) = refl
silent (failures.Run number at) = refl
silent (failures.Strand number name) = refl
silent (failures.Script at) = refl
silent (failures.Unmade skip) = refl
silent (failures.Trace number at) = refl
silent (failures.Changed name) = refl
silent failures.Memory = refl

pub still_silent : (f : Failure) (r : Reply) → IsOrNoMemory (failure_view f) r → out_text r ≡ []
still_silent f r (inl e) = ap out_text e ∙ silent f
still_silent f r (inr e) = ap out_text e

pub fails : (words : List Text) (w : Surroundings) (f : Failure) (status : ℕ) (told : Bool) (o e e' : Option Text)
    → Answers w (order_in words) (failure_view f)
    → (r : Reply) × IsOrNoMemory (failure_view f) r × (status ≡ status_of r) × ShowsError r told e e' → Serves words w status told o o e e'
fails words w f status told o e e' h shown =
    let r = shown.0 in
    let out : Appends o o (out_text r) = subst (λ (t : Text). Appends o o t) (sym (still_silent f r shown.1)) (keeps o) in
    (failure_view f, h, r, shown.1, inl (shown.2, out, shown.3))

pub ends : (words : List Text) (w : Surroundings) (wanted : Reply) (status : ℕ) (told : Bool) (o o' e e' : Option Text)
    → Answers w (order_in words) wanted
    → (r : Reply) × IsOrNoMemory wanted r × Shows r status told o o' e e' → Serves words w status told o o' e e'
ends words w wanted status told o o' e e' h shown = (wanted, h, shown.0, shown.1, shown.2)

-- an error that was passed on
pub handed : {T : Type 0} (x : Result T Failure) (f : Failure) (P : Failure → Type 0) → IsErrAnd x (λ e. e ≡ f) → P f → IfErr x P
handed (Ok v) f P h p = absurd h
handed (Err e) f P h p = subst P (sym h) p

-- the same files hold the same, and the same count is below
same_input : (files files' : Text → Option Text) (i : Option Text) (text : Text) → ((path : Text) → files path ≡ files' path) → GivesInput files i text → GivesInput files' i text
same_input files files' None text same h = h
same_input files files' (Some path) text same h = subst (λ (known : Option Text). IsHeld known text) (same path) h

pub program_refused : (w : Surroundings) (p : Origin) (i : Option Text) (r : Reply) (text slice : Text) → GivesProgram w.files w.input p text → slice ≡ text
    → ProgramFails slice r → w.failed' ≡ w.failed → NoneGiven w p i r
program_refused w p i r text slice given e h none = ProgramRefused text given (subst (λ (t : Text). ProgramFails t r) e h) none

pub input_unread : (w : Surroundings) (p : Origin) (i : Option Text) (r : Reply) (text slice : Text) (q : Meant) (failed : Failures) → GivesProgram w.files w.input p text → slice ≡ text
    → IsProgramText slice q → failed ≡ w.failed → InputFileFails failed w.failed' i r → NoneGiven w p i r
input_unread w p i r text slice q failed given e h same unread =
    InputUnread text q given (subst (λ (t : Text). IsProgramText t q) e h) (subst (λ (n : Failures). InputFileFails n w.failed' i r) same unread)

pub input_refused : (w : Surroundings) (p : Origin) (i : Option Text) (r : Reply) (text slice : Text) (q : Meant) (files : Text → Option Text) (numbers slice' : Text)
    → GivesProgram w.files w.input p text → slice ≡ text → IsProgramText slice q → ((path : Text) → files path ≡ w.files path) → GivesInput files i numbers → slice' ≡ numbers
    → InputFails slice' r → w.failed' ≡ w.failed → NoneGiven w p i r
input_refused w p i r text slice q files numbers slice' given e h same input e' fault none =
    InputRefused text q numbers given (subst (λ (t : Text). IsProgramText t q) e h) (same_input files w.files i numbers same input) (subst (λ (t : Text). InputFails t r) e' fault) none

pub both_given : (w : Surroundings) (p : Origin) (i : Option Text) (text slice : Text) (q : Meant)
    (files : Text → Option Text) (numbers slice' : Text) (inputs : List ℤ)
    → GivesProgram w.files w.input p text → slice ≡ text → IsProgramText slice q → ((path : Text) → files path ≡ w.files path) → GivesInput files i numbers → slice' ≡ numbers
    → IsInput slice' inputs → AreGiven w p i q inputs
both_given w p i text slice q files numbers slice' inputs given e h same input e' spelled = record {
  text = text;
  text_is = given;
  program_is = subst (λ (t : Text). IsProgramText t q) e h;
  numbers = numbers;
  numbers_are = same_input files w.files i numbers same input;
  input_is = subst (λ (t : Text). IsInput t inputs) e' spelled;
}

-- the answer to a command on a program and its input
pub judged_ok : {T : Type 0} (IsShown : Meant → List ℤ → Reply → Type 0) (x : Result Answer T) (w : Surroundings) (p : Origin)
    (i : Option Text) (q : Meant) (inputs : List ℤ)
    → AreGiven w p i q inputs → IfOk x (λ a. IsShown q inputs (answer_view a))
    → IfOk x (λ a. JudgedReply IsShown w p i (answer_view a))
judged_ok IsShown (Ok a) w p i q inputs given h = Judged q inputs given h
judged_ok IsShown (Err e) w p i q inputs given h = tt

-- its failure
pub judged_err : {T : Type 0} (IsShown : Meant → List ℤ → Reply → Type 0) (x : Result T Failure) (w : Surroundings) (p : Origin)
    (i : Option Text) (q : Meant) (inputs : List ℤ)
    → AreGiven w p i q inputs → IfErr x (λ e. IsShown q inputs (failure_view e))
    → IfErr x (λ e. JudgedReply IsShown w p i (failure_view e))
judged_err IsShown (Ok a) w p i q inputs given h = tt
judged_err IsShown (Err e) w p i q inputs given h = Judged q inputs given h

-- the answer to a command that reads no other file
pub alone_ok : {T : Type 0} (IsShown : Meant → List ℤ → Reply → Type 0) (x : Result Answer T) (w : Surroundings) (p : Origin)
    (i : Option Text) (q : Meant) (inputs : List ℤ)
    → AreGiven w p i q inputs → w.failed' ≡ w.failed → IfOk x (λ a. IsShown q inputs (answer_view a))
    → IfOk x (λ a. JudgedReply (NoneFailed w IsShown) w p i (answer_view a))
alone_ok IsShown (Ok a) w p i q inputs given none h = Judged q inputs given (none, h)
alone_ok IsShown (Err e) w p i q inputs given none h = tt

-- its failure
pub alone_err : {T : Type 0} (IsShown : Meant → List ℤ → Reply → Type 0) (x : Result T Failure) (w : Surroundings) (p : Origin)
    (i : Option Text) (q : Meant) (inputs : List ℤ)
    → AreGiven w p i q inputs → w.failed' ≡ w.failed → IfErr x (λ e. IsShown q inputs (failure_view e))
    → IfErr x (λ e. JudgedReply (NoneFailed w IsShown) w p i (failure_view e))
alone_err IsShown (Ok a) w p i q inputs given none h = tt
alone_err IsShown (Err e) w p i q inputs given none h = Judged q inputs given (none, h)

-- a program and its input are given whatever is read afterwards
pub given_later : (files : Text → Option Text) (input : Option Text) (failed before after : Failures) (p : Origin)
    (i : Option Text) (q : Meant) (inputs : List ℤ)
    → AreGiven (world files input failed before) p i q inputs → AreGiven (world files input failed after) p i q inputs
given_later files input failed before after p i q inputs h = record {
  text = h.text;
  text_is = h.text_is;
  program_is = h.program_is;
  numbers = h.numbers;
  numbers_are = h.numbers_are;
  input_is = h.input_is;
}

-- the answer to a check, in terms of the surroundings before the two texts were read
pub checked_ok : {T : Type 0} (x : Result Answer T) (path : Text) (known known' : Option Text) (n m failed : Failures) (q : Meant)
    (inputs : List ℤ) → known ≡ known' → n ≡ m
    → IfOk x (λ a. CheckShows path known n failed q inputs (answer_view a))
    → IfOk x (λ a. CheckShows path known' m failed q inputs (answer_view a))
checked_ok x path known known' n m failed q inputs e d h =
    let P : Option Text → Failures → Type 0 = λ k f. IfOk x (λ a. CheckShows path k f failed q inputs (answer_view a)) in
    subst (λ k. P k m) e (subst (λ f. P known f) d h)

-- its failure
pub checked_err : {T : Type 0} (x : Result T Failure) (path : Text) (known known' : Option Text) (n m failed : Failures) (q : Meant)
    (inputs : List ℤ) → known ≡ known' → n ≡ m
    → IfErr x (λ a. CheckShows path known n failed q inputs (failure_view a))
    → IfErr x (λ a. CheckShows path known' m failed q inputs (failure_view a))
checked_err x path known known' n m failed q inputs e d h =
    let P : Option Text → Failures → Type 0 = λ k f. IfErr x (λ a. CheckShows path k f failed q inputs (failure_view a)) in
    subst (λ k. P k m) e (subst (λ f. P known f) d h)

-- a refusal is shown
pub refused_ok : {F T : Type 0} (x : Result Answer T) (path : Text) (known : Option Text) (failed : F → Failures) (old new : F)
    (q : Meant) (inputs : List ℤ) (f : Refusal)
    → IfOk x (λ a. (f ≢ refusals.Memory) × (answer_view a ≡ Refused (number_of f) (places_of (fields_of f))))
    → IsUnfailed (failed old) (failed new) path → IsRefusedText q.source inputs known f
    → IfOk x (λ a. CheckShows path known (failed old) (failed new) q inputs (answer_view a))
refused_ok (Ok a) path known failed old new q inputs f h none k =
    subst (λ (r : Reply). CheckShows path known (failed old) (failed new) q inputs r) (sym h.1) (f, h.0, refl, refl, none, k)
refused_ok (Err e) path known failed old new q inputs f h none k = tt

pub refused_err : {F T : Type 0} (x : Result T Failure) (path : Text) (known : Option Text) (failed : F → Failures) (old new : F)
    (q : Meant) (inputs : List ℤ) → IfErr x (λ e. failure_view e ≡ NoMemory) → IsUnfailed (failed old) (failed new) path
    → IfErr x (λ e. CheckShows path known (failed old) (failed new) q inputs (failure_view e))
refused_err (Ok a) path known failed old new q inputs h none = tt
refused_err (Err e) path known failed old new q inputs h none =
    subst (λ (r : Reply). CheckShows path known (failed old) (failed new) q inputs r) (sym h) none

known_whole : (known : Option Text) → option_map (drop 0) known ≡ known
known_whole None = refl
known_whole (Some all) = refl

-- a refusal of the text that comes from a file's first byte on is one of the file
pub refused_whole : (p : Source) (inputs : List ℤ) (known known' : Option Text) (at n m : ℕ) (u : Unaccepted) (f : Refusal)
    → known' ≡ known → at ≡ 0 → u ≡ unaccepted.Refusal f
    → IsUnaccepted p inputs (option_map (drop at) known') n m u → IsRefusedText p inputs known f
refused_whole p inputs known known' at n m u f e d k h =
    let whole : option_map (drop at) known' ≡ known = rw (e, d) (known_whole known) in
    subst (λ (x : Option Text). IsRefusedText p inputs x f) whole
    (subst (λ (x : Unaccepted). IsUnaccepted p inputs (option_map (drop at) known') n m x) k h)

-- a certificate that isn't read met a failing device
pub unread_count : (p : Source) (inputs : List ℤ) (known : Option Text) (n m : ℕ) (u : Unaccepted) → u ≡ unaccepted.Unread
    → IsUnaccepted p inputs known n m u → n < m
unread_count p inputs known n m u is h = subst (λ (x : Unaccepted). IsUnaccepted p inputs known n m x) is h

-- an accepted text that comes from a file's first byte on is the file's
pub accepted_whole : (p : Source) (inputs : List ℤ) (known known' : Option Text) (at : ℕ) (es : List Event) (o : Outcome)
    → known' ≡ known → at ≡ 0 → IsCertified p inputs (option_map (drop at) known') es o → IsCertified p inputs known es o
accepted_whole p inputs known known' at es o e d h =
    let whole : option_map (drop at) known' ≡ known = rw (e, d) (known_whole known) in
    subst (λ (x : Option Text). IsCertified p inputs x es o) whole h

told_of : (workers : ℕ) (steps : List Step) (q : Meant) (inputs : List ℤ) (f : PlayFault) → IsFault (Ends q.source inputs workers steps) f → FailsAsSettled q.source inputs f
    → StepsShow workers steps q inputs (play_fault_view f)
told_of workers steps q inputs play_faults.Memory h never = tt
told_of workers steps q inputs (play_faults.Line at) h never = h
told_of workers steps q inputs (play_faults.Stop fault name) h never = (fault, refl, h, never)

-- a fault of a script's steps
pub fault_shown : (workers : ℕ) (steps : List Step) (q : Meant) (inputs : List ℤ) (f : PlayFault) (r : Reply) → IsFault (Ends q.source inputs workers steps) f → FailsAsSettled q.source inputs f
    → r ≡ play_fault_view f → StepsShow workers steps q inputs r
fault_shown workers steps q inputs f r h never e = subst (λ x. StepsShow workers steps q inputs x) (sym e) (told_of workers steps q inputs f h never)

-- what a script leaves that is played to its end
left_shown : (workers : ℕ) (steps : List Step) (q : Meant) (inputs : List ℤ) (left : Option Outcome) (r : Reply) → IsLeft q.source inputs workers steps left
    → LeavesAsSettled q.source inputs left → r ≡ left_view q left → StepsShow workers steps q inputs r
left_shown workers steps q inputs (Some o) r h k e = subst (λ x. StepsShow workers steps q inputs x) (sym e) (refl, h, k)
left_shown workers steps q inputs None r h k e = subst (λ x. StepsShow workers steps q inputs x) (sym e) h

strict_left_shown : (workers : ℕ) (steps : List Step) (q : Meant) (inputs : List ℤ) (left : Option Outcome) (r : Reply) → IsLeft q.source inputs workers steps left
    → LeavesAsSettled q.source inputs left → IsStrict q.source inputs workers steps → r ≡ left_view q left → StrictlyShow workers steps q inputs r
strict_left_shown workers steps q inputs (Some o) r h k all e = subst (λ x. StrictlyShow workers steps q inputs x) (sym e) ((refl, h, k), all)
strict_left_shown workers steps q inputs None r h k all e = subst (λ x. StrictlyShow workers steps q inputs x) (sym e) (h, all)

pub left_ok : {T : Type 0} (x : Result Answer T) (workers : ℕ) (steps : List Step) (q : Meant) (inputs : List ℤ) (left : Option Outcome)
    → IsLeft q.source inputs workers steps left → LeavesAsSettled q.source inputs left → IfOk x (λ a. answer_view a ≡ left_view q left)
    → IfOk x (λ a. StepsShow workers steps q inputs (answer_view a))
left_ok (Ok a) workers steps q inputs left h k e = left_shown workers steps q inputs left (answer_view a) h k e
left_ok (Err f) workers steps q inputs left h k e = tt

pub strict_left_ok : {T : Type 0} (x : Result Answer T) (workers : ℕ) (steps : List Step) (q : Meant) (inputs : List ℤ) (left : Option Outcome)
    → IsLeft q.source inputs workers steps left → LeavesAsSettled q.source inputs left → IsStrict q.source inputs workers steps
    → IfOk x (λ a. answer_view a ≡ left_view q left) → IfOk x (λ a. StrictlyShow workers steps q inputs (answer_view a))
strict_left_ok (Ok a) workers steps q inputs left h k all e = strict_left_shown workers steps q inputs left (answer_view a) h k all e
strict_left_ok (Err f) workers steps q inputs left h k all e = tt

-- no memory for the answer
pub left_err : {T : Type 0} (x : Result T Failure) (workers : ℕ) (steps : List Step) (q : Meant) (inputs : List ℤ) → IfErr x (λ f. failure_view f ≡ NoMemory)
    → IfErr x (λ f. StepsShow workers steps q inputs (failure_view f))
left_err (Ok a) workers steps q inputs e = tt
left_err (Err f) workers steps q inputs e = subst (λ r. StepsShow workers steps q inputs r) (sym e) tt

pub strict_left_err : {T : Type 0} (x : Result T Failure) (workers : ℕ) (steps : List Step) (q : Meant) (inputs : List ℤ) → IfErr x (λ f. failure_view f ≡ NoMemory)
    → IfErr x (λ f. StrictlyShow workers steps q inputs (failure_view f))
strict_left_err (Ok a) workers steps q inputs e = tt
strict_left_err (Err f) workers steps q inputs e = subst (λ r. StrictlyShow workers steps q inputs r) (sym e) tt

strictly_told_of : (workers : ℕ) (steps : List Step) (q : Meant) (inputs : List ℤ) (f : StrictFault) → IsStrictFault q.source inputs workers steps f
    → FailsStrictlyAsSettled q.source inputs f → StrictlyShow workers steps q inputs (strict_fault_view f)
strictly_told_of workers steps q inputs (strict_faults.Skipped skip) h never = h
strictly_told_of workers steps q inputs (strict_faults.Play play_faults.Memory) h never = tt
strictly_told_of workers steps q inputs (strict_faults.Play (play_faults.Line at)) h never = h
strictly_told_of workers steps q inputs (strict_faults.Play (play_faults.Stop fault name)) h never = let e = h.1 in ((fault, refl, (h.0, e.0, h.2, h.3), never), e.1)

-- a fault of a script's steps that is played strictly
pub strict_fault_shown : (workers : ℕ) (steps : List Step) (q : Meant) (inputs : List ℤ) (f : StrictFault) (r : Reply) → IsStrictFault q.source inputs workers steps f
    → FailsStrictlyAsSettled q.source inputs f → r ≡ strict_fault_view f → StrictlyShow workers steps q inputs r
strict_fault_shown workers steps q inputs f r h never e = subst (λ x. StrictlyShow workers steps q inputs x) (sym e) (strictly_told_of workers steps q inputs f h never)

-- the reply to steps that are played strictly, or aren't
pub manner_ok : {T : Type 0} (x : Result Answer T) (manner : Manner) (b : Bool) (steps : List Step) (q : Meant) (inputs : List ℤ) → manner.is_strict ≡ b
    → IfOk x (λ a. PlayedShow b manner.workers steps q inputs (answer_view a)) → IfOk x (λ a. MannerShows manner steps q inputs (answer_view a))
manner_ok x manner b steps q inputs e h = subst (λ (z : Bool). IfOk x (λ a. PlayedShow z manner.workers steps q inputs (answer_view a))) (sym e) h

pub manner_err : {T : Type 0} (x : Result T Failure) (manner : Manner) (b : Bool) (steps : List Step) (q : Meant) (inputs : List ℤ) → manner.is_strict ≡ b
    → IfErr x (λ f. PlayedShow b manner.workers steps q inputs (failure_view f)) → IfErr x (λ f. MannerShows manner steps q inputs (failure_view f))
manner_err x manner b steps q inputs e h = subst (λ (z : Bool). IfErr x (λ f. PlayedShow z manner.workers steps q inputs (failure_view f))) (sym e) h

-- the reply to the steps of a script's text
pub steps_shown : {T : Type 0} (x : Result Answer T) (manner : Manner) (text : Text) (steps slice : List Step) (q : Meant) (inputs : List ℤ) → IsScript text steps
    → slice ≡ steps → IfOk x (λ a. MannerShows manner slice q inputs (answer_view a)) → IfOk x (λ a. TextShows manner text q inputs (answer_view a))
steps_shown (Ok a) manner text steps slice q inputs is e h = inr (steps, is, subst (λ s. MannerShows manner s q inputs (answer_view a)) e h)
steps_shown (Err f) manner text steps slice q inputs is e h = tt

pub steps_fail : {T : Type 0} (x : Result T Failure) (manner : Manner) (text : Text) (steps slice : List Step) (q : Meant) (inputs : List ℤ) → IsScript text steps
    → slice ≡ steps → IfErr x (λ f. MannerShows manner slice q inputs (failure_view f)) → IfErr x (λ f. TextShows manner text q inputs (failure_view f))
steps_fail (Ok a) manner text steps slice q inputs is e h = tt
steps_fail (Err f) manner text steps slice q inputs is e h = inr (steps, is, subst (λ s. MannerShows manner s q inputs (failure_view f)) e h)

-- the reply to steps is of no file
unread_never : (b : Bool) (workers : ℕ) (steps : List Step) (q : Meant) (inputs : List ℤ) (name : Text) → PlayedShow b workers steps q inputs (Unreadable name) → ⊥
unread_never true workers steps q inputs name h = h.0
unread_never false workers steps q inputs name h = h

-- a script that isn't read
pub script_unread : (path : Text) (known : Option Text) (failed failed' : Failures) (manner : Manner) (q : Meant) (inputs : List ℤ) (r : Reply)
    → FileFails failed failed' path r → PlayShows path known failed failed' manner q inputs r
script_unread path known failed failed' manner q inputs (Unreadable name) h = (h.0, h.1)
script_unread path known failed failed' manner q inputs NoMemory h = h
script_unread path known failed failed' manner q inputs _ h = absurd h

-- the reply to a script's text, of which no read failed
module _ (path : Text) (known : Option Text) (failed failed' : Failures) (none : failed' ≡ failed) (manner : Manner) (q : Meant) (inputs : List ℤ) where
  pub text_played : (r : Reply) (text slice : Text) → IsHeld known text → slice ≡ text → TextShows manner slice q inputs r
      → PlayShows path known failed failed' manner q inputs r
  text_played r text slice held e h = by r (none, (text, held, subst (λ t. TextShows manner t q inputs r) e h))
    where
      by : (x : Reply) → (failed' ≡ failed) × ((t : Text) × IsHeld known t × TextShows manner t q inputs x)
          → PlayShows path known failed failed' manner q inputs x
      by (Unreadable name) k = let shown = k.1 in elim shown.2 [ inl l ↦ absurd l | inr l ↦ absurd (unread_never manner.is_strict manner.workers l.0 q inputs name l.2) ]
      by NoMemory k = k.0
      by replies.BadWords k = k
      by (replies.BadProgram n p) k = k
      by (replies.BadInput n p) k = k
      by (replies.Faulted n at) k = k
      by (replies.FaultedIn n name) k = k
      by (replies.BadScript at) k = k
      by (replies.Unmade skip) k = k
      by (replies.Ended names o) k = k
      by (replies.Certified c) k = k
      by replies.Accepted k = k
      by (replies.Refused n ps) k = k
      by replies.NotEnded k = k
      by (replies.Settled names o) k = k
      by (replies.RaceFree n) k = k
      by (replies.BadTrace n at) k = k
      by (replies.Changed name) k = k

  pub texts_played : {T : Type 0} (x : Result Answer T) (text slice : Text) → IsHeld known text → slice ≡ text
      → IfOk x (λ a. TextShows manner slice q inputs (answer_view a)) → IfOk x (λ a. PlayShows path known failed failed' manner q inputs (answer_view a))
  texts_played (Ok a) text slice held e h = text_played (answer_view a) text slice held e h
  texts_played (Err f) text slice held e h = tt

  pub texts_fail : {T : Type 0} (x : Result T Failure) (text slice : Text) → IsHeld known text → slice ≡ text
      → IfErr x (λ f. TextShows manner slice q inputs (failure_view f)) → IfErr x (λ f. PlayShows path known failed failed' manner q inputs (failure_view f))
  texts_fail (Ok a) text slice held e h = tt
  texts_fail (Err f) text slice held e h = text_played (failure_view f) text slice held e h

-- the answer to `play`, in terms of the surroundings before the two texts were read
pub played_ok : {T : Type 0} (x : Result Answer T) (path : Text) (known known' : Option Text) (n m failed : Failures) (manner : Manner) (q : Meant)
    (inputs : List ℤ) → known ≡ known' → n ≡ m
    → IfOk x (λ a. PlayShows path known n failed manner q inputs (answer_view a))
    → IfOk x (λ a. PlayShows path known' m failed manner q inputs (answer_view a))
played_ok x path known known' n m failed manner q inputs e d h =
    let P : Option Text → Failures → Type 0 = λ k f. IfOk x (λ a. PlayShows path k f failed manner q inputs (answer_view a)) in
    subst (λ k. P k m) e (subst (λ f. P known f) d h)

-- its failure
pub played_err : {T : Type 0} (x : Result T Failure) (path : Text) (known known' : Option Text) (n m failed : Failures) (manner : Manner) (q : Meant)
    (inputs : List ℤ) → known ≡ known' → n ≡ m
    → IfErr x (λ a. PlayShows path known n failed manner q inputs (failure_view a))
    → IfErr x (λ a. PlayShows path known' m failed manner q inputs (failure_view a))
played_err x path known known' n m failed manner q inputs e d h =
    let P : Option Text → Failures → Type 0 = λ k f. IfErr x (λ a. PlayShows path k f failed manner q inputs (failure_view a)) in
    subst (λ k. P k m) e (subst (λ f. P known f) d h)
