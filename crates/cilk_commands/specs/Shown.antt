-- The replies to texts with a fault, to runs, to certificates and to scripts.
use Rattle.std.specs.Prelude.{◌≡◌, ◌≢◌, ◌⊎◌, ℕ, ℤ, Bool, true, false, List, Option, Some, None}
use Rattle.cilk_types.specs.Fault as run_faults
use Rattle.cilk_types.specs.declared.event.Event.{Event}
use Rattle.cilk_types.specs.declared.fault.Fault.{Fault}
use Rattle.cilk_types.specs.declared.outcome.Outcome.{Outcome}
use Rattle.cilk_parser.specs.Inputs.{IsInput, IsInputFault}
use Rattle.cilk_parser.specs.Texts as texts
use Rattle.cilk_parser.specs.declared.fault.TextFault.{TextFault}
use Rattle.cilk_parser.specs.declared.fault.TextFault.TheVariants as text_faults
use Rattle.cilk_names.specs.Faults as names
use Rattle.cilk_checker.specs.Judging.{IsProgramFault, IsProgramText, Meant}
use Rattle.cilk_checker.specs.declared.fault.ProgramFault.{ProgramFault}
use Rattle.cilk_checker.specs.declared.fault.ProgramFault.TheVariants as program_faults
use Rattle.cilk_serial.specs.Ran.{Ran, IsRunFault}
use Rattle.cilk_serial.specs.declared.fault.RunFault.{RunFault}
use Rattle.cilk_serial.specs.declared.fault.RunFault.TheVariants as stops
use Rattle.cilk_cert_text.specs.Certificates.{IsCertificate}
use Rattle.cilk_cert_text.specs.declared.line.Version.TheVariants.{Two}
use Rattle.cilk_cert_maker.specs.Certified as made
use Rattle.cilk_checker.specs.Answers.{IsCertified, IsRefusedText}
use Rattle.cilk_checker.specs.Numbers.{fields_of, number_of}
use Rattle.cilk_checker.specs.Pulls.{IsFaultlessSoFar}
use Rattle.cilk_checker.specs.declared.refusal.Refusal.{Refusal}
use Rattle.cilk_checker.specs.declared.refusal.Refusal.TheVariants as refusals
use Rattle.cilk_parser.specs.Scripts.{IsNoScript, IsScript}
use Rattle.cilk_parser.specs.declared.script.Step.{Step}
use Rattle.cilk_determinacy.specs.Settled.{IsSettled}
use Rattle.cilk_checker.specs.Settled.{RacesAt}
use Rattle.cilk_checker.specs.declared.settle.FirstRace.{FirstRace}
use Rattle.cilk_checker.specs.declared.settle.FirstRace.TheVariants.{Determinacy, ViewRead}
use Rattle.cilk_schedule.specs.declared.fault.PlayFault.{PlayFault}
use Rattle.cilk_schedule.specs.declared.fault.PlayFault.TheVariants as play_faults
use Rattle.cilk_schedule.specs.declared.unmade.Skips.{Skips}
use Rattle.cilk_schedule.specs.declared.unmade.StrictFault.{StrictFault}
use Rattle.cilk_schedule.specs.declared.unmade.StrictFault.TheVariants as strict_faults
use Rattle.cilk_schedule.specs.Playing.{Ends, IsLeft, LeavesAsSettled, Passed, StopsBy}
use Rattle.cilk_schedule.specs.Strict.{AreSkips, IsFirstSkip, IsStrict, tasks_within}
use Rattle.cilk_parser.specs.declared.script_choices.TheConstants.{MAX_CHOICES}
use Rattle.cilk_messages.specs.declared.words.Manner.{Manner}
use Rattle.cilk_commands.specs.Files.{Failures, HasFailed, HoldsTo, IsHeld, IsUnfailed}
use Rattle.cilk_commands.specs.Replies.{Accepted, BadInput, BadProgram, BadScript, Certified, Ended, Faulted, FaultedIn, NoMemory, NotEnded, Refused, Reply, Settled, Text, Unmade, Unreadable, places_of}

abbrev pub program_fault_view : ProgramFault → Reply
program_fault_view program_faults.Memory = NoMemory
program_fault_view (program_faults.Text n place) = BadProgram (texts.number n) place
program_fault_view (program_faults.Name n place) = BadProgram (names.number_of n) place

abbrev pub input_fault_view : TextFault → Reply
input_fault_view text_faults.Memory = NoMemory
input_fault_view (text_faults.At n place) = BadInput (texts.number n) place

abbrev pub run_fault_view : RunFault → Reply
run_fault_view stops.Memory = NoMemory
run_fault_view (stops.At fault at) = Faulted (run_faults.number_of fault) at

abbrev pub play_fault_view : PlayFault → Reply
play_fault_view play_faults.Memory = NoMemory
play_fault_view (play_faults.Line at) = BadScript at
play_fault_view (play_faults.Stop fault name) = FaultedIn (run_faults.number_of fault) (let n = name in n.items)

abbrev pub strict_fault_view : StrictFault → Reply
strict_fault_view (strict_faults.Skipped skip) = Unmade skip
strict_fault_view (strict_faults.Play fault) = play_fault_view fault

-- the reply to a program text with a fault
abbrev pub ProgramFails : Text → Reply → Type 0
ProgramFails text r = (f : ProgramFault) × (r ≡ program_fault_view f) × IsProgramFault f text

-- the reply to an input text with a fault
abbrev pub InputFails : Text → Reply → Type 0
InputFails text r = (f : TextFault) × (r ≡ input_fault_view f) × IsInputFault f text

-- the reply to a run that a fault stops
abbrev pub RunFails : Meant → List ℤ → Reply → Type 0
RunFails m inputs r = (f : RunFault) × (r ≡ run_fault_view f) × IsRunFault m.source inputs f

-- the reply to a program's run: its outcome, or the fault that stops it, by number and position
abbrev pub RunShows : Meant → List ℤ → Reply → Type 0
RunShows m inputs (Ended names o) = (names ≡ m.names) × ((events : List Event) × Ran m.source inputs o events)
RunShows m inputs r = RunFails m inputs r

-- the refusal of a run that races
abbrev pub refusal_of : FirstRace → Refusal
refusal_of (Determinacy earlier later) = refusals.Race earlier later
refusal_of (ViewRead created used) = refusals.ViewRace created used

-- The reply to `settle`: the outcome of the serial run, which every parallel run that ends has, or
-- the first race of the serial run, or the fault that stops it.
abbrev pub SettleShows : Meant → List ℤ → Reply → Type 0
SettleShows m inputs (Settled names o) = (names ≡ m.names) × IsSettled m.source inputs o
SettleShows m inputs (Refused number places) =
    (first : FirstRace) × (number ≡ number_of (refusal_of first)) × (places ≡ places_of (fields_of (refusal_of first))) × RacesAt m.source inputs first
SettleShows m inputs r = RunFails m inputs r

-- the reply to `certify`: the right certificate of the run, in version 2, or the fault that stops
-- the run
abbrev pub CertifyShows : Meant → List ℤ → Reply → Type 0
CertifyShows m inputs (Certified c) = (c.version ≡ Two) × IsCertificate c × made.IsCertificateOf m.source inputs c
CertifyShows m inputs r = RunFails m inputs r

-- The reply to the certificate in the file of this path: it is accepted or refused, or there is no
-- memory, and no read failed; or the file can't be read from a byte on, and up to there no line of it is malformed. `known` are the
-- contents of the file, if they are known; `failed` and `failed'` are the failed reads before and after.
abbrev pub CheckShows : Text → Option Text → Failures → Failures → Meant → List ℤ → Reply → Type 0
CheckShows path known failed failed' m inputs Accepted =
    IsUnfailed failed failed' path × ((events : List Event) × (o : Outcome) × IsCertified m.source inputs known events o)
CheckShows path known failed failed' m inputs (Refused number places) =
    (f : Refusal) × (f ≢ refusals.Memory) × (number ≡ number_of f) × (places ≡ places_of (fields_of f))
    × IsUnfailed failed failed' path × IsRefusedText m.source inputs known f
CheckShows path known failed failed' m inputs (Unreadable name) =
    (name ≡ path) × HasFailed path failed failed' × HoldsTo known failed'.at IsFaultlessSoFar
CheckShows path known failed failed' m inputs NoMemory = IsUnfailed failed failed' path
CheckShows path known failed failed' m inputs _ = ⊥

-- the reply to a text that is no script
abbrev pub ScriptFails : Text → Reply → Type 0
ScriptFails text (BadScript at) = IsNoScript text at
ScriptFails text NoMemory = Unit {0}
ScriptFails text _ = ⊥

-- the reply to a script that is played to its end: the outcome, if the run has ended
abbrev pub left_view : Meant → Option Outcome → Reply
left_view m (Some o) = Ended m.names o
left_view m None = NotEnded

-- The reply to the steps of a script, with one or more workers: their one end. It is the run's
-- outcome, a run that hasn't ended, the line whose choices go past the limit, or the fault of a
-- choice with its strand. If one serial run settles every parallel one, an outcome is that run's,
-- and there is no fault.
abbrev pub StepsShow : ℕ → List Step → Meant → List ℤ → Reply → Type 0
StepsShow workers steps m inputs (Ended names o) = (names ≡ m.names) × IsLeft m.source inputs workers steps (Some o) × LeavesAsSettled m.source inputs (Some o)
StepsShow workers steps m inputs NotEnded = IsLeft m.source inputs workers steps None
StepsShow workers steps m inputs (BadScript at) = Ends m.source inputs workers steps (Passed at)
StepsShow workers steps m inputs (FaultedIn number name) =
    (fault : Fault) × (number ≡ run_faults.number_of fault) × StopsBy (Ends m.source inputs workers steps) fault name
    × ((outcome : Outcome) → IsSettled m.source inputs outcome → ⊥)
StepsShow workers steps m inputs NoMemory = Unit {0}
StepsShow workers steps m inputs _ = ⊥

-- the choices that are skipped of a script's text, which is played with this many workers, by the texts of a
-- program and its input
abbrev pub SkipsShow : Text → Text → ℕ → Text → Skips → Type 0
SkipsShow source numbers workers script skips =
    (p : Meant) × IsProgramText source p × ((inputs : List ℤ) × IsInput numbers inputs × ((steps : List Step) × IsScript script steps
    × AreSkips p.source inputs workers (tasks_within MAX_CHOICES steps) skips))

-- The reply to the steps of a script each of whose choices has to be made: the first that can't be made, by
-- its line, and why; or, if there is none, the reply to the steps.
abbrev pub StrictlyShow : ℕ → List Step → Meant → List ℤ → Reply → Type 0
StrictlyShow workers steps m inputs (Unmade skip) = IsFirstSkip m.source inputs workers (tasks_within MAX_CHOICES steps) skip
StrictlyShow workers steps m inputs NoMemory = Unit {0}
StrictlyShow workers steps m inputs r = StepsShow workers steps m inputs r × IsStrict m.source inputs workers steps

-- the reply to the steps of a script that is played strictly, or isn't
abbrev pub PlayedShow : (is_strict : Bool) → ℕ → List Step → Meant → List ℤ → Reply → Type 0
PlayedShow true workers steps m inputs r = StrictlyShow workers steps m inputs r
PlayedShow false workers steps m inputs r = StepsShow workers steps m inputs r

-- the reply to the steps of a script that is played in this manner
abbrev pub MannerShows : Manner → List Step → Meant → List ℤ → Reply → Type 0
MannerShows manner steps m inputs r = PlayedShow manner.is_strict manner.workers steps m inputs r

-- the reply to a script's text: its wrong line, or the reply to its steps
abbrev pub TextShows : Manner → Text → Meant → List ℤ → Reply → Type 0
TextShows manner text m inputs r = ScriptFails text r ⊎ ((steps : List Step) × IsScript text steps × MannerShows manner steps m inputs r)

-- The reply to the script in the file of this path: the file can't be read; or there is no memory, or
-- the reply to its text, and no read failed. `known`, `failed` and `failed'` are as above.
abbrev pub PlayShows : Text → Option Text → Failures → Failures → Manner → Meant → List ℤ → Reply → Type 0
PlayShows path known failed failed' manner m inputs (Unreadable name) = (name ≡ path) × HasFailed path failed failed'
PlayShows path known failed failed' manner m inputs NoMemory = failed' ≡ failed
PlayShows path known failed failed' manner m inputs r =
    (failed' ≡ failed) × ((text : Text) × IsHeld known text × TextShows manner text m inputs r)
