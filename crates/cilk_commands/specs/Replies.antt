-- The replies of the tool: a text on standard output or on standard error, and a status.
use Rattle.std.specs.Prelude.{◌≡◌, ℕ, ℤ, List, [], ◌∷◌, ◌++◌, ◌==◌, Option, None, Some, codes, decimal, flat_map, if◌then◌else◌, zip}
use Rattle.std.specs.Fmt.{signed_decimal}
use Rattle.cilk_types.specs.declared.outcome.Outcome.{Outcome}
use Rattle.cilk_types.specs.declared.outcome.Final.{Final}
use Rattle.cilk_types.specs.declared.outcome.Final.TheVariants as finals
use Rattle.cilk_cert_text.specs.Certificates.{Contents, text_of}
use Rattle.cilk_scheduler.specs.declared.choice.Choice.{Choice}
use Rattle.cilk_scheduler.specs.declared.choice.Choice.TheVariants as choices
use Rattle.cilk_schedule.specs.declared.unmade.Reason.{Reason}
use Rattle.cilk_schedule.specs.declared.unmade.Reason.TheVariants as reasons
use Rattle.cilk_schedule.specs.declared.unmade.Skip.{Skip}
use Rattle.cilk_checker.specs.Numbers.{fields_of, number_of}
use Rattle.cilk_checker.specs.declared.refusal.Fields.{Fields}
use Rattle.cilk_checker.specs.declared.refusal.Fields.TheVariants as fields
use Rattle.cilk_commands.specs.declared.reply.Answer.{Answer}
use Rattle.cilk_commands.specs.declared.reply.Answer.TheVariants as answers
use Rattle.cilk_commands.specs.declared.reply.Failure.{Failure}
use Rattle.cilk_commands.specs.declared.reply.Failure.TheVariants as failures

abbrev pub Text : Type 0
Text = List ℕ

-- a reply
pub data Reply : Type 0 where
  -- the words are no command
  BadWords : Reply
  -- a file, or `-` for standard input, can't be read
  Unreadable : (name : Text) → Reply
  -- a fault of the program text, or of the input text, at a byte counted from 0
  BadProgram : (number place : ℕ) → Reply
  BadInput : (number place : ℕ) → Reply
  -- a fault stops the run in place of an event, counted from 1
  Faulted : (number at : ℕ) → Reply
  -- a fault stops the run of a script in the strand of this name
  FaultedIn : (number : ℕ) (name : List ℕ) → Reply
  -- a line of a script, from 1, has another form, or its choices go past the limit
  BadScript : (at : ℕ) → Reply
  -- a choice of a script that has to be made can't be made
  Unmade : (skip : Skip) → Reply
  -- the outcome of a run, with the names of its global reducers
  Ended : (names : List Text) (outcome : Outcome) → Reply
  -- a certificate
  Certified : (certificate : Contents) → Reply
  -- a certificate is accepted
  Accepted : Reply
  -- a certificate is refused, or a race is found, by a number and the places that it names
  Refused : (number : ℕ) (places : List ℕ) → Reply
  -- the run of a script hasn't ended
  NotEnded : Reply
  -- the outcome of every parallel run that ends, with the names of the global reducers
  Settled : (names : List Text) (outcome : Outcome) → Reply
  -- no two positions of a trace race, and this many of its lines are `unseen`
  RaceFree : (unseen : ℕ) → Reply
  -- a fault of a trace at a line, counted from 1
  BadTrace : (number at : ℕ) → Reply
  -- a file changed between two readings
  Changed : (name : Text) → Reply
  -- out of memory
  NoMemory : Reply

abbrev pub status_of : Reply → ℕ
status_of (Ended names o) = 0
status_of (Certified certificate) = 0
status_of Accepted = 0
status_of NotEnded = 0
status_of (Settled names o) = 0
status_of (RaceFree unseen) = 0
status_of (Faulted number at) = 3
status_of (FaultedIn number name) = 3
status_of (Unmade skip) = 3
status_of (Refused number places) = 4
status_of NoMemory = 5
status_of _ = 2

-- a line ends with LF
abbrev pub line : Text → Text
line text = text ++ 10 ∷ []

-- a number, as a line
abbrev pub number_line : ℤ → Text
number_line v = line (signed_decimal v)

-- a number, after a space
abbrev pub element : ℤ → Text
element v = 32 ∷ signed_decimal v

-- the text of a number, or of a list's elements
abbrev pub elements : Final → Text
elements (finals.Number v) = element v
elements (finals.List vs) = flat_map element vs

-- `reducer NAME`, and a space and a number for each element
abbrev pub reducer_line : Text → Final → Text
reducer_line name last = line (codes "reducer " ++ name ++ elements last)

abbrev pub reducer_lines : List Text → List Final → Text
reducer_lines names reducers = flat_map (λ p. reducer_line p.0 p.1) (zip names reducers)

-- an outcome: a line for each printed number, a line for each global reducer, and `result N`
abbrev pub outcome_text : List Text → Outcome → Text
outcome_text names o =
    flat_map number_line o.output ++ reducer_lines names o.reducers ++ line (codes "result " ++ signed_decimal o.result)

-- `WHAT N at PLACE`
abbrev pub place_line : Text → ℕ → ℕ → Text
place_line what number place = line (what ++ codes " " ++ decimal number ++ codes " at " ++ decimal place)

-- `:` before a strand's number, and `.` before each ordinal of its frame's path
abbrev pub mark : List ℕ → ℕ
mark [] = 58
mark (n ∷ behind) = 46

-- a strand's name after the root's `r`
abbrev pub strand_text : List ℕ → Text
strand_text [] = []
strand_text (n ∷ behind) = (mark behind ∷ decimal n) ++ strand_text behind

-- `fault N in STRAND`
abbrev pub strand_line : ℕ → List ℕ → Text
strand_line number name = line (codes "fault " ++ decimal number ++ codes " in r" ++ strand_text name)

-- `script at LINE`
abbrev pub script_line : ℕ → Text
script_line at = line (codes "script at " ++ decimal at)

-- a choice, as a script has it
abbrev pub choice_text : Choice → Text
choice_text (choices.Run worker) = codes "run " ++ decimal worker
choice_text (choices.Steal worker place) = codes "steal " ++ decimal worker ++ codes " " ++ decimal place

abbrev pub worker_of : Choice → ℕ
worker_of (choices.Run worker) = worker
worker_of (choices.Steal worker place) = worker

-- why a choice of this worker can't be made
abbrev pub reason_text : ℕ → Reason → Text
reason_text worker reasons.NoWorker = codes "there is no worker " ++ decimal worker
reason_text worker reasons.NoFrame = codes "worker " ++ decimal worker ++ codes " has no frame"
reason_text worker reasons.HasFrame = codes "worker " ++ decimal worker ++ codes " has a frame"
reason_text worker (reasons.Offers count) = codes "the number of offers is " ++ decimal count
reason_text worker reasons.Ended = codes "the run has ended"

-- `choice at LINE: CHOICE, but REASON`
abbrev pub skip_text : Skip → Text
skip_text skip =
    codes "choice at " ++ decimal skip.line ++ codes ": " ++ choice_text skip.choice ++ codes ", but " ++ reason_text (worker_of skip.choice) skip.reason

-- `skipped choices: N; first: ..`, or nothing if none was skipped
abbrev pub skips_text : ℕ → Option Skip → Text
skips_text count None = []
skips_text count (Some skip) = line (codes "skipped choices: " ++ decimal count ++ codes "; first: " ++ skip_text skip)

-- a number that isn't negative, after a space
abbrev pub place_text : ℕ → Text
place_text place = 32 ∷ decimal place

-- `refused N`, and a space and a number for each place
abbrev pub refused_line : ℕ → List ℕ → Text
refused_line number places = line (codes "refused " ++ decimal number ++ flat_map place_text places)

-- `race-free`, and how many calls weren't recorded
abbrev pub race_free_line : ℕ → Text
race_free_line unseen =
    if unseen == 0 then line (codes "race-free")
    else if unseen == 1 then line (codes "race-free, but 1 call wasn't recorded")
    else line (codes "race-free, but " ++ decimal unseen ++ codes " calls weren't recorded")

-- the text for standard output
abbrev pub out_text : Reply → Text
out_text (Ended names o) = outcome_text names o
out_text (Certified certificate) = text_of certificate
out_text Accepted = line (codes "accepted")
out_text (Refused number places) = refused_line number places
out_text NotEnded = line (codes "not ended")
out_text (Settled names o) = line (codes "settled") ++ outcome_text names o
out_text (RaceFree unseen) = race_free_line unseen
out_text _ = []

-- the text for standard error; clap's text for bad words isn't specified
abbrev pub IsErrorText : Reply → Text → Type 0
IsErrorText BadWords text = Unit {0}
IsErrorText (Unreadable name) text = text ≡ line (codes "cannot read " ++ name)
IsErrorText (BadProgram number place) text = text ≡ place_line (codes "program") number place
IsErrorText (BadInput number place) text = text ≡ place_line (codes "input") number place
IsErrorText (Faulted number at) text = text ≡ place_line (codes "fault") number at
IsErrorText (FaultedIn number name) text = text ≡ strand_line number name
IsErrorText (BadScript at) text = text ≡ script_line at
IsErrorText (Unmade skip) text = text ≡ line (skip_text skip)
IsErrorText (Ended names o) text = text ≡ []
IsErrorText (Certified certificate) text = text ≡ []
IsErrorText Accepted text = text ≡ []
IsErrorText (Refused number places) text = text ≡ []
IsErrorText NotEnded text = text ≡ []
IsErrorText (Settled names o) text = text ≡ []
IsErrorText (RaceFree unseen) text = text ≡ []
IsErrorText (BadTrace number at) text = text ≡ place_line (codes "trace") number at
IsErrorText (Changed name) text = text ≡ line (codes "changed " ++ name)
IsErrorText NoMemory text = text ≡ line (codes "no memory")

-- the places that a refusal names
abbrev pub places_of : Fields → List ℕ
places_of fields.None = []
places_of (fields.One place) = place ∷ []
places_of (fields.Two earlier later) = earlier ∷ later ∷ []

abbrev pub answer_view : Answer → Reply
answer_view (answers.Outcome names outcome) = Ended names outcome
answer_view (answers.Certificate certificate) = Certified certificate
answer_view answers.Accepted = Accepted
answer_view (answers.Refused refusal) = Refused (number_of refusal) (places_of (fields_of refusal))
answer_view answers.NotEnded = NotEnded
answer_view (answers.Settled names outcome) = Settled names outcome
answer_view (answers.RaceFree unseen) = RaceFree unseen

abbrev pub failure_view : Failure → Reply
failure_view (failures.Words text) = BadWords
failure_view (failures.Unreadable name) = Unreadable name.now
failure_view (failures.Program number place) = BadProgram number place
failure_view (failures.Input number place) = BadInput number place
failure_view (failures.Run number at) = Faulted number at
failure_view (failures.Strand number name) = FaultedIn number (let n = name in n.items)
failure_view (failures.Script at) = BadScript at
failure_view (failures.Unmade skip) = Unmade skip
failure_view (failures.Trace number at) = BadTrace number at
failure_view (failures.Changed name) = Changed name.now
failure_view failures.Memory = NoMemory
