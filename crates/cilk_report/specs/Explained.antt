-- The replies of `serve_explained` to command lines that `serve` doesn't have, and its
-- explanations.
use Rattle.std.specs.Prelude.{◌≡◌, ◌⊎◌, ◌<◌, ℕ, Bool, true, false, List, [], ◌∷◌, length, Option, Some, None, Result, Ok, Err, String, codes, string_bytes}
use Rattle.std.specs.Io.KnownBytes.{Appends}
use Rattle.cilk_findings.specs.declared.fault.CaseFault.{CaseFault}
use Rattle.cilk_findings.specs.declared.fault.CaseFault.TheVariants as faults
use Rattle.cilk_profile.specs.declared.totals.Totals.{Totals}
use Rattle.cilk_commands.specs.Files.{Failures}
use Rattle.cilk_commands.specs.Replies.{BadTrace, Ended, NoMemory, Refused, Reply, Text, line, status_of}
use Rattle.cilk_commands.specs.Serving.{Answers, IsOrNoMemory, RunReply, Serves, ShowsError, WordsFail, world}
use Rattle.cilk_commands.specs.Streams.{AppendsFront, AppendsPart}
use Rattle.cilk_commands.specs.declared.reply.TheConstants.{NO_MEMORY}
use Rattle.cilk_parser.specs.Scripts.{IsScript}
use Rattle.cilk_parser.specs.declared.script.LineOrder.{LineOrder}
use Rattle.cilk_parser.specs.declared.script.LineOrder.TheVariants.{Steal}
use Rattle.cilk_parser.specs.declared.script.Step.{Step}
use Rattle.cilk_messages.specs.About.{IsPage, asks_help, asks_help_on, asks_list, asks_meaning, asks_unknown, asks_version, is_about, number_asked}
use Rattle.cilk_messages.specs.Asked.{explains_itself, is_measure, is_schedule, measured_run, unflagged, words_of_check}
use Rattle.cilk_messages.specs.Batches.{Batch, batch_in, is_settling}
use Rattle.cilk_messages.specs.Words.{Judge, Origin, Requested, order_in}
use Rattle.cilk_messages.specs.declared.help.TheConstants.{HELP, VERSION}
use Rattle.cilk_messages.specs.declared.numbers.TheConstants.{TITLES}
use Rattle.cilk_profile.specs.Measured.{IsMeasureText, is_drawn}
use Rattle.cilk_report.specs.Measured.{AreTotalsOf}
use Rattle.cilk_report.specs.Settling.{SettlesEach, state}
use Rattle.cilk_report.specs.Silence.{TellsAll}

-- a trace has a fault
abbrev pub IsTraceFault : Reply → Type 0
IsTraceFault (BadTrace number at) = Unit {0}
IsTraceFault _ = ⊥

-- a trace has a race or a fault: its file may be read again for an explanation
abbrev pub IsReadAgain : Option Requested → Reply → Type 0
IsReadAgain (Some (Judge trace sites)) (Refused number places) = Unit {0}
IsReadAgain (Some (Judge trace sites)) (BadTrace number at) = Unit {0}
IsReadAgain _ _ = ⊥

-- some text follows the old one, all of it or a beginning
abbrev pub ComesBehind : Option Text → Option Text → Type 0
ComesBehind old new = (text : Text) × (is_whole : Bool) × AppendsFront is_whole old new text

-- the line in place of an explanation
abbrev pub missing_line : CaseFault → Text
missing_line faults.Memory = line (codes "explanation: no memory")
missing_line faults.Unfit = line (codes "explanation: the texts aren't those of this answer")

-- the explanation, or the line in its place
abbrev pub explanation_text : {A : Type 0} → Result (String A) CaseFault → Text
explanation_text (Ok text) = string_bytes text
explanation_text (Err fault) = missing_line fault

-- some text follows a reply with this status, but none follows a reply that is out of memory
abbrev pub Follows : ℕ → Option Text → Option Text → Type 0
Follows status old new = ComesBehind old new × (status ≡ NO_MEMORY → new ≡ old)

-- the text goes to standard output with status 0; or a write there fails, and standard error says
-- so
abbrev pub WritesText : Text → ℕ → Option Text → Option Text → Option Text → Option Text → Type 0
WritesText text status out out' err err' =
    ((status ≡ 0) × Appends out out' text × (err' ≡ err))
    ⊎ ((status ≡ 2) × AppendsPart out out' text × ((told : Bool) × AppendsFront told err err' (line (codes "cannot write"))))

-- The reply of `serve` to these words, then a text on standard error, but none after a reply that tells all, unless the words asked for
-- `more`. `reached` are the failed reads of files up to the reply: no later read fails, but for the text that follows `judge`, whose trace
-- is read again. `served.0` is the reply, also where it isn't shown for want of memory.
abbrev pub ServesThenExplains : List Text → (more : Bool) → (Text → Option Text) → Option Text → Failures → Failures → ℕ
    → Option Text → Option Text → Option Text → Option Text → Type 0
ServesThenExplains words more files input failed failed' status out out' err err' =
    (middle : Option Text) × (told : Bool) × (reached : Failures)
    × (served : Serves words (world files input failed reached) status told out out' err middle)
    × ((IsReadAgain (order_in words) served.0 → ⊥) → failed' ≡ reached) × Follows status middle err'
    × (TellsAll served.0 → more ≡ false → err' ≡ middle)

-- a reply other than the outcome of a run
abbrev pub IsNoOutcome : Reply → Type 0
IsNoOutcome (Ended names outcome) = ⊥
IsNoOutcome _ = Unit {0}

-- a reply and then some text go to standard error with the reply's status; nothing goes to standard
-- output
abbrev pub Complains : Reply → ℕ → Option Text → Option Text → Option Text → Option Text → Type 0
Complains r status out out' err err' =
    (out' ≡ out) × (status ≡ status_of r) × (middle : Option Text) × (told : Bool) × ShowsError r told err middle × Follows status middle err'

-- the text goes to standard error with status 2, all of it or a beginning; nothing goes to standard
-- output
abbrev pub WritesError : Text → ℕ → Option Text → Option Text → Option Text → Option Text → Type 0
WritesError text status out out' err err' = (out' ≡ out) × (status ≡ 2) × ((told : Bool) × AppendsFront told err err' text)

-- the page of this number, a longer text than that, goes to standard output
abbrev pub WritesPage : ℕ → Text → ℕ → Option Text → Option Text → Option Text → Option Text → Type 0
WritesPage number short status out out' err err' =
    (text : Text) × IsPage number text × (length short < length text) × WritesText text status out out' err err'

-- a longer text than this goes to standard error
abbrev pub WritesLongerError : Text → ℕ → Option Text → Option Text → Option Text → Option Text → Type 0
WritesLongerError short status out out' err err' = (text : Text) × (length short < length text) × WritesError text status out out' err err'

-- The answers to words about the tool, unless memory runs out: the version on standard output; the help, on all commands or
-- on one, on standard error; the list of all numbers, and the page of one that has a meaning, on standard output; and an
-- error for what is no such number. The help on a command, a page and an error are longer than the version.
pub record AnswersAbout (words : List Text) (status : ℕ) (out out' err err' : Option Text) : Type 0 where
  pub version : asks_version words ≡ true → WritesText VERSION.now status out out' err err' ⊎ Complains NoMemory status out out' err err'
  pub help : asks_help words ≡ true → WritesError HELP.now status out out' err err' ⊎ Complains NoMemory status out out' err err'
  pub help_on : asks_help_on words ≡ true → WritesLongerError VERSION.now status out out' err err' ⊎ Complains NoMemory status out out' err err'
  pub list : asks_list words ≡ true → WritesText TITLES.now status out out' err err' ⊎ Complains NoMemory status out out' err err'
  pub meaning : asks_meaning words ≡ true → WritesPage (number_asked words) VERSION.now status out out' err err' ⊎ Complains NoMemory status out out' err err'
  pub unknown : asks_unknown words ≡ true → WritesLongerError VERSION.now status out out' err err' ⊎ Complains NoMemory status out out' err err'

-- The replies of `measure`.
pub data Measures (words : List Text) (files : Text → Option Text) (input : Option Text) (failed failed' : Failures)
    (status : ℕ) (out out' err err' : Option Text) : Type 0 where
  -- the run ends, and a text with its totals is shown
  Measured : (program : Origin) (numbers : Option Text) (t : Totals) (text : Text) → measured_run words ≡ Some (program, numbers)
      → AreTotalsOf (world files input failed failed') program numbers t → IsMeasureText words t text → WritesText text status out out' err err'
      → Measures words files input failed failed' status out out' err err'
  -- the run ends, and a picture of it is requested that isn't drawn: standard error says why
  Undrawn : (program : Origin) (numbers : Option Text) (t : Totals) (r : Reply) → measured_run words ≡ Some (program, numbers)
      → AreTotalsOf (world files input failed failed') program numbers t → is_drawn words ≡ true → WordsFail r → Complains r status out out' err err'
      → Measures words files input failed failed' status out out' err err'
  -- the texts aren't a program and its input, or the run stops: the reply is that of `run`
  Unmeasured : (program : Origin) (numbers : Option Text) (wanted r : Reply) → measured_run words ≡ Some (program, numbers)
      → RunReply (world files input failed failed') program numbers wanted → IsNoOutcome wanted → IsOrNoMemory wanted r
      → Complains r status out out' err err' → Measures words files input failed failed' status out out' err err'
  -- the words don't name a run, and no read of a file failed
  Unnamed : (r : Reply) → measured_run words ≡ None → failed' ≡ failed → WordsFail r → Complains r status out out' err err'
      → Measures words files input failed failed' status out out' err err'
  -- out of memory, and no read of a file failed
  OutOfMemory : failed' ≡ failed → Complains NoMemory status out out' err err' → Measures words files input failed failed' status out out' err err'

-- The replies of `settle` for several programs, for every input, or in a short form.
pub data Settles (words : List Text) (files : Text → Option Text) (input : Option Text) (failed failed' : Failures)
    (status : ℕ) (out out' err err' : Option Text) : Type 0 where
  -- the words name programs, which are settled in order
  SettledEach : (b : Batch) → batch_in words ≡ Some b
      → SettlesEach b.every b.form files input b.input b.programs (state 0 failed out err) (state status failed' out' err')
      → Settles words files input failed failed' status out out' err err'
  -- the words don't name programs, and no read of a file failed
  NoPrograms : (r : Reply) → batch_in words ≡ None → failed' ≡ failed → WordsFail r → Complains r status out out' err err'
      → Settles words files input failed failed' status out out' err err'
  -- out of memory, and no read of a file failed
  NoRoom : failed' ≡ failed → Complains NoMemory status out out' err err' → Settles words files input failed failed' status out out' err err'

-- the number of a determinacy race, or of a view-read race
abbrev pub IsRaceNumber : ℕ → Type 0
IsRaceNumber number = (number ≡ 311) ⊎ (number ≡ 312)

-- the refusal of a certificate for a race
abbrev pub IsRace : Reply → Type 0
IsRace (Refused number places) = IsRaceNumber number
IsRace _ = ⊥

-- an order to steal
abbrev pub is_steal : LineOrder → Bool
is_steal (Steal worker place) = true
is_steal _ = false

-- the second step is a steal
abbrev pub steals : List Step → Bool
steals [] = false
steals (first ∷ []) = false
steals (first ∷ second ∷ steps) = is_steal second.order

-- the text is a script, and its second step is a steal
abbrev pub IsStealingScript : Text → Type 0
IsStealingScript script = (steps : List Step) × IsScript script steps × (steals steps ≡ true)

-- the replies of `schedule`, by the words of the check
pub data Schedules (words : List Text) (files : Text → Option Text) (input : Option Text) (failed failed' : Failures)
    (status : ℕ) (out out' err err' : Option Text) : Type 0 where
  -- the certificate is refused for a race, and a script with a steal is shown
  Told : (r : Reply) (script : Text) → Answers (world files input failed failed') (order_in words) r → IsRace r → IsStealingScript script
      → WritesText script status out out' err err' → Schedules words files input failed failed' status out out' err err'
  -- the reply of `check`, then a text
  Checked : ServesThenExplains words true files input failed failed' status out out' err err'
      → Schedules words files input failed failed' status out out' err err'

-- The replies of a call, given the contents of files and standard input, and the failed reads
-- before and after it.
pub data ServesExplained (words : List Text) (files : Text → Option Text) (input : Option Text) (failed failed' : Failures)
    (status : ℕ) (out out' err err' : Option Text) : Type 0 where
  -- the reply of `serve`
  Served : (told : Bool) → explains_itself (order_in words) ≡ false → Serves words (world files input failed failed') status told out out' err err'
      → ServesExplained words files input failed failed' status out out' err err'
  -- the reply of `serve`, then a text, but none after a reply that tells all
  Settling : explains_itself (order_in words) ≡ true → ServesThenExplains words false files input failed failed' status out out' err err'
      → ServesExplained words files input failed failed' status out out' err err'
  -- the words aren't a command line of `serve` and have some among them that add a text: the reply
  -- to the others, then a text
  Explained : order_in words ≡ None → length (unflagged words) < length words
      → ServesThenExplains (unflagged words) true files input failed failed' status out out' err err'
      → ServesExplained words files input failed failed' status out out' err err'
  -- the words aren't a command line of `serve` and measure a run
  Measuring : order_in words ≡ None → is_measure words ≡ true → Measures words files input failed failed' status out out' err err'
      → ServesExplained words files input failed failed' status out out' err err'
  -- the words aren't a command line of `serve` and request a schedule
  Scheduling : order_in words ≡ None → is_schedule words ≡ true → Schedules (words_of_check words) files input failed failed' status out out' err err'
      → ServesExplained words files input failed failed' status out out' err err'
  -- the words aren't a command line of `serve` and settle several programs or all inputs, or use a short form
  SettlingEach : order_in words ≡ None → is_settling words ≡ true → Settles words files input failed failed' status out out' err err'
      → ServesExplained words files input failed failed' status out out' err err'
  -- the words are about the tool itself, and are answered; no read of a file failed
  About : order_in words ≡ None → is_about words ≡ true → failed' ≡ failed → AnswersAbout words status out out' err err'
      → ServesExplained words files input failed failed' status out out' err err'
