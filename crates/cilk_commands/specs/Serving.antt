-- The replies that `serve` shows.
use Rattle.std.specs.Prelude.{◌≡◌, ◌<◌, ◌⊎◌, ℕ, ℤ, Bool, List, [], Option, Some, None, IfSome, codes, take}
use Rattle.std.specs.Io.KnownBytes.{Appends}
use Rattle.cilk_commands.specs.declared.streams.TheConstants.{MAX_READ}
use Rattle.cilk_commands.specs.Files.{Failures, HasFailed, IsHeld}
use Rattle.cilk_parser.specs.Inputs.{IsInput}
use Rattle.cilk_checker.specs.Judging.{IsProgramText, Meant}
use Rattle.cilk_commands.specs.Replies.{BadWords, IsErrorText, NoMemory, Reply, Text, Unreadable, line, out_text, status_of}
use Rattle.cilk_commands.specs.Shown.{CertifyShows, CheckShows, InputFails, PlayShows, ProgramFails, RunShows, SettleShows}
use Rattle.cilk_commands.specs.Streams.{AppendsFront, AppendsPart}
use Rattle.cilk_commands.specs.Traces.{JudgeShows}
use Rattle.cilk_messages.specs.declared.words.Manner.{Manner}
use Rattle.cilk_messages.specs.Words.{Requested, Certify, Check, File, Judge, Play, Run, Settle, Origin, Standard, order_in}

-- standard input gives the text: all of it, up to the limit
abbrev pub IsReceived : Option Text → Text → Type 0
IsReceived known text = IfSome known (λ all. text ≡ take MAX_READ all)

-- the program text of an origin, given the contents of files and of standard input
abbrev pub GivesProgram : (Text → Option Text) → Option Text → Origin → Text → Type 0
GivesProgram files input Standard text = IsReceived input text
GivesProgram files input (File path) text = IsHeld (files path) text

-- the input text: that of a file, or the empty text
abbrev pub GivesInput : (Text → Option Text) → Option Text → Text → Type 0
GivesInput files (Some path) text = IsHeld (files path) text
GivesInput files None text = text ≡ []

-- the failure to read a whole file: its device failed, and that of no other file; or memory ran out, and no
-- read failed
abbrev pub FileFails : Failures → Failures → Text → Reply → Type 0
FileFails failed failed' path (Unreadable name) = (name ≡ path) × HasFailed path failed failed' × (failed'.at ≡ 0)
FileFails failed failed' path NoMemory = failed' ≡ failed
FileFails failed failed' path _ = ⊥

-- the failure to read standard input; no contract describes its device
abbrev pub StandardFails : Reply → Type 0
StandardFails (Unreadable name) = name ≡ codes "-"
StandardFails NoMemory = Unit {0}
StandardFails _ = ⊥

-- the failure to read a program text; for standard input no file is read
abbrev pub OriginFails : Failures → Failures → Origin → Reply → Type 0
OriginFails failed failed' Standard r = (failed' ≡ failed) × StandardFails r
OriginFails failed failed' (File path) r = FileFails failed failed' path r

-- the empty input can't fail
abbrev pub InputFileFails : Failures → Failures → Option Text → Reply → Type 0
InputFileFails failed failed' (Some path) r = FileFails failed failed' path r
InputFileFails failed failed' None r = ⊥

-- The surroundings of a call: the contents of files and of standard input, as far as they are
-- known, and the failed reads of files before the call and up to its end. A trace on standard input is
-- the file `-`.
pub record Surroundings : Type 0 where
  pub files : Text → Option Text
  pub input : Option Text
  pub failed : Failures
  pub failed' : Failures

abbrev pub world : (Text → Option Text) → Option Text → Failures → Failures → Surroundings
world files input failed failed' = record { files = files; input = input; failed = failed; failed' = failed' }

-- the program and the numbers that the texts of files and standard input mean
pub record AreGiven (w : Surroundings) (program : Origin) (input : Option Text) (p : Meant) (inputs : List ℤ) : Type 0 where
  pub text : Text
  pub text_is : GivesProgram w.files w.input program text
  pub program_is : IsProgramText text p
  pub numbers : Text
  pub numbers_are : GivesInput w.files input numbers
  pub input_is : IsInput numbers inputs

-- The program text is read and judged, then the input text; the reply is the first failure. No
-- read of a later file has failed, since none was made.
pub data NoneGiven (w : Surroundings) (program : Origin) (input : Option Text) (r : Reply) : Type 0 where
  ProgramUnread : OriginFails w.failed w.failed' program r → NoneGiven w program input r
  ProgramRefused : (text : Text) → GivesProgram w.files w.input program text → ProgramFails text r → w.failed' ≡ w.failed
      → NoneGiven w program input r
  InputUnread : (text : Text) (p : Meant) → GivesProgram w.files w.input program text → IsProgramText text p
      → InputFileFails w.failed w.failed' input r → NoneGiven w program input r
  InputRefused : (text : Text) (p : Meant) (numbers : Text) → GivesProgram w.files w.input program text → IsProgramText text p
      → GivesInput w.files input numbers → InputFails numbers r → w.failed' ≡ w.failed → NoneGiven w program input r

-- the reply to a command: both texts are judged, and then `IsShown` holds of the reply
pub data JudgedReply (IsShown : Meant → List ℤ → Reply → Type 0) (w : Surroundings) (program : Origin) (input : Option Text)
    (r : Reply) : Type 0 where
  Unjudged : NoneGiven w program input r → JudgedReply IsShown w program input r
  Judged : (p : Meant) (inputs : List ℤ) → AreGiven w program input p inputs → IsShown p inputs r
      → JudgedReply IsShown w program input r

-- no read of a file failed, and this holds of the reply
abbrev pub NoneFailed : Surroundings → (Meant → List ℤ → Reply → Type 0) → Meant → List ℤ → Reply → Type 0
NoneFailed w IsShown m inputs r = (w.failed' ≡ w.failed) × IsShown m inputs r

-- the reply to `run`; after both texts no file is read
abbrev pub RunReply : Surroundings → Origin → Option Text → Reply → Type 0
RunReply w program input r = JudgedReply (NoneFailed w RunShows) w program input r

-- the reply to `certify`; after both texts no file is read
abbrev pub CertifyReply : Surroundings → Text → Option Text → Reply → Type 0
CertifyReply w program input r = JudgedReply (NoneFailed w CertifyShows) w (File program) input r

-- the reply to `check`; the certificate is read after the two texts are judged
abbrev pub CheckReply : Surroundings → Text → Text → Option Text → Reply → Type 0
CheckReply w program certificate input r =
    JudgedReply (CheckShows certificate (w.files certificate) w.failed w.failed') w (File program) input r

-- the reply to `play` in this manner; the script is read after the two texts are judged
abbrev pub PlayReply : Surroundings → Text → Text → Manner → Option Text → Reply → Type 0
PlayReply w program script manner input r =
    JudgedReply (PlayShows script (w.files script) w.failed w.failed' manner) w (File program) input r

-- the reply to `settle`; after both texts no file is read
abbrev pub SettleReply : Surroundings → Text → Option Text → Reply → Type 0
SettleReply w program input r = JudgedReply (NoneFailed w SettleShows) w (File program) input r

-- the reply to `judge`; the table of sites isn't read for it
abbrev pub JudgeReply : Surroundings → Text → Reply → Type 0
JudgeReply w trace r = JudgeShows trace (w.files trace) w.failed w.failed' r

-- the program is read from standard input
abbrev pub IsStandard : Origin → Type 0
IsStandard Standard = Unit {0}
IsStandard (File path) = ⊥

-- only one order reads a program from standard input
abbrev pub ReadsStandard : Option Requested → Type 0
ReadsStandard (Some (Run program input)) = IsStandard program
ReadsStandard _ = ⊥

-- an order to play has one worker or more
abbrev pub HasWorkers : Option Requested → Type 0
HasWorkers (Some (Play program script manner input)) = 0 < manner.workers
HasWorkers _ = Unit {0}

-- the reply to words that are no order
abbrev pub WordsFail : Reply → Type 0
WordsFail BadWords = Unit {0}
WordsFail NoMemory = Unit {0}
WordsFail _ = ⊥

-- the reply to an order; for words that are none no file is read
abbrev pub Answers : Surroundings → Option Requested → Reply → Type 0
Answers w None r = (w.failed' ≡ w.failed) × WordsFail r
Answers w (Some (Run program input)) r = RunReply w program input r
Answers w (Some (Certify program input)) r = CertifyReply w program input r
Answers w (Some (Check program certificate input)) r = CheckReply w program certificate input r
Answers w (Some (Play program script manner input)) r = PlayReply w program script manner input r
Answers w (Some (Settle program input)) r = SettleReply w program input r
Answers w (Some (Judge trace sites)) r = JudgeReply w trace r

-- the reply's text for standard error is written: all of it, or `is_whole` says that a write failed
abbrev pub ShowsError : Reply → (is_whole : Bool) → Option Text → Option Text → Type 0
ShowsError r is_whole err err' = (text : Text) × IsErrorText r text × AppendsFront is_whole err err' text

-- The whole reply is written, with its status; or a write to standard output fails after a
-- beginning of the text, and standard error says so.
abbrev pub Shows : Reply → ℕ → (is_whole : Bool) → Option Text → Option Text → Option Text → Option Text → Type 0
Shows r status is_whole out out' err err' =
    ((status ≡ status_of r) × Appends out out' (out_text r) × ShowsError r is_whole err err')
    ⊎ ((status ≡ 2) × AppendsPart out out' (out_text r) × AppendsFront is_whole err err' (line (codes "cannot write")))

-- the reply, or out of memory while its text was made
abbrev pub IsOrNoMemory : Reply → Reply → Type 0
IsOrNoMemory wanted r = (r ≡ wanted) ⊎ (r ≡ NoMemory)

-- the words have a reply, which is shown, or it is out of memory
abbrev pub Serves : List Text → Surroundings → ℕ → (is_whole : Bool) → Option Text → Option Text → Option Text → Option Text → Type 0
Serves words w status is_whole out out' err err' =
    (wanted : Reply) × Answers w (order_in words) wanted × (r : Reply) × IsOrNoMemory wanted r × Shows r status is_whole out out' err err'
