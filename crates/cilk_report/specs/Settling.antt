-- `settle` for several programs, for every input, or in a short form.
use Rattle.std.specs.Prelude.{◌≡◌, ◌≢◌, ℕ, max, Bool, IsFalse, IsTrue, List, [], ◌∷◌, ◌++◌, Option, Some, None, codes}
use Rattle.std.specs.Io.KnownBytes.{Appends}
use Rattle.cilk_commands.specs.Files.{Failures}
use Rattle.cilk_commands.specs.Every.{ClaimReply, claimed_text, line_behind}
use Rattle.cilk_commands.specs.Replies.{IsErrorText, NoMemory, Reply, Text, line, status_of}
use Rattle.cilk_commands.specs.Serving.{SettleReply, ShowsError, Surroundings, world}
use Rattle.cilk_commands.specs.Streams.{AppendsFront, AppendsPart}
use Rattle.cilk_commands.specs.declared.reply.TheConstants.{NO_MEMORY, WRONG}
use Rattle.cilk_messages.specs.Batches.{heading, object_line, short_line}
use Rattle.cilk_messages.specs.declared.batch.Form.{Form}
use Rattle.cilk_messages.specs.declared.batch.Form.TheVariants.{Alone, Explained, Full, Json, Short}
use Rattle.cilk_messages.specs.declared.claim.Claim.{Claim}
use Rattle.cilk_messages.specs.declared.place.Location.{Location}
use Rattle.cilk_report.specs.Silence.{Explains}

-- ---- a reply

-- what is claimed beside a reply, if anything: only where all inputs are asked for, and it holds on them
abbrev pub IsClaimed : (every : Bool) → Surroundings → Text → Option Text → Reply → Option Claim → Type 0
IsClaimed every w program input r None = Unit {0}
IsClaimed every w program input r (Some c) = IsTrue every × ClaimReply w program input r c

-- Some explanation of a reply, and on which inputs a race or a fault is, if that is claimed. A reply that tells all has none, unless all
-- inputs are asked for.
abbrev pub IsTold : (every : Bool) → Option Claim → Reply → Text → Type 0
IsTold every None r text = IsFalse every → Explains r text
IsTold every (Some c) r text = (explanation : Text) × (text ≡ explanation ++ line_behind c r)

-- The texts for standard output and standard error that show a program's reply, given what is claimed: the reply, under a heading or not,
-- with some explanation after its text for standard error; or one line, alone, with some explanation, or with it inside, beside some place.
abbrev pub IsShown : (every : Bool) → Option Claim → Form → Text → Reply → Text → Text → Type 0
IsShown every c Full program r out err =
    (error explanation : Text) × IsErrorText r error × IsTold every c r explanation × (out ≡ heading program ++ claimed_text c r) × (err ≡ error ++ explanation)
IsShown every c Alone program r out err =
    (error explanation : Text) × IsErrorText r error × IsTold every c r explanation × (out ≡ claimed_text c r) × (err ≡ error ++ explanation)
IsShown every c Short program r out err = (error : Text) × IsErrorText r error × (out ≡ short_line program (claimed_text c r ++ error)) × (err ≡ [])
IsShown every c Explained program r out err =
    (error : Text) × IsErrorText r error × IsTold every c r err × (out ≡ short_line program (claimed_text c r ++ error))
IsShown every c Json program r out err =
    (error explanation : Text) × (place : Option Location) × IsErrorText r error × IsTold every c r explanation
    × (out ≡ object_line program (status_of r) (claimed_text c r ++ error) explanation c place) × (err ≡ [])

-- ---- one program after the other

-- what a call has reached: the greatest status so far, the failed reads, and what both streams hold
pub record State : Type 0 where
  pub status : ℕ
  pub failed : Failures
  pub out : Option Text
  pub err : Option Text

abbrev pub state : ℕ → Failures → Option Text → Option Text → State
state status failed out err = record { status = status; failed = failed; out = out; err = err }

-- the program is settled, and its reply is shown, and what is claimed; it isn't out of memory
pub record Shows (every : Bool) (form : Form) (w : Surroundings) (program : Text) (input : Option Text) (status : ℕ) (out out' err err' : Option Text) : Type 0 where
  pub reply : Reply
  pub settles : SettleReply w program input reply
  pub claim : Option Claim
  pub claimed : IsClaimed every w program input reply claim
  pub status_is : status ≡ status_of reply
  pub remains : status ≢ NO_MEMORY
  pub texts : Text × Text
  pub shown : IsShown every claim form program reply texts.0 texts.1
  pub on_out : Appends out out' texts.0
  pub on_err : Appends err err' texts.1

-- the call ends at a program: there is no memory for its reply, or a write of it fails
pub data Fails (every : Bool) (form : Form) (w : Surroundings) (program : Text) (input : Option Text) (status : ℕ) (out out' err err' : Option Text) : Type 0 where
  OutOfMemory : (wanted : Reply) (told : Bool) → SettleReply w program input wanted → status ≡ NO_MEMORY → out' ≡ out
      → ShowsError NoMemory told err err' → Fails every form w program input status out out' err err'
  Unwritten : (r : Reply) (c : Option Claim) (text error : Text) (told : Bool) → SettleReply w program input r → IsClaimed every w program input r c
      → IsShown every c form program r text error → status ≡ WRONG → AppendsPart out out' text → AppendsFront told err err' (line (codes "cannot write"))
      → Fails every form w program input status out out' err err'
  Untold : (r : Reply) (c : Option Claim) (text error : Text) → SettleReply w program input r → IsClaimed every w program input r c
      → IsShown every c form program r text error → status ≡ status_of r → Appends out out' text → AppendsPart err err' error
      → Fails every form w program input status out out' err err'

-- The programs are settled in order, each on the same input and from where the one before it ended.
-- The status is the greatest of theirs.
pub data SettlesEach (every : Bool) (form : Form) (files : Text → Option Text) (standard input : Option Text) : List Text → State → State → Type 0 where
  Done : (s : State) → SettlesEach every form files standard input [] s s
  Next : (program : Text) (programs : List Text) (status : ℕ) (s t end : State)
      → Shows every form (world files standard s.failed t.failed) program input status s.out t.out s.err t.err → t.status ≡ max s.status status
      → SettlesEach every form files standard input programs t end → SettlesEach every form files standard input (program ∷ programs) s end
  Last : (program : Text) (programs : List Text) (status : ℕ) (s t : State)
      → Fails every form (world files standard s.failed t.failed) program input status s.out t.out s.err t.err → t.status ≡ max s.status status
      → SettlesEach every form files standard input (program ∷ programs) s t
