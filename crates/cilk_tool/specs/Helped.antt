-- The replies of `check` with `--helpers`.
use Rattle.std.specs.Prelude.{◌≡◌, ◌<◌, ℕ, Bool, List, Option, Some, None, length}
use Rattle.cilk_report.specs.Explained.{Follows}
use Rattle.cilk_messages.specs.Asked.{unflagged}
use Rattle.cilk_commands.specs.Replies.{Reply, Text}
use Rattle.cilk_commands.specs.Serving as tool
use Rattle.cilk_commands.specs.Serving.{IsOrNoMemory, Shows, Surroundings, WordsFail}
use Rattle.cilk_messages.specs.CheckWords.{Helped, check_in}

-- the answer to an order with helpers: that of `check` without them; for words that are none no file is
-- read
abbrev pub Answers : Surroundings → Option Helped → Reply → Type 0
Answers w None r = (w.failed' ≡ w.failed) × WordsFail r
Answers w (Some asked) r = tool.Answers w (Some asked.check) r

-- the words are answered, and the answer is shown, or it is out of memory
abbrev pub ServesHelped : List Text → Surroundings → ℕ → (is_whole : Bool) → Option Text → Option Text → Option Text → Option Text → Type 0
ServesHelped words w status is_whole out out' err err' =
    (wanted : Reply) × Answers w (check_in words) wanted × (r : Reply) × IsOrNoMemory wanted r × Shows r status is_whole out out' err err'

-- the same, and a text on standard error after it
abbrev pub HelpedThenExplains : List Text → Surroundings → ℕ → Option Text → Option Text → Option Text → Option Text → Type 0
HelpedThenExplains words w status out out' err err' =
    (middle : Option Text) × (told : Bool) × ServesHelped words w status told out out' err middle × Follows status middle err'

-- The replies to a command line of `check` with `--helpers`, with the failed reads before and after
-- the call.
pub data IsHelpedReply (words : List Text) (w : Surroundings) (status : ℕ) (out out' err err' : Option Text) : Type 0 where
  -- the words are answered
  Plain : (told : Bool) → ServesHelped words w status told out out' err err' → IsHelpedReply words w status out out' err err'
  -- the words have no order and `--explain` is among them: the others are answered, then a text
  -- follows
  Explained : check_in words ≡ None → length (unflagged words) < length words → HelpedThenExplains (unflagged words) w status out out' err err'
      → IsHelpedReply words w status out out' err err'
