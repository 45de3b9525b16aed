-- The replies of `serve`.
use Rattle.std.specs.Prelude.{◌≡◌, ◌<◌, ◌&&◌, ℕ, Bool, true, false, not, List, [], ◌∷◌, length, Option, Some, None, codes}
use Rattle.std.specs.Str.{bytes_eq}
use Rattle.cilk_messages.specs.Asked.{explains_itself, is_help, is_measure, is_schedule, unflagged, words_of_check}
use Rattle.cilk_report.specs.Explained.{AnswersAbout, Follows, Measures, Schedules, ServesExplained, ServesThenExplains, Settles}
use Rattle.cilk_messages.specs.About.{is_about}
use Rattle.cilk_messages.specs.Batches.{is_settling}
use Rattle.cilk_commands.specs.Files.{Failures}
use Rattle.cilk_commands.specs.Replies.{Reply, Text}
use Rattle.cilk_commands.specs.Serving.{IsOrNoMemory, JudgedReply, Shows, Surroundings, WordsFail, world}
use Rattle.cilk_messages.specs.Words as tool
use Rattle.cilk_messages.specs.Words.{File}
use Rattle.cilk_messages.specs.CheckWords.{check_in, is_helped}
use Rattle.cilk_tool.specs.Helped.{HelpedThenExplains, IsHelpedReply}
use Rattle.cilk_tool.specs.Shown.{ThreadsShow}
use Rattle.cilk_messages.specs.ThreadsWords.{Requested, order_in}

-- the first word is `threads`, and more follows than one request for help
abbrev pub is_threads : List Text → Bool
is_threads [] = false
is_threads (w ∷ words) = bytes_eq w (codes "threads") && not (is_help words)

-- the answer to an order of `threads`; for words that are none no file is read
abbrev pub Answers : Surroundings → Option Requested → Reply → Type 0
Answers w None r = (w.failed' ≡ w.failed) × WordsFail r
Answers w (Some asked) r = JudgedReply (ThreadsShow w.files w.failed w.failed' asked) w (File asked.program) asked.input r

-- the words of `threads` are answered, and the answer is shown, or it is out of memory
abbrev pub ServesThreads : List Text → Surroundings → ℕ → (is_whole : Bool) → Option Text → Option Text → Option Text → Option Text → Type 0
ServesThreads words w status is_whole out out' err err' =
    (wanted : Reply) × Answers w (order_in words) wanted × (r : Reply) × IsOrNoMemory wanted r × Shows r status is_whole out out' err err'

-- the same, and a text on standard error after it
abbrev pub ThreadsThenExplains : List Text → (Text → Option Text) → Option Text → Failures → Failures → ℕ
    → Option Text → Option Text → Option Text → Option Text → Type 0
ThreadsThenExplains words files input failed failed' status out out' err err' =
    (middle : Option Text) × (told : Bool) × ServesThreads words (world files input failed failed') status told out out' err middle
    × Follows status middle err'

-- The replies to a command line of `threads`.
pub data IsThreadsReply (words : List Text) (files : Text → Option Text) (input : Option Text) (failed failed' : Failures)
    (status : ℕ) (out out' err err' : Option Text) : Type 0 where
  -- the words are answered
  Plain : (told : Bool) → ServesThreads words (world files input failed failed') status told out out' err err'
      → IsThreadsReply words files input failed failed' status out out' err err'
  -- the words have no order and `--explain` is among them: the others are answered, then a text
  -- follows
  Explained : order_in words ≡ None → length (unflagged words) < length words
      → ThreadsThenExplains (unflagged words) files input failed failed' status out out' err err'
      → IsThreadsReply words files input failed failed' status out out' err err'

-- The replies of a call, given the contents of files and standard input, and the failed reads
-- before and after it.
pub data ServesParallel (words : List Text) (files : Text → Option Text) (input : Option Text) (failed failed' : Failures)
    (status : ℕ) (out out' err err' : Option Text) : Type 0 where
  -- `threads` is requested
  Threads : is_threads words ≡ true → IsThreadsReply words files input failed failed' status out out' err err'
      → (order_in words ≡ None → length (unflagged words) < length words → ThreadsThenExplains (unflagged words) files input failed failed' status out out' err err')
      → ServesParallel words files input failed failed' status out out' err err'
  -- `check` with helpers is requested: the reply is that without them
  Helped : is_threads words ≡ false → is_helped words ≡ true → IsHelpedReply words (world files input failed failed') status out out' err err'
      → (check_in words ≡ None → length (unflagged words) < length words
      → HelpedThenExplains (unflagged words) (world files input failed failed') status out out' err err')
      → ServesParallel words files input failed failed' status out out' err err'
  -- other command lines are served by `serve_explained`
  Others : is_threads words ≡ false → is_helped words ≡ false → ServesExplained words files input failed failed' status out out' err err'
      → (tool.order_in words ≡ None → is_measure words ≡ true → Measures words files input failed failed' status out out' err err')
      → (tool.order_in words ≡ None → is_measure words ≡ false → is_schedule words ≡ true
      → Schedules (words_of_check words) files input failed failed' status out out' err err')
      → (tool.order_in words ≡ None → is_measure words ≡ false → is_schedule words ≡ false → is_settling words ≡ true
      → Settles words files input failed failed' status out out' err err')
      → (tool.order_in words ≡ None → is_measure words ≡ false → is_schedule words ≡ false → is_settling words ≡ false → is_about words ≡ false
      → length (unflagged words) < length words → ServesThenExplains (unflagged words) true files input failed failed' status out out' err err')
      → (tool.order_in words ≡ None → is_measure words ≡ false → is_schedule words ≡ false → is_settling words ≡ false → is_about words ≡ true
      → AnswersAbout words status out out' err err')
      → (explains_itself (tool.order_in words) ≡ true → ServesThenExplains words false files input failed failed' status out out' err err')
      → ServesParallel words files input failed failed' status out out' err err'
