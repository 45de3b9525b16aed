-- The notes of frames that are replayed independently.
use Rattle.std.specs.Prelude.{◌≡◌, ℕ, ◌+◌, ◌<◌, ◌≤◌, ℤ, List, [], ◌∷◌, Bool, true, false, Option, Some, None, drop, length, slice_get}
use Rattle.cilk_types.specs.declared.limits.TheConstants.{MAX_TICKS}
use Rattle.cilk_program.specs.declared.ask.Ask.{Ask}
use Rattle.cilk_program.specs.declared.ask.Ask.TheVariants.{Begin}
use Rattle.cilk_program.specs.declared.ask.Callee.{Callee}
use Rattle.cilk_program.specs.Inside.{CalleeIsFit}
use Rattle.cilk_program.specs.Syntax.{Source}
use Rattle.cilk_lower.specs.Code.{CodeView}
use Rattle.cilk_lower.specs.declared.code.Owed.{Owed}
use Rattle.cilk_lower.specs.declared.code.Owed.TheVariants.{Nothing, Word}
use Rattle.cilk_program.specs.Ticks.{IsWithin}
use Rattle.cilk_frames.specs.declared.cursor.Answer.{Answer}
use Rattle.cilk_frames.specs.declared.cursor.Answer.TheVariants.{Done, Value}
use Rattle.cilk_frames.specs.Cursor.{CursorView}
use Rattle.cilk_frames.specs.Following.{GoesOn, Stands, Steps, owed_for}
use Rattle.cilk_helpers.specs.Asked.{NoteView, answer_with}

-- A frame at this cursor, with these ticks left, makes the asks of the notes if it receives their
-- answers.
abbrev pub AreNotes : CodeView → List ℤ → CursorView → ℕ → List NoteView → Type 0
AreNotes code inputs c left [] = Unit {0}
AreNotes code inputs c left (n ∷ ns) = (d : CursorView) × Steps code inputs c n.told left n.ask d n.left × AreNotes code inputs d n.left ns

-- the remaining words after an answer that brings what is owed
abbrev pub words_after : Owed → List ℤ → List ℤ
words_after Nothing words = words
words_after Word words = drop 1 words

-- The first note has the answer `next`, and each later one has the answer to the ask before, taken
-- from the words. `words'` remain at the end, and `next'` is the answer after the last note.
abbrev pub AreTold : List ℤ → Option Answer → List NoteView → List ℤ → Option Answer → Type 0
AreTold words next [] words' next' = (words' ≡ words) × (next' ≡ next)
AreTold words next (n ∷ ns) words' next' = (next ≡ Some n.told) × AreTold (words_after (owed_for n.ask) words) (answer_with n.ask (slice_get words 0)) ns words' next'

-- the answer is a word
abbrev pub tells_word : Option Answer → Bool
tells_word None = false
tells_word (Some Done) = false
tells_word (Some (Value w)) = true

-- Notes of a frame from its beginning that reads these words: `most` notes, or fewer if the last
-- has no answer.
pub record GoAsFar (words : List ℤ) (most : ℕ) (ns : List NoteView) : Type 0 where
  pub words' : List ℤ
  pub next : Option Answer
  pub told : AreTold words (Some Done) ns words' next
  pub few : length ns ≤ most
  pub whole : length ns < most → next ≡ None

-- These are notes of a frame of this callee from its beginning, with all ticks of a run.
pub record IsReplay (code : CodeView) (p : Source) (inputs : List ℤ) (callee : Callee) (ns : List NoteView) : Type 0 where
  pub cursor : CursorView
  pub stands : CalleeIsFit p callee → Stands code inputs p callee cursor [] 0
  pub owes : cursor.owed ≡ owed_for Begin
  pub notes : AreNotes code inputs cursor MAX_TICKS ns

-- A frame makes the same ask without the ticks that it doesn't need.
abbrev pub NotesAreWithinFewerTicks : Type 0
NotesAreWithinFewerTicks =
    (code : CodeView) (p : Source) (inputs : List ℤ) (c d : CursorView) (told : Answer) (k : Ask) (left left' spare : ℕ)
    → Steps code inputs c told (left + spare) k d (left' + spare) → IsWithin k
    → (callee : Callee) (history : List ℤ) (took : ℕ) → Stands code inputs p callee c history took
    → GoesOn code inputs c told left k d left' p callee history took
