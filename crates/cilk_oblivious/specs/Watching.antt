-- A serial run that is gone through again with marks, event by event.
use Rattle.std.specs.Prelude.{◌≡◌, ℕ, ◌+◌, ℤ, pos, Bool, false, List, [], ◌∷◌, ◌++◌, length, reverse, slice_index_or}
use Rattle.std.specs.HashSet.{contains}
use Rattle.cilk_types.specs.declared.event.Event.{Event}
use Rattle.cilk_monoid.specs.Ranges.{same_instance}
use Rattle.cilk_types.specs.declared.limits.TheConstants.{MAX_EVENTS, MAX_TICKS}
use Rattle.cilk_program.specs.declared.ask.Ask.{Ask}
use Rattle.cilk_program.specs.declared.ask.Callee.TheVariants as callees
use Rattle.cilk_program.specs.Inside.{CalleeIsFit}
use Rattle.cilk_program.specs.Syntax.{Source}
use Rattle.cilk_program.specs.SerialRun.{Transcript, Memory, Frame, Ending, Finished, Stopped, Serial, answer_to, before_root, begun, root_frame}
use Rattle.cilk_lower.specs.declared.code.Owed.TheVariants.{Nothing}
use Rattle.cilk_lower.specs.Code.{CodeView}
use Rattle.cilk_frames.specs.Cursor.{CursorView}
use Rattle.cilk_frames.specs.Following.{HasAnswer, owed_for, word_in}
use Rattle.cilk_frames.specs.declared.cursor.Answer.{Answer}
use Rattle.cilk_oblivious.specs.Open.{Labels, Covers, IsOpen, Oblivious, answer_mark, marked_by}
use Rattle.cilk_oblivious.specs.Cursors.{FrameMarks, MarkFits, StandsOpenly}
use Rattle.cilk_oblivious.specs.declared.memory.MarkedMemory.{MarkedMemory}
use Rattle.cilk_oblivious.specs.declared.step.Waiting.{Waiting}
use Rattle.cilk_oblivious.specs.declared.watch.Met.{Met}
use Rattle.cilk_oblivious.specs.declared.watch.Met.TheVariants as mets
use Rattle.cilk_oblivious.specs.declared.watch.Watch.{Watch}

-- a frame that waits for a child: its answers so far with their marks, and the ticks that it has used
pub record Parent : Type 0 where
  pub frame : Frame
  pub words : List Bool
  pub history : List ℤ
  pub marks : List Bool
  pub took : ℕ

-- the marks that memory holds, of cells by number and of reducers
abbrev pub labels_in : MarkedMemory → Labels
labels_in m = record { cells = λ n. slice_index_or m.cells.items n false; views = λ k i. contains same_instance m.views i }

-- the answer to an inner request, its mark and the labels after its event
pub record Answered (l : Labels) (ask : Ask) (sent : List Bool) (fr : Frame) (m : Memory) (a : Answer) (am : Bool) (next : Labels) : Type 0 where
  pub word : word_in a ≡ answer_to fr m ask
  pub mark : am ≡ answer_mark fr ask l
  pub fits : MarkFits a am
  pub covers : Covers (marked_by fr ask sent l) next

module _ (p : Source) (inputs : List ℤ) (hidden : ℕ → Bool) where
  -- what is left of the serial run once the running frame has ended so: for each frame that waits the
  -- rest of its run, and no events besides
  abbrev pub Unwinds : List Parent → Ending → List Event → Ending → Type 0
  Unwinds [] end rest whole = (rest ≡ []) × (end ≡ whole)
  Unwinds (q ∷ qs) (Finished v left m) rest whole =
      (r : Transcript) × (es : List Event) × (end : Ending) × (later : List Event)
      × Serial p inputs q.frame (left + q.took) (q.history ++ pos 0 ∷ []) m r es end × (rest ≡ es ++ later) × Unwinds qs end later whole
  Unwinds (q ∷ qs) (Stopped f) rest whole = Unwinds qs (Stopped f) rest whole

  -- the root's run is oblivious
  abbrev pub IsWholeSo : List Event → Ending → Labels → Type 0
  IsWholeSo es end l = (start : Labels) × Oblivious p inputs hidden (root_frame p inputs) [] MAX_TICKS [] [] (begun p callees.Root (before_root p inputs MAX_EVENTS)) start es end l

  -- if the rest of each frame that waits is oblivious, so is the root's run
  abbrev pub Closes : List Parent → List Event → Ending → Labels → Type 0
  Closes [] before end l = IsWholeSo before end l
  Closes (q ∷ qs) before (Finished v left m) l =
      (es : List Event) (end : Ending) (after : Labels) → Oblivious p inputs hidden q.frame q.words (left + q.took) (q.history ++ pos 0 ∷ []) (q.marks ++ false ∷ []) m l es end after → Closes qs (before ++ es) end after
  Closes (q ∷ qs) before (Stopped f) l = Closes qs before (Stopped f) l

  -- A point of the run: the running frame with the rest of its run, and its next request, which is
  -- open. Before it are these events, after it those.
  pub record Point (code : CodeView) (l : Labels) (cursor : CursorView) (k : FrameMarks) (ask : Ask) (sent : List Bool) (left : ℕ) (before after : List Event) (whole : Ending) (parents : List Parent) : Type 0 where
    pub frame : Frame
    pub words : List Bool
    pub history : List ℤ
    pub marks : List Bool
    pub took : ℕ
    pub memory : Memory
    pub run : Transcript
    pub events : List Event
    pub end : Ending
    pub rest : List Event
    pub serial : Serial p inputs frame (took + left) history memory run events end
    pub here : after ≡ events ++ rest
    pub unwinds : Unwinds parents end rest whole
    pub closes : (es : List Event) (end' : Ending) (l' : Labels) → Oblivious p inputs hidden frame words (took + left) history marks memory l es end' l' → Closes parents (before ++ es) end' l'
    pub asks : IsOpen p inputs hidden frame.callee words history marks (took + left) ask left sent
    pub stands : HasAnswer ask → StandsOpenly hidden code inputs p frame.callee words cursor k history marks took
    pub owes : HasAnswer ask → cursor.owed ≡ owed_for ask
    pub same : length marks ≡ length history
    pub fit : CalleeIsFit p frame.callee

  -- a cursor that waits for a child
  pub record IsWaiting (code : CodeView) (c : CursorView) (k : FrameMarks) (q : Parent) : Type 0 where
    pub stands : StandsOpenly hidden code inputs p q.frame.callee q.words c k q.history q.marks q.took
    pub owes : c.owed ≡ Nothing
    pub same : length q.marks ≡ length q.history
    pub fit : CalleeIsFit p q.frame.callee

  -- frames that wait, the topmost first
  abbrev pub AreWaiting : CodeView → List Waiting → List Parent → Type 0
  AreWaiting code [] [] = Unit {0}
  AreWaiting code [] (q ∷ qs) = ⊥
  AreWaiting code (a ∷ list) [] = ⊥
  AreWaiting code (a ∷ list) (q ∷ qs) = IsWaiting code a.cursor a.marks q × AreWaiting code list qs

  -- the run so far: these events were met, those are left
  pub record Watching (code : CodeView) (w : Watch) (before after : List Event) (whole : Ending) : Type 0 where
    pub parents : List Parent
    pub point : Point code (labels_in w.memory) w.top.cursor w.top.marks w.request.asked w.request.sent.items w.request.left before after whole parents
    pub waits : AreWaiting code (reverse w.below.items) parents

  -- what has come of an event
  abbrev pub Meets : CodeView → Met → Watch → List Event → List Event → Ending → Type 0
  Meets code mets.Goes w before after whole = Watching code w before after whole
  Meets code mets.Ended w before after whole = (l : Labels) × IsWholeSo before whole l × (after ≡ [])
  Meets code mets.Blocked w before after whole = Unit {0}
