-- Notes that are made one after the other.
--
-- - `Goes`, `are_notes`, `goes_on`: a frame goes from one cursor to another, and one ask further;
-- - `answered`, `of_some`: an answer brings what the frame is owed.
use Rattle.std.proofs.Common.{◌≡◌, ℕ, ◌-◌, ℤ, List, [], ◌∷◌, ◌++◌, Option, Some, None, IfSome, refl, sym, subst}
use Rattle.cilk_program.specs.declared.ask.Ask.{Ask}
use Rattle.cilk_program.specs.declared.ask.Ask.TheVariants as asks
use Rattle.cilk_lower.specs.declared.code.Owed.{Owed}
use Rattle.cilk_lower.specs.Code.{CodeView}
use Rattle.cilk_frames.specs.declared.cursor.Answer.{Answer}
use Rattle.cilk_frames.specs.Cursor.{CursorView}
use Rattle.cilk_frames.specs.Following.{Fits, HasAnswer, Runs, Steps, owed_for, rest, word_in}
use Rattle.cilk_helpers.specs.Asked.{NoteView, answer_with}
use Rattle.cilk_helpers.specs.Notes.{AreNotes}

-- the frame goes from one cursor to another by these notes
abbrev pub Goes : CodeView → List ℤ → CursorView → ℕ → List NoteView → CursorView → ℕ → Type 0
Goes code inputs c left [] c' left' = (c' ≡ c) × (left' ≡ left)
Goes code inputs c left (n ∷ ns) c' left' = (d : CursorView) × Steps code inputs c n.told left n.ask d n.left × Goes code inputs d n.left ns c' left'

pub are_notes : (code : CodeView) (inputs : List ℤ) (c : CursorView) (left : ℕ) (ns : List NoteView) (c' : CursorView) (left' : ℕ)
    → Goes code inputs c left ns c' left' → AreNotes code inputs c left ns
are_notes code inputs c left [] c' left' h = tt
are_notes code inputs c left (n ∷ ns) c' left' h = (h.0, h.1, are_notes code inputs h.0 n.left ns c' left' h.2)

-- one more
pub goes_on : (code : CodeView) (inputs : List ℤ) (c : CursorView) (left : ℕ) (ns : List NoteView) (c' : CursorView) (left' : ℕ) (n : NoteView) (d : CursorView)
    → Goes code inputs c left ns c' left' → Steps code inputs c' n.told left' n.ask d n.left → Goes code inputs c left (ns ++ n ∷ []) d n.left
goes_on code inputs c left [] c' left' n d h step =
    (d, subst (λ (l : ℕ). Steps code inputs c n.told l n.ask d n.left) h.1 (subst (λ (x : CursorView). Steps code inputs x n.told left' n.ask d n.left) h.0 step), (refl, refl))
goes_on code inputs c left (m ∷ ns) c' left' n d h step = (h.0, h.1, goes_on code inputs h.0 m.left ns c' left' n d h.2 step)

-- a frame that has an answer runs on, and is owed what its ask is owed
runs_on : (code : CodeView) (inputs : List ℤ) (c : CursorView) (told : Answer) (left : ℕ) (k : Ask) (d : CursorView) (left' : ℕ)
    → Steps code inputs c told left k d left' → Runs code inputs c → HasAnswer k → Runs code inputs d
runs_on code inputs c told left k d left' step runs has = (rest runs.0 (word_in told) (left - left'), step.follows runs.0 runs.1 has)

-- an answer brings what is owed
fits : (k : Ask) (word : Option ℤ) → IfSome (answer_with k word) (λ a. HasAnswer k × Fits (owed_for k) a)
fits asks.Begin word = (tt, tt)
fits (asks.Read x) None = tt
fits (asks.Read x) (Some w) = (tt, tt)
fits (asks.Write x v) word = (tt, tt)
fits (asks.Create r) word = (tt, tt)
fits (asks.Update r v) word = (tt, tt)
fits (asks.Set r v) word = (tt, tt)
fits (asks.Value r) None = tt
fits (asks.Value r) (Some w) = (tt, tt)
fits (asks.Print v) word = (tt, tt)
fits (asks.Invoke how callee) word = (tt, tt)
fits asks.Resume word = (tt, tt)
fits asks.Sync word = (tt, tt)
fits (asks.Result v) word = (tt, tt)
fits (asks.End v) word = tt
fits (asks.Fault f) word = tt

goes_with : (code : CodeView) (inputs : List ℤ) (c : CursorView) (told : Answer) (left : ℕ) (k : Ask) (d : CursorView) (left' : ℕ) (next : Option Answer)
    → Steps code inputs c told left k d left' → Runs code inputs c → IfSome next (λ a. HasAnswer k × Fits (owed_for k) a) → IfSome next (λ a. Runs code inputs d × Fits d.owed a)
goes_with code inputs c told left k d left' None step runs h = tt
goes_with code inputs c told left k d left' (Some a) step runs h =
    (runs_on code inputs c told left k d left' step runs h.0, subst (λ (o : Owed). Fits o a) (sym (step.owes h.0)) h.1)

pub answered : (code : CodeView) (inputs : List ℤ) (c : CursorView) (told : Answer) (left : ℕ) (k : Ask) (d : CursorView) (left' : ℕ) (next : Option Answer) (word : Option ℤ)
    → Steps code inputs c told left k d left' → Runs code inputs c → next ≡ answer_with k word → IfSome next (λ a. Runs code inputs d × Fits d.owed a)
answered code inputs c told left k d left' next word step runs is =
    goes_with code inputs c told left k d left' next step runs (subst (λ (o : Option Answer). IfSome o (λ a. HasAnswer k × Fits (owed_for k) a)) (sym is) (fits k word))

-- what holds of the next answer holds of the one that is there
pub of_some : (P : Answer → Type 0) (next : Option Answer) (a : Answer) → next ≡ Some a → IfSome next P → P a
of_some P next a is h = let h' : IfSome (Some a) P = subst (λ (o : Option Answer). IfSome o P) is h in h'
