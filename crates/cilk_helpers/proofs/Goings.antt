-- A serial run is retold, event by event: `retold_inner`, an event after which the frame continues;
-- `retold_child`, a frame that begins; `retold_return`, one that ends above another; `retold_end`,
-- the first frame's end; `runs_are_retold`, the law.
use Rattle.std.proofs.Common.{◌≡◌, ℕ, ◌+◌, ◌-◌, ◌≤◌, ℤ, List, [], ◌∷◌, sym, ap, ◌∙◌, subst, arith}
use Rattle.std.specs.Prelude.{IsTrue}
use Rattle.cilk_types.specs.declared.invocation.Invocation.{Invocation}
use Rattle.cilk_types.specs.declared.limits.TheConstants.{MAX_TICKS}
use Rattle.cilk_program.specs.declared.ask.Ask.TheVariants as asks
use Rattle.cilk_program.specs.declared.ask.Callee.{Callee}
use Rattle.cilk_program.specs.Syntax.{Source}
use Rattle.cilk_program.specs.SerialRun.{IsInner, cells_of, next_frame}
use Rattle.cilk_program.specs.WellNamed.{is_well_named}
use Rattle.cilk_lower.specs.Code.{CodeView}
use Rattle.cilk_frames.specs.declared.cursor.Answer.{Answer}
use Rattle.cilk_frames.specs.declared.cursor.Answer.TheVariants.{Done}
use Rattle.cilk_frames.specs.Cursor.{CursorView}
use Rattle.cilk_frames.specs.Following.{GoesOn, Stands, Steps}
use Rattle.cilk_serial.specs.declared.running.Running.{Running}
use Rattle.cilk_serial.specs.declared.state.State.{State}
use Rattle.cilk_serial.specs.Going.{IsAllowed, HasEnded}
use Rattle.cilk_serial.specs.Scoped.{Activation, Frames, Parent, Scoped, waiting}
use Rattle.cilk_serial.specs.States.{Answers, Begins}
use Rattle.cilk_serial.proofs.Driving.{answers, invokes, closes, resumes, last_ends}
use Rattle.cilk_helpers.specs.Asked.{NoteView}
use Rattle.cilk_helpers.specs.Notes.{AreNotes, IsReplay}
use Rattle.cilk_helpers.proofs.Within.{within}
use Rattle.cilk_helpers.specs.Retold.{Held, Holds, HoldAll, IsTaken, Retold, Closed, RunsAreRetold, goes_to, held}

-- ---- ticks

-- with fewer left to the run
all_fewer_left : (code : CodeView) (inputs : List ℤ) (left left' : ℕ) (list : List Activation) (all : List Held) → left' ≤ left → HoldAll code inputs left list all → HoldAll code inputs left' list all
all_fewer_left code inputs left left' [] [] low h = tt
all_fewer_left code inputs left left' [] (x ∷ all) low h = absurd h
all_fewer_left code inputs left left' (a ∷ list) [] low h = absurd h
all_fewer_left code inputs left left' (a ∷ list) (x ∷ all) low h =
    let one = h.0 in
    let enough = one.enough in
    (record { enough = omega (arith, low, enough); notes = one.notes }, all_fewer_left code inputs left left' list all low h.1)

-- a note as a step of the run: its ticks are taken from those that the run has left
record Taken (code : CodeView) (p : Source) (inputs : List ℤ) (left : ℕ) (a : Activation) (n : NoteView) (ns : List NoteView) (left' : ℕ) : Type 0 where
  cursor : CursorView
  on : (callee : Callee) (history : List ℤ) (took : ℕ) → Stands code inputs p callee a.cursor history took → GoesOn code inputs a.cursor n.told left n.ask cursor left' p callee history took
  holds : Holds code inputs left' (record a { cursor = cursor }) (held n.left ns)
  low : left' ≤ left

taken : (code : CodeView) (p : Source) (inputs : List ℤ) (left mine : ℕ) (a : Activation) (n : NoteView) (ns : List NoteView) (left' : ℕ) → Holds code inputs left a (held mine (n ∷ ns)) → IsTaken left mine n left' → Taken code p inputs left a n ns left'
taken code p inputs left mine a n ns left' h t =
    let d = h.notes.0 in
    let step = h.notes.1 in
    let less = t.less in
    let spent = t.spent in
    let enough = h.enough in
    let all : mine ≡ left + (mine - left) = omega (arith, enough) in
    let rest : n.left ≡ left' + (mine - left) = omega (arith, less, spent, enough) in
    let step' : Steps code inputs a.cursor n.told (left + (mine - left)) n.ask d (left' + (mine - left)) =
    subst (λ (l : ℕ). Steps code inputs a.cursor n.told (left + (mine - left)) n.ask d l) rest (subst (λ (l : ℕ). Steps code inputs a.cursor n.told l n.ask d n.left) all step) in
    record {
      cursor = d;
      on = within code p inputs a.cursor d n.told n.ask left left' (mine - left) step' t.within;
      holds = record { enough = omega (arith, less, spent, enough); notes = h.notes.2 };
      low = omega (arith, spent);
    }

-- ---- an event after which the frame continues

retold_inner : (code : CodeView) (p : Source) (inputs : List ℤ) (r : Running) (s' : State) (mine : ℕ) (n : NoteView) (ns : List NoteView) (below : List Held) (left' : ℕ)
    → (h : Retold code p inputs r (held mine (n ∷ ns)) below) → IsAllowed p r.state r.ask → IsInner r.ask
    → Answers p h.going.frame r.state s' r.ask n.told → IsTaken r.left mine n left'
    → (d : CursorView) × Retold code p inputs (goes_to s' r.frames d n.ask left') (held n.left ns) below
retold_inner code p inputs r s' mine n ns below left' h allowed inner told t =
    let took = taken code p inputs r.left mine r.frames.top n ns left' h.holds t in
    let low = took.low in
    let few = h.few in (
      took.cursor,
      record {
        going = answers code p inputs r s' n.told took.cursor n.ask left' h.going allowed inner told took.on;
        holds = took.holds;
        waits = all_fewer_left code inputs r.left left' (waiting r.frames) below low h.waits;
        few = omega (arith, low, few);
      },
    )

-- ---- a frame with a replay begins

retold_child : (code : CodeView) (p : Source) (inputs : List ℤ) (r : Running) (s' : State) (frames : Frames) (how : Invocation) (callee : Callee) (own : Held) (child : List NoteView) (below : List Held)
    → IsTrue (is_well_named p) → (h : Retold code p inputs r own below) → IsAllowed p r.state r.ask
    → r.ask ≡ asks.Invoke how callee → Begins r.state s' how (cells_of p callee) → waiting frames ≡ r.frames.top ∷ waiting r.frames
    → (replay : IsReplay code p inputs callee child) → frames.top.cursor ≡ replay.cursor
    → ((q : Parent) → q.frame ≡ h.going.frame → Scoped p frames.top (next_frame p h.going.frame.scope h.going.memory callee) (q ∷ h.going.parents))
    → Retold code p inputs (record { state = s'; frames = frames; ask = asks.Begin; left = r.left }) (held MAX_TICKS child) (own ∷ below)
retold_child code p inputs r s' frames how callee own child below well h allowed is made wait replay same scoped =
    record {
      going = invokes code p inputs r s' frames how callee well h.going allowed is made wait
          (λ fit. subst (λ (c : CursorView). Stands code inputs p callee c [] 0) (sym same) (replay.stands fit))
          (ap (λ (c : CursorView). c.owed) same ∙ replay.owes) scoped;
      holds = record { enough = h.few; notes = subst (λ (c : CursorView). AreNotes code inputs c MAX_TICKS child) (sym same) replay.notes };
      waits = subst (λ (list : List Activation). HoldAll code inputs r.left list (own ∷ below)) (sym wait) (h.holds, h.waits);
      few = h.few;
    }

-- ---- a frame ends

-- the suspended parent continues
retold_return : (code : CodeView) (p : Source) (inputs : List ℤ) (r : Running) (s' : State) (v : ℤ) (frames : Frames) (own : Held) (mine : ℕ) (n : NoteView) (ns : List NoteView) (below : List Held) (left' : ℕ)
    → (h : Retold code p inputs r own (held mine (n ∷ ns) ∷ below)) → IsAllowed p r.state r.ask → r.ask ≡ asks.End v → Closed p r s'
    → waiting r.frames ≡ frames.top ∷ waiting frames → n.told ≡ Done → IsTaken r.left mine n left'
    → (d : CursorView) × Retold code p inputs (goes_to s' frames d n.ask left') (held n.left ns) below
retold_return code p inputs r s' v frames own mine n ns below left' h allowed is closed wait done t =
    let waits = subst (λ (list : List Activation). HoldAll code inputs r.left list (held mine (n ∷ ns) ∷ below)) wait h.waits in
    let took = taken code p inputs r.left mine frames.top n ns left' waits.0 t in
    let low = took.low in
    let few = h.few in (
      took.cursor,
      record {
        going = resumes code p inputs s' v r.left (waiting r.frames) frames took.cursor n.ask left' (closes code p inputs r s' v h.going allowed is closed.events closed.cleared) wait
            (λ callee history before stands. subst (λ (a : Answer). GoesOn code inputs frames.top.cursor a r.left n.ask took.cursor left' p callee history before) done (took.on callee history before stands));
        holds = took.holds;
        waits = all_fewer_left code inputs r.left left' (waiting frames) below low waits.1;
        few = omega (arith, low, few);
      },
    )

-- no frame waits
retold_end : (code : CodeView) (p : Source) (inputs : List ℤ) (r : Running) (s' : State) (v : ℤ) (own : Held)
    → (h : Retold code p inputs r own []) → IsAllowed p r.state r.ask → r.ask ≡ asks.End v → Closed p r s' → waiting r.frames ≡ [] → HasEnded p inputs s' v
retold_end code p inputs r s' v own h allowed is closed none =
    last_ends code p inputs s' v r.left (waiting r.frames) (closes code p inputs r s' v h.going allowed is closed.events closed.cleared) none

-- ---- the law

pub runs_are_retold : (code : CodeView) (p : Source) (inputs : List ℤ) → RunsAreRetold code p inputs
runs_are_retold code p inputs = record {
  inner = λ r s' mine n ns below left' h allowed inner told t. retold_inner code p inputs r s' mine n ns below left' h allowed inner told t;
  begins = λ r s' frames how callee own child below h well allowed is made wait replay same scoped.
      retold_child code p inputs r s' frames how callee own child below well h allowed is made wait replay same scoped;
  returns = λ r s' v frames own mine n ns below left' h allowed is closed wait done t.
      retold_return code p inputs r s' v frames own mine n ns below left' h allowed is closed wait done t;
  ends = λ r s' v own h allowed is closed none. retold_end code p inputs r s' v own h allowed is closed none;
}
