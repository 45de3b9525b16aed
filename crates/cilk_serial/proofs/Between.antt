-- A run while its running frame is between two instructions.
use Rattle.std.proofs.Common.{◌≡◌, ℕ, ◌+◌, ◌<◌, ◌≤◌, ℤ, List, [], ◌∷◌, ◌++◌, length, sym, ap, ◌∙◌, subst, arith, append_assoc, length-append}
use Rattle.std.proofs.lemmas.List.Elements.{All-push}
use Rattle.cilk_types.specs.declared.limits.TheConstants.{MAX_CELLS, MAX_EVENTS}
use Rattle.cilk_program.specs.declared.ask.Ask.{Ask}
use Rattle.cilk_program.specs.SerialRun.{IsInner, event_of}
use Rattle.cilk_program.specs.Syntax.{Source}
use Rattle.cilk_lower.specs.Code.{CodeView}
use Rattle.cilk_lower.specs.Machine.{Goes, Stops, Waits}
use Rattle.cilk_frames.specs.Cursor.{CursorView}
use Rattle.cilk_frames.specs.declared.cursor.Answer.{Answer}
use Rattle.cilk_frames.specs.Following.{Runs}
use Rattle.cilk_frames.specs.Moving.{move_at, told}
use Rattle.cilk_frames.proofs.Asking.{asking_fits}
use Rattle.cilk_frames.proofs.Following.{Loop, loop_begins, loop_goes, loop_stops, loop_waits, stands_on}
use Rattle.cilk_serial.specs.Going.{AddsNoFrame, Going, IsAllowed, run_of, with_cursor}
use Rattle.cilk_serial.specs.Scoped.{Frames, IsOnTop}
use Rattle.cilk_serial.specs.SoFar.{BeginsNoFrame}
use Rattle.cilk_serial.specs.States.{Answers, Tells}
use Rattle.cilk_serial.specs.declared.answer.Told.TheVariants as tolds
use Rattle.cilk_serial.specs.declared.running.Running.{Running}
use Rattle.cilk_serial.specs.declared.state.State.{State}
use Rattle.cilk_serial.proofs.Driving.{allowed, answers, cursor_moves, going_seen, inner_begins_no_frame, inner_full, inner_has}
use Rattle.cilk_serial.proofs.Homes.{on_top}

-- The run before its last event, the answer to that event's request, and what the running frame has
-- done since. `frames` are the run's but for the running frame's cursor, which is `c`.
pub record Between (code : CodeView) (p : Source) (inputs : List ℤ) (state : State) (frames : Frames) (c : CursorView) (left : ℕ) : Type 0 where
  pub before : Running
  pub going : Going code p inputs before
  pub allowed : IsAllowed p before.state before.ask
  pub inner : IsInner before.ask
  pub answer : Answer
  pub answers : Answers p going.frame before.state state before.ask answer
  pub moves : Loop code inputs before.frames.top.cursor answer before.left c left
  pub same : with_cursor before.frames c ≡ with_cursor frames c

module _ (code : CodeView) (p : Source) (inputs : List ℤ) where
  -- an event was made, and its answer has come
  pub begins : (r : Running) (state : State) (frames : Frames) (a : Answer) → (g : Going code p inputs r) → IsInner r.ask → length r.state.events.items < MAX_EVENTS → Answers p g.frame r.state state r.ask a
      → with_cursor r.frames (told r.frames.top.cursor a) ≡ with_cursor frames (told r.frames.top.cursor a) → Between code p inputs state frames (told r.frames.top.cursor a) r.left
  begins r state frames a g inner room made same =
      let fits = asking_fits code inputs p g.frame.callee r.frames.top.cursor g.history g.took r.ask r.left a g.asking (inner_has r.ask inner) made.fits in record {
        before = r;
        going = g;
        allowed = allowed p r.state r.ask (λ m. inner_full p m r.ask inner) room;
        inner = inner;
        answer = a;
        answers = made;
        moves = loop_begins code inputs r.frames.top.cursor a r.left fits;
        same = same;
      }

  module _ (state : State) (frames : Frames) (c : CursorView) (left : ℕ) (b : Between code p inputs state frames c left) where
    -- the running frame's cursor follows a behaviour
    pub runs : Runs code inputs b.before.frames.top.cursor
    runs = let asking = b.going.asking in (_, asking.stands (inner_has b.before.ask b.inner))

    module _ (c' : CursorView) (left' : ℕ) (room : c'.room ≡ c.room) (given : c'.given ≡ c.given) where
      -- the frame continues
      pub goes : move_at code inputs c left ≡ Goes c'.place c'.stack c'.held left' → Between code p inputs state frames c' left'
      goes is = record {
        before = b.before;
        going = b.going;
        allowed = b.allowed;
        inner = b.inner;
        answer = b.answer;
        answers = b.answers;
        moves = loop_goes code inputs b.before.frames.top.cursor b.answer b.before.left c left c' left' b.moves room given is;
        same = ap (λ (f : Frames). with_cursor f c') b.same;
      }

      -- the frame makes a request
      pub asks : (k : Ask) → move_at code inputs c left ≡ Waits k c'.owed c'.place c'.stack c'.held left' → Going code p inputs (run_of state frames c' k left')
      asks k is =
          let r = b.before in
          let steps = loop_waits code inputs r.frames.top.cursor b.answer r.left c left c' left' b.moves room given k is in
          subst (λ (f : Frames). Going code p inputs (record { state = state; frames = f; ask = k; left = left' })) (ap (λ (f : Frames). with_cursor f c') b.same)
          (answers code p inputs r state b.answer c' k left' b.going b.allowed b.inner b.answers (λ callee history took. stands_on code inputs r.frames.top.cursor b.answer r.left k c' left' steps p callee history took))

    -- the frame makes its last request
    pub stops : (c' : CursorView) (left' : ℕ) (k : Ask) → move_at code inputs c left ≡ Stops k left' → Going code p inputs (run_of state frames c' k left')
    stops c' left' k is =
        let r = b.before in
        let steps = loop_stops code inputs r.frames.top.cursor b.answer r.left c left k c' left' b.moves is in
        subst (λ (f : Frames). Going code p inputs (record { state = state; frames = f; ask = k; left = left' })) (ap (λ (f : Frames). with_cursor f c') b.same)
        (answers code p inputs r state b.answer c' k left' b.going b.allowed b.inner b.answers (λ callee history took. stands_on code inputs r.frames.top.cursor b.answer r.left k c' left' steps p callee history took))

-- the same, of an equal cursor and as many ticks
pub still : (code : CodeView) (p : Source) (inputs : List ℤ) (state : State) (frames : Frames) (c c' : CursorView) (left left' : ℕ) → c' ≡ c → left' ≡ left → Between code p inputs state frames c left → Between code p inputs state frames c' left'
still code p inputs state frames c c' left left' cursor ticks b =
    subst (λ n. Between code p inputs state frames c' n) (sym ticks) (subst (λ (c : CursorView). Between code p inputs state frames c left) (sym cursor) b)

-- the frame on top is the same with any cursor
pub on_top_still : (code : CodeView) (p : Source) (inputs : List ℤ) (state : State) (frames : Frames) (c : CursorView) (k : Ask) (left : ℕ) → (g : Going code p inputs (run_of state frames c k left)) → IsOnTop frames g.frame
on_top_still code p inputs state frames c k left g =
    let seen = going_seen code p inputs (run_of state frames c k left) g in
    on_top p frames g.frame g.parents (record { scoped = cursor_moves p (record frames.top { cursor = c }) frames.top.cursor g.frame g.parents seen.scoped; waits = seen.waits })

pub few_cells : (code : CodeView) (p : Source) (inputs : List ℤ) (r : Running) → Going code p inputs r → length r.state.cells.items ≤ MAX_CELLS
few_cells code p inputs r g = let shows = g.shows in omega (arith, shows.cells, g.small)

-- The running frame has made events since the run began at `start`, and is between two instructions.
pub record Stretch (code : CodeView) (p : Source) (inputs : List ℤ) (start state : State) (frames : Frames) (c : CursorView) (left : ℕ) : Type 0 where
  pub between : Between code p inputs state frames c left
  pub counted : length state.events.items ≤ MAX_EVENTS
  pub later : AddsNoFrame start state

-- one more event, whose answer has come
pub one_more_event : (code : CodeView) (p : Source) (inputs : List ℤ) (start : State) (r : Running) (state : State) (frames : Frames) (a : Answer) (c : CursorView) → AddsNoFrame start r.state → (g : Going code p inputs r) → Tells p g.frame r.state state r.ask (tolds.Goes a)
    → c ≡ told r.frames.top.cursor a → with_cursor r.frames c ≡ with_cursor frames c → Stretch code p inputs start state frames c r.left × (length state.events.items ≡ length r.state.events.items + 1)
one_more_event code p inputs start r state frames a c later g tells is same =
    let made = tells.2.makes g.memory g.shows in
    let es = made.1.events in
    let e = event_of g.frame g.memory r.ask in
    let count = ap length es ∙ length-append r.state.events.items (e ∷ []) in
    let between = begins code p inputs r state frames a g tells.0 tells.1 tells.2 (ap (λ (c : CursorView). with_cursor r.frames c) (sym is) ∙ same ∙ ap (λ (c : CursorView). with_cursor frames c) is) in (
      record {
        between = subst (λ (c : CursorView). Between code p inputs state frames c r.left) (sym is) between;
        counted = omega (arith, count, tells.1);
        later = (
          later.0 ++ e ∷ [],
          es ∙ ap (λ l. l ++ e ∷ []) later.1 ∙ append_assoc start.events.items later.0 (e ∷ []),
          All-push BeginsNoFrame later.0 e later.2 (inner_begins_no_frame g.frame g.memory r.ask tells.0),
        );
      },
      omega (arith, count),
    )
