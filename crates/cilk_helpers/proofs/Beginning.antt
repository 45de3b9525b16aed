-- A frame begins in a run that is retold.
--
-- - `alike_with`: an activation with a run's cursor;
-- - `allowed`, `fits`, `may`, `few`: the limits allow the frame, its callee is there, and it can be
--   numbered;
-- - `tells_begin`: the run continues in it; `as_many`: the depth of its parent;
-- - `tells_first`: the root's frame.
use Rattle.std.proofs.Common.{◌≡◌, suc, ◌<◌, ◌≤◌, ℤ, List, [], ◌∷◌, ◌++◌, length, map, reverse, Some, None, refl, sym, ap, ◌∙◌, subst, arith}
use Rattle.std.specs.Prelude.{IsTrue}
use Rattle.std.proofs.lemmas.List.{length-reverse}
use Rattle.cilk_types.specs.declared.invocation.Invocation.{Invocation}
use Rattle.cilk_types.specs.declared.limits.TheConstants.{MAX_EVENTS, MAX_TICKS, MAX_FRAMES, MAX_CELLS}
use Rattle.cilk_program.specs.declared.ask.Ask.{Ask}
use Rattle.cilk_program.specs.declared.ask.Ask.TheVariants as asks
use Rattle.cilk_program.specs.declared.ask.Callee.{Callee}
use Rattle.cilk_program.specs.declared.ask.Callee.TheVariants as callees
use Rattle.cilk_program.specs.Inside.{CalleeIsFit}
use Rattle.cilk_program.specs.Syntax.{Source}
use Rattle.cilk_program.specs.SerialRun.{Memory, before_root, begun, cells_of, crowded, invocation, next_frame, refused, root_frame}
use Rattle.cilk_program.specs.WellNamed.{is_well_named}
use Rattle.cilk_lower.specs.Behaves.{Behaves}
use Rattle.cilk_lower.specs.Code.{CodeView}
use Rattle.cilk_frames.specs.declared.activation.Activation as activations
use Rattle.cilk_frames.specs.declared.call_stack.CallStack.{CallStack}
use Rattle.cilk_frames.specs.declared.small_ask.SmallAsk.TheVariants as small_ask
use Rattle.cilk_frames.specs.Cursor.{CursorView}
use Rattle.cilk_frames.specs.Following.{child_of}
use Rattle.cilk_serial.specs.declared.running.Running.{Running}
use Rattle.cilk_serial.specs.declared.state.State.{State}
use Rattle.cilk_serial.specs.Going.{Going, IsAllowed}
use Rattle.cilk_serial.specs.Scoped.{Activation, Frames, MayBegin, Parent, Scoped, waiting}
use Rattle.cilk_serial.specs.SoFar.{BeginsNext}
use Rattle.cilk_serial.specs.States.{Begins, Shows}
use Rattle.cilk_serial.proofs.Driving.{fits_callee, goes_first, may_begin, not_crowded}
use Rattle.cilk_serial.proofs.Homes.{waiting_more}
use Rattle.cilk_helpers.specs.Asked.{NoteView, ask_in}
use Rattle.cilk_helpers.specs.declared.note.Asked.TheVariants.{SmallAsk}
use Rattle.cilk_helpers.specs.Notes.{IsReplay}
use Rattle.cilk_helpers.specs.declared.rest.Rest.{Rest}
use Rattle.cilk_helpers.specs.declared.retelling.Retelling.{Retelling}
use Rattle.cilk_helpers.specs.Retold.{Held, Retold, held}
use Rattle.cilk_helpers.specs.Telling.{AllAlike, IsAlike, Tells, TellsMore, held_in, held_of, held_below}
use Rattle.cilk_helpers.proofs.Alike.{alike_length, alike_more}
use Rattle.cilk_helpers.proofs.Goings.{runs_are_retold}
use Rattle.cilk_helpers.proofs.Telling.{dressed, tells_begins}

-- an activation with a cursor
abbrev pub with_cursor : {C : Type 0} → activations.Activation C → CursorView → Activation
with_cursor a c = record { cursor = c; number = a.number; base = a.base; first = a.first; given = a.given; outer = a.outer; result = a.result; creator = a.creator }

pub alike_with : {C : Type 0} (a : activations.Activation C) (c : CursorView) → IsAlike a (with_cursor a c)
alike_with a c = record { number = refl; base = refl; first = refl; given = refl; outer = refl; result = refl; creator = refl }

module _ (code : CodeView) (p : Source) (inputs : List ℤ) (t : Retelling) (well : IsTrue (is_well_named p)) (how : Invocation) (callee : Callee) (x : Tells code p inputs t) (asked : ask_in t.asked ≡ asks.Invoke how callee) where
  abbrev run : Running
  run = x.run

  abbrev going : Going code p inputs run
  going = let re = x.retold in re.going

  is : (let r = run in r.ask) ≡ asks.Invoke how callee
  is = x.ask ∙ asked

  pub allowed : ((m : Memory) → Shows t.state m → crowded p callee m ≡ None) → IsAllowed p (let r = run in r.state) (let r = run in r.ask)
  allowed free = λ m h. subst (λ (k : Ask). refused p m k ≡ None) (sym is) (free m (subst (λ (s : State). Shows s m) x.state h))

  -- its callee is there
  pub fits : CalleeIsFit p callee
  fits = fits_callee code p inputs run how callee well going is

  pub may : MayBegin p (let g = going in g.frame) (length t.state.cells.items) callee
  may = subst (λ (s : State). MayBegin p (let g = going in g.frame) (length s.cells.items) callee) x.state (may_begin code p inputs run how callee well going is)

  pub few : ((m : Memory) → Shows t.state m → crowded p callee m ≡ None) → (t.state.frames < MAX_FRAMES) × (length t.state.cells.items ≤ MAX_CELLS)
  few free =
      let h = not_crowded code p inputs run how callee going (allowed free) is in
      (subst (λ (s : State). s.frames < MAX_FRAMES) x.state h.0, subst (λ (s : State). length s.cells.items ≤ MAX_CELLS) x.state h.1)

  pub tells_begin : (s' : State) (a : activations.Activation Rest) (f' : CallStack Rest) (child : List NoteView) → ((m : Memory) → Shows t.state m → crowded p callee m ≡ None) → Begins t.state s' how (cells_of p callee)
      → f'.top ≡ a → f'.below.items ≡ t.frames.below.items ++ t.frames.top ∷ [] → held_of a.cursor ≡ held MAX_TICKS child → (replay : IsReplay code p inputs callee child)
      → ((q : Parent) → q.frame ≡ (let g = going in g.frame) → Scoped p (with_cursor a replay.cursor) (next_frame p (let g = going in let fr = g.frame in fr.scope) (let g = going in g.memory) callee) (q ∷ (let g = going in g.parents)))
      → TellsMore code p inputs t (Some callee) (record { state = s'; frames = f'; asked = SmallAsk small_ask.Begin; left = t.left })
  tells_begin s' a f' child free made top below own replay scoped =
      let r = x.run in
      let re = x.retold in
      let ghost = with_cursor a replay.cursor in
      let gs = r.frames.below.items ++ r.frames.top ∷ [] in
      let more = subst (λ (l : List (activations.Activation Rest)). AllAlike l gs) (sym below) (alike_more t.frames.below.items r.frames.below.items t.frames.top r.frames.top x.alike.below x.alike.top) in
      let frames : Frames = record { top = ghost; below = dressed f'.below gs (alike_length f'.below.items gs more) } in
      let wait : waiting frames ≡ r.frames.top ∷ waiting r.frames = waiting_more r.frames.below.items gs r.frames.top refl in
      let made' : Begins r.state s' how (cells_of p callee) = subst (λ (s : State). Begins s s' how (cells_of p callee)) (sym x.state) made in
      let law = runs_are_retold code p inputs in
      let went = law.begins r s' frames how callee (held_of t.frames.top.cursor) child (held_below t.frames) re well (allowed free) is made' wait replay refl scoped in
      let next : Running = record { state = s'; frames = frames; ask = asks.Begin; left = r.left } in
      let all : held_below f' ≡ held_of t.frames.top.cursor ∷ held_below t.frames = ap (map held_in) (waiting_more t.frames.below.items f'.below.items t.frames.top below) in
      let mine : held_of f'.top.cursor ≡ held MAX_TICKS child = ap (λ (b : activations.Activation Rest). held_of b.cursor) top ∙ own in
      let g = re.going in
      let made_by = made g.memory (subst (λ (s : State). Shows s g.memory) x.state g.shows) in
      record {
        tells = record {
          run = next;
          state = refl;
          ask = refl;
          left = x.left;
          alike = record { top = subst (λ (b : activations.Activation Rest). IsAlike b ghost) (sym top) (alike_with a replay.cursor); below = more };
          retold = subst (λ (l : List Held). Retold code p inputs next (held_of f'.top.cursor) l) (sym all) (subst (λ (h : Held). Retold code p inputs next h (held_of t.frames.top.cursor ∷ held_below t.frames)) (sym mine) went);
        };
        longer = (invocation how (suc (let m = g.memory in m.frames)), made_by.events);
        begins = subst (λ (k : Ask). BeginsNext p inputs t.state.events.items (child_of k)) asked (tells_begins code p inputs t x);
      }

-- the number of suspended frames is the same
pub as_many : (code : CodeView) (p : Source) (inputs : List ℤ) (t : Retelling) → (x : Tells code p inputs t) → length (waiting (let r = x.run in r.frames)) ≡ length t.frames.below.items
as_many code p inputs t x =
    let r = x.run in
    length-reverse r.frames.below.items ∙ alike_length t.frames.below.items r.frames.below.items x.alike.below

-- ---- the first frame

pub tells_first : (code : CodeView) (p : Source) (inputs : List ℤ) (t : Retelling) (notes : List NoteView) → IsTrue (is_well_named p) → Behaves p code → (replay : IsReplay code p inputs callees.Root notes)
    → Shows t.state (begun p callees.Root (before_root p inputs MAX_EVENTS)) → t.state.events.items ≡ [] → Scoped p (with_cursor t.frames.top replay.cursor) (root_frame p inputs) [] → t.frames.below.items ≡ []
    → held_of t.frames.top.cursor ≡ held MAX_TICKS notes → ask_in t.asked ≡ asks.Begin → t.left ≡ MAX_TICKS → Tells code p inputs t
tells_first code p inputs t notes well behaves replay shows none scoped alone own asked left =
    let ghost = with_cursor t.frames.top replay.cursor in
    let frames : Frames = record { top = ghost; below = dressed t.frames.below [] (sym (ap length alone)) } in
    let run : Running = record { state = t.state; frames = frames; ask = asks.Begin; left = MAX_TICKS } in
    record {
      run = run;
      state = refl;
      ask = sym asked;
      left = sym left;
      alike = record { top = alike_with t.frames.top replay.cursor; below = subst (λ (l : List (activations.Activation Rest)). AllAlike {D = CursorView} l []) (sym alone) tt };
      retold = subst (λ (l : List (activations.Activation Rest)). Retold code p inputs run (held_of t.frames.top.cursor) (map held_in (reverse l))) (sym alone)
          (subst (λ (h : Held). Retold code p inputs run h []) (sym own) (record {
            going = goes_first code p inputs t.state frames ghost well behaves shows none (replay.stands tt) replay.owes scoped refl refl;
            holds = record { enough = omega arith; notes = replay.notes };
            waits = tt;
            few = omega arith;
          }));
    }
