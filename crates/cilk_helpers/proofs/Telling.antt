-- The code of a run that is retold.
--
-- - `tells_there`: the values that the frame on top sees, and the target of its request;
-- - `tells_begins`: the frame that the next event begins;
-- - `tells_inner`: an event after which the frame continues;
-- - `dressed`: the frames with the cursors of a run;
-- - `tells_last`, `tells_return`: a frame ends.
use Rattle.std.proofs.Common.{◌≡◌, ℕ, ◌+◌, ◌-◌, ◌≤◌, ℤ, List, [], ◌∷◌, ◌++◌, length, map, reverse, Option, None, refl, sym, ap, ◌∙◌, subst}
use Rattle.std.specs.Prelude.{IsTrue, Vec}
use Rattle.std.specs.declared.alloc.Global.{Global}
use Rattle.cilk_types.specs.declared.event.Event.TheVariants as events
use Rattle.cilk_types.specs.declared.event.Instance.{Instance}
use Rattle.cilk_monoid.specs.Ranges.{same_instance}
use Rattle.cilk_program.specs.declared.ask.Ask.TheVariants as asks
use Rattle.cilk_program.specs.Store.{clear_all}
use Rattle.cilk_types.specs.declared.limits.TheConstants.{MAX_CELLS}
use Rattle.cilk_program.specs.declared.ask.Ask.{Ask}
use Rattle.cilk_program.specs.declared.ask.Callee.{Callee}
use Rattle.cilk_program.specs.Syntax.{Source}
use Rattle.cilk_program.specs.SerialRun.{Frame, IsInner, event_of, refused}
use Rattle.cilk_program.specs.WellNamed.{is_well_named}
use Rattle.cilk_lower.specs.Code.{CodeView}
use Rattle.cilk_frames.specs.declared.activation.Activation as activations
use Rattle.cilk_frames.specs.declared.call_stack.CallStack.{CallStack}
use Rattle.cilk_frames.specs.declared.cursor.Answer.{Answer}
use Rattle.cilk_frames.specs.declared.cursor.Answer.TheVariants.{Done}
use Rattle.cilk_frames.specs.Following.{child_of}
use Rattle.cilk_serial.specs.declared.state.State.{State}
use Rattle.cilk_serial.specs.Going.{IsAllowed}
use Rattle.cilk_serial.specs.Scoped.{Activation, Frames, IsOnTop, IsThere, kinds_of, own_of, waiting}
use Rattle.cilk_serial.specs.States.{Answers, Shows}
use Rattle.cilk_serial.proofs.Driving.{going_seen, going_there, inner_full}
use Rattle.cilk_serial.specs.SoFar.{BeginsNext}
use Rattle.cilk_serial.proofs.Homes.{on_top, waiting_more}
use Rattle.cilk_serial.proofs.SoFar.{begins_next}
use Rattle.cilk_helpers.specs.Asked.{NoteView, ask_in}
use Rattle.cilk_helpers.specs.declared.rest.Rest.{Rest}
use Rattle.cilk_helpers.specs.declared.rest.Taken.{Taken}
use Rattle.cilk_helpers.specs.declared.retelling.Retelling.{Retelling}
use Rattle.cilk_helpers.specs.Retold.{Closed, Held, Holds, IsTaken, Retold, held}
use Rattle.cilk_helpers.specs.Telling.{AllAlike, Closes, HasRoom, IsAlike, Tells, TellsLast, TellsMore, held_in, held_of, held_below}
use Rattle.cilk_helpers.proofs.Alike.{alike_length, alike_none, alike_on_top, alike_split}
use Rattle.cilk_helpers.proofs.Goings.{runs_are_retold}

-- the current frame
pub record There (p : Source) (t : Retelling) : Type 0 where
  pub frame : Frame
  pub on_top : IsOnTop t.frames frame
  pub asked : IsThere p frame (length t.state.cells.items) (ask_in t.asked)
  pub few : length t.state.cells.items ≤ MAX_CELLS

pub tells_there : (code : CodeView) (p : Source) (inputs : List ℤ) (t : Retelling) → IsTrue (is_well_named p) → Tells code p inputs t → There p t
tells_there code p inputs t well x =
    let r = x.run in
    let g = x.retold.going in
    record {
      frame = g.frame;
      on_top = alike_on_top t.frames r.frames g.frame x.alike (on_top p r.frames g.frame g.parents (going_seen code p inputs r g));
      asked = subst (λ (k : Ask). IsThere p g.frame (length t.state.cells.items) k) x.ask
          (subst (λ (s : State). IsThere p g.frame (length s.cells.items) r.ask) x.state (going_there code p inputs r well g));
      few = subst (λ (s : State). length s.cells.items ≤ MAX_CELLS) x.state (subst (λ n. n ≤ MAX_CELLS) g.shows.cells g.small);
    }

-- the frame that the next event begins
pub tells_begins : (code : CodeView) (p : Source) (inputs : List ℤ) (t : Retelling) → Tells code p inputs t → BeginsNext p inputs t.state.events.items (child_of (ask_in t.asked))
tells_begins code p inputs t x =
    let r = x.run in
    subst (λ (k : Ask). BeginsNext p inputs t.state.events.items (child_of k)) x.ask
    (subst (λ (s : State). BeginsNext p inputs s.events.items (child_of r.ask)) x.state (begins_next code p inputs r x.retold.going))

-- an ask after which the frame continues begins no frame
inner_begins : (k : Ask) → IsInner k → child_of k ≡ None
inner_begins asks.Begin h = refl
inner_begins (asks.Read x) h = refl
inner_begins (asks.Write x v) h = refl
inner_begins (asks.Create r) h = refl
inner_begins (asks.Update r v) h = refl
inner_begins (asks.Set r v) h = refl
inner_begins (asks.Value r) h = refl
inner_begins (asks.Print v) h = refl
inner_begins (asks.Invoke how callee) h = absurd h
inner_begins asks.Resume h = refl
inner_begins asks.Sync h = refl
inner_begins (asks.Result v) h = refl
inner_begins (asks.End v) h = refl
inner_begins (asks.Fault f) h = refl

pub other_cursor : {C D : Type 0} (a : activations.Activation C) (b : activations.Activation D) (c : C) (d : D) → IsAlike a b → IsAlike (record a { cursor = c }) (record b { cursor = d })
other_cursor a b c d s = record { number = s.number; base = s.base; first = s.first; given = s.given; outer = s.outer; result = s.result; creator = s.creator }

-- the parts of a note that was taken
pub record Took (answer : Answer) (left : ℕ) (rest rest' : Rest) (taken : Taken) : Type 0 where
  pub note : NoteView
  pub notes : List NoteView
  pub before : held_of rest ≡ held rest.left (note ∷ notes)
  pub after : held_of rest' ≡ held note.left notes
  pub told : note.told ≡ answer
  pub asks : note.ask ≡ ask_in taken.asked
  pub is : IsTaken left rest.left note taken.left

pub tells_inner : (code : CodeView) (p : Source) (inputs : List ℤ) (t : Retelling) (s' : State) (answer : Answer) (rest' : Rest) (taken : Taken) → Tells code p inputs t → HasRoom t.state
    → IsInner (ask_in t.asked) → ((fr : Frame) → IsOnTop t.frames fr → Answers p fr t.state s' (ask_in t.asked) answer) → Took answer t.left t.frames.top.cursor rest' taken
    → TellsMore code p inputs t None (record { state = s'; frames = record t.frames { top = record t.frames.top { cursor = rest' } }; asked = taken.asked; left = taken.left })
tells_inner code p inputs t s' answer rest' taken x room inner answers took =
    let r = x.run in
    let re = x.retold in
    let g = re.going in
    let n = took.note in
    let fr = g.frame in
    let ontop = alike_on_top t.frames r.frames fr x.alike (on_top p r.frames fr g.parents (going_seen code p inputs r g)) in
    let told : Answers p fr r.state s' r.ask n.told =
    subst (λ (k : Ask). Answers p fr r.state s' k n.told) (sym x.ask)
    (subst (λ (s : State). Answers p fr s s' (ask_in t.asked) n.told) (sym x.state)
    (subst (λ (a : Answer). Answers p fr t.state s' (ask_in t.asked) a) (sym took.told) (answers fr ontop))) in
    let own : Retold code p inputs r (held t.frames.top.cursor.left (n ∷ took.notes)) (held_below t.frames) = record {
      going = g;
      holds = subst (λ (h : Held). Holds code inputs r.left r.frames.top h) took.before re.holds;
      waits = re.waits;
      few = re.few;
    } in
    let inner' : IsInner r.ask = subst IsInner (sym x.ask) inner in
    let allowed : IsAllowed p r.state r.ask = λ m h. inner_full p m r.ask inner' ∙ (room m (subst (λ (s : State). Shows s m) x.state h)) in
    let is : IsTaken r.left t.frames.top.cursor.left n taken.left = subst (λ (l : ℕ). IsTaken l t.frames.top.cursor.left n taken.left) (sym x.left) took.is in
    let law = runs_are_retold code p inputs in
    let went = law.inner r s' t.frames.top.cursor.left n took.notes (held_below t.frames) taken.left own allowed inner' told is in
    let made = (answers fr ontop).makes g.memory (subst (λ (s : State). Shows s g.memory) x.state g.shows) in
    record {
      tells = record {
        run = record { state = s'; frames = record r.frames { top = record r.frames.top { cursor = went.0 } }; ask = n.ask; left = taken.left };
        state = refl;
        ask = took.asks;
        left = refl;
        alike = record { top = other_cursor t.frames.top r.frames.top rest' went.0 x.alike.top; below = x.alike.below };
        retold = subst (λ (h : Held). Retold code p inputs (record { state = s'; frames = record r.frames { top = record r.frames.top { cursor = went.0 } }; ask = n.ask; left = taken.left }) h (held_below t.frames)) (sym took.after) went.1;
      };
      longer = (event_of fr g.memory (ask_in t.asked), made.1.events);
      begins = subst (λ (o : Option Callee). BeginsNext p inputs t.state.events.items o) (inner_begins (ask_in t.asked) inner) (tells_begins code p inputs t x);
    }

-- ---- a frame ends

-- the frames with the cursors of a run
abbrev pub dressed : (v : Vec (activations.Activation Rest) Global) (gs : List Activation) → length gs ≡ length v.items → Vec Activation Global
dressed v gs same = record { ptr = v.ptr; len = v.len; cap = v.cap; alloc = v.alloc; items = gs; ok = (v.ok.0 ∙ sym same, v.ok.1); small = v.small }

closed : (code : CodeView) (p : Source) (inputs : List ℤ) (t : Retelling) (s' : State) → (x : Tells code p inputs t) → Closes p t s' → Closed p x.run s'
closed code p inputs t s' x c =
    let r = x.run in
    let s = x.alike.top in
    let own : own_of r.frames.top ≡ own_of t.frames.top =
    ap (λ (k : ℕ). λ (n : ℕ). let i : Instance = record { frame = k; place = r.frames.top.first + n } in i) (sym s.number)
    ∙ ap (λ (k : ℕ). λ (n : ℕ). let i : Instance = record { frame = t.frames.top.number; place = k + n } in i) (sym s.first) in
    record {
      events = c.events ∙ ap (λ (u : State). u.events.items ++ events.End ∷ []) (sym x.state);
      cleared = λ m h.
          subst (λ (o : Option ℕ). Shows s' (record { store = clear_all same_instance (own_of r.frames.top) 0 (kinds_of p o) m.store; frames = m.frames; cells = m.cells; room = m.room - 1 })) s.creator
          (subst (λ (f : ℕ → Instance). Shows s' (record { store = clear_all same_instance f 0 (kinds_of p t.frames.top.creator) m.store; frames = m.frames; cells = m.cells; room = m.room - 1 })) (sym own)
          (c.cleared m (subst (λ (u : State). Shows u m) x.state h)));
    }

-- the frame may end
allowed_end : (code : CodeView) (p : Source) (inputs : List ℤ) (t : Retelling) (v : ℤ) → (x : Tells code p inputs t) → HasRoom t.state → ask_in t.asked ≡ asks.End v → IsAllowed p (let r = x.run in r.state) (let r = x.run in r.ask)
allowed_end code p inputs t v x room is = λ m h.
    subst (λ (k : Ask). refused p m k ≡ None) (sym (x.ask ∙ is)) (room m (subst (λ (s : State). Shows s m) x.state h))

-- an end begins no frame
ends_none : (code : CodeView) (p : Source) (inputs : List ℤ) (t : Retelling) (v : ℤ) → Tells code p inputs t → ask_in t.asked ≡ asks.End v → BeginsNext p inputs t.state.events.items None
ends_none code p inputs t v x is = subst (λ (k : Ask). BeginsNext p inputs t.state.events.items (child_of k)) is (tells_begins code p inputs t x)

pub tells_last : (code : CodeView) (p : Source) (inputs : List ℤ) (t t' : Retelling) (v : ℤ) → Tells code p inputs t → HasRoom t.state → ask_in t.asked ≡ asks.End v → Closes p t t'.state
    → t.frames.below.items ≡ [] → TellsLast p inputs t v t'
tells_last code p inputs t t' v x room is c none =
    let r = x.run in
    let re = x.retold in
    let law = runs_are_retold code p inputs in
    let empty : held_below t.frames ≡ [] = ap (λ l. map held_in (reverse l)) none in
    let h : Retold code p inputs r (held_of t.frames.top.cursor) [] = subst (λ (l : List Held). Retold code p inputs r (held_of t.frames.top.cursor) l) empty re in
    let gs : r.frames.below.items ≡ [] = alike_none Rest r.frames.below.items (subst (λ (l : List (activations.Activation Rest)). AllAlike l r.frames.below.items) none x.alike.below) in
    record {
      ended = law.ends r t'.state v (held_of t.frames.top.cursor) h (allowed_end code p inputs t v x room is) (x.ask ∙ is) (closed code p inputs t t'.state x c) (ap reverse gs);
      longer = (events.End, c.events);
      begins = ends_none code p inputs t v x is;
    }

pub tells_return : (code : CodeView) (p : Source) (inputs : List ℤ) (t : Retelling) (s' : State) (v : ℤ) (f' : CallStack Rest) (rest' : Rest) (taken : Taken) → Tells code p inputs t → HasRoom t.state
    → ask_in t.asked ≡ asks.End v → Closes p t s' → t.frames.below.items ≡ f'.below.items ++ f'.top ∷ [] → Took Done t.left f'.top.cursor rest' taken
    → TellsMore code p inputs t None (record { state = s'; frames = record f' { top = record f'.top { cursor = rest' } }; asked = taken.asked; left = taken.left })
tells_return code p inputs t s' v f' rest' taken x room is c split took =
    let r = x.run in
    let re = x.retold in
    let n = took.note in
    let two = alike_split f'.below.items f'.top r.frames.below.items (subst (λ (l : List (activations.Activation Rest)). AllAlike l r.frames.below.items) split x.alike.below) in
    let frames : Frames = record { top = two.last; below = dressed f'.below two.rest (alike_length f'.below.items two.rest two.alike) } in
    let wait : waiting r.frames ≡ two.last ∷ reverse two.rest = waiting_more two.rest r.frames.below.items two.last two.is in
    let all : held_below t.frames ≡ held f'.top.cursor.left (n ∷ took.notes) ∷ held_below f' =
    ap (map held_in) (waiting_more f'.below.items t.frames.below.items f'.top split) ∙ ap (λ (h : Held). h ∷ held_below f') took.before in
    let h = subst (λ (l : List Held). Retold code p inputs r (held_of t.frames.top.cursor) l) all re in
    let is' : IsTaken r.left f'.top.cursor.left n taken.left = subst (λ (l : ℕ). IsTaken l f'.top.cursor.left n taken.left) (sym x.left) took.is in
    let law = runs_are_retold code p inputs in
    let went = law.returns r s' v frames (held_of t.frames.top.cursor) f'.top.cursor.left n took.notes (held_below f') taken.left h (allowed_end code p inputs t v x room is) (x.ask ∙ is) (closed code p inputs t s' x c) wait took.told is' in
    record {
      tells = record {
        run = record { state = s'; frames = record frames { top = record frames.top { cursor = went.0 } }; ask = n.ask; left = taken.left };
        state = refl;
        ask = took.asks;
        left = refl;
        alike = record { top = other_cursor f'.top two.last rest' went.0 two.last_alike; below = two.alike };
        retold = subst (λ (h : Held). Retold code p inputs (record { state = s'; frames = record frames { top = record frames.top { cursor = went.0 } }; ask = n.ask; left = taken.left }) h (held_below f')) (sym took.after) went.1;
      };
      longer = (events.End, c.events);
      begins = ends_none code p inputs t v x is;
    }
