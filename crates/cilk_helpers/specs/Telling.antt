-- The run that the state of the code represents.
use Rattle.std.specs.Prelude.{◌≡◌, ◌-◌, ℤ, List, [], ◌∷◌, ◌++◌, reverse, map, Option, None}
use Rattle.cilk_types.specs.declared.event.Event.TheVariants as events
use Rattle.cilk_monoid.specs.Ranges.{same_instance}
use Rattle.cilk_program.specs.Store.{clear_all}
use Rattle.cilk_program.specs.declared.ask.Ask.TheVariants as asks
use Rattle.cilk_program.specs.declared.ask.Callee.{Callee}
use Rattle.cilk_program.specs.declared.ask.Callee.TheVariants as callees
use Rattle.cilk_program.specs.SerialRun.{Memory, full}
use Rattle.cilk_program.specs.Syntax.{Source}
use Rattle.cilk_lower.specs.Code.{CodeView}
use Rattle.cilk_frames.specs.declared.activation.Activation as activations
use Rattle.cilk_frames.specs.declared.call_stack.CallStack as call_stacks
use Rattle.cilk_serial.specs.declared.running.Running.{Running}
use Rattle.cilk_serial.specs.declared.state.State.{State}
use Rattle.cilk_serial.specs.Going.{HasEnded, IsLonger}
use Rattle.cilk_serial.specs.Scoped.{kinds_of, own_of}
use Rattle.cilk_serial.specs.SoFar.{BeginsNext}
use Rattle.cilk_serial.specs.States.{Shows}
use Rattle.cilk_helpers.specs.Asked.{ask_in}
use Rattle.cilk_helpers.specs.declared.retelling.Gone.{Gone}
use Rattle.cilk_helpers.specs.declared.retelling.Gone.TheVariants.{Made, Turns, Ends, Departs}
use Rattle.cilk_helpers.specs.declared.retelling.Parting.{Parting}
use Rattle.cilk_helpers.specs.declared.retelling.Parting.TheVariants.{GoesOn, WasLast, Leaves}
use Rattle.cilk_helpers.specs.declared.rest.Rest.{Rest}
use Rattle.cilk_helpers.specs.declared.retelling.Retelling.{Retelling}
use Rattle.cilk_helpers.specs.Retold.{Held, Retold}

-- two activations that are equal apart from their cursors
pub record IsAlike {C D : Type 0} (a : activations.Activation C) (b : activations.Activation D) : Type 0 where
  pub number : a.number ≡ b.number
  pub base : a.base ≡ b.base
  pub first : a.first ≡ b.first
  pub given : a.given ≡ b.given
  pub outer : a.outer ≡ b.outer
  pub result : a.result ≡ b.result
  pub creator : a.creator ≡ b.creator

abbrev pub AllAlike : {C D : Type 0} → List (activations.Activation C) → List (activations.Activation D) → Type 0
AllAlike [] [] = Unit {0}
AllAlike (a ∷ list) (b ∷ more) = IsAlike a b × AllAlike list more
AllAlike _ _ = ⊥

pub record AreAlike {C D : Type 0} (f : call_stacks.CallStack C) (g : call_stacks.CallStack D) : Type 0 where
  pub top : IsAlike f.top g.top
  pub below : AllAlike f.below.items g.below.items

-- a frame's notes are kept with the next one last
abbrev pub held_of : Rest → Held
held_of r = record { mine = r.left; notes = reverse r.notes.items }

abbrev pub held_in : activations.Activation Rest → Held
held_in a = held_of a.cursor

-- of the suspended frames, the uppermost first
abbrev pub held_below : call_stacks.CallStack Rest → List Held
held_below frames = map held_in (reverse frames.below.items)

-- the code retells some run; it doesn't have the cursors of the run's frames
pub record Tells (code : CodeView) (p : Source) (inputs : List ℤ) (t : Retelling) : Type 0 where
  pub run : Running
  pub state : run.state ≡ t.state
  pub ask : run.ask ≡ ask_in t.asked
  pub left : run.left ≡ t.left
  pub alike : AreAlike t.frames run.frames
  pub retold : Retold code p inputs run (held_of t.frames.top.cursor) (held_below t.frames)

-- one more event, which begins a frame of this callee, or none; the run continues
pub record TellsMore (code : CodeView) (p : Source) (inputs : List ℤ) (t : Retelling) (begun : Option Callee) (t' : Retelling) : Type 0 where
  pub tells : Tells code p inputs t'
  pub longer : IsLonger t.state t'.state
  pub begins : BeginsNext p inputs t.state.events.items begun

-- one more event, the last: the run has ended with this result
pub record TellsLast (p : Source) (inputs : List ℤ) (t : Retelling) (v : ℤ) (t' : Retelling) : Type 0 where
  pub ended : HasEnded p inputs t'.state v
  pub longer : IsLonger t.state t'.state
  pub begins : BeginsNext p inputs t.state.events.items None

-- The result of a request: an event is made and the run continues; a frame is to begin or to end
-- and nothing has changed yet; or the run isn't retold any further.
abbrev pub Comes : CodeView → Source → List ℤ → Retelling → Gone → Retelling → Type 0
Comes code p inputs t Made t' = TellsMore code p inputs t None t'
Comes code p inputs t (Turns how part) t' = (t' ≡ t) × (ask_in t.asked ≡ asks.Invoke how (callees.Loop part))
Comes code p inputs t (Ends v) t' = (t' ≡ t) × (ask_in t.asked ≡ asks.End v)
Comes code p inputs t Departs t' = Unit {0}

-- the limits allow one more event
abbrev pub HasRoom : State → Type 0
HasRoom s = (m : Memory) → Shows s m → full m ≡ None

-- The result of a frame's end: its parent continues; or it was the last frame and the run has
-- ended; or the run isn't retold any further.
abbrev pub Parts : CodeView → Source → List ℤ → Retelling → ℤ → Parting → Retelling → Type 0
Parts code p inputs t v GoesOn t' = TellsMore code p inputs t None t'
Parts code p inputs t v WasLast t' = TellsLast p inputs t v t'
Parts code p inputs t v Leaves t' = Unit {0}

-- the store after a frame's end: one more event, and the frame's own reducers retired
pub record Closes (p : Source) (t : Retelling) (s' : State) : Type 0 where
  pub events : s'.events.items ≡ t.state.events.items ++ events.End ∷ []
  pub cleared : (m : Memory) → Shows t.state m
      → Shows s' (record { store = clear_all same_instance (own_of t.frames.top) 0 (kinds_of p t.frames.top.creator) m.store; frames = m.frames; cells = m.cells; room = m.room - 1 })
