-- A frame's `begin` comes right after the event that starts it: `child_begins`. The root's is the
-- first event: `root_begins`.
use Rattle.std.proofs.Common.{◌≡◌, ◌≤◌, ◌<◌, ◌⊎◌, inl, inr, ⊎_elim, ℕ, zero, suc, ◌+◌, ◌-◌, List, [], ◌∷◌, ◌++◌, length, Option, Some, None, slice_get, refl, sym, ap, ◌∙◌, subst, arith}
use Rattle.std.specs.Option.{option_map}
use Rattle.std.proofs.lemmas.Option.{slice_get-map}
use mathlib.Core.Logic.{dite}
use native.Mathlib.Decide.{dec_lt}
use Rattle.cilk_types.specs.declared.event.Event.{Event}
use Rattle.cilk_types.specs.declared.event.Event.TheVariants as events
use Rattle.cilk_types.specs.declared.event.Instance as numbered
use Rattle.cilk_types.specs.declared.invocation.Invocation.{Invocation}
use Rattle.cilk_tree.specs.Kinds.{kind_of, kind_of_event}
use Rattle.cilk_tree.specs.declared.kind.Asked.{Asked}
use Rattle.cilk_tree.specs.declared.kind.Asked.TheVariants.{Next, Nothing}
use Rattle.cilk_tree.specs.declared.kind.Kind.{Kind}
use Rattle.cilk_tree.specs.declared.kind.Kind.TheVariants as kinds
use Rattle.cilk_determinacy.specs.Runs.{Cell, Instance, Reads, Writes, Syncs, Ends, Passes, Begins, Resumes, Creates, Updates, Sets, Values, Prints, Deed, Does, Invokes, Run}
use Rattle.cilk_determinacy.specs.Runs as runs
use Rattle.cilk_determinacy.specs.Traces.{trace, Due, begin_due, resume_due, neither_due, IsFramed, IsWritten, IsWrittenEvent, AreWritten}
use Rattle.cilk_tree.specs.declared.event_order.EventOrder.{EventOrder}
use Rattle.cilk_frames.specs.declared.cursor.Answer.TheVariants.{Done}
use Rattle.cilk_tree.specs.Orders.{IsOrderly}
use Rattle.cilk_tree.specs.Values.{HasValues}
use Rattle.cilk_tree.specs.Word.{event, finish, plain, word_step}
use Rattle.cilk_determinacy.specs.FrameEnvs.{FrameEnv}
use Rattle.cilk_determinacy.specs.Nested.{named}
use Rattle.cilk_determinacy.specs.Numbers.{cell_number, instance_number}
use Rattle.cilk_determinacy.proofs.Determinate.{serial_numbered}
use Rattle.cilk_workers.specs.Rows.{yard_of}
use Rattle.cilk_replay.specs.Asking.{IsAnswered}
use Rattle.cilk_replay.specs.Replays.{IsReplay, IsOfProgram, Setting, setting_of}
use Rattle.cilk_replay.proofs.Going.{plan_event}
use Rattle.cilk_shared.specs.Values.{YardValue}
use Rattle.cilk_workers.specs.BegunTurn.{IsStart}
use Rattle.cilk_workers.proofs.OfKind.{with_kind}
use Rattle.cilk_workers.specs.Shared.{IsNext, SharedValue, event_order_in}

-- ---- deeds

abbrev Head : List (Deed FrameEnv) → Type 0
Head [] = ⊥
Head (d ∷ ds) = d ≡ Does (Passes Begins)

-- after each invocation
abbrev Behind : List (Deed FrameEnv) → Type 0
Behind [] = Unit {0}
Behind (Does e ∷ ds) = Behind ds
Behind (Invokes k w ∷ ds) = Head ds × Behind ds

head_more : (ds es : List (Deed FrameEnv)) → Head ds → Head (ds ++ es)
head_more [] es h = absurd h
head_more (d ∷ ds) es h = h

behind_both : (ds es : List (Deed FrameEnv)) → Behind ds → Behind es → Behind (ds ++ es)
behind_both [] es a b = b
behind_both (Does e ∷ ds) es a b = behind_both ds es a b
behind_both (Invokes k w ∷ ds) es a b = (head_more ds es a.0, behind_both ds es a.1 b)

head_of : (t : Run FrameEnv) → IsFramed begin_due t → Head (trace t)
head_of (runs.act (Passes Begins) r) f = refl
head_of t f = absurd f

framed_next : (due : Due) (e : runs.Event) (r : Run FrameEnv) → IsFramed due (runs.act e r) → (r ≡ runs.stop) ⊎ IsFramed neither_due r
framed_next begin_due (Passes Begins) r f = inr f
framed_next resume_due (Passes Resumes) r f = inr f
framed_next neither_due (Reads c v) r f = inr f
framed_next neither_due (Writes c v) r f = inr f
framed_next neither_due Syncs r f = inr f
framed_next neither_due (Ends v gone) r f = inl f
framed_next neither_due (Passes (Creates i)) r f = inr f
framed_next neither_due (Passes (Updates i x)) r f = inr f
framed_next neither_due (Passes (Sets i x)) r f = inr f
framed_next neither_due (Passes (Values i x)) r f = inr f
framed_next neither_due (Passes (Prints x)) r f = inr f
framed_next due e r f = absurd f

framed_child : (due : Due) (k : Invocation) (w : FrameEnv) (u r : Run FrameEnv) → IsFramed due (runs.child k w u r) → IsFramed begin_due u × IsFramed resume_due r
framed_child neither_due k w u r f = f
framed_child begin_due k w u r f = absurd f
framed_child resume_due k w u r f = absurd f

behind_of : (t : Run FrameEnv) (due : Due) → IsFramed due t → Behind (trace t)
behind_of runs.stop due f = tt
behind_of (runs.act e r) due f =
    ⊎_elim (λ (q : r ≡ runs.stop). subst (λ (z : Run FrameEnv). Behind (trace z)) (sym q) tt) (λ (g : IsFramed neither_due r). behind_of r neither_due g) (framed_next due e r f)
behind_of (runs.child k w u r) due f =
    let g = framed_child due k w u r f in
    (head_more (trace u) (trace r) (head_of u g.0), behind_both (trace u) (trace r) (behind_of u begin_due g.0) (behind_of r resume_due g.1))

-- ---- events

module _ (cell : Cell → ℕ) (instance : Instance → numbered.Instance) where
  no_start : (a : runs.Event) (e : Event) → IsWrittenEvent cell instance a e → IsStart (Some e) → ⊥
  no_start (Reads c v) e h s = subst (λ (z : Event). IsStart (Some z)) h s
  no_start (Writes c v) e h s = subst (λ (z : Event). IsStart (Some z)) h s
  no_start Syncs e h s = subst (λ (z : Event). IsStart (Some z)) h s
  no_start (Ends v gone) e h s = subst (λ (z : Event). IsStart (Some z)) h s
  no_start (Passes Begins) e h s = subst (λ (z : Event). IsStart (Some z)) h.1 s
  no_start (Passes Resumes) e h s = subst (λ (z : Event). IsStart (Some z)) h.1 s
  no_start (Passes (Creates i)) e h s = subst (λ (z : Event). IsStart (Some z)) h s
  no_start (Passes (Updates i x)) e h s = subst (λ (z : Event). IsStart (Some z)) h s
  no_start (Passes (Sets i x)) e h s = subst (λ (z : Event). IsStart (Some z)) h s
  no_start (Passes (Values i x)) e h s = subst (λ (z : Event). IsStart (Some z)) h s
  no_start (Passes (Prints x)) e h s = subst (λ (z : Event). IsStart (Some z)) h s

  abbrev BeginsAt : List Event → ℕ → Type 0
  BeginsAt es i = (f : ℕ) × (slice_get es i ≡ Some (events.Begin f))

  head_event : (ds : List (Deed FrameEnv)) (es : List Event) → Head ds → AreWritten cell instance ds es → BeginsAt es 0
  head_event [] es h w = absurd h
  head_event (d ∷ ds) [] h w = absurd w
  head_event (d ∷ ds) (e ∷ es) h w =
      let z : (f : ℕ) × (e ≡ events.Begin f) = subst (λ (x : Deed FrameEnv). IsWritten cell instance x e) h w.0 in (z.0, ap (λ (x : Event). Some x) z.1)

  tail : (d : Deed FrameEnv) (ds : List (Deed FrameEnv)) → Behind (d ∷ ds) → Behind ds
  tail (Does e) ds h = h
  tail (Invokes k w) ds h = h.1

  behind_event : (ds : List (Deed FrameEnv)) (es : List Event) (i : ℕ) (e : Event) → Behind ds → AreWritten cell instance ds es → slice_get es i ≡ Some e → IsStart (Some e) → BeginsAt es (suc i)
  behind_event [] [] i e b w q s = absurd (let z : None ≡ Some e = q in cc z)
  behind_event [] (x ∷ es) i e b w q s = absurd w
  behind_event (d ∷ ds) [] i e b w q s = absurd w
  behind_event (Does a ∷ ds) (x ∷ es) zero e b w q s = absurd (no_start a x w.0 (let z : Some x ≡ Some e = q in subst (λ (o : Option Event). IsStart o) (sym z) s))
  behind_event (Invokes k v ∷ ds) (x ∷ es) zero e b w q s = head_event ds es b.0 w.1
  behind_event (d ∷ ds) (x ∷ es) (suc i) e b w q s = behind_event ds es i e (tail d ds b) w.1 q s

-- ---- the event order

abbrev pub IsStartKind : Kind → Type 0
IsStartKind (kinds.Spawn f) = Unit {0}
IsStartKind (kinds.Call f) = Unit {0}
IsStartKind k = ⊥

start_kind : (e : Event) → IsStart (Some e) → IsStartKind (kind_of e)
start_kind (events.Spawn f) s = tt
start_kind (events.Call f) s = tt
start_kind e s = absurd s

kind_start : (e : Event) → IsStartKind (kind_of e) → IsStart (Some e)
kind_start (events.Spawn f) s = tt
kind_start (events.Call f) s = tt
kind_start (events.Begin f) s = absurd s
kind_start (events.Resume f) s = absurd s
kind_start events.Sync s = absurd s
kind_start events.End s = absurd s
kind_start (events.Read c v) s = absurd s
kind_start (events.Write c v) s = absurd s
kind_start (events.Create i) s = absurd s
kind_start (events.Update i v) s = absurd s
kind_start (events.Set i v) s = absurd s
kind_start (events.Value i v) s = absurd s
kind_start (events.Print v) s = absurd s

started : (o : Option Event) → IsStart o → (e : Event) × (o ≡ Some e) × IsStart (Some e)
started (Some e) s = (e, refl, s)
started None s = absurd s

mapped : (o : Option Event) → kind_of_event o ≡ option_map kind_of o
mapped (Some e) = refl
mapped None = refl

module _ (s : Setting) (h : IsOfProgram s) where
  abbrev event_order : EventOrder
  event_order = s.event_order

  -- a `begin` of the plan is one of the event order
  begins_there : (i : ℕ) (f : ℕ) → slice_get h.events i ≡ Some (events.Begin f) → kind_of_event (event event_order (suc i)) ≡ Some (kinds.Begin f)
  begins_there i f is =
      let back : suc i - 1 ≡ i = omega arith in
      ap (λ (n : ℕ). kind_of_event (slice_get event_order.events n)) back ∙ mapped (slice_get event_order.events i) ∙ sym (slice_get-map kind_of event_order.events i)
      ∙ ap (λ (l : List Kind). slice_get l i) h.along.kinds ∙ slice_get-map kind_of h.events i ∙ ap (option_map kind_of) is

  begins_first : (f : ℕ) × (kind_of_event (event event_order 1) ≡ Some (kinds.Begin f))
  begins_first =
      let n = serial_numbered s.program s.own s.run h.events h.is.outcome h.is.named h.is.runs in
      let e = head_event (cell_number s.program s.run) (instance_number s.program s.run) (trace (named s.program s.run)) h.events (head_of (named s.program s.run) n.framed) n.written in
      (e.0, begins_there 0 e.0 e.1)

  begins_next : (at : ℕ) → 1 ≤ at → IsStart (event event_order at) → (f : ℕ) × (kind_of_event (event event_order (at + 1)) ≡ Some (kinds.Begin f))
  begins_next at some start =
      let i = at - 1 in
      let place : suc (at - 1) ≡ at = omega (arith, some) in
      let e = started (event event_order at) start in
      let plan = plan_event s h i e.0 (ap (event event_order) place ∙ e.1) in
      let n = serial_numbered s.program s.own s.run h.events h.is.outcome h.is.named h.is.runs in
      let b = behind_event (cell_number s.program s.run) (instance_number s.program s.run) (trace (named s.program s.run)) h.events i plan.0 (behind_of (named s.program s.run) begin_due n.framed) n.written plan.1
      (kind_start plan.0 (subst IsStartKind (sym plan.2) (start_kind e.0 e.2))) in
      let later : suc (suc (at - 1)) ≡ at + 1 = omega (arith, some) in
      (b.0, ap (λ (m : ℕ). kind_of_event (event event_order m)) (sym later) ∙ begins_there (suc (at - 1)) b.0 b.1)

-- of what workers share
module _ (y : SharedValue) (replay : IsReplay y.replay) (same : let u = y.replay in u.yard ≡ yard_of y.run) where
  pub root_begins : (f : ℕ) × (kind_of_event (event (event_order_in y) 1) ≡ Some (kinds.Begin f))
  root_begins = subst (λ (z : YardValue). (f : ℕ) × (kind_of_event (event z.event_order 1) ≡ Some (kinds.Begin f))) same (begins_first (setting_of y.replay replay.0) replay.1)

  pub child_begins : (at : ℕ) → 1 ≤ at → IsStart (event (event_order_in y) at) → (f : ℕ) × (kind_of_event (event (event_order_in y) (at + 1)) ≡ Some (kinds.Begin f))
  child_begins at some start =
      subst (λ (z : YardValue). (f : ℕ) × (kind_of_event (event z.event_order (at + 1)) ≡ Some (kinds.Begin f))) same
      (begins_next (setting_of y.replay replay.0) replay.1 at some (subst (λ (z : YardValue). IsStart (event z.event_order at)) (sym same) start))

-- a spawn and a call start a child
pub starts : (o : Option Event) (k : Kind) → kind_of_event o ≡ Some k → IsStartKind k → IsStart o
starts None k q s = absurd (cc q)
starts (Some e) k q s = let z : kind_of e ≡ k = cc q in kind_start e (subst IsStartKind (sym z) s)

-- if the event order has a position, there is an event
pub next_there : (s : EventOrder) (at : ℕ) (a : Asked) → IsNext s at a → 1 ≤ at → at ≤ length s.events → ((f : ℕ) (k : Kind) → a ≡ Next f k → ⊥) → ⊥
next_there s at Nothing (inl none) some within other = omega (arith, none, some)
next_there s at Nothing (inr past) some within other = omega (arith, past, within)
next_there s at (Next f k) h some within other = other f k refl

-- the root's frame continues after its `begin`
pub root_answered : (y : SharedValue) → IsReplay y.replay → (let u = y.replay in u.yard ≡ yard_of y.run) → IsOrderly (event_order_in y) → HasValues (event_order_in y) → IsAnswered (event_order_in y) 1 Done
root_answered y replay same order values =
    let s = event_order_in y in
    let b = root_begins y replay same in
    let e = with_kind (event s 1) (kinds.Begin b.0) b.1 in
    let some = order.root.1 in
    let more : 1 < length s.events = dite (dec_lt 1 (length s.events)) (λ (l : 1 < length s.events). l)
    (λ no. let one : length s.events ≡ 1 = omega (arith, no, some) in
    let z : plain ≡ finish = sym order.root.0 ∙ ap (word_step s) (sym one) ∙ order.last in
    absurd (cc z)) in
    (events.Begin b.0, record { first = omega arith; asked = values.begins; is = e.1; more = more }, tt)
