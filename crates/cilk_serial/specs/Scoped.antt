-- The frames that the code's activations represent: the running frame, and the frames that wait for
-- their children.
use Rattle.std.specs.Prelude.{◌≡◌, ◌+◌, ◌<◌, ◌≤◌, ℕ, ℤ, List, [], ◌∷◌, length, reverse, Option, Some, None}
use Rattle.cilk_types.specs.declared.event.Instance.{Instance}
use Rattle.cilk_monoid.specs.declared.kind.MonoidKind.{MonoidKind}
use Rattle.cilk_program.specs.Syntax.{Source, function_at}
use Rattle.cilk_program.specs.Scopes.{Scope}
use Rattle.cilk_program.specs.declared.ask.Ask.{Ask}
use Rattle.cilk_program.specs.declared.ask.Ask.TheVariants as asks
use Rattle.cilk_program.specs.declared.ask.Callee.{Callee}
use Rattle.cilk_program.specs.declared.ask.Callee.TheVariants as callees
use Rattle.cilk_program.specs.declared.syntax.Place.{Place}
use Rattle.cilk_program.specs.Inside.{CalleeIsFit}
use Rattle.cilk_program.specs.SerialRun.{Frame, cell_at, first_place, global_reducer, home_of, itself, own_reducers}
use Rattle.cilk_program.specs.Visible.{FrameSees}
use Rattle.cilk_types.specs.Stacks.{from_bottom}
use Rattle.cilk_frames.specs.declared.activation.Activation as activations
use Rattle.cilk_frames.specs.declared.call_stack.CallStack as call_stacks
use Rattle.cilk_frames.specs.Cursor.{CursorView}
use Rattle.cilk_frames.specs.Sight.{HasScope}
pub use Rattle.cilk_frames.specs.Sight.{AreSmall, number_in}

-- a frame with its cursor
abbrev pub Activation : Type 0
Activation = activations.Activation CursorView

-- the running frame, and those that wait
abbrev pub Frames : Type 0
Frames = call_stacks.CallStack CursorView

-- the waiting frames, the topmost first
abbrev pub waiting : Frames → List Activation
waiting frames = reverse frames.below.items

-- a frame that waits for a child: its answers so far, and the ticks that it has used
pub record Parent : Type 0 where
  pub frame : Frame
  pub history : List ℤ
  pub took : ℕ

-- the scope at the end of a static link
abbrev pub Leads : List Parent → Option ℕ → Scope ℕ Instance → Type 0
Leads parents None scope = scope ≡ []
Leads parents (Some n) scope = (q : Parent) × (from_bottom parents n ≡ Some q) × (scope ≡ q.frame.scope)

-- the monoids of the reducers that a function's frame creates
abbrev pub kinds_of : Source → Option ℕ → List MonoidKind
kinds_of p None = []
kinds_of p (Some k) = let f = function_at p k in f.reducers

-- a function that exists, if any
abbrev pub IsCreator : Source → Option ℕ → Type 0
IsCreator p None = Unit {0}
IsCreator p (Some k) = (k < length p.functions) × (length (kinds_of p (Some k)) ≤ 64)

-- an activation represents a frame, above these waiting frames
pub record Scoped (p : Source) (a : Activation) (fr : Frame) (parents : List Parent) : Type 0 where
  pub number : fr.number ≡ a.number
  pub outer : Scope ℕ Instance
  pub scope : fr.scope ≡ home_of p fr.callee a.number a.base a.given.items ∷ outer
  pub leads : Leads parents a.outer outer
  pub result : fr.result ≡ a.result
  pub first : a.first ≡ first_place p fr.callee
  pub low : a.first < 65536
  pub creator : IsCreator p a.creator
  pub creates : own_reducers p fr.callee ≡ kinds_of p a.creator

-- each waiting activation represents its frame
abbrev pub AreScoped : Source → List Activation → List Parent → Type 0
AreScoped p [] [] = Unit {0}
AreScoped p [] (q ∷ qs) = ⊥
AreScoped p (a ∷ list) [] = ⊥
AreScoped p (a ∷ list) (q ∷ qs) = Scoped p a q.frame qs × AreScoped p list qs

-- the running frame and the waiting frames are represented
pub record Seen (p : Source) (frames : Frames) (fr : Frame) (parents : List Parent) : Type 0 where
  pub scoped : Scoped p frames.top fr parents
  pub waits : AreScoped p (waiting frames) parents

-- the frame runs on top of these activations, for any type of cursor
pub record IsOnTop {C : Type 0} (frames : call_stacks.CallStack C) (fr : Frame) : Type 0 where
  pub number : fr.number ≡ frames.top.number
  pub scope : HasScope frames.below.items frames.top fr.scope
  pub result : fr.result ≡ frames.top.result

-- a cell is among the first n
abbrev pub Below : ℕ → ℕ → Type 0
Below n c = c < n

-- no condition on reducers
abbrev pub Any : Instance → MonoidKind → Type 0
Any i k = Unit {0}

-- everything that a frame names exists, if there are n cells
abbrev pub Sees : Source → Frame → ℕ → Type 0
Sees p fr n = FrameSees p itself global_reducer (Below n) Any fr.callee fr.scope fr.result

abbrev pub ResultFits : Frame → ℕ → Option Place → Type 0
ResultFits fr n None = Unit {0}
ResultFits fr n (Some x) = cell_at fr x < n

-- The callees that a frame may begin. A function's reducers and result exist, and a loop's static
-- link is short.
abbrev pub MayBegin : Source → Frame → ℕ → Callee → Type 0
MayBegin p fr n callees.Root = ⊥
MayBegin p fr n (callees.Function c) = AreSmall c.reducers × ResultFits fr n c.result × IsCreator p (Some c.function)
MayBegin p fr n (callees.Loop l) = l.up ≤ 1

-- everything that a request names exists
abbrev pub IsThere : Source → Frame → ℕ → Ask → Type 0
IsThere p fr n asks.Begin = Unit {0}
IsThere p fr n (asks.Read x) = cell_at fr x < n
IsThere p fr n (asks.Write x v) = cell_at fr x < n
IsThere p fr n (asks.Create r) = number_in r.place < 65536
IsThere p fr n (asks.Update r v) = number_in r.place < 65536
IsThere p fr n (asks.Set r v) = number_in r.place < 65536
IsThere p fr n (asks.Value r) = number_in r.place < 65536
IsThere p fr n (asks.Print v) = Unit {0}
IsThere p fr n (asks.Invoke how callee) = MayBegin p fr n callee
IsThere p fr n asks.Resume = Unit {0}
IsThere p fr n asks.Sync = Unit {0}
IsThere p fr n (asks.Result v) = (c : ℕ) × (fr.result ≡ Some c) × (c < n)
IsThere p fr n (asks.End v) = Unit {0}
IsThere p fr n (asks.Fault f) = Unit {0}

-- the callee of a request is valid
abbrev pub IsBegunRightly : Source → Ask → Type 0
IsBegunRightly p asks.Begin = Unit {0}
IsBegunRightly p (asks.Read x) = Unit {0}
IsBegunRightly p (asks.Write x v) = Unit {0}
IsBegunRightly p (asks.Create r) = Unit {0}
IsBegunRightly p (asks.Update r v) = Unit {0}
IsBegunRightly p (asks.Set r v) = Unit {0}
IsBegunRightly p (asks.Value r) = Unit {0}
IsBegunRightly p (asks.Print v) = Unit {0}
IsBegunRightly p (asks.Invoke how callee) = CalleeIsFit p callee
IsBegunRightly p asks.Resume = Unit {0}
IsBegunRightly p asks.Sync = Unit {0}
IsBegunRightly p (asks.Result v) = Unit {0}
IsBegunRightly p (asks.End v) = Unit {0}
IsBegunRightly p (asks.Fault f) = Unit {0}

-- the reducers that an activation creates
abbrev pub own_of : {C : Type 0} → activations.Activation C → ℕ → Instance
own_of a n = record { frame = a.number; place = a.first + n }
