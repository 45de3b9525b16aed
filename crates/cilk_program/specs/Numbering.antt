-- How frames, cells and events are numbered: the run of the first frame determines all numbers.
use Rattle.std.specs.Prelude.{◌≡◌, ◌≢◌, ◌⊎◌, ◌≤◌, ℕ, zero, suc, ◌+◌, ℤ, List, [], ◌∷◌, ◌++◌, length, Option, Some, None}
use Rattle.cilk_types.specs.declared.event.Instance.{Instance}
use Rattle.cilk_types.specs.declared.event.Event.{Event}
use Rattle.cilk_types.specs.declared.event.Event.TheVariants as events
use Rattle.cilk_program.specs.declared.ask.Ask.{Ask}
use Rattle.cilk_program.specs.declared.ask.Ask.TheVariants as asks
use Rattle.cilk_program.specs.declared.ask.Callee.{Callee}
use Rattle.cilk_program.specs.declared.ask.Callee.TheVariants as callees
use Rattle.cilk_program.specs.Syntax.{Source}
use Rattle.cilk_program.specs.Scopes.{Scope}
use Rattle.cilk_program.specs.SerialRun.{Transcript, stop, act, child, Memory, Frame, cell_at, reducer_at, cells_of, home_of, outer_of, given_to, result_of, invocation, result_written}

-- how many frames have begun, and how many cells there are, the globals first
pub record Counts : Type 0 where
  pub frames : ℕ
  pub cells : ℕ

abbrev pub counts_of : Memory → Counts
counts_of m = record { frames = m.frames; cells = m.cells }

-- the counts before the first frame
abbrev pub unbegun : Source → Counts
unbegun p = record { frames = 0; cells = length p.openings }

-- the counts with one more frame
abbrev pub entered : Source → Callee → Counts → Counts
entered p callee n = record { frames = suc n.frames; cells = n.cells + cells_of p callee }

-- the counts after the run of a frame and its children
abbrev pub counts_after : Source → Transcript → Counts → Counts
counts_after p stop n = n
counts_after p (act k a r) n = counts_after p r n
counts_after p (child how callee u r) n = counts_after p r (counts_after p u (entered p callee n))

-- the next frame that a frame with this scope begins
abbrev pub frame_of : Source → Scope ℕ Instance → Counts → Callee → Frame
frame_of p scope n callee = record {
  callee = callee;
  number = suc n.frames;
  scope = home_of p callee (suc n.frames) n.cells (given_to callee scope) ∷ outer_of callee scope;
  result = result_of callee scope;
}

-- the event of a request and its answer, when n frames have begun
abbrev pub numbered : Frame → ℕ → Ask → ℤ → Event
numbered fr n asks.Begin a = events.Begin fr.number
numbered fr n (asks.Read x) a = events.Read (cell_at fr x) a
numbered fr n (asks.Write x v) a = events.Write (cell_at fr x) v
numbered fr n (asks.Create r) a = events.Create (reducer_at fr r)
numbered fr n (asks.Update r v) a = events.Update (reducer_at fr r) v
numbered fr n (asks.Set r v) a = events.Set (reducer_at fr r) v
numbered fr n (asks.Value r) a = events.Value (reducer_at fr r) a
numbered fr n (asks.Print v) a = events.Print v
numbered fr n (asks.Invoke how callee) a = invocation how (suc n)
numbered fr n asks.Resume a = events.Resume fr.number
numbered fr n asks.Sync a = events.Sync
numbered fr n (asks.Result v) a = result_written fr.result v
numbered fr n (asks.End v) a = events.End
numbered fr n (asks.Fault f) a = events.End

-- the events of a frame and its children in serial order
abbrev pub events_of : Source → Frame → Counts → Transcript → List Event
events_of p fr n stop = []
events_of p fr n (act k a r) = numbered fr n.frames k a ∷ events_of p fr n r
events_of p fr n (child how callee u r) =
    invocation how (suc n.frames) ∷ (events_of p (frame_of p fr.scope n callee) (entered p callee n) u ++ events_of p fr (counts_after p u (entered p callee n)) r)

-- the events of a run of the first frame
abbrev pub events_of_root : Source → Transcript → List Event
events_of_root p r = events_of p (frame_of p [] (unbegun p) callees.Root) (entered p callees.Root (unbegun p)) r

-- a frame's number, its first cell, and how many cells it has
pub record Block : Type 0 where
  pub number : ℕ
  pub first : ℕ
  pub cells : ℕ

abbrev pub block_of : Source → Callee → Counts → Block
block_of p callee n = record { number = suc n.frames; first = n.cells; cells = cells_of p callee }

-- The frame at the end of a path, from a point in a frame. First, `k` children are skipped. Then
-- the path continues in the next child.
abbrev pub child_at : Source → Transcript → Counts → ℕ → List ℕ → Option Block
child_at p stop n k path = None
child_at p (act a v r) n k path = child_at p r n k path
child_at p (child how callee u r) n zero [] = Some (block_of p callee n)
child_at p (child how callee u r) n zero (j ∷ path) = child_at p u (entered p callee n) j path
child_at p (child how callee u r) n (suc k) path = child_at p r (counts_after p u (entered p callee n)) k path

-- the frame with this name, a list of ordinals of invocations from 0, from the first frame down
abbrev pub frame_at : Source → Transcript → List ℕ → Option Block
frame_at p r [] = Some (block_of p callees.Root (unbegun p))
frame_at p r (k ∷ path) = child_at p r (entered p callees.Root (unbegun p)) k path

-- two frames have different numbers, so their reducers are different instances, and their cells are
-- disjoint
pub record Apart (f g : Block) : Type 0 where
  pub numbers : f.number ≢ g.number
  pub cells : (f.first + f.cells ≤ g.first) ⊎ (g.first + g.cells ≤ f.first)

-- Names and numbers correspond one to one: two names mean the same frame, or frames that are apart.
abbrev pub HasOneName : Source → Transcript → Type 0
HasOneName p r = (path path' : List ℕ) (f g : Block) → frame_at p r path ≡ Some f → frame_at p r path' ≡ Some g → (path ≡ path') ⊎ Apart f g

abbrev pub LiesPastGlobals : Source → Transcript → Type 0
LiesPastGlobals p r = (path : List ℕ) (f : Block) → frame_at p r path ≡ Some f → length p.openings ≤ f.first
