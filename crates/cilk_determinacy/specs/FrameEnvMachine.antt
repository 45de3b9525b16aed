-- The free machine on the language: what its frames request, what that costs, and its opening
-- values.
use Rattle.std.specs.Prelude.{ℕ, suc, ◌+◌, ◌-◌, ℤ, pos, Bool, true, false, cond, List, [], ◌∷◌, length, map, Option, Some, None, slice_get, unwrap_or}
use Rattle.cilk_types.specs.declared.limits.TheConstants.{MAX_EVENTS, MAX_TICKS, MAX_FRAMES, MAX_CELLS}
use Rattle.cilk_monoid.specs.declared.kind.MonoidKind.{MonoidKind}
use Rattle.cilk_program.specs.declared.ask.Ask as language
use Rattle.cilk_program.specs.declared.ask.Ask.TheVariants as asks
use Rattle.cilk_program.specs.declared.ask.Callee.TheVariants as callees
use Rattle.cilk_types.specs.declared.invocation.Invocation.{Invocation}
use Rattle.cilk_types.specs.declared.invocation.Invocation.TheVariants.{Call, Spawn}
use Rattle.cilk_program.specs.Syntax.{Source}
use Rattle.cilk_program.specs.Behaviour.{OpenAsk, frame_asks}
use Rattle.cilk_program.specs.SerialRun.{cells_of, own_reducers}
use Rattle.cilk_determinacy.specs.Runs.{Cell, Global, Own, Instance, Ask, Read, Write, Invoke, Sync, End, Pass, Fail, Begin, Resume, Create, Update, Set, Value, Print, Reads, Writes, Syncs, Ends, Passes, Begins, Resumes, Creates, Updates, Sets, Values, Prints, Deed, Does, Invokes}
use Rattle.cilk_determinacy.specs.Costs.{Costs, Total, TickTotal, EventTotal, FrameTotal, CellTotal}
use Rattle.cilk_determinacy.specs.Machine.{started}
use Rattle.cilk_determinacy.specs.FrameEnvs.{FrameEnv, Reducers, own_named, child_env, cell_seen, reducer_seen, result_cell}

-- a frame's own reducers with these monoids, counted from n
abbrev pub retired_from : (ℕ → Reducers) → ℕ → List MonoidKind → List Instance
retired_from own n [] = []
retired_from own n (k ∷ ks) = own n k ∷ retired_from own (suc n) ks

-- the reducers that a frame's end retires: those that it created for itself
abbrev pub retired_by : Source → FrameEnv → List Instance
retired_by p w = retired_from (own_named p w.callee w.name) 0 (own_reducers p w.callee)

-- an ask of a frame by names, if its next child has this ordinal
abbrev pub named_ask : Source → FrameEnv → ℕ → language.Ask → Ask FrameEnv
named_ask p w k asks.Begin = Pass Begin
named_ask p w k (asks.Read x) = Read (cell_seen w x)
named_ask p w k (asks.Write x v) = Write (cell_seen w x) v
named_ask p w k (asks.Create r) = Pass (Create (reducer_seen w r))
named_ask p w k (asks.Update r v) = Pass (Update (reducer_seen w r) v)
named_ask p w k (asks.Set r v) = Pass (Set (reducer_seen w r) v)
named_ask p w k (asks.Value r) = Pass (Value (reducer_seen w r))
named_ask p w k (asks.Print v) = Pass (Print v)
named_ask p w k (asks.Invoke how callee) = Invoke how (child_env p w k callee)
named_ask p w k asks.Resume = Pass Resume
named_ask p w k asks.Sync = Sync
named_ask p w k (asks.Result v) = Write (result_cell w) v
named_ask p w k (asks.End v) = End v (retired_by p w)
named_ask p w k (asks.Fault f) = Fail f

-- the answer to a deed, 0 if there is none
abbrev pub answer_of : Deed FrameEnv → ℤ
answer_of (Does (Reads c v)) = v
answer_of (Does (Writes c v)) = pos 0
answer_of (Does Syncs) = pos 0
answer_of (Does (Ends v gone)) = pos 0
answer_of (Does (Passes Begins)) = pos 0
answer_of (Does (Passes Resumes)) = pos 0
answer_of (Does (Passes (Creates i))) = pos 0
answer_of (Does (Passes (Updates i x))) = pos 0
answer_of (Does (Passes (Sets i x))) = pos 0
answer_of (Does (Passes (Values i v))) = v
answer_of (Does (Passes (Prints x))) = pos 0
answer_of (Invokes k w) = pos 0

abbrev pub answers_of : List (Deed FrameEnv) → List ℤ
answers_of past = map answer_of past

-- the deed is the frame's end
abbrev pub is_end : Deed FrameEnv → Bool
is_end (Does (Reads c v)) = false
is_end (Does (Writes c v)) = false
is_end (Does Syncs) = false
is_end (Does (Ends v gone)) = true
is_end (Does (Passes m)) = false
is_end (Invokes k w) = false

abbrev pub has_ended : List (Deed FrameEnv) → Bool
has_ended [] = false
has_ended (d ∷ past) = cond (is_end d) true (has_ended past)

-- all but the last
abbrev pub but_last : {A : Type 0} → List A → List A
but_last [] = []
but_last (x ∷ []) = []
but_last (x ∷ y ∷ xs) = x ∷ but_last (y ∷ xs)

module _ (p : Source) (inputs : List ℤ) where
  -- a frame's next ask after a history, given all the ticks of a run
  abbrev pub asked_after : FrameEnv → List (Deed FrameEnv) → OpenAsk
  asked_after w past = frame_asks p inputs w.callee (answers_of past) MAX_TICKS

  -- a frame's next ask, none after its end
  abbrev pub next : FrameEnv → List (Deed FrameEnv) → Option (Ask FrameEnv)
  next w past = cond (has_ended past) None (Some (named_ask p w (suc (started past)) (asked_after w past).ask))

  -- the ticks that a frame has used up to the ask after a history
  abbrev pub taken : FrameEnv → List (Deed FrameEnv) → ℕ
  taken w past = MAX_TICKS - (asked_after w past).left

  -- the totals of the opening state, and the limits of a run
  abbrev pub used : Total → ℕ
  used TickTotal = 0
  used EventTotal = 0
  used FrameTotal = 1
  used CellTotal = length p.openings + cells_of p callees.Root

  abbrev pub limit : Total → ℕ
  limit TickTotal = MAX_TICKS
  limit EventTotal = MAX_EVENTS
  limit FrameTotal = MAX_FRAMES
  limit CellTotal = MAX_CELLS

  abbrev pub costs : Costs FrameEnv
  costs = record { ticks = λ w past. taken w past - taken w (but_last past); cells = λ w. cells_of p w.callee; used = used; limit = limit }

  -- the opening values of the cells
  abbrev pub opening_values : Cell → ℤ
  opening_values (Global n) = unwrap_or (slice_get p.openings n) (pos 0)
  opening_values (Own name n) = pos 0
