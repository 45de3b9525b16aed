-- How frames begin, resume and end in a run.
use Rattle.std.specs.Prelude.{◌≡◌, ◌⊎◌, Bool, true, false}
use Rattle.cilk_program.specs.declared.ask.Ask.{Ask}
use Rattle.cilk_program.specs.declared.ask.Ask.TheVariants as asks
use Rattle.cilk_program.specs.Outcomes.{Conclusion, Leaves, StopsBy}
use Rattle.cilk_program.specs.SerialRun.{Transcript, stop, act, child}

abbrev pub IsNoBegin : Ask → Type 0
IsNoBegin asks.Begin = ⊥
IsNoBegin k = Unit {0}

abbrev pub IsNoResume : Ask → Type 0
IsNoResume asks.Resume = ⊥
IsNoResume k = Unit {0}

-- If `begun` is false, the frame's first event is its beginning, unless it is stopped before it,
-- and it begins only once. So do its children.
abbrev pub BeginsOnce : (begun : Bool) → Transcript → Type 0
BeginsOnce begun stop = Unit {0}
BeginsOnce false (act k a r) = (k ≡ asks.Begin) × BeginsOnce true r
BeginsOnce false (child how callee u r) = ⊥
BeginsOnce true (act k a r) = IsNoBegin k × BeginsOnce true r
BeginsOnce true (child how callee u r) = BeginsOnce false u × BeginsOnce true r

-- The frame resumes right after each child, unless the run is stopped there, and nowhere else.
-- `due` means that a child has just ended.
abbrev pub IsResumed : (due : Bool) → Transcript → Type 0
IsResumed due stop = Unit {0}
IsResumed true (act k a r) = (k ≡ asks.Resume) × IsResumed false r
IsResumed true (child how callee u r) = ⊥
IsResumed false (act k a r) = IsNoResume k × IsResumed false r
IsResumed false (child how callee u r) = IsResumed false u × IsResumed true r

-- the first if the request is a sync, else the second
abbrev pub at_sync : Ask → Type 0 → Type 0 → Type 0
at_sync asks.Sync P Q = P
at_sync k P Q = Q

-- the first if the request is an end, else the second
abbrev pub at_end : Ask → Type 0 → Type 0 → Type 0
at_end (asks.End v) P Q = P
at_end k P Q = Q

-- the frame has another sync
abbrev pub HasSync : Transcript → Type 0
HasSync stop = ⊥
HasSync (act k a r) = at_sync k (Unit {0}) (HasSync r)
HasSync (child how callee u r) = HasSync r

-- The frame ends, and its end is its last event. A sync follows each of its children, and its
-- children end.
abbrev pub IsClosed : Transcript → Type 0
IsClosed stop = ⊥
IsClosed (act k a r) = at_end k (r ≡ stop) (IsClosed r)
IsClosed (child how callee u r) = IsClosed u × HasSync r × IsClosed r

-- the frame is stopped before its end, or its last child is
abbrev pub IsCutShort : Transcript → Type 0
IsCutShort stop = Unit {0}
IsCutShort (act k a r) = at_end k ⊥ (IsCutShort r)
IsCutShort (child how callee u r) = (IsClosed u × IsCutShort r) ⊎ (IsCutShort u × (r ≡ stop))

abbrev pub EndsSo : Transcript → Conclusion → Type 0
EndsSo r (Leaves outcome) = IsClosed r
EndsSo r (StopsBy f) = IsCutShort r
