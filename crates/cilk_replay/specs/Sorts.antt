-- The sort of a request and of a plan's event, without its cell, reducer or frame.
use Rattle.cilk_types.specs.declared.invocation.Invocation.{Invocation}
use Rattle.cilk_types.specs.declared.invocation.Invocation.TheVariants as invocations
use Rattle.cilk_program.specs.declared.ask.Ask.{Ask}
use Rattle.cilk_program.specs.declared.ask.Ask.TheVariants as asks
use Rattle.cilk_tree.specs.declared.kind.Kind.{Kind}
use Rattle.cilk_tree.specs.declared.kind.Kind.TheVariants as kinds
use Rattle.cilk_tree.specs.declared.event_order.EventOrder.{EventOrder}
use Rattle.cilk_tree.specs.Runs.{IsAsked}
use Rattle.std.specs.Prelude.{ℕ}
use Rattle.cilk_replay.specs.declared.plan_match.PlanMatch.{PlanMatch}
use Rattle.cilk_replay.specs.declared.plan_match.PlanMatch.TheVariants as matches
use Rattle.cilk_replay.specs.declared.sort.Sort.{Sort}
use Rattle.cilk_replay.specs.declared.sort.Sort.TheVariants.{Begin, Spawn, Call, Resume, Sync, End, Read, Write, Create, Update, Set, Value, Print, Nothing}

abbrev pub sort_started : Invocation → Sort
sort_started invocations.Call = Call
sort_started invocations.Spawn = Spawn

abbrev pub sort_asked : Ask → Sort
sort_asked asks.Begin = Begin
sort_asked (asks.Read x) = Read
sort_asked (asks.Write x v) = Write
sort_asked (asks.Create r) = Create
sort_asked (asks.Update r v) = Update
sort_asked (asks.Set r v) = Set
sort_asked (asks.Value r) = Value
sort_asked (asks.Print v) = Print
sort_asked (asks.Invoke how callee) = sort_started how
sort_asked asks.Resume = Resume
sort_asked asks.Sync = Sync
sort_asked (asks.Result v) = Write
sort_asked (asks.End v) = End
sort_asked (asks.Fault f) = Nothing

abbrev pub sort_of : Kind → Sort
sort_of (kinds.Begin f) = Begin
sort_of (kinds.Spawn f) = Spawn
sort_of (kinds.Call f) = Call
sort_of (kinds.Resume f) = Resume
sort_of kinds.Sync = Sync
sort_of kinds.End = End
sort_of (kinds.Read c) = Read
sort_of (kinds.Write c) = Write
sort_of (kinds.Create i) = Create
sort_of (kinds.Update i) = Update
sort_of (kinds.Set i) = Set
sort_of (kinds.Value i) = Value
sort_of kinds.Print = Print

-- events of this sort name no cell, no reducer and no child
abbrev pub NamesNothing : Sort → Type 0
NamesNothing Begin = Unit {0}
NamesNothing Resume = Unit {0}
NamesNothing Sync = Unit {0}
NamesNothing End = Unit {0}
NamesNothing Print = Unit {0}
NamesNothing _ = ⊥

-- the comparison with the event of this kind at a position
abbrev pub Says : EventOrder → ℕ → Kind → PlanMatch → Type 0
Says s at k matches.Follows = IsAsked s at
Says s at k matches.Departs = IsAsked s at → ⊥
