-- The events that a maker makes.
use Rattle.std.specs.Prelude.{◌≡◌, ◌+◌, ◌<◌, ◌≤◌, ℕ, List, length, Option, Some, None}
use Rattle.cilk_program.specs.declared.ask.Ask.{Ask}
use Rattle.cilk_frames.specs.declared.cursor.Answer.{Answer}
use Rattle.cilk_shared.specs.Pieces.{PieceValue}
use Rattle.cilk_tree.specs.Kinds.{kind_of_event}
use Rattle.cilk_tree.specs.Runs.{IsAsked}
use Rattle.cilk_tree.specs.Word.{event}
use Rattle.cilk_tree.specs.declared.kind.Kind.{Kind}
use Rattle.cilk_replay.specs.Asking.{IsAnswered, IsNextAsk}
use Rattle.cilk_replay.specs.Replays.{ReplayValue}
use Rattle.cilk_replay.specs.Sorts.{Says}
use Rattle.cilk_replay.specs.Standing.{Stand}
use Rattle.cilk_replay.specs.declared.plan_match.PlanMatch.{PlanMatch}
use Rattle.cilk_replay.specs.declared.replay_frame.ReplayFrame.{ReplayFrame}
use Rattle.cilk_replay.specs.declared.sight.Sight.{Sight}

-- the event at a position is of this kind, and isn't the last one
pub record IsNextKind (c : ReplayValue) (at : ℕ) (kind : Kind) : Type 0 where
  pub first : 1 ≤ at
  pub is : let y = c.yard in kind_of_event (event y.event_order at) ≡ Some kind
  pub more : let y = c.yard in let s = y.event_order in at < length s.events

-- and the current frame's request makes it
pub record IsWanted (c : ReplayValue) (at : ℕ) (kind : Kind) (k : Ask) : Type 0 where
  pub next : IsNextKind c at kind
  pub asks : IsNextAsk c at k
  pub asked : let y = c.yard in IsAsked y.event_order at

-- The piece's next event is made, and its frame continues with this answer; or the piece is unchanged.
abbrev pub IsMadeIf : ReplayValue → PieceValue → PieceValue → Option Answer → Type 0
IsMadeIf c p q None = q ≡ p
IsMadeIf c p q (Some a) = (let y = c.yard in IsAnswered y.event_order p.upto a) × (q.upto ≡ p.upto + 1)

-- wherever a frame with this sight has requested this, the comparison with an event of this kind is right
abbrev pub Compares : ReplayValue → Sight → Ask → Kind → PlanMatch → Type 0
Compares c s k kind says =
    (at : ℕ) (l : ReplayFrame) (below : List ReplayFrame) → l.sight ≡ s → Stand c at k l below → (let y = c.yard in kind_of_event (event y.event_order at) ≡ Some kind) → (let y = c.yard in Says y.event_order at kind says)
