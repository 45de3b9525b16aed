-- The values that may be sent to another thread.
use denote.Param.Send.{IsSend, IsSync, sendable}
use denote.Ref.{NamedLft}
use Rattle.std.proofs.Crossing.{crosses}
use Rattle.cilk_hypermap.proofs.hypermap.Hypermap.TheSendSync as hypermap
use Rattle.cilk_shared.proofs.yard.Segment.TheSendSync as segment
use Rattle.cilk_frames.proofs.asked.AskSlot.TheSendSync as asked
use Rattle.cilk_join.proofs.row.Row.TheSendSync as row
use Rattle.cilk_replay.proofs.replay_frame.ReplayFrame.TheSendSync as replay_frame
use Rattle.cilk_lower.proofs.code.Code.TheSendSync as code
use Rattle.cilk_lower.proofs.layout.PlannedFrame.TheSendSync as planned
use Rattle.cilk_tree.proofs.kind.Kind.TheSendSync as kind
use Rattle.cilk_types.proofs.input.Input.TheSendSync as input
use Rattle.cilk_shared.specs.contracts.piece.Piece as Piece
use Rattle.cilk_tree.specs.contracts.plan.Plan as Plan
use Rattle.cilk_replay.specs.contracts.replay.Replay as Replay
use Rattle.cilk_replay.specs.contracts.replay.ReplayModel as ReplayModel
use Rattle.cilk_replay.specs.contracts.chain.Chain as Chain
use Rattle.cilk_replay.specs.contracts.chain.Rest as Rest
use Rattle.cilk_replay.specs.contracts.chain.Task as Task
use Rattle.cilk_workers.specs.contracts.runs.Runs as Runs
use Rattle.cilk_workers.specs.contracts.join.JoinBox as JoinBox
use Rattle.cilk_workers.specs.contracts.shelf.Shelf as Shelf

pub piece_send : IsSend Piece.the_row
piece_send = search (hypermap.the_field_send, segment.the_send, sendable, crosses) depth 20

pub chain_send : IsSend Chain.the_row
chain_send = search (asked.the_send, replay_frame.the_send, replay_frame.the_field_send, sendable, crosses) depth 20

rest_send : IsSend Rest.the_row
rest_send = search (replay_frame.the_send, replay_frame.the_field_send, sendable, crosses) depth 20

pub task_send : IsSend Task.the_row
task_send = search (rest_send, sendable, crosses) depth 20

runs_send : IsSend Runs.the_row
runs_send = search (row.the_send, piece_send, sendable, crosses) depth 20

box_send : IsSend JoinBox.the_row
box_send = search (runs_send, chain_send, sendable, crosses) depth 20

pub shelf_send : IsSend Shelf.the_row
shelf_send = search (box_send, sendable, crosses) depth 20

pub plan_sync : IsSync Plan.the_row
plan_sync = search (kind.the_field_sync, sendable, crosses) depth 20

model_sync : IsSync ReplayModel.the_row
model_sync = search (sendable, crosses) depth 20

pub replay_sync : (κ : NamedLft) → IsSync (Replay.the_row κ)
replay_sync κ = search (model_sync, code.the_sync, input.the_sync, planned.the_sync, sendable, crosses) depth 20
