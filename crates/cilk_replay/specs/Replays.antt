-- The replay of a plan's run on some inputs: its event order, and the current frame at each event.
use Rattle.std.specs.Prelude.{◌≡◌, ◌-◌, ℕ, ℤ, List, length, Option, Some, slice_get, refl}
use Rattle.std.specs.Coded.{Coded, code_by, coded×, coded_list, coded_ℤ}
use Rattle.cilk_types.specs.declared.event.Event.{Event}
use Rattle.cilk_program.specs.contracts.program.Program as program
use Rattle.cilk_program.specs.declared.program.Program.{Program}
use Rattle.cilk_program.specs.declared.ask.Callee.{Callee}
use Rattle.cilk_program.specs.SerialRun.{Transcript}
use Rattle.cilk_program.specs.Sources.{source}
use Rattle.cilk_program.specs.Syntax.{Source}
use Rattle.cilk_lower.specs.Behaves.{Behaves}
use Rattle.cilk_lower.specs.Layout.{planned_frame}
use Rattle.cilk_lower.specs.declared.layout.PlannedFrame.{PlannedFrame}
use Rattle.cilk_lower.specs.Code.{CodeView}
use Rattle.cilk_lower.specs.contracts.code.Code as code
use Rattle.cilk_tree.specs.declared.event_order.EventOrder.{EventOrder}
use Rattle.cilk_tree.specs.Orders.{IsOrderly}
use Rattle.cilk_tree.specs.Along.{IsAlong}
use Rattle.cilk_tree.specs.Planned.{planned}
use Rattle.cilk_shared.specs.Values.{YardValue}
use Rattle.cilk_shared.specs.contracts.yard.Yard as yard
use Rattle.cilk_determinacy.specs.FrameEnvs.{FrameEnv}
use Rattle.cilk_replay.specs.Points.{Point, points_on}
use Rattle.cilk_replay.specs.EventOrders.{event_order_on, IsPlannedRun}
use Rattle.cilk_program.specs.Numbering.{Block, frame_at}
use Rattle.cilk_program.specs.declared.program.Body.{Body}
use Rattle.cilk_program.specs.Inside.{body_of}
use Rattle.cilk_determinacy.specs.Numbers.{frame_runs}
use Rattle.cilk_replay.specs.declared.frame_layout.CellBlock.{CellBlock}
use Rattle.cilk_replay.specs.declared.frame_layout.FrameLayout.{FrameLayout}
use Rattle.cilk_replay.specs.declared.sight.Sight.{Sight}
use Rattle.cilk_replay.specs.Sights.{IsSightOf, cells_of_block}

-- A replay as contracts see it: the yard with its event order, the program and its code, the inputs
-- of the plan's run, and the current inputs.
pub record ReplayValue : Type 0 where
  pub yard : YardValue
  pub program : Program
  pub code : CodeView
  pub own : List ℤ
  pub inputs : List ℤ

abbrev pub replay_with : YardValue → Program → CodeView → List ℤ → List ℤ → ReplayValue
replay_with y p k own is = record { yard = y; program = p; code = k; own = own; inputs = is }

-- it is stored as the tuple of its fields
abbrev pub replay_code : Coded ReplayValue
replay_code =
    code_by (YardValue × (Program × (CodeView × (List ℤ × List ℤ))))
    (coded× yard.the_row.coded (coded× program.the_row.coded (coded× code.the_row.coded (coded× (coded_list coded_ℤ) (coded_list coded_ℤ)))))
    (λ v. (v.yard, (v.program, (v.code, (v.own, v.inputs)))))
    (λ t. record { yard = t.0; program = t.1.0; code = t.1.1.0; own = t.1.1.1.0; inputs = t.1.1.1.1 }) (λ v. refl)

-- a replay, with the serial run of the program that its plan is of
pub record Setting : Type 0 where
  pub program : Source
  pub code : CodeView
  pub own : List ℤ
  pub inputs : List ℤ
  pub run : Transcript
  pub event_order : EventOrder

abbrev pub setting_of : ReplayValue → Transcript → Setting
setting_of c r = let y = c.yard in record { program = source c.program; code = c.code; own = c.own; inputs = c.inputs; run = r; event_order = y.event_order }

-- the current frame at the event after `behind` others, with its past
unfoldable pub point_at : Setting → ℕ → Option (Point FrameEnv)
point_at s behind = slice_get (points_on s.program s.inputs s.run) behind

-- The code requests what the program requests, the plan is that of the program's serial run on its
-- own inputs, and the event order is what the program makes of the plan on the current inputs.
pub record IsOfProgram (s : Setting) : Type 0 where
  pub behaves : Behaves s.program s.code
  pub events : List Event
  pub is : let t = s.event_order in IsPlannedRun s.program s.own s.run events t.opening
  pub told : let t = s.event_order in s.event_order ≡ event_order_on s.program s.inputs s.run events t.opening
  pub orderly : IsOrderly s.event_order
  pub along : let t = s.event_order in IsAlong (planned events t.opening) s.event_order

-- the program has such a run
abbrev pub IsReplay : ReplayValue → Type 0
IsReplay c = (run : Transcript) × IsOfProgram (setting_of c run)

-- the frames of a run, in the order of their numbers, from 1
abbrev pub AreFrames : Source → Transcript → List PlannedFrame → Type 0
AreFrames p r frames =
    (path : List ℕ) (b : Block) (callee : Callee) → frame_at p r path ≡ Some b → frame_runs r path ≡ Some callee → slice_get frames (b.number - 1) ≡ Some (planned_frame p callee b)

-- the same for a replay
abbrev pub AreFramesAlong : ReplayValue → List PlannedFrame → Type 0
AreFramesAlong c frames = (run : Transcript) → IsOfProgram (setting_of c run) → AreFrames (source c.program) run frames

-- the frame with this number, if the run has it
abbrev pub IsFrameOf : ReplayValue → ℕ → PlannedFrame → Type 0
IsFrameOf c number planned =
    (run : Transcript) (path : List ℕ) (b : Block) (callee : Callee) → IsOfProgram (setting_of c run) → frame_at (source c.program) run path ≡ Some b
    → frame_runs run path ≡ Some callee → b.number ≡ number → planned ≡ planned_frame (source c.program) callee b

-- its block of cells
abbrev pub IsBlockOf : ReplayValue → ℕ → CellBlock → Type 0
IsBlockOf c number block =
    (run : Transcript) (path : List ℕ) (b : Block) → IsOfProgram (setting_of c run) → frame_at (source c.program) run path ≡ Some b → b.number ≡ number → block ≡ cells_of_block b

-- the function or loop of that frame
abbrev pub IsBodyOf : ReplayValue → ℕ → Body → Type 0
IsBodyOf c number body =
    (run : Transcript) (path : List ℕ) (b : Block) (callee : Callee) → IsOfProgram (setting_of c run) → frame_at (source c.program) run path ≡ Some b
    → frame_runs run path ≡ Some callee → b.number ≡ number → body ≡ body_of (source c.program) callee

-- the sight of a child that one of its frames begins
abbrev pub IsSightIn : ReplayValue → Callee → FrameLayout → Sight → Sight → Type 0
IsSightIn c callee layout caller s = let p = source c.program in IsSightOf (length p.openings) callee layout caller s
