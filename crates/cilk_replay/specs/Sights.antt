-- The cells and reducers that a frame sees, by their numbers in a plan's run.
use Rattle.std.specs.Prelude.{◌≡◌, ◌+◌, ℕ, nat_lt, if◌then◌else◌, List, [], ◌∷◌, drop, Option, Some, None, slice_get}
use Rattle.cilk_program.specs.declared.ask.Ask.{Ask}
use Rattle.cilk_program.specs.declared.ask.Ask.TheVariants as asks
use Rattle.cilk_program.specs.declared.ask.Callee.{Callee}
use Rattle.cilk_program.specs.declared.ask.Callee.TheVariants as callees
use Rattle.cilk_program.specs.declared.syntax.Place.{Place}
use Rattle.cilk_program.specs.declared.syntax.Place.TheVariants as places
use Rattle.cilk_program.specs.SerialRun.{Transcript}
use Rattle.cilk_program.specs.Scopes.{Home as SeenHome}
use Rattle.cilk_program.specs.Syntax.{Source}
use Rattle.cilk_monoid.specs.declared.kind.MonoidKind.{MonoidKind}
use Rattle.cilk_program.specs.Numbering.{Block}
use Rattle.cilk_program.specs.Visible.{FrameSees}
use Rattle.cilk_determinacy.specs.Runs.{Cell, Global}
use Rattle.cilk_determinacy.specs.FrameEnvs.{FrameEnv, Reducers, Sight as Seen, global_named, result_cell}
use Rattle.cilk_determinacy.specs.Numbers.{cell_number, instance_number, HasCell, HasInstance}
use Rattle.cilk_replay.specs.declared.plan_match.PlanMatch.{PlanMatch}
use Rattle.cilk_replay.specs.declared.plan_match.PlanMatch.TheVariants as matches
use Rattle.cilk_replay.specs.declared.frame_layout.CellBlock.{CellBlock}
use Rattle.cilk_replay.specs.declared.frame_layout.FrameLayout.{FrameLayout}
use Rattle.cilk_replay.specs.declared.frame_layout.ReducerNumber.{ReducerNumber}
use Rattle.cilk_replay.specs.declared.sight.Sight.{Sight}
use Rattle.cilk_replay.specs.Reducing.{as_instance, given_seen, own_reducer}

-- the frame's own layout, then by its static links the layouts of the frames around it
abbrev pub layouts_of : Sight → List FrameLayout
layouts_of s = s.own ∷ s.outer.items

-- ---- numbers of cells; none if the run doesn't have the cell

abbrev pub found_global : ℕ → ℕ → Option ℕ
found_global globals n = if nat_lt n globals then Some n else None

abbrev pub found_inside : CellBlock → ℕ → Option ℕ
found_inside b n = if nat_lt n b.cells then Some (b.first + n) else None

abbrev pub found_there : ℕ → Option FrameLayout → ℕ → Option ℕ
found_there globals None n = found_global globals n
found_there globals (Some h) n = found_inside h.block n

abbrev pub found_in : ℕ → List FrameLayout → Place → Option ℕ
found_in globals layouts (places.Global n) = found_global globals n
found_in globals layouts (places.Local up n) = found_there globals (slice_get layouts up) n

-- the number of the cell that receives a result; without one, that of the first global
abbrev pub number_taking : ℕ → List FrameLayout → Option Place → Option ℕ
number_taking globals layouts None = found_global globals 0
number_taking globals layouts (Some x) = found_in globals layouts x

-- the number of the cell that a frame requests, if it sees this
abbrev pub cell_asked : ℕ → Sight → Ask → Option ℕ
cell_asked globals s (asks.Read x) = found_in globals (layouts_of s) x
cell_asked globals s (asks.Write x v) = found_in globals (layouts_of s) x
cell_asked globals s (asks.Result v) = s.result
cell_asked globals s k = None

-- ---- the frames of a run

-- the cells of a run's frame
abbrev pub cells_of_block : Block → CellBlock
cells_of_block b = record { first = b.first; cells = b.cells }

-- the sight of a child with this layout
abbrev pub outer_layouts : Callee → List FrameLayout → List FrameLayout
outer_layouts callees.Root layouts = []
outer_layouts (callees.Function c) layouts = []
outer_layouts (callees.Loop l) layouts = drop l.up layouts

abbrev pub result_number : ℕ → Callee → List FrameLayout → Option ℕ
result_number globals callees.Root layouts = found_global globals 0
result_number globals (callees.Function c) layouts = number_taking globals layouts c.result
result_number globals (callees.Loop l) layouts = found_global globals 0

abbrev pub IsSightOf : ℕ → Callee → FrameLayout → Sight → Sight → Type 0
IsSightOf globals callee layout caller s =
    (layouts_of s ≡ layout ∷ outer_layouts callee (layouts_of caller)) × (s.given.items ≡ given_seen callee (layouts_of caller) caller.given.items)
    × (s.result ≡ result_number globals callee (layouts_of caller))

module _ (p : Source) (r : Transcript) where
  -- the run has the cell with this number, or doesn't have the cell
  abbrev pub IsNumberOf : Cell → Option ℕ → Type 0
  IsNumberOf c (Some n) = HasCell p r c × (cell_number p r c ≡ n)
  IsNumberOf c None = HasCell p r c → ⊥

  -- a reducer has this number, whatever its monoid
  abbrev pub IsReducer : Reducers → ReducerNumber → Type 0
  IsReducer i n = (k : MonoidKind) → instance_number p r (i k) ≡ as_instance n

  -- the run has a frame's own cells and reducers, with these numbers
  pub record HasLayout (seen : SeenHome Cell Reducers) (layout : FrameLayout) : Type 0 where
    pub cells : (n : ℕ) → IsNumberOf (seen.cells n) (found_inside layout.block n)
    pub own : (n : ℕ) → IsReducer (seen.own n) (own_reducer layout n)

  -- the same of each frame that is seen
  abbrev pub HaveLayouts : Seen → List FrameLayout → Type 0
  HaveLayouts [] [] = Unit {0}
  HaveLayouts (h ∷ hs) (b ∷ bs) = HasLayout h b × HaveLayouts hs bs
  HaveLayouts _ _ = ⊥

  abbrev pub AreReducers : List Reducers → List ReducerNumber → Type 0
  AreReducers [] [] = Unit {0}
  AreReducers (i ∷ is) (n ∷ ns) = IsReducer i n × AreReducers is ns
  AreReducers _ _ = ⊥

  -- reducers are passed only to the outermost frame
  abbrev pub HaveGiven : Seen → List ReducerNumber → Type 0
  HaveGiven [] given = Unit {0}
  HaveGiven (h ∷ []) given = AreReducers h.given given
  HaveGiven (h ∷ h' ∷ hs) given = (h.given ≡ []) × HaveGiven (h' ∷ hs) given

  -- the sight is right for the frame, and the run has all reducers that the frame can name
  pub record Sees (w : FrameEnv) (s : Sight) : Type 0 where
    pub layouts : HaveLayouts w.sight (layouts_of s)
    pub given : HaveGiven w.sight s.given.items
    pub result : IsNumberOf (result_cell w) s.result
    pub reducers : FrameSees p Global global_named (λ c. Unit {0}) (λ i k. HasInstance p r (i k)) w.callee w.sight w.result

-- the comparison with the plan's cell
abbrev pub MatchesCell : Option ℕ → ℕ → PlanMatch → Type 0
MatchesCell found c matches.Follows = found ≡ Some c
MatchesCell found c matches.Departs = found ≡ Some c → ⊥
