-- The pieces at a sync block: those of stolen children that have arrived, multiplied wherever no
-- awaited piece is between them.
use Rattle.std.specs.Prelude.{◌≡◌, ℕ, suc, nat_eq, Bool, true, false, cond, ◌⊎◌, List, [], ◌∷◌, ◌++◌, Option, None}
use Rattle.cilk_types.specs.declared.invocation.Invocation.TheVariants.{Call, Spawn}
use Rattle.cilk_monoid.specs.declared.kind.MonoidKind.{MonoidKind}
use Rattle.cilk_monoid.specs.Kinds.{structure_of}
use Rattle.cilk_monoid.specs.Values.{ViewValue}
use Rattle.cilk_determinacy.specs.Machine.{block_view}
use Rattle.cilk_determinacy.specs.Runs.{Reads, Writes, Syncs, Ends, Passes, Deed, Does, Invokes}
use Rattle.cilk_join.specs.Rows.{Wait, Stands, wait, or_unit, placed}
use Rattle.cilk_determinacy.specs.Reducers.{View, views_of}
use Rattle.cilk_determinacy.specs.FrameEnvViews.{IsViewOf}

-- the ordinals of the stolen children of the block that is open after the deeds, in ascending order
abbrev pub stolen_in : {W : Type 0} → (ℕ → Bool) → ℕ → List ℕ → List (Deed W) → List ℕ
stolen_in loose k ks [] = ks
stolen_in loose k ks (Does (Reads c v) ∷ ds) = stolen_in loose k ks ds
stolen_in loose k ks (Does (Writes c v) ∷ ds) = stolen_in loose k ks ds
stolen_in loose k ks (Does Syncs ∷ ds) = stolen_in loose k [] ds
stolen_in loose k ks (Does (Ends val gone) ∷ ds) = stolen_in loose k ks ds
stolen_in loose k ks (Does (Passes m) ∷ ds) = stolen_in loose k ks ds
stolen_in loose k ks (Invokes Call w ∷ ds) = stolen_in loose (suc k) ks ds
stolen_in loose k ks (Invokes Spawn w ∷ ds) = stolen_in loose (suc k) (cond (loose k) (ks ++ k ∷ []) ks) ds

module _ (kind : MonoidKind) where
  -- The free machine's product v of consecutive pieces is the view of `run`; none counts as the
  -- unit.
  abbrev pub IsRun : View → Option ViewValue → Type 0
  IsRun v run = IsViewOf kind v (or_unit ((structure_of kind).unit) ((structure_of kind).combine) run)

  -- A row has the pieces of those of these children that are there. acc is the product of the
  -- pieces so far. own is the frame's own piece once it has arrived, and the unit before.
  abbrev pub Lays : (ℕ → View) → (ℕ → Bool) → View → View → List ℕ → Option ViewValue → List (Wait ViewValue) → Type 0
  Lays kid there own acc [] run waits = IsRun ((views_of kind).combine acc own) run × (waits ≡ [])
  Lays kid there own acc (k ∷ ks) run waits =
      ((there k ≡ true) × Lays kid there own ((views_of kind).combine acc (kid k)) ks run waits)
      ⊎ ((there k ≡ false) × (after : Option ViewValue) × (rest : List (Wait ViewValue)) × (waits ≡ wait k after ∷ rest) × IsRun acc run × Lays kid there own ((views_of kind).unit) ks after rest)

-- one more child is there
abbrev pub with_one : (ℕ → Bool) → ℕ → ℕ → Bool
with_one there k j = cond (nat_eq j k) true (there j)

-- no key twice
abbrev pub NotIn : ℕ → List ℕ → Type 0
NotIn k [] = Unit {0}
NotIn k (j ∷ js) = (nat_eq j k ≡ false) × NotIn k js

abbrev pub Apart : List ℕ → Type 0
Apart [] = Unit {0}
Apart (k ∷ ks) = NotIn k ks × Apart ks

-- ---- laws of the pieces at a block

module _ (kind : MonoidKind) where
  abbrev unit_value : ViewValue
  unit_value = (structure_of kind).unit

  abbrev times_value : ViewValue → ViewValue → ViewValue
  times_value = (structure_of kind).combine

  -- a continuation is stolen before the own piece has arrived: its child's piece is awaited
  abbrev pub StealsLay : Type 0
  StealsLay = (kid : ℕ → View) (there : ℕ → Bool) (acc : View) (ks : List ℕ) (run : Option ViewValue) (waits : List (Wait ViewValue)) (k : ℕ) → there k ≡ false
      → Lays kind kid there ((views_of kind).unit) acc ks run waits → Lays kind kid there ((views_of kind).unit) acc (ks ++ k ∷ []) run (waits ++ wait k None ∷ [])

  -- a stolen child's piece arrives
  abbrev pub ChildrenLay : Type 0
  ChildrenLay = (kid kid' : ℕ → View) (there : ℕ → Bool) (own : View) (k : ℕ) → ((j : ℕ) → nat_eq j k ≡ false → kid' j ≡ kid j) → (x : ViewValue) → IsViewOf kind (kid' k) x
      → (acc : View) (js : List ℕ) (run : Option ViewValue) (waits : List (Wait ViewValue)) → Apart js → Stands js k → there k ≡ false → Lays kind kid there own acc js run waits
      → Lays kind kid' (with_one there k) own acc js (let r = placed unit_value times_value run waits k x in r.run) (let r = placed unit_value times_value run waits k x in r.waits)

  -- the own piece arrives, with a key that isn't awaited
  abbrev pub OwnLays : Type 0
  OwnLays = (kid : ℕ → View) (there : ℕ → Bool) (acc : View) (ks : List ℕ) (run : Option ViewValue) (waits : List (Wait ViewValue)) (k : ℕ) (v : View) (x : ViewValue) → IsViewOf kind v x → NotIn k ks
      → Lays kind kid there ((views_of kind).unit) acc ks run waits → Lays kind kid there v acc ks (let r = placed unit_value times_value run waits k x in r.run) (let r = placed unit_value times_value run waits k x in r.waits)

  -- with nothing awaited, the one product left is the free machine's for the block, times the own
  -- piece
  abbrev pub BlockPasses : Type 0 → Type 0
  BlockPasses W = (kid : ℕ → View) (loose there : ℕ → Bool) (own : View) (ds : List (Deed W)) (run : Option ViewValue) → Lays kind kid there own ((views_of kind).unit) (stolen_in loose 1 [] ds) run []
      → IsRun kind ((views_of kind).combine (block_view (views_of kind) kid loose ((views_of kind).unit) 1 ds) own) run
