-- The frames of a run by names: `frames_stand`.
use Rattle.std.proofs.Common.{◌≡◌, ℕ, zero, suc, ◌+◌, ◌-◌, List, [], ◌∷◌, ◌++◌, length, Some, None, slice_get, refl, ap, ◌∙◌, subst, arith}
use Rattle.cilk_program.specs.declared.ask.Callee.{Callee}
use Rattle.cilk_program.specs.declared.ask.Callee.TheVariants.{Root}
use Rattle.cilk_program.specs.SerialRun.{Transcript, stop, act, child, cells_of}
use Rattle.cilk_program.specs.Syntax.{Source}
use Rattle.cilk_program.specs.Numbering.{Counts, unbegun, entered, counts_after, Block, block_of, child_at}
use Rattle.cilk_lower.specs.Layout.{planned_frame}
use Rattle.cilk_serial.specs.SoFar.{begun_in, callees_of}
use Rattle.cilk_determinacy.specs.Numbers.{child_runs}
use Rattle.cilk_lower.specs.declared.layout.PlannedFrame.{PlannedFrame}
use Rattle.cilk_checker.specs.Frames.{frame_begun, frames_from, frames_of, FramesStandAtTheirNumbers}
use Rattle.cilk_checker.proofs.Beginning.{cells_after, counted_frames, counted_cells}

-- the frame is at some index k of the list, and its number is n + k + 1
abbrev Stands : Source → ℕ → ℕ → List Callee → Block → Callee → Type 0
Stands p n cells cs b callee = (k : ℕ) × (b.number ≡ suc (n + k)) × (slice_get (frames_from p cells cs) k ≡ Some (planned_frame p callee b))

frames_beside : (p : Source) (n : ℕ) (xs ys : List Callee) → frames_from p n (xs ++ ys) ≡ frames_from p n xs ++ frames_from p (cells_after p n xs) ys
frames_beside p n [] ys = refl
frames_beside p n (x ∷ xs) ys = ap (λ (l : List PlannedFrame). frame_begun p n x ∷ l) (frames_beside p (n + cells_of p x) xs ys)

frames_long : (p : Source) (n : ℕ) (xs : List Callee) → length (frames_from p n xs) ≡ length xs
frames_long p n [] = refl
frames_long p n (x ∷ xs) = let h = frames_long p (n + cells_of p x) xs in omega (arith, h)

get_left : (xs ys : List PlannedFrame) (k : ℕ) (f : PlannedFrame) → slice_get xs k ≡ Some f → slice_get (xs ++ ys) k ≡ Some f
get_left [] ys k f is = absurd (let z : None ≡ Some f = is in cc z)
get_left (x ∷ xs) ys zero f is = is
get_left (x ∷ xs) ys (suc k) f is = get_left xs ys k f is

get_right : (xs ys : List PlannedFrame) (k j : ℕ) (f : PlannedFrame) → slice_get ys k ≡ Some f → j ≡ length xs + k → slice_get (xs ++ ys) j ≡ Some f
get_right [] ys k j f is at = let same : j ≡ k = omega (arith, at) in ap (slice_get ys) same ∙ is
get_right (x ∷ xs) ys k zero f is at = absurd (omega (arith, at))
get_right (x ∷ xs) ys k (suc j) f is at = get_right xs ys k j f is (omega (arith, at))

stand_left : (p : Source) (n cells : ℕ) (xs ys : List Callee) (b : Block) (callee : Callee) → Stands p n cells xs b callee → Stands p n cells (xs ++ ys) b callee
stand_left p n cells xs ys b callee h = (
  h.0,
  h.1,
  ap (λ (l : List PlannedFrame). slice_get l h.0) (frames_beside p cells xs ys) ∙ get_left (frames_from p cells xs) (frames_from p (cells_after p cells xs) ys) h.0 (planned_frame p callee b) h.2,
)

stand_right : (p : Source) (n m cells cells' : ℕ) (xs ys : List Callee) (b : Block) (callee : Callee) → m ≡ n + length xs → cells' ≡ cells_after p cells xs
    → Stands p m cells' ys b callee → Stands p n cells (xs ++ ys) b callee
stand_right p n m cells cells' xs ys b callee many more h =
    let long = frames_long p cells xs in
    let number = h.1 in (
      length xs + h.0,
      omega (arith, number, many),
      ap (λ (l : List PlannedFrame). slice_get l (length xs + h.0)) (frames_beside p cells xs ys)
          ∙ get_right (frames_from p cells xs) (frames_from p (cells_after p cells xs) ys) h.0 (length xs + h.0) (planned_frame p callee b)
          (subst (λ (c : ℕ). slice_get (frames_from p c ys) h.0 ≡ Some (planned_frame p callee b)) more h.2) (omega (arith, long)),
    )

stand_more : (p : Source) (n cells : ℕ) (c : Callee) (cs : List Callee) (b : Block) (callee : Callee) → Stands p (suc n) (cells + cells_of p c) cs b callee → Stands p n cells (c ∷ cs) b callee
stand_more p n cells c cs b callee h = (suc h.0, let number = h.1 in omega (arith, number), h.2)

stand_here : (p : Source) (n : Counts) (c : Callee) (cs : List Callee) (b : Block) (callee : Callee) → Some (block_of p c n) ≡ Some b → Some c ≡ Some callee → Stands p n.frames n.cells (c ∷ cs) b callee
stand_here p n c cs b callee is runs =
    let one : block_of p c n ≡ b = cc is in
    let same : c ≡ callee = cc runs in
    subst (λ (x : Block). Stands p n.frames n.cells (c ∷ cs) x callee) one
    (subst (λ (x : Callee). Stands p n.frames n.cells (c ∷ cs) (block_of p c n) x) same (0, omega arith, refl))

children_stand : (p : Source) (r : Transcript) (n : Counts) (k : ℕ) (path : List ℕ) (b : Block) (callee : Callee) → child_at p r n k path ≡ Some b → child_runs r k path ≡ Some callee
    → Stands p n.frames n.cells (begun_in r) b callee
children_stand p stop n k path b callee is runs = absurd (let z : None ≡ Some b = is in cc z)
children_stand p (act a v r) n k path b callee is runs = children_stand p r n k path b callee is runs
children_stand p (child how c u r) n zero [] b callee is runs = stand_here p n c (begun_in u ++ begun_in r) b callee is runs
children_stand p (child how c u r) n zero (j ∷ path) b callee is runs =
    stand_more p n.frames n.cells c (begun_in u ++ begun_in r) b callee
    (stand_left p (suc n.frames) (n.cells + cells_of p c) (begun_in u) (begun_in r) b callee (children_stand p u (entered p c n) j path b callee is runs))
children_stand p (child how c u r) n (suc k) path b callee is runs =
    let m = counts_after p u (entered p c n) in
    stand_more p n.frames n.cells c (begun_in u ++ begun_in r) b callee
    (stand_right p (suc n.frames) m.frames (n.cells + cells_of p c) m.cells (begun_in u) (begun_in r) b callee (counted_frames p u (entered p c n)) (counted_cells p u (entered p c n))
    (children_stand p r m k path b callee is runs))

at_number : (p : Source) (r : Transcript) (b : Block) (callee : Callee) → Stands p 0 (length p.openings) (callees_of r) b callee
    → slice_get (frames_of p r) (b.number - 1) ≡ Some (planned_frame p callee b)
at_number p r b callee h = let number = h.1 in let place : b.number - 1 ≡ h.0 = omega (arith, number) in ap (slice_get (frames_of p r)) place ∙ h.2

pub frames_stand : FramesStandAtTheirNumbers
frames_stand p r [] b callee is runs = at_number p r b callee (stand_here p (unbegun p) Root (begun_in r) b callee is runs)
frames_stand p r (k ∷ path) b callee is runs =
    at_number p r b callee (stand_more p 0 (length p.openings) Root (begun_in r) b callee (children_stand p r (entered p Root (unbegun p)) k path b callee is runs))
