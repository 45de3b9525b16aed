-- The frame of a cell.
--
-- - `parted`, `past_is`: the frames that begin at a cell or before, and how many they are;
-- - `cell_shown`: a cell's name.
use Rattle.std.proofs.Common.{◌≡◌, ⊎_elim, ◌+◌, ◌-◌, ◌<◌, ◌≤◌, ℕ, ℤ, zero, suc, Bool, true, false, true≢false, leb, List, length, slice_get, Some, sym, ap, ◌∙◌, subst, arith}
use Rattle.std.specs.List.Sorted.{IsPartitionPoint, IsPartitionedBy}
use Rattle.std.proofs.lemmas.Bool.{cases_lt, le-leb, leb-true}
use Rattle.std.proofs.lemmas.Option.{get_or_from_slice_get}
use Rattle.cilk_program.specs.Syntax.{Source}
use Rattle.cilk_frames.specs.declared.activation.Activation.{Activation}
use Rattle.cilk_determinacy.specs.Machine.{State}
use Rattle.cilk_determinacy.specs.Runs.{Name, Cell, Global, Own}
use Rattle.cilk_determinacy.specs.Reducers.{View}
use Rattle.cilk_determinacy.specs.FrameEnvs.{FrameEnv}
use Rattle.cilk_lower.specs.Code.{CodeView}
use Rattle.cilk_scheduler.specs.Schedulers.{Tells}
use Rattle.cilk_scheduler.specs.Numbered.{IsCell, size_of}
use Rattle.cilk_scheduler.specs.declared.scheduler.Scheduler.{Scheduler}
use Rattle.cilk_scheduler.specs.declared.frame_state.FrameState.{FrameState}
use Rattle.cilk_scheduler.proofs.Placed.{get_some}
use Rattle.cilk_scheduler.proofs.Plain.{get_low}
use Rattle.cilk_schedule.specs.Showing.{IsCellOf, IsCellShown, IsOwner}
use Rattle.cilk_schedule.specs.declared.naming.CellName.{CellName}
use Rattle.cilk_schedule.specs.declared.naming.CellName.TheVariants as cells

module _ (frames : List (Activation FrameState)) (k : ℕ) (x : Activation FrameState) (n : ℕ) (owner : IsOwner frames k x n) where
  -- a frame begins at the cell or before
  abbrev begins : Activation FrameState → Bool
  begins y = leb y.base n

  pub parted : IsPartitionedBy (λ (y : Activation FrameState). leb y.base n) frames
  parted i j d low there is =
      let z = get_some frames i (omega (arith, low, there)) in
      let y = get_some frames j there in
      let e = get_or_from_slice_get frames j y.0 d y.1 in
      let first = leb-true (let a = y.0 in a.base) n (subst (λ (a : Activation FrameState). leb a.base n ≡ true) e is) in
      let before : j ≤ k = ⊎_elim (λ past. let less = owner.behind j y.0 y.1 past in absurd (omega (arith, less, first))) (λ h. h) (cases_lt k j) in
      subst (λ (a : Activation FrameState). leb a.base n ≡ true) (sym (get_or_from_slice_get frames i z.0 d z.1)) (le-leb (let a = z.0 in a.base) n (owner.before i z.0 z.1 (omega (arith, low, before))))

  pub past_is : (past : ℕ) → IsPartitionPoint (λ (y : Activation FrameState). leb y.base n ≡ true) (λ (y : Activation FrameState). leb y.base n ≡ false) frames past → past ≤ length frames → past ≡ suc k
  past_is past point all =
      let low = get_low frames k x owner.here in
      let here : leb x.base n ≡ true = le-leb x.base n (owner.before k x owner.here (omega arith)) in
      ⊎_elim
      (λ less.
      ⊎_elim
      (λ more.
      let z = get_some frames (suc k) (omega (arith, more, all)) in
      let is = point.0 (suc k) x (omega arith) more in
      let first = leb-true (let a = z.0 in a.base) n (subst (λ (a : Activation FrameState). leb a.base n ≡ true) (get_or_from_slice_get frames (suc k) z.0 x z.1) is) in
      let behind = owner.behind (suc k) z.0 z.1 (omega arith) in
      absurd (omega (arith, first, behind)))
      (λ most. omega (arith, less, most)) (cases_lt (suc k) past))
      (λ least.
      let is = point.1 k x least low in
      absurd (true≢false (sym here ∙ subst (λ (a : Activation FrameState). leb a.base n ≡ false) (get_or_from_slice_get frames k x x owner.here) is)))
      (cases_lt k past)

module _ (code : CodeView) (p : Source) (inputs : List ℤ) (name : ℕ → Name) (b : Scheduler) (s : State FrameEnv View) (t : Tells code p inputs name b s) where
  abbrev frames : List (Activation FrameState)
  frames = let f = b.frames in f.items

  past_globals : (k : ℕ) (x : Activation FrameState) → slice_get frames k ≡ Some x → length p.openings ≤ x.base
  past_globals zero x h = t.first x h
  past_globals (suc k) x h =
      let low = get_low frames (suc k) x h in
      let z = get_some frames 0 (omega (arith, low)) in
      let first = t.first z.0 z.1 in
      let up = t.ascend 0 (suc k) z.0 x z.1 h (omega arith) in
      omega (arith, first, up)

  owns : (k : ℕ) (x : Activation FrameState) (n q : ℕ) → slice_get frames k ≡ Some x → n ≡ x.base + q → q < size_of p (s.frames (name k)) → IsOwner frames k x n
  owns k x n q at is low = record { here = at; before = before; behind = λ j y at' less. let up = t.ascend k j x y at at' less in omega (arith, up, is, low) }
    where
      before : (j : ℕ) (y : Activation FrameState) → slice_get frames j ≡ Some y → j ≤ k → y.base ≤ n
      before j y at' least =
          ⊎_elim (λ less. let up = t.ascend j k y x at' at less in omega (arith, up, is))
          (λ most.
          let same : k ≡ j = omega (arith, least, most) in
          let z : Some x ≡ Some y = sym at ∙ ap (λ i. slice_get frames i) same ∙ at' in
          let e : x ≡ y = cc in
          let bases = ap (λ (a : Activation FrameState). a.base) e in
          omega (arith, is, bases)) (cases_lt j k)

  pub cell_shown : (c : Cell) (n globals : ℕ) (q : CellName) → globals ≡ length p.openings → IsCell p frames name s c n → IsCellOf frames globals n q → IsCellShown name (length frames) c q
  cell_shown (Global g) n globals q same is named = let e = is.0 in let low = is.1 in named.0 (omega (arith, e, low, same)) ∙ ap (λ g. cells.Global g) is.0
  cell_shown (Own m i) n globals q same is named =
      let x = is.1 in
      let e = is.4 in
      let past = past_globals is.0 is.1 is.2 in
      let own = owns is.0 is.1 n i is.2 is.4 (subst (λ z. i < size_of p (s.frames z)) (sym is.3) is.5) in
      let place : n - x.base ≡ i = omega (arith, e) in
      (is.0, get_low frames is.0 is.1 is.2, is.3, named.1 is.0 is.1 (omega (arith, past, same, e)) own ∙ ap (λ z. cells.Own is.0 z) place)
