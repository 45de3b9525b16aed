-- Cells, and where frames' cells are among them, with one frame more after all others.
--
-- - `Grows`: what is there then;
-- - `grown`: from what was there.
use Rattle.std.proofs.Common.{◌≡◌, ◌⊎◌, ⊎_elim, ◌+◌, ◌<◌, ◌≤◌, ℕ, suc, ℤ, pos, List, ◌++◌, length, replicate, slice_get, Some, sym, ap, ◌∙◌, subst, arith}
use Rattle.cilk_program.specs.Syntax.{Source}
use Rattle.cilk_frames.specs.declared.activation.Activation.{Activation}
use Rattle.cilk_determinacy.specs.Machine.{State}
use Rattle.cilk_determinacy.specs.Runs.{Name, Cell, Global, Own}
use Rattle.cilk_determinacy.specs.Reducers.{View}
use Rattle.cilk_determinacy.specs.FrameEnvs.{FrameEnv}
use Rattle.cilk_scheduler.specs.declared.frame_state.FrameState.{FrameState}
use Rattle.cilk_scheduler.specs.Numbered.{IsAbsent, size_of, IsCell}
use Rattle.cilk_scheduler.proofs.Children.{cells_length, first_part, replicate_at, second_part}
use Rattle.cilk_scheduler.proofs.Plain.{get_low}

pub record Grows (p : Source) (name : ℕ → Name) (old new : List (Activation FrameState)) (cells cells' : List ℤ) (s s' : State FrameEnv View) : Type 0 where
  pub memory : (c : Cell) (n : ℕ) → IsCell p new name s' c n → slice_get cells' n ≡ Some (s'.memory c)
  pub ascend : (i j : ℕ) (x y : Activation FrameState) → slice_get new i ≡ Some x → slice_get new j ≡ Some y → i < j → x.base + size_of p (s'.frames (name i)) ≤ y.base
  pub within : (j : ℕ) (x : Activation FrameState) → slice_get new j ≡ Some x → x.base + size_of p (s'.frames (name j)) ≤ length cells'

-- a frame was there, with its cells where they are
abbrev pub WasThere : List (Activation FrameState) → ℕ → Activation FrameState → Type 0
WasThere old j a = (z : Activation FrameState) × (slice_get old j ≡ Some z) × (a.base ≡ z.base)

module _ (p : Source) (name : ℕ → Name) (old new : List (Activation FrameState)) (child : Activation FrameState) (cells cells' : List ℤ) (s s' : State FrameEnv View) (kid : Name) (count : ℕ)
    (was : (j : ℕ) (a : Activation FrameState) → slice_get new j ≡ Some a → WasThere old j a ⊎ ((length old ≡ j) × (child ≡ a))) (one_more : length new ≡ suc (length old)) (last_name : name (length old) ≡ kid) (absent : IsAbsent old name kid)
    (size_off : (n : Name) → (kid ≡ n → ⊥) → size_of p (s'.frames n) ≡ size_of p (s.frames n)) (size_kid : size_of p (s'.frames kid) ≡ count) (base : child.base ≡ length cells) (cells_are : cells' ≡ cells ++ replicate count (pos 0))
    (same : (c : Cell) → s'.memory c ≡ s.memory c) (blank : (q : ℕ) → s.memory (Own kid q) ≡ pos 0) (memory : (c : Cell) (n : ℕ) → IsCell p old name s c n → slice_get cells n ≡ Some (s.memory c))
    (ascend : (i j : ℕ) (x y : Activation FrameState) → slice_get old i ≡ Some x → slice_get old j ≡ Some y → i < j → x.base + size_of p (s.frames (name i)) ≤ y.base)
    (within : (j : ℕ) (x : Activation FrameState) → slice_get old j ≡ Some x → x.base + size_of p (s.frames (name j)) ≤ length cells) where
  apart : (j : ℕ) (a : Activation FrameState) → slice_get old j ≡ Some a → kid ≡ name j → ⊥
  apart j a at q = absent j (get_low old j a at) (sym q)

  memory_now : (c : Cell) (n : ℕ) → IsCell p new name s' c n → slice_get cells' n ≡ Some (s'.memory c)
  memory_now (Global g) n is = ap (λ l. slice_get l n) cells_are ∙ first_part cells (replicate count (pos 0)) n (s.memory (Global g)) (memory (Global g) n is) ∙ ap (λ v. Some v) (sym (same (Global g)))
  memory_now (Own m q) n is =
      ap (λ l. slice_get l n) cells_are
      ∙ ⊎_elim (λ o. first_part cells (replicate count (pos 0)) n (s.memory (Own m q))
      (memory (Own m q) n (is.0, o.0, o.1, is.3, is.4 ∙ ap (λ v. v + q) o.2, subst (λ v. q < v) (size_off m (λ e. apart is.0 o.0 o.1 (e ∙ sym is.3))) is.5)))
      (λ o.
      let at : kid ≡ m = sym last_name ∙ ap name o.0 ∙ is.3 in
      let place : n ≡ length cells + q = is.4 ∙ ap (λ (a : Activation FrameState). a.base + q) (sym o.1) ∙ ap (λ v. v + q) base in
      let inside : q < count = subst (λ v. q < v) (ap (λ v. size_of p (s'.frames v)) (sym at) ∙ size_kid) is.5 in
      ap (λ v. slice_get (cells ++ replicate count (pos 0)) v) place ∙ second_part cells (replicate count (pos 0)) q ∙ replicate_at count (pos 0) q inside
      ∙ ap (λ v. Some v) (sym (blank q) ∙ ap (λ v. s.memory (Own v q)) at)) (was is.0 is.1 is.2)
      ∙ ap (λ v. Some v) (sym (same (Own m q)))

  ascends : (i j : ℕ) (x y : Activation FrameState) → slice_get new i ≡ Some x → slice_get new j ≡ Some y → i < j → x.base + size_of p (s'.frames (name i)) ≤ y.base
  ascends i j x y at at' less = ⊎_elim (λ f. ⊎_elim (λ g. both f g) (λ g. first f g) (was j y at')) (λ f. let l = get_low new j y at' in let is = f.0 in absurd (omega (arith, one_more, l, is, less))) (was i x at)
    where
      both : WasThere old i x → WasThere old j y → x.base + size_of p (s'.frames (name i)) ≤ y.base
      both f g =
          let before = ascend i j f.0 g.0 f.1 g.1 less in
          let e = size_off (name i) (apart i f.0 f.1) in
          let u = f.2 in
          let v = g.2 in
          omega (arith, before, e, u, v)

      first : WasThere old i x → (length old ≡ j) × (child ≡ y) → x.base + size_of p (s'.frames (name i)) ≤ y.base
      first f g =
          let before = within i f.0 f.1 in
          let e = size_off (name i) (apart i f.0 f.1) in
          let u = f.2 in
          let v : y.base ≡ length cells = ap (λ (a : Activation FrameState). a.base) (sym g.1) ∙ base in
          omega (arith, before, e, u, v)

  inside : (j : ℕ) (x : Activation FrameState) → slice_get new j ≡ Some x → x.base + size_of p (s'.frames (name j)) ≤ length cells'
  inside j x at =
      let more : length cells' ≡ length cells + count = ap (λ (l : List ℤ). length l) cells_are ∙ cells_length cells count in
      ⊎_elim (λ f. let before = within j f.0 f.1 in let e = size_off (name j) (apart j f.0 f.1) in let u = f.2 in omega (arith, before, e, u, more))
      (λ f.
      let e : size_of p (s'.frames (name j)) ≡ count = ap (λ i. size_of p (s'.frames (name i))) (sym f.0) ∙ ap (λ n. size_of p (s'.frames n)) last_name ∙ size_kid in
      let u : x.base ≡ length cells = ap (λ (a : Activation FrameState). a.base) (sym f.1) ∙ base in
      omega (arith, e, u, more)) (was j x at)

  pub grown : Grows p name old new cells cells' s s'
  grown = record { memory = memory_now; ascend = ascends; within = inside }
