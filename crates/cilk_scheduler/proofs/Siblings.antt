-- The frames that one frame started, in the order of their places.
--
-- - `among_same`, `among_below`: they depend only on who started each frame;
-- - `among_here`, `among_past`, `among_grows`: one place more;
-- - `latest_child`: the last of them has the greatest ordinal;
-- - `all_counted`: there are as many as the greatest ordinal says.
use Rattle.std.proofs.Common.{◌≡◌, ◌⊎◌, inl, inr, ⊎_elim, ◌+◌, ◌<◌, ◌≤◌, ℕ, zero, suc, ◌-◌, nat_eq, eq-eqb, eqb-true, Bool, true, false, cond, List, [], ◌∷◌, ◌++◌, length, slice_get, Option, Some, None, refl, sym, ap, ap₂, ◌∙◌, subst, arith, length-append}
use Rattle.std.specs.Option.{option_map}
use Rattle.std.proofs.lemmas.Bool.{cases_lt}
use Rattle.std.proofs.lemmas.List.{append-nil}
use Rattle.cilk_frames.specs.declared.activation.Activation.{Activation}
use Rattle.cilk_scheduler.specs.declared.frame_state.FrameState.{FrameState}
use Rattle.cilk_scheduler.specs.Numbered.{child_at, children_among, parent_at}
use Rattle.cilk_scheduler.proofs.Placed.{get_some}
use Rattle.cilk_scheduler.proofs.Plain.{get_low, length_more}

pub among_same : (old new : List (Activation FrameState)) → ((j : ℕ) → parent_at new j ≡ parent_at old j) → (k n : ℕ) → children_among new k n ≡ children_among old k n
among_same old new same k zero = refl
among_same old new same k (suc n) = ap₂ (λ l o. l ++ child_at o k n) (among_same old new same k n) (same n)

-- among the first n, it depends only on these
pub among_below : (old new : List (Activation FrameState)) (m : ℕ) → ((j : ℕ) → j < m → parent_at new j ≡ parent_at old j) → (k n : ℕ) → n ≤ m → children_among new k n ≡ children_among old k n
among_below old new m same k zero low = refl
among_below old new m same k (suc n) low = ap₂ (λ l o. l ++ child_at o k n) (among_below old new m same k n (omega (arith, low))) (same n (omega (arith, low)))

module _ (frames : List (Activation FrameState)) (k : ℕ) where
  abbrev count : ℕ → ℕ
  count n = length (children_among frames k n)

  parent_is : (j : ℕ) (x : Activation FrameState) → slice_get frames j ≡ Some x → parent_at frames j ≡ Some (let y = x.cursor in y.parent)
  parent_is j x at = ap (λ (o : Option (Activation FrameState)). option_map (λ (a : Activation FrameState). let y = a.cursor in y.parent) o) at

  pub among_here : (j : ℕ) (x : Activation FrameState) → slice_get frames (suc j) ≡ Some x → (let y = x.cursor in y.parent ≡ k) → children_among frames k (suc (suc j)) ≡ children_among frames k (suc j) ++ suc j ∷ []
  among_here j x at is =
      let y = x.cursor in
      ap (λ o. children_among frames k (suc j) ++ child_at o k (suc j)) (parent_is (suc j) x at) ∙ ap (λ t. children_among frames k (suc j) ++ cond t (suc j ∷ []) []) (eq-eqb y.parent k is)

  pub among_past : (j : ℕ) (x : Activation FrameState) → slice_get frames (suc j) ≡ Some x → (let y = x.cursor in nat_eq y.parent k ≡ false) → children_among frames k (suc (suc j)) ≡ children_among frames k (suc j)
  among_past j x at is =
      ap (λ o. children_among frames k (suc j) ++ child_at o k (suc j)) (parent_is (suc j) x at) ∙ ap (λ t. children_among frames k (suc j) ++ cond t (suc j ∷ []) []) is ∙ append-nil (children_among frames k (suc j))

  -- the first frame is nobody's child
  pub among_first : children_among frames k 1 ≡ []
  among_first = by (parent_at frames 0)
    where
      by : (o : Option ℕ) → child_at o k 0 ≡ []
      by None = refl
      by (Some m) = refl

  pub among_grows : (n more : ℕ) → count n ≤ count (n + more)
  among_grows n zero = let same : n ≡ n + 0 = omega arith in subst (λ m. count n ≤ count m) same (omega arith)
  among_grows n (suc more) =
      let less = among_grows n more in
      let e : count (suc (n + more)) ≡ count (n + more) + length (child_at (parent_at frames (n + more)) k (n + more)) = length-append (children_among frames k (n + more)) (child_at (parent_at frames (n + more)) k (n + more)) in
      let at : n + suc more ≡ suc (n + more) = omega arith in
      subst (λ m. count n ≤ count m) (sym at) (omega (arith, less, e))

-- each frame's ordinal counts the frames that its parent has started
abbrev pub HaveOrdinals : List (Activation FrameState) → Type 0
HaveOrdinals frames = (k : ℕ) (x : Activation FrameState) → slice_get frames (suc k) ≡ Some x → (let s = x.cursor in s.ordinal ≡ suc (length (children_among frames s.parent (suc k))))

-- a child of frame k with this ordinal, and the place before its own
pub record HasChild (frames : List (Activation FrameState)) (k q : ℕ) : Type 0 where
  pub before : ℕ
  pub frame_state : Activation FrameState
  pub at : slice_get frames (suc before) ≡ Some frame_state
  pub parent : let y = frame_state.cursor in y.parent ≡ k
  pub ordinal : let y = frame_state.cursor in y.ordinal ≡ q

module _ (frames : List (Activation FrameState)) (o : HaveOrdinals frames) (k : ℕ) where
  pub latest_child : (n : ℕ) → n ≤ length frames → (length (children_among frames k n) ≡ 0) ⊎ (HasChild frames k (length (children_among frames k n)))
  latest_child zero low = inl refl
  latest_child (suc zero) low = inl (ap (λ (l : List ℕ). length l) (among_first frames k))
  latest_child (suc (suc j)) low = by (latest_child (suc j) (omega (arith, low))) (get_some frames (suc j) (omega (arith, low)))
    where
      by : (length (children_among frames k (suc j)) ≡ 0) ⊎ HasChild frames k (length (children_among frames k (suc j))) → (x : Activation FrameState) × (slice_get frames (suc j) ≡ Some x)
          → (length (children_among frames k (suc (suc j))) ≡ 0) ⊎ HasChild frames k (length (children_among frames k (suc (suc j))))
      by before r = on (nat_eq (let x = r.0 in let y = x.cursor in y.parent) k) refl
        where
          on : (t : Bool) → nat_eq (let x = r.0 in let y = x.cursor in y.parent) k ≡ t → (length (children_among frames k (suc (suc j))) ≡ 0) ⊎ HasChild frames k (length (children_among frames k (suc (suc j))))
          on true e =
              let is = eqb-true (let x = r.0 in let y = x.cursor in y.parent) k e in
              let now : length (children_among frames k (suc (suc j))) ≡ length (children_among frames k (suc j)) + 1 = ap (λ (l : List ℕ). length l) (among_here frames k j r.0 r.1 is) ∙ length_more (children_among frames k (suc j)) (suc j) in
              let ordinal = o j r.0 r.1 ∙ ap (λ m. suc (length (children_among frames m (suc j)))) is in
              inr (record { before = j; frame_state = r.0; at = r.1; parent = is; ordinal = omega (arith, now, ordinal) })
          on false e = subst (λ l. (length l ≡ 0) ⊎ HasChild frames k (length l)) (sym (among_past frames k j r.0 r.1 e)) before

  pub all_counted : (c : ℕ) → ((j : ℕ) (x : Activation FrameState) → slice_get frames (suc j) ≡ Some x → (let y = x.cursor in y.parent ≡ k) → (let y = x.cursor in y.ordinal ≤ c)) → (0 < c → HasChild frames k c) → length (children_among frames k (length frames)) ≡ c
  all_counted c every some = omega (arith, up, down)
    where
      up : length (children_among frames k (length frames)) ≤ c
      up = ⊎_elim (λ e. omega (arith, e)) (λ r. let low = every r.before r.frame_state r.at r.parent in let e = r.ordinal in omega (arith, low, e)) (latest_child (length frames) (omega arith))

      down : c ≤ length (children_among frames k (length frames))
      down = ⊎_elim there (λ none. omega (arith, none)) (cases_lt 0 c)
        where
          there : 0 < c → c ≤ length (children_among frames k (length frames))
          there more =
              let r = some more in
              let j = r.before in
              let low = get_low frames (suc j) r.frame_state r.at in
              let rest : length frames ≡ suc (suc j) + (length frames - suc (suc j)) = omega (arith, low) in
              let now : length (children_among frames k (suc (suc j))) ≡ length (children_among frames k (suc j)) + 1 = ap (λ (l : List ℕ). length l) (among_here frames k j r.frame_state r.at r.parent) ∙ length_more (children_among frames k (suc j)) (suc j) in
              let ordinal = o j r.frame_state r.at ∙ ap (λ m. suc (length (children_among frames m (suc j)))) r.parent in
              let is = r.ordinal in
              let grown = subst (λ m. length (children_among frames k (suc (suc j))) ≤ length (children_among frames k m)) (sym rest) (among_grows frames k (suc (suc j)) (length frames - suc (suc j))) in
              omega (arith, now, ordinal, is, grown)
