-- The way from a frame to the first one, by parents.
--
-- - `begins`, `onward`: one step of it;
-- - `ended`: at the first frame;
-- - `named_step`: frames by numbers.
use Rattle.std.proofs.Common.{◌≡◌, ◌+◌, ◌<◌, ◌≤◌, ℕ, zero, suc, List, [], ◌∷◌, ◌++◌, reverse, slice_get, Some, sym, ap, ◌∙◌, append_assoc, arith}
use Rattle.std.proofs.lemmas.List.{append-nil, reverse-append}
use Rattle.cilk_frames.specs.declared.activation.Activation.{Activation}
use Rattle.cilk_determinacy.specs.Runs.{Name}
use Rattle.cilk_scheduler.specs.Numbered.{AreNamed}
use Rattle.cilk_scheduler.specs.declared.frame_state.FrameState.{FrameState}

-- The frame's name is that of the frame at this place, followed by the ordinals found so far, last
-- first. Each step leads to an earlier frame.
pub record IsOnWay (name : ℕ → Name) (frame : ℕ) (told : List ℕ) (place counter : ℕ) : Type 0 where
  pub whole : name frame ≡ name place ++ reverse told
  pub near : place + counter ≤ frame

pub begins : (name : ℕ → Name) (frame : ℕ) → IsOnWay name frame [] frame 0
begins name frame = record { whole = sym (append-nil (name frame)); near = omega arith }

-- frames by numbers take steps by their links
pub named_step : (frames : List (Activation FrameState)) (name : ℕ → Name) → AreNamed frames name → (place : ℕ) → 0 < place → (a : Activation FrameState) → slice_get frames place ≡ Some a
    → let x = a.cursor in (x.parent < place) × (name place ≡ name x.parent ++ x.ordinal ∷ [])
named_step frames name named zero some a at = absurd (omega (arith, some))
named_step frames name named (suc k) some a at = named.child k a at

module _ (name : ℕ → Name) (frame : ℕ) (told : List ℕ) where
  pub onward : (place counter parent ordinal : ℕ) → IsOnWay name frame told place counter → (parent < place) × (name place ≡ name parent ++ ordinal ∷ []) → IsOnWay name frame (told ++ ordinal ∷ []) parent (counter + 1)
  onward place counter parent ordinal h step =
      let less = step.0 in
      let near = h.near in
      record {
        whole = h.whole ∙ ap (λ n. n ++ reverse told) step.1 ∙ append_assoc (name parent) (ordinal ∷ []) (reverse told) ∙ ap (λ l. name parent ++ l) (sym (reverse-append told (ordinal ∷ [])));
        near = omega (arith, less, near);
      }

  pub ended : (place counter : ℕ) → IsOnWay name frame told place counter → place ≡ 0 → name 0 ≡ [] → reverse told ≡ name frame
  ended place counter h first root = sym (h.whole ∙ ap (λ k. name k ++ reverse told) first ∙ ap (λ n. n ++ reverse told) root)
