-- Monoids of views, and their laws on a set of members (Frigo, Halpern, Leiserson and Lewin-Berlin
-- 2009).
use Rattle.std.specs.Prelude.{◌≡◌, ℕ, ℤ}
use Rattle.cilk_types.specs.Word.{IsWord}

-- a monoid, with the value of one update, the number that a program reads, and the room that a
-- value needs as the right side of a product
pub record MonoidStructure (V : Type 0) : Type 0 where
  pub unit : V
  pub combine : V → V → V
  pub single : ℤ → V
  pub number : V → ℤ
  pub size : V → ℕ

-- the members are closed under the operations and form a monoid: the unit is neutral on both sides
-- and `combine` is associative
pub record IsLawful {V : Type 0} (M : MonoidStructure V) (IsMember : V → Type 0) : Type 0 where
  pub unit_member : IsMember M.unit
  pub single_member : (x : ℤ) → IsWord x → IsMember (M.single x)
  pub combine_member : (a b : V) → IsMember a → IsMember b → IsMember (M.combine a b)
  pub left_neutral : (v : V) → IsMember v → M.combine M.unit v ≡ v
  pub right_neutral : (v : V) → IsMember v → M.combine v M.unit ≡ v
  pub associative : (a b c : V) → IsMember a → IsMember b → IsMember c → M.combine (M.combine a b) c ≡ M.combine a (M.combine b c)
