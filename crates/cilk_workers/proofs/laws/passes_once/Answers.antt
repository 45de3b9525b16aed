use Rattle.std.proofs.Common.{◌≡◌, ℕ, Bool, if◌then◌else◌, true, false, true≢false, Option, Some, None, inl, inr, refl, sym, ◌∙◌, subst}
use Rattle.cilk_shared.specs.Pieces.{PieceValue}
use Rattle.cilk_replay.specs.Chains.{ChainValue}
use Rattle.cilk_workers.specs.Boxes.{BoxValue, IsOpen, MayArrive, passed}
use Rattle.cilk_workers.proofs.laws.passes_once.Goals as goal

-- what passes is closed
is_closed : (closed rest : Bool) → (if closed then rest else false) ≡ true → closed ≡ true
is_closed true rest is = refl
is_closed false rest is = absurd (true≢false (sym is))

not_open : (j : BoxValue) → j.closed ≡ true → (k a : ℕ) → IsOpen (passed j) k a → ⊥
not_open j closed k a may = true≢false (sym closed ∙ may.0)

none_arrives : (j : BoxValue) → j.closed ≡ true → (k : ℕ) (x : PieceValue) (d : Option ChainValue) → MayArrive (passed j) k x d → ⊥
none_arrives j closed k x None (inl stands) = stands
none_arrives j closed k x None (inr fresh) = true≢false (sym closed ∙ fresh.0)
none_arrives j closed k x (Some c) comes = true≢false (sym closed ∙ comes.0.0)

pub returns : goal.returns
returns c j j' p chain answers =
    let closed : j.closed ≡ true = is_closed j.closed _ answers.0 in (
      subst (λ (b : BoxValue). (k a : ℕ) → IsOpen b k a → ⊥) (sym answers.4) (not_open j closed),
      subst (λ (b : BoxValue). (k : ℕ) (x : PieceValue) (d : Option ChainValue) → MayArrive b k x d → ⊥) (sym answers.4) (none_arrives j closed),
    )
