-- One piece of pieces beside one another.
--
-- - `one`, `adjoin`: two that meet may be joined;
-- - `two`, `two'`, `three_near`, `three`: the piece of two, and of three.
use Rattle.std.proofs.Common.{◌≡◌, ℕ, ◌<◌, inr, sym, ap, ◌∙◌, subst, arith, Some, None}
use Rattle.cilk_shared.specs.Values.{YardValue}
use Rattle.cilk_shared.specs.declared.reducers.Reducers.{Reducers}
use Rattle.cilk_shared.specs.Pieces.{PieceValue, AreOfOne, Adjoining, joined}
use Rattle.cilk_shared.proofs.Ranges.{spanned_both}
use Rattle.cilk_workers.specs.Rows.{RunValue, run_of, between, IsGood, OfRun}

abbrev range : PieceValue → ℕ → ℕ → PieceValue
range g a b = record { of = g.of; event_order = g.event_order; reducers = g.reducers; from = a; upto = b }

both_is : (g h : PieceValue) → g.from < g.upto → h.from < h.upto → joined g h ≡ range g g.from h.upto
both_is g h some some' = ap (λ (r : ℕ × ℕ). range g r.0 r.1) (spanned_both g.from g.upto h.from h.upto some some')

same_run : (y : RunValue) (g h : PieceValue) (a b : ℕ) → OfRun y g → OfRun y h → range g a b ≡ range h a b
same_run y g h a b of of' = λ i. record { of = (of.0 ∙ sym of'.0) i; event_order = (of.1 ∙ sym of'.1) i; reducers = (of.2 ∙ sym of'.2) i; from = a; upto = b }

-- two of one run
pub one : (y : YardValue) (r : Reducers) (g h : PieceValue) → IsGood (run_of y r) g → IsGood (run_of y r) h → AreOfOne y g h
one y r g h good good' = ((good.0.0, good.0.1), (good'.0.0, good'.0.1), good'.0.2 ∙ sym good.0.2)

-- two that meet adjoin
pub adjoin : (y : RunValue) (g h : PieceValue) → IsGood y g → IsGood y h → g.upto ≡ h.from → Adjoining g h
adjoin y g h good good' meet = inr (inr (good.1, good'.1, meet))

pub two : (y : RunValue) (l x r : PieceValue) → IsGood y l → IsGood y x → r ≡ joined l x → r ≡ between (Some l) x None
two y l x r good good' is = is ∙ both_is l x good.1 good'.1 ∙ same_run y l x l.from x.upto good.0 good'.0

pub two' : (y : RunValue) (x r p : PieceValue) → IsGood y x → IsGood y r → p ≡ joined x r → p ≡ between None x (Some r)
two' y x r p good good' is = is ∙ both_is x r good.1 good'.1

pub three_near : (y : RunValue) (l x r : PieceValue) → IsGood y l → IsGood y x → IsGood y r → l.upto ≡ x.from → x.upto ≡ r.from → Adjoining l x × Adjoining (joined l x) r
three_near y l x r good good' good'' meet meet' = (adjoin y l x good good' meet, subst (λ (g : PieceValue). Adjoining g r) (sym (both_is l x good.1 good'.1)) (inr (inr (omega (arith, good.1, good'.1, meet), good''.1, meet'))))

pub three : (y : RunValue) (l x r p : PieceValue) → IsGood y l → IsGood y x → IsGood y r → l.upto ≡ x.from → p ≡ joined (joined l x) r → p ≡ between (Some l) x (Some r)
three y l x r p good good' good'' meet is =
    is ∙ ap (λ (g : PieceValue). joined g r) (both_is l x good.1 good'.1)
    ∙ both_is (range l l.from x.upto) r (omega (arith, good.1, good'.1, meet)) good''.1
    ∙ same_run y l x l.from r.upto good.0 good'.0
