-- An arrival.
--
-- - `beside_it`: the runs beside its place are good, and meet it;
-- - `met_on`, `met_push`, `met_lower`: the invariant of the row, after an arrival and with one more
--   awaited key;
-- - `apart`: its pieces don't overlap;
-- - `fits_top`, `never_both`, `awaited_if`: the answers of the tests.
use Rattle.std.proofs.Common.{◌≡◌, ◌↔◌, ◌≤◌, ℕ, suc, nat_eq, Bool, IsTrue, if◌then◌else◌, true, false, true≢false, List, [], ◌∷◌, ◌++◌, Some, None, refl, sym, ap, ◌∙◌, subst, arith, inl, inr, nat_lt}
use Rattle.cilk_shared.specs.Pieces.{PieceValue}
use Rattle.cilk_shared.specs.Values.{YardValue}
use Rattle.cilk_join.specs.declared.row.Parts.{Parts}
use Rattle.cilk_join.specs.AwaitedRows.{parts_at, place_of, run_at}
use Rattle.cilk_workers.specs.Rows.{AreGood, run_of, yard_of, Run, RunValue, Wait, Row, LieApart, pieces_of, row, rows, wait, between, IsGood, IsGoodRun, EndsAt, BeginsAt, Met, MetRows, last_end, FitsFrom, placed, behind, FitsRow, FitsIn, IsBeforeAll, IfHere}
use Rattle.cilk_workers.specs.Boxes.{Stands, IsAbsent, IsAwaitedIf}
use Rattle.std.proofs.lemmas.Bool.{eq-eqb, eqb-true, ltb-true, ltb-false}

-- ---- what is beside a piece

-- the runs beside its place are good, and meet it
record Beside (y : RunValue) (left : Run) (x : PieceValue) (right : Run) : Type 0 where
  good_left : IsGoodRun y left
  good_right : IsGoodRun y right
  ends : EndsAt left x.from
  begins : BeginsAt right x.upto

ends_at : (run : Run) (a : ℕ) (x : PieceValue) → x.from ≡ behind run a → EndsAt run x.from
ends_at None a x at = tt
ends_at (Some p) a x at = sym at

begins_at : (run : Run) (a b : ℕ) → b ≡ a → BeginsAt run a → BeginsAt run b
begins_at None a b e h = tt
begins_at (Some p) a b e h = h ∙ sym e

abbrev BesideIt : RunValue → Run → List Wait → ℕ → PieceValue → Type 0
BesideIt y run ws k x = Beside y (run_at run ws (place_of ws k)) x (run_at run ws (suc (place_of ws k)))

beside_step : (y : RunValue) (a : ℕ) (run : Run) (w : Wait) (ws : List Wait) (k : ℕ) (x : PieceValue) (b : Bool) → nat_eq w.key k ≡ b → IsGoodRun y run → IsGoodRun y w.run → BeginsAt w.run w.goes_on
    → FitsRow a run (w ∷ ws) k x → (FitsRow w.goes_on w.run ws k x → BesideIt y w.run ws k x) → BesideIt y run (w ∷ ws) k x
beside_step y a run w ws k x true e good good' begins' fits rest =
    let here : (x.from ≡ behind run a) × (x.upto ≡ w.goes_on) = rw e at fits in
    rw e (record { good_left = good; good_right = good'; ends = ends_at run a x here.0; begins = begins_at w.run w.goes_on x.upto here.1 begins' })
beside_step y a run w ws k x false e good good' begins' fits rest =
    let there : FitsRow w.goes_on w.run ws k x = rw e at fits in
    rw e (rest there)

beside : (y : RunValue) (a b : ℕ) (run : Run) (ws : List Wait) (k : ℕ) (x : PieceValue) → IsGoodRun y run → Met y b ws → FitsRow a run ws k x → BesideIt y run ws k x
beside y a b run [] k x good met fits = record { good_left = good; good_right = tt; ends = ends_at run a x fits; begins = tt }
beside y a b run (w ∷ ws) k x good met fits = beside_step y a run w ws k x (nat_eq w.key k) refl good met.1 met.2 fits (λ h. beside y w.goes_on (behind w.run w.goes_on) w.run ws k x met.1 met.3 h)

-- so the three can be merged
pub beside_it : (y : RunValue) (v : YardValue) (r : Row) (k n : ℕ) (x : PieceValue) (p : Parts PieceValue) → yard_of y ≡ v → n ≡ place_of r.waits k → p ≡ parts_at r n x → MetRows (rows y r) → IsGood y x → FitsIn (rows y r) k x
    → AreGood (run_of v p.piece.reducers) p.left p.piece p.right × EndsAt p.left p.piece.from × BeginsAt p.right p.piece.upto
beside_it y v r k n x p same a b met good fits =
    let h = beside y x.from (behind r.run 0) r.run r.waits k x met.0 met.1 fits in
    subst (λ (p : Parts PieceValue). AreGood (run_of v p.piece.reducers) p.left p.piece p.right × EndsAt p.left p.piece.from × BeginsAt p.right p.piece.upto) (sym (b ∙ ap (λ n. parts_at r n x) a))
    (subst (λ z. AreGood z (run_at r.run r.waits (place_of r.waits k)) x (run_at r.run r.waits (suc (place_of r.waits k)))) (λ i. run_of (same i) (sym good.0.2 i)) (h.good_left, good, h.good_right), h.ends, h.begins)

-- ---- the invariant of the row

good_between : (y : RunValue) (left : Run) (x : PieceValue) (right : Run) → IsGood y x → IsGoodRun y left → EndsAt left x.from → IsGoodRun y right → BeginsAt right x.upto → IsGood y (between left x right)
good_between y None x None good l e r b = good
good_between y None x (Some q) good l e r b = (good.0, omega (arith, good.1, r.1, b))
good_between y (Some p) x None good l e r b = (good.0, omega (arith, good.1, l.1, e))
good_between y (Some p) x (Some q) good l e r b = (good.0, omega (arith, good.1, l.1, e, r.1, b))

begins_between : (left : Run) (x : PieceValue) (right : Run) (a : ℕ) → x.from ≡ behind left a → BeginsAt left a → BeginsAt (Some (between left x right)) a
begins_between None x right a at begins = at
begins_between (Some p) x right a at begins = begins

-- a row after `a`
abbrev MetFrom : RunValue → ℕ → Row → Type 0
MetFrom y a r = IsGoodRun y r.run × BeginsAt r.run a × Met y (behind r.run a) r.waits

behind_between : (left : Run) (x : PieceValue) (right : Run) (a b : ℕ) → x.upto ≡ b → behind (Some (between left x right)) a ≡ behind right b
behind_between left x None a b e = e
behind_between left x (Some q) a b e = refl

met_step : (y : RunValue) (a : ℕ) (run : Run) (w : Wait) (ws : List Wait) (k : ℕ) (x : PieceValue) (b : Bool) → nat_eq w.key k ≡ b → IsGood y x → MetFrom y a (row run (w ∷ ws)) → FitsRow a run (w ∷ ws) k x
    → (FitsRow w.goes_on w.run ws k x → MetFrom y w.goes_on (placed w.run ws k x)) → MetFrom y a (placed run (w ∷ ws) k x)
met_step y a run w ws k x true e good met fits rest =
    let here : (x.from ≡ behind run a) × (x.upto ≡ w.goes_on) = rw e at fits in
    rw e (
      good_between y run x w.run good met.0 (ends_at run a x here.0) met.2.1 (begins_at w.run w.goes_on x.upto here.1 met.2.2),
      begins_between run x w.run a here.0 met.1,
      subst (λ b. Met y b ws) (sym (behind_between run x w.run a w.goes_on here.1)) met.2.3,
    )
met_step y a run w ws k x false e good met fits rest =
    let there : FitsRow w.goes_on w.run ws k x = rw e at fits in
    let r = rest there in
    rw e (met.0, met.1, (met.2.0, r.0, r.1, r.2))

met_placed : (y : RunValue) (a : ℕ) (run : Run) (ws : List Wait) (k : ℕ) (x : PieceValue) → IsGood y x → MetFrom y a (row run ws) → FitsRow a run ws k x → MetFrom y a (placed run ws k x)
met_placed y a run [] k x good met fits = (good_between y run x None good met.0 (ends_at run a x fits) tt tt, begins_between run x None a fits met.1, tt)
met_placed y a run (w ∷ ws) k x good met fits = met_step y a run w ws k x (nat_eq w.key k) refl good met fits (λ h. met_placed y w.goes_on w.run ws k x good (met.2.1, met.2.2, met.2.3) h)

-- before all others a piece may begin anywhere
met_top : (y : RunValue) (run : Run) (w : Wait) (ws : List Wait) (k : ℕ) (x : PieceValue) (b : Bool) → nat_eq w.key k ≡ b → IsGood y x → MetRows (rows y (row run (w ∷ ws))) → FitsRow x.from run (w ∷ ws) k x → MetRows (rows y (placed run (w ∷ ws) k x))
met_top y run w ws k x true e good met fits =
    let here : (x.from ≡ behind run x.from) × (x.upto ≡ w.goes_on) = rw e at fits in
    rw e (
      good_between y run x w.run good met.0 (ends_at run x.from x here.0) met.1.1 (begins_at w.run w.goes_on x.upto here.1 met.1.2),
      subst (λ b. Met y b ws) (sym (behind_between run x w.run 0 w.goes_on here.1)) met.1.3,
    )
met_top y run w ws k x false e good met fits =
    let there : FitsRow w.goes_on w.run ws k x = rw e at fits in
    let r = met_placed y w.goes_on w.run ws k x good (met.1.1, met.1.2, met.1.3) there in
    rw e (met.0, (met.1.0, r.0, r.1, r.2))

pub met_on : (y : RunValue) (run : Run) (ws : List Wait) (k : ℕ) (x : PieceValue) → IsGood y x → MetRows (rows y (row run ws)) → FitsIn (rows y (row run ws)) k x → MetRows (rows y (placed run ws k x))
met_on y run [] k x good met fits = (good_between y run x None good met.0 (ends_at run x.from x fits) tt tt, tt)
met_on y run (w ∷ ws) k x good met fits = met_top y run w ws k x (nat_eq w.key k) refl good met fits

pub met_lower : (y : RunValue) (b b' : ℕ) (ws : List Wait) → b' ≤ b → Met y b ws → Met y b' ws
met_lower y b b' [] le met = tt
met_lower y b b' (w ∷ ws) le met = (let h = met.0 in omega (arith, h, le), met.1, met.2, met.3)

pub met_push : (y : RunValue) (b : ℕ) (ws : List Wait) (k a : ℕ) → last_end b ws ≤ a → Met y b ws → Met y b (ws ++ wait k a None ∷ [])
met_push y b [] k a le met = (le, tt, tt, tt)
met_push y b (w ∷ ws) k a le met = (met.0, met.1, met.2, met_push y (behind w.run w.goes_on) ws k a le met.3)

-- ---- the pieces don't overlap

lie_lower : (y : RunValue) (b b' : ℕ) (ps : List PieceValue) → b ≤ b' → LieApart y b' ps → LieApart y b ps
lie_lower y b b' [] le h = tt
lie_lower y b b' (p ∷ ps) le h = (let g = h.0 in omega (arith, g, le), h.1, h.2)

lie_apart : (y : RunValue) (b a : ℕ) (run : Run) (ws : List Wait) → b ≤ a → IsGoodRun y run → BeginsAt run a → Met y (behind run a) ws → LieApart y b (pieces_of run ws)
lie_apart y b a None [] le good begins met = tt
lie_apart y b a None (w ∷ ws) le good begins met = lie_lower y b a (pieces_of w.run ws) le (lie_apart y a w.goes_on w.run ws met.0 met.1 met.2 met.3)
lie_apart y b a (Some p) [] le good begins met = (omega (arith, le, begins), good, tt)
lie_apart y b a (Some p) (w ∷ ws) le good begins met = (omega (arith, le, begins), good, lie_apart y p.upto w.goes_on w.run ws met.0 met.1 met.2 met.3)

pub apart : (y : RunValue) (run : Run) (ws : List Wait) → MetRows (rows y (row run ws)) → LieApart y 0 (pieces_of run ws)
apart y None ws met = lie_apart y 0 0 None ws (omega arith) tt tt met.1
apart y (Some p) ws met = lie_apart y 0 p.from (Some p) ws (omega arith) met.0 refl met.1

-- ---- the tests

from_step : (a : ℕ) (run : Run) (w : Wait) (ws : List Wait) (k : ℕ) (x : PieceValue) (b : Bool) → nat_eq w.key k ≡ b → (FitsFrom (behind w.run w.goes_on) ws k x → FitsRow w.goes_on w.run ws k x) → FitsFrom (behind run a) (w ∷ ws) k x → FitsRow a run (w ∷ ws) k x
from_step a run w ws k x true e rest h = let here : (x.from ≡ behind run a) × (x.upto ≡ w.goes_on) = rw e at h in rw e here
from_step a run w ws k x false e rest h = let there : FitsFrom (behind w.run w.goes_on) ws k x = rw e at h in rw e (rest there)

from_row : (a : ℕ) (run : Run) (ws : List Wait) (k : ℕ) (x : PieceValue) → FitsFrom (behind run a) ws k x → FitsRow a run ws k x
from_row a run [] k x h = h
from_row a run (w ∷ ws) k x h = from_step a run w ws k x (nat_eq w.key k) refl (from_row w.goes_on w.run ws k x) h

row_step : (a : ℕ) (run : Run) (w : Wait) (ws : List Wait) (k : ℕ) (x : PieceValue) (b : Bool) → nat_eq w.key k ≡ b → (FitsRow w.goes_on w.run ws k x → FitsFrom (behind w.run w.goes_on) ws k x) → FitsRow a run (w ∷ ws) k x → FitsFrom (behind run a) (w ∷ ws) k x
row_step a run w ws k x true e rest h = let here : (x.from ≡ behind run a) × (x.upto ≡ w.goes_on) = rw e at h in rw e here
row_step a run w ws k x false e rest h = let there : FitsRow w.goes_on w.run ws k x = rw e at h in rw e (rest there)

row_from : (a : ℕ) (run : Run) (ws : List Wait) (k : ℕ) (x : PieceValue) → FitsRow a run ws k x → FitsFrom (behind run a) ws k x
row_from a run [] k x h = h
row_from a run (w ∷ ws) k x h = row_step a run w ws k x (nat_eq w.key k) refl (row_from w.goes_on w.run ws k x) h

absent : (ws : List Wait) (k : ℕ) → (Stands ws k → ⊥) → IsAbsent ws k
absent [] k out = tt
absent (w ∷ ws) k out = by (nat_eq w.key k) refl (absent ws k (λ s. out (inr s)))
  where
    by : (b : Bool) → nat_eq w.key k ≡ b → IsAbsent ws k → IsAbsent (w ∷ ws) k
    by true e rest = absurd (out (inl (eqb-true w.key k e)))
    by false e rest = (e, rest)

pub never_both : (ws : List Wait) (k : ℕ) → Stands ws k → IsAbsent ws k → ⊥
never_both [] k stands absent = stands
never_both (w ∷ ws) k (inl e) absent = true≢false (sym (eq-eqb w.key k e) ∙ absent.0)
never_both (w ∷ ws) k (inr h) absent = never_both ws k h absent.1

-- the lesser of two numbers is the one that isn't above the other
lesser : (a b : ℕ) → (a ≡ (if nat_lt b a then b else a)) ↔ (a ≤ b)
lesser a b = by (nat_lt b a) refl
  where
    by : (above : Bool) → nat_lt b a ≡ above → (a ≡ (if above then b else a)) ↔ (a ≤ b)
    by true e = let less = ltb-true b a e in (λ (same : a ≡ b). omega (arith, same), λ (le : a ≤ b). absurd (omega (arith, less, le)))
    by false e = let le = ltb-false b a e in (λ _. le, λ _. refl)

top_step : (w : Wait) (ws : List Wait) (k b : ℕ) (x : PieceValue) (here : Bool) → nat_eq w.key k ≡ here
    → IfHere here ((x.from ≡ (if nat_lt b x.from then b else x.from)) × (x.upto ≡ w.goes_on)) (FitsFrom (behind w.run w.goes_on) ws k x)
    ↔ (IfHere here ((x.from ≡ x.from) × (x.upto ≡ w.goes_on)) (FitsRow w.goes_on w.run ws k x) × (w.key ≡ k → x.from ≤ b))
top_step w ws k b x true e =
    let t = lesser x.from b in
    (λ h. ((refl, h.1), λ _. t.0 h.0), λ h. (t.1 (h.1 (eqb-true w.key k e)), h.0.1))
top_step w ws k b x false e =
    (λ h. (from_row w.goes_on w.run ws k x h, λ low. absurd (true≢false (sym (eq-eqb w.key k low) ∙ e))), λ h. row_from w.goes_on w.run ws k x h.0)

-- the first run decides where a piece begins; before all runs and keys that is at b or before it
pub fits_top : (run : Run) (ws : List Wait) (k b : ℕ) (x : PieceValue)
    → FitsFrom (behind run (if nat_lt b x.from then b else x.from)) ws k x ↔ (FitsRow x.from run ws k x × (IsBeforeAll run ws k → x.from ≤ b))
fits_top None [] k b x = let t = lesser x.from b in (λ h. (refl, λ _. t.0 h), λ h. t.1 (h.1 tt))
fits_top None (w ∷ ws) k b x = top_step w ws k b x (nat_eq w.key k) refl
fits_top (Some p) ws k b x = (λ h. (from_row x.from (Some p) ws k x h, λ none. absurd none), λ h. row_from x.from (Some p) ws k x h.0)

pub awaited_if : (b : Bool) (ws : List Wait) (k : ℕ) → IsTrue b ↔ Stands ws k → IsAwaitedIf b ws k
awaited_if true ws k h = (h.0 refl, never_both ws k (h.0 refl))
awaited_if false ws k h = let out : Stands ws k → ⊥ = (λ s. true≢false (sym (h.1 s))) in (absent ws k out, out)
