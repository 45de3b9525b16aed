-- The links of the frames that a run shows.
--
-- - `links_stay`: a frame changes, but its link doesn't.
use Rattle.std.proofs.Common.{◌≡◌, ◌∷◌, [], ℕ, zero, suc, List, slice_get, slice_set, Some, refl, sym, ap, ◌∙◌}
use Rattle.cilk_schedule.specs.Links.{links_in}
use Rattle.cilk_schedule.specs.declared.showing.ShownFrame.{ShownFrame}

pub links_stay : (list : List ShownFrame) (k : ℕ) (x y : ShownFrame) → slice_get list k ≡ Some x → y.link ≡ x.link → links_in (slice_set list k y) ≡ links_in list
links_stay [] k x y at same = refl
links_stay (z ∷ list) zero x y at same = let e : z ≡ x = (let q : Some z ≡ Some x = at in cc) in ap (λ l. l ∷ links_in list) (same ∙ ap (λ (f : ShownFrame). f.link) (sym e))
links_stay (z ∷ list) (suc k) x y at same = ap (λ l. z.link ∷ l) (links_stay list k x y at same)
