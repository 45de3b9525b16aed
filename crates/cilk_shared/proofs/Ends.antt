-- The ends of a frame's reducers.
--
-- - `ends_step`: one reducer after another;
-- - `value_retired`: each view after one end.
use Rattle.std.proofs.Common.{◌≡◌, ◌∷◌, ℕ, suc, ◌-◌, ◌<◌, Bool, true, false, cond, None, refl, ap, ◌∙◌, arith}
use Rattle.cilk_types.specs.declared.event.Instance.{Instance}
use Rattle.cilk_monoid.specs.declared.kind.MonoidKind.{MonoidKind}
use Rattle.cilk_monoid.specs.Kinds.{structure_of}
use Rattle.cilk_monoid.specs.Ranges.{Retired, same_instance, after_event}
use Rattle.cilk_hypermap.specs.declared.hypermap.Hypermap.{Hypermap}
use Rattle.cilk_hypermap.specs.Hypermap.{view_in, value_in, Retires}
use Rattle.cilk_hypermap.specs.Views.{or_unit}
use Rattle.cilk_hypermap.proofs.Merges.{each_kind}
use Rattle.cilk_shared.specs.Reducers.{ends_from}

pub ends_step : (f p n : ℕ) → p < n → ends_from f (suc p) (n - p) ≡ Retired (record { frame = f; place = suc p }) ∷ ends_from f (suc (suc p)) (n - suc p)
ends_step f p n lt = let e : n - p ≡ suc (n - suc p) = omega (arith, lt) in ap (ends_from f (suc p)) e

pub value_retired : (h h' : Hypermap) (i : Instance) → Retires h h' i → (k : MonoidKind) (j : Instance) → value_in h' k j ≡ after_event (structure_of k) j (Retired i) (value_in h k j)
value_retired h h' i gone k j =
    ap (or_unit (structure_of k)) (each_kind (λ n. (q : Instance) → view_in h' n q ≡ cond (same_instance i q) None (view_in h n q)) gone k j)
    ∙ by (same_instance i j)
  where
    by : (b : Bool) → or_unit (structure_of k) (cond b None (view_in h k j)) ≡ cond b (structure_of k).unit (value_in h k j)
    by true = refl
    by false = refl
