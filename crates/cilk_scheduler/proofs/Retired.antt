-- The views that the end of a frame leaves.
--
-- - `without_next`: one reducer more is retired.
use Rattle.std.proofs.Common.{◌≡◌, ℕ, suc, ◌+◌, ◌<◌, ◌&&◌, cond, List, [], ◌∷◌, ◌++◌, length, take, get_or, Option, None, refl, sym, ap, ◌∙◌, arith, length-take}
use Rattle.std.proofs.lemmas.List.{take_more}
use Rattle.cilk_types.specs.declared.event.Instance.{Instance}
use Rattle.cilk_types.specs.declared.outcome.Final.{Final}
use Rattle.cilk_monoid.specs.declared.kind.MonoidKind.{MonoidKind}
use Rattle.cilk_monoid.specs.Kinds.{final_of, same_kind}
use Rattle.cilk_monoid.specs.Ranges.{same_instance}
use Rattle.cilk_monoid.specs.Values.{ViewValue}
use Rattle.cilk_hypermap.specs.Hypermap.{value_in}
use Rattle.cilk_hypermap.specs.declared.hypermap.Hypermap.{Hypermap}
use Rattle.cilk_program.specs.SerialRun.{global_reducer}
use Rattle.cilk_scheduler.specs.Retired.{without_own}

without_more : (frame place : ℕ) (ks : List MonoidKind) (own k : MonoidKind) (j : Instance) (v : Option ViewValue)
    → without_own frame place (ks ++ own ∷ []) k j v ≡ cond (same_kind own k && same_instance (record { frame = frame; place = place + length ks }) j) None (without_own frame place ks k j v)
without_more frame place [] own k j v = let e : place ≡ place + 0 = omega arith in ap (λ n. cond (same_kind own k && same_instance (record { frame = frame; place = n }) j) None v) e
without_more frame place (x ∷ ks) own k j v =
    let e : suc place + length ks ≡ place + suc (length ks) = omega arith in
    let w = cond (same_kind x k && same_instance (record { frame = frame; place = place }) j) None v in
    without_more frame (suc place) ks own k j w ∙ ap (λ n. cond (same_kind own k && same_instance (record { frame = frame; place = n }) j) None (without_own frame (suc place) ks k j w)) e

pub without_next : (frame first : ℕ) (ks : List MonoidKind) (n : ℕ) (own d k : MonoidKind) (j : Instance) (v before after : Option ViewValue) → n < length ks → own ≡ get_or ks n d
    → before ≡ without_own frame first (take n ks) k j v → after ≡ cond (same_kind own k && same_instance (record { frame = frame; place = first + n }) j) None before → after ≡ without_own frame first (take (n + 1) ks) k j v
without_next frame first ks n own d k j v before after low is e e' =
    let l : first + length (take n ks) ≡ first + n = omega (arith, low, length-take n ks) in
    let more : take (n + 1) ks ≡ take n ks ++ own ∷ [] = take_more ks n d low ∙ ap (λ x. take n ks ++ x ∷ []) (sym is) in
    e' ∙ ap (λ x. cond (same_kind own k && same_instance (record { frame = frame; place = first + n }) j) None x) e
    ∙ ap (λ p. cond (same_kind own k && same_instance (record { frame = frame; place = p }) j) None (without_own frame first (take n ks) k j v)) (sym l)
    ∙ sym (ap (λ l. without_own frame first l k j v) more ∙ without_more frame first (take n ks) own k j v)
