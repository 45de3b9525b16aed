-- The failed reads since a moment.
--
-- - `unfailed`: they are the same, if there are no more of them;
-- - `still`: the same where no pull of a source over files failed, and another file's contents are
--   still known.
use Rattle.std.proofs.Common.{◌≡◌, ℕ, Option, ap, ap₂, sym, subst, ◌∙◌}
use mathlib.Core.Path.{fun_ext}
use Rattle.cilk_commands.proofs.Kept.{stays}
use Rattle.cilk_commands.specs.Files.{Failures, failures}
use Rattle.cilk_commands.specs.Replies.{Text}
use Rattle.cilk_commands.specs.Sources.{kept_of}

pub unfailed : (moment old new : Failures) → old ≡ moment → new.count ≡ old.count
    → (new.count ≡ moment.count → (new.at ≡ moment.at) × ((p : Text) → new.elsewhere p ≡ moment.elsewhere p)) → new ≡ old
unfailed moment old new here count same =
    let counts : new.count ≡ moment.count = count ∙ ap (λ (f : Failures). f.count) here in
    let others = same counts in
    ap₂ (λ (c : ℕ) (e : Text → ℕ). failures c new.at e) counts (fun_ext {A = Text} {B = λ p. ℕ} others.1)
    ∙ (ap (λ (at : ℕ). failures moment.count at moment.elsewhere) others.0 ∙ sym here)

pub still : {F : Type 0} (failed : F → Failures) (holds : F → Text → Option Text) (moment : Failures) (old made new last : F) (b c : ℕ) (p q o n path other : Text)
    → made ≡ old → p ≡ path → o ≡ other → kept_of c (failed new) (holds new) q n ≡ kept_of b (failed made) (holds made) p o → last ≡ new
    → (failed new).count ≡ (failed made).count → failed old ≡ moment
    → ((failed new).count ≡ moment.count → ((failed new).at ≡ moment.at) × ((t : Text) → (failed new).elsewhere t ≡ moment.elsewhere t))
    → (failed last ≡ failed old) × (holds last other ≡ holds old other)
still {F} failed holds moment old made new last b c p q o n path other same here there kept given count at since =
    let left = stays failed holds old made new last b c p q o n path other same here there kept given count in (
      unfailed moment (failed old) (failed last) at left.0.count
          (λ counts. subst (λ (f : F). ((failed f).at ≡ moment.at) × ((t : Text) → (failed f).elsewhere t ≡ moment.elsewhere t)) (sym given)
          (since (ap (λ (f : F). (failed f).count) (sym given) ∙ counts))),
      left.1,
    )
