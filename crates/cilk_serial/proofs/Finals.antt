-- The last values of the global reducers.
use Rattle.std.proofs.Common.{◌≡◌, ℕ, suc, List, [], ◌∷◌, refl, sym, ap, ◌∙◌}
use Rattle.cilk_types.specs.declared.event.Instance.{Instance}
use Rattle.cilk_monoid.specs.declared.kind.MonoidKind.{MonoidKind}
use Rattle.cilk_monoid.specs.Kinds.{final_of}
use Rattle.cilk_hypermap.specs.declared.hypermap.Hypermap.{Hypermap}
use Rattle.cilk_program.specs.Outcomes.{finals_from}
use Rattle.cilk_program.specs.SerialRun.{global_reducer}
use Rattle.cilk_program.specs.Store.{Store}
use Rattle.cilk_frames.specs.Leaving.{finals_of}
use Rattle.cilk_serial.specs.States.{ShowsViews}

-- those in the views are those in the store that the views show
pub finals_shown : (h : Hypermap) (m : Store Instance) → ShowsViews h m → (n : ℕ) (ks : List MonoidKind) → finals_of h n ks ≡ finals_from global_reducer n ks m
finals_shown h m shows n [] = refl
finals_shown h m shows n (k ∷ ks) =
    ap (λ v. final_of v ∷ finals_of h (suc n) ks) (sym (shows k (global_reducer n)))
    ∙ ap (λ l. final_of (m.views k (global_reducer n)) ∷ l) (finals_shown h m shows (suc n) ks)
