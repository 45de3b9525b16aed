-- A certificate that can't be read. `unread` shows it, and that no line before is malformed; `none_faultless`: nothing is faultless.
use Rattle.std.proofs.Common.{◌≡◌, ℕ, List, [], Option, option_map, drop, refl, ap₂, subst, arith}
use Rattle.std.specs.Prelude.{◌<◌, ◌≤◌, ℤ}
use Rattle.cilk_cert_text.specs.Reading.{reading}
use Rattle.cilk_checker.specs.Answers.{IsUnaccepted}
use Rattle.cilk_checker.specs.Judging.{Meant}
use Rattle.cilk_checker.specs.Pulls.{IsFaultlessSoFar, TakesUntil}
use Rattle.cilk_checker.specs.declared.refusal.Unaccepted.{Unaccepted}
use Rattle.cilk_checker.specs.declared.refusal.Unaccepted.TheVariants as unaccepted
use Rattle.cilk_commands.specs.Files.{Failures}
use Rattle.cilk_commands.specs.Replies.{Text, Unreadable}
use Rattle.cilk_commands.specs.Shown.{CheckShows}
use Rattle.cilk_commands.specs.Sources.{kept_of}
use Rattle.cilk_commands.proofs.Kept.{fails, holds_to, own, reached}
use Rattle.cilk_commands.proofs.Replying.{unread_count}

pub none_faultless : IsFaultlessSoFar []
unfolding reading
none_faultless = record { formed = λ line e. cc; within = omega arith }

-- a source of a certificate, over files that are given back as the source left them
module _ {F : Type 0} (failed : F → Failures) (holds : F → Text → Option Text) (old made new last : F) (b c : ℕ) (p q o n path other : Text) (same : made ≡ old)
    (here : p ≡ path) (there : o ≡ other) (kept : kept_of c (failed new) (holds new) q n ≡ kept_of b (failed made) (holds made) p o) (given : last ≡ new) where
  pub unread : (begin stop pulled : ℕ) → begin ≡ 0 → b ≡ (failed old).count → (c < (failed new).count → (failed new).at ≤ stop) → (m : Meant)
      (inputs : List ℤ) (u : Unaccepted) → u ≡ unaccepted.Unread
      → IsUnaccepted m.source inputs (option_map (drop begin) (holds made p)) (failed made).count (failed new).count u
      → TakesUntil (option_map (drop begin) (holds made p)) (option_map (drop stop) (holds new q)) pulled u
      → CheckShows path (holds old path) (failed old) (failed last) m inputs (Unreadable path)
  unread begin stop pulled first before stopped m inputs u is h taken =
      let count = unread_count m.source inputs (option_map (drop begin) (holds made p)) (failed made).count (failed new).count u is h in (
        refl,
        fails failed holds old made new last b c p q o n path other same here there kept given count,
        holds_to IsFaultlessSoFar (holds old path) (holds made p) (holds new q) begin stop (let f = failed last in f.at) (ap₂ holds same here)
            (own failed holds old made new last b c p q o n path other same here there kept given) first
            (reached failed holds old made new last b c p q o n path other same here there kept given stop before stopped count)
            (subst (λ (x : Unaccepted). TakesUntil (option_map (drop begin) (holds made p)) (option_map (drop stop) (holds new q)) pulled x) is taken),
      )
