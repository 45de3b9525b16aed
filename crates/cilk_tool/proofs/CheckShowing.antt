-- The reply to a command line of `check` with helpers.
--
-- - `answered`: the answer to an order; `no_words`: words without an order;
-- - `fails`, `ends`: a failure, or an answer, is served; `starved`: out of memory, and no read failed;
-- - `told_status`: the status is that of what was shown;
-- - `asked`: words with an order aren't words without one;
-- - `unasked`: words with a usage error have no order.
use Rattle.std.proofs.Common.{◌≡◌, ℕ, List, Bool, Option, Some, None, refl, sym, subst, inl, ◌∙◌}
use Rattle.std.proofs.lemmas.Bool.{true≢false}
use Rattle.std.specs.Prelude.{IsSome}
use Rattle.std.specs.Io.KnownBytes.{Appends}
use Rattle.cilk_commands.specs.Replies.{NoMemory, Reply, Text, failure_view, out_text, status_of}
use Rattle.cilk_commands.specs.Serving.{IsOrNoMemory, Shows, ShowsError, Surroundings, WordsFail}
use Rattle.cilk_commands.specs.declared.reply.Failure.{Failure}
use Rattle.cilk_commands.specs.declared.reply.Failure.TheVariants as failures
use Rattle.cilk_messages.specs.declared.words.WordsFault.{WordsFault}
use Rattle.cilk_messages.specs.declared.words.WordsFault.TheVariants as faults
use Rattle.cilk_report.proofs.Replies.{IsUsage}
use Rattle.cilk_commands.proofs.Replying.{keeps, no_memory, still_silent}
use Rattle.cilk_messages.specs.CheckWords.{Helped, IsWordsFault, check_in}
use Rattle.cilk_tool.specs.Helped.{Answers, ServesHelped}

starving : (w : Surroundings) (asked : Option Helped) → w.failed' ≡ w.failed → Answers w asked NoMemory
starving w None none = (none, tt)
starving w (Some asked) none = no_memory w (Some asked.check) none

pub answered : (words : List Text) (w : Surroundings) (asked : Option Helped) (r : Reply) → check_in words ≡ asked → Answers w asked r
    → Answers w (check_in words) r
answered words w asked r e h = subst (λ (x : Option Helped). Answers w x r) (sym e) h

pub no_words : (words : List Text) (w : Surroundings) (r : Reply) → check_in words ≡ None → w.failed' ≡ w.failed → WordsFail r → Answers w (check_in words) r
no_words words w r e none h = answered words w None r e (none, h)

module _ (words : List Text) (w : Surroundings) (status : ℕ) (told : Bool) where
  pub fails : (f : Failure) (o e e' : Option Text) → Answers w (check_in words) (failure_view f)
      → (r : Reply) × IsOrNoMemory (failure_view f) r × (status ≡ status_of r) × ShowsError r told e e' → ServesHelped words w status told o o e e'
  fails f o e e' h shown =
      let r = shown.0 in
      let out : Appends o o (out_text r) = subst (λ (t : Text). Appends o o t) (sym (still_silent f r shown.1)) (keeps o) in
      (failure_view f, h, r, shown.1, inl (shown.2, out, shown.3))

  pub starved : (o e e' : Option Text) → w.failed' ≡ w.failed
      → (r : Reply) × IsOrNoMemory (failure_view failures.Memory) r × (status ≡ status_of r) × ShowsError r told e e' → ServesHelped words w status told o o e e'
  starved o e e' none shown = fails failures.Memory o e e' (starving w (check_in words) none) shown

  pub ends : (wanted : Reply) (o o' e e' : Option Text) → Answers w (check_in words) wanted
      → (r : Reply) × IsOrNoMemory wanted r × Shows r status told o o' e e' → ServesHelped words w status told o o' e e'
  ends wanted o o' e e' h shown = (wanted, h, shown.0, shown.1, shown.2)

-- the status is that of what was shown
pub told_status : (words : List Text) (w : Surroundings) (status status' : ℕ) (told : Bool) (o o' e e' : Option Text)
    → ServesHelped words w status told o o' e e' → status' ≡ status → ServesHelped words w status' told o o' e e'
told_status words w status status' told o o' e e' h same = subst (λ (s : ℕ). ServesHelped words w s told o o' e e') (sym same) h

-- words with an order aren't words without one
pub asked : (asked : Option Helped) (r : Helped) → asked ≡ Some r → asked ≡ None → ⊥
asked a r some none = true≢false (sym (subst IsSome (sym some ∙ none) refl))

-- words with a usage error have no order
pub unasked : (words : List Text) (e : WordsFault) → IsUsage e → IsWordsFault words e → check_in words ≡ None
unasked words (faults.Usage text) u h = h
unasked words faults.Memory u h = absurd u
