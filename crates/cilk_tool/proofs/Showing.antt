-- The reply to `threads`.
--
-- - `answered`: the answer to an order; `no_words`: words without an order;
-- - `fails`, `ends`: a failure, or an ending, is served; `starved`: out of memory, and no read failed;
-- - `told_status`: the status is that of what was shown;
-- - `asked`: words with an order aren't words without one;
-- - `unasked`: words with a usage error have no order;
-- - `sent`, `cut`: a refusal's line is written, all of it or a beginning.
use Rattle.std.proofs.Common.{◌≡◌, ℕ, List, [], Bool, true, codes, Option, Some, None, refl, sym, subst, inl, inr, ◌∙◌}
use Rattle.std.proofs.lemmas.Bool.{true≢false}
use Rattle.std.specs.Prelude.{IsSome}
use Rattle.std.specs.Io.KnownBytes.{Appends}
use Rattle.cilk_commands.specs.Replies.{NoMemory, Refused, Reply, Text, failure_view, line, out_text, refused_line, status_of}
use Rattle.cilk_commands.specs.Serving.{IsOrNoMemory, ProgramUnread, Shows, ShowsError, Surroundings, Unjudged, WordsFail}
use Rattle.cilk_commands.specs.Streams.{AppendsFront, AppendsPart}
use Rattle.cilk_commands.specs.declared.reply.Failure.{Failure}
use Rattle.cilk_commands.specs.declared.reply.Failure.TheVariants as failures
use Rattle.cilk_messages.specs.declared.words.WordsFault.{WordsFault}
use Rattle.cilk_messages.specs.declared.words.WordsFault.TheVariants as faults
use Rattle.cilk_report.proofs.Replies.{IsUsage}
use Rattle.cilk_commands.proofs.Replying.{keeps, still_silent}
use Rattle.cilk_tool.specs.Serving.{Answers, ServesThreads}
use Rattle.cilk_messages.specs.ThreadsWords.{IsWordsFault, Requested, order_in}

no_memory : (w : Surroundings) (asked : Option Requested) → w.failed' ≡ w.failed → Answers w asked NoMemory
no_memory w None none = (none, tt)
no_memory w (Some asked) none = Unjudged (ProgramUnread none)

pub answered : (words : List Text) (w : Surroundings) (asked : Option Requested) (r : Reply) → order_in words ≡ asked → Answers w asked r
    → Answers w (order_in words) r
answered words w asked r e h = subst (λ (x : Option Requested). Answers w x r) (sym e) h

pub no_words : (words : List Text) (w : Surroundings) (r : Reply) → order_in words ≡ None → w.failed' ≡ w.failed → WordsFail r → Answers w (order_in words) r
no_words words w r e none h = answered words w None r e (none, h)

module _ (words : List Text) (w : Surroundings) (status : ℕ) (told : Bool) where
  pub fails : (f : Failure) (o e e' : Option Text) → Answers w (order_in words) (failure_view f)
      → (r : Reply) × IsOrNoMemory (failure_view f) r × (status ≡ status_of r) × ShowsError r told e e' → ServesThreads words w status told o o e e'
  fails f o e e' h shown =
      let r = shown.0 in
      let out : Appends o o (out_text r) = subst (λ (t : Text). Appends o o t) (sym (still_silent f r shown.1)) (keeps o) in
      (failure_view f, h, r, shown.1, inl (shown.2, out, shown.3))

  pub starved : (o e e' : Option Text) → w.failed' ≡ w.failed
      → (r : Reply) × IsOrNoMemory (failure_view failures.Memory) r × (status ≡ status_of r) × ShowsError r told e e' → ServesThreads words w status told o o e e'
  starved o e e' none shown = fails failures.Memory o e e' (no_memory w (order_in words) none) shown

  pub ends : (wanted : Reply) (o o' e e' : Option Text) → Answers w (order_in words) wanted
      → (r : Reply) × IsOrNoMemory wanted r × Shows r status told o o' e e' → ServesThreads words w status told o o' e e'
  ends wanted o o' e e' h shown = (wanted, h, shown.0, shown.1, shown.2)

-- the status is that of what was shown
pub told_status : (words : List Text) (w : Surroundings) (status status' : ℕ) (told : Bool) (o o' e e' : Option Text)
    → ServesThreads words w status told o o' e e' → status' ≡ status → ServesThreads words w status' told o o' e e'
told_status words w status status' told o o' e e' h same = subst (λ (s : ℕ). ServesThreads words w s told o o' e e') (sym same) h

-- words with an order aren't words without one
pub asked : (asked : Option Requested) (r : Requested) → asked ≡ Some r → asked ≡ None → ⊥
asked a r some none = true≢false (sym (subst IsSome (sym some ∙ none) refl))

-- words with a usage error have no order
pub unasked : (words : List Text) (e : WordsFault) → IsUsage e → IsWordsFault words e → order_in words ≡ None
unasked words (faults.Usage text) u h = h
unasked words faults.Memory u h = absurd u

-- all of a refusal's line is written
pub sent : (number : ℕ) (places : List ℕ) (text : Text) (o o' e : Option Text) → text ≡ refused_line number places → Appends o o' text
    → (r : Reply) × IsOrNoMemory (Refused number places) r × Shows r 4 true o o' e e
sent number places text o o' e is out =
    (Refused number places, inl refl, inl (refl, subst (λ (t : Text). Appends o o' t) is out, ([], refl, keeps e)))

-- a beginning of it is written, and a line says that a write failed
pub cut : (number : ℕ) (places : List ℕ) (text : Text) (told : Bool) (o o' e e' : Option Text) → text ≡ refused_line number places → AppendsPart o o' text
    → AppendsFront told e e' (line (codes "cannot write")) → (r : Reply) × IsOrNoMemory (Refused number places) r × Shows r 2 told o o' e e'
cut number places text told o o' e e' is out said =
    (Refused number places, inl refl, inr (refl, subst (λ (t : Text). AppendsPart o o' t) is out, said))
