-- The replies of `measure`.
--
-- - `complains`: a reply is shown on standard error alone;
-- - `fails`: there are no totals, and the reply says why;
-- - `starved`: out of memory;
-- - `unnamed`: the words name no run;
-- - `undrawn`: the run ends, and the picture that is requested isn't drawn; `unshown`: so too, or out of memory;
-- - `asked`: a command line of `serve` isn't one that `serve` refuses;
-- - `named`: the run that words measure is that of the `run` command in their place.
use Rattle.std.proofs.Common.{◌≡◌, ℕ, List, Bool, true, Option, Some, None, refl, sym, ap, subst, inl, inr, ◌∙◌}
use Rattle.std.proofs.lemmas.Bool.{true≢false}
use Rattle.std.specs.Prelude.{IsSome}
use Rattle.cilk_messages.specs.Asked.{measured_run, run_of, words_of_run}
use Rattle.cilk_report.specs.Explained.{Complains, Follows, IsNoOutcome, Measures, OutOfMemory, Undrawn, Unmeasured, Unnamed}
use Rattle.cilk_report.specs.Measured.{AreTotalsOf, TellsWhy}
use Rattle.cilk_profile.specs.Measured.{IsAboutPictures, is_drawn}
use Rattle.cilk_profile.specs.declared.text.NoText.{NoText}
use Rattle.cilk_profile.specs.declared.text.NoText.TheVariants as reasons
use Rattle.cilk_profile.specs.declared.totals.Totals.{Totals}
use Rattle.cilk_commands.specs.Files.{Failures}
use Rattle.cilk_commands.specs.Replies.{NoMemory, Reply, Text, failure_view, status_of}
use Rattle.cilk_commands.specs.Serving.{IsOrNoMemory, RunReply, ShowsError, WordsFail, world}
use Rattle.cilk_messages.specs.Words.{Origin, Requested, order_in}
use Rattle.cilk_commands.specs.declared.reply.Failure.{Failure}
use Rattle.cilk_commands.specs.declared.reply.Failure.TheVariants as failures

-- the text of a failure
abbrev pub Told : Failure → ℕ → Bool → Option Text → Option Text → Type 0
Told f status told e m = (r : Reply) × IsOrNoMemory (failure_view f) r × (status ≡ status_of r) × ShowsError r told e m

no_outcome : (f : Failure) → IsNoOutcome (failure_view f)
no_outcome (failures.Words text) = tt
no_outcome (failures.Unreadable name) = tt
no_outcome (failures.Program number place) = tt
no_outcome (failures.Input number place) = tt
no_outcome (failures.Run number at) = tt
no_outcome (failures.Strand number name) = tt
no_outcome (failures.Unmade skip) = tt
no_outcome (failures.Script at) = tt
no_outcome (failures.Trace number at) = tt
no_outcome (failures.Changed name) = tt
no_outcome failures.Memory = tt

pub complains : (r wanted : Reply) (status status' : ℕ) (told : Bool) (o e m e' : Option Text) → r ≡ wanted → status ≡ status_of r → ShowsError r told e m
    → Follows status' m e' → status' ≡ status → Complains wanted status' o o e e'
complains r wanted status status' told o e m e' is s shown behind same =
    (refl, same ∙ s ∙ ap status_of is, m, told, subst (λ (x : Reply). ShowsError x told e m) is shown, behind)

module _ (words : List Text) (files : Text → Option Text) (input : Option Text) (failed failed' : Failures) where
  pub fails : (p : Origin) (i : Option Text) (f : Failure) (status status' : ℕ) (told : Bool) (o e m e' : Option Text)
      → measured_run words ≡ Some (p, i) → RunReply (world files input failed failed') p i (failure_view f) → Told f status told e m
      → Follows status' m e' → status' ≡ status → Measures words files input failed failed' status' o o e e'
  fails p i f status status' told o e m e' named h shown behind same =
      Unmeasured p i (failure_view f) shown.0 named h (no_outcome f) shown.1
      (complains shown.0 shown.0 status status' told o e m e' refl shown.2 shown.3 behind same)

  pub starved : (status status' : ℕ) (told : Bool) (o e m e' : Option Text) → failed' ≡ failed → Told failures.Memory status told e m → Follows status' m e'
      → status' ≡ status → Measures words files input failed failed' status' o o e e'
  starved status status' told o e m e' none shown behind same =
      elim shown.1 [
        | inl is ↦ OutOfMemory none (complains shown.0 NoMemory status status' told o e m e' is shown.2 shown.3 behind same)
        | inr is ↦ OutOfMemory none (complains shown.0 NoMemory status status' told o e m e' is shown.2 shown.3 behind same)
      ]

  pub unnamed : (f : Failure) (status status' : ℕ) (told : Bool) (o e m e' : Option Text) → measured_run words ≡ None → failed' ≡ failed
      → WordsFail (failure_view f) → Told f status told e m → Follows status' m e' → status' ≡ status → Measures words files input failed failed' status' o o e e'
  unnamed f status status' told o e m e' named none h shown behind same =
      elim shown.1 [
        | inl is ↦ Unnamed (failure_view f) named none h (complains shown.0 (failure_view f) status status' told o e m e' is shown.2 shown.3 behind same)
        | inr is ↦ OutOfMemory none (complains shown.0 NoMemory status status' told o e m e' is shown.2 shown.3 behind same)
      ]

  pub undrawn : (p : Origin) (i : Option Text) (t : Totals) (f : Failure) (status status' : ℕ) (told : Bool) (o e m e' : Option Text)
      → measured_run words ≡ Some (p, i) → AreTotalsOf (world files input failed failed') p i t → is_drawn words ≡ true → WordsFail (failure_view f)
      → Told f status told e m → Follows status' m e' → status' ≡ status → Measures words files input failed failed' status' o o e e'
  undrawn p i t f status status' told o e m e' named totals drawn h shown behind same =
      elim shown.1 [
        | inl is ↦ Undrawn p i t (failure_view f) named totals drawn h (complains shown.0 (failure_view f) status status' told o e m e' is shown.2 shown.3 behind same)
        | inr is ↦ OutOfMemory totals.unfailed (complains shown.0 NoMemory status status' told o e m e' is shown.2 shown.3 behind same)
      ]

  -- nothing is shown of a run that ended
  pub unshown : (p : Origin) (i : Option Text) (t : Totals) (why : NoText) (f : Failure) (status status' : ℕ) (told : Bool) (o e m e' : Option Text)
      → measured_run words ≡ Some (p, i) → AreTotalsOf (world files input failed failed') p i t → IsAboutPictures words why → TellsWhy why (failure_view f)
      → Told f status told e m → Follows status' m e' → status' ≡ status → Measures words files input failed failed' status' o o e e'
  unshown p i t (reasons.Undrawn text) f status status' told o e m e' named totals drawn h shown behind same =
      undrawn p i t f status status' told o e m e' named totals drawn h shown behind same
  unshown p i t (reasons.Fault fault) f status status' told o e m e' named totals drawn h shown behind same =
      elim shown.1 [
        | inl is ↦ OutOfMemory totals.unfailed (complains shown.0 NoMemory status status' told o e m e' (is ∙ h) shown.2 shown.3 behind same)
        | inr is ↦ OutOfMemory totals.unfailed (complains shown.0 NoMemory status status' told o e m e' is shown.2 shown.3 behind same)
      ]

-- a command line of `serve` isn't one that `serve` refuses
pub asked : (asked : Option Requested) (r : Requested) → asked ≡ Some r → asked ≡ None → ⊥
asked a r some none = true≢false (sym (subst IsSome (sym some ∙ none) refl))

-- the run that words measure is that of the `run` command in their place
pub named : (words plain : List Text) (wanted : Option Requested) (run : Option (Origin × Option Text)) → plain ≡ words_of_run words
    → order_in plain ≡ wanted → run ≡ run_of wanted → measured_run words ≡ run
named words plain wanted run same order is = ap (λ ws. run_of (order_in ws)) (sym same) ∙ ap run_of order ∙ sym is
