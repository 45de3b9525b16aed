-- The answers to words about the tool.
--
-- - `text_about`, `error_about`: a text on standard output, or on standard error;
-- - `unanswered`: out of memory.
use Rattle.std.proofs.Common.{◌≡◌, ℕ, List, length, Bool, true, Option, inl, inr, refl, subst}
use Rattle.std.specs.Prelude.{◌<◌}
use Rattle.cilk_commands.specs.Replies.{NoMemory, Text}
use Rattle.cilk_commands.specs.Streams.{AppendsFront}
use Rattle.cilk_commands.specs.declared.reply.Failure.TheVariants as failures
use Rattle.cilk_messages.specs.About.{IsPage, asks_help, asks_help_on, asks_list, asks_meaning, asks_unknown, asks_version, number_asked}
use Rattle.cilk_messages.specs.declared.help.TheConstants.{HELP, VERSION}
use Rattle.cilk_messages.specs.declared.numbers.TheConstants.{TITLES}
use Rattle.cilk_report.proofs.Measuring.{Told, complains}
use Rattle.cilk_report.proofs.Replies.{silence}
use Rattle.cilk_report.specs.Explained.{AnswersAbout, Complains, WritesError, WritesText}

-- `text` is written as `shown`
module _ (words : List Text) (text shown : Text) (status : ℕ) where
  pub text_about : (o o' e e' : Option Text) → shown ≡ text → (asks_version words ≡ true → text ≡ VERSION.now) → (asks_help words ≡ true → ⊥)
      → (asks_help_on words ≡ true → ⊥) → (asks_list words ≡ true → text ≡ TITLES.now)
      → (asks_meaning words ≡ true → IsPage (number_asked words) text × (length VERSION.now < length text)) → (asks_unknown words ≡ true → ⊥)
      → WritesText shown status o o' e e' → AnswersAbout words status o o' e e'
  text_about o o' e e' same version help help_on list meaning unknown written =
      let all : WritesText text status o o' e e' = subst (λ (t : Text). WritesText t status o o' e e') same written in record {
        version = λ asked. inl (subst (λ (t : Text). WritesText t status o o' e e') (version asked) all);
        help = λ asked. absurd (help asked);
        help_on = λ asked. absurd (help_on asked);
        list = λ asked. inl (subst (λ (t : Text). WritesText t status o o' e e') (list asked) all);
        meaning = λ asked. let page = meaning asked in inl (text, page.0, page.1, all);
        unknown = λ asked. absurd (unknown asked);
      }

  pub error_about : (o e e' : Option Text) → shown ≡ text → (asks_version words ≡ true → ⊥) → (asks_help words ≡ true → text ≡ HELP.now)
      → (asks_help_on words ≡ true → length VERSION.now < length text) → (asks_list words ≡ true → ⊥) → (asks_meaning words ≡ true → ⊥)
      → (asks_unknown words ≡ true → length VERSION.now < length text) → status ≡ 2 → (told : Bool) × AppendsFront told e e' shown
      → AnswersAbout words status o o e e'
  error_about o e e' same version help help_on list meaning unknown two told =
      let all : WritesError text status o o e e' =
      (refl, two, subst (λ (t : Text). (told : Bool) × AppendsFront told e e' t) same told) in record {
        version = λ asked. absurd (version asked);
        help = λ asked. inl (subst (λ (t : Text). WritesError t status o o e e') (help asked) all);
        help_on = λ asked. inl (text, help_on asked, all);
        list = λ asked. absurd (list asked);
        meaning = λ asked. absurd (meaning asked);
        unknown = λ asked. inl (text, unknown asked, all);
      }

pub unanswered : (words : List Text) (status : ℕ) (told : Bool) (o e m : Option Text) → Told failures.Memory status told e m
    → AnswersAbout words status o o e m
unanswered words status told o e m shown =
    let starved : Complains NoMemory status o o e m =
    elim shown.1 [
      | inl is ↦ complains shown.0 NoMemory status status told o e m m is shown.2 shown.3 (silence status m) refl
      | inr is ↦ complains shown.0 NoMemory status status told o e m m is shown.2 shown.3 (silence status m) refl
    ] in record {
      version = λ _. inr starved;
      help = λ _. inr starved;
      help_on = λ _. inr starved;
      list = λ _. inr starved;
      meaning = λ _. inr starved;
      unknown = λ _. inr starved;
    }
