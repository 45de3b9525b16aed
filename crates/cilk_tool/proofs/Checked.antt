-- The result of the check of a certificate.
--
-- - `unread_apart`: it isn't accepted where its file can't be read;
-- - `refuses`: why it is refused; `starves`: there is no memory.
use Rattle.std.proofs.Common.{◌≡◌, List, Option, refl, sym, subst, ◌∙◌}
use Rattle.std.specs.Prelude.{◌≢◌, ℤ}
use Rattle.cilk_checker.specs.Answers.{IsRefusedText}
use Rattle.cilk_checker.specs.Numbers.{fields_of, number_of}
use Rattle.cilk_checker.specs.declared.refusal.Refusal.{Refusal}
use Rattle.cilk_checker.specs.declared.refusal.Refusal.TheVariants as refusals
use Rattle.cilk_checker.specs.Judging.{Meant}
use Rattle.cilk_commands.specs.Files.{Failures, IsUnfailed}
use Rattle.cilk_commands.specs.Replies.{Accepted, NoMemory, Refused, Reply, Text, Unreadable, answer_view, places_of}
use Rattle.cilk_commands.specs.Shown.{CheckShows}
use Rattle.cilk_commands.specs.declared.reply.Answer.{Answer}

-- that its file can't be read doesn't accept it
pub unread_apart : (path : Text) → Unreadable path ≢ Accepted
unread_apart path e = absurd (cc e)

-- why the certificate is refused
pub refuses : {F : Type 0} (failed : F → Failures) (old new : F) (a : Answer) (path : Text) (known : Option Text) (m : Meant) (inputs : List ℤ) (f : Refusal)
    → (f ≢ refusals.Memory) × (answer_view a ≡ Refused (number_of f) (places_of (fields_of f))) → IsUnfailed (failed old) (failed new) path
    → IsRefusedText m.source inputs known f
    → (answer_view a ≢ Accepted) × CheckShows path known (failed old) (failed new) m inputs (answer_view a)
refuses failed old new a path known m inputs f h none text = (
  λ e. let wrong : Refused (number_of f) (places_of (fields_of f)) ≡ Accepted = sym h.1 ∙ e in absurd (cc wrong),
  subst (λ (r : Reply). CheckShows path known (failed old) (failed new) m inputs r) (sym h.1) (f, h.0, refl, refl, none, text),
)

-- there is no memory
pub starves : {F : Type 0} (failed : F → Failures) (old new : F) (r : Reply) (path : Text) (known : Option Text) (m : Meant) (inputs : List ℤ) → r ≡ NoMemory
    → IsUnfailed (failed old) (failed new) path → (r ≢ Accepted) × CheckShows path known (failed old) (failed new) m inputs r
starves failed old new r path known m inputs is none = (
  λ e. let wrong : NoMemory ≡ Accepted = sym is ∙ e in absurd (cc wrong),
  subst (λ (x : Reply). CheckShows path known (failed old) (failed new) m inputs x) (sym is) none,
)
