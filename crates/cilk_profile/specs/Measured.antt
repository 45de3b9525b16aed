-- The output of `measure`.
use Rattle.std.specs.Prelude.{◌≡◌, ℕ, Bool, true, ◌||◌, IsFalse, List, ◌++◌, cond, Option, codes}
use Rattle.cilk_profile.specs.declared.totals.Totals.{Totals}
use Rattle.cilk_profile.specs.Table.{totals_text}
use Rattle.cilk_messages.specs.Asked.{Text, asks}
use Rattle.cilk_profile.specs.declared.table.TheConstants.{BLANK, COMMA}
use Rattle.cilk_profile.specs.declared.text.NoText.{NoText}
use Rattle.cilk_profile.specs.declared.text.NoText.TheVariants as reasons

-- the separator before each number: a comma with `--csv`
abbrev pub mark_in : List Text → ℕ
mark_in words = cond (asks (codes "--csv") words) COMMA BLANK

-- a picture is requested in place of a table
abbrev pub is_drawn : List Text → Bool
is_drawn words = asks (codes "--svg") words || asks (codes "--dot") words

-- A table begins with the totals. Nothing is stated about the rest.
abbrev pub IsTable : List Text → Totals → Text → Type 0
IsTable words t text = (ticks : Option ℕ) × (rest : Text) × (text ≡ totals_text (mark_in words) t ticks ++ rest)

-- A table, unless a picture is requested. Nothing is stated about pictures.
abbrev pub IsMeasureText : List Text → Totals → Text → Type 0
IsMeasureText words t text = IsFalse (is_drawn words) → IsTable words t text

-- why no text is shown: a picture is requested that isn't drawn, or there is no memory
abbrev pub IsAboutPictures : List Text → NoText → Type 0
IsAboutPictures words (reasons.Undrawn text) = is_drawn words ≡ true
IsAboutPictures words (reasons.Fault fault) = Unit {0}
