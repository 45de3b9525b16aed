-- Words about the tool request exactly one thing.
--
-- - `one_request`: one of six holds of words about the tool, and none of others.
use Rattle.std.proofs.Common.{◌≡◌, Bool, true, false, not, ◌&&◌, ◌||◌, cond, count_by, List, [], ◌∷◌, codes, bytes_eq, refl, ap, ◌∙◌, inl, inr}
use Rattle.std.proofs.lemmas.Bool.{and_left, and_parts, and_right, both_ways, false_from_ne_true, not-true, or_cases, or_from, true≢false}
use Rattle.std.proofs.lemmas.Slice.Eq.{bytes_eq-Decides}
use Rattle.cilk_messages.specs.Asked.{Text, is_option}
use Rattle.cilk_messages.specs.About.{is_about, is_explain, is_explained, is_help, is_help_on, is_help_on_all, is_version, requests, spells_meaning}

-- a text that is this one isn't another
another : (word this other : Text) → bytes_eq this other ≡ false → bytes_eq word this ≡ true → bytes_eq word other ≡ false
another word this other differ is = ap (λ (w : Text). bytes_eq w other) ((bytes_eq-Decides word this).0 is) ∙ differ

-- a text that is one of two isn't another
neither : (word this that other : Text) → bytes_eq this other ≡ false → bytes_eq that other ≡ false → (bytes_eq word this || bytes_eq word that) ≡ true
    → bytes_eq word other ≡ false
neither word this that other first second is =
    elim (or_cases (bytes_eq word this) (bytes_eq word that) is) [
      | inl is_it ↦ another word this other first is_it
      | inr is_it ↦ another word that other second is_it
    ]

version_is_no_help : (word : Text) → is_version word ≡ true → is_help_on_all word ≡ false
version_is_no_help word is =
    or_from _ _ (neither word (codes "--version") (codes "-V") (codes "help") refl refl is)
    (or_from _ _ (neither word (codes "--version") (codes "-V") (codes "--help") refl refl is)
    (neither word (codes "--version") (codes "-V") (codes "-h") refl refl is))

version_is_no_explain : (word : Text) → is_version word ≡ true → is_explain word ≡ false
version_is_no_explain word is = neither word (codes "--version") (codes "-V") (codes "explain") refl refl is

help_is_no_explain : (word : Text) → is_help_on_all word ≡ true → is_explain word ≡ false
help_is_no_explain word is =
    elim (or_cases (bytes_eq word (codes "help")) (is_help word) is) [
      | inl is_it ↦ another word (codes "help") (codes "explain") refl is_it
      | inr is_it ↦ neither word (codes "--help") (codes "-h") (codes "explain") refl refl is_it
    ]

-- a request for help begins with `-`
help_is_option : (word : Text) → is_help word ≡ true → is_option word ≡ true
help_is_option word is =
    elim (or_cases (bytes_eq word (codes "--help")) (bytes_eq word (codes "-h")) is) [
      | inl is_it ↦ ap is_option ((bytes_eq-Decides word (codes "--help")).0 is_it)
      | inr is_it ↦ ap is_option ((bytes_eq-Decides word (codes "-h")).0 is_it)
    ]

explained_is_no_help : (word other : Text) → is_explained word other ≡ true → is_help_on word other ≡ false
explained_is_no_help word other is =
    let parts = and_parts (is_explain word) (not (is_option other)) is in
    or_from _ _ (and_left _ _ (another word (codes "explain") (codes "help") refl parts.0))
    (and_right _ _ (false_from_ne_true (is_help other) (λ help. both_ways (is_option other) (not-true _ parts.1) (help_is_option other help))))

alone : (version help explain : Bool) → (version ≡ true → help ≡ false) → (version ≡ true → explain ≡ false) → (help ≡ true → explain ≡ false)
    → count_by (λ asked. asked) (version ∷ help ∷ false ∷ explain ∷ false ∷ false ∷ []) ≡ cond (version || (help || explain)) 1 0
alone true true explain p q r = absurd (true≢false (p refl))
alone true false true p q r = absurd (true≢false (q refl))
alone true false false p q r = refl
alone false true true p q r = absurd (true≢false (r refl))
alone false true false p q r = refl
alone false false true p q r = refl
alone false false false p q r = refl

pair : (explained help spells : Bool) → (explained ≡ true → help ≡ false)
    → count_by (λ asked. asked) (false ∷ false ∷ help ∷ false ∷ (explained && spells) ∷ (explained && not spells) ∷ []) ≡ cond (explained || help) 1 0
pair true true spells p = absurd (true≢false (p refl))
pair true false true p = refl
pair true false false p = refl
pair false true spells p = refl
pair false false spells p = refl

-- one of six holds of words about the tool, and none of others
pub one_request : (words : List Text) → count_by (λ asked. asked) (requests words) ≡ cond (is_about words) 1 0
one_request [] = refl
one_request (word ∷ []) =
    alone (is_version word) (is_help_on_all word) (is_explain word) (version_is_no_help word) (version_is_no_explain word) (help_is_no_explain word)
one_request (word ∷ other ∷ []) =
    pair (is_explained word other) (is_help_on word other) (spells_meaning other) (explained_is_no_help word other)
one_request (word ∷ other ∷ more ∷ words) = refl
