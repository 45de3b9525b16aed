-- Statements about a judged program and input, carried over to their texts.
--
-- - `true_refusal`, `true_answer`: a refusal at the texts that were judged is one at the texts;
-- - `not_of_texts`: a refusal of the certificate is no fault of the texts that were judged;
-- - `texts_kept`, `certified_kept`: properties of the checked program and input hold of those that
--   are kept.
use Rattle.std.proofs.Common.{◌≡◌, ℕ, ℤ, List, Option, Result, Ok, Err, sym, subst}
use Rattle.std.specs.Prelude.{IfOk}
use Rattle.cilk_program.specs.declared.program.Program.{Program}
use Rattle.cilk_program.specs.Sources.{source}
use Rattle.cilk_program.specs.Syntax.{Source}
use Rattle.cilk_checker.specs.Judging.{Meant, meant}
use Rattle.cilk_checker.specs.Answers.{IsCertified, IsRefusedText, IsUnaccepted}
use Rattle.cilk_checker.specs.Determinate.{AcceptedRun}
use Rattle.cilk_checker.specs.Texts.{AreTexts, IsOfTexts, IsTrueAnswer, IsTrueRefusal}
use Rattle.cilk_checker.specs.declared.refusal.Refusal.{Refusal}
use Rattle.cilk_checker.specs.declared.refusal.Refusal.TheVariants as refusals
use Rattle.cilk_checker.specs.declared.refusal.Unaccepted.{Unaccepted}
use Rattle.cilk_checker.specs.declared.refusal.Unaccepted.TheVariants as unaccepted
use Rattle.cilk_checker.proofs.Checked.{never}

pub true_refusal : (program input : List ℕ) (known : Option (List ℕ)) (m : Meant) (inputs : List ℤ)
    → AreTexts program input m inputs → (r : Refusal)
    → IsRefusedText m.source inputs known r → IsTrueRefusal program input known r
true_refusal program input known m inputs t (refusals.Program fault place) g =
    absurd (never m.source inputs g.certificate (refusals.Program fault place)
    ((λ s es value c h. h), (λ es c h. h)) g.holds)
true_refusal program input known m inputs t (refusals.Name fault place) g =
    absurd (never m.source inputs g.certificate (refusals.Name fault place)
    ((λ s es value c h. h), (λ es c h. h)) g.holds)
true_refusal program input known m inputs t (refusals.Input fault place) g =
    absurd (never m.source inputs g.certificate (refusals.Input fault place)
    ((λ s es value c h. h), (λ es c h. h)) g.holds)
true_refusal program input known m inputs t refusals.Memory g = tt
true_refusal program input known m inputs t r g = (m, inputs, t, g)

pub true_answer : (program input : List ℕ) (known : Option (List ℕ)) (m : Meant) (inputs : List ℤ) (failed failed' : ℕ)
    → AreTexts program input m inputs → (e : Unaccepted)
    → IsUnaccepted m.source inputs known failed failed' e → IsTrueAnswer program input known failed failed' e
true_answer program input known m inputs failed failed' t (unaccepted.Refusal r) h =
    true_refusal program input known m inputs t r h
true_answer program input known m inputs failed failed' t unaccepted.Unread h = ((m, inputs, t), h)

pub not_of_texts : (p : Source) (inputs : List ℤ) (known : Option (List ℕ)) (failed failed' : ℕ) (e : Unaccepted)
    → IsUnaccepted p inputs known failed failed' e → IsOfTexts e → ⊥
not_of_texts p inputs known failed failed' (unaccepted.Refusal (refusals.Program fault place)) h t =
    never p inputs h.certificate (refusals.Program fault place) ((λ s es value c g. g), (λ es c g. g)) h.holds
not_of_texts p inputs known failed failed' (unaccepted.Refusal (refusals.Name fault place)) h t =
    never p inputs h.certificate (refusals.Name fault place) ((λ s es value c g. g), (λ es c g. g)) h.holds
not_of_texts p inputs known failed failed' (unaccepted.Refusal (refusals.Input fault place)) h t =
    never p inputs h.certificate (refusals.Input fault place) ((λ s es value c g. g), (λ es c g. g)) h.holds
not_of_texts p inputs known failed failed' e h t = absurd t

pub texts_kept : (program input : List ℕ) (r : Result AcceptedRun Unaccepted) (p : Program) (inputs : List ℤ)
    → IfOk r (λ a. a.program ≡ p) → IfOk r (λ a. a.input ≡ inputs)
    → AreTexts program input (meant p) inputs → IfOk r (λ a. AreTexts program input (meant a.program) a.input)
texts_kept program input (Ok a) p inputs same same_input t =
    subst (λ (q : Program). AreTexts program input (meant q) a.input) (sym same)
    (subst (λ (ns : List ℤ). AreTexts program input (meant p) ns) (sym same_input) t)
texts_kept program input (Err e) p inputs same same_input t = tt

pub certified_kept : (known : Option (List ℕ)) (r : Result AcceptedRun Unaccepted) (p : Program) (inputs : List ℤ)
    → IfOk r (λ a. a.program ≡ p) → IfOk r (λ a. a.input ≡ inputs)
    → IfOk r (λ a. IsCertified (source p) inputs known a.trace a.outcome)
    → IfOk r (λ a. IsCertified (source a.program) a.input known a.trace a.outcome)
certified_kept known (Ok a) p inputs same same_input h =
    subst (λ (q : Program). IsCertified (source q) a.input known a.trace a.outcome) (sym same)
    (subst (λ (ns : List ℤ). IsCertified (source p) ns known a.trace a.outcome) (sym same_input) h)
certified_kept known (Err e) p inputs same same_input h = tt
