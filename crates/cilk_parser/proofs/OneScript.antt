-- A text has one list of steps, or fails at one line.
--
-- - `not_both`: a line has a form or not;
-- - `one_order`, `one_failure`, `apart`: from a line on;
-- - `script_is_one`: the law.
use Rattle.std.proofs.Common.{◌≡◌, ⊎_elim, ◌-◌, ℕ, suc, true≢false, List, [], ◌∷◌, ◌++◌, length, Some, None, refl, sym, ap, ◌∙◌, subst, arith}
use Rattle.cilk_syntax.specs.Lexing.{behind, front_of}
use Rattle.cilk_syntax.specs.declared.lexer.Class.TheVariants.{Line}
use Rattle.cilk_parser.specs.Scripts.{Bad, BadLine, Ends, FailsAtLine, IsBadLine, IsLine, Last, Later, Long, LongLine, Orders, order_in, steps_of, without_return}
use Rattle.cilk_parser.specs.OneScript.{ScriptIsOne}
use Rattle.cilk_parser.specs.declared.script.Step.{Step}

pub not_both : (line : List ℕ) → IsLine line → IsBadLine line → ⊥
not_both line h k = ⊎_elim (λ silent. true≢false (sym silent ∙ k.0)) (λ o. let e : None ≡ Some o.0 = sym k.1 ∙ o.1 in let f : ⊥ = cc in f) h

no_line : (l : List ℕ) (b : ℕ) (rest : List ℕ) → l ≡ [] → l ≡ b ∷ rest → ⊥
no_line l b rest e h = let z : [] ≡ b ∷ rest = sym e ∙ h in let f : ⊥ = cc in f

one_rest : (l : List ℕ) (b c : ℕ) (rest more : List ℕ) → l ≡ b ∷ rest → l ≡ c ∷ more → more ≡ rest
one_rest l b c rest more e h = let z : b ∷ rest ≡ c ∷ more = sym e ∙ h in cc

one_order : (n room : ℕ) (text : List ℕ) (steps steps' : List Step) → Orders n room text steps → Orders n room text steps' → steps' ≡ steps
one_order n room text steps steps' (Last e l i) (Last e' l' i') = refl
one_order n room text steps steps' (Last e l i) (Ends {b = b} {rest = rest} e' l' i' o') = absurd (no_line (behind Line text) b rest e e')
one_order n room text steps steps' (Ends {b = b} {rest = rest} e l i o) (Last e' l' i') = absurd (no_line (behind Line text) b rest e' e)
one_order n room text steps steps' (Ends {b = b} {rest = rest} {steps = s} e l i o) (Ends {b = c} {rest = more} {steps = t} e' l' i' o') =
    ap (λ z. steps_of n (without_return (front_of Line text)) (order_in (without_return (front_of Line text))) ++ z)
    (one_order (suc n) (room - suc (length (front_of Line text))) rest s t o (subst (λ z. Orders (suc n) (room - suc (length (front_of Line text))) z t) (one_rest (behind Line text) b c rest more e e') o'))

one_failure : (n room : ℕ) (text : List ℕ) (at at' : ℕ) → FailsAtLine n room text at → FailsAtLine n room text at' → at' ≡ at
one_failure n room text at at' (Long e l) (Long e' l') = refl
one_failure n room text at at' (Long e l) (LongLine {b = c} {rest = more} e' l') = refl
one_failure n room text at at' (Long e l) (Bad e' l' k') = refl
one_failure n room text at at' (Long e l) (BadLine {b = c} {rest = more} e' l' k') = refl
one_failure n room text at at' (Long e l) (Later {b = c} {rest = more} e' l' i' f') = absurd (no_line (behind Line text) c more e e')
one_failure n room text at at' (LongLine {b = b} {rest = rest} e l) (Long e' l') = refl
one_failure n room text at at' (LongLine {b = b} {rest = rest} e l) (LongLine {b = c} {rest = more} e' l') = refl
one_failure n room text at at' (LongLine {b = b} {rest = rest} e l) (Bad e' l' k') = refl
one_failure n room text at at' (LongLine {b = b} {rest = rest} e l) (BadLine {b = c} {rest = more} e' l' k') = refl
one_failure n room text at at' (LongLine {b = b} {rest = rest} e l) (Later {b = c} {rest = more} e' l' i' f') = absurd (omega (arith, l, l'))
one_failure n room text at at' (Bad e l k) (Long e' l') = refl
one_failure n room text at at' (Bad e l k) (LongLine {b = c} {rest = more} e' l') = refl
one_failure n room text at at' (Bad e l k) (Bad e' l' k') = refl
one_failure n room text at at' (Bad e l k) (BadLine {b = c} {rest = more} e' l' k') = refl
one_failure n room text at at' (Bad e l k) (Later {b = c} {rest = more} e' l' i' f') = absurd (no_line (behind Line text) c more e e')
one_failure n room text at at' (BadLine {b = b} {rest = rest} e l k) (Long e' l') = refl
one_failure n room text at at' (BadLine {b = b} {rest = rest} e l k) (LongLine {b = c} {rest = more} e' l') = refl
one_failure n room text at at' (BadLine {b = b} {rest = rest} e l k) (Bad e' l' k') = refl
one_failure n room text at at' (BadLine {b = b} {rest = rest} e l k) (BadLine {b = c} {rest = more} e' l' k') = refl
one_failure n room text at at' (BadLine {b = b} {rest = rest} e l k) (Later {b = c} {rest = more} e' l' i' f') = absurd (not_both (without_return (front_of Line text)) i' k)
one_failure n room text at at' (Later {b = b} {rest = rest} e l i f) (Long e' l') = absurd (no_line (behind Line text) b rest e' e)
one_failure n room text at at' (Later {b = b} {rest = rest} e l i f) (LongLine {b = c} {rest = more} e' l') = absurd (omega (arith, l, l'))
one_failure n room text at at' (Later {b = b} {rest = rest} e l i f) (Bad e' l' k') = absurd (no_line (behind Line text) b rest e' e)
one_failure n room text at at' (Later {b = b} {rest = rest} e l i f) (BadLine {b = c} {rest = more} e' l' k') = absurd (not_both (without_return (front_of Line text)) i k')
one_failure n room text at at' (Later {b = b} {rest = rest} e l i f) (Later {b = c} {rest = more} e' l' i' f') =
    one_failure (suc n) (room - suc (length (front_of Line text))) rest at at' f (subst (λ z. FailsAtLine (suc n) (room - suc (length (front_of Line text))) z at') (one_rest (behind Line text) b c rest more e e') f')

apart : (n room : ℕ) (text : List ℕ) (steps : List Step) (at : ℕ) → Orders n room text steps → FailsAtLine n room text at → ⊥
apart n room text steps at (Last e l i) (Long e' l') = omega (arith, l, l')
apart n room text steps at (Last e l i) (LongLine {b = c} {rest = more} e' l') = no_line (behind Line text) c more e e'
apart n room text steps at (Last e l i) (Bad e' l' k') = not_both text i k'
apart n room text steps at (Last e l i) (BadLine {b = c} {rest = more} e' l' k') = no_line (behind Line text) c more e e'
apart n room text steps at (Last e l i) (Later {b = c} {rest = more} e' l' i' f') = no_line (behind Line text) c more e e'
apart n room text steps at (Ends {b = b} {rest = rest} {steps = s} e l i o) (Long e' l') = no_line (behind Line text) b rest e' e
apart n room text steps at (Ends {b = b} {rest = rest} {steps = s} e l i o) (LongLine {b = c} {rest = more} e' l') = omega (arith, l, l')
apart n room text steps at (Ends {b = b} {rest = rest} {steps = s} e l i o) (Bad e' l' k') = no_line (behind Line text) b rest e' e
apart n room text steps at (Ends {b = b} {rest = rest} {steps = s} e l i o) (BadLine {b = c} {rest = more} e' l' k') = not_both (without_return (front_of Line text)) i k'
apart n room text steps at (Ends {b = b} {rest = rest} {steps = s} e l i o) (Later {b = c} {rest = more} e' l' i' f') =
    apart (suc n) (room - suc (length (front_of Line text))) rest s at o (subst (λ z. FailsAtLine (suc n) (room - suc (length (front_of Line text))) z at) (one_rest (behind Line text) b c rest more e e') f')

pub script_is_one : ScriptIsOne
script_is_one = record {
  steps = λ text steps steps' h k. one_order _ _ text steps steps' h k;
  lines = λ text at at' h k. one_failure _ _ text at at' h k;
  apart = λ text steps at h k. apart _ _ text steps at h k;
}
