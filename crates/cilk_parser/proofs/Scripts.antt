-- Laws of the syntax of scripts.
--
-- - `nothing`, `parted`: a list is empty or has a first element;
-- - `handed`: a fault that is passed on;
-- - `last_bad`, `line_bad`: a line without a valid form, by its fault;
-- - `longer`: one line more.
use Rattle.std.proofs.Common.{◌≡◌, ◌-◌, ◌<◌, ◌≤◌, ℕ, suc, List, [], ◌∷◌, ◌++◌, length, take, drop, refl, sym, ap, ◌∙◌, subst, arith, append_assoc}
use Rattle.std.specs.Prelude.{Result, Ok, Err, IfErr, IsErrAnd}
use Rattle.cilk_syntax.specs.Lexing.{behind, front_of}
use Rattle.cilk_syntax.specs.declared.lexer.Class.TheVariants.{Line}
use Rattle.cilk_parser.specs.Scripts.{Bad, BadLine, Ends, FailsAtLine, IsBadAt, IsBadLine, IsFaultOf, IsLine, IsNoScript, IsScript, Orders, order_in, steps_of, without_return}
use Rattle.cilk_parser.specs.declared.script.ScriptFault.{ScriptFault}
use Rattle.cilk_parser.specs.declared.script.ScriptFault.TheVariants as faults
use Rattle.cilk_parser.specs.declared.script.Step.{Step}

pub nothing : (l : List ℕ) → length l < 1 → l ≡ []
nothing [] h = refl
nothing (b ∷ l) h = absurd (omega (arith, h))

-- a list with at least one element, by its first and the others
pub parted : (l : List ℕ) → 1 ≤ length l → (b : ℕ) × (l ≡ b ∷ take (length l - 1) (drop 1 l))
parted [] h = absurd (omega (arith, h))
parted (b ∷ l) h =
    let n : length (b ∷ l) - 1 ≡ length l = omega arith in
    (b, ap (λ x. b ∷ x) (sym (ap (λ m. take m l) n ∙ whole l)))
  where
    whole : (bs : List ℕ) → take (length bs) bs ≡ bs
    whole [] = refl
    whole (c ∷ bs) = ap (λ x. c ∷ x) (whole bs)

pub handed : {A : Type 0} (text : List ℕ) (r : Result A ScriptFault) (e : ScriptFault) → IsErrAnd r (λ f. f ≡ e) → IsFaultOf text e → IfErr r (λ f. IsFaultOf text f)
handed text (Ok v) e is h = absurd is
handed text (Err f) e is h = subst (λ z. IsFaultOf text z) (sym is) h

module _ (text : List ℕ) (n room : ℕ) (rest : List ℕ) (fails : (at : ℕ) → FailsAtLine n room rest at → IsNoScript text at) where
  pub last_bad : behind Line rest ≡ [] → length rest ≤ room → (e : ScriptFault) → IsBadAt n rest e → IsFaultOf text e
  last_bad ends few faults.Memory h = tt
  last_bad ends few (faults.Line at) h = fails at (subst (λ k. FailsAtLine n room rest k) (sym h.0) (Bad ends few h.1))

  pub line_bad : (b : ℕ) (after : List ℕ) → behind Line rest ≡ b ∷ after → length (front_of Line rest) < room → (line : List ℕ) → line ≡ without_return (front_of Line rest) → (e : ScriptFault) → IsBadAt n line e → IsFaultOf text e
  line_bad b after ends few line is faults.Memory h = tt
  line_bad b after ends few line is (faults.Line at) h = fails at (subst (λ k. FailsAtLine n room rest k) (sym h.0) (BadLine ends few (subst IsBadLine is h.1)))

-- the steps with one line more
pub longer : (text : List ℕ) (n room : ℕ) (rest : List ℕ) (steps steps' : List Step) → ((more : List Step) → Orders n room rest more → IsScript text (steps ++ more))
    → (b : ℕ) (after : List ℕ) → behind Line rest ≡ b ∷ after → length (front_of Line rest) < room → (line : List ℕ) → line ≡ without_return (front_of Line rest) → IsLine line → steps' ≡ steps ++ steps_of n line (order_in line)
    → (more : List Step) → Orders (suc n) (room - suc (length (front_of Line rest))) after more → IsScript text (steps' ++ more)
longer text n room rest steps steps' script b after ends few line is good grown more orders =
    let good' : IsLine (without_return (front_of Line rest)) = subst IsLine is good in
    let mine = steps_of n (without_return (front_of Line rest)) (order_in (without_return (front_of Line rest))) in
    let now : steps' ≡ steps ++ mine = grown ∙ ap (λ l. steps ++ steps_of n l (order_in l)) is in
    subst (λ z. IsScript text z) (sym (ap (λ z. z ++ more) now ∙ append_assoc steps mine more)) (script (mine ++ more) (Ends ends few good' orders))
