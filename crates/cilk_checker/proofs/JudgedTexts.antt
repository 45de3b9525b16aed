-- A text's tree, and then the program of the tree.
--
-- `spelled_wrong`: a fault of the spelling is the text's. `resolved_right`, `resolved_wrong`: if a
-- text spells a tree, the program of the tree or the fault of its names is the text's.
use Rattle.std.specs.Prelude.{◌≡◌, ℕ, List, Result, Ok, Err, IfOk, IfErr, IsErrAnd}
use Rattle.std.proofs.Common.{subst, sym}
use Rattle.cilk_parser.specs.Texts.{IsText}
use Rattle.cilk_syntax.specs.declared.tree.Tree.{Tree}
use Rattle.cilk_program.specs.declared.program.Program.{Program}
use Rattle.cilk_checker.specs.Judging.{AreNamesAtFault, IsProgramFault, IsProgramText, IsSpellingFault, ResolvesTo, meant}
use Rattle.cilk_checker.specs.declared.fault.ProgramFault.{ProgramFault}
use Rattle.cilk_checker.specs.declared.fault.ProgramFault.TheVariants.{Memory, Text, Name}

of_spelling : (f : ProgramFault) (text : List ℕ) → IsSpellingFault f text → IsProgramFault f text
of_spelling Memory text h = h
of_spelling (Text n place) text h = h
of_spelling (Name n place) text h = absurd h

of_names : (f : ProgramFault) (text : List ℕ) (t : Tree) → IsText text t → AreNamesAtFault f t → IsProgramFault f text
of_names Memory text t spelled h = h
of_names (Text n place) text t spelled h = absurd h
of_names (Name n place) text t spelled h = (t, spelled, h)

pub spelled_wrong : (x : Result Program ProgramFault) (f : ProgramFault) (text : List ℕ) → IsErrAnd x (λ e. e ≡ f)
    → IsSpellingFault f text → IfErr x (λ e. IsProgramFault e text)
spelled_wrong (Ok p) f text e h = absurd e
spelled_wrong (Err g) f text e h = subst (λ x. IsProgramFault x text) (sym e) (of_spelling f text h)

pub resolved_right : (x : Result Program ProgramFault) (text : List ℕ) (t : Tree) → IsText text t
    → IfOk x (λ p. ResolvesTo t (meant p)) → IfOk x (λ p. IsProgramText text (meant p))
resolved_right (Ok p) text t spelled h = (t, spelled, h)
resolved_right (Err e) text t spelled h = tt

pub resolved_wrong : (x : Result Program ProgramFault) (text : List ℕ) (t : Tree) → IsText text t
    → IfErr x (λ e. AreNamesAtFault e t) → IfErr x (λ e. IsProgramFault e text)
resolved_wrong (Ok p) text t spelled h = tt
resolved_wrong (Err e) text t spelled h = of_names e text t spelled h
