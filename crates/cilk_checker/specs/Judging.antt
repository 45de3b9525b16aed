-- The meaning of a program text, or its first fault.
use Rattle.std.specs.Prelude.{◌≡◌, ℕ, List, map}
use Rattle.cilk_parser.specs.Texts.{IsText, IsTextFault}
use Rattle.cilk_parser.specs.declared.fault.TextFault.TheVariants as text_faults
use Rattle.cilk_syntax.specs.declared.tree.Tree.{Tree}
use Rattle.cilk_names.specs.Misnamings.{IsNameFault}
use Rattle.cilk_names.specs.Resolution.{Resolves, shared_of}
use Rattle.cilk_names.specs.declared.fault.NameFault.TheVariants as name_faults
use Rattle.cilk_program.specs.Syntax.{Source}
use Rattle.cilk_program.specs.Sources.{source}
use Rattle.cilk_program.specs.declared.program.Program.{Program}
use Rattle.cilk_checker.specs.declared.fault.ProgramFault.{ProgramFault}
use Rattle.cilk_checker.specs.declared.fault.ProgramFault.TheVariants.{Memory, Text, Name}

-- the meaning of a program, and the names of its global reducers in order of declaration
pub record Meant : Type 0 where
  pub source : Source
  pub names : List (List ℕ)

abbrev pub meant : Program → Meant
meant p = record { source = source p; names = map (λ r. r.name) p.reducers.items }

-- the names of a tree resolve to this program
abbrev pub ResolvesTo : Tree → Meant → Type 0
ResolvesTo t m = Resolves t m.source × (m.names ≡ map (λ r. r.name) (shared_of t))

-- the text spells a tree that resolves to this program
abbrev pub IsProgramText : List ℕ → Meant → Type 0
IsProgramText text m = (t : Tree) × IsText text t × ResolvesTo t m

-- the first fault of a text that spells no tree, or memory ran out
abbrev pub IsSpellingFault : ProgramFault → List ℕ → Type 0
IsSpellingFault Memory text = Unit {0}
IsSpellingFault (Text n place) text = IsTextFault (text_faults.At n place) text
IsSpellingFault (Name n place) text = ⊥

-- the first fault of a tree whose names don't resolve, or memory ran out
abbrev pub AreNamesAtFault : ProgramFault → Tree → Type 0
AreNamesAtFault Memory t = Unit {0}
AreNamesAtFault (Text n place) t = ⊥
AreNamesAtFault (Name n place) t = IsNameFault (name_faults.At n place) t

-- The first fault of a program text: of its spelling or, if that is right, of its names. Or memory
-- ran out.
abbrev pub IsProgramFault : ProgramFault → List ℕ → Type 0
IsProgramFault Memory text = Unit {0}
IsProgramFault (Text n place) text = IsTextFault (text_faults.At n place) text
IsProgramFault (Name n place) text = (t : Tree) × IsText text t × IsNameFault (name_faults.At n place) t
