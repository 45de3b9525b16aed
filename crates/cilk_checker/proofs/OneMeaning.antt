-- A program text means one program, or has one first fault, and not both.
--
-- `resolves_too`, `same_faults`: the program of a tree and the faults of its names follow from its
-- text and its program. `one_meant`, `one_fault_found`, `no_fault`: two meanings are one, two
-- faults are one, and not both. `one_meaning`: all three.
use Rattle.std.proofs.Common.{◌≡◌, ℕ, List, length, map, Some, refl, sym, ap, ◌∙◌, subst}
use Rattle.std.specs.Prelude.{◌≢◌}
use Rattle.cilk_syntax.specs.declared.tree.Tree.{Tree}
use Rattle.cilk_syntax.specs.Trees.{Item, program}
use Rattle.cilk_program.specs.Syntax.{Source}
use Rattle.cilk_names.specs.declared.kind.Misnaming.{Misnaming}
use Rattle.cilk_names.specs.declared.fault.NameFault.TheVariants as name_faults
use Rattle.cilk_names.specs.Globals.{start, behind_items, main_of}
use Rattle.cilk_names.specs.Misnamings.{IsFirst, IsNameFault, items_faults, or_no_main, faults_of}
use Rattle.cilk_names.specs.Resolution.{Resolves, ResolvesItems, shared_of}
use Rattle.cilk_names.proofs.OneFault.{one_fault, none_where_resolved}
use Rattle.cilk_names.proofs.Verdicts.{resolves_once}
use Rattle.cilk_parser.proofs.UniqueTexts.{one_answer}
use Rattle.cilk_checker.specs.Judging.{IsProgramFault, IsProgramText, Meant}
use Rattle.cilk_checker.specs.OneMeaning.{HasOneMeaning}
use Rattle.cilk_checker.specs.declared.fault.ProgramFault.{ProgramFault}
use Rattle.cilk_checker.specs.declared.fault.ProgramFault.TheVariants.{Memory, Text, Name}

moved : (P : List ℕ → List Item → Type 0) (x y : List ℕ) (i j : List Item) → x ≡ y → i ≡ j → P x i → P y j
moved P x y i j e q h = subst (P y) q (subst (λ z. P z i) e h)

-- the faults of the names of these items
abbrev faults_at : List ℕ → List Item → List Misnaming
faults_at text items = or_no_main (main_of text 0 items) (length text) (items_faults (start text items) items)

same_faults : (t u : Tree) → t.text.items ≡ u.text.items → program t ≡ program u → faults_of t ≡ faults_of u
same_faults t u e p = ap (λ x. faults_at x (program t)) e ∙ ap (faults_at u.text.items) p

same_shared : (t u : Tree) → t.text.items ≡ u.text.items → program t ≡ program u → shared_of t ≡ shared_of u
same_shared t u e p =
    ap (λ x. (let after = behind_items (start x (program t)) (program t) in after.shared)) e
    ∙ ap (λ i. (let after = behind_items (start u.text.items i) i in after.shared)) p

resolves_too : (t u : Tree) (s : Source) → t.text.items ≡ u.text.items → program t ≡ program u → Resolves t s
    → Resolves u s
resolves_too t u s e p h = record {
  right = sym (same_faults t u e p) ∙ h.right;
  openings = moved (λ x i. (let after = behind_items (start x i) i in s.openings ≡ after.openings))
      t.text.items u.text.items (program t) (program u) e p h.openings;
  reducers = moved (λ x i. (let after = behind_items (start x i) i in s.reducers ≡ map (λ r. r.kind) after.shared))
      t.text.items u.text.items (program t) (program u) e p h.reducers;
  functions = moved (λ x i. ResolvesItems (start x i) i s.functions s.loops)
      t.text.items u.text.items (program t) (program u) e p h.functions;
  main = moved (λ x i. main_of x 0 i ≡ Some s.main) t.text.items u.text.items (program t) (program u) e p h.main;
}

same_meant : (m n : Meant) → m.source ≡ n.source → m.names ≡ n.names → m ≡ n
same_meant m n p q =
    let x : m ≡ record { source = n.source; names = m.names } = ap (λ s. record { source = s; names = m.names }) p in
    let y : record { source = n.source; names = m.names } ≡ n = ap (λ s. record { source = n.source; names = s }) q in
    x ∙ y

pub one_meant : (text : List ℕ) (m n : Meant) → IsProgramText text m → IsProgramText text n → m ≡ n
one_meant text m n h k =
    let a = (one_answer text).programs h.0 k.0 h.1 k.1 in
    same_meant m n (resolves_once k.0 m.source n.source (resolves_too h.0 k.0 m.source a.1 a.0 h.2.0) k.2.0)
    (h.2.1 ∙ (ap (map (λ r. r.name)) (same_shared h.0 k.0 a.1 a.0) ∙ sym k.2.1))

-- two first faults of a text
one_fault_found : (text : List ℕ) (f g : ProgramFault) → f ≢ Memory → g ≢ Memory → IsProgramFault f text
    → IsProgramFault g text → f ≡ g
one_fault_found text Memory g v w h k = absurd (v refl)
one_fault_found text (Text n p) Memory v w h k = absurd (w refl)
one_fault_found text (Text n p) (Text m q) v w h k =
    let a = (one_answer text).faults n m p q h k in ap (λ x. Text x p) a.0 ∙ ap (λ x. Text m x) a.1
one_fault_found text (Text n p) (Name m q) v w h k = absurd ((one_answer text).apart k.0 n p k.1 h)
one_fault_found text (Name n p) Memory v w h k = absurd (w refl)
one_fault_found text (Name n p) (Text m q) v w h k = absurd ((one_answer text).apart h.0 m q h.1 k)
one_fault_found text (Name n p) (Name m q) v w h k =
    let a = (one_answer text).programs h.0 k.0 h.1 k.1 in
    let first : Misnaming = record { number = n; place = p } in
    let h' : IsNameFault (name_faults.At n p) k.0 = subst (IsFirst first) (same_faults h.0 k.0 a.1 a.0) h.2 in
    let b = one_fault k.0 n m p q h' k.2 in
    ap (λ x. Name x p) b.0 ∙ ap (λ x. Name m x) b.1

-- a text that means a program has no fault
no_fault : (text : List ℕ) (m : Meant) (f : ProgramFault) → f ≢ Memory → IsProgramText text m
    → IsProgramFault f text → ⊥
no_fault text m Memory v h k = v refl
no_fault text m (Text n p) v h k = (one_answer text).apart h.0 n p h.1 k
no_fault text m (Name n p) v h k =
    let a = (one_answer text).programs h.0 k.0 h.1 k.1 in
    none_where_resolved k.0 m.source n p (resolves_too h.0 k.0 m.source a.1 a.0 h.2.0) k.2

pub one_meaning : (text : List ℕ) → HasOneMeaning text
one_meaning text = record {
  meanings = λ m n h k. one_meant text m n h k;
  faults = λ f g v w h k. one_fault_found text f g v w h k;
  apart = λ m f v h k. no_fault text m f v h k;
}
