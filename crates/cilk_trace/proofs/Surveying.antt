-- The survey of a trace, line by line: `survey_next`, and `misplaced` where a reducer's line may not come; `race_of_views`: its first view-read
-- race at the end.
use Rattle.std.proofs.Common.{◌≡◌, ℕ, suc, ◌+◌, ◌<◌, ◌≤◌, ◌^◌, List, [], ◌∷◌, ◌++◌, length, Bool, Option, Some, true, false, sym, ◌∙◌, ap, subst, arith, append_assoc, append-nil, length-append}
use Rattle.std.proofs.lemmas.Option.{slice_get_within}
use Rattle.cilk_tree.specs.Shape.{Shape, SpellsMarks}
use Rattle.cilk_tree.specs.Tree.{Tree, tree, preorder}
use Rattle.cilk_tree.specs.declared.mark.Mark.{Mark}
use Rattle.cilk_tree.specs.declared.tree.Node.{Node}
use Rattle.cilk_peers.specs.Peers.{class_numbers}
use Rattle.cilk_trace.specs.declared.line.Line.{Line}
use Rattle.cilk_trace.specs.declared.births.Birth.{Birth}
use Rattle.cilk_trace.specs.declared.survey.Survey.{Survey}
use Rattle.cilk_trace.specs.declared.views.ViewRace.{ViewRace}
use Rattle.cilk_trace.specs.Accesses.{begun_in, strand_of}
use Rattle.cilk_trace.specs.Marks.{marks_of}
use Rattle.cilk_trace.specs.Structures.{marks_in, opening, noting}
use Rattle.cilk_trace.specs.Reducers.{Suits, is_alive, KeepsReducers}
use Rattle.cilk_trace.specs.Births.{birth_of, alive_in, kept_of, set_at}
use Rattle.cilk_trace.specs.Surveys.{IsTrace, IsSurvey, IsViewing, KeepsLimits}
use Rattle.cilk_trace.specs.Views.{AreHeld, AreStrands, reads_by, view_race, view_race_by}
use Rattle.cilk_trace.proofs.Appended.{get_last, each_of, alive_front, noted_more}
use Rattle.cilk_trace.proofs.Counting.{limits_next}
use Rattle.cilk_trace.proofs.Keeping.{keep_marks}
use Rattle.cilk_trace.proofs.ReducerReads.{alive_after, set_strand, suits_along, viewing_read}
use Rattle.cilk_trace.proofs.Strands.{strand_front, strand_next, strands_few}
use Rattle.cilk_trace.proofs.ViewReads.{race_stays, race_clean, race_new, same_race, strands_held, strands_next}

reducers_next : (ls : List Line) (l : Line) (alive : ℕ → Bool) → KeepsReducers ls → ((r : ℕ) → alive r ≡ is_alive ls (length ls) r) → Suits l alive → KeepsReducers (ls ++ l ∷ [])
reducers_next ls l alive h e suits =
    each_of (λ i x. Suits x (is_alive (ls ++ l ∷ []) i)) ls l
    (λ i x at. let w = slice_get_within ls i x at in
    suits_along x (is_alive ls i) (is_alive (ls ++ l ∷ []) i) (λ r. sym (alive_front ls (l ∷ []) r i false (omega (arith, w)))) (h i x at))
    (suits_along l alive (is_alive (ls ++ l ∷ []) (length ls)) (λ r. e r ∙ sym (alive_front ls (l ∷ []) r (length ls) false (omega arith))) suits)

-- what a line does to a survey
pub record IsTaken (old new : Survey) (l : Line) (here : Birth) : Type 0 where
  pub here_is : here ≡ record { strand = old.strand; at = old.count + 1 }
  pub suits : Suits l (alive_in old.births)
  pub kept : (r : ℕ) → birth_of new.births r ≡ kept_of l r here (birth_of old.births r)
  pub reads : new.reads.items ≡ old.reads.items ++ reads_by (set_at l here (birth_of old.births)) here
  pub strand : old.strand + begun_in l < 2 ^ 32 → new.strand ≡ old.strand + begun_in l

views_next : (ls : List Line) (l : Line) (here : Birth) (old new : Survey) → IsSurvey ls old → IsTaken old new l here → KeepsLimits (ls ++ l ∷ [])
    → (s : Shape) (more : List Line) → SpellsMarks s (marks_of (ls ++ l ∷ more)) → IsViewing s (ls ++ l ∷ more) (suc (length ls)) new
views_next ls l here old new v a limits s more sp =
    let t : Tree = tree s in
    let all : List Line = ls ++ l ∷ more in
    let at = get_last ls l more in
    let o = v.views s (l ∷ more) sp in
    let set : Birth = set_at l here (birth_of old.births) in
    let hs = ap (λ (b : Birth). b.strand) a.here_is in
    let ha = ap (λ (b : Birth). b.at) a.here_is in
    let c = v.count in
    let here_at : here.at ≡ length ls + 1 = omega (arith, ha, c) in
    let here_strand : here.strand ≡ strand_of all (length ls) = hs ∙ o.viewing.here in
    let e : (ls ++ l ∷ []) ++ more ≡ all = append_assoc ls (l ∷ []) more in
    let n = length-append ls (l ∷ []) in
    let few = strands_few (ls ++ l ∷ []) (suc (length ls)) in
    let bound = limits.marks in
    let same = strand_front (ls ++ l ∷ []) more (suc (length ls)) (omega (arith, n)) in
    let whole = ap (λ (x : List Line). strand_of x (suc (length ls))) e in
    let next = strand_next all (length ls) l at in
    let before = o.viewing.here in
    let strand = a.strand (omega (arith, few, bound, same, whole, next, before)) in
    let races = ap (view_race t) a.reads in
    record {
      viewing = viewing_read s all sp (length ls) old.strand new.strand l here (birth_of old.births) (birth_of new.births) (view_race t old.reads.items) (view_race t new.reads.items) at
          here_at here_strand strand a.suits a.kept
          (λ r h. races ∙ race_stays t old.reads.items (reads_by set here) r h)
          (λ h. race_clean t old.reads.items set here (sym races ∙ h))
          (λ r h g. (let w = race_new t old.reads.items set here r h (sym races ∙ g) in
          (w.0, w.1 ∙ ap (λ (k : ℕ). let x : ViewRace = record { earlier = set.at; later = k } in x) here_at)))
          o.viewing;
      strands = subst (AreStrands all) (sym a.reads)
          (strands_next all old.reads.items set here o.strands (set_strand all l here (birth_of old.births) (length ls, here_strand) o.viewing.born) (length ls, here_strand));
    }

pub survey_next : (ls : List Line) (l : Line) (here : Birth) (old new : Survey) → IsSurvey ls old → IsTaken old new l here → noting l old.structure ≡ Some new.structure
    → new.count ≡ old.count + 1 → new.count < 2 ^ 32 → length old.structure.marks + marks_in l ≤ 1073741824 → IsSurvey (ls ++ l ∷ []) new
survey_next ls l here old new v taken noted_is count few short =
    let a = length-append ls (l ∷ []) in
    let c = v.count in
    let next : length (ls ++ l ∷ []) ≡ suc (length ls) = omega (arith, a) in
    let limits = limits_next ls l old.structure v.structure (omega (arith, c, count, few)) short in
    record {
      structure = noted_more ls l opening old.structure v.structure ∙ noted_is;
      alive = λ r.
          alive_after (ls ++ l ∷ []) (length ls) l here (birth_of old.births) (birth_of new.births) (get_last ls l []) taken.kept
          (λ q. v.alive q ∙ sym (alive_front ls (l ∷ []) q (length ls) false (omega arith))) r
          ∙ ap (λ (i : ℕ). is_alive (ls ++ l ∷ []) i r) (sym next);
      reducers = reducers_next ls l (alive_in old.births) v.reducers v.alive taken.suits;
      count = omega (arith, a, c, count);
      limits = limits;
      views = λ s more sp. (let e : (ls ++ l ∷ []) ++ more ≡ ls ++ l ∷ more = append_assoc ls (l ∷ []) more in
          subst (λ (x : List Line). IsViewing s x (length (ls ++ l ∷ [])) new) (sym e)
          (subst (λ (n : ℕ). IsViewing s (ls ++ l ∷ more) n new) (sym next)
          (views_next ls l here old new v taken limits s more (subst (λ (x : List Line). SpellsMarks s (marks_of x)) e sp))));
    }

-- where a reducer's line may not come, no trace continues with it
pub misplaced : (ls more : List Line) (l : Line) (v : Survey) → IsSurvey ls v → (Suits l (alive_in v.births) → ⊥) → IsTrace (ls ++ l ∷ more) → ⊥
misplaced ls more l v s n t =
    n (suits_along l (is_alive (ls ++ l ∷ more) (length ls)) (alive_in v.births)
    (λ r. alive_front ls (l ∷ more) r (length ls) false (omega arith) ∙ sym (s.alive r)) (t.reducers (length ls) l (get_last ls l more)))

-- the first view-read race of a whole trace, by the classes of its strands
pub race_of_views : (ls : List Line) (v : Survey) (marks : List Mark) (nodes : List Node) (classes : List ℕ) (o : Option ViewRace) → IsSurvey ls v → v.structure.ended ≡ true
    → marks ≡ v.structure.marks → ((s : Shape) → SpellsMarks s marks → nodes ≡ preorder (tree s)) → ((t : Tree) → nodes ≡ preorder t → classes ≡ class_numbers t 0 1)
    → (AreHeld (length classes) v.reads.items → o ≡ view_race_by classes v.reads.items) → (s : Shape) → SpellsMarks s (marks_of ls) → o ≡ view_race (tree s) v.reads.items
race_of_views ls v marks nodes classes o g ended same built numbered told s sp =
    let m = keep_marks ls v.structure g.structure ended in
    let is = numbered (tree s) (built s (same ∙ (m.1 ∙ sp))) in
    let e : ls ++ [] ≡ ls = append-nil ls in
    let views = subst (λ (x : List Line). IsViewing s x (length ls) v) e (g.views s [] (subst (λ (x : List Line). SpellsMarks s (marks_of x)) (sym e) sp)) in
    told (strands_held s ls (length classes) v.reads.items sp (ap (λ (cs : List ℕ). length cs) is) views.strands)
    ∙ (ap (λ (cs : List ℕ). view_race_by cs v.reads.items) is ∙ same_race (tree s) v.reads.items)
