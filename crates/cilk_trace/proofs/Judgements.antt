-- The judgement of a trace, line by line: `judging_first`, `judging_next`; the verdict at the end: `race_judged` and `views_judged`.
use Rattle.std.proofs.Common.{◌≡◌, ℕ, ◌+◌, ◌-◌, ◌<◌, ◌≤◌, ◌^◌, List, [], ◌∷◌, ◌++◌, length, true, sym, ◌∙◌, subst, arith, append_assoc, append-nil, length-append, Option, Some, None, slice_get, inl, inr}
use Rattle.std.proofs.lemmas.Bool.{cases_lt}
use Rattle.std.proofs.lemmas.Option.{slice_get_past}
use Rattle.cilk_tree.specs.Shape.{Shape, SpellsMarks}
use Rattle.cilk_tree.specs.Tree.{Tree, tree}
use Rattle.cilk_trace.specs.declared.line.Line.{Line}
use Rattle.cilk_trace.specs.declared.line.Line.TheVariants as lines
use Rattle.cilk_trace.specs.declared.judge.Judge.{Judge}
use Rattle.cilk_trace.specs.declared.judge.Race.{Race}
use Rattle.cilk_trace.specs.declared.judge.Verdict.{Verdict}
use Rattle.cilk_trace.specs.declared.judge.Verdict.TheVariants as verdicts
use Rattle.cilk_trace.specs.declared.pass.Pass.{Pass}
use Rattle.cilk_trace.specs.declared.survey.Survey.{Survey}
use Rattle.cilk_trace.specs.declared.views.ViewRace.{ViewRace}
use Rattle.cilk_trace.specs.Frames.{Nests}
use Rattle.cilk_trace.specs.Marks.{marks_of}
use Rattle.cilk_trace.specs.Accesses.{AccessesCell, WritesCell, IsTraceRace, IsFirstTraceRace, HasNoTraceRace}
use Rattle.cilk_trace.specs.Reducers.{ReadsView, HasNoTraceViewRace}
use Rattle.cilk_trace.specs.Pages.{positions_of}
use Rattle.cilk_trace.specs.Passes.{IsBefore}
use Rattle.cilk_trace.specs.Unseen.{unseen_by, unseen_in}
use Rattle.cilk_trace.specs.Surveys.{IsSurvey, IsViewing}
use Rattle.cilk_trace.specs.Views.{view_race}
use Rattle.cilk_trace.specs.Judging.{Says, IsJudged, StandsAt, IsJudging, IsAccessed}
use Rattle.cilk_trace.proofs.Keeping.{keep_marks}
use Rattle.cilk_trace.proofs.Shapes.{have_shapes}

abbrev pub Before : Shape → List Line → List Line → Pass → Type 0
Before s done more p = IsBefore s done more p.intervals (positions_of p.histories.pages.items)

-- ---- one line more

unseen_more : (ls : List Line) (l : Line) → unseen_in (ls ++ l ∷ []) ≡ unseen_in ls + unseen_by l
unseen_more [] l = omega arith
unseen_more (k ∷ ls) l = let h = unseen_more ls l in omega (arith, h)

unseen_one : (l : Line) → unseen_by l ≤ 1
unseen_one (lines.Unseen s) = omega arith
unseen_one _ = omega arith

unseen_few : (ls : List Line) → unseen_in ls ≤ length ls
unseen_few [] = omega arith
unseen_few (l ∷ ls) = let h = unseen_few ls in let n = unseen_one l in omega (arith, h, n)

pub judging_first : (j : Judge) → IsSurvey [] j.survey → j.unseen ≡ 0 → j.race ≡ None → ((s : Shape) (more : List Line) → Nests 0 more → SpellsMarks s (marks_of more) → Before s [] more j.pass)
    → IsJudging [] j
judging_first j survey unseen none pass = record {
  survey = survey;
  unseen = unseen;
  stands = λ s more nests sp. record { pass = λ h. pass s more nests sp; race = λ r h. (let c : None ≡ Some r = sym none ∙ h in absurd (cc c)) };
}

stands_still : (s : Shape) (done more : List Line) (old mid : Judge) → mid.race ≡ old.race → mid.pass ≡ old.pass → StandsAt s done more old → StandsAt s done more mid
stands_still s done more old mid race pass st = record {
  pass = λ h. subst (Before s done more) (sym pass) (st.pass (sym race ∙ h));
  race = λ r h. st.race r (sym race ∙ h);
}

pub judging_next : (done : List Line) (l : Line) (old mid new : Judge) → IsJudging done old → IsSurvey (done ++ l ∷ []) mid.survey → mid.race ≡ old.race → mid.pass ≡ old.pass
    → (old.unseen + unseen_by l < 2 ^ 32 → mid.unseen ≡ old.unseen + unseen_by l) → IsAccessed mid new l → IsJudging (done ++ l ∷ []) new
judging_next done l old mid new j survey race pass unseen a =
    let n = unseen_more done l in
    let few = unseen_few (done ++ l ∷ []) in
    let bound = survey.limits.few in
    let before = j.unseen in
    let here = unseen (omega (arith, n, few, bound, before)) in
    let same = a.unseen in
    let count = survey.count in
    let size = length-append done (l ∷ []) in
    record {
      survey = subst (IsSurvey (done ++ l ∷ [])) (sym a.survey) survey;
      unseen = omega (arith, n, before, here, same);
      stands = λ s more nests sp.
          let e : (done ++ l ∷ []) ++ more ≡ done ++ l ∷ more = append_assoc done (l ∷ []) more in
          a.stands s done more (omega (arith, count, size))
          (stands_still s done (l ∷ more) old mid race pass (j.stands s (l ∷ more) (subst (Nests 0) e nests) (subst (λ (x : List Line). SpellsMarks s (marks_of x)) e sp)));
    }

-- ---- the pass

-- ---- the end

no_races : (t : Tree) (ls : List Line) → ((p q : ℕ) → q ≤ length ls → IsTraceRace t ls p q → ⊥) → HasNoTraceRace t ls
no_races t ls clean p q r = elim (cases_lt (length ls) q) [
  | inl m ↦ (let none : slice_get ls (q - 1) ≡ None = slice_get_past ls (q - 1) (omega (arith, m)) in
      elim r.clash [
        | inl w ↦ subst (λ (o : Option Line). AccessesCell o r.cell.cell) none w.1.0
        | inr w ↦ subst (λ (o : Option Line). WritesCell o r.cell.cell) none w.1.0
      ])
  | inr m ↦ clean p q m r
]

no_view_races : (s : Shape) (ls : List Line) (v : Survey) → IsViewing s ls (length ls) v → view_race (tree s) v.reads.items ≡ None → HasNoTraceViewRace (tree s) ls
no_view_races s ls v w none p q r = elim (cases_lt (length ls) q) [
  | inl m ↦ (let past : slice_get ls (q - 1) ≡ None = slice_get_past ls (q - 1) (omega (arith, m)) in
      subst (λ (o : Option Line). ReadsView o r.instance.reducer) past r.other.0)
  | inr m ↦ w.viewing.clean none p q m r
]

-- where a judgement stands at the end
record AtEnd (s : Shape) (done : List Line) (j : Judge) : Type 0 where
  race : (r : Race) → j.race ≡ Some r → IsFirstTraceRace (tree s) done r.earlier r.later
  free : j.race ≡ None → HasNoTraceRace (tree s) done
  views : IsViewing s done (length done) j.survey

at_end : (done : List Line) (j : Judge) → IsJudging done j → (s : Shape) → Nests 0 done → SpellsMarks s (marks_of done) → AtEnd s done j
at_end done j g s nests sp =
    let e : done ++ [] ≡ done = append-nil done in
    let all = subst (λ (x : List Line). SpellsMarks s (marks_of x)) (sym e) sp in
    let st = g.stands s [] (subst (Nests 0) (sym e) nests) all in
    record {
      race = λ r h. subst (λ (x : List Line). IsFirstTraceRace (tree s) x r.earlier r.later) e (st.race r h);
      free = λ h. no_races (tree s) done (λ p q m r. (st.pass h).standing.clean p q m (subst (λ (x : List Line). IsTraceRace (tree s) x p q) (sym e) r));
      views = subst (λ (x : List Line). IsViewing s x (length done) j.survey) e (g.survey.views s [] all);
    }

judged : (done : List Line) (j : Judge) (v : Verdict) → IsJudging done j → j.survey.structure.ended ≡ true
    → ((s : Shape) → SpellsMarks s (marks_of done) → AtEnd s done j → Says (tree s) done v) → IsJudged done v
judged done j v g ended says =
    let m = keep_marks done j.survey.structure g.survey.structure ended in
    let s = have_shapes done m.0 in
    record {
      trace = record { nests = m.0; reducers = g.survey.reducers };
      shape = s.0;
      spells = s.1;
      says = says s.0 s.1 (at_end done j g s.0 m.0 s.1);
    }

pub race_judged : (done : List Line) (j : Judge) (r : Race) → IsJudging done j → j.survey.structure.ended ≡ true → j.race ≡ Some r → IsJudged done (verdicts.Race r.earlier r.later)
race_judged done j r g ended is = judged done j (verdicts.Race r.earlier r.later) g ended (λ s sp a. a.race r is)

-- the verdict, where no accesses race, by the first view-read race
abbrev pub verdict_by : ℕ → Option ViewRace → Verdict
verdict_by unseen None = verdicts.RaceFree unseen
verdict_by unseen (Some v) = verdicts.ViewRace v.earlier v.later

says_by : (s : Shape) (done : List Line) (j : Judge) (o : Option ViewRace) → IsJudging done j → j.race ≡ None → AtEnd s done j → o ≡ view_race (tree s) j.survey.reads.items
    → Says (tree s) done (verdict_by j.unseen o)
says_by s done j None g none a e = (a.free none, no_view_races s done j.survey a.views (sym e), g.unseen)
says_by s done j (Some v) g none a e = (a.free none, a.views.viewing.race v (sym e))

pub views_judged : (done : List Line) (j : Judge) (o : Option ViewRace) → IsJudging done j → j.survey.structure.ended ≡ true → j.race ≡ None
    → ((ls : List Line) → IsSurvey ls j.survey → j.survey.structure.ended ≡ true → (s : Shape) → SpellsMarks s (marks_of ls) → o ≡ view_race (tree s) j.survey.reads.items)
    → IsJudged done (verdict_by j.unseen o)
views_judged done j o g ended none told =
    judged done j (verdict_by j.unseen o) g ended (λ s sp a. says_by s done j o g none a (told done g.survey ended s sp))
