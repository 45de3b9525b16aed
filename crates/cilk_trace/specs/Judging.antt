-- What a trace's judgement says, and its state.
use Rattle.std.specs.Prelude.{◌≡◌, suc, List, ◌++◌, ◌∷◌, [], length, Some, None}
use Rattle.cilk_tree.specs.Shape.{Shape, SpellsMarks}
use Rattle.cilk_tree.specs.Tree.{Tree, tree}
use Rattle.cilk_trace.specs.declared.line.Line.{Line}
use Rattle.cilk_trace.specs.declared.judge.Race.{Race}
use Rattle.cilk_trace.specs.declared.judge.Judge.{Judge}
use Rattle.cilk_trace.specs.declared.judge.Verdict.{Verdict}
use Rattle.cilk_trace.specs.declared.judge.Verdict.TheVariants as verdicts
use Rattle.cilk_trace.specs.Frames.{Nests}
use Rattle.cilk_trace.specs.Marks.{marks_of}
use Rattle.cilk_trace.specs.Accesses.{IsFirstTraceRace, HasNoTraceRace}
use Rattle.cilk_trace.specs.Reducers.{IsFirstTraceViewRace, HasNoTraceViewRace}
use Rattle.cilk_trace.specs.Pages.{positions_of}
use Rattle.cilk_trace.specs.Passes.{IsBefore}
use Rattle.cilk_trace.specs.Unseen.{unseen_in}
use Rattle.cilk_trace.specs.Surveys.{IsSurvey, IsTrace}

-- No two lines race, no two have a view-read race, and this many lines are `unseen`; or this is the first race; or no two lines race, and
-- this is the first view-read race.
abbrev pub Says : Tree → List Line → Verdict → Type 0
Says t ls (verdicts.RaceFree n) = HasNoTraceRace t ls × HasNoTraceViewRace t ls × (n ≡ unseen_in ls)
Says t ls (verdicts.Race p q) = IsFirstTraceRace t ls p q
Says t ls (verdicts.ViewRace p q) = HasNoTraceRace t ls × IsFirstTraceViewRace t ls p q

-- the lines are a trace's, and this is its verdict
pub record IsJudged (ls : List Line) (v : Verdict) : Type 0 where
  pub trace : IsTrace ls
  pub shape : Shape
  pub spells : SpellsMarks shape (marks_of ls)
  pub says : Says (tree shape) ls v

-- The pass has taken these lines and met no race of a trace of this shape that begins with them; or this is the first one.
pub record StandsAt (s : Shape) (done more : List Line) (j : Judge) : Type 0 where
  pub pass : j.race ≡ None → IsBefore s done more j.pass.intervals (positions_of j.pass.histories.pages.items)
  pub race : (r : Race) → j.race ≡ Some r → IsFirstTraceRace (tree s) (done ++ more) r.earlier r.later

-- the judgement has taken these lines
pub record IsJudging (done : List Line) (j : Judge) : Type 0 where
  pub survey : IsSurvey done j.survey
  pub unseen : j.unseen ≡ unseen_in done
  pub stands : (s : Shape) (more : List Line) → Nests 0 (done ++ more) → SpellsMarks s (marks_of (done ++ more)) → StandsAt s done more j

-- what a line does to the pass of a judgement whose survey has taken it
pub record IsAccessed (old new : Judge) (l : Line) : Type 0 where
  pub survey : new.survey ≡ old.survey
  pub unseen : new.unseen ≡ old.unseen
  pub stands : (s : Shape) (done more : List Line) → old.survey.count ≡ suc (length done) → StandsAt s done (l ∷ more) old → StandsAt s (done ++ l ∷ []) more new
