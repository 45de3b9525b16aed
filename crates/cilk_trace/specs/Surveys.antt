-- The survey of a trace's lines.
use Rattle.std.specs.Prelude.{◌≡◌, ℕ, ◌<◌, ◌≤◌, ◌^◌, List, ◌++◌, length, Some}
use Rattle.cilk_tree.specs.Shape.{Shape, SpellsMarks}
use Rattle.cilk_tree.specs.Tree.{tree}
use Rattle.cilk_trace.specs.declared.line.Line.{Line}
use Rattle.cilk_trace.specs.declared.survey.Survey.{Survey}
use Rattle.cilk_trace.specs.Frames.{Nests}
use Rattle.cilk_trace.specs.Marks.{marks_of}
use Rattle.cilk_trace.specs.Structures.{opening, noted}
use Rattle.cilk_trace.specs.Reducers.{is_alive, KeepsReducers}
use Rattle.cilk_trace.specs.Births.{birth_of, alive_in}
use Rattle.cilk_trace.specs.Views.{AreStrands, Viewing, view_race}

-- The lines are those of a whole trace: their frames nest up to the root's end, and their reducers are used while they are alive.
pub record IsTrace (ls : List Line) : Type 0 where
  pub nests : Nests 0 ls
  pub reducers : KeepsReducers ls

-- The lines keep the limits of traces: there are fewer than 2^32, and they have at most 2^30 marks.
pub record KeepsLimits (ls : List Line) : Type 0 where
  pub few : length ls < 2 ^ 32
  pub marks : length (marks_of ls) ≤ 2 ^ 30

-- what the survey notes of reducers' views, in a trace of this shape that begins with n lines
pub record IsViewing (s : Shape) (ls : List Line) (n : ℕ) (v : Survey) : Type 0 where
  pub viewing : Viewing (tree s) ls n v.strand (birth_of v.births) (view_race (tree s) v.reads.items)
  pub strands : AreStrands ls v.reads.items

-- the survey of these first lines of a trace
pub record IsSurvey (ls : List Line) (v : Survey) : Type 0 where
  pub structure : noted ls opening ≡ Some v.structure
  pub alive : (r : ℕ) → alive_in v.births r ≡ is_alive ls (length ls) r
  pub reducers : KeepsReducers ls
  pub count : length ls ≡ v.count
  pub limits : KeepsLimits ls
  pub views : (s : Shape) (more : List Line) → SpellsMarks s (marks_of (ls ++ more)) → IsViewing s (ls ++ more) (length ls) v
