-- Runs of a program along one plan begin the same frames: `same_frames`, `table_along`.
use Rattle.std.proofs.Common.{◌≡◌, ℕ, zero, suc, ℤ, Bool, true, false, ◌&&◌, List, [], ◌∷◌, ◌++◌, Option, Some, None, refl, sym, ap, ◌∙◌, subst, eqb-true}
use Rattle.cilk_program.specs.declared.ask.Callee.{Callee}
use Rattle.cilk_program.specs.declared.ask.Callee.TheVariants as callees
use Rattle.cilk_program.specs.declared.program.Body.{Body}
use Rattle.cilk_program.specs.declared.program.Body.TheVariants.{Function, Loop}
use Rattle.cilk_program.specs.Inside.{body_of}
use Rattle.cilk_program.specs.SerialRun.{Transcript}
use Rattle.cilk_program.specs.SerialRun as serial
use Rattle.cilk_program.specs.Syntax.{Source}
use Rattle.cilk_program.specs.Numbering.{Counts, Block, unbegun, entered, counts_after, block_of, child_at}
use Rattle.cilk_determinacy.specs.Machine.{put}
use Rattle.cilk_determinacy.specs.Monoids.{on_view, unit_of}
use Rattle.cilk_determinacy.specs.Runs.{Cell, Instance, Deed, Does, Invokes, Run, same_name}
use Rattle.cilk_determinacy.specs.Runs as runs
use Rattle.cilk_determinacy.specs.Serial.{value_after}
use Rattle.cilk_determinacy.specs.Views.{view_after}
use Rattle.cilk_determinacy.specs.FrameEnvMachine.{next, opening_values}
use Rattle.cilk_determinacy.specs.Reducers.{View, monoid_of}
use Rattle.cilk_determinacy.specs.FrameEnvs.{FrameEnv, first_env, child_env}
use Rattle.cilk_determinacy.specs.Nested.{named, named_from}
use Rattle.cilk_determinacy.specs.Numbers.{child_runs}
use Rattle.cilk_replay.specs.InputCourses.{Course, stop, act, child, run_of, IsCourse}
use Rattle.cilk_replay.specs.Frames.{same_body, same_frame, course_on, ProgramsHaveOneCourse}
use Rattle.cilk_shared.specs.declared.reducers.Reducers.{Reducers}
use Rattle.cilk_shared.specs.Reducers.{own}
use Rattle.cilk_threads.specs.Accepted.{reducers_in}
use Rattle.cilk_threads.specs.Tables.{reducers_of, AreReducersOf}
use Rattle.cilk_threads.proofs.Opened.{StartsNoRoot}

-- ---- by names
and_right : (x y : Bool) → (x && y) ≡ true → y ≡ true
and_right true y h = h
and_right false y h = absurd (cc h)

one_body : (b c : Body) → same_body b c ≡ true → b ≡ c
one_body (Function n) (Function m) h = ap Function (eqb-true n m h)
one_body (Function n) (Loop m) h = absurd (cc h)
one_body (Loop n) (Function m) h = absurd (cc h)
one_body (Loop n) (Loop m) h = ap Loop (eqb-true n m h)

-- two runs whose frames begin frames of the same bodies, one after the other
abbrev Alike : Source → Run FrameEnv → Run FrameEnv → Type 0
Alike p runs.stop runs.stop = Unit {0}
Alike p (runs.act e r) (runs.act e' r') = Alike p r r'
Alike p (runs.child k w u r) (runs.child k' w' u' r') = (body_of p w.callee ≡ body_of p w'.callee) × Alike p u u' × Alike p r r'
Alike p _ _ = ⊥

course_alike : (p : Source) (inputs : List ℤ) (w : FrameEnv) (past : List (Deed FrameEnv)) (memory : Cell → ℤ) (views : Instance → View) (t : Run FrameEnv) (c : Course FrameEnv)
    → IsCourse FrameEnv View monoid_of (next p inputs) (same_frame p) w past memory views t c → Alike p t (run_of c)
course_alike p inputs w past memory views runs.stop stop h = tt
course_alike p inputs w past memory views (runs.act e r) (act b e' r') h =
    course_alike p inputs w (past ++ Does e' ∷ []) (λ x. put e' x (memory x)) (λ i. on_view (monoid_of i) i e' (views i)) r r' h.1
course_alike p inputs w past memory views (runs.child k v u r) (child b k' v' u' r') h = (
  one_body (body_of p v.callee) (body_of p v'.callee) (and_right (same_name v.name v'.name) (same_body (body_of p v.callee) (body_of p v'.callee)) h.0.fits),
  course_alike p inputs v' [] memory views u u' h.1,
  course_alike p inputs w (past ++ Invokes k' v' ∷ []) (λ x. value_after (run_of u') x (memory x)) (λ i. view_after (monoid_of i) i (run_of u') (views i)) r r' h.2,
)
course_alike p inputs w past memory views t c h = absurd h

-- ---- by numbers

-- the same of runs by numbers
abbrev pub SameFrames : Source → Transcript → Transcript → Type 0
SameFrames p serial.stop serial.stop = Unit {0}
SameFrames p (serial.act a v r) (serial.act a' v' r') = SameFrames p r r'
SameFrames p (serial.child how c u r) (serial.child how' c' u' r') = (body_of p c ≡ body_of p c') × SameFrames p u u' × SameFrames p r r'
SameFrames p _ _ = ⊥

from_names : (p : Source) (w w' : FrameEnv) (k : ℕ) (r r' : Transcript) → Alike p (named_from p w k r) (named_from p w' k r') → SameFrames p r r'
from_names p w w' k serial.stop serial.stop h = tt
from_names p w w' k (serial.act a v r) (serial.act a' v' r') h = from_names p w w' k r r' h
from_names p w w' k (serial.child how c u r) (serial.child how' c' u' r') h =
    (h.0, from_names p (child_env p w k c) (child_env p w' k c') 1 u u' h.1, from_names p w w' (suc k) r r' h.2)
from_names p w w' k r r' h = absurd h

-- a run that is the course of another's plan begins the same frames
pub same_frames : ProgramsHaveOneCourse → (p : Source) (inputs : List ℤ) (r r' : Transcript) → named p r' ≡ run_of (course_on p inputs (named p r)) → SameFrames p r r'
same_frames law p inputs r r' is =
    from_names p (first_env p) (first_env p) 1 r r'
    (subst (Alike p (named p r)) (sym is)
    (course_alike p inputs (first_env p) [] (opening_values p inputs) (unit_of monoid_of) (named p r) (course_on p inputs (named p r)) (law p inputs (named p r)).0))

same_count : (p : Source) (r r' : Transcript) (n n' : Counts) → SameFrames p r r' → n.frames ≡ n'.frames → (let m = counts_after p r n in m.frames) ≡ (let m = counts_after p r' n' in m.frames)
same_count p serial.stop serial.stop n n' h e = e
same_count p (serial.act a v r) (serial.act a' v' r') n n' h e = same_count p r r' n n' h e
same_count p (serial.child how c u r) (serial.child how' c' u' r') n n' h e =
    same_count p r r' (counts_after p u (entered p c n)) (counts_after p u' (entered p c' n')) h.2 (same_count p u u' (entered p c n) (entered p c' n') h.1 (ap suc e))
same_count p r r' n n' h e = absurd h

same_block : (b c : Block) → Some b ≡ Some c → b ≡ c
same_block b c h = cc h

same_callee : (b c : Callee) → Some b ≡ Some c → b ≡ c
same_callee b c h = cc h

-- a frame of this number and body is found
record HasLike (p : Source) (found : Option Block) (ran : Option Callee) (number : ℕ) (body : Body) : Type 0 where
  pub block : Block
  pub callee : Callee
  pub is : found ≡ Some block
  pub runs : ran ≡ Some callee
  pub number_is : block.number ≡ number
  pub body_is : body_of p callee ≡ body

like_child : (p : Source) (r r' : Transcript) (n n' : Counts) → SameFrames p r r' → n.frames ≡ n'.frames → (k : ℕ) (path : List ℕ) (b : Block) (c : Callee)
    → child_at p r' n' k path ≡ Some b → child_runs r' k path ≡ Some c → HasLike p (child_at p r n k path) (child_runs r k path) b.number (body_of p c)
like_child p serial.stop serial.stop n n' h e k path b c found ran = let z : None ≡ Some b = found in absurd (cc z)
like_child p (serial.act a v r) (serial.act a' v' r') n n' h e k path b c found ran = like_child p r r' n n' h e k path b c found ran
like_child p (serial.child how x u r) (serial.child how' x' u' r') n n' h e zero [] b c found ran = record {
  block = block_of p x n;
  callee = x;
  is = refl;
  runs = refl;
  number_is = ap suc e ∙ ap (λ (z : Block). z.number) (same_block (block_of p x' n') b found);
  body_is = h.0 ∙ ap (body_of p) (same_callee x' c ran);
}
like_child p (serial.child how x u r) (serial.child how' x' u' r') n n' h e zero (j ∷ path) b c found ran =
    like_child p u u' (entered p x n) (entered p x' n') h.1 (ap suc e) j path b c found ran
like_child p (serial.child how x u r) (serial.child how' x' u' r') n n' h e (suc k) path b c found ran =
    like_child p r r' (counts_after p u (entered p x n)) (counts_after p u' (entered p x' n')) h.2 (same_count p u u' (entered p x n) (entered p x' n') h.1 (ap suc e)) k path b c found ran
like_child p r r' n n' h e k path b c found ran = absurd h

-- ---- the table
in_body : (p : Source) (callee : Callee) → (callee ≡ callees.Root → ⊥) → reducers_in p (body_of p callee) ≡ reducers_of p callee
in_body p callees.Root h = absurd (h refl)
in_body p (callees.Function c) h = refl
in_body p (callees.Loop l) h = refl

no_root_at : (r : Transcript) → StartsNoRoot r → (k : ℕ) (path : List ℕ) (c : Callee) → child_runs r k path ≡ Some c → c ≡ callees.Root → ⊥
no_root_at serial.stop h k path c ran is = let z : None ≡ Some c = ran in absurd (cc z)
no_root_at (serial.act a v r) h k path c ran is = no_root_at r h k path c ran is
no_root_at (serial.child how x u r) h zero [] c ran is = h.0 (same_callee x c ran ∙ is)
no_root_at (serial.child how x u r) h zero (j ∷ path) c ran is = no_root_at u h.1 j path c ran is
no_root_at (serial.child how x u r) h (suc k) path c ran is = no_root_at r h.2 k path c ran is

-- a table of the one run's reducers is of the other's
pub table_along : (p : Source) (run run' : Transcript) (r : Reducers) → SameFrames p run run' → StartsNoRoot run → StartsNoRoot run' → AreReducersOf p run r → AreReducersOf p run' r
table_along p run run' r same rootless rootless' table [] block callee found ran = table [] block callee found ran
table_along p run run' r same rootless rootless' table (k ∷ path) block callee found ran =
    let n = entered p callees.Root (unbegun p) in
    let x = like_child p run run' n n same refl k path block callee found ran in
    ap (own r) (sym x.number_is) ∙ table (k ∷ path) x.block x.callee x.is x.runs
    ∙ sym (in_body p x.callee (no_root_at run rootless k path x.callee x.runs)) ∙ ap (reducers_in p) x.body_is ∙ in_body p callee (no_root_at run' rootless' k path callee ran)
