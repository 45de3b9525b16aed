-- A frame begins, and continues after a child.
--
-- - `strands_begin`, `strands_resume`: another strand;
-- - `begins`, `resumes`: the laws.
use Rattle.std.proofs.Common.{◌≡◌, ◌+◌, ◌<◌, suc, Bool, true, false, cond, ℤ, List, [], ◌∷◌, ◌++◌, refl, sym, ap, ◌∙◌, subst, arith}
use Rattle.cilk_types.specs.declared.event.Event.TheVariants as events
use Rattle.cilk_program.specs.declared.ask.Ask.TheVariants as asks
use Rattle.cilk_program.specs.Syntax.{Source}
use Rattle.cilk_lower.specs.Code.{CodeView}
use Rattle.cilk_frames.specs.declared.cursor.Answer.TheVariants.{Done}
use Rattle.cilk_hypermap.specs.Hypermap.{value_in}
use Rattle.cilk_determinacy.specs.Machine.{started, strands}
use Rattle.cilk_determinacy.specs.Monoids.{unit_of}
use Rattle.cilk_determinacy.specs.Runs.{Reducer, Reads, Writes, Syncs, Ends, Passes, Begins, Resumes, Creates, Updates, Sets, Values, Prints, Deed, Does, Invokes}
use Rattle.cilk_determinacy.specs.Reducers.{View, kind_of, monoid_of}
use Rattle.cilk_determinacy.specs.FrameEnvViews.{IsViewOf}
use Rattle.cilk_determinacy.specs.FrameEnvs.{FrameEnv}
use Rattle.cilk_scheduler.specs.Schedulers.{carried, is_resuming}
use Rattle.cilk_scheduler.specs.FrameStates.{stranded}
use Rattle.cilk_scheduler.specs.Steps.{BeginsAreShown, ResumesAreShown}
use Rattle.cilk_scheduler.proofs.Carried.{plain}
use Rattle.cilk_scheduler.proofs.Ready.{in_turn}
use Rattle.cilk_scheduler.proofs.Stepped.{carries, bare_now, strands_now, low, done}

pub strands_begin : (ds : List (Deed FrameEnv)) → strands (ds ++ Does (Passes Begins) ∷ []) ≡ strands ds + 1
strands_begin [] = refl
strands_begin (Does (Reads c v) ∷ ds) = strands_begin ds
strands_begin (Does (Writes c v) ∷ ds) = strands_begin ds
strands_begin (Does Syncs ∷ ds) = let h = strands_begin ds in omega (arith, h)
strands_begin (Does (Ends v gone) ∷ ds) = strands_begin ds
strands_begin (Does (Passes Begins) ∷ ds) = let h = strands_begin ds in omega (arith, h)
strands_begin (Does (Passes Resumes) ∷ ds) = let h = strands_begin ds in omega (arith, h)
strands_begin (Does (Passes (Creates i)) ∷ ds) = strands_begin ds
strands_begin (Does (Passes (Updates i x)) ∷ ds) = strands_begin ds
strands_begin (Does (Passes (Sets i x)) ∷ ds) = strands_begin ds
strands_begin (Does (Passes (Values i v)) ∷ ds) = strands_begin ds
strands_begin (Does (Passes (Prints x)) ∷ ds) = strands_begin ds
strands_begin (Invokes how w ∷ ds) = strands_begin ds

pub strands_resume : (ds : List (Deed FrameEnv)) → strands (ds ++ Does (Passes Resumes) ∷ []) ≡ strands (ds ++ Does (Passes Begins) ∷ [])
strands_resume [] = refl
strands_resume (Does (Reads c v) ∷ ds) = strands_resume ds
strands_resume (Does (Writes c v) ∷ ds) = strands_resume ds
strands_resume (Does Syncs ∷ ds) = ap suc (strands_resume ds)
strands_resume (Does (Ends v gone) ∷ ds) = strands_resume ds
strands_resume (Does (Passes Begins) ∷ ds) = ap suc (strands_resume ds)
strands_resume (Does (Passes Resumes) ∷ ds) = ap suc (strands_resume ds)
strands_resume (Does (Passes (Creates i)) ∷ ds) = strands_resume ds
strands_resume (Does (Passes (Updates i x)) ∷ ds) = strands_resume ds
strands_resume (Does (Passes (Sets i x)) ∷ ds) = strands_resume ds
strands_resume (Does (Passes (Values i v)) ∷ ds) = strands_resume ds
strands_resume (Does (Passes (Prints x)) ∷ ds) = strands_resume ds
strands_resume (Invokes how w ∷ ds) = strands_resume ds

resuming_some : (ds : List (Deed FrameEnv)) → is_resuming ds ≡ true → 0 < started ds
resuming_some [] h = let z : false ≡ true = h in let f : ⊥ = cc in absurd f
resuming_some (Does e ∷ []) h = let z : false ≡ true = h in let f : ⊥ = cc in absurd f
resuming_some (Invokes how w ∷ []) h = omega arith
resuming_some (Does e ∷ d ∷ ds) h = resuming_some (d ∷ ds) h
resuming_some (Invokes how w ∷ d ∷ ds) h = omega arith

either : (r t : Bool) (u v z : View) → u ≡ z → v ≡ z → cond r (cond t u v) u ≡ z
either true true u v z a b = a
either true false u v z a b = b
either false t u v z a b = a

module _ (code : CodeView) (p : Source) (inputs : List ℤ) where
  pub begins : BeginsAreShown code p inputs
  begins name b b' d s w k lays sh asked h notes =
      let o = sh.sits k h.frame_state h.sits in
      let f = o.frame in
      let u = h.worker in
      let y = h.came in
      let c = b.cells in
      let turn = in_turn code p inputs name b d s w k asks.Begin lays sh h (λ q. cc) asked in
      let fresh = turn.begins refl in
      let quiet : is_resuming f.deeds ≡ false = ap (λ ds. is_resuming ds) fresh in
      done code p inputs name b d s w k asks.Begin lays sh h (λ q. cc) b' (Passes Begins) (y.strands + 1) Done (stranded y) (events.Begin (suc k)) c.items u.views notes
      refl tt refl refl refl (λ q. cc) (λ v q. cc) (λ v q. cc) (λ v gone q. cc) refl tt tt refl
      (strands_begin f.deeds ∙ ap (λ n. n + 1) (strands_now code p inputs name b d s w k asks.Begin lays sh h (λ q. cc))) refl
      refl (λ a n is. sh.memory a n is) (λ n q none. refl)
      (λ i. s.piece (name k) i) (λ i. refl)
      (λ i j is. subst (λ v. IsViewOf (kind_of i) v (value_in u.views (kind_of i) j)) (plain (monoid_of i) (λ m. s.piece m i) s.stolen (name k) f.deeds false refl quiet) (carries code p inputs name b d s w k asks.Begin lays sh h (λ q. cc) i j is))
      (bare_now code p inputs name b d s w k asks.Begin lays sh h (λ q. cc))
      (λ n q kind none. sh.bare n (name k) q kind none (λ g. g k (low code p inputs name b d s w k asks.Begin lays sh h (λ q. cc)) refl))

  pub resumes : ResumesAreShown code p inputs
  resumes name b b' d s w k lays sh asked h notes =
      let o = sh.sits k h.frame_state h.sits in
      let f = o.frame in
      let u = h.worker in
      let y = h.came in
      let c = b.cells in
      let turn = in_turn code p inputs name b d s w k asks.Resume lays sh h (λ q. cc) asked in
      let resuming : is_resuming f.deeds ≡ true = turn.resumes refl in
      done code p inputs name b d s w k asks.Resume lays sh h (λ q. cc) b' (Passes Resumes) (y.strands + 1) Done (stranded y) (events.Resume (suc k)) c.items u.views notes
      refl tt refl refl refl (λ q. cc) (λ v q. cc) (λ v q. cc) (λ v gone q. cc) refl tt tt refl
      (strands_resume f.deeds ∙ strands_begin f.deeds ∙ ap (λ n. n + 1) (strands_now code p inputs name b d s w k asks.Resume lays sh h (λ q. cc))) refl
      refl (λ a n is. sh.memory a n is) (λ n q none. refl)
      (λ i. carried (monoid_of i) (λ m. s.piece m i) s.stolen (name k) f.deeds false) (λ i. sym (ap (λ t. cond t (cond (s.stolen (name k ++ started f.deeds ∷ [])) (s.piece (name k) i) (s.piece (name k ++ started f.deeds ∷ []) i)) (s.piece (name k) i)) resuming))
      (λ i j is. carries code p inputs name b d s w k asks.Resume lays sh h (λ q. cc) i j is)
      (bare_now code p inputs name b d s w k asks.Resume lays sh h (λ q. cc))
      (λ n q kind none.
      let x = (let a = h.frame_state in a.cursor) in
      let some : 0 < x.children = subst (λ m. 0 < m) o.children (resuming_some f.deeds resuming) in
      let l = o.last some in
      either (is_resuming f.deeds) (s.stolen (name k ++ started f.deeds ∷ [])) (s.piece (name k) (Reducer n q kind)) (s.piece (name k ++ started f.deeds ∷ []) (Reducer n q kind)) (unit_of monoid_of (Reducer n q kind))
      (sh.bare n (name k) q kind none (λ g. g k (low code p inputs name b d s w k asks.Resume lays sh h (λ q. cc)) refl))
      (sh.bare n (name k ++ started f.deeds ∷ []) q kind none (λ g. g x.last l.0 (l.1 ∙ ap (λ m. name k ++ m ∷ []) (sym o.children)))))
