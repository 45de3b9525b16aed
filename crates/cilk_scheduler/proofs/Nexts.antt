-- A frame's next request is that of the free machine.
--
-- - `named_next`: the law.
use Rattle.std.proofs.Common.{◌≡◌, ◌+◌, ◌-◌, suc, false, ℤ, List, Some, sym, ap, ◌∙◌, subst, arith}
use Rattle.cilk_types.specs.declared.limits.TheConstants.{MAX_TICKS}
use Rattle.cilk_program.specs.declared.ask.Ask as language
use Rattle.cilk_program.specs.Syntax.{Source}
use Rattle.cilk_lower.specs.Code.{CodeView}
use Rattle.cilk_frames.specs.Cursor.{CursorView}
use Rattle.cilk_determinacy.specs.Machine.{started}
use Rattle.cilk_determinacy.specs.Runs.{Deed}
use Rattle.cilk_scheduler.specs.KeptCursors.{IsTold}
use Rattle.cilk_determinacy.specs.FrameEnvMachine.{answers_of, has_ended, named_ask, next, taken}
use Rattle.cilk_determinacy.specs.FrameEnvs.{FrameEnv}
use Rattle.cilk_scheduler.proofs.KeptCursors.{next_is_named}
use Rattle.cilk_scheduler.specs.declared.frame_state.Due.{Due}
use Rattle.cilk_scheduler.specs.declared.frame_state.Due.TheVariants as due
use Rattle.cilk_scheduler.specs.declared.frame_state.FrameState.{FrameState}
use Rattle.cilk_scheduler.specs.Asking.{WentOnFrom}
use Rattle.cilk_scheduler.specs.Schedulers.{AsksAreNamed, IsDue}

module _ (code : CodeView) (p : Source) (inputs : List ℤ) where
  by : (w : FrameEnv) (deeds : List (Deed FrameEnv)) (x x' : FrameState) (c : CursorView) (k : language.Ask) (d : Due) → has_ended deeds ≡ false → x.cursor ≡ Some c → IsDue code p inputs w deeds d c x.took → WentOnFrom code inputs d x k x'
      → (next p inputs w deeds ≡ Some (named_ask p w (suc (started deeds)) k)) × (x'.took ≡ taken p inputs w deeds)
  by w deeds x x' c k due.Begin going at is went = (
    ap (λ ds. next p inputs w ds) is.0 ∙ ap (λ a. Some (named_ask p w 1 a)) (sym went.0) ∙ ap (λ ds. Some (named_ask p w (suc (started ds)) k)) (sym is.0),
    ap (λ (y : FrameState). y.took) went.1 ∙ is.3 ∙ ap (λ ds. taken p inputs w ds) (sym is.0),
  )
  by w deeds x x' c k (due.Answer a) going at told went =
      let same : went.before ≡ c = (let s : Some went.before ≡ Some c = sym went.was ∙ at in cc) in
      let told' : IsTold code p inputs w deeds went.before a x.took = subst (λ b. IsTold code p inputs w deeds b a x.took) (sym same) told in
      let goes = went.goes_on p w.callee (answers_of told'.past) x.took told'.stands in
      let n = next_is_named p inputs code w deeds went.before went.after a x.took went.left k told' going goes in
      let total : MAX_TICKS - went.left ≡ x.took + ((MAX_TICKS - x.took) - went.left) = (let small = told.small in let less = went.less in omega (arith, small, less)) in
      (n.asks, ap (λ (y : FrameState). y.took) went.now ∙ total ∙ n.took_is)
  by w deeds x x' c k due.Sync going at is went = (is.2 ∙ ap (λ a. Some (named_ask p w (suc (started deeds)) a)) (sym went.0), ap (λ (y : FrameState). y.took) went.1 ∙ is.3)

  pub named_next : AsksAreNamed code p inputs
  named_next w deeds x x' c k going at is went = by w deeds x x' c k x.due going at is went
