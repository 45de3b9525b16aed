-- The frames of a run that is retold, as its events are made.
--
-- - `cells_fit`: the cells of a frame that begins can be counted;
-- - `noted_begun`, `noted_same`: one more event, which begins a frame or none;
-- - `noted_last`: the last event; all frames are noted then.
use Rattle.std.proofs.Common.{◌≡◌, ℕ, ◌+◌, ◌<◌, ℤ, List, [], ◌∷◌, ◌++◌, Some, None, refl, sym, ap, ◌∙◌, subst, arith}
use Rattle.cilk_types.specs.declared.event.Event.{Event}
use Rattle.cilk_types.specs.declared.outcome.Outcome.{Outcome}
use Rattle.cilk_program.specs.declared.ask.Callee.{Callee}
use Rattle.cilk_program.specs.Inside.{body_of}
use Rattle.cilk_program.specs.Syntax.{Source}
use Rattle.cilk_lower.specs.Code.{CodeView}
use Rattle.cilk_lower.specs.Layout.{LaysOut}
use Rattle.cilk_serial.specs.declared.serial_run.Stage.TheVariants as stages
use Rattle.cilk_serial.specs.declared.state.State.{State}
use Rattle.cilk_serial.specs.SoFar.{IsSoFar}
use Rattle.cilk_serial.proofs.SoFar.{kept_so_far}
use Rattle.cilk_checker.specs.declared.frames.Own.{Own}
use Rattle.cilk_lower.specs.declared.layout.PlannedFrame.{PlannedFrame}
use Rattle.cilk_checker.specs.Frames.{AreFramesIn, own_of}
use Rattle.cilk_checker.proofs.Noting.{NotedSoFar, noted_all, noted_none, noted_some, room}
use Rattle.cilk_helpers.specs.declared.retelling.Retelling.{Retelling}
use Rattle.cilk_helpers.specs.Telling.{Tells, TellsLast, TellsMore}

-- the events so far begin the serial run's
so_far : (code : CodeView) (p : Source) (inputs : List ℤ) (t : Retelling) → Tells code p inputs t → IsSoFar p inputs t.state.events.items
so_far code p inputs t x =
    let r = x.run in
    let re = x.retold in
    subst (λ (s : State). IsSoFar p inputs s.events.items) x.state (kept_so_far code p inputs r stages.Going re.going tt)

module _ (code : CodeView) (p : Source) (inputs : List ℤ) (t t' : Retelling) (frames : List PlannedFrame) (cells : ℕ) (noted : NotedSoFar p inputs t.state.events.items frames cells) where
  pub cells_fit : (callee : Callee) → TellsMore code p inputs t (Some callee) t' → cells < 4294967296
  cells_fit callee m =
      let longer = m.longer in
      let made = subst (IsSoFar p inputs) longer.1 (so_far code p inputs t' m.tells) in
      let fits = room p inputs t.state.events.items longer.0 (Some callee) m.begins made frames cells callee noted refl in
      omega (arith, fits)

  pub noted_begun : (own : Own) (callee : Callee) → own ≡ own_of p code.layout callee → TellsMore code p inputs t (Some callee) t' → LaysOut p code.layout → (frames' : List PlannedFrame) (cells' : ℕ)
      → frames' ≡ frames ++ record { body = own.body; first_cell = cells; cells = own.cells } ∷ [] → cells' ≡ cells + own.cells → NotedSoFar p inputs t'.state.events.items frames' cells'
  noted_begun own callee is m laid frames' cells' more count =
      let longer = m.longer in
      let of_callee = laid.cells callee in
      subst (λ (es : List Event). NotedSoFar p inputs es frames' cells') (sym longer.1)
      (noted_some p inputs t.state.events.items longer.0 (Some callee) m.begins frames frames' cells cells' callee noted refl
      (more ∙ (ap (λ (o : Own). frames ++ record { body = o.body; first_cell = cells; cells = o.cells } ∷ []) is
      ∙ ap (λ (n : ℕ). frames ++ record { body = body_of p callee; first_cell = cells; cells = n } ∷ []) of_callee))
      (count ∙ (ap (λ (o : Own). cells + o.cells) is ∙ ap (λ (n : ℕ). cells + n) of_callee)))

  pub noted_same : TellsMore code p inputs t None t' → NotedSoFar p inputs t'.state.events.items frames cells
  noted_same m =
      let longer = m.longer in
      subst (λ (es : List Event). NotedSoFar p inputs es frames cells) (sym longer.1)
      (noted_none p inputs t.state.events.items longer.0 None m.begins frames cells noted refl)

  pub noted_last : (v : ℤ) → TellsLast p inputs t v t' → (o : Outcome) (es : List Event) → es ≡ t'.state.events.items → AreFramesIn p inputs es o frames
  noted_last v m o es all =
      let longer = m.longer in
      let whole = t.state.events.items ++ longer.0 ∷ [] in
      subst (λ (l : List Event). AreFramesIn p inputs l o frames) (sym (all ∙ longer.1))
      (noted_all p inputs whole o frames cells (noted_none p inputs t.state.events.items longer.0 None m.begins frames cells noted refl))
