-- An oblivious run departs nowhere on alike inputs: `oblivious_departs_nowhere`.
use Rattle.std.proofs.Common.{◌≡◌, ℕ, suc, ℤ, true, ◌&&◌, List, [], refl, sym, ap, ◌∙◌, subst}
use Rattle.cilk_types.specs.declared.event.Event as numbers
use Rattle.cilk_program.specs.declared.ask.Ask.{Ask}
use Rattle.cilk_program.specs.declared.ask.Ask.TheVariants as asks
use Rattle.cilk_program.specs.declared.ask.Callee.{Callee}
use Rattle.cilk_program.specs.declared.ask.Callee.TheVariants as callees
use Rattle.cilk_program.specs.Inside.{body_of}
use Rattle.cilk_program.specs.Outcomes.{Conclusion, Leaves, StopsBy}
use Rattle.cilk_program.specs.SerialRun.{Transcript, IsSerialRun}
use Rattle.cilk_program.specs.Sources.{source}
use Rattle.cilk_program.specs.Syntax.{Source}
use Rattle.cilk_tree.specs.Along.{DepartsNowhere}
use Rattle.cilk_determinacy.specs.FrameEnvs.{FrameEnv, first_env, child_env}
use Rattle.cilk_determinacy.specs.Nested.{named, named_event, named_from}
use Rattle.cilk_determinacy.specs.Runs.{same_name}
use Rattle.cilk_oblivious.specs.Open.{ask_with, callee_with}
use Rattle.cilk_oblivious.specs.Twins.{TranscriptsAreAlike, NothingAlike, ActsAlike, ChildrenAlike, ConcludesAlike, ObliviousRunsHaveTwins}
use Rattle.cilk_replay.specs.EventOrders.{event_order_on}
use Rattle.cilk_replay.specs.Frames.{same_body, same_frame}
use Rattle.cilk_replay.specs.InputCourses.{IsLike}
use Rattle.cilk_replay.specs.LikeRuns.{IsLikeRun, LikeRunsDepartNowhere}
use Rattle.cilk_replay.proofs.CourseFrames.{one_frame}
use Rattle.cilk_plan.specs.Departures.{ObliviousRunsDepartNowhere}

-- ---- runs that make the same requests do the same deeds

-- the same frame, given other words
abbrev env_with : FrameEnv → List ℤ → FrameEnv
env_with w ws = record w { callee = callee_with w.callee ws }

body_with : (p : Source) (c : Callee) (ws : List ℤ) → body_of p (callee_with c ws) ≡ body_of p c
body_with p callees.Root ws = refl
body_with p (callees.Function c) ws = refl
body_with p (callees.Loop l) ws = refl

same_with : (p : Source) (w : FrameEnv) (ws : List ℤ) → same_frame p w (env_with w ws) ≡ true
same_with p w ws = ap (λ b. same_name w.name w.name && same_body (body_of p w.callee) b) (body_with p w.callee ws) ∙ one_frame p w

child_with : (p : Source) (w : FrameEnv) (given : List ℤ) (k : ℕ) (c : Callee) (ws : List ℤ) → env_with (child_env p w k c) ws ≡ child_env p (env_with w given) k (callee_with c ws)
child_with p w given k callees.Root ws = refl
child_with p w given k (callees.Function c) ws = refl
child_with p w given k (callees.Loop l) ws = refl

event_with : (p : Source) (w : FrameEnv) (given : List ℤ) (a : Ask) (ws : List ℤ) (v x : ℤ) → IsLike (named_event p w a v) (named_event p (env_with w given) (ask_with a ws) x)
event_with p w given asks.Begin ws v x = tt
event_with p w given (asks.Read y) ws v x = refl
event_with p w given (asks.Write y n) ws v x = refl
event_with p w given (asks.Create r) ws v x = refl
event_with p w given (asks.Update r n) ws v x = refl
event_with p w given (asks.Set r n) ws v x = refl
event_with p w given (asks.Value r) ws v x = refl
event_with p w given (asks.Print n) ws v x = tt
event_with p w given (asks.Invoke how c) ws v x = tt
event_with p w given asks.Resume ws v x = tt
event_with p w given asks.Sync ws v x = tt
event_with p w given (asks.Result n) ws v x = refl
event_with p w given (asks.End n) ws v x = tt
event_with p w given (asks.Fault f) ws v x = tt

module _ (p : Source) where
  deeds_with : {r r' : Transcript} → TranscriptsAreAlike r r' → (w : FrameEnv) (given : List ℤ) (k : ℕ)
      → IsLikeRun (same_frame p) (named_from p w k r) (named_from p (env_with w given) k r')
  deeds_with NothingAlike w given k = tt
  deeds_with (ActsAlike a ws v x rest) w given k = (event_with p w given a ws v x, deeds_with rest w given k)
  deeds_with (ChildrenAlike {u = u} {u' = u'} how callee ws inner rest) w given k =
      let v = child_env p w k callee in
      let same = child_with p w given k callee ws in (
        refl,
        subst (λ (z : FrameEnv). same_frame p v z ≡ true) same (same_with p v ws),
        subst (λ (z : FrameEnv). IsLikeRun (same_frame p) (named_from p v 1 u) (named_from p z 1 u')) same (deeds_with inner v ws 1),
        deeds_with rest w given (suc k),
      )

  deeds_alike : (r r' : Transcript) → TranscriptsAreAlike r r' → IsLikeRun (same_frame p) (named p r) (named p r')
  deeds_alike r r' h = deeds_with h (first_env p) [] 1

-- ---- the twin on an alike input

module _ (twins : ObliviousRunsHaveTwins) (law : LikeRunsDepartNowhere) where
  pub oblivious_departs_nowhere : ObliviousRunsDepartNowhere
  oblivious_departs_nowhere a hidden run others words alike opening s told =
      let t = twins (source a.program) a.input hidden a.trace (Leaves a.outcome) run others alike in
      subst DepartsNowhere (sym told.is) (by t.0 t.1 t.2 t.3 t.5 (let x = told.of_run in t.6 told.run a.trace (Leaves x.outcome) x.runs))
    where
      by : (r : Transcript) (es : List numbers.Event) (d : Conclusion) → IsSerialRun (source a.program) others r es d → ConcludesAlike (Leaves a.outcome) d
          → TranscriptsAreAlike told.run r → DepartsNowhere (event_order_on (source a.program) others told.run a.trace opening)
      by r es (Leaves o) serial ends requests =
          law (source a.program) a.input others told.run a.trace opening told.of_run words r es o serial (deeds_alike (source a.program) told.run r requests)
      by r es (StopsBy f) serial ends requests = absurd ends
