-- The end of a frame, put together from the contracts of the functions.
--
-- - `changed_apart`, `working_back`: changes at two places;
-- - `closed_by`: a frame that is finished;
-- - `runs_left`, `go_back`, `handed_in`: the three ways in which a frame ends.
use Rattle.std.proofs.Common.{◌≡◌, ℕ, zero, suc, Bool, true, false, cond, ℤ, List, [], ◌∷◌, slice_get, Some, refl, sym, ap, ap₂, ◌∙◌, subst, arith}
use Rattle.cilk_program.specs.declared.ask.Ask.TheVariants as asks
use Rattle.cilk_program.specs.Syntax.{Source}
use Rattle.cilk_lower.specs.Code.{CodeView}
use Rattle.cilk_frames.specs.declared.activation.Activation.{Activation}
use Rattle.cilk_hypermap.specs.declared.hypermap.Hypermap.{Hypermap}
use Rattle.cilk_join.specs.Products.{product}
use Rattle.cilk_determinacy.specs.Machine.{State}
use Rattle.cilk_determinacy.specs.Runs.{Name}
use Rattle.cilk_determinacy.specs.Reducers.{View}
use Rattle.cilk_determinacy.specs.FrameEnvs.{FrameEnv}
use Rattle.cilk_scheduler.specs.declared.scheduler.Scheduler.{Scheduler}
use Rattle.cilk_scheduler.specs.declared.frame_state.FrameState.{FrameState}
use Rattle.cilk_scheduler.specs.declared.frame_state.Status.{Status}
use Rattle.cilk_scheduler.specs.declared.frame_state.Status.TheVariants.{Held}
use Rattle.cilk_scheduler.specs.declared.frame_state.Worker.{Worker}
use Rattle.cilk_scheduler.specs.Schedulers.{ShowsBy}
use Rattle.cilk_scheduler.specs.WorkerTables.{WorkerTable}
use Rattle.cilk_scheduler.specs.Ending.{Closes, TakesBack, WasNotOffered, WasOffered}
use Rattle.cilk_scheduler.specs.EndParts.{Brings, FramesGoBack, HasRetired, IsFinished, NotOffered, OfferedBy, PiecesAreHandedIn, RunsAreLeft, Seeks, ToJoin}
use Rattle.cilk_scheduler.specs.Events.{Arrives, block_in}
use Rattle.cilk_scheduler.specs.Parts.{freed, working}
use Rattle.cilk_scheduler.specs.FrameStates.{changed, counted, finished, moved_to, passed}
use Rattle.cilk_scheduler.specs.Steps.{HasCome}
use Rattle.cilk_scheduler.specs.Waiting.{idling}
use Rattle.cilk_scheduler.specs.Workers.{altered, holding, viewing}
use Rattle.cilk_scheduler.specs.OfferLists.{Withdraws}
use Rattle.cilk_scheduler.proofs.Changing.{changed_here, changed_off, changed_twice}
use Rattle.cilk_scheduler.proofs.Parts.{altered_viewing}
use Rattle.cilk_scheduler.proofs.Viewing.{viewing_from}

-- ---- changes at two places

pub changed_apart : (f g : FrameState → FrameState) (list : List (Activation FrameState)) (j k : ℕ) → (j ≡ k → ⊥) → changed f (changed g list j) k ≡ changed g (changed f list k) j
changed_apart f g [] j k ne = refl
changed_apart f g (a ∷ list) zero zero ne = absurd (ne refl)
changed_apart f g (a ∷ list) zero (suc k) ne = refl
changed_apart f g (a ∷ list) (suc j) zero ne = refl
changed_apart f g (a ∷ list) (suc j) (suc k) ne = ap (λ l. a ∷ l) (changed_apart f g list j k (λ e. ne (ap suc e)))

-- a worker offers what another does
abbrev offering_as : Worker → Worker → Worker
offering_as v u = record u { offered = v.offered }

-- one worker has one offer less, and one continues with a frame, with these views
working_back : (up : ℕ) (views : Hypermap) (ws : List Worker) (w victim : ℕ) (without owner old : Worker) → slice_get (viewing views ws w) victim ≡ Some owner → slice_get ws victim ≡ Some old → without ≡ offering_as without owner
    → altered (working up) (altered (λ _. without) (viewing views ws w) victim) w ≡ altered (holding up views) (altered (λ _. offering_as without old) ws victim) w
working_back up views [] w victim without owner old at was is = refl
working_back up views (u ∷ ws) zero zero without owner old at was is =
    let mine : record u { views = views } ≡ owner = (let q : Some (record u { views = views }) ≡ Some owner = at in cc) in
    ap (λ (x : Worker). x ∷ ws) (ap (λ (x : Worker). working up x) (is ∙ ap (λ (x : Worker). offering_as without x) (sym mine)))
working_back up views (u ∷ ws) zero (suc victim) without owner old at was is =
    let mine : owner ≡ old = (let q : Some owner ≡ Some old = sym at ∙ was in cc) in
    ap (λ (x : Worker). holding up views u ∷ altered (λ _. x) ws victim) (is ∙ ap (λ (x : Worker). offering_as without x) mine)
working_back up views (u ∷ ws) (suc w) zero without owner old at was is =
    let mine : owner ≡ old = (let q : Some owner ≡ Some old = sym at ∙ was in cc) in
    ap₂ (λ (x : Worker) l. x ∷ l) (is ∙ ap (λ (x : Worker). offering_as without x) mine) (altered_viewing (working up) views ws w)
working_back up views (u ∷ ws) (suc w) (suc victim) without owner old at was is = ap (λ l. u ∷ l) (working_back up views ws w victim without owner old at was is)

module _ (code : CodeView) (p : Source) (inputs : List ℤ) where
  -- ---- a frame that is finished

  module _ (b b' : Scheduler) (w k : ℕ) (v : ℤ) (h : HasCome code p inputs b w k (asks.End v)) (went : List (Activation FrameState)) (views : Hypermap) (r : HasRetired code p inputs b w k v h went views) where
    abbrev old_frame_states : List (Activation FrameState)
    old_frame_states = let f = b.frames in f.items

    top_at : slice_get went k ≡ Some (let a = h.frame_state in record a { cursor = h.came })
    top_at = ap (λ l. slice_get l k) r.goes ∙ changed_here (λ _. h.came) old_frame_states k h.frame_state h.sits

    -- another frame stays where this one has gone on
    else_went : (j : ℕ) (a : Activation FrameState) → (k ≡ j → ⊥) → slice_get went j ≡ Some a → slice_get old_frame_states j ≡ Some a
    else_went j a ne at = sym (changed_off (λ _. h.came) old_frame_states k j ne) ∙ ap (λ l. slice_get l j) (sym r.goes) ∙ at

    -- whatever is done to another frame meanwhile
    closed_by : (frames : List (Activation FrameState)) → slice_get frames k ≡ slice_get went k → IsFinished b b' k frames → Closes code p inputs b b' w k v h views
    closed_by frames same f =
        let a = h.frame_state in
        let last : slice_get f.acted k ≡ Some (record a { cursor = finished h.came }) = ap (λ l. slice_get l k) f.finishes ∙ changed_here finished frames k (record a { cursor = h.came }) (same ∙ top_at) in
        record { retires = r.retires (record a { cursor = h.came }) top_at; journal = f.journal; cells = f.cells; ticks = f.ticks (record a { cursor = finished h.came }) last }

    finished_alone : (frames : List (Activation FrameState)) → frames ≡ went → IsFinished b b' k frames → (let g = b'.frames in g.items ≡ changed (λ _. counted (finished h.came)) old_frame_states k)
    finished_alone frames same f =
        f.counts ∙ ap (λ l. changed counted l k) (f.finishes ∙ ap (λ l. changed finished l k) (same ∙ r.goes) ∙ changed_twice finished (λ _. h.came) old_frame_states k) ∙ changed_twice counted (λ _. finished h.came) old_frame_states k

    -- where another frame has changed before
    finished_beside : (up : ℕ) (g : FrameState → FrameState) (frames : List (Activation FrameState)) → (up ≡ k → ⊥) → frames ≡ changed g went up → IsFinished b b' k frames → (let l = b'.frames in l.items ≡ changed g (changed (λ _. counted (finished h.came)) old_frame_states k) up)
    finished_beside up g frames ne same f =
        f.counts ∙ ap (λ l. changed counted l k) (f.finishes ∙ ap (λ l. changed finished l k) same ∙ changed_apart finished g went up k ne) ∙ changed_apart counted g (changed finished went k) up k ne
        ∙ ap (λ l. changed g l up) (ap (λ l. changed counted l k) (ap (λ l. changed finished l k) r.goes ∙ changed_twice finished (λ _. h.came) old_frame_states k) ∙ changed_twice counted (λ _. finished h.came) old_frame_states k)

    beside_same : (up : ℕ) (g : FrameState → FrameState) (frames : List (Activation FrameState)) → (up ≡ k → ⊥) → frames ≡ changed g went up → slice_get frames k ≡ slice_get went k
    beside_same up g frames ne same = ap (λ l. slice_get l k) same ∙ changed_off g went up k ne

  -- ---- the first frame

  pub runs_left : RunsAreLeft code p inputs
  runs_left b b' w v h went views left viewed r outcome viewed_is workers offered f =
      let l = b.workers in record {
        views = views;
        left = left;
        closes = closed_by b b' w 0 v h went views r went refl f;
        frames = finished_alone b b' w 0 v h went views r went refl f;
        workers = workers ∙ ap (λ ws. altered freed ws w) viewed_is ∙ altered_viewing freed left l.items w;
        offered = offered;
        outcome = outcome;
      }

  -- ---- a frame that has a parent

  module _ (name : ℕ → Name) (b : Scheduler) (d : WorkerTable) (s : State FrameEnv View) (w k : ℕ) (v : ℤ) (sh : ShowsBy code p inputs name b d s) (h : HasCome code p inputs b w (suc k) (asks.End v)) where
    apart : (let a = h.frame_state in let x = a.cursor in x.parent) ≡ suc k → ⊥
    apart e = let t = sh.tells in let n = t.named in let c = n.child k h.frame_state h.sits in let low = c.0 in omega (arith, e, low)

  seeks_back : (b : Scheduler) (up w offered : ℕ) (status : Status) (views : Hypermap) (others : List Worker) → (let l = b.workers in Seeks up status (viewing views l.items w) others b.offered offered)
      → (rest : List Worker) × TakesBack b up status rest offered × (altered (working up) others w ≡ altered (holding up views) rest w)
  seeks_back b up w offered status views others (NotOffered none others_is offered_is) =
      let l = b.workers in
      (l.items, WasNotOffered none refl offered_is, ap (λ ws. altered (working up) ws w) others_is ∙ altered_viewing (working up) views l.items w)
  seeks_back b up w offered status views others (OfferedBy victim owner without found e at is gone others_is offered_is) =
      let l = b.workers in
      let was = viewing_from views l.items w victim owner at in
      let old = was.0 in (
        altered (λ _. offering_as without old) l.items victim,
        WasOffered victim old (offering_as without old) found e was.1 refl refl (subst (λ o. let l = without.offered in Withdraws o.items up found l.items) was.3 gone) refl offered_is,
        ap (λ ws. altered (working up) ws w) others_is ∙ working_back up views l.items w victim without owner old at was.1 is,
      )

  pub go_back : FramesGoBack code p inputs
  go_back name b b' d s w k v sh h went held views viewed others above r kept sits viewed_is seeks held_is workers outcome f =
      let l = b.workers in
      let x = (let a = h.frame_state in a.cursor) in
      let y = (let a = above in a.cursor) in
      let ne = apart name b d s w k v sh h in
      let z = seeks_back b x.parent w b'.offered y.status views others (subst (λ ws. Seeks x.parent y.status ws others b.offered b'.offered) viewed_is seeks) in record {
        views = views;
        above = above;
        others = z.0;
        closes = closed_by b b' w (suc k) v h went views r held (beside_same b b' w (suc k) v h went views r x.parent (moved_to (Held w)) held ne held_is) f;
        was_kept = kept;
        sits = else_went b b' w (suc k) v h went views r x.parent above (λ e. ne (sym e)) sits;
        frames = finished_beside b b' w (suc k) v h went views r x.parent (moved_to (Held w)) held ne held_is f;
        back = z.1;
        workers = workers ∙ z.2;
        outcome = outcome;
      }

  -- the parent's state after a piece's arrival, by whether its block passes
  held_by : (w up : ℕ) (joined : FrameState) (passes : Bool) (went brought held : List (Activation FrameState)) → brought ≡ changed (λ _. joined) went up → held ≡ cond passes (changed (moved_to (Held w)) (changed passed brought up) up) brought
      → held ≡ changed (λ _. cond passes (moved_to (Held w) (passed joined)) joined) went up
  held_by w up joined true went brought held e is =
      is ∙ ap (λ l. changed (moved_to (Held w)) l up) (ap (λ l. changed passed l up) e ∙ changed_twice passed (λ _. joined) went up) ∙ changed_twice (moved_to (Held w)) (λ _. passed joined) went up
  held_by w up joined false went brought held e is = is ∙ e

  work_by : (passes : Bool) (up : ℕ) (left : Hypermap) (ws : List Worker) (w : ℕ) → altered (cond passes (working up) freed) (viewing left ws w) w ≡ altered (cond passes (holding up left) (idling left)) ws w
  work_by true up left ws w = altered_viewing (working up) left ws w
  work_by false up left ws w = altered_viewing freed left ws w

  brought_by : (x x' : FrameState) (key : ℕ) (piece left : Hypermap) (passes : Bool) → Brings x key piece passes x' left → Arrives (block_in x.join) key false (product piece) passes (block_in x'.join) left × (x' ≡ record x { join = x'.join })
  brought_by x x' key piece left passes (ToJoin l l' at is arrives) =
      let joined : x'.join ≡ Some l' = ap (λ (y : FrameState). y.join) is in (
        subst (λ j. Arrives j key false (product piece) passes (block_in x'.join) left) (sym (ap (λ o. block_in o) at)) (subst (λ j. Arrives (block_in (Some l)) key false (product piece) passes j left) (sym (ap (λ o. block_in o) joined)) arrives),
        is ∙ ap (λ o. record x { join = o }) (sym joined),
      )

  pub handed_in : PiecesAreHandedIn code p inputs
  handed_in name b b' d s w k v sh h went brought held views left viewed above joined passes r stolen sits brings brought_is held_is viewed_is workers offered outcome f =
      let l = b.workers in
      let x = (let a = h.frame_state in a.cursor) in
      let ne = apart name b d s w k v sh h in
      let y = (let a = above in a.cursor) in
      let z = brought_by y joined x.ordinal views left passes brings in
      let held_now = held_by w x.parent joined passes went brought held brought_is held_is in record {
        views = views;
        left = left;
        above = above;
        joined = joined;
        passes = passes;
        closes = closed_by b b' w (suc k) v h went views r held (beside_same b b' w (suc k) v h went views r x.parent (λ _. cond passes (moved_to (Held w) (passed joined)) joined) held ne held_now) f;
        was_stolen = stolen;
        sits = else_went b b' w (suc k) v h went views r x.parent above (λ e. ne (sym e)) sits;
        arrives = z.0;
        joined_is = z.1;
        frames = finished_beside b b' w (suc k) v h went views r x.parent (λ _. cond passes (moved_to (Held w) (passed joined)) joined) held ne held_now f;
        workers = workers ∙ ap (λ ws. altered (cond passes (working x.parent) freed) ws w) viewed_is ∙ work_by passes x.parent left l.items w;
        offered = offered;
        outcome = outcome;
      }
