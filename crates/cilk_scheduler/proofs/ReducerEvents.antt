-- A frame creates, updates, sets and reads a reducer, and prints.
--
-- - `number_low`: a reducer's number is that of a frame that has begun;
-- - `views_then`, `bare_then`, `bare_piece`: the worker's views and the frame's piece after an
--   event of a reducer;
-- - `creates`, `updates`, `sets`, `reads_value`, `prints`: the laws.
use Rattle.std.proofs.Common.{◌≡◌, ◌≤◌, ℕ, Bool, true, false, cond, ℤ, List, length, Some, refl, sym, ap, ◌∙◌, subst, arith}
use Rattle.std.specs.Prelude.{◌&&◌}
use Rattle.std.proofs.lemmas.Bool.{and_parts}
use Rattle.cilk_types.specs.declared.event.Event.TheVariants as events
use Rattle.cilk_types.specs.declared.event.Instance as numbered
use Rattle.cilk_monoid.specs.declared.kind.MonoidKind.{MonoidKind}
use Rattle.cilk_monoid.specs.declared.kind.MonoidKind.TheVariants.{Append}
use Rattle.cilk_monoid.specs.Kinds.{structure_of, same_kind}
use Rattle.cilk_monoid.specs.Ranges as ranges
use Rattle.cilk_monoid.specs.Values.{ViewValue}
use Rattle.cilk_monoid.proofs.RangeLaws.{same_from_true}
use Rattle.cilk_program.specs.declared.ask.Ask as language
use Rattle.cilk_program.specs.declared.ask.Ask.TheVariants as asks
use Rattle.cilk_program.specs.Syntax.{Source}
use Rattle.cilk_lower.specs.Code.{CodeView}
use Rattle.cilk_lower.specs.Layout.{LaysOut}
use Rattle.cilk_frames.specs.declared.cursor.Answer.TheVariants.{Done, Value}
use Rattle.cilk_hypermap.specs.Hypermap.{ChangesIn, value_in}
use Rattle.cilk_hypermap.specs.Views.{output}
use Rattle.cilk_hypermap.specs.declared.hypermap.Hypermap.{Hypermap}
use Rattle.cilk_frames.specs.declared.activation.Activation.{Activation}
use Rattle.cilk_determinacy.specs.Machine.{State}
use Rattle.cilk_determinacy.specs.Monoids.{unit_of}
use Rattle.cilk_determinacy.specs.Runs.{Name, Instance, Output, Reducer, same_instance, Passes, Creates, Updates, Sets, Values, Prints, Does}
use Rattle.cilk_determinacy.proofs.Basics.{same_instance-refl}
use Rattle.cilk_determinacy.specs.Reducers.{View, kind_of, monoid_of}
use Rattle.cilk_determinacy.specs.FrameEnvViews.{IsViewOf}
use Rattle.cilk_determinacy.specs.FrameEnvs.{FrameEnv, reducer_seen}
use Rattle.cilk_determinacy.proofs.FrameEnvViews.{are_multiplied}
use Rattle.cilk_scheduler.specs.declared.scheduler.Scheduler.{Scheduler}
use Rattle.cilk_scheduler.specs.declared.frame_state.FrameState.{FrameState}
use Rattle.cilk_scheduler.specs.Acting.{CreatesAreShown, PrintsAreShown, SetsAreShown, UpdatesAreShown, ValuesAreShown}
use Rattle.cilk_scheduler.specs.Schedulers.{is_resuming, IsBare, ShowsBy}
use Rattle.cilk_scheduler.specs.WorkerTables.{WorkerTable}
use Rattle.cilk_scheduler.specs.Numbered.{IsAbsent, IsInstance}
use Rattle.cilk_scheduler.specs.FrameStates.{answered}
use Rattle.cilk_scheduler.specs.Steps.{HasCome}
use Rattle.cilk_scheduler.proofs.Ready.{strands_stay, quiet, own_views, own_bare, there, means_reducer}
use Rattle.cilk_scheduler.proofs.Seeing.{no_absent_reducer}
use Rattle.cilk_scheduler.proofs.Stepped.{bare_now, strands_now, done}
use Rattle.cilk_scheduler.proofs.Viewed.{changed_off, views_after}

number_low : (p : Source) (frames : List (Activation FrameState)) (name : ℕ → Name) (i : Instance) (j : numbered.Instance) → IsInstance p frames name i j → j.frame ≤ length frames
number_low p frames name Output j h = let e = h.0 in omega (arith, e)
number_low p frames name (Reducer m q kind) j h = let e = h.3 in let low = h.1 in omega (arith, e, low)

either_one : (t : Bool) (v : View) → v ≡ cond t v v
either_one true v = refl
either_one false v = refl

module _ (code : CodeView) (p : Source) (inputs : List ℤ) where
  module _ (name : ℕ → Name) (b : Scheduler) (d : WorkerTable) (s : State FrameEnv View) (w k : ℕ) (ask : language.Ask) (lays : LaysOut p code.layout) (sh : ShowsBy code p inputs name b d s) (h : HasCome code p inputs b w k ask) (no_sync : ask ≡ asks.Sync → ⊥)
      (calm : is_resuming (let f = (let o = sh.sits k h.frame_state h.sits in o.frame) in f.deeds) ≡ false) (i0 : Instance) (j0 : numbered.Instance) (views : Hypermap) (y : ViewValue) (X : Instance → View)
      (at : let f = b.frames in IsInstance p f.items name i0 j0) (changes : let u = h.worker in ChangesIn u.views views (kind_of i0) j0 (Some y)) (hit : IsViewOf (kind_of i0) (X i0) y) where
    abbrev frames : List (Activation FrameState)
    frames = let f = b.frames in f.items

    abbrev old : Hypermap
    old = let u = h.worker in u.views

    abbrev after : Instance → View
    after i = cond (same_instance i0 i) (X i) (s.piece (name k) i)

    views_then : (i : Instance) (j : numbered.Instance) → IsInstance p frames name i j → IsViewOf (kind_of i) (after i) (value_in views (kind_of i) j)
    views_then =
        views_after p frames name (let t = sh.tells in t.named) old views i0 j0 y (λ i. s.piece (name k) i) after at changes
        (subst (λ t. IsViewOf (kind_of i0) (cond t (X i0) (s.piece (name k) i0)) y) (sym (same_instance-refl i0)) hit)
        (λ i q. ap (λ t. cond t (X i) (s.piece (name k) i)) q)
        (own_views code p inputs name b d s w k ask lays sh h no_sync calm)

    bare_then : IsBare (length frames) (value_in views)
    bare_then kind j low = by (same_kind (kind_of i0) kind && ranges.same_instance j0 j) refl
      where
        by : (t : Bool) → (same_kind (kind_of i0) kind && ranges.same_instance j0 j) ≡ t → value_in views kind j ≡ (structure_of kind).unit
        by true e =
            let parts = and_parts (same_kind (kind_of i0) kind) (ranges.same_instance j0 j) e in
            let same : j0.frame ≡ j.frame = ap (λ (z : numbered.Instance). z.frame) (same_from_true j0 j parts.1) in
            let small = number_low p frames name i0 j0 at in
            absurd (omega (arith, same, small, low))
        by false e = changed_off old views (kind_of i0) j0 y changes kind j e ∙ bare_now code p inputs name b d s w k ask lays sh h no_sync kind j low

    bare_piece : (n : Name) (q : ℕ) (kind : MonoidKind) → IsAbsent frames name n → after (Reducer n q kind) ≡ unit_of monoid_of (Reducer n q kind)
    bare_piece n q kind none =
        ap (λ t. cond t (X (Reducer n q kind)) (s.piece (name k) (Reducer n q kind))) (no_absent_reducer p frames name n q kind i0 j0 none at (same_instance i0 (Reducer n q kind)) refl)
        ∙ own_bare code p inputs name b d s w k ask lays sh h no_sync n q kind none

  pub creates : CreatesAreShown code p inputs
  creates name b b' d s w k r j views t h means changed notes =
      let sh = t.shows in
      let o = sh.sits k h.frame_state h.sits in
      let f = o.frame in
      let u = h.worker in
      let y = h.came in
      let c = b.cells in
      let ask = asks.Create r in
      let i0 = reducer_seen f.what r in
      let is = means_reducer code p inputs name b d s w k ask t.lays sh h (λ q. cc) r j (there code p inputs name b d s w k ask t.lays sh h (λ q. cc) t.well) means in
      let calm = quiet code p inputs name b d s w k ask t.lays sh h (λ q. cc) t.asked (λ q. cc) in
      let m = are_multiplied in
      let z : ViewValue = (structure_of (kind_of i0)).unit in
      let X : Instance → View = (λ i. (monoid_of i).unit) in
      let changes : ChangesIn u.views views (kind_of i0) j (Some z) = subst (λ a. ChangesIn u.views views a j (Some (structure_of a).unit)) (sym is.0) changed in
      let hit : IsViewOf (kind_of i0) (X i0) z = m.unit (kind_of i0) in
      done code p inputs name b d s w k ask t.lays sh h (λ q. cc) b' (Passes (Creates i0)) y.strands Done (answered Done y) (events.Create j) c.items views notes
      refl tt refl refl refl (λ q. cc) (λ v q. cc) (λ v q. cc) (λ v gone q. cc) refl tt tt refl
      (strands_stay (Passes (Creates i0)) refl f.deeds ∙ strands_now code p inputs name b d s w k ask t.lays sh h (λ q. cc)) (j, is.1, refl)
      refl (λ a n it. sh.memory a n it) (λ n q none. refl)
      (λ i. cond (same_instance i0 i) (X i) (s.piece (name k) i)) (λ i. refl)
      (views_then name b d s w k ask t.lays sh h (λ q. cc) calm i0 j views z X is.1 changes hit)
      (bare_then name b d s w k ask t.lays sh h (λ q. cc) calm i0 j views z X is.1 changes hit)
      (bare_piece name b d s w k ask t.lays sh h (λ q. cc) calm i0 j views z X is.1 changes hit)

  pub updates : UpdatesAreShown code p inputs
  updates name b b' d s w k r v j views t h word means changed notes =
      let sh = t.shows in
      let o = sh.sits k h.frame_state h.sits in
      let f = o.frame in
      let u = h.worker in
      let y = h.came in
      let c = b.cells in
      let ask = asks.Update r v in
      let i0 = reducer_seen f.what r in
      let is = means_reducer code p inputs name b d s w k ask t.lays sh h (λ q. cc) r j (there code p inputs name b d s w k ask t.lays sh h (λ q. cc) t.well) means in
      let calm = quiet code p inputs name b d s w k ask t.lays sh h (λ q. cc) t.asked (λ q. cc) in
      let m = are_multiplied in
      let K = kind_of i0 in
      let z : ViewValue = (structure_of K).combine (value_in u.views K j) ((structure_of K).single v) in
      let X : Instance → View = (λ i. (monoid_of i).combine (s.piece (name k) i) ((monoid_of i).single v)) in
      let changes : ChangesIn u.views views K j (Some z) = subst (λ a. ChangesIn u.views views a j (Some ((structure_of a).combine (value_in u.views a j) ((structure_of a).single v)))) (sym is.0) changed in
      let hit : IsViewOf K (X i0) z =
      m.join K (s.piece (name k) i0) ((monoid_of i0).single v) (value_in u.views K j) ((structure_of K).single v) (own_views code p inputs name b d s w k ask t.lays sh h (λ q. cc) calm i0 j is.1) (m.single K v word) in
      done code p inputs name b d s w k ask t.lays sh h (λ q. cc) b' (Passes (Updates i0 v)) y.strands Done (answered Done y) (events.Update j v) c.items views notes
      refl tt refl refl refl (λ q. cc) (λ v q. cc) (λ v q. cc) (λ v gone q. cc) refl tt tt refl
      (strands_stay (Passes (Updates i0 v)) refl f.deeds ∙ strands_now code p inputs name b d s w k ask t.lays sh h (λ q. cc)) (j, is.1, refl)
      refl (λ a n it. sh.memory a n it) (λ n q none. refl)
      (λ i. cond (same_instance i0 i) (X i) (s.piece (name k) i)) (λ i. refl)
      (views_then name b d s w k ask t.lays sh h (λ q. cc) calm i0 j views z X is.1 changes hit)
      (bare_then name b d s w k ask t.lays sh h (λ q. cc) calm i0 j views z X is.1 changes hit)
      (bare_piece name b d s w k ask t.lays sh h (λ q. cc) calm i0 j views z X is.1 changes hit)

  pub sets : SetsAreShown code p inputs
  sets name b b' d s w k r v j views t h word means changed notes =
      let sh = t.shows in
      let o = sh.sits k h.frame_state h.sits in
      let f = o.frame in
      let u = h.worker in
      let y = h.came in
      let c = b.cells in
      let ask = asks.Set r v in
      let i0 = reducer_seen f.what r in
      let is = means_reducer code p inputs name b d s w k ask t.lays sh h (λ q. cc) r j (there code p inputs name b d s w k ask t.lays sh h (λ q. cc) t.well) means in
      let calm = quiet code p inputs name b d s w k ask t.lays sh h (λ q. cc) t.asked (λ q. cc) in
      let m = are_multiplied in
      let K = kind_of i0 in
      let z : ViewValue = (structure_of K).single v in
      let X : Instance → View = (λ i. (monoid_of i).single v) in
      let changes : ChangesIn u.views views K j (Some z) = subst (λ a. ChangesIn u.views views a j (Some ((structure_of a).single v))) (sym is.0) changed in
      let hit : IsViewOf K (X i0) z = m.single K v word in
      done code p inputs name b d s w k ask t.lays sh h (λ q. cc) b' (Passes (Sets i0 v)) y.strands Done (answered Done y) (events.Set j v) c.items views notes
      refl tt refl refl refl (λ q. cc) (λ v q. cc) (λ v q. cc) (λ v gone q. cc) refl tt tt refl
      (strands_stay (Passes (Sets i0 v)) refl f.deeds ∙ strands_now code p inputs name b d s w k ask t.lays sh h (λ q. cc)) (j, is.1, refl)
      refl (λ a n it. sh.memory a n it) (λ n q none. refl)
      (λ i. cond (same_instance i0 i) (X i) (s.piece (name k) i)) (λ i. refl)
      (views_then name b d s w k ask t.lays sh h (λ q. cc) calm i0 j views z X is.1 changes hit)
      (bare_then name b d s w k ask t.lays sh h (λ q. cc) calm i0 j views z X is.1 changes hit)
      (bare_piece name b d s w k ask t.lays sh h (λ q. cc) calm i0 j views z X is.1 changes hit)

  pub reads_value : ValuesAreShown code p inputs
  reads_value name b b' d s w k r v j views t h means number changed notes =
      let sh = t.shows in
      let o = sh.sits k h.frame_state h.sits in
      let f = o.frame in
      let u = h.worker in
      let y = h.came in
      let c = b.cells in
      let ask = asks.Value r in
      let i0 = reducer_seen f.what r in
      let is = means_reducer code p inputs name b d s w k ask t.lays sh h (λ q. cc) r j (there code p inputs name b d s w k ask t.lays sh h (λ q. cc) t.well) means in
      let calm = quiet code p inputs name b d s w k ask t.lays sh h (λ q. cc) t.asked (λ q. cc) in
      let m = are_multiplied in
      let K = kind_of i0 in
      let z : ViewValue = value_in u.views K j in
      let X : Instance → View = (λ i. s.piece (name k) i) in
      let changes : ChangesIn u.views views K j (Some z) = subst (λ a. ChangesIn u.views views a j (Some (value_in u.views a j))) (sym is.0) changed in
      let hit : IsViewOf K (X i0) z = own_views code p inputs name b d s w k ask t.lays sh h (λ q. cc) calm i0 j is.1 in
      let is_number : (monoid_of i0).number (s.piece (name k) i0) ≡ v = m.number K (s.piece (name k) i0) z hit ∙ ap (λ a. (structure_of a).number (value_in u.views a j)) is.0 ∙ sym number in
      done code p inputs name b d s w k ask t.lays sh h (λ q. cc) b' (Passes (Values i0 v)) y.strands (Value v) (answered (Value v) y) (events.Value j v) c.items views notes
      (ap (λ a. Does (Passes (Values i0 a))) is_number) tt refl refl refl (λ q. cc) (λ v q. cc) (λ v q. cc) (λ v gone q. cc) refl tt tt refl
      (strands_stay (Passes (Values i0 v)) refl f.deeds ∙ strands_now code p inputs name b d s w k ask t.lays sh h (λ q. cc)) (j, is.1, refl)
      refl (λ a n it. sh.memory a n it) (λ n q none. refl)
      (λ i. cond (same_instance i0 i) (X i) (s.piece (name k) i)) (λ i. either_one (same_instance i0 i) (s.piece (name k) i))
      (views_then name b d s w k ask t.lays sh h (λ q. cc) calm i0 j views z X is.1 changes hit)
      (bare_then name b d s w k ask t.lays sh h (λ q. cc) calm i0 j views z X is.1 changes hit)
      (bare_piece name b d s w k ask t.lays sh h (λ q. cc) calm i0 j views z X is.1 changes hit)

  pub prints : PrintsAreShown code p inputs
  prints name b b' d s w k v views t h word changes notes =
      let sh = t.shows in
      let o = sh.sits k h.frame_state h.sits in
      let f = o.frame in
      let u = h.worker in
      let y = h.came in
      let c = b.cells in
      let ask = asks.Print v in
      let calm = quiet code p inputs name b d s w k ask t.lays sh h (λ q. cc) t.asked (λ q. cc) in
      let m = are_multiplied in
      let z : ViewValue = (structure_of Append).combine (value_in u.views Append output) ((structure_of Append).single v) in
      let X : Instance → View = (λ i. (monoid_of i).combine (s.piece (name k) i) ((monoid_of i).single v)) in
      let hit : IsViewOf Append (X Output) z =
      m.join Append (s.piece (name k) Output) ((monoid_of Output).single v) (value_in u.views Append output) ((structure_of Append).single v) (own_views code p inputs name b d s w k ask t.lays sh h (λ q. cc) calm Output output (refl, refl)) (m.single Append v word) in
      done code p inputs name b d s w k ask t.lays sh h (λ q. cc) b' (Passes (Prints v)) y.strands Done (answered Done y) (events.Print v) c.items views notes
      refl tt refl refl refl (λ q. cc) (λ v q. cc) (λ v q. cc) (λ v gone q. cc) refl tt tt refl
      (strands_stay (Passes (Prints v)) refl f.deeds ∙ strands_now code p inputs name b d s w k ask t.lays sh h (λ q. cc)) refl
      refl (λ a n it. sh.memory a n it) (λ n q none. refl)
      (λ i. cond (same_instance Output i) (X i) (s.piece (name k) i)) (λ i. refl)
      (views_then name b d s w k ask t.lays sh h (λ q. cc) calm Output output views z X (refl, refl) changes hit)
      (bare_then name b d s w k ask t.lays sh h (λ q. cc) calm Output output views z X (refl, refl) changes hit)
      (bare_piece name b d s w k ask t.lays sh h (λ q. cc) calm Output output views z X (refl, refl) changes hit)
