-- The outcome of a state of the free machine once the first frame has ended.
use Rattle.std.proofs.Common.{◌≡◌, ℕ, zero, suc, ◌+◌, ◌<◌, ℤ, IsTrue, List, [], ◌∷◌, length, slice_get, refl, ap, ap₂, ◌∙◌, subst, arith}
use Rattle.cilk_types.specs.declared.event.Event.{Event}
use Rattle.cilk_types.specs.declared.outcome.Final.{Final}
use Rattle.cilk_types.specs.declared.outcome.Outcome.{Outcome}
use Rattle.cilk_monoid.specs.declared.kind.MonoidKind.{MonoidKind}
use Rattle.cilk_monoid.proofs.SameKinds.{kind_itself}
use Rattle.cilk_monoid.specs.declared.kind.MonoidKind.TheVariants.{Append}
use Rattle.cilk_monoid.specs.Kinds.{final_of}
use Rattle.cilk_program.specs.declared.ask.Ask as language
use Rattle.cilk_program.specs.declared.ask.Ask.TheVariants as asks
use Rattle.cilk_program.specs.Outcomes.{cells_from, finals_from, outcome_of}
use Rattle.cilk_program.specs.Store.{Store}
use Rattle.cilk_program.specs.Syntax.{Source}
use Rattle.cilk_program.specs.WellNamed.{is_kind}
use Rattle.cilk_program.specs.SerialRun as serial
use Rattle.cilk_program.specs.SerialRun.{Memory, answer_to, global_reducer, IsInner, Ending, Finished, Serial, Made, Ended, Went}
use Rattle.cilk_types.specs.declared.event.Instance as numbered
use Rattle.cilk_determinacy.specs.Runs.{Cell, Global, Instance, Output, Does, Deed}
use Rattle.cilk_determinacy.specs.Machine.{State, deeds_at, HasEnd}
use Rattle.cilk_determinacy.specs.Serial.{own_deeds}
use Rattle.cilk_determinacy.specs.Reducers.{View, value_of, elements_of}
use Rattle.cilk_determinacy.specs.FrameEnvs.{FrameEnv, global_named}
use Rattle.cilk_determinacy.specs.Nested.{named_event, named_from}
use Rattle.cilk_determinacy.specs.Steps.{result_in, finals_in, outcome_in}
use Rattle.cilk_determinacy.specs.Numbers.{HasInstance}
use Rattle.cilk_determinacy.proofs.Remembered.{view_at}
use Rattle.cilk_determinacy.proofs.Sights.{global_tied, global_here}
use Rattle.cilk_determinacy.proofs.Stores.{Same}

-- an event after which the frame continues gives no result
inner_result : (p : Source) (w : FrameEnv) (a : language.Ask) (v : ℤ) (ds : List (Deed FrameEnv)) → IsInner a → result_in (Does (named_event p w a v) ∷ ds) ≡ result_in ds
inner_result p w asks.Begin v ds i = refl
inner_result p w (asks.Read x) v ds i = refl
inner_result p w (asks.Write x y) v ds i = refl
inner_result p w (asks.Create c) v ds i = refl
inner_result p w (asks.Update c y) v ds i = refl
inner_result p w (asks.Set c y) v ds i = refl
inner_result p w (asks.Value c) v ds i = refl
inner_result p w (asks.Print y) v ds i = refl
inner_result p w (asks.Invoke how callee) v ds i = absurd i
inner_result p w asks.Resume v ds i = refl
inner_result p w asks.Sync v ds i = refl
inner_result p w (asks.Result y) v ds i = refl
inner_result p w (asks.End y) v ds i = absurd i
inner_result p w (asks.Fault f) v ds i = absurd i

abbrev GivesResult : Ending → List (Deed FrameEnv) → Type 0
GivesResult (Finished v left m) ds = result_in ds ≡ v
GivesResult (serial.Stopped f) ds = Unit {0}

result_before : (end : Ending) (ds ds' : List (Deed FrameEnv)) → result_in ds' ≡ result_in ds → GivesResult end ds → GivesResult end ds'
result_before (Finished v left m) ds ds' e h = e ∙ h
result_before (serial.Stopped f) ds ds' e h = tt

pub run_result : {p : Source} {inputs : List ℤ} {fr : _} {start : ℕ} {history : List ℤ} {m : Memory} {r : serial.Transcript} {es : List Event} {end : Ending} → Serial p inputs fr start history m r es end
    → (w : FrameEnv) (k : ℕ) → GivesResult end (own_deeds (named_from p w k r))
run_result {p = p} (Made {fr = fr} {m = m} {r = r} {end = end} a left q inner ok rest) w k =
    result_before end (own_deeds (named_from p w k r)) (own_deeds (named_from p w k (serial.act a (answer_to fr m a) r))) (inner_result p w a (answer_to fr m a) (own_deeds (named_from p w k r)) inner) (run_result rest w k)
run_result (Ended v left q ok) w k = refl
run_result {p = p} (Went {u = u} {r = r} {end = end} how callee left v left' m' q ok inner rest) w k =
    result_before end (own_deeds (named_from p w (suc k) r)) (own_deeds (named_from p w k (serial.child how callee u r))) refl (run_result rest w (suc k))
run_result (serial.Broke how callee left f q ok inner) w k = tt
run_result (serial.Refused k' left f q bad) w k = tt

-- a run that finishes has its first frame's end
goes_on : (p : Source) (w : FrameEnv) (a : language.Ask) (v : ℤ) (ds : List (Deed FrameEnv)) → IsInner a → HasEnd ds → HasEnd (Does (named_event p w a v) ∷ ds)
goes_on p w asks.Begin v ds i h = h
goes_on p w (asks.Read x) v ds i h = h
goes_on p w (asks.Write x y) v ds i h = h
goes_on p w (asks.Create c) v ds i h = h
goes_on p w (asks.Update c y) v ds i h = h
goes_on p w (asks.Set c y) v ds i h = h
goes_on p w (asks.Value c) v ds i h = h
goes_on p w (asks.Print y) v ds i h = h
goes_on p w (asks.Invoke how callee) v ds i h = absurd i
goes_on p w asks.Resume v ds i h = h
goes_on p w asks.Sync v ds i h = h
goes_on p w (asks.Result y) v ds i h = h
goes_on p w (asks.End y) v ds i h = absurd i
goes_on p w (asks.Fault f) v ds i h = absurd i

abbrev Finishes : Ending → Type 0
Finishes (Finished v left m) = Unit {0}
Finishes (serial.Stopped f) = ⊥

pub run_ends : {p : Source} {inputs : List ℤ} {fr : _} {start : ℕ} {history : List ℤ} {m : Memory} {r : serial.Transcript} {es : List Event} {end : Ending} → Serial p inputs fr start history m r es end
    → Finishes end → (w : FrameEnv) (k : ℕ) → HasEnd (own_deeds (named_from p w k r))
run_ends {p = p} (Made {fr = fr} {m = m} {r = r} a left q inner ok rest) h w k = goes_on p w a (answer_to fr m a) (own_deeds (named_from p w k r)) inner (run_ends rest h w k)
run_ends (Ended v left q ok) h w k = tt
run_ends (Went how callee left v left' m' q ok inner rest) h w k = run_ends rest h w (suc k)
run_ends (serial.Broke how callee left f q ok inner) h w k = absurd h
run_ends (serial.Refused k' left f q bad) h w k = absurd h

same_cells_from : (from n : ℕ) (f g : ℕ → ℤ) → ((i : ℕ) → i < from + n → f i ≡ g i) → cells_from from n f ≡ cells_from from n g
same_cells_from from zero f g h = refl
same_cells_from from (suc n) f g h = ap₂ (λ x xs. x ∷ xs) (h from (omega arith)) (same_cells_from (suc from) n f g (λ i less. h i (omega (arith, less))))

abbrev outcome_made : ℤ → List ℤ → List ℤ → List Final → Outcome
outcome_made a b c d = record { result = a; globals = b; output = c; reducers = d }

outcome_is : (a a' : ℤ) (b b' c c' : List ℤ) (d d' : List Final) → a ≡ a' → b ≡ b' → c ≡ c' → d ≡ d' → outcome_made a b c d ≡ outcome_made a' b' c' d'
outcome_is a a' b b' c c' d d' e f g h = ap₂ (λ a b. outcome_made a b c d) e f ∙ ap₂ (λ c d. outcome_made a' b' c d) g h

module _ (p : Source) (r : serial.Transcript) where
  same_finals : (memory : Cell → ℤ) (views : Instance → View) (store : Store numbered.Instance) → Same p r memory views store → (n : ℕ) (ks : List MonoidKind) → ((i : ℕ) (k : MonoidKind) → IsTrue (is_kind (slice_get ks i) k) → HasInstance p r (global_named (n + i) k))
      → finals_in views n ks ≡ finals_from global_reducer n ks store
  same_finals memory views store same n [] has = refl
  same_finals memory views store same n (k ∷ ks) has =
      let e : n + 0 ≡ n = omega arith in
      ap₂ (λ x xs. x ∷ xs) (ap final_of (view_at p r memory views store (global_named n) k (global_reducer n) (subst (λ n. HasInstance p r (global_named n k)) e (has 0 k (kind_itself k))) (global_tied p r n) same))
      (same_finals memory views store same (suc n) ks (λ i j is. let e' : n + suc i ≡ suc n + i = omega arith in subst (λ n. HasInstance p r (global_named n j)) e' (has (suc i) j is)))

  -- a state whose memory and views are those of a store, with this result
  pub same_outcome : (s : State FrameEnv View) (v : ℤ) (memory : Cell → ℤ) (views : Instance → View) (store : Store numbered.Instance) → Same p r memory views store → result_in (deeds_at (s.frames [])) ≡ v → ((c : Cell) → s.memory c ≡ memory c)
      → ((i : Instance) → s.piece [] i ≡ views i) → outcome_in p s ≡ outcome_of global_reducer p v store
  same_outcome s v memory views store same result cells pieces =
      let globals : cells_from 0 (length p.openings) (λ n. s.memory (Global n)) ≡ cells_from 0 (length p.openings) store.cells = same_cells_from 0 (length p.openings) _ _ (λ i less. cells (Global i) ∙ same.cells (Global i) (omega (arith, less))) in
      let output : elements_of (value_of Append (s.piece [] Output)) ≡ store.output = ap (λ (view : View). elements_of (value_of Append view)) (pieces Output) ∙ ap elements_of same.output in
      let finals : finals_in (s.piece []) 0 p.reducers ≡ finals_from global_reducer 0 p.reducers store =
      finals_as 0 p.reducers ∙ same_finals memory views store same 0 p.reducers (λ i k is. let e : i ≡ 0 + i = omega arith in subst (λ n. HasInstance p r (global_named n k)) e (global_here p r i k is)) in
      outcome_is _ _ _ _ _ _ _ _ result globals output finals
    where
      finals_as : (n : ℕ) (ks : List MonoidKind) → finals_in (s.piece []) n ks ≡ finals_in views n ks
      finals_as n [] = refl
      finals_as n (k ∷ ks) = ap₂ (λ (view : View) xs. final_of (value_of k view) ∷ xs) (pieces (global_named n k)) (finals_as (suc n) ks)
