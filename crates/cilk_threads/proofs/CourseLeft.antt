-- The outcome of an event order is that of the run by names of its course: `course_left`.
--
-- - `held_is`: a reducer's view after a list is that of the list's reducer events;
-- - `value_is`: the views of all events are those of the run by names.
use Rattle.std.proofs.Common.{◌≡◌, ℕ, suc, ◌+◌, ℤ, IsTrue, List, [], ◌∷◌, length, reverse, slice_get, Some, refl, sym, ap, ap₂, ◌∙◌, subst, arith}
use Rattle.cilk_types.specs.declared.event.Event.{Event}
use Rattle.cilk_types.specs.declared.event.Event.TheVariants as events
use Rattle.cilk_types.specs.declared.event.Instance as numbered
use Rattle.cilk_types.specs.declared.outcome.Final.{Final}
use Rattle.cilk_types.specs.declared.outcome.Outcome.{Outcome}
use Rattle.cilk_monoid.specs.declared.kind.MonoidKind.{MonoidKind}
use Rattle.cilk_monoid.specs.Kinds.{structure_of, final_of}
use Rattle.cilk_monoid.specs.Ranges as ranges
use Rattle.cilk_monoid.specs.Values.{ViewValue}
use Rattle.cilk_monoid.proofs.RangeLaws.{view_after-append}
use Rattle.cilk_monoid.proofs.SameKinds.{kind_itself}
use Rattle.cilk_hypermap.specs.declared.hypermap.Hypermap.{Hypermap}
use Rattle.cilk_hypermap.specs.Hypermap.{value_in}
use Rattle.cilk_hypermap.specs.Views.{output}
use Rattle.cilk_program.specs.Outcomes.{Leaves, cells_from}
use Rattle.cilk_program.specs.SerialRun.{Transcript}
use Rattle.cilk_program.specs.Syntax.{Source}
use Rattle.cilk_program.specs.WellNamed.{is_kind}
use Rattle.cilk_program.specs.Answered.{prints}
use Rattle.cilk_tree.specs.declared.event_order.EventOrder.{EventOrder}
use Rattle.cilk_shared.specs.declared.reducers.Reducers.{Reducers}
use Rattle.cilk_shared.specs.Reducers.{entered, kind_in, of_event}
use Rattle.cilk_determinacy.specs.Monoids.{unit_of}
use Rattle.cilk_determinacy.specs.Runs.{Global, Instance, Reads, Writes, Passes, Updates, Sets, Values, Prints, Deed, Does, Run}
use Rattle.cilk_determinacy.specs.Serial.{value_after}
use Rattle.cilk_determinacy.specs.Traces.{trace}
use Rattle.cilk_determinacy.specs.Views.{view_after}
use Rattle.cilk_frames.specs.Leaving.{finals_of}
use Rattle.cilk_determinacy.specs.FrameEnvMachine.{opening_values}
use Rattle.cilk_determinacy.specs.Reducers.{View, kind_of, monoid_of, value_of}
use Rattle.cilk_determinacy.specs.Steps.{finals_in, result_in}
use Rattle.cilk_determinacy.specs.FrameEnvs.{FrameEnv, global_named}
use Rattle.cilk_determinacy.specs.Nested.{named}
use Rattle.cilk_determinacy.specs.Numbers.{instance_number, HasInstance, numbered_events}
use Rattle.cilk_determinacy.specs.Words.{InputsAreWords}
use Rattle.cilk_determinacy.proofs.Numbered.{events_numbered}
use Rattle.cilk_determinacy.proofs.Sights.{global_here}
use Rattle.cilk_replay.specs.InputCourses.{run_of}
use Rattle.cilk_replay.specs.Frames.{course_on}
use Rattle.cilk_replay.specs.Left.{left_by, printed_in}
use Rattle.cilk_replay.specs.Lists.{with_value, with_values}
use Rattle.cilk_replay.specs.EventOrders.{event_order_on, IsPlannedRun}
use Rattle.cilk_replay.proofs.Elided.{same_cells_from}
use Rattle.cilk_replay.proofs.Leaving.{cells_left, prints_left}
use Rattle.cilk_threads.specs.Finals.{IsMadeOf}
use Rattle.cilk_threads.specs.Tables.{AreReducersOf, HaveTheirKinds}
use Rattle.cilk_threads.proofs.AskedNumbers.{Held, felt, held_after}
use Rattle.cilk_threads.proofs.Lasting.{LeavesOutput, AllLeave, all_leave, list_from, over_list, prints_viewed}
use Rattle.cilk_threads.proofs.Leaving.{all_same}
use Rattle.cilk_threads.proofs.NumbersAlong.{both, events_are}
use Rattle.cilk_threads.proofs.Tabled.{kinds_told}

held_is : (r : Reducers) (g : ℕ) (es : List Event) (h : Held) (j : numbered.Instance)
    → held_after r g es h j ≡ ranges.view_after (structure_of (kind_in r j)) j (list_from r g es) (h j)
held_is r g [] h j = refl
held_is r g (e ∷ es) h j =
    held_is r (entered e g) es (felt r (entered e g) e h) j
    ∙ sym (view_after-append (structure_of (kind_in r j)) j (of_event r (entered e g) (Some e)) (list_from r (entered e g) es) (h j))

-- the events that a course makes of a plan's leave the output's view to prints, as the plan's do
leaves_value : (e : Event) (d : Deed FrameEnv) → LeavesOutput e → LeavesOutput (with_value e d)
leaves_value (events.Read c v) (Does (Reads i x)) h = tt
leaves_value (events.Write c v) (Does (Writes i x)) h = tt
leaves_value (events.Update i v) (Does (Passes (Updates j x))) h = h
leaves_value (events.Set i v) (Does (Passes (Sets j x))) h = h
leaves_value (events.Value i v) (Does (Passes (Values j x))) h = tt
leaves_value (events.Print v) (Does (Passes (Prints x))) h = tt
leaves_value e d h = h

leaves_values : (es : List Event) (ds : List (Deed FrameEnv)) → AllLeave es → AllLeave (with_values es ds)
leaves_values [] ds h = tt
leaves_values (e ∷ es) [] h = h
leaves_values (e ∷ es) (d ∷ ds) h = (leaves_value e d h.0, leaves_values es ds h.1)

module _ (p : Source) (inputs others : List ℤ) (run : Transcript) (es : List Event) (opening : List ℤ) (r : Reducers)
    (is : IsPlannedRun p inputs run es opening) (are : InputsAreWords others) (table : AreReducersOf p run r) where
  abbrev u : Run FrameEnv
  u = run_of (course_on p others (named p run))

  abbrev s : EventOrder
  s = event_order_on p others run es opening

  kinds : HaveTheirKinds p run r
  kinds = kinds_told p run r table

  abbrev views_left : Instance → View
  views_left = λ i. view_after (monoid_of i) i u (unit_of monoid_of i)

  value_is : (h : Hypermap) → ((j : numbered.Instance) → value_in h (kind_in r j) j ≡ ranges.view_of (structure_of (kind_in r j)) j (list_from r 0 s.events))
      → (i : Instance) → HasInstance p run i → value_in h (kind_of i) (instance_number p run i) ≡ value_of (kind_of i) (views_left i)
  value_is h shown i here =
      let j = instance_number p run i in
      let tied = (both p inputs others run es opening r is are table).1 in
      ap (λ (k : MonoidKind). value_in h k j) (sym (kinds i here))
      ∙ shown j
      ∙ ap (λ (l : List Event). ranges.view_of (structure_of (kind_in r j)) j (list_from r 0 l)) (sym (events_are p inputs others run es opening r is are table))
      ∙ sym (held_is r 0 (numbered_events p run [] u) (λ (j : numbered.Instance). (structure_of (kind_in r j)).unit) j)
      ∙ sym (tied i here)

  finals_are : (h : Hypermap) → ((j : numbered.Instance) → value_in h (kind_in r j) j ≡ ranges.view_of (structure_of (kind_in r j)) j (list_from r 0 s.events))
      → (n : ℕ) (ks : List MonoidKind) → ((m : ℕ) (k : MonoidKind) → IsTrue (is_kind (slice_get ks m) k) → HasInstance p run (global_named (n + m) k))
      → finals_of h n ks ≡ finals_in views_left n ks
  finals_are h shown n [] has = refl
  finals_are h shown n (k ∷ ks) has =
      let z : n + 0 ≡ n = omega arith in
      ap₂ (λ (v : ViewValue) (l : List Final). final_of v ∷ l)
      (value_is h shown (global_named n k) (subst (λ (n : ℕ). HasInstance p run (global_named n k)) z (has 0 k (kind_itself k))))
      (finals_are h shown (suc n) ks (λ m j q. let y : n + suc m ≡ suc n + m = omega arith in subst (λ (n : ℕ). HasInstance p run (global_named n j)) y (has (suc m) j q)))

  pub course_left : (value : ℤ) (o : Outcome) → IsMadeOf p s r value o → result_in (reverse (trace u)) ≡ value → o ≡ left_by p others u
  course_left value o made result = all_same (made.result ∙ sym result) globals printed reducers
    where
      shown : (j : numbered.Instance) → value_in made.views (kind_in r j) j ≡ ranges.view_of (structure_of (kind_in r j)) j (list_from r 0 s.events)
      shown j = made.shown j ∙ ap (ranges.view_of (structure_of (kind_in r j)) j) (over_list s r)

      globals : o.globals ≡ cells_from 0 (length p.openings) (λ n. value_after u (Global n) (opening_values p others (Global n)))
      globals = made.globals ∙ same_cells_from 0 (length p.openings) _ _ (λ i less. sym (cells_left p inputs run es opening is others are (Global i) (omega (arith, less))))

      leave : AllLeave s.events
      leave =
          let list = events_numbered p inputs run es (Leaves is.outcome) is.named is.runs in
          leaves_values es (trace u) (subst AllLeave (sym list.events) (all_leave p run [] (named p run) list.here))

      printed : o.output ≡ printed_in (trace u)
      printed =
          made.printed (prints s.events) (shown output ∙ prints_viewed r 0 s.events (leave) [])
          ∙ sym (prints_left p inputs run es opening is others are)

      reducers : o.reducers ≡ finals_in views_left 0 p.reducers
      reducers =
          made.reducers
          ∙ finals_are made.views shown 0 p.reducers (λ m k q. let z : m ≡ 0 + m = omega arith in subst (λ (n : ℕ). HasInstance p run (global_named n k)) z (global_here p run m k q))
