-- In each event order along a plan a reducer's value is the number of its view:
-- `event_orders_have_numbers`. The same along an accepted run's plan: `accepted_have_numbers`.
--
-- - `starts_there`: each frame that a serial run starts is one that its program has;
-- - `worded`: what a course puts into views is words.
use Rattle.std.proofs.Common.{◌≡◌, inl, ℕ, suc, ◌-◌, ◌≤◌, ℤ, IsTrue, List, [], length, refl, sym, ap, ◌∙◌, subst, arith}
use Rattle.std.proofs.lemmas.Option.{slice_get_within}
use Rattle.cilk_types.specs.Word.{IsWord}
use Rattle.cilk_types.specs.declared.event.Event as numbers
use Rattle.cilk_types.specs.declared.event.Event.TheVariants as events
use Rattle.cilk_types.specs.declared.limits.TheConstants.{MAX_EVENTS, MAX_TICKS}
use Rattle.cilk_types.specs.declared.outcome.Outcome.{Outcome}
use Rattle.cilk_monoid.specs.Kinds.{structure_of}
use Rattle.cilk_monoid.specs.Ranges.{view_of}
use Rattle.cilk_program.specs.Inside.{body_of, CalleeIsFit}
use Rattle.cilk_program.specs.Outcomes.{Conclusion, Leaves}
use Rattle.cilk_program.specs.SerialRun.{Transcript, Frame, Memory, Ending, Serial, Made, Ended, Went, Broke, Refused, IsSerialRun}
use Rattle.cilk_program.specs.Sources.{source}
use Rattle.cilk_program.specs.Syntax.{Source}
use Rattle.cilk_program.specs.WellNamed.{is_well_named}
use Rattle.cilk_program.proofs.Existence.{serial_run_is_short}
use Rattle.cilk_program.proofs.Uniqueness.{serial_run_is_one}
use Rattle.cilk_tree.specs.declared.event_order.EventOrder.{EventOrder}
use Rattle.cilk_shared.specs.declared.reducers.Reducers.{Reducers}
use Rattle.cilk_shared.specs.Reducers.{kind_in}
use Rattle.cilk_determinacy.specs.Monoids.{unit_of}
use Rattle.cilk_determinacy.specs.Runs.{Cell, Global, Own, Run}
use Rattle.cilk_determinacy.specs.Traces.{trace, begin_due}
use Rattle.cilk_determinacy.specs.FrameEnvMachine.{next, opening_values}
use Rattle.cilk_determinacy.specs.Reducers.{monoid_of}
use Rattle.cilk_determinacy.specs.FrameEnvs.{FrameEnv, first_env, child_env}
use Rattle.cilk_determinacy.specs.Nested.{named, named_from}
use Rattle.cilk_determinacy.specs.Numbers.{cell_number, instance_number, numbered_events, AreNumbered}
use Rattle.cilk_determinacy.specs.Theorem.{IsNumbered}
use Rattle.cilk_determinacy.specs.Words.{InputsAreWords}
use Rattle.cilk_determinacy.proofs.Determinate.{serial_numbered}
use Rattle.cilk_determinacy.proofs.Numbered.{events_numbered}
use Rattle.cilk_determinacy.proofs.Weights.{written_length}
use Rattle.cilk_determinacy.proofs.Worded.{zero_word}
use Rattle.cilk_determinacy.proofs.Wordy.{opening_word}
use Rattle.cilk_replay.specs.InputCourses.{Course, run_of, all_asked, asked_in}
use Rattle.cilk_replay.specs.Frames.{same_frame, course_on}
use Rattle.cilk_replay.specs.Lists.{with_values}
use Rattle.cilk_replay.specs.EventOrders.{event_order_on, IsPlannedRun}
use Rattle.cilk_replay.proofs.CourseFrames.{runs_are_courses}
use Rattle.cilk_replay.proofs.CourseRuns.{run_all}
use Rattle.cilk_replay.proofs.CourseWords.{RunWords, words_else, all_else, next_words, whole_words}
use Rattle.cilk_replay.proofs.EventOrderValues.{serial, course}
use Rattle.cilk_threads.specs.Numbers.{HasAskedNumbers, EventOrdersAlongHaveNumbers, AcceptedEventOrdersHaveNumbers}
use Rattle.cilk_threads.specs.Tables.{AreReducersOf, HaveTheirKinds}
use Rattle.cilk_threads.proofs.AskedNumbers.{Held, AreAskedNumbers, numbers_at}
use Rattle.cilk_threads.proofs.Lasting.{over_from, retires_own}
use Rattle.cilk_threads.proofs.Opened.{FramesOpen, frames_open, there_fit, invoked_there}
use Rattle.cilk_threads.proofs.Tabled.{kinds_told}
use Rattle.cilk_threads.proofs.ViewsAlong.{StartsThere, at_hand, Tied, Along, valued_numbers, course_numbers}

-- ---- frames that are started
abbrev AllThere : Source → Transcript → Type 0
AllThere p r = (w : FrameEnv) (j : ℕ) → StartsThere p (named_from p w j r)

module _ (p : Source) (inputs : List ℤ) (well : IsTrue (is_well_named p)) where
  starts_there : {fr : Frame} {start : ℕ} {history : List ℤ} {m : Memory} {r : Transcript} {es : List numbers.Event} {end : Ending} → Serial p inputs fr start history m r es end
      → CalleeIsFit p fr.callee → AllThere p r
  starts_there (Made k left q inner ok rest) fit = λ w j. starts_there rest fit w j
  starts_there (Ended v left q ok) fit = λ w j. tt
  starts_there (Went {fr = fr} {start = start} {history = history} how callee left v left' m' q ok inner rest) fit =
      let there = invoked_there p inputs well fr start history how callee left fit q in
      λ w j. ((body_of p fr.callee, there), starts_there inner (there_fit p (body_of p fr.callee) callee there) (child_env p w j callee) 1, starts_there rest fit w (suc j))
  starts_there (Broke {fr = fr} {start = start} {history = history} how callee left f q ok inner) fit =
      let there = invoked_there p inputs well fr start history how callee left fit q in
      λ w j. ((body_of p fr.callee, there), starts_there inner (there_fit p (body_of p fr.callee) callee there) (child_env p w j callee) 1, tt)
  starts_there (Refused k left f q bad) fit = λ w j. tt

all_there : (p : Source) (inputs : List ℤ) (r : Transcript) (es : List numbers.Event) (c : Conclusion) → IsTrue (is_well_named p) → IsSerialRun p inputs r es c → StartsThere p (named p r)
all_there p inputs r es c well (end, d, e) = starts_there p inputs well d tt (first_env p) 1

-- ---- along a plan
module _ (p : Source) (inputs others : List ℤ) (run : Transcript) (es : List numbers.Event) (opening : List ℤ) (r : Reducers)
    (is : IsPlannedRun p inputs run es opening) (are : InputsAreWords others) (table : AreReducersOf p run r) where
  abbrev t : Run FrameEnv
  t = named p run

  abbrev c : Course FrameEnv
  c = course_on p others t

  abbrev s : EventOrder
  s = event_order_on p others run es opening

  pub kinds : HaveTheirKinds p run r
  kinds = kinds_told p run r table

  numbers_are : IsNumbered p inputs run es
  numbers_are = serial_numbered p inputs run es is.outcome is.named is.runs

  list : AreNumbered p run es
  list = events_numbered p inputs run es (Leaves is.outcome) is.named is.runs

  frames : FramesOpen p run
  frames = frames_open p inputs run es is.outcome is.named is.runs

  few : length (trace t) ≤ 1000000
  few =
      let n = numbers_are in
      let same = written_length (cell_number p run) (instance_number p run) (trace t) es n.written in
      let short = serial_run_is_short p inputs run es (Leaves is.outcome) is.runs in
      omega (arith, same, short)

  opening_is : (c : Cell) → IsWord (opening_values p inputs c)
  opening_is (Global n) = let w = is.words in opening_word p is.words inputs is.inputs_words p.openings w.openings n
  opening_is (Own name n) = zero_word

  run_words : RunWords t
  run_words =
      let own = runs_are_courses p inputs t (serial p inputs run es opening is) in
      subst RunWords (run_all t)
      (whole_words (next p inputs) (same_frame p) (next_words p inputs is.words is.inputs_words) (first_env p) (opening_values p inputs) (unit_of monoid_of) t (all_asked t) few tt opening_is (λ i. refl) own.0 (all_else t))

  worded : RunWords (run_of c)
  worded =
      whole_words (next p others) (same_frame p) (next_words p others is.words are) (first_env p) (opening_values p others) (unit_of monoid_of) t c few tt opening_is (λ i. refl)
      (course p inputs run es opening is others are) (words_else t c run_words)

  abbrev first_views : Held
  first_views = λ j. (structure_of (kind_in r j)).unit

  first_tied : Tied p run r table kinds (unit_of monoid_of) first_views
  first_tied i known = ap (λ k. (structure_of k).unit) (sym (kinds i known))

  pub both : Along p run r table kinds others is.named 0 [] (unit_of monoid_of) first_views c
  both =
      let n = numbers_are in
      let f = frames in
      let l = list in
      let w = first_env p in
      course_numbers p run r table kinds others is.named w w t f.first (record { name = refl; own = refl; before = refl; fit = tt }) [] (opening_values p others) (unit_of monoid_of) first_views 0 t c
      (course p inputs run es opening is others are) (at_hand p run begin_due 0 w t n.framed (retires_own p w 1 run) tt)
      (all_there p inputs run es (Leaves is.outcome) is.named is.runs) f.others l.here worded first_tied

  pub events_are : numbered_events p run [] (run_of c) ≡ with_values es (trace (run_of c))
  events_are =
      let l = list in
      let w = first_env p in
      sym (ap (λ (es : List numbers.Event). with_values es (trace (run_of c))) l.events
      ∙ valued_numbers p run r table kinds others is.named w w refl [] (opening_values p others) (unit_of monoid_of) t c (course p inputs run es opening is others are))

  have_numbers : HasAskedNumbers s r
  have_numbers q i v asked at =
      let S = structure_of (kind_in r i) in
      let within = slice_get_within (with_values es (trace (run_of c))) (q - 1) (events.Value i v) at in
      let right = subst (λ (l : List numbers.Event). AreAskedNumbers r 0 first_views l (asked_in c)) events_are both.0 in
      numbers_at r 0 first_views (with_values es (trace (run_of c))) (asked_in c) right (q - 1) i v at asked
      ∙ ap (λ l. S.number (view_of S i l)) (sym (over_from s r (q - 1) (omega (arith, within))))

pub event_orders_have_numbers : EventOrdersAlongHaveNumbers
event_orders_have_numbers p inputs others run es opening r is are table = have_numbers p inputs others run es opening r is are table

one_outcome : (p : Source) (inputs : List ℤ) (r r' : Transcript) (es es' : List numbers.Event) (o o' : Outcome) → IsSerialRun p inputs r es (Leaves o) → IsSerialRun p inputs r' es' (Leaves o')
    → o ≡ o'
one_outcome p inputs r r' es es' o o' h h' =
    let e = serial_run_is_one p inputs MAX_TICKS MAX_EVENTS r r' es es' (Leaves o) (Leaves o') h h' in
    same_outcome o o' e.2
  where
    same_outcome : (o o' : Outcome) → Leaves o ≡ Leaves o' → o ≡ o'
    same_outcome o o' h = cc h

pub accepted_have_numbers : AcceptedEventOrdersHaveNumbers
accepted_have_numbers a opening inputs s r whole table are told q i v follows at =
    let p = source a.program in
    let x = told.of_run in
    let own = whole.1.ended.ran in
    let same = one_outcome p a.input told.run own.run a.trace a.trace x.outcome a.outcome x.runs own.serial in
    let mine = table.frames told.run (subst (λ (o : Outcome). IsSerialRun p a.input told.run a.trace (Leaves o)) same x.runs) in
    let have = subst (λ (z : EventOrder). HasAskedNumbers z r) (sym told.is) (event_orders_have_numbers p a.input inputs told.run a.trace opening r x are mine) in
    have q i v (follows q (inl refl)) at
