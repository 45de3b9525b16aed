-- The event order of a plan's run on another input has values: `event_orders_have_values`. On the run's
-- own input it is the plan's: `own_event_order`. A serial run by names reads, writes and puts into views
-- only words: `own_words`.
use Rattle.std.proofs.Common.{◌≡◌, ◌≤◌, ℕ, ◌-◌, ℤ, pos, Bool, true, false, List, [], ◌∷◌, ◌++◌, zero, suc, length, Some, None, slice_get, slice_index_or, unwrap_or, refl, sym, ap, ap₂, ◌∙◌, subst, arith, inl}
use Rattle.std.proofs.lemmas.Option.{slice_get_past}
use Rattle.cilk_types.specs.declared.event.Event as numbers
use Rattle.cilk_types.specs.declared.event.Event.TheVariants as events
use Rattle.cilk_types.specs.declared.event.Instance as numbered
use Rattle.cilk_types.specs.declared.invocation.Invocation.TheVariants.{Call, Spawn}
use Rattle.cilk_types.specs.Word.{IsWord}
use Rattle.cilk_program.specs.Outcomes.{Leaves}
use Rattle.cilk_program.specs.SerialRun.{Transcript}
use Rattle.cilk_program.specs.Syntax.{Source}
use Rattle.cilk_program.specs.Answered.{opening_cells}
use Rattle.cilk_program.proofs.Existence.{serial_run_is_short}
use Rattle.cilk_program.proofs.Numbers.{past_globals}
use Rattle.cilk_tree.specs.declared.event_order.EventOrder.{EventOrder}
use Rattle.cilk_tree.specs.Values.{HasValues}
use Rattle.cilk_tree.specs.Word.{event}
use Rattle.cilk_tree.specs.Kinds.{IsOfWords}
use Rattle.cilk_tree.specs.Passes.{predecessors_in}
use Rattle.cilk_tree.specs.Planned.{planned}
use Rattle.cilk_tree.specs.Planned as plans
use Rattle.cilk_determinacy.specs.Monoids.{unit_of}
use Rattle.cilk_determinacy.specs.Runs.{Cell, Global, Own, Instance, Begins, Resumes, Creates, Updates, Sets, Values, Prints, Event, Reads, Writes, Syncs, Ends, Passes, Deed, Does, Invokes, Run}
use Rattle.cilk_determinacy.specs.Runs as runs
use Rattle.cilk_determinacy.specs.Traces.{trace, begin_due, IsFramed, IsWritten, AreWritten}
use Rattle.cilk_determinacy.specs.FrameEnvMachine.{next, opening_values}
use Rattle.cilk_determinacy.specs.Reducers.{View, monoid_of}
use Rattle.cilk_determinacy.specs.FrameEnvs.{FrameEnv, first_env}
use Rattle.cilk_determinacy.specs.Nested.{named}
use Rattle.cilk_determinacy.specs.Numbers.{cell_number, instance_number, HasCell, EventIsHere, AreHere}
use Rattle.cilk_determinacy.specs.Theorem.{IsNumbered}
use Rattle.cilk_determinacy.specs.Words.{HasWords, InputsAreWords}
use Rattle.cilk_determinacy.proofs.Determinate.{serial_by_names, serial_numbered}
use Rattle.cilk_determinacy.proofs.Numbered.{events_numbered}
use Rattle.cilk_determinacy.proofs.Numbers.{cell_is, same_cells}
use Rattle.cilk_determinacy.proofs.Weights.{written_length}
use Rattle.cilk_determinacy.proofs.Worded.{zero_word}
use Rattle.cilk_determinacy.proofs.Wordy.{opening_word, set_words}
use Rattle.cilk_replay.specs.InputCourses.{Course, stop, act, child, run_of, all_asked, asked_in}
use Rattle.cilk_replay.specs.Frames.{same_frame, course_on, IsCourseOn, IsSerialRunOn}
use Rattle.cilk_replay.specs.Lists.{with_value, with_values, event_order_along}
use Rattle.cilk_replay.specs.EventOrders.{event_order_on, IsPlannedRun, OwnEventOrder, EventOrdersAlongHaveValues}
use Rattle.cilk_replay.proofs.CourseFrames.{runs_are_courses, programs_have_one}
use Rattle.cilk_replay.proofs.CourseLists.{kept_kinds, course_written}
use Rattle.cilk_replay.proofs.CourseRuns.{run_all}
use Rattle.cilk_replay.proofs.CourseValues.{EventKnown, IsKnown, course_right}
use Rattle.cilk_replay.proofs.CourseWords.{EventWords, RunWords, words_else, all_else, next_words, whole_words}
use Rattle.cilk_replay.proofs.LastWrites.{AreAskedRight, asked_right, last_value}

abbrev all_true : {A : Type 0} → List A → List Bool
all_true [] = []
all_true (x ∷ xs) = true ∷ all_true xs

true_both : {A : Type 0} (xs ys : List A) → all_true xs ++ all_true ys ≡ all_true (xs ++ ys)
true_both [] ys = refl
true_both (x ∷ xs) ys = ap (λ (l : List Bool). true ∷ l) (true_both xs ys)

true_all : (t : Run FrameEnv) → asked_in (all_asked t) ≡ all_true (trace t)
true_all runs.stop = refl
true_all (runs.act e r) = ap (λ (l : List Bool). true ∷ l) (true_all r)
true_all (runs.child k v u r) =
    ap (λ (l : List Bool). true ∷ l) (ap (λ (l : List Bool). l ++ asked_in (all_asked r)) (true_all u) ∙ ap (λ (l : List Bool). all_true (trace u) ++ l) (true_all r) ∙ true_both (trace u) (trace r))

-- ---- lists of words

abbrev DeedWords : Deed FrameEnv → Type 0
DeedWords (Does e) = EventWords e
DeedWords (Invokes k v) = Unit {0}

abbrev ListWords : List (Deed FrameEnv) → Type 0
ListWords [] = Unit {0}
ListWords (d ∷ ds) = DeedWords d × ListWords ds

words_both : (ds ms : List (Deed FrameEnv)) → ListWords ds → ListWords ms → ListWords (ds ++ ms)
words_both [] ms h g = g
words_both (d ∷ ds) ms h g = (h.0, words_both ds ms h.1 g)

list_words : (t : Run FrameEnv) → RunWords t → ListWords (trace t)
list_words runs.stop h = tt
list_words (runs.act e r) h = (h.0, list_words r h.1)
list_words (runs.child k v u r) h = (tt, words_both (trace u) (trace r) (list_words u h.1) (list_words r h.2))

module _ (cell : Cell → ℕ) (instance : Instance → numbered.Instance) where
  one_of_words : (d : Deed FrameEnv) (n : numbers.Event) → IsWritten cell instance d n → DeedWords d → IsOfWords n
  one_of_words (Does (Reads c v)) n is h = subst IsOfWords (sym is) h
  one_of_words (Does (Writes c v)) n is h = subst IsOfWords (sym is) h
  one_of_words (Does Syncs) n is h = subst IsOfWords (sym is) tt
  one_of_words (Does (Ends v gone)) n is h = subst IsOfWords (sym is) tt
  one_of_words (Does (Passes Begins)) n is h = subst IsOfWords (sym is.1) tt
  one_of_words (Does (Passes Resumes)) n is h = subst IsOfWords (sym is.1) tt
  one_of_words (Does (Passes (Creates i))) n is h = subst IsOfWords (sym is) tt
  one_of_words (Does (Passes (Updates i x))) n is h = subst IsOfWords (sym is) tt
  one_of_words (Does (Passes (Sets i x))) n is h = subst IsOfWords (sym is) tt
  one_of_words (Does (Passes (Values i x))) n is h = subst IsOfWords (sym is) tt
  one_of_words (Does (Passes (Prints x))) n is h = subst IsOfWords (sym is) tt
  one_of_words (Invokes Call v) n is h = subst IsOfWords (sym is.1) tt
  one_of_words (Invokes Spawn v) n is h = subst IsOfWords (sym is.1) tt

  each_of_words : (ds : List (Deed FrameEnv)) (es : List numbers.Event) → AreWritten cell instance ds es → ListWords ds → (k : ℕ) (e : numbers.Event)
      → slice_get es k ≡ Some e → IsOfWords e
  each_of_words [] [] is h k e q = let none : None ≡ Some e = q in absurd (cc)
  each_of_words [] (n ∷ es) is h k e q = absurd is
  each_of_words (d ∷ ds) [] is h k e q = absurd is
  each_of_words (d ∷ ds) (n ∷ es) is h zero e q =
      let same : n ≡ e = cc in
      subst IsOfWords same (one_of_words d n is.0 h.0)
  each_of_words (d ∷ ds) (n ∷ es) is h (suc k) e q = each_of_words ds es is.1 h.1 k e q

  -- the list of a run, with the run's own values
  own_value : (d : Deed FrameEnv) (n : numbers.Event) → IsWritten cell instance d n → with_value n d ≡ n
  own_value (Does (Reads c v)) n is = subst (λ n. with_value {W = FrameEnv} n (Does (Reads c v)) ≡ n) (sym is) refl
  own_value (Does (Writes c v)) n is = subst (λ n. with_value {W = FrameEnv} n (Does (Writes c v)) ≡ n) (sym is) refl
  own_value (Does Syncs) n is = subst (λ n. with_value {W = FrameEnv} n (Does Syncs) ≡ n) (sym is) refl
  own_value (Does (Ends v gone)) n is = subst (λ n. with_value {W = FrameEnv} n (Does (Ends v gone)) ≡ n) (sym is) refl
  own_value (Does (Passes Begins)) n is = subst (λ n. with_value {W = FrameEnv} n (Does (Passes Begins)) ≡ n) (sym is.1) refl
  own_value (Does (Passes Resumes)) n is = subst (λ n. with_value {W = FrameEnv} n (Does (Passes Resumes)) ≡ n) (sym is.1) refl
  own_value (Does (Passes (Creates i))) n is = subst (λ n. with_value {W = FrameEnv} n (Does (Passes (Creates i))) ≡ n) (sym is) refl
  own_value (Does (Passes (Updates i x))) n is = subst (λ n. with_value {W = FrameEnv} n (Does (Passes (Updates i x))) ≡ n) (sym is) refl
  own_value (Does (Passes (Sets i x))) n is = subst (λ n. with_value {W = FrameEnv} n (Does (Passes (Sets i x))) ≡ n) (sym is) refl
  own_value (Does (Passes (Values i x))) n is = subst (λ n. with_value {W = FrameEnv} n (Does (Passes (Values i x))) ≡ n) (sym is) refl
  own_value (Does (Passes (Prints x))) n is = subst (λ n. with_value {W = FrameEnv} n (Does (Passes (Prints x))) ≡ n) (sym is) refl
  own_value (Invokes Call v) n is = subst (λ n. with_value n (Invokes Call v) ≡ n) (sym is.1) refl
  own_value (Invokes Spawn v) n is = subst (λ n. with_value n (Invokes Spawn v) ≡ n) (sym is.1) refl

  own_values : (ds : List (Deed FrameEnv)) (es : List numbers.Event) → AreWritten cell instance ds es → with_values es ds ≡ es
  own_values [] [] is = refl
  own_values [] (n ∷ es) is = absurd is
  own_values (d ∷ ds) [] is = absurd is
  own_values (d ∷ ds) (n ∷ es) is = ap₂ (λ (n : numbers.Event) l. n ∷ l) (own_value d n is.0) (own_values ds es is.1)

  -- as many marks of requests as events
  all_of : (ds : List (Deed FrameEnv)) (es : List numbers.Event) (bs : List Bool) → AreWritten cell instance ds es → bs ≡ all_true ds → bs ≡ plans.all_asked es
  all_of ds es bs is e = e ∙ by ds es is
    where
      by : (ds : List (Deed FrameEnv)) (es : List numbers.Event) → AreWritten cell instance ds es → all_true ds ≡ plans.all_asked es
      by [] [] is = refl
      by [] (n ∷ es) is = absurd is
      by (d ∷ ds) [] is = absurd is
      by (d ∷ ds) (n ∷ es) is = ap (λ (l : List Bool). true ∷ l) (by ds es is.1)

pub known_here : (p : Source) (r : Transcript) (t : Run FrameEnv) → AreHere p r t → IsKnown (HasCell p r) t
known_here p r runs.stop h = tt
known_here p r (runs.act e t) h = (by e h.0, known_here p r t h.1)
  where
    by : (e : Event) → EventIsHere p r e → EventKnown (HasCell p r) e
    by (Reads c v) h = h
    by (Writes c v) h = h
    by Syncs h = tt
    by (Ends v gone) h = tt
    by (Passes m) h = tt
known_here p r (runs.child k v u t) h = (known_here p r u h.1, known_here p r t h.2)

opens_with : (xs : List ℤ) (n : ℕ) → length xs ≤ n → pos 0 ≡ unwrap_or (slice_get xs n) (pos 0)
opens_with xs n h = ap (λ o. unwrap_or o (pos 0)) (sym (slice_get_past xs n h))

-- the cells of a run open as the program's do
pub cells_open : (p : Source) (inputs : List ℤ) (r : Transcript) (c : Cell) → HasCell p r c
    → opening_values p inputs c ≡ opening_cells p inputs (cell_number p r c)
cells_open p inputs r (Global n) has = refl
cells_open p inputs r (Own name n) (here, less) =
    let low = past_globals p r here.path here.block here.found in
    let where_is = cell_is p r name n here in
    opens_with p.openings (cell_number p r (Own name n)) (omega (arith, low, where_is))

module _ (p : Source) (inputs : List ℤ) (has : HasWords p) (are : InputsAreWords inputs) where
  opening_is : (c : Cell) → IsWord (opening_values p inputs c)
  opening_is (Global n) = opening_word p has inputs are p.openings has.openings n
  opening_is (Own name n) = zero_word

  -- of words, as its own course
  pub own_words : (t : Run FrameEnv) → IsSerialRunOn p inputs t → length (trace t) ≤ 1000000 → RunWords t
  own_words t run few =
      subst RunWords (run_all t)
      (whole_words (next p inputs) (same_frame p) (next_words p inputs has are) (first_env p) (opening_values p inputs) (unit_of monoid_of) t (all_asked t)
      few tt opening_is (λ i. refl) (runs_are_courses p inputs t run).0 (all_else t))

module _ (p : Source) (inputs : List ℤ) (r : Transcript) (es : List numbers.Event) (opening : List ℤ) (is : IsPlannedRun p inputs r es opening) where
  abbrev t : Run FrameEnv
  t = named p r

  pub serial : IsSerialRunOn p inputs t
  serial =
      let h = serial_by_names p inputs r es is.outcome is.named is.runs (set_words p is.words inputs is.inputs_words r es (Leaves is.outcome) is.runs) in
      record { behaves = h.behaves; framed = h.framed; reads = h.serial; values = h.views }

  numbers_are : IsNumbered p inputs r es
  numbers_are = serial_numbered p inputs r es is.outcome is.named is.runs

  few : length (trace t) ≤ 1000000
  few =
      let n = numbers_are in
      let same = written_length (cell_number p r) (instance_number p r) (trace t) es n.written in
      let short = serial_run_is_short p inputs r es (Leaves is.outcome) is.runs in
      omega (arith, same, short)

  run_words : RunWords t
  run_words = own_words p inputs is.words is.inputs_words t serial few

  abbrev told : List numbers.Event → List Bool → EventOrder
  told l b = record { events = l; preceding = predecessors_in es; opening = opening; asked = b }

  pub own : event_order_on p inputs r es opening ≡ planned es opening
  own =
      let one = programs_have_one p inputs t in
      let same = one.1 (all_asked t) (runs_are_courses p inputs t serial).0 in
      let n = numbers_are in
      let values : with_values es (trace (run_of (all_asked t))) ≡ es = ap (λ (u : Run FrameEnv). with_values es (trace u)) (run_all t) ∙ own_values (cell_number p r) (instance_number p r) (trace t) es n.written in
      let asked : asked_in (all_asked t) ≡ plans.all_asked es = all_of (cell_number p r) (instance_number p r) (trace t) es (asked_in (all_asked t)) n.written (true_all t) in
      ap (event_order_along es opening) (sym same)
      ∙ ap₂ told values asked

  module _ (others : List ℤ) (are : InputsAreWords others) where
    abbrev c : Course FrameEnv
    c = course_on p others t

    abbrev s : EventOrder
    s = event_order_on p others r es opening

    pub course : IsCourseOn p others t c
    course = (programs_have_one p others t).0

    pub written : AreWritten (cell_number p r) (instance_number p r) (trace (run_of c)) (with_values es (trace (run_of c)))
    written =
        let n = numbers_are in
        course_written FrameEnv View monoid_of (next p others) (same_frame p) (cell_number p r) (instance_number p r) (first_env p) [] (opening_values p others) (unit_of monoid_of) t c es course n.written

    right : AreAskedRight (opening_cells p inputs) (with_values es (trace (run_of c))) (asked_in c)
    right =
        let n = events_numbered p inputs r es (Leaves is.outcome) is.named is.runs in
        course_right (cell_number p r) (instance_number p r) (HasCell p r) (same_cells p r) FrameEnv View monoid_of (next p others) (same_frame p) (first_env p) [] (opening_values p others) (unit_of monoid_of) (opening_cells p inputs)
        t c (with_values es (trace (run_of c))) course (known_here p r t n.here) written (cells_open p inputs r)

    words : ListWords (trace (run_of c))
    words =
        list_words (run_of c)
        (whole_words (next p others) (same_frame p) (next_words p others is.words are) (first_env p) (opening_values p others) (unit_of monoid_of) t c few tt
        (opening_is p others is.words are) (λ i. refl) course (words_else t c run_words))

    of_words : (q : ℕ) (e : numbers.Event) → event s q ≡ Some e → IsOfWords e
    of_words q e h = each_of_words (cell_number p r) (instance_number p r) (trace (run_of c)) (with_values es (trace (run_of c))) written words (q - 1) e h

    begun : (b : Run FrameEnv) → IsFramed begin_due b → (d : Course FrameEnv) → IsCourseOn p others b d → slice_index_or (asked_in d) 0 false ≡ true
    begun runs.stop f d h = absurd f
    begun (runs.act (Passes Begins) b) f stop h = absurd h
    begun (runs.act (Passes Begins) b) f (child j k v u d) h = absurd h
    begun (runs.act (Passes Begins) b) f (act j e d) h =
        let m = h.0 in
        m.only (Passes Begins) tt refl
    begun (runs.act e b) f d h = absurd f
    begun (runs.child k v u b) f d h = absurd f

    pub values : HasValues s
    values = record {
      begins = let n = numbers_are in begun t n.framed c course;
      reads = λ q cell v follows h.
          last_value s (opening_cells p inputs) is.opens cell (q - 1) v (asked_right (opening_cells p inputs) (with_values es (trace (run_of c))) (asked_in c) right (q - 1) cell v h (follows q (inl refl)));
      read_words = λ q cell v h. of_words q (events.Read cell v) h;
      written_words = λ q cell v h. of_words q (events.Write cell v) h;
      opening_words = λ cell. let w = is.words in subst IsWord (sym (is.opens cell)) (opening_word p is.words inputs is.inputs_words p.openings w.openings cell);
    }

pub own_event_order : OwnEventOrder
own_event_order p inputs r es opening is = own p inputs r es opening is

pub event_orders_have_values : EventOrdersAlongHaveValues
event_orders_have_values p inputs others r es opening is are = (
  record { kinds = kept_kinds es (trace (run_of (course_on p others (named p r)))); preceding = refl; opening = refl },
  values p inputs r es opening is others are,
)
