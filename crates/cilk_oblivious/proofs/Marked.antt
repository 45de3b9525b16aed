-- The answer to an inner request, with marks.
use Rattle.std.proofs.Common.{◌≡◌, ◌≢◌, ℕ, zero, suc, ◌<◌, ◌≤◌, nat_eq, ℤ, Bool, true, false, List, [], ◌∷◌, ◌++◌, length, set, Option, None, Some, ◌⊎◌, inl, inr, refl, sym, ap, ◌∙◌, subst, if◌then◌else◌, ◌||◌, ◌&&◌}
use Rattle.std.proofs.Math.ListN.{get_or-eq_default}
use Rattle.std.proofs.lemmas.Bool.Decides.{eqb_tells}
use Rattle.std.proofs.lemmas.List.{get_or-set_other, get_or-set_same}
use Rattle.std.specs.Prelude.{slice_index_or}
use Rattle.std.specs.HashSet.{contains}
use Rattle.cilk_types.specs.declared.event.Event.{Event}
use Rattle.cilk_types.specs.declared.event.Event.TheVariants as events
use Rattle.cilk_types.specs.declared.event.Instance.{Instance}
use Rattle.cilk_monoid.specs.declared.kind.MonoidKind.{MonoidKind}
use Rattle.cilk_monoid.specs.Kinds.{same_kind}
use Rattle.cilk_monoid.specs.Ranges.{same_instance}
use Rattle.cilk_monoid.proofs.RangeLaws.{same_from_true}
use Rattle.cilk_program.specs.declared.syntax.Place.{Place}
use Rattle.cilk_program.specs.declared.syntax.Reducer.{Reducer}
use Rattle.cilk_program.specs.SerialRun.{Memory, Frame, IsInner, event_of, result_written}
use Rattle.cilk_frames.specs.declared.cursor.Answer.TheVariants.{Done}
use Rattle.cilk_frames.specs.AskSlot.{in_full}
use Rattle.cilk_frames.specs.Following.{Fits, owed_for}
use Rattle.cilk_frames.specs.declared.small_ask.SmallAsk.{SmallAsk}
use Rattle.cilk_frames.specs.declared.small_ask.SmallAsk.TheVariants as small
use Rattle.cilk_oblivious.specs.declared.memory.MarkedAnswer.{MarkedAnswer}
use Rattle.cilk_oblivious.specs.declared.memory.MarkedMemory.{MarkedMemory}
use Rattle.cilk_oblivious.specs.Open.{Labels, Covers, first_mark, mark_cell, mark_result, mark_view}
use Rattle.cilk_oblivious.specs.Watching.{Answered, labels_in}

abbrev cell_in : Event → ℕ → ℕ
cell_in (events.Write c v) d = c
cell_in e d = d

left : (t b : Bool) → (if t then true else b) ≡ false → t ≡ false
left true b h = h
left false b h = refl

right : (t b : Bool) → (if t then true else b) ≡ false → b ≡ false
right true b h = absurd (subst (λ (b : Bool). elim b as (λ _. Type 0) [ true ↦ Unit {0} | false ↦ ⊥ ]) h tt)
right false b h = h

unmarked : (b s : Bool) → s ≡ true → (b && s) ≡ false → b ≡ false
unmarked true s e h = sym e ∙ h
unmarked false s e h = refl

chosen : (t s b x : Bool) → (s ≡ true → x ≡ false) → b ≡ false → (if t && s then x else b) ≡ false
chosen true true b x h e = h refl
chosen true false b x h e = e
chosen false s b x h e = e

-- a cell that hasn't a mark of its own isn't marked
pub one_longer : (l : List Bool) (n : ℕ) → slice_index_or (l ++ false ∷ []) n false ≡ slice_index_or l n false
one_longer [] zero = refl
one_longer [] (suc n) = refl
one_longer (b ∷ l) zero = refl
one_longer (b ∷ l) (suc n) = one_longer l n

-- a cell past the end loses its mark
pub has_none : (l : List Bool) (cell n : ℕ) → length l ≤ cell → slice_index_or l n false ≡ (if nat_eq cell n then false else slice_index_or l n false)
has_none l cell n past = either (eqb_tells cell n)
  where
    either : ((nat_eq cell n ≡ true) × (cell ≡ n)) ⊎ ((nat_eq cell n ≡ false) × (cell ≢ n)) → slice_index_or l n false ≡ (if nat_eq cell n then false else slice_index_or l n false)
    either (inl h) = subst (λ (b : Bool). slice_index_or l n false ≡ (if b then false else slice_index_or l n false)) (sym h.0) (get_or-eq_default l false (subst (λ m. length l ≤ m) h.1 past))
    either (inr h) = subst (λ (b : Bool). slice_index_or l n false ≡ (if b then false else slice_index_or l n false)) (sym h.0) refl

-- .. and one that is there has it
pub has_mark : (old l : List Bool) (cell n : ℕ) (mark : Bool) → cell < length l → slice_index_or l n false ≡ slice_index_or old n false → slice_index_or (set l cell mark) n false ≡ (if nat_eq cell n then mark else slice_index_or old n false)
has_mark old l cell n mark there same = either (eqb_tells cell n)
  where
    either : ((nat_eq cell n ≡ true) × (cell ≡ n)) ⊎ ((nat_eq cell n ≡ false) × (cell ≢ n)) → slice_index_or (set l cell mark) n false ≡ (if nat_eq cell n then mark else slice_index_or old n false)
    either (inl h) = subst (λ (b : Bool). slice_index_or (set l cell mark) n false ≡ (if b then mark else slice_index_or old n false)) (sym h.0) (ap (λ m. slice_index_or (set l cell mark) m false) (sym h.1) ∙ get_or-set_same l cell mark false there)
    either (inr h) = subst (λ (b : Bool). slice_index_or (set l cell mark) n false ≡ (if b then mark else slice_index_or old n false)) (sym h.0) (get_or-set_other l cell n mark false (λ e. h.1 (sym e)) ∙ same)

-- a cell has this mark, and the others those that they had
pub record MarksCell (old new : MarkedMemory) (cell : ℕ) (b : Bool) : Type 0 where
  pub cells : (n : ℕ) → slice_index_or new.cells.items n false ≡ (if nat_eq cell n then b else slice_index_or old.cells.items n false)
  pub views : new.views ≡ old.views

neither : (b o : Bool) → (b || o) ≡ false → (b ≡ false) × (o ≡ false)
neither true o h = absurd (subst (λ (b : Bool). elim b as (λ _. Type 0) [ true ↦ Unit {0} | false ↦ ⊥ ]) h tt)
neither false o h = (refl, h)

first_of_both : (t b o x : Bool) → (if t then b || o else x) ≡ false → (if t then b else x) ≡ false
first_of_both true b o x h = (neither b o h).0
first_of_both false b o x h = h

covers_cell : (old new : MarkedMemory) (cell : ℕ) (b : Bool) → MarksCell old new cell b → Covers (mark_cell cell b (labels_in old)) (labels_in new)
covers_cell old new cell b m = record { cells = λ n h. sym (m.cells n) ∙ h; views = λ k i h. ap (λ v. contains same_instance v i) (sym m.views) ∙ h }

-- where the result goes, if it goes anywhere
covers_result : (old new : MarkedMemory) (cell : ℕ) (b : Bool) (w v : ℤ) (r : Option ℕ) → MarksCell old new cell (b || slice_index_or old.cells.items cell false) → events.Write cell w ≡ result_written r v → Covers (mark_result r b (labels_in old)) (labels_in new)
covers_result old new cell b w v None m e = record { cells = λ n h. was n (sym (m.cells n) ∙ h); views = λ k i h. ap (λ v. contains same_instance v i) (sym m.views) ∙ h }
  where
    was : (n : ℕ) → (if nat_eq cell n then b || slice_index_or old.cells.items cell false else slice_index_or old.cells.items n false) ≡ false → slice_index_or old.cells.items n false ≡ false
    was n h = either (eqb_tells cell n) h
      where
        either : ((nat_eq cell n ≡ true) × (cell ≡ n)) ⊎ ((nat_eq cell n ≡ false) × (cell ≢ n)) → (if nat_eq cell n then b || slice_index_or old.cells.items cell false else slice_index_or old.cells.items n false) ≡ false → slice_index_or old.cells.items n false ≡ false
        either (inl t) h = ap (λ m. slice_index_or old.cells.items m false) (sym t.1) ∙ (neither b (slice_index_or old.cells.items cell false) (subst (λ (x : Bool). (if x then b || slice_index_or old.cells.items cell false else slice_index_or old.cells.items n false) ≡ false) t.0 h)).1
        either (inr t) h = subst (λ (x : Bool). (if x then b || slice_index_or old.cells.items cell false else slice_index_or old.cells.items n false) ≡ false) t.0 h
covers_result old new cell b w v (Some c) m e = subst (λ j. Covers (mark_cell j b (labels_in old)) (labels_in new)) (ap (λ e. cell_in e cell) e) (record {
  cells = λ n h. first_of_both (nat_eq cell n) b (slice_index_or old.cells.items cell false) (slice_index_or old.cells.items n false) (sym (m.cells n) ∙ h);
  views = λ k i h. ap (λ v. contains same_instance v i) (sym m.views) ∙ h;
})

-- a view is marked, if this mark is true
pub record Marks (old new : MarkedMemory) (i : Instance) (b : Bool) : Type 0 where
  pub cells : new.cells.items ≡ old.cells.items
  pub views : (j : Instance) → contains same_instance new.views j ≡ (if b && same_instance i j then true else contains same_instance old.views j)

-- what the view was before counts, or doesn't
marks_view : (old new : MarkedMemory) (i : Instance) (b : Bool) → Marks old new i b → (n : MonoidKind) (x : Bool) → (b ≡ false → contains same_instance old.views i ≡ false → x ≡ false) → Covers (mark_view n i x (labels_in old)) (labels_in new)
marks_view old new i b m n x after =
    record {
      cells = λ c h. ap (λ l. slice_index_or l c false) (sym m.cells) ∙ h;
      views = λ k j h.
          let was = contains same_instance old.views j in
          let now : (if b && same_instance i j then true else was) ≡ false = sym (m.views j) ∙ h in
          let none : was ≡ false = right (b && same_instance i j) was now in
          chosen (same_kind n k) (same_instance i j) was x
          (λ e. after (unmarked b (same_instance i j) e (left (b && same_instance i j) was now)) (ap (contains same_instance old.views) (same_from_true i j e) ∙ none))
          none;
    }

-- ---- in the form of the code

-- what is shown of an answer
abbrev pub Shown : Labels → Labels → List Bool → SmallAsk → Event → MarkedAnswer → Type 0
Shown l l' sent ask event x =
    IsInner (in_full ask) × Fits (owed_for (in_full ask)) x.answer × ((fr : Frame) (m : Memory) → event ≡ event_of fr m (in_full ask) → Answered l (in_full ask) sent fr m x.answer x.mark l')

abbrev done : MarkedAnswer
done = record { answer = Done; mark = false }

shown_as : (l l' : Labels) (sent : List Bool) (ask ask' : SmallAsk) (event event' : Event) (x : MarkedAnswer) → ask ≡ ask' → event ≡ event' → x ≡ done → Shown l l' sent ask' event' done → Shown l l' sent ask event x
shown_as l l' sent ask ask' event event' x is_ask is_event is_x h =
    subst (λ (k : SmallAsk). Shown l l' sent k event x) (sym is_ask) (subst (λ (e : Event). Shown l l' sent ask' e x) (sym is_event) (subst (λ (x : MarkedAnswer). Shown l l' sent ask' event' x) (sym is_x) h))

abbrev instance_in : Event → Instance → Instance
instance_in (events.Update i v) d = i
instance_in (events.Set i v) d = i
instance_in e d = d

module _ (old new : MarkedMemory) (sent : List Bool) (ask : SmallAsk) (event : Event) (x : MarkedAnswer) (b : Bool) (r : Reducer) (v : ℤ) (i : Instance) (w : ℤ)
    (is_x : x ≡ done) (is_mark : b ≡ first_mark sent) (marks : Marks old new i b) where
  covers : (x : Bool) → (first_mark sent ≡ false → contains same_instance old.views i ≡ false → x ≡ false) → Covers (mark_view r.kind i x (labels_in old)) (labels_in new)
  covers x after = marks_view old new i (first_mark sent) (subst (λ b. Marks old new i b) is_mark marks) r.kind x after

  pub update_shown : ask ≡ small.Update r v → event ≡ events.Update i w → Shown (labels_in old) (labels_in new) sent ask event x
  update_shown is is_event =
      shown_as (labels_in old) (labels_in new) sent ask (small.Update r v) event (events.Update i w) x is is_event is_x (
        tt,
        tt,
        λ fr m e. record {
          word = refl;
          mark = refl;
          fits = refl;
          covers = subst (λ j. Covers (mark_view r.kind j (contains same_instance old.views j || first_mark sent) (labels_in old)) (labels_in new)) (ap (λ e. instance_in e i) e)
              (covers (contains same_instance old.views i || first_mark sent) (λ b h. ap (λ x. x || first_mark sent) h ∙ b));
        },
      )

  pub set_shown : ask ≡ small.Set r v → event ≡ events.Set i w → Shown (labels_in old) (labels_in new) sent ask event x
  set_shown is is_event =
      shown_as (labels_in old) (labels_in new) sent ask (small.Set r v) event (events.Set i w) x is is_event is_x (
        tt,
        tt,
        λ fr m e. record {
          word = refl;
          mark = refl;
          fits = refl;
          covers = subst (λ j. Covers (mark_view r.kind j (first_mark sent) (labels_in old)) (labels_in new)) (ap (λ e. instance_in e i) e) (covers (first_mark sent) (λ b h. b));
        },
      )

module _ (old new : MarkedMemory) (sent : List Bool) (ask : SmallAsk) (event : Event) (x : MarkedAnswer) (b : Bool) (v w : ℤ) (cell : ℕ)
    (is_x : x ≡ done) (is_mark : b ≡ first_mark sent) where
  pub write_shown : (place : Place) → MarksCell old new cell b → ask ≡ small.Write place v → event ≡ events.Write cell w → Shown (labels_in old) (labels_in new) sent ask event x
  write_shown place marks is is_event =
      shown_as (labels_in old) (labels_in new) sent ask (small.Write place v) event (events.Write cell w) x is is_event is_x (
        tt,
        tt,
        λ fr m e. record {
          word = refl;
          mark = refl;
          fits = refl;
          covers = subst (λ j. Covers (mark_cell j (first_mark sent) (labels_in old)) (labels_in new)) (ap (λ e. cell_in e cell) e) (covers_cell old new cell (first_mark sent) (subst (λ b. MarksCell old new cell b) is_mark marks));
        },
      )

  pub result_shown : MarksCell old new cell (b || slice_index_or old.cells.items cell false) → ask ≡ small.Result v → event ≡ events.Write cell w → Shown (labels_in old) (labels_in new) sent ask event x
  result_shown marks is is_event =
      shown_as (labels_in old) (labels_in new) sent ask (small.Result v) event (events.Write cell w) x is is_event is_x (
        tt,
        tt,
        λ fr m e. record {
          word = refl;
          mark = refl;
          fits = refl;
          covers = covers_result old new cell (first_mark sent) w v fr.result (subst (λ b. MarksCell old new cell (b || slice_index_or old.cells.items cell false)) is_mark marks) e;
        },
      )
