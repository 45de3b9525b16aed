-- The serial run ends as the elision does, except for the limits of a run.
use Rattle.std.proofs.Common.{◌≡◌, ℕ, zero, suc, ◌+◌, ◌<◌, ◌≤◌, ℤ, pos, IsTrue, Bool, true, false, true≢false, ◌&&◌, if◌then◌else◌, List, [], ◌∷◌, length, Some, None, nat_eq, inl, inr, ◌⊎◌, refl, sym, ap, ◌∙◌, subst, arith, le_refl, eqb-true, ne_eqb}
use Rattle.std.proofs.lemmas.Bool.{and_parts}
use Rattle.cilk_types.specs.declared.event.Event.{Event}
use Rattle.cilk_types.specs.declared.event.Instance.{Instance}
use Rattle.cilk_types.specs.declared.outcome.Final.{Final}
use Rattle.cilk_types.specs.declared.outcome.Outcome.{Outcome}
use Rattle.cilk_monoid.specs.declared.kind.MonoidKind.{MonoidKind}
use Rattle.cilk_monoid.specs.declared.kind.MonoidKind.TheVariants.{Add, Least, Greatest, Append, Affine}
use Rattle.cilk_monoid.specs.Kinds.{structure_of, same_kind, final_of}
use Rattle.cilk_monoid.specs.Ranges.{same_instance}
use Rattle.cilk_program.specs.declared.ask.Callee.TheVariants as callees
use Rattle.cilk_program.specs.declared.program.Body.TheVariants as bodies
use Rattle.cilk_program.specs.declared.syntax.Place.{Place}
use Rattle.cilk_program.specs.declared.syntax.Place.TheVariants as places
use Rattle.cilk_program.specs.declared.syntax.ReducerPlace.{ReducerPlace}
use Rattle.cilk_program.specs.declared.syntax.ReducerPlace.TheVariants as reducers
use Rattle.cilk_program.specs.Syntax.{Source, Function, main_of}
use Rattle.cilk_program.specs.Scopes.{cell_in, instance_in}
use Rattle.cilk_program.specs.WellNamed.{is_well_named, reducer_is_there}
use Rattle.cilk_program.specs.Store.{Store, opening, clear, clear_all}
use Rattle.cilk_program.specs.Outcomes.{Leaves, cells_from, finals_from, outcome_of}
use Rattle.cilk_program.specs.Behaviour.{◌>>=◌, function_gives, finishes, all_do, frame_gives}
use Rattle.cilk_program.specs.Elision as elision
use Rattle.cilk_program.specs.Elision.{itself, Came, GoesOn, Returns, Faults, home_in, entered, begins, ElidesAll, IsElision}
use Rattle.cilk_program.specs.SerialRun.{Transcript, Memory, stop, act, child, global_reducer, root_frame, before_root, begun, Ending, Serial, conclusion_of}
use Rattle.cilk_program.specs.Agreement.{IsCutOff, EndsAsElided}
use Rattle.cilk_program.proofs.Ties.{Same, Since, since_itself, same_clear_all, as_equal, parts, same_itself, not_chosen}
use Rattle.cilk_program.proofs.Sights.{kind_within}
use Rattle.cilk_program.proofs.Steps.{Children}
use Rattle.cilk_program.proofs.Moments.{Site, IsElided, AskGoes, Answer, NoRoom, Comes, On, Back, Broken', Limited}
use Rattle.cilk_program.proofs.Bodies.{all_goes}
use Rattle.cilk_program.proofs.Frames.{starts, ask_then, creates_go, Finishes, Closes, CutOff, finish}
use Rattle.cilk_program.proofs.Calls.{call_ends, function_body_named, main_plain}
use Rattle.cilk_program.proofs.Turns.{loop_ends}

module _ (p : Source) (wn : IsTrue (is_well_named p)) (inputs : List ℤ) where
  elided : (u : Transcript) → Children (IsElided p inputs) u → IsElided p inputs u
  elided u inner = record {
    function = λ tied m m' b s scope left es end i words same sees named ev d. call_ends p wn inputs tied m m' b s scope left i words same sees named end ev u es inner d;
    loop = λ tied m m' s scope left es end l same sees below d. loop_ends p wn inputs tied m m' s scope left l same sees below end u es inner d;
  }

  -- each child of a run does the same as its elision, and so do its own children
  pub all_elided : (r : Transcript) → Children (IsElided p inputs) r
  all_elided stop = tt
  all_elided (act k v r) = all_elided r
  all_elided (child how c u r) = (elided u (all_elided u), all_elided r)

-- a reducer that has not begun has the unit, and begins with it
if_same : {A : Type 0} (t : Bool) (v : A) → (if t then v else v) ≡ v
if_same true v = refl
if_same false v = refl

unit_stays : (k k' : MonoidKind) (t : Bool) → (if same_kind k k' && t then (structure_of k).unit else (structure_of k').unit) ≡ (structure_of k').unit
unit_stays Add Add t = if_same t (structure_of Add).unit
unit_stays Least Least t = if_same t (structure_of Least).unit
unit_stays Greatest Greatest t = if_same t (structure_of Greatest).unit
unit_stays Append Append t = if_same t (structure_of Append).unit
unit_stays Affine Affine t = if_same t (structure_of Affine).unit
unit_stays k k' t = refl

pub cleared_opening : (openings : List ℤ) (own : ℕ → ℕ) (n : ℕ) (ks : List MonoidKind) → clear_all nat_eq own n ks (opening openings) ≡ opening openings
cleared_opening openings own n [] = refl
cleared_opening openings own n (k ∷ ks) =
    let once : clear nat_eq k (own n) (opening openings) ≡ opening openings = λ i. record { cells = (opening {I = ℕ} openings).cells; views = λ k' j. unit_stays k k' (nat_eq (own n) j) i; output = [] } in
    ap (clear_all nat_eq own (suc n) ks) once ∙ cleared_opening openings own (suc n) ks

-- the effect of a frame's end on the rest
module _ {I : Type 0} (same : I → I → Bool) (own : ℕ → I) where
  cleared_cells : (n : ℕ) (ks : List MonoidKind) (m : Store I) → (clear_all same own n ks m).cells ≡ m.cells
  cleared_cells n [] m = refl
  cleared_cells n (k ∷ ks) m = cleared_cells (suc n) ks (clear same k (own n) m)

  cleared_output : (n : ℕ) (ks : List MonoidKind) (m : Store I) → (clear_all same own n ks m).output ≡ m.output
  cleared_output n [] m = refl
  cleared_output n (k ∷ ks) m = cleared_output (suc n) ks (clear same k (own n) m)

  cleared_views : (n : ℕ) (ks : List MonoidKind) (m : Store I) (k : MonoidKind) (i : I) → ((j : ℕ) → same (own j) i ≡ false) → (clear_all same own n ks m).views k i ≡ m.views k i
  cleared_views n [] m k i h = refl
  cleared_views n (k' ∷ ks) m k i h = cleared_views (suc n) ks (clear same k' (own n) m) k i h ∙ not_chosen (same_kind k' k) (same (own n) i) (structure_of k').unit (m.views k i) (h n)

abbrev left_so : ℤ → List ℤ → List ℤ → List Final → Outcome
left_so v globals output finals = record { result = v; globals = globals; output = output; reducers = finals }

module _ (p : Source) (wn : IsTrue (is_well_named p)) (inputs : List ℤ) (end : Ending) where
  abbrev pub f : Function
  f = main_of p

  abbrev pub count : ℕ
  count = length p.reducers + length f.reducers

  pub root_reducers : (r : ReducerPlace) (k : MonoidKind) → IsTrue (reducer_is_there p (bodies.Function p.main) r k)
      → (instance_in itself (home_in (begins p inputs) [] ∷ []) r < count) × (instance_in global_reducer (root_frame p inputs).scope r ≡ global_reducer (instance_in itself (home_in (begins p inputs) [] ∷ []) r))
  root_reducers (reducers.Global n) k h = let l = kind_within p.reducers n k h in (omega arith, refl)
  root_reducers (reducers.Own zero n) k h =
      let l = kind_within f.reducers n k h in
      let e : suc (length p.reducers) + n ≡ suc (length p.reducers + n) = omega arith in
      (omega arith, ap (λ x. record { frame = 1; place = x }) e)
  root_reducers (reducers.Own (suc up) n) k h = absurd (true≢false (sym h))
  root_reducers (reducers.Given zero n) k h =
      let l = kind_within f.given n k h in
      let none : length f.given ≡ 0 = eqb-true (length f.given) 0 (and_parts (nat_eq f.words 0) (nat_eq (length f.given) 0) (main_plain p wn)).1 in
      absurd (omega arith)
  root_reducers (reducers.Given (suc up) n) k h = absurd (true≢false (sym h))

  pub root_cells : (x : Place) → cell_in itself (home_in (begins p inputs) [] ∷ []) x ≡ cell_in itself (root_frame p inputs).scope x
  root_cells (places.Global n) = refl
  root_cells (places.Local zero n) = refl
  root_cells (places.Local (suc up) n) = refl

  abbrev pub site : Site
  site = record {
    p = p;
    inputs = inputs;
    fr = root_frame p inputs;
    end = end;
    tied = global_reducer;
    count = count;
    sight = home_in (begins p inputs) [] ∷ [];
    body = bodies.Function p.main;
    sees = record { cells = root_cells; reducers = root_reducers };
  }

  abbrev pub m1 : elision.Memory
  m1 = record { store = opening p.openings; cells = length p.openings + f.cells; reducers = count }

  pub root_same : Same global_reducer count 1 (opening p.openings) (opening p.openings)
  root_same = record {
    cells = refl;
    output = refl;
    views = λ k n h. refl;
    later = λ k n h. refl;
    later' = λ k i h. refl;
    apart = λ n j h h'. as_equal (same_instance (global_reducer n) (global_reducer j)) n j
        (λ e. let q : suc n ≡ suc j = (parts (global_reducer n) (global_reducer j) e).1 in omega arith)
        (λ e. ap (λ j. same_instance (global_reducer n) (global_reducer j)) (sym e) ∙ same_itself (global_reducer n));
    old = λ n h. le_refl 1;
  }

  abbrev Goal : Type 0
  Goal = IsElision p inputs (conclusion_of p inputs end) ⊎ IsCutOff (conclusion_of p inputs end)

  entered_now : (left : ℕ) → AskGoes site m1 left (frame_gives p inputs callees.Root) → AskGoes site (entered f [] (begins p inputs)) left (λ a l. all_do inputs f.body a l >>= finishes false)
  entered_now left x =
      ask_then x (λ n.
      ask_then (subst (λ st. AskGoes site (record m1 { store = st }) left (λ a l. function_gives inputs f [] false a l)) (cleared_opening p.openings itself 0 p.reducers)
      (creates_go site itself reducers.Global p.reducers 0 (λ j h. (omega arith, refl)) m1 left (λ _ a l. function_gives inputs f [] false a l) n)) (λ n.
      creates_go site (λ n. length p.reducers + n) (reducers.Own 0) f.reducers 0
      (λ j h. (omega arith, let e : suc (length p.reducers) + j ≡ suc (length p.reducers + j) = omega arith in ap (λ x. record { frame = 1; place = x }) e)) m1 left (λ _ a l. all_do inputs f.body a l >>= finishes false) n))

  -- the global reducers' last values are the elision's
  finals_same : (m2 : elision.Memory) (st : Store Instance) → ((k : MonoidKind) (n : ℕ) → n < length p.reducers → m2.store.views k n ≡ st.views k (global_reducer n)) → (n : ℕ) (ks : List MonoidKind) → n + length ks ≤ length p.reducers
      → finals_from itself n ks m2.store ≡ finals_from global_reducer n ks st
  finals_same m2 st h n [] l = refl
  finals_same m2 st h n (k ∷ ks) l =
      let here : n < length p.reducers = omega arith in
      let e = ap final_of (h k n here) in
      ap (λ x. x ∷ finals_from itself (suc n) ks m2.store) e ∙ ap (λ xs. final_of (st.views k (global_reducer n)) ∷ xs) (finals_same m2 st h (suc n) ks (omega arith))

  ended : (r : Came) (v : ℤ) (m2 : elision.Memory) (left' : ℕ) → ElidesAll p inputs (home_in (begins p inputs) [] ∷ []) f.body (entered f [] (begins p inputs)) r
      → elision.conclusion_of p inputs r ≡ Leaves (outcome_of itself p v m2.store) → Finishes site m2 v left' → Goal
  ended r v m2 left' el e (CutOff q) = inr (subst (λ c. IsCutOff (conclusion_of p inputs c)) (sym q) tt)
  ended r v m2 left' el e (Closes m3 tied' since same q) =
      let own : ℕ → ℕ = λ n. length p.reducers + n in
      let own' : ℕ → Instance = λ n. record { frame = 1; place = suc (length p.reducers) + n } in
      let cleared = clear_all nat_eq own 0 f.reducers m2.store in
      let cleared' = clear_all same_instance own' 0 f.reducers m3.store in
      let both : Same tied' m2.reducers m3.frames cleared cleared' = same_clear_all own own' 0 f.reducers (λ j h. owned m2 tied' since j (omega arith)) same.store in
      let globals = ap (cells_from 0 (length p.openings)) (sym (cleared_cells nat_eq own 0 f.reducers m2.store) ∙ both.cells) in
      let output = sym (cleared_output nat_eq own 0 f.reducers m2.store) ∙ both.output in
      let finals = finals_same m2 cleared' (λ k n h. seen m2 m3 tied' since both k n h) 0 p.reducers (omega arith) in
      inl (r, f, refl, el, ap (conclusion_of p inputs) q ∙ sym (e ∙ (λ i. Leaves (left_so v (globals i) (output i) (finals i)))))
    where
      seen : (m2 : elision.Memory) (m3 : Memory) (tied' : ℕ → Instance) → Since global_reducer count tied' m2.reducers
          → Same tied' m2.reducers m3.frames (clear_all nat_eq (λ n. length p.reducers + n) 0 f.reducers m2.store) (clear_all same_instance (λ n. record { frame = 1; place = suc (length p.reducers) + n }) 0 f.reducers m3.store)
          → (k : MonoidKind) (n : ℕ) → n < length p.reducers → m2.store.views k n ≡ (clear_all same_instance (λ n. record { frame = 1; place = suc (length p.reducers) + n }) 0 f.reducers m3.store).views k (global_reducer n)
      seen m2 m3 tied' since both k n h =
          let more = since.more in
          let began : n < m2.reducers = omega arith in
          let within : n < count = omega arith in
          sym (cleared_views nat_eq (λ n. length p.reducers + n) 0 f.reducers m2.store k n (λ j. ne_eqb (length p.reducers + j) n (λ e. omega arith)))
          ∙ both.views k n began
          ∙ ap ((clear_all same_instance (λ n. record { frame = 1; place = suc (length p.reducers) + n }) 0 f.reducers m3.store).views k) (since.kept n within)

      owned : (m2 : elision.Memory) (tied' : ℕ → Instance) → Since global_reducer count tied' m2.reducers → (j : ℕ) → j < length f.reducers
          → (length p.reducers + j < m2.reducers) × (record { frame = 1; place = suc (length p.reducers) + j } ≡ tied' (length p.reducers + j))
      owned m2 tied' since j h =
          let more = since.more in
          let l : length p.reducers + j < count = omega arith in
          let x : suc (length p.reducers) + j ≡ suc (length p.reducers + j) = omega arith in
          (omega arith, ap (λ x. record { frame = 1; place = x }) x ∙ sym (since.kept (length p.reducers + j) l))

  body_ends : (left : ℕ) → Comes site (ElidesAll p inputs (home_in (begins p inputs) [] ∷ []) f.body (entered f [] (begins p inputs))) (suc left) (finishes false) → Goal
  body_ends left (On m2 el left' h n) = ended (GoesOn m2) (pos 0) m2 left' el refl (finish site m2 None left' n)
  body_ends left (Back v m2 el left' h n) = ended (Returns v m2) v m2 left' el refl (finish site m2 (Some v) left' n)
  body_ends left (Broken' fault el q) = inl (Faults fault, f, refl, el, ap (conclusion_of p inputs) q)
  body_ends left (Limited fault l q) = inr (subst (λ c. IsCutOff (conclusion_of p inputs c)) (sym q) l)

  pub run_ends : (ticks room : ℕ) (r : Transcript) (es : List Event) → Serial p inputs (root_frame p inputs) ticks [] (begun p callees.Root (before_root p inputs room)) r es end → Goal
  run_ends ticks room r es d =
      after (entered_now ticks (starts site m1 (begun p callees.Root (before_root p inputs room)) ticks r es (all_elided p wn inputs r) d (record { store = root_same; cells = refl }) (since_itself global_reducer count)))
    where
      after : AskGoes site (entered f [] (begins p inputs)) ticks (λ a l. all_do inputs f.body a l >>= finishes false) → Goal
      after (Answer n) = body_ends ticks (all_goes site f.body (function_body_named p wn p.main) (entered f [] (begins p inputs)) ticks (finishes false) n)
      after (NoRoom q) = inr (subst (λ c. IsCutOff (conclusion_of p inputs c)) (sym q) tt)

pub ends_as_elided : (p : Source) (inputs : List ℤ) → EndsAsElided p inputs
ends_as_elided p inputs wn ticks room r es c run within =
    elim (run_ends p wn inputs run.0 ticks room r es run.1) [
      | inl e ↦ subst (IsElision p inputs) (sym run.2) e
      | inr l ↦ absurd (within (subst IsCutOff (sym run.2) l))
    ]
