-- A called function does the same as its elision.
use Rattle.std.proofs.Common.{◌≡◌, ℕ, zero, suc, ◌+◌, ◌<◌, ◌≤◌, ℤ, pos, IsTrue, ◌&&◌, true, List, [], ◌∷◌, length, Option, Some, None, is_some, option_map, inl, inr, slice_get, unwrap_or, nat_eq, nat_lt, refl, sym, ap, ◌∙◌, subst, arith, add-zero}
use Rattle.std.proofs.lemmas.Bool.{and_parts}
use Rattle.cilk_types.specs.declared.event.Event.{Event}
use Rattle.cilk_types.specs.declared.event.Instance.{Instance}
use Rattle.cilk_program.specs.declared.program.Body.{Body}
use Rattle.cilk_program.specs.declared.program.Body.TheVariants as bodies
use Rattle.cilk_program.specs.declared.syntax.Place.{Place}
use Rattle.cilk_program.specs.declared.syntax.ReducerPlace.TheVariants as reducers
use Rattle.cilk_program.specs.Syntax.{Source, Function, Loop, Invoke, idle, idle_loop, function_at, main_of, loop_at}
use Rattle.cilk_program.specs.WellNamed.{is_well_named, function_is_named, functions_are_named, loop_is_named, loops_are_named, row_is_named, invoke_is_named, have_kinds, reducers_are_there, main_is_plain, at_most}
use Rattle.cilk_program.specs.Scopes.{Scope, cell_in, instances_in}
use Rattle.cilk_program.specs.Store.{Store, put, put_all, clear_all}
use Rattle.cilk_program.specs.Behaviour.{Got, ◌>>=◌, Flow, returned, finishes, writes_words, creates, all_do}
use Rattle.cilk_program.specs.Elision as elision
use Rattle.cilk_program.specs.Elision.{Sight, itself, cell_at, Gives as Worth, evaluate_all, Came, GoesOn, Returns, Faults, home_in, entered, left_with, goes_on, on_ended, result_cell, ElidesAll, ElidesCall, Called}
use Rattle.cilk_program.specs.SerialRun.{Transcript, Memory, next_frame, begun, counted, Ending, Serial}
use Rattle.cilk_program.proofs.Ties.{Since, since_itself, since_then, same_clear_all, same_grown, grown, grown_own, since_grown}
use Rattle.cilk_program.proofs.Sights.{SeesAlike, sees_called}
use Rattle.cilk_program.proofs.Steps.{Children}
use Rattle.cilk_program.proofs.Moments.{Site, Now, SameMemory, ChildEnds, called, IsElided, AskGoes, Answer, NoRoom, Comes, On, Back, Broken', Limited}
use Rattle.cilk_program.proofs.Bodies.{all_goes}
use Rattle.cilk_program.proofs.Frames.{starts, ask_then, words_go, creates_go, Finishes, Closes, CutOff, finish, finish_with}

-- everything that a body of a program names exists
body_named : (p : Source) (fs : List Function) (from k : ℕ) → functions_are_named p from fs ≡ true → IsTrue (row_is_named p (bodies.Function (from + k)) (unwrap_or (slice_get fs k) idle).body)
body_named p [] from k h = refl
body_named p (f ∷ fs) from zero h =
    subst (λ n. IsTrue (row_is_named p (bodies.Function n) f.body)) (sym (add-zero from)) (and_parts _ _ (and_parts (function_is_named p from f) (functions_are_named p (suc from) fs) h).0).1
body_named p (f ∷ fs) from (suc k) h =
    let e : suc from + k ≡ from + suc k = omega arith in
    subst (λ n. IsTrue (row_is_named p (bodies.Function n) (unwrap_or (slice_get fs k) idle).body)) e (body_named p fs (suc from) k (and_parts (function_is_named p from f) (functions_are_named p (suc from) fs) h).1)

loop_named : (p : Source) (ls : List Loop) (from k : ℕ) → loops_are_named p from ls ≡ true → IsTrue (row_is_named p (bodies.Loop (from + k)) (unwrap_or (slice_get ls k) idle_loop).body)
loop_named p [] from k h = refl
loop_named p (l ∷ ls) from zero h =
    subst (λ n. IsTrue (row_is_named p (bodies.Loop n) l.body)) (sym (add-zero from)) (and_parts _ _ (and_parts (loop_is_named p from l) (loops_are_named p (suc from) ls) h).0).1
loop_named p (l ∷ ls) from (suc k) h =
    let e : suc from + k ≡ from + suc k = omega arith in
    subst (λ n. IsTrue (row_is_named p (bodies.Loop n) (unwrap_or (slice_get ls k) idle_loop).body)) e (loop_named p ls (suc from) k (and_parts (loop_is_named p from l) (loops_are_named p (suc from) ls) h).1)

module _ (p : Source) (wn : IsTrue (is_well_named p)) where
  parts : (IsTrue (main_is_plain (main_of p))) × (IsTrue (functions_are_named p 0 p.functions)) × (IsTrue (loops_are_named p 0 p.loops))
  parts =
      let a = and_parts (at_most (length p.openings) 1000000 && at_most (length p.reducers) 64 && nat_lt p.main (length p.functions) && main_is_plain (main_of p) && functions_are_named p 0 p.functions) (loops_are_named p 0 p.loops) wn in
      let b = and_parts (at_most (length p.openings) 1000000 && at_most (length p.reducers) 64 && nat_lt p.main (length p.functions) && main_is_plain (main_of p)) (functions_are_named p 0 p.functions) a.0 in
      let c = and_parts (at_most (length p.openings) 1000000 && at_most (length p.reducers) 64 && nat_lt p.main (length p.functions)) (main_is_plain (main_of p)) b.0 in
      (c.1, b.1, a.1)

  pub function_body_named : (k : ℕ) → IsTrue (row_is_named p (bodies.Function k) (function_at p k).body)
  function_body_named k = subst (λ n. IsTrue (row_is_named p (bodies.Function n) (function_at p k).body)) (omega arith) (body_named p p.functions 0 k parts.1)

  pub loop_body_named : (k : ℕ) → IsTrue (row_is_named p (bodies.Loop k) (loop_at p k).body)
  loop_body_named k = subst (λ n. IsTrue (row_is_named p (bodies.Loop n) (loop_at p k).body)) (omega arith) (loop_named p p.loops 0 k parts.2)

  pub main_plain : IsTrue (main_is_plain (main_of p))
  main_plain = parts.0

-- the caller's variable receives the result
abbrev result_stored : Sight → Option Place → ℤ → Store ℕ → Store ℕ
result_stored s None v m = m
result_stored s (Some x) v m = put (cell_at s x) v m

abbrev with_result : Sight → Option Place → ℤ → elision.Memory → elision.Memory
with_result s o v m = record m { store = result_stored s o v m.store }

left_is : (s : Sight) (o : Option Place) (v : ℤ) (gone : Store ℕ → Store ℕ) (m : elision.Memory) → left_with (result_cell s o) v gone m ≡ GoesOn (record m { store = gone (result_stored s o v m.store) })
left_is s None v gone m = refl
left_is s (Some x) v gone m = refl

finish_call : (z : Site) (s : Sight) (o : Option Place) → z.fr.result ≡ option_map (cell_at s) o → (m : elision.Memory) (f : Flow) (left : ℕ) → Now z m left (λ a l. finishes (is_some o) f a l) → Finishes z (with_result s o (returned f) m) (returned f) left
finish_call z s None e m f left n = finish z m f left n
finish_call z s (Some x) e m f left n = finish_with z (cell_at s x) e m f left n

pub result_same : {p : Source} {tied : ℕ → Instance} {count : ℕ} {b : Body} (s : Sight) (scope : Scope ℕ Instance) → SeesAlike p tied count b s scope → (o : Option Place) → option_map (cell_in itself scope) o ≡ option_map (cell_at s) o
result_same s scope sees None = refl
result_same s scope sees (Some x) = ap Some (sym (sees.cells x))

pub call_parts : (p : Source) (b : Body) (i : Invoke) → IsTrue (invoke_is_named p b i) → (have_kinds i.reducers (function_at p i.function).given ≡ true) × (reducers_are_there p b i.reducers ≡ true)
call_parts p b i h =
    let a = and_parts _ _ h in
    let c = and_parts _ _ a.0 in
    let d = and_parts _ _ c.0 in
    let e = and_parts _ _ d.0 in
    (e.1, c.1)

module _ (p : Source) (wn : IsTrue (is_well_named p)) (inputs : List ℤ) (tied : ℕ → Instance) (m : elision.Memory) (m' : Memory) (b : Body) (s : Sight) (scope : Scope ℕ Instance) (left : ℕ) (i : Invoke) (words : List ℤ)
    (same : SameMemory tied m m') (sees : SeesAlike p tied m.reducers b s scope) (named : IsTrue (invoke_is_named p b i)) (end : Ending) where
  abbrev pub f : Function
  f = function_at p i.function

  abbrev pub tied1 : ℕ → Instance
  tied1 = grown tied m.reducers (suc m'.frames) 1

  abbrev pub site : Site
  site = record {
    p = p;
    inputs = inputs;
    fr = next_frame p scope m' (called i words);
    end = end;
    tied = tied1;
    count = m.reducers + length f.reducers;
    sight = home_in m (instances_in itself s i.reducers) ∷ [];
    body = bodies.Function i.function;
    sees = sees_called p tied m.reducers b s scope sees i.function i.reducers (suc m'.frames) 1 m.cells m'.cells same.cells (call_parts p b i named).0 (call_parts p b i named).1;
  }

  abbrev pub m1 : elision.Memory
  m1 = record { store = m.store; cells = m.cells + f.cells; reducers = m.reducers + length f.reducers }

  abbrev g : Flow → List ℤ → ℕ → Got ℤ
  g = finishes (is_some i.result)

  -- the words are written, and the reducers are created
  entered_now : AskGoes site m1 left (λ a l. writes_words 0 words a l >>= λ _ a l. creates (reducers.Own 0) 0 f.reducers a l >>= λ _ a l. all_do inputs f.body a l >>= g)
      → AskGoes site (entered f words m) left (λ a l. all_do inputs f.body a l >>= g)
  entered_now x =
      ask_then x (λ n.
      ask_then (words_go site m.cells (λ n. refl) words 0 m1 left (λ _ a l. creates (reducers.Own 0) 0 f.reducers a l >>= λ _ a l. all_do inputs f.body a l >>= g) n) (λ n.
      subst (λ c. AskGoes site (record m1 { store = clear_all nat_eq (λ n. m.reducers + n) 0 f.reducers (put_all c words m.store) }) left (λ a l. all_do inputs f.body a l >>= g)) (add-zero m.cells)
      (creates_go site (λ n. m.reducers + n) (reducers.Own 0) f.reducers 0 (λ j h. (omega arith, sym (grown_own tied m.reducers (suc m'.frames) 1 j))) _ left (λ _ a l. all_do inputs f.body a l >>= g) n)))

  abbrev pub gone : Store ℕ → Store ℕ
  gone = clear_all nat_eq (λ n. m.reducers + n) 0 f.reducers

  owned : (m2 : elision.Memory) (tied' : ℕ → Instance) → Since tied1 (m.reducers + length f.reducers) tied' m2.reducers → (j : ℕ) → j < length f.reducers
      → (m.reducers + j < m2.reducers) × (record { frame = suc m'.frames; place = 1 + j } ≡ tied' (m.reducers + j))
  owned m2 tied' since j l =
      let more = since.more in
      let l' : m.reducers + j < m.reducers + length f.reducers = omega arith in
      (omega arith, sym (since.kept (m.reducers + j) l' ∙ grown_own tied m.reducers (suc m'.frames) 1 j))

  module _ (ev : evaluate_all inputs s m.store i.arguments ≡ Worth words) where
    -- the end of a function, with its result, and its reducers retired
    done : (r : Came) (v : ℤ) (m2 : elision.Memory) → ElidesAll p inputs (home_in m (instances_in itself s i.reducers) ∷ []) f.body (entered f words m) r
        → on_ended r (λ v. left_with (result_cell s i.result) v gone) ≡ left_with (result_cell s i.result) v gone m2
        → (left' : ℕ) → left' ≤ left → Finishes site (with_result s i.result v m2) v left' → ChildEnds (ElidesCall p inputs s i m) tied m.reducers left end
    done r v m2 el on left' h (Closes m3 tied' since same' e) =
        subst (ChildEnds (ElidesCall p inputs s i m) tied m.reducers left) (sym e) (
          record m2 { store = gone (result_stored s i.result v m2.store) },
          Called words f r ev refl el (sym (on ∙ left_is s i.result v gone m2)),
          h,
          (
            tied',
            since_then (since_grown tied m.reducers (suc m'.frames) 1 (length f.reducers)) since,
            record {
              store = same_clear_all (λ n. m.reducers + n) (λ n. record { frame = suc m'.frames; place = 1 + n }) 0 f.reducers (λ j l. owned m2 tied' since j (omega arith)) same'.store;
              cells = same'.cells;
            },
          ),
        )
    done r v m2 el on left' h (CutOff e) = subst (ChildEnds (ElidesCall p inputs s i m) tied m.reducers left) (sym e) (inr tt)

  body_ends : evaluate_all inputs s m.store i.arguments ≡ Worth words → Comes site (ElidesAll p inputs (home_in m (instances_in itself s i.reducers) ∷ []) f.body (entered f words m)) (suc left) g → ChildEnds (ElidesCall p inputs s i m) tied m.reducers left end
  body_ends ev (On m2 el left' h n) = done ev (GoesOn m2) (pos 0) m2 el refl left' (omega arith) (finish_call site s i.result (result_same s scope sees i.result) m2 None left' n)
  body_ends ev (Back v m2 el left' h n) = done ev (Returns v m2) v m2 el refl left' (omega arith) (finish_call site s i.result (result_same s scope sees i.result) m2 (Some v) left' n)
  body_ends ev (Broken' fault el q) = subst (ChildEnds (ElidesCall p inputs s i m) tied m.reducers left) (sym q) (inl (Called words f (Faults fault) ev refl el refl))
  body_ends ev (Limited fault l q) = subst (ChildEnds (ElidesCall p inputs s i m) tied m.reducers left) (sym q) (inr l)

  pub call_ends : evaluate_all inputs s m.store i.arguments ≡ Worth words → (u : Transcript) (es : List Event) → Children (IsElided p inputs) u
      → Serial p inputs (next_frame p scope m' (called i words)) left [] (begun p (called i words) (counted m')) u es end → ChildEnds (ElidesCall p inputs s i m) tied m.reducers left end
  call_ends ev u es inner d =
      after (entered_now (starts site m1 (begun p (called i words) (counted m')) left u es inner d
      (record { store = same_grown 1 (length f.reducers) same.store; cells = ap (λ c. c + f.cells) same.cells }) (since_itself tied1 (m.reducers + length f.reducers))))
    where
      after : AskGoes site (entered f words m) left (λ a l. all_do inputs f.body a l >>= g) → ChildEnds (ElidesCall p inputs s i m) tied m.reducers left end
      after (Answer n) = body_ends ev (all_goes site f.body (function_body_named p wn i.function) (entered f words m) left g n)
      after (NoRoom q) = subst (ChildEnds (ElidesCall p inputs s i m) tied m.reducers left) (sym q) (inr tt)
