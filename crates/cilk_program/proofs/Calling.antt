-- The maximum cost of a call in ticks and events.
use Rattle.std.proofs.Common.{◌≡◌, ℕ, zero, suc, ◌+◌, ◌-◌, ◌≤◌, ℤ, IsTrue, List, [], ◌∷◌, length, is_some, nat_eq, refl, sym, ap, ◌∙◌, subst, arith, add-zero}
use Rattle.cilk_types.specs.declared.fault.Fault.{Fault}
use Rattle.cilk_types.specs.declared.event.Event.{Event}
use Rattle.cilk_types.specs.declared.event.Instance.{Instance}
use Rattle.cilk_program.specs.declared.program.Body.{Body}
use Rattle.cilk_program.specs.declared.syntax.ReducerPlace.TheVariants as reducers
use Rattle.cilk_program.specs.Syntax.{Source, Function, Invoke, function_at}
use Rattle.cilk_program.specs.WellNamed.{is_well_named, invoke_is_named, row_is_named}
use Rattle.cilk_program.specs.Scopes.{Scope, instances_in}
use Rattle.cilk_program.specs.Store.{put_all, clear_all}
use Rattle.cilk_program.specs.Behaviour.{Got, ◌>>=◌, Flow, values, invokes, invokes_function, finishes, creates, all_do}
use Rattle.cilk_program.specs.Elision as elision
use Rattle.cilk_program.specs.Elision.{Sight, itself, Gives as Worth, Fails, evaluate_all, Came, Faults, home_in, entered, left_with, on_ended, result_cell, ElidesAll, ElidesCall, Called}
use Rattle.cilk_program.specs.SerialRun.{Transcript, Memory, next_frame, begun, counted, Ending, Serial}
use Rattle.cilk_program.proofs.Ties.{since_itself, same_grown, grown_own}
use Rattle.cilk_program.proofs.Sights.{SeesAlike}
use Rattle.cilk_program.proofs.Moments.{Site, SameMemory, called, sees_now}
use Rattle.cilk_program.proofs.Statements.{arguments_named}
use Rattle.cilk_program.proofs.Calls as calls
use Rattle.cilk_program.proofs.Calls.{function_body_named, result_same}
use Rattle.cilk_program.proofs.Roots.{all_elided}
use Rattle.cilk_program.proofs.Elisions.{one_call}
use Rattle.cilk_program.proofs.Budgets.{Rich, less, rich_turn, all_nodes, values_rich}
use Rattle.cilk_program.proofs.Costs.{After, value_at, fails_at, FrameAfter, child_rich, starts_rich, words_rich, creates_rich, call_closes}
use Rattle.cilk_program.proofs.Spending.{Standing, site, Takes}

module _ (p : Source) (wn : IsTrue (is_well_named p)) (inputs : List ℤ) where
  abbrev BodyTakes : Sight → Invoke → List ℤ → elision.Memory → Came → Function → Type 0
  BodyTakes s i words m r f = Takes p inputs (home_in m (instances_in itself s i.reducers) ∷ []) (entered f words m) r (λ b. IsTrue (row_is_named p b f.body)) (all_do inputs f.body)

  -- a function's frame, with enough ticks and events
  module _ (tied : ℕ → Instance) (m : elision.Memory) (m' : Memory) (b : Body) (s : Sight) (scope : Scope ℕ Instance) (left : ℕ) (i : Invoke) (words : List ℤ)
      (same : SameMemory tied m m') (sees : SeesAlike p tied m.reducers b s scope) (named : IsTrue (invoke_is_named p b i)) (end : Ending) where
    abbrev f : Function
    f = function_at p i.function

    abbrev frame : Site
    frame = calls.site p wn inputs tied m m' b s scope left i words same sees named end

    abbrev standing : Standing p inputs (home_in m (instances_in itself s i.reducers) ∷ [])
    standing = record { fr = frame.fr; end = end; tied = frame.tied; count = frame.count; body = frame.body; sees = frame.sees }

    abbrev m1 : elision.Memory
    m1 = record { store = m.store; cells = m.cells + f.cells; reducers = m.reducers + length f.reducers }

    abbrev g : Flow → List ℤ → ℕ → Got ℤ
    g = finishes (is_some i.result)

    call_enough : (r : Came) (t : BodyTakes s i words m r f) (k : ℕ) (u : Transcript) (es : List Event) → 4 + (length words + (length f.reducers + (t.cost + k))) ≤ left → 4 + (length words + (length f.reducers + (t.cost + k))) ≤ m'.room - 1
        → Serial p inputs (next_frame p scope m' (called i words)) left [] (begun p (called i words) (counted m')) u es end → FrameAfter k end
    call_enough r t k u es h h' d =
        let k3 : ℕ = 3 + k in
        let k2 : ℕ = t.cost + k3 in
        let k1 : ℕ = length f.reducers + k2 in
        let n = starts_rich frame m1 (begun p (called i words) (counted m')) left (length words + k1) u es (omega arith) (omega arith) (all_elided p wn inputs u) d
        (record { store = same_grown 1 (length f.reducers) same.store; cells = ap (λ c. c + f.cells) same.cells }) (since_itself frame.tied frame.count) in
        let n' = words_rich frame m.cells (λ n. refl) words 0 m1 k1 (λ _ a l. creates (reducers.Own 0) 0 f.reducers a l >>= λ _ a l. all_do inputs f.body a l >>= g) n in
        let n'' = creates_rich frame (λ n. m.reducers + n) (reducers.Own 0) f.reducers 0 (λ j h. (omega arith, sym (grown_own tied m.reducers (suc m'.frames) 1 j))) _ k2 (λ _ a l. all_do inputs f.body a l >>= g) n' in
        let entered' = subst (λ c. Rich frame (record m1 { store = clear_all nat_eq (λ n. m.reducers + n) 0 f.reducers (put_all c words m.store) }) k2 (λ a l. all_do inputs f.body a l >>= g)) (add-zero m.cells) n'' in
        call_closes frame s i.result (result_same s scope sees i.result) r k (t.run standing (function_body_named p wn i.function) k3 g entered')

  module _ {s : Sight} {m : elision.Memory} (i : Invoke) where
    pub argument_takes : (fault : Fault) → evaluate_all inputs s m.store i.arguments ≡ Fails fault → Takes p inputs s m (Faults fault) (λ b. IsTrue (invoke_is_named p b i)) (invokes_function inputs i)
    argument_takes fault ev = record {
      cost = all_nodes i.arguments;
      run = λ y h k g n.
          let f : List ℤ → List ℤ → ℕ → Got Flow = λ vs. invokes i.how (called i vs) in
          fails_at (site p inputs y) m k (λ v a l. f v a l >>= g) ev (values_rich (site p inputs y) m i.arguments (arguments_named p y.body i h) k (λ v a l. f v a l >>= g) (rich_turn (values inputs i.arguments) f g n));
    }

    pub call_takes : {r : Came} (words : List ℤ) (f : Function) (r1 : Came) → evaluate_all inputs s m.store i.arguments ≡ Worth words → f ≡ function_at p i.function → ElidesCall p inputs s i m r → BodyTakes s i words m r1 f
        → Takes p inputs s m r (λ b. IsTrue (invoke_is_named p b i)) (invokes_function inputs i)
    call_takes {r} words f r1 ev e el body = of (subst (BodyTakes s i words m r1) e body)
      where
        child : (t : BodyTakes s i words m r1 (function_at p i.function)) (y : Standing p inputs s) → IsTrue (invoke_is_named p y.body i) → (k : ℕ) (g : Flow → List ℤ → ℕ → Got ℤ)
            → Rich (site p inputs y) m (suc (4 + (length words + (length (function_at p i.function).reducers + (t.cost + suc k))))) (λ a l. invokes i.how (called i words) a l >>= g) → After (site p inputs y) r k g
        child t y h k g n =
            child_rich (4 + (length words + (length (function_at p i.function).reducers + (t.cost + suc k)))) k (ElidesCall p inputs s i m) (λ r r' x x'. one_call p inputs x x') r el i.how (called i words) g n
            (λ u es end ok d. ok.function n.now.tied m n.now.m' y.body s y.fr.scope n.left es end i words n.now.same (sees_now n.now) h ev d)
            (λ u es end le le' d. call_enough n.now.tied m n.now.m' y.body s y.fr.scope n.left i words n.now.same (sees_now n.now) h end r1 t (suc k) u es le le' d)

        of : BodyTakes s i words m r1 (function_at p i.function) → Takes p inputs s m r (λ b. IsTrue (invoke_is_named p b i)) (invokes_function inputs i)
        of t = record {
          cost = all_nodes i.arguments + (6 + (length words + (length (function_at p i.function).reducers + t.cost)));
          run = λ y h k g n.
              let f : List ℤ → List ℤ → ℕ → Got Flow = λ vs. invokes i.how (called i vs) in
              let c : ℕ = 4 + (length words + (length (function_at p i.function).reducers + (t.cost + suc k))) in
              child t y h k g
              (value_at (λ v a l. f v a l >>= g) ev (values_rich (site p inputs y) m i.arguments (arguments_named p y.body i h) (suc c) (λ v a l. f v a l >>= g)
              (less (all_nodes i.arguments + suc c) (omega arith) (rich_turn (values inputs i.arguments) f g n))));
        }
