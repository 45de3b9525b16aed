-- Everything that a frame of a well-named program names exists.
use Rattle.std.proofs.Common.{◌≡◌, inl, inr, ℕ, suc, ◌+◌, ◌<◌, ◌≤◌, ℤ, Bool, IsTrue, if◌then◌else◌, List, [], ◌∷◌, length, Option, Some, None, refl, sym, ap, ◌∙◌, subst, arith}
use Rattle.std.proofs.lemmas.Bool.{and_parts}
use Rattle.cilk_program.specs.declared.ask.Ask.{Ask}
use Rattle.cilk_program.specs.declared.ask.Ask.TheVariants as asks
use Rattle.cilk_program.specs.declared.ask.Callee.{Callee}
use Rattle.cilk_program.specs.declared.ask.Callee.TheVariants as callees
use Rattle.cilk_program.specs.declared.program.Body.{Body}
use Rattle.cilk_types.specs.declared.invocation.Invocation.{Invocation}
use Rattle.cilk_program.specs.declared.syntax.Place.{Place}
use Rattle.cilk_program.specs.declared.syntax.Reducer.{Reducer}
use Rattle.cilk_program.specs.Syntax.{Source, function_at, main_of, loop_at}
use Rattle.cilk_program.specs.WellNamed.{reducer_is_there, reducers_are_there, result_is_there, is_well_named}
use Rattle.cilk_program.specs.Inside.{body_of, is_whole, CalleeIsFit, CalleeIsThere, AskIsThere}
use Rattle.cilk_program.specs.Behaviour.{OpenAsk, asks_for, frame_asks}
use Rattle.cilk_program.specs.SerialRun.{Frame, Memory, itself, global_reducer, cells_of, home_of, next_frame, root_frame}
use Rattle.cilk_program.specs.Visible.{CanInvoke, GlobalsAreThere}
use Rattle.cilk_program.proofs.Naming.{SourceIsNamed, well_named_parts}
use Rattle.cilk_program.proofs.Asked.{asks_there}
use Rattle.cilk_program.proofs.Smallness.{reducer_small}
use Rattle.cilk_program.proofs.Visible.{can_invoke, frame_more, root_sees as root_sees_all, called_sees, part_sees}
use Rattle.cilk_serial.specs.Scoped.{Below, Any, Sees, AreSmall, ResultFits, MayBegin, IsThere, IsBegunRightly}
use Rattle.cilk_serial.proofs.Beginnings.{creates}

-- ---- cells

pub sees_more : (p : Source) (fr : Frame) (n n' : ℕ) → n ≤ n' → Sees p fr n → Sees p fr n'
sees_more p fr n n' low h = frame_more p itself global_reducer (Below n) (Below n') Any Any still (λ i k is. is) fr.callee fr.scope fr.result h
  where
    still : (c : ℕ) → c < n → c < n'
    still c less = omega (arith, low, less)

globals_there : (p : Source) (n : ℕ) → length p.openings ≤ n → GlobalsAreThere p itself global_reducer (Below n) Any
globals_there p n opened = record { cells = below; reducers = λ k kind is. tt }
  where
    below : (k : ℕ) → k < length p.openings → k < n
    below k less = omega (arith, opened, less)

-- only a part of the parent's own loop, if the parent halves turns
pub begins : (p : Source) (inputs : List ℤ) (parent : Callee) (history : List ℤ) (start left : ℕ) (how : Invocation) (callee : Callee) → frame_asks p inputs parent history start ≡ asks_for (asks.Invoke how callee) left → CanInvoke parent callee
begins = can_invoke

-- a child begins
pub child_sees : (p : Source) → IsTrue (is_well_named p) → (fr : Frame) (m : Memory) → Sees p fr m.cells → length p.openings ≤ m.cells → (callee : Callee) → CalleeIsThere p (body_of p fr.callee) callee → CanInvoke fr.callee callee
    → Sees p (next_frame p fr.scope m callee) (m.cells + cells_of p callee)
child_sees p well fr m sees opened callees.Root there can = absurd there
child_sees p well fr m sees opened (callees.Function c) there can =
    let f = function_at p c.function in
    let n' = m.cells + f.cells in
    called_sees p itself global_reducer (Below n') Any fr.callee fr.scope fr.result c (λ i. m.cells + i) (λ i. record { frame = suc m.frames; place = 1 + i })
    (globals_there p n' (omega (arith, opened))) (sees_more p fr m.cells n' (omega arith) sees) there can
    (λ i less. let own : i < f.cells = less in let within : m.cells + i < m.cells + f.cells = omega (arith, own) in within) (λ i k is. tt)
child_sees p well fr m sees opened (callees.Loop l) there can =
    let body = loop_at p l.number in
    let n' = m.cells + cells_of p (callees.Loop l) in
    part_sees p itself global_reducer (Below n') Any well fr.callee fr.scope fr.result l (home_of p (callees.Loop l) (suc m.frames) m.cells [])
    (sees_more p fr m.cells n' (omega arith) sees) there can (λ whole i less.
    let own : i < body.cells = less in
    let many : m.cells + body.cells ≤ m.cells + cells_of p (callees.Loop l) = subst (λ (b : Bool). m.cells + body.cells ≤ m.cells + (if b then body.cells else 0)) (sym whole) (omega arith) in
    let within : m.cells + i < m.cells + cells_of p (callees.Loop l) = omega (arith, own, many) in
    within)

-- the first frame begins
pub root_sees : (p : Source) (inputs : List ℤ) → Sees p (root_frame p inputs) (length p.openings + cells_of p callees.Root)
root_sees p inputs =
    let f = main_of p in
    let n' = length p.openings + f.cells in
    root_sees_all p itself global_reducer (Below n') Any (home_of p callees.Root 1 (length p.openings) []) (globals_there p n' (omega arith))
    (λ i less. let own : i < f.cells = less in let within : length p.openings + i < length p.openings + f.cells = omega (arith, own) in within) (λ i k is. tt) (λ i k is. tt)

-- ---- reducers

reducers_small : (p : Source) → SourceIsNamed p → (b : Body) (rs : List Reducer) → IsTrue (reducers_are_there p b rs) → AreSmall rs
reducers_small p named b [] h = tt
reducers_small p named b (r ∷ rs) h =
    let q = and_parts (reducer_is_there p b r.place r.kind) (reducers_are_there p b rs) h in
    (reducer_small p named b r.place r.kind q.0, reducers_small p named b rs q.1)

-- ---- requests

result_fits : (p : Source) (fr : Frame) (n : ℕ) → Sees p fr n → IsTrue (is_whole fr.callee) → (o : Option Place) → IsTrue (result_is_there p (body_of p fr.callee) o) → ResultFits fr n o
result_fits p fr n sees whole None h = tt
result_fits p fr n sees whole (Some x) h = (sees.own whole).cells x h

may_begin : (p : Source) → IsTrue (is_well_named p) → (fr : Frame) (n : ℕ) → Sees p fr n → (callee : Callee) → CalleeIsThere p (body_of p fr.callee) callee → CanInvoke fr.callee callee → MayBegin p fr n callee
may_begin p well fr n sees callees.Root there may = absurd there
may_begin p well fr n sees (callees.Function c) there (inr half) = absurd half
may_begin p well fr n sees (callees.Function c) there (inl whole) =
    let fit = there.0.0 in
    (reducers_small p (well_named_parts p well) (body_of p fr.callee) c.reducers there.1, result_fits p fr n sees whole c.result there.2, creates p well c.function fit.here)
may_begin p well fr n sees (callees.Loop l) (fit, inl (up, same)) may = omega (arith, up)
may_begin p well fr n sees (callees.Loop l) (fit, inr (up, same)) may = omega (arith, up)

is_there : (p : Source) → IsTrue (is_well_named p) → (fr : Frame) (n : ℕ) → Sees p fr n → (k : Ask) → AskIsThere p fr.callee k → ((how : Invocation) (callee : Callee) → k ≡ asks.Invoke how callee → CanInvoke fr.callee callee) → IsThere p fr n k
is_there p well fr n sees asks.Begin h may = tt
is_there p well fr n sees (asks.Read x) h may = (sees.own h.0).cells x h.1
is_there p well fr n sees (asks.Write x v) h may = (sees.own h.0).cells x h.1
is_there p well fr n sees (asks.Create r) h may = reducer_small p (well_named_parts p well) (body_of p fr.callee) r.place r.kind h.1
is_there p well fr n sees (asks.Update r v) h may = reducer_small p (well_named_parts p well) (body_of p fr.callee) r.place r.kind h.1
is_there p well fr n sees (asks.Set r v) h may = reducer_small p (well_named_parts p well) (body_of p fr.callee) r.place r.kind h.1
is_there p well fr n sees (asks.Value r) h may = reducer_small p (well_named_parts p well) (body_of p fr.callee) r.place r.kind h.1
is_there p well fr n sees (asks.Print v) h may = tt
is_there p well fr n sees (asks.Invoke how callee) h may = may_begin p well fr n sees callee h (may how callee refl)
is_there p well fr n sees asks.Resume h may = tt
is_there p well fr n sees asks.Sync h may = tt
is_there p well fr n sees (asks.Result v) h may = sees.result h
is_there p well fr n sees (asks.End v) h may = tt
is_there p well fr n sees (asks.Fault f) h may = tt

-- the requests of a frame
pub asked : (p : Source) → IsTrue (is_well_named p) → (inputs : List ℤ) (callee : Callee) → CalleeIsFit p callee → (history : List ℤ) (start : ℕ) (k : Ask) (left : ℕ) → frame_asks p inputs callee history start ≡ asks_for k left → AskIsThere p callee k
asked p well inputs callee fit history start k left e = subst (λ (q : OpenAsk). AskIsThere p callee q.ask) e (asks_there p well callee fit inputs history start)

pub asked_there : (p : Source) → IsTrue (is_well_named p) → (inputs : List ℤ) (fr : Frame) (n : ℕ) → Sees p fr n → (history : List ℤ) (start : ℕ) (k : Ask) (left : ℕ) → frame_asks p inputs fr.callee history start ≡ asks_for k left → IsThere p fr n k
asked_there p well inputs fr n sees history start k left e =
    is_there p well fr n sees k (asked p well inputs fr.callee sees.fit history start k left e)
    (λ how callee is. begins p inputs fr.callee history start left how callee (e ∙ ap (λ k. asks_for k left) is))

callee_fits : (p : Source) (b : Body) (callee : Callee) → CalleeIsThere p b callee → CalleeIsFit p callee
callee_fits p b callees.Root h = absurd h
callee_fits p b (callees.Function c) h = h.0
callee_fits p b (callees.Loop l) h = h.0

begun_rightly : (p : Source) (parent : Callee) (k : Ask) → AskIsThere p parent k → IsBegunRightly p k
begun_rightly p parent asks.Begin h = tt
begun_rightly p parent (asks.Read x) h = tt
begun_rightly p parent (asks.Write x v) h = tt
begun_rightly p parent (asks.Create r) h = tt
begun_rightly p parent (asks.Update r v) h = tt
begun_rightly p parent (asks.Set r v) h = tt
begun_rightly p parent (asks.Value r) h = tt
begun_rightly p parent (asks.Print v) h = tt
begun_rightly p parent (asks.Invoke how callee) h = callee_fits p (body_of p parent) callee h
begun_rightly p parent asks.Resume h = tt
begun_rightly p parent asks.Sync h = tt
begun_rightly p parent (asks.Result v) h = tt
begun_rightly p parent (asks.End v) h = tt
begun_rightly p parent (asks.Fault f) h = tt

pub asked_rightly : (p : Source) → IsTrue (is_well_named p) → (inputs : List ℤ) (callee : Callee) → CalleeIsFit p callee → (history : List ℤ) (start : ℕ) (k : Ask) (left : ℕ) → frame_asks p inputs callee history start ≡ asks_for k left → IsBegunRightly p k
asked_rightly p well inputs callee fit history start k left e = begun_rightly p callee k (asked p well inputs callee fit history start k left e)
