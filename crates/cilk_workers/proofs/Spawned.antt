-- A spawned child's `end` comes right before the `resume` after its spawn: `resumes_next`.
--
-- - `AllReturn`, `all_return`: right after a child's `end` its caller resumes;
-- - `Chained`: the frames that the pass over a plan's events keeps;
-- - `walk`: the pass gives the spawn to the event after the child's `end`;
-- - `stuck`: the same for the piece of a worker.
use Rattle.std.proofs.Common.{◌≡◌, ⊎_elim, ℕ, zero, suc, ◌+◌, ◌-◌, ◌<◌, List, [], ◌∷◌, ◌++◌, length, map, Some, None, slice_get, slice_index_or, refl, sym, ap, ◌∙◌, subst, arith, append_assoc, append-nil}
use Rattle.std.specs.Option.{option_map}
use Rattle.std.proofs.lemmas.Option.{slice_get-map}
use Rattle.cilk_types.specs.declared.event.Event.{Event}
use Rattle.cilk_types.specs.declared.event.Event.TheVariants as events
use Rattle.cilk_types.specs.declared.invocation.Invocation.{Invocation}
use Rattle.cilk_types.specs.declared.invocation.Invocation.TheVariants as invocations
use Rattle.cilk_tree.specs.declared.mark.Mark.{Mark}
use Rattle.cilk_tree.specs.declared.mark.Mark.TheVariants.{Begin, End, Sync, Resume, Spawn, Call, Plain}
use Rattle.cilk_tree.specs.Marks.{mark_of}
use Rattle.cilk_tree.specs.Shape as shapes
use Rattle.cilk_tree.specs.Reach.{resumed_from, awaited}
use Rattle.cilk_tree.specs.Passes.{Waiting, pass}
use Rattle.cilk_tree.specs.Word.{event, predecessors_of, word_step, resume}
use Rattle.cilk_tree.specs.declared.event_order.EventOrder.{EventOrder}
use Rattle.cilk_tree.proofs.Events.{mark_at, return_what, spawn_what}
use Rattle.cilk_determinacy.specs.Runs.{Deed, Invokes}
use Rattle.cilk_determinacy.specs.Traces.{shape_of}
use Rattle.cilk_determinacy.specs.FrameEnvs.{FrameEnv}
use Rattle.cilk_determinacy.specs.Nested.{named}
use Rattle.cilk_determinacy.proofs.Determinate.{serial_numbered}
use Rattle.cilk_replay.specs.Points.{Point, IsLater, IsFirst, IsReturn}
use Rattle.cilk_replay.specs.Replays.{ReplayValue, Setting, IsOfProgram, point_at, setting_of}
use Rattle.cilk_replay.specs.Standing.{IsOutermost, IsSpawned, IsTheOutermost}
use Rattle.cilk_replay.proofs.Along.{event_order_of}
use Rattle.cilk_replay.proofs.OfKind.{some_inner, GoesOn}
use Rattle.cilk_replay.proofs.Going.{got, here, first, following, within, plan_event}
use Rattle.cilk_replay.proofs.Resuming.{IsOfMark, before, deed, mark_in, mark_is}
use Rattle.cilk_replay.specs.Chains.{ChainValue}
use Rattle.cilk_shared.specs.Pieces.{PieceValue, grown}
use Rattle.cilk_shared.specs.Values.{YardValue}
use Rattle.cilk_workers.specs.Rows.{yard_of}
use Rattle.cilk_workers.specs.Shared.{SharedValue, event_order_in}
use Rattle.cilk_workers.specs.Turns.{HasMore, Works}
use Rattle.cilk_workers.specs.declared.work.Work.{Work}

-- ---- right after a child its caller resumes

abbrev Returns : List Mark → Type 0
Returns ms = (m : Mark) → slice_get ms 0 ≡ Some m → m ≡ Resume

abbrev AllReturn : List Mark → Type 0
AllReturn [] = Unit {0}
AllReturn (End ∷ ms) = Returns ms × AllReturn ms
AllReturn (Begin ∷ ms) = AllReturn ms
AllReturn (Sync ∷ ms) = AllReturn ms
AllReturn (Resume ∷ ms) = AllReturn ms
AllReturn (Spawn ∷ ms) = AllReturn ms
AllReturn (Call ∷ ms) = AllReturn ms
AllReturn (Plain ∷ ms) = AllReturn ms

all_return : (t : shapes.Shape) (tail : List Mark) → Returns tail → AllReturn tail → AllReturn (shapes.marks t ++ tail)
all_return shapes.finish tail next g = (next, g)
all_return (shapes.act r) tail next g = all_return r tail next g
all_return (shapes.sync r) tail next g = all_return r tail next g
all_return (shapes.child invocations.Call u r) tail next g =
    subst AllReturn (sym (append_assoc (shapes.marks u) (Resume ∷ shapes.marks r) tail))
    (all_return u (Resume ∷ (shapes.marks r ++ tail)) (λ m q. sym (some_inner Resume m q)) (all_return r tail next g))
all_return (shapes.child invocations.Spawn u r) tail next g =
    subst AllReturn (sym (append_assoc (shapes.marks u) (Resume ∷ shapes.marks r) tail))
    (all_return u (Resume ∷ (shapes.marks r ++ tail)) (λ m q. sym (some_inner Resume m q)) (all_return r tail next g))

-- ---- what the pass gives

index_at : (xs : List (List ℕ)) (j : ℕ) (x : List ℕ) → slice_get xs j ≡ Some x → slice_index_or xs j [] ≡ x
index_at [] j x h = absurd (let z : None ≡ Some x = h in cc z)
index_at (y ∷ xs) zero x h = some_inner y x h
index_at (y ∷ xs) (suc j) x h = index_at xs j x h

-- the pass gives a `resume` what is before it
resume_ahead : (ms : List Mark) (p : ℕ) (ahead ends : List ℕ) (ws : List Waiting) → slice_get ms 0 ≡ Some Resume → slice_get (pass ms p ahead ends ws) 0 ≡ Some ahead
resume_ahead [] p ahead ends ws h = absurd (let z : None ≡ Some Resume = h in cc z)
resume_ahead (Resume ∷ ms) p ahead ends ws h = refl
resume_ahead (m ∷ ms) p ahead ends ws h = absurd (cc h)

-- the frame that waits has spawned
how_spawned : (d : Deed FrameEnv) (how : Invocation) (v w : FrameEnv) → d ≡ Invokes how v → d ≡ Invokes invocations.Spawn w → how ≡ invocations.Spawn
how_spawned d how v w a b = let z : Invokes how v ≡ Invokes invocations.Spawn w = sym a ∙ b in cc z

module _ (s : Setting) (h : IsOfProgram s) where
  abbrev all : List Mark
  all = map mark_of h.events

  abbrev event_order : EventOrder
  event_order = s.event_order

  -- the frames that wait for a child, the innermost first, if the current frame's first event is
  -- there
  abbrev Chained : ℕ → List Waiting → Type 0
  Chained since [] = since ≡ 0
  Chained since (w ∷ ws) =
      (b : ℕ) × (z : Point FrameEnv) × (suc b ≡ since) × (point_at s b ≡ Some z) × (w.at ≡ since) × (slice_get all b ≡ Some (shapes.start_of w.how)) × ((v : FrameEnv) × (z.deed ≡ Invokes w.how v))
      × Chained z.since ws

  abbrev Chains : ℕ → List Waiting → Type 0
  Chains i ws = (x : Point FrameEnv) → point_at s i ≡ Some x → Chained x.since ws

  on : (i : ℕ) (m : Mark) (ws : List Waiting) → slice_get all i ≡ Some m → ((d : Deed FrameEnv) → IsOfMark m d → GoesOn d) → Chains i ws → Chains (suc i) ws
  on i m ws at goes ch y yis =
      let x = before s h i y yis in
      let go = goes (let z = x.0 in z.planned) (deed s h i x.0 m x.1 at) in
      let later : IsLater x.0 y = (here s h i x.0 x.1).0.goes go.0 go.1 go.2 y yis in
      subst (λ n. Chained n ws) (sym later.since) (ch x.0 x.1)

  starts : (i : ℕ) (how : Invocation) (ends : List ℕ) (ws : List Waiting) → slice_get all i ≡ Some (shapes.start_of how)
      → ((d : Deed FrameEnv) → IsOfMark (shapes.start_of how) d → (w : FrameEnv) × (d ≡ Invokes how w)) → Chains i ws → Chains (suc i) (record { how = how; at = suc i; ends = ends } ∷ ws)
  starts i how ends ws at invokes ch y yis =
      let x = before s h i y yis in
      let invoked = invokes (let z = x.0 in z.planned) (deed s h i x.0 (shapes.start_of how) x.1 at) in
      let child : IsFirst i x.0 how y = (here s h i x.0 x.1).0.starts how invoked.0 invoked.1 y yis in
      (i, x.0, sym child.since, x.1, sym child.since, at, (y.frame, child.started), ch x.0 x.1)

  back : (i : ℕ) (y : Point FrameEnv) → slice_get all i ≡ Some End → point_at s (suc i) ≡ Some y → (x : Point FrameEnv) × (point_at s i ≡ Some x) × IsReturn (point_at s) x y
  back i y at yis =
      let x = before s h i y yis in
      let end = deed s h i x.0 End x.1 at in
      (x.0, x.1, (here s h i x.0 x.1).0.returns end.0 end.1 end.2 y yis)

  ends_alone : (i : ℕ) → slice_get all i ≡ Some End → Chains i [] → Chains (suc i) []
  ends_alone i at ch y yis =
      let x = back i y at yis in
      let one = x.2.before in
      let two = ch x.0 x.1 in
      absurd (omega (arith, one, two))

  ends_to : (i : ℕ) (w : Waiting) (ws : List Waiting) → slice_get all i ≡ Some End → Chains i (w ∷ ws) → Chains (suc i) ws
  ends_to i w ws at ch y yis =
      let x = back i y at yis in
      let r = x.2 in
      let c = ch x.0 x.1 in
      let one = r.before in
      let two = c.2 in
      let spot : r.place ≡ c.0 = omega (arith, one, two) in
      let same : r.caller ≡ c.1 = some_inner r.caller c.1 (sym r.is ∙ ap (point_at s) spot ∙ c.3) in
      let later : IsLater c.1 y = subst (λ z. IsLater z y) same r.goes_on in
      subst (λ n. Chained n ws) (sym later.since) c.7

  -- the event after a spawned child's `end` is a `resume`, and the spawn is its one predecessor
  abbrev IsNextTo : List (List ℕ) → ℕ → Mark → ℕ → Type 0
  IsNextTo preds n m b = (m ≡ Resume) × (slice_get preds n ≡ Some (suc b ∷ [])) × (slice_get all b ≡ Some Spawn)

  at_end : (i : ℕ) (ms : List Mark) (ahead ends : List ℕ) (ws : List Waiting) → Returns ms → Chains i ws → (m : Mark) → slice_get ms 0 ≡ Some m
      → (x : Point FrameEnv) → point_at s i ≡ Some x → (sp : IsSpawned s x.since) → IsNextTo (pass (End ∷ ms) (suc i) ahead ends ws) 1 m sp.behind
  at_end i ms ahead ends [] next ch m is x xis sp = absurd (let a = sp.place in let b = ch x xis in omega (arith, a, b))
  at_end i ms ahead ends (w ∷ ws) next ch m is x xis sp =
      let c = ch x xis in
      let a = sp.place in
      let b = c.2 in
      let spot : c.0 ≡ sp.behind = omega (arith, a, b) in
      let same : c.1 ≡ sp.point = some_inner c.1 sp.point (sym c.3 ∙ ap (point_at s) spot ∙ sp.is) in
      let how : w.how ≡ invocations.Spawn = how_spawned (let z = c.1 in z.deed) w.how c.6.0 sp.child c.6.1 (ap (λ (z : Point FrameEnv). z.deed) same ∙ sp.started) in
      let resumes : m ≡ Resume = next m is in (
        resumes,
        resume_ahead ms (suc (suc i)) (resumed_from w.how w.at (suc i)) (awaited w.how (suc i) w.ends) ws (is ∙ ap Some resumes)
            ∙ ap (λ (k : Invocation). Some (resumed_from k w.at (suc i))) how ∙ ap (λ n. Some (n ∷ [])) (c.4 ∙ sym sp.place),
        ap (slice_get all) (sym spot) ∙ c.5 ∙ ap (λ (k : Invocation). Some (shapes.start_of k)) how,
      )

  walk : (n : ℕ) (ms : List Mark) (i : ℕ) (ahead ends : List ℕ) (ws : List Waiting) → ((k t : ℕ) → t ≡ i + k → slice_get ms k ≡ slice_get all t) → AllReturn ms → Chains i ws
      → slice_get ms n ≡ Some End → (m : Mark) → slice_get ms (suc n) ≡ Some m → (x : Point FrameEnv) (t : ℕ) → t ≡ i + n → point_at s t ≡ Some x → (sp : IsSpawned s x.since)
      → IsNextTo (pass ms (suc i) ahead ends ws) (suc n) m sp.behind
  walk n [] i ahead ends ws at good ch e m is x t q xis sp = absurd (let z : None ≡ Some End = e in cc z)
  walk zero (End ∷ ms) i ahead ends ws at good ch e m is x t q xis sp =
      at_end i ms ahead ends ws good.0 ch m is x (ap (point_at s) (let z : i ≡ t = omega (arith, q) in z) ∙ xis) sp
  walk zero (k ∷ ms) i ahead ends ws at good ch e m is x t q xis sp = absurd (cc e)
  walk (suc n) (Plain ∷ ms) i ahead ends ws at good ch e m is x t q xis sp =
      walk n ms (suc i) (suc i ∷ []) ends ws (λ k t e. at (suc k) t (omega (arith, e))) good (on i Plain ws (sym (at 0 i (omega arith))) (λ d g. g) ch) e m is x t (omega (arith, q)) xis sp
  walk (suc n) (Begin ∷ ms) i ahead ends ws at good ch e m is x t q xis sp =
      walk n ms (suc i) (suc i ∷ []) ends ws (λ k t e. at (suc k) t (omega (arith, e))) good (on i Begin ws (sym (at 0 i (omega arith))) (λ d g. g) ch) e m is x t (omega (arith, q)) xis sp
  walk (suc n) (Resume ∷ ms) i ahead ends ws at good ch e m is x t q xis sp =
      walk n ms (suc i) (suc i ∷ []) ends ws (λ k t e. at (suc k) t (omega (arith, e))) good (on i Resume ws (sym (at 0 i (omega arith))) (λ d g. g) ch) e m is x t (omega (arith, q)) xis sp
  walk (suc n) (Sync ∷ ms) i ahead ends ws at good ch e m is x t q xis sp =
      walk n ms (suc i) (suc i ∷ []) [] ws (λ k t e. at (suc k) t (omega (arith, e))) good (on i Sync ws (sym (at 0 i (omega arith))) (λ d g. g) ch) e m is x t (omega (arith, q)) xis sp
  walk (suc n) (Spawn ∷ ms) i ahead ends ws at good ch e m is x t q xis sp =
      walk n ms (suc i) (suc i ∷ []) [] (record { how = invocations.Spawn; at = suc i; ends = ends } ∷ ws) (λ k t e. at (suc k) t (omega (arith, e))) good
      (starts i invocations.Spawn ends ws (sym (at 0 i (omega arith))) (λ d g. g) ch) e m is x t (omega (arith, q)) xis sp
  walk (suc n) (Call ∷ ms) i ahead ends ws at good ch e m is x t q xis sp =
      walk n ms (suc i) (suc i ∷ []) [] (record { how = invocations.Call; at = suc i; ends = ends } ∷ ws) (λ k t e. at (suc k) t (omega (arith, e))) good
      (starts i invocations.Call ends ws (sym (at 0 i (omega arith))) (λ d g. g) ch) e m is x t (omega (arith, q)) xis sp
  walk (suc n) (End ∷ ms) i ahead ends [] at good ch e m is x t q xis sp =
      walk n ms (suc i) (suc i ∷ []) ends [] (λ k t e. at (suc k) t (omega (arith, e))) good.1 (ends_alone i (sym (at 0 i (omega arith))) ch) e m is x t (omega (arith, q)) xis sp
  walk (suc n) (End ∷ ms) i ahead ends (w ∷ ws) at good ch e m is x t q xis sp =
      walk n ms (suc i) (resumed_from w.how w.at (suc i)) (awaited w.how (suc i) w.ends) ws (λ k t e. at (suc k) t (omega (arith, e))) good.1 (ends_to i w ws (sym (at 0 i (omega arith))) ch) e m is x t
      (omega (arith, q)) xis sp

  all_returns : AllReturn all
  all_returns =
      let n = serial_numbered s.program s.own s.run h.events h.is.outcome h.is.named h.is.runs in
      let tree = shape_of (named s.program s.run) in
      subst AllReturn (sym n.spells) (subst AllReturn (append-nil (shapes.marks tree)) (all_return tree [] (λ m q. absurd (let z : None ≡ Some m = q in cc z)) tt))

  -- the event in the event order has the plan's mark
  marked : (i : ℕ) (e : Event) → event event_order (suc i) ≡ Some e → slice_get all i ≡ Some (mark_of e)
  marked i e there =
      let p = plan_event s h i e there in
      slice_get-map mark_of h.events i ∙ ap (option_map mark_of) p.1 ∙ ap Some (mark_is p.0 ∙ ap mark_in p.2 ∙ sym (mark_is e))

  there : (i : ℕ) → i < length event_order.events → (e : Event) × (event event_order (suc i) ≡ Some e)
  there i less =
      let e = got event_order.events i less in
      let one : suc i - 1 ≡ i = omega arith in
      (e.0, ap (slice_get event_order.events) one ∙ e.1)

  pub next_resumes : (i : ℕ) (x : Point FrameEnv) → point_at s i ≡ Some x → event event_order (suc i) ≡ Some events.End → suc i < length event_order.events → IsOutermost s x.since
      → (k : ℕ) × (word_step event_order (suc (suc i)) ≡ resume k)
  next_resumes i x xis is more out =
      let y = following s h (suc i) more in
      let r = back i y.0 (marked i events.End is) y.1 in
      let one : r.0 ≡ x = some_inner r.0 x (sym r.1 ∙ xis) in
      let behind : suc r.2.place ≡ x.since = r.2.before ∙ ap (λ (z : Point FrameEnv). z.since) one in
      let sp : IsSpawned s x.since = ⊎_elim (λ (none : x.since ≡ 0). absurd (omega (arith, none, behind))) (λ (spawned : IsSpawned s x.since). spawned) out in
      let e = there (suc i) more in
      let f = there sp.behind (within s h sp.behind sp.point sp.is) in
      let found = walk i all 0 [] [] [] (λ k t q. ap (slice_get all) (let z : k ≡ t = omega (arith, q) in z)) all_returns (λ z zis. (first s h z zis).2)
      (marked i events.End is) (mark_of e.0) (marked (suc i) e.0 e.1) x i (omega arith) xis sp in
      let back_one : suc (suc i) - 1 ≡ suc i = omega arith in
      let preds : predecessors_of event_order (suc (suc i)) ≡ suc sp.behind ∷ [] =
      index_at event_order.preceding (suc (suc i) - 1) (suc sp.behind ∷ []) (ap (slice_get event_order.preceding) back_one ∙ ap (λ l. slice_get l (suc i)) h.along.preceding ∙ found.1) in
      let spawns : mark_of f.0 ≡ Spawn = some_inner (mark_of f.0) Spawn (sym (marked sp.behind f.0 f.1) ∙ found.2) in (
        suc sp.behind,
        return_what event_order.events (suc (suc i)) (event event_order (suc (suc i))) (predecessors_of event_order (suc (suc i))) (suc sp.behind) (ap mark_at e.1 ∙ found.0) preds
            (spawn_what event_order.events (suc sp.behind) (event event_order (suc sp.behind)) [] (ap mark_at f.1 ∙ spawns)).0,
      )

-- the current frame has ended and has no caller here
pub resumes_next : (u : ReplayValue) (at : ℕ) → IsTheOutermost u at → event (event_order_of u) at ≡ Some events.End → at < length (let s = event_order_of u in s.events)
    → (k : ℕ) × (word_step (event_order_of u) (at + 1) ≡ resume k)
resumes_next u at o is more =
    let s = setting_of u o.run in
    let place = o.place in
    let next : suc (suc o.behind) ≡ at + 1 = omega (arith, place) in
    subst (λ n. (k : ℕ) × (word_step (event_order_of u) n ≡ resume k)) next
    (next_resumes s o.of_program o.behind o.point o.is (ap (event (event_order_of u)) place ∙ is) (omega (arith, place, more)) o.outermost)

-- the piece of the frame's worker, with that `end`
pub stuck : (y : SharedValue) (w : Work) → Works y w → (let u = y.replay in u.yard ≡ yard_of y.run) → (let k = w.chain in IsTheOutermost k.of k.at) → (let p = w.piece in event (event_order_in y) p.upto ≡ Some events.End)
    → HasMore y w → (q : PieceValue) → q ≡ grown w.piece → (k : ℕ) × (word_step (event_order_in y) q.upto ≡ resume k)
stuck y w works same o is more q grows =
    let p = w.piece in
    let there : IsTheOutermost y.replay p.upto = subst (λ (k : ChainValue). IsTheOutermost k.of k.at) works.stands o in
    let orders : event_order_of y.replay ≡ event_order_in y = ap (λ (z : YardValue). z.event_order) same in
    let next = resumes_next y.replay p.upto there (subst (λ (s : EventOrder). event s p.upto ≡ Some events.End) (sym orders) is) (subst (λ (s : EventOrder). p.upto < length s.events) (sym orders) more) in
    (next.0, subst (λ (x : PieceValue). word_step (event_order_in y) x.upto ≡ resume next.0) (sym grows) (subst (λ (s : EventOrder). word_step s (p.upto + 1) ≡ resume next.0) orders next.1))
