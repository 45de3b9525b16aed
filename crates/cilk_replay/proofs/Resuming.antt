-- The position at which a frame continues after a spawn: `resumed`.
--
-- - `IsGood`, `good_shape`: right after a spawn a frame begins;
-- - `Chained`, `Ahead`: the frames that the pass over a plan's events keeps;
-- - `walk`: for each `resume` after a spawn, the pass gives the last event of its frame.
use Rattle.std.proofs.Common.{◌≡◌, ◌⊎◌, inl, inr, ⊎_elim, ℕ, zero, suc, ◌+◌, ◌-◌, List, [], ◌∷◌, ◌++◌, map, Option, Some, None, slice_get, slice_index_or, refl, sym, ap, ◌∙◌, subst, arith, append_assoc, append-nil}
use Rattle.std.specs.Option.{option_map}
use Rattle.std.proofs.lemmas.Option.{slice_get-map}
use Rattle.cilk_types.specs.declared.event.Event.{Event}
use Rattle.cilk_types.specs.declared.event.Event.TheVariants as events
use Rattle.cilk_types.specs.declared.invocation.Invocation.{Invocation}
use Rattle.cilk_types.specs.declared.invocation.Invocation.TheVariants as invocations
use Rattle.cilk_tree.specs.declared.mark.Mark.{Mark}
use Rattle.cilk_tree.specs.declared.mark.Mark.TheVariants.{Begin, End, Sync, Resume, Spawn, Call, Plain}
use Rattle.cilk_tree.specs.Marks.{mark_of}
use Rattle.cilk_tree.specs.Shape as shapes
use Rattle.cilk_tree.specs.Reach.{resumed_from, awaited}
use Rattle.cilk_tree.specs.Kinds.{kind_of}
use Rattle.cilk_tree.specs.declared.kind.Kind.{Kind}
use Rattle.cilk_tree.specs.declared.kind.Kind.TheVariants as kinds
use Rattle.cilk_tree.specs.Passes.{Waiting, pass, predecessors_in}
use Rattle.cilk_determinacy.specs.Runs.{Instance, Deed, Does, Invokes, Ends}
use Rattle.cilk_determinacy.specs.Traces.{shape_of}
use Rattle.cilk_tree.specs.declared.event_order.EventOrder.{EventOrder}
use Rattle.cilk_tree.specs.Word.{event, predecessors_of, word_step, resume, IsWord}
use Rattle.cilk_tree.proofs.Events.{mark_at, resume_mark, spawn_of}
use Rattle.cilk_determinacy.specs.FrameEnvs.{FrameEnv}
use Rattle.cilk_determinacy.specs.Nested.{named}
use Rattle.cilk_determinacy.proofs.Determinate.{serial_numbered}
use Rattle.cilk_replay.specs.Points.{Point, IsLater, IsFirst, IsReturn}
use Rattle.cilk_replay.specs.Replays.{Setting, IsOfProgram, point_at}
use Rattle.cilk_replay.proofs.OfKind.{some_inner, GoesOn, IsOfKind}
use Rattle.cilk_replay.proofs.Going.{got, here, first, following, within, plan_event, plan_deed, IsResumed}

-- ---- right after a spawn a frame begins

abbrev Begins : List Mark → Type 0
Begins ms = (m : Mark) → slice_get ms 0 ≡ Some m → m ≡ Begin

abbrev IsGood : List Mark → Type 0
IsGood [] = Unit {0}
IsGood (Spawn ∷ ms) = Begins ms × IsGood ms
IsGood (Begin ∷ ms) = IsGood ms
IsGood (End ∷ ms) = IsGood ms
IsGood (Sync ∷ ms) = IsGood ms
IsGood (Resume ∷ ms) = IsGood ms
IsGood (Call ∷ ms) = IsGood ms
IsGood (Plain ∷ ms) = IsGood ms

good_shape : (t : shapes.Shape) (tail : List Mark) → IsGood tail → IsGood (shapes.marks t ++ tail)
good_shape shapes.finish tail g = g
good_shape (shapes.act r) tail g = good_shape r tail g
good_shape (shapes.sync r) tail g = good_shape r tail g
good_shape (shapes.child invocations.Call u r) tail g =
    subst IsGood (sym (append_assoc (shapes.marks u) (Resume ∷ shapes.marks r) tail)) (good_shape u (Resume ∷ (shapes.marks r ++ tail)) (good_shape r tail g))
good_shape (shapes.child invocations.Spawn u r) tail g = (
  λ m q. sym (some_inner Begin m q),
  subst IsGood (sym (append_assoc (shapes.marks u) (Resume ∷ shapes.marks r) tail)) (good_shape u (Resume ∷ (shapes.marks r ++ tail)) (good_shape r tail g)),
)

-- ---- the plan's deed, by marks

abbrev pub IsOfMark : Mark → Deed FrameEnv → Type 0
IsOfMark Begin d = GoesOn d
IsOfMark End d = (v : _) × (gone : List Instance) × (d ≡ Does (Ends v gone))
IsOfMark Sync d = GoesOn d
IsOfMark Resume d = GoesOn d
IsOfMark Spawn d = (w : FrameEnv) × (d ≡ Invokes invocations.Spawn w)
IsOfMark Call d = (w : FrameEnv) × (d ≡ Invokes invocations.Call w)
IsOfMark Plain d = GoesOn d

of_mark : (e : Event) (d : Deed FrameEnv) → IsOfKind (kind_of e) d → IsOfMark (mark_of e) d
of_mark (events.Begin f) d h = h
of_mark (events.Spawn f) d h = h
of_mark (events.Call f) d h = h
of_mark (events.Resume f) d h = h
of_mark events.Sync d h = h
of_mark events.End d h = h
of_mark (events.Read c v) d h = h
of_mark (events.Write c v) d h = h
of_mark (events.Create i) d h = h
of_mark (events.Update i v) d h = h
of_mark (events.Set i v) d h = h
of_mark (events.Value i v) d h = h
of_mark (events.Print v) d h = h

abbrev pub mark_in : Kind → Mark
mark_in (kinds.Begin f) = Begin
mark_in (kinds.Spawn f) = Spawn
mark_in (kinds.Call f) = Call
mark_in (kinds.Resume f) = Resume
mark_in kinds.Sync = Sync
mark_in kinds.End = End
mark_in (kinds.Read c) = Plain
mark_in (kinds.Write c) = Plain
mark_in (kinds.Create i) = Plain
mark_in (kinds.Update i) = Plain
mark_in (kinds.Set i) = Plain
mark_in (kinds.Value i) = Plain
mark_in kinds.Print = Plain

pub mark_is : (e : Event) → mark_of e ≡ mark_in (kind_of e)
mark_is (events.Begin f) = refl
mark_is (events.Spawn f) = refl
mark_is (events.Call f) = refl
mark_is (events.Resume f) = refl
mark_is events.Sync = refl
mark_is events.End = refl
mark_is (events.Read c v) = refl
mark_is (events.Write c v) = refl
mark_is (events.Create i) = refl
mark_is (events.Update i v) = refl
mark_is (events.Set i v) = refl
mark_is (events.Value i v) = refl
mark_is (events.Print v) = refl

event_there : (o : Option Event) (m : Mark) → option_map mark_of o ≡ Some m → (e : Event) × (o ≡ Some e) × (mark_of e ≡ m)
event_there None m q = absurd (cc q)
event_there (Some e) m q = (e, refl, some_inner (mark_of e) m q)

index_there : (xs : List (List ℕ)) (j q : ℕ) → slice_index_or xs j [] ≡ q ∷ [] → slice_get xs j ≡ Some (q ∷ [])
index_there [] j q h = absurd (let z : [] ≡ q ∷ [] = h in cc z)
index_there (x ∷ xs) zero q h = ap Some h
index_there (x ∷ xs) (suc j) q h = index_there xs j q h

module _ (s : Setting) (h : IsOfProgram s) where
  abbrev all : List Mark
  all = map mark_of h.events

  abbrev event_order : EventOrder
  event_order = s.event_order

  -- the frames that wait for a child, the innermost first, if the current frame's first event is
  -- there
  abbrev Chained : ℕ → List Waiting → Type 0
  Chained since [] = since ≡ 0
  Chained since (w ∷ ws) = (b : ℕ) × (z : Point FrameEnv) × (suc b ≡ since) × (point_at s b ≡ Some z) × (w.at ≡ since) × Chained z.since ws

  abbrev NoSpawnAhead : ℕ → Type 0
  NoSpawnAhead i = (j : ℕ) → suc j ≡ i → slice_get all j ≡ Some Spawn → ⊥

  -- the predecessor of the current event: none, the event before it, or its frame's last event
  abbrev Ahead : ℕ → List Mark → List ℕ → Point FrameEnv → Type 0
  Ahead i ms ahead x =
      (ahead ≡ []) ⊎ ((ahead ≡ i ∷ []) × (Begins ms ⊎ NoSpawnAhead i))
      ⊎ ((b : ℕ) × (z : Point FrameEnv) × (ahead ≡ suc b ∷ []) × (point_at s b ≡ Some z) × IsLater z x)

  record State (i : ℕ) (ms : List Mark) (ahead : List ℕ) (ws : List Waiting) (x : Point FrameEnv) : Type 0 where
    ahead_is : Ahead i ms ahead x
    chained : Chained x.since ws

  abbrev States : ℕ → List Mark → List ℕ → List Waiting → Type 0
  States i ms ahead ws = (x : Point FrameEnv) → point_at s i ≡ Some x → State i ms ahead ws x

  pub deed : (i : ℕ) (x : Point FrameEnv) (m : Mark) → point_at s i ≡ Some x → slice_get all i ≡ Some m → IsOfMark m x.planned
  deed i x m is at =
      let found = event_there (slice_get h.events i) m (sym (slice_get-map mark_of h.events i) ∙ at) in
      subst (λ n. IsOfMark n x.planned) found.2 (of_mark found.0 x.planned (plan_deed s h i x found.0 is found.1))

  -- the point before one
  pub before : (i : ℕ) (y : Point FrameEnv) → point_at s (suc i) ≡ Some y → (x : Point FrameEnv) × (point_at s i ≡ Some x)
  before i y is = following s h i (let less = within s h (suc i) y is in omega (arith, less))

  no_spawn : (i : ℕ) (m : Mark) → slice_get all i ≡ Some m → (m ≡ Spawn → ⊥) → NoSpawnAhead (suc i)
  no_spawn i m at not j q spawn = not (some_inner m Spawn (sym at ∙ ap (slice_get all) (let e : i ≡ j = omega (arith, q) in e) ∙ spawn))

  on : (i : ℕ) (m : Mark) (ms : List Mark) (ahead : List ℕ) (ws : List Waiting) → slice_get all i ≡ Some m → (m ≡ Spawn → ⊥) → ((d : Deed FrameEnv) → IsOfMark m d → GoesOn d)
      → States i (m ∷ ms) ahead ws → States (suc i) ms (suc i ∷ []) ws
  on i m ms ahead ws at not goes st y yis =
      let x = before i y yis in
      let go = goes (let z = x.0 in z.planned) (deed i x.0 m x.1 at) in
      let later : IsLater x.0 y = (here s h i x.0 x.1).0.goes go.0 go.1 go.2 y yis in
      record {
        ahead_is = inr (inl (refl, inr (no_spawn i m at not)));
        chained = subst (λ n. Chained n ws) (sym later.since) (st x.0 x.1).chained;
      }

  starts : (i : ℕ) (m : Mark) (how : Invocation) (ms : List Mark) (ahead ends : List ℕ) (ws : List Waiting) → slice_get all i ≡ Some m
      → ((d : Deed FrameEnv) → IsOfMark m d → (w : FrameEnv) × (d ≡ Invokes how w)) → Begins ms ⊎ NoSpawnAhead (suc i)
      → States i (m ∷ ms) ahead ws → States (suc i) ms (suc i ∷ []) (record { how = how; at = suc i; ends = ends } ∷ ws)
  starts i m how ms ahead ends ws at invokes begins st y yis =
      let x = before i y yis in
      let invoked = invokes (let z = x.0 in z.planned) (deed i x.0 m x.1 at) in
      let child : IsFirst i x.0 how y = (here s h i x.0 x.1).0.starts how invoked.0 invoked.1 y yis in
      record {
        ahead_is = inr (inl (refl, begins));
        chained = (i, x.0, sym child.since, x.1, sym child.since, (st x.0 x.1).chained);
      }

  ends_alone : (i : ℕ) (ms : List Mark) (ahead : List ℕ) → slice_get all i ≡ Some End → States i (End ∷ ms) ahead [] → States (suc i) ms (suc i ∷ []) []
  ends_alone i ms ahead at st y yis =
      let x = before i y yis in
      let end = deed i x.0 End x.1 at in
      let back : IsReturn (point_at s) x.0 y = (here s h i x.0 x.1).0.returns end.0 end.1 end.2 y yis in
      let one = back.before in
      let two = (st x.0 x.1).chained in
      absurd (omega (arith, one, two))

  ends_to : (i : ℕ) (w : Waiting) (ms : List Mark) (ahead : List ℕ) (ws : List Waiting) → slice_get all i ≡ Some End → States i (End ∷ ms) ahead (w ∷ ws)
      → States (suc i) ms (resumed_from w.how w.at (suc i)) ws
  ends_to i w ms ahead ws at st y yis =
      let x = before i y yis in
      let end = deed i x.0 End x.1 at in
      let back : IsReturn (point_at s) x.0 y = (here s h i x.0 x.1).0.returns end.0 end.1 end.2 y yis in
      let c = (st x.0 x.1).chained in
      let one = back.before in
      let two = c.2 in
      let spot : back.place ≡ c.0 = omega (arith, one, two) in
      let same : back.caller ≡ c.1 = some_inner back.caller c.1 (sym back.is ∙ ap (point_at s) spot ∙ c.3) in
      let later : IsLater c.1 y = subst (λ z. IsLater z y) same back.goes_on in
      record {
        ahead_is = by w.how (c.4 ∙ sym c.2) c.3 later;
        chained = subst (λ n. Chained n ws) (sym later.since) c.5;
      }
    where
      by : (how : Invocation) {b : ℕ} {z : Point FrameEnv} → w.at ≡ suc b → point_at s b ≡ Some z → IsLater z y → Ahead (suc i) ms (resumed_from how w.at (suc i)) y
      by invocations.Call q is later = inr (inl (refl, inr (no_spawn i End at (λ z. cc z))))
      by invocations.Spawn {b = b} {z = z} q is later = inr (inr (b, z, ap (λ n. n ∷ []) q, is, later))

  -- a `resume` right after a spawn
  found : (i : ℕ) (ms : List Mark) (ahead : List ℕ) (ws : List Waiting) (k : ℕ) (z y : Point FrameEnv) → slice_get ms 0 ≡ Some Resume → ahead ≡ suc k ∷ [] → slice_get all k ≡ Some Spawn
      → point_at s k ≡ Some z → Ahead i ms ahead y → IsLater z y
  found i ms ahead ws k z y first_is alone spawn zis a = ⊎_elim
      (λ (none : ahead ≡ []). absurd (let q : [] ≡ suc k ∷ [] = sym none ∙ alone in cc q))
      (λ (some : _). ⊎_elim
      (λ (one : (ahead ≡ i ∷ []) × (Begins ms ⊎ NoSpawnAhead i)).
      let q : i ∷ [] ≡ suc k ∷ [] = sym one.0 ∙ alone in
      let e : suc k ≡ i = cc q in
      ⊎_elim (λ (b : Begins ms). absurd (let r = b Resume first_is in cc r)) (λ (n : NoSpawnAhead i). absurd (n k e spawn)) one.1)
      (λ (last : (b : ℕ) × (x : Point FrameEnv) × (ahead ≡ suc b ∷ []) × (point_at s b ≡ Some x) × IsLater x y).
      let q : suc last.0 ∷ [] ≡ suc k ∷ [] = sym last.2 ∙ alone in
      let e : last.0 ≡ k = cc q in
      subst (λ x. IsLater x y) (some_inner last.1 z (sym last.3 ∙ ap (point_at s) e ∙ zis)) last.4) some)
      a

  walk : (n : ℕ) (ms : List Mark) (i : ℕ) (ahead ends : List ℕ) (ws : List Waiting) → ((k t : ℕ) → t ≡ i + k → slice_get ms k ≡ slice_get all t) → IsGood ms → States i ms ahead ws
      → (k : ℕ) → slice_get (pass ms (suc i) ahead ends ws) n ≡ Some (suc k ∷ []) → slice_get ms n ≡ Some Resume → slice_get all k ≡ Some Spawn
      → (z y : Point FrameEnv) (t : ℕ) → t ≡ i + n → point_at s k ≡ Some z → point_at s t ≡ Some y → IsLater z y
  walk n [] i ahead ends ws at good st k preds is spawn z y t q zis yis = absurd (let e : None ≡ Some Resume = is in cc e)
  walk zero (Resume ∷ ms) i ahead ends ws at good st k preds is spawn z y t q zis yis =
      let here_is : point_at s i ≡ Some y = ap (point_at s) (let e : i ≡ t = omega (arith, q) in e) ∙ yis in
      found i (Resume ∷ ms) ahead ws k z y refl (some_inner ahead (suc k ∷ []) preds) spawn zis (st y here_is).ahead_is
  walk zero (m ∷ ms) i ahead ends ws at good st k preds is spawn z y t q zis yis = absurd (cc is)
  walk (suc n) (Plain ∷ ms) i ahead ends ws at good st k preds is spawn z y t q zis yis =
      walk n ms (suc i) (suc i ∷ []) ends ws (λ k t e. at (suc k) t (omega (arith, e))) good (on i Plain ms ahead ws (sym (at 0 i (omega arith))) (λ e. cc e) (λ d g. g) st) k preds is spawn z y t (omega (arith, q)) zis yis
  walk (suc n) (Begin ∷ ms) i ahead ends ws at good st k preds is spawn z y t q zis yis =
      walk n ms (suc i) (suc i ∷ []) ends ws (λ k t e. at (suc k) t (omega (arith, e))) good (on i Begin ms ahead ws (sym (at 0 i (omega arith))) (λ e. cc e) (λ d g. g) st) k preds is spawn z y t (omega (arith, q)) zis yis
  walk (suc n) (Resume ∷ ms) i ahead ends ws at good st k preds is spawn z y t q zis yis =
      walk n ms (suc i) (suc i ∷ []) ends ws (λ k t e. at (suc k) t (omega (arith, e))) good (on i Resume ms ahead ws (sym (at 0 i (omega arith))) (λ e. cc e) (λ d g. g) st) k preds is spawn z y t (omega (arith, q)) zis yis
  walk (suc n) (Sync ∷ ms) i ahead ends ws at good st k preds is spawn z y t q zis yis =
      walk n ms (suc i) (suc i ∷ []) [] ws (λ k t e. at (suc k) t (omega (arith, e))) good (on i Sync ms ahead ws (sym (at 0 i (omega arith))) (λ e. cc e) (λ d g. g) st) k preds is spawn z y t (omega (arith, q)) zis yis
  walk (suc n) (Spawn ∷ ms) i ahead ends ws at good st k preds is spawn z y t q zis yis =
      walk n ms (suc i) (suc i ∷ []) [] (record { how = invocations.Spawn; at = suc i; ends = ends } ∷ ws) (λ k t e. at (suc k) t (omega (arith, e))) good.1
      (starts i Spawn invocations.Spawn ms ahead ends ws (sym (at 0 i (omega arith))) (λ d g. g) (inl good.0) st) k preds is spawn z y t (omega (arith, q)) zis yis
  walk (suc n) (Call ∷ ms) i ahead ends ws at good st k preds is spawn z y t q zis yis =
      walk n ms (suc i) (suc i ∷ []) [] (record { how = invocations.Call; at = suc i; ends = ends } ∷ ws) (λ k t e. at (suc k) t (omega (arith, e))) good
      (starts i Call invocations.Call ms ahead ends ws (sym (at 0 i (omega arith))) (λ d g. g) (inr (no_spawn i Call (sym (at 0 i (omega arith))) (λ e. cc e))) st) k preds is spawn z y t (omega (arith, q)) zis yis
  walk (suc n) (End ∷ ms) i ahead ends [] at good st k preds is spawn z y t q zis yis =
      walk n ms (suc i) (suc i ∷ []) ends [] (λ k t e. at (suc k) t (omega (arith, e))) good (ends_alone i ms ahead (sym (at 0 i (omega arith))) st) k preds is spawn z y t (omega (arith, q)) zis yis
  walk (suc n) (End ∷ ms) i ahead ends (w ∷ ws) at good st k preds is spawn z y t q zis yis =
      walk n ms (suc i) (resumed_from w.how w.at (suc i)) (awaited w.how (suc i) w.ends) ws (λ k t e. at (suc k) t (omega (arith, e))) good (ends_to i w ms ahead ws (sym (at 0 i (omega arith))) st) k preds is spawn z y t (omega (arith, q)) zis yis

  good_all : IsGood all
  good_all =
      let n = serial_numbered s.program s.own s.run h.events h.is.outcome h.is.named h.is.runs in
      let tree = shape_of (named s.program s.run) in
      subst IsGood (sym n.spells) (subst IsGood (append-nil (shapes.marks tree)) (good_shape tree [] tt))

  -- the event in the event order has the plan's mark
  marked : (i : ℕ) (e : Event) (m : Mark) → event event_order (suc i) ≡ Some e → mark_of e ≡ m → slice_get all i ≡ Some m
  marked i e m there is =
      let p = plan_event s h i e there in
      slice_get-map mark_of h.events i ∙ ap (option_map mark_of) p.1 ∙ ap Some (mark_is p.0 ∙ ap mark_in p.2 ∙ sym (mark_is e) ∙ is)

  pub resumed : (i next : ℕ) (x : Point FrameEnv) → word_step event_order next ≡ resume (suc i) → point_at s i ≡ Some x → IsResumed s h next x
  resumed i next x is there =
      let r = resume_mark event_order.events next (event event_order next) (predecessors_of event_order next) (suc i) is in
      let inside = h.orderly.inside next (subst IsWord (sym is) tt) in
      let low = inside.0 in
      let high = inside.1 in
      let place : suc (next - 1) ≡ next = omega (arith, low) in
      let y = following s h (next - 1) (omega (arith, low, high)) in
      let e = got event_order.events (next - 1) (omega (arith, low, high)) in
      let back : suc (next - 1) - 1 ≡ next - 1 = omega arith in
      let back_i : suc i - 1 ≡ i = omega arith in
      let mark : mark_of e.0 ≡ Resume = sym (ap mark_at e.1) ∙ r.mark in
      let less = within s h i x there in
      let f = got event_order.events i less in
      let f_at : event event_order (suc i) ≡ Some f.0 = ap (slice_get event_order.events) back_i ∙ f.1 in
      let f_mark : mark_of f.0 ≡ Spawn = sym (ap mark_at f_at) ∙ (spawn_of event_order.events (suc i) (event event_order (suc i)) [] r.spawned).0 in
      let preds : slice_get (predecessors_in h.events) (next - 1) ≡ Some (suc i ∷ []) = ap (λ l. slice_get l (next - 1)) (sym h.along.preceding) ∙ index_there event_order.preceding (next - 1) (suc i) r.alone in (
        next - 1,
        place,
        y.0,
        y.1,
        walk (next - 1) all 0 [] [] [] (λ k t q. ap (slice_get all) (let z : k ≡ t = omega (arith, q) in z)) good_all
            (λ z zis. record { ahead_is = inl refl; chained = (first s h z zis).2 }) i preds
            (marked (next - 1) e.0 Resume (ap (slice_get event_order.events) back ∙ e.1) mark) (marked i f.0 Spawn f_at f_mark) x y.0 (next - 1) (omega arith) there y.1,
      )
