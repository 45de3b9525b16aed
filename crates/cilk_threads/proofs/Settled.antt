-- A serial run without a view-read race is settled: `runs_settled`.
--
-- - `opens_at`, `created_in`: the creations of a frame's reducers are in its first strand;
-- - `used_after`: an event of a reducer comes after its creation;
-- - `mention_made`, `settle_made`: the creation of a reducer that an event mentions, or settles;
-- - `begins_next`: a spawned child begins right after its spawn.
use Rattle.std.proofs.Common.{◌≡◌, ◌⊎◌, ⊎_elim, inl, inr, ℕ, zero, suc, ◌+◌, ◌-◌, ◌<◌, ◌≤◌, ℤ, IsTrue, List, [], ◌∷◌, ◌++◌, length, slice_get, slice_index_or, Option, Some, None, refl, sym, ap, ◌∙◌, subst, arith}
use Rattle.std.proofs.lemmas.Bool.{cases_lt}
use Rattle.std.proofs.lemmas.Option.{slice_get_within, get_or_from_slice_get, slice_get-map}
use Rattle.std.specs.Option.{option_map}
use Rattle.cilk_types.specs.declared.event.Event as numbers
use Rattle.cilk_types.specs.declared.event.Event.TheVariants as events
use Rattle.cilk_types.specs.declared.event.Instance as numbered
use Rattle.cilk_types.specs.declared.outcome.Outcome.{Outcome}
use Rattle.cilk_monoid.specs.declared.kind.MonoidKind.{MonoidKind}
use Rattle.cilk_threads.proofs.Places.{nth_left, nth_right}
use Rattle.cilk_types.specs.declared.invocation.Invocation.{Invocation}
use Rattle.cilk_types.specs.declared.invocation.Invocation.TheVariants.{Call, Spawn}
use Rattle.cilk_monoid.specs.Ranges.{ReducerEvent, Mentions, Resets}
use Rattle.cilk_hypermap.specs.Views.{output}
use Rattle.cilk_program.specs.Outcomes.{Leaves}
use Rattle.cilk_program.specs.SerialRun.{Transcript, IsSerialRun}
use Rattle.cilk_program.specs.Syntax.{Source}
use Rattle.cilk_program.specs.WellNamed.{is_well_named}
use Rattle.cilk_program.specs.Created.{Among, deed_of, IsCreated, made_by, AreCreated, Uses}
use Rattle.cilk_program.proofs.Creations.{runs_create}
use Rattle.cilk_tree.specs.declared.mark.Mark.{Mark}
use Rattle.cilk_tree.specs.declared.mark.Mark.TheVariants as mark
use Rattle.cilk_tree.specs.Marks.{mark_of, begun_by}
use Rattle.cilk_tree.specs.Races.{strand_at, event_at}
use Rattle.cilk_tree.specs.Reach.{IsSynced, Reaches}
use Rattle.cilk_tree.specs.Shape.{Shape, Spells, finish, act, sync, child, marks, start_of}
use Rattle.cilk_tree.specs.Tree.{tree}
use Rattle.cilk_tree.proofs.Strands.{strand_next}
use Rattle.cilk_peers.specs.Frames.{IsFrame}
use Rattle.cilk_peers.specs.Peers.{SamePeers}
use Rattle.cilk_peers.specs.ViewRaces.{ReadsReducer, UsesReducer, HasNoViewRace, AreCreatedBeforeUse}
use Rattle.cilk_peers.proofs.Frames.{frames_keep_peers}
use Rattle.cilk_tree.specs.declared.event_order.EventOrder.{EventOrder}
use Rattle.cilk_tree.specs.Word.{event, predecessors_of, word_step, Before, plain, spawn}
use Rattle.cilk_tree.proofs.Events.{mark_at, spawn_mark, begin_what}
use Rattle.cilk_tree.specs.Planned.{planned}
use Rattle.cilk_tree.proofs.Passed.{gives_predecessors}
use Rattle.cilk_shared.specs.declared.reducers.FrameReducers.{FrameReducers}
use Rattle.cilk_shared.specs.declared.reducers.Reducers.{Reducers}
use Rattle.cilk_shared.specs.Reducers.{own, ends_from, retired, frame_in, of_event, events_at}
use Rattle.cilk_shared.specs.Settled.{Settles}
use Rattle.cilk_determinacy.specs.Runs.{Name, Reducer, Writes, Passes, Begins, Creates, Run}
use Rattle.cilk_determinacy.specs.Runs as runs
use Rattle.cilk_determinacy.specs.FrameEnvs.{FrameEnv, before_own}
use Rattle.cilk_determinacy.specs.Nested.{named}
use Rattle.cilk_determinacy.specs.Numbers.{frame_number, instance_number, start_event, numbered_event, numbered_events, all_reducers, EventIsHere, AreHere}
use Rattle.cilk_determinacy.proofs.Creations.{have_creations}
use Rattle.cilk_determinacy.proofs.Numbered.{events_numbered}
use Rattle.cilk_determinacy.proofs.Numbers.{frame_is}
use Rattle.cilk_determinacy.proofs.Strands.{spell_one_shape}
use Rattle.cilk_threads.specs.Laws.{RaceFreeRunsAreSettled}
use Rattle.cilk_threads.specs.Tables.{reducers_of, AreReducersOf}
use Rattle.cilk_threads.proofs.Between.{between}
use Rattle.cilk_threads.proofs.Found.{IsFound, end_found}
use Rattle.cilk_threads.proofs.Opened.{Opens, BeginsOpened}

-- ---- the creations of a frame's reducers
module _ (p : Source) (r : Transcript) where
  -- The list has the creation of the frame's reducer, and up to there no event begins a strand.
  record IsMade (es : List numbers.Event) (name : Name) (n : ℕ) : Type 0 where
    place : ℕ
    is : slice_get es place ≡ Some (events.Create (record { frame = frame_number p r name; place = suc n }))
    quiet : (y : ℕ) → y ≤ place → (e : numbers.Event) × (slice_get es y ≡ Some e) × (begun_by (mark_of e) ≡ 0)

  made_later : (es : List numbers.Event) (name : Name) (n : ℕ) (e : numbers.Event) → begun_by (mark_of e) ≡ 0 → IsMade es name n → IsMade (e ∷ es) name n
  made_later es name n e still h = record { place = suc h.place; is = h.is; quiet = quiet }
    where
      quiet : (y : ℕ) → y ≤ suc h.place → (d : numbers.Event) × (slice_get (e ∷ es) y ≡ Some d) × (begun_by (mark_of d) ≡ 0)
      quiet zero le = (e, refl, still)
      quiet (suc y) le = h.quiet y (omega (arith, le))

  opens_at : (name : Name) (n : ℕ) (ks : List MonoidKind) (t : Run FrameEnv) → Opens name n ks t → (m : ℕ) → m < length ks → IsMade (numbered_events p r name t) name (n + m)
  opens_at name n [] t o m less = absurd (omega (arith, less))
  opens_at name n (k ∷ ks) (runs.act (Writes c v) t) o m less = made_later (numbered_events p r name t) name (n + m) _ refl (opens_at name n (k ∷ ks) t o m less)
  opens_at name n (k ∷ ks) (runs.act (Passes (Creates i)) t) o zero less = record {
    place = 0;
    is = ap (λ i. Some (events.Create (instance_number p r i))) o.0 ∙ (let z : n ≡ n + 0 = omega arith in ap (λ (m : ℕ). Some (events.Create (record { frame = frame_number p r name; place = suc m }))) z);
    quiet = quiet;
  }
    where
      quiet : (y : ℕ) → y ≤ 0 → (e : numbers.Event) × (slice_get (numbered_events p r name (runs.act (Passes (Creates i)) t)) y ≡ Some e) × (begun_by (mark_of e) ≡ 0)
      quiet zero le = (events.Create (instance_number p r i), refl, refl)
      quiet (suc y) le = absurd (omega (arith, le))
  opens_at name n (k ∷ ks) (runs.act (Passes (Creates i)) t) o (suc m) less =
      let z : suc n + m ≡ n + suc m = omega arith in
      made_later (numbered_events p r name t) name (n + suc m) _ refl
      (subst (λ (x : ℕ). IsMade (numbered_events p r name t) name x) z (opens_at name (suc n) ks t o.1 m (omega (arith, less))))
  opens_at name n (k ∷ ks) t o m less = absurd o

  -- after the frame's `begin`
  record IsMadeBehind (es : List numbers.Event) (name : Name) (n : ℕ) : Type 0 where
    place : ℕ
    is : slice_get es (suc place) ≡ Some (events.Create (record { frame = frame_number p r name; place = suc n }))
    quiet : (y : ℕ) → y ≤ place → (e : numbers.Event) × (slice_get es (suc y) ≡ Some e) × (begun_by (mark_of e) ≡ 0)

  begun_made : (w : FrameEnv) (u : Run FrameEnv) → BeginsOpened p w u → (m : ℕ) → m < length (all_reducers p w.callee) → IsMadeBehind (numbered_events p r w.name u) w.name m
  begun_made w (runs.act (Passes Begins) t) o m less =
      let h = opens_at w.name 0 (all_reducers p w.callee) t o m less in
      let z : 0 + m ≡ m = omega arith in
      record { place = h.place; is = h.is ∙ ap (λ (n : ℕ). Some (events.Create (record { frame = frame_number p r w.name; place = suc n }))) z; quiet = h.quiet }
  begun_made w u o m less = absurd o

strand_still : (es : List numbers.Event) (b m : ℕ) → ((y : ℕ) → y < m → (e : numbers.Event) × (slice_get es (b + y) ≡ Some e) × (begun_by (mark_of e) ≡ 0)) → strand_at es (b + m) ≡ strand_at es b
strand_still es b zero h = let z : b + 0 ≡ b = omega arith in ap (strand_at es) z
strand_still es b (suc m) h =
    let here = h m (omega arith) in
    let less = slice_get_within es (b + m) here.0 here.1 in
    let z : b + suc m ≡ b + m + 1 = omega arith in
    let next = strand_next es (b + m) events.Sync less in
    let e = ap (λ (x : numbers.Event). begun_by (mark_of x)) (get_or_from_slice_get es (b + m) here.0 events.Sync here.1) ∙ here.2 in
    let rest = strand_still es b m (λ y l. h y (omega (arith, l))) in
    ap (strand_at es) z ∙ (let all : strand_at es (b + m + 1) ≡ strand_at es b = omega (arith, next, e, rest) in all)

-- a reducer's creation, at the position or before it
record IsMadeBy (es : List numbers.Event) (i : numbered.Instance) (q : ℕ) : Type 0 where
  place : ℕ
  low : 1 ≤ place
  upto : place ≤ q
  is : event_at es place ≡ Some (events.Create i)

-- with the end of a frame: each of its reducers was created in its first strand
record IsMadeIn (es : List numbers.Event) (i : numbered.Instance) (b q : ℕ) : Type 0 where
  made : IsMadeBy es i q
  strand : strand_at es made.place ≡ strand_at es b

created_in : (p : Source) (r : Transcript) (shape : Shape) (es : List numbers.Event) (q : ℕ) (h : IsFound p r shape es q) (m : ℕ) → (let w = h.w in m < length (all_reducers p w.callee))
    → (let w = h.w in IsMadeIn es (record { frame = frame_number p r w.name; place = suc m }) h.begin q)
created_in p r shape es q h m less =
    let f = h.frame in
    let x = begun_made p r h.w h.u f.opened m less in
    let inside = slice_get_within (numbered_events p r h.w.name h.u) (suc x.place) _ x.is in
    let low = h.low in
    let ends = h.ends in
    record {
      made = record {
        place = h.begin + suc x.place;
        low = omega (arith, low);
        upto = omega (arith, inside, ends);
        is = h.same (suc x.place) inside ∙ x.is;
      };
      strand = strand_still es h.begin (suc x.place) (λ y l.
          let e = x.quiet y (omega (arith, l)) in
          let z : h.begin + suc y - 1 ≡ h.begin + y = omega arith in
          (e.0, ap (slice_get es) (sym z) ∙ h.same (suc y) (omega (arith, l, inside)) ∙ e.1, e.2));
    }

-- ---- an event of a reducer comes after its creation
made_after : (e : numbers.Event) (i : numbered.Instance) (made : List numbered.Instance) → Among i (made_by (deed_of e) made) → Among i made ⊎ (e ≡ events.Create i)
made_after (events.Create j) i made (inl same) = inr (ap events.Create same)
made_after (events.Create j) i made (inr h) = inl h
made_after _ i made h = inl h

used_after : (made : List numbered.Instance) (es : List numbers.Event) → AreCreated made es → (q : ℕ) (i : numbered.Instance) (e : numbers.Event) → slice_get es q ≡ Some e → deed_of e ≡ Uses i
    → Among i made ⊎ ((k : ℕ) × (k < q) × (slice_get es k ≡ Some (events.Create i)))
used_after made [] h q i e is uses = let z : None ≡ Some e = is in absurd (cc z)
used_after made (x ∷ es) h zero i e is uses =
    let same : x ≡ e = cc is in
    inl (subst (λ d. IsCreated d made) (ap deed_of same ∙ uses) h.0)
used_after made (x ∷ es) h (suc q) i e is uses = by (used_after (made_by (deed_of x) made) es h.1 q i e is uses)
  where
    now : Among i made ⊎ (x ≡ events.Create i) → Among i made ⊎ ((k : ℕ) × (k < suc q) × (slice_get (x ∷ es) k ≡ Some (events.Create i)))
    now (inl m) = inl m
    now (inr same) = inr (0, omega arith, ap Some same)

    by : Among i (made_by (deed_of x) made) ⊎ ((k : ℕ) × (k < q) × (slice_get es k ≡ Some (events.Create i))) → Among i made ⊎ ((k : ℕ) × (k < suc q) × (slice_get (x ∷ es) k ≡ Some (events.Create i)))
    by (inl m) = now (made_after x i made m)
    by (inr (k, less, is)) = inr (suc k, omega (arith, less), is)

used_made : (es : List numbers.Event) → AreCreated [] es → (q : ℕ) (i : numbered.Instance) (e : numbers.Event) → 1 ≤ q → event_at es q ≡ Some e → deed_of e ≡ Uses i → IsMadeBy es i q
used_made es created q i e low is uses = elim (used_after [] es created (q - 1) i e is uses) [
  | inl none ↦ absurd none
  | inr (k, less, there) ↦ record { place = suc k; low = omega arith; upto = omega (arith, less); is = let z : suc k - 1 ≡ k = omega arith in ap (slice_get es) z ∙ there }
]

-- ---- no event creates the output
at_some : (e : numbers.Event) (i : numbered.Instance) → Some e ≡ Some (events.Create i) → e ≡ events.Create i
at_some e i h = cc h

module _ (p : Source) (r : Transcript) where
  mark_placed : (name : Name) (e : runs.Event) (i : numbered.Instance) → EventIsHere p r e → numbered_event p r name e ≡ events.Create i → (n : ℕ) × (i.place ≡ suc n)
  mark_placed name (runs.Passes (runs.Creates (Reducer m n k))) i here e = let same : record { frame = frame_number p r m; place = suc n } ≡ i = cc e in (n, ap (λ (i : numbered.Instance). i.place) (sym same))
  mark_placed name (runs.Passes (runs.Creates runs.Output)) i here e = absurd here
  mark_placed name e i here h = absurd (cc h)

  start_placed : (k : Invocation) (n : ℕ) (i : numbered.Instance) → start_event k n ≡ events.Create i → ⊥
  start_placed Call n i e = cc e
  start_placed Spawn n i e = cc e

  create_placed : (name : Name) (t : Run FrameEnv) → AreHere p r t → (j : ℕ) (i : numbered.Instance) → slice_get (numbered_events p r name t) j ≡ Some (events.Create i) → (n : ℕ) × (i.place ≡ suc n)
  create_placed name runs.stop h j i is = let z : None ≡ Some (events.Create i) = is in absurd (cc z)
  create_placed name (runs.act e t) h zero i is = mark_placed name e i h.0 (at_some _ i is)
  create_placed name (runs.act e t) h (suc j) i is = create_placed name t h.1 j i is
  create_placed name (runs.child k w u t) h zero i is = absurd (start_placed k (frame_number p r w.name) i (at_some _ i is))
  create_placed name (runs.child k w u t) h (suc j) i is =
      let n = length (numbered_events p r w.name u) in
      ⊎_elim
      (λ (less : j < n). create_placed w.name u h.1 j i (sym (nth_left (numbered_events p r w.name u) (numbered_events p r name t) j less) ∙ is))
      (λ (le : n ≤ j).
      let e : j ≡ n + (j - n) = omega (arith, le) in
      create_placed name t h.2 (j - n) i (sym (nth_right (numbered_events p r w.name u) (numbered_events p r name t) (j - n))
      ∙ ap (λ (x : ℕ). slice_get (numbered_events p r w.name u ++ numbered_events p r name t) x) (sym e) ∙ is))
      (cases_lt j n)

-- ---- a spawned child begins right after its spawn
abbrev SpawnsBegin : List Mark → Type 0
SpawnsBegin ms = (j : ℕ) → slice_get ms j ≡ Some mark.Spawn → slice_get ms (suc j) ≡ Some mark.Begin

begins_more : (m : Mark) (ms : List Mark) → (Some m ≡ Some mark.Spawn → ⊥) → SpawnsBegin ms → SpawnsBegin (m ∷ ms)
begins_more m ms other h zero is = absurd (other is)
begins_more m ms other h (suc j) is = h j is

begins_both : (ms ns : List Mark) → SpawnsBegin ms → SpawnsBegin ns → SpawnsBegin (ms ++ ns)
begins_both ms ns h g j is =
    ⊎_elim
    (λ (less : j < length ms).
    let next = h j (sym (nth_left ms ns j less) ∙ is) in
    nth_left ms ns (suc j) (slice_get_within ms (suc j) mark.Begin next) ∙ next)
    (λ (le : length ms ≤ j).
    let e : j ≡ length ms + (j - length ms) = omega (arith, le) in
    let f : suc j ≡ length ms + suc (j - length ms) = omega (arith, le) in
    ap (slice_get (ms ++ ns)) f ∙ nth_right ms ns (suc (j - length ms))
    ∙ g (j - length ms) (sym (nth_right ms ns (j - length ms)) ∙ ap (slice_get (ms ++ ns)) (sym e) ∙ is))
    (cases_lt j (length ms))

begun_child : (m : Mark) (ms : List Mark) → SpawnsBegin (mark.Begin ∷ ms) → SpawnsBegin (m ∷ mark.Begin ∷ ms)
begun_child m ms h zero is = refl
begun_child m ms h (suc j) is = h j is

spawns_begin : (s : Shape) → SpawnsBegin (marks s)
spawns_begin finish = begins_more mark.End [] (λ e. cc e) (λ j is. let z : None ≡ Some mark.Spawn = is in absurd (cc z))
spawns_begin (act r) = begins_more mark.Plain (marks r) (λ e. cc e) (spawns_begin r)
spawns_begin (sync r) = begins_more mark.Sync (marks r) (λ e. cc e) (spawns_begin r)
spawns_begin (child k u r) =
    begun_child (start_of k) (marks u ++ mark.Resume ∷ marks r)
    (begins_more mark.Begin (marks u ++ mark.Resume ∷ marks r) (λ e. cc e) (begins_both (marks u) (mark.Resume ∷ marks r) (spawns_begin u) (begins_more mark.Resume (marks r) (λ e. cc e) (spawns_begin r))))

marked : (o : Option numbers.Event) (m : Mark) → option_map mark_of o ≡ Some m → mark_at o ≡ m
marked None m h = absurd (cc h)
marked (Some e) m h = cc h

spawn_there : (o : Option numbers.Event) → mark_at o ≡ mark.Spawn → option_map mark_of o ≡ Some mark.Spawn
spawn_there (Some e) h = ap Some h
spawn_there None h = absurd (cc h)

module _ (shape : Shape) (es : List numbers.Event) (spells : Spells shape es) where
  mark_is : (j : ℕ) → option_map mark_of (slice_get es j) ≡ slice_get (mark.Begin ∷ marks shape) j
  mark_is j = sym (slice_get-map mark_of es j) ∙ ap (λ (ms : List Mark). slice_get ms j) spells

  pub first_mark : mark_at (event_at es 0) ≡ mark.Begin
  first_mark = marked (slice_get es 0) mark.Begin (mark_is 0)

  spawn_next : (k : ℕ) → mark_at (event_at es k) ≡ mark.Spawn → mark_at (event_at es (k + 1)) ≡ mark.Begin
  spawn_next zero h = absurd (cc (sym first_mark ∙ h))
  spawn_next (suc k) h =
      let a : suc k - 1 ≡ k = omega arith in
      let b : suc k + 1 - 1 ≡ suc k = omega arith in
      let there : option_map mark_of (slice_get es k) ≡ Some mark.Spawn = spawn_there (slice_get es k) (subst (λ (n : ℕ). mark_at (slice_get es n) ≡ mark.Spawn) a h) in
      let next = begins_more mark.Begin (marks shape) (λ e. cc e) (spawns_begin shape) k (sym (mark_is k) ∙ there) in
      subst (λ (n : ℕ). mark_at (slice_get es n) ≡ mark.Begin) (sym b) (marked (slice_get es (suc k)) mark.Begin (mark_is (suc k) ∙ next))

-- ---- the ends of a frame's reducers
ends_member : (f place n : ℕ) (i : numbered.Instance) → Mentions i (ends_from f place n) → (m : ℕ) × (m < n) × (record { frame = f; place = place + m } ≡ i)
ends_member f place zero i h = absurd h
ends_member f place (suc n) i (inl e) = let z : place + 0 ≡ place = omega arith in (0, omega arith, ap (λ (k : ℕ). record { frame = f; place = k }) z ∙ e)
ends_member f place (suc n) i (inr h) =
    let x = ends_member f (suc place) n i h in
    let z : place + suc x.0 ≡ suc place + x.0 = omega arith in
    let l = x.1 in
    (suc x.0, omega (arith, l), ap (λ (k : ℕ). record { frame = f; place = k }) z ∙ x.2)

resets_mention : (i : numbered.Instance) (es : List ReducerEvent) → Resets i es → Mentions i es
resets_mention i [] h = h
resets_mention i (e ∷ es) (inl h) = inl h.0
resets_mention i (e ∷ es) (inr h) = inr (resets_mention i es h)

-- ---- a run
module _ (p : Source) (inputs : List ℤ) (run : Transcript) (es : List numbers.Event) (outcome : Outcome) (opening : List ℤ) (shape : Shape) (r : Reducers)
    (well : IsTrue (is_well_named p)) (runs : IsSerialRun p inputs run es (Leaves outcome)) (spells : Spells shape es) (free : HasNoViewRace (tree shape) es) (table : AreReducersOf p run r) where
  abbrev s : EventOrder
  s = planned es opening

  created : AreCreated [] es
  created = runs_create p well inputs run es (Leaves outcome) runs

  before_use : AreCreatedBeforeUse es
  before_use = let h = have_creations p inputs run es (Leaves outcome) well runs in h.created

  synced : IsSynced shape
  synced = let one = spell_one_shape p inputs run es outcome runs in subst IsSynced (sym (one.one shape spells)) one.synced

  -- where the reducers end that a frame retires, they were created in its first strand
  record IsRetired (i : numbered.Instance) (q : ℕ) : Type 0 where
    begin : ℕ
    place : IsFrame shape begin q
    in_first : IsMadeIn es i begin q

  end_retires : (q : ℕ) (i : numbered.Instance) → 1 ≤ q → event_at es q ≡ Some events.End → Mentions i (retired (frame_in es q) (own r (frame_in es q))) → IsRetired i q
  end_retires q i low is m =
      let h = end_found p inputs run es outcome shape well runs spells q low is in
      let w = h.w in
      let f = h.frame in
      let b = f.here in
      let number : frame_in es q ≡ frame_number p run w.name = h.owner in
      let mine : own r (frame_in es q) ≡ reducers_of p w.callee = ap (own r) (number ∙ frame_is p run w.name b) ∙ table b.path b.block w.callee b.found f.runs in
      let x = ends_member (frame_in es q) (suc (before_own p w.callee)) (length (all_reducers p w.callee) - before_own p w.callee) i (subst (λ (o : FrameReducers). Mentions i (retired (frame_in es q) o)) mine m) in
      let less = x.1 in
      let z : suc (before_own p w.callee) + x.0 ≡ suc (before_own p w.callee + x.0) = omega arith in
      let same : record { frame = frame_number p run w.name; place = suc (before_own p w.callee + x.0) } ≡ i =
      ap (λ (n : ℕ). record { frame = n; place = suc (before_own p w.callee + x.0) }) (sym number) ∙ ap (λ (n : ℕ). record { frame = frame_in es q; place = n }) (sym z) ∙ x.2 in
      record {
        begin = h.begin;
        place = h.place;
        in_first = subst (λ (i : numbered.Instance). IsMadeIn es i h.begin q) same (created_in p run shape es q h (before_own p w.callee + x.0) (omega (arith, less)));
      }

  -- what mentions a reducer comes after its creation, or it is the output
  mention_made : (q : ℕ) (i : numbered.Instance) → 1 ≤ q → (o : Option numbers.Event) → event_at es q ≡ o → Mentions i (of_event r (frame_in es q) o) → IsMadeBy es i q ⊎ (output ≡ i)
  mention_made q i low (Some (events.Create j)) is (inl e) = inl (record { place = q; low = low; upto = omega arith; is = is ∙ ap (λ (k : numbered.Instance). Some (events.Create k)) e })
  mention_made q i low (Some (events.Update j v)) is (inl e) = inl (subst (λ (k : numbered.Instance). IsMadeBy es k q) e (used_made es created q j (events.Update j v) low is refl))
  mention_made q i low (Some (events.Set j v)) is (inl e) = inl (subst (λ (k : numbered.Instance). IsMadeBy es k q) e (used_made es created q j (events.Set j v) low is refl))
  mention_made q i low (Some (events.Print v)) is (inl e) = inr e
  mention_made q i low (Some events.End) is m = let h = end_retires q i low is m in let x = h.in_first in inl x.made
  mention_made q i low (Some (events.Create j)) is (inr m) = absurd m
  mention_made q i low (Some (events.Update j v)) is (inr m) = absurd m
  mention_made q i low (Some (events.Set j v)) is (inr m) = absurd m
  mention_made q i low (Some (events.Print v)) is (inr m) = absurd m
  mention_made q i low o is m = absurd m

  -- what reads, resets or ends a reducer has the peers of its creation
  record IsSettledBy (i : numbered.Instance) (q : ℕ) : Type 0 where
    made : IsMadeBy es i q
    inside : q ≤ length es
    peers : (SamePeers (tree shape) (strand_at es made.place) (strand_at es q) → ⊥) → ⊥

  inside_at : (q : ℕ) (e : numbers.Event) → event_at es q ≡ Some e → q ≤ length es
  inside_at q e is = let l = slice_get_within es (q - 1) e is in omega (arith, l)

  used_settles : (q : ℕ) (i : numbered.Instance) (e : numbers.Event) → 1 ≤ q → event_at es q ≡ Some e → UsesReducer (Some e) i → ReadsReducer (Some e) i → IsSettledBy i q
  used_settles q i e low is uses reads =
      let c = before_use.ahead q i low (subst (λ (o : Option numbers.Event). UsesReducer o i) (sym is) uses) in
      let less = c.2 in
      record {
        made = record { place = c.0; low = c.1; upto = omega (arith, less); is = c.3 };
        inside = inside_at q e is;
        peers = λ differ. free c.0 q (record {
          first = c.1;
          earlier = less;
          instance = i;
          one = subst (λ (o : Option numbers.Event). ReadsReducer o i) (sym c.3) refl;
          other = subst (λ (o : Option numbers.Event). ReadsReducer o i) (sym is) reads;
          differ = differ;
        });
      }

  settle_made : (q : ℕ) (i : numbered.Instance) → 1 ≤ q → (o : Option numbers.Event) → event_at es q ≡ o → ((v : ℤ) × (o ≡ Some (events.Value i v))) ⊎ Resets i (of_event r (frame_in es q) o) → IsSettledBy i q
  settle_made q i low (Some (events.Value j v)) is (inl h) = let same : j ≡ i = cc h.1 in used_settles q i (events.Value j v) low is same same
  settle_made q i low (Some (events.Set j v)) is (inr (inl h)) = used_settles q i (events.Set j v) low is h.0 h.0
  settle_made q i low (Some (events.Create j)) is (inr (inl h)) = record {
    made = record { place = q; low = low; upto = omega arith; is = is ∙ ap (λ (k : numbered.Instance). Some (events.Create k)) h.0 };
    inside = inside_at q (events.Create j) is;
    peers = λ differ. differ (λ w. (λ x. x, λ x. x));
  }
  settle_made q i low (Some events.End) is (inr h) =
      let x = end_retires q i low is (resets_mention i (retired (frame_in es q) (own r (frame_in es q))) h) in
      let y = x.in_first in
      let keep = frames_keep_peers shape es spells synced x.begin q x.place in
      record {
        made = y.made;
        inside = inside_at q events.End is;
        peers = λ differ. differ (subst (λ (n : ℕ). SamePeers (tree shape) n (strand_at es q)) (sym y.strand) keep);
      }
  settle_made q i low (Some (events.Create j)) is (inr (inr h)) = absurd h
  settle_made q i low (Some (events.Set j v)) is (inr (inr h)) = absurd h
  settle_made q i low (Some (events.Update j v)) is (inr (inl h)) = absurd h.1
  settle_made q i low (Some (events.Update j v)) is (inr (inr h)) = absurd h
  settle_made q i low (Some (events.Print v)) is (inr (inl h)) = absurd h.1
  settle_made q i low (Some (events.Print v)) is (inr (inr h)) = absurd h
  settle_made q i low o is (inl h) = absurd (cc h.1)
  settle_made q i low o is (inr h) = absurd h

  no_output : (q : ℕ) → event_at es q ≡ Some (events.Create output) → ⊥
  no_output q is =
      let e = events_numbered p inputs run es (Leaves outcome) well runs in
      let x = create_placed p run [] (named p run) e.here (q - 1) output (ap (λ (l : List numbers.Event). slice_get l (q - 1)) (sym e.events) ∙ is) in
      let z : 0 ≡ suc x.0 = x.1 in
      absurd (omega (arith, z))

  -- position 0 reads as position 1 does, where the root begins
  mention_low : (q : ℕ) (i : numbered.Instance) → Mentions i (events_at s r q) → 1 ≤ q
  mention_low zero i m = absurd (none (event_at es 0) (first_mark shape es spells) m)
    where
      none : (o : Option numbers.Event) → mark_at o ≡ mark.Begin → Mentions i (of_event r (frame_in es 0) o) → ⊥
      none (Some (events.Begin f)) e m = m
      none o e m = absurd (cc e)
  mention_low (suc q) i m = omega arith

  settled_at : (b x q : ℕ) (i : numbered.Instance) → Mentions i (events_at s r b) → Settles s r q i → b ≤ x → x < q → Before s x q
  settled_at b x q i m st le lt =
      let low = mention_low b i m in
      let c = settle_made q i (omega (arith, low, le, lt)) (event_at es q) refl st in
      let made = c.made in
      ⊎_elim
      (λ (d : IsMadeBy es i b).
      let first = d.upto in
      let upto : made.place ≤ x = ⊎_elim
      (λ (less : d.place < made.place). absurd (before_use.once d.place made.place i d.low less d.is made.is))
      (λ (other : made.place ≤ d.place). omega (arith, other, first, le))
      (cases_lt d.place made.place) in
      subst (λ (pre : List (List ℕ)). Reaches (λ (n : ℕ). slice_index_or pre (n - 1) []) x q) (sym (gives_predecessors shape es spells))
      (between shape es spells synced made.place x q made.low upto lt c.inside c.peers))
      (λ (e : output ≡ i). absurd (no_output made.place (made.is ∙ ap (λ (k : numbered.Instance). Some (events.Create k)) (sym e))))
      (mention_made b i low (event_at es b) refl m)

  begins_at : (k : ℕ) → word_step s k ≡ spawn → word_step s (k + 1) ≡ plain
  begins_at k e = begin_what es (k + 1) (event s (k + 1)) (predecessors_of s (k + 1)) (spawn_next shape es spells k (spawn_mark es k (event s k) (predecessors_of s k) e))

pub runs_settled : RaceFreeRunsAreSettled
runs_settled p inputs run es outcome opening shape r well runs spells free table = record {
  settled = settled_at p inputs run es outcome opening shape r well runs spells free table;
  begins = begins_at p inputs run es outcome opening shape r well runs spells free table;
}
