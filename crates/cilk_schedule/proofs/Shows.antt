-- The run gathered from a scheduler shows the state that the scheduler records.
--
-- - `among_at`, `among_keeps`: the children of a frame by their ordinals;
-- - `linked`: frames by links have the names of the scheduler's frames;
-- - `named_so`: an event, by numbers and by names;
-- - `shown_deeds`: the events of a frame;
-- - `shows_run`: the whole;
-- - `linked_up`: the frame at the beginning of a path;
-- - `link_named`: a frame's name by its link;
-- - `outcome_left`: the outcome at the first frame's end.
use Rattle.std.proofs.Common.{Bor, MatchOption, ◌≡◌, ◌⊎◌, inl, inr, ⊎_elim, ◌+◌, ◌-◌, ◌<◌, ◌≤◌, ℕ, ℤ, zero, suc, nat_eq, eq-eqb, eqb-true, Bool, true, false, cond, List, [], ◌∷◌, ◌++◌, length, map, slice_get, unwrap_or, Option, Some, None, refl, sym, ap, ap₂, ◌∙◌, subst, arith, append_assoc}
use Rattle.std.specs.Option.{option_map}
use Rattle.std.proofs.lemmas.Bool.{ne_eqb}
use Rattle.std.proofs.lemmas.List.{append-nil, length-map}
use Rattle.std.proofs.lemmas.Option.{slice_get-map}
use Rattle.cilk_types.specs.declared.event.Event.{Event}
use Rattle.cilk_types.specs.declared.event.Event.TheVariants as events
use Rattle.cilk_types.specs.declared.event.Instance as numbered
use Rattle.cilk_types.specs.declared.invocation.Invocation.{Invocation}
use Rattle.cilk_types.specs.declared.invocation.Invocation.TheVariants.{Call, Spawn}
use Rattle.cilk_types.specs.declared.outcome.Outcome.{Outcome}
use Rattle.cilk_program.specs.Syntax.{Source}
use Rattle.cilk_lower.specs.Code.{CodeView}
use Rattle.cilk_frames.specs.declared.activation.Activation.{Activation}
use Rattle.cilk_determinacy.specs.Machine.{State, HasEnd, deeds_at, started}
use Rattle.cilk_determinacy.specs.Runs.{Name, Instance, Output, Reducer, Granted, Begins, Resumes, Creates, Updates, Sets, Values, Prints, Deed, Does, Invokes, Reads, Writes, Syncs, Ends, Passes}
use Rattle.cilk_determinacy.specs.Runs.{Event as Done}
use Rattle.cilk_determinacy.specs.Reducers.{View}
use Rattle.cilk_determinacy.specs.Steps.{outcome_in}
use Rattle.cilk_determinacy.specs.FrameEnvs.{FrameEnv}
use Rattle.cilk_scheduler.specs.Schedulers.{Tells}
use Rattle.cilk_scheduler.specs.Numbered.{AreDeeds, AreNamed, IsDeed, IsInstance, IsMarked, children_among, events_of}
use Rattle.cilk_scheduler.specs.Parents.{ChildrenAreNamed}
use Rattle.cilk_scheduler.specs.declared.scheduler.Scheduler.{Scheduler}
use Rattle.cilk_scheduler.specs.declared.frame_state.FrameState.{FrameState}
use Rattle.cilk_scheduler.proofs.Children.{first_part, part_of}
use Rattle.cilk_scheduler.proofs.Placed.{get_some}
use Rattle.cilk_scheduler.proofs.Plain.{get_low}
use Rattle.cilk_scheduler.proofs.Siblings.{among_first, among_here, among_past}
use Rattle.cilk_scheduler.proofs.Starting.{last_there}
use Rattle.cilk_scheduler.proofs.Thieves.{snoc_name}
use Rattle.cilk_schedule.specs.Gathering.{AreGathered, AreNamedAs, HaveParents}
use Rattle.cilk_schedule.specs.Links.{link_of, links_in}
use Rattle.cilk_schedule.specs.Showing.{AreLinked, AreShown, IsEventShown, IsMarkShown, IsNamedAs, IsReducerShown, ShowsRun, ordinal_of, reducer_of, start_shown}
use Rattle.cilk_schedule.specs.declared.naming.ReducerName.TheVariants as reducers
use Rattle.cilk_schedule.specs.declared.naming.ShownEvent.{ShownEvent}
use Rattle.cilk_schedule.specs.declared.naming.ShownEvent.TheVariants as shows
use Rattle.cilk_schedule.specs.declared.showing.Link.{Link}
use Rattle.cilk_schedule.specs.declared.showing.Shown.{Shown}
use Rattle.cilk_schedule.specs.declared.showing.ShownFrame.{ShownFrame}
use Rattle.cilk_schedule.proofs.Owners.{cell_shown}

-- a name with an ordinal isn't the root's
no_root : (n : Name) (q : ℕ) → [] ≡ n ++ q ∷ [] → ⊥
no_root [] q e = let z : [] ≡ q ∷ [] = e in cc
no_root (j ∷ n) q e = let z : [] ≡ j ∷ (n ++ q ∷ []) = e in cc

-- ---- children

-- the frame at this place is a child of frame k, with one more than this number as its ordinal
pub record IsNext (frames : List (Activation FrameState)) (k q j : ℕ) : Type 0 where
  pub before : ℕ
  pub place : j ≡ suc before
  pub frame_state : Activation FrameState
  pub at : slice_get frames (suc before) ≡ Some frame_state
  pub parent : let y = frame_state.cursor in y.parent ≡ k
  pub ordinal : let y = frame_state.cursor in y.ordinal ≡ suc q

module _ (frames : List (Activation FrameState)) (name : ℕ → Name) (named : AreNamed frames name) (k : ℕ) where
  among_at : (n q j : ℕ) → n ≤ length frames → slice_get (children_among frames k n) q ≡ Some j → IsNext frames k q j
  among_at zero q j low h = let no : None ≡ Some j = h in let f : ⊥ = cc in absurd f
  among_at (suc zero) q j low h = let no : None ≡ Some j = ap (λ l. slice_get l q) (sym (among_first frames k)) ∙ h in let f : ⊥ = cc in absurd f
  among_at (suc (suc n)) q j low h = by (get_some frames (suc n) (omega (arith, low))) (among_at (suc n) q j (omega (arith, low)))
    where
      by : (x : Activation FrameState) × (slice_get frames (suc n) ≡ Some x) → (slice_get (children_among frames k (suc n)) q ≡ Some j → IsNext frames k q j) → IsNext frames k q j
      by g before = on (nat_eq (let x = g.0 in let y = x.cursor in y.parent) k) refl
        where
          on : (t : Bool) → nat_eq (let x = g.0 in let y = x.cursor in y.parent) k ≡ t → IsNext frames k q j
          on true e =
              let is = eqb-true (let x = g.0 in let y = x.cursor in y.parent) k e in
              ⊎_elim before
              (λ r. record {
                before = n;
                place = sym r.1;
                frame_state = g.0;
                at = g.1;
                parent = is;
                ordinal = named.ordinal n g.0 g.1 ∙ ap (λ m. suc (length (children_among frames m (suc n)))) is ∙ ap suc (sym r.0);
              }) (part_of (children_among frames k (suc n)) (suc n) q j (ap (λ l. slice_get l q) (sym (among_here frames k n g.0 g.1 is)) ∙ h))
          on false e = before (ap (λ l. slice_get l q) (sym (among_past frames k n g.0 g.1 e)) ∙ h)

  among_keeps : (n more r j : ℕ) → slice_get (children_among frames k n) r ≡ Some j → slice_get (children_among frames k (n + more)) r ≡ Some j
  among_keeps n zero r j h = let e : n ≡ n + 0 = omega arith in subst (λ m. slice_get (children_among frames k m) r ≡ Some j) e h
  among_keeps n (suc more) r j h =
      let e : suc (n + more) ≡ n + suc more = omega arith in
      subst (λ m. slice_get (children_among frames k m) r ≡ Some j) e (first_part (children_among frames k (n + more)) _ r j (among_keeps n more r j h))

  pub among_there : (j : ℕ) (x : Activation FrameState) → slice_get frames (suc j) ≡ Some x → (let y = x.cursor in y.parent ≡ k) → (r : ℕ) → (let y = x.cursor in y.ordinal ≡ suc r) → slice_get (children_among frames k (length frames)) r ≡ Some (suc j)
  among_there j x at is r ordinal =
      let low = get_low frames (suc j) x at in
      let count = named.ordinal j x at ∙ ap (λ m. suc (length (children_among frames m (suc j)))) is in
      let same : r ≡ length (children_among frames k (suc j)) = omega (arith, count, ordinal) in
      let here : slice_get (children_among frames k (suc (suc j))) r ≡ Some (suc j) =
      ap (λ l. slice_get l r) (among_here frames k j x at is) ∙ ap (λ m. slice_get (children_among frames k (suc j) ++ suc j ∷ []) m) same ∙ last_there (children_among frames k (suc j)) (suc j) in
      let rest : suc (suc j) + (length frames - suc (suc j)) ≡ length frames = omega (arith, low) in
      subst (λ m. slice_get (children_among frames k m) r ≡ Some (suc j)) rest (among_keeps (suc (suc j)) (length frames - suc (suc j)) r (suc j) here)

-- ---- links

module _ (frames : List (Activation FrameState)) (name : ℕ → Name) (named : AreNamed frames name) (list : List ShownFrame) (links : links_in list ≡ map link_of frames)
    (children : HaveParents frames → (k : ℕ) (f : ShownFrame) → slice_get list k ≡ Some f → (let c = f.children in c.items ≡ children_among frames k (length frames))) where
  parents : HaveParents frames
  parents k x at = let r = named.child k x at in r.0

  pub as_many : length list ≡ length frames
  as_many = sym (length-map list (λ (g : ShownFrame). g.link)) ∙ ap (λ (l : List Link). length l) links ∙ length-map frames link_of

  link_at : (k : ℕ) (f : ShownFrame) (a : Activation FrameState) → slice_get list k ≡ Some f → slice_get frames k ≡ Some a → f.link ≡ link_of a
  link_at k f a at there =
      let q : Some f.link ≡ Some (link_of a) =
      sym (slice_get-map (λ (g : ShownFrame). g.link) list k ∙ ap (λ (o : Option ShownFrame). option_map (λ (g : ShownFrame). g.link) o) at) ∙ ap (λ (l : List Link). slice_get l k) links ∙ slice_get-map link_of frames k
      ∙ ap (λ (o : Option (Activation FrameState)). option_map link_of o) there in
      cc

  frame_state_at : (k : ℕ) (f : ShownFrame) → slice_get list k ≡ Some f → (a : Activation FrameState) × (slice_get frames k ≡ Some a)
  frame_state_at k f at = get_some frames k (subst (λ n. k < n) as_many (get_low list k f at))

  child : (k : ℕ) (f : ShownFrame) → slice_get list (suc k) ≡ Some f → let l = f.link in (l.parent < suc k) × (name (suc k) ≡ name l.parent ++ l.ordinal ∷ [])
  child k f at =
      let a = frame_state_at (suc k) f at in
      subst (λ (l : Link). (l.parent < suc k) × (name (suc k) ≡ name l.parent ++ l.ordinal ∷ [])) (sym (link_at (suc k) f a.0 at a.1)) (named.child k a.0 a.1)

  lists : (k q j : ℕ) (f : ShownFrame) → slice_get list k ≡ Some f → (let c = f.children in slice_get c.items q ≡ Some j) → (j < length list) × (name j ≡ name k ++ suc q ∷ [])
  lists k q j f at is =
      let r = among_at frames name named k (length frames) q j (omega arith) (ap (λ l. slice_get l q) (sym (children parents k f at)) ∙ is) in
      let c = named.child r.before r.frame_state r.at in (
        subst (λ n. j < n) (sym as_many) (subst (λ m. m < length frames) (sym r.place) (get_low frames (suc r.before) r.frame_state r.at)),
        ap name r.place ∙ c.1 ∙ ap₂ (λ m o. name m ++ o ∷ []) r.parent r.ordinal,
      )

  listed : (k q j : ℕ) (f : ShownFrame) → slice_get list k ≡ Some f → j < length list → name j ≡ name k ++ q ∷ [] → (r : ℕ) × (q ≡ suc r) × (let c = f.children in slice_get c.items r ≡ Some j)
  listed k q zero f at low is = absurd (no_root (name k) q (sym named.root ∙ is))
  listed k q (suc j) f at low is =
      let a = get_some frames (suc j) (subst (λ n. suc j < n) as_many low) in
      let y = (let x = a.0 in x.cursor) in
      let c = named.child j a.0 a.1 in
      let less = c.0 in
      let g = snoc_name (name y.parent) (name k) y.ordinal q (sym c.1 ∙ is) in
      let here = get_low frames (suc j) a.0 a.1 in
      let same = named.apart y.parent k (omega (arith, less, here)) (subst (λ n. k < n) as_many (get_low list k f at)) g.0 in
      let count = named.ordinal j a.0 a.1 in
      let r : ℕ = length (children_among frames y.parent (suc j)) in (
        r,
        sym g.1 ∙ count,
        ap (λ l. slice_get l r) (children parents k f at) ∙ among_there frames name named k j a.0 a.1 same r count,
      )

  pub linked : AreLinked list name
  linked = record {
    root = named.root;
    child = child;
    apart = λ j k lj lk e. named.apart j k (subst (λ n. j < n) as_many lj) (subst (λ n. k < n) as_many lk) e;
    lists = lists;
    listed = listed;
  }

-- ---- events

module _ (code : CodeView) (p : Source) (inputs : List ℤ) (name : ℕ → Name) (b : Scheduler) (s : State FrameEnv View) (t : Tells code p inputs name b s) (globals : ℕ) (same : globals ≡ length p.openings) where
  abbrev frames : List (Activation FrameState)
  frames = let f = b.frames in f.items

  abbrev count : ℕ
  count = let f = b.frames in length f.items

  reducer_shown : (i : Instance) (j : numbered.Instance) → IsInstance p frames name i j → IsReducerShown name count i (reducer_of j)
  reducer_shown Output j h = ap (λ t. cond t reducers.Output (reducers.Own (j.frame - 1) (j.place - 1))) (eq-eqb j.frame 0 h.0)
  reducer_shown (Reducer m q kind) j h =
      let e = h.3 in
      let g = h.4 in
      let first : j.frame - 1 ≡ h.0 = omega (arith, e) in
      let second : j.place - 1 ≡ q = omega (arith, g) in (
        h.0,
        h.1,
        h.2,
        ap (λ n. cond (nat_eq n 0) reducers.Output (reducers.Own (j.frame - 1) (j.place - 1))) h.3 ∙ ap (λ t. cond t reducers.Output (reducers.Own (j.frame - 1) (j.place - 1))) (ne_eqb (suc h.0) 0 (λ z. absurd (omega (arith, z)))) ∙ ap₂ (λ n m. reducers.Own n m) first second,
      )

  mark_shown : (k : ℕ) (m : Granted) (x : Event) (e : ShownEvent) → IsMarked p frames name k m x → IsNamedAs frames globals x e → IsMarkShown name count m e
  mark_shown k Begins x e h g = subst (λ y. IsNamedAs frames globals y e) h g
  mark_shown k Resumes x e h g = subst (λ y. IsNamedAs frames globals y e) h g
  mark_shown k (Creates i) x e h g = let r : IsNamedAs frames globals (events.Create h.0) e = subst (λ y. IsNamedAs frames globals y e) h.2 g in (reducer_of h.0, reducer_shown i h.0 h.1, r)
  mark_shown k (Updates i v) x e h g = let r : IsNamedAs frames globals (events.Update h.0 v) e = subst (λ y. IsNamedAs frames globals y e) h.2 g in (reducer_of h.0, reducer_shown i h.0 h.1, r)
  mark_shown k (Sets i v) x e h g = let r : IsNamedAs frames globals (events.Set h.0 v) e = subst (λ y. IsNamedAs frames globals y e) h.2 g in (reducer_of h.0, reducer_shown i h.0 h.1, r)
  mark_shown k (Values i v) x e h g = let r : IsNamedAs frames globals (events.Value h.0 v) e = subst (λ y. IsNamedAs frames globals y e) h.2 g in (reducer_of h.0, reducer_shown i h.0 h.1, r)
  mark_shown k (Prints v) x e h g = subst (λ y. IsNamedAs frames globals y e) h g

  -- the ordinal of the child that an invocation starts
  ordinal_shown : (n : Name) (next c : ℕ) → c < count → name c ≡ n ++ next ∷ [] → ordinal_of frames (suc c) ≡ next
  ordinal_shown n next zero low is = let f = t.named in absurd (no_root n next (sym f.root ∙ is))
  ordinal_shown n next (suc c) low is =
      let f = t.named in
      let a = get_some frames (suc c) low in
      let y = (let x = a.0 in x.cursor) in
      let r = f.child c a.0 a.1 in
      let g = snoc_name (name y.parent) n y.ordinal next (sym r.1 ∙ is) in
      ap (λ (o : Option (Activation FrameState)). unwrap_or (option_map (λ (z : Activation FrameState). let w = z.cursor in w.ordinal) o) 0) a.1 ∙ g.1

  start_is : (k : ℕ) (how : Invocation) (w : FrameEnv) (n : Name) (next : ℕ) (x : Event) (e : ShownEvent) → w.name ≡ n ++ next ∷ [] → IsDeed p frames name s k (Invokes how w) x → IsNamedAs frames globals x e → e ≡ start_shown how next
  start_is k Call w n next x e named h g =
      let r : IsNamedAs frames globals (events.Call (suc h.0)) e = subst (λ y. IsNamedAs frames globals y e) h.3 g in
      r ∙ ap (λ q. shows.Call q) (ordinal_shown n next h.0 h.1 (h.2 ∙ named))
  start_is k Spawn w n next x e named h g =
      let r : IsNamedAs frames globals (events.Spawn (suc h.0)) e = subst (λ y. IsNamedAs frames globals y e) h.3 g in
      r ∙ ap (λ q. shows.Spawn q) (ordinal_shown n next h.0 h.1 (h.2 ∙ named))

  -- each child that these deeds start has its ordinal, from the next on
  abbrev Numbered : Name → ℕ → List (Deed FrameEnv) → Type 0
  Numbered n next ds = (before : List (Deed FrameEnv)) (how : Invocation) (w : FrameEnv) (after : List (Deed FrameEnv)) → ds ≡ before ++ Invokes how w ∷ after → w.name ≡ n ++ (next + started before) ∷ []

  shown_deeds : (k : ℕ) (n : Name) (next : ℕ) (ds : List (Deed FrameEnv)) (xs : List Event) (es : List ShownEvent) → Numbered n next ds → AreDeeds p frames name s k ds xs → AreNamedAs frames globals xs es → AreShown name count n next ds es
  shown_deeds k n next [] [] [] ordinals h g = tt
  shown_deeds k n next [] [] (e ∷ es) ordinals h g = absurd g
  shown_deeds k n next [] (x ∷ xs) es ordinals h g = absurd h
  shown_deeds k n next (Does d ∷ ds) [] es ordinals h g = absurd h
  shown_deeds k n next (Invokes how w ∷ ds) [] es ordinals h g = absurd h
  shown_deeds k n next (Does d ∷ ds) (x ∷ xs) [] ordinals h g = absurd g
  shown_deeds k n next (Invokes how w ∷ ds) (x ∷ xs) [] ordinals h g = absurd g
  shown_deeds k n next (Does d ∷ ds) (x ∷ xs) (e ∷ es) ordinals h g =
      (event_is d h.0, shown_deeds k n next ds xs es (λ before how w after is. ordinals (Does d ∷ before) how w after (ap (λ l. Does d ∷ l) is)) h.1 g.1)
    where
      event_is : (c : Done) → IsDeed p frames name s k (Does c) x → IsEventShown name count c e
      event_is (Reads c v) q =
          let r : IsNamedAs frames globals (events.Read q.0 v) e = subst (λ y. IsNamedAs frames globals y e) q.2 g.0 in
          (r.0, cell_shown code p inputs name b s t c q.0 globals r.0 same q.1 r.1, r.2)
      event_is (Writes c v) q =
          let r : IsNamedAs frames globals (events.Write q.0 v) e = subst (λ y. IsNamedAs frames globals y e) q.2 g.0 in
          (r.0, cell_shown code p inputs name b s t c q.0 globals r.0 same q.1 r.1, r.2)
      event_is Syncs q = subst (λ y. IsNamedAs frames globals y e) q g.0
      event_is (Ends v gone) q = subst (λ y. IsNamedAs frames globals y e) q g.0
      event_is (Passes m) q = mark_shown k m x e q g.0
  shown_deeds k n next (Invokes how w ∷ ds) (x ∷ xs) (e ∷ es) ordinals h g =
      let e1 : next + 0 ≡ next = omega arith in
      let named : w.name ≡ n ++ next ∷ [] = ordinals [] how w ds refl ∙ ap (λ q. n ++ q ∷ []) e1 in (
        named,
        start_is k how w n next x e named h.0 g.0,
        shown_deeds k n (suc next) ds xs es
            (λ before how' v after is.
            let e2 : next + suc (started before) ≡ suc next + started before = omega arith in
            ordinals (Invokes how w ∷ before) how' v after (ap (λ l. Invokes how w ∷ l) is) ∙ ap (λ q. n ++ q ∷ []) e2) h.1 g.1,
      )

  -- ---- the whole

  module _ (shown : Shown) (names : ChildrenAreNamed s) (gathered : (let e = b.journal in let l = shown.frames in AreGathered frames globals e.items l.items)) (outcome : shown.outcome ≡ b.outcome) where
    many : (let l = shown.frames in length l.items) ≡ count
    many = let l = shown.frames in as_many frames name t.named l.items gathered.links gathered.children

    pub shows_run : ShowsRun p name s shown
    shows_run =
        let l = shown.frames in record {
          linked = linked frames name t.named l.items gathered.links gathered.children;
          events = λ k f at.
              let a = get_some frames k (subst (λ n. k < n) many (get_low l.items k f at)) in
              let h = t.here k a.0 a.1 in
              let e = b.journal in
              let es = f.events in (
                h.0,
                h.1,
                subst (λ n. AreShown name n (name k) 1 (let x = h.0 in x.deeds) es.items) (sym many)
                    (shown_deeds k (name k) 1 (let x = h.0 in x.deeds) (events_of k e.items) es.items
                    (λ before how w after is. names (name k) h.0 before how w after h.1 is ∙ (let e1 : suc (started before) ≡ 1 + started before = omega arith in ap (λ q. name k ++ q ∷ []) e1)) h.2 (gathered.events k f at)),
              );
          absent = λ n none. t.absent n (λ k low. none k (subst (λ z. k < z) (sym many) low));
          joins = t.joins;
          going = λ e. t.going (sym outcome ∙ e);
          over = λ o e. t.over o (sym outcome ∙ e);
        }

-- ---- paths

last_part : {A : Type 0} (ys : List A) → (ys ≡ []) ⊎ ((zs : List A) × (z : A) × (ys ≡ zs ++ z ∷ []))
last_part [] = inl refl
last_part (y ∷ ys) = ⊎_elim (λ e. inr ([], y, ap (λ l. y ∷ l) e)) (λ r. inr (y ∷ r.0, r.1, ap (λ l. y ∷ l) r.2)) (last_part ys)

module _ (list : List ShownFrame) (name : ℕ → Name) (linked_so : AreLinked list name) where
  up_to : (n k : ℕ) (xs ys : Name) → k < n → k < length list → name k ≡ xs ++ ys → (j : ℕ) × (j < length list) × (name j ≡ xs)
  up_to zero k xs ys less low is = absurd (omega (arith, less))
  up_to (suc n) k xs ys less low is = ⊎_elim (λ e. (k, low, is ∙ ap (λ l. xs ++ l) e ∙ append-nil xs)) (λ r. more r.0 r.1 r.2 k less low is (λ i us vs l lo q. up_to n i us vs l lo q)) (last_part ys)
    where
      more : (zs : Name) (z : ℕ) → ys ≡ zs ++ z ∷ [] → (i : ℕ) → i < suc n → i < length list → name i ≡ xs ++ ys
          → ((i : ℕ) (us vs : Name) → i < n → i < length list → name i ≡ us ++ vs → (j : ℕ) × (j < length list) × (name j ≡ us)) → (j : ℕ) × (j < length list) × (name j ≡ xs)
      more zs z e zero less' low' is' rec =
          absurd (no_root (xs ++ zs) z (sym linked_so.root ∙ is' ∙ ap (λ l. xs ++ l) e ∙ sym (append_assoc xs zs (z ∷ []))))
      more zs z e (suc i) less' low' is' rec =
          let f = get_some list (suc i) low' in
          let c = linked_so.child i f.0 f.1 in
          let l = (let y = f.0 in y.link) in
          let first = c.0 in
          let g = snoc_name (name l.parent) (xs ++ zs) l.ordinal z (sym c.1 ∙ is' ∙ ap (λ l. xs ++ l) e ∙ sym (append_assoc xs zs (z ∷ []))) in
          rec l.parent xs zs (omega (arith, first, less')) (omega (arith, first, low')) g.0

  pub linked_up : (k : ℕ) (xs ys : Name) → k < length list → name k ≡ xs ++ ys → (j : ℕ) × (j < length list) × (name j ≡ xs)
  linked_up k xs ys low is = up_to (suc k) k xs ys (omega arith) low is

-- ---- links of what is shown

pub link_named : (list : List ShownFrame) (name : ℕ → Name) → AreLinked list name → (k : ℕ) (f : ShownFrame) → slice_get list k ≡ Some f → 0 < k → let l = f.link in (l.parent < k) × (name k ≡ name l.parent ++ l.ordinal ∷ [])
link_named list name linked zero f at some = absurd (omega (arith, some))
link_named list name linked (suc k) f at some = linked.child k f at

-- ---- the outcome

pub outcome_left : (p : Source) (name : ℕ → Name) (s : State FrameEnv View) (shown : Shown) → ShowsRun p name s shown → (o : Option (Bor Outcome)) → MatchOption o (shown.outcome ≡ None) (λ left. shown.outcome ≡ Some left.now)
    → MatchOption o (¬ (HasEnd (deeds_at (s.frames [])))) (λ left. HasEnd (deeds_at (s.frames [])) × (left.now ≡ outcome_in p s))
outcome_left p name s shown run None h = run.going h
outcome_left p name s shown run (Some left) h = run.over left.now h
