-- The free machine makes its steps.
use Rattle.std.proofs.Common.{◌≡◌, ℕ, suc, ◌+◌, ◌≤◌, ◌<◌, ℤ, Bool, true, false, cond, ◌&&◌, nat_eq, List, [], ◌∷◌, ◌++◌, Option, Some, None, ◌⊎◌, inl, inr, ⊎_elim, refl, sym, ap, ◌∙◌, subst, arith, lt-ltb, le-ltb}
use Rattle.std.proofs.lemmas.Bool.{cond-true, cond-false, false≢true}
use Rattle.cilk_types.specs.declared.fault.Fault.{Fault}
use Rattle.cilk_types.specs.declared.fault.Fault.TheVariants.{TooManyEvents, TooManyFrames, TooManyCells}
use Rattle.cilk_types.specs.declared.invocation.Invocation.{Invocation}
use Rattle.cilk_types.specs.declared.invocation.Invocation.TheVariants.{Call, Spawn}
use Rattle.cilk_determinacy.specs.Runs.{Name, same_name, Cell, Instance, Ask, Read, Write, Invoke, Sync, End, Pass, Fail, Begin, Resume, Create, Update, Set, Value, Print, Reads, Writes, Syncs, Ends, Passes, Deed, Does, Invokes}
use Rattle.cilk_determinacy.specs.Costs.{Costs, Total, TickTotal, EventTotal, FrameTotal, CellTotal, cost, is_over, own_fault, fault_of}
use Rattle.cilk_monoid.specs.Laws.{MonoidStructure}
use Rattle.cilk_determinacy.specs.Monoids.{unit_of, numbers_of}
use Rattle.cilk_determinacy.specs.Machine.{Frame, Frames, State, deeds_at, HasEnd, HasSync, started, Ready, strand_of, deed_of, effect, begun, after_deed, joined_by, with_view, after_views, IsAsking, Makes, Steals, Stops, IsOpening}
use Rattle.cilk_determinacy.specs.Progress.{child_after, Answers, HasNoSync, HasEnded, GoesOn, AtBegin, AfterEvent, AfterChild, AfterSteal, MayAsk, HasNext, HasStop, HasThief, HasProgress}
use Rattle.cilk_determinacy.proofs.Basics.{same_name-refl, nil_snoc, snoc_one}
use Rattle.cilk_determinacy.proofs.Find.{ask_by}
use Rattle.cilk_determinacy.proofs.Spent.{no_fault}

not_child : (n : Name) (k : ℕ) → same_name (n ++ k ∷ []) n ≡ false
not_child [] k = refl
not_child (j ∷ n) k = ap (λ b. nat_eq j j && b) (not_child n k) ∙ and_false (nat_eq j j)
  where
    and_false : (b : Bool) → (b && false) ≡ false
    and_false true = refl
    and_false false = refl

-- a fault is found
abbrev AFault : Option Fault → Type 0
AFault found = (f : Fault) × (found ≡ Some f)

-- the one of this total
abbrev pick : Total → Bool → Bool → Bool → Bool → Bool
pick TickTotal t e f c = t
pick EventTotal t e f c = e
pick FrameTotal t e f c = f
pick CellTotal t e f c = c

module _ {W : Type 0} where
  -- ---- deeds among deeds

  sync_among : (before after : List (Deed W)) → HasSync (before ++ Does Syncs ∷ after)
  sync_among [] after = tt
  sync_among (Does (Reads c v) ∷ ds) after = sync_among ds after
  sync_among (Does (Writes c v) ∷ ds) after = sync_among ds after
  sync_among (Does Syncs ∷ ds) after = tt
  sync_among (Does (Ends v gone) ∷ ds) after = sync_among ds after
  sync_among (Does (Passes m) ∷ ds) after = sync_among ds after
  sync_among (Invokes k w ∷ ds) after = sync_among ds after

  later_none : (d : Deed W) (ds : List (Deed W)) → HasNoSync (d ∷ ds) → HasNoSync ds
  later_none d ds never before after q = never (d ∷ before) after (ap (λ z. d ∷ z) q)

  no_sync : (ds : List (Deed W)) → HasNoSync ds → ¬ (HasSync ds)
  no_sync [] never h = h
  no_sync (Does (Reads c v) ∷ ds) never h = no_sync ds (later_none (Does (Reads c v)) ds never) h
  no_sync (Does (Writes c v) ∷ ds) never h = no_sync ds (later_none (Does (Writes c v)) ds never) h
  no_sync (Does Syncs ∷ ds) never h = never [] ds refl
  no_sync (Does (Ends v gone) ∷ ds) never h = no_sync ds (later_none (Does (Ends v gone)) ds never) h
  no_sync (Does (Passes m) ∷ ds) never h = no_sync ds (later_none (Does (Passes m)) ds never) h
  no_sync (Invokes k w ∷ ds) never h = no_sync ds (later_none (Invokes k w) ds never) h

  end_among : (before : List (Deed W)) (v : ℤ) (gone : List Instance) (after : List (Deed W)) → HasEnd (before ++ Does (Ends v gone) ∷ after)
  end_among [] v gone after = tt
  end_among (Does (Reads c x) ∷ ds) v gone after = end_among ds v gone after
  end_among (Does (Writes c x) ∷ ds) v gone after = end_among ds v gone after
  end_among (Does Syncs ∷ ds) v gone after = end_among ds v gone after
  end_among (Does (Ends x left) ∷ ds) v gone after = tt
  end_among (Does (Passes m) ∷ ds) v gone after = end_among ds v gone after
  end_among (Invokes k w ∷ ds) v gone after = end_among ds v gone after

  abbrev EndAmong : List (Deed W) → Type 0
  EndAmong ds = (before : List (Deed W)) × (v : ℤ) × (gone : List Instance) × (after : List (Deed W)) × (ds ≡ before ++ Does (Ends v gone) ∷ after)

  later_end : (d : Deed W) (ds : List (Deed W)) → EndAmong ds → EndAmong (d ∷ ds)
  later_end d ds (before, v, gone, after, q) = (d ∷ before, v, gone, after, ap (λ z. d ∷ z) q)

  find_end : (ds : List (Deed W)) → HasEnd ds → EndAmong ds
  find_end [] h = absurd h
  find_end (Does (Reads c x) ∷ ds) h = later_end (Does (Reads c x)) ds (find_end ds h)
  find_end (Does (Writes c x) ∷ ds) h = later_end (Does (Writes c x)) ds (find_end ds h)
  find_end (Does Syncs ∷ ds) h = later_end (Does Syncs) ds (find_end ds h)
  find_end (Does (Ends v gone) ∷ ds) h = ([], v, gone, ds, refl)
  find_end (Does (Passes m) ∷ ds) h = later_end (Does (Passes m)) ds (find_end ds h)
  find_end (Invokes k w ∷ ds) h = later_end (Invokes k w) ds (find_end ds h)

  -- the last deed, if there is one
  abbrev Last : List (Deed W) → Type 0
  Last ds = (ds ≡ []) ⊎ ((before : List (Deed W)) × (d : Deed W) × (ds ≡ before ++ d ∷ []))

  later_last : (d : Deed W) (ds : List (Deed W)) → Last ds → Last (d ∷ ds)
  later_last d ds (inl q) = inr ([], d, ap (λ z. d ∷ z) q)
  later_last d ds (inr (before, e, q)) = inr (d ∷ before, e, ap (λ z. d ∷ z) q)

  last_of : (ds : List (Deed W)) → Last ds
  last_of [] = inl refl
  last_of (d ∷ ds) = later_last d ds (last_of ds)

  -- ---- what a frame waits for

  -- the ordinal of the next child after these deeds, counted from k
  abbrev next_from : ℕ → List (Deed W) → ℕ
  next_from k [] = k
  next_from k (Does e ∷ ds) = next_from k ds
  next_from k (Invokes b w ∷ ds) = next_from (suc k) ds

  next_started : (k : ℕ) (ds : List (Deed W)) → next_from k ds ≡ k + started ds
  next_started k [] = omega arith
  next_started k (Does e ∷ ds) = next_started k ds
  next_started k (Invokes b w ∷ ds) = omega (arith, next_started (suc k) ds)

  first_next : (ds : List (Deed W)) → next_from 1 ds ≡ suc (started ds)
  first_next ds = omega (arith, next_started 1 ds)

  module _ (kid : ℕ → Option (Frame W)) (loose : ℕ → Bool) (a : Ask W) where
    abbrev Ended : ℕ → List (Deed W) → Type 0
    Ended k before = HasEnd (deeds_at (kid (next_from k before)))

    abbrev PastCall : ℕ → List (Deed W) → Type 0
    PastCall k ds = (before : List (Deed W)) (w : W) → ds ≡ before ++ Invokes Call w ∷ [] → Ended k before

    abbrev PastSpawn : ℕ → List (Deed W) → Type 0
    PastSpawn k ds = (before : List (Deed W)) (w : W) → ds ≡ before ++ Invokes Spawn w ∷ [] → Ended k before ⊎ (loose (next_from k before) ≡ true)

    abbrev PastBlock : ℕ → List (Deed W) → Type 0
    PastBlock k ds = a ≡ Sync → (before after : List (Deed W)) (w : W) → ds ≡ before ++ Invokes Spawn w ∷ after → ¬ (HasSync after) → Ended k before

    ready : (ds : List (Deed W)) (k : ℕ) → PastCall k ds → PastSpawn k ds → PastBlock k ds → Ready kid loose a k ds
    ready [] k calls spawns block = tt
    ready (Does e ∷ ds) k calls spawns block =
        ready ds k (λ b w q. calls (Does e ∷ b) w (ap (λ z. Does e ∷ z) q)) (λ b w q. spawns (Does e ∷ b) w (ap (λ z. Does e ∷ z) q)) (λ is b t w q. block is (Does e ∷ b) t w (ap (λ z. Does e ∷ z) q))
    ready (Invokes Call v ∷ ds) k calls spawns block = (
      (λ q. calls [] v (ap (λ z. Invokes Call v ∷ z) q)),
      ready ds (suc k) (λ b w q. calls (Invokes Call v ∷ b) w (ap (λ z. Invokes Call v ∷ z) q)) (λ b w q. spawns (Invokes Call v ∷ b) w (ap (λ z. Invokes Call v ∷ z) q)) (λ is b t w q. block is (Invokes Call v ∷ b) t w (ap (λ z. Invokes Call v ∷ z) q)),
    )
    ready (Invokes Spawn v ∷ ds) k calls spawns block = (
      (λ q. spawns [] v (ap (λ z. Invokes Spawn v ∷ z) q)),
      (λ is never. block is [] ds v refl never),
      ready ds (suc k) (λ b w q. calls (Invokes Spawn v ∷ b) w (ap (λ z. Invokes Spawn v ∷ z) q)) (λ b w q. spawns (Invokes Spawn v ∷ b) w (ap (λ z. Invokes Spawn v ∷ z) q)) (λ is b t w q. block is (Invokes Spawn v ∷ b) t w (ap (λ z. Invokes Spawn v ∷ z) q)),
    )

    ready_call : (before : List (Deed W)) (w : W) (k : ℕ) → Ready kid loose a k (before ++ Invokes Call w ∷ []) → Ended k before
    ready_call [] w k h = h.0 refl
    ready_call (Does e ∷ before) w k h = ready_call before w k h
    ready_call (Invokes Call v ∷ before) w k h = ready_call before w (suc k) h.1
    ready_call (Invokes Spawn v ∷ before) w k h = ready_call before w (suc k) h.2

    ready_spawn : (before : List (Deed W)) (w : W) (k : ℕ) → Ready kid loose a k (before ++ Invokes Spawn w ∷ []) → Ended k before ⊎ (loose (next_from k before) ≡ true)
    ready_spawn [] w k h = h.0 refl
    ready_spawn (Does e ∷ before) w k h = ready_spawn before w k h
    ready_spawn (Invokes Call v ∷ before) w k h = ready_spawn before w (suc k) h.1
    ready_spawn (Invokes Spawn v ∷ before) w k h = ready_spawn before w (suc k) h.2

    ready_block : a ≡ Sync → (before after : List (Deed W)) (w : W) (k : ℕ) → Ready kid loose a k (before ++ Invokes Spawn w ∷ after) → ¬ (HasSync after) → Ended k before
    ready_block is [] after w k h never = h.1 is never
    ready_block is (Does e ∷ before) after w k h never = ready_block is before after w k h never
    ready_block is (Invokes Call v ∷ before) after w k h never = ready_block is before after w (suc k) h.1 never
    ready_block is (Invokes Spawn v ∷ before) after w k h never = ready_block is before after w (suc k) h.2 never

  -- ---- what answers an ask

  answers_ask : (memory : Cell → ℤ) (number : Instance → ℤ) (a : Ask W) → ((f : Fault) → a ≡ Fail f → ⊥) → Answers (deed_of memory number a) a
  answers_ask memory number (Read c) never = refl
  answers_ask memory number (Write c v) never = refl
  answers_ask memory number (Invoke k w) never = refl
  answers_ask memory number Sync never = refl
  answers_ask memory number (End v gone) never = refl
  answers_ask memory number (Pass Begin) never = refl
  answers_ask memory number (Pass Resume) never = refl
  answers_ask memory number (Pass (Create i)) never = refl
  answers_ask memory number (Pass (Update i x)) never = refl
  answers_ask memory number (Pass (Set i x)) never = refl
  answers_ask memory number (Pass (Value i)) never = refl
  answers_ask memory number (Pass (Print x)) never = refl
  answers_ask memory number (Fail f) never = absurd (never f refl)

  asked_by : (d : Deed W) (a : Ask W) → Answers d a → a ≡ ask_by d
  asked_by (Does e) a h = h
  asked_by (Invokes k w) a h = h

  -- ---- the frames after a deed

  grown_by : (frames : Frames W) (n : Name) (f : Frame W) (d : Deed W) → after_deed frames n f d n ≡ Some (record f { deeds = f.deeds ++ d ∷ [] })
  grown_by frames n f (Does e) = cond-true (same_name n n) _ _ (same_name-refl n)
  grown_by frames n f (Invokes k w) =
      cond-false (same_name (n ++ suc (started f.deeds) ∷ []) n) _ _ (not_child n (suc (started f.deeds))) ∙ cond-true (same_name n n) _ _ (same_name-refl n)

  child_begun : (frames : Frames W) (n : Name) (f : Frame W) (k : Invocation) (w : W) → after_deed frames n f (Invokes k w) (child_after n f.deeds) ≡ Some (begun w)
  child_begun frames n f k w = cond-true (same_name (child_after n f.deeds) (child_after n f.deeds)) _ _ (same_name-refl (child_after n f.deeds))

  -- ---- faults

  own_some : (a : Ask W) (f : Fault) → AFault (own_fault a (Some f))
  own_some (Read c) f = (f, refl)
  own_some (Write c v) f = (f, refl)
  own_some (Invoke k w) f = (f, refl)
  own_some Sync f = (f, refl)
  own_some (End v gone) f = (f, refl)
  own_some (Pass m) f = (f, refl)
  own_some (Fail g) f = (g, refl)

  over_by : (t e f c : Bool) (a : Ask W) (total : Total) → pick total t e f c ≡ true → AFault (cond t (Some TooManyEvents) (own_fault a (cond e (Some TooManyEvents) (cond f (Some TooManyFrames) (cond c (Some TooManyCells) None)))))
  over_by true e f c a total h = (TooManyEvents, refl)
  over_by false true f c a total h = own_some a TooManyEvents
  over_by false false true c a total h = own_some a TooManyFrames
  over_by false false false true a total h = own_some a TooManyCells
  over_by false false false false a TickTotal h = absurd (false≢true h)
  over_by false false false false a EventTotal h = absurd (false≢true h)
  over_by false false false false a FrameTotal h = absurd (false≢true h)
  over_by false false false false a CellTotal h = absurd (false≢true h)

  over_stops : (C : Costs W) (totals : Total → ℕ) (w : W) (past : List (Deed W)) (a : Ask W) (total : Total) → is_over C total totals w past a ≡ true → AFault (fault_of C totals w past a)
  over_stops C totals w past a TickTotal h = over_by (is_over C TickTotal totals w past a) (is_over C EventTotal totals w past a) (is_over C FrameTotal totals w past a) (is_over C CellTotal totals w past a) a TickTotal h
  over_stops C totals w past a EventTotal h = over_by (is_over C TickTotal totals w past a) (is_over C EventTotal totals w past a) (is_over C FrameTotal totals w past a) (is_over C CellTotal totals w past a) a EventTotal h
  over_stops C totals w past a FrameTotal h = over_by (is_over C TickTotal totals w past a) (is_over C EventTotal totals w past a) (is_over C FrameTotal totals w past a) (is_over C CellTotal totals w past a) a FrameTotal h
  over_stops C totals w past a CellTotal h = over_by (is_over C TickTotal totals w past a) (is_over C EventTotal totals w past a) (is_over C FrameTotal totals w past a) (is_over C CellTotal totals w past a) a CellTotal h

module _ {W V : Type 0} where
  ended : (s : State W V) (m : Name) → HasEnded W V s m → HasEnd (deeds_at (s.frames m))
  ended s m h = rw h.here (rw h.ends (end_among h.before h.result h.retired h.after))

  -- which frame it is, from its deeds
  has_ended : (s : State W V) (m : Name) (found : Option (Frame W)) → s.frames m ≡ found → HasEnd (deeds_at found) → HasEnded W V s m
  has_ended s m None here h = absurd h
  has_ended s m (Some f) here h =
      let (before, v, gone, after, q) = find_end f.deeds h in
      record { frame = f; before = before; result = v; retired = gone; after = after; here = here; ends = q }

  past_call : (s : State W V) (n : Name) (ds : List (Deed W)) → GoesOn W V s n ds → (before : List (Deed W)) (w : W) → ds ≡ before ++ Invokes Call w ∷ [] → HasEnd (deeds_at (s.frames (child_after n before)))
  past_call s n ds (AtBegin z) b w q = nil_snoc b (Invokes Call w) (sym z ∙ q)
  past_call s n ds (AfterEvent c e z) b w q = let same : Does e ≡ Invokes Call w = (snoc_one c b (Does e) (Invokes Call w) (sym z ∙ q)).1 in absurd (cc)
  past_call s n ds (AfterChild c k v z x) b w q = subst (λ l. HasEnd (deeds_at (s.frames (child_after n l)))) (snoc_one c b (Invokes k v) (Invokes Call w) (sym z ∙ q)).0 (ended s (child_after n c) x)
  past_call s n ds (AfterSteal c v z x) b w q = let same : Invokes Spawn v ≡ Invokes Call w = (snoc_one c b (Invokes Spawn v) (Invokes Call w) (sym z ∙ q)).1 in absurd (cc)

  past_spawn : (s : State W V) (n : Name) (ds : List (Deed W)) → GoesOn W V s n ds → (before : List (Deed W)) (w : W) → ds ≡ before ++ Invokes Spawn w ∷ [] → HasEnd (deeds_at (s.frames (child_after n before))) ⊎ (s.stolen (child_after n before) ≡ true)
  past_spawn s n ds (AtBegin z) b w q = nil_snoc b (Invokes Spawn w) (sym z ∙ q)
  past_spawn s n ds (AfterEvent c e z) b w q = let same : Does e ≡ Invokes Spawn w = (snoc_one c b (Does e) (Invokes Spawn w) (sym z ∙ q)).1 in absurd (cc)
  past_spawn s n ds (AfterChild c k v z x) b w q = inl (subst (λ l. HasEnd (deeds_at (s.frames (child_after n l)))) (snoc_one c b (Invokes k v) (Invokes Spawn w) (sym z ∙ q)).0 (ended s (child_after n c) x))
  past_spawn s n ds (AfterSteal c v z x) b w q = inr (subst (λ l. s.stolen (child_after n l) ≡ true) (snoc_one c b (Invokes Spawn v) (Invokes Spawn w) (sym z ∙ q)).0 x)

module _ (W V : Type 0) (M : Instance → MonoidStructure V) (Next : W → List (Deed W) → Ask W → Type 0) (C : Costs W) where
  asking : (s : State W V) (n : Name) (f : Frame W) (a : Ask W) → MayAsk W V M Next C s n f a → IsAsking W V M Next C s n f a
  asking s n f a may =
      let kid : ℕ → Option (Frame W) = λ k. s.frames (n ++ k ∷ []) in
      let loose : ℕ → Bool = λ k. s.stolen (n ++ k ∷ []) in
      let at : (b : List (Deed W)) → suc (started b) ≡ next_from 1 b = λ b. sym (first_next b) in
      record {
        here = may.here;
        next = may.next;
        ready = ready kid loose a f.deeds 1
            (λ b w q. subst (λ k. HasEnd (deeds_at (s.frames (n ++ k ∷ [])))) (at b) (past_call s n f.deeds may.goes_on b w q))
            (λ b w q. subst (λ k. HasEnd (deeds_at (s.frames (n ++ k ∷ []))) ⊎ (s.stolen (n ++ k ∷ []) ≡ true)) (at b) (past_spawn s n f.deeds may.goes_on b w q))
            (λ is b t w q never. subst (λ k. HasEnd (deeds_at (s.frames (n ++ k ∷ [])))) (at b) (ended s (child_after n b) (may.block is b t w q (λ x y z. never (subst HasSync (sym z) (sync_among x y))))));
      }

  goes : (s : State W V) (n : Name) (f : Frame W) (a : Ask W) → s.stopped ≡ None → MayAsk W V M Next C s n f a → ((x : Fault) → a ≡ Fail x → ⊥) → ((total : Total) → s.totals total + cost C total f.what f.deeds a ≤ C.limit total) → HasNext W V M Next C s n f a
  goes s n f a on may never fits =
      let d : Deed W = deed_of s.memory (numbers_of M (s.piece n)) a in
      let answers : Answers d a = answers_ask s.memory (numbers_of M (s.piece n)) a never in
      let next : State W V = record {
        frames = after_deed s.frames n f d;
        stolen = s.stolen;
        memory = λ c. effect d c (s.memory c);
        piece = λ m i. after_views (M i) i s.stolen n f.deeds d (λ z. s.piece z i) m;
        joins = joined_by a n f.deeds ++ s.joins;
        totals = λ total. s.totals total + cost C total f.what f.deeds a;
        stopped = s.stopped;
      } in
      let makes : Makes W V M Next C s n next = record {
        frame = f;
        ask = a;
        asking = asking s n f a may;
        within = no_fault C s.totals f.what f.deeds d a (asked_by d a answers) fits;
        frames = refl;
        memory = refl;
        stolen = refl;
        piece = λ i m. refl;
        joins = refl;
        totals = λ total. refl;
        stopped = refl;
      } in
      record {
        after = next;
        step = (on, inl makes);
        makes = makes;
        deed = d;
        answers = answers;
        longer = grown_by s.frames n f d;
        child = λ k w q. subst (λ z. after_deed s.frames n f (deed_of s.memory (numbers_of M (s.piece n)) z) (child_after n f.deeds) ≡ Some (begun w)) (sym q) (child_begun s.frames n f k w);
      }

  stops_by : (s : State W V) (n : Name) (f : Frame W) (a : Ask W) (x : Fault) → s.stopped ≡ None → MayAsk W V M Next C s n f a → fault_of C s.totals f.what f.deeds a ≡ Some x → HasStop W V M Next C s n f x
  stops_by s n f a x on may why =
      let next : State W V = record s { stopped = Some (record { frame = n; strand = strand_of f.deeds; fault = x }) } in
      let stops : Stops W V M Next C s n next = record { frame = f; ask = a; fault = x; asking = asking s n f a may; why = why; after = refl } in
      record { after = next; step = (on, inr (inr stops)); stops = stops; stopped = refl }

  exceeds : (s : State W V) (n : Name) (f : Frame W) (a : Ask W) (total : Total) → s.stopped ≡ None → MayAsk W V M Next C s n f a → C.limit total < s.totals total + cost C total f.what f.deeds a → (x : Fault) × HasStop W V M Next C s n f x
  exceeds s n f a total on may over =
      let (x, why) = over_stops C s.totals f.what f.deeds a total (lt-ltb _ _ over) in
      (x, stops_by s n f a x on may why)

  steals : (s : State W V) (n : Name) (f : Frame W) (before : List (Deed W)) (w : W) → s.stopped ≡ None → s.frames n ≡ Some f → f.deeds ≡ before ++ Invokes Spawn w ∷ [] → s.stolen (child_after n before) ≡ false → HasThief W V M Next C s n (child_after n before)
  steals s n f before w on here spawned off =
      let next : State W V = record {
        frames = s.frames;
        stolen = λ m. cond (same_name (n ++ suc (started before) ∷ []) m) true (s.stolen m);
        memory = s.memory;
        piece = λ m i. with_view (λ z. s.piece z i) n (unit_of M i) m;
        joins = s.joins;
        totals = s.totals;
        stopped = s.stopped;
      } in
      let taken : Steals W V M Next C s n next = record {
        frame = f;
        before = before;
        what = w;
        here = here;
        spawned = spawned;
        not_yet = off;
        frames = refl;
        memory = refl;
        stolen = refl;
        piece = λ i m. refl;
        joins = refl;
        totals = refl;
        stopped = refl;
      } in
      record {
        after = next;
        step = (on, inr (inl taken));
        steals = taken;
        taken = cond-true (same_name (child_after n before) (child_after n before)) _ _ (same_name-refl (child_after n before));
      }

  -- what a frame that isn't waiting has got past
  gone_on : (s : State W V) (n : Name) (f : Frame W) (a : Ask W) → Ready (λ k. s.frames (n ++ k ∷ [])) (λ k. s.stolen (n ++ k ∷ [])) a 1 f.deeds → Last f.deeds → GoesOn W V s n f.deeds
  gone_on s n f a h (inl q) = AtBegin q
  gone_on s n f a h (inr (b, Does e, q)) = AfterEvent b e q
  gone_on s n f a h (inr (b, Invokes Call w, q)) =
      let end = ready_call (λ k. s.frames (n ++ k ∷ [])) (λ k. s.stolen (n ++ k ∷ [])) a b w 1 (subst (Ready (λ k. s.frames (n ++ k ∷ [])) (λ k. s.stolen (n ++ k ∷ [])) a 1) q h) in
      AfterChild b Call w q (has_ended s (child_after n b) _ refl (subst (λ k. HasEnd (deeds_at (s.frames (n ++ k ∷ [])))) (first_next b) end))
  gone_on s n f a h (inr (b, Invokes Spawn w, q)) =
      ⊎_elim
      (λ end. AfterChild b Spawn w q (has_ended s (child_after n b) _ refl (subst (λ k. HasEnd (deeds_at (s.frames (n ++ k ∷ [])))) (first_next b) end)))
      (λ free. AfterSteal b w q (subst (λ k. s.stolen (n ++ k ∷ []) ≡ true) (first_next b) free))
      (ready_spawn (λ k. s.frames (n ++ k ∷ [])) (λ k. s.stolen (n ++ k ∷ [])) a b w 1 (subst (Ready (λ k. s.frames (n ++ k ∷ [])) (λ k. s.stolen (n ++ k ∷ [])) a 1) q h))

  exact : (s : State W V) (n : Name) (f : Frame W) (a : Ask W) → IsAsking W V M Next C s n f a → MayAsk W V M Next C s n f a
  exact s n f a m = record {
    here = m.here;
    next = m.next;
    goes_on = gone_on s n f a m.ready (last_of f.deeds);
    block = λ is b t w q none. has_ended s (child_after n b) _ refl
        (subst (λ k. HasEnd (deeds_at (s.frames (n ++ k ∷ [])))) (first_next b)
        (ready_block (λ k. s.frames (n ++ k ∷ [])) (λ k. s.stolen (n ++ k ∷ [])) a is b t w 1 (subst (Ready (λ k. s.frames (n ++ k ∷ [])) (λ k. s.stolen (n ++ k ∷ [])) a 1) q m.ready) (no_sync t none)));
  }

  opens : (w : W) (opening : Cell → ℤ) → (s : State W V) × IsOpening W V M Next C w opening s
  opens w opening = (
    record {
      frames = λ n. cond (same_name [] n) (Some (begun w)) None;
      stolen = λ n. false;
      memory = opening;
      piece = λ n i. unit_of M i;
      joins = [];
      totals = C.used;
      stopped = None;
    },
    (λ n. refl, refl, refl, refl, λ n. refl, λ i. refl, λ total. refl),
  )

  pub progress : HasProgress W V M Next C
  progress = record {
    opens = opens;
    goes_on = goes;
    fails = λ s n f x on may fits. stops_by s n f (Fail x) x on may (cond-false (is_over C TickTotal s.totals f.what f.deeds (Fail x)) _ _ (le-ltb _ _ fits));
    exceeds = exceeds;
    steals = steals;
    exact = exact;
  }
