-- A frame that isn't waiting is at its next deed of the serial run.
use Rattle.std.proofs.Common.{◌≡◌, ℕ, suc, ◌≤◌, Bool, List, [], ◌∷◌, ◌++◌, Option, Some, None, refl, sym, ap, ◌∙◌, subst, arith, ⊎_elim, append_assoc, append-nil, ℤ, zero, ap₂}
use Rattle.std.proofs.lemmas.Bool.{cases_eq}
use Rattle.cilk_types.specs.declared.invocation.Invocation.{Invocation}
use Rattle.cilk_types.specs.declared.invocation.Invocation.TheVariants.{Call, Spawn}
use Rattle.cilk_determinacy.specs.Runs.{Name, Cell, Ask, Invoke, Sync, Event, Reads, Writes, Syncs, Ends, Passes, Deed, Does, Invokes, Run, stop, act, child, ask_of}
use Rattle.cilk_determinacy.specs.Machine.{Frame, Frames, deeds_at, HasEnd, HasSync, Ready, put}
use Rattle.cilk_determinacy.specs.Serial.{own_deeds, value_after, IsSerial, SyncAhead, GoesOn, ComesAfter, IsClosed, Behaves}
use Rattle.cilk_determinacy.specs.Cuts.{below, IsStarted, IsFull, IsPast, NoneFrom, IsCut}
use Rattle.cilk_determinacy.proofs.Basics.{has_sync, IsSyncDeed, last_sync}
use Rattle.cilk_determinacy.proofs.Front.{Front, here_act, here_child, past_act, past_child, inside}

-- what a frame asks next follows from what it has done
abbrev pub IsDetermined : (W : Type 0) → (W → List (Deed W) → Ask W → Type 0) → Type 0
IsDetermined W Next = (w : W) (past : List (Deed W)) (a b : Ask W) → Next w past a → Next w past b → a ≡ b

-- the read at the front answers what the cell holds there in the serial run
module _ {W : Type 0} {c : Cell} where
  pub front_right : {r : Run W} {k : ℕ} {ds : List (Deed W)} {kids : ℕ → Frames W} {n : Name} {e : Event} {x y : ℤ} → Front W c r k ds kids n (Does e) x y → (v : ℤ) → e ≡ Reads c v → (memory : Cell → ℤ) → memory c ≡ x → IsSerial r memory → v ≡ y
  front_right here_act v is memory q s = (rw is at s.0) ∙ q
  front_right (past_act {e = a} f) v is memory q s = front_right f v is (λ d. put a d (memory d)) (ap (put a c) q) s.1
  front_right (past_child {u = u} p f) v is memory q s = front_right f v is (λ d. value_after u d (memory d)) (ap (value_after u c) q) s.1
  front_right (inside f) v is memory q s = front_right f v is memory q s.0

module _ {W : Type 0} where
  pub full_sync : (r : Run W) (k : ℕ) (ds : List (Deed W)) (kids : ℕ → Frames W) → IsFull r k ds kids → IsCut r k ds kids → SyncAhead r → HasSync ds
  full_sync stop k ds kids full cut h = absurd h
  full_sync (act e r) k [] kids full cut h = absurd full
  full_sync (act (Reads c v) r) k (d ∷ ds) kids full cut h = rw cut.0 (full_sync r k ds kids full cut.1 h)
  full_sync (act (Writes c v) r) k (d ∷ ds) kids full cut h = rw cut.0 (full_sync r k ds kids full cut.1 h)
  full_sync (act Syncs r) k (d ∷ ds) kids full cut h = rw cut.0 tt
  full_sync (act (Ends val gone) r) k (d ∷ ds) kids full cut h = rw cut.0 (full_sync r k ds kids full cut.1 h)
  full_sync (act (Passes m) r) k (d ∷ ds) kids full cut h = rw cut.0 (full_sync r k ds kids full cut.1 h)
  full_sync (child i w u r) k [] kids full cut h = absurd full
  full_sync (child i w u r) k (d ∷ ds) kids full cut h = rw cut.0 (full_sync r (suc k) ds kids full.1 cut.4 h)

  pub full_goes : (r : Run W) (k : ℕ) (ds : List (Deed W)) (kids : ℕ → Frames W) → IsFull r k ds kids → GoesOn r → IsPast Call ds
  full_goes stop k ds kids full h = absurd h
  full_goes (act e r) k [] kids full h = absurd full
  full_goes (act e r) k (d ∷ ds) kids full h = tt
  full_goes (child i w u r) k [] kids full h = absurd full
  full_goes (child i w u r) k (d ∷ ds) kids full h = tt

  all_past : (i : Invocation) (r : Run W) (k : ℕ) (ds : List (Deed W)) (kids : ℕ → Frames W) → IsFull r k ds kids → IsCut r k ds kids → ComesAfter i r → IsPast i ds
  all_past Call r k ds kids full cut h = full_goes r k ds kids full h
  all_past Spawn r k ds kids full cut h = full_sync r k ds kids full cut h

  -- a frame that has made each event has done what it does in the run
  pub full_deeds : (r : Run W) (k : ℕ) (ds : List (Deed W)) (kids : ℕ → Frames W) → IsFull r k ds kids → IsCut r k ds kids → ds ≡ own_deeds r
  full_deeds stop k [] kids full cut = refl
  full_deeds stop k (d ∷ ds) kids full cut = absurd full
  full_deeds (act e r) k [] kids full cut = absurd full
  full_deeds (act e r) k (d ∷ ds) kids full cut = ap₂ (λ a b. a ∷ b) cut.0 (full_deeds r k ds kids full cut.1)
  full_deeds (child i w u r) k [] kids full cut = absurd full
  full_deeds (child i w u r) k (d ∷ ds) kids full cut = ap₂ (λ a b. a ∷ b) cut.0 (full_deeds r (suc k) ds kids full.1 cut.4)

  full_stop : (r : Run W) (k : ℕ) (ds : List (Deed W)) (kids : ℕ → Frames W) → r ≡ stop → IsCut r k ds kids → IsFull r k ds kids
  full_stop r k [] kids q cut = rw q tt
  full_stop r k (d ∷ ds) kids q cut = absurd (rw q at cut)

  -- a frame that has ended has made each event of its run
  pub ended_full : (r : Run W) (k : ℕ) (ds : List (Deed W)) (kids : ℕ → Frames W) → IsCut r k ds kids → IsClosed r → HasEnd ds → IsFull r k ds kids
  ended_full r k [] kids cut closed h = absurd h
  ended_full stop k (d ∷ ds) kids cut closed h = absurd cut
  ended_full (act (Reads c v) r) k (d ∷ ds) kids cut closed h = ended_full r k ds kids cut.1 closed (rw cut.0 at h)
  ended_full (act (Writes c v) r) k (d ∷ ds) kids cut closed h = ended_full r k ds kids cut.1 closed (rw cut.0 at h)
  ended_full (act Syncs r) k (d ∷ ds) kids cut closed h = ended_full r k ds kids cut.1 closed (rw cut.0 at h)
  ended_full (act (Ends val gone) r) k (d ∷ ds) kids cut closed h = full_stop r k ds kids closed cut.1
  ended_full (act (Passes m) r) k (d ∷ ds) kids cut closed h = ended_full r k ds kids cut.1 closed (rw cut.0 at h)
  ended_full (child i w u r) k (d ∷ ds) kids cut closed h =
      let rest = ended_full r (suc k) ds kids cut.4 closed.2 (rw cut.0 at h) in
      (cut.3 (all_past i r (suc k) ds kids rest cut.4 closed.0), rest)

  abbrev pub ask_by : Deed W → Ask W
  ask_by (Does e) = ask_of e
  ask_by (Invokes i w) = Invoke i w

  sync_ask : (e : Deed W) (a : Ask W) → a ≡ ask_by e → IsSyncDeed e → a ≡ Sync
  sync_ask (Does (Reads c v)) a q h = absurd h
  sync_ask (Does (Writes c v)) a q h = absurd h
  sync_ask (Does Syncs) a q h = q
  sync_ask (Does (Ends val gone)) a q h = absurd h
  sync_ask (Does (Passes m)) a q h = absurd h
  sync_ask (Invokes i w) a q h = absurd h

  -- what must have ended before the next deed has
  settled : (i : Invocation) (w : W) (kid : ℕ → Option (Frame W)) (loose : ℕ → Bool) (a : Ask W) (k : ℕ) (ds : List (Deed W)) (e : Deed W) (Full : Type 0) → Ready kid loose a k (Invokes i w ∷ ds) → (IsPast i ds → Full) → (HasEnd (deeds_at (kid k)) → Full) → a ≡ ask_by e → IsPast i (ds ++ e ∷ []) → Full
  settled Call w kid loose a k [] e Full ready past ended q h = ended (ready.0 refl)
  settled Call w kid loose a k (d ∷ ds) e Full ready past ended q h = past tt
  settled Spawn w kid loose a k ds e Full ready past ended q h =
      ⊎_elim past (λ never. ⊎_elim past (λ s. ended (ready.1 (sync_ask e a q s) never)) (last_sync ds e h)) (has_sync ds)

  pub closed_act : (e : Event) (r : Run W) → IsClosed (act e r) → IsClosed r
  closed_act (Reads c v) r h = h
  closed_act (Writes c v) r h = h
  closed_act Syncs r h = h
  closed_act (Ends val gone) r h = rw h tt
  closed_act (Passes m) r h = h

  pub ready_child : (i : Invocation) (w : W) (kid : ℕ → Option (Frame W)) (loose : ℕ → Bool) (a : Ask W) (k : ℕ) (ds : List (Deed W)) → Ready kid loose a k (Invokes i w ∷ ds) → Ready kid loose a (suc k) ds
  ready_child Call w kid loose a k ds h = h.1
  ready_child Spawn w kid loose a k ds h = h.2

-- ordinals count from 1
pub counts_from : {W : Type 0} (t : Frames W) (i : ℕ) (m : Name) (f : Frame W) → ((n : Name) → t (0 ∷ n) ≡ None) → t (i ∷ m) ≡ Some f → 1 ≤ i
counts_from t zero m f none q = let z : None ≡ Some f = sym (none m) ∙ q in absurd (cc)
counts_from t (suc i) m f none q = omega arith

module _ (W : Type 0) (Next : W → List (Deed W) → Ask W → Type 0) where
  -- frame n, by its name below the frame at the top, asks this and isn't waiting
  abbrev pub Asks : (Name → Bool) → Ask W → W → List (Deed W) → List (Deed W) → ℕ → (ℕ → Frames W) → Name → Type 0
  Asks loose a w past ds k kids [] = Next w (past ++ ds) a × Ready (λ i. kids i []) (λ i. loose (i ∷ [])) a k ds
  Asks loose a w past ds k kids (j ∷ m) =
      (k ≤ j) × (f : Frame W) × (kids j m ≡ Some f) × Next f.what f.deeds a × Ready (λ i. kids j (m ++ i ∷ [])) (λ i. loose (j ∷ (m ++ i ∷ []))) a 1 f.deeds

  abbrev pub Found : Cell → Run W → ℕ → List (Deed W) → (ℕ → Frames W) → Name → Ask W → ℤ → Type 0
  Found c r k ds kids n a x = (e : Deed W) × (y : ℤ) × (a ≡ ask_by e) × Front W c r k ds kids n e x y

  past_more : (w : W) (past ds : List (Deed W)) (d e : Deed W) (a : Ask W) → d ≡ e → Next w (past ++ (d ∷ ds)) a → Next w ((past ++ e ∷ []) ++ ds) a
  past_more w past ds d e a q h = rw (append_assoc past (e ∷ []) ds) (rw q at h)

  asks_act : (loose : Name → Bool) (a : Ask W) (w : W) (past ds : List (Deed W)) (d : Deed W) (e : Event) (k : ℕ) (kids : ℕ → Frames W) (n : Name) → d ≡ Does e → Asks loose a w past (d ∷ ds) k kids n → Asks loose a w (past ++ Does e ∷ []) ds k kids n
  asks_act loose a w past ds d e k kids [] q h = (past_more w past ds d (Does e) a q h.0, rw q at h.1)
  asks_act loose a w past ds d e k kids (j ∷ m) q h = h

  -- the same frame, by its name below the child
  asks_inside : (loose : Name → Bool) (a : Ask W) (w v : W) (past ds : List (Deed W)) (k j : ℕ) (kids : ℕ → Frames W) (m : Name) → IsStarted v (kids j) → Asks loose a w past ds k kids (j ∷ m) → Asks (λ n. loose (j ∷ n)) a v [] (deeds_at (kids j [])) 1 (below (kids j)) m
  asks_inside loose a w v past ds k j kids [] s (le, f, q, next, ready) =
      let e : f.what ≡ v = rw q at s.0 in
      (rw q (subst (λ z. Next z f.deeds a) e next), rw q ready)
  asks_inside loose a w v past ds k j kids (i ∷ m) s (le, f, q, next, ready) = (counts_from (kids j) i m f s.1 q, f, q, next, ready)

  module _ (determined : IsDetermined W Next) (c : Cell) where
    none_there : (k j : ℕ) (m : Name) (kids : ℕ → Frames W) (f : Frame W) (X : Type 0) → NoneFrom k kids → k ≤ j → kids j m ≡ Some f → X
    none_there k j m kids f X none le q = let z : None ≡ Some f = sym (none j le m) ∙ q in absurd (cc)

    pub find : (r : Run W) (k : ℕ) (w : W) (past ds : List (Deed W)) (kids : ℕ → Frames W) (loose : Name → Bool) (a : Ask W) (n : Name) (x : ℤ) → IsCut r k ds kids → Behaves W Next w past r → IsClosed r → Asks loose a w past ds k kids n → Found c r k ds kids n a x
    find stop k w past [] kids loose a [] x cut behaves closed asks = absurd (behaves a (rw append-nil at asks.0))
    find stop k w past [] kids loose a (j ∷ m) x cut behaves closed (le, f, q, next, ready) = none_there k j m kids f _ cut le q
    find stop k w past (d ∷ ds) kids loose a n x cut behaves closed asks = absurd cut
    find (act e r) k w past [] kids loose a [] x cut behaves closed asks =
        (Does e, x, determined w past a (ask_of e) (rw append-nil at asks.0) behaves.0, here_act)
    find (act e r) k w past [] kids loose a (j ∷ m) x cut behaves closed (le, f, q, next, ready) = none_there k j m kids f _ cut le q
    find (act e r) k w past (d ∷ ds) kids loose a n x cut behaves closed asks =
        let g = find r k w (past ++ Does e ∷ []) ds kids loose a n (put e c x) cut.1 behaves.1 (closed_act e r closed) (asks_act loose a w past ds d e k kids n cut.0 asks) in
        (g.0, g.1, g.2, past_act g.3)
    find (child i v u r) k w past [] kids loose a [] x cut behaves closed asks =
        (Invokes i v, x, determined w past a (Invoke i v) (rw append-nil at asks.0) behaves.0, here_child)
    find (child i v u r) k w past [] kids loose a (j ∷ m) x cut behaves closed (le, f, q, next, ready) = none_there k j m kids f _ cut le q
    find (child i v u r) k w past (d ∷ ds) kids loose a [] x cut behaves closed asks =
        let ready : Ready (λ i. kids i []) (λ i. loose (i ∷ [])) a k (Invokes i v ∷ ds) = rw cut.0 at asks.1 in
        let g = find r (suc k) w (past ++ Invokes i v ∷ []) ds kids loose a [] (value_after u c x) cut.4 behaves.2 closed.2 (past_more w past ds d (Invokes i v) a cut.0 asks.0, ready_child i v (λ t. kids t []) (λ t. loose (t ∷ [])) a k ds ready) in
        (g.0, g.1, g.2, past_child (settled i v (λ t. kids t []) (λ t. loose (t ∷ [])) a k ds g.0 _ ready cut.3 (ended_full u 1 (deeds_at (kids k [])) (below (kids k)) cut.2 closed.1) g.2) g.3)
    find (child i v u r) k w past (d ∷ ds) kids loose a (j ∷ m) x cut behaves closed asks =
        ⊎_elim
        (λ same. subst (λ t. Found c (child i v u r) k (d ∷ ds) kids (t ∷ m) a x) same
        (let g = find u 1 v [] (deeds_at (kids k [])) (below (kids k)) (λ n. loose (k ∷ n)) a m x cut.2 behaves.1 closed.1 (asks_inside loose a w v past (d ∷ ds) k k kids m cut.1 (subst (λ t. Asks loose a w past (d ∷ ds) k kids (t ∷ m)) (sym same) asks)) in
        (g.0, g.1, g.2, inside g.3)))
        (λ other. let le : suc k ≤ j = omega (arith, asks.0) in
        let g = find r (suc k) w (past ++ Invokes i v ∷ []) ds kids loose a (j ∷ m) (value_after u c x) cut.4 behaves.2 closed.2 (le, asks.1, asks.2, asks.3, asks.4) in
        (g.0, g.1, g.2, past_child cut.3 g.3))
        (cases_eq k j)
