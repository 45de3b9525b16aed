-- Parts of a frame, from moments with enough ticks and events.
use Rattle.std.proofs.Common.{◌≡◌, ℕ, zero, suc, ◌+◌, ◌-◌, ◌<◌, ◌≤◌, ℤ, pos, Bool, true, false, IsTrue, List, [], ◌∷◌, ◌++◌, length, ◌⊎◌, inl, inr, Option, Some, None, is_some, option_map, nat_eq, refl, sym, ap, ◌∙◌, subst, arith, zero-add, add-suc}
use Rattle.cilk_types.specs.declared.fault.Fault.{Fault}
use Rattle.cilk_types.specs.declared.fault.Fault.TheVariants.{DivisionByZero, IndexOutside, InputOutside, TooManyEvents, TooManyFrames, TooManyCells}
use Rattle.cilk_types.specs.declared.event.Event.{Event}
use Rattle.cilk_types.specs.declared.event.Instance.{Instance}
use Rattle.cilk_monoid.specs.declared.kind.MonoidKind.{MonoidKind}
use Rattle.cilk_program.specs.declared.ask.Ask.{Ask}
use Rattle.cilk_program.specs.declared.ask.Ask.TheVariants as asks
use Rattle.cilk_program.specs.declared.ask.Callee.{Callee}
use Rattle.cilk_types.specs.declared.invocation.Invocation.{Invocation}
use Rattle.cilk_program.specs.declared.syntax.Place.{Place}
use Rattle.cilk_program.specs.declared.syntax.Place.TheVariants as places
use Rattle.cilk_program.specs.declared.syntax.ReducerPlace.{ReducerPlace}
use Rattle.cilk_program.specs.Scopes.{instance_in}
use Rattle.cilk_program.specs.Store.{Store, put, put_all, clear, clear_all}
use Rattle.cilk_program.specs.Behaviour.{Got, Gives, ◌>>=◌, tick, ask, Flow, unless_returned, invokes, returned, gives_result, finishes, writes_words, creates, frame_asks, frame_gives}
use Rattle.cilk_program.specs.Elision as elision
use Rattle.cilk_program.specs.Elision.{Sight, cell_at, Valued, Gives as Worth, Fails, Came, GoesOn, Returns, Faults, on_value, IsLast}
use Rattle.cilk_program.specs.SerialRun.{Transcript, Memory, next_frame, begun, counted, with_store, stored, global_reducer, Ending, Finished, Stopped, Serial}
use Rattle.cilk_program.specs.Agreement.{IsCrowd}
use Rattle.cilk_program.proofs.Ties.{Since}
use Rattle.cilk_program.proofs.Steps.{Children, Answered, Goes, Full, answered, Invoked, Ran, Broken, Crowded, invoked, ends}
use Rattle.cilk_program.proofs.Moments.{Site, Now, asks_now, SameMemory, IsElided, ChildEnds, Fits, write_fits, sync_fits, resume_fits, after_child}
use Rattle.cilk_program.proofs.Frames.{create_fits, result_fits}
use Rattle.cilk_program.proofs.Budgets.{Rich, less, rich_as, rich_turn, NotEvents, Quiet, tick_rich, asked_rich, ValueAfter}

-- the rest of a frame after a part with this result, with at least k ticks and k events
abbrev pub After : Site → Came → ℕ → (Flow → List ℤ → ℕ → Got ℤ) → Type 0
After z (GoesOn m) k g = Rich z m k (g None) ⊎ Quiet z.end
After z (Returns v m) k g = Rich z m k (g (Some v)) ⊎ Quiet z.end
After z (Faults f) k g = Quiet z.end

pub quiet : (z : Site) (r : Came) (k : ℕ) (g : Flow → List ℤ → ℕ → Got ℤ) → Quiet z.end → After z r k g
quiet z (GoesOn m) k g q = inr q
quiet z (Returns v m) k g q = inr q
quiet z (Faults f) k g q = q

pub on_value_after : {z : Site} {A : Type 0} (w : Valued A) (h : A → Came) {m : elision.Memory} {k : ℕ} (x : A → List ℤ → ℕ → Got ℤ) (k' : ℕ) (g : Flow → List ℤ → ℕ → Got ℤ) → ValueAfter z w m k x → ((v : A) → Rich z m k (x v) → After z (h v) k' g) → After z (on_value w h) k' g
on_value_after (Worth v) h x k' g n go = go v n
on_value_after (Fails f) h x k' g n go = n

pub value_at : {z : Site} {A : Type 0} {w : Valued A} {v : A} {m : elision.Memory} {k : ℕ} (x : A → List ℤ → ℕ → Got ℤ) → w ≡ Worth v → ValueAfter z w m k x → Rich z m k (x v)
value_at {z} {m = m} {k = k} x e n = subst (λ w. ValueAfter z w m k x) e n

pub fails_at : (z : Site) {A : Type 0} {w : Valued A} {f : Fault} (m : elision.Memory) (k : ℕ) (x : A → List ℤ → ℕ → Got ℤ) → w ≡ Fails f → ValueAfter z w m k x → Quiet z.end
fails_at z m k x e n = subst (λ w. ValueAfter z w m k x) e n

-- a part that continues, and then more
pub after_on : {z : Site} {m : elision.Memory} {k : ℕ} (g : Flow → List ℤ → ℕ → Got ℤ) (r : Came) (k' : ℕ) (g' : Flow → List ℤ → ℕ → Got ℤ) → After z (GoesOn m) k g → (Rich z m k (g None) → After z r k' g') → After z r k' g'
after_on g r k' g' (inl n) go = go n
after_on {z} g r k' g' (inr q) go = quiet z r k' g' q

-- a part that doesn't continue
pub after_last : (z : Site) (r : Came) {k : ℕ} (go : List ℤ → ℕ → Got Flow) (g : Flow → List ℤ → ℕ → Got ℤ) (k' : ℕ) → k' ≤ k → IsLast r → After z r k (λ f a l. unless_returned f go a l >>= g) → After z r k' g
after_last z (GoesOn m) go g k' h last n = absurd last
after_last z (Returns v m) go g k' h last (inl n) = inl (less k' h n)
after_last z (Returns v m) go g k' h last (inr q) = inr q
after_last z (Faults f) go g k' h last n = n

-- how a child ends that had enough ticks and events
abbrev pub FrameAfter : ℕ → Ending → Type 0
FrameAfter k (Finished v left m) = (k ≤ left) × (k ≤ m.room)
FrameAfter k (Stopped f) = NotEvents f

pub frame_quiet : (k : ℕ) (end : Ending) → Quiet end → FrameAfter k end
frame_quiet k end q = subst (FrameAfter k) (sym q.2) q.1

crowd_quiet : (f : Fault) → IsCrowd f → NotEvents f
crowd_quiet DivisionByZero c = tt
crowd_quiet IndexOutside c = tt
crowd_quiet InputOutside c = tt
crowd_quiet TooManyEvents c = absurd c
crowd_quiet TooManyFrames c = tt
crowd_quiet TooManyCells c = tt

-- a child, and then the frame continues
pub child_rich : {z : Site} {m : elision.Memory} (c k : ℕ) (E : Came → Type 0) → ((r r' : Came) → E r → E r' → r ≡ r') → (r : Came) → E r → (how : Invocation) (callee : Callee) (g : Flow → List ℤ → ℕ → Got ℤ)
    (n : Rich z m (suc c) (λ a t. invokes how callee a t >>= g))
    → ((u : Transcript) (es : List Event) (end : Ending) → IsElided z.p z.inputs u → Serial z.p z.inputs (next_frame z.p z.fr.scope n.now.m' callee) n.left [] (begun z.p callee (counted n.now.m')) u es end → ChildEnds E n.now.tied m.reducers n.left end)
    → ((u : Transcript) (es : List Event) (end : Ending) → c ≤ n.left → c ≤ n.now.m'.room - 1 → Serial z.p z.inputs (next_frame z.p z.fr.scope n.now.m' callee) n.left [] (begun z.p callee (counted n.now.m')) u es end → FrameAfter (suc k) end)
    → After z r k g
child_rich {z} {m} c k E unique r el how callee g n ok cost = go (invoked z.p z.inputs (IsElided z.p z.inputs) how callee n.left (asks_now n.now) n.now.inner n.now.run)
  where
    go : Invoked z.p z.inputs (IsElided z.p z.inputs) z.fr (n.now.took + n.left) n.now.history n.now.m' callee n.left z.end → After z r k g
    go (Ran u r' es es' v left' m' d d' inner inner') =
        let t = n.ticks in let s = n.room in
        let q = ok u es (Finished v left' m') inner d in
        let w = q.3 in
        let b = cost u es (Finished v left' m') (omega arith) (omega arith) d in
        let rich : Rich z q.0 (suc k) (λ a t. ask asks.Resume a t >>= λ v a l. g None a l) = record { left = left'; now = after_child how callee g n.now left' m' r' es' w.0 w.1 w.2 d' inner'; ticks = b.0; room = b.1 } in
        subst (λ r. After z r k g) (unique (GoesOn q.0) r q.1 el) (inl (asked_rich asks.Resume q.0.store (pos 0) (λ v a l. g None a l) rich (resume_fits rich.now)))
    go (Broken u es f d inner q) = let t = n.ticks in let s = n.room in quiet z r k g (f, cost u es (Stopped f) (omega arith) (omega arith) d, q)
    go (Crowded f l (inl x) q) = quiet z r k g (f, crowd_quiet f x, q)
    go (Crowded f l (inr e) q) = let s = n.room in absurd (omega arith)

-- a frame begins
pub starts_rich : (z : Site) (m : elision.Memory) (m' : Memory) (left k : ℕ) (u : Transcript) (es : List Event) → k ≤ left → suc k ≤ m'.room → Children (IsElided z.p z.inputs) u → Serial z.p z.inputs z.fr left [] m' u es z.end → SameMemory z.tied m m'
    → Since z.tied z.count z.tied m.reducers → Rich z m k (frame_gives z.p z.inputs z.fr.callee)
starts_rich z m m' left k u es t s inner d same since = go (answered z.p z.inputs (IsElided z.p z.inputs) asks.Begin left tt refl inner d)
  where
    go : Answered z.p z.inputs (IsElided z.p z.inputs) z.fr left [] m' asks.Begin z.end → Rich z m k (frame_gives z.p z.inputs z.fr.callee)
    go (Goes r es' d' inner') = record {
      left = left;
      now = record {
        m' = with_store m' m'.store;
        tied = z.tied;
        took = 0;
        history = pos 0 ∷ [];
        r = r;
        es = es';
        run = subst (λ s. Serial z.p z.inputs z.fr s (pos 0 ∷ []) (with_store m' m'.store) r es' z.end) (sym (zero-add left)) d';
        rest = λ a t. ap (frame_asks z.p z.inputs z.fr.callee (pos 0 ∷ a)) (zero-add t);
        same = record { store = same.store; cells = same.cells };
        since = since;
        inner = inner';
      };
      ticks = t;
      room = omega arith;
    }
    go (Full e q) = absurd (omega arith)

module _ (z : Site) where
  pub words_rich : (b : ℕ) → ((n : ℕ) → cell_at z.sight (places.Local 0 n) ≡ b + n) → (vs : List ℤ) (n : ℕ) (m : elision.Memory) (k : ℕ) (g : Unit {0} → List ℤ → ℕ → Got ℤ) → Rich z m (length vs + k) (λ a l. writes_words n vs a l >>= g)
      → Rich z (record m { store = put_all (b + n) vs m.store }) k (g tt)
  words_rich b cells [] n m k g now = less k (omega arith) now
  words_rich b cells (v ∷ vs) n m k g now =
      let now' = less (suc (length vs + k)) (omega arith) (rich_turn (ask (asks.Write (places.Local 0 n) v)) (λ w. writes_words (suc n) vs) g now) in
      let now'' = asked_rich (asks.Write (places.Local 0 n) v) (put (cell_at z.sight (places.Local 0 n)) v m.store) (pos 0) (λ w a l. writes_words (suc n) vs a l >>= g) now' (write_fits now'.now (places.Local 0 n) v) in
      subst (λ st. Rich z (record m { store = st }) k (g tt)) (ap (λ c. put_all c vs (put (cell_at z.sight (places.Local 0 n)) v m.store)) (add-suc b n) ∙ ap (λ c. put_all (suc (b + n)) vs (put c v m.store)) (cells n))
      (words_rich b cells vs (suc n) (record m { store = put (cell_at z.sight (places.Local 0 n)) v m.store }) k g now'')

  pub creates_rich : (own : ℕ → ℕ) (place : ℕ → ReducerPlace) (ks : List MonoidKind) (n : ℕ) → ((j : ℕ) → j < n + length ks → (own j < z.count) × (instance_in global_reducer z.fr.scope (place j) ≡ z.tied (own j)))
      → (m : elision.Memory) (k : ℕ) (g : Unit {0} → List ℤ → ℕ → Got ℤ) → Rich z m (length ks + k) (λ a l. creates place n ks a l >>= g)
      → Rich z (record m { store = clear_all nat_eq own n ks m.store }) k (g tt)
  creates_rich own place [] n h m k g now = less k (omega arith) now
  creates_rich own place (kind ∷ ks) n h m k g now =
      let here : n < n + suc (length ks) = omega arith in
      let q = h n here in
      let now' = less (suc (length ks + k)) (omega arith) (rich_turn (ask (asks.Create (record { place = place n; kind = kind }))) (λ w. creates place (suc n) ks) g now) in
      let now'' = asked_rich (asks.Create (record { place = place n; kind = kind })) (clear nat_eq kind (own n) m.store) (pos 0) (λ w a l. creates place (suc n) ks a l >>= g) now' (create_fits z (place n) kind (own n) q.0 q.1 now'.now) in
      creates_rich own place ks (suc n) (λ j l. let l' : j < n + suc (length ks) = omega arith in h j l') (record m { store = clear nat_eq kind (own n) m.store }) k g now''

  -- a frame's end
  close_rich : (m : elision.Memory) (v : ℤ) (k : ℕ) → Rich z m (suc k) (λ a l. Gives v a l) → FrameAfter k z.end
  close_rich m v k n = go (ends z.p z.inputs (IsElided z.p z.inputs) v n.left (asks_now n.now) n.now.run)
    where
      go : (z.end ≡ Finished v n.left (with_store n.now.m' (stored z.p z.fr n.now.m' (asks.End v)))) ⊎ ((n.now.m'.room ≡ 0) × (z.end ≡ Stopped TooManyEvents)) → FrameAfter k z.end
      go (inl e) = let t = n.ticks in let s = n.room in subst (FrameAfter k) (sym e) (omega arith, omega arith)
      go (inr e) = let s = n.room in let q = e.0 in absurd (omega arith)

  pub finish_rich : (m : elision.Memory) (f : Flow) (k : ℕ) → Rich z m (2 + k) (λ a l. finishes false f a l) → FrameAfter k z.end
  finish_rich m f k n =
      let n' = less (suc (suc k)) (omega arith) n in
      close_rich m (returned f) k (asked_rich asks.Sync m.store (pos 0) (λ w. gives_result false (returned f)) n' (sync_fits n'.now))

  finish_with_rich : (c : ℕ) → z.fr.result ≡ Some c → (m : elision.Memory) (f : Flow) (k : ℕ) → Rich z m (3 + k) (λ a l. finishes true f a l) → FrameAfter k z.end
  finish_with_rich c e m f k n =
      let n' = less (suc (suc (suc k))) (omega arith) n in
      let n'' = asked_rich asks.Sync m.store (pos 0) (λ w. gives_result true (returned f)) n' (sync_fits n'.now) in
      close_rich (record m { store = put c (returned f) m.store }) (returned f) k
      (asked_rich (asks.Result (returned f)) (put c (returned f) m.store) (pos 0) (λ w. Gives (returned f)) n'' (result_fits z c e (returned f) n''.now))

  finish_call_rich : (s : Sight) (o : Option Place) → z.fr.result ≡ option_map (cell_at s) o → (m : elision.Memory) (f : Flow) (k : ℕ) → Rich z m (3 + k) (λ a l. finishes (is_some o) f a l) → FrameAfter k z.end
  finish_call_rich s None e m f k n = finish_rich m f k (less (2 + k) (omega arith) n)
  finish_call_rich s (Some x) e m f k n = finish_with_rich (cell_at s x) e m f k n

  pub call_closes : (s : Sight) (o : Option Place) → z.fr.result ≡ option_map (cell_at s) o → (r : Came) (k : ℕ) → After z r (3 + k) (finishes (is_some o)) → FrameAfter k z.end
  call_closes s o e (GoesOn m) k (inl n) = finish_call_rich s o e m None k n
  call_closes s o e (GoesOn m) k (inr q) = frame_quiet k z.end q
  call_closes s o e (Returns v m) k (inl n) = finish_call_rich s o e m (Some v) k n
  call_closes s o e (Returns v m) k (inr q) = frame_quiet k z.end q
  call_closes s o e (Faults f) k q = frame_quiet k z.end q

  pub plainly_closes : (r : Came) (k : ℕ) → After z r (2 + k) (finishes false) → FrameAfter k z.end
  plainly_closes (GoesOn m) k (inl n) = finish_rich m None k n
  plainly_closes (GoesOn m) k (inr q) = frame_quiet k z.end q
  plainly_closes (Returns v m) k (inl n) = finish_rich m (Some v) k n
  plainly_closes (Returns v m) k (inr q) = frame_quiet k z.end q
  plainly_closes (Faults f) k q = frame_quiet k z.end q
