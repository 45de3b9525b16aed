-- Where a range of positions begins: if it ends right before the `resume` after a spawn, it has the
-- spawn; if it has come to a `sync` and lacks a child that the `sync` awaits, it begins in that block.
--
-- - `Child`, `inside`, `spawned`: a spawned child begins right after its spawn, and all its events
--   reach its `end`;
-- - `step_over`: the first step of a way by immediate predecessors;
-- - `Awaits`, `next_sync`, `awaited_in`: each spawned child is awaited by a later `sync`;
-- - `comes_to`: if a `sync` awaits a child that ends before the `resume` after another spawn, it awaits
--   that spawned child too, or another `sync` between does;
-- - `holds_spawns`, `begins_in_blocks`: the laws; `replay_holds`, `replay_begins`: in a replay's event
--   order.
use Rattle.std.proofs.Common.{◌≡◌, ◌≢◌, ◌⊎◌, inl, inr, ⊎_elim, ℕ, zero, suc, ◌+◌, ◌-◌, ◌<◌, ◌≤◌, List, [], ◌∷◌, ◌++◌, get_or, length, map, Some, slice_get, slice_index_or, refl, sym, ap, ◌∙◌, subst, arith}
use mathlib.Core.Logic.{dite}
use native.Mathlib.Decide.{dec_lt, ℕ_discrete}
use Rattle.std.proofs.lemmas.Option.{slice_get_within}
use Rattle.cilk_types.specs.declared.event.Event.{Event}
use Rattle.cilk_types.specs.declared.event.Event.TheVariants as events
use Rattle.cilk_types.specs.declared.invocation.Invocation.{Invocation}
use Rattle.cilk_types.specs.declared.invocation.Invocation.TheVariants as invocations
use Rattle.cilk_tree.specs.declared.event_order.EventOrder.{EventOrder}
use Rattle.cilk_tree.specs.declared.mark.Mark.{Mark}
use Rattle.cilk_tree.specs.declared.mark.Mark.TheVariants.{Begin, End, Sync, Resume, Spawn, Plain}
use Rattle.cilk_tree.specs.Columns.{IsSpawnOf}
use Rattle.cilk_tree.specs.Marks.{mark_of}
use Rattle.cilk_tree.specs.Orders.{IsEventOrderOf, IsOrderly}
use Rattle.cilk_tree.specs.Races.{event_at}
use Rattle.cilk_tree.specs.Reach.{Among, IsSynced, Reaches, direct, through, preceding, resumed_from, awaited}
use Rattle.cilk_tree.specs.Shape.{Shape, finish, act, sync, child, start_of}
use Rattle.cilk_tree.specs.Word.{IsWord, event, predecessors_of, resume, word_step}
use Rattle.cilk_tree.proofs.EventOrderLines.{IsReturn, Marked, end_of, ends_last, marked_shape, start_not_resume}
use Rattle.cilk_tree.proofs.Events.{mark_at, resume_mark, spawn_of}
use Rattle.cilk_tree.proofs.Lines.{ComesAfter, IsClosed, Laid, Line, SyncAhead, closed_line, laid_whole, line_of, long, plain, whole}
use Rattle.cilk_tree.proofs.Reaches.{Comes, among_first, among_here, among_more, among_none, among_one, among_right, among_split, last}
use Rattle.cilk_tree.proofs.Tied.{long_whole}
use Rattle.cilk_shared.specs.Rule.{Whole}
use Rattle.cilk_determinacy.specs.Nested.{named}
use Rattle.cilk_determinacy.specs.Traces.{shape_of}
use Rattle.cilk_determinacy.proofs.Determinate.{serial_numbered}
use Rattle.cilk_determinacy.proofs.Strands.{spell_one_shape}
use Rattle.cilk_replay.specs.Replays.{IsOfProgram, Setting}
use Rattle.cilk_replay.specs.Awaited.{SyncsAwaitSpawns}
use Rattle.cilk_replay.specs.Starts.{RangesBeginInBlocks, RangesHoldSpawns}
use Rattle.cilk_replay.proofs.Awaited.{replay_awaits}
use Rattle.cilk_replay.proofs.Resumes.{of_shape}

module _ (f : ℕ → List ℕ) (m : ℕ → Mark) where
  -- the child of the spawn at k begins right after it, and each of its events reaches its `end`, at z
  record Child (k z : ℕ) : Type 0 where
    begins : m (suc k) ≡ Begin
    reach : (x : ℕ) → k < x → x ≤ z → Comes f x z

  not_here : {k q : ℕ} (p : ℕ) (x : Mark) → q ≡ p → m p ≡ x → (x ≡ Resume → ⊥) → IsReturn f m k q → ⊥
  not_here p x same is not r = not (sym is ∙ ap m (sym same) ∙ r.resumes)

  at_child : (c : Invocation) (u : Shape) (p k z : ℕ) → z ≡ end_of u p → Laid f (plain (line_of u)) (suc p) (p ∷ []) [] → Marked m u (suc (suc p)) → m (suc p) ≡ Begin → IsClosed (line_of u)
      → f (suc z) ≡ resumed_from c p z → IsReturn f m k (suc z) → Child k z
  at_child invocations.Call u p k z at laid marked begun closed ahead r =
      let one : z ∷ [] ≡ k ∷ [] = sym ahead ∙ r.alone in
      let same : z ≡ k = cc one in
      let ends : m z ≡ End = ends_last m u (suc (suc p)) z (omega (arith, at)) marked in
      absurd (let no : End ≡ Spawn = sym ends ∙ ap m same ∙ r.spawned in cc no)
  at_child invocations.Spawn u p k z at laid marked begun closed ahead r =
      let one : p ∷ [] ≡ k ∷ [] = sym ahead ∙ r.alone in
      let same : p ≡ k = cc one in
      record {
        begins = ap (λ (j : ℕ). m (suc j)) (sym same) ∙ begun;
        reach = λ x low high. last f (plain (line_of u)) (suc p) (p ∷ []) [] laid closed z x (omega (arith, at)) (omega (arith, same, low)) high;
      }

  inside : (s : Shape) (p : ℕ) (prev ends : List ℕ) → Laid f (line_of s) p prev ends → Marked m s p → IsClosed (line_of s) → (k z : ℕ) → p ≤ suc z → suc z < p + long (line_of s)
      → IsReturn f m k (suc z) → Child k z
  inside finish p prev ends h i closed k z le lt r = absurd (not_here p End (omega (arith, le, lt)) i (λ e. cc e) r)
  inside (act s) p prev ends h i closed k z le lt r =
      dite (ℕ_discrete (suc z) p)
      (λ (same : suc z ≡ p). absurd (not_here p Plain same i.0 (λ e. cc e) r))
      (λ (other : suc z ≢ p). inside s (suc p) (p ∷ []) ends h.1 i.1 closed k z (omega (arith, le, other)) (omega (arith, lt)) r)
  inside (sync s) p prev ends h i closed k z le lt r =
      dite (ℕ_discrete (suc z) p)
      (λ (same : suc z ≡ p). absurd (not_here p Sync same i.0 (λ e. cc e) r))
      (λ (other : suc z ≢ p). inside s (suc p) (p ∷ []) [] h.1 i.1 closed k z (omega (arith, le, other)) (omega (arith, lt)) r)
  inside (child c u s) p prev ends h i closed k z le lt r =
      let e : ℕ = end_of u p in
      dite (ℕ_discrete (suc z) p)
      (λ (same : suc z ≡ p). absurd (not_here p (start_of c) same i.0 (start_not_resume c) r))
      (λ (other : suc z ≢ p). dite (ℕ_discrete (suc z) (suc p))
      (λ (begun : suc z ≡ suc p). absurd (not_here (suc p) Begin begun i.1 (λ e. cc e) r))
      (λ (more : suc z ≢ suc p). dite (dec_lt (suc z) (suc e))
      (λ (within : suc z < suc e). inside u (suc (suc p)) (suc p ∷ []) [] h.1.1 i.2 closed.1 k z (omega (arith, le, other, more)) (omega (arith, within)) r)
      (λ past. dite (ℕ_discrete (suc z) (suc e))
      (λ (back : suc z ≡ suc e).
      let at : z ≡ e = omega (arith, back) in
      at_child c u p k z at h.1 i.2 i.1 closed.1 (subst (λ (j : ℕ). f (suc j) ≡ resumed_from c p j) (sym at) h.2.0) r)
      (λ (rest : suc z ≢ suc e). inside s (suc (suc e)) (suc e ∷ []) (awaited c e ends) h.2.1 i.4 closed.2 k z (omega (arith, past, rest)) (omega (arith, lt)) r))))

-- ---- the `end`s that a block awaits

more_awaited : {x : ℕ} (c : Invocation) (e : ℕ) (ends : List ℕ) → Among x ends → Among x (awaited c e ends)
more_awaited invocations.Call e ends h = h
more_awaited invocations.Spawn e ends h = among_more e ends h

of_awaited : {x : ℕ} (c : Invocation) (e : ℕ) (ends : List ℕ) → Among x (awaited c e ends) → (x ≡ e) ⊎ Among x ends
of_awaited invocations.Call e ends h = inr h
of_awaited invocations.Spawn e ends h = among_first e ends h

own_awaited : (c : Invocation) (z e : ℕ) (ends : List ℕ) → c ≡ invocations.Spawn → z ≡ e → Among z (awaited c e ends)
own_awaited invocations.Call z e ends is same = absurd (cc is)
own_awaited invocations.Spawn z e ends is same = subst (λ (x : ℕ). Among x (e ∷ ends)) (sym same) (among_here e ends)

start_not_sync : (c : Invocation) → start_of c ≡ Sync → ⊥
start_not_sync invocations.Call e = absurd (cc e)
start_not_sync invocations.Spawn e = absurd (cc e)

-- after a spawned child the frame has a `sync`
sync_after : (c : Invocation) (r : Line) → c ≡ invocations.Spawn → ComesAfter c r → SyncAhead r
sync_after invocations.Call r is h = absurd (cc is)
sync_after invocations.Spawn r is h = h

module _ (f : ℕ → List ℕ) (m : ℕ → Mark) where
  -- a `sync` from a on and before b awaits the child that ends at z
  record Awaits (z a b : ℕ) : Type 0 where
    sync_at : ℕ
    low : a ≤ sync_at
    high : sync_at < b
    syncs : m sync_at ≡ Sync
    ends : Among z (f sync_at)

  more_room : (z a b b' : ℕ) → b ≤ b' → Awaits z a b → Awaits z a b'
  more_room z a b b' le h = let less = h.high in record { sync_at = h.sync_at; low = h.low; high = omega (arith, less, le); syncs = h.syncs; ends = h.ends }

  no_sync : (p q : ℕ) (x : Mark) → q ≡ p → m p ≡ x → (x ≡ Sync → ⊥) → m q ≡ Sync → ⊥
  no_sync p q x same is not there = not (sym is ∙ ap m (sym same) ∙ there)

  -- the block's `sync` awaits what the block awaits so far
  next_sync : (s : Shape) (p : ℕ) (prev ends : List ℕ) → Laid f (line_of s) p prev ends → Marked m s p → SyncAhead (line_of s) → (a b : ℕ) → a ≤ p → p + long (line_of s) ≤ b → (z : ℕ) → Among z ends → Awaits z a b
  next_sync finish p prev ends h i ahead a b le room z am = absurd ahead
  next_sync (act s) p prev ends h i ahead a b le room z am = next_sync s (suc p) (p ∷ []) ends h.1 i.1 ahead a b (omega (arith, le)) (omega (arith, room)) z am
  next_sync (sync s) p prev ends h i ahead a b le room z am =
      record { sync_at = p; low = le; high = omega (arith, room); syncs = i.0; ends = subst (λ (es : List ℕ). Among z es) (sym h.0) (among_right prev ends am) }
  next_sync (child c u s) p prev ends h i ahead a b le room z am =
      let e : ℕ = end_of u p in
      next_sync s (suc (suc e)) (suc e ∷ []) (awaited c e ends) h.2.1 i.4 ahead a b (omega (arith, le)) (omega (arith, room)) z (more_awaited c e ends am)

  -- the child right before the `resume` after a spawn was spawned
  is_spawned : (c : Invocation) (u : Shape) (p k e : ℕ) → e ≡ end_of u p → Marked m u (suc (suc p)) → f (suc e) ≡ resumed_from c p e → IsReturn f m k (suc e) → c ≡ invocations.Spawn
  is_spawned invocations.Call u p k e at marked ahead r =
      let one : e ∷ [] ≡ k ∷ [] = sym ahead ∙ r.alone in
      let same : e ≡ k = cc one in
      let ends : m e ≡ End = ends_last m u (suc (suc p)) e (omega (arith, at)) marked in
      absurd (let no : End ≡ Spawn = sym ends ∙ ap m same ∙ r.spawned in cc no)
  is_spawned invocations.Spawn u p k e at marked ahead r = refl

  -- each child that the part spawns is awaited by a later `sync` of it
  awaited_in : (s : Shape) (p : ℕ) (prev ends : List ℕ) → Laid f (line_of s) p prev ends → Marked m s p → IsClosed (line_of s) → (b : ℕ) → p + long (line_of s) ≤ b → (k z : ℕ) → p ≤ suc z → suc z < p + long (line_of s)
      → IsReturn f m k (suc z) → Awaits z (suc z) b
  awaited_in finish p prev ends h i closed b room k z le lt r = absurd (not_here f m p End (omega (arith, le, lt)) i (λ e. cc e) r)
  awaited_in (act s) p prev ends h i closed b room k z le lt r =
      dite (ℕ_discrete (suc z) p)
      (λ (same : suc z ≡ p). absurd (not_here f m p Plain same i.0 (λ e. cc e) r))
      (λ (other : suc z ≢ p). awaited_in s (suc p) (p ∷ []) ends h.1 i.1 closed b (omega (arith, room)) k z (omega (arith, le, other)) (omega (arith, lt)) r)
  awaited_in (sync s) p prev ends h i closed b room k z le lt r =
      dite (ℕ_discrete (suc z) p)
      (λ (same : suc z ≡ p). absurd (not_here f m p Sync same i.0 (λ e. cc e) r))
      (λ (other : suc z ≢ p). awaited_in s (suc p) (p ∷ []) [] h.1 i.1 closed b (omega (arith, room)) k z (omega (arith, le, other)) (omega (arith, lt)) r)
  awaited_in (child c u s) p prev ends h i closed b room k z le lt r =
      let e : ℕ = end_of u p in
      dite (ℕ_discrete (suc z) p)
      (λ (same : suc z ≡ p). absurd (not_here f m p (start_of c) same i.0 (start_not_resume c) r))
      (λ (other : suc z ≢ p). dite (ℕ_discrete (suc z) (suc p))
      (λ (begun : suc z ≡ suc p). absurd (not_here f m (suc p) Begin begun i.1 (λ x. cc x) r))
      (λ (more : suc z ≢ suc p). dite (dec_lt (suc z) (suc e))
      (λ (within : suc z < suc e). awaited_in u (suc (suc p)) (suc p ∷ []) [] h.1.1 i.2 closed.1 b (omega (arith, room)) k z (omega (arith, le, other, more)) (omega (arith, within)) r)
      (λ past. dite (ℕ_discrete (suc z) (suc e))
      (λ (back : suc z ≡ suc e).
      let at : z ≡ e = omega (arith, back) in
      let spawned : c ≡ invocations.Spawn = is_spawned c u p k e refl i.2 h.2.0 (subst (λ (j : ℕ). IsReturn f m k (suc j)) at r) in
      next_sync s (suc (suc e)) (suc e ∷ []) (awaited c e ends) h.2.1 i.4 (sync_after c (plain (line_of s)) spawned closed.0) (suc z) b (omega (arith, at)) (omega (arith, room)) z (own_awaited c z e ends spawned at))
      (λ (rest : suc z ≢ suc e). awaited_in s (suc (suc e)) (suc e ∷ []) (awaited c e ends) h.2.1 i.4 closed.2 b (omega (arith, room)) k z (omega (arith, past, rest)) (omega (arith, lt)) r))))

  -- Of the `end`s that the block awaits at p, where one is there, each later one is there too, or is
  -- awaited before p.
  abbrev AreAwaited : ℕ → List ℕ → Type 0
  AreAwaited p ends = (e k z : ℕ) → Among e ends → e < suc z → suc z < p → IsReturn f m k (suc z) → Awaits z (suc z) p ⊎ Among z ends

  none_awaited : (p : ℕ) → AreAwaited p []
  none_awaited p e k z am less more r = absurd (among_none am)

  past_event : (p : ℕ) (ends : List ℕ) (x : Mark) → m p ≡ x → (x ≡ Resume → ⊥) → AreAwaited p ends → AreAwaited (suc p) ends
  past_event p ends x is not all e k z am less more r =
      dite (ℕ_discrete (suc z) p)
      (λ (same : suc z ≡ p). absurd (not_here f m p x same is not r))
      (λ (other : suc z ≢ p). ⊎_elim (λ (h : Awaits z (suc z) p). inl (more_room z (suc z) p (suc p) (omega arith) h)) (λ (h : Among z ends). inr h) (all e k z am less (omega (arith, more, other)) r))

  before_child : (c : Invocation) (p b : ℕ) (ends : List ℕ) → p < b → AreAwaited p ends → (e k z : ℕ) → Among e (awaited c b ends) → e < suc z → suc z < p → IsReturn f m k (suc z)
      → Awaits z (suc z) (suc (suc b)) ⊎ Among z (awaited c b ends)
  before_child c p b ends le all e k z am less more r = ⊎_elim
      (λ (own : e ≡ b). absurd (omega (arith, own, less, more, le)))
      (λ (owed : Among e ends). ⊎_elim (λ (h : Awaits z (suc z) p). inl (more_room z (suc z) p (suc (suc b)) (omega (arith, le)) h)) (λ (h : Among z ends). inr (more_awaited c b ends h)) (all e k z owed less more r))
      (of_awaited c b ends am)

  past_child : (c : Invocation) (u : Shape) (p : ℕ) (ends : List ℕ) → Laid f (line_of u) (suc (suc p)) (suc p ∷ []) [] → Marked m u (suc (suc p)) → IsClosed (line_of u) → m p ≡ start_of c → m (suc p) ≡ Begin
      → f (suc (end_of u p)) ≡ resumed_from c p (end_of u p) → AreAwaited p ends → AreAwaited (suc (suc (end_of u p))) (awaited c (end_of u p) ends)
  past_child c u p ends laid marked closed starts begun ahead all e k z am less more r =
      let b : ℕ = end_of u p in
      dite (ℕ_discrete (suc z) p)
      (λ (same : suc z ≡ p). absurd (not_here f m p (start_of c) same starts (start_not_resume c) r))
      (λ (other : suc z ≢ p). dite (ℕ_discrete (suc z) (suc p))
      (λ (same : suc z ≡ suc p). absurd (not_here f m (suc p) Begin same begun (λ x. cc x) r))
      (λ (far : suc z ≢ suc p). dite (dec_lt (suc z) p)
      (λ (before : suc z < p). before_child c p b ends (omega arith) all e k z am less before r)
      (λ past. dite (ℕ_discrete (suc z) (suc b))
      (λ (back : suc z ≡ suc b).
      let at : z ≡ b = omega (arith, back) in
      inr (own_awaited c z b ends (is_spawned c u p k b refl marked ahead (subst (λ (j : ℕ). IsReturn f m k (suc j)) at r)) at))
      (λ (rest : suc z ≢ suc b).
      inl (awaited_in u (suc (suc p)) (suc p ∷ []) [] laid marked closed (suc (suc b)) (omega arith) k z (omega (arith, other, far, past)) (omega (arith, more, rest)) r)))))

  at_sync : (o q : ℕ) (ends : List ℕ) → f (suc o) ≡ (o ∷ []) ++ ends → AreAwaited (suc o) ends → q ≡ suc o → (e k z : ℕ) → Among e (f q) → e < suc z → suc z < q → IsReturn f m k (suc z)
      → Awaits z (suc z) q ⊎ Among z (f q)
  at_sync o q ends is all same e k z am less more r =
      let here : f q ≡ (o ∷ []) ++ ends = ap f same ∙ is in
      ⊎_elim
      (λ (near : Among e (o ∷ [])). absurd (let one = among_one near in omega (arith, one, less, more, same)))
      (λ (owed : Among e ends). ⊎_elim
      (λ (h : Awaits z (suc z) (suc o)). inl (more_room z (suc z) (suc o) q (omega (arith, same)) h))
      (λ (h : Among z ends). inr (subst (λ (es : List ℕ). Among z es) (sym here) (among_right (o ∷ []) ends h)))
      (all e k z owed less (omega (arith, more, same)) r))
      (among_split (o ∷ []) ends (subst (λ (es : List ℕ). Among e es) here am))

  -- If a `sync` awaits a child that ends before the `resume` after another spawn, it awaits that
  -- spawned child too, or a `sync` between does.
  comes_to : (s : Shape) (o : ℕ) (ends : List ℕ) → Laid f (line_of s) (suc o) (o ∷ []) ends → Marked m s (suc o) → IsClosed (line_of s) → AreAwaited (suc o) ends
      → (q e k z : ℕ) → suc o ≤ q → q < suc o + long (line_of s) → m q ≡ Sync → Among e (f q) → e < suc z → suc z < q → IsReturn f m k (suc z) → Awaits z (suc z) q ⊎ Among z (f q)
  comes_to finish o ends h i closed all q e k z le lt is am less more r = absurd (no_sync (suc o) q End (omega (arith, le, lt)) i (λ x. cc x) is)
  comes_to (act s) o ends h i closed all q e k z le lt is am less more r =
      dite (ℕ_discrete q (suc o))
      (λ (same : q ≡ suc o). absurd (no_sync (suc o) q Plain same i.0 (λ x. cc x) is))
      (λ (other : q ≢ suc o). comes_to s (suc o) ends h.1 i.1 closed (past_event (suc o) ends Plain i.0 (λ x. cc x) all) q e k z (omega (arith, le, other)) (omega (arith, lt)) is am less more r)
  comes_to (sync s) o ends h i closed all q e k z le lt is am less more r =
      dite (ℕ_discrete q (suc o))
      (λ (same : q ≡ suc o). at_sync o q ends h.0 all same e k z am less more r)
      (λ (other : q ≢ suc o). comes_to s (suc o) [] h.1 i.1 closed (none_awaited (suc (suc o))) q e k z (omega (arith, le, other)) (omega (arith, lt)) is am less more r)
  comes_to (child c u s) o ends h i closed all q e k z le lt is am less more r =
      let b : ℕ = end_of u (suc o) in
      dite (ℕ_discrete q (suc o))
      (λ (same : q ≡ suc o). absurd (no_sync (suc o) q (start_of c) same i.0 (start_not_sync c) is))
      (λ (other : q ≢ suc o). dite (ℕ_discrete q (suc (suc o)))
      (λ (begun : q ≡ suc (suc o)). absurd (no_sync (suc (suc o)) q Begin begun i.1 (λ x. cc x) is))
      (λ (far : q ≢ suc (suc o)). dite (dec_lt q (suc b))
      (λ (within : q < suc b). comes_to u (suc (suc o)) [] h.1.1 i.2 closed.1 (none_awaited (suc (suc (suc o)))) q e k z (omega (arith, le, other, far)) (omega (arith, within)) is am less more r)
      (λ past. dite (ℕ_discrete q (suc b))
      (λ (back : q ≡ suc b). absurd (no_sync (suc b) q Resume back i.3 (λ x. cc x) is))
      (λ (rest : q ≢ suc b). comes_to s (suc b) (awaited c b ends) h.2.1 i.4 closed.2 (past_child c u (suc o) ends h.1.1 i.2 closed.1 i.0 i.1 h.2.0 all) q e k z (omega (arith, past, rest)) (omega (arith, lt)) is am less more r))))

step_over : {f : ℕ → List ℕ} {e p : ℕ} → Reaches f e p → (x : ℕ) × Among e (f x) × ((x ≡ p) ⊎ Reaches f x p)
step_over {p = p} (direct a) = (p, a, inl refl)
step_over {f = f} {p = p} (through {e = d} r a) =
    let first = step_over r in (
      first.0,
      first.1,
      inr (⊎_elim (λ (same : first.0 ≡ d). direct (subst (λ (x : ℕ). Among x (f p)) (sym same) a)) (λ (more : Reaches f first.0 d). through more a) first.2),
    )

marks_at : (es : List Event) (i : ℕ) → mark_at (slice_get es i) ≡ get_or (map mark_of es) i Plain
marks_at [] zero = refl
marks_at [] (suc i) = refl
marks_at (e ∷ es) zero = refl
marks_at (e ∷ es) (suc i) = marks_at es i

module _ (shape : Shape) (s : EventOrder) (of_shape : IsEventOrderOf shape s) (synced : IsSynced shape) (order : IsOrderly s) where
  abbrev mark : ℕ → Mark
  mark p = mark_at (event_at s.events p)

  abbrev f : ℕ → List ℕ
  f = predecessors_of s

  same : predecessors_of s ≡ preceding shape
  same = ap (λ (l : List (List ℕ)). (λ (p : ℕ). slice_index_or l (p - 1) [])) of_shape.preceding

  laid : Laid (predecessors_of s) (whole shape) 1 [] []
  laid = subst (λ (g : ℕ → List ℕ). Laid g (whole shape) 1 [] []) (sym same) (laid_whole shape)

  marked : Marked mark shape 2
  marked = marked_shape mark shape 2 (λ i l. (let z : 2 + i - 1 ≡ suc i = omega arith in
      ap (λ (j : ℕ). mark_at (slice_get s.events j)) z ∙ marks_at s.events (suc i) ∙ ap (λ (l : List Mark). get_or l (suc i) Plain) of_shape.spells))

  resumed_at : (q k : ℕ) → word_step s q ≡ resume k → mark q ≡ Resume
  resumed_at q k is = (resume_mark s.events q (event s q) (predecessors_of s q) k is).mark

  is_spawn : (q k : ℕ) → word_step s q ≡ resume k → (1 ≤ k) × (k < q) × (1 ≤ q) × (q ≤ length s.events)
  is_spawn q k is =
      let r = order.resumed q k is in
      let i = order.inside k (subst IsWord (sym r.0) tt) in
      let j = order.inside q (subst IsWord (sym is) tt) in
      (i.0, order.earlier q k r.1, j.0, j.1)

  return_at : (k q : ℕ) → word_step s q ≡ resume k → IsReturn f mark k q
  return_at k q is =
      let r = resume_mark s.events q (event s q) (predecessors_of s q) k is in
      record { spawned = (spawn_of s.events k (event s k) (predecessors_of s k) r.spawned).0; resumes = r.mark; alone = r.alone }

  spawned : (k z : ℕ) → word_step s (suc z) ≡ resume k → Child f mark k z
  spawned k z is =
      let wide : suc (long (line_of shape)) ≡ length s.events = long_whole shape s.events of_shape.spells in
      let b = is_spawn (suc z) k is in
      let low = b.0 in
      let less = b.1 in
      let high = b.3 in
      inside f mark shape 2 (1 ∷ []) [] laid.1 marked (closed_line shape synced) k z (omega (arith, low, less)) (omega (arith, high, wide)) (return_at k (suc z) is)

  less : {e p : ℕ} → Reaches f e p → e < p
  less {e} {p} (direct a) = order.earlier p e a
  less {e} {p} (through {e = d} r a) = let i = less r in let j = order.earlier p d a in omega (arith, i, j)

  -- a `resume` after a spawn doesn't come right after a spawn
  not_begun : (k z q : ℕ) → word_step s (suc z) ≡ resume k → word_step s (suc k) ≡ resume q → ⊥
  not_begun k z q is there = let c = spawned k z is in let no : Begin ≡ Resume = sym c.begins ∙ resumed_at (suc k) q there in cc no

  -- an event inside the child isn't the start of the range
  no_start_inside : (a e z k q : ℕ) → a ≡ suc e → Whole s a (suc z) → a < suc z → word_step s a ≡ resume q → word_step s (suc z) ≡ resume k → k < e → ⊥
  no_start_inside a e z k q next range some start is low =
      let child = spawned k z is in
      ⊎_elim
      (λ (same : e ≡ z). omega (arith, same, next, some))
      (λ (way : Reaches f e z).
      let over = step_over way in
      let x = over.0 in
      let up : e < x = order.earlier x e over.1 in
      let most : x ≤ z = ⊎_elim (λ (same : x ≡ z). (let g : x ≤ z = omega (arith, same) in g)) (λ (more : Reaches f x z). (let l = less more in let g : x ≤ z = omega (arith, l) in g)) over.2 in
      ⊎_elim
      (λ (back : (d : ℕ) × (word_step s x ≡ resume d)).
      let here : e ≡ back.0 = (order.resumed x back.0 back.1).2 e over.1 in
      let at : suc (x - 1) ≡ x = omega (arith, up) in
      not_begun e (x - 1) q (ap (word_step s) at ∙ back.1 ∙ ap (λ (d : ℕ). resume d) (sym here)) (ap (word_step s) (sym next) ∙ start))
      (λ (held : (d : ℕ) → Among d (predecessors_of s x) → a ≤ d). let h = held e over.1 in omega (arith, h, next))
      (range x (omega (arith, next, up)) (omega (arith, most))))
      (child.reach e low (omega (arith, next, some)))

  pub holds_spawns : RangesHoldSpawns s
  holds_spawns a zero k range start some is = absurd (omega (arith, some))
  holds_spawns a (suc z) k range start some is = dite (dec_lt k a)
      (λ (low : k < a).
      let b = is_spawn (suc z) k is in
      let first = b.0 in
      ⊎_elim
      (λ (one : a ≡ 1). absurd (omega (arith, one, low, first)))
      (λ (back : (q : ℕ) × (word_step s a ≡ resume q)). dite (ℕ_discrete a (suc k))
      (λ (next : a ≡ suc k). absurd (not_begun k z back.0 is (ap (word_step s) (sym next) ∙ back.1)))
      (λ (other : a ≢ suc k). absurd (no_start_inside a (a - 1) z k back.0 (omega (arith, low)) range some back.1 is (omega (arith, low, other)))))
      start.1)
      (λ past. omega (arith, past))

  -- a `sync` between would await the child, whose `end` isn't in the range
  no_sync_between : (a z q : ℕ) → a ≡ suc z → Whole s a q → Awaits f mark z (suc z) q → ⊥
  no_sync_between a z q is range h =
      let x = h.sync_at in
      let low = h.low in
      ⊎_elim
      (λ (back : (d : ℕ) × (word_step s x ≡ resume d)). let no : Sync ≡ Resume = sym h.syncs ∙ resumed_at x back.0 back.1 in cc no)
      (λ (held : (d : ℕ) → Among d (predecessors_of s x) → a ≤ d). let in_range = held z h.ends in absurd (omega (arith, in_range, is)))
      (range x (omega (arith, low, is)) h.high)

  at_the_sync : (q z : ℕ) → event s q ≡ Some events.Sync → suc z < q → (2 ≤ q) × (q < 2 + long (line_of shape))
  at_the_sync q z is some =
      let wide : suc (long (line_of shape)) ≡ length s.events = long_whole shape s.events of_shape.spells in
      let l = slice_get_within s.events (q - 1) events.Sync is in
      (omega (arith, some), omega (arith, l, wide, some))

  in_block : SyncsAwaitSpawns s → (z q e k : ℕ) → Whole s (suc z) q → suc z < q → event s q ≡ Some events.Sync → Among e (predecessors_of s q) → e < suc z → word_step s (suc z) ≡ resume k → IsSpawnOf s q k
  in_block law z q e k range some is am low back =
      let b = at_the_sync q z is some in
      ⊎_elim
      (λ (h : Awaits f mark z (suc z) q). absurd (no_sync_between (suc z) z q refl range h))
      (λ (h : Among z (predecessors_of s q)).
      let child = law q z is h (λ (next : z + 1 ≡ q). omega (arith, next, some)) in
      let there = child.1 in
      let next : z + 1 ≡ suc z = omega arith in
      let both : resume child.0 ≡ resume k = sym there.resumes ∙ (ap (word_step s) next ∙ back) in
      let same : child.0 ≡ k = cc both in
      subst (λ (j : ℕ). IsSpawnOf s q j) same there.spawned)
      (comes_to f mark shape 1 [] laid.1 marked (closed_line shape synced) (none_awaited f mark 2) q e k z b.0 b.1 (ap mark_at is) am low some (return_at k (suc z) back))

  pub begins_in_blocks : SyncsAwaitSpawns s → RangesBeginInBlocks s
  begins_in_blocks law zero q e range start some is am low = absurd (omega (arith, low))
  begins_in_blocks law (suc z) q e range start some is am low =
      let child = law q e is am (λ (next : e + 1 ≡ q). omega (arith, next, some, low)) in
      let there = child.1 in
      let b = is_spawn (e + 1) child.0 there.resumes in
      let first = b.0 in
      let before = b.1 in
      ⊎_elim
      (λ (one : suc z ≡ 1). absurd (omega (arith, one, low, first, before)))
      (λ (back : (k : ℕ) × (word_step s (suc z) ≡ resume k)). (back.0, back.1, in_block law z q e back.0 range some is am low back.1))
      start.1

-- ---- in a replay's event order

module _ (s : Setting) (h : IsOfProgram s) where
  synced_tree : IsSynced (shape_of (named s.program s.run))
  synced_tree =
      let n = serial_numbered s.program s.own s.run h.events h.is.outcome h.is.named h.is.runs in
      let one = spell_one_shape s.program s.own s.run h.events h.is.outcome h.is.runs in
      subst IsSynced (sym (one.one (shape_of (named s.program s.run)) n.spells)) one.synced

  pub replay_holds : RangesHoldSpawns s.event_order
  replay_holds = holds_spawns (shape_of (named s.program s.run)) s.event_order (of_shape s h) synced_tree h.orderly

  pub replay_begins : RangesBeginInBlocks s.event_order
  replay_begins = begins_in_blocks (shape_of (named s.program s.run)) s.event_order (of_shape s h) synced_tree h.orderly (replay_awaits s h)
