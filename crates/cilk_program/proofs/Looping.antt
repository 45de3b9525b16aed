-- The maximum cost of a parallel loop in ticks and events, for any way of halving its turns.
use Rattle.std.proofs.Common.{◌≡◌, ℕ, zero, suc, ◌+◌, ◌-◌, ◌*◌, ◌<◌, ◌≤◌, ℤ, pos, ◌+ℤ◌, ◌-ℤ◌, ◌<ℤ◌, int_eq, int_lt, IsTrue, Bool, true, false, ◌&&◌, if◌then◌else◌, List, [], ◌∷◌, length, drop, None, inl, inr, nat_lt, refl, sym, ap, ap₂, ◌∙◌, subst, arith, add-zero, zero-add, le_refl}
use Rattle.std.proofs.lemmas.Int.{ints}
use Rattle.std.proofs.lemmas.Bool.{and_parts}
use Rattle.cilk_types.specs.declared.fault.Fault.{Fault}
use Rattle.cilk_types.specs.declared.event.Event.{Event}
use Rattle.cilk_types.specs.declared.event.Instance.{Instance}
use Rattle.cilk_program.specs.declared.ask.Ask.TheVariants as asks
use Rattle.cilk_program.specs.declared.ask.Callee.TheVariants as callees
use Rattle.cilk_program.specs.declared.ask.LoopPart.{LoopPart}
use Rattle.cilk_types.specs.declared.invocation.Invocation.TheVariants.{Call, Spawn}
use Rattle.cilk_program.specs.declared.syntax.Place.TheVariants as places
use Rattle.cilk_program.specs.declared.program.Body.{Body}
use Rattle.cilk_program.specs.Syntax.{Source, Expression, Loop, ParallelFor, loop_at}
use Rattle.cilk_program.specs.WellNamed.{is_well_named, same_body, expression_is_named, statement_is_named, row_is_named}
use Rattle.cilk_program.specs.Scopes.{Scope}
use Rattle.cilk_program.specs.Store.{put}
use Rattle.cilk_program.specs.Behaviour.{Got, Gives, ◌>>=◌, Flow, invokes, finishes, parallel_turns, does, all_do, middle}
use Rattle.cilk_program.specs.Elision as elision
use Rattle.cilk_program.specs.Elision.{Sight, Gives as Worth, Fails, evaluate, Came, GoesOn, Returns, Faults, home_in, turned, on_ended, turns_between, ElidesAll, ElidesTurns, NoTurns, Turned, TurnFails, ElidesTurn, OneTurn}
use Rattle.cilk_program.specs.SerialRun.{Transcript, Memory, next_frame, begun, counted, Ending, Serial}
use Rattle.cilk_program.proofs.Ties.{since_itself, same_begun}
use Rattle.cilk_program.proofs.Sights.{SeesAlike, sees_since}
use Rattle.cilk_program.proofs.Moments.{Site, SameMemory, write_fits, sees_now}
use Rattle.cilk_program.proofs.Asked.{same_body_is}
use Rattle.cilk_program.proofs.Calls.{loop_body_named}
use Rattle.cilk_program.proofs.Turns as turns
use Rattle.cilk_program.proofs.Roots.{all_elided}
use Rattle.cilk_program.proofs.Elisions.{one_turns}
use Rattle.cilk_program.proofs.Intervals.{turns_none, turns_some, turns_one, halves, below_from}
use Rattle.cilk_program.proofs.Budgets.{Rich, less, rich_as, Quiet, asked_rich, nodes}
use Rattle.cilk_program.proofs.Costs.{After, value_at, fails_at, FrameAfter, frame_quiet, child_rich, starts_rich, plainly_closes}
use Rattle.cilk_program.proofs.Spending.{Standing, site, Takes, rich_begun, valued_rich}

module _ (p : Source) (wn : IsTrue (is_well_named p)) (inputs : List ℤ) where
  -- a turn, with the cost of its body
  pub record TurnTakes (s : Sight) (n : ℕ) (v : ℤ) (m : elision.Memory) (r : Came) : Type 0 where
    pub turn : ElidesTurn p inputs s n v m r
    pub body : Takes p inputs (home_in m [] ∷ s) (turned (loop_at p n) v m) r (λ b. IsTrue (row_is_named p b (loop_at p n).body)) (all_do inputs (loop_at p n).body)

  -- turns, with the total cost of them and of the frames around them
  pub data Costed (s : Sight) (n : ℕ) : ℤ → ℕ → elision.Memory → Came → ℕ → Type 0 where
    Nothing' : {v : ℤ} {m : elision.Memory} → Costed s n v zero m (GoesOn m) 0
    More : {v : ℤ} {k : ℕ} {m : elision.Memory} {r' r : Came} {c : ℕ} (w : ℤ) (m' : elision.Memory) (t : TurnTakes s n v m r') → on_ended r' Returns ≡ Returns w m' → Costed s n (v +ℤ pos 1) k m' r c → Costed s n v (suc k) m r (t.body.cost + 11 + c)
    Fails' : {v : ℤ} {k : ℕ} {m : elision.Memory} {f : Fault} (t : TurnTakes s n v m (Faults f)) → Costed s n v (suc k) m (Faults f) (t.body.cost + 11 * suc k)

  pub turns_of : {s : Sight} {n : ℕ} {v : ℤ} {k : ℕ} {m : elision.Memory} {r : Came} {c : ℕ} → Costed s n v k m r c → ElidesTurns p inputs s n v k m r
  turns_of Nothing' = NoTurns
  turns_of (More {r' = r'} w m' t on rest) = Turned r' w m' t.turn on (turns_of rest)
  turns_of (Fails' {f = f} t) = TurnFails f t.turn

  at_least : {s : Sight} {n : ℕ} {v : ℤ} {k : ℕ} {m : elision.Memory} {r : Came} {c : ℕ} → Costed s n v k m r c → 1 ≤ k → 11 ≤ c
  at_least Nothing' h = absurd (omega arith)
  at_least (More w m' t on rest) h = omega arith
  at_least (Fails' t) h = omega arith

  -- the first k turns and the rest
  data Split (s : Sight) (n : ℕ) (v : ℤ) (k j : ℕ) (m : elision.Memory) (r : Came) (c : ℕ) : Type 0 where
    Both : (m1 : elision.Memory) (c1 c2 : ℕ) → Costed s n v k m (GoesOn m1) c1 → Costed s n (v +ℤ pos k) j m1 r c2 → c1 + c2 ≤ c → Split s n v k j m r c
    FailsFirst : (f : Fault) (c1 : ℕ) → r ≡ Faults f → Costed s n v k m (Faults f) c1 → c1 + 11 * j ≤ c → Split s n v k j m r c

  split : (k j : ℕ) {s : Sight} {n : ℕ} {v : ℤ} {all : ℕ} {m : elision.Memory} {r : Came} {c : ℕ} → Costed s n v all m r c → all ≡ k + j → Split s n v k j m r c
  split zero j {s} {n} {v} {all} {m} {r} {c} d e =
      let here : v ≡ v +ℤ pos 0 = omega (arith, ints) in
      let count : all ≡ j = omega arith in
      Both m 0 c Nothing' (subst (λ v. Costed s n v j m r c) here (subst (λ all. Costed s n v all m r c) count d)) (omega arith)
  split (suc k) j Nothing' e = absurd (omega arith)
  split (suc k) j {s} {n} {r = r} (More {v = v} {k = k'} {m = m} {c = c} w m' t on rest) e = more (split k j rest (omega arith))
    where
      more : Split s n (v +ℤ pos 1) k j m' r c → Split s n v (suc k) j m r (t.body.cost + 11 + c)
      more (Both m1 c1 c2 d1 d2 h) =
          let there : (v +ℤ pos 1) +ℤ pos k ≡ v +ℤ pos (suc k) = omega (arith, ints) in
          Both m1 (t.body.cost + 11 + c1) c2 (More w m' t on d1) (subst (λ v. Costed s n v j m1 r c2) there d2) (omega arith)
      more (FailsFirst f c1 q d1 h) = FailsFirst f (t.body.cost + 11 + c1) q (More w m' t on d1) (omega arith)
  split (suc k) j {s} {n} (Fails' {v = v} {k = k'} {m = m} {f = f} t) e = FailsFirst f (t.body.cost + 11 * suc k) refl (Fails' t) (omega arith)

  -- a single turn
  data Single (s : Sight) (n : ℕ) (v : ℤ) (m : elision.Memory) (c : ℕ) : Type 0 where
    Turn : (r : Came) (t : TurnTakes s n v m r) → t.body.cost + 11 ≤ c → Single s n v m c

  single : {s : Sight} {n : ℕ} {v : ℤ} {k : ℕ} {m : elision.Memory} {r : Came} {c : ℕ} → Costed s n v k m r c → k ≡ 1 → Single s n v m c
  single Nothing' e = absurd (omega arith)
  single (More {r' = r'} w m' t on rest) e = Turn r' t (omega arith)
  single (Fails' {f = f} t) e = Turn (Faults f) t (omega arith)

  module _ (tied : ℕ → Instance) (m : elision.Memory) (m' : Memory) (s : Sight) (scope : Scope ℕ Instance) (left : ℕ) (l : LoopPart)
      (same : SameMemory tied m m') (sees : let body = loop_at p l.number in SeesAlike p tied m.reducers body.within s (drop l.up scope)) (below : l.low <ℤ l.high) (end : Ending) where
    abbrev frame : Site
    frame = turns.site p wn inputs tied m m' s scope left l same sees below end

    abbrev body : Loop
    body = loop_at p l.number

    abbrev standing : Standing p inputs (home_in m [] ∷ s)
    standing = record { fr = frame.fr; end = end; tied = frame.tied; count = frame.count; body = frame.body; sees = frame.sees }

    one_enough : int_eq (l.high -ℤ l.low) (pos 1) ≡ true → (c : ℕ) → Single s l.number l.low m c → (x : ℕ) (u : Transcript) (es : List Event) → c + x ≤ 7 + left → c + x ≤ 7 + (m'.room - 1)
        → Serial p inputs (next_frame p scope m' (callees.Loop l)) left [] (begun p (callees.Loop l) (counted m')) u es end → FrameAfter x end
    one_enough one c (Turn r t h) x u es b b' d =
        let m1 : elision.Memory = record { store = m.store; cells = m.cells + body.cells; reducers = m.reducers } in
        let k1 : ℕ = t.body.cost + (2 + x) in
        let n = starts_rich frame m1 (begun p (callees.Loop l) (counted m')) left (suc k1) u es (omega arith) (omega arith) (all_elided p wn inputs u) d
        (record { store = same_begun same.store; cells = ap₂ (λ c b. c + (if b then body.cells else 0)) same.cells (sym one) }) (since_itself tied m.reducers) in
        let n' : Rich frame m1 (suc k1) (turns.Turn p wn inputs tied m m' s scope left l same sees below end) =
        rich_as (λ a t. ap (λ b. if b then turns.Turn p wn inputs tied m m' s scope left l same sees below end a t else turns.Parts p wn inputs tied m m' s scope left l same sees below end a t) one) n in
        let n'' = asked_rich (asks.Write (places.Local 0 0) l.low) (put (m.cells + 0) l.low m.store) (pos 0) (λ _ a t. all_do inputs body.body a t >>= finishes false) n' (write_fits n'.now (places.Local 0 0) l.low) in
        let n3 = subst (λ c. Rich frame (record m1 { store = put c l.low m.store }) k1 (λ a t. all_do inputs body.body a t >>= finishes false)) (add-zero m.cells) n'' in
        plainly_closes frame r x (t.body.run standing (loop_body_named p wn l.number) (2 + x) (finishes false) n3)

  -- a frame of at most n turns ends, if it had enough ticks and events
  abbrev pub Enough : ℕ → Type 0
  Enough fuel =
      (tied : ℕ → Instance) (m : elision.Memory) (m' : Memory) (s : Sight) (scope : Scope ℕ Instance) (left : ℕ) (l : LoopPart) (same : SameMemory tied m m')
      → (let body = loop_at p l.number in SeesAlike p tied m.reducers body.within s (drop l.up scope)) → l.low <ℤ l.high → (end : Ending)
      → turns_between l.low l.high ≤ fuel → (r : Came) (c : ℕ) → Costed s l.number l.low (turns_between l.low l.high) m r c → (x : ℕ) (u : Transcript) (es : List Event) → c + x ≤ 7 + left → c + x ≤ 7 + (m'.room - 1)
      → Serial p inputs (next_frame p scope m' (callees.Loop l)) left [] (begun p (callees.Loop l) (counted m')) u es end → FrameAfter x end

  module _ (fuel : ℕ) (smaller : Enough fuel) (tied : ℕ → Instance) (m : elision.Memory) (m' : Memory) (s : Sight) (scope : Scope ℕ Instance) (left : ℕ) (l : LoopPart)
      (same : SameMemory tied m m') (sees : let body = loop_at p l.number in SeesAlike p tied m.reducers body.within s (drop l.up scope)) (below : l.low <ℤ l.high) (end : Ending)
      (few : turns_between l.low l.high ≤ suc fuel) (many : int_eq (l.high -ℤ l.low) (pos 1) ≡ false) where
    abbrev whole : Site
    whole = frame tied m m' s scope left l same sees below end

    abbrev mid : ℤ
    mid = middle l.low l.high

    abbrev first : LoopPart
    first = record { number = l.number; up = 1; low = l.low; high = mid }

    abbrev second : LoopPart
    second = record { number = l.number; up = 1; low = mid; high = l.high }

    second_enough : (m1 : elision.Memory) (r : Came) (c2 : ℕ) → Costed s l.number mid (turns_between mid l.high) m1 r c2 → (x : ℕ)
        → Rich whole m1 (suc (c2 - 7 + (3 + x))) (λ a t. invokes Call (callees.Loop second) a t >>= finishes false) → FrameAfter x end
    second_enough m1 r c2 d2 x n =
        let h = halves l.low l.high below many in
        let k1 : 1 ≤ turns_between l.low mid = turns_some l.low mid h.below in
        let k2 : 1 ≤ turns_between mid l.high = turns_some mid l.high h.above in
        let sum = h.sum in
        let some : 11 ≤ c2 = at_least d2 k2 in
        let fits : turns_between mid l.high ≤ fuel = omega arith in
        plainly_closes whole r x
        (child_rich (c2 - 7 + (3 + x)) (2 + x) (ElidesTurns p inputs s l.number mid (turns_between mid l.high) m1) (λ r r' t t'. one_turns p inputs t t') r (turns_of d2) Call (callees.Loop second) (finishes false) n
        (λ u es end' ok d. ok.loop n.now.tied m1 n.now.m' s whole.fr.scope n.left es end' second n.now.same (sees_since sees n.now.since) h.above d)
        (λ u es end' b b' d. smaller n.now.tied m1 n.now.m' s whole.fr.scope n.left second n.now.same (sees_since sees n.now.since) h.above end' fits r c2 d2 (suc (2 + x)) u es (omega arith) (omega arith) d))

    first_child : (r1 : Came) (c1 : ℕ) → Costed s l.number l.low (turns_between l.low mid) m r1 c1 → (k : ℕ)
        → Rich whole m (suc (c1 - 7 + suc k)) (λ a t. invokes Spawn (callees.Loop first) a t >>= λ _ a t. invokes Call (callees.Loop second) a t >>= finishes false)
        → After whole r1 k (λ _ a t. invokes Call (callees.Loop second) a t >>= finishes false)
    first_child r1 c1 d1 k n =
        let h = halves l.low l.high below many in
        let k1 : 1 ≤ turns_between l.low mid = turns_some l.low mid h.below in
        let k2 : 1 ≤ turns_between mid l.high = turns_some mid l.high h.above in
        let sum = h.sum in
        let some : 11 ≤ c1 = at_least d1 k1 in
        let fits : turns_between l.low mid ≤ fuel = omega arith in
        child_rich (c1 - 7 + suc k) k (ElidesTurns p inputs s l.number l.low (turns_between l.low mid) m) (λ r r' t t'. one_turns p inputs t t') r1 (turns_of d1) Spawn (callees.Loop first)
        (λ _ a t. invokes Call (callees.Loop second) a t >>= finishes false) n
        (λ u es end' ok d. ok.loop n.now.tied m n.now.m' s whole.fr.scope n.left es end' first n.now.same (sees_since sees n.now.since) h.below d)
        (λ u es end' b b' d. smaller n.now.tied m n.now.m' s whole.fr.scope n.left first n.now.same (sees_since sees n.now.since) h.below end' fits r1 c1 d1 (suc k) u es (omega arith) (omega arith) d)

    begins_rich : (k : ℕ) (u : Transcript) (es : List Event) → k ≤ left → suc k ≤ m'.room - 1 → Serial p inputs (next_frame p scope m' (callees.Loop l)) left [] (begun p (callees.Loop l) (counted m')) u es end
        → Rich whole m k (λ a t. invokes Spawn (callees.Loop first) a t >>= λ _ a t. invokes Call (callees.Loop second) a t >>= finishes false)
    begins_rich k u es b b' d =
        let body = loop_at p l.number in
        let n = starts_rich whole m (begun p (callees.Loop l) (counted m')) left k u es b b' (all_elided p wn inputs u) d
        (record { store = same_begun same.store; cells = sym (add-zero m.cells) ∙ ap₂ (λ c b. c + (if b then body.cells else 0)) same.cells (sym many) }) (since_itself tied m.reducers) in
        rich_as (λ a t. ap (λ b. if b then turns.Turn p wn inputs tied m m' s scope left l same sees below end a t else turns.Parts p wn inputs tied m m' s scope left l same sees below end a t) many) n

    many_enough : (r : Came) (c : ℕ) → Split s l.number l.low (turns_between l.low mid) (turns_between mid l.high) m r c → (x : ℕ) (u : Transcript) (es : List Event) → c + x ≤ 7 + left → c + x ≤ 7 + (m'.room - 1)
        → Serial p inputs (next_frame p scope m' (callees.Loop l)) left [] (begun p (callees.Loop l) (counted m')) u es end → FrameAfter x end
    many_enough r c (Both m1 c1 c2 d1 d2 le) x u es b b' d =
        let h = halves l.low l.high below many in
        let k1 : 1 ≤ turns_between l.low mid = turns_some l.low mid h.below in
        let k2 : 1 ≤ turns_between mid l.high = turns_some mid l.high h.above in
        let some1 : 11 ≤ c1 = at_least d1 k1 in
        let some2 : 11 ≤ c2 = at_least d2 k2 in
        let k : ℕ = suc (c2 - 7 + (3 + x)) in
        both (first_child (GoesOn m1) c1 d1 k (begins_rich (suc (c1 - 7 + suc k)) u es (omega arith) (omega arith) d))
      where
        both : After whole (GoesOn m1) (suc (c2 - 7 + (3 + x))) (λ _ a t. invokes Call (callees.Loop second) a t >>= finishes false) → FrameAfter x end
        both (inl n) = let h = halves l.low l.high below many in second_enough m1 r c2 (subst (λ v. Costed s l.number v (turns_between mid l.high) m1 r c2) h.from d2) x n
        both (inr q) = frame_quiet x end q
    many_enough r c (FailsFirst f c1 e d1 le) x u es b b' d =
        let h = halves l.low l.high below many in
        let k1 : 1 ≤ turns_between l.low mid = turns_some l.low mid h.below in
        let k2 : 1 ≤ turns_between mid l.high = turns_some mid l.high h.above in
        let some1 : 11 ≤ c1 = at_least d1 k1 in
        frame_quiet x end (first_child (Faults f) c1 d1 0 (begins_rich (suc (c1 - 7 + 1)) u es (omega arith) (omega arith) d))

  pub enough : (fuel : ℕ) → Enough fuel
  enough zero tied m m' s scope left l same sees below end few r c costed x u es b b' d = let some = turns_some l.low l.high below in absurd (omega arith)
  enough (suc fuel) tied m m' s scope left l same sees below end few r c costed x u es b b' d = by_test (enough fuel) (int_eq (l.high -ℤ l.low) (pos 1)) refl
    where
      by_test : Enough fuel → (t : Bool) → int_eq (l.high -ℤ l.low) (pos 1) ≡ t → FrameAfter x end
      by_test smaller true e = one_enough tied m m' s scope left l same sees below end e c (single costed (turns_one l.low l.high e)) x u es b b' d
      by_test smaller false e =
          let h = halves l.low l.high below e in
          many_enough fuel smaller tied m m' s scope left l same sees below end few e r c (split (turns_between l.low (middle l.low l.high)) (turns_between (middle l.low l.high) l.high) costed (sym h.sum)) x u es b b' d

  none_left : {s : Sight} {n : ℕ} {v : ℤ} {k : ℕ} {m : elision.Memory} {r : Came} {c : ℕ} → Costed s n v k m r c → k ≡ 0 → GoesOn m ≡ r
  none_left Nothing' e = refl
  none_left (More w m' t on rest) e = absurd (omega arith)
  none_left (Fails' t) e = absurd (omega arith)

  loop_there : (e e' : Expression) (number : ℕ) (b : Body) → IsTrue (statement_is_named p b (ParallelFor e e' number)) → IsTrue (expression_is_named p b e) × IsTrue (expression_is_named p b e') × ((loop_at p number).within ≡ b)
  loop_there e e' number b h =
      let t = and_parts (expression_is_named p b e && expression_is_named p b e') (nat_lt number (length p.loops) && same_body (loop_at p number).within b) h in
      let t' = and_parts (expression_is_named p b e) (expression_is_named p b e') t.0 in
      (t'.0, t'.1, same_body_is (loop_at p number).within b (and_parts (nat_lt number (length p.loops)) (same_body (loop_at p number).within b) t.1).1)

  module _ {s : Sight} {m : elision.Memory} (e e' : Expression) (number : ℕ) where
    pub low_fails_takes : (f : Fault) → evaluate inputs s m.store e ≡ Fails f → Takes p inputs s m (Faults f) (λ b. IsTrue (statement_is_named p b (ParallelFor e e' number))) (does inputs (ParallelFor e e' number))
    low_fails_takes f ev = record {
      cost = suc (nodes e);
      run = λ y h k g n.
          fails_at (site p inputs y) m k _ ev (valued_rich p inputs y e (loop_there e e' number y.body h).0 _ k g (rich_begun p inputs y (nodes e + k) _ g (less (suc (nodes e + k)) (omega arith) n)));
    }

    pub high_fails_takes : (low : ℤ) (f : Fault) → evaluate inputs s m.store e ≡ Worth low → evaluate inputs s m.store e' ≡ Fails f
        → Takes p inputs s m (Faults f) (λ b. IsTrue (statement_is_named p b (ParallelFor e e' number))) (does inputs (ParallelFor e e' number))
    high_fails_takes low f ev ev' = record {
      cost = suc (nodes e + nodes e');
      run = λ y h k g n.
          let hs = loop_there e e' number y.body h in
          fails_at (site p inputs y) m k _ ev' (valued_rich p inputs y e' hs.1 _ k g
          (value_at _ ev (valued_rich p inputs y e hs.0 _ (nodes e' + k) g (rich_begun p inputs y (nodes e + (nodes e' + k)) _ g (less (suc (nodes e + (nodes e' + k))) (omega arith) n)))));
    }

    module _ {r : Came} (low high : ℤ) (c : ℕ) (costed : Costed s number low (turns_between low high) m r c) where
      abbrev l : LoopPart
      l = record { number = number; up = 0; low = low; high = high }

      child_after : (y : Standing p inputs s) → (loop_at p number).within ≡ y.body → low <ℤ high → (k : ℕ) (g : Flow → List ℤ → ℕ → Got ℤ) → Rich (site p inputs y) m (suc (c + suc k)) (λ a t. invokes Call (callees.Loop l) a t >>= g)
          → After (site p inputs y) r k g
      child_after y within below k g n =
          child_rich (c + suc k) k (ElidesTurns p inputs s number low (turns_between low high) m) (λ r r' t t'. one_turns p inputs t t') r (turns_of costed) Call (callees.Loop l) g n
          (λ u es end ok d. ok.loop n.now.tied m n.now.m' s y.fr.scope n.left es end l n.now.same (subst (λ b. SeesAlike p n.now.tied m.reducers b s y.fr.scope) (sym within) (sees_now n.now)) below d)
          (λ u es end b b' d. enough (turns_between low high) n.now.tied m n.now.m' s y.fr.scope n.left l n.now.same (subst (λ b. SeesAlike p n.now.tied m.reducers b s y.fr.scope) (sym within) (sees_now n.now)) below end
          (le_refl (turns_between low high)) r c costed (suc k) u es (omega arith) (omega arith) d)

      loop_after : (y : Standing p inputs s) → (loop_at p number).within ≡ y.body → (k : ℕ) (g : Flow → List ℤ → ℕ → Got ℤ) → Rich (site p inputs y) m (suc (c + suc k)) (λ a t. parallel_turns number low high a t >>= g)
          → (t : Bool) → int_lt low high ≡ t → After (site p inputs y) r k g
      loop_after y within k g n true t =
          child_after y within (below_from low high t) k g (rich_as (λ a t'. ap (λ b. (if b then invokes Call (callees.Loop l) a t' else Gives None a t') >>= g) t) n)
      loop_after y within k g n false t =
          subst (λ r. After (site p inputs y) r k g) (none_left costed (turns_none low high t))
          (inl (less k (omega arith) (rich_as (λ a t'. ap (λ b. (if b then invokes Call (callees.Loop l) a t' else Gives None a t') >>= g) t) n)))

      pub parallel_takes : evaluate inputs s m.store e ≡ Worth low → evaluate inputs s m.store e' ≡ Worth high → Takes p inputs s m r (λ b. IsTrue (statement_is_named p b (ParallelFor e e' number))) (does inputs (ParallelFor e e' number))
      parallel_takes ev ev' = record {
        cost = suc (nodes e + (nodes e' + suc (suc c)));
        run = λ y h k g n.
            let hs = loop_there e e' number y.body h in
            loop_after y hs.2 k g
            (value_at _ ev' (valued_rich p inputs y e' hs.1 _ (suc (c + suc k)) g
            (value_at _ ev (valued_rich p inputs y e hs.0 _ (nodes e' + suc (c + suc k)) g (rich_begun p inputs y (nodes e + (nodes e' + suc (c + suc k))) _ g (less (suc (nodes e + (nodes e' + suc (c + suc k)))) (omega arith) n))))))
            (int_lt low high) refl;
      }
