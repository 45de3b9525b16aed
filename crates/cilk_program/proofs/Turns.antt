-- The turns of a parallel loop are those of its elision, for any way of halving them.
use Rattle.std.proofs.Common.{◌≡◌, ℕ, suc, ◌+◌, ◌≤◌, ℤ, pos, ◌+ℤ◌, ◌-ℤ◌, ◌<ℤ◌, int_eq, IsTrue, Bool, true, false, if◌then◌else◌, List, [], ◌∷◌, drop, Some, None, inl, inr, refl, sym, ap, ap₂, ◌∙◌, subst, arith, add-zero, zero-add}
use Rattle.std.proofs.lemmas.Int.{ints}
use Rattle.cilk_types.specs.declared.fault.Fault.{Fault}
use Rattle.cilk_types.specs.declared.event.Event.{Event}
use Rattle.cilk_types.specs.declared.event.Instance.{Instance}
use Rattle.cilk_program.specs.declared.ask.Ask.TheVariants as asks
use Rattle.cilk_program.specs.declared.ask.Callee.TheVariants as callees
use Rattle.cilk_program.specs.declared.ask.LoopPart.{LoopPart}
use Rattle.cilk_program.specs.declared.program.Body.TheVariants as bodies
use Rattle.cilk_types.specs.declared.invocation.Invocation.TheVariants.{Call, Spawn}
use Rattle.cilk_program.specs.declared.syntax.Place.TheVariants as places
use Rattle.cilk_program.specs.Syntax.{Source, Loop, loop_at}
use Rattle.cilk_program.specs.WellNamed.{is_well_named}
use Rattle.cilk_program.specs.Scopes.{Scope}
use Rattle.cilk_program.specs.Store.{put}
use Rattle.cilk_program.specs.Behaviour.{Got, ◌>>=◌, ask, invokes, finishes, all_do, middle, part, frame_gives}
use Rattle.cilk_program.specs.Elision as elision
use Rattle.cilk_program.specs.Elision.{Sight, Came, GoesOn, Returns, Faults, home_in, turned, on_ended, turns_between, ElidesAll, ElidesTurns, NoTurns, Turned, TurnFails, ElidesTurn, OneTurn}
use Rattle.cilk_program.specs.SerialRun.{Transcript, Memory, next_frame, home_of, begun, counted, Ending, Serial}
use Rattle.cilk_program.proofs.Ties.{since_itself, same_begun}
use Rattle.cilk_program.proofs.Sights.{SeesAlike, sees_since, sees_turn}
use Rattle.cilk_program.proofs.Steps.{Children}
use Rattle.cilk_program.proofs.Moments.{Site, Now, now_as, write, SameMemory, ChildEnds, IsElided, AskGoes, Answer, NoRoom, Comes, On, Back, Broken', Limited, child_goes}
use Rattle.cilk_program.proofs.Statements.{Stays, child_stays}
use Rattle.cilk_program.proofs.Bodies.{all_goes}
use Rattle.cilk_program.proofs.Frames.{starts, ask_then, Finishes, Closes, CutOff, finish}
use Rattle.cilk_program.proofs.Calls.{loop_body_named}
use Rattle.cilk_program.proofs.Intervals.{turns_one, halves}

goes_faults : {G : Type 0} (m : elision.Memory) (f : Fault) → Faults f ≡ GoesOn m → G
goes_faults m f e = absurd (cc)

module _ {p : Source} {inputs : List ℤ} {s : Sight} {n : ℕ} where
  -- some turns and then more
  turns_then : {v : ℤ} {k : ℕ} {m : elision.Memory} {r1 : Came} (j : ℕ) (m1 : elision.Memory) (r : Came) → ElidesTurns p inputs s n v k m r1 → r1 ≡ GoesOn m1 → ElidesTurns p inputs s n (v +ℤ pos k) j m1 r → ElidesTurns p inputs s n v (k + j) m r
  turns_then j m1 r (NoTurns {v = v} {m = m}) e t =
      let same : m ≡ m1 = cc in
      let here : v +ℤ pos 0 ≡ v = omega (arith, ints) in
      subst (λ k. ElidesTurns p inputs s n v k m r) (sym (zero-add j))
      (subst (λ v. ElidesTurns p inputs s n v j m r) here (subst (λ m. ElidesTurns p inputs s n (v +ℤ pos 0) j m r) (sym same) t))
  turns_then j m1 r (Turned {v = v} {k = k} {m = m} r' w m' turn on rest) e t =
      let there : v +ℤ pos (suc k) ≡ (v +ℤ pos 1) +ℤ pos k = omega (arith, ints) in
      let count : suc (k + j) ≡ suc k + j = omega arith in
      subst (λ k. ElidesTurns p inputs s n v k m r) count
      (Turned r' w m' turn on (turns_then j m1 r rest e (subst (λ v. ElidesTurns p inputs s n v j m1 r) there t)))
  turns_then j m1 r (TurnFails f turn) e t = goes_faults m1 f e

  -- a fault ends all turns
  turns_fail : {v : ℤ} {k : ℕ} {m : elision.Memory} {r : Came} (j : ℕ) (f : Fault) → ElidesTurns p inputs s n v k m r → r ≡ Faults f → ElidesTurns p inputs s n v (k + j) m (Faults f)
  turns_fail j f (NoTurns {m = m}) e = goes_faults m f (sym e)
  turns_fail j f (Turned {v = v} {k = k} {m = m} r' w m' turn on rest) e =
      let count : suc (k + j) ≡ suc k + j = omega arith in
      subst (λ k. ElidesTurns p inputs s n v k m (Faults f)) count (Turned r' w m' turn on (turns_fail j f rest e))
  turns_fail j f (TurnFails {v = v} {k = k} {m = m} g turn) e =
      let count : suc (k + j) ≡ suc k + j = omega arith in
      let same : g ≡ f = cc in
      subst (λ k. ElidesTurns p inputs s n v k m (Faults f)) count (TurnFails f (subst (λ g. ElidesTurn p inputs s n v m (Faults g)) same turn))

module _ (p : Source) (wn : IsTrue (is_well_named p)) (inputs : List ℤ) (tied : ℕ → Instance) (m : elision.Memory) (m' : Memory) (s : Sight) (scope : Scope ℕ Instance) (left : ℕ) (l : LoopPart)
    (same : SameMemory tied m m') (sees : let body = loop_at p l.number in SeesAlike p tied m.reducers body.within s (drop l.up scope)) (below : l.low <ℤ l.high) (end : Ending) where
  abbrev pub body : Loop
  body = loop_at p l.number

  abbrev pub site : Site
  site = record {
    p = p;
    inputs = inputs;
    fr = next_frame p scope m' (callees.Loop l);
    end = end;
    tied = tied;
    count = m.reducers;
    sight = home_in m [] ∷ s;
    body = bodies.Loop l.number;
    sees = sees_turn p tied m.reducers s (drop l.up scope) l.number (home_in m []) (home_of p (callees.Loop l) (suc m'.frames) m'.cells []) (ap (λ c n. c + n) same.cells) sees;
  }

  abbrev E : Came → Type 0
  E = ElidesTurns p inputs s l.number l.low (turns_between l.low l.high) m

  ended : (m2 : elision.Memory) → E (GoesOn m2) → (v : ℤ) (left' : ℕ) → left' ≤ left → Finishes site m2 v left' → ChildEnds E tied m.reducers left end
  ended m2 e v left' h (Closes m3 tied' since same' q) = subst (ChildEnds E tied m.reducers left) (sym q) (m2, e, h, (tied', since, record { store = same'.store; cells = same'.cells }))
  ended m2 e v left' h (CutOff q) = subst (ChildEnds E tied m.reducers left) (sym q) (inr tt)

  -- the run of a frame with one turn
  abbrev pub Turn : List ℤ → ℕ → Got ℤ
  Turn a t = ask (asks.Write (places.Local 0 0) l.low) a t >>= λ _ a t. all_do inputs body.body a t >>= finishes false

  -- the run of a frame with several turns
  abbrev pub Parts : List ℤ → ℕ → Got ℤ
  Parts a t = invokes Spawn (part l l.low (middle l.low l.high)) a t >>= λ _ a t. invokes Call (part l (middle l.low l.high) l.high) a t >>= finishes false

  -- one turn
  module _ (one : int_eq (l.high -ℤ l.low) (pos 1) ≡ true) where
    single : {r : Came} → ElidesTurns p inputs s l.number l.low 1 m r → E r
    single {r} t = subst (λ k. ElidesTurns p inputs s l.number l.low k m r) (sym (turns_one l.low l.high one)) t

    abbrev pub m1 : elision.Memory
    m1 = record { store = m.store; cells = m.cells + body.cells; reducers = m.reducers }

    turn_ends : Comes site (ElidesAll p inputs (home_in m [] ∷ s) body.body (turned body l.low m)) (suc left) (finishes false) → ChildEnds E tied m.reducers left end
    turn_ends (On m2 el left' h n) = ended m2 (single (Turned (GoesOn m2) (pos 0) m2 (OneTurn body refl el) refl NoTurns)) (pos 0) left' (omega arith) (finish site m2 None left' n)
    turn_ends (Back v m2 el left' h n) = ended m2 (single (Turned (Returns v m2) v m2 (OneTurn body refl el) refl NoTurns)) v left' (omega arith) (finish site m2 (Some v) left' n)
    turn_ends (Broken' f el q) = subst (ChildEnds E tied m.reducers left) (sym q) (inl (single (TurnFails f (OneTurn body refl el))))
    turn_ends (Limited f lim q) = subst (ChildEnds E tied m.reducers left) (sym q) (inr lim)

    turn_starts : AskGoes site m1 left (frame_gives p inputs (callees.Loop l)) → AskGoes site (turned body l.low m) left (λ a t. all_do inputs body.body a t >>= finishes false)
    turn_starts x = ask_then x (λ n.
        subst (λ c. AskGoes site (record m1 { store = put c l.low m.store }) left (λ a t. all_do inputs body.body a t >>= finishes false)) (add-zero m.cells)
        (write (λ _ a t. all_do inputs body.body a t >>= finishes false) (places.Local 0 0) l.low (now_as (λ a t. ap (λ b. if b then Turn a t else Parts a t) one) n)))

    one_turn : (u : Transcript) (es : List Event) → Children (IsElided p inputs) u → Serial p inputs (next_frame p scope m' (callees.Loop l)) left [] (begun p (callees.Loop l) (counted m')) u es end → ChildEnds E tied m.reducers left end
    one_turn u es inner d =
        after (turn_starts (starts site m1 (begun p (callees.Loop l) (counted m')) left u es inner d
        (record { store = same_begun same.store; cells = ap₂ (λ c b. c + (if b then body.cells else 0)) same.cells (sym one) }) (since_itself tied m.reducers)))
      where
        after : AskGoes site (turned body l.low m) left (λ a t. all_do inputs body.body a t >>= finishes false) → ChildEnds E tied m.reducers left end
        after (Answer n) = turn_ends (all_goes site body.body (loop_body_named p wn l.number) (turned body l.low m) left (finishes false) n)
        after (NoRoom q) = subst (ChildEnds E tied m.reducers left) (sym q) (inr tt)

  -- several turns, in two halves
  module _ (many : int_eq (l.high -ℤ l.low) (pos 1) ≡ false) where
    abbrev pub mid : ℤ
    mid = middle l.low l.high

    abbrev pub first : LoopPart
    first = record { number = l.number; up = 1; low = l.low; high = mid }

    abbrev pub second : LoopPart
    second = record { number = l.number; up = 1; low = mid; high = l.high }

    abbrev pub First : Came → Type 0
    First = ElidesTurns p inputs s l.number l.low (turns_between l.low mid) m

    abbrev pub Second : elision.Memory → Came → Type 0
    Second m1 = ElidesTurns p inputs s l.number mid (turns_between mid l.high) m1

    joined : (m1 : elision.Memory) (r : Came) → First (GoesOn m1) → Second m1 r → E r
    joined m1 r t t' =
        let h = halves l.low l.high below many in
        subst (λ k. ElidesTurns p inputs s l.number l.low k m r) h.sum
        (turns_then (turns_between mid l.high) m1 r t refl (subst (λ v. ElidesTurns p inputs s l.number v (turns_between mid l.high) m1 r) (sym h.from) t'))

    second_ends : (m1 : elision.Memory) → First (GoesOn m1) → (left1 : ℕ) → left1 ≤ left → Comes site (λ r. Stays r × Second m1 r) (suc left1) (finishes false) → ChildEnds E tied m.reducers left end
    second_ends m1 t left1 h (On m2 e left2 h' n) = ended m2 (joined m1 (GoesOn m2) t e.1) (pos 0) left2 (omega arith) (finish site m2 None left2 n)
    second_ends m1 t left1 h (Back v m2 e left2 h' n) = absurd e.0
    second_ends m1 t left1 h (Broken' f e q) = subst (ChildEnds E tied m.reducers left) (sym q) (inl (joined m1 (Faults f) t e.1))
    second_ends m1 t left1 h (Limited f lim q) = subst (ChildEnds E tied m.reducers left) (sym q) (inr lim)

    first_ends : Comes site (λ r. Stays r × First r) (suc left) (λ _ a t. invokes Call (callees.Loop second) a t >>= finishes false) → ChildEnds E tied m.reducers left end
    first_ends (On m1 e left1 h n) =
        let k = halves l.low l.high below many in
        second_ends m1 e.1 left1 (omega arith)
        (child_goes (λ r. Stays r × Second m1 r) Call (callees.Loop second) (finishes false) n
        (λ u es end' ok d. child_stays (Second m1) n.tied m1.reducers left1 end' (ok.loop n.tied m1 n.m' s site.fr.scope left1 es end' second n.same (sees_since sees n.since) k.above d)))
    first_ends (Back v m1 e left1 h n) = absurd e.0
    first_ends (Broken' f e q) =
        let k = halves l.low l.high below many in
        subst (ChildEnds E tied m.reducers left) (sym q) (inl (subst (λ k. ElidesTurns p inputs s l.number l.low k m (Faults f)) k.sum (turns_fail (turns_between mid l.high) f e.1 refl)))
    first_ends (Limited f lim q) = subst (ChildEnds E tied m.reducers left) (sym q) (inr lim)

    halves_go : Now site m left Parts → ChildEnds E tied m.reducers left end
    halves_go n =
        let k = halves l.low l.high below many in
        first_ends (child_goes (λ r. Stays r × First r) Spawn (callees.Loop first) (λ _ a t. invokes Call (callees.Loop second) a t >>= finishes false) n
        (λ u es end' ok d. child_stays First n.tied m.reducers left end' (ok.loop n.tied m n.m' s site.fr.scope left es end' first n.same (sees_since sees n.since) k.below d)))

    halved : (u : Transcript) (es : List Event) → Children (IsElided p inputs) u → Serial p inputs (next_frame p scope m' (callees.Loop l)) left [] (begun p (callees.Loop l) (counted m')) u es end → ChildEnds E tied m.reducers left end
    halved u es inner d =
        after (starts site m (begun p (callees.Loop l) (counted m')) left u es inner d
        (record { store = same_begun same.store; cells = sym (add-zero m.cells) ∙ ap₂ (λ c b. c + (if b then body.cells else 0)) same.cells (sym many) }) (since_itself tied m.reducers))
      where
        after : AskGoes site m left (frame_gives p inputs (callees.Loop l)) → ChildEnds E tied m.reducers left end
        after (Answer n) = halves_go (now_as (λ a t. ap (λ b. if b then Turn a t else Parts a t) many) n)
        after (NoRoom q) = subst (ChildEnds E tied m.reducers left) (sym q) (inr tt)

  pub loop_ends : (u : Transcript) (es : List Event) → Children (IsElided p inputs) u → Serial p inputs (next_frame p scope m' (callees.Loop l)) left [] (begun p (callees.Loop l) (counted m')) u es end → ChildEnds E tied m.reducers left end
  loop_ends u es inner d = by_test (int_eq (l.high -ℤ l.low) (pos 1)) refl
    where
      by_test : (t : Bool) → int_eq (l.high -ℤ l.low) (pos 1) ≡ t → ChildEnds E tied m.reducers left end
      by_test true e = one_turn e u es inner d
      by_test false e = halved e u es inner d
