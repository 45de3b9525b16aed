-- What a `sync` awaits, along a run by names.
--
-- - `size`, `line`, `long_size`: the events of a part of a run, and its line;
-- - `IsNamed`, `are_named`: a child's name is longer than its parent's;
-- - `Shows`, `At`, `at_lists`: the part's events and their makers are at these positions;
-- - `within`: each position of a part has a maker of the run, whose name is no shorter;
-- - `Owed`: a child that a frame's block awaits, whose `end` is at a position;
-- - `awaits`: each `end` that a `sync` awaits, but for the event right before it, is owed there.
use Rattle.std.proofs.Common.{◌≡◌, ◌≢◌, ⊎_elim, ℕ, zero, suc, ◌+◌, ◌<◌, ◌≤◌, List, [], ◌∷◌, ◌++◌, length, Option, Some, None, slice_get, refl, sym, ap, ◌∙◌, subst, arith, length-append}
use mathlib.Core.Logic.{dite}
use native.Mathlib.Decide.{dec_lt, ℕ_discrete}
use Rattle.cilk_types.specs.declared.event.Event.{Event}
use Rattle.cilk_types.specs.declared.event.Event.TheVariants as events
use Rattle.cilk_types.specs.declared.invocation.Invocation.{Invocation}
use Rattle.cilk_types.specs.declared.invocation.Invocation.TheVariants as invocations
use Rattle.cilk_program.specs.SerialRun.{Transcript}
use Rattle.cilk_program.specs.SerialRun as serial
use Rattle.cilk_program.specs.Syntax.{Source}
use Rattle.cilk_tree.specs.Reach.{Among, awaited, resumed_from}
use Rattle.cilk_tree.proofs.Lines.{Line, plain, line_of, long, Laid}
use Rattle.cilk_tree.proofs.Reaches.{among_first, among_none, among_one, among_split}
use Rattle.cilk_determinacy.specs.Runs.{Name, Begins, Resumes, Creates, Updates, Sets, Values, Prints, Reads, Writes, Syncs, Ends, Passes, Run, stop, act, child}
use Rattle.cilk_determinacy.specs.FrameEnvs.{FrameEnv, child_env}
use Rattle.cilk_determinacy.specs.Nested.{named_from}
use Rattle.cilk_determinacy.specs.Numbers.{AreHere, IsHere, frame_number, numbered_event, numbered_events, start_event}
use Rattle.cilk_determinacy.specs.Traces.{Due, begin_due, resume_due, neither_due, IsFramed, shape_of}
use Rattle.cilk_replay.specs.Owned.{makers}

-- ---- parts of a run

abbrev pub size : Run FrameEnv → ℕ
size stop = 0
size (act e t) = suc (size t)
size (child k w u t) = suc (size u + size t)

-- the line of a part, with its `begin` or `resume`
abbrev pub line : Due → Run FrameEnv → Line
line begin_due t = plain (line_of (shape_of t))
line resume_due t = plain (line_of (shape_of t))
line neither_due t = line_of (shape_of t)

pub long_size : (d : Due) (t : Run FrameEnv) → IsFramed d t → long (line d t) ≡ size t
long_size begin_due (act (Passes Begins) t) f = ap suc (long_size neither_due t f)
long_size resume_due (act (Passes Resumes) t) f = ap suc (long_size neither_due t f)
long_size neither_due (act (Reads c v) t) f = ap suc (long_size neither_due t f)
long_size neither_due (act (Writes c v) t) f = ap suc (long_size neither_due t f)
long_size neither_due (act Syncs t) f = ap suc (long_size neither_due t f)
long_size neither_due (act (Ends v gone) t) f = ap (λ (z : Run FrameEnv). suc (size z)) (sym f)
long_size neither_due (act (Passes (Creates i)) t) f = ap suc (long_size neither_due t f)
long_size neither_due (act (Passes (Updates i x)) t) f = ap suc (long_size neither_due t f)
long_size neither_due (act (Passes (Sets i x)) t) f = ap suc (long_size neither_due t f)
long_size neither_due (act (Passes (Values i x)) t) f = ap suc (long_size neither_due t f)
long_size neither_due (act (Passes (Prints x)) t) f = ap suc (long_size neither_due t f)
long_size neither_due (child k w u t) f = let inner = long_size begin_due u f.0 in let rest = long_size resume_due t f.1 in omega (arith, inner, rest)
long_size d t f = absurd f

-- a child's name is longer than its parent's
abbrev pub IsNamed : Name → Run FrameEnv → Type 0
IsNamed name stop = Unit {0}
IsNamed name (act e t) = IsNamed name t
IsNamed name (child k w u t) = (length w.name ≡ suc (length name)) × IsNamed w.name u × IsNamed name t

pub are_named : (p : Source) (w : FrameEnv) (k : ℕ) (r : Transcript) → IsNamed w.name (named_from p w k r)
are_named p w k serial.stop = tt
are_named p w k (serial.act a v r) = are_named p w k r
are_named p w k (serial.child how callee u r) =
    let longer = length-append w.name (k ∷ []) in
    (omega (arith, longer), are_named p (child_env p w k callee) 1 u, are_named p w (suc k) r)

-- ---- positions

module _ {A : Type 0} where
  -- the list is at the positions from o on
  abbrev pub Shows : (ℕ → Option A) → ℕ → List A → Type 0
  Shows g o xs = (i : ℕ) (x : A) → slice_get xs i ≡ Some x → g (o + i) ≡ Some x

  shows_first : (g : ℕ → Option A) (o : ℕ) (x : A) (xs : List A) → Shows g o (x ∷ xs) → g o ≡ Some x
  shows_first g o x xs h = let z : o ≡ o + 0 = omega arith in ap g z ∙ h 0 x refl

  shows_rest : (g : ℕ → Option A) (o : ℕ) (x : A) (xs : List A) → Shows g o (x ∷ xs) → Shows g (suc o) xs
  shows_rest g o x xs h i y is = let z : suc o + i ≡ o + suc i = omega arith in ap g z ∙ h (suc i) y is

  get_left : (xs ys : List A) (i : ℕ) (x : A) → slice_get xs i ≡ Some x → slice_get (xs ++ ys) i ≡ Some x
  get_left [] ys i x is = absurd (let z : None ≡ Some x = is in cc z)
  get_left (a ∷ xs) ys zero x is = is
  get_left (a ∷ xs) ys (suc i) x is = get_left xs ys i x is

  get_right : (xs ys : List A) (i j : ℕ) → j ≡ length xs + i → slice_get (xs ++ ys) j ≡ slice_get ys i
  get_right [] ys i j is = let z : j ≡ i = omega (arith, is) in ap (slice_get ys) z
  get_right (a ∷ xs) ys i zero is = absurd (omega (arith, is))
  get_right (a ∷ xs) ys i (suc j) is = get_right xs ys i j (omega (arith, is))

  shows_left : (g : ℕ → Option A) (o : ℕ) (xs ys : List A) → Shows g o (xs ++ ys) → Shows g o xs
  shows_left g o xs ys h i x is = h i x (get_left xs ys i x is)

  shows_right : (g : ℕ → Option A) (o n : ℕ) (xs ys : List A) → length xs ≡ n → Shows g o (xs ++ ys) → Shows g (o + n) ys
  shows_right g o n xs ys many h i x is =
      let z : o + n + i ≡ o + (length xs + i) = omega (arith, many) in
      ap g z ∙ h (length xs + i) x (get_right xs ys i (length xs + i) refl ∙ is)

pub many_makers : (name : Name) (t : Run FrameEnv) → length (makers name t) ≡ size t
many_makers name stop = refl
many_makers name (act e t) = ap suc (many_makers name t)
many_makers name (child k w u t) =
    let both = length-append (makers w.name u) (makers name t) in
    let inner = many_makers w.name u in
    let rest = many_makers name t in
    omega (arith, both, inner, rest)

module _ (p : Source) (r : Transcript) where
  pub many_events : (name : Name) (t : Run FrameEnv) → length (numbered_events p r name t) ≡ size t
  many_events name stop = refl
  many_events name (act e t) = ap suc (many_events name t)
  many_events name (child k w u t) =
      let both = length-append (numbered_events p r w.name u) (numbered_events p r name t) in
      let inner = many_events w.name u in
      let rest = many_events name t in
      omega (arith, both, inner, rest)

  module _ (ev : ℕ → Option Event) (mk : ℕ → Option Name) where
    -- the part's events and their makers are at the positions from o on
    abbrev pub At : Name → Run FrameEnv → ℕ → Type 0
    At name stop o = Unit {0}
    At name (act e t) o = (ev o ≡ Some (numbered_event p r name e)) × (mk o ≡ Some name) × At name t (suc o)
    At name (child k w u t) o =
        (ev o ≡ Some (start_event k (frame_number p r w.name))) × (mk o ≡ Some name) × At w.name u (suc o) × At name t (suc (o + size u))

    pub at_lists : (name : Name) (t : Run FrameEnv) (o : ℕ) → Shows ev o (numbered_events p r name t) → Shows mk o (makers name t) → At name t o
    at_lists name stop o h g = tt
    at_lists name (act e t) o h g = (
      shows_first ev o _ _ h,
      shows_first mk o _ _ g,
      at_lists name t (suc o) (shows_rest ev o _ _ h) (shows_rest mk o _ _ g),
    )
    at_lists name (child k w u t) o h g =
        let es = numbered_events p r w.name u in
        let ms = makers w.name u in
        let h' = shows_rest ev o _ (es ++ numbered_events p r name t) h in
        let g' = shows_rest mk o _ (ms ++ makers name t) g in
        let z : suc o + size u ≡ suc (o + size u) = omega arith in (
          shows_first ev o _ (es ++ numbered_events p r name t) h,
          shows_first mk o _ (ms ++ makers name t) g,
          at_lists w.name u (suc o) (shows_left ev (suc o) es _ h') (shows_left mk (suc o) ms _ g'),
          subst (At name t) z
              (at_lists name t (suc o + size u) (shows_right ev (suc o) (size u) es _ (many_events w.name u) h') (shows_right mk (suc o) (size u) ms _ (many_makers w.name u) g')),
        )

    -- the maker of the event at a position is a frame of the run, whose name is no shorter
    pub record MadeBelow (name : Name) (x : ℕ) : Type 0 where
      pub maker : Name
      pub made : mk x ≡ Some maker
      pub no_shorter : length name ≤ length maker
      pub here : IsHere p r maker

    pub within : (name : Name) (t : Run FrameEnv) (o : ℕ) → IsNamed name t → IsHere p r name → AreHere p r t → At name t o → (x : ℕ) → o ≤ x → x < o + size t → MadeBelow name x
    within name stop o nm here all at x le lt = absurd (omega (arith, le, lt))
    within name (act e t) o nm here all at x le lt = dite (ℕ_discrete x o)
        (λ (same : x ≡ o). record { maker = name; made = ap mk same ∙ at.1; no_shorter = omega arith; here = here })
        (λ (other : x ≢ o). within name t (suc o) nm here all.1 at.2 x (omega (arith, le, other)) (omega (arith, lt)))
    within name (child k w u t) o nm here all at x le lt = dite (ℕ_discrete x o)
        (λ (same : x ≡ o). record { maker = name; made = ap mk same ∙ at.1; no_shorter = omega arith; here = here })
        (λ (other : x ≢ o). dite (dec_lt x (suc (o + size u)))
        (λ (inner : x < suc (o + size u)).
        let b = within w.name u (suc o) nm.1 all.0 all.1 at.2 x (omega (arith, le, other)) (omega (arith, inner)) in
        let longer = nm.0 in
        let l = b.no_shorter in
        record { maker = b.maker; made = b.made; no_shorter = omega (arith, longer, l); here = b.here })
        (λ past. within name t (suc (o + size u)) nm.2 here all.2 at.3 x (omega (arith, past)) (omega (arith, lt))))

    module _ (f : ℕ → List ℕ) where
      -- At o the block of the frame of this name awaits a child whose `end` is at e. The frame has
      -- spawned it, and no `sync` came since.
      pub record Owed (name : Name) (o e : ℕ) : Type 0 where
        pub spawn_at : ℕ
        pub ahead : spawn_at < o
        pub number : ℕ
        pub spawned : ev spawn_at ≡ Some (events.Spawn number)
        pub made : mk spawn_at ≡ Some name
        pub none : (x : ℕ) → spawn_at < x → x < o → ev x ≡ Some events.Sync → mk x ≡ Some name → ⊥
        pub parent : ℕ
        pub resumes : ev (suc e) ≡ Some (events.Resume parent)
        pub alone : f (suc e) ≡ spawn_at ∷ []

      abbrev AreOwed : Name → ℕ → List ℕ → Type 0
      AreOwed name o ends = (e : ℕ) → Among e ends → Owed name o e

      -- the maker of the `sync` at q awaits the child there
      pub record Found (q e : ℕ) : Type 0 where
        pub maker : Name
        pub made : mk q ≡ Some maker
        pub owed : Owed maker q e

      abbrev Near : Due → List ℕ → ℕ → Type 0
      Near neither_due prev o = (e : ℕ) → Among e prev → e + 1 ≡ o
      Near d prev o = Unit {0}

      abbrev Awaits : ℕ → ℕ → Type 0
      Awaits o n = (q e : ℕ) → o ≤ q → q < o + n → ev q ≡ Some events.Sync → Among e (f q) → (e + 1 ≡ q → ⊥) → Found q e

      near_one : (o : ℕ) → Near neither_due (o ∷ []) (suc o)
      near_one o e a = let same = among_one a in omega (arith, same)

      none_owed : (name : Name) (o : ℕ) → AreOwed name o []
      none_owed name o e a = absurd (among_none a)

      -- after events between, among which the frame has no `sync`
      later : (name : Name) (o o' e : ℕ) → o ≤ o' → ((x : ℕ) → o ≤ x → x < o' → ev x ≡ Some events.Sync → mk x ≡ Some name → ⊥) → Owed name o e → Owed name o' e
      later name o o' e le quiet h =
          let less = h.ahead in
          record {
            spawn_at = h.spawn_at;
            ahead = omega (arith, le, less);
            number = h.number;
            spawned = h.spawned;
            made = h.made;
            none = λ x low high is made. dite (dec_lt x o) (λ (before : x < o). h.none x low before is made) (λ past. quiet x (omega (arith, past)) high is made);
            parent = h.parent;
            resumes = h.resumes;
            alone = h.alone;
          }

      no_sync : (o x : ℕ) (e : Event) → ev o ≡ Some e → (e ≡ events.Sync → ⊥) → x ≡ o → ev x ≡ Some events.Sync → ⊥
      no_sync o x e at not same is = not (let z : Some e ≡ Some events.Sync = sym at ∙ ap ev (sym same) ∙ is in cc z)

      -- an event of the frame that is no `sync`
      acts : (name : Name) (o n : ℕ) (ends : List ℕ) (x : Event) → ev o ≡ Some x → (x ≡ events.Sync → ⊥) → AreOwed name o ends → (AreOwed name (suc o) ends → Awaits (suc o) n) → Awaits o (suc n)
      acts name o n ends x at not owed go q e le lt is am far = dite (ℕ_discrete q o)
          (λ (same : q ≡ o). absurd (no_sync o q x at not same is))
          (λ (other : q ≢ o). go
          (λ d a. later name o (suc o) d (omega arith) (λ y low high there made. no_sync o y x at not (omega (arith, low, high)) there) (owed d a))
          q e (omega (arith, le, other)) (omega (arith, lt)) is am far)

      resumes_first : (name : Name) (t : Run FrameEnv) (o : ℕ) → IsFramed resume_due t → At name t o → (n : ℕ) × (ev o ≡ Some (events.Resume n))
      resumes_first name (act (Passes Resumes) t) o fr at = (frame_number p r name, at.0)
      resumes_first name t o fr at = absurd fr

      start_not : (k : Invocation) (n : ℕ) → start_event k n ≡ events.Sync → ⊥
      start_not invocations.Call n is = cc is
      start_not invocations.Spawn n is = cc is

      -- after a child the frame's block awaits what it awaited, and a spawned child too
      child_owed : (name : Name) (k : Invocation) (w : FrameEnv) (u t : Run FrameEnv) (o : ℕ) (ends : List ℕ) → IsNamed name (child k w u t) → IsHere p r name → AreHere p r (child k w u t)
          → IsFramed resume_due t → At name (child k w u t) o → f (suc (o + size u)) ≡ resumed_from k o (o + size u) → AreOwed name o ends
          → AreOwed name (suc (o + size u)) (awaited k (o + size u) ends)
      child_owed name k w u t o ends nm here all fr at ahead owed = by k at.0 ahead
        where
          below : (x : ℕ) → o < x → x < suc (o + size u) → mk x ≡ Some name → ⊥
          below x low high made =
              let b = within w.name u (suc o) nm.1 all.0 all.1 at.2 x low (omega (arith, high)) in
              let longer = nm.0 in
              let l = b.no_shorter in
              let same : b.maker ≡ name = (let z : Some b.maker ≡ Some name = sym b.made ∙ made in cc z) in
              let even : length b.maker ≡ length name = ap length same in
              omega (arith, longer, l, even)

          quiet : (x : ℕ) → o ≤ x → x < suc (o + size u) → ev x ≡ Some events.Sync → mk x ≡ Some name → ⊥
          quiet x low high is made = dite (ℕ_discrete x o)
              (λ (same : x ≡ o). no_sync o x _ at.0 (start_not k (frame_number p r w.name)) same is)
              (λ (other : x ≢ o). below x (omega (arith, low, other)) high made)

          before : (e : ℕ) → Among e ends → Owed name (suc (o + size u)) e
          before e a = later name o (suc (o + size u)) e (omega arith) quiet (owed e a)

          by : (how : Invocation) → ev o ≡ Some (start_event how (frame_number p r w.name)) → f (suc (o + size u)) ≡ resumed_from how o (o + size u) → AreOwed name (suc (o + size u)) (awaited how (o + size u) ends)
          by invocations.Call is after e a = before e a
          by invocations.Spawn is after e a = ⊎_elim
              (λ (same : e ≡ o + size u).
              let back = resumes_first name t (suc (o + size u)) fr at.3 in
              record {
                spawn_at = o;
                ahead = omega arith;
                number = frame_number p r w.name;
                spawned = is;
                made = at.1;
                none = λ x low high there made. below x low high made;
                parent = back.0;
                resumes = ap (λ (x : ℕ). ev (suc x)) same ∙ back.1;
                alone = ap (λ (x : ℕ). f (suc x)) same ∙ after;
              })
              (λ (rest : Among e ends). before e rest)
              (among_first (o + size u) ends a)

      pub awaits : (d : Due) (t : Run FrameEnv) (name : Name) (o : ℕ) (prev ends : List ℕ) → IsFramed d t → IsNamed name t → IsHere p r name → AreHere p r t → At name t o → Laid f (line d t) o prev ends
          → Near d prev o → AreOwed name o ends → Awaits o (size t)
      awaits begin_due (act (Passes Begins) t) name o prev ends fr nm here all at laid near owed =
          acts name o (size t) ends _ at.0 (λ z. cc z) owed (awaits neither_due t name (suc o) (o ∷ []) ends fr nm here all.1 at.2 laid.1 (near_one o))
      awaits resume_due (act (Passes Resumes) t) name o prev ends fr nm here all at laid near owed =
          acts name o (size t) ends _ at.0 (λ z. cc z) owed (awaits neither_due t name (suc o) (o ∷ []) ends fr nm here all.1 at.2 laid.1 (near_one o))
      awaits neither_due (act (Reads c v) t) name o prev ends fr nm here all at laid near owed =
          acts name o (size t) ends _ at.0 (λ z. cc z) owed (awaits neither_due t name (suc o) (o ∷ []) ends fr nm here all.1 at.2 laid.1 (near_one o))
      awaits neither_due (act (Writes c v) t) name o prev ends fr nm here all at laid near owed =
          acts name o (size t) ends _ at.0 (λ z. cc z) owed (awaits neither_due t name (suc o) (o ∷ []) ends fr nm here all.1 at.2 laid.1 (near_one o))
      awaits neither_due (act (Passes (Creates i)) t) name o prev ends fr nm here all at laid near owed =
          acts name o (size t) ends _ at.0 (λ z. cc z) owed (awaits neither_due t name (suc o) (o ∷ []) ends fr nm here all.1 at.2 laid.1 (near_one o))
      awaits neither_due (act (Passes (Updates i x)) t) name o prev ends fr nm here all at laid near owed =
          acts name o (size t) ends _ at.0 (λ z. cc z) owed (awaits neither_due t name (suc o) (o ∷ []) ends fr nm here all.1 at.2 laid.1 (near_one o))
      awaits neither_due (act (Passes (Sets i x)) t) name o prev ends fr nm here all at laid near owed =
          acts name o (size t) ends _ at.0 (λ z. cc z) owed (awaits neither_due t name (suc o) (o ∷ []) ends fr nm here all.1 at.2 laid.1 (near_one o))
      awaits neither_due (act (Passes (Values i x)) t) name o prev ends fr nm here all at laid near owed =
          acts name o (size t) ends _ at.0 (λ z. cc z) owed (awaits neither_due t name (suc o) (o ∷ []) ends fr nm here all.1 at.2 laid.1 (near_one o))
      awaits neither_due (act (Passes (Prints x)) t) name o prev ends fr nm here all at laid near owed =
          acts name o (size t) ends _ at.0 (λ z. cc z) owed (awaits neither_due t name (suc o) (o ∷ []) ends fr nm here all.1 at.2 laid.1 (near_one o))
      awaits neither_due (act (Ends v gone) t) name o prev ends fr nm here all at laid near owed = λ q e le lt is am far.
          let none : size t ≡ 0 = ap size fr in
          absurd (no_sync o q _ at.0 (λ z. cc z) (omega (arith, le, lt, none)) is)
      awaits neither_due (act Syncs t) name o prev ends fr nm here all at laid near owed = λ q e le lt is am far. dite (ℕ_discrete q o)
          (λ (same : q ≡ o). ⊎_elim
          (λ (before : Among e prev). absurd (far (near e before ∙ sym same)))
          (λ (owes : Among e ends). record { maker = name; made = ap mk same ∙ at.1; owed = subst (λ (x : ℕ). Owed name x e) (sym same) (owed e owes) })
          (among_split prev ends (subst (λ (es : List ℕ). Among e es) (ap f same ∙ laid.0) am)))
          (λ (other : q ≢ o). awaits neither_due t name (suc o) (o ∷ []) [] fr nm here all.1 at.2 laid.1 (near_one o) (none_owed name (suc o)) q e (omega (arith, le, other)) (omega (arith, lt)) is am far)
      awaits neither_due (child k w u t) name o prev ends fr nm here all at laid near owed = λ q e le lt is am far. dite (ℕ_discrete q o)
          (λ (same : q ≡ o). absurd (no_sync o q _ at.0 (start_not k (frame_number p r w.name)) same is))
          (λ (other : q ≢ o). dite (dec_lt q (suc (o + size u)))
          (λ (inner : q < suc (o + size u)).
          awaits begin_due u w.name (suc o) (o ∷ []) [] fr.0 nm.1 all.0 all.1 at.2 laid.1 tt (none_owed w.name (suc o)) q e (omega (arith, le, other)) (omega (arith, inner)) is am far)
          (λ past.
          let rest = subst (λ (n : ℕ). Laid f (line resume_due t) (suc (o + n)) (resumed_from k o (o + n)) (awaited k (o + n) ends)) (long_size begin_due u fr.0) laid.2 in
          awaits resume_due t name (suc (o + size u)) (resumed_from k o (o + size u)) (awaited k (o + size u) ends) fr.1 nm.2 here all.2 at.3 rest tt
          (child_owed name k w u t o ends nm here all fr.1 at rest.0 owed) q e (omega (arith, past)) (omega (arith, lt)) is am far))
      awaits d t name o prev ends fr nm here all at laid near owed = absurd fr
