-- A plan's run has exactly one course on each input: `courses_are_one`.
use Rattle.std.proofs.Common.{◌≡◌, ℤ, Bool, true, false, cond, List, [], ◌∷◌, ◌++◌, Option, Some, refl, sym, ap, ◌∙◌, subst}
use Rattle.cilk_types.specs.declared.invocation.Invocation.{Invocation}
use Rattle.cilk_types.specs.declared.invocation.Invocation.TheVariants.{Call, Spawn}
use Rattle.cilk_monoid.specs.Laws.{MonoidStructure}
use Rattle.cilk_determinacy.specs.Runs.{Cell, same_cell, Instance, same_instance, Wish, Begin, Resume, Create, Update, Set, Value, Print, Ask, Read, Write, Invoke, Sync, End, Pass, Granted, Begins, Resumes, Creates, Updates, Sets, Values, Prints, Event, Reads, Writes, Syncs, Ends, Passes, Deed, Does, Invokes, Run, ask_of, wish_of}
use Rattle.cilk_determinacy.specs.Runs as runs
use Rattle.cilk_determinacy.specs.Machine.{put, mark_of}
use Rattle.cilk_determinacy.specs.Monoids.{on_view, numbers_of}
use Rattle.cilk_determinacy.specs.Serial.{value_after, IsReadRight}
use Rattle.cilk_determinacy.specs.Views.{view_after, IsValueRight, IsViewRight}
use Rattle.cilk_determinacy.proofs.Basics.{same_cell-refl, same_cell-eq, same_instance-refl, same_instance-eq}
use Rattle.cilk_replay.specs.InputCourses.{Course, stop, act, child, run_of, IsMarkLike, IsLike, wishes_for, asks_for, made_by, starts_like, started_by, IsMadeFor, IsStartedFor, IsCourse, event_for, frame_for, course_of, CoursesAreOne}
use Rattle.cilk_replay.proofs.CourseRuns.{like}

-- ---- a request for an event, and what is like an event

wish_like : (m n : Granted) → IsMarkLike m n → wishes_for (wish_of n) m ≡ true
wish_like Begins Begins h = refl
wish_like Resumes Resumes h = refl
wish_like (Creates i) (Creates j) h = subst (λ z. same_instance i z ≡ true) h (same_instance-refl i)
wish_like (Updates i x) (Updates j y) h = subst (λ z. same_instance i z ≡ true) h (same_instance-refl i)
wish_like (Sets i x) (Sets j y) h = subst (λ z. same_instance i z ≡ true) h (same_instance-refl i)
wish_like (Values i x) (Values j y) h = subst (λ z. same_instance i z ≡ true) h (same_instance-refl i)
wish_like (Prints x) (Prints y) h = refl
wish_like m n h = absurd h

ask_like : {W : Type 0} (e x : Event) → IsLike e x → (a : Option (Ask W)) → a ≡ Some (ask_of x) → asks_for a e ≡ true
ask_like {W = W} e x h a q = ap (λ a. asks_for a e) q ∙ by e x h
  where
    by : (e x : Event) → IsLike e x → asks_for {W = W} (Some (ask_of x)) e ≡ true
    by (Reads c v) (Reads d w) h = subst (λ z. same_cell c z ≡ true) h (same_cell-refl c)
    by (Writes c v) (Writes d w) h = subst (λ z. same_cell c z ≡ true) h (same_cell-refl c)
    by Syncs Syncs h = refl
    by (Ends v gone) (Ends w gone') h = refl
    by (Passes m) (Passes n) h = wish_like m n h
    by e x h = absurd h

like_wish : (number : Instance → ℤ) (a : Wish) (m : Granted) → wishes_for a m ≡ true → IsMarkLike m (mark_of number a)
like_wish number Begin Begins h = tt
like_wish number Resume Resumes h = tt
like_wish number (Create i) (Creates j) h = same_instance-eq j i h
like_wish number (Update i x) (Updates j y) h = same_instance-eq j i h
like_wish number (Set i x) (Sets j y) h = same_instance-eq j i h
like_wish number (Value i) (Values j y) h = same_instance-eq j i h
like_wish number (Print x) (Prints y) h = tt
like_wish number a m h = absurd (cc h)

wish_back : (number : Instance → ℤ) (a : Wish) → wish_of (mark_of number a) ≡ a
wish_back number Begin = refl
wish_back number Resume = refl
wish_back number (Create i) = refl
wish_back number (Update i x) = refl
wish_back number (Set i x) = refl
wish_back number (Value i) = refl
wish_back number (Print x) = refl

value_right : {V : Type 0} (M : Instance → MonoidStructure V) (views : Instance → V) (a : Wish) → IsValueRight M (mark_of (numbers_of M views) a) views
value_right M views Begin = tt
value_right M views Resume = tt
value_right M views (Create i) = tt
value_right M views (Update i x) = tt
value_right M views (Set i x) = tt
value_right M views (Value i) = refl
value_right M views (Print x) = tt

-- the event of a request for e
record IsAnswer {W V : Type 0} (M : Instance → MonoidStructure V) (memory : Cell → ℤ) (views : Instance → V) (a : Option (Ask W)) (e e' : Event) : Type 0 where
  kind : IsLike e e'
  asks : a ≡ Some (ask_of e')
  reads : IsReadRight e' memory
  values : IsViewRight M e' views

answer : {W V : Type 0} (M : Instance → MonoidStructure V) (memory : Cell → ℤ) (views : Instance → V) (a : Option (Ask W)) (e : Event) → asks_for a e ≡ true
    → IsAnswer M memory views a e (made_by memory (numbers_of M views) a e)
answer M memory views (Some (Read c)) (Reads d v) h = record { kind = same_cell-eq d c h; asks = refl; reads = refl; values = tt }
answer M memory views (Some (Write c x)) (Writes d v) h = record { kind = same_cell-eq d c h; asks = refl; reads = tt; values = tt }
answer M memory views (Some Sync) Syncs h = record { kind = tt; asks = refl; reads = tt; values = tt }
answer M memory views (Some (End x gone)) (Ends v gone') h = record { kind = tt; asks = refl; reads = tt; values = tt }
answer M memory views (Some (Pass a)) (Passes m) h = record {
  kind = like_wish (numbers_of M views) a m h;
  asks = ap (λ a. Some (Pass a)) (sym (wish_back (numbers_of M views) a));
  reads = tt;
  values = value_right M views a;
}
answer M memory views a e h = absurd (cc h)

-- ---- one answer

same_mark : {V : Type 0} (M : Instance → MonoidStructure V) (views : Instance → V) (m n : Granted) → wish_of m ≡ wish_of n → IsValueRight M m views
    → IsValueRight M n views → m ≡ n
same_mark M views Begins Begins q g h = refl
same_mark M views Resumes Resumes q g h = refl
same_mark M views (Creates i) (Creates j) q g h = let s : i ≡ j = cc q in ap Creates s
same_mark M views (Updates i x) (Updates j y) q g h = let s : i ≡ j = cc q in let t : x ≡ y = cc q in ap (λ i. Updates i x) s ∙ ap (Updates j) t
same_mark M views (Sets i x) (Sets j y) q g h = let s : i ≡ j = cc q in let t : x ≡ y = cc q in ap (λ i. Sets i x) s ∙ ap (Sets j) t
same_mark M views (Values i x) (Values j y) q g h =
    let s : i ≡ j = cc q in
    let t : x ≡ y = g ∙ ap (numbers_of M views) s ∙ sym h in
    ap (λ i. Values i x) s ∙ ap (Values j) t
same_mark M views (Prints x) (Prints y) q g h = let t : x ≡ y = cc q in ap Prints t
same_mark M views m n q g h = absurd (cc q)

pass_inner : (W : Type 0) (a b : Wish) (x y : Ask W) → x ≡ Pass a → y ≡ Pass b → x ≡ y → a ≡ b
pass_inner W a b x y g h q = cc

pub same_event : {W V : Type 0} (M : Instance → MonoidStructure V) (memory : Cell → ℤ) (views : Instance → V) (e x : Event) → ask_of {W = W} e ≡ ask_of x
    → IsReadRight e memory → IsReadRight x memory → IsViewRight M e views → IsViewRight M x views → e ≡ x
same_event M memory views (Reads c v) (Reads d w) q g h k l =
    let s : c ≡ d = cc q in
    let t : v ≡ w = g ∙ ap memory s ∙ sym h in
    ap (λ c. Reads c v) s ∙ ap (Reads d) t
same_event M memory views (Writes c v) (Writes d w) q g h k l = let s : c ≡ d = cc q in let t : v ≡ w = cc q in ap (λ c. Writes c v) s ∙ ap (Writes d) t
same_event M memory views Syncs Syncs q g h k l = refl
same_event M memory views (Ends v gone) (Ends w gone') q g h k l = let s : v ≡ w = cc q in let t : gone ≡ gone' = cc q in ap (λ v. Ends v gone) s ∙ ap (Ends w) t
same_event {W = W} M memory views (Passes m) (Passes n) q g h k l = ap Passes (same_mark M views m n (pass_inner W (wish_of m) (wish_of n) (Pass (wish_of m)) (Pass (wish_of n)) refl refl q) k l)
same_event M memory views e x q g h k l = absurd (cc q)

-- ---- frames that are started

record IsStart {W : Type 0} (same : W → W → Bool) (a : Option (Ask W)) (k : Invocation) (v v' : W) : Type 0 where
  kind : same v v' ≡ true
  asks : a ≡ Some (Invoke k v')

start : {W : Type 0} (same : W → W → Bool) (a : Option (Ask W)) (k : Invocation) (v : W) → starts_like same a k v ≡ true → IsStart same a k v (started_by a v)
start same (Some (Invoke Call x)) Call v h = record { kind = h; asks = refl }
start same (Some (Invoke Spawn x)) Spawn v h = record { kind = h; asks = refl }
start same a k v h = absurd (cc h)

start_like : {W : Type 0} (same : W → W → Bool) (a : Option (Ask W)) (k : Invocation) (v x : W) → same v x ≡ true → a ≡ Some (Invoke k x)
    → starts_like same a k v ≡ true
start_like same a Call v x h q = ap (λ a. starts_like same a Call v) q ∙ h
start_like same a Spawn v x h q = ap (λ a. starts_like same a Spawn v) q ∙ h

module _ (W V : Type 0) (M : Instance → MonoidStructure V) (next : W → List (Deed W) → Option (Ask W)) (same : W → W → Bool) where
  made_for : (w : W) (past : List (Deed W)) (memory : Cell → ℤ) (views : Instance → V) (e : Event) (b : Bool) → asks_for (next w past) e ≡ b
      → IsMadeFor W V M next same w past memory views e (cond b (made_by memory (numbers_of M views) (next w past) e) e) b
  made_for w past memory views e true h =
      let a = answer M memory views (next w past) e h in
      record { like = a.kind; made = λ _. (a.asks, a.reads, a.values); kept = λ z. absurd (cc z); only = λ _ _ _. refl }
  made_for w past memory views e false h = record {
    like = like e;
    made = λ z. absurd (cc z);
    kept = λ _. refl;
    only = λ x l q. sym h ∙ ask_like e x l (next w past) q;
  }

  started_for : ((v : W) → same v v ≡ true) → (w : W) (past : List (Deed W)) (k : Invocation) (v : W) (b : Bool) → starts_like same (next w past) k v ≡ b
      → IsStartedFor W V M next same w past k k v (cond b (started_by (next w past) v) v) b
  started_for known w past k v true h =
      let a = start same (next w past) k v h in
      record { how = refl; fits = a.kind; made = λ _. a.asks; kept = λ z. absurd (cc z); only = λ _ _ _. refl }
  started_for known w past k v false h = record {
    how = refl;
    fits = known v;
    made = λ z. absurd (cc z);
    kept = λ _. refl;
    only = λ x l q. sym h ∙ start_like same (next w past) k v x l q;
  }

  pub is_course : ((v : W) → same v v ≡ true) → (w : W) (past : List (Deed W)) (memory : Cell → ℤ) (views : Instance → V) (t : Run W)
      → IsCourse W V M next same w past memory views t (course_of W V M next same w past memory views t)
  is_course known w past memory views runs.stop = tt
  is_course known w past memory views (runs.act e r) =
      let e' = event_for W V M next same w past memory views e in (
        made_for w past memory views e (asks_for (next w past) e) refl,
        is_course known w (past ++ Does e' ∷ []) (λ c. put e' c (memory c)) (λ i. on_view (M i) i e' (views i)) r,
      )
  is_course known w past memory views (runs.child k v u r) =
      let v' = frame_for W V M next same w past k v in
      let u' = course_of W V M next same v' [] memory views u in (
        started_for known w past k v (starts_like same (next w past) k v) refl,
        is_course known v' [] memory views u,
        is_course known w (past ++ Invokes k v' ∷ []) (λ c. value_after (run_of u') c (memory c)) (λ i. view_after (M i) i (run_of u') (views i)) r,
      )

  some_inner : (a b : Ask W) → Some a ≡ Some b → a ≡ b
  some_inner a b q = cc

  one_made : (w : W) (past : List (Deed W)) (memory : Cell → ℤ) (views : Instance → V) (e x y : Event) (b d : Bool)
      → IsMadeFor W V M next same w past memory views e x b
      → IsMadeFor W V M next same w past memory views e y d → (b ≡ d) × (x ≡ y)
  one_made w past memory views e x y true true g h =
      let a = g.made refl in
      let c = h.made refl in
      (refl, same_event M memory views x y (some_inner (ask_of x) (ask_of y) (sym a.0 ∙ c.0)) a.1 c.1 a.2 c.2)
  one_made w past memory views e x y true false g h = let a = g.made refl in let z : false ≡ true = h.only x g.like a.0 in absurd (cc z)
  one_made w past memory views e x y false true g h = let a = h.made refl in let z : false ≡ true = g.only y h.like a.0 in absurd (cc z)
  one_made w past memory views e x y false false g h = (refl, g.kept refl ∙ sym (h.kept refl))

  one_env : (j k : Invocation) (x y : W) (a : Option (Ask W)) → a ≡ Some (Invoke j x) → a ≡ Some (Invoke k y) → x ≡ y
  one_env j k x y a g h = cc

  one_started : (w : W) (past : List (Deed W)) (k j l : Invocation) (v x y : W) (b d : Bool) → IsStartedFor W V M next same w past k j v x b
      → IsStartedFor W V M next same w past k l v y d → (b ≡ d) × (x ≡ y)
  one_started w past k j l v x y true true g h = (refl, one_env j l x y (next w past) (g.made refl) (h.made refl))
  one_started w past k j l v x y true false g h =
      let z : false ≡ true = h.only x g.fits (subst (λ (i : Invocation). next w past ≡ Some (Invoke i x)) (sym g.how) (g.made refl)) in
      absurd (cc z)
  one_started w past k j l v x y false true g h =
      let z : false ≡ true = g.only y h.fits (subst (λ (i : Invocation). next w past ≡ Some (Invoke i y)) (sym h.how) (h.made refl)) in
      absurd (cc z)
  one_started w past k j l v x y false false g h = (refl, g.kept refl ∙ sym (h.kept refl))

  abbrev of : W → List (Deed W) → (Cell → ℤ) → (Instance → V) → Run W → Course W
  of = course_of W V M next same

  pub one_course : ((v : W) → same v v ≡ true) → (w : W) (past : List (Deed W)) (memory : Cell → ℤ) (views : Instance → V) (t : Run W) (c : Course W)
      → IsCourse W V M next same w past memory views t c → c ≡ of w past memory views t
  one_course known w past memory views runs.stop stop h = refl
  one_course known w past memory views runs.stop (act b e c) h = absurd h
  one_course known w past memory views runs.stop (child b k v u c) h = absurd h
  one_course known w past memory views (runs.act e r) stop h = absurd h
  one_course known w past memory views (runs.act e r) (child b k v u c) h = absurd h
  one_course known w past memory views (runs.act e r) (act b x c) h =
      let y = event_for W V M next same w past memory views e in
      let d = asks_for (next w past) e in
      let one = one_made w past memory views e x y b d h.0 (made_for w past memory views e d refl) in
      let rest = one_course known w (past ++ Does x ∷ []) (λ c. put x c (memory c)) (λ i. on_view (M i) i x (views i)) r c h.1 in
      ap (λ (z : Course W). act b x z) rest
      ∙ ap (λ (z : Bool). act z x (of w (past ++ Does x ∷ []) (λ c. put x c (memory c)) (λ i. on_view (M i) i x (views i)) r)) one.0
      ∙ ap (λ (z : Event). act d z (of w (past ++ Does z ∷ []) (λ c. put z c (memory c)) (λ i. on_view (M i) i z (views i)) r)) one.1
  one_course known w past memory views (runs.child k v u r) stop h = absurd h
  one_course known w past memory views (runs.child k v u r) (act b e c) h = absurd h
  one_course known w past memory views (runs.child k v u r) (child b j x s c) h =
      let y = frame_for W V M next same w past k v in
      let d = starts_like same (next w past) k v in
      let one = one_started w past k j k v x y b d h.0 (started_for known w past k v d refl) in
      let inner = one_course known x [] memory views u s h.1 in
      let rest = one_course known w (past ++ Invokes j x ∷ []) (λ i. value_after (run_of s) i (memory i)) (λ i. view_after (M i) i (run_of s) (views i)) r c h.2 in
      let on = λ (i : Invocation) (z : W) (q : Course W). of w (past ++ Invokes i z ∷ []) (λ c. value_after (run_of q) c (memory c)) (λ c. view_after (M c) c (run_of q) (views c)) r in
      ap (λ (z : Course W). child b j x s z) rest
      ∙ ap (λ (z : Course W). child b j x z (on j x z)) inner
      ∙ ap (λ (z : Bool). child z j x (of x [] memory views u) (on j x (of x [] memory views u))) one.0
      ∙ ap (λ (z : Invocation). child d z x (of x [] memory views u) (on z x (of x [] memory views u))) (sym h.0.how)
      ∙ ap (λ (z : W). child d k z (of z [] memory views u) (on k z (of z [] memory views u))) one.1

pub courses_are_one : (W V : Type 0) (M : Instance → MonoidStructure V) (next : W → List (Deed W) → Option (Ask W)) (same : W → W → Bool)
    → CoursesAreOne W V M next same
courses_are_one W V M next same known w past memory views t =
    (is_course W V M next same known w past memory views t, one_course W V M next same known w past memory views t)
