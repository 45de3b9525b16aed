-- The block of each spawn of a serial run ends.
--
-- - `made_many`: each event of a run by names has a maker;
-- - `ahead`, `behind`: a frame that has yet to make a `sync` makes it, so after each spawn its
--   frame makes one;
-- - `first_sync`: of a frame's `sync`s after a position, one comes first;
-- - `one_end`: the `sync` that ends a block is one;
-- - `blocks_end`: so the block of each spawn of a serial run ends;
-- - `have_continuations`: in the plan of an accepted run each spawn has one continuation.
use Rattle.std.proofs.Common.{◌≡◌, ◌≢◌, ◌⊎◌, inl, inr, ⊎_elim, ℕ, zero, suc, ◌+◌, ◌-◌, ◌<◌, ◌≤◌, List, [], ◌∷◌, ◌++◌, map, length, get_or, Option, Some, None, slice_get, refl, sym, ap, ap₂, ◌∙◌, subst, arith, length-append}
use Rattle.std.proofs.lemmas.Option.{slice_get_within}
use mathlib.Core.Logic.{dite}
use native.Mathlib.Decide.{ℕ_discrete, dec_lt}
use Rattle.cilk_types.specs.declared.event.Event.{Event}
use Rattle.cilk_types.specs.declared.event.Event.TheVariants as events
use Rattle.cilk_program.specs.Outcomes.{Leaves}
use Rattle.cilk_program.specs.SerialRun.{Transcript}
use Rattle.cilk_program.specs.Sources.{source}
use Rattle.cilk_program.specs.Syntax.{Source}
use Rattle.cilk_program.proofs.Closings.{runs_end}
use Rattle.cilk_tree.specs.declared.mark.Mark.TheVariants as mark
use Rattle.cilk_tree.specs.Races.{event_at}
use Rattle.cilk_tree.specs.declared.event_order.EventOrder.{EventOrder}
use Rattle.cilk_tree.specs.Word.{event, predecessors_of}
use Rattle.cilk_tree.proofs.Events.{mark_at, spawn_mark}
use Rattle.cilk_tree.specs.Blocks.{SyncsAt, IsNextSync, EndsBlockOf}
use Rattle.cilk_tree.specs.Frames.{IsInFrame, AreFrames}
use Rattle.cilk_tree.proofs.Continuing.{one_frame}
use Rattle.cilk_tree.proofs.Framed.{begins}
use Rattle.cilk_determinacy.specs.Runs.{Name, Begins, Resumes, Creates, Updates, Sets, Values, Prints, Reads, Writes, Syncs, Ends, Passes, Run, stop, act, child}
use Rattle.cilk_determinacy.specs.Runs as runs
use Rattle.cilk_determinacy.specs.Serial.{SyncAhead}
use Rattle.cilk_determinacy.specs.FrameEnvs.{FrameEnv, first_env}
use Rattle.cilk_determinacy.specs.Nested.{named}
use Rattle.cilk_determinacy.specs.Numbers.{frame_number, numbered_event, numbered_events}
use Rattle.cilk_determinacy.proofs.Numbered.{events_numbered}
use Rattle.cilk_determinacy.proofs.Shapes.{IsSynced, synced}
use Rattle.cilk_determinacy.proofs.Strands.{spell_one_shape}
use Rattle.cilk_replay.specs.Owned.{makers, maker_numbers}
use Rattle.cilk_replay.proofs.Owned.{in_their_frames}
use Rattle.cilk_plan.specs.Continuations.{BlocksOfSpawnsEnd, PlansHaveContinuations}

-- ---- events and their makers, side by side

-- a frame makes a `sync`
record SyncOf (name : Name) (es : List Event) (ms : List Name) : Type 0 where
  place : ℕ
  sync : slice_get es place ≡ Some events.Sync
  made : slice_get ms place ≡ Some name

-- the maker of the event at i makes a `sync` after it
record SyncBehind (es : List Event) (ms : List Name) (i : ℕ) : Type 0 where
  place : ℕ
  later : i < place
  sync : slice_get es place ≡ Some events.Sync
  made : slice_get ms place ≡ slice_get ms i

abbrev EachSpawn : List Event → List Name → Type 0
EachSpawn es ms = (i n : ℕ) → slice_get es i ≡ Some (events.Spawn n) → SyncBehind es ms i

sync_later : (name : Name) (es : List Event) (ms : List Name) (e : Event) (m : Name) → SyncOf name es ms → SyncOf name (e ∷ es) (m ∷ ms)
sync_later name es ms e m h = record { place = suc h.place; sync = h.sync; made = h.made }

sync_beyond : (name : Name) (es es' : List Event) (ms ms' : List Name) → length ms ≡ length es → SyncOf name es' ms' → SyncOf name (es ++ es') (ms ++ ms')
sync_beyond name [] es' [] ms' long h = h
sync_beyond name (e ∷ es) es' (m ∷ ms) ms' long h = sync_later name (es ++ es') (ms ++ ms') e m (sync_beyond name es es' ms ms' (cc long) h)
sync_beyond name [] es' (m ∷ ms) ms' long h = absurd (cc long)
sync_beyond name (e ∷ es) es' [] ms' long h = absurd (cc long)

behind_later : (es : List Event) (ms : List Name) (e : Event) (m : Name) (i : ℕ) → SyncBehind es ms i → SyncBehind (e ∷ es) (m ∷ ms) (suc i)
behind_later es ms e m i h = let l = h.later in record { place = suc h.place; later = omega (arith, l); sync = h.sync; made = h.made }

get_left : {X : Type 0} (xs ys : List X) (i : ℕ) → i < length xs → slice_get (xs ++ ys) i ≡ slice_get xs i
get_left [] ys i less = absurd (omega (arith, less))
get_left (x ∷ xs) ys zero less = refl
get_left (x ∷ xs) ys (suc i) less = get_left xs ys i (omega (arith, less))

-- the first part's spawns, by its own `sync`s
behind_left : (es es' : List Event) (ms ms' : List Name) (i : ℕ) → length ms ≡ length es → SyncBehind es ms i → SyncBehind (es ++ es') (ms ++ ms') i
behind_left es es' ms ms' i long h =
    let within = slice_get_within es h.place events.Sync h.sync in
    let l = h.later in
    record {
      place = h.place;
      later = h.later;
      sync = get_left es es' h.place within ∙ h.sync;
      made = get_left ms ms' h.place (omega (arith, within, long)) ∙ h.made ∙ sym (get_left ms ms' i (omega (arith, within, long, l)));
    }

both : (es es' : List Event) (ms ms' : List Name) → length ms ≡ length es → EachSpawn es' ms'
    → (i n : ℕ) → ((n : ℕ) → slice_get es i ≡ Some (events.Spawn n) → SyncBehind es ms i)
    → slice_get (es ++ es') i ≡ Some (events.Spawn n) → SyncBehind (es ++ es') (ms ++ ms') i
both [] es' [] ms' long each i n left is = each i n is
both [] es' (m ∷ ms) ms' long each i n left is = absurd (cc long)
both (e ∷ es) es' [] ms' long each i n left is = absurd (cc long)
both (e ∷ es) es' (m ∷ ms) ms' long each zero n left is = behind_left (e ∷ es) es' (m ∷ ms) ms' zero long (left n is)
both (e ∷ es) es' (m ∷ ms) ms' long each (suc i) n left is = dite (dec_lt i (length es))
    (λ (less : i < length es). behind_left (e ∷ es) es' (m ∷ ms) ms' (suc i) long (left n (sym (get_left es es' i less) ∙ is)))
    (λ past. behind_later (es ++ es') (ms ++ ms') e m i
    (both es es' ms ms' (cc long) each i n (λ n' is'. absurd (let within = slice_get_within es i (events.Spawn n') is' in omega (arith, within, past))) is))

-- ---- of a run by names

module _ (p : Source) (r : Transcript) where
  made_many : (name : Name) (t : Run FrameEnv) → length (makers name t) ≡ length (numbered_events p r name t)
  made_many name stop = refl
  made_many name (act e t) = ap suc (made_many name t)
  made_many name (child k w u t) =
      ap suc (length-append (makers w.name u) (makers name t) ∙ ap₂ (λ (a b : ℕ). a + b) (made_many w.name u) (made_many name t)
      ∙ sym (length-append (numbered_events p r w.name u) (numbered_events p r name t)))

  ahead : (name : Name) (t : Run FrameEnv) → SyncAhead t → SyncOf name (numbered_events p r name t) (makers name t)
  ahead name stop h = absurd h
  ahead name (act Syncs t) h = record { place = 0; sync = refl; made = refl }
  ahead name (act (Reads c v) t) h = sync_later name _ _ _ _ (ahead name t h)
  ahead name (act (Writes c v) t) h = sync_later name _ _ _ _ (ahead name t h)
  ahead name (act (Ends v gone) t) h = sync_later name _ _ _ _ (ahead name t h)
  ahead name (act (Passes m) t) h = sync_later name _ _ _ _ (ahead name t h)
  ahead name (child k w u t) h =
      sync_later name _ _ _ _ (sync_beyond name (numbered_events p r w.name u) (numbered_events p r name t) (makers w.name u) (makers name t) (made_many w.name u) (ahead name t h))

  no_spawn : (name : Name) (e : runs.Event) (n : ℕ) → numbered_event p r name e ≡ events.Spawn n → ⊥
  no_spawn name (Reads c v) n is = cc is
  no_spawn name (Writes c v) n is = cc is
  no_spawn name Syncs n is = cc is
  no_spawn name (Ends v gone) n is = cc is
  no_spawn name (Passes Begins) n is = cc is
  no_spawn name (Passes Resumes) n is = cc is
  no_spawn name (Passes (Creates i)) n is = cc is
  no_spawn name (Passes (Updates i x)) n is = cc is
  no_spawn name (Passes (Sets i x)) n is = cc is
  no_spawn name (Passes (Values i x)) n is = cc is
  no_spawn name (Passes (Prints x)) n is = cc is

  behind : (name : Name) (t : Run FrameEnv) → IsSynced t → EachSpawn (numbered_events p r name t) (makers name t)
  behind name stop h i n is = absurd (let z : None ≡ Some (events.Spawn n) = is in cc z)
  behind name (act e t) h zero n is = absurd (no_spawn name e n (let z : Some (numbered_event p r name e) ≡ Some (events.Spawn n) = is in cc z))
  behind name (act e t) h (suc i) n is = behind_later _ _ _ _ i (behind name t h i n is)
  behind name (child k w u t) h zero n is =
      let s = sync_beyond name (numbered_events p r w.name u) (numbered_events p r name t) (makers w.name u) (makers name t) (made_many w.name u) (ahead name t h.0) in
      record { place = suc s.place; later = omega arith; sync = s.sync; made = s.made }
  behind name (child k w u t) h (suc i) n is =
      behind_later _ _ _ _ i
      (both (numbered_events p r w.name u) (numbered_events p r name t) (makers w.name u) (makers name t) (made_many w.name u) (behind name t h.2) i n (λ n' is'. behind w.name u h.1 i n' is') is)

-- ---- by numbers

abbrev number_or : (f : Name → ℕ) → Option Name → ℕ
number_or f None = 0
number_or f (Some m) = f m

number_at : (f : Name → ℕ) (ms : List Name) (i : ℕ) → get_or (map f ms) i 0 ≡ number_or f (slice_get ms i)
number_at f [] i = refl
number_at f (m ∷ ms) zero = refl
number_at f (m ∷ ms) (suc i) = number_at f ms i

one_behind : (i : ℕ) → i + 1 - 1 ≡ i
one_behind i = omega arith

-- ---- the first one

abbrev is_sync : Option Event → ℕ
is_sync (Some events.Sync) = 1
is_sync o = 0

sync_told : (o : Option Event) → is_sync o ≡ 1 → o ≡ Some events.Sync
sync_told (Some events.Sync) is = refl
sync_told o is = absurd (cc is)

module _ (es : List Event) (frames : List ℕ) (are : AreFrames es frames) (g : ℕ) where
  in_frame : (q : ℕ) → 1 ≤ q → event_at es q ≡ Some events.Sync → IsInFrame es q (get_or frames (q - 1) 0)
  in_frame q first is =
      let within = slice_get_within es (q - 1) events.Sync is in
      let same : q - 1 + 1 ≡ q = omega (arith, first) in
      subst (λ (x : ℕ). IsInFrame es x (get_or frames (q - 1) 0)) same (are.each (q - 1) within)

  decided : (q : ℕ) → 1 ≤ q → SyncsAt es g q ⊎ (SyncsAt es g q → ⊥)
  decided q first = dite (ℕ_discrete (is_sync (event_at es q)) 1)
      (λ (told : is_sync (event_at es q) ≡ 1).
      let is = sync_told (event_at es q) told in
      let inside = in_frame q first is in
      dite (ℕ_discrete (get_or frames (q - 1) 0) g)
      (λ (same : get_or frames (q - 1) 0 ≡ g). inl (is, subst (IsInFrame es q) same inside))
      (λ (other : get_or frames (q - 1) 0 ≢ g). inr (λ h. other (one_frame es q (get_or frames (q - 1) 0) g inside h.1))))
      (λ (none : is_sync (event_at es q) ≢ 1). inr (λ h. none (ap is_sync h.0)))

  first_sync : (k p n q : ℕ) → p ≡ q + n → k < q → SyncsAt es g p → ((x : ℕ) → k < x → x < q → SyncsAt es g x → ⊥) → (x : ℕ) × IsNextSync es g k x
  first_sync k p zero q at less is none =
      let same : p ≡ q = omega (arith, at) in (q, record { later = less; syncs = subst (SyncsAt es g) same is; first = λ x lt lt' h. none x lt lt' h })
  first_sync k p (suc n) q at less is none = ⊎_elim
      (λ (here : SyncsAt es g q). (q, record { later = less; syncs = here; first = λ x lt lt' h. none x lt lt' h }))
      (λ (apart : SyncsAt es g q → ⊥). first_sync k p n (suc q) (omega (arith, at)) (omega (arith, less)) is
      (λ x lt lt' h. dite (ℕ_discrete x q)
      (λ (same : x ≡ q). apart (subst (SyncsAt es g) same h))
      (λ (other : x ≢ q). none x lt (omega (arith, lt', other)) h)))
      (decided q (omega (arith, less)))

-- the `sync` that ends a block is one
pub one_end : (es : List Event) (k p q : ℕ) → EndsBlockOf es k p → EndsBlockOf es k q → p ≡ q
one_end es k p q h g =
    let other : IsNextSync es h.0 k q = subst (λ (f : ℕ). IsNextSync es f k q) (one_frame es k g.0 h.0 g.1 h.1) g.2 in
    dite (ℕ_discrete p q)
    (λ (same : p ≡ q). same)
    (λ (apart : p ≢ q). dite (dec_lt p q)
    (λ (less : p < q). absurd (other.first p h.2.later less h.2.syncs))
    (λ past. absurd (h.2.first q other.later (omega (arith, apart, past)) other.syncs)))

-- ---- of a serial run

pub blocks_end : BlocksOfSpawnsEnd
blocks_end p inputs r es outcome well run zero n is =
    let one = spell_one_shape p inputs r es outcome run in
    let first = begins one.shape es one.spells in
    absurd (let z : Some (events.Spawn n) ≡ Some (events.Begin first.0) = sym is ∙ first.1 in cc z)
blocks_end p inputs r es outcome well run (suc k) n is =
    let same_place : suc k - 1 ≡ k = omega arith in
    let at : slice_get es k ≡ Some (events.Spawn n) = subst (λ (j : ℕ). slice_get es j ≡ Some (events.Spawn n)) same_place is in
    let e = events_numbered p inputs r es (Leaves outcome) well run in
    let owned = in_their_frames p inputs r es outcome well run in
    let number = frame_number p r in
    let ms = makers [] (named p r) in
    let each : EachSpawn es ms = subst (λ (l : List Event). EachSpawn l ms) (sym e.events) (behind p r [] (named p r) (synced p (first_env p) 1 r (runs_end p inputs r es (Leaves outcome) run))) in
    let b = each k n at in
    let l = b.later in
    let within = slice_get_within es b.place events.Sync b.sync in
    let here = slice_get_within es k (events.Spawn n) at in
    let g : ℕ = get_or (map number ms) k 0 in
    let same : get_or (map number ms) b.place 0 ≡ g = number_at number ms b.place ∙ ap (number_or number) b.made ∙ sym (number_at number ms k) in
    let syncs : SyncsAt es g (b.place + 1) =
    (ap (λ (j : ℕ). slice_get es j) (one_behind b.place) ∙ b.sync, subst (IsInFrame es (b.place + 1)) same (owned.each.each b.place within)) in
    let next = first_sync es (maker_numbers p r) owned.each g (suc k) (b.place + 1) (b.place - suc k) (suc (suc k)) (omega (arith, l)) (omega arith) syncs
    (λ x lt lt' h. absurd (omega (arith, lt, lt'))) in
    let one : k + 1 ≡ suc k = omega arith in
    (next.0, (g, subst (λ (j : ℕ). IsInFrame es j g) one (owned.each.each k here), next.1))

-- ---- of an accepted run

spawned_event : (o : Option Event) → mark_at o ≡ mark.Spawn → (n : ℕ) × (o ≡ Some (events.Spawn n))
spawned_event (Some (events.Spawn n)) is = (n, refl)
spawned_event o is = absurd (cc is)

pub have_continuations : PlansHaveContinuations
have_continuations a s run is law k spawned =
    let ran = run.1.ended.ran in
    let same : s.events ≡ a.trace = ap (λ (x : EventOrder). x.events) is.event_order in
    let at = spawned_event (event s k) (spawn_mark s.events k (event s k) (predecessors_of s k) spawned) in
    let block = blocks_end (source a.program) a.input ran.run a.trace a.outcome a.program.well_named ran.serial k at.0 (subst (λ (es : List Event). event_at es k ≡ Some (events.Spawn at.0)) same at.1) in
    let ends : EndsBlockOf s.events k block.0 = subst (λ (es : List Event). EndsBlockOf es k block.0) (sym same) block.1 in
    let back = law.returns k spawned in
    record {
      continuation = record { resume = back.0; sync = block.0 };
      is = record { resumes = back.1; ends = ends };
      one = λ c h. ap₂ (λ (x y : ℕ). record { resume = x; sync = y }) (law.once c.resume back.0 k h.resumes back.1) (one_end s.events k c.sync block.0 h.ends ends);
    }
