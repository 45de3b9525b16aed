-- The blocks and resumptions of a plan, found in one pass.
--
-- - `one_next`, `next_on`: a frame's next `sync` after a position;
-- - `next_spawn`, `next_resume`, `next_sync`, `next_plain`: the next event by its kind;
-- - `met_first`, `met_plain`, `met_known`, `met_new`, `met_resume`, `met_end`, `met_sync`: the columns
--   at the start and after an event of each sort;
-- - `block_listed`: a frame's block that has yet to end is listed;
-- - `ends_last`, `firsts_last`, `blocks_last`, `resumed_last`: the columns after all events.
use Rattle.std.proofs.Common.{◌≡◌, ◌≢◌, ◌↔◌, ◌⊎◌, inl, inr, ℕ, zero, suc, ◌+◌, ◌-◌, ◌<◌, ◌≤◌, List, [], ◌∷◌, ◌++◌, length, get_or, set, Option, Some, None, slice_get, refl, sym, ap, ◌∙◌, subst, arith, length-append, length-set, get_or-set_same, get_or-set_other}
use Rattle.std.proofs.lemmas.Option.{slice_get_within}
use Rattle.std.proofs.lemmas.List.{get_or_past}
use mathlib.Core.Logic.{dite}
use native.Mathlib.Decide.{ℕ_discrete, dec_lt}
use Rattle.cilk_types.specs.declared.event.Event.{Event}
use Rattle.cilk_types.specs.declared.event.Event.TheVariants as events
use Rattle.cilk_tree.specs.declared.event_order.EventOrder.{EventOrder}
use Rattle.cilk_tree.specs.Orders.{IsOrderly}
use Rattle.cilk_tree.specs.Word.{WordEvent, event, predecessors_of, plain, read, write, spawn, resume, finish, word_event, word_step, IsWord}
use Rattle.cilk_tree.specs.Frames.{IsInFrame}
use Rattle.cilk_tree.specs.Blocks.{EndsBlockOf, IsNextSync, SyncsAt}
use Rattle.cilk_tree.specs.Resumptions.{AreResumptions}
use Rattle.cilk_tree.specs.declared.kind.Kind.{Kind}
use Rattle.cilk_tree.specs.declared.kind.Kind.TheVariants as kinds
use Rattle.cilk_tree.specs.Kinds.{kind_behind, kind_of_event}
use Rattle.cilk_tree.proofs.Continuing.{kind_there, not_resume, not_spawn, not_sync_kind, one_frame, sync_kind}
use Rattle.cilk_tree.specs.Columns.{AreBlockEnds, AreBlocks, AreFirstSpawns, BlocksEnd, IsFirstSpawn, IsOfBlock, IsSpawnOf, no_block}
use Rattle.cilk_tree.specs.Placing.{AreListed, AreMarked, AreOpened, AreResumed, HasMet, IsPlaced}

-- ---- lists

pushed_here : (l : List ℕ) (x : ℕ) → slice_get (l ++ x ∷ []) (length l) ≡ Some x
pushed_here [] x = refl
pushed_here (y ∷ l) x = pushed_here l x

pushed_old : (l : List ℕ) (x k y : ℕ) → slice_get l k ≡ Some y → slice_get (l ++ x ∷ []) k ≡ Some y
pushed_old [] x k y is = absurd (let c : None ≡ Some y = is in cc c)
pushed_old (z ∷ l) x zero y is = is
pushed_old (z ∷ l) x (suc k) y is = pushed_old l x k y is

pushed_cases : (l : List ℕ) (x k y : ℕ) → slice_get (l ++ x ∷ []) k ≡ Some y → (slice_get l k ≡ Some y) ⊎ ((k ≡ length l) × (y ≡ x))
pushed_cases [] x zero y is = inr (refl, let c : Some x ≡ Some y = is in cc c)
pushed_cases [] x (suc k) y is = absurd (let c : None ≡ Some y = is in cc c)
pushed_cases (z ∷ l) x zero y is = inl is
pushed_cases (z ∷ l) x (suc k) y is = elim (pushed_cases l x k y is) [ inl old ↦ inl old | inr new ↦ inr (ap suc new.0, new.1) ]

set_here : (l : List ℕ) (k x : ℕ) → k < length l → slice_get (set l k x) k ≡ Some x
set_here [] k x less = absurd (omega (arith, less))
set_here (y ∷ l) zero x less = refl
set_here (y ∷ l) (suc k) x less = set_here l k x (omega (arith, less))

set_off : (l : List ℕ) (k x j : ℕ) → j ≢ k → slice_get (set l k x) j ≡ slice_get l j
set_off [] k x j off = refl
set_off (y ∷ l) zero x zero off = absurd (off refl)
set_off (y ∷ l) zero x (suc j) off = refl
set_off (y ∷ l) (suc k) x zero off = refl
set_off (y ∷ l) (suc k) x (suc j) off = set_off l k x j (λ same. off (ap suc same))

same_lists : (xs ys : List ℕ) → length xs ≡ length ys → ((b y : ℕ) → slice_get ys b ≡ Some y → slice_get xs b ≡ Some y) → xs ≡ ys
same_lists [] [] long same = refl
same_lists [] (y ∷ ys) long same = absurd (cc long)
same_lists (x ∷ xs) [] long same = absurd (cc long)
same_lists (x ∷ xs) (y ∷ ys) long same =
    let head : Some x ≡ Some y = same 0 y refl in
    let first : x ≡ y = cc head in
    let rest : xs ≡ ys = same_lists xs ys (cc long) (λ b z. same (suc b) z) in
    cc

-- ---- a frame's next `sync`

one_next : (es : List Event) (f n p q : ℕ) → IsNextSync es f n p → IsNextSync es f n q → p ≡ q
one_next es f n p q a b = dite (dec_lt p q)
    (λ (less : p < q). absurd (b.first p a.later less a.syncs))
    (λ past. dite (dec_lt q p)
    (λ (less : q < p). absurd (a.first q b.later less b.syncs))
    (λ past'. omega (arith, past, past')))

-- the same after the event at m, where that is none of the frame's `sync`s
next_on : (es : List Event) (f n m p : ℕ) → m ≡ n + 1 → (SyncsAt es f m → ⊥) → IsNextSync es f n p → IsNextSync es f m p
next_on es f n m p at none h = record {
  later = dite (ℕ_discrete p m)
      (λ (same : p ≡ m). absurd (none (subst (SyncsAt es f) same h.syncs)))
      (λ (apart : p ≢ m). let l = h.later in omega (arith, l, apart, at));
  syncs = h.syncs;
  first = λ q lt less is. h.first q (omega (arith, lt, at)) less is;
}

next_back : (es : List Event) (f n m p : ℕ) → m ≡ n + 1 → (SyncsAt es f m → ⊥) → IsNextSync es f m p → IsNextSync es f n p
next_back es f n m p at none h = record {
  later = let l = h.later in omega (arith, l, at);
  syncs = h.syncs;
  first = λ q lt less is. dite (ℕ_discrete q m)
      (λ (same : q ≡ m). none (subst (SyncsAt es f) same is))
      (λ (apart : q ≢ m). h.first q (omega (arith, lt, apart, at)) less is);
}

-- ---- sorts of events

is_spawn : (w : WordEvent) → (w ≡ spawn) ⊎ (w ≢ spawn)
is_spawn spawn = inl refl
is_spawn plain = inr (λ e. cc e)
is_spawn (read c n) = inr (λ e. cc e)
is_spawn (write c n) = inr (λ e. cc e)
is_spawn (resume k) = inr (λ e. cc e)
is_spawn finish = inr (λ e. cc e)

sync_step : (s : EventOrder) (p : ℕ) → event s p ≡ Some events.Sync → word_step s p ≡ plain
sync_step s p is = ap (λ (o : Option Event). word_event s.events p o (predecessors_of s p)) is

ends_sync : (s : EventOrder) (k q : ℕ) → EndsBlockOf s.events k q → event s q ≡ Some events.Sync
ends_sync s k q h = let next = h.2 in let at = next.syncs in at.0

no_resume : (s : EventOrder) (p k : ℕ) → event s p ≡ Some events.Sync → word_step s p ≡ resume k → ⊥
no_resume s p k is told = let z : plain ≡ resume k = sym (sync_step s p is) ∙ told in cc z

no_spawn : (s : EventOrder) (p : ℕ) → event s p ≡ Some events.Sync → word_step s p ≡ spawn → ⊥
no_spawn s p is told = let z : plain ≡ spawn = sym (sync_step s p is) ∙ told in cc z

one_end : (s : EventOrder) (k p q : ℕ) → EndsBlockOf s.events k p → EndsBlockOf s.events k q → p ≡ q
one_end s k p q h g = one_next s.events h.0 k p q h.2 (subst (λ (f : ℕ). IsNextSync s.events f k q) (one_frame s.events k g.0 h.0 g.1 h.1) g.2)

spawn_kind : (es : List Event) (p : ℕ) (o : Option Event) (ps : List ℕ) (f : ℕ) → kind_of_event o ≡ Some (kinds.Spawn f) → word_event es p o ps ≡ spawn
spawn_kind es p (Some (events.Spawn g)) ps f is = refl
spawn_kind es p o ps f is = absurd (cc is)

-- the kind at i + 1, by what comes after i events
kind_next : (s : EventOrder) (i : ℕ) (kind : Kind) → kind_behind s i ≡ Some kind → kind_of_event (event s (i + 1)) ≡ Some kind
kind_next s i kind behind =
    let place : i + 1 - 1 ≡ i = omega arith in
    ap (λ (n : ℕ). kind_of_event (slice_get s.events n)) place ∙ (sym (kind_there s.events i) ∙ behind)

pub next_spawn : (s : EventOrder) (i f : ℕ) (kind : Kind) → kind_behind s i ≡ Some kind → kind ≡ kinds.Spawn f → word_step s (i + 1) ≡ spawn
next_spawn s i f kind behind sort = spawn_kind s.events (i + 1) (event s (i + 1)) (predecessors_of s (i + 1)) f (kind_next s i kind behind ∙ ap Some sort)

pub next_resume : (s : EventOrder) (i f : ℕ) (kind : Kind) → kind_behind s i ≡ Some kind → kind ≡ kinds.Resume f → (word_step s (i + 1) ≢ spawn) × (event s (i + 1) ≢ Some events.Sync)
next_resume s i f kind behind sort =
    let h = kind_next s i kind behind ∙ ap Some sort in (
      not_spawn s.events (i + 1) (event s (i + 1)) (predecessors_of s (i + 1)) (kinds.Resume f) h (λ g e. cc e),
      not_sync_kind (event s (i + 1)) (kinds.Resume f) h (λ e. cc e),
    )

pub next_sync : (s : EventOrder) (i : ℕ) (kind : Kind) → kind_behind s i ≡ Some kind → kind ≡ kinds.Sync → event s (i + 1) ≡ Some events.Sync
next_sync s i kind behind sort = sync_kind (event s (i + 1)) (kind_next s i kind behind ∙ ap Some sort)

pub next_plain : (s : EventOrder) (i : ℕ) (kind : Kind) → kind_behind s i ≡ Some kind → ((f : ℕ) → kind ≢ kinds.Spawn f) → ((f : ℕ) → kind ≢ kinds.Resume f) → kind ≢ kinds.Sync
    → (word_step s (i + 1) ≢ spawn) × (event s (i + 1) ≢ Some events.Sync) × ((k : ℕ) → word_step s (i + 1) ≡ resume k → ⊥)
next_plain s i kind behind no_spawn no_resume no_sync =
    let h = kind_next s i kind behind in (
      not_spawn s.events (i + 1) (event s (i + 1)) (predecessors_of s (i + 1)) kind h no_spawn,
      not_sync_kind (event s (i + 1)) kind h no_sync,
      not_resume s.events (i + 1) (event s (i + 1)) (predecessors_of s (i + 1)) kind h no_resume,
    )

module _ (s : EventOrder) (law : IsOrderly s) where
  resume_inside : (p k : ℕ) → word_step s p ≡ resume k → (1 ≤ p) × (p ≤ length s.events)
  resume_inside p k is = law.inside p (subst IsWord (sym is) tt)

  spawn_ahead : (p k : ℕ) → word_step s p ≡ resume k → k < p
  spawn_ahead p k is = law.earlier p k (law.resumed p k is).1

  pub resume_within : (p k : ℕ) → word_step s p ≡ resume k → (k < length s.events + 1) × (p < length s.events + 1)
  resume_within p k is = let l = (resume_inside p k is).1 in let less = spawn_ahead p k is in (omega (arith, l, less), omega (arith, l))

  pub spawn_place : (k : ℕ) → word_step s k ≡ spawn → (1 ≤ k) × (k ≤ length s.events)
  spawn_place k is = law.inside k (subst IsWord (sym is) tt)

  two_spawns : (p j k : ℕ) → word_step s p ≡ resume j → word_step s p ≡ resume k → j ≡ k
  two_spawns p j k a b = let z : resume j ≡ resume k = sym a ∙ b in cc z

  module _ (n m : ℕ) (at : m ≡ n + 1) (within : m ≤ length s.events) where
    few_below : (l : ℕ) → l ≤ n → l < no_block
    few_below l less = let few = law.few in omega (arith, few, less, at, within)

    module _ (ends pending : List ℕ) (so_far : AreOpened s n ends pending) where
      listed_few : (b q : ℕ) → slice_get ends b ≡ Some q → b ≢ no_block
      listed_few b q is same = let w = slice_get_within ends b q is in let few = so_far.few in let l = few_below (length ends) few in omega (arith, w, l, same)

      listed_sync : (b q : ℕ) → slice_get ends b ≡ Some q → event s q ≡ Some events.Sync
      listed_sync b q is = let k = (so_far.all q).1 (b, is) in ends_sync s k.0 q k.2.ends

      all_on : ((q : ℕ) → IsSpawnOf s q m → ⊥) → (q : ℕ) → ((k : ℕ) × (k ≤ m) × IsSpawnOf s q k) ↔ ((b : ℕ) × (slice_get ends b ≡ Some q))
      all_on none q = (
        λ h. dite (ℕ_discrete h.0 m)
            (λ (same : h.0 ≡ m). absurd (none q (subst (IsSpawnOf s q) same h.2)))
            (λ (other : h.0 ≢ m). (so_far.all q).0 (h.0, let l = h.1 in omega (arith, l, other, at), h.2)),
        λ h. let k = (so_far.all q).1 h in (k.0, let l = k.1 in omega (arith, l, at), k.2),
      )

      opened_on : word_step s m ≢ spawn → event s m ≢ Some events.Sync → AreOpened s m ends pending
      opened_on none other = record {
        all = all_on (λ q h. none h.spawns);
        once = so_far.once;
        order = so_far.order;
        few = let l = so_far.few in omega (arith, l, at);
        stands = λ f b q e less is. so_far.stands f b q e (omega (arith, less, at)) is;
        next = λ f some. let h = so_far.next f some in (h.0, h.1, next_on s.events f n m h.0 at (λ x. other x.0) h.2);
      }

      -- the frame's `sync` is at m
      opened_sync : (f : ℕ) (pending' : List ℕ) → SyncsAt s.events f m → get_or pending' f no_block ≡ no_block
          → ((g : ℕ) → g ≢ f → get_or pending' g no_block ≡ get_or pending g no_block) → AreOpened s m ends pending'
      opened_sync f pending' is here others = record {
        all = all_on (λ q h. no_spawn s m is.0 h.spawns);
        once = so_far.once;
        order = so_far.order;
        few = let l = so_far.few in omega (arith, l, at);
        stands = λ g b q e less syncs. dite (ℕ_discrete g f)
            (λ (same : g ≡ f).
            let told : get_or pending g no_block ≡ b = so_far.stands g b q e (omega (arith, less, at)) syncs in
            let some : get_or pending g no_block ≢ no_block = (λ z. listed_few b q e (sym told ∙ z)) in
            let h = so_far.next g some in
            let two : Some h.0 ≡ Some q = sym h.1 ∙ (ap (slice_get ends) told ∙ e) in
            let one : h.0 ≡ q = cc two in
            absurd (h.2.first m (omega (arith, at)) (omega (arith, one, less)) (subst (λ (x : ℕ). SyncsAt s.events x m) (sym same) is)))
            (λ (apart : g ≢ f). others g apart ∙ so_far.stands g b q e (omega (arith, less, at)) syncs);
        next = λ g some. dite (ℕ_discrete g f)
            (λ (same : g ≡ f). absurd (some (ap (λ (x : ℕ). get_or pending' x no_block) same ∙ here)))
            (λ (apart : g ≢ f).
            let kept = others g apart in
            let h = so_far.next g (λ z. some (kept ∙ z)) in
            (h.0, ap (slice_get ends) kept ∙ h.1, next_on s.events g n m h.0 at (λ x. apart (one_frame s.events m g f x.1 is.1)) h.2));
      }

      -- the block that the frame's `sync` at m ends
      pub block_ended : (f : ℕ) → SyncsAt s.events f m → get_or pending f no_block ≢ no_block → slice_get ends (get_or pending f no_block) ≡ Some m
      block_ended f is some =
          let h = so_far.next f some in
          let same : h.0 ≡ m = dite (ℕ_discrete h.0 m)
          (λ (one : h.0 ≡ m). one)
          (λ (apart : h.0 ≢ m). let l = h.2.later in absurd (h.2.first m (omega (arith, at)) (omega (arith, l, at, apart)) is)) in
          h.1 ∙ ap Some same

      none_ended : (f : ℕ) → SyncsAt s.events f m → get_or pending f no_block ≡ no_block → (b : ℕ) → slice_get ends b ≡ Some m → ⊥
      none_ended f is none b e = listed_few b m e (sym (so_far.stands f b m e (omega (arith, at)) is) ∙ none)

      -- the spawn of the frame at m, whose block ends at q
      module _ (f q : ℕ) (spawns : word_step s m ≡ spawn) (inside : IsInFrame s.events m f) (ends_at : EndsBlockOf s.events m q) where
        here_next : IsNextSync s.events f m q
        here_next = subst (λ (x : ℕ). IsNextSync s.events x m q) (one_frame s.events m ends_at.0 f ends_at.1 inside) ends_at.2

        before_next : IsNextSync s.events f n q
        before_next = next_back s.events f n m q at (λ x. no_spawn s m x.0 spawns) here_next

        of_block : IsSpawnOf s q m
        of_block = record { spawns = spawns; ends = ends_at }

        next_at : (g : ℕ) (p : ℕ) → IsNextSync s.events g n p → IsNextSync s.events g m p
        next_at g p h = next_on s.events g n m p at (λ x. no_spawn s m x.0 spawns) h

        known_listed : get_or pending f no_block ≢ no_block → slice_get ends (get_or pending f no_block) ≡ Some q
        known_listed some = let h = so_far.next f some in h.1 ∙ ap Some (one_next s.events f n h.0 q h.2 before_next)

        opened_known : get_or pending f no_block ≢ no_block → AreOpened s m ends pending
        opened_known some = record {
          all = λ p. (
            λ h. dite (ℕ_discrete h.0 m)
                (λ (same : h.0 ≡ m).
                let here : IsSpawnOf s p m = subst (IsSpawnOf s p) same h.2 in
                (get_or pending f no_block, known_listed some ∙ ap Some (one_end s m q p ends_at here.ends)))
                (λ (other : h.0 ≢ m). (so_far.all p).0 (h.0, let l = h.1 in omega (arith, l, other, at), h.2)),
            λ h. let k = (so_far.all p).1 h in (k.0, let l = k.1 in omega (arith, l, at), k.2),
          );
          once = so_far.once;
          order = so_far.order;
          few = let l = so_far.few in omega (arith, l, at);
          stands = λ g b p e less is. so_far.stands g b p e (omega (arith, less, at)) is;
          next = λ g some. let h = so_far.next g some in (h.0, h.1, next_at g h.0 h.2);
        }

        new_unlisted : get_or pending f no_block ≡ no_block → (b : ℕ) → slice_get ends b ≡ Some q → ⊥
        new_unlisted none b e = listed_few b q e (sym (so_far.stands f b q e before_next.later before_next.syncs) ∙ none)

        first_here : get_or pending f no_block ≡ no_block → IsFirstSpawn s q m
        first_here none = record {
          spawns = of_block;
          least = λ k is. dite (dec_lt k m)
              (λ (less : k < m). absurd (let there = (so_far.all q).0 (k, omega (arith, less, at), is) in new_unlisted none there.0 there.1))
              (λ past. omega (arith, past));
        }

        begun_new : (firsts : List ℕ) → AreFirstSpawns s ends firsts → get_or pending f no_block ≡ no_block → AreFirstSpawns s (ends ++ q ∷ []) (firsts ++ m ∷ [])
        begun_new firsts h none = record {
          count = let a = length-append firsts (m ∷ []) in let b = length-append ends (q ∷ []) in let many = h.count in omega (arith, a, b, many);
          each = λ b p k e e'. elim (pushed_cases ends q b p e) [
            | inl old ↦ elim (pushed_cases firsts m b k e') [
              | inl old' ↦ h.each b p k old old'
              | inr new' ↦ absurd (let w = slice_get_within ends b p old in let z = new'.0 in let many = h.count in omega (arith, w, z, many))
            ]
            | inr new ↦ elim (pushed_cases firsts m b k e') [
              | inl old' ↦ absurd (let w = slice_get_within firsts b k old' in let z = new.0 in let many = h.count in omega (arith, w, z, many))
              | inr new' ↦ subst (λ (z : ℕ × ℕ). IsFirstSpawn s z.0 z.1) (λ i. (sym new.1 i, sym new'.1 i)) (first_here none)
            ]
          ];
        }

        opened_new : (pending' : List ℕ) → get_or pending f no_block ≡ no_block → IsPlaced pending f (length ends) pending' → AreOpened s m (ends ++ q ∷ []) pending'
        opened_new pending' none placed = record {
          all = λ p. (
            λ h. dite (ℕ_discrete h.0 m)
                (λ (same : h.0 ≡ m).
                let here : IsSpawnOf s p m = subst (IsSpawnOf s p) same h.2 in
                (length ends, pushed_here ends q ∙ ap Some (one_end s m q p ends_at here.ends)))
                (λ (other : h.0 ≢ m). let l = h.1 in let old = (so_far.all p).0 (h.0, omega (arith, l, other, at), h.2) in (old.0, pushed_old ends q old.0 p old.1)),
            λ h. elim (pushed_cases ends q h.0 p h.1) [
              | inl old ↦ (let k = (so_far.all p).1 (h.0, old) in (k.0, let l = k.1 in omega (arith, l, at), k.2))
              | inr new ↦ (m, omega arith, subst (λ (x : ℕ). IsSpawnOf s x m) (sym new.1) of_block)
            ],
          );
          once = λ b b' p e e'. elim (pushed_cases ends q b p e) [
            | inl old ↦ elim (pushed_cases ends q b' p e') [
              | inl old' ↦ so_far.once b b' p old old'
              | inr new' ↦ absurd (new_unlisted none b (old ∙ ap Some new'.1))
            ]
            | inr new ↦ elim (pushed_cases ends q b' p e') [
              | inl old' ↦ absurd (new_unlisted none b' (old' ∙ ap Some new.1))
              | inr new' ↦ new.0 ∙ sym new'.0
            ]
          ];
          order = λ b b' p p' k' less e e' is. elim (pushed_cases ends q b' p' e') [
            | inl old' ↦ elim (pushed_cases ends q b p e) [
              | inl old ↦ so_far.order b b' p p' k' less old old' is
              | inr new ↦ absurd (let w = slice_get_within ends b' p' old' in let z = new.0 in omega (arith, less, w, z))
            ]
            | inr new' ↦ elim (pushed_cases ends q b p e) [
              | inl old ↦ (
                  let k = (so_far.all p).1 (b, old) in
                  let late : n < k' = dite (dec_lt n k')
                  (λ (l : n < k'). l)
                  (λ past. absurd (let there = (so_far.all q).0 (k', omega (arith, past), subst (λ (x : ℕ). IsSpawnOf s x k') new'.1 is) in new_unlisted none there.0 there.1)) in
                  (k.0, let l = k.1 in omega (arith, l, late), k.2))
              | inr new ↦ absurd (let y = new.0 in let z = new'.0 in omega (arith, less, y, z))
            ]
          ];
          few = let l = so_far.few in let long = length-append ends (q ∷ []) in omega (arith, l, at, long);
          stands = λ g b p e less is. elim (pushed_cases ends q b p e) [
            | inl old ↦ dite (ℕ_discrete g f)
                (λ (same : g ≡ f). absurd (listed_few b p old
                (sym (so_far.stands g b p old (omega (arith, less, at)) is) ∙ (ap (λ (x : ℕ). get_or pending x no_block) same ∙ none))))
                (λ (apart : g ≢ f). placed.others g apart ∙ so_far.stands g b p old (omega (arith, less, at)) is)
            | inr new ↦ (
                let syncs : SyncsAt s.events g q = subst (SyncsAt s.events g) new.1 is in
                let same : g ≡ f = one_frame s.events q g f syncs.1 here_next.syncs.1 in
                ap (λ (x : ℕ). get_or pending' x no_block) same ∙ (placed.here ∙ sym new.0))
          ];
          next = λ g some. dite (ℕ_discrete g f)
              (λ (same : g ≡ f).
              let now : get_or pending' g no_block ≡ length ends = ap (λ (x : ℕ). get_or pending' x no_block) same ∙ placed.here in
              (q, ap (slice_get (ends ++ q ∷ [])) now ∙ pushed_here ends q, subst (λ (x : ℕ). IsNextSync s.events x m q) (sym same) here_next))
              (λ (apart : g ≢ f).
              let kept = placed.others g apart in
              let h = so_far.next g (λ z. some (kept ∙ z)) in
              (h.0, ap (slice_get (ends ++ q ∷ [])) kept ∙ pushed_old ends q _ h.0 h.1, next_at g h.0 h.2));
        }

    -- ---- the list of `sync`s

    listed_on : (ends syncs : List ℕ) → AreListed n ends syncs → ((b : ℕ) → slice_get ends b ≡ Some m → ⊥) → AreListed m ends syncs
    listed_on ends syncs h none = record {
      many = h.many;
      met = λ b q e less. dite (ℕ_discrete q m)
          (λ (same : q ≡ m). absurd (none b (e ∙ ap Some same)))
          (λ (other : q ≢ m). h.met b q e (omega (arith, less, other, at)));
    }

    listed_put : (ends syncs : List ℕ) (b : ℕ) → AreListed n ends syncs → ((b b' q : ℕ) → slice_get ends b ≡ Some q → slice_get ends b' ≡ Some q → b ≡ b') → slice_get ends b ≡ Some m
        → AreListed m ends (set syncs b m)
    listed_put ends syncs b h once is = record {
      many = length-set syncs b m ∙ h.many;
      met = λ b' q e less. dite (ℕ_discrete b' b)
          (λ (same : b' ≡ b).
          let two : Some m ≡ Some q = sym is ∙ (ap (slice_get ends) (sym same) ∙ e) in
          let one : m ≡ q = cc two in
          let w = slice_get_within ends b m is in let many = h.many in
          ap (slice_get (set syncs b m)) same ∙ (set_here syncs b m (omega (arith, w, many)) ∙ ap Some one))
          (λ (off : b' ≢ b). set_off syncs b m b' off ∙ h.met b' q e (dite (ℕ_discrete q m)
          (λ (same : q ≡ m). absurd (off (once b' b m (e ∙ ap Some same) is)))
          (λ (other : q ≢ m). omega (arith, less, other, at))));
    }

    listed_push : (ends syncs : List ℕ) (q x : ℕ) → AreListed n ends syncs → ((b : ℕ) → slice_get ends b ≡ Some m → ⊥) → m < q → AreListed m (ends ++ q ∷ []) (syncs ++ x ∷ [])
    listed_push ends syncs q x h none later = record {
      many = let a = length-append ends (q ∷ []) in let b = length-append syncs (x ∷ []) in let many = h.many in omega (arith, a, b, many);
      met = λ b p e less. elim (pushed_cases ends q b p e) [
        | inl old ↦ pushed_old syncs x b p ((listed_on ends syncs h none).met b p old less)
        | inr new ↦ absurd (let z = new.1 in omega (arith, less, later, z))
      ];
    }

    -- ---- the column of blocks

    marked_on : (ends column : List ℕ) → AreMarked s n ends column → ((b q : ℕ) → slice_get ends b ≡ Some q → IsOfBlock s q m → ⊥) → AreMarked s m ends column
    marked_on ends column h none = record {
      exact = λ p b q e. (
        λ v. let o = (h.exact p b q e).0 v in (let l = o.0 in omega (arith, l, at), o.1),
        λ o. (h.exact p b q e).1 (
          dite (ℕ_discrete p m)
              (λ (same : p ≡ m). absurd (none b q e (subst (IsOfBlock s q) same o.1)))
              (λ (other : p ≢ m). let l = o.0 in omega (arith, l, other, at)),
          o.1,
        ),
      );
      others = h.others;
      places = h.places;
    }

    marked_put : (ends column : List ℕ) (b q : ℕ) → AreMarked s n ends column → slice_get ends b ≡ Some q → IsOfBlock s q m
        → ((b' q' : ℕ) → slice_get ends b' ≡ Some q' → IsOfBlock s q' m → b ≡ b') → AreMarked s m ends (set column m b)
    marked_put ends column b q h is of one = record {
      exact = λ p b' q' e. dite (ℕ_discrete p m)
          (λ (on : p ≡ m).
          let now : get_or (set column m b) p no_block ≡ b = ap (λ (x : ℕ). get_or (set column m b) x no_block) on ∙ here in (
            λ v. (
              omega (arith, on),
              let same : b ≡ b' = sym now ∙ v in
                  let two : Some q ≡ Some q' = sym is ∙ (ap (slice_get ends) same ∙ e) in
                  let same' : q ≡ q' = cc two in
                  subst (λ (x : ℕ). IsOfBlock s x p) same' (subst (IsOfBlock s q) (sym on) of),
            ),
            λ o. now ∙ one b' q' e (subst (IsOfBlock s q') on o.1),
          ))
          (λ (off : p ≢ m).
          let kept : get_or (set column m b) p no_block ≡ get_or column p no_block = get_or-set_other column m p b no_block off in (
            λ v. let o = (h.exact p b' q' e).0 (sym kept ∙ v) in (let l = o.0 in omega (arith, l, at), o.1),
            λ o. kept ∙ (h.exact p b' q' e).1 (let l = o.0 in omega (arith, l, off, at), o.1),
          ));
      others = λ p. dite (ℕ_discrete p m)
          (λ (on : p ≡ m). inl (let now : get_or (set column m b) p no_block ≡ b = ap (λ (x : ℕ). get_or (set column m b) x no_block) on ∙ here in
          let w = slice_get_within ends b q is in omega (arith, now, w)))
          (λ (off : p ≢ m).
          let kept : get_or (set column m b) p no_block ≡ get_or column p no_block = get_or-set_other column m p b no_block off in
          elim (h.others p) [ inl l ↦ inl (omega (arith, l, kept)) | inr none ↦ inr (kept ∙ none) ]);
      places = length-set column m b ∙ h.places;
    }
      where
        here : get_or (set column m b) m no_block ≡ b
        here = let places = h.places in get_or-set_same column m b no_block (omega (arith, within, places))

    -- a block is added, none of whose positions is met
    marked_push : (ends column : List ℕ) (q : ℕ) → AreMarked s m ends column → length ends < no_block → ((p : ℕ) → p ≤ m → IsOfBlock s q p → ⊥) → AreMarked s m (ends ++ q ∷ []) column
    marked_push ends column q h few none = record {
      exact = λ p b p' e. elim (pushed_cases ends q b p' e) [
        | inl old ↦ h.exact p b p' old
        | inr new ↦ (
          λ v. absurd (elim (h.others p) [
            | inl l ↦ (let z = new.0 in omega (arith, l, v, z))
            | inr gone ↦ (let z = new.0 in omega (arith, gone, v, z, few))
          ]),
          λ o. absurd (none p o.0 (subst (λ (x : ℕ). IsOfBlock s x p) new.1 o.1)),
        )
      ];
      others = λ p. elim (h.others p) [ inl l ↦ inl (let long = length-append ends (q ∷ []) in omega (arith, l, long)) | inr gone ↦ inr gone ];
      places = h.places;
    }

    -- ---- the column of resumptions

    resumed_on : (ends column : List ℕ) → AreResumed s n ends column → word_step s m ≢ spawn → ((k : ℕ) → word_step s m ≡ resume k → ⊥) → AreResumed s m ends column
    resumed_on ends column h other none = record {
      back = λ k p is less. dite (ℕ_discrete p m)
          (λ (same : p ≡ m). absurd (none k (subst (λ (x : ℕ). word_step s x ≡ resume k) same is)))
          (λ (apart : p ≢ m). h.back k p is (omega (arith, less, apart, at)));
      waits = λ k p is less late. dite (ℕ_discrete k m)
          (λ (same : k ≡ m). absurd (other (subst (λ (x : ℕ). word_step s x ≡ spawn) same (law.resumed p k is).0)))
          (λ (apart : k ≢ m). h.waits k p is (omega (arith, less, apart, at)) (omega (arith, late, at)));
      none = λ k since. h.none k (elim since [ inl late ↦ inl (omega (arith, late, at)) | inr gone ↦ inr gone ]);
      places = h.places;
    }

    resumed_spawn : (ends column : List ℕ) (b q : ℕ) → AreResumed s n ends column → word_step s m ≡ spawn → slice_get ends b ≡ Some q → EndsBlockOf s.events m q → AreResumed s m ends (set column m b)
    resumed_spawn ends column b q h spawns is ends_at = record {
      back = λ k p back less. kept k (λ same. (let l = spawn_ahead p k back in omega (arith, less, l, same))) ∙ h.back k p back (dite (ℕ_discrete p m)
          (λ (same : p ≡ m). absurd (let z : spawn ≡ resume k = sym spawns ∙ (ap (λ (x : ℕ). word_step s x) (sym same) ∙ back) in cc z))
          (λ (apart : p ≢ m). omega (arith, less, apart, at)));
      waits = λ k p back less late. dite (ℕ_discrete k m)
          (λ (same : k ≡ m).
          let now : get_or (set column m b) k 0 ≡ b = ap (λ (x : ℕ). get_or (set column m b) x 0) same ∙ here in
          (q, ap (slice_get ends) now ∙ is, subst (λ (x : ℕ). EndsBlockOf s.events x q) (sym same) ends_at))
          (λ (apart : k ≢ m).
          let old = h.waits k p back (omega (arith, less, apart, at)) (omega (arith, late, at)) in
          (old.0, ap (slice_get ends) (kept k apart) ∙ old.1, old.2));
      none = λ k since. (
          let apart : k ≢ m = (λ same. elim since [ inl late ↦ (let z : ⊥ = omega (arith, late, same) in z) | inr other ↦ other (subst (λ (x : ℕ). word_step s x ≡ spawn) (sym same) spawns) ]) in
          kept k apart ∙ h.none k (elim since [ inl late ↦ inl (omega (arith, late, at)) | inr other ↦ inr other ]));
      places = length-set column m b ∙ h.places;
    }
      where
        here : get_or (set column m b) m 0 ≡ b
        here = let places = h.places in get_or-set_same column m b 0 (omega (arith, within, places))

        kept : (k : ℕ) → k ≢ m → get_or (set column m b) k 0 ≡ get_or column k 0
        kept k off = get_or-set_other column m k b 0 off

    resumed_back : (ends column : List ℕ) (j : ℕ) → AreResumed s n ends column → word_step s m ≡ resume j → AreResumed s m ends (set column j m)
    resumed_back ends column j h is = record {
      back = λ k p back less. dite (ℕ_discrete k j)
          (λ (same : k ≡ j). ap (λ (x : ℕ). get_or (set column j m) x 0) same ∙ (here ∙ law.once m p j is (back ∙ ap (λ (x : ℕ). resume x) same)))
          (λ (apart : k ≢ j). kept k apart ∙ h.back k p back (dite (ℕ_discrete p m)
          (λ (same : p ≡ m). absurd (apart (two_spawns m k j (subst (λ (x : ℕ). word_step s x ≡ resume k) same back) is)))
          (λ (other : p ≢ m). omega (arith, less, other, at))));
      waits = λ k p back less late. (
          let apart : k ≢ j = (λ same. (let one : m ≡ p = law.once m p j is (back ∙ ap (λ (x : ℕ). resume x) same) in omega (arith, late, one))) in
          let other : k ≢ m = (λ same. (let z : spawn ≡ resume j = sym (subst (λ (x : ℕ). word_step s x ≡ spawn) same (law.resumed p k back).0) ∙ is in cc z)) in
          let old = h.waits k p back (omega (arith, less, other, at)) (omega (arith, late, at)) in
          (old.0, ap (slice_get ends) (kept k apart) ∙ old.1, old.2));
      none = λ k since. (
          let apart : k ≢ j = (λ same. elim since [
            | inl late ↦ (let l = spawn_ahead m j is in let z : ⊥ = omega (arith, late, same, l) in z)
            | inr other ↦ other (subst (λ (x : ℕ). word_step s x ≡ spawn) (sym same) (law.resumed m j is).0)
          ]) in
          kept k apart ∙ h.none k (elim since [ inl late ↦ inl (omega (arith, late, at)) | inr other ↦ inr other ]));
      places = length-set column j m ∙ h.places;
    }
      where
        here : get_or (set column j m) j 0 ≡ m
        here = let places = h.places in let l = spawn_ahead m j is in get_or-set_same column j m 0 (omega (arith, within, places, l))

        kept : (k : ℕ) → k ≢ j → get_or (set column j m) k 0 ≡ get_or column k 0
        kept k off = get_or-set_other column j k m 0 off

    resumed_push : (ends column : List ℕ) (q : ℕ) → AreResumed s n ends column → AreResumed s n (ends ++ q ∷ []) column
    resumed_push ends column q h = record {
      back = h.back;
      waits = λ k p back less late. (let old = h.waits k p back less late in (old.0, pushed_old ends q _ old.0 old.1, old.2));
      none = h.none;
      places = h.places;
    }

    -- ---- all columns

    no_resumption : word_step s m ≡ spawn → (k : ℕ) → word_step s m ≡ resume k → ⊥
    no_resumption spawns k is = let z : spawn ≡ resume k = sym spawns ∙ is in cc z

    not_spawned : (k : ℕ) → word_step s m ≡ resume k → word_step s m ≢ spawn
    not_spawned k is spawns = no_resumption spawns k is

    -- an event that is no `sync` and no `resume` after a spawn has no block
    unmarked : (ends pending : List ℕ) → AreOpened s n ends pending → event s m ≢ Some events.Sync → ((k : ℕ) → word_step s m ≡ resume k → ⊥) → (b q : ℕ) → slice_get ends b ≡ Some q → IsOfBlock s q m → ⊥
    unmarked ends pending so_far other none b q e of = elim of [
      | inl same ↦ other (ap (λ (x : ℕ). event s x) same ∙ listed_sync ends pending so_far b q e)
      | inr h ↦ none h.0 h.1
    ]

    unlisted : (ends pending : List ℕ) → AreOpened s n ends pending → event s m ≢ Some events.Sync → (b : ℕ) → slice_get ends b ≡ Some m → ⊥
    unlisted ends pending so_far other b e = other (listed_sync ends pending so_far b m e)

    pub met_plain : (syncs firsts blocks resumptions pending : List ℕ) → HasMet s n syncs firsts blocks resumptions pending → word_step s m ≢ spawn → event s m ≢ Some events.Sync
        → ((k : ℕ) → word_step s m ≡ resume k → ⊥) → HasMet s m syncs firsts blocks resumptions pending
    met_plain syncs firsts blocks resumptions pending h spawns sync resumed = record {
      ends = h.ends;
      opened = opened_on h.ends pending h.opened spawns sync;
      listed = listed_on h.ends syncs h.listed (unlisted h.ends pending h.opened sync);
      begun = h.begun;
      marked = marked_on h.ends blocks h.marked (unmarked h.ends pending h.opened sync resumed);
      resumed = resumed_on h.ends resumptions h.resumed spawns resumed;
    }

    spawn_no_sync : word_step s m ≡ spawn → event s m ≢ Some events.Sync
    spawn_no_sync spawns is = no_spawn s m is spawns

    pub met_known : (syncs firsts blocks resumptions resumptions' pending : List ℕ) (f : ℕ) → HasMet s n syncs firsts blocks resumptions pending → word_step s m ≡ spawn → IsInFrame s.events m f
        → BlocksEnd s → get_or pending f no_block ≢ no_block → resumptions' ≡ set resumptions m (get_or pending f no_block) → HasMet s m syncs firsts blocks resumptions' pending
    met_known syncs firsts blocks resumptions resumptions' pending f h spawns inside ended some put =
        let sync = spawn_no_sync spawns in
        let q = ended m spawns in
        record {
          ends = h.ends;
          opened = opened_known h.ends pending h.opened f q.0 spawns inside q.1 some;
          listed = listed_on h.ends syncs h.listed (unlisted h.ends pending h.opened sync);
          begun = h.begun;
          marked = marked_on h.ends blocks h.marked (unmarked h.ends pending h.opened sync (no_resumption spawns));
          resumed = subst (AreResumed s m h.ends) (sym put)
              (resumed_spawn h.ends resumptions (get_or pending f no_block) q.0 h.resumed spawns (known_listed h.ends pending h.opened f q.0 spawns inside q.1 some) q.1);
        }

    pub met_new : (syncs syncs' firsts firsts' blocks resumptions resumptions' pending pending' : List ℕ) (f b : ℕ) → HasMet s n syncs firsts blocks resumptions pending → word_step s m ≡ spawn → IsInFrame s.events m f
        → BlocksEnd s → get_or pending f no_block ≡ no_block → b ≡ length syncs → syncs' ≡ syncs ++ 0 ∷ [] → firsts' ≡ firsts ++ m ∷ [] → IsPlaced pending f b pending'
        → resumptions' ≡ set resumptions m b → HasMet s m syncs' firsts' blocks resumptions' pending'
    met_new syncs syncs' firsts firsts' blocks resumptions resumptions' pending pending' f b h spawns inside ended none is pushed begins placed put =
        let sync = spawn_no_sync spawns in
        let q = ended m spawns in
        let next = here_next h.ends pending h.opened f q.0 spawns inside q.1 in
        let count : b ≡ length h.ends = is ∙ h.listed.many in
        let few = h.opened.few in
        record {
          ends = h.ends ++ q.0 ∷ [];
          opened = opened_new h.ends pending h.opened f q.0 spawns inside q.1 pending' none (subst (λ (x : ℕ). IsPlaced pending f x pending') count placed);
          listed = subst (AreListed m (h.ends ++ q.0 ∷ [])) (sym pushed) (listed_push h.ends syncs q.0 0 h.listed (unlisted h.ends pending h.opened sync) next.later);
          begun = subst (AreFirstSpawns s (h.ends ++ q.0 ∷ [])) (sym begins) (begun_new h.ends pending h.opened f q.0 spawns inside q.1 firsts h.begun none);
          marked = marked_push h.ends blocks q.0 (marked_on h.ends blocks h.marked (unmarked h.ends pending h.opened sync (no_resumption spawns))) (few_below (length h.ends) few)
              (λ p less of. elim of [
                | inl same ↦ (let l = next.later in let z : ⊥ = omega (arith, less, same, l) in z)
                | inr k ↦ (
                    let l = spawn_ahead p k.0 k.1 in
                    let there = (h.opened.all q.0).0 (k.0, omega (arith, l, less, at), record { spawns = (law.resumed p k.0 k.1).0; ends = k.2 }) in
                    new_unlisted h.ends pending h.opened f q.0 spawns inside q.1 none there.0 there.1)
              ]);
          resumed = subst (AreResumed s m (h.ends ++ q.0 ∷ [])) (sym put)
              (resumed_spawn (h.ends ++ q.0 ∷ []) resumptions b q.0 (resumed_push h.ends resumptions q.0 h.resumed) spawns
              (ap (slice_get (h.ends ++ q.0 ∷ [])) count ∙ pushed_here h.ends q.0) q.1);
        }

    pub met_resume : (syncs firsts blocks blocks' resumptions resumptions' pending : List ℕ) (j : ℕ) → HasMet s n syncs firsts blocks resumptions pending → word_step s m ≡ resume j
        → blocks' ≡ set blocks m (get_or resumptions j 0) → resumptions' ≡ set resumptions j m → HasMet s m syncs firsts blocks' resumptions' pending
    met_resume syncs firsts blocks blocks' resumptions resumptions' pending j h is marks put =
        let sync : event s m ≢ Some events.Sync = (λ e. no_resume s m j e is) in
        let l = spawn_ahead m j is in
        let b : ℕ = get_or resumptions j 0 in
        let w = h.resumed.waits j m is (omega (arith, l, at)) (omega (arith, at)) in
        record {
          ends = h.ends;
          opened = opened_on h.ends pending h.opened (not_spawned j is) sync;
          listed = listed_on h.ends syncs h.listed (unlisted h.ends pending h.opened sync);
          begun = h.begun;
          marked = subst (AreMarked s m h.ends) (sym marks) (marked_put h.ends blocks b w.0 h.marked w.1 (inr (j, is, w.2)) (λ b' q' e of. elim of [
            | inl same ↦ absurd (sync (ap (λ (x : ℕ). event s x) same ∙ listed_sync h.ends pending h.opened b' q' e))
            | inr k ↦ (
                let one : k.0 ≡ j = two_spawns m k.0 j k.1 is in
                let same : q' ≡ w.0 = one_end s j q' w.0 (subst (λ (x : ℕ). EndsBlockOf s.events x q') one k.2) w.2 in
                h.opened.once b b' q' (w.1 ∙ ap Some (sym same)) e)
          ]));
          resumed = subst (AreResumed s m h.ends) (sym put) (resumed_back h.ends resumptions j h.resumed is);
        }

    pub met_end : (syncs syncs' firsts blocks blocks' resumptions pending pending' : List ℕ) (f : ℕ) → HasMet s n syncs firsts blocks resumptions pending → SyncsAt s.events f m → get_or pending f no_block ≢ no_block
        → syncs' ≡ set syncs (get_or pending f no_block) m → blocks' ≡ set blocks m (get_or pending f no_block) → pending' ≡ set pending f no_block → HasMet s m syncs' firsts blocks' resumptions pending'
    met_end syncs syncs' firsts blocks blocks' resumptions pending pending' f h is some lists marks put =
        let b : ℕ = get_or pending f no_block in
        let there = block_ended h.ends pending h.opened f is some in
        record {
          ends = h.ends;
          opened = opened_sync h.ends pending h.opened f pending' is
              (ap (λ (l : List ℕ). get_or l f no_block) put ∙ get_or-set_same pending f no_block no_block (pending_within pending f some))
              (λ g off. ap (λ (l : List ℕ). get_or l g no_block) put ∙ get_or-set_other pending f g no_block no_block off);
          listed = subst (AreListed m h.ends) (sym lists) (listed_put h.ends syncs b h.listed h.opened.once there);
          begun = h.begun;
          marked = subst (AreMarked s m h.ends) (sym marks) (marked_put h.ends blocks b m h.marked there (inl refl) (λ b' q' e of. elim of [
            | inl same ↦ h.opened.once b b' q' (there ∙ ap Some same) e
            | inr k ↦ absurd (no_resume s m k.0 is.0 k.1)
          ]));
          resumed = resumed_on h.ends resumptions h.resumed (no_spawn s m is.0) (λ k. no_resume s m k is.0);
        }
      where
        pending_within : (l : List ℕ) (k : ℕ) → get_or l k no_block ≢ no_block → k < length l
        pending_within l k some = dite (dec_lt k (length l)) (λ (less : k < length l). less) (λ past. absurd (some (get_or_past l k no_block (omega (arith, past)))))

    pub met_sync : (syncs firsts blocks resumptions pending : List ℕ) (f : ℕ) → HasMet s n syncs firsts blocks resumptions pending → SyncsAt s.events f m → get_or pending f no_block ≡ no_block
        → HasMet s m syncs firsts blocks resumptions pending
    met_sync syncs firsts blocks resumptions pending f h is none = record {
      ends = h.ends;
      opened = opened_sync h.ends pending h.opened f pending is none (λ g off. refl);
      listed = listed_on h.ends syncs h.listed (none_ended h.ends pending h.opened f is none);
      begun = h.begun;
      marked = marked_on h.ends blocks h.marked (λ b q e of. elim of [
        | inl same ↦ none_ended h.ends pending h.opened f is none b (e ∙ ap Some (sym same))
        | inr k ↦ no_resume s m k.0 is.0 k.1
      ]);
      resumed = resumed_on h.ends resumptions h.resumed (no_spawn s m is.0) (λ k. no_resume s m k is.0);
    }

    -- the block that ends at m is in the list of `sync`s
    pub end_within : (syncs firsts blocks resumptions pending : List ℕ) (f : ℕ) → HasMet s n syncs firsts blocks resumptions pending → SyncsAt s.events f m → get_or pending f no_block ≢ no_block
        → (get_or pending f no_block < length syncs) × (f < length pending)
    end_within syncs firsts blocks resumptions pending f h is some = (
      let w = slice_get_within h.ends (get_or pending f no_block) m (block_ended h.ends pending h.opened f is some) in let many = h.listed.many in omega (arith, w, many),
      dite (dec_lt f (length pending)) (λ (less : f < length pending). less) (λ past. absurd (some (get_or_past pending f no_block (omega (arith, past))))),
    )

  -- the columns before the first event
  pub met_first : (blocks resumptions : List ℕ) → ((p : ℕ) → get_or blocks p no_block ≡ no_block) → length blocks ≡ length s.events + 1 → ((p : ℕ) → get_or resumptions p 0 ≡ 0)
      → length resumptions ≡ length s.events + 1 → HasMet s 0 [] [] blocks resumptions []
  met_first blocks resumptions unmarked long unresumed long' = record {
    ends = [];
    opened = record {
      all = λ q. (
        λ h. absurd (let l = h.1 in let m = (law.inside h.0 (subst IsWord (sym h.2.spawns) tt)).0 in omega (arith, l, m)),
        λ h. absurd (let c : None ≡ Some q = h.1 in cc c),
      );
      once = λ b b' q e _. absurd (let c : None ≡ Some q = e in cc c);
      order = λ b b' q q' k' _ e _ _. absurd (let c : None ≡ Some q = e in cc c);
      few = omega arith;
      stands = λ f b q e _ _. absurd (let c : None ≡ Some q = e in cc c);
      next = λ f some. absurd (some refl);
    };
    listed = record { many = refl; met = λ b q e _. absurd (let c : None ≡ Some q = e in cc c) };
    begun = record { count = refl; each = λ b q k e _. absurd (let c : None ≡ Some q = e in cc c) };
    marked = record {
      exact = λ p b q e. absurd (let c : None ≡ Some q = e in cc c);
      others = λ p. inr (unmarked p);
      places = long;
    };
    resumed = record {
      back = λ k p is less. absurd (let l = (resume_inside p k is).0 in omega (arith, l, less));
      waits = λ k p is less late. absurd (let l = (law.inside k (subst IsWord (sym (law.resumed p k is).0) tt)).0 in omega (arith, l, less));
      none = λ k _. unresumed k;
      places = long';
    };
  }

  -- ---- after the last event

  module _ (n : ℕ) (past : length s.events ≤ n) (few : n ≤ length s.events) (syncs firsts blocks resumptions pending : List ℕ) (h : HasMet s n syncs firsts blocks resumptions pending) where
    spawn_within : (q k : ℕ) → IsSpawnOf s q k → k ≤ n
    spawn_within q k is = let l = (law.inside k (subst IsWord (sym is.spawns) tt)).1 in omega (arith, l, past)

    end_past : (b q : ℕ) → slice_get h.ends b ≡ Some q → q ≤ n
    end_past b q e =
        let k = (h.opened.all q).1 (b, e) in
        let w = slice_get_within s.events (q - 1) events.Sync (ends_sync s k.0 q k.2.ends) in
        let later = let next = k.2.ends.2 in next.later in
        omega (arith, w, past, later)

    same_ends : syncs ≡ h.ends
    same_ends = same_lists syncs h.ends h.listed.many (λ b q e. h.listed.met b q e (end_past b q e))

    pub ends_last : AreBlockEnds s syncs
    ends_last = subst (AreBlockEnds s) (sym same_ends) (record {
      all = λ q. (
        λ k. (h.opened.all q).0 (k.0, spawn_within q k.0 k.1, k.1),
        λ b. let k = (h.opened.all q).1 b in (k.0, k.2),
      );
      once = h.opened.once;
      order = h.opened.order;
    })

    pub firsts_last : AreFirstSpawns s syncs firsts
    firsts_last = subst (λ (l : List ℕ). AreFirstSpawns s l firsts) (sym same_ends) h.begun

    pub blocks_last : AreBlocks s syncs blocks
    blocks_last = subst (λ (l : List ℕ). AreBlocks s l blocks) (sym same_ends) (record {
      exact = λ p b q e. (
        λ v. ((h.marked.exact p b q e).0 v).1,
        λ of. (h.marked.exact p b q e).1 (
          elim of [
            | inl same ↦ (let l = end_past b q e in omega (arith, same, l))
            | inr k ↦ (let l = (resume_inside p k.0 k.1).1 in omega (arith, l, past))
          ],
          of,
        ),
      );
      others = h.marked.others;
      few = let l = h.opened.few in let small = law.few in omega (arith, l, small, few);
      places = h.marked.places;
    })

    pub resumed_last : AreResumptions s resumptions
    resumed_last k p = (
      λ e. elim (is_spawn (word_step s k)) [
        | inl spawns ↦ (
            let back = law.returns k spawns in
            let l = (resume_inside back.0 k back.1).1 in
            let same : back.0 ≡ p = sym (h.resumed.back k back.0 back.1 (omega (arith, l, past))) ∙ e.1 in
            subst (λ (x : ℕ). word_step s x ≡ resume k) same back.1)
        | inr other ↦ absurd (let z : get_or resumptions k 0 ≡ 0 = h.resumed.none k (inr other) in let l = e.0 in let v = e.1 in omega (arith, z, l, v))
      ],
      λ is. (let l = resume_inside p k is in (l.0, h.resumed.back k p is (let m = l.1 in omega (arith, m, past)))),
    )
