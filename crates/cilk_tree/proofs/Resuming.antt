-- The `resume` of each spawn, found by kinds and earliest immediate predecessors.
--
-- - `resumed_here`, `not_sync`: a `resume` right after a spawn;
-- - `resume_word`, `is_word_here`: a `resume` that is a step on a word;
-- - `SoFar`, `within`, `resumed_first`, `resumed_next`, `same_column`, `resumed_all`: the column of
--   resumptions at the start, at each event and after the last.
use Rattle.std.proofs.Common.{◌≡◌, ◌≢◌, inl, inr, Bool, true, false, ℕ, ◌+◌, ◌<◌, ◌≤◌, List, [], ◌∷◌, length, get_or, set, Option, Some, None, IfSome, IsTrue, MatchOption, ◌↔◌, if◌then◌else◌, refl, sym, ap, ◌∙◌, subst, arith, get_or-set_same, get_or-set_other, length-set}
use Rattle.std.specs.Prelude.{is_some}
use mathlib.Core.Logic.{dite}
use native.Mathlib.Decide.{ℕ_discrete}
use Rattle.cilk_types.specs.declared.event.Event.{Event}
use Rattle.cilk_types.specs.declared.event.Event.TheVariants as events
use Rattle.cilk_tree.specs.declared.mark.Mark.TheVariants as mark
use Rattle.cilk_tree.specs.Races.{event_at}
use Rattle.cilk_tree.specs.declared.event_order.EventOrder.{EventOrder}
use Rattle.cilk_tree.specs.Orders.{IsOrderly}
use Rattle.cilk_tree.specs.Word.{event, predecessors_of, plain, resume, word_event, word_step, is_spawn, resumption, IsWord}
use Rattle.cilk_tree.proofs.Events.{mark_at, return_what}
use Rattle.cilk_tree.specs.declared.kind.Kind.TheVariants.{Resume, Spawn}
use Rattle.cilk_tree.specs.Earliest.{earliest}
use Rattle.cilk_tree.specs.Kinds.{kind_of_event}
use Rattle.cilk_tree.specs.Planned.{IsAtMostOne}
use Rattle.cilk_tree.specs.Resumptions.{AreResumptions}

resume_mark : (o : Option Event) (f : ℕ) → kind_of_event o ≡ Some (Resume f) → mark_at o ≡ mark.Resume
resume_mark (Some (events.Resume g)) f is = refl
resume_mark o f is = absurd (cc is)

spawn_mark : (o : Option Event) (f : ℕ) → kind_of_event o ≡ Some (Spawn f) → is_spawn o ≡ true
spawn_mark (Some (events.Spawn g)) f is = refl
spawn_mark o f is = absurd (cc is)

pub not_sync : (o : Option Event) (f : ℕ) → kind_of_event o ≡ Some (Resume f) → o ≡ Some events.Sync → ⊥
not_sync (Some (events.Resume g)) f _ same = cc same
not_sync o f is same = absurd (cc is)

alone : (ps : List ℕ) (k : ℕ) → IsAtMostOne ps → earliest ps ≡ Some k → ps ≡ k ∷ []
alone ps k (inl none) is = absurd (let c : None ≡ Some k = sym (ap earliest none) ∙ is in cc c)
alone ps k (inr one) is = let c : Some one.0 ≡ Some k = sym (ap earliest one.1) ∙ is in let d : one.0 ≡ k = cc c in one.1 ∙ ap (λ (x : ℕ). x ∷ []) d

pub resumed_here : (s : EventOrder) (at k f g : ℕ) → IsAtMostOne (predecessors_of s at) → kind_of_event (event s at) ≡ Some (Resume f) → earliest (predecessors_of s at) ≡ Some k → kind_of_event (event s k) ≡ Some (Spawn g) → word_step s at ≡ resume k
resumed_here s at k f g one is first spawned =
    return_what s.events at (event s at) (predecessors_of s at) k (resume_mark (event s at) f is) (alone (predecessors_of s at) k one first) (spawn_mark (event s k) g spawned)

-- ---- a `resume` that is a step on a word
resumption_word : (es : List Event) (ps : List ℕ) → IsWord (resumption es ps) → (k : ℕ) × (resumption es ps ≡ resume k)
resumption_word es [] h = absurd h
resumption_word es (q ∷ r ∷ ps) h = absurd h
resumption_word es (q ∷ []) h = by (is_spawn (event_at es q)) h
  where
    by : (b : Bool) → IsWord (if b then resume q else plain) → (k : ℕ) × ((if b then resume q else plain) ≡ resume k)
    by true _ = (q, refl)
    by false g = absurd g

pub resume_word : (es : List Event) (p f : ℕ) (o : Option Event) (ps : List ℕ) → kind_of_event o ≡ Some (Resume f) → IsWord (word_event es p o ps) → (k : ℕ) × (word_event es p o ps ≡ resume k)
resume_word es p f (Some (events.Resume g)) ps is h = resumption_word es ps h
resume_word es p f o ps is h = absurd (cc is)

pub word_of_resume : (s : EventOrder) (at k : ℕ) → word_step s at ≡ resume k → IsWord (word_step s at)
word_of_resume s at k is = subst IsWord (sym is) tt

pub is_word_here : (s : EventOrder) (at f : ℕ) (found : Option ℕ) (b : Bool) → kind_of_event (event s at) ≡ Some (Resume f) → ((k : ℕ) → (found ≡ Some k) ↔ (word_step s at ≡ resume k)) → b ≡ is_some found
    → (IsTrue b → IsWord (word_step s at)) × (IsWord (word_step s at) → IsTrue b)
is_word_here s at f None b kind is test = (
  λ t. absurd (let c : false ≡ true = sym test ∙ t in cc c),
  λ w. absurd (let r = resume_word s.events at f (event s at) (predecessors_of s at) kind w in let c : None ≡ Some r.0 = (is r.0).1 r.1 in cc c),
)
is_word_here s at f (Some k) b kind is test = (λ t. word_of_resume s at k ((is k).0 refl), λ w. test)

-- ---- the column
pub record SoFar (s : EventOrder) (i : ℕ) (column : List ℕ) : Type 0 where
  pub long : length column ≡ length s.events + 1
  pub each : (k p : ℕ) → ((1 ≤ p) × (get_or column k 0 ≡ p)) ↔ ((word_step s p ≡ resume k) × (p ≤ i))

module _ (s : EventOrder) (law : IsOrderly s) where
  spawn_within : (k p : ℕ) → word_step s p ≡ resume k → k < length s.events + 1
  spawn_within k p is = let h = (law.inside k (subst IsWord (sym (law.resumed p k is).0) tt)).1 in omega (arith, h)

  pub within : (at n : ℕ) (spawned : Option ℕ) → n ≡ length s.events + 1 → ((k : ℕ) → (spawned ≡ Some k) ↔ (word_step s at ≡ resume k)) → IfSome spawned (λ k. k < n)
  within at n None long is = tt
  within at n (Some k) long is = let l = spawn_within k at ((is k).0 refl) in omega (arith, l, long)

  is_position : (p k : ℕ) → word_step s p ≡ resume k → 1 ≤ p
  is_position p k is = (law.inside p (word_of_resume s p k is)).0

  pub resumed_first : (column : List ℕ) → length column ≡ length s.events + 1 → ((k : ℕ) → get_or column k 0 ≡ 0) → SoFar s 0 column
  resumed_first column long none = record {
    long = long;
    each = λ k p. (
      λ e. absurd (let z : p ≡ 0 = sym e.1 ∙ none k in omega (arith, z, e.0)),
      λ h. absurd (let l = is_position p k h.0 in omega (arith, l, h.1)),
    );
  }

  pub same_column : (i at : ℕ) (column : List ℕ) → at ≡ i + 1 → SoFar s i column → ((k : ℕ) → word_step s at ≡ resume k → ⊥) → SoFar s (i + 1) column
  same_column i at column next h not = record {
    long = h.long;
    each = λ k p. (
      λ e. let r = (h.each k p).0 e in (r.0, let l = r.1 in omega (arith, l)),
      λ r. dite (ℕ_discrete p at)
          (λ (here : p ≡ at). absurd (not k (ap (λ (j : ℕ). word_step s j) (sym here) ∙ r.0)))
          (λ (other : p ≢ at). (h.each k p).1 (r.0, let l = r.1 in omega (arith, l))),
    );
  }

  set_column : (i at j : ℕ) (column : List ℕ) → at ≡ i + 1 → SoFar s i column → word_step s at ≡ resume j → SoFar s (i + 1) (set column j at)
  set_column i at j column next h is =
      let small = spawn_within j at is in
      let long = h.long in
      record {
        long = length-set column j at ∙ h.long;
        each = λ k p. dite (ℕ_discrete k j)
            (λ (here : k ≡ j).
            let put : get_or (set column j at) k 0 ≡ at = ap (λ (x : ℕ). get_or (set column j at) x 0) here ∙ get_or-set_same column j at 0 (omega arith) in (
              λ e. let same : at ≡ p = sym put ∙ e.1 in (ap (λ (x : ℕ). word_step s x) (sym same) ∙ is ∙ ap (λ (x : ℕ). resume x) (sym here), omega arith),
              λ r. (is_position p k r.0, put ∙ law.once at p j is (r.0 ∙ ap (λ (x : ℕ). resume x) here)),
            ))
            (λ (other : k ≢ j).
            let kept : get_or (set column j at) k 0 ≡ get_or column k 0 = get_or-set_other column j k at 0 other in (
              λ e. let r = (h.each k p).0 (e.0, sym kept ∙ e.1) in (r.0, let l = r.1 in omega (arith, l)),
              λ r.
                  let q : (1 ≤ p) × (get_or column k 0 ≡ p) = dite (ℕ_discrete p at)
                  (λ (same : p ≡ at). absurd (other (let c : resume k ≡ resume j = sym r.0 ∙ (ap (λ (x : ℕ). word_step s x) same ∙ is) in cc c)))
                  (λ (apart : p ≢ at). (h.each k p).1 (r.0, let l = r.1 in omega (arith, l))) in
                  (q.0, kept ∙ q.1),
            ));
      }

  pub resumed_next : (i at : ℕ) (column column' : List ℕ) (spawned : Option ℕ) → at ≡ i + 1 → SoFar s i column → ((k : ℕ) → (spawned ≡ Some k) ↔ (word_step s at ≡ resume k))
      → MatchOption spawned (column' ≡ column) (λ k. column' ≡ set column k at) → SoFar s (i + 1) column'
  resumed_next i at column column' None next h is noted =
      subst (SoFar s (i + 1)) (sym noted) (same_column i at column next h (λ k w. (let c : None ≡ Some k = (is k).1 w in cc c)))
  resumed_next i at column column' (Some j) next h is noted =
      subst (SoFar s (i + 1)) (sym noted) (set_column i at j column next h ((is j).0 refl))

  pub resumed_all : (i : ℕ) (column : List ℕ) → SoFar s i column → length s.events ≤ i → AreResumptions s column
  resumed_all i column h past k p = (
    λ e. ((h.each k p).0 e).0,
    λ w. (h.each k p).1 (w, let l = (law.inside p (word_of_resume s p k w)).1 in omega (arith, l, past)),
  )
