-- The view that a range of a run's events gives to a reducer.
use Rattle.std.specs.Prelude.{◌≡◌, ℤ, Bool, cond, ◌&&◌, eqb, List, [], ◌∷◌, ◌++◌, ◌⊎◌}
use Rattle.cilk_types.specs.declared.event.Instance.{Instance}
use Rattle.cilk_monoid.specs.Laws.{MonoidStructure}
use Rattle.cilk_monoid.specs.Products.{product_of_updates}
use Rattle.cilk_types.specs.Word.{IsWord}

-- an event of a reducer instance: created with the unit, updated with x, set to the view of x
-- alone, or retired. A print is an update of the output.
pub data ReducerEvent : Type 0 where
  Created : (instance : Instance) → ReducerEvent
  Updated : (instance : Instance) → (x : ℤ) → ReducerEvent
  SetTo : (instance : Instance) → (x : ℤ) → ReducerEvent
  Retired : (instance : Instance) → ReducerEvent

-- whether two instances are the same
abbrev pub same_instance : Instance → Instance → Bool
same_instance a b = eqb a.frame b.frame && eqb a.place b.place

module _ {V : Type 0} (M : MonoidStructure V) (i : Instance) where
  -- the view of i after one event, from its view before; it is the unit once i is retired
  abbrev pub after_event : ReducerEvent → V → V
  after_event (Created j) v = cond (same_instance j i) M.unit v
  after_event (Updated j x) v = cond (same_instance j i) (M.combine v (M.single x)) v
  after_event (SetTo j x) v = cond (same_instance j i) (M.single x) v
  after_event (Retired j) v = cond (same_instance j i) M.unit v

  -- the view of i after the events in serial order, from its view before them
  abbrev pub view_after : List ReducerEvent → V → V
  view_after [] v = v
  view_after (e ∷ es) v = view_after es (after_event e v)

  -- the view of i after a range of events, from the unit
  abbrev pub view_of : List ReducerEvent → V
  view_of es = view_after es M.unit

-- the reducer of an event
abbrev pub instance_of : ReducerEvent → Instance
instance_of (Created i) = i
instance_of (Updated i x) = i
instance_of (SetTo i x) = i
instance_of (Retired i) = i

-- the event creates, sets or retires its reducer
abbrev pub IsReset : ReducerEvent → Type 0
IsReset (Created i) = Unit {0}
IsReset (Updated i x) = ⊥
IsReset (SetTo i x) = Unit {0}
IsReset (Retired i) = Unit {0}

-- the view after an event that resets its reducer
abbrev pub reset_view : {V : Type 0} → MonoidStructure V → ReducerEvent → V
reset_view M (Created i) = M.unit
reset_view M (Updated i x) = M.unit
reset_view M (SetTo i x) = M.single x
reset_view M (Retired i) = M.unit

-- the number in an event, if any, is a word
abbrev pub HasWord : ReducerEvent → Type 0
HasWord (Created i) = Unit {0}
HasWord (Updated i x) = IsWord x
HasWord (SetTo i x) = IsWord x
HasWord (Retired i) = Unit {0}

-- the numbers in all events are words
abbrev pub HaveWords : List ReducerEvent → Type 0
HaveWords [] = Unit {0}
HaveWords (e ∷ es) = HasWord e × HaveWords es

-- some event is an event of i
abbrev pub Mentions : Instance → List ReducerEvent → Type 0
Mentions i [] = ⊥
Mentions i (e ∷ es) = (instance_of e ≡ i) ⊎ Mentions i es

-- some event resets i
abbrev pub Resets : Instance → List ReducerEvent → Type 0
Resets i [] = ⊥
Resets i (e ∷ es) = ((instance_of e ≡ i) × IsReset e) ⊎ Resets i es

-- the numbers that i is updated with, in serial order
abbrev pub updates_of : Instance → List ReducerEvent → List ℤ
updates_of i [] = []
updates_of i (Created j ∷ es) = updates_of i es
updates_of i (Updated j x ∷ es) = cond (same_instance j i) (x ∷ updates_of i es) (updates_of i es)
updates_of i (SetTo j x ∷ es) = updates_of i es
updates_of i (Retired j ∷ es) = updates_of i es

-- the views of two adjacent ranges multiply to the view of both, for each instance that the right
-- range doesn't reset after an event in the left one
abbrev pub RangesMultiply : {V : Type 0} → MonoidStructure V → Type 0
RangesMultiply M = (i : Instance) (left right : List ReducerEvent) → HaveWords left → HaveWords right
    → (Mentions i left → ¬ (Resets i right)) → view_of M i (left ++ right) ≡ M.combine (view_of M i left) (view_of M i right)

-- the view of a range is that of its last reset, or the unit, times the updates that follow
pub record BeginsAtLastReset {V : Type 0} (M : MonoidStructure V) : Type 0 where
  pub last : (i : Instance) (before later : List ReducerEvent) (e : ReducerEvent) → HaveWords before → HasWord e → HaveWords later → instance_of e ≡ i → IsReset e → ¬ (Resets i later)
      → view_of M i (before ++ e ∷ later) ≡ M.combine (reset_view M e) (product_of_updates M (updates_of i later))
  pub none : (i : Instance) (es : List ReducerEvent) → HaveWords es → ¬ (Resets i es) → view_of M i es ≡ product_of_updates M (updates_of i es)
