-- A reducer's view after an event.
use Rattle.std.specs.Prelude.{ℤ, cond}
use Rattle.cilk_monoid.specs.Laws.{MonoidStructure}
use Rattle.cilk_determinacy.specs.Runs.{Instance, Output, same_instance, has_instance, Event, Reads, Writes, Syncs, Ends, Passes, Granted, Begins, Resumes, Creates, Updates, Sets, Values, Prints}

-- An absent view counts as the unit, so views are total here. The laws of a monoid are required of
-- all values of its type.
abbrev pub IsValue : {V : Type 0} → V → Type 0
IsValue v = Unit {0}

-- the number that a view shows
abbrev pub number_of : {V : Type 0} → MonoidStructure V → V → ℤ
number_of M v = M.number v

-- the unit of an instance's monoid
abbrev pub unit_of : {V : Type 0} → (Instance → MonoidStructure V) → Instance → V
unit_of M i = let m = M i in m.unit

-- the number that each instance's view shows
abbrev pub numbers_of : {V : Type 0} → (Instance → MonoidStructure V) → (Instance → V) → Instance → ℤ
numbers_of M views i = number_of (M i) (views i)

-- instance i's view after an event of a reducer; M is the monoid of i
abbrev pub mark_view : {V : Type 0} → MonoidStructure V → Granted → Instance → V → V
mark_view M Begins i v = v
mark_view M Resumes i v = v
mark_view M (Creates j) i v = cond (same_instance j i) M.unit v
mark_view M (Updates j x) i v = cond (same_instance j i) (M.combine v (M.single x)) v
mark_view M (Sets j x) i v = cond (same_instance j i) (M.single x) v
mark_view M (Values j n) i v = v
mark_view M (Prints x) i v = cond (same_instance Output i) (M.combine v (M.single x)) v

-- Instance i's view after an event of the frame that holds the piece; M is the monoid of i.
abbrev pub on_view : {V : Type 0} → MonoidStructure V → Instance → Event → V → V
on_view M i (Reads c n) v = v
on_view M i (Writes c n) v = v
on_view M i Syncs v = v
on_view M i (Ends n gone) v = cond (has_instance gone i) M.unit v
on_view M i (Passes m) v = mark_view M m i v
