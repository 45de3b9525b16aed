-- The requested values of reducers, in a list of events: `numbers_at`.
--
-- - `felt`, `held_after`: what each reducer's view is after an event, and after a list;
-- - `AreAskedNumbers`: each requested value is the number of its reducer's view; `numbers_both`:
--   the same for a list and what follows it.
use Rattle.std.proofs.Common.{◌≡◌, ℕ, zero, suc, ℤ, Bool, true, false, List, [], ◌∷◌, ◌++◌, length, take, Some, None, slice_get, slice_index_or, refl, sym, ap, ◌∙◌, subst, arith}
use Rattle.cilk_types.specs.declared.event.Event.{Event}
use Rattle.cilk_types.specs.declared.event.Event.TheVariants as events
use Rattle.cilk_types.specs.declared.event.Instance.{Instance}
use Rattle.cilk_monoid.specs.Kinds.{structure_of}
use Rattle.cilk_monoid.specs.Ranges.{view_after}
use Rattle.cilk_monoid.specs.Values.{ViewValue}
use Rattle.cilk_monoid.proofs.RangeLaws.{view_after-append}
use Rattle.cilk_shared.specs.declared.reducers.Reducers.{Reducers}
use Rattle.cilk_shared.specs.Reducers.{kind_in, entered, of_event}
use Rattle.cilk_threads.proofs.Lasting.{list_from, last_from}

-- each reducer's view
abbrev pub Held : Type 0
Held = Instance → ViewValue

-- after an event of this frame
abbrev pub felt : Reducers → ℕ → Event → Held → Held
felt r f e h = λ j. view_after (structure_of (kind_in r j)) j (of_event r f (Some e)) (h j)

-- after a list, before which this frame is the current one
abbrev pub held_after : Reducers → ℕ → List Event → Held → Held
held_after r g [] h = h
held_after r g (e ∷ es) h = held_after r (entered e g) es (felt r (entered e g) e h)

pub held_both : (r : Reducers) (g : ℕ) (es xs : List Event) (h : Held)
    → held_after r g (es ++ xs) h ≡ held_after r (last_from g es) xs (held_after r g es h)
held_both r g [] xs h = refl
held_both r g (e ∷ es) xs h = held_both r (entered e g) es xs (felt r (entered e g) e h)

abbrev pub IsNumberOf : Reducers → Event → Held → Type 0
IsNumberOf r (events.Value i v) h = v ≡ (structure_of (kind_in r i)).number (h i)
IsNumberOf r e h = Unit {0}

abbrev pub AreAskedNumbers : Reducers → ℕ → Held → List Event → List Bool → Type 0
AreAskedNumbers r g h [] bs = Unit {0}
AreAskedNumbers r g h (e ∷ es) [] = Unit {0}
AreAskedNumbers r g h (e ∷ es) (b ∷ bs) = (b ≡ true → IsNumberOf r e h) × AreAskedNumbers r (entered e g) (felt r (entered e g) e h) es bs

pub numbers_both : (r : Reducers) (g : ℕ) (h : Held) (es xs : List Event) (bs ds : List Bool) → length es ≡ length bs
    → AreAskedNumbers r g h es bs → AreAskedNumbers r (last_from g es) (held_after r g es h) xs ds → AreAskedNumbers r g h (es ++ xs) (bs ++ ds)
numbers_both r g h [] xs [] ds e one rest = rest
numbers_both r g h [] xs (b ∷ bs) ds e one rest = absurd (omega (arith, e))
numbers_both r g h (x ∷ es) xs [] ds e one rest = absurd (omega (arith, e))
numbers_both r g h (x ∷ es) xs (b ∷ bs) ds e one rest =
    let less : length es ≡ length bs = omega (arith, e) in
    (one.0, numbers_both r (entered x g) (felt r (entered x g) x h) es xs bs ds less one.1 rest)

pub numbers_at : (r : Reducers) (g : ℕ) (h : Held) (es : List Event) (bs : List Bool) → AreAskedNumbers r g h es bs → (n : ℕ) (i : Instance) (v : ℤ)
    → slice_get es n ≡ Some (events.Value i v) → slice_index_or bs n false ≡ true
    → v ≡ (structure_of (kind_in r i)).number (view_after (structure_of (kind_in r i)) i (list_from r g (take n es)) (h i))
numbers_at r g h [] bs are n i v e b = let z : None ≡ Some (events.Value i v) = e in absurd (cc)
numbers_at r g h (x ∷ es) [] are n i v e b = let z : false ≡ true = b in absurd (cc z)
numbers_at r g h (x ∷ es) (d ∷ bs) are zero i v e b =
    let same : x ≡ events.Value i v = cc in
    subst (λ (x : Event). IsNumberOf r x h) same (are.0 b)
numbers_at r g h (x ∷ es) (d ∷ bs) are (suc n) i v e b =
    let S = structure_of (kind_in r i) in
    numbers_at r (entered x g) (felt r (entered x g) x h) es bs are.1 n i v e b
    ∙ ap S.number (sym (view_after-append S i (of_event r (entered x g) (Some x)) (list_from r (entered x g) (take n es)) (h i)))
