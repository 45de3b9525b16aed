-- The earliest immediate predecessors as numbers, 0 where there is none.
--
-- - `AreNumbers`, `numbers_first`, `numbers_next`, `numbers_last`: the column at the start, at each
--   event and after the last;
-- - `no_zero`: 0 is none of them; `number_at`, `earliest_told`: so a number tells them.
use Rattle.std.proofs.Common.{◌≡◌, ◌≢◌, ℕ, zero, suc, ◌+◌, ◌-◌, ◌<◌, ◌≤◌, ℤ, Bool, true, false, nat_lt, if◌then◌else◌, List, [], ◌∷◌, ◌++◌, length, map, get_or, slice_index_or, Option, Some, None, refl, sym, ap, ◌∙◌, subst, arith}
use Rattle.cilk_types.specs.declared.event.Event.{Event}
use Rattle.cilk_types.specs.declared.invocation.Invocation.{Invocation}
use Rattle.cilk_types.specs.declared.invocation.Invocation.TheVariants as invocations
use Rattle.cilk_tree.specs.declared.mark.Mark.{Mark}
use Rattle.cilk_tree.specs.declared.mark.Mark.TheVariants.{Begin, End, Sync, Resume, Spawn, Call, Plain}
use Rattle.cilk_tree.specs.Marks.{mark_of}
use Rattle.cilk_tree.specs.declared.earliest.Parent.{Parent}
use Rattle.cilk_tree.specs.Planned.{planned}
use Rattle.cilk_tree.specs.Passes.{predecessors_in}
use Rattle.cilk_tree.specs.Word.{predecessors_of}
use Rattle.cilk_tree.specs.declared.event_order.EventOrder.{EventOrder}
use Rattle.cilk_tree.specs.Earliest.{sooner, earliest, Known, nothing, given, met, ahead_of, ends_of, earliest_from, all_earliest, number_of}
use Rattle.cilk_tree.proofs.Passing.{Stands, earliest_at, gives_earliest, stands_first, stands_next, stands_last}

-- the numbers of the first i events, and the state of the pass after them
pub record AreNumbers (es : List Event) (i : ℕ) (numbers : List ℕ) (k : Known) : Type 0 where
  pub column : List (Option ℕ)
  pub stands : Stands es i column k
  pub same : numbers ≡ map number_of column

pub numbers_first : (es : List Event) (k : Known) → k ≡ nothing → AreNumbers es 0 [] k
numbers_first es k is = record { column = []; stands = stands_first es k is; same = refl }

mapped_push : (column : List (Option ℕ)) (o : Option ℕ) → map number_of column ++ number_of o ∷ [] ≡ map number_of (column ++ o ∷ [])
mapped_push [] o = refl
mapped_push (x ∷ column) o = ap (λ (l : List ℕ). number_of x ∷ l) (mapped_push column o)

pub numbers_next : (es : List Event) (i : ℕ) (numbers : List ℕ) (k k' : Known) (d : Event) (m : Mark) (o : Option ℕ) (at : ℕ) (numbers' : List ℕ)
    → AreNumbers es i numbers k → i < length es → m ≡ mark_of (get_or es i d) → at ≡ suc i → o ≡ given m k → k' ≡ met m at k → numbers' ≡ numbers ++ number_of o ∷ [] → AreNumbers es (i + 1) numbers' k'
numbers_next es i numbers k k' d m o at numbers' h less is_m is_at is_o is_k pushed = record {
  column = h.column ++ o ∷ [];
  stands = stands_next es i h.column k k' d m o at (h.column ++ o ∷ []) h.stands less is_m is_at is_o is_k refl;
  same = pushed ∙ (ap (λ (l : List ℕ). l ++ number_of o ∷ []) h.same ∙ mapped_push h.column o);
}

pub numbers_last : (es : List Event) (i : ℕ) (numbers : List ℕ) (k : Known) → AreNumbers es i numbers k → length es ≤ i → numbers ≡ map number_of (all_earliest es)
numbers_last es i numbers k h past = h.same ∙ ap (map number_of) (stands_last es i h.column k h.stands past)

-- ---- 0 is none of them

abbrev IsSome : Option ℕ → Type 0
IsSome o = o ≢ Some 0

some_here : (p : ℕ) → 1 ≤ p → IsSome (Some p)
some_here p first is = let z : p ≡ 0 = cc is in omega (arith, first, z)

some_sooner : (a b : Option ℕ) → IsSome a → IsSome b → IsSome (sooner a b)
some_sooner None b f g = g
some_sooner (Some a) None f g = f
some_sooner (Some a) (Some b) f g = by (nat_lt b a)
  where
    by : (t : Bool) → IsSome (if t then Some b else Some a)
    by true = g
    by false = f

-- a frame waits at a position
record Waits (w : Parent) : Type 0 where
  at : 1 ≤ w.at
  ends : IsSome w.ends

abbrev AllWait : List Parent → Type 0
AllWait [] = Unit {0}
AllWait (w ∷ ws) = Waits w × AllWait ws

some_ahead : (k : Invocation) (a z : ℕ) → 1 ≤ a → 1 ≤ z → IsSome (ahead_of k a z)
some_ahead invocations.Call a z f g = some_here z g
some_ahead invocations.Spawn a z f g = some_here a f

some_ends : (k : Invocation) (z : ℕ) (ends : Option ℕ) → 1 ≤ z → IsSome ends → IsSome (ends_of k z ends)
some_ends invocations.Call z ends f g = g
some_ends invocations.Spawn z ends f g = some_sooner (Some z) ends (some_here z f) g

abbrev from : List Mark → ℕ → Option ℕ → Option ℕ → List Parent → List (Option ℕ)
from ms p ahead ends ws = earliest_from ms p (record { ahead = ahead; ends = ends; waiting = ws })

later : (p : ℕ) → 1 ≤ p → 1 ≤ suc p
later p first = omega (arith, first)

none_zero : (ms : List Mark) (p : ℕ) (ahead ends : Option ℕ) (ws : List Parent) (i : ℕ) → 1 ≤ p → IsSome ahead → IsSome ends → AllWait ws → IsSome (slice_index_or (from ms p ahead ends ws) i None)
none_zero [] p ahead ends ws i f a e w = λ is. cc is
none_zero (Sync ∷ ms) p ahead ends ws zero f a e w = some_sooner ahead ends a e
none_zero (Plain ∷ ms) p ahead ends ws zero f a e w = a
none_zero (Begin ∷ ms) p ahead ends ws zero f a e w = a
none_zero (Resume ∷ ms) p ahead ends ws zero f a e w = a
none_zero (Spawn ∷ ms) p ahead ends ws zero f a e w = a
none_zero (Call ∷ ms) p ahead ends ws zero f a e w = a
none_zero (End ∷ ms) p ahead ends ws zero f a e w = a
none_zero (Sync ∷ ms) p ahead ends ws (suc i) f a e w = none_zero ms (suc p) (Some p) None ws i (later p f) (some_here p f) (λ is. cc is) w
none_zero (Plain ∷ ms) p ahead ends ws (suc i) f a e w = none_zero ms (suc p) (Some p) ends ws i (later p f) (some_here p f) e w
none_zero (Begin ∷ ms) p ahead ends ws (suc i) f a e w = none_zero ms (suc p) (Some p) ends ws i (later p f) (some_here p f) e w
none_zero (Resume ∷ ms) p ahead ends ws (suc i) f a e w = none_zero ms (suc p) (Some p) ends ws i (later p f) (some_here p f) e w
none_zero (Spawn ∷ ms) p ahead ends ws (suc i) f a e w = none_zero ms (suc p) (Some p) None _ i (later p f) (some_here p f) (λ is. cc is) (record { at = f; ends = e }, w)
none_zero (Call ∷ ms) p ahead ends ws (suc i) f a e w = none_zero ms (suc p) (Some p) None _ i (later p f) (some_here p f) (λ is. cc is) (record { at = f; ends = e }, w)
none_zero (End ∷ ms) p ahead ends [] (suc i) f a e w = none_zero ms (suc p) (Some p) ends [] i (later p f) (some_here p f) e w
none_zero (End ∷ ms) p ahead ends (x ∷ ws) (suc i) f a e w =
    none_zero ms (suc p) (ahead_of x.how x.at p) (ends_of x.how p x.ends) ws i (later p f) (some_ahead x.how x.at p w.0.at f) (some_ends x.how p x.ends f w.0.ends) w.1

pub no_zero : (es : List Event) (i : ℕ) → slice_index_or (all_earliest es) i None ≢ Some 0
no_zero es i = subst (λ (l : List (Option ℕ)). slice_index_or l i None ≢ Some 0) (sym (gives_earliest es)) (none_zero (map mark_of es) 1 None None [] i (omega arith) (λ is. cc is) (λ is. cc is) tt)

-- ---- the entry at a place

entry_at : (column : List (Option ℕ)) (i : ℕ) → slice_index_or (map number_of column) i 0 ≡ number_of (slice_index_or column i None)
entry_at [] i = refl
entry_at (x ∷ column) zero = refl
entry_at (x ∷ column) (suc i) = entry_at column i

told : (o : Option ℕ) (n : ℕ) → o ≢ Some 0 → n ≡ number_of o → (0 < n → Some n ≡ o) × (n ≡ 0 → None ≡ o)
told None n not is = (λ more. absurd (omega (arith, more, is)), λ _. refl)
told (Some p) n not is = (λ _. ap Some is, λ none. absurd (not (ap Some (sym is ∙ none))))

pub number_at : (es : List Event) (i n : ℕ) (numbers : List ℕ) → numbers ≡ map number_of (all_earliest es) → n ≡ slice_index_or numbers i 0
    → (0 < n → Some n ≡ slice_index_or (all_earliest es) i None) × (n ≡ 0 → None ≡ slice_index_or (all_earliest es) i None)
number_at es i n numbers same is =
    told (slice_index_or (all_earliest es) i None) n (no_zero es i) (is ∙ (ap (λ (l : List ℕ). slice_index_or l i 0) same ∙ entry_at (all_earliest es) i))

-- the earliest immediate predecessor of the event at a position
pub earliest_told : (es : List Event) (opening : List ℤ) (s : EventOrder) (at i n : ℕ) (numbers : List ℕ) → planned es opening ≡ s → i ≡ at - 1 → numbers ≡ map number_of (all_earliest es)
    → n ≡ slice_index_or numbers i 0 → (0 < n → Some n ≡ earliest (predecessors_of s at)) × (n ≡ 0 → None ≡ earliest (predecessors_of s at))
earliest_told es opening s at i n numbers same place are is =
    let h = number_at es i n numbers are is in
    let there : slice_index_or (all_earliest es) i None ≡ earliest (predecessors_of (planned es opening) at) =
    ap (λ (j : ℕ). slice_index_or (all_earliest es) j None) place ∙ earliest_at (predecessors_in es) (at - 1) in
    subst (λ (x : EventOrder). (0 < n → Some n ≡ earliest (predecessors_of x at)) × (n ≡ 0 → None ≡ earliest (predecessors_of x at))) same
    (λ some. h.0 some ∙ there, λ none. h.1 none ∙ there)
