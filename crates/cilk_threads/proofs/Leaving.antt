-- The outcome of a whole run, by its cells and its views: `made_is`, `piece_made`. Each serial run
-- with its events has that outcome: `left_is`.
use Rattle.std.proofs.Common.{◌≡◌, ℕ, zero, suc, ◌+◌, ◌<◌, ◌≤◌, ℤ, pos, IsTrue, List, [], ◌∷◌, length, take, slice_index_or, Option, Some, None, refl, sym, ap, ◌∙◌, subst, arith}
use Rattle.std.proofs.Math.Seq.{take-length}
use Rattle.std.specs.Option.{option_map}
use Rattle.cilk_types.specs.declared.event.Event.{Event}
use Rattle.cilk_types.specs.declared.event.Event.TheVariants.{Write}
use Rattle.cilk_types.specs.declared.outcome.Outcome.{Outcome}
use Rattle.cilk_monoid.specs.declared.kind.MonoidKind.TheVariants.{Append}
use Rattle.cilk_monoid.specs.Kinds.{final_of}
use Rattle.cilk_monoid.specs.Values.{ViewValue, Elements}
use Rattle.cilk_hypermap.specs.declared.hypermap.Hypermap.{Hypermap}
use Rattle.cilk_hypermap.specs.Hypermap.{view_in}
use Rattle.cilk_hypermap.specs.Ranges.{ShowsRange}
use Rattle.cilk_hypermap.specs.Views.{output, or_unit}
use Rattle.cilk_monoid.specs.Kinds.{structure_of}
use Rattle.cilk_program.specs.Outcomes.{Leaves, cells_from}
use Rattle.cilk_program.specs.SerialRun.{Transcript, IsSerialRun}
use Rattle.cilk_program.specs.Syntax.{Source}
use Rattle.cilk_program.specs.WellNamed.{is_well_named}
use Rattle.cilk_program.specs.Answered.{cells_after, opening_cells}
use Rattle.cilk_program.proofs.Remembered.{runs_leave}
use Rattle.cilk_lower.specs.declared.layout.Layout.{Layout}
use Rattle.cilk_lower.specs.Layout.{LaysOut}
use Rattle.cilk_tree.specs.Sources.{last_write}
use Rattle.cilk_tree.specs.declared.event_order.EventOrder.{EventOrder}
use Rattle.cilk_tree.specs.Values.{HasValue}
use Rattle.cilk_shared.specs.declared.reducers.Reducers.{Reducers}
use Rattle.cilk_shared.specs.Reducers.{kind_in, events_over}
use Rattle.cilk_shared.specs.Values.{AreLastValues}
use Rattle.cilk_replay.proofs.LastWrites.{last_value}
use Rattle.cilk_frames.specs.Leaving.{finals_of, numbers_in, outcome_of}
use Rattle.cilk_threads.specs.Finals.{AreLast, IsMadeOf}
use Rattle.cilk_threads.specs.Tables.{AreReducersOf}
use Rattle.cilk_threads.proofs.Lasting.{whole_last}

-- ---- a cell has one value
same_write : (c : ℕ) (v w : ℤ) (o : Option Event) → o ≡ Some (Write c v) → o ≡ Some (Write c w) → v ≡ w
same_write c v w o h g = let e : Some (Write c v) ≡ Some (Write c w) = sym h ∙ g in cc e

one_value : (s : EventOrder) (c n : ℕ) (v w : ℤ) → HasValue s c n v → HasValue s c n w → v ≡ w
one_value s c n v w h g = by (last_write s.events c n) refl
  where
    by : (k : ℕ) → last_write s.events c n ≡ k → v ≡ w
    by zero e = h.opened e ∙ sym (g.opened e)
    by (suc q) e = same_write c v w _ (h.written q e) (g.written q e)

-- ---- lists of one length with the same items
same_lists : (xs ys : List ℤ) → length xs ≡ length ys → ((c : ℕ) → c < length xs → slice_index_or xs c (pos 0) ≡ slice_index_or ys c (pos 0)) → xs ≡ ys
same_lists [] [] e each = refl
same_lists [] (y ∷ ys) e each = absurd (omega (arith, e))
same_lists (x ∷ xs) [] e each = absurd (omega (arith, e))
same_lists (x ∷ xs) (y ∷ ys) e each =
    ap (λ z. z ∷ xs) (each 0 (omega arith)) ∙ ap (λ l. y ∷ l) (same_lists xs ys (omega (arith, e)) (λ c less. each (suc c) (omega (arith, less))))

take_at : (xs : List ℤ) (n c : ℕ) → c < n → n ≤ length xs → slice_index_or (take n xs) c (pos 0) ≡ slice_index_or xs c (pos 0)
take_at xs zero c less le = absurd (omega (arith, less))
take_at [] (suc n) c less le = absurd (omega (arith, le))
take_at (x ∷ xs) (suc n) zero less le = refl
take_at (x ∷ xs) (suc n) (suc c) less le = take_at xs n c (omega (arith, less)) (omega (arith, le))

taken : (xs : List ℤ) (n : ℕ) → n ≤ length xs → length (take n xs) ≡ n
taken xs zero le = refl
taken [] (suc n) le = absurd (omega (arith, le))
taken (x ∷ xs) (suc n) le = ap suc (taken xs n (omega (arith, le)))

long_from : (k n : ℕ) (f : ℕ → ℤ) → length (cells_from k n f) ≡ n
long_from k zero f = refl
long_from k (suc n) f = ap suc (long_from (suc k) n f)

from_at : (k n : ℕ) (f : ℕ → ℤ) (i : ℕ) → i < n → slice_index_or (cells_from k n f) i (pos 0) ≡ f (k + i)
from_at k zero f i less = absurd (omega (arith, less))
from_at k (suc n) f zero less = let e : k ≡ k + 0 = omega arith in ap f e
from_at k (suc n) f (suc i) less =
    let e : suc k + i ≡ k + suc i = omega arith in
    from_at (suc k) n f i (omega (arith, less)) ∙ ap f e

-- ---- what was printed
numbers_of_view : (o : Option ViewValue) (zs : List ℤ) → or_unit (structure_of Append) o ≡ Elements zs → numbers_in (option_map final_of o) ≡ zs
numbers_of_view None zs e = cc e
numbers_of_view (Some v) zs e = ap (λ (x : ViewValue). numbers_in (Some (final_of x))) e

pub all_same : {o o' : Outcome} → o.result ≡ o'.result → o.globals ≡ o'.globals → o.output ≡ o'.output → o.reducers ≡ o'.reducers → o ≡ o'
all_same {o = o} {o' = o'} a b c d =
    ap (λ x. record { result = x; globals = o.globals; output = o.output; reducers = o.reducers }) a
    ∙ ap (λ x. record { result = o'.result; globals = x; output = o.output; reducers = o.reducers }) b
    ∙ ap (λ x. record { result = o'.result; globals = o'.globals; output = x; reducers = o.reducers }) c
    ∙ ap (λ x. record { result = o'.result; globals = o'.globals; output = o'.output; reducers = x }) d

-- the global cells after all events
abbrev globals_after : Source → EventOrder → List ℤ
globals_after p s = cells_from 0 (length p.openings) (cells_after s.events (opening_cells p []))

pub made_is : (p : Source) (s : EventOrder) (r : Reducers) (l : Layout) (cells : List ℤ) (views : Hypermap) (value : ℤ) → LaysOut p l
    → length p.openings ≤ length s.opening → ((c : ℕ) → slice_index_or s.opening c (pos 0) ≡ opening_cells p [] c) → AreLastValues s (length p.openings) cells
    → ShowsRange (kind_in r) views (events_over s r 1 (length s.events + 1)) → IsMadeOf p s r value (outcome_of l cells views value)
made_is p s r l cells views value laid many opens final shows = record {
  result = refl;
  globals = ap (λ (o : List ℤ). take (length o) cells) laid.openings
      ∙ same_lists (take (length p.openings) cells) (globals_after p s) long
      (λ c less. let k = taken cells (length p.openings) within in let low : c < length p.openings = omega (arith, less, k) in take_at cells (length p.openings) c low within ∙ each c low);
  views = views;
  shown = shows;
  printed = λ zs e. numbers_of_view (view_in views Append output) zs e;
  reducers = ap (λ ks. finals_of views 0 ks) laid.reducers;
}
  where
    within : length p.openings ≤ length cells
    within = let e = final.all in omega (arith, e)

    long : length (take (length p.openings) cells) ≡ length (globals_after p s)
    long = taken cells (length p.openings) within ∙ sym (long_from 0 (length p.openings) (cells_after s.events (opening_cells p [])))

    each : (c : ℕ) → c < length p.openings → slice_index_or cells c (pos 0) ≡ slice_index_or (globals_after p s) c (pos 0)
    each c less =
        one_value s c (length s.events) (slice_index_or cells c (pos 0)) (slice_index_or (globals_after p s) c (pos 0)) (final.each c less)
        (last_value s (opening_cells p []) opens c (length s.events) (slice_index_or (globals_after p s) c (pos 0))
        (from_at 0 (length p.openings) (cells_after s.events (opening_cells p [])) c less
        ∙ ap (cells_after s.events (opening_cells p [])) (let e : 0 + c ≡ c = omega arith in e)
        ∙ ap (λ (l : List Event). cells_after l (opening_cells p []) c) (sym (take-length s.events))))

-- each serial run with these events has this outcome
pub left_is : (p : Source) → IsTrue (is_well_named p) → (s : EventOrder) (r : Reducers) (value : ℤ) (o : Outcome) → IsMadeOf p s r value o
    → (inputs : List ℤ) (run : Transcript) (outcome : Outcome) → IsSerialRun p inputs run s.events (Leaves outcome) → AreReducersOf p run r → outcome.result ≡ value → o ≡ outcome
left_is p well s r value o made inputs run outcome ran table same =
    all_same (made.result ∙ sym same) (made.globals ∙ sym left) (made.printed outcome.output last.printed) (made.reducers ∙ sym last.reducers)
  where
    last : AreLast p made.views outcome
    last = whole_last p inputs run s.events outcome s r made.views well ran refl table made.shown

    left : outcome.globals ≡ cells_from 0 (length p.openings) (cells_after s.events (opening_cells p inputs))
    left = let x = runs_leave p well inputs run s.events outcome ran in x.globals

-- of a piece of all events
pub piece_made : (p : Source) (yard s : EventOrder) → s ≡ yard → (r : Reducers) (l : Layout) (cells : List ℤ) (views : Hypermap) (value : ℤ) → LaysOut p l
    → length p.openings ≤ length s.opening → ((c : ℕ) → slice_index_or s.opening c (pos 0) ≡ opening_cells p [] c) → AreLastValues yard (length p.openings) cells
    → (from upto : ℕ) → from ≡ 1 → upto ≡ length s.events + 1 → ShowsRange (kind_in r) views (events_over s r from upto) → IsMadeOf p s r value (outcome_of l cells views value)
piece_made p yard s same r l cells views value laid many opens final from upto first end shows =
    made_is p s r l cells views value laid many opens (subst (λ (z : EventOrder). AreLastValues z (length p.openings) cells) (sym same) final)
    (subst (λ (n : ℕ). ShowsRange (kind_in r) views (events_over s r 1 n)) end (subst (λ (n : ℕ). ShowsRange (kind_in r) views (events_over s r n upto)) first shows))
