-- What a line does to the grains of a page is what it does to their cells, where grains begin at both of its ends: `grains_met`, `grains_race`.
-- For pages: `met_by_grains`, `race_by_grains`. Each grain made two changes nothing that is kept of a cell: `all_doubled`.
use Rattle.std.proofs.Common.{◌≡◌, ℕ, zero, suc, ◌+◌, ◌-◌, ◌*◌, ◌/◌, ◌%◌, ◌^◌, ◌<◌, ◌≤◌, List, [], ◌∷◌, ◌++◌, length, refl, sym, ◌∙◌, ap, subst, arith}
use Rattle.std.specs.Prelude.{slice_index_or, take}
use Rattle.std.proofs.Math.Nat.{div-lt_iff_lt-mul, div-mul-le_self, mul-le-mul_right}
use Rattle.std.proofs.Math.Pow.{shr_mono}
use Rattle.std.proofs.Math.Seq.{take-suc}
use Rattle.std.proofs.lemmas.List.{take_all}
use Rattle.std.proofs.lemmas.Nat.{pow_pos, shl-shr, shr-shr, shr_split}
use Rattle.cilk_trace.specs.declared.histories.Kind.{Kind}
use Rattle.cilk_trace.specs.declared.histories.Page.{Page}
use Rattle.cilk_trace.specs.declared.positions.Positions.{Positions}
use Rattle.cilk_trace.specs.Accesses.{Covers}
use Rattle.cilk_trace.specs.IntervalStacks.{IntervalStack}
use Rattle.cilk_trace.specs.Pages.{kept_by, part, positions_at, AreMet, IsLeastRace, IsParted}
use Rattle.cilk_trace.specs.Positions.{after, raced_in}

-- ---- the grains of cells

-- where a grain begins
whole : (s n : ℕ) → n % 2 ^ s ≡ 0 → n / 2 ^ s * 2 ^ s ≡ n
whole s n e = let p = shr_split n s in omega (arith, p, e)

inside : (s from to c : ℕ) → IsParted s from to → Covers (part from to) c → Covers (part (from / 2 ^ s) (to / 2 ^ s)) (c / 2 ^ s)
inside s from to c w v =
    let x = v.0 in let y = v.1 in
    let below : c < to = omega (arith, x, y) in
    let low : from / 2 ^ s ≤ c / 2 ^ s = shr_mono s x in
    let e = whole s to w.last in
    let high : c / 2 ^ s < to / 2 ^ s = (div-lt_iff_lt-mul {k = 2 ^ s} {x = c} {y = to / 2 ^ s} (pow_pos s)).1 (omega (arith, below, e)) in
    (low, omega (arith, low, high))

outside : (s from to c : ℕ) → IsParted s from to → Covers (part (from / 2 ^ s) (to / 2 ^ s)) (c / 2 ^ s) → Covers (part from to) c
outside s from to c w v =
    let x = v.0 in let y = v.1 in
    let below : c / 2 ^ s < to / 2 ^ s = omega (arith, x, y) in
    let f = whole s from w.first in
    let e = whole s to w.last in
    let high : c < to / 2 ^ s * 2 ^ s = (div-lt_iff_lt-mul {k = 2 ^ s} {x = c} {y = to / 2 ^ s} (pow_pos s)).0 below in
    let raised : from / 2 ^ s * 2 ^ s ≤ c / 2 ^ s * 2 ^ s = mul-le-mul_right (2 ^ s) x in
    let low = div-mul-le_self c (2 ^ s) in
    (omega (arith, f, raised, low), omega (arith, f, raised, low, high, e))

grains_met : (o : IntervalStack) (kind : Kind) (here s from to : ℕ) (old new : ℕ → Positions) → IsParted s from to
    → AreMet o kind here (part (from / 2 ^ s) (to / 2 ^ s)) old new
    → AreMet o kind here (part from to) (λ (c : ℕ). old (c / 2 ^ s)) (λ (c : ℕ). new (c / 2 ^ s))
grains_met o kind here s from to old new w m = record {
  covered = λ c v. m.covered (c / 2 ^ s) (inside s from to c w v);
  others = λ c n. m.others (c / 2 ^ s) (λ v. n (outside s from to c w v));
}

grains_race : (o : IntervalStack) (kind : Kind) (s from to : ℕ) (old : ℕ → Positions) (raced : ℕ) → IsParted s from to
    → IsLeastRace o kind (part (from / 2 ^ s) (to / 2 ^ s)) old raced
    → IsLeastRace o kind (part from to) (λ (c : ℕ). old (c / 2 ^ s)) raced
grains_race o kind s from to old raced w r = record {
  clean = λ z c v. r.clean z (c / 2 ^ s) (inside s from to c w v);
  found = λ pos. (let g = r.found pos in
      let p = g.0 in
      let e : p * 2 ^ s / 2 ^ s ≡ p = shl-shr p s in (
        p * 2 ^ s,
        outside s from to (p * 2 ^ s) w (subst (λ (n : ℕ). Covers (part (from / 2 ^ s) (to / 2 ^ s)) n) (sym e) g.1),
        ap (λ (n : ℕ). raced_in o kind (old n)) e ∙ g.2,
        λ d v less. g.3 (d / 2 ^ s) (inside s from to d w v) ((div-lt_iff_lt-mul {k = 2 ^ s} {x = d} {y = p} (pow_pos s)).1 less),
      ));
}

-- ---- grains made two

pub doubled : List Positions → List Positions
doubled [] = []
doubled (p ∷ ps) = p ∷ p ∷ doubled ps

pub doubled_none : [] ≡ doubled []
unfolding doubled
doubled_none = refl

doubled_last : (ps : List Positions) (p : Positions) → doubled (ps ++ p ∷ []) ≡ (doubled ps ++ p ∷ []) ++ p ∷ []
unfolding doubled
doubled_last [] p = refl
doubled_last (q ∷ ps) p = ap (λ (xs : List Positions). q ∷ q ∷ xs) (doubled_last ps p)

at_doubled : (ps : List Positions) (c : ℕ) → positions_at (doubled ps) c ≡ positions_at ps (c / 2)
unfolding doubled
at_doubled [] c = refl
at_doubled (p ∷ ps) zero = refl
at_doubled (p ∷ ps) (suc zero) = refl
at_doubled (p ∷ ps) (suc (suc c)) =
    let e : suc (suc c) / 2 ≡ suc (c / 2) = omega arith in
    at_doubled ps c ∙ ap (λ (n : ℕ). positions_at (p ∷ ps) n) (sym e)

halved : (ps : List Positions) (s c : ℕ) → 0 < s → positions_at (doubled ps) (c / 2 ^ (s - 1)) ≡ positions_at ps (c / 2 ^ s)
halved ps s c some =
    let e : s - 1 + 1 ≡ s = omega (arith, some) in
    at_doubled ps (c / 2 ^ (s - 1))
    ∙ ap (positions_at ps) (shr-shr c (s - 1) 1 ∙ ap (λ (n : ℕ). c / 2 ^ n) e)

-- ---- a page

pub met_by_grains : (o : IntervalStack) (kind : Kind) (here from to : ℕ) (old mid new : Page) → IsParted mid.shift from to → new.shift ≡ mid.shift
    → ((c : ℕ) → kept_by mid c ≡ kept_by old c)
    → AreMet o kind here (part (from / 2 ^ mid.shift) (to / 2 ^ mid.shift)) (positions_at mid.grains.items) (positions_at new.grains.items)
    → AreMet o kind here (part from to) (kept_by old) (kept_by new)
met_by_grains o kind here from to old mid new w stays same m =
    let g = grains_met o kind here mid.shift from to (positions_at mid.grains.items) (positions_at new.grains.items) w m in
    let now : (c : ℕ) → kept_by new c ≡ positions_at new.grains.items (c / 2 ^ mid.shift) =
    λ c. ap (λ (s : ℕ). positions_at new.grains.items (c / 2 ^ s)) stays in
    record {
      covered = λ c v. now c ∙ (g.covered c v ∙ ap (after o kind here) (same c));
      others = λ c n. now c ∙ (g.others c n ∙ same c);
    }

pub race_by_grains : (o : IntervalStack) (kind : Kind) (from to : ℕ) (old mid : Page) (raced : ℕ) → IsParted mid.shift from to → ((c : ℕ) → kept_by mid c ≡ kept_by old c)
    → IsLeastRace o kind (part (from / 2 ^ mid.shift) (to / 2 ^ mid.shift)) (positions_at mid.grains.items) raced
    → IsLeastRace o kind (part from to) (kept_by old) raced
race_by_grains o kind from to old mid raced w same r =
    let g = grains_race o kind mid.shift from to (positions_at mid.grains.items) raced w r in
    record {
      clean = λ z c v. ap (raced_in o kind) (sym (same c)) ∙ g.clean z c v;
      found = λ pos. (let f = g.found pos in
          (f.0, f.1, ap (raced_in o kind) (sym (same f.0)) ∙ f.2, λ d v less. ap (raced_in o kind) (sym (same d)) ∙ f.3 d v less));
    }

pub doubled_step : (ps : List Positions) (i : ℕ) (p : Positions) → i < length ps → p ≡ slice_index_or ps i p
    → doubled (take (i + 1) ps) ≡ (doubled (take i ps) ++ p ∷ []) ++ p ∷ []
doubled_step ps i p lt read =
    let e : i + 1 ≡ suc i = omega arith in
    ap (λ (n : ℕ). doubled (take n ps)) e
    ∙ (ap doubled (take-suc ps i p lt ∙ ap (λ (q : Positions). take i ps ++ q ∷ []) (sym read)) ∙ doubled_last (take i ps) p)

pub all_doubled : (ps hs : List Positions) (n s c : ℕ) → 0 < s → length ps ≤ n → hs ≡ doubled (take n ps)
    → positions_at hs (c / 2 ^ (s - 1)) ≡ positions_at ps (c / 2 ^ s)
all_doubled ps hs n s c some le e =
    ap (λ (xs : List Positions). positions_at xs (c / 2 ^ (s - 1))) (e ∙ ap doubled (take_all n ps le)) ∙ halved ps s c some
