-- What is kept of cells, by pages. What is done in a page is done to its cells, and a race there is one of its cells: `met_in_page`, `race_in_page`. A page
-- that is filled up, or new at the end, changes nothing that is kept of a cell: `filled`, `page_pushed`.
use Rattle.std.proofs.Common.{◌≡◌, ◌≢◌, ℕ, zero, suc, ◌+◌, ◌-◌, ◌*◌, ◌/◌, ◌%◌, ◌^◌, ◌<◌, ◌≤◌, List, [], ◌∷◌, ◌++◌, length, Option, Some, slice_get, refl, sym, ◌∙◌, ap, arith, inl, inr, Bool, true, false, not, eqb}
use Rattle.std.specs.Prelude.{slice_index_or, slice_set, replicate, take}
use Rattle.std.proofs.lemmas.Option.{slice_get_past, slice_get_read}
use Rattle.std.proofs.lemmas.Bool.{cases_lt, ne_eqb}
use Rattle.std.proofs.lemmas.List.{get_or_append_left, get_or-append_right, get_or-replicate, get_or_past, length-replicate, nil_from_length, take_all}
use Rattle.cilk_trace.specs.declared.histories.Page.{Page}
use Rattle.cilk_trace.specs.declared.histories.Kind.{Kind}
use Rattle.cilk_trace.specs.declared.positions.Positions.{Positions}
use Rattle.cilk_trace.specs.Accesses.{Covers}
use Rattle.cilk_trace.specs.IntervalStacks.{IntervalStack}
use Rattle.cilk_trace.specs.Pages.{none, kept_by, kept_in, positions_at, positions_of, part, AreMet, IsLeastRace}
use Rattle.cilk_trace.specs.Positions.{after, raced_in}

pub set_here : (pages : List Page) (number : ℕ) (page : Page) → number < length pages → slice_get (slice_set pages number page) number ≡ Some page
set_here [] number page h = absurd (omega (arith, h))
set_here (p ∷ ps) zero page h = refl
set_here (p ∷ ps) (suc n) page h = set_here ps n page (omega (arith, h))

pub set_other : (pages : List Page) (number : ℕ) (page : Page) (other : ℕ) → other ≢ number → slice_get (slice_set pages number page) other ≡ slice_get pages other
set_other [] number page other n = refl
set_other (p ∷ ps) zero page zero n = absurd (n refl)
set_other (p ∷ ps) zero page (suc o) n = refl
set_other (p ∷ ps) (suc k) page zero n = refl
set_other (p ∷ ps) (suc k) page (suc o) n = set_other ps k page o (λ e. n (omega (arith, e)))

-- what a page keeps, by its places
abbrev Holds : List Page → ℕ → (ℕ → Positions) → Type 0
Holds pages number f = (p : ℕ) → kept_in (slice_get pages number) p ≡ f p

-- what is kept of a cell is that at its place of its page
in_page : (pages : List Page) (number : ℕ) (f : ℕ → Positions) (c : ℕ) → Holds pages number f → c / 4096 ≡ number → positions_of pages c ≡ f (c % 4096)
in_page pages number f c e q = ap (λ (n : ℕ). kept_in (slice_get pages n) (c % 4096)) q ∙ e (c % 4096)

-- two lists of pages that differ in one, and the cells from one on up to another, in that page
pub record InOne (old new : List Page) (number from to low high : ℕ) (before now : ℕ → Positions) : Type 0 where
  pub held : (p : ℕ) → kept_in (slice_get old number) p ≡ before p
  pub holds : (p : ℕ) → kept_in (slice_get new number) p ≡ now p
  pub others : (n : ℕ) → n ≢ number → slice_get new n ≡ slice_get old n
  pub begin : from ≡ 4096 * number + low
  pub end : to ≡ 4096 * number + high
  pub within : high ≤ 4096

page_race : (o : IntervalStack) (kind : Kind) (old new : List Page) (number from to low high : ℕ) (before now : ℕ → Positions) (raced : ℕ)
    → InOne old new number from to low high before now
    → IsLeastRace o kind (part low high) before raced → IsLeastRace o kind (part from to) (positions_of old) raced
page_race o kind old new number from to low high before now raced w r =
    let f = w.begin in let e = w.end in let u = w.within in
    let here : (c : ℕ) → Covers (part from to) c → c / 4096 ≡ number = λ c v. (let x = v.0 in let y = v.1 in omega (arith, x, y, f, e, u)) in
    let place : (c : ℕ) → Covers (part from to) c → Covers (part low high) (c % 4096) =
    λ c v. (let x = v.0 in let y = v.1 in (omega (arith, x, y, f, e, u), omega (arith, x, y, f, e, u))) in
    record {
      clean = λ z c v. ap (raced_in o kind) (in_page old number before c w.held (here c v)) ∙ r.clean z (c % 4096) (place c v);
      found = λ pos. (let g = r.found pos in let x = g.1.0 in let y = g.1.1 in
          let c = 4096 * number + g.0 in
          let q : c / 4096 ≡ number = omega (arith, x, y, u) in
          let s : c % 4096 ≡ g.0 = omega (arith, x, y, u) in (
            c,
            (omega (arith, x, f), omega (arith, x, y, f, e)),
            ap (raced_in o kind) (in_page old number before c w.held q ∙ ap before s) ∙ g.2,
            λ d v less. (let p = here d v in
                ap (raced_in o kind) (in_page old number before d w.held p) ∙ g.3 (d % 4096) (place d v) (omega (arith, less, p))),
          ));
    }

page_met : (o : IntervalStack) (kind : Kind) (at : ℕ) (old new : List Page) (number from to low high : ℕ) (before now : ℕ → Positions)
    → InOne old new number from to low high before now
    → AreMet o kind at (part low high) before now → AreMet o kind at (part from to) (positions_of old) (positions_of new)
page_met o kind at old new number from to low high before now w m =
    let f = w.begin in let e = w.end in let u = w.within in
    record {
      covered = λ c v. (let x = v.0 in let y = v.1 in
          let q : c / 4096 ≡ number = omega (arith, x, y, f, e, u) in
          let place : Covers (part low high) (c % 4096) = (omega (arith, x, y, f, e, u), omega (arith, x, y, f, e, u)) in
          in_page new number now c w.holds q ∙ (m.covered (c % 4096) place ∙ ap (after o kind at) (sym (in_page old number before c w.held q))));
      others = λ c n.
          (let apart : c / 4096 ≢ number → positions_of new c ≡ positions_of old c = λ d. ap (λ (p : Option Page). kept_in p (c % 4096)) (w.others (c / 4096) d) in
          elim (cases_lt (c / 4096) number) [
            | inl l ↦ apart (λ q. omega (arith, q, l))
            | inr l ↦ elim (cases_lt number (c / 4096)) [
              | inl k ↦ apart (λ q. omega (arith, q, k))
              | inr k ↦ (let q : c / 4096 ≡ number = omega (arith, l, k) in
                  let out : Covers (part low high) (c % 4096) → ⊥ =
                  λ v. (let x = v.0 in let y = v.1 in n (omega (arith, x, y, f, e, q), omega (arith, x, y, f, e, q))) in
                  in_page new number now c w.holds q ∙ (m.others (c % 4096) out ∙ sym (in_page old number before c w.held q)))
            ]
          ]);
    }

pub untouched_past : (pages : List Page) (number : ℕ) → length pages ≤ number → (p : ℕ) → kept_in (slice_get pages number) p ≡ none
untouched_past pages number le p = ap (λ (o : Option Page). kept_in o p) (slice_get_past pages number le)

pub untouched_page : (pages : List Page) (number : ℕ) (page : Page) → number < length pages → page ≡ slice_index_or pages number page
    → length page.grains.items ≡ 0 → (p : ℕ) → kept_in (slice_get pages number) p ≡ none
untouched_page pages number page lt read empty p =
    ap (λ (o : Option Page). kept_in o p) (slice_get_read pages (length pages) number page refl lt read)
    ∙ ap (λ (h : List Positions). positions_at h (p / 2 ^ page.shift)) (nil_from_length page.grains.items empty)

pub none_by : (b : Bool) (n : ℕ) → b ≡ eqb n 0 → not b ≡ false → n ≡ 0
none_by b n e f = elim (cases_lt 0 n) [
  | inl l ↦ (let z = ne_eqb n 0 (λ q. absurd (omega (arith, q, l))) in let g : b ≡ false = e ∙ z in let h : true ≡ false = ap not (sym g) ∙ f in absurd (cc h))
  | inr l ↦ omega (arith, l)
]

-- more cells without an access at the end of a page
more_in : (hs : List Positions) (k c : ℕ) → positions_at (hs ++ replicate k none) c ≡ positions_at hs c
more_in hs k c = elim (cases_lt c (length hs)) [
  | inl l ↦ get_or_append_left hs (replicate k none) none c l
  | inr l ↦ (let empty : positions_at (replicate k none) (c - length hs) ≡ none = elim (cases_lt (c - length hs) k) [
    | inl m ↦ get_or-replicate k (c - length hs) none none m
    | inr m ↦ get_or_past (replicate k none) (c - length hs) none (let n = length-replicate {A = Positions} k none in omega (arith, n, m))
  ] in
      get_or-append_right hs (replicate k none) (length hs) c none refl l ∙ (empty ∙ sym (get_or_past hs c none l)))
]

-- a new page at the end
got_pushed : (pages : List Page) (page : Page) (n p : ℕ) → kept_by page p ≡ none → kept_in (slice_get (pages ++ page ∷ []) n) p ≡ kept_in (slice_get pages n) p
got_pushed [] page zero p e = e
got_pushed [] page (suc n) p e = refl
got_pushed (q ∷ qs) page zero p e = refl
got_pushed (q ∷ qs) page (suc n) p e = got_pushed qs page n p e

pub page_pushed : (old new : List Page) (page : Page) → new ≡ old ++ page ∷ [] → ((p : ℕ) → kept_by page p ≡ none) → (c : ℕ) → positions_of new c ≡ positions_of old c
page_pushed old new page e f c = ap (λ (ps : List Page). positions_of ps c) e ∙ got_pushed old page (c / 4096) (c % 4096) (f (c % 4096))

-- grains, filled up with ones without an access
pub filled : (old new : List Positions) (n k : ℕ) → length old ≤ n → new ≡ take n old ++ replicate k none → (c : ℕ) → positions_at new c ≡ positions_at old c
filled old new n k le e c =
    ap (λ (h : List Positions). positions_at h c) (e ∙ ap (λ (h : List Positions). h ++ replicate k none) (take_all n old le)) ∙ more_in old k c

-- ---- a step in a page that is there

in_one : (mid : List Page) (number from to : ℕ) (page page' : Page) → slice_get mid number ≡ Some page → number < length mid → number ≡ from / 4096 → from < to
    → to ≤ 4096 * (from / 4096) + 4096
    → InOne mid (slice_set mid number page') number from to (from % 4096) (from % 4096 + (to - from)) (kept_by page) (kept_by page')
in_one mid number from to page page' at lt is less le = record {
  held = λ p. ap (λ (o : Option Page). kept_in o p) at;
  holds = λ p. ap (λ (o : Option Page). kept_in o p) (set_here mid number page' lt);
  others = λ n apart. set_other mid number page' n apart;
  begin = omega (arith, is);
  end = omega (arith, is, less);
  within = omega (arith, less, le);
}

pub met_in_page : (o : IntervalStack) (kind : Kind) (here : ℕ) (old mid : List Page) (number from to : ℕ) (page page' : Page)
    → ((c : ℕ) → positions_of mid c ≡ positions_of old c) → slice_get mid number ≡ Some page → number < length mid → number ≡ from / 4096 → from < to
    → to ≤ 4096 * (from / 4096) + 4096
    → AreMet o kind here (part (from % 4096) (from % 4096 + (to - from))) (kept_by page) (kept_by page')
    → AreMet o kind here (part from to) (positions_of old) (positions_of (slice_set mid number page'))
met_in_page o kind here old mid number from to page page' same at lt is less le m =
    let p = page_met o kind here mid (slice_set mid number page') number from to _ _ _ _ (in_one mid number from to page page' at lt is less le) m in
    record {
      covered = λ c w. p.covered c w ∙ ap (after o kind here) (same c);
      others = λ c w. p.others c w ∙ same c;
    }

pub race_in_page : (o : IntervalStack) (kind : Kind) (old mid : List Page) (number from to : ℕ) (page page' : Page) (raced : ℕ)
    → ((c : ℕ) → positions_of mid c ≡ positions_of old c) → slice_get mid number ≡ Some page → number < length mid → number ≡ from / 4096 → from < to
    → to ≤ 4096 * (from / 4096) + 4096
    → IsLeastRace o kind (part (from % 4096) (from % 4096 + (to - from))) (kept_by page) raced → IsLeastRace o kind (part from to) (positions_of old) raced
race_in_page o kind old mid number from to page page' raced same at lt is less le r =
    let p = page_race o kind mid (slice_set mid number page') number from to _ _ _ _ raced (in_one mid number from to page page' at lt is less le) r in
    record {
      clean = λ z c w. ap (raced_in o kind) (sym (same c)) ∙ p.clean z c w;
      found = λ pos. (let g = p.found pos in
          (g.0, g.1, ap (raced_in o kind) (sym (same g.0)) ∙ g.2, λ d w less. ap (raced_in o kind) (sym (same d)) ∙ g.3 d w less));
    }
