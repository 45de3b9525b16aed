-- Trees of sums.
--
-- - `halves`, `whole`, `from_is_sum`: the nodes of one level, from the left, and those of the next;
-- - `below_top`: no node is above the sum of all;
-- - `Stands`, `goes_left`, `goes_right`, `arrives`: the way down to a number;
-- - `Owes`, `begins`, `goes_up`: the way up from a number that has changed.
use Rattle.std.proofs.Common.{◌≡◌, ◌≢◌, ◌+◌, ◌-◌, ◌*◌, ◌/◌, ◌<◌, ◌≤◌, ℕ, zero, suc, List, [], ◌∷◌, length, get_or, take, drop, set, sum, max, replicate, refl, sym, ap, ◌∙◌, subst, ◌⊎◌, inl, inr, arith}
use Rattle.std.proofs.lemmas.List.{get_or-drop, get_or-set_same, get_or-set_other, length-set, length-drop, take_all, drop-set-add, drop-set-lt, get_or-replicate, get_or_past, length-replicate, drop-replicate}
use Rattle.std.proofs.lemmas.List.Sums.{sum_by_more}
use Rattle.std.proofs.lemmas.Bool.{cases_eq, cases_lt}
use Rattle.cilk_scheduler.specs.Tallies.{Doubles, stays, twice, AddsUp, IsTree}

-- the sum of n nodes from one on
abbrev pub from : List ℕ → ℕ → ℕ → ℕ
from nodes w zero = 0
from nodes w (suc k) = from nodes w k + get_or nodes (w + k) 0

-- as a sum of std's
pub from_is_sum : (nodes : List ℕ) (w k : ℕ) → w + k ≤ length nodes → from nodes w k ≡ sum (take k (drop w nodes))
from_is_sum nodes w zero h = refl
from_is_sum nodes w (suc k) h =
    let before = from_is_sum nodes w k (omega arith) in
    let low : k < length (drop w nodes) = omega (arith, length-drop w nodes) in
    let more = sum_by_more (λ (x : ℕ). x) (drop w nodes) k 0 low in
    let is : suc k ≡ k + 1 = omega arith in
    ap (λ n. n + get_or nodes (w + k) 0) before ∙ ap (λ n. sum (take k (drop w nodes)) + n) (sym (get_or-drop w nodes k 0)) ∙ sym more ∙ ap (λ n. sum (take n (drop w nodes))) (sym is)

-- n nodes of a level, and 2n of the next
pub halves : (nodes : List ℕ) (count w k : ℕ) → ((i : ℕ) → 0 < i → i < count → AddsUp nodes i) → 0 < w → w + k ≤ count → from nodes (w + w) (k + k) ≡ from nodes w k
halves nodes count w zero sums some low = refl
halves nodes count w (suc k) sums some low =
    let before = halves nodes count w k sums some (omega arith) in
    let adds : AddsUp nodes (w + k) = sums (w + k) (omega arith) (omega arith) in
    let both : suc k + suc k ≡ suc (suc (k + k)) = omega arith in
    let first : w + w + (k + k) ≡ w + k + (w + k) = omega arith in
    let second : w + w + suc (k + k) ≡ w + k + (w + k) + 1 = omega arith in
    let left = ap (λ n. get_or nodes n 0) first in
    let right = ap (λ n. get_or nodes n 0) second in
    ap (from nodes (w + w)) both ∙ omega (arith, before, adds, left, right)

pub widens : (w n : ℕ) → Doubles w n → w ≤ n
widens w n (stays _) = omega arith
widens w n (twice _ _ d) = omega (arith, widens (w + w) n d)

-- a level before the last has one below it
pub next_level : (w n : ℕ) → Doubles w n → w < n → Doubles (w + w) n
next_level w n (stays _) h = absurd (omega (arith, h))
next_level w n (twice _ _ d) h = d

pub last_level : (w n : ℕ) → Doubles w n → n < w + w → w ≡ n
last_level w n (stays _) h = refl
last_level w n (twice _ _ d) h = absurd (omega (arith, h, widens (w + w) n d))

-- all nodes of a level have one sum
pub levels : (nodes : List ℕ) (w n : ℕ) → ((i : ℕ) → 0 < i → i < n → AddsUp nodes i) → 0 < w → Doubles w n → from nodes w w ≡ from nodes n n
levels nodes w n sums some (stays _) = refl
levels nodes w n sums some (twice _ _ d) = sym (halves nodes n w w sums some (widens (w + w) n d)) ∙ levels nodes (w + w) n sums (omega (arith, some)) d

row : (nodes : List ℕ) (count : ℕ) → length nodes ≡ count + count → from nodes count count ≡ sum (drop count nodes)
row nodes count long =
    from_is_sum nodes count count (omega (arith, long)) ∙ ap sum (take_all count (drop count nodes) (omega (arith, long, length-drop count nodes)))

-- the first node is the sum of all
pub whole : (nodes : List ℕ) (count : ℕ) → IsTree nodes count → 0 < count → get_or nodes 1 0 ≡ sum (drop count nodes)
whole nodes count t some = let one : get_or nodes 1 0 ≡ from nodes 1 1 = omega arith in one ∙ levels nodes 1 count t.sums (omega arith) (t.doubled some) ∙ row nodes count t.long

none_long : (xs : List ℕ) (rest : ℕ) → length xs ≡ 0 → rest < sum xs → ⊥
none_long [] rest e l = omega (arith, l)
none_long (x ∷ xs) rest e l = omega (arith, e)

-- a tree with a positive sum has numbers
pub nothing : (nodes : List ℕ) (count rest : ℕ) → IsTree nodes count → rest < sum (drop count nodes) → 0 < count
nothing nodes zero rest t h = let none = t.long in absurd (none_long nodes rest (omega (arith, none)) h)
nothing nodes (suc n) rest t h = omega arith

pub child : (i p : ℕ) → p ≡ i / 2 → (i ≡ p + p) ⊎ (i ≡ p + p + 1)
child i p e = by (cases_eq i (p + p)) where
  by : (i ≡ p + p) ⊎ (i ≢ p + p) → (i ≡ p + p) ⊎ (i ≡ p + p + 1)
  by (inl h) = inl h
  by (inr h) = inr (omega (arith, e, h))

-- a node is not above the one over it
under : (nodes : List ℕ) (i p : ℕ) → AddsUp nodes p → (i ≡ p + p) ⊎ (i ≡ p + p + 1) → get_or nodes i 0 ≤ get_or nodes p 0
under nodes i p adds (inl e) = let same = ap (λ n. get_or nodes n 0) e in omega (arith, adds, same)
under nodes i p adds (inr e) = let same = ap (λ n. get_or nodes n 0) e in omega (arith, adds, same)

-- no node is above the sum of all
below : (nodes : List ℕ) (count n i : ℕ) → IsTree nodes count → i ≤ n → 0 < i → i < count + count → get_or nodes i 0 ≤ get_or nodes 1 0
below nodes count zero i t h some low = absurd (omega (arith, h, some))
below nodes count (suc n) i t h some low = by (cases_eq i 1) (λ (p : ℕ) a b c. below nodes count n p t a b c) where
  by : (i ≡ 1) ⊎ (i ≢ 1) → ((p : ℕ) → p ≤ n → 0 < p → p < count + count → get_or nodes p 0 ≤ get_or nodes 1 0) → get_or nodes i 0 ≤ get_or nodes 1 0
  by (inl e) up = let same = ap (λ j. get_or nodes j 0) e in omega (arith, same)
  by (inr other) up =
      let p : ℕ = i / 2 in
      let above = up p (omega arith) (omega (arith, other)) (omega arith) in
      let over = under nodes i p (t.sums p (omega (arith, other)) (omega arith)) (child i p refl) in
      omega (arith, above, over)

pub below_top : (nodes : List ℕ) (count i : ℕ) → IsTree nodes count → 0 < i → i < count + count → get_or nodes i 0 ≤ get_or nodes 1 0
below_top nodes count i t some low = below nodes count i i t (omega arith) some low

-- On the way down to a number: node k of a level. The sum before it and `rest` make up the sum
-- sought, and `rest` is less than the node's own sum.
pub record Stands (nodes : List ℕ) (count place node rest : ℕ) : Type 0 where
  pub wide : ℕ
  pub k : ℕ
  pub some : 0 < wide
  pub is : node ≡ wide + k
  pub inside : k < wide
  pub doubles : Doubles wide count
  pub before : from nodes wide k + rest ≡ place
  pub low : rest < get_or nodes node 0

pub at_top : (nodes : List ℕ) (count place : ℕ) → IsTree nodes count → place < sum (drop count nodes) → Stands nodes count place 1 place
at_top nodes count place t low =
    let some = nothing nodes count place t low in
    let top = whole nodes count t some in
    record { wide = 1; k = 0; some = omega arith; is = omega arith; inside = omega arith; doubles = t.doubled some; before = omega arith; low = omega (arith, top, low) }

pub goes_left : (nodes : List ℕ) (count place node rest : ℕ) → IsTree nodes count → Stands nodes count place node rest → node < count → rest < get_or nodes (node + node) 0 → Stands nodes count place (node + node) rest
goes_left nodes count place node rest t h low less =
    let is = h.is in
    let inside = h.inside in
    let same = halves nodes count h.wide h.k t.sums h.some (omega arith) in
    let before = h.before in
    record {
      wide = h.wide + h.wide;
      k = h.k + h.k;
      some = let some = h.some in omega arith;
      is = omega arith;
      inside = omega arith;
      doubles = next_level h.wide count h.doubles (omega arith);
      before = omega (arith, same, before);
      low = less;
    }

pub goes_right : (nodes : List ℕ) (count place node rest : ℕ) → IsTree nodes count → Stands nodes count place node rest → node < count → get_or nodes (node + node) 0 ≤ rest
    → Stands nodes count place (node + node + 1) (rest - get_or nodes (node + node) 0)
goes_right nodes count place node rest t h low more =
    let is = h.is in
    let inside = h.inside in
    let some = h.some in
    let same = halves nodes count h.wide h.k t.sums h.some (omega arith) in
    let before = h.before in
    let under = h.low in
    let adds : AddsUp nodes node = t.sums node (omega arith) low in
    let at : h.wide + h.wide + (h.k + h.k) ≡ node + node = omega arith in
    let left = ap (λ n. get_or nodes n 0) at in
    record {
      wide = h.wide + h.wide;
      k = suc (h.k + h.k);
      some = omega arith;
      is = omega arith;
      inside = omega arith;
      doubles = next_level h.wide count h.doubles (omega arith);
      before = omega (arith, same, before, left, more);
      low = omega (arith, adds, under, more);
    }

-- the number that was sought
pub record Found (numbers : List ℕ) (place at : ℕ) : Type 0 where
  pub here : at < length numbers
  pub before : sum (take at numbers) ≤ place
  pub above : place < sum (take at numbers) + get_or numbers at 0

pub arrives : (nodes : List ℕ) (count place node rest : ℕ) → IsTree nodes count → Stands nodes count place node rest → count ≤ node → Found (drop count nodes) place (node - count)
arrives nodes count place node rest t h last =
    let is = h.is in
    let inside = h.inside in
    let wide = last_level h.wide count h.doubles (omega arith) in
    let k : h.k ≡ node - count = omega arith in
    let long = t.long in
    let sum_is = from_is_sum nodes count (node - count) (omega arith) in
    let same = subst (λ n. from nodes n h.k + rest ≡ place) wide h.before in
    let same' = subst (λ n. from nodes count n + rest ≡ place) k same in
    let at : count + (node - count) ≡ node = omega arith in
    let it : get_or (drop count nodes) (node - count) 0 ≡ get_or nodes node 0 = get_or-drop count nodes (node - count) 0 ∙ ap (λ n. get_or nodes n 0) at in
    let low = h.low in
    let len = length-drop count nodes in
    record { here = omega arith; before = omega (arith, sum_is, same'); above = omega (arith, sum_is, same', it, low) }

-- On the way up from a number that has changed: this node's sum is still to rise by a and fall by
-- b.
pub record Owes (nodes : List ℕ) (count node a b : ℕ) : Type 0 where
  pub others : (i : ℕ) → 0 < i → i < count → i ≢ node → AddsUp nodes i
  pub this : 0 < node → get_or nodes node 0 + a ≡ get_or nodes (node + node) 0 + get_or nodes (node + node + 1) 0 + b

-- a node that is not beside another keeps its sum
beside : (nodes : List ℕ) (node v i : ℕ) → 0 < i → i ≢ node → i ≢ node / 2 → AddsUp nodes i → AddsUp (set nodes node v) i
beside nodes node v i some other far adds =
    let it = get_or-set_other nodes node i v 0 other in
    let left = get_or-set_other nodes node (i + i) v 0 (λ e. far (omega (arith, e))) in
    let right = get_or-set_other nodes node (i + i + 1) v 0 (λ e. far (omega (arith, e))) in
    omega (arith, it, left, right, adds)

-- the node over one that changed owes as much
over : (nodes : List ℕ) (node p v a b : ℕ) → 0 < p → node < length nodes → p < node → v + b ≡ get_or nodes node 0 + a → AddsUp nodes p → (node ≡ p + p) ⊎ (node ≡ p + p + 1)
    → get_or (set nodes node v) p 0 + a ≡ get_or (set nodes node v) (p + p) 0 + get_or (set nodes node v) (p + p + 1) 0 + b
over nodes node p v a b some low less e adds (inl is) =
    let it = get_or-set_other nodes node p v 0 (λ (q : p ≡ node). omega (arith, q, less)) in
    let right = get_or-set_other nodes node (p + p + 1) v 0 (λ (q : p + p + 1 ≡ node). omega (arith, q, is)) in
    let left : get_or (set nodes node v) (p + p) 0 ≡ v = ap (λ n. get_or (set nodes node v) n 0) (sym is) ∙ get_or-set_same nodes node v 0 low in
    let was = ap (λ n. get_or nodes n 0) is in
    omega (arith, it, right, left, was, e, adds)
over nodes node p v a b some low less e adds (inr is) =
    let it = get_or-set_other nodes node p v 0 (λ (q : p ≡ node). omega (arith, q, less)) in
    let left = get_or-set_other nodes node (p + p) v 0 (λ (q : p + p ≡ node). omega (arith, q, is)) in
    let right : get_or (set nodes node v) (p + p + 1) 0 ≡ v = ap (λ n. get_or (set nodes node v) n 0) (sym is) ∙ get_or-set_same nodes node v 0 low in
    let was = ap (λ n. get_or nodes n 0) is in
    omega (arith, it, right, left, was, e, adds)

-- a number has changed
pub begins : (nodes : List ℕ) (count leaf v a b : ℕ) → IsTree nodes count → count ≤ leaf → leaf < count + count → v + b ≡ get_or nodes leaf 0 + a → Owes (set nodes leaf v) count (leaf / 2) a b
begins nodes count leaf v a b t last low e =
    let long = t.long in
    record {
      others = λ i some less far. beside nodes leaf v i some (λ (q : i ≡ leaf). omega (arith, q, less, last)) far (t.sums i some less);
      this = λ some. over nodes leaf (leaf / 2) v a b some (omega arith) (omega (arith, some)) e (t.sums (leaf / 2) some (omega arith)) (child leaf (leaf / 2) refl);
    }

-- a node takes it, and the one over it owes it
pub goes_up : (nodes : List ℕ) (count node v a b : ℕ) → length nodes ≡ count + count → Owes nodes count node a b → 0 < node → node < count → v + b ≡ get_or nodes node 0 + a → Owes (set nodes node v) count (node / 2) a b
goes_up nodes count node v a b long o some low e =
    record {
      others = λ i any less far. by i any less far (cases_eq i node);
      this = λ one. over nodes node (node / 2) v a b one (omega (arith, long, low)) (omega (arith, some)) e (let others = o.others in others (node / 2) one (omega (arith, low)) (λ (q : node / 2 ≡ node). omega (arith, q, some))) (child node (node / 2) refl);
    } where
      by : (i : ℕ) → 0 < i → i < count → i ≢ node / 2 → (i ≡ node) ⊎ (i ≢ node) → AddsUp (set nodes node v) i
      by i any less far (inr other) = let others = o.others in beside nodes node v i any other far (others i any less other)
      by i any less far (inl is) =
          let this = let own = o.this in own some in
          let it = get_or-set_same nodes node v 0 (omega (arith, long, low)) in
          let left = get_or-set_other nodes node (node + node) v 0 (λ (q : node + node ≡ node). omega (arith, q, some)) in
          let right = get_or-set_other nodes node (node + node + 1) v 0 (λ (q : node + node + 1 ≡ node). omega (arith, q)) in
          let adds : AddsUp (set nodes node v) node = omega (arith, this, it, left, right, e) in
          subst (λ n. AddsUp (set nodes node v) n) (sym is) adds

-- nothing is owed any more
pub settled : (nodes : List ℕ) (count a b : ℕ) → length nodes ≡ count + count → (0 < count → Doubles 1 count) → Owes nodes count 0 a b → IsTree nodes count
settled nodes count a b long doubled o = record { long = long; doubled = doubled; sums = λ i some less. (let others = o.others in others i some less (λ (q : i ≡ 0). omega (arith, q, some))) }

-- The loop on the way up: the numbers are there already.
pub record Lifts (nodes : List ℕ) (count node top : ℕ) (numbers : List ℕ) (a b : ℕ) : Type 0 where
  pub long : length nodes ≡ count + count
  pub doubled : 0 < count → Doubles 1 count
  pub low : node < count
  pub numbers_are : drop count nodes ≡ numbers
  pub owes : Owes nodes count node a b
  pub few : (i : ℕ) → 0 < i → i ≤ node → get_or nodes i 0 ≤ top

pub lifts_first : (nodes : List ℕ) (count at v a b : ℕ) → IsTree nodes count → at < count → v + b ≡ get_or (drop count nodes) at 0 + a
    → Lifts (set nodes (count + at) v) count ((count + at) / 2) (sum (drop count nodes)) (set (drop count nodes) at v) a b
lifts_first nodes count at v a b t low e =
    let long = t.long in
    let it = get_or-drop count nodes at 0 in
    record {
      long = length-set nodes (count + at) v ∙ long;
      doubled = t.doubled;
      low = omega arith;
      numbers_are = drop-set-add count nodes at v;
      owes = begins nodes count (count + at) v a b t (omega arith) (omega arith) (omega (arith, e, it));
      few = λ i some less.
          (let other = get_or-set_other nodes (count + at) i v 0 (λ (q : i ≡ count + at). omega (arith, q, less, low)) in
          let top = below_top nodes count i t some (omega arith) in
          let all = whole nodes count t (omega arith) in
          omega (arith, other, top, all));
    }

pub lifts_next : (nodes : List ℕ) (count node top v : ℕ) (numbers : List ℕ) (a b : ℕ) → Lifts nodes count node top numbers a b → 0 < node → v + b ≡ get_or nodes node 0 + a
    → Lifts (set nodes node v) count (node / 2) top numbers a b
lifts_next nodes count node top v numbers a b l some e =
    let long = l.long in
    let low = l.low in
    record {
      long = length-set nodes node v ∙ long;
      doubled = l.doubled;
      low = omega arith;
      numbers_are = drop-set-lt count nodes node v low ∙ l.numbers_are;
      owes = goes_up nodes count node v a b long l.owes some low e;
      few = λ i any less.
          (let other = get_or-set_other nodes node i v 0 (λ (q : i ≡ node). omega (arith, q, less, some)) in
          let few = l.few in
          let top = few i any (omega arith) in
          omega (arith, other, top));
    }

-- a node is positive if it is to become one less
pub holds_some : (nodes : List ℕ) (count node top : ℕ) (numbers : List ℕ) → Lifts nodes count node top numbers 0 1 → 0 < node → 0 < get_or nodes node 0
holds_some nodes count node top numbers l some = let o = l.owes in let this = (let own = o.this in own some) in omega (arith, this)

-- doubled once more
longer : (w n : ℕ) → Doubles w n → Doubles w (n + n)
longer w n (stays _) = twice w (w + w) (stays (w + w))
longer w n (twice _ _ d) = twice w (n + n) (longer (w + w) n d)

zero_at : (n i : ℕ) → get_or (replicate {A = ℕ} n 0) i 0 ≡ 0
zero_at n i = by (cases_lt i n) where
  by : (i < n) ⊎ (n ≤ i) → get_or (replicate {A = ℕ} n 0) i 0 ≡ 0
  by (inl h) = get_or-replicate n i 0 0 h
  by (inr h) = get_or_past (replicate {A = ℕ} n 0) i 0 (let l : length (replicate {A = ℕ} n 0) ≡ n = length-replicate n 0 in omega (arith, h, l))

doubled_once : (count n : ℕ) → (0 < count → Doubles 1 count) → n ≡ max 1 (count + count) → Doubles 1 n
doubled_once count n d is = by (cases_eq count 0) where
  by : (count ≡ 0) ⊎ (count ≢ 0) → Doubles 1 n
  by (inl none) = let one : 1 ≡ n = omega (arith, none, is) in subst (Doubles 1) one (stays 1)
  by (inr some) = let both : count + count ≡ n = omega (arith, some, is) in subst (Doubles 1) both (longer 1 count (d (omega (arith, some))))

-- a tree of zeros over twice as many
pub zeros_are_tree : (nodes zeros : List ℕ) (count n : ℕ) → IsTree nodes count → n ≡ max 1 (count + count) → zeros ≡ replicate {A = ℕ} (n + n) 0 → IsTree zeros n
zeros_are_tree nodes zeros count n t is e =
    subst (λ (z : List ℕ). IsTree z n) (sym e) (record {
      long = length-replicate (n + n) 0;
      doubled = λ some. doubled_once count n t.doubled is;
      sums = λ i some less. (let a = zero_at (n + n) i in let b = zero_at (n + n) (i + i) in let c = zero_at (n + n) (i + i + 1) in omega (arith, a, b, c));
    })

pub zeros_are : (zeros : List ℕ) (n : ℕ) → zeros ≡ replicate {A = ℕ} (n + n) 0 → drop n zeros ≡ replicate {A = ℕ} n 0
zeros_are zeros n e = let one : n + n - n ≡ n = omega arith in ap (drop n) e ∙ drop-replicate n (n + n) 0 ∙ ap (λ k. replicate k 0) one
