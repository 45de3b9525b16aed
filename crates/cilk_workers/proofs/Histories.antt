-- The laws of a join box, after every history.
--
-- - `dropped`, `keys_placed`, `keys_more`: the awaited keys after an arrival and after a steal;
-- - `Holds`: which keys were stolen and have arrived, in a box;
-- - `opens`, `steals`, `arrives`: so it is in an opening box, and after a steal and an arrival;
--   `holds`: after every history;
-- - `Ordered`: the awaited keys ascend, and which keys have arrived before them; `steal_ordered`,
--   `arrive_ordered`, `ordered`: so it is after every history; `lowest_is`: which key is the lowest;
-- - `laws`, `answers`: the laws.
use Rattle.std.proofs.Common.{◌≡◌, ◌↔◌, ◌<◌, ◌≤◌, ◌⊎◌, inl, inr, ⊎_elim, ℕ, nat_eq, nat_lt, eq-eqb, eqb-true, Bool, if◌then◌else◌, true, false, true≢false, List, [], ◌∷◌, ◌++◌, Option, Some, None, refl, sym, ap, ◌∙◌, subst, arith}
use Rattle.std.proofs.lemmas.Bool.{ltb-true, ltb-false}
use Rattle.cilk_shared.specs.Pieces.{PieceValue}
use Rattle.cilk_replay.specs.Chains.{ChainValue}
use Rattle.cilk_replay.specs.Replays.{ReplayValue}
use Rattle.cilk_workers.specs.Boxes.{BoxValue, Closes, IsFresh, IsOpen, IsUpTo, MayArrive, Stands, arrived_at, is_some, is_there, opening, passes, stolen_at}
use Rattle.cilk_workers.specs.Histories.{ArrivalsAnswer, Arrives, BoxStep, BoxesHaveLaws, Has, IsHistory, IsOnce, IsOwn, Steals, arrived_keys, joined, stolen_keys}
use Rattle.cilk_workers.specs.Rows.{IsBeforeAll, Run, RunValue, Wait, ahead, awaiting, between, is_empty, placed, row, wait}
use Rattle.cilk_workers.specs.declared.join.Boxed.TheVariants as boxes
use Rattle.cilk_workers.proofs.Boxes.{closes_last, closes_on}

-- ---- keys

abbrev dropped : ℕ → List ℕ → List ℕ
dropped k [] = []
dropped k (j ∷ js) = if nat_eq j k then js else j ∷ dropped k js

dropped_has : (k : ℕ) (ks : List ℕ) (i : ℕ) → Has (dropped k ks) i → Has ks i
dropped_has k [] i h = h
dropped_has k (j ∷ js) i h = by (nat_eq j k) (dropped_has k js i) h
  where
    by : (b : Bool) → (Has (dropped k js) i → Has js i) → Has (if b then js else j ∷ dropped k js) i → Has (j ∷ js) i
    by true rest t = inr t
    by false rest (inl same) = inl same
    by false rest (inr t) = inr (rest t)

dropped_other : (k : ℕ) (ks : List ℕ) (i : ℕ) → (i ≡ k → ⊥) → Has ks i → Has (dropped k ks) i
dropped_other k [] i other h = h
dropped_other k (j ∷ js) i other h = by (nat_eq j k) refl (dropped_other k js i other) h
  where
    by : (b : Bool) → nat_eq j k ≡ b → (Has js i → Has (dropped k js) i) → Has (j ∷ js) i → Has (if b then js else j ∷ dropped k js) i
    by true e rest (inl same) = absurd (other (sym same ∙ eqb-true j k e))
    by true e rest (inr t) = t
    by false e rest (inl same) = inl same
    by false e rest (inr t) = inr (rest t)

dropped_gone : (k : ℕ) (ks : List ℕ) → IsOnce ks → Has (dropped k ks) k → ⊥
dropped_gone k [] once h = h
dropped_gone k (j ∷ js) once h = by (nat_eq j k) refl (dropped_gone k js once.1) h
  where
    by : (b : Bool) → nat_eq j k ≡ b → (Has (dropped k js) k → ⊥) → Has (if b then js else j ∷ dropped k js) k → ⊥
    by true e rest t = once.0 (subst (Has js) (sym (eqb-true j k e)) t)
    by false e rest (inl same) = true≢false (sym (eq-eqb j k same) ∙ e)
    by false e rest (inr t) = rest t

dropped_once : (k : ℕ) (ks : List ℕ) → IsOnce ks → IsOnce (dropped k ks)
dropped_once k [] once = tt
dropped_once k (j ∷ js) once = by (nat_eq j k) (dropped_once k js once.1)
  where
    by : (b : Bool) → IsOnce (dropped k js) → IsOnce (if b then js else j ∷ dropped k js)
    by true rest = once.1
    by false rest = (λ h. once.0 (dropped_has k js j h), rest)

more_left : (ks : List ℕ) (k i : ℕ) → Has ks i → Has (ks ++ k ∷ []) i
more_left [] k i h = absurd h
more_left (j ∷ js) k i (inl same) = inl same
more_left (j ∷ js) k i (inr t) = inr (more_left js k i t)

more_last : (ks : List ℕ) (k i : ℕ) → k ≡ i → Has (ks ++ k ∷ []) i
more_last [] k i same = inl same
more_last (j ∷ js) k i same = inr (more_last js k i same)

more_split : (ks : List ℕ) (k i : ℕ) → Has (ks ++ k ∷ []) i → Has ks i ⊎ (k ≡ i)
more_split [] k i (inl same) = inr same
more_split [] k i (inr none) = absurd none
more_split (j ∷ js) k i (inl same) = inl (inl same)
more_split (j ∷ js) k i (inr t) = ⊎_elim (λ (h : Has js i). inl (inr h)) (λ (same : k ≡ i). inr same) (more_split js k i t)

more_once : (ks : List ℕ) (k : ℕ) → IsOnce ks → (Has ks k → ⊥) → IsOnce (ks ++ k ∷ [])
more_once [] k once new = (λ h. h, tt)
more_once (j ∷ js) k once new = (
  λ h. ⊎_elim (λ (t : Has js j). once.0 t) (λ (same : k ≡ j). new (inl (sym same))) (more_split js k j h),
  more_once js k once.1 (λ t. new (inr t)),
)

abbrev keys : List Wait → List ℕ
keys [] = []
keys (w ∷ ws) = w.key ∷ keys ws

has_stands : (ws : List Wait) (k : ℕ) → Has (keys ws) k → Stands ws k
has_stands [] k h = h
has_stands (w ∷ ws) k (inl same) = inl same
has_stands (w ∷ ws) k (inr t) = inr (has_stands ws k t)

stands_has : (ws : List Wait) (k : ℕ) → Stands ws k → Has (keys ws) k
stands_has [] k h = h
stands_has (w ∷ ws) k (inl same) = inl same
stands_has (w ∷ ws) k (inr t) = inr (stands_has ws k t)

keys_placed : (run : Run) (ws : List Wait) (k : ℕ) (x : PieceValue) → keys (let r = placed run ws k x in r.waits) ≡ dropped k (keys ws)
keys_placed run [] k x = refl
keys_placed run (w ∷ ws) k x = by (nat_eq w.key k) (keys_placed w.run ws k x)
  where
    by : (b : Bool) → keys (let r = placed w.run ws k x in r.waits) ≡ dropped k (keys ws)
        → keys (let r = (if b then row (Some (between run x w.run)) ws else ahead run w.key w.goes_on (placed w.run ws k x)) in r.waits) ≡ (if b then keys ws else w.key ∷ dropped k (keys ws))
    by true rest = refl
    by false rest = ap (λ (l : List ℕ). w.key ∷ l) rest

keys_more : (ws : List Wait) (k a : ℕ) → keys (ws ++ wait k a None ∷ []) ≡ keys ws ++ k ∷ []
keys_more [] k a = refl
keys_more (w ∷ ws) k a = ap (λ (l : List ℕ). w.key ∷ l) (keys_more ws k a)

-- ---- keys in order

abbrev Ascend : List ℕ → Type 0
Ascend [] = Unit {0}
Ascend (j ∷ js) = ((i : ℕ) → Has js i → j < i) × Ascend js

ascend_more : (ks : List ℕ) (k : ℕ) → Ascend ks → ((i : ℕ) → Has ks i → i < k) → Ascend (ks ++ k ∷ [])
ascend_more [] k up low = (λ i s. absurd s, tt)
ascend_more (j ∷ js) k up low = (
  λ i s. ⊎_elim (λ (t : Has js i). up.0 i t) (λ (same : k ≡ i). let l = low j (inl refl) in omega (arith, l, same)) (more_split js k i s),
  ascend_more js k up.1 (λ i t. low i (inr t)),
)

ascend_dropped : (k : ℕ) (ks : List ℕ) → Ascend ks → Ascend (dropped k ks)
ascend_dropped k [] up = tt
ascend_dropped k (j ∷ js) up = by (nat_eq j k) (ascend_dropped k js up.1)
  where
    by : (b : Bool) → Ascend (dropped k js) → Ascend (if b then js else j ∷ dropped k js)
    by true rest = up.1
    by false rest = (λ i s. up.0 i (dropped_has k js i s), rest)

-- a first run has a key that is below all awaited ones; without one, what has arrived is above the first
-- awaited key
abbrev Below : Run → List ℕ → List ℕ → Type 0
Below None [] arrived = (i : ℕ) → Has arrived i → ⊥
Below None (j ∷ js) arrived = (i : ℕ) → Has arrived i → j < i
Below (Some p) ks arrived = (a : ℕ) × Has arrived a × ((i : ℕ) → Has ks i → a < i)

below_more : (run : Run) (ks arrived : List ℕ) (k : ℕ) → Below run ks arrived → ((i : ℕ) → Has arrived i → i < k) → Below run (ks ++ k ∷ []) arrived
below_more None [] arrived k below low = λ i s. absurd (below i s)
below_more None (j ∷ js) arrived k below low = below
below_more (Some p) ks arrived k below low = (
  below.0,
  below.1,
  λ i s. ⊎_elim (λ (t : Has ks i). below.2 i t) (λ (same : k ≡ i). let l = low below.0 below.1 in omega (arith, l, same)) (more_split ks k i s),
)

-- a key above the first awaited one has come
below_later : (run : Run) (j k : ℕ) (js js' arrived : List ℕ) → Below run (j ∷ js) arrived → j < k → ((i : ℕ) → Has js' i → Has js i) → Below run (j ∷ js') (k ∷ arrived)
below_later None j k js js' arrived below less kept = λ i s. ⊎_elim (λ (same : k ≡ i). omega (arith, less, same)) (λ (t : Has arrived i). below i t) s
below_later (Some p) j k js js' arrived below less kept = (
  below.0,
  inr below.1,
  λ i s. ⊎_elim (λ (same : j ≡ i). below.2 i (inl same)) (λ (t : Has js' i). below.2 i (inr (kept i t))) s,
)

below_placed : (run : Run) (ws : List Wait) (k : ℕ) (x : PieceValue) (arrived : List ℕ) → Ascend (keys ws) → Below run (keys ws) arrived → Has (keys ws) k ⊎ ((i : ℕ) → Has (keys ws) i → i < k)
    → Below (let r = placed run ws k x in r.run) (keys (let r = placed run ws k x in r.waits)) (k ∷ arrived)
below_placed run [] k x arrived up below may = (k, inl refl, λ i s. absurd s)
below_placed run (w ∷ ws) k x arrived up below may = by (nat_eq w.key k) refl
  where
    first_less : nat_eq w.key k ≡ false → w.key < k
    first_less e = ⊎_elim
        (λ (s : Has (keys (w ∷ ws)) k). ⊎_elim (λ (same : w.key ≡ k). absurd (true≢false (sym (eq-eqb w.key k same) ∙ e))) (λ (t : Has (keys ws) k). up.0 k t) s)
        (λ (low : (i : ℕ) → Has (keys (w ∷ ws)) i → i < k). low w.key (inl refl)) may

    by : (b : Bool) → nat_eq w.key k ≡ b
        → Below (let r = (if b then row (Some (between run x w.run)) ws else ahead run w.key w.goes_on (placed w.run ws k x)) in r.run)
        (keys (let r = (if b then row (Some (between run x w.run)) ws else ahead run w.key w.goes_on (placed w.run ws k x)) in r.waits)) (k ∷ arrived)
    by true e = (k, inl refl, λ i s. (let l = up.0 i s in let same = eqb-true w.key k e in omega (arith, l, same)))
    by false e = below_later run w.key k (keys ws) (keys (let r = placed w.run ws k x in r.waits)) arrived below (first_less e)
        (λ i s. dropped_has k (keys ws) i (subst (λ (ks : List ℕ). Has ks i) (keys_placed w.run ws k x) s))

-- which key is the lowest
lowest_is : (run : Run) (ws : List Wait) (k : ℕ) (stolen arrived : List ℕ) → Ascend (keys ws) → Below run (keys ws) arrived → ((i : ℕ) → Has (keys ws) i → Has stolen i)
    → ((i : ℕ) → Has stolen i → Has (keys ws) i ⊎ Has arrived i) → Has (keys ws) k ⊎ ((i : ℕ) → Has arrived i ⊎ Has stolen i → i < k)
    → IsBeforeAll run ws k ↔ ((i : ℕ) → Has arrived i ⊎ Has stolen i → k ≤ i)
lowest_is None [] k stolen arrived up below from there may = (
  λ _ i s. absurd (⊎_elim (λ (t : Has arrived i). below i t) (λ (t : Has stolen i). ⊎_elim (λ (none : ⊥). none) (λ (u : Has arrived i). below i u) (there i t)) s),
  λ _. tt,
)
lowest_is None (w ∷ ws) k stolen arrived up below from there may = (
  λ (low : w.key ≡ k) i s.
      let came : Has arrived i → k ≤ i = λ t. (let l = below i t in omega (arith, l, low)) in
      ⊎_elim came
      (λ (t : Has stolen i). ⊎_elim
      (λ (v : Has (keys (w ∷ ws)) i). ⊎_elim (λ (same : w.key ≡ i). omega (arith, low, same)) (λ (u : Has (keys ws) i). let l = up.0 i u in omega (arith, l, low)) v)
      came (there i t)) s,
  λ (all : (i : ℕ) → Has arrived i ⊎ Has stolen i → k ≤ i).
      let first : Has stolen w.key = from w.key (inl refl) in
      let le = all w.key (inr first) in
      ⊎_elim
      (λ (v : Has (keys (w ∷ ws)) k). ⊎_elim (λ (same : w.key ≡ k). same) (λ (u : Has (keys ws) k). let l = up.0 k u in omega (arith, l, le)) v)
      (λ (low : (i : ℕ) → Has arrived i ⊎ Has stolen i → i < k). let l = low w.key (inr first) in omega (arith, l, le)) may,
)
lowest_is (Some p) ws k stolen arrived up below from there may = (
  λ none. absurd none,
  λ (all : (i : ℕ) → Has arrived i ⊎ Has stolen i → k ≤ i).
      let le = all below.0 (inl below.1) in
      ⊎_elim
      (λ (v : Has (keys ws) k). let l = below.2 k v in omega (arith, l, le))
      (λ (low : (i : ℕ) → Has arrived i ⊎ Has stolen i → i < k). let l = low below.0 (inl below.1) in omega (arith, l, le)) may,
)

-- ---- what holds of a box

abbrev waits_of : BoxValue → List Wait
waits_of j = let r = j.rows in let w = r.row in w.waits

abbrev run_of : BoxValue → Run
run_of j = let r = j.rows in let w = r.row in w.run

abbrev keys_in : BoxValue → List ℕ
keys_in j = keys (waits_of j)

-- these keys were stolen, these have arrived, and these are the sync's own
record Holds (j : BoxValue) (stolen arrived : List ℕ) (Own : ℕ → Type 0) : Type 0 where
  stolen_low : (k : ℕ) → Has stolen k → k ≤ j.stolen
  arrived_low : (k : ℕ) → Has arrived k → k ≤ j.arrived
  arrived_is : (j.arrived ≡ 0) ⊎ Has arrived j.arrived
  awaited : (k : ℕ) → Has (keys_in j) k → Has stolen k × (Has arrived k → ⊥)
  there : (k : ℕ) → Has stolen k → Has (keys_in j) k ⊎ Has arrived k
  own : (k : ℕ) → Own k → (j.closed ≡ true) × (j.stolen < k) × (j.arrived ≤ k)
  closed : j.closed ≡ true → (k : ℕ) × Own k
  once : IsOnce arrived
  apart : IsOnce (keys_in j)
  ends : j.closed ≡ true → Closes (run_of j) (waits_of j) j.sync

-- its keys are in order
record Ordered (j : BoxValue) (arrived : List ℕ) : Type 0 where
  ascend : Ascend (keys_in j)
  below : Below (run_of j) (keys_in j) arrived

opens : (y : RunValue) (u : ReplayValue) (sync : ℕ) → Holds (opening y u sync) [] [] (λ k. ⊥)
opens y u sync = record {
  stolen_low = λ k s. absurd s;
  arrived_low = λ k s. absurd s;
  arrived_is = inl refl;
  awaited = λ k s. absurd s;
  there = λ k s. absurd s;
  own = λ k o. absurd o;
  closed = λ is. absurd (true≢false (sym is));
  once = tt;
  apart = tt;
  ends = λ is. absurd (true≢false (sym is));
}

greatest : (a k : ℕ) → (((if nat_lt a k then k else a) ≡ k) × (a < k)) ⊎ (((if nat_lt a k then k else a) ≡ a) × (k ≤ a))
greatest a k = by (nat_lt a k) refl
  where
    by : (b : Bool) → nat_lt a k ≡ b → (((if b then k else a) ≡ k) × (a < k)) ⊎ (((if b then k else a) ≡ a) × (k ≤ a))
    by true e = inl (refl, ltb-true a k e)
    by false e = inr (refl, ltb-false a k e)

module _ (j : BoxValue) (stolen arrived : List ℕ) (Own : ℕ → Type 0) (h : Holds j stolen arrived Own) where
  low_awaited : (k : ℕ) → Has (keys_in j) k → k ≤ j.stolen
  low_awaited k s = let a = h.awaited k s in h.stolen_low k a.0

  -- ---- a steal

  module _ (k a : ℕ) (may : IsOpen j k a) where
    not_closed : {X : Type 0} → j.closed ≡ true → X
    not_closed is = absurd (true≢false (sym is ∙ may.0))

    low_stolen : (i : ℕ) → Has (k ∷ stolen) i → i ≤ k
    low_stolen i s = let l = may.1 in ⊎_elim (λ (same : k ≡ i). omega (arith, same)) (λ (t : Has stolen i). let m = h.stolen_low i t in omega (arith, m, l)) s

    less : nat_eq j.arrived k ≡ false → j.arrived < k
    less e = ⊎_elim (λ (l : j.arrived < k). l) (λ (g : k ≤ j.arrived).
        let low = may.2 in
        let same : j.arrived ≡ k = omega (arith, g, low) in
        absurd (true≢false (sym (eq-eqb j.arrived k same) ∙ e))) (cases j.arrived k)
      where
        cases : (m n : ℕ) → (m < n) ⊎ (n ≤ m)
        cases m n = ⊎_elim (λ (g : _). inl g.1) (λ (g : _). inr g.1) (greatest m n)

    stolen_by : Bool → BoxValue
    stolen_by b = record j { rows = if b then j.rows else awaiting j.rows k a; stolen = k }

    steal_case : (b : Bool) → nat_eq j.arrived k ≡ b → Holds (record j { rows = if b then j.rows else awaiting j.rows k a; stolen = k }) (k ∷ stolen) arrived Own
    steal_case true e = record {
      stolen_low = low_stolen;
      arrived_low = h.arrived_low;
      arrived_is = h.arrived_is;
      awaited = λ i s. (let b = h.awaited i s in (inr b.0, b.1));
      there = λ i s. ⊎_elim
          (λ (same : k ≡ i). inr (⊎_elim
          (λ (none : j.arrived ≡ 0). absurd (let l = may.1 in let z : j.arrived ≡ k = eqb-true j.arrived k e in omega (arith, none, l, z)))
          (λ (t : Has arrived j.arrived). subst (Has arrived) (eqb-true j.arrived k e ∙ same) t)
          h.arrived_is))
          (λ (t : Has stolen i). h.there i t) s;
      own = λ i o. (let b = h.own i o in not_closed b.0);
      closed = h.closed;
      once = h.once;
      apart = h.apart;
      ends = λ is. not_closed is;
    }
    steal_case false e = record {
      stolen_low = low_stolen;
      arrived_low = h.arrived_low;
      arrived_is = h.arrived_is;
      awaited = λ i s. ⊎_elim
          (λ (t : Has (keys_in j) i). (let b = h.awaited i t in (inr b.0, b.1)))
          (λ (same : k ≡ i). (inl same, λ t. (let l = less e in let m = h.arrived_low i t in omega (arith, l, m, same))))
          (more_split (keys_in j) k i (subst (λ (ks : List ℕ). Has ks i) (keys_more (waits_of j) k a) s));
      there = λ i s. ⊎_elim
          (λ (same : k ≡ i). inl (subst (λ (ks : List ℕ). Has ks i) (sym (keys_more (waits_of j) k a)) (more_last (keys_in j) k i same)))
          (λ (t : Has stolen i). ⊎_elim
          (λ (w : Has (keys_in j) i). inl (subst (λ (ks : List ℕ). Has ks i) (sym (keys_more (waits_of j) k a)) (more_left (keys_in j) k i w)))
          (λ (came : Has arrived i). inr came)
          (h.there i t)) s;
      own = λ i o. (let b = h.own i o in not_closed b.0);
      closed = h.closed;
      once = h.once;
      apart = subst IsOnce (sym (keys_more (waits_of j) k a)) (more_once (keys_in j) k h.apart (λ s. (let m = low_awaited k s in let l = may.1 in omega (arith, m, l))));
      ends = λ is. not_closed is;
    }

    steals : Holds (stolen_at j k a) (k ∷ stolen) arrived Own
    steals = steal_case (nat_eq j.arrived k) refl

    order_case : Ordered j arrived → (b : Bool) → nat_eq j.arrived k ≡ b → Ordered (record j { rows = if b then j.rows else awaiting j.rows k a; stolen = k }) arrived
    order_case o true e = record { ascend = o.ascend; below = o.below }
    order_case o false e = record {
      ascend = subst Ascend (sym (keys_more (waits_of j) k a)) (ascend_more (keys_in j) k o.ascend (λ i s. (let m = low_awaited i s in let l = may.1 in omega (arith, m, l))));
      below = subst (λ (ks : List ℕ). Below (run_of j) ks arrived) (sym (keys_more (waits_of j) k a))
          (below_more (run_of j) (keys_in j) arrived k o.below (λ i s. (let m = h.arrived_low i s in let l = less e in omega (arith, m, l))));
    }

    steal_ordered : Ordered j arrived → Ordered (stolen_at j k a) arrived
    steal_ordered o = order_case o (nat_eq j.arrived k) refl

  -- ---- an arrival

  module _ (k : ℕ) (x : PieceValue) (last : Bool) (may : Has (keys_in j) k ⊎ IsFresh j k) where
    abbrev after : BoxValue
    after = arrived_at j k x last

    not_yet : Has arrived k → ⊥
    not_yet t = ⊎_elim
        (λ (s : Has (keys_in j) k). (let b = h.awaited k s in b.1 t))
        (λ (fresh : IsFresh j k). let l = fresh.2 in let m = h.arrived_low k t in omega (arith, l, m)) may

    keys_are : keys_in after ≡ dropped k (keys_in j)
    keys_are = keys_placed (run_of j) (waits_of j) k x

    arrive_ordered : Ordered j arrived → Ordered after (k ∷ arrived)
    arrive_ordered o = record {
      ascend = subst Ascend (sym keys_are) (ascend_dropped k (keys_in j) o.ascend);
      below = below_placed (run_of j) (waits_of j) k x arrived o.ascend o.below
          (⊎_elim (λ (s : Has (keys_in j) k). inl s) (λ (fresh : IsFresh j k). inr (λ i s. (let m = low_awaited i s in let l = fresh.1 in omega (arith, m, l)))) may);
    }

    arrives : (Own' : ℕ → Type 0) → ((i : ℕ) → Own' i → (after.closed ≡ true) × (after.stolen < i) × (after.arrived ≤ i)) → (after.closed ≡ true → (i : ℕ) × Own' i)
        → (after.closed ≡ true → Closes (run_of after) (waits_of after) after.sync) → Holds after stolen (k ∷ arrived) Own'
    arrives Own' own closed ends = record {
      stolen_low = h.stolen_low;
      arrived_low = λ i s. ⊎_elim
          (λ (g : _). let e = g.0 in let l = g.1 in ⊎_elim (λ (same : k ≡ i). omega (arith, e, same)) (λ (t : Has arrived i). let m = h.arrived_low i t in omega (arith, e, l, m)) s)
          (λ (g : _). let e = g.0 in let l = g.1 in ⊎_elim (λ (same : k ≡ i). omega (arith, e, l, same)) (λ (t : Has arrived i). let m = h.arrived_low i t in omega (arith, e, m)) s)
          (greatest j.arrived k);
      arrived_is = ⊎_elim
          (λ (g : _). inr (inl (sym g.0)))
          (λ (g : _). ⊎_elim (λ (none : j.arrived ≡ 0). inl (g.0 ∙ none)) (λ (t : Has arrived j.arrived). inr (inr (subst (Has arrived) (sym g.0) t))) h.arrived_is)
          (greatest j.arrived k);
      awaited = λ i s. (
          let d : Has (dropped k (keys_in j)) i = subst (λ (ks : List ℕ). Has ks i) keys_are s in
          let b = h.awaited i (dropped_has k (keys_in j) i d) in
          (b.0, λ t. ⊎_elim (λ (same : k ≡ i). dropped_gone k (keys_in j) h.apart (subst (Has (dropped k (keys_in j))) (sym same) d)) (λ (u : Has arrived i). b.1 u) t)
          );
      there = λ i s. ⊎_elim
          (λ (w : Has (keys_in j) i). by i w (nat_eq i k) refl)
          (λ (t : Has arrived i). inr (inr t))
          (h.there i s);
      own = own;
      closed = closed;
      once = (not_yet, h.once);
      apart = subst IsOnce (sym keys_are) (dropped_once k (keys_in j) h.apart);
      ends = ends;
    }
      where
        by : (i : ℕ) → Has (keys_in j) i → (b : Bool) → nat_eq i k ≡ b → Has (keys_in after) i ⊎ Has (k ∷ arrived) i
        by i w true e = inr (inl (sym (eqb-true i k e)))
        by i w false e = inl (subst (λ (ks : List ℕ). Has ks i) (sym keys_are) (dropped_other k (keys_in j) i (λ same. true≢false (sym (eq-eqb i k same) ∙ e)) w))

  comes : (k : ℕ) (x : PieceValue) (c : Option ChainValue) → MayArrive j k x c → Has (keys_in j) k ⊎ IsFresh j k
  comes k x None may = ⊎_elim (λ (s : Stands (waits_of j) k). inl (stands_has (waits_of j) k s)) (λ (fresh : IsFresh j k). inr fresh) may
  comes k x (Some c) may = inr may.0

  lowest : Ordered j arrived → (k : ℕ) (x : PieceValue) (c : Option ChainValue) → MayArrive j k x c → IsBeforeAll (run_of j) (waits_of j) k ↔ ((i : ℕ) → Has arrived i ⊎ Has stolen i → k ≤ i)
  lowest o k x c may = lowest_is (run_of j) (waits_of j) k stolen arrived o.ascend o.below (λ i s. (let a = h.awaited i s in a.0)) h.there
      (⊎_elim (λ (s : Has (keys_in j) k). inl s)
      (λ (fresh : IsFresh j k). inr (λ i s. ⊎_elim (λ (t : Has arrived i). let m = h.arrived_low i t in let l = fresh.2 in omega (arith, m, l)) (λ (t : Has stolen i). let m = h.stolen_low i t in let l = fresh.1 in omega (arith, m, l)) s))
      (comes k x c may))

  child_arrives : (k : ℕ) (x : PieceValue) → MayArrive j k x None → Holds (arrived_at j k x false) stolen (k ∷ arrived) Own
  child_arrives k x may = arrives k x false may' Own
      (λ i o. (
      let b = h.own i o in
      let less = b.1 in
      let most = b.2 in
      let low : k < i = ⊎_elim
      (λ (s : Has (keys_in j) k). let m = low_awaited k s in omega (arith, m, less))
      (λ (fresh : IsFresh j k). absurd (true≢false (sym b.0 ∙ fresh.0))) may' in
      (b.0, b.1, ⊎_elim (λ (g : _). let e = g.0 in omega (arith, e, low)) (λ (g : _). let e = g.0 in omega (arith, e, most)) (greatest j.arrived k))
      ))
      h.closed
      (λ is. ⊎_elim
      (λ (s : Has (keys_in j) k). closes_on (run_of j) (waits_of j) k x j.sync (has_stands (waits_of j) k s) (h.ends is))
      (λ (fresh : IsFresh j k). absurd (true≢false (sym is ∙ fresh.0))) may')
    where
      may' : Has (keys_in j) k ⊎ IsFresh j k
      may' = ⊎_elim (λ (s : Stands (waits_of j) k). inl (stands_has (waits_of j) k s)) (λ (fresh : IsFresh j k). inr fresh) may

  own_arrives : (k : ℕ) (x : PieceValue) (c : ChainValue) → MayArrive j k x (Some c) → Holds (arrived_at j k x true) stolen (k ∷ arrived) (λ i. (k ≡ i) ⊎ Own i)
  own_arrives k x c may = arrives k x true (inr may.0) (λ i. (k ≡ i) ⊎ Own i)
      (λ i o. ⊎_elim
      (λ (same : k ≡ i).
      let f = may.0 in
      let l = f.1 in
      let m = f.2 in
      (refl, omega (arith, l, same), ⊎_elim (λ (g : _). let e = g.0 in omega (arith, e, same)) (λ (g : _). let e = g.0 in omega (arith, e, m, same)) (greatest j.arrived k)))
      (λ (before : Own i). (let b = h.own i before in let f = may.0 in absurd (true≢false (sym b.0 ∙ f.0)))) o)
      (λ is. (k, inl refl))
      (λ is. (let r = may.1 in closes_last (run_of j) (waits_of j) k x j.sync r.3 r.2))

  -- ---- where it passes

  abbrev AllHere : Type 0
  AllHere = ((k : ℕ) × Own k) × ((k : ℕ) → Has stolen k → Has arrived k)

  upto_there : (run : Run) (s : ℕ) → IsUpTo run s → is_there run ≡ true
  upto_there None s up = absurd up
  upto_there (Some p) s up = refl

  from_parts : (closed : Bool) (run : Run) (ws : List Wait) → (if closed then (if is_empty ws then is_there run else false) else false) ≡ true → (closed ≡ true) × (ws ≡ [])
  from_parts true run [] is = (refl, refl)
  from_parts true run (w ∷ ws) is = absurd (true≢false (sym is))
  from_parts false run ws is = absurd (true≢false (sym is))

  all_here : passes j ≡ true → AllHere
  all_here is =
      let parts = from_parts j.closed (run_of j) (waits_of j) is in (
        h.closed parts.0,
        λ k s. ⊎_elim (λ (w : Has (keys_in j) k). absurd (subst (λ (ws : List Wait). Has (keys ws) k) parts.1 w)) (λ (came : Has arrived k). came) (h.there k s),
      )

  none_awaited : (ws : List Wait) → ((k : ℕ) → Has (keys ws) k → ⊥) → ws ≡ []
  none_awaited [] none = refl
  none_awaited (w ∷ ws) none = absurd (none w.key (inl refl))

  here_passes : AllHere → passes j ≡ true
  here_passes all =
      let own = all.0 in
      let b = h.own own.0 own.1 in
      let none : waits_of j ≡ [] = none_awaited (waits_of j) (λ k s. (let w = h.awaited k s in w.1 (all.1 k w.0))) in
      let ends : Closes (run_of j) [] j.sync = subst (λ (ws : List Wait). Closes (run_of j) ws j.sync) none (h.ends b.0) in
      ap (λ (t : Bool). if t then (if is_empty (waits_of j) then is_there (run_of j) else false) else false) b.0
      ∙ ap (λ (ws : List Wait). if is_empty ws then is_there (run_of j) else false) none
      ∙ upto_there (run_of j) j.sync ends

-- ---- after every history

module _ (y : RunValue) (u : ReplayValue) (sync : ℕ) where
  holds : (steps : List BoxStep) → IsHistory y u sync steps → Holds (joined y u sync steps) (stolen_keys steps) (arrived_keys steps) (IsOwn steps)
  holds [] tt = opens y u sync
  holds (Steals k a ∷ steps) (before, may) = steals (joined y u sync steps) (stolen_keys steps) (arrived_keys steps) (IsOwn steps) (holds steps before) k a may
  holds (Arrives k x None ∷ steps) (before, may) = child_arrives (joined y u sync steps) (stolen_keys steps) (arrived_keys steps) (IsOwn steps) (holds steps before) k x may
  holds (Arrives k x (Some c) ∷ steps) (before, may) = own_arrives (joined y u sync steps) (stolen_keys steps) (arrived_keys steps) (IsOwn steps) (holds steps before) k x c may

  ordered : (steps : List BoxStep) → IsHistory y u sync steps → Ordered (joined y u sync steps) (arrived_keys steps)
  ordered [] tt = record { ascend = tt; below = λ i s. s }
  ordered (Steals k a ∷ steps) (before, may) = steal_ordered (joined y u sync steps) (stolen_keys steps) (arrived_keys steps) (IsOwn steps) (holds steps before) k a may (ordered steps before)
  ordered (Arrives k x c ∷ steps) (before, may) =
      let j = joined y u sync steps in
      let h = holds steps before in
      arrive_ordered j (stolen_keys steps) (arrived_keys steps) (IsOwn steps) h k x (is_some c) (comes j (stolen_keys steps) (arrived_keys steps) (IsOwn steps) h k x c may) (ordered steps before)

pub laws : BoxesHaveLaws
laws y u sync steps history =
    let j = joined y u sync steps in
    let h = holds y u sync steps history in
    record {
      once = h.once;
      own_is_last = λ k o i s. (
          let b = h.own k o in
          let less = b.1 in
          let most = b.2 in
          ⊎_elim (λ (came : Has (arrived_keys steps) i). let m = h.arrived_low i came in omega (arith, m, most)) (λ (t : Has (stolen_keys steps) i). let m = h.stolen_low i t in omega (arith, m, less)) s
          );
      awaited = λ k. (
        λ s. h.awaited k (stands_has (waits_of j) k s),
        λ s. ⊎_elim (λ (w : Has (keys_in j) k). has_stands (waits_of j) k w) (λ (came : Has (arrived_keys steps) k). absurd (s.1 came)) (h.there k s.0),
      );
      lowest = lowest j (stolen_keys steps) (arrived_keys steps) (IsOwn steps) h (ordered y u sync steps history);
      passes_with_all = (
        λ is. all_here j (stolen_keys steps) (arrived_keys steps) (IsOwn steps) h is,
        λ all. here_passes j (stolen_keys steps) (arrived_keys steps) (IsOwn steps) h all,
      );
    }

pub answers : ArrivalsAnswer
answers y u sync steps history boxes.Waits left is = λ all. true≢false (sym ((laws y u sync steps history).passes_with_all.1 all) ∙ is.0)
answers y u sync steps history (boxes.Passes p c) left is = (laws y u sync steps history).passes_with_all.0 is.0
