-- What is told of an earlier line by its position is true: `order_is_told`. So positions keep and find what histories with Hebrew numbers do:
-- `races_alike`, `histories_alike`.
use Rattle.std.proofs.Common.{◌≡◌, ℕ, zero, suc, ◌<◌, ◌≤◌, Bool, true, false, cond, List, ◌∷◌, ◌++◌, length, refl, sym, ◌∙◌, ap, ap₂, subst, arith, inl, inr}
use Rattle.std.proofs.lemmas.Bool.{cases_lt, lt-ltb, le-ltb, le-leb, lt-leb}
use Rattle.cilk_tree.specs.Shape.{Shape, SpellsMarks}
use Rattle.cilk_tree.specs.Tree.{Tree, tree}
use Rattle.cilk_tree.specs.Hebrew.{hebrew}
use Rattle.cilk_trace.specs.declared.line.Line.{Line}
use Rattle.cilk_trace.specs.declared.histories.Kind.TheVariants.{Read, Write, Clear}
use Rattle.cilk_trace.specs.declared.intervals.Order.{Order}
use Rattle.cilk_trace.specs.declared.intervals.Order.TheVariants as orders
use Rattle.cilk_trace.specs.Accesses.{number}
use Rattle.cilk_trace.specs.Frames.{Nests}
use Rattle.cilk_trace.specs.Histories.{Kept, History, better, above}
use Rattle.cilk_trace.specs.IntervalStacks.{IntervalStack, is_among, order_at}
use Rattle.cilk_trace.specs.Marks.{marks_of}
use Rattle.cilk_trace.specs.Joined.{joined_opened, stack_at}
use Rattle.cilk_trace.specs.Positions.{raised, renewed, raced, IsOrder, IsPast, OrderIsTold, kept_at, RacesAlike, HistoriesAlike}
use Rattle.cilk_trace.proofs.Strands.{number_positive}
use Rattle.cilk_trace.proofs.Joined.{joined_is_kept, joined_is_open}
use Rattle.cilk_trace.proofs.OpenedOrder.{opened_is_greater, first_is_current, others_are_less}

by_open : (t : Tree) (ls : List Line) (j n : ℕ) (b : Bool) → (b ≡ true → number t ls n < number t ls j) → (b ≡ false → number t ls j < number t ls n)
    → IsOrder t ls j n (cond b orders.Parallel orders.Series)
by_open t ls j n true f g = f refl
by_open t ls j n false f g = g refl

pub order_is_told : OrderIsTold
order_is_told s done more l nests spells j m inside =
    let ls : List Line = done ++ l ∷ more in
    let n : ℕ = length done in
    let first : ℕ = (joined_opened done).first in
    let joined = joined_is_open done in
    let e = joined.0 in
    let among : Bool = is_among (stack_at done).children j in
    let known = (joined_is_kept done).1 j in
    let same = joined.1 j inside in
    elim (cases_lt j first) [
      | inl k ↦ (let t = lt-ltb j first k in
          subst (λ (b : Bool). IsOrder (tree s) ls j n (cond b (cond among orders.Parallel orders.Series) orders.Same)) (sym t)
          (by_open (tree s) ls j n among (λ f. (opened_is_greater s done more l nests spells j m).0 (same.1 (known.0 f)))
          (λ f. (others_are_less s done more l nests spells j m).1 (omega (arith, k, e), λ o. (let c : true ≡ false = sym (known.1 (same.0 o)) ∙ f in absurd (cc c))))))
      | inr k ↦ (let t = le-ltb j first k in
          subst (λ (b : Bool). IsOrder (tree s) ls j n (cond b (cond among orders.Parallel orders.Series) orders.Same)) (sym t)
          ((first_is_current done (l ∷ more) j m).0 (omega (arith, k, e))))
    ]

-- ---- one kept access

raised_by : (t : Tree) (ls : List Line) (i n : ℕ) (o : Order) → IsOrder t ls i n o → kept_at t ls (raised o (suc i) (suc n)) ≡ better (kept_at t ls (suc i)) (kept_at t ls (suc n))
raised_by t ls i n orders.Series h = let q = lt-ltb (number t ls i) (number t ls n) h in rw q refl
raised_by t ls i n orders.Same h = let e = ap (hebrew t) h in let q = le-ltb (number t ls i) (number t ls n) (omega (arith, e)) in rw q refl
raised_by t ls i n orders.Parallel h = let q = le-ltb (number t ls i) (number t ls n) (omega (arith, h)) in rw q refl

raced_by : (t : Tree) (ls : List Line) (i n : ℕ) (o : Order) → IsOrder t ls i n o → kept_at t ls (raced o (suc i)) ≡ above (kept_at t ls (suc i)) (number t ls n)
raced_by t ls i n orders.Series h = let q = le-ltb (number t ls n) (number t ls i) (omega (arith, h)) in rw q refl
raced_by t ls i n orders.Same h = let e = ap (hebrew t) h in let q = le-ltb (number t ls n) (number t ls i) (omega (arith, e)) in rw q refl
raced_by t ls i n orders.Parallel h = let q = lt-ltb (number t ls n) (number t ls i) h in rw q refl

-- a trace that begins with these lines and one more
record Begins (s : Shape) (done more : List Line) (l : Line) : Type 0 where
  nests : Nests 0 (done ++ l ∷ more)
  spells : SpellsMarks s (marks_of (done ++ l ∷ more))

raised_kept : (s : Shape) (done more : List Line) (l : Line) → Begins s done more l → (at : ℕ) → IsPast done at
    → kept_at (tree s) (done ++ l ∷ more) (raised (order_at (stack_at done) at) at (suc (length done)))
    ≡ better (kept_at (tree s) (done ++ l ∷ more) at) (kept_at (tree s) (done ++ l ∷ more) (suc (length done)))
raised_kept s done more l b zero le =
    let p = number_positive s (done ++ l ∷ more) b.spells (length done) in
    let q = lt-ltb 0 (number (tree s) (done ++ l ∷ more) (length done)) (omega (arith, p)) in
    rw q refl
raised_kept s done more l b (suc i) le =
    raised_by (tree s) (done ++ l ∷ more) i (length done) (order_at (stack_at done) (suc i)) (order_is_told s done more l b.nests b.spells i le.0 le.1)

raced_kept : (s : Shape) (done more : List Line) (l : Line) → Begins s done more l → (at : ℕ) → IsPast done at
    → kept_at (tree s) (done ++ l ∷ more) (raced (order_at (stack_at done) at) at)
    ≡ above (kept_at (tree s) (done ++ l ∷ more) at) (number (tree s) (done ++ l ∷ more) (length done))
raced_kept s done more l b zero le = let q = le-ltb (number (tree s) (done ++ l ∷ more) (length done)) 0 (omega arith) in rw q refl
raced_kept s done more l b (suc i) le =
    raced_by (tree s) (done ++ l ∷ more) i (length done) (order_at (stack_at done) (suc i)) (order_is_told s done more l b.nests b.spells i le.0 le.1)

pub races_alike : RacesAlike
races_alike s done more l nests spells Read p w = raced_kept s done more l (record { nests = nests; spells = spells }) p.write w.write
races_alike s done more l nests spells Write p w = raced_kept s done more l (record { nests = nests; spells = spells }) p.access w.access
races_alike s done more l nests spells Clear p w = let q = le-ltb (number (tree s) (done ++ l ∷ more) (length done)) 0 (omega arith) in rw q refl

-- ---- where nothing races

renewed_by : (at here : ℕ) (among : Bool) → raced (cond among orders.Parallel orders.Series) (suc at) ≡ 0 → here ≡ raised (cond among orders.Parallel orders.Series) (suc at) here
renewed_by at here true h = absurd (omega (arith, h))
renewed_by at here false h = refl

renewed_raised : (o : IntervalStack) (at here : ℕ) → raced (order_at o at) at ≡ 0 → renewed o at here ≡ raised (order_at o at) at here
renewed_raised o zero here h = let q = le-leb 0 o.first (omega arith) in rw q refl
renewed_raised o (suc i) here h = elim (cases_lt i o.first) [
  | inl k ↦ (let q = lt-ltb i o.first k in
      let r = le-leb (suc i) o.first (omega (arith, k)) in
      let order : Order = cond (is_among o.children i) orders.Parallel orders.Series in
      let g : raced order (suc i) ≡ 0 = subst (λ (b : Bool). raced (cond b order orders.Same) (suc i) ≡ 0) q h in
      ap (λ (b : Bool). cond b here (suc i)) r
      ∙ (renewed_by i here (is_among o.children i) g ∙ ap (λ (b : Bool). raised (cond b order orders.Same) (suc i) here) (sym q)))
  | inr k ↦ (let q = le-ltb i o.first k in
      let r = lt-leb (suc i) o.first (omega (arith, k)) in
      let order : Order = cond (is_among o.children i) orders.Parallel orders.Series in
      ap (λ (b : Bool). cond b here (suc i)) r ∙ ap (λ (b : Bool). raised (cond b order orders.Same) (suc i) here) (sym q))
]

-- a kept access that isn't parallel has no greater number than the current strand
not_greater : (t : Tree) (ls : List Line) (i n : ℕ) (o : Order) → IsOrder t ls i n o → raced o (suc i) ≡ 0 → number t ls i ≤ number t ls n
not_greater t ls i n orders.Series h r = omega (arith, h)
not_greater t ls i n orders.Same h r = let e = ap (hebrew t) h in omega (arith, e)
not_greater t ls i n orders.Parallel h r = absurd (omega (arith, r))

not_parallel : (t : Tree) (ls : List Line) (i n : ℕ) (o : Order) → IsOrder t ls i n o → number t ls i ≤ number t ls n → raced o (suc i) ≡ 0
not_parallel t ls i n orders.Series h le = refl
not_parallel t ls i n orders.Same h le = refl
not_parallel t ls i n orders.Parallel h le = absurd (omega (arith, h, le))

-- where the kept access doesn't race, the kept write doesn't
write_apart : (s : Shape) (done more : List Line) (l : Line) → Begins s done more l → (write access : ℕ) → IsPast done write → IsPast done access
    → (kept_at (tree s) (done ++ l ∷ more) write).hebrew ≤ (kept_at (tree s) (done ++ l ∷ more) access).hebrew
    → raced (order_at (stack_at done) access) access ≡ 0 → raced (order_at (stack_at done) write) write ≡ 0
write_apart s done more l b zero access lw la le h = refl
write_apart s done more l b (suc w) zero lw la le h = let p = number_positive s (done ++ l ∷ more) b.spells w in absurd (omega (arith, p, le))
write_apart s done more l b (suc w) (suc a) lw la le h =
    let ls : List Line = done ++ l ∷ more in
    let n : ℕ = length done in
    let g = not_greater (tree s) ls a n (order_at (stack_at done) (suc a)) (order_is_told s done more l b.nests b.spells a la.0 la.1) h in
    not_parallel (tree s) ls w n (order_at (stack_at done) (suc w)) (order_is_told s done more l b.nests b.spells w lw.0 lw.1) (omega (arith, g, le))

renewed_kept : (s : Shape) (done more : List Line) (l : Line) → Begins s done more l → (at : ℕ) → IsPast done at → raced (order_at (stack_at done) at) at ≡ 0
    → kept_at (tree s) (done ++ l ∷ more) (renewed (stack_at done) at (suc (length done)))
    ≡ better (kept_at (tree s) (done ++ l ∷ more) at) (kept_at (tree s) (done ++ l ∷ more) (suc (length done)))
renewed_kept s done more l b at le h =
    ap (kept_at (tree s) (done ++ l ∷ more)) (renewed_raised (stack_at done) at (suc (length done)) h) ∙ raised_kept s done more l b at le

abbrev history : Kept → Kept → History
history w a = record { write = w; access = a }

pub histories_alike : HistoriesAlike
histories_alike s done more l nests spells Read p w le h =
    ap (history (kept_at (tree s) (done ++ l ∷ more) p.write)) (raised_kept s done more l (record { nests = nests; spells = spells }) p.access w.access)
histories_alike s done more l nests spells Write p w le h =
    let b : Begins s done more l = record { nests = nests; spells = spells } in
    ap₂ history (renewed_kept s done more l b p.write w.write (write_apart s done more l b p.write p.access w.write w.access le h)) (renewed_kept s done more l b p.access w.access h)
histories_alike s done more l nests spells Clear p w le h = refl
