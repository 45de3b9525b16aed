-- The children that are kept ascend, and a line is among them exactly where it is in an open interval: `kept_by`. `among_told`: `is_among`
-- tells whether a line is in one of them.
use Rattle.std.proofs.Common.{◌≡◌, ℕ, zero, suc, ◌<◌, ◌≤◌, List, [], ◌∷◌, ◌++◌, length, refl, sym, ◌∙◌, ap, subst, arith, append_assoc, append-nil, length-append, ◌⊎◌, inl, inr, ◌↔◌, Bool, true, false, ◌&&◌, nat_lt}
use Rattle.std.specs.Prelude.{nat_le, ◌||◌}
use Rattle.std.proofs.lemmas.Bool.{cases_lt, lt-ltb, ltb-true, le-leb, leb-true}
use Rattle.cilk_trace.specs.declared.intervals.Child.{Child}
use Rattle.cilk_trace.specs.Opened.{Frame, Open, InChildren, InOuter, IsOpen, Descends, least, DescendsOuter, IsSorted}
use Rattle.cilk_trace.specs.IntervalStacks.{ascending, ascending_outer, stack_of, child_at, is_among, IsAscending}

front : (cs : List Child) (k : Child) (i : ℕ) → i < length cs → child_at (cs ++ k ∷ []) i ≡ child_at cs i
front [] k i m = absurd (omega (arith, m))
front (c ∷ cs) k zero m = refl
front (c ∷ cs) k (suc i) m = front cs k i (omega (arith, m))

last : (cs : List Child) (k : Child) → child_at (cs ++ k ∷ []) (length cs) ≡ k
last [] k = refl
last (c ∷ cs) k = last cs k

last_at : (cs : List Child) (k : Child) (i : ℕ) → i ≡ length cs → child_at (cs ++ k ∷ []) i ≡ k
last_at cs k i e = ap (child_at (cs ++ k ∷ [])) e ∙ last cs k

record Below (cs : List Child) (n : ℕ) : Type 0 where
  rising : IsAscending cs
  below : (i : ℕ) → i < length cs → (child_at cs i).spawned < n

one_more : (cs : List Child) (k : Child) (n : ℕ) → Below cs k.enter → k.enter < k.spawned → k.spawned < n → Below (cs ++ k ∷ []) n
one_more cs k n b e s =
    let size = length-append cs (k ∷ []) in
    let here : (i : ℕ) → i < length (cs ++ k ∷ []) → (length cs ≤ i) → i ≡ length cs = λ i m q. omega (arith, m, q, size) in
    record {
      rising = record {
        each = λ i m. elim (cases_lt i (length cs)) [
          | inl q ↦ (let f = front cs k i q in let x = ap (λ (c : Child). c.enter) f in let y = ap (λ (c : Child). c.spawned) f in let z = b.rising.each i q in omega (arith, x, y, z))
          | inr q ↦ (let f = last_at cs k i (here i m q) in let x = ap (λ (c : Child). c.enter) f in let y = ap (λ (c : Child). c.spawned) f in omega (arith, x, y, e))
        ];
        apart = λ i j l m. elim (cases_lt j (length cs)) [
          | inl q ↦ (let f = front cs k i (omega (arith, l, q)) in let g = front cs k j q in let x = ap (λ (c : Child). c.spawned) f in let y = ap (λ (c : Child). c.enter) g in
              let z = b.rising.apart i j l q in omega (arith, x, y, z))
          | inr q ↦ (let w = here j m q in let v : i < length cs = omega (arith, l, w) in let f = front cs k i v in let g = last_at cs k j w in let x = ap (λ (c : Child). c.spawned) f in
              let y = ap (λ (c : Child). c.enter) g in let z = b.below i v in omega (arith, x, y, z))
        ];
      };
      below = λ i m. elim (cases_lt i (length cs)) [
        | inl q ↦ (let f = front cs k i q in let y = ap (λ (c : Child). c.spawned) f in let z = b.below i q in omega (arith, y, z, e, s))
        | inr q ↦ (let f = last_at cs k i (here i m q) in let y = ap (λ (c : Child). c.spawned) f in omega (arith, y, s))
      ];
    }

on_top : (base : List Child) (ks : List Child) (n : ℕ) → Below base (least n ks) → Descends n ks → Below (base ++ ascending ks) n
on_top base [] n b d = subst (λ (cs : List Child). Below cs n) (sym (append-nil base)) b
on_top base (k ∷ ks) n b d =
    subst (λ (cs : List Child). Below cs n) (append_assoc base (ascending ks) (k ∷ [])) (one_more (base ++ ascending ks) k n (on_top base ks k.enter b d.2) d.1 d.0)

raised_bound : (cs : List Child) (n m : ℕ) → n ≤ m → Below cs n → Below cs m
raised_bound cs n m le b = record { rising = b.rising; below = λ i q. let z = b.below i q in omega (arith, z, le) }

outside : (n : ℕ) (fs : List Frame) → DescendsOuter n fs → Below (ascending_outer fs) n
outside n [] d = record {
  rising = record { each = λ i m. absurd (omega (arith, m)); apart = λ i j l m. absurd (omega (arith, m)) };
  below = λ i m. absurd (omega (arith, m));
}
outside n (f ∷ fs) d =
    raised_bound (ascending_outer fs ++ ascending f.children) f.enter n (let x = d.0 in omega (arith, x)) (on_top (ascending_outer fs) f.children f.enter (outside (least f.enter f.children) fs d.2) d.1)

rises : (n : ℕ) (o : Open) → IsSorted n o → IsAscending (stack_of o).children
rises n o h = (on_top (ascending_outer o.outer) o.children n (outside (least n o.children) o.outer h.1) h.0).rising

-- ---- the same lines

-- line n is in one of the children
abbrev pub IsAmong : List Child → ℕ → Type 0
IsAmong cs n = (i : ℕ) × (i < length cs) × ((child_at cs i).enter < n) × (n ≤ (child_at cs i).spawned)

either : (a b : Bool) → (a || b) ≡ true → (a ≡ true) ⊎ (b ≡ true)
either true b h = inl refl
either false b h = inr h

both : (a b : Bool) → (a && b) ≡ true → (a ≡ true) × (b ≡ true)
both true b h = (refl, h)
both false b h = absurd (cc h)

either_second : (a b : Bool) → b ≡ true → (a || b) ≡ true
either_second true b h = refl
either_second false b h = h

among_true : (cs : List Child) (n : ℕ) → is_among cs n ≡ true → IsAmong cs n
among_true [] n h = absurd (cc h)
among_true (k ∷ ks) n h = elim (either (nat_lt k.enter n && nat_le n k.spawned) (is_among ks n) h) [
  | inl w ↦ (let v = both (nat_lt k.enter n) (nat_le n k.spawned) w in (0, omega arith, ltb-true k.enter n v.0, leb-true n k.spawned v.1))
  | inr w ↦ (let a = among_true ks n w in let m = a.1 in (suc a.0, omega (arith, m), a.2, a.3))
]

true_at : (cs : List Child) (n i : ℕ) → i < length cs → (child_at cs i).enter < n → n ≤ (child_at cs i).spawned → is_among cs n ≡ true
true_at [] n i m p q = absurd (omega (arith, m))
true_at (k ∷ ks) n zero m p q = (let t = lt-ltb k.enter n p in let u = le-leb n k.spawned q in rw t (rw u refl))
true_at (k ∷ ks) n (suc i) m p q = either_second (nat_lt k.enter n && nat_le n k.spawned) (is_among ks n) (true_at ks n i (omega (arith, m)) p q)

pub among_told : (cs : List Child) (n : ℕ) → (is_among cs n ≡ true) ↔ IsAmong cs n
among_told cs n = (among_true cs n, λ a. true_at cs n a.0 a.1 a.2 a.3)

among_one : (cs : List Child) (k : Child) (j : ℕ) → IsAmong (cs ++ k ∷ []) j → IsAmong cs j ⊎ ((k.enter < j) × (j ≤ k.spawned))
among_one cs k j a =
    let size = length-append cs (k ∷ []) in
    let m = a.1 in let p = a.2 in let q = a.3 in
    elim (cases_lt a.0 (length cs)) [
      | inl l ↦ (let f = front cs k a.0 l in let x = ap (λ (c : Child). c.enter) f in let y = ap (λ (c : Child). c.spawned) f in inl (a.0, l, omega (arith, x, p), omega (arith, y, q)))
      | inr l ↦ (let f = last_at cs k a.0 (omega (arith, m, l, size)) in let x = ap (λ (c : Child). c.enter) f in let y = ap (λ (c : Child). c.spawned) f in
          inr (omega (arith, x, p), omega (arith, y, q)))
    ]

one_among : (cs : List Child) (k : Child) (j : ℕ) → IsAmong cs j ⊎ ((k.enter < j) × (j ≤ k.spawned)) → IsAmong (cs ++ k ∷ []) j
one_among cs k j (inl a) =
    let size = length-append cs (k ∷ []) in
    let m = a.1 in let p = a.2 in let q = a.3 in
    let f = front cs k a.0 m in let x = ap (λ (c : Child). c.enter) f in let y = ap (λ (c : Child). c.spawned) f in (a.0, omega (arith, m, size), omega (arith, x, p), omega (arith, y, q))
one_among cs k j (inr w) =
    let size = length-append cs (k ∷ []) in
    let p = w.0 in let q = w.1 in
    let f = last cs k in let x = ap (λ (c : Child). c.enter) f in let y = ap (λ (c : Child). c.spawned) f in (length cs, omega (arith, size), omega (arith, x, p), omega (arith, y, q))

among_top : (base ks : List Child) (j : ℕ) → IsAmong (base ++ ascending ks) j ↔ (InChildren ks j ⊎ IsAmong base j)
among_top base [] j =
    let e = append-nil base in
    ((λ a. inr (subst (λ (cs : List Child). IsAmong cs j) e a)), λ h. elim h [ inl q ↦ absurd q | inr q ↦ subst (λ (cs : List Child). IsAmong cs j) (sym e) q ])
among_top base (k ∷ ks) j =
    let e = append_assoc base (ascending ks) (k ∷ []) in
    let r = among_top base ks j in (
      λ a. elim (among_one (base ++ ascending ks) k j (subst (λ (cs : List Child). IsAmong cs j) (sym e) a)) [
        | inl h ↦ elim (r.0 h) [ inl q ↦ inl (inr q) | inr q ↦ inr q ]
        | inr h ↦ inl (inl h)
      ],
      λ h. subst (λ (cs : List Child). IsAmong cs j) e (one_among (base ++ ascending ks) k j (elim h [
        | inl q ↦ elim q [ inl w ↦ inr w | inr w ↦ inl (r.1 (inl w)) ]
        | inr q ↦ inl (r.1 (inr q))
      ])),
    )

among_out : (fs : List Frame) (j : ℕ) → IsAmong (ascending_outer fs) j ↔ InOuter fs j
among_out [] j = ((λ a. let m = a.1 in absurd (omega (arith, m))), λ h. absurd h)
among_out (f ∷ fs) j =
    let r = among_top (ascending_outer fs) f.children j in
    let s = among_out fs j in (
      λ a. elim (r.0 a) [ inl q ↦ inl q | inr q ↦ inr (s.0 q) ],
      λ h. r.1 (elim h [ inl q ↦ inl q | inr q ↦ inr (s.1 q) ]),
    )

among_open : (o : Open) (j : ℕ) → IsAmong (stack_of o).children j ↔ IsOpen o j
among_open o j =
    let r = among_top (ascending_outer o.outer) o.children j in
    let s = among_out o.outer j in (
      λ a. elim (r.0 a) [ inl q ↦ inl q | inr q ↦ inr (s.0 q) ],
      λ h. r.1 (elim h [ inl q ↦ inl q | inr q ↦ inr (s.1 q) ]),
    )

pub kept_by : (n : ℕ) (o : Open) → IsSorted n o → IsAscending (stack_of o).children × ((j : ℕ) → (is_among (stack_of o).children j ≡ true) ↔ IsOpen o j)
kept_by n o sorted = (
  rises n o sorted,
  λ j. (let t = among_told (stack_of o).children j in let a = among_open o j in ((λ h. a.0 (t.0 h)), λ h. t.1 (a.1 h))),
)
