-- What follows of the open intervals, by Hebrew numbers; and where the current strand began.
use Rattle.std.proofs.Common.{◌≡◌, ℕ, suc, ◌+◌, ◌<◌, ◌≤◌, List, [], ◌∷◌, ◌++◌, length, refl, ap, subst, arith, Some, slice_get, inl, inr, ◌↔◌}
use Rattle.std.proofs.lemmas.Bool.{cases_lt}
use Rattle.cilk_tree.specs.Tree.{tree}
use Rattle.cilk_tree.specs.Hebrew.{hebrew}
use Rattle.cilk_tree.proofs.Order.{tells}
use Rattle.cilk_trace.specs.declared.line.Line.{Line}
use Rattle.cilk_trace.specs.declared.line.Line.TheVariants as lines
use Rattle.cilk_trace.specs.Accesses.{begun_in, strand_of}
use Rattle.cilk_trace.proofs.Strands.{strand_next, strand_grows, strand_held, parallel_lines}
use Rattle.cilk_trace.specs.Opened.{Frame, Open, opening, called, spawned, after_line, opened_from, opened, OpenedIsGreater, FirstIsCurrent, OthersAreLess}
use Rattle.cilk_trace.proofs.Prefix.{At, opened_is_parallel}
use Rattle.cilk_trace.proofs.FrameRests.{neither}

pub opened_is_greater : OpenedIsGreater
opened_is_greater s done more l nests spells j m =
    let p = opened_is_parallel s done more l nests spells j m in
    let h = parallel_lines s (done ++ l ∷ more) spells j (length done) m in
    ((λ x. h.1 (p.0 x)), λ x. p.1 (h.0 x))

-- ---- where the current strand began

-- the lines of the current strand are those from `first` on
record Begun (ls : List Line) (i first : ℕ) : Type 0 where
  within : first ≤ i
  same : (j : ℕ) → j < i → (first ≤ j) ↔ (strand_of ls j ≡ strand_of ls i)

stays : (ls : List Line) (i first : ℕ) → strand_of ls (suc i) ≡ strand_of ls i + 0 → Begun ls i first → Begun ls (suc i) first
stays ls i first e b = record {
  within = (let w = b.within in omega (arith, w));
  same = λ j m. elim (cases_lt j i) [
    | inl k ↦ (let h = b.same j k in ((λ x. let y = h.0 x in omega (arith, y, e)), λ x. h.1 (omega (arith, x, e))))
    | inr k ↦ (let q : j ≡ i = omega (arith, m, k) in let r = ap (strand_of ls) q in let w = b.within in ((λ x. omega (arith, r, e)), λ x. omega (arith, w, q)))
  ];
}

anew : (ls : List Line) (i n : ℕ) → strand_of ls (suc i) ≡ strand_of ls i + suc n → Begun ls (suc i) (suc i)
anew ls i n e = record {
  within = omega arith;
  same = λ j m. (let g = strand_grows ls j i (omega (arith, m)) in
      neither (suc i ≤ j) (strand_of ls j ≡ strand_of ls (suc i)) (λ x. omega (arith, x, m)) (λ x. omega (arith, x, g, e)));
}

first_called : (i : ℕ) (o : Open) (fs : List Frame) → suc i ≡ (called i o fs).first
first_called i o [] = refl
first_called i o (f ∷ fs) = refl

first_spawned : (i : ℕ) (o : Open) (fs : List Frame) → suc i ≡ (spawned i o fs).first
first_spawned i o [] = refl
first_spawned i o (f ∷ fs) = refl

begun_next : (ls : List Line) (i : ℕ) (l : Line) (o : Open) → strand_of ls (suc i) ≡ strand_of ls i + begun_in l → Begun ls i o.first → Begun ls (suc i) (after_line i l o).first
begun_next ls i (lines.Enter s) o e b = anew ls i 0 e
begun_next ls i lines.Spawned o e b = subst (Begun ls (suc i)) (first_spawned i o o.outer) (anew ls i 1 e)
begun_next ls i lines.Called o e b = subst (Begun ls (suc i)) (first_called i o o.outer) (anew ls i 1 e)
begun_next ls i lines.Sync o e b = anew ls i 0 e
begun_next ls i lines.End o e b = anew ls i 0 e
begun_next ls i (lines.Read k s) o e b = stays ls i o.first e b
begun_next ls i (lines.Write k s) o e b = stays ls i o.first e b
begun_next ls i (lines.Clear k) o e b = stays ls i o.first e b
begun_next ls i (lines.Unseen k) o e b = stays ls i o.first e b
begun_next ls i (lines.Create r s) o e b = stays ls i o.first e b
begun_next ls i (lines.Update r s) o e b = stays ls i o.first e b
begun_next ls i (lines.Value r s) o e b = stays ls i o.first e b
begun_next ls i (lines.Retire r s) o e b = stays ls i o.first e b

begun_run : (ls done more : List Line) (i : ℕ) (o : Open) → At ls i (done ++ more) → Begun ls i o.first → Begun ls (i + length done) (opened_from i o done).first
begun_run ls [] more i o at b = let z : i ≡ i + 0 = omega arith in subst (λ (n : ℕ). Begun ls n o.first) z b
begun_run ls (d ∷ ds) more i o at b =
    let z : i + 0 ≡ i = omega arith in
    let here : slice_get ls i ≡ Some d = subst (λ (n : ℕ). slice_get ls n ≡ Some d) z (at 0) in
    let at' : At ls (suc i) (ds ++ more) =
    λ k. (let y : i + suc k ≡ suc i + k = omega arith in subst (λ (n : ℕ). slice_get ls n ≡ slice_get (ds ++ more) k) y (at (suc k))) in
    let e : suc i + length ds ≡ i + suc (length ds) = omega arith in
    subst (λ (n : ℕ). Begun ls n (opened_from (suc i) (after_line i d o) ds).first) e
    (begun_run ls ds more (suc i) (after_line i d o) at' (begun_next ls i d o (strand_next ls i d here) b))

pub first_is_current : FirstIsCurrent
first_is_current done more =
    let ls : List Line = done ++ more in
    let z : 0 + length done ≡ length done = omega arith in
    let same : (k : ℕ) → k ≡ 0 + k = λ k. omega arith in
    let b : Begun ls 0 0 = record { within = omega arith; same = λ j m. absurd (omega (arith, m)) } in
    let r = begun_run ls done more 0 opening (λ k. subst (λ (n : ℕ). slice_get ls n ≡ slice_get ls k) (same k) refl) b in
    (subst (λ (n : ℕ). Begun ls n (opened done).first) z r).same

pub others_are_less : OthersAreLess
others_are_less s done more l nests spells j m =
    let ls : List Line = done ++ l ∷ more in
    let n : ℕ = length done in
    let first : ℕ = (opened done).first in
    let greater = opened_is_greater s done more l nests spells j m in
    let par = opened_is_parallel s done more l nests spells j m in
    let cur = first_is_current done (l ∷ more) j m in
    let g = strand_grows ls j n (omega (arith, m)) in (
      λ less. (
        elim (cases_lt j first) [
          | inl k ↦ k
          | inr k ↦ (let e = ap (hebrew (tree s)) (cur.0 k) in absurd (omega (arith, e, less)))
        ],
        λ x. (let y = greater.0 x in omega (arith, y, less)),
      ),
      λ w. (elim (cases_lt (strand_of ls j) (strand_of ls n)) [
        | inl k ↦ elim (tells (tree s) 1 1 (strand_of ls j) (strand_of ls n) (strand_held s ls spells j) (strand_held s ls spells n) k) [
          | inl x ↦ absurd (w.1 (par.1 x.0))
          | inr x ↦ x.1
        ]
        | inr k ↦ (let e : strand_of ls j ≡ strand_of ls n = omega (arith, g, k) in let f = cur.1 e in let b = w.0 in absurd (omega (arith, f, b)))
      ]),
    )
