-- The open intervals are disjoint and descend.
use Rattle.std.proofs.Common.{◌≡◌, ℕ, suc, ◌+◌, ◌≤◌, List, [], ◌∷◌, length, arith, subst}
use Rattle.cilk_trace.specs.declared.line.Line.{Line}
use Rattle.cilk_trace.specs.declared.line.Line.TheVariants as lines
use Rattle.cilk_trace.specs.Opened.{Frame, Open, opening, called, spawned, after_line, opened_from, opened, Descends, least, DescendsOuter, IsSorted, OpenedIsSorted}
use Rattle.cilk_trace.specs.declared.intervals.Child.{Child}

pub below : (n : ℕ) (ks : List Child) → Descends n ks → least n ks ≤ n
below n [] d = omega arith
below n (k ∷ ks) d = let b = below k.enter ks d.2 in let x = d.0 in let y = d.1 in omega (arith, b, x, y)

wider : (n m : ℕ) (ks : List Child) → n ≤ m → Descends n ks → Descends m ks
wider n m [] le d = tt
wider n m (k ∷ ks) le d = ((let x = d.0 in omega (arith, x, le)), d.1, d.2)

least_grows : (n m : ℕ) (ks : List Child) → n ≤ m → least n ks ≤ least m ks
least_grows n m [] le = le
least_grows n m (k ∷ ks) le = omega arith

pub wider_out : (n m : ℕ) (fs : List Frame) → n ≤ m → DescendsOuter n fs → DescendsOuter m fs
wider_out n m [] le d = tt
wider_out n m (f ∷ fs) le d = ((let x = d.0 in omega (arith, x, le)), d.1, d.2)

sorted_same : (i : ℕ) (ks : List Child) (fs : List Frame) → Descends i ks → DescendsOuter (least i ks) fs → Descends (suc i) ks × DescendsOuter (least (suc i) ks) fs
sorted_same i ks fs a b = (wider i (suc i) ks (omega arith) a, wider_out (least i ks) (least (suc i) ks) fs (least_grows i (suc i) ks (omega arith)) b)

sorted_sync : (i : ℕ) (ks : List Child) (fs : List Frame) → Descends i ks → DescendsOuter (least i ks) fs → DescendsOuter (suc i) fs
sorted_sync i ks fs a b = let x = below i ks a in wider_out (least i ks) (suc i) fs (omega (arith, x)) b

sorted_called : (i : ℕ) (o : Open) (fs : List Frame) → DescendsOuter (suc i) fs → IsSorted (suc i) (called i o fs)
sorted_called i o [] d = (tt, tt)
sorted_called i o (f ∷ fs) d =
    let x = d.0 in let le : f.enter ≤ suc i = omega (arith, x) in
    (wider f.enter (suc i) f.children le d.1, wider_out (least f.enter f.children) (least (suc i) f.children) fs (least_grows f.enter (suc i) f.children le) d.2)

sorted_spawned : (i : ℕ) (o : Open) (fs : List Frame) → DescendsOuter i fs → IsSorted (suc i) (spawned i o fs)
sorted_spawned i o [] d = (tt, tt)
sorted_spawned i o (f ∷ fs) d = ((omega arith, d.0, d.1), d.2)

pub sorted_next : (i : ℕ) (l : Line) (o : Open) → IsSorted i o → IsSorted (suc i) (after_line i l o)
sorted_next i (lines.Enter s) o h = (tt, (omega arith, h.0, h.1))
sorted_next i lines.Spawned o h = sorted_spawned i o o.outer (let x = below i o.children h.0 in wider_out (least i o.children) i o.outer x h.1)
sorted_next i lines.Called o h = sorted_called i o o.outer (sorted_sync i o.children o.outer h.0 h.1)
sorted_next i lines.Sync o h = (tt, sorted_sync i o.children o.outer h.0 h.1)
sorted_next i lines.End o h = (tt, sorted_sync i o.children o.outer h.0 h.1)
sorted_next i (lines.Read k s) o h = sorted_same i o.children o.outer h.0 h.1
sorted_next i (lines.Write k s) o h = sorted_same i o.children o.outer h.0 h.1
sorted_next i (lines.Clear k) o h = sorted_same i o.children o.outer h.0 h.1
sorted_next i (lines.Unseen k) o h = sorted_same i o.children o.outer h.0 h.1
sorted_next i (lines.Create r s) o h = sorted_same i o.children o.outer h.0 h.1
sorted_next i (lines.Update r s) o h = sorted_same i o.children o.outer h.0 h.1
sorted_next i (lines.Value r s) o h = sorted_same i o.children o.outer h.0 h.1
sorted_next i (lines.Retire r s) o h = sorted_same i o.children o.outer h.0 h.1

sorted_run : (done : List Line) (i : ℕ) (o : Open) → IsSorted i o → IsSorted (i + length done) (opened_from i o done)
sorted_run [] i o h = let z : i ≡ i + 0 = omega arith in subst (λ (n : ℕ). IsSorted n o) z h
sorted_run (d ∷ ds) i o h =
    let e : suc i + length ds ≡ i + suc (length ds) = omega arith in
    subst (λ (n : ℕ). IsSorted n (opened_from (suc i) (after_line i d o) ds)) e (sorted_run ds (suc i) (after_line i d o) (sorted_next i d o h))

pub opened_is_sorted : OpenedIsSorted
opened_is_sorted done = let z : 0 + length done ≡ length done = omega arith in subst (λ (n : ℕ). IsSorted n (opened done)) z (sorted_run done 0 opening (tt, tt))
