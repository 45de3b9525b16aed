-- What is kept stands for the open intervals, line by line.
use Rattle.std.proofs.Common.{◌≡◌, ℕ, suc, ◌+◌, ◌-◌, Bool, true, false, ◌&&◌, nat_eq, nat_lt, cond, List, [], ◌∷◌, ◌++◌, length, take, refl, sym, ◌∙◌, ap, arith, append_assoc, append-nil, length-append}
use Rattle.std.proofs.Math.Seq.{take-append_seam}
use Rattle.std.proofs.lemmas.Bool.{lt-ltb, le-ltb}
use Rattle.cilk_trace.specs.declared.histories.Kind.{Kind}
use Rattle.cilk_trace.specs.declared.histories.Kind.TheVariants as kinds
use Rattle.cilk_trace.specs.declared.line.Cells.{Cells}
use Rattle.cilk_trace.specs.declared.line.Line.{Line}
use Rattle.cilk_trace.specs.declared.line.Line.TheVariants as lines
use Rattle.cilk_trace.specs.declared.intervals.Child.{Child}
use Rattle.cilk_trace.specs.declared.intervals.OpenFrame.{OpenFrame}
use Rattle.cilk_trace.specs.Joined.{joined, spawned_on, join_line, joined_from, joined_opened, stack_at}
use Rattle.cilk_trace.specs.Opened.{Frame, Open, opening, entered, synced, called}
use Rattle.cilk_trace.specs.Passes.{Does}
use Rattle.cilk_trace.specs.IntervalStacks.{IntervalStack, ascending, child_at, pushed, ascending_outer, frames_of, stack_of, after_enter, after_sync, after_called, after_spawned, stack_after}

-- with these children
abbrev having : List Child → List OpenFrame → ℕ → ℕ → IntervalStack
having cs ws m f = record { children = cs; frames = ws; mark = m; first = f }

stack_enter : (i : ℕ) (o : Open) → after_enter i (stack_of o) ≡ stack_of (entered i o)
stack_enter i o =
    let all : List Child = ascending_outer o.outer ++ ascending o.children in
    ap (λ (cs : List Child). having cs (record { enter = i; mark = length (ascending_outer o.outer) } ∷ frames_of o.outer) (length all) (suc i)) (sym (append-nil all))

stack_sync : (i : ℕ) (o : Open) → after_sync i (stack_of o) ≡ stack_of (synced i o)
stack_sync i o =
    ap (λ (cs : List Child). having cs (frames_of o.outer) (length (ascending_outer o.outer)) (suc i))
    (take-append_seam (ascending_outer o.outer) (ascending o.children) ∙ sym (append-nil (ascending_outer o.outer)))

stack_called : (i n : ℕ) (ks : List Child) (fs : List Frame)
    → after_called i (stack_of (record { children = ks; outer = fs; first = n })) (frames_of fs) ≡ stack_of (called i (record { children = ks; outer = fs; first = n }) fs)
stack_called i n ks [] = ap (λ (cs : List Child). having cs [] 0 (suc i)) (take-append_seam [] (ascending ks))
stack_called i n ks (f ∷ fs) = ap (λ (cs : List Child). having cs (frames_of fs) (length (ascending_outer fs)) (suc i)) (take-append_seam (ascending_outer (f ∷ fs)) (ascending ks))

-- the last child of a list
last_of : (xs ys : List Child) (c : Child) → child_at (xs ++ (ys ++ c ∷ [])) (length (xs ++ (ys ++ c ∷ [])) - 1) ≡ c
last_of xs ys c =
    let a = length-append xs (ys ++ c ∷ []) in
    let b = length-append ys (c ∷ []) in
    let n : length (xs ++ (ys ++ c ∷ [])) - 1 ≡ length (xs ++ ys) = (let d = length-append xs ys in omega (arith, a, b, d)) in
    ap (child_at (xs ++ (ys ++ c ∷ []))) n ∙ (ap (λ (cs : List Child). child_at cs (length (xs ++ ys))) (sym (append_assoc xs ys (c ∷ []))) ∙ at_end (xs ++ ys) c)
  where
    at_end : (cs : List Child) (c : Child) → child_at (cs ++ c ∷ []) (length cs) ≡ c
    at_end [] c = refl
    at_end (x ∷ cs) c = at_end cs c

front_of : (xs ys : List Child) (c : Child) → take (length (xs ++ (ys ++ c ∷ [])) - 1) (xs ++ (ys ++ c ∷ [])) ≡ xs ++ ys
front_of xs ys c =
    let a = length-append xs (ys ++ c ∷ []) in
    let b = length-append ys (c ∷ []) in
    let n : length (xs ++ (ys ++ c ∷ [])) - 1 ≡ length (xs ++ ys) = (let d = length-append xs ys in omega (arith, a, b, d)) in
    ap (λ (m : ℕ). take m (xs ++ (ys ++ c ∷ []))) n ∙ (ap (take (length (xs ++ ys))) (sym (append_assoc xs ys (c ∷ []))) ∙ take-append_seam (xs ++ ys) (c ∷ []))

-- a child more of the innermost frame, whose children these are
pushed_on : (xs : List Child) (k : Child) (ks : List Child) → pushed (length xs) k (xs ++ ascending ks) ≡ xs ++ ascending (joined k ks)
pushed_on xs k [] =
    let n = length-append xs [] in
    let t = le-ltb (length xs) (length (xs ++ [])) (omega (arith, n)) in
    let e : xs ++ [] ≡ xs = append-nil xs in
    by_mark (length xs) k (xs ++ []) t ∙ ap (λ (cs : List Child). cs ++ k ∷ []) e
  where
    by_mark : (mark : ℕ) (k : Child) (cs : List Child) → nat_lt mark (length cs) ≡ false → pushed mark k cs ≡ cs ++ k ∷ []
    by_mark mark k cs t = rw t refl
pushed_on xs k (c ∷ cs) =
    let all : List Child = xs ++ (ascending cs ++ c ∷ []) in
    let a = length-append xs (ascending cs ++ c ∷ []) in
    let b = length-append (ascending cs) (c ∷ []) in
    let t = lt-ltb (length xs) (length all) (omega (arith, a, b)) in
    ap (λ (x : Bool). cond (x && nat_eq (suc (child_at all (length all - 1)).spawned) k.enter)
    (take (length all - 1) all ++ record { enter = (child_at all (length all - 1)).enter; spawned = k.spawned } ∷ []) (all ++ k ∷ [])) t
    ∙ (ap (λ (d : Child). cond (nat_eq (suc d.spawned) k.enter) (take (length all - 1) all ++ record { enter = d.enter; spawned = k.spawned } ∷ []) (all ++ k ∷ [])) (last_of xs (ascending cs) c)
    ∙ (ap (λ (f : List Child). cond (nat_eq (suc c.spawned) k.enter) (f ++ record { enter = c.enter; spawned = k.spawned } ∷ []) (all ++ k ∷ [])) (front_of xs (ascending cs) c)
    ∙ by_test (nat_eq (suc c.spawned) k.enter) xs k c cs))
  where
    by_test : (b : Bool) (xs : List Child) (k c : Child) (cs : List Child)
        → cond b ((xs ++ ascending cs) ++ record { enter = c.enter; spawned = k.spawned } ∷ []) ((xs ++ (ascending cs ++ c ∷ [])) ++ k ∷ [])
        ≡ xs ++ ascending (cond b (record { enter = c.enter; spawned = k.spawned } ∷ cs) (k ∷ c ∷ cs))
    by_test true xs k c cs = append_assoc xs (ascending cs) (record { enter = c.enter; spawned = k.spawned } ∷ [])
    by_test false xs k c cs = append_assoc xs (ascending cs ++ c ∷ []) (k ∷ [])

stack_spawned : (i n : ℕ) (ks : List Child) (fs : List Frame)
    → after_spawned i (stack_of (record { children = ks; outer = fs; first = n })) (frames_of fs) ≡ stack_of (spawned_on i (record { children = ks; outer = fs; first = n }) fs)
stack_spawned i n ks [] = ap (λ (cs : List Child). having cs [] 0 (suc i)) (take-append_seam [] (ascending ks))
stack_spawned i n ks (f ∷ fs) =
    let k : Child = record { enter = f.enter; spawned = i } in
    ap (λ (cs : List Child). having cs (frames_of fs) (length (ascending_outer fs)) (suc i))
    (ap (pushed (length (ascending_outer fs)) k) (take-append_seam (ascending_outer (f ∷ fs)) (ascending ks)) ∙ pushed_on (ascending_outer fs) k f.children)

stack_next : (i : ℕ) (l : Line) (o : Open) → stack_after i l (stack_of o) ≡ stack_of (join_line i l o)
stack_next i (lines.Enter s) o = stack_enter i o
stack_next i lines.Spawned o = stack_spawned i o.first o.children o.outer
stack_next i lines.Called o = stack_called i o.first o.children o.outer
stack_next i lines.Sync o = stack_sync i o
stack_next i lines.End o = stack_sync i o
stack_next i (lines.Read k s) o = refl
stack_next i (lines.Write k s) o = refl
stack_next i (lines.Clear k) o = refl
stack_next i (lines.Unseen k) o = refl
stack_next i (lines.Create r s) o = refl
stack_next i (lines.Update r s) o = refl
stack_next i (lines.Value r s) o = refl
stack_next i (lines.Retire r s) o = refl

joined_more : (done : List Line) (l : Line) (i : ℕ) (o : Open) → join_line (i + length done) l (joined_from i o done) ≡ joined_from i o (done ++ l ∷ [])
joined_more [] l i o = let z : i + 0 ≡ i = omega arith in ap (λ (n : ℕ). join_line n l o) z
joined_more (d ∷ ds) l i o =
    let e : i + suc (length ds) ≡ suc i + length ds = omega arith in
    ap (λ (n : ℕ). join_line n l (joined_from (suc i) (join_line i d o) ds)) e ∙ joined_more ds l (suc i) (join_line i d o)

-- one line more
pub stack_more : (done : List Line) (l : Line) (at : ℕ) (old new : IntervalStack) → new ≡ stack_after at l old → length done ≡ at → old ≡ stack_at done → new ≡ stack_at (done ++ l ∷ [])
stack_more done l at old new is n e =
    let z : length done ≡ 0 + length done = omega arith in
    is ∙ (ap (stack_after at l) e ∙ (stack_next at l (joined_opened done) ∙ ap stack_of
    (ap (λ (m : ℕ). join_line m l (joined_opened done)) (sym n ∙ z) ∙ joined_more done l 0 opening)))

-- a line that accesses or clears cells opens and closes nothing
pub same_stack : (done : List Line) (l : Line) (kind : Kind) (k : Cells) → Does l kind k → stack_at done ≡ stack_at (done ++ l ∷ [])
same_stack done (lines.Read d s) kinds.Read k does = ap stack_of (joined_more done (lines.Read d s) 0 opening)
same_stack done (lines.Write d s) kinds.Write k does = ap stack_of (joined_more done (lines.Write d s) 0 opening)
same_stack done (lines.Clear d) kinds.Clear k does = ap stack_of (joined_more done (lines.Clear d) 0 opening)
same_stack done _ _ k does = absurd does
