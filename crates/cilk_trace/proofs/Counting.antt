-- How many marks lines have. `counted`: what is kept of lines has their marks; `limits_front`: the first lines of a trace keep its limits; `limits_next`, `past_limits`: one line
-- more keeps them, or doesn't.
use Rattle.std.proofs.Common.{◌≡◌, ℕ, ◌+◌, ◌<◌, ◌≤◌, ◌^◌, List, [], ◌∷◌, ◌++◌, length, Bool, true, false, cond, Option, Some, None, refl, ap, arith, length-append}
use Rattle.std.specs.Prelude.{set}
use Rattle.std.proofs.lemmas.List.{length-set}
use Rattle.cilk_tree.specs.declared.mark.Mark.{Mark}
use Rattle.cilk_tree.specs.declared.mark.Mark.TheVariants.{Begin, End, Sync, Resume, Spawn, Call}
use Rattle.cilk_trace.specs.declared.line.Line.{Line}
use Rattle.cilk_trace.specs.declared.line.Line.TheVariants as lines
use Rattle.cilk_trace.specs.Marks.{marks_after, marks_at, marks_of}
use Rattle.cilk_trace.specs.Structures.{Noted, closed, marks_in, noted, noting, on, opening, over, with_line}
use Rattle.cilk_trace.specs.Surveys.{KeepsLimits}

marks_counted : (l : Line) (later : List Line) → length (marks_at l later) ≡ marks_in l
marks_counted (lines.Enter s) later = refl
marks_counted lines.Spawned later = refl
marks_counted lines.Called later = refl
marks_counted lines.Sync later = refl
marks_counted lines.End later = refl
marks_counted (lines.Read c s) later = refl
marks_counted (lines.Write c s) later = refl
marks_counted (lines.Clear c) later = refl
marks_counted (lines.Unseen c) later = refl
marks_counted (lines.Create r s) later = refl
marks_counted (lines.Update r s) later = refl
marks_counted (lines.Value r s) later = refl
marks_counted (lines.Retire r s) later = refl

after_counted : (l : Line) (ls : List Line) → length (marks_after (l ∷ ls)) ≡ marks_in l + length (marks_after ls)
after_counted l ls = let a = length-append (marks_at l ls) (marks_after ls) in let b = marks_counted l ls in omega (arith, a, b)

both_counted : (ls more : List Line) → length (marks_after (ls ++ more)) ≡ length (marks_after ls) + length (marks_after more)
both_counted [] more = omega arith
both_counted (l ∷ ls) more =
    let a = after_counted l (ls ++ more) in let b = after_counted l ls in let c = both_counted ls more in omega (arith, a, b, c)

-- ---- what is kept

closed_grown : (how : Mark) (n m : Noted) (ks : List ℕ) → closed how n ks ≡ Some m → length m.marks ≡ length n.marks + 3
closed_grown how n m [] h = absurd (cc h)
closed_grown how n m (k ∷ ks) h =
    let e : record { marks = set n.marks k how ++ Sync ∷ End ∷ Resume ∷ []; begun = ks; ended = n.ended } ≡ m = cc h in
    let a = length-append (set n.marks k how) (Sync ∷ End ∷ Resume ∷ []) in
    let b = length-set n.marks k how in
    let c = ap (λ (x : Noted). length x.marks) e in
    omega (arith, a, b, c)

over_grown : (n m : Noted) (ks : List ℕ) → over n ks ≡ Some m → length m.marks ≡ length n.marks + 2
over_grown n m [] h =
    let e : record { marks = n.marks ++ Sync ∷ End ∷ []; begun = []; ended = true } ≡ m = cc h in
    let a = length-append n.marks (Sync ∷ End ∷ []) in
    let c = ap (λ (x : Noted). length x.marks) e in
    omega (arith, a, c)
over_grown n m (k ∷ ks) h = absurd (cc h)

idle_grown : (n m : Noted) → Some n ≡ Some m → length m.marks ≡ length n.marks + 0
idle_grown n m h = let e : n ≡ m = cc h in let c = ap (λ (x : Noted). length x.marks) e in omega (arith, c)

with_grown : (l : Line) (n m : Noted) → with_line l n ≡ Some m → length m.marks ≡ length n.marks + marks_in l
with_grown (lines.Enter s) n m h =
    let e : record { marks = n.marks ++ Call ∷ Begin ∷ []; begun = length n.marks ∷ n.begun; ended = n.ended } ≡ m = cc h in
    let a = length-append n.marks (Call ∷ Begin ∷ []) in
    let c = ap (λ (x : Noted). length x.marks) e in
    omega (arith, a, c)
with_grown lines.Spawned n m h = closed_grown Spawn n m n.begun h
with_grown lines.Called n m h = closed_grown Call n m n.begun h
with_grown lines.Sync n m h =
    let e : record { marks = n.marks ++ Sync ∷ []; begun = n.begun; ended = n.ended } ≡ m = cc h in
    let a = length-append n.marks (Sync ∷ []) in
    let c = ap (λ (x : Noted). length x.marks) e in
    omega (arith, a, c)
with_grown lines.End n m h = over_grown n m n.begun h
with_grown (lines.Read c s) n m h = idle_grown n m h
with_grown (lines.Write c s) n m h = idle_grown n m h
with_grown (lines.Clear c) n m h = idle_grown n m h
with_grown (lines.Unseen c) n m h = idle_grown n m h
with_grown (lines.Create r s) n m h = idle_grown n m h
with_grown (lines.Update r s) n m h = idle_grown n m h
with_grown (lines.Value r s) n m h = idle_grown n m h
with_grown (lines.Retire r s) n m h = idle_grown n m h

noting_grown : (b : Bool) (l : Line) (n m : Noted) → cond b None (with_line l n) ≡ Some m → length m.marks ≡ length n.marks + marks_in l
noting_grown true l n m h = absurd (cc h)
noting_grown false l n m h = with_grown l n m h

along_next : (l : Line) (ls : List Line) (n m : Noted) → ((x k : Noted) → noted ls x ≡ Some k → length k.marks ≡ length x.marks + length (marks_after ls)) → (o : Option Noted)
    → noting l n ≡ o → on (noted ls) o ≡ Some m → length m.marks ≡ length n.marks + length (marks_after (l ∷ ls))
along_next l ls n m rest None e h = absurd (let q : None ≡ Some m = h in cc q)
along_next l ls n m rest (Some x) e h =
    let a = noting_grown n.ended l n x e in
    let b = rest x m h in
    let c = after_counted l ls in
    omega (arith, a, b, c)

along : (ls : List Line) (n m : Noted) → noted ls n ≡ Some m → length m.marks ≡ length n.marks + length (marks_after ls)
along [] n m h = idle_grown n m h
along (l ∷ ls) n m h = along_next l ls n m (along ls) (noting l n) refl h

-- what is kept of these lines has their marks
pub counted : (ls : List Line) (m : Noted) → noted ls opening ≡ Some m → length m.marks ≡ length (marks_of ls)
counted ls m h = let a = along ls opening m h in omega (arith, a)

-- ---- the limits

pub limits_front : (ls more : List Line) → KeepsLimits (ls ++ more) → KeepsLimits ls
limits_front ls more k =
    let a = length-append ls more in let b = both_counted ls more in let f = k.few in let m = k.marks in
    record { few = omega (arith, a, f); marks = omega (arith, b, m) }

pub limits_next : (ls : List Line) (l : Line) (m : Noted) → noted ls opening ≡ Some m → length ls + 1 < 2 ^ 32 → length m.marks + marks_in l ≤ 1073741824 → KeepsLimits (ls ++ l ∷ [])
limits_next ls l m h few le =
    let a = length-append ls (l ∷ []) in let c = counted ls m h in let b = both_counted ls (l ∷ []) in let d = after_counted l [] in
    record { few = omega (arith, a, few); marks = omega (arith, c, b, d, le) }

pub past_limits : (ls : List Line) (l : Line) (m : Noted) → noted ls opening ≡ Some m → 1073741824 < length m.marks + marks_in l → KeepsLimits (ls ++ l ∷ []) → ⊥
past_limits ls l m h past k =
    let c = counted ls m h in let b = both_counted ls (l ∷ []) in let d = after_counted l [] in let e = k.marks in
    omega (arith, c, b, d, e, past)
