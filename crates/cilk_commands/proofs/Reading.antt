-- Reads one after the other.
use Rattle.std.proofs.Common.{◌≡◌, ℕ, ◌+◌, ◌≤◌, List, [], ◌++◌, length, take, Option, Some, None, sym, ap, ◌∙◌, arith, append_assoc, append-nil, length-append, length-take, rules}
use Rattle.cilk_commands.specs.Streams.{ReadsOn, TakesAtMost}
use Rattle.std.specs.Prelude.{IfSome}
use Rattle.std.specs.Io.KnownBytes.{Consumes, IsAtEnd, Keeps}
use Rattle.std.proofs.KnownBytes.{Keeps-refl}
use Rattle.std.proofs.lemmas.List.{take_all}
use Rattle.std.proofs.Math.Seq.{take-append_seam}

pub reads_more : (o m n : Option (List ℕ)) (t more : List ℕ) → Consumes o m t → Consumes m n more → Consumes o n (t ++ more)
reads_more None m n t more h k = tt
reads_more (Some o) None n t more h k = absurd h
reads_more (Some o) (Some m) None t more h k = absurd k
reads_more (Some o) (Some m) (Some n) t more h k = h ∙ ap (λ x. t ++ x) k ∙ sym (append_assoc t more n)

-- all of it
pub read_whole : (o m : Option (List ℕ)) (t : List ℕ) (limit : ℕ) → length t ≤ limit → Consumes o m t → IsAtEnd m → IfSome o (λ all. t ≡ take limit all)
read_whole None m t limit le h e = search rules
read_whole (Some o) None t limit le h e = absurd h
read_whole (Some o) (Some m) t limit le h e =
    let all : o ≡ t = h ∙ ap (λ x. t ++ x) e ∙ append-nil t in
    rw all (sym (take_all limit t le))

-- as much as is wanted
pub read_enough : (o m : Option (List ℕ)) (t : List ℕ) → Consumes o m t → IfSome o (λ all. t ≡ take (length t) all)
read_enough None m t h = search rules
read_enough (Some o) None t h = absurd h
read_enough (Some o) (Some m) t h = rw h (sym (take-append_seam t m))

-- one more read
pub more_read : (o m n : Option (List ℕ)) (t t' : List ℕ) (c : ℕ) → Consumes o m t → ReadsOn m n t t' c → Consumes o n t'
more_read o m n t t' c h k = rw k.some.1 (reads_more o m n t k.some.0 h k.some.3)

pub longer : (o n : Option (List ℕ)) (t t' : List ℕ) (c : ℕ) → ReadsOn o n t t' c → length t' ≡ length t + c
longer o n t t' c k = ap length k.some.1 ∙ length-append t k.some.0 ∙ ap (λ i. length t + i) k.some.2

-- a last read that gave nothing
pub read_last : (o m n : Option (List ℕ)) (t t' : List ℕ) (c limit : ℕ) → length t ≤ limit → Consumes o m t → ReadsOn m n t t' c → c ≡ 0 → IfSome o (λ all. t' ≡ take limit all)
read_last o m n t t' c limit le h k z =
    let same = longer m n t t' c k in
    read_whole o n t' limit (omega (arith, same, z)) (more_read o m n t t' c h k) (k.last z)

-- ---- the bytes that were taken at most

kept_nothing : (o n : Option (List ℕ)) → Keeps o n → Consumes o n []
kept_nothing None n h = tt
kept_nothing (Some x) None h = absurd h
kept_nothing (Some x) (Some y) h = sym h

pub takes_none : (most : ℕ) (o n : Option (List ℕ)) → Keeps o n → TakesAtMost most o n
takes_none most o n h = ([], kept_nothing o n h, omega arith)

pub takes_same : (most : ℕ) (o : Option (List ℕ)) → TakesAtMost most o o
takes_same most o = takes_none most o o (Keeps-refl o)

pub takes_read : (most : ℕ) (o n : Option (List ℕ)) (piece : List ℕ) (count : ℕ) → Consumes o n (take count piece) → count ≤ most
    → TakesAtMost most o n
takes_read most o n piece count h le = (take count piece, h, omega (arith, le, length-take count piece))

pub takes_on : (most some : ℕ) (o m n : Option (List ℕ)) (t : List ℕ) → Consumes o m t → TakesAtMost some m n → length t + some ≤ most
    → TakesAtMost most o n
takes_on most some o m n t h k le = (t ++ k.0, reads_more o m n t k.0 h k.1, omega (arith, le, k.2, length-append t k.0))
