-- The structure of a whole trace has its marks.
use Rattle.std.proofs.Common.{◌≡◌, ℕ, suc, ◌<◌, ◌≤◌, List, [], ◌∷◌, ◌++◌, length, refl, sym, ◌∙◌, ap, arith, true, false, Some, None}
use Rattle.std.specs.Prelude.{set, ⊤}
use Rattle.std.proofs.lemmas.List.{append_assoc, length-append, set-append_left, length-set}
use Rattle.std.proofs.Math.Seq.{set-append_seam}
use Rattle.cilk_types.specs.declared.invocation.Invocation.{Invocation}
use Rattle.cilk_types.specs.declared.invocation.Invocation.TheVariants as invocations
use Rattle.cilk_tree.specs.declared.mark.Mark.{Mark}
use Rattle.cilk_tree.specs.declared.mark.Mark.TheVariants.{Begin, End, Sync, Resume, Spawn, Call}
use Rattle.cilk_tree.specs.Shape.{start_of}
use Rattle.cilk_trace.specs.declared.line.Line.{Line}
use Rattle.cilk_trace.specs.declared.line.Line.TheVariants as lines
use Rattle.cilk_trace.specs.Frames.{ends, Nests}
use Rattle.cilk_trace.specs.Marks.{started, marks_after}
use Rattle.cilk_trace.specs.Structures.{Noted, over, noted, KeepsMarks, RefusesNoTrace}

-- the marks, where the call at each of these indices is made the mark that its frame's end tells
abbrev patched : List ℕ → (ℕ → Mark) → List Mark → List Mark
patched [] f ms = ms
patched (k ∷ ks) f ms = patched ks (λ (j : ℕ). f (suc j)) (set ms k (f 0))

abbrev AreInside : List ℕ → ℕ → Type 0
AreInside [] n = ⊤
AreInside (k ∷ ks) n = (k < n) × AreInside ks n

wider : (ks : List ℕ) (n m : ℕ) → AreInside ks n → n ≤ m → AreInside ks m
wider [] n m h le = tt
wider (k ∷ ks) n m h le = (let p = h.0 in omega (arith, p, le), wider ks n m h.1 le)

-- only the marks up to these indices change
appended : (ks : List ℕ) (f : ℕ → Mark) (ms ns : List Mark) → AreInside ks (length ms) → patched ks f (ms ++ ns) ≡ patched ks f ms ++ ns
appended [] f ms ns h = refl
appended (k ∷ ks) f ms ns h =
    let g : ℕ → Mark = λ (j : ℕ). f (suc j) in
    ap (patched ks g) (set-append_left ms ns k (f 0) h.0)
    ∙ appended ks g (set ms k (f 0)) ns (wider ks (length ms) (length (set ms k (f 0))) h.1 (let e = length-set ms k (f 0) in omega (arith, e)))

stays : (ms : List Mark) (k : ℕ) (how : Mark) (ks : List ℕ) → AreInside ks (length ms) → AreInside ks (length (set ms k how ++ Sync ∷ End ∷ Resume ∷ []))
stays ms k how ks h =
    wider ks (length ms) _ h (let l = length-set ms k how in let a = length-append (set ms k how) (Sync ∷ End ∷ Resume ∷ []) in omega (arith, l, a))

-- how each open frame will have been started
abbrev starting : List Line → ℕ → Mark
starting ls j = started (ends j ls)

-- what follows from lines that may all come, up to the root's end
record Kept (ls : List Line) (bs : List ℕ) (ms : List Mark) (m : Noted) : Type 0 where
  nests : Nests (length bs) ls
  marks : m.marks ≡ patched bs (starting ls) ms ++ marks_after ls

abbrev pub state : List Mark → List ℕ → Noted
state ms bs = record { marks = ms; begun = bs; ended = false }

-- a frame ends, and its start is patched
leaves : (how : Invocation) (ls : List Line) (k : ℕ) (ks : List ℕ) (ms : List Mark) (m : Noted) → AreInside (k ∷ ks) (length ms)
    → m.marks ≡ patched ks (starting ls) (set ms k (start_of how) ++ Sync ∷ End ∷ Resume ∷ []) ++ marks_after ls
    → m.marks ≡ patched ks (starting ls) (set ms k (start_of how)) ++ Sync ∷ End ∷ Resume ∷ marks_after ls
leaves how ls k ks ms m inside e =
    let ns = set ms k (start_of how) in
    let w = wider ks (length ms) (length ns) inside.1 (let l = length-set ms k (start_of how) in omega (arith, l)) in
    e ∙ (ap (λ (xs : List Mark). xs ++ marks_after ls) (appended ks (starting ls) ns (Sync ∷ End ∷ Resume ∷ []) w)
    ∙ append_assoc (patched ks (starting ls) ns) (Sync ∷ End ∷ Resume ∷ []) (marks_after ls))

enters : (ls : List Line) (bs : List ℕ) (ms : List Mark) (m : Noted) → AreInside bs (length ms)
    → m.marks ≡ patched (length ms ∷ bs) (starting ls) (ms ++ Call ∷ Begin ∷ []) ++ marks_after ls
    → m.marks ≡ patched bs (λ (j : ℕ). starting ls (suc j)) ms ++ starting ls 0 ∷ Begin ∷ marks_after ls
enters ls bs ms m inside e =
    let f : ℕ → Mark = λ (j : ℕ). starting ls (suc j) in
    let seam = set-append_seam ms Call (Begin ∷ []) (starting ls 0) in
    e ∙ (ap (λ (xs : List Mark). patched bs f xs ++ marks_after ls) seam
    ∙ (ap (λ (xs : List Mark). xs ++ marks_after ls) (appended bs f ms (starting ls 0 ∷ Begin ∷ []) inside)
    ∙ append_assoc (patched bs f ms) (starting ls 0 ∷ Begin ∷ []) (marks_after ls)))

keeps : (ls : List Line) (bs : List ℕ) (ms : List Mark) (m : Noted) → AreInside bs (length ms) → noted ls (state ms bs) ≡ Some m → m.ended ≡ true → Kept ls bs ms m
keeps [] bs ms m inside h over =
    let e : state ms bs ≡ m = cc h in
    let c : false ≡ true = ap (λ (n : Noted). n.ended) e ∙ over in absurd (cc c)
keeps (lines.Enter s ∷ ls) bs ms m inside h over =
    let l = length-append ms (Call ∷ Begin ∷ []) in
    let w = wider bs (length ms) (length (ms ++ Call ∷ Begin ∷ [])) inside (omega (arith, l)) in
    let r = keeps ls (length ms ∷ bs) (ms ++ Call ∷ Begin ∷ []) m (omega (arith, l), w) h over in
    record { nests = r.nests; marks = enters ls bs ms m inside r.marks }
keeps (lines.Spawned ∷ ls) [] ms m inside h over = absurd (cc h)
keeps (lines.Spawned ∷ ls) (k ∷ ks) ms m inside h over =
    let r = keeps ls ks (set ms k Spawn ++ Sync ∷ End ∷ Resume ∷ []) m (stays ms k Spawn ks inside.1) h over in
    record { nests = r.nests; marks = leaves invocations.Spawn ls k ks ms m inside r.marks }
keeps (lines.Called ∷ ls) [] ms m inside h over = absurd (cc h)
keeps (lines.Called ∷ ls) (k ∷ ks) ms m inside h over =
    let r = keeps ls ks (set ms k Call ++ Sync ∷ End ∷ Resume ∷ []) m (stays ms k Call ks inside.1) h over in
    record { nests = r.nests; marks = leaves invocations.Call ls k ks ms m inside r.marks }
keeps (lines.Sync ∷ ls) bs ms m inside h over =
    let l = length-append ms (Sync ∷ []) in
    let r = keeps ls bs (ms ++ Sync ∷ []) m (wider bs (length ms) (length (ms ++ Sync ∷ [])) inside (omega (arith, l))) h over in
    record {
      nests = r.nests;
      marks = r.marks ∙ (ap (λ (xs : List Mark). xs ++ marks_after ls) (appended bs (starting ls) ms (Sync ∷ []) inside)
          ∙ append_assoc (patched bs (starting ls) ms) (Sync ∷ []) (marks_after ls));
    }
keeps (lines.Read c s ∷ ls) bs ms m inside h over = let r = keeps ls bs ms m inside h over in record { nests = r.nests; marks = r.marks }
keeps (lines.Write c s ∷ ls) bs ms m inside h over = let r = keeps ls bs ms m inside h over in record { nests = r.nests; marks = r.marks }
keeps (lines.Clear c ∷ ls) bs ms m inside h over = let r = keeps ls bs ms m inside h over in record { nests = r.nests; marks = r.marks }
keeps (lines.Unseen c ∷ ls) bs ms m inside h over = let r = keeps ls bs ms m inside h over in record { nests = r.nests; marks = r.marks }
keeps (lines.Create i s ∷ ls) bs ms m inside h over = let r = keeps ls bs ms m inside h over in record { nests = r.nests; marks = r.marks }
keeps (lines.Update i s ∷ ls) bs ms m inside h over = let r = keeps ls bs ms m inside h over in record { nests = r.nests; marks = r.marks }
keeps (lines.Value i s ∷ ls) bs ms m inside h over = let r = keeps ls bs ms m inside h over in record { nests = r.nests; marks = r.marks }
keeps (lines.Retire i s ∷ ls) bs ms m inside h over = let r = keeps ls bs ms m inside h over in record { nests = r.nests; marks = r.marks }
keeps (lines.End ∷ []) [] ms m inside h over =
    let e : record { marks = ms ++ Sync ∷ End ∷ []; begun = []; ended = true } ≡ m = cc h in
    record { nests = tt; marks = sym (ap (λ (n : Noted). n.marks) e) }
keeps (lines.End ∷ (l ∷ ls)) [] ms m inside h over = absurd (cc h)
keeps (lines.End ∷ ls) (k ∷ ks) ms m inside h over = absurd (cc h)

pub keep_marks : KeepsMarks
keep_marks ls n h over = let r = keeps ls [] (Begin ∷ []) n tt h over in (r.nests, r.marks)

refuses : (ls more : List Line) (bs : List ℕ) (ms : List Mark) → noted ls (state ms bs) ≡ None → Nests (length bs) (ls ++ more) → ⊥
refuses [] more bs ms h n = absurd (cc h)
refuses (lines.Enter s ∷ ls) more bs ms h n = refuses ls more (length ms ∷ bs) (ms ++ Call ∷ Begin ∷ []) h n
refuses (lines.Spawned ∷ ls) more [] ms h n = n
refuses (lines.Spawned ∷ ls) more (k ∷ ks) ms h n = refuses ls more ks (set ms k Spawn ++ Sync ∷ End ∷ Resume ∷ []) h n
refuses (lines.Called ∷ ls) more [] ms h n = n
refuses (lines.Called ∷ ls) more (k ∷ ks) ms h n = refuses ls more ks (set ms k Call ++ Sync ∷ End ∷ Resume ∷ []) h n
refuses (lines.Sync ∷ ls) more bs ms h n = refuses ls more bs (ms ++ Sync ∷ []) h n
refuses (lines.Read c s ∷ ls) more bs ms h n = refuses ls more bs ms h n
refuses (lines.Write c s ∷ ls) more bs ms h n = refuses ls more bs ms h n
refuses (lines.Clear c ∷ ls) more bs ms h n = refuses ls more bs ms h n
refuses (lines.Unseen c ∷ ls) more bs ms h n = refuses ls more bs ms h n
refuses (lines.Create i s ∷ ls) more bs ms h n = refuses ls more bs ms h n
refuses (lines.Update i s ∷ ls) more bs ms h n = refuses ls more bs ms h n
refuses (lines.Value i s ∷ ls) more bs ms h n = refuses ls more bs ms h n
refuses (lines.Retire i s ∷ ls) more bs ms h n = refuses ls more bs ms h n
refuses (lines.End ∷ []) more [] ms h n = absurd (cc h)
refuses (lines.End ∷ (l ∷ ls)) more [] ms h n = n
refuses (lines.End ∷ ls) more (k ∷ ks) ms h n = n

pub no_trace : RefusesNoTrace
no_trace ls more h n = refuses ls more [] (Begin ∷ []) h n
