-- The open intervals before each line of a trace: `opened_is_parallel`, by `step` from line to line.
use Rattle.std.proofs.Common.{◌≡◌, ℕ, zero, suc, ◌+◌, ◌<◌, ◌≤◌, List, [], ◌∷◌, ◌++◌, length, refl, sym, ◌∙◌, ap, subst, arith, append-nil, Some, slice_get, ◌⊎◌, inl, inr, ◌↔◌}
use Rattle.std.proofs.lemmas.Bool.{cases_lt}
use Rattle.cilk_types.specs.declared.invocation.Invocation.{Invocation}
use Rattle.cilk_types.specs.declared.invocation.Invocation.TheVariants as invocations
use Rattle.cilk_tree.specs.declared.mark.Mark.{Mark}
use Rattle.cilk_tree.specs.declared.mark.Mark.TheVariants.{End, Sync, Resume}
use Rattle.cilk_tree.specs.Shape.{Shape, finish, sync, child, marks, SpellsMarks}
use Rattle.cilk_tree.specs.Tree.{Tree, block, blocks, rest_of, tree, leaves}
use Rattle.cilk_tree.proofs.Order.{not_to_itself}
use Rattle.cilk_tree.proofs.Strands.{leaves-beside, leaves-block, leaves-blocks}
use Rattle.cilk_trace.specs.declared.line.Line.{Line}
use Rattle.cilk_trace.specs.declared.line.Line.TheVariants as lines
use Rattle.cilk_trace.specs.Frames.{ends, Nests}
use Rattle.cilk_trace.specs.Marks.{marks_after, marks_of}
use Rattle.cilk_trace.specs.Accesses.{begun_in, strand_of}
use Rattle.cilk_trace.proofs.Strands.{strand_first, strand_next, strand_grows}
use Rattle.cilk_trace.specs.Opened.{Frame, Open, opening, entered, synced, called, spawned, after_line, opened_from, opened, InChildren, InOuter, IsOpen, OpenedIsParallel}
use Rattle.cilk_trace.proofs.NextMarks.{how_of, tail, at_sync, at_end, at_start}
use Rattle.cilk_trace.proofs.FrameRests.{Par, via, neither, IsSpawned, along, IsRest, begins}
use Rattle.cilk_trace.proofs.FrameRests as rests

-- what a frame outside waits for: how the child was started, what is left after it, the strands before and after it, and the frame's first
record Outer : Type 0 where
  how : Invocation
  rest : Shape
  before : ℕ
  after : ℕ
  first : ℕ

-- the marks of the frames outside
abbrev tails : List Outer → List Mark
tails [] = []
tails (x ∷ xs) = Resume ∷ (marks x.rest ++ tails xs)

record Waits (t : Tree) (ls : List Line) (fr : Frame) (fs : List Frame) (x : Outer) : Type 0 where
  is_rest : IsRest t (block (rest_of x.rest)) (rest_of x.rest).later x.after x.first
  back : (p : ℕ) → p ≤ x.before → Par t p x.after ↔ Par t p x.before
  beyond : (p : ℕ) → x.before < p → p < x.after → Par t p x.after ↔ IsSpawned x.how
  quiet : (p : ℕ) → x.before ≤ p → p < x.after → (Par t p x.before → ⊥) × (Par t p x.first → ⊥)
  here : (j : ℕ) → j ≤ fr.enter → (InChildren fr.children j ⊎ InOuter fs j) ↔ Par t (strand_of ls j) x.before
  frame : (j : ℕ) → j ≤ fr.enter → InOuter fs j ↔ Par t (strand_of ls j) x.first
  bound : (j : ℕ) → InChildren fr.children j ⊎ InOuter fs j → j < fr.enter
  strands : (j : ℕ) → j ≤ fr.enter → strand_of ls j ≤ x.before
  inner : (j : ℕ) → fr.enter < j → x.before < strand_of ls j

-- the frames outside, where the frame inside them ends before strand e
abbrev AllWait : Tree → List Line → ℕ → List Frame → List Outer → ℕ → Type 0
AllWait t ls i [] [] e = Unit {0}
AllWait t ls i [] (x ∷ xs) e = ⊥
AllWait t ls i (fr ∷ fs) [] e = ⊥
AllWait t ls i (fr ∷ fs) (x ∷ xs) e = Waits t ls fr fs x × (x.after ≡ e) × (fr.enter < i) × AllWait t ls i fs xs (x.after + leaves (blocks (rest_of x.rest)))

older : (t : Tree) (ls : List Line) (i : ℕ) (fs : List Frame) (xs : List Outer) (e : ℕ) → AllWait t ls i fs xs e → AllWait t ls (suc i) fs xs e
older t ls i [] [] e w = w
older t ls i [] (x ∷ xs) e w = absurd w
older t ls i (fr ∷ fs) [] e w = absurd w
older t ls i (fr ∷ fs) (x ∷ xs) e w = (w.0, w.1, (let m = w.2 in omega (arith, m)), older t ls i fs xs (x.after + leaves (blocks (rest_of x.rest))) w.3)

-- The state before line i of a trace, which is the first of these.
record Current (t : Tree) (ls : List Line) (i : ℕ) (o : Open) (left : List Line) : Type 0 where
  shape : Shape
  outs : List Outer
  strand : ℕ
  begun : ℕ
  is : strand_of ls i ≡ strand
  nests : Nests (length outs) left
  marked : marks_after left ≡ marks shape ++ tails outs
  kinds : (d : ℕ) (x : Outer) → slice_get outs d ≡ Some x → how_of (ends d left) ≡ x.how
  is_rest : IsRest t (block (rest_of shape)) (rest_of shape).later strand begun
  waits : AllWait t ls i o.outer outs (strand + leaves (blocks (rest_of shape)))
  here : (j : ℕ) → j < i → IsOpen o j ↔ Par t (strand_of ls j) strand
  frame : (j : ℕ) → j < i → InOuter o.outer j ↔ Par t (strand_of ls j) begun
  bound : (j : ℕ) → IsOpen o j → j < i

until : (A B : ℕ → Type 0) (i : ℕ) → ((j : ℕ) → j < i → A j ↔ B j) → (A i → ⊥) → (B i → ⊥) → (j : ℕ) → j < suc i → A j ↔ B j
until A B i h a b j m = elim (cases_lt j i) [
  | inl k ↦ h j k
  | inr k ↦ (let e : i ≡ j = omega (arith, m, k) in neither (A j) (B j) (subst (λ (x : ℕ). A x → ⊥) e a) (subst (λ (x : ℕ). B x → ⊥) e b))
]

wide_here : (t : Tree) (ls : List Line) (i : ℕ) (o : Open) (left : List Line) (c : Current t ls i o left) → (j : ℕ) → j < suc i → IsOpen o j ↔ Par t (strand_of ls j) c.strand
wide_here t ls i o left c = until (IsOpen o) (λ j. Par t (strand_of ls j) c.strand) i c.here (λ h. let m = c.bound i h in omega (arith, m))
    (λ h. not_to_itself t 1 c.strand (along t (strand_of ls i) c.strand c.strand c.is h))

wide_frame : (t : Tree) (ls : List Line) (i : ℕ) (o : Open) (left : List Line) (c : Current t ls i o left) → (j : ℕ) → j < suc i → InOuter o.outer j ↔ Par t (strand_of ls j) c.begun
wide_frame t ls i o left c = until (InOuter o.outer) (λ j. Par t (strand_of ls j) c.begun) i c.frame (λ h. let m = c.bound i (inr h) in omega (arith, m))
    (λ h. c.is_rest.alone (along t (strand_of ls i) c.strand c.begun c.is h))

-- earlier lines are in earlier strands
within : (t : Tree) (ls : List Line) (i : ℕ) (o : Open) (left : List Line) (c : Current t ls i o left) → (j : ℕ) → j < suc i → strand_of ls j ≤ c.strand
within t ls i o left c j m = let g = strand_grows ls j i (omega (arith, m)) in let e = c.is in omega (arith, g, e)

-- a line that begins no strand
idle : (t : Tree) (ls : List Line) (i : ℕ) (o : Open) (left left' : List Line) (c : Current t ls i o left) → strand_of ls (suc i) ≡ strand_of ls i → Nests (length c.outs) left'
    → marks_after left' ≡ marks c.shape ++ tails c.outs → ((d : ℕ) (x : Outer) → slice_get c.outs d ≡ Some x → how_of (ends d left') ≡ x.how) → Current t ls (suc i) o left'
idle t ls i o left left' c e nests marked kinds = record {
  shape = c.shape;
  outs = c.outs;
  strand = c.strand;
  begun = c.begun;
  is = e ∙ c.is;
  nests = nests;
  marked = marked;
  kinds = kinds;
  is_rest = c.is_rest;
  waits = older t ls i o.outer c.outs (c.strand + leaves (blocks (rest_of c.shape))) c.waits;
  here = wide_here t ls i o left c;
  frame = wide_frame t ls i o left c;
  bound = λ j h. let m = c.bound j h in omega (arith, m);
}

some_block : (r : Shape) → 1 ≤ leaves (block (rest_of r))
some_block r = let h = leaves-block (rest_of r) in omega (arith, h)

at_a_sync : (t : Tree) (ls : List Line) (i : ℕ) (o : Open) (left : List Line) → Current t ls i o (lines.Sync ∷ left) → strand_of ls (suc i) ≡ strand_of ls i + 1
    → Current t ls (suc i) (synced i o) left
at_a_sync t ls i o left c next =
    let a = at_sync c.shape (marks_after left) (tails c.outs) c.marked in
    let s : ℕ = c.strand in
    let law = rests.synced t (block (rest_of a.rest)) (rest_of a.rest).later 1 s c.begun (some_block a.rest)
    (subst (λ (r : Shape). IsRest t (block (rest_of r)) (rest_of r).later s c.begun) a.is c.is_rest) in
    let is = c.is in
    let end : s + (1 + leaves (blocks (rest_of a.rest))) ≡ s + 1 + leaves (blocks (rest_of a.rest)) = omega arith in
    record {
      shape = a.rest;
      outs = c.outs;
      strand = s + 1;
      begun = c.begun;
      is = omega (arith, next, is);
      nests = c.nests;
      marked = a.marked;
      kinds = c.kinds;
      is_rest = law.0;
      waits = older t ls i o.outer c.outs (s + 1 + leaves (blocks (rest_of a.rest))) (subst (AllWait t ls i o.outer c.outs) end
          (subst (λ (r : Shape). AllWait t ls i o.outer c.outs (s + leaves (blocks (rest_of r)))) a.is c.waits));
      here = λ j m. (let w = wide_frame t ls i o (lines.Sync ∷ left) c j m in let v = law.1 (strand_of ls j) (within t ls i o (lines.Sync ∷ left) c j m) in
          ((λ h. elim h [ inl k ↦ absurd k | inr k ↦ v.1 (w.0 k) ]), λ h. inr (w.1 (v.0 h))));
      frame = wide_frame t ls i o (lines.Sync ∷ left) c;
      bound = λ j h. elim h [ inl k ↦ absurd k | inr k ↦ (let m = c.bound j (inr k) in omega (arith, m)) ];
    }

child_size : (k : Invocation) (u r : Shape) (c : ℕ) → c + leaves (blocks (rest_of (child k u r))) ≡ c + 1 + leaves (blocks (rest_of u)) + leaves (blocks (rest_of r))
child_size k u r c =
    let a = leaves-blocks (rest_of (child k u r)) in
    let b = leaves-beside k (blocks (rest_of u)) (block (rest_of r)) in
    let d = leaves-block (rest_of r) in
    let e = leaves-blocks (rest_of r) in
    omega (arith, a, b, d, e)

kinds_in : (left : List Line) (x : Outer) (xs : List Outer) → how_of (ends 0 left) ≡ x.how → ((d : ℕ) (y : Outer) → slice_get xs d ≡ Some y → how_of (ends (suc d) left) ≡ y.how)
    → (d : ℕ) (y : Outer) → slice_get (x ∷ xs) d ≡ Some y → how_of (ends d left) ≡ y.how
kinds_in left x xs e h zero y g = (let q : x ≡ y = cc g in e ∙ ap (λ (z : Outer). z.how) q)
kinds_in left x xs e h (suc d) y g = h d y g

at_an_enter : (t : Tree) (ls : List Line) (i site : ℕ) (o : Open) (left : List Line) → Current t ls i o (lines.Enter site ∷ left) → strand_of ls (suc i) ≡ strand_of ls i + 1
    → Current t ls (suc i) (entered i o) left
at_an_enter t ls i site o left c next =
    let a = at_start (ends 0 left) c.shape (marks_after left) (tails c.outs) c.marked in
    let s : ℕ = c.strand in
    let k : Invocation = how_of (ends 0 left) in
    let u : Shape = a.inner in
    let r : Shape = a.rest in
    let law = rests.started t k (block (rest_of u)) (rest_of u).later (block (rest_of r)) (rest_of r).later 2 s c.begun (some_block r)
    (subst (λ (r : Shape). IsRest t (block (rest_of r)) (rest_of r).later s c.begun) a.is c.is_rest) in
    let d : ℕ = s + 1 + leaves (blocks (rest_of u)) in
    let x : Outer = record { how = k; rest = r; before = s; after = d; first = c.begun } in
    let is = c.is in
    let wide = wide_here t ls i o (lines.Enter site ∷ left) c in
    let low = within t ls i o (lines.Enter site ∷ left) c in
    let both : (j : ℕ) → j < suc i → IsOpen o j ↔ Par t (strand_of ls j) (s + 1) =
    λ j m. (let w = wide j m in let v = law.enter (strand_of ls j) (low j m) in ((λ h. v.1 (w.0 h)), λ h. w.1 (v.0 h))) in
    record {
      shape = u;
      outs = x ∷ c.outs;
      strand = s + 1;
      begun = s + 1;
      is = omega (arith, next, is);
      nests = c.nests;
      marked = a.marked;
      kinds = kinds_in left x c.outs refl c.kinds;
      is_rest = law.inside;
      waits = (
        record {
          is_rest = law.continues;
          back = law.back;
          beyond = law.beyond;
          quiet = law.quiet;
          here = λ j m. wide j (omega (arith, m));
          frame = λ j m. wide_frame t ls i o (lines.Enter site ∷ left) c j (omega (arith, m));
          bound = c.bound;
          strands = λ j m. low j (omega (arith, m));
          inner = λ j m. (let g = strand_grows ls (suc i) j (omega (arith, m)) in omega (arith, g, next, is));
        },
        refl,
        omega arith,
        older t ls i o.outer c.outs (d + leaves (blocks (rest_of r))) (subst (AllWait t ls i o.outer c.outs) (child_size k u r s)
            (subst (λ (q : Shape). AllWait t ls i o.outer c.outs (s + leaves (blocks (rest_of q)))) a.is c.waits)),
      );
      here = λ j m. (let w = both j m in ((λ h. elim h [ inl q ↦ absurd q | inr q ↦ w.0 q ]), λ h. inr (w.1 h)));
      frame = both;
      bound = λ j h. elim h [ inl q ↦ absurd q | inr q ↦ (let m = c.bound j q in omega (arith, m)) ];
    }

-- the innermost frame ends: what is known of it
record Ending (t : Tree) (ls : List Line) (i : ℕ) (fs : List Frame) (xs : List Outer) (s : ℕ) (left : List Line) : Type 0 where
  waits : AllWait t ls i fs xs (s + 2)
  marked : Resume ∷ marks_after left ≡ tails xs

ending : (t : Tree) (ls : List Line) (i : ℕ) (o : Open) (l : Line) (left : List Line) (c : Current t ls i o (l ∷ left))
    → Sync ∷ End ∷ Resume ∷ marks_after left ≡ marks c.shape ++ tails c.outs → Ending t ls i o.outer c.outs c.strand left
ending t ls i o l left c marked =
    let a = at_sync c.shape (End ∷ Resume ∷ marks_after left) (tails c.outs) marked in
    let b = at_end a.rest (Resume ∷ marks_after left) (tails c.outs) a.marked in
    let is : c.shape ≡ sync finish = a.is ∙ ap sync b.0 in
    record { waits = subst (λ (r : Shape). AllWait t ls i o.outer c.outs (c.strand + leaves (blocks (rest_of r)))) is c.waits; marked = b.1 }

-- the frame that waits goes on
resumes : (t : Tree) (ls : List Line) (i s : ℕ) (fr : Frame) (fs : List Frame) (x : Outer) (xs : List Outer) (left : List Line) (o : Open) → o.outer ≡ fs
    → Waits t ls fr fs x → x.after ≡ s + 2 → fr.enter < i → AllWait t ls i fs xs (x.after + leaves (blocks (rest_of x.rest)))
    → Resume ∷ marks_after left ≡ tails (x ∷ xs) → strand_of ls i ≡ s → strand_of ls (suc i) ≡ strand_of ls i + 2 → Nests (length xs) left
    → ((d : ℕ) (y : Outer) → slice_get xs d ≡ Some y → how_of (ends d left) ≡ y.how)
    → ((j : ℕ) → j ≤ fr.enter → IsOpen o j ↔ (InChildren fr.children j ⊎ InOuter fs j)) → ((j : ℕ) → fr.enter < j → j ≤ i → IsOpen o j ↔ IsSpawned x.how) → ((j : ℕ) → IsOpen o j → j ≤ i)
    → Current t ls (suc i) o left
resumes t ls i s fr fs x xs left o outer w after early ws marked is next nests kinds old new bound =
    let last : (j : ℕ) → j < suc i → strand_of ls j < x.after = λ j m. (let g = strand_grows ls j i (omega (arith, m)) in omega (arith, g, is, after)) in
    record {
      shape = x.rest;
      outs = xs;
      strand = x.after;
      begun = x.first;
      is = omega (arith, next, is, after);
      nests = nests;
      marked = ap tail marked;
      kinds = kinds;
      is_rest = w.is_rest;
      waits = subst (λ (q : List Frame). AllWait t ls (suc i) q xs (x.after + leaves (blocks (rest_of x.rest)))) (sym outer)
          (older t ls i fs xs (x.after + leaves (blocks (rest_of x.rest))) ws);
      here = λ j m. elim (cases_lt fr.enter j) [
        | inl k ↦ via (IsOpen o j) (Par t (strand_of ls j) x.after) (IsSpawned x.how) (new j k (omega (arith, m))) (w.beyond (strand_of ls j) (w.inner j k) (last j m))
        | inr k ↦ (let a = old j k in let b = w.here j k in let e = w.back (strand_of ls j) (w.strands j k) in ((λ h. e.1 (b.0 (a.0 h))), λ h. a.1 (b.1 (e.0 h))))
      ];
      frame = λ j m. subst (λ (q : List Frame). InOuter q j ↔ Par t (strand_of ls j) x.first) (sym outer) (elim (cases_lt fr.enter j) [
        | inl k ↦ (let b = w.inner j k in neither (InOuter fs j) (Par t (strand_of ls j) x.first) (λ h. let q = w.bound j (inr h) in omega (arith, q, k))
            (w.quiet (strand_of ls j) (omega (arith, b)) (last j m)).1)
        | inr k ↦ w.frame j k
      ]);
      bound = λ j h. let m = bound j h in omega (arith, m);
    }

at_called : (t : Tree) (ls : List Line) (i s : ℕ) (o : Open) (fs : List Frame) (xs : List Outer) (left : List Line) → Ending t ls i fs xs s left → strand_of ls i ≡ s
    → strand_of ls (suc i) ≡ strand_of ls i + 2 → Nests (length xs) (lines.Called ∷ left)
    → ((d : ℕ) (y : Outer) → slice_get xs d ≡ Some y → how_of (ends d (lines.Called ∷ left)) ≡ y.how) → Current t ls (suc i) (called i o fs) left
at_called t ls i s o [] [] left g is next nests kinds = absurd nests
at_called t ls i s o [] (x ∷ xs) left g is next nests kinds = absurd g.waits
at_called t ls i s o (fr ∷ fs) [] left g is next nests kinds = absurd g.waits
at_called t ls i s o (fr ∷ fs) (x ∷ xs) left g is next nests kinds =
    let w = g.waits in
    let how : invocations.Call ≡ x.how = kinds 0 x refl in
    let m = w.2 in
    resumes t ls i s fr fs x xs left (record { children = fr.children; outer = fs; first = suc i }) refl w.0 w.1 w.2 w.3 g.marked is next nests (λ d y h. kinds (suc d) y h)
    (λ j k. ((λ h. h), λ h. h))
    (λ j k le. neither (InChildren fr.children j ⊎ InOuter fs j) (IsSpawned x.how) (λ h. let q = w.0.bound j h in omega (arith, q, k)) (λ h. subst IsSpawned (sym how) h))
    (λ j h. let q = w.0.bound j h in omega (arith, q, m))

at_spawned : (t : Tree) (ls : List Line) (i s : ℕ) (o : Open) (fs : List Frame) (xs : List Outer) (left : List Line) → Ending t ls i fs xs s left → strand_of ls i ≡ s
    → strand_of ls (suc i) ≡ strand_of ls i + 2 → Nests (length xs) (lines.Spawned ∷ left)
    → ((d : ℕ) (y : Outer) → slice_get xs d ≡ Some y → how_of (ends d (lines.Spawned ∷ left)) ≡ y.how) → Current t ls (suc i) (spawned i o fs) left
at_spawned t ls i s o [] [] left g is next nests kinds = absurd nests
at_spawned t ls i s o [] (x ∷ xs) left g is next nests kinds = absurd g.waits
at_spawned t ls i s o (fr ∷ fs) [] left g is next nests kinds = absurd g.waits
at_spawned t ls i s o (fr ∷ fs) (x ∷ xs) left g is next nests kinds =
    let w = g.waits in
    let how : invocations.Spawn ≡ x.how = kinds 0 x refl in
    let m = w.2 in
    resumes t ls i s fr fs x xs left (record { children = record { enter = fr.enter; spawned = i } ∷ fr.children; outer = fs; first = suc i }) refl w.0 w.1 w.2 w.3 g.marked is next nests
    (λ d y h. kinds (suc d) y h)
    (λ j k. ((λ h. elim h [ inl a ↦ elim a [ inl b ↦ (let b0 = b.0 in absurd (omega (arith, b0, k))) | inr b ↦ inl b ] | inr a ↦ inr a ]), λ h. elim h [ inl a ↦ inl (inr a) | inr a ↦ inr a ]))
    (λ j k le. ((λ h. subst IsSpawned how tt), λ h. inl (inl (k, le))))
    (λ j h. elim h [
      | inl a ↦ elim a [ inl b ↦ b.1 | inr b ↦ (let q = w.0.bound j (inl b) in omega (arith, q, m)) ]
      | inr a ↦ (let q = w.0.bound j (inr a) in omega (arith, q, m))
    ])

end_last : (xs : List Outer) (left : List Line) → Nests (length xs) (lines.End ∷ left) → left ≡ []
end_last [] [] h = refl
end_last [] (k ∷ ks) h = absurd h
end_last (x ∷ xs) left h = absurd h

step : (t : Tree) (ls : List Line) (i : ℕ) (o : Open) (l : Line) (left : List Line) → (left ≡ [] → ⊥) → strand_of ls (suc i) ≡ strand_of ls i + begun_in l → Current t ls i o (l ∷ left)
    → Current t ls (suc i) (after_line i l o) left
step t ls i o (lines.Enter s) left m e c = at_an_enter t ls i s o left c e
step t ls i o lines.Spawned left m e c = at_spawned t ls i c.strand o o.outer c.outs left (ending t ls i o lines.Spawned left c c.marked) c.is e c.nests c.kinds
step t ls i o lines.Called left m e c = at_called t ls i c.strand o o.outer c.outs left (ending t ls i o lines.Called left c c.marked) c.is e c.nests c.kinds
step t ls i o lines.Sync left m e c = at_a_sync t ls i o left c e
step t ls i o lines.End left m e c = absurd (m (end_last c.outs left c.nests))
step t ls i o (lines.Read k s) left m e c = idle t ls i o (lines.Read k s ∷ left) left c (omega (arith, e)) c.nests c.marked c.kinds
step t ls i o (lines.Write k s) left m e c = idle t ls i o (lines.Write k s ∷ left) left c (omega (arith, e)) c.nests c.marked c.kinds
step t ls i o (lines.Clear k) left m e c = idle t ls i o (lines.Clear k ∷ left) left c (omega (arith, e)) c.nests c.marked c.kinds
step t ls i o (lines.Unseen k) left m e c = idle t ls i o (lines.Unseen k ∷ left) left c (omega (arith, e)) c.nests c.marked c.kinds
step t ls i o (lines.Create r s) left m e c = idle t ls i o (lines.Create r s ∷ left) left c (omega (arith, e)) c.nests c.marked c.kinds
step t ls i o (lines.Update r s) left m e c = idle t ls i o (lines.Update r s ∷ left) left c (omega (arith, e)) c.nests c.marked c.kinds
step t ls i o (lines.Value r s) left m e c = idle t ls i o (lines.Value r s ∷ left) left c (omega (arith, e)) c.nests c.marked c.kinds
step t ls i o (lines.Retire r s) left m e c = idle t ls i o (lines.Retire r s ∷ left) left c (omega (arith, e)) c.nests c.marked c.kinds

goes_on : (ds more : List Line) (l : Line) → ds ++ l ∷ more ≡ [] → ⊥
goes_on [] more l e = cc e
goes_on (d ∷ ds) more l e = cc e

abbrev pub At : List Line → ℕ → List Line → Type 0
At ls i left = (k : ℕ) → slice_get ls (i + k) ≡ slice_get left k

run : (t : Tree) (ls : List Line) (done more : List Line) (l : Line) (i : ℕ) (o : Open) → At ls i (done ++ l ∷ more) → Current t ls i o (done ++ l ∷ more)
    → (j : ℕ) → j < i + length done → IsOpen (opened_from i o done) j ↔ Par t (strand_of ls j) (strand_of ls (i + length done))
run t ls [] more l i o at c =
    let z : i ≡ i + 0 = omega arith in
    subst (λ (n : ℕ). (j : ℕ) → j < n → IsOpen o j ↔ Par t (strand_of ls j) (strand_of ls n)) z
    (λ j m. subst (λ (s : ℕ). IsOpen o j ↔ Par t (strand_of ls j) s) (sym c.is) (c.here j m))
run t ls (d ∷ ds) more l i o at c =
    let z : i + 0 ≡ i = omega arith in
    let here : slice_get ls i ≡ Some d = subst (λ (n : ℕ). slice_get ls n ≡ Some d) z (at 0) in
    let next = step t ls i o d (ds ++ l ∷ more) (goes_on ds more l) (strand_next ls i d here) c in
    let at' : At ls (suc i) (ds ++ l ∷ more) =
    λ k. (let y : i + suc k ≡ suc i + k = omega arith in subst (λ (n : ℕ). slice_get ls n ≡ slice_get (ds ++ l ∷ more) k) y (at (suc k))) in
    let e : suc i + length ds ≡ i + suc (length ds) = omega arith in
    subst (λ (n : ℕ). (j : ℕ) → j < n → IsOpen (opened_from (suc i) (after_line i d o) ds) j ↔ Par t (strand_of ls j) (strand_of ls n)) e
    (run t ls ds more l (suc i) (after_line i d o) at' next)

begin : (s : Shape) (ls : List Line) → Nests 0 ls → SpellsMarks s (marks_of ls) → Current (tree s) ls 0 opening ls
begin s ls nests spells = record {
  shape = s;
  outs = [];
  strand = 1;
  begun = 1;
  is = strand_first ls;
  nests = nests;
  marked = ap tail spells ∙ sym (append-nil (marks s));
  kinds = λ d x h. absurd (cc h);
  is_rest = begins (block (rest_of s)) (rest_of s).later;
  waits = tt;
  here = λ j m. absurd (omega (arith, m));
  frame = λ j m. absurd (omega (arith, m));
  bound = λ j h. elim h [ inl k ↦ absurd k | inr k ↦ absurd k ];
}

pub opened_is_parallel : OpenedIsParallel
opened_is_parallel s done more l nests spells =
    let ls : List Line = done ++ l ∷ more in
    let z : 0 + length done ≡ length done = omega arith in
    let same : (k : ℕ) → k ≡ 0 + k = λ k. omega arith in
    subst (λ (n : ℕ). (j : ℕ) → j < n → IsOpen (opened done) j ↔ Par (tree s) (strand_of ls j) (strand_of ls n)) z
    (run (tree s) ls done more l 0 opening (λ k. subst (λ (n : ℕ). slice_get ls n ≡ slice_get ls k) (same k) refl) (begin s ls nests spells))
