-- Traces whose segments are alike have the same verdict: `segments_decide`. Strands and clears before a line depend on the lines that cut, and
-- retirements on those that are no accesses: `strand_same`, `clears_same`, `retirements_same`. So a race of one trace is one of the other.
use Rattle.std.proofs.Common.{◌≡◌, ℕ, zero, suc, ◌+◌, ◌-◌, ◌<◌, ◌≤◌, ◌⊎◌, Bool, true, false, cond, List, [], ◌∷◌, refl, sym, ◌∙◌, ap, subst, arith, append-nil, Option, Some, None, slice_get, inl, inr}
use Rattle.std.proofs.lemmas.Bool.{cases_lt}
use Rattle.cilk_types.specs.declared.invocation.Invocation.{Invocation}
use Rattle.cilk_tree.specs.declared.mark.Mark.{Mark}
use Rattle.cilk_tree.specs.declared.mark.Mark.TheVariants.{Begin, End, Sync, Resume}
use Rattle.cilk_tree.specs.Shape.{Shape, SpellsMarks, marks}
use Rattle.cilk_tree.specs.Tree.{Tree, tree}
use Rattle.cilk_tree.specs.Parallel.{Parallel}
use Rattle.cilk_tree.proofs.Order.{not_to_itself}
use Rattle.cilk_tree.proofs.Spelled.{one_shape}
use Rattle.cilk_peers.specs.Peers.{SamePeers}
use Rattle.cilk_trace.specs.declared.line.Line.{Line}
use Rattle.cilk_trace.specs.declared.line.Line.TheVariants as lines
use Rattle.cilk_trace.specs.declared.judge.Verdict.{Verdict}
use Rattle.cilk_trace.specs.declared.judge.Verdict.TheVariants as verdicts
use Rattle.cilk_trace.specs.Frames.{ends}
use Rattle.cilk_trace.specs.Marks.{started, marks_after, marks_of}
use Rattle.cilk_trace.specs.Accesses.{begun_in, strand_of, cleared_in, clears, AccessesAt, WritesAt, IsTraceRace, IsFirstTraceRace, HasNoTraceRace}
use Rattle.cilk_trace.specs.Reducers.{retired_in, retirements, ReadsView, ReadsViewAt, IsTraceViewRace, IsFirstTraceViewRace, HasNoTraceViewRace}
use Rattle.cilk_trace.specs.Unseen.{unseen_by, unseen_in}
use Rattle.cilk_trace.specs.Judging.{Says}
use Rattle.cilk_trace.specs.Segments.{is_other, cuts, those, before, others, place, segment, HaveAlikeSegments, IsSameVerdict, SegmentsDecide}
use Rattle.cilk_trace.proofs.Strands.{strand_first}

-- ---- what lines add to counts

cut_other : (l : Line) → cuts l ≡ true → is_other l ≡ true
cut_other (lines.Read k s) h = absurd (let q : false ≡ true = h in cc q)
cut_other (lines.Write k s) h = absurd (let q : false ≡ true = h in cc q)
cut_other _ h = refl

begins_none : (l : Line) → cuts l ≡ false → begun_in l ≡ 0
begins_none (lines.Read k s) h = refl
begins_none (lines.Write k s) h = refl
begins_none (lines.Clear k) h = refl
begins_none (lines.Unseen s) h = refl
begins_none (lines.Create r s) h = refl
begins_none (lines.Update r s) h = refl
begins_none (lines.Value r s) h = refl
begins_none (lines.Retire r s) h = refl
begins_none _ h = absurd (let q : true ≡ false = h in cc q)

clears_none : (l : Line) (c : ℕ) → cuts l ≡ false → cleared_in l c ≡ 0
clears_none (lines.Clear k) c h = absurd (let q : true ≡ false = h in cc q)
clears_none _ c h = refl

retires_none : (l : Line) (r : ℕ) → is_other l ≡ false → retired_in l r ≡ 0
retires_none (lines.Retire k s) r h = absurd (let q : true ≡ false = h in cc q)
retires_none _ r h = refl

-- a count over the first lines
abbrev count : (Line → ℕ) → List Line → ℕ → ℕ
count g ls zero = 0
count g [] (suc i) = 0
count g (l ∷ ls) (suc i) = g l + count g ls i

count_none : (g : Line → ℕ) (ls : List Line) → count g ls 0 ≡ 0
count_none g [] = refl
count_none g (l ∷ ls) = refl

count_step : (f : Line → Bool) (g : Line → ℕ) → (l : Line) (ls : List Line) (i n : ℕ) (b : Bool) → f l ≡ b → (f l ≡ false → g l ≡ 0) → n ≡ count g (those f ls) (before f ls i)
    → g l + n ≡ count g (cond b (l ∷ those f ls) (those f ls)) (cond b (suc (before f ls i)) (before f ls i))
count_step f g l ls i n true e none h = ap (λ (x : ℕ). g l + x) h
count_step f g l ls i n false e none h = let z = none e in omega (arith, z, h)

-- where only lines of a sort add to it, it is that of these lines
count_same : (f : Line → Bool) (g : Line → ℕ) → ((l : Line) → f l ≡ false → g l ≡ 0) → (ls : List Line) (i : ℕ) → count g ls i ≡ count g (those f ls) (before f ls i)
count_same f g none [] zero = refl
count_same f g none (l ∷ ls) zero = sym (count_none g (those f (l ∷ ls)))
count_same f g none [] (suc i) = refl
count_same f g none (l ∷ ls) (suc i) = count_step f g l ls i (count g ls i) (f l) refl (none l) (count_same f g none ls i)

strand_count : (ls : List Line) (i : ℕ) → strand_of ls i ≡ 1 + count begun_in ls i
strand_count ls zero = let z = strand_first ls in let n = count_none begun_in ls in omega (arith, z, n)
strand_count [] (suc i) = refl
strand_count (l ∷ ls) (suc i) = let h = strand_count ls i in omega (arith, h)

clears_count : (ls : List Line) (c i : ℕ) → clears ls c i ≡ count (λ (l : Line). cleared_in l c) ls i
clears_count [] c zero = refl
clears_count (l ∷ ls) c zero = refl
clears_count [] c (suc i) = refl
clears_count (l ∷ ls) c (suc i) = ap (λ (x : ℕ). cleared_in l c + x) (clears_count ls c i)

retirements_count : (ls : List Line) (r i : ℕ) → retirements ls r i ≡ count (λ (l : Line). retired_in l r) ls i
retirements_count [] r zero = refl
retirements_count (l ∷ ls) r zero = refl
retirements_count [] r (suc i) = refl
retirements_count (l ∷ ls) r (suc i) = ap (λ (x : ℕ). retired_in l r + x) (retirements_count ls r i)

-- counts in two traces with the same lines of a sort, behind as many of these
both_same : (f : Line → Bool) (g : Line → ℕ) → ((l : Line) → f l ≡ false → g l ≡ 0) → (ls ms : List Line) (i j : ℕ) → those f ls ≡ those f ms → before f ls i ≡ before f ms j
    → count g ls i ≡ count g ms j
both_same f g none ls ms i j e k =
    count_same f g none ls i
    ∙ (ap (λ (x : List Line). count g x (before f ls i)) e ∙ (ap (λ (n : ℕ). count g (those f ms) n) k ∙ sym (count_same f g none ms j)))

-- a sort that strands are told by
abbrev Cuts : (Line → Bool) → Type 0
Cuts f = (l : Line) → f l ≡ false → begun_in l ≡ 0

strand_same : (f : Line → Bool) → Cuts f → (ls ms : List Line) (i j : ℕ) → those f ls ≡ those f ms → before f ls i ≡ before f ms j → strand_of ls i ≡ strand_of ms j
strand_same f c ls ms i j e k =
    strand_count ls i ∙ (ap (λ (n : ℕ). 1 + n) (both_same f begun_in c ls ms i j e k) ∙ sym (strand_count ms j))

clears_same : (ls ms : List Line) (c i j : ℕ) → those cuts ls ≡ those cuts ms → segment ls i ≡ segment ms j → clears ls c i ≡ clears ms c j
clears_same ls ms c i j e k =
    clears_count ls c i
    ∙ (both_same cuts (λ (l : Line). cleared_in l c) (λ l h. clears_none l c h) ls ms i j e k ∙ sym (clears_count ms c j))

retirements_same : (ls ms : List Line) (r i j : ℕ) → others ls ≡ others ms → place ls i ≡ place ms j → retirements ls r i ≡ retirements ms r j
retirements_same ls ms r i j e k =
    retirements_count ls r i
    ∙ (both_same is_other (λ (l : Line). retired_in l r) (λ l h. retires_none l r h) ls ms i j e k ∙ sym (retirements_count ms r j))

-- ---- lines that cut are among the others

not_other : (l : Line) (b : Bool) → cuts l ≡ b → is_other l ≡ false → b ≡ false
not_other l true e h = let q : true ≡ false = sym (cut_other l e) ∙ h in q
not_other l false e h = refl

cut_step : (l : Line) (ls : List Line) (o : Bool) → is_other l ≡ o → those cuts ls ≡ those cuts (others ls) → cond (cuts l) (l ∷ those cuts ls) (those cuts ls) ≡ those cuts (cond o (l ∷ others ls) (others ls))
cut_step l ls true e h = ap (λ (x : List Line). cond (cuts l) (l ∷ x) x) h
cut_step l ls false e h = ap (λ (b : Bool). cond b (l ∷ those cuts ls) (those cuts ls)) (not_other l (cuts l) refl e) ∙ h

cuts_of_others : (ls : List Line) → those cuts ls ≡ those cuts (others ls)
cuts_of_others [] = refl
cuts_of_others (l ∷ ls) = cut_step l ls (is_other l) refl (cuts_of_others ls)

cuts_same : (ls ms : List Line) → others ls ≡ others ms → those cuts ls ≡ those cuts ms
cuts_same ls ms e = cuts_of_others ls ∙ (ap (those cuts) e ∙ sym (cuts_of_others ms))

begins_place : Cuts is_other
begins_place l h = begins_none l (not_other l (cuts l) refl h)

-- ---- marks, and lines `unseen`

ends_same : (d : ℕ) (ls : List Line) → ends d ls ≡ ends d (others ls)
ends_same d [] = refl
ends_same d (lines.Enter s ∷ ls) = ends_same (suc d) ls
ends_same zero (lines.Spawned ∷ ls) = refl
ends_same (suc d) (lines.Spawned ∷ ls) = ends_same d ls
ends_same zero (lines.Called ∷ ls) = refl
ends_same (suc d) (lines.Called ∷ ls) = ends_same d ls
ends_same d (lines.Sync ∷ ls) = ends_same d ls
ends_same d (lines.Read c s ∷ ls) = ends_same d ls
ends_same d (lines.Write c s ∷ ls) = ends_same d ls
ends_same d (lines.Clear c ∷ ls) = ends_same d ls
ends_same d (lines.Unseen c ∷ ls) = ends_same d ls
ends_same d (lines.Create r s ∷ ls) = ends_same d ls
ends_same d (lines.Update r s ∷ ls) = ends_same d ls
ends_same d (lines.Value r s ∷ ls) = ends_same d ls
ends_same d (lines.Retire r s ∷ ls) = ends_same d ls
ends_same d (lines.End ∷ ls) = ends_same d ls

after_same : (ls : List Line) → marks_after ls ≡ marks_after (others ls)
after_same [] = refl
after_same (lines.Enter s ∷ ls) =
    ap (λ (o : Option Invocation). started o ∷ Begin ∷ marks_after ls) (ends_same 0 ls)
    ∙ ap (λ (ms : List Mark). started (ends 0 (others ls)) ∷ Begin ∷ ms) (after_same ls)
after_same (lines.Spawned ∷ ls) = ap (λ (ms : List Mark). Sync ∷ End ∷ Resume ∷ ms) (after_same ls)
after_same (lines.Called ∷ ls) = ap (λ (ms : List Mark). Sync ∷ End ∷ Resume ∷ ms) (after_same ls)
after_same (lines.Sync ∷ ls) = ap (λ (ms : List Mark). Sync ∷ ms) (after_same ls)
after_same (lines.Read c s ∷ ls) = after_same ls
after_same (lines.Write c s ∷ ls) = after_same ls
after_same (lines.Clear c ∷ ls) = after_same ls
after_same (lines.Unseen c ∷ ls) = after_same ls
after_same (lines.Create r s ∷ ls) = after_same ls
after_same (lines.Update r s ∷ ls) = after_same ls
after_same (lines.Value r s ∷ ls) = after_same ls
after_same (lines.Retire r s ∷ ls) = after_same ls
after_same (lines.End ∷ ls) = ap (λ (ms : List Mark). Sync ∷ End ∷ ms) (after_same ls)

unseen_none : (l : Line) → is_other l ≡ false → unseen_by l ≡ 0
unseen_none (lines.Unseen s) h = absurd (let q : true ≡ false = h in cc q)
unseen_none _ h = refl

unseen_step : (l : Line) (ls : List Line) (b : Bool) → is_other l ≡ b → unseen_in ls ≡ unseen_in (others ls) → unseen_by l + unseen_in ls ≡ unseen_in (cond b (l ∷ others ls) (others ls))
unseen_step l ls true e h = ap (λ (x : ℕ). unseen_by l + x) h
unseen_step l ls false e h = let z = unseen_none l e in omega (arith, z, h)

unseen_same : (ls : List Line) → unseen_in ls ≡ unseen_in (others ls)
unseen_same [] = refl
unseen_same (l ∷ ls) = unseen_step l ls (is_other l) refl (unseen_same ls)

abbrev later_marks : List Mark → List Mark
later_marks [] = []
later_marks (m ∷ ms) = ms

one_spelled : (s t : Shape) (ms : List Mark) → SpellsMarks s ms → SpellsMarks t ms → s ≡ t
one_spelled s t ms h k = (one_shape s t [] [] (append-nil (marks s) ∙ (ap later_marks (sym h ∙ k) ∙ sym (append-nil (marks t))))).0

marks_same : (ls ms : List Line) → others ls ≡ others ms → marks_of ls ≡ marks_of ms
marks_same ls ms e = ap (λ (x : List Mark). Begin ∷ x) (after_same ls ∙ (ap marks_after e ∙ sym (after_same ms)))

-- ---- segments and places

before_none : (f : Line → Bool) (ls : List Line) → before f ls 0 ≡ 0
before_none f [] = refl
before_none f (l ∷ ls) = refl

before_step : (n m : ℕ) (b : Bool) → n ≤ m → cond b (suc n) n ≤ cond b (suc m) m
before_step n m true h = omega (arith, h)
before_step n m false h = h

before_grows : (f : Line → Bool) (ls : List Line) (j i : ℕ) → j ≤ i → before f ls j ≤ before f ls i
before_grows f ls zero i le = let z = before_none f ls in omega (arith, z)
before_grows f [] (suc j) zero le = absurd (omega (arith, le))
before_grows f [] (suc j) (suc i) le = omega arith
before_grows f (l ∷ ls) (suc j) zero le = absurd (omega (arith, le))
before_grows f (l ∷ ls) (suc j) (suc i) le = before_step (before f ls j) (before f ls i) (f l) (before_grows f ls j i (omega (arith, le)))

-- two lines of strands that differ keep their order
ordered : (f : Line → Bool) → Cuts f → (ls ms : List Line) (i k j n : ℕ) → i < k → (strand_of ls i ≡ strand_of ls k → ⊥) → before f ms j ≡ before f ls i → before f ms n ≡ before f ls k → j < n
ordered f c ls ms i k j n lt differ a b = elim (cases_lt j n) [
  | inl m ↦ m
  | inr m ↦ (let g = before_grows f ms n j m in
      let h = before_grows f ls i k (omega (arith, lt)) in
      absurd (differ (strand_same f c ls ls i k refl (omega (arith, a, b, g, h)))))
]

-- the line with this index among the other lines
record IsOther (ls : List Line) (k : ℕ) (l : Line) : Type 0 where
  index : ℕ
  line : slice_get ls index ≡ Some l
  number : place ls index ≡ k

other_later : (m : Line) (ms : List Line) (k : ℕ) (l : Line) (b : Bool) → is_other m ≡ b → IsOther ms k l → IsOther (m ∷ ms) (cond b (suc k) k) l
other_later m ms k l true e h = record { index = suc h.index; line = h.line; number = ap (λ (x : Bool). cond x (suc (place ms h.index)) (place ms h.index)) e ∙ ap suc h.number }
other_later m ms k l false e h = record { index = suc h.index; line = h.line; number = ap (λ (x : Bool). cond x (suc (place ms h.index)) (place ms h.index)) e ∙ h.number }

other_step : (m : Line) (ms : List Line) (k : ℕ) (l : Line) (b : Bool) → is_other m ≡ b → slice_get (cond b (m ∷ others ms) (others ms)) k ≡ Some l
    → ((n : ℕ) → slice_get (others ms) n ≡ Some l → IsOther ms n l) → IsOther (m ∷ ms) k l
other_step m ms zero l true e h rest = record { index = 0; line = h; number = refl }
other_step m ms (suc k) l true e h rest = other_later m ms k l true e (rest k h)
other_step m ms k l false e h rest = other_later m ms k l false e (rest k h)

other_found : (ms : List Line) (k : ℕ) (l : Line) → slice_get (others ms) k ≡ Some l → IsOther ms k l
other_found [] k l h = absurd (let q : None ≡ Some l = h in cc q)
other_found (m ∷ ms) k l h = other_step m ms k l (is_other m) refl h (λ n g. other_found ms n l g)

there_step : (m : Line) (ms : List Line) (i : ℕ) (l : Line) (b : Bool) → slice_get (others ms) (place ms i) ≡ Some l
    → slice_get (cond b (m ∷ others ms) (others ms)) (cond b (suc (place ms i)) (place ms i)) ≡ Some l
there_step m ms i l true h = h
there_step m ms i l false h = h

there_first : (m : Line) (ms : List Line) (b : Bool) → is_other m ≡ b → is_other m ≡ true → slice_get (cond b (m ∷ others ms) (others ms)) 0 ≡ Some m
there_first m ms true e h = refl
there_first m ms false e h = absurd (let q : false ≡ true = sym e ∙ h in cc q)

-- a line that is no access is among the others, by its number
other_there : (ls : List Line) (i : ℕ) (l : Line) → is_other l ≡ true → slice_get ls i ≡ Some l → slice_get (others ls) (place ls i) ≡ Some l
other_there [] i l o h = absurd (let q : None ≡ Some l = h in cc q)
other_there (m ∷ ms) zero l o h =
    let e : m ≡ l = cc h in
    subst (λ (x : Line). slice_get (others (m ∷ ms)) 0 ≡ Some x) e (there_first m ms (is_other m) refl (subst (λ (x : Line). is_other x ≡ true) (sym e) o))
other_there (m ∷ ms) (suc i) l o h = there_step m ms i l (is_other m) (other_there ms i l o h)

-- ---- races of accesses

-- an index of a trace, behind so many lines of a sort, of which P holds
record Met (f : Line → Bool) (P : ℕ → Type 0) (ms : List Line) (k : ℕ) : Type 0 where
  index : ℕ
  is : P index
  number : before f ms index ≡ k

access_met : (ls ms : List Line) → HaveAlikeSegments ls ms → (c age i : ℕ) → AccessesAt ls c age i → Met cuts (AccessesAt ms c age) ms (segment ls i)
access_met ls ms same c age i a =
    let g = (same.accesses (segment ls i) c).0 (i, a.0, refl) in
    record { index = g.0; is = (g.1, clears_same ms ls c g.0 i (cuts_same ms ls (sym same.others)) g.2 ∙ a.1); number = g.2 }

write_met : (ls ms : List Line) → HaveAlikeSegments ls ms → (c age i : ℕ) → WritesAt ls c age i → Met cuts (WritesAt ms c age) ms (segment ls i)
write_met ls ms same c age i a =
    let g = (same.writes (segment ls i) c).0 (i, a.0, refl) in
    record { index = g.0; is = (g.1, clears_same ms ls c g.0 i (cuts_same ms ls (sym same.others)) g.2 ∙ a.1); number = g.2 }

turned : (ls ms : List Line) → HaveAlikeSegments ls ms → HaveAlikeSegments ms ls
turned ls ms same = record {
  others = sym same.others;
  accesses = λ k c. ((same.accesses k c).1, (same.accesses k c).0);
  writes = λ k c. ((same.writes k c).1, (same.writes k c).0);
}

-- a race in which the two accesses have these indices, from 0
record RacesAt (t : Tree) (ls : List Line) (i k : ℕ) : Type 0 where
  cell : ℕ
  age : ℕ
  earlier : i < k
  clash : (WritesAt ls cell age i × AccessesAt ls cell age k) ⊎ (AccessesAt ls cell age i × WritesAt ls cell age k)
  parallel : Parallel t 1 (strand_of ls i) (strand_of ls k)

less_one : (i : ℕ) → suc i - 1 ≡ i
less_one i = omega arith

at_race : (t : Tree) (ls : List Line) (p q : ℕ) → IsTraceRace t ls p q → RacesAt t ls (p - 1) (q - 1)
at_race t ls p q r =
    let f = r.first in let e = r.earlier in
    record { cell = r.cell.cell; age = r.cell.age; earlier = omega (arith, f, e); clash = r.clash; parallel = r.parallel }

races_at : (t : Tree) (ls : List Line) (i k : ℕ) → RacesAt t ls i k → IsTraceRace t ls (suc i) (suc k)
races_at t ls i k r =
    let a = sym (less_one i) in let b = sym (less_one k) in let e = r.earlier in
    record {
      first = omega arith;
      earlier = omega (arith, e);
      cell = record { cell = r.cell; age = r.age };
      clash = elim r.clash [
        | inl w ↦ inl (subst (WritesAt ls r.cell r.age) a w.0, subst (AccessesAt ls r.cell r.age) b w.1)
        | inr w ↦ inr (subst (AccessesAt ls r.cell r.age) a w.0, subst (WritesAt ls r.cell r.age) b w.1)
      ];
      parallel = subst (λ (x : ℕ). Parallel t 1 (strand_of ls x) (strand_of ls (suc k - 1))) a (subst (λ (x : ℕ). Parallel t 1 (strand_of ls i) (strand_of ls x)) b r.parallel);
    }

-- a race of the other trace whose accesses are in these segments
record RaceMet (t : Tree) (ms : List Line) (k n : ℕ) : Type 0 where
  first : ℕ
  second : ℕ
  race : RacesAt t ms first second
  number : segment ms second ≡ n

between : (t : Tree) (ls ms : List Line) → those cuts ls ≡ those cuts ms → (i k c age j n : ℕ) → i < k → Parallel t 1 (strand_of ls i) (strand_of ls k)
    → segment ms j ≡ segment ls i → segment ms n ≡ segment ls k
    → (WritesAt ms c age j × AccessesAt ms c age n) ⊎ (AccessesAt ms c age j × WritesAt ms c age n) → RaceMet t ms (segment ls i) (segment ls k)
between t ls ms e i k c age j n lt par a b clash = record {
  first = j;
  second = n;
  race = record {
    cell = c;
    age = age;
    earlier = ordered cuts begins_none ls ms i k j n lt (λ h. not_to_itself t 1 (strand_of ls k) (subst (λ (x : ℕ). Parallel t 1 x (strand_of ls k)) h par)) a b;
    clash = clash;
    parallel = subst (λ (x : ℕ). Parallel t 1 x (strand_of ms n)) (strand_same cuts begins_none ls ms i j e (sym a)) (subst (λ (x : ℕ). Parallel t 1 (strand_of ls i) x) (strand_same cuts begins_none ls ms k n e (sym b)) par);
  };
  number = b;
}

race_met : (t : Tree) (ls ms : List Line) → HaveAlikeSegments ls ms → (i k : ℕ) → RacesAt t ls i k → RaceMet t ms (segment ls i) (segment ls k)
race_met t ls ms same i k r = elim r.clash [
  | inl w ↦ (let a = write_met ls ms same r.cell r.age i w.0 in
      let b = access_met ls ms same r.cell r.age k w.1 in
      between t ls ms (cuts_same ls ms same.others) i k r.cell r.age a.index b.index r.earlier r.parallel a.number b.number (inl (a.is, b.is)))
  | inr w ↦ (let a = access_met ls ms same r.cell r.age i w.0 in
      let b = write_met ls ms same r.cell r.age k w.1 in
      between t ls ms (cuts_same ls ms same.others) i k r.cell r.age a.index b.index r.earlier r.parallel a.number b.number (inr (a.is, b.is)))
]

race_free : (t : Tree) (ls ms : List Line) → HaveAlikeSegments ls ms → (p q : ℕ) → IsTraceRace t ls p q → HasNoTraceRace t ms → ⊥
race_free t ls ms same p q r free =
    let m = race_met t ls ms same (p - 1) (q - 1) (at_race t ls p q r) in
    free (suc m.first) (suc m.second) (races_at t ms m.first m.second m.race)

-- the first race of a cell is a race of the trace
cell_race : (t : Tree) (ls : List Line) (p q : ℕ) → IsFirstTraceRace t ls p q → IsTraceRace t ls p q
cell_race t ls p q f =
    let r = f.first.race in
    record { first = r.first; earlier = r.earlier; cell = record { cell = f.cell; age = r.cell }; clash = r.clash; parallel = r.parallel }

no_later : (t : Tree) (ls ms : List Line) → HaveAlikeSegments ls ms → (p q p' q' : ℕ) → IsFirstTraceRace t ls p q → IsFirstTraceRace t ms p' q' → segment ms (q' - 1) ≤ segment ls (q - 1)
no_later t ls ms same p q p' q' f f' =
    let m = race_met t ls ms same (p - 1) (q - 1) (at_race t ls p q (cell_race t ls p q f)) in
    let le = f'.least (suc m.first) (suc m.second) (races_at t ms m.first m.second m.race) in
    let g = before_grows cuts ms (q' - 1) m.second (omega (arith, le)) in
    let n = m.number in
    omega (arith, g, n)

-- ---- view-read races

reads_other : (l : Line) (r : ℕ) → ReadsView (Some l) r → is_other l ≡ true
reads_other (lines.Create q s) r h = refl
reads_other (lines.Value q s) r h = refl
reads_other _ r h = absurd h

reads_one : (l : Line) (r q : ℕ) → ReadsView (Some l) r → ReadsView (Some l) q → r ≡ q
reads_one (lines.Create n s) r q a b = sym a ∙ b
reads_one (lines.Value n s) r q a b = sym a ∙ b
reads_one _ r q a b = absurd a

-- a line that reads a view
record Reader (ls : List Line) (r i : ℕ) : Type 0 where
  line : Line
  there : slice_get ls i ≡ Some line
  reads : ReadsView (Some line) r

reader_at : (ls : List Line) (r i : ℕ) (o : Option Line) → slice_get ls i ≡ o → ReadsView o r → Reader ls r i
reader_at ls r i None e h = absurd h
reader_at ls r i (Some l) e h = record { line = l; there = e; reads = h }

reader : (ls : List Line) (r age i : ℕ) → ReadsViewAt ls r age i → Reader ls r i
reader ls r age i h = reader_at ls r i (slice_get ls i) refl h.0

reader_there : (ls : List Line) (r i : ℕ) → (x : Reader ls r i) → slice_get (others ls) (place ls i) ≡ Some x.line
reader_there ls r i x = other_there ls i x.line (reads_other x.line r x.reads) x.there

read_met : (ls ms : List Line) → others ls ≡ others ms → (r age i : ℕ) → ReadsViewAt ls r age i → Met is_other (ReadsViewAt ms r age) ms (place ls i)
read_met ls ms e r age i h =
    let x = reader ls r age i h in
    let f = other_found ms (place ls i) x.line (subst (λ (y : List Line). slice_get y (place ls i) ≡ Some x.line) e (reader_there ls r i x)) in
    record {
      index = f.index;
      is = (subst (λ (o : Option Line). ReadsView o r) (sym f.line) x.reads, retirements_same ms ls r f.index i (sym e) f.number ∙ h.1);
      number = f.number;
    }

-- two reads of views at places of one number are reads of one view
reads_same : (ls ms : List Line) → others ls ≡ others ms → (r age q age' i j : ℕ) → ReadsViewAt ls r age i → ReadsViewAt ms q age' j → place ls i ≡ place ms j → (r ≡ q) × (age ≡ age')
reads_same ls ms e r age q age' i j h g k =
    let x = reader ls r age i h in
    let y = reader ms q age' j g in
    let a = reader_there ls r i x in
    let b = reader_there ms q j y in
    let c : Some x.line ≡ Some y.line = sym a ∙ (ap (λ (z : List Line). slice_get z (place ls i)) e ∙ (ap (λ (n : ℕ). slice_get (others ms) n) k ∙ b)) in
    let d : x.line ≡ y.line = cc c in
    let one = reads_one y.line r q (subst (λ (l : Line). ReadsView (Some l) r) d x.reads) y.reads in
    (one, sym h.1 ∙ (retirements_same ls ms r i j e k ∙ (ap (λ (n : ℕ). retirements ms n j) one ∙ g.1)))

-- a view-read race in which the two reads have these indices, from 0
record ViewRacesAt (t : Tree) (ls : List Line) (i k : ℕ) : Type 0 where
  reducer : ℕ
  age : ℕ
  earlier : i < k
  one : ReadsViewAt ls reducer age i
  other : ReadsViewAt ls reducer age k
  differ : SamePeers t (strand_of ls i) (strand_of ls k) → ⊥

at_view : (t : Tree) (ls : List Line) (p q : ℕ) → IsTraceViewRace t ls p q → ViewRacesAt t ls (p - 1) (q - 1)
at_view t ls p q r =
    let f = r.first in let e = r.earlier in
    record { reducer = r.instance.reducer; age = r.instance.age; earlier = omega (arith, f, e); one = r.one; other = r.other; differ = r.differ }

views_at : (t : Tree) (ls : List Line) (i k : ℕ) → ViewRacesAt t ls i k → IsTraceViewRace t ls (suc i) (suc k)
views_at t ls i k r =
    let a = less_one i in let b = less_one k in let e = r.earlier in
    record {
      first = omega arith;
      earlier = omega (arith, e);
      instance = record { reducer = r.reducer; age = r.age };
      one = subst (ReadsViewAt ls r.reducer r.age) (sym a) r.one;
      other = subst (ReadsViewAt ls r.reducer r.age) (sym b) r.other;
      differ = λ h. r.differ (subst (λ (x : ℕ). SamePeers t (strand_of ls x) (strand_of ls k)) a (subst (λ (x : ℕ). SamePeers t (strand_of ls (suc i - 1)) (strand_of ls x)) b h));
    }

record ViewMet (t : Tree) (ms : List Line) (n : ℕ) : Type 0 where
  first : ℕ
  second : ℕ
  race : ViewRacesAt t ms first second
  number : place ms second ≡ n

same_peers : (t : Tree) (u : ℕ) → SamePeers t u u
same_peers t u w = ((λ h. h), λ h. h)

view_met : (t : Tree) (ls ms : List Line) → others ls ≡ others ms → (i k : ℕ) → ViewRacesAt t ls i k → ViewMet t ms (place ls k)
view_met t ls ms e i k r =
    let a = read_met ls ms e r.reducer r.age i r.one in
    let b = read_met ls ms e r.reducer r.age k r.other in
    record {
      first = a.index;
      second = b.index;
      race = record {
        reducer = r.reducer;
        age = r.age;
        earlier = ordered is_other begins_place ls ms i k a.index b.index r.earlier (λ h. r.differ (subst (λ (x : ℕ). SamePeers t x (strand_of ls k)) (sym h) (same_peers t (strand_of ls k)))) a.number b.number;
        one = a.is;
        other = b.is;
        differ = λ h. r.differ (subst (λ (x : ℕ). SamePeers t x (strand_of ls k)) (strand_same is_other begins_place ms ls a.index i (sym e) a.number) (subst (λ (x : ℕ). SamePeers t (strand_of ms a.index) x) (strand_same is_other begins_place ms ls b.index k (sym e) b.number) h));
      };
      number = b.number;
    }

view_free : (t : Tree) (ls ms : List Line) → others ls ≡ others ms → (p q : ℕ) → IsTraceViewRace t ls p q → HasNoTraceViewRace t ms → ⊥
view_free t ls ms e p q r free =
    let m = view_met t ls ms e (p - 1) (q - 1) (at_view t ls p q r) in
    free (suc m.first) (suc m.second) (views_at t ms m.first m.second m.race)

no_later_view : (t : Tree) (ls ms : List Line) → others ls ≡ others ms → (p q p' q' : ℕ) → IsFirstTraceViewRace t ls p q → IsFirstTraceViewRace t ms p' q' → place ms (q' - 1) ≤ place ls (q - 1)
no_later_view t ls ms e p q p' q' f f' =
    let m = view_met t ls ms e (p - 1) (q - 1) (at_view t ls p q f.race) in
    let le = f'.least (suc m.first) (suc m.second) (views_at t ms m.first m.second m.race) in
    let g = before_grows is_other ms (q' - 1) m.second (omega (arith, le)) in
    let n = m.number in
    omega (arith, g, n)

-- the first read of that view isn't later
no_later_read : (t : Tree) (ls ms : List Line) → others ls ≡ others ms → (p q p' q' : ℕ) → (f : IsFirstTraceViewRace t ls p q) → (f' : IsFirstTraceViewRace t ms p' q')
    → (f.race.instance.reducer ≡ f'.race.instance.reducer) × (f.race.instance.age ≡ f'.race.instance.age) → place ms (p' - 1) ≤ place ls (p - 1)
no_later_read t ls ms e p q p' q' f f' one =
    let r = f'.race.instance.reducer in
    let age = f'.race.instance.age in
    let x : ReadsViewAt ls r age (p - 1) = subst (λ (n : ℕ). ReadsViewAt ls r n (p - 1)) one.1 (subst (λ (n : ℕ). ReadsViewAt ls n f.race.instance.age (p - 1)) one.0 f.race.one) in
    let m = read_met ls ms e r age (p - 1) x in
    let le = f'.first_read (suc m.index) (omega arith) (subst (ReadsViewAt ms r age) (sym (less_one m.index)) m.is) in
    let g = before_grows is_other ms (p' - 1) m.index (omega (arith, le)) in
    let n = m.number in
    omega (arith, g, n)

views_same : (t : Tree) (ls ms : List Line) → others ls ≡ others ms → (p q p' q' : ℕ) → IsFirstTraceViewRace t ls p q → IsFirstTraceViewRace t ms p' q'
    → (place ls (p - 1) ≡ place ms (p' - 1)) × (place ls (q - 1) ≡ place ms (q' - 1))
views_same t ls ms e p q p' q' f f' =
    let a = no_later_view t ls ms e p q p' q' f f' in
    let b = no_later_view t ms ls (sym e) p' q' p q f' f in
    let k : place ls (q - 1) ≡ place ms (q' - 1) = omega (arith, a, b) in
    let one = reads_same ls ms e f.race.instance.reducer f.race.instance.age f'.race.instance.reducer f'.race.instance.age (q - 1) (q' - 1) f.race.other f'.race.other k in
    let c = no_later_read t ls ms e p q p' q' f f' one in
    let d = no_later_read t ms ls (sym e) p' q' p q f' f (sym one.0, sym one.1) in
    (omega (arith, c, d), k)

-- ---- verdicts

says_same : (t : Tree) (ls ms : List Line) → HaveAlikeSegments ls ms → (v w : Verdict) → Says t ls v → Says t ms w → IsSameVerdict ls ms v w
says_same t ls ms same (verdicts.RaceFree m) (verdicts.RaceFree n) a b = a.2 ∙ (unseen_same ls ∙ (ap unseen_in same.others ∙ (sym (unseen_same ms) ∙ sym b.2)))
says_same t ls ms same (verdicts.RaceFree m) (verdicts.Race p q) a b = absurd (race_free t ms ls (turned ls ms same) p q (cell_race t ms p q b) a.0)
says_same t ls ms same (verdicts.RaceFree m) (verdicts.ViewRace p q) a b = absurd (view_free t ms ls (sym same.others) p q b.1.race a.1)
says_same t ls ms same (verdicts.Race p q) (verdicts.RaceFree n) a b = absurd (race_free t ls ms same p q (cell_race t ls p q a) b.0)
says_same t ls ms same (verdicts.Race p q) (verdicts.Race p' q') a b =
    let c = no_later t ls ms same p q p' q' a b in
    let d = no_later t ms ls (turned ls ms same) p' q' p q b a in
    omega (arith, c, d)
says_same t ls ms same (verdicts.Race p q) (verdicts.ViewRace p' q') a b = absurd (race_free t ls ms same p q (cell_race t ls p q a) b.0)
says_same t ls ms same (verdicts.ViewRace p q) (verdicts.RaceFree n) a b = absurd (view_free t ls ms same.others p q a.1.race b.1)
says_same t ls ms same (verdicts.ViewRace p q) (verdicts.Race p' q') a b = absurd (race_free t ms ls (turned ls ms same) p' q' (cell_race t ms p' q' b) a.0)
says_same t ls ms same (verdicts.ViewRace p q) (verdicts.ViewRace p' q') a b = views_same t ls ms same.others p q p' q' a.1 b.1

pub segments_decide : SegmentsDecide
segments_decide ls ms same v w h k =
    let one = one_spelled k.shape h.shape (marks_of ms) k.spells (subst (SpellsMarks h.shape) (marks_same ls ms same.others) h.spells) in
    says_same (tree h.shape) ls ms same v w h.says (subst (λ (s : Shape). Says (tree s) ms w) one k.says)
