-- What a step of the pass does to its state: `touched` at a line that accesses or clears cells, `raced` at one that races, `idle` at another one.
use Rattle.std.proofs.Common.{◌≡◌, ℕ, zero, suc, ◌+◌, ◌<◌, Bool, true, false, cond, List, [], ◌∷◌, ◌++◌, length, Some, inl, inr, refl, sym, ◌∙◌, ap, subst, arith, append_assoc, length-append}
use Rattle.std.specs.Prelude.{nat_le}
use Rattle.cilk_tree.specs.Shape.{Shape, SpellsMarks}
use Rattle.cilk_tree.specs.Tree.{Tree, tree}
use Rattle.cilk_trace.specs.declared.histories.Kind.{Kind}
use Rattle.cilk_trace.specs.declared.histories.Kind.TheVariants as kinds
use Rattle.cilk_trace.specs.declared.intervals.Order.{Order}
use Rattle.cilk_trace.specs.declared.intervals.Order.TheVariants as orders
use Rattle.cilk_trace.specs.declared.line.Cells.{Cells}
use Rattle.cilk_trace.specs.declared.line.Line.{Line}
use Rattle.cilk_trace.specs.declared.line.Line.TheVariants as lines
use Rattle.cilk_trace.specs.declared.positions.Positions.{Positions}
use Rattle.cilk_trace.specs.Accesses.{Covers, IsFirstTraceRace, number}
use Rattle.cilk_trace.specs.Frames.{Nests}
use Rattle.cilk_trace.specs.Histories.{History, nothing, racing, IsMet}
use Rattle.cilk_trace.specs.IntervalStacks.{IntervalStack, order_at, IsAscending}
use Rattle.cilk_trace.specs.Marks.{marks_of}
use Rattle.cilk_trace.specs.Joined.{stack_at, IsEntry}
use Rattle.cilk_trace.specs.Pages.{AreMet, IsLeastRace}
use Rattle.cilk_trace.specs.Passes.{Does, IsBefore, IsIdle, Standing}
use Rattle.cilk_trace.specs.Positions.{after, raised, raced_in, kept_at, history_of, IsPast, ArePast}
use Rattle.cilk_trace.proofs.Appended.{get_front, get_last}
use Rattle.cilk_trace.proofs.Joined.{joined_is_kept}
use Rattle.cilk_trace.proofs.Finding.{first_met, standing_met}
use Rattle.cilk_trace.proofs.IntervalStacks.{same_stack}
use Rattle.cilk_trace.proofs.KeptPositions.{races_alike, histories_alike}
use Rattle.cilk_trace.proofs.Passing.{covered, standing_idle, write_least}
use Rattle.cilk_trace.proofs.Strands.{number_positive}

-- the children of the pass ascend
pub ascends : (s : Shape) (done more : List Line) (o : IntervalStack) (ps : ℕ → Positions) → IsBefore s done more o ps → IsAscending o.children
ascends s done more o ps b = subst (λ (x : IntervalStack). IsAscending x.children) (sym b.intervals) (joined_is_kept done).0

-- ---- positions of lines so far

still_past : (done : List Line) (l : Line) (at : ℕ) → IsPast done at → IsPast (done ++ l ∷ []) at
still_past done l zero w = tt
still_past done l (suc i) w =
    let n = length-append done (l ∷ []) in
    let m = w.0 in
    (omega (arith, m, n), λ e. w.1 (subst IsEntry (get_front done (l ∷ []) i m) e))

now_past : (done : List Line) (l : Line) → (IsEntry (Some l) → ⊥) → IsPast (done ++ l ∷ []) (suc (length done))
now_past done l inside = (let n = length-append done (l ∷ []) in omega (arith, n), λ e. inside (subst IsEntry (get_last done l []) e))

raised_past : (done : List Line) (l : Line) (o : Order) (at : ℕ) → (IsEntry (Some l) → ⊥) → IsPast done at → IsPast (done ++ l ∷ []) (raised o at (suc (length done)))
raised_past done l orders.Series at inside w = now_past done l inside
raised_past done l orders.Same at inside w = still_past done l at w
raised_past done l orders.Parallel at inside w = still_past done l at w

either_past : (done : List Line) (l : Line) (b : Bool) (at : ℕ) → (IsEntry (Some l) → ⊥) → IsPast done at → IsPast (done ++ l ∷ []) (cond b (suc (length done)) at)
either_past done l true at inside w = now_past done l inside
either_past done l false at inside w = still_past done l at w

does_inside : (l : Line) (kind : Kind) (k : Cells) → Does l kind k → IsEntry (Some l) → ⊥
does_inside (lines.Read d s) kind k does e = e
does_inside (lines.Write d s) kind k does e = e
does_inside (lines.Clear d) kind k does e = e
does_inside _ kind k does e = absurd does

after_past : (done : List Line) (l : Line) (o : IntervalStack) (kind : Kind) (k : Cells) (p : Positions) → Does l kind k → ArePast done p
    → ArePast (done ++ l ∷ []) (after o kind (suc (length done)) p)
after_past done l o kinds.Read k p does w = record {
  write = still_past done l p.write w.write;
  access = raised_past done l (order_at o p.access) p.access (does_inside l kinds.Read k does) w.access;
}
after_past done l o kinds.Write k p does w = record {
  write = either_past done l (nat_le p.write o.first) p.write (does_inside l kinds.Write k does) w.write;
  access = either_past done l (nat_le p.access o.first) p.access (does_inside l kinds.Write k does) w.access;
}
after_past done l o kinds.Clear k p does w = record { write = tt; access = tt }

still_all : (done : List Line) (l : Line) (p : Positions) → ArePast done p → ArePast (done ++ l ∷ []) p
still_all done l p w = record { write = still_past done l p.write w.write; access = still_past done l p.access w.access }

-- ---- one line more

next_before : (s : Shape) (done more : List Line) (l : Line) (o : IntervalStack) (ps : ℕ → Positions) → Nests 0 (done ++ l ∷ more) → SpellsMarks s (marks_of (done ++ l ∷ more))
    → o ≡ stack_at (done ++ l ∷ []) → ((c : ℕ) → ArePast (done ++ l ∷ []) (ps c))
    → Standing (tree s) (done ++ l ∷ more) (suc (length done)) (λ c. history_of (tree s) (done ++ l ∷ more) (ps c)) → IsBefore s (done ++ l ∷ []) more o ps
next_before s done more l o ps nests spells intervals within st =
    let ls : List Line = done ++ l ∷ more in
    let e : done ++ l ∷ more ≡ (done ++ l ∷ []) ++ more = sym (append_assoc done (l ∷ []) more) in
    let a = length-append done (l ∷ []) in
    let n : suc (length done) ≡ length (done ++ l ∷ []) = omega (arith, a) in
    record {
      nests = subst (Nests 0) e nests;
      spells = subst (λ (x : List Line). SpellsMarks s (marks_of x)) e spells;
      intervals = intervals;
      within = within;
      standing = subst (λ (x : List Line). Standing (tree s) x (length (done ++ l ∷ [])) (λ c. history_of (tree s) x (ps c))) e
          (subst (λ (i : ℕ). Standing (tree s) ls i (λ c. history_of (tree s) ls (ps c))) n st);
    }

-- what a race by positions is by Hebrew numbers
alike : (s : Shape) (done more : List Line) (l : Line) (o : IntervalStack) (ps : ℕ → Positions) → IsBefore s done (l ∷ more) o ps → (kind : Kind) (c : ℕ)
    → racing kind (history_of (tree s) (done ++ l ∷ more) (ps c)) (number (tree s) (done ++ l ∷ more) (length done)) ≡ kept_at (tree s) (done ++ l ∷ more) (raced_in o kind (ps c))
alike s done more l o ps b kind c =
    sym (ap (λ (x : IntervalStack). kept_at (tree s) (done ++ l ∷ more) (raced_in x kind (ps c))) b.intervals ∙ races_alike s done more l b.nests b.spells kind (ps c) (b.within c))

clean : (s : Shape) (done more : List Line) (l : Line) (o : IntervalStack) (ps : ℕ → Positions) → IsBefore s done (l ∷ more) o ps → (kind : Kind) (c : ℕ)
    → raced_in o kind (ps c) ≡ 0 → racing kind (history_of (tree s) (done ++ l ∷ more) (ps c)) (number (tree s) (done ++ l ∷ more) (length done)) ≡ nothing
clean s done more l o ps b kind c e = alike s done more l o ps b kind c ∙ ap (kept_at (tree s) (done ++ l ∷ more)) e

pub touched : (s : Shape) (done more : List Line) (l : Line) (o o' : IntervalStack) (ps ps' : ℕ → Positions) (kind : Kind) (k : Cells) (here : ℕ) → here ≡ suc (length done) → Does l kind k
    → o' ≡ o → IsLeastRace o kind k ps 0 → AreMet o kind here k ps ps' → IsBefore s done (l ∷ more) o ps → IsBefore s (done ++ l ∷ []) more o' ps'
touched s done more l o o' ps ps' kind k here at does same race met b =
    let t : Tree = tree s in
    let ls : List Line = done ++ l ∷ more in
    let n : ℕ = length done in
    let hs : ℕ → History = λ c. history_of t ls (ps c) in
    let now : (c : ℕ) → Covers k c → ps' c ≡ after (stack_at done) kind (suc n) (ps c) =
    λ c w. met.covered c w ∙ (ap (λ (h : ℕ). after o kind h (ps c)) at ∙ ap (λ (x : IntervalStack). after x kind (suc n) (ps c)) b.intervals) in
    let none : (c : ℕ) → Covers k c → raced_in o kind (ps c) ≡ 0 = race.clean refl in
    let by_numbers : IsMet kind (kept_at t ls (suc n)) k hs (λ c. history_of t ls (ps' c)) = record {
      covered = λ c w.
          ap (history_of t ls) (now c w)
          ∙ histories_alike s done more l b.nests b.spells kind (ps c) (b.within c) (write_least t ls n hs b.standing c)
          (ap (λ (x : IntervalStack). raced_in x kind (ps c)) (sym b.intervals) ∙ none c w);
      others = λ c w. ap (history_of t ls) (met.others c w);
    } in
    next_before s done more l o' ps' b.nests b.spells
    (same ∙ (b.intervals ∙ same_stack done l kind k does))
    (λ c. elim (covered k c) [
      | inl w ↦ subst (ArePast (done ++ l ∷ [])) (sym (now c w.0)) (after_past done l (stack_at done) kind k (ps c) does (b.within c))
      | inr w ↦ subst (ArePast (done ++ l ∷ [])) (sym (met.others c w.0)) (still_all done l (ps c) (b.within c))
    ])
    (standing_met s ls b.spells n hs (λ c. history_of t ls (ps' c)) l kind k (kept_at t ls (suc n)) (get_last done l more) does (omega arith) refl b.standing by_numbers
    (λ c w. clean s done more l o ps b kind c (none c w)))

pub raced : (s : Shape) (done more : List Line) (l : Line) (o : IntervalStack) (ps : ℕ → Positions) (kind : Kind) (k : Cells) (here p : ℕ) → here ≡ suc (length done) → Does l kind k
    → 0 < p → IsLeastRace o kind k ps p → IsBefore s done (l ∷ more) o ps → IsFirstTraceRace (tree s) (done ++ l ∷ more) p here
raced s done more l o ps kind k here zero at does pos race b = absurd (omega (arith, pos))
raced s done more l o ps kind k here (suc i) at does pos race b =
    let t : Tree = tree s in
    let ls : List Line = done ++ l ∷ more in
    let e : length done + 1 ≡ here = omega (arith, at) in
    let q = number_positive s ls b.spells i in
    let g = race.found pos in
    subst (IsFirstTraceRace t ls (suc i)) e
    (first_met s ls b.spells (length done) (λ c. history_of t ls (ps c)) l kind k g.0 (kept_at t ls (suc i)) (get_last done l more) does b.standing g.1
    (alike s done more l o ps b kind g.0 ∙ ap (kept_at t ls) g.2) (omega (arith, q)) (λ d w less. clean s done more l o ps b kind d (g.3 d w less)))

pub idle : (s : Shape) (done more : List Line) (l : Line) (o o' : IntervalStack) (ps ps' : ℕ → Positions) → IsIdle l → o' ≡ stack_at (done ++ l ∷ []) → ps' ≡ ps
    → IsBefore s done (l ∷ more) o ps → IsBefore s (done ++ l ∷ []) more o' ps'
idle s done more l o o' ps ps' quiet is same b =
    let t : Tree = tree s in
    let ls : List Line = done ++ l ∷ more in
    subst (λ (x : ℕ → Positions). IsBefore s (done ++ l ∷ []) more o' x) (sym same)
    (next_before s done more l o' ps b.nests b.spells is (λ c. still_all done l (ps c) (b.within c))
    (standing_idle t ls (length done) (λ c. history_of t ls (ps c)) l (get_last done l more) quiet b.standing))
