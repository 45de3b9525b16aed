-- The first view-read race among the reads that are noted: `race_stays`, `race_clean` and `race_new` at one line more; `strands_next`: the reads
-- are by strands of the trace; `strands_held`, `same_race`: so they have classes, and the race is told by these.
use Rattle.std.proofs.Common.{◌≡◌, ◌≢◌, ℕ, zero, suc, ◌<◌, ◌≤◌, Bool, true, false, cond, List, [], ◌∷◌, ◌++◌, length, drop, Option, Some, None, refl, sym, ap, arith, eqb}
use Rattle.std.specs.Prelude.{slice_index_or}
use Rattle.std.proofs.lemmas.Bool.{eqb-true, eqb-false}
use Rattle.cilk_tree.specs.Shape.{Shape, SpellsMarks}
use Rattle.cilk_tree.specs.Tree.{Tree, tree}
use Rattle.cilk_peers.specs.Peers.{class, class_numbers}
use Rattle.cilk_peers.proofs.Same.{length-class_numbers}
use Rattle.cilk_trace.specs.declared.births.Birth.{Birth}
use Rattle.cilk_trace.specs.declared.line.Line.{Line}
use Rattle.cilk_trace.specs.declared.views.ViewRace.{ViewRace}
use Rattle.cilk_trace.specs.declared.views.ViewRead.{ViewRead}
use Rattle.cilk_trace.specs.Marks.{marks_of}
use Rattle.cilk_trace.specs.Views.{AreHeld, AreStrands, IsStrand, reads_by, view_race, view_race_by}
use Rattle.cilk_trace.proofs.Strands.{strand_held}

-- ---- one read more

cond_stays : (b : Bool) (x y : Option ViewRace) (w v : ViewRace) → (x ≡ Some v → y ≡ Some v) → cond b x (Some w) ≡ Some v → cond b y (Some w) ≡ Some v
cond_stays true x y w v f h = f h
cond_stays false x y w v f h = h

pub race_stays : (t : Tree) (rs more : List ViewRead) (v : ViewRace) → view_race t rs ≡ Some v → view_race t (rs ++ more) ≡ Some v
race_stays t [] more v h = absurd (cc h)
race_stays t (r ∷ rs) more v h =
    cond_stays (eqb (class t r.set.strand) (class t r.here.strand)) (view_race t rs) (view_race t (rs ++ more)) _ v (race_stays t rs more v) h

cond_none : (b : Bool) (x : Option ViewRace) (w : ViewRace) → cond b x (Some w) ≡ None → (b ≡ true) × (x ≡ None)
cond_none true x w h = (refl, h)
cond_none false x w h = absurd (cc h)

all_clean : (t : Tree) (rs more : List ViewRead) → view_race t (rs ++ more) ≡ None → view_race t more ≡ None
all_clean t [] more h = h
all_clean t (r ∷ rs) more h =
    all_clean t rs more (cond_none (eqb (class t r.set.strand) (class t r.here.strand)) (view_race t (rs ++ more)) _ h).1

clean_one : (t : Tree) (set here : Birth) (b : Bool) → (b ≡ true → set.strand ≡ here.strand) → view_race t (cond b [] (record { set = set; here = here } ∷ [])) ≡ None
    → class t set.strand ≡ class t here.strand
clean_one t set here true f h = ap (class t) (f refl)
clean_one t set here false f h =
    eqb-true (class t set.strand) (class t here.strand) (cond_none (eqb (class t set.strand) (class t here.strand)) None _ h).0

pub race_clean : (t : Tree) (rs : List ViewRead) (set here : Birth) → view_race t (rs ++ reads_by set here) ≡ None → class t set.strand ≡ class t here.strand
race_clean t rs set here h = clean_one t set here (eqb set.strand here.strand) (eqb-true set.strand here.strand) (all_clean t rs (reads_by set here) h)

cond_new : (b : Bool) (x y : Option ViewRace) (w v : ViewRace) → cond b x (Some w) ≡ None → cond b y (Some w) ≡ Some v → (x ≡ None) × (y ≡ Some v)
cond_new true x y w v h g = (h, g)
cond_new false x y w v h g = absurd (cc h)

new_of : (t : Tree) (rs more : List ViewRead) (v : ViewRace) → view_race t rs ≡ None → view_race t (rs ++ more) ≡ Some v → view_race t more ≡ Some v
new_of t [] more v h g = g
new_of t (r ∷ rs) more v h g =
    let w = cond_new (eqb (class t r.set.strand) (class t r.here.strand)) (view_race t rs) (view_race t (rs ++ more)) _ v h g in
    new_of t rs more v w.0 w.1

-- a race that one read has
abbrev IsRaceOf : Tree → Birth → Birth → ViewRace → Type 0
IsRaceOf t set here v = (class t set.strand ≢ class t here.strand) × (v ≡ record { earlier = set.at; later = here.at })

new_apart : (t : Tree) (set here : Birth) (v : ViewRace) (b : Bool) → (b ≡ false → class t set.strand ≢ class t here.strand) → cond b None (Some (record { earlier = set.at; later = here.at })) ≡ Some v
    → IsRaceOf t set here v
new_apart t set here v true f h = absurd (cc h)
new_apart t set here v false f h = (f refl, (let e : record { earlier = set.at; later = here.at } ≡ v = cc h in sym e))

new_one : (t : Tree) (set here : Birth) (v : ViewRace) (b : Bool) → view_race t (cond b [] (record { set = set; here = here } ∷ [])) ≡ Some v → IsRaceOf t set here v
new_one t set here v true h = absurd (cc h)
new_one t set here v false h =
    new_apart t set here v (eqb (class t set.strand) (class t here.strand)) (eqb-false (class t set.strand) (class t here.strand)) h

pub race_new : (t : Tree) (rs : List ViewRead) (set here : Birth) (v : ViewRace) → view_race t rs ≡ None → view_race t (rs ++ reads_by set here) ≡ Some v → IsRaceOf t set here v
race_new t rs set here v h g = new_one t set here v (eqb set.strand here.strand) (new_of t rs (reads_by set here) v h g)

-- ---- the strands of reads

strands_both : (ls : List Line) (rs more : List ViewRead) → AreStrands ls rs → AreStrands ls more → AreStrands ls (rs ++ more)
strands_both ls [] more a b = b
strands_both ls (r ∷ rs) more a b = (a.0, a.1, strands_both ls rs more a.2 b)

strands_one : (ls : List Line) (set here : Birth) (b : Bool) → IsStrand ls set.strand → IsStrand ls here.strand → AreStrands ls (cond b [] (record { set = set; here = here } ∷ []))
strands_one ls set here true f g = tt
strands_one ls set here false f g = (f, g, tt)

pub strands_next : (ls : List Line) (rs : List ViewRead) (set here : Birth) → AreStrands ls rs → IsStrand ls set.strand → IsStrand ls here.strand → AreStrands ls (rs ++ reads_by set here)
strands_next ls rs set here a f g = strands_both ls rs (reads_by set here) a (strands_one ls set here (eqb set.strand here.strand) f g)

held : (s : Shape) (ls : List Line) (n u : ℕ) → SpellsMarks s (marks_of ls) → n ≡ length (class_numbers (tree s) 0 1) → IsStrand ls u → (1 ≤ u) × (u ≤ n)
held s ls n u sp e w =
    let h = strand_held s ls sp w.0 in
    let is = w.1 in
    let k = length-class_numbers (tree s) 0 1 in
    let x = h.0 in let y = h.1 in
    (omega (arith, x, is), omega (arith, y, is, e, k))

pub strands_held : (s : Shape) (ls : List Line) (n : ℕ) (rs : List ViewRead) → SpellsMarks s (marks_of ls) → n ≡ length (class_numbers (tree s) 0 1) → AreStrands ls rs → AreHeld n rs
strands_held s ls n [] sp e a = tt
strands_held s ls n (r ∷ rs) sp e a = (held s ls n r.set.strand sp e a.0, held s ls n r.here.strand sp e a.1, strands_held s ls n rs sp e a.2)

pub same_race : (t : Tree) (rs : List ViewRead) → view_race_by (class_numbers t 0 1) rs ≡ view_race t rs
same_race t [] = refl
same_race t (r ∷ rs) =
    ap (λ (o : Option ViewRace). cond (eqb (class t r.set.strand) (class t r.here.strand)) o (Some (record { earlier = r.set.at; later = r.here.at }))) (same_race t rs)

-- ---- one read after another

-- the reads from this one on have the race of all
pub record Apart (cs : List ℕ) (rs : List ViewRead) (at : ℕ) : Type 0 where
  pub same : view_race_by cs rs ≡ view_race_by cs (drop at rs)
  pub held : AreHeld (length cs) (drop at rs)

drop_at : (rs : List ViewRead) (at : ℕ) (r : ViewRead) → at < length rs → r ≡ slice_index_or rs at r → drop at rs ≡ r ∷ drop (suc at) rs
drop_at [] at r m e = absurd (omega (arith, m))
drop_at (x ∷ rs) zero r m e = ap (λ (y : ViewRead). y ∷ rs) (sym e)
drop_at (x ∷ rs) (suc i) r m e = drop_at rs i r (omega (arith, m)) e

drop_past : (rs : List ViewRead) (at : ℕ) → length rs ≤ at → drop at rs ≡ []
drop_past [] zero m = refl
drop_past [] (suc i) m = refl
drop_past (x ∷ rs) zero m = absurd (omega (arith, m))
drop_past (x ∷ rs) (suc i) m = drop_past rs i (omega (arith, m))
