-- Each piece covers one stretch of the serial run.
--
-- - `replicate_add`, `marks_append`, `all_made`, `none_made`: marks of stretches, and of whole
--   runs;
-- - `past_marks`, `cover`: the stretches are the events made;
-- - `Within`, `all_within`, `all_apart`: each frame holds one of them;
-- - `are_stretches`: the law.
use Rattle.std.proofs.Common.{◌≡◌, ◌≤◌, ℕ, zero, suc, ◌+◌, Bool, true, false, true≢false, List, [], ◌∷◌, ◌++◌, length, Some, ◌⊎◌, inl, inr, ⊎_elim, refl, sym, ap, ap₂, ◌∙◌, subst, arith, append_assoc, append-nil, length-append, zero-add, suc-add, ℤ}
use Rattle.cilk_types.specs.declared.invocation.Invocation.TheVariants.{Call, Spawn}
use Rattle.cilk_types.specs.declared.invocation.Invocation.{Invocation}
use Rattle.std.specs.Prelude.{replicate, slice_get}
use Rattle.cilk_determinacy.specs.Runs.{Name, Cell, Instance, Reads, Writes, Syncs, Ends, Passes, Deed, Does, Invokes, Run, stop, act, child}
use Rattle.cilk_determinacy.specs.Costs.{Costs}
use Rattle.cilk_determinacy.specs.Cuts.{below, IsFull, IsCut, WhenResumed, WhenStolen, block_after, own_after, Lies, IsConsistent}
use Rattle.cilk_determinacy.specs.Machine.{Frames, State, deeds_at, HasSync}
use Rattle.cilk_monoid.specs.Laws.{MonoidStructure}
use Rattle.cilk_determinacy.specs.Monoids.{unit_of}
use Rattle.cilk_determinacy.specs.CutPositions.{unmade, made_at}
use Rattle.cilk_determinacy.specs.Stretches.{Stretch, Held, Ahead, marks, many, has_sync, is_back, past, stretches, covered, AreStretches}

-- ---- marks

replicate_add : (a b : ℕ) (x : Bool) → replicate (a + b) x ≡ replicate a x ++ replicate b x
replicate_add zero b x = ap (λ n. replicate n x) (zero-add b)
replicate_add (suc a) b x = ap (λ n. replicate n x) (suc-add a b) ∙ ap (λ l. x ∷ l) (replicate_add a b x)

-- one more of the frame's own
one_more : (own : ℕ) (xs : List Bool) → replicate (suc own) true ++ xs ≡ replicate own true ++ (true ∷ xs)
one_more zero xs = refl
one_more (suc own) xs = ap (λ l. true ∷ l) (one_more own xs)

marks_append : (a b : List Stretch) → marks (a ++ b) ≡ marks a ++ marks b
marks_append [] b = refl
marks_append (Held n e ∷ a) b = ap (λ l. replicate e true ++ l) (marks_append a b) ∙ sym (append_assoc (replicate e true) (marks a) (marks b))
marks_append (Ahead e ∷ a) b = ap (λ l. replicate e false ++ l) (marks_append a b) ∙ sym (append_assoc (replicate e false) (marks a) (marks b))

module _ {W : Type 0} where
  none_made : (r : Run W) → unmade r ≡ replicate (many r) false
  none_made stop = refl
  none_made (act e r) = ap (λ l. false ∷ l) (none_made r)
  none_made (child b w u r) = ap (λ l. false ∷ l) (ap₂ (λ x y. x ++ y) (none_made u) (none_made r) ∙ sym (replicate_add (many u) (many r) false))

  all_made : (r : Run W) (k : ℕ) (ds : List (Deed W)) (kids : ℕ → Frames W) → IsFull r k ds kids → made_at r k ds kids ≡ replicate (many r) true
  all_made stop k ds kids h = refl
  all_made (act e r) k [] kids h = absurd h
  all_made (act e r) k (d ∷ ds) kids h = ap (λ l. true ∷ l) (all_made r k ds kids h)
  all_made (child b w u r) k [] kids h = absurd h
  all_made (child b w u r) k (d ∷ ds) kids h =
      ap (λ l. true ∷ l) (ap₂ (λ x y. x ++ y) (all_made u 1 (deeds_at (kids k [])) (below (kids k)) h.0) (all_made r (suc k) ds kids h.1) ∙ sym (replicate_add (many u) (many r) true))

  nothing_made : (r : Run W) (k : ℕ) (kids : ℕ → Frames W) → made_at r k [] kids ≡ replicate (many r) false
  nothing_made stop k kids = refl
  nothing_made (act e r) k kids = none_made (act e r)
  nothing_made (child b w u r) k kids = none_made (child b w u r)

  pub sync_of : (ds : List (Deed W)) → has_sync ds ≡ true → HasSync ds
  sync_of [] h = absurd (true≢false (sym h))
  sync_of (Does (Reads c v) ∷ ds) h = sync_of ds h
  sync_of (Does (Writes c v) ∷ ds) h = sync_of ds h
  sync_of (Does Syncs ∷ ds) h = tt
  sync_of (Does (Ends v gone) ∷ ds) h = sync_of ds h
  sync_of (Does (Passes m) ∷ ds) h = sync_of ds h
  sync_of (Invokes k w ∷ ds) h = sync_of ds h

-- a child's start and what follows it
past_marks : (back stolen : Bool) (on inner thief : List Stretch) (left own m : ℕ) (mu mr : List Bool)
    → (back ≡ true → (marks on ≡ replicate (suc own + m) true ++ mr) × (mu ≡ replicate m true)) → marks inner ≡ replicate (suc own) true ++ mu
    → (back ≡ false → stolen ≡ true → marks thief ≡ mr) → (back ≡ false → stolen ≡ false → mr ≡ replicate left false) → marks (past back stolen on inner thief left) ≡ replicate own true ++ (true ∷ (mu ++ mr))
past_marks true stolen on inner thief left own m mu mr h i t n =
    let all = h refl in
    all.0 ∙ ap (λ l. l ++ mr) (replicate_add (suc own) m true ∙ ap (λ l. replicate (suc own) true ++ l) (sym all.1)) ∙ append_assoc (replicate (suc own) true) mu mr ∙ one_more own (mu ++ mr)
past_marks false true on inner thief left own m mu mr h i t n =
    marks_append inner thief ∙ ap₂ (λ x y. x ++ y) i (t refl refl) ∙ append_assoc (replicate (suc own) true) mu mr ∙ one_more own (mu ++ mr)
past_marks false false on inner thief left own m mu mr h i t n =
    let rest : replicate left false ++ [] ≡ mr = append-nil (replicate left false) ∙ sym (n refl refl) in
    marks_append inner (Ahead left ∷ []) ∙ ap₂ (λ x y. x ++ y) i rest ∙ append_assoc (replicate (suc own) true) mu mr ∙ one_more own (mu ++ mr)

pub thief_goes : (stolen : Bool) (T X : Type 0) → WhenStolen stolen T X → stolen ≡ true → T
thief_goes true T X h e = h
thief_goes false T X h e = absurd (true≢false (sym e))

module _ {W V : Type 0} (M : MonoidStructure V) (i : Instance) where
  -- a spawned child whose piece is back has ended, and the frame continues as a thief or with that
  -- piece
  goes_on : (stolen : Bool) (k : ℕ) (loose : Name → Bool) (ds : List (Deed W)) (F T R : Type 0) → (HasSync ds → F) → WhenStolen stolen T (WhenResumed k loose ds (F × R)) → is_back Spawn stolen ds ≡ true → F × (T ⊎ R)
  goes_on true k loose ds F T R synced h e = (synced (sync_of ds e), inl h)
  goes_on false k loose [] F T R synced h e = absurd (true≢false (sym e))
  goes_on false k loose (d ∷ ds) F T R synced h e = (h.0, inr h.1)

  -- a frame without its child's piece, whose continuation isn't stolen, has made nothing more
  waits : (b : Invocation) (stolen : Bool) (ds : List (Deed W)) → is_back b stolen ds ≡ false → stolen ≡ false → ds ≡ []
  waits Call stolen [] e f = refl
  waits Call stolen (d ∷ ds) e f = absurd (true≢false e)
  waits Spawn true ds e f = absurd (true≢false f)
  waits Spawn false [] e f = refl
  waits Spawn false (d ∷ ds) e f = absurd (true≢false e)

  left_unmade : (r : Run W) (k : ℕ) (ds : List (Deed W)) (kids : ℕ → Frames W) → ds ≡ [] → made_at r k ds kids ≡ replicate (many r) false
  left_unmade r k ds kids e = ap (λ l. made_at r k l kids) e ∙ nothing_made r k kids

  cover : (r : Run W) (k : ℕ) (ds : List (Deed W)) (kids : ℕ → Frames W) (loose : Name → Bool) (n : Name) (own : ℕ) (pcs : Name → V) (acc p root : V) → IsCut r k ds kids → Lies M i r k ds kids loose pcs acc p root
      → marks (stretches r k ds kids loose n own) ≡ replicate own true ++ made_at r k ds kids
  cover stop k [] kids loose n own pcs acc p root cut h = refl
  cover stop k (d ∷ ds) kids loose n own pcs acc p root cut h = absurd cut
  cover (act e r) k [] kids loose n own pcs acc p root cut h = ap (λ l. replicate own true ++ l) (append-nil (replicate (suc (many r)) false) ∙ sym (none_made (act e r)))
  cover (act e r) k (d ∷ ds) kids loose n own pcs acc p root cut h =
      cover r k ds kids loose n (suc own) pcs (block_after M e acc) (own_after M i e acc p) root cut.1 h ∙ one_more own (made_at r k ds kids)
  cover (child b w u r) k [] kids loose n own pcs acc p root cut h =
      ap (λ l. replicate own true ++ l) (append-nil (replicate (suc (many u + many r)) false) ∙ sym (none_made (child b w u r)))
  cover (child Call w u r) k (d ∷ []) kids loose n own pcs acc p root cut h =
      past_marks false (loose (k ∷ [])) (stretches r (suc k) [] kids loose n (suc own + many u)) (stretches u 1 (deeds_at (kids k [])) (below (kids k)) (λ m. loose (k ∷ m)) (n ++ k ∷ []) (suc own)) (stretches r (suc k) [] kids loose n 0) (many r) own (many u)
      (made_at u 1 (deeds_at (kids k [])) (below (kids k))) (made_at r (suc k) [] kids)
      (λ e. absurd (true≢false (sym e)))
      (cover u 1 (deeds_at (kids k [])) (below (kids k)) (λ m. loose (k ∷ m)) (n ++ k ∷ []) (suc own) (λ m. pcs (k ∷ m)) M.unit p (pcs (k ∷ [])) cut.2 h.1)
      (λ e f. absurd (true≢false (sym f ∙ h.0)))
      (λ e f. nothing_made r (suc k) kids)
  cover (child Call w u r) k (d ∷ c ∷ ds) kids loose n own pcs acc p root cut h =
      past_marks true (loose (k ∷ [])) (stretches r (suc k) (c ∷ ds) kids loose n (suc own + many u)) (stretches u 1 (deeds_at (kids k [])) (below (kids k)) (λ m. loose (k ∷ m)) (n ++ k ∷ []) (suc own)) (stretches r (suc k) (c ∷ ds) kids loose n 0) (many r) own (many u)
      (made_at u 1 (deeds_at (kids k [])) (below (kids k))) (made_at r (suc k) (c ∷ ds) kids)
      (λ e. (cover r (suc k) (c ∷ ds) kids loose n (suc own + many u) pcs acc (pcs (k ∷ [])) root cut.4 h.2, all_made u 1 (deeds_at (kids k [])) (below (kids k)) (cut.3 tt)))
      (cover u 1 (deeds_at (kids k [])) (below (kids k)) (λ m. loose (k ∷ m)) (n ++ k ∷ []) (suc own) (λ m. pcs (k ∷ m)) M.unit p (pcs (k ∷ [])) cut.2 h.1)
      (λ e f. absurd (true≢false e))
      (λ e f. absurd (true≢false e))
  cover (child Spawn w u r) k (d ∷ ds) kids loose n own pcs acc p root cut h =
      let F = IsFull u 1 (deeds_at (kids k [])) (below (kids k)) in
      let T = Lies M i r (suc k) ds kids loose pcs (M.combine acc (pcs (k ∷ []))) M.unit root in
      let R = Lies M i r (suc k) ds kids loose pcs acc (pcs (k ∷ [])) root in
      past_marks (is_back Spawn (loose (k ∷ [])) ds) (loose (k ∷ [])) (stretches r (suc k) ds kids loose n (suc own + many u)) (stretches u 1 (deeds_at (kids k [])) (below (kids k)) (λ m. loose (k ∷ m)) (n ++ k ∷ []) (suc own)) (stretches r (suc k) ds kids loose n 0) (many r) own (many u)
      (made_at u 1 (deeds_at (kids k [])) (below (kids k))) (made_at r (suc k) ds kids)
      (λ e. let g = goes_on (loose (k ∷ [])) (suc k) loose ds F T R cut.3 h.1 e in (
        ⊎_elim (λ l. cover r (suc k) ds kids loose n (suc own + many u) pcs (M.combine acc (pcs (k ∷ []))) M.unit root cut.4 l) (λ l. cover r (suc k) ds kids loose n (suc own + many u) pcs acc (pcs (k ∷ [])) root cut.4 l) g.1,
        all_made u 1 (deeds_at (kids k [])) (below (kids k)) g.0,
      ))
      (cover u 1 (deeds_at (kids k [])) (below (kids k)) (λ m. loose (k ∷ m)) (n ++ k ∷ []) (suc own) (λ m. pcs (k ∷ m)) M.unit p (pcs (k ∷ [])) cut.2 h.0)
      (λ e f. cover r (suc k) ds kids loose n 0 pcs (M.combine acc (pcs (k ∷ []))) M.unit root cut.4 (thief_goes (loose (k ∷ [])) T (WhenResumed (suc k) loose ds (F × R)) h.1 f))
      (λ e f. left_unmade r (suc k) ds kids (waits Spawn (loose (k ∷ [])) ds e f))

-- ---- each frame holds one stretch

-- frame n, or one below its k-th child or a later one
abbrev Within : Name → ℕ → Name → Type 0
Within n k m = (m ≡ n) ⊎ ((c : ℕ) × (rest : Name) × (m ≡ n ++ c ∷ rest) × (k ≤ c))

abbrev AllWithin : Name → ℕ → List Stretch → Type 0
AllWithin n k [] = Unit {0}
AllWithin n k (Held m e ∷ ss) = Within n k m × AllWithin n k ss
AllWithin n k (Ahead e ∷ ss) = AllWithin n k ss

abbrev In : Name → List Stretch → Type 0
In n [] = ⊥
In n (Held m e ∷ ss) = (m ≡ n) ⊎ In n ss
In n (Ahead e ∷ ss) = In n ss

abbrev Apart : List Stretch → Type 0
Apart [] = Unit {0}
Apart (Held n e ∷ ss) = ¬ (In n ss) × Apart ss
Apart (Ahead e ∷ ss) = Apart ss

both_within : (n : Name) (k : ℕ) (a b : List Stretch) → AllWithin n k a → AllWithin n k b → AllWithin n k (a ++ b)
both_within n k [] b h g = g
both_within n k (Held m e ∷ a) b h g = (h.0, both_within n k a b h.1 g)
both_within n k (Ahead e ∷ a) b h g = both_within n k a b h g

one_later : (n : Name) (k : ℕ) (m : Name) → Within n (suc k) m → Within n k m
one_later n k m (inl q) = inl q
one_later n k m (inr (c, rest, q, h)) = inr (c, rest, q, omega (arith, h))

all_later : (n : Name) (k : ℕ) (ss : List Stretch) → AllWithin n (suc k) ss → AllWithin n k ss
all_later n k [] h = tt
all_later n k (Held m e ∷ ss) h = (one_later n k m h.0, all_later n k ss h.1)
all_later n k (Ahead e ∷ ss) h = all_later n k ss h

-- frame m is the k-th child, or below it
below_child : (n : Name) (k : ℕ) (m : Name) → Within (n ++ k ∷ []) 1 m → (rest : Name) × (m ≡ n ++ k ∷ rest)
below_child n k m (inl q) = ([], q)
below_child n k m (inr (c, rest, q, h)) = (c ∷ rest, q ∙ append_assoc n (k ∷ []) (c ∷ rest))

child_within : (n : Name) (k : ℕ) (ss : List Stretch) → AllWithin (n ++ k ∷ []) 1 ss → AllWithin n k ss
child_within n k [] h = tt
child_within n k (Held m e ∷ ss) h = (let (rest, q) = below_child n k m h.0 in inr (k, rest, q, omega arith), child_within n k ss h.1)
child_within n k (Ahead e ∷ ss) h = child_within n k ss h

past_within : (n : Name) (k : ℕ) (back stolen : Bool) (on inner thief : List Stretch) (left : ℕ) → AllWithin n k on → AllWithin n k inner → AllWithin n k thief → AllWithin n k (past back stolen on inner thief left)
past_within n k true stolen on inner thief left h g f = h
past_within n k false true on inner thief left h g f = both_within n k inner thief g f
past_within n k false false on inner thief left h g f = both_within n k inner (Ahead left ∷ []) g tt

in_either : (n : Name) (a b : List Stretch) → In n (a ++ b) → In n a ⊎ In n b
in_either n [] b h = inr h
in_either n (Held m e ∷ a) b (inl q) = inl (inl q)
in_either n (Held m e ∷ a) b (inr h) = ⊎_elim (λ i. inl (inr i)) inr (in_either n a b h)
in_either n (Ahead e ∷ a) b h = in_either n a b h

both_apart : (a b : List Stretch) → Apart a → Apart b → ((n : Name) → In n a → In n b → ⊥) → Apart (a ++ b)
both_apart [] b h g never = g
both_apart (Held n e ∷ a) b h g never = ((λ i. ⊎_elim h.0 (never n (inl refl)) (in_either n a b i)), both_apart a b h.1 g (λ m i. never m (inr i)))
both_apart (Ahead e ∷ a) b h g never = both_apart a b h g never

past_apart : (back stolen : Bool) (on inner thief : List Stretch) (left : ℕ) → Apart on → Apart inner → Apart thief → ((n : Name) → In n inner → In n thief → ⊥) → Apart (past back stolen on inner thief left)
past_apart true stolen on inner thief left h g f never = h
past_apart false true on inner thief left h g f never = both_apart inner thief g f never
past_apart false false on inner thief left h g f never = both_apart inner (Ahead left ∷ []) g tt (λ n i j. j)

in_within : (n : Name) (k : ℕ) (m : Name) (ss : List Stretch) → In m ss → AllWithin n k ss → Within n k m
in_within n k m [] h all = absurd h
in_within n k m (Held l e ∷ ss) (inl q) all = subst (Within n k) q all.0
in_within n k m (Held l e ∷ ss) (inr h) all = in_within n k m ss h all.1
in_within n k m (Ahead e ∷ ss) h all = in_within n k m ss h all

no_longer : (n : Name) (c : ℕ) (rest : Name) → n ≡ n ++ c ∷ rest → ⊥
no_longer n c rest q = let l : length n ≡ length (n ++ c ∷ rest) = ap length q in let m = length-append n (c ∷ rest) in omega (arith, l, m)

same_head : (n : Name) (a b : ℕ) (xs ys : Name) → n ++ a ∷ xs ≡ n ++ b ∷ ys → a ≡ b
same_head [] a b xs ys q = cc
same_head (k ∷ n) a b xs ys q = let z : n ++ a ∷ xs ≡ n ++ b ∷ ys = cc in same_head n a b xs ys z

never_both : (n : Name) (k : ℕ) (m : Name) → Within (n ++ k ∷ []) 1 m → Within n (suc k) m → ⊥
never_both n k m h (inl q) = let (rest, e) = below_child n k m h in no_longer n k rest (sym q ∙ e)
never_both n k m h (inr (c, other, q, g)) = let (rest, e) = below_child n k m h in let same = same_head n k c rest other (sym e ∙ q) in omega (arith, same, g)

module _ {W : Type 0} where
  all_within : (r : Run W) (k : ℕ) (ds : List (Deed W)) (kids : ℕ → Frames W) (loose : Name → Bool) (n : Name) (own : ℕ) → AllWithin n k (stretches r k ds kids loose n own)
  all_within stop k [] kids loose n own = (inl refl, tt)
  all_within stop k (d ∷ ds) kids loose n own = tt
  all_within (act e r) k [] kids loose n own = (inl refl, tt)
  all_within (act e r) k (d ∷ ds) kids loose n own = all_within r k ds kids loose n (suc own)
  all_within (child b w u r) k [] kids loose n own = (inl refl, tt)
  all_within (child b w u r) k (d ∷ ds) kids loose n own =
      let on = stretches r (suc k) ds kids loose n (suc own + many u) in
      let inner = stretches u 1 (deeds_at (kids k [])) (below (kids k)) (λ m. loose (k ∷ m)) (n ++ k ∷ []) (suc own) in
      let thief = stretches r (suc k) ds kids loose n 0 in
      past_within n k (is_back b (loose (k ∷ [])) ds) (loose (k ∷ [])) on inner thief (many r) (all_later n k on (all_within r (suc k) ds kids loose n (suc own + many u)))
      (child_within n k inner (all_within u 1 (deeds_at (kids k [])) (below (kids k)) (λ m. loose (k ∷ m)) (n ++ k ∷ []) (suc own))) (all_later n k thief (all_within r (suc k) ds kids loose n 0))

  all_apart : (r : Run W) (k : ℕ) (ds : List (Deed W)) (kids : ℕ → Frames W) (loose : Name → Bool) (n : Name) (own : ℕ) → Apart (stretches r k ds kids loose n own)
  all_apart stop k [] kids loose n own = ((λ i. i), tt)
  all_apart stop k (d ∷ ds) kids loose n own = tt
  all_apart (act e r) k [] kids loose n own = ((λ i. i), tt)
  all_apart (act e r) k (d ∷ ds) kids loose n own = all_apart r k ds kids loose n (suc own)
  all_apart (child b w u r) k [] kids loose n own = ((λ i. i), tt)
  all_apart (child b w u r) k (d ∷ ds) kids loose n own =
      let on = stretches r (suc k) ds kids loose n (suc own + many u) in
      let inner = stretches u 1 (deeds_at (kids k [])) (below (kids k)) (λ m. loose (k ∷ m)) (n ++ k ∷ []) (suc own) in
      let thief = stretches r (suc k) ds kids loose n 0 in
      past_apart (is_back b (loose (k ∷ [])) ds) (loose (k ∷ [])) on inner thief (many r) (all_apart r (suc k) ds kids loose n (suc own + many u))
      (all_apart u 1 (deeds_at (kids k [])) (below (kids k)) (λ m. loose (k ∷ m)) (n ++ k ∷ []) (suc own)) (all_apart r (suc k) ds kids loose n 0)
      (λ m h g. never_both n k m (in_within (n ++ k ∷ []) 1 m inner h (all_within u 1 (deeds_at (kids k [])) (below (kids k)) (λ m. loose (k ∷ m)) (n ++ k ∷ []) (suc own)))
      (in_within n (suc k) m thief g (all_within r (suc k) ds kids loose n 0)))

get_in : (ss : List Stretch) (a : ℕ) (n : Name) (x : ℕ) → slice_get ss a ≡ Some (Held n x) → In n ss
get_in [] a n x q = absurd (cc)
get_in (Held m e ∷ ss) zero n x q = let s : Some (Held m e) ≡ Some (Held n x) = q in let h : m ≡ n = cc in inl h
get_in (Ahead e ∷ ss) zero n x q = let s : Some (Ahead e) ≡ Some (Held n x) = q in absurd (cc)
get_in (Held m e ∷ ss) (suc a) n x q = inr (get_in ss a n x q)
get_in (Ahead e ∷ ss) (suc a) n x q = get_in ss a n x q

apart_get : (ss : List Stretch) → Apart ss → (a b : ℕ) (n : Name) (x y : ℕ) → slice_get ss a ≡ Some (Held n x) → slice_get ss b ≡ Some (Held n y) → a ≡ b
apart_get [] h a b n x y q g = absurd (cc)
apart_get (s ∷ ss) h zero zero n x y q g = refl
apart_get (Held m e ∷ ss) h zero (suc b) n x y q g = let s : Some (Held m e) ≡ Some (Held n x) = q in let same : m ≡ n = cc in absurd (h.0 (subst (λ z. In z ss) (sym same) (get_in ss b n y g)))
apart_get (Ahead e ∷ ss) h zero (suc b) n x y q g = let s : Some (Ahead e) ≡ Some (Held n x) = q in absurd (cc)
apart_get (Held m e ∷ ss) h (suc a) zero n x y q g = let s : Some (Held m e) ≡ Some (Held n y) = g in let same : m ≡ n = cc in absurd (h.0 (subst (λ z. In z ss) (sym same) (get_in ss a n x q)))
apart_get (Ahead e ∷ ss) h (suc a) zero n x y q g = let s : Some (Ahead e) ≡ Some (Held n y) = g in absurd (cc)
apart_get (Held m e ∷ ss) h (suc a) (suc b) n x y q g = ap suc (apart_get ss h.1 a b n x y q g)
apart_get (Ahead e ∷ ss) h (suc a) (suc b) n x y q g = ap suc (apart_get ss h a b n x y q g)

pub are_stretches : {W V : Type 0} (M : Instance → MonoidStructure V) (C : Costs W) (w : W) (t : Run W) (opening : Cell → ℤ) (s : State W V) (i : Instance) → IsConsistent M C w t opening s → AreStretches t s
are_stretches M C w t opening s i ok = record {
  whole = cover (M i) i t 1 (deeds_at (s.frames [])) (below s.frames) s.stolen [] 0 (λ n. s.piece n i) (unit_of M i) (unit_of M i) (s.piece [] i) ok.cut (ok.pieces i);
  one = apart_get (covered t s) (all_apart t 1 (deeds_at (s.frames [])) (below s.frames) s.stolen [] 0);
}
