-- A cut is closed under before, by positions.
use Rattle.std.proofs.Common.{◌≡◌, ℕ, zero, suc, ◌+◌, ◌-◌, ◌<◌, Bool, true, false, List, [], ◌∷◌, ◌++◌, length, Option, Some, None, refl, sym, ap, ◌∙◌, subst, arith, ◌⊎◌, inl, inr, ⊎_elim, append_assoc, append-nil, length-append, zero-add, suc-add, lt-ltb, le-ltb}
use Rattle.std.specs.Prelude.{slice_get, nat_lt}
use Rattle.std.proofs.lemmas.Bool.{cases_lt, cond-true, cond-false}
use Rattle.cilk_types.specs.declared.invocation.Invocation.{Invocation}
use Rattle.cilk_types.specs.declared.invocation.Invocation.TheVariants.{Call, Spawn}
use Rattle.cilk_determinacy.specs.Runs.{Reads, Writes, Syncs, Ends, Passes, Deed, Does, Run, stop, act, child}
use Rattle.cilk_determinacy.specs.Machine.{Frames, deeds_at, HasSync}
use Rattle.cilk_determinacy.specs.Cuts.{below, IsFull, IsPast, IsCut}
use Rattle.cilk_determinacy.proofs.Layouts.{Layout, Strand, Series, Beside, in_order, child_layout, layouts, layout, size, are_beside}
use Rattle.cilk_determinacy.specs.CutPositions.{unmade, made_at, IsMade, CutsAreClosed}
use Rattle.cilk_determinacy.specs.Traces.{shape_of}
use Rattle.cilk_tree.specs.Before.{IsPosition}
use Rattle.cilk_tree.specs.Tree as trees
use Rattle.cilk_tree.proofs.Places as positions
use Rattle.cilk_tree.proofs.Places.{Earlier, before_earlier}
use Rattle.cilk_determinacy.proofs.Spells.{layouts_agree}
use Rattle.cilk_determinacy.proofs.NumberedRuns.{from_nested, spelled, layout_length}
use Rattle.cilk_determinacy.proofs.Grows.{cut_nil}

abbrev AllTrue : List Bool → Type 0
AllTrue [] = Unit {0}
AllTrue (true ∷ x) = AllTrue x
AllTrue (false ∷ x) = ⊥

abbrev HasTrue : List Bool → Type 0
HasTrue [] = ⊥
HasTrue (true ∷ x) = Unit {0}
HasTrue (false ∷ x) = HasTrue x

-- first some true ones, then false ones
abbrev Down : List Bool → Type 0
Down [] = Unit {0}
Down (true ∷ x) = Down x
Down (false ∷ x) = ¬ (HasTrue x)

all_append : (x y : List Bool) → AllTrue x → AllTrue y → AllTrue (x ++ y)
all_append [] y h g = g
all_append (true ∷ x) y h g = all_append x y h g
all_append (false ∷ x) y h g = absurd h

has_append : (x y : List Bool) → HasTrue (x ++ y) → HasTrue x ⊎ HasTrue y
has_append [] y h = inr h
has_append (true ∷ x) y h = inl tt
has_append (false ∷ x) y h = has_append x y h

has_left : (x y : List Bool) → HasTrue x → HasTrue (x ++ y)
has_left [] y h = absurd h
has_left (true ∷ x) y h = tt
has_left (false ∷ x) y h = has_left x y h

has_right : (x y : List Bool) → HasTrue y → HasTrue (x ++ y)
has_right [] y h = h
has_right (true ∷ x) y h = tt
has_right (false ∷ x) y h = has_right x y h

down_all : (x : List Bool) → AllTrue x → Down x
down_all [] h = tt
down_all (true ∷ x) h = down_all x h
down_all (false ∷ x) h = absurd h

down_false : (x : List Bool) → Down x → Down (x ++ false ∷ [])
down_false [] h = λ z. z
down_false (true ∷ x) h = down_false x h
down_false (false ∷ x) h = λ z. ⊎_elim h (λ t. t) (has_append x (false ∷ []) z)

all_get : (x : List Bool) (p : ℕ) → AllTrue x → p < length x → slice_get x p ≡ Some true
all_get [] p h lt = absurd (omega arith)
all_get (true ∷ x) zero h lt = refl
all_get (true ∷ x) (suc p) h lt = all_get x p h (omega arith)
all_get (false ∷ x) p h lt = absurd h

has_get : (x : List Bool) (q : ℕ) → slice_get x q ≡ Some true → HasTrue x
has_get [] q h = absurd (cc)
has_get (true ∷ x) q h = tt
has_get (false ∷ x) zero h = let z : false ≡ true = cc in absurd (cc)
has_get (false ∷ x) (suc q) h = has_get x q h

down_get : (x : List Bool) (p q : ℕ) → Down x → p < q → slice_get x q ≡ Some true → slice_get x p ≡ Some true
down_get [] p q h lt at = absurd (cc)
down_get (true ∷ x) zero q h lt at = refl
down_get (true ∷ x) (suc p) zero h lt at = absurd (omega arith)
down_get (true ∷ x) (suc p) (suc q) h lt at = down_get x p q h (omega arith) at
down_get (false ∷ x) p zero h lt at = absurd (omega arith)
down_get (false ∷ x) p (suc q) h lt at = absurd (h (has_get x q at))

part_left : (a b : List Bool) (p : ℕ) → p < length a → slice_get (a ++ b) p ≡ slice_get a p
part_left [] b p h = absurd (omega arith)
part_left (x ∷ a) b zero h = refl
part_left (x ∷ a) b (suc p) h = part_left a b p (omega arith)

part_right : (a b : List Bool) (q : ℕ) → slice_get (a ++ b) (length a + q) ≡ slice_get b q
part_right [] b q = ap (slice_get b) (zero-add q)
part_right (x ∷ a) b q = ap (slice_get (x ∷ (a ++ b))) (suc-add (length a) q) ∙ part_right a b q

part_after : (a b : List Bool) (n q : ℕ) → length a ≡ n → n < suc q → slice_get (a ++ b) q ≡ slice_get b (q - n)
part_after a b n q len le = ap (slice_get (a ++ b)) (let z : q ≡ length a + (q - n) = omega arith in z) ∙ part_right a b (q - n)

abbrev NeedsFull : Invocation → List Bool → List Bool → Type 0
NeedsFull Call x y = HasTrue y → AllTrue x
NeedsFull Spawn x y = Unit {0}

needs : (b : Invocation) (x y : List Bool) → (HasTrue y → AllTrue x) → NeedsFull b x y
needs Call x y f = f
needs Spawn x y f = tt

module _ {W : Type 0} where
  -- marks along the leaves of a tree that are closed under before
  abbrev Good : Layout W → List Bool → Type 0
  Good (Strand s) m = (length m ≡ length s) × Down m
  Good (Series a b) m = (x : List Bool) × (y : List Bool) × (m ≡ x ++ y) × Good a x × Good b y × (HasTrue y → AllTrue x)
  Good (Beside a b) m = (x : List Bool) × (y : List Bool) × (m ≡ x ++ y) × Good a x × Good b y

  good_length : (t : Layout W) (m : List Bool) → Good t m → length m ≡ size t
  good_length (Strand s) m h = h.0
  good_length (Series a b) m (x, y, e, g, k, f) = ap length e ∙ omega (arith, length-append x y, good_length a x g, good_length b y k)
  good_length (Beside a b) m (x, y, e, g, k) = ap length e ∙ omega (arith, length-append x y, good_length a x g, good_length b y k)

  good_closed : (t : Layout W) (m : List Bool) → Good t m → (p q : ℕ) → p < q → are_beside t p q ≡ false → slice_get m q ≡ Some true → slice_get m p ≡ Some true
  good_closed (Strand s) m h p q lt par at = down_get m p q h.1 lt at
  good_closed (Series a b) m (x, y, e, g, k, f) p q lt par at =
      let n = good_length a x g in
      let at' : slice_get (x ++ y) q ≡ Some true = ap (λ z. slice_get z q) (sym e) ∙ at in
      ap (λ z. slice_get z p) e ∙
      ⊎_elim
      (λ within. part_left x y p (omega arith) ∙ good_closed a x g p q lt (sym (cond-true (nat_lt q (size a)) _ _ (lt-ltb q (size a) within)) ∙ par) (sym (part_left x y q (omega arith)) ∙ at'))
      (λ past. let par' = sym (cond-false (nat_lt q (size a)) _ _ (le-ltb q (size a) past)) ∙ par in
      let there : slice_get y (q - size a) ≡ Some true = sym (part_after x y (size a) q n (omega arith)) ∙ at' in
      ⊎_elim
      (λ early. part_left x y p (omega arith) ∙ all_get x p (f (has_get y (q - size a) there)) (omega arith))
      (λ late. part_after x y (size a) p n (omega arith) ∙ good_closed b y k (p - size a) (q - size a) (omega arith) (sym (cond-false (nat_lt p (size a)) _ _ (le-ltb p (size a) late)) ∙ par') there)
      (cases_lt p (size a)))
      (cases_lt q (size a))
  good_closed (Beside a b) m (x, y, e, g, k) p q lt par at =
      let n = good_length a x g in
      let at' : slice_get (x ++ y) q ≡ Some true = ap (λ z. slice_get z q) (sym e) ∙ at in
      ap (λ z. slice_get z p) e ∙
      ⊎_elim
      (λ within. part_left x y p (omega arith) ∙ good_closed a x g p q lt (sym (cond-true (nat_lt q (size a)) _ _ (lt-ltb q (size a) within)) ∙ par) (sym (part_left x y q (omega arith)) ∙ at'))
      (λ past. let par' = sym (cond-false (nat_lt q (size a)) _ _ (le-ltb q (size a) past)) ∙ par in
      let there : slice_get y (q - size a) ≡ Some true = sym (part_after x y (size a) q n (omega arith)) ∙ at' in
      ⊎_elim
      (λ early. let z : true ≡ false = sym (cond-true (nat_lt p (size a)) _ _ (lt-ltb p (size a) early)) ∙ par' in absurd (cc))
      (λ late. part_after x y (size a) p n (omega arith) ∙ good_closed b y k (p - size a) (q - size a) (omega arith) (sym (cond-false (nat_lt p (size a)) _ _ (le-ltb p (size a) late)) ∙ par') there)
      (cases_lt p (size a)))
      (cases_lt q (size a))

  none_made : (r : Run W) → ¬ (HasTrue (unmade r))
  none_made stop h = h
  none_made (act e r) h = none_made r h
  none_made (child b w u r) h = ⊎_elim (none_made u) (none_made r) (has_append (unmade u) (unmade r) h)

  nil_made : (r : Run W) (k : ℕ) (kids : ℕ → Frames W) → made_at r k [] kids ≡ unmade r
  nil_made stop k kids = refl
  nil_made (act e r) k kids = refl
  nil_made (child b w u r) k kids = refl

  past_made : (r : Run W) (k : ℕ) (ds : List (Deed W)) (kids : ℕ → Frames W) → HasTrue (made_at r k ds kids) → IsPast Call ds
  past_made r k [] kids h = absurd (none_made r (subst HasTrue (nil_made r k kids) h))
  past_made r k (d ∷ ds) kids h = tt

  full_made : (r : Run W) (k : ℕ) (ds : List (Deed W)) (kids : ℕ → Frames W) → IsFull r k ds kids → AllTrue (made_at r k ds kids)
  full_made stop k ds kids h = tt
  full_made (act e r) k [] kids h = absurd h
  full_made (act e r) k (d ∷ ds) kids h = full_made r k ds kids h
  full_made (child b w u r) k [] kids h = absurd h
  full_made (child b w u r) k (d ∷ ds) kids h =
      all_append (made_at u 1 (deeds_at (kids k [])) (below (kids k))) (made_at r (suc k) ds kids) (full_made u 1 (deeds_at (kids k [])) (below (kids k)) h.0) (full_made r (suc k) ds kids h.1)

  past_sync : (i : Invocation) (ds : List (Deed W)) → HasSync ds → IsPast i ds
  past_sync Call [] h = absurd h
  past_sync Call (d ∷ ds) h = tt
  past_sync Spawn ds h = h

  abbrev Later : Option (Layout W) → List Bool → List Bool → List (Deed W) → Type 0
  Later None x y ds = y ≡ []
  Later (Some t) x y ds = Good t y × (HasTrue y → AllTrue x) × (HasTrue y → HasSync ds)

  -- the marks x of the block that is open and y of those after it
  abbrev Parts : Layout W → Option (Layout W) → List Bool → List (Deed W) → Type 0
  Parts t o m ds = (x : List Bool) × (y : List Bool) × (m ≡ x ++ y) × Good t x × Later o x y ds

  whole : (t : Layout W) (o : Option (Layout W)) (m : List Bool) (ds : List (Deed W)) → Parts t o m ds → Good (in_order t o) m
  whole t None m ds (x, y, e, g, l) = subst (Good t) (sym (e ∙ ap (λ z. x ++ z) l ∙ append-nil x)) g
  whole t (Some b) m ds (x, y, e, g, l) = (x, y, e, g, l.0, l.1)

  later_more : (o : Option (Layout W)) (x x' y : List Bool) (ds ds' : List (Deed W)) → (HasTrue y → HasSync ds → AllTrue x → AllTrue x') → (HasSync ds → HasSync ds') → Later o x y ds → Later o x' y ds'
  later_more None x x' y ds ds' f g l = l
  later_more (Some t) x x' y ds ds' f g l = (l.0, (λ z. f z (l.2 z) (l.1 z)), λ z. g (l.2 z))

  recast : (t : Layout W) (o : Option (Layout W)) (m m' : List Bool) (ds ds' : List (Deed W)) → m ≡ m' → (HasSync ds → HasSync ds') → Parts t o m ds → Parts t o m' ds'
  recast t o m m' ds ds' q f (x, y, e, g, l) = (x, y, sym q ∙ e, g, later_more o x x y ds ds' (λ z h a. a) f l)

  child_good : (b : Invocation) (s t : Layout W) (x y : List Bool) → Good s x → Good t y → NeedsFull b x y → Good (child_layout b s t) (x ++ y)
  child_good Call s t x y g h f = (x, y, refl, g, h, f)
  child_good Spawn s t x y g h f = (x, y, refl, g, h)

  needs_call : (b : Invocation) (x y : List Bool) (ds : List (Deed W)) → (IsPast b ds → AllTrue x) → (HasTrue y → IsPast Call ds) → NeedsFull b x y
  needs_call Call x y ds f g = λ z. f (g z)
  needs_call Spawn x y ds f g = tt

  one_more : (b : Bool) (m : List Bool) (s : List (Deed W)) (d : Deed W) → length m ≡ length s → length (m ++ b ∷ []) ≡ length (s ++ d ∷ [])
  one_more b m s d e = omega (arith, length-append m (b ∷ []), length-append s (d ∷ []), e)

  -- a strand continues with an event
  strand_off : (t : Layout W) (o : Option (Layout W)) (r : Run W) (m : List Bool) (k : ℕ) (kids : ℕ → Frames W) → Parts t o ((m ++ false ∷ []) ++ made_at r k [] kids) [] → Parts t o (m ++ false ∷ unmade r) []
  strand_off t o r m k kids h = recast t o _ _ [] [] (append_assoc m (false ∷ []) _ ∙ ap (λ z. m ++ false ∷ z) (nil_made r k kids)) (λ z. z) h

  strand_on : (t : Layout W) (o : Option (Layout W)) (r : Run W) (m : List Bool) (k : ℕ) (d : Deed W) (ds : List (Deed W)) (kids : ℕ → Frames W) → (HasSync ds → HasSync (d ∷ ds)) → Parts t o ((m ++ true ∷ []) ++ made_at r k ds kids) ds → Parts t o (m ++ true ∷ made_at r k ds kids) (d ∷ ds)
  strand_on t o r m k d ds kids f h = recast t o _ _ ds (d ∷ ds) (append_assoc m (true ∷ []) _) f h

  nowhere : ℕ → Frames W
  nowhere = λ j n. None

  parts : (r : Run W) (s : List (Deed W)) (m : List Bool) (k : ℕ) (ds : List (Deed W)) (kids : ℕ → Frames W) → IsCut r k ds kids → length m ≡ length s → Down m → (IsPast Call ds → AllTrue m) → Parts (layouts r s).0 (layouts r s).1 (m ++ made_at r k ds kids) ds
  unfolding nowhere
  parts stop s m k [] kids cut n down all = (m, [], refl, (n, down), refl)
  parts stop s m k (d ∷ ds) kids cut n down all = absurd cut
  parts (act (Reads c v) r) s m k [] kids cut n down all = strand_off _ _ r m k kids (parts r (s ++ Does (Reads c v) ∷ []) (m ++ false ∷ []) k [] kids (cut_nil r k kids cut) (one_more false m s _ n) (down_false m down) (λ z. absurd z))
  parts (act (Writes c v) r) s m k [] kids cut n down all = strand_off _ _ r m k kids (parts r (s ++ Does (Writes c v) ∷ []) (m ++ false ∷ []) k [] kids (cut_nil r k kids cut) (one_more false m s _ n) (down_false m down) (λ z. absurd z))
  parts (act (Ends val gone) r) s m k [] kids cut n down all = strand_off _ _ r m k kids (parts r (s ++ Does (Ends val gone) ∷ []) (m ++ false ∷ []) k [] kids (cut_nil r k kids cut) (one_more false m s _ n) (down_false m down) (λ z. absurd z))
  parts (act (Passes e) r) s m k [] kids cut n down all = strand_off _ _ r m k kids (parts r (s ++ Does (Passes e) ∷ []) (m ++ false ∷ []) k [] kids (cut_nil r k kids cut) (one_more false m s _ n) (down_false m down) (λ z. absurd z))
  parts (act (Reads c v) r) s m k (d ∷ ds) kids cut n down all =
      let on = all_append m (true ∷ []) (all tt) tt in
      strand_on _ _ r m k d ds kids (λ z. rw cut.0 z) (parts r (s ++ Does (Reads c v) ∷ []) (m ++ true ∷ []) k ds kids cut.1 (one_more true m s _ n) (down_all (m ++ true ∷ []) on) (λ z. on))
  parts (act (Writes c v) r) s m k (d ∷ ds) kids cut n down all =
      let on = all_append m (true ∷ []) (all tt) tt in
      strand_on _ _ r m k d ds kids (λ z. rw cut.0 z) (parts r (s ++ Does (Writes c v) ∷ []) (m ++ true ∷ []) k ds kids cut.1 (one_more true m s _ n) (down_all (m ++ true ∷ []) on) (λ z. on))
  parts (act (Ends val gone) r) s m k (d ∷ ds) kids cut n down all =
      let on = all_append m (true ∷ []) (all tt) tt in
      strand_on _ _ r m k d ds kids (λ z. rw cut.0 z) (parts r (s ++ Does (Ends val gone) ∷ []) (m ++ true ∷ []) k ds kids cut.1 (one_more true m s _ n) (down_all (m ++ true ∷ []) on) (λ z. on))
  parts (act (Passes e) r) s m k (d ∷ ds) kids cut n down all =
      let on = all_append m (true ∷ []) (all tt) tt in
      strand_on _ _ r m k d ds kids (λ z. rw cut.0 z) (parts r (s ++ Does (Passes e) ∷ []) (m ++ true ∷ []) k ds kids cut.1 (one_more true m s _ n) (down_all (m ++ true ∷ []) on) (λ z. on))
  parts (act Syncs r) s m k [] kids cut n down all =
      let ih = parts r (Does Syncs ∷ []) (false ∷ []) k [] kids (cut_nil r k kids cut) refl (λ z. z) (λ z. absurd z) in
      let g = whole _ _ _ [] (recast _ _ _ (false ∷ unmade r) [] [] (ap (λ z. false ∷ z) (nil_made r k kids)) (λ z. z) ih) in
      (m, false ∷ unmade r, refl, (n, down), (g, (λ z. absurd (none_made r z)), λ z. absurd (none_made r z)))
  parts (act Syncs r) s m k (d ∷ ds) kids cut n down all =
      let ih = parts r (Does Syncs ∷ []) (true ∷ []) k ds kids cut.1 refl tt (λ z. tt) in
      (m, true ∷ made_at r k ds kids, refl, (n, down), (whole _ _ _ ds ih, (λ z. all tt), λ z. rw cut.0 tt))
  parts (child b w u r) s m k [] kids cut n down all =
      let inner = whole _ _ _ [] (recast _ _ _ (unmade u) [] [] (nil_made u 1 nowhere) (λ z. z) (parts u [] [] 1 [] nowhere (cut_nil u 1 nowhere (λ j le n. refl)) refl tt (λ z. tt))) in
      let (x, y, e, g, l) = recast _ _ _ (unmade r) [] [] (nil_made r (suc k) kids) (λ z. z) (parts r [] [] (suc k) [] kids (cut_nil r (suc k) kids (λ j le n. cut j (omega arith) n)) refl tt (λ z. tt)) in
      let left : ¬ (HasTrue x) = λ z. none_made r (subst HasTrue (sym e) (has_left x y z)) in
      let right : ¬ (HasTrue y) = λ z. none_made r (subst HasTrue (sym e) (has_right x y z)) in
      let f : m ++ (false ∷ (unmade u ++ (x ++ y))) ≡ ((m ++ false ∷ []) ++ (unmade u ++ x)) ++ y = sym (append_assoc (m ++ false ∷ []) (unmade u ++ x) y ∙ append_assoc m (false ∷ []) _ ∙ ap (λ z. m ++ false ∷ z) (append_assoc (unmade u) x y)) in (
        (m ++ false ∷ []) ++ (unmade u ++ x),
        y,
        ap (λ z. m ++ (false ∷ (unmade u ++ z))) e ∙ f,
        (
          m ++ false ∷ [],
          unmade u ++ x,
          refl,
          (one_more false m s _ n, down_false m down),
          child_good b _ _ (unmade u) x inner g (needs b (unmade u) x (λ z. absurd (left z))),
          λ z. absurd (⊎_elim (none_made u) left (has_append (unmade u) x z)),
        ),
        later_more _ x _ y [] [] (λ z h a. absurd (right z)) (λ z. z) l,
      )
  parts (child b w u r) s m k (d ∷ ds) kids cut n down all =
      let mu = made_at u 1 (deeds_at (kids k [])) (below (kids k)) in
      let on = all_append m (true ∷ []) (all tt) tt in
      let inner = whole _ _ mu _ (parts u [] [] 1 (deeds_at (kids k [])) (below (kids k)) cut.2 refl tt (λ z. tt)) in
      let (x, y, e, g, l) = parts r [] [] (suc k) ds kids cut.4 refl tt (λ z. tt) in
      let done : IsPast b ds → AllTrue mu = λ z. full_made u 1 (deeds_at (kids k [])) (below (kids k)) (cut.3 z) in
      let f : m ++ (true ∷ (mu ++ (x ++ y))) ≡ ((m ++ true ∷ []) ++ (mu ++ x)) ++ y = sym (append_assoc (m ++ true ∷ []) (mu ++ x) y ∙ append_assoc m (true ∷ []) _ ∙ ap (λ z. m ++ true ∷ z) (append_assoc mu x y)) in (
        (m ++ true ∷ []) ++ (mu ++ x),
        y,
        ap (λ z. m ++ (true ∷ (mu ++ z))) e ∙ f,
        (
          m ++ true ∷ [],
          mu ++ x,
          refl,
          (one_more true m s _ n, down_all (m ++ true ∷ []) on),
          child_good b _ _ mu x inner g (needs_call b mu x ds done (λ z. past_made r (suc k) ds kids (subst HasTrue (sym e) (has_left x y z)))),
          λ z. on,
        ),
        later_more _ x _ y ds (d ∷ ds) (λ z h a. all_append (m ++ true ∷ []) (mu ++ x) on (all_append mu x (done (past_sync b ds h)) a)) (λ z. rw cut.0 z) l,
      )

  -- with an event made, each one is made that comes first and isn't beside it
  layout_closed : (t : Run W) (ds : List (Deed W)) (kids : ℕ → Frames W) → IsCut t 1 ds kids → (length (made_at t 1 ds kids) ≡ size (layout t))
      × ((p q : ℕ) → p < q → are_beside (layout t) p q ≡ false → slice_get (made_at t 1 ds kids) q ≡ Some true → slice_get (made_at t 1 ds kids) p ≡ Some true)
  layout_closed t ds kids cut =
      let good = whole (layouts t []).0 (layouts t []).1 (made_at t 1 ds kids) ds (parts t [] [] 1 ds kids cut refl tt (λ z. tt)) in
      (good_length (layout t) _ good, λ p q lt par at. good_closed (layout t) _ good p q lt par at)

pub cuts_closed : (W : Type 0) → CutsAreClosed W
cuts_closed W cell instance t es ds kids framed written cut = record {
  whole = (layout_closed t ds kids cut).0 ∙ same_size;
  closed = λ p q i j before at. by p q i j (before_earlier (shape_of t) es (spelled cell instance t es framed written) p q i j before) at (are_beside (layout t) (p - 1) (q - 1)) refl;
}
  where
    same_size : size (layout t) ≡ length es
    same_size = layout_length cell instance t es framed written

    by : (p q : ℕ) → IsPosition es p → IsPosition es q → Earlier (trees.tree (shape_of t)) p q → IsMade (made_at t 1 ds kids) q → (b : Bool) → are_beside (layout t) (p - 1) (q - 1) ≡ b → IsMade (made_at t 1 ds kids) p
    by p q i j e at true c =
        let l = e.less in let p1 = i.0 in let q1 = j.0 in let q2 = j.1 in
        let x : 1 + (p - 1) ≡ p = omega (arith, p1) in
        let y : 1 + (q - 1) ≡ q = omega (arith, q1) in
        let inside : q - 1 < size (layout t) = (let n = same_size in omega (arith, n, q1, q2)) in
        let h = subst (λ (k : trees.Tree). positions.Beside k 1 (1 + (p - 1)) (1 + (q - 1))) (layouts_agree W t framed) (from_nested (layout t) 1 (p - 1) (q - 1) (omega (arith, l, p1)) inside c) in
        absurd (e.apart (subst (λ (k : ℕ). positions.Beside (trees.tree (shape_of t)) 1 k q) x (subst (λ (k : ℕ). positions.Beside (trees.tree (shape_of t)) 1 (1 + (p - 1)) k) y h)))
    by p q i j e at false c = let l = e.less in let p1 = i.0 in (layout_closed t ds kids cut).1 (p - 1) (q - 1) (omega (arith, l, p1)) c at
