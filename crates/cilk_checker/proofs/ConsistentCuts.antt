-- The states of a determinate program are consistent cuts of its serial run, by positions.
--
-- - `tied`: the events that a cut makes, by the places of events;
-- - `last_write`: what a cell holds, as the last write that is made;
-- - `pieces`: stretches as ranges;
-- - `is_cut`, `all_cuts`: the law for one state, and for all.
use Rattle.std.proofs.Common.{◌≡◌, ◌⊎◌, inl, inr, ⊎_elim, ◌+◌, ◌-◌, ◌<◌, ◌≤◌, ℕ, zero, suc, ℤ, Bool, true, false, cond, List, [], ◌∷◌, ◌++◌, length, map, take, drop, replicate, Some, None, refl, sym, ap, ap₂, ◌∙◌, subst, arith, append_assoc, length-append, slice_get}
use Rattle.std.proofs.lemmas.Bool.{cases_lt, le-ltb, lt-ltb}
use Rattle.std.proofs.Math.Seq.{take-append_seam}
use Rattle.cilk_types.specs.declared.event.Event as serials
use Rattle.cilk_program.specs.Syntax.{Source}
use Rattle.cilk_program.specs.SerialRun.{Transcript}
use Rattle.cilk_tree.specs.Shape.{Shape}
use Rattle.cilk_tree.specs.Tree.{tree}
use Rattle.cilk_determinacy.specs.Runs.{Name, Cell, same_cell, Instance, Reads, Writes, Syncs, Ends, Passes, Deed, Does, Invokes, Run, stop, act, child}
use Rattle.cilk_determinacy.specs.Machine.{Frames, State, deeds_at, put, effect}
use Rattle.cilk_determinacy.specs.Cuts.{IsCut, below, made}
use Rattle.cilk_determinacy.specs.CutPositions.{IsClosedBefore, made_at, unmade}
use Rattle.cilk_determinacy.specs.Traces.{trace}
use Rattle.cilk_determinacy.specs.Stretches.{Stretch, Held, Ahead, AreStretches, AreViewed, PiecesAreViews, covered, marks, view_along}
use Rattle.cilk_determinacy.specs.Monoids.{unit_of}
use Rattle.cilk_determinacy.specs.Reducers.{View, monoid_of}
use Rattle.cilk_determinacy.specs.FrameEnvs.{FrameEnv}
use Rattle.cilk_determinacy.specs.FrameEnvMachine.{opening_values}
use Rattle.std.specs.Prelude.{IsTrue}
use Rattle.cilk_program.specs.Outcomes.{Leaves}
use Rattle.cilk_program.specs.Sources.{source}
use Rattle.cilk_program.specs.WellNamed.{is_well_named}
use Rattle.cilk_peers.specs.RaceFree.{IsRaceFree}
use Rattle.cilk_determinacy.specs.Nested.{named}
use Rattle.cilk_determinacy.specs.Pieces.{PiecesCover}
use Rattle.cilk_determinacy.specs.Positions.{CutsAreClosed}
use Rattle.cilk_determinacy.specs.Words.{HasWords, InputsAreWords, SetsWords}
use Rattle.cilk_determinacy.specs.Theorem
use Rattle.cilk_determinacy.specs.Theorem.{IsNumbered}
use Rattle.cilk_checker.specs.Determinate.{AcceptedRun, HasDeterminateRun}
use Rattle.cilk_checker.specs.ConsistentCuts.{ArePieces, HasConsistentCuts, IsConsistentCut, IsIn, IsLastWrite, IsMade, Range, has_made, made_in, places, ranges, write_at, write_of}

-- ---- which events are made

map_both : {A B : Type 0} (f : A → B) (xs ys : List A) → map f (xs ++ ys) ≡ map f xs ++ map f ys
map_both f [] ys = refl
map_both f (x ∷ xs) ys = ap (λ z. f x ∷ z) (map_both f xs ys)

under : (n : Name) (k : ℕ) (m : List ℕ) → n ++ k ∷ m ≡ (n ++ k ∷ []) ++ m
under n k m = sym (append_assoc n (k ∷ []) m)

module _ {W : Type 0} (frames : Frames W) where
  not_here : (n : Name) (at : ℕ) → length (deeds_at (frames n)) ≤ at → false ≡ has_made frames (record { frame = n; earlier = at })
  not_here n at h = sym (le-ltb at (length (deeds_at (frames n))) h)

  here : (n : Name) (at : ℕ) → at < length (deeds_at (frames n)) → true ≡ has_made frames (record { frame = n; earlier = at })
  here n at h = sym (lt-ltb at (length (deeds_at (frames n))) h)

  nobody : (n : Name) → frames n ≡ None → length (deeds_at (frames n)) ≤ 0
  nobody n h = subst (λ f. length (deeds_at f) ≤ 0) (sym h) (omega arith)

  untied : (t : Run W) (n : Name) (at k : ℕ) → length (deeds_at (frames n)) ≤ at → ((i : ℕ) (m : Name) → k ≤ i → frames (n ++ i ∷ m) ≡ None) → unmade t ≡ map (has_made frames) (places t n at k)
  untied stop n at k h none = refl
  untied (act e r) n at k h none = ap₂ (λ (x : Bool) (y : List Bool). x ∷ y) (not_here n at h) (untied r n (suc at) k (omega (arith, h)) none)
  untied (child b w u r) n at k h none =
      let inner = untied u (n ++ k ∷ []) 0 1 (nobody (n ++ k ∷ []) (none k [] (omega arith))) (λ i m j. subst (λ z. frames z ≡ None) (under n k (i ∷ m)) (none k (i ∷ m) (omega arith))) in
      let rest = untied r n (suc at) (suc k) (omega (arith, h)) (λ i m j. none i m (omega (arith, j))) in
      ap₂ (λ (x : Bool) (y : List Bool). x ∷ y) (not_here n at h) (ap₂ (λ (x y : List Bool). x ++ y) inner rest ∙ sym (map_both (has_made frames) (places u (n ++ k ∷ []) 0 1) (places r n (suc at) (suc k))))

  pub tied : (t : Run W) (k : ℕ) (ds : List (Deed W)) (kids : ℕ → Frames W) (n : Name) (at : ℕ) → IsCut t k ds kids → ((i : ℕ) (m : Name) → kids i m ≡ frames (n ++ i ∷ m)) → at + length ds ≡ length (deeds_at (frames n))
      → made_at t k ds kids ≡ map (has_made frames) (places t n at k)
  tied stop k ds kids n at cut same h = refl
  tied (act e r) k [] kids n at cut same h =
      ap₂ (λ (x : Bool) (y : List Bool). x ∷ y) (not_here n at (omega (arith, h))) (untied r n (suc at) k (omega (arith, h)) (λ i m j. sym (same i m) ∙ cut i j m))
  tied (act e r) k (d ∷ ds) kids n at cut same h = ap₂ (λ (x : Bool) (y : List Bool). x ∷ y) (here n at (omega (arith, h))) (tied r k ds kids n (suc at) cut.1 same (omega (arith, h)))
  tied (child b w u r) k [] kids n at cut same h = untied (child b w u r) n at k (omega (arith, h)) (λ i m j. sym (same i m) ∙ cut i j m)
  tied (child b w u r) k (d ∷ ds) kids n at cut same h =
      let size : 0 + length (deeds_at (kids k [])) ≡ length (deeds_at (frames (n ++ k ∷ []))) = omega (arith, ap (λ f. length (deeds_at f)) (same k [])) in
      let inner = tied u 1 (deeds_at (kids k [])) (below (kids k)) (n ++ k ∷ []) 0 cut.2 (λ i m. same k (i ∷ m) ∙ ap frames (under n k (i ∷ m))) size in
      let rest = tied r (suc k) ds kids n (suc at) cut.4 same (omega (arith, h)) in
      ap₂ (λ (x : Bool) (y : List Bool). x ∷ y) (here n at (omega (arith, h))) (ap₂ (λ (x y : List Bool). x ++ y) inner rest ∙ sym (map_both (has_made frames) (places u (n ++ k ∷ []) 0 1) (places r n (suc at) (suc k))))

-- ---- the last write to a cell

-- a cell's value after the deeds that are marked
abbrev after_made : {W : Type 0} → List Bool → List (Deed W) → Cell → ℤ → ℤ
after_made [] ds c x = x
after_made (b ∷ bs) [] c x = x
after_made (true ∷ bs) (d ∷ ds) c x = after_made bs ds c (effect d c x)
after_made (false ∷ bs) (d ∷ ds) c x = after_made bs ds c x

unmade_length : {W : Type 0} (t : Run W) → length (unmade t) ≡ length (trace t)
unmade_length stop = refl
unmade_length (act e r) = ap suc (unmade_length r)
unmade_length (child b w u r) = omega (arith, unmade_length u, unmade_length r, length-append (unmade u) (unmade r), length-append (trace u) (trace r))

after_both : {W : Type 0} (ms ns : List Bool) (xs ys : List (Deed W)) (c : Cell) (v : ℤ) → length ms ≡ length xs → after_made (ms ++ ns) (xs ++ ys) c v ≡ after_made ns ys c (after_made ms xs c v)
after_both [] ns [] ys c v h = refl
after_both [] ns (x ∷ xs) ys c v h = absurd (omega (arith, h))
after_both (a ∷ ms) ns [] ys c v h = absurd (omega (arith, h))
after_both (true ∷ ms) ns (x ∷ xs) ys c v h = after_both ms ns xs ys c (effect x c v) (omega (arith, h))
after_both (false ∷ ms) ns (x ∷ xs) ys c v h = after_both ms ns xs ys c v (omega (arith, h))

after_unmade : {W : Type 0} (t : Run W) (c : Cell) (v : ℤ) → after_made (unmade t) (trace t) c v ≡ v
after_unmade stop c v = refl
after_unmade (act e r) c v = after_unmade r c v
after_unmade (child b w u r) c v =
    after_both (unmade u) (unmade r) (trace u) (trace r) c v (unmade_length u) ∙ (ap (λ x. after_made (unmade r) (trace r) c x) (after_unmade u c v) ∙ after_unmade r c v)

made_length : {W : Type 0} (t : Run W) (k : ℕ) (ds : List (Deed W)) (kids : ℕ → Frames W) → IsCut t k ds kids → length (made_at t k ds kids) ≡ length (trace t)
made_length stop k ds kids cut = refl
made_length (act e r) k [] kids cut = ap suc (unmade_length r)
made_length (act e r) k (d ∷ ds) kids cut = ap suc (made_length r k ds kids cut.1)
made_length (child b w u r) k [] kids cut = unmade_length (child b w u r)
made_length (child b w u r) k (d ∷ ds) kids cut =
    let inner = made_at u 1 (deeds_at (kids k [])) (below (kids k)) in
    let rest = made_at r (suc k) ds kids in
    omega (arith, made_length u 1 (deeds_at (kids k [])) (below (kids k)) cut.2, made_length r (suc k) ds kids cut.4, length-append inner rest, length-append (trace u) (trace r))

after_is : {W : Type 0} (t : Run W) (k : ℕ) (ds : List (Deed W)) (kids : ℕ → Frames W) (c : Cell) (x : ℤ) → IsCut t k ds kids → after_made (made_at t k ds kids) (trace t) c x ≡ made t k ds kids c x
after_is stop k ds kids c x cut = refl
after_is (act e r) k [] kids c x cut = after_unmade r c x
after_is (act e r) k (d ∷ ds) kids c x cut = after_is r k ds kids c (put e c x) cut.1
after_is (child b w u r) k [] kids c x cut = after_unmade (child b w u r) c x
after_is (child b w u r) k (d ∷ ds) kids c x cut =
    let inner = made_at u 1 (deeds_at (kids k [])) (below (kids k)) in
    let rest = made_at r (suc k) ds kids in
    after_both inner rest (trace u) (trace r) c x (made_length u 1 (deeds_at (kids k [])) (below (kids k)) cut.2)
    ∙ (ap (λ v. after_made rest (trace r) c v) (after_is u 1 (deeds_at (kids k [])) (below (kids k)) c x cut.2) ∙ after_is r (suc k) ds kids c (made u 1 (deeds_at (kids k [])) (below (kids k)) c x) cut.4)

-- a deed writes a cell, or leaves it as it is
writes : {W : Type 0} (d : Deed W) (c : Cell) (x : ℤ) → ((write_of c d ≡ None) × (effect d c x ≡ x)) ⊎ (write_of c d ≡ Some (effect d c x))
writes (Does (Reads b v)) c x = inl (refl, refl)
writes (Does (Writes b v)) c x = by (same_cell b c) where
  by : (t : Bool) → ((cond t (Some v) None ≡ None) × (cond t v x ≡ x)) ⊎ (cond t (Some v) None ≡ Some (cond t v x))
  by true = inr refl
  by false = inl (refl, refl)
writes (Does Syncs) c x = inl (refl, refl)
writes (Does (Ends v gone)) c x = inl (refl, refl)
writes (Does (Passes m)) c x = inl (refl, refl)
writes (Invokes k w) c x = inl (refl, refl)

module _ {W : Type 0} (b : Bool) (d : Deed W) (ms : List Bool) (ds : List (Deed W)) (c : Cell) where
  later_on : (p : ℕ) → ((q : ℕ) → p < q → IsMade ms q → write_at c ds q ≡ None) → (q : ℕ) → suc p < q → IsMade (b ∷ ms) q → write_at c (d ∷ ds) q ≡ None
  later_on p h zero lt m = absurd (omega (arith, lt))
  later_on p h (suc q) lt m = h q (omega (arith, lt)) m

  all_later : ((q : ℕ) → IsMade ms q → write_at c ds q ≡ None) → (q : ℕ) → 0 < q → IsMade (b ∷ ms) q → write_at c (d ∷ ds) q ≡ None
  all_later h zero lt m = absurd (omega (arith, lt))
  all_later h (suc q) lt m = h q m

  none_here : (b ≡ true → write_of c d ≡ None) → ((q : ℕ) → IsMade ms q → write_at c ds q ≡ None) → (q : ℕ) → IsMade (b ∷ ms) q → write_at c (d ∷ ds) q ≡ None
  none_here first h zero m = first (let e : b ≡ true = cc in e)
  none_here first h (suc q) m = h q m

last_write : {W : Type 0} (ms : List Bool) (ds : List (Deed W)) (c : Cell) (x : ℤ) → IsLastWrite ms ds c x (after_made ms ds c x)
last_write [] ds c x = inr (refl, λ q h. absurd cc)
last_write (b ∷ ms) [] c x = inr (refl, λ q h. refl)
last_write (false ∷ ms) (d ∷ ds) c x =
    ⊎_elim (λ h. inl (suc h.0, h.1, h.2, later_on false d ms ds c h.0 h.3)) (λ h. inr (h.0, none_here false d ms ds c (λ e. absurd cc) h.1)) (last_write ms ds c x)
last_write (true ∷ ms) (d ∷ ds) c x =
    ⊎_elim (λ h. inl (suc h.0, h.1, h.2, later_on true d ms ds c h.0 h.3))
    (λ h. ⊎_elim (λ same. inr (h.0 ∙ same.1, none_here true d ms ds c (λ e. same.0) h.1)) (λ w. inl (0, refl, w ∙ ap (λ v. Some v) (sym h.0), all_later true d ms ds c h.1)) (writes d c x)) (last_write ms ds c (effect d c x))

-- ---- stretches as ranges

in_front : (many : ℕ) (b : Bool) (rest : List Bool) (i : ℕ) → i < many → slice_get (replicate many b ++ rest) i ≡ Some b
in_front zero b rest i h = absurd (omega (arith, h))
in_front (suc many) b rest zero h = refl
in_front (suc many) b rest (suc i) h = in_front many b rest i (omega (arith, h))

past_front : (many : ℕ) (b : Bool) (rest : List Bool) (i j : ℕ) → i ≡ many + j → slice_get (replicate many b ++ rest) i ≡ slice_get rest j
past_front zero b rest i j h = let e : i ≡ j = omega (arith, h) in ap (λ k. slice_get rest k) e
past_front (suc many) b rest zero j h = absurd (omega (arith, h))
past_front (suc many) b rest (suc i) j h = past_front many b rest i j (omega (arith, h))

abbrev range_of : Name → ℕ → ℕ → Range
range_of n at many = record { holder = n; from = at; many = many }

is_first : (n : Name) (at many : ℕ) (x : Range) → Some (range_of n at many) ≡ Some x → range_of n at many ≡ x
is_first n at many x h = cc

starts : (ss : List Stretch) (at a : ℕ) (x : Range) → slice_get (ranges at ss) a ≡ Some x → at ≤ x.from
starts [] at a x h = absurd cc
starts (Held n many ∷ ss) at zero x h = subst (λ z. at ≤ z.from) (is_first n at many x h) (omega arith)
starts (Held n many ∷ ss) at (suc a) x h = omega (arith, starts ss (at + many) a x h)
starts (Ahead many ∷ ss) at a x h = omega (arith, starts ss (at + many) a x h)

range_made : (ss : List Stretch) (at a p : ℕ) (x : Range) → slice_get (ranges at ss) a ≡ Some x → IsIn x p → slice_get (marks ss) (p - at) ≡ Some true
range_made [] at a p x h i = absurd cc
range_made (Held n many ∷ ss) at zero p x h i =
    let j = subst (λ z. IsIn z p) (sym (is_first n at many x h)) i in
    in_front many true (marks ss) (p - at) (let lo : at ≤ p = j.0 in let hi : p < at + many = j.1 in omega (arith, lo, hi))
range_made (Held n many ∷ ss) at (suc a) p x h i =
    let lo = starts ss (at + many) a x h in
    past_front many true (marks ss) (p - at) (p - (at + many)) (omega (arith, lo, i.0)) ∙ range_made ss (at + many) a p x h i
range_made (Ahead many ∷ ss) at a p x h i =
    let lo = starts ss (at + many) a x h in
    past_front many false (marks ss) (p - at) (p - (at + many)) (omega (arith, lo, i.0)) ∙ range_made ss (at + many) a p x h i

made_range : (ss : List Stretch) (at p : ℕ) → at ≤ p → slice_get (marks ss) (p - at) ≡ Some true → (a : ℕ) × (x : Range) × (slice_get (ranges at ss) a ≡ Some x) × IsIn x p
made_range [] at p le h = absurd cc
made_range (Held n many ∷ ss) at p le h =
    ⊎_elim (λ lt. (0, range_of n at many, refl, (le, lt)))
    (λ ge. let r = made_range ss (at + many) p ge (sym (past_front many true (marks ss) (p - at) (p - (at + many)) (omega (arith, ge, le))) ∙ h) in (suc r.0, r.1, r.2, r.3)) (cases_lt p (at + many))
made_range (Ahead many ∷ ss) at p le h =
    ⊎_elim (λ lt. let e : Some false ≡ Some true = sym (in_front many false (marks ss) (p - at) (omega (arith, lt, le))) ∙ h in absurd cc)
    (λ ge. made_range ss (at + many) p ge (sym (past_front many false (marks ss) (p - at) (p - (at + many)) (omega (arith, ge, le))) ∙ h)) (cases_lt p (at + many))

ranges_apart : (ss : List Stretch) (at a b p : ℕ) (x y : Range) → slice_get (ranges at ss) a ≡ Some x → slice_get (ranges at ss) b ≡ Some y → IsIn x p → IsIn y p → a ≡ b
ranges_apart [] at a b p x y h k i j = absurd cc
ranges_apart (Held n many ∷ ss) at zero zero p x y h k i j = refl
ranges_apart (Held n many ∷ ss) at zero (suc b) p x y h k i j =
    let lo = starts ss (at + many) b y k in
    let hi : p < at + many = (let z = subst (λ r. IsIn r p) (sym (is_first n at many x h)) i in z.1) in
    absurd (omega (arith, lo, hi, j.0))
ranges_apart (Held n many ∷ ss) at (suc a) zero p x y h k i j =
    let lo = starts ss (at + many) a x h in
    let hi : p < at + many = (let z = subst (λ r. IsIn r p) (sym (is_first n at many y k)) j in z.1) in
    absurd (omega (arith, lo, hi, i.0))
ranges_apart (Held n many ∷ ss) at (suc a) (suc b) p x y h k i j = ap suc (ranges_apart ss (at + many) a b p x y h k i j)
ranges_apart (Ahead many ∷ ss) at a b p x y h k i j = ranges_apart ss (at + many) a b p x y h k i j

-- the place of a range among the stretches
abbrev stretch_of : List Stretch → ℕ → ℕ
stretch_of [] a = a
stretch_of (Held n many ∷ ss) zero = 0
stretch_of (Held n many ∷ ss) (suc a) = suc (stretch_of ss a)
stretch_of (Ahead many ∷ ss) a = suc (stretch_of ss a)

stretch_is : (ss : List Stretch) (at a : ℕ) (x : Range) → slice_get (ranges at ss) a ≡ Some x → slice_get ss (stretch_of ss a) ≡ Some (Held x.holder x.many)
stretch_is [] at a x h = absurd cc
stretch_is (Held n many ∷ ss) at zero x h = ap (λ z. Some (Held z.holder z.many)) (is_first n at many x h)
stretch_is (Held n many ∷ ss) at (suc a) x h = stretch_is ss (at + many) a x h
stretch_is (Ahead many ∷ ss) at a x h = stretch_is ss (at + many) a x h

stretch_one : (ss : List Stretch) (a b : ℕ) → stretch_of ss a ≡ stretch_of ss b → a ≡ b
stretch_one [] a b h = h
stretch_one (Held n many ∷ ss) zero zero h = refl
stretch_one (Held n many ∷ ss) zero (suc b) h = absurd (omega (arith, h))
stretch_one (Held n many ∷ ss) (suc a) zero h = absurd (omega (arith, h))
stretch_one (Held n many ∷ ss) (suc a) (suc b) h = ap suc (stretch_one ss a b (omega (arith, h)))
stretch_one (Ahead many ∷ ss) a b h = stretch_one ss a b (omega (arith, h))

drop_past : {A : Type 0} (own rest : List A) (j k : ℕ) → j ≡ length own + k → drop j (own ++ rest) ≡ drop k rest
drop_past [] rest j k h = let e : j ≡ k = omega (arith, h) in ap (λ z. drop z rest) e
drop_past (x ∷ own) rest zero k h = absurd (omega (arith, h))
drop_past (x ∷ own) rest (suc j) k h = drop_past own rest j k (omega (arith, h))

take_own : {A : Type 0} (own rest ds : List A) (many j : ℕ) → ds ≡ own ++ rest → length own ≡ many → j ≡ 0 → take many (drop j ds) ≡ own
take_own own rest ds many j e h z = ap (λ k. take many (drop k ds)) z ∙ (ap (λ l. take many l) e ∙ (ap (λ k. take k (own ++ rest)) (sym h) ∙ take-append_seam own rest))

module _ (piece : Name → Instance → View) (i : Instance) where
  abbrev IsViewed : ℕ → List (Deed FrameEnv) → Range → Type 0
  IsViewed at ds x = piece x.holder i ≡ view_along (monoid_of i) i (take x.many (drop (x.from - at) ds)) (unit_of monoid_of i)

  moved : (at many : ℕ) (own rest ds : List (Deed FrameEnv)) (x : Range) → ds ≡ own ++ rest → length own ≡ many → at + many ≤ x.from → IsViewed (at + many) rest x → IsViewed at ds x
  moved at many own rest ds x e h lo v =
      v ∙ ap (λ l. view_along (monoid_of i) i (take x.many l) (unit_of monoid_of i)) (sym (ap (λ l. drop (x.from - at) l) e ∙ drop_past own rest (x.from - at) (x.from - (at + many)) (omega (arith, h, lo))))

  viewed : (ss : List Stretch) (at a : ℕ) (x : Range) (ds : List (Deed FrameEnv)) → AreViewed (monoid_of i) i (λ n. piece n i) ss ds → slice_get (ranges at ss) a ≡ Some x → IsViewed at ds x
  viewed [] at a x ds v h = absurd cc
  viewed (Held n many ∷ ss) at zero x ds v h =
      subst (λ z. IsViewed at ds z) (is_first n at many x h) (v.4 ∙ ap (λ l. view_along (monoid_of i) i l (unit_of monoid_of i)) (sym (take_own v.0 v.1 ds many (at - at) v.2 v.3 (omega arith))))
  viewed (Held n many ∷ ss) at (suc a) x ds v h = moved at many v.0 v.1 ds x v.2 v.3 (starts ss (at + many) a x h) (viewed ss (at + many) a x v.1 v.5 h)
  viewed (Ahead many ∷ ss) at a x ds v h = moved at many v.0 v.1 ds x v.2 v.3 (starts ss (at + many) a x h) (viewed ss (at + many) a x v.1 v.4 h)

-- ---- one state

module _ (p : Source) (inputs : List ℤ) (r : Transcript) (shape : Shape) (es : List serials.Event) (s : State FrameEnv View) where
  abbrev TheRun : Run FrameEnv
  TheRun = named p r

  same_made : Theorem.IsCut p inputs r s → made_at TheRun 1 (deeds_at (s.frames [])) (below s.frames) ≡ made_in TheRun s.frames
  same_made cut = tied s.frames TheRun 1 (deeds_at (s.frames [])) (below s.frames) [] 0 cut.cut (λ i m. refl) (omega arith)

  memory_is : (cut : Theorem.IsCut p inputs r s) (c : Cell) → IsLastWrite (made_in TheRun s.frames) (trace TheRun) c (opening_values p inputs c) (s.memory c)
  memory_is cut c =
      let marked = made_at TheRun 1 (deeds_at (s.frames [])) (below s.frames) in
      let value : after_made marked (trace TheRun) c (opening_values p inputs c) ≡ s.memory c = after_is TheRun 1 (deeds_at (s.frames [])) (below s.frames) c (opening_values p inputs c) cut.cut ∙ sym (cut.memory c) in
      subst (λ ms. IsLastWrite ms (trace TheRun) c (opening_values p inputs c) (s.memory c)) (same_made cut)
      (subst (λ v. IsLastWrite marked (trace TheRun) c (opening_values p inputs c) v) value (last_write marked (trace TheRun) c (opening_values p inputs c)))

  pieces_are : Theorem.IsCut p inputs r s → AreStretches TheRun s → PiecesAreViews monoid_of TheRun s → ArePieces (made_in TheRun s.frames) (trace TheRun) s.piece (ranges 0 (covered TheRun s))
  pieces_are cut stretched views =
      let ss = covered TheRun s in
      let marked : marks ss ≡ made_in TheRun s.frames = stretched.whole ∙ same_made cut in
      record {
        one = λ a b x y h k same.
            stretch_one ss a b (stretched.one (stretch_of ss a) (stretch_of ss b) x.holder x.many y.many (stretch_is ss 0 a x h) (stretch_is ss 0 b y k ∙ ap (λ n. Some (Held n y.many)) (sym same)));
        apart = λ a b q x y h k i j. ranges_apart ss 0 a b q x y h k i j;
        only = λ a q x h i.
            let e : q - 0 ≡ q = omega arith in
            subst (λ ms. slice_get ms q ≡ Some true) marked (ap (λ z. slice_get (marks ss) z) (sym e) ∙ range_made ss 0 a q x h i);
        all = λ q m.
            let e : q - 0 ≡ q = omega arith in
            made_range ss 0 q (omega arith) (ap (λ z. slice_get (marks ss) z) e ∙ subst (λ ms. slice_get ms q ≡ Some true) (sym marked) m);
        views = λ a x h i.
            let e : x.from - 0 ≡ x.from = omega arith in
            viewed s.piece i ss 0 a x (trace TheRun) (views i) h ∙ ap (λ z. view_along (monoid_of i) i (take x.many (drop z (trace TheRun))) (unit_of monoid_of i)) e;
      }

  pub is_cut : Theorem.IsCut p inputs r s → IsNumbered p inputs r es → IsClosedBefore es (tree shape) (made_at TheRun 1 (deeds_at (s.frames [])) (below s.frames)) → AreStretches TheRun s → PiecesAreViews monoid_of TheRun s → IsConsistentCut p inputs r shape es s
  is_cut cut numbered closed stretched views = record {
    written = numbered.written;
    before = subst (λ ms. IsClosedBefore es (tree shape) ms) (same_made cut) closed;
    memory = memory_is cut;
    pieces = pieces_are cut stretched views;
  }

-- every state of an accepted run, by laws on programs
pub all_cuts : (a : AcceptedRun) → HasDeterminateRun a → HasWords (source a.program) → InputsAreWords a.input → ((p : Source) (inputs : List ℤ) → SetsWords p inputs) → ((p : Source) (inputs : List ℤ) → Theorem.SerialRunsAreNumbered p inputs)
    → ((p : Source) (inputs : List ℤ) → CutsAreClosed p inputs) → ((p : Source) (inputs : List ℤ) → PiecesCover p inputs) → HasConsistentCuts a
all_cuts a h words input_words sets numbered closed covers =
    let p = source a.program in
    let d = h.1 in
    let run = d.ended.ran.run in
    let serial = d.ended.ran.serial in
    let well : IsTrue (is_well_named p) = a.program.well_named in
    let races : IsRaceFree a.trace = record { shape = h.0; spells = d.ended.spells; races = d.races; view_races = d.view_races } in
    let free : Theorem.RunsFree p a.input run a.trace a.outcome = record { named = well; runs = serial; sets = sets p a.input words input_words run a.trace (Leaves a.outcome) serial; free = races } in
    record {
      run = run;
      shape = h.0;
      serial = serial;
      spells = d.ended.spells;
      cuts = λ ns s reaches.
          let at = d.parallel ns s reaches in
          let cut = at.agrees.consistent in
          let pieces = covers p a.input run a.trace a.outcome free s cut in
          is_cut p a.input run h.0 a.trace s cut (numbered p a.input run a.trace a.outcome well serial) (closed p a.input run a.trace a.outcome well serial h.0 d.ended.spells s cut) pieces.0 pieces.1;
    }
