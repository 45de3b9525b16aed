-- The events of a frame in order, where the events around a child are those of the frames that make
-- them.
use Rattle.std.proofs.Common.{◌≡◌, ℕ, suc, ◌+◌, ◌-◌, ◌<◌, ◌≤◌, List, [], ◌∷◌, ◌++◌, length, get_or, refl, ◌∙◌, ap, arith}
use Rattle.std.proofs.lemmas.List.{length-append, get_or-append_right, get_or_past}
use Rattle.std.proofs.Math.ListN.{get_or-append}
use Rattle.cilk_tree.specs.declared.mark.Mark.TheVariants.{Resume}
use Rattle.cilk_types.specs.declared.invocation.Invocation.{Invocation}
use Rattle.cilk_types.specs.declared.invocation.Invocation.TheVariants as invocations
use Rattle.cilk_tree.specs.Shape.{Shape, finish, act, sync, child, marks}
use Rattle.cilk_tree.specs.Reach.{resumed_from, awaited, predecessors_from, preceding, HasSync, HasSyncIf, IsSynced}

pub data Line : Type 0 where
  stop : Line
  plain : (rest : Line) → Line
  wait : (rest : Line) → Line
  inside : (kind : Invocation) (inner : Line) (rest : Line) → Line

abbrev pub line_of : Shape → Line
line_of finish = plain stop
line_of (act r) = plain (line_of r)
line_of (sync r) = wait (line_of r)
line_of (child k u r) = inside k (plain (line_of u)) (plain (line_of r))

abbrev pub long : Line → ℕ
long stop = 0
long (plain r) = suc (long r)
long (wait r) = suc (long r)
long (inside k u r) = suc (long u + long r)

-- the number of events before the frame's next sync
abbrev pub block : Line → ℕ
block stop = 0
block (plain r) = suc (block r)
block (wait r) = 0
block (inside k u r) = suc (long u + block r)

pub long_marks : (s : Shape) → long (line_of s) ≡ length (marks s)
long_marks finish = refl
long_marks (act r) = let h = long_marks r in omega (arith, h)
long_marks (sync r) = let h = long_marks r in omega (arith, h)
long_marks (child k u r) = let h = long_marks u in let g = long_marks r in let l = length-append (marks u) (Resume ∷ marks r) in omega (arith, h, g, l)

-- the line's events from position o on have these immediate predecessors
abbrev pub Laid : (ℕ → List ℕ) → Line → ℕ → List ℕ → List ℕ → Type 0
Laid f stop o prev ends = Unit {0}
Laid f (plain r) o prev ends = (f o ≡ prev) × Laid f r (suc o) (o ∷ []) ends
Laid f (wait r) o prev ends = (f o ≡ prev ++ ends) × Laid f r (suc o) (o ∷ []) []
Laid f (inside k u r) o prev ends =
    (f o ≡ prev) × Laid f u (suc o) (o ∷ []) [] × Laid f r (suc (o + long u)) (resumed_from k o (o + long u)) (awaited k (o + long u) ends)

abbrev rows : Line → ℕ → List ℕ → List ℕ → List (List ℕ)
rows stop o prev ends = []
rows (plain r) o prev ends = prev ∷ rows r (suc o) (o ∷ []) ends
rows (wait r) o prev ends = (prev ++ ends) ∷ rows r (suc o) (o ∷ []) []
rows (inside k u r) o prev ends = prev ∷ (rows u (suc o) (o ∷ []) [] ++ rows r (suc (o + long u)) (resumed_from k o (o + long u)) (awaited k (o + long u) ends))

length-rows : (r : Line) (o : ℕ) (prev ends : List ℕ) → length (rows r o prev ends) ≡ long r
length-rows stop o prev ends = refl
length-rows (plain r) o prev ends = let h = length-rows r (suc o) (o ∷ []) ends in omega (arith, h)
length-rows (wait r) o prev ends = let h = length-rows r (suc o) (o ∷ []) [] in omega (arith, h)
length-rows (inside k u r) o prev ends =
    let h = length-rows u (suc o) (o ∷ []) [] in
    let g = length-rows r (suc (o + long u)) (resumed_from k o (o + long u)) (awaited k (o + long u) ends) in
    let l = length-append (rows u (suc o) (o ∷ []) []) (rows r (suc (o + long u)) (resumed_from k o (o + long u)) (awaited k (o + long u) ends)) in
    omega (arith, h, g, l)

abbrev Shows : (ℕ → List ℕ) → ℕ → List (List ℕ) → Type 0
Shows f o xs = (i : ℕ) → i < length xs → f (o + i) ≡ get_or xs i []

shows_first : (f : ℕ → List ℕ) (o : ℕ) (x : List ℕ) (xs : List (List ℕ)) → Shows f o (x ∷ xs) → f o ≡ x
shows_first f o x xs h = let z : o ≡ o + 0 = omega arith in ap f z ∙ h 0 (omega arith)

shows_rest : (f : ℕ → List ℕ) (o : ℕ) (x : List ℕ) (xs : List (List ℕ)) → Shows f o (x ∷ xs) → Shows f (suc o) xs
shows_rest f o x xs h i l = let z : suc o + i ≡ o + suc i = omega arith in ap f z ∙ h (suc i) (omega (arith, l))

shows_left : (f : ℕ → List ℕ) (o : ℕ) (xs ys : List (List ℕ)) → Shows f o (xs ++ ys) → Shows f o xs
shows_left f o xs ys h i l = let n = length-append xs ys in h i (omega (arith, l, n)) ∙ get_or-append xs ys [] i l

shows_right : (f : ℕ → List ℕ) (o n : ℕ) (xs ys : List (List ℕ)) → length xs ≡ n → Shows f o (xs ++ ys) → Shows f (o + n) ys
shows_right f o n xs ys e h i l =
    let m = length-append xs ys in
    let z : o + n + i ≡ o + (n + i) = omega arith in
    let w : n + i - n ≡ i = omega arith in
    ap f z ∙ (h (n + i) (omega (arith, l, m, e)) ∙ (get_or-append_right xs ys n (n + i) [] e (omega arith) ∙ ap (λ (j : ℕ). get_or ys j []) w))

laid_rows : (f : ℕ → List ℕ) (r : Line) (o : ℕ) (prev ends : List ℕ) → Shows f o (rows r o prev ends) → Laid f r o prev ends
laid_rows f stop o prev ends h = tt
laid_rows f (plain r) o prev ends h = (shows_first f o prev _ h, laid_rows f r (suc o) (o ∷ []) ends (shows_rest f o prev _ h))
laid_rows f (wait r) o prev ends h = (shows_first f o (prev ++ ends) _ h, laid_rows f r (suc o) (o ∷ []) [] (shows_rest f o (prev ++ ends) _ h))
laid_rows f (inside k u r) o prev ends h =
    let t = shows_rest f o prev _ h in
    let n = length-rows u (suc o) (o ∷ []) [] in (
      shows_first f o prev _ h,
      laid_rows f u (suc o) (o ∷ []) [] (shows_left f (suc o) _ _ t),
      laid_rows f r (suc (o + long u)) (resumed_from k o (o + long u)) (awaited k (o + long u) ends) (λ i l. (let z : suc (o + long u) + i ≡ suc o + long u + i = omega arith in ap f z ∙ shows_right f (suc o) (long u) _ _ n t i l)),
    )

rows_shape : (s : Shape) (o : ℕ) (prev ends : List ℕ) → predecessors_from s o prev ends ≡ rows (line_of s) o prev ends
rows_shape finish o prev ends = refl
rows_shape (act r) o prev ends = ap (λ (l : List (List ℕ)). prev ∷ l) (rows_shape r (suc o) (o ∷ []) ends)
rows_shape (sync r) o prev ends = ap (λ (l : List (List ℕ)). (prev ++ ends) ∷ l) (rows_shape r (suc o) (o ∷ []) [])
rows_shape (child k u r) o prev ends =
    let e : suc o + length (marks u) ≡ o + suc (long (line_of u)) = let h = long_marks u in omega (arith, h) in
    ap (λ (l : List (List ℕ)). prev ∷ (o ∷ []) ∷ l)
    (ap (λ (l : List (List ℕ)). l ++ (resumed_from k o (suc o + length (marks u)) ∷ predecessors_from r (suc (suc (suc o + length (marks u)))) (suc (suc o + length (marks u)) ∷ []) (awaited k (suc o + length (marks u)) ends)))
    (rows_shape u (suc (suc o)) (suc o ∷ []) [])
    ∙ (ap (λ (z : ℕ). rows (line_of u) (suc (suc o)) (suc o ∷ []) [] ++ (resumed_from k o z ∷ predecessors_from r (suc (suc z)) (suc z ∷ []) (awaited k z ends))) e
    ∙ ap (λ (l : List (List ℕ)). rows (line_of u) (suc (suc o)) (suc o ∷ []) [] ++ (resumed_from k o (o + suc (long (line_of u))) ∷ l))
    (rows_shape r (suc (suc (o + suc (long (line_of u))))) (suc (o + suc (long (line_of u))) ∷ []) (awaited k (o + suc (long (line_of u))) ends))))

-- the whole run
abbrev pub whole : Shape → Line
whole s = plain (line_of s)

preceding_rows : (s : Shape) (p : ℕ) → preceding s p ≡ get_or (rows (whole s) 1 [] []) (p - 1) []
preceding_rows s p = ap (λ (l : List (List ℕ)). get_or ([] ∷ l) (p - 1) []) (rows_shape s 2 (1 ∷ []) [])

pub laid_whole : (s : Shape) → Laid (preceding s) (whole s) 1 [] []
laid_whole s = laid_rows (preceding s) (whole s) 1 [] [] (λ i l. (let z : 1 + i - 1 ≡ i = omega arith in preceding_rows s (1 + i) ∙ ap (λ (j : ℕ). get_or (rows (whole s) 1 [] []) j []) z))

pub none_past : (s : Shape) (p : ℕ) → suc (long (whole s)) ≤ p → preceding s p ≡ []
none_past s p l = preceding_rows s p ∙ get_or_past (rows (whole s) 1 [] []) (p - 1) [] (let n = length-rows (whole s) 1 [] [] in omega (arith, l, n))

-- ---- the places of syncs
abbrev pub SyncAhead : Line → Type 0
SyncAhead stop = ⊥
SyncAhead (plain r) = SyncAhead r
SyncAhead (wait r) = Unit {0}
SyncAhead (inside k u r) = SyncAhead r

abbrev pub GoesOn : Line → Type 0
GoesOn stop = ⊥
GoesOn (plain r) = Unit {0}
GoesOn (wait r) = Unit {0}
GoesOn (inside k u r) = Unit {0}

abbrev pub ComesAfter : Invocation → Line → Type 0
ComesAfter invocations.Call r = GoesOn r
ComesAfter invocations.Spawn r = SyncAhead r

abbrev pub IsClosed : Line → Type 0
IsClosed stop = Unit {0}
IsClosed (plain r) = IsClosed r
IsClosed (wait r) = IsClosed r
IsClosed (inside k u r) = ComesAfter k r × IsClosed u × IsClosed r

sync_ahead : (s : Shape) → HasSync s → SyncAhead (line_of s)
sync_ahead finish h = absurd h
sync_ahead (act r) h = sync_ahead r h
sync_ahead (sync r) h = tt
sync_ahead (child k u r) h = sync_ahead r h

comes_after : (k : Invocation) (r : Shape) → HasSyncIf k r → ComesAfter k (plain (line_of r))
comes_after invocations.Call r h = tt
comes_after invocations.Spawn r h = sync_ahead r h

pub closed_line : (s : Shape) → IsSynced s → IsClosed (line_of s)
closed_line finish h = tt
closed_line (act r) h = closed_line r h
closed_line (sync r) h = closed_line r h
closed_line (child k u r) (h, g, i) = (comes_after k r h, closed_line u g, closed_line r i)
