-- Places in lists, and the continuations that workers offer.
--
-- - `there_is`, `get_there`, `there_at`: the element at a place, and a look-up of it;
-- - `get_some`, `get_first`, `get_second`: a place in a list, and in two;
-- - `offers_at`, `located`, `passed_by`: the continuations from one worker on.
use Rattle.std.proofs.Common.{◌≡◌, ◌-◌, ◌<◌, ◌≤◌, ℕ, zero, suc, true, List, [], ◌∷◌, ◌++◌, length, drop, slice_get, slice_index_or, nat_lt, Some, None, refl, sym, ap, ◌∙◌, arith}
use Rattle.std.proofs.lemmas.Bool.{ltb-true}
use Rattle.cilk_scheduler.specs.declared.frame_state.Worker.{Worker}
use Rattle.cilk_scheduler.specs.Workers.{IsLocated, offers}

pub there_is : {A : Type 0} (xs : List A) (k : ℕ) (d a : A) → d ≡ slice_index_or xs k d → slice_get xs k ≡ Some a → d ≡ a
there_is [] k d a e h = let no : None ≡ Some a = h in cc
there_is (x ∷ xs) zero d a e h = let same : Some x ≡ Some a = h in cc
there_is (x ∷ xs) (suc k) d a e h = there_is xs k d a e h

pub get_there : {A : Type 0} (xs : List A) (k : ℕ) (d : A) → d ≡ slice_index_or xs k d → k < length xs → slice_get xs k ≡ Some d
get_there [] k d e h = absurd (omega (arith, h))
get_there (x ∷ xs) zero d e h = ap Some (sym e)
get_there (x ∷ xs) (suc k) d e h = get_there xs k d e (omega (arith, h))

pub there_at : {A : Type 0} (xs : List A) (k : ℕ) (d : A) → true ≡ nat_lt k (length xs) → d ≡ slice_index_or xs k d → slice_get xs k ≡ Some d
there_at xs k d less is = get_there xs k d is (ltb-true k (length xs) (sym less))

pub get_first : {A : Type 0} (xs ys : List A) (i : ℕ) → i < length xs → slice_get (xs ++ ys) i ≡ slice_get xs i
get_first [] ys i h = absurd (omega (arith, h))
get_first (x ∷ xs) ys zero h = refl
get_first (x ∷ xs) ys (suc i) h = get_first xs ys i (omega (arith, h))

get_second : {A : Type 0} (xs ys : List A) (i : ℕ) → length xs ≤ i → slice_get (xs ++ ys) i ≡ slice_get ys (i - length xs)
get_second [] ys i h = let same : i ≡ i - 0 = omega arith in ap (slice_get ys) same
get_second (x ∷ xs) ys zero h = absurd (omega (arith, h))
get_second (x ∷ xs) ys (suc i) h = let same : i - length xs ≡ suc i - length (x ∷ xs) = omega arith in get_second xs ys i (omega (arith, h)) ∙ ap (slice_get ys) same

pub get_some : {A : Type 0} (xs : List A) (i : ℕ) → i < length xs → (x : A) × (slice_get xs i ≡ Some x)
get_some [] i h = absurd (omega (arith, h))
get_some (x ∷ xs) zero h = (x, refl)
get_some (x ∷ xs) (suc i) h = get_some xs i (omega (arith, h))

-- from one worker on
offers_at : (ws : List Worker) (v : ℕ) (u : Worker) → slice_get ws v ≡ Some u → offers (drop v ws) ≡ (let o = u.offered in o.items) ++ offers (drop (suc v) ws)
offers_at [] v u h = let no : None ≡ Some u = h in cc
offers_at (x ∷ ws) zero u h = let same : Some x ≡ Some u = h in let is : x ≡ u = cc in ap (λ (y : Worker). (let o = y.offered in o.items) ++ offers ws) is
offers_at (x ∷ ws) (suc v) u h = offers_at ws v u h

-- it is in this worker's list
pub located : (ws : List Worker) (place v rest : ℕ) (u : Worker) → slice_get (offers (drop v ws)) rest ≡ slice_get (offers ws) place → slice_get ws v ≡ Some u → (let o = u.offered in rest < length o.items) → IsLocated ws place v rest
located ws place v rest u inv at low =
    let o = u.offered in
    let it = get_some o.items rest low in
    (u, it.0, at, it.1, sym inv ∙ ap (λ l. slice_get l rest) (offers_at ws v u at) ∙ get_first o.items (offers (drop (suc v) ws)) rest low ∙ it.1)

-- it is in a later one's
pub passed_by : (ws : List Worker) (place v rest next : ℕ) (u : Worker) → slice_get (offers (drop v ws)) rest ≡ slice_get (offers ws) place → slice_get ws v ≡ Some u → (let o = u.offered in length o.items ≤ rest) → next ≡ suc v
    → (let o = u.offered in slice_get (offers (drop next ws)) (rest - length o.items) ≡ slice_get (offers ws) place)
passed_by ws place v rest next u inv at low is =
    let o = u.offered in
    ap (λ n. slice_get (offers (drop n ws)) (rest - length o.items)) is ∙ sym (get_second o.items (offers (drop (suc v) ws)) rest low) ∙ ap (λ l. slice_get l rest) (sym (offers_at ws v u at)) ∙ inv
