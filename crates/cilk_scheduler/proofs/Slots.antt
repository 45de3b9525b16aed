-- Slots of what was offered, and their tally.
--
-- - `total`, `before`, `sought`: sums of the tally, and numbers of open offers;
-- - `at_standing`, `in_slot`: a slot, and its place among the open offers;
-- - `left`, `lowered`, `tallied_without`: an offer goes;
-- - `tallied_with`, `tallied_dead`, `none_tallied`: one more slot, and none.
use Rattle.std.proofs.Common.{◌≡◌, ◌+◌, ◌-◌, ◌<◌, ◌≤◌, ◌++◌, ◌⊎◌, inl, inr, ℕ, zero, suc, Bool, true, false, cond, List, [], ◌∷◌, length, map, take, set, sum, get_or, replicate, remove, slice_get, Some, None, refl, sym, ap, ◌∙◌, subst, arith}
use Rattle.std.proofs.lemmas.Bool.{cases_lt}
use Rattle.std.proofs.lemmas.List.{length-append, length-map, length-replicate, length-take-le, append_assoc, append-nil, map-append, map-set, take-append-le, take-map, set-append_left, set_at, get_or_at, get_or_append_left, get_or-append_right, take_more, take_all}
use Rattle.std.proofs.lemmas.Option.{get_or_from_slice_get}
use Rattle.std.proofs.lemmas.List.Sums.{sum_by-cons, sum_by-append}
use Rattle.cilk_scheduler.specs.Slots.{IsTallied, StandsIn, ahead, counted, standing}
use Rattle.cilk_scheduler.specs.declared.offer_list.Slot.{Slot}

one_more : (b : Bool) (f : ℕ) (rest : List ℕ) → cond b 1 0 + length rest ≡ length (cond b (f ∷ rest) rest)
one_more true f rest = omega arith
one_more false f rest = omega arith

counts : (slots : List Slot) → sum (map counted slots) ≡ length (standing slots)
counts [] = refl
counts (s ∷ slots) = sum_by-cons (λ (x : ℕ). x) (counted s) (map counted slots) ∙ ap (λ n. counted s + n) (counts slots) ∙ one_more s.stands s.frame (standing slots)

zeros : (n : ℕ) → sum (replicate n 0) ≡ 0
zeros zero = refl
zeros (suc n) = let more = sum_by-cons (λ (x : ℕ). x) 0 (replicate n 0) in let rest = zeros n in omega (arith, more, rest)

-- the sum of a tally is the number of open offers
pub total : (slots : List Slot) (tally : List ℕ) → IsTallied slots tally → sum tally ≡ length (standing slots)
total slots tally t =
    let both = sum_by-append (λ (x : ℕ). x) (map counted slots) (replicate t.spare 0) in
    let none = zeros t.spare in
    let all = counts slots in
    let is = ap sum t.is in
    omega (arith, both, none, all, is)

-- the sum before a slot is the number of open offers before it
pub before : (slots : List Slot) (tally : List ℕ) (at : ℕ) → IsTallied slots tally → at ≤ length slots → sum (take at tally) ≡ ahead slots at
before slots tally at t low =
    let len = length-map slots counted in
    ap (λ l. sum (take at l)) t.is ∙ ap sum (take-append-le at (map counted slots) (replicate t.spare 0) (omega (arith, low, len)) ∙ take-map counted at slots) ∙ counts (take at slots)

fewer : (b : Bool) (f n : ℕ) (rest : List ℕ) → length rest ≤ n → length (cond b (f ∷ rest) rest) ≤ suc n
fewer true f n rest h = omega (arith, h)
fewer false f n rest h = omega (arith, h)

pub standing_short : (slots : List Slot) → length (standing slots) ≤ length slots
standing_short [] = omega arith
standing_short (s ∷ slots) = fewer s.stands s.frame (length slots) (standing slots) (standing_short slots)

pub get_here : {A : Type 0} (xs : List A) (k : ℕ) → k < length xs → (x : A) × (slice_get xs k ≡ Some x)
get_here [] k h = absurd (omega (arith, h))
get_here (x ∷ xs) zero h = (x, refl)
get_here (x ∷ xs) (suc k) h = get_here xs k (omega (arith, h))

pub inside : {A : Type 0} (xs : List A) (k : ℕ) (x : A) → slice_get xs k ≡ Some x → k < length xs
inside [] k x e = let no : None ≡ Some x = e in let z : ⊥ = cc in absurd z
inside (y ∷ xs) zero x e = omega arith
inside (y ∷ xs) (suc k) x e = let h = inside xs k x e in omega (arith, h)

counted_at : (slots : List Slot) (at : ℕ) (s : Slot) → slice_get slots at ≡ Some s → get_or (map counted slots) at 0 ≡ counted s
counted_at [] at s e = let no : None ≡ Some s = e in let z : ⊥ = cc in absurd z
counted_at (x ∷ slots) zero s e = let same : Some x ≡ Some s = e in let is : x ≡ s = cc in ap counted is
counted_at (x ∷ slots) (suc at) s e = counted_at slots at s e

-- the tally at a slot
pub tally_at : (slots : List Slot) (tally : List ℕ) (at : ℕ) (s : Slot) → IsTallied slots tally → slice_get slots at ≡ Some s → get_or tally at 0 ≡ counted s
tally_at slots tally at s t here =
    let len = length-map slots counted in
    let low = inside slots at s here in
    ap (λ l. get_or l at 0) t.is ∙ get_or_append_left (map counted slots) (replicate t.spare 0) 0 at (omega (arith, len, low)) ∙ counted_at slots at s here

no_more : (slots : List Slot) (tally : List ℕ) (at : ℕ) → IsTallied slots tally → length slots ≤ at → get_or tally at 0 ≡ 0
no_more slots tally at t far =
    ap (λ l. get_or l at 0) t.is ∙ get_or-append_right (map counted slots) (replicate t.spare 0) (length slots) at 0 (length-map slots counted) far ∙ zero_at t.spare (at - length slots) where
      zero_at : (n i : ℕ) → get_or (replicate {A = ℕ} n 0) i 0 ≡ 0
      zero_at zero i = refl
      zero_at (suc n) zero = refl
      zero_at (suc n) (suc i) = zero_at n i

-- the slot that takes the sum above a place holds the offer there
pub sought : (slots : List Slot) (tally : List ℕ) (place at : ℕ) → IsTallied slots tally → sum (take at tally) ≤ place → place < sum (take at tally) + get_or tally at 0
    → (s : Slot) × (slice_get slots at ≡ Some s) × (s.stands ≡ true) × (ahead slots at ≡ place)
sought slots tally place at t least most = by (cases_lt at (length slots)) where
  stands : (b : Bool) → place < ahead slots at + cond b 1 0 → ahead slots at ≤ place → (b ≡ true) × (ahead slots at ≡ place)
  stands true h l = (refl, omega (arith, h, l))
  stands false h l = absurd (omega (arith, h, l))

  by : (at < length slots) ⊎ (length slots ≤ at) → (s : Slot) × (slice_get slots at ≡ Some s) × (s.stands ≡ true) × (ahead slots at ≡ place)
  by (inl low) =
      let it = get_here slots at low in
      let s = it.0 in
      let value = tally_at slots tally at s t it.1 in
      let first = before slots tally at t (omega (arith, low)) in
      let both = stands s.stands (omega (arith, value, first, most)) (omega (arith, first, least)) in
      (s, it.1, both.0, both.1)
  by (inr far) = let value = no_more slots tally at t far in absurd (omega (arith, value, least, most))

here_after : (b : Bool) (f y : ℕ) (rest first : List ℕ) → slice_get rest (length first) ≡ Some y → slice_get (cond b (f ∷ rest) rest) (length (cond b (f ∷ first) first)) ≡ Some y
here_after true f y rest first h = h
here_after false f y rest first h = h

first_stands : (b : Bool) (f : ℕ) (rest : List ℕ) → b ≡ true → cond b (f ∷ rest) rest ≡ f ∷ rest
first_stands true f rest e = refl
first_stands false f rest e = let z : ⊥ = cc in absurd z

-- the offer in a slot, among the open ones
pub at_standing : (slots : List Slot) (at : ℕ) (s : Slot) → slice_get slots at ≡ Some s → s.stands ≡ true → slice_get (standing slots) (ahead slots at) ≡ Some s.frame
at_standing [] at s e stands = let no : None ≡ Some s = e in let z : ⊥ = cc in absurd z
at_standing (x ∷ slots) zero s e stands =
    let same : Some x ≡ Some s = e in
    let is : x ≡ s = cc in
    ap (λ (z : Slot). slice_get (standing (z ∷ slots)) 0) is ∙ ap (λ l. slice_get l 0) (first_stands s.stands s.frame (standing slots) stands)
at_standing (x ∷ slots) (suc at) s e stands = here_after x.stands x.frame s.frame (standing slots) (standing (take at slots)) (at_standing slots at s e stands)

-- one of the open offers has a slot
pub in_slot : (slots : List Slot) (at k : ℕ) → slice_get (standing slots) at ≡ Some k → (j : ℕ) × StandsIn slots j k
in_slot [] at k e = let no : None ≡ Some k = e in let z : ⊥ = cc in absurd z
in_slot (s ∷ slots) at k e = by s.stands refl at e (λ (i : ℕ) h. in_slot slots i k h) where
  by : (b : Bool) → s.stands ≡ b → (i : ℕ) → slice_get (cond b (s.frame ∷ standing slots) (standing slots)) i ≡ Some k → ((i : ℕ) → slice_get (standing slots) i ≡ Some k → (j : ℕ) × StandsIn slots j k) → (j : ℕ) × StandsIn (s ∷ slots) j k
  by true is zero h rest = let same : Some s.frame ≡ Some k = h in let one : s.frame ≡ k = cc in (0, (s, refl, is, one))
  by true is (suc i) h rest = let g = rest i h in (suc g.0, g.1)
  by false is i h rest = let g = rest i h in (suc g.0, g.1)

-- its offer is closed
abbrev pub gone : Slot → Slot
gone s = record s { stands = false }

goes_after : (b : Bool) (f : ℕ) (rest first less : List ℕ) → less ≡ remove rest (length first) → cond b (f ∷ less) less ≡ remove (cond b (f ∷ rest) rest) (length (cond b (f ∷ first) first))
goes_after true f rest first less h = ap (λ l. f ∷ l) h
goes_after false f rest first less h = h

-- an offer leaves the open ones
pub left : (slots : List Slot) (at : ℕ) (s : Slot) → slice_get slots at ≡ Some s → s.stands ≡ true → standing (set slots at (gone s)) ≡ remove (standing slots) (ahead slots at)
left [] at s e stands = let no : None ≡ Some s = e in let z : ⊥ = cc in absurd z
left (x ∷ slots) zero s e stands =
    let same : Some x ≡ Some s = e in
    let is : x ≡ s = cc in
    sym (ap (λ (z : Slot). remove (standing (z ∷ slots)) 0) is ∙ ap (λ l. remove l 0) (first_stands s.stands s.frame (standing slots) stands))
left (x ∷ slots) (suc at) s e stands = goes_after x.stands x.frame (standing slots) (standing (take at slots)) (standing (set slots at (gone s))) (left slots at s e stands)

counted_once : (s : Slot) → s.stands ≡ true → counted s ≡ 1
counted_once s e = ap (λ b. cond b 1 0) e

-- the tally of what is left
pub lowered : (slots : List Slot) (tally : List ℕ) (at : ℕ) (s : Slot) → IsTallied slots tally → slice_get slots at ≡ Some s → s.stands ≡ true → IsTallied (set slots at (gone s)) (set tally at (get_or tally at 0 - 1))
lowered slots tally at s t here stands =
    let value = tally_at slots tally at s t here in
    let once = counted_once s stands in
    let none : get_or tally at 0 - 1 ≡ 0 = omega (arith, value, once) in
    let low = inside slots at s here in
    let len = length-map slots counted in
    record {
      spare = t.spare;
      is = ap (λ n. set tally at n) none ∙ ap (λ l. set l at 0) t.is ∙ set-append_left (map counted slots) (replicate t.spare 0) at 0 (omega (arith, low, len)) ∙ ap (λ l. l ++ replicate t.spare 0) (sym (map-set counted slots at (gone s)));
    }

-- the newest slot, whose offer is closed
pub standing_dead : (slots : List Slot) (s : Slot) → s.stands ≡ false → standing (slots ++ s ∷ []) ≡ standing slots
standing_dead [] s e = ap (λ b. cond b (s.frame ∷ []) []) e
standing_dead (x ∷ slots) s e = ap (λ l. cond x.stands (x.frame ∷ l) l) (standing_dead slots s e)

pub standing_push : (slots : List Slot) (s : Slot) → s.stands ≡ true → standing (slots ++ s ∷ []) ≡ standing slots ++ s.frame ∷ []
standing_push [] s e = ap (λ b. cond b (s.frame ∷ []) []) e
standing_push (x ∷ slots) s e = ap (λ l. cond x.stands (x.frame ∷ l) l) (standing_push slots s e) ∙ out x.stands where
  out : (b : Bool) → cond b (x.frame ∷ (standing slots ++ s.frame ∷ [])) (standing slots ++ s.frame ∷ []) ≡ cond b (x.frame ∷ standing slots) (standing slots) ++ s.frame ∷ []
  out true = refl
  out false = refl

map_push : (slots : List Slot) (s : Slot) (n : ℕ) → counted s ≡ n → (rest : List ℕ) → map counted (slots ++ s ∷ []) ++ rest ≡ map counted slots ++ n ∷ rest
map_push slots s n e rest = ap (λ l. l ++ rest) (map-append counted slots (s ∷ [])) ∙ append_assoc (map counted slots) (counted s ∷ []) rest ∙ ap (λ (k : ℕ). map counted slots ++ k ∷ rest) e

counted_none : (s : Slot) → s.stands ≡ false → counted s ≡ 0
counted_none s e = ap (λ b. cond b 1 0) e

pub tallied_without : (slots : List Slot) (s : Slot) (tally : List ℕ) → s.stands ≡ false → IsTallied (slots ++ s ∷ []) tally → IsTallied slots tally
tallied_without slots s tally e t = record { spare = suc t.spare; is = t.is ∙ map_push slots s 0 (counted_none s e) (replicate t.spare 0) }

some_spare : (slots : List Slot) (tally : List ℕ) → IsTallied slots tally → length slots < length tally → (n : ℕ) × (tally ≡ map counted slots ++ 0 ∷ replicate n 0)
some_spare slots tally t room = by t.spare t.is where
  by : (spare : ℕ) → tally ≡ map counted slots ++ replicate {A = ℕ} spare 0 → (n : ℕ) × (tally ≡ map counted slots ++ 0 ∷ replicate n 0)
  by zero is = let len = ap length is ∙ ap length (append-nil (map counted slots)) ∙ length-map slots counted in absurd (omega (arith, room, len))
  by (suc n) is = (n, is)

-- one more slot, whose offer is open
pub tallied_with : (slots : List Slot) (s : Slot) (tally : List ℕ) (at : ℕ) → s.stands ≡ true → IsTallied slots tally → length slots < length tally → at ≡ length slots → IsTallied (slots ++ s ∷ []) (set tally at (get_or tally at 0 + 1))
tallied_with slots s tally at e t room is =
    let g = some_spare slots tally t room in
    let rest = replicate {A = ℕ} g.0 0 in
    let len : length (map counted slots) ≡ at = length-map slots counted ∙ sym is in
    let value = ap (λ l. get_or l at 0) g.1 ∙ get_or_at (map counted slots) 0 rest 0 at len in
    let one : get_or tally at 0 + 1 ≡ 1 = omega (arith, value) in
    record {
      spare = g.0;
      is = ap (λ n. set tally at n) one ∙ ap (λ l. set l at 1) g.1 ∙ set_at (map counted slots) 0 rest 1 at len ∙ sym (map_push slots s 1 (counted_once s e) rest);
    }

-- one more slot, whose offer is closed
pub tallied_dead : (slots : List Slot) (s : Slot) (tally : List ℕ) → s.stands ≡ false → IsTallied slots tally → length slots < length tally → IsTallied (slots ++ s ∷ []) tally
tallied_dead slots s tally e t room =
    let g = some_spare slots tally t room in
    let rest = replicate {A = ℕ} g.0 0 in
    record { spare = g.0; is = g.1 ∙ sym (map_push slots s 0 (counted_none s e) rest) }

-- no slot yet
pub none_tallied : (n : ℕ) → IsTallied [] (replicate n 0)
none_tallied n = record { spare = n; is = refl }

pub tallied_long : (slots : List Slot) (tally : List ℕ) → IsTallied slots tally → length slots ≤ length tally
tallied_long slots tally t =
    let len = ap length t.is ∙ length-append (map counted slots) (replicate t.spare 0) in
    let some = length-map slots counted in
    omega (arith, len, some)

-- the result of a look-up
pub same_slot : (slots : List Slot) (at : ℕ) (d s : Slot) → d ≡ get_or slots at d → slice_get slots at ≡ Some s → d ≡ s
same_slot [] at d s e h = let no : None ≡ Some s = h in let z : ⊥ = cc in absurd z
same_slot (x ∷ slots) zero d s e h = let same : Some x ≡ Some s = h in cc
same_slot (x ∷ slots) (suc at) d s e h = same_slot slots at d s e h

-- a list and its last
pub with_last : (slots : List Slot) (s : Slot) → Some s ≡ slice_get slots (length slots - 1) → slots ≡ take (length slots - 1) slots ++ s ∷ []
with_last slots s e =
    let low = inside slots (length slots - 1) s (sym e) in
    let one : length slots - 1 + 1 ≡ length slots = omega (arith, low) in
    let more = take_more slots (length slots - 1) s low in
    let last : get_or slots (length slots - 1) s ≡ s = get_or_from_slice_get slots (length slots - 1) s s (sym e) in
    sym (take_all (length slots) slots (omega arith)) ∙ ap (λ n. take n slots) (sym one) ∙ more ∙ ap (λ z. take (length slots - 1) slots ++ z ∷ []) last

pub trimmed : (slots : List Slot) (s : Slot) → Some s ≡ slice_get slots (length slots - 1) → s.stands ≡ false → standing (take (length slots - 1) slots) ≡ standing slots
trimmed slots s e dead = sym (standing_dead (take (length slots - 1) slots) s dead) ∙ ap standing (sym (with_last slots s e))

pub trimmed_tally : (slots : List Slot) (s : Slot) (tally : List ℕ) → Some s ≡ slice_get slots (length slots - 1) → s.stands ≡ false → IsTallied slots tally → IsTallied (take (length slots - 1) slots) tally
trimmed_tally slots s tally e dead t = tallied_without (take (length slots - 1) slots) s tally dead (subst (λ l. IsTallied l tally) (with_last slots s e) t)

-- a slot that was looked at
pub not_in : (slots : List Slot) (at frame : ℕ) (d : Slot) → ((let s = get_or slots at d in s.stands) ≡ true → (let s = get_or slots at d in s.frame) ≡ frame → ⊥) → StandsIn slots at frame → ⊥
not_in slots at frame d other s =
    let same = get_or_from_slice_get slots at s.0 d s.1 in
    other (ap (λ (z : Slot). z.stands) same ∙ s.2) (ap (λ (z : Slot). z.frame) same ∙ s.3)
