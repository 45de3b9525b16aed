-- Which lines are read as orders: those that are spelled as orders.
--
-- - `number_read`, `number_spelled`: words that are numbers;
-- - `order_read`: a spelled order is read as it;
-- - `order_spelled`: what is read as an order is spelled as it;
-- - `not_silent`, `no_return`: such a line isn't empty, no comment, and doesn't end with a CR.
use Rattle.std.proofs.Common.{◌≡◌, ◌≢◌, ◌⊎◌, inl, inr, ◌^◌, ◌<◌, ◌≤◌, ℕ, zero, suc, Bool, true, false, cond, ◌&&◌, ◌||◌, eqb, leb, List, [], ◌∷◌, ◌++◌, length, replicate, Option, Some, None, refl, sym, ap, ap₂, ◌∙◌, subst, arith, rules, append-nil}
use Rattle.std.specs.Prelude.{codes}
use Rattle.std.specs.Fmt.{decimal}
use Rattle.std.specs.List.{AllByRecursion}
use Rattle.std.specs.Str.{bytes_eq}
use Rattle.std.proofs.lemmas.Bool.{and_from, and_parts, eqb-true, eqb-false, leb-true, le-leb, ltb-true, ne_eqb}
use Rattle.std.proofs.lemmas.Fmt.{decimal-digits_value, decimal_nonempty, digits_decimal, digits_value-decimal}
use Rattle.std.proofs.lemmas.Slice.Eq.{bytes_eq-Decides}
use Rattle.std.proofs.lemmas.Str.Parse.{IsNumeralModel, numerals_by_fold}
use Rattle.cilk_syntax.specs.Lexing.{all_digits, behind, belongs, front_of, is_digit, value_from, value_of}
use Rattle.cilk_syntax.specs.declared.lexer.Class.{Class}
use Rattle.cilk_syntax.specs.declared.lexer.Class.TheVariants.{Solid}
use Rattle.cilk_parser.specs.Scripts.{behind_word, is_empty, is_silent, number, order_in, run_order, steal_order, trimmed, word, words_order}
use Rattle.cilk_parser.specs.ScriptGrammar.{AreWords, GoesOn, SpellsNumber, SpellsWords, spaces}
use Rattle.cilk_parser.specs.declared.script.LineOrder.{LineOrder}
use Rattle.cilk_parser.specs.declared.script.LineOrder.TheVariants.{Run, Steal, All}
use Rattle.cilk_parser.specs.declared.script.TheConstants.{MAX_NUMBER}

own : IsNumeralModel (λ ds. all_digits ds ≡ true) (value_from 0)
own = numerals_by_fold _ (search rules) value_from (search rules)

pub chosen : {A : Type 0} (t : Bool) (x y : A) → t ≡ true → cond t x y ≡ x
chosen true x y h = refl
chosen false x y h = absurd cc

pub other : {A : Type 0} (t : Bool) (x y : A) → t ≡ false → cond t x y ≡ y
other true x y h = absurd cc
other false x y h = refl

-- ---- runs of bytes of a class

whole_step : (c : Class) (b : ℕ) (bs : List ℕ) (t : Bool) → front_of c bs ++ behind c bs ≡ bs → cond t (b ∷ front_of c bs) [] ++ cond t (behind c bs) (b ∷ bs) ≡ b ∷ bs
whole_step c b bs true h = ap (λ x. b ∷ x) h
whole_step c b bs false h = refl

-- a run and what is after it
pub front_behind : (c : Class) (bs : List ℕ) → front_of c bs ++ behind c bs ≡ bs
front_behind c [] = refl
front_behind c (b ∷ bs) = whole_step c b bs (belongs c b) (front_behind c bs)

abbrev pub IsSolid : List ℕ → Type 0
IsSolid word = AllByRecursion (λ b. belongs Solid b ≡ true) word

-- a solid byte isn't the first
abbrev pub Stops : List ℕ → Type 0
Stops [] = Unit {0}
Stops (b ∷ bs) = belongs Solid b ≡ false

stops_front : (l : List ℕ) → Stops l → front_of Solid l ≡ []
stops_front [] h = refl
stops_front (b ∷ bs) h = other (belongs Solid b) (b ∷ front_of Solid bs) [] h

stops_behind : (l : List ℕ) → Stops l → behind Solid l ≡ l
stops_behind [] h = refl
stops_behind (b ∷ bs) h = other (belongs Solid b) (behind Solid bs) (b ∷ bs) h

behind_step : (b : ℕ) (bs : List ℕ) (t : Bool) → belongs Solid b ≡ t → Stops (behind Solid bs) → Stops (cond t (behind Solid bs) (b ∷ bs))
behind_step b bs true h k = k
behind_step b bs false h k = h

behind_stops : (l : List ℕ) → Stops (behind Solid l)
behind_stops [] = tt
behind_stops (b ∷ bs) = behind_step b bs (belongs Solid b) refl (behind_stops bs)

front_step : (b : ℕ) (bs : List ℕ) (t : Bool) → belongs Solid b ≡ t → IsSolid (front_of Solid bs) → IsSolid (cond t (b ∷ front_of Solid bs) [])
front_step b bs true h k = (h, k)
front_step b bs false h k = tt

front_solid : (l : List ℕ) → IsSolid (front_of Solid l)
front_solid [] = tt
front_solid (b ∷ bs) = front_step b bs (belongs Solid b) refl (front_solid bs)

front_word : (w rest : List ℕ) → IsSolid w → Stops rest → front_of Solid (w ++ rest) ≡ w
front_word [] rest h s = stops_front rest s
front_word (b ∷ w) rest h s = chosen (belongs Solid b) (b ∷ front_of Solid (w ++ rest)) [] h.0 ∙ ap (λ x. b ∷ x) (front_word w rest h.1 s)

after_word : (w rest : List ℕ) → IsSolid w → Stops rest → behind Solid (w ++ rest) ≡ rest
after_word [] rest h s = stops_behind rest s
after_word (b ∷ w) rest h s = chosen (belongs Solid b) (behind Solid (w ++ rest)) (b ∷ (w ++ rest)) h.0 ∙ after_word w rest h.1 s

-- ---- spaces

first_is : (s a b c : Bool) → cond (s || a || b || c) false true ≡ true → s ≡ false
first_is true a b c h = absurd cc
first_is false a b c h = refl

last_is : (s a b c : Bool) → cond (s || a || b || c) false true ≡ true → c ≡ false
last_is false false false false h = refl
last_is false false false true h = absurd cc
last_is false false true c h = absurd cc
last_is false true b c h = absurd cc
last_is true a b c h = absurd cc

all_are : (s a b c : Bool) → s ≡ false → a ≡ false → b ≡ false → c ≡ false → cond (s || a || b || c) false true ≡ true
all_are false false false false h i j k = refl
all_are false false false true h i j k = absurd cc
all_are false false true c h i j k = absurd cc
all_are false true b c h i j k = absurd cc
all_are true a b c h i j k = absurd cc

no_space : (b : ℕ) → belongs Solid b ≡ true → eqb b 32 ≡ false
no_space b h = first_is (eqb b 32) (eqb b 9) (eqb b 10) (eqb b 13) h

spaced_step : (b : ℕ) (bs : List ℕ) (t : Bool) → eqb b 32 ≡ t → (n : ℕ) × (bs ≡ spaces n ++ trimmed bs) → (n : ℕ) × (b ∷ bs ≡ spaces n ++ cond t (trimmed bs) (b ∷ bs))
spaced_step b bs true h k = (suc k.0, ap₂ (λ (x : ℕ) (y : List ℕ). x ∷ y) (eqb-true b 32 h) k.1)
spaced_step b bs false h k = (0, refl)

spaced : (l : List ℕ) → (n : ℕ) × (l ≡ spaces n ++ trimmed l)
spaced [] = (0, refl)
spaced (b ∷ bs) = spaced_step b bs (eqb b 32) refl (spaced bs)

trimmed_spaces : (n : ℕ) (l : List ℕ) → trimmed (spaces n ++ l) ≡ trimmed l
trimmed_spaces zero l = refl
trimmed_spaces (suc n) l = trimmed_spaces n l

trimmed_end : (n : ℕ) → trimmed (spaces n) ≡ []
trimmed_end zero = refl
trimmed_end (suc n) = trimmed_end n

twice_step : (b : ℕ) (bs : List ℕ) (t : Bool) → eqb b 32 ≡ t → trimmed (trimmed bs) ≡ trimmed bs → trimmed (cond t (trimmed bs) (b ∷ bs)) ≡ cond t (trimmed bs) (b ∷ bs)
twice_step b bs true h k = k
twice_step b bs false h k = other (eqb b 32) (trimmed bs) (b ∷ bs) h

trimmed_twice : (l : List ℕ) → trimmed (trimmed l) ≡ trimmed l
trimmed_twice [] = refl
trimmed_twice (b ∷ bs) = twice_step b bs (eqb b 32) refl (trimmed_twice bs)

trimmed_word : (w rest : List ℕ) → IsSolid w → 0 < length w → trimmed (w ++ rest) ≡ w ++ rest
trimmed_word [] rest h k = absurd (omega (arith, k))
trimmed_word (b ∷ w) rest h k = other (eqb b 32) (trimmed (w ++ rest)) (b ∷ (w ++ rest)) (no_space b h.0)

stops_spaces : (n : ℕ) → Stops (spaces n)
stops_spaces zero = tt
stops_spaces (suc n) = refl

goes_stops : (words : List (List ℕ)) (bytes : List ℕ) → GoesOn words bytes → Stops bytes
goes_stops [] bytes h = subst Stops (sym h.1) (stops_spaces h.0)
goes_stops (w ∷ words) bytes h = subst Stops (sym h.2) refl

-- ---- words, one after another

abbrev pub IsWord : List ℕ → Type 0
IsWord w = IsSolid w × (0 < length w)

word_at : (n : ℕ) (line w rest : List ℕ) → line ≡ spaces n ++ (w ++ rest) → IsWord w → Stops rest → word line ≡ w
word_at n line w rest e h s = ap word e ∙ (ap (front_of Solid) (trimmed_spaces n (w ++ rest) ∙ trimmed_word w rest h.0 h.1) ∙ front_word w rest h.0 s)

rest_at : (n : ℕ) (line w rest : List ℕ) → line ≡ spaces n ++ (w ++ rest) → IsWord w → Stops rest → behind_word line ≡ rest
rest_at n line w rest e h s = ap behind_word e ∙ (ap (behind Solid) (trimmed_spaces n (w ++ rest) ∙ trimmed_word w rest h.0 h.1) ∙ after_word w rest h.0 s)

word_end : (bytes : List ℕ) → GoesOn [] bytes → word bytes ≡ []
word_end bytes h = ap word h.1 ∙ ap (front_of Solid) (trimmed_end h.0)

rest_end : (bytes : List ℕ) → GoesOn [] bytes → behind_word bytes ≡ []
rest_end bytes h = ap behind_word h.1 ∙ ap (behind Solid) (trimmed_end h.0)

words_read : (line verb first second : List ℕ) → word line ≡ verb → word (behind_word line) ≡ first → word (behind_word (behind_word line)) ≡ second → trimmed (behind_word (behind_word (behind_word line))) ≡ []
    → order_in line ≡ words_order verb first second
words_read line verb first second v f s e =
    chosen (is_empty (trimmed (behind_word (behind_word (behind_word line))))) (words_order (word line) (word (behind_word line)) (word (behind_word (behind_word line)))) None (ap is_empty e)
    ∙ (ap₂ (λ x y. words_order x y (word (behind_word (behind_word line)))) v f ∙ ap (λ z. words_order verb first z) s)

one_read : (line a : List ℕ) → IsWord a → SpellsWords (a ∷ []) line → order_in line ≡ words_order a [] []
one_read line a ha h =
    let r : behind_word line ≡ h.1 = rest_at h.0 line a h.1 h.2 ha (goes_stops [] h.1 h.3) in
    let r' : behind_word (behind_word line) ≡ [] = ap behind_word r ∙ rest_end h.1 h.3 in
    words_read line a [] [] (word_at h.0 line a h.1 h.2 ha (goes_stops [] h.1 h.3)) (ap word r ∙ word_end h.1 h.3) (ap word r') (ap (λ x. trimmed (behind_word x)) r')

two_read : (line a b : List ℕ) → IsWord a → IsWord b → SpellsWords (a ∷ b ∷ []) line → order_in line ≡ words_order a b []
two_read line a b ha hb h =
    let g = h.3 in
    let r : behind_word line ≡ h.1 = rest_at h.0 line a h.1 h.2 ha (goes_stops (b ∷ []) h.1 g) in
    let s : behind_word (behind_word line) ≡ g.1 = ap behind_word r ∙ rest_at (suc g.0) h.1 b g.1 g.2 hb (goes_stops [] g.1 g.3) in
    words_read line a b [] (word_at h.0 line a h.1 h.2 ha (goes_stops (b ∷ []) h.1 g)) (ap word r ∙ word_at (suc g.0) h.1 b g.1 g.2 hb (goes_stops [] g.1 g.3))
    (ap word s ∙ word_end g.1 g.3) (ap trimmed (ap behind_word s ∙ rest_end g.1 g.3))

three_read : (line a b c : List ℕ) → IsWord a → IsWord b → IsWord c → SpellsWords (a ∷ b ∷ c ∷ []) line → order_in line ≡ words_order a b c
three_read line a b c ha hb hc h =
    let g = h.3 in
    let i = g.3 in
    let r : behind_word line ≡ h.1 = rest_at h.0 line a h.1 h.2 ha (goes_stops (b ∷ c ∷ []) h.1 g) in
    let s : behind_word (behind_word line) ≡ g.1 = ap behind_word r ∙ rest_at (suc g.0) h.1 b g.1 g.2 hb (goes_stops (c ∷ []) g.1 i) in
    let t : behind_word (behind_word (behind_word line)) ≡ i.1 = ap behind_word s ∙ rest_at (suc i.0) g.1 c i.1 i.2 hc (goes_stops [] i.1 i.3) in
    words_read line a b c (word_at h.0 line a h.1 h.2 ha (goes_stops (b ∷ c ∷ []) h.1 g)) (ap word r ∙ word_at (suc g.0) h.1 b g.1 g.2 hb (goes_stops (c ∷ []) g.1 i))
    (ap word s ∙ word_at (suc i.0) g.1 c i.1 i.2 hc (goes_stops [] i.1 i.3)) (ap trimmed t ∙ (ap trimmed i.3.1 ∙ trimmed_end i.3.0))

-- ---- numbers

zeros_digits : (z : ℕ) (ds : List ℕ) → all_digits ds ≡ true → all_digits (replicate z 48 ++ ds) ≡ true
zeros_digits zero ds h = h
zeros_digits (suc z) ds h = zeros_digits z ds h

zeros_value : (z : ℕ) (ds : List ℕ) → value_from 0 (replicate z 48 ++ ds) ≡ value_from 0 ds
zeros_value zero ds = refl
zeros_value (suc z) ds = zeros_value z ds

longer : (z : ℕ) (ds : List ℕ) → 0 < length ds → 0 < length (replicate z 48 ++ ds)
longer zero ds h = h
longer (suc z) ds h = omega arith

digit_solid : (d : ℕ) → is_digit d ≡ true → belongs Solid d ≡ true
digit_solid d h =
    let low : 47 < d = ltb-true 47 d (and_parts _ _ h).0 in
    all_are (eqb d 32) (eqb d 9) (eqb d 10) (eqb d 13) (ne_eqb d 32 (λ e. omega (arith, low, e))) (ne_eqb d 9 (λ e. omega (arith, low, e))) (ne_eqb d 10 (λ e. omega (arith, low, e))) (ne_eqb d 13 (λ e. omega (arith, low, e)))

digits_solid : (ds : List ℕ) → all_digits ds ≡ true → IsSolid ds
digits_solid [] h = tt
digits_solid (d ∷ ds) h = let p = and_parts (is_digit d) (all_digits ds) h in (digit_solid d p.0, digits_solid ds p.1)

number_is : (ds : List ℕ) (n : ℕ) → 0 < length ds → all_digits ds ≡ true → value_of ds ≡ n → n ≤ MAX_NUMBER → number ds ≡ Some n
number_is [] n k h e m = absurd (omega (arith, k))
number_is (d ∷ ds) n k h e m =
    let small : leb (value_of (d ∷ ds)) MAX_NUMBER ≡ true = le-leb (value_of (d ∷ ds)) MAX_NUMBER (subst (λ x. x ≤ MAX_NUMBER) (sym e) m) in
    chosen (all_digits (d ∷ ds) && leb (value_of (d ∷ ds)) MAX_NUMBER) (Some (value_of (d ∷ ds))) None (and_from (all_digits (d ∷ ds)) (leb (value_of (d ∷ ds)) MAX_NUMBER) h small) ∙ ap (λ x. Some x) e

small_enough : (n : ℕ) → n ≤ MAX_NUMBER → n < 2 ^ 64
small_enough n h = omega (arith, h)

-- a word that spells a number is read as it
pub number_read : (n : ℕ) (w : List ℕ) → SpellsNumber n w → number w ≡ Some n
number_read n w h =
    let small = small_enough n h.2 in
    ap number h.1 ∙ number_is (replicate h.0 48 ++ decimal n) n (longer h.0 (decimal n) (decimal_nonempty n small)) (zeros_digits h.0 (decimal n) (digits_decimal own n small))
    (zeros_value h.0 (decimal n) ∙ digits_value-decimal own n small) h.2

pub number_word : (n : ℕ) (w : List ℕ) → SpellsNumber n w → IsWord w
number_word n w h =
    let small = small_enough n h.2 in
    subst IsWord (sym h.1) (digits_solid (replicate h.0 48 ++ decimal n) (zeros_digits h.0 (decimal n) (digits_decimal own n small)), longer h.0 (decimal n) (decimal_nonempty n small))

-- digits are zeros and the decimal digits of their value
without_zeros : (ds : List ℕ) → 0 < length ds → all_digits ds ≡ true → value_of ds < 2 ^ 64 → (z : ℕ) × (ds ≡ replicate z 48 ++ decimal (value_of ds))
without_zeros [] k h m = absurd (omega (arith, k))
without_zeros (d ∷ []) k h m = (0, sym (decimal-digits_value own (d ∷ []) h (omega arith) (λ e. refl) m))
without_zeros (d ∷ e ∷ ds) k h m = without_step d e ds (eqb d 48) refl h m (λ i j. without_zeros (e ∷ ds) (omega arith) i j)
  where
    zero_first : (x : ℕ) (l : List ℕ) → x ≡ 48 → value_of (x ∷ l) ≡ value_of l
    zero_first x l q = ap (λ y. value_of (y ∷ l)) q

    without_step : (x y : ℕ) (l : List ℕ) (t : Bool) → eqb x 48 ≡ t → all_digits (x ∷ y ∷ l) ≡ true → value_of (x ∷ y ∷ l) < 2 ^ 64
        → (all_digits (y ∷ l) ≡ true → value_of (y ∷ l) < 2 ^ 64 → (z : ℕ) × (y ∷ l ≡ replicate z 48 ++ decimal (value_of (y ∷ l)))) → (z : ℕ) × (x ∷ y ∷ l ≡ replicate z 48 ++ decimal (value_of (x ∷ y ∷ l)))
    without_step x y l true q a b ih =
        let is : x ≡ 48 = eqb-true x 48 q in
        let v : value_of (x ∷ y ∷ l) ≡ value_of (y ∷ l) = zero_first x (y ∷ l) is in
        let r = ih (and_parts (is_digit x) (all_digits (y ∷ l)) a).1 (subst (λ u. u < 2 ^ 64) v b) in
        (suc r.0, ap₂ (λ (u : ℕ) (s : List ℕ). u ∷ s) is r.1 ∙ ap (λ u. 48 ∷ (replicate r.0 48 ++ decimal u)) (sym v))
    without_step x y l false q a b ih = (0, sym (decimal-digits_value own (x ∷ y ∷ l) a (omega arith) (λ z. absurd (eqb-false x 48 q z)) b))

number_parts : (ds : List ℕ) (n : ℕ) → number ds ≡ Some n → (0 < length ds) × (all_digits ds ≡ true) × (value_of ds ≡ n) × (n ≤ MAX_NUMBER)
number_parts [] n h = absurd cc
number_parts (d ∷ ds) n h = picked (all_digits (d ∷ ds)) (leb (value_of (d ∷ ds)) MAX_NUMBER) refl refl h where
  picked : (a b : Bool) → all_digits (d ∷ ds) ≡ a → leb (value_of (d ∷ ds)) MAX_NUMBER ≡ b → cond (a && b) (Some (value_of (d ∷ ds))) None ≡ Some n → (0 < length (d ∷ ds)) × (all_digits (d ∷ ds) ≡ true) × (value_of (d ∷ ds) ≡ n) × (n ≤ MAX_NUMBER)
  picked true true p q r = let is : value_of (d ∷ ds) ≡ n = cc in (omega arith, p, is, subst (λ x. x ≤ MAX_NUMBER) is (leb-true (value_of (d ∷ ds)) MAX_NUMBER q))
  picked true false p q r = absurd cc
  picked false b p q r = absurd cc

-- a word that is read as a number spells it
pub number_spelled : (n : ℕ) (w : List ℕ) → number w ≡ Some n → SpellsNumber n w
number_spelled n w h =
    let p = number_parts w n h in
    let r = without_zeros w p.0 p.1 (subst (λ x. x < 2 ^ 64) (sym p.2) (small_enough n p.3)) in
    (r.0, r.1 ∙ ap (λ x. replicate r.0 48 ++ decimal x) p.2, p.3)

-- ---- a spelled order is read

run_is : (a c : Option ℕ) (w n : ℕ) → a ≡ Some w → c ≡ Some n → 1 ≤ w → 1 ≤ n → run_order a c ≡ Some (Run w n)
run_is a c zero n e f h k = absurd (omega (arith, h))
run_is a c (suc w) zero e f h k = absurd (omega (arith, k))
run_is a c (suc w) (suc n) e f h k = ap₂ run_order e f

steal_is : (a c : Option ℕ) (w k : ℕ) → a ≡ Some w → c ≡ Some k → 1 ≤ w → steal_order a c ≡ Some (Steal w k)
steal_is a c zero k e f h = absurd (omega (arith, h))
steal_is a c (suc w) k e f h = ap₂ steal_order e f

nonempty : (l : List ℕ) → 0 < length l → is_empty l ≡ false
nonempty [] h = absurd (omega (arith, h))
nonempty (b ∷ l) h = refl

all_word : IsWord (codes "all")
all_word = ((refl, (refl, (refl, tt))), omega arith)

run_word : IsWord (codes "run")
run_word = ((refl, (refl, (refl, tt))), omega arith)

steal_word : IsWord (codes "steal")
steal_word = ((refl, (refl, (refl, (refl, (refl, tt))))), omega arith)

pub order_read : (order : LineOrder) (words : List (List ℕ)) (line : List ℕ) → AreWords order words → SpellsWords words line → order_in line ≡ Some order
order_read All words line h s = one_read line (codes "all") all_word (subst (λ ws. SpellsWords ws line) h s)
order_read (Run w n) words line h s = by h.4 where
  by : ((n ≡ 1) × (words ≡ codes "run" ∷ h.0 ∷ [])) ⊎ ((second : List ℕ) × SpellsNumber n second × (words ≡ codes "run" ∷ h.0 ∷ second ∷ [])) → order_in line ≡ Some (Run w n)
  by (inl k) = two_read line (codes "run") h.0 run_word (number_word w h.0 h.1) (subst (λ ws. SpellsWords ws line) k.1 s) ∙ run_is (number h.0) (Some 1) w n (number_read w h.0 h.1) (ap (λ x. Some x) (sym k.0)) h.2 h.3
  by (inr k) =
      three_read line (codes "run") h.0 k.0 run_word (number_word w h.0 h.1) (number_word n k.0 k.1) (subst (λ ws. SpellsWords ws line) k.2 s)
      ∙ run_is (number h.0) (cond (is_empty k.0) (Some 1) (number k.0)) w n (number_read w h.0 h.1) (other (is_empty k.0) (Some 1) (number k.0) (nonempty k.0 (number_word n k.0 k.1).1) ∙ number_read n k.0 k.1) h.2 h.3
order_read (Steal w k) words line h s =
    three_read line (codes "steal") h.0 h.1 steal_word (number_word w h.0 h.2) (number_word k h.1 h.3) (subst (λ ws. SpellsWords ws line) h.5 s)
    ∙ steal_is (number h.0) (number h.1) w k (number_read w h.0 h.2) (number_read k h.1 h.3) h.4

-- ---- what is read as an order is spelled

-- the forms of up to three words
pub data HasForm (verb first second : List ℕ) : LineOrder → Type 0 where
  AllForm : verb ≡ codes "all" → first ≡ [] → HasForm verb first second All
  RunForm : (w : ℕ) → verb ≡ codes "run" → number first ≡ Some w → 1 ≤ w → second ≡ [] → HasForm verb first second (Run w 1)
  RunsForm : (w n : ℕ) → verb ≡ codes "run" → number first ≡ Some w → number second ≡ Some n → 1 ≤ w → 1 ≤ n → HasForm verb first second (Run w n)
  StealForm : (w k : ℕ) → verb ≡ codes "steal" → number first ≡ Some w → number second ≡ Some k → 1 ≤ w → HasForm verb first second (Steal w k)

run_form : (verb first second : List ℕ) (a c : Option ℕ) (order : LineOrder) → verb ≡ codes "run" → number first ≡ a → cond (is_empty second) (Some 1) (number second) ≡ c → run_order a c ≡ Some order → HasForm verb first second order
run_form verb first second None c order v f s h = absurd cc
run_form verb first second (Some zero) c order v f s h = absurd cc
run_form verb first second (Some (suc w)) None order v f s h = absurd cc
run_form verb first second (Some (suc w)) (Some zero) order v f s h = absurd cc
run_form verb first [] (Some (suc w)) (Some (suc n)) order v f s h =
    let is : order ≡ Run (suc w) (suc n) = cc in
    let one : suc n ≡ 1 = cc in
    subst (λ o. HasForm verb first [] o) (sym (is ∙ ap (λ x. Run (suc w) x) one)) (RunForm (suc w) v f (omega arith) refl)
run_form verb first (b ∷ bs) (Some (suc w)) (Some (suc n)) order v f s h =
    let is : order ≡ Run (suc w) (suc n) = cc in
    subst (λ o. HasForm verb first (b ∷ bs) o) (sym is) (RunsForm (suc w) (suc n) v f s (omega arith) (omega arith))

steal_form : (verb first second : List ℕ) (a c : Option ℕ) (order : LineOrder) → verb ≡ codes "steal" → number first ≡ a → number second ≡ c → steal_order a c ≡ Some order → HasForm verb first second order
steal_form verb first second None c order v f s h = absurd cc
steal_form verb first second (Some zero) c order v f s h = absurd cc
steal_form verb first second (Some (suc w)) None order v f s h = absurd cc
steal_form verb first second (Some (suc w)) (Some k) order v f s h =
    let is : order ≡ Steal (suc w) k = cc in
    subst (λ o. HasForm verb first second o) (sym is) (StealForm (suc w) k v f s (omega arith))

all_form : (verb first second : List ℕ) (order : LineOrder) → verb ≡ codes "all" → cond (is_empty first) (Some All) None ≡ Some order → HasForm verb first second order
all_form verb [] second order v h = let is : order ≡ All = cc in subst (λ o. HasForm verb [] second o) (sym is) (AllForm v refl)
all_form verb (b ∷ bs) second order v h = absurd cc

form_of : (verb first second : List ℕ) (order : LineOrder) → words_order verb first second ≡ Some order → HasForm verb first second order
form_of verb first second order h = picked (bytes_eq verb (codes "all")) (bytes_eq verb (codes "run")) (bytes_eq verb (codes "steal")) refl refl refl h where
  picked : (a b c : Bool) → bytes_eq verb (codes "all") ≡ a → bytes_eq verb (codes "run") ≡ b → bytes_eq verb (codes "steal") ≡ c
      → cond a (cond (is_empty first) (Some All) None) (cond b (run_order (number first) (cond (is_empty second) (Some 1) (number second))) (cond c (steal_order (number first) (number second)) None)) ≡ Some order → HasForm verb first second order
  picked true b c p q r k = all_form verb first second order ((bytes_eq-Decides verb (codes "all")).0 p) k
  picked false true c p q r k = run_form verb first second (number first) (cond (is_empty second) (Some 1) (number second)) order ((bytes_eq-Decides verb (codes "run")).0 q) refl refl k
  picked false false true p q r k = steal_form verb first second (number first) (number second) order ((bytes_eq-Decides verb (codes "steal")).0 r) refl refl k
  picked false false false p q r k = absurd cc

begins : (line : List ℕ) → (n : ℕ) × (line ≡ spaces n ++ (word line ++ behind_word line))
begins line = let s = spaced line in (s.0, s.1 ∙ ap (λ x. spaces s.0 ++ x) (sym (front_behind Solid (trimmed line))))

gap : (n : ℕ) (l w rest : List ℕ) → Stops l → IsSolid w → 0 < length w → l ≡ spaces n ++ (w ++ rest) → (m : ℕ) × (l ≡ spaces (suc m) ++ (w ++ rest))
gap zero l [] rest s h k e = absurd (omega (arith, k))
gap zero l (b ∷ w) rest s h k e = let no : belongs Solid b ≡ false = subst Stops e s in let yes = h.0 in absurd cc
gap (suc n) l w rest s h k e = (n, e)

-- the next word, after a word
next : (l : List ℕ) → 0 < length (word (behind_word l)) → (m : ℕ) × (behind_word l ≡ spaces (suc m) ++ (word (behind_word l) ++ behind_word (behind_word l)))
next l k = let b = begins (behind_word l) in gap b.0 (behind_word l) (word (behind_word l)) (behind_word (behind_word l)) (behind_stops (trimmed l)) (front_solid (trimmed (behind_word l))) k b.1

only_spaces : (l : List ℕ) → trimmed l ≡ [] → GoesOn [] l
only_spaces l h = let s = spaced l in (s.0, s.1 ∙ (ap (λ x. spaces s.0 ++ x) h ∙ append-nil (spaces s.0)))

-- where no word is left, nothing is
passes : (l : List ℕ) → word l ≡ [] → trimmed (behind_word l) ≡ trimmed l
passes l h = ap trimmed (sym (ap (λ x. x ++ behind_word l) h) ∙ front_behind Solid (trimmed l)) ∙ trimmed_twice l

no_more : (l : List ℕ) → word l ≡ [] → word (behind_word l) ≡ []
no_more l h = ap (front_of Solid) (passes l h) ∙ h

longer_than : (a b : List ℕ) → a ≡ b → 0 < length b → 0 < length a
longer_than a b e h = subst (λ x. 0 < length x) (sym e) h

-- a line of one, two or three words
one_spelled : (line a : List ℕ) → word line ≡ a → word (behind_word line) ≡ [] → trimmed (behind_word (behind_word (behind_word line))) ≡ [] → SpellsWords (a ∷ []) line
one_spelled line a e f h =
    let r1 = behind_word line in
    let r2 = behind_word r1 in
    let b = begins line in
    let left : trimmed r1 ≡ [] = sym (passes r2 (no_more r1 f) ∙ passes r1 f) ∙ h in
    (b.0, r1, b.1 ∙ ap (λ x. spaces b.0 ++ (x ++ r1)) e, only_spaces r1 left)

two_spelled : (line a c : List ℕ) → word line ≡ a → word (behind_word line) ≡ c → 0 < length c → word (behind_word (behind_word line)) ≡ [] → trimmed (behind_word (behind_word (behind_word line))) ≡ [] → SpellsWords (a ∷ c ∷ []) line
two_spelled line a c e f k g h =
    let r1 = behind_word line in
    let r2 = behind_word r1 in
    let b = begins line in
    let n = next line (longer_than (word r1) c f k) in
    (b.0, r1, b.1 ∙ ap (λ x. spaces b.0 ++ (x ++ r1)) e, (n.0, r2, n.1 ∙ ap (λ x. spaces (suc n.0) ++ (x ++ r2)) f, only_spaces r2 (sym (passes r2 g) ∙ h)))

three_spelled : (line a c d : List ℕ) → word line ≡ a → word (behind_word line) ≡ c → 0 < length c → word (behind_word (behind_word line)) ≡ d → 0 < length d → trimmed (behind_word (behind_word (behind_word line))) ≡ []
    → SpellsWords (a ∷ c ∷ d ∷ []) line
three_spelled line a c d e f k g m h =
    let r1 = behind_word line in
    let r2 = behind_word r1 in
    let r3 = behind_word r2 in
    let b = begins line in
    let n = next line (longer_than (word r1) c f k) in
    let o = next r1 (longer_than (word r2) d g m) in (
      b.0,
      r1,
      b.1 ∙ ap (λ x. spaces b.0 ++ (x ++ r1)) e,
      (n.0, r2, n.1 ∙ ap (λ x. spaces (suc n.0) ++ (x ++ r2)) f, (o.0, r3, o.1 ∙ ap (λ x. spaces (suc o.0) ++ (x ++ r3)) g, only_spaces r3 h)),
    )

form_spelled : (line : List ℕ) (order : LineOrder) → HasForm (word line) (word (behind_word line)) (word (behind_word (behind_word line))) order → trimmed (behind_word (behind_word (behind_word line))) ≡ []
    → (words : List (List ℕ)) × AreWords order words × SpellsWords words line
form_spelled line order (AllForm v f) h = (codes "all" ∷ [], refl, one_spelled line (codes "all") v f h)
form_spelled line order (RunForm w v f k s) h =
    let first = word (behind_word line) in
    let sp = number_spelled w first f in
    (codes "run" ∷ first ∷ [], (first, sp, k, omega arith, inl (refl, refl)), two_spelled line (codes "run") first v refl (number_word w first sp).1 s h)
form_spelled line order (RunsForm w n v f s k m) h =
    let first = word (behind_word line) in
    let second = word (behind_word (behind_word line)) in
    let sp = number_spelled w first f in
    let sq = number_spelled n second s in
    (codes "run" ∷ first ∷ second ∷ [], (first, sp, k, m, inr (second, sq, refl)), three_spelled line (codes "run") first second v refl (number_word w first sp).1 refl (number_word n second sq).1 h)
form_spelled line order (StealForm w n v f s k) h =
    let first = word (behind_word line) in
    let second = word (behind_word (behind_word line)) in
    let sp = number_spelled w first f in
    let sq = number_spelled n second s in
    (codes "steal" ∷ first ∷ second ∷ [], (first, second, sp, sq, k, refl), three_spelled line (codes "steal") first second v refl (number_word w first sp).1 refl (number_word n second sq).1 h)

empty_is : (l : List ℕ) → is_empty l ≡ true → l ≡ []
empty_is [] h = refl
empty_is (b ∷ l) h = absurd cc

pub order_spelled : (line : List ℕ) (order : LineOrder) → order_in line ≡ Some order → (words : List (List ℕ)) × AreWords order words × SpellsWords words line
order_spelled line order h = picked (is_empty (trimmed (behind_word (behind_word (behind_word line))))) refl h where
  picked : (t : Bool) → is_empty (trimmed (behind_word (behind_word (behind_word line)))) ≡ t
      → cond t (words_order (word line) (word (behind_word line)) (word (behind_word (behind_word line)))) None ≡ Some order → (words : List (List ℕ)) × AreWords order words × SpellsWords words line
  picked true e k = form_spelled line order (form_of (word line) (word (behind_word line)) (word (behind_word (behind_word line))) order k) (empty_is _ e)
  picked false e k = absurd cc

-- ---- a spelled line isn't silent, and no CR is in it

loud : (n : ℕ) (line rest : List ℕ) → line ≡ spaces n ++ rest → is_silent rest ≡ false → is_silent line ≡ false
loud zero line rest e h = ap is_silent e ∙ h
loud (suc n) line rest e h = ap is_silent e

pub not_silent : (order : LineOrder) (words : List (List ℕ)) (line : List ℕ) → AreWords order words → SpellsWords words line → is_silent line ≡ false
not_silent All words line h s = let k = subst (λ ws. SpellsWords ws line) h s in loud k.0 line (codes "all" ++ k.1) k.2 refl
not_silent (Run w n) words line h s = by h.4 where
  by : ((n ≡ 1) × (words ≡ codes "run" ∷ h.0 ∷ [])) ⊎ ((second : List ℕ) × SpellsNumber n second × (words ≡ codes "run" ∷ h.0 ∷ second ∷ [])) → is_silent line ≡ false
  by (inl k) = let q = subst (λ ws. SpellsWords ws line) k.1 s in loud q.0 line (codes "run" ++ q.1) q.2 refl
  by (inr k) = let q = subst (λ ws. SpellsWords ws line) k.2 s in loud q.0 line (codes "run" ++ q.1) q.2 refl
not_silent (Steal w n) words line h s = let k = subst (λ ws. SpellsWords ws line) h.5 s in loud k.0 line (codes "steal" ++ k.1) k.2 refl

abbrev HasNoCr : List ℕ → Type 0
HasNoCr l = AllByRecursion (λ b. b ≢ 13) l

both_quiet : (a b : List ℕ) → HasNoCr a → HasNoCr b → HasNoCr (a ++ b)
both_quiet [] b h k = k
both_quiet (x ∷ a) b h k = (h.0, both_quiet a b h.1 k)

spaces_quiet : (n : ℕ) → HasNoCr (spaces n)
spaces_quiet zero = tt
spaces_quiet (suc n) = (λ e. absurd (omega (arith, e)), spaces_quiet n)

byte_quiet : (b : ℕ) → belongs Solid b ≡ true → b ≢ 13
byte_quiet b h e = eqb-false b 13 (last_is (eqb b 32) (eqb b 9) (eqb b 10) (eqb b 13) h) e

solid_quiet : (w : List ℕ) → IsSolid w → HasNoCr w
solid_quiet [] h = tt
solid_quiet (b ∷ w) h = (byte_quiet b h.0, solid_quiet w h.1)

goes_quiet : (words : List (List ℕ)) (bytes : List ℕ) → AllByRecursion IsSolid words → GoesOn words bytes → HasNoCr bytes
goes_quiet [] bytes h g = subst HasNoCr (sym g.1) (spaces_quiet g.0)
goes_quiet (w ∷ words) bytes h g = subst HasNoCr (sym g.2) (both_quiet (spaces (suc g.0)) (w ++ g.1) (spaces_quiet (suc g.0)) (both_quiet w g.1 (solid_quiet w h.0) (goes_quiet words g.1 h.1 g.3)))

words_quiet : (words : List (List ℕ)) (line : List ℕ) → AllByRecursion IsSolid words → SpellsWords words line → HasNoCr line
words_quiet [] line h s = absurd s
words_quiet (w ∷ words) line h s = subst HasNoCr (sym s.2) (both_quiet (spaces s.0) (w ++ s.1) (spaces_quiet s.0) (both_quiet w s.1 (solid_quiet w h.0) (goes_quiet words s.1 h.1 s.3)))

order_quiet : (order : LineOrder) (words : List (List ℕ)) → AreWords order words → AllByRecursion IsSolid words
order_quiet All words h = subst (λ ws. AllByRecursion IsSolid ws) (sym h) (all_word.0, tt)
order_quiet (Run w n) words h = by h.4 where
  by : ((n ≡ 1) × (words ≡ codes "run" ∷ h.0 ∷ [])) ⊎ ((second : List ℕ) × SpellsNumber n second × (words ≡ codes "run" ∷ h.0 ∷ second ∷ [])) → AllByRecursion IsSolid words
  by (inl k) = subst (λ ws. AllByRecursion IsSolid ws) (sym k.1) (run_word.0, ((number_word w h.0 h.1).0, tt))
  by (inr k) = subst (λ ws. AllByRecursion IsSolid ws) (sym k.2) (run_word.0, ((number_word w h.0 h.1).0, ((number_word n k.0 k.1).0, tt)))
order_quiet (Steal w n) words h = subst (λ ws. AllByRecursion IsSolid ws) (sym h.5) (steal_word.0, ((number_word w h.0 h.2).0, ((number_word n h.1 h.3).0, tt)))

quiet_end : (l : List ℕ) → HasNoCr (l ++ 13 ∷ []) → ⊥
quiet_end [] h = h.0 refl
quiet_end (b ∷ l) h = quiet_end l h.1

pub no_return : (order : LineOrder) (words : List (List ℕ)) (l : List ℕ) → AreWords order words → SpellsWords words (l ++ 13 ∷ []) → ⊥
no_return order words l h s = quiet_end l (words_quiet words (l ++ 13 ∷ []) (order_quiet order words h) s)
