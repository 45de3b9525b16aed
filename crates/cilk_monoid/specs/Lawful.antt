-- The five monoids are lawful.
use Rattle.std.specs.Prelude.{◌≡◌, Bool, true, false, cond, int_lt, ◌<◌, ◌^◌, ℤ, pos, negsuc, ◌+ℤ◌, ◌*ℤ◌, [], refl}
use Rattle.std.specs.Int.{int_max, int_min, int_wrap, w64}
use Rattle.std.proofs.Common.{ap, sym, ◌∙◌, arith, append_assoc, lit<}
use Rattle.std.proofs.lemmas.Int.{ints, clamps, int_wrap_fits, int_wrap-add_left, int_wrap-add_right, int_wrap-add_same, int_wrap-mul_left, int_wrap-mul_right, SFits-int_wrap}
use Rattle.std.proofs.lemmas.List.Elements.{All-nil, All-cons, All-append}
use lib.IntN.{one, +ℤ_assoc, *ℤ_comm, *ℤ-one, *ℤ-zero}
use lib.Signed.{mag}
use Rattle.std.proofs.lemmas.Grind.{common_steps}
use Rattle.cilk_types.specs.Word.{word_of, IsWord}
use Rattle.cilk_monoid.specs.declared.kind.MonoidKind.{MonoidKind}
use Rattle.cilk_monoid.specs.declared.kind.MonoidKind.TheVariants.{Add, Least, Greatest, Append, Affine}
use Rattle.cilk_monoid.specs.Kinds.{structure_of, on_numbers, appended, composed, number_of, size_of, IsNumber, IsList, IsMap, IsMember}
use Rattle.cilk_monoid.specs.Laws.{IsLawful}
use Rattle.cilk_monoid.specs.Rings.{times_assoc, times-sum}
use Rattle.cilk_monoid.specs.Values.{ViewValue, Number, Elements, Map}

-- an integer that is small enough is a word
fits : {z : ℤ} → mag z < 2 ^ 63 → IsWord z
fits h = record { sfits = h }

-- an operation on words with a neutral element
module _ (f : ℤ → ℤ → ℤ) (u : ℤ) (unit : IsWord u) (closed : (a b : ℤ) → IsWord a → IsWord b → IsWord (f a b)) (left : (z : ℤ) → IsWord z → f u z ≡ z) (right : (z : ℤ) → IsWord z → f z u ≡ z) (assoc : (a b c : ℤ) → f (f a b) c ≡ f a (f b c)) where
  number_combine : (a b : ViewValue) → IsNumber a → IsNumber b → IsNumber (on_numbers f a b)
  number_combine (Number a) (Number b) h k = closed a b h k
  number_combine (Number a) (Elements b) h k = absurd k
  number_combine (Number a) (Map b c) h k = absurd k
  number_combine (Elements a) b h k = absurd h
  number_combine (Map a b) c h k = absurd h

  number_left : (v : ViewValue) → IsNumber v → on_numbers f (Number u) v ≡ v
  number_left (Number z) h = ap Number (left z h)
  number_left (Elements zs) h = absurd h
  number_left (Map a b) h = absurd h

  number_right : (v : ViewValue) → IsNumber v → on_numbers f v (Number u) ≡ v
  number_right (Number z) h = ap Number (right z h)
  number_right (Elements zs) h = absurd h
  number_right (Map a b) h = absurd h

  number_assoc : (a b c : ViewValue) → IsNumber a → IsNumber b → IsNumber c → on_numbers f (on_numbers f a b) c ≡ on_numbers f a (on_numbers f b c)
  number_assoc (Number a) (Number b) (Number c) h k l = ap Number (assoc a b c)
  number_assoc (Number a) (Number b) (Elements c) h k l = absurd l
  number_assoc (Number a) (Number b) (Map c d) h k l = absurd l
  number_assoc (Number a) (Elements b) c h k l = absurd k
  number_assoc (Number a) (Map b c) d h k l = absurd k
  number_assoc (Elements a) b c h k l = absurd h
  number_assoc (Map a b) c d h k l = absurd h

  numbers_lawful : IsLawful (record { unit = Number u; combine = on_numbers f; single = Number; number = number_of; size = size_of }) IsNumber
  numbers_lawful = record {
    unit_member = unit;
    single_member = λ x h. h;
    combine_member = number_combine;
    left_neutral = number_left;
    right_neutral = number_right;
    associative = number_assoc;
  }

sum_left : (z : ℤ) → IsWord z → word_of (pos 0 +ℤ z) ≡ z
sum_left z h = ap (int_wrap w64) (omega (arith, ints)) ∙ int_wrap_fits w64 z h

sum_right : (z : ℤ) → IsWord z → word_of (z +ℤ pos 0) ≡ z
sum_right z h = ap (int_wrap w64) (omega (arith, ints)) ∙ int_wrap_fits w64 z h

sum_assoc : (a b c : ℤ) → word_of (word_of (a +ℤ b) +ℤ c) ≡ word_of (a +ℤ word_of (b +ℤ c))
sum_assoc a b c = int_wrap-add_left w64 (a +ℤ b) c ∙ ap (int_wrap w64) (omega (arith, ints)) ∙ sym (int_wrap-add_right w64 a (b +ℤ c))

least_closed : (a b : ℤ) → IsWord a → IsWord b → IsWord (int_min a b)
least_closed a b h k = by (int_lt b a)
  where
    by : (t : Bool) → IsWord (cond t b a)
    by true = k
    by false = h

least_left : (z : ℤ) → IsWord z → int_min (pos 9223372036854775807) z ≡ z
least_left z h = omega (arith, ints, clamps)

least_right : (z : ℤ) → IsWord z → int_min z (pos 9223372036854775807) ≡ z
least_right z h = omega (arith, ints, clamps)

least_assoc : (a b c : ℤ) → int_min (int_min a b) c ≡ int_min a (int_min b c)
least_assoc a b c = omega (arith, ints, clamps)

greatest_closed : (a b : ℤ) → IsWord a → IsWord b → IsWord (int_max a b)
greatest_closed a b h k = by (int_lt b a)
  where
    by : (t : Bool) → IsWord (cond t a b)
    by true = h
    by false = k

greatest_left : (z : ℤ) → IsWord z → int_max (negsuc 9223372036854775807) z ≡ z
greatest_left z h = omega (arith, ints, clamps)

greatest_right : (z : ℤ) → IsWord z → int_max z (negsuc 9223372036854775807) ≡ z
greatest_right z h = omega (arith, ints, clamps)

greatest_assoc : (a b c : ℤ) → int_max (int_max a b) c ≡ int_max a (int_max b c)
greatest_assoc a b c = omega (arith, ints, clamps)

list_combine : (a b : ViewValue) → IsList a → IsList b → IsList (appended a b)
list_combine (Elements a) (Elements b) h k = All-append IsWord a b h k
list_combine (Elements a) (Number b) h k = absurd k
list_combine (Elements a) (Map b c) h k = absurd k
list_combine (Number a) b h k = absurd h
list_combine (Map a b) c h k = absurd h

list_left : (v : ViewValue) → IsList v → appended (Elements []) v ≡ v
list_left (Elements zs) h = refl
list_left (Number z) h = absurd h
list_left (Map a b) h = absurd h

list_right : (v : ViewValue) → IsList v → appended v (Elements []) ≡ v
list_right (Elements zs) h = ap Elements (grind (arith, common_steps))
list_right (Number z) h = absurd h
list_right (Map a b) h = absurd h

list_assoc : (a b c : ViewValue) → IsList a → IsList b → IsList c → appended (appended a b) c ≡ appended a (appended b c)
list_assoc (Elements a) (Elements b) (Elements c) h k l = ap Elements (append_assoc a b c)
list_assoc (Elements a) (Elements b) (Number c) h k l = absurd l
list_assoc (Elements a) (Elements b) (Map c d) h k l = absurd l
list_assoc (Elements a) (Number b) c h k l = absurd k
list_assoc (Elements a) (Map b c) d h k l = absurd k
list_assoc (Number a) b c h k l = absurd h
list_assoc (Map a b) c d h k l = absurd h

map_combine : (a b : ViewValue) → IsMap a → IsMap b → IsMap (composed a b)
map_combine (Map a b) (Map c d) h k = (SFits-int_wrap w64 (a *ℤ c), SFits-int_wrap w64 (c *ℤ b +ℤ d))
map_combine (Map a b) (Number c) h k = absurd k
map_combine (Map a b) (Elements c) h k = absurd k
map_combine (Number a) b h k = absurd h
map_combine (Elements a) b h k = absurd h

factor_left : (z : ℤ) → IsWord z → word_of (pos 1 *ℤ z) ≡ z
unfolding one
factor_left z h = ap (int_wrap w64) (*ℤ_comm (pos 1) z ∙ *ℤ-one z) ∙ int_wrap_fits w64 z h

offset_left : (c d : ℤ) → IsWord d → word_of (c *ℤ pos 0 +ℤ d) ≡ d
offset_left c d h = ap (λ x. int_wrap w64 (x +ℤ d)) (*ℤ-zero c) ∙ sum_left d h

map_left : (v : ViewValue) → IsMap v → composed (Map (pos 1) (pos 0)) v ≡ v
map_left (Map c d) h = λ i. Map (factor_left c h.0 i) (offset_left c d h.1 i)
map_left (Number z) h = absurd h
map_left (Elements zs) h = absurd h

factor_right : (z : ℤ) → IsWord z → word_of (z *ℤ pos 1) ≡ z
unfolding one
factor_right z h = ap (int_wrap w64) (*ℤ-one z) ∙ int_wrap_fits w64 z h

offset_right : (b : ℤ) → IsWord b → word_of (pos 1 *ℤ b +ℤ pos 0) ≡ b
unfolding one
offset_right b h = ap (λ x. int_wrap w64 (x +ℤ pos 0)) (*ℤ_comm (pos 1) b ∙ *ℤ-one b) ∙ sum_right b h

map_right : (v : ViewValue) → IsMap v → composed v (Map (pos 1) (pos 0)) ≡ v
map_right (Map a b) h = λ i. Map (factor_right a h.0 i) (offset_right b h.1 i)
map_right (Number z) h = absurd h
map_right (Elements zs) h = absurd h

factor_assoc : (a b c : ℤ) → word_of (word_of (a *ℤ b) *ℤ c) ≡ word_of (a *ℤ word_of (b *ℤ c))
factor_assoc a b c = int_wrap-mul_left w64 (a *ℤ b) c ∙ ap (int_wrap w64) (times_assoc a b c) ∙ sym (int_wrap-mul_right w64 a (b *ℤ c))

-- the offset of three composed maps: (a, b), then (c, d), then (e, f)
offset_assoc : (b c d e f : ℤ) → word_of (e *ℤ word_of (c *ℤ b +ℤ d) +ℤ f) ≡ word_of (word_of (c *ℤ e) *ℤ b +ℤ word_of (e *ℤ d +ℤ f))
offset_assoc b c d e f =
    let left : word_of (e *ℤ word_of (c *ℤ b +ℤ d) +ℤ f) ≡ word_of (e *ℤ (c *ℤ b +ℤ d) +ℤ f) = int_wrap-add_same w64 _ _ f (int_wrap-mul_right w64 e (c *ℤ b +ℤ d)) in
    let inner : e *ℤ (c *ℤ b +ℤ d) ≡ (c *ℤ e) *ℤ b +ℤ e *ℤ d = times-sum (c *ℤ b) d e ∙ ap (λ x. x +ℤ e *ℤ d) (sym (times_assoc e c b) ∙ ap (λ x. x *ℤ b) (*ℤ_comm e c)) in
    let regroup : ((c *ℤ e) *ℤ b +ℤ e *ℤ d) +ℤ f ≡ (c *ℤ e) *ℤ b +ℤ (e *ℤ d +ℤ f) = +ℤ_assoc ((c *ℤ e) *ℤ b) (e *ℤ d) f in
    let right : word_of (word_of (c *ℤ e) *ℤ b +ℤ word_of (e *ℤ d +ℤ f)) ≡ word_of ((c *ℤ e) *ℤ b +ℤ (e *ℤ d +ℤ f)) = int_wrap-add_right w64 (word_of (c *ℤ e) *ℤ b) (e *ℤ d +ℤ f) ∙ int_wrap-add_same w64 _ _ (e *ℤ d +ℤ f) (int_wrap-mul_left w64 (c *ℤ e) b) in
    left ∙ ap word_of (ap (λ x. x +ℤ f) inner ∙ regroup) ∙ sym right

map_assoc : (u v w : ViewValue) → IsMap u → IsMap v → IsMap w → composed (composed u v) w ≡ composed u (composed v w)
map_assoc (Map a b) (Map c d) (Map e f) h k l = λ i. Map (factor_assoc a c e i) (offset_assoc b c d e f i)
map_assoc (Map a b) (Map c d) (Number e) h k l = absurd l
map_assoc (Map a b) (Map c d) (Elements e) h k l = absurd l
map_assoc (Map a b) (Number c) d h k l = absurd k
map_assoc (Map a b) (Elements c) d h k l = absurd k
map_assoc (Number a) b c h k l = absurd h
map_assoc (Elements a) b c h k l = absurd h

pub lawful : (k : MonoidKind) → IsLawful (structure_of k) (IsMember k)
lawful Add = numbers_lawful (λ a b. word_of (a +ℤ b)) (pos 0) (fits (lit< tt)) (λ a b h k. SFits-int_wrap w64 (a +ℤ b)) sum_left sum_right sum_assoc
lawful Least = numbers_lawful int_min (pos 9223372036854775807) (fits (lit< tt)) least_closed least_left least_right least_assoc
lawful Greatest = numbers_lawful int_max (negsuc 9223372036854775807) (fits (lit< tt)) greatest_closed greatest_left greatest_right greatest_assoc
lawful Append = record {
  unit_member = All-nil IsWord;
  single_member = λ x h. All-cons IsWord x [] h (All-nil IsWord);
  combine_member = list_combine;
  left_neutral = list_left;
  right_neutral = list_right;
  associative = list_assoc;
}
lawful Affine = record {
  unit_member = (fits (lit< tt), fits (lit< tt));
  single_member = λ x h. (fits (lit< tt), h);
  combine_member = map_combine;
  left_neutral = map_left;
  right_neutral = map_right;
  associative = map_assoc;
}
