-- An input text has at most one list of numbers or one first fault, and not both.
--
-- `one_list`, `one_fault`, `no_fault`: by the first piece of the bytes. `one_input`: all three.
use Rattle.std.proofs.Common.{◌≡◌, ℕ, ℤ, ◌+◌, ◌<◌, ◌≤◌, true, false, List, [], ◌∷◌, length, Option, Some, None, refl, sym, ap, ◌∙◌, subst, arith}
use Rattle.cilk_parser.specs.declared.fault.SyntaxErrorKind.{SyntaxErrorKind}
use Rattle.cilk_parser.specs.declared.fault.SyntaxErrorKind.TheVariants.{BadNumber, TooManyNumbers}
use Rattle.cilk_parser.specs.Inputs.{starts_word, IsGap, IsNumber, IsBadWord, Holds, Ended, Skipped, Found, Fails, NoNumber, OneTooMany, Behind, Beyond}
use Rattle.cilk_parser.specs.Answers.{HasOneInput}

heads : (b c : ℕ) (r s : List ℕ) → b ∷ r ≡ c ∷ s → (b ≡ c) × (r ≡ s)
heads b c r s e = (cc, cc)

gap_word : {A : Type 0} (bytes rest : List ℕ) → IsGap bytes rest → starts_word bytes ≡ true → A
gap_word bytes rest h w =
    let x : false ≡ true = sym h.2 ∙ (ap starts_word (sym h.1) ∙ w) in cc

same_gap : (bytes r s : List ℕ) → IsGap bytes r → IsGap bytes s → r ≡ s
same_gap bytes r s h k = (heads h.0 k.0 r s (sym h.1 ∙ k.1)).1

same_some : (m n : ℤ) → ◌≡◌ {A = Option ℤ} (Some m) (Some n) → m ≡ n
same_some m n e = cc

same_number : (n m : ℤ) (bytes r s : List ℕ) → IsNumber n bytes r → IsNumber m bytes s → (n ≡ m) × (r ≡ s)
same_number n m bytes r s h k = (same_some n m (sym h.1 ∙ k.1), h.2 ∙ sym k.2)

number_bad : {A : Type 0} (n : ℤ) (bytes rest : List ℕ) → IsNumber n bytes rest → IsBadWord bytes → A
number_bad n bytes rest h k =
    let x : Some n ≡ None = sym h.1 ∙ k.1 in cc

empty_gap : {A : Type 0} (bytes rest : List ℕ) → bytes ≡ [] → IsGap bytes rest → A
empty_gap bytes rest e h =
    let x : [] ≡ h.0 ∷ rest = sym e ∙ h.1 in cc

empty_word : {A : Type 0} (bytes : List ℕ) → bytes ≡ [] → starts_word bytes ≡ true → A
empty_word bytes e h =
    let x : false ≡ true = ap starts_word (sym e) ∙ h in cc

-- the first piece of bytes that hold a list of numbers
data View (bytes : List ℕ) (ns : List ℤ) : Type 0 where
  Nothing : bytes ≡ [] → ns ≡ [] → View bytes ns
  Gapped : (rest : List ℕ) → IsGap bytes rest → Holds rest ns → View bytes ns
  Numbered : (n : ℤ) (rest : List ℕ) (more : List ℤ) → IsNumber n bytes rest → Holds rest more → ns ≡ n ∷ more
      → View bytes ns

view : (bytes : List ℕ) (ns : List ℤ) → Holds bytes ns → View bytes ns
view _ _ Ended = Nothing refl refl
view bytes ns (Skipped {rest = r} g h) = Gapped r g h
view bytes _ (Found {rest = r} {ns = more} n g h) = Numbered n r more g h refl

last : (ms : List ℤ) → View [] ms → [] ≡ ms
last ms (Nothing e f) = sym f
last ms (Gapped r g h) = empty_gap [] r refl g
last ms (Numbered n r more g h e) = empty_word [] refl g.0

skip_step : (bytes rest : List ℕ) (ns ms : List ℤ) → IsGap bytes rest → ((os : List ℤ) → Holds rest os → ns ≡ os)
    → View bytes ms → ns ≡ ms
skip_step bytes rest ns ms g go (Nothing e f) = empty_gap bytes rest e g
skip_step bytes rest ns ms g go (Gapped r k h) = go ms (subst (λ y. Holds y ms) (same_gap bytes r rest k g) h)
skip_step bytes rest ns ms g go (Numbered n r more k h e) = gap_word bytes rest g k.0

number_step : (bytes rest : List ℕ) (n : ℤ) (ns ms : List ℤ) → IsNumber n bytes rest
    → ((os : List ℤ) → Holds rest os → ns ≡ os) → View bytes ms → n ∷ ns ≡ ms
number_step bytes rest n ns ms g go (Nothing e f) = empty_word bytes e g.0
number_step bytes rest n ns ms g go (Gapped r k h) = gap_word bytes r k g.0
number_step bytes rest n ns ms g go (Numbered m r more k h e) =
    let s = same_number n m bytes rest r g k in
    ap (λ x. x ∷ ns) s.0 ∙ (ap (λ x. m ∷ x) (go more (subst (λ y. Holds y more) (sym s.1) h)) ∙ sym e)

one_list : (bytes : List ℕ) (ns ms : List ℤ) → Holds bytes ns → Holds bytes ms → ns ≡ ms
one_list _ _ ms Ended k = last ms (view [] ms k)
one_list bytes ns ms (Skipped {rest = r} g h) k =
    skip_step bytes r ns ms g (λ os j. one_list r ns os h j) (view bytes ms k)
one_list bytes _ ms (Found {rest = r} {ns = more} n g h) k =
    number_step bytes r n more ms g (λ os j. one_list r more os h j) (view bytes ms k)

-- the first piece of bytes that have a fault
data Fault (total count : ℕ) (bytes : List ℕ) (f : SyntaxErrorKind) (place : ℕ) : Type 0 where
  BadWord : IsBadWord bytes → f ≡ BadNumber → place + length bytes ≡ total → Fault total count bytes f place
  Many : (n : ℤ) (rest : List ℕ) → IsNumber n bytes rest → count ≡ 65536 → f ≡ TooManyNumbers
      → place + length bytes ≡ total → Fault total count bytes f place
  Gap : (rest : List ℕ) → IsGap bytes rest → Fails total count rest f place → Fault total count bytes f place
  Number : (n : ℤ) (rest : List ℕ) → IsNumber n bytes rest → count < 65536 → Fails total (count + 1) rest f place
      → Fault total count bytes f place

fault : (total count : ℕ) (bytes : List ℕ) (f : SyntaxErrorKind) (place : ℕ) → Fails total count bytes f place
    → Fault total count bytes f place
fault total count bytes _ place (NoNumber w e) = BadWord w refl e
fault total count bytes _ place (OneTooMany {rest = r} n g c e) = Many n r g c refl e
fault total count bytes f place (Behind {rest = r} g h) = Gap r g h
fault total count bytes f place (Beyond {rest = r} n g c h) = Number n r g c h

abbrev Alike : SyntaxErrorKind → SyntaxErrorKind → ℕ → ℕ → Type 0
Alike f g p q = (f ≡ g) × (p ≡ q)

bad_step : (total count : ℕ) (bytes : List ℕ) (f : SyntaxErrorKind) (p q : ℕ) → IsBadWord bytes → p + length bytes ≡ total
    → Fault total count bytes f q → Alike BadNumber f p q
bad_step total count bytes f p q w e (BadWord v x y) = (sym x, omega arith)
bad_step total count bytes f p q w e (Many n r g c x y) = number_bad n bytes r g w
bad_step total count bytes f p q w e (Gap r g h) = gap_word bytes r g w.0
bad_step total count bytes f p q w e (Number n r g c h) = number_bad n bytes r g w

many_step : (total count : ℕ) (bytes rest : List ℕ) (n : ℤ) (f : SyntaxErrorKind) (p q : ℕ) → IsNumber n bytes rest
    → count ≡ 65536 → p + length bytes ≡ total → Fault total count bytes f q → Alike TooManyNumbers f p q
many_step total count bytes rest n f p q g c e (BadWord v x y) = number_bad n bytes rest g v
many_step total count bytes rest n f p q g c e (Many m r k d x y) = (sym x, omega arith)
many_step total count bytes rest n f p q g c e (Gap r k h) = gap_word bytes r k g.0
many_step total count bytes rest n f p q g c e (Number m r k d h) = absurd (omega arith)

gap_step : (total count : ℕ) (bytes rest : List ℕ) (f g : SyntaxErrorKind) (p q : ℕ) → IsGap bytes rest
    → ((o : SyntaxErrorKind) (z : ℕ) → Fails total count rest o z → Alike f o p z) → Fault total count bytes g q
    → Alike f g p q
gap_step total count bytes rest f g p q k go (BadWord v x y) = gap_word bytes rest k v.0
gap_step total count bytes rest f g p q k go (Many m r l d x y) = gap_word bytes rest k l.0
gap_step total count bytes rest f g p q k go (Gap r l h) =
    go g q (subst (λ y. Fails total count y g q) (same_gap bytes r rest l k) h)
gap_step total count bytes rest f g p q k go (Number m r l d h) = gap_word bytes rest k l.0

count_step : (total count : ℕ) (bytes rest : List ℕ) (n : ℤ) (f g : SyntaxErrorKind) (p q : ℕ) → IsNumber n bytes rest
    → count < 65536 → ((o : SyntaxErrorKind) (z : ℕ) → Fails total (count + 1) rest o z → Alike f o p z)
    → Fault total count bytes g q → Alike f g p q
count_step total count bytes rest n f g p q k c go (BadWord v x y) = number_bad n bytes rest k v
count_step total count bytes rest n f g p q k c go (Many m r l d x y) = absurd (omega arith)
count_step total count bytes rest n f g p q k c go (Gap r l h) = gap_word bytes r l k.0
count_step total count bytes rest n f g p q k c go (Number m r l d h) =
    go g q (subst (λ y. Fails total (count + 1) y g q) (sym (same_number n m bytes rest r k l).1) h)

one_fault : (total count : ℕ) (bytes : List ℕ) (f g : SyntaxErrorKind) (p q : ℕ) → Fails total count bytes f p
    → Fails total count bytes g q → Alike f g p q
one_fault total count bytes _ g p q (NoNumber w e) k =
    bad_step total count bytes g p q w e (fault total count bytes g q k)
one_fault total count bytes _ g p q (OneTooMany {rest = r} n h c e) k =
    many_step total count bytes r n g p q h c e (fault total count bytes g q k)
one_fault total count bytes f g p q (Behind {rest = r} l h) k =
    gap_step total count bytes r f g p q l (λ o z j. one_fault total count r f o p z h j)
    (fault total count bytes g q k)
one_fault total count bytes f g p q (Beyond {rest = r} n l c h) k =
    count_step total count bytes r n f g p q l c (λ o z j. one_fault total (count + 1) r f o p z h j)
    (fault total count bytes g q k)

-- numbers up to the end, within the limit, have no fault
no_last : (total count : ℕ) (f : SyntaxErrorKind) (p : ℕ) → Fault total count [] f p → ⊥
no_last total count f p (BadWord v x y) = empty_word [] refl v.0
no_last total count f p (Many m r l d x y) = empty_word [] refl l.0
no_last total count f p (Gap r l h) = empty_gap [] r refl l
no_last total count f p (Number m r l d h) = empty_word [] refl l.0

no_gap : (total count : ℕ) (bytes rest : List ℕ) (f : SyntaxErrorKind) (p : ℕ) → IsGap bytes rest
    → (Fails total count rest f p → ⊥) → Fault total count bytes f p → ⊥
no_gap total count bytes rest f p k go (BadWord v x y) = gap_word bytes rest k v.0
no_gap total count bytes rest f p k go (Many m r l d x y) = gap_word bytes rest k l.0
no_gap total count bytes rest f p k go (Gap r l h) =
    go (subst (λ y. Fails total count y f p) (same_gap bytes r rest l k) h)
no_gap total count bytes rest f p k go (Number m r l d h) = gap_word bytes rest k l.0

no_number : (total count : ℕ) (bytes rest : List ℕ) (n : ℤ) (f : SyntaxErrorKind) (p : ℕ) → IsNumber n bytes rest
    → count < 65536 → (Fails total (count + 1) rest f p → ⊥) → Fault total count bytes f p → ⊥
no_number total count bytes rest n f p k c go (BadWord v x y) = number_bad n bytes rest k v
no_number total count bytes rest n f p k c go (Many m r l d x y) = absurd (omega arith)
no_number total count bytes rest n f p k c go (Gap r l h) = gap_word bytes r l k.0
no_number total count bytes rest n f p k c go (Number m r l d h) =
    go (subst (λ y. Fails total (count + 1) y f p) (sym (same_number n m bytes rest r k l).1) h)

no_fault : (total count : ℕ) (bytes : List ℕ) (ns : List ℤ) (f : SyntaxErrorKind) (p : ℕ) → Holds bytes ns
    → count + length ns ≤ 65536 → Fails total count bytes f p → ⊥
no_fault total count _ _ f p Ended l k = no_last total count f p (fault total count [] f p k)
no_fault total count bytes ns f p (Skipped {rest = r} g h) l k =
    no_gap total count bytes r f p g (λ j. no_fault total count r ns f p h l j) (fault total count bytes f p k)
no_fault total count bytes _ f p (Found {rest = r} {ns = more} n g h) l k =
    no_number total count bytes r n f p g (omega arith) (λ j. no_fault total (count + 1) r more f p h (omega arith) j)
    (fault total count bytes f p k)

pub one_input : (bytes : List ℕ) → HasOneInput bytes
one_input bytes = record {
  numbers = λ ns ms h k. one_list bytes ns ms h.numbers k.numbers;
  faults = λ n m p q h k. one_fault (length bytes) 0 bytes n m p q h k;
  apart = λ ns n p h k. no_fault (length bytes) 0 bytes ns n p h.numbers (omega (arith, h.few)) k;
}
