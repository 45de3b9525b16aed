-- A text has at most one first byte where no token fits, and none if it is tokens.
--
-- `bad_sort`, `gap_sort`, `kind_sort`: the first piece has the sort of the first byte. `stop_skip`,
-- `stop_cut`, `skip_cut`: so the first piece isn't two of a fault, a gap and a token.
-- `cut_once`: one list of tokens or one fault.
use Rattle.std.proofs.Common.{◌≡◌, ◌≢◌, ℕ, ◌+◌, ◌<◌, ◌≤◌, Bool, true, false, cond, ◌||◌, ◌&&◌, ◌==◌, nat_lt, List, [], ◌∷◌, length, Option, Some, None, refl, sym, ap, ◌∙◌, subst, arith}
use Rattle.std.proofs.lemmas.Bool.Decides.{nat_tests}
use Rattle.cilk_syntax.specs.declared.token.Kind.{Kind}
use Rattle.cilk_syntax.specs.declared.token.Kind.TheVariants as kinds
use Rattle.cilk_syntax.specs.declared.token.Token.{Token}
use Rattle.cilk_syntax.specs.Kinds.{is_reserved, spelling}
use Rattle.cilk_syntax.specs.declared.lexer.Class.TheVariants as classes
use Rattle.cilk_syntax.specs.Gaps.{Gap}
use Rattle.cilk_syntax.specs.Gaps as gaps
use Rattle.cilk_syntax.specs.declared.lexer.LexErrorKind.{LexErrorKind}
use Rattle.cilk_syntax.specs.declared.lexer.LexErrorKind.TheVariants as bads
use Rattle.cilk_syntax.specs.Lexing.{IsBad, BeginsNone, Faults, Here, Behind, Beyond, IsFirstFault, is_numeral, is_blank, is_digit, is_letter, front_of, begins_with, after_close, value_of, starts_digit, starts_letter, Passes, Spells, Directs, directive_of, Lexes, Ended, Skipped, Found, AreTokens}
use Rattle.cilk_syntax.proofs.Unique.{unique, Skips, Cuts, same_byte, low_no_letter, digit_no_letter, blank_low, below_47, letter_of, not_same, spells_front, passes_front}
use Rattle.cilk_parser.specs.Answers.{IsCutOnce}

-- what a byte can begin
data Sort : Type 0 where
  Letter : Sort
  Digit : Sort
  Blank : Sort
  Hash : Sort
  High : Sort
  Other : Sort

abbrev pick : Bool → Bool → Bool → Bool → Bool → Sort
pick p q r s t = cond p Letter (cond q Digit (cond r Blank (cond s Hash (cond t High Other))))

abbrev sort_of : ℕ → Sort
sort_of b = pick (is_letter b) (is_digit b) (is_blank b) (b == 35) (nat_lt 127 b)

abbrev sorted : List ℕ → Option Sort
sorted [] = None
sorted (b ∷ bs) = Some (sort_of b)

abbrev sort_bad : LexErrorKind → Sort
sort_bad bads.NotAscii = High
sort_bad bads.Unclosed = Other
sort_bad bads.Directive = Hash
sort_bad bads.Numeral = Digit
sort_bad bads.TooLarge = Digit
sort_bad bads.NoToken = Other

abbrev sort_gap : Gap → Sort
sort_gap gaps.Blank = Blank
sort_gap gaps.LineComment = Other
sort_gap gaps.BlockComment = Other
sort_gap gaps.Directive = Hash

abbrev sort_kind : Kind → Sort
sort_kind (kinds.Number n) = Digit
sort_kind kinds.Name = Letter
sort_kind k = cond (is_reserved k) Letter Other

picked : (p q r s t q' r' s' t' : Bool) → p ≡ false → q ≡ q' → r ≡ r' → s ≡ s' → t ≡ t'
    → pick p q r s t ≡ pick false q' r' s' t'
picked p q r s t q' r' s' t' a b c d e =
    ap (λ x. pick x q r s t) a
    ∙ (ap (λ x. pick false x r s t) b
    ∙ (ap (λ x. pick false q' x s t) c ∙ (ap (λ x. pick false q' r' x t) d ∙ ap (λ x. pick false q' r' s' x) e)))

letter_sort : (bytes : List ℕ) → starts_letter bytes ≡ true → sorted bytes ≡ Some Letter
letter_sort [] h = cc
letter_sort (b ∷ bs) h = ap (λ t. Some (pick t (is_digit b) (is_blank b) (b == 35) (nat_lt 127 b))) h

digit_sort : (bytes : List ℕ) → starts_digit bytes ≡ true → sorted bytes ≡ Some Digit
digit_sort [] h = cc
digit_sort (b ∷ bs) h =
    ap (λ x. Some x) (picked (is_letter b) (is_digit b) (is_blank b) (b == 35) (nat_lt 127 b) true (is_blank b)
    (b == 35) (nat_lt 127 b) (digit_no_letter b h) h refl refl refl)

low_no_digit : (b : ℕ) → b < 33 → is_digit b ≡ false
low_no_digit b h = ap (λ t. t && nat_lt b 58) (below_47 b h)

blank_sort : (b : ℕ) → is_blank b ≡ true → sort_of b ≡ Blank
blank_sort b h =
    picked (is_letter b) (is_digit b) (is_blank b) (b == 35) (nat_lt 127 b) false true (b == 35) (nat_lt 127 b)
    (low_no_letter b (omega (arith, blank_low b h))) (low_no_digit b (blank_low b h)) h refl refl

high_lt : (b n : ℕ) → 127 < b → n ≤ 128 → nat_lt b n ≡ false
high_lt b n h k = grind (arith, nat_tests)

high_gt : (b n : ℕ) → 127 < b → n ≤ 127 → nat_lt n b ≡ true
high_gt b n h k = grind (arith, nat_tests)

high_is : (b n : ℕ) → 127 < b → n ≤ 127 → (b == n) ≡ false
high_is b n h k = grind (arith, nat_tests)

and_false : (a b : Bool) → b ≡ false → (a && b) ≡ false
and_false true b h = h
and_false false b h = refl

or_false : (a b : Bool) → a ≡ false → b ≡ false → (a || b) ≡ false
or_false true b h k = cc
or_false false b h k = k

high_no_letter : (b : ℕ) → 127 < b → is_letter b ≡ false
high_no_letter b h =
    or_false ((nat_lt 64 b && nat_lt b 91) || (nat_lt 96 b && nat_lt b 123)) (b == 95)
    (or_false (nat_lt 64 b && nat_lt b 91) (nat_lt 96 b && nat_lt b 123)
    (and_false (nat_lt 64 b) (nat_lt b 91) (high_lt b 91 h (omega arith)))
    (and_false (nat_lt 96 b) (nat_lt b 123) (high_lt b 123 h (omega arith))))
    (high_is b 95 h (omega arith))

high_no_digit : (b : ℕ) → 127 < b → is_digit b ≡ false
high_no_digit b h = and_false (nat_lt 47 b) (nat_lt b 58) (high_lt b 58 h (omega arith))

high_no_blank : (b : ℕ) → 127 < b → is_blank b ≡ false
high_no_blank b h =
    or_false (b == 32) (nat_lt 8 b && nat_lt b 14) (high_is b 32 h (omega arith))
    (and_false (nat_lt 8 b) (nat_lt b 14) (high_lt b 14 h (omega arith)))

high_sort : (b : ℕ) → 127 < b → sort_of b ≡ High
high_sort b h =
    picked (is_letter b) (is_digit b) (is_blank b) (b == 35) (nat_lt 127 b) false false false true
    (high_no_letter b h) (high_no_digit b h) (high_no_blank b h) (high_is b 35 h (omega arith))
    (high_gt b 127 h (omega arith))

neither : (a b : Bool) → (a || b) ≡ false → (a ≡ false) × (b ≡ false)
neither true b h = cc
neither false b h = (refl, h)

not_is : (b c : ℕ) → b ≢ c → (b == c) ≡ false
not_is b c h = not_same (b == c) (λ e. h (same_byte b c e))

low_no_high : (b : ℕ) → b ≤ 127 → nat_lt 127 b ≡ false
low_no_high b h = grind (arith, nat_tests)

other_sort : (b : ℕ) (tail : List ℕ) → b ≤ 127 → BeginsNone b tail → sort_of b ≡ Other
other_sort b tail l h =
    let w = neither (is_letter b) (is_digit b) h.1 in
    picked (is_letter b) (is_digit b) (is_blank b) (b == 35) (nat_lt 127 b) false false false false w.0 w.1 h.0
    (not_is b 35 h.2) (low_no_high b l)

bad_sort : (bad : LexErrorKind) (fresh : Bool) (bytes : List ℕ) → IsBad fresh bad bytes → sorted bytes ≡ Some (sort_bad bad)
bad_sort bads.NotAscii fresh bytes h = ap sorted h.2 ∙ ap (λ x. Some x) (high_sort h.0 h.3)
bad_sort bads.Unclosed fresh bytes h = ap sorted h.1
bad_sort bads.Directive fresh bytes h = ap sorted h.1
bad_sort bads.Numeral fresh bytes h = digit_sort bytes h.0
bad_sort bads.TooLarge fresh bytes h = digit_sort bytes h.0
bad_sort bads.NoToken fresh bytes h = ap sorted h.2 ∙ ap (λ x. Some x) (other_sort h.0 h.1 h.3 h.4)

gap_sort : (gap : Gap) (fresh : Bool) (bytes : List ℕ) (fresh' : Bool) (rest : List ℕ)
    → Passes gap fresh bytes fresh' rest → sorted bytes ≡ Some (sort_gap gap)
gap_sort gaps.Blank fresh bytes fresh' rest h = ap sorted h.1 ∙ ap (λ x. Some x) (blank_sort h.0 h.2)
gap_sort gaps.LineComment fresh bytes fresh' rest h = ap sorted h.1
gap_sort gaps.BlockComment fresh bytes fresh' rest h = ap sorted h.1
gap_sort gaps.Directive fresh bytes fresh' rest h = ap sorted h.1

same_sort : (x y : Sort) → ◌≡◌ {A = Option Sort} (Some x) (Some y) → x ≡ y
same_sort x y e = cc

tails : (b c : ℕ) (r s : List ℕ) → b ∷ r ≡ c ∷ s → r ≡ s
tails b c r s e = cc

-- where no token begins, there is no slash
no_slash : {A : Type 0} (b : ℕ) (tail more bytes : List ℕ) → bytes ≡ b ∷ tail → BeginsNone b tail → bytes ≡ 47 ∷ more
    → A
no_slash b tail more bytes e h k = absurd (h.3 kinds.Slash more refl (sym e ∙ k))

clash : {A : Type 0} (b : Bool) → b ≡ true → b ≡ false → A
clash b h k = let x : true ≡ false = sym h ∙ k in cc

one_bad : (x y : LexErrorKind) (fresh : Bool) (bytes : List ℕ) → sort_bad x ≡ sort_bad y → IsBad fresh x bytes
    → IsBad fresh y bytes → x ≡ y
one_bad bads.NotAscii bads.NotAscii fresh bytes e h k = refl
one_bad bads.Unclosed bads.Unclosed fresh bytes e h k = refl
one_bad bads.Unclosed bads.NoToken fresh bytes e h k = no_slash k.0 k.1 (42 ∷ h.0) bytes k.2 k.4 h.1
one_bad bads.Directive bads.Directive fresh bytes e h k = refl
one_bad bads.Numeral bads.Numeral fresh bytes e h k = refl
one_bad bads.Numeral bads.TooLarge fresh bytes e h k = clash (is_numeral (front_of classes.Word bytes)) k.1 h.1
one_bad bads.TooLarge bads.TooLarge fresh bytes e h k = refl
one_bad bads.TooLarge bads.Numeral fresh bytes e h k = clash (is_numeral (front_of classes.Word bytes)) h.1 k.1
one_bad bads.NoToken bads.NoToken fresh bytes e h k = refl
one_bad bads.NoToken bads.Unclosed fresh bytes e h k = no_slash h.0 h.1 (42 ∷ k.0) bytes h.2 h.4 k.1
one_bad _ _ fresh bytes e h k = cc

second : (b c : ℕ) (r s bytes : List ℕ) → bytes ≡ 47 ∷ b ∷ r → bytes ≡ 47 ∷ c ∷ s → b ∷ r ≡ c ∷ s
second b c r s bytes h k = tails 47 47 (b ∷ r) (c ∷ s) (sym h ∙ k)

none_some : {A : Type 0} (rest : List ℕ) → ◌≡◌ {A = Option (List ℕ)} None (Some rest) → A
none_some rest h = cc

high_gap : {A : Type 0} (gap : Gap) → High ≡ sort_gap gap → A
high_gap gaps.Blank e = cc
high_gap _ e = cc

digit_gap : {A : Type 0} (gap : Gap) → Digit ≡ sort_gap gap → A
digit_gap gaps.Blank e = cc
digit_gap _ e = cc

unclosed_gap : {A : Type 0} (gap : Gap) (fresh : Bool) (tail bytes : List ℕ) (fresh' : Bool) (rest : List ℕ)
    → Other ≡ sort_gap gap → bytes ≡ 47 ∷ 42 ∷ tail → after_close tail ≡ None → Passes gap fresh bytes fresh' rest → A
unclosed_gap gaps.Blank fresh tail bytes fresh' rest e h n k = cc
unclosed_gap gaps.LineComment fresh tail bytes fresh' rest e h n k =
    clash (begins_with 42 (42 ∷ tail)) refl (ap (begins_with 42) (second 42 47 tail k.0 bytes h k.1))
unclosed_gap gaps.BlockComment fresh tail bytes fresh' rest e h n k =
    let x = tails 42 42 tail k.0 (second 42 42 tail k.0 bytes h k.1) in
    none_some rest (sym n ∙ (ap after_close x ∙ k.2))
unclosed_gap gaps.Directive fresh tail bytes fresh' rest e h n k = cc

directive_gap : {A : Type 0} (gap : Gap) (fresh : Bool) (tail bytes : List ℕ) (fresh' : Bool) (rest : List ℕ)
    → Hash ≡ sort_gap gap → bytes ≡ 35 ∷ tail → (fresh ≡ true → Directs (directive_of tail) → ⊥)
    → Passes gap fresh bytes fresh' rest → A
directive_gap gaps.Directive fresh tail bytes fresh' rest e h n k =
    absurd (n k.2 (subst (λ y. Directs (directive_of y)) (tails 35 35 k.0 tail (sym k.1 ∙ h)) k.3))
directive_gap gaps.Blank fresh tail bytes fresh' rest e h n k = cc
directive_gap gaps.LineComment fresh tail bytes fresh' rest e h n k = cc
directive_gap gaps.BlockComment fresh tail bytes fresh' rest e h n k = cc

no_token_gap : {A : Type 0} (gap : Gap) (fresh : Bool) (b : ℕ) (tail bytes : List ℕ) (fresh' : Bool) (rest : List ℕ)
    → Other ≡ sort_gap gap → bytes ≡ b ∷ tail → BeginsNone b tail → Passes gap fresh bytes fresh' rest → A
no_token_gap gaps.Blank fresh b tail bytes fresh' rest e h n k = cc
no_token_gap gaps.LineComment fresh b tail bytes fresh' rest e h n k = no_slash b tail (47 ∷ k.0) bytes h n k.1
no_token_gap gaps.BlockComment fresh b tail bytes fresh' rest e h n k = no_slash b tail (42 ∷ k.0) bytes h n k.1
no_token_gap gaps.Directive fresh b tail bytes fresh' rest e h n k = cc

bad_gap : {A : Type 0} (x : LexErrorKind) (gap : Gap) (fresh : Bool) (bytes : List ℕ) (fresh' : Bool) (rest : List ℕ)
    → sort_bad x ≡ sort_gap gap → IsBad fresh x bytes → Passes gap fresh bytes fresh' rest → A
bad_gap bads.NotAscii gap fresh bytes fresh' rest e h k = high_gap gap e
bad_gap bads.Unclosed gap fresh bytes fresh' rest e h k = unclosed_gap gap fresh h.0 bytes fresh' rest e h.1 h.2 k
bad_gap bads.Directive gap fresh bytes fresh' rest e h k = directive_gap gap fresh h.0 bytes fresh' rest e h.1 h.2 k
bad_gap bads.Numeral gap fresh bytes fresh' rest e h k = digit_gap gap e
bad_gap bads.TooLarge gap fresh bytes fresh' rest e h k = digit_gap gap e
bad_gap bads.NoToken gap fresh bytes fresh' rest e h k = no_token_gap gap fresh h.0 h.1 bytes fresh' rest e h.2 h.4 k

kind_sort : (k : Kind) (bytes rest : List ℕ) → Spells k bytes rest → sorted bytes ≡ Some (sort_kind k)
kind_sort (kinds.Number n) bytes rest h = digit_sort bytes h.0
kind_sort kinds.Name bytes rest h = letter_sort bytes h.0
kind_sort kinds.Int bytes rest h = letter_sort bytes (letter_of bytes (spelling kinds.Int) h.0 refl)
kind_sort kinds.Void bytes rest h = letter_sort bytes (letter_of bytes (spelling kinds.Void) h.0 refl)
kind_sort kinds.If bytes rest h = letter_sort bytes (letter_of bytes (spelling kinds.If) h.0 refl)
kind_sort kinds.Else bytes rest h = letter_sort bytes (letter_of bytes (spelling kinds.Else) h.0 refl)
kind_sort kinds.While bytes rest h = letter_sort bytes (letter_of bytes (spelling kinds.While) h.0 refl)
kind_sort kinds.For bytes rest h = letter_sort bytes (letter_of bytes (spelling kinds.For) h.0 refl)
kind_sort kinds.Return bytes rest h = letter_sort bytes (letter_of bytes (spelling kinds.Return) h.0 refl)
kind_sort kinds.CilkSpawn bytes rest h = letter_sort bytes (letter_of bytes (spelling kinds.CilkSpawn) h.0 refl)
kind_sort kinds.CilkSync bytes rest h = letter_sort bytes (letter_of bytes (spelling kinds.CilkSync) h.0 refl)
kind_sort kinds.CilkFor bytes rest h = letter_sort bytes (letter_of bytes (spelling kinds.CilkFor) h.0 refl)
kind_sort kinds.CilkReducer bytes rest h = letter_sort bytes (letter_of bytes (spelling kinds.CilkReducer) h.0 refl)
kind_sort kinds.Print bytes rest h = letter_sort bytes (letter_of bytes (spelling kinds.Print) h.0 refl)
kind_sort kinds.Update bytes rest h = letter_sort bytes (letter_of bytes (spelling kinds.Update) h.0 refl)
kind_sort kinds.Set bytes rest h = letter_sort bytes (letter_of bytes (spelling kinds.Set) h.0 refl)
kind_sort kinds.Value bytes rest h = letter_sort bytes (letter_of bytes (spelling kinds.Value) h.0 refl)
kind_sort kinds.Input bytes rest h = letter_sort bytes (letter_of bytes (spelling kinds.Input) h.0 refl)
kind_sort kinds.InputCount bytes rest h = letter_sort bytes (letter_of bytes (spelling kinds.InputCount) h.0 refl)
kind_sort _ bytes rest h = ap sorted h.0

no_token_kind : {A : Type 0} (k : Kind) (b : ℕ) (tail bytes rest : List ℕ) → Other ≡ sort_kind k → bytes ≡ b ∷ tail
    → BeginsNone b tail → Spells k bytes rest → A
no_token_kind (kinds.Number n) b tail bytes rest e p h s = cc
no_token_kind kinds.Name b tail bytes rest e p h s = cc
no_token_kind kinds.Int b tail bytes rest e p h s = cc
no_token_kind kinds.Void b tail bytes rest e p h s = cc
no_token_kind kinds.If b tail bytes rest e p h s = cc
no_token_kind kinds.Else b tail bytes rest e p h s = cc
no_token_kind kinds.While b tail bytes rest e p h s = cc
no_token_kind kinds.For b tail bytes rest e p h s = cc
no_token_kind kinds.Return b tail bytes rest e p h s = cc
no_token_kind kinds.CilkSpawn b tail bytes rest e p h s = cc
no_token_kind kinds.CilkSync b tail bytes rest e p h s = cc
no_token_kind kinds.CilkFor b tail bytes rest e p h s = cc
no_token_kind kinds.CilkReducer b tail bytes rest e p h s = cc
no_token_kind kinds.Print b tail bytes rest e p h s = cc
no_token_kind kinds.Update b tail bytes rest e p h s = cc
no_token_kind kinds.Set b tail bytes rest e p h s = cc
no_token_kind kinds.Value b tail bytes rest e p h s = cc
no_token_kind kinds.Input b tail bytes rest e p h s = cc
no_token_kind kinds.InputCount b tail bytes rest e p h s = cc
no_token_kind k b tail bytes rest e p h s = absurd (h.3 k rest refl (sym p ∙ s.0))

unclosed_kind : {A : Type 0} (k : Kind) (tail bytes rest : List ℕ) → Other ≡ sort_kind k → bytes ≡ 47 ∷ 42 ∷ tail
    → Spells k bytes rest → A
unclosed_kind kinds.Slash tail bytes rest e p s =
    clash (begins_with 42 rest) (ap (begins_with 42) (tails 47 47 rest (42 ∷ tail) (sym s.0 ∙ p))) s.1.1
unclosed_kind (kinds.Number n) tail bytes rest e p s = cc
unclosed_kind kinds.Name tail bytes rest e p s = cc
unclosed_kind kinds.Int tail bytes rest e p s = cc
unclosed_kind kinds.Void tail bytes rest e p s = cc
unclosed_kind kinds.If tail bytes rest e p s = cc
unclosed_kind kinds.Else tail bytes rest e p s = cc
unclosed_kind kinds.While tail bytes rest e p s = cc
unclosed_kind kinds.For tail bytes rest e p s = cc
unclosed_kind kinds.Return tail bytes rest e p s = cc
unclosed_kind kinds.CilkSpawn tail bytes rest e p s = cc
unclosed_kind kinds.CilkSync tail bytes rest e p s = cc
unclosed_kind kinds.CilkFor tail bytes rest e p s = cc
unclosed_kind kinds.CilkReducer tail bytes rest e p s = cc
unclosed_kind kinds.Print tail bytes rest e p s = cc
unclosed_kind kinds.Update tail bytes rest e p s = cc
unclosed_kind kinds.Set tail bytes rest e p s = cc
unclosed_kind kinds.Value tail bytes rest e p s = cc
unclosed_kind kinds.Input tail bytes rest e p s = cc
unclosed_kind kinds.InputCount tail bytes rest e p s = cc
unclosed_kind k tail bytes rest e p s = clash (begins_with 47 bytes) (ap (begins_with 47) p) (ap (begins_with 47) s.0)

too_large : {A : Type 0} (v : ℕ) → 9223372036854775807 < v → v ≤ 9223372036854775807 → A
too_large v h k = absurd (omega arith)

bad_kind : {A : Type 0} (x : LexErrorKind) (k : Kind) (fresh : Bool) (bytes rest : List ℕ) → sort_bad x ≡ sort_kind k
    → IsBad fresh x bytes → Spells k bytes rest → A
bad_kind bads.NotAscii (kinds.Number n) fresh bytes rest e h s = cc
bad_kind bads.Unclosed k fresh bytes rest e h s = unclosed_kind k h.0 bytes rest e h.1 s
bad_kind bads.Directive (kinds.Number n) fresh bytes rest e h s = cc
bad_kind bads.Numeral (kinds.Number n) fresh bytes rest e h s = clash (is_numeral (front_of classes.Word bytes)) s.2 h.1
bad_kind bads.TooLarge (kinds.Number n) fresh bytes rest e h s =
    too_large (value_of (front_of classes.Word bytes)) h.2 s.3
bad_kind bads.NoToken k fresh bytes rest e h s = no_token_kind k h.0 h.1 bytes rest e h.2 h.4 s
bad_kind _ _ fresh bytes rest e h s = cc

-- the first piece of bytes that have a fault
data Fault (total : ℕ) (fresh : Bool) (bytes : List ℕ) (bad : LexErrorKind) (place : ℕ) : Type 0 where
  Stop : IsBad fresh bad bytes → place + length bytes ≡ total → Fault total fresh bytes bad place
  Skip : (gap : Gap) (fresh' : Bool) (rest : List ℕ) → Passes gap fresh bytes fresh' rest
      → Faults total fresh' rest bad place → Fault total fresh bytes bad place
  Cut : (kind : Kind) (rest : List ℕ) → Spells kind bytes rest → Faults total false rest bad place
      → Fault total fresh bytes bad place

fault : (total : ℕ) (fresh : Bool) (bytes : List ℕ) (bad : LexErrorKind) (place : ℕ) → Faults total fresh bytes bad place
    → Fault total fresh bytes bad place
fault total fresh bytes bad place (Here i e) = Stop i e
fault total fresh bytes bad place (Behind {fresh' = f} {rest = r} gap p h) = Skip gap f r p h
fault total fresh bytes bad place (Beyond {rest = r} kind s h) = Cut kind r s h

stop_skip : {A : Type 0} (x : LexErrorKind) (gap : Gap) (fresh : Bool) (bytes : List ℕ) (f : Bool) (r : List ℕ)
    → IsBad fresh x bytes → Passes gap fresh bytes f r → A
stop_skip x gap fresh bytes f r h k =
    bad_gap x gap fresh bytes f r (same_sort (sort_bad x) (sort_gap gap) (sym (bad_sort x fresh bytes h)
    ∙ gap_sort gap fresh bytes f r k)) h k

stop_cut : {A : Type 0} (x : LexErrorKind) (k : Kind) (fresh : Bool) (bytes r : List ℕ) → IsBad fresh x bytes
    → Spells k bytes r → A
stop_cut x k fresh bytes r h s =
    bad_kind x k fresh bytes r (same_sort (sort_bad x) (sort_kind k) (sym (bad_sort x fresh bytes h)
    ∙ kind_sort k bytes r s)) h s

skip_cut : {A : Type 0} (gap : Gap) (k : Kind) (fresh : Bool) (bytes : List ℕ) (f : Bool) (r s : List ℕ)
    → Passes gap fresh bytes f r → Spells k bytes s → A
skip_cut gap k fresh bytes f r s p h =
    let x : Skips f r ≡ Cuts k s = sym (passes_front gap fresh bytes f r p) ∙ spells_front k fresh bytes s h in cc

same_skip : (i j : Gap) (fresh : Bool) (bytes : List ℕ) (f g : Bool) (r s : List ℕ) → Passes i fresh bytes f r
    → Passes j fresh bytes g s → (f ≡ g) × (r ≡ s)
same_skip i j fresh bytes f g r s p q =
    let x : Skips f r ≡ Skips g s = sym (passes_front i fresh bytes f r p) ∙ passes_front j fresh bytes g s q in
    (cc, cc)

same_cut : (i j : Kind) (bytes r s : List ℕ) → Spells i bytes r → Spells j bytes s → r ≡ s
same_cut i j bytes r s p q =
    let x : Cuts i r ≡ Cuts j s = sym (spells_front i false bytes r p) ∙ spells_front j false bytes s q in cc

abbrev Alike : LexErrorKind → LexErrorKind → ℕ → ℕ → Type 0
Alike x y p q = (x ≡ y) × (p ≡ q)

here_step : (total : ℕ) (fresh : Bool) (bytes : List ℕ) (x y : LexErrorKind) (p q : ℕ) → IsBad fresh x bytes
    → p + length bytes ≡ total → Fault total fresh bytes y q → Alike x y p q
here_step total fresh bytes x y p q h e (Stop k f) = (
  one_bad x y fresh bytes (same_sort (sort_bad x) (sort_bad y) (sym (bad_sort x fresh bytes h)
      ∙ bad_sort y fresh bytes k)) h k,
  omega arith,
)
here_step total fresh bytes x y p q h e (Skip gap f r k j) = stop_skip x gap fresh bytes f r h k
here_step total fresh bytes x y p q h e (Cut kind r k j) = stop_cut x kind fresh bytes r h k

behind_step : (total : ℕ) (fresh : Bool) (bytes : List ℕ) (x y : LexErrorKind) (p q : ℕ) (gap : Gap) (f : Bool) (r : List ℕ)
    → Passes gap fresh bytes f r → ((z : LexErrorKind) (o : ℕ) → Faults total f r z o → Alike x z p o)
    → Fault total fresh bytes y q → Alike x y p q
behind_step total fresh bytes x y p q gap f r h go (Stop k e) = stop_skip y gap fresh bytes f r k h
behind_step total fresh bytes x y p q gap f r h go (Skip other g s k j) =
    let e = same_skip gap other fresh bytes f g r s h k in
    go y q (subst (λ v. Faults total v r y q) (sym e.0) (subst (λ v. Faults total g v y q) (sym e.1) j))
behind_step total fresh bytes x y p q gap f r h go (Cut kind s k j) = skip_cut gap kind fresh bytes f r s h k

beyond_step : (total : ℕ) (fresh : Bool) (bytes : List ℕ) (x y : LexErrorKind) (p q : ℕ) (kind : Kind) (r : List ℕ)
    → Spells kind bytes r → ((z : LexErrorKind) (o : ℕ) → Faults total false r z o → Alike x z p o)
    → Fault total fresh bytes y q → Alike x y p q
beyond_step total fresh bytes x y p q kind r h go (Stop k e) = stop_cut y kind fresh bytes r k h
beyond_step total fresh bytes x y p q kind r h go (Skip gap g s k j) = skip_cut gap kind fresh bytes g s r k h
beyond_step total fresh bytes x y p q kind r h go (Cut other s k j) =
    go y q (subst (λ v. Faults total false v y q) (sym (same_cut kind other bytes r s h k)) j)

one_fault : (total : ℕ) (fresh : Bool) (bytes : List ℕ) (x y : LexErrorKind) (p q : ℕ) → Faults total fresh bytes x p
    → Faults total fresh bytes y q → Alike x y p q
one_fault total fresh bytes x y p q (Here h e) k =
    here_step total fresh bytes x y p q h e (fault total fresh bytes y q k)
one_fault total fresh bytes x y p q (Behind {fresh' = f} {rest = r} gap h j) k =
    behind_step total fresh bytes x y p q gap f r h (λ z o i. one_fault total f r x z p o j i)
    (fault total fresh bytes y q k)
one_fault total fresh bytes x y p q (Beyond {rest = r} kind h j) k =
    beyond_step total fresh bytes x y p q kind r h (λ z o i. one_fault total false r x z p o j i)
    (fault total fresh bytes y q k)

-- bytes that are tokens have no fault
none_sort : {A : Type 0} (x : Sort) → ◌≡◌ {A = Option Sort} None (Some x) → A
none_sort x h = cc

ended_fault : (total : ℕ) (fresh : Bool) (y : LexErrorKind) (q : ℕ) → Fault total fresh [] y q → ⊥
ended_fault total fresh y q (Stop k e) = none_sort (sort_bad y) (bad_sort y fresh [] k)
ended_fault total fresh y q (Skip gap f r k j) = none_sort (sort_gap gap) (gap_sort gap fresh [] f r k)
ended_fault total fresh y q (Cut kind r k j) = none_sort (sort_kind kind) (kind_sort kind [] r k)

skipped_fault : (total : ℕ) (fresh : Bool) (bytes : List ℕ) (y : LexErrorKind) (q : ℕ) (gap : Gap) (f : Bool) (r : List ℕ)
    → Passes gap fresh bytes f r → (Faults total f r y q → ⊥) → Fault total fresh bytes y q → ⊥
skipped_fault total fresh bytes y q gap f r h go (Stop k e) = stop_skip y gap fresh bytes f r k h
skipped_fault total fresh bytes y q gap f r h go (Skip other g s k j) =
    let e = same_skip gap other fresh bytes f g r s h k in
    go (subst (λ v. Faults total v r y q) (sym e.0) (subst (λ v. Faults total g v y q) (sym e.1) j))
skipped_fault total fresh bytes y q gap f r h go (Cut kind s k j) = skip_cut gap kind fresh bytes f r s h k

found_fault : (total : ℕ) (fresh : Bool) (bytes : List ℕ) (y : LexErrorKind) (q : ℕ) (kind : Kind) (r : List ℕ)
    → Spells kind bytes r → (Faults total false r y q → ⊥) → Fault total fresh bytes y q → ⊥
found_fault total fresh bytes y q kind r h go (Stop k e) = stop_cut y kind fresh bytes r k h
found_fault total fresh bytes y q kind r h go (Skip gap g s k j) = skip_cut gap kind fresh bytes g s r k h
found_fault total fresh bytes y q kind r h go (Cut other s k j) =
    go (subst (λ v. Faults total false v y q) (sym (same_cut kind other bytes r s h k)) j)

no_fault : (total : ℕ) (fresh : Bool) (bytes : List ℕ) (ts : List Token) (y : LexErrorKind) (q : ℕ)
    → Lexes total fresh bytes ts → Faults total fresh bytes y q → ⊥
no_fault total fresh _ _ y q Ended k = ended_fault total fresh y q (fault total fresh [] y q k)
no_fault total fresh bytes ts y q (Skipped {fresh' = f} {rest = r} gap p h) k =
    skipped_fault total fresh bytes y q gap f r p (λ j. no_fault total f r ts y q h j) (fault total fresh bytes y q k)
no_fault total fresh bytes _ y q (Found {rest = r} {ts = more} t s at end h) k =
    found_fault total fresh bytes y q t.kind r s (λ j. no_fault total false r more y q h j)
    (fault total fresh bytes y q k)

pub tokens_or_fault : (bytes : List ℕ) (ts : List Token) (x : LexErrorKind) (p : ℕ) → AreTokens bytes ts
    → IsFirstFault bytes x p → ⊥
tokens_or_fault bytes ts x p h k = no_fault (length bytes) true bytes ts x p h k

pub cut_once : (bytes : List ℕ) → IsCutOnce bytes
cut_once bytes = record {
  tokens = λ ts us h k. unique bytes ts us h k;
  faults = λ x y p q h k. one_fault (length bytes) true bytes x y p q h k;
  apart = λ ts x p h k. tokens_or_fault bytes ts x p h k;
}
