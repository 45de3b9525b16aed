-- Laws of maximal runs of bytes of a class.
use Rattle.std.proofs.Common.{◌≡◌, ℕ, ◌+◌, ◌-◌, ◌*◌, ◌≤◌, ◌<◌, Bool, true, false, cond, ◌||◌, List, [], ◌∷◌, length, take, get_or, refl, sym, ap, ◌∙◌, arith}
use Rattle.cilk_syntax.specs.declared.lexer.Class.{Class}
use Rattle.cilk_syntax.specs.declared.lexer.Class.TheVariants as classes
use Rattle.cilk_syntax.specs.Lexing.{Lexes, Ended, front_of, behind, belongs, value_from, is_letter, is_digit, starts_letter, starts_digit}

chosen_front : (c : Class) (b : ℕ) (bs : List ℕ) (t : Bool) → take (length (front_of c bs)) bs ≡ front_of c bs → take (length (cond t (b ∷ front_of c bs) [])) (b ∷ bs) ≡ cond t (b ∷ front_of c bs) []
chosen_front c b bs true h = ap (λ x. b ∷ x) h
chosen_front c b bs false h = refl

-- the run is the first bytes, of the run's length
pub take_front : (c : Class) (bs : List ℕ) → take (length (front_of c bs)) bs ≡ front_of c bs
take_front c [] = refl
take_front c (b ∷ bs) = chosen_front c b bs (belongs c b) (take_front c bs)

-- more digits give no smaller number
pub value_grows : (n : ℕ) (ds : List ℕ) → n ≤ value_from n ds
value_grows n [] = omega arith
value_grows n (d ∷ ds) = omega (arith, value_grows (10 * n + (d - 48)) ds)

shorter_cond : (t : Bool) (b : ℕ) (bs rest : List ℕ) → length rest ≤ length bs → length (cond t rest (b ∷ bs)) ≤ length (b ∷ bs)
shorter_cond true b bs rest h = omega (arith, h)
shorter_cond false b bs rest h = omega arith

pub behind_shorter : (c : Class) (bs : List ℕ) → length (behind c bs) ≤ length bs
behind_shorter c [] = omega arith
behind_shorter c (b ∷ bs) = shorter_cond (belongs c b) b bs (behind c bs) (behind_shorter c bs)

or_true : (a b : Bool) → a ≡ true → (a || b) ≡ true
or_true true b h = refl
or_true false b h = cc

or_right : (a b : Bool) → b ≡ true → (a || b) ≡ true
or_right true b h = refl
or_right false b h = h

word_shorter : (b : ℕ) (bs : List ℕ) (t : Bool) → t ≡ true → length (behind classes.Word bs) ≤ length bs → length (cond t (behind classes.Word bs) (b ∷ bs)) < length (b ∷ bs)
word_shorter b bs true h k = omega (arith, k)
word_shorter b bs false h k = cc

-- a word has at least one byte
pub letter_behind : (bs : List ℕ) → starts_letter bs ≡ true → length (behind classes.Word bs) < length bs
letter_behind [] h = cc
letter_behind (b ∷ bs) h = word_shorter b bs (belongs classes.Word b) (or_true (is_letter b) (is_digit b) h) (behind_shorter classes.Word bs)

pub digit_behind : (bs : List ℕ) → starts_digit bs ≡ true → length (behind classes.Word bs) < length bs
digit_behind [] h = cc
digit_behind (b ∷ bs) h = word_shorter b bs (belongs classes.Word b) (or_right (is_letter b) (is_digit b) h) (behind_shorter classes.Word bs)

-- the bytes read so far are the run if it ends here
pub cut_front : (c : Class) (bytes rest : List ℕ) → front_of c rest ≡ [] → length bytes + length (front_of c rest) ≡ length rest + length (front_of c bytes) → length rest ≤ length bytes → take (length bytes - length rest) bytes ≡ front_of c bytes
cut_front c bytes rest e h k =
    let n : length bytes - length rest ≡ length (front_of c bytes) = omega (arith, ap length e) in
    ap (λ n. take n bytes) n ∙ take_front c bytes

take_whole : (bs : List ℕ) → take (length bs) bs ≡ bs
take_whole [] = refl
take_whole (b ∷ bs) = ap (λ x. b ∷ x) (take_whole bs)

stops_cond : (t : Bool) (x : List ℕ) → false ≡ t → cond t x [] ≡ []
stops_cond true x h = cc
stops_cond false x h = refl

pub stops_front : (c : Class) (rest : List ℕ) → false ≡ belongs c (get_or rest 0 0) → front_of c rest ≡ []
stops_front c [] h = refl
stops_front c (b ∷ rest) h = stops_cond (belongs c b) (b ∷ front_of c rest) h

pub whole_run : (c : Class) (bytes rest : List ℕ) → length rest < 1 → length bytes + length (front_of c rest) ≡ length rest + length (front_of c bytes) → bytes ≡ front_of c bytes
whole_run c bytes [] e h =
    let n : length bytes ≡ length (front_of c bytes) = omega arith in
    sym (take_whole bytes) ∙ (ap (λ n. take n bytes) n ∙ take_front c bytes)
whole_run c bytes (b ∷ rest) e h = absurd (omega (arith, e))

-- where no byte is left, the tokens end
pub nothing_left : (total : ℕ) (fresh : Bool) (rest : List ℕ) → length rest < 1 → Lexes total fresh rest []
nothing_left total fresh [] h = Ended
nothing_left total fresh (b ∷ rest) h = absurd (omega (arith, h))
