-- A text has only one list of tokens: its first piece is a function of its bytes.
use Rattle.std.proofs.Common.{◌≡◌, ◌≢◌, ℕ, ◌+◌, ◌<◌, Bool, true, false, cond, ◌||◌, ◌&&◌, ◌==◌, nat_lt, if◌then◌else◌, List, [], ◌∷◌, length, drop, Option, Some, None, pos, ◌⊎◌, inl, inr, refl, sym, ap, ◌∙◌, subst, arith}
use Rattle.std.proofs.lemmas.Bool.{eqb-true, ltb-true, le-ltb, ne_eqb}
use Rattle.cilk_syntax.specs.declared.token.Kind.{Kind}
use Rattle.cilk_syntax.specs.declared.token.Kind.TheVariants as kinds
use Rattle.cilk_syntax.specs.declared.token.Token.{Token}
use Rattle.cilk_syntax.specs.Kinds.{is_reserved, spelling}
use Rattle.cilk_syntax.specs.declared.lexer.Class.TheVariants as classes
use Rattle.cilk_syntax.specs.Gaps.{Gap}
use Rattle.cilk_syntax.specs.Gaps as gaps
use Rattle.cilk_syntax.specs.Lexing.{is_blank, is_digit, is_letter, belongs, front_of, behind, begins_with, after_close, value_of, starts_digit, starts_letter, Passes, Spells, Lexes, Ended, Skipped, Found, AreTokens}

never : {A : Type 0} → false ≡ true → A
never h = cc

same_bytes : List ℕ → List ℕ → Bool
same_bytes [] [] = true
same_bytes [] (c ∷ cs) = false
same_bytes (b ∷ bs) [] = false
same_bytes (b ∷ bs) (c ∷ cs) = (b == c) && same_bytes bs cs

both : (a b : Bool) → (a && b) ≡ true → (a ≡ true) × (b ≡ true)
both true b h = (refl, h)
both false b h = never h

pub same_byte : (b c : ℕ) → (b == c) ≡ true → b ≡ c
same_byte b c h = eqb-true b c h

same_are : (bs cs : List ℕ) → same_bytes bs cs ≡ true → bs ≡ cs
unfolding same_bytes
same_are [] [] h = refl
same_are [] (c ∷ cs) h = never h
same_are (b ∷ bs) [] h = never h
same_are (b ∷ bs) (c ∷ cs) h =
    let p = both (b == c) (same_bytes bs cs) h in
    ap (λ x. x ∷ bs) (same_byte b c p.0) ∙ ap (λ x. c ∷ x) (same_are bs cs p.1)

-- the reserved word, or a name
pub named : List Kind → List ℕ → Kind
named [] w = kinds.Name
named (k ∷ ks) w = cond (same_bytes w (spelling k)) k (named ks w)

pub words : List Kind
words = kinds.Int ∷ kinds.Void ∷ kinds.If ∷ kinds.Else ∷ kinds.While ∷ kinds.For ∷ kinds.Return ∷ kinds.CilkSpawn ∷ kinds.CilkSync ∷ kinds.CilkFor ∷ kinds.CilkReducer ∷ kinds.Print ∷ kinds.Update ∷ kinds.Set ∷ kinds.Value ∷ kinds.Input ∷ kinds.InputCount ∷ []

pub data Front : Type 0 where
  Skips : (fresh : Bool) (rest : List ℕ) → Front
  Cuts : (kind : Kind) (rest : List ℕ) → Front
  Stops : Front

abbrev closed : Option (List ℕ) → Front
closed (Some rest) = Skips false rest
closed None = Stops

abbrev longer : ℕ → Kind → Kind → List ℕ → Front
longer c long short bs = cond (begins_with c bs) (Cuts long (drop 1 bs)) (Cuts short bs)

abbrev twice : ℕ → Kind → List ℕ → Front
twice c long bs = cond (begins_with c bs) (Cuts long (drop 1 bs)) Stops

abbrev mark : ℕ → List ℕ → Front
mark b bs =
    if b == 40 then Cuts kinds.Open bs else if b == 41 then Cuts kinds.Close bs else
    if b == 123 then Cuts kinds.OpenBrace bs else if b == 125 then Cuts kinds.CloseBrace bs else
    if b == 91 then Cuts kinds.OpenBracket bs else if b == 93 then Cuts kinds.CloseBracket bs else
    if b == 59 then Cuts kinds.Semicolon bs else if b == 44 then Cuts kinds.Comma bs else
    if b == 37 then Cuts kinds.Percent bs else
    if b == 61 then longer 61 kinds.Equal kinds.Assign bs else
    if b == 43 then cond (begins_with 61 bs) (Cuts kinds.PlusAssign (drop 1 bs)) (longer 43 kinds.Increment kinds.Plus bs) else
    if b == 45 then cond (begins_with 61 bs) (Cuts kinds.MinusAssign (drop 1 bs)) (longer 45 kinds.Decrement kinds.Minus bs) else
    if b == 42 then longer 61 kinds.StarAssign kinds.Star bs else
    if b == 60 then longer 61 kinds.LessEqual kinds.Less bs else
    if b == 62 then longer 61 kinds.GreaterEqual kinds.Greater bs else
    if b == 33 then longer 61 kinds.NotEqual kinds.Not bs else
    if b == 38 then twice 38 kinds.And bs else
    if b == 124 then twice 124 kinds.Or bs else
    if b == 47 then cond (begins_with 47 bs) (Skips false (behind classes.Line (drop 1 bs))) (cond (begins_with 42 bs) (closed (after_close (drop 1 bs))) (Cuts kinds.Slash bs)) else
    Stops

abbrev cut_word : ℕ → List ℕ → Front
cut_word b bs = Cuts (named words (front_of classes.Word (b ∷ bs))) (behind classes.Word (b ∷ bs))

abbrev cut_number : ℕ → List ℕ → Front
cut_number b bs = Cuts (kinds.Number (pos (value_of (front_of classes.Word (b ∷ bs))))) (behind classes.Word (b ∷ bs))

abbrev sign : ℕ → List ℕ → Front
sign b bs = cond (b == 35) (Skips false (behind classes.Line bs)) (mark b bs)

abbrev blank_or_sign : Bool → ℕ → List ℕ → Front
blank_or_sign fresh b bs = cond (is_blank b) (Skips (fresh || b == 10) bs) (sign b bs)

-- the first piece
abbrev pub front : Bool → List ℕ → Front
front fresh [] = Stops
front fresh (b ∷ bs) = cond (is_letter b) (cut_word b bs) (cond (is_digit b) (cut_number b bs) (blank_or_sign fresh b bs))

no_letter : (b : ℕ) → nat_lt 64 b ≡ false → nat_lt 96 b ≡ false → (b == 95) ≡ false → is_letter b ≡ false
no_letter b x y z =
    ap (λ t. ((t && nat_lt b 91) || (nat_lt 96 b && nat_lt b 123)) || (b == 95)) x ∙ (ap (λ t. (t && nat_lt b 123) || (b == 95)) y ∙ z)

below_64 : (b : ℕ) → b < 58 → nat_lt 64 b ≡ false
below_64 b h = le-ltb 64 b (omega (arith, h))

below_96 : (b : ℕ) → b < 58 → nat_lt 96 b ≡ false
below_96 b h = le-ltb 96 b (omega (arith, h))

not_95 : (b : ℕ) → b < 58 → (b == 95) ≡ false
not_95 b h = ne_eqb b 95 (λ e. omega (arith, h, e))

pub low_no_letter : (b : ℕ) → b < 58 → is_letter b ≡ false
low_no_letter b h = no_letter b (below_64 b h) (below_96 b h) (not_95 b h)

below_58 : (b : ℕ) → nat_lt b 58 ≡ true → b < 58
below_58 b h = ltb-true b 58 h

pub digit_no_letter : (b : ℕ) → is_digit b ≡ true → is_letter b ≡ false
digit_no_letter b h = low_no_letter b (below_58 b (both (nat_lt 47 b) (nat_lt b 58) h).1)

is_32 : (b : ℕ) → (b == 32) ≡ true → b < 33
is_32 b h = omega (arith, eqb-true b 32 h)

below_14 : (b : ℕ) → nat_lt b 14 ≡ true → b < 33
below_14 b h = omega (arith, ltb-true b 14 h)

either : (a c : Bool) → (a || c) ≡ true → (a ≡ true) ⊎ (c ≡ true)
either true c h = inl refl
either false c h = inr h

pub blank_low : (b : ℕ) → is_blank b ≡ true → b < 33
blank_low b h = choose (either (b == 32) (nat_lt 8 b && nat_lt b 14) h)
  where
    choose : ((b == 32) ≡ true) ⊎ ((nat_lt 8 b && nat_lt b 14) ≡ true) → b < 33
    choose (inl e) = is_32 b e
    choose (inr e) = below_14 b (both (nat_lt 8 b) (nat_lt b 14) e).1

pub below_47 : (b : ℕ) → b < 33 → nat_lt 47 b ≡ false
below_47 b h = le-ltb 47 b (omega (arith, h))

word_front : (fresh : Bool) (bytes : List ℕ) → starts_letter bytes ≡ true → front fresh bytes ≡ Cuts (named words (front_of classes.Word bytes)) (behind classes.Word bytes)
word_front fresh [] h = cc
word_front fresh (b ∷ bs) h = ap (λ t. cond t (cut_word b bs) (cond (is_digit b) (cut_number b bs) (blank_or_sign fresh b bs))) h

number_front : (fresh : Bool) (bytes : List ℕ) → starts_digit bytes ≡ true → front fresh bytes ≡ Cuts (kinds.Number (pos (value_of (front_of classes.Word bytes)))) (behind classes.Word bytes)
number_front fresh [] h = cc
number_front fresh (b ∷ bs) h =
    ap (λ t. cond t (cut_word b bs) (cond (is_digit b) (cut_number b bs) (blank_or_sign fresh b bs))) (digit_no_letter b h)
    ∙ ap (λ t. cond t (cut_number b bs) (blank_or_sign fresh b bs)) h

blank_front : (fresh : Bool) (b : ℕ) (bs : List ℕ) → is_blank b ≡ true → front fresh (b ∷ bs) ≡ Skips (fresh || b == 10) bs
blank_front fresh b bs h =
    ap (λ t. cond t (cut_word b bs) (cond (is_digit b) (cut_number b bs) (blank_or_sign fresh b bs))) (low_no_letter b (omega (arith, blank_low b h)))
    ∙ (ap (λ t. cond (t && nat_lt b 58) (cut_number b bs) (blank_or_sign fresh b bs)) (below_47 b (blank_low b h))
    ∙ ap (λ t. cond t (Skips (fresh || b == 10) bs) (sign b bs)) h)

-- the first byte of a word
first_byte : (t : Bool) (b c : ℕ) (x cs : List ℕ) → cond t (b ∷ x) [] ≡ c ∷ cs → b ≡ c
first_byte true b c x cs h = cc
first_byte false b c x cs h = cc

pub letter_of : (bytes w : List ℕ) → front_of classes.Word bytes ≡ w → starts_letter w ≡ true → starts_letter bytes ≡ true
letter_of [] w e h = subst (λ x. starts_letter x ≡ true) (sym e) h
letter_of (b ∷ bs) [] e h = cc
letter_of (b ∷ bs) (c ∷ cs) e h = ap is_letter (first_byte (belongs classes.Word b) b c (front_of classes.Word bs) cs e) ∙ h

word_named : (k : Kind) → is_reserved k ≡ true → named words (spelling k) ≡ k
unfolding named words same_bytes
word_named kinds.Int h = refl
word_named kinds.Void h = refl
word_named kinds.If h = refl
word_named kinds.Else h = refl
word_named kinds.While h = refl
word_named kinds.For h = refl
word_named kinds.Return h = refl
word_named kinds.CilkSpawn h = refl
word_named kinds.CilkSync h = refl
word_named kinds.CilkFor h = refl
word_named kinds.CilkReducer h = refl
word_named kinds.Print h = refl
word_named kinds.Update h = refl
word_named kinds.Set h = refl
word_named kinds.Value h = refl
word_named kinds.Input h = refl
word_named kinds.InputCount h = refl
word_named _ h = never h

word_starts : (k : Kind) → is_reserved k ≡ true → starts_letter (spelling k) ≡ true
word_starts kinds.Int h = refl
word_starts kinds.Void h = refl
word_starts kinds.If h = refl
word_starts kinds.Else h = refl
word_starts kinds.While h = refl
word_starts kinds.For h = refl
word_starts kinds.Return h = refl
word_starts kinds.CilkSpawn h = refl
word_starts kinds.CilkSync h = refl
word_starts kinds.CilkFor h = refl
word_starts kinds.CilkReducer h = refl
word_starts kinds.Print h = refl
word_starts kinds.Update h = refl
word_starts kinds.Set h = refl
word_starts kinds.Value h = refl
word_starts kinds.Input h = refl
word_starts kinds.InputCount h = refl
word_starts _ h = never h

-- a word that isn't reserved is a name
pub not_same : (t : Bool) → (t ≡ true → ⊥) → t ≡ false
not_same true h = absurd (h refl)
not_same false h = refl

abbrev Reserved : List Kind → Type 0
Reserved [] = Unit {0}
Reserved (k ∷ ks) = (is_reserved k ≡ true) × Reserved ks

named_none : (ks : List Kind) (w : List ℕ) → Reserved ks → ((k : Kind) → is_reserved k ≡ true → w ≢ spelling k) → named ks w ≡ kinds.Name
unfolding named
named_none [] w r h = refl
named_none (k ∷ ks) w r h =
    ap (λ t. cond t k (named ks w)) (not_same (same_bytes w (spelling k)) (λ e. h k r.0 (same_are w (spelling k) e))) ∙ named_none ks w r.1 h

words_reserved : Reserved words
unfolding words
words_reserved = (refl, (refl, (refl, (refl, (refl, (refl, (refl, (refl, (refl, (refl, (refl, (refl, (refl, (refl, (refl, (refl, (refl, tt)))))))))))))))))

reserved_front : (k : Kind) (fresh : Bool) (bytes rest : List ℕ) → is_reserved k ≡ true → (front_of classes.Word bytes ≡ spelling k) × (rest ≡ behind classes.Word bytes) → front fresh bytes ≡ Cuts k rest
reserved_front k fresh bytes rest r h =
    word_front fresh bytes (letter_of bytes (spelling k) h.0 (word_starts k r))
    ∙ (ap (λ w. Cuts (named words w) (behind classes.Word bytes)) h.0
    ∙ (ap (λ x. Cuts x (behind classes.Word bytes)) (word_named k r) ∙ ap (λ x. Cuts k x) (sym h.1)))

pub spells_front : (k : Kind) (fresh : Bool) (bytes rest : List ℕ) → Spells k bytes rest → front fresh bytes ≡ Cuts k rest
spells_front (kinds.Number n) fresh bytes rest h =
    number_front fresh bytes h.0 ∙ (ap (λ x. Cuts (kinds.Number x) (behind classes.Word bytes)) (sym h.4) ∙ ap (λ x. Cuts (kinds.Number n) x) (sym h.1))
spells_front kinds.Name fresh bytes rest h =
    word_front fresh bytes h.0
    ∙ (ap (λ x. Cuts x (behind classes.Word bytes)) (named_none words (front_of classes.Word bytes) words_reserved h.2) ∙ ap (λ x. Cuts kinds.Name x) (sym h.1))
spells_front kinds.Int fresh bytes rest h = reserved_front kinds.Int fresh bytes rest refl h
spells_front kinds.Void fresh bytes rest h = reserved_front kinds.Void fresh bytes rest refl h
spells_front kinds.If fresh bytes rest h = reserved_front kinds.If fresh bytes rest refl h
spells_front kinds.Else fresh bytes rest h = reserved_front kinds.Else fresh bytes rest refl h
spells_front kinds.While fresh bytes rest h = reserved_front kinds.While fresh bytes rest refl h
spells_front kinds.For fresh bytes rest h = reserved_front kinds.For fresh bytes rest refl h
spells_front kinds.Return fresh bytes rest h = reserved_front kinds.Return fresh bytes rest refl h
spells_front kinds.CilkSpawn fresh bytes rest h = reserved_front kinds.CilkSpawn fresh bytes rest refl h
spells_front kinds.CilkSync fresh bytes rest h = reserved_front kinds.CilkSync fresh bytes rest refl h
spells_front kinds.CilkFor fresh bytes rest h = reserved_front kinds.CilkFor fresh bytes rest refl h
spells_front kinds.CilkReducer fresh bytes rest h = reserved_front kinds.CilkReducer fresh bytes rest refl h
spells_front kinds.Print fresh bytes rest h = reserved_front kinds.Print fresh bytes rest refl h
spells_front kinds.Update fresh bytes rest h = reserved_front kinds.Update fresh bytes rest refl h
spells_front kinds.Set fresh bytes rest h = reserved_front kinds.Set fresh bytes rest refl h
spells_front kinds.Value fresh bytes rest h = reserved_front kinds.Value fresh bytes rest refl h
spells_front kinds.Input fresh bytes rest h = reserved_front kinds.Input fresh bytes rest refl h
spells_front kinds.InputCount fresh bytes rest h = reserved_front kinds.InputCount fresh bytes rest refl h
spells_front kinds.Open fresh bytes rest h = ap (front fresh) h.0
spells_front kinds.Close fresh bytes rest h = ap (front fresh) h.0
spells_front kinds.OpenBrace fresh bytes rest h = ap (front fresh) h.0
spells_front kinds.CloseBrace fresh bytes rest h = ap (front fresh) h.0
spells_front kinds.OpenBracket fresh bytes rest h = ap (front fresh) h.0
spells_front kinds.CloseBracket fresh bytes rest h = ap (front fresh) h.0
spells_front kinds.Semicolon fresh bytes rest h = ap (front fresh) h.0
spells_front kinds.Comma fresh bytes rest h = ap (front fresh) h.0
spells_front kinds.Percent fresh bytes rest h = ap (front fresh) h.0
spells_front kinds.LessEqual fresh bytes rest h = ap (front fresh) h.0
spells_front kinds.GreaterEqual fresh bytes rest h = ap (front fresh) h.0
spells_front kinds.Equal fresh bytes rest h = ap (front fresh) h.0
spells_front kinds.NotEqual fresh bytes rest h = ap (front fresh) h.0
spells_front kinds.And fresh bytes rest h = ap (front fresh) h.0
spells_front kinds.Or fresh bytes rest h = ap (front fresh) h.0
spells_front kinds.PlusAssign fresh bytes rest h = ap (front fresh) h.0
spells_front kinds.MinusAssign fresh bytes rest h = ap (front fresh) h.0
spells_front kinds.StarAssign fresh bytes rest h = ap (front fresh) h.0
spells_front kinds.Increment fresh bytes rest h = ap (front fresh) h.0
spells_front kinds.Decrement fresh bytes rest h = ap (front fresh) h.0
spells_front kinds.Less fresh bytes rest h = ap (front fresh) h.0 ∙ ap (λ t. cond t (Cuts kinds.LessEqual (drop 1 rest)) (Cuts kinds.Less rest)) h.1
spells_front kinds.Greater fresh bytes rest h = ap (front fresh) h.0 ∙ ap (λ t. cond t (Cuts kinds.GreaterEqual (drop 1 rest)) (Cuts kinds.Greater rest)) h.1
spells_front kinds.Assign fresh bytes rest h = ap (front fresh) h.0 ∙ ap (λ t. cond t (Cuts kinds.Equal (drop 1 rest)) (Cuts kinds.Assign rest)) h.1
spells_front kinds.Not fresh bytes rest h = ap (front fresh) h.0 ∙ ap (λ t. cond t (Cuts kinds.NotEqual (drop 1 rest)) (Cuts kinds.Not rest)) h.1
spells_front kinds.Star fresh bytes rest h = ap (front fresh) h.0 ∙ ap (λ t. cond t (Cuts kinds.StarAssign (drop 1 rest)) (Cuts kinds.Star rest)) h.1
spells_front kinds.Plus fresh bytes rest h =
    ap (front fresh) h.0
    ∙ (ap (λ t. cond t (Cuts kinds.PlusAssign (drop 1 rest)) (longer 43 kinds.Increment kinds.Plus rest)) h.1.0 ∙ ap (λ t. cond t (Cuts kinds.Increment (drop 1 rest)) (Cuts kinds.Plus rest)) h.1.1)
spells_front kinds.Minus fresh bytes rest h =
    ap (front fresh) h.0
    ∙ (ap (λ t. cond t (Cuts kinds.MinusAssign (drop 1 rest)) (longer 45 kinds.Decrement kinds.Minus rest)) h.1.0 ∙ ap (λ t. cond t (Cuts kinds.Decrement (drop 1 rest)) (Cuts kinds.Minus rest)) h.1.1)
spells_front kinds.Slash fresh bytes rest h =
    ap (front fresh) h.0
    ∙ (ap (λ t. cond t (Skips false (behind classes.Line (drop 1 rest))) (cond (begins_with 42 rest) (closed (after_close (drop 1 rest))) (Cuts kinds.Slash rest))) h.1.0
    ∙ ap (λ t. cond t (closed (after_close (drop 1 rest))) (Cuts kinds.Slash rest)) h.1.1)

pub passes_front : (gap : Gap) (fresh : Bool) (bytes : List ℕ) (fresh' : Bool) (rest : List ℕ) → Passes gap fresh bytes fresh' rest → front fresh bytes ≡ Skips fresh' rest
passes_front gaps.Blank fresh bytes fresh' rest h =
    ap (front fresh) h.1 ∙ (blank_front fresh h.0 rest h.2 ∙ ap (λ x. Skips x rest) (sym h.3))
passes_front gaps.LineComment fresh bytes fresh' rest h =
    ap (front fresh) h.1 ∙ (ap (λ x. Skips false x) (sym h.2) ∙ ap (λ x. Skips x rest) (sym h.3))
passes_front gaps.BlockComment fresh bytes fresh' rest h =
    ap (front fresh) h.1 ∙ (ap closed h.2 ∙ ap (λ x. Skips x rest) (sym h.3))
passes_front gaps.Directive fresh bytes fresh' rest h =
    ap (front fresh) h.1 ∙ (ap (λ x. Skips false x) (sym h.4) ∙ ap (λ x. Skips x rest) (sym h.5))

-- the first piece of bytes that have a list of tokens
data View (total : ℕ) (fresh : Bool) (bytes : List ℕ) (ts : List Token) : Type 0 where
  Nothing : bytes ≡ [] → ts ≡ [] → View total fresh bytes ts
  Gapped : (fresh' : Bool) (rest : List ℕ) → front fresh bytes ≡ Skips fresh' rest → Lexes total fresh' rest ts → View total fresh bytes ts
  Cut : (t : Token) (rest : List ℕ) (more : List Token) → front fresh bytes ≡ Cuts t.kind rest → t.at + length bytes ≡ total → t.end + length rest ≡ total → Lexes total false rest more → ts ≡ t ∷ more → View total fresh bytes ts

view : (total : ℕ) (fresh : Bool) (bytes : List ℕ) (ts : List Token) → Lexes total fresh bytes ts → View total fresh bytes ts
view total fresh _ _ Ended = Nothing refl refl
view total fresh bytes ts (Skipped {fresh' = f} {rest = r} gap p h) = Gapped f r (passes_front gap fresh bytes f r p) h
view total fresh bytes _ (Found {rest = r} {ts = more} t s at end h) = Cut t r more (spells_front t.kind fresh bytes r s) at end h refl

last : (total : ℕ) (fresh : Bool) (us : List Token) → View total fresh [] us → [] ≡ us
last total fresh us (Nothing e f) = sym f
last total fresh us (Gapped f r p h) = cc
last total fresh us (Cut t r more p at end h e) = cc

skip_step : (total : ℕ) (fresh : Bool) (bytes : List ℕ) (ts us : List Token) (fresh' : Bool) (rest : List ℕ) → front fresh bytes ≡ Skips fresh' rest → ((vs : List Token) → Lexes total fresh' rest vs → ts ≡ vs) → View total fresh bytes us → ts ≡ us
skip_step total fresh bytes ts us fresh' rest p go (Nothing e f) =
    let x : Stops ≡ Skips fresh' rest = sym (ap (front fresh) e) ∙ p in cc
skip_step total fresh bytes ts us fresh' rest p go (Gapped f r q h) =
    let x : Skips fresh' rest ≡ Skips f r = sym p ∙ q in
    let ef : fresh' ≡ f = cc in
    let er : rest ≡ r = cc in
    go us (subst (λ y. Lexes total fresh' y us) (sym er) (subst (λ y. Lexes total y r us) (sym ef) h))
skip_step total fresh bytes ts us fresh' rest p go (Cut t r more q at end h e) =
    let x : Skips fresh' rest ≡ Cuts t.kind r = sym p ∙ q in cc

same_token : (t u : Token) → t.kind ≡ u.kind → t.at ≡ u.at → t.end ≡ u.end → t ≡ u
same_token t u k a e =
    let first : t ≡ record { kind = u.kind; at = t.at; end = t.end } = ap (λ x. record { kind = x; at = t.at; end = t.end }) k in
    let second : record { kind = u.kind; at = t.at; end = t.end } ≡ record { kind = u.kind; at = u.at; end = t.end } = ap (λ x. record { kind = u.kind; at = x; end = t.end }) a in
    let third : record { kind = u.kind; at = u.at; end = t.end } ≡ u = ap (λ x. record { kind = u.kind; at = u.at; end = x }) e in
    first ∙ (second ∙ third)

token_step : (total : ℕ) (fresh : Bool) (bytes : List ℕ) (t : Token) (rest : List ℕ) (more us : List Token) → front fresh bytes ≡ Cuts t.kind rest → t.at + length bytes ≡ total → t.end + length rest ≡ total → ((vs : List Token) → Lexes total false rest vs → more ≡ vs) → View total fresh bytes us → t ∷ more ≡ us
token_step total fresh bytes t rest more us p at end go (Nothing e f) =
    let x : Stops ≡ Cuts t.kind rest = sym (ap (front fresh) e) ∙ p in cc
token_step total fresh bytes t rest more us p at end go (Gapped f r q h) =
    let x : Cuts t.kind rest ≡ Skips f r = sym p ∙ q in cc
token_step total fresh bytes t rest more us p at end go (Cut u r vs q at' end' h e) =
    let x : Cuts t.kind rest ≡ Cuts u.kind r = sym p ∙ q in
    let ek : t.kind ≡ u.kind = cc in
    let er : rest ≡ r = cc in
    let et : t ≡ u = same_token t u ek (omega (arith, at, at')) (omega (arith, end, end', ap length er)) in
    ap (λ y. y ∷ more) et ∙ (ap (λ y. u ∷ y) (go vs (subst (λ y. Lexes total false y vs) (sym er) h)) ∙ sym e)

one_list : (total : ℕ) (fresh : Bool) (bytes : List ℕ) (ts us : List Token) → Lexes total fresh bytes ts → Lexes total fresh bytes us → ts ≡ us
one_list total fresh _ _ us Ended k = last total fresh us (view total fresh [] us k)
one_list total fresh bytes ts us (Skipped {fresh' = f} {rest = r} gap p h) k =
    skip_step total fresh bytes ts us f r (passes_front gap fresh bytes f r p) (λ vs j. one_list total f r ts vs h j) (view total fresh bytes us k)
one_list total fresh bytes _ us (Found {rest = r} {ts = more} t s at end h) k =
    token_step total fresh bytes t r more us (spells_front t.kind fresh bytes r s) at end (λ vs j. one_list total false r more vs h j) (view total fresh bytes us k)

-- a text has only one list of tokens
pub unique : (text : List ℕ) (ts us : List Token) → AreTokens text ts → AreTokens text us → ts ≡ us
unique text ts us h k = one_list (length text) true text ts us h k
