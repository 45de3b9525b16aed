-- A line's spelling is read as that line, and no other bytes are.
use Rattle.std.proofs.Common.{◌≡◌, ℕ, suc, ◌≤◌, Bool, true, false, cond, not, ◌&&◌, List, [], ◌∷◌, ◌++◌, Option, Some, None, ℤ, pos, negsuc, refl, sym, ap, subst, ◌∙◌, eqb, ltb, arith}
use Rattle.std.specs.Prelude.{option_map, codes}
use Rattle.std.specs.Fmt.{decimal, signed_decimal}
use Rattle.std.specs.Char.{is_ascii_digit}
use Rattle.std.specs.Str.{all_ascii_digits, bytes_eq}
use Rattle.std.proofs.lemmas.Bool.{eqb-true, ltb-true}
use Rattle.std.proofs.lemmas.Fmt.{digits_decimal}
use Rattle.std.proofs.lemmas.Slice.Eq.{bytes_eq-Decides}
use Rattle.cilk_cert_text.specs.declared.line.Version.{Version}
use Rattle.cilk_cert_text.specs.declared.line.Version.TheVariants.{One, Two}
use Rattle.cilk_cert_text.specs.declared.line.Size.{Size}
use Rattle.cilk_cert_text.specs.declared.line.Line.{Line}
use Rattle.cilk_cert_text.specs.declared.line.Line.TheVariants as lines
use Rattle.cilk_cert_text.specs.declared.line.Form.{Form}
use Rattle.cilk_cert_text.specs.declared.line.Form.TheVariants as forms
use Rattle.cilk_cert_text.specs.Words.{◌>>=◌, joined, words, with_first, number_of, value_of, number_at, value_at, first_of, behind, ended}
use Rattle.cilk_cert_text.specs.Lines.{version_word, line_words, version_of, version_line, is_size, size_line, frame_line, strand_line, result_line, end_line}
use Rattle.cilk_cert_text.specs.Certificates.{IsNumber, IsValue, IsAt}
use Rattle.cilk_cert_text.specs.Reading.{first_line}
use Rattle.cilk_cert_text.proofs.Numerals.{own, number_found, number_spelled, value_found, value_spelled}
use Rattle.cilk_cert_text.proofs.Readings.{first_none}

-- ---- words without blanks

-- it has no space and no LF
abbrev pub is_plain : List ℕ → Bool
is_plain [] = true
is_plain (b ∷ bs) = not (eqb b 32) && (not (eqb b 10) && is_plain bs)

abbrev pub are_plain : List (List ℕ) → Bool
are_plain [] = true
are_plain (w ∷ ws) = is_plain w && are_plain ws

pub and_left : (a b : Bool) → (a && b) ≡ true → a ≡ true
and_left true b h = refl
and_left false b h = absurd cc

pub and_right : (a b : Bool) → (a && b) ≡ true → b ≡ true
and_right true b h = h
and_right false b h = absurd cc

pub both : (a b : Bool) → a ≡ true → b ≡ true → (a && b) ≡ true
both true b h k = k
both false b h k = absurd cc

pub not_true : (a : Bool) → not a ≡ true → a ≡ false
not_true true h = absurd cc
not_true false h = refl

words_front : (w rest : List ℕ) → is_plain w ≡ true → words (w ++ 32 ∷ rest) ≡ w ∷ words rest
words_front [] rest h = refl
words_front (b ∷ w) rest h =
    let no_space = not_true (eqb b 32) (and_left (not (eqb b 32)) (not (eqb b 10) && is_plain w) h) in
    let plain = and_right (not (eqb b 10)) (is_plain w) (and_right (not (eqb b 32)) (not (eqb b 10) && is_plain w) h) in
    rw (no_space, words_front w rest plain) refl

words_last : (w : List ℕ) → is_plain w ≡ true → words w ≡ w ∷ []
words_last [] h = refl
words_last (b ∷ w) h =
    let no_space = not_true (eqb b 32) (and_left (not (eqb b 32)) (not (eqb b 10) && is_plain w) h) in
    let plain = and_right (not (eqb b 10)) (is_plain w) (and_right (not (eqb b 32)) (not (eqb b 10) && is_plain w) h) in
    rw (no_space, words_last w plain) refl

-- joined words are split again
pub words_joined : (w : List ℕ) (ws : List (List ℕ)) → are_plain (w ∷ ws) ≡ true → words (joined (w ∷ ws)) ≡ w ∷ ws
words_joined w [] h = words_last w (and_left (is_plain w) true h)
words_joined w (v ∷ ws) h =
    words_front w (joined (v ∷ ws)) (and_left (is_plain w) (are_plain (v ∷ ws)) h)
    ∙ ap (λ (x : List (List ℕ)). w ∷ x) (words_joined v ws (and_right (is_plain w) (are_plain (v ∷ ws)) h))

plain_line : (w : List ℕ) → is_plain w ≡ true → first_line w ≡ None
plain_line [] h = refl
plain_line (b ∷ w) h =
    let more = and_right (not (eqb b 32)) (not (eqb b 10) && is_plain w) h in
    let no_lf = not_true (eqb b 10) (and_left (not (eqb b 10)) (is_plain w) more) in
    rw (no_lf, plain_line w (and_right (not (eqb b 10)) (is_plain w) more)) refl

space_line : (l : List ℕ) → first_line l ≡ None → first_line (32 ∷ l) ≡ None
space_line l h = rw h refl

pub joined_line : (w : List ℕ) (ws : List (List ℕ)) → are_plain (w ∷ ws) ≡ true → first_line (joined (w ∷ ws)) ≡ None
joined_line w [] h = plain_line w (and_left (is_plain w) true h)
joined_line w (v ∷ ws) h =
    first_none w (32 ∷ joined (v ∷ ws)) (plain_line w (and_left (is_plain w) (are_plain (v ∷ ws)) h))
    (space_line (joined (v ∷ ws)) (joined_line v ws (and_right (is_plain w) (are_plain (v ∷ ws)) h)))

-- ---- split words are joined again

has_word_cond : (t : Bool) (b : ℕ) (ws : List (List ℕ)) → (w : List ℕ) × (vs : List (List ℕ)) × (cond t ([] ∷ ws) (with_first b ws) ≡ w ∷ vs)
has_word_cond true b ws = ([], ws, refl)
has_word_cond false b [] = (b ∷ [], [], refl)
has_word_cond false b (w ∷ ws) = (b ∷ w, ws, refl)

has_word : (l : List ℕ) → (w : List ℕ) × (ws : List (List ℕ)) × (words l ≡ w ∷ ws)
has_word [] = ([], [], refl)
has_word (b ∷ l) = has_word_cond (eqb b 32) b (words l)

joined_first : (b : ℕ) (w : List ℕ) (ws : List (List ℕ)) → joined (with_first b (w ∷ ws)) ≡ b ∷ joined (w ∷ ws)
joined_first b w [] = refl
joined_first b w (v ∷ ws) = refl

joined_cond : (t : Bool) (b : ℕ) (l w : List ℕ) (ws : List (List ℕ)) → eqb b 32 ≡ t → words l ≡ w ∷ ws → joined (words l) ≡ l → joined (cond t ([] ∷ words l) (with_first b (words l))) ≡ b ∷ l
joined_cond true b l w ws is e h =
    let same = eqb-true b 32 is in
    rw (same, e) (ap (λ (x : List ℕ). 32 ∷ x) (ap joined (sym e) ∙ h))
joined_cond false b l w ws is e h = rw e (joined_first b w ws ∙ ap (λ (x : List ℕ). b ∷ x) (ap joined (sym e) ∙ h))

pub joined_words : (l : List ℕ) → joined (words l) ≡ l
joined_words [] = refl
joined_words (b ∷ l) = let word = has_word l in joined_cond (eqb b 32) b l word.0 word.1 refl word.2 (joined_words l)

-- ---- numbers are plain

no_byte : (b k : ℕ) (t : Bool) → eqb b k ≡ t → is_ascii_digit b ≡ true → is_ascii_digit k ≡ false → not t ≡ true
no_byte b k false e d n = refl
no_byte b k true e d n =
    let clash : false ≡ true = sym n ∙ (ap is_ascii_digit (sym (eqb-true b k e)) ∙ d) in
    cc

digit_plain : (b : ℕ) → is_ascii_digit b ≡ true → (not (eqb b 32) ≡ true) × (not (eqb b 10) ≡ true)
digit_plain b h = (no_byte b 32 (eqb b 32) refl h refl, no_byte b 10 (eqb b 10) refl h refl)

digits_plain : (ds : List ℕ) → all_ascii_digits ds ≡ true → is_plain ds ≡ true
digits_plain [] h = refl
digits_plain (d ∷ ds) h =
    let here = digit_plain d (and_left (is_ascii_digit d) (all_ascii_digits ds) h) in
    both _ _ here.0 (both _ _ here.1 (digits_plain ds (and_right (is_ascii_digit d) (all_ascii_digits ds) h)))

pub number_plain : (n : ℕ) → IsNumber n → is_plain (decimal n) ≡ true
number_plain n h = digits_plain (decimal n) (digits_decimal own n (omega arith))

pub value_plain : (z : ℤ) → IsValue z → is_plain (signed_decimal z) ≡ true
value_plain (pos n) h = digits_plain (decimal n) (digits_decimal own n (omega arith))
value_plain (negsuc n) h = digits_plain (decimal (suc n)) (digits_decimal own (suc n) (omega arith))

-- ---- reading the first word

pub bind_some : {A B : Type 0} (o : Option A) (f : A → Option B) (y : B) → (o >>= f) ≡ Some y → (x : A) × (o ≡ Some x) × (f x ≡ Some y)
bind_some (Some x) f y e = (x, refl, e)
bind_some None f y e = absurd cc

pub behind_step : (word : List ℕ) (ws rest : List (List ℕ)) → behind word ws ≡ Some rest → ws ≡ word ∷ rest
behind_step word [] rest e = absurd cc
behind_step word (w ∷ ws) rest e = picked (bytes_eq w word) refl e where
  picked : (t : Bool) → bytes_eq w word ≡ t → cond t (Some ws) None ≡ Some rest → w ∷ ws ≡ word ∷ rest
  picked true same e =
      let is : w ≡ word = (bytes_eq-Decides w word).0 same in
      let tail : ws ≡ rest = cc in
      rw (is, tail) refl
  picked false same e = absurd cc

pub map_some : {A B : Type 0} (f : A → B) (o : Option A) (y : B) → option_map f o ≡ Some y → (x : A) × (o ≡ Some x) × (f x ≡ y)
map_some f (Some x) y e = (x, refl, cc)
map_some f None y e = absurd cc

pub number_step : (ws : List (List ℕ)) (p : ℕ × List (List ℕ)) → number_at ws ≡ Some p → IsNumber p.0 × (ws ≡ decimal p.0 ∷ p.1)
number_step [] p e = absurd cc
number_step (w ∷ ws) p e =
    let m = map_some (λ n. (n, ws)) (number_of w) p e in
    let s = number_spelled m.0 w m.1 in
    subst (λ (q : ℕ × List (List ℕ)). IsNumber q.0 × (w ∷ ws ≡ decimal q.0 ∷ q.1)) m.2 (s.0, ap (λ (x : List ℕ). x ∷ ws) s.1)

pub value_step : (ws : List (List ℕ)) (p : ℤ × List (List ℕ)) → value_at ws ≡ Some p → IsValue p.0 × (ws ≡ signed_decimal p.0 ∷ p.1)
value_step [] p e = absurd cc
value_step (w ∷ ws) p e =
    let m = map_some (λ n. (n, ws)) (value_of w) p e in
    let s = value_spelled m.0 w m.1 in
    subst (λ (q : ℤ × List (List ℕ)). IsValue q.0 × (w ∷ ws ≡ signed_decimal q.0 ∷ q.1)) m.2 (s.0, ap (λ (x : List ℕ). x ∷ ws) s.1)

pub ended_step : {A : Type 0} (x y : A) (ws : List (List ℕ)) → ended x ws ≡ Some y → (x ≡ y) × (ws ≡ [])
ended_step x y [] e = (cc, refl)
ended_step x y (w ∷ ws) e = absurd cc

-- the words of a line
pub record Spells (form : Form) (ws : List (List ℕ)) (x : Line) : Type 0 where
  pub at : IsAt form x
  pub words : ws ≡ line_words x

pub end_sound : (ws : List (List ℕ)) (x : Line) → end_line ws ≡ Some x → Spells forms.End ws x
unfolding end_line
end_sound ws x e =
    let a = bind_some (behind (codes "end") ws) _ x e in
    let b = ended_step lines.End x a.0 a.2 in
    subst (λ (y : Line). Spells forms.End ws y) b.0 (record { at = tt; words = behind_step (codes "end") ws a.0 a.1 ∙ ap (λ (t : List (List ℕ)). codes "end" ∷ t) b.1 })

pub result_sound : (ws : List (List ℕ)) (x : Line) → result_line ws ≡ Some x → Spells forms.Result ws x
unfolding result_line
result_sound ws x e =
    let a = bind_some (behind (codes "result") ws) _ x e in
    let b = bind_some (value_at a.0) _ x a.2 in
    let v = value_step a.0 b.0 b.1 in
    let c = ended_step (lines.Result b.0.0) x b.0.1 b.2 in
    subst (λ (y : Line). Spells forms.Result ws y) c.0 (record { at = v.0; words = behind_step (codes "result") ws a.0 a.1 ∙ ap (λ (t : List (List ℕ)). codes "result" ∷ t) (v.1 ∙ ap (λ (t : List (List ℕ)). signed_decimal b.0.0 ∷ t) c.1) })

-- one more word at the front
pub prepend : (w : List ℕ) (ws vs : List (List ℕ)) → ws ≡ vs → w ∷ ws ≡ w ∷ vs
prepend w ws vs e = ap (λ (t : List (List ℕ)). w ∷ t) e

pub some_is : {A : Type 0} (x y : A) → ◌≡◌ {A = Option A} (Some x) (Some y) → x ≡ y
some_is x y e = cc

pub cond_none : {A : Type 0} (t : Bool) (o : Option A) (y : A) → cond t o None ≡ Some y → (t ≡ true) × (o ≡ Some y)
cond_none true o y e = (refl, e)
cond_none false o y e = absurd cc

pub frame_sound : (k : ℕ) (ws : List (List ℕ)) (x : Line) → frame_line k ws ≡ Some x → Spells (forms.Frame k) ws x
unfolding frame_line
frame_sound k ws x e =
    let a = bind_some (behind (codes "frame") ws) _ x e in
    let n = bind_some (number_at a.0) _ x a.2 in
    let p = bind_some (number_at n.0.1) _ x n.2 in
    let o = bind_some (number_at p.0.1) _ x p.2 in
    let n' = number_step a.0 n.0 n.1 in
    let p' = number_step n.0.1 p.0 p.1 in
    let o' = number_step p.0.1 o.0 o.1 in
    let t = cond_none _ _ x o.2 in
    let d = ended_step (lines.Frame n.0.0 (record { parent = p.0.0; ordinal = o.0.0 })) x o.0.1 t.1 in
    subst (λ (y : Line). Spells (forms.Frame k) ws y) d.0 (record {
      at = (n'.0, eqb-true n.0.0 k t.0, (p'.0, o'.0));
      words = behind_step (codes "frame") ws a.0 a.1 ∙ prepend _ _ _ (n'.1 ∙ prepend _ _ _ (p'.1 ∙ prepend _ _ _ (o'.1 ∙ prepend _ _ _ d.1)));
    })

pub strand_sound : (k : ℕ) (ws : List (List ℕ)) (x : Line) → strand_line k ws ≡ Some x → Spells (forms.Strand k) ws x
unfolding strand_line
strand_sound k ws x e =
    let a = bind_some (behind (codes "strand") ws) _ x e in
    let n = bind_some (number_at a.0) _ x a.2 in
    let f = bind_some (number_at n.0.1) _ x n.2 in
    let h = bind_some (number_at f.0.1) _ x f.2 in
    let c = bind_some (number_at h.0.1) _ x h.2 in
    let n' = number_step a.0 n.0 n.1 in
    let f' = number_step n.0.1 f.0 f.1 in
    let h' = number_step f.0.1 h.0 h.1 in
    let c' = number_step h.0.1 c.0 c.1 in
    let t = cond_none _ _ x c.2 in
    let d = ended_step (lines.Strand n.0.0 (record { frame = f.0.0; hebrew = h.0.0; class = c.0.0 })) x c.0.1 t.1 in
    subst (λ (y : Line). Spells (forms.Strand k) ws y) d.0 (record {
      at = (n'.0, eqb-true n.0.0 k t.0, (f'.0, h'.0, c'.0));
      words = behind_step (codes "strand") ws a.0 a.1 ∙ prepend _ _ _ (n'.1 ∙ prepend _ _ _ (f'.1 ∙ prepend _ _ _ (h'.1 ∙ prepend _ _ _ (c'.1 ∙ prepend _ _ _ d.1))));
    })

-- ---- the first two lines

first_step : (ws : List (List ℕ)) (p : List ℕ × List (List ℕ)) → first_of ws ≡ Some p → ws ≡ p.0 ∷ p.1
first_step [] p e = absurd cc
first_step (w ∷ ws) p e = ap (λ (q : List ℕ × List (List ℕ)). q.0 ∷ q.1) (some_is (w, ws) p e)

version_step : (w : List ℕ) (v : Version) → version_of w ≡ Some v → w ≡ version_word v
version_step w v e = picked (bytes_eq w (codes "1")) (bytes_eq w (codes "2")) refl refl e where
  picked : (a b : Bool) → bytes_eq w (codes "1") ≡ a → bytes_eq w (codes "2") ≡ b → cond a (Some One) (cond b (Some Two) None) ≡ Some v → w ≡ version_word v
  picked true b p q r = (bytes_eq-Decides w (codes "1")).0 p ∙ ap version_word (some_is One v r)
  picked false true p q r = (bytes_eq-Decides w (codes "2")).0 q ∙ ap version_word (some_is Two v r)
  picked false false p q r = absurd cc

pub version_sound : (ws : List (List ℕ)) (v : Version) → version_line ws ≡ Some v → ws ≡ line_words (lines.Version v)
unfolding version_line
version_sound ws v e =
    let a = bind_some (behind (codes "cilkcert") ws) _ v e in
    let w = bind_some (first_of a.0) _ v a.2 in
    let n = bind_some (version_of w.0.0) _ v w.2 in
    let d = ended_step n.0 v w.0.1 n.2 in
    behind_step (codes "cilkcert") ws a.0 a.1 ∙ prepend _ _ _ (first_step a.0 w.0 w.1 ∙ (ap (λ (x : List ℕ). x ∷ w.0.1) (version_step w.0.0 n.0 n.1 ∙ ap version_word d.0) ∙ prepend _ _ _ d.1))

pub version_again : (v : Version) → version_line (line_words (lines.Version v)) ≡ Some v
unfolding version_line
version_again One = refl
version_again Two = refl

pub record SpellsSize (ws : List (List ℕ)) (s : Size) : Type 0 where
  pub few : is_size s ≡ true
  pub words : ws ≡ line_words (lines.Size s)

pub size_sound : (ws : List (List ℕ)) (s : Size) → size_line ws ≡ Some s → SpellsSize ws s
unfolding size_line
size_sound ws x e =
    let a = bind_some (behind (codes "size") ws) _ x e in
    let n = bind_some (number_at a.0) _ x a.2 in
    let f = bind_some (number_at n.0.1) _ x n.2 in
    let s = bind_some (number_at f.0.1) _ x f.2 in
    let n' = number_step a.0 n.0 n.1 in
    let f' = number_step n.0.1 f.0 f.1 in
    let s' = number_step f.0.1 s.0 s.1 in
    let size : Size = record { events = n.0.0; frames = f.0.0; strands = s.0.0 } in
    let z = bind_some (ended size s.0.1) _ x s.2 in
    let d = ended_step size z.0 s.0.1 z.1 in
    let t = cond_none (is_size z.0) (Some z.0) x z.2 in
    let same : size ≡ x = d.0 ∙ some_is z.0 x t.1 in
    let few : is_size size ≡ true = ap is_size d.0 ∙ t.0 in
    let spelled : ws ≡ line_words (lines.Size size) = behind_step (codes "size") ws a.0 a.1 ∙ prepend _ _ _ (n'.1 ∙ prepend _ _ _ (f'.1 ∙ prepend _ _ _ (s'.1 ∙ prepend _ _ _ d.1))) in
    subst (λ (y : Size). SpellsSize ws y) same (record { few = few; words = spelled })

-- ---- written numbers are read again

pub number_again : (n : ℕ) (ws : List (List ℕ)) → IsNumber n → number_at (decimal n ∷ ws) ≡ Some (n, ws)
number_again n ws h = rw (number_found n (decimal n) h refl) refl

pub value_again : (z : ℤ) (ws : List (List ℕ)) → IsValue z → value_at (signed_decimal z ∷ ws) ≡ Some (z, ws)
value_again z ws h = rw (value_found z (signed_decimal z) h refl) refl

size_bounds : (a b c : ℕ) → is_size (record { events = a; frames = b; strands = c }) ≡ true → (a ≤ 1000000) × (b ≤ 65536) × (c ≤ 1000000)
size_bounds a b c h =
    let first = ltb-true a 1000001 (and_left (ltb a 1000001) _ h) in
    let rest = and_right (ltb a 1000001) (ltb b 65537 && ltb c 1000001) h in
    let second = ltb-true b 65537 (and_left (ltb b 65537) (ltb c 1000001) rest) in
    let third = ltb-true c 1000001 (and_right (ltb b 65537) (ltb c 1000001) rest) in
    (omega arith, omega arith, omega arith)

pub size_within : (s : Size) → is_size s ≡ true → (s.events ≤ 1000000) × (s.frames ≤ 65536) × (s.strands ≤ 1000000)
size_within s h = size_bounds s.events s.frames s.strands h

pub size_again : (s : Size) → is_size s ≡ true → size_line (line_words (lines.Size s)) ≡ Some s
unfolding size_line
size_again s few =
    let b = size_within s few in
    rw (number_again s.events (decimal s.frames ∷ decimal s.strands ∷ []) (omega arith), number_again s.frames (decimal s.strands ∷ []) (omega arith), number_again s.strands [] (omega arith), few) refl
