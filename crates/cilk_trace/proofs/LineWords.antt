-- A line is read exactly where it is spelled: `line_sound`, and `line_again` with `line_fine`, which says that a spelling has no LF and
-- at most 64 bytes.
use Rattle.std.proofs.Common.{◌≡◌, ℕ, ◌+◌, ◌≤◌, Bool, true, false, cond, not, ◌&&◌, List, [], ◌∷◌, ◌++◌, length, Option, Some, refl, sym, ap, subst, ◌∙◌, append-nil, eqb, ltb, arith, length-append}
use Rattle.std.specs.Prelude.{codes}
use Rattle.std.specs.Fmt.{decimal}
use Rattle.std.specs.Str.{bytes_eq}
use Rattle.std.proofs.lemmas.Bool.{lt-ltb, ltb-true}
use Rattle.std.proofs.lemmas.Fmt.{length-decimal-le}
use Rattle.std.proofs.lemmas.Slice.Eq.{bytes_eq-Decides}
use Rattle.cilk_trace.specs.declared.line.Cells.{Cells}
use Rattle.cilk_trace.specs.declared.line.Line.{Line}
use Rattle.cilk_trace.specs.declared.line.Line.TheVariants as lines
use Rattle.cilk_trace.specs.declared.keyword.Keyword.{Keyword}
use Rattle.cilk_trace.specs.declared.keyword.Keyword.TheVariants as keywords
use Rattle.cilk_cert_text.specs.Words.{joined, words, number_at}
use Rattle.cilk_trace.specs.Lines.{line_words, spelled, IsNumber, AreCells, IsWithin, spelling, first_spelled, all_keywords, keyword_of, are_cells, cells_at, rest_at, words_line, line_of}
use Rattle.cilk_trace.specs.Reading.{HasNoLf, with_front}
use Rattle.cilk_trace.proofs.Readings.{no_lf_append}
use Rattle.cilk_cert_text.proofs.Spellings.{is_plain, are_plain, and_left, and_right, both, not_true, words_joined, joined_words, number_plain, number_again, bind_some, number_step, ended_step, prepend, some_is, cond_none}

-- ---- joined words have no LF

plain_line : (w : List ℕ) → is_plain w ≡ true → HasNoLf w
plain_line [] h = refl
plain_line (b ∷ w) h =
    let more = and_right (not (eqb b 32)) (not (eqb b 10) && is_plain w) h in
    let no_lf = not_true (eqb b 10) (and_left (not (eqb b 10)) (is_plain w) more) in
    rw no_lf (ap (with_front (b ∷ [])) (plain_line w (and_right (not (eqb b 10)) (is_plain w) more)))

joined_line : (w : List ℕ) (ws : List (List ℕ)) → are_plain (w ∷ ws) ≡ true → HasNoLf (joined (w ∷ ws))
joined_line w [] h = plain_line w (and_left (is_plain w) true h)
joined_line w (v ∷ ws) h =
    no_lf_append w (32 ∷ joined (v ∷ ws)) (plain_line w (and_left (is_plain w) (are_plain (v ∷ ws)) h))
    (ap (with_front (32 ∷ [])) (joined_line v ws (and_right (is_plain w) (are_plain (v ∷ ws)) h)))

-- ---- a line that is read is spelled so

keyword_first : (ks : List Keyword) (w : List ℕ) (k : Keyword) → first_spelled ks w ≡ Some k → w ≡ spelling k
keyword_first [] w k e = absurd cc
keyword_first (j ∷ ks) w k e = picked (keyword_first ks w k) (bytes_eq w (spelling j)) refl e where
  picked : (first_spelled ks w ≡ Some k → w ≡ spelling k) → (t : Bool) → bytes_eq w (spelling j) ≡ t → cond t (Some j) (first_spelled ks w) ≡ Some k → w ≡ spelling k
  picked later true p r = (bytes_eq-Decides w (spelling j)).0 p ∙ ap spelling (some_is j k r)
  picked later false p r = later r

keyword_sound : (w : List ℕ) (k : Keyword) → keyword_of w ≡ Some k → w ≡ spelling k
unfolding keyword_of
keyword_sound w k e = keyword_first all_keywords w k e

pub within : (f n : ℕ) → are_cells f n ≡ true → AreCells (record { first = f; count = n })
within f n e =
    let rest = and_right (ltb 0 n) (ltb n 4097 && ltb (f + n) 4294967297) e in
    let a = ltb-true 0 n (and_left (ltb 0 n) (ltb n 4097 && ltb (f + n) 4294967297) e) in
    let b = ltb-true n 4097 (and_left (ltb n 4097) (ltb (f + n) 4294967297) rest) in
    let c = ltb-true (f + n) 4294967297 (and_right (ltb n 4097) (ltb (f + n) 4294967297) rest) in
    record { first = omega (arith, a, c); some = omega (arith, a); few = omega (arith, b); within = omega (arith, c) }

-- cells before the words
record IsCells (ws : List (List ℕ)) (p : Cells × List (List ℕ)) : Type 0 where
  cells : AreCells p.0
  words : ws ≡ decimal p.0.first ∷ decimal p.0.count ∷ p.1

cells_sound : (ws : List (List ℕ)) (p : Cells × List (List ℕ)) → cells_at ws ≡ Some p → IsCells ws p
unfolding cells_at
cells_sound ws p e =
    let f = bind_some (number_at ws) _ p e in
    let n = bind_some (number_at f.0.1) _ p f.2 in
    let f' = number_step ws f.0 f.1 in
    let n' = number_step f.0.1 n.0 n.1 in
    let t = cond_none (are_cells f.0.0 n.0.0) _ p n.2 in
    let made : Cells × List (List ℕ) = (record { first = f.0.0; count = n.0.0 }, n.0.1) in
    subst (λ (q : Cells × List (List ℕ)). IsCells ws q) (some_is made p t.1)
    (record { cells = within f.0.0 n.0.0 t.0; words = f'.1 ∙ prepend _ _ _ n'.1 })

-- a line before the words
record IsRead (k : Keyword) (ws : List (List ℕ)) (p : Line × List (List ℕ)) : Type 0 where
  line : IsWithin p.0
  words : spelling k ∷ ws ≡ line_words p.0 ++ p.1

read_as : (k : Keyword) (ws : List (List ℕ)) (l : Line) (rest : List (List ℕ)) (p : Line × List (List ℕ)) → ◌≡◌ {A = Option (Line × List (List ℕ))} (Some (l, rest)) (Some p)
    → IsWithin l → spelling k ∷ ws ≡ line_words l ++ rest → IsRead k ws p
read_as k ws l rest p same line words =
    let made : Line × List (List ℕ) = (l, rest) in
    subst (λ (q : Line × List (List ℕ)). IsRead k ws q) (some_is made p same) (record { line = line; words = words })

-- two numbers before the words
record AreTwo (ws : List (List ℕ)) (a b : ℕ) (rest : List (List ℕ)) : Type 0 where
  one : IsNumber a
  other : IsNumber b
  words : ws ≡ decimal a ∷ decimal b ∷ rest

rest_sound : (k : Keyword) (ws : List (List ℕ)) (p : Line × List (List ℕ)) → rest_at k ws ≡ Some p → IsRead k ws p
unfolding rest_at
rest_sound keywords.Read ws p e =
    let k = bind_some (cells_at ws) _ p e in
    let s = bind_some (number_at k.0.1) _ p k.2 in
    let k' = cells_sound ws k.0 k.1 in
    let s' = number_step k.0.1 s.0 s.1 in
    read_as keywords.Read ws (lines.Read k.0.0 s.0.0) s.0.1 p s.2 (k'.cells, s'.0) (prepend _ _ _ (k'.words ∙ prepend _ _ _ (prepend _ _ _ s'.1)))
rest_sound keywords.Write ws p e =
    let k = bind_some (cells_at ws) _ p e in
    let s = bind_some (number_at k.0.1) _ p k.2 in
    let k' = cells_sound ws k.0 k.1 in
    let s' = number_step k.0.1 s.0 s.1 in
    read_as keywords.Write ws (lines.Write k.0.0 s.0.0) s.0.1 p s.2 (k'.cells, s'.0) (prepend _ _ _ (k'.words ∙ prepend _ _ _ (prepend _ _ _ s'.1)))
rest_sound keywords.Enter ws p e =
    let s = bind_some (number_at ws) _ p e in
    let s' = number_step ws s.0 s.1 in
    read_as keywords.Enter ws (lines.Enter s.0.0) s.0.1 p s.2 s'.0 (prepend _ _ _ s'.1)
rest_sound keywords.Spawned ws p e = read_as keywords.Spawned ws lines.Spawned ws p e tt refl
rest_sound keywords.Called ws p e = read_as keywords.Called ws lines.Called ws p e tt refl
rest_sound keywords.Sync ws p e = read_as keywords.Sync ws lines.Sync ws p e tt refl
rest_sound keywords.Clear ws p e =
    let k = bind_some (cells_at ws) _ p e in
    let k' = cells_sound ws k.0 k.1 in
    read_as keywords.Clear ws (lines.Clear k.0.0) k.0.1 p k.2 k'.cells (prepend _ _ _ k'.words)
rest_sound keywords.Create ws p e =
    let r = bind_some (number_at ws) _ p e in
    let s = bind_some (number_at r.0.1) _ p r.2 in
    let r' = number_step ws r.0 r.1 in
    let s' = number_step r.0.1 s.0 s.1 in
    read_as keywords.Create ws (lines.Create r.0.0 s.0.0) s.0.1 p s.2 (r'.0, s'.0) (prepend _ _ _ (r'.1 ∙ prepend _ _ _ s'.1))
rest_sound keywords.Update ws p e =
    let r = bind_some (number_at ws) _ p e in
    let s = bind_some (number_at r.0.1) _ p r.2 in
    let r' = number_step ws r.0 r.1 in
    let s' = number_step r.0.1 s.0 s.1 in
    read_as keywords.Update ws (lines.Update r.0.0 s.0.0) s.0.1 p s.2 (r'.0, s'.0) (prepend _ _ _ (r'.1 ∙ prepend _ _ _ s'.1))
rest_sound keywords.Value ws p e =
    let r = bind_some (number_at ws) _ p e in
    let s = bind_some (number_at r.0.1) _ p r.2 in
    let r' = number_step ws r.0 r.1 in
    let s' = number_step r.0.1 s.0 s.1 in
    read_as keywords.Value ws (lines.Value r.0.0 s.0.0) s.0.1 p s.2 (r'.0, s'.0) (prepend _ _ _ (r'.1 ∙ prepend _ _ _ s'.1))
rest_sound keywords.Retire ws p e =
    let r = bind_some (number_at ws) _ p e in
    let s = bind_some (number_at r.0.1) _ p r.2 in
    let r' = number_step ws r.0 r.1 in
    let s' = number_step r.0.1 s.0 s.1 in
    read_as keywords.Retire ws (lines.Retire r.0.0 s.0.0) s.0.1 p s.2 (r'.0, s'.0) (prepend _ _ _ (r'.1 ∙ prepend _ _ _ s'.1))
rest_sound keywords.Unseen ws p e =
    let s = bind_some (number_at ws) _ p e in
    let s' = number_step ws s.0 s.1 in
    read_as keywords.Unseen ws (lines.Unseen s.0.0) s.0.1 p s.2 s'.0 (prepend _ _ _ s'.1)
rest_sound keywords.End ws p e = read_as keywords.End ws lines.End ws p e tt refl

words_sound : (ws : List (List ℕ)) (x : Line) → words_line ws ≡ Some x → IsWithin x × (ws ≡ line_words x)
unfolding words_line
words_sound [] x e = absurd cc
words_sound (w ∷ ws) x e =
    let k = bind_some (keyword_of w) _ x e in
    let p = bind_some (rest_at k.0 ws) _ x k.2 in
    let p' = rest_sound k.0 ws p.0 p.1 in
    let d = ended_step p.0.0 x p.0.1 p.2 in
    let named : w ∷ ws ≡ spelling k.0 ∷ ws = ap (λ (t : List ℕ). t ∷ ws) (keyword_sound w k.0 k.1) in
    let all : w ∷ ws ≡ line_words p.0.0 = named ∙ (p'.words ∙ (ap (λ (t : List (List ℕ)). line_words p.0.0 ++ t) d.1 ∙ append-nil (line_words p.0.0))) in
    subst (λ (y : Line). IsWithin y × (w ∷ ws ≡ line_words y)) d.0 (p'.line, all)

-- a line that is read is within the limits, and the bytes are its spelling
pub line_sound : (bytes : List ℕ) (x : Line) → line_of bytes ≡ Some x → IsWithin x × (bytes ≡ spelled x)
line_sound bytes x e = let s = words_sound (words bytes) x e in (s.0, sym (joined_words bytes) ∙ ap joined s.1)

-- ---- a line that is spelled is read

cells_within : (k : Cells) → AreCells k → are_cells k.first k.count ≡ true
cells_within k h =
    let a = h.some in let b = h.few in let c = h.within in
    both (ltb 0 k.count) (ltb k.count 4097 && ltb (k.first + k.count) 4294967297) (lt-ltb 0 k.count (omega (arith, a)))
    (both (ltb k.count 4097) (ltb (k.first + k.count) 4294967297) (lt-ltb k.count 4097 (omega (arith, b))) (lt-ltb (k.first + k.count) 4294967297 (omega (arith, c))))

count_is_number : (k : Cells) → AreCells k → IsNumber k.count
count_is_number k h = let b = h.few in omega (arith, b)

cells_again : (k : Cells) (ws : List (List ℕ)) → AreCells k → cells_at (decimal k.first ∷ decimal k.count ∷ ws) ≡ Some (k, ws)
unfolding cells_at
cells_again k ws h = rw (number_again k.first (decimal k.count ∷ ws) h.first, number_again k.count ws (count_is_number k h), cells_within k h) refl

words_again : (x : Line) → IsWithin x → words_line (line_words x) ≡ Some x
unfolding words_line keyword_of rest_at
words_again (lines.Enter s) h = rw (number_again s [] h) refl
words_again lines.Spawned h = refl
words_again lines.Called h = refl
words_again lines.Sync h = refl
words_again (lines.Read k s) h = rw (cells_again k (decimal s ∷ []) h.0, number_again s [] h.1) refl
words_again (lines.Write k s) h = rw (cells_again k (decimal s ∷ []) h.0, number_again s [] h.1) refl
words_again (lines.Clear k) h = rw (cells_again k [] h) refl
words_again (lines.Create r s) h = rw (number_again r (decimal s ∷ []) h.0, number_again s [] h.1) refl
words_again (lines.Update r s) h = rw (number_again r (decimal s ∷ []) h.0, number_again s [] h.1) refl
words_again (lines.Value r s) h = rw (number_again r (decimal s ∷ []) h.0, number_again s [] h.1) refl
words_again (lines.Retire r s) h = rw (number_again r (decimal s ∷ []) h.0, number_again s [] h.1) refl
words_again (lines.Unseen s) h = rw (number_again s [] h) refl
words_again lines.End h = refl

-- the bytes of the words after the first one
abbrev extra : List (List ℕ) → ℕ
extra [] = 0
extra (w ∷ ws) = 1 + length w + extra ws

joined_length : (w : List ℕ) (ws : List (List ℕ)) → length (joined (w ∷ ws)) ≡ length w + extra ws
joined_length w [] = omega arith
joined_length w (v ∷ ws) = omega (arith, joined_length v ws, length-append w (32 ∷ joined (v ∷ ws)))

-- words without blanks, with at most this many bytes after the first
record Fine (most : ℕ) (ws : List (List ℕ)) : Type 0 where
  plain : are_plain ws ≡ true
  short : extra ws ≤ most

none : Fine 0 []
none = record { plain = refl; short = omega arith }

number : (most n : ℕ) (ws : List (List ℕ)) → IsNumber n → Fine most ws → Fine (11 + most) (decimal n ∷ ws)
number most n ws h f = record {
  plain = both (is_plain (decimal n)) (are_plain ws) (number_plain n h) f.plain;
  short = omega (arith, f.short, length-decimal-le 10 n (omega arith) (omega (arith, h)) (omega (arith, h)));
}

-- the words of a line
record IsFine (ws : List (List ℕ)) : Type 0 where
  first : List ℕ
  rest : List (List ℕ)
  most : ℕ
  words : ws ≡ first ∷ rest
  plain : is_plain first ≡ true
  fine : Fine most rest
  short : length first + most ≤ 64

one : (s : ℕ) → IsNumber s → Fine 11 (decimal s ∷ [])
one s h = number 0 s [] h none

two : (r s : ℕ) → IsNumber r → IsNumber s → Fine 22 (decimal r ∷ decimal s ∷ [])
two r s h k = number 11 r (decimal s ∷ []) h (one s k)

cells : (k : Cells) → AreCells k → Fine 22 (decimal k.first ∷ decimal k.count ∷ [])
cells k h = two k.first k.count h.first (count_is_number k h)

access : (k : Cells) (s : ℕ) → AreCells k → IsNumber s → Fine 33 (decimal k.first ∷ decimal k.count ∷ decimal s ∷ [])
access k s h i = number 22 k.first (decimal k.count ∷ decimal s ∷ []) h.first (two k.count s (count_is_number k h) i)

words_fine : (x : Line) → IsWithin x → IsFine (line_words x)
words_fine (lines.Enter s) h = record { first = codes "enter"; rest = decimal s ∷ []; most = 11; words = refl; plain = refl; fine = one s h; short = omega arith }
words_fine lines.Spawned h = record { first = codes "spawned"; rest = []; most = 0; words = refl; plain = refl; fine = none; short = omega arith }
words_fine lines.Called h = record { first = codes "called"; rest = []; most = 0; words = refl; plain = refl; fine = none; short = omega arith }
words_fine lines.Sync h = record { first = codes "sync"; rest = []; most = 0; words = refl; plain = refl; fine = none; short = omega arith }
words_fine (lines.Read k s) h = record { first = codes "read"; rest = decimal k.first ∷ decimal k.count ∷ decimal s ∷ []; most = 33; words = refl; plain = refl; fine = access k s h.0 h.1; short = omega arith }
words_fine (lines.Write k s) h = record { first = codes "write"; rest = decimal k.first ∷ decimal k.count ∷ decimal s ∷ []; most = 33; words = refl; plain = refl; fine = access k s h.0 h.1; short = omega arith }
words_fine (lines.Clear k) h = record { first = codes "clear"; rest = decimal k.first ∷ decimal k.count ∷ []; most = 22; words = refl; plain = refl; fine = cells k h; short = omega arith }
words_fine (lines.Create r s) h = record { first = codes "create"; rest = decimal r ∷ decimal s ∷ []; most = 22; words = refl; plain = refl; fine = two r s h.0 h.1; short = omega arith }
words_fine (lines.Update r s) h = record { first = codes "update"; rest = decimal r ∷ decimal s ∷ []; most = 22; words = refl; plain = refl; fine = two r s h.0 h.1; short = omega arith }
words_fine (lines.Value r s) h = record { first = codes "value"; rest = decimal r ∷ decimal s ∷ []; most = 22; words = refl; plain = refl; fine = two r s h.0 h.1; short = omega arith }
words_fine (lines.Retire r s) h = record { first = codes "retire"; rest = decimal r ∷ decimal s ∷ []; most = 22; words = refl; plain = refl; fine = two r s h.0 h.1; short = omega arith }
words_fine (lines.Unseen s) h = record { first = codes "unseen"; rest = decimal s ∷ []; most = 11; words = refl; plain = refl; fine = one s h; short = omega arith }
words_fine lines.End h = record { first = codes "end"; rest = []; most = 0; words = refl; plain = refl; fine = none; short = omega arith }

-- a spelling has no LF and at most 64 bytes, and is read as its line
pub record IsLine (bytes : List ℕ) (x : Line) : Type 0 where
  pub no_lf : HasNoLf bytes
  pub short : length bytes ≤ 64
  pub again : line_of bytes ≡ Some x

pub line_again : (x : Line) → IsWithin x → IsLine (spelled x) x
line_again x h =
    let f = words_fine x h in
    let all = both (is_plain f.first) (are_plain f.rest) f.plain f.fine.plain in
    let e : spelled x ≡ joined (f.first ∷ f.rest) = ap joined f.words in
    let l = ap length e in
    record {
      no_lf = subst HasNoLf (sym e) (joined_line f.first f.rest all);
      short = omega (arith, l, joined_length f.first f.rest, f.fine.short, f.short);
      again = ap words_line (ap words e ∙ (words_joined f.first f.rest all ∙ sym f.words)) ∙ words_again x h;
    }
