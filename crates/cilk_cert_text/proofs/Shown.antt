-- The words of a line are short and have no blanks.
use Rattle.std.proofs.Common.{◌≡◌, ℕ, ◌+◌, ◌≤◌, true, List, [], ◌∷◌, ◌++◌, length, Some, None, ℤ, refl, ap, ◌∙◌, append-nil, append_assoc, arith, length-append}
use Rattle.std.specs.Prelude.{codes}
use Rattle.std.specs.Fmt.{decimal, signed_decimal}
use Rattle.std.proofs.lemmas.Fmt.{length-decimal-le, length_signed_le}
use Rattle.cilk_cert_text.specs.declared.line.Version.{Version}
use Rattle.cilk_cert_text.specs.declared.line.Version.TheVariants.{One, Two}
use Rattle.cilk_cert_text.specs.declared.line.Reducer.{Reducer}
use Rattle.cilk_cert_text.specs.declared.line.Reducer.TheVariants.{Number, Place}
use Rattle.cilk_cert_text.specs.declared.line.Entry.{Entry}
use Rattle.cilk_cert_text.specs.declared.line.Entry.TheVariants as entries
use Rattle.cilk_cert_text.specs.declared.line.Size.{Size}
use Rattle.cilk_cert_text.specs.declared.line.Line.{Line}
use Rattle.cilk_cert_text.specs.declared.line.Line.TheVariants as lines
use Rattle.cilk_cert_text.specs.declared.line.Form.{Form}
use Rattle.cilk_cert_text.specs.declared.line.Form.TheVariants as forms
use Rattle.cilk_cert_text.specs.Words.{joined, words}
use Rattle.cilk_cert_text.specs.Lines.{reducer_words, entry_words, line_words, spelled, line_of, is_size}
use Rattle.cilk_cert_text.specs.Certificates.{IsNumber, IsValue, NamesReducer, IsEntry, IsAt}
use Rattle.cilk_cert_text.specs.Reading.{first_line}
use Rattle.cilk_cert_text.proofs.Readings.{first_some}
use Rattle.cilk_cert_text.proofs.Spellings.{is_plain, are_plain, both, number_plain, value_plain, words_joined, joined_line, size_within}
use Rattle.cilk_cert_text.proofs.Entries.{words_again}

-- the bytes of the words after the first one
abbrev pub extra : List (List ℕ) → ℕ
extra [] = 0
extra (w ∷ ws) = 1 + length w + extra ws

joined_length : (w : List ℕ) (ws : List (List ℕ)) → length (joined (w ∷ ws)) ≡ length w + extra ws
joined_length w [] = omega arith
joined_length w (v ∷ ws) = omega (arith, joined_length v ws, length-append w (32 ∷ joined (v ∷ ws)))

-- words without blanks, with at most this many bytes after the first
record Fine (most : ℕ) (ws : List (List ℕ)) : Type 0 where
  plain : are_plain ws ≡ true
  short : extra ws ≤ most

none : Fine 0 []
none = record { plain = refl; short = omega arith }

number : (most n : ℕ) (ws : List (List ℕ)) → IsNumber n → Fine most ws → Fine (11 + most) (decimal n ∷ ws)
number most n ws h f = record {
  plain = both (is_plain (decimal n)) (are_plain ws) (number_plain n h) f.plain;
  short = omega (arith, f.short, length-decimal-le 10 n (omega arith) (omega (arith, h)) (omega (arith, h)));
}

value : (most : ℕ) (z : ℤ) (ws : List (List ℕ)) → IsValue z → Fine most ws → Fine (21 + most) (signed_decimal z ∷ ws)
value most z ws h f = record {
  plain = both (is_plain (signed_decimal z)) (are_plain ws) (value_plain z h) f.plain;
  short = omega (arith, f.short, length_signed_le 19 z (omega (arith, h)) h);
}

reducer : (most : ℕ) (v : Version) (r : Reducer) (ws : List (List ℕ)) → NamesReducer v r → Fine most ws → Fine (22 + most) (reducer_words r ++ ws)
reducer most One (Number n) ws h f = let one = number most n ws h f in record { plain = one.plain; short = omega (arith, one.short) }
reducer most One (Place i) ws h f = absurd h
reducer most Two (Number n) ws h f = absurd h
reducer most Two (Place i) ws h f = let two = number (11 + most) i.frame (decimal i.place ∷ ws) h.0 (number most i.place ws h.1 f) in record { plain = two.plain; short = omega (arith, two.short) }

-- the words of a line
pub record Shown (ws : List (List ℕ)) : Type 0 where
  pub first : List ℕ
  pub rest : List (List ℕ)
  pub are : ws ≡ first ∷ rest
  pub plain : are_plain (first ∷ rest) ≡ true
  pub short : length first + extra rest ≤ 52

shown : (most : ℕ) (w : List ℕ) (ws : List (List ℕ)) → is_plain w ≡ true → Fine most ws → length w + most ≤ 52 → Shown (w ∷ ws)
shown most w ws p f h = record {
  first = w;
  rest = ws;
  are = refl;
  plain = both (is_plain w) (are_plain ws) p f.plain;
  short = omega (arith, f.short, h);
}

shown_entry : (v : Version) (e : Entry) → IsEntry v e → Shown (entry_words e)
shown_entry v (entries.Begin n) h = shown 11 (codes "begin") (decimal n ∷ []) refl (number 0 n [] h none) (omega arith)
shown_entry v (entries.Spawn n) h = shown 11 (codes "spawn") (decimal n ∷ []) refl (number 0 n [] h none) (omega arith)
shown_entry v (entries.Call n) h = shown 11 (codes "call") (decimal n ∷ []) refl (number 0 n [] h none) (omega arith)
shown_entry v (entries.Resume n) h = shown 11 (codes "resume") (decimal n ∷ []) refl (number 0 n [] h none) (omega arith)
shown_entry v entries.Sync h = shown 0 (codes "sync") [] refl none (omega arith)
shown_entry v entries.End h = shown 0 (codes "end") [] refl none (omega arith)
shown_entry v (entries.Read n z s) h = shown 43 (codes "read") _ refl (number 32 n _ h.0 (value 11 z _ h.1 (number 0 s [] h.2 none))) (omega arith)
shown_entry v (entries.Write n z) h = shown 32 (codes "write") _ refl (number 21 n _ h.0 (value 0 z [] h.1 none)) (omega arith)
shown_entry v (entries.Create r) h = rw (← append-nil (reducer_words r)) (shown 22 (codes "create") (reducer_words r ++ []) refl (reducer 0 v r [] h none) (omega arith))
shown_entry v (entries.Update r z) h = shown 43 (codes "update") _ refl (reducer 21 v r _ h.0 (value 0 z [] h.1 none)) (omega arith)
shown_entry v (entries.Set r z) h = shown 43 (codes "set") _ refl (reducer 21 v r _ h.0 (value 0 z [] h.1 none)) (omega arith)
shown_entry v (entries.Value r z) h = shown 43 (codes "value") _ refl (reducer 21 v r _ h.0 (value 0 z [] h.1 none)) (omega arith)
shown_entry v (entries.Print z) h = shown 21 (codes "print") _ refl (value 0 z [] h none) (omega arith)

pub shown_line : (form : Form) (x : Line) → IsAt form x → Shown (line_words x)
shown_line (forms.Frame k) (lines.Frame n f) h = shown 33 (codes "frame") _ refl (number 22 n _ h.0 (number 11 f.parent _ h.2.0 (number 0 f.ordinal [] h.2.1 none))) (omega arith)
shown_line (forms.Strand k) (lines.Strand n s) h = shown 44 (codes "strand") _ refl (number 33 n _ h.0 (number 22 s.frame _ h.2.0 (number 11 s.hebrew _ h.2.1 (number 0 s.class [] h.2.2 none)))) (omega arith)
shown_line (forms.Event v) (lines.Event e) h = shown_entry v e h
shown_line forms.Result (lines.Result z) h = shown 21 (codes "result") _ refl (value 0 z [] h none) (omega arith)
shown_line forms.End lines.End h = shown 0 (codes "end") [] refl none (omega arith)
shown_line _ _ h = absurd h

pub shown_version : (v : Version) → Shown (line_words (lines.Version v))
shown_version One = shown 2 (codes "cilkcert") (codes "1" ∷ []) refl (record { plain = refl; short = omega arith }) (omega arith)
shown_version Two = shown 2 (codes "cilkcert") (codes "2" ∷ []) refl (record { plain = refl; short = omega arith }) (omega arith)

pub shown_size : (s : Size) → is_size s ≡ true → Shown (line_words (lines.Size s))
shown_size s h =
    let b = size_within s h in
    shown 33 (codes "size") _ refl (number 22 s.events _ (omega arith) (number 11 s.frames _ (omega arith) (number 0 s.strands [] (omega arith) none))) (omega arith)

-- ---- consequences for its spelling

pub words_shown : (x : Line) → Shown (line_words x) → words (spelled x) ≡ line_words x
unfolding spelled
words_shown x s = rw s.are (words_joined s.first s.rest s.plain)

pub no_lf : (x : Line) → Shown (line_words x) → first_line (spelled x) ≡ None
unfolding spelled
no_lf x s = rw s.are (joined_line s.first s.rest s.plain)

pub short : (x : Line) → Shown (line_words x) → length (spelled x) ≤ 52
unfolding spelled
short x s = rw s.are (omega (arith, s.short, joined_length s.first s.rest))

-- the first line of a text
pub front_line : (x : Line) (text : List ℕ) → Shown (line_words x) → first_line ((spelled x ++ 10 ∷ []) ++ text) ≡ Some (spelled x, text)
front_line x text s =
    ap first_line (append_assoc (spelled x) (10 ∷ []) text)
    ∙ (first_some (spelled x) (10 ∷ text) [] text (no_lf x s) refl ∙ ap (λ (l : List ℕ). Some (l, text)) (append-nil (spelled x)))

pub line_again : (form : Form) (x : Line) → IsAt form x → line_of form (spelled x) ≡ Some x
unfolding line_of
line_again form x h = rw (words_shown x (shown_line form x h)) (words_again form x h)
