-- A text form is read whole exactly where it is a trace's: `text_sound` and `text_again`.
use Rattle.std.proofs.Common.{◌≡◌, ℕ, ◌+◌, ◌<◌, ◌≤◌, ◌⊎◌, inl, inr, Bool, true, false, cond, ◌&&◌, List, [], ◌∷◌, ◌++◌, length, Option, Some, None, refl, sym, ap, subst, ◌∙◌, eqb, ltb, arith}
use Rattle.std.specs.Prelude.{codes, option_map}
use Rattle.std.specs.Str.{bytes_eq}
use Rattle.std.proofs.lemmas.Bool.{lt-ltb, ltb-true, eqb-true}
use Rattle.std.proofs.lemmas.Slice.Eq.{bytes_eq-Decides}
use Rattle.cilk_trace.specs.declared.line.Line.{Line}
use Rattle.cilk_trace.specs.declared.line.Line.TheVariants as lines
use Rattle.cilk_trace.specs.declared.fault.TraceFault.{TraceFault}
use Rattle.cilk_trace.specs.declared.fault.TraceFault.TheVariants.{Malformed, Truncated}
use Rattle.cilk_trace.specs.declared.place.Place.{Place}
use Rattle.cilk_trace.specs.declared.place.Place.TheVariants.{Header, Lines, Over}
use Rattle.cilk_trace.specs.Lines.{spelled, line_of}
use Rattle.cilk_trace.specs.Reading.{TextLines, lines_after, with_front, with_lf, text_lines, Reading, stops, with_lines, after_line, line_at, numbered, taken, reading, text_reading}
use Rattle.cilk_trace.specs.TextReaders.{reading_lines}
use Rattle.cilk_trace.specs.Texts.{lines_text, AreWithin, EndsOnce, IsText}
use Rattle.cilk_trace.proofs.Readings.{rest_after, line_law}
use Rattle.cilk_cert_text.proofs.Spellings.{and_right, both, map_some, some_is, cond_none}
use Rattle.cilk_trace.proofs.LineWords.{line_sound, line_again}

-- ---- lines of a text, joined again

unlines : List (List ℕ) → List ℕ → List ℕ
unlines [] last = last
unlines (l ∷ ls) last = l ++ 10 ∷ unlines ls last

abbrev unlined : TextLines → List ℕ
unlined c = unlines c.each c.last

front_unlined : (b : ℕ) (ls : List (List ℕ)) (last : List ℕ) → unlined (lines_after (b ∷ []) ls last) ≡ b ∷ unlines ls last
unfolding unlines
front_unlined b [] last = refl
front_unlined b (l ∷ ls) last = refl

joined_by : (t : Bool) (b : ℕ) (bs : List ℕ) → eqb b 10 ≡ t → unlined (text_lines bs) ≡ bs → unlined (cond t (with_lf (text_lines bs)) (with_front (b ∷ []) (text_lines bs))) ≡ b ∷ bs
unfolding unlines
joined_by true b bs e h = ap (λ (x : List ℕ). 10 ∷ x) h ∙ ap (λ (x : ℕ). x ∷ bs) (sym (eqb-true b 10 e))
joined_by false b bs e h = front_unlined b (text_lines bs).each (text_lines bs).last ∙ ap (λ (x : List ℕ). b ∷ x) h

lines_joined : (bytes : List ℕ) → unlined (text_lines bytes) ≡ bytes
unfolding unlines
lines_joined [] = refl
lines_joined (b ∷ bs) = joined_by (eqb b 10) b bs refl (lines_joined bs)

-- ---- a text that is read whole

-- the text form of a trace
pub record IsTextTrace (text : List ℕ) (ls : List Line) : Type 0 where
  pub form : IsText text ls
  pub within : AreWithin ls
  pub ends : EndsOnce ls
  pub few : length ls + 1 < 4294967295

abbrev pub read_as : List Line → Reading
read_as ls = record { lines = ls; fault = None }

pub no_stop : (f : TraceFault) (ls : List Line) → stops f ≡ read_as ls → ⊥
no_stop f ls e = let q : Some f ≡ None = ap (λ (r : Reading). r.fault) e in cc q

pub taken_whole : {A : Type 0} (n : ℕ) (next : A → Reading) (o : Option A) (ls : List Line) → taken n next o ≡ read_as ls → (p : A) × (o ≡ Some p) × (next p ≡ read_as ls)
taken_whole n next None ls e = absurd (no_stop (Malformed n) ls e)
taken_whole n next (Some p) ls e = (p, refl, e)

-- a line that is read, and what is due after it
record IsNumbered (place : Place) (n : ℕ) (l : List ℕ) (p : Option Line × Place) : Type 0 where
  few : n < 4294967295
  at : line_at place l ≡ Some p

numbered_sound : (place : Place) (n : ℕ) (l : List ℕ) (p : Option Line × Place) → numbered place n l ≡ Some p → IsNumbered place n l p
numbered_sound place n l p e =
    let t = cond_none (ltb (length l) 65 && ltb n 4294967295) (line_at place l) p e in
    record { few = ltb-true n 4294967295 (and_right (ltb (length l) 65) (ltb n 4294967295) t.0); at = t.1 }

over_sound : (each : List (List ℕ)) (n : ℕ) (last : List ℕ) (ls : List Line) → reading each Over n last ≡ read_as ls → (unlines each last ≡ []) × ([] ≡ ls)
unfolding unlines
over_sound [] n [] ls e = (refl, ap (λ (r : Reading). r.lines) e)
over_sound [] n (b ∷ bs) ls e = absurd (no_stop (Malformed n) ls e)
over_sound (l ∷ each) n last ls e =
    let t = taken_whole n _ (numbered Over n l) ls e in
    let q : None ≡ Some t.0 = (numbered_sound Over n l t.0 t.1).at in absurd (cc q)

pub after_end : (x : Line) → (x ≡ lines.End) ⊎ (after_line x ≡ Lines)
after_end lines.End = inl refl
after_end _ = inr refl

over_lines : Over ≡ Lines → ⊥
over_lines e = absurd cc

pub ends_more : (x : Line) (ls : List Line) → after_line x ≡ Lines → EndsOnce ls → EndsOnce (x ∷ ls)
ends_more lines.End ls e h = absurd (over_lines e)
ends_more _ ls e h = h

-- the text from a line on
record Sound (n : ℕ) (text : List ℕ) (ls : List Line) : Type 0 where
  spells : text ≡ lines_text ls
  within : AreWithin ls
  ends : EndsOnce ls
  few : n + length ls ≤ 4294967295

-- one line before others
more_sound : (n : ℕ) (l text : List ℕ) (x : Line) (ls : List Line) → line_of l ≡ Some x → after_line x ≡ Lines → Sound (n + 1) text ls → Sound n (l ++ 10 ∷ text) (x ∷ ls)
more_sound n l text x ls e d s =
    let w = line_sound l x e in
    let few = s.few in
    record {
      spells = ap (λ (y : List ℕ). y ++ 10 ∷ text) w.1 ∙ ap (λ (y : List ℕ). spelled x ++ 10 ∷ y) s.spells;
      within = (w.0, s.within);
      ends = ends_more x ls d s.ends;
      few = omega (arith, few);
    }

last_sound : (n : ℕ) (l text : List ℕ) (x : Line) (ls : List Line) → line_of l ≡ Some x → x ≡ lines.End → n < 4294967295 → text ≡ [] → [] ≡ ls → Sound n (l ++ 10 ∷ text) (x ∷ ls)
last_sound n l text x ls e d few z y =
    let w = line_sound l x e in
    subst (λ (k : List Line). Sound n (l ++ 10 ∷ text) (x ∷ k)) y (subst (λ (u : Line). Sound n (l ++ 10 ∷ text) (u ∷ [])) (sym d) (record {
      spells = ap (λ (k : List ℕ). k ++ 10 ∷ text) (w.1 ∙ ap spelled d) ∙ ap (λ (k : List ℕ). spelled lines.End ++ 10 ∷ k) z;
      within = (tt, tt);
      ends = tt;
      few = omega (arith, few);
    }))

pub with_line_is : (x : Line) (r : Reading) (ls : List Line) → with_lines (Some x) r ≡ read_as ls → (r ≡ read_as r.lines) × (x ∷ r.lines ≡ ls)
with_line_is x r ls e =
    let f : r.fault ≡ None = ap (λ (y : Reading). y.fault) e in
    (ap (λ (y : Option TraceFault). record { lines = r.lines; fault = y }) f, ap (λ (y : Reading). y.lines) e)

lines_sound : (each : List (List ℕ)) (n : ℕ) (last : List ℕ) (ls : List Line) → reading each Lines n last ≡ read_as ls → Sound n (unlines each last) ls
unfolding unlines
lines_sound [] n last ls e = by (ltb (length last) 65) e
  where
    by : (t : Bool) → cond t (stops (Truncated n)) (stops (Malformed n)) ≡ read_as ls → Sound n last ls
    by true e = absurd (no_stop (Truncated n) ls e)
    by false e = absurd (no_stop (Malformed n) ls e)
lines_sound (l ∷ each) n last ls e =
    let t = taken_whole n (λ p. with_lines p.0 (reading each p.1 (n + 1) last)) (numbered Lines n l) ls e in
    let m = numbered_sound Lines n l t.0 t.1 in
    let x = map_some (λ y. (Some y, after_line y)) (line_of l) t.0 m.at in
    let next : with_lines (Some x.0) (reading each (after_line x.0) (n + 1) last) ≡ read_as ls =
    ap (λ (p : Option Line × Place). with_lines p.0 (reading each p.1 (n + 1) last)) x.2 ∙ t.2 in
    let r = reading each (after_line x.0) (n + 1) last in
    let w = with_line_is x.0 r ls next in
    subst (Sound n (l ++ 10 ∷ unlines each last)) w.1 (elim (after_end x.0) [
      | inl d ↦ (let o = over_sound each (n + 1) last r.lines (ap (λ (p : Place). reading each p (n + 1) last) (sym (ap after_line d)) ∙ w.0) in
          last_sound n l (unlines each last) x.0 r.lines x.1 d m.few o.0 o.1)
      | inr d ↦ more_sound n l (unlines each last) x.0 r.lines x.1 d
          (lines_sound each (n + 1) last r.lines (ap (λ (p : Place). reading each p (n + 1) last) (sym d) ∙ w.0))
    ])

header_sound : (l : List ℕ) (p : Option Line × Place) → line_at Header l ≡ Some p → (l ≡ codes "cilktrace 1") × ((None, Lines) ≡ p)
header_sound l p e =
    let t = cond_none (bytes_eq l (codes "cilktrace 1")) (Some (None, Lines)) p e in
    ((bytes_eq-Decides l (codes "cilktrace 1")).0 t.0, some_is (None, Lines) p t.1)

whole_sound : (each : List (List ℕ)) (last text : List ℕ) (ls : List Line) → unlines each last ≡ text → reading each Header 1 last ≡ read_as ls → IsTextTrace text ls
unfolding unlines
whole_sound [] last text ls is e = by (ltb (length last) 65) e
  where
    by : (t : Bool) → cond t (stops (Truncated 1)) (stops (Malformed 1)) ≡ read_as ls → IsTextTrace text ls
    by true e = absurd (no_stop (Truncated 1) ls e)
    by false e = absurd (no_stop (Malformed 1) ls e)
whole_sound (l ∷ each) last text ls is e =
    let t = taken_whole 1 (λ p. with_lines p.0 (reading each p.1 2 last)) (numbered Header 1 l) ls e in
    let m = numbered_sound Header 1 l t.0 t.1 in
    let h = header_sound l t.0 m.at in
    let s = lines_sound each 2 last ls (ap (λ (p : Option Line × Place). with_lines p.0 (reading each p.1 2 last)) h.1 ∙ t.2) in
    let few = s.few in
    record {
      form = sym is ∙ (ap (λ (y : List ℕ). y ++ 10 ∷ unlines each last) h.0 ∙ ap (λ (y : List ℕ). codes "cilktrace 1" ++ 10 ∷ y) s.spells);
      within = s.within;
      ends = s.ends;
      few = omega (arith, few);
    }

-- ---- a trace's text

numbered_again : (place : Place) (n : ℕ) (l : List ℕ) (o : Option (Option Line × Place)) → n < 4294967295 → length l ≤ 64 → line_at place l ≡ o → numbered place n l ≡ o
numbered_again place n l o few short e =
    let t = both (ltb (length l) 65) (ltb n 4294967295) (lt-ltb (length l) 65 (omega (arith, short))) (lt-ltb n 4294967295 few) in
    ap (λ (b : Bool). cond b (line_at place l) None) t ∙ e

line_step : (n : ℕ) (x : Line) (ls : List Line) → AreWithin (x ∷ ls) → n < 4294967295
    → reading_lines Lines n (text_lines (lines_text (x ∷ ls))) ≡ with_lines (Some x) (reading_lines (after_line x) (n + 1) (text_lines (lines_text ls)))
line_step n x ls h few =
    let l = line_again x h.0 in
    line_law Lines n [] (spelled x) (lines_text ls) refl l.no_lf
    ∙ ap (taken n (rest_after n (text_lines (lines_text ls)))) (numbered_again Lines n (spelled x) (Some (Some x, after_line x)) few l.short (ap (option_map (λ y. (Some y, after_line y))) l.again))

over_again : (n : ℕ) (ls : List Line) → EndsOnce (lines.End ∷ ls) → with_lines (Some lines.End) (reading_lines Over n (text_lines (lines_text ls))) ≡ read_as (lines.End ∷ ls)
over_again n [] e = refl
over_again n (y ∷ ls) e = absurd e

ends_less : (x : Line) (ls : List Line) → after_line x ≡ Lines → EndsOnce (x ∷ ls) → EndsOnce ls
ends_less lines.End ls d e = absurd (over_lines d)
ends_less _ ls d e = e

lines_again : (ls : List Line) (n : ℕ) → AreWithin ls → EndsOnce ls → n + length ls ≤ 4294967295 → reading_lines Lines n (text_lines (lines_text ls)) ≡ read_as ls
lines_again [] n h e few = absurd e
lines_again (x ∷ ls) n h e few = line_step n x ls h (omega (arith, few)) ∙ elim (after_end x) [
  | inl d ↦ subst (λ (y : Line). with_lines (Some y) (reading_lines (after_line y) (n + 1) (text_lines (lines_text ls))) ≡ read_as (y ∷ ls)) (sym d)
      (over_again (n + 1) ls (subst (λ (y : Line). EndsOnce (y ∷ ls)) d e))
  | inr d ↦ ap (λ (p : Place). with_lines (Some x) (reading_lines p (n + 1) (text_lines (lines_text ls)))) d
      ∙ ap (with_lines (Some x)) (lines_again ls (n + 1) h.1 (ends_less x ls d e) (omega (arith, few)))
]

pub text_sound : (text : List ℕ) (ls : List Line) → text_reading text ≡ read_as ls → IsTextTrace text ls
text_sound text ls e = whole_sound (text_lines text).each (text_lines text).last text ls (lines_joined text) e

pub text_again : (text : List ℕ) (ls : List Line) → IsText text ls → AreWithin ls → EndsOnce ls → length ls + 1 < 4294967295 → text_reading text ≡ read_as ls
text_again text ls h within ends few =
    ap text_reading h
    ∙ (line_law Header 1 [] (codes "cilktrace 1") (lines_text ls) refl refl
    ∙ lines_again ls 2 within ends (omega (arith, few)))
