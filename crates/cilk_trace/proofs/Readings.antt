-- The reading of a text that comes in pieces: `no_lf_append` and `lf_after` cut joined bytes at their LF; `line_taken`, `line_refused`,
-- `line_long` and `line_endless` are the cases of a call, `over`, `end_whole` and `end_truncated` those at the end.
use Rattle.std.proofs.Common.{◌≡◌, ℕ, ◌+◌, ◌-◌, ◌<◌, ◌≤◌, Bool, true, false, cond, ◌&&◌, List, [], ◌∷◌, ◌++◌, length, get_or, take, drop, Option, Some, None, refl, sym, ap, subst, ◌∙◌, append_assoc, eqb, ltb, arith, length-append, append-nil, length-take}
use Rattle.std.proofs.lemmas.Bool.{lt-ltb, le-ltb, ne_eqb}
use Rattle.std.proofs.lemmas.List.{take_more}
use Rattle.cilk_trace.specs.declared.line.Line.{Line}
use Rattle.cilk_trace.specs.declared.fault.TraceFault.{TraceFault}
use Rattle.cilk_trace.specs.declared.fault.TraceFault.TheVariants.{Malformed, Truncated}
use Rattle.cilk_trace.specs.declared.place.Place.{Place}
use Rattle.cilk_trace.specs.declared.place.Place.TheVariants.{Header, Lines, Over}
use Rattle.cilk_trace.specs.Reading.{TextLines, lines_after, with_front, with_lf, text_lines, HasNoLf, Reading, whole, stops, with_lines, numbered, ending, taken}
use Rattle.cilk_trace.specs.TextReaders.{reading_lines, rest_of}

-- ---- the lines of joined bytes

front_nil : (ls : List (List ℕ)) (last : List ℕ) → lines_after [] ls last ≡ record { each = ls; last = last }
front_nil [] last = refl
front_nil (l ∷ ls) last = refl

front_cons : (b : ℕ) (bs : List ℕ) (ls : List (List ℕ)) (last : List ℕ) → with_front (b ∷ []) (lines_after bs ls last) ≡ lines_after (b ∷ bs) ls last
front_cons b bs [] last = refl
front_cons b bs (l ∷ ls) last = refl

some_line : (l : List ℕ) (ls : List (List ℕ)) → ◌≡◌ {A = List (List ℕ)} (l ∷ ls) [] → ⊥
some_line l ls e = absurd cc

unfronted : (b : ℕ) (bs : List ℕ) (ls : List (List ℕ)) (last : List ℕ) → lines_after (b ∷ []) ls last ≡ record { each = []; last = b ∷ bs } → (ls ≡ []) × (last ≡ bs)
unfronted b bs [] last h =
    let e : b ∷ last ≡ b ∷ bs = ap (λ (x : TextLines). x.last) h in
    let f : last ≡ bs = cc e in
    (refl, f)
unfronted b bs (l ∷ ls) last h = absurd (some_line (b ∷ l) ls (ap (λ (x : TextLines). x.each) h))

-- bytes without an LF, by the first of them
pub split : (t : Bool) (b : ℕ) (bs : List ℕ) (c : TextLines) → cond t (with_lf c) (with_front (b ∷ []) c) ≡ record { each = []; last = b ∷ bs }
    → (t ≡ false) × (c ≡ record { each = []; last = bs })
split true b bs c h = absurd (some_line [] c.each (ap (λ (x : TextLines). x.each) h))
split false b bs c h =
    let u = unfronted b bs c.each c.last h in
    (refl, ap (λ (x : List (List ℕ)). record { each = x; last = c.last }) u.0 ∙ ap (λ (x : List ℕ). record { each = []; last = x }) u.1)

lines_append : (a b : List ℕ) → HasNoLf a → text_lines (a ++ b) ≡ with_front a (text_lines b)
lines_append [] b h = sym (front_nil (text_lines b).each (text_lines b).last)
lines_append (x ∷ a) b h =
    let s = split (eqb x 10) x a (text_lines a) h in
    rw s.0 (ap (with_front (x ∷ [])) (lines_append a b s.1) ∙ front_cons x a (text_lines b).each (text_lines b).last)

pub no_lf_append : (a b : List ℕ) → HasNoLf a → HasNoLf b → HasNoLf (a ++ b)
no_lf_append a b h k = lines_append a b h ∙ ap (with_front a) k

-- one byte more
pub no_lf_next : (i : ℕ) (xs : List ℕ) → i < length xs → (get_or xs i 0 ≡ 10 → ⊥) → HasNoLf (take i xs) → HasNoLf (take (i + 1) xs)
no_lf_next i xs l n h =
    let b : ℕ = get_or xs i 0 in
    let t : eqb b 10 ≡ false = ne_eqb b 10 n in
    let single : HasNoLf (b ∷ []) = ap (λ (x : Bool). cond x (with_lf (text_lines [])) (with_front (b ∷ []) (text_lines []))) t in
    subst HasNoLf (sym (take_more xs i 0 l)) (no_lf_append (take i xs) (b ∷ []) h single)

-- a line that ends in the piece
lf_after : (part front rest : List ℕ) → HasNoLf part → HasNoLf front
    → text_lines (part ++ (front ++ 10 ∷ rest)) ≡ record { each = (part ++ front) ∷ (text_lines rest).each; last = (text_lines rest).last }
lf_after part front rest h k =
    lines_append part (front ++ 10 ∷ rest) h
    ∙ (ap (with_front part) (lines_append front (10 ∷ rest) k)
    ∙ ap (λ (x : List ℕ). record { each = (part ++ x) ∷ (text_lines rest).each; last = (text_lines rest).last }) (append-nil front))

-- ---- one step

abbrev pub rest_after : ℕ → TextLines → Option Line × Place → Reading
rest_after n c p = with_lines p.0 (reading_lines p.1 (n + 1) c)

pub line_law : (place : Place) (n : ℕ) (part front rest : List ℕ) → HasNoLf part → HasNoLf front
    → reading_lines place n (text_lines (part ++ (front ++ 10 ∷ rest))) ≡ taken n (rest_after n (text_lines rest)) (numbered place n (part ++ front))
line_law place n part front rest h k = ap (reading_lines place n) (lf_after part front rest h k)

too_long_by : (place : Place) (n : ℕ) (a : List ℕ) (ls : List (List ℕ)) (last : List ℕ) → (place ≡ Over → ⊥) → 64 < length a
    → reading_lines place n (lines_after a ls last) ≡ stops (Malformed n)
too_long_by Header n a [] last due big =
    let t : ltb (length (a ++ last)) 65 ≡ false = le-ltb _ 65 (omega (arith, big, length-append a last)) in rw t refl
too_long_by Lines n a [] last due big =
    let t : ltb (length (a ++ last)) 65 ≡ false = le-ltb _ 65 (omega (arith, big, length-append a last)) in rw t refl
too_long_by Over n a [] last due big = absurd (due refl)
too_long_by place n a (l ∷ ls) last due big =
    let t : ltb (length (a ++ l)) 65 ≡ false = le-ltb _ 65 (omega (arith, big, length-append a l)) in rw t refl

-- bytes that are too long for a line
too_long : (place : Place) (n : ℕ) (a : List ℕ) (c : TextLines) → (place ≡ Over → ⊥) → 64 < length a → reading_lines place n (with_front a c) ≡ stops (Malformed n)
too_long place n a c due big = too_long_by place n a c.each c.last due big

-- ---- a reader in the middle of a text

piece_law : (len at : ℕ) (bytes piece more : List ℕ) → piece ≡ take at piece ++ 10 ∷ drop (at + 1) piece
    → take len bytes ++ (piece ++ more) ≡ take len bytes ++ (take at piece ++ 10 ∷ (drop (at + 1) piece ++ more))
piece_law len at bytes piece more k =
    ap (λ (x : List ℕ). take len bytes ++ x) (ap (λ (x : List ℕ). x ++ more) k ∙ append_assoc (take at piece) (10 ∷ drop (at + 1) piece) more)

at_line : (fault : Option TraceFault) (place : Place) (n len at : ℕ) (bytes piece more : List ℕ) → fault ≡ None → HasNoLf (take len bytes) → HasNoLf (take at piece)
    → piece ≡ take at piece ++ 10 ∷ drop (at + 1) piece
    → rest_of fault place n (take len bytes ++ (piece ++ more)) ≡ taken n (rest_after n (text_lines (drop (at + 1) piece ++ more))) (numbered place n (take len bytes ++ take at piece))
at_line fault place n len at bytes piece more e h f k =
    ap (λ (x : Option TraceFault). rest_of x place n (take len bytes ++ (piece ++ more))) e
    ∙ (ap (λ (x : List ℕ). reading_lines place n (text_lines x)) (piece_law len at bytes piece more k)
    ∙ line_law place n (take len bytes) (take at piece) (drop (at + 1) piece ++ more) h f)

pub line_refused : (fault : Option TraceFault) (place : Place) (n len at : ℕ) (bytes piece more : List ℕ) → fault ≡ None → HasNoLf (take len bytes) → HasNoLf (take at piece)
    → piece ≡ take at piece ++ 10 ∷ drop (at + 1) piece → None ≡ numbered place n (take len bytes ++ take at piece)
    → rest_of fault place n (take len bytes ++ (piece ++ more)) ≡ stops (Malformed n)
line_refused fault place n len at bytes piece more e h f k none =
    at_line fault place n len at bytes piece more e h f k ∙ ap (taken n (rest_after n (text_lines (drop (at + 1) piece ++ more)))) (sym none)

pub line_taken : (fault : Option TraceFault) (place place' : Place) (n m len at : ℕ) (bytes piece more : List ℕ) (line : Option Line) → fault ≡ None → HasNoLf (take len bytes)
    → HasNoLf (take at piece) → piece ≡ take at piece ++ 10 ∷ drop (at + 1) piece → Some (line, place') ≡ numbered place n (take len bytes ++ take at piece) → m ≡ n + 1
    → rest_of fault place n (take len bytes ++ (piece ++ more)) ≡ with_lines line (rest_of fault place' m (drop (at + 1) piece ++ more))
line_taken fault place place' n m len at bytes piece more line e h f k is next =
    at_line fault place n len at bytes piece more e h f k
    ∙ (ap (taken n (rest_after n (text_lines (drop (at + 1) piece ++ more)))) (sym is)
    ∙ (ap (λ (x : ℕ). with_lines line (rest_of None place' x (drop (at + 1) piece ++ more))) (sym next)
    ∙ ap (λ (x : Option TraceFault). with_lines line (rest_of x place' m (drop (at + 1) piece ++ more))) (sym e)))

long_parts : (part piece more : List ℕ) → HasNoLf part → HasNoLf piece → text_lines (part ++ (piece ++ more)) ≡ with_front (part ++ piece) (text_lines more)
long_parts part piece more h k = ap text_lines (sym (append_assoc part piece more)) ∙ lines_append (part ++ piece) more (no_lf_append part piece h k)

pub line_endless : (fault : Option TraceFault) (place : Place) (n len : ℕ) (bytes piece more : List ℕ) → fault ≡ None → (place ≡ Over → ⊥) → HasNoLf (take len bytes) → HasNoLf piece
    → 64 - len < length piece → len ≤ 64 → length bytes ≡ 64 → rest_of fault place n (take len bytes ++ (piece ++ more)) ≡ stops (Malformed n)
line_endless fault place n len bytes piece more e due h k big room size =
    ap (λ (x : Option TraceFault). rest_of x place n (take len bytes ++ (piece ++ more))) e
    ∙ (ap (reading_lines place n) (long_parts (take len bytes) piece more h k)
    ∙ too_long place n (take len bytes ++ piece) (text_lines more) due
    (omega (arith, big, room, size, length-append (take len bytes) piece, length-take len bytes)))

pub line_long : (fault : Option TraceFault) (place : Place) (n len at : ℕ) (bytes piece more : List ℕ) → fault ≡ None → (place ≡ Over → ⊥) → HasNoLf (take len bytes)
    → HasNoLf (take at piece) → piece ≡ take at piece ++ 10 ∷ drop (at + 1) piece → at < length piece → 64 - len < at → len ≤ 64 → length bytes ≡ 64
    → rest_of fault place n (take len bytes ++ (piece ++ more)) ≡ stops (Malformed n)
line_long fault place n len at bytes piece more e due h f k within big room size =
    ap (λ (x : List ℕ). rest_of fault place n x) (piece_law len at bytes piece more k)
    ∙ line_endless fault place n len bytes (take at piece) (10 ∷ (drop (at + 1) piece ++ more)) e due h f
    (omega (arith, big, within, length-take at piece)) room size

refused_over : (t : Bool) (n : ℕ) (next : Option Line × Place → Reading) → taken n next (cond t None None) ≡ stops (Malformed n)
refused_over true n next = refl
refused_over false n next = refl

front_over : (n b : ℕ) (ls : List (List ℕ)) (last : List ℕ) → reading_lines Over n (lines_after (b ∷ []) ls last) ≡ stops (Malformed n)
front_over n b [] last = refl
front_over n b (l ∷ ls) last =
    refused_over (ltb (length (b ∷ l)) 65 && ltb n 4294967295) n (rest_after n (record { each = ls; last = last }))

nothing_more : (t : Bool) (n b : ℕ) (c : TextLines) → reading_lines Over n (cond t (with_lf c) (with_front (b ∷ []) c)) ≡ stops (Malformed n)
nothing_more true n b c = refused_over (ltb (length {A = ℕ} []) 65 && ltb n 4294967295) n (rest_after n c)
nothing_more false n b c = front_over n b c.each c.last

pub over : (fault : Option TraceFault) (place : Place) (n len : ℕ) (bytes piece more : List ℕ) → fault ≡ None → place ≡ Over → len ≡ 0 → false ≡ eqb (length piece) 0
    → rest_of fault place n (take len bytes ++ (piece ++ more)) ≡ stops (Malformed n)
over fault place n len bytes [] more e d z some = absurd cc
over fault place n len bytes (b ∷ piece) more e d z some = rw (e, d, z) (nothing_more (eqb b 10) n b (text_lines (piece ++ more)))

pub end_whole : (fault : Option TraceFault) (place : Place) (n len : ℕ) (bytes : List ℕ) → fault ≡ None → place ≡ Over → len ≡ 0 → rest_of fault place n (take len bytes ++ []) ≡ whole
end_whole fault place n len bytes e d z = rw (e, d, z) refl

pub end_truncated : (fault : Option TraceFault) (place : Place) (n line len : ℕ) (bytes : List ℕ) → fault ≡ None → (place ≡ Over → ⊥) → HasNoLf (take len bytes) → len ≤ 64 → line ≡ n
    → rest_of fault place n (take len bytes ++ []) ≡ stops (Truncated line)
end_truncated fault place n line len bytes e due h room is =
    rw (e, append-nil (take len bytes), is, h) (ends_short place due (lt-ltb _ 65 (omega (arith, room, length-take len bytes))))
  where
    ends_short : (p : Place) → (p ≡ Over → ⊥) → ltb (length (take len bytes)) 65 ≡ true → ending p n (take len bytes) ≡ stops (Truncated n)
    ends_short Header due t = rw t refl
    ends_short Lines due t = rw t refl
    ends_short Over due t = absurd (due refl)
