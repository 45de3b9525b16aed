-- The reading of a binary form that comes in pieces: `more_law`, `long_law`, `needless_law` and `last_law` are the cases of a byte,
-- `taken_law` and `refused_law` those of a number, `over_piece` says that nothing may follow `end`, `end_whole` and `end_truncated` are the
-- cases at the end.
use Rattle.std.proofs.Common.{◌≡◌, ℕ, ◌+◌, ◌-◌, ◌*◌, ◌<◌, ◌≤◌, Bool, true, false, cond, ◌&&◌, List, [], ◌∷◌, ◌++◌, length, Option, Some, None, refl, sym, ap, ◌∙◌, eqb, ltb, arith}
use Rattle.std.proofs.lemmas.Bool.{lt-ltb, le-ltb, ne_eqb}
use Rattle.cilk_trace.specs.declared.line.Line.{Line}
use Rattle.cilk_trace.specs.declared.fault.TraceFault.{TraceFault}
use Rattle.cilk_trace.specs.declared.fault.TraceFault.TheVariants.{Malformed, Truncated}
use Rattle.cilk_trace.specs.declared.place.Place.{Place}
use Rattle.cilk_trace.specs.declared.place.Place.TheVariants.{Header, Lines, Over}
use Rattle.cilk_trace.specs.Binary.{Events, after_number, cut_off, ended, events_reading}
use Rattle.cilk_trace.specs.EventReaders.{rest_of}
use Rattle.cilk_trace.specs.Numbers.{Numbers, NoMore, Cut, Wrong, Next, numbers_from}
use Rattle.cilk_trace.specs.Reading.{count_of, stops, taken, whole, with_lines}

-- ---- a byte

pub more_law : (b v u : ℕ) (bs : List ℕ) → 128 ≤ b → u ≤ 2097152 → numbers_from v u (b ∷ bs) ≡ numbers_from (v + (b - 128) * u) (128 * u) bs
more_law b v u bs h k =
    let large : ltb b 128 ≡ false = le-ltb b 128 h in
    let short : ltb 2097152 u ≡ false = le-ltb 2097152 u k in
    rw (large, short) refl

pub long_law : (b v u : ℕ) (bs : List ℕ) → 128 ≤ b → 2097152 < u → numbers_from v u (b ∷ bs) ≡ Wrong
long_law b v u bs h k =
    let large : ltb b 128 ≡ false = le-ltb b 128 h in
    let long : ltb 2097152 u ≡ true = lt-ltb 2097152 u k in
    rw (large, long) refl

pub needless_law : (b v u : ℕ) (bs : List ℕ) → b < 128 → (eqb b 0 && ltb 1 u) ≡ true → numbers_from v u (b ∷ bs) ≡ Wrong
needless_law b v u bs h k =
    let small : ltb b 128 ≡ true = lt-ltb b 128 h in
    rw (small, k) refl

pub last_law : (b v u : ℕ) (bs : List ℕ) → b < 128 → (eqb b 0 && ltb 1 u) ≡ false → numbers_from v u (b ∷ bs) ≡ Next (v + b * u) (numbers_from 0 1 bs)
last_law b v u bs h k =
    let small : ltb b 128 ≡ true = lt-ltb b 128 h in
    rw (small, k) refl

-- ---- a number

pub taken_law : (s : Events) (number next n : ℕ) (ns : Numbers) (o : Option Line) (s' : Events) → after_number s number n ≡ Some (o, s') → next ≡ number + count_of o
    → events_reading s number (Next n ns) ≡ with_lines o (events_reading s' next ns)
taken_law s number next n ns o s' e is =
    ap (taken number (λ (p : Option Line × Events). with_lines p.0 (events_reading p.1 (number + count_of p.0) ns))) e
    ∙ ap (λ (k : ℕ). with_lines o (events_reading s' k ns)) (sym is)

pub refused_law : (s : Events) (number n : ℕ) (ns : Numbers) → after_number s number n ≡ None → events_reading s number (Next n ns) ≡ stops (Malformed number)
refused_law s number n ns e = ap (taken number (λ (p : Option Line × Events). with_lines p.0 (events_reading p.1 (number + count_of p.0) ns))) e

-- ---- the end

not_none : (b : Bool) (x y : Numbers) → (x ≡ NoMore → ⊥) → (y ≡ NoMore → ⊥) → cond b x y ≡ NoMore → ⊥
not_none true x y h k = h
not_none false x y h k = k

wrong_none : Wrong ≡ NoMore → ⊥
wrong_none e = absurd cc

-- the bytes of a number, and those after it, are some
by_byte : (b v u : ℕ) (bs : List ℕ) → (numbers_from (v + (b - 128) * u) (128 * u) bs ≡ NoMore → ⊥) → numbers_from v u (b ∷ bs) ≡ NoMore → ⊥
by_byte b v u bs rest =
    not_none (ltb b 128) (cond (eqb b 0 && ltb 1 u) Wrong (Next (v + b * u) (numbers_from 0 1 bs)))
    (cond (ltb 2097152 u) Wrong (numbers_from (v + (b - 128) * u) (128 * u) bs))
    (not_none (eqb b 0 && ltb 1 u) Wrong (Next (v + b * u) (numbers_from 0 1 bs)) wrong_none (λ e. absurd cc))
    (not_none (ltb 2097152 u) Wrong (numbers_from (v + (b - 128) * u) (128 * u) bs) wrong_none rest)

cut_none : (t : Bool) → t ≡ false → cond t NoMore Cut ≡ NoMore → ⊥
cut_none true e h = absurd cc
cut_none false e h = absurd cc

some_rest : (bs : List ℕ) (v u : ℕ) → 1 < u → numbers_from v u bs ≡ NoMore → ⊥
some_rest [] v u h = cut_none (eqb u 1) (ne_eqb u 1 (λ z. absurd (omega (arith, z, h))))
some_rest (b ∷ bs) v u h = by_byte b v u bs (some_rest bs (v + (b - 128) * u) (128 * u) (omega arith))

some_byte : (b v u : ℕ) (bs : List ℕ) → 0 < u → numbers_from v u (b ∷ bs) ≡ NoMore → ⊥
some_byte b v u bs h = by_byte b v u bs (some_rest bs (v + (b - 128) * u) (128 * u) (omega arith))

pub over_numbers : (s : Events) (number : ℕ) (ns : Numbers) → s.place ≡ Over → (ns ≡ NoMore → ⊥) → events_reading s number ns ≡ stops (Malformed number)
over_numbers s number NoMore e some = absurd (some refl)
over_numbers s number Cut e some = ap (λ (p : Place). cut_off p number) e
over_numbers s number Wrong e some = refl
over_numbers s number (Next n ns) e some = refused_law s number n ns (rw e refl)

over_law : (fault : Option TraceFault) (s : Events) (number b v u : ℕ) (bs : List ℕ) → fault ≡ None → s.place ≡ Over → 0 < u
    → rest_of fault s number (numbers_from v u (b ∷ bs)) ≡ stops (Malformed number)
over_law fault s number b v u bs none e h =
    ap (λ (f : Option TraceFault). rest_of f s number (numbers_from v u (b ∷ bs))) none
    ∙ over_numbers s number (numbers_from v u (b ∷ bs)) e (some_byte b v u bs h)

pub end_whole : (fault : Option TraceFault) (s : Events) (number v u : ℕ) → fault ≡ None → s.place ≡ Over → u ≡ 1
    → rest_of fault s number (numbers_from v u []) ≡ whole
end_whole fault s number v u none e one =
    ap (λ (f : Option TraceFault). rest_of f s number (numbers_from v u [])) none
    ∙ (ap (λ (k : ℕ). events_reading s number (numbers_from v k [])) one ∙ ap (λ (p : Place). ended p number) e)

cut_by : (p : Place) (t : Bool) (s : Events) (number : ℕ) → s.place ≡ p → (p ≡ Over → ⊥) → events_reading s number (cond t NoMore Cut) ≡ stops (Truncated number)
cut_by Header true s number e due = ap (λ (p : Place). ended p number) e
cut_by Header false s number e due = ap (λ (p : Place). cut_off p number) e
cut_by Lines true s number e due = ap (λ (p : Place). ended p number) e
cut_by Lines false s number e due = ap (λ (p : Place). cut_off p number) e
cut_by Over t s number e due = absurd (due refl)

pub end_truncated : (fault : Option TraceFault) (s : Events) (number v u : ℕ) → fault ≡ None → (s.place ≡ Over → ⊥)
    → rest_of fault s number (numbers_from v u []) ≡ stops (Truncated number)
end_truncated fault s number v u none due =
    ap (λ (f : Option TraceFault). rest_of f s number (numbers_from v u [])) none ∙ cut_by s.place (eqb u 1) s number refl due

pub over_piece : (fault : Option TraceFault) (s : Events) (number v u : ℕ) (piece more : List ℕ) → fault ≡ None → s.place ≡ Over → 0 < u → 0 < length piece
    → rest_of fault s number (numbers_from v u (piece ++ more)) ≡ stops (Malformed number)
over_piece fault s number v u [] more none e h some = absurd (omega (arith, some))
over_piece fault s number v u (b ∷ piece) more none e h some = over_law fault s number b v u (piece ++ more) none e h
