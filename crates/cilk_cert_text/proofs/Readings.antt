-- The reading of a text that comes in pieces.
use Rattle.std.proofs.Common.{◌≡◌, ℕ, ◌+◌, ◌-◌, ◌<◌, ◌≤◌, Bool, true, false, cond, List, [], ◌∷◌, ◌++◌, length, take, drop, Option, Some, None, Result, Ok, Err, ◌⊎◌, inl, inr, refl, sym, ap, ◌∙◌, append_assoc, eqb, ltb, arith, length-append, append-nil, length-take}
use Rattle.std.specs.Prelude.{option_map, OnOk}
use Rattle.std.proofs.lemmas.Bool.{lt-ltb, le-ltb}
use Rattle.cilk_cert_text.specs.declared.fault.CertFault.{CertFault}
use Rattle.cilk_cert_text.specs.declared.fault.CertFault.TheVariants.{Malformed, Truncated}
use Rattle.cilk_cert_text.specs.declared.line.Line.{Line}
use Rattle.cilk_cert_text.specs.declared.line.Line.TheVariants as lines
use Rattle.cilk_cert_text.specs.declared.line.Form.{Form}
use Rattle.cilk_cert_text.specs.Words.{words}
use Rattle.cilk_cert_text.specs.Lines.{version_line, size_line, line_of}
use Rattle.cilk_cert_text.specs.Reading.{Reading, whole, stops, with_line, first_line, taken, step, forms_of, Due, Opening, Sizing, Lines, reading}
use Rattle.cilk_cert_text.specs.Places.{line_at}
use Rattle.cilk_cert_text.specs.Readers.{rest_of}

-- ---- one step at each place

abbrev after_line : ℕ → Line × Due → List ℕ → Reading
after_line n p rest = with_line p.0 (reading p.1 (n + 1) rest)

taken_map : {A B : Type 0} (g : A → B) (n : ℕ) (next : B → List ℕ → Reading) (rest : List ℕ) (o : Option A) → taken n (λ x rest. next (g x) rest) rest o ≡ taken n next rest (option_map g o)
taken_map g n next rest None = refl
taken_map g n next rest (Some x) = refl

step_map : {A B : Type 0} (g : A → B) (n : ℕ) (line : List ℕ → Option A) (next : B → List ℕ → Reading) (bytes : List ℕ) (parts : Option (List ℕ × List ℕ)) → step n line (λ x rest. next (g x) rest) bytes parts ≡ step n (λ l. option_map g (line l)) next bytes parts
step_map g n line next bytes None = refl
step_map g n line next bytes (Some p) = ap (λ (r : Reading). cond (ltb (length p.0) 97) r (stops (Malformed n))) (taken_map g n next p.1 (line p.0))

pub reading_step : (due : Due) (n : ℕ) (bytes : List ℕ) → (due ≡ Lines [] → ⊥) → reading due n bytes ≡ step n (line_at due) (after_line n) bytes (first_line bytes)
unfolding reading
reading_step Opening n bytes unread = step_map (λ v. (lines.Version v, Sizing v)) n (λ l. version_line (words l)) (after_line n) bytes (first_line bytes)
reading_step (Sizing v) n bytes unread = step_map (λ s. (lines.Size s, Lines (forms_of v s))) n (λ l. size_line (words l)) (after_line n) bytes (first_line bytes)
reading_step (Lines []) n bytes unread = absurd (unread refl)
reading_step (Lines (form ∷ forms)) n bytes unread = step_map (λ x. (x, Lines forms)) n (line_of form) (after_line n) bytes (first_line bytes)

-- ---- the first line of appended bytes

abbrev split_at : Bool → ℕ → List ℕ → Option (List ℕ × List ℕ) → Option (List ℕ × List ℕ)
split_at t b bs o = cond t (Some ([], bs)) (option_map (λ s. (b ∷ s.0, s.1)) o)

none_cond : (t : Bool) (b : ℕ) (bs : List ℕ) (o : Option (List ℕ × List ℕ)) → split_at t b bs o ≡ None → (t ≡ false) × (o ≡ None)
none_cond true b bs o h = absurd cc
none_cond false b bs None h = (refl, refl)
none_cond false b bs (Some s) h = absurd cc

pub first_none : (a b : List ℕ) → first_line a ≡ None → first_line b ≡ None → first_line (a ++ b) ≡ None
first_none [] b h k = k
first_none (x ∷ a) b h k =
    let split = none_cond (eqb x 10) x a (first_line a) h in
    rw (split.0, first_none a b split.1 k) refl

pub first_some : (a b l r : List ℕ) → first_line a ≡ None → first_line b ≡ Some (l, r) → first_line (a ++ b) ≡ Some (a ++ l, r)
first_some [] b l r h k = k
first_some (x ∷ a) b l r h k =
    let split = none_cond (eqb x 10) x a (first_line a) h in
    rw (split.0, first_some a b l r split.1 k) refl

some_cond : (t : Bool) (b : ℕ) (bs c l r : List ℕ) (o o' : Option (List ℕ × List ℕ)) → ((l r : List ℕ) → o ≡ Some (l, r) → o' ≡ Some (l, r ++ c)) → split_at t b bs o ≡ Some (l, r) → split_at t b (bs ++ c) o' ≡ Some (l, r ++ c)
some_cond true b bs c l r o o' more h =
    let pair : ◌≡◌ {A = List ℕ × List ℕ} ([], bs) (l, r) = cc in
    let e : bs ≡ r = ap (λ (p : List ℕ × List ℕ). p.1) pair in
    let f : [] ≡ l = ap (λ (p : List ℕ × List ℕ). p.0) pair in
    rw (e, f) refl
some_cond false b bs c l r None o' more h = absurd cc
some_cond false b bs c l r (Some s) o' more h =
    let pair : ◌≡◌ {A = List ℕ × List ℕ} (b ∷ s.0, s.1) (l, r) = cc in
    let e : s.1 ≡ r = ap (λ (p : List ℕ × List ℕ). p.1) pair in
    let f : b ∷ s.0 ≡ l = ap (λ (p : List ℕ × List ℕ). p.0) pair in
    rw (more s.0 s.1 refl) (rw (e, f) refl)

pub first_more : (b c l r : List ℕ) → first_line b ≡ Some (l, r) → first_line (b ++ c) ≡ Some (l, r ++ c)
first_more [] c l r h = absurd cc
first_more (x ∷ b) c l r h = some_cond (eqb x 10) x b c l r (first_line b) (first_line (b ++ c)) (λ l r e. first_more b c l r e) h

-- ---- the laws of one call

joined_line : (part piece more l r : List ℕ) → first_line part ≡ None → first_line piece ≡ Some (l, r) → first_line (part ++ (piece ++ more)) ≡ Some (part ++ l, r ++ more)
joined_line part piece more l r h k = first_some part (piece ++ more) l (r ++ more) h (first_more piece more l r k)

short : (part l : List ℕ) → length part + length l ≤ 96 → ltb (length (part ++ l)) 97 ≡ true
short part l h = lt-ltb _ 97 (omega (arith, length-append part l))

long : (part l : List ℕ) → 96 < length part + length l → ltb (length (part ++ l)) 97 ≡ false
long part l h = le-ltb _ 97 (omega (arith, length-append part l))

pub line_law : (due : Due) (n : ℕ) (part piece more l r : List ℕ) (o : Option (Line × Due)) → (due ≡ Lines [] → ⊥) → first_line part ≡ None → first_line piece ≡ Some (l, r) → length part + length l ≤ 96 → o ≡ line_at due (part ++ l) → reading due n (part ++ (piece ++ more)) ≡ taken n (after_line n) (r ++ more) o
line_law due n part piece more l r o unread h k fits e =
    reading_step due n (part ++ (piece ++ more)) unread ∙ rw (joined_line part piece more l r h k, short part l fits, e) refl

pub long_law : (due : Due) (n : ℕ) (part piece more l r : List ℕ) → (due ≡ Lines [] → ⊥) → first_line part ≡ None → first_line piece ≡ Some (l, r) → 96 < length part + length l → reading due n (part ++ (piece ++ more)) ≡ stops (Malformed n)
long_law due n part piece more l r unread h k big =
    reading_step due n (part ++ (piece ++ more)) unread ∙ rw (joined_line part piece more l r h k, long part l big) refl

-- bytes without an LF that are too long already
long_step : {A : Type 0} (n : ℕ) (line : List ℕ → Option A) (next : A → List ℕ → Reading) (a b : List ℕ) (o : Option (List ℕ × List ℕ)) → o ≡ first_line b → first_line a ≡ None → 96 < length a → step n line next (a ++ b) (first_line (a ++ b)) ≡ stops (Malformed n)
long_step n line next a b None e h big =
    rw (first_none a b h (sym e), long a b (omega (arith, big))) refl
long_step n line next a b (Some p) e h big =
    rw (first_some a b p.0 p.1 h (sym e), long a p.0 (omega (arith, big))) refl

pub endless_law : (due : Due) (n : ℕ) (part piece more : List ℕ) → (due ≡ Lines [] → ⊥) → first_line part ≡ None → first_line piece ≡ None → 96 < length part + length piece → reading due n (part ++ (piece ++ more)) ≡ stops (Malformed n)
endless_law due n part piece more unread h k big =
    ap (reading due n) (sym (append_assoc part piece more)) ∙ (reading_step due n ((part ++ piece) ++ more) unread
    ∙ long_step n (line_at due) (after_line n) (part ++ piece) more (first_line more) refl (first_none part piece h k) (omega (arith, length-append part piece)))

pub over_law : (due : Due) (n b : ℕ) (bs : List ℕ) → due ≡ Lines [] → reading due n (b ∷ bs) ≡ stops (Malformed n)
unfolding reading
over_law due n b bs e = rw e refl

pub done_law : (due : Due) (n : ℕ) → due ≡ Lines [] → reading due n [] ≡ whole
unfolding reading
done_law due n e = rw e refl

pub cut_law : (due : Due) (n : ℕ) (part : List ℕ) → (due ≡ Lines [] → ⊥) → first_line part ≡ None → length part ≤ 96 → reading due n part ≡ stops (Truncated n)
cut_law due n part unread h fits =
    reading_step due n part unread ∙ rw (h, lt-ltb (length part) 97 (omega (arith, fits))) refl

-- ---- looking for the LF

-- these bytes before the first line
abbrev pub prefixed : List ℕ → Option (List ℕ × List ℕ) → Option (List ℕ × List ℕ)
prefixed a o = option_map (λ s. (a ++ s.0, s.1)) o

-- ---- a reader in the middle of a text

pub end_whole : (fault : Option CertFault) (due : Due) (n len : ℕ) (bytes : List ℕ) → fault ≡ None → due ≡ Lines [] → len ≡ 0 → rest_of fault due n (take len bytes ++ []) ≡ whole
end_whole fault due n len bytes e d z = rw (e, z) (done_law due n d)

pub end_cut : (fault : Option CertFault) (due : Due) (n line len : ℕ) (bytes : List ℕ) → fault ≡ None → (due ≡ Lines [] → ⊥) → first_line (take len bytes) ≡ None → len ≤ 96 → line ≡ n → rest_of fault due n (take len bytes ++ []) ≡ stops (Truncated line)
end_cut fault due n line len bytes e unread h fits is =
    rw (e, append-nil (take len bytes), is) (cut_law due n (take len bytes) unread h (omega (arith, fits, length-take len bytes)))

pub line_gives : (fault : Option CertFault) (due : Due) (n at len : ℕ) (bytes piece more : List ℕ) (o : Option (Line × Due)) → fault ≡ None → (due ≡ Lines [] → ⊥) → first_line (take len bytes) ≡ None → at < length piece → first_line piece ≡ Some (take at piece, drop (at + 1) piece) → at ≤ 96 - len → len ≤ 96 → o ≡ line_at due (take len bytes ++ take at piece) → rest_of fault due n (take len bytes ++ (piece ++ more)) ≡ taken n (after_line n) (drop (at + 1) piece ++ more) o
line_gives fault due n at len bytes piece more o e unread h lt k fits room is =
    rw e (line_law due n (take len bytes) piece more (take at piece) (drop (at + 1) piece) o unread h k (omega (arith, length-take len bytes, length-take at piece)) is)

pub line_taken : (fault : Option CertFault) (due due' : Due) (n m at len : ℕ) (bytes piece more : List ℕ) (line : Line) → fault ≡ None → (due ≡ Lines [] → ⊥) → first_line (take len bytes) ≡ None → at < length piece → first_line piece ≡ Some (take at piece, drop (at + 1) piece) → at ≤ 96 - len → len ≤ 96 → Some (line, due') ≡ line_at due (take len bytes ++ take at piece) → m ≡ n + 1 → rest_of fault due n (take len bytes ++ (piece ++ more)) ≡ with_line line (rest_of fault due' m (drop (at + 1) piece ++ more))
line_taken fault due due' n m at len bytes piece more line e unread h lt k fits room is next =
    rw (e, next) (line_law due n (take len bytes) piece more (take at piece) (drop (at + 1) piece) (Some (line, due')) unread h k (omega (arith, length-take len bytes, length-take at piece)) is)

pub line_long : (fault : Option CertFault) (due : Due) (n at len : ℕ) (bytes piece more : List ℕ) → fault ≡ None → (due ≡ Lines [] → ⊥) → first_line (take len bytes) ≡ None → at < length piece → first_line piece ≡ Some (take at piece, drop (at + 1) piece) → 96 - len < at → len ≤ 96 → length bytes ≡ 96 → rest_of fault due n (take len bytes ++ (piece ++ more)) ≡ stops (Malformed n)
line_long fault due n at len bytes piece more e unread h lt k big room size =
    rw e (long_law due n (take len bytes) piece more (take at piece) (drop (at + 1) piece) unread h k (omega (arith, length-take len bytes, length-take at piece)))

pub line_endless : (fault : Option CertFault) (due : Due) (n len : ℕ) (bytes piece more : List ℕ) → fault ≡ None → (due ≡ Lines [] → ⊥) → first_line (take len bytes) ≡ None → first_line piece ≡ None → 96 - len < length piece → len ≤ 96 → length bytes ≡ 96 → rest_of fault due n (take len bytes ++ (piece ++ more)) ≡ stops (Malformed n)
line_endless fault due n len bytes piece more e unread h k big room size =
    rw e (endless_law due n (take len bytes) piece more unread h k (omega (arith, length-take len bytes)))

pub over : (fault : Option CertFault) (due : Due) (n len : ℕ) (bytes piece more : List ℕ) → fault ≡ None → due ≡ Lines [] → len ≡ 0 → false ≡ eqb (length piece) 0 → rest_of fault due n (take len bytes ++ (piece ++ more)) ≡ stops (Malformed n)
over fault due n len bytes [] more e d z nonempty = absurd cc
over fault due n len bytes (b ∷ piece) more e d z nonempty = rw (e, z) (over_law due n b (piece ++ more) d)

-- ---- a fault is returned at once

differ : (n : ℕ) → ◌≡◌ {A = Option CertFault} (Some (Truncated n)) (Some (Malformed n)) → ⊥
differ n e = absurd cc

no_fault : (f : CertFault) → ◌≡◌ {A = Option CertFault} None (Some f) → ⊥
no_fault f e = absurd cc

some_lines : (x : Line) (xs : List Line) → ◌≡◌ {A = List Line} (x ∷ xs) [] → ⊥
some_lines x xs e = absurd cc

lines_differ : (x : Form) (xs : List Form) → ◌≡◌ {A = Due} (Lines (x ∷ xs)) (Lines []) → ⊥
lines_differ x xs e = absurd cc

no_two : (n : ℕ) (p : Option (Line × Due)) (f : CertFault) → stops (Truncated n) ≡ stops f → taken n (after_line n) [] p ≡ stops f → ⊥
no_two n None f h k =
    let same : stops (Truncated n) ≡ stops (Malformed n) = h ∙ sym k in
    differ n (ap (λ (r : Reading). r.fault) same)
no_two n (Some p) f h k = some_lines p.0 (reading p.1 (n + 1) []).lines (ap (λ (r : Reading). r.lines) k)

after_part : (due : Due) (n : ℕ) (part : List ℕ) → (due ≡ Lines [] → ⊥) → first_line part ≡ None → length part ≤ 96 → reading due n (part ++ 10 ∷ []) ≡ taken n (after_line n) [] (line_at due (part ++ []))
after_part due n part unread h fits =
    line_law due n part (10 ∷ []) [] [] [] (line_at due (part ++ [])) unread h refl (omega (arith, fits)) refl

finished_or_not : (due : Due) → (due ≡ Lines []) ⊎ (due ≡ Lines [] → ⊥)
finished_or_not Opening = inr (λ e. absurd cc)
finished_or_not (Sizing v) = inr (λ e. absurd cc)
finished_or_not (Lines []) = inl refl
finished_or_not (Lines (x ∷ xs)) = inr (λ e. lines_differ x xs e)

pub nothing_certain : (fault : Option CertFault) (due : Due) (n len : ℕ) (bytes : List ℕ) → fault ≡ None → first_line (take len bytes) ≡ None → (due ≡ Lines [] → len ≡ 0) → len ≤ 96 → (f : CertFault) → ((more : List ℕ) → rest_of fault due n (take len bytes ++ more) ≡ stops f) → ⊥
nothing_certain fault due n len bytes e h at_end fits f certain =
    elim (finished_or_not due) [
      | inl d ↦ no_fault f (ap (λ (r : Reading). r.fault) (sym (end_whole fault due n len bytes e d (at_end d)) ∙ certain []))
      | inr unread ↦
          no_two n (line_at due (take len bytes ++ [])) f
          (sym (end_cut fault due n n len bytes e unread h fits refl) ∙ certain [])
          (sym (rw e (after_part due n (take len bytes) unread h (omega (arith, fits, length-take len bytes)))) ∙ certain (10 ∷ []))
    ]

pub on_ok : {A E : Type 0} {P Q : Type 0} (r : Result A E) → OnOk r P → (P → Q) → OnOk r Q
on_ok (Ok x) h f = f h
on_ok (Err e) h f = tt
