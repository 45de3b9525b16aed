-- A known line is compared instead of parsed.
--
-- - `reading_passed`: if a line is due and the bytes begin with it, they are read as that line and
-- the rest;
-- - `passed`: the same for a reader that holds no part of a line;
-- - `passed_short`: a line with its LF has from 1 to 53 bytes;
-- - `passed_all`: the same as `passed` for lines that are due one after the other;
-- - `all_long`, `column_long`: how many they are, and `all_short`: how many bytes they have at most.
use Rattle.std.proofs.Common.{◌≡◌, ℕ, ◌+◌, ◌*◌, ◌≤◌, List, [], ◌∷◌, ◌++◌, length, take, Option, None, refl, ap, ◌∙◌, append_assoc, arith, length-append}
use Rattle.cilk_cert_text.specs.declared.fault.CertFault.{CertFault}
use Rattle.cilk_cert_text.specs.declared.line.Form.{Form}
use Rattle.cilk_cert_text.specs.declared.line.Line.{Line}
use Rattle.cilk_cert_text.specs.declared.line.Column.{Column}
use Rattle.cilk_cert_text.specs.declared.line.Column.TheVariants as columns
use Rattle.cilk_cert_text.specs.declared.line.Version.TheVariants.{Two}
use Rattle.cilk_cert_text.specs.Certificates.{IsAt, AllAt, text_of_lines}
use Rattle.cilk_cert_text.specs.Lines.{spelled, line_of}
use Rattle.cilk_cert_text.specs.Places.{AreDue, IsDue, column_forms, count_of}
use Rattle.cilk_cert_text.specs.Reading.{Due, Lines, with_line, reading, reading_lines}
use Rattle.cilk_cert_text.specs.Readers.{rest_of, with_all}
use Rattle.cilk_cert_text.proofs.Bounds.{frame_count, strand_count, event_count}
use Rattle.cilk_cert_text.proofs.Shown.{shown_line, line_again, short}
use Rattle.cilk_cert_text.proofs.Wholes.{step_again}

pub reading_passed : (form : Form) (forms : List Form) (x : Line) (n : ℕ) (text : List ℕ) → IsAt form x
    → reading (Lines (form ∷ forms)) n ((spelled x ++ 10 ∷ []) ++ text) ≡ with_line x (reading (Lines forms) (n + 1) text)
unfolding reading
reading_passed form forms x n text h =
    step_again n (line_of form) (λ line rest. with_line line (reading_lines (n + 1) forms rest)) x x text (shown_line form x h) (line_again form x h)

pub passed : (fault : Option CertFault) (due later : Due) (n m len : ℕ) (bytes : List ℕ) (form : Form) (x : Line) (piece rest more : List ℕ)
    → fault ≡ None → len ≡ 0 → IsDue form later due → m ≡ n + 1 → IsAt form x → piece ≡ (spelled x ++ 10 ∷ []) ++ rest
    → rest_of fault due n (take len bytes ++ (piece ++ more)) ≡ with_line x (rest_of fault later m (take len bytes ++ (rest ++ more)))
passed fault due later n m len bytes form x piece rest more e z d next h is =
    rw (e, z, d.1, d.2, next, is)
    (ap (reading (Lines (form ∷ d.0)) n) (append_assoc (spelled x ++ 10 ∷ []) rest more) ∙ reading_passed form d.0 x n (rest ++ more) h)

pub passed_short : (form : Form) (x : Line) → IsAt form x → (1 ≤ length (spelled x ++ 10 ∷ [])) × (length (spelled x ++ 10 ∷ []) ≤ 53)
passed_short form x h =
    let ended : length (spelled x ++ 10 ∷ []) ≡ length (spelled x) + 1 = length-append (spelled x) (10 ∷ []) in
    let few : length (spelled x) ≤ 52 = short x (shown_line form x h) in
    (omega (arith, ended), omega (arith, ended, few))

-- ---- several lines

pub reading_all : (fs gs : List Form) (xs : List Line) (n m : ℕ) (text : List ℕ) → AllAt fs xs → m ≡ n + length xs
    → reading_lines n (fs ++ gs) (text_of_lines xs ++ text) ≡ with_all xs (reading_lines m gs text)
reading_all [] gs [] n m text h e = let same : m ≡ n = omega (arith, e) in rw same refl
reading_all [] gs (x ∷ xs) n m text h e = absurd h
reading_all (f ∷ fs) gs [] n m text h e = absurd h
reading_all (f ∷ fs) gs (x ∷ xs) n m text h e =
    let regrouped : text_of_lines (x ∷ xs) ++ text ≡ (spelled x ++ 10 ∷ []) ++ (text_of_lines xs ++ text) = append_assoc (spelled x ++ 10 ∷ []) (text_of_lines xs) text in
    ap (reading_lines n (f ∷ (fs ++ gs))) regrouped
    ∙ step_again n (line_of f) (λ line rest. with_line line (reading_lines (n + 1) (fs ++ gs) rest)) x x (text_of_lines xs ++ text) (shown_line f x h.0) (line_again f x h.0)
    ∙ ap (with_line x) (reading_all fs gs xs (n + 1) m text h.1 (omega (arith, e)))

reading_passed_all : (fs gs : List Form) (xs : List Line) (n m : ℕ) (text : List ℕ) → AllAt fs xs → m ≡ n + length xs
    → reading (Lines (fs ++ gs)) n (text_of_lines xs ++ text) ≡ with_all xs (reading (Lines gs) m text)
unfolding reading
reading_passed_all fs gs xs n m text h e = reading_all fs gs xs n m text h e

pub passed_all : (fault : Option CertFault) (due later : Due) (n m len : ℕ) (bytes : List ℕ) (fs : List Form) (xs : List Line) (piece rest more : List ℕ)
    → fault ≡ None → len ≡ 0 → AreDue fs later due → m ≡ n + length xs → AllAt fs xs → piece ≡ text_of_lines xs ++ rest
    → rest_of fault due n (take len bytes ++ (piece ++ more)) ≡ with_all xs (rest_of fault later m (take len bytes ++ (rest ++ more)))
passed_all fault due later n m len bytes fs xs piece rest more e z d next h is =
    rw (e, z, d.1, d.2, is)
    (ap (reading (Lines (fs ++ d.0)) n) (append_assoc (text_of_lines xs) rest more) ∙ reading_passed_all fs d.0 xs n m (rest ++ more) h next)

pub all_long : (fs : List Form) (xs : List Line) → AllAt fs xs → length xs ≡ length fs
all_long [] [] h = refl
all_long [] (x ∷ xs) h = absurd h
all_long (f ∷ fs) [] h = absurd h
all_long (f ∷ fs) (x ∷ xs) h = omega (arith, all_long fs xs h.1)

pub all_short : (fs : List Form) (xs : List Line) → AllAt fs xs → length (text_of_lines xs) ≤ 53 * length fs
all_short [] [] h = omega arith
all_short [] (x ∷ xs) h = absurd h
all_short (f ∷ fs) [] h = absurd h
all_short (f ∷ fs) (x ∷ xs) h =
    let first : length (spelled x ++ 10 ∷ []) ≤ 53 = (passed_short f x h.0).1 in
    let later : length (text_of_lines xs) ≤ 53 * length fs = all_short fs xs h.1 in
    omega (arith, first, later, length-append (spelled x ++ 10 ∷ []) (text_of_lines xs))

pub column_long : (lines : Column) → length (column_forms lines) ≡ count_of lines
column_long (columns.Frames first count) = frame_count first count
column_long (columns.Strands first count) = strand_count first count
column_long (columns.Events count) = event_count Two count
