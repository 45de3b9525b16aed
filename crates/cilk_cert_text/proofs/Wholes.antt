-- A certificate's text is read as its lines, and a text that is read without a fault is a
-- certificate's.
use Rattle.std.proofs.Common.{◌≡◌, ℕ, zero, suc, ◌+◌, ◌^◌, ◌≤◌, Bool, true, false, cond, List, [], ◌∷◌, ◌++◌, length, Option, Some, None, ℤ, refl, sym, ap, subst, ◌∙◌, append-nil, append_assoc, eqb, ltb, arith}
use Rattle.std.specs.Prelude.{option_map}
use Rattle.std.specs.List.{AllByRecursion}
use Rattle.std.proofs.lemmas.Bool.{lt-ltb, eqb-true}
use Rattle.cilk_cert_text.specs.declared.fault.CertFault.{CertFault}
use Rattle.cilk_cert_text.specs.declared.fault.CertFault.TheVariants.{Malformed, Truncated}
use Rattle.cilk_cert_text.specs.declared.line.Version.{Version}
use Rattle.cilk_cert_text.specs.declared.line.Entry.{Entry}
use Rattle.cilk_cert_text.specs.declared.line.Size.{Size}
use Rattle.cilk_cert_text.specs.declared.line.Frame.{Frame}
use Rattle.cilk_cert_text.specs.declared.line.Strand.{Strand}
use Rattle.cilk_cert_text.specs.declared.line.Line.{Line}
use Rattle.cilk_cert_text.specs.declared.line.Line.TheVariants as lines
use Rattle.cilk_cert_text.specs.declared.line.Form.{Form}
use Rattle.cilk_cert_text.specs.declared.line.Form.TheVariants as forms
use Rattle.cilk_cert_text.specs.Words.{words, joined}
use Rattle.cilk_cert_text.specs.Lines.{line_words, spelled, line_of, is_size, version_line, size_line}
use Rattle.cilk_cert_text.specs.Certificates.{Contents, frame_lines, strand_lines, event_lines, size_of, lines_of, text_of_lines, text_of, IsValue, IsEntry, IsFrame, IsStrand, IsCertificate, AllAt}
use Rattle.cilk_cert_text.specs.Reading.{Reading, stops, with_line, first_line, taken, step, frame_forms, strand_forms, event_forms, forms_of, reading_lines, reading_size, reading, reading_of}
use Rattle.cilk_cert_text.specs.Gathering.{nothing, gathered}
use Rattle.cilk_cert_text.proofs.Spellings.{both, version_sound, size_sound, size_within, version_again, size_again, joined_words}
use Rattle.cilk_cert_text.proofs.Entries.{line_sound}
use Rattle.cilk_cert_text.proofs.Shown.{Shown, shown_line, shown_version, shown_size, words_shown, short, front_line, line_again}

-- ---- lines of the forms that are due

abbrev pub all_lines : List Line → Reading
all_lines xs = record { lines = xs; fault = None }

pub step_again : {A : Type 0} (n : ℕ) (line : List ℕ → Option A) (next : A → List ℕ → Reading) (x : Line) (a : A) (text : List ℕ) → Shown (line_words x) → line (spelled x) ≡ Some a → step n line next ((spelled x ++ 10 ∷ []) ++ text) (first_line ((spelled x ++ 10 ∷ []) ++ text)) ≡ next a text
step_again n line next x a text s e =
    rw (front_line x text s, lt-ltb (length (spelled x)) 97 (omega (arith, short x s)), e) refl

pub lines_again : (n : ℕ) (fs : List Form) (xs : List Line) → AllAt fs xs → reading_lines n fs (text_of_lines xs) ≡ all_lines xs
lines_again n [] [] h = refl
lines_again n [] (x ∷ xs) h = absurd h
lines_again n (f ∷ fs) [] h = absurd h
lines_again n (f ∷ fs) (x ∷ xs) h =
    step_again n (line_of f) (λ line rest. with_line line (reading_lines (n + 1) fs rest)) x x (text_of_lines xs) (shown_line f x h.0) (line_again f x h.0)
    ∙ ap (with_line x) (lines_again (n + 1) fs xs h.1)

-- ---- back from the bytes

abbrev cut_at : Bool → ℕ → List ℕ → Option (List ℕ × List ℕ) → Option (List ℕ × List ℕ)
cut_at t b bs o = cond t (Some ([], bs)) (option_map (λ s. (b ∷ s.0, s.1)) o)

pair_is : (a b : List ℕ × List ℕ) → ◌≡◌ {A = Option (List ℕ × List ℕ)} (Some a) (Some b) → a ≡ b
pair_is a b e = cc

front_cond : (t : Bool) (b : ℕ) (bs : List ℕ) (o : Option (List ℕ × List ℕ)) (p : List ℕ × List ℕ) → eqb b 10 ≡ t → ((q : List ℕ × List ℕ) → o ≡ Some q → bs ≡ q.0 ++ 10 ∷ q.1) → cut_at t b bs o ≡ Some p → b ∷ bs ≡ p.0 ++ 10 ∷ p.1
front_cond true b bs o p is back e =
    let same = pair_is ([], bs) p e in
    subst (λ (q : List ℕ × List ℕ). b ∷ bs ≡ q.0 ++ 10 ∷ q.1) same (ap (λ (x : ℕ). x ∷ bs) (eqb-true b 10 is))
front_cond false b bs None p is back e = absurd cc
front_cond false b bs (Some q) p is back e =
    let same = pair_is (b ∷ q.0, q.1) p e in
    subst (λ (q : List ℕ × List ℕ). b ∷ bs ≡ q.0 ++ 10 ∷ q.1) same (ap (λ (x : List ℕ). b ∷ x) (back q refl))

pub front_is : (bytes : List ℕ) (p : List ℕ × List ℕ) → first_line bytes ≡ Some p → bytes ≡ p.0 ++ 10 ∷ p.1
front_is [] p e = absurd cc
front_is (b ∷ bs) p e = front_cond (eqb b 10) b bs (first_line bs) p refl (front_is bs) e

-- the line of a step without a fault
record Took {A : Type 0} (line : List ℕ → Option A) (next : A → List ℕ → Reading) (bytes : List ℕ) (r : Reading) : Type 0 where
  front : List ℕ
  rest : List ℕ
  read : A
  parts : bytes ≡ front ++ 10 ∷ rest
  line_is : line front ≡ Some read
  next_is : next read rest ≡ r

has_fault : (f : CertFault) (r : Reading) → stops f ≡ r → r.fault ≡ None → ⊥
has_fault f r e n = clash (ap (λ (x : Reading). x.fault) e ∙ n) where
  clash : ◌≡◌ {A = Option CertFault} (Some f) None → ⊥
  clash e = absurd cc

took_line : {A : Type 0} (n : ℕ) (line : List ℕ → Option A) (next : A → List ℕ → Reading) (bytes front rest : List ℕ) (o : Option A) (r : Reading) → bytes ≡ front ++ 10 ∷ rest → line front ≡ o → taken n next rest o ≡ r → r.fault ≡ None → Took line next bytes r
took_line n line next bytes front rest None r parts is e clean = absurd (has_fault (Malformed n) r e clean)
took_line n line next bytes front rest (Some a) r parts is e clean = record { front = front; rest = rest; read = a; parts = parts; line_is = is; next_is = e }

took_cond : {A : Type 0} (n : ℕ) (line : List ℕ → Option A) (next : A → List ℕ → Reading) (bytes front rest : List ℕ) (t : Bool) (r : Reading) → bytes ≡ front ++ 10 ∷ rest → cond t (taken n next rest (line front)) (stops (Malformed n)) ≡ r → r.fault ≡ None → Took line next bytes r
took_cond n line next bytes front rest true r parts e clean = took_line n line next bytes front rest (line front) r parts refl e clean
took_cond n line next bytes front rest false r parts e clean = absurd (has_fault (Malformed n) r e clean)

none_cond : (n : ℕ) (t : Bool) (r : Reading) → cond t (stops (Truncated n)) (stops (Malformed n)) ≡ r → r.fault ≡ None → ⊥
none_cond n true r e clean = has_fault (Truncated n) r e clean
none_cond n false r e clean = has_fault (Malformed n) r e clean

took_parts : {A : Type 0} (n : ℕ) (line : List ℕ → Option A) (next : A → List ℕ → Reading) (bytes : List ℕ) (o : Option (List ℕ × List ℕ)) (r : Reading) → first_line bytes ≡ o → step n line next bytes o ≡ r → r.fault ≡ None → Took line next bytes r
took_parts n line next bytes None r is e clean = absurd (none_cond n (ltb (length bytes) 97) r e clean)
took_parts n line next bytes (Some p) r is e clean = took_cond n line next bytes p.0 p.1 (ltb (length p.0) 97) r (front_is bytes p is) e clean

took : {A : Type 0} (n : ℕ) (line : List ℕ → Option A) (next : A → List ℕ → Reading) (bytes : List ℕ) (r : Reading) → step n line next bytes (first_line bytes) ≡ r → r.fault ≡ None → Took line next bytes r
took n line next bytes r e clean = took_parts n line next bytes (first_line bytes) r refl e clean

-- lines that were read to the end
pub record AreRead (fs : List Form) (bytes : List ℕ) (xs : List Line) : Type 0 where
  pub at : AllAt fs xs
  pub text : bytes ≡ text_of_lines xs

line_text : (x : Line) (front rest : List ℕ) (xs : List Line) → front ≡ spelled x → rest ≡ text_of_lines xs → front ++ 10 ∷ rest ≡ text_of_lines (x ∷ xs)
line_text x front rest xs e f = rw (e, f) (sym (append_assoc (spelled x) (10 ∷ []) (text_of_lines xs)))

pub lines_sound : (n : ℕ) (fs : List Form) (bytes : List ℕ) (r : Reading) → reading_lines n fs bytes ≡ r → r.fault ≡ None → AreRead fs bytes r.lines
lines_sound n [] [] r e clean = subst (λ (x : Reading). AreRead [] [] x.lines) e (record { at = tt; text = refl })
lines_sound n [] (b ∷ bs) r e clean = absurd (has_fault (Malformed n) r e clean)
lines_sound n (f ∷ fs) bytes r e clean =
    let t = took n (line_of f) (λ line rest. with_line line (reading_lines (n + 1) fs rest)) bytes r e clean in
    let later = reading_lines (n + 1) fs t.rest in
    let no_later : later.fault ≡ None = ap (λ (x : Reading). x.fault) t.next_is ∙ clean in
    let below = lines_sound (n + 1) fs t.rest later refl no_later in
    let s = line_sound f t.front t.read t.line_is in
    subst (λ (x : Reading). AreRead (f ∷ fs) bytes x.lines) t.next_is
    (record { at = (s.0, below.at); text = t.parts ∙ line_text t.read t.front t.rest later.lines s.1 below.text })

-- ---- the lines of a certificate

pub at_append : (fs gs : List Form) (xs ys : List Line) → AllAt fs xs → AllAt gs ys → AllAt (fs ++ gs) (xs ++ ys)
at_append [] gs [] ys h k = k
at_append [] gs (x ∷ xs) ys h k = absurd h
at_append (f ∷ fs) gs [] ys h k = absurd h
at_append (f ∷ fs) gs (x ∷ xs) ys h k = (h.0, at_append fs gs xs ys h.1 k)

frames_at : (k : ℕ) (fs : List Frame) → k + length fs ≤ 2 ^ 32 → AllByRecursion IsFrame fs → AllAt (frame_forms k (length fs)) (frame_lines k fs)
frames_at k [] h fit = tt
frames_at k (f ∷ fs) h fit = ((omega arith, refl, fit.0), frames_at (k + 1) fs (omega arith) fit.1)

strands_at : (k : ℕ) (ss : List Strand) → k + length ss ≤ 2 ^ 32 → AllByRecursion IsStrand ss → AllAt (strand_forms k (length ss)) (strand_lines k ss)
strands_at k [] h fit = tt
strands_at k (s ∷ ss) h fit = ((omega arith, refl, fit.0), strands_at (k + 1) ss (omega arith) fit.1)

events_at : (v : Version) (es : List Entry) → AllByRecursion (IsEntry v) es → AllAt (event_forms v (length es)) (event_lines es)
events_at v [] fit = tt
events_at v (e ∷ es) fit = (fit.0, events_at v es fit.1)

abbrev body_lines : Contents → List Line
body_lines c = frame_lines 1 c.frames ++ (strand_lines 1 c.strands ++ (event_lines c.events ++ lines.Result c.result ∷ lines.End ∷ []))

body_at : (c : Contents) → IsCertificate c → AllAt (forms_of c.version (size_of c)) (body_lines c)
body_at c h =
    let last : AllAt (forms.Result ∷ forms.End ∷ []) (lines.Result c.result ∷ lines.End ∷ []) = (h.result, (tt, tt)) in
    let events = at_append (event_forms c.version (length c.events)) (forms.Result ∷ forms.End ∷ []) (event_lines c.events) (lines.Result c.result ∷ lines.End ∷ []) (events_at c.version c.events h.events) last in
    let strands = at_append (strand_forms 1 (length c.strands)) _ (strand_lines 1 c.strands) _ (strands_at 1 c.strands (omega (arith, h.few_strands)) h.strands) events in
    at_append (frame_forms 1 (length c.frames)) _ (frame_lines 1 c.frames) _ (frames_at 1 c.frames (omega (arith, h.few_frames)) h.frames) strands

size_fits : (c : Contents) → IsCertificate c → is_size (size_of c) ≡ true
size_fits c h =
    both _ _ (lt-ltb (length c.events) 1000001 (omega (arith, h.few_events)))
    (both _ _ (lt-ltb (length c.frames) 65537 (omega (arith, h.few_frames))) (lt-ltb (length c.strands) 1000001 (omega (arith, h.few_strands))))

-- a certificate's text is read as its lines
pub certificate_again : (c : Contents) → IsCertificate c → reading_of (text_of c) ≡ all_lines (lines_of c)
unfolding reading
certificate_again c h =
    let fits = size_fits c h in
    let v = shown_version c.version in
    let s = shown_size (size_of c) fits in
    let version_is : version_line (words (spelled (lines.Version c.version))) ≡ Some c.version = ap version_line (words_shown (lines.Version c.version) v) ∙ version_again c.version in
    let size_is : size_line (words (spelled (lines.Size (size_of c)))) ≡ Some (size_of c) = ap size_line (words_shown (lines.Size (size_of c)) s) ∙ size_again (size_of c) fits in
    step_again 1 (λ l. version_line (words l)) (λ version rest. with_line (lines.Version version) (reading_size version 2 rest)) (lines.Version c.version) c.version _ v version_is
    ∙ ap (with_line (lines.Version c.version))
    (step_again 2 (λ l. size_line (words l)) (λ size rest. with_line (lines.Size size) (reading_lines 3 (forms_of c.version size) rest)) (lines.Size (size_of c)) (size_of c) _ s size_is
    ∙ ap (with_line (lines.Size (size_of c))) (lines_again 3 (forms_of c.version (size_of c)) (body_lines c) (body_at c h)))

-- ---- bytes after a certificate's text

-- the fault that a reading ends with
abbrev pub Ends : Reading → Type 0
Ends r = (f : CertFault) × (r.fault ≡ Some f)

ends_step : (r r' : Reading) → r ≡ r' → Ends r' → Ends r
ends_step r r' e h = (h.0, ap (λ (x : Reading). x.fault) e ∙ h.1)

lines_over : (n : ℕ) (fs : List Form) (xs : List Line) (b : ℕ) (more : List ℕ) → AllAt fs xs → Ends (reading_lines n fs (text_of_lines xs ++ b ∷ more))
lines_over n [] [] b more h = (Malformed n, refl)
lines_over n [] (x ∷ xs) b more h = absurd h
lines_over n (f ∷ fs) [] b more h = absurd h
lines_over n (f ∷ fs) (x ∷ xs) b more h =
    let later = lines_over (n + 1) fs xs b more h.1 in
    let regrouped : text_of_lines (x ∷ xs) ++ b ∷ more ≡ (spelled x ++ 10 ∷ []) ++ (text_of_lines xs ++ b ∷ more) = append_assoc (spelled x ++ 10 ∷ []) (text_of_lines xs) (b ∷ more) in
    ends_step _ _ (ap (reading_lines n (f ∷ fs)) regrouped
    ∙ step_again n (line_of f) (λ line rest. with_line line (reading_lines (n + 1) fs rest)) x x (text_of_lines xs ++ b ∷ more) (shown_line f x h.0) (line_again f x h.0)) later

pub certificate_over : (c : Contents) → IsCertificate c → (b : ℕ) (more : List ℕ) → Ends (reading_of (text_of c ++ b ∷ more))
unfolding reading
certificate_over c h b more =
    let fits = size_fits c h in
    let v = shown_version c.version in
    let s = shown_size (size_of c) fits in
    let version_is : version_line (words (spelled (lines.Version c.version))) ≡ Some c.version = ap version_line (words_shown (lines.Version c.version) v) ∙ version_again c.version in
    let size_is : size_line (words (spelled (lines.Size (size_of c)))) ≡ Some (size_of c) = ap size_line (words_shown (lines.Size (size_of c)) s) ∙ size_again (size_of c) fits in
    let body = lines_over 3 (forms_of c.version (size_of c)) (body_lines c) b more (body_at c h) in
    let rest : List ℕ = text_of_lines (body_lines c) ++ b ∷ more in
    let second : text_of_lines (lines.Size (size_of c) ∷ body_lines c) ++ b ∷ more ≡ (spelled (lines.Size (size_of c)) ++ 10 ∷ []) ++ rest = append_assoc (spelled (lines.Size (size_of c)) ++ 10 ∷ []) (text_of_lines (body_lines c)) (b ∷ more) in
    let first : text_of c ++ b ∷ more ≡ (spelled (lines.Version c.version) ++ 10 ∷ []) ++ (text_of_lines (lines.Size (size_of c) ∷ body_lines c) ++ b ∷ more) = append_assoc (spelled (lines.Version c.version) ++ 10 ∷ []) (text_of_lines (lines.Size (size_of c) ∷ body_lines c)) (b ∷ more) in
    ends_step _ _ (ap reading_of first
    ∙ step_again 1 (λ l. version_line (words l)) (λ version rest. with_line (lines.Version version) (reading_size version 2 rest)) (lines.Version c.version) c.version (text_of_lines (lines.Size (size_of c) ∷ body_lines c) ++ b ∷ more) v version_is
    ∙ ap (λ (t : List ℕ). with_line (lines.Version c.version) (reading_size c.version 2 t)) second
    ∙ ap (with_line (lines.Version c.version)) (step_again 2 (λ l. size_line (words l)) (λ size rest. with_line (lines.Size size) (reading_lines 3 (forms_of c.version size) rest)) (lines.Size (size_of c)) (size_of c) rest s size_is)) body

-- ---- back to the certificate

-- the lines of frames, and what follows them
record Framed (k n : ℕ) (gs : List Form) (xs : List Line) : Type 0 where
  items : List Frame
  rest : List Line
  are : xs ≡ frame_lines k items ++ rest
  count : length items ≡ n
  fit : AllByRecursion IsFrame items
  later : AllAt gs rest

framed : (k n : ℕ) (gs : List Form) (xs : List Line) → AllAt (frame_forms k n ++ gs) xs → Framed k n gs xs
framed k zero gs xs h = record { items = []; rest = xs; are = refl; count = refl; fit = tt; later = h }
framed k (suc n) gs [] h = absurd h
framed k (suc n) gs (lines.Frame m f ∷ xs) h =
    let below = framed (k + 1) n gs xs h.1 in
    record {
      items = f ∷ below.items;
      rest = below.rest;
      are = ap (λ (i : ℕ). lines.Frame i f ∷ xs) h.0.1 ∙ ap (λ (ys : List Line). lines.Frame k f ∷ ys) below.are;
      count = omega (arith, below.count);
      fit = (h.0.2, below.fit);
      later = below.later;
    }
framed k (suc n) gs (_ ∷ xs) h = absurd h.0

record Stranded (k n : ℕ) (gs : List Form) (xs : List Line) : Type 0 where
  items : List Strand
  rest : List Line
  are : xs ≡ strand_lines k items ++ rest
  count : length items ≡ n
  fit : AllByRecursion IsStrand items
  later : AllAt gs rest

stranded : (k n : ℕ) (gs : List Form) (xs : List Line) → AllAt (strand_forms k n ++ gs) xs → Stranded k n gs xs
stranded k zero gs xs h = record { items = []; rest = xs; are = refl; count = refl; fit = tt; later = h }
stranded k (suc n) gs [] h = absurd h
stranded k (suc n) gs (lines.Strand m s ∷ xs) h =
    let below = stranded (k + 1) n gs xs h.1 in
    record {
      items = s ∷ below.items;
      rest = below.rest;
      are = ap (λ (i : ℕ). lines.Strand i s ∷ xs) h.0.1 ∙ ap (λ (ys : List Line). lines.Strand k s ∷ ys) below.are;
      count = omega (arith, below.count);
      fit = (h.0.2, below.fit);
      later = below.later;
    }
stranded k (suc n) gs (_ ∷ xs) h = absurd h.0

record Listed (v : Version) (n : ℕ) (gs : List Form) (xs : List Line) : Type 0 where
  items : List Entry
  rest : List Line
  are : xs ≡ event_lines items ++ rest
  count : length items ≡ n
  fit : AllByRecursion (IsEntry v) items
  later : AllAt gs rest

listed : (v : Version) (n : ℕ) (gs : List Form) (xs : List Line) → AllAt (event_forms v n ++ gs) xs → Listed v n gs xs
listed v zero gs xs h = record { items = []; rest = xs; are = refl; count = refl; fit = tt; later = h }
listed v (suc n) gs [] h = absurd h
listed v (suc n) gs (lines.Event e ∷ xs) h =
    let below = listed v n gs xs h.1 in
    record {
      items = e ∷ below.items;
      rest = below.rest;
      are = ap (λ (ys : List Line). lines.Event e ∷ ys) below.are;
      count = omega (arith, below.count);
      fit = (h.0, below.fit);
      later = below.later;
    }
listed v (suc n) gs (_ ∷ xs) h = absurd h.0

record Last (xs : List Line) : Type 0 where
  result : ℤ
  are : xs ≡ lines.Result result ∷ lines.End ∷ []
  fits : IsValue result

last_end : (z : ℤ) (xs : List Line) → IsValue z → AllAt (forms.End ∷ []) xs → Last (lines.Result z ∷ xs)
last_end z [] h k = absurd k
last_end z (lines.End ∷ []) h k = record { result = z; are = refl; fits = h }
last_end z (lines.End ∷ y ∷ ys) h k = absurd k.1
last_end z (_ ∷ ys) h k = absurd k.0

last : (xs : List Line) → AllAt (forms.Result ∷ forms.End ∷ []) xs → Last xs
last [] h = absurd h
last (lines.Result z ∷ xs) h = last_end z xs h.0 h.1
last (_ ∷ xs) h = absurd h.0

spelled_from : (front : List ℕ) (x : Line) → words front ≡ line_words x → front ≡ spelled x
unfolding spelled
spelled_from front x e = sym (joined_words front) ∙ ap joined e

-- a certificate whose text is these bytes
pub record IsTextOf (bytes : List ℕ) (xs : List Line) : Type 0 where
  pub certificate : Contents
  pub fits : IsCertificate certificate
  pub lines : xs ≡ lines_of certificate
  pub text : bytes ≡ text_of certificate

body_sound : (v : Version) (s : Size) (xs : List Line) → is_size s ≡ true → AllAt (forms_of v s) xs → (c : Contents) × IsCertificate c × (c.version ≡ v) × (size_of c ≡ s) × (xs ≡ body_lines c)
body_sound v s xs few h =
    let b = size_within s few in
    let f = framed 1 s.frames _ xs h in
    let t = stranded 1 s.strands _ f.rest f.later in
    let e = listed v s.events _ t.rest t.later in
    let l = last e.rest e.later in
    let c : Contents = record { version = v; frames = f.items; strands = t.items; events = e.items; result = l.result } in
    let whole_lines : xs ≡ body_lines c =
    f.are ∙ ap (λ (ys : List Line). frame_lines 1 f.items ++ ys) (t.are ∙ ap (λ (ys : List Line). strand_lines 1 t.items ++ ys) (e.are ∙ ap (λ (ys : List Line). event_lines e.items ++ ys) l.are)) in
    let same_size : size_of c ≡ s = rw (e.count, f.count, t.count) refl in (
      c,
      record {
        few_events = omega (arith, e.count);
        few_frames = omega (arith, f.count);
        few_strands = omega (arith, t.count);
        frames = f.fit;
        strands = t.fit;
        events = e.fit;
        result = l.fits;
      },
      refl,
      same_size,
      whole_lines,
    )

head_is : (v : Version) (s : Size) (c : Contents) (xs : List Line) → c.version ≡ v → size_of c ≡ s → xs ≡ body_lines c → lines.Version v ∷ lines.Size s ∷ xs ≡ lines_of c
head_is v s c xs e f g = rw (← e, ← f, g) refl

pub certificate_sound : (bytes : List ℕ) (r : Reading) → reading_of bytes ≡ r → r.fault ≡ None → IsTextOf bytes r.lines
unfolding reading
certificate_sound bytes r e clean =
    let t = took 1 (λ l. version_line (words l)) (λ version rest. with_line (lines.Version version) (reading_size version 2 rest)) bytes r e clean in
    let v = t.read in
    let second = reading_size v 2 t.rest in
    let clean2 : second.fault ≡ None = ap (λ (x : Reading). x.fault) t.next_is ∙ clean in
    let u = took 2 (λ l. size_line (words l)) (λ size rest. with_line (lines.Size size) (reading_lines 3 (forms_of v size) rest)) t.rest second refl clean2 in
    let s = size_sound (words u.front) u.read u.line_is in
    let third = reading_lines 3 (forms_of v u.read) u.rest in
    let clean3 : third.fault ≡ None = ap (λ (x : Reading). x.fault) u.next_is ∙ clean2 in
    let body = lines_sound 3 (forms_of v u.read) u.rest third refl clean3 in
    let b = body_sound v u.read third.lines s.few body.at in
    let c = b.0 in
    let head : List Line = lines.Version v ∷ lines.Size u.read ∷ third.lines in
    let all : r.lines ≡ head = sym (ap (λ (x : Reading). x.lines) t.next_is) ∙ ap (λ (x : Reading). lines.Version v ∷ x.lines) (sym u.next_is) in
    let same : head ≡ lines_of c = head_is v u.read c third.lines b.2 b.3 b.4 in
    let text : bytes ≡ text_of_lines head =
    t.parts ∙ line_text (lines.Version v) t.front t.rest (lines.Size u.read ∷ third.lines) (spelled_from t.front (lines.Version v) (version_sound (words t.front) v t.line_is))
    (u.parts ∙ line_text (lines.Size u.read) u.front u.rest third.lines (spelled_from u.front (lines.Size u.read) s.words) body.text) in
    record { certificate = c; fits = b.1; lines = all ∙ same; text = text ∙ ap text_of_lines same }

-- ---- the contents that the lines add up to

gathered_frames : (k : ℕ) (fs : List Frame) (c : Contents) (ys : List Line) → gathered c (frame_lines k fs ++ ys) ≡ gathered (record c { frames = c.frames ++ fs }) ys
gathered_frames k [] c ys = ap (λ (fs : List Frame). gathered (record c { frames = fs }) ys) (sym (append-nil c.frames))
gathered_frames k (f ∷ fs) c ys =
    gathered_frames (k + 1) fs (record c { frames = c.frames ++ f ∷ [] }) ys ∙ ap (λ (fs : List Frame). gathered (record c { frames = fs }) ys) (append_assoc c.frames (f ∷ []) fs)

gathered_strands : (k : ℕ) (ss : List Strand) (c : Contents) (ys : List Line) → gathered c (strand_lines k ss ++ ys) ≡ gathered (record c { strands = c.strands ++ ss }) ys
gathered_strands k [] c ys = ap (λ (ss : List Strand). gathered (record c { strands = ss }) ys) (sym (append-nil c.strands))
gathered_strands k (s ∷ ss) c ys =
    gathered_strands (k + 1) ss (record c { strands = c.strands ++ s ∷ [] }) ys ∙ ap (λ (ss : List Strand). gathered (record c { strands = ss }) ys) (append_assoc c.strands (s ∷ []) ss)

gathered_events : (es : List Entry) (c : Contents) (ys : List Line) → gathered c (event_lines es ++ ys) ≡ gathered (record c { events = c.events ++ es }) ys
gathered_events [] c ys = ap (λ (es : List Entry). gathered (record c { events = es }) ys) (sym (append-nil c.events))
gathered_events (e ∷ es) c ys =
    gathered_events es (record c { events = c.events ++ e ∷ [] }) ys ∙ ap (λ (es : List Entry). gathered (record c { events = es }) ys) (append_assoc c.events (e ∷ []) es)

-- a certificate's lines add up to it
pub gathered_lines : (c : Contents) → gathered nothing (lines_of c) ≡ c
gathered_lines c =
    gathered_frames 1 c.frames (record nothing { version = c.version }) _
    ∙ (gathered_strands 1 c.strands (record nothing { version = c.version; frames = c.frames }) _
    ∙ gathered_events c.events (record nothing { version = c.version; frames = c.frames; strands = c.strands }) (lines.Result c.result ∷ lines.End ∷ []))
