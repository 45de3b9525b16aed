-- The reader's words on scripts and the grammar's say the same.
--
-- - `line_means`, `means_is`: a line by itself; `means_before`, `before_is`: one before an LF;
-- - `orders_spelled`, `spelled_orders`: scripts, in both directions;
-- - `fails_first`, `first_fails`: first bad lines, in both directions;
-- - `grammars_agree`: the law.
use Rattle.std.proofs.Common.{◌≡◌, ◌≢◌, ◌⊎◌, inl, inr, ⊎_elim, ◌+◌, ◌-◌, ◌<◌, ◌≤◌, ℕ, suc, Bool, true, false, cond, eqb, List, [], ◌∷◌, ◌++◌, length, get_or, take, Option, Some, None, refl, sym, ap, ◌∙◌, subst, arith, append_assoc, append-nil, length-append}
use Rattle.std.proofs.lemmas.Bool.{cases_lt, eqb-true, eq-eqb, ne_eqb}
use Rattle.std.proofs.Math.Seq.{get_or-append_seam, take-append_seam}
use Rattle.cilk_syntax.specs.Lexing.{behind, belongs, front_of}
use Rattle.cilk_syntax.specs.declared.lexer.Class.TheVariants.{Line}
use Rattle.cilk_parser.specs.Scripts.{Bad, BadLine, Ends, FailsAtLine, IsBadLine, IsLine, Last, Later, Long, LongLine, Orders, is_silent, order_in, steps_of, without_return}
use Rattle.cilk_parser.specs.ScriptGrammar.{AllMean, GrammarsAgree, HasNoLf, IsBadEnded, IsBadLast, IsFirstBad, IsSpelled, Means, MeansBefore, ended, numbered}
use Rattle.cilk_parser.specs.declared.script.LineOrder.{LineOrder}
use Rattle.cilk_parser.specs.declared.script.Step.{Step}
use Rattle.cilk_parser.proofs.OneScript.{not_both}
use Rattle.cilk_parser.proofs.ScriptSpellings.{chosen, front_behind, no_return, not_silent, order_read, order_spelled, other}

abbrev meaning_of : List ℕ → Option LineOrder
meaning_of line = cond (is_silent line) None (order_in line)

-- ---- one line

silent_means : (line : List ℕ) → is_silent line ≡ true → Means line None
silent_means [] h = inl refl
silent_means (b ∷ bs) h = inr (bs, ap (λ x. x ∷ bs) (eqb-true b 35 h))

means_silent : (line : List ℕ) → Means line None → is_silent line ≡ true
means_silent line (inl e) = ap is_silent e
means_silent line (inr k) = ap is_silent k.1

order_means : (line : List ℕ) (order : LineOrder) → order_in line ≡ Some order → (s : Bool) → is_silent line ≡ s → Means line (cond s None (order_in line))
order_means line order h true e = silent_means line e
order_means line order h false e = subst (λ m. Means line m) (sym h) (order_spelled line order h)

line_means : (line : List ℕ) → IsLine line → Means line (meaning_of line)
line_means line (inl h) = subst (λ m. Means line m) (sym (chosen (is_silent line) None (order_in line) h)) (silent_means line h)
line_means line (inr k) = order_means line k.0 k.1 (is_silent line) refl

means_is : (line : List ℕ) (m : Option LineOrder) → Means line m → IsLine line × (m ≡ meaning_of line)
means_is line None h = let s = means_silent line h in (inl s, sym (chosen (is_silent line) None (order_in line) s))
means_is line (Some order) h =
    let e = order_read order h.0 line h.1 h.2 in
    (inr (order, e), sym (other (is_silent line) None (order_in line) (not_silent order h.0 line h.1 h.2) ∙ e))

-- ---- a line before an LF

front_last : (b : ℕ) (bs : List ℕ) → b ∷ bs ≡ take (length bs) (b ∷ bs) ++ get_or (b ∷ bs) (length bs) 0 ∷ []
front_last b [] = refl
front_last b (c ∷ bs) = ap (λ x. b ∷ x) (front_last c bs)

last_return : (bytes : List ℕ) → get_or bytes (length bytes - 1) 0 ≡ 13 → bytes ≡ take (length bytes - 1) bytes ++ 13 ∷ []
last_return [] e = absurd (omega (arith, e))
last_return (b ∷ bs) e =
    let m : length bs ≡ length (b ∷ bs) - 1 = omega arith in
    front_last b bs ∙ (ap (λ k. take k (b ∷ bs) ++ get_or (b ∷ bs) k 0 ∷ []) m ∙ ap (λ x. take (length (b ∷ bs) - 1) (b ∷ bs) ++ x ∷ []) e)

returned : (bytes : List ℕ) → (bytes ≡ without_return bytes ++ 13 ∷ []) ⊎ (without_return bytes ≡ bytes)
returned bytes = by (eqb (get_or bytes (length bytes - 1) 0) 13) refl where
  by : (t : Bool) → eqb (get_or bytes (length bytes - 1) 0) 13 ≡ t → (bytes ≡ cond t (take (length bytes - 1) bytes) bytes ++ 13 ∷ []) ⊎ (cond t (take (length bytes - 1) bytes) bytes ≡ bytes)
  by true e = inl (last_return bytes (eqb-true (get_or bytes (length bytes - 1) 0) 13 e))
  by false e = inr refl

cut_return : (l : List ℕ) → without_return (l ++ 13 ∷ []) ≡ l
cut_return l =
    let x = l ++ 13 ∷ [] in
    let m : length x - 1 ≡ length l = omega (arith, length-append l (13 ∷ [])) in
    let g : get_or x (length x - 1) 0 ≡ 13 = ap (λ k. get_or x k 0) m ∙ get_or-append_seam l 13 [] 0 in
    chosen (eqb (get_or x (length x - 1) 0) 13) (take (length x - 1) x) x (eq-eqb (get_or x (length x - 1) 0) 13 g) ∙ (ap (λ k. take k x) m ∙ take-append_seam l (13 ∷ []))

means_before : (bytes : List ℕ) → IsLine (without_return bytes) → MeansBefore bytes (meaning_of (without_return bytes))
means_before bytes h = ⊎_elim (λ e. inr (without_return bytes, e, line_means (without_return bytes) h)) (λ e. inl (subst (λ l. Means l (meaning_of (without_return bytes))) e (line_means (without_return bytes) h))) (returned bytes)

shorter_silent : (l : List ℕ) → is_silent (l ++ 13 ∷ []) ≡ true → is_silent l ≡ true
shorter_silent [] h = refl
shorter_silent (b ∷ l) h = h

with_return : (l : List ℕ) (m : Option LineOrder) → Means (l ++ 13 ∷ []) m → IsLine l × (m ≡ meaning_of l)
with_return l None h = let s = shorter_silent l (means_silent (l ++ 13 ∷ []) h) in (inl s, sym (chosen (is_silent l) None (order_in l) s))
with_return l (Some order) h = absurd (no_return order h.0 l h.1 h.2)

before_is : (bytes : List ℕ) (m : Option LineOrder) → MeansBefore bytes m → IsLine (without_return bytes) × (m ≡ meaning_of (without_return bytes))
before_is bytes m (inl h) =
    ⊎_elim (λ e. with_return (without_return bytes) m (subst (λ x. Means x m) e h)) (λ e. subst (λ x. IsLine x × (m ≡ meaning_of x)) (sym e) (means_is bytes m h)) (returned bytes)
before_is bytes m (inr k) =
    let w : without_return bytes ≡ k.0 = ap without_return k.1 ∙ cut_return k.0 in
    subst (λ x. IsLine x × (m ≡ meaning_of x)) (sym w) (means_is k.0 m k.2)

-- ---- lines of a text

no_lf : (b : ℕ) → b ≢ 10 → belongs Line b ≡ true
no_lf b h = other (eqb b 10) false true (ne_eqb b 10 h)

line_front : (l rest : List ℕ) → HasNoLf l → front_of Line (l ++ 10 ∷ rest) ≡ l
line_front [] rest h = refl
line_front (b ∷ l) rest h = chosen (belongs Line b) (b ∷ front_of Line (l ++ 10 ∷ rest)) [] (no_lf b h.0) ∙ ap (λ x. b ∷ x) (line_front l rest h.1)

line_behind : (l rest : List ℕ) → HasNoLf l → behind Line (l ++ 10 ∷ rest) ≡ 10 ∷ rest
line_behind [] rest h = refl
line_behind (b ∷ l) rest h = chosen (belongs Line b) (behind Line (l ++ 10 ∷ rest)) (b ∷ (l ++ 10 ∷ rest)) (no_lf b h.0) ∙ line_behind l rest h.1

last_behind : (l : List ℕ) → HasNoLf l → behind Line l ≡ []
last_behind [] h = refl
last_behind (b ∷ l) h = chosen (belongs Line b) (behind Line l) (b ∷ l) (no_lf b h.0) ∙ last_behind l h.1

front_step : (b : ℕ) (bs : List ℕ) (t : Bool) → belongs Line b ≡ t → HasNoLf (front_of Line bs) → HasNoLf (cond t (b ∷ front_of Line bs) [])
front_step b bs true h k = (λ e. let lf : belongs Line b ≡ false = ap (belongs Line) e in let never : ⊥ = cc in never, k)
front_step b bs false h k = tt

front_whole : (l : List ℕ) → HasNoLf (front_of Line l)
front_whole [] = tt
front_whole (b ∷ bs) = front_step b bs (belongs Line b) refl (front_whole bs)

all_whole : (l : List ℕ) → behind Line l ≡ [] → HasNoLf l
all_whole l e = subst HasNoLf (sym (append-nil (front_of Line l)) ∙ (ap (λ x. front_of Line l ++ x) (sym e) ∙ front_behind Line l)) (front_whole l)

lf_step : (c : ℕ) (cs : List ℕ) (t : Bool) → belongs Line c ≡ t → ((b : ℕ) (rest : List ℕ) → behind Line cs ≡ b ∷ rest → b ≡ 10) → (b : ℕ) (rest : List ℕ) → cond t (behind Line cs) (c ∷ cs) ≡ b ∷ rest → b ≡ 10
lf_step c cs true h k b rest e = k b rest e
lf_step c cs false h k b rest e = let same : c ≡ b = cc in sym same ∙ by (eqb c 10) refl h where
  by : (t : Bool) → eqb c 10 ≡ t → cond t false true ≡ false → c ≡ 10
  by true p q = eqb-true c 10 p
  by false p q = absurd cc

behind_lf : (l : List ℕ) (b : ℕ) (rest : List ℕ) → behind Line l ≡ b ∷ rest → b ≡ 10
behind_lf [] b rest e = absurd cc
behind_lf (c ∷ cs) b rest e = lf_step c cs (belongs Line c) refl (behind_lf cs) b rest e

-- a text by its first line and the rest
split_text : (text : List ℕ) (b : ℕ) (rest : List ℕ) → behind Line text ≡ b ∷ rest → text ≡ front_of Line text ++ 10 ∷ rest
split_text text b rest e = sym (front_behind Line text) ∙ ap (λ x. front_of Line text ++ x) (e ∙ ap (λ x. x ∷ rest) (behind_lf text b rest e))

split_length : (text : List ℕ) (b : ℕ) (rest : List ℕ) → behind Line text ≡ b ∷ rest → length text ≡ length (front_of Line text) + suc (length rest)
split_length text b rest e = ap length (split_text text b rest e) ∙ length-append (front_of Line text) (10 ∷ rest)

-- the first of more lines, before `tail`
joined : (l more tail : List ℕ) → l ++ 10 ∷ (more ++ tail) ≡ (l ++ 10 ∷ more) ++ tail
joined l more tail = sym (append_assoc l (10 ∷ more) tail)

-- ---- scripts

step_by : (n : ℕ) (line : List ℕ) (more : List (Option LineOrder)) (s : Bool) (order : Option LineOrder) → is_silent line ≡ s → steps_of n line order ++ numbered (suc n) more ≡ numbered n (cond s None order ∷ more)
step_by n line more true None h = refl
step_by n line more true (Some order) h = ap (λ z. z ++ numbered (suc n) more) (chosen (is_silent line) [] (record { line = n; order = order } ∷ []) h)
step_by n line more false None h = refl
step_by n line more false (Some order) h = ap (λ z. z ++ numbered (suc n) more) (other (is_silent line) [] (record { line = n; order = order } ∷ []) h)

step_is : (n : ℕ) (line : List ℕ) (more : List (Option LineOrder)) → steps_of n line (order_in line) ++ numbered (suc n) more ≡ numbered n (meaning_of line ∷ more)
step_is n line more = step_by n line more (is_silent line) (order_in line) refl

last_is : (n : ℕ) (line : List ℕ) → steps_of n line (order_in line) ≡ numbered n (meaning_of line ∷ [])
last_is n line = sym (append-nil (steps_of n line (order_in line))) ∙ step_is n line []

orders_spelled : (n room : ℕ) (text : List ℕ) (steps : List Step) → Orders n room text steps → IsSpelled n room text steps
orders_spelled n room text steps (Last e l i) = record {
  lines = [];
  last = text;
  meanings = [];
  meaning = meaning_of text;
  is = refl;
  all = tt;
  whole = all_whole text e;
  means = line_means text i;
  small = l;
  orders = last_is n text;
}
orders_spelled n room text steps (Ends {b = b} {rest = rest} {steps = s} e l i o) =
    let line = front_of Line text in
    let r = orders_spelled (suc n) (room - suc (length line)) rest s o in
    record {
      lines = line ∷ r.lines;
      last = r.last;
      meanings = meaning_of (without_return line) ∷ r.meanings;
      meaning = r.meaning;
      is = split_text text b rest e ∙ (ap (λ x. line ++ 10 ∷ x) r.is ∙ joined line (ended r.lines) r.last);
      all = (front_whole text, means_before line i, r.all);
      whole = r.whole;
      means = r.means;
      small = (let q = r.small in let t = split_length text b rest e in omega (arith, q, t, l));
      orders = ap (λ z. steps_of n (without_return line) (order_in (without_return line)) ++ z) r.orders ∙ step_is n (without_return line) (r.meanings ++ r.meaning ∷ []);
    }

-- a text whose first line is `l`
ends_with : (n room : ℕ) (text l rest : List ℕ) (steps : List Step) → front_of Line text ≡ l → behind Line text ≡ 10 ∷ rest → length l < room → IsLine (without_return l) → Orders (suc n) (room - suc (length l)) rest steps
    → Orders n room text (steps_of n (without_return l) (order_in (without_return l)) ++ steps)
ends_with n room text l rest steps f e =
    subst (λ x. length x < room → IsLine (without_return x) → Orders (suc n) (room - suc (length x)) rest steps → Orders n room text (steps_of n (without_return x) (order_in (without_return x)) ++ steps)) f (λ a i o. Ends e a i o)

later_with : (n room : ℕ) (text l rest : List ℕ) (at : ℕ) → front_of Line text ≡ l → behind Line text ≡ 10 ∷ rest → length l < room → IsLine (without_return l) → FailsAtLine (suc n) (room - suc (length l)) rest at → FailsAtLine n room text at
later_with n room text l rest at f e =
    subst (λ x. length x < room → IsLine (without_return x) → FailsAtLine (suc n) (room - suc (length x)) rest at → FailsAtLine n room text at) f (λ a i o. Later e a i o)

spelled_orders : (lines : List (List ℕ)) (meanings : List (Option LineOrder)) (n room : ℕ) (text last : List ℕ) (meaning : Option LineOrder) → text ≡ ended lines ++ last → AllMean lines meanings → HasNoLf last → Means last meaning → length text ≤ room
    → Orders n room text (numbered n (meanings ++ meaning ∷ []))
spelled_orders [] [] n room text last meaning is all whole means small =
    let p = means_is last meaning means in
    let good : IsLine text = subst IsLine (sym is) p.0 in
    let same : steps_of n text (order_in text) ≡ numbered n (meaning ∷ []) = last_is n text ∙ ap (λ m. numbered n (m ∷ [])) (ap meaning_of is ∙ sym p.1) in
    subst (λ s. Orders n room text s) same (Last (ap (behind Line) is ∙ last_behind last whole) small good)
spelled_orders [] (m ∷ meanings) n room text last meaning is all whole means small = absurd all
spelled_orders (l ∷ lines) [] n room text last meaning is all whole means small = absurd all
spelled_orders (l ∷ lines) (m ∷ meanings) n room text last meaning is all whole means small =
    let rest = ended lines ++ last in
    let t : text ≡ l ++ 10 ∷ rest = is ∙ sym (joined l (ended lines) last) in
    let size : length text ≡ length l + suc (length rest) = ap length t ∙ length-append l (10 ∷ rest) in
    let p = before_is l m all.1 in
    let o = spelled_orders lines meanings (suc n) (room - suc (length l)) rest last meaning refl all.2 whole means (omega (arith, size, small)) in
    let same : steps_of n (without_return l) (order_in (without_return l)) ++ numbered (suc n) (meanings ++ meaning ∷ []) ≡ numbered n (m ∷ (meanings ++ meaning ∷ [])) =
    step_is n (without_return l) (meanings ++ meaning ∷ []) ∙ ap (λ x. numbered n (x ∷ (meanings ++ meaning ∷ []))) (sym p.1) in
    subst (λ s. Orders n room text s) same
    (ends_with n room text l rest (numbered (suc n) (meanings ++ meaning ∷ [])) (ap (front_of Line) t ∙ line_front l rest all.0) (ap (behind Line) t ∙ line_behind l rest all.0) (omega (arith, size, small)) p.0 o)

-- ---- first bad lines

later_last : (room : ℕ) (text line rest more l : List ℕ) → text ≡ line ++ 10 ∷ rest → length line < room → IsBadLast (room - suc (length line)) rest more l → IsBadLast room text (line ++ 10 ∷ more) l
later_last room text line rest more l e few h =
    let size : length ((line ++ 10 ∷ more) ++ l) ≡ length line + suc (length (more ++ l)) = ap length (sym (joined line more l)) ∙ length-append line (10 ∷ (more ++ l)) in
    (e ∙ (ap (λ x. line ++ 10 ∷ x) h.0 ∙ joined line more l), ⊎_elim (λ never. inl never) (λ long. inr (omega (arith, size, long))) h.1)

later_ended : (room : ℕ) (text line rest more l : List ℕ) → text ≡ line ++ 10 ∷ rest → length line < room → IsBadEnded (room - suc (length line)) rest more l → IsBadEnded room text (line ++ 10 ∷ more) l
later_ended room text line rest more l e few h =
    let size : length ((line ++ 10 ∷ more) ++ (l ++ 10 ∷ [])) ≡ length line + suc (length (more ++ (l ++ 10 ∷ []))) = ap length (sym (joined line more (l ++ 10 ∷ []))) ∙ length-append line (10 ∷ (more ++ (l ++ 10 ∷ []))) in
    (h.0, e ∙ (ap (λ x. line ++ 10 ∷ x) h.1 ∙ joined line more (l ++ 10 ∷ h.0)), ⊎_elim (λ never. inl never) (λ long. inr (omega (arith, size, long))) h.2)

fails_first : (n room : ℕ) (text : List ℕ) (at : ℕ) → FailsAtLine n room text at → IsFirstBad n room text at
fails_first n room text at (Long e l) = record {
  lines = [];
  meanings = [];
  line = text;
  all = tt;
  small = omega arith;
  whole = all_whole text e;
  bad = inl (refl, inr l);
  place = omega arith;
}
fails_first n room text at (LongLine {b = b} {rest = rest} e l) = record {
  lines = [];
  meanings = [];
  line = front_of Line text;
  all = tt;
  small = omega arith;
  whole = front_whole text;
  bad = inr (rest, split_text text b rest e, inr (omega (arith, l, length-append (front_of Line text) (10 ∷ []))));
  place = omega arith;
}
fails_first n room text at (Bad e l k) = record {
  lines = [];
  meanings = [];
  line = text;
  all = tt;
  small = omega arith;
  whole = all_whole text e;
  bad = inl (refl, inl (λ m h. not_both text (means_is text m h).0 k));
  place = omega arith;
}
fails_first n room text at (BadLine {b = b} {rest = rest} e l k) = record {
  lines = [];
  meanings = [];
  line = front_of Line text;
  all = tt;
  small = omega arith;
  whole = front_whole text;
  bad = inr (rest, split_text text b rest e, inl (λ m h. not_both (without_return (front_of Line text)) (before_is (front_of Line text) m h).0 k));
  place = omega arith;
}
fails_first n room text at (Later {b = b} {rest = rest} e l i f) =
    let line = front_of Line text in
    let r = fails_first (suc n) (room - suc (length line)) rest at f in
    let t = split_text text b rest e in
    record {
      lines = line ∷ r.lines;
      meanings = meaning_of (without_return line) ∷ r.meanings;
      line = r.line;
      all = (front_whole text, means_before line i, r.all);
      small = (let q = r.small in omega (arith, q, l, length-append line (10 ∷ ended r.lines)));
      whole = r.whole;
      bad = ⊎_elim (λ h. inl (later_last room text line rest (ended r.lines) r.line t l h)) (λ h. inr (later_ended room text line rest (ended r.lines) r.line t l h)) r.bad;
      place = (let q = r.place in omega (arith, q));
    }

bad_line : (line : List ℕ) → (IsLine line → ⊥) → IsBadLine line
bad_line line never = by (is_silent line) (order_in line) refl refl where
  by : (s : Bool) (order : Option LineOrder) → is_silent line ≡ s → order_in line ≡ order → IsBadLine line
  by true order p q = absurd (never (inl p))
  by false None p q = (p, q)
  by false (Some order) p q = absurd (never (inr (order, q)))

bad_last : (n room : ℕ) (text line : List ℕ) → HasNoLf line → IsBadLast room text [] line → FailsAtLine n room text n
bad_last n room text line whole h =
    let e : behind Line text ≡ [] = ap (behind Line) h.0 ∙ last_behind line whole in
    ⊎_elim
    (λ never. ⊎_elim (λ long. Long e long) (λ few. Bad e few (bad_line text (λ i. never (meaning_of text) (subst (λ x. Means x (meaning_of text)) h.0 (line_means text i))))) (cases_lt room (length text)))
    (λ long. Long e (subst (λ x. room < length x) (sym h.0) long)) h.1

bad_ended : (n room : ℕ) (text line : List ℕ) → HasNoLf line → IsBadEnded room text [] line → FailsAtLine n room text n
bad_ended n room text line whole h =
    let e : behind Line text ≡ 10 ∷ h.0 = ap (behind Line) h.1 ∙ line_behind line h.0 whole in
    let f : front_of Line text ≡ line = ap (front_of Line) h.1 ∙ line_front line h.0 whole in
    let same : length (front_of Line text) ≡ length line = ap length f in
    ⊎_elim
    (λ never. ⊎_elim (λ few. BadLine e few (subst (λ x. IsBadLine (without_return x)) (sym f) (bad_line (without_return line) (λ i. never (meaning_of (without_return line)) (means_before line i))))) (λ long. LongLine e long) (cases_lt (length (front_of Line text)) room))
    (λ long. LongLine e (omega (arith, same, long, length-append line (10 ∷ [])))) h.2

first_fails : (lines : List (List ℕ)) (meanings : List (Option LineOrder)) (n room : ℕ) (text line : List ℕ) → AllMean lines meanings → length (ended lines) ≤ room → HasNoLf line
    → IsBadLast room text (ended lines) line ⊎ IsBadEnded room text (ended lines) line → FailsAtLine n room text (n + length lines)
first_fails [] [] n room text line all small whole bad =
    let here : n ≡ n + 0 = omega arith in
    subst (λ k. FailsAtLine n room text k) here (⊎_elim (bad_last n room text line whole) (bad_ended n room text line whole) bad)
first_fails [] (m ∷ meanings) n room text line all small whole bad = absurd all
first_fails (l ∷ lines) [] n room text line all small whole bad = absurd all
first_fails (l ∷ lines) (m ∷ meanings) n room text line all small whole bad =
    let size : length (l ++ 10 ∷ ended lines) ≡ length l + suc (length (ended lines)) = length-append l (10 ∷ ended lines) in
    let few : length l < room = omega (arith, size, small) in
    let left : length (ended lines) ≤ room - suc (length l) = omega (arith, size, small) in
    let place : suc n + length lines ≡ n + length (l ∷ lines) = omega arith in
    let good = (before_is l m all.1).0 in
    subst (λ k. FailsAtLine n room text k) place (⊎_elim
    (λ h.
    let rest = ended lines ++ line in
    let t : text ≡ l ++ 10 ∷ rest = h.0 ∙ sym (joined l (ended lines) line) in
    let more : length ((l ++ 10 ∷ ended lines) ++ line) ≡ length l + suc (length rest) = ap length (sym (joined l (ended lines) line)) ∙ length-append l (10 ∷ rest) in
    later_with n room text l rest (suc n + length lines) (ap (front_of Line) t ∙ line_front l rest all.0) (ap (behind Line) t ∙ line_behind l rest all.0) few good
    (first_fails lines meanings (suc n) (room - suc (length l)) rest line all.2 left whole (inl (refl, ⊎_elim (λ never. inl never) (λ long. inr (omega (arith, more, long, few))) h.1))))
    (λ h.
    let rest = ended lines ++ (line ++ 10 ∷ h.0) in
    let t : text ≡ l ++ 10 ∷ rest = h.1 ∙ sym (joined l (ended lines) (line ++ 10 ∷ h.0)) in
    let more : length ((l ++ 10 ∷ ended lines) ++ (line ++ 10 ∷ [])) ≡ length l + suc (length (ended lines ++ (line ++ 10 ∷ []))) = ap length (sym (joined l (ended lines) (line ++ 10 ∷ []))) ∙ length-append l (10 ∷ (ended lines ++ (line ++ 10 ∷ []))) in
    later_with n room text l rest (suc n + length lines) (ap (front_of Line) t ∙ line_front l rest all.0) (ap (behind Line) t ∙ line_behind l rest all.0) few good
    (first_fails lines meanings (suc n) (room - suc (length l)) rest line all.2 left whole (inr (h.0, refl, ⊎_elim (λ never. inl never) (λ long. inr (omega (arith, more, long, few))) h.2))))
    bad)

spelled_back : (n room : ℕ) (text : List ℕ) (steps : List Step) → IsSpelled n room text steps → Orders n room text steps
spelled_back n room text steps h = subst (λ s. Orders n room text s) (sym h.orders) (spelled_orders h.lines h.meanings n room text h.last h.meaning h.is h.all h.whole h.means h.small)

first_back : (n room : ℕ) (text : List ℕ) (at : ℕ) → IsFirstBad n room text at → FailsAtLine n room text at
first_back n room text at h = subst (λ k. FailsAtLine n room text k) (sym h.place) (first_fails h.lines h.meanings n room text h.line h.all h.small h.whole h.bad)

pub grammars_agree : GrammarsAgree
grammars_agree = record {
  scripts = λ text steps. (λ h. orders_spelled _ _ text steps h, λ h. spelled_back _ _ text steps h);
  faults = λ text at. (λ h. fails_first _ _ text at h, λ h. first_back _ _ text at h);
}
