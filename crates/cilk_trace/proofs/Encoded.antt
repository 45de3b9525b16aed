-- Lines are read from their binary form: `has_binary_forms`. `listed_numbers` reads the numbers, `uses_kind` the ones of a line with cells, and `reads_lines` all.
use Rattle.std.proofs.Common.{◌≡◌, ℕ, ◌+◌, ◌-◌, ◌*◌, ◌/◌, ◌%◌, ◌^◌, ◌<◌, ◌≤◌, inl, inr, Bool, true, cond, List, [], ◌∷◌, ◌++◌, length, Option, Some, None, slice_get, refl, sym, ap, ◌∙◌, subst, eqb, arith}
use Rattle.std.specs.Prelude.{⊤, set, nat_lt, option_map}
use Rattle.std.proofs.lemmas.Bool.{cases_lt, lt-ltb, le-ltb, eq-eqb, ne_eqb}
use Rattle.std.proofs.lemmas.List.{length-append, length-set}
use Rattle.cilk_trace.specs.declared.line.Cells.{Cells}
use Rattle.cilk_trace.specs.declared.line.Line.{Line}
use Rattle.cilk_trace.specs.declared.line.Line.TheVariants as lines
use Rattle.cilk_trace.specs.declared.event.Deed.{Deed}
use Rattle.cilk_trace.specs.declared.event.Deed.TheVariants as deeds
use Rattle.cilk_trace.specs.declared.event.Due.{Due}
use Rattle.cilk_trace.specs.declared.event.Due.TheVariants as due
use Rattle.cilk_trace.specs.declared.event.Kind.{Kind}
use Rattle.cilk_trace.specs.declared.event.Step.{Step}
use Rattle.cilk_trace.specs.declared.event.Step.TheVariants.{More, Declares, Says, Uses}
use Rattle.cilk_trace.specs.declared.event.Touch.{Touch}
use Rattle.cilk_trace.specs.declared.event.Touch.TheVariants as touches
use Rattle.cilk_trace.specs.declared.place.Place.TheVariants.{Lines, Over}
use Rattle.cilk_trace.specs.Binary.{Events, after_number, after_step, events_reading, used}
use Rattle.cilk_trace.specs.Encoding.{HasBinaryForms, all_numbers, bytes_of, cell_after, declared_by, moved_by, numbers_of, use_of}
use Rattle.cilk_trace.specs.Events.{access_line, deed_of, moved, moved_step, reducer_line, small, step_of, tag_step, touch_of, uses}
use Rattle.cilk_trace.specs.Lines.{AreCells, IsWithin, are_cells}
use Rattle.cilk_trace.specs.Numbers.{Next, NoMore, Numbers, numbers}
use Rattle.cilk_trace.specs.Reading.{after_line, with_lines}
use Rattle.cilk_trace.specs.Texts.{AreWithin, EndsOnce}
use Rattle.cilk_cert_text.specs.Words.{◌>>=◌}
use Rattle.cilk_trace.proofs.EventReadings.{taken_law}
use Rattle.cilk_trace.proofs.Leb128.{reads_numbers}

-- ---- the numbers

abbrev listed : List ℕ → Numbers
listed [] = NoMore
listed (n ∷ ns) = Next n (listed ns)

abbrev AreSmall : List ℕ → Type 0
AreSmall [] = ⊤
AreSmall (n ∷ ns) = (n < 2 ^ 35) × AreSmall ns

small_append : (ns ms : List ℕ) → AreSmall ns → AreSmall ms → AreSmall (ns ++ ms)
small_append [] ms h k = k
small_append (n ∷ ns) ms h k = (h.0, small_append ns ms h.1 k)

listed_numbers : (ns : List ℕ) → AreSmall ns → numbers (bytes_of ns) ≡ listed ns
listed_numbers [] h = refl
listed_numbers (n ∷ ns) h = reads_numbers n (bytes_of ns) h.0 ∙ ap (Next n) (listed_numbers ns h.1)

moved_small : (from to : ℕ) → from < 2 ^ 32 → to < 2 ^ 32 → moved_by from to < 2 ^ 35
moved_small from to h k = elim (cases_lt to from) [
  | inl m ↦ (let t = lt-ltb to from m in subst (λ (b : Bool). cond b (2 * (from - to) - 1) (2 * (to - from)) < 2 ^ 35) (sym t) (omega (arith, h)))
  | inr m ↦ (let t = le-ltb to from m in subst (λ (b : Bool). cond b (2 * (from - to) - 1) (2 * (to - from)) < 2 ^ 35) (sym t) (omega (arith, k)))
]

use_small : (kinds last kind : ℕ) (k : Cells) (site : ℕ) → kinds < 2 ^ 24 → last < 2 ^ 32 → kind ≤ 2 → AreCells k → site < 2 ^ 32 → AreSmall (use_of kinds last kind k site)
use_small kinds last kind k site few cell low cells within =
    let c = cells.few in
    (omega arith, (omega (arith, low), (omega (arith, c), (omega (arith, within), (omega (arith, few), (moved_small last k.first cell cells.first, tt))))))

reducer_small : (kind r site : ℕ) → kind ≤ 3 → r < 2 ^ 32 → site < 2 ^ 32 → AreSmall (6 ∷ kind ∷ r ∷ site ∷ [])
reducer_small kind r site low a b = (omega arith, (omega (arith, low), (omega (arith, a), (omega (arith, b), tt))))

line_small : (kinds last : ℕ) (l : Line) → kinds < 2 ^ 24 → last < 2 ^ 32 → IsWithin l → AreSmall (numbers_of kinds last l) × (cell_after last l < 2 ^ 32)
line_small kinds last (lines.Enter site) few cell w = ((omega arith, (omega (arith, w), tt)), cell)
line_small kinds last (lines.Unseen site) few cell w = ((omega arith, (omega (arith, w), tt)), cell)
line_small kinds last lines.Spawned few cell w = ((omega arith, tt), cell)
line_small kinds last lines.Called few cell w = ((omega arith, tt), cell)
line_small kinds last lines.Sync few cell w = ((omega arith, tt), cell)
line_small kinds last lines.End few cell w = ((omega arith, tt), cell)
line_small kinds last (lines.Read k site) few cell w = (use_small kinds last 0 k site few cell (omega arith) w.0 w.1, w.0.first)
line_small kinds last (lines.Write k site) few cell w = (use_small kinds last 1 k site few cell (omega arith) w.0 w.1, w.0.first)
line_small kinds last (lines.Clear k) few cell w = (use_small kinds last 2 k 0 few cell (omega arith) w (omega arith), w.first)
line_small kinds last (lines.Create r site) few cell w = (reducer_small 0 r site (omega arith) w.0 w.1, cell)
line_small kinds last (lines.Update r site) few cell w = (reducer_small 1 r site (omega arith) w.0 w.1, cell)
line_small kinds last (lines.Value r site) few cell w = (reducer_small 2 r site (omega arith) w.0 w.1, cell)
line_small kinds last (lines.Retire r site) few cell w = (reducer_small 3 r site (omega arith) w.0 w.1, cell)

declared_one : (l : Line) → declared_by l ≤ 1
declared_one (lines.Read k site) = omega arith
declared_one (lines.Write k site) = omega arith
declared_one (lines.Clear k) = omega arith
declared_one _ = omega arith

all_small : (kinds last : ℕ) (ls : List Line) → AreWithin ls → kinds + length ls ≤ 2 ^ 24 → last < 2 ^ 32 → AreSmall (all_numbers kinds last ls)
all_small kinds last [] w few cell = tt
all_small kinds last (l ∷ ls) w few cell =
    let h = line_small kinds last l (omega (arith, few)) cell w.0 in
    let d = declared_one l in
    small_append (numbers_of kinds last l) (all_numbers (kinds + declared_by l) (cell_after last l) ls) h.0
    (all_small (kinds + declared_by l) (cell_after last l) ls w.1 (omega (arith, few, d)) h.1)

-- ---- the lines

abbrev ready : List Kind → ℕ → Due → Events
ready kinds last d = record { kinds = kinds; last = last; place = Lines; due = d }

-- what follows a line
abbrev behind : List Kind → ℕ → Line → Events
behind kinds last l = record { kinds = kinds; last = last; place = after_line l; due = due.Tag }

abbrev out : Option Line → Events → Option (Option Line × Events)
out o s = Some (o, s)

-- these lines, and no fault
abbrev Gives : Events → ℕ → Numbers → List Line → Type 0
Gives s number ns ls = events_reading s number ns ≡ record { lines = ls; fault = None }

-- a number that completes no line, and one that does
quiet : (s s' : Events) (number n : ℕ) (ns : Numbers) (ls : List Line) → after_number s number n ≡ Some (None, s') → Gives s' number ns ls → Gives s number (Next n ns) ls
quiet s s' number n ns ls e h = taken_law s number number n ns None s' e (omega arith) ∙ h

says : (s s' : Events) (number n : ℕ) (ns : Numbers) (l : Line) (ls : List Line) → after_number s number n ≡ Some (Some l, s') → Gives s' (number + 1) ns ls
    → Gives s number (Next n ns) (l ∷ ls)
says s s' number n ns l ls e h = taken_law s number (number + 1) n ns (Some l) s' e (omega arith) ∙ ap (with_lines (Some l)) h

small_is : (n : ℕ) → n < 2 ^ 32 → small n ≡ Some n
small_is n h = ap (λ (b : Bool). cond b (Some n) None) (lt-ltb n (2 ^ 32) h)

-- a step that says a line
said : (kinds : List Kind) (last number : ℕ) (d : Due) (l : Line) → number < 2 ^ 32 - 1 → after_step (ready kinds last d) number (Says l) ≡ Some (Some l, behind kinds last l)
said kinds last number d l h = ap (λ (b : Bool). cond b (out (Some l) (behind kinds last l)) None) (lt-ltb number (2 ^ 32 - 1) h)

tag_says : (kinds : List Kind) (last number n : ℕ) (l : Line) → number < 2 ^ 32 - 1 → tag_step (length kinds) n ≡ Some (Says l)
    → after_number (ready kinds last due.Tag) number n ≡ Some (Some l, behind kinds last l)
unfolding step_of
tag_says kinds last number n l h e = ap (λ (o : Option Step). o >>= after_step (ready kinds last due.Tag) number) e ∙ said kinds last number due.Tag l h

enter_says : (kinds : List Kind) (last number site : ℕ) → number < 2 ^ 32 - 1 → site < 2 ^ 32
    → after_number (ready kinds last due.Site) number site ≡ Some (Some (lines.Enter site), ready kinds last due.Tag)
unfolding step_of
enter_says kinds last number site h w =
    ap (λ (o : Option ℕ). (o >>= λ (x : ℕ). Some (Says (lines.Enter x))) >>= after_step (ready kinds last due.Site) number) (small_is site w)
    ∙ said kinds last number due.Site (lines.Enter site) h

unseen_says : (kinds : List Kind) (last number site : ℕ) → number < 2 ^ 32 - 1 → site < 2 ^ 32
    → after_number (ready kinds last due.Unseen) number site ≡ Some (Some (lines.Unseen site), ready kinds last due.Tag)
unfolding step_of
unseen_says kinds last number site h w =
    ap (λ (o : Option ℕ). (o >>= λ (x : ℕ). Some (Says (lines.Unseen x))) >>= after_step (ready kinds last due.Unseen) number) (small_is site w)
    ∙ said kinds last number due.Unseen (lines.Unseen site) h

-- the numbers of a line of a reducer
reducer_read : (kinds : List Kind) (last number n : ℕ) (d : Deed) (r site : ℕ) (ns : Numbers) (ls : List Line) → number < 2 ^ 32 - 1 → r < 2 ^ 32 → site < 2 ^ 32
    → deed_of n ≡ Some d → Gives (behind kinds last (reducer_line d r site)) (number + 1) ns ls
    → Gives (ready kinds last due.Tag) number (Next 6 (Next n (Next r (Next site ns)))) (reducer_line d r site ∷ ls)
unfolding step_of
reducer_read kinds last number n d r site ns ls h w v deed rest =
    let line = reducer_line d r site in
    quiet (ready kinds last due.Tag) (ready kinds last due.Deed) number 6 (Next n (Next r (Next site ns))) (line ∷ ls) refl
    (quiet (ready kinds last due.Deed) (ready kinds last (due.Reducer d)) number n (Next r (Next site ns)) (line ∷ ls)
    (ap (λ (o : Option Deed). (o >>= λ (x : Deed). Some (More (due.Reducer x))) >>= after_step (ready kinds last due.Deed) number) deed)
    (quiet (ready kinds last (due.Reducer d)) (ready kinds last (due.ReducerSite d r)) number r (Next site ns) (line ∷ ls)
    (ap (λ (o : Option ℕ). (o >>= λ (x : ℕ). Some (More (due.ReducerSite d x))) >>= after_step (ready kinds last (due.Reducer d)) number) (small_is r w))
    (says (ready kinds last (due.ReducerSite d r)) (behind kinds last line) number site ns line ls
    (ap (λ (o : Option ℕ). (o >>= λ (x : ℕ). Some (Says (reducer_line d r x))) >>= after_step (ready kinds last (due.ReducerSite d r)) number) (small_is site v)
    ∙ said kinds last number (due.ReducerSite d r) line h) rest)))

-- ---- lines with cells

moved_back : (from to : ℕ) → to < 2 ^ 32 → moved from (moved_by from to) ≡ Some to
moved_back from to h = elim (cases_lt to from) [
  | inl m ↦ (let t = lt-ltb to from m in
      let n = 2 * (from - to) - 1 in
      let odd = ne_eqb (n % 2) 0 (λ e. absurd (omega (arith, e, m))) in
      let low = lt-ltb (n / 2) from (omega (arith, m)) in
      let is : from - n / 2 - 1 ≡ to = omega (arith, m) in
      ap (λ (b : Bool). moved from (cond b (2 * (from - to) - 1) (2 * (to - from)))) t
      ∙ (ap (λ (b : Bool). cond b (small (from + n / 2)) (cond (nat_lt (n / 2) from) (small (from - n / 2 - 1)) None)) odd
      ∙ (ap (λ (b : Bool). cond b (small (from - n / 2 - 1)) None) low ∙ (ap small is ∙ small_is to h))))
  | inr m ↦ (let t = le-ltb to from m in
      let n = 2 * (to - from) in
      let even = eq-eqb (n % 2) 0 (omega (arith, m)) in
      let is : from + n / 2 ≡ to = omega (arith, m) in
      ap (λ (b : Bool). moved from (cond b (2 * (from - to) - 1) (2 * (to - from)))) t
      ∙ (ap (λ (b : Bool). cond b (small (from + n / 2)) (cond (nat_lt (n / 2) from) (small (from - n / 2 - 1)) None)) even
      ∙ (ap small is ∙ small_is to h)))
]

are_within : (k : Cells) → AreCells k → are_cells k.first k.count ≡ true
are_within k c =
    let a = lt-ltb 0 k.count (let x = c.some in omega (arith, x)) in
    let b = lt-ltb k.count 4097 (let x = c.few in omega (arith, x)) in
    let d = lt-ltb (k.first + k.count) (2 ^ 32 + 1) (let x = c.within in omega (arith, x)) in
    rw (a, b, d) refl

uses_is : (i : ℕ) (k : Cells) → AreCells k → uses i k.first k.count ≡ Some (Uses i k)
uses_is i k c = ap (λ (b : Bool). cond b (Some (Uses i (record { first = k.first; count = k.count }))) None) (are_within k c)

-- the last kind
got_last : (kinds : List Kind) (k : Kind) → slice_get (kinds ++ k ∷ []) (length kinds) ≡ Some k
got_last [] k = refl
got_last (x ∷ xs) k = got_last xs k

-- a kind with these cells in its last use
abbrev kind_of : Touch → ℕ → ℕ → Cells → Kind
kind_of touch count site last = record { touch = touch; count = count; site = site; last = last }

-- no cells, at this one
abbrev none_at : ℕ → Cells
none_at cell = record { first = cell; count = 0 }

counts : (kinds : List Kind) (last number : ℕ) (touch : Touch) (count : ℕ) → count < 2 ^ 32
    → after_number (ready kinds last (due.KindCount touch)) number count ≡ Some (None, ready kinds last (due.KindSite touch count))
unfolding step_of
counts kinds last number touch count w =
    ap (λ (o : Option ℕ). (o >>= λ (x : ℕ). Some (More (due.KindSite touch x))) >>= after_step (ready kinds last (due.KindCount touch)) number) (small_is count w)

declares : (kinds : List Kind) (last number : ℕ) (touch : Touch) (count site : ℕ) → site < 2 ^ 32 → length kinds < 2 ^ 24
    → after_number (ready kinds last (due.KindSite touch count)) number site ≡ Some (None, ready (kinds ++ kind_of touch count site (none_at last) ∷ []) last due.Tag)
unfolding step_of
declares kinds last number touch count site w few =
    ap (λ (o : Option ℕ). (o >>= λ (x : ℕ). Some (Declares (kind_of touch count x (none_at last)))) >>= after_step (ready kinds last (due.KindSite touch count)) number) (small_is site w)
    ∙ ap (λ (b : Bool). cond b (out None (ready (kinds ++ kind_of touch count site (none_at last) ∷ []) last due.Tag)) None) (lt-ltb (length kinds) 16777216 (omega (arith, few)))

tag_moved : (kinds : List Kind) (last number i n : ℕ) → i < length kinds → n ≡ 8 + i → after_number (ready kinds last due.Tag) number n ≡ Some (None, ready kinds last (due.Moved i))
unfolding step_of
tag_moved kinds last number i n h e =
    let a0 = ne_eqb n 0 (λ z. absurd (omega (arith, z, e))) in
    let a1 = ne_eqb n 1 (λ z. absurd (omega (arith, z, e))) in
    let a2 = ne_eqb n 2 (λ z. absurd (omega (arith, z, e))) in
    let a3 = ne_eqb n 3 (λ z. absurd (omega (arith, z, e))) in
    let a4 = ne_eqb n 4 (λ z. absurd (omega (arith, z, e))) in
    let a5 = ne_eqb n 5 (λ z. absurd (omega (arith, z, e))) in
    let a6 = ne_eqb n 6 (λ z. absurd (omega (arith, z, e))) in
    let a7 = ne_eqb n 7 (λ z. absurd (omega (arith, z, e))) in
    let is : n - 8 ≡ i = omega (arith, e) in
    let low = lt-ltb i (length kinds) h in
    rw (a0, a1, a2, a3, a4, a5, a6, a7, is, low) refl

moves_step : (kinds : List Kind) (last n : ℕ) (touch : Touch) (k : Cells) (site i : ℕ) → AreCells k → slice_get kinds i ≡ Some (kind_of touch k.count site (none_at last))
    → n ≡ moved_by last k.first → step_of kinds last (due.Moved i) n ≡ Some (Uses i k)
unfolding step_of
moves_step kinds last n touch k site i c at e =
    let same : last + 0 ≡ last = omega arith in
    let m : moved (last + 0) n ≡ Some k.first = ap (λ (x : ℕ). moved x n) same ∙ (ap (moved last) e ∙ moved_back last k.first c.first) in
    let some = ne_eqb k.count 0 (λ z. (let x = c.some in absurd (omega (arith, z, x)))) in
    ap (λ (o : Option Kind). o >>= moved_step i n) at
    ∙ (ap (λ (o : Option ℕ). o >>= λ (x : ℕ). cond (eqb k.count 0) (Some (More (due.UsedCount i x))) (uses i x k.count)) m
    ∙ (ap (λ (b : Bool). cond b (Some (More (due.UsedCount i k.first))) (uses i k.first k.count)) some ∙ uses_is i k c))

moves : (kinds : List Kind) (last number n : ℕ) (touch : Touch) (k : Cells) (site i : ℕ) → number < 2 ^ 32 - 1 → AreCells k
    → slice_get kinds i ≡ Some (kind_of touch k.count site (none_at last)) → n ≡ moved_by last k.first
    → after_number (ready kinds last (due.Moved i)) number n ≡ Some (Some (access_line touch k site), ready (set kinds i (kind_of touch k.count site k)) k.first due.Tag)
moves kinds last number n touch k site i h c at e =
    let s = ready kinds last (due.Moved i) in
    ap (λ (o : Option Step). o >>= after_step s number) (moves_step kinds last n touch k site i c at e)
    ∙ (ap (λ (b : Bool). cond b (option_map (used s i k) (slice_get kinds i)) None) (lt-ltb number (2 ^ 32 - 1) h) ∙ ap (option_map (used s i k)) at)

-- the numbers of a line with cells
cells_read : (kinds : List Kind) (last number kind : ℕ) (touch : Touch) (k : Cells) (site : ℕ) (ns : Numbers) (ls : List Line) → number < 2 ^ 32 - 1 → length kinds < 2 ^ 24 → AreCells k
    → site < 2 ^ 32 → touch_of kind ≡ Some touch
    → ((kinds' : List Kind) → length kinds' ≡ length kinds + 1 → Gives (ready kinds' k.first due.Tag) (number + 1) ns ls)
    → Gives (ready kinds last due.Tag) number (Next 0 (Next kind (Next k.count (Next site (Next (8 + length kinds) (Next (moved_by last k.first) ns)))))) (access_line touch k site ∷ ls)
unfolding step_of
cells_read kinds last number kind touch k site ns ls h few c w t rest =
    let new = kind_of touch k.count site (none_at last) in
    let all = kinds ++ new ∷ [] in
    let long = length-append kinds (new ∷ []) in
    let all_lines = access_line touch k site ∷ ls in
    let kept = set all (length kinds) (kind_of touch k.count site k) in
    let held = length-set all (length kinds) (kind_of touch k.count site k) in
    let x = c.few in
    quiet (ready kinds last due.Tag) (ready kinds last due.Kind) number 0 (Next kind (Next k.count (Next site (Next (8 + length kinds) (Next (moved_by last k.first) ns))))) all_lines refl
    (quiet (ready kinds last due.Kind) (ready kinds last (due.KindCount touch)) number kind (Next k.count (Next site (Next (8 + length kinds) (Next (moved_by last k.first) ns)))) all_lines
    (ap (λ (o : Option Touch). (o >>= λ (x : Touch). Some (More (due.KindCount x))) >>= after_step (ready kinds last due.Kind) number) t)
    (quiet (ready kinds last (due.KindCount touch)) (ready kinds last (due.KindSite touch k.count)) number k.count (Next site (Next (8 + length kinds) (Next (moved_by last k.first) ns))) all_lines (counts kinds last number touch k.count (omega (arith, x)))
    (quiet (ready kinds last (due.KindSite touch k.count)) (ready all last due.Tag) number site (Next (8 + length kinds) (Next (moved_by last k.first) ns)) all_lines (declares kinds last number touch k.count site w few)
    (quiet (ready all last due.Tag) (ready all last (due.Moved (length kinds))) number (8 + length kinds) (Next (moved_by last k.first) ns) all_lines
    (tag_moved all last number (length kinds) (8 + length kinds) (omega (arith, long)) refl)
    (says (ready all last (due.Moved (length kinds))) (ready kept k.first due.Tag) number (moved_by last k.first) ns (access_line touch k site) ls
    (moves all last number (moved_by last k.first) touch k site (length kinds) h c (got_last kinds new) refl) (rest kept (omega (arith, held, long))))))))

-- ---- all lines

reads_lines : (ls : List Line) (kinds : List Kind) (count last number : ℕ) → length kinds ≡ count → AreWithin ls → EndsOnce ls → number + length ls ≤ 2 ^ 32 - 1
    → count + length ls ≤ 2 ^ 24 → Gives (ready kinds last due.Tag) number (listed (all_numbers count last ls)) ls
unfolding step_of
reads_lines [] kinds count last number e w o f g = absurd o
reads_lines (lines.Enter site ∷ ls) kinds count last number e w o f g =
    quiet (ready kinds last due.Tag) (ready kinds last due.Site) number 1 (Next site (listed (all_numbers (count + 0) last ls))) (lines.Enter site ∷ ls) refl
    (says (ready kinds last due.Site) (ready kinds last due.Tag) number site (listed (all_numbers (count + 0) last ls)) (lines.Enter site) ls (enter_says kinds last number site (omega (arith, f)) w.0)
    (reads_lines ls kinds (count + 0) last (number + 1) (omega (arith, e)) w.1 o (omega (arith, f)) (omega (arith, g))))
reads_lines (lines.Unseen site ∷ ls) kinds count last number e w o f g =
    quiet (ready kinds last due.Tag) (ready kinds last due.Unseen) number 7 (Next site (listed (all_numbers (count + 0) last ls))) (lines.Unseen site ∷ ls) refl
    (says (ready kinds last due.Unseen) (ready kinds last due.Tag) number site (listed (all_numbers (count + 0) last ls)) (lines.Unseen site) ls (unseen_says kinds last number site (omega (arith, f)) w.0)
    (reads_lines ls kinds (count + 0) last (number + 1) (omega (arith, e)) w.1 o (omega (arith, f)) (omega (arith, g))))
reads_lines (lines.Spawned ∷ ls) kinds count last number e w o f g =
    says (ready kinds last due.Tag) (ready kinds last due.Tag) number 2 (listed (all_numbers (count + 0) last ls)) lines.Spawned ls (tag_says kinds last number 2 lines.Spawned (omega (arith, f)) refl)
    (reads_lines ls kinds (count + 0) last (number + 1) (omega (arith, e)) w.1 o (omega (arith, f)) (omega (arith, g)))
reads_lines (lines.Called ∷ ls) kinds count last number e w o f g =
    says (ready kinds last due.Tag) (ready kinds last due.Tag) number 3 (listed (all_numbers (count + 0) last ls)) lines.Called ls (tag_says kinds last number 3 lines.Called (omega (arith, f)) refl)
    (reads_lines ls kinds (count + 0) last (number + 1) (omega (arith, e)) w.1 o (omega (arith, f)) (omega (arith, g)))
reads_lines (lines.Sync ∷ ls) kinds count last number e w o f g =
    says (ready kinds last due.Tag) (ready kinds last due.Tag) number 4 (listed (all_numbers (count + 0) last ls)) lines.Sync ls (tag_says kinds last number 4 lines.Sync (omega (arith, f)) refl)
    (reads_lines ls kinds (count + 0) last (number + 1) (omega (arith, e)) w.1 o (omega (arith, f)) (omega (arith, g)))
reads_lines (lines.Read k site ∷ ls) kinds count last number e w o f g =
    subst (λ (n : ℕ). Gives (ready kinds last due.Tag) number (Next 0 (Next 0 (Next k.count (Next site (Next (8 + n) (Next (moved_by last k.first) (listed (all_numbers (count + 1) k.first ls)))))))) (lines.Read k site ∷ ls)) e
    (cells_read kinds last number 0 touches.Read k site (listed (all_numbers (count + 1) k.first ls)) ls (omega (arith, f)) (omega (arith, e, g)) w.0.0 w.0.1 refl
    (λ kinds' n. reads_lines ls kinds' (count + 1) k.first (number + 1) (omega (arith, n, e)) w.1 o (omega (arith, f)) (omega (arith, g))))
reads_lines (lines.Write k site ∷ ls) kinds count last number e w o f g =
    subst (λ (n : ℕ). Gives (ready kinds last due.Tag) number (Next 0 (Next 1 (Next k.count (Next site (Next (8 + n) (Next (moved_by last k.first) (listed (all_numbers (count + 1) k.first ls)))))))) (lines.Write k site ∷ ls)) e
    (cells_read kinds last number 1 touches.Write k site (listed (all_numbers (count + 1) k.first ls)) ls (omega (arith, f)) (omega (arith, e, g)) w.0.0 w.0.1 refl
    (λ kinds' n. reads_lines ls kinds' (count + 1) k.first (number + 1) (omega (arith, n, e)) w.1 o (omega (arith, f)) (omega (arith, g))))
reads_lines (lines.Clear k ∷ ls) kinds count last number e w o f g =
    subst (λ (n : ℕ). Gives (ready kinds last due.Tag) number (Next 0 (Next 2 (Next k.count (Next 0 (Next (8 + n) (Next (moved_by last k.first) (listed (all_numbers (count + 1) k.first ls)))))))) (lines.Clear k ∷ ls)) e
    (cells_read kinds last number 2 touches.Clear k 0 (listed (all_numbers (count + 1) k.first ls)) ls (omega (arith, f)) (omega (arith, e, g)) w.0 (omega arith) refl
    (λ kinds' n. reads_lines ls kinds' (count + 1) k.first (number + 1) (omega (arith, n, e)) w.1 o (omega (arith, f)) (omega (arith, g))))
reads_lines (lines.Create r site ∷ ls) kinds count last number e w o f g =
    reducer_read kinds last number 0 deeds.Create r site (listed (all_numbers (count + 0) last ls)) ls (omega (arith, f)) w.0.0 w.0.1 refl
    (reads_lines ls kinds (count + 0) last (number + 1) (omega (arith, e)) w.1 o (omega (arith, f)) (omega (arith, g)))
reads_lines (lines.Update r site ∷ ls) kinds count last number e w o f g =
    reducer_read kinds last number 1 deeds.Update r site (listed (all_numbers (count + 0) last ls)) ls (omega (arith, f)) w.0.0 w.0.1 refl
    (reads_lines ls kinds (count + 0) last (number + 1) (omega (arith, e)) w.1 o (omega (arith, f)) (omega (arith, g)))
reads_lines (lines.Value r site ∷ ls) kinds count last number e w o f g =
    reducer_read kinds last number 2 deeds.Value r site (listed (all_numbers (count + 0) last ls)) ls (omega (arith, f)) w.0.0 w.0.1 refl
    (reads_lines ls kinds (count + 0) last (number + 1) (omega (arith, e)) w.1 o (omega (arith, f)) (omega (arith, g)))
reads_lines (lines.Retire r site ∷ ls) kinds count last number e w o f g =
    reducer_read kinds last number 3 deeds.Retire r site (listed (all_numbers (count + 0) last ls)) ls (omega (arith, f)) w.0.0 w.0.1 refl
    (reads_lines ls kinds (count + 0) last (number + 1) (omega (arith, e)) w.1 o (omega (arith, f)) (omega (arith, g)))
reads_lines (lines.End ∷ []) kinds count last number e w o f g =
    says (ready kinds last due.Tag) (record { kinds = kinds; last = last; place = Over; due = due.Tag }) number 5 NoMore lines.End []
    (tag_says kinds last number 5 lines.End (omega (arith, f)) refl) refl
reads_lines (lines.End ∷ (l ∷ ls)) kinds count last number e w o f g = absurd o

pub has_binary_forms : HasBinaryForms
has_binary_forms ls w o few kinds = record {
  spells = inr (record {
    header = refl;
    reads = ap (events_reading (ready [] 0 due.Tag) 2) (listed_numbers (all_numbers 0 0 ls) (all_small 0 0 ls w (omega (arith, kinds)) (omega arith)))
        ∙ reads_lines ls [] 0 0 2 refl w o (omega (arith, few)) (omega (arith, kinds));
  });
  within = w;
  ends = o;
  few = few;
}
