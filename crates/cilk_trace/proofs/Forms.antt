-- A trace is read whole exactly where it is one, in either form: `reads_traces`. `binary_sound` says what lines a binary form has.
use Rattle.std.proofs.Common.{◌≡◌, ℕ, ◌+◌, ◌<◌, ◌≤◌, inl, inr, Bool, true, false, cond, List, [], ◌∷◌, length, take, drop, Option, Some, None, refl, sym, ap, subst, ◌∙◌, ltb, arith}
use Rattle.std.specs.Prelude.{option_map, slice_get}
use Rattle.std.specs.Str.{bytes_eq}
use Rattle.std.proofs.lemmas.Bool.{ltb-true}
use Rattle.std.proofs.lemmas.Slice.Eq.{bytes_eq-Decides}
use Rattle.cilk_trace.specs.declared.line.Cells.{Cells}
use Rattle.cilk_trace.specs.declared.line.Line.{Line}
use Rattle.cilk_trace.specs.declared.event.Step.{Step}
use Rattle.cilk_trace.specs.declared.event.Step.TheVariants.{More, Declares, Says, Uses}
use Rattle.cilk_trace.specs.declared.event.Touch.{Touch}
use Rattle.cilk_trace.specs.declared.event.Touch.TheVariants as touches
use Rattle.cilk_trace.specs.declared.fault.TraceFault.TheVariants.{Malformed, Truncated}
use Rattle.cilk_trace.specs.declared.place.Place.{Place}
use Rattle.cilk_trace.specs.declared.place.Place.TheVariants.{Lines, Over}
use Rattle.cilk_trace.specs.Binary.{Events, after_number, after_step, binary_reading, cut_off, ended, events_reading, no_events, unless_over, used}
use Rattle.cilk_trace.specs.Events.{access_line, step_of}
use Rattle.cilk_trace.specs.Forms.{binary_header, reading_of}
use Rattle.cilk_trace.specs.Numbers.{Numbers, NoMore, Cut, Wrong, Next, numbers}
use Rattle.cilk_trace.specs.Reading.{Reading, after_line, count_of, text_reading, with_lines}
use Rattle.cilk_trace.specs.Texts.{AreWithin, EndsOnce, IsText, IsTraceText, ReadsTraces}
use Rattle.cilk_cert_text.specs.Words.{◌>>=◌}
use Rattle.cilk_trace.proofs.EventReadings.{over_numbers}
use Rattle.cilk_trace.proofs.Limits.{AreRanged, IsRanged, number_within}
use Rattle.cilk_cert_text.proofs.Spellings.{bind_some, cond_none, map_some, some_is}
use Rattle.cilk_trace.proofs.Wholes.{after_end, ends_more, no_stop, read_as, taken_whole, text_again, text_sound, with_line_is}

-- ---- a binary form that is read whole

-- what follows an event's number
IsAfter : Events → ℕ → Option Line × Events → Type 0
IsAfter s n (None, t) = t.place ≡ s.place
IsAfter s n (Some l, t) = (n < 4294967295) × (t.place ≡ after_line l)

access_place : (t : Touch) (cells : Cells) (site : ℕ) → Lines ≡ after_line (access_line t cells site)
access_place touches.Read cells site = refl
access_place touches.Write cells site = refl
access_place touches.Clear cells site = refl

step_sound : (s : Events) (n : ℕ) (x : Step) (p : Option Line × Events) → s.place ≡ Lines → after_step s n x ≡ Some p → IsAfter s n p
unfolding IsAfter
step_sound s n (More d) p h e =
    let made : Option Line × Events = (None, record s { due = d }) in
    subst (IsAfter s n) (some_is made p e) refl
step_sound s n (Declares k) p h e =
    let t = cond_none (ltb (length s.kinds) 16777216) _ p e in
    subst (IsAfter s n) (some_is _ p t.1) refl
step_sound s n (Says l) p h e =
    let t = cond_none (ltb n 4294967295) _ p e in
    subst (IsAfter s n) (some_is _ p t.1) (ltb-true n 4294967295 t.0, refl)
step_sound s n (Uses i cells) p h e =
    let t = cond_none (ltb n 4294967295) (option_map (used s i cells) (slice_get s.kinds i)) p e in
    let k = map_some (used s i cells) (slice_get s.kinds i) p t.1 in
    subst (IsAfter s n) k.2 (ltb-true n 4294967295 t.0, h ∙ access_place k.0.touch cells k.0.site)

number_sound : (s : Events) (n m : ℕ) (p : Option Line × Events) → s.place ≡ Lines → after_number s n m ≡ Some p → IsAfter s n p
number_sound s n m p h e =
    let step = step_of s.kinds s.last s.due m >>= after_step s n in
    let there : step ≡ Some p = sym (ap (λ (q : Place). unless_over q step) h) ∙ e in
    let x = bind_some (step_of s.kinds s.last s.due m) (after_step s n) p there in
    step_sound s n x.0 p h x.2

over_sound : (s : Events) (n : ℕ) (ns : Numbers) (ls : List Line) → s.place ≡ Over → events_reading s n ns ≡ read_as ls → [] ≡ ls
over_sound s n NoMore ls h e = ap (λ (r : Reading). r.lines) (sym (ap (λ (p : Place). ended p n) h) ∙ e)
over_sound s n Cut ls h e = absurd (no_stop (Malformed n) ls (sym (over_numbers s n Cut h (λ z. absurd cc)) ∙ e))
over_sound s n Wrong ls h e = absurd (no_stop (Malformed n) ls e)
over_sound s n (Next m ns) ls h e = absurd (no_stop (Malformed n) ls (sym (over_numbers s n (Next m ns) h (λ z. absurd cc)) ∙ e))

-- lines to the end of a trace, from the one with this number on
record IsTail (n : ℕ) (ls : List Line) : Type 0 where
  within : AreWithin ls
  ends : EndsOnce ls
  few : n + length ls ≤ 4294967295

next_sound : (s : Events) (n : ℕ) (ns : Numbers) (ls : List Line) (p : Option Line × Events) → s.place ≡ Lines → IsAfter s n p → AreRanged p
    → ((t : Events) (k : ℕ) (ks : List Line) → t.place ≡ Lines → IsRanged t → events_reading t k ns ≡ read_as ks → IsTail k ks)
    → with_lines p.0 (events_reading p.1 (n + count_of p.0) ns) ≡ read_as ls → IsTail n ls
unfolding IsAfter AreRanged
next_sound s n ns ls (None, t) h a w later e =
    let tail = later t (n + 0) ls (a ∙ h) w e in
    let few = tail.few in
    record { within = tail.within; ends = tail.ends; few = omega (arith, few) }
next_sound s n ns ls (Some l, t) h a w later e =
    let r = events_reading t (n + 1) ns in
    let is = with_line_is l r ls e in
    let below = a.0 in
    subst (IsTail n) is.1 (elim (after_end l) [
      | inl d ↦ (let none = over_sound t (n + 1) ns r.lines (a.1 ∙ ap after_line d) is.0 in
          subst (λ (k : List Line). IsTail n (l ∷ k)) none (record {
            within = (w.0, tt);
            ends = subst (λ (x : Line). EndsOnce (x ∷ [])) (sym d) tt;
            few = omega (arith, below);
          }))
      | inr d ↦ (let tail = later t (n + 1) r.lines (a.1 ∙ d) w.1 is.0 in
          let few = tail.few in
          record { within = (w.0, tail.within); ends = ends_more l r.lines d tail.ends; few = omega (arith, few) })
    ])

lines_sound : (ns : Numbers) (s : Events) (n : ℕ) (ls : List Line) → s.place ≡ Lines → IsRanged s → events_reading s n ns ≡ read_as ls → IsTail n ls
lines_sound NoMore s n ls h w e = absurd (no_stop (Truncated n) ls (sym (ap (λ (p : Place). ended p n) h) ∙ e))
lines_sound Cut s n ls h w e = absurd (no_stop (Truncated n) ls (sym (ap (λ (p : Place). cut_off p n) h) ∙ e))
lines_sound Wrong s n ls h w e = absurd (no_stop (Malformed n) ls e)
lines_sound (Next m ns) s n ls h w e =
    let t = taken_whole n (λ (p : Option Line × Events). with_lines p.0 (events_reading p.1 (n + count_of p.0) ns)) (after_number s n m) ls e in
    next_sound s n ns ls t.0 h (number_sound s n m t.0 h t.1) (number_within s n m t.0 w t.1) (λ t k ks. lines_sound ns t k ks) t.2

-- ---- either form

sound_by : (b : Bool) (text : List ℕ) (ls : List Line) → bytes_eq (take 16 text) binary_header ≡ b
    → cond b (binary_reading (drop 16 text)) (text_reading text) ≡ read_as ls → IsTraceText text ls
sound_by true text ls is e =
    let tail = lines_sound (numbers (drop 16 text)) no_events 2 ls refl (record { sites = tt; due_is = tt }) e in
    let few = tail.few in
    record {
      spells = inr (record { header = (bytes_eq-Decides (take 16 text) binary_header).0 is; reads = e });
      within = tail.within;
      ends = tail.ends;
      few = omega (arith, few);
    }
sound_by false text ls is e = let t = text_sound text ls e in record { spells = inl t.form; within = t.within; ends = t.ends; few = t.few }

text_form : (text : List ℕ) (ls : List Line) → IsText text ls → bytes_eq (take 16 text) binary_header ≡ false
text_form text ls h = rw h refl

again : (text : List ℕ) (ls : List Line) → IsTraceText text ls → reading_of text ≡ read_as ls
again text ls h = elim h.spells [
  | inl t ↦ ap (λ (b : Bool). cond b (binary_reading (drop 16 text)) (text_reading text)) (text_form text ls t) ∙ text_again text ls t h.within h.ends h.few
  | inr b ↦ ap (λ (b : Bool). cond b (binary_reading (drop 16 text)) (text_reading text)) ((bytes_eq-Decides (take 16 text) binary_header).1 b.header) ∙ b.reads
]

pub reads_traces : ReadsTraces
reads_traces text ls = (λ e. sound_by (bytes_eq (take 16 text) binary_header) text ls refl e, again text ls)
