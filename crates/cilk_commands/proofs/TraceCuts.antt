-- A reader of a trace that hasn't returned a fault.
--
-- - `ahead_ended`: if nothing follows, there is no line more, and none that is malformed;
-- - `cut_short`: so of what was pulled before a pull that failed;
-- - `begun_formed`: no line is malformed where the lines begin a trace;
-- - `told_apart`: a fault of a text is no failed pull.
use Rattle.std.proofs.Common.{◌≡◌, ◌<◌, ◌≤◌, ℕ, Bool, true, false, cond, eqb, List, [], ◌∷◌, ◌++◌, take, Option, Some, None, inl, inr, ◌⊎◌, refl, sym, ap, subst, ◌∙◌, arith, append-nil, append_assoc}
use Rattle.std.specs.Io.KnownBytes.{Consumes}
use Rattle.std.proofs.lemmas.Bool.{true≢false}
use Rattle.cilk_checker.specs.Pulls.{Takes}
use Rattle.cilk_trace.specs.declared.line.Line.{Line}
use Rattle.cilk_trace.specs.declared.fault.TraceFault.{TraceFault}
use Rattle.cilk_trace.specs.declared.fault.TraceFault.TheVariants as text_faults
use Rattle.cilk_trace.specs.declared.fault.TraceFault.TheVariants.{Malformed, Truncated}
use Rattle.cilk_trace.specs.declared.place.Place.{Place}
use Rattle.cilk_trace.specs.declared.place.Place.TheVariants.{Header, Lines, Over}
use Rattle.cilk_trace.specs.declared.reader.Form.{Form}
use Rattle.cilk_trace.specs.declared.reader.Form.TheVariants.{Binary, Text, Unknown}
use Rattle.cilk_trace.specs.declared.reader.TraceReader.{TraceReader}
use Rattle.cilk_trace.specs.Binary.{Events, cut_off, ended, events_reading}
use Rattle.cilk_trace.specs.EventReaders as events
use Rattle.cilk_trace.specs.Forms.{binary_header, reading_of}
use Rattle.cilk_trace.specs.Numbers.{Cut, NoMore, numbers_from}
use Rattle.cilk_trace.specs.Reading.{HasNoLf, Reading, stops, whole}
use Rattle.cilk_trace.specs.Readers.{ahead, ahead_by, fault_by, fault_of}
use Rattle.cilk_trace.specs.Surveys.{IsTrace}
use Rattle.cilk_trace.specs.TextReaders as text
use Rattle.cilk_trace.proofs.Counting.{limits_front}
use Rattle.cilk_trace.proofs.Headers.{cut_header, no_lf_header}
use Rattle.cilk_trace.proofs.Readings.{end_truncated, end_whole}
use Rattle.cilk_commands.specs.declared.trace_fault.Unjudged.TheVariants as faults
use Rattle.cilk_commands.specs.declared.trace_pieces.Pieces.{Pieces}
use Rattle.cilk_commands.specs.TraceFaults.{told}
use Rattle.cilk_commands.specs.TracePieces.{HasLines, IsReading, after_lines}
use Rattle.cilk_commands.specs.TraceTexts.{BeginsTrace, HasNoMalformedLine}
use Rattle.cilk_commands.proofs.TraceReread.{read_to_end}

-- ---- the end of a reader's text

-- no line more, and none that is malformed
record Ends (r : Reading) : Type 0 where
  pub lines : r.lines ≡ []
  pub formed : (line : ℕ) → r.fault ≡ Some (Malformed line) → ⊥

none_some : (f : TraceFault) → ◌≡◌ {A = Option TraceFault} None (Some f) → ⊥
none_some f e = absurd cc

cut_apart : (n line : ℕ) → ◌≡◌ {A = Option TraceFault} (Some (Truncated n)) (Some (Malformed line)) → ⊥
cut_apart n line e = absurd cc

ends_whole : Ends whole
ends_whole = record { lines = refl; formed = λ line e. none_some (Malformed line) e }

ends_cut : (n : ℕ) → Ends (stops (Truncated n))
ends_cut n = record { lines = refl; formed = λ line e. cut_apart n line e }

over_or_not : (p : Place) → (p ≡ Over) ⊎ (p ≡ Over → ⊥)
over_or_not Header = inr (λ e. absurd cc)
over_or_not Lines = inr (λ e. absurd cc)
over_or_not Over = inl refl

-- the text form
module _ (fault : Option TraceFault) (place : Place) (n len : ℕ) (bytes : List ℕ) where
  text_ends : fault ≡ None → (place ≡ Over → len ≡ 0) → HasNoLf (take len bytes) → len ≤ 64 → Ends (text.rest_of fault place n (take len bytes ++ []))
  text_ends silent at_end no_lf room =
      elim (over_or_not place) [
        | inl over ↦ subst Ends (sym (end_whole fault place n len bytes silent over (at_end over))) ends_whole
        | inr due ↦ subst Ends (sym (end_truncated fault place n n len bytes silent due no_lf room refl)) (ends_cut n)
      ]

-- the binary form
ended_ends : (p : Place) (number : ℕ) → Ends (ended p number)
ended_ends Header number = ends_cut number
ended_ends Lines number = ends_cut number
ended_ends Over number = ends_whole

cut_ends : (p : Place) (number : ℕ) → (p ≡ Over → ⊥) → Ends (cut_off p number)
cut_ends Header number due = ends_cut number
cut_ends Lines number due = ends_cut number
cut_ends Over number due = absurd (due refl)

numbers_end : (b : Bool) (s : Events) (number : ℕ) → (s.place ≡ Over → b ≡ true) → Ends (events_reading s number (cond b NoMore Cut))
numbers_end true s number over = ended_ends s.place number
numbers_end false s number over = cut_ends s.place number (λ e. true≢false (sym (over e)))

events_end : (fault : Option TraceFault) (s : Events) (number value unit : ℕ) → fault ≡ None → (s.place ≡ Over → unit ≡ 1)
    → Ends (events.rest_of fault s number (numbers_from value unit []))
events_end fault s number value unit silent over =
    subst (λ (f : Option TraceFault). Ends (events.rest_of f s number (numbers_from value unit []))) (sym silent)
    (numbers_end (eqb unit 1) s number (λ e. ap (λ (u : ℕ). eqb u 1) (over e)))

-- either, or none yet
header_ends : (m : ℕ) → m < 16 → Ends (reading_of (take m binary_header ++ []))
header_ends m less =
    subst Ends (sym (cut_header m less)) (text_ends None Header 1 m binary_header refl (λ e. absurd cc) (no_lf_header m less) (omega (arith, less)))

by_form : (f : Form) (r : TraceReader) → r.form ≡ f → fault_by f r ≡ None → Ends (ahead_by f r [])
by_form Unknown r is silent = header_ends r.matched (r.begun is)
by_form Text r is silent =
    let t = r.text in text_ends t.fault t.place t.number t.length t.bytes silent t.at_end t.no_lf t.room
by_form Binary r is silent =
    let e = r.events in events_end e.fault (events.events_in e) e.number e.value e.unit silent e.over

ahead_ended : (r : TraceReader) → fault_of r ≡ None → Ends (ahead r [])
ahead_ended r silent = by_form r.form r refl silent

-- ---- a pull that failed

-- it took nothing
pub cut_short : (known left left' : Option (List ℕ)) (ls : List Line) (p : Pieces) → p.end ≤ p.at → left' ≡ left → IsReading known left ls p
    → Takes known left' (λ bytes. HasLines bytes ls)
cut_short known left left' ls p le same r =
    let last = ahead_ended p.reader r.read.silent in
    let read : reading_of r.pulled ≡ after_lines ls (ahead p.reader []) = read_to_end ls p r.pulled (ahead p.reader []) le refl r.read in (
      r.pulled,
      subst (λ (o : Option (List ℕ)). Consumes known o r.pulled) (sym same) r.taken,
      record {
        lines = ap (λ (x : Reading). x.lines) read ∙ (ap (λ (more : List Line). ls ++ more) last.lines ∙ append-nil ls);
        formed = λ line e. last.formed line (sym (ap (λ (x : Reading). x.fault) read) ∙ e);
      },
    )

-- ---- no malformed line

begins_front : (xs ys : List Line) → BeginsTrace (xs ++ ys) → BeginsTrace xs
begins_front xs ys b = (ys ++ b.0, subst IsTrace (append_assoc xs ys b.0) b.1, limits_front xs ys b.2)

pub begun_formed : (bytes : List ℕ) (ls : List Line) → HasLines bytes ls → BeginsTrace ls → HasNoMalformedLine bytes
begun_formed bytes ls h b line (inl w) = h.formed line w.0
begun_formed bytes ls h b line (inr w) =
    let is : ls ≡ (w.before ++ w.wrong ∷ []) ++ w.after = sym h.lines ∙ (w.lines ∙ sym (append_assoc w.before (w.wrong ∷ []) w.after)) in
    w.ends (begins_front (w.before ++ w.wrong ∷ []) w.after (subst BeginsTrace is b))

-- ---- faults

pub told_apart : (f : TraceFault) → told f ≡ faults.Unread → ⊥
told_apart (text_faults.Malformed line) e = absurd cc
told_apart (text_faults.Truncated line) e = absurd cc
