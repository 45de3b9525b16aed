-- Lines that are spelled and counted as right, one after the other, and then compared all at once.
--
-- - `spells_none`, `spells_more`: no line, and one more line;
-- - `strands_same`: a tally that says the same of each column of strands;
-- - `frames_step`, `strands_step`, `events_step`: one more line of a column;
-- - `heard_all`: the lines of a text that were compared all at once;
-- - `event_at`: the event at an index;
-- - `tallied_again`, `heard_again`: before the lines that were counted too early.
use Rattle.std.proofs.Common.{◌≡◌, ℕ, ◌+◌, ◌-◌, ◌<◌, ◌≤◌, true, false, List, [], ◌∷◌, ◌++◌, length, take, drop, Some, None, slice_get, get_or, refl, sym, ap, subst, ◌∙◌, arith, append_assoc, append-nil}
use Rattle.std.proofs.lemmas.Option.{slice_get-get_or}
use Rattle.std.specs.Prelude.{◌↔◌, IsTrue}
use Rattle.cilk_types.specs.declared.event.Event.{Event}
use Rattle.cilk_types.specs.declared.event.Instance.{Instance}
use Rattle.cilk_cert_text.specs.declared.line.Entry.{Entry}
use Rattle.cilk_cert_text.specs.declared.line.Form.{Form}
use Rattle.cilk_cert_text.specs.declared.line.Form.TheVariants as forms
use Rattle.cilk_cert_text.specs.declared.line.Frame.{Frame}
use Rattle.cilk_cert_text.specs.declared.line.Line.{Line}
use Rattle.cilk_cert_text.specs.declared.line.Line.TheVariants as lines
use Rattle.cilk_cert_text.specs.declared.line.Strand.{Strand}
use Rattle.cilk_cert_text.specs.declared.line.Version.TheVariants.{Two}
use Rattle.cilk_cert_text.specs.declared.reader.LineReader.{LineReader}
use Rattle.cilk_cert_text.specs.Certificates as texts
use Rattle.cilk_cert_text.specs.Certificates.{AllAt, Contents, text_of_lines}
use Rattle.cilk_cert_text.specs.Gathering.{gathered, nothing, with_said}
use Rattle.cilk_cert_text.specs.Lines.{spelled}
use Rattle.cilk_cert_text.specs.Readers.{ahead, fault_of, with_all}
use Rattle.cilk_cert_text.specs.Reading.{event_forms, frame_forms, strand_forms}
use Rattle.cilk_cert_text.proofs.Dues.{frames_split, strands_split, events_split}
use Rattle.cilk_cert_text.proofs.Wholes.{at_append}
use Rattle.cilk_cert_maker.specs.declared.listed_entries.Creations.{Creations}
use Rattle.cilk_cert_maker.specs.declared.sources.LastWrites.{LastWrites}
use Rattle.cilk_cert_maker.specs.Listed.{created_by, creations, event_in, source_in, source_at}
use Rattle.cilk_cert_maker.specs.Right.{IsAt}
use Rattle.cilk_cert_maker.specs.Sources.{AreLast}
use Rattle.cilk_checker.specs.declared.first.First.{First}
use Rattle.cilk_checker.specs.declared.right.Right.{Right}
use Rattle.cilk_checker.specs.declared.tally.Tally.{Tally}
use Rattle.cilk_checker.specs.Expected.{DifferInEvents, Spells}
use Rattle.cilk_checker.specs.Firsts.{met}
use Rattle.cilk_checker.specs.Tallies.{Heard, Tallied, behind_lines}
use Rattle.cilk_checker.proofs.Firsts.{met_on}
use Rattle.cilk_checker.proofs.Pieces.{gathered_last}
use Rattle.cilk_checker.proofs.Tallying.{event_met, frame_met, strand_met}

-- ---- one more line

text_last : (xs : List Line) (x : Line) → text_of_lines (xs ++ x ∷ []) ≡ text_of_lines xs ++ (spelled x ++ 10 ∷ [])
text_last [] x = append-nil (spelled x ++ 10 ∷ [])
text_last (y ∷ xs) x =
    ap (λ (l : List ℕ). (spelled y ++ 10 ∷ []) ++ l) (text_last xs x) ∙ sym (append_assoc (spelled y ++ 10 ∷ []) (text_of_lines xs) (spelled x ++ 10 ∷ []))

pub spells_none : (r : Right) (fs : List Form) (t : Tally) (text : List ℕ) → fs ≡ [] → text ≡ [] → Spells r fs t t text
spells_none r fs t text e f = rw (e, f) (record { known = []; at = tt; text_is = refl; tallied = λ c h. h })

pub spells_more : (r : Right) (fs : List Form) (f : Form) (x : Line) (t t' t'' : Tally) (text text' : List ℕ)
    → texts.IsAt f x → ((c : Contents) → Tallied r c t' → Tallied r (with_said c x) t'') → text' ≡ text ++ (spelled x ++ 10 ∷ [])
    → Spells r fs t t' text → Spells r (fs ++ f ∷ []) t t'' text'
spells_more r fs f x t t' t'' text text' fits next is s = record {
  known = s.known ++ x ∷ [];
  at = at_append fs (f ∷ []) s.known (x ∷ []) s.at (fits, tt);
  text_is = is ∙ ap (λ (l : List ℕ). l ++ (spelled x ++ 10 ∷ [])) s.text_is ∙ sym (text_last s.known x);
  tallied = λ c h. rw (gathered_last c s.known x) (next (gathered c s.known) (s.tallied c h));
}

yes : {P : Type 0} → P → IsTrue true ↔ P
yes p = ((λ _. p), (λ _. refl))

pub strands_same : (t : Tally) → t.hebrews ≡ t.owners → t.classes ≡ t.owners → t ≡ record t { owners = t.owners; hebrews = t.owners; classes = t.owners }
strands_same t e f =
    let a : t ≡ record t { hebrews = t.owners } = ap (λ (g : First). record t { hebrews = g }) e in
    a ∙ ap (λ (g : First). record t { hebrews = t.owners; classes = g }) f

-- ---- one more line of a column

module _ (r : Right) (t t' : Tally) (text text' : List ℕ) where
  pub frames_step : (x : Frame) (f : First) → f ≡ met t'.frames true → t'.frames.differs ≡ false → t.frames.agreed ≤ t'.frames.agreed
      → slice_get r.frames.items t'.frames.agreed ≡ Some x → texts.IsAt (forms.Frame f.agreed) (lines.Frame f.agreed x)
      → text' ≡ text ++ (spelled (lines.Frame f.agreed x) ++ 10 ∷ [])
      → Spells r (frame_forms (t.frames.agreed + 1) (t'.frames.agreed - t.frames.agreed)) t t' text
      → Spells r (frame_forms (t.frames.agreed + 1) (f.agreed - t.frames.agreed)) t (record t' { frames = f }) text'
  frames_step x f e on more at fits is s =
      let next : f.agreed ≡ t'.frames.agreed + 1 = ap (λ (g : First). g.agreed) (e ∙ met_on t'.frames on) in
      let last : frame_forms (t.frames.agreed + 1) (f.agreed - t.frames.agreed) ≡ frame_forms (t.frames.agreed + 1) (t'.frames.agreed - t.frames.agreed) ++ forms.Frame f.agreed ∷ [] =
      frames_split (t.frames.agreed + 1) (t'.frames.agreed - t.frames.agreed) 1 f.agreed (f.agreed - t.frames.agreed) (omega (arith, next, more)) (omega (arith, next, more)) in
      let one : (c : Contents) → Tallied r c t' → Tallied r (with_said c (lines.Frame f.agreed x)) (record t' { frames = f }) =
      λ c h. subst (λ (g : First). Tallied r (with_said c (lines.Frame f.agreed x)) (record t' { frames = g })) (sym e) (frame_met r f.agreed x true c t' (yes at) h) in
      subst (λ (fs : List Form). Spells r fs t (record t' { frames = f }) text') (sym last)
      (spells_more r _ (forms.Frame f.agreed) (lines.Frame f.agreed x) t t' (record t' { frames = f }) text text' fits one is s)

  pub strands_step : (x : Strand) (f : First) → f ≡ met t'.owners true → t'.hebrews ≡ t'.owners → t'.classes ≡ t'.owners
      → t'.owners.differs ≡ false → t.owners.agreed ≤ t'.owners.agreed
      → IsAt r.owners.items t'.owners.agreed x.frame → IsAt r.labels t'.owners.agreed x.hebrew → IsAt r.classes t'.owners.agreed x.class
      → texts.IsAt (forms.Strand f.agreed) (lines.Strand f.agreed x)
      → text' ≡ text ++ (spelled (lines.Strand f.agreed x) ++ 10 ∷ [])
      → Spells r (strand_forms (t.owners.agreed + 1) (t'.owners.agreed - t.owners.agreed)) t t' text
      → Spells r (strand_forms (t.owners.agreed + 1) (f.agreed - t.owners.agreed)) t (record t' { owners = f; hebrews = f; classes = f }) text'
  strands_step x f e hebrews classes on more owner hebrew class fits is s =
      let next : f.agreed ≡ t'.owners.agreed + 1 = ap (λ (g : First). g.agreed) (e ∙ met_on t'.owners on) in
      let last : strand_forms (t.owners.agreed + 1) (f.agreed - t.owners.agreed) ≡ strand_forms (t.owners.agreed + 1) (t'.owners.agreed - t.owners.agreed) ++ forms.Strand f.agreed ∷ [] =
      strands_split (t.owners.agreed + 1) (t'.owners.agreed - t.owners.agreed) 1 f.agreed (f.agreed - t.owners.agreed) (omega (arith, next, more)) (omega (arith, next, more)) in
      let h' : met t'.hebrews true ≡ f = ap (λ (g : First). met g true) hebrews ∙ sym e in
      let c' : met t'.classes true ≡ f = ap (λ (g : First). met g true) classes ∙ sym e in
      let one : (c : Contents) → Tallied r c t' → Tallied r (with_said c (lines.Strand f.agreed x)) (record t' { owners = f; hebrews = f; classes = f }) =
      λ c h.
      rw (sym e, h', c') at (strand_met r f.agreed x true true true c t' (yes owner)
      (yes (subst (λ (g : First). IsAt r.labels g.agreed x.hebrew) (sym hebrews) hebrew))
      (yes (subst (λ (g : First). IsAt r.classes g.agreed x.class) (sym classes) class)) h) in
      subst (λ (fs : List Form). Spells r fs t (record t' { owners = f; hebrews = f; classes = f }) text') (sym last)
      (spells_more r _ (forms.Strand f.agreed) (lines.Strand f.agreed x) t t' (record t' { owners = f; hebrews = f; classes = f }) text text' fits one is s)

  pub events_step : (x : Entry) (e : Event) (f : First) (writes : LastWrites) (made : Creations) → f ≡ met t'.events true → t'.sources ≡ t'.events
      → t'.events.differs ≡ false → t.events.agreed ≤ t'.events.agreed → slice_get r.trace t'.events.agreed ≡ Some e
      → made.made.items ≡ t'.made.made.items ++ created_by e → ((l : List Instance) → event_in l x ≡ Some e)
      → ((es : List Event) (n : ℕ) → AreLast es n t'.writes.positions.items → source_in x ≡ source_at es n e)
      → ((es : List Event) (n : ℕ) → AreLast es n t'.writes.positions.items → slice_get es n ≡ Some e → f.agreed ≡ n + 1 → AreLast es (n + 1) writes.positions.items)
      → length writes.positions.items ≡ length t'.writes.positions.items → texts.IsEntry Two x
      → text' ≡ text ++ (spelled (lines.Event x) ++ 10 ∷ [])
      → Spells r (event_forms Two (t'.events.agreed - t.events.agreed)) t t' text
      → Spells r (event_forms Two (f.agreed - t.events.agreed)) t (record t' { events = f; sources = f; writes = writes; made = made }) text'
  events_step x e f writes made is_met sources on more at created listed source last long fits is s =
      let next : f.agreed ≡ t'.events.agreed + 1 = ap (λ (g : First). g.agreed) (is_met ∙ met_on t'.events on) in
      let forms_are : event_forms Two (f.agreed - t.events.agreed) ≡ event_forms Two (t'.events.agreed - t.events.agreed) ++ forms.Event Two ∷ [] =
      events_split Two (t'.events.agreed - t.events.agreed) 1 (f.agreed - t.events.agreed) (omega (arith, next, more)) in
      let s' : met t'.sources true ≡ f = ap (λ (g : First). met g true) sources ∙ sym is_met in
      let one : (c : Contents) → Tallied r c t' → Tallied r (with_said c (lines.Event x)) (record t' { events = f; sources = f; writes = writes; made = made }) =
      λ c h.
      rw (sym is_met, s') at (event_met r x e true c t' writes made on at created (listed made.made.items) (λ es n l. yes (source es n l))
      (λ es n l there same. last es n l there (next ∙ same)) long h) in
      subst (λ (fs : List Form). Spells r fs t (record t' { events = f; sources = f; writes = writes; made = made }) text') (sym forms_are)
      (spells_more r _ (forms.Event Two) (lines.Event x) t t' (record t' { events = f; sources = f; writes = writes; made = made }) text text' fits one is s)

-- ---- all of them

gathered_all : (c : Contents) (xs ys : List Line) → gathered c (xs ++ ys) ≡ gathered (gathered c xs) ys
gathered_all c [] ys = refl
gathered_all c (x ∷ xs) ys = gathered_all (with_said c x) xs ys

pub heard_all : (r : Right) (text piece rest : List ℕ) (reader reader' : LineReader) (t t' : Tally) (known : List Line)
    → ((more : List ℕ) → ahead reader (piece ++ more) ≡ with_all known (ahead reader' (rest ++ more)))
    → ((c : Contents) → Tallied r c t → Tallied r (gathered c known) t') → fault_of reader' ≡ None → Heard r text piece reader t
    → Heard r text rest reader' t'
heard_all r text piece rest reader reader' t t' known law next silent h = record {
  lines = h.lines ++ known;
  ahead_is = λ more.
      h.ahead_is more ∙ ap (behind_lines h.lines) (law more)
      ∙ ap (λ (ls : List Line). record { lines = ls; fault = (ahead reader' (rest ++ more)).fault }) (sym (append_assoc h.lines known (ahead reader' (rest ++ more)).lines));
  tallied = rw (gathered_all nothing h.lines known) (next (gathered nothing h.lines) h.tallied);
  silent = silent;
}

-- the lines that were spelled stand at the front of the piece
pub heard_spelled : (r : Right) (fs : List Form) (text piece : List ℕ) (end : ℕ) (block : List ℕ) (reader reader' : LineReader) (t t' : Tally)
    → Spells r fs t t' block → length block ≡ end
    → ((known : List Line) → AllAt fs known → block ≡ text_of_lines known → (more : List ℕ) → ahead reader (piece ++ more) ≡ with_all known (ahead reader' (drop (length block) piece ++ more)))
    → fault_of reader' ≡ None → Heard r text piece reader t → Heard r text (drop end piece) reader' t'
heard_spelled r fs text piece end block reader reader' t t' s long law silent h =
    subst (λ (n : ℕ). Heard r text (drop n piece) reader' t') long
    (heard_all r text piece (drop (length block) piece) reader reader' t t' s.known (law s.known s.at s.text_is) s.tallied silent h)

-- ---- back again

pub event_at : (xs es : List Event) (i : ℕ) (d : Event) → xs ≡ es → i < length es → slice_get es i ≡ Some (get_or xs i d)
event_at xs es i d e h =
    subst (λ (l : List Event). slice_get l i ≡ Some (get_or xs i d)) e (slice_get-get_or xs i d (subst (λ (l : List Event). i < length l) (sym e) h))

pub tallied_again : (r : Right) (c : Contents) (t t' : Tally) (f : First) (writes : LastWrites) (made : Creations)
    → DifferInEvents t t' → t.events ≡ f → t.sources ≡ f → AreLast r.trace f.agreed writes.positions.items
    → made.made.items ≡ creations (take f.agreed r.trace) → length writes.positions.items ≡ length t'.writes.positions.items
    → Tallied r c t → Tallied r c (record t' { events = f; sources = f; writes = writes; made = made })
tallied_again r c t t' f writes made same events sources last created long h =
    let back : Tallied r c (record t { events = f; sources = f; writes = writes; made = made }) = record {
      frames = h.frames;
      owners = h.owners;
      hebrews = h.hebrews;
      classes = h.classes;
      events = rw (sym events) h.events;
      sources = λ on. rw (sym sources) (h.sources (rw events on));
      result = h.result;
      fit = rw (long ∙ same.cells) h.fit;
      last = λ on. last;
      made = λ on. created;
    } in
    subst (λ (u : Tally). Tallied r c (record u { events = f; sources = f; writes = writes; made = made })) (sym same.is) back

pub heard_again : (r : Right) (text rest : List ℕ) (reader reader' : LineReader) (t t' : Tally) → reader' ≡ reader
    → ((c : Contents) → Tallied r c t → Tallied r c t') → Heard r text rest reader t → Heard r text rest reader' t'
heard_again r text rest reader reader' t t' e back h =
    subst (λ (u : LineReader). Heard r text rest u t') (sym e)
    (record { lines = h.lines; ahead_is = h.ahead_is; tallied = back (gathered nothing h.lines) h.tallied; silent = h.silent })
