-- One more line.
use Rattle.std.proofs.Common.{◌≡◌, ℕ, zero, suc, ◌+◌, Bool, true, false, List, [], ◌∷◌, ◌++◌, length, take, append-nil, add-one, Some, None, slice_get, refl, sym, ap, subst, ◌∙◌, append_assoc}
use Rattle.std.specs.Prelude.{◌↔◌, IsTrue}
use Rattle.cilk_types.specs.declared.event.Instance.{Instance}
use Rattle.cilk_cert_text.specs.declared.line.Entry.{Entry}
use Rattle.cilk_cert_maker.specs.declared.sources.LastWrites.{LastWrites}
use Rattle.cilk_cert_maker.specs.declared.listed_entries.Creations.{Creations}
use Rattle.cilk_cert_maker.specs.Sources.{AllFit, AreLast}
use Rattle.cilk_types.specs.declared.event.Event.{Event}
use Rattle.cilk_cert_text.specs.declared.line.Frame.{Frame}
use Rattle.cilk_cert_text.specs.declared.line.Strand.{Strand}
use Rattle.cilk_cert_text.specs.declared.line.Line.TheVariants as lines
use Rattle.cilk_cert_text.specs.Certificates.{Contents}
use Rattle.cilk_cert_text.specs.Gathering.{with_said}
use Rattle.cilk_cert_maker.specs.Listed.{created_by, creations, event_in, source_in, source_at, ListsEvent, HasSource}
use Rattle.cilk_checker.specs.declared.right.Right.{Right}
use Rattle.cilk_checker.specs.declared.tally.Tally.{Tally}
use Rattle.cilk_checker.specs.declared.first.First.{First}
use Rattle.cilk_checker.specs.Firsts.{met, Agrees}
use Rattle.cilk_checker.specs.Tallies.{Tallied}
use Rattle.cilk_cert_maker.specs.Right.{IsAt}
use Rattle.cilk_checker.proofs.Firsts.{agrees_met, agrees_kept, some_is, met_on, met_off}

-- an item whose test succeeds exactly if the item is right
pub agrees_by : {A : Type 0} (P : ℕ → A → Type 0) (given : List A) (x : A) (f : First) (b : Bool)
    → IsTrue b ↔ P f.agreed x → Agrees P given f → Agrees P (given ++ x ∷ []) (met f b)
agrees_by P given x f b e a = agrees_met P given x f b (λ h. e.0 h) (λ h p. absurd (let t = e.1 p in cc)) a

pub frame_met : (r : Right) (n : ℕ) (x : Frame) (b : Bool) (c : Contents) (t : Tally)
    → IsTrue b ↔ IsAt r.frames.items t.frames.agreed x → Tallied r c t → Tallied r (with_said c (lines.Frame n x)) (record t { frames = met t.frames b })
frame_met r n x b c t e h = record {
  frames = agrees_by _ c.frames x t.frames b e h.frames;
  owners = h.owners;
  hebrews = h.hebrews;
  classes = h.classes;
  events = h.events;
  sources = h.sources;
  result = h.result;
  fit = h.fit;
  last = h.last;
  made = h.made;
}

pub strand_met : (r : Right) (n : ℕ) (x : Strand) (b b' b'' : Bool) (c : Contents) (t : Tally)
    → IsTrue b ↔ IsAt r.owners.items t.owners.agreed x.frame → IsTrue b' ↔ IsAt r.labels t.hebrews.agreed x.hebrew → IsTrue b'' ↔ IsAt r.classes t.classes.agreed x.class
    → Tallied r c t → Tallied r (with_said c (lines.Strand n x)) (record t { owners = met t.owners b; hebrews = met t.hebrews b'; classes = met t.classes b'' })
strand_met r n x b b' b'' c t e e' e'' h = record {
  frames = h.frames;
  owners = agrees_by _ c.strands x t.owners b e h.owners;
  hebrews = agrees_by _ c.strands x t.hebrews b' e' h.hebrews;
  classes = agrees_by _ c.strands x t.classes b'' e'' h.classes;
  events = h.events;
  sources = h.sources;
  result = h.result;
  fit = h.fit;
  last = h.last;
  made = h.made;
}

pub creations_next : (es : List Event) (n : ℕ) (e : Event) → slice_get es n ≡ Some e → creations (take (suc n) es) ≡ creations (take n es) ++ created_by e
creations_next [] n e h = absurd cc
creations_next (x ∷ es) zero e h =
    let same : x ≡ e = some_is x e h in
    append-nil (created_by x) ∙ ap created_by same
creations_next (x ∷ es) (suc n) e h =
    ap (λ (l : List Instance). created_by x ++ l) (creations_next es n e h) ∙ sym (append_assoc (created_by x) (creations (take n es)) (created_by e))

-- the run has no such event, or the entry doesn't list it
pub event_apart : (r : Right) (x : Entry) (c : Contents) (t : Tally) (made : Creations) → t.events.differs ≡ false → (ListsEvent r.trace t.events.agreed x → ⊥)
    → Tallied r c t → Tallied r (with_said c (lines.Event x)) (record t { events = met t.events false; made = made })
event_apart r x c t made on wrong h =
    let off : (met t.events false).differs ≡ true = rw on refl in
    record {
      frames = h.frames;
      owners = h.owners;
      hebrews = h.hebrews;
      classes = h.classes;
      events = agrees_met _ c.events x t.events false (λ e. absurd cc) (λ e. wrong) h.events;
      sources = λ e. absurd (let o = off in cc);
      result = h.result;
      fit = h.fit;
      last = λ e. absurd (let o = off in cc);
      made = λ e. absurd (let o = off in cc);
    }

same_source : (es : List Event) (n : ℕ) (e : Event) (x : Entry) (b : Bool) → slice_get es n ≡ Some e → IsTrue b ↔ (source_in x ≡ source_at es n e) → IsTrue b ↔ HasSource es n x
same_source es n e x b at test = (
  (λ h. (e, at, test.0 h)),
  (λ s. let same : e ≡ s.0 = some_is e s.0 (sym at ∙ s.1) in test.1 (subst (λ (d : Event). source_in x ≡ source_at es n d) (sym same) s.2)),
)

sources_met : (es : List Event) (given : List Entry) (x : Entry) (e : Event) (f : First) (b : Bool) (n : ℕ) → slice_get es n ≡ Some e → n ≡ length given
    → IsTrue b ↔ (source_in x ≡ source_at es n e) → Agrees (HasSource es) given f → (d : Bool) → f.differs ≡ d → Agrees (HasSource es) (given ++ x ∷ []) (met f b)
sources_met es given x e f b n at long test a true off = subst (Agrees (HasSource es) (given ++ x ∷ [])) (sym (met_off f b off)) (agrees_kept _ given x f off a)
sources_met es given x e f b n at long test a false on =
    let place : n ≡ f.agreed = long ∙ sym (a.all on) in
    agrees_by (HasSource es) given x f b (subst (λ (m : ℕ). IsTrue b ↔ HasSource es m x) place (same_source es n e x b at test)) a

-- the entry lists the run's event
pub event_met : (r : Right) (x : Entry) (e : Event) (b : Bool) (c : Contents) (t : Tally) (writes : LastWrites) (made : Creations)
    → t.events.differs ≡ false → slice_get r.trace t.events.agreed ≡ Some e
    → made.made.items ≡ t.made.made.items ++ created_by e
    → event_in made.made.items x ≡ Some e
    → ((es : List Event) (n : ℕ) → AreLast es n t.writes.positions.items → IsTrue b ↔ (source_in x ≡ source_at es n e))
    → ((es : List Event) (n : ℕ) → AreLast es n t.writes.positions.items → slice_get es n ≡ Some e → t.events.agreed + 1 ≡ n + 1 → AreLast es (n + 1) writes.positions.items)
    → length writes.positions.items ≡ length t.writes.positions.items
    → Tallied r c t → Tallied r (with_said c (lines.Event x)) (record t { events = met t.events true; sources = met t.sources b; writes = writes; made = made })
event_met r x e b c t writes made on at more is source last long h =
    let es : List Event = r.trace in
    let n : ℕ = t.events.agreed in
    let next : met t.events true ≡ record { agreed = n + 1; differs = false } = met_on t.events on in
    let agreed : (met t.events true).agreed ≡ n + 1 = ap (λ (f : First). f.agreed) next in
    let made_is : made.made.items ≡ creations (take (suc n) es) = more ∙ ap (λ (l : List Instance). l ++ created_by e) (h.made on) ∙ sym (creations_next es n e at) in
    let listed : ListsEvent es n x = (e, at, ap (λ (l : List Instance). event_in l x) (sym made_is) ∙ is) in
    record {
      frames = h.frames;
      owners = h.owners;
      hebrews = h.hebrews;
      classes = h.classes;
      events = agrees_met _ c.events x t.events true (λ u. listed) (λ u. absurd cc) h.events;
      sources = λ u. sources_met es c.events x e t.sources b n at (h.events.all on) (source es n (h.last on)) (h.sources on) t.sources.differs refl;
      result = h.result;
      fit = subst (λ (m : ℕ). AllFit m es) (sym long) h.fit;
      last = λ u. subst (λ (m : ℕ). AreLast es m writes.positions.items) (sym agreed) (last es n (h.last on) at refl);
      made = λ u. made_is ∙ ap (λ (m : ℕ). creations (take m es)) (sym (agreed ∙ add-one n));
    }

-- past the run's end an entry lists nothing
pub no_event : (es : List Event) (n : ℕ) (x : Entry) → slice_get es n ≡ None → ListsEvent es n x → ⊥
no_event es n x at l = absurd (let s = l.1 in cc)

pub not_listed : (es : List Event) (n : ℕ) (x : Entry) (e : Event) (made : Creations) (old : Creations) → slice_get es n ≡ Some e → old.made.items ≡ creations (take n es)
    → made.made.items ≡ old.made.items ++ created_by e → (event_in made.made.items x ≡ Some e → ⊥) → ListsEvent es n x → ⊥
not_listed es n x e made old at was more wrong l =
    let same : e ≡ l.0 = some_is e l.0 (sym at ∙ l.1) in
    let made_is : made.made.items ≡ creations (take (suc n) es) = more ∙ ap (λ (k : List Instance). k ++ created_by e) was ∙ sym (creations_next es n e at) in
    wrong (ap (λ (k : List Instance). event_in k x) made_is ∙ l.2 ∙ ap (λ (d : Event). Some d) (sym same))
