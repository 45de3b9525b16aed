-- Frames as they are gathered.
--
-- - `set_back`: a list in which one place has changed;
-- - `child_here`, `child_off`, `none_yet`: the children of a frame;
-- - `child_added`, `child_nowhere`: the next frame among its parent's children;
-- - `have_more`: one frame more;
-- - `first_gathered`, `event_added`, `event_nowhere`, `gathered_more`: events.
use Rattle.std.proofs.Common.{◌≡◌, ◌⊎◌, inl, inr, ⊎_elim, ◌+◌, ◌<◌, ◌≤◌, ℕ, zero, suc, nat_eq, eq-eqb, eqb-true, Bool, true, false, true≢false, cond, List, [], ◌∷◌, ◌++◌, length, slice_get, slice_set, Option, Some, None, refl, sym, ap, ap₂, ◌∙◌, subst, arith}
use Rattle.std.specs.Option.{option_map}
use Rattle.std.specs.Prelude.{take}
use Rattle.std.proofs.lemmas.Bool.{ne_eqb}
use Rattle.std.proofs.lemmas.List.{append-nil, length-map, length-take-le, map-append, take_all, take_more}
use Rattle.std.proofs.lemmas.Option.{get_or_from_slice_get}
use Rattle.cilk_types.specs.declared.event.Event.{Event}
use Rattle.cilk_frames.specs.declared.activation.Activation.{Activation}
use Rattle.cilk_scheduler.specs.Numbered.{child_at, children_among, events_of, parent_at}
use Rattle.cilk_scheduler.specs.declared.frame_state.JournalEntry.{JournalEntry}
use Rattle.cilk_scheduler.specs.declared.frame_state.FrameState.{FrameState}
use Rattle.cilk_scheduler.proofs.Children.{part_of}
use Rattle.cilk_scheduler.proofs.Kept.{events_more}
use Rattle.cilk_scheduler.proofs.Placed.{get_some}
use Rattle.cilk_scheduler.proofs.Plain.{get_low}
use Rattle.cilk_schedule.specs.Gathering.{AddsChild, AreGathered, AreNamedAs, Gathers, HasChildMore, HasEvent, HaveLinks, HaveParents}
use Rattle.cilk_schedule.specs.Links.{link_of, links_in, links_of}
use Rattle.cilk_schedule.specs.Showing.{IsNamedAs}
use Rattle.cilk_schedule.specs.declared.naming.ShownEvent.{ShownEvent}
use Rattle.cilk_schedule.specs.declared.showing.Link.{Link}
use Rattle.cilk_schedule.specs.declared.showing.ShownFrame.{ShownFrame}
use Rattle.cilk_schedule.proofs.Links.{links_stay}

pub set_back : {A : Type 0} (list : List A) (k : ℕ) (y : A) (j : ℕ) (g : A) → slice_get (slice_set list k y) j ≡ Some g → ((k ≡ j) × (y ≡ g)) ⊎ ((k ≡ j → ⊥) × (slice_get list j ≡ Some g))
set_back [] k y j g h = let no : None ≡ Some g = h in let f : ⊥ = cc in absurd f
set_back (z ∷ list) zero y zero g h = inl (refl, (let q : Some y ≡ Some g = h in cc))
set_back (z ∷ list) zero y (suc j) g h = inr ((λ e. absurd (omega (arith, e))), h)
set_back (z ∷ list) (suc k) y zero g h = inr ((λ e. absurd (omega (arith, e))), h)
set_back (z ∷ list) (suc k) y (suc j) g h = ⊎_elim (λ r. inl (ap suc r.0, r.1)) (λ r. inr ((λ e. r.0 (omega (arith, e))), r.1)) (set_back list k y j g h)

-- ---- children

child_here : (m k n : ℕ) → 0 < n → m ≡ k → child_at (Some m) k n ≡ n ∷ []
child_here m k zero some e = absurd (omega (arith, some))
child_here m k (suc n) some e = ap (λ t. cond t (suc n ∷ []) []) (eq-eqb m k e)

child_off : (m k n : ℕ) → (m ≡ k → ⊥) → child_at (Some m) k n ≡ []
child_off m k zero ne = refl
child_off m k (suc n) ne = ap (λ t. cond t (suc n ∷ []) []) (ne_eqb m k ne)

-- a frame has no child among those up to it
none_yet : (frames : List (Activation FrameState)) → HaveParents frames → (k n : ℕ) → n ≤ suc k → n ≤ length frames → children_among frames k n ≡ []
none_yet frames h k zero low few = refl
none_yet frames h k (suc zero) low few = by (parent_at frames 0)
  where
    by : (o : Option ℕ) → child_at o k 0 ≡ []
    by None = refl
    by (Some m) = refl
none_yet frames h k (suc (suc n)) low few =
    let g = get_some frames (suc n) (omega (arith, few)) in
    let x = g.0 in
    let y = x.cursor in
    let less = h n g.0 g.1 in
    ap₂ (λ l o. l ++ child_at o k (suc n)) (none_yet frames h k (suc n) (omega (arith, low)) (omega (arith, few))) (ap (λ (o : Option (Activation FrameState)). option_map (λ (a : Activation FrameState). let z = a.cursor in z.parent) o) g.1)
    ∙ child_off y.parent k (suc n) (λ e. absurd (omega (arith, e, less, low)))

pub child_added : (list : List ShownFrame) (parent : ℕ) (f f' : ShownFrame) → slice_get list parent ≡ Some f → f'.link ≡ f.link → f'.events ≡ f.events → (let c = f'.children in let d = f.children in c.items ≡ d.items ++ length list ∷ []) → AddsChild list (slice_set list parent f') parent
child_added list parent f f' at link events children = record { links = links_stay list parent f f' at link; each = each }
  where
    each : (k : ℕ) (g : ShownFrame) → slice_get (slice_set list parent f') k ≡ Some g → HasChildMore parent k list g
    each k g h = ⊎_elim here off (set_back list parent f' k g h)
      where
        here : (parent ≡ k) × (f' ≡ g) → HasChildMore parent k list g
        here r =
            let low = get_low list parent f at in
            subst (λ (z : ShownFrame). HasChildMore parent k list z) r.1
            (record {
              before = f;
              at = ap (λ i. slice_get list i) (sym r.0) ∙ at;
              children = children ∙ ap (λ l. let d = f.children in d.items ++ l) (sym (child_here parent k (length list) (omega (arith, low)) r.0));
              events = events;
            })

        off : (parent ≡ k → ⊥) × (slice_get list k ≡ Some g) → HasChildMore parent k list g
        off r = record {
          before = g;
          at = r.1;
          children = let c = g.children in sym (append-nil c.items) ∙ ap (λ l. c.items ++ l) (sym (child_off parent k (length list) r.0));
          events = refl;
        }

pub child_nowhere : (list : List ShownFrame) (parent : ℕ) → (parent < length list → ⊥) → AddsChild list list parent
child_nowhere list parent none = record {
  links = refl;
  each = λ k g at. record {
    before = g;
    at = at;
    children = let c = g.children in sym (append-nil c.items) ∙ ap (λ l. c.items ++ l) (sym (child_off parent k (length list) (λ e. none (subst (λ z. z < length list) (sym e) (get_low list k g at)))));
    events = refl;
  };
}

module _ (frames : List (Activation FrameState)) (n : ℕ) (a : Activation FrameState) (list list' : List ShownFrame) (f : ShownFrame) (at : slice_get frames n ≡ Some a) (h : HaveLinks frames n list) (more : (let x = a.cursor in AddsChild list list' x.parent)) (link : f.link ≡ link_of a)
    (no_children : (let c = f.children in c.items ≡ [])) (no_events : (let e = f.events in e.items ≡ [])) where
  low : n < length frames
  low = get_low frames n a at

  many : length list ≡ n
  many = sym (length-map list (λ (g : ShownFrame). g.link)) ∙ ap (λ (l : List Link). length l) h.links ∙ length-map (take n frames) link_of ∙ (let l = low in length-take-le n frames (omega (arith, l)))

  many' : length list' ≡ n
  many' = sym (length-map list' (λ (g : ShownFrame). g.link)) ∙ ap (λ (l : List Link). length l) more.links ∙ length-map list (λ (g : ShownFrame). g.link) ∙ many

  taken : take (n + 1) frames ≡ take n frames ++ a ∷ []
  taken = take_more frames n a low ∙ ap (λ (z : Activation FrameState). take n frames ++ z ∷ []) (get_or_from_slice_get frames n a a at)

  links_now : links_in (list' ++ f ∷ []) ≡ links_of (take (n + 1) frames)
  links_now =
      map-append (λ (g : ShownFrame). g.link) list' (f ∷ []) ∙ ap₂ (λ l x. l ++ x ∷ []) (more.links ∙ h.links) link ∙ sym (map-append link_of (take n frames) (a ∷ [])) ∙ ap links_of (sym taken)

  next : (k : ℕ) → children_among frames k (suc n) ≡ children_among frames k n ++ (let x = a.cursor in child_at (Some x.parent) k n)
  next k = ap (λ o. children_among frames k n ++ child_at o k n) (ap (λ (o : Option (Activation FrameState)). option_map (λ (z : Activation FrameState). let y = z.cursor in y.parent) o) at)

  one : n + 1 ≡ suc n
  one = omega arith

  children_now : HaveParents frames → (k : ℕ) (g : ShownFrame) → slice_get (list' ++ f ∷ []) k ≡ Some g → (let c = g.children in c.items ≡ children_among frames k (n + 1))
  children_now parents k g there = ⊎_elim before newest (part_of list' f k g there)
    where
      before : slice_get list' k ≡ Some g → (let c = g.children in c.items ≡ children_among frames k (n + 1))
      before is =
          let r = more.each k g is in
          let x = a.cursor in
          r.children ∙ ap₂ (λ l m. l ++ child_at (Some x.parent) k m) (h.children parents k r.before r.at) many ∙ sym (next k) ∙ ap (λ m. children_among frames k m) (sym one)

      newest : (k ≡ length list') × (f ≡ g) → (let c = g.children in c.items ≡ children_among frames k (n + 1))
      newest r =
          let is = r.0 in
          let e = many' in
          let l = low in
          ap (λ (z : ShownFrame). let c = z.children in c.items) (sym r.1) ∙ no_children ∙ sym (none_yet frames parents k (suc n) (omega (arith, is, e)) (omega (arith, l))) ∙ ap (λ m. children_among frames k m) (sym one)

  events_now : (k : ℕ) (g : ShownFrame) → slice_get (list' ++ f ∷ []) k ≡ Some g → (let e = g.events in e.items ≡ [])
  events_now k g there =
      ⊎_elim (λ is. let r = more.each k g is in ap (λ z. z.items) r.events ∙ h.events k r.before r.at) (λ r. ap (λ (z : ShownFrame). let e = z.events in e.items) (sym r.1) ∙ no_events) (part_of list' f k g there)

  pub have_more : HaveLinks frames (n + 1) (list' ++ f ∷ [])
  have_more = record { links = links_now; children = children_now; events = events_now }

-- ---- events

module _ (frames : List (Activation FrameState)) (globals : ℕ) where
  pub first_gathered : (list : List ShownFrame) → HaveLinks frames (length frames) list → AreGathered frames globals [] list
  first_gathered list h = record {
    links = h.links ∙ ap links_of (take_all (length frames) frames (omega arith));
    children = h.children;
    events = λ k f at. subst (λ l. AreNamedAs frames globals [] l) (sym (h.events k f at)) tt;
  }

  named_more : (xs : List Event) (es : List ShownEvent) (x : Event) (e : ShownEvent) → AreNamedAs frames globals xs es → IsNamedAs frames globals x e → AreNamedAs frames globals (xs ++ x ∷ []) (es ++ e ∷ [])
  named_more [] [] x e h g = (g, tt)
  named_more [] (d ∷ es) x e h g = absurd h
  named_more (y ∷ xs) [] x e h g = absurd h
  named_more (y ∷ xs) (d ∷ es) x e h g = (h.0, named_more xs es x e h.1 g)

  pub event_added : (list : List ShownFrame) (entry : JournalEntry) (f f' : ShownFrame) (e : ShownEvent) → slice_get list entry.frame ≡ Some f → f'.link ≡ f.link → f'.children ≡ f.children → IsNamedAs frames globals entry.event e
      → (let l = f'.events in let m = f.events in l.items ≡ m.items ++ e ∷ []) → Gathers frames globals list (slice_set list entry.frame f') entry
  event_added list entry f f' e at link children named events = record { links = links_stay list entry.frame f f' at link; each = each }
    where
      each : (k : ℕ) (g : ShownFrame) → slice_get (slice_set list entry.frame f') k ≡ Some g → HasEvent frames globals entry k list g
      each k g h = ⊎_elim here off (set_back list entry.frame f' k g h)
        where
          here : (entry.frame ≡ k) × (f' ≡ g) → HasEvent frames globals entry k list g
          here r = subst (λ (z : ShownFrame). HasEvent frames globals entry k list z) r.1
              (record {
                before = f;
                at = ap (λ i. slice_get list i) (sym r.0) ∙ at;
                children = children;
                same = λ no. absurd (true≢false (sym (eq-eqb entry.frame k r.0) ∙ no));
                more = λ yes. (e, named, events);
              })

          off : (entry.frame ≡ k → ⊥) × (slice_get list k ≡ Some g) → HasEvent frames globals entry k list g
          off r = record { before = g; at = r.1; children = refl; same = λ no. refl; more = λ is. absurd (r.0 (eqb-true entry.frame k is)) }

  pub event_nowhere : (list : List ShownFrame) (entry : JournalEntry) → (entry.frame < length list → ⊥) → Gathers frames globals list list entry
  event_nowhere list entry none = record {
    links = refl;
    each = λ k g at. record { before = g; at = at; children = refl; same = λ no. refl; more = λ is. absurd (none (subst (λ z. z < length list) (sym (eqb-true entry.frame k is)) (get_low list k g at))) };
  }

  pub gathered_more : (es es' : List JournalEntry) (entry : JournalEntry) (list list' : List ShownFrame) → es' ≡ es ++ entry ∷ [] → AreGathered frames globals es list → Gathers frames globals list list' entry → AreGathered frames globals es' list'
  gathered_more es es' entry list list' is h more = record { links = more.links ∙ h.links; children = children_now; events = events_now }
    where
      children_now : HaveParents frames → (k : ℕ) (f : ShownFrame) → slice_get list' k ≡ Some f → (let c = f.children in c.items ≡ children_among frames k (length frames))
      children_now parents k f at = let r = more.each k f at in ap (λ z. z.items) r.children ∙ h.children parents k r.before r.at

      events_now : (k : ℕ) (f : ShownFrame) → slice_get list' k ≡ Some f → (let e = f.events in AreNamedAs frames globals (events_of k es') e.items)
      events_now k f at = by (nat_eq entry.frame k) refl
        where
          by : (t : Bool) → nat_eq entry.frame k ≡ t → (let e = f.events in AreNamedAs frames globals (events_of k es') e.items)
          by true e =
              let r = more.each k f at in
              let m = r.more e in
              let old = (let b = r.before in b.events) in
              let now : events_of k es' ≡ events_of k es ++ entry.event ∷ [] = ap (λ l. events_of k l) is ∙ events_more k es entry ∙ ap (λ t. cond t (events_of k es ++ entry.event ∷ []) (events_of k es)) e in
              subst (λ l. let e = f.events in AreNamedAs frames globals l e.items) (sym now)
              (subst (λ l. AreNamedAs frames globals (events_of k es ++ entry.event ∷ []) l) (sym m.2) (named_more (events_of k es) old.items entry.event m.0 (h.events k r.before r.at) m.1))
          by false e =
              let r = more.each k f at in
              let now : events_of k es' ≡ events_of k es = ap (λ l. events_of k l) is ∙ events_more k es entry ∙ ap (λ t. cond t (events_of k es ++ entry.event ∷ []) (events_of k es)) e in
              subst (λ l. let e = f.events in AreNamedAs frames globals l e.items) (sym now) (subst (λ z. AreNamedAs frames globals (events_of k es) z.items) (sym (r.same e)) (h.events k r.before r.at))
