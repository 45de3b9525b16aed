-- In a serial run of a well-named program, cells exist, and reducers are created before they are
-- used.
use Rattle.std.proofs.Common.{◌≡◌, ◌⊎◌, inl, inr, ℕ, suc, ◌+◌, ◌<◌, ◌≤◌, ℤ, pos, ◌-ℤ◌, int_eq, Bool, true, false, IsTrue, if◌then◌else◌, List, [], ◌∷◌, ◌++◌, length, Option, Some, None, refl, sym, ap, ◌∙◌, subst, append-nil, arith}
use Rattle.cilk_types.specs.declared.event.Instance.{Instance}
use Rattle.cilk_types.specs.declared.event.Event.{Event}
use Rattle.cilk_types.specs.declared.event.Event.TheVariants as events
use Rattle.cilk_monoid.specs.declared.kind.MonoidKind.{MonoidKind}
use Rattle.cilk_program.specs.declared.ask.Ask.{Ask}
use Rattle.cilk_program.specs.declared.ask.Ask.TheVariants as asks
use Rattle.cilk_program.specs.declared.ask.Callee.{Callee}
use Rattle.cilk_program.specs.declared.ask.Callee.TheVariants as callees
use Rattle.cilk_types.specs.declared.invocation.Invocation.{Invocation}
use Rattle.cilk_types.specs.declared.invocation.Invocation.TheVariants.{Call, Spawn}
use Rattle.cilk_program.specs.declared.syntax.Place.{Place}
use Rattle.cilk_program.specs.declared.syntax.Place.TheVariants as places
use Rattle.cilk_program.specs.declared.syntax.Reducer.{Reducer}
use Rattle.cilk_program.specs.declared.syntax.ReducerPlace.{ReducerPlace}
use Rattle.cilk_program.specs.declared.syntax.ReducerPlace.TheVariants as reducers
use Rattle.cilk_program.specs.Syntax.{Source, function_at, main_of}
use Rattle.cilk_program.specs.Behaviour.{OpenAsk}
use Rattle.cilk_program.specs.Outcomes.{Conclusion}
use Rattle.cilk_program.specs.WellNamed.{is_well_named}
use Rattle.cilk_program.specs.Inside.{body_of, CalleeIsThere, AskIsThere}
use Rattle.cilk_program.specs.SerialRun.{Transcript, stop, Memory, Frame, reducer_at, event_of, invocation, result_written, IsInner, Ending, Serial, Made, Ended, Went, Broke, Refused, IsSerialRun}
use Rattle.cilk_program.specs.Order.{writings, creations, opening_asks, Stage, Fresh, Due, Going, Resuming, Synced, Closing, opened, IsOrderly}
use Rattle.cilk_program.specs.Created.{Among, Deed, Creates, Uses, Passes, deed_of, IsCreated, made_by, AreCreated, CellIsBelow, CellsAreBelow}
use Rattle.cilk_program.specs.Numbering.{Counts, counts_of, unbegun, entered, counts_after, frame_of}
use Rattle.cilk_program.specs.Visible.{CanInvoke}
use Rattle.cilk_program.proofs.Visible.{can_invoke}
use Rattle.cilk_program.proofs.Legal.{IsPlain}
use Rattle.cilk_program.proofs.Orderly.{runs_orderly}
use Rattle.cilk_program.proofs.Closings.{IsOpening, AreOpening, opening_asks_open, IsSound, opened_sound, View, Begins, Opens, Goes, Calls, Spawns, Syncs, Resumes, Again, Gives, Ends, EndsThen, view}
use Rattle.cilk_program.proofs.Asked.{asks_there}
use Rattle.cilk_program.proofs.Numbers.{serial_counts, frames_grow, cells_grow}
use Rattle.cilk_program.proofs.Sounds.{Stands, Covers, stands_more, stands_write, stands_create, child_stands, root_stands}

-- ---- lists of created reducers

abbrev pub created : List Event → List Instance → List Instance
created [] made = made
created (e ∷ es) made = created es (made_by (deed_of e) made)

deed_covers : (d : Deed) (made : List Instance) → Covers made (made_by d made)
deed_covers (Creates i) made j a = inr a
deed_covers (Uses i) made j a = a
deed_covers Passes made j a = a

pub created_covers : (es : List Event) (made : List Instance) → Covers made (created es made)
created_covers [] made i a = a
created_covers (e ∷ es) made i a = created_covers es (made_by (deed_of e) made) i (deed_covers (deed_of e) made i a)

created_both : (es es' : List Event) (made : List Instance) → AreCreated made es → AreCreated (created es made) es' → AreCreated made (es ++ es')
created_both [] es' made h g = g
created_both (e ∷ es) es' made h g = (h.0, created_both es es' (made_by (deed_of e) made) h.1 g)

created_append : (es es' : List Event) (made : List Instance) → created (es ++ es') made ≡ created es' (created es made)
created_append [] es' made = refl
created_append (e ∷ es) es' made = created_append es es' (made_by (deed_of e) made)

below_both : (n : ℕ) (es es' : List Event) → CellsAreBelow n es → CellsAreBelow n es' → CellsAreBelow n (es ++ es')
below_both n [] es' h g = g
below_both n (e ∷ es) es' h g = (h.0, below_both n es es' h.1 g)

starts_created : (how : Invocation) (n : ℕ) (es : List Event) (made : List Instance) → AreCreated made es → AreCreated made (invocation how n ∷ es)
starts_created Call n es made h = (tt, h)
starts_created Spawn n es made h = (tt, h)

starts_made : (how : Invocation) (n : ℕ) (es : List Event) (made : List Instance) → created (invocation how n ∷ es) made ≡ created es made
starts_made Call n es made = refl
starts_made Spawn n es made = refl

starts_below : (how : Invocation) (n top : ℕ) (es : List Event) → CellsAreBelow top es → CellsAreBelow top (invocation how n ∷ es)
starts_below Call n top es h = (tt, h)
starts_below Spawn n top es h = (tt, h)

-- ---- no reducer is created twice

-- the due creations are those of the frame's next reducers
abbrev DueFrom : Frame → ℕ → List Ask → Type 0
DueFrom fr next [] = Unit {0}
DueFrom fr next (asks.Create c ∷ due) = (reducer_at fr c ≡ record { frame = fr.number; place = next }) × DueFrom fr (suc next) due
DueFrom fr next (k ∷ due) = DueFrom fr next due

-- while creations are due, the frame's existing reducers have smaller places
abbrev Opening : Frame → List Instance → List Ask → Type 0
Opening fr made due = (next : ℕ) × DueFrom fr next due × ((i : Instance) → Among i made → i.frame ≡ fr.number → i.place < next)

-- nothing is due any more, or this holds
abbrev OpeningUnless : Frame → List Instance → List Ask → Type 0
OpeningUnless fr made [] = Unit {0}
OpeningUnless fr made (k ∷ due) = Opening fr made (k ∷ due)

opening_unless : (fr : Frame) (made : List Instance) (due : List Ask) → Opening fr made due → OpeningUnless fr made due
opening_unless fr made [] h = tt
opening_unless fr made (k ∷ due) h = h

-- all existing reducers belong to frames that have begun
abbrev pub Bounded : ℕ → List Instance → Type 0
Bounded n made = (i : Instance) → Among i made → i.frame ≤ n

due_from_writings : (fr : Frame) (next from : ℕ) (vs : List ℤ) (due : List Ask) → DueFrom fr next due → DueFrom fr next (writings from vs ++ due)
due_from_writings fr next from [] due h = h
due_from_writings fr next from (v ∷ vs) due h = due_from_writings fr next (suc from) vs due h

due_from_creations : (fr : Frame) (place : ℕ → ReducerPlace) (next from : ℕ) (ks : List MonoidKind) (due : List Ask)
    → ((i : ℕ) (k : MonoidKind) → reducer_at fr (record { place = place (from + i); kind = k }) ≡ record { frame = fr.number; place = next + i }) → DueFrom fr (next + length ks) due → DueFrom fr next (creations place from ks ++ due)
due_from_creations fr place next from [] due h g = let e : next + 0 ≡ next = omega arith in subst (λ n. DueFrom fr n due) e g
due_from_creations fr place next from (k ∷ ks) due h g =
    let e : from + 0 ≡ from = omega arith in
    let e' : next + 0 ≡ next = omega arith in
    let many : next + suc (length ks) ≡ suc next + length ks = omega arith in (
      subst (λ n. reducer_at fr (record { place = place from; kind = k }) ≡ record { frame = fr.number; place = n }) e' (subst (λ m. reducer_at fr (record { place = place m; kind = k }) ≡ record { frame = fr.number; place = next + 0 }) e (h 0 k)),
      due_from_creations fr place (suc next) (suc from) ks due (λ i k.
          let f : from + suc i ≡ suc from + i = omega arith in
          let f' : next + suc i ≡ suc next + i = omega arith in
          subst (λ n. reducer_at fr (record { place = place (suc from + i); kind = k }) ≡ record { frame = fr.number; place = n }) f' (subst (λ m. reducer_at fr (record { place = place m; kind = k }) ≡ record { frame = fr.number; place = next + suc i }) f (h (suc i) k)))
          (subst (λ n. DueFrom fr n due) many g),
    )

turn_due_from : (fr : Frame) (next : ℕ) (one : Bool) (x : Place) (v : ℤ) → DueFrom fr next (if one then asks.Write x v ∷ [] else [])
turn_due_from fr next true x v = tt
turn_due_from fr next false x v = tt

abbrev placed : ℕ → ℕ → Instance
placed number place = record { frame = number; place = place }

at_own : (number first i : ℕ) → 1 ≡ first → placed number (first + (0 + i)) ≡ placed number (1 + i)
at_own number first i e = let s : first + (0 + i) ≡ 1 + i = omega (arith, e) in ap (placed number) s

abbrev IsNoRoot : Callee → Type 0
IsNoRoot callees.Root = ⊥
IsNoRoot callee = Unit {0}

-- a child's reducers are new
child_due : (p : Source) (scope : _) (n : Counts) (callee : Callee) → IsNoRoot callee → DueFrom (frame_of p scope n callee) 1 (opening_asks p callee)
child_due p scope n callees.Root h = absurd h
child_due p scope n (callees.Function c) h =
    let f = function_at p c.function in
    let fr = frame_of p scope n (callees.Function c) in
    due_from_writings fr 1 0 c.words (creations (reducers.Own 0) 0 f.reducers)
    (subst (λ due. DueFrom fr 1 due) (append-nil (creations (reducers.Own 0) 0 f.reducers)) (due_from_creations fr (reducers.Own 0) 1 0 f.reducers [] (λ i k. at_own (suc n.frames) 1 i refl) tt))
child_due p scope n (callees.Loop l) h = turn_due_from (frame_of p scope n (callees.Loop l)) 1 (int_eq (l.high -ℤ l.low) (pos 1)) (places.Local 0 0) l.low

root_due : (p : Source) → DueFrom (frame_of p [] (unbegun p) callees.Root) 1 (opening_asks p callees.Root)
root_due p =
    let f = main_of p in
    let fr = frame_of p [] (unbegun p) callees.Root in
    due_from_creations fr reducers.Global 1 0 p.reducers (creations (reducers.Own 0) 0 f.reducers) (λ i k. let e : suc (0 + i) ≡ 1 + i = omega arith in ap (placed 1) e)
    (subst (λ due. DueFrom fr (1 + length p.reducers) due) (append-nil (creations (reducers.Own 0) 0 f.reducers))
    (due_from_creations fr (reducers.Own 0) (1 + length p.reducers) 0 f.reducers [] (λ i k.
    let e : suc (length p.reducers) + (0 + i) ≡ (1 + length p.reducers) + i = omega arith in ap (placed 1) e) tt))

-- ---- one event

abbrev due_of : Stage → List Ask
due_of (Fresh due) = due
due_of (Due first due) = first ∷ due
due_of (Going w) = []
due_of (Resuming w) = []
due_of Synced = []
due_of Closing = []

due_opened : (due : List Ask) → due_of (opened due) ≡ due
due_opened [] = refl
due_opened (k ∷ due) = refl

-- the invariant at a point of a run
record Here (p : Source) (fr : Frame) (n : Counts) (made : List Instance) (due : List Ask) : Type 0 where
  stands : Stands p fr n.cells made due
  opening : OpeningUnless fr made due
  bounded : Bounded n.frames made
  begun : fr.number ≤ n.frames

-- one event, and the frame's stage after it
record Steps (p : Source) (fr : Frame) (n : Counts) (made : List Instance) (e : Event) (G : Stage → Type 0) : Type 0 where
  to : Stage
  sound : IsSound to
  goes : G to
  is_created : IsCreated (deed_of e) made
  is_below : CellIsBelow n.cells e
  here : Here p fr n (made_by (deed_of e) made) (due_of to)

same_due : (p : Source) (fr : Frame) (n : Counts) (made : List Instance) (due : List Ask) → Here p fr n made due → Here p fr n made (due_of (opened due))
same_due p fr n made due h = subst (λ due. Here p fr n made due) (sym (due_opened due)) h

write_here : (p : Source) (fr : Frame) (n : Counts) (made : List Instance) (x : Place) (v : ℤ) (due : List Ask) → Here p fr n made (asks.Write x v ∷ due) → Here p fr n made due
write_here p fr n made x v due h = record { stands = stands_write p fr n.cells made x v due h.stands; opening = opening_unless fr made due h.opening; bounded = h.bounded; begun = h.begun }

among_more : (fr : Frame) (made : List Instance) (j : Instance) (next : ℕ) → j ≡ record { frame = fr.number; place = next } → ((i : Instance) → Among i made → i.frame ≡ fr.number → i.place < next)
    → (i : Instance) → Among i (j ∷ made) → i.frame ≡ fr.number → i.place < suc next
among_more fr made j next is less i (inl e) same = let q : j.place ≡ next = ap (λ (i : Instance). i.place) is in let r : j.place ≡ i.place = ap (λ (i : Instance). i.place) e in omega (arith, q, r)
among_more fr made j next is less i (inr a) same = let q = less i a same in omega (arith, q)

create_here : (p : Source) (fr : Frame) (n : Counts) (made : List Instance) (c : Reducer) (due : List Ask) → Here p fr n made (asks.Create c ∷ due) → Here p fr n (reducer_at fr c ∷ made) due
create_here p fr n made c due h =
    let o = h.opening in
    record {
      stands = stands_create p fr n.cells made c due h.stands;
      opening = opening_unless fr (reducer_at fr c ∷ made) due (suc o.0, o.1.1, among_more fr made (reducer_at fr c) o.0 o.1.0 o.2);
      bounded = λ i a. bound i a;
      begun = h.begun;
    }
  where
    bound : (i : Instance) → Among i (reducer_at fr c ∷ made) → i.frame ≤ n.frames
    bound i (inl e) =
        let q : (reducer_at fr c).frame ≡ fr.number = ap (λ (i : Instance). i.frame) h.opening.1.0 in
        let r : (reducer_at fr c).frame ≡ i.frame = ap (λ (i : Instance). i.frame) e in
        let b = h.begun in
        omega (arith, q, r, b)
    bound i (inr a) = h.bounded i a

is_new : (fr : Frame) (made : List Instance) (c : Reducer) (due : List Ask) → Opening fr made (asks.Create c ∷ due) → ¬ (Among (reducer_at fr c) made)
is_new fr made c due o a =
    let less = o.2 (reducer_at fr c) a (ap (λ (i : Instance). i.frame) o.1.0) in
    let q : (reducer_at fr c).place ≡ o.0 = ap (λ (i : Instance). i.place) o.1.0 in
    absurd (omega (arith, less, q))

settled : {X : Type 0} → X ⊎ ⊥ → X
settled (inl a) = a
settled (inr a) = absurd a

module _ (p : Source) (fr : Frame) (m : Memory) (made : List Instance) (G : Stage → Type 0) where
  -- an event that concerns no reducer and no cell
  passes : (due : List Ask) (to : Stage) (e : Event) → deed_of e ≡ Passes → CellIsBelow m.cells e → due_of to ≡ due → IsSound to → G to → Here p fr (counts_of m) made due → Steps p fr (counts_of m) made e G
  passes due to e none below same sound goes h = record {
    to = to;
    sound = sound;
    goes = goes;
    is_created = subst (λ d. IsCreated d made) (sym none) tt;
    is_below = below;
    here = subst (λ due. Here p fr (counts_of m) (made_by (deed_of e) made) due) (sym same) (subst (λ d. Here p fr (counts_of m) (made_by d made) due) (sym none) h);
  }

  opens : (k : Ask) (due : List Ask) → IsOpening k → AreOpening due → AskIsThere p fr.callee k → G (opened due) → Here p fr (counts_of m) made (k ∷ due) → Steps p fr (counts_of m) made (event_of fr m k) G
  opens (asks.Write x v) due opening sound there goes h =
      passes due (opened due) (event_of fr m (asks.Write x v)) refl ((h.stands.sees.own there.0).cells x there.1) (due_opened due) (opened_sound due sound) goes (write_here p fr (counts_of m) made x v due h)
  opens (asks.Create c) due opening sound there goes h = record {
    to = opened due;
    sound = opened_sound due sound;
    goes = goes;
    is_created = is_new fr made c due h.opening;
    is_below = tt;
    here = same_due p fr (counts_of m) (reducer_at fr c ∷ made) due (create_here p fr (counts_of m) made c due h);
  }
  opens asks.Begin due opening sound there goes h = absurd opening
  opens (asks.Read x) due opening sound there goes h = absurd opening
  opens (asks.Update c v) due opening sound there goes h = absurd opening
  opens (asks.Set c v) due opening sound there goes h = absurd opening
  opens (asks.Value c) due opening sound there goes h = absurd opening
  opens (asks.Print v) due opening sound there goes h = absurd opening
  opens (asks.Invoke how callee) due opening sound there goes h = absurd opening
  opens asks.Resume due opening sound there goes h = absurd opening
  opens asks.Sync due opening sound there goes h = absurd opening
  opens (asks.Result v) due opening sound there goes h = absurd opening
  opens (asks.End v) due opening sound there goes h = absurd opening
  opens (asks.Fault f) due opening sound there goes h = absurd opening

  -- a reducer is used
  uses : (c : Reducer) (w : Bool) (e : Event) → deed_of e ≡ Uses (reducer_at fr c) → CellIsBelow m.cells e → Among (reducer_at fr c) made → G (Going w) → Here p fr (counts_of m) made [] → Steps p fr (counts_of m) made e G
  uses c w e one below a goes h = record {
    to = Going w;
    sound = tt;
    goes = goes;
    is_created = subst (λ d. IsCreated d made) (sym one) a;
    is_below = below;
    here = subst (λ d. Here p fr (counts_of m) (made_by d made) []) (sym one) h;
  }

  plainly : (k : Ask) (w : Bool) → IsPlain k → AskIsThere p fr.callee k → G (Going w) → Here p fr (counts_of m) made [] → Steps p fr (counts_of m) made (event_of fr m k) G
  plainly (asks.Read x) w plain there goes h = passes [] (Going w) (event_of fr m (asks.Read x)) refl ((h.stands.sees.own there.0).cells x there.1) refl tt goes h
  plainly (asks.Write x v) w plain there goes h = passes [] (Going w) (event_of fr m (asks.Write x v)) refl ((h.stands.sees.own there.0).cells x there.1) refl tt goes h
  plainly (asks.Update c v) w plain there goes h = uses c w (event_of fr m (asks.Update c v)) refl tt (settled ((h.stands.sees.own there.0).reducers c.place c.kind there.1)) goes h
  plainly (asks.Set c v) w plain there goes h = uses c w (event_of fr m (asks.Set c v)) refl tt (settled ((h.stands.sees.own there.0).reducers c.place c.kind there.1)) goes h
  plainly (asks.Value c) w plain there goes h = uses c w (event_of fr m (asks.Value c)) refl tt (settled ((h.stands.sees.own there.0).reducers c.place c.kind there.1)) goes h
  plainly (asks.Print v) w plain there goes h = passes [] (Going w) (event_of fr m (asks.Print v)) refl tt refl tt goes h
  plainly asks.Begin w plain there goes h = absurd plain
  plainly (asks.Create c) w plain there goes h = absurd plain
  plainly (asks.Invoke how callee) w plain there goes h = absurd plain
  plainly asks.Resume w plain there goes h = absurd plain
  plainly asks.Sync w plain there goes h = absurd plain
  plainly (asks.Result v) w plain there goes h = absurd plain
  plainly (asks.End v) w plain there goes h = absurd plain
  plainly (asks.Fault f) w plain there goes h = absurd plain

  result_passes : (o : Option ℕ) (v : ℤ) → deed_of (result_written o v) ≡ Passes
  result_passes None v = refl
  result_passes (Some c) v = refl

  result_below : (o : Option ℕ) (v : ℤ) (n : ℕ) → (c : ℕ) × (o ≡ Some c) × (c < n) → CellIsBelow n (result_written o v)
  result_below o v n (c, e, less) = subst (λ o. CellIsBelow n (result_written o v)) (sym e) less

  steps : (s : Stage) (k : Ask) → IsSound s → IsInner k → AskIsThere p fr.callee k → View G s k → Here p fr (counts_of m) made (due_of s) → Steps p fr (counts_of m) made (event_of fr m k) G
  steps (Fresh due) k sound inner there (Begins goes) h = passes due (opened due) (event_of fr m asks.Begin) refl tt (due_opened due) (opened_sound due sound) goes h
  steps (Due k due) k' sound inner there (Opens goes) h = opens k due sound.0 sound.1 there goes h
  steps (Going w) k sound inner there (Goes plain goes) h = plainly k w plain there goes h
  steps (Going w) k sound inner there (Calls goes) h = absurd inner
  steps (Going w) k sound inner there (Spawns goes) h = absurd inner
  steps (Going w) k sound inner there (Syncs goes) h = passes [] Synced (event_of fr m asks.Sync) refl tt refl tt goes h
  steps (Resuming w) k sound inner there (Resumes goes) h = passes [] (Going w) (event_of fr m asks.Resume) refl tt refl tt goes h
  steps Synced k sound inner there (Again goes) h = steps (Going false) k tt inner there goes h
  steps Synced k sound inner there (Gives {v = v} goes) h = passes [] Closing (event_of fr m (asks.Result v)) (result_passes fr.result v) (result_below fr.result v m.cells (h.stands.sees.result there)) refl tt goes h
  steps Synced k sound inner there Ends h = absurd inner
  steps Closing k sound inner there EndsThen h = absurd inner

-- at a child nothing is due, and the frame continues with a resume
child_next : (p : Source) (r : Transcript) (s : Stage) (how : Invocation) (callee : Callee) → IsSound s → View (λ s'. IsOrderly p s' r) s (asks.Invoke how callee) → (due_of s ≡ []) × ((w : Bool) × IsOrderly p (Resuming w) r)
child_next p r (Fresh due) how callee sound h = elim h [ ]
child_next p r (Due k due) how callee sound (Opens goes) = absurd sound.0
child_next p r (Going w) how callee sound (Goes plain goes) = absurd plain
child_next p r (Going w) how callee sound (Calls goes) = (refl, (w, goes))
child_next p r (Going w) how callee sound (Spawns goes) = (refl, (true, goes))
child_next p r (Resuming w) how callee sound h = elim h [ ]
child_next p r Synced how callee sound (Again goes) = child_next p r (Going false) how callee tt goes
child_next p r Closing how callee sound h = elim h [ ]

-- the effect of a run on reducers
record Leaves (p : Source) (top : ℕ) (made : List Instance) (es : List Event) (n : Counts) : Type 0 where
  are_created : AreCreated made es
  are_below : CellsAreBelow top es
  bounded : Bounded n.frames (created es made)

-- the first event, and the rest
act_leaves : (p : Source) (top : ℕ) (made : List Instance) (e : Event) (es : List Event) (n : Counts) → IsCreated (deed_of e) made → CellIsBelow top e → Leaves p top (made_by (deed_of e) made) es n → Leaves p top made (e ∷ es) n
act_leaves p top made e es n one below h = record { are_created = (one, h.are_created); are_below = (below, h.are_below); bounded = h.bounded }

cell_higher : (n top : ℕ) (e : Event) → n ≤ top → CellIsBelow n e → CellIsBelow top e
cell_higher n top e low h = higher e h
  where
    higher : (e : Event) → CellIsBelow n e → CellIsBelow top e
    higher (events.Read c v) h = omega (arith, low, h)
    higher (events.Write c v) h = omega (arith, low, h)
    higher (events.Begin f) h = tt
    higher (events.Spawn f) h = tt
    higher (events.Call f) h = tt
    higher (events.Resume f) h = tt
    higher events.Sync h = tt
    higher events.End h = tt
    higher (events.Create i) h = tt
    higher (events.Update i v) h = tt
    higher (events.Set i v) h = tt
    higher (events.Value i v) h = tt
    higher (events.Print v) h = tt

-- a child, and the rest
child_leaves : (p : Source) (top : ℕ) (made : List Instance) (how : Invocation) (number : ℕ) (es es' : List Event) (n n' : Counts) → Leaves p top made es n → Leaves p top (created es made) es' n' → Leaves p top made (invocation how number ∷ (es ++ es')) n'
child_leaves p top made how number es es' n n' h g = record {
  are_created = starts_created how number (es ++ es') made (created_both es es' made h.are_created g.are_created);
  are_below = starts_below how number top (es ++ es') (below_both top es es' h.are_below g.are_below);
  bounded = subst (Bounded n'.frames) (sym (starts_made how number (es ++ es') made ∙ created_append es es' made)) g.bounded;
}

broken_leaves : (p : Source) (top : ℕ) (made : List Instance) (how : Invocation) (number : ℕ) (es : List Event) (n : Counts) → Leaves p top made es n → Leaves p top made (invocation how number ∷ es) n
broken_leaves p top made how number es n h = record {
  are_created = starts_created how number es made h.are_created;
  are_below = starts_below how number top es h.are_below;
  bounded = subst (Bounded n.frames) (sym (starts_made how number es made)) h.bounded;
}

-- a child begins here
child_here : (p : Source) → IsTrue (is_well_named p) → (fr : Frame) (n : Counts) (made : List Instance) (callee : Callee) → CalleeIsThere p (body_of p fr.callee) callee → CanInvoke fr.callee callee → Here p fr n made []
    → Here p (frame_of p fr.scope n callee) (entered p callee n) made (opening_asks p callee)
child_here p well fr n made callee there can h = record {
  stands = child_stands p well fr n made h.stands callee there can;
  opening = opening_unless (frame_of p fr.scope n callee) made (opening_asks p callee) (1, child_due p fr.scope n callee (no_root callee there), λ i a same. let b = h.bounded i a in absurd (omega (arith, b, same)));
  bounded = λ i a. let b = h.bounded i a in omega (arith, b);
  begun = omega arith;
}
  where
    no_root : (callee : Callee) → CalleeIsThere p (body_of p fr.callee) callee → IsNoRoot callee
    no_root callees.Root there = there
    no_root (callees.Function c) there = tt
    no_root (callees.Loop l) there = tt

-- the frame after a child
past_here : (p : Source) (fr : Frame) (n n' : Counts) (made made' : List Instance) → n.frames ≤ n'.frames → n.cells ≤ n'.cells → Covers made made' → Bounded n'.frames made' → Here p fr n made [] → Here p fr n' made' []
past_here p fr n n' made made' frames cells covers bounded h = record {
  stands = stands_more p fr n.cells n'.cells made made' [] cells covers h.stands;
  opening = tt;
  bounded = bounded;
  begun = let b = h.begun in omega (arith, b, frames);
}

serial_leaves : {p : Source} {inputs : List ℤ} {fr : Frame} {start : ℕ} {history : List ℤ} {m : Memory} {r : Transcript} {es : List Event} {end : Ending} → Serial p inputs fr start history m r es end
    → IsTrue (is_well_named p) → (top : ℕ) → (counts_after p r (counts_of m)).cells ≤ top → (s : Stage) → IsSound s → IsOrderly p s r → (made : List Instance) → Here p fr (counts_of m) made (due_of s)
    → Leaves p top made es (counts_after p r (counts_of m))
serial_leaves {p = p} {inputs = inputs} (Made {fr = fr} {start = start} {history = history} {m = m} {r = r} {es = es} k left q inner ok rest) well top low s sound orderly made h =
    let there = subst (λ (q : OpenAsk). AskIsThere p fr.callee q.ask) q (asks_there p well fr.callee h.stands.sees.fit inputs history start) in
    let step = steps p fr m made (λ s'. IsOrderly p s' r) s k sound inner there (view s k (λ s'. IsOrderly p s' r) orderly.0) h in
    let grows = cells_grow p r (counts_of m) in
    act_leaves p top made (event_of fr m k) es (counts_after p r (counts_of m)) step.is_created (cell_higher m.cells top (event_of fr m k) (omega (arith, grows, low)) step.is_below)
    (serial_leaves rest well top low step.to step.sound step.goes (made_by (deed_of (event_of fr m k)) made) step.here)
serial_leaves {p = p} (Ended {fr = fr} {m = m} v left q ok) well top low s sound orderly made h = record { are_created = (tt, tt); are_below = (tt, tt); bounded = h.bounded }
serial_leaves {p = p} {inputs = inputs} (Went {fr = fr} {start = start} {history = history} {m = m} {u = u} {r = r} {es = es} {es' = es'} how callee left v left' m' q ok inner rest) well top low s sound orderly made h =
    let there = subst (λ (q : OpenAsk). AskIsThere p fr.callee q.ask) q (asks_there p well fr.callee h.stands.sees.fit inputs history start) in
    let next = child_next p r s how callee sound (view s (asks.Invoke how callee) (λ s'. IsOrderly p s' r) orderly.1) in
    let here = subst (λ due. Here p fr (counts_of m) made due) next.0 h in
    let n = entered p callee (counts_of m) in
    let after : counts_of m' ≡ counts_after p u n = serial_counts inner in
    let grows = cells_grow p r (counts_after p u n) in
    let one = serial_leaves inner well top (omega (arith, grows, low)) (Fresh (opening_asks p callee)) (opening_asks_open p callee) orderly.0 made
    (child_here p well fr (counts_of m) made callee there (can_invoke p inputs fr.callee history start left how callee q) here) in
    let frames = frames_grow p u n in
    let cells = cells_grow p u n in
    let past = past_here p fr (counts_of m) (counts_after p u n) made (created es made) (omega (arith, frames)) (omega (arith, cells)) (created_covers es made) one.bounded here in
    child_leaves p top made how (suc m.frames) es es' (counts_after p u n) (counts_after p r (counts_after p u n)) one
    (subst (λ n. Leaves p top (created es made) es' (counts_after p r n)) after
    (serial_leaves rest well top (subst (λ n. (counts_after p r n).cells ≤ top) (sym after) low) (Resuming next.1.0) tt next.1.1 (created es made) (subst (λ n. Here p fr n (created es made) []) (sym after) past)))
serial_leaves {p = p} {inputs = inputs} (Broke {fr = fr} {start = start} {history = history} {m = m} {u = u} {es = es} how callee left f q ok inner) well top low s sound orderly made h =
    let there = subst (λ (q : OpenAsk). AskIsThere p fr.callee q.ask) q (asks_there p well fr.callee h.stands.sees.fit inputs history start) in
    let next = child_next p stop s how callee sound (view s (asks.Invoke how callee) (λ s'. IsOrderly p s' stop) orderly.1) in
    let here = subst (λ due. Here p fr (counts_of m) made due) next.0 h in
    broken_leaves p top made how (suc m.frames) es (counts_after p u (entered p callee (counts_of m)))
    (serial_leaves inner well top low (Fresh (opening_asks p callee)) (opening_asks_open p callee) orderly.0 made
    (child_here p well fr (counts_of m) made callee there (can_invoke p inputs fr.callee history start left how callee q) here))
serial_leaves {p = p} (Refused {m = m} k left f q bad) well top low s sound orderly made h = record { are_created = tt; are_below = tt; bounded = h.bounded }

root_here : (p : Source) → IsTrue (is_well_named p) → Here p (frame_of p [] (unbegun p) callees.Root) (entered p callees.Root (unbegun p)) [] (opening_asks p callees.Root)
root_here p well = record {
  stands = root_stands p well;
  opening = opening_unless (frame_of p [] (unbegun p) callees.Root) [] (opening_asks p callees.Root) (1, root_due p, λ i a same. absurd a);
  bounded = λ i a. absurd a;
  begun = omega arith;
}

run_leaves : (p : Source) → IsTrue (is_well_named p) → (inputs : List ℤ) (r : Transcript) (es : List Event) (c : Conclusion) → IsSerialRun p inputs r es c
    → Leaves p (counts_after p r (entered p callees.Root (unbegun p))).cells [] es (counts_after p r (entered p callees.Root (unbegun p)))
run_leaves p well inputs r es c (end, d, e) =
    serial_leaves d well (counts_after p r (entered p callees.Root (unbegun p))).cells (omega arith) (Fresh (opening_asks p callees.Root)) (opening_asks_open p callees.Root) (runs_orderly p inputs r es c (end, d, e)) [] (root_here p well)

pub runs_create : (p : Source) → IsTrue (is_well_named p) → (inputs : List ℤ) (r : Transcript) (es : List Event) (c : Conclusion) → IsSerialRun p inputs r es c → AreCreated [] es
runs_create p well inputs r es c d = (run_leaves p well inputs r es c d).are_created

pub runs_inside : (p : Source) → IsTrue (is_well_named p) → (inputs : List ℤ) (r : Transcript) (es : List Event) (c : Conclusion) → IsSerialRun p inputs r es c → CellsAreBelow (counts_after p r (entered p callees.Root (unbegun p))).cells es
runs_inside p well inputs r es c d = (run_leaves p well inputs r es c d).are_below
