-- The layout and the events of a nested run are those of its shape: layouts_agree, events_spell.
use Rattle.std.proofs.Common.{◌≡◌, ℕ, suc, ◌+◌, ℤ, List, [], ◌∷◌, ◌++◌, length, map, Option, Some, None, refl, sym, ◌∙◌, ap, subst, arith}
use Rattle.std.proofs.lemmas.List.{length-append, map-append}
use Rattle.cilk_types.specs.declared.event.Event as numbers
use Rattle.cilk_types.specs.declared.event.Instance as numbered
use Rattle.cilk_types.specs.declared.invocation.Invocation.{Invocation}
use Rattle.cilk_types.specs.declared.invocation.Invocation.TheVariants.{Call, Spawn}
use Rattle.cilk_determinacy.specs.Runs.{Cell, Instance, Reads, Writes, Syncs, Ends, Passes, Begins, Resumes, Creates, Updates, Sets, Values, Prints, Deed, Does, Invokes, Run, stop, act, child}
use Rattle.cilk_determinacy.proofs.Layouts as nested
use Rattle.cilk_tree.specs.Shape as shapes
use Rattle.cilk_tree.specs.declared.mark.Mark as marks
use Rattle.cilk_tree.specs.declared.mark.Mark.TheVariants as mark
use Rattle.cilk_tree.specs.Marks.{mark_of}
use Rattle.cilk_tree.specs.Tree.{Tree, strand, series, parallel, then_later, beside, Rest, block, blocks, rest_of, tree}
use Rattle.cilk_determinacy.specs.Traces.{trace, shape_of, Due, begin_due, resume_due, neither_due, IsFramed, IsWritten, AreWritten, EventsSpell}

-- ---- trees

-- a layout as a tree with the numbers of events
abbrev pub counted : {W : Type 0} → nested.Layout W → Tree
counted (nested.Strand s) = strand (length s)
counted (nested.Series a b) = series (counted a) (counted b)
counted (nested.Beside a b) = parallel (counted a) (counted b)

abbrev counted_later : {W : Type 0} → Option (nested.Layout W) → Option Tree
counted_later None = None
counted_later (Some t) = Some (counted t)

-- a block whose strand has n events before the rest of it
abbrev after_events : ℕ → Rest → Tree
after_events n x = then_later (strand (n + x.events)) x.after

record Agrees {W : Type 0} (r : Run W) (s : List (Deed W)) (x : Rest) : Type 0 where
  open_block : counted (nested.layouts r s).0 ≡ after_events (length s) x
  later : counted_later (nested.layouts r s).1 ≡ x.later

counted-in_series : {W : Type 0} (t : nested.Layout W) (l : Option (nested.Layout W)) (a : Tree) (m : Option Tree) → counted t ≡ a → counted_later l ≡ m → counted (nested.in_order t l) ≡ then_later a m
counted-in_series t None a m e f = e ∙ ap (then_later a) f
counted-in_series t (Some l) a m e f = ap (λ (x : Tree). series x (counted l)) e ∙ ap (then_later a) f

counted-child : {W : Type 0} (k : Invocation) (t u : nested.Layout W) (a b : Tree) → counted t ≡ a → counted u ≡ b → counted (nested.child_layout k t u) ≡ beside k a b
counted-child Call t u a b e f = ap (λ (x : Tree). series x (counted u)) e ∙ ap (series a) f
counted-child Spawn t u a b e f = ap (λ (x : Tree). parallel x (counted u)) e ∙ ap (parallel a) f

-- one event more at the strand's end
one_more : {W : Type 0} (s : List (Deed W)) (d : Deed W) (x : Rest) → after_events (length (s ++ d ∷ [])) x ≡ after_events (length s) (record { events = suc x.events; after = x.after; later = x.later })
one_more s d x =
    let n = length-append s (d ∷ []) in
    let z : length (s ++ d ∷ []) + x.events ≡ length s + suc x.events = omega (arith, n) in
    ap (λ (k : ℕ). then_later (strand k) x.after) z

-- a strand that begins with one event
one_first : (x : Rest) → after_events 1 x ≡ block x
one_first x = let z : 1 + x.events ≡ suc x.events = omega arith in ap (λ (k : ℕ). then_later (strand k) x.after) z

longer : {W : Type 0} (r : Run W) (s : List (Deed W)) (d : Deed W) (x : Rest) → Agrees r (s ++ d ∷ []) x → (counted (nested.layouts r (s ++ d ∷ [])).0 ≡ after_events (length s) (record { events = suc x.events; after = x.after; later = x.later }))
longer r s d x h = h.open_block ∙ one_more s d x

-- all blocks of a frame, from its first event on
from_first : {W : Type 0} (r : Run W) (d : Deed W) (x : Rest) → Agrees r (d ∷ []) x → counted (nested.in_order (nested.layouts r (d ∷ [])).0 (nested.layouts r (d ∷ [])).1) ≡ blocks x
from_first r d x h = counted-in_series _ _ (block x) x.later (h.open_block ∙ one_first x) h.later

agrees_end : {W : Type 0} (s : List (Deed W)) (v : ℤ) (gone : List Instance) (r : Run W) → r ≡ stop → Agrees (act (Ends v gone) r) s (rest_of shapes.finish)
agrees_end {W} s v gone r e =
    subst (λ (x : Run W). Agrees (act (Ends v gone) x) s (rest_of shapes.finish)) (sym e)
    (record {
      open_block = let n = length-append s (Does (Ends v gone) ∷ []) in let z : length (s ++ Does (Ends v gone) ∷ []) ≡ length s + 1 = omega (arith, n) in ap strand z;
      later = refl;
    })

agrees : {W : Type 0} (r : Run W) (s : List (Deed W)) → IsFramed neither_due r → Agrees r s (rest_of (shape_of r))
agrees stop s h = absurd h
agrees (act (Reads c v) r) s h = let i = agrees r (s ++ Does (Reads c v) ∷ []) h in record { open_block = longer r s _ _ i; later = i.later }
agrees (act (Writes c v) r) s h = let i = agrees r (s ++ Does (Writes c v) ∷ []) h in record { open_block = longer r s _ _ i; later = i.later }
agrees (act Syncs r) s h =
    let i = agrees r (Does Syncs ∷ []) h in
    let z : length s ≡ length s + 0 = omega arith in
    record { open_block = ap strand z; later = ap Some (from_first r (Does Syncs) _ i) }
agrees (act (Ends v gone) r) s h = agrees_end s v gone r h
agrees (act (Passes Begins) r) s h = absurd h
agrees (act (Passes Resumes) r) s h = absurd h
agrees (act (Passes (Creates j)) r) s h = let i = agrees r (s ++ Does (Passes (Creates j)) ∷ []) h in record { open_block = longer r s _ _ i; later = i.later }
agrees (act (Passes (Updates j x)) r) s h = let i = agrees r (s ++ Does (Passes (Updates j x)) ∷ []) h in record { open_block = longer r s _ _ i; later = i.later }
agrees (act (Passes (Sets j x)) r) s h = let i = agrees r (s ++ Does (Passes (Sets j x)) ∷ []) h in record { open_block = longer r s _ _ i; later = i.later }
agrees (act (Passes (Values j n)) r) s h = let i = agrees r (s ++ Does (Passes (Values j n)) ∷ []) h in record { open_block = longer r s _ _ i; later = i.later }
agrees (act (Passes (Prints x)) r) s h = let i = agrees r (s ++ Does (Passes (Prints x)) ∷ []) h in record { open_block = longer r s _ _ i; later = i.later }
agrees (child k w (act (Passes Begins) u) (act (Passes Resumes) r)) s (h, g) =
    let i = agrees u (Does (Passes Begins) ∷ []) h in
    let j = agrees r (Does (Passes Resumes) ∷ []) g in
    let n = length-append s (Invokes k w ∷ []) in
    let z : length (s ++ Invokes k w ∷ []) ≡ length s + 1 = omega (arith, n) in
    let c = counted-child k _ _ _ _ (from_first u (Does (Passes Begins)) _ i) (j.open_block ∙ one_first (rest_of (shape_of r))) in
    record {
      open_block = ap (λ (m : ℕ). series (strand m) (counted (nested.child_layout k (nested.layout (act (Passes Begins) u)) (nested.layouts r (Does (Passes Resumes) ∷ [])).0))) z ∙ ap (series (strand (length s + 1))) c;
      later = j.later;
    }
agrees (child k w (act (Passes Begins) u) r) s (h, g) = absurd g
agrees (child k w u r) s (h, g) = absurd h

pub layouts_agree : (W : Type 0) (t : Run W) → IsFramed begin_due t → counted (nested.layout t) ≡ tree (shape_of t)
layouts_agree W stop h = absurd h
layouts_agree W (act (Passes Begins) r) h = from_first r (Does (Passes Begins)) _ (agrees r (Does (Passes Begins) ∷ []) h)
layouts_agree W (act (Passes _) r) h = absurd h
layouts_agree W (act _ r) h = absurd h
layouts_agree W (child k w u r) h = absurd h

-- ---- events
written_kind : {W : Type 0} (cell : Cell → ℕ) (instance : Instance → numbered.Instance) (k : Invocation) (w : W) (e : numbers.Event) → IsWritten cell instance (Invokes k w) e → mark_of e ≡ shapes.start_of k
written_kind cell instance Call w e h = ap mark_of h.1
written_kind cell instance Spawn w e h = ap mark_of h.1

-- what a frame's events are that has this before its shape
abbrev pub ahead : Due → List marks.Mark
ahead begin_due = mark.Begin ∷ []
ahead resume_due = mark.Resume ∷ []
ahead neither_due = []

nothing_written : {W : Type 0} (cell : Cell → ℕ) (instance : Instance → numbered.Instance) (es : List numbers.Event) (ds : List (Deed W)) → ds ≡ [] → AreWritten cell instance ds es → es ≡ []
nothing_written {W} cell instance [] ds e h = refl
nothing_written {W} cell instance (e ∷ es) ds z h = absurd (subst (λ (l : List (Deed W)). AreWritten cell instance l (e ∷ es)) z h)

module _ {W : Type 0} (cell : Cell → ℕ) (instance : Instance → numbered.Instance) where
  written_append : (a b : List (Deed W)) (es : List numbers.Event) → AreWritten cell instance (a ++ b) es
      → (xs : List numbers.Event) × (ys : List numbers.Event) × (es ≡ xs ++ ys) × AreWritten cell instance a xs × AreWritten cell instance b ys
  written_append [] b es h = ([], es, refl, tt, h)
  written_append (d ∷ a) b [] h = absurd h
  written_append (d ∷ a) b (e ∷ es) h =
      let k = written_append a b es h.1 in
      (e ∷ k.0, k.1, ap (λ (l : List numbers.Event). e ∷ l) k.2, (h.0, k.3), k.4)

  one_event : (d : Deed W) (ds : List (Deed W)) (es : List numbers.Event) (m : marks.Mark) (ms : List marks.Mark)
      → ((e : numbers.Event) → IsWritten cell instance d e → mark_of e ≡ m) → ((xs : List numbers.Event) → AreWritten cell instance ds xs → map mark_of xs ≡ ms)
      → AreWritten cell instance (d ∷ ds) es → map mark_of es ≡ m ∷ ms
  one_event d ds [] m ms f g h = absurd h
  one_event d ds (e ∷ es) m ms f g h = ap (λ (x : marks.Mark). x ∷ map mark_of es) (f e h.0) ∙ ap (λ (l : List marks.Mark). m ∷ l) (g es h.1)

  spells : (due : Due) (r : Run W) (es : List numbers.Event) → IsFramed due r → AreWritten cell instance (trace r) es → map mark_of es ≡ ahead due ++ shapes.marks (shape_of r)
  spells begin_due (act (Passes Begins) r) es h w = one_event (Does (Passes Begins)) (trace r) es mark.Begin _ (λ e x. ap mark_of x.1) (λ xs g. spells neither_due r xs h g) w
  spells resume_due (act (Passes Resumes) r) es h w = one_event (Does (Passes Resumes)) (trace r) es mark.Resume _ (λ e x. ap mark_of x.1) (λ xs g. spells neither_due r xs h g) w
  spells neither_due (act (Reads c v) r) es h w = one_event (Does (Reads c v)) (trace r) es mark.Plain _ (λ e x. ap mark_of x) (λ xs g. spells neither_due r xs h g) w
  spells neither_due (act (Writes c v) r) es h w = one_event (Does (Writes c v)) (trace r) es mark.Plain _ (λ e x. ap mark_of x) (λ xs g. spells neither_due r xs h g) w
  spells neither_due (act Syncs r) es h w = one_event (Does Syncs) (trace r) es mark.Sync _ (λ e x. ap mark_of x) (λ xs g. spells neither_due r xs h g) w
  spells neither_due (act (Ends v gone) r) es h w =
      one_event (Does (Ends v gone)) (trace r) es mark.End [] (λ e x. ap mark_of x)
      (λ xs g. ap (map mark_of) (nothing_written cell instance xs (trace r) (ap trace h) g)) w
  spells neither_due (act (Passes (Creates i)) r) es h w = one_event (Does (Passes (Creates i))) (trace r) es mark.Plain _ (λ e x. ap mark_of x) (λ xs g. spells neither_due r xs h g) w
  spells neither_due (act (Passes (Updates i y)) r) es h w = one_event (Does (Passes (Updates i y))) (trace r) es mark.Plain _ (λ e x. ap mark_of x) (λ xs g. spells neither_due r xs h g) w
  spells neither_due (act (Passes (Sets i y)) r) es h w = one_event (Does (Passes (Sets i y))) (trace r) es mark.Plain _ (λ e x. ap mark_of x) (λ xs g. spells neither_due r xs h g) w
  spells neither_due (act (Passes (Values i y)) r) es h w = one_event (Does (Passes (Values i y))) (trace r) es mark.Plain _ (λ e x. ap mark_of x) (λ xs g. spells neither_due r xs h g) w
  spells neither_due (act (Passes (Prints y)) r) es h w = one_event (Does (Passes (Prints y))) (trace r) es mark.Plain _ (λ e x. ap mark_of x) (λ xs g. spells neither_due r xs h g) w
  spells neither_due (child k v u r) es h w =
      one_event (Invokes k v) (trace u ++ trace r) es (shapes.start_of k) _ (λ e x. written_kind cell instance k v e x)
      (λ xs g.
      let p = written_append (trace u) (trace r) xs g in
      ap (map mark_of) p.2 ∙ (map-append mark_of p.0 p.1
      ∙ (ap (λ (l : List marks.Mark). l ++ map mark_of p.1) (spells begin_due u p.0 h.0 p.3)
      ∙ ap (λ (l : List marks.Mark). mark.Begin ∷ (shapes.marks (shape_of u) ++ l)) (spells resume_due r p.1 h.1 p.4))))
      w
  spells _ _ es h w = absurd h

pub events_spell : (W : Type 0) → EventsSpell W
events_spell W cell instance t es h w = spells cell instance begin_due t es h w
