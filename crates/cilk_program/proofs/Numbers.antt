-- The events of a serial run are the numbered events of its first frame's run, and numbers
-- distinguish frames.
use Rattle.std.proofs.Common.{◌≡◌, ◌⊎◌, inl, inr, ℕ, zero, suc, ◌+◌, ◌<◌, ◌≤◌, ℤ, List, [], ◌∷◌, ◌++◌, length, Option, Some, None, refl, sym, ap, ap₂, ◌∙◌, subst, append-nil, arith}
use Rattle.cilk_types.specs.declared.event.Event.{Event}
use Rattle.cilk_program.specs.declared.ask.Ask.{Ask}
use Rattle.cilk_program.specs.declared.ask.Ask.TheVariants as asks
use Rattle.cilk_program.specs.declared.ask.Callee.{Callee}
use Rattle.cilk_program.specs.declared.ask.Callee.TheVariants as callees
use Rattle.cilk_types.specs.declared.invocation.Invocation.{Invocation}
use Rattle.cilk_program.specs.Syntax.{Source}
use Rattle.cilk_program.specs.Outcomes.{Conclusion}
use Rattle.cilk_program.specs.SerialRun.{Transcript, stop, act, child, Memory, Frame, answer_to, event_of, invocation, Ending, Finished, Stopped, Serial, Made, Ended, Went, Broke, Refused, IsSerialRun}
use Rattle.cilk_program.specs.Numbering.{Counts, counts_of, unbegun, entered, counts_after, numbered, events_of, events_of_root, Block, block_of, child_at, Apart, HasOneName, LiesPastGlobals}

event_is : (fr : Frame) (m : Memory) (k : Ask) → event_of fr m k ≡ numbered fr m.frames k (answer_to fr m k)
event_is fr m asks.Begin = refl
event_is fr m (asks.Read x) = refl
event_is fr m (asks.Write x v) = refl
event_is fr m (asks.Create r) = refl
event_is fr m (asks.Update r v) = refl
event_is fr m (asks.Set r v) = refl
event_is fr m (asks.Value r) = refl
event_is fr m (asks.Print v) = refl
event_is fr m (asks.Invoke how callee) = refl
event_is fr m asks.Resume = refl
event_is fr m asks.Sync = refl
event_is fr m (asks.Result v) = refl
event_is fr m (asks.End v) = refl
event_is fr m (asks.Fault f) = refl

-- the frames that have begun by the end
abbrev pub CountsEnd : Source → Transcript → Counts → Ending → Type 0
CountsEnd p r n (Finished v left m) = counts_of m ≡ counts_after p r n
CountsEnd p r n (Stopped f) = Unit {0}

pub serial_counts : {p : Source} {inputs : List ℤ} {fr : Frame} {start : ℕ} {history : List ℤ} {m : Memory} {r : Transcript} {es : List Event} {end : Ending} → Serial p inputs fr start history m r es end → CountsEnd p r (counts_of m) end
serial_counts {p = p} (Made {fr = fr} {m = m} {r = r} {end = end} k left q inner ok rest) = through p (counts_of m) k (answer_to fr m k) r end (serial_counts rest)
  where
    through : (p : Source) (n : Counts) (k : Ask) (a : ℤ) (r : Transcript) (end : Ending) → CountsEnd p r n end → CountsEnd p (act k a r) n end
    through p n k a r (Finished v left m) h = h
    through p n k a r (Stopped f) h = tt
serial_counts (Ended v left q ok) = refl
serial_counts {p = p} (Went {m = m} {u = u} {r = r} {end = end} how callee left v left' m' q ok inner rest) = past p how callee u r (counts_of m) (counts_of m') end (serial_counts inner) (serial_counts rest)
  where
    past : (p : Source) (how : Invocation) (callee : Callee) (u r : Transcript) (n n' : Counts) (end : Ending) → n' ≡ counts_after p u (entered p callee n) → CountsEnd p r n' end → CountsEnd p (child how callee u r) n end
    past p how callee u r n n' (Finished v left m) e h = subst (λ n. counts_of m ≡ counts_after p r n) e h
    past p how callee u r n n' (Stopped f) e h = tt
serial_counts (Broke how callee left f q ok inner) = tt
serial_counts (Refused k left f q bad) = tt

pub serial_events : {p : Source} {inputs : List ℤ} {fr : Frame} {start : ℕ} {history : List ℤ} {m : Memory} {r : Transcript} {es : List Event} {end : Ending} → Serial p inputs fr start history m r es end → es ≡ events_of p fr (counts_of m) r
serial_events (Made {fr = fr} {m = m} k left q inner ok rest) = ap₂ (λ e es. e ∷ es) (event_is fr m k) (serial_events rest)
serial_events (Ended v left q ok) = refl
serial_events {p = p} (Went {fr = fr} {m = m} {u = u} {r = r} how callee left v left' m' q ok inner rest) =
    let after : counts_of m' ≡ counts_after p u (entered p callee (counts_of m)) = serial_counts inner in
    ap (λ es. invocation how (suc m.frames) ∷ es) (ap₂ (λ es es'. es ++ es') (serial_events inner) (serial_events rest ∙ ap (λ n. events_of p fr n r) after))
serial_events (Broke {m = m} how callee left f q ok inner) = ap (λ es. invocation how (suc m.frames) ∷ es) (serial_events inner ∙ nothing _)
  where
    nothing : (es : List Event) → es ≡ es ++ []
    nothing es = sym (append-nil es)
serial_events (Refused k left f q bad) = refl

pub run_events : (p : Source) (inputs : List ℤ) (r : Transcript) (es : List Event) (c : Conclusion) → IsSerialRun p inputs r es c → es ≡ events_of_root p r
run_events p inputs r es c (end, d, e) = serial_events d

-- ---- numbers distinguish frames

module _ (p : Source) where
  pub frames_grow : (r : Transcript) (n : Counts) → n.frames ≤ (counts_after p r n).frames
  frames_grow stop n = omega arith
  frames_grow (act k a r) n = frames_grow r n
  frames_grow (child how callee u r) n =
      let one = frames_grow u (entered p callee n) in
      let two = frames_grow r (counts_after p u (entered p callee n)) in
      omega (arith, one, two)

  pub cells_grow : (r : Transcript) (n : Counts) → n.cells ≤ (counts_after p r n).cells
  cells_grow stop n = omega arith
  cells_grow (act k a r) n = cells_grow r n
  cells_grow (child how callee u r) n =
      let one = cells_grow u (entered p callee n) in
      let two = cells_grow r (counts_after p u (entered p callee n)) in
      omega (arith, one, two)

  -- a frame lies between these counts
  record Between (f : Block) (n n' : Counts) : Type 0 where
    above : n.frames < f.number
    below : f.number ≤ n'.frames
    from : n.cells ≤ f.first
    to : f.first + f.cells ≤ n'.cells

  no_block : {f : Block} {X : Type 0} → None ≡ Some f → X
  no_block {f} {X} e = absurd (subst (λ (o : Option Block). elim o as (λ _. Type 0) [ None ↦ Unit {0} | Some y ↦ ⊥ ]) e tt)

  some_block : (f g : Block) → Some f ≡ Some g → f ≡ g
  some_block f g e = ap (λ (o : Option Block). elim o as (λ _. Block) [ None ↦ f | Some y ↦ y ]) e

  lies : (r : Transcript) (n : Counts) (k : ℕ) (path : List ℕ) (f : Block) → child_at p r n k path ≡ Some f → Between f n (counts_after p r n)
  lies stop n k path f e = no_block e
  lies (act a v r) n k path f e = lies r n k path f e
  lies (child how callee u r) n zero [] f e =
      let one = frames_grow u (entered p callee n) in
      let two = frames_grow r (counts_after p u (entered p callee n)) in
      let three = cells_grow u (entered p callee n) in
      let four = cells_grow r (counts_after p u (entered p callee n)) in
      subst (λ f. Between f n (counts_after p (child how callee u r) n)) (some_block (block_of p callee n) f e) (record { above = omega arith; below = omega (arith, one, two); from = omega arith; to = omega (arith, three, four) })
  lies (child how callee u r) n zero (j ∷ path) f e =
      let here = lies u (entered p callee n) j path f e in
      let two = frames_grow r (counts_after p u (entered p callee n)) in
      let four = cells_grow r (counts_after p u (entered p callee n)) in
      record { above = omega (arith, here.above); below = omega (arith, here.below, two); from = omega (arith, here.from); to = omega (arith, here.to, four) }
  lies (child how callee u r) n (suc k) path f e =
      let here = lies r (counts_after p u (entered p callee n)) k path f e in
      let one = frames_grow u (entered p callee n) in
      let three = cells_grow u (entered p callee n) in
      record { above = omega (arith, here.above, one); below = here.below; from = omega (arith, here.from, three); to = here.to }

  earlier : (f g : Block) → f.number < g.number → f.first + f.cells ≤ g.first → Apart f g
  earlier f g less fits = record { numbers = λ e. absurd (omega (arith, e, less)); cells = inl fits }

  later : (f g : Block) → g.number < f.number → g.first + g.cells ≤ f.first → Apart f g
  later f g less fits = record { numbers = λ e. absurd (omega (arith, e, less)); cells = inr fits }

  -- a child, and a frame below it
  child_first : (callee : Callee) (u : Transcript) (n : Counts) (j : ℕ) (path : List ℕ) (f g : Block) → Some (block_of p callee n) ≡ Some f → child_at p u (entered p callee n) j path ≡ Some g → (f.number < g.number) × (f.first + f.cells ≤ g.first)
  child_first callee u n j path f g e e' =
      let there = lies u (entered p callee n) j path g e' in
      subst (λ f. (f.number < g.number) × (f.first + f.cells ≤ g.first)) (some_block (block_of p callee n) f e) (there.above, there.from)

  -- a frame of one child, and one of a later child
  children_apart : (how : Invocation) (callee : Callee) (u r : Transcript) (n : Counts) (path path' : List ℕ) (k : ℕ) (f g : Block)
      → child_at p (child how callee u r) n zero path ≡ Some f → child_at p r (counts_after p u (entered p callee n)) k path' ≡ Some g → (f.number < g.number) × (f.first + f.cells ≤ g.first)
  children_apart how callee u r n [] path' k f g e e' =
      let there = lies r (counts_after p u (entered p callee n)) k path' g e' in
      let one = frames_grow u (entered p callee n) in
      let three = cells_grow u (entered p callee n) in
      subst (λ f. (f.number < g.number) × (f.first + f.cells ≤ g.first)) (some_block (block_of p callee n) f e) (omega (arith, there.above, one), omega (arith, there.from, three))
  children_apart how callee u r n (j ∷ path) path' k f g e e' =
      let here = lies u (entered p callee n) j path f e in
      let there = lies r (counts_after p u (entered p callee n)) k path' g e' in
      (omega (arith, there.above, here.below), omega (arith, there.from, here.to))

  same_child : {path path' : List ℕ} (k j : ℕ) (f g : Block) → ((k ∷ path) ≡ (j ∷ path')) ⊎ Apart f g → ((suc k ∷ path) ≡ (suc j ∷ path')) ⊎ Apart f g
  same_child k j f g (inl e) = inl (ap deeper e)
    where
      deeper : List ℕ → List ℕ
      deeper [] = []
      deeper (k ∷ path) = suc k ∷ path
  same_child k j f g (inr h) = inr h

  same_below : {path path' : List ℕ} (f g : Block) → (path ≡ path') ⊎ Apart f g → ((zero ∷ path) ≡ (zero ∷ path')) ⊎ Apart f g
  same_below f g (inl e) = inl (ap (λ path. zero ∷ path) e)
  same_below f g (inr h) = inr h

  children_one_name : (r : Transcript) (n : Counts) (k j : ℕ) (path path' : List ℕ) (f g : Block) → child_at p r n k path ≡ Some f → child_at p r n j path' ≡ Some g → ((k ∷ path) ≡ (j ∷ path')) ⊎ Apart f g
  children_one_name stop n k j path path' f g e e' = no_block e
  children_one_name (act a v r) n k j path path' f g e e' = children_one_name r n k j path path' f g e e'
  children_one_name (child how callee u r) n zero zero [] [] f g e e' = inl refl
  children_one_name (child how callee u r) n zero zero [] (j ∷ path') f g e e' = let h = child_first callee u n j path' f g e e' in inr (earlier f g h.0 h.1)
  children_one_name (child how callee u r) n zero zero (k ∷ path) [] f g e e' = let h = child_first callee u n k path g f e' e in inr (later f g h.0 h.1)
  children_one_name (child how callee u r) n zero zero (k ∷ path) (j ∷ path') f g e e' = same_below f g (children_one_name u (entered p callee n) k j path path' f g e e')
  children_one_name (child how callee u r) n zero (suc j) path path' f g e e' = let h = children_apart how callee u r n path path' j f g e e' in inr (earlier f g h.0 h.1)
  children_one_name (child how callee u r) n (suc k) zero path path' f g e e' = let h = children_apart how callee u r n path' path k g f e' e in inr (later f g h.0 h.1)
  children_one_name (child how callee u r) n (suc k) (suc j) path path' f g e e' = same_child k j f g (children_one_name r (counts_after p u (entered p callee n)) k j path path' f g e e')

  root_first : (r : Transcript) (k : ℕ) (path : List ℕ) (f g : Block) → Some (block_of p callees.Root (unbegun p)) ≡ Some f → child_at p r (entered p callees.Root (unbegun p)) k path ≡ Some g → (f.number < g.number) × (f.first + f.cells ≤ g.first)
  root_first r k path f g e e' = child_first callees.Root r (unbegun p) k path f g e e'

  pub one_name : (r : Transcript) → HasOneName p r
  one_name r [] [] f g e e' = inl refl
  one_name r [] (k ∷ path) f g e e' = let h = root_first r k path f g e e' in inr (earlier f g h.0 h.1)
  one_name r (k ∷ path) [] f g e e' = let h = root_first r k path g f e' e in inr (later f g h.0 h.1)
  one_name r (k ∷ path) (j ∷ path') f g e e' = children_one_name r (entered p callees.Root (unbegun p)) k j path path' f g e e'

  pub past_globals : (r : Transcript) → LiesPastGlobals p r
  past_globals r [] f e = subst (λ f. length p.openings ≤ f.first) (some_block (block_of p callees.Root (unbegun p)) f e) (omega arith)
  past_globals r (k ∷ path) f e = let here = lies r (entered p callees.Root (unbegun p)) k path f e in omega (arith, here.from)
