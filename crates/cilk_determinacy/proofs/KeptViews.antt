-- Frames hold views of the language, step by step.
--
-- - `HasView`, `has_unit`, `has_single`, `has_join`, `has_cond`: operations on views give views;
-- - `block_has`: the product at a block;
-- - `wish_has`, `ask_leaves`: the pieces after one more deed;
-- - `children_after`: the children after one more deed;
-- - `views_kept`: the law.
use Rattle.std.proofs.Common.{◌≡◌, ◌≤◌, ◌<◌, ◌+◌, ℕ, suc, ℤ, Bool, true, false, cond, List, [], ◌∷◌, ◌++◌, Option, Some, None, ◌⊎◌, inl, inr, ⊎_elim, refl, sym, ap, ◌∙◌, subst, arith}
use Rattle.cilk_types.specs.declared.invocation.Invocation.TheVariants.{Call, Spawn}
use Rattle.cilk_types.specs.declared.invocation.Invocation.{Invocation}
use Rattle.std.proofs.lemmas.Bool.{cases_lt, cond-true}
use Rattle.cilk_monoid.specs.declared.kind.MonoidKind.{MonoidKind}
use Rattle.cilk_monoid.specs.Kinds.{structure_of}
use Rattle.cilk_monoid.specs.Values.{ViewValue}
use Rattle.cilk_types.specs.Word.{IsWord}
use Rattle.cilk_program.specs.Syntax.{Source}
use Rattle.cilk_determinacy.specs.Runs.{Name, same_name, Cell, Instance, Output, same_instance, has_instance, Wish, Begin, Resume, Create, Update, Set, Value, Print, Ask, Read, Write, Invoke, Sync, End, Pass, Fail, Event, Reads, Writes, Syncs, Ends, Passes, Begins, Deed, Does, Invokes}
use Rattle.cilk_determinacy.specs.Machine.{Frame, Frames, State, deeds_at, started, mark_of, deed_of, begun, after_deed, block_view, own_view, with_view, after_views, IsAsking, Makes, Steals, Stops}
use Rattle.cilk_determinacy.specs.Monoids.{numbers_of}
use Rattle.cilk_determinacy.proofs.Basics.{same_name-refl, same_name-eq}
use Rattle.cilk_determinacy.proofs.Started.{started_does, started_invokes}
use Rattle.cilk_determinacy.specs.KeptViews.{HoldsViews, WishIsSound, AskIsSound, StepsKeepViews}
use Rattle.cilk_determinacy.specs.FrameEnvMachine.{costs}
use Rattle.cilk_determinacy.specs.Reducers.{View, views_of, kind_of, monoid_of}
use Rattle.cilk_determinacy.specs.Steps.{Next, IsFirst, OneStep}
use Rattle.cilk_determinacy.specs.FrameEnvViews.{IsViewOf}
use Rattle.cilk_determinacy.specs.FrameEnvs.{FrameEnv}
use Rattle.cilk_determinacy.proofs.FrameEnvViews.{are_multiplied}

-- ---- views

abbrev pub HasView : MonoidKind → View → Type 0
HasView k v = (x : ViewValue) × IsViewOf k v x

module _ (k : MonoidKind) where
  has_unit : HasView k ((views_of k).unit)
  has_unit = let m = are_multiplied in ((structure_of k).unit, m.unit k)

  has_single : (n : ℤ) → IsWord n → HasView k ((views_of k).single n)
  has_single n word = let m = are_multiplied in ((structure_of k).single n, m.single k n word)

  has_join : (v w : View) → HasView k v → HasView k w → HasView k ((views_of k).combine v w)
  has_join v w h g = let m = are_multiplied in ((structure_of k).combine h.0 g.0, m.join k v w h.0 g.0 h.1 g.1)

  has_cond : (b : Bool) (v w : View) → HasView k v → HasView k w → HasView k (cond b v w)
  has_cond true v w h g = h
  has_cond false v w h g = g

  -- where the frame found is one of the two, so is the view
  picked : (b : Bool) (x y : Option (Frame FrameEnv)) (v w : View) (g : Frame FrameEnv) → cond b x y ≡ Some g → HasView k v → (y ≡ Some g → HasView k w) → HasView k (cond b v w)
  picked true x y v w g q h later = h
  picked false x y v w g q h later = later q

  module _ (kid : ℕ → View) (loose : ℕ → Bool) where
    block_has : (acc : View) (j : ℕ) (ds : List (Deed FrameEnv)) → HasView k acc → ((h : ℕ) → j ≤ h → h < j + started ds → HasView k (kid h)) → HasView k (block_view (views_of k) kid loose acc j ds)
    block_has acc j [] a g = a
    block_has acc j (Does (Reads c v) ∷ ds) a g = block_has acc j ds a g
    block_has acc j (Does (Writes c v) ∷ ds) a g = block_has acc j ds a g
    block_has acc j (Does Syncs ∷ ds) a g = block_has ((views_of k).unit) j ds has_unit g
    block_has acc j (Does (Ends v gone) ∷ ds) a g = block_has acc j ds a g
    block_has acc j (Does (Passes m) ∷ ds) a g = block_has acc j ds a g
    block_has acc j (Invokes Call w ∷ ds) a g = block_has acc (suc j) ds a (λ h low high. g h (omega arith) (omega arith))
    block_has acc j (Invokes Spawn w ∷ ds) a g =
        block_has (cond (loose j) ((views_of k).combine acc (kid j)) acc) (suc j) ds
        (has_cond (loose j) ((views_of k).combine acc (kid j)) acc (has_join acc (kid j) a (g j (omega arith) (omega arith))) a)
        (λ h low high. g h (omega arith) (omega arith))

-- a frame's own view after an event that touches no cell and starts, awaits and ends no frame
wish_has : (i : Instance) (number : Instance → ℤ) (block last v : View) (loose : Bool) (a : Wish) (k : ℕ) → WishIsSound a k → HasView (kind_of i) v → (1 ≤ k → HasView (kind_of i) last) → HasView (kind_of i) (own_view (monoid_of i) i block loose last (Passes (mark_of number a)) v)
wish_has i number block last v loose Begin k s h g = h
wish_has i number block last v loose Resume k s h g = has_cond (kind_of i) loose v last h (g s)
wish_has i number block last v loose (Create j) k s h g = has_cond (kind_of i) (same_instance j i) ((views_of (kind_of i)).unit) v (has_unit (kind_of i)) h
wish_has i number block last v loose (Update j x) k s h g =
    has_cond (kind_of i) (same_instance j i) ((views_of (kind_of i)).combine v ((views_of (kind_of i)).single x)) v (has_join (kind_of i) v ((views_of (kind_of i)).single x) h (has_single (kind_of i) x s)) h
wish_has i number block last v loose (Set j x) k s h g = has_cond (kind_of i) (same_instance j i) ((views_of (kind_of i)).single x) v (has_single (kind_of i) x s) h
wish_has i number block last v loose (Value j) k s h g = h
wish_has i number block last v loose (Print x) k s h g =
    has_cond (kind_of i) (same_instance Output i) ((views_of (kind_of i)).combine v ((views_of (kind_of i)).single x)) v (has_join (kind_of i) v ((views_of (kind_of i)).single x) h (has_single (kind_of i) x s)) h

-- ---- one more deed of frame n

-- one of two frames is there
either_there : (b : Bool) (x : Frame FrameEnv) (y : Option (Frame FrameEnv)) (g : Frame FrameEnv) → y ≡ Some g → (h : Frame FrameEnv) × (cond b (Some x) y ≡ Some h)
either_there true x y g q = (x, refl)
either_there false x y g q = (g, q)

module _ (frames : Frames FrameEnv) (piece : Name → Instance → View) (stolen : Name → Bool) (n : Name) (f : Frame FrameEnv) (here : frames n ≡ Some f)
    (views : (m : Name) (g : Frame FrameEnv) (i : Instance) → frames m ≡ Some g → HasView (kind_of i) (piece m i))
    (children : (m : Name) (g : Frame FrameEnv) (k : ℕ) → frames m ≡ Some g → 1 ≤ k → k ≤ started g.deeds → (h : Frame FrameEnv) × (frames (m ++ k ∷ []) ≡ Some h)) where
  kid_has : (i : Instance) (k : ℕ) → 1 ≤ k → k ≤ started f.deeds → HasView (kind_of i) (piece (n ++ k ∷ []) i)
  kid_has i k low high = let c = children n f k here low high in views (n ++ k ∷ []) c.0 i c.1

  -- the product at the frame's block
  abbrev block : Instance → View
  block i = block_view (monoid_of i) (λ k. piece (n ++ k ∷ []) i) (λ k. stolen (n ++ k ∷ [])) ((views_of (kind_of i)).unit) 1 f.deeds

  block_here : (i : Instance) → HasView (kind_of i) (block i)
  block_here i =
      block_has (kind_of i) (λ k. piece (n ++ k ∷ []) i) (λ k. stolen (n ++ k ∷ [])) ((views_of (kind_of i)).unit) 1 f.deeds (has_unit (kind_of i)) (λ k low high. kid_has i k low (omega arith))

  -- after the deed each frame that is there holds views
  abbrev Leaves : Deed FrameEnv → Type 0
  Leaves d = (m : Name) (g : Frame FrameEnv) (i : Instance) → after_deed frames n f d m ≡ Some g → HasView (kind_of i) (after_views (monoid_of i) i stolen n f.deeds d (λ z. piece z i) m)

  abbrev own : (i : Instance) → Event → View
  own i e =
      own_view (monoid_of i) i (block i) (stolen (n ++ started f.deeds ∷ [])) (piece (n ++ started f.deeds ∷ []) i) e (piece n i)

  does_leaves : (e : Event) → ((i : Instance) → HasView (kind_of i) (own i e)) → Leaves (Does e)
  does_leaves e mine m g i q =
      picked (kind_of i) (same_name n m) (Some (record f { deeds = f.deeds ++ Does e ∷ [] })) (frames m) (own i e) (piece m i) g q (mine i) (views m g i)

  invokes_leaves : (k : Invocation) (w : FrameEnv) → Leaves (Invokes k w)
  invokes_leaves k w m g i q =
      picked (kind_of i) (same_name (n ++ suc (started f.deeds) ∷ []) m) (Some (begun w)) (cond (same_name n m) (Some (record f { deeds = f.deeds ++ Invokes k w ∷ [] })) (frames m)) (piece n i) (piece m i) g q
      (views n f i here) (old (same_name n m) refl)
    where
      old : (b : Bool) → same_name n m ≡ b → cond b (Some (record f { deeds = f.deeds ++ Invokes k w ∷ [] })) (frames m) ≡ Some g → HasView (kind_of i) (piece m i)
      old true e r = subst (λ z. HasView (kind_of i) (piece z i)) (same_name-eq n m e) (views n f i here)
      old false e r = views m g i r

  ask_leaves : (memory : Cell → ℤ) (number : Instance → ℤ) (a : Ask FrameEnv) → AskIsSound a f.deeds → Leaves (deed_of memory number a)
  ask_leaves memory number (Read c) s = does_leaves (Reads c (memory c)) (λ i. views n f i here)
  ask_leaves memory number (Write c v) s = does_leaves (Writes c v) (λ i. views n f i here)
  ask_leaves memory number (Invoke k w) s = invokes_leaves k w
  ask_leaves memory number Sync s = does_leaves Syncs (λ i. has_join (kind_of i) (block i) (piece n i) (block_here i) (views n f i here))
  ask_leaves memory number (End v gone) s = does_leaves (Ends v gone) (λ i. has_cond (kind_of i) (has_instance gone i) ((views_of (kind_of i)).unit) (piece n i) (has_unit (kind_of i)) (views n f i here))
  ask_leaves memory number (Pass a) s =
      does_leaves (Passes (mark_of number a)) (λ i. wish_has i number (block i) (piece (n ++ started f.deeds ∷ []) i) (piece n i) (stolen (n ++ started f.deeds ∷ [])) a (started f.deeds) s (views n f i here) (λ one. kid_has i (started f.deeds) one (omega arith)))
  ask_leaves memory number (Fail x) s = does_leaves (Passes Begins) (λ i. views n f i here)

  -- a frame that is there stays
  stays : (d : Deed FrameEnv) (m : Name) (g : Frame FrameEnv) → frames m ≡ Some g → (h : Frame FrameEnv) × (after_deed frames n f d m ≡ Some h)
  stays (Does e) m g q = either_there (same_name n m) (record f { deeds = f.deeds ++ Does e ∷ [] }) (frames m) g q
  stays (Invokes k w) m g q =
      let one = either_there (same_name n m) (record f { deeds = f.deeds ++ Invokes k w ∷ [] }) (frames m) g q in
      either_there (same_name (n ++ suc (started f.deeds) ∷ []) m) (begun w) (cond (same_name n m) (Some (record f { deeds = f.deeds ++ Invokes k w ∷ [] })) (frames m)) one.0 one.1

  old_child : (d : Deed FrameEnv) (m : Name) (g : Frame FrameEnv) (k : ℕ) → frames m ≡ Some g → 1 ≤ k → k ≤ started g.deeds → (h : Frame FrameEnv) × (after_deed frames n f d (m ++ k ∷ []) ≡ Some h)
  old_child d m g k q low high = let c = children m g k q low high in stays d (m ++ k ∷ []) c.0 c.1

  new_child : (k : Invocation) (w : FrameEnv) → (h : Frame FrameEnv) × (after_deed frames n f (Invokes k w) (n ++ suc (started f.deeds) ∷ []) ≡ Some h)
  new_child k w = let c = n ++ suc (started f.deeds) ∷ [] in (begun w, cond-true (same_name c c) (Some (begun w)) _ (same_name-refl c))

  children_after : (d : Deed FrameEnv) (m : Name) (g : Frame FrameEnv) (k : ℕ) → after_deed frames n f d m ≡ Some g → 1 ≤ k → k ≤ started g.deeds → (h : Frame FrameEnv) × (after_deed frames n f d (m ++ k ∷ []) ≡ Some h)
  children_after (Does e) m g k q low high = by (same_name n m) refl q
    where
      by : (b : Bool) → same_name n m ≡ b → cond b (Some (record f { deeds = f.deeds ++ Does e ∷ [] })) (frames m) ≡ Some g → (h : Frame FrameEnv) × (after_deed frames n f (Does e) (m ++ k ∷ []) ≡ Some h)
      by true s r =
          let same : f.deeds ++ Does e ∷ [] ≡ g.deeds = ap deeds_at r in
          let few : started f.deeds ≡ started g.deeds = sym (started_does f.deeds e) ∙ ap started same in
          old_child (Does e) m f k (subst (λ z. frames z ≡ Some f) (same_name-eq n m s) here) low (omega (arith, few))
      by false s r = old_child (Does e) m g k r low high
  children_after (Invokes i w) m g k q low high = by (same_name (n ++ suc (started f.deeds) ∷ []) m) refl q
    where
      inner : (b : Bool) → same_name n m ≡ b → cond b (Some (record f { deeds = f.deeds ++ Invokes i w ∷ [] })) (frames m) ≡ Some g → (h : Frame FrameEnv) × (after_deed frames n f (Invokes i w) (m ++ k ∷ []) ≡ Some h)
      inner true s r =
          let same : f.deeds ++ Invokes i w ∷ [] ≡ g.deeds = ap deeds_at r in
          let few : suc (started f.deeds) ≡ started g.deeds = sym (started_invokes f.deeds i w) ∙ ap started same in
          let is = same_name-eq n m s in
          ⊎_elim
          (λ less. old_child (Invokes i w) m f k (subst (λ z. frames z ≡ Some f) is here) low less)
          (λ last. subst (λ z. (h : Frame FrameEnv) × (after_deed frames n f (Invokes i w) z ≡ Some h)) (λ t. is t ++ last t ∷ []) (new_child i w))
          (upto few)
        where
          upto : suc (started f.deeds) ≡ started g.deeds → (k ≤ started f.deeds) ⊎ (suc (started f.deeds) ≡ k)
          upto few = ⊎_elim (λ less. inl (omega (arith, less))) (λ past. inr (omega (arith, past, few, high))) (cases_lt k (suc (started f.deeds)))
      inner false s r = old_child (Invokes i w) m g k r low high

      by : (b : Bool) → same_name (n ++ suc (started f.deeds) ∷ []) m ≡ b → cond b (Some (begun w)) (cond (same_name n m) (Some (record f { deeds = f.deeds ++ Invokes i w ∷ [] })) (frames m)) ≡ Some g → (h : Frame FrameEnv) × (after_deed frames n f (Invokes i w) (m ++ k ∷ []) ≡ Some h)
      by true s r =
          let none : [] ≡ g.deeds = ap deeds_at r in
          let few : 0 ≡ started g.deeds = ap started none in
          absurd (omega (arith, few, low, high))
      by false s r = inner (same_name n m) refl r

-- ---- steps

module _ (p : Source) (inputs : List ℤ) where
  opening_holds : (s : State FrameEnv View) → IsFirst p inputs s → HoldsViews s
  opening_holds s o = record { views = views; children = children }
    where
      views : (n : Name) (f : Frame FrameEnv) (i : Instance) → s.frames n ≡ Some f → HasView (kind_of i) (s.piece n i)
      views [] f i q = subst (HasView (kind_of i)) (sym (o.5 i)) (has_unit (kind_of i))
      views (j ∷ n) f i q = let none : None ≡ Some f = sym (o.0 (j ∷ n)) ∙ q in absurd (cc)

      children : (n : Name) (f : Frame FrameEnv) (k : ℕ) → s.frames n ≡ Some f → 1 ≤ k → k ≤ started f.deeds → (g : Frame FrameEnv) × (s.frames (n ++ k ∷ []) ≡ Some g)
      children [] f k q low high =
          let none : f.deeds ≡ [] = ap deeds_at (sym q ∙ o.0 []) in
          let few : started f.deeds ≡ 0 = ap started none in
          absurd (omega (arith, few, low, high))
      children (j ∷ n) f k q low high = let none : None ≡ Some f = sym (o.0 (j ∷ n)) ∙ q in absurd (cc)

  makes_holds : (s s' : State FrameEnv View) (n : Name) → HoldsViews s → (m : Makes FrameEnv View monoid_of (Next p inputs) (costs p inputs) s n s') → AskIsSound m.ask m.frame.deeds → HoldsViews s'
  makes_holds s s' n h m sound =
      let d = deed_of s.memory (numbers_of monoid_of (s.piece n)) m.ask in
      record {
        views = λ z g i q.
            subst (HasView (kind_of i)) (sym (m.piece i z))
            (ask_leaves s.frames s.piece s.stolen n m.frame m.asking.here h.views h.children s.memory (numbers_of monoid_of (s.piece n)) m.ask sound z g i (sym (ap (λ (t : Frames FrameEnv). t z) m.frames) ∙ q));
        children = λ z g k q low high.
            let c = children_after s.frames s.piece s.stolen n m.frame m.asking.here h.views h.children d z g k (sym (ap (λ (t : Frames FrameEnv). t z) m.frames) ∙ q) low high in
            (c.0, ap (λ (t : Frames FrameEnv). t (z ++ k ∷ [])) m.frames ∙ c.1);
      }

  steals_holds : (s s' : State FrameEnv View) (n : Name) → HoldsViews s → Steals FrameEnv View monoid_of (Next p inputs) (costs p inputs) s n s' → HoldsViews s'
  steals_holds s s' n h m = record {
    views = λ z g i q.
        subst (HasView (kind_of i)) (sym (m.piece i z))
        (has_cond (kind_of i) (same_name n z) ((views_of (kind_of i)).unit) (s.piece z i) (has_unit (kind_of i)) (h.views z g i (sym (ap (λ (t : Frames FrameEnv). t z) m.frames) ∙ q)));
    children = λ z g k q low high.
        let c = h.children z g k (sym (ap (λ (t : Frames FrameEnv). t z) m.frames) ∙ q) low high in
        (c.0, ap (λ (t : Frames FrameEnv). t (z ++ k ∷ [])) m.frames ∙ c.1);
  }

  stops_holds : (s s' : State FrameEnv View) (n : Name) → HoldsViews s → Stops FrameEnv View monoid_of (Next p inputs) (costs p inputs) s n s' → HoldsViews s'
  stops_holds s s' n h m = subst HoldsViews (sym m.after) (record { views = h.views; children = h.children })

  pub views_kept : StepsKeepViews p inputs
  views_kept = record {
    opens = opening_holds;
    keeps = λ s s' n h sound step.
        ⊎_elim (λ m. makes_holds s s' n h m (sound m.frame m.ask m.asking)) (λ other. ⊎_elim (λ m. steals_holds s s' n h m) (λ m. stops_holds s s' n h m) other) step.1;
  }
