-- The names of frames with one frame more after all others.
--
-- - `all_started`: all of a frame's children are in the list;
-- - `named_more`: names and ordinals with one frame more.
use Rattle.std.proofs.Common.{◌≡◌, ◌⊎◌, ⊎_elim, ◌<◌, ◌≤◌, ℕ, zero, suc, ℤ, List, [], ◌∷◌, ◌++◌, length, slice_get, Option, Some, refl, sym, ap, ap₂, ◌∙◌, subst, arith}
use Rattle.std.specs.Option.{option_map}
use Rattle.std.proofs.lemmas.Bool.{cases_lt}
use Rattle.cilk_program.specs.Syntax.{Source}
use Rattle.cilk_lower.specs.Code.{CodeView}
use Rattle.cilk_frames.specs.declared.activation.Activation.{Activation}
use Rattle.cilk_determinacy.specs.Machine.{Frame, State, deeds_at, started}
use Rattle.cilk_determinacy.specs.Runs.{Name}
use Rattle.cilk_determinacy.specs.Reducers.{View}
use Rattle.cilk_determinacy.specs.FrameEnvs.{FrameEnv}
use Rattle.cilk_scheduler.specs.declared.scheduler.Scheduler.{Scheduler}
use Rattle.cilk_scheduler.specs.declared.frame_state.FrameState.{FrameState}
use Rattle.cilk_scheduler.specs.Schedulers.{Tells}
use Rattle.cilk_scheduler.specs.Numbered.{AreNamed, IsAbsent, children_among, parent_at}
use Rattle.cilk_scheduler.specs.Ordinals.{AreCounted}
use Rattle.cilk_scheduler.proofs.Placed.{get_some}
use Rattle.cilk_scheduler.proofs.Plain.{get_low}
use Rattle.cilk_scheduler.proofs.Siblings.{HasChild, all_counted, among_below}
use Rattle.cilk_scheduler.proofs.Thieves.{snoc_name}

-- a name with an ordinal isn't the root's
not_root : (n : Name) (q : ℕ) → [] ≡ n ++ q ∷ [] → ⊥
not_root [] q e = let z : [] ≡ q ∷ [] = e in cc
not_root (j ∷ n) q e = let z : [] ≡ j ∷ (n ++ q ∷ []) = e in cc

module _ (code : CodeView) (p : Source) (inputs : List ℤ) (name : ℕ → Name) (b : Scheduler) (s : State FrameEnv View) (t : Tells code p inputs name b s) (counts : AreCounted s.frames) (k : ℕ) (x : Activation FrameState)
    (at : (let f = b.frames in slice_get f.items k ≡ Some x)) (f : Frame FrameEnv) (here : s.frames (name k) ≡ Some f) (children : (let y = x.cursor in started f.deeds ≡ y.children))
    (last : (let y = x.cursor in 0 < y.children → (let l = b.frames in y.last < length l.items) × (name y.last ≡ name k ++ y.children ∷ []))) where
  abbrev frame_states : List (Activation FrameState)
  frame_states = let l = b.frames in l.items

  named : AreNamed frame_states name
  named = t.named

  every : (j : ℕ) (z : Activation FrameState) → slice_get frame_states (suc j) ≡ Some z → (let y = z.cursor in y.parent ≡ k) → (let y = z.cursor in y.ordinal ≤ started f.deeds)
  every j z there is =
      let y = z.cursor in
      let c = named.child j z there in
      let g = t.here (suc j) z there in
      let named_so : name (suc j) ≡ name k ++ y.ordinal ∷ [] = c.1 ∙ ap (λ i. name i ++ y.ordinal ∷ []) is in
      let r = counts (name k) y.ordinal g.0 (ap s.frames (sym named_so) ∙ g.1) in
      subst (λ o. y.ordinal ≤ started (deeds_at o)) here r.1

  some : 0 < started f.deeds → HasChild frame_states k (started f.deeds)
  some more = by (let y = x.cursor in y.last) refl
    where
      known : (let y = x.cursor in (y.last < length frame_states) × (name y.last ≡ name k ++ started f.deeds ∷ []))
      known =
          let y = x.cursor in
          let e = children in
          let r = last (subst (λ n. 0 < n) children more) in
          (r.0, r.1 ∙ ap (λ n. name k ++ n ∷ []) (sym children))

      by : (m : ℕ) → (let y = x.cursor in y.last ≡ m) → HasChild frame_states k (started f.deeds)
      by zero e = let r = known in absurd (not_root (name k) (started f.deeds) (sym named.root ∙ ap name (sym e) ∙ r.1))
      by (suc j) e =
          let r = known in
          let low : suc j < length frame_states = subst (λ n. n < length frame_states) e r.0 in
          let g = get_some frame_states (suc j) low in
          let c = named.child j g.0 g.1 in
          let y = (let z = g.0 in z.cursor) in
          let less = c.0 in
          let q = snoc_name (name y.parent) (name k) y.ordinal (started f.deeds) (sym c.1 ∙ ap name (sym e) ∙ r.1) in
          record { before = j; frame_state = g.0; at = g.1; parent = named.apart y.parent k (omega (arith, less, low)) (get_low frame_states k x at) q.0; ordinal = q.1 }

  pub all_started : length (children_among frame_states k (length frame_states)) ≡ started f.deeds
  all_started = all_counted frame_states named.ordinal k (started f.deeds) every some

-- a frame was there, started by the same one under the same ordinal
pub record WasStarted (old : List (Activation FrameState)) (j : ℕ) (a : Activation FrameState) : Type 0 where
  pub frame_state : Activation FrameState
  pub at : slice_get old j ≡ Some frame_state
  pub parent : let x = a.cursor in let y = frame_state.cursor in x.parent ≡ y.parent
  pub ordinal : let x = a.cursor in let y = frame_state.cursor in x.ordinal ≡ y.ordinal

module _ (old new : List (Activation FrameState)) (name : ℕ → Name) (child : Activation FrameState) (k c : ℕ) (known : AreNamed old name) (low : k < length old) (one_more : length new ≡ suc (length old))
    (was : (j : ℕ) (a : Activation FrameState) → slice_get new j ≡ Some a → WasStarted old j a ⊎ ((length old ≡ j) × (child ≡ a))) (parent : (let x = child.cursor in x.parent ≡ k)) (ordinal : (let x = child.cursor in x.ordinal ≡ suc c))
    (last_name : name (length old) ≡ name k ++ suc c ∷ []) (absent : IsAbsent old name (name k ++ suc c ∷ [])) (all : length (children_among old k (length old)) ≡ c) where
  same_parents : (j : ℕ) → j < length old → parent_at new j ≡ parent_at old j
  same_parents j less =
      let g = get_some new j (omega (arith, less, one_more)) in
      let P : Option (Activation FrameState) → Option ℕ = (λ o. option_map (λ (a : Activation FrameState). let x = a.cursor in x.parent) o) in
      ⊎_elim (λ r. ap P g.1 ∙ ap (λ n. Some n) r.parent ∙ sym (ap P r.at)) (λ r. let e = r.0 in absurd (omega (arith, e, less))) (was j g.0 g.1)

  child_at_place : (j : ℕ) (x : Activation FrameState) → slice_get new (suc j) ≡ Some x → (let y = x.cursor in (y.parent < suc j) × (name (suc j) ≡ name y.parent ++ y.ordinal ∷ []))
  child_at_place j x at = ⊎_elim before newest (was (suc j) x at)
    where
      before : WasStarted old (suc j) x → (let y = x.cursor in (y.parent < suc j) × (name (suc j) ≡ name y.parent ++ y.ordinal ∷ []))
      before r =
          let e = known.child j r.frame_state r.at in
          (subst (λ n. n < suc j) (sym r.parent) e.0, e.1 ∙ ap₂ (λ n q. name n ++ q ∷ []) (sym r.parent) (sym r.ordinal))

      newest : (length old ≡ suc j) × (child ≡ x) → (let y = x.cursor in (y.parent < suc j) × (name (suc j) ≡ name y.parent ++ y.ordinal ∷ []))
      newest r =
          let e = r.0 in
          subst (λ (a : Activation FrameState). let y = a.cursor in (y.parent < suc j) × (name (suc j) ≡ name y.parent ++ y.ordinal ∷ [])) r.1
          (subst (λ n. n < suc j) (sym parent) (omega (arith, e, low)), ap name (sym r.0) ∙ last_name ∙ ap₂ (λ n q. name n ++ q ∷ []) (sym parent) (sym ordinal))

  ordinal_at : (j : ℕ) (x : Activation FrameState) → slice_get new (suc j) ≡ Some x → (let y = x.cursor in y.ordinal ≡ suc (length (children_among new y.parent (suc j))))
  ordinal_at j x at = ⊎_elim before newest (was (suc j) x at)
    where
      before : WasStarted old (suc j) x → (let y = x.cursor in y.ordinal ≡ suc (length (children_among new y.parent (suc j))))
      before r =
          let y = x.cursor in
          let less = get_low old (suc j) r.frame_state r.at in
          r.ordinal ∙ known.ordinal j r.frame_state r.at ∙ ap (λ n. suc (length (children_among old n (suc j)))) (sym r.parent) ∙ ap (λ (l : List ℕ). suc (length l)) (sym (among_below old new (length old) same_parents y.parent (suc j) (omega (arith, less))))

      newest : (length old ≡ suc j) × (child ≡ x) → (let y = x.cursor in y.ordinal ≡ suc (length (children_among new y.parent (suc j))))
      newest r =
          subst (λ (a : Activation FrameState). let y = a.cursor in y.ordinal ≡ suc (length (children_among new y.parent (suc j)))) r.1
          (ordinal ∙ ap suc (sym all) ∙ ap (λ n. suc (length (children_among old k n))) r.0 ∙ ap (λ (l : List ℕ). suc (length l)) (sym (among_below old new (length old) same_parents k (suc j) (let e = r.0 in omega (arith, e))))
          ∙ ap (λ n. suc (length (children_among new n (suc j)))) (sym parent))

  is_last : (j : ℕ) → j < length new → length old ≤ j → j ≡ length old
  is_last j less least = omega (arith, less, least, one_more)

  mixed : (i j : ℕ) → i < length old → j ≡ length old → name i ≡ name j → ⊥
  mixed i j less is q = absent i less (q ∙ ap name is ∙ last_name)

  apart_now : (i j : ℕ) → i < length new → j < length new → name i ≡ name j → i ≡ j
  apart_now i j li lj q =
      ⊎_elim (λ a. ⊎_elim (λ g. known.apart i j a g q) (λ g. absurd (mixed i j a (is_last j lj g) q)) (cases_lt j (length old)))
      (λ a. ⊎_elim (λ g. absurd (mixed j i g (is_last i li a) (sym q))) (λ g. is_last i li a ∙ sym (is_last j lj g)) (cases_lt j (length old))) (cases_lt i (length old))

  pub named_more : AreNamed new name
  named_more = record { root = known.root; child = child_at_place; ordinal = ordinal_at; apart = apart_now }
