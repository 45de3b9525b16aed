-- A spawn is before its child's `end`, after which its frame continues.
--
-- - `spawn_ahead`: so it is for the events of a shape;
-- - `behind_spawn`: and for the event order of a run of a shape.
use Rattle.std.proofs.Common.{◌≡◌, ◌≢◌, ℕ, zero, suc, ◌+◌, ◌-◌, ◌<◌, ◌≤◌, List, [], ◌∷◌, get_or, length, map, slice_get, slice_index_or, refl, sym, ap, ◌∙◌, subst, arith}
use mathlib.Core.Logic.{dite}
use native.Mathlib.Decide.{dec_lt, ℕ_discrete}
use Rattle.cilk_types.specs.declared.event.Event.{Event}
use Rattle.cilk_types.specs.declared.invocation.Invocation.{Invocation}
use Rattle.cilk_types.specs.declared.invocation.Invocation.TheVariants as invocations
use Rattle.cilk_tree.specs.declared.mark.Mark.{Mark}
use Rattle.cilk_tree.specs.declared.mark.Mark.TheVariants.{Begin, End, Sync, Resume, Spawn, Plain}
use Rattle.cilk_tree.specs.Marks.{mark_of}
use Rattle.cilk_tree.specs.Races.{event_at}
use Rattle.cilk_tree.specs.Reach.{Reaches, preceding, resumed_from, awaited}
use Rattle.cilk_tree.specs.Shape.{Shape, finish, act, sync, child, start_of}
use Rattle.cilk_tree.proofs.Lines.{Laid, laid_whole, line_of, long, plain, whole}
use Rattle.cilk_tree.proofs.Reaches.{among_here, first}
use Rattle.cilk_tree.proofs.Tied.{long_whole}
use Rattle.cilk_tree.specs.declared.event_order.EventOrder.{EventOrder}
use Rattle.cilk_tree.specs.Orders.{IsEventOrderOf}
use Rattle.cilk_tree.specs.Word.{event, predecessors_of, word_step, resume, Before}
use Rattle.cilk_tree.proofs.Events.{mark_at, resume_mark, spawn_of}
use Rattle.cilk_tree.proofs.EventOrderLines.{IsReturn, Marked, end_of, ends_last, marked_shape, start_not_resume}

module _ (f : ℕ → List ℕ) (m : ℕ → Mark) where
  not_here : {k q : ℕ} (p : ℕ) (x : Mark) → q ≡ p → m p ≡ x → (x ≡ Resume → ⊥) → IsReturn f m k q → ⊥
  not_here p x same is not r = not (sym is ∙ ap m (sym same) ∙ r.resumes)

  -- the child's last event is at z, and its parent continues right after it
  at_child : (c : Invocation) (u : Shape) (p k z : ℕ) → z ≡ end_of u p → Laid f (plain (line_of u)) (suc p) (p ∷ []) [] → Marked m u (suc (suc p)) → m p ≡ start_of c
      → f (suc z) ≡ resumed_from c p z → IsReturn f m k (suc z) → Reaches f k z
  at_child invocations.Call u p k z at laid marked start ahead r =
      let one : z ∷ [] ≡ k ∷ [] = sym ahead ∙ r.alone in
      let same : z ≡ k = cc one in
      let ends : m z ≡ End = ends_last m u (suc (suc p)) z (omega (arith, at)) marked in
      absurd (let no : End ≡ Spawn = sym ends ∙ ap m same ∙ r.spawned in cc no)
  at_child invocations.Spawn u p k z at laid marked start ahead r =
      let one : p ∷ [] ≡ k ∷ [] = sym ahead ∙ r.alone in
      let same : p ≡ k = cc one in
      subst (λ (j : ℕ). Reaches f j z) same (first f (plain (line_of u)) (suc p) (p ∷ []) [] laid p (among_here p []) z (omega (arith, at)) (omega (arith, at)))

  spawn_ahead : (s : Shape) (p : ℕ) (prev ends : List ℕ) → Laid f (line_of s) p prev ends → Marked m s p → (k z : ℕ) → p ≤ suc z → suc z < p + long (line_of s) → IsReturn f m k (suc z) → Reaches f k z
  spawn_ahead finish p prev ends h i k z le lt r = absurd (not_here p End (omega (arith, le, lt)) i (λ e. cc e) r)
  spawn_ahead (act s) p prev ends h i k z le lt r =
      dite (ℕ_discrete (suc z) p)
      (λ (same : suc z ≡ p). absurd (not_here p Plain same i.0 (λ e. cc e) r))
      (λ (other : suc z ≢ p). spawn_ahead s (suc p) (p ∷ []) ends h.1 i.1 k z (omega (arith, le, other)) (omega (arith, lt)) r)
  spawn_ahead (sync s) p prev ends h i k z le lt r =
      dite (ℕ_discrete (suc z) p)
      (λ (same : suc z ≡ p). absurd (not_here p Sync same i.0 (λ e. cc e) r))
      (λ (other : suc z ≢ p). spawn_ahead s (suc p) (p ∷ []) [] h.1 i.1 k z (omega (arith, le, other)) (omega (arith, lt)) r)
  spawn_ahead (child c u s) p prev ends h i k z le lt r =
      let e : ℕ = end_of u p in
      dite (ℕ_discrete (suc z) p)
      (λ (same : suc z ≡ p). absurd (not_here p (start_of c) same i.0 (start_not_resume c) r))
      (λ (other : suc z ≢ p). dite (ℕ_discrete (suc z) (suc p))
      (λ (begun : suc z ≡ suc p). absurd (not_here (suc p) Begin begun i.1 (λ e. cc e) r))
      (λ (more : suc z ≢ suc p). dite (dec_lt (suc z) (suc e))
      (λ (within : suc z < suc e). spawn_ahead u (suc (suc p)) (suc p ∷ []) [] h.1.1 i.2 k z (omega (arith, le, other, more)) (omega (arith, within)) r)
      (λ past. dite (ℕ_discrete (suc z) (suc e))
      (λ (back : suc z ≡ suc e).
      let at : z ≡ e = omega (arith, back) in
      at_child c u p k z at h.1 i.2 i.0 (subst (λ (j : ℕ). f (suc j) ≡ resumed_from c p j) (sym at) h.2.0) r)
      (λ (rest : suc z ≢ suc e). spawn_ahead s (suc (suc e)) (suc e ∷ []) (awaited c e ends) h.2.1 i.4 k z (omega (arith, past, rest)) (omega (arith, lt)) r))))

marks_at : (es : List Event) (i : ℕ) → mark_at (slice_get es i) ≡ get_or (map mark_of es) i Plain
marks_at [] zero = refl
marks_at [] (suc i) = refl
marks_at (e ∷ es) zero = refl
marks_at (e ∷ es) (suc i) = marks_at es i

module _ (shape : Shape) (s : EventOrder) (is_event_order : IsEventOrderOf shape s) where
  abbrev mark : ℕ → Mark
  mark p = mark_at (event_at s.events p)

  same : predecessors_of s ≡ preceding shape
  same = ap (λ (l : List (List ℕ)). (λ (p : ℕ). slice_index_or l (p - 1) [])) is_event_order.preceding

  laid : Laid (predecessors_of s) (whole shape) 1 [] []
  laid = subst (λ (g : ℕ → List ℕ). Laid g (whole shape) 1 [] []) (sym same) (laid_whole shape)

  marked : Marked mark shape 2
  marked = marked_shape mark shape 2 (λ i l. (let z : 2 + i - 1 ≡ suc i = omega arith in
      ap (λ (j : ℕ). mark_at (slice_get s.events j)) z ∙ marks_at s.events (suc i) ∙ ap (λ (l : List Mark). get_or l (suc i) Plain) is_event_order.spells))

  pub behind_spawn : (k z : ℕ) → 1 ≤ z → suc z ≤ length s.events → word_step s (suc z) ≡ resume k → Before s k z
  behind_spawn k z some within is =
      let r = resume_mark s.events (suc z) (event s (suc z)) (predecessors_of s (suc z)) k is in
      let wide : suc (long (line_of shape)) ≡ length s.events = long_whole shape s.events is_event_order.spells in
      spawn_ahead (predecessors_of s) mark shape 2 (1 ∷ []) [] laid.1 marked k z (omega (arith, some)) (omega (arith, within, wide))
      (record { spawned = (spawn_of s.events k (event s k) (predecessors_of s k) r.spawned).0; resumes = r.mark; alone = r.alone })
