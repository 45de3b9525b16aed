-- The free machine's frames where one has started another.
--
-- - `kid_at`, `here_at`, `else_at`: the new frame, the one that started it, and each other;
-- - `ends_same`, `size_off`, `size_kid`: which have ended, and their cells;
-- - `joined_same`, `end_before`: joins, and a frame's end.
use Rattle.std.proofs.Common.{◌≡◌, Bool, true, false, true≢false, ℕ, suc, [], ◌∷◌, ◌++◌, Some, None, refl, sym, ap, ◌∙◌, subst, arith}
use Rattle.cilk_types.specs.declared.invocation.Invocation.{Invocation}
use Rattle.cilk_program.specs.SerialRun.{cells_of}
use Rattle.cilk_program.specs.Syntax.{Source}
use Rattle.cilk_determinacy.specs.Cuts.{joined, joined_at}
use Rattle.cilk_determinacy.specs.Machine.{Frame, State, HasEnd, after_deed, begun, deeds_at, started}
use Rattle.cilk_determinacy.specs.Runs.{Name, same_name, Invokes}
use Rattle.cilk_determinacy.proofs.Basics.{same_name-refl, same_name-eq}
use Rattle.cilk_determinacy.proofs.Joins.{joined_step}
use Rattle.cilk_determinacy.specs.FrameEnvMachine.{has_ended}
use Rattle.cilk_determinacy.specs.Reducers.{View}
use Rattle.cilk_determinacy.specs.FrameEnvs.{FrameEnv}
use Rattle.cilk_determinacy.proofs.Histories.{ended_more}
use Rattle.cilk_scheduler.specs.Numbered.{size_of}
use Rattle.cilk_scheduler.proofs.Children.{end_child}
use Rattle.cilk_scheduler.proofs.Onward.{longer, name_off}
use Rattle.cilk_scheduler.proofs.Touched.{joined_child}

pub off_by : (n m : Name) → same_name n m ≡ false → n ≡ m → ⊥
off_by n m q e = true≢false (sym (same_name-refl n) ∙ ap (λ z. same_name n z) e ∙ q)

module _ (p : Source) (s s' : State FrameEnv View) (n : Name) (f : Frame FrameEnv) (how : Invocation) (v : FrameEnv) (here : s.frames n ≡ Some f) (fresh : s.frames (n ++ suc (started f.deeds) ∷ []) ≡ None) (going : has_ended f.deeds ≡ false)
    (made : s'.frames ≡ after_deed s.frames n f (Invokes how v)) where
  abbrev kid : Name
  kid = n ++ suc (started f.deeds) ∷ []

  pub kid_at : s'.frames kid ≡ Some (begun v)
  kid_at = ap (λ z. z kid) made ∙ rw (same_name-refl kid) refl

  pub here_at : s'.frames n ≡ Some (record f { deeds = f.deeds ++ Invokes how v ∷ [] })
  here_at = ap (λ z. z n) made ∙ rw (name_off kid n (λ q. longer n (suc (started f.deeds)) q), same_name-refl n) refl

  pub else_at : (m : Name) → (n ≡ m → ⊥) → (kid ≡ m → ⊥) → s'.frames m ≡ s.frames m
  else_at m ne ne' = ap (λ z. z m) made ∙ rw (name_off kid m ne', name_off n m ne) refl

  pub ends_same : (m : Name) → has_ended (deeds_at (s'.frames m)) ≡ has_ended (deeds_at (s.frames m))
  ends_same m = by (same_name kid m) refl (same_name n m) refl
    where
      by : (c : Bool) → same_name kid m ≡ c → (e : Bool) → same_name n m ≡ e → has_ended (deeds_at (s'.frames m)) ≡ has_ended (deeds_at (s.frames m))
      by true c e q =
          let is = same_name-eq kid m c in
          ap (λ z. has_ended (deeds_at (s'.frames z))) (sym is) ∙ ap (λ f. has_ended (deeds_at f)) kid_at ∙ sym (ap (λ f. has_ended (deeds_at f)) fresh) ∙ ap (λ z. has_ended (deeds_at (s.frames z))) is
      by false c true e =
          let is = same_name-eq n m e in
          ap (λ z. has_ended (deeds_at (s'.frames z))) (sym is) ∙ ap (λ f. has_ended (deeds_at f)) here_at ∙ ended_more f.deeds (Invokes how v) going ∙ sym (ap (λ f. has_ended (deeds_at f)) here ∙ going)
          ∙ ap (λ z. has_ended (deeds_at (s.frames z))) is
      by false c false e = ap (λ f. has_ended (deeds_at f)) (else_at m (off_by n m e) (off_by kid m c))

  pub size_off : (m : Name) → (kid ≡ m → ⊥) → size_of p (s'.frames m) ≡ size_of p (s.frames m)
  size_off m ne = by (same_name n m) refl
    where
      by : (c : Bool) → same_name n m ≡ c → size_of p (s'.frames m) ≡ size_of p (s.frames m)
      by true q =
          let is = same_name-eq n m q in
          ap (λ z. size_of p (s'.frames z)) (sym is) ∙ ap (λ f. size_of p f) here_at ∙ sym (ap (λ f. size_of p f) here) ∙ ap (λ z. size_of p (s.frames z)) is
      by false q = ap (λ f. size_of p f) (else_at m (off_by n m q) ne)

  pub size_kid : size_of p (s'.frames kid) ≡ cells_of p v.callee
  size_kid = ap (λ f. size_of p f) kid_at

  pub joined_same : (m : Name) (q : ℕ) → joined_at 1 q (deeds_at (s.frames m)) ≡ joined_at 1 q (deeds_at (s'.frames m))
  joined_same m q =
      let z = joined_step n s.frames f (Invokes how v) here (ap (λ f. deeds_at f) fresh) (m ++ q ∷ []) in
      let step : joined s.frames (m ++ q ∷ []) ≡ joined (after_deed s.frames n f (Invokes how v)) (m ++ q ∷ []) = omega (arith, z) in
      sym (joined_child s.frames m q) ∙ step ∙ ap (λ f. joined f (m ++ q ∷ [])) (sym made) ∙ joined_child s'.frames m q

  pub end_before : (m : Name) → HasEnd (deeds_at (s'.frames m)) → HasEnd (deeds_at (s.frames m))
  end_before m g = by (same_name kid m) refl (same_name n m) refl
    where
      by : (c : Bool) → same_name kid m ≡ c → (e : Bool) → same_name n m ≡ e → HasEnd (deeds_at (s.frames m))
      by true c e q = absurd (subst (λ f. HasEnd (deeds_at f)) kid_at (subst (λ z. HasEnd (deeds_at (s'.frames z))) (sym (same_name-eq kid m c)) g))
      by false c true e =
          let is = same_name-eq n m e in
          subst (λ z. HasEnd (deeds_at (s.frames z))) is
          (subst (λ f. HasEnd (deeds_at f)) (sym here) (end_child f.deeds how v (subst (λ f. HasEnd (deeds_at f)) here_at (subst (λ z. HasEnd (deeds_at (s'.frames z))) (sym is) g))))
      by false c false e = subst (λ f. HasEnd (deeds_at f)) (else_at m (off_by n m e) (off_by kid m c)) g
