-- By names a program has at most one serial run: `runs_are_one`. The serial run by names is one:
-- `named_runs_are_serial`.
use Rattle.std.proofs.Common.{◌≡◌, ℤ, Bool, List, [], ◌∷◌, ◌++◌, Option, Some, refl, sym, ap, ◌∙◌, subst}
use Rattle.cilk_types.specs.declared.invocation.Invocation.{Invocation}
use Rattle.cilk_monoid.specs.Laws.{MonoidStructure}
use Rattle.cilk_program.specs.Outcomes.{Leaves}
use Rattle.cilk_determinacy.specs.Monoids.{on_view}
use Rattle.cilk_determinacy.specs.Runs.{Cell, Instance, Ask, Invoke, Event, Reads, Writes, Syncs, Ends, Passes, Deed, Does, Invokes, Run, stop, act, child, ask_of}
use Rattle.cilk_determinacy.specs.Machine.{put}
use Rattle.cilk_determinacy.specs.Serial.{value_after, IsSerial, Behaves}
use Rattle.cilk_determinacy.specs.MachineTheorem.{follows}
use Rattle.cilk_determinacy.specs.Views.{view_after, IsSerialViews}
use Rattle.cilk_determinacy.proofs.Determinate.{serial_by_names}
use Rattle.cilk_determinacy.proofs.Wordy.{set_words}
use Rattle.cilk_replay.specs.InputCourses.{SerialRunsAreOne}
use Rattle.cilk_replay.specs.Ends.{NamedRunsAreSerial}
use Rattle.cilk_replay.proofs.OneCourse.{same_event}

pub invoked : {W : Type 0} (e : Event) (k : Invocation) (v : W) → ask_of e ≡ Invoke k v → ⊥
invoked (Reads c x) k v q = cc q
invoked (Writes c x) k v q = cc q
invoked Syncs k v q = cc q
invoked (Ends x gone) k v q = cc q
invoked (Passes m) k v q = cc q

module _ (W V : Type 0) (M : Instance → MonoidStructure V) (next : W → List (Deed W) → Option (Ask W)) where
  same_ask : (w : W) (past : List (Deed W)) (a b : Ask W) → next w past ≡ Some a → next w past ≡ Some b → a ≡ b
  same_ask w past a b g h = cc

  same_kind : (j k : Invocation) (v x : W) → Invoke j v ≡ Invoke k x → j ≡ k
  same_kind j k v x q = cc

  same_env : (j k : Invocation) (v x : W) → Invoke j v ≡ Invoke k x → v ≡ x
  same_env j k v x q = cc

  pub one_run : (w : W) (past : List (Deed W)) (memory : Cell → ℤ) (views : Instance → V) (t u : Run W) → Behaves W (follows next) w past t
      → IsSerial t memory → IsSerialViews M t views
      → Behaves W (follows next) w past u → IsSerial u memory → IsSerialViews M u views → t ≡ u
  one_run w past memory views stop stop b s v b' s' v' = refl
  one_run w past memory views stop (act e u) b s v b' s' v' = absurd (b (ask_of e) b'.0)
  one_run w past memory views stop (child k x d u) b s v b' s' v' = absurd (b (Invoke k x) b'.0)
  one_run w past memory views (act e t) stop b s v b' s' v' = absurd (b' (ask_of e) b.0)
  one_run w past memory views (act e t) (child k x d u) b s v b' s' v' = absurd (invoked e k x (same_ask w past (ask_of e) (Invoke k x) b.0 b'.0))
  one_run w past memory views (act e t) (act x u) b s v b' s' v' =
      let same : e ≡ x = same_event M memory views e x (same_ask w past (ask_of e) (ask_of x) b.0 b'.0) s.0 s'.0 v.0 v'.0 in
      let back : x ≡ e = sym same in
      ap (λ (z : Run W). act e z) (one_run w (past ++ Does e ∷ []) (λ c. put e c (memory c)) (λ i. on_view (M i) i e (views i)) t u b.1 s.1 v.1
      (subst (λ (z : Event). Behaves W (follows next) w (past ++ Does z ∷ []) u) back b'.1)
      (subst (λ (z : Event). IsSerial u (λ c. put z c (memory c))) back s'.1)
      (subst (λ (z : Event). IsSerialViews M u (λ i. on_view (M i) i z (views i))) back v'.1))
      ∙ ap (λ (z : Event). act z u) same
  one_run w past memory views (child j v t t') stop b s n b' s' n' = absurd (b' (Invoke j v) b.0)
  one_run w past memory views (child j v t t') (act e u) b s n b' s' n' = absurd (invoked e j v (same_ask w past (ask_of e) (Invoke j v) b'.0 b.0))
  one_run w past memory views (child j v t t') (child k x d u) b s n b' s' n' =
      let ask = same_ask w past (Invoke j v) (Invoke k x) b.0 b'.0 in
      let how : k ≡ j = sym (same_kind j k v x ask) in
      let what : x ≡ v = sym (same_env j k v x ask) in
      let inner : t ≡ d = one_run v [] memory views t d b.1 s.0 n.0 (subst (λ (z : W). Behaves W (follows next) z [] d) what b'.1) s'.0 n'.0 in
      let back : d ≡ t = sym inner in
      let rest : t' ≡ u = one_run w (past ++ Invokes j v ∷ []) (λ c. value_after t c (memory c)) (λ i. view_after (M i) i t (views i)) t' u b.2 s.1 n.1
      (subst (λ (z : Invocation). Behaves W (follows next) w (past ++ Invokes z v ∷ []) u) how (subst (λ (z : W). Behaves W (follows next) w (past ++ Invokes k z ∷ []) u) what b'.2))
      (subst (λ (z : Run W). IsSerial u (λ c. value_after z c (memory c))) back s'.1)
      (subst (λ (z : Run W). IsSerialViews M u (λ i. view_after (M i) i z (views i))) back n'.1) in
      ap (λ (z : Run W). child j v t z) rest
      ∙ ap (λ (z : Run W). child j v z u) inner
      ∙ ap (λ (z : W). child j z d u) (sym what)
      ∙ ap (λ (z : Invocation). child z x d u) (sym how)

pub runs_are_one : (W V : Type 0) (M : Instance → MonoidStructure V) (next : W → List (Deed W) → Option (Ask W)) (same : W → W → Bool)
    → SerialRunsAreOne W V M next same
runs_are_one W V M next same w memory views t u g h = one_run W V M next w [] memory views t u g.behaves g.reads g.values h.behaves h.reads h.values

pub named_runs_are_serial : NamedRunsAreSerial
named_runs_are_serial p inputs r es outcome well has words runs =
    let h = serial_by_names p inputs r es outcome well runs (set_words p has inputs words r es (Leaves outcome) runs) in
    record { behaves = h.behaves; framed = h.framed; reads = h.serial; values = h.views }
