-- In the serial run by names a frame retires what it created.
use Rattle.std.proofs.Common.{◌≡◌, ◌⊎◌, inl, inr, ⊎_elim, ℕ, suc, ℤ, Bool, true, false, true≢false, cond, List, [], ◌∷◌, ◌++◌, refl, sym, ◌∙◌, subst}
use Rattle.cilk_monoid.specs.declared.kind.MonoidKind.{MonoidKind}
use Rattle.cilk_program.specs.declared.ask.Ask.{Ask}
use Rattle.cilk_program.specs.declared.ask.Ask.TheVariants as asks
use Rattle.cilk_program.specs.declared.ask.Callee.{Callee}
use Rattle.cilk_program.specs.declared.ask.Callee.TheVariants as callees
use Rattle.cilk_types.specs.declared.invocation.Invocation.{Invocation}
use Rattle.cilk_types.specs.declared.invocation.Invocation.TheVariants.{Call, Spawn}
use Rattle.cilk_program.specs.declared.syntax.ReducerPlace.{ReducerPlace}
use Rattle.cilk_program.specs.declared.syntax.ReducerPlace.TheVariants as reducers
use Rattle.cilk_program.specs.Syntax.{Source, main_of, function_at}
use Rattle.cilk_program.specs.SerialRun as serial
use Rattle.cilk_program.specs.Order.{writings, creations, opening_asks, Stage, Fresh, Due, Going, Resuming, Synced, Closing, opened, IsOwnAt, IsOrderly}
use Rattle.cilk_program.proofs.Legal.{IsPlain}
use Rattle.cilk_program.proofs.Closings.{IsOpening, IsSound, AreOpening, opening_asks_open, opened_sound, View, Begins as BeginsNow, Opens, Goes, Calls as CallsNow, Spawns as SpawnsNow, Syncs as SyncsNow, Resumes as ResumesNow, Again, Gives, Ends as EndsNow, EndsThen, view}
use Rattle.cilk_determinacy.specs.Runs.{Instance, has_instance, same_instance}
use Rattle.cilk_determinacy.specs.Views.{IsCreate, IsRetire, IsRetiredAtHome}
use Rattle.cilk_determinacy.proofs.Basics.{same_instance-eq}
use Rattle.cilk_determinacy.specs.FrameEnvs.{Reducers, own_named, FrameEnv, env_of, first_env, child_env, reducer_seen}
use Rattle.cilk_determinacy.specs.FrameEnvMachine.{retired_from, retired_by}
use Rattle.cilk_determinacy.specs.Nested.{named_event, named_from, named}

-- ---- ends retire what was created

abbrev due_of : Stage → List Ask
due_of (Fresh due) = due
due_of (Due first due) = first ∷ due
due_of (Going w) = []
due_of (Resuming w) = []
due_of Synced = []
due_of Closing = []

due_opened : (due : List Ask) → due_of (opened due) ≡ due
due_opened [] = refl
due_opened (k ∷ due) = refl

-- the creation of an instance is due
abbrev DueCreates : FrameEnv → Instance → List Ask → Type 0
DueCreates w i [] = ⊥
DueCreates w i (asks.Create c ∷ due) = (reducer_seen w c ≡ i) ⊎ DueCreates w i due
DueCreates w i (k ∷ due) = DueCreates w i due

due_both : (w : FrameEnv) (i : Instance) (a b : List Ask) → DueCreates w i b → DueCreates w i (a ++ b)
due_both w i [] b h = h
due_both w i (asks.Begin ∷ a) b h = due_both w i a b h
due_both w i (asks.Read x ∷ a) b h = due_both w i a b h
due_both w i (asks.Write x y ∷ a) b h = due_both w i a b h
due_both w i (asks.Create c ∷ a) b h = inr (due_both w i a b h)
due_both w i (asks.Update c y ∷ a) b h = due_both w i a b h
due_both w i (asks.Set c y ∷ a) b h = due_both w i a b h
due_both w i (asks.Value c ∷ a) b h = due_both w i a b h
due_both w i (asks.Print y ∷ a) b h = due_both w i a b h
due_both w i (asks.Invoke how callee ∷ a) b h = due_both w i a b h
due_both w i (asks.Resume ∷ a) b h = due_both w i a b h
due_both w i (asks.Sync ∷ a) b h = due_both w i a b h
due_both w i (asks.Result y ∷ a) b h = due_both w i a b h
due_both w i (asks.End y ∷ a) b h = due_both w i a b h
due_both w i (asks.Fault f ∷ a) b h = due_both w i a b h

-- an instance that is retired has been created, or is due
due_retired : (p : Source) (w : FrameEnv) (i : Instance) (own : ℕ → Reducers) (place : ℕ → ReducerPlace) → ((n : ℕ) (k : MonoidKind) → reducer_seen w (record { place = place n; kind = k }) ≡ own n k) → (n : ℕ) (ks : List MonoidKind)
    → has_instance (retired_from own n ks) i ≡ true → DueCreates w i (creations place n ks)
due_retired p w i own place same n [] h = absurd (true≢false (sym h))
due_retired p w i own place same n (k ∷ ks) h = by (same_instance (own n k) i) refl h (due_retired p w i own place same (suc n) ks)
  where
    by : (b : Bool) → same_instance (own n k) i ≡ b → cond b true (has_instance (retired_from own (suc n) ks) i) ≡ true → (has_instance (retired_from own (suc n) ks) i ≡ true → DueCreates w i (creations place (suc n) ks))
        → (reducer_seen w (record { place = place n; kind = k }) ≡ i) ⊎ DueCreates w i (creations place (suc n) ks)
    by true e h rest = inl (same n k ∙ same_instance-eq (own n k) i e)
    by false e h rest = inr (rest h)

module _ (p : Source) (i : Instance) where
  -- a frame's stage: what it retires it has created, or is due
  abbrev Covers : FrameEnv → Type 0 → List Ask → Type 0
  Covers w mine due = has_instance (retired_by p w) i ≡ true → mine ⊎ DueCreates w i due

  record OneStep (w : FrameEnv) (s : Stage) (k : Ask) (v : ℤ) (G : Stage → Type 0) (mine : Type 0) : Type 0 where
    to : Stage
    sound : IsSound to
    goes : G to
    quiet : ¬ (IsRetire i (named_event p w k v))
    covers : Covers w mine (due_of s) → Covers w (mine ⊎ IsCreate i (named_event p w k v)) (due_of to)

  still : (w : FrameEnv) (mine other : Type 0) (due due' : List Ask) → due ≡ due' → Covers w mine due → Covers w (mine ⊎ other) due'
  still w mine other due due' e c h = subst (λ due. (mine ⊎ other) ⊎ DueCreates w i due) e (⊎_elim (λ m. inl (inl m)) (λ d. inr d) (c h))

  plain_quiet : (w : FrameEnv) (k : Ask) (v : ℤ) → IsPlain k → ¬ (IsRetire i (named_event p w k v))
  plain_quiet w asks.Begin v h = absurd h
  plain_quiet w (asks.Read x) v h = λ x. x
  plain_quiet w (asks.Write x y) v h = λ x. x
  plain_quiet w (asks.Create c) v h = absurd h
  plain_quiet w (asks.Update c y) v h = λ x. x
  plain_quiet w (asks.Set c y) v h = λ x. x
  plain_quiet w (asks.Value c) v h = λ x. x
  plain_quiet w (asks.Print y) v h = λ x. x
  plain_quiet w (asks.Invoke how callee) v h = absurd h
  plain_quiet w asks.Resume v h = absurd h
  plain_quiet w asks.Sync v h = absurd h
  plain_quiet w (asks.Result y) v h = absurd h
  plain_quiet w (asks.End y) v h = absurd h
  plain_quiet w (asks.Fault f) v h = absurd h

  opens : (w : FrameEnv) (k : Ask) (due : List Ask) (v : ℤ) (G : Stage → Type 0) (mine : Type 0) → IsOpening k → AreOpening due → G (opened due) → OneStep w (Due k due) k v G mine
  opens w (asks.Write x y) due v G mine o sound g = record { to = opened due; sound = opened_sound due sound; goes = g; quiet = λ x. x; covers = λ c. still w mine _ due (due_of (opened due)) (sym (due_opened due)) c }
  opens w (asks.Create r) due v G mine o sound g = record {
    to = opened due;
    sound = opened_sound due sound;
    goes = g;
    quiet = λ x. x;
    covers = λ c h. subst (λ due. (mine ⊎ (reducer_seen w r ≡ i)) ⊎ DueCreates w i due) (sym (due_opened due)) (⊎_elim (λ m. inl (inl m)) (⊎_elim (λ e. inl (inr e)) (λ d. inr d)) (c h));
  }
  opens w asks.Begin due v G mine o sound g = absurd o
  opens w (asks.Read x) due v G mine o sound g = absurd o
  opens w (asks.Update c y) due v G mine o sound g = absurd o
  opens w (asks.Set c y) due v G mine o sound g = absurd o
  opens w (asks.Value c) due v G mine o sound g = absurd o
  opens w (asks.Print y) due v G mine o sound g = absurd o
  opens w (asks.Invoke how callee) due v G mine o sound g = absurd o
  opens w asks.Resume due v G mine o sound g = absurd o
  opens w asks.Sync due v G mine o sound g = absurd o
  opens w (asks.Result y) due v G mine o sound g = absurd o
  opens w (asks.End y) due v G mine o sound g = absurd o
  opens w (asks.Fault f) due v G mine o sound g = absurd o

  -- an event after which the frame continues, or its end
  one_step : (w : FrameEnv) (G : Stage → Type 0) (mine : Type 0) (v : ℤ) (s : Stage) (k : Ask) → IsSound s → View G s k → (¬ ((how : Invocation) × (c : Callee) × (k ≡ asks.Invoke how c))) → OneStep w s k v G mine ⊎ ((due_of s ≡ []) × ((y : ℤ) × (k ≡ asks.End y)))
  one_step w G mine v (Fresh due) k sound (BeginsNow g) own = inl (record { to = opened due; sound = opened_sound due sound; goes = g; quiet = λ x. x; covers = λ c. still w mine _ due (due_of (opened due)) (sym (due_opened due)) c })
  one_step w G mine v (Due k due) k' sound (Opens g) own = inl (opens w k due v G mine sound.0 sound.1 g)
  one_step w G mine v (Going b) k sound (Goes plain g) own = inl (record { to = Going b; sound = tt; goes = g; quiet = plain_quiet w k v plain; covers = λ c. still w mine _ [] [] refl c })
  one_step w G mine v (Going b) k sound (CallsNow {callee = c} g) own = absurd (own (Call, c, refl))
  one_step w G mine v (Going b) k sound (SpawnsNow {callee = c} g) own = absurd (own (Spawn, c, refl))
  one_step w G mine v (Going b) k sound (SyncsNow g) own = inl (record { to = Synced; sound = tt; goes = g; quiet = λ x. x; covers = λ c. still w mine _ [] [] refl c })
  one_step w G mine v (Resuming b) k sound (ResumesNow g) own = inl (record { to = Going b; sound = tt; goes = g; quiet = λ x. x; covers = λ c. still w mine _ [] [] refl c })
  one_step w G mine v Synced k sound (Again g) own = again (one_step w G mine v (Going false) k tt g own)
    where
      again : OneStep w (Going false) k v G mine ⊎ ((due_of (Going false) ≡ []) × ((y : ℤ) × (k ≡ asks.End y))) → OneStep w Synced k v G mine ⊎ ((due_of Synced ≡ []) × ((y : ℤ) × (k ≡ asks.End y)))
      again (inl o) = inl (record { to = o.to; sound = o.sound; goes = o.goes; quiet = o.quiet; covers = o.covers })
      again (inr e) = inr e
  one_step w G mine v Synced k sound (Gives g) own = inl (record { to = Closing; sound = tt; goes = g; quiet = λ x. x; covers = λ c. still w mine _ [] [] refl c })
  one_step w G mine v Synced k sound (EndsNow {v = y}) own = inr (refl, (y, refl))
  one_step w G mine v Closing k sound (EndsThen {v = y}) own = inr (refl, (y, refl))

  no_invoke : (k : Ask) (r : serial.Transcript) → IsOwnAt k r → ¬ ((how : Invocation) × (c : Callee) × (k ≡ asks.Invoke how c))
  no_invoke k r own (how, c, e) = subst (λ k. IsOwnAt k r) e own

  at_end : (w : FrameEnv) (n : ℕ) (k : Ask) (v : ℤ) (r : serial.Transcript) (mine other : Type 0) → Covers w mine [] → IsOwnAt k r → (y : ℤ) → k ≡ asks.End y → (IsRetire i (named_event p w k v) → mine) × IsRetiredAtHome i (named_from p w n r) other
  at_end w n k v r mine other c own y e = (
    subst (λ k. IsRetire i (named_event p w k v) → mine) (sym e) (λ h. ⊎_elim (λ m. m) (λ d. absurd_of d) (c h)),
    subst (λ r. IsRetiredAtHome i (named_from p w n r) other) (sym (subst (λ k. IsOwnAt k r) e own)) tt,
  )
    where
      absurd_of : ⊥ → mine
      absurd_of d = absurd d

  -- at a child nothing is due, and the frame continues with a resume
  child_step : (G : Stage → Type 0) (how : Invocation) (callee : Callee) (s : Stage) → IsSound s → View G s (asks.Invoke how callee) → (due_of s ≡ []) × ((b : Bool) × G (Resuming b))
  child_step G how callee (Fresh due) sound h = elim h [ ]
  child_step G how callee (Due k due) sound (Opens g) = absurd sound.0
  child_step G how callee (Going b) sound (Goes plain g) = absurd plain
  child_step G how callee (Going b) sound (CallsNow g) = (refl, (b, g))
  child_step G how callee (Going b) sound (SpawnsNow g) = (refl, (true, g))
  child_step G how callee (Resuming b) sound h = elim h [ ]
  child_step G how callee Synced sound (Again g) = child_step G how callee (Going false) tt g
  child_step G how callee Closing sound h = elim h [ ]

  -- as a frame begins all is due
  env_covers : (name : _) (sight : _) (callee : Callee) → let w : FrameEnv = env_of p name sight callee in Covers w ⊥ (opening_asks p callee)
  env_covers name sight callees.Root h =
      let f = main_of p in
      let w : FrameEnv = env_of p name sight callees.Root in
      inr (due_both w i (creations reducers.Global 0 p.reducers) (creations (reducers.Own 0) 0 f.reducers) (due_retired p w i (own_named p callees.Root name) (reducers.Own 0) (λ n k. refl) 0 f.reducers h))
  env_covers name sight (callees.Function c) h =
      let f = function_at p c.function in
      let w : FrameEnv = env_of p name sight (callees.Function c) in
      inr (due_both w i (writings 0 c.words) (creations (reducers.Own 0) 0 f.reducers) (due_retired p w i (own_named p (callees.Function c) name) (reducers.Own 0) (λ n k. refl) 0 f.reducers h))
  env_covers name sight (callees.Loop l) h = absurd (true≢false (sym h))

  pub retired_at_home : (w : FrameEnv) (n : ℕ) (s : Stage) (r : serial.Transcript) → IsSound s → IsOrderly p s r → (mine : Type 0) → Covers w mine (due_of s) → IsRetiredAtHome i (named_from p w n r) mine
  retired_at_home w n s serial.stop sound orderly mine c = tt
  retired_at_home w n s (serial.act k v r) sound orderly mine c =
      by (one_step w (λ s'. IsOrderly p s' r) mine v s k sound (view s k (λ s'. IsOrderly p s' r) orderly.0) (no_invoke k r orderly.1)) (λ to sound' goes other c'. retired_at_home w n to r sound' goes other c')
    where
      by : OneStep w s k v (λ s'. IsOrderly p s' r) mine ⊎ ((due_of s ≡ []) × ((y : ℤ) × (k ≡ asks.End y)))
          → ((to : Stage) → IsSound to → IsOrderly p to r → (other : Type 0) → Covers w other (due_of to) → IsRetiredAtHome i (named_from p w n r) other)
          → (IsRetire i (named_event p w k v) → mine) × IsRetiredAtHome i (named_from p w n r) (mine ⊎ IsCreate i (named_event p w k v))
      by (inl o) rest = ((λ h. absurd_of (o.quiet h)), rest o.to o.sound o.goes (mine ⊎ IsCreate i (named_event p w k v)) (o.covers c))
        where
          absurd_of : ⊥ → mine
          absurd_of h = absurd h
      by (inr (nothing, end)) rest = at_end w n k v r mine (mine ⊎ IsCreate i (named_event p w k v)) (subst (Covers w mine) nothing c) orderly.1 end.0 end.1
  retired_at_home w n s (serial.child how callee u r) sound orderly mine c =
      let next = child_step (λ s'. IsOrderly p s' r) how callee s sound (view s (asks.Invoke how callee) (λ s'. IsOrderly p s' r) orderly.1) in (
        retired_at_home (child_env p w n callee) 1 (Fresh (opening_asks p callee)) u (opening_asks_open p callee) orderly.0 ⊥ (env_covers (w.name ++ n ∷ []) w.sight callee),
        retired_at_home w (suc n) (Resuming next.1.0) r tt next.1.1 mine (subst (Covers w mine) next.0 c),
      )

  pub root_retires : (r : serial.Transcript) → IsOrderly p (Fresh (opening_asks p callees.Root)) r → IsRetiredAtHome i (named p r) ⊥
  root_retires r orderly = retired_at_home (first_env p) 1 (Fresh (opening_asks p callees.Root)) r (opening_asks_open p callees.Root) orderly ⊥ (env_covers [] [] callees.Root)
