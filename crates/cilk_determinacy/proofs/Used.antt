-- In the serial run by names a reducer is created before it is used.
use Rattle.std.proofs.Common.{◌≡◌, ◌⊎◌, inl, inr, ⊎_elim, List, [], ◌∷◌, ◌++◌, refl, ap, ◌∙◌, subst}
use Rattle.cilk_types.specs.declared.event.Instance as numbered
use Rattle.cilk_types.specs.declared.event.Event as numbers
use Rattle.cilk_program.specs.Syntax.{Source}
use Rattle.cilk_program.specs.SerialRun as serial
use Rattle.cilk_program.specs.Created.{Among, Passes as Goes, deed_of, IsCreated, made_by, AreCreated}
use Rattle.cilk_types.specs.declared.invocation.Invocation.{Invocation}
use Rattle.cilk_types.specs.declared.invocation.Invocation.TheVariants.{Call, Spawn}
use Rattle.cilk_determinacy.specs.Runs.{Instance, Output, Reducer, Event, Reads, Writes, Syncs, Ends, Passes, Begins, Resumes, Creates, Updates, Sets, Values, Prints, Deed, Invokes, Run, stop, act, child}
use Rattle.cilk_determinacy.specs.Views.{HasEventWith, IsReducerRead, IsUpdate, IsCreatedFirst, IsCreated as IsCreatedOrUnread}
use Rattle.cilk_determinacy.specs.Traces.{trace, IsWrittenEvent, IsWritten, AreWritten}
use Rattle.cilk_determinacy.specs.FrameEnvs.{FrameEnv}
use Rattle.cilk_determinacy.specs.Numbers.{cell_number, instance_number, HasInstance}
use Rattle.cilk_determinacy.proofs.Numbers.{declared_one}
use Rattle.cilk_determinacy.proofs.Remembered.{EventHas, RunHas}

abbrev created : List numbers.Event → List numbered.Instance → List numbered.Instance
created [] made = made
created (e ∷ es) made = created es (made_by (deed_of e) made)

created_split : (es es' : List numbers.Event) (made : List numbered.Instance) → AreCreated made (es ++ es') → AreCreated made es × AreCreated (created es made) es'
created_split [] es' made h = (tt, h)
created_split (e ∷ es) es' made h = let g = created_split es es' (made_by (deed_of e) made) h.1 in ((h.0, g.0), g.1)

created_append : (es es' : List numbers.Event) (made : List numbered.Instance) → created (es ++ es') made ≡ created es' (created es made)
created_append [] es' made = refl
created_append (e ∷ es) es' made = created_append es es' (made_by (deed_of e) made)

module _ {W : Type 0} (cell : _) (instance : Instance → numbered.Instance) where
  pub written_split : (a b : List (Deed W)) (es : List numbers.Event) → AreWritten cell instance (a ++ b) es
      → (xs : List numbers.Event) × (ys : List numbers.Event) × (es ≡ xs ++ ys) × AreWritten cell instance a xs × AreWritten cell instance b ys
  written_split [] b es h = ([], es, refl, tt, h)
  written_split (d ∷ a) b [] h = absurd h
  written_split (d ∷ a) b (e ∷ es) h = let g = written_split a b es h.1 in (e ∷ g.0, g.1, ap (λ l. e ∷ l) g.2, (h.0, g.3), g.4)

  -- a child's start is no event of a reducer
  started_deed : (k : Invocation) (w : W) (e : numbers.Event) → IsWritten cell instance (Invokes k w) e → deed_of e ≡ Goes
  started_deed Call w e (f, h) = ap deed_of h
  started_deed Spawn w e (f, h) = ap deed_of h

module _ (p : Source) (whole : serial.Transcript) (i : Instance) where
  abbrev N : Instance → numbered.Instance
  N = instance_number p whole

  abbrev Written : List (Deed FrameEnv) → List numbers.Event → Type 0
  Written = AreWritten (cell_number p whole) N

  one_instance : (i j : Instance) → HasInstance p whole i → HasInstance p whole j → N j ≡ N i → j ≡ i
  one_instance Output j h g e = absurd h
  one_instance (Reducer name n k) Output h g e = absurd g
  one_instance (Reducer name n k) (Reducer name' n' k') h g e = declared_one p whole name' name n' n k' k g h e

  abbrev AmongThen : List numbered.Instance → numbers.Event → Type 0
  AmongThen made n = Among (N i) (made_by (deed_of n) made)

  -- what an event adds to what was created
  event_adds : (e : Event) (n : numbers.Event) (made : List numbered.Instance) → IsWrittenEvent (cell_number p whole) N e n → EventHas p whole e → HasInstance p whole i → AmongThen made n → Among (N i) made ⊎ IsReducerRead i e
  event_adds (Reads c v) n made e has here a = inl (subst (AmongThen made) e a)
  event_adds (Writes c v) n made e has here a = inl (subst (AmongThen made) e a)
  event_adds Syncs n made e has here a = inl (subst (AmongThen made) e a)
  event_adds (Ends v gone) n made e has here a = inl (subst (AmongThen made) e a)
  event_adds (Passes Begins) n made (f, e) has here a = inl (subst (AmongThen made) e a)
  event_adds (Passes Resumes) n made (f, e) has here a = inl (subst (AmongThen made) e a)
  event_adds (Passes (Creates j)) n made e has here a = by (subst (AmongThen made) e a)
    where
      by : (N j ≡ N i) ⊎ Among (N i) made → Among (N i) made ⊎ (j ≡ i)
      by (inl same) = inr (one_instance i j here has same)
      by (inr a) = inl a
  event_adds (Passes (Updates j x)) n made e has here a = inl (subst (AmongThen made) e a)
  event_adds (Passes (Sets j x)) n made e has here a = inl (subst (AmongThen made) e a)
  event_adds (Passes (Values j x)) n made e has here a = inl (subst (AmongThen made) e a)
  event_adds (Passes (Prints x)) n made e has here a = inl (subst (AmongThen made) e a)

  -- an update is of an instance that was created
  update_made : (name : _) (place : _) (kind : _) → i ≡ Reducer name place kind → (e : Event) (n : numbers.Event) (made : List numbered.Instance) → IsWrittenEvent (cell_number p whole) N e n → EventHas p whole e → IsCreated (deed_of n) made → IsUpdate i e → HasInstance p whole i × Among (N i) made
  update_made name place kind is (Reads d v) n made w has h u = absurd u
  update_made name place kind is (Writes d v) n made w has h u = absurd u
  update_made name place kind is Syncs n made w has h u = absurd u
  update_made name place kind is (Ends v gone) n made w has h u = absurd u
  update_made name place kind is (Passes Begins) n made w has h u = absurd u
  update_made name place kind is (Passes Resumes) n made w has h u = absurd u
  update_made name place kind is (Passes (Creates j)) n made w has h u = absurd u
  update_made name place kind is (Passes (Updates j x)) n made e has h u =
      (subst (HasInstance p whole) u has, subst (λ j. Among (N j) made) u (subst (λ n. IsCreated (deed_of n) made) e h))
  update_made name place kind is (Passes (Sets j x)) n made w has h u = absurd u
  update_made name place kind is (Passes (Values j x)) n made w has h u = absurd u
  update_made name place kind is (Passes (Prints x)) n made w has h u = absurd (subst is_output (u ∙ is) tt)
    where
      is_output : Instance → Type 0
      is_output Output = Unit {0}
      is_output (Reducer name n k) = ⊥

  -- what a run adds
  run_adds : (t : Run FrameEnv) (es : List numbers.Event) (made : List numbered.Instance) → Written (trace t) es → RunHas p whole t → HasInstance p whole i → Among (N i) (created es made) → Among (N i) made ⊎ HasEventWith (IsReducerRead i) t
  run_adds stop [] made w has here a = inl a
  run_adds stop (n ∷ es) made w has here a = absurd w
  run_adds (act e t) [] made w has here a = absurd w
  run_adds (act e t) (n ∷ es) made w has here a =
      ⊎_elim (λ b. ⊎_elim (λ c. inl c) (λ c. inr (inl c)) (event_adds e n made w.0 has.0 here b)) (λ b. inr (inr b)) (run_adds t es (made_by (deed_of n) made) w.1 has.1 here a)
  run_adds (child k v u t) [] made w has here a = absurd w
  run_adds (child k v u t) (n ∷ es) made w has here a =
      let split = written_split (cell_number p whole) N (trace u) (trace t) es w.1 in
      let started = started_deed (cell_number p whole) N k v n w.0 in
      let a' = subst (λ d. Among (N i) (created es (made_by d made))) started a in
      let a'' = subst (Among (N i)) (created_append split.0 split.1 made) (subst (λ es. Among (N i) (created es made)) split.2 a') in
      ⊎_elim (λ b. ⊎_elim (λ c. inl c) (λ c. inr (inl c)) (run_adds u split.0 made split.3 has.0 here b)) (λ b. inr (inr b)) (run_adds t split.1 (created split.0 made) split.4 has.1 here a'')

  created_first : (name : _) (place : _) (kind : _) → i ≡ Reducer name place kind → (t : Run FrameEnv) (es : List numbers.Event) (made : List numbered.Instance) (seen : Type 0) → Written (trace t) es → RunHas p whole t → (HasInstance p whole i → Among (N i) made → seen) → AreCreated made es
      → IsCreatedFirst i t seen
  created_first name place kind is stop es made seen w has s h = tt
  created_first name place kind is (act e t) [] made seen w has s h = absurd w
  created_first name place kind is (act e t) (n ∷ es) made seen w has s h = (
    (λ u. let g = update_made name place kind is e n made w.0 has.0 h.0 u in s g.0 g.1),
    created_first name place kind is t es (made_by (deed_of n) made) (seen ⊎ IsReducerRead i e) w.1 has.1 (λ here a. ⊎_elim (λ b. inl (s here b)) (λ b. inr b) (event_adds e n made w.0 has.0 here a)) h.1,
  )
  created_first name place kind is (child k v u t) [] made seen w has s h = absurd w
  created_first name place kind is (child k v u t) (n ∷ es) made seen w has s h =
      let split = written_split (cell_number p whole) N (trace u) (trace t) es w.1 in
      let started = started_deed (cell_number p whole) N k v n w.0 in
      let h' = subst (λ d. AreCreated (made_by d made) es) started h.1 in
      let both = created_split split.0 split.1 made (subst (AreCreated made) split.2 h') in (
        created_first name place kind is u split.0 made seen split.3 has.0 s both.0,
        created_first name place kind is t split.1 (created split.0 made) (seen ⊎ HasEventWith (IsReducerRead i) u) split.4 has.1 (λ here a. ⊎_elim (λ b. inl (s here b)) (λ b. inr b) (run_adds u split.0 made split.3 has.0 here a)) both.1,
      )

  -- nobody reads the output
  event_unread : (e : Event) → EventHas p whole e → i ≡ Output → ¬ (IsReducerRead i e)
  event_unread (Reads c v) has is h = h
  event_unread (Writes c v) has is h = h
  event_unread Syncs has is h = h
  event_unread (Ends v gone) has is h = h
  event_unread (Passes Begins) has is h = h
  event_unread (Passes Resumes) has is h = h
  event_unread (Passes (Creates j)) has is h = subst (HasInstance p whole) (h ∙ is) has
  event_unread (Passes (Updates j x)) has is h = h
  event_unread (Passes (Sets j x)) has is h = subst (HasInstance p whole) (h ∙ is) has
  event_unread (Passes (Values j x)) has is h = subst (HasInstance p whole) (h ∙ is) has
  event_unread (Passes (Prints x)) has is h = h

  output_unread : (t : Run FrameEnv) → RunHas p whole t → i ≡ Output → ¬ (HasEventWith (IsReducerRead i) t)
  output_unread stop has is h = h
  output_unread (act e t) has is (inl h) = event_unread e has.0 is h
  output_unread (act e t) has is (inr h) = output_unread t has.1 is h
  output_unread (child k w u t) has is (inl h) = output_unread u has.0 is h
  output_unread (child k w u t) has is (inr h) = output_unread t has.1 is h

pub run_created : (p : Source) (whole : serial.Transcript) (i : Instance) (t : Run FrameEnv) (es : List numbers.Event) → AreWritten (cell_number p whole) (instance_number p whole) (trace t) es → RunHas p whole t → AreCreated [] es → IsCreatedOrUnread i t
run_created p whole Output t es w has h = inr (output_unread p whole Output t has refl)
run_created p whole (Reducer name n k) t es w has h = inl (created_first p whole (Reducer name n k) name n k refl t es [] ⊥ w has (λ here a. a) h)
