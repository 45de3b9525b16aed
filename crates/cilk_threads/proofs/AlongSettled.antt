-- If the reducers of a plan are settled, they are settled in each event order along it:
-- `along_settled`.
--
-- - `mentions_is`: which reducers an event is of, by its kind;
-- - `frames_same`: events of the same kinds are in the same frames.
use Rattle.std.proofs.Common.{◌≡◌, ◌⊎◌, ⊎_elim, inl, inr, ℕ, zero, suc, ◌+◌, ◌-◌, ℤ, List, [], ◌∷◌, map, Option, Some, None, slice_get, refl, sym, ap, ◌∙◌, subst}
use Rattle.std.specs.Option.{option_map}
use Rattle.std.proofs.lemmas.Option.{slice_get-map}
use Rattle.cilk_types.specs.declared.event.Event.{Event}
use Rattle.cilk_types.specs.declared.event.Event.TheVariants as events
use Rattle.cilk_types.specs.declared.event.Instance.{Instance}
use Rattle.cilk_monoid.specs.Ranges.{Mentions, Resets}
use Rattle.cilk_hypermap.specs.Views.{output}
use Rattle.cilk_tree.specs.Reach.{Reaches}
use Rattle.cilk_tree.specs.declared.mark.Mark.TheVariants as mark
use Rattle.cilk_tree.specs.Word.{WordEvent, plain, read, write, spawn, resume, finish, word_event, event, predecessors_of, word_step, Before, IsWord}
use Rattle.cilk_tree.proofs.Events.{mark_at, spawn_mark}
use Rattle.cilk_tree.specs.declared.kind.Kind.{Kind}
use Rattle.cilk_tree.specs.declared.kind.Kind.TheVariants as kinds
use Rattle.cilk_tree.specs.Kinds.{kind_of}
use Rattle.cilk_tree.proofs.AlongPlans.{afters, was_word}
use Rattle.cilk_shared.specs.declared.reducers.Reducers.{Reducers}
use Rattle.cilk_shared.specs.Reducers.{own, retired, entered, frame_behind, frame_in, of_event, events_at}
use Rattle.cilk_shared.specs.Settled.{Settles}
use Rattle.cilk_threads.specs.Laws.{EventOrdersAlongAreSettled}

-- ---- by kinds
abbrev MentionedBy : Reducers → ℕ → Instance → Option Kind → Type 0
MentionedBy r f i (Some (kinds.Create j)) = (j ≡ i) ⊎ ⊥
MentionedBy r f i (Some (kinds.Update j)) = (j ≡ i) ⊎ ⊥
MentionedBy r f i (Some (kinds.Set j)) = (j ≡ i) ⊎ ⊥
MentionedBy r f i (Some kinds.Print) = (output ≡ i) ⊎ ⊥
MentionedBy r f i (Some kinds.End) = Mentions i (retired f (own r f))
MentionedBy r f i _ = ⊥

mentions_is : (r : Reducers) (f : ℕ) (i : Instance) (o : Option Event) → Mentions i (of_event r f o) ≡ MentionedBy r f i (option_map kind_of o)
mentions_is r f i None = refl
mentions_is r f i (Some (events.Begin n)) = refl
mentions_is r f i (Some (events.Spawn n)) = refl
mentions_is r f i (Some (events.Call n)) = refl
mentions_is r f i (Some (events.Resume n)) = refl
mentions_is r f i (Some events.Sync) = refl
mentions_is r f i (Some events.End) = refl
mentions_is r f i (Some (events.Read c v)) = refl
mentions_is r f i (Some (events.Write c v)) = refl
mentions_is r f i (Some (events.Create j)) = refl
mentions_is r f i (Some (events.Update j v)) = refl
mentions_is r f i (Some (events.Set j v)) = refl
mentions_is r f i (Some (events.Value j v)) = refl
mentions_is r f i (Some (events.Print v)) = refl

abbrev SettledBy : Reducers → ℕ → Instance → Option Kind → Type 0
SettledBy r f i (Some (kinds.Create j)) = (j ≡ i)
SettledBy r f i (Some (kinds.Set j)) = (j ≡ i)
SettledBy r f i (Some (kinds.Value j)) = (j ≡ i)
SettledBy r f i (Some kinds.End) = Resets i (retired f (own r f))
SettledBy r f i _ = ⊥

abbrev Settling : Reducers → ℕ → Instance → Option Event → Type 0
Settling r f i o = ((v : ℤ) × (o ≡ Some (events.Value i v))) ⊎ Resets i (of_event r f o)

one_of : {X Y : Type 0} → (X × Y) ⊎ ⊥ → X
one_of (inl h) = h.0
one_of (inr h) = absurd h

to_kind : (r : Reducers) (f : ℕ) (i : Instance) (o : Option Event) → Settling r f i o → SettledBy r f i (option_map kind_of o)
to_kind r f i (Some (events.Value j v)) (inl h) = let e : j ≡ i = cc h.1 in e
to_kind r f i (Some (events.Create j)) (inr h) = one_of h
to_kind r f i (Some (events.Set j v)) (inr h) = one_of h
to_kind r f i (Some events.End) (inr h) = h
to_kind r f i (Some (events.Update j v)) (inr h) = ⊎_elim (λ x. x.1) (λ (x : ⊥). x) h
to_kind r f i (Some (events.Print v)) (inr h) = ⊎_elim (λ x. x.1) (λ (x : ⊥). x) h
to_kind r f i o (inl h) = absurd (cc h.1)
to_kind r f i o (inr h) = absurd h

of_kind : (r : Reducers) (f : ℕ) (i : Instance) (o : Option Event) → SettledBy r f i (option_map kind_of o) → Settling r f i o
of_kind r f i (Some (events.Value j v)) h = inl (v, ap (λ (k : Instance). Some (events.Value k v)) h)
of_kind r f i (Some (events.Create j)) h = inr (inl (h, tt))
of_kind r f i (Some (events.Set j v)) h = inr (inl (h, tt))
of_kind r f i (Some events.End) h = inr h
of_kind r f i o h = absurd h

-- ---- frames
entered_same : (e d : Event) (g : ℕ) → kind_of e ≡ kind_of d → entered e g ≡ entered d g
entered_same (events.Begin n) d g h = begin d h
  where
    begin : (d : Event) → kinds.Begin n ≡ kind_of d → n ≡ entered d g
    begin (events.Begin m) h = cc h
    begin d h = absurd (cc h)
entered_same (events.Resume n) d g h = resume_of d h
  where
    resume_of : (d : Event) → kinds.Resume n ≡ kind_of d → n ≡ entered d g
    resume_of (events.Resume m) h = cc h
    resume_of d h = absurd (cc h)
entered_same e (events.Begin m) g h = absurd (cc h)
entered_same e (events.Resume m) g h = absurd (cc h)
entered_same e d g h = refl

frames_same : (es ds : List Event) (n g : ℕ) → map kind_of es ≡ map kind_of ds → frame_behind es n g ≡ frame_behind ds n g
frames_same es ds zero g h = refl
frames_same [] [] (suc n) g h = refl
frames_same [] (d ∷ ds) (suc n) g h = absurd (cc h)
frames_same (e ∷ es) [] (suc n) g h = absurd (cc h)
frames_same (e ∷ es) (d ∷ ds) (suc n) g h =
    let first : kind_of e ≡ kind_of d = cc h in
    let rest : map kind_of es ≡ map kind_of ds = cc h in
    ap (frame_behind es n) (entered_same e d g first) ∙ frames_same es ds n (entered d g) rest

-- ---- spawns
a_spawn : (o : Option Event) → mark_at o ≡ mark.Spawn → (f : ℕ) × (o ≡ Some (events.Spawn f))
a_spawn (Some (events.Spawn f)) e = (f, refl)
a_spawn o e = absurd (cc e)

spawned : (es : List Event) (p : ℕ) (o : Option Event) (ps : List ℕ) (f : ℕ) → option_map kind_of o ≡ Some (kinds.Spawn f) → word_event es p o ps ≡ spawn
spawned es p (Some (events.Spawn g)) ps f e = refl
spawned es p o ps f e = absurd (cc e)

no_word : (w : WordEvent) → (IsWord w → ⊥) → w ≡ plain
no_word plain h = refl
no_word (read c n) h = absurd (h tt)
no_word (write c n) h = absurd (h tt)
no_word spawn h = absurd (h tt)
no_word (resume q) h = absurd (h tt)
no_word finish h = absurd (h tt)

pub along_settled : EventOrdersAlongAreSettled
along_settled plan s r along h = record {
  settled = λ p x q i m st le lt. before x q (h.settled p x q i (mention p i m) (settle q i st) le lt);
  begins = λ k e. plain_at (k + 1) (h.begins k (spawn_at k e));
}
  where
    kind_at : (p : ℕ) → option_map kind_of (event s p) ≡ option_map kind_of (event plan p)
    kind_at p = sym (slice_get-map kind_of s.events (p - 1)) ∙ ap (λ (ks : List Kind). slice_get ks (p - 1)) along.kinds ∙ slice_get-map kind_of plan.events (p - 1)

    spawn_at : (k : ℕ) → word_step s k ≡ spawn → word_step plan k ≡ spawn
    spawn_at k e =
        let is = a_spawn (event s k) (spawn_mark s.events k (event s k) (predecessors_of s k) e) in
        spawned plan.events k (event plan k) (predecessors_of plan k) is.0 (sym (kind_at k) ∙ ap (option_map kind_of) is.1)

    plain_at : (k : ℕ) → word_step plan k ≡ plain → word_step s k ≡ plain
    plain_at k e = no_word (word_step s k) (λ h. subst IsWord e (was_word plan s along k h))

    before : (x q : ℕ) → Before plan x q → Before s x q
    before x q b = subst (λ (f : ℕ → List ℕ). Reaches f x q) (sym (afters plan s along)) b

    frame_same : (p : ℕ) → frame_in s.events p ≡ frame_in plan.events p
    frame_same p = frames_same s.events plan.events p 0 along.kinds

    mention : (p : ℕ) (i : Instance) → Mentions i (events_at s r p) → Mentions i (events_at plan r p)
    mention p i m =
        let one : MentionedBy r (frame_in s.events p) i (option_map kind_of (event s p)) = subst (λ (T : Type 0). T) (mentions_is r (frame_in s.events p) i (event s p)) m in
        let two : MentionedBy r (frame_in plan.events p) i (option_map kind_of (event s p)) = subst (λ (f : ℕ). MentionedBy r f i (option_map kind_of (event s p))) (frame_same p) one in
        let three : MentionedBy r (frame_in plan.events p) i (option_map kind_of (event plan p)) = subst (MentionedBy r (frame_in plan.events p) i) (kind_at p) two in
        subst (λ (T : Type 0). T) (sym (mentions_is r (frame_in plan.events p) i (event plan p))) three

    settle : (q : ℕ) (i : Instance) → Settles s r q i → Settles plan r q i
    settle q i st =
        let one : SettledBy r (frame_in s.events q) i (option_map kind_of (event s q)) = to_kind r (frame_in s.events q) i (event s q) st in
        let two : SettledBy r (frame_in plan.events q) i (option_map kind_of (event s q)) = subst (λ (f : ℕ). SettledBy r f i (option_map kind_of (event s q))) (frame_same q) one in
        of_kind r (frame_in plan.events q) i (event plan q) (subst (SettledBy r (frame_in plan.events q) i) (kind_at q) two)
