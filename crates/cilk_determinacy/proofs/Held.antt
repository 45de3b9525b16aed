-- Frames hold views of the language, whatever steps are made: the values in their asks are words,
-- and they resume only after children.
--
-- - `Advance`, `advance`: the stage of a frame's order after an ask;
-- - `deed_word`, `write_word`, `ask_sound`: the answers, writes and updates of a frame are words;
-- - `Fit`, `step_fits`: the invariant of each state, and its step;
-- - `Long`, `step_long`: the bound on the sizes of views, and its step;
-- - `views_held`, `lists_short`: the laws.
use Rattle.std.proofs.Common.{◌≡◌, ◌≤◌, ◌+◌, ℕ, zero, suc, ℤ, pos, Bool, true, false, cond, List, [], ◌∷◌, ◌++◌, length, Option, Some, None, ◌⊎◌, inl, inr, ⊎_elim, refl, sym, ap, ◌∙◌, subst, arith, append_assoc, append-nil, le_refl}
use Rattle.std.proofs.lemmas.Bool.{cond-true, cond-false, ltb-false}
use Rattle.cilk_types.specs.declared.fault.Fault.{Fault}
use Rattle.cilk_types.specs.declared.fault.Fault.TheVariants.{TooManyEvents}
use Rattle.cilk_types.specs.declared.limits.TheConstants.{MAX_TICKS}
use Rattle.cilk_monoid.specs.declared.kind.MonoidKind.{MonoidKind}
use Rattle.cilk_monoid.specs.declared.kind.MonoidKind.TheVariants.{Add, Least, Greatest, Append, Affine}
use Rattle.cilk_monoid.specs.Kinds.{structure_of, size_of, IsMember}
use Rattle.cilk_monoid.specs.Values.{ViewValue, Number, Elements, Map}
use Rattle.cilk_types.specs.Word.{IsWord}
use Rattle.cilk_program.specs.declared.ask.Ask as language
use Rattle.cilk_program.specs.declared.ask.Ask.TheVariants as asks
use Rattle.cilk_types.specs.declared.invocation.Invocation.{Invocation}
use Rattle.cilk_program.specs.Behaviour.{OpenAsk, frame_asks}
use Rattle.cilk_program.specs.Syntax.{Source}
use Rattle.cilk_program.specs.Closed.{IsNoResume}
use Rattle.cilk_program.specs.Order.{opening_asks, Stage, Fresh, Due, Going, Resuming, Synced, Closing, opened, follows}
use Rattle.cilk_program.proofs.Closings.{IsOpening, View as Comes, Begins, Opens, Goes, Calls, Spawns, Syncs, Resumes, Again, Gives, Ends, EndsThen, view, IsSound, opened_sound, opening_asks_open, plain_no_resume, opening_no_resume}
use Rattle.cilk_program.proofs.Legal.{IsPlain, Rest, after, unless_fault, IsLegal, fresh_fine}
use Rattle.cilk_determinacy.specs.Runs as runs
use Rattle.cilk_determinacy.specs.Runs.{Name, same_name, Cell, same_cell, Instance, Ask, Deed, Does, Invokes}
use Rattle.cilk_determinacy.specs.Costs.{Costs, Total, TickTotal, EventTotal, is_over, own_fault, fault_of}
use Rattle.cilk_determinacy.specs.Machine.{Frame, Frames, State, started, deed_of, effect, begun, after_deed, IsAsking, Makes, Steals, Stops, Steps}
use Rattle.cilk_determinacy.specs.Monoids.{numbers_of}
use Rattle.cilk_determinacy.proofs.Basics.{same_name-refl}
use Rattle.cilk_determinacy.proofs.Started.{started_invokes}
use Rattle.cilk_determinacy.specs.KeptViews.{HoldsViews, AskIsSound}
use Rattle.cilk_determinacy.specs.FrameEnvMachine.{named_ask, answer_of, answers_of, is_end, has_ended, asked_after, next, costs, opening_values}
use Rattle.cilk_determinacy.specs.Reducers.{View, value_of, kind_of, monoid_of}
use Rattle.cilk_determinacy.specs.Steps.{Next, IsFirst, OneStep, Reaches}
use Rattle.cilk_determinacy.specs.FrameEnvs.{FrameEnv, first_env, child_env, cell_seen, reducer_seen, result_cell}
use Rattle.cilk_determinacy.proofs.KeptViews.{HasView, views_kept}
use Rattle.cilk_determinacy.proofs.Histories.{answers_more, ended_more}
use Rattle.cilk_determinacy.proofs.FrameEnvViews.{are_multiplied}
use Rattle.cilk_determinacy.specs.Held.{LengthIsWord, LengthsAreWords, ViewsAreHeld}
use Rattle.cilk_determinacy.specs.Lengths.{HasShortLists, ListsAreShort}
use Rattle.cilk_determinacy.specs.Words.{AreWords, HasWords, InputsAreWords}
use Rattle.cilk_determinacy.proofs.Lengths.{Small, Sized, small_unit, is_resume, ask_sized, steals_sized, stolen_now, number_word}
use Rattle.cilk_determinacy.proofs.Owed.{lies, onward, waiting, waiting_does, waiting_invokes}
use Rattle.cilk_determinacy.proofs.Worded.{zero_word, AskWords, CalleeWords, asks_words}
use Rattle.cilk_determinacy.proofs.Wordy.{more_words, opening_word}

-- ---- the order of a frame's events

-- a child has just ended
abbrev IsResuming : Stage → Type 0
IsResuming (Fresh due) = ⊥
IsResuming (Due first due) = ⊥
IsResuming (Going w) = ⊥
IsResuming (Resuming w) = Unit {0}
IsResuming Synced = ⊥
IsResuming Closing = ⊥

abbrev IsEnd : language.Ask → Type 0
IsEnd (asks.End v) = Unit {0}
IsEnd k = ⊥

abbrev IsInvoke : language.Ask → Type 0
IsInvoke (asks.Invoke how callee) = Unit {0}
IsInvoke k = ⊥

not_resuming : (due : List language.Ask) → ¬ (IsResuming (opened due))
not_resuming [] h = h
not_resuming (k ∷ due) h = h

-- an ask that starts a child, and one that comes after a child
abbrev invoke_bit : language.Ask → Bool
invoke_bit (asks.Invoke how callee) = true
invoke_bit k = false

abbrev resume_bit : language.Ask → Bool
resume_bit asks.Resume = true
resume_bit k = false

abbrev resuming_bit : Stage → Bool
resuming_bit (Fresh due) = false
resuming_bit (Due first due) = false
resuming_bit (Going w) = false
resuming_bit (Resuming w) = true
resuming_bit Synced = false
resuming_bit Closing = false

not_resuming_bit : (due : List language.Ask) → resuming_bit (opened due) ≡ false
not_resuming_bit [] = refl
not_resuming_bit (k ∷ due) = refl

plain_bits : (k : language.Ask) → IsPlain k → (invoke_bit k ≡ false) × (resume_bit k ≡ false)
plain_bits asks.Begin h = (refl, refl)
plain_bits (asks.Read x) h = (refl, refl)
plain_bits (asks.Write x v) h = (refl, refl)
plain_bits (asks.Create r) h = (refl, refl)
plain_bits (asks.Update r v) h = (refl, refl)
plain_bits (asks.Set r v) h = (refl, refl)
plain_bits (asks.Value r) h = (refl, refl)
plain_bits (asks.Print v) h = (refl, refl)
plain_bits (asks.Invoke how callee) h = absurd h
plain_bits asks.Resume h = absurd h
plain_bits asks.Sync h = (refl, refl)
plain_bits (asks.Result v) h = (refl, refl)
plain_bits (asks.End v) h = (refl, refl)
plain_bits (asks.Fault f) h = (refl, refl)

opening_bits : (k : language.Ask) → IsOpening k → (invoke_bit k ≡ false) × (resume_bit k ≡ false)
opening_bits asks.Begin h = (refl, refl)
opening_bits (asks.Read x) h = (refl, refl)
opening_bits (asks.Write x v) h = (refl, refl)
opening_bits (asks.Create r) h = (refl, refl)
opening_bits (asks.Update r v) h = (refl, refl)
opening_bits (asks.Set r v) h = (refl, refl)
opening_bits (asks.Value r) h = (refl, refl)
opening_bits (asks.Print v) h = (refl, refl)
opening_bits (asks.Invoke how callee) h = absurd h
opening_bits asks.Resume h = absurd h
opening_bits asks.Sync h = (refl, refl)
opening_bits (asks.Result v) h = (refl, refl)
opening_bits (asks.End v) h = (refl, refl)
opening_bits (asks.Fault f) h = (refl, refl)

-- After this ask the frame is at a stage, unless it has ended. A child has just ended there only if
-- the ask starts one. The frame resumes only where a child has just ended.
record Advance (G : Stage → Type 0) (s : Stage) (k : language.Ask) : Type 0 where
  next_stage : IsEnd k ⊎ ((s' : Stage) × IsSound s' × G s' × (IsResuming s' → IsInvoke k) × (invoke_bit k ≡ resuming_bit s'))
  comes_after : resume_bit k ≡ resuming_bit s
  resumes : IsNoResume k ⊎ IsResuming s

module _ {G : Stage → Type 0} where
  advance_going : (w : Bool) (k : language.Ask) → Comes G (Going w) k → Advance G (Going w) k
  advance_going w k (Goes plain h) = let bits = plain_bits k plain in record { next_stage = inr (Going w, tt, h, λ z. absurd z, bits.0); comes_after = bits.1; resumes = inl (plain_no_resume k plain) }
  advance_going w k (Calls h) = record { next_stage = inr (Resuming w, tt, h, λ z. tt, refl); comes_after = refl; resumes = inl tt }
  advance_going w k (Spawns h) = record { next_stage = inr (Resuming true, tt, h, λ z. tt, refl); comes_after = refl; resumes = inl tt }
  advance_going w k (Syncs h) = record { next_stage = inr (Synced, tt, h, λ z. absurd z, refl); comes_after = refl; resumes = inl tt }

  advance : (s : Stage) (k : language.Ask) → IsSound s → Comes G s k → Advance G s k
  advance (Fresh due) k sound (Begins h) = record { next_stage = inr (opened due, opened_sound due sound, h, λ z. absurd (not_resuming due z), sym (not_resuming_bit due)); comes_after = refl; resumes = inl tt }
  advance (Due first due) k sound (Opens h) = let bits = opening_bits first sound.0 in record { next_stage = inr (opened due, opened_sound due sound.1, h, λ z. absurd (not_resuming due z), bits.0 ∙ sym (not_resuming_bit due)); comes_after = bits.1; resumes = inl (opening_no_resume first sound.0) }
  advance (Going w) k sound h = advance_going w k h
  advance (Resuming w) k sound (Resumes h) = record { next_stage = inr (Going w, tt, h, λ z. absurd z, refl); comes_after = refl; resumes = inr tt }
  advance Synced k sound (Again h) = let a = advance_going false k h in record { next_stage = a.next_stage; comes_after = a.comes_after; resumes = ⊎_elim inl (λ z. absurd z) a.resumes }
  advance Synced k sound (Gives h) = record { next_stage = inr (Closing, tt, h, λ z. absurd z, refl); comes_after = refl; resumes = inl tt }
  advance Synced k sound Ends = record { next_stage = inl tt; comes_after = refl; resumes = inl tt }
  advance Closing k sound EndsThen = record { next_stage = inl tt; comes_after = refl; resumes = inl tt }

no_fault : (k : language.Ask) (P : Type 0) → ((f : Fault) → k ≡ asks.Fault f → ⊥) → unless_fault k P → P
no_fault asks.Begin P never h = h
no_fault (asks.Read x) P never h = h
no_fault (asks.Write x v) P never h = h
no_fault (asks.Create r) P never h = h
no_fault (asks.Update r v) P never h = h
no_fault (asks.Set r v) P never h = h
no_fault (asks.Value r) P never h = h
no_fault (asks.Print v) P never h = h
no_fault (asks.Invoke how callee) P never h = h
no_fault asks.Resume P never h = h
no_fault asks.Sync P never h = h
no_fault (asks.Result v) P never h = h
no_fault (asks.End v) P never h = h
no_fault (asks.Fault f) P never h = absurd (never f refl)

fault_or_not : (k : language.Ask) → ((f : Fault) → k ≡ asks.Fault f → ⊥) ⊎ ((f : Fault) × (k ≡ asks.Fault f))
fault_or_not asks.Begin = inl (λ f q. cc)
fault_or_not (asks.Read x) = inl (λ f q. cc)
fault_or_not (asks.Write x v) = inl (λ f q. cc)
fault_or_not (asks.Create r) = inl (λ f q. cc)
fault_or_not (asks.Update r v) = inl (λ f q. cc)
fault_or_not (asks.Set r v) = inl (λ f q. cc)
fault_or_not (asks.Value r) = inl (λ f q. cc)
fault_or_not (asks.Print v) = inl (λ f q. cc)
fault_or_not (asks.Invoke how callee) = inl (λ f q. cc)
fault_or_not asks.Resume = inl (λ f q. cc)
fault_or_not asks.Sync = inl (λ f q. cc)
fault_or_not (asks.Result v) = inl (λ f q. cc)
fault_or_not (asks.End v) = inl (λ f q. cc)
fault_or_not (asks.Fault f) = inr (f, refl)

-- ---- words

-- a view's number is a word, where it is no list's length or that is one
member_word : (k : MonoidKind) (x : ViewValue) → IsMember k x → (k ≡ Append → IsWord ((structure_of k).number x)) → IsWord ((structure_of k).number x)
member_word Add (Number z) h g = h
member_word Add (Elements zs) h g = absurd h
member_word Add (Map a b) h g = absurd h
member_word Least (Number z) h g = h
member_word Least (Elements zs) h g = absurd h
member_word Least (Map a b) h g = absurd h
member_word Greatest (Number z) h g = h
member_word Greatest (Elements zs) h g = absurd h
member_word Greatest (Map a b) h g = absurd h
member_word Append x h g = g refl
member_word Affine (Number z) h g = absurd h
member_word Affine (Elements zs) h g = absurd h
member_word Affine (Map a b) h g = h.1

view_word : (i : Instance) (v : View) → HasView (kind_of i) v → (kind_of i ≡ Append → IsWord ((monoid_of i).number v)) → IsWord ((monoid_of i).number v)
view_word i v (x, h) g =
    let m = are_multiplied in
    let same : (monoid_of i).number v ≡ (structure_of (kind_of i)).number x = m.number (kind_of i) v x h in
    subst IsWord (sym same) (member_word (kind_of i) x h.member (λ list. subst IsWord same (g list)))

last_length : (past : List (Deed FrameEnv)) (d : Deed FrameEnv) → LengthsAreWords (past ++ d ∷ []) → LengthIsWord d
last_length [] d h = h.0
last_length (e ∷ past) d h = last_length past d h.1

more_lengths : (past : List (Deed FrameEnv)) (d : Deed FrameEnv) → LengthsAreWords past → LengthIsWord d → LengthsAreWords (past ++ d ∷ [])
more_lengths [] d h g = (g, tt)
more_lengths (e ∷ past) d h g = (h.0, more_lengths past d h.1 g)

not_child : (e : runs.Event) (i : Invocation) (v : FrameEnv) → Does e ≡ Invokes i v → ⊥
not_child e i v q = cc

same_child : (i i' : Invocation) (w v : FrameEnv) → Invokes i w ≡ Invokes i' v → w ≡ v
same_child i i' w v q = cc

module _ (p : Source) (w : FrameEnv) (j : ℕ) (memory : Cell → ℤ) (number : Instance → ℤ) (words : (c : Cell) → IsWord (memory c)) where
  deed_word : (k : language.Ask) → ((i : Instance) → (kind_of i ≡ Append → IsWord (number i)) → IsWord (number i)) → LengthIsWord (deed_of memory number (named_ask p w j k)) → IsWord (answer_of (deed_of memory number (named_ask p w j k)))
  deed_word asks.Begin g h = zero_word
  deed_word (asks.Read x) g h = words _
  deed_word (asks.Write x v) g h = zero_word
  deed_word (asks.Create r) g h = zero_word
  deed_word (asks.Update r v) g h = zero_word
  deed_word (asks.Set r v) g h = zero_word
  deed_word (asks.Value r) g h = g (reducer_seen w r) h
  deed_word (asks.Print v) g h = zero_word
  deed_word (asks.Invoke how callee) g h = zero_word
  deed_word asks.Resume g h = zero_word
  deed_word asks.Sync g h = zero_word
  deed_word (asks.Result v) g h = zero_word
  deed_word (asks.End v) g h = zero_word
  deed_word (asks.Fault f) g h = zero_word

  put_word : (b : Bool) (v : ℤ) (c : Cell) → IsWord v → IsWord (cond b v (memory c))
  put_word true v c h = h
  put_word false v c h = words c

  write_word : (k : language.Ask) → AskWords k → (c : Cell) → IsWord (effect (deed_of memory number (named_ask p w j k)) c (memory c))
  write_word asks.Begin h c = words c
  write_word (asks.Read x) h c = words c
  write_word (asks.Write x v) h c = put_word (same_cell (cell_seen w x) c) v c h
  write_word (asks.Create r) h c = words c
  write_word (asks.Update r v) h c = words c
  write_word (asks.Set r v) h c = words c
  write_word (asks.Value r) h c = words c
  write_word (asks.Print v) h c = words c
  write_word (asks.Invoke how callee) h c = words c
  write_word asks.Resume h c = words c
  write_word asks.Sync h c = words c
  write_word (asks.Result v) h c = put_word (same_cell (result_cell w) c) v c h
  write_word (asks.End v) h c = words c
  write_word (asks.Fault f) h c = words c

  ask_sound : (k : language.Ask) (past : List (Deed FrameEnv)) → AskWords k → (IsNoResume k ⊎ (1 ≤ started past)) → AskIsSound (named_ask p w j k) past
  ask_sound asks.Begin past h r = tt
  ask_sound (asks.Read x) past h r = tt
  ask_sound (asks.Write x v) past h r = tt
  ask_sound (asks.Create c) past h r = tt
  ask_sound (asks.Update c v) past h r = h
  ask_sound (asks.Set c v) past h r = h
  ask_sound (asks.Value c) past h r = tt
  ask_sound (asks.Print v) past h r = h
  ask_sound (asks.Invoke how callee) past h r = tt
  ask_sound asks.Resume past h r = ⊎_elim (λ z. absurd z) (λ z. z) r
  ask_sound asks.Sync past h r = tt
  ask_sound (asks.Result v) past h r = tt
  ask_sound (asks.End v) past h r = tt
  ask_sound (asks.Fault f) past h r = tt

  -- the child that an ask starts
  abbrev ChildIs : language.Ask → Invocation → FrameEnv → Type 0
  ChildIs (asks.Invoke how callee) i v = v ≡ child_env p w j callee
  ChildIs k i v = ⊥

  child_is : (k : language.Ask) (i : Invocation) (v : FrameEnv) → deed_of memory number (named_ask p w j k) ≡ Invokes i v → ChildIs k i v
  child_is asks.Begin i v q = absurd (not_child _ i v q)
  child_is (asks.Read x) i v q = absurd (not_child _ i v q)
  child_is (asks.Write x y) i v q = absurd (not_child _ i v q)
  child_is (asks.Create r) i v q = absurd (not_child _ i v q)
  child_is (asks.Update r y) i v q = absurd (not_child _ i v q)
  child_is (asks.Set r y) i v q = absurd (not_child _ i v q)
  child_is (asks.Value r) i v q = absurd (not_child _ i v q)
  child_is (asks.Print y) i v q = absurd (not_child _ i v q)
  child_is (asks.Invoke how callee) i v q = sym (same_child how i (child_env p w j callee) v q)
  child_is asks.Resume i v q = absurd (not_child _ i v q)
  child_is asks.Sync i v q = absurd (not_child _ i v q)
  child_is (asks.Result y) i v q = absurd (not_child _ i v q)
  child_is (asks.End y) i v q = absurd (not_child _ i v q)
  child_is (asks.Fault f) i v q = absurd (not_child _ i v q)

  -- the end of a frame is its deed, and a child is started by one
  end_ends : (k : language.Ask) → IsEnd k → is_end (deed_of memory number (named_ask p w j k)) ≡ true
  end_ends asks.Begin h = absurd h
  end_ends (asks.Read x) h = absurd h
  end_ends (asks.Write x y) h = absurd h
  end_ends (asks.Create r) h = absurd h
  end_ends (asks.Update r y) h = absurd h
  end_ends (asks.Set r y) h = absurd h
  end_ends (asks.Value r) h = absurd h
  end_ends (asks.Print y) h = absurd h
  end_ends (asks.Invoke how callee) h = absurd h
  end_ends asks.Resume h = absurd h
  end_ends asks.Sync h = absurd h
  end_ends (asks.Result y) h = absurd h
  end_ends (asks.End y) h = refl
  end_ends (asks.Fault f) h = absurd h

  -- a deed that starts a child, and one that comes after a child
  deed_invokes : (k : language.Ask) (past : List (Deed FrameEnv)) → waiting false (past ++ deed_of memory number (named_ask p w j k) ∷ []) ≡ invoke_bit k
  deed_invokes asks.Begin past = waiting_does false past _
  deed_invokes (asks.Read x) past = waiting_does false past _
  deed_invokes (asks.Write x v) past = waiting_does false past _
  deed_invokes (asks.Create r) past = waiting_does false past _
  deed_invokes (asks.Update r v) past = waiting_does false past _
  deed_invokes (asks.Set r v) past = waiting_does false past _
  deed_invokes (asks.Value r) past = waiting_does false past _
  deed_invokes (asks.Print v) past = waiting_does false past _
  deed_invokes (asks.Invoke how callee) past = waiting_invokes false past _ _
  deed_invokes asks.Resume past = waiting_does false past _
  deed_invokes asks.Sync past = waiting_does false past _
  deed_invokes (asks.Result v) past = waiting_does false past _
  deed_invokes (asks.End v) past = waiting_does false past _
  deed_invokes (asks.Fault f) past = waiting_does false past _

  named_resumes : (k : language.Ask) → is_resume (named_ask p w j k) ≡ resume_bit k
  named_resumes asks.Begin = refl
  named_resumes (asks.Read x) = refl
  named_resumes (asks.Write x v) = refl
  named_resumes (asks.Create r) = refl
  named_resumes (asks.Update r v) = refl
  named_resumes (asks.Set r v) = refl
  named_resumes (asks.Value r) = refl
  named_resumes (asks.Print v) = refl
  named_resumes (asks.Invoke how callee) = refl
  named_resumes asks.Resume = refl
  named_resumes asks.Sync = refl
  named_resumes (asks.Result v) = refl
  named_resumes (asks.End v) = refl
  named_resumes (asks.Fault f) = refl

  -- the length that a deed reads
  long_ask : (k : language.Ask) → ((i : Instance) → kind_of i ≡ Append → IsWord (number i)) → LengthIsWord (deed_of memory number (named_ask p w j k))
  long_ask asks.Begin g = tt
  long_ask (asks.Read x) g = tt
  long_ask (asks.Write x v) g = tt
  long_ask (asks.Create r) g = tt
  long_ask (asks.Update r v) g = tt
  long_ask (asks.Set r v) g = tt
  long_ask (asks.Value r) g = g (reducer_seen w r)
  long_ask (asks.Print v) g = tt
  long_ask (asks.Invoke how callee) g = tt
  long_ask asks.Resume g = tt
  long_ask asks.Sync g = tt
  long_ask (asks.Result v) g = tt
  long_ask (asks.End v) g = tt
  long_ask (asks.Fault f) g = tt

  more_started : (k : language.Ask) (past : List (Deed FrameEnv)) → IsInvoke k → 1 ≤ started (past ++ deed_of memory number (named_ask p w j k) ∷ [])
  more_started asks.Begin past h = absurd h
  more_started (asks.Read x) past h = absurd h
  more_started (asks.Write x y) past h = absurd h
  more_started (asks.Create r) past h = absurd h
  more_started (asks.Update r y) past h = absurd h
  more_started (asks.Set r y) past h = absurd h
  more_started (asks.Value r) past h = absurd h
  more_started (asks.Print y) past h = absurd h
  more_started (asks.Invoke how callee) past h = let e = started_invokes past how (child_env p w j callee) in omega (arith, e)
  more_started asks.Resume past h = absurd h
  more_started asks.Sync past h = absurd h
  more_started (asks.Result y) past h = absurd h
  more_started (asks.End y) past h = absurd h
  more_started (asks.Fault f) past h = absurd h

-- the length that a frame's last deed read
long_deed : (frames : Frames FrameEnv) (n : Name) (f : Frame FrameEnv) (d : Deed FrameEnv) → ((g : Frame FrameEnv) → after_deed frames n f d n ≡ Some g → LengthsAreWords g.deeds) → LengthIsWord d
long_deed frames n f (Does e) h = last_length f.deeds (Does e) (h (record f { deeds = f.deeds ++ Does e ∷ [] }) (cond-true (same_name n n) (Some (record f { deeds = f.deeds ++ Does e ∷ [] })) (frames n) (same_name-refl n)))
long_deed frames n f (Invokes i v) h = tt

-- the frames after a deed are those before, the one with one more deed, and a child that it starts
all_after : (P : Frame FrameEnv → Type 0) (frames : Frames FrameEnv) (n : Name) (f : Frame FrameEnv) (d : Deed FrameEnv) → ((m : Name) (g : Frame FrameEnv) → frames m ≡ Some g → P g)
    → P (record f { deeds = f.deeds ++ d ∷ [] }) → ((i : Invocation) (v : FrameEnv) → d ≡ Invokes i v → P (begun v)) → (m : Name) (g : Frame FrameEnv) → after_deed frames n f d m ≡ Some g → P g
all_after P frames n f (Does e) old mine child m g q = by (same_name n m) q
  where
    by : (b : Bool) → cond b (Some (record f { deeds = f.deeds ++ Does e ∷ [] })) (frames m) ≡ Some g → P g
    by true r =
        let found : Some (record f { deeds = f.deeds ++ Does e ∷ [] }) ≡ Some g = r in
        let same : record f { deeds = f.deeds ++ Does e ∷ [] } ≡ g = cc in
        subst P same mine
    by false r = old m g r
all_after P frames n f (Invokes i v) old mine child m g q = by (same_name (n ++ suc (started f.deeds) ∷ []) m) (same_name n m) q
  where
    by : (c b : Bool) → cond c (Some (begun v)) (cond b (Some (record f { deeds = f.deeds ++ Invokes i v ∷ [] })) (frames m)) ≡ Some g → P g
    by true b r =
        let found : Some (begun v) ≡ Some g = r in
        let same : begun v ≡ g = cc in
        subst P same (child i v refl)
    by false true r =
        let found : Some (record f { deeds = f.deeds ++ Invokes i v ∷ [] }) ≡ Some g = r in
        let same : record f { deeds = f.deeds ++ Invokes i v ∷ [] } ≡ g = cc in
        subst P same mine
    by false false r = old m g r

-- with no fault the events stay within their limit
event_off : (b : Bool) (x : Fault) (o : Option Fault) → cond b (Some x) o ≡ None → (b ≡ false) × (o ≡ None)
event_off true x o h = let no : Some x ≡ None = h in let z : ⊥ = cc in absurd z
event_off false x o h = (refl, h)

own_off : (a : Ask FrameEnv) (o : Option Fault) → own_fault a o ≡ None → o ≡ None
own_off (runs.Read c) o h = h
own_off (runs.Write c v) o h = h
own_off (runs.Invoke k v) o h = h
own_off runs.Sync o h = h
own_off (runs.End v gone) o h = h
own_off (runs.Pass m) o h = h
own_off (runs.Fail x) o h = let no : Some x ≡ None = h in let z : ⊥ = cc in absurd z

events_within : (C : Costs FrameEnv) (totals : Total → ℕ) (w : FrameEnv) (past : List (Deed FrameEnv)) (a : Ask FrameEnv) → fault_of C totals w past a ≡ None → totals EventTotal + 1 ≤ C.limit EventTotal
events_within C totals w past a h =
    let ticks = event_off (is_over C TickTotal totals w past a) _ _ h in
    let own = own_off a _ ticks.1 in
    let events = event_off (is_over C EventTotal totals w past a) _ _ own in
    ltb-false (C.limit EventTotal) (totals EventTotal + 1) events.0

module _ (p : Source) (inputs : List ℤ) where
  -- a frame that hasn't ended keeps its order for r more asks
  record Standing (f : Frame FrameEnv) (r : ℕ) : Type 0 where
    stage : Stage
    sound : IsSound stage
    more : ℕ
    enough : r ≤ more
    rest : Rest
    same : (answers : List ℤ) (start : ℕ) → frame_asks p inputs f.what.callee (answers_of f.deeds ++ answers) start ≡ rest answers start
    legal : IsLegal MAX_TICKS stage rest more
    resuming : IsResuming stage → 1 ≤ started f.deeds
    waits : waiting false f.deeds ≡ resuming_bit stage

  -- a frame that was started with words, and was answered words
  record FrameFits (r : ℕ) (f : Frame FrameEnv) : Type 0 where
    callee : CalleeWords f.what.callee
    answers : AreWords (answers_of f.deeds)
    standing : has_ended f.deeds ≡ false → Standing f r

  -- the invariant of a state, for r more steps
  record Fit (r : ℕ) (s : State FrameEnv View) : Type 0 where
    holds : HoldsViews s
    cells : (c : Cell) → IsWord (s.memory c)
    frames : (n : Name) (f : Frame FrameEnv) → s.frames n ≡ Some f → FrameFits r f

  fewer_steps : (r : ℕ) (f : Frame FrameEnv) → FrameFits (suc r) f → FrameFits r f
  fewer_steps r f h = record {
    callee = h.callee;
    answers = h.answers;
    standing = λ going. let t = h.standing going in let e = t.enough in record { stage = t.stage; sound = t.sound; more = t.more; enough = omega (arith, e); rest = t.rest; same = t.same; legal = t.legal; resuming = t.resuming; waits = t.waits };
  }

  -- a frame that begins
  begun_fits : (r : ℕ) (w : FrameEnv) → CalleeWords w.callee → FrameFits r (begun w)
  begun_fits r w words = record {
    callee = words;
    answers = tt;
    standing = λ going. record {
      stage = Fresh (opening_asks p w.callee);
      sound = opening_asks_open p w.callee;
      more = r;
      enough = le_refl r;
      rest = frame_asks p inputs w.callee;
      same = λ answers start. refl;
      legal = fresh_fine MAX_TICKS p inputs w.callee r;
      resuming = λ z. absurd z;
      waits = refl;
    };
  }

  -- a frame's next ask, in the language's words
  abbrev asks_now : Frame FrameEnv → language.Ask
  asks_now f = (asked_after p inputs f.what f.deeds).ask

  next_is : (f : Frame FrameEnv) (a : Ask FrameEnv) → next p inputs f.what f.deeds ≡ Some a → (has_ended f.deeds ≡ false) × (a ≡ named_ask p f.what (suc (started f.deeds)) (asks_now f))
  next_is f a q = by (has_ended f.deeds) refl q
    where
      by : (b : Bool) → has_ended f.deeds ≡ b → cond b None (Some (named_ask p f.what (suc (started f.deeds)) (asks_now f))) ≡ Some a → (has_ended f.deeds ≡ false) × (a ≡ named_ask p f.what (suc (started f.deeds)) (asks_now f))
      by true e r = let none : None ≡ Some a = r in absurd (cc)
      by false e r =
          let found : Some (named_ask p f.what (suc (started f.deeds)) (asks_now f)) ≡ Some a = r in
          let same : named_ask p f.what (suc (started f.deeds)) (asks_now f) ≡ a = cc in
          (e, sym same)

  -- a frame that makes an event has met no fault
  never_faults : (f : Frame FrameEnv) (totals : Total → ℕ) (a : Ask FrameEnv) → a ≡ named_ask p f.what (suc (started f.deeds)) (asks_now f) → fault_of (costs p inputs) totals f.what f.deeds a ≡ None → (x : Fault) → asks_now f ≡ asks.Fault x → ⊥
  never_faults f totals a is within x q =
      let fails : a ≡ runs.Fail x = is ∙ ap (named_ask p f.what (suc (started f.deeds))) q in
      found (is_over (costs p inputs) TickTotal totals f.what f.deeds (runs.Fail x)) TooManyEvents x (subst (λ a. fault_of (costs p inputs) totals f.what f.deeds a ≡ None) fails within)
    where
      found : (b : Bool) (x y : Fault) → cond b (Some x) (Some y) ≡ None → ⊥
      found true x y q = let r : Some x ≡ None = q in cc
      found false x y q = let r : Some y ≡ None = q in cc

  module _ (has : HasWords p) (inputs_words : InputsAreWords inputs) where
    now_words : (r : ℕ) (f : Frame FrameEnv) → FrameFits r f → AskWords (asks_now f)
    now_words r f h = asks_words p has inputs inputs_words f.what.callee h.callee (answers_of f.deeds) h.answers MAX_TICKS

    -- the frame's ask in its order
    abbrev Onward : (f : Frame FrameEnv) (rest : Rest) (more : ℕ) → Stage → Type 0
    Onward f rest more s = (a : ℤ) → IsLegal MAX_TICKS s (after a rest) more

    comes : (r : ℕ) (f : Frame FrameEnv) → ((x : Fault) → asks_now f ≡ asks.Fault x → ⊥) → (t : Standing f (suc r)) → (more : ℕ) × (r ≤ more) × Advance (Onward f t.rest more) t.stage (asks_now f)
    comes r f never t = by t.more t.enough t.legal
      where
        here : (t.rest [] MAX_TICKS).ask ≡ asks_now f
        here = ap (λ (q : OpenAsk). q.ask) (sym (t.same [] MAX_TICKS) ∙ ap (λ h. frame_asks p inputs f.what.callee h MAX_TICKS) (append-nil (answers_of f.deeds)))

        by : (n : ℕ) → suc r ≤ n → IsLegal MAX_TICKS t.stage t.rest n → (more : ℕ) × (r ≤ more) × Advance (Onward f t.rest more) t.stage (asks_now f)
        by zero low legal = absurd (omega arith)
        by (suc n) low legal =
            let now = subst (λ k. unless_fault k (follows t.stage k (Onward f t.rest n))) here (legal MAX_TICKS (le_refl MAX_TICKS)) in
            (n, omega arith, advance t.stage (asks_now f) t.sound (view t.stage (asks_now f) (Onward f t.rest n) (no_fault (asks_now f) (follows t.stage (asks_now f) (Onward f t.rest n)) never now)))

    -- the frame that made the event
    grown_fits : (r : ℕ) (f : Frame FrameEnv) (memory : Cell → ℤ) (number : Instance → ℤ) → ((c : Cell) → IsWord (memory c)) → ((i : Instance) → (kind_of i ≡ Append → IsWord (number i)) → IsWord (number i))
        → has_ended f.deeds ≡ false → ((x : Fault) → asks_now f ≡ asks.Fault x → ⊥) → FrameFits (suc r) f
        → LengthIsWord (deed_of memory number (named_ask p f.what (suc (started f.deeds)) (asks_now f)))
        → FrameFits r (record f { deeds = f.deeds ++ deed_of memory number (named_ask p f.what (suc (started f.deeds)) (asks_now f)) ∷ [] })
    grown_fits r f memory number cells numbers going never h long =
        let j = suc (started f.deeds) in
        let k = asks_now f in
        let d = deed_of memory number (named_ask p f.what j k) in
        let word = deed_word p f.what j memory number cells k numbers long in
        let t = h.standing going in
        let (more, low, step) = comes r f never t in
        record {
          callee = h.callee;
          answers = subst AreWords (sym (answers_more f.deeds d)) (more_words (answers_of f.deeds) (answer_of d) h.answers word);
          standing = λ on.
              ⊎_elim
              (λ last. absurd (let e : true ≡ false = sym (end_ends p f.what j memory number cells k last) ∙ sym (ended_more f.deeds d going) ∙ on in cc))
              (λ z. record {
                stage = z.0;
                sound = z.1;
                more = more;
                enough = low;
                rest = after (answer_of d) t.rest;
                same = λ answers start.
                    ap (λ l. frame_asks p inputs f.what.callee l start) (ap (λ l. l ++ answers) (answers_more f.deeds d) ∙ append_assoc (answers_of f.deeds) (answer_of d ∷ []) answers) ∙ t.same (answer_of d ∷ answers) start;
                legal = z.2 (answer_of d);
                resuming = λ due. more_started p f.what j memory number cells k f.deeds (z.3 due);
                waits = deed_invokes p f.what j memory number cells k f.deeds ∙ z.4;
              })
              step.next_stage;
        }

    child_fits : (r : ℕ) (w : FrameEnv) (j : ℕ) (k : language.Ask) (memory : Cell → ℤ) (number : Instance → ℤ) (cells : (c : Cell) → IsWord (memory c)) → AskWords k → (i : Invocation) (v : FrameEnv) → ChildIs p w j memory number cells k i v → FrameFits r (begun v)
    child_fits r w j asks.Begin memory number cells words i v h = absurd h
    child_fits r w j (asks.Read x) memory number cells words i v h = absurd h
    child_fits r w j (asks.Write x y) memory number cells words i v h = absurd h
    child_fits r w j (asks.Create c) memory number cells words i v h = absurd h
    child_fits r w j (asks.Update c y) memory number cells words i v h = absurd h
    child_fits r w j (asks.Set c y) memory number cells words i v h = absurd h
    child_fits r w j (asks.Value c) memory number cells words i v h = absurd h
    child_fits r w j (asks.Print y) memory number cells words i v h = absurd h
    child_fits r w j (asks.Invoke how callee) memory number cells words i v h = subst (λ v. FrameFits r (begun v)) (sym h) (begun_fits r (child_env p w j callee) words)
    child_fits r w j asks.Resume memory number cells words i v h = absurd h
    child_fits r w j asks.Sync memory number cells words i v h = absurd h
    child_fits r w j (asks.Result y) memory number cells words i v h = absurd h
    child_fits r w j (asks.End y) memory number cells words i v h = absurd h
    child_fits r w j (asks.Fault f) memory number cells words i v h = absurd h

    sound_now : (r : ℕ) (f : Frame FrameEnv) → FrameFits (suc r) f → has_ended f.deeds ≡ false → AskIsSound (named_ask p f.what (suc (started f.deeds)) (asks_now f)) f.deeds
    sound_now r f h going =
        let j = suc (started f.deeds) in
        ⊎_elim
        (λ never. let t = h.standing going in
        let (more, low, step) = comes r f never t in
        ask_sound p f.what j (λ c. pos 0) (λ i. pos 0) (λ c. zero_word) (asks_now f) f.deeds (now_words (suc r) f h) (⊎_elim inl (λ z. inr (t.resuming z)) step.resumes))
        (λ fault. subst (λ k. AskIsSound (named_ask p f.what j k) f.deeds) (sym fault.1) tt)
        (fault_or_not (asks_now f))

    sound_ask : (r : ℕ) (s : State FrameEnv View) (n : Name) → Fit (suc r) s → (f : Frame FrameEnv) (a : Ask FrameEnv) → IsAsking FrameEnv View monoid_of (Next p inputs) (costs p inputs) s n f a → AskIsSound a f.deeds
    sound_ask r s n fit f a asking =
        let (going, is) = next_is f a asking.next in
        subst (λ a. AskIsSound a f.deeds) (sym is) (sound_now r f (fit.frames n f asking.here) going)

    -- a frame resumes where its last deed started a child, and there alone
    resumes_now : (r : ℕ) (f : Frame FrameEnv) → FrameFits (suc r) f → has_ended f.deeds ≡ false → ((x : Fault) → asks_now f ≡ asks.Fault x → ⊥) → resume_bit (asks_now f) ≡ waiting false f.deeds
    resumes_now r f h going never = let t = h.standing going in let (more, low, step) = comes r f never t in step.comes_after ∙ sym t.waits

    makes_fits : (r : ℕ) (s s' : State FrameEnv View) (n : Name) → Fit (suc r) s → HoldsViews s' → Makes FrameEnv View monoid_of (Next p inputs) (costs p inputs) s n s'
        → ((m : Name) (g : Frame FrameEnv) → s'.frames m ≡ Some g → LengthsAreWords g.deeds) → Fit r s'
    makes_fits r s s' n fit holds m long =
        let f = m.frame in
        let number = numbers_of monoid_of (s.piece n) in
        let j = suc (started f.deeds) in
        let k = asks_now f in
        let d = deed_of s.memory number (named_ask p f.what j k) in
        let (going, is) = next_is f m.ask m.asking.next in
        let never = never_faults f s.totals m.ask is m.within in
        let mine = fit.frames n f m.asking.here in
        let views = fit.holds in
        let numbers : (i : Instance) → (kind_of i ≡ Append → IsWord (number i)) → IsWord (number i) = λ i. view_word i (s.piece n i) (views.views n f i m.asking.here) in
        let frames : s'.frames ≡ after_deed s.frames n f d = m.frames ∙ ap (λ a. after_deed s.frames n f (deed_of s.memory number a)) is in
        let memory : s'.memory ≡ (λ c. effect d c (s.memory c)) = m.memory ∙ ap (λ a c. effect (deed_of s.memory number a) c (s.memory c)) is in
        let word : LengthIsWord d = long_deed s.frames n f d (λ g q. long n g (ap (λ (t : Frames FrameEnv). t n) frames ∙ q)) in
        let asks = now_words (suc r) f mine in
        record {
          holds = holds;
          cells = λ c. subst (λ (t : Cell → ℤ). IsWord (t c)) (sym memory) (write_word p f.what j s.memory number fit.cells k asks c);
          frames = λ z g q.
              all_after (FrameFits r) s.frames n f d (λ m g q. fewer_steps r g (fit.frames m g q)) (grown_fits r f s.memory number fit.cells numbers going never mine word)
              (λ i v e. child_fits r f.what j k s.memory number fit.cells asks i v (child_is p f.what j s.memory number fit.cells k i v e)) z g (sym (ap (λ (t : Frames FrameEnv). t z) frames) ∙ q);
        }

    -- nothing but pieces changes
    same_fits : (r : ℕ) (s s' : State FrameEnv View) → Fit (suc r) s → HoldsViews s' → s'.frames ≡ s.frames → s'.memory ≡ s.memory → Fit r s'
    same_fits r s s' fit holds frames memory = record {
      holds = holds;
      cells = λ c. subst (λ (t : Cell → ℤ). IsWord (t c)) (sym memory) (fit.cells c);
      frames = λ z g q. fewer_steps r g (fit.frames z g (sym (ap (λ (t : Frames FrameEnv). t z) frames) ∙ q));
    }

    step_fits : (r : ℕ) (s s' : State FrameEnv View) (n : Name) → Fit (suc r) s → OneStep p inputs s n s' → ((m : Name) (g : Frame FrameEnv) → s'.frames m ≡ Some g → LengthsAreWords g.deeds) → Fit r s'
    step_fits r s s' n fit step long =
        let kept = views_kept p inputs in
        let holds : HoldsViews s' = kept.keeps s s' n fit.holds (sound_ask r s n fit) step in
        ⊎_elim
        (λ m. makes_fits r s s' n fit holds m long)
        (λ other. ⊎_elim
        (λ m. same_fits r s s' fit holds m.frames m.memory)
        (λ m. same_fits r s s' fit holds (ap (λ (t : State FrameEnv View). t.frames) m.after) (ap (λ (t : State FrameEnv View). t.memory) m.after))
        other)
        step.1

    opening_fits : (r : ℕ) (s : State FrameEnv View) → IsFirst p inputs s → Fit r s
    opening_fits r s o =
        let kept = views_kept p inputs in
        record {
          holds = kept.opens s o;
          cells = λ c. subst (λ (t : Cell → ℤ). IsWord (t c)) (sym o.1) (opening_cell c);
          frames = opened_frame;
        }
      where
        opening_cell : (c : Cell) → IsWord (opening_values p inputs c)
        opening_cell (runs.Global n) = opening_word p has inputs inputs_words p.openings has.openings n
        opening_cell (runs.Own name n) = zero_word

        opened_frame : (n : Name) (f : Frame FrameEnv) → s.frames n ≡ Some f → FrameFits r f
        opened_frame [] f q =
            let found : Some f ≡ Some (begun (first_env p)) = sym q ∙ o.0 [] in
            let same : f ≡ begun (first_env p) = cc in
            subst (FrameFits r) (sym same) (begun_fits r (first_env p) tt)
        opened_frame (k ∷ n) f q = let none : None ≡ Some f = sym (o.0 (k ∷ n)) ∙ q in absurd (cc)

    -- the bounds of a state
    record Long (s : State FrameEnv View) : Type 0 where
      sized : Sized s.frames s.piece s.stolen (s.totals EventTotal)
      events : s.totals EventTotal ≤ 1000000
      lengths : (n : Name) (f : Frame FrameEnv) → s.frames n ≡ Some f → LengthsAreWords f.deeds

    kids_there : (r : ℕ) (s : State FrameEnv View) (n : Name) (f : Frame FrameEnv) → Fit r s → s.frames n ≡ Some f → (k : ℕ) → 1 ≤ k → k ≤ started f.deeds → (h : Frame FrameEnv) × (s.frames (n ++ k ∷ []) ≡ Some h)
    kids_there r s n f fit q k low high = let v = fit.holds in v.children n f k q low high

    makes_long : (r : ℕ) (s s' : State FrameEnv View) (n : Name) → Fit (suc r) s → Long s → Makes FrameEnv View monoid_of (Next p inputs) (costs p inputs) s n s' → Long s'
    makes_long r s s' n fit l m =
        let f = m.frame in
        let number = numbers_of monoid_of (s.piece n) in
        let j = suc (started f.deeds) in
        let k = asks_now f in
        let (going, is) = next_is f m.ask m.asking.next in
        let never = never_faults f s.totals m.ask is m.within in
        let mine = fit.frames n f m.asking.here in
        let resumes : is_resume m.ask ≡ waiting false f.deeds = ap is_resume is ∙ named_resumes p f.what j s.memory number fit.cells k ∙ resumes_now r f mine going never in
        let count : s'.totals EventTotal ≡ suc (s.totals EventTotal) = (let t = m.totals EventTotal in omega (arith, t)) in
        let once = ask_sized s.frames s.piece s.stolen (s.totals EventTotal) l.sized n f m.asking.here (kids_there (suc r) s n f fit m.asking.here) s.memory number m.ask (sound_ask r s n fit f m.ask m.asking) resumes s'.piece m.piece in
        let moved = subst (λ t. Sized t s'.piece s.stolen (suc (s.totals EventTotal))) (sym m.frames) once in
        let kept = subst (λ t. Sized s'.frames s'.piece t (suc (s.totals EventTotal))) (sym m.stolen) moved in
        let size = l.sized in
        let word : LengthIsWord (deed_of s.memory number m.ask) =
        subst (λ a. LengthIsWord (deed_of s.memory number a)) (sym is)
        (long_ask p f.what j s.memory number fit.cells k (λ i list. number_word i (size.own n) (s.piece n i) (size.small n f i m.asking.here) (let a = size.within n in let b = size.below n in let c = l.events in omega (arith, a, b, c)) list)) in
        record {
          sized = subst (λ t. Sized s'.frames s'.piece s'.stolen t) (sym count) kept;
          events = (let t = events_within (costs p inputs) s.totals f.what f.deeds m.ask m.within in omega (arith, count, t));
          lengths = λ z g q.
              all_after (λ g. LengthsAreWords g.deeds) s.frames n f (deed_of s.memory number m.ask) l.lengths (more_lengths f.deeds (deed_of s.memory number m.ask) (l.lengths n f m.asking.here) word) (λ i v e. tt) z g
              (sym (ap (λ (t : Frames FrameEnv). t z) m.frames) ∙ q);
        }

    steals_long : (r : ℕ) (s s' : State FrameEnv View) (n : Name) → Fit (suc r) s → Long s → Steals FrameEnv View monoid_of (Next p inputs) (costs p inputs) s n s' → Long s'
    steals_long r s s' n fit l m =
        let count : s'.totals EventTotal ≡ s.totals EventTotal = ap (λ (t : Total → ℕ). t EventTotal) m.totals in
        let once = steals_sized s.frames s.piece s.stolen (s.totals EventTotal) l.sized n m.frame m.here (kids_there (suc r) s n m.frame fit m.here) m.before m.what m.spawned m.not_yet s'.piece m.piece in
        let moved = subst (λ t. Sized t s'.piece (stolen_now s.frames s.piece s.stolen (s.totals EventTotal) l.sized n m.frame m.here (kids_there (suc r) s n m.frame fit m.here) m.before m.what m.spawned m.not_yet) (s.totals EventTotal)) (sym m.frames) once in
        let kept = subst (λ t. Sized s'.frames s'.piece t (s.totals EventTotal)) (sym m.stolen) moved in
        record {
          sized = subst (λ t. Sized s'.frames s'.piece s'.stolen t) (sym count) kept;
          events = (let c = l.events in omega (arith, count, c));
          lengths = λ z g q. l.lengths z g (sym (ap (λ (t : Frames FrameEnv). t z) m.frames) ∙ q);
        }

    stops_long : (s s' : State FrameEnv View) (n : Name) → Long s → Stops FrameEnv View monoid_of (Next p inputs) (costs p inputs) s n s' → Long s'
    stops_long s s' n l m = subst Long (sym m.after) (record { sized = l.sized; events = l.events; lengths = l.lengths })

    step_long : (r : ℕ) (s s' : State FrameEnv View) (n : Name) → Fit (suc r) s → Long s → OneStep p inputs s n s' → Long s'
    step_long r s s' n fit l step =
        ⊎_elim (λ m. makes_long r s s' n fit l m) (λ other. ⊎_elim (λ m. steals_long r s s' n fit l m) (λ m. stops_long s s' n l m) other) step.1

    opening_long : (s : State FrameEnv View) → IsFirst p inputs s → Long s
    opening_long s o =
        record {
          sized = record {
            own = λ n. 0;
            total = λ n. 0;
            small = small;
            within = λ n. omega arith;
            below = λ n. omega arith;
            paid = λ n f q. subst (λ d. lies (λ k. s.stolen (n ++ k ∷ [])) (λ k. 0) 0 1 d + onward (λ k. s.stolen (n ++ k ∷ [])) (λ k. 0) 0 0 1 d ≤ 0) (sym (none n f q)) (omega arith);
            fresh = λ n q. o.4 n;
            late = λ n k low. o.0 (n ++ k ∷ []) ∙ cond-false (same_name [] (n ++ k ∷ [])) _ _ (no_root n k);
          };
          events = (let t = o.6 EventTotal in omega (arith, t));
          lengths = λ n f q. subst LengthsAreWords (sym (none n f q)) tt;
        }
      where
        none : (n : Name) (f : Frame FrameEnv) → s.frames n ≡ Some f → f.deeds ≡ []
        none [] f q = let found : Some f ≡ Some (begun (first_env p)) = sym q ∙ o.0 [] in let same : f ≡ begun (first_env p) = cc in ap (λ (g : Frame FrameEnv). g.deeds) same
        none (k ∷ n) f q = let no : None ≡ Some f = sym (o.0 (k ∷ n)) ∙ q in absurd (cc)

        no_root : (n : Name) (k : ℕ) → same_name [] (n ++ k ∷ []) ≡ false
        no_root [] k = refl
        no_root (j ∷ n) k = refl

        small : (n : Name) (f : Frame FrameEnv) (i : Instance) → s.frames n ≡ Some f → Small (kind_of i) 0 (s.piece n i)
        small [] f i q = subst (Small (kind_of i) 0) (sym (o.5 i)) (small_unit (kind_of i) 0)
        small (k ∷ n) f i q = let no : None ≡ Some f = sym (o.0 (k ∷ n)) ∙ q in absurd (cc)

    short_lists : (s : State FrameEnv View) → Long s → HasShortLists s
    short_lists s l = record {
      events = l.events;
      sizes = λ n f i q.
          let size = l.sized in
          let (x, h, low) = size.small n f i q in
          let m = are_multiplied in
          let same : size_of (value_of (kind_of i) (s.piece n i)) ≡ size_of x = ap size_of (m.value (kind_of i) (s.piece n i) x h) in
          let a = size.within n in
          let b = size.below n in
          omega (arith, same, low, a, b);
      lengths = l.lengths;
    }

    all_fit : (todo : List Name) (mid s' : State FrameEnv View) → Fit (length todo) mid → Long mid → Steps FrameEnv View monoid_of (Next p inputs) (costs p inputs) todo mid s' → HoldsViews s' × HasShortLists s'
    all_fit [] mid s' fit l same = subst (λ t. HoldsViews t × HasShortLists t) (sym same) (fit.holds, short_lists mid l)
    all_fit (n ∷ todo) mid s' fit l (next_state, step, rest) =
        let l' = step_long (length todo) mid next_state n fit l step in
        all_fit todo next_state s' (step_fits (length todo) mid next_state n fit step l'.lengths) l' rest

both : (p : Source) (inputs : List ℤ) (has : HasWords p) (inputs_words : InputsAreWords inputs) (ns : List Name) (s' : State FrameEnv View) → Reaches p inputs ns s' → HoldsViews s' × HasShortLists s'
both p inputs has inputs_words ns s' (s, o, steps) = all_fit p inputs has inputs_words ns s s' (opening_fits p inputs has inputs_words (length ns) s o) (opening_long p inputs has inputs_words s o) steps

pub views_held : (p : Source) (inputs : List ℤ) → ViewsAreHeld p inputs
views_held p inputs has inputs_words ns s' reaches = (both p inputs has inputs_words ns s' reaches).0

pub lists_short : (p : Source) (inputs : List ℤ) → ListsAreShort p inputs
lists_short p inputs has inputs_words ns s' reaches = (both p inputs has inputs_words ns s' reaches).1
