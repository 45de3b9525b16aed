-- A program, an input and a script's text show one reply.
--
-- - `steps_once`, `strictly_once`: the steps of a script show one reply;
-- - `texts_once`: so does its text;
-- - `plays_once`: so does the command `play`.
use Rattle.std.proofs.Common.{◌≡◌, ◌⊎◌, ℕ, ℤ, Bool, true, false, List, Option, Some, None, inl, inr, refl, sym, ap, ap₂, ◌∙◌, subst}
use Rattle.std.specs.Prelude.{IsSome}
use Rattle.cilk_types.specs.Fault as faults
use Rattle.cilk_checker.specs.Judging.{Meant}
use Rattle.cilk_parser.proofs.OneScript.{script_is_one}
use Rattle.cilk_parser.specs.declared.script.Step.{Step}
use Rattle.cilk_schedule.proofs.OneEnd.{one_left, one_line, one_stop, left_or_past, left_or_stopped, stopped_or_past}
use Rattle.cilk_schedule.proofs.OneSkip.{skips_are_one}
use Rattle.cilk_schedule.specs.Strict.{IsFirstSkip, IsStrict, SkipsAreOne, tasks_within}
use Rattle.cilk_schedule.specs.declared.unmade.Skip.{Skip}
use Rattle.cilk_parser.specs.declared.script_choices.TheConstants.{MAX_CHOICES}
use Rattle.cilk_commands.specs.Files.{Failures, IsHeld}
use Rattle.cilk_commands.specs.OneReply.{IsOfTexts}
use Rattle.cilk_commands.specs.Replies as replies
use Rattle.cilk_commands.specs.Replies.{Accepted, BadInput, BadProgram, BadScript, BadWords, Certified, Ended, Faulted, FaultedIn, NoMemory, NotEnded, Refused, Reply, Text, Unreadable}
use Rattle.cilk_commands.specs.Shown.{MannerShows, PlayShows, PlayedShow, ScriptFails, StepsShow, StrictlyShow, TextShows}
use Rattle.cilk_messages.specs.declared.words.Manner.{Manner}

some_is : {A : Type 0} (x y : A) → Some x ≡ Some y → x ≡ y
some_is x y e = cc

module _ (workers : ℕ) (steps : List Step) (m : Meant) (inputs : List ℤ) where
  -- a reply to a script's steps is of one of these kinds
  data Kind : Reply → Type 0 where
    ended : (names : List Text) (o : _) → Kind (Ended names o)
    unended : Kind NotEnded
    past : (at : ℕ) → Kind (BadScript at)
    stopped : (number : ℕ) (name : List ℕ) → Kind (FaultedIn number name)

  kind_of : (r : Reply) → IsOfTexts r → StepsShow workers steps m inputs r → Kind r
  kind_of (Ended names o) v h = ended names o
  kind_of NotEnded v h = unended
  kind_of (BadScript at) v h = past at
  kind_of (FaultedIn number name) v h = stopped number name
  kind_of (replies.Unmade skip) v h = absurd h
  kind_of NoMemory v h = absurd v
  kind_of (Unreadable name) v h = absurd v
  kind_of BadWords v h = absurd h
  kind_of (BadProgram n p) v h = absurd h
  kind_of (BadInput n p) v h = absurd h
  kind_of (Faulted n p) v h = absurd h
  kind_of (Certified c) v h = absurd h
  kind_of Accepted v h = absurd h
  kind_of (Refused n ps) v h = absurd h
  kind_of (replies.Settled names o) v h = absurd h
  kind_of (replies.RaceFree n) v h = absurd h
  kind_of (replies.BadTrace n at) v h = absurd h
  kind_of (replies.Changed name) v h = absurd h

  by_kind : (r q : Reply) → Kind r → Kind q → StepsShow workers steps m inputs r → StepsShow workers steps m inputs q → r ≡ q
  by_kind r q (ended names o) (ended names' o') h k = ap₂ Ended (h.0 ∙ sym k.0) (some_is o o' (one_left m.source inputs workers steps (Some o') (Some o) k.1 h.1))
  by_kind r q (ended names o) unended h k = let e : None ≡ Some o = one_left m.source inputs workers steps (Some o) None h.1 k in let f : ⊥ = cc in absurd f
  by_kind r q (ended names o) (past at) h k = absurd (left_or_past m.source inputs workers steps (Some o) at h.1 k)
  by_kind r q (ended names o) (stopped number name) h k = absurd (left_or_stopped m.source inputs workers steps (Some o) k.0 name h.1 k.2)
  by_kind r q unended (ended names o) h k = let e : None ≡ Some o = one_left m.source inputs workers steps (Some o) None k.1 h in let f : ⊥ = cc in absurd f
  by_kind r q unended unended h k = refl
  by_kind r q unended (past at) h k = absurd (left_or_past m.source inputs workers steps None at h k)
  by_kind r q unended (stopped number name) h k = absurd (left_or_stopped m.source inputs workers steps None k.0 name h k.2)
  by_kind r q (past at) (ended names o) h k = absurd (left_or_past m.source inputs workers steps (Some o) at k.1 h)
  by_kind r q (past at) unended h k = absurd (left_or_past m.source inputs workers steps None at k h)
  by_kind r q (past at) (past at') h k = ap BadScript (one_line m.source inputs workers steps at' at k h)
  by_kind r q (past at) (stopped number name) h k = absurd (stopped_or_past m.source inputs workers steps k.0 name at k.2 h)
  by_kind r q (stopped number name) (ended names o) h k = absurd (left_or_stopped m.source inputs workers steps (Some o) h.0 name k.1 h.2)
  by_kind r q (stopped number name) unended h k = absurd (left_or_stopped m.source inputs workers steps None h.0 name k h.2)
  by_kind r q (stopped number name) (past at) h k = absurd (stopped_or_past m.source inputs workers steps h.0 name at h.2 k)
  by_kind r q (stopped number name) (stopped number' name') h k =
      let e = one_stop m.source inputs workers steps k.0 h.0 name' name k.2 h.2 in
      ap₂ FaultedIn (h.1 ∙ ap faults.number_of e.0 ∙ sym k.1) e.1

  steps_once : (r q : Reply) → IsOfTexts r → IsOfTexts q → StepsShow workers steps m inputs r → StepsShow workers steps m inputs q → r ≡ q
  steps_once r q v u h k = by_kind r q (kind_of r v h) (kind_of q u k) h k

  -- a reply to strict playing: the first choice that can't be made, or the reply to the steps
  abbrev Strict : Reply → Type 0
  Strict r = ((skip : Skip) × (r ≡ replies.Unmade skip) × IsFirstSkip m.source inputs workers (tasks_within MAX_CHOICES steps) skip)
      ⊎ (StepsShow workers steps m inputs r × IsStrict m.source inputs workers steps)

  strict_of : (r : Reply) → IsOfTexts r → StrictlyShow workers steps m inputs r → Strict r
  strict_of (replies.Unmade skip) v h = inl (skip, refl, h)
  strict_of NoMemory v h = absurd v
  strict_of _ v h = inr h

  strict_by : (r q : Reply) → IsOfTexts r → IsOfTexts q → Strict r → Strict q → r ≡ q
  strict_by r q v u (inl h) (inl k) = h.1 ∙ ap replies.Unmade (skips.one workers (tasks_within MAX_CHOICES steps) k.0 h.0 k.2 h.2) ∙ sym k.1
    where
      skips : SkipsAreOne m.source inputs
      skips = skips_are_one m.source inputs
  strict_by r q v u (inl h) (inr k) = absurd ((skips_are_one m.source inputs).apart workers (tasks_within MAX_CHOICES steps) h.0 h.2 k.1)
  strict_by r q v u (inr h) (inl k) = absurd ((skips_are_one m.source inputs).apart workers (tasks_within MAX_CHOICES steps) k.0 k.2 h.1)
  strict_by r q v u (inr h) (inr k) = steps_once r q v u h.0 k.0

  played_once : (is_strict : Bool) (r q : Reply) → IsOfTexts r → IsOfTexts q → PlayedShow is_strict workers steps m inputs r → PlayedShow is_strict workers steps m inputs q → r ≡ q
  played_once true r q v u h k = strict_by r q v u (strict_of r v h) (strict_of q u k)
  played_once false r q v u h k = steps_once r q v u h k

-- the line at which a text is no script
fails_at : (text : Text) (r : Reply) → IsOfTexts r → ScriptFails text r → (at : ℕ) × (r ≡ BadScript at) × ScriptFails text (BadScript at)
fails_at text (BadScript at) v h = (at, refl, h)
fails_at text (replies.Unmade skip) v h = absurd h
fails_at text NoMemory v h = absurd v
fails_at text (Unreadable name) v h = absurd v
fails_at text BadWords v h = absurd h
fails_at text (BadProgram n p) v h = absurd h
fails_at text (BadInput n p) v h = absurd h
fails_at text (Faulted n p) v h = absurd h
fails_at text (FaultedIn n name) v h = absurd h
fails_at text (Ended names o) v h = absurd h
fails_at text (Certified c) v h = absurd h
fails_at text Accepted v h = absurd h
fails_at text (Refused n ps) v h = absurd h
fails_at text NotEnded v h = absurd h
fails_at text (replies.Settled names o) v h = absurd h
fails_at text (replies.RaceFree n) v h = absurd h
fails_at text (replies.BadTrace n at) v h = absurd h
fails_at text (replies.Changed name) v h = absurd h

texts_once : (manner : Manner) (text : Text) (m : Meant) (inputs : List ℤ) (r q : Reply) → IsOfTexts r → IsOfTexts q → TextShows manner text m inputs r → TextShows manner text m inputs q → r ≡ q
texts_once manner text m inputs r q v u (inl h) (inl k) =
    let a = fails_at text r v h in
    let b = fails_at text q u k in
    a.1 ∙ ap BadScript (script_is_one.lines text b.0 a.0 b.2 a.2) ∙ sym b.1
texts_once manner text m inputs r q v u (inl h) (inr (steps, is, k)) = let a = fails_at text r v h in absurd (script_is_one.apart text steps a.0 is a.2)
texts_once manner text m inputs r q v u (inr (steps, is, h)) (inl k) = let a = fails_at text q u k in absurd (script_is_one.apart text steps a.0 is a.2)
texts_once manner text m inputs r q v u (inr (steps, is, h)) (inr (steps', is', k)) =
    played_once manner.workers steps' m inputs manner.is_strict r q v u (subst (λ z. MannerShows manner z m inputs r) (sym (script_is_one.steps text steps steps' is is')) h) k

-- the text of a reply that is one of texts
text_of : (path : Text) (known : Option Text) (failed failed' : Failures) (manner : Manner) (m : Meant) (inputs : List ℤ) (r : Reply) → IsOfTexts r → PlayShows path known failed failed' manner m inputs r
    → (text : Text) × IsHeld known text × TextShows manner text m inputs r
text_of path known failed failed' manner m inputs (Unreadable name) v h = absurd v
text_of path known failed failed' manner m inputs NoMemory v h = absurd v
text_of path known failed failed' manner m inputs BadWords v h = h.1
text_of path known failed failed' manner m inputs (BadProgram n p) v h = h.1
text_of path known failed failed' manner m inputs (BadInput n p) v h = h.1
text_of path known failed failed' manner m inputs (Faulted n p) v h = h.1
text_of path known failed failed' manner m inputs (FaultedIn n name) v h = h.1
text_of path known failed failed' manner m inputs (BadScript at) v h = h.1
text_of path known failed failed' manner m inputs (replies.Unmade skip) v h = h.1
text_of path known failed failed' manner m inputs (Ended names o) v h = h.1
text_of path known failed failed' manner m inputs (Certified c) v h = h.1
text_of path known failed failed' manner m inputs Accepted v h = h.1
text_of path known failed failed' manner m inputs (Refused n ps) v h = h.1
text_of path known failed failed' manner m inputs NotEnded v h = h.1
text_of path known failed failed' manner m inputs (replies.Settled names o) v h = h.1
text_of path known failed failed' manner m inputs (replies.RaceFree n) v h = h.1
text_of path known failed failed' manner m inputs (replies.BadTrace n at) v h = h.1
text_of path known failed failed' manner m inputs (replies.Changed name) v h = h.1

one_text : (known : Option Text) (x y : Text) → IsSome known → IsHeld known x → IsHeld known y → y ≡ x
one_text None x y there h k = cc
one_text (Some all) x y there h k = k ∙ sym h

pub plays_once : (path : Text) (known : Option Text) (failed failed' : Failures) (manner : Manner) (m : Meant) (inputs : List ℤ) → IsSome known → (r q : Reply) → IsOfTexts r → IsOfTexts q
    → PlayShows path known failed failed' manner m inputs r → PlayShows path known failed failed' manner m inputs q → r ≡ q
plays_once path known failed failed' manner m inputs there r q v u h k =
    let a = text_of path known failed failed' manner m inputs r v h in
    let b = text_of path known failed failed' manner m inputs q u k in
    texts_once manner b.0 m inputs r q v u (subst (λ z. TextShows manner z m inputs r) (sym (one_text known a.0 b.0 there a.1 b.1)) a.2) b.2
