-- Events, the plan's deeds and requests of one kind.
--
-- - `IsOfKind`, `made`: the plan's deed of an event;
-- - `goes_on`: after an event that is answered, its frame continues;
-- - `IsAskFor`, `ask_for`: the requests that make an event;
-- - `Fitting`, `fitting`: an answer to an event is owed to its request.
use Rattle.std.proofs.Common.{◌≡◌, ℕ, ℤ, pos, List, Option, Some, None, refl, sym, ap, ◌∙◌, subst}
use Rattle.std.specs.Option.{option_map}
use Rattle.cilk_types.specs.declared.event.Event.{Event}
use Rattle.cilk_types.specs.declared.event.Event.TheVariants as events
use Rattle.cilk_types.specs.declared.event.Instance as numbered
use Rattle.cilk_types.specs.declared.invocation.Invocation.TheVariants.{Call, Spawn}
use Rattle.cilk_program.specs.declared.ask.Ask.{Ask}
use Rattle.cilk_program.specs.declared.ask.Ask.TheVariants as asks
use Rattle.cilk_program.specs.declared.ask.Callee.{Callee}
use Rattle.cilk_program.specs.SerialRun.{Transcript}
use Rattle.cilk_program.specs.Syntax.{Source}
use Rattle.cilk_lower.specs.declared.code.Owed.{Owed}
use Rattle.cilk_lower.specs.declared.code.Owed.TheVariants.{Nothing, Word}
use Rattle.cilk_frames.specs.declared.cursor.Answer.{Answer}
use Rattle.cilk_frames.specs.declared.cursor.Answer.TheVariants.{Done, Value}
use Rattle.cilk_frames.specs.Following.{Fits, HasAnswer, owed_for, word_in}
use Rattle.cilk_tree.specs.declared.kind.Kind.{Kind}
use Rattle.cilk_tree.specs.declared.kind.Kind.TheVariants as kinds
use Rattle.cilk_tree.specs.Kinds.{kind_of}
use Rattle.cilk_determinacy.specs.Runs.{Cell, Instance, Reads, Writes, Syncs, Ends, Passes, Begins, Resumes, Creates, Updates, Sets, Values, Prints, Deed, Does, Invokes}
use Rattle.cilk_determinacy.specs.Runs as runs
use Rattle.cilk_determinacy.specs.Traces.{IsWritten}
use Rattle.cilk_determinacy.specs.FrameEnvs.{FrameEnv}
use Rattle.cilk_replay.specs.Points.{Continues, IsEventOf, answer_in}
use Rattle.cilk_replay.specs.Asking.{IsAnswerTo, IsDone, Gives}

pub some_inner : {A : Type 0} (x y : A) → Some x ≡ Some y → x ≡ y
some_inner x y h = cc

-- ---- the plan's deed

abbrev pub GoesOn : Deed FrameEnv → Type 0
GoesOn d = (v : runs.Event) × (d ≡ Does v) × Continues v

abbrev pub IsOfKind : Kind → Deed FrameEnv → Type 0
IsOfKind (kinds.Begin f) d = GoesOn d
IsOfKind (kinds.Spawn f) d = (w : FrameEnv) × (d ≡ Invokes Spawn w)
IsOfKind (kinds.Call f) d = (w : FrameEnv) × (d ≡ Invokes Call w)
IsOfKind (kinds.Resume f) d = GoesOn d
IsOfKind kinds.Sync d = GoesOn d
IsOfKind kinds.End d = (v : ℤ) × (gone : List Instance) × (d ≡ Does (Ends v gone))
IsOfKind (kinds.Read c) d = GoesOn d
IsOfKind (kinds.Write c) d = GoesOn d
IsOfKind (kinds.Create i) d = GoesOn d
IsOfKind (kinds.Update i) d = GoesOn d
IsOfKind (kinds.Set i) d = GoesOn d
IsOfKind (kinds.Value i) d = GoesOn d
IsOfKind kinds.Print d = GoesOn d

module _ (cell : Cell → ℕ) (instance : Instance → numbered.Instance) where
  kind_by : (d : Deed FrameEnv) (e e' : Event) → e ≡ e' → IsOfKind (kind_of e') d → IsOfKind (kind_of e) d
  kind_by d e e' q h = subst (λ (z : Event). IsOfKind (kind_of z) d) (sym q) h

  pub made : (d : Deed FrameEnv) (e : Event) → IsWritten cell instance d e → IsOfKind (kind_of e) d
  made (Does (Reads c v)) e h = kind_by _ e _ h (Reads c v, refl, tt)
  made (Does (Writes c v)) e h = kind_by _ e _ h (Writes c v, refl, tt)
  made (Does Syncs) e h = kind_by _ e _ h (Syncs, refl, tt)
  made (Does (Ends v gone)) e h = kind_by _ e _ h (v, gone, refl)
  made (Does (Passes Begins)) e h = kind_by _ e _ h.1 (Passes Begins, refl, tt)
  made (Does (Passes Resumes)) e h = kind_by _ e _ h.1 (Passes Resumes, refl, tt)
  made (Does (Passes (Creates i))) e h = kind_by _ e _ h (Passes (Creates i), refl, tt)
  made (Does (Passes (Updates i x))) e h = kind_by _ e _ h (Passes (Updates i x), refl, tt)
  made (Does (Passes (Sets i x))) e h = kind_by _ e _ h (Passes (Sets i x), refl, tt)
  made (Does (Passes (Values i x))) e h = kind_by _ e _ h (Passes (Values i x), refl, tt)
  made (Does (Passes (Prints x))) e h = kind_by _ e _ h (Passes (Prints x), refl, tt)
  made (Invokes Call w) e h = kind_by _ e _ h.1 (w, refl)
  made (Invokes Spawn w) e h = kind_by _ e _ h.1 (w, refl)

pub goes_on : (e : Event) (a : Answer) (d : Deed FrameEnv) → IsAnswerTo e a → IsOfKind (kind_of e) d → GoesOn d
goes_on (events.Begin f) a d h k = k
goes_on (events.Spawn f) a d h k = absurd h
goes_on (events.Call f) a d h k = absurd h
goes_on (events.Resume f) a d h k = k
goes_on events.Sync a d h k = k
goes_on events.End a d h k = absurd h
goes_on (events.Read c v) a d h k = k
goes_on (events.Write c v) a d h k = k
goes_on (events.Create i) a d h k = k
goes_on (events.Update i v) a d h k = k
goes_on (events.Set i v) a d h k = k
goes_on (events.Value i v) a d h k = k
goes_on (events.Print v) a d h k = k

-- an event of a kind among some
pub kind_there : (o : Option Event) (k : Kind) → option_map kind_of o ≡ Some k → (e : Event) × (o ≡ Some e) × (kind_of e ≡ k)
kind_there None k q = absurd (cc q)
kind_there (Some e) k q = (e, refl, some_inner (kind_of e) k q)

-- ---- the request

abbrev pub IsAskFor : Event → Ask → Type 0
IsAskFor (events.Begin f) k = Unit {0}
IsAskFor (events.Spawn f) k = (callee : Callee) × (k ≡ asks.Invoke Spawn callee)
IsAskFor (events.Call f) k = (callee : Callee) × (k ≡ asks.Invoke Call callee)
IsAskFor (events.Resume f) k = Unit {0}
IsAskFor events.Sync k = Unit {0}
IsAskFor events.End k = Unit {0}
IsAskFor (events.Read c v) k = Unit {0}
IsAskFor (events.Write c v) k = Unit {0}
IsAskFor (events.Create i) k = Unit {0}
IsAskFor (events.Update i v) k = Unit {0}
IsAskFor (events.Set i v) k = Unit {0}
IsAskFor (events.Value i v) k = Unit {0}
IsAskFor (events.Print v) k = Unit {0}

-- an answer that is owed to its request
pub record Fitting (k : Ask) (e : Event) (a : Answer) : Type 0 where
  pub has : HasAnswer k
  pub fits : Fits (owed_for k) a
  pub word : word_in a ≡ answer_in e

done : (k : Ask) (e : Event) (a : Answer) → HasAnswer k → owed_for k ≡ Nothing → answer_in e ≡ pos 0 → IsDone a → Fitting k e a
done k e Done has owed nought d = record { has = has; fits = subst (λ (o : Owed). Fits o Done) (sym owed) tt; word = sym nought }
done k e (Value v) has owed nought d = absurd d

valued : (k : Ask) (e : Event) (a : Answer) (v : ℤ) → HasAnswer k → owed_for k ≡ Word → answer_in e ≡ v → Gives v a → Fitting k e a
valued k e Done v has owed is g = absurd g
valued k e (Value w) v has owed is g = record { has = has; fits = subst (λ (o : Owed). Fits o (Value w)) (sym owed) tt; word = g ∙ sym is }

module _ (p : Source) (r : Transcript) (w : FrameEnv) where
  ask_by : (k : Ask) (e e' : Event) → e ≡ e' → IsAskFor e' k → IsAskFor e k
  ask_by k e e' q h = subst (λ (z : Event). IsAskFor z k) (sym q) h

  pub ask_for : (k : Ask) (e : Event) → IsEventOf p r w k e → IsAskFor e k
  ask_for asks.Begin e h = ask_by _ e _ h.1 tt
  ask_for (asks.Read x) e h = ask_by _ e _ h.1 tt
  ask_for (asks.Write x v) e h = ask_by _ e _ h tt
  ask_for (asks.Create q) e h = ask_by _ e _ h tt
  ask_for (asks.Update q v) e h = ask_by _ e _ h tt
  ask_for (asks.Set q v) e h = ask_by _ e _ h tt
  ask_for (asks.Value q) e h = ask_by _ e _ h.1 tt
  ask_for (asks.Print v) e h = ask_by _ e _ h tt
  ask_for (asks.Invoke Call callee) e h = ask_by _ e _ h.1 (callee, refl)
  ask_for (asks.Invoke Spawn callee) e h = ask_by _ e _ h.1 (callee, refl)
  ask_for asks.Resume e h = ask_by _ e _ h.1 tt
  ask_for asks.Sync e h = ask_by _ e _ h tt
  ask_for (asks.Result v) e h = ask_by _ e _ h tt
  ask_for (asks.End v) e h = ask_by _ e _ h tt
  ask_for (asks.Fault f) e h = absurd h

  answer_by : (e e' : Event) (a : Answer) → e ≡ e' → IsAnswerTo e a → IsAnswerTo e' a
  answer_by e e' a q h = subst (λ (z : Event). IsAnswerTo z a) q h

  pub fitting : (k : Ask) (e : Event) (a : Answer) → IsEventOf p r w k e → IsAnswerTo e a → Fitting k e a
  fitting asks.Begin e a h d = done asks.Begin e a tt refl (ap answer_in h.1) (answer_by e _ a h.1 d)
  fitting (asks.Read x) e a h d = valued (asks.Read x) e a h.0 tt refl (ap answer_in h.1) (answer_by e _ a h.1 d)
  fitting (asks.Write x v) e a h d = done (asks.Write x v) e a tt refl (ap answer_in h) (answer_by e _ a h d)
  fitting (asks.Create q) e a h d = done (asks.Create q) e a tt refl (ap answer_in h) (answer_by e _ a h d)
  fitting (asks.Update q v) e a h d = done (asks.Update q v) e a tt refl (ap answer_in h) (answer_by e _ a h d)
  fitting (asks.Set q v) e a h d = done (asks.Set q v) e a tt refl (ap answer_in h) (answer_by e _ a h d)
  fitting (asks.Value q) e a h d = valued (asks.Value q) e a h.0 tt refl (ap answer_in h.1) (answer_by e _ a h.1 d)
  fitting (asks.Print v) e a h d = done (asks.Print v) e a tt refl (ap answer_in h) (answer_by e _ a h d)
  fitting (asks.Invoke Call callee) e a h d = absurd (answer_by e _ a h.1 d)
  fitting (asks.Invoke Spawn callee) e a h d = absurd (answer_by e _ a h.1 d)
  fitting asks.Resume e a h d = done asks.Resume e a tt refl (ap answer_in h.1) (answer_by e _ a h.1 d)
  fitting asks.Sync e a h d = done asks.Sync e a tt refl (ap answer_in h) (answer_by e _ a h d)
  fitting (asks.Result v) e a h d = done (asks.Result v) e a tt refl (ap answer_in h) (answer_by e _ a h d)
  fitting (asks.End v) e a h d = absurd (answer_by e _ a h d)
  fitting (asks.Fault f) e a h d = absurd h
